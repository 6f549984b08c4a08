-- Where the bytes of a name stand: in the record of the last change that brings them.
use Rattle.std.proofs.Common.{◌≡◌, ◌⊎◌, inl, inr, ℕ, suc, ◌+◌, ◌<◌, Bool, true, cond, List, [], ◌∷◌, ◌++◌, length, slice_get, is_some, Option, Some, None, IfSome, refl, sym, ◌∙◌, ap, subst, arith}
use Rattle.std.proofs.lemmas.Bool.{false≢true}
use Rattle.psb_station.proofs.Spans.{same_some, at_some}
use Rattle.node_journal.specs.Entry.{Entry, entry}
use Rattle.psb_model.specs.Heads.{body_of}
use Rattle.psb_model.specs.Needed.{brings_name, last_bringing, last_brought}
use Rattle.psb_model.specs.declared.change.Change.{Change}
use Rattle.psb_model.specs.declared.change.Change.TheVariants.{Kept, TookFresh, TookSwap}
use Rattle.psb_model.proofs.ByObject.{by_cases}
use Rattle.std.proofs.lemmas.Option.{slice_get-get_or}
use Rattle.change_codec.specs.Records.{IsRecord}
use Rattle.slot_places.proofs.Grown.{place_snoc}
use Rattle.node_history.specs.Stands.{AreDecoded}
use Rattle.chunk_store.specs.declared.store.Store.{Store}
use Rattle.chunk_store.specs.Store.{record_of}
use Rattle.node_history.specs.Names.{brought_from, KnowsNames, AreThere}

-- ---- one change more

pub brought_snoc : (n : ℕ) (name : List ℕ) (h : List Change) (c : Change) → brought_from n name (h ++ c ∷ []) ≡ cond (brings_name name c) (Some (n + length h)) (brought_from n name h)
brought_snoc n name h c = place_snoc n (brings_name name) h c

-- ---- the record of a body

abbrev pub or_here : Option ℕ → Bool → ℕ → Option ℕ
or_here later brings n = elim later [ Some k ↦ Some k | None ↦ cond brings (Some n) None ]

-- no change brings the bytes of the name; or the last that does has this record
abbrev NoneBrings : ℕ → List ℕ → List Change → Type 0
NoneBrings n name h = (brought_from n name h ≡ None) × (last_bringing name h ≡ None)

record IsBrought (n : ℕ) (name : List ℕ) (h : List Change) (es : List Entry) : Type 0 where
  j : ℕ
  e : Entry
  c : Change
  place : brought_from n name h ≡ Some (n + j)
  inside : j < length h
  there : slice_get es j ≡ Some e
  last : last_bringing name h ≡ Some c
  body : e.body ≡ body_of c

-- a change that brings some bytes has a body part
brings_body : (c : Change) (name head : List ℕ) (body : Option (List ℕ)) → brings_name name c ≡ true → IsRecord c head body → body ≡ body_of c
brings_body (Kept x) name head body is r = r.body_is
brings_body (TookFresh x) name head body is r = r.body_is
brings_body (TookSwap x) name head body is r = r.body_is
brings_body _ name head body is r = absurd (false≢true is)

abbrev pub or_this : Option Change → Bool → Change → Option Change
or_this later brings c = elim later [ Some d ↦ Some d | None ↦ cond brings (Some c) None ]

brought : (n : ℕ) (name : List ℕ) (h : List Change) (es : List Entry) → AreDecoded h es → NoneBrings n name h ⊎ IsBrought n name h es
brought n name [] es are = inl (refl, refl)
brought n name (c ∷ h) [] are = absurd are
brought n name (c ∷ h) (e ∷ es) are = here (brought (n + 1) name h es are.1)
  where
    here : NoneBrings (n + 1) name h ⊎ IsBrought (n + 1) name h es → NoneBrings n name (c ∷ h) ⊎ IsBrought n name (c ∷ h) (e ∷ es)
    here (inl none) = by_cases (brings_name name c)
        (λ k. inr (record {
          j = 0;
          e = e;
          c = c;
          place = ap (λ (o : Option ℕ). or_here o (brings_name name c) n) none.0 ∙ ap (λ (b : Bool). cond b (Some n) None) k ∙ ap (λ (i : ℕ). Some i) (omega arith);
          inside = omega arith;
          there = refl;
          last = ap (λ (o : Option Change). or_this o (brings_name name c) c) none.1 ∙ ap (λ (b : Bool). cond b (Some c) None) k;
          body = brings_body c name e.head e.body k are.0;
        }))
        (λ k. inl (
          ap (λ (o : Option ℕ). or_here o (brings_name name c) n) none.0 ∙ ap (λ (b : Bool). cond b (Some n) None) k,
          ap (λ (o : Option Change). or_this o (brings_name name c) c) none.1 ∙ ap (λ (b : Bool). cond b (Some c) None) k,
        ))
    here (inr b) = inr (record {
      j = suc b.j;
      e = b.e;
      c = b.c;
      place = ap (λ (o : Option ℕ). or_here o (brings_name name c) n) b.place ∙ ap (λ (i : ℕ). Some i) (omega arith);
      inside = omega (arith, b.inside);
      there = b.there;
      last = ap (λ (o : Option Change). or_this o (brings_name name c) c) b.last;
      body = b.body;
    })

-- ---- the body of a name's record

abbrev pub bytes_of : Option Change → Option (List ℕ)
bytes_of o = elim o [ Some c ↦ body_of c | None ↦ None ]

-- the record of a name has the bytes that were brought last
pub held_body : (names : Store) (h : List Change) (es : List Entry) (name : List ℕ) (k : ℕ) → KnowsNames names h → AreDecoded h es → record_of names name ≡ Some k → IfSome (slice_get es k) (λ e. e.body ≡ last_brought name h)
held_body names h es name k knows are is = by_place (brought 0 name h es are)
  where
    by_place : NoneBrings 0 name h ⊎ IsBrought 0 name h es → IfSome (slice_get es k) (λ e. e.body ≡ last_brought name h)
    by_place (inl n) = absurd (let clash : Some k ≡ None = sym (knows.records name k is) ∙ n.0 in cc)
    by_place (inr i) =
        let same : k ≡ 0 + i.j = same_some (brought_from 0 name h) k (0 + i.j) (knows.records name k is) i.place in
        let there : slice_get es k ≡ Some i.e = ap (λ (m : ℕ). slice_get es m) (same ∙ omega arith) ∙ i.there in
        subst (λ (o : Option Entry). IfSome o (λ e. e.body ≡ last_brought name h)) (sym there) (i.body ∙ sym (ap bytes_of i.last))

-- a body that was read is that of the name's last change
pub read_exact : (names : Store) (h : List Change) (es : List Entry) (name bytes : List ℕ) (size : ℕ) → {keeps : ℕ → Bool} → KnowsNames names h → AreDecoded h es → (record_of names name ≡ None → ⊥) → AreThere names size keeps → size ≡ length es
    → IfSome (record_of names name) (λ k. IfSome (slice_get es k) (λ e. e.body ≡ Some bytes)) → last_brought name h ≡ Some bytes
read_exact names h es name bytes size knows are some there long read = by_record (record_of names name) refl
  where
    at : (o : Option Entry) → is_some o ≡ true → IfSome o (λ e. e.body ≡ last_brought name h) → IfSome o (λ e. e.body ≡ Some bytes) → last_brought name h ≡ Some bytes
    at None t body is = absurd (false≢true t)
    at (Some e) t body is = sym body ∙ is

    by_record : (o : Option ℕ) → record_of names name ≡ o → last_brought name h ≡ Some bytes
    by_record None is = absurd (some is)
    by_record (Some k) is =
        let inside : k < length es = omega (arith, (there name k is).0, long) in
        at (slice_get es k) (ap is_some (slice_get-get_or es k (entry [] []) inside)) (held_body names h es name k knows are is) (at_some (record_of names name) (λ i. IfSome (slice_get es i) (λ e. e.body ≡ Some bytes)) k read is)
