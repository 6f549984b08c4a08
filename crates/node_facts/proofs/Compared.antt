-- What is said of bytes that were compared with those of a name's record.
use Rattle.std.proofs.Common.{◌≡◌, ◌≢◌, ◌↔◌, Result, Ok, Err, ℕ, ◌<◌, Bool, true, false, not, ◌&&◌, List, [], length, slice_get, is_some, Option, Some, None, IfSome, refl, sym, ◌∙◌, ap, subst, arith}
use Rattle.std.proofs.lemmas.Bool.{false≢true}
use Rattle.psb_station.proofs.Spans.{at_some}
use Rattle.node_journal.specs.Entry.{Entry, entry}
use Rattle.psb_model.specs.Needed.{last_brought, IsValid}
use Rattle.psb_model.specs.State.{State, is_held}
use Rattle.psb_model.specs.History.{state}
use Rattle.psb_model.specs.declared.change.Change.{Change}
use Rattle.psb_model.specs.Words.{name_eq}
use Rattle.psb_model.proofs.ByObject.{by_cases}
use Rattle.psb_model.proofs.Own.{name_same, name_refl}
use Rattle.std.proofs.lemmas.Option.{slice_get-get_or}
use Rattle.psb_machine.specs.Deals.{are_others, meets_others}
use Rattle.node_history.specs.Stands.{AreDecoded}
use Rattle.chunk_store.specs.declared.store.Store.{Store}
use Rattle.chunk_store.specs.Store.{record_of}
use Rattle.chunk_store.specs.Looks.{Compares}
use Rattle.chunk_store.specs.declared.reading.Fit.{Fit}
use Rattle.chunk_store.specs.declared.reading.Fit.TheVariants.{New, Shared}
use Rattle.chunk_store.specs.declared.error.StoreError.{StoreError}
use Rattle.chunk_store.specs.declared.error.StoreError.TheVariants.{Already, Clash, Altered, DiskFault, Memory}
use Rattle.psb_digest.specs.Hashes.{sha}
use Rattle.psb_digest.specs.Clashes.{Clashes}
use Rattle.node_history.specs.Less.{IsLess}
use Rattle.node_history.specs.Names.{KnowsNames}
use Rattle.node_history.proofs.Brought.{held_body}
use Rattle.node_history.proofs.Less.{less_same}

pub none_held : (h : List Change) (name bytes : List ℕ) → is_held (state h) name ≡ false → false ≡ meets_others h name bytes
none_held h name bytes is = rw is refl

-- so what is said of it is said of these
pub names_others : (names : Store) (h : List Change) (es : List Entry) (name bytes : List ℕ) (k : ℕ) (r : Bool) → KnowsNames names h → AreDecoded h es → k < length es → record_of names name ≡ Some k
    → IfSome (slice_get es k) (λ e. r ≡ are_others e.body bytes) → r ≡ meets_others h name bytes
names_others names h es name bytes k r knows are inside is others =
    at (slice_get es k) (ap is_some (slice_get-get_or es k (entry [] []) inside)) (held_body names h es name k knows are is) others
  where
    held : is_held (state h) name ≡ true
    held = sym (knows.held name) ∙ ap is_some is

    at : (o : Option Entry) → is_some o ≡ true → IfSome o (λ e. e.body ≡ last_brought name h) → IfSome o (λ e. r ≡ are_others e.body bytes) → r ≡ meets_others h name bytes
    at None there body is = absurd (false≢true there)
    at (Some e) there body is =
        is
        ∙ ap (λ (b : Option (List ℕ)). are_others b bytes) body
        ∙ ap (λ (b : Bool). b && are_others (last_brought name h) bytes) (sym held)

pub compared_same : (o : Option Entry) (bytes : List ℕ) → IfSome o (λ e. is_some e.body ≡ true) → IfSome o (λ e. IfSome e.body (λ held. held ≡ bytes)) → IfSome o (λ e. false ≡ are_others e.body bytes)
compared_same None bytes there is = tt
compared_same (Some e) bytes there is = at e.body there is
  where
    at : (b : Option (List ℕ)) → is_some b ≡ true → IfSome b (λ held. held ≡ bytes) → false ≡ are_others b bytes
    at None t is = absurd (false≢true t)
    at (Some held) t is = sym (ap not (ap (λ (l : List ℕ). name_eq l bytes) is ∙ name_refl bytes))

pub compared_other : (o : Option Entry) (bytes : List ℕ) → IfSome o (λ e. is_some e.body ≡ true) → IfSome o (λ e. IfSome e.body (λ held. held ≡ bytes → ⊥)) → IfSome o (λ e. true ≡ are_others e.body bytes)
compared_other None bytes there is = tt
compared_other (Some e) bytes there is = at e.body there is
  where
    at : (b : Option (List ℕ)) → is_some b ≡ true → IfSome b (λ held. held ≡ bytes → ⊥) → true ≡ are_others b bytes
    at None t is = absurd (false≢true t)
    at (Some held) t is = by_cases (name_eq held bytes) (λ k. absurd (is (name_same held bytes k))) (λ k. sym (ap not k))

-- ---- a body that was looked up

-- what the answer says of whether other bytes are held
abbrev pub MeetsBy : Result Fit StoreError → Bool → Type 0
MeetsBy (Ok fit) b = false ≡ b
MeetsBy (Err Already) b = Unit {0}
MeetsBy (Err (Clash c)) b = true ≡ b
MeetsBy (Err Altered) b = true ≡ b
MeetsBy (Err DiskFault) b = Unit {0}
MeetsBy (Err Memory) b = Unit {0}

-- the body of the name's record was compared
abbrev WasCompared : Option ℕ → List Entry → List ℕ → Result Fit StoreError → Type 0
WasCompared place es bytes result = IfSome place (λ k. IfSome (slice_get es k) (λ e. IfSome e.body (λ held. Compares held bytes result)))

weaker : (o : Option Entry) (P Q : List ℕ → Type 0) → ((l : List ℕ) → P l → Q l) → IfSome o (λ e. IfSome e.body P) → IfSome o (λ e. IfSome e.body Q)
weaker None P Q f h = tt
weaker (Some e) P Q f h = at e.body h
  where
    at : (b : Option (List ℕ)) → IfSome b P → IfSome b Q
    at None h = tt
    at (Some l) h = f l h

body_there : (o : Option Entry) (keeps : Bool) → keeps ≡ true → IfSome o (λ e. is_some e.body ≡ keeps) → IfSome o (λ e. is_some e.body ≡ true)
body_there None keeps is h = tt
body_there (Some e) keeps is h = h ∙ is

pub look_exact : (names : Store) (h : List Change) (es : List Entry) (name bytes : List ℕ) (size : ℕ) (keeps : ℕ → Bool) (result : Result Fit StoreError) → KnowsNames names h → AreDecoded h es → IfSome (record_of names name) (λ k. k < size) → IfSome (record_of names name) (λ k. keeps k ≡ true) → size ≡ length es
    → ((k : ℕ) → IfSome (slice_get es k) (λ e. is_some e.body ≡ keeps k)) → (result ≡ Ok New) ↔ (record_of names name ≡ None) → WasCompared (record_of names name) es bytes result → MeetsBy result (meets_others h name bytes)
look_exact names h es name bytes size keeps result knows are below there long bodies new compared =
    by_record (record_of names name) refl result (subst (λ (o : Option ℕ). IfSome o (λ k. k < size)) refl below) there new compared
  where
    other : (k : ℕ) → record_of names name ≡ Some k → k < size → keeps k ≡ true → IfSome (slice_get es k) (λ e. IfSome e.body (λ held. held ≡ bytes → ⊥)) → true ≡ meets_others h name bytes
    other k is inside kept differ = names_others names h es name bytes k true knows are (omega (arith, inside, long)) is (compared_other (slice_get es k) bytes (body_there (slice_get es k) (keeps k) kept (bodies k)) differ)

    by_answer : (r : Result Fit StoreError) (k : ℕ) → record_of names name ≡ Some k → k < size → keeps k ≡ true → (r ≡ Ok New → record_of names name ≡ None) → IfSome (slice_get es k) (λ e. IfSome e.body (λ held. Compares held bytes r)) → MeetsBy r (meets_others h name bytes)
    by_answer (Ok New) k is inside kept none was = absurd (let clash : Some k ≡ None = sym is ∙ none refl in cc)
    by_answer (Ok Shared) k is inside kept none was = names_others names h es name bytes k false knows are (omega (arith, inside, long)) is (compared_same (slice_get es k) bytes (body_there (slice_get es k) (keeps k) kept (bodies k)) was)
    by_answer (Err Already) k is inside kept none was = tt
    by_answer (Err (Clash c)) k is inside kept none was = other k is inside kept (weaker (slice_get es k) (λ held. (c ≡ record { first = held; second = bytes }) × Clashes held bytes) (λ held. held ≡ bytes → ⊥) (λ l both. both.1.0) was)
    by_answer (Err Altered) k is inside kept none was = other k is inside kept (weaker (slice_get es k) (λ held. (held ≢ bytes) × (sha held ≢ sha bytes)) (λ held. held ≡ bytes → ⊥) (λ l both. both.0) was)
    by_answer (Err DiskFault) k is inside kept none was = tt
    by_answer (Err Memory) k is inside kept none was = tt

    no_record : (r : Result Fit StoreError) → record_of names name ≡ None → (record_of names name ≡ None → r ≡ Ok New) → MeetsBy r (meets_others h name bytes)
    no_record (Ok fit) is new = none_held h name bytes (sym (knows.held name) ∙ ap is_some is)
    no_record (Err e) is new = absurd (let clash : Err e ≡ Ok New = new is in cc)

    by_record : (o : Option ℕ) → record_of names name ≡ o → (r : Result Fit StoreError) → IfSome (record_of names name) (λ k. k < size) → IfSome (record_of names name) (λ k. keeps k ≡ true) → (r ≡ Ok New) ↔ (record_of names name ≡ None) → WasCompared (record_of names name) es bytes r → MeetsBy r (meets_others h name bytes)
    by_record None is r below there new was = no_record r is new.1
    by_record (Some k) is r below there new was = by_answer r k is (at_some (record_of names name) (λ i. i < size) k below is) (at_some (record_of names name) (λ i. keeps i ≡ true) k there is) new.0
        (at_some (record_of names name) (λ i. IfSome (slice_get es i) (λ e. IfSome e.body (λ held. Compares held bytes r))) k was is)

-- ---- less bodies that were given up

-- the same bytes are held under each name
pub meets_less : (h less : List Change) (name bytes : List ℕ) → IsLess h less → IsValid less → meets_others less name bytes ≡ meets_others h name bytes
meets_less h less name bytes is v =
    let law = less_same h less is in
    by_cases (is_held (state less) name)
    (λ held.
    ap (λ (s : State). is_held s name && are_others (last_brought name less) bytes) law.one_state
    ∙ ap (λ (o : Option (List ℕ)). is_held (state h) name && are_others o bytes) (law.same_bytes v name (ap (λ (s : State). is_held s name) (sym law.one_state) ∙ held)))
    (λ free.
    ap (λ (b : Bool). b && are_others (last_brought name less) bytes) free
    ∙ sym (ap (λ (b : Bool). b && are_others (last_brought name h) bytes) (ap (λ (s : State). is_held s name) (sym law.one_state) ∙ free)))
