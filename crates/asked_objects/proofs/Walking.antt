-- The chunks there, passed one by one.
use Rattle.std.proofs.Common.{◌≡◌, ◌<◌, ℕ, Bool, true, false, not, ◌&&◌, List, [], ◌∷◌, ◌++◌, map, filter, length, Option, Some, None, refl, sym, ap, ◌∙◌, subst, append_assoc, append-nil, arith}
use Rattle.std.specs.Prelude.{if◌then◌else◌}
use Rattle.std.specs.List.{list_all}
use Rattle.std.specs.Ordering.{is_lt}
use Rattle.std.proofs.lemmas.Bool.{and_parts, false≢true}
use Rattle.psb_bytes.specs.Objects.{object_cmp}
use Rattle.psb_bytes.specs.declared.ids.Object.{Object}
use Rattle.psb_bytes.specs.declared.ids.Object.TheVariants.{Chunk, Slot}
use Rattle.psb_model.specs.declared.entries.OutEntry.{OutEntry}
use Rattle.psb_model.specs.Words.{in_order}
use Rattle.psb_model.specs.State.{Row, out_key, ties_out}
use Rattle.psb_model.proofs.ByObject.{by_cases}
use Rattle.psb_model.proofs.ObjectOrder.{comes_first, less_then}
use Rattle.peer_lists.specs.Chunks.{is_chunk}
use Rattle.peer_lists.specs.Walks.{is_past, chunk_after, name_of}
use Rattle.asked_objects.specs.Parts.{is_listed_chunk}
use Rattle.asked_objects.proofs.Ranks.{not_itself}

-- the chunks behind a place, and those of them that pass a test
abbrev pub is_next : Option (List ℕ) → OutEntry → Bool
is_next place e = is_chunk e.object && is_past place e.object

abbrev pub left : (OutEntry → Bool) → Option (List ℕ) → List OutEntry → List OutEntry
left t place outs = filter (λ (e : OutEntry). is_next place e && t e) outs

pub none_left : (t : OutEntry → Bool) (place : Option (List ℕ)) (outs : List OutEntry) → None ≡ chunk_after out_key place outs → left t place outs ≡ []
none_left t place [] h = refl
none_left t place (x ∷ xs) h =
    by_cases (is_next place x)
    (λ k. let h' : None ≡ Some x = rw k at h in absurd (cc (h')))
    (λ k. let h' = rw k at h in rw k (none_left t place xs h'))

-- a chunk that is behind a place, and all that are behind it
past_all : (place : Option (List ℕ)) (n : List ℕ) (o : Object) → is_past place (Chunk n) ≡ true → is_lt (object_cmp (Chunk n) o) ≡ true → is_past place o ≡ true
past_all None n o h k = refl
past_all (Some m) n o h k = less_then (Chunk m) (Chunk n) o h k

same_behind : (t : OutEntry → Bool) (place : Option (List ℕ)) (n : List ℕ) (l : List OutEntry) → is_past place (Chunk n) ≡ true → list_all (λ (y : OutEntry). is_lt (object_cmp (Chunk n) (out_key y))) l ≡ true → left t place l ≡ left t (Some n) l
same_behind t place n [] h k = refl
same_behind t place n (x ∷ xs) h k =
    let a = and_parts (is_lt (object_cmp (Chunk n) x.object)) (list_all (λ (y : OutEntry). is_lt (object_cmp (Chunk n) (out_key y))) xs) k in
    let rest = same_behind t place n xs h a.1 in
    let past = past_all place n x.object h a.0 in
    by_cases (is_chunk x.object)
    (λ c. by_cases (t x) (λ b. rw (c, past, a.0, b) (ap (λ l. x ∷ l) rest)) (λ b. rw (c, past, a.0, b) rest))
    (λ c. rw c rest)

-- what was found stands behind what comes before it
behind_first : (place : Option (List ℕ)) (o : Object) (l : List OutEntry) (e : OutEntry) → list_all (λ (y : OutEntry). is_lt (object_cmp o (out_key y))) l ≡ true → Some e ≡ chunk_after out_key place l → is_lt (object_cmp o e.object) ≡ true
behind_first place o [] e h f = absurd (cc (f))
behind_first place o (x ∷ xs) e h f =
    let a = and_parts (is_lt (object_cmp o x.object)) (list_all (λ (y : OutEntry). is_lt (object_cmp o (out_key y))) xs) h in
    by_cases (is_next place x)
    (λ k. let f' : Some e ≡ Some x = rw k at f in let same : e ≡ x = cc (f') in ap (λ (y : OutEntry). is_lt (object_cmp o y.object)) same ∙ a.0)
    (λ k. let f' = rw k at f in behind_first place o xs e a.1 f')

-- what is left is the chunk that was found, if it passes, and what is left behind it
pub next_left : (t : OutEntry → Bool) (place : Option (List ℕ)) (n : List ℕ) (outs : List OutEntry) (e : OutEntry) → in_order out_key outs ≡ true → Some e ≡ chunk_after out_key place outs → e.object ≡ Chunk n
    → left t place outs ≡ (if t e then e ∷ left t (Some n) outs else left t (Some n) outs)
next_left t place n [] e ordered f is = absurd (cc (f))
next_left t place n (x ∷ xs) e ordered f is =
    let a = and_parts (list_all (λ (y : OutEntry). is_lt (object_cmp x.object (out_key y))) xs) (in_order out_key xs) ordered in
    by_cases (is_next place x)
    (λ k.
    let f' : Some e ≡ Some x = rw k at f in
    let same : e ≡ x = cc (f') in
    let at : x.object ≡ Chunk n = ap (λ (y : OutEntry). y.object) (sym same) ∙ is in
    let past : is_past place (Chunk n) ≡ true = ap (is_past place) (sym at) ∙ (and_parts (is_chunk x.object) (is_past place x.object) k).1 in
    let all : list_all (λ (y : OutEntry). is_lt (object_cmp (Chunk n) (out_key y))) xs ≡ true = ap (λ o. list_all (λ (y : OutEntry). is_lt (object_cmp o (out_key y))) xs) (sym at) ∙ a.0 in
    let itself : is_past (Some n) x.object ≡ false = ap (is_past (Some n)) at ∙ not_itself (Chunk n) in
    let gone : left t (Some n) (x ∷ xs) ≡ left t (Some n) xs = passed t (Some n) x xs itself in
    let rest = same_behind t place n xs past all in
    subst (λ y. left t place (x ∷ xs) ≡ (if t y then y ∷ left t (Some n) (x ∷ xs) else left t (Some n) (x ∷ xs))) (sym same)
    (subst (λ l. left t place (x ∷ xs) ≡ (if t x then x ∷ l else l)) (sym gone)
    (by_cases (t x)
    (λ b. rw (k, b) (ap (λ l. x ∷ l) rest))
    (λ b. rw (k, b) rest))))
    (λ k.
    let f' = rw k at f in
    let less : is_lt (object_cmp x.object (Chunk n)) ≡ true = ap (λ o. is_lt (object_cmp x.object o)) (sym is) ∙ behind_first place x.object xs e a.0 f' in
    let gone : left t (Some n) (x ∷ xs) ≡ left t (Some n) xs = passed t (Some n) x xs (comes_first x.object (Chunk n) less) in
    rw k (next_left t place n xs e a.1 f' is ∙ ap (λ l. if t e then e ∷ l else l) (sym gone)))
  where
    and_false : (a b : Bool) → b ≡ false → (a && b) ≡ false
    and_false true b h = h
    and_false false b h = refl

    passed : (t : OutEntry → Bool) (place : Option (List ℕ)) (x : OutEntry) (xs : List OutEntry) → is_past place x.object ≡ false → left t place (x ∷ xs) ≡ left t place xs
    passed t place x xs h = let k = and_false (is_chunk x.object) (is_past place x.object) h in rw k refl

-- WHAT WAS GATHERED SO FAR

-- the chunk that was found has a name
named : (place : Option (List ℕ)) (outs : List OutEntry) (e : OutEntry) → Some e ≡ chunk_after out_key place outs → is_chunk e.object ≡ true
named place [] e f = absurd (cc (f))
named place (x ∷ xs) e f =
    by_cases (is_next place x)
    (λ k. let f' : Some e ≡ Some x = rw k at f in let same : e ≡ x = cc (f') in ap (λ (y : OutEntry). is_chunk y.object) same ∙ (and_parts (is_chunk x.object) (is_past place x.object) k).0)
    (λ k. let f' = rw k at f in named place xs e f')

chunk_named : (o : Object) → is_chunk o ≡ true → (n : List ℕ) × (o ≡ Chunk n)
chunk_named (Chunk n) h = (n, refl)
chunk_named (Slot n) h = absurd (false≢true h)

pub record IsGathered (t : OutEntry → Bool) (outs : List OutEntry) (place : Option (List ℕ)) (chunks : List Object) : Type 0 where
  pub whole : chunks ++ map out_key (left t place outs) ≡ map out_key (left t None outs)

pub none_gathered : (t : OutEntry → Bool) (outs : List OutEntry) → IsGathered t outs None []
none_gathered t outs = record { whole = refl }

pub one_gathered : (t : OutEntry → Bool) (outs : List OutEntry) (place next : Option (List ℕ)) (chunks more : List Object) (e : OutEntry) → in_order out_key outs ≡ true → Some e ≡ chunk_after out_key place outs → next ≡ name_of (Some e.object) → more ≡ (if t e then chunks ++ e.object ∷ [] else chunks) → IsGathered t outs place chunks → IsGathered t outs next more
one_gathered t outs place next chunks more e ordered f is pushed before =
    let c = chunk_named e.object (named place outs e f) in
    let at : next ≡ Some c.0 = is ∙ ap (λ o. name_of (Some o)) c.1 in
    let step = next_left t place c.0 outs e ordered f c.1 in
    subst (λ x. IsGathered t outs x more) (sym at)
    (record {
      whole =
          by_cases (t e)
          (λ b.
          let pushed' = rw b at pushed in
          let step' = rw b at step in
          ap (λ l. l ++ map out_key (left t (Some c.0) outs)) pushed' ∙ append_assoc chunks (e.object ∷ []) (map out_key (left t (Some c.0) outs)) ∙ ap (λ l. chunks ++ map out_key l) (sym step') ∙ before.whole)
          (λ b.
          let pushed' = rw b at pushed in
          let step' = rw b at step in
          ap (λ l. l ++ map out_key (left t (Some c.0) outs)) pushed' ∙ ap (λ l. chunks ++ map out_key l) (sym step') ∙ before.whole);
    })

-- one less is left
abbrev pub all : OutEntry → Bool
all e = true

pub fewer_left : (outs : List OutEntry) (place next : Option (List ℕ)) (e : OutEntry) → in_order out_key outs ≡ true → Some e ≡ chunk_after out_key place outs → next ≡ name_of (Some e.object) → length (left all next outs) < length (left all place outs)
fewer_left outs place next e ordered f is =
    let c = chunk_named e.object (named place outs e f) in
    let at : next ≡ Some c.0 = is ∙ ap (λ o. name_of (Some o)) c.1 in
    let step = next_left all place c.0 outs e ordered f c.1 in
    subst (λ x. length (left all x outs) < length (left all place outs)) (sym at) (omega (arith, ap length step))

pub all_gathered : (t : OutEntry → Bool) (outs : List OutEntry) (place : Option (List ℕ)) (chunks : List Object) → None ≡ chunk_after out_key place outs → IsGathered t outs place chunks → chunks ≡ map out_key (left t None outs)
all_gathered t outs place chunks f done = sym (append-nil chunks) ∙ ap (λ l. chunks ++ map out_key l) (sym (none_left t place outs f)) ∙ done.whole

-- from the start all that a probe may ask for are left
pub all_chunks : (r : Row) → left (is_listed_chunk r) None r.outs ≡ filter (is_listed_chunk r) r.outs
all_chunks r = λ k. filter (λ (e : OutEntry). once (is_chunk e.object) (not (ties_out r.pending e.object)) k) r.outs
  where
    once : (c b : Bool) → ((c && true) && (c && b)) ≡ (c && b)
    once true b = refl
    once false b = refl
