-- The place of a peer, and what the state has there.
use Rattle.std.proofs.Common.{◌≡◌, ℕ, zero, suc, ◌+◌, ◌<◌, true, false, List, [], ◌∷◌, ◌++◌, length, map, get_or, set, Some, None, refl, sym, ap, ◌∙◌, subst, arith}
use Rattle.std.specs.Prelude.{◌==◌, ◌||◌, find, position, is_some, Option, Result, Ok, Err, OnOk}
use Rattle.std.specs.List.{position_from, list_any}
use Rattle.std.proofs.lemmas.Bool.{eqb-true, false≢true}
use Rattle.std.proofs.lemmas.Iterator.Adapters.{position_from-zero}
use Rattle.psb_model.specs.State.{Row, blank, row_in, has_row, at_row}
use Rattle.psb_model.proofs.ByObject.{by_cases}
use Rattle.psb_settings.specs.declared.settings.PeerRow.{PeerRow}
use Rattle.psb_model.specs.Effects.{blank_rows}
use Rattle.peer_account.specs.View.{AccountView, named_row}
use Rattle.accounts.specs.Table.{account_in}

-- the first peer with the id stands at place i, and is v
abbrev pub Found : List AccountView → ℕ → ℕ → AccountView → Type 0
Found [] p i v = ⊥
Found (x ∷ xs) p zero v = ((x.id == p) ≡ true) × (x ≡ v)
Found (x ∷ xs) p (suc i) v = ((x.id == p) ≡ false) × Found xs p i v

abbrev Place : List AccountView → ℕ → ℕ → ℕ → Type 0
Place vs p k i = (j : ℕ) × (v : AccountView) × (i ≡ k + j) × Found vs p j v

place_of : (vs : List AccountView) (p k i : ℕ) → position_from (λ (v : AccountView). v.id == p) k vs ≡ Some i → Place vs p k i
place_of [] p k i h = cc
place_of (x ∷ xs) p k i h =
    by_cases (x.id == p)
    (λ b. let h' = rw b at h in let same : k ≡ i = cc in (0, x, omega (arith, same), (b, refl)))
    (λ b. let h' = rw b at h in let rest = place_of xs p (k + 1) i h' in (suc rest.0, rest.1, omega (arith, rest.2), (b, rest.3)))

pub found : (vs : List AccountView) (p i : ℕ) → position (λ (v : AccountView). v.id == p) vs ≡ Some i → (v : AccountView) × Found vs p i v
found vs p i h =
    let at = place_of vs p 0 i (sym (position_from-zero (λ (v : AccountView). v.id == p) vs) ∙ h) in
    let same : at.0 ≡ i = omega (arith, at.2) in
    (at.1, subst (λ n. Found vs p n at.1) same at.3)

pub none_from : (vs : List AccountView) (p k : ℕ) → position_from (λ (v : AccountView). v.id == p) k vs ≡ None → (row_in (map named_row vs) p ≡ blank) × (has_row (map named_row vs) p ≡ false)
none_from [] p k h = (refl, refl)
none_from (x ∷ xs) p k h =
    by_cases (x.id == p)
    (λ b. let h' = rw b at h in cc)
    (λ b. let h' = rw b at h in rw b (none_from xs p (k + 1) h'))

pub found_row : (vs : List AccountView) (p i : ℕ) (v : AccountView) → Found vs p i v → row_in (map named_row vs) p ≡ v.row
found_row [] p i v f = absurd f
found_row (x ∷ xs) p zero v f = rw f.0 (ap (λ (y : AccountView). y.row) f.1)
found_row (x ∷ xs) p (suc i) v f = rw f.0 (found_row xs p i v f.1)

pub found_peer : (vs : List AccountView) (p i : ℕ) (v : AccountView) → Found vs p i v → has_row (map named_row vs) p ≡ true
found_peer [] p i v f = absurd f
found_peer (x ∷ xs) p zero v f = rw f.0 refl
found_peer (x ∷ xs) p (suc i) v f = rw f.0 (found_peer xs p i v f.1)

pub found_account : (vs : List AccountView) (p i : ℕ) (v : AccountView) → Found vs p i v → account_in vs p ≡ v
found_account [] p i v f = absurd f
found_account (x ∷ xs) p zero v f = rw f.0 f.1
found_account (x ∷ xs) p (suc i) v f = rw f.0 (found_account xs p i v f.1)

pub found_within : (vs : List AccountView) (p i : ℕ) (v : AccountView) → Found vs p i v → i < length vs
found_within [] p i v f = absurd f
found_within (x ∷ xs) p zero v f = omega arith
found_within (x ∷ xs) p (suc i) v f = omega (arith, found_within xs p i v f.1)

pub found_at : (vs : List AccountView) (p i : ℕ) (v d : AccountView) → Found vs p i v → get_or vs i d ≡ v
found_at [] p i v d f = absurd f
found_at (x ∷ xs) p zero v d f = f.1
found_at (x ∷ xs) p (suc i) v d f = found_at xs p i v d f.1

pub found_id : (vs : List AccountView) (p i : ℕ) (v : AccountView) → Found vs p i v → v.id ≡ p
found_id [] p i v f = absurd f
found_id (x ∷ xs) p zero v f = ap (λ (y : AccountView). y.id) (sym f.1) ∙ eqb-true x.id p f.0
found_id (x ∷ xs) p (suc i) v f = found_id xs p i v f.1

pub none : (vs : List AccountView) (p : ℕ) → position (λ (v : AccountView). v.id == p) vs ≡ None → (row_in (map named_row vs) p ≡ blank) × (has_row (map named_row vs) p ≡ false)
none vs p h = none_from vs p 0 (sym (position_from-zero (λ (v : AccountView). v.id == p) vs) ∙ h)

-- a peer that changes in place is a row that changes
pub found_set : (vs : List AccountView) (p i : ℕ) (v w : AccountView) (f : Row → Row) → Found vs p i v → w.id ≡ v.id → w.row ≡ f v.row → map named_row (set vs i w) ≡ at_row p f (map named_row vs)
found_set [] p i v w f at same changed = absurd at
found_set (x ∷ xs) p zero v w f at same changed =
    let one : named_row w ≡ (x.id, f x.row) = λ j. ((same ∙ ap (λ (y : AccountView). y.id) (sym at.1)) j, (changed ∙ ap (λ (y : AccountView). f y.row) (sym at.1)) j) in
    rw at.0 (ap (λ y. y ∷ map named_row xs) one)
found_set (x ∷ xs) p (suc i) v w f at same changed = rw at.0 (ap (λ l. named_row x ∷ l) (found_set xs p i v w f at.1 same changed))

-- and what is read there was found there
pub found_here : (vs : List AccountView) (p i : ℕ) (r : AccountView) → Some i ≡ position (λ (v : AccountView). v.id == p) vs → r ≡ get_or vs i r → Found vs p i r
found_here vs p i r h is = let f = found vs p i (sym h) in subst (Found vs p i) (sym (is ∙ found_at vs p i f.0 r f.1)) f.1

named_append : (vs : List AccountView) (w : AccountView) → map named_row (vs ++ w ∷ []) ≡ map named_row vs ++ named_row w ∷ []
named_append [] w = refl
named_append (v ∷ vs) w = ap (λ l. named_row v ∷ l) (named_append vs w)

-- one more peer, of the same row
pub more_same : (vs ws : List AccountView) (v w : AccountView) → map named_row ws ≡ map named_row vs → w.id ≡ v.id → w.row ≡ v.row → map named_row (ws ++ w ∷ []) ≡ map named_row (vs ++ v ∷ [])
more_same vs ws v w h a b =
    let one : named_row w ≡ named_row v = λ j. (a j, b j) in
    named_append ws w ∙ (λ j. h j ++ one j ∷ []) ∙ sym (named_append vs v)

-- one more blank peer
pub more_blank : (vs : List AccountView) (w : AccountView) (xs : List PeerRow) (x : PeerRow) → map named_row vs ≡ blank_rows xs → w.id ≡ x.id → w.row ≡ blank → map named_row (vs ++ w ∷ []) ≡ blank_rows (xs ++ x ∷ [])
more_blank vs w xs x h a b =
    let one : named_row w ≡ (x.id, blank) = λ j. (a j, b j) in
    named_append vs w ∙ (λ j. h j ++ one j ∷ []) ∙ sym (blank_append xs x)
  where
    blank_append : (xs : List PeerRow) (x : PeerRow) → blank_rows (xs ++ x ∷ []) ≡ blank_rows xs ++ (x.id, blank) ∷ []
    blank_append [] x = refl
    blank_append (y ∷ ys) x = ap (λ l. (y.id, blank) ∷ l) (blank_append ys x)

-- what stands at the place after a write
pub found_after : (vs : List AccountView) (p i : ℕ) (v w : AccountView) → Found vs p i v → w.id ≡ v.id → Found (set vs i w) p i w
found_after [] p i v w f a = absurd f
found_after (x ∷ xs) p zero v w f a = (ap (λ n. n == p) (a ∙ ap (λ (y : AccountView). y.id) (sym f.1)) ∙ f.0, refl)
found_after (x ∷ xs) p (suc i) v w f a = (f.0, found_after xs p i v w f.1 a)

-- two facts of one outcome
pub on_ok_both : {T E : Type 0} (r : Result T E) (P Q R : Type 0) → (P → Q → R) → OnOk r P → OnOk r Q → OnOk r R
on_ok_both (Ok x) P Q R f p q = f p q
on_ok_both (Err e) P Q R f p q = tt

-- the row of an account that was looked for
abbrev pub row_of : Option AccountView → Row
row_of None = blank
row_of (Some v) = v.row

-- the account that a search by id finds
pub row_found : (vs : List AccountView) (p : ℕ) → row_of (find (λ (v : AccountView). v.id == p) vs) ≡ row_in (map named_row vs) p
row_found [] p = refl
row_found (x ∷ xs) p = by_cases (x.id == p) (λ k. rw k refl) (λ k. rw k (row_found xs p))

-- a peer has a place
pub some_there : (vs : List AccountView) (p : ℕ) → has_row (map named_row vs) p ≡ true → is_some (position (λ (v : AccountView). v.id == p) vs) ≡ true
some_there vs p h = of_place (position (λ (v : AccountView). v.id == p) vs) refl
  where
    of_place : (o : Option ℕ) → position (λ (v : AccountView). v.id == p) vs ≡ o → is_some o ≡ true
    of_place None e = absurd (false≢true (sym (none vs p e).1 ∙ h))
    of_place (Some i) e = refl

-- whose row is looked for by id
pub peers_in : (vs : List AccountView) (p : ℕ) → list_any (λ (v : AccountView). v.id == p) vs ≡ has_row (map named_row vs) p
peers_in [] p = refl
peers_in (v ∷ vs) p = ap (λ b. (v.id == p) || b) (peers_in vs p)
