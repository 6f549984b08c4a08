-- What a read that found something took from the front.
use Rattle.std.proofs.Common.{◌≡◌, ℕ, ◌+◌, ◌≤◌, Bool, true, false, cond, ltb, List, length, take, drop, Ok, Err, refl, ap}
use Rattle.std.specs.Prelude.{Result}
use Rattle.std.proofs.lemmas.Bool.{ltb-false}
use Rattle.skeleton.specs.declared.faults.FaultAt.{FaultAt}
use Rattle.skeleton.specs.declared.faults.SkelFault.TheVariants.{Short}
use Rattle.skeleton.specs.Reading.{◌>>=◌, Unread, bytes_at}

-- the value of a step that found one
pub bind_ok : {A B : Type 0} (r : Result A FaultAt) (f : A → Result B FaultAt) (y : B) → (r >>= f) ≡ Ok y → (x : A) × (r ≡ Ok x) × (f x ≡ Ok y)
bind_ok (Ok x) f y e = (x, refl, e)
bind_ok (Err refusal) f y e = absurd cc

-- a test that passed, and one that did not
pub then_ok : {B : Type 0} (b : Bool) (r : Result B FaultAt) (refusal : FaultAt) (y : B) → cond b r (Err refusal) ≡ Ok y → (b ≡ true) × (r ≡ Ok y)
then_ok true r refusal y e = (refl, e)
then_ok false r refusal y e = absurd cc

pub else_ok : {B : Type 0} (b : Bool) (r : Result B FaultAt) (refusal : FaultAt) (y : B) → cond b (Err refusal) r ≡ Ok y → (b ≡ false) × (r ≡ Ok y)
else_ok true r refusal y e = absurd cc
else_ok false r refusal y e = (refl, e)

abbrev pub found : {A : Type 0} → A → Result A FaultAt
found x = Ok x

pub ok_is : {A : Type 0} (x y : A) → found x ≡ found y → x ≡ y
ok_is x y e = cc

abbrev pub value : {A : Type 0} → A × Unread → A
value x = x.0

abbrev pub rest : {A : Type 0} → A × Unread → Unread
rest x = x.1

-- so many bytes were there
pub bytes_found : (n : ℕ) (u : Unread) (front : List ℕ) (v : Unread) → bytes_at n u ≡ Ok (front, v) → (n ≤ length u.bytes) × (take n u.bytes ≡ front) × (drop n u.bytes ≡ v.bytes)
unfolding bytes_at
bytes_found n u front v e =
    let after : Unread = record { place = u.place + n; bytes = drop n u.bytes } in
    let g = else_ok (ltb (length u.bytes) n) (Ok (take n u.bytes, after)) (record { fault = Short; place = u.place }) (front, v) e in
    let p = ok_is (take n u.bytes, after) (front, v) g.1 in
    (ltb-false _ _ g.0, ap value p, ap (λ (x : List ℕ × Unread). x.1.bytes) p)
