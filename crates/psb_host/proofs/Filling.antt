-- What a buffer has taken of what a reader had left, and what a writer got of a slice.
use Rattle.std.proofs.Common.{◌≡◌, ◌≤◌, ◌+◌, ◌-◌, ◌++◌, ℕ, List, length, take, drop, Option, Some, None, ap, sym, ◌∙◌, subst, arith, append_assoc, length-append, length-drop}
use Rattle.std.proofs.lemmas.List.{length-take, take-append-le, take_at, take_all}
use Rattle.std.proofs.Math.Seq.{take-append-add}
use Rattle.std.specs.Io.KnownBytes.{Consumes, IsAtEnd, Appends}
use Rattle.psb_host.specs.Transfers.{Fills}
use borrow.Rule.Slice.PartMut.{put_mid, post_of}
use lib.Seq.{take-add}

pub length-put_mid : (a k : ℕ) (xs ys : List ℕ) → a + k ≤ length xs → length ys ≡ k → length (put_mid a k xs ys) ≡ length xs
length-put_mid a k xs ys room long = simp (length-append, length-take, length-drop) (omega arith)

-- the front, after n bytes of a part were written behind it
pub front_more : (a k n : ℕ) (xs ys : List ℕ) → a ≤ length xs → n ≤ length ys → take (a + n) (put_mid a k xs ys) ≡ take a xs ++ take n ys
front_more a k n xs ys room few =
    let tail = ys ++ post_of a k xs in
    let at : length (take a xs) ≡ a = omega (arith, length-take a xs) in
    ap (λ m. take (m + n) (take a xs ++ tail)) (sym at) ∙ take-append-add (take a xs) tail n ∙ ap (λ l. take a xs ++ l) (take-append-le n ys (post_of a k xs) few)

pub consumes_then : (first middle last : Option (List ℕ)) (p q : List ℕ) → Consumes first middle p → Consumes middle last q → Consumes first last (p ++ q)
consumes_then None middle last p q one two = tt
consumes_then (Some xs) (Some ys) (Some zs) p q one two = one ∙ ap (λ l. p ++ l) two ∙ sym (append_assoc p q zs)
consumes_then (Some xs) (Some ys) None p q one two = absurd two
consumes_then (Some xs) None last p q one two = absurd one

-- the buffer's front is what came, after one more read of its rest
pub fills_more : (first middle last : Option (List ℕ)) (a k n : ℕ) (xs ys : List ℕ) → a ≤ length xs → n ≤ length ys
    → Consumes first middle (take a xs) → Consumes middle last (take n ys) → Consumes first last (take (a + n) (put_mid a k xs ys))
fills_more first middle last a k n xs ys room few one two =
    subst (Consumes first last) (sym (front_more a k n xs ys room few)) (consumes_then first middle last (take a xs) (take n ys) one two)

-- a full buffer holds all that it asked for
pub fills_full : (first last : Option (List ℕ)) (xs : List ℕ) (n : ℕ) → n ≤ length xs → length xs ≤ n → Consumes first last (take n xs) → Fills first n xs
fills_full None last xs n fits full came = tt
fills_full (Some bytes) (Some rest) xs n fits full came =
    let len : length bytes ≡ length (take n xs) + length rest = ap length came ∙ length-append (take n xs) rest in
    let taken : length (take n xs) ≡ n = omega (arith, length-take n xs) in
    (omega arith, sym (ap (take n) came ∙ take_at (take n xs) rest n taken))
fills_full (Some bytes) None xs n fits full came = absurd came

-- at the end the buffer holds all that stood there
pub fills_end : (first last : Option (List ℕ)) (xs : List ℕ) (n : ℕ) → n ≤ length xs → Consumes first last (take n xs) → IsAtEnd last → Fills first n xs
fills_end None last xs n fits came over = tt
fills_end (Some bytes) (Some rest) xs n fits came over =
    let len : length bytes ≡ length (take n xs) + length rest = ap length came ∙ length-append (take n xs) rest in
    let none : length rest ≡ 0 = ap length over in
    let taken : length (take n xs) ≡ n = omega (arith, length-take n xs) in
    (omega arith, sym (ap (take n) came ∙ take_at (take n xs) rest n taken))
fills_end (Some bytes) None xs n fits came over = absurd came

appends_then : (first middle last : Option (List ℕ)) (p q : List ℕ) → Appends first middle p → Appends middle last q → Appends first last (p ++ q)
appends_then None middle last p q one two = tt
appends_then (Some xs) (Some ys) (Some zs) p q one two = two ∙ ap (λ l. l ++ q) one ∙ append_assoc xs p q
appends_then (Some xs) (Some ys) None p q one two = absurd two
appends_then (Some xs) None last p q one two = absurd one

-- after one more write of the rest
pub appends_more : (first middle last : Option (List ℕ)) (a n : ℕ) (xs : List ℕ) → Appends first middle (take a xs) → Appends middle last (take n (take (length xs - a) (drop a xs))) → Appends first last (take (a + n) xs)
appends_more first middle last a n xs one two =
    let rest : take (length xs - a) (drop a xs) ≡ drop a xs = take_all (length xs - a) (drop a xs) (omega (arith, length-drop a xs)) in
    subst (Appends first last) (sym (take-add a n xs))
    (appends_then first middle last (take a xs) (take n (drop a xs)) one (subst (λ (l : List ℕ). Appends middle last (take n l)) rest two))
