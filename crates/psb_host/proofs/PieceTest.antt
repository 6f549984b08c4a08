-- The test of a piece of a file decides what the trait says of one.
use Rattle.std.proofs.Common.{◌≡◌, inl, inr, ⊎_elim, ℕ, ◌-◌, ◌<◌, ◌≤◌, ◌==◌, nat_le, not, List, length, take, drop, Option, Some, None, refl, sym, ap, subst, ◌∙◌, arith, length-take}
use Rattle.std.specs.Bool.{Decides}
use Rattle.std.proofs.lemmas.Bool.{leb-true, le-leb}
use Rattle.std.proofs.lemmas.Bool.Decides.{Decides-like, Decides-not, Decides-and, Decides-or, Decides-eqb}
use Rattle.std.proofs.lemmas.Slice.Eq.{bytes_eq-Decides}
use Rattle.psb_station.specs.Folder.{Content, Stored, Folder, File, Special, found, ReadsPiece}
use Rattle.psb_station.proofs.PathText.{by_cases}
use Rattle.psb_host.specs.HonestFolder.{piece_so}

Decides-le : (a b : ℕ) → Decides (nat_le a b) (a ≤ b)
Decides-le a b = (leb-true a b, le-leb a b)

-- what is said of a piece of a file's bytes
pub record IsPiece (bytes : List ℕ) (at n : ℕ) (into : List ℕ) : Type 0 where
  pub piece : take n into ≡ take n (drop at bytes)
  pub no_longer : n ≤ length bytes - at
  pub none_at_end : n ≡ 0 → 0 < length into → length bytes ≤ at

decides_file : (bytes : List ℕ) (at n : ℕ) (into : List ℕ) → n ≤ length into → Decides (piece_so at (length into) (take n into) (Some (File bytes))) (IsPiece bytes at n into)
decides_file bytes at n into fits =
    let len : length (take n into) ≡ n = omega (arith, length-take n into, fits) in
    Decides-like _
    (λ all. record {
      piece = all.0.1 ∙ ap (λ (k : ℕ). take k (drop at bytes)) len;
      no_longer = omega (arith, all.0.0, len);
      none_at_end = λ none some. ⊎_elim (λ other. ⊎_elim (λ not_none. absurd (not_none (len ∙ none))) (λ empty. absurd (omega (arith, empty, some))) other) (λ end. end) all.1;
    })
    (λ is. (
      (omega (arith, is.no_longer, len), is.piece ∙ ap (λ (k : ℕ). take k (drop at bytes)) (sym len)),
      by_cases (length (take n into) == 0)
          (λ k. by_cases (length into == 0) (λ j. inl (inr ((Decides-eqb (length into) 0).0 j)))
          (λ j. inr (is.none_at_end (sym len ∙ (Decides-eqb (length (take n into)) 0).0 k) (omega (arith, (Decides-not (length into == 0) (Decides-eqb (length into) 0)).0 (ap not j))))))
          (λ k. inl (inl ((Decides-not (length (take n into) == 0) (Decides-eqb (length (take n into)) 0)).0 (ap not k)))),
    ))
    (Decides-and _ _
    (Decides-and _ _ (Decides-le (length (take n into)) (length bytes - at)) (bytes_eq-Decides (take n into) (take (length (take n into)) (drop at bytes))))
    (Decides-or _ _
    (Decides-or _ _ (Decides-not _ (Decides-eqb (length (take n into)) 0)) (Decides-eqb (length into) 0))
    (Decides-le (length bytes) at)))

pub Decides-piece : (path : List ℕ) (at n : ℕ) (into : List ℕ) (c : Content) → n ≤ length into → Decides (piece_so at (length into) (take n into) (found c path)) (ReadsPiece c path at n into)
Decides-piece path at n into c fits = here (found c path) refl
  where
    here : (o : Option Stored) → found c path ≡ o → Decides (piece_so at (length into) (take n into) o) (ReadsPiece c path at n into)
    here None is = (λ e. absurd (cc), λ reads. let none : None ≡ Some (File reads.bytes) = sym is ∙ reads.file in absurd (cc))
    here (Some Folder) is = (λ e. absurd (cc), λ reads. let other : Some Folder ≡ Some (File reads.bytes) = sym is ∙ reads.file in absurd (cc))
    here (Some Special) is = (λ e. absurd (cc), λ reads. let other : Some Special ≡ Some (File reads.bytes) = sym is ∙ reads.file in absurd (cc))
    here (Some (File bytes)) is =
        Decides-like _
        (λ (p : IsPiece bytes at n into). record { bytes = bytes; file = is; piece = p.piece; no_longer = p.no_longer; none_at_end = p.none_at_end })
        (λ reads. let same : bytes ≡ reads.bytes = same_file bytes reads.bytes (sym is ∙ reads.file) in
        subst (λ (b : List ℕ). IsPiece b at n into) (sym same) (record { piece = reads.piece; no_longer = reads.no_longer; none_at_end = reads.none_at_end }))
        (decides_file bytes at n into fits)
      where
        bytes_of : Option Stored → List ℕ
        bytes_of (Some (File b)) = b
        bytes_of (Some Folder) = bytes
        bytes_of (Some Special) = bytes
        bytes_of None = bytes

        same_file : (a b : List ℕ) → Some (File a) ≡ Some (File b) → a ≡ b
        same_file a b e = ap bytes_of e
