-- The lines as `format!` joins their pieces, the last two first.
use Rattle.std.proofs.Common.{◌≡◌, ℕ, ◌+◌, ◌/◌, ◌%◌, ◌^◌, ◌<◌, ◌≤◌, List, [], ◌∷◌, ◌++◌, length, codes, decimal, refl, sym, ◌∙◌, ap, arith, append_assoc, length-append}
use Rattle.std.proofs.lemmas.Fmt.{decimal_step, length-decimal-le}
use Rattle.psb_model.specs.declared.entries.DebtEntry.{DebtEntry}
use Rattle.psb_model.specs.declared.snapshots.Snapshot.{Snapshot}
use Rattle.said_lines.specs.Lines.{peer_line, debt_front, turns_line, node_line, snapshot_front, restored_line}

pub peer_line-pieces : (id held back debt : ℕ) → peer_line id held back debt
    ≡ codes "peer " ++ (decimal id ++ (codes " held " ++ (decimal held ++ (codes " back " ++ (decimal back ++ (codes " debt " ++ (decimal debt ++ codes "\n")))))))
peer_line-pieces id held back debt = simp append_assoc refl

pub debt_front-pieces : (d : DebtEntry) → debt_front d ≡ codes "debt " ++ (decimal d.left ++ (codes " of " ++ (decimal d.units ++ (codes " change " ++ decimal d.cause))))
debt_front-pieces d = simp append_assoc refl

pub turns_line-pieces : (turns taken dropped lost : ℕ) → turns_line turns taken dropped lost
    ≡ codes "turns " ++ (decimal turns ++ (codes " taken " ++ (decimal taken ++ (codes " dropped " ++ (decimal dropped ++ (codes " lost " ++ (decimal lost ++ codes "\n")))))))
turns_line-pieces turns taken dropped lost = simp append_assoc refl

pub node_line-pieces : (id peers : ℕ) → node_line id peers ≡ codes "node " ++ (decimal id ++ (codes " peers " ++ (decimal peers ++ codes "\n")))
node_line-pieces id peers = simp append_assoc refl

pub snapshot_front-pieces : (s : Snapshot) → snapshot_front s
    ≡ codes "snapshot " ++ (decimal s.number ++ (codes " files " ++ (decimal s.files ++ (codes " folders " ++ (decimal s.folders ++ (codes " bytes " ++ (decimal s.bytes ++ (codes " left " ++ (decimal s.left ++ codes " ticket ")))))))))
snapshot_front-pieces s = simp append_assoc refl

pub restored_line-pieces : (files folders bytes : ℕ) → restored_line files folders bytes
    ≡ codes "restored files " ++ (decimal files ++ (codes " folders " ++ (decimal folders ++ (codes " bytes " ++ (decimal bytes ++ codes "\n")))))
restored_line-pieces files folders bytes = simp append_assoc refl

-- ---- digits of a number of 32 bits

pub few_digits : (n : ℕ) → n < 2 ^ 32 → length (decimal n) ≤ 10
few_digits n small = length-decimal-le 10 n (omega arith) (omega (arith, small)) (omega (arith, small))

-- the last one, and those in front of it
pub one_more_digit : (n : ℕ) → 10 ≤ n → n < 2 ^ 32 → length (decimal n) ≡ length (decimal (n / 10)) + 1
one_more_digit n more small = ap length (decimal_step n more (omega (arith, small))) ∙ length-append (decimal (n / 10)) ((48 + n % 10) ∷ [])

pub last_digit_behind : (n : ℕ) (back : List ℕ) → 10 ≤ n → n < 2 ^ 32 → decimal (n / 10) ++ ((48 + n % 10) ∷ back) ≡ decimal n ++ back
last_digit_behind n back more small = sym (append_assoc (decimal (n / 10)) ((48 + n % 10) ∷ []) back) ∙ ap (λ (l : List ℕ). l ++ back) (sym (decimal_step n more (omega (arith, small))))
