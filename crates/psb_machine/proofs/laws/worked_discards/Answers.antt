use Rattle.std.proofs.Common.{[], refl}
use Rattle.std.proofs.Math.Nat.{mod-one}
use Rattle.psb_digest.specs.Words.{own_word}
use Rattle.psb_machine.proofs.laws.worked_discards.Goals as goal

pub returns : goal.returns
returns c = record {
  all = rw (mod-one (own_word [] 1 0), mod-one (own_word [] 1 1)) refl;
  within_the_debt = rw (mod-one (own_word [] 1 0), mod-one (own_word [] 1 1)) refl;
  tied = λ name. rw (mod-one (own_word [] 1 0)) refl;
  paid_back = rw (mod-one (own_word [] 1 0), mod-one (own_word [] 1 1)) refl;
  none_due = refl;
}
