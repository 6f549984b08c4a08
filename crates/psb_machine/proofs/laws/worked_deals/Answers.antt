use Rattle.std.proofs.Common.{refl}
use Rattle.std.proofs.lemmas.List.{append-nil}
use Rattle.psb_bytes.specs.declared.ids.Object.TheVariants.{Chunk}
use Rattle.psb_model.proofs.ByObject.{object_eq-refl}
use Rattle.psb_model.proofs.Own.{name_refl}
use Rattle.psb_machine.proofs.laws.worked_deals.Goals as goal

pub returns : goal.returns
returns c = λ name other bytes claim. record {
  spent = record {
    takes_the_last = λ is. rw is refl;
    one_is_left = λ is. rw is refl;
    none_is_left = λ is. rw is refl;
    full_comes_first = λ is. rw is refl;
  };
  release = record {
    cancelled = rw (object_eq-refl (Chunk name)) refl;
    put_back = rw (object_eq-refl (Chunk name), append-nil claim) refl;
    not_there = rw (object_eq-refl (Chunk name)) refl;
  };
  busy = record { swap = refl; bad_name_later = refl; cancel = refl; carries = refl; not_there_later = refl };
  debt = record {
    fresh = refl;
    clash_first = refl;
    full_later = λ is. refl;
    swap = λ is. rw is refl;
    unequal_first = λ is. rw is refl;
  };
  replace = record { direct = refl; home = refl; busy = refl; not_there = refl };
  replies = record {
    settled = rw (name_refl name, append-nil claim) refl;
    turned = refl;
    other_number = refl;
    other_accepted = refl;
    too_few = rw (name_refl name) refl;
    in_use = rw (name_refl name) refl;
    swapped = refl;
    too_many = refl;
    none_pending = refl;
    lesser_waits = refl;
    greater_waits = refl;
  };
}
