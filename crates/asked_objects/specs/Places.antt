-- A place among what a probe may ask for, and what is behind it of the slots there.
use Rattle.std.specs.Prelude.{◌≡◌, ℕ, ◌-◌, List, drop, filter, length, Option, Some, None}
use Rattle.std.specs.Option.{option_map}
use Rattle.psb_bytes.specs.declared.ids.Object.{Object}
use Rattle.psb_bytes.specs.declared.ids.Object.TheVariants.{Chunk, Slot}
use Rattle.psb_model.specs.declared.entries.OutEntry.{OutEntry}
use Rattle.psb_model.specs.State.{Row}
use Rattle.peer_lists.specs.Walks.{is_behind}
use Rattle.asked_objects.specs.Parts.{slots_there, outs_there}
use Rattle.asked_objects.specs.Ranks.{IsSplit}
use Rattle.asked_objects.specs.declared.parts.Place.{Place}

-- the last slot that was passed, with an object more
abbrev pub passed_with : Option Object → Option ℕ → Option ℕ
passed_with None passed = passed
passed_with (Some (Chunk n)) passed = passed
passed_with (Some (Slot m)) passed = Some m

-- all but so many of the first slots stand behind the last that was passed
abbrev pub IsPassed : Row → ℕ → Option ℕ → Type 0
IsPassed r n passed = filter (λ (e : OutEntry). is_behind (option_map Slot passed) e.object) (slots_there r) ≡ drop n (slots_there r)

-- the place of that number: of the objects in front of it so many are in debt, and the slots among them were passed
pub record IsAt (r : Row) (chunks debts : List Object) (p : Place) : Type 0 where
  pub split : IsSplit (outs_there r) debts p.number p.debts
  pub passed : IsPassed r (p.number - p.debts - length chunks) p.passed
