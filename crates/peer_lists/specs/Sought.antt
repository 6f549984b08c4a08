-- Slots that are sought: their entries pass a test, and their numbers are not among others.
use Rattle.std.specs.Prelude.{◌≡◌, ◌≤◌, ℕ, ◌+◌, Bool, not, ◌&&◌, if◌then◌else◌, List, [], ◌++◌, filter, Option, Some, None}
use Rattle.psb_bytes.specs.declared.ids.Object.{Object}
use Rattle.psb_bytes.specs.declared.ids.Object.TheVariants.{Slot}
use Rattle.psb_model.specs.Words.{listed, slots}
use Rattle.psb_model.specs.Conditions.{is_direct, is_direct_or_home, is_own, is_loose}
use Rattle.psb_model.specs.declared.entries.InEntry.{InEntry}
use Rattle.psb_model.specs.declared.entries.OutEntry.{OutEntry}
use Rattle.peer_lists.specs.declared.entry.InTest.{InTest}
use Rattle.peer_lists.specs.declared.entry.InTest.TheVariants.{Direct, DirectOrHome}
use Rattle.peer_lists.specs.declared.entry.OutTest.{OutTest}
use Rattle.peer_lists.specs.declared.entry.OutTest.TheVariants.{Own, Loose}
use Rattle.slot_runs.specs.declared.part.Part.{Part}
use Rattle.peer_lists.specs.Chunks.{is_chunk}
use Rattle.peer_lists.specs.Entries.{from_object}
use Rattle.peer_lists.specs.Slots.{expand}

abbrev pub in_passes : InTest → InEntry → Bool
in_passes Direct e = is_direct e
in_passes DirectOrHome e = is_direct_or_home e

abbrev pub out_passes : OutTest → OutEntry → Bool
out_passes Own e = is_own e
out_passes Loose e = is_loose e

-- a slot that passes the test, and is none of these numbers
abbrev pub is_sought : {E : Type 0} → (E → Object) → (E → Bool) → List ℕ → E → Bool
is_sought key test but e = not (is_chunk (key e)) && test e && not (listed (slots but) (key e))

abbrev pub sought : {E : Type 0} → (E → Object) → (E → Bool) → List ℕ → List E → List E
sought key test but = filter (is_sought key test but)

-- the first number, or the first behind this one
abbrev pub number_behind : Option ℕ → ℕ
number_behind None = 0
number_behind (Some n) = n + 1

-- the slots of a part of a run that are sought: all or none
abbrev pub found : {E R : Type 0} → (Object → R → E) → Part R → List E
found joined p = if p.is_sought then expand joined p.run else []

-- the first slots from a number on, in a row, of which all are sought or none; and those behind them
abbrev pub IsPart : {E R : Type 0} → (E → Object) → (Object → R → E) → (E → Bool) → List ℕ → List E → ℕ → Option (Part R) → Type 0
IsPart key joined test but l n None = sought key test but (from_object key (Slot n) l) ≡ []
IsPart key joined test but l n (Some p) = (n ≤ p.run.first) × (p.run.first ≤ p.run.last) × (sought key test but (from_object key (Slot n) l) ≡ found joined p ++ sought key test but (from_object key (Slot (p.run.last + 1)) l))
