-- The parts of what a probe may ask for: chunks there, slots there, and rows of debt.
use Rattle.std.specs.Prelude.{◌≡◌, ℕ, Bool, true, not, ◌&&◌, List, ◌++◌, map, filter, length}
use Rattle.std.specs.List.{sum_by}
use Rattle.psb_bytes.specs.declared.ids.Object.{Object}
use Rattle.psb_bytes.specs.declared.ids.Object.TheVariants.{Chunk, Slot}
use Rattle.psb_model.specs.declared.entries.DebtEntry.{DebtEntry}
use Rattle.psb_model.specs.declared.entries.OutEntry.{OutEntry}
use Rattle.psb_model.specs.Words.{in_order}
use Rattle.psb_model.specs.State.{Row, out_key, debt_key, ties_out}
use Rattle.psb_model.specs.Conditions.{is_own, is_whole, is_whole_own}
use Rattle.peer_lists.specs.Chunks.{is_chunk}
use Rattle.peer_lists.specs.Sought.{sought}
use Rattle.asked_objects.specs.Listable.{tied_slots}

-- the chunks there that no deal ties
abbrev pub is_listed_chunk : Row → OutEntry → Bool
is_listed_chunk r e = is_chunk e.object && not (ties_out r.pending e.object)

abbrev pub chunks_there : Row → List Object
chunks_there r = map out_key (filter (is_listed_chunk r) r.outs)

-- the own slots there that no deal ties
abbrev pub slots_there : Row → List OutEntry
slots_there r = sought out_key is_own (tied_slots r.pending) r.outs

abbrev pub outs_there : Row → List Object
outs_there r = chunks_there r ++ map out_key (slots_there r)

-- the rows of debt of which nothing was used up, chunks and own slots
abbrev pub is_listed_kind : DebtEntry → Bool
is_listed_kind d = elim d.object [ Chunk n ↦ is_whole d | Slot n ↦ is_whole_own d ]

abbrev pub is_listed_debt : Row → DebtEntry → Bool
is_listed_debt r d = is_listed_kind d && not (ties_out r.pending d.object)

abbrev pub debts_there : Row → List Object
debts_there r = map debt_key (filter (is_listed_debt r) r.debts)

-- these objects, in object order
pub record IsSorted (objects sorted : List Object) : Type 0 where
  pub ordered : in_order (λ (o : Object). o) sorted ≡ true
  pub sums : (f : Object → ℕ) → sum_by f sorted ≡ sum_by f objects

-- what was found of a row: its chunks, how many slots there are, and its rows of debt
pub record AreParts (r : Row) (chunks : List Object) (slots : ℕ) (debts : List Object) : Type 0 where
  pub outs_ordered : in_order out_key r.outs ≡ true
  pub chunks_are : chunks ≡ chunks_there r
  pub slots_are : slots ≡ length (slots_there r)
  pub debts_are : IsSorted (debts_there r) debts
