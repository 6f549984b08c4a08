use Rattle.std.proofs.Common.{ℕ, true, ◌^◌, ◌≡◌, ◌≤◌, ◌-◌, ◌+◌, ◌++◌, length, take, map}
use Rattle.std.specs.Prelude.{nat_lt}
use Rattle.std.specs.List.{list_all}
use Rattle.slot_runs.specs.SlotRuns.{runs, runs_room}
use Rattle.slot_runs.proofs.Runs.{single}
use Rattle.slot_runs.proofs.run_tree.SlotRuns.add_each.Given as goal

abbrev pub invariant-loop-number : goal.invariant-loop-number
invariant-loop-number g l = record {
  runs : runs l.self ≡ runs l.fn.self ++ map (single l.rest) (take l.number-index l.numbers);
  tree : l.self.tree ≡ l.fn.self.tree;
  small : list_all (λ (n : ℕ). nat_lt n (2 ^ 32)) (take l.number-index l.numbers) ≡ true;
  left : length l.numbers - l.number-index ≤ runs_room l.self;
  room : runs_room l.fn.self ≤ runs_room l.self + l.number-index;
}
