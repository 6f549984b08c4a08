use Rattle.std.proofs.Common.{◌≡◌, ◌+◌, ◌≤◌, ◌++◌, [], ◌∷◌, List, ℕ, length, take, refl, sym, ap, subst, arith, length-take}
use Rattle.psb_station.specs.Past.{Write, Past, ToldBy}
use Rattle.psb_station.specs.MemDisk.{past_in}
use Rattle.psb_station.specs.Replay.{torn_longer}
use Rattle.psb_station.proofs.Kept.{torn_same, same_time, kept_images, kept_else, kept_keeps, kept_moment, refused_images, refused_since, pushed_ordered}
use Rattle.psb_station.proofs.memory.MemStationDisk.write_at.Goals as goal

pub returns-then-is_due-clause-writes : goal.returns-then-is_due-clause-writes
returns-then-is_due-clause-writes c = record {
  images = λ i left. (i, left, torn_same c.args.at (length c.args.from.now) i);
  time = same_time _ _ refl (λ t i k left. left) (λ t i k left. left);
  told = refl;
  disk_faults = omega arith;
  write_faults = omega arith;
  outside = refl;
  tells = λ tells. tells;
}

pub invariant_of-self-in-Err-clause-ordered : goal.invariant_of-self-in-Err-clause-ordered
invariant_of-self-in-Err-clause-ordered c = subst (ToldBy c.args.self.now.told) (sym c.in-Err.ensures.err) c.args.self.now.ordered

pub returns-in-Err-clause-writes : goal.returns-in-Err-clause-writes
returns-in-Err-clause-writes c =
    let d = c.args.self.now.disk in
    let e = c.write.new.self in
    let is : past_in e ≡ past_in d = c.in-Err.ensures.err in
    record {
      images = λ i left. (i, refused_images d e c.in-Err.ensures.start is i left, torn_same c.args.at (length c.args.from.now) i);
      time = same_time _ _ (ap (λ (l : List Past). length l + c.args.self.now.told) is)
          (λ t i k left. refused_since d e c.args.self.now.told t i k c.in-Err.ensures.start is left) (λ t i k left. refused_since e d c.args.self.now.told t i k (sym c.in-Err.ensures.start) (sym is) left);
      told = refl;
      disk_faults = omega arith;
      write_faults = omega arith;
      outside = refl;
      tells = λ tells. tells;
    }

pub invariant_of-self-in-None-clause-ordered : goal.invariant_of-self-in-None-clause-ordered
invariant_of-self-in-None-clause-ordered c =
    let from : List ℕ = take c.part_of-part.result c.args.from.now in
    let r : Past = record { call = Write c.args.at from; number = c.is_due.new.calls; told = c.args.self.now.told } in
    pushed_ordered c.args.self.now.told (past_in c.args.self.now.disk) (past_in c.write.new.self) r c.in-Ok.ensures.ok refl c.args.self.now.ordered

pub returns-in-None-clause-writes : goal.returns-in-None-clause-writes
returns-in-None-clause-writes c =
    let d = c.args.self.now.disk in
    let e = c.write.new.self in
    let from : List ℕ = take c.part_of-part.result c.args.from.now in
    let r : Past = record { call = Write c.args.at from; number = c.is_due.new.calls; told = c.args.self.now.told } in
    let is : past_in e ≡ past_in d ++ r ∷ [] = c.in-Ok.ensures.ok in
    let part : length from ≤ length c.args.from.now = omega (arith, length-take c.part_of-part.result c.args.from.now) in
    record {
      images = λ i left. let was = kept_images d e r c.in-Ok.ensures.start is i left in (was.0, was.1, torn_longer c.args.at (length from) (length c.args.from.now) was.0 i part was.2);
      time = record {
        later = kept_moment d e r c.args.self.now.told is;
        nothing_else = λ t i k le left. kept_else d e r t i k c.in-Ok.ensures.start is left;
        keeps = λ t i k le left. kept_keeps d e r t i k c.in-Ok.ensures.start is left;
      };
      told = refl;
      disk_faults = omega arith;
      write_faults = omega arith;
      outside = refl;
      tells = λ tells. tells;
    }

pub invariant_of-self-in-Some-clause-ordered : goal.invariant_of-self-in-Some-clause-ordered
invariant_of-self-in-Some-clause-ordered c =
    let from : List ℕ = take c.part_of-part.result c.args.from.now in
    let r : Past = record { call = Write c.args.at from; number = c.is_due.new.calls; told = c.args.self.now.told } in
    pushed_ordered c.args.self.now.told (past_in c.args.self.now.disk) (past_in c.write.new.self) r c.in-Ok.ensures.ok refl c.args.self.now.ordered

pub returns-in-Some-clause-writes : goal.returns-in-Some-clause-writes
returns-in-Some-clause-writes c =
    let d = c.args.self.now.disk in
    let e = c.write.new.self in
    let from : List ℕ = take c.part_of-part.result c.args.from.now in
    let r : Past = record { call = Write c.args.at from; number = c.is_due.new.calls; told = c.args.self.now.told } in
    let is : past_in e ≡ past_in d ++ r ∷ [] = c.in-Ok.ensures.ok in
    let part : length from ≤ length c.args.from.now = omega (arith, length-take c.part_of-part.result c.args.from.now) in
    record {
      images = λ i left. let was = kept_images d e r c.in-Ok.ensures.start is i left in (was.0, was.1, torn_longer c.args.at (length from) (length c.args.from.now) was.0 i part was.2);
      time = record {
        later = kept_moment d e r c.args.self.now.told is;
        nothing_else = λ t i k le left. kept_else d e r t i k c.in-Ok.ensures.start is left;
        keeps = λ t i k le left. kept_keeps d e r t i k c.in-Ok.ensures.start is left;
      };
      told = refl;
      disk_faults = omega arith;
      write_faults = omega arith;
      outside = refl;
      tells = λ tells. tells;
    }
