use Rattle.std.proofs.Common.{length, sym, subst}
use Rattle.std.proofs.lemmas.List.Elements.{All-nil}
use Rattle.psb_station.specs.Entry.{ArePieces}
use Rattle.psb_station.specs.Piece.{IsIn}
use Rattle.psb_station.specs.declared.entries.Entry.{Entry}
use Rattle.psb_station.proofs.Places.{none_paths, none_ascend}
use Rattle.psb_station.proofs.entries.Entries.new.Goals as goal

pub invariant_of-result : goal.invariant_of-result
invariant_of-result c =
    let long = length c.new.result.items in
    record {
      within = subst (ArePieces long) (sym c.new-2.ensures.items) (All-nil (λ (e : Entry). IsIn long e.path));
      names = none_paths c.new.result.items c.new-2.result.items c.new-2.ensures.items;
      ascend = none_ascend c.new.result.items c.new-2.result.items c.new-2.ensures.items;
    }
