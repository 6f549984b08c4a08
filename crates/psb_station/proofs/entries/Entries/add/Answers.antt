use Rattle.std.proofs.Common.{◌≡◌, ◌++◌, List, ℕ, IsOk, ap, ◌∙◌}
use Rattle.psb_station.specs.declared.entries.Entry.{Entry}
use Rattle.psb_station.proofs.Places.{put_kept, put_shows}
use Rattle.psb_station.proofs.entries.Entries.add.Goals as goal

pub invariant_of-self : goal.invariant_of-self
invariant_of-self c =
    let m = c.args.self.now in
    let e : Entry = record { path = c.put-path.result; node = c.args.node } in
    let ok : IsOk c.insert.result = c.insert.ensures.succeeds c.requires.room.0 in
    let items = rw ok at c.insert.ensures.items in
    let gap = c.requires.place in
    let grown : c.put-path.new.bytes.items ≡ m.paths.items ++ c.args.path.now = c.put-path.ensures.put ∙ ap (λ (l : List ℕ). m.paths.items ++ l) c.as_bytes.ensures.value in
    let kept = put_kept m.paths.items c.put-path.new.bytes.items c.args.path.now m.list.items c.insert.new.self.items c.args.place e (m.within, m.names, m.ascend) grown items c.put-path.ensures.begin c.put-path.ensures.end c.utf8.path c.requires.below gap.1 gap.2 in
    record { within = kept.0; names = kept.1; ascend = kept.2 }

pub returns : goal.returns
returns c =
    let m = c.args.self.now in
    let e : Entry = record { path = c.put-path.result; node = c.args.node } in
    let grown : c.put-path.new.bytes.items ≡ m.paths.items ++ c.args.path.now = c.put-path.ensures.put ∙ ap (λ (l : List ℕ). m.paths.items ++ l) c.as_bytes.ensures.value in
    let items = rw c.unwrap.ensures at c.insert.ensures.items in
    put_shows m.paths.items c.put-path.new.bytes.items c.args.path.now m.list.items c.insert.new.self.items c.args.place e m.within grown items c.put-path.ensures.begin c.put-path.ensures.end c.requires.place.1
