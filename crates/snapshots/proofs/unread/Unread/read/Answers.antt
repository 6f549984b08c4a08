use Rattle.std.proofs.Common.{◌≡◌, length, rules, ap, ◌∙◌, sym, arith}
use Rattle.std.proofs.lemmas.List.{length-take-le}
use Rattle.snapshots.proofs.PieceReads.{lent_back, front_between, next_piece}
use Rattle.snapshots.proofs.unread.Unread.read.Goals as goal

pub invariant_of-self-2 : goal.invariant_of-self-2
invariant_of-self-2 g c =
    let items = c.self.inside.bytes.items in
    let into = c.read_piece.new.into in
    let size : length items ≡ c.self.inside.bytes.len = search rules in
    let whole : length into ≡ c.self.inside.bytes.len = search rules in
    let back = lent_back c.self.inside.bytes.len into items whole size in
    record {
      order = omega arith;
      within = omega (arith, ap length back, c.in_ok-count.ensures.within);
      size = ap length back ∙ whole ∙ sym size ∙ c.self.invariant.size;
    }

pub returns-clause-count : goal.returns-clause-count
returns-clause-count g c =
    let items = c.self.inside.bytes.items in
    let into = c.read_piece.new.into in
    let size : length items ≡ c.self.inside.bytes.len = search rules in
    let whole : length into ≡ c.self.inside.bytes.len = search rules in
    let back = lent_back c.self.inside.bytes.len into items whole size in
    sym (ap length (front_between c.in_ok-count.count _ into back) ∙ length-take-le c.in_ok-count.count into c.in_ok-count.ensures.within)

pub returns-clause-next : goal.returns-clause-next
returns-clause-next g c =
    let items = c.self.inside.bytes.items in
    let into = c.read_piece.new.into in
    let size : length items ≡ c.self.inside.bytes.len = search rules in
    let whole : length into ≡ c.self.inside.bytes.len = search rules in
    let back = lent_back c.self.inside.bytes.len into items whole size in
    next_piece (g.F.Folder.view c.read_piece.new.self).content c.args.path.now into _ c.args.at c.in_ok-count.count c.in_ok-count.ensures.within (omega (arith, whole, size, c.self.invariant.size)) (front_between c.in_ok-count.count _ into back) c.in_ok-count.ensures.piece
