use Rattle.std.proofs.Common.{◌++◌}
use Rattle.psb_bytes.specs.Numbers.{u32_bytes}
use Rattle.change_codec.proofs.Written.{next}
use Rattle.change_codec.proofs.lists.CandidateItem.put.Goals as goal

pub returns : goal.returns
returns c =
    let old = c.args.out.now.items in
    next old (u32_bytes c.args.self.now.peer ++ u32_bytes c.args.self.now.got ++ u32_bytes c.args.self.now.of) (u32_bytes c.args.self.now.hops) c.put_u32-2.new.out.items c.put_u32-3.new.out.items (next old (u32_bytes c.args.self.now.peer ++ u32_bytes c.args.self.now.got) (u32_bytes c.args.self.now.of) c.put_u32.new.out.items c.put_u32-2.new.out.items (next old (u32_bytes c.args.self.now.peer) (u32_bytes c.args.self.now.got) c.put_peer.new.out.items c.put_u32.new.out.items c.in_ok-put_peer.ensures c.in_ok-put_u32.ensures) c.in_ok-put_u32-2.ensures) c.in_ok-put_u32-3.ensures
