use Rattle.std.proofs.Common.{◌≡◌, true, Some, None, sym, ◌∙◌, ap, arith, rules}
use Rattle.std.specs.Option.{option_map}
use Rattle.psb_model.specs.Grammar.{is_u32, is_u64}
use Rattle.wire_codec.specs.Frames.{key_in}
use Rattle.wire_codec.specs.Views.{frame_of, incoming_of}
use Rattle.wire_codec.proofs.FrameLaws.{takes}
use Rattle.psb_machine.specs.Messages.{message_of}
use Rattle.psb_machine.proofs.Framed.{message_fits}
use Rattle.node_letters.specs.Messages.{message_in}
use Rattle.node_letters.proofs.message.read.Goals as goal

-- the sender of what is read has a key
pub unreachable-requires : goal.unreachable-requires
unreachable-requires c =
    let f = c.in-Ok.frame in
    let none : key_in c.args.keys.now f.from ≡ None = search rules in
    let t = takes c.args.own c.args.keys.now c.args.datagram.now (incoming_of f) (λ k. omega (arith, c.type_inv.datagram k)) c.in-Ok.ensures.exact in
    let both : Some t.key ≡ None = sym t.known ∙ none in cc

pub returns-in-Some-of : goal.returns-in-Some-of
returns-in-Some-of c =
    let f = c.in-Ok.frame in
    let m = message_in c.in-Some-of.message in
    let is : message_of (frame_of f.body) ≡ Some m = sym c.of.ensures ∙ ap (option_map message_in) c.in-Some-of.is in
    let keyed : key_in c.args.keys.now f.from ≡ Some c.in-Some.key.now = search rules in
    let peer : is_u32 f.from ≡ true = search rules in
    let number : is_u64 f.number ≡ true = search rules in
    record {
      frame = frame_of f.body;
      reads = c.in-Ok.ensures.exact;
      is = is;
      keyed = keyed;
      fits = message_fits f.from f.number (frame_of f.body) m (record { peer = peer; number_fits = number; frame_is = c.in-Ok.ensures.fits }) is;
    }
