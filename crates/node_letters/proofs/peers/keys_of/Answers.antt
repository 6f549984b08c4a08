use Rattle.std.proofs.Common.{◌≡◌, List, ℕ, Err, sym, ◌∙◌, ap, is_some, true, false}
use Rattle.std.proofs.lemmas.Bool.{false≢true}
use Rattle.wire_codec.specs.Frames.{key_in}
use Rattle.node_letters.proofs.KeyTables.{no_key_yet}
use Rattle.node_letters.proofs.peers.keys_of.Goals as goal

pub unreachable-requires : goal.unreachable-requires
unreachable-requires c =
    let p = c.peer-item.result in
    let none : is_some (key_in c.loop-peer.keys p.id) ≡ false = ap (λ (t : List (ℕ × List ℕ)). is_some (key_in t p.id)) c.loop-peer.invariant ∙ no_key_yet c.args.peers.now c.loop-peer.peer-index p c.loop-peer-test.true (sym c.peer-item.is) c.requires in
    let there : is_some (key_in c.loop-peer.keys p.id) ≡ true = c.in-Err-Twice.ensures.twice.0 (ap Err c.in-Err-Twice.field-0-is) in
    false≢true (sym none ∙ there)
