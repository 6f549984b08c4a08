-- One more is marked.
use Rattle.std.proofs.Common.{◌<◌, ◌∙◌, List, length, get_or, slice_set, ap, rules}
use Rattle.peer_states.specs.declared.peer_state.PeerState.{PeerState}
use Rattle.peer_states.specs.PeerStates.{marked_at}
use Rattle.next_deals.proofs.Searched.{map_on}
use Rattle.peer_states.proofs.peer_state.mark_peer.Goals as goal

pub loop-i-preserved : goal.loop-i-preserved
loop-i-preserved c =
    let old = c.args.states.now in
    let f : PeerState → PeerState = (marked_at c.args.peer c.args.mark) in
    let i = c.loop-i.i in
    let x = c.marked_at.result in
    let within : i < length old = search rules in
    ap (λ (l : List PeerState). slice_set l i x) c.loop-i.invariant
    ∙ map_on f old i c.index-states-i.result x within (c.marked_at.ensures ∙ ap (λ (l : List PeerState). f (get_or l i c.index-states-i.result)) c.loop-i.invariant)
