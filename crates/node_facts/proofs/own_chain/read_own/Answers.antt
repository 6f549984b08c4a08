use Rattle.std.proofs.Common.{◌≡◌, true, sym, ap, ◌∙◌}
use Rattle.psb_model.specs.State.{own_has}
use Rattle.psb_model.specs.History.{state}
use Rattle.psb_machine.specs.OwnProbes.{own_bytes}
use Rattle.node_history.proofs.Presence.{ok_map}
use Rattle.node_facts.specs.OwnChain.{is_own}
use Rattle.node_facts.proofs.OwnChain.{own_held, own_chunk}
use Rattle.node_facts.proofs.own_chain.read_own.Goals as goal

pub returns-in-Chunk-clause-bytes : goal.returns-in-Chunk-clause-bytes
returns-in-Chunk-clause-bytes g c =
    let name = c.in-Chunk.name in
    ok_map c.read_chunk.result _ _ (λ there read tells h es knows are shows own.
    let has : own_has (state h).own name ≡ true = ap (is_own (state h)) (sym c.in-Chunk.is) ∙ own in
    ap (own_bytes c.args.claims.now.seed h) c.in-Chunk.is ∙ own_chunk c.args.claims.now.seed h name has ∙ read tells h es knows are shows (own_held (state h) name has))
    c.read_chunk.ensures.bytes

pub returns-in-Chunk-clause-some : goal.returns-in-Chunk-clause-some
returns-in-Chunk-clause-some g c =
    let name = c.in-Chunk.name in
    ok_map c.read_chunk.result _ _ (λ there some h knows own.
    some h knows (own_held (state h) name (ap (is_own (state h)) (sym c.in-Chunk.is) ∙ own)))
    c.read_chunk.ensures.some
