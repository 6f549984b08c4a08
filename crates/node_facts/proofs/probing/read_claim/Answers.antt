use Rattle.std.proofs.Common.{ap, ◌∙◌}
use Rattle.psb_model.specs.History.{state}
use Rattle.psb_model.specs.declared.entries.InState.{InState}
use Rattle.psb_machine.specs.Probing.{claim_bytes}
use Rattle.node_history.proofs.Presence.{ok_map}
use Rattle.node_facts.proofs.Probed.{entry_direct}
use Rattle.node_facts.proofs.probing.read_claim.Goals as goal

pub returns-in-Direct-clause-bytes : goal.returns-in-Direct-clause-bytes
returns-in-Direct-clause-bytes g c =
    ok_map c.given_bytes.result _ _ (λ there given tells h es valid knows are shows stands.
    ap (λ (x : InState). claim_bytes c.args.claims.now.seed h c.args.peer c.args.slot x) c.in-Direct.is
    ∙ given tells h es valid.lawful valid.fit knows are shows (entry_direct (state h) c.args.peer c.args.slot stands.0 stands.1 (stands.2 ∙ c.in-Direct.is)))
    c.given_bytes.ensures.exact
