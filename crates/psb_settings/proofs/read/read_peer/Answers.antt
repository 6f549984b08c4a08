use Rattle.std.proofs.Common.{sym, ◌∙◌, arith}
use Rattle.psb_settings.proofs.Peers.{no_peer_id, no_peer_address, no_peer_key, no_peer_hops, other_peer_keys, peer_is}
use Rattle.psb_settings.proofs.read.read_peer.Goals as goal

pub returns-in_err-id-clause-bad : goal.returns-in_err-id-clause-bad
returns-in_err-id-clause-bad c = λ _. no_peer_id _ (sym c.number_at.ensures ∙ grind arith)

pub returns-in_err-address-clause-bad : goal.returns-in_err-address-clause-bad
returns-in_err-address-clause-bad c = λ e. no_peer_address _ (c.read_address.ensures.bad (grind arith))

pub returns-in_err-key-clause-bad : goal.returns-in_err-key-clause-bad
returns-in_err-key-clause-bad c = λ _. no_peer_key _ (sym c.digest_at.ensures ∙ grind arith)

pub returns-in_err-hops-clause-bad : goal.returns-in_err-hops-clause-bad
returns-in_err-hops-clause-bad c = λ _. no_peer_hops _ (sym c.number_or.ensures ∙ grind arith)

pub returns-then-not-has_only_keys-clause-bad : goal.returns-then-not-has_only_keys-clause-bad
returns-then-not-has_only_keys-clause-bad c = λ _. other_peer_keys _ (sym c.has_only_keys.ensures ∙ grind arith)

pub returns-clause-ok : goal.returns-clause-ok
returns-clause-ok c =
    peer_is _ _ _ _ _ (sym c.number_at.ensures ∙ grind arith) (c.in_ok-address.ensures.ok) (sym c.digest_at.ensures ∙ grind arith)
    (sym c.number_or.ensures ∙ grind arith) (sym c.has_only_keys.ensures ∙ grind arith)
