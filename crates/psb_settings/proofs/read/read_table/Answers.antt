use Rattle.std.proofs.Common.{sym, ap, ◌∙◌, arith}
use Rattle.toml.specs.View.{table_view}
use Rattle.psb_settings.specs.Settings.{are_apart}
use Rattle.psb_settings.specs.declared.settings.Settings.{Settings}
use Rattle.psb_settings.proofs.Tables.{no_id, no_address, no_seed, no_capacity, no_buddies, no_forward, no_peers_at, other_keys, same_ids, settings_are, HasFields}
use Rattle.psb_settings.proofs.read.read_table.Goals as goal

pub returns-then-not-has_only_keys-clause-bad : goal.returns-then-not-has_only_keys-clause-bad
returns-then-not-has_only_keys-clause-bad c = λ _. other_keys _ (sym c.has_only_keys.ensures ∙ grind arith)

pub returns-in_err-id-clause-bad : goal.returns-in_err-id-clause-bad
returns-in_err-id-clause-bad c = λ _. no_id _ (sym c.number_at.ensures ∙ grind arith)

pub returns-in_err-address-clause-bad : goal.returns-in_err-address-clause-bad
returns-in_err-address-clause-bad c = λ e. no_address _ (c.read_address.ensures.bad (grind arith))

pub returns-in_err-seed-clause-bad : goal.returns-in_err-seed-clause-bad
returns-in_err-seed-clause-bad c = λ _. no_seed _ (sym c.digest_at.ensures ∙ grind arith)

pub returns-in_err-capacity-clause-bad : goal.returns-in_err-capacity-clause-bad
returns-in_err-capacity-clause-bad c = λ _. no_capacity _ (sym c.number_at-2.ensures ∙ grind arith)

pub returns-in_err-buddies-clause-bad : goal.returns-in_err-buddies-clause-bad
returns-in_err-buddies-clause-bad c = λ _. no_buddies _ (sym c.number_or.ensures ∙ grind arith)

pub returns-in_err-forward-clause-bad : goal.returns-in_err-forward-clause-bad
returns-in_err-forward-clause-bad c = λ _. no_forward _ (sym c.flag_or.ensures ∙ grind arith)

pub returns-in_err-peers-clause-bad : goal.returns-in_err-peers-clause-bad
returns-in_err-peers-clause-bad c = λ e. no_peers_at _ (c.read_peers.ensures.bad (grind arith))

pub returns-then-not-are_apart-clause-bad : goal.returns-then-not-are_apart-clause-bad
returns-then-not-are_apart-clause-bad c =
    let s : Settings = record { id = c.in_ok-id.id; address = c.in_ok-address.address; seed = c.in_ok-seed.seed; capacity = c.in_ok-capacity.capacity; buddies = c.in_ok-buddies.buddies; forward = c.in_ok-forward.forward; peers = c.in_ok-peers.peers } in
    let fields : HasFields (table_view c.args.table.now) s = record {
      id = sym c.number_at.ensures ∙ grind arith;
      address = c.in_ok-address.ensures.ok;
      seed = sym c.digest_at.ensures ∙ grind arith;
      capacity = sym c.number_at-2.ensures ∙ grind arith;
      buddies = sym c.number_or.ensures ∙ grind arith;
      forward = sym c.flag_or.ensures ∙ grind arith;
      peers = c.in_ok-peers.ensures.ok;
    } in
    λ _. same_ids _ s fields (ap (are_apart c.in_ok-id.id) (sym c.as_slice.ensures) ∙ sym c.are_apart.ensures ∙ grind arith)

pub returns-clause-ok : goal.returns-clause-ok
returns-clause-ok c =
    let s : Settings = record { id = c.in_ok-id.id; address = c.in_ok-address.address; seed = c.in_ok-seed.seed; capacity = c.in_ok-capacity.capacity; buddies = c.in_ok-buddies.buddies; forward = c.in_ok-forward.forward; peers = c.in_ok-peers.peers } in
    let fields : HasFields (table_view c.args.table.now) s = record {
      id = sym c.number_at.ensures ∙ grind arith;
      address = c.in_ok-address.ensures.ok;
      seed = sym c.digest_at.ensures ∙ grind arith;
      capacity = sym c.number_at-2.ensures ∙ grind arith;
      buddies = sym c.number_or.ensures ∙ grind arith;
      forward = sym c.flag_or.ensures ∙ grind arith;
      peers = c.in_ok-peers.ensures.ok;
    } in
    settings_are _ s fields (sym c.has_only_keys.ensures ∙ grind arith) (ap (are_apart c.in_ok-id.id) (sym c.as_slice.ensures) ∙ sym c.are_apart.ensures ∙ grind arith)
