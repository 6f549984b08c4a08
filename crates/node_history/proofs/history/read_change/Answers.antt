use Rattle.std.proofs.Common.{◌≡◌, List, ℕ, sym, subst, false, IfSome, slice_get, rules}
use Rattle.psb_model.specs.declared.change.Change.{Change}
use Rattle.change_codec.specs.Records.{IsRecord}
use Rattle.node_history.specs.Readable.{IsReadable}
use Rattle.node_history.proofs.Presence.{given_up, ok_map}
use Rattle.node_history.proofs.history.read_change.Goals as goal

pub returns-else-has_body-clause-record_is : goal.returns-else-has_body-clause-record_is
returns-else-has_body-clause-record_is g c =
    ok_map c.change_of-else-has_body.result _ _ (λ d is tells es shows.
    given_up (λ head body. IsRecord d head body) (slice_get es c.args.number) c.deref-else-has_body.result.now _
    (subst (λ (l : List ℕ). IfSome (slice_get es c.args.number) (λ e. l ≡ e.head)) (sym c.deref-else-has_body.ensures.value) (c.in_ok-head.ensures.bytes tells es shows))
    (g.met.L.Log.holds_bodies c.args.log.now es shows.bytes c.args.number shows.reads)
    (let kept : g.L.Log.keeps_body c.args.log.now c.args.number ≡ false = search rules in kept)
    is)
    c.change_of-else-has_body.ensures.record_is

pub returns-else-has_body-clause-not_node : goal.returns-else-has_body-clause-not_node
returns-else-has_body-clause-not_node g c = λ is_not tells es shows.
    given_up (λ head body. (d : Change) → IsReadable d → ¬ IsRecord d head body) (slice_get es c.args.number) c.deref-else-has_body.result.now _
    (subst (λ (l : List ℕ). IfSome (slice_get es c.args.number) (λ e. l ≡ e.head)) (sym c.deref-else-has_body.ensures.value) (c.in_ok-head.ensures.bytes tells es shows))
    (g.met.L.Log.holds_bodies c.args.log.now es shows.bytes c.args.number shows.reads)
    (let kept : g.L.Log.keeps_body c.args.log.now c.args.number ≡ false = search rules in kept)
    (c.change_of-else-has_body.ensures.not_node is_not)
