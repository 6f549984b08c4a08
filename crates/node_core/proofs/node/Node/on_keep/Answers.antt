use Rattle.std.proofs.Common.{rules, arith, subst}
use Rattle.psb_model.specs.History.{state}
use Rattle.node_core.specs.Refusing.{Compared}
use Rattle.node_history.proofs.Presence.{one_there}
use Rattle.node_core.proofs.Owned.{found_stored, keep_fits, keep_may_come, keeps_new, keeps_taken, new_is}
use Rattle.node_core.proofs.node.Node.on_keep.Goals as goal

pub fits-requires-clause-below : goal.fits-requires-clause-below
fits-requires-clause-below g c = one_there _ _ (λ k is. (c.requires.counted.bodies c.args.name.now k is).0)

pub returns-in-Err-clause-compared : goal.returns-in-Err-clause-compared
returns-in-Err-clause-compared g c = λ tells n k s.
    subst (λ r. Compared n.history c.args.name.now c.args.bytes.now r) c.in-Err.is
    (found_stored g.L.Log.holds c.args.self.now n (g.D.Disk.view c.args.disk.now) c.args.name.now c.args.bytes.now c.fits.result k s (λ v knows are. c.fits.ensures.told tells s.less s.records v knows are s.shows))

pub returns-then-holds-clause-compared : goal.returns-then-holds-clause-compared
returns-then-holds-clause-compared g c = λ tells n k s.
    subst (λ r. Compared n.history c.args.name.now c.args.bytes.now r) c.in-Ok.is
    (found_stored g.L.Log.holds c.args.self.now n (g.D.Disk.view c.args.disk.now) c.args.name.now c.args.bytes.now c.fits.result k s (λ v knows are. c.fits.ensures.told tells s.less s.records v knows are s.shows))

pub returns-clause-compared : goal.returns-clause-compared
returns-clause-compared g c = λ tells n k s.
    subst (λ r. Compared n.history c.args.name.now c.args.bytes.now r) c.in-Ok.is
    (found_stored g.L.Log.holds c.args.self.now n (g.D.Disk.view c.args.disk.now) c.args.name.now c.args.bytes.now c.fits.result k s (λ v knows are. c.fits.ensures.told tells s.less s.records v knows are s.shows))

pub returns-clause-exact : goal.returns-clause-exact
returns-clause-exact g c = λ tells n k s.
    keeps_new c.made.result c.args.self.now n c.args.name.now c.args.bytes.now c.in_ok-change.change (search rules) (search rules) (search rules) (search rules) (search rules) k
    (returns-clause-compared g c tells n k s)
    (c.in_ok-change.ensures (state n.history) (new_is c.args.self.now.names n.history c.args.name.now c.eq.result k.names (search rules)))

pub returns-clause-may : goal.returns-clause-may
returns-clause-may g c =
    keep_may_come c.made.result c.args.self.now c.args.name.now c.args.bytes.now c.in_ok-change.change (search rules) (keep_fits c.args.name.now c.args.bytes.now c.requires.named c.requires.some c.requires.short (λ k. omega (arith, c.type_inv.bytes k))) c.requires.known (search rules) c.requires.few
    (λ n k. c.in_ok-change.ensures (state n.history) (new_is c.args.self.now.names n.history c.args.name.now c.eq.result k.names (search rules)))

pub returns-clause-taken : goal.returns-clause-taken
returns-clause-taken g c = λ n k.
    keeps_taken c.made.result c.args.self.now n c.args.name.now c.args.bytes.now c.in_ok-change.change (search rules) (search rules) (search rules) (search rules) (search rules) k
    (c.in_ok-change.ensures (state n.history) (new_is c.args.self.now.names n.history c.args.name.now c.eq.result k.names (search rules)))
