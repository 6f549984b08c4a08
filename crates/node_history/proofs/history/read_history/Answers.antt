use Rattle.std.proofs.Common.{sym, ◌∙◌, ap, subst}
use Rattle.node_history.specs.declared.fault.ReadFault.TheVariants.{NotNode}
use Rattle.node_history.specs.declared.history.Tables.{Tables}
use Rattle.slot_places.specs.Slots.{AreBelow}
use Rattle.node_history.specs.Reading.{Reading, NoneLacks, OneLacks}
use Rattle.node_history.proofs.Presence.{ok_map, at_err}
use Rattle.node_history.proofs.Reading.{reading_counted, reading_done, reading_there, reading_below, one_lacks}
use Rattle.node_history.proofs.history.read_history.Goals as goal

pub returns-clause-read : goal.returns-clause-read
returns-clause-read g c =
    let log = c.args.log.now in
    let r = c.read_all.new.self in
    let first = g.D.Disk.view c.args.disk.now in
    let now = g.D.Disk.view c.read_all.new.disk in
    let read = c.in_ok-read_all.ensures in
    ok_map c.finish.result _ _ (λ t is.
    reading_done (g.L.Log.holds log) (g.L.Log.size log) (g.L.Log.keeps_body log) t r.lacking first now (g.met.L.Log.holds_size log) read.some
    (subst (λ (x : Tables). NoneLacks x r.lacking) (sym is.0) is.1)
    (subst (λ (x : Tables). Reading (g.L.Log.holds log) (g.L.Log.keeps_body log) (g.L.Log.size log) x r.lacking first now) (sym is.0) read.read))
    c.finish.ensures.read

pub returns-clause-counted : goal.returns-clause-counted
returns-clause-counted g c =
    let log = c.args.log.now in
    let r = c.read_all.new.self in
    ok_map c.finish.result _ _ (λ t is.
    ap (λ (x : Tables). x.ledger.state.changes) is.0
    ∙ reading_counted (g.L.Log.holds log) (g.L.Log.keeps_body log) (g.L.Log.size log) r.tables r.lacking (g.D.Disk.view c.args.disk.now) (g.D.Disk.view c.read_all.new.disk) c.in_ok-read_all.ensures.read)
    c.finish.ensures.read

pub returns-clause-there : goal.returns-clause-there
returns-clause-there g c =
    let log = c.args.log.now in
    let r = c.read_all.new.self in
    let first = g.D.Disk.view c.args.disk.now in
    let now = g.D.Disk.view c.read_all.new.disk in
    ok_map c.finish.result _ _ (λ t is.
    reading_there (g.L.Log.holds log) (g.L.Log.size log) (g.L.Log.keeps_body log) t r.lacking first now
    (subst (λ (x : Tables). NoneLacks x r.lacking) (sym is.0) is.1)
    (subst (λ (x : Tables). Reading (g.L.Log.holds log) (g.L.Log.keeps_body log) (g.L.Log.size log) x r.lacking first now) (sym is.0) c.in_ok-read_all.ensures.read))
    c.finish.ensures.read

pub returns-clause-below : goal.returns-clause-below
returns-clause-below g c =
    let log = c.args.log.now in
    let r = c.read_all.new.self in
    ok_map c.finish.result _ _ (λ t is.
    subst (λ (x : Tables). AreBelow x.slots (g.L.Log.size log)) (sym is.0)
    (reading_below (g.L.Log.holds log) (g.L.Log.size log) (g.L.Log.keeps_body log) r.tables r.lacking (g.D.Disk.view c.args.disk.now) (g.D.Disk.view c.read_all.new.disk) c.in_ok-read_all.ensures.read))
    c.finish.ensures.read

pub returns-clause-not_node : goal.returns-clause-not_node
returns-clause-not_node g c = λ is.
    let log = c.args.log.now in
    let r = c.read_all.new.self in
    one_lacks (g.L.Log.holds log) (g.L.Log.size log) (g.L.Log.keeps_body log) r.tables r.lacking (g.D.Disk.view c.args.disk.now) (g.D.Disk.view c.read_all.new.disk) (g.met.L.Log.holds_size log)
    (at_err c.finish.result NotNode (OneLacks r.tables r.lacking) is c.finish.ensures.not_node)
    c.in_ok-read_all.ensures.read
