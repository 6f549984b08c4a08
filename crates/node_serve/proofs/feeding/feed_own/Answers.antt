use Rattle.std.proofs.Common.{◌≡◌, false, ap, sym, ◌∙◌, rules}
use Rattle.node_letters.specs.Letters.{letters_of}
use Rattle.node_core.specs.Inputs.{input_of}
use Rattle.node_history.proofs.Presence.{err_as}
use Rattle.node_serve.proofs.OneTurn.{Now, refused}
use Rattle.node_serve.proofs.OwnInputs.{absorbed}
use Rattle.node_serve.proofs.Runs.{ready_after}
use Rattle.node_serve.proofs.feeding.feed_own.Goals as goal

pub returns-clause-fed : goal.returns-clause-fed
returns-clause-fed g c = λ tells n k st.
    let v1 = g.D.Disk.view c.args.disk.now in
    let v2 = g.D.Disk.view c.absorb.new.disk in
    let now1 : Now v1 = record { counts = λ t i le left. g.met.D.Disk.counts_now c.args.disk.now t i le left; only = λ i k left. g.met.D.Disk.only_now c.args.disk.now i k left } in
    let now2 : Now v2 = record { counts = λ t i le left. g.met.D.Disk.counts_now c.absorb.new.disk t i le left; only = λ i k left. g.met.D.Disk.only_now c.absorb.new.disk i k left } in
    refused g.L.Log.holds g.L.Log.stands g.L.Log.is_broken g.met.L.Log.holds_stands c.args.node.now c.absorb.new.self n v1 v2 (input_of c.args.input.now) now1 now2 k st c.absorb.ensures.works tells
    (c.absorb.ensures.any_moment c.requires.whole tells n k st) c.in-Err.ensures.kept

pub returns-in-Ok-clause-fed : goal.returns-in-Ok-clause-fed
returns-in-Ok-clause-fed g c = λ tells n k st.
    let v1 = g.D.Disk.view c.args.disk.now in
    let v2 = g.D.Disk.view c.absorb.new.disk in
    let machine = c.in-Ok.ensures.machine tells n k st in
    absorbed g.L.Log.holds g.L.Log.stands g.L.Log.is_broken g.met.L.Log.holds_stands c.args.node.now c.absorb.new.self n v1 v2 (input_of c.args.input.now) k c.absorb.ensures.works tells
    (c.absorb.ensures.any_moment c.requires.whole tells n k st) machine.0 (c.in-Ok.ensures.disk tells n k st) (sym (ap letters_of (c.in-Ok.ensures.untold c.requires.own)) ∙ machine.1)

pub returns-in-Ok-clause-ready : goal.returns-in-Ok-clause-ready
returns-in-Ok-clause-ready g c =
    let v1 = g.D.Disk.view c.args.disk.now in
    let v2 = g.D.Disk.view c.absorb.new.disk in
    let whole : g.L.Log.is_broken c.absorb.new.self.log ≡ false = search rules in
    ready_after g.L.Log.holds g.L.Log.stands g.L.Log.is_broken g.met.L.Log.holds_stands c.args.node.now c.absorb.new.self v1 v2 whole c.requires.ready c.absorb.ensures.works.tells c.in-Ok.ensures.known
    (λ tells n k s. let f = returns-in-Ok-clause-fed g c tells n k s in (_, f.knows whole, f.stored whole))

pub returns-clause-clash : goal.returns-clause-clash
returns-clause-clash g c = λ p is tells n k s. c.in-Err.ensures.clash p (err_as _ _ is) tells n k s
