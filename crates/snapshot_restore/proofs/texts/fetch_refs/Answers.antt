use Rattle.std.proofs.Common.{◌∙◌, sym, ap, subst}
use Rattle.skeleton.specs.Answers.{IsRefusalOf}
use Rattle.skeleton.specs.Reading.{refs_of}
use Rattle.snapshot_restore.proofs.LevelRuns.{list_bad, list_failed}
use Rattle.snapshot_restore.proofs.texts.fetch_refs.Goals as goal

pub returns-in-Err-Bad-clause-stopped : goal.returns-in-Err-Bad-clause-stopped
returns-in-Err-Bad-clause-stopped g c =
    let read = c.in-Ok.ensures.read in
    let text = sym (c.deref.ensures.value ∙ read.2) in
    list_bad g.L.Log.holds g.L.Log.stands g.L.Log.is_broken g.met.L.Log.holds_stands c.args.waiting.now c.fetch_text.new.waiting c.args.node.now c.fetch_text.new.node (g.S.Disk.view c.args.station.now) (g.S.Disk.view c.fetch_text.new.station) c.args.refs.now read.0 c.in-Err-Bad.fault c.in-Err-Bad.place
    read.1 (ap refs_of text ∙ subst (λ e. IsRefusalOf e (refs_of c.deref.result.now)) c.in-Err-Bad.field-0-is c.in-Err-Bad.ensures.bad) read.3

pub returns-clause-stopped : goal.returns-clause-stopped
returns-clause-stopped g c =
    let read = c.in-Ok.ensures.read in
    list_failed g.L.Log.holds g.L.Log.stands g.L.Log.is_broken g.met.L.Log.holds_stands c.args.waiting.now c.fetch_text.new.waiting c.args.node.now c.fetch_text.new.node (g.S.Disk.view c.args.station.now) (g.S.Disk.view c.fetch_text.new.station) c.args.refs.now read.0 read.1 read.3
