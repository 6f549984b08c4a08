use Rattle.std.proofs.Common.{◌∙◌, Err, Ok, ap, subst}
use Rattle.node_core.proofs.Owned.{FoundBy, look_found}
use Rattle.node_core.proofs.node.keeping.fits.Goals as goal

pub returns-in-Ok-clause-told : goal.returns-in-Ok-clause-told
returns-in-Ok-clause-told g c = λ tells h es v knows are shows.
    let log = c.args.log.now in
    subst (λ r. FoundBy r h c.args.name.now c.args.bytes.now) (c.in-Ok.is ∙ ap Ok c.in-Ok.fit-is)
    (look_found c.args.names.now h es c.args.name.now c.args.bytes.now (g.L.Log.size log) (g.L.Log.keeps_body log) c.fit.result v c.requires.named knows are c.requires.below c.requires.there (g.met.L.Log.holds_size log es shows.bytes shows.reads) (λ k. g.met.L.Log.holds_bodies log es shows.bytes k shows.reads) c.fit.ensures.new (c.fit.ensures.compared tells es shows))

pub returns-in-Err-Clash-clause-told : goal.returns-in-Err-Clash-clause-told
returns-in-Err-Clash-clause-told g c = λ tells h es v knows are shows.
    let log = c.args.log.now in
    subst (λ r. FoundBy r h c.args.name.now c.args.bytes.now) (c.in-Err-Clash.is ∙ ap Err c.in-Err-Clash.field-0-is)
    (look_found c.args.names.now h es c.args.name.now c.args.bytes.now (g.L.Log.size log) (g.L.Log.keeps_body log) c.fit.result v c.requires.named knows are c.requires.below c.requires.there (g.met.L.Log.holds_size log es shows.bytes shows.reads) (λ k. g.met.L.Log.holds_bodies log es shows.bytes k shows.reads) c.fit.ensures.new (c.fit.ensures.compared tells es shows))

pub returns-in-Err-Altered-clause-told : goal.returns-in-Err-Altered-clause-told
returns-in-Err-Altered-clause-told g c = λ tells h es v knows are shows.
    let log = c.args.log.now in
    subst (λ r. FoundBy r h c.args.name.now c.args.bytes.now) (c.in-Err-Altered.is ∙ ap Err c.in-Err-Altered.field-0-is)
    (look_found c.args.names.now h es c.args.name.now c.args.bytes.now (g.L.Log.size log) (g.L.Log.keeps_body log) c.fit.result v c.requires.named knows are c.requires.below c.requires.there (g.met.L.Log.holds_size log es shows.bytes shows.reads) (λ k. g.met.L.Log.holds_bodies log es shows.bytes k shows.reads) c.fit.ensures.new (c.fit.ensures.compared tells es shows))
