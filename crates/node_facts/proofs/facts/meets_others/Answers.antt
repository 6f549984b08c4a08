use Rattle.std.proofs.Common.{◌∙◌, Err, ap, subst}
use Rattle.psb_machine.specs.Deals.{meets_others}
use Rattle.node_facts.proofs.Compared.{MeetsBy, look_exact}
use Rattle.node_facts.proofs.facts.meets_others.Goals as goal

pub returns-in-Ok-New-clause-exact : goal.returns-in-Ok-New-clause-exact
returns-in-Ok-New-clause-exact g c = λ tells h es knows are shows.
    let log = c.args.log.now in
    subst (λ r. MeetsBy r (meets_others h c.args.name.now c.args.bytes.now)) c.in-Ok-New.is
    (look_exact c.args.names.now h es c.args.name.now c.args.bytes.now (g.L.Log.size log) (g.L.Log.keeps_body log) c.look.result knows are c.requires.below c.requires.there (g.met.L.Log.holds_size log es shows.bytes shows.reads) (λ k. g.met.L.Log.holds_bodies log es shows.bytes k shows.reads) c.look.ensures.new (c.look.ensures.compared tells es shows))

pub returns-in-Err-Clash-clause-exact : goal.returns-in-Err-Clash-clause-exact
returns-in-Err-Clash-clause-exact g c = λ tells h es knows are shows.
    let log = c.args.log.now in
    subst (λ r. MeetsBy r (meets_others h c.args.name.now c.args.bytes.now)) (c.in-Err-Clash.is ∙ ap Err c.in-Err-Clash.field-0-is)
    (look_exact c.args.names.now h es c.args.name.now c.args.bytes.now (g.L.Log.size log) (g.L.Log.keeps_body log) c.look.result knows are c.requires.below c.requires.there (g.met.L.Log.holds_size log es shows.bytes shows.reads) (λ k. g.met.L.Log.holds_bodies log es shows.bytes k shows.reads) c.look.ensures.new (c.look.ensures.compared tells es shows))

pub returns-in-Err-Altered-clause-exact : goal.returns-in-Err-Altered-clause-exact
returns-in-Err-Altered-clause-exact g c = λ tells h es knows are shows.
    let log = c.args.log.now in
    subst (λ r. MeetsBy r (meets_others h c.args.name.now c.args.bytes.now)) (c.in-Err-Altered.is ∙ ap Err c.in-Err-Altered.field-0-is)
    (look_exact c.args.names.now h es c.args.name.now c.args.bytes.now (g.L.Log.size log) (g.L.Log.keeps_body log) c.look.result knows are c.requires.below c.requires.there (g.met.L.Log.holds_size log es shows.bytes shows.reads) (λ k. g.met.L.Log.holds_bodies log es shows.bytes k shows.reads) c.look.ensures.new (c.look.ensures.compared tells es shows))
