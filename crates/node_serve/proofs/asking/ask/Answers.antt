use Rattle.std.proofs.Common.{◌≡◌, ◌∙◌, List, ℕ, Some, true, ap, subst, arith}
use Rattle.psb_machine.specs.Commands.{gets}
use Rattle.node_letters.specs.Letters.{letters_of}
use Rattle.node_serve.specs.Asks.{sends, only_lost}
use Rattle.node_serve.specs.Spans.{Fed}
use Rattle.node_serve.proofs.Asked.{asked, few_gets}
use Rattle.node_serve.proofs.asking.ask.Goals as goal

pub send_all-requires : goal.send_all-requires
send_all-requires g c =
    let k = c.requires.known in
    let st = k.1.settings.settings in
    let few = few_gets c.args.node.now k.0 c.as_slice.result.now c.args.name.now k.1 (ap letters_of c.as_slice.ensures ∙ c.in-Ok.ensures.gets k.0 st k.1 k.1.settings.present) in
    omega (arith, few)

pub returns-clause-asked : goal.returns-clause-asked
returns-clause-asked g c = λ tells n settings k present stored.
    let v1 = g.S.Disk.view c.args.station.now in
    let v2 = g.S.Disk.view c.send_all.new.station in
    let are : letters_of c.as_slice.result.now ≡ gets settings c.args.name.now = ap letters_of c.as_slice.ensures ∙ c.in-Ok.ensures.gets n settings k present in
    subst (λ (l : List (ℕ × List ℕ)). Fed g.L.Log.holds g.L.Log.stands g.L.Log.is_broken c.args.node.now c.args.node.now v1 v2 n (sends l) (Some (only_lost c.send_all.result)) true) are
    (asked g.L.Log.holds g.L.Log.stands g.L.Log.is_broken g.met.L.Log.holds_stands c.args.node.now n v1 v2 (letters_of c.as_slice.result.now) c.send_all.result k tells stored c.send_all.ensures.sends)
