use Rattle.std.proofs.Common.{◌≡◌, ◌+◌, ◌-◌, ◌≤◌, Bool, true, false, length, take, drop, Vec, Global, refl, ap, ◌∙◌, subst, arith, length-drop}
use Rattle.std.proofs.lemmas.Bool.{not-true, not-false}
use Rattle.std.proofs.lemmas.List.{length-take-le}
use Rattle.rolling_chunks.specs.Cuts.{longest}
use Rattle.rolling_chunks.specs.Pushes.{Runs}
use Rattle.rolling_chunks.specs.declared.spans.Span.{Span}
use Rattle.rolling_chunks.proofs.Covering.{Cutting-start, Cutting-run, Cutting-rest, Cutting-same, spans-none, spans-some}
use Rattle.rolling_chunks.proofs.spans.cut_all.Goals as goal
use Rattle.rolling_chunks.proofs.spans.cut_all.Goals.{in-Some+in_ok-push-2, in_default}

pub loop-run-init : goal.loop-run-init
loop-run-init c = record { within = omega arith; cutting = Cutting-start longest c.args.text.now c.in_ok-cutter.cutter c.new-spans.result.items c.in_ok-cutter.ensures c.new-spans.ensures.items }

pub loop-run-preserved : goal.loop-run-preserved
loop-run-preserved c =
    let text = c.args.text.now in
    let start = c.loop-run.start in
    let run = c.push_to_cut-run.result in
    let ends : run.ends ≡ true = not-false run.ends c.if-not-run.false in
    let within : start + run.len ≤ length text = omega (arith, c.loop-run.invariant.within, c.push_to_cut-run.ensures.within, length-take-le (length text - start) (drop start text) (omega (arith, length-drop start text))) in
    let runs = subst (λ (b : Bool). Runs longest c.loop-run.cutter (take run.len (take (length text - start) (drop start text))) b c.push_to_cut-run.new.self) ends c.push_to_cut-run.ensures.runs in
    let next = Cutting-run longest text start run.len c.loop-run.cutter c.push_to_cut-run.new.self c.loop-run.spans.items within c.loop-run.invariant.cutting runs in
    record { within = within; cutting = Cutting-same longest text (start + run.len) c.push_to_cut-run.new.self _ c.push.new.self.items (start + run.len) (start + run.len) next c.in_ok-push.ensures.items refl }

pub returns : goal.returns
returns c =
    let text = c.args.text.now in
    let start = c.loop-run.start in
    let done = c.loop-run.spans.items in
    let run = c.push_to_cut-run.result in
    let ends : run.ends ≡ false = not-true run.ends c.if-not-run.true in
    let runs = subst (λ (b : Bool). Runs longest c.loop-run.cutter (take run.len (take (length text - start) (drop start text))) b c.push_to_cut-run.new.self) ends c.push_to_cut-run.ensures.runs in
    let all = Cutting-rest longest text start run.len c.loop-run.cutter c.push_to_cut-run.new.self done c.loop-run.invariant.within (c.push_to_cut-run.ensures.all ends) c.loop-run.invariant.cutting runs in
    elim c.match-finish.branch [
      | in-Some+in_ok-push-2 w ↦
          ap (λ (v : Vec Span Global). v.items) w.spans-is ∙ w.in_ok-push-2.ensures.items
          ∙ spans-some longest text (length text) w.in-Some.len c.push_to_cut-run.new.self c.finish.new.self done start (omega arith) all w.in-Some.ensures
      | in_default w ↦
          ap (λ (v : Vec Span Global). v.items) w.spans-is ∙ spans-none longest text (length text) c.push_to_cut-run.new.self c.finish.new.self done start (omega arith) all w.in_default.ensures
    ]
