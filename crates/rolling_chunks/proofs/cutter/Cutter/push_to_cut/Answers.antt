use Rattle.std.proofs.Common.{◌≡◌, ℕ, ◌+◌, ◌-◌, Bool, false, if◌then◌else◌, List, take, drop, refl, sym, ap, ◌∙◌, subst, arith}
use Rattle.std.proofs.lemmas.List.{take-take, length-take-le}
use Rattle.rolling_chunks.specs.Cuts.{longest}
use Rattle.rolling_chunks.specs.Pushes.{Progress, Runs}
use Rattle.rolling_chunks.proofs.Running.{runs_behind}
use Rattle.rolling_chunks.proofs.cutter.Cutter.push_to_cut.Goals as goal
use Rattle.rolling_chunks.proofs.cutter.Cutter.push_to_cut.Goals.{then-run, else-run}

pub returns-clause-runs : goal.returns-clause-runs
returns-clause-runs c =
    let old = c.args.self.now in
    let bytes = c.args.bytes.now in
    let front = c.push_each-front.result in
    let run = c.run_on-run.result in
    let inside : Progress = record { window = c.self.inside.window; len = c.self.inside.len } in
    let most : c.min.result ≡ 48 = omega arith in
    let count : front.len ≡ 48 = c.push_each-front.ensures.all c.if-front.false ∙ length-take-le c.min.result bytes (omega arith) ∙ most in
    let begun : take front.len (take c.min.result bytes) ≡ take 48 bytes = take-take front.len c.min.result bytes (omega arith) ∙ ap (λ (n : ℕ). take n bytes) count in
    let runs : Runs longest old (take 48 bytes) false inside =
    subst (λ (p : Progress). Runs longest old (take 48 bytes) false p) (sym c.self.view_is)
    (subst (λ (b : Bool). Runs longest old (take 48 bytes) b c.push_each-front.new.self) c.if-front.false
    (subst (λ (l : List ℕ). Runs longest old l front.ends c.push_each-front.new.self) begun c.push_each-front.ensures.runs)) in
    let len : c.if-run.self ≡ (if run.ends then 0 else inside.len + (run.len - 48)) =
    elim c.if-run.branch [
      | then-run w ↦ w.self-is ∙ ap (λ (b : Bool). if b then 0 else inside.len + (run.len - 48)) (sym w.if-run.true)
      | else-run w ↦ w.self-is ∙ ap (λ (b : Bool). if b then 0 else inside.len + (run.len - 48)) (sym w.if-run.false)
    ] in
    runs_behind longest old inside bytes (take (run.len - 48) (drop 48 bytes)) c.push_all.new.self run.len c.if-run.self run.ends c.run_on-run.ensures.after c.run_on-run.ensures.within runs
    c.run_on-run.ensures.before c.run_on-run.ensures.ends refl c.push_all.ensures len
