use Rattle.std.proofs.Common.{◌≡◌, ℕ, List, [], Option, ap, ◌∙◌, sym, subst, arith}
use Rattle.rolling_chunks.specs.Cuts.{longest}
use Rattle.rolling_chunks.specs.Pushes.{Progress, progress, IsFinish}
use Rattle.rolling_chunks.proofs.Pushing.{progress-nil, IsFinish-left, IsFinish-none}
use Rattle.rolling_chunks.proofs.cutter.Cutter.finish.Goals as goal
use Rattle.rolling_chunks.proofs.cutter.Cutter.finish.Goals.{then-len-gt0, else-len-gt0}

pub returns : goal.returns
returns c =
    let old = c.args.self.now in
    let new : Progress = record { window = c.clear.new.self; len = c.take-len.new.dest } in
    let empty : new ≡ record { window = []; len = 0 } =
    ap (λ (w : List ℕ). let p : Progress = record { window = w; len = c.take-len.new.dest } in p) c.clear.ensures
    ∙ ap (λ (n : ℕ). let p : Progress = record { window = []; len = n } in p) c.take-len.ensures.after in
    let anew : new ≡ progress longest [] = empty ∙ progress-nil longest in
    let len : old.len ≡ c.take-len.result = ap (λ (p : Progress). p.len) (sym c.self.view_is) ∙ sym c.take-len.ensures.value in
    elim c.if-len-gt0.branch [
      | then-len-gt0 w ↦ subst (λ (a : Option ℕ). IsFinish longest old a new) (sym w.result-is) (IsFinish-left longest old new c.take-len.result len (omega arith) anew)
      | else-len-gt0 w ↦ subst (λ (a : Option ℕ). IsFinish longest old a new) (sym w.result-is) (IsFinish-none longest old new (omega arith) anew)
    ]
