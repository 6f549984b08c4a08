use Rattle.std.proofs.Common.{◌≡◌, ℕ, List, rules, sym, ◌∙◌, ap}
use Rattle.psb_model.specs.Words.{name_listed}
use Rattle.psb_model.specs.Conditions.{names_ascend}
use Rattle.snapshot_backup.proofs.NameSets.{has_listed, keys_ascend}
use Rattle.snapshot_backup.proofs.naming.Names.list.Goals as goal

pub returns-clause-ascend : goal.returns-clause-ascend
returns-clause-ascend c =
    let all : c.from_vec.result ≡ c.args.self.now.names.keys = search rules in
    ap names_ascend all ∙ keys_ascend c.args.self.now.names.keys c.len.ensures.ordered

pub returns-clause-same : goal.returns-clause-same
returns-clause-same c = λ q.
    let all : c.from_vec.result ≡ c.args.self.now.names.keys = search rules in
    ap (λ (l : List (List ℕ)). name_listed l q) all ∙ sym (has_listed c.args.self.now.names.keys q)
