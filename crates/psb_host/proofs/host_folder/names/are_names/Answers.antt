use Rattle.std.proofs.Common.{arith}
use Rattle.psb_host.proofs.FolderNames.{all_valid, all_apart}
use Rattle.psb_host.proofs.host_folder.names.are_names.Goals as goal

pub returns-clause-names : goal.returns-clause-names
returns-clause-names c = λ _. all_valid c.args.items.now (λ k lt. c.loop-i.invariant.valid k (omega (arith, lt)))

pub returns-clause-distinct : goal.returns-clause-distinct
returns-clause-distinct c = λ _. all_apart c.args.items.now c.loop-i.i (omega arith) c.loop-i.invariant
