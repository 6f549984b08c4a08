use Rattle.psb_host.proofs.FolderNames.{Ascends}
use Rattle.psb_host.proofs.host_folder.names.are_names.Given as goal

abbrev pub invariant-loop-i : goal.invariant-loop-i
invariant-loop-i l = Ascends l.items l.i
