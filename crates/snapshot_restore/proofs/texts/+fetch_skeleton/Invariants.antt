use Rattle.snapshot_restore.proofs.texts.+fetch_skeleton.Given as goal

abbrev pub decreases-fetch_skeleton : goal.decreases-fetch_skeleton
decreases-fetch_skeleton g l = l.levels
