use Rattle.snapshot_backup.proofs.levels.+keep_levels.Given as goal

abbrev pub decreases-keep_levels : goal.decreases-keep_levels
decreases-keep_levels g l = l.most
