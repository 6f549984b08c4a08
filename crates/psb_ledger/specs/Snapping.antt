-- The change that makes a snapshot.
use Rattle.psb_model.specs.declared.snapshots.Snapshot.{Snapshot}
use Rattle.psb_model.specs.declared.change.Change.{Change}
use Rattle.psb_model.specs.declared.change.Change.TheVariants.{Snapped}

-- the change that makes a snapshot
abbrev pub change_of : Snapshot → Change
change_of k = Snapped (record { number = k.number; ticket = k.ticket; files = k.files; folders = k.folders; bytes = k.bytes; left = k.left; names = k.names })
