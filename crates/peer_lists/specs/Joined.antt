-- The entry that an object and what is said of it are.
use Rattle.psb_bytes.specs.declared.ids.Object.{Object}
use Rattle.psb_model.specs.declared.entries.InEntry.{InEntry}
use Rattle.psb_model.specs.declared.entries.InState.{InState}
use Rattle.psb_model.specs.declared.entries.OutEntry.{OutEntry}
use Rattle.psb_model.specs.declared.entries.OutState.{OutState}
use Rattle.peer_lists.specs.declared.entry.Holding.{Holding}

abbrev pub in_joined : Object → Holding InState → InEntry
in_joined o h = record { object = o; units = h.units; state = h.state }

abbrev pub out_joined : Object → Holding OutState → OutEntry
out_joined o h = record { object = o; units = h.units; state = h.state }
