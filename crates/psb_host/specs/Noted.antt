-- What a call that is noted puts into a record.
use Rattle.std.specs.Prelude.{List, [], ◌∷◌, Some, None, Ok, Err, is_ok, true, false}
use Rattle.psb_station.specs.View.Heard.{Frame, Nothing, Clock, Fault}
use Rattle.psb_station.specs.declared.folder.FolderError.TheVariants as list_error
use Rattle.psb_host.specs.StationEvents.{StationEvent, Measured, Read, Wrote, WasCut, Synced, Answered, JoinedAt, Sent, Said}
use Rattle.psb_host.specs.FolderEvents.{FolderEvent, Listed, NotKept, Piece, MadeFolder, MadeFile, Added}
use Rattle.psb_host.specs.declared.call.Call.{Call}
use Rattle.psb_host.specs.declared.call.Call.TheVariants as call

-- an event of a station or of a folder
pub data Event : Type 0 where
  OfStation : StationEvent → Event
  OfFolder : FolderEvent → Event

abbrev pub event_of : Call → Event
event_of (call.Len (Ok n)) = OfStation (Measured true n)
event_of (call.Len (Err e)) = OfStation (Measured false 0)
event_of (call.Read at n came answer) = OfStation (Read at n (is_ok answer) came.now)
event_of (call.Write at given down answer) = OfStation (Wrote at down (is_ok answer) given.now)
event_of (call.Cut n answer) = OfStation (WasCut n (is_ok answer))
event_of (call.Sync answer) = OfStation (Synced (is_ok answer))
event_of (call.Join id address (Ok _)) = OfStation (JoinedAt id address.now)
event_of (call.Join id address (Err e)) = OfStation (Answered Fault)
event_of (call.Recv (Ok (Some frame))) = OfStation (Answered (Frame frame.now))
event_of (call.Recv (Ok None)) = OfStation (Answered Nothing)
event_of (call.Recv (Err e)) = OfStation (Answered Fault)
event_of (call.Send to frame answer) = OfStation (Sent to (is_ok answer) frame.now)
event_of (call.Say text answer) = OfStation (Said (is_ok answer) text.now)
event_of (call.Now time) = OfStation (Answered (Clock time))
event_of (call.List path items (Ok _)) = OfFolder (Listed path.now (Some items.now))
event_of (call.List path items (Err list_error.Failed)) = OfFolder (Listed path.now None)
event_of (call.List path items (Err list_error.Memory)) = OfFolder (NotKept path.now)
event_of (call.ReadPiece path at n came answer) = OfFolder (Piece path.now at n (is_ok answer) came.now)
event_of (call.MakeFolder path answer) = OfFolder (MadeFolder path.now (is_ok answer))
event_of (call.MakeFile path answer) = OfFolder (MadeFile path.now (is_ok answer))
event_of (call.Append path given down answer) = OfFolder (Added path.now down (is_ok answer) given.now)

-- the events of a station among them
abbrev pub station_events : List Event → List StationEvent
station_events [] = []
station_events (OfStation e ∷ earlier) = e ∷ station_events earlier
station_events (OfFolder e ∷ earlier) = station_events earlier

-- the events of a folder among them
abbrev pub folder_events : List Event → List FolderEvent
folder_events [] = []
folder_events (OfFolder e ∷ earlier) = e ∷ folder_events earlier
folder_events (OfStation e ∷ earlier) = folder_events earlier
