-- The words of the language.
use Rattle.std.specs.Prelude.{ℕ, List, codes}
use Rattle.psb_station.specs.declared.memory.calls.StationCall.{StationCall}
use Rattle.psb_station.specs.declared.memory.calls.StationCall.TheVariants as station
use Rattle.psb_station.specs.declared.call_log.CallKind.{CallKind}
use Rattle.psb_station.specs.declared.call_log.CallKind.TheVariants as folder
use Rattle.psb_cases.specs.declared.words.Outcome.{Outcome}
use Rattle.psb_cases.specs.declared.words.Outcome.TheVariants.{Nothing, All, Filled}

-- the word that names a call of a station
abbrev pub station_word : StationCall → List ℕ
station_word station.Len = codes "len"
station_word station.Read = codes "read"
station_word station.Write = codes "write"
station_word station.Cut = codes "cut"
station_word station.Sync = codes "sync"
station_word station.Join = codes "join"
station_word station.Recv = codes "recv"
station_word station.Send = codes "send"
station_word station.Say = codes "say"

-- the word that names a call of a folder
abbrev pub folder_word : CallKind → List ℕ
folder_word folder.List = codes "list"
folder_word folder.ReadPiece = codes "read_piece"
folder_word folder.MakeFolder = codes "make_folder"
folder_word folder.MakeFile = codes "make_file"
folder_word folder.Append = codes "append"

-- the word that names what a crash leaves
abbrev pub outcome_word : Outcome → List ℕ
outcome_word Nothing = codes "0"
outcome_word All = codes "1"
outcome_word Filled = codes "2"
