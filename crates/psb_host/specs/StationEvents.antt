-- The calls of a station, each with its answer.
use Rattle.std.specs.Prelude.{ℕ, ◌+◌, Bool, true, false, ◌&&◌, List, [], ◌∷◌, ◌++◌, Some}
use Rattle.psb_station.specs.View.{Heard, Outside}
use Rattle.psb_station.specs.View.Heard.{Joined as WasJoined, Fault as WasFault}

pub data StationEvent : Type 0 where
  -- the length: whether it was told, and it
  Measured : Bool → ℕ → StationEvent
  -- the place, how many bytes were asked for, whether some came, and they
  Read : ℕ → ℕ → Bool → List ℕ → StationEvent
  -- the place, how many bytes went down, whether all did, and all that were given
  Wrote : ℕ → ℕ → Bool → List ℕ → StationEvent
  -- the length, and whether the file was cut to it
  WasCut : ℕ → Bool → StationEvent
  Synced : Bool → StationEvent
  -- what the link or the clock answered
  Answered : Heard → StationEvent
  JoinedAt : ℕ → List ℕ → StationEvent
  -- to whom, whether it went, and the frame
  Sent : ℕ → Bool → List ℕ → StationEvent
  Said : Bool → List ℕ → StationEvent

-- one more where a call failed
abbrev pub counted : Bool → ℕ → ℕ
counted true n = n
counted false n = n + 1

-- no sync has failed
abbrev pub is_usable : List StationEvent → Bool
is_usable [] = true
is_usable (Synced ok ∷ earlier) = ok && is_usable earlier
is_usable (_ ∷ earlier) = is_usable earlier

-- Of a list of events the newest comes first; what it says of the outside is in the order of the calls.
abbrev pub heard_of : List StationEvent → List Heard
heard_of [] = []
heard_of (Answered answer ∷ earlier) = heard_of earlier ++ answer ∷ []
heard_of (JoinedAt id address ∷ earlier) = heard_of earlier ++ WasJoined ∷ []
heard_of (_ ∷ earlier) = heard_of earlier

abbrev pub joined_of : List StationEvent → List (ℕ × List ℕ)
joined_of [] = []
joined_of (JoinedAt id address ∷ earlier) = joined_of earlier ++ (id, address) ∷ []
joined_of (_ ∷ earlier) = joined_of earlier

abbrev pub sent_of : List StationEvent → List (ℕ × List ℕ)
sent_of [] = []
sent_of (Sent to true frame ∷ earlier) = sent_of earlier ++ (to, frame) ∷ []
sent_of (_ ∷ earlier) = sent_of earlier

abbrev pub tried_of : List StationEvent → List (ℕ × List ℕ)
tried_of [] = []
tried_of (Sent to ok frame ∷ earlier) = tried_of earlier ++ (to, frame) ∷ []
tried_of (_ ∷ earlier) = tried_of earlier

abbrev pub said_of : List StationEvent → List ℕ
said_of [] = []
said_of (Said true text ∷ earlier) = said_of earlier ++ text
said_of (_ ∷ earlier) = said_of earlier

abbrev pub link_faults_of : List StationEvent → ℕ
link_faults_of [] = 0
link_faults_of (Answered WasFault ∷ earlier) = link_faults_of earlier + 1
link_faults_of (_ ∷ earlier) = link_faults_of earlier

abbrev pub send_faults_of : List StationEvent → ℕ
send_faults_of [] = 0
send_faults_of (Sent to ok frame ∷ earlier) = counted ok (send_faults_of earlier)
send_faults_of (_ ∷ earlier) = send_faults_of earlier

abbrev pub say_faults_of : List StationEvent → ℕ
say_faults_of [] = 0
say_faults_of (Said ok text ∷ earlier) = counted ok (say_faults_of earlier)
say_faults_of (_ ∷ earlier) = say_faults_of earlier

-- the outside is the record itself, so all of it is always told
abbrev pub outside_of : List StationEvent → Outside
outside_of events = record {
  heard = Some (heard_of events);
  sent = Some (sent_of events);
  tried = Some (tried_of events);
  said = Some (said_of events);
  joined = Some (joined_of events);
  link_faults = link_faults_of events;
  send_faults = send_faults_of events;
  say_faults = say_faults_of events;
}
