-- A worked world of two nodes, so that the definitions can be seen at work: a Store is lost and sent again, its receiver
-- stops before the reply was sent, and Store and reply come twice.
use Rattle.std.specs.Prelude.{◌≡◌, ℕ, true, false, ◌==◌, if◌then◌else◌, List, [], ◌∷◌, codes, Some, None}
use Rattle.psb_bytes.specs.declared.ids.Object.TheVariants.{Chunk, Slot}
use Rattle.psb_digest.specs.Hashes.{sha}
use Rattle.psb_settings.specs.Settings.{settings_of}
use Rattle.psb_settings.specs.declared.settings.Settings.{Settings}
use Rattle.psb_model.specs.State.{row, in_key, out_key}
use Rattle.psb_model.specs.Words.{has, name_eq}
use Rattle.psb_model.specs.History.{state}
use Rattle.psb_model.specs.Needed.{last_brought}
use Rattle.model_laws.specs.Worked.{bytes_from, plain_ticket}
use Rattle.psb_model.specs.declared.change.Change.{Change}
use Rattle.psb_model.specs.declared.change.Change.TheVariants.{Begun, Kept, Snapped, Chose, TookFresh, Proposed, Settled}
use Rattle.psb_model.specs.declared.deals.DealWhat.TheVariants.{Fresh}
use Rattle.wire_codec.specs.Frames.{datagram}
use Rattle.wire_codec.specs.declared.frame.Frame.TheVariants.{Store, Accepted}
use Rattle.psb_machine.specs.Deals.{claims_joined}
use Rattle.psb_machine.specs.Replies.{claims_from}
use Rattle.psb_machine.specs.Volatile.{Volatile}
use Rattle.psb_machine.specs.Machine.{Datagram, Tick, fresh}
use Rattle.agreement.specs.Worlds.{Party, Move, Give, Stop, Restart, World, Step, moved, run}
use Rattle.model_laws.specs.Finding.{answer, proposed}
use Rattle.placing_laws.specs.Placing.{last_placed}

-- the chunk, and the name that the standard gives as its SHA-256
abbrev pub chunk : List ℕ
chunk = codes "abc"

abbrev pub name : List ℕ
name = 186 ∷ 120 ∷ 22 ∷ 191 ∷ 143 ∷ 1 ∷ 207 ∷ 234 ∷ 65 ∷ 65 ∷ 64 ∷ 222 ∷ 93 ∷ 174 ∷ 34 ∷ 35 ∷ 176 ∷ 3 ∷ 97 ∷ 163 ∷ 150 ∷ 23 ∷ 122 ∷ 156 ∷ 180 ∷ 16 ∷ 255 ∷ 97 ∷ 242 ∷ 0 ∷ 21 ∷ 173 ∷ []

-- two nodes, each the other's one peer
abbrev pub pair_key : List ℕ
pair_key = bytes_from 64 32

abbrev pub address_of : ℕ → List ℕ
address_of k = if k == 1 then codes "127.0.0.1:7001" else codes "127.0.0.1:7002"

abbrev pub node_settings : ℕ → ℕ → Settings
node_settings own peer = record {
  id = own;
  address = address_of own;
  seed = bytes_from own 32;
  capacity = 1048576;
  buddies = 1;
  forward = false;
  peers = record { id = peer; address = address_of peer; key = pair_key; hops = 0 } ∷ [];
}

-- ---- histories

-- Node 1 keeps a chunk, has a snapshot that lists it, and chose node 2.
abbrev pub chosen : List ℕ → List Change
chosen text =
    Begun (record { body = Some text })
    ∷ Kept (record { name = name; len = 3; new = true; body = Some chunk })
    ∷ Snapped (record { number = 1; ticket = plain_ticket; files = 1; folders = 0; bytes = 3; left = 0; names = name ∷ [] })
    ∷ Chose (record { candidates = record { peer = 2; got = 0; of = 1; hops = 0 } ∷ [] })
    ∷ []

-- then it proposes to place the chunk there
abbrev pub asked : List ℕ → List Change
asked text =
    Begun (record { body = Some text })
    ∷ Kept (record { name = name; len = 3; new = true; body = Some chunk })
    ∷ Snapped (record { number = 1; ticket = plain_ticket; files = 1; folders = 0; bytes = 3; left = 0; names = name ∷ [] })
    ∷ Chose (record { candidates = record { peer = 2; got = 0; of = 1; hops = 0 } ∷ [] })
    ∷ Proposed (record { peer = 2; deal = 1; what = Fresh name })
    ∷ []

-- and then it is settled, with the other's claim 0
abbrev pub placed : List ℕ → List Change
placed text =
    Begun (record { body = Some text })
    ∷ Kept (record { name = name; len = 3; new = true; body = Some chunk })
    ∷ Snapped (record { number = 1; ticket = plain_ticket; files = 1; folders = 0; bytes = 3; left = 0; names = name ∷ [] })
    ∷ Chose (record { candidates = record { peer = 2; got = 0; of = 1; hops = 0 } ∷ [] })
    ∷ Proposed (record { peer = 2; deal = 1; what = Fresh name })
    ∷ Settled (record { peer = 2; deal = 1; slots = 0 ∷ []; body = Some (claims_joined (claims_from (bytes_from 2 32) 0 1)) })
    ∷ []

-- Node 2 did nothing yet, and then took the chunk.
abbrev pub quiet_yet : List ℕ → List Change
quiet_yet text = Begun (record { body = Some text }) ∷ []

abbrev pub took : List ℕ → List Change
took text = Begun (record { body = Some text }) ∷ TookFresh (record { peer = 1; deal = 1; name = name; first = 0; len = 3; new = true; body = Some chunk }) ∷ []

-- ---- letters

-- node 1 asks, and node 2 answers with its claim 0
abbrev pub store : ℕ × List ℕ
store = (2, datagram pair_key 1 2 1 (Store name [] chunk))

abbrev pub accepted : ℕ × List ℕ
accepted = (1, datagram pair_key 2 1 1 (Accepted (claims_from (bytes_from 2 32) 0 1)))

-- ---- what is done

-- a node with this history, the clock of its peer and these letters
abbrev pub clock_of : ℕ → ℕ → Volatile
clock_of peer ticks = record { peers = (peer, record { clock = ticks; wait = 0; sample = None; began = None; ended = 0 }) ∷ [] }

abbrev pub first_node : List Change → ℕ → List (ℕ × List ℕ) → Party
first_node h ticks sent = record { now = record { history = h; volatile = clock_of 2 ticks }; sent = sent }

-- a node that was opened, or opened again
abbrev pub opened : List Change → List (ℕ × List ℕ) → Party
opened h sent = record { now = fresh h; sent = sent }

-- a datagram comes
abbrev pub comes : ℕ × List ℕ → Move
comes letter = Give (Datagram letter.1)

-- Node 1 asks at the first tick and again at the second; a stop, or being opened again, makes it forget its clock and
-- nothing else. Node 2 stops when the Store comes, once before its change was made and once after, before the reply was
-- sent. From then on each Store that comes makes no change, but is answered. The first reply settles the deal, and the next
-- one does nothing.
pub record StepsWorked (text other : List ℕ) : Type 0 where
  pub asks : moved (opened (chosen text) []) (Give (Tick 2)) ≡ first_node (asked text) 1 (store ∷ [])
  pub asks_again : moved (first_node (asked text) 1 (store ∷ [])) (Give (Tick 2)) ≡ first_node (asked text) 2 (store ∷ store ∷ [])
  pub forgets : moved (first_node (asked text) 1 (store ∷ [])) (Stop (Tick 2) true) ≡ opened (asked text) (store ∷ [])
  pub restarts : moved (first_node (asked text) 1 (store ∷ [])) Restart ≡ opened (asked text) (store ∷ [])
  pub stops_before : moved (opened (quiet_yet other) []) (Stop (Datagram store.1) false) ≡ opened (quiet_yet other) []
  pub stops_after : moved (opened (quiet_yet other) []) (Stop (Datagram store.1) true) ≡ opened (took other) []
  pub answers : moved (opened (took other) []) (comes store) ≡ opened (took other) (accepted ∷ [])
  pub answers_again : moved (opened (took other) (accepted ∷ [])) (comes store) ≡ opened (took other) (accepted ∷ accepted ∷ [])
  pub settles : moved (first_node (asked text) 2 (store ∷ store ∷ [])) (comes accepted) ≡ first_node (placed text) 2 (store ∷ store ∷ [])
  pub settles_once : moved (first_node (placed text) 2 (store ∷ store ∷ [])) (comes accepted) ≡ first_node (placed text) 2 (store ∷ store ∷ [])

-- a step of node k
abbrev pub at : ℕ → Move → Step
at k m = record { node = k; move = m }

-- the same in one world, in which the first Store is lost
abbrev pub steps : List Step
steps =
    at 1 (Give (Tick 2))
    ∷ at 1 (Give (Tick 2))
    ∷ at 2 (Stop (Datagram store.1) false)
    ∷ at 2 (Stop (Datagram store.1) true)
    ∷ at 2 (comes store)
    ∷ at 2 (comes store)
    ∷ at 1 (comes accepted)
    ∷ at 1 (comes accepted)
    ∷ []

-- where both stood before
abbrev pub before_them : List ℕ → List ℕ → World
before_them text other k = if k == 1 then opened (chosen text) [] else opened (quiet_yet other) []

-- where both stand then
pub record EndWorked (text other : List ℕ) : Type 0 where
  pub first : run (before_them text other) steps 1 ≡ first_node (placed text) 2 (store ∷ store ∷ [])
  pub second : run (before_them text other) steps 2 ≡ opened (took other) (accepted ∷ accepted ∷ [])

-- What the histories tell of the deal: the words by which two nodes agree.
pub record ToldWorked (text other : List ℕ) : Type 0 where
  pub asked_for : proposed (placed text) 2 1 ≡ Some (record { before = chosen text; what = Fresh name })
  pub not_there_yet : last_placed (asked text) 2 name ≡ None
  pub came_there : last_placed (placed text) 2 name ≡ Some 1
  pub not_answered_yet : answer (quiet_yet other) 1 1 ≡ None
  pub answer_is : answer (took other) 1 1 ≡ Some (record { before = quiet_yet other; what = TookFresh (record { peer = 1; deal = 1; name = name; first = 0; len = 3; new = true; body = Some chunk }) })
  pub there : has out_key (row (state (placed text)) 2).outs (Chunk name) ≡ true
  pub here : has in_key (row (state (took other)) 1).ins (Chunk name) ≡ true
  pub claimed : has in_key (row (state (placed text)) 2).ins (Slot 0) ≡ true
  pub same_bytes : last_brought name (took other) ≡ last_brought name (placed text)

pub record WorldWorked (text other : List ℕ) : Type 0 where
  pub steps : StepsWorked text other
  pub end : EndWorked text other
  pub told : ToldWorked text other

-- under texts that say these settings, where the bytes have that name
abbrev pub WorkedWorld : Type 0
WorkedWorld = (text other : List ℕ) → settings_of text ≡ Some (node_settings 1 2) → settings_of other ≡ Some (node_settings 2 1) → name_eq (sha chunk) name ≡ true → WorldWorked text other
