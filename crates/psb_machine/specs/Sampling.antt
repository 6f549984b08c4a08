-- What a node asks of its peers before it chooses its buddies, what they answer, and whom it chooses (Pastiche,
-- OSDI 2002: abstracts, and buddies that hold most of them).
use Rattle.std.specs.Prelude.{ℕ, ◌+◌, ◌*◌, ◌-◌, ◌^◌, nat_le, nat_lt, Bool, true, false, ◌||◌, ◌&&◌, ◌==◌, if◌then◌else◌, List, [], ◌∷◌, length, map, filter, replicate, slice_get, option_map, option_to_list, Option, Some, None}
use Rattle.std.specs.List.{flat_map}
use Rattle.psb_bytes.specs.Objects.{name_eq}
use Rattle.psb_digest.specs.Words.{words_key, masked}
use Rattle.psb_settings.specs.declared.settings.PeerRow.{PeerRow}
use Rattle.psb_settings.specs.declared.settings.Settings.{Settings}
use Rattle.psb_model.specs.State.{State, is_wanted}
use Rattle.psb_model.specs.declared.change.Change.{Change}
use Rattle.psb_model.specs.declared.change.Change.TheVariants.{Begun, Kept, Snapped, Forgot, Settled, Turned, Discarded}
use Rattle.psb_model.specs.declared.entries.Candidate.{Candidate}
use Rattle.psb_model.specs.declared.entries.OwnEntry.{OwnEntry}
use Rattle.psb_model.specs.declared.entries.SnapMark.{SnapMark}
use Rattle.abstracts.specs.Bits.{coverage}
use Rattle.abstracts.specs.Least.{abstract_of}
use Rattle.buddy_select.specs.Order.{put_all}
use Rattle.wire_codec.specs.declared.frame.Frame.TheVariants as frame
use Rattle.psb_machine.specs.Letters.{Letter}
use Rattle.psb_machine.specs.Proposals.{letter_of}
use Rattle.psb_machine.specs.declared.question.Question.{Question}

-- ---- what is asked

-- the names of the own chunks that a kept snapshot lists, in their order
abbrev pub wanted_names : State → List (List ℕ)
wanted_names s = filter (is_wanted s) (map (λ (e : OwnEntry). e.name) s.own)

-- the first 32 bytes of the keystream of the words that a change uses
abbrev pub salt_of : List ℕ → ℕ → List ℕ
salt_of seed change = masked (words_key seed) change (replicate 32 0)

-- no frame asks for more names
abbrev pub most_asked : ℕ
most_asked = 32

-- Which of the wanted names that come first under the salt of the latest snapshot's change does a peer hold? The
-- question has the number of that change.
abbrev pub question_at : List ℕ → State → SnapMark → Question
question_at seed s mark = record { number = mark.change; salt = salt_of seed mark.change; names = abstract_of (wanted_names s) (salt_of seed mark.change) most_asked }

-- there is none before the first snapshot
abbrev pub question_by : Option Settings → State → Option Question
question_by None s = None
question_by (Some settings) s = option_map (question_at settings.seed s) s.snapped

abbrev pub question_of : State → Option Question
question_of s = question_by s.settings s

-- After these the names may be others: after any other change the question is the same.
abbrev pub keeps_question : Change → Bool
keeps_question (Begun x) = false
keeps_question (Kept x) = false
keeps_question (Snapped x) = false
keeps_question (Forgot x) = false
keeps_question (Settled x) = false
keeps_question (Turned x) = false
keeps_question (Discarded x) = false
keeps_question _ = true

-- It is asked while nothing was chosen and some name is wanted.
abbrev pub if_some_names : Option Question → Option Question
if_some_names None = None
if_some_names (Some q) = if length q.names == 0 then None else Some q

abbrev pub open_question : State → Option Question
open_question s = if length s.chosen == 0 then if_some_names (question_of s) else None

-- the letter that asks a peer
abbrev pub question_to : ℕ → Question → Letter
question_to p q = letter_of p q.number (frame.Ask q.salt q.names)

abbrev pub questions : State → ℕ → List Letter
questions s p = option_to_list (option_map (question_to p) (open_question s))

-- ---- what is answered

-- bit j, counted from the least, is 1 where name j passes the test
abbrev pub bit_of : Bool → ℕ
bit_of b = if b then 1 else 0

abbrev pub bits_of : (List ℕ → Bool) → List (List ℕ) → ℕ
bits_of test [] = 0
bits_of test (n ∷ ns) = bit_of (test n) + 2 * bits_of test ns

-- it has the salt of the question, and no bit above its names
abbrev pub is_answer_to : Question → List ℕ → ℕ → Bool
is_answer_to q salt bits = name_eq q.salt salt && nat_lt bits (2 ^ length q.names)

abbrev pub answers : Option Question → List ℕ → ℕ → Bool
answers None salt bits = false
answers (Some q) salt bits = is_answer_to q salt bits

-- ---- who is chosen, by the bits of each peer's last answer

-- A peer that answered is a candidate: it holds so many of the names that were asked for.
abbrev pub candidate_by : PeerRow → ℕ → Option ℕ → List Candidate
candidate_by p n None = []
candidate_by p n (Some bits) = record { peer = p.id; got = coverage bits n; of = n; hops = p.hops } ∷ []

abbrev pub candidates : List PeerRow → (ℕ → Option ℕ) → ℕ → List Candidate
candidates peers sample n = flat_map (λ (p : PeerRow). candidate_by p n (sample p.id)) peers

-- the last of the peers in the settings' order
abbrev pub is_last : List PeerRow → ℕ → Bool
is_last peers p = elim (slice_get peers (length peers - 1)) [ None ↦ false | Some row ↦ row.id == p ]

-- A choice is made among one at least, once all peers answered or the last of them ticked so often.
abbrev pub ticks_to_choose : ℕ
ticks_to_choose = 8

abbrev pub is_ready : ℕ → ℕ → ℕ → Bool
is_ready peers found clock = nat_lt 0 found && (found == peers || nat_le ticks_to_choose clock)

abbrev pub choice_among : ℕ → ℕ → List Candidate → Option (List Candidate)
choice_among peers clock found = if is_ready peers (length found) clock then Some (put_all [] found) else None

-- the candidates in their order, where a choice is to be made by the clock of the last peer
abbrev pub choice_by : List PeerRow → (ℕ → Option ℕ) → ℕ → Option Question → Option (List Candidate)
choice_by peers sample clock None = None
choice_by peers sample clock (Some q) = choice_among (length peers) clock (candidates peers sample (length q.names))
