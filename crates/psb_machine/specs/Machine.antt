-- The machine: what a node makes of an input, by its history and by what a restart forgets.
-- It is a function of the whole history; a node computes the same from the state that it keeps.
use Rattle.std.specs.Prelude.{ℕ, ◌+◌, ◌-◌, nat_le, Bool, true, false, not, ◌||◌, ◌&&◌, ◌==◌, if◌then◌else◌, List, [], ◌∷◌, ◌++◌, map, length, slice_get, option_map, option_to_list, Option, Some, None, Result, Ok, Err}
use Rattle.std.specs.List.{list_any}
use Rattle.psb_bytes.specs.declared.ids.Object.{Object}
use Rattle.psb_bytes.specs.Objects.{name_eq}
use Rattle.psb_settings.specs.declared.settings.Settings.{Settings}
use Rattle.psb_model.specs.declared.snapshots.Snapshot.{Snapshot}
use Rattle.psb_model.specs.State.{State, row, in_key, own_has, is_held, snaps_made}
use Rattle.psb_model.specs.Discards.{discards}
use Rattle.psb_model.specs.Needed.{last_brought}
use Rattle.psb_model.specs.History.{state}
use Rattle.psb_model.specs.declared.change.Change.{Change}
use Rattle.psb_model.specs.declared.change.Change.TheVariants.{Kept, Snapped, Forgot, Proposed, Asked, Discarded, Chose}
use Rattle.psb_model.specs.declared.entries.Candidate.{Candidate}
use Rattle.psb_model.specs.declared.deals.Deal.{Deal as OwnDeal}
use Rattle.wire_codec.specs.Frames.{Incoming, read_frame, key_in}
use Rattle.wire_codec.specs.declared.frame.Dropped.{Dropped}
use Rattle.wire_codec.specs.declared.frame.Frame.TheVariants.{Here, Sample}
use Rattle.psb_machine.specs.Letters.{Letter, keys_of, all_spelled}
use Rattle.psb_machine.specs.Volatile.{Volatile, empty, PeerState, of_peer, later, Note, Nothing, Ticked, Sampled, noted, by_changes}
use Rattle.psb_machine.specs.Deals.{standing, Deal, judged_at, meets_others}
use Rattle.psb_machine.specs.Messages.{Sender, Message, Deals, Replies, Gets, Asks, Tells, Probes, Proves, Declines, message_of}
use Rattle.psb_machine.specs.Gets.{has_chunk}
use Rattle.psb_machine.specs.Probing.{chain_over, proof_of}
use Rattle.psb_machine.specs.OwnProbes.{Run, run_of, listed_by, is_of, own_bytes, passed_by, wrong_by, silent_by, declined_by, are_places_of, objects_to_ask, objects_drawn, probe_letter, ticks_between}
use Rattle.probe.specs.Deadlines.{is_late}
use Rattle.psb_machine.specs.Replies.{reply}
use Rattle.psb_machine.specs.Settling.{Reply, settle}
use Rattle.psb_machine.specs.Proposals.{Offer, proposed_at, letter_of, deal_letters, is_even}
use Rattle.psb_machine.specs.Sampling.{open_question, questions, bits_of, answers, is_last, choice_by}
use Rattle.psb_machine.specs.declared.deals.Standing.{Standing}
use Rattle.psb_machine.specs.declared.deals.Standing.TheVariants.{Fresh, Repeat, Stale, Gap}
use Rattle.psb_machine.specs.declared.snap_note.SnapNote.{SnapNote}

-- a node at a moment
pub record Situation : Type 0 where
  pub history : List Change
  pub volatile : Volatile

-- a node that was just opened
abbrev pub fresh : List Change → Situation
fresh h = record { history = h; volatile = empty }

-- What a node is given: a datagram, a tick of a peer, sealed bytes under their name, the note of a
-- snapshot, or the number of one to forget.
pub data Input : Type 0 where
  Datagram : List ℕ → Input
  Tick : ℕ → Input
  Keep : List ℕ → List ℕ → Input
  Snap : SnapNote → Input
  Forget : ℕ → Input

-- What a node makes of an input: at most one change; the letters that tell of it; what it notes beside the change of
-- what a restart forgets; and, where the input is a datagram that is dropped, the test that it fails.
pub record Reaction : Type 0 where
  pub grown : Option Change
  pub letters : List Letter
  pub note : Note
  pub dropped : Option Dropped

-- nothing comes of it
abbrev pub quiet : Reaction
quiet = record { grown = None; letters = []; note = Nothing; dropped = None }

-- the datagram fails a test of its format
abbrev pub drops : Dropped → Reaction
drops why = record { grown = None; letters = []; note = Nothing; dropped = Some why }

-- a change is made, and the letter tells of it
abbrev pub makes : Change → Letter → Reaction
makes c letter = record { grown = Some c; letters = letter ∷ []; note = Nothing; dropped = None }

-- a change is made, of which no letter tells
abbrev pub grows : Change → Reaction
grows c = record { grown = Some c; letters = []; note = Nothing; dropped = None }

-- it is answered, and no change is made
abbrev pub answers_with : Option Letter → Reaction
answers_with letter = record { grown = None; letters = option_to_list letter; note = Nothing; dropped = None }

-- what a peer answered is kept
abbrev pub keeps : ℕ → ℕ → Reaction
keeps p bits = record { grown = None; letters = []; note = Sampled p bits; dropped = None }

-- the changes of a reaction, as a list
abbrev pub changes_of : Reaction → List Change
changes_of r = option_to_list r.grown

-- ---- datagrams

-- A deal of a peer. It is treated by its number before its kind: a fresh one
-- makes this change, which is answered; the last one is answered as its change was; nothing comes of any
-- other.
abbrev pub by_standing : Standing → Settings → Situation → Sender → Change → Reaction
by_standing Fresh settings n from c = makes c (reply settings from.peer from.number c)
by_standing Repeat settings n from c = answers_with (option_map (reply settings from.peer from.number) (slice_get n.history (row (state n.history) from.peer).last.change))
by_standing Stale settings n from c = quiet
by_standing Gap settings n from c = quiet

abbrev pub on_deal : Settings → Situation → Sender → Deal → Reaction
on_deal settings n from deal =
    by_standing (standing (row (state n.history) from.peer).last.number from.number) settings n from (judged_at settings n.history from.peer from.number deal)

-- A reply of a peer to the deal of this number: the change that it makes, of which no letter tells, or
-- nothing where it does not fit the pending deal.
abbrev pub by_settled : Option Change → Reaction
by_settled None = quiet
by_settled (Some c) = grows c

abbrev pub on_reply : Situation → Sender → Reply → Reaction
on_reply n from reply = by_settled (settle (state n.history) from.peer from.number reply)

-- A peer gets the bytes of each chunk that it has here, and of no other: under their name, with the number of
-- the Get.
abbrev pub here : Sender → List ℕ → List ℕ → Letter
here from name bytes = letter_of from.peer from.number (Here name bytes)

abbrev pub on_get : Situation → Sender → List ℕ → Reaction
on_get n from name = if has_chunk (state n.history) from.peer name then answers_with (option_map (here from name) (last_brought name n.history)) else quiet

-- A peer that asks which names are held is told it, under the number of its question.
abbrev pub sample_to : State → Sender → List ℕ → List (List ℕ) → Letter
sample_to s from salt names = letter_of from.peer from.number (Sample salt (bits_of (is_held s) names))

abbrev pub on_ask : Situation → Sender → List ℕ → List (List ℕ) → Reaction
on_ask n from salt names = answers_with (Some (sample_to (state n.history) from salt names))

-- What a peer tells is kept while the node's own question is open, where it is an answer to that.
abbrev pub on_told : Situation → Sender → List ℕ → ℕ → Reaction
on_told n from salt bits = if answers (open_question (state n.history)) salt bits then keeps from.peer bits else quiet

-- A peer that asks for a proof of what the node has for it gets that, or the places of what is missing, under the
-- number of its question.
abbrev pub on_probe : Settings → Situation → Sender → List ℕ → List Object → Reaction
on_probe settings n from nonce objects = answers_with (option_map (letter_of from.peer from.number) (proof_of settings n.history from.peer nonce objects))

-- What a peer answers to the probe of it that runs. Any other answer comes too late, or is to no question of the node's.
abbrev pub by_value : ℕ → List ℕ → Run → Option (List ℕ) → Reaction
by_value p value r None = quiet
by_value p value r (Some own) = grows (if name_eq own value then passed_by p r else wrong_by p value r)

abbrev pub by_proof : Settings → List Change → Sender → List ℕ → List ℕ → Option Run → Reaction
by_proof settings h from nonce value None = quiet
by_proof settings h from nonce value (Some r) =
    if is_of settings.seed from.number nonce r then by_value from.peer value r (chain_over (own_bytes settings.seed h) nonce r.objects) else quiet

abbrev pub run_at : Situation → ℕ → Option Run
run_at n p = run_of (of_peer n.volatile p) (row (state n.history) p)

abbrev pub on_proof : Settings → Situation → Sender → List ℕ → List ℕ → Reaction
on_proof settings n from nonce value = by_proof settings n.history from nonce value (run_at n from.peer)

abbrev pub by_declined : Settings → Sender → List ℕ → List ℕ → Option Run → Reaction
by_declined settings from nonce places None = quiet
by_declined settings from nonce places (Some r) = if is_of settings.seed from.number nonce r && are_places_of r places then grows (declined_by from.peer places r) else quiet

abbrev pub on_declined : Settings → Situation → Sender → List ℕ → List ℕ → Reaction
on_declined settings n from nonce places = by_declined settings from nonce places (run_at n from.peer)

abbrev pub on_message : Settings → Situation → Sender → Message → Reaction
on_message settings n from (Deals deal) = on_deal settings n from deal
on_message settings n from (Replies reply) = on_reply n from reply
on_message settings n from (Gets name) = on_get n from name
on_message settings n from (Asks salt names) = on_ask n from salt names
on_message settings n from (Tells salt bits) = on_told n from salt bits
on_message settings n from (Probes nonce objects) = on_probe settings n from nonce objects
on_message settings n from (Proves nonce value) = on_proof settings n from nonce value
on_message settings n from (Declines nonce places) = on_declined settings n from nonce places

abbrev pub by_message : Settings → Situation → Sender → Option Message → Reaction
by_message settings n from None = quiet
by_message settings n from (Some m) = on_message settings n from m

-- A datagram that is read: its sender is a peer, and has a key.
abbrev pub on_read : Settings → Situation → Result Incoming Dropped → Reaction
on_read settings n (Err why) = drops why
on_read settings n (Ok i) = by_message settings n (record { peer = i.from; number = i.number }) (message_of i.frame)

-- a history that has settings; each valid one has
abbrev pub on_datagram : Option Settings → Situation → List ℕ → Reaction
on_datagram None n x = quiet
on_datagram (Some settings) n x = on_read settings n (read_frame settings.id (keys_of settings) x)

-- ---- the node's own chunks and snapshots

-- the change that keeps sealed bytes under their name: its body part carries them where none are held
abbrev pub kept_with : State → List ℕ → List ℕ → Change
kept_with s name bytes = let new = not (is_held s name) in Kept (record { name = name; len = length bytes; new = new; body = Some (if new then bytes else []) })

-- the change that a snapshot is
abbrev pub snapped_with : State → SnapNote → Change
snapped_with s note = Snapped (record { number = snaps_made s + 1; ticket = note.ticket; files = note.files; folders = note.folders; bytes = note.bytes; left = note.left; names = note.names })

-- a kept snapshot has the number
abbrev pub has_snapshot : State → ℕ → Bool
has_snapshot s number = list_any (λ (k : Snapshot). k.number == number) s.kept

-- Sealed bytes that the node has for itself already change nothing. Where other bytes are held under their
-- name they are refused.
abbrev pub on_keep : Situation → List ℕ → List ℕ → Reaction
on_keep n name bytes =
    if own_has (state n.history).own name || meets_others n.history name bytes then quiet
    else grows (kept_with (state n.history) name bytes)

abbrev pub on_snap : Situation → SnapNote → Reaction
on_snap n note = grows (snapped_with (state n.history) note)

-- a number that no kept snapshot has is refused
abbrev pub on_forget : Situation → ℕ → Reaction
on_forget n number = if has_snapshot (state n.history) number then grows (Forgot (record { number = number })) else quiet

-- ---- ticks

-- What a rule of a tick comes to: the change that it makes, if it makes one; its letters; and whether the rules
-- behind it are followed too.
pub record Rule : Type 0 where
  pub grown : Option Change
  pub letters : List Letter
  pub goes_on : Bool

-- nothing comes of it
abbrev pub passes : Rule
passes = record { grown = None; letters = []; goes_on = true }

-- the change is made, these letters tell of it, and the tick is at its end
abbrev pub ends_with : Change → List Letter → Rule
ends_with c letters = record { grown = Some c; letters = letters; goes_on = false }

-- letters are sent
abbrev pub sends : List Letter → Rule
sends letters = record { grown = None; letters = letters; goes_on = true }

-- the rules behind one, where it lets them be followed: their letters come behind its own
abbrev pub then_by : Rule → Rule → Rule
then_by r next = if r.goes_on then record { grown = next.grown; letters = r.letters ++ next.letters; goes_on = next.goes_on } else r

-- The candidates in their order, where buddies are to be chosen at a tick: one of the last peer, by its clock with
-- that tick.
abbrev pub sample_of : Volatile → ℕ → Option ℕ
sample_of v p = (of_peer v p).sample

abbrev pub choice_at : Settings → Situation → ℕ → Option (List Candidate)
choice_at settings n p =
    if is_last settings.peers p then choice_by settings.peers (sample_of n.volatile) (later (of_peer n.volatile p).clock) (open_question (state n.history)) else None

-- the change that notes these candidates
abbrev pub choice_of : List Candidate → Change
choice_of candidates = Chose (record { candidates = candidates })

abbrev pub by_choice : Option (List Candidate) → Rule
by_choice None = passes
by_choice (Some candidates) = ends_with (choice_of candidates) []

-- The deal that a tick offers: one without a reply at each second tick of its peer; where none is pending and none
-- is waited for, the one that is proposed next.
abbrev pub offer_by : Settings → State → ℕ → PeerState → List Object → Option OwnDeal → Option Offer
offer_by settings s p x listed None = if x.wait == 0 then proposed_at settings s p listed else None
offer_by settings s p x listed (Some d) = if is_even (later x.clock) then Some (record { deal = d; is_new = false }) else None

abbrev pub offer_at : Settings → Situation → ℕ → Option Offer
offer_at settings n p = offer_by settings (state n.history) p (of_peer n.volatile p) (listed_by (run_at n p)) (row (state n.history) p).pending

-- one that was not pending yet is proposed by a change, behind which no rule is followed
abbrev pub grown_by : ℕ → Offer → Option Change
grown_by p o = if o.is_new then Some (Proposed (record { peer = p; deal = o.deal.number; what = o.deal.what })) else None

abbrev pub by_offer : Settings → List Change → ℕ → Option Offer → Rule
by_offer settings h p None = passes
by_offer settings h p (Some o) = record { grown = grown_by p o; letters = deal_letters settings h p o.deal; goes_on = not o.is_new }

-- A probe that is late has failed.
abbrev pub by_late : ℕ → ℕ → Option Run → Rule
by_late p clock None = passes
by_late p clock (Some r) = if is_late r.began clock then ends_with (silent_by p r) [] else passes

-- A discard that is due lets go of what the words of its change choose (Samsara, SOSP 2003), which may be nothing: the
-- change is made all the same, and ends what was due.
abbrev pub discarded_by : State → ℕ → Change
discarded_by s p = Discarded (record { peer = p; objects = map in_key (discards s p) })

abbrev pub by_due : State → ℕ → Rule
by_due s p = if (row s p).due then ends_with (discarded_by s p) [] else passes

-- A probe that runs is sent again at each second tick, and nothing more is done. Where none runs the next one begins, some
-- ticks after the last, if there is anything to ask for.
abbrev pub again_at : List ℕ → ℕ → ℕ → Run → List Letter
again_at seed p clock r = if is_even (clock - r.began) then probe_letter seed p r ∷ [] else []

abbrev pub begins_with : List ℕ → State → ℕ → ℕ → List Object → Rule
begins_with seed s p clock [] = passes
begins_with seed s p clock (o ∷ os) =
    ends_with (Asked (record { peer = p; objects = objects_drawn seed s (o ∷ os) })) (probe_letter seed p (record { asked = s.changes; objects = objects_drawn seed s (o ∷ os); began = clock }) ∷ [])

abbrev pub by_run : List ℕ → State → ℕ → PeerState → Option Run → Rule
by_run seed s p x None = if nat_le (x.ended + ticks_between) (later x.clock) then begins_with seed s p (later x.clock) (objects_to_ask (row s p)) else passes
by_run seed s p x (Some r) = record { grown = None; letters = again_at seed p (later x.clock) r; goes_on = false }

-- The rules in their order: the end of a probe that is late; a discard that is due; a choice of buddies; a deal; a probe;
-- and, until buddies are chosen, which wanted names the peer holds.
abbrev pub rules : Settings → Situation → ℕ → Rule
rules settings n p =
    then_by (by_late p (later (of_peer n.volatile p).clock) (run_at n p))
    (then_by (by_due (state n.history) p)
    (then_by (by_choice (choice_at settings n p))
    (then_by (by_offer settings n.history p (offer_at settings n p))
    (then_by (by_run settings.seed (state n.history) p (of_peer n.volatile p) (run_at n p))
    (sends (questions (state n.history) p))))))

abbrev pub ruled : ℕ → Rule → Reaction
ruled p r = record { grown = r.grown; letters = r.letters; note = Ticked p; dropped = None }

-- a tick of one that is no peer does nothing but that a clock goes on
abbrev pub by_key : Settings → Situation → ℕ → Option (List ℕ) → Rule
by_key settings n p None = passes
by_key settings n p (Some key) = rules settings n p

abbrev pub on_tick : Option Settings → Situation → ℕ → Rule
on_tick None n p = passes
on_tick (Some settings) n p = by_key settings n p (key_in (keys_of settings) p)

abbrev pub react : Situation → Input → Reaction
react n (Datagram x) = on_datagram (state n.history).settings n x
react n (Tick p) = ruled p (on_tick (state n.history).settings n p)
react n (Keep name bytes) = on_keep n name bytes
react n (Snap note) = on_snap n note
react n (Forget number) = on_forget n number

-- the letters of an input, as they go out
abbrev pub sent_by : Situation → Input → List (ℕ × List ℕ)
sent_by n x = all_spelled (state n.history).settings (react n x).letters

-- The node after a reaction: what is noted beside the change comes first. What a change does to what a restart
-- forgets is said here alone.
abbrev pub settled : Situation → Reaction → Situation
settled n r = record { history = n.history ++ changes_of r; volatile = by_changes (state n.history) r.grown (noted r.note n.volatile) }

-- the node after an input
abbrev pub next : Situation → Input → Situation
next n x = settled n (react n x)
