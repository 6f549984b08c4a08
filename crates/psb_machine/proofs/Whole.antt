-- The laws of the machine.
use Rattle.std.proofs.Common.{◌&&◌, ◌==◌, ◌-◌, ◌∷◌, nat_le, ◌≡◌, ℕ, ◌≤◌, ◌+◌, ◌^◌, ◌||◌, Bool, true, false, if◌then◌else◌, slice_get, option_map, option_to_list, is_some, List, [], ◌++◌, length, Option, Some, None, Result, Ok, Err, refl, subst, arith, length-append}
use Rattle.std.proofs.lemmas.Bool.{lt-ltb, eqb-true, and_parts}
use Rattle.std.proofs.lemmas.List.{append-nil}
use Rattle.psb_bytes.specs.Numbers.{AreBytes}
use Rattle.psb_settings.specs.declared.settings.Settings.{Settings}
use Rattle.psb_model.specs.State.{State, row, own_has}
use Rattle.psb_model.specs.History.{state}
use Rattle.psb_model.specs.Needed.{last_brought, IsValid}
use Rattle.psb_model.specs.declared.change.Change.{Change}
use Rattle.psb_model.specs.declared.change.Change.TheVariants.{Forgot}
use Rattle.psb_model.specs.declared.entries.Candidate.{Candidate}
use Rattle.model_laws.proofs.Bodies.{valid_snoc}
use Rattle.wire_codec.specs.Frames.{Incoming, read_frame, key_in}
use Rattle.wire_codec.specs.declared.frame.Dropped.{Dropped}
use Rattle.wire_codec.proofs.FrameLaws.{takes}
use Rattle.psb_machine.specs.Letters.{Letter, keys_of}
use Rattle.psb_machine.specs.Deals.{standing, clashes, meets_others, judged_at}
use Rattle.psb_machine.specs.Messages.{Sender, Message, Deals, Replies, Gets, Asks, Tells, Probes, Proves, Declines, message_of}
use Rattle.psb_bytes.specs.Objects.{name_eq}
use Rattle.psb_bytes.specs.declared.ids.Object.{Object}
use Rattle.probe.specs.Deadlines.{is_late}
use Rattle.psb_machine.specs.Volatile.{PeerState, of_peer, later}
use Rattle.psb_machine.specs.OwnProbes.{Run, listed_by, nonce_of, is_of, own_bytes, passed_by, wrong_by, silent_by, declined_by, are_places_of, objects_to_ask, probe_letter, ticks_between}
use Rattle.psb_machine.specs.Gets.{has_chunk}
use Rattle.psb_machine.specs.Probing.{proof_of, chain_over}
use Rattle.psb_machine.specs.Replies.{reply}
use Rattle.psb_machine.specs.Settling.{settle}
use Rattle.psb_machine.specs.Proposals.{Offer, frame_of, letter_of, is_even}
use Rattle.psb_machine.specs.Sampling.{open_question, question_to, questions, answers}
use Rattle.psb_machine.specs.Machine.{Situation, Input, Datagram, Tick, Keep, Snap, Forget, Reaction, Rule, sends, then_by, quiet, grows, answers_with, kept_with, snapped_with, has_snapshot, settled, react, by_standing, on_message, by_message, on_read, on_datagram, here, sample_to, by_settled, choice_at, by_choice, offer_at, by_offer, rules, by_key, on_tick, run_at, by_value, by_proof, by_declined, by_late, discarded_by, by_due, begins_with, by_run, ends_with, passes}
use Rattle.psb_machine.specs.declared.deals.Standing.{Standing}
use Rattle.psb_machine.specs.declared.deals.Standing.TheVariants.{Fresh, Repeat, Stale, Gap}
use Rattle.psb_model.specs.Grammar.{is_u64}
use Rattle.psb_model.proofs.ByObject.{by_cases}
use Rattle.psb_machine.specs.Laws.{Fits, KeepFits, SnapFits, TickFits, KeepsValid, AllTellLittle}
use Rattle.psb_machine.proofs.Causes.{caused}
use Rattle.psb_machine.proofs.Framed.{FrameFits, deal_message, reply_message, proof_value, declined_places}
use Rattle.psb_machine.proofs.Taken.{MayTake}
use Rattle.psb_machine.proofs.Standings.{fresh_is_next}
use Rattle.psb_machine.proofs.Peers.{keyed_is_peer}
use Rattle.psb_machine.proofs.Settled.{reply_valid}
use Rattle.psb_machine.proofs.Valid.{unchanged, judged_deal_valid, kept_valid, snap_valid, forgot_valid}
use Rattle.psb_machine.proofs.Choosing.{choice_may}
use Rattle.psb_machine.proofs.Ticking.{proposed_valid}
use Rattle.psb_machine.proofs.Runs.{run_open, number_within, passed_may, wrong_may, silent_may, declined_may}
use Rattle.psb_machine.proofs.Listing.{asked_may}
use Rattle.psb_machine.proofs.Discarding.{discarded_may}

pub frame_read_fits : (own : ℕ) (keys : List (ℕ × List ℕ)) (x : List ℕ) (i : Incoming) → AreBytes x → read_frame own keys x ≡ Ok i → FrameFits i.from i.number i.frame
frame_read_fits own keys x i bytes read =
    let t = takes own keys x i bytes read in
    record {
      peer = lt-ltb i.from (2 ^ 32) t.fit.from_fits;
      number_fits = lt-ltb i.number (2 ^ 64) t.fit.number_fits;
      frame_is = t.fit.frame_fits;
    }

-- ---- what is made of a valid history is valid

bytes_of : (n : Situation) (x : Input) (bytes : List ℕ) → x ≡ Datagram bytes → Fits n x → AreBytes bytes
bytes_of n x bytes came fit = subst (Fits n) came fit

-- the number that an answer names is that of the probe, which it answers
asked_fits : (seed : List ℕ) (number : ℕ) (nonce : List ℕ) (r : Run) → is_u64 number ≡ true → is_of seed number nonce r ≡ true → is_u64 r.asked ≡ true
asked_fits seed number nonce r fit of = subst (λ m. is_u64 m ≡ true) (eqb-true number r.asked (and_parts (number == r.asked) (name_eq nonce (nonce_of seed r.asked)) of).0) fit

take_valid : (h : List Change) (c : Change) → IsValid h → MayTake (state h) c → IsValid (h ++ c ∷ [])
take_valid h c v m = valid_snoc h c v m.grammar m.may m.widths m.brings

pub keeps_valid : KeepsValid
keeps_valid n x v o fit = caused (λ (o : Option Change). IsValid (n.history ++ option_to_list o)) n x (record {
  none = unchanged n.history v;
  deal = λ settings bytes i deal came present read is fresh.
      let bs = bytes_of n x bytes came fit in
      let f = frame_read_fits settings.id (keys_of settings) bytes i bs read in
      let t = takes settings.id (keys_of settings) bytes i bs read in
      judged_deal_valid settings n.history i.from i.number deal (clashes n.history deal) v present (keyed_is_peer n.history settings i.from t.key present t.known) (deal_message i.from i.number i.frame deal f is)
      (fresh_is_next (row (state n.history) i.from).last.number i.number fresh);
  reply = λ settings bytes i reply c came present read is made.
      let bs = bytes_of n x bytes came fit in
      let f = frame_read_fits settings.id (keys_of settings) bytes i bs read in
      let t = takes settings.id (keys_of settings) bytes i bs read in
      reply_valid n i.from i.number reply c v (keyed_is_peer n.history settings i.from t.key present t.known) f.peer f.number_fits (reply_message i.from i.number i.frame reply f is) made;
  choice = λ settings p key candidates came present keyed chosen.
      let m = choice_may settings n p candidates v present chosen in valid_snoc n.history _ v m.grammar m.may m.widths m.brings;
  propose = λ settings p key what came present keyed idle found.
      let f : TickFits (state n.history) p = subst (Fits n) came fit in
      proposed_valid n.history settings p (listed_by (run_at n p)) what v present (keyed_is_peer n.history settings p key present keyed) f idle found;
  late = λ settings p key r came present keyed run over.
      let f : TickFits (state n.history) p = subst (Fits n) came fit in
      take_valid n.history (silent_by p r) v (silent_may n p r v o (keyed_is_peer n.history settings p key present keyed) f.peer (number_within n.history p r v (omega (arith, f.room)) (run_open n p r run)) run);
  due = λ settings p key came present keyed is.
      let f : TickFits (state n.history) p = subst (Fits n) came fit in
      take_valid n.history (discarded_by (state n.history) p) v (discarded_may n.history p v (keyed_is_peer n.history settings p key present keyed) f.peer is);
  asks = λ settings p key first rest came present keyed idle there.
      let f : TickFits (state n.history) p = subst (Fits n) came fit in
      take_valid n.history _ v (asked_may n.history settings p first rest v (keyed_is_peer n.history settings p key present keyed) f.peer there);
  proof = λ settings bytes i nonce value own r came present read is run of known.
      let bs = bytes_of n x bytes came fit in
      let f = frame_read_fits settings.id (keys_of settings) bytes i bs read in
      let t = takes settings.id (keys_of settings) bytes i bs read in
      let peer = keyed_is_peer n.history settings i.from t.key present t.known in
      let number = asked_fits settings.seed i.number nonce r f.number_fits of in
      by_cases (name_eq own value)
      (λ k. rw k (take_valid n.history (passed_by i.from r) v (passed_may n i.from r v o peer f.peer number run)))
      (λ k. rw k (take_valid n.history (wrong_by i.from value r) v (wrong_may n i.from value r v o peer f.peer number (proof_value i.frame nonce value f.frame_is is) run)));
  declined = λ settings bytes i nonce places r came present read is run of theirs.
      let bs = bytes_of n x bytes came fit in
      let f = frame_read_fits settings.id (keys_of settings) bytes i bs read in
      let t = takes settings.id (keys_of settings) bytes i bs read in
      let number = asked_fits settings.seed i.number nonce r f.number_fits of in
      take_valid n.history (declined_by i.from places r) v (declined_may n i.from places r v o (keyed_is_peer n.history settings i.from t.key present t.known) f.peer number (declined_places i.frame nonce places f.frame_is is) theirs run);
  keep = λ name bytes came lacks same. let f : KeepFits name bytes = subst (Fits n) came fit in kept_valid n.history name bytes v f lacks;
  snap = λ note came. let f : SnapFits (state n.history) note = subst (Fits n) came fit in snap_valid n note v f;
  forget = λ number came has. forgot_valid n.history number v (subst (Fits n) came fit) has;
})

-- ---- few letters, and nothing at all where the datagram is dropped

record Little (n : Situation) (r : Reaction) : Type 0 where
  most : length r.letters ≤ 2
  letters : is_some r.dropped ≡ true → r.letters ≡ []
  same : is_some r.dropped ≡ true → settled n r ≡ n

nothing_grown : (n : Situation) (why : Option Dropped) → settled n (record quiet { dropped = why }) ≡ n
nothing_grown n why = λ j. record { history = append-nil n.history j; volatile = n.volatile }

quiet_little : (n : Situation) → Little n quiet
quiet_little n = record { most = omega arith; letters = λ is. refl; same = λ is. absurd (cc) }

grows_little : (n : Situation) (c : Change) → Little n (grows c)
grows_little n c = record { most = omega arith; letters = λ is. refl; same = λ is. absurd (cc) }

settled_little : (n : Situation) (o : Option Change) → Little n (by_settled o)
settled_little n None = quiet_little n
settled_little n (Some c) = grows_little n c

answer_little : (n : Situation) (o : Option Letter) → Little n (answers_with o)
answer_little n None = record { most = omega arith; letters = λ is. refl; same = λ is. absurd (cc) }
answer_little n (Some letter) = record { most = omega arith; letters = λ is. absurd (cc); same = λ is. absurd (cc) }

deal_little : (how : Standing) (settings : Settings) (n : Situation) (from : Sender) (c : Change) → Little n (by_standing how settings n from c)
deal_little Fresh settings n from c = record { most = omega arith; letters = λ is. absurd (cc); same = λ is. absurd (cc) }
deal_little Repeat settings n from c = answer_little n (option_map (reply settings from.peer from.number) (slice_get n.history (row (state n.history) from.peer).last.change))
deal_little Stale settings n from c = quiet_little n
deal_little Gap settings n from c = quiet_little n

either_little : (n : Situation) (b : Bool) (r q : Reaction) → Little n r → Little n q → Little n (if b then r else q)
either_little n true r q hr hq = hr
either_little n false r q hr hq = hq

value_little : (n : Situation) (p : ℕ) (value : List ℕ) (r : Run) (o : Option (List ℕ)) → Little n (by_value p value r o)
value_little n p value r None = quiet_little n
value_little n p value r (Some own) = grows_little n (if name_eq own value then passed_by p r else wrong_by p value r)

proof_little : (settings : Settings) (n : Situation) (from : Sender) (nonce value : List ℕ) (o : Option Run) → Little n (by_proof settings n.history from nonce value o)
proof_little settings n from nonce value None = quiet_little n
proof_little settings n from nonce value (Some r) =
    either_little n (is_of settings.seed from.number nonce r) _ quiet (value_little n from.peer value r (chain_over (own_bytes settings.seed n.history) nonce r.objects)) (quiet_little n)

declined_little : (settings : Settings) (n : Situation) (from : Sender) (nonce places : List ℕ) (o : Option Run) → Little n (by_declined settings from nonce places o)
declined_little settings n from nonce places None = quiet_little n
declined_little settings n from nonce places (Some r) =
    either_little n (is_of settings.seed from.number nonce r && are_places_of r places) _ quiet (grows_little n (declined_by from.peer places r)) (quiet_little n)

message_little : (settings : Settings) (n : Situation) (from : Sender) (m : Message) → Little n (on_message settings n from m)
message_little settings n from (Deals deal) = deal_little (standing (row (state n.history) from.peer).last.number from.number) settings n from (judged_at settings n.history from.peer from.number deal)
message_little settings n from (Replies reply) = settled_little n (settle (state n.history) from.peer from.number reply)
message_little settings n from (Gets name) = either_little n (has_chunk (state n.history) from.peer name) _ quiet (answer_little n (option_map (here from name) (last_brought name n.history))) (quiet_little n)
message_little settings n from (Asks salt names) = answer_little n (Some (sample_to (state n.history) from salt names))
message_little settings n from (Tells salt bits) = either_little n (answers (open_question (state n.history)) salt bits) _ quiet (record { most = omega arith; letters = λ is. refl; same = λ is. absurd (cc) }) (quiet_little n)
message_little settings n from (Probes nonce objects) = answer_little n (option_map (letter_of from.peer from.number) (proof_of settings n.history from.peer nonce objects))
message_little settings n from (Proves nonce value) = proof_little settings n from nonce value (run_at n from.peer)
message_little settings n from (Declines nonce places) = declined_little settings n from nonce places (run_at n from.peer)

by_message_little : (settings : Settings) (n : Situation) (from : Sender) (o : Option Message) → Little n (by_message settings n from o)
by_message_little settings n from None = quiet_little n
by_message_little settings n from (Some m) = message_little settings n from m

read_little : (settings : Settings) (n : Situation) (r : Result Incoming Dropped) → Little n (on_read settings n r)
read_little settings n (Err why) = record { most = omega arith; letters = λ is. refl; same = λ is. nothing_grown n (Some why) }
read_little settings n (Ok i) = by_message_little settings n (record { peer = i.from; number = i.number }) (message_of i.frame)

datagram_little : (o : Option Settings) (n : Situation) (x : List ℕ) → Little n (on_datagram o n x)
datagram_little None n x = quiet_little n
datagram_little (Some settings) n x = read_little settings n (read_frame settings.id (keys_of settings) x)

-- each rule has one letter at most, and a choice and a discard have none
one_at_most : (o : Option Letter) → length (option_to_list o) ≤ 1
one_at_most None = omega arith
one_at_most (Some l) = omega arith

then_few : (r next : Rule) (most : ℕ) → length r.letters ≤ most → length r.letters + length next.letters ≤ most → length (then_by r next).letters ≤ most
then_few r next most one both = by_going r.goes_on
  where
    by_going : (b : Bool) → length (if b then record { grown = next.grown; letters = r.letters ++ next.letters; goes_on = next.goes_on } else r).letters ≤ most
    by_going true = omega (arith, both, length-append r.letters next.letters)
    by_going false = one

offer_few : (settings : Settings) (h : List Change) (p : ℕ) (o : Option Offer) → length (by_offer settings h p o).letters ≤ 1
offer_few settings h p None = omega arith
offer_few settings h p (Some o) = one_at_most (option_map (letter_of p o.deal.number) (frame_of settings h p o.deal.what))

choice_few : (o : Option (List Candidate)) (next : Rule) → length next.letters ≤ 2 → length (then_by (by_choice o) next).letters ≤ 2
choice_few None next few = few
choice_few (Some candidates) next few = omega arith

late_few : (p clock : ℕ) (o : Option Run) (next : Rule) → length next.letters ≤ 2 → length (then_by (by_late p clock o) next).letters ≤ 2
late_few p clock None next few = few
late_few p clock (Some r) next few = by_time (is_late r.began clock)
  where
    by_time : (b : Bool) → length (then_by (if b then ends_with (silent_by p r) [] else passes) next).letters ≤ 2
    by_time true = omega arith
    by_time false = few

due_few : (s : State) (p : ℕ) (next : Rule) → length next.letters ≤ 2 → length (then_by (by_due s p) next).letters ≤ 2
due_few s p next few = by_row (row s p).due
  where
    by_row : (b : Bool) → length (then_by (if b then ends_with (discarded_by s p) [] else passes) next).letters ≤ 2
    by_row true = omega arith
    by_row false = few

-- a probe has one letter, behind which no rule is followed
begins_few : (seed : List ℕ) (s : State) (p clock : ℕ) (os : List Object) (next : Rule) → length next.letters ≤ 1 → length (then_by (begins_with seed s p clock os) next).letters ≤ 1
begins_few seed s p clock [] next few = few
begins_few seed s p clock (o ∷ os) next few = omega arith

probe_few : (seed : List ℕ) (s : State) (p : ℕ) (x : PeerState) (o : Option Run) (next : Rule) → length next.letters ≤ 1 → length (then_by (by_run seed s p x o) next).letters ≤ 1
probe_few seed s p x None next few = by_time (nat_le (x.ended + ticks_between) (later x.clock))
  where
    by_time : (b : Bool) → length (then_by (if b then begins_with seed s p (later x.clock) (objects_to_ask (row s p)) else passes) next).letters ≤ 1
    by_time true = begins_few seed s p (later x.clock) (objects_to_ask (row s p)) next few
    by_time false = few
probe_few seed s p x (Some r) next few = by_clock (is_even (later x.clock - r.began))
  where
    by_clock : (b : Bool) → length (if b then probe_letter seed p r ∷ [] else []) ≤ 1
    by_clock true = omega arith
    by_clock false = omega arith

rules_few : (settings : Settings) (n : Situation) (p : ℕ) → length (rules settings n p).letters ≤ 2
rules_few settings n p =
    let x = of_peer n.volatile p in
    let offered = by_offer settings n.history p (offer_at settings n p) in
    let asked = sends (questions (state n.history) p) in
    let probed = then_by (by_run settings.seed (state n.history) p x (run_at n p)) asked in
    let a = offer_few settings n.history p (offer_at settings n p) in
    let b = one_at_most (option_map (question_to p) (open_question (state n.history))) in
    let c = probe_few settings.seed (state n.history) p x (run_at n p) asked b in
    let chosen = then_by (by_choice (choice_at settings n p)) (then_by offered probed) in
    late_few p (later x.clock) (run_at n p) (then_by (by_due (state n.history) p) chosen)
    (due_few (state n.history) p chosen
    (choice_few (choice_at settings n p) (then_by offered probed) (then_few offered probed 2 (omega (arith, a)) (omega (arith, a, c)))))

key_few : (settings : Settings) (n : Situation) (p : ℕ) (o : Option (List ℕ)) → length (by_key settings n p o).letters ≤ 2
key_few settings n p None = omega arith
key_few settings n p (Some key) = rules_few settings n p

tick_few : (o : Option Settings) (n : Situation) (p : ℕ) → length (on_tick o n p).letters ≤ 2
tick_few None n p = omega arith
tick_few (Some settings) n p = key_few settings n p (key_in (keys_of settings) p)

little : (n : Situation) (x : Input) → Little n (react n x)
little n (Datagram x) = datagram_little (state n.history).settings n x
little n (Tick p) = record { most = tick_few (state n.history).settings n p; letters = λ is. absurd (cc); same = λ is. absurd (cc) }
little n (Keep name bytes) = either_little n (own_has (state n.history).own name || meets_others n.history name bytes) quiet _ (quiet_little n) (grows_little n (kept_with (state n.history) name bytes))
little n (Snap note) = grows_little n (snapped_with (state n.history) note)
little n (Forget number) = either_little n (has_snapshot (state n.history) number) _ quiet (grows_little n (Forgot (record { number = number }))) (quiet_little n)

pub tells_little : AllTellLittle
tells_little n x = let o = little n x in record { most = o.most; dropped = λ is. record { letters = o.letters is; same = o.same is } }
