-- Why an input makes its change: one walk through the machine, for every law of what is made.
use Rattle.std.proofs.Common.{◌≡◌, ℕ, Bool, true, false, nat_le, ◌||◌, ◌&&◌, ◌==◌, ◌+◌, if◌then◌else◌, cond, option_map, List, [], ◌∷◌, ◌++◌, Option, Some, None, Result, Ok, Err, refl, sym, ap, ◌∙◌, subst}
use Rattle.psb_bytes.specs.declared.ids.Object.{Object}
use Rattle.psb_bytes.specs.Objects.{name_eq}
use Rattle.psb_settings.specs.declared.settings.Settings.{Settings}
use Rattle.psb_model.specs.State.{row, own_has}
use Rattle.psb_model.specs.Proposing.{proposal}
use Rattle.psb_model.specs.History.{state}
use Rattle.psb_model.specs.declared.deals.Deal.{Deal as OwnDeal}
use Rattle.psb_model.specs.declared.deals.DealWhat.{DealWhat}
use Rattle.psb_model.specs.declared.entries.Candidate.{Candidate}
use Rattle.psb_model.specs.declared.change.Change.{Change}
use Rattle.psb_model.specs.declared.change.Change.TheVariants.{Forgot, Proposed, Asked}
use Rattle.std.proofs.lemmas.Bool.{and_parts}
use Rattle.psb_model.proofs.ByObject.{by_cases}
use Rattle.wire_codec.specs.Frames.{Incoming, read_frame, key_in}
use Rattle.wire_codec.specs.declared.frame.Dropped.{Dropped}
use Rattle.psb_machine.specs.Letters.{keys_of}
use Rattle.psb_machine.specs.Volatile.{of_peer, later}
use Rattle.psb_machine.specs.Deals.{standing, Deal, judged_at, meets_others}
use Rattle.psb_machine.specs.Messages.{Sender, Message, Deals, Replies, Gets, Asks, Tells, Probes, Proves, Declines, message_of}
use Rattle.psb_machine.specs.Gets.{has_chunk}
use Rattle.psb_machine.specs.Probing.{chain_over}
use Rattle.psb_machine.specs.OwnProbes.{Run, listed_by, is_of, own_bytes, passed_by, wrong_by, silent_by, declined_by, are_places_of, objects_to_ask, objects_drawn, ticks_between}
use Rattle.probe.specs.Deadlines.{is_late}
use Rattle.psb_machine.specs.Settling.{Reply, settle}
use Rattle.psb_machine.specs.Proposals.{Offer, next_offer, proposed_at, propose_facts, is_even}
use Rattle.psb_machine.specs.Sampling.{open_question, answers}
use Rattle.psb_machine.specs.declared.snap_note.SnapNote.{SnapNote}
use Rattle.psb_machine.specs.declared.deals.Standing.{Standing}
use Rattle.psb_machine.specs.declared.deals.Standing.TheVariants.{Fresh, Repeat, Stale, Gap}
use Rattle.psb_machine.specs.Machine.{Situation, Input, Datagram, Tick, Keep, Snap, Forget, Reaction, Rule, then_by, quiet, by_standing, by_settled, by_value, by_proof, by_declined, run_at, by_late, discarded_by, by_due, begins_with, by_run, on_message, by_message, on_read, on_datagram, kept_with, snapped_with, has_snapshot, choice_at, choice_of, by_choice, offer_by, offer_at, grown_by, by_offer, by_key, on_tick, react}
use Rattle.psb_machine.proofs.Taken.{either_none}

-- with its settings the machine reads the datagram
pub react-read : (n : Situation) (x : List ℕ) (settings : Settings) → (state n.history).settings ≡ Some settings → react n (Datagram x) ≡ on_read settings n (read_frame settings.id (keys_of settings) x)
react-read n x settings present = ap (λ (o : Option Settings). on_datagram o n x) present

-- and goes by the message that it is
pub react-message : (n : Situation) (x : List ℕ) (settings : Settings) (i : Incoming) (m : Message) → (state n.history).settings ≡ Some settings → read_frame settings.id (keys_of settings) x ≡ Ok i → message_of i.frame ≡ Some m
    → react n (Datagram x) ≡ on_message settings n (record { peer = i.from; number = i.number }) m
react-message n x settings i m present read is =
    react-read n x settings present
    ∙ ap (λ (r : Result Incoming Dropped). on_read settings n r) read
    ∙ ap (λ (o : Option Message). by_message settings n (record { peer = i.from; number = i.number }) o) is

-- ---- a deal that a tick offers is pending, or is proposed now

pub offer_cases : {P : Type 0} (settings : Settings) (n : Situation) (p : ℕ) (o : Offer) → offer_at settings n p ≡ Some o
    → ((row (state n.history) p).pending ≡ Some o.deal → o.is_new ≡ false → P)
    → ((row (state n.history) p).pending ≡ None → (what : DealWhat) → proposal (state n.history) p (listed_by (run_at n p)) (propose_facts settings (state n.history)) ≡ Some what → next_offer (state n.history) p what ≡ o → P) → P
offer_cases {P} settings n p o h old new = by_deal (row (state n.history) p).pending refl h
  where
    by_found : (w : Option DealWhat) → (row (state n.history) p).pending ≡ None → proposal (state n.history) p (listed_by (run_at n p)) (propose_facts settings (state n.history)) ≡ w → option_map (next_offer (state n.history) p) w ≡ Some o → P
    by_found None idle found k = absurd (cc (k))
    by_found (Some what) idle found k = new idle what found (cc (k))

    by_deal : (d : Option OwnDeal) → (row (state n.history) p).pending ≡ d → offer_by settings (state n.history) p (of_peer n.volatile p) (listed_by (run_at n p)) d ≡ Some o → P
    by_deal None is k =
        by_cases ((of_peer n.volatile p).wait == 0)
        (λ w. let k' : proposed_at settings (state n.history) p (listed_by (run_at n p)) ≡ Some o = rw w at k in by_found (proposal (state n.history) p (listed_by (run_at n p)) (propose_facts settings (state n.history))) is refl k')
        (λ w. let k' : None ≡ Some o = rw w at k in absurd (cc (k')))
    by_deal (Some d) is k =
        by_cases (is_even (later (of_peer n.volatile p).clock))
        (λ w. let k' : Some (record { deal = d; is_new = false }) ≡ Some o = rw w at k in
        let same : record { deal = d; is_new = false } ≡ o = cc (k') in
        old (is ∙ ap (λ (x : Offer). Some x.deal) same) (sym (ap (λ (x : Offer). x.is_new) same)))
        (λ w. let k' : None ≡ Some o = rw w at k in absurd (cc (k')))

-- ---- what is made

-- What holds of no change, and of each that the machine makes by what it is made for, holds of what comes of the
-- input.
pub record Causes (P : Option Change → Type 0) (n : Situation) (x : Input) : Type 0 where
  pub none : P None
  pub deal : (settings : Settings) (bytes : List ℕ) (i : Incoming) (deal : Deal) → x ≡ Datagram bytes → (state n.history).settings ≡ Some settings → read_frame settings.id (keys_of settings) bytes ≡ Ok i
      → message_of i.frame ≡ Some (Deals deal) → standing (row (state n.history) i.from).last.number i.number ≡ Fresh → P (Some (judged_at settings n.history i.from i.number deal))
  pub reply : (settings : Settings) (bytes : List ℕ) (i : Incoming) (reply : Reply) (c : Change) → x ≡ Datagram bytes → (state n.history).settings ≡ Some settings → read_frame settings.id (keys_of settings) bytes ≡ Ok i
      → message_of i.frame ≡ Some (Replies reply) → settle (state n.history) i.from i.number reply ≡ Some c → P (Some c)
  pub choice : (settings : Settings) (p : ℕ) (key : List ℕ) (candidates : List Candidate) → x ≡ Tick p → (state n.history).settings ≡ Some settings → key_in (keys_of settings) p ≡ Some key
      → choice_at settings n p ≡ Some candidates → P (Some (choice_of candidates))
  pub propose : (settings : Settings) (p : ℕ) (key : List ℕ) (what : DealWhat) → x ≡ Tick p → (state n.history).settings ≡ Some settings → key_in (keys_of settings) p ≡ Some key → (row (state n.history) p).pending ≡ None
      → proposal (state n.history) p (listed_by (run_at n p)) (propose_facts settings (state n.history)) ≡ Some what → P (Some (Proposed (record { peer = p; deal = (row (state n.history) p).mine + 1; what = what })))
  pub late : (settings : Settings) (p : ℕ) (key : List ℕ) (r : Run) → x ≡ Tick p → (state n.history).settings ≡ Some settings → key_in (keys_of settings) p ≡ Some key → run_at n p ≡ Some r
      → is_late r.began (later (of_peer n.volatile p).clock) ≡ true → P (Some (silent_by p r))
  pub due : (settings : Settings) (p : ℕ) (key : List ℕ) → x ≡ Tick p → (state n.history).settings ≡ Some settings → key_in (keys_of settings) p ≡ Some key → (row (state n.history) p).due ≡ true → P (Some (discarded_by (state n.history) p))
  pub asks : (settings : Settings) (p : ℕ) (key : List ℕ) (o : Object) (os : List Object) → x ≡ Tick p → (state n.history).settings ≡ Some settings → key_in (keys_of settings) p ≡ Some key → run_at n p ≡ None
      → objects_to_ask (row (state n.history) p) ≡ o ∷ os → P (Some (Asked (record { peer = p; objects = objects_drawn settings.seed (state n.history) (o ∷ os) })))
  pub proof : (settings : Settings) (bytes : List ℕ) (i : Incoming) (nonce value own : List ℕ) (r : Run) → x ≡ Datagram bytes → (state n.history).settings ≡ Some settings → read_frame settings.id (keys_of settings) bytes ≡ Ok i
      → message_of i.frame ≡ Some (Proves nonce value) → run_at n i.from ≡ Some r → is_of settings.seed i.number nonce r ≡ true → chain_over (own_bytes settings.seed n.history) nonce r.objects ≡ Some own
      → P (Some (if name_eq own value then passed_by i.from r else wrong_by i.from value r))
  pub declined : (settings : Settings) (bytes : List ℕ) (i : Incoming) (nonce places : List ℕ) (r : Run) → x ≡ Datagram bytes → (state n.history).settings ≡ Some settings → read_frame settings.id (keys_of settings) bytes ≡ Ok i
      → message_of i.frame ≡ Some (Declines nonce places) → run_at n i.from ≡ Some r → is_of settings.seed i.number nonce r ≡ true → are_places_of r places ≡ true → P (Some (declined_by i.from places r))
  pub keep : (name bytes : List ℕ) → x ≡ Keep name bytes → own_has (state n.history).own name ≡ false → meets_others n.history name bytes ≡ false → P (Some (kept_with (state n.history) name bytes))
  pub snap : (note : SnapNote) → x ≡ Snap note → P (Some (snapped_with (state n.history) note))
  pub forget : (number : ℕ) → x ≡ Forget number → has_snapshot (state n.history) number ≡ true → P (Some (Forgot (record { number = number })))

either : (P : Option Change → Type 0) (b : Bool) (r q : Reaction) → P r.grown → P q.grown → P (if b then r else q).grown
either P true r q hr hq = hr
either P false r q hr hq = hq

standing_makes : (P : Option Change → Type 0) (settings : Settings) (n : Situation) (from : Sender) (c : Change) (how : Standing) → P None → (how ≡ Fresh → P (Some c)) → P (by_standing how settings n from c).grown
standing_makes P settings n from c Fresh none made = made refl
standing_makes P settings n from c Repeat none made = none
standing_makes P settings n from c Stale none made = none
standing_makes P settings n from c Gap none made = none

settled_makes : (P : Option Change → Type 0) (o : Option Change) → P None → ((c : Change) → o ≡ Some c → P (Some c)) → P (by_settled o).grown
settled_makes P None none made = none
settled_makes P (Some c) none made = made c refl

value_makes : (P : Option Change → Type 0) (p : ℕ) (value : List ℕ) (r : Run) (o : Option (List ℕ)) → P None → ((own : List ℕ) → o ≡ Some own → P (Some (if name_eq own value then passed_by p r else wrong_by p value r))) → P (by_value p value r o).grown
value_makes P p value r None none made = none
value_makes P p value r (Some own) none made = made own refl

proof_makes : (P : Option Change → Type 0) (settings : Settings) (n : Situation) (bytes : List ℕ) (i : Incoming) (nonce value : List ℕ) (o : Option Run) → Causes P n (Datagram bytes) → (state n.history).settings ≡ Some settings → read_frame settings.id (keys_of settings) bytes ≡ Ok i
    → message_of i.frame ≡ Some (Proves nonce value) → run_at n i.from ≡ o → P (by_proof settings n.history (record { peer = i.from; number = i.number }) nonce value o).grown
proof_makes P settings n bytes i nonce value None w present read is run = w.none
proof_makes P settings n bytes i nonce value (Some r) w present read is run =
    by_cases (is_of settings.seed i.number nonce r)
    (λ k. rw k (value_makes P i.from value r (chain_over (own_bytes settings.seed n.history) nonce r.objects) w.none (λ own made. w.proof settings bytes i nonce value own r refl present read is run k made)))
    (λ k. rw k w.none)

declined_makes : (P : Option Change → Type 0) (settings : Settings) (n : Situation) (bytes : List ℕ) (i : Incoming) (nonce places : List ℕ) (o : Option Run) → Causes P n (Datagram bytes) → (state n.history).settings ≡ Some settings → read_frame settings.id (keys_of settings) bytes ≡ Ok i
    → message_of i.frame ≡ Some (Declines nonce places) → run_at n i.from ≡ o → P (by_declined settings (record { peer = i.from; number = i.number }) nonce places o).grown
declined_makes P settings n bytes i nonce places None w present read is run = w.none
declined_makes P settings n bytes i nonce places (Some r) w present read is run =
    by_cases (is_of settings.seed i.number nonce r && are_places_of r places)
    (λ k. let a = and_parts (is_of settings.seed i.number nonce r) (are_places_of r places) k in rw k (w.declined settings bytes i nonce places r refl present read is run a.0 a.1))
    (λ k. rw k w.none)

message_makes : (P : Option Change → Type 0) (settings : Settings) (n : Situation) (bytes : List ℕ) (i : Incoming) (m : Message) → Causes P n (Datagram bytes) → (state n.history).settings ≡ Some settings
    → read_frame settings.id (keys_of settings) bytes ≡ Ok i → message_of i.frame ≡ Some m → P (on_message settings n (record { peer = i.from; number = i.number }) m).grown
message_makes P settings n bytes i (Deals deal) w present read is =
    standing_makes P settings n (record { peer = i.from; number = i.number }) (judged_at settings n.history i.from i.number deal) (standing (row (state n.history) i.from).last.number i.number) w.none
    (λ fresh. w.deal settings bytes i deal refl present read is fresh)
message_makes P settings n bytes i (Replies reply) w present read is =
    settled_makes P (settle (state n.history) i.from i.number reply) w.none (λ c made. w.reply settings bytes i reply c refl present read is made)
message_makes P settings n bytes i (Gets name) w present read is = either P (has_chunk (state n.history) i.from name) _ quiet w.none w.none
message_makes P settings n bytes i (Asks salt names) w present read is = w.none
message_makes P settings n bytes i (Tells salt bits) w present read is = either P (answers (open_question (state n.history)) salt bits) _ quiet w.none w.none
message_makes P settings n bytes i (Probes nonce objects) w present read is = w.none
message_makes P settings n bytes i (Proves nonce value) w present read is = proof_makes P settings n bytes i nonce value (run_at n i.from) w present read is refl
message_makes P settings n bytes i (Declines nonce places) w present read is = declined_makes P settings n bytes i nonce places (run_at n i.from) w present read is refl

by_message_makes : (P : Option Change → Type 0) (settings : Settings) (n : Situation) (bytes : List ℕ) (i : Incoming) (o : Option Message) → Causes P n (Datagram bytes) → (state n.history).settings ≡ Some settings
    → read_frame settings.id (keys_of settings) bytes ≡ Ok i → message_of i.frame ≡ o → P (by_message settings n (record { peer = i.from; number = i.number }) o).grown
by_message_makes P settings n bytes i None w present read is = w.none
by_message_makes P settings n bytes i (Some m) w present read is = message_makes P settings n bytes i m w present read is

read_makes : (P : Option Change → Type 0) (settings : Settings) (n : Situation) (bytes : List ℕ) (r : Result Incoming Dropped) → Causes P n (Datagram bytes) → (state n.history).settings ≡ Some settings
    → read_frame settings.id (keys_of settings) bytes ≡ r → P (on_read settings n r).grown
read_makes P settings n bytes (Err why) w present read = w.none
read_makes P settings n bytes (Ok i) w present read = by_message_makes P settings n bytes i (message_of i.frame) w present read refl

datagram_makes : (P : Option Change → Type 0) (n : Situation) (bytes : List ℕ) (o : Option Settings) → Causes P n (Datagram bytes) → (state n.history).settings ≡ o → P (on_datagram o n bytes).grown
datagram_makes P n bytes None w is = w.none
datagram_makes P n bytes (Some settings) w is = read_makes P settings n bytes (read_frame settings.id (keys_of settings) bytes) w is refl

-- ---- ticks

-- what holds of what two rules make holds of the one and then the other
pub then_makes : (P : Option Change → Type 0) (r next : Rule) → P r.grown → P next.grown → P (then_by r next).grown
then_makes P r next hr hn = by_going r.goes_on
  where
    by_going : (b : Bool) → P (if b then record { grown = next.grown; letters = r.letters ++ next.letters; goes_on = next.goes_on } else r).grown
    by_going true = hn
    by_going false = hr

choice_makes : (P : Option Change → Type 0) (settings : Settings) (n : Situation) (p : ℕ) (key : List ℕ) (o : Option (List Candidate)) → Causes P n (Tick p) → (state n.history).settings ≡ Some settings → key_in (keys_of settings) p ≡ Some key
    → choice_at settings n p ≡ o → P (by_choice o).grown
choice_makes P settings n p key None w present keyed is = w.none
choice_makes P settings n p key (Some candidates) w present keyed is = w.choice settings p key candidates refl present keyed is

offer_makes : (P : Option Change → Type 0) (settings : Settings) (n : Situation) (p : ℕ) (key : List ℕ) (o : Option Offer) → Causes P n (Tick p) → (state n.history).settings ≡ Some settings → key_in (keys_of settings) p ≡ Some key
    → offer_at settings n p ≡ o → P (by_offer settings n.history p o).grown
offer_makes P settings n p key None w present keyed is = w.none
offer_makes P settings n p key (Some o) w present keyed is =
    offer_cases settings n p o is
    (λ pending old. subst P (sym (ap (λ (b : Bool). cond b (Some (Proposed (record { peer = p; deal = o.deal.number; what = o.deal.what }))) None) old)) w.none)
    (λ idle what found same. subst (λ (x : Offer). P (grown_by p x)) same (w.propose settings p key what refl present keyed idle found))

late_makes : (P : Option Change → Type 0) (settings : Settings) (n : Situation) (p : ℕ) (key : List ℕ) (o : Option Run) → Causes P n (Tick p) → (state n.history).settings ≡ Some settings → key_in (keys_of settings) p ≡ Some key
    → run_at n p ≡ o → P (by_late p (later (of_peer n.volatile p).clock) o).grown
late_makes P settings n p key None w present keyed is = w.none
late_makes P settings n p key (Some r) w present keyed is =
    by_cases (is_late r.began (later (of_peer n.volatile p).clock)) (λ k. rw k (w.late settings p key r refl present keyed is k)) (λ k. rw k w.none)

due_makes : (P : Option Change → Type 0) (settings : Settings) (n : Situation) (p : ℕ) (key : List ℕ) → Causes P n (Tick p) → (state n.history).settings ≡ Some settings → key_in (keys_of settings) p ≡ Some key → P (by_due (state n.history) p).grown
due_makes P settings n p key w present keyed = by_cases (row (state n.history) p).due (λ k. rw k (w.due settings p key refl present keyed k)) (λ k. rw k w.none)

begins_makes : (P : Option Change → Type 0) (settings : Settings) (n : Situation) (p clock : ℕ) (key : List ℕ) (os : List Object) → Causes P n (Tick p) → (state n.history).settings ≡ Some settings → key_in (keys_of settings) p ≡ Some key
    → run_at n p ≡ None → objects_to_ask (row (state n.history) p) ≡ os → P (begins_with settings.seed (state n.history) p clock os).grown
begins_makes P settings n p clock key [] w present keyed idle is = w.none
begins_makes P settings n p clock key (o ∷ os) w present keyed idle is = w.asks settings p key o os refl present keyed idle is

run_makes : (P : Option Change → Type 0) (settings : Settings) (n : Situation) (p : ℕ) (key : List ℕ) (o : Option Run) → Causes P n (Tick p) → (state n.history).settings ≡ Some settings → key_in (keys_of settings) p ≡ Some key
    → run_at n p ≡ o → P (by_run settings.seed (state n.history) p (of_peer n.volatile p) o).grown
run_makes P settings n p key None w present keyed is =
    by_cases (nat_le ((of_peer n.volatile p).ended + ticks_between) (later (of_peer n.volatile p).clock))
    (λ k. rw k (begins_makes P settings n p (later (of_peer n.volatile p).clock) key (objects_to_ask (row (state n.history) p)) w present keyed is refl))
    (λ k. rw k w.none)
run_makes P settings n p key (Some r) w present keyed is = w.none

key_makes : (P : Option Change → Type 0) (settings : Settings) (n : Situation) (p : ℕ) (o : Option (List ℕ)) → Causes P n (Tick p) → (state n.history).settings ≡ Some settings → key_in (keys_of settings) p ≡ o
    → P (by_key settings n p o).grown
key_makes P settings n p None w present keyed = w.none
key_makes P settings n p (Some key) w present keyed =
    then_makes P (by_late p (later (of_peer n.volatile p).clock) (run_at n p)) _ (late_makes P settings n p key (run_at n p) w present keyed refl)
    (then_makes P (by_due (state n.history) p) _ (due_makes P settings n p key w present keyed)
    (then_makes P (by_choice (choice_at settings n p)) _ (choice_makes P settings n p key (choice_at settings n p) w present keyed refl)
    (then_makes P (by_offer settings n.history p (offer_at settings n p)) _ (offer_makes P settings n p key (offer_at settings n p) w present keyed refl)
    (then_makes P (by_run settings.seed (state n.history) p (of_peer n.volatile p) (run_at n p)) _ (run_makes P settings n p key (run_at n p) w present keyed refl) w.none))))

tick_makes : (P : Option Change → Type 0) (n : Situation) (p : ℕ) (o : Option Settings) → Causes P n (Tick p) → (state n.history).settings ≡ o → P (on_tick o n p).grown
tick_makes P n p None w is = w.none
tick_makes P n p (Some settings) w is = key_makes P settings n p (key_in (keys_of settings) p) w is refl

-- ---- any input

pub caused : (P : Option Change → Type 0) (n : Situation) (x : Input) → Causes P n x → P (react n x).grown
caused P n (Datagram bytes) w = datagram_makes P n bytes (state n.history).settings w refl
caused P n (Tick p) w = tick_makes P n p (state n.history).settings w refl
caused P n (Keep name bytes) w =
    by_cases (own_has (state n.history).own name || meets_others n.history name bytes)
    (λ k. rw k w.none)
    (λ k. let two = either_none (own_has (state n.history).own name) (meets_others n.history name bytes) k in rw k (w.keep name bytes refl two.0 two.1))
caused P n (Snap note) w = w.snap note refl
caused P n (Forget number) w = by_cases (has_snapshot (state n.history) number) (λ k. rw k (w.forget number refl k)) (λ k. rw k w.none)
