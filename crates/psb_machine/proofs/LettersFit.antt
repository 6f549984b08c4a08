-- Each letter of a reaction fits the grammar.
use Rattle.std.proofs.Common.{◌≡◌, ◌⊎◌, inl, inr, ⊎_elim, ◌<◌, ◌≤◌, ◌^◌, ℕ, ◌+◌, ◌-◌, Bool, true, false, ◌&&◌, ◌||◌, ◌==◌, if◌then◌else◌, nat_le, slice_get, option_map, option_to_list, List, [], ◌∷◌, ◌++◌, length, Option, Some, None, Result, Ok, Err, refl, sym, ap, subst, ◌∙◌, arith}
use Rattle.std.specs.List.{list_all}
use Rattle.std.proofs.lemmas.Bool.{and_parts, leb-true, ltb-true, le-leb, lt-ltb}
use Rattle.std.proofs.Math.Nat.{pow-suc}
use Rattle.std.proofs.Math.Pow.{pow_mono}
use Rattle.psb_bytes.specs.Units.{units}
use Rattle.psb_bytes.specs.Numbers.{AreBytes}
use Rattle.psb_bytes.specs.declared.ids.Object.{Object}
use Rattle.psb_bytes.specs.declared.ids.Object.TheVariants.{Chunk, Slot}
use Rattle.psb_settings.specs.declared.settings.Settings.{Settings}
use Rattle.psb_model.specs.Words.{In}
use Rattle.psb_model.specs.declared.deals.Deal.{Deal as OwnDeal}
use Rattle.psb_model.specs.declared.deals.DealWhat.{DealWhat}
use Rattle.psb_model.specs.declared.deals.DealWhat.TheVariants as own
use Rattle.psb_model.specs.declared.entries.Candidate.{Candidate}
use Rattle.psb_model.specs.declared.change.Change.{Change}
use Rattle.psb_model.specs.declared.change.Change.TheVariants.{TookFresh, Refused, Forgot, Asked}
use Rattle.psb_model.specs.State.{State, row, is_peer, is_held, own_has}
use Rattle.psb_model.specs.Grammar.{fits_widths, is_u8, is_u32, is_u64, is_digest, object_fits, what_fits}
use Rattle.psb_model.specs.Conditions.{most_claims, tests}
use Rattle.psb_model.specs.History.{state}
use Rattle.psb_model.specs.Needed.{IsValid, last_brought}
use Rattle.psb_model.proofs.Prefixes.{all_snoc}
use Rattle.psb_model.proofs.Steps.{parts}
use Rattle.psb_model.proofs.Steady.{allows}
use Rattle.model_laws.proofs.Following.{asked_is}
use Rattle.model_laws.proofs.Fitting.{few_units}
use Rattle.model_laws.proofs.Widths.{pending_fits, wide_state}
use Rattle.model_laws.proofs.Numbered.{numbered_state}
use Rattle.wire_codec.specs.Fields.{is_object, is_text, are_slots, are_names, within}
use Rattle.wire_codec.specs.Frames.{Incoming, fits, kind_of, read_frame, key_in}
use Rattle.wire_codec.specs.declared.limits.TheConstants.{MOST_SLOTS}
use Rattle.wire_codec.specs.declared.frame.Dropped.{Dropped}
use Rattle.wire_codec.specs.declared.frame.Frame.{Frame}
use Rattle.wire_codec.specs.declared.frame.Frame.TheVariants as frame
use Rattle.wire_codec.proofs.FrameLaws.{takes}
use Rattle.psb_machine.specs.Letters.{Letter, keys_of}
use Rattle.psb_machine.specs.Deals.{Deal, standing, judged, judged_at, clashes, first_that_holds, meets_others}
use Rattle.psb_machine.specs.Judging.{reasons_at, taken_at}
use Rattle.psb_machine.specs.Messages.{Sender, Message, Deals, Replies, Gets, Asks, Tells, Probes, Proves, Declines, message_of}
use Rattle.psb_machine.specs.OwnProbes.{Run, listed_by, objects_to_ask, objects_drawn, nonce_of, probe_letter, ticks_between, is_of, own_bytes, silent_by, are_places_of}
use Rattle.probe.specs.Deadlines.{is_late}
use Rattle.psb_machine.specs.Volatile.{of_peer, later}
use Rattle.psb_machine.specs.Gets.{has_chunk}
use Rattle.psb_machine.specs.Probing.{proof_of, chain_over}
use Rattle.psb_machine.specs.Replies.{reply, reply_of, is_answerable, claims_from}
use Rattle.psb_machine.specs.Settling.{settle}
use Rattle.psb_machine.specs.Proposals.{Offer, frame_of, letter_of, is_askable, is_even, units_there}
use Rattle.psb_machine.specs.Sampling.{bits_of, bit_of, open_question, question_to, questions, answers}
use Rattle.psb_machine.specs.declared.deals.Refusal.{Refusal}
use Rattle.psb_machine.specs.declared.deals.Standing.{Standing}
use Rattle.psb_machine.specs.declared.deals.Standing.TheVariants.{Fresh, Repeat, Stale, Gap}
use Rattle.psb_machine.specs.declared.question.Question.{Question}
use Rattle.psb_machine.specs.Machine.{Situation, Input, Datagram, Tick, Keep, Snap, Forget, Reaction, Rule, quiet, grows, keeps, answers_with, by_standing, here, by_settled, on_message, by_message, on_read, on_datagram, kept_with, has_snapshot, then_by, sends, choice_at, by_choice, offer_at, by_offer, by_key, on_tick, react, run_at, by_value, by_proof, by_declined, by_late, discarded_by, by_due, by_run, ends_with, passes, again_at, begins_with}
use Rattle.psb_machine.specs.Laws.{Fits, TickFits, HasRoom, AllAreFrames}
use Rattle.psb_machine.proofs.Standings.{fresh_is_next, repeat_is_last}
use Rattle.psb_machine.proofs.Lasts.{IsAnswered, drawn, last_there}
use Rattle.psb_machine.proofs.Taken.{deal_may}
use Rattle.psb_machine.proofs.Valid.{codes_are, judged_deal_valid}
use Rattle.psb_machine.proofs.Peers.{keyed_is_peer, settings_read}
use Rattle.psb_machine.proofs.Framed.{FrameFits, deal_message, probe_parts, message_fits}
use Rattle.psb_machine.proofs.Causes.{offer_cases}
use Rattle.psb_machine.proofs.Ticking.{offer_askable, proposed_may}
use Rattle.psb_machine.proofs.ClaimFits.{claims_fit, accepted_fits}
use Rattle.psb_machine.proofs.Whole.{frame_read_fits}
use Rattle.psb_machine.proofs.Brought.{last_text}
use Rattle.psb_machine.proofs.Asking.{salt_fits, question_fits}
use Rattle.psb_machine.proofs.Runs.{run_open, number_within}
use Rattle.psb_machine.proofs.Listing.{asked_may}
use Rattle.psb_machine.proofs.ProbeFits.{proof_fits}

-- its number fits the field, or is that of a question's change
abbrev pub IsQuestion : List Change → Letter → Type 0
IsQuestion h l = (kind_of l.frame ≡ 11) × (l.number < length h)

pub record LetterFits (h : List Change) (l : Letter) : Type 0 where
  pub frame : fits l.frame ≡ true
  pub to : l.to < 2 ^ 32
  pub number : (l.number < 2 ^ 64) ⊎ IsQuestion h l

abbrev pub LettersFit : List Change → List Letter → Type 0
LettersFit h [] = Unit {0}
LettersFit h (l ∷ ls) = LetterFits h l × LettersFit h ls

-- to a peer, under a number
fitting : (h : List Change) (p number : ℕ) (f : Frame) → is_u32 p ≡ true → is_u64 number ≡ true → fits f ≡ true → LetterFits h (letter_of p number f)
fitting h p number f peer in_field fit = record { frame = fit; to = ltb-true p (2 ^ 32) peer; number = inl (ltb-true number (2 ^ 64) in_field) }

-- ---- replies

reply_fits : (seed : List ℕ) (c : Change) → is_answerable c ≡ true → fits_widths c ≡ true → fits (reply_of seed c) ≡ true
reply_fits seed (TookFresh x) a w =
    let two = and_parts (nat_le x.len 32768) (nat_le (x.first + units x.len) most_claims) a in
    accepted_fits seed x.first (units x.len) (few_units x.len (leb-true x.len 32768 two.0)) (omega (arith, leb-true (x.first + units x.len) most_claims two.1))
reply_fits seed (Refused x) a w =
    let two = and_parts (nat_le 1 x.why) (nat_le x.why 9) a in
    let detail : is_u64 x.detail ≡ true = (and_parts (is_u32 x.peer && is_u64 x.deal && is_u8 x.why) (is_u64 x.detail) w).1 in
    rw (two.0, two.1, detail) refl
reply_fits seed _ a w = refl

answered_again : (c : Change) → IsAnswered c → is_answerable c ≡ true
answered_again (TookFresh x) a = rw (le-leb x.len 32768 a.1, le-leb (x.first + units x.len) most_claims a.0) refl
answered_again (Refused x) a = rw (le-leb 1 x.why a.0, le-leb x.why 9 a.1) refl
answered_again _ a = refl

-- what is made of a deal
judged_reply : (settings : Settings) (h : List Change) (from : Sender) (deal : Deal) (f : Frame) → IsValid h → (state h).settings ≡ Some settings → is_peer (state h) from.peer ≡ true → FrameFits from.peer from.number f → message_of f ≡ Some (Deals deal)
    → (from.number == (row (state h) from.peer).last.number + 1) ≡ true → fits (reply_of settings.seed (judged_at settings h from.peer from.number deal)) ≡ true
judged_reply settings h from deal f v present peer fit is next = reply_fits settings.seed (judged_at settings h from.peer from.number deal) (by_refusal (first_that_holds (reasons_at settings (state h) from.peer deal (clashes h deal))) refl) widths
  where
    w : IsValid (h ++ judged_at settings h from.peer from.number deal ∷ [])
    w = judged_deal_valid settings h from.peer from.number deal (clashes h deal) v present peer (deal_message from.peer from.number f deal fit is) next

    widths : fits_widths (judged_at settings h from.peer from.number deal) ≡ true
    widths = (and_parts (list_all fits_widths h) (fits_widths (judged_at settings h from.peer from.number deal)) (sym (all_snoc fits_widths h (judged_at settings h from.peer from.number deal)) ∙ w.fit)).1

    by_refusal : (o : Option Refusal) → first_that_holds (reasons_at settings (state h) from.peer deal (clashes h deal)) ≡ o → is_answerable (judged from.peer from.number (taken_at settings (state h) from.peer from.number deal) o) ≡ true
    by_refusal None e = (deal_may settings h from.peer from.number deal (clashes h deal) (record { some = v.some; present = present; peer = peer; next_deal = next; drawn = drawn h v }) (deal_message from.peer from.number f deal fit is) e).answerable
    by_refusal (Some r) e = let code = codes_are r.why in rw (code.0, code.1) refl

deal_answers : (settings : Settings) (n : Situation) (from : Sender) (deal : Deal) (f : Frame) → IsValid n.history → (state n.history).settings ≡ Some settings → is_peer (state n.history) from.peer ≡ true → FrameFits from.peer from.number f → message_of f ≡ Some (Deals deal)
    → (how : Standing) → standing (row (state n.history) from.peer).last.number from.number ≡ how → LettersFit n.history (by_standing how settings n from (judged_at settings n.history from.peer from.number deal)).letters
deal_answers settings n from deal f v present peer fit is Fresh stands =
    (fitting n.history from.peer from.number _ fit.peer fit.number_fits (judged_reply settings n.history from deal f v present peer fit is (fresh_is_next (row (state n.history) from.peer).last.number from.number stands)), tt)
deal_answers settings n from deal f v present peer fit is Repeat stands = repeated (slice_get n.history (row (state n.history) from.peer).last.change) refl
  where
    repeated : (o : Option Change) → slice_get n.history (row (state n.history) from.peer).last.change ≡ o → LettersFit n.history (option_to_list (option_map (reply settings from.peer from.number) o))
    repeated None e = tt
    repeated (Some c) e =
        let same = repeat_is_last (row (state n.history) from.peer).last.number from.number stands in
        let last = last_there n.history from.peer v (ap (λ (k : ℕ). k == 0) (sym same.0) ∙ same.1) in
        let one : last.c ≡ c = cc (sym last.there ∙ e) in
        let again : fits (reply_of settings.seed last.c) ≡ true = reply_fits settings.seed last.c (answered_again last.c last.answered) last.fit in
        (fitting n.history from.peer from.number _ fit.peer fit.number_fits (subst (λ d. fits (reply_of settings.seed d) ≡ true) one again), tt)
deal_answers settings n from deal f v present peer fit is Stale stands = tt
deal_answers settings n from deal f v present peer fit is Gap stands = tt

-- ---- what is asked for, and told

get_name : (f : Frame) (name : List ℕ) → fits f ≡ true → message_of f ≡ Some (Gets name) → is_digest name ≡ true
get_name (frame.Get m) name fit is =
    let same : m ≡ name = ap (λ (o : Option Message). elim o [ Some y ↦ elim y [ Gets a ↦ a | _ ↦ m ] | None ↦ m ]) is in
    subst (λ (l : List ℕ). is_digest l ≡ true) same fit
get_name _ name fit is = absurd (cc (is))

ask_salt : (f : Frame) (salt : List ℕ) (names : List (List ℕ)) → fits f ≡ true → message_of f ≡ Some (Asks salt names) → is_digest salt ≡ true
ask_salt (frame.Ask s ns) salt names fit is =
    let same : s ≡ salt = ap (λ (o : Option Message). elim o [ Some y ↦ elim y [ Asks a b ↦ a | _ ↦ s ] | None ↦ s ]) is in
    subst (λ (l : List ℕ). is_digest l ≡ true) same (and_parts (is_digest s) (are_names ns) fit).0
ask_salt _ salt names fit is = absurd (cc (is))

short_text : (bytes : List ℕ) → is_text 1 bytes ≡ true → is_text 0 bytes ≡ true
short_text bytes h =
    let two = and_parts (within 1 32768 (length bytes)) _ h in
    let most = and_parts (nat_le 1 (length bytes)) (nat_le (length bytes) 32768) two.0 in
    rw (le-leb 0 (length bytes) (omega arith), most.1, two.1) refl

got_letters : (h : List Change) (from : Sender) (name : List ℕ) (f : Frame) → IsValid h → FrameFits from.peer from.number f → is_digest name ≡ true → (o : Option (List ℕ)) → last_brought name h ≡ o → LettersFit h (option_to_list (option_map (here from name) o))
got_letters h from name f v fit named None is = tt
got_letters h from name f v fit named (Some bytes) is = (fitting h from.peer from.number (frame.Here name bytes) fit.peer fit.number_fits (rw (named, short_text bytes (last_text h name bytes v is)) refl), tt)

bit_small : (b : Bool) → bit_of b ≤ 1
bit_small true = omega arith
bit_small false = omega arith

bits_small : (test : List ℕ → Bool) (names : List (List ℕ)) → bits_of test names < 2 ^ length names
bits_small test [] = omega arith
bits_small test (n ∷ ns) = omega (arith, bit_small (test n), bits_small test ns, pow-suc 2 (length ns))

few_bits : (test : List ℕ → Bool) (names : List (List ℕ)) → length names ≤ 32 → is_u32 (bits_of test names) ≡ true
few_bits test names few = lt-ltb (bits_of test names) (2 ^ 32) (omega (arith, bits_small test names, pow_mono few))

-- ---- a proof

proof_letters : (settings : Settings) (h : List Change) (from : Sender) (nonce : List ℕ) (objects : List Object) (f : Frame) → FrameFits from.peer from.number f → message_of f ≡ Some (Probes nonce objects)
    → (o : Option Frame) → proof_of settings h from.peer nonce objects ≡ o → LettersFit h (option_to_list (option_map (letter_of from.peer from.number) o))
proof_letters settings h from nonce objects f fit is None made = tt
proof_letters settings h from nonce objects f fit is (Some answer) made =
    let parts = probe_parts f nonce objects fit.frame_is is in
    (fitting h from.peer from.number answer fit.peer fit.number_fits (proof_fits settings h from.peer nonce objects answer parts.0 parts.1 made), tt)

-- ---- a message

either_letters : (h : List Change) (b : Bool) (r q : Reaction) → LettersFit h r.letters → LettersFit h q.letters → LettersFit h (if b then r else q).letters
either_letters h true r q hr hq = hr
either_letters h false r q hr hq = hq

settled_letters : (h : List Change) (o : Option Change) → LettersFit h (by_settled o).letters
settled_letters h None = tt
settled_letters h (Some c) = tt

value_letters : (h : List Change) (p : ℕ) (value : List ℕ) (r : Run) (o : Option (List ℕ)) → LettersFit h (by_value p value r o).letters
value_letters h p value r None = tt
value_letters h p value r (Some own) = tt

answered_letters : (settings : Settings) (h : List Change) (from : Sender) (nonce value : List ℕ) (o : Option Run) → LettersFit h (by_proof settings h from nonce value o).letters
answered_letters settings h from nonce value None = tt
answered_letters settings h from nonce value (Some r) = either_letters h (is_of settings.seed from.number nonce r) _ quiet (value_letters h from.peer value r (chain_over (own_bytes settings.seed h) nonce r.objects)) tt

declined_letters : (settings : Settings) (h : List Change) (from : Sender) (nonce places : List ℕ) (o : Option Run) → LettersFit h (by_declined settings from nonce places o).letters
declined_letters settings h from nonce places None = tt
declined_letters settings h from nonce places (Some r) = either_letters h (is_of settings.seed from.number nonce r && are_places_of r places) _ quiet tt tt

message_letters : (settings : Settings) (n : Situation) (from : Sender) (m : Message) (f : Frame) → IsValid n.history → (state n.history).settings ≡ Some settings → is_peer (state n.history) from.peer ≡ true → FrameFits from.peer from.number f → message_of f ≡ Some m
    → LettersFit n.history (on_message settings n from m).letters
message_letters settings n from (Deals deal) f v present peer fit is = deal_answers settings n from deal f v present peer fit is (standing (row (state n.history) from.peer).last.number from.number) refl
message_letters settings n from (Replies reply) f v present peer fit is = settled_letters n.history (settle (state n.history) from.peer from.number reply)
message_letters settings n from (Gets name) f v present peer fit is =
    either_letters n.history (has_chunk (state n.history) from.peer name) (answers_with (option_map (here from name) (last_brought name n.history))) quiet
    (got_letters n.history from name f v fit (get_name f name fit.frame_is is) (last_brought name n.history) refl) tt
message_letters settings n from (Asks salt names) f v present peer fit is =
    let few : length names ≤ 32 = message_fits from.peer from.number f (Asks salt names) fit is in
    (fitting n.history from.peer from.number (frame.Sample salt (bits_of (is_held (state n.history)) names)) fit.peer fit.number_fits (rw (ask_salt f salt names fit.frame_is is, few_bits (is_held (state n.history)) names few) refl), tt)
message_letters settings n from (Tells salt bits) f v present peer fit is = either_letters n.history (answers (open_question (state n.history)) salt bits) (keeps from.peer bits) quiet tt tt
message_letters settings n from (Probes nonce objects) f v present peer fit is = proof_letters settings n.history from nonce objects f fit is (proof_of settings n.history from.peer nonce objects) refl
message_letters settings n from (Proves nonce value) f v present peer fit is = answered_letters settings n.history from nonce value (run_at n from.peer)
message_letters settings n from (Declines nonce places) f v present peer fit is = declined_letters settings n.history from nonce places (run_at n from.peer)

by_message_letters : (settings : Settings) (n : Situation) (from : Sender) (o : Option Message) (f : Frame) → IsValid n.history → (state n.history).settings ≡ Some settings → is_peer (state n.history) from.peer ≡ true → FrameFits from.peer from.number f → message_of f ≡ o
    → LettersFit n.history (by_message settings n from o).letters
by_message_letters settings n from None f v present peer fit is = tt
by_message_letters settings n from (Some m) f v present peer fit is = message_letters settings n from m f v present peer fit is

read_letters : (settings : Settings) (n : Situation) (x : List ℕ) (o : Result Incoming Dropped) → IsValid n.history → (state n.history).settings ≡ Some settings → AreBytes x → read_frame settings.id (keys_of settings) x ≡ o → LettersFit n.history (on_read settings n o).letters
read_letters settings n x (Err why) v present bytes read = tt
read_letters settings n x (Ok i) v present bytes read =
    let t = takes settings.id (keys_of settings) x i bytes read in
    by_message_letters settings n (record { peer = i.from; number = i.number }) (message_of i.frame) i.frame v present (keyed_is_peer n.history settings i.from t.key present t.known) (frame_read_fits settings.id (keys_of settings) x i bytes read) refl

-- ---- deals that are offered

some_frame : (a b : Frame) → Some a ≡ Some b → fits a ≡ true → fits b ≡ true
some_frame a b is h = let same : a ≡ b = cc (is) in subst (λ x. fits x ≡ true) same h

by_text : (h : List Change) (name : List ℕ) (o : Option (List ℕ)) (slots : List ℕ) (f : Frame) → IsValid h → last_brought name h ≡ o → is_digest name ≡ true → are_slots 0 slots ≡ true → option_map (frame.Store name slots) o ≡ Some f → fits f ≡ true
by_text h name None slots f v e d sl is = absurd (cc (is))
by_text h name (Some bytes) slots f v e d sl is = some_frame (frame.Store name slots bytes) f is (rw (d, sl, last_text h name bytes v e) refl)

deal_frame_fits : (s : Settings) (h : List Change) (p : ℕ) (what : DealWhat) (f : Frame) → IsValid h → what_fits what ≡ true → is_askable (state h) p what ≡ true → frame_of s h p what ≡ Some f → fits f ≡ true
deal_frame_fits s h p (own.Fresh name) f v w a is = by_text h name (last_brought name h) [] f v refl w refl is
deal_frame_fits s h p (own.Swap name numbers) f v w a is =
    by_text h name (last_brought name h) numbers f v refl (and_parts (is_digest name) (list_all is_u32 numbers) w).0 (and_parts _ (are_slots 0 numbers) a).1 is
deal_frame_fits s h p (own.Cancel name numbers) f v w a is = some_frame (frame.Cancel name numbers) f is (rw ((and_parts (is_digest name) (list_all is_u32 numbers) w).0, a) refl)
deal_frame_fits s h p (own.PutBack name first) f v w a is =
    let u = units_there (state h) p name in
    let two = and_parts (within 1 MOST_SLOTS u) (nat_le (first + u) most_claims) a in
    let bounds = and_parts (nat_le 1 u) (nat_le u MOST_SLOTS) two.0 in
    some_frame (frame.PutBack name (claims_from s.seed first u)) f is
    (rw ((and_parts (is_digest name) (is_u32 first) w).0, claims_fit 1 s.seed first u (leb-true 1 u bounds.0) (leb-true u MOST_SLOTS bounds.1) (omega (arith, leb-true (first + u) most_claims two.1))) refl)
deal_frame_fits s h p (own.Forward slot entry) f v w a is = absurd (cc (is))
deal_frame_fits s h p (own.Return slot) f v w a is = absurd (cc (is))

-- what is offered
record OfferFits (h : List Change) (p : ℕ) (o : Offer) : Type 0 where
  number : is_u64 o.deal.number ≡ true
  what : what_fits o.deal.what ≡ true
  askable : is_askable (state h) p o.deal.what ≡ true

offer_fits : (settings : Settings) (n : Situation) (p : ℕ) (key : List ℕ) (o : Offer) → IsValid n.history → (state n.history).settings ≡ Some settings → key_in (keys_of settings) p ≡ Some key → TickFits (state n.history) p → offer_at settings n p ≡ Some o → OfferFits n.history p o
offer_fits settings n p key o v present keyed f is =
    offer_cases settings n p o is
    (λ pending old. record {
      number = lt-ltb o.deal.number (2 ^ 64) (omega (arith, f.more, ((numbered_state n.history p v.lawful).pending o.deal pending).0));
      what = subst (λ (d : Option OwnDeal). pending_fits d ≡ true) pending ((wide_state n.history v.lawful v.fit).rows p).deal;
      askable = offer_askable settings n p o v present is;
    })
    (λ idle what found same.
    let number = (row (state n.history) p).mine + 1 in
    let m = proposed_may n.history settings p (listed_by (run_at n p)) what v present (keyed_is_peer n.history settings p key present keyed) f idle found in
    let three = and_parts (is_u32 p && is_u64 number) (what_fits what) m.widths in
    record {
      number = subst (λ (y : Offer). is_u64 y.deal.number ≡ true) same (and_parts (is_u32 p) (is_u64 number) three.0).1;
      what = subst (λ (y : Offer). what_fits y.deal.what ≡ true) same three.1;
      askable = offer_askable settings n p o v present is;
    })

framed_letters : (settings : Settings) (h : List Change) (p : ℕ) (o : Offer) (f : Option Frame) → IsValid h → is_u32 p ≡ true → OfferFits h p o → frame_of settings h p o.deal.what ≡ f → LettersFit h (option_to_list (option_map (letter_of p o.deal.number) f))
framed_letters settings h p o None v peer fit is = tt
framed_letters settings h p o (Some f) v peer fit is = (fitting h p o.deal.number f peer fit.number (deal_frame_fits settings h p o.deal.what f v fit.what fit.askable is), tt)

offer_letters : (settings : Settings) (n : Situation) (p : ℕ) (key : List ℕ) (o : Option Offer) → IsValid n.history → (state n.history).settings ≡ Some settings → key_in (keys_of settings) p ≡ Some key → TickFits (state n.history) p → offer_at settings n p ≡ o → LettersFit n.history (by_offer settings n.history p o).letters
offer_letters settings n p key None v present keyed f is = tt
offer_letters settings n p key (Some o) v present keyed f is = framed_letters settings n.history p o (frame_of settings n.history p o.deal.what) v f.peer (offer_fits settings n p key o v present keyed f is) refl

-- ---- ticks

question_letters : (h : List Change) (p : ℕ) (o : Option Question) → IsValid h → is_u32 p ≡ true → open_question (state h) ≡ o → LettersFit h (option_to_list (option_map (question_to p) o))
question_letters h p None v peer is = tt
question_letters h p (Some q) v peer is = let two = question_fits h q v is in (record { frame = two.0; to = ltb-true p (2 ^ 32) peer; number = inr (refl, two.1) }, tt)

both_letters : (h : List Change) (ls ms : List Letter) → LettersFit h ls → LettersFit h ms → LettersFit h (ls ++ ms)
both_letters h [] ms a b = b
both_letters h (l ∷ ls) ms a b = (a.0, both_letters h ls ms a.1 b)

then_letters : (h : List Change) (r next : Rule) → LettersFit h r.letters → LettersFit h next.letters → LettersFit h (then_by r next).letters
then_letters h r next a b = by_going r.goes_on
  where
    by_going : (g : Bool) → LettersFit h (if g then record { grown = next.grown; letters = r.letters ++ next.letters; goes_on = next.goes_on } else r).letters
    by_going true = both_letters h r.letters next.letters a b
    by_going false = a

choice_letters : (h : List Change) (o : Option (List Candidate)) → LettersFit h (by_choice o).letters
choice_letters h None = tt
choice_letters h (Some candidates) = tt

late_letters : (h : List Change) (p clock : ℕ) (o : Option Run) → LettersFit h (by_late p clock o).letters
late_letters h p clock None = tt
late_letters h p clock (Some r) = by_time (is_late r.began clock)
  where
    by_time : (b : Bool) → LettersFit h (if b then ends_with (silent_by p r) [] else passes).letters
    by_time true = tt
    by_time false = tt

due_letters : (h : List Change) (s : State) (p : ℕ) → LettersFit h (by_due s p).letters
due_letters h s p = by_row (row s p).due
  where
    by_row : (b : Bool) → LettersFit h (if b then ends_with (discarded_by s p) [] else passes).letters
    by_row true = tt
    by_row false = tt

-- a probe has the number of the change that asks, and the objects that one lists
objects_spelled : (os : List Object) → list_all object_fits os ≡ true → list_all is_object os ≡ true
objects_spelled [] h = refl
objects_spelled (Chunk name ∷ os) h = let a = and_parts (object_fits (Chunk name)) (list_all object_fits os) h in rw (a.0, objects_spelled os a.1) refl
objects_spelled (Slot n ∷ os) h = let a = and_parts (object_fits (Slot n)) (list_all object_fits os) h in rw (a.0, objects_spelled os a.1) refl

probe_fits : (seed : List ℕ) (asked : ℕ) (os : List Object) → list_all object_fits os ≡ true → nat_le 1 (length os) ≡ true → nat_le (length os) 32 ≡ true → fits (frame.Probe (nonce_of seed asked) os) ≡ true
probe_fits seed asked os fit some few = rw (salt_fits seed asked, some, few, objects_spelled os fit) refl

begins_letters : (settings : Settings) (n : Situation) (p clock : ℕ) (key : List ℕ) (os : List Object) → IsValid n.history → (state n.history).settings ≡ Some settings → key_in (keys_of settings) p ≡ Some key → TickFits (state n.history) p
    → objects_to_ask (row (state n.history) p) ≡ os → LettersFit n.history (begins_with settings.seed (state n.history) p clock os).letters
begins_letters settings n p clock key [] v present keyed f is = tt
begins_letters settings n p clock key (o ∷ os) v present keyed f is =
    let s = state n.history in
    let drawn = objects_drawn settings.seed s (o ∷ os) in
    let c : Change = Asked (record { peer = p; objects = drawn }) in
    let m = asked_may n.history settings p o os v (keyed_is_peer n.history settings p key present keyed) f.peer is in
    let ts = parts (tests s c) (allows s c m.may).tests in
    (fitting n.history p s.changes (frame.Probe (nonce_of settings.seed s.changes) drawn) f.peer (lt-ltb s.changes (2 ^ 64) f.room) (probe_fits settings.seed s.changes drawn (and_parts (is_u32 p) (list_all object_fits drawn) m.widths).1 ts.0 ts.1.0), tt)

again_letters : (settings : Settings) (n : Situation) (p : ℕ) (r : Run) → IsValid n.history → TickFits (state n.history) p → run_at n p ≡ Some r → LettersFit n.history (again_at settings.seed p (later (of_peer n.volatile p).clock) r)
again_letters settings n p r v f is = by_clock (is_even (later (of_peer n.volatile p).clock - r.began))
  where
    by_clock : (b : Bool) → LettersFit n.history (if b then probe_letter settings.seed p r ∷ [] else [])
    by_clock true =
        let a = asked_is n.history p r.asked r.objects v (run_open n p r is) in
        let number = number_within n.history p r v (omega (arith, f.room)) (run_open n p r is) in
        (fitting n.history p r.asked (frame.Probe (nonce_of settings.seed r.asked) r.objects) f.peer number (probe_fits settings.seed r.asked r.objects a.fit (le-leb 1 (length r.objects) a.some) (le-leb (length r.objects) 32 a.few)), tt)
    by_clock false = tt

run_letters : (settings : Settings) (n : Situation) (p : ℕ) (key : List ℕ) (o : Option Run) → IsValid n.history → (state n.history).settings ≡ Some settings → key_in (keys_of settings) p ≡ Some key → TickFits (state n.history) p → run_at n p ≡ o
    → LettersFit n.history (by_run settings.seed (state n.history) p (of_peer n.volatile p) o).letters
run_letters settings n p key None v present keyed f is = by_time (nat_le ((of_peer n.volatile p).ended + ticks_between) (later (of_peer n.volatile p).clock))
  where
    by_time : (b : Bool) → LettersFit n.history (if b then begins_with settings.seed (state n.history) p (later (of_peer n.volatile p).clock) (objects_to_ask (row (state n.history) p)) else passes).letters
    by_time true = begins_letters settings n p (later (of_peer n.volatile p).clock) key (objects_to_ask (row (state n.history) p)) v present keyed f refl
    by_time false = tt
run_letters settings n p key (Some r) v present keyed f is = again_letters settings n p r v f is

tick_letters : (settings : Settings) (n : Situation) (p : ℕ) (o : Option (List ℕ)) → IsValid n.history → (state n.history).settings ≡ Some settings → TickFits (state n.history) p → key_in (keys_of settings) p ≡ o → LettersFit n.history (by_key settings n p o).letters
tick_letters settings n p None v present f keyed = tt
tick_letters settings n p (Some key) v present f keyed =
    let last = sends (questions (state n.history) p) in
    let probed = by_run settings.seed (state n.history) p (of_peer n.volatile p) (run_at n p) in
    let offered = by_offer settings n.history p (offer_at settings n p) in
    let chosen = by_choice (choice_at settings n p) in
    let due = by_due (state n.history) p in
    let late = by_late p (later (of_peer n.volatile p).clock) (run_at n p) in
    then_letters n.history late (then_by due (then_by chosen (then_by offered (then_by probed last)))) (late_letters n.history p (later (of_peer n.volatile p).clock) (run_at n p))
    (then_letters n.history due (then_by chosen (then_by offered (then_by probed last))) (due_letters n.history (state n.history) p)
    (then_letters n.history chosen (then_by offered (then_by probed last)) (choice_letters n.history (choice_at settings n p))
    (then_letters n.history offered (then_by probed last) (offer_letters settings n p key (offer_at settings n p) v present keyed f refl)
    (then_letters n.history probed last (run_letters settings n p key (run_at n p) v present keyed f refl)
    (question_letters n.history p (open_question (state n.history)) v f.peer refl)))))

-- ---- any input

pub letters_fit : (settings : Settings) (n : Situation) (x : Input) → IsValid n.history → (state n.history).settings ≡ Some settings → Fits n x → LettersFit n.history (react n x).letters
letters_fit settings n (Datagram x) v present fit = subst (λ (o : Option Settings). LettersFit n.history (on_datagram o n x).letters) (sym present) (read_letters settings n x (read_frame settings.id (keys_of settings) x) v present fit refl)
letters_fit settings n (Tick p) v present fit = subst (λ (o : Option Settings). LettersFit n.history (on_tick o n p).letters) (sym present) (tick_letters settings n p (key_in (keys_of settings) p) v present fit refl)
letters_fit settings n (Keep name bytes) v present fit = either_letters n.history (own_has (state n.history).own name || meets_others n.history name bytes) quiet (grows (kept_with (state n.history) name bytes)) tt tt
letters_fit settings n (Snap note) v present fit = tt
letters_fit settings n (Forget number) v present fit = either_letters n.history (has_snapshot (state n.history) number) (grows (Forgot (record { number = number }))) quiet tt tt

-- one of them
letter_fits : (h : List Change) (l : Letter) (ls : List Letter) → LettersFit h ls → In l ls → LetterFits h l
letter_fits h l [] all there = absurd there
letter_fits h l (m ∷ ms) all there = ⊎_elim (λ same. subst (LetterFits h) (sym same) all.0) (λ rest. letter_fits h l ms all.1 rest) there

room_of : (h : List Change) (f : Frame) → kind_of f ≡ 11 → HasRoom h f → length h ≤ 2 ^ 64
room_of h (frame.Ask salt names) k room = room
room_of h _ k room = absurd (omega (arith, k))

pub all_are_frames : AllAreFrames
all_are_frames n x settings l v present fit there room =
    let f = letter_fits n.history l (react n x).letters (letters_fit settings n x v present fit) there in
    record {
      frame_fits = f.frame;
      from_fits = (settings_read n.history settings present).fits;
      to_fits = f.to;
      number_fits = ⊎_elim (λ k. k) (λ (q : IsQuestion n.history l). omega (arith, q.1, room_of n.history l.frame q.0 room)) f.number;
    }
