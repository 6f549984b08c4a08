-- Each change that the machine makes is of one of its kinds, whatever the history and the input.
use Rattle.std.proofs.Common.{◌≡◌, ℕ, ◌+◌, nat_le, Bool, true, false, ◌==◌, if◌then◌else◌, cond, option_map, option_to_list, List, [], ◌∷◌, Option, Some, None, refl, sym, ap, subst, ◌∙◌}
use Rattle.std.specs.Prelude.{find}
use Rattle.std.specs.List.{list_any, list_all}
use Rattle.std.specs.Option.{option_or}
use Rattle.std.proofs.lemmas.List.Folds.{list_all-append}
use Rattle.psb_bytes.specs.Units.{units}
use Rattle.psb_bytes.specs.declared.ids.Object.{Object}
use Rattle.psb_bytes.specs.declared.ids.Object.TheVariants.{Chunk, Slot}
use Rattle.psb_settings.specs.declared.settings.Settings.{Settings}
use Rattle.psb_model.specs.declared.entries.OutEntry.{OutEntry}
use Rattle.psb_model.specs.declared.entries.OwnEntry.{OwnEntry}
use Rattle.psb_model.specs.declared.deals.DealWhat.{DealWhat}
use Rattle.psb_model.specs.declared.deals.DealWhat.TheVariants as own
use Rattle.psb_model.specs.declared.change.Change.{Change}
use Rattle.psb_model.specs.declared.change.Change.TheVariants.{Proposed}
use Rattle.psb_model.specs.Words.{all_of, name_listed}
use Rattle.psb_model.specs.State.{State, row, used}
use Rattle.psb_model.specs.Conditions.{most_claims, tests}
use Rattle.psb_model.specs.Proposing.{ProposeFacts, as_many, slots_to_give, may_release, cancel, put_back, release_of, release, slots_to_fill, is_missing, swap, fresh, place_of, first_place, place, proposal}
use Rattle.psb_model.specs.History.{state}
use Rattle.psb_model.proofs.ByObject.{by_cases}
use Rattle.psb_bytes.specs.Objects.{name_eq}
use Rattle.psb_machine.specs.OwnProbes.{Run, listed_by, passed_by, wrong_by}
use Rattle.psb_machine.proofs.Causes.{caused}
use Rattle.psb_machine.specs.Made.{is_made_deal, is_made}
use Rattle.psb_machine.specs.Deals.{Deal, StoreFresh, StoreSwap, Cancel, PutBack, Replace, replaced, takes, judged, judged_at, facts_at, clashes, reasons, first_that_holds}
use Rattle.psb_machine.specs.Settling.{Reply, Accepts, Refuses, answers_deal, settle}
use Rattle.psb_machine.specs.Proposals.{propose_facts}
use Rattle.psb_machine.specs.Machine.{Situation, Input, Reaction, changes_of, run_at, react, next}
use Rattle.psb_machine.specs.declared.deals.Refusal.{Refusal}

-- the change that a reaction makes, if it makes one, is of these kinds
abbrev pub MakesSuch : Reaction → Type 0
MakesSuch r = list_all is_made (changes_of r) ≡ true

one_made : (c : Change) → is_made c ≡ true → list_all is_made (c ∷ []) ≡ true
one_made c m = rw m refl

-- ---- a deal that is proposed

abbrev is_made_what : Option DealWhat → Bool
is_made_what None = true
is_made_what (Some w) = is_made_deal w

mapped : (f : List ℕ → DealWhat) → ((l : List ℕ) → is_made_deal (f l) ≡ true) → (o : Option (List ℕ)) → is_made_what (option_map f o) ≡ true
mapped f all None = refl
mapped f all (Some l) = all l

either : (a b : Option DealWhat) → is_made_what a ≡ true → is_made_what b ≡ true → is_made_what (option_or a b) ≡ true
either None b ha hb = hb
either (Some w) b ha hb = ha

one_of : (t : Bool) (a b : Option DealWhat) → is_made_what a ≡ true → is_made_what b ≡ true → is_made_what (if t then a else b) ≡ true
one_of true a b ha hb = ha
one_of false a b ha hb = hb

cancel_made : (s : State) (p : ℕ) (name : List ℕ) (u : ℕ) → is_made_what (cancel s p name u) ≡ true
cancel_made s p name u = mapped (own.Cancel name) (λ l. refl) (if name_listed (row s p).turned_cancels name then None else as_many u (slots_to_give s p))

put_back_made : (issued : ℕ) (name : List ℕ) (u : ℕ) → is_made_what (put_back issued name u) ≡ true
put_back_made issued name u = one_of (nat_le (issued + u) most_claims) (Some (own.PutBack name issued)) None refl refl

release_of_made : (s : State) (p issued : ℕ) (e : OutEntry) → is_made_what (release_of s p issued e) ≡ true
release_of_made s p issued e = by_object e.object
  where
    by_object : (o : Object) → is_made_what (elim o [ Chunk name ↦ option_or (cancel s p name e.units) (put_back issued name e.units) | Slot n ↦ None ]) ≡ true
    by_object (Chunk name) = either (cancel s p name e.units) (put_back issued name e.units) (cancel_made s p name e.units) (put_back_made issued name e.units)
    by_object (Slot n) = refl

release_made : (s : State) (p : ℕ) (probed : List Object) (issued : ℕ) → is_made_what (release s p probed issued) ≡ true
release_made s p probed issued = by_found (find (may_release s p probed) (row s p).outs)
  where
    by_found : (o : Option OutEntry) → is_made_what (elim o [ None ↦ None | Some e ↦ release_of s p issued e ]) ≡ true
    by_found None = refl
    by_found (Some e) = release_of_made s p issued e

place_of_made : (s : State) (p : ℕ) (probed : List Object) (capacity : ℕ) (e : OwnEntry) → is_made_what (place_of s p probed capacity e) ≡ true
place_of_made s p probed capacity e =
    let u = units e.len in
    one_of (is_missing s p e.name) (option_or (swap s p probed e.name u) (fresh s capacity e.name u)) None
    (either (swap s p probed e.name u) (fresh s capacity e.name u)
    (mapped (own.Swap e.name) (λ l. refl) (as_many u (slots_to_fill s p probed)))
    (one_of (nat_le (used s + u) capacity) (Some (own.Fresh e.name)) None refl refl))
    refl

first_place_made : (s : State) (p : ℕ) (probed : List Object) (capacity : ℕ) (es : List OwnEntry) → is_made_what (first_place s p probed capacity es) ≡ true
first_place_made s p probed capacity [] = refl
first_place_made s p probed capacity (e ∷ es) =
    either (place_of s p probed capacity e) (first_place s p probed capacity es) (place_of_made s p probed capacity e) (first_place_made s p probed capacity es)

proposal_made : (s : State) (p : ℕ) (probed : List Object) (facts : ProposeFacts) → is_made_what (proposal s p probed facts) ≡ true
proposal_made s p probed facts =
    let placed = first_place s p probed facts.capacity s.own in
    either (release s p probed facts.issued) (place s p probed facts.capacity) (release_made s p probed facts.issued)
    (one_of (list_any (λ q. q == p) s.chosen) placed None (first_place_made s p probed facts.capacity s.own) refl)

-- ---- deals of a peer, and replies

replaced_made : (p number slot : ℕ) (bytes : List ℕ) (home : Option ℕ) → is_made (replaced p number slot bytes home) ≡ true
replaced_made p number slot bytes None = refl
replaced_made p number slot bytes (Some i) = refl

takes_made : (issued : ℕ) (new : Bool) (home : Option ℕ) (p number : ℕ) (deal : Deal) → is_made (takes issued new home p number deal) ≡ true
takes_made issued new home p number (StoreFresh name bytes) = refl
takes_made issued new home p number (StoreSwap name numbers bytes) = refl
takes_made issued new home p number (Cancel name numbers) = refl
takes_made issued new home p number (PutBack name claims) = refl
takes_made issued new home p number (Replace slot bytes) = replaced_made p number slot bytes home

judged_made : (p number : ℕ) (c : Change) (o : Option Refusal) → is_made c ≡ true → is_made (judged p number c o) ≡ true
judged_made p number c None m = m
judged_made p number c (Some r) m = refl

deal_made : (settings : Settings) (h : List Change) (p number : ℕ) (deal : Deal) → is_made (judged_at settings h p number deal) ≡ true
deal_made settings h p number deal =
    let facts = facts_at settings (state h) deal (clashes h deal) in
    judged_made p number (takes facts.issued facts.new_body facts.home p number deal) (first_that_holds (reasons facts (state h) p deal)) (takes_made facts.issued facts.new_body facts.home p number deal)

answers_made : (p number : ℕ) (reply : Reply) → is_made (answers_deal p number reply) ≡ true
answers_made p number (Accepts claims) = refl
answers_made p number (Refuses why detail) = refl

-- a reply that fits makes what answers the deal
pub settles_by : (s : State) (p number : ℕ) (reply : Reply) (c : Change) → settle s p number reply ≡ Some c → answers_deal p number reply ≡ c
settles_by s p number reply c is =
    by_cases (all_of (tests s (answers_deal p number reply)))
    (λ k. cc (ap (λ (b : Bool). cond b (Some (answers_deal p number reply)) None) (sym k) ∙ is))
    (λ k. let bad : None ≡ Some c = ap (λ (b : Bool). cond b (Some (answers_deal p number reply)) None) (sym k) ∙ is in absurd (cc (bad)))

-- ---- the answer to a probe

value_made : (p : ℕ) (value : List ℕ) (r : Run) (b : Bool) → list_all is_made ((if b then passed_by p r else wrong_by p value r) ∷ []) ≡ true
value_made p value r true = refl
value_made p value r false = refl

-- ---- any input

abbrev are_made : Option Change → Type 0
are_made o = list_all is_made (option_to_list o) ≡ true

pub makes_such : (n : Situation) (x : Input) → MakesSuch (react n x)
makes_such n x = caused are_made n x (record {
  none = refl;
  deal = λ settings bytes i deal came present read is fresh. one_made (judged_at settings n.history i.from i.number deal) (deal_made settings n.history i.from i.number deal);
  reply = λ settings bytes i reply c came present read is made. one_made c (subst (λ (d : Change). is_made d ≡ true) (settles_by (state n.history) i.from i.number reply c made) (answers_made i.from i.number reply));
  choice = λ settings p key candidates came present keyed chosen. refl;
  propose = λ settings p key what came present keyed idle found. one_made (Proposed (record { peer = p; deal = (row (state n.history) p).mine + 1; what = what })) (subst (λ (o : Option DealWhat). is_made_what o ≡ true) found (proposal_made (state n.history) p (listed_by (run_at n p)) (propose_facts settings (state n.history))));
  late = λ settings p key r came present keyed run is. refl;
  due = λ settings p key came present keyed is. refl;
  asks = λ settings p key o os came present keyed idle is. refl;
  proof = λ settings bytes i nonce value own r came present read is run of_it made. value_made i.from value r (name_eq own value);
  declined = λ settings bytes i nonce places r came present read is run of among. refl;
  keep = λ name bytes came lacks same. refl;
  snap = λ note came. refl;
  forget = λ number came has. refl;
})

-- so a history of these kinds grows by these kinds
pub keeps_made : (n : Situation) (x : Input) → list_all is_made n.history ≡ true → list_all is_made (next n x).history ≡ true
keeps_made n x made = list_all-append is_made n.history (changes_of (react n x)) ∙ rw (made, makes_such n x) refl
