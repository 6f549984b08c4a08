-- No deal comes to tie what a probe that runs lists.
use Rattle.std.proofs.Common.{◌≡◌, ◌≤◌, ℕ, ◌+◌, ⊎_elim, Bool, true, false, not, ◌&&◌, ◌==◌, if◌then◌else◌, option_to_list, is_some, List, [], ◌∷◌, ◌++◌, length, Option, Some, None, refl, sym, ap, ◌∙◌, subst, append-nil, arith}
use Rattle.std.specs.List.{list_all}
use Rattle.std.proofs.lemmas.Bool.{and_parts, eqb-true}
use Rattle.psb_bytes.specs.declared.ids.Object.{Object}
use Rattle.psb_bytes.specs.Objects.{name_eq}
use Rattle.psb_settings.specs.declared.settings.Settings.{Settings}
use Rattle.psb_model.specs.Words.{listed}
use Rattle.psb_model.specs.State.{State, row, out_ties, ties_out}
use Rattle.psb_model.specs.Grammar.{in_grammar}
use Rattle.psb_model.specs.Proposing.{proposal}
use Rattle.psb_model.specs.Conditions.{peer_of, is_begun, tests, allowed}
use Rattle.psb_model.specs.Effects.{after}
use Rattle.psb_model.specs.History.{state, is_lawful}
use Rattle.psb_model.specs.declared.deals.Deal.{Deal as OwnDeal}
use Rattle.psb_model.specs.declared.change.Change.{Change}
use Rattle.psb_model.specs.declared.deals.DealWhat.{DealWhat}
use Rattle.psb_model.specs.declared.change.Change.TheVariants.{Snapped, Forgot, Turned, Proposed, Asked}
use Rattle.psb_model.proofs.ByObject.{by_cases}
use Rattle.psb_model.proofs.Steps.{parts}
use Rattle.psb_model.proofs.Steady.{allows}
use Rattle.psb_model.proofs.Prefixes.{state_snoc, lawful_snoc}
use Rattle.model_laws.specs.Finding.{deal_proposed, deal_ended}
use Rattle.model_laws.specs.Following.{probes}
use Rattle.model_laws.proofs.Growth.{begun_first}
use Rattle.model_laws.proofs.Following.{noted as probe_noted}
use Rattle.model_laws.proofs.Noted.{ended_by, pending_by, noted as deal_noted}
use Rattle.model_laws.proofs.Proposable.{proposal_ties_none}
use Rattle.psb_machine.specs.Volatile.{PeerState, Volatile, of_peer, Note, Nothing, Ticked, Sampled, noted, still_asked, probe_goes_on, turned_by, marked_by, probed_by, by_change, by_changes, after_tick, sampled, waiting, asked_now, found_in, changed_in, ticks_to_wait}
use Rattle.psb_machine.specs.OwnProbes.{Run, run_by, run_of, listed_by, passed_by, wrong_by}
use Rattle.psb_machine.specs.Deals.{first_that_holds, judged, facts_at, clashes, Deal, StoreFresh, StoreSwap, Cancel, PutBack, Replace, replaced, takes, reasons, judged_at}
use Rattle.psb_machine.specs.Settling.{Reply, Accepts, Refuses, answers_deal}
use Rattle.psb_machine.specs.Proposals.{propose_facts}
use Rattle.psb_machine.specs.Machine.{Situation, Input, run_at, react}
use Rattle.psb_machine.specs.declared.deals.Refusal.{Refusal}
use Rattle.psb_machine.specs.Laws.{all_untied, IsUntied, SparesProbes, KeepsUntied}
use Rattle.psb_machine.proofs.Causes.{caused}
use Rattle.psb_machine.proofs.Made.{settles_by}
use Rattle.psb_machine.proofs.Found.{changed_there, each_found}
use Rattle.psb_machine.proofs.Runs.{run_parts}
use Rattle.psb_machine.proofs.Whole.{keeps_valid}

-- ---- a probe that runs after an input ran before it, or began with it

-- A probe that is found to run after a mark ran before it.
pub began_from : (f : PeerState → PeerState) → ((x : PeerState) (b : ℕ) → (f x).began ≡ Some b → x.began ≡ Some b) → (l : List (ℕ × PeerState)) (p q b : ℕ) → (found_in (changed_in p f l) q).began ≡ Some b → (found_in l q).began ≡ Some b
began_from f back [] p q b h = by_cases (p == q)
    (λ k. let h' = rw k at h in back _ b h')
    (λ k. let h' = rw k at h in h')
began_from f back (x ∷ xs) p q b h = by_cases (x.0 == p)
    (λ k. let same : x.0 ≡ p = eqb-true x.0 p k in
    let h' = rw k at h in
    by_cases (p == q)
    (λ j. let here : (x.0 == q) ≡ true = ap (λ (n : ℕ). n == q) same ∙ j in let h'' = rw j at h' in rw here (back x.1 b h''))
    (λ j. let here : (x.0 == q) ≡ false = ap (λ (n : ℕ). n == q) same ∙ j in let h'' = rw j at h' in rw here h''))
    (λ k. let h' = rw k at h in
    by_cases (x.0 == q)
    (λ j. let h'' = rw j at h' in rw j h'')
    (λ j. let h'' = rw j at h' in rw j (began_from f back xs p q b h'')))

pub noted_from : (note : Note) (v : Volatile) (q b : ℕ) → (of_peer (noted note v) q).began ≡ Some b → (of_peer v q).began ≡ Some b
noted_from Nothing v q b h = h
noted_from (Ticked p) v q b h = began_from after_tick (λ x c k. k) v.peers p q b h
noted_from (Sampled p bits) v q b h = began_from (sampled bits) (λ x c k. k) v.peers p q b h

turned_from : (o : Option Settings) (p : ℕ) (v : Volatile) (q b : ℕ) → (of_peer (turned_by o p v) q).began ≡ Some b → (of_peer v q).began ≡ Some b
turned_from None p v q b h = h
turned_from (Some settings) p v q b h = began_from (waiting (ticks_to_wait settings.id p)) (λ x c k. k) v.peers p q b h

pub marked_from : (s : State) (c : Change) (v : Volatile) (q b : ℕ) → probes q c ≡ false → (of_peer (marked_by s c v) q).began ≡ Some b → (of_peer v q).began ≡ Some b
marked_from s (Snapped x) v q b quiet h = sym (ap (λ (y : PeerState). y.began) (each_found v.peers q)) ∙ h
marked_from s (Forgot x) v q b quiet h = sym (ap (λ (y : PeerState). y.began) (each_found v.peers q)) ∙ h
marked_from s (Turned x) v q b quiet h = turned_from s.settings x.peer v q b h
marked_from s (Asked x) v q b quiet h = sym (ap (λ (y : PeerState). y.began) (changed_there v.peers asked_now x.peer q quiet)) ∙ h
marked_from s _ v q b quiet h = h

going_on : (still : Bool) (x : PeerState) (b : ℕ) → (probe_goes_on still x).began ≡ Some b → x.began ≡ Some b
going_on still x b h = by_cases (not still && is_some x.began)
    (λ k. let h' = rw k at h in absurd (cc (h')))
    (λ k. let h' = rw k at h in h')

pub probed_from : (s : State) (o : Option ℕ) (v : Volatile) (q b : ℕ) → (of_peer (probed_by s o v) q).began ≡ Some b → (of_peer v q).began ≡ Some b
probed_from s None v q b h = h
probed_from s (Some p) v q b h = began_from (probe_goes_on (still_asked (row s p))) (going_on (still_asked (row s p))) v.peers p q b h

-- ---- what a change ties

-- nothing that a probe lists which runs, by a change that may be none
abbrev pub Spares : Situation → Option Change → Type 0
Spares n None = Unit {0}
Spares n (Some c) = SparesProbes n c

pub none_spares : (n : Situation) (c : Change) → deal_proposed c ≡ None → SparesProbes n c
none_spares n c none q d r is run = absurd (cc (sym none ∙ is))

replaced_none : (p number slot : ℕ) (bytes : List ℕ) (home : Option ℕ) → deal_proposed (replaced p number slot bytes home) ≡ None
replaced_none p number slot bytes None = refl
replaced_none p number slot bytes (Some i) = refl

pub takes_none : (issued : ℕ) (new : Bool) (home : Option ℕ) (p number : ℕ) (deal : Deal) → deal_proposed (takes issued new home p number deal) ≡ None
takes_none issued new home p number (StoreFresh name bytes) = refl
takes_none issued new home p number (StoreSwap name numbers bytes) = refl
takes_none issued new home p number (Cancel name numbers) = refl
takes_none issued new home p number (PutBack name claims) = refl
takes_none issued new home p number (Replace slot bytes) = replaced_none p number slot bytes home

pub judged_none : (p number : ℕ) (c : Change) (o : Option Refusal) → deal_proposed c ≡ None → deal_proposed (judged p number c o) ≡ None
judged_none p number c None h = h
judged_none p number c (Some r) h = refl

pub deal_none : (settings : Settings) (h : List Change) (p number : ℕ) (deal : Deal) → deal_proposed (judged_at settings h p number deal) ≡ None
deal_none settings h p number deal =
    let facts = facts_at settings (state h) deal (clashes h deal) in
    judged_none p number (takes facts.issued facts.new_body facts.home p number deal) (first_that_holds (reasons facts (state h) p deal)) (takes_none facts.issued facts.new_body facts.home p number deal)

pub answers_none : (p number : ℕ) (reply : Reply) → deal_proposed (answers_deal p number reply) ≡ None
answers_none p number (Accepts claims) = refl
answers_none p number (Refuses why detail) = refl

value_none : (p : ℕ) (value : List ℕ) (r : Run) (b : Bool) → deal_proposed (if b then passed_by p r else wrong_by p value r) ≡ None
value_none p value r true = refl
value_none p value r false = refl

-- the running probe, as what is kept out of proposals
listed_run : (n : Situation) (p : ℕ) (r : Run) → run_at n p ≡ Some r → listed_by (run_at n p) ≡ r.objects
listed_run n p r is = ap listed_by is

-- what is proposed is kept apart from what the probe of that peer lists
pub proposed_spares : (n : Situation) (settings : Settings) (p : ℕ) (what : DealWhat) → proposal (state n.history) p (listed_by (run_at n p)) (propose_facts settings (state n.history)) ≡ Some what → SparesProbes n (Proposed (record { peer = p; deal = (row (state n.history) p).mine + 1; what = what }))
proposed_spares n settings p what found q d r is run =
    let same : (p, record { number = (row (state n.history) p).mine + 1; what = what }) ≡ (q, d) = cc (is) in
    let peer : p ≡ q = ap (λ (y : ℕ × OwnDeal). y.0) same in
    let deal : what ≡ d.what = ap (λ (y : ℕ × OwnDeal). y.1.what) same in
    let mine : run_at n p ≡ Some r = ap (run_at n) peer ∙ run in
    let ties = proposal_ties_none (state n.history) p (listed_by (run_at n p)) (propose_facts settings (state n.history)) what found in
    subst (λ w. list_all (λ (o : Object). not (listed (out_ties w) o)) r.objects ≡ true) deal
    (subst (λ (l : List Object). list_all (λ (o : Object). not (listed (out_ties what) o)) l ≡ true) (listed_run n p r mine) ties)

pub react_spares : (n : Situation) (x : Input) → Spares n (react n x).grown
react_spares n x = caused (Spares n) n x (record {
  none = tt;
  deal = λ settings bytes i deal came present read is fresh. none_spares n (judged_at settings n.history i.from i.number deal) (deal_none settings n.history i.from i.number deal);
  reply = λ settings bytes i reply c came present read is made. none_spares n c (sym (ap deal_proposed (settles_by (state n.history) i.from i.number reply c made)) ∙ answers_none i.from i.number reply);
  choice = λ settings p key candidates came present keyed chosen. λ q d r is run. absurd (cc (is));
  propose = λ settings p key what came present keyed idle found. proposed_spares n settings p what found;
  late = λ settings p key r came present keyed run over. λ q d e is k. absurd (cc (is));
  due = λ settings p key came present keyed is. λ q d r k run. absurd (cc (k));
  asks = λ settings p key first rest came present keyed idle there. λ q d r is run. absurd (cc (is));
  proof = λ settings bytes i nonce value own r came present read is run of known. none_spares n (if name_eq own value then passed_by i.from r else wrong_by i.from value r) (value_none i.from value r (name_eq own value));
  declined = λ settings bytes i nonce places r came present read is run of theirs. λ q d e k j. absurd (cc (k));
  keep = λ name bytes came lacks same. λ q d r is run. absurd (cc (is));
  snap = λ note came. λ q d r is run. absurd (cc (is));
  forget = λ number came has. λ q d r is run. absurd (cc (is));
})

-- ---- after a change

ended_untied : (e : Option (ℕ × ℕ)) (q : ℕ) (old : Option OwnDeal) (os : List Object) → list_all (λ (o : Object). not (ties_out old o)) os ≡ true → list_all (λ (o : Object). not (ties_out (ended_by e q old) o)) os ≡ true
ended_untied None q old os h = h
ended_untied (Some y) q old os h = by_cases (y.0 == q) (λ k. rw k (none_tied os)) (λ k. rw k h)
  where
    none_tied : (os : List Object) → list_all (λ (o : Object). not (ties_out None o)) os ≡ true
    none_tied [] = refl
    none_tied (o ∷ os) = none_tied os

-- what is pending behind the change ties none of them
pending_untied : (o : Option (ℕ × OwnDeal)) (e : Option (ℕ × ℕ)) (q : ℕ) (old : Option OwnDeal) (os : List Object) → list_all (λ (x : Object). not (ties_out old x)) os ≡ true
    → ((d : OwnDeal) → o ≡ Some (q, d) → list_all (λ (x : Object). not (listed (out_ties d.what) x)) os ≡ true) → list_all (λ (x : Object). not (ties_out (pending_by o e q old) x)) os ≡ true
pending_untied None e q old os h new = ended_untied e q old os h
pending_untied (Some y) e q old os h new = by_cases (y.0 == q)
    (λ k. rw k (new y.1 (ap (λ (p : ℕ). Some (p, y.1)) (eqb-true y.0 q k))))
    (λ k. rw k h)

-- what stood behind a history that has a change stands behind one more
pub run_again : (b : Option ℕ) (a : Option (ℕ × List Object)) (r : Run) → b ≡ Some r.began → a ≡ Some (r.asked, r.objects) → run_by b a ≡ Some r
run_again b a r hb ha = rw (hb, ha) refl

pub grown_untied : (n : Situation) (note : Note) (c : Change) → 1 ≤ length n.history → allowed (state n.history) c ≡ true → IsUntied n → SparesProbes n c → IsUntied (record { history = n.history ++ c ∷ []; volatile = by_change (state n.history) c (noted note n.volatile) })
grown_untied n note c some may o spares q r is =
    let s = state n.history in
    let v = noted note n.volatile in
    let begun : is_begun c ≡ false = by_cases (is_begun c) (λ k. absurd (omega (arith, some, ap length (begun_first n.history c may k)))) (λ k. k) in
    let now = run_parts (of_peer (by_change s c v) q).began (row (state (n.history ++ c ∷ [])) q).asked r is in
    let there : (row (after s c) q).asked ≡ Some (r.asked, r.objects) = sym (ap (λ (x : State). (row x q).asked) (state_snoc n.history c)) ∙ now.0 in
    let pending : (row (state (n.history ++ c ∷ [])) q).pending ≡ pending_by (deal_proposed c) (deal_ended c) q (row s q).pending = ap (λ (x : State). (row x q).pending) (state_snoc n.history c) ∙ (deal_noted s c q may begun).pending in
    subst (λ (d : Option OwnDeal). list_all (λ (x : Object). not (ties_out d x)) r.objects ≡ true) (sym pending)
    (⊎_elim
    (λ (a : (c ≡ Asked (record { peer = q; objects = r.objects })) × (s.changes ≡ r.asked)).
    let asks = asked_untied s c q r.objects may a.0 in
    pending_untied (deal_proposed c) (deal_ended c) q (row s q).pending r.objects asks (λ d k. absurd (cc (sym (ap deal_proposed a.0) ∙ k))))
    (λ (b : (probes q c ≡ false) × ((row s q).asked ≡ Some (r.asked, r.objects))).
    let before = run_again (of_peer n.volatile q).began (row s q).asked r (noted_from note n.volatile q r.began (marked_from s c v q r.began b.0 (probed_from (after s c) (peer_of c) (marked_by s c v) q r.began now.1))) b.1 in
    pending_untied (deal_proposed c) (deal_ended c) q (row s q).pending r.objects (o q r before) (λ d k. spares q d r k before))
    ((probe_noted s c q may).asked r.asked r.objects there))
  where
    asked_untied : (s : State) (c : Change) (q : ℕ) (os : List Object) → allowed s c ≡ true → c ≡ Asked (record { peer = q; objects = os }) → list_all (λ (x : Object). not (ties_out (row s q).pending x)) os ≡ true
    asked_untied s c q os may is =
        let ask : Change = Asked (record { peer = q; objects = os }) in
        let may' : allowed s ask ≡ true = subst (λ (d : Change). allowed s d ≡ true) is may in
        (parts (tests s ask) (allows s ask may').tests).1.1.1.0

pub same_untied : (n : Situation) (note : Note) → IsUntied n → IsUntied (record { history = n.history ++ []; volatile = noted note n.volatile })
same_untied n note o q r is =
    let history : n.history ++ [] ≡ n.history = append-nil n.history in
    let is' : run_of (of_peer (noted note n.volatile) q) (row (state n.history) q) ≡ Some r = subst (λ (h : List Change). run_of (of_peer (noted note n.volatile) q) (row (state h) q) ≡ Some r) history is in
    let now = run_parts (of_peer (noted note n.volatile) q).began (row (state n.history) q).asked r is' in
    subst (λ (h : List Change). all_untied (row (state h) q) r.objects ≡ true) (sym history) (o q r (run_again (of_peer n.volatile q).began (row (state n.history) q).asked r (noted_from note n.volatile q r.began now.1) now.0))

pub last_allowed : (h : List Change) (c : Change) → is_lawful (h ++ c ∷ []) ≡ true → allowed (state h) c ≡ true
last_allowed h c v = (and_parts (in_grammar c) (allowed (state h) c) (and_parts (is_lawful h) (in_grammar c && allowed (state h) c) (sym (lawful_snoc h c) ∙ v)).1).1

pub keeps_untied : KeepsUntied
keeps_untied n x v o fit = by_grown (react n x).grown (keeps_valid n x v o fit).lawful (react_spares n x)
  where
    by_grown : (g : Option Change) → is_lawful (n.history ++ option_to_list g) ≡ true → Spares n g → IsUntied (record { history = n.history ++ option_to_list g; volatile = by_changes (state n.history) g (noted (react n x).note n.volatile) })
    by_grown None lawful spares = same_untied n (react n x).note o
    by_grown (Some c) lawful spares = grown_untied n (react n x).note c v.some (last_allowed n.history c lawful) o spares
