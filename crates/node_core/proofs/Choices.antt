-- What a node asks before it chooses, and its choice, are the machine's.
use Rattle.std.proofs.Common.{◌≡◌, ℕ, ◌*◌, ◌<◌, ◌≤◌, ◌^◌, Bool, true, false, not, cond, ◌==◌, List, [], ◌∷◌, ◌++◌, length, map, is_some, option_map, option_to_list, Option, Some, None, IfSome, refl, sym, ◌∙◌, ap, subst, arith, length-append}
use Rattle.std.specs.Int.{to_be_bytes, w32}
use Rattle.std.specs.List.{flat_map, list_all}
use Rattle.std.specs.Prelude.{nat_le, if◌then◌else◌}
use Rattle.std.proofs.lemmas.Bool.{and_parts, eq-eqb, false≢true}
use Rattle.psb_station.proofs.Spans.{same_some}
use Rattle.psb_settings.specs.declared.settings.PeerRow.{PeerRow}
use Rattle.psb_settings.specs.declared.settings.Settings.{Settings}
use Rattle.psb_model.specs.State.{State}
use Rattle.psb_model.specs.Candidates.{distinct_peers}
use Rattle.psb_model.specs.Heads.{head_of, candidate}
use Rattle.psb_model.specs.History.{state}
use Rattle.psb_model.specs.Needed.{IsValid}
use Rattle.psb_model.specs.declared.change.Change.{Change}
use Rattle.psb_model.specs.declared.change.Change.TheVariants.{Proposed}
use Rattle.psb_model.specs.declared.entries.Candidate.{Candidate}
use Rattle.model_laws.proofs.Bodies.{valid_snoc}
use Rattle.buddy_select.specs.Order.{put_all}
use Rattle.buddy_select.proofs.Ordering.{put_long}
use Rattle.wire_codec.specs.Frames.{key_in, datagram}
use Rattle.wire_codec.specs.declared.frame.Frame.TheVariants.{Ask}
use Rattle.psb_machine.specs.Sampling.{candidate_by, candidates, is_last, is_ready, choice_among, choice_by, open_question, question_to, questions}
use Rattle.psb_machine.specs.declared.question.Question.{Question}
use Rattle.psb_model.proofs.ByObject.{by_cases}
use Rattle.psb_machine.specs.Letters.{Letter as MachineLetter, key_of_row, spelled, all_spelled}
use Rattle.psb_machine.specs.Proposals.{Offer}
use Rattle.probe.specs.Deadlines.{is_late}
use Rattle.psb_machine.specs.OwnProbes.{Run}
use Rattle.psb_machine.specs.Volatile.{Volatile, PeerState as MachineState, of_peer, later}
use Rattle.psb_machine.specs.Machine.{Situation, Rule, passes, ends_with, then_by, by_late, by_due, run_at, rules, choice_at, choice_of, by_choice, by_offer, offer_at, on_tick, sample_of as machine_sample}
use Rattle.psb_machine.proofs.Choosing.{choice_cases, choice_may, found_asked, found_distinct, found_few, open_is}
use Rattle.psb_machine.proofs.Peers.{settings_read}
use Rattle.peer_states.specs.declared.peer_state.PeerState.{PeerState}
use Rattle.node_core.specs.declared.node.Node.{Node}
use Rattle.node_letters.specs.declared.letter.Letter.{Letter}
use Rattle.node_letters.specs.Letters.{letters_of}
use Rattle.node_letters.specs.Peers.{PeersView, peers_of}
use Rattle.node_core.specs.declared.reaction.Reaction.{Reaction}
use Rattle.peer_states.specs.PeerStates.{state_of, sample_of, KnowsStates}
use Rattle.node_core.specs.declared.reaction.Asking.{Asking}
use Rattle.node_core.specs.Ticking.{IsRule, by_failure, asked_at, Asks, Follows, FollowsSo, OffersDeal, OffersDealSo}
use Rattle.node_core.specs.Making.{MayMake}
use Rattle.node_core.specs.Reacting.{MayFollow, MayCome, IsSame}
use Rattle.node_core.specs.Stored.{Knows}
use Rattle.node_core.proofs.Failing.{failure_ends, failure_passes}
use Rattle.node_core.proofs.Heard.{none_spelled}
use Rattle.node_core.proofs.Ticking.{has_key, spelled_with}
use Rattle.node_core.proofs.Committing.{same_knows, may_follow}

-- ---- the candidates

-- what is kept of a peer has the machine's sample of it
kept_sample : (states : List PeerState) (keys : List (ℕ × List ℕ)) (v : Volatile) (p : ℕ) → KnowsStates states keys v → is_some (key_in keys p) ≡ true → sample_of states p ≡ machine_sample v p
kept_sample states keys v p k keyed = by_state (state_of states p) refl
  where
    by_state : (o : Option PeerState) → state_of states p ≡ o → sample_of states p ≡ machine_sample v p
    by_state None is = absurd (false≢true (sym (ap (λ (o : Option PeerState). is_some o) is) ∙ k.there p ∙ keyed))
    by_state (Some x) is = rw is (sym (ap (λ (y : MachineState). y.sample) (k.are p x is)))

-- so are the candidates, where each of the peers has a key
found_same : (rows : List PeerRow) (states : List PeerState) (keys : List (ℕ × List ℕ)) (v : Volatile) (n : ℕ) → KnowsStates states keys v → list_all (λ (r : PeerRow). is_some (key_in keys r.id)) rows ≡ true → candidates rows (sample_of states) n ≡ candidates rows (machine_sample v) n
found_same [] states keys v n k keyed = refl
found_same (r ∷ rs) states keys v n k keyed =
    let two = and_parts (is_some (key_in keys r.id)) (list_all (λ (x : PeerRow). is_some (key_in keys x.id)) rs) keyed in
    ap (λ (o : Option ℕ). candidate_by r n o ++ candidates rs (sample_of states) n) (kept_sample states keys v r.id k two.0)
    ∙ ap (λ (l : List Candidate). candidate_by r n (machine_sample v r.id) ++ l) (found_same rs states keys v n k two.1)

key_too : (x : PeerRow) (xs : List PeerRow) (q : ℕ) → is_some (key_in (map key_of_row xs) q) ≡ true → is_some (key_in (map key_of_row (x ∷ xs)) q) ≡ true
key_too x xs q h = by_cases (x.id == q) (λ k. rw k refl) (λ k. rw k h)

keys_too : (x : PeerRow) (xs ys : List PeerRow) → list_all (λ (r : PeerRow). is_some (key_in (map key_of_row xs) r.id)) ys ≡ true → list_all (λ (r : PeerRow). is_some (key_in (map key_of_row (x ∷ xs)) r.id)) ys ≡ true
keys_too x xs [] h = refl
keys_too x xs (y ∷ ys) h =
    let two = and_parts (is_some (key_in (map key_of_row xs) y.id)) (list_all (λ (r : PeerRow). is_some (key_in (map key_of_row xs) r.id)) ys) h in
    rw (key_too x xs y.id two.0) (keys_too x xs ys two.1)

-- each peer of the settings has one
all_keyed : (peers : List PeerRow) → list_all (λ (r : PeerRow). is_some (key_in (map key_of_row peers) r.id)) peers ≡ true
all_keyed [] = refl
all_keyed (x ∷ xs) = rw (eq-eqb x.id x.id refl) (keys_too x xs xs (all_keyed xs))

-- ---- the choice

-- by what a node keeps
abbrev pub choice_in : List PeerRow → List PeerState → ℕ → Option Question → ℕ → Option (List Candidate)
choice_in rows states ticks o p = if is_last rows p then elim o [ None ↦ None | Some q ↦ choice_among (length rows) ticks (candidates rows (sample_of states) (length q.names)) ] else None

choice_same : (rows : List PeerRow) (states : List PeerState) (v : Volatile) (ticks : ℕ) (o : Option Question) (p : ℕ) → KnowsStates states (map key_of_row rows) v
    → choice_in rows states ticks o p ≡ (if is_last rows p then choice_by rows (machine_sample v) ticks o else None)
choice_same rows states v ticks o p k = ap (λ (c : Option (List Candidate)). if is_last rows p then c else None) (by_question o)
  where
    by_question : (o : Option Question) → elim o [ None ↦ None | Some q ↦ choice_among (length rows) ticks (candidates rows (sample_of states) (length q.names)) ] ≡ choice_by rows (machine_sample v) ticks o
    by_question None = refl
    by_question (Some q) = ap (choice_among (length rows) ticks) (found_same rows states (map key_of_row rows) v (length q.names) k (all_keyed rows))

-- what a node knows of its settings
peers_here : {L : Type 0} (node : Node L) (n : Situation) (settings : Settings) → Knows node n → (state n.history).settings ≡ Some settings → node.peers ≡ peers_of settings
peers_here node n settings k present =
    let same : k.settings.settings ≡ settings = same_some (state n.history).settings k.settings.settings settings k.settings.present present in
    k.settings.peers ∙ ap peers_of same

pub choice_node : {L : Type 0} (node : Node L) (n : Situation) (settings : Settings) (p : ℕ) (x : PeerState) → Knows node n → (state n.history).settings ≡ Some settings → state_of node.states.items p ≡ Some x
    → choice_in node.peers.rows node.states.items (later x.clock) (open_question node.ledger.state) p ≡ choice_at settings n p
choice_node node n settings p x k present found =
    let here = peers_here node n settings k present in
    let states = subst (λ (w : PeersView). KnowsStates node.states.items w.keys n.volatile) here k.states in
    ap (λ (w : PeersView). choice_in w.rows node.states.items (later x.clock) (open_question node.ledger.state) p) here
    ∙ ap (λ (s : State). choice_in settings.peers node.states.items (later x.clock) (open_question s) p) k.ledger
    ∙ ap (λ (c : ℕ). choice_in settings.peers node.states.items (later c) (open_question (state n.history)) p) (ap (λ (y : MachineState). y.clock) (sym (k.states.are p x found)))
    ∙ choice_same settings.peers node.states.items n.volatile (later (of_peer n.volatile p).clock) (open_question (state n.history)) p states

-- where nothing is asked, or it is no tick of the last peer
pub none_open : (rows : List PeerRow) (states : List PeerState) (ticks : ℕ) (o : Option Question) (p : ℕ) → o ≡ None → choice_in rows states ticks o p ≡ None
none_open rows states ticks o p is = by_cases (is_last rows p) (λ k. rw (k, is) refl) (λ k. rw k refl)

pub none_last : (rows : List PeerRow) (states : List PeerState) (ticks : ℕ) (o : Option Question) (p : ℕ) → is_last rows p ≡ false → choice_in rows states ticks o p ≡ None
none_last rows states ticks o p k = rw k refl

-- where it is one
pub ready_last : (rows : List PeerRow) (states : List PeerState) (ticks : ℕ) (o : Option Question) (p : ℕ) (q : Question) → o ≡ Some q → is_last rows p ≡ true → choice_in rows states ticks o p ≡ choice_among (length rows) ticks (candidates rows (sample_of states) (length q.names))
ready_last rows states ticks o p q is k = rw (k, is) refl

-- what it is then
among_is : (peers ticks : ℕ) (found : List Candidate) (b : Bool) → is_ready peers (length found) ticks ≡ b → choice_among peers ticks found ≡ (if b then Some (put_all [] found) else None)
among_is peers ticks found b is = ap (λ (t : Bool). if t then Some (put_all [] found) else None) is

pub chooses : {L : Type 0} (node : Node L) (n : Situation) (settings : Settings) (p : ℕ) (x : PeerState) (q : Question) → Knows node n → (state n.history).settings ≡ Some settings → state_of node.states.items p ≡ Some x → open_question node.ledger.state ≡ Some q → is_last node.peers.rows p ≡ true
    → is_ready (length node.peers.rows) (length (candidates node.peers.rows (sample_of node.states.items) (length q.names))) (later x.clock) ≡ true → Some (choice_of (put_all [] (candidates node.peers.rows (sample_of node.states.items) (length q.names)))) ≡ option_map choice_of (choice_at settings n p)
chooses node n settings p x q k present found opened last ready =
    let cs = candidates node.peers.rows (sample_of node.states.items) (length q.names) in
    ap (option_map choice_of)
    (sym (among_is (length node.peers.rows) (later x.clock) cs true ready)
    ∙ sym (ready_last node.peers.rows node.states.items (later x.clock) (open_question node.ledger.state) p q opened last)
    ∙ choice_node node n settings p x k present found)

pub chooses_none : {L : Type 0} (node : Node L) (n : Situation) (settings : Settings) (p : ℕ) (x : PeerState) (q : Question) → Knows node n → (state n.history).settings ≡ Some settings → state_of node.states.items p ≡ Some x → open_question node.ledger.state ≡ Some q → is_last node.peers.rows p ≡ true
    → is_ready (length node.peers.rows) (length (candidates node.peers.rows (sample_of node.states.items) (length q.names))) (later x.clock) ≡ false → None ≡ option_map choice_of (choice_at settings n p)
chooses_none node n settings p x q k present found opened last not_ready =
    let cs = candidates node.peers.rows (sample_of node.states.items) (length q.names) in
    ap (option_map choice_of)
    (sym (among_is (length node.peers.rows) (later x.clock) cs false not_ready)
    ∙ sym (ready_last node.peers.rows node.states.items (later x.clock) (open_question node.ledger.state) p q opened last)
    ∙ choice_node node n settings p x k present found)

-- ---- what the choice needs

pub record CanChoose (found : List Candidate) : Type 0 where
  pub asked : list_all (λ (x : Candidate). nat_le 1 x.of) found ≡ true
  pub distinct : distinct_peers found ≡ true

pub can_choose : {L : Type 0} (node : Node L) (n : Situation) (q : Question) → Knows node n → open_question node.ledger.state ≡ Some q → CanChoose (candidates node.peers.rows (sample_of node.states.items) (length q.names))
can_choose node n q k opened =
    let settings = k.settings.settings in
    let is = open_is node.ledger.state q opened in
    let states = subst (λ (w : PeersView). KnowsStates node.states.items w.keys n.volatile) k.settings.peers k.states in
    let same : candidates node.peers.rows (sample_of node.states.items) (length q.names) ≡ candidates settings.peers (machine_sample n.volatile) (length q.names) =
    ap (λ (w : PeersView). candidates w.rows (sample_of node.states.items) (length q.names)) k.settings.peers
    ∙ found_same settings.peers node.states.items (map key_of_row settings.peers) n.volatile (length q.names) states (all_keyed settings.peers) in
    subst CanChoose (sym same) (record {
      asked = found_asked settings.peers (machine_sample n.volatile) (length q.names) is.some_names;
      distinct = found_distinct settings.peers (machine_sample n.volatile) (length q.names) (settings_read n.history settings k.settings.present).distinct;
    })

-- ---- it may be made

candidates_long : (cs : List Candidate) → length (flat_map candidate cs) ≡ 16 * length cs
candidates_long [] = refl
candidates_long (x ∷ xs) =
    let a = to_be_bytes w32 x.peer in
    let b = to_be_bytes w32 x.got in
    let d = to_be_bytes w32 x.of in
    let e = to_be_bytes w32 x.hops in
    omega (arith, candidates_long xs, length-append (candidate x) (flat_map candidate xs), length-append (a ++ b ++ d) e, length-append (a ++ b) d, length-append a b)

chose_short : (cs : List Candidate) → length cs ≤ 64 → length (head_of (choice_of cs)) ≤ 2000
chose_short cs few = omega (arith, few, candidates_long cs, length-append (to_be_bytes w32 (length cs)) (flat_map candidate cs))

chosen_few : (settings : Settings) (n : Situation) (p : ℕ) (cs : List Candidate) → IsValid n.history → (state n.history).settings ≡ Some settings → choice_at settings n p ≡ Some cs → length cs ≤ 64
chosen_few settings n p cs v present is =
    choice_cases (length cs ≤ 64) settings n p cs is (λ q f.
    let found = candidates settings.peers (machine_sample n.volatile) (length q.names) in
    omega (arith, ap length f.order, put_long found, found_few settings.peers (machine_sample n.volatile) (length q.names), (settings_read n.history settings present).few_peers))

pub record MayChoose (n : Situation) (c : Change) : Type 0 where
  pub make : MayMake (state n.history) c
  pub follow : MayFollow n c

may_choose : (settings : Settings) (n : Situation) (p : ℕ) (cs : List Candidate) → IsValid n.history → (state n.history).settings ≡ Some settings → (state n.history).changes < 2 ^ 62 → choice_at settings n p ≡ Some cs → MayChoose n (choice_of cs)
may_choose settings n p cs v present few is =
    let m = choice_may settings n p cs v present is in
    record {
      make = record {
        grammar = m.grammar;
        may = m.may;
        few = few;
        there = refl;
        short = omega (arith, chose_short cs (chosen_few settings n p cs v present is));
      };
      follow = may_follow n (choice_of cs) refl (valid_snoc n.history (choice_of cs) v m.grammar m.may m.widths m.brings);
    }

by_choice_made : {P : Type 0} (o : Option (List Candidate)) (c : Change) → Some c ≡ option_map choice_of o → ((cs : List Candidate) → o ≡ Some cs → c ≡ choice_of cs → P) → P
by_choice_made None c is f = absurd (cc (is))
by_choice_made (Some cs) c is f = f cs refl (cc (is))

-- so it may come next
pub choice_may_come : {L : Type 0} (node : Node L) (p : ℕ) (c : Change) → node.ledger.state.changes < 2 ^ 62 → (n : Situation) × Knows node n → ((n : Situation) (settings : Settings) → Knows node n → (state n.history).settings ≡ Some settings → Some c ≡ option_map choice_of (choice_at settings n p)) → MayCome Knows node c
choice_may_come node p c few known choice = (
  subst (λ (s : State). MayMake s c) (sym known.1.ledger) (made known.0 known.1).make,
  λ n k. (made n k).follow,
)
  where
    made : (n : Situation) → Knows node n → MayChoose n c
    made n k =
        let settings = k.settings.settings in
        by_choice_made (choice_at settings n p) c (choice n settings k k.settings.present) (λ cs is same.
        subst (MayChoose n) (sym same) (may_choose settings n p cs k.valid k.settings.present (subst (λ (s : State). s.changes < 2 ^ 62) k.ledger few) is))

letters_joined : (a b : List Letter) → letters_of (a ++ b) ≡ letters_of a ++ letters_of b
letters_joined [] b = refl
letters_joined (x ∷ xs) b = ap (λ (l : List (ℕ × List ℕ)). (x.to, x.frame) ∷ l) (letters_joined xs b)

spelled_joined : (o : Option Settings) (a b : List MachineLetter) → all_spelled o (a ++ b) ≡ all_spelled o a ++ all_spelled o b
spelled_joined None a b = refl
spelled_joined (Some settings) a b = map_joined a
  where
    map_joined : (a : List MachineLetter) → map (spelled settings) (a ++ b) ≡ map (spelled settings) a ++ map (spelled settings) b
    map_joined [] = refl
    map_joined (x ∷ xs) = ap (λ (l : List (ℕ × List ℕ)). spelled settings x ∷ l) (map_joined xs)

-- ---- what comes of a tick

-- the rules behind a choice, and behind what failures come to
abbrev pub after_choice : Settings → Situation → ℕ → Rule
after_choice settings n p = then_by (by_offer settings n.history p (offer_at settings n p)) (asked_at settings n p)

abbrev pub after_failure : Settings → Situation → ℕ → Rule
after_failure settings n p = then_by (by_choice (choice_at settings n p)) (after_choice settings n p)

-- two rules, the first of which is the end of a late probe, before any others
late_first : (p clock : ℕ) (o : Option Run) (due rest : Rule) → then_by (by_late p clock o) (then_by due rest) ≡ then_by (then_by (by_late p clock o) due) rest
late_first p clock None due rest = refl
late_first p clock (Some r) due rest = by_cases (is_late r.began clock) (λ k. rw k refl) (λ k. rw k refl)

failure_first : (settings : Settings) (n : Situation) (p : ℕ) → rules settings n p ≡ then_by (by_failure n p) (after_failure settings n p)
failure_first settings n p = late_first p (later (of_peer n.volatile p).clock) (run_at n p) (by_due (state n.history) p) (after_failure settings n p)

-- a failure that makes a change
pub failure_follows : {L : Type 0} (r : Reaction) (node : Node L) (n : Situation) (p : ℕ) (x : PeerState) (c : Change) → Knows node n → state_of node.states.items p ≡ Some x → Some c ≡ (by_failure n p).grown → r.change ≡ Some c → r.dropped ≡ None → r.out ≡ [] → Follows r n p
failure_follows r node n p x c k found failed change dropped out =
    let settings = k.settings.settings in
    let h = has_key node n p x k found in
    subst (λ (m : Rule). IsRule r n m) (sym (h.follows ∙ failure_first settings n p ∙ ap (λ (m : Rule). then_by m (after_failure settings n p)) (failure_ends n p c (sym failed)))) (record {
      change = change;
      letters = ap letters_of out ∙ none_spelled (state n.history).settings;
      dropped = dropped;
    })

-- there is none: the rules behind it
no_failure : {L : Type 0} (node : Node L) (n : Situation) (p : ℕ) (x : PeerState) (k : Knows node n) → state_of node.states.items p ≡ Some x → None ≡ (by_failure n p).grown → on_tick (state n.history).settings n p ≡ after_failure k.settings.settings n p
no_failure node n p x k found failed =
    let settings = k.settings.settings in
    let h = has_key node n p x k found in
    h.follows ∙ failure_first settings n p ∙ ap (λ (m : Rule). then_by m (after_failure settings n p)) (failure_passes n p (sym failed))

by_choice_none : (o : Option (List Candidate)) → None ≡ option_map choice_of o → o ≡ None
by_choice_none None is = refl
by_choice_none (Some cs) is = absurd (cc (is))

-- a choice
pub choice_follows : {L : Type 0} (r : Reaction) (node : Node L) (n : Situation) (p : ℕ) (x : PeerState) (c : Change) → Knows node n → state_of node.states.items p ≡ Some x → None ≡ (by_failure n p).grown
    → ((n : Situation) (settings : Settings) → Knows node n → (state n.history).settings ≡ Some settings → Some c ≡ option_map choice_of (choice_at settings n p))
    → r.change ≡ Some c → r.dropped ≡ None → r.out ≡ [] → Follows r n p
choice_follows r node n p x c k found failed choice change dropped out =
    let settings = k.settings.settings in
    by_choice_made (choice_at settings n p) c (choice n settings k k.settings.present) (λ cs is same.
    subst (λ (m : Rule). IsRule r n m) (sym (no_failure node n p x k found failed ∙ ap (λ (o : Option (List Candidate)). then_by (by_choice o) (after_choice settings n p)) is)) (record {
      change = change ∙ ap (λ (d : Change). Some d) same;
      letters = ap letters_of out ∙ none_spelled (state n.history).settings;
      dropped = dropped;
    }))

-- no choice: the rule of the deal, and behind it what is asked
no_choice : {L : Type 0} (node : Node L) (n : Situation) (p : ℕ) (x : PeerState) (k : Knows node n) → state_of node.states.items p ≡ Some x → None ≡ (by_failure n p).grown
    → ((n : Situation) (settings : Settings) → Knows node n → (state n.history).settings ≡ Some settings → None ≡ option_map choice_of (choice_at settings n p))
    → on_tick (state n.history).settings n p ≡ after_choice k.settings.settings n p
no_choice node n p x k found failed choice =
    let settings = k.settings.settings in
    no_failure node n p x k found failed
    ∙ ap (λ (o : Option (List Candidate)). then_by (by_choice o) (after_choice settings n p)) (by_choice_none (choice_at settings n p) (choice n settings k k.settings.present))

-- a rule that makes a change is the last, and one that makes none is not
offer_ends : (settings : Settings) (h : List Change) (p : ℕ) (o : Option Offer) (c : Change) → (by_offer settings h p o).grown ≡ Some c → (by_offer settings h p o).goes_on ≡ false
offer_ends settings h p None c is = absurd (cc (is))
offer_ends settings h p (Some o) c is = by_cases o.is_new (λ k. rw k refl) (λ k. let bad : None ≡ Some c = rw k at is in absurd (cc (bad)))

offer_goes_on : (settings : Settings) (h : List Change) (p : ℕ) (o : Option Offer) → (by_offer settings h p o).grown ≡ None → (by_offer settings h p o).goes_on ≡ true
offer_goes_on settings h p None is = refl
offer_goes_on settings h p (Some o) is = by_new o.is_new is
  where
    by_new : (b : Bool) → cond b (Some (Proposed (record { peer = p; deal = o.deal.number; what = o.deal.what }))) None ≡ None → not b ≡ true
    by_new true e = absurd (cc (e))
    by_new false e = refl

not_some : (o : Option Change) → is_some o ≡ false → o ≡ None
not_some None h = refl
not_some (Some c) h = absurd (false≢true (sym h))

some_change : (o : Option Change) → is_some o ≡ true → (c : Change) × (o ≡ Some c)
some_change None h = absurd (false≢true h)
some_change (Some c) h = (c, refl)

stopped : (a b : Rule) → a.goes_on ≡ false → then_by a b ≡ a
stopped a b stops = ap (λ (t : Bool). cond t (record { grown = b.grown; letters = a.letters ++ b.letters; goes_on = b.goes_on }) a) stops

went_on : (a b : Rule) → a.goes_on ≡ true → then_by a b ≡ record { grown = b.grown; letters = a.letters ++ b.letters; goes_on = b.goes_on }
went_on a b goes = ap (λ (t : Bool). cond t (record { grown = b.grown; letters = a.letters ++ b.letters; goes_on = b.goes_on }) a) goes

-- the deal, where it makes a change
deal_alone : {L : Type 0} (r : Reaction) (node : Node L) (n : Situation) (p : ℕ) (x : PeerState) (k : Knows node n) → state_of node.states.items p ≡ Some x → None ≡ (by_failure n p).grown
    → ((n : Situation) (settings : Settings) → Knows node n → (state n.history).settings ≡ Some settings → None ≡ option_map choice_of (choice_at settings n p))
    → is_some r.change ≡ true → r.change ≡ (by_offer k.settings.settings n.history p (offer_at k.settings.settings n p)).grown
    → on_tick (state n.history).settings n p ≡ by_offer k.settings.settings n.history p (offer_at k.settings.settings n p)
deal_alone r node n p x k found failed choice made change =
    let settings = k.settings.settings in
    let offered = by_offer settings n.history p (offer_at settings n p) in
    let c = some_change r.change made in
    no_choice node n p x k found failed choice ∙ stopped offered (asked_at settings n p) (offer_ends settings n.history p (offer_at settings n p) c.0 (sym change ∙ c.1))

pub deal_follows : {L : Type 0} (r : Reaction) (node : Node L) (n : Situation) (p : ℕ) (x : PeerState) → Knows node n → state_of node.states.items p ≡ Some x → None ≡ (by_failure n p).grown
    → ((n : Situation) (settings : Settings) → Knows node n → (state n.history).settings ≡ Some settings → None ≡ option_map choice_of (choice_at settings n p))
    → is_some r.change ≡ true → OffersDeal r node n p → Follows r n p
deal_follows r node n p x k found failed choice made offers =
    let h = has_key node n p x k found in
    let it = offers k.settings.settings h.key k.settings.present h.here in
    subst (λ (m : Rule). IsRule r n m) (sym (deal_alone r node n p x k found failed choice made it.change)) it

pub deal_follows_so : {L : Type 0} (r : Reaction) (node : Node L) (n : Situation) (p : ℕ) (x : PeerState) → Knows node n → state_of node.states.items p ≡ Some x → None ≡ (by_failure n p).grown
    → ((n : Situation) (settings : Settings) → Knows node n → (state n.history).settings ≡ Some settings → None ≡ option_map choice_of (choice_at settings n p))
    → is_some r.change ≡ true → OffersDealSo r n p → FollowsSo r n p
deal_follows_so r node n p x k found failed choice made offers =
    let it = offers k.settings.settings k.settings.present in
    (it.0 ∙ sym (ap (λ (m : Rule). m.grown) (deal_alone r node n p x k found failed choice made it.0)), it.1)

-- and what is asked, where it makes none
deal_passes : {L : Type 0} (r : Reaction) (node : Node L) (n : Situation) (p : ℕ) (x : PeerState) (k : Knows node n) → state_of node.states.items p ≡ Some x → None ≡ (by_failure n p).grown
    → ((n : Situation) (settings : Settings) → Knows node n → (state n.history).settings ≡ Some settings → None ≡ option_map choice_of (choice_at settings n p))
    → is_some r.change ≡ false → r.change ≡ (by_offer k.settings.settings n.history p (offer_at k.settings.settings n p)).grown
    → on_tick (state n.history).settings n p ≡ record {
      grown = (asked_at k.settings.settings n p).grown;
      letters = (by_offer k.settings.settings n.history p (offer_at k.settings.settings n p)).letters ++ (asked_at k.settings.settings n p).letters;
      goes_on = (asked_at k.settings.settings n p).goes_on;
    }
deal_passes r node n p x k found failed choice none change =
    let settings = k.settings.settings in
    let offered = by_offer settings n.history p (offer_at settings n p) in
    no_choice node n p x k found failed choice ∙ went_on offered (asked_at settings n p) (offer_goes_on settings n.history p (offer_at settings n p) (sym change ∙ not_some r.change none))

pub asking_follows : {L : Type 0} (r q : Reaction) (node : Node L) (n : Situation) (p : ℕ) (x : PeerState) (a : Asking) → Knows node n → state_of node.states.items p ≡ Some x → None ≡ (by_failure n p).grown
    → ((n : Situation) (settings : Settings) → Knows node n → (state n.history).settings ≡ Some settings → None ≡ option_map choice_of (choice_at settings n p))
    → is_some r.change ≡ false → q.change ≡ a.change → q.dropped ≡ r.dropped → q.out ≡ r.out ++ option_to_list a.letter → Asks a node n p → OffersDeal r node n p → Follows q n p
asking_follows r q node n p x a k found failed choice none change dropped out asks offers =
    let settings = k.settings.settings in
    let h = has_key node n p x k found in
    let offered = by_offer settings n.history p (offer_at settings n p) in
    let it = offers settings h.key k.settings.present h.here in
    let asked = asks settings h.key k.settings.present h.here in
    subst (λ (m : Rule). IsRule q n m) (sym (deal_passes r node n p x k found failed choice none it.change)) (record {
      change = change ∙ asked.change;
      letters =
          ap letters_of out
          ∙ letters_joined r.out (option_to_list a.letter)
          ∙ ap (λ (l : List (ℕ × List ℕ)). l ++ letters_of (option_to_list a.letter)) it.letters
          ∙ ap (λ (l : List (ℕ × List ℕ)). all_spelled (state n.history).settings offered.letters ++ l) asked.letters
          ∙ sym (spelled_joined (state n.history).settings offered.letters (asked_at settings n p).letters);
      dropped = dropped ∙ it.dropped;
    })

pub asking_follows_so : {L : Type 0} (r q : Reaction) (node : Node L) (n : Situation) (p : ℕ) (x : PeerState) (a : Asking) → Knows node n → state_of node.states.items p ≡ Some x → None ≡ (by_failure n p).grown
    → ((n : Situation) (settings : Settings) → Knows node n → (state n.history).settings ≡ Some settings → None ≡ option_map choice_of (choice_at settings n p))
    → is_some r.change ≡ false → q.change ≡ a.change → q.dropped ≡ r.dropped → Asks a node n p → OffersDealSo r n p → FollowsSo q n p
asking_follows_so r q node n p x a k found failed choice none change dropped asks offers =
    let settings = k.settings.settings in
    let h = has_key node n p x k found in
    let it = offers settings k.settings.present in
    let asked = asks settings h.key k.settings.present h.here in
    (change ∙ asked.change ∙ sym (ap (λ (m : Rule). m.grown) (deal_passes r node n p x k found failed choice none it.0)), dropped ∙ it.1)

-- ---- the question

-- nothing is asked
pub asks_none : {L : Type 0} (node : Node L) (n : Situation) (settings : Settings) (p : ℕ) → Knows node n → open_question node.ledger.state ≡ None → letters_of (option_to_list None) ≡ map (spelled settings) (questions (state n.history) p)
asks_none node n settings p k none = sym (ap (λ (o : Option Question). map (spelled settings) (option_to_list (option_map (question_to p) o))) (ap open_question (sym k.ledger) ∙ none))

-- or this question
pub asks_one : {L : Type 0} (node : Node L) (n : Situation) (settings : Settings) (p : ℕ) (key : List ℕ) (q : Question) (letter : Letter) → Knows node n → (state n.history).settings ≡ Some settings → key_in node.peers.keys p ≡ Some key → open_question node.ledger.state ≡ Some q
    → letter.to ≡ p → letter.frame ≡ datagram key node.peers.own.id p q.number (Ask q.salt q.names) → letters_of (option_to_list (Some letter)) ≡ map (spelled settings) (questions (state n.history) p)
asks_one node n settings p key q letter k present here opened to frame =
    (λ i. (to i, frame i) ∷ [])
    ∙ ap (λ (l : ℕ × List ℕ). l ∷ []) (spelled_with node n settings p q.number key (Ask q.salt q.names) k present here)
    ∙ sym (ap (λ (o : Option Question). map (spelled settings) (option_to_list (option_map (question_to p) o))) (ap open_question (sym k.ledger) ∙ opened))

-- ---- what may come next after looking

may_back : {L : Type 0} (old mid : Node L) (c : Change) → IsSame old mid → MayCome Knows mid c → MayCome Knows old c
may_back old mid c same m = (subst (λ l. MayMake l.state c) same.ledger m.0, λ n k. m.1 n (same_knows old mid n same k))

pub some_may_back : {L : Type 0} (old mid : Node L) (o p : Option Change) → IsSame old mid → p ≡ o → IfSome o (MayCome Knows mid) → IfSome p (MayCome Knows old)
some_may_back old mid o p same is m = subst (λ (x : Option Change). IfSome x (MayCome Knows old)) (sym is) (by_change o m)
  where
    by_change : (x : Option Change) → IfSome x (MayCome Knows mid) → IfSome x (MayCome Knows old)
    by_change None m = tt
    by_change (Some c) m = may_back old mid c same m

-- what is asked by a node that only looked since is what this one asks
pub asks_back : {L : Type 0} (old mid : Node L) (a : Asking) (p : ℕ) → IsSame old mid → ((n : Situation) → Knows mid n → Asks a mid n p) → (n : Situation) → Knows old n → Asks a old n p
asks_back old mid a p same asks n k settings key present here = asks n (same_knows old mid n same k) settings key present (ap (λ (v : PeersView). key_in v.keys p) same.rest.peers ∙ here)
