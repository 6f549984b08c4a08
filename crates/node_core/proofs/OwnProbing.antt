-- The node's own probes, and what comes of an answer, are the machine's.
use Rattle.std.proofs.Common.{◌≡◌, ℕ, ◌+◌, ◌<◌, ◌≤◌, ◌^◌, Bool, true, false, cond, if◌then◌else◌, ◌==◌, List, [], ◌∷◌, ◌++◌, length, map, is_some, unwrap_or, option_map, option_to_list, Option, Some, None, IfSome, refl, sym, ◌∙◌, ap, subst, arith}
use Rattle.std.specs.Prelude.{replicate}
use Rattle.std.specs.List.{list_all}
use Rattle.std.proofs.lemmas.Bool.{and_parts, eqb-true, leb-true, lt-ltb, false≢true}
use Rattle.psb_bytes.specs.declared.ids.Object.{Object}
use Rattle.psb_settings.specs.declared.settings.Settings.{Settings}
use Rattle.psb_station.proofs.Spans.{same_some}
use Rattle.psb_model.specs.State.{State, row, is_peer}
use Rattle.psb_model.specs.Heads.{head_of, body_of}
use Rattle.psb_model.specs.Grammar.{is_u8, is_u32, is_digest, object_fits}
use Rattle.psb_model.specs.History.{state}
use Rattle.psb_model.specs.Needed.{IsValid}
use Rattle.psb_model.specs.declared.change.Change.{Change}
use Rattle.psb_model.specs.declared.change.Change.TheVariants.{Asked}
use Rattle.psb_model.proofs.ByObject.{by_cases}
use Rattle.model_laws.specs.Finding.{deal_proposed}
use Rattle.model_laws.proofs.Bodies.{valid_snoc}
use Rattle.model_laws.proofs.Following.{asked_is}
use Rattle.wire_codec.specs.Fields.{within, ascends, are_places}
use Rattle.wire_codec.specs.Frames.{key_in}
use Rattle.psb_machine.specs.Letters.{spelled, all_spelled}
use Rattle.psb_machine.specs.Messages.{Proves, Declines}
use Rattle.psb_machine.specs.Sampling.{questions}
use Rattle.psb_machine.specs.Volatile.{PeerState as MachineState, of_peer, later}
use Rattle.psb_machine.specs.OwnProbes.{Run as MachineRun, run_of, objects_drawn, objects_to_ask}
use Rattle.psb_machine.specs.Machine.{Situation, Reaction as MachineReaction, Rule, run_at, by_late, by_run, by_proof, by_declined, on_message, quiet, sends, then_by}
use Rattle.psb_machine.proofs.Listing.{asked_may, few_from}
use Rattle.psb_machine.proofs.Peers.{keyed_is_peer}
use Rattle.psb_machine.proofs.Runs.{run_open, number_within, passed_may, wrong_may, silent_may, declined_may}
use Rattle.psb_machine.proofs.Taken.{MayTake}
use Rattle.node_letters.specs.Letters.{letters_of}
use Rattle.node_letters.specs.Messages.{sender_in}
use Rattle.node_letters.specs.declared.letter.Letter.{Letter}
use Rattle.node_letters.specs.declared.message.Sender.{Sender}
use Rattle.node_history.specs.Less.{IsLess}
use Rattle.peer_states.specs.PeerStates.{state_of, kept, note_in}
use Rattle.peer_states.specs.declared.peer_state.PeerState.{PeerState}
use Rattle.peer_states.specs.declared.peer_state.Note.TheVariants as note
use Rattle.own_probes.specs.Probes.{run_in, letter_in, rule_in, sender, IsToNone, is_answered, outcome_by, IsOutcome, AreFew}
use Rattle.own_probes.specs.declared.run.Run.{Run}
use Rattle.own_probes.specs.declared.ticks.Probe.{Probe}
use Rattle.own_probes.specs.declared.ticks.Step.{Step}
use Rattle.own_probes.specs.declared.ticks.Step.TheVariants.{Rests, Waits, Again, Begins}
use Rattle.own_probes.proofs.Briefs.{IsBrief, asked_brief, passed_brief, failed_brief, declined_brief}
use Rattle.own_probes.proofs.Reactions.{proof_tells, declined_tells, late_by, declines_by, run_by}
use Rattle.own_probes.proofs.Outcomes.{proof_less, answered_grown, none_answered}
use Rattle.node_core.specs.declared.node.Node.{Node}
use Rattle.node_core.specs.declared.reaction.Reaction.{Reaction}
use Rattle.node_core.specs.declared.reaction.Asking.{Asking}
use Rattle.node_core.specs.Hearing.{Heard, Hears, HearsSo}
use Rattle.node_core.specs.Making.{MayMake}
use Rattle.node_core.specs.Reacting.{Reacts, MayCome}
use Rattle.node_core.specs.Stored.{Knows, Stored}
use Rattle.node_core.specs.Ticking.{IsRunAt, IsAsking, asked_at, Asks}
use Rattle.node_core.specs.Unread.{AnswersNone}
use Rattle.node_core.proofs.Committing.{may_follow}
use Rattle.node_core.proofs.Heard.{none_spelled, peer_of}
use Rattle.node_core.proofs.Hearing.{hears_by, so_by}
use Rattle.node_core.proofs.Ticking.{has_key}

-- ---- the probe that runs

-- a node finds it by what it keeps of the peer
pub run_known : {L : Type 0} (node : Node L) (p : ℕ) (x : PeerState) (o : Option Run) → state_of node.states.items p ≡ Some x → option_map run_in o ≡ run_of (kept x) (row node.ledger.state p) → IsRunAt o node p
run_known node p x o found is = λ n k.
    is
    ∙ ap (λ (s : State). run_of (kept x) (row s p)) k.ledger
    ∙ ap (λ (y : MachineState). run_of y (row (state n.history) p)) (sym (k.states.are p x found))

-- and whether it is late
pub late_known : {L : Type 0} (node : Node L) (p : ℕ) (x : PeerState) (run : Option Run) (o : Option Change) → state_of node.states.items p ≡ Some x → IsRunAt run node p → o ≡ (by_late p (later x.clock) (option_map run_in run)).grown
    → (n : Situation) → Knows node n → o ≡ (by_late p (later (of_peer n.volatile p).clock) (run_at n p)).grown
late_known node p x run o found runs is n k =
    is
    ∙ ap (λ (r : Option MachineRun). (by_late p (later x.clock) r).grown) (runs n k)
    ∙ ap (λ (y : MachineState). (by_late p (later y.clock) (run_at n p)).grown) (sym (k.states.are p x found))

-- ---- what may come next

-- a change that proposes no deal and may be taken, with a record that is short enough
pub record Comes (n : Situation) (c : Change) : Type 0 where
  pub take : MayTake (state n.history) c
  pub there : is_some (body_of c) ≡ true
  pub short : length (head_of c) + length (unwrap_or (body_of c) []) ≤ 67108864
  pub none : deal_proposed c ≡ None

-- so is one of a probe
brief_comes : (n : Situation) (c : Change) → MayTake (state n.history) c → IsBrief c → deal_proposed c ≡ None → Comes n c
brief_comes n c take brief none = record { take = take; there = brief.there; short = omega (arith, brief.short); none = none }

pub may_come : {L : Type 0} (node : Node L) (c : Change) → (n : Situation) × Knows node n → node.ledger.state.changes < 2 ^ 62 → ((n : Situation) → Knows node n → Comes n c) → MayCome Knows node c
may_come node c known few comes = (
  subst (λ (s : State). MayMake s c) (sym known.1.ledger) (makes known.0 known.1 (comes known.0 known.1)),
  λ n k. let it = comes n k in may_follow n c it.none (valid_snoc n.history c k.valid it.take.grammar it.take.may it.take.widths it.take.brings),
)
  where
    makes : (n : Situation) → Knows node n → Comes n c → MayMake (state n.history) c
    makes n k it = record {
      grammar = it.take.grammar;
      may = it.take.may;
      few = subst (λ (s : State). s.changes < 2 ^ 62) k.ledger few;
      there = it.there;
      short = it.short;
    }

-- its peer
pub record IsOf (n : Situation) (p : ℕ) : Type 0 where
  pub peer : is_peer (state n.history) p ≡ true
  pub fits : is_u32 p ≡ true
  pub room : (state n.history).changes ≤ 2 ^ 64

few_room : {L : Type 0} (node : Node L) (n : Situation) → Knows node n → node.ledger.state.changes < 2 ^ 62 → (state n.history).changes ≤ 2 ^ 64
few_room node n k few = omega (arith, few, ap (λ (s : State). s.changes) k.ledger)

pub ticked_of : {L : Type 0} (node : Node L) (n : Situation) (p : ℕ) (x : PeerState) → Knows node n → state_of node.states.items p ≡ Some x → p < 2 ^ 32 → node.ledger.state.changes < 2 ^ 62 → IsOf n p
ticked_of node n p x k found small few =
    let h = has_key node n p x k found in
    record { peer = keyed_is_peer n.history k.settings.settings p h.key k.settings.present h.keyed; fits = lt-ltb p (2 ^ 32) small; room = few_room node n k few }

silent_comes : {L : Type 0} (node : Node L) (n : Situation) (p clock : ℕ) (c : Change) → Knows node n → IsOf n p → (by_late p clock (run_at n p)).grown ≡ Some c → Comes n c
silent_comes node n p clock c k of is =
    late_by p clock (run_at n p) c is (λ r run same.
    let a = asked_is n.history p r.asked r.objects k.valid (run_open n p r run) in
    subst (Comes n) (sym same) (brief_comes n _ (silent_may n p r k.valid k.untied of.peer of.fits (number_within n.history p r k.valid of.room (run_open n p r run)) run) (failed_brief p r.asked 0 (replicate 32 0) r.objects refl a.fit a.few) refl))

pub late_may_come : {L : Type 0} (node : Node L) (p : ℕ) (x : PeerState) (o : Option Change) → p < 2 ^ 32 → node.ledger.state.changes < 2 ^ 62 → (n : Situation) × Knows node n → state_of node.states.items p ≡ Some x
    → ((n : Situation) → Knows node n → o ≡ (by_late p (later (of_peer n.volatile p).clock) (run_at n p)).grown) → IfSome o (MayCome Knows node)
late_may_come node p x None small few known found is = tt
late_may_come node p x (Some c) small few known found is = may_come node c known few (λ n k. silent_comes node n p (later (of_peer n.volatile p).clock) c k (ticked_of node n p x k found small few) (sym (is n k)))

outcome_comes : {L : Type 0} (node : Node L) (n : Situation) (p : ℕ) (value : List ℕ) (r : MachineRun) (right : Bool) → Knows node n → IsOf n p → is_digest value ≡ true → run_at n p ≡ Some r → Comes n (outcome_by p value r right)
outcome_comes node n p value r right k of digest run = by_right right
  where
    by_right : (b : Bool) → Comes n (outcome_by p value r b)
    by_right true =
        let a = asked_is n.history p r.asked r.objects k.valid (run_open n p r run) in
        brief_comes n _ (passed_may n p r k.valid k.untied of.peer of.fits (number_within n.history p r k.valid of.room (run_open n p r run)) run) (passed_brief p r.asked r.objects a.fit a.few) refl
    by_right false =
        let a = asked_is n.history p r.asked r.objects k.valid (run_open n p r run) in
        brief_comes n _ (wrong_may n p value r k.valid k.untied of.peer of.fits (number_within n.history p r k.valid of.room (run_open n p r run)) digest run) (failed_brief p r.asked 1 value r.objects (eqb-true (length value) 32 (and_parts (length value == 32) (list_all is_u8 value) digest).0) a.fit a.few) refl

heard_of : {L : Type 0} (node : Node L) (n : Situation) (from : Sender) → Knows node n → key_in node.peers.keys from.peer ≡ Some from.key → is_u32 from.peer ≡ true → node.ledger.state.changes < 2 ^ 62 → IsOf n from.peer
heard_of node n from k keyed fits few = record { peer = peer_of node n from.peer from.key k keyed; fits = fits; room = few_room node n k few }

pub proof_may_come : {L : Type 0} (node : Node L) (from : Sender) (nonce value : List ℕ) (run : Option Run) (o : Option Change) → (n : Situation) × Knows node n → node.ledger.state.changes < 2 ^ 62 → Heard node.peers.keys from (Proves nonce value) → IsRunAt run node from.peer
    → IfSome o (IsOutcome from.peer value (option_map run_in run)) → IfSome o (MayCome Knows node)
proof_may_come node from nonce value run None known few heard runs it = tt
proof_may_come node from nonce value run (Some c) known few heard runs it =
    may_come node c known few (λ n k. subst (Comes n) (sym it.2.1) (outcome_comes node n from.peer value it.0 it.2.0 k (heard_of node n from k heard.keyed heard.fits.0 few) heard.fits.1 (sym (runs n k) ∙ it.1)))

places_few : (places : List ℕ) → are_places places ≡ true → length places ≤ 32
places_few places h =
    let a = and_parts (within 1 32 (length places)) _ h in
    leb-true (length places) 32 (and_parts _ _ a.0).1

declined_comes : {L : Type 0} (node : Node L) (n : Situation) (settings : Settings) (from : Sender) (nonce places : List ℕ) (c : Change) → Knows node n → IsOf n from.peer → are_places places ≡ true
    → (by_declined settings (sender_in from) nonce places (run_at n from.peer)).grown ≡ Some c → Comes n c
declined_comes node n settings from nonce places c k of spelled is =
    declines_by settings (sender_in from) nonce places (run_at n from.peer) c is (λ r run theirs same.
    subst (Comes n) (sym same) (brief_comes n _ (declined_may n from.peer places r k.valid k.untied of.peer of.fits (number_within n.history from.peer r k.valid of.room (run_open n from.peer r run)) spelled theirs run) (declined_brief from.peer r.asked places (places_few places spelled)) refl))

pub declined_may_come : {L : Type 0} (node : Node L) (settings : Settings) (from : Sender) (nonce places : List ℕ) (o : Option Change) → (n : Situation) × Knows node n → node.ledger.state.changes < 2 ^ 62 → Heard node.peers.keys from (Declines nonce places)
    → ((n : Situation) → Knows node n → o ≡ (by_declined settings (sender_in from) nonce places (run_at n from.peer)).grown) → IfSome o (MayCome Knows node)
declined_may_come node settings from nonce places None known few heard is = tt
declined_may_come node settings from nonce places (Some c) known few heard is =
    may_come node c known few (λ n k. declined_comes node n settings from nonce places c k (heard_of node n from k heard.keyed heard.fits.0 few) heard.fits.1 (sym (is n k)))

-- a probe that begins
begun_comes : {L : Type 0} (node : Node L) (n : Situation) (settings : Settings) (p : ℕ) (c : Change) → Knows node n → IsOf n p → (by_run settings.seed (state n.history) p (of_peer n.volatile p) (run_at n p)).grown ≡ Some c → Comes n c
begun_comes node n settings p c k of is =
    run_by settings.seed (state n.history) p (of_peer n.volatile p) (run_at n p) c is (λ o os drawn.
    let m = asked_may n.history settings p o os k.valid of.peer of.fits drawn.0 in
    subst (Comes n) (sym drawn.1) (brief_comes n _ m (asked_brief p (objects_drawn settings.seed (state n.history) (o ∷ os)) (and_parts (is_u32 p) (list_all object_fits (objects_drawn settings.seed (state n.history) (o ∷ os))) m.widths).1 (few_from _ (o ∷ os))) refl))

-- ---- what is asked at a tick

-- what the rule of probes comes to is what the machine makes of it
pub step_known : {L : Type 0} (node : Node L) (n : Situation) (p : ℕ) (x : PeerState) (known settings : Settings) (run : Option Run) (step : Step) → Knows node n → state_of node.states.items p ≡ Some x → IsRunAt run node p → Some known ≡ node.ledger.state.settings
    → rule_in known.seed p step ≡ by_run known.seed node.ledger.state p (kept x) (option_map run_in run) → (state n.history).settings ≡ Some settings
    → rule_in settings.seed p step ≡ by_run settings.seed (state n.history) p (of_peer n.volatile p) (run_at n p)
step_known node n p x known settings run step k found runs here is present =
    let same : known ≡ settings = same_some (state n.history).settings known settings (ap (λ (s : State). s.settings) (sym k.ledger) ∙ sym here) present in
    let it : rule_in known.seed p step ≡ by_run known.seed (state n.history) p (of_peer n.volatile p) (run_at n p) =
    is
    ∙ ap (λ (s : State). by_run known.seed s p (kept x) (option_map run_in run)) k.ledger
    ∙ ap (by_run known.seed (state n.history) p (kept x)) (runs n k)
    ∙ ap (λ (y : MachineState). by_run known.seed (state n.history) p y (run_at n p)) (sym (k.states.are p x found)) in
    subst (λ (s : Settings). rule_in s.seed p step ≡ by_run s.seed (state n.history) p (of_peer n.volatile p) (run_at n p)) same it

-- behind it the question is asked
pub step_asks : {L : Type 0} (a : Asking) (node : Node L) (n : Situation) (p : ℕ) (x : PeerState) (known : Settings) (run : Option Run) (step : Step) → Knows node n → state_of node.states.items p ≡ Some x → IsRunAt run node p → Some known ≡ node.ledger.state.settings
    → rule_in known.seed p step ≡ by_run known.seed node.ledger.state p (kept x) (option_map run_in run)
    → ((settings : Settings) (key : List ℕ) → (state n.history).settings ≡ Some settings → key_in node.peers.keys p ≡ Some key → IsAsking a n (then_by (rule_in settings.seed p step) (sends (questions (state n.history) p)))) → Asks a node n p
step_asks a node n p x known run step k found runs here is asking = λ settings key present keyed.
    subst (λ (m : Rule). IsAsking a n (then_by m (sends (questions (state n.history) p)))) (step_known node n p x known settings run step k found runs here is present) (asking settings key present keyed)

-- letters that go out by the settings of the history
spelled_by : (n : Situation) (settings : Settings) (letters : List (ℕ × List ℕ)) (l : List _) → (state n.history).settings ≡ Some settings → letters ≡ map (spelled settings) l → letters ≡ all_spelled (state n.history).settings l
spelled_by n settings letters l present is = is ∙ ap (λ (o : Option Settings). all_spelled o l) (sym present)

pub rests_asks : (a : Asking) (n : Situation) (settings : Settings) (p : ℕ) (letter : Option Letter) → a ≡ record { change = None; letter = letter } → (state n.history).settings ≡ Some settings → letters_of (option_to_list letter) ≡ map (spelled settings) (questions (state n.history) p)
    → IsAsking a n (then_by (rule_in settings.seed p Rests) (sends (questions (state n.history) p)))
rests_asks a n settings p letter is present letters = record {
  change = ap (λ (x : Asking). x.change) is;
  letters = ap (λ (x : Asking). letters_of (option_to_list x.letter)) is ∙ spelled_by n settings (letters_of (option_to_list letter)) (questions (state n.history) p) present letters;
}

pub waits_asks : (a : Asking) (n : Situation) (settings : Settings) (p : ℕ) → a ≡ record { change = None; letter = None } → IsAsking a n (then_by (rule_in settings.seed p Waits) (sends (questions (state n.history) p)))
waits_asks a n settings p is = record {
  change = ap (λ (x : Asking). x.change) is;
  letters = ap (λ (x : Asking). letters_of (option_to_list x.letter)) is ∙ none_spelled (state n.history).settings;
}

pub again_asks : (a : Asking) (n : Situation) (settings : Settings) (p : ℕ) (x : Probe) (letter : Option Letter) → a ≡ record { change = None; letter = letter } → (state n.history).settings ≡ Some settings → letters_of (option_to_list letter) ≡ map (spelled settings) (letter_in settings.seed p x ∷ [])
    → IsAsking a n (then_by (rule_in settings.seed p (Again x)) (sends (questions (state n.history) p)))
again_asks a n settings p x letter is present letters = record {
  change = ap (λ (y : Asking). y.change) is;
  letters = ap (λ (y : Asking). letters_of (option_to_list y.letter)) is ∙ spelled_by n settings (letters_of (option_to_list letter)) (letter_in settings.seed p x ∷ []) present letters;
}

pub begins_asks : (a : Asking) (n : Situation) (settings : Settings) (p : ℕ) (x : Probe) (letter : Option Letter) → a ≡ record { change = Some (Asked (record { peer = p; objects = x.objects })); letter = letter } → (state n.history).settings ≡ Some settings
    → letters_of (option_to_list letter) ≡ map (spelled settings) (letter_in settings.seed p x ∷ [])
    → IsAsking a n (then_by (rule_in settings.seed p (Begins x)) (sends (questions (state n.history) p)))
begins_asks a n settings p x letter is present letters = record {
  change = ap (λ (y : Asking). y.change) is;
  letters = ap (λ (y : Asking). letters_of (option_to_list y.letter)) is ∙ spelled_by n settings (letters_of (option_to_list letter)) (letter_in settings.seed p x ∷ []) present letters;
}

-- and the change that begins one may come next
pub begins_may_come : {L : Type 0} (node : Node L) (p : ℕ) (x : PeerState) (known : Settings) (run : Option Run) (probe : Probe) → p < 2 ^ 32 → node.ledger.state.changes < 2 ^ 62 → (n : Situation) × Knows node n → state_of node.states.items p ≡ Some x → IsRunAt run node p
    → Some known ≡ node.ledger.state.settings → rule_in known.seed p (Begins probe) ≡ by_run known.seed node.ledger.state p (kept x) (option_map run_in run) → MayCome Knows node (Asked (record { peer = p; objects = probe.objects }))
begins_may_come node p x known run probe small few k0 found runs here is =
    may_come node (Asked (record { peer = p; objects = probe.objects })) k0 few (λ n k.
    let settings = k.settings.settings in
    let step = step_known node n p x known settings run (Begins probe) k found runs here is k.settings.present in
    begun_comes node n settings p (Asked (record { peer = p; objects = probe.objects })) k (ticked_of node n p x k found small few) (ap (λ (m : Rule). m.grown) (sym step)))

-- what runs lists as many objects as a frame that asks may have
pub run_few : {L : Type 0} (node : Node L) (p : ℕ) (run : Option Run) → (n : Situation) × Knows node n → IsRunAt run node p → IfSome run (λ r. AreFew r.objects)
run_few node p None known runs = tt
run_few node p (Some r) known runs =
    let n = known.0 in
    let a = asked_is n.history p r.asked r.objects known.1.valid (run_open n p (run_in r) (sym (runs n known.1))) in
    record { some = a.some; few = a.few }

-- ---- what comes of an answer

-- something is kept of one that has a key
pub has_state : {L : Type 0} (node : Node L) (n : Situation) (p : ℕ) (key : List ℕ) → Knows node n → key_in node.peers.keys p ≡ Some key → None ≡ state_of node.states.items p → ⊥
has_state node n p key k keyed none = false≢true (ap (λ (o : Option PeerState). is_some o) none ∙ k.states.there p ∙ ap (λ (o : Option (List ℕ)). is_some o) keyed)

-- the settings by which a node judges an answer are those of the history
known_here : {L : Type 0} (node : Node L) (n : Situation) (known : Settings) → Knows node n → Some known ≡ node.ledger.state.settings → (state n.history).settings ≡ Some known
known_here node n known k here = ap (λ (s : State). s.settings) (sym k.ledger) ∙ sym here

pub known_same : {L : Type 0} (node : Node L) (n : Situation) (known : Settings) (k : Knows node n) → Some known ≡ node.ledger.state.settings → k.settings.settings ≡ known
known_same node n known k here = same_some (state n.history).settings k.settings.settings known k.settings.present (known_here node n known k here)

-- what the history that the log holds makes of a proof, the whole one does
pub proof_known : {L : Type 0} (node : Node L) (n : Situation) (less : List Change) (from : Sender) (nonce value : List ℕ) (known : Settings) (run : Option Run) (o : Option Change) → (k : Knows node n) → Some known ≡ node.ledger.state.settings → IsRunAt run node from.peer → IsLess n.history less → IsValid less
    → ((settings : Settings) → settings.seed ≡ known.seed → settings.seed ≡ node.claims.seed → o ≡ (by_proof settings less (sender_in from) nonce value (option_map run_in run)).grown)
    → o ≡ (by_proof k.settings.settings n.history (sender_in from) nonce value (run_at n from.peer)).grown
proof_known node n less from nonce value known run o k here runs is valid made =
    let settings = k.settings.settings in
    made settings (ap (λ (s : Settings). s.seed) (known_same node n known k here)) (sym k.settings.seed)
    ∙ ap (λ (r : Option MachineRun). (by_proof settings less (sender_in from) nonce value r).grown) (runs n k)
    ∙ ap (λ (m : MachineReaction). m.grown) (proof_less settings n.history less (sender_in from) nonce value (run_at n from.peer) is valid)

-- an answer to no probe that runs
pub to_none : {L : Type 0} (node : Node L) (n : Situation) (from : Sender) (nonce : List ℕ) (known : Settings) (run : Option Run) → Knows node n → Some known ≡ node.ledger.state.settings → IsRunAt run node from.peer → AnswersNone n (sender_in from) nonce
    → IsToNone known.seed from.number nonce (option_map run_in run)
to_none node n from nonce known run k here runs none = subst (IsToNone known.seed from.number nonce) (sym (runs n k)) (none known (known_here node n known k here))

pub none_known : {L : Type 0} (node : Node L) (n : Situation) (from : Sender) (nonce value : List ℕ) (o : Option Change) → (k : Knows node n) → AnswersNone n (sender_in from) nonce → o ≡ None → o ≡ (by_proof k.settings.settings n.history (sender_in from) nonce value (run_at n from.peer)).grown
none_known node n from nonce value o k none is =
    is ∙ sym (ap (λ (m : MachineReaction). m.grown) (none_answered k.settings.settings n.history (sender_in from) nonce value (run_at n from.peer) (none k.settings.settings k.settings.present)))

-- whether there is an outcome
pub certain_known : {L : Type 0} (node : Node L) (n : Situation) (from : Sender) (nonce : List ℕ) (known : Settings) (run : Option Run) (s : State) (b : Bool) → (k : Knows node n) → Some known ≡ node.ledger.state.settings → IsRunAt run node from.peer → s ≡ state n.history
    → b ≡ is_answered known.seed s from.number nonce (option_map run_in run) → b ≡ is_answered k.settings.settings.seed (state n.history) from.number nonce (run_at n from.peer)
certain_known node n from nonce known run s b k here runs same is =
    is
    ∙ ap (λ (t : State). is_answered known.seed t from.number nonce (option_map run_in run)) same
    ∙ ap (is_answered known.seed (state n.history) from.number nonce) (runs n k)
    ∙ ap (λ (t : Settings). is_answered t.seed (state n.history) from.number nonce (run_at n from.peer)) (sym (known_same node n known k here))

-- what is declined, by the settings and the run that a node knows
pub declined_known : {L : Type 0} (node : Node L) (n : Situation) (from : Sender) (nonce places : List ℕ) (known settings : Settings) (run : Option Run) (o : Option Change) → Knows node n → settings ≡ known → IsRunAt run node from.peer
    → ((settings : Settings) → settings.seed ≡ known.seed → o ≡ (by_declined settings (sender_in from) nonce places (option_map run_in run)).grown) → o ≡ (by_declined settings (sender_in from) nonce places (run_at n from.peer)).grown
declined_known node n from nonce places known settings run o k same runs is =
    is settings (ap (λ (s : Settings). s.seed) same) ∙ ap (λ (r : Option MachineRun). (by_declined settings (sender_in from) nonce places r).grown) (runs n k)

-- the change that a proof makes, of which no letter tells
pub proof_hears : {L : Type 0} (r : Reaction) (node : Node L) (n : Situation) (from : Sender) (nonce value : List ℕ) → (k : Knows node n) → r.change ≡ (by_proof k.settings.settings n.history (sender_in from) nonce value (run_at n from.peer)).grown → r.note ≡ note.Nothing → r.dropped ≡ None → r.out ≡ []
    → Hears r n (sender_in from) (Proves nonce value)
proof_hears r node n from nonce value k change noted dropped out =
    let t = proof_tells k.settings.settings n.history (sender_in from) nonce value (run_at n from.peer) in
    hears_by r node n (sender_in from) (Proves nonce value) k (record {
      change = change;
      letters = ap letters_of out ∙ none_spelled (state n.history).settings ∙ ap (all_spelled (state n.history).settings) (sym t.letters);
      note = ap note_in noted ∙ sym t.note;
      dropped = dropped ∙ sym t.dropped;
    })

pub proof_hears_so : {L : Type 0} (r : Reaction) (node : Node L) (n : Situation) (from : Sender) (nonce value : List ℕ) → (k : Knows node n) → is_some r.change ≡ is_answered k.settings.settings.seed (state n.history) from.number nonce (run_at n from.peer) → r.dropped ≡ None
    → HearsSo r n (sender_in from) (Proves nonce value)
proof_hears_so r node n from nonce value k change dropped =
    so_by r node n (sender_in from) (Proves nonce value) k (record {
      change = change ∙ sym (answered_grown node.names k.settings.settings n.history (sender_in from) nonce value (run_at n from.peer) k.names k.valid);
      dropped = dropped ∙ sym (proof_tells k.settings.settings n.history (sender_in from) nonce value (run_at n from.peer)).dropped;
    })

pub declined_hears : {L : Type 0} (r : Reaction) (node : Node L) (n : Situation) (from : Sender) (nonce places : List ℕ) → (k : Knows node n) → r.change ≡ (by_declined k.settings.settings (sender_in from) nonce places (run_at n from.peer)).grown → r.note ≡ note.Nothing → r.dropped ≡ None → r.out ≡ []
    → Hears r n (sender_in from) (Declines nonce places)
declined_hears r node n from nonce places k change noted dropped out =
    let t = declined_tells k.settings.settings (sender_in from) nonce places (run_at n from.peer) in
    hears_by r node n (sender_in from) (Declines nonce places) k (record {
      change = change;
      letters = ap letters_of out ∙ none_spelled (state n.history).settings ∙ ap (all_spelled (state n.history).settings) (sym t.letters);
      note = ap note_in noted ∙ sym t.note;
      dropped = dropped ∙ sym t.dropped;
    })
