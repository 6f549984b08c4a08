-- A change is made as the machine makes it.
use Rattle.std.proofs.Common.{◌≡◌, ◌⊎◌, inl, inr, ⊎_elim, ℕ, ◌≤◌, ◌<◌, Bool, true, false, List, [], ◌∷◌, ◌++◌, length, is_some, ◌==◌, option_to_list, Option, Some, None, refl, sym, ◌∙◌, ap, subst, arith}
use Rattle.std.specs.Option.{unwrap_or}
use Rattle.std.proofs.lemmas.Bool.{eqb-true, false≢true}
use Rattle.std.proofs.lemmas.List.{append-nil}
use Rattle.psb_station.specs.View.{View}
use Rattle.psb_station.specs.Span.{Leaves, Shows, Keeps, Tells_bytes}
use Rattle.psb_station.proofs.Spans.{weakened, then_run, shows_keeps, shows_wider}
use Rattle.node_journal.specs.Entry.{Entry, entry}
use Rattle.psb_model.specs.State.{State}
use Rattle.psb_model.specs.Heads.{head_of, body_of}
use Rattle.psb_model.specs.Conditions.{peer_of as change_of, allowed, tests}
use Rattle.psb_model.specs.Effects.{after}
use Rattle.psb_model.specs.History.{state}
use Rattle.psb_model.specs.Needed.{IsValid}
use Rattle.psb_model.specs.declared.change.Change.{Change}
use Rattle.psb_model.specs.declared.change.Change.TheVariants.{Begun}
use Rattle.psb_model.proofs.Steps.{parts}
use Rattle.psb_model.proofs.Steady.{allows}
use Rattle.psb_model.proofs.Prefixes.{state_snoc, changes_counted}
use Rattle.claims.specs.Source.{Source}
use Rattle.psb_machine.specs.Machine.{Situation, Reaction as MachineReaction, settled}
use Rattle.psb_machine.specs.Volatile.{Note, noted, by_changes}
use Rattle.psb_machine.specs.Sampling.{question_of, keeps_question}
use Rattle.psb_machine.specs.declared.question.Question.{Question}
use Rattle.model_laws.specs.Finding.{deal_proposed}
use Rattle.psb_machine.specs.Laws.{IsUntied}
use Rattle.psb_machine.proofs.Questions.{question_stays}
use Rattle.psb_machine.proofs.Untied.{none_spares, grown_untied, same_untied}
use Rattle.psb_model.proofs.Steady.{steady_state}
use Rattle.node_letters.specs.Peers.{PeersView}
use Rattle.node_history.specs.Names.{KnowsNames}
use Rattle.peer_states.specs.PeerStates.{KnowsStates, states_noted, states_changed, states_probed}
use Rattle.node_core.specs.Ticking.{IsWorkedOut}
use Rattle.peer_states.proofs.PeerTables.{states_grown, states_then}
use Rattle.peer_states.specs.declared.peer_state.PeerState.{PeerState}
use Rattle.node_core.specs.declared.node.Node.{Node}
use Rattle.chunk_store.specs.declared.store.Store.{Store}
use Rattle.chunk_store.specs.Store.{record_of, is_owner}
use Rattle.node_history.specs.Names.{SameNames, Enters}
use Rattle.node_history.specs.Less.{IsLess}
use Rattle.node_core.specs.Making.{MayMake}
use Rattle.node_core.specs.declared.reaction.Reaction.{Reaction}
use Rattle.node_core.specs.Reacting.{MayFollow, IsStep, Reacts, SameOwner, IsSame, IsNoted, numbered}
use Rattle.node_history.specs.Stands.{HoldsHistory, ReopensTo}
use Rattle.node_core.specs.Stored.{Knows, KnowsSettings, IsKnown, Stored, IsCounted}
use Rattle.slot_places.specs.declared.tables.SlotTables.{SlotTables}
use Rattle.slot_places.specs.Slots.{slot_record, KnowsSlots}
use Rattle.node_history.proofs.Entered.{names_grown, names_same}
use Rattle.node_history.proofs.Less.{less_all, less_append, valid_less}
use Rattle.node_history.proofs.Appending.{pushed, leaves_histories}
use Rattle.node_history.proofs.Reopened.{reopens}
use Rattle.node_core.proofs.Reopened.{stored_reopens}

-- ---- the history after a change

pub grown_to : (n : Situation) (m : MachineReaction) (c : Change) → m.grown ≡ Some c → (settled n m).history ≡ n.history ++ c ∷ []
grown_to n m c is = ap (λ (o : Option Change). n.history ++ option_to_list o) is

with_it : (n : Situation) (m : MachineReaction) (c : Change) → IsStep n m c → IsValid (n.history ++ c ∷ [])
with_it n m c step = subst IsValid (grown_to n m c step.grown) step.valid

-- no change after the first changes the settings
settings_stay : (s : State) (c : Change) → allowed s c ≡ true → 1 ≤ s.changes → (after s c).settings ≡ s.settings
settings_stay s (Begun x) may some =
    let first : s.changes ≡ 0 = eqb-true s.changes 0 (parts (tests s (Begun x)) (allows s (Begun x) may).tests).0 in
    absurd (omega (arith, first, some))
settings_stay s _ may some = refl

-- ---- what a node knows after it

-- what it keeps of its peers is as the note and then the change leave it
states_stepped : {L : Type 0} (old new : Node L) (n : Situation) (m : MachineReaction) (c : Change) → Knows old n → m.grown ≡ Some c → new.peers ≡ old.peers → new.states.items ≡ states_probed (after old.ledger.state c) (change_of c) (states_changed old.peers.own.id c (states_noted m.note old.states.items))
    → KnowsStates new.states.items new.peers.keys (settled n m).volatile
states_stepped old new n m c k grown peers states =
    let s = state n.history in
    let st = k.settings.settings in
    let noted_states = states_noted m.note old.states.items in
    let own : old.peers.own.id ≡ st.id = ap (λ (v : PeersView). v.own.id) k.settings.peers in
    let known = states_grown noted_states old.peers.keys s st c (noted m.note n.volatile) k.settings.present (states_then m.note old.states.items old.peers.keys n.volatile k.states) in
    let after_it = states_probed (after s c) (change_of c) (states_changed st.id c noted_states) in
    let made = subst (λ (o : Option Change). KnowsStates after_it old.peers.keys (by_changes s o (noted m.note n.volatile))) (sym grown) known in
    let keyed = subst (λ (v : PeersView). KnowsStates after_it v.keys (settled n m).volatile) (sym peers) made in
    subst (λ (l : List PeerState). KnowsStates l new.peers.keys (settled n m).volatile)
    (sym (
    states
    ∙ ap (λ (i : ℕ). states_probed (after old.ledger.state c) (change_of c) (states_changed i c noted_states)) own
    ∙ ap (λ (t : State). states_probed (after t c) (change_of c) (states_changed st.id c noted_states)) k.ledger))
    keyed

-- the question is the same, or is worked out anew
question_stepped : {L : Type 0} (old : Node L) (n : Situation) (c : Change) (q : Option Question) → Knows old n → allowed (state n.history) c ≡ true → ((q ≡ old.question) × (keeps_question c ≡ true)) ⊎ (q ≡ None) → IsKnown q (after (state n.history) c)
question_stepped old n c q k may kept =
    ⊎_elim
    (λ both. subst (λ (o : Option Question). IsKnown o (after (state n.history) c)) (sym both.0)
    (known_then old.question (state n.history) (after (state n.history) c) (question_stays (state n.history) c (steady_state n.history k.valid.lawful) may both.1) k.question))
    (λ none. subst (λ (o : Option Question). IsKnown o (after (state n.history) c)) (sym none) tt)
    kept
  where
    known_then : (o : Option Question) (s t : State) → question_of t ≡ question_of s → IsKnown o s → IsKnown o t
    known_then None s t same is = tt
    known_then (Some x) s t same is = same ∙ is

-- a node that made a change is where the machine is
pub step_knows : {L : Type 0} (old new : Node L) (n : Situation) (m : MachineReaction) (c : Change) (mid : Store) (size : ℕ) → MayMake old.ledger.state c → Knows old n → IsStep n m c
    → new.ledger.state ≡ after old.ledger.state c → SameNames old.names mid → Enters old.ledger.state mid new.names c size → old.ledger.state.changes ≡ size → SameOwner old new → new.ledger.state.issued ≤ new.claims.issued → KnowsSlots new.slots (n.history ++ c ∷ [])
    → new.states.items ≡ states_probed (after old.ledger.state c) (change_of c) (states_changed old.peers.own.id c (states_noted m.note old.states.items)) → ((new.question ≡ old.question) × (keeps_question c ≡ true)) ⊎ (new.question ≡ None) → Knows new (settled n m)
step_knows old new n m c mid size may k step grown same enters counted rest issued slots states question =
    let h = n.history in
    let here : old.ledger.state.changes ≡ length h = ap (λ (s : State). s.changes) k.ledger ∙ changes_counted h in
    let after_is : after (state h) c ≡ state (h ++ c ∷ []) = sym (state_snoc h c) in
    let allowed_here = subst (λ (s : State). allowed s c ≡ true) k.ledger may.may in
    let settings : KnowsSettings new (after (state h) c) = record {
      settings = k.settings.settings;
      present = settings_stay (state h) c allowed_here (omega (arith, changes_counted h, k.valid.some)) ∙ k.settings.present;
      peers = rest.peers ∙ k.settings.peers;
      seed = rest.seed ∙ k.settings.seed;
    } in
    let knows : Knows new (record { history = h ++ c ∷ []; volatile = (settled n m).volatile }) = record {
      valid = with_it n m c step;
      untied =
          subst (λ (o : Option Change). IsUntied (record { history = h ++ c ∷ []; volatile = by_changes (state h) o (noted m.note n.volatile) })) (sym step.grown)
          (grown_untied n m.note c k.valid.some allowed_here k.untied step.spares);
      ledger = grown ∙ ap (λ (s : State). after s c) k.ledger ∙ after_is;
      settings = subst (λ (s : State). KnowsSettings new s) after_is settings;
      names = names_grown mid new.names h c k.valid.lawful allowed_here (names_same old.names mid h same k.names) (subst (λ (s : State). Enters s mid new.names c (length h)) k.ledger (subst (λ (j : ℕ). Enters old.ledger.state mid new.names c j) (sym counted ∙ here) enters));
      slots = slots;
      issued = omega (arith, issued, ap (λ (s : State). s.issued) grown, ap (λ (s : State). (after s c).issued) k.ledger, ap (λ (s : State). s.issued) after_is);
      states = states_stepped old new n m c k step.grown rest.peers states;
      question = subst (IsKnown new.question) after_is (question_stepped old n c new.question k allowed_here question);
    } in
    subst (λ (o : Situation). Knows new o) (sym (λ j. record { history = grown_to n m c step.grown j; volatile = (settled n m).volatile })) knows

-- a question that was worked out is the state's
worked_known : (o : Option Question) (s : State) → o ≡ question_of s → IsKnown o s
worked_known None s is = tt
worked_known (Some q) s is = sym is

-- each slot has the record that it had
abbrev pub SameSlots : SlotTables → SlotTables → Type 0
SameSlots old new = (p i : ℕ) → slot_record new p i ≡ slot_record old p i

-- a node whose ledger, settings, names, slots and what it keeps of its peers stay knows what it knew
pub knows_still : {L : Type 0} (old new : Node L) (n : Situation) → new.ledger.state ≡ old.ledger.state → SameNames old.names new.names → SameSlots old.slots new.slots → SameOwner old new → new.states ≡ old.states → (IsKnown old.question (state n.history) → IsKnown new.question (state n.history)) → Knows old n → Knows new n
knows_still old new n same names slots rest states question k = record {
  valid = k.valid;
  untied = k.untied;
  ledger = same ∙ k.ledger;
  settings = record {
    settings = k.settings.settings;
    present = k.settings.present;
    peers = rest.peers ∙ k.settings.peers;
    seed = rest.seed ∙ k.settings.seed;
  };
  names = names_same old.names new.names n.history names k.names;
  slots = λ p i direct. slots p i ∙ k.slots p i direct;
  issued = omega (arith, k.issued, rest.issued);
  states = subst (λ (v : PeersView). KnowsStates new.states.items v.keys n.volatile) (sym rest.peers) (subst (λ l. KnowsStates l.items old.peers.keys n.volatile) (sym states) k.states);
  question = question k.question;
}

-- a node that only looked, and made claims, knows what it knew
pub same_knows : {L : Type 0} (old new : Node L) (n : Situation) → IsSame old new → Knows old n → Knows new n
same_knows old new n same k =
    knows_still old new n (ap (λ ledger. ledger.state) same.ledger) (all_same old.names new.names same.names) (λ p i. ap (λ (t : SlotTables). slot_record t p i) same.slots) same.rest same.states
    (λ was. ⊎_elim (λ is. subst (λ (o : Option Question). IsKnown o (state n.history)) (sym is) was)
    (λ worked. subst (IsKnown new.question) (ap (λ ledger. ledger.state) same.ledger ∙ k.ledger) (worked_known new.question new.ledger.state worked)) same.question) k
  where
    all_same : (a b : Store) → b ≡ a → SameNames a b
    all_same a b is = record { owners = λ o q. ap (λ (s : Store). is_owner s o q) is; records = λ q. ap (λ (s : Store). record_of s q) is }

-- what only looked after what only looked
pub same_then : {L : Type 0} (a b c : Node L) → IsSame a b → IsSame b c → IsSame a c
same_then a b c x y = record {
  log = y.log ∙ x.log;
  ledger = y.ledger ∙ x.ledger;
  names = y.names ∙ x.names;
  slots = y.slots ∙ x.slots;
  states = y.states ∙ x.states;
  question = ⊎_elim (λ is. ⊎_elim (λ was. inl (is ∙ was)) (λ worked. inr (is ∙ worked ∙ ap (λ ledger. question_of ledger.state) (sym y.ledger))) x.question) (λ worked. inr worked) y.question;
  rest = record { peers = y.rest.peers ∙ x.rest.peers; seed = y.rest.seed ∙ x.rest.seed; issued = omega (arith, x.rest.issued, y.rest.issued) };
}

-- where a question was worked out, it is so after what only looked
pub worked_still : {L : Type 0} (a b : Node L) → IsSame a b → IsWorkedOut a.question a.ledger.state → IsWorkedOut b.question b.ledger.state
worked_still a b same worked = λ free.
    ⊎_elim (λ is. is ∙ worked (ap (λ ledger. length ledger.state.chosen == 0) (sym same.ledger) ∙ free) ∙ ap (λ ledger. question_of ledger.state) (sym same.ledger)) (λ is. is) same.question

-- where the machine is then, whatever it makes of the input
pub noted_alone : {L : Type 0} (old new : Node L) (n : Situation) (note : Note) → IsNoted note old new → Knows old n → Knows new (record { history = n.history; volatile = noted note n.volatile })
noted_alone old new n note t k = record {
  valid = k.valid;
  untied = subst (λ (h : List Change). IsUntied (record { history = h; volatile = noted note n.volatile })) (append-nil n.history) (same_untied n note k.untied);
  ledger = ap (λ ledger. ledger.state) t.ledger ∙ k.ledger;
  settings = record {
    settings = k.settings.settings;
    present = k.settings.present;
    peers = t.peers ∙ k.settings.peers;
    seed = ap (λ (c : Source). c.seed) t.claims ∙ k.settings.seed;
  };
  names = subst (λ (s : Store). KnowsNames s n.history) (sym t.names) k.names;
  slots = subst (λ (s : SlotTables). KnowsSlots s n.history) (sym t.slots) k.slots;
  issued = omega (arith, k.issued, ap (λ (c : Source). c.issued) t.claims);
  states =
      subst (λ (v : PeersView). KnowsStates new.states.items v.keys (noted note n.volatile)) (sym t.peers)
      (subst (λ (l : List PeerState). KnowsStates l old.peers.keys (noted note n.volatile)) (sym t.states) (states_then note old.states.items old.peers.keys n.volatile k.states));
  question = subst (λ (q : Option Question). IsKnown q (state n.history)) (sym t.question) k.question;
}

-- where no change is made, what is noted is noted
pub noted_knows : {L : Type 0} (old new : Node L) (n : Situation) (m : MachineReaction) (note : Note) → IsNoted note old new → note ≡ m.note → m.grown ≡ None → Knows old n → Knows new (settled n m)
noted_knows old new n m note t is none k =
    let s = state n.history in
    let same : n.history ++ option_to_list m.grown ≡ n.history = ap (λ (o : Option Change). n.history ++ option_to_list o) none ∙ append-nil n.history in
    let there : by_changes s m.grown (noted m.note n.volatile) ≡ noted note n.volatile = ap (λ (o : Option Change). by_changes s o (noted m.note n.volatile)) none ∙ ap (λ (q : Note). noted q n.volatile) (sym is) in
    subst (λ (o : Situation). Knows new o) (sym (λ j. record { history = same j; volatile = there j })) (noted_alone old new n note t k)

-- its log is the same, and so is what it has
pub noted_counted : {L : Type 0} (size : L → ℕ) (keeps : L → ℕ → Bool) (old new : Node L) (note : Note) → IsNoted note old new → IsCounted size keeps old → IsCounted size keeps new
noted_counted size keeps old new note t c = record {
  changes = ap (λ ledger. ledger.state.changes) t.ledger ∙ c.changes ∙ ap size (sym t.log);
  bodies = λ q k here. subst (λ l. (k < size l) × (keeps l k ≡ true)) (sym t.log) (c.bodies q k (sym (ap (λ (s : Store). record_of s q) t.names) ∙ here));
  slots = λ p i k here. subst (λ l. k < size l) (sym t.log) (c.slots p i k (sym (ap (λ (s : SlotTables). slot_record s p i) t.slots) ∙ here));
}

pub noted_stored : {L : Type 0} (holds : L → List Entry → List ℕ → Type 0) (old new : Node L) (note : Note) (h : List Change) (v : View) → IsNoted note old new → Stored holds old h v → Stored holds new h v
noted_stored holds old new note h v t s = record {
  less = s.less;
  is_less = s.is_less;
  valid = s.valid;
  records = s.records;
  decoded = s.decoded;
  shows = subst (λ l. Shows (holds l s.records) v) (sym t.log) s.shows;
}

-- where no change is made the disk holds what it held
pub rested_stored : {L : Type 0} (holds : L → List Entry → List ℕ → Type 0) (old new : Node L) (n : Situation) (m : MachineReaction) (note : Note) (v : View) → IsNoted note old new → m.grown ≡ None → Stored holds old n.history v → Stored holds new (settled n m).history v
rested_stored holds old new n m note v t none s =
    let same : (settled n m).history ≡ n.history = ap (λ (o : Option Change). n.history ++ option_to_list o) none ∙ append-nil n.history in
    subst (λ (h : List Change). Stored holds new h v) (sym same) (noted_stored holds old new note n.history v t s)

-- a change that was not made has no number, and one that was made has its own
pub numbered_none : (o : Option Change) (number : ℕ) → is_some o ≡ false → None ≡ numbered o number
numbered_none None number none = refl
numbered_none (Some c) number none = absurd (false≢true (sym none))

pub numbered_some : (o : Option Change) (number : ℕ) → is_some o ≡ true → Some number ≡ numbered o number
numbered_some None number some = absurd (false≢true some)
numbered_some (Some c) number some = refl

-- and its log has what it had
pub same_counted : {L : Type 0} (size : L → ℕ) (keeps : L → ℕ → Bool) (old new : Node L) → IsSame old new → IsCounted size keeps old → IsCounted size keeps new
same_counted size keeps old new same c = record {
  changes = ap (λ ledger. ledger.state.changes) same.ledger ∙ c.changes ∙ ap size (sym same.log);
  bodies = λ q k here. subst (λ l. (k < size l) × (keeps l k ≡ true)) (sym same.log) (c.bodies q k (sym (ap (λ (s : Store). record_of s q) same.names) ∙ here));
  slots = λ p i k here. subst (λ l. k < size l) (sym same.log) (c.slots p i k (sym (ap (λ (s : SlotTables). slot_record s p i) same.slots) ∙ here));
}

-- and where the log has as many records, and keeps the same bodies
pub counted_still : {L : Type 0} (size : L → ℕ) (keeps : L → ℕ → Bool) (old new : Node L) → new.ledger.state ≡ old.ledger.state → SameNames old.names new.names → SameSlots old.slots new.slots → size new.log ≡ size old.log → ((i : ℕ) → keeps new.log i ≡ keeps old.log i) → IsCounted size keeps old → IsCounted size keeps new
counted_still size keeps old new same names slots sized kept c = record {
  changes = ap (λ (s : State). s.changes) same ∙ c.changes ∙ sym sized;
  bodies = λ q k here.
      let there = c.bodies q k (sym (names.records q) ∙ here) in
      (subst (λ (i : ℕ). k < i) (sym sized) there.0, kept k ∙ there.1);
  slots = λ p i k here. subst (λ (j : ℕ). k < j) (sym sized) (c.slots p i k (sym (slots p i) ∙ here));
}

-- ---- what the disk holds after it

-- with one change more it is the history with that change, less the same bodies
less_more : (h less : List Change) (c : Change) → IsLess h less → IsLess (h ++ c ∷ []) (less ++ c ∷ [])
less_more h less c is = less_append h less (c ∷ []) (c ∷ []) is (less_all (c ∷ []))

-- a record that was added is the change's
pub step_stored : {L : Type 0} (holds : L → List Entry → List ℕ → Type 0) (old new : Node L) (n : Situation) (m : MachineReaction) (c : Change) (head body : List ℕ) (v w : View) → MayMake old.ledger.state c → IsStep n m c
    → head ≡ head_of c → body ≡ unwrap_or (body_of c) [] → (s : Stored holds old n.history v) → Shows (holds new.log (s.records ++ entry head body ∷ [])) w → Stored holds new (settled n m).history w
step_stored holds old new n m c head body v w may step head_is body_is s shows =
    subst (λ (l : List Change). Stored holds new l w) (sym (grown_to n m c step.grown)) (record {
      less = s.less ++ c ∷ [];
      is_less = less_more n.history s.less c s.is_less;
      valid = valid_less n.history s.less c s.is_less s.valid (with_it n m c step);
      records = s.records ++ entry head body ∷ [];
      decoded = pushed s.less s.records c head body s.decoded head_is body_is may.there;
      shows = shows;
    })

reopened : (stands : List Entry → List ℕ → Type 0) (h less : List Change) (i : List ℕ) → IsValid h → IsLess h less → IsValid less → HoldsHistory stands less i → ReopensTo stands h i
reopened stands h less i v is sound s = reopens stands h less s.records i v is sound s.decoded s.image_is

-- what the moments of adding it leave reopens
pub step_leaves : {L : Type 0} (holds : L → List Entry → List ℕ → Type 0) (stands : List Entry → List ℕ → Type 0) (old : Node L) (n : Situation) (m : MachineReaction) (c : Change) (head body : List ℕ) (v0 : View) (told : ℕ) (v w : View)
    → MayMake old.ledger.state c → IsValid n.history → IsStep n m c → head ≡ head_of c → body ≡ unwrap_or (body_of c) [] → (s : Stored holds old n.history v0)
    → Leaves v w (λ i k. (k ≡ told) × (stands s.records i ⊎ stands (s.records ++ entry head body ∷ []) i))
    → Leaves v w (λ i k. (k ≡ told) × (ReopensTo stands n.history i ⊎ ReopensTo stands (settled n m).history i))
step_leaves holds stands old n m c head body v0 told v w may valid step head_is body_is s run =
    let h = n.history in
    let grown = grown_to n m c step.grown in
    let next = with_it n m c step in
    weakened v w (λ i k. (k ≡ told) × (HoldsHistory stands s.less i ⊎ HoldsHistory stands (s.less ++ c ∷ []) i)) (λ i k. (k ≡ told) × (ReopensTo stands h i ⊎ ReopensTo stands (settled n m).history i))
    (λ i k both. (
      both.0,
      ⊎_elim (λ held. inl (reopened stands h s.less i valid s.is_less s.valid held))
          (λ held. inr (subst (λ (l : List Change). ReopensTo stands l i) (sym grown) (reopened stands (h ++ c ∷ []) (s.less ++ c ∷ []) i next (less_more h s.less c s.is_less) (valid_less h s.less c s.is_less s.valid next) held))) both.1,
    ))
    (leaves_histories stands s.less s.records c head body told v w s.decoded head_is body_is may.there run)

-- ---- what looking leaves

pub stored_still : {L : Type 0} (holds : L → List Entry → List ℕ → Type 0) (old new : Node L) (h : List Change) (v w : View) → new.log ≡ old.log → Keeps v w → Tells_bytes w → Stored holds old h v → Stored holds new h w
stored_still holds old new h v w same keeps tells s = record {
  less = s.less;
  is_less = s.is_less;
  valid = s.valid;
  records = s.records;
  decoded = s.decoded;
  shows = subst (λ l. Shows (holds l s.records) w) (sym same) (shows_keeps (holds old.log s.records) v w keeps tells s.shows);
}

-- looking at the disk leaves what it held, and what comes later goes on from there
pub looked_leaves : {L : Type 0} (holds : L → List Entry → List ℕ → Type 0) (stands : List Entry → List ℕ → Type 0) (law : (log : L) (es : List Entry) (i : List ℕ) → holds log es i → stands es i) (node : Node L) (n : Situation) (v0 v1 v2 : View) (h : List Change)
    → IsValid n.history → Stored holds node n.history v0 → Keeps v0 v1
    → Leaves v1 v2 (λ i k. (k ≡ v1.told) × (ReopensTo stands n.history i ⊎ ReopensTo stands h i)) → Leaves v0 v2 (λ i k. (k ≡ v0.told) × (ReopensTo stands n.history i ⊎ ReopensTo stands h i))
looked_leaves holds stands law node n v0 v1 v2 h valid s keeps run =
    let all : List ℕ → ℕ → Type 0 = λ i k. (k ≡ v0.told) × (ReopensTo stands n.history i ⊎ ReopensTo stands h i) in
    then_run v0 v1 v2 all
    (weakened v0 v1 (λ i k. v0.may_leave i × (k ≡ v0.told)) all (λ i k is. (is.1, inl (stored_reopens holds stands law node n v0 valid s i is.0))) keeps.moments)
    (weakened v1 v2 (λ i k. (k ≡ v1.told) × (ReopensTo stands n.history i ⊎ ReopensTo stands h i)) all (λ i k is. (is.0 ∙ keeps.works.told, is.1)) run)

-- a log in which room was made holds what it held
pub stored_room : {L : Type 0} (holds : L → List Entry → List ℕ → Type 0) (old new : Node L) (h : List Change) (v : View) → ((es : List Entry) (i : List ℕ) → holds old.log es i → holds new.log es i) → Stored holds old h v → Stored holds new h v
stored_room holds old new h v wider s = record {
  less = s.less;
  is_less = s.is_less;
  valid = s.valid;
  records = s.records;
  decoded = s.decoded;
  shows = shows_wider (holds old.log s.records) (holds new.log s.records) v (λ i held. wider s.records i held) s.shows;
}

-- ---- a change that a node found

-- one that proposes nothing spares what probes list
pub may_follow : (n : Situation) (c : Change) → deal_proposed c ≡ None → IsValid (n.history ++ c ∷ []) → MayFollow n c
may_follow n c none valid = record { valid = valid; spares = none_spares n c none }

-- the change that was found is that of the machine's reaction, and may come next
pub is_step : (n : Situation) (m : MachineReaction) (c : Change) → m.grown ≡ Some c → MayFollow n c → IsStep n m c
is_step n m c grown f = record { grown = grown; valid = subst IsValid (sym (grown_to n m c grown)) f.valid; spares = f.spares }

pub found_step : (r : Reaction) (n : Situation) (m : MachineReaction) (c : Change) → r.change ≡ Some c → Reacts r n m → MayFollow n c → IsStep n m c
found_step r n m c is reacts f = is_step n m c (sym reacts.change ∙ is) f

-- a reaction that makes a change and notes this, whatever it tells
abbrev some_reaction : Change → Note → MachineReaction
some_reaction c note = record { grown = Some c; letters = []; note = note; dropped = None }

-- after it, it is known where the node is
pub some_step : {L : Type 0} (new : Node L) (n : Situation) (c : Change) (note : Note) → MayFollow n c → ((m : MachineReaction) → IsStep n m c → note ≡ m.note → Knows new (settled n m)) → (o : Situation) × Knows new o
some_step new n c note f step = (settled n (some_reaction c note), step (some_reaction c note) (is_step n (some_reaction c note) c refl f) refl)

-- the moments of looking at the disk, and then of making the change that was found
pub found_leaves : {L : Type 0} (holds : L → List Entry → List ℕ → Type 0) (stands : List Entry → List ℕ → Type 0) (law : (log : L) (es : List Entry) (i : List ℕ) → holds log es i → stands es i) (old mid : Node L) (n : Situation) (m : MachineReaction) (c : Change) (v0 v1 v2 : View)
    → IsValid n.history → Stored holds old n.history v0 → mid.log ≡ old.log → Keeps v0 v1 → Tells_bytes v1 → IsStep n m c
    → ((o : Situation) (q : MachineReaction) → IsValid o.history → IsStep o q c → Stored holds mid o.history v1 → Leaves v1 v2 (λ i k. (k ≡ v1.told) × (ReopensTo stands o.history i ⊎ ReopensTo stands (settled o q).history i)))
    → Leaves v0 v2 (λ i k. (k ≡ v0.told) × (ReopensTo stands n.history i ⊎ ReopensTo stands (settled n m).history i))
found_leaves holds stands law old mid n m c v0 v1 v2 valid s log keeps tells step run =
    looked_leaves holds stands law old n v0 v1 v2 (settled n m).history valid s keeps (run n m valid step (stored_still holds old mid n.history v0 v1 log keeps tells s))
