-- What a node keeps of its peers is what the machine has of them.
use Rattle.std.proofs.Common.{◌≡◌, ℕ, Bool, false, not, ◌&&◌, ◌==◌, List, [], ◌∷◌, map, Option, Some, None, refl, sym, ap, ◌∙◌, subst}
use Rattle.std.specs.Prelude.{is_some}
use Rattle.std.specs.Option.{option_map}
use Rattle.std.proofs.lemmas.Bool.{eqb-true, eq-eqb, true≢false}
use Rattle.psb_settings.specs.declared.settings.PeerRow.{PeerRow}
use Rattle.psb_settings.specs.declared.settings.Settings.{Settings}
use Rattle.psb_model.specs.State.{State, row}
use Rattle.psb_model.specs.Conditions.{peer_of}
use Rattle.psb_model.specs.Effects.{after}
use Rattle.psb_model.specs.declared.change.Change.{Change}
use Rattle.psb_model.specs.declared.change.Change.TheVariants as change
use Rattle.psb_model.proofs.ByObject.{by_cases}
use Rattle.wire_codec.specs.Frames.{key_in}
use Rattle.psb_machine.specs.Letters.{key_of_row}
use Rattle.psb_machine.specs.Volatile.{Volatile, PeerState as MachineState, unheard, after_tick, sampled, waiting, unsampled as without_sample, asked_now, still_asked, probe_goes_on, ticks_to_wait, empty, found_in, of_peer, changed_in, at_peer, at_each, Note, Nothing, Ticked, Sampled, noted, marked_by, probed_by, by_change}
use Rattle.psb_machine.proofs.Found.{changed_here, changed_there, each_found}
use Rattle.node_letters.specs.Peers.{PeersView, peers_of}
use Rattle.peer_states.specs.declared.peer_state.PeerState.{PeerState}
use Rattle.peer_states.specs.declared.peer_state.Mark.{Mark}
use Rattle.peer_states.specs.declared.peer_state.Mark.TheVariants.{Tick, Wait, Sample, Asked, Probe}
use Rattle.peer_states.specs.PeerStates.{at_start, kept, state_of, marked, marked_at, probed, unsampled, states_noted, states_changed, states_probed, KnowsStates}

-- ---- what is kept of a peer

-- a change of all that leaves each its peer
found_changed : (f : PeerState → PeerState) → ((x : PeerState) → (f x).peer ≡ x.peer) → (l : List PeerState) (p : ℕ) → state_of (map f l) p ≡ option_map f (state_of l p)
found_changed f same [] p = refl
found_changed f same (x ∷ xs) p =
    let here : ((f x).peer == p) ≡ (x.peer == p) = ap (λ (q : ℕ). q == p) (same x) in
    by_cases (x.peer == p)
    (λ k. rw (here, k) refl)
    (λ k. rw (here, k) (found_changed f same xs p))

found_peer : (l : List PeerState) (p : ℕ) (x : PeerState) → state_of l p ≡ Some x → x.peer ≡ p
found_peer [] p x is = absurd (cc (is))
found_peer (y ∷ ys) p x is =
    by_cases (y.peer == p)
    (λ k. let is' : Some y ≡ Some x = rw k at is in let same : y ≡ x = cc (is') in ap (λ (c : PeerState). c.peer) (sym same) ∙ eqb-true y.peer p k)
    (λ k. let is' : state_of ys p ≡ Some x = rw k at is in found_peer ys p x is')

some_changed : (f : PeerState → PeerState) (o : Option PeerState) → is_some (option_map f o) ≡ is_some o
some_changed f None = refl
some_changed f (Some x) = refl

-- where each is changed as the machine changes it, each is known then
changed_known : (f : PeerState → PeerState) (l : List PeerState) (keys : List (ℕ × List ℕ)) (v w : Volatile) → ((x : PeerState) → (f x).peer ≡ x.peer)
    → ((x : PeerState) → of_peer v x.peer ≡ kept x → of_peer w x.peer ≡ kept (f x)) → KnowsStates l keys v → KnowsStates (map f l) keys w
changed_known f l keys v w same each k = record {
  there = λ p. ap (λ (o : Option PeerState). is_some o) (found_changed f same l p) ∙ some_changed f (state_of l p) ∙ k.there p;
  are = λ p x is. by_found p x (state_of l p) refl (sym (found_changed f same l p) ∙ is);
}
  where
    by_found : (p : ℕ) (x : PeerState) (o : Option PeerState) → state_of l p ≡ o → option_map f o ≡ Some x → of_peer w p ≡ kept x
    by_found p x None is was = absurd (cc (was))
    by_found p x (Some y) is was =
        let now : f y ≡ x = cc (was) in
        let here : y.peer ≡ p = found_peer l p y is in
        ap (of_peer w) (sym here) ∙ each y (ap (of_peer v) here ∙ k.are p y is) ∙ ap kept now

-- ---- at first

start_there : (peers : List PeerRow) (p : ℕ) → is_some (state_of (map at_start peers) p) ≡ is_some (key_in (map key_of_row peers) p)
start_there [] p = refl
start_there (x ∷ xs) p = by_cases (x.id == p) (λ k. rw k refl) (λ k. rw k (start_there xs p))

start_state : (peers : List PeerRow) (p : ℕ) (x : PeerState) → state_of (map at_start peers) p ≡ Some x → unheard ≡ kept x
start_state [] p x is = absurd (cc (is))
start_state (y ∷ ys) p x is =
    by_cases (y.id == p)
    (λ k. let is' : Some (at_start y) ≡ Some x = rw k at is in let same : at_start y ≡ x = cc (is') in ap kept same)
    (λ k. let is' : state_of (map at_start ys) p ≡ Some x = rw k at is in start_state ys p x is')

states_started : (peers : List PeerRow) → KnowsStates (map at_start peers) (map key_of_row peers) empty
states_started peers = record { there = start_there peers; are = start_state peers }

-- those that a node makes for its peers
pub started_here : (states : List PeerState) (rows : List PeerRow) (v : PeersView) (settings : Settings) → states ≡ map at_start rows → rows ≡ v.rows → v ≡ peers_of settings → KnowsStates states v.keys empty
started_here states rows v settings made here is =
    subst (λ (w : PeersView). KnowsStates states w.keys empty) (sym is)
    (subst (λ (l : List PeerState). KnowsStates l (peers_of settings).keys empty) (sym (made ∙ ap (map at_start) (here ∙ ap (λ (w : PeersView). w.rows) is))) (states_started settings.peers))

-- ---- a mark of one peer

probed_peer : (goes_on : Bool) (x : PeerState) → (probed goes_on x).peer ≡ x.peer
probed_peer goes_on x = by_cases (not goes_on && is_some x.began) (λ k. rw k refl) (λ k. rw k refl)

-- it ends as it does in the machine
probed_kept : (goes_on : Bool) (x : PeerState) → probe_goes_on goes_on (kept x) ≡ kept (probed goes_on x)
probed_kept goes_on x = by_cases (not goes_on && is_some x.began) (λ k. rw k refl) (λ k. rw k refl)

marked_peer : (q : ℕ) (m : Mark) (x : PeerState) → (marked_at q m x).peer ≡ x.peer
marked_peer q m x = by_cases (x.peer == q) (λ k. rw k (by_mark m)) (λ k. rw k refl)
  where
    by_mark : (m : Mark) → (marked m x).peer ≡ x.peer
    by_mark Tick = refl
    by_mark (Wait ticks) = refl
    by_mark (Sample bits) = refl
    by_mark Asked = refl
    by_mark (Probe goes_on) = probed_peer goes_on x

one_marked : (v : Volatile) (f : MachineState → MachineState) (m : Mark) (q : ℕ) (x : PeerState) → ((y : PeerState) → f (kept y) ≡ kept (marked m y)) → of_peer v x.peer ≡ kept x → of_peer (at_peer q f v) x.peer ≡ kept (marked_at q m x)
one_marked v f m q x same is =
    by_cases (x.peer == q)
    (λ k. let here : x.peer ≡ q = eqb-true x.peer q k in
    rw k (ap (λ (p : ℕ). found_in (changed_in q f v.peers) p) here ∙ changed_here v.peers f q ∙ ap (λ (p : ℕ). f (found_in v.peers p)) (sym here) ∙ ap f is ∙ same x))
    (λ k. let apart : (q == x.peer) ≡ false = by_cases (q == x.peer) (λ i. absurd (true≢false (sym (eq-eqb x.peer q (sym (eqb-true q x.peer i))) ∙ k))) (λ i. i) in
    rw k (changed_there v.peers f q x.peer apart ∙ is))

states_marked : (l : List PeerState) (keys : List (ℕ × List ℕ)) (v : Volatile) (f : MachineState → MachineState) (m : Mark) (q : ℕ) → ((y : PeerState) → f (kept y) ≡ kept (marked m y)) → KnowsStates l keys v → KnowsStates (map (marked_at q m) l) keys (at_peer q f v)
states_marked l keys v f m q same k = changed_known (marked_at q m) l keys v (at_peer q f v) (marked_peer q m) (λ x is. one_marked v f m q x same is) k

pub states_then : (note : Note) (l : List PeerState) (keys : List (ℕ × List ℕ)) (v : Volatile) → KnowsStates l keys v → KnowsStates (states_noted note l) keys (noted note v)
states_then Nothing l keys v k = k
states_then (Ticked p) l keys v k = states_marked l keys v after_tick Tick p (λ y. refl) k
states_then (Sampled p bits) l keys v k = states_marked l keys v (sampled bits) (Sample bits) p (λ y. refl) k

-- ---- a change

no_samples : (l : List PeerState) (keys : List (ℕ × List ℕ)) (v : Volatile) → KnowsStates l keys v → KnowsStates (map unsampled l) keys (at_each without_sample v)
no_samples l keys v k = changed_known unsampled l keys v (at_each without_sample v) (λ x. refl) (λ x is. each_found v.peers x.peer ∙ ap without_sample is) k

states_marked_by : (l : List PeerState) (keys : List (ℕ × List ℕ)) (s : State) (settings : Settings) (c : Change) (v : Volatile) → s.settings ≡ Some settings → KnowsStates l keys v → KnowsStates (states_changed settings.id c l) keys (marked_by s c v)
states_marked_by l keys s settings (change.Turned x) v is k = rw is (states_marked l keys v (waiting (ticks_to_wait settings.id x.peer)) (Wait (ticks_to_wait settings.id x.peer)) x.peer (λ y. refl) k)
states_marked_by l keys s settings (change.Snapped x) v is k = no_samples l keys v k
states_marked_by l keys s settings (change.Forgot x) v is k = no_samples l keys v k
states_marked_by l keys s settings (change.Asked x) v is k = states_marked l keys v asked_now Asked x.peer (λ y. refl) k
states_marked_by l keys s settings _ v is k = k

states_ended : (l : List PeerState) (keys : List (ℕ × List ℕ)) (after : State) (p : Option ℕ) (v : Volatile) → KnowsStates l keys v → KnowsStates (states_probed after p l) keys (probed_by after p v)
states_ended l keys after None v k = k
states_ended l keys after (Some p) v k = states_marked l keys v (probe_goes_on (still_asked (row after p))) (Probe (still_asked (row after p))) p (probed_kept (still_asked (row after p))) k

pub states_grown : (l : List PeerState) (keys : List (ℕ × List ℕ)) (s : State) (settings : Settings) (c : Change) (v : Volatile) → s.settings ≡ Some settings → KnowsStates l keys v
    → KnowsStates (states_probed (after s c) (peer_of c) (states_changed settings.id c l)) keys (by_change s c v)
states_grown l keys s settings c v is k = states_ended (states_changed settings.id c l) keys (after s c) (peer_of c) (marked_by s c v) (states_marked_by l keys s settings c v is k)
