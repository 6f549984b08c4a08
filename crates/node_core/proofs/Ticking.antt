-- What a node makes of a tick of a peer is what the machine makes of it.
use Rattle.std.proofs.Common.{◌≡◌, ℕ, ◌+◌, ◌<◌, ◌^◌, true, false, ◌&&◌, List, [], map, is_some, option_map, Option, Some, None, IfSome, refl, sym, ◌∙◌, ap, subst, arith}
use Rattle.std.proofs.lemmas.Bool.{and_parts, true≢false, lt-ltb}
use Rattle.psb_settings.specs.declared.settings.Settings.{Settings}
use Rattle.psb_station.proofs.Spans.{same_some}
use Rattle.psb_model.specs.State.{State, row}
use Rattle.psb_model.specs.Grammar.{is_u32, is_u64, what_fits}
use Rattle.psb_model.specs.History.{state}
use Rattle.psb_model.specs.Needed.{IsValid}
use Rattle.psb_model.specs.declared.change.Change.{Change}
use Rattle.psb_model.specs.declared.change.Change.TheVariants.{Proposed}
use Rattle.model_laws.proofs.Fitting.{fit_state}
use Rattle.model_laws.proofs.Bodies.{valid_snoc}
use Rattle.wire_codec.specs.Frames.{key_in, datagram}
use Rattle.wire_codec.specs.declared.frame.Frame.{Frame}
use Rattle.psb_machine.specs.Letters.{keys_of, spelled, all_spelled}
use Rattle.psb_machine.specs.Volatile.{PeerState as MachineState, of_peer}
use Rattle.psb_machine.specs.OwnProbes.{Run as MachineRun, listed_by}
use Rattle.psb_machine.specs.Proposals.{Offer as MachineOffer, letter_of, deal_letters, is_askable, brings_bytes}
use Rattle.psb_machine.specs.Machine.{Situation, Tick, Rule, passes, run_at, react, grown_by, by_offer, offer_by, offer_at, rules, by_key, on_tick}
use Rattle.psb_machine.specs.Laws.{TickFits}
use Rattle.psb_machine.proofs.Causes.{offer_cases}
use Rattle.psb_machine.proofs.Peers.{keyed_is_peer}
use Rattle.psb_machine.proofs.Ticking.{offer_askable, proposed_may}
use Rattle.psb_machine.proofs.Untied.{proposed_spares}
use Rattle.node_letters.specs.Letters.{letters_of}
use Rattle.node_letters.specs.Peers.{PeersView, peers_of}
use Rattle.node_core.specs.declared.node.Node.{Node}
use Rattle.own_offers.specs.declared.offering.Offer.{Offer}
use Rattle.own_offers.specs.Offers.{offer_in}
use Rattle.own_offers.proofs.Lengths.{proposed_short}
use Rattle.own_offers.proofs.Letters.{spelled_by}
use Rattle.peer_states.specs.declared.peer_state.PeerState.{PeerState}
use Rattle.peer_states.specs.declared.peer_state.Note.TheVariants as note
use Rattle.node_core.specs.declared.reaction.Reaction.{Reaction}
use Rattle.node_core.specs.Making.{MayMake}
use Rattle.peer_states.specs.PeerStates.{state_of, kept, note_in}
use Rattle.node_core.specs.Reacting.{Reacts, ReactsSo, MayFollow, MayCome}
use Rattle.node_core.specs.Stored.{Knows}
use Rattle.own_probes.specs.Probes.{run_in}
use Rattle.own_probes.specs.declared.run.Run.{Run}
use Rattle.node_core.specs.Ticking.{IsBare, IsRule, IsRunAt, Follows, FollowsSo, OffersDeal, OffersDealSo}
use Rattle.node_core.proofs.Heard.{none_spelled}

-- ---- the deal that is offered

-- a node finds it by what it keeps of the peer
pub offered_now : {L : Type 0} (node : Node L) (n : Situation) (p : ℕ) (x : PeerState) (run : Option Run) (o : Option Offer) → Knows node n → state_of node.states.items p ≡ Some x → IsRunAt run node p
    → ((settings : Settings) → node.ledger.state.settings ≡ Some settings → option_map offer_in o ≡ offer_by settings node.ledger.state p (kept x) (listed_by (option_map run_in run)) (row node.ledger.state p).pending)
    → (settings : Settings) → (state n.history).settings ≡ Some settings → option_map offer_in o ≡ offer_at settings n p
offered_now node n p x run o k found runs offers settings present =
    offers settings (ap (λ (s : State). s.settings) k.ledger ∙ present)
    ∙ ap (λ (s : State). offer_by settings s p (kept x) (listed_by (option_map run_in run)) (row s p).pending) k.ledger
    ∙ ap (λ (y : MachineState). offer_by settings (state n.history) p y (listed_by (option_map run_in run)) (row (state n.history) p).pending) (sym (k.states.are p x found))
    ∙ ap (λ (r : Option MachineRun). offer_by settings (state n.history) p (of_peer n.volatile p) (listed_by r) (row (state n.history) p).pending) (runs n k)

-- ---- who has a key

tick_is : (n : Situation) (settings : Settings) (p : ℕ) (o : Option (List ℕ)) → (state n.history).settings ≡ Some settings → key_in (keys_of settings) p ≡ o → on_tick (state n.history).settings n p ≡ by_key settings n p o
tick_is n settings p o present keyed = ap (λ (s : Option Settings). on_tick s n p) present ∙ ap (by_key settings n p) keyed

keys_here : {L : Type 0} (node : Node L) (n : Situation) (k : Knows node n) → node.peers.keys ≡ keys_of k.settings.settings
keys_here node n k = ap (λ (v : PeersView). v.keys) k.settings.peers

no_key : (o : Option (List ℕ)) → is_some o ≡ false → o ≡ None
no_key None h = refl
no_key (Some x) h = absurd (true≢false h)

some_key : (o : Option (List ℕ)) → is_some o ≡ true → (x : List ℕ) × (o ≡ Some x)
some_key None h = absurd (true≢false (sym h))
some_key (Some x) h = (x, refl)

-- a rule to which nothing comes
pub passes_rule : (r : Reaction) (n : Situation) (m : Rule) → m ≡ passes → r.change ≡ None → r.dropped ≡ None → r.out ≡ [] → IsRule r n m
passes_rule r n m is change dropped out = subst (λ (q : Rule). IsRule r n q) (sym is) (record { change = change; letters = ap letters_of out ∙ none_spelled (state n.history).settings; dropped = dropped })

-- nothing is kept of one that has no key, and of its tick nothing comes
pub stranger_follows : {L : Type 0} (r : Reaction) (node : Node L) (n : Situation) (p : ℕ) → Knows node n → state_of node.states.items p ≡ None → r.change ≡ None → r.dropped ≡ None → r.out ≡ [] → Follows r n p
stranger_follows r node n p k none change dropped out =
    let lacks : is_some (key_in node.peers.keys p) ≡ false = sym (k.states.there p) ∙ ap (λ (o : Option PeerState). is_some o) none in
    passes_rule r n (on_tick (state n.history).settings n p)
    (tick_is n k.settings.settings p None k.settings.present (ap (λ (keys : List (ℕ × List ℕ)). key_in keys p) (sym (keys_here node n k)) ∙ no_key (key_in node.peers.keys p) lacks)) change dropped out

-- one of which something is kept has a key
pub record HasKey {L : Type 0} (node : Node L) (n : Situation) (p : ℕ) (settings : Settings) : Type 0 where
  pub key : List ℕ
  pub here : key_in node.peers.keys p ≡ Some key
  pub keyed : key_in (keys_of settings) p ≡ Some key
  pub follows : on_tick (state n.history).settings n p ≡ rules settings n p

pub has_key : {L : Type 0} (node : Node L) (n : Situation) (p : ℕ) (x : PeerState) (k : Knows node n) → state_of node.states.items p ≡ Some x → HasKey node n p k.settings.settings
has_key node n p x k found =
    let there : is_some (key_in node.peers.keys p) ≡ true = sym (k.states.there p) ∙ ap (λ (o : Option PeerState). is_some o) found in
    let key = some_key (key_in node.peers.keys p) there in
    let keyed = ap (λ (keys : List (ℕ × List ℕ)). key_in keys p) (sym (keys_here node n k)) ∙ key.1 in
    record { key = key.0; here = key.1; keyed = keyed; follows = tick_is n k.settings.settings p (Some key.0) k.settings.present keyed }

-- ---- what the rules come to

-- with the tick, which is noted
pub ticked_reacts : (r q : Reaction) (n : Situation) (p : ℕ) → Follows r n p → q.change ≡ r.change → q.note ≡ note.Ticked p → q.dropped ≡ r.dropped → q.out ≡ r.out → Reacts q n (react n (Tick p))
ticked_reacts r q n p it change noted dropped out = record { change = change ∙ it.change; letters = ap letters_of out ∙ it.letters; note = ap note_in noted; dropped = dropped ∙ it.dropped }

pub ticked_reacts_so : (r q : Reaction) (n : Situation) (p : ℕ) → FollowsSo r n p → q.change ≡ r.change → q.dropped ≡ r.dropped → ReactsSo q n (Tick p)
ticked_reacts_so r q n p it change dropped = record { change = λ certain. ap (λ (o : Option Change). is_some o) (change ∙ it.0); dropped = dropped ∙ it.1 }

pub follows_so : (r : Reaction) (n : Situation) (p : ℕ) → Follows r n p → FollowsSo r n p
follows_so r n p it = (it.change, it.dropped)

-- ---- where no deal is offered

pub none_offered : {L : Type 0} (r : Reaction) (node : Node L) (n : Situation) (p : ℕ) → ((settings : Settings) → (state n.history).settings ≡ Some settings → None ≡ offer_at settings n p)
    → r.change ≡ None → r.dropped ≡ None → r.out ≡ [] → OffersDeal r node n p
none_offered r node n p none change dropped out = λ settings key present here.
    passes_rule r n (by_offer settings n.history p (offer_at settings n p)) (ap (by_offer settings n.history p) (sym (none settings present))) change dropped out

pub none_offered_so : (r : Reaction) (n : Situation) (p : ℕ) → ((settings : Settings) → (state n.history).settings ≡ Some settings → None ≡ offer_at settings n p) → r.change ≡ None → r.dropped ≡ None → OffersDealSo r n p
none_offered_so r n p none change dropped = λ settings present. (change ∙ ap (λ (o : Option MachineOffer). (by_offer settings n.history p o).grown) (none settings present), dropped)

-- ---- where a deal is offered

-- what is offered, whatever the disk tells
pub record IsOffered {L : Type 0} (node : Node L) (n : Situation) (p : ℕ) (o : MachineOffer) : Type 0 where
  pub settings : Settings
  pub present : (state n.history).settings ≡ Some settings
  pub key : List ℕ
  pub keyed : key_in (keys_of settings) p ≡ Some key
  pub offer : offer_at settings n p ≡ Some o

pub offered_here : {L : Type 0} (node : Node L) (n : Situation) (p : ℕ) (x : PeerState) (o : MachineOffer) → Knows node n → state_of node.states.items p ≡ Some x → ((settings : Settings) → (state n.history).settings ≡ Some settings → Some o ≡ offer_at settings n p) → IsOffered node n p o
offered_here node n p x o k found offered =
    let h = has_key node n p x k found in
    let settings = k.settings.settings in
    record { settings = settings; present = k.settings.present; key = h.key; keyed = h.keyed; offer = sym (offered settings k.settings.present) }

pub deal_offered : {L : Type 0} (r : Reaction) (node : Node L) (n : Situation) (p : ℕ) (o : MachineOffer) → ((settings : Settings) → (state n.history).settings ≡ Some settings → Some o ≡ offer_at settings n p) → r.change ≡ grown_by p o → r.dropped ≡ None
    → ((settings : Settings) (key : List ℕ) → (state n.history).settings ≡ Some settings → key_in node.peers.keys p ≡ Some key → letters_of r.out ≡ map (spelled settings) (deal_letters settings n.history p o.deal)) → OffersDeal r node n p
deal_offered r node n p o offered change dropped letters = λ settings key present here.
    subst (λ (m : Rule). IsRule r n m) (ap (by_offer settings n.history p) (offered settings present)) (record {
      change = change;
      letters = letters settings key present here ∙ ap (λ (s : Option Settings). all_spelled s (deal_letters settings n.history p o.deal)) (sym present);
      dropped = dropped;
    })

pub deal_offered_so : (r : Reaction) (n : Situation) (p : ℕ) (o : MachineOffer) → ((settings : Settings) → (state n.history).settings ≡ Some settings → Some o ≡ offer_at settings n p) → r.change ≡ grown_by p o → r.dropped ≡ None → OffersDealSo r n p
deal_offered_so r n p o offered change dropped = λ settings present. (change ∙ ap (λ (q : Option MachineOffer). (by_offer settings n.history p q).grown) (offered settings present), dropped)

-- it can be spelled
pub offered_askable : {L : Type 0} (node : Node L) (n : Situation) (p : ℕ) (o : MachineOffer) → Knows node n → IsOffered node n p o → is_askable node.ledger.state p o.deal.what ≡ true
offered_askable node n p o k q = subst (λ (s : State). is_askable s p o.deal.what ≡ true) (sym k.ledger) (offer_askable q.settings n p o k.valid q.present q.offer)

-- no bytes are read for it where the tick is bare
pub offered_bare : {L : Type 0} (node : Node L) (n : Situation) (p : ℕ) (o : MachineOffer) → IsOffered node n p o → IsBare n p → brings_bytes o.deal.what ≡ false
offered_bare node n p o q u = u q.settings o q.present q.offer

-- ---- the letter

-- a letter to a peer with this key, as it goes out
pub spelled_with : {L : Type 0} (node : Node L) (n : Situation) (settings : Settings) (p number : ℕ) (key : List ℕ) (f : Frame) → Knows node n → (state n.history).settings ≡ Some settings → key_in node.peers.keys p ≡ Some key
    → (p, datagram key node.peers.own.id p number f) ≡ spelled settings (letter_of p number f)
spelled_with node n settings p number key f k present here =
    spelled_by node.peers settings p number key f (k.settings.peers ∙ ap peers_of (same_some (state n.history).settings k.settings.settings settings k.settings.present present)) here

-- ---- what is proposed may be made

-- a tick after which the next deal has a number
pub tick_fits : (n : Situation) (p : ℕ) → IsValid n.history → p < 2 ^ 32 → (state n.history).changes < 2 ^ 62 → TickFits (state n.history) p
tick_fits n p v small few = record { peer = lt-ltb p (2 ^ 32) small; more = omega (arith, few, ((fit_state n.history v.lawful).rows p).mine); room = omega (arith, few) }

pub next_number : {L : Type 0} (node : Node L) (n : Situation) (p : ℕ) → Knows node n → node.ledger.state.changes < 2 ^ 62 → (row node.ledger.state p).mine + 1 < 2 ^ 64
next_number node n p k few =
    let less = ((fit_state n.history k.valid.lawful).rows p).mine in
    subst (λ (s : State). (row s p).mine + 1 < 2 ^ 64) (sym k.ledger) (omega (arith, less, ap (λ (s : State). s.changes) k.ledger, few))

record MayPropose (n : Situation) (c : Change) : Type 0 where
  make : MayMake (state n.history) c
  follow : MayFollow n c

may_propose : {L : Type 0} (node : Node L) (n : Situation) (p : ℕ) (o : MachineOffer) (c : Change) → Knows node n → p < 2 ^ 32 → (state n.history).changes < 2 ^ 62 → IsOffered node n p o → grown_by p o ≡ Some c → MayPropose n c
may_propose node n p o c k small few q grown =
    offer_cases q.settings n p o q.offer
    (λ pending old. let none : None ≡ Some c = rw old at grown in absurd (cc (none)))
    (λ idle what found same.
    let s = state n.history in
    let number = (row s p).mine + 1 in
    let is : Proposed (record { peer = p; deal = number; what = what }) ≡ c = cc (ap (grown_by p) same ∙ grown) in
    let m = proposed_may n.history q.settings p (listed_by (run_at n p)) what k.valid q.present (keyed_is_peer n.history q.settings p q.key q.present q.keyed) (tick_fits n p k.valid small few) idle found in
    let fits = and_parts (is_u32 p && is_u64 number) (what_fits what) m.widths in
    let askable = subst (λ (b : MachineOffer). is_askable s p b.deal.what ≡ true) (sym same) (offer_askable q.settings n p o k.valid q.present q.offer) in
    subst (MayPropose n) is (record {
      make = record {
        grammar = m.grammar;
        may = m.may;
        few = few;
        there = refl;
        short = omega (arith, proposed_short s p number what fits.1 askable);
      };
      follow = record {
        valid = valid_snoc n.history (Proposed (record { peer = p; deal = number; what = what })) k.valid m.grammar m.may m.widths m.brings;
        spares = proposed_spares n q.settings p what found;
      };
    }))

-- so it may come next
pub offer_may_come : {L : Type 0} (r : Reaction) (node : Node L) (p : ℕ) (o : MachineOffer) → p < 2 ^ 32 → node.ledger.state.changes < 2 ^ 62 → (n : Situation) × Knows node n → ((n : Situation) → Knows node n → IsOffered node n p o) → r.change ≡ grown_by p o → IfSome r.change (MayCome Knows node)
offer_may_come r node p o small few known offered change = by_change r.change change
  where
    few_in : (n : Situation) → Knows node n → (state n.history).changes < 2 ^ 62
    few_in n k = subst (λ (s : State). s.changes < 2 ^ 62) k.ledger few

    by_change : (g : Option Change) → g ≡ grown_by p o → IfSome g (MayCome Knows node)
    by_change None is = tt
    by_change (Some c) is = (
      subst (λ (s : State). MayMake s c) (sym known.1.ledger) (may_propose node known.0 p o c known.1 small (few_in known.0 known.1) (offered known.0 known.1) (sym is)).make,
      λ n k. (may_propose node n p o c k small (few_in n k) (offered n k) (sym is)).follow,
    )
