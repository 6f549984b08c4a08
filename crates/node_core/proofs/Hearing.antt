-- What a node makes of a message is what the machine makes of it.
use Rattle.std.proofs.Common.{◌≡◌, ◌⊎◌, ⊎_elim, ℕ, ◌+◌, ◌*◌, ◌<◌, ◌≤◌, ◌^◌, Bool, true, false, if◌then◌else◌, ◌==◌, ◌&&◌, List, [], ◌∷◌, ◌++◌, length, slice_get, is_some, unwrap_or, option_map, Option, Some, None, IfSome, refl, sym, ◌∙◌, ap, subst, arith, length-append}
use Rattle.std.specs.Int.{to_be_bytes, w32, w64}
use Rattle.std.specs.List.{flat_map}
use Rattle.std.proofs.lemmas.Bool.{true≢false, eqb-true}
use Rattle.std.proofs.lemmas.List.{length-map}
use Rattle.std.proofs.lemmas.Option.{slice_get_within}
use Rattle.psb_bytes.specs.declared.lists.SlotClaim.{SlotClaim}
use Rattle.psb_settings.specs.declared.settings.Settings.{Settings}
use Rattle.psb_station.specs.View.{View}
use Rattle.psb_station.specs.Span.{Shows}
use Rattle.psb_station.proofs.Spans.{same_some}
use Rattle.node_journal.specs.Entry.{Entry}
use Rattle.change_codec.specs.Records.{OneChangeEach}
use Rattle.psb_model.specs.State.{State, row, is_held, is_peer}
use Rattle.psb_model.specs.Grammar.{is_u32, is_u64}
use Rattle.psb_model.specs.Heads.{head_of}
use Rattle.psb_model.specs.History.{state}
use Rattle.psb_model.specs.Needed.{last_brought, IsValid}
use Rattle.psb_model.specs.declared.change.Change.{Change}
use Rattle.psb_model.specs.declared.change.Change.TheVariants.{Settled, Turned}
use Rattle.psb_model.specs.declared.deals.LastDeal.{LastDeal}
use Rattle.psb_model.proofs.Prefixes.{changes_counted}
use Rattle.model_laws.specs.Finding.{deal_proposed}
use Rattle.model_laws.proofs.Bodies.{valid_snoc}
use Rattle.chunk_store.specs.declared.store.Store.{Store}
use Rattle.chunk_store.specs.Store.{record_of}
use Rattle.wire_codec.specs.Frames.{key_in, datagram}
use Rattle.wire_codec.specs.declared.frame.Frame.{Frame}
use Rattle.wire_codec.specs.declared.frame.Frame.TheVariants.{Here, Sample}
use Rattle.psb_machine.specs.Letters.{key_with, all_spelled}
use Rattle.psb_machine.specs.Volatile.{Nothing, Sampled}
use Rattle.psb_machine.specs.Deals.{standing, judge, judged_at, is_compared, are_others, is_new, clashes, Deal, StoreFresh, StoreSwap, Cancel, PutBack, Replace, takes, Facts as MachineFacts, slots_of}
use Rattle.psb_machine.specs.Judging.{IsShort, ReplyFits}
use Rattle.psb_machine.specs.Messages.{Sender as MachineSender, Message, Deals, Replies, Gets, Asks, Tells}
use Rattle.psb_machine.specs.Gets.{has_chunk}
use Rattle.psb_machine.specs.Replies.{reply, reply_of}
use Rattle.psb_machine.specs.Settling.{Reply, Accepts, Refuses, answers_deal, settle}
use Rattle.psb_machine.specs.Sampling.{open_question, bits_of, answers}
use Rattle.psb_machine.specs.Machine.{Situation, Reaction as MachineReaction, quiet, keeps, makes, answers_with, by_settled, by_standing, on_message, here}
use Rattle.psb_machine.specs.declared.deals.Standing.{Standing}
use Rattle.psb_machine.specs.declared.deals.Standing.TheVariants.{Fresh, Repeat, Stale, Gap}
use Rattle.psb_machine.specs.declared.deals.Refusal.{Refusal}
use Rattle.psb_machine.proofs.Lasts.{LastIs, drawn, last_there}
use Rattle.psb_machine.proofs.Made.{settles_by}
use Rattle.psb_machine.proofs.Settled.{settle_may}
use Rattle.psb_machine.proofs.Standings.{fresh_is_next, repeat_is_last}
use Rattle.psb_machine.proofs.Taken.{IsNext as IsNextDeal, joined_long}
use Rattle.psb_machine.proofs.Valid.{judged_deal_valid}
use Rattle.psb_machine.proofs.Untied.{judged_none, takes_none, answers_none}
use Rattle.deals.specs.declared.facts.Facts.{Facts}
use Rattle.deals.specs.Views.{facts_in}
use Rattle.node_letters.specs.Letters.{letters_of}
use Rattle.node_letters.specs.Messages.{sender_in}
use Rattle.node_letters.specs.Peers.{PeersView}
use Rattle.node_letters.specs.declared.letter.Letter.{Letter}
use Rattle.node_letters.specs.declared.message.Sender.{Sender}
use Rattle.node_history.specs.Less.{IsLess}
use Rattle.node_history.specs.Names.{KnowsNames}
use Rattle.node_history.proofs.Less.{state_less}
use Rattle.node_core.specs.declared.node.Node.{Node}
use Rattle.peer_states.specs.declared.peer_state.Note.TheVariants as note
use Rattle.node_core.specs.declared.reaction.Reaction.{Reaction}
use Rattle.node_facts.specs.Again.{IsAnswerOf}
use Rattle.node_facts.specs.Compared.{HasNone}
use Rattle.node_core.specs.Hearing.{Heard, Hears, IsLike, HearsSo, MakesNo, Makes, IsToldAgain, IsGiven, IsPlain, IsAnswered}
use Rattle.node_facts.specs.Refused.{AreFacts, refused_by, why_refused}
use Rattle.node_core.specs.Making.{MayMake, CanMake, CanTell, IsNext, home_by, made_by, made_of, made_in}
use Rattle.peer_states.specs.PeerStates.{note_in}
use Rattle.node_core.specs.Reacting.{Reacts, MayCome}
use Rattle.node_core.specs.Stored.{Knows, Stored}
use Rattle.node_core.specs.Unread.{IsUnreadMessage}
use Rattle.node_facts.proofs.Again.{answer_is}
use Rattle.node_facts.proofs.Compared.{meets_less}
use Rattle.own_offers.proofs.Lengths.{slots_long}
use Rattle.node_core.proofs.Dealt.{IsRecordable, can_judge, fits_short, number_fits}
use Rattle.node_core.proofs.Heard.{none_spelled, keyed_in, peer_of}
use Rattle.node_core.proofs.Committing.{may_follow}

-- ---- what is said by the settings that a node knows

pub hears_by : {L : Type 0} (r : Reaction) (node : Node L) (n : Situation) (from : MachineSender) (m : Message) (k : Knows node n) → Reacts r n (on_message k.settings.settings n from m) → Hears r n from m
hears_by r node n from m k it = λ settings present.
    subst (λ (st : Settings). Reacts r n (on_message st n from m)) (same_some (state n.history).settings k.settings.settings settings k.settings.present present) it

pub so_by : {L : Type 0} (r : Reaction) (node : Node L) (n : Situation) (from : MachineSender) (m : Message) (k : Knows node n) → IsLike r (on_message k.settings.settings n from m) → HearsSo r n from m
so_by r node n from m k it = λ settings present.
    subst (λ (st : Settings). IsLike r (on_message st n from m)) (same_some (state n.history).settings k.settings.settings settings k.settings.present present) it

-- what is heard is so on every disk
pub hears_so : (r : Reaction) (n : Situation) (from : MachineSender) (m : Message) → Hears r n from m → HearsSo r n from m
hears_so r n from m hears = λ settings present. let it = hears settings present in record { change = ap (λ (o : Option Change). is_some o) it.change; dropped = it.dropped }

-- nothing comes of it
pub nothing_reacts : (r : Reaction) (n : Situation) (m : MachineReaction) → m ≡ quiet → r.change ≡ None → r.note ≡ note.Nothing → r.dropped ≡ None → r.out ≡ [] → Reacts r n m
nothing_reacts r n m is change noted dropped out =
    subst (λ (q : MachineReaction). Reacts r n q) (sym is) (record { change = change; letters = ap letters_of out ∙ none_spelled (state n.history).settings; note = ap note_in noted; dropped = dropped })

-- ---- letters

-- one letter to a peer with this key goes out so
pub one_spelled : {L : Type 0} (node : Node L) (n : Situation) (p number : ℕ) (key : List ℕ) (f : Frame) → Knows node n → key_in node.peers.keys p ≡ Some key
    → (p, datagram key node.peers.own.id p number f) ∷ [] ≡ all_spelled (state n.history).settings (record { to = p; number = number; frame = f } ∷ [])
one_spelled node n p number key f k keyed =
    let st = k.settings.settings in
    let same : key_with st p ≡ key = ap (λ (o : Option (List ℕ)). unwrap_or o []) (keyed_in node n p key k keyed) in
    ap (λ (v : PeersView). (p, datagram key v.own.id p number f) ∷ []) k.settings.peers
    ∙ ap (λ (q : List ℕ). (p, datagram q st.id p number f) ∷ []) (sym same)
    ∙ ap (λ (o : Option Settings). all_spelled o (record { to = p; number = number; frame = f } ∷ [])) (sym k.settings.present)

-- the one letter
pub one_letter_is : (out : List Letter) (letter : Letter) (p : ℕ) (frame : List ℕ) → out ≡ letter ∷ [] → letter.to ≡ p → letter.frame ≡ frame → letters_of out ≡ (p, frame) ∷ []
one_letter_is out letter p frame is to has = ap letters_of is ∙ (λ i. (to i, has i) ∷ [])

one_long : (out : List Letter) (letter : ℕ × List ℕ) → letters_of out ≡ letter ∷ [] → length out ≤ 2
one_long [] letter is = absurd (cc)
one_long (x ∷ []) letter is = omega arith
one_long (x ∷ y ∷ out) letter is = absurd (cc)

pub makes_few : {L : Type 0} (r : Reaction) (node : Node L) (from : Sender) (c : Change) → Makes r node from c → length r.out ≤ 2
makes_few r node from c makes = one_long r.out (from.peer, datagram from.key node.peers.own.id from.peer from.number (reply_of node.claims.seed c)) makes.letters

-- a node that only looked at its log makes the same
pub makes_still : {L : Type 0} (r : Reaction) (old new : Node L) (from : Sender) (c : Change) → new.peers ≡ old.peers → new.claims.seed ≡ old.claims.seed → Makes r new from c → Makes r old from c
makes_still r old new from c peers seed makes = record {
  change = makes.change;
  letters =
      makes.letters
      ∙ ap (λ (w : PeersView). (from.peer, datagram from.key w.own.id from.peer from.number (reply_of new.claims.seed c)) ∷ []) peers
      ∙ ap (λ (w : List ℕ). (from.peer, datagram from.key old.peers.own.id from.peer from.number (reply_of w c)) ∷ []) seed;
  note = makes.note;
  dropped = makes.dropped;
}

-- ---- a deal: how it stands

-- as the node's ledger has it
stands_as : {L : Type 0} (node : Node L) (n : Situation) (p number : ℕ) (last : LastDeal) (how : Standing) → Knows node n → last ≡ (row node.ledger.state p).last → how ≡ standing last.number number → standing (row (state n.history) p).last.number number ≡ how
stands_as node n p number last how k is stands =
    ap (λ (s : State). standing (row s p).last.number number) (sym k.ledger) ∙ ap (λ (d : LastDeal). standing d.number number) (sym is) ∙ sym stands

by_how : {L : Type 0} (node : Node L) (n : Situation) (from : MachineSender) (deal : Deal) (last : LastDeal) (how other : Standing) (k : Knows node n) → last ≡ (row node.ledger.state from.peer).last → how ≡ standing last.number from.number → how ≡ other
    → on_message k.settings.settings n from (Deals deal) ≡ by_standing other k.settings.settings n from (judged_at k.settings.settings n.history from.peer from.number deal)
by_how node n from deal last how other k is stands same =
    ap (λ (s : Standing). by_standing s k.settings.settings n from (judged_at k.settings.settings n.history from.peer from.number deal)) (stands_as node n from.peer from.number last how k is stands ∙ same)

pub passes_deal : {L : Type 0} (r : Reaction) (node : Node L) (n : Situation) (from : MachineSender) (deal : Deal) (last : LastDeal) (how : Standing) → Knows node n → last ≡ (row node.ledger.state from.peer).last → how ≡ standing last.number from.number
    → (how ≡ Stale) ⊎ (how ≡ Gap) → r.change ≡ None → r.note ≡ note.Nothing → r.dropped ≡ None → r.out ≡ [] → Hears r n from (Deals deal)
passes_deal r node n from deal last how k is stands none change noted dropped out =
    hears_by r node n from (Deals deal) k (⊎_elim
    (λ e. nothing_reacts r n _ (by_how node n from deal last how Stale k is stands e) change noted dropped out)
    (λ e. nothing_reacts r n _ (by_how node n from deal last how Gap k is stands e) change noted dropped out) none)

-- ---- a fresh deal

-- whether other bytes are held is told by what the disk holds
clashes_less : (h less : List Change) (deal : Deal) → IsLess h less → IsValid less → clashes less deal ≡ clashes h deal
clashes_less h less (StoreFresh name bytes) is v = meets_less h less name bytes is v
clashes_less h less (StoreSwap name numbers bytes) is v = meets_less h less name bytes is v
clashes_less h less (Cancel name numbers) is v = refl
clashes_less h less (PutBack name claims) is v = refl
clashes_less h less (Replace slot bytes) is v = refl

-- nothing is compared where the history holds nothing under the name
pub none_compared : (store : Store) (h : List Change) (deal : Deal) → KnowsNames store h → is_compared (state h) deal ≡ false → HasNone store deal
none_compared store h deal knows free = by_kind deal free
  where
    none_of : (o : Option ℕ) → is_some o ≡ false → o ≡ None
    none_of None is = refl
    none_of (Some k) is = absurd (true≢false is)

    by_kind : (deal : Deal) → is_compared (state h) deal ≡ false → HasNone store deal
    by_kind (StoreFresh name bytes) free = none_of (record_of store name) (knows.held name ∙ free)
    by_kind (StoreSwap name numbers bytes) free = none_of (record_of store name) (knows.held name ∙ free)
    by_kind (Cancel name numbers) free = tt
    by_kind (PutBack name claims) free = tt
    by_kind (Replace slot bytes) free = tt

-- what is judged by the facts of a deal is what is made of it
pub judged_is : (s : State) (from : MachineSender) (deal : Deal) (f : Facts) (settings : Settings) → s.settings ≡ Some settings → AreFacts f s deal → judge (facts_in f) s from.peer from.number deal ≡ made_of s from deal (why_refused s from.peer deal f.clash)
judged_is s from deal f settings present are =
    ap (λ (x : MachineFacts). judge x s from.peer from.number deal) (are settings present)
    ∙ sym (ap (λ (known : Option Settings). made_by known s from deal (refused_by known s from.peer deal f.clash)) present)

-- why it is refused by what the disk holds is why it is by the history
pub refused_less : {L : Type 0} (holds : L → List Entry → List ℕ → Type 0) (node : Node L) (h : List Change) (v : View) (p : ℕ) (deal : Deal) (clash : Bool) → (s : Stored holds node h v)
    → why_refused (state s.less) p deal clash ≡ why_refused (state s.less) p deal (clashes s.less deal) → why_refused (state h) p deal clash ≡ why_refused (state h) p deal (clashes h deal)
refused_less holds node h v p deal clash s is =
    let same = state_less h s.less s.is_less in
    ap (λ (t : State). why_refused t p deal clash) (sym same)
    ∙ is
    ∙ ap (λ (t : State). why_refused t p deal (clashes s.less deal)) same
    ∙ ap (λ (b : Bool). why_refused (state h) p deal b) (clashes_less h s.less deal s.is_less s.valid)

-- where nothing is compared, no other bytes are held
none_clash : (h : List Change) (deal : Deal) → is_compared (state h) deal ≡ false → clashes h deal ≡ false
none_clash h (StoreFresh name bytes) free = ap (λ (b : Bool). b && are_others (last_brought name h) bytes) free
none_clash h (StoreSwap name numbers bytes) free = ap (λ (b : Bool). b && are_others (last_brought name h) bytes) free
none_clash h (Cancel name numbers) free = refl
none_clash h (PutBack name claims) free = refl
none_clash h (Replace slot bytes) free = refl

-- so it is refused by the history as by what no record told
pub refused_unheld : (n : Situation) (p : ℕ) (deal : Deal) (clash : Bool) → is_compared (state n.history) deal ≡ false → clash ≡ false → why_refused (state n.history) p deal clash ≡ why_refused (state n.history) p deal (clashes n.history deal)
refused_unheld n p deal clash free none = ap (λ (b : Bool). why_refused (state n.history) p deal b) (none ∙ sym (none_clash n.history deal free))

-- the change that is made is the machine's
pub makes_in : {L : Type 0} (r : Reaction) (node : Node L) (n : Situation) (from : Sender) (deal : Deal) (f : Facts) → Knows node n → AreFacts f node.ledger.state deal → why_refused (state n.history) from.peer deal f.clash ≡ why_refused (state n.history) from.peer deal (clashes n.history deal)
    → Makes r node from (judge (facts_in f) node.ledger.state from.peer from.number deal) → Makes r node from (made_in n.history (sender_in from) deal)
makes_in r node n from deal f k are is makes =
    let present : node.ledger.state.settings ≡ Some k.settings.settings = ap (λ (s : State). s.settings) k.ledger ∙ k.settings.present in
    subst (λ (c : Change). Makes r node from c)
    (judged_is node.ledger.state (sender_in from) deal f k.settings.settings present are ∙ ap (λ (t : State). made_of t (sender_in from) deal (why_refused t from.peer deal f.clash)) k.ledger ∙ ap (λ (x : Option Refusal). made_of (state n.history) (sender_in from) deal x) is) makes

-- as the machine makes it of a fresh deal
pub made_hears : {L : Type 0} (r : Reaction) (node : Node L) (n : Situation) (from : Sender) (deal : Deal) (last : LastDeal) (how : Standing) → Knows node n → Heard node.peers.keys from (Deals deal) → last ≡ (row node.ledger.state from.peer).last
    → how ≡ standing last.number from.number → how ≡ Fresh → Makes r node from (made_in n.history (sender_in from) deal) → Hears r n (sender_in from) (Deals deal)
made_hears r node n from deal last how k heard is stands fresh it =
    let st = k.settings.settings in
    let c = judged_at st n.history from.peer from.number deal in
    let same : made_in n.history (sender_in from) deal ≡ c =
    ap (λ (known : Option Settings). made_by known (state n.history) (sender_in from) deal (refused_by known (state n.history) from.peer deal (clashes n.history deal))) k.settings.present in
    hears_by r node n (sender_in from) (Deals deal) k
    (subst (λ (m : MachineReaction). Reacts r n m) (sym (by_how node n (sender_in from) deal last how Fresh k is stands fresh)) (record {
      change = it.change ∙ ap (λ (d : Change). Some d) same;
      letters =
          it.letters
          ∙ ap (λ (d : Change). (from.peer, datagram from.key node.peers.own.id from.peer from.number (reply_of node.claims.seed d)) ∷ []) same
          ∙ ap (λ (seed : List ℕ). (from.peer, datagram from.key node.peers.own.id from.peer from.number (reply_of seed c)) ∷ []) k.settings.seed
          ∙ one_spelled node n from.peer from.number from.key (reply_of st.seed c) k heard.keyed;
      note = ap note_in it.note;
      dropped = it.dropped;
    }))

pub made_hears_so : {L : Type 0} (r : Reaction) (node : Node L) (n : Situation) (from : Sender) (deal : Deal) (last : LastDeal) (how : Standing) (c : Change) → Knows node n → last ≡ (row node.ledger.state from.peer).last → how ≡ standing last.number from.number → how ≡ Fresh
    → Makes r node from c → HearsSo r n (sender_in from) (Deals deal)
made_hears_so r node n from deal last how c k is stands fresh it =
    so_by r node n (sender_in from) (Deals deal) k
    (subst (λ (m : MachineReaction). IsLike r m) (sym (by_how node n (sender_in from) deal last how Fresh k is stands fresh)) (record { change = ap (λ (o : Option Change). is_some o) it.change; dropped = it.dropped }))

-- the node's claims are made of the seed of its settings, and all that the history drew were issued
pub seed_known : {L : Type 0} (node : Node L) (n : Situation) (settings : Settings) → Knows node n → node.ledger.state.settings ≡ Some settings → settings.seed ≡ node.claims.seed
seed_known node n settings k there =
    let same : Some settings ≡ Some k.settings.settings = sym there ∙ ap (λ (s : State). s.settings) k.ledger ∙ k.settings.present in
    ap (λ (o : Option Settings). elim o [ None ↦ settings.seed | Some x ↦ x.seed ]) same ∙ sym k.settings.seed

pub issued_known : {L : Type 0} (node : Node L) (n : Situation) → Knows node n → node.ledger.state.issued ≤ node.claims.issued
issued_known node n k = subst (λ (s : State). s.issued ≤ node.claims.issued) (sym k.ledger) k.issued

-- it may be made, whether or not other bytes are held under its name
pub can_make : {L : Type 0} (node : Node L) (n : Situation) (from : Sender) (deal : Deal) (last : LastDeal) (how : Standing) → Knows node n → Heard node.peers.keys from (Deals deal) → last ≡ (row node.ledger.state from.peer).last
    → how ≡ standing last.number from.number → how ≡ Fresh → node.ledger.state.changes < 2 ^ 62 → CanMake node.ledger.state (sender_in from) deal × IsShort deal × IsNext node.ledger.state (sender_in from)
can_make node n from deal last how k heard is stands fresh few =
    let st = k.settings.settings in
    let h = n.history in
    let next_deal = fresh_is_next (row (state h) from.peer).last.number from.number (stands_as node n from.peer from.number last how k is stands ∙ fresh) in
    let next : IsNextDeal st h from.peer from.number = record { some = k.valid.some; present = k.settings.present; peer = peer_of node n from.peer from.key k heard.keyed; next_deal = next_deal; drawn = drawn h k.valid } in
    let can = λ (clash : Bool). can_judge st h from.peer from.number deal clash k.valid next heard.fits (subst (λ (s : State). s.changes < 2 ^ 62) k.ledger few) in
    let there : CanMake (state h) (sender_in from) deal =
    λ clash. subst (λ (known : Option Settings). CanTell (state h) (made_by known (state h) (sender_in from) deal (refused_by known (state h) from.peer deal clash))) (sym k.settings.present) (can clash) in (
      subst (λ (s : State). CanMake s (sender_in from) deal) (sym k.ledger) there,
      fits_short from.peer from.number deal heard.fits,
      subst (λ (s : State). IsNext s (sender_in from)) (sym k.ledger) (record { next = eqb-true from.number ((row (state h) from.peer).last.number + 1) next_deal; fits = number_fits from.peer from.number deal heard.fits }),
    )

made_valid : {L : Type 0} (node : Node L) (n : Situation) (from : Sender) (deal : Deal) (last : LastDeal) (how : Standing) (clash : Bool) → Knows node n → Heard node.peers.keys from (Deals deal) → last ≡ (row node.ledger.state from.peer).last
    → how ≡ standing last.number from.number → how ≡ Fresh → IsValid (n.history ++ made_of (state n.history) (sender_in from) deal (why_refused (state n.history) from.peer deal clash) ∷ [])
made_valid node n from deal last how clash k heard is stands fresh =
    let st = k.settings.settings in
    let h = n.history in
    let next_deal = fresh_is_next (row (state h) from.peer).last.number from.number (stands_as node n from.peer from.number last how k is stands ∙ fresh) in
    subst (λ (known : Option Settings). IsValid (h ++ made_by known (state h) (sender_in from) deal (refused_by known (state h) from.peer deal clash) ∷ [])) (sym k.settings.present)
    (judged_deal_valid st h from.peer from.number deal clash k.valid k.settings.present (peer_of node n from.peer from.key k heard.keyed) heard.fits next_deal)

-- and come next
pub made_may_come : {L : Type 0} (r : Reaction) (node : Node L) (from : Sender) (deal : Deal) (last : LastDeal) (how : Standing) (clash : Bool) → (n : Situation) × Knows node n → Heard node.peers.keys from (Deals deal) → last ≡ (row node.ledger.state from.peer).last
    → how ≡ standing last.number from.number → how ≡ Fresh → node.ledger.state.changes < 2 ^ 62 → Makes r node from (made_of node.ledger.state (sender_in from) deal (why_refused node.ledger.state from.peer deal clash)) → IfSome r.change (MayCome Knows node)
made_may_come r node from deal last how clash known heard is stands fresh few it =
    subst (λ (f : Option Change). IfSome f (MayCome Knows node)) (sym it.change) (
      ((can_make node known.0 from deal last how known.1 heard is stands fresh few).0 clash).may,
      λ n k.
          may_follow n (made_of node.ledger.state (sender_in from) deal (why_refused node.ledger.state from.peer deal clash))
          (judged_none from.peer from.number (takes node.ledger.state.issued (is_new node.ledger.state deal) (home_by node.ledger.state.settings node.ledger.state deal) from.peer from.number deal) (why_refused node.ledger.state from.peer deal clash) (takes_none node.ledger.state.issued (is_new node.ledger.state deal) (home_by node.ledger.state.settings node.ledger.state deal) from.peer from.number deal))
          (subst (λ (s : State). IsValid (n.history ++ made_of s (sender_in from) deal (why_refused s from.peer deal clash) ∷ [])) (sym k.ledger) (made_valid node n from deal last how clash k heard is stands fresh)),
    )

-- where no record is read for it, nothing is compared
pub unread_unheld : {L : Type 0} (node : Node L) (n : Situation) (from : MachineSender) (deal : Deal) (last : LastDeal) (how : Standing) → Knows node n → last ≡ (row node.ledger.state from.peer).last → how ≡ standing last.number from.number → how ≡ Fresh
    → IsUnreadMessage n from (Deals deal) → is_compared (state n.history) deal ≡ false
unread_unheld node n from deal last how k is stands fresh u = u.1 (stands_as node n from.peer from.number last how k is stands ∙ fresh)

-- it makes a change
pub fresh_grows : {P : Type 0} {L : Type 0} (node : Node L) (n : Situation) (from : MachineSender) (deal : Deal) (last : LastDeal) (how : Standing) → Knows node n → last ≡ (row node.ledger.state from.peer).last → how ≡ standing last.number from.number → how ≡ Fresh
    → MakesNo n from (Deals deal) → P
fresh_grows node n from deal last how k is stands fresh none =
    let bad : Some (judged_at k.settings.settings n.history from.peer from.number deal) ≡ None =
    ap (λ (m : MachineReaction). m.grown) (sym (by_how node n from deal last how Fresh k is stands fresh)) ∙ none k.settings.settings k.settings.present in
    absurd (cc (bad))

-- ---- a deal that comes again

pub never_unread : {P : Type 0} {L : Type 0} (node : Node L) (n : Situation) (from : MachineSender) (deal : Deal) (last : LastDeal) (how : Standing) → Knows node n → last ≡ (row node.ledger.state from.peer).last → how ≡ standing last.number from.number → how ≡ Repeat
    → IsUnreadMessage n from (Deals deal) → P
never_unread node n from deal last how k is stands repeat u = absurd (u.0 (stands_as node n from.peer from.number last how k is stands ∙ repeat))

-- the number of the last deal, as the history has it
record IsLast (n : Situation) (p : ℕ) (last : LastDeal) : Type 0 where
  same : (row (state n.history) p).last ≡ last
  some : ((row (state n.history) p).last.number == 0) ≡ false

is_last : {L : Type 0} (node : Node L) (n : Situation) (p number : ℕ) (last : LastDeal) (how : Standing) → Knows node n → last ≡ (row node.ledger.state p).last → how ≡ standing last.number number → how ≡ Repeat → IsLast n p last
is_last node n p number last how k is stands repeat =
    let number_is = repeat_is_last (row (state n.history) p).last.number number (stands_as node n p number last how k is stands ∙ repeat) in
    record {
      same = ap (λ (s : State). (row s p).last) (sym k.ledger) ∙ sym is;
      some = ap (λ (m : ℕ). m == 0) (sym number_is.0) ∙ number_is.1;
    }

-- the change of the last deal is in the history
pub last_inside : {L : Type 0} (node : Node L) (n : Situation) (p number : ℕ) (last : LastDeal) (how : Standing) → Knows node n → last ≡ (row node.ledger.state p).last → how ≡ standing last.number number → how ≡ Repeat → last.change < node.ledger.state.changes
last_inside node n p number last how k is stands repeat =
    let it = is_last node n p number last how k is stands repeat in
    let l = last_there n.history p k.valid it.some in
    let inside = slice_get_within n.history (row (state n.history) p).last.change l.c l.there in
    omega (arith, inside, ap (λ (d : LastDeal). d.change) it.same, changes_counted n.history, ap (λ (s : State). s.changes) k.ledger)

pub again_hears : {L : Type 0} (r : Reaction) (node : Node L) (n : Situation) (from : Sender) (deal : Deal) (last : LastDeal) (how : Standing) → Knows node n → Heard node.peers.keys from (Deals deal) → last ≡ (row node.ledger.state from.peer).last
    → how ≡ standing last.number from.number → how ≡ Repeat → IsPlain r → IsToldAgain node n from last.change (letters_of r.out) → Hears r n (sender_in from) (Deals deal)
again_hears r node n from deal last how k heard is stands repeat plain told =
    let st = k.settings.settings in
    let it = is_last node n from.peer from.number last how k is stands repeat in
    let t = told (ap (λ (d : LastDeal). d.change) it.same) it.some in
    let at : slice_get n.history (row (state n.history) from.peer).last.change ≡ Some t.0 = ap (λ (d : LastDeal). slice_get n.history d.change) it.same ∙ t.1 in
    let answered : on_message st n (sender_in from) (Deals deal) ≡ answers_with (Some (reply st from.peer from.number t.0)) =
    by_how node n (sender_in from) deal last how Repeat k is stands repeat ∙ ap (λ (o : Option Change). answers_with (option_map (reply st from.peer from.number) o)) at in
    hears_by r node n (sender_in from) (Deals deal) k
    (subst (λ (m : MachineReaction). Reacts r n m) (sym answered) (record {
      change = plain.change;
      letters =
          t.2
          ∙ ap (λ (seed : List ℕ). (from.peer, datagram from.key node.peers.own.id from.peer from.number (reply_of seed t.0)) ∷ []) k.settings.seed
          ∙ one_spelled node n from.peer from.number from.key (reply_of st.seed t.0) k heard.keyed;
      note = ap note_in plain.note;
      dropped = plain.dropped;
    }))

pub again_hears_so : {L : Type 0} (r : Reaction) (node : Node L) (n : Situation) (from : Sender) (deal : Deal) (last : LastDeal) (how : Standing) → Knows node n → last ≡ (row node.ledger.state from.peer).last → how ≡ standing last.number from.number → how ≡ Repeat → IsPlain r
    → HearsSo r n (sender_in from) (Deals deal)
again_hears_so r node n from deal last how k is stands repeat plain =
    so_by r node n (sender_in from) (Deals deal) k
    (subst (λ (m : MachineReaction). IsLike r m) (sym (by_how node n (sender_in from) deal last how Repeat k is stands repeat)) (record { change = ap (λ (o : Option Change). is_some o) plain.change; dropped = plain.dropped }))

-- what was made again answers the last deal
pub told_again : {L : Type 0} (holds : L → List Entry → List ℕ → Type 0) (one : OneChangeEach) (node : Node L) (n : Situation) (v : View) (from : Sender) (change : ℕ) (o : Option Frame) (letters : List (ℕ × List ℕ)) → Knows node n → Stored holds node n.history v
    → ((es : List Entry) → Shows (holds node.log es) v → IfSome (slice_get es change) (λ e. IsAnswerOf o node.claims.seed e.head))
    → ((frame : Frame) → o ≡ Some frame → letters ≡ (from.peer, datagram from.key node.peers.own.id from.peer from.number frame) ∷ []) → IsToldAgain node n from change letters
told_again holds one node n v from change o letters k s answers tells = λ last some.
    let h = n.history in
    let p = from.peer in
    let there = subst (λ (m : ℕ). LastIs h (row (state h) p).last.number m) last (last_there h p k.valid some) in
    let a = answer_is one h s.less s.records node.claims.seed p o (row (state h) p).last.number change s.is_less s.decoded there (answers s.records s.shows) in
    (a.0, a.1, tells (reply_of node.claims.seed a.0) a.2)

-- ---- a reply

settled_long : (p deal : ℕ) (numbers : List ℕ) (body : Option (List ℕ)) → length (head_of (Settled (record { peer = p; deal = deal; slots = numbers; body = body }))) ≡ 17 + 4 * length numbers
settled_long p deal numbers body =
    let a = to_be_bytes w32 p in
    let b = to_be_bytes w64 deal in
    let d = to_be_bytes w32 (length numbers) ++ flat_map (to_be_bytes w32) numbers in
    omega (arith, slots_long numbers, length-append (a ++ b) d, length-append a b)

turned_long : (p deal why detail : ℕ) → length (head_of (Turned (record { peer = p; deal = deal; why = why; detail = detail }))) ≡ 22
turned_long p deal why detail =
    let a = to_be_bytes w32 p in
    let b = to_be_bytes w64 deal in
    omega (arith, length-append (a ++ b) (why ∷ to_be_bytes w64 detail), length-append a b)

short_reply : (p number : ℕ) (reply : Reply) → ReplyFits reply → IsRecordable (answers_deal p number reply)
short_reply p number (Accepts claims) f = record {
  there = refl;
  short = omega (arith, settled_long p number (slots_of claims) None, f.0.few, joined_long claims f.1, length-map claims (λ (c : SlotClaim). c.slot));
}
short_reply p number (Refuses why detail) f = record { there = refl; short = omega (arith, turned_long p number why detail) }

may_settle : (n : Situation) (p number : ℕ) (reply : Reply) (c : Change) → IsValid n.history → is_peer (state n.history) p ≡ true → is_u32 p ≡ true → is_u64 number ≡ true → ReplyFits reply → settle (state n.history) p number reply ≡ Some c
    → (state n.history).changes < 2 ^ 62 → MayMake (state n.history) c
may_settle n p number reply c v peer p_fits number_fits f makes few =
    let m = settle_may n.history p number reply c v.some peer p_fits number_fits f makes in
    let r = subst IsRecordable (settles_by (state n.history) p number reply c makes) (short_reply p number reply f) in
    record { grammar = m.grammar; may = m.may; few = few; there = r.there; short = r.short }

pub reply_hears : {L : Type 0} (r : Reaction) (node : Node L) (n : Situation) (from : MachineSender) (reply : Reply) → Knows node n → r.change ≡ settle node.ledger.state from.peer from.number reply → r.note ≡ note.Nothing → r.dropped ≡ None → r.out ≡ []
    → Hears r n from (Replies reply)
reply_hears r node n from reply k change noted dropped out =
    hears_by r node n from (Replies reply) k (by_change (settle (state n.history) from.peer from.number reply) (change ∙ ap (λ (s : State). settle s from.peer from.number reply) k.ledger))
  where
    by_change : (o : Option Change) → r.change ≡ o → Reacts r n (by_settled o)
    by_change None e = nothing_reacts r n quiet refl e noted dropped out
    by_change (Some c) e = record { change = e; letters = ap letters_of out ∙ none_spelled (state n.history).settings; note = ap note_in noted; dropped = dropped }

pub reply_may_come : {L : Type 0} (r : Reaction) (node : Node L) (from : Sender) (reply : Reply) → (n : Situation) × Knows node n → Heard node.peers.keys from (Replies reply) → node.ledger.state.changes < 2 ^ 62 → r.change ≡ settle node.ledger.state from.peer from.number reply
    → IfSome r.change (MayCome Knows node)
reply_may_come r node from reply known heard few change = by_change r.change change
  where
    by_change : (o : Option Change) → o ≡ settle node.ledger.state from.peer from.number reply → IfSome o (MayCome Knows node)
    by_change None e = tt
    by_change (Some c) e = (
      may_make known.0 known.1,
      λ n k.
          let m = settle_may n.history from.peer from.number reply c k.valid.some (peer_of node n from.peer from.key k heard.keyed) heard.fits.0 heard.fits.1 heard.fits.2 (settled_in n k) in
          may_follow n c (sym (ap deal_proposed (settles_by (state n.history) from.peer from.number reply c (settled_in n k))) ∙ answers_none from.peer from.number reply) (valid_snoc n.history c k.valid m.grammar m.may m.widths m.brings),
    )
      where
        settled_in : (n : Situation) → Knows node n → settle (state n.history) from.peer from.number reply ≡ Some c
        settled_in n k = ap (λ (s : State). settle s from.peer from.number reply) (sym k.ledger) ∙ sym e

        may_make : (n : Situation) → Knows node n → MayMake node.ledger.state c
        may_make n k =
            subst (λ (s : State). MayMake s c) (sym k.ledger)
            (may_settle n from.peer from.number reply c k.valid (peer_of node n from.peer from.key k heard.keyed) heard.fits.0 heard.fits.1 heard.fits.2 (settled_in n k) (subst (λ (s : State). s.changes < 2 ^ 62) k.ledger few))

-- ---- a Get

-- one of a chunk that the peer does not have here
pub get_passes : {L : Type 0} (r : Reaction) (node : Node L) (n : Situation) (from : MachineSender) (name : List ℕ) → Knows node n → has_chunk (state n.history) from.peer name ≡ false → r.change ≡ None → r.note ≡ note.Nothing → r.dropped ≡ None → r.out ≡ [] → Hears r n from (Gets name)
get_passes r node n from name k none change noted dropped out =
    hears_by r node n from (Gets name) k
    (nothing_reacts r n _ (ap (λ (b : Bool). if b then answers_with (option_map (here from name) (last_brought name n.history)) else quiet) none) change noted dropped out)

pub get_hears : {L : Type 0} (r : Reaction) (node : Node L) (n : Situation) (from : Sender) (name : List ℕ) → Knows node n → Heard node.peers.keys from (Gets name) → has_chunk (state n.history) from.peer name ≡ true → IsPlain r → IsGiven node n from name (letters_of r.out)
    → Hears r n (sender_in from) (Gets name)
get_hears r node n from name k heard has plain given =
    let g = given has in
    let answered : on_message k.settings.settings n (sender_in from) (Gets name) ≡ answers_with (Some (here (sender_in from) name g.0)) =
    ap (λ (b : Bool). if b then answers_with (option_map (here (sender_in from) name) (last_brought name n.history)) else quiet) has ∙ ap (λ (o : Option (List ℕ)). answers_with (option_map (here (sender_in from) name) o)) g.1 in
    hears_by r node n (sender_in from) (Gets name) k
    (subst (λ (m : MachineReaction). Reacts r n m) (sym answered) (record {
      change = plain.change;
      letters = g.2 ∙ one_spelled node n from.peer from.number from.key (Here name g.0) k heard.keyed;
      note = ap note_in plain.note;
      dropped = plain.dropped;
    }))

-- on every disk it makes no change
pub get_hears_so : {L : Type 0} (r : Reaction) (node : Node L) (n : Situation) (from : MachineSender) (name : List ℕ) → Knows node n → IsPlain r → HearsSo r n from (Gets name)
get_hears_so r node n from name k plain = so_by r node n from (Gets name) k (by_has (has_chunk (state n.history) from.peer name))
  where
    by_has : (b : Bool) → IsLike r (if b then answers_with (option_map (here from name) (last_brought name n.history)) else quiet)
    by_has true = record { change = ap (λ (o : Option Change). is_some o) plain.change; dropped = plain.dropped }
    by_has false = record { change = ap (λ (o : Option Change). is_some o) plain.change; dropped = plain.dropped }

-- ---- what is asked and told of names

pub ask_hears : {L : Type 0} (r : Reaction) (node : Node L) (n : Situation) (from : Sender) (salt : List ℕ) (names : List (List ℕ)) → Knows node n → Heard node.peers.keys from (Asks salt names) → IsPlain r
    → letters_of r.out ≡ (from.peer, datagram from.key node.peers.own.id from.peer from.number (Sample salt (bits_of (is_held node.ledger.state) names))) ∷ [] → Hears r n (sender_in from) (Asks salt names)
ask_hears r node n from salt names k heard plain letters =
    hears_by r node n (sender_in from) (Asks salt names) k (record {
      change = plain.change;
      letters =
          letters
          ∙ ap (λ (s : State). (from.peer, datagram from.key node.peers.own.id from.peer from.number (Sample salt (bits_of (is_held s) names))) ∷ []) k.ledger
          ∙ one_spelled node n from.peer from.number from.key (Sample salt (bits_of (is_held (state n.history)) names)) k heard.keyed;
      note = ap note_in plain.note;
      dropped = plain.dropped;
    })

pub told_hears : {L : Type 0} (r : Reaction) (node : Node L) (n : Situation) (from : MachineSender) (salt : List ℕ) (bits : ℕ) → Knows node n → note_in r.note ≡ (if answers (open_question node.ledger.state) salt bits then Sampled from.peer bits else Nothing) → IsAnswered r
    → Hears r n from (Tells salt bits)
told_hears r node n from salt bits k noted it =
    hears_by r node n from (Tells salt bits) k
    (by_answer (answers (open_question (state n.history)) salt bits) (noted ∙ ap (λ (s : State). if answers (open_question s) salt bits then Sampled from.peer bits else Nothing) k.ledger))
  where
    by_answer : (b : Bool) → note_in r.note ≡ (if b then Sampled from.peer bits else Nothing) → Reacts r n (if b then keeps from.peer bits else quiet)
    by_answer true is = record { change = it.change; letters = ap letters_of it.out ∙ none_spelled (state n.history).settings; note = is; dropped = it.dropped }
    by_answer false is = record { change = it.change; letters = ap letters_of it.out ∙ none_spelled (state n.history).settings; note = is; dropped = it.dropped }

-- it makes no change
pub none_may : (P : Change → Type 0) (o : Option Change) → o ≡ None → IfSome o P
none_may P None is = tt
none_may P (Some c) is = absurd (cc (is))
