-- What a change that is allowed, and has room, needs of the account of its peer.
use Rattle.std.proofs.Common.{◌≡◌, ℕ, ◌+◌, ◌<◌, ◌^◌, true, length, [], ◌∷◌, List, Option, Some, None, refl, sym, ap, ◌∙◌, subst}
use Rattle.std.specs.Prelude.{◌==◌, position}
use Rattle.psb_bytes.specs.declared.ids.Object.TheVariants.{Slot}
use Rattle.psb_model.specs.declared.change.Change.{Change}
use Rattle.psb_model.specs.declared.change.Change.TheVariants.{TookFresh, TookSwap, LetGo, LetGoBack, Replaced, Refused, Proposed, Settled, Turned, Asked, Passed, Failed, Declined, Discarded, Begun, Kept, Snapped, Forgot, Chose}
use Rattle.psb_model.specs.Words.{slots}
use Rattle.psb_model.specs.State.{Row, row}
use Rattle.psb_model.specs.Grammar.{in_grammar}
use Rattle.psb_model.specs.Conditions.{allowed, peer_of}
use Rattle.peer_account.specs.View.{AccountView, ins_settled}
use Rattle.peer_account.specs.States.{is_forwarded}
use Rattle.accounts.specs.Freeing.{row_at, have_out_room, free_room, StatesRoom}
use Rattle.psb_ledger.specs.declared.ledger.Ledger.TheInside.{Inside}
use Rattle.psb_ledger.specs.View.{LedgerView, HasRoom, IsLedger}
use Rattle.psb_ledger.specs.Moves.{MayTake, MaySwap, MayLetGo, MayPutBack, MayReplace, MayRefuse, MayPropose, MaySettle, MayTurn, MayAsk, MayPass, MayFail, MayDecline, MayDiscard}
use Rattle.psb_ledger.proofs.Sound.{mine, state_of, view_of}
use Rattle.psb_ledger.proofs.Rooms.{states_room}
use Rattle.psb_ledger.proofs.Peers.{at_place}
use Rattle.psb_ledger.proofs.Leaving.{row_at_place, peer_at_place, loose_at_place, one_forwarded, account_there}
use Rattle.psb_ledger.proofs.Taking.{can_take, refused_one}
use Rattle.psb_ledger.proofs.Swapping.{can_swap}
use Rattle.psb_ledger.proofs.LettingGo.{can_let_go, can_put_back}
use Rattle.psb_ledger.proofs.Replacing.{can_replace}
use Rattle.psb_ledger.proofs.Replies.{can_propose, can_settle, can_turn}
use Rattle.psb_ledger.proofs.Probing.{may_ask, can_pass, can_fail, can_decline}
use Rattle.psb_ledger.proofs.Discarding.{can_discard}

-- the account at place i is that of the peer, if there is one
abbrev pub IsPlace : List AccountView → Option ℕ → ℕ → Type 0
IsPlace vs None i = Unit {0}
IsPlace vs (Some p) i = Some i ≡ position (λ (v : AccountView). v.id == p) vs

-- what each kind of change needs of the account at place i, and of the room of all
abbrev pub Needs : LedgerView → Change → ℕ → Type 0
Needs v (TookFresh x) i = MayTake v x i
Needs v (TookSwap x) i = (have_out_room (free_room (row_at v.accounts i).ins (slots x.slots)) v.accounts ≡ true) × MaySwap v x i
Needs v (LetGo x) i = MayLetGo v x i
Needs v (LetGoBack x) i = MayPutBack v x i
Needs v (Replaced x) i = (is_forwarded (row_at v.accounts i).ins (Slot x.slot) ≡ true → have_out_room 2 v.accounts ≡ true) × MayReplace v x i
Needs v (Refused x) i = MayRefuse v x i
Needs v (Proposed x) i = MayPropose v x.peer (record { number = x.deal; what = x.what }) i
Needs v (Settled x) i = StatesRoom v.accounts x.peer (row_at v.accounts i).ins (row_at v.accounts i).pending × MaySettle v x i
Needs v (Turned x) i = MayTurn v x i
Needs v (Asked x) i = MayAsk v x i
Needs v (Passed x) i = MayPass v x i
Needs v (Failed x) i = MayFail v x i
Needs v (Declined x) i = MayDecline v x i
Needs v (Discarded x) i = (have_out_room (free_room (row_at v.accounts i).ins x.objects) v.accounts ≡ true) × MayDiscard v x i
Needs v _ i = Unit {0}

-- what every ledger keeps
abbrev pub Keeps : Inside → Type 0
Keeps l = IsLedger l.used l.stranger.row (mine l) (state_of l)

needs_at : (l : Inside) (c : Change) (i : ℕ) → Keeps l → l.issued < 2 ^ 32 → IsPlace l.accounts.items (peer_of c) i → in_grammar c ≡ true → HasRoom (view_of l) c → allowed (state_of l) c ≡ true → Needs (view_of l) c i
needs_at l (TookFresh x) i kept few place grammar room may = λ u r here same. can_take l x i u r (at_place l (view_of l) (TookFresh x) x.peer i r refl kept.sound place may grammar here) room same
needs_at l (TookSwap x) i kept few place grammar room may =
    let r = account_there l.accounts.items x.peer i place in
    (loose_at_place l x.peer i (slots x.slots) place room.loose, λ u vs q loose here same. can_swap l x i u r.0 q vs (at_place l (view_of l) (TookSwap x) x.peer i r.0 refl kept.sound place may grammar r.1) loose here room.lists same)
needs_at l (LetGo x) i kept few place grammar room may = λ u r here same. can_let_go l x i u r (at_place l (view_of l) (LetGo x) x.peer i r refl kept.sound place may grammar here) room same
needs_at l (LetGoBack x) i kept few place grammar room may = λ r here. can_put_back l x i r (at_place l (view_of l) (LetGoBack x) x.peer i r refl kept.sound place may grammar here) room
needs_at l (Replaced x) i kept few place grammar room may =
    let os = Slot x.slot ∷ [] in
    let r = account_there l.accounts.items x.peer i place in
    (one_forwarded l.accounts.items (row_at l.accounts.items i).ins (Slot x.slot) (loose_at_place l x.peer i os place room.loose), λ vs q loose here. can_replace l x i r.0 q vs (at_place l (view_of l) (Replaced x) x.peer i r.0 refl kept.sound place may grammar r.1) loose here room.lists)
needs_at l (Refused x) i kept few place grammar room may = λ r here w n sums a b. refused_one l x i n r w (at_place l (view_of l) (Refused x) x.peer i r refl kept.sound place may grammar here) sums a b
needs_at l (Proposed x) i kept few place grammar room may = λ r here. can_propose l x.peer (record { number = x.deal; what = x.what }) i r (at_place l (view_of l) (Proposed x) x.peer i r refl kept.sound place may grammar here) kept.own_part.own_ordered few
needs_at l (Settled x) i kept few place grammar room may =
    let r = account_there l.accounts.items x.peer i place in
    let states = states_room l x.peer (length x.slots + ins_settled (row (state_of l) x.peer).pending) (row (state_of l) x.peer).pending room.lists room.states (peer_at_place l x.peer i place) in (
      subst (λ (y : Row). StatesRoom l.accounts.items x.peer y.ins y.pending) (row_at_place l x.peer i place) states,
      λ u vs q set here same. can_settle l x i u r.0 q vs (at_place l (view_of l) (Settled x) x.peer i r.0 refl kept.sound place may grammar r.1) set here kept.own_part.own_ordered room.lists few same,
    )
needs_at l (Turned x) i kept few place grammar room may = λ r here. can_turn l x i r (at_place l (view_of l) (Turned x) x.peer i r refl kept.sound place may grammar here) kept.own_part.own_ordered room
needs_at l (Asked x) i kept few place grammar room may = λ r here. may_ask l x i r (at_place l (view_of l) (Asked x) x.peer i r refl kept.sound place may grammar here) kept.own_part.own_ordered
needs_at l (Passed x) i kept few place grammar room may = λ r here. can_pass l x i r (at_place l (view_of l) (Passed x) x.peer i r refl kept.sound place may grammar here) kept.own_part.own_ordered room
needs_at l (Failed x) i kept few place grammar room may = λ r here. can_fail l x i r (at_place l (view_of l) (Failed x) x.peer i r refl kept.sound place may grammar here) kept.own_part.own_ordered room
needs_at l (Declined x) i kept few place grammar room may = λ r here. can_decline l x i r (at_place l (view_of l) (Declined x) x.peer i r refl kept.sound place may grammar here) kept.own_part.own_ordered room
needs_at l (Discarded x) i kept few place grammar room may =
    let r = account_there l.accounts.items x.peer i place in
    (loose_at_place l x.peer i x.objects place room.loose, λ vs q loose here. can_discard l x i r.0 q vs (at_place l (view_of l) (Discarded x) x.peer i r.0 refl kept.sound place may grammar r.1) loose here kept.own_part.own_ordered room.lists)
needs_at l (Begun x) i kept few place grammar room may = tt
needs_at l (Kept x) i kept few place grammar room may = tt
needs_at l (Snapped x) i kept few place grammar room may = tt
needs_at l (Forgot x) i kept few place grammar room may = tt
needs_at l (Chose x) i kept few place grammar room may = tt

-- the same of what a ledger is seen as, for a change of the kind k
pub needs : (l : Inside) (v : LedgerView) (c k : Change) (i : ℕ) → view_of l ≡ v → Keeps l → l.issued < 2 ^ 32 → c ≡ k → IsPlace v.accounts (peer_of k) i → in_grammar c ≡ true → HasRoom v c → allowed v.state c ≡ true → Needs v k i
needs l v c k i view kept few is place grammar room may =
    subst (λ (w : LedgerView). Needs w k i) view
    (needs_at l k i kept few
    (subst (λ (w : LedgerView). IsPlace w.accounts (peer_of k) i) (sym view) place)
    (ap in_grammar (sym is) ∙ grammar)
    (subst (λ (w : LedgerView). HasRoom w k) (sym view) (subst (HasRoom v) is room))
    (ap (λ (w : LedgerView). allowed w.state k) view ∙ ap (allowed v.state) (sym is) ∙ may))
