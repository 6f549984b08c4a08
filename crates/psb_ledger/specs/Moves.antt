-- What the account of a peer's change needs, and what is left: for the functions that are handed its place.
use Rattle.std.specs.Prelude.{◌≡◌, ◌==◌, ℕ, ◌+◌, ◌<◌, ◌≤◌, ◌^◌, Bool, not, ◌&&◌, if◌then◌else◌, List, [], ◌∷◌, map, set, length, get_or, option_to_list, Option, Some}
use Rattle.psb_bytes.specs.declared.ids.Object.TheVariants.{Chunk, Slot}
use Rattle.psb_model.specs.declared.entries.InState.{InState}
use Rattle.psb_model.specs.declared.entries.InState.TheVariants as at
use Rattle.psb_model.specs.declared.entries.OwnEntry.{OwnEntry}
use Rattle.psb_model.specs.declared.deals.Deal.{Deal}
use Rattle.psb_model.specs.declared.change.Change.{Change}
use Rattle.psb_model.specs.declared.change.Change.TheVariants as change
use Rattle.psb_model.specs.declared.kinds.TookFresh.{TookFresh}
use Rattle.psb_model.specs.declared.kinds.TookSwap.{TookSwap}
use Rattle.psb_model.specs.declared.kinds.LetGo.{LetGo}
use Rattle.psb_model.specs.declared.kinds.LetGoBack.{LetGoBack}
use Rattle.psb_model.specs.declared.kinds.Replaced.{Replaced}
use Rattle.psb_model.specs.declared.kinds.Refused.{Refused}
use Rattle.psb_model.specs.declared.kinds.Settled.{Settled}
use Rattle.psb_model.specs.declared.kinds.Turned.{Turned}
use Rattle.psb_model.specs.declared.kinds.Asked.{Asked}
use Rattle.psb_model.specs.declared.kinds.Passed.{Passed}
use Rattle.psb_model.specs.declared.kinds.Failed.{Failed}
use Rattle.psb_model.specs.declared.kinds.Declined.{Declined}
use Rattle.psb_model.specs.declared.kinds.Discarded.{Discarded}
use Rattle.psb_model.specs.Words.{units, has, slots}
use Rattle.psb_model.specs.State.{State, row, out_key, own_marked, tied_out, held_units, used}
use Rattle.psb_model.specs.Conditions.{objects_at}
use Rattle.psb_model.specs.Effects.{after, relabel_in, took_deal, was_turned, deal_name, pending_name, given_up}
use Rattle.peer_account.specs.View.{AccountView, named_row, fresh_row, swap_row, let_go_row, put_back_row, settled_row, asked_row, passed_row, failed_row, declined_row, discarded_row}
use Rattle.peer_account.specs.OwnDeals.{placed_name, coming_name, drawn}
use Rattle.peer_account.specs.Settling.{Settles}
use Rattle.peer_account.specs.Probing.{Regains, Loses}
use Rattle.peer_account.specs.Discarding.{Discards}
use Rattle.peer_account.specs.Taking.{TakesFresh, TakesSwap, LetsGo, PutsBack}
use Rattle.accounts.specs.Freeing.{row_at, Freed, StatesSet}
use Rattle.own_chunks.specs.OwnList.{own_units, released}
use Rattle.psb_ledger.specs.View.{LedgerView, plain_state, IsSound}

-- the change that proposes a deal
abbrev pub proposing : ℕ → Deal → Change
proposing p d = change.Proposed (record { peer = p; deal = d.number; what = d.what })

-- the chunk stands on p, is marked, and no deal ties it
abbrev pub may_take_back : State → ℕ → List ℕ → Bool
may_take_back s p name = has out_key (row s p).outs (Chunk name) && own_marked s.own name && not (tied_out s p (Chunk name))

-- WHAT IS LEFT

-- of these accounts the one at place i is w, so many claims were drawn, and these are the own chunks
abbrev pub moved : LedgerView → List AccountView → ℕ → ℕ → AccountView → List OwnEntry → State
moved v vs i issued w own = plain_state (v.state.changes + 1) v.state.settings (set vs i w) issued (record { own = own; kept = v.state.kept; snapped = v.state.snapped; chosen = v.state.chosen })

-- that is the state after the change, in which so much is used
pub record MakesOwn (v : LedgerView) (vs : List AccountView) (c : Change) (i issued total : ℕ) (w : AccountView) (own : List OwnEntry) : Type 0 where
  pub after_is : moved v vs i issued w own ≡ after v.state c
  pub sound : IsSound total (moved v vs i issued w own)

-- the own chunks are those of before
abbrev pub Makes : LedgerView → List AccountView → Change → ℕ → ℕ → ℕ → AccountView → Type 0
Makes v vs c i issued total w = MakesOwn v vs c i issued total w v.state.own

-- the account at place i is r
abbrev pub StandsIn : List AccountView → ℕ → AccountView → Type 0
StandsIn vs i r = r ≡ get_or vs i r

abbrev pub StandsAt : LedgerView → ℕ → AccountView → Type 0
StandsAt v i r = StandsIn v.accounts i r

-- where the bytes of a claim are that was replaced
abbrev pub replaced_state : Replaced → InState
replaced_state x = if x.place == 0 then at.Direct else at.Home x.home

-- WHAT EACH KIND NEEDS of the account r at place i

pub record CanTake (v : LedgerView) (x : TookFresh) (i u : ℕ) (r : AccountView) : Type 0 where
  pub needs : TakesFresh r x u
  pub total_small : used v.state + u < 2 ^ 32
  pub issued_small : v.state.issued + u < 2 ^ 32
  pub made : (w : AccountView) (n : ℕ) → n ≡ used v.state + u → w.id ≡ r.id → w.row ≡ fresh_row x.name u x.first x.deal v.state.changes r.row → Makes v v.accounts (change.TookFresh x) i (v.state.issued + u) n w

abbrev pub MayTake : LedgerView → TookFresh → ℕ → Type 0
MayTake v x i = (u : ℕ) (r : AccountView) → StandsAt v i r → u ≡ units x.len → CanTake v x i u r

-- in the accounts vs, in which what the slots carry has come loose
pub record CanSwap (v : LedgerView) (vs : List AccountView) (x : TookSwap) (i u : ℕ) (r : AccountView) : Type 0 where
  pub needs : TakesSwap r x u v.state.changes
  pub made : (w : AccountView) (n : ℕ) → n ≡ used v.state → w.id ≡ r.id → w.row ≡ swap_row x.name u x.slots x.deal v.state.changes r.row → Makes v vs (change.TookSwap x) i v.state.issued n w

abbrev pub MaySwap : LedgerView → TookSwap → ℕ → Type 0
MaySwap v x i = (u : ℕ) (vs : List AccountView) (r : AccountView) → Freed v.accounts i (slots x.slots) vs → StandsIn vs i r → u ≡ units x.len → CanSwap v vs x i u r

pub record CanLetGo (v : LedgerView) (x : LetGo) (i u : ℕ) (r : AccountView) : Type 0 where
  pub needs : LetsGo r x u v.state.changes
  pub enough : u ≤ used v.state
  pub made : (w : AccountView) (n : ℕ) → n + u ≡ used v.state → w.id ≡ r.id → w.row ≡ let_go_row x.name x.slots x.deal v.state.changes r.row → Makes v v.accounts (change.LetGo x) i v.state.issued n w

abbrev pub MayLetGo : LedgerView → LetGo → ℕ → Type 0
MayLetGo v x i = (u : ℕ) (r : AccountView) → StandsAt v i r → u ≡ length x.slots → CanLetGo v x i u r

pub record CanPutBack (v : LedgerView) (x : LetGoBack) (i : ℕ) (r : AccountView) : Type 0 where
  pub needs : PutsBack r x v.state.changes
  pub made : (w : AccountView) (n : ℕ) → n ≡ used v.state → w.id ≡ r.id → w.row ≡ put_back_row x.name x.slots x.deal v.state.changes r.row → Makes v v.accounts (change.LetGoBack x) i v.state.issued n w

abbrev pub MayPutBack : LedgerView → LetGoBack → ℕ → Type 0
MayPutBack v x i = (r : AccountView) → StandsAt v i r → CanPutBack v x i r

-- in the accounts vs, in which what the slot carries has come loose
pub record CanReplace (v : LedgerView) (vs : List AccountView) (x : Replaced) (i : ℕ) (r : AccountView) : Type 0 where
  pub in_room : 2 ≤ r.in_room
  pub made : (w : AccountView) (n : ℕ) → n ≡ used v.state → w.id ≡ r.id → w.row ≡ took_deal x.deal v.state.changes (relabel_in (Slot x.slot) (replaced_state x) r.row) → Makes v vs (change.Replaced x) i v.state.issued n w

abbrev pub MayReplace : LedgerView → Replaced → ℕ → Type 0
MayReplace v x i = (vs : List AccountView) (r : AccountView) → Freed v.accounts i (Slot x.slot ∷ []) vs → StandsIn vs i r → CanReplace v vs x i r

abbrev pub MayRefuse : LedgerView → Refused → ℕ → Type 0
MayRefuse v x i = (r : AccountView) → StandsAt v i r → (w : AccountView) (n : ℕ) → n ≡ used v.state → w.id ≡ r.id → w.row ≡ took_deal x.deal v.state.changes r.row → Makes v v.accounts (change.Refused x) i v.state.issued n w

pub record CanPropose (v : LedgerView) (p : ℕ) (d : Deal) (i : ℕ) (r : AccountView) : Type 0 where
  pub total_small : used v.state + own_units v.state.own (coming_name (Some d)) < 2 ^ 32
  pub issued_small : v.state.issued + drawn r.row d.what < 2 ^ 32
  pub made : (w : AccountView) (n m : ℕ) → n ≡ used v.state + own_units v.state.own (coming_name (Some d)) → m ≡ v.state.issued + drawn r.row d.what → w.id ≡ r.id → w.row ≡ record r.row { pending = Some d; mine = d.number } → Makes v v.accounts (proposing p d) i m n w

abbrev pub MayPropose : LedgerView → ℕ → Deal → ℕ → Type 0
MayPropose v p d i = (r : AccountView) → StandsAt v i r → CanPropose v p d i r

-- what is used before and after, and the chunk that may leave, are those of the pending deal, in the accounts vs, in
-- which it has set its states
pub record CanSettle (v : LedgerView) (vs : List AccountView) (x : Settled) (i u : ℕ) (r : AccountView) : Type 0 where
  pub needs : Settles r u x.slots r.row.pending
  pub before : held_units r.row + own_units v.state.own (coming_name r.row.pending) ≤ used v.state
  pub small : used v.state < 2 ^ 32
  pub made : (w : AccountView) (o : Option (List ℕ)) (n : ℕ) (own : List OwnEntry) → option_to_list o ≡ pending_name deal_name r.row.pending → n + (held_units r.row + own_units v.state.own (coming_name r.row.pending)) ≡ used v.state + held_units w.row → own ≡ released (map named_row (set vs i w)) o v.state.own → w.id ≡ r.id → w.row ≡ settled_row u x.slots r.row → MakesOwn v vs (change.Settled x) i v.state.issued n w own

abbrev pub MaySettle : LedgerView → Settled → ℕ → Type 0
MaySettle v x i = (u : ℕ) (vs : List AccountView) (r : AccountView) → StatesSet v.accounts x.peer i (row_at v.accounts i).pending vs → StandsIn vs i r → u ≡ own_units v.state.own (placed_name r.row.pending) → CanSettle v vs x i u r

pub record CanTurn (v : LedgerView) (x : Turned) (i : ℕ) (r : AccountView) : Type 0 where
  pub barred : 1 ≤ r.barred_room
  pub cancels : 1 ≤ r.cancel_room
  pub enough : own_units v.state.own (coming_name r.row.pending) ≤ used v.state
  pub made : (w : AccountView) (o : Option (List ℕ)) (n : ℕ) (own : List OwnEntry) → option_to_list o ≡ pending_name deal_name r.row.pending → n + own_units v.state.own (coming_name r.row.pending) ≡ used v.state → own ≡ released (map named_row (set v.accounts i w)) o v.state.own → w.id ≡ r.id → w.row ≡ was_turned v.state.changes x.why r.row → MakesOwn v v.accounts (change.Turned x) i v.state.issued n w own

abbrev pub MayTurn : LedgerView → Turned → ℕ → Type 0
MayTurn v x i = (r : AccountView) → StandsAt v i r → CanTurn v x i r

-- a probe and its outcomes: what is answered for stays
abbrev pub MayAsk : LedgerView → Asked → ℕ → Type 0
MayAsk v x i = (r : AccountView) → StandsAt v i r → (w : AccountView) (n : ℕ) → n ≡ used v.state → w.id ≡ r.id → w.row ≡ asked_row v.state.changes x.objects r.row → Makes v v.accounts (change.Asked x) i v.state.issued n w

pub record CanPass (v : LedgerView) (x : Passed) (i : ℕ) (r : AccountView) : Type 0 where
  pub needs : Regains r x.objects
  pub made : (w : AccountView) (n : ℕ) → n ≡ used v.state → w.id ≡ r.id → w.row ≡ passed_row x.asked x.objects r.row → Makes v v.accounts (change.Passed x) i v.state.issued n w

abbrev pub MayPass : LedgerView → Passed → ℕ → Type 0
MayPass v x i = (r : AccountView) → StandsAt v i r → CanPass v x i r

pub record CanFail (v : LedgerView) (x : Failed) (i : ℕ) (r : AccountView) : Type 0 where
  pub needs : Loses r x.objects
  pub made : (w : AccountView) (n : ℕ) → n ≡ used v.state → w.id ≡ r.id → w.row ≡ failed_row v.state.changes x.asked x.objects r.row → Makes v v.accounts (change.Failed x) i v.state.issued n w

abbrev pub MayFail : LedgerView → Failed → ℕ → Type 0
MayFail v x i = (r : AccountView) → StandsAt v i r → CanFail v x i r

pub record CanDecline (v : LedgerView) (x : Declined) (i : ℕ) (r : AccountView) : Type 0 where
  pub needs : Loses r (objects_at r.row x.asked x.places)
  pub made : (w : AccountView) (n : ℕ) → n ≡ used v.state → w.id ≡ r.id → w.row ≡ declined_row v.state.changes x.asked x.places r.row → Makes v v.accounts (change.Declined x) i v.state.issued n w

abbrev pub MayDecline : LedgerView → Declined → ℕ → Type 0
MayDecline v x i = (r : AccountView) → StandsAt v i r → CanDecline v x i r

-- a discard, in the accounts vs, in which what the objects carry has come loose: what is used shrinks by what is answered for, and chunks that only rows of debt named may leave, unless
-- there are as many rows as before
pub record CanDiscard (v : LedgerView) (vs : List AccountView) (x : Discarded) (i : ℕ) (r : AccountView) : Type 0 where
  pub needs : Discards r x.objects
  pub before : held_units r.row ≤ used v.state
  pub stays : (w : AccountView) → w.id ≡ r.id → w.row ≡ discarded_row x.objects r.row → length r.row.debts ≤ length w.row.debts → given_up (map named_row (set vs i w)) v.state.own ≡ v.state.own
  pub made : (w : AccountView) (n : ℕ) (own : List OwnEntry) → n + held_units r.row ≡ used v.state + held_units w.row → own ≡ given_up (map named_row (set vs i w)) v.state.own → w.id ≡ r.id → w.row ≡ discarded_row x.objects r.row → MakesOwn v vs (change.Discarded x) i v.state.issued n w own

abbrev pub MayDiscard : LedgerView → Discarded → ℕ → Type 0
MayDiscard v x i = (vs : List AccountView) (r : AccountView) → Freed v.accounts i x.objects vs → StandsIn vs i r → CanDiscard v vs x i r
