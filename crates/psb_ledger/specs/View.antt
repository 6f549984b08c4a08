-- What contracts see of a ledger: the state, and the memory that was taken for a change.
use Rattle.std.specs.Prelude.{◌≡◌, ℕ, ◌+◌, ◌*◌, ◌^◌, ◌<◌, ◌≤◌, true, List, [], ◌∷◌, length, map, filter, Option, Some, None}
use Rattle.std.specs.List.{list_all}
use Rattle.psb_settings.specs.declared.settings.Settings.{Settings}
use Rattle.psb_model.specs.declared.entries.OwnEntry.{OwnEntry}
use Rattle.psb_model.specs.declared.snapshots.Snapshot.{Snapshot}
use Rattle.psb_model.specs.declared.entries.SnapMark.{SnapMark}
use Rattle.psb_model.specs.declared.change.Change.{Change}
use Rattle.psb_model.specs.declared.change.Change.TheVariants.{Begun, Kept, Snapped, TookFresh, TookSwap, LetGo, LetGoBack, Replaced, Settled, Turned, Passed, Failed, Declined, Discarded, Chose}
use Rattle.psb_model.specs.State.{Row, State, blank, row, is_peer, used}
use Rattle.psb_model.specs.Conditions.{settings_of_body, capacity, names_ascend}
use Rattle.psb_model.specs.Effects.{first_rows, chosen_after, is_whole_listed}
use Rattle.psb_model.specs.Words.{slots}
use Rattle.psb_model.specs.History.{is_lawful, state}
use Rattle.peer_lists.specs.Entries.{in_order}
use Rattle.psb_bytes.specs.declared.ids.Object.{Object}
use Rattle.psb_bytes.specs.declared.ids.Object.TheVariants.{Slot}
use Rattle.accounts.specs.Table.{account_in}
use Rattle.accounts.specs.Freeing.{have_out_room, free_room}
use Rattle.psb_model.specs.declared.deals.Deal.{Deal}
use Rattle.psb_model.specs.declared.deals.DealWhat.TheVariants.{Cancel, Forward}
use Rattle.peer_account.specs.View.{AccountView, named_row, ins_settled, outs_settled}
use Rattle.own_chunks.specs.OwnList.{own_key}

-- what the node keeps of its own: its chunks in byte order, the kept snapshots by number, the latest that
-- was made, and its buddies
pub record Mine : Type 0 where
  pub own : List OwnEntry
  pub kept : List Snapshot
  pub snapped : Option SnapMark
  pub chosen : List ℕ

abbrev pub mine_of : List OwnEntry → List Snapshot → Option SnapMark → List ℕ → Mine
mine_of own kept snapped chosen = record { own = own; kept = kept; snapped = snapped; chosen = chosen }

-- the ledger: its state, its accounts with their room, the settings that a Begun will bring, the buddies
-- that a Chose will bring, and how many more own chunks and snapshots it has room for
pub record LedgerView : Type 0 where
  pub state : State
  pub accounts : List AccountView
  pub next : Option Settings
  pub next_accounts : List AccountView
  pub next_chosen : List ℕ
  pub own_room : ℕ
  pub kept_room : ℕ

-- a state with these accounts, and what the node keeps of its own
abbrev pub plain_state : ℕ → Option Settings → List AccountView → ℕ → Mine → State
plain_state changes settings accounts issued mine = record { changes = changes; settings = settings; rows = map named_row accounts; issued = issued; own = mine.own; kept = mine.kept; snapped = mine.snapped; chosen = mine.chosen }

-- ROOM: what `make_room` took for a change

-- room for so many chunks, and runs of slots, in the two lists, if p is a peer
pub record HasListRoom (v : LedgerView) (p ins outs : ℕ) : Type 0 where
  pub in_room : is_peer v.state p ≡ true → ins ≤ (account_in v.accounts p).in_room
  pub out_room : is_peer v.state p ≡ true → outs ≤ (account_in v.accounts p).out_room

-- room for one more name that p turns down, if it is a peer
pub record HasTurnRoom (v : LedgerView) (p : ℕ) : Type 0 where
  pub barred : is_peer v.state p ≡ true → 1 ≤ (account_in v.accounts p).barred_room
  pub cancels : is_peer v.state p ≡ true → 1 ≤ (account_in v.accounts p).cancel_room

-- room for so many objects of p to be lost, if it is a peer
pub record HasDebtRoom (v : LedgerView) (p count : ℕ) : Type 0 where
  pub out_room : is_peer v.state p ≡ true → 2 * count ≤ (account_in v.accounts p).out_room
  pub debt_room : is_peer v.state p ≡ true → count ≤ (account_in v.accounts p).debt_room

-- room where these objects leave what the node answers for to p: for so many chunks and runs there, and in each
-- account for slots that come loose
pub record HasLeavingRoom (v : LedgerView) (p ins : ℕ) (objects : List Object) : Type 0 where
  pub lists : HasListRoom v p ins 0
  pub loose : have_out_room (free_room (row v.state p).ins objects) v.accounts ≡ true

-- room for the states that a deal with p sets in other accounts: where slots come loose, and where an entry is forwarded
abbrev pub HasStatesRoom : LedgerView → ℕ → Option Deal → Type 0
HasStatesRoom v p None = Unit {0}
HasStatesRoom v p (Some d) = elim d.what [
  | Cancel name theirs ↦ have_out_room (free_room (row v.state p).ins (slots theirs)) v.accounts ≡ true
  | Forward slot entry ↦ HasListRoom v entry.peer 2 0
  | _ ↦ Unit {0}
]

-- room for what comes when the pending deal of p is settled with so many slots, and for the states that it sets
pub record HasSettleRoom (v : LedgerView) (p count : ℕ) : Type 0 where
  pub lists : HasListRoom v p (count + ins_settled (row v.state p).pending) (outs_settled (row v.state p).pending)
  pub states : HasStatesRoom v p (row v.state p).pending

-- the settings of the text, if it has some, and an empty account for each peer
pub record HasBegunRoom (v : LedgerView) (body : Option (List ℕ)) : Type 0 where
  pub settings : v.next ≡ settings_of_body body
  pub accounts : map named_row v.next_accounts ≡ first_rows (settings_of_body body)

abbrev pub HasRoom : LedgerView → Change → Type 0
HasRoom v (Begun x) = HasBegunRoom v x.body
HasRoom v (Kept x) = 1 ≤ v.own_room
HasRoom v (Snapped x) = 1 ≤ v.kept_room
HasRoom v (TookFresh x) = HasListRoom v x.peer 1 1
HasRoom v (TookSwap x) = HasLeavingRoom v x.peer (1 + 2 * length x.slots) (slots x.slots)
HasRoom v (LetGo x) = HasListRoom v x.peer 0 (2 * length x.slots)
HasRoom v (LetGoBack x) = HasListRoom v x.peer (length x.slots) 0
HasRoom v (Replaced x) = HasLeavingRoom v x.peer 2 (Slot x.slot ∷ [])
HasRoom v (Settled x) = HasSettleRoom v x.peer (length x.slots)
HasRoom v (Turned x) = HasTurnRoom v x.peer
HasRoom v (Passed x) = HasListRoom v x.peer 0 (length (filter (is_whole_listed x.objects) (row v.state x.peer).debts))
HasRoom v (Failed x) = HasDebtRoom v x.peer (length x.objects)
HasRoom v (Declined x) = HasDebtRoom v x.peer (length x.places)
HasRoom v (Discarded x) = HasLeavingRoom v x.peer (2 * length x.objects) x.objects
HasRoom v (Chose x) = v.next_chosen ≡ chosen_after v.state (Chose x)
HasRoom v _ = Unit {0}

-- WHAT EACH LEDGER KEEPS

-- some lawful history gives the state
pub record IsReached (s : State) : Type 0 where
  pub history : List Change
  pub lawful : is_lawful history ≡ true
  pub gives : state history ≡ s

-- the sum over all peers is that of the state, which is one that a history gives
pub record IsSound (total : ℕ) (s : State) : Type 0 where
  pub used_is : total ≡ used s
  pub reached : IsReached s
  pub small : capacity s.settings < 2 ^ 32

-- the own chunks are in byte order, and the names of each kept snapshot ascend
pub record IsMine (mine : Mine) : Type 0 where
  pub own_ordered : in_order own_key mine.own ≡ true
  pub names_ordered : list_all (λ (k : Snapshot). names_ascend k.names) mine.kept ≡ true

-- the ledger is sound, what it keeps of its own is in order, and a stranger's account is blank
pub record IsLedger (total : ℕ) (stranger : Row) (mine : Mine) (s : State) : Type 0 where
  pub sound : IsSound total s
  pub own_part : IsMine mine
  pub blank_row : stranger ≡ blank
