-- What a change does to the state.
use Rattle.std.specs.Prelude.{ℕ, zero, suc, ◌+◌, min, nat_le, Bool, true, false, not, ◌||◌, ◌&&◌, ◌==◌, if◌then◌else◌, List, [], ◌∷◌, ◌++◌, map, filter, take, sum_by, Option, Some, None}
use Rattle.std.specs.List.{list_any}
use Rattle.std.specs.Ordering.{nat_cmp, is_lt}
use Rattle.std.specs.Cmp.Lexicographic.{slice_cmp}
use Rattle.psb_bytes.specs.declared.ids.Object.{Object}
use Rattle.psb_bytes.specs.declared.ids.Object.TheVariants.{Chunk, Slot}
use Rattle.psb_model.specs.declared.entries.InEntry.{InEntry}
use Rattle.psb_model.specs.declared.entries.OutEntry.{OutEntry}
use Rattle.psb_model.specs.declared.entries.DebtEntry.{DebtEntry}
use Rattle.psb_model.specs.declared.entries.OwnEntry.{OwnEntry}
use Rattle.psb_model.specs.declared.snapshots.Snapshot.{Snapshot}
use Rattle.psb_model.specs.declared.kinds.Snapped.{Snapped as MadeSnapshot}
use Rattle.psb_model.specs.declared.entries.SnapMark.{SnapMark}
use Rattle.psb_settings.specs.declared.settings.Settings.{Settings}
use Rattle.psb_settings.specs.declared.settings.PeerRow.{PeerRow}
use Rattle.psb_model.specs.declared.entries.Candidate.{Candidate}
use Rattle.psb_model.specs.declared.deals.Deal.{Deal}
use Rattle.psb_model.specs.declared.deals.DealWhat.{DealWhat}
use Rattle.psb_model.specs.declared.deals.DealWhat.TheVariants.{Fresh, Swap, Cancel, PutBack, Forward, Return}
use Rattle.psb_model.specs.declared.entries.OutState.{OutState}
use Rattle.psb_model.specs.declared.entries.OutState.TheVariants as on
use Rattle.psb_model.specs.declared.entries.InState.{InState}
use Rattle.psb_model.specs.declared.entries.InState.TheVariants as at
use Rattle.psb_model.specs.declared.change.Change.{Change}
use Rattle.psb_model.specs.declared.change.Change.TheVariants.{Begun, Kept, Snapped, Forgot, TookFresh, TookSwap, LetGo, LetGoBack, Replaced, Refused, Proposed, Settled, Turned, Asked, Passed, Failed, Declined, Discarded, Chose}
use Rattle.psb_model.specs.Words.{units, object_eq, listed, name_listed, slots, has, units_at, only}
use Rattle.psb_model.specs.State.{Row, State, blank, row, at_row, in_key, in_size, out_key, out_size, debt_key, own_len}
use Rattle.psb_model.specs.Conditions.{peer_of, settings_of_body, buddies, is_whole, declined_objects}
use Rattle.psb_model.specs.Move.{Move, still, after_move}

-- First what the three lists of the peer gain and lose.

-- a chunk of these units, in in(p) and in out(p)
abbrev pub chunk_in : List ℕ → ℕ → InEntry
chunk_in name u = record { object = Chunk name; units = u; state = at.Body }

abbrev pub chunk_out : List ℕ → ℕ → OutEntry
chunk_out name u = record { object = Chunk name; units = u; state = on.Body }

-- slots with their bytes here
abbrev pub direct_slot : ℕ → InEntry
direct_slot n = record { object = Slot n; units = 1; state = at.Direct }

abbrev pub direct_slots : List ℕ → List InEntry
direct_slots = map direct_slot

-- a slot with the own claim of its number
abbrev pub own_slot : ℕ → OutEntry
own_slot n = record { object = Slot n; units = 1; state = on.Own }

-- u own slots from first on
abbrev pub own_slots : ℕ → ℕ → List OutEntry
own_slots first zero = []
own_slots first (suc u) = own_slot first ∷ own_slots (first + 1) u

-- the row that change n books for the entry
abbrev pub debt_row : ℕ → Bool → OutEntry → DebtEntry
debt_row n declined e = record { object = e.object; units = e.units; left = e.units; cause = n; declined = declined; state = e.state }

-- the rows that change n books: the listed objects in out(p), in the listed order
abbrev pub lost_rows : ℕ → Bool → List Object → List OutEntry → List DebtEntry
lost_rows n declined [] outs = []
lost_rows n declined (o ∷ os) outs = map (debt_row n declined) (only out_key (o ∷ []) outs) ++ lost_rows n declined os outs

-- the entry of out(p) that a row of debt was
abbrev pub out_again : DebtEntry → OutEntry
out_again d = record { object = d.object; units = d.units; state = d.state }

-- the row is listed, and nothing of it was used up
abbrev pub is_whole_listed : List Object → DebtEntry → Bool
is_whole_listed objects d = listed objects d.object && is_whole d

-- the listed objects of out(p) become debt
abbrev pub loses : ℕ → Bool → List Object → Row → Move
loses n declined objects r = record still { out_gone = objects; booked = lost_rows n declined objects r.outs }

-- what the pending deal moves when it is settled
abbrev pub settle_move : State → Row → Option Deal → List ℕ → Move
settle_move s r None numbers = still
settle_move s r (Some d) numbers = elim d.what [
  | Fresh name ↦ record still { out_new = chunk_out name (units (own_len s.own name)) ∷ []; in_new = direct_slots numbers }
  | Swap name mine ↦ record still { out_gone = slots mine; out_new = chunk_out name (units (own_len s.own name)) ∷ [] }
  | Cancel name theirs ↦ record still { out_gone = Chunk name ∷ []; in_gone = slots theirs }
  | PutBack name first ↦ record still { out_gone = Chunk name ∷ []; out_new = own_slots first (units_at out_key out_size r.outs (Chunk name)) }
  | _ ↦ still
]

-- the rows that are listed and whole stand in out(p) again
abbrev pub regains : List Object → Row → Move
regains objects r = record still { returned = is_whole_listed objects; out_new = map out_again (filter (is_whole_listed objects) r.debts) }

-- what each kind moves
abbrev pub move_of : State → Change → Move
move_of s (TookFresh x) = record still { in_new = chunk_in x.name (units x.len) ∷ []; out_new = own_slots x.first (units x.len) }
move_of s (TookSwap x) = record still { in_gone = slots x.slots; in_new = chunk_in x.name (units x.len) ∷ [] }
move_of s (LetGo x) = record still { in_gone = Chunk x.name ∷ []; out_gone = slots x.slots }
move_of s (LetGoBack x) = record still { in_gone = Chunk x.name ∷ []; in_new = direct_slots x.slots }
move_of s (Settled x) = settle_move s (row s x.peer) (row s x.peer).pending x.slots
move_of s (Passed x) = regains x.objects (row s x.peer)
move_of s (Failed x) = loses s.changes false x.objects (row s x.peer)
move_of s (Declined x) = loses s.changes true (declined_objects s x.peer x.asked x.places) (row s x.peer)
move_of s (Discarded x) = record still { in_gone = x.objects; used_up = sum_by in_size (only in_key x.objects (row s x.peer).ins) }
move_of s _ = still

-- Then the states of entries that change: units and objects stay.

-- the state of the entry at the object, in in(p), out(p) and debt(p)
abbrev pub relabel_in : Object → InState → Row → Row
relabel_in o st r = record r { ins = map (λ (e : InEntry). if object_eq e.object o then record e { state = st } else e) r.ins }

abbrev pub relabel_out : Object → OutState → Row → Row
relabel_out o st r = record r { outs = map (λ (e : OutEntry). if object_eq e.object o then record e { state = st } else e) r.outs }

abbrev pub relabel_debt : Object → OutState → Row → Row
relabel_debt o st r = record r { debts = map (λ (d : DebtEntry). if object_eq d.object o then record d { state = st } else d) r.debts }

-- a forwarded entry and the slot that carries it name each other; a returned slot is an own one again
abbrev pub settle_states : ℕ → Option Deal → List (ℕ × Row) → List (ℕ × Row)
settle_states p None rows = rows
settle_states p (Some d) rows = elim d.what [
  | Forward slot entry ↦ at_row entry.peer (relabel_in (Slot entry.slot) (at.Forwarded (record { peer = p; slot = slot }))) (at_row p (relabel_out (Slot slot) (on.Carries entry)) rows)
  | Return slot ↦ at_row p (relabel_out (Slot slot) on.Own) rows
  | _ ↦ rows
]

-- what each kind relabels
abbrev pub states_of : State → Change → List (ℕ × Row) → List (ℕ × Row)
states_of s (Replaced x) rows = at_row x.peer (relabel_in (Slot x.slot) (if x.place == 0 then at.Direct else at.Home x.home)) rows
states_of s (Settled x) rows = settle_states x.peer (row s x.peer).pending rows
states_of s _ rows = rows

-- Where a forwarded entry leaves in(p) or gets other bytes, the slot that carries it becomes Loose.

-- the entries that leave or get other bytes
abbrev pub disturbed : State → Change → List InEntry
disturbed s (Replaced x) = only in_key (Slot x.slot ∷ []) (row s x.peer).ins
disturbed s c = elim (peer_of c) [ None ↦ [] | Some p ↦ only in_key (move_of s c).in_gone (row s p).ins ]

-- the slot of this number is loose, in out(p) and in debt(p)
abbrev pub loose_at : ℕ → Row → Row
loose_at n r = relabel_debt (Slot n) on.Loose (relabel_out (Slot n) on.Loose r)

-- the slots of the forwarded ones are loose
abbrev pub loosen : List InEntry → List (ℕ × Row) → List (ℕ × Row)
loosen [] rows = rows
loosen (e ∷ es) rows = loosen es (elim e.state [ at.Forwarded seat ↦ at_row seat.peer (loose_at seat.slot) rows | _ ↦ rows ])

-- Last, what else is noted of the peer.

-- the deal was the last of the peer, and change n answered it
abbrev pub took_deal : ℕ → ℕ → Row → Row
took_deal deal n r = record r { last = record { number = deal; change = n } }

-- one more failure in a row; from the third on a discard is due
abbrev pub failed_again : Row → Row
failed_again r = let fails = min (r.fails + 1) 4294967295 in record r { fails = fails; due = r.due || nat_le 3 fails; asked = None }

-- a probe has this outcome; one of a relay (number 0) leaves the node's own as it is
abbrev pub was_passed : ℕ → Row → Row
was_passed asked r = if asked == 0 then r else record r { fails = 0; asked = None }

abbrev pub was_failed : ℕ → Row → Row
was_failed asked r = let r' = failed_again r in record r' { asked = if asked == 0 then r.asked else None }

-- the chunk that an own deal names, and that a Cancel names
abbrev pub deal_name : DealWhat → List (List ℕ)
deal_name (Fresh name) = name ∷ []
deal_name (Swap name numbers) = name ∷ []
deal_name (Cancel name numbers) = name ∷ []
deal_name (PutBack name first) = name ∷ []
deal_name (Forward slot entry) = []
deal_name (Return slot) = []

abbrev pub cancel_name : DealWhat → List (List ℕ)
cancel_name (Cancel name numbers) = name ∷ []
cancel_name _ = []

-- that of the pending deal
abbrev pub pending_name : (DealWhat → List (List ℕ)) → Option Deal → List (List ℕ)
pending_name f None = []
pending_name f (Some d) = f d.what

-- the pending deal was turned down; for a bad name, a chunk already there and a clash for good
abbrev pub was_turned : ℕ → ℕ → Row → Row
was_turned change why r = record r {
  pending = None;
  barred = if nat_le 2 why && nat_le why 4 then r.barred ++ map (λ name. (name, change)) (pending_name deal_name r.pending) else r.barred;
  turned_cancels = r.turned_cancels ++ pending_name cancel_name r.pending;
}

-- what each kind notes
abbrev pub note_of : State → Change → Row → Row
note_of s (TookFresh x) r = took_deal x.deal s.changes r
note_of s (TookSwap x) r = took_deal x.deal s.changes r
note_of s (LetGo x) r = took_deal x.deal s.changes r
note_of s (LetGoBack x) r = took_deal x.deal s.changes r
note_of s (Replaced x) r = took_deal x.deal s.changes r
note_of s (Refused x) r = took_deal x.deal s.changes r
note_of s (Proposed x) r = record r { pending = Some (record { number = x.deal; what = x.what }); mine = x.deal }
note_of s (Settled x) r = record r { pending = None }
note_of s (Turned x) r = was_turned s.changes x.why r
note_of s (Asked x) r = record r { asked = Some (s.changes, x.objects) }
note_of s (Passed x) r = was_passed x.asked r
note_of s (Failed x) r = was_failed x.asked r
note_of s (Declined x) r = failed_again r
note_of s (Discarded x) r = record r { due = false }
note_of s _ r = r

-- the rows after a change of a peer
abbrev pub rows_after : State → Change → ℕ → List (ℕ × Row)
rows_after s c p = at_row p (note_of s c) (loosen (disturbed s c) (states_of s c (at_row p (after_move (move_of s c)) s.rows)))

-- And what is noted beside the rows.

-- the claim numbers that were drawn, once a deal is proposed
abbrev pub issued_with : ℕ → Row → DealWhat → ℕ
issued_with issued r (PutBack name first) = issued + units_at out_key out_size r.outs (Chunk name)
issued_with issued r _ = issued

-- and after any change
abbrev pub issued_after : State → Change → ℕ
issued_after s (TookFresh x) = s.issued + units x.len
issued_after s (Proposed x) = issued_with s.issued (row s x.peer) x.what
issued_after s _ = s.issued

-- own with one more name, in byte order
abbrev pub own_with : OwnEntry → List OwnEntry → List OwnEntry
own_with e [] = e ∷ []
own_with e (x ∷ xs) = if is_lt (slice_cmp nat_cmp e.name x.name) then e ∷ x ∷ xs else x ∷ own_with e xs

-- each own chunk marked where the test says so
abbrev pub set_marks : (OwnEntry → Bool) → List OwnEntry → List OwnEntry
set_marks mark = map (λ (e : OwnEntry). record e { marked = mark e })

-- the kept snapshots without one, and whether one lists the name
abbrev pub kept_without : ℕ → List Snapshot → List Snapshot
kept_without number = filter (λ (k : Snapshot). not (k.number == number))

abbrev pub kept_lists : List Snapshot → List ℕ → Bool
kept_lists kept n = list_any (λ (k : Snapshot). name_listed k.names n) kept

-- a snapshot lifts the marks of its names; forgetting one marks what no snapshot lists any more
abbrev pub own_after : State → Change → List OwnEntry
own_after s (Kept x) = own_with (record { name = x.name; len = x.len; marked = false }) s.own
own_after s (Snapped x) = set_marks (λ e. e.marked && not (name_listed x.names e.name)) s.own
own_after s (Forgot x) = set_marks (λ e. e.marked || not (kept_lists (kept_without x.number s.kept) e.name)) s.own
own_after s _ = s.own

-- the snapshot, as it is kept
abbrev pub kept_of : MadeSnapshot → Snapshot
kept_of x = record { number = x.number; ticket = x.ticket; files = x.files; folders = x.folders; bytes = x.bytes; left = x.left; names = x.names }

abbrev pub kept_after : State → Change → List Snapshot
kept_after s (Snapped x) = s.kept ++ kept_of x ∷ []
kept_after s (Forgot x) = kept_without x.number s.kept
kept_after s _ = s.kept

abbrev pub snapped_after : State → Change → Option SnapMark
snapped_after s (Snapped x) = Some (record { number = x.number; change = s.changes })
snapped_after s _ = s.snapped

abbrev pub chosen_after : State → Change → List ℕ
chosen_after s (Chose y) = take (buddies s.settings) (map (λ (x : Candidate). x.peer) y.candidates)
chosen_after s _ = s.chosen

abbrev pub settings_after : State → Change → Option Settings
settings_after s (Begun x) = settings_of_body x.body
settings_after s _ = s.settings

-- a blank row for each peer of the settings
abbrev pub blank_rows : List PeerRow → List (ℕ × Row)
blank_rows [] = []
blank_rows (x ∷ xs) = (x.id, blank) ∷ blank_rows xs

abbrev pub first_rows : Option Settings → List (ℕ × Row)
first_rows None = []
first_rows (Some x) = blank_rows x.peers

-- the rows after any change
abbrev pub all_rows_after : State → Change → List (ℕ × Row)
all_rows_after s (Begun x) = first_rows (settings_of_body x.body)
all_rows_after s c = elim (peer_of c) [ None ↦ s.rows | Some p ↦ rows_after s c p ]

-- Giving up: a marked name leaves own as soon as no out list, debt or pending deal names it.
abbrev pub is_named : List (ℕ × Row) → List ℕ → Bool
is_named rows n = list_any (λ (x : ℕ × Row). has out_key x.1.outs (Chunk n) || has debt_key x.1.debts (Chunk n) || name_listed (pending_name deal_name x.1.pending) n) rows

abbrev pub given_up : List (ℕ × Row) → List OwnEntry → List OwnEntry
given_up rows = filter (λ (e : OwnEntry). not e.marked || is_named rows e.name)

-- the state after a change
abbrev pub after : State → Change → State
after s c =
    let rows = all_rows_after s c in
    record {
      changes = s.changes + 1;
      settings = settings_after s c;
      rows = rows;
      issued = issued_after s c;
      own = given_up rows (own_after s c);
      kept = kept_after s c;
      snapped = snapped_after s c;
      chosen = chosen_after s c;
    }
