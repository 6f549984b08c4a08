-- When a change may be made: its condition on the state before it, one test a line.
use Rattle.std.specs.Prelude.{ℕ, ◌+◌, nat_le, nat_lt, Bool, true, false, not, ◌||◌, ◌&&◌, ◌==◌, if◌then◌else◌, List, [], ◌∷◌, ◌++◌, map, length, slice_get, option_to_list, is_some, is_none, Option, Some, None}
use Rattle.std.specs.List.{list_any, list_all}
use Rattle.std.specs.Ordering.{nat_cmp, is_lt}
use Rattle.std.specs.Cmp.Lexicographic.{slice_cmp}
use Rattle.psb_bytes.specs.declared.ids.Object.{Object}
use Rattle.psb_bytes.specs.declared.ids.Object.TheVariants.{Chunk, Slot}
use Rattle.psb_model.specs.declared.entries.InEntry.{InEntry}
use Rattle.psb_model.specs.declared.entries.OutEntry.{OutEntry}
use Rattle.psb_model.specs.declared.entries.DebtEntry.{DebtEntry}
use Rattle.psb_model.specs.declared.snapshots.Snapshot.{Snapshot}
use Rattle.psb_settings.specs.declared.settings.Settings.{Settings}
use Rattle.psb_model.specs.declared.entries.Candidate.{Candidate}
use Rattle.psb_model.specs.declared.deals.Deal.{Deal}
use Rattle.psb_model.specs.declared.deals.DealWhat.{DealWhat}
use Rattle.psb_model.specs.declared.deals.DealWhat.TheVariants.{Fresh, Swap, Cancel, PutBack, Forward, Return}
use Rattle.psb_model.specs.declared.entries.OutState.{OutState}
use Rattle.psb_model.specs.declared.entries.OutState.TheVariants as on
use Rattle.psb_model.specs.declared.entries.InState.TheVariants as at
use Rattle.psb_model.specs.declared.change.Change.{Change}
use Rattle.psb_model.specs.declared.change.Change.TheVariants.{Begun, Kept, Snapped, Forgot, TookFresh, TookSwap, LetGo, LetGoBack, Replaced, Refused, Proposed, Settled, Turned, Asked, Passed, Failed, Declined, Discarded, Chose}
use Rattle.psb_settings.specs.Settings.{settings_of}
use Rattle.psb_model.specs.Words.{units, object_eq, all_of, has, has_so, units_at}
use Rattle.psb_model.specs.State.{Row, State, row, is_peer, in_key, in_size, out_key, out_size, debt_key, debt_units, own_has, own_marked, own_len, is_held, is_wanted, is_barred, snaps_made, tied_in, tied_out, ties_out, coming, used}
use Rattle.psb_model.specs.Discards.{discards}
use Rattle.psb_model.specs.Candidates.{in_select_order, distinct_peers}

-- the peer of a change that has one
abbrev pub peer_of : Change → Option ℕ
peer_of (TookFresh x) = Some x.peer
peer_of (TookSwap x) = Some x.peer
peer_of (LetGo x) = Some x.peer
peer_of (LetGoBack x) = Some x.peer
peer_of (Replaced x) = Some x.peer
peer_of (Refused x) = Some x.peer
peer_of (Proposed x) = Some x.peer
peer_of (Settled x) = Some x.peer
peer_of (Turned x) = Some x.peer
peer_of (Asked x) = Some x.peer
peer_of (Passed x) = Some x.peer
peer_of (Failed x) = Some x.peer
peer_of (Declined x) = Some x.peer
peer_of (Discarded x) = Some x.peer
peer_of _ = None

-- the first change, which has the settings
abbrev pub is_begun : Change → Bool
is_begun (Begun x) = true
is_begun _ = false

-- what the settings text says, if it says settings
abbrev pub settings_of_body : Option (List ℕ) → Option Settings
settings_of_body None = None
settings_of_body (Some text) = settings_of text

-- how many claims can be drawn
abbrev pub most_claims : ℕ
most_claims = 4294967295

-- what the settings say; 0 and false where there are none
abbrev pub capacity : Option Settings → ℕ
capacity None = 0
capacity (Some x) = x.capacity

abbrev pub may_forward : Option Settings → Bool
may_forward None = false
may_forward (Some x) = x.forward

abbrev pub buddies : Option Settings → ℕ
buddies None = 0
buddies (Some x) = x.buddies

-- the deal is the next one of the peer
abbrev pub is_next_deal : State → ℕ → ℕ → Bool
is_next_deal s p deal = deal == (row s p).last.number + 1

-- what the state of an entry is
abbrev pub is_direct_or_home : InEntry → Bool
is_direct_or_home e = elim e.state [ at.Direct ↦ true | at.Home i ↦ true | _ ↦ false ]

abbrev pub is_direct : InEntry → Bool
is_direct e = elim e.state [ at.Direct ↦ true | _ ↦ false ]

abbrev pub own_state : OutState → Bool
own_state st = elim st [ on.Own ↦ true | _ ↦ false ]

abbrev pub is_own : OutEntry → Bool
is_own e = own_state e.state

abbrev pub is_loose : OutEntry → Bool
is_loose e = elim e.state [ on.Loose ↦ true | _ ↦ false ]

abbrev pub carries_none : OutEntry → Bool
carries_none e = elim e.state [ on.Carries seat ↦ false | _ ↦ true ]

-- nothing of the row of debt was used up
abbrev pub is_whole : DebtEntry → Bool
is_whole d = d.left == d.units

-- and it is an own slot
abbrev pub is_whole_own : DebtEntry → Bool
is_whole_own d = is_whole d && own_state d.state

-- each slot, or object, of the list passes the test
abbrev pub each_slot : (Object → Bool) → List ℕ → Bool
each_slot test numbers = list_all (λ n. test (Slot n)) numbers

abbrev pub each : (Object → Bool) → List Object → Bool
each = list_all

-- the chunk may be placed on p: a buddy that neither has it nor lost it nor turned it down
abbrev pub place_tests : State → ℕ → List ℕ → List Bool
place_tests s p name =
    (list_any (λ q. q == p) s.chosen
    ∷ is_wanted s name
    ∷ not (has out_key (row s p).outs (Chunk name))
    ∷ not (has debt_key (row s p).debts (Chunk name))
    ∷ not (is_barred (row s p) name)
    ∷ [])

-- what each own deal asks: its objects stand where it needs them, and no deal ties them
abbrev pub propose_tests : State → ℕ → DealWhat → List Bool
propose_tests s p (Fresh name) =
    (all_of (place_tests s p name)
    ∷ nat_le (used s + units (own_len s.own name)) (capacity s.settings)
    ∷ [])
propose_tests s p (Swap name numbers) =
    (all_of (place_tests s p name)
    ∷ (length numbers == units (own_len s.own name))
    ∷ each_slot (has_so out_key is_own (row s p).outs) numbers
    ∷ each_slot (λ o. not (tied_out s p o)) numbers
    ∷ [])
propose_tests s p (Cancel name numbers) =
    (has out_key (row s p).outs (Chunk name)
    ∷ own_marked s.own name
    ∷ not (tied_out s p (Chunk name))
    ∷ (length numbers == units_at out_key out_size (row s p).outs (Chunk name))
    ∷ each_slot (has_so in_key is_direct_or_home (row s p).ins) numbers
    ∷ each_slot (λ o. not (tied_in s p o)) numbers
    ∷ [])
propose_tests s p (PutBack name first) =
    (has out_key (row s p).outs (Chunk name)
    ∷ own_marked s.own name
    ∷ not (tied_out s p (Chunk name))
    ∷ (first == s.issued)
    ∷ nat_le (s.issued + units_at out_key out_size (row s p).outs (Chunk name)) most_claims
    ∷ [])
propose_tests s p (Forward slot entry) =
    (may_forward s.settings
    ∷ has_so out_key is_own (row s p).outs (Slot slot)
    ∷ not (tied_out s p (Slot slot))
    ∷ has_so in_key is_direct (row s entry.peer).ins (Slot entry.slot)
    ∷ not (tied_in s entry.peer (Slot entry.slot))
    ∷ [])
propose_tests s p (Return slot) =
    (has_so out_key is_loose (row s p).outs (Slot slot)
    ∷ not (tied_out s p (Slot slot))
    ∷ [])

-- the pending deal has that number
abbrev pub is_pending : Option Deal → ℕ → Bool
is_pending None deal = false
is_pending (Some d) deal = d.number == deal

-- a settled Fresh brings as many new slots as its chunk has units, which are u; no other deal brings slots
abbrev pub may_settle_row : ℕ → Row → Option Deal → List ℕ → Bool
may_settle_row u r None numbers = false
may_settle_row u r (Some d) numbers = elim d.what [
  | Fresh name ↦ (length numbers == u) && each_slot (λ o. not (has in_key r.ins o)) numbers
  | _ ↦ length numbers == 0
]

abbrev pub may_settle : State → ℕ → Option Deal → List ℕ → Bool
may_settle s p o numbers = may_settle_row (coming s o) (row s p) o numbers

-- the objects of the last Asked, where it is the change of this number and has no outcome yet
abbrev pub asked_objects : Option (ℕ × List Object) → ℕ → Option (List Object)
asked_objects None asked = None
asked_objects (Some a) asked = if a.0 == asked then Some a.1 else None

-- the two lists are one
abbrev pub same_objects : List Object → List Object → Bool
same_objects [] [] = true
same_objects [] (y ∷ ys) = false
same_objects (x ∷ xs) [] = false
same_objects (x ∷ xs) (y ∷ ys) = object_eq x y && same_objects xs ys

-- one slot and no more
abbrev pub is_one_slot : List Object → Bool
is_one_slot (Slot n ∷ []) = true
is_one_slot _ = false

-- the outcome of the last Asked, with its objects; or, by a relay, that of number 0 and one slot
abbrev pub is_outcome : Row → ℕ → List Object → Bool
is_outcome r asked objects = if asked == 0 then is_one_slot objects else elim (asked_objects r.asked asked) [ None ↦ false | Some os ↦ same_objects os objects ]

-- the objects at these places
abbrev pub at_places : List Object → List ℕ → List Object
at_places objects [] = []
at_places objects (k ∷ ks) = option_to_list (slice_get objects k) ++ at_places objects ks

-- the objects that a Declined lists, by its places
abbrev pub objects_at : Row → ℕ → List ℕ → List Object
objects_at r asked places = elim (asked_objects r.asked asked) [ None ↦ [] | Some os ↦ at_places os places ]

abbrev pub declined_objects : State → ℕ → ℕ → List ℕ → List Object
declined_objects s p asked places = objects_at (row s p) asked places

-- names ascend strictly, by bytes
abbrev pub names_ascend : List (List ℕ) → Bool
names_ascend [] = true
names_ascend (x ∷ []) = true
names_ascend (x ∷ y ∷ ys) = is_lt (slice_cmp nat_cmp x y) && names_ascend (y ∷ ys)

-- the peer is one of the settings
abbrev pub of_a_peer : State → Option ℕ → Bool
of_a_peer s None = true
of_a_peer s (Some p) = is_peer s p

-- how many objects were asked for
abbrev pub asked_count : Option (List Object) → ℕ
asked_count None = 0
asked_count (Some os) = length os

-- what a Store without slots asks of its peer's row, and of this: whether a body is held under its
-- name, the units that are used, its own units, the capacity, and the claim numbers that were drawn
abbrev pub fresh_tests : Row → ℕ → List ℕ → ℕ → Bool → Bool → ℕ → ℕ → ℕ → ℕ → List Bool
fresh_tests r deal name first new held in_use u most issued =
    ((deal == r.last.number + 1)
    ∷ not (has in_key r.ins (Chunk name))
    ∷ (if held then not new else new)
    ∷ (debt_units r == 0)
    ∷ nat_le (in_use + u) most
    ∷ (first == issued)
    ∷ nat_le (issued + u) most_claims
    ∷ [])

-- what a Store in the place of slots asks: whether a body is held under its name, whether no deal ties a
-- slot, and its units
abbrev pub swap_tests : Row → ℕ → List ℕ → List ℕ → Bool → Bool → Bool → ℕ → List Bool
swap_tests r deal name numbers new held untied u =
    ((deal == r.last.number + 1)
    ∷ not (has in_key r.ins (Chunk name))
    ∷ (if held then not new else new)
    ∷ each_slot (has in_key r.ins) numbers
    ∷ untied
    ∷ (length numbers == u)
    ∷ (debt_units r == 0)
    ∷ [])

-- what the two ways to let a chunk go ask
abbrev pub let_go_tests : Row → ℕ → List ℕ → List ℕ → List Bool
let_go_tests r deal name numbers =
    ((deal == r.last.number + 1)
    ∷ has in_key r.ins (Chunk name)
    ∷ each_slot (has_so out_key carries_none r.outs) numbers
    ∷ each_slot (λ o. not (ties_out r.pending o)) numbers
    ∷ (length numbers == units_at in_key in_size r.ins (Chunk name))
    ∷ [])

abbrev pub put_back_tests : Row → ℕ → List ℕ → List ℕ → List Bool
put_back_tests r deal name numbers =
    ((deal == r.last.number + 1)
    ∷ has in_key r.ins (Chunk name)
    ∷ each_slot (λ o. not (has in_key r.ins o)) numbers
    ∷ (length numbers == units_at in_key in_size r.ins (Chunk name))
    ∷ [])

-- a refusal answers the peer's next deal, with a reason of 1 to 9
abbrev pub refusal_tests : Row → ℕ → ℕ → List Bool
refusal_tests r deal why = (deal == r.last.number + 1) ∷ nat_le 1 why ∷ nat_le why 9 ∷ []

-- a reply settles the pending deal: u are the units of a Fresh
abbrev pub settle_tests : Row → ℕ → List ℕ → ℕ → List Bool
settle_tests r deal numbers u =
    (is_pending r.pending deal
    ∷ may_settle_row u r r.pending numbers
    ∷ [])

-- what a probe may ask of: a chunk or an own slot that stands there, or that was lost and of which nothing was used up
abbrev pub may_ask : Row → Object → Bool
may_ask r o =
    has_so out_key (λ e. elim o [ Chunk n ↦ true | Slot n ↦ is_own e ]) r.outs o
    || has_so debt_key (λ d. elim o [ Chunk n ↦ is_whole d | Slot n ↦ is_whole_own d ]) r.debts o

abbrev pub asked_tests : Row → List Object → List Bool
asked_tests r objects =
    (nat_le 1 (length objects)
    ∷ nat_le (length objects) 32
    ∷ each (may_ask r) objects
    ∷ each (λ o. not (ties_out r.pending o)) objects
    ∷ [])

-- what the outcomes of a probe ask of its peer's row: a failure by a late or a wrong answer to a probe of the node's own,
-- or by a relay; only a wrong answer has got anything
abbrev pub failed_tests : Row → ℕ → ℕ → List ℕ → List Object → List Bool
failed_tests r asked how got objects =
    (is_outcome r asked objects
    ∷ nat_le how 2
    ∷ (if asked == 0 then how == 2 else nat_lt how 2)
    ∷ ((how == 1) || list_all (λ b. b == 0) got)
    ∷ each (λ o. not (ties_out r.pending o)) objects
    ∷ [])

abbrev pub declined_tests : Row → ℕ → List ℕ → List Bool
declined_tests r asked places =
    (is_some (asked_objects r.asked asked)
    ∷ list_all (λ k. nat_lt k (asked_count (asked_objects r.asked asked))) places
    ∷ each (λ o. not (ties_out r.pending o)) (objects_at r asked places)
    ∷ [])

-- what each kind asks
abbrev pub tests : State → Change → List Bool
tests s (Begun x) =
    ((s.changes == 0)
    ∷ is_some (settings_of_body x.body)
    ∷ [])
tests s (Kept x) =
    (not (own_has s.own x.name)
    ∷ (if is_held s x.name then not x.new else x.new)
    ∷ [])
tests s (Snapped x) =
    ((x.number == snaps_made s + 1)
    ∷ names_ascend x.names
    ∷ list_all (own_has s.own) x.names
    ∷ [])
tests s (Forgot x) = list_any (λ (k : Snapshot). k.number == x.number) s.kept ∷ []
tests s (TookFresh x) =
    fresh_tests (row s x.peer) x.deal x.name x.first x.new (is_held s x.name) (used s) (units x.len) (capacity s.settings) s.issued
tests s (TookSwap x) =
    swap_tests (row s x.peer) x.deal x.name x.slots x.new (is_held s x.name) (each_slot (λ o. not (tied_in s x.peer o)) x.slots) (units x.len)
tests s (LetGo x) = let_go_tests (row s x.peer) x.deal x.name x.slots
tests s (LetGoBack x) = put_back_tests (row s x.peer) x.deal x.name x.slots
tests s (Replaced x) =
    (is_next_deal s x.peer x.deal
    ∷ has in_key (row s x.peer).ins (Slot x.slot)
    ∷ not (tied_in s x.peer (Slot x.slot))
    ∷ ((x.place == 0 && x.home == 0) || (x.place == 1 && nat_lt x.home s.issued))
    ∷ [])
tests s (Refused x) = refusal_tests (row s x.peer) x.deal x.why
tests s (Proposed x) =
    ((x.deal == (row s x.peer).mine + 1)
    ∷ is_none (row s x.peer).pending
    ∷ all_of (propose_tests s x.peer x.what)
    ∷ [])
tests s (Settled x) = settle_tests (row s x.peer) x.deal x.slots (coming s (row s x.peer).pending)
tests s (Turned x) = is_pending (row s x.peer).pending x.deal ∷ []
tests s (Asked x) = asked_tests (row s x.peer) x.objects
tests s (Passed x) = is_outcome (row s x.peer) x.asked x.objects ∷ []
tests s (Failed x) = failed_tests (row s x.peer) x.asked x.how x.got x.objects
tests s (Declined x) = declined_tests (row s x.peer) x.asked x.places
tests s (Discarded x) =
    ((row s x.peer).due
    ∷ same_objects x.objects (map in_key (discards s x.peer))
    ∷ [])
tests s (Chose y) =
    (nat_le 1 (length y.candidates)
    ∷ distinct_peers y.candidates
    ∷ list_all (λ (x : Candidate). is_peer s x.peer) y.candidates
    ∷ list_all (λ (x : Candidate). nat_le 1 x.of) y.candidates
    ∷ in_select_order y.candidates
    ∷ [])

-- the change may be made: Begun as the first, any other kind later
abbrev pub allowed : State → Change → Bool
allowed s c = (is_begun c || nat_lt 0 s.changes) && of_a_peer s (peer_of c) && all_of (tests s c)
