-- Which deal of its own a node proposes to a peer next, by its state. To release comes before to place, and
-- of each the least in object order. No deal may use an object that another ties, or one that a running probe
-- of the peer lists: these are handed in.
use Rattle.std.specs.Prelude.{ℕ, ◌+◌, nat_le, Bool, true, false, not, ◌&&◌, ◌==◌, if◌then◌else◌, List, [], ◌∷◌, length, take, find, Option, Some, None}
use Rattle.std.specs.List.{list_any, list_all, flat_map}
use Rattle.std.specs.Option.{option_map, option_or}
use Rattle.psb_bytes.specs.declared.ids.Object.{Object}
use Rattle.psb_bytes.specs.declared.ids.Object.TheVariants.{Chunk, Slot}
use Rattle.psb_model.specs.declared.entries.InEntry.{InEntry}
use Rattle.psb_model.specs.declared.entries.OutEntry.{OutEntry}
use Rattle.psb_model.specs.declared.entries.OwnEntry.{OwnEntry}
use Rattle.psb_model.specs.declared.deals.DealWhat.{DealWhat}
use Rattle.psb_model.specs.declared.deals.DealWhat.TheVariants.{Fresh, Swap, Cancel, PutBack}
use Rattle.psb_model.specs.declared.change.Change.{Change}
use Rattle.psb_model.specs.declared.change.Change.TheVariants.{Proposed}
use Rattle.psb_model.specs.Words.{units, listed, name_listed, has}
use Rattle.psb_model.specs.State.{Row, State, row, out_key, debt_key, own_marked, is_wanted, is_barred, tied_in, tied_out, used}
use Rattle.psb_model.specs.Conditions.{most_claims, is_own, is_direct_or_home}

-- What is looked up before: the number of the next claim, how many units the node may use, and whether it may
-- forward claims.
pub record ProposeFacts : Type 0 where
  pub issued : ℕ
  pub capacity : ℕ
  pub forward : Bool

-- an object of out(p) that no deal ties and no probe lists
abbrev pub is_free : State → ℕ → List Object → Object → Bool
is_free s p probed o = not (tied_out s p o) && not (listed probed o)

-- the number of a slot; and the first of a list, as many as are asked for, where there are as many
abbrev pub slot_number : Object → List ℕ
slot_number (Chunk n) = []
slot_number (Slot n) = n ∷ []

abbrev pub as_many : ℕ → List ℕ → Option (List ℕ)
as_many u numbers = if nat_le u (length numbers) then Some (take u numbers) else None

-- ---- releasing

-- the slots of in(p) that may be given for a chunk there
abbrev pub gives : State → ℕ → InEntry → List ℕ
gives s p e = if is_direct_or_home e && not (tied_in s p e.object) then slot_number e.object else []

abbrev pub slots_to_give : State → ℕ → List ℕ
slots_to_give s p = flat_map (gives s p) (row s p).ins

-- a chunk there that no kept snapshot needs any more
abbrev pub may_release : State → ℕ → List Object → OutEntry → Bool
may_release s p probed e = elim e.object [ Chunk n ↦ own_marked s.own n && is_free s p probed (Chunk n) | Slot n ↦ false ]

-- It is cancelled against slots of the peer here, or put back against own claims: where there are too few slots,
-- or the peer turned down a Cancel of it before.
abbrev pub cancel : State → ℕ → List ℕ → ℕ → Option DealWhat
cancel s p name u = option_map (Cancel name) (if name_listed (row s p).turned_cancels name then None else as_many u (slots_to_give s p))

abbrev pub put_back : ℕ → List ℕ → ℕ → Option DealWhat
put_back issued name u = if nat_le (issued + u) most_claims then Some (PutBack name issued) else None

abbrev pub release_of : State → ℕ → ℕ → OutEntry → Option DealWhat
release_of s p issued e = elim e.object [ Chunk name ↦ option_or (cancel s p name e.units) (put_back issued name e.units) | Slot n ↦ None ]

-- only the least such chunk is tried
abbrev pub release : State → ℕ → List Object → ℕ → Option DealWhat
release s p probed issued = elim (find (may_release s p probed) (row s p).outs) [ None ↦ None | Some e ↦ release_of s p issued e ]

-- ---- placing

-- the own slots of out(p) in whose place a chunk may be stored
abbrev pub fills : State → ℕ → List Object → OutEntry → List ℕ
fills s p probed e = if is_own e && is_free s p probed e.object then slot_number e.object else []

abbrev pub slots_to_fill : State → ℕ → List Object → List ℕ
slots_to_fill s p probed = flat_map (fills s p probed) (row s p).outs

-- the peer neither has the chunk nor lost it nor turned it down for good; and a kept snapshot lists it
abbrev pub is_absent : Row → List ℕ → Bool
is_absent r name = not (has out_key r.outs (Chunk name)) && not (has debt_key r.debts (Chunk name)) && not (is_barred r name)

abbrev pub is_missing : State → ℕ → List ℕ → Bool
is_missing s p name = is_wanted s name && is_absent (row s p) name

-- it is stored in the place of slots, where there are as many; else fresh, where it fits
abbrev pub swap : State → ℕ → List Object → List ℕ → ℕ → Option DealWhat
swap s p probed name u = option_map (Swap name) (as_many u (slots_to_fill s p probed))

abbrev pub fresh : State → ℕ → List ℕ → ℕ → Option DealWhat
fresh s capacity name u = if nat_le (used s + u) capacity then Some (Fresh name) else None

abbrev pub place_of : State → ℕ → List Object → ℕ → OwnEntry → Option DealWhat
place_of s p probed capacity e =
    if is_missing s p e.name then option_or (swap s p probed e.name (units e.len)) (fresh s capacity e.name (units e.len)) else None

-- the least own chunk that can be placed in one of the two ways
abbrev pub first_place : State → ℕ → List Object → ℕ → List OwnEntry → Option DealWhat
first_place s p probed capacity [] = None
first_place s p probed capacity (e ∷ es) = option_or (place_of s p probed capacity e) (first_place s p probed capacity es)

-- and nothing is placed on a peer that was not chosen
abbrev pub place : State → ℕ → List Object → ℕ → Option DealWhat
place s p probed capacity = if list_any (λ q. q == p) s.chosen then first_place s p probed capacity s.own else None

-- ---- what was passed over: of the chunks there that a test passes none is marked, and of the own chunks that one
-- passes none is missing there

abbrev pub none_marked : (List ℕ → Bool) → List OwnEntry → List OutEntry → Bool
none_marked test own outs = list_all (λ (e : OutEntry). elim e.object [ Chunk n ↦ not (test n && own_marked own n) | Slot n ↦ true ]) outs

abbrev pub none_missing : (OwnEntry → Bool) → State → ℕ → Bool
none_missing test s p = list_all (λ (e : OwnEntry). not (test e && is_missing s p e.name)) s.own

-- ---- the proposal, with the next number

abbrev pub proposal : State → ℕ → List Object → ProposeFacts → Option DealWhat
proposal s p probed facts = option_or (release s p probed facts.issued) (place s p probed facts.capacity)

abbrev pub propose : State → ℕ → List Object → ProposeFacts → Option Change
propose s p probed facts = option_map (λ w. Proposed (record { peer = p; deal = (row s p).mine + 1; what = w })) (proposal s p probed facts)
