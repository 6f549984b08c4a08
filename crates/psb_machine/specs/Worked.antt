-- Worked deals and discards, so that the definitions can be seen at work.
use Rattle.std.specs.Prelude.{◌≡◌, ℕ, Bool, true, false, List, [], ◌∷◌, length, Some, None}
use Rattle.psb_bytes.specs.declared.ids.Object.{Object}
use Rattle.psb_bytes.specs.declared.ids.Object.TheVariants.{Slot}
use Rattle.psb_model.specs.State.{Row, State, blank, nothing_yet}
use Rattle.psb_model.specs.Effects.{after, direct_slot, own_slot}
use Rattle.psb_model.specs.declared.deals.DealWhat.{DealWhat}
use Rattle.psb_model.specs.declared.deals.DealWhat.TheVariants as own
use Rattle.psb_model.specs.declared.entries.OutState.TheVariants as on
use Rattle.psb_model.specs.declared.change.Change.{Change}
use Rattle.psb_model.specs.declared.change.Change.TheVariants.{TookFresh, LetGo, LetGoBack, Replaced, Refused, Settled, Turned, Discarded}
use Rattle.psb_bytes.specs.declared.lists.SlotClaim.{SlotClaim}
use Rattle.psb_model.specs.declared.entries.InEntry.{InEntry}
use Rattle.psb_machine.specs.Settling.{Accepts, Refuses, settle}
use Rattle.psb_machine.specs.Volatile.{ticks_to_wait}
use Rattle.psb_machine.specs.Machine.{Rule, passes, ends_with, by_due}
use Rattle.psb_machine.specs.Deals.{Facts, Deal, StoreFresh, StoreSwap, Cancel, PutBack, Replace, judge}

-- a chunk of right bytes that nobody holds, where so many claims were issued and so much may be held
abbrev pub facts_near : ℕ → ℕ → Facts
facts_near issued capacity = record { name_fits = true; clash = false; new_body = true; home = None; issued = issued; capacity = capacity }

-- the change that it makes, as the first deal of a peer for whom nothing is held
abbrev pub made_near : ℕ → ℕ → List ℕ → List ℕ → Change
made_near issued capacity name bytes = judge (facts_near issued capacity) nothing_yet 2 1 (StoreFresh name bytes)

-- The claims number up to 4,294,967,295. Two units take the last two; with one left they are refused as
-- spent, and so is one unit with none left. What is held is looked at first.
pub record SpentWorked (name bytes : List ℕ) : Type 0 where
  pub takes_the_last : length bytes ≡ 513 → made_near 4294967293 2 name bytes ≡ TookFresh (record { peer = 2; deal = 1; name = name; first = 4294967293; len = 513; new = true; body = Some bytes })
  pub one_is_left : length bytes ≡ 513 → made_near 4294967294 2 name bytes ≡ Refused (record { peer = 2; deal = 1; why = 9; detail = 4294967294 })
  pub none_is_left : length bytes ≡ 1 → made_near 4294967295 2 name bytes ≡ Refused (record { peer = 2; deal = 1; why = 9; detail = 4294967295 })
  pub full_comes_first : length bytes ≡ 513 → made_near 4294967294 1 name bytes ≡ Refused (record { peer = 2; deal = 1; why = 8; detail = 0 })

-- a node with one peer, which has this row; and after that peer's first Store of one unit
abbrev pub with_row : Row → State
with_row r = record nothing_yet { changes = 1; rows = (2, r) ∷ [] }

abbrev pub after_store : List ℕ → List ℕ → State
after_store name bytes = after (with_row blank) (TookFresh (record { peer = 2; deal = 1; name = name; first = 0; len = 512; new = true; body = Some bytes }))

-- what a release of that peer, as its second deal, is looked at with, and the change that it makes
abbrev pub released : List ℕ → List ℕ → Deal → Change
released name bytes deal = judge (facts_near 1 1) (after_store name bytes) 2 2 deal

-- The peer lets its chunk go with the slot that the node has for it, or against a claim in another slot
-- here. Of two slots the first that the node does not have is told.
pub record ReleaseWorked (name bytes claim : List ℕ) : Type 0 where
  pub cancelled : released name bytes (Cancel name (0 ∷ [])) ≡ LetGo (record { peer = 2; deal = 2; name = name; slots = 0 ∷ [] })
  pub put_back : released name bytes (PutBack name (record { slot = 9; bytes = claim } ∷ [])) ≡ LetGoBack (record { peer = 2; deal = 2; name = name; slots = 9 ∷ []; body = Some claim })
  pub not_there : released name bytes (Cancel name (0 ∷ 1 ∷ [])) ≡ Refused (record { peer = 2; deal = 2; why = 5; detail = 1 })

-- the change that peer 2's first deal makes, where its bytes have the name or not, and others are held
-- under it or not
abbrev pub made_with : Row → Bool → Bool → ℕ → Deal → Change
made_with r fits others capacity deal = judge (record (facts_near 1 capacity) { name_fits = fits; clash = others }) (with_row r) 2 1 deal

-- The peer has slot 9 here. The node has there slot 0, and slot 1, which carries a claim of peer 3; and a
-- deal of its own is under way.
abbrev pub busy_row : DealWhat → Row
busy_row what = record blank {
  ins = direct_slot 9 ∷ [];
  outs = own_slot 0 ∷ record (own_slot 1) { state = on.Carries (record { peer = 3; slot = 4 }) } ∷ [];
  pending = Some (record { number = 1; what = what });
}

-- A tied slot is told before a bad name, and one that carries a claim before one that is not there.
pub record BusyWorked (name other bytes : List ℕ) : Type 0 where
  pub swap : made_with (busy_row (own.Cancel other (9 ∷ []))) true false 9 (StoreSwap name (8 ∷ 9 ∷ []) bytes) ≡ Refused (record { peer = 2; deal = 1; why = 1; detail = 9 })
  pub bad_name_later : made_with (busy_row (own.Cancel other (9 ∷ []))) false false 9 (StoreSwap name (9 ∷ []) bytes) ≡ Refused (record { peer = 2; deal = 1; why = 1; detail = 9 })
  pub cancel : made_with (busy_row (own.Return 0)) true false 9 (Cancel name (0 ∷ [])) ≡ Refused (record { peer = 2; deal = 1; why = 1; detail = 0 })
  pub carries : made_with (busy_row (own.Return 0)) true false 9 (Cancel name (1 ∷ [])) ≡ Refused (record { peer = 2; deal = 1; why = 1; detail = 1 })
  pub not_there_later : made_with (busy_row (own.Return 0)) true false 9 (Cancel name (1 ∷ 5 ∷ [])) ≡ Refused (record { peer = 2; deal = 1; why = 1; detail = 1 })

-- the peer has slot 9 here, and lost two units
abbrev pub debt_row : Row
debt_row = record blank {
  ins = direct_slot 9 ∷ [];
  debts = record { object = Slot 3; units = 2; left = 2; cause = 1; declined = false; state = on.Own } ∷ [];
}

-- Debt is told behind a clash and before what is used, and behind slots that are too few.
pub record DebtWorked (name bytes : List ℕ) : Type 0 where
  pub fresh : made_with debt_row true false 9 (StoreFresh name bytes) ≡ Refused (record { peer = 2; deal = 1; why = 7; detail = 2 })
  pub clash_first : made_with debt_row true true 9 (StoreFresh name bytes) ≡ Refused (record { peer = 2; deal = 1; why = 4; detail = 0 })
  pub full_later : length bytes ≡ 512 → made_with debt_row true false 1 (StoreFresh name bytes) ≡ Refused (record { peer = 2; deal = 1; why = 7; detail = 2 })
  pub swap : length bytes ≡ 512 → made_with debt_row true false 9 (StoreSwap name (9 ∷ []) bytes) ≡ Refused (record { peer = 2; deal = 1; why = 7; detail = 2 })
  pub unequal_first : length bytes ≡ 513 → made_with debt_row true false 9 (StoreSwap name (9 ∷ []) bytes) ≡ Refused (record { peer = 2; deal = 1; why = 6; detail = 2 })

-- The peer replaces the claim in its slot 9: by other bytes, which are kept, or by claim 0 of the node's own, which
-- comes home. Debt does not keep it from that. A tied slot is told before one that is not there.
pub record ReplaceWorked (other bytes : List ℕ) : Type 0 where
  pub direct : made_with debt_row true false 9 (Replace 9 bytes) ≡ Replaced (record { peer = 2; deal = 1; slot = 9; place = 0; home = 0; body = Some bytes })
  pub home : judge (record (facts_near 1 9) { home = Some 0 }) (with_row debt_row) 2 1 (Replace 9 bytes) ≡ Replaced (record { peer = 2; deal = 1; slot = 9; place = 1; home = 0; body = Some [] })
  pub busy : made_with (busy_row (own.Cancel other (8 ∷ 9 ∷ []))) true false 9 (Replace 8 bytes) ≡ Refused (record { peer = 2; deal = 1; why = 1; detail = 8 })
  pub not_there : made_with debt_row true false 9 (Replace 8 bytes) ≡ Refused (record { peer = 2; deal = 1; why = 5; detail = 8 })

-- The node has an own chunk of one unit, and slot 5 of peer 2 is in use here or not; its deal of number 1 with
-- that peer is pending.
abbrev pub pending_row : List InEntry → DealWhat → Row
pending_row ins what = record blank { ins = ins; outs = own_slot 0 ∷ []; mine = 1; pending = Some (record { number = 1; what = what }) }

abbrev pub pending_state : List ℕ → List InEntry → DealWhat → State
pending_state name ins what = record (with_row (pending_row ins what)) { own = record { name = name; len = 512; marked = false } ∷ [] }

abbrev pub one_claim : List ℕ → List SlotClaim
one_claim claim = record { slot = 5; bytes = claim } ∷ []

-- A chunk that is stored fresh wants one claim, in a slot that is not in use, and a swap none. A reply to
-- another number, with too few claims or too many, or with a slot in use, makes nothing.
pub record RepliesWorked (name claim : List ℕ) : Type 0 where
  pub settled : settle (pending_state name [] (own.Fresh name)) 2 1 (Accepts (one_claim claim)) ≡ Some (Settled (record { peer = 2; deal = 1; slots = 5 ∷ []; body = Some claim }))
  pub turned : settle (pending_state name [] (own.Fresh name)) 2 1 (Refuses 8 3) ≡ Some (Turned (record { peer = 2; deal = 1; why = 8; detail = 3 }))
  pub other_number : settle (pending_state name [] (own.Fresh name)) 2 2 (Refuses 8 3) ≡ None
  pub other_accepted : settle (pending_state name [] (own.Fresh name)) 2 2 (Accepts (one_claim claim)) ≡ None
  pub too_few : settle (pending_state name [] (own.Fresh name)) 2 1 (Accepts []) ≡ None
  pub in_use : settle (pending_state name (direct_slot 5 ∷ []) (own.Fresh name)) 2 1 (Accepts (one_claim claim)) ≡ None
  pub swapped : settle (pending_state name [] (own.Swap name (0 ∷ []))) 2 1 (Accepts []) ≡ Some (Settled (record { peer = 2; deal = 1; slots = []; body = Some [] }))
  pub too_many : settle (pending_state name [] (own.Swap name (0 ∷ []))) 2 1 (Accepts (one_claim claim)) ≡ None
  pub none_pending : settle (with_row blank) 2 1 (Refuses 8 3) ≡ None
  pub lesser_waits : ticks_to_wait 1 2 ≡ 2
  pub greater_waits : ticks_to_wait 2 1 ≡ 4

-- all of them, for any names and bytes
pub record DealsWorked (name other bytes claim : List ℕ) : Type 0 where
  pub spent : SpentWorked name bytes
  pub release : ReleaseWorked name bytes claim
  pub busy : BusyWorked name other bytes
  pub debt : DebtWorked name bytes
  pub replace : ReplaceWorked other bytes
  pub replies : RepliesWorked name claim

abbrev pub WorkedDeals : Type 0
WorkedDeals = (name other bytes claim : List ℕ) → DealsWorked name other bytes claim

-- ---- discards

-- Peer 2 has slots 9 and 10 here, and lost so many units; it failed six probes in a row, so that each word lets an
-- entry go.
abbrev pub failed_row : ℕ → Row
failed_row owed = record blank {
  ins = direct_slot 9 ∷ direct_slot 10 ∷ [];
  debts = record { object = Slot 3; units = 2; left = owed; cause = 1; declined = false; state = on.Own } ∷ [];
  fails = 6;
  due = true;
}

-- the rule that discards these, with no letter
abbrev pub discards_these : List Object → Rule
discards_these objects = ends_with (Discarded (record { peer = 2; objects = objects })) []

-- No more goes than is owed, in object order. An entry that a deal ties stays. Where the debt was paid back, the discard is of
-- nothing; and where none is due, none is made.
pub record WorkedDiscards : Type 0 where
  pub all : by_due (with_row (failed_row 2)) 2 ≡ discards_these (Slot 9 ∷ Slot 10 ∷ [])
  pub within_the_debt : by_due (with_row (failed_row 1)) 2 ≡ discards_these (Slot 9 ∷ [])
  pub tied : (name : List ℕ) → by_due (with_row (record (failed_row 2) { pending = Some (record { number = 1; what = own.Cancel name (9 ∷ []) }) })) 2 ≡ discards_these (Slot 10 ∷ [])
  pub paid_back : by_due (with_row (record (failed_row 2) { debts = [] })) 2 ≡ discards_these []
  pub none_due : by_due (with_row (record (failed_row 2) { due = false })) 2 ≡ passes
