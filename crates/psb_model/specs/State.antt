-- The state that a history of changes gives. Of each peer p it has three lists: in(p), what the node
-- answers for to p; out(p), what the node has on p; and debt(p), what p lost. A chunk that is
-- taken fresh is answered by new slots of out(p), which carry claims; one that is taken in a swap takes
-- the place of slots of in(p).
use Rattle.std.specs.Prelude.{ℕ, ◌+◌, Bool, false, ◌||◌, ◌==◌, if◌then◌else◌, List, [], ◌∷◌, sum_by, Option, Some, None}
use Rattle.std.specs.List.{list_any}
use Rattle.psb_model.specs.declared.entries.InEntry.{InEntry}
use Rattle.psb_model.specs.declared.entries.OutEntry.{OutEntry}
use Rattle.psb_model.specs.declared.entries.DebtEntry.{DebtEntry}
use Rattle.psb_model.specs.declared.entries.OwnEntry.{OwnEntry}
use Rattle.psb_model.specs.declared.snapshots.Snapshot.{Snapshot}
use Rattle.psb_model.specs.declared.entries.SnapMark.{SnapMark}
use Rattle.psb_model.specs.declared.deals.LastDeal.{LastDeal}
use Rattle.psb_model.specs.declared.deals.Deal.{Deal}
use Rattle.psb_model.specs.declared.deals.DealWhat.{DealWhat}
use Rattle.psb_model.specs.declared.deals.DealWhat.TheVariants.{Fresh, Swap, Cancel, PutBack, Forward, Return}
use Rattle.psb_settings.specs.declared.settings.Settings.{Settings}
use Rattle.psb_bytes.specs.declared.ids.Object.{Object}
use Rattle.psb_bytes.specs.declared.ids.Object.TheVariants.{Chunk, Slot}
use Rattle.psb_model.specs.Words.{units, name_eq, listed, name_listed, has, slots}

-- what is kept of one peer
pub record Row : Type 0 where
  pub ins : List InEntry  -- in(p), in object order
  pub outs : List OutEntry  -- out(p), in object order
  pub debts : List DebtEntry  -- debt(p), in order of booking
  pub pending : Option Deal  -- the own deal that has no reply yet
  pub mine : ℕ  -- the number of the last own deal
  pub last : LastDeal  -- the last deal of the peer, and its change
  pub asked : Option (ℕ × List Object)  -- the last Asked, while it has no outcome
  pub fails : ℕ  -- consecutive failures
  pub due : Bool  -- whether a discard is due
  pub barred : List (List ℕ × ℕ)  -- names of own deals that the peer turned down for good (reasons 2, 3 and 4), each with the number of that Turned
  pub turned_cancels : List (List ℕ)  -- names of own Cancels that the peer turned down

pub record State : Type 0 where
  pub changes : ℕ  -- how many changes were made
  pub settings : Option Settings
  pub rows : List (ℕ × Row)  -- one for each peer, in the order of the settings
  pub issued : ℕ  -- claim numbers drawn
  pub own : List OwnEntry  -- own chunks, in byte order
  pub kept : List Snapshot  -- kept snapshots, by number
  pub snapped : Option SnapMark  -- the latest snapshot that was made
  pub chosen : List ℕ  -- the buddies of the last Chose

-- nothing was done with the peer yet
abbrev pub blank : Row
blank = record { ins = []; outs = []; debts = []; pending = None; mine = 0; last = record { number = 0; change = 0 }; asked = None; fails = 0; due = false; barred = []; turned_cancels = [] }

-- before the first change
abbrev pub nothing_yet : State
nothing_yet = record { changes = 0; settings = None; rows = []; issued = 0; own = []; kept = []; snapped = None; chosen = [] }

-- the row of a peer, blank for a stranger
abbrev pub row_in : List (ℕ × Row) → ℕ → Row
row_in [] p = blank
row_in (x ∷ xs) p = if x.0 == p then x.1 else row_in xs p

abbrev pub row : State → ℕ → Row
row s p = row_in s.rows p

-- whether the peer has a row
abbrev pub has_row : List (ℕ × Row) → ℕ → Bool
has_row rows p = list_any (λ (x : ℕ × Row). x.0 == p) rows

abbrev pub is_peer : State → ℕ → Bool
is_peer s p = has_row s.rows p

-- the rows with the one of p changed
abbrev pub at_row : ℕ → (Row → Row) → List (ℕ × Row) → List (ℕ × Row)
at_row p f [] = []
at_row p f (x ∷ xs) = if x.0 == p then (x.0, f x.1) ∷ xs else x ∷ at_row p f xs

-- Objects and units of entries: of a row of debt, the units that are left.
abbrev pub in_key : InEntry → Object
in_key e = e.object

abbrev pub in_size : InEntry → ℕ
in_size e = e.units

abbrev pub out_key : OutEntry → Object
out_key e = e.object

abbrev pub out_size : OutEntry → ℕ
out_size e = e.units

abbrev pub debt_key : DebtEntry → Object
debt_key e = e.object

abbrev pub debt_size : DebtEntry → ℕ
debt_size e = e.left

-- the three numbers of a peer: what the node answers for, what it is owed back, and debt
abbrev pub held_units : Row → ℕ
held_units r = sum_by in_size r.ins

abbrev pub back_units : Row → ℕ
back_units r = sum_by out_size r.outs

abbrev pub debt_units : Row → ℕ
debt_units r = sum_by debt_size r.debts

-- own chunks: whether one has the name, whether it is marked, and its length
abbrev pub own_has : List OwnEntry → List ℕ → Bool
own_has own n = list_any (λ (e : OwnEntry). name_eq e.name n) own

abbrev pub own_marked : List OwnEntry → List ℕ → Bool
own_marked [] n = false
own_marked (e ∷ es) n = if name_eq e.name n then e.marked else own_marked es n

abbrev pub own_len : List OwnEntry → List ℕ → ℕ
own_len [] n = 0
own_len (e ∷ es) n = if name_eq e.name n then e.len else own_len es n

-- a body is held under a name while own or some in(p) has the name
abbrev pub is_held : State → List ℕ → Bool
is_held s n = own_has s.own n || list_any (λ (x : ℕ × Row). has in_key x.1.ins (Chunk n)) s.rows

-- a kept snapshot lists the name
abbrev pub is_wanted : State → List ℕ → Bool
is_wanted s n = list_any (λ (k : Snapshot). name_listed k.names n) s.kept

-- Tied objects. What a deal with p ties in out(p), and at which peers it ties entries of in.
abbrev pub out_ties : DealWhat → List Object
out_ties (Fresh name) = []
out_ties (Swap name numbers) = slots numbers
out_ties (Cancel name numbers) = Chunk name ∷ []
out_ties (PutBack name first) = Chunk name ∷ []
out_ties (Forward slot entry) = Slot slot ∷ []
out_ties (Return slot) = Slot slot ∷ []

abbrev pub in_ties : ℕ → DealWhat → ℕ → List Object
in_ties p (Fresh name) q = []
in_ties p (Swap name numbers) q = []
in_ties p (Cancel name numbers) q = if p == q then slots numbers else []
in_ties p (PutBack name first) q = []
in_ties p (Forward slot entry) q = if entry.peer == q then Slot entry.slot ∷ [] else []
in_ties p (Return slot) q = []

abbrev pub ties_out : Option Deal → Object → Bool
ties_out None o = false
ties_out (Some d) o = listed (out_ties d.what) o

abbrev pub ties_in : ℕ → Option Deal → ℕ → Object → Bool
ties_in p None q o = false
ties_in p (Some d) q o = listed (in_ties p d.what q) o

-- whether the peer turned the name down for good
abbrev pub is_barred : Row → List ℕ → Bool
is_barred r n = list_any (λ (b : List ℕ × ℕ). name_eq b.0 n) r.barred

-- how many snapshots were made so far
abbrev pub snaps_made : State → ℕ
snaps_made s = elim s.snapped [ None ↦ 0 | Some mark ↦ mark.number ]

-- whether the pending deal with p ties the object of out(p), and some pending deal that of in(q)
abbrev pub tied_out : State → ℕ → Object → Bool
tied_out s p o = ties_out (row s p).pending o

abbrev pub tied_in : State → ℕ → Object → Bool
tied_in s q o = list_any (λ (x : ℕ × Row). ties_in x.0 x.1.pending q o) s.rows

-- the units that a pending Fresh will use
abbrev pub coming : State → Option Deal → ℕ
coming s None = 0
coming s (Some d) = elim d.what [ Fresh name ↦ units (own_len s.own name) | _ ↦ 0 ]

-- the units in use, of the capacity that the settings give
abbrev pub used : State → ℕ
used s = sum_by (λ (x : ℕ × Row). held_units x.1 + coming s x.1.pending) s.rows
