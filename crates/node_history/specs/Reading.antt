-- What is known of a node's history while its records are read up.
use Rattle.std.specs.Prelude.{◌≡◌, ◌⊎◌, ℕ, ◌<◌, Bool, true, false, List, ◌++◌, length, take, drop, Some, None, is_some}
use Rattle.std.specs.List.{list_all}
use Rattle.psb_station.specs.View.{View}
use Rattle.psb_station.specs.Span.{Shows, Tells_bytes}
use Rattle.node_journal.specs.Entry.{Entry}
use Rattle.psb_bytes.specs.declared.ids.Object.TheVariants.{Slot}
use Rattle.psb_model.specs.Words.{has_so}
use Rattle.psb_model.specs.State.{nothing_yet, row, in_key}
use Rattle.psb_model.specs.Grammar.{fits_widths}
use Rattle.psb_model.specs.Conditions.{allowed, is_direct}
use Rattle.psb_model.specs.Effects.{after}
use Rattle.psb_model.specs.History.{state, is_lawful}
use Rattle.psb_model.specs.Needed.{IsValid}
use Rattle.psb_model.specs.declared.change.Change.{Change}
use Rattle.chunk_store.specs.declared.owner.Owner.{Owner}
use Rattle.chunk_store.specs.declared.store.Store.{Store}
use Rattle.chunk_store.specs.Store.{record_of, is_owner}
use Rattle.slot_places.specs.Slots.{slot_record, KnowsSlots, AreBelow}
use Rattle.slot_places.specs.Enters.{EntersSlots}
use Rattle.node_history.specs.Stands.{AreDecoded}
use Rattle.node_history.specs.Names.{KnowsNames, SameNames, Enters}
use Rattle.node_history.specs.Lacking.{is_lacking, is_slot_lacking, KnowsLacking, NotesLacking}
use Rattle.node_history.specs.declared.history.Tables.{Tables}
use Rattle.node_history.specs.declared.history.Reader.{Reader}
use Rattle.node_history.specs.declared.lacking.Lacking.{Lacking}

-- nothing was read
pub record IsFresh (r : Reader) : Type 0 where
  pub ledger : r.tables.ledger.state ≡ nothing_yet
  pub records : (q : List ℕ) → record_of r.tables.names q ≡ None
  pub owners : (o : Owner) (q : List ℕ) → is_owner r.tables.names o q ≡ false
  pub names : (q : List ℕ) → is_lacking r.lacking q ≡ false
  pub slots : (p n : ℕ) → is_slot_lacking r.lacking p n ≡ false
  pub places : (p n : ℕ) → slot_record r.tables.slots p n ≡ None

-- the tables are those of some history
pub record AreOfSome (t : Tables) : Type 0 where
  pub history : List Change
  pub lawful : is_lawful history ≡ true
  pub state_is : t.ledger.state ≡ state history
  pub names : KnowsNames t.names history

-- a change that may come next was taken up; its record has this number
pub record TakesUp (old new : Tables) (w x : Lacking) (c : Change) (number : ℕ) : Type 0 where
  pub may : allowed old.ledger.state c ≡ true
  pub grown : new.ledger.state ≡ after old.ledger.state c
  pub between : Store
  pub same : SameNames old.names between
  pub enters : Enters old.ledger.state between new.names c number
  pub slots : EntersSlots old.ledger.state old.slots new.slots c number
  pub lacks : NotesLacking w x c

-- the records are read up to a number; a valid history of them all goes on from there
pub record ReadTo (es : List Entry) (number : ℕ) (h : List Change) : Type 0 where
  pub are : AreDecoded h (take number es)
  pub back : (all : List Change) → IsValid all → AreDecoded all es → (rest : List Change) × (all ≡ h ++ rest) × AreDecoded rest (drop number es)

-- each name is of a record that was read, and its body is kept if it does not lack it
abbrev pub ArePlaced : Store → Lacking → ℕ → (ℕ → Bool) → Type 0
ArePlaced b w number keeps = (name : List ℕ) (k : ℕ) → record_of b name ≡ Some k → (k < number) × (is_lacking w name ≡ false → keeps k ≡ true)

-- the changes that were read so far, and the records that they are
pub record Reading (holds : List Entry → List ℕ → Type 0) (keeps : ℕ → Bool) (number : ℕ) (t : Tables) (w : Lacking) (first now : View) : Type 0 where
  pub history : List Change
  pub lawful : is_lawful history ≡ true
  pub fit : list_all fits_widths history ≡ true
  pub state_is : t.ledger.state ≡ state history
  pub counted : length history ≡ number
  pub names : KnowsNames t.names history
  pub there : ArePlaced t.names w number keeps
  pub lacking : KnowsLacking w history
  pub slots : KnowsSlots t.slots history
  pub below : AreBelow t.slots number
  pub reads : Tells_bytes now → (es : List Entry) → Shows (holds es) first → ReadTo es number history

-- no name that is held lacks its bytes, and no slot that is to have them here
pub record NoneLacks (t : Tables) (w : Lacking) : Type 0 where
  pub names : (name : List ℕ) → is_lacking w name ≡ true → is_some (record_of t.names name) ≡ false
  pub slots : (p n : ℕ) → is_slot_lacking w p n ≡ true → has_so in_key is_direct (row t.ledger.state p).ins (Slot n) ≡ false

-- some name does, or some slot
abbrev pub OneLacks : Tables → Lacking → Type 0
OneLacks t w =
    ((name : List ℕ) × (is_lacking w name ≡ true) × (is_some (record_of t.names name) ≡ true))
    ⊎ ((p : ℕ) × (n : ℕ) × (is_slot_lacking w p n ≡ true) × (has_so in_key is_direct (row t.ledger.state p).ins (Slot n) ≡ true))
