-- The names that a node's store has: those under which bodies are held, each with the record that brought
-- its bytes last, and with its owners.
use Rattle.std.specs.Prelude.{◌≡◌, ◌⊎◌, ℕ, ◌<◌, Bool, true, false, not, ◌||◌, ◌&&◌, if◌then◌else◌, List, Option, Some, None, is_some}
use Rattle.psb_bytes.specs.declared.ids.Object.{Object}
use Rattle.psb_bytes.specs.declared.ids.Object.TheVariants.{Chunk}
use Rattle.chunk_store.specs.declared.owner.Owner.{Owner}
use Rattle.chunk_store.specs.declared.owner.Owner.TheVariants.{Own, Peer}
use Rattle.chunk_store.specs.declared.store.Store.{Store}
use Rattle.chunk_store.specs.Owners.{owner_eq}
use Rattle.chunk_store.specs.Records.{or_else}
use Rattle.chunk_store.specs.Store.{record_of, is_owner}
use Rattle.psb_model.specs.Words.{name_eq, name_listed, listed, has}
use Rattle.psb_model.specs.State.{State, row, own_has, in_key, debt_key, is_held}
use Rattle.psb_model.specs.History.{state}
use Rattle.psb_model.specs.Needed.{brings_name, last_place}
use Rattle.psb_model.specs.declared.change.Change.{Change}
use Rattle.psb_model.specs.declared.change.Change.TheVariants.{Kept, Forgot, TookFresh, TookSwap, LetGo, LetGoBack, Settled, Turned, Discarded}
use Rattle.psb_model.specs.declared.entries.OwnEntry.{OwnEntry}
use Rattle.psb_model.specs.Effects.{after, kept_lists, kept_without, deal_name, pending_name}
use Rattle.node_history.specs.declared.entering.Entering.{Entering}
use Rattle.node_history.specs.declared.entering.Entering.TheVariants.{Nothing, AddsOwner, DropsOwner, MayDropOwn, Discards}

-- whether a body is held under the name for this owner
abbrev pub owns : State → Owner → List ℕ → Bool
owns s Own name = own_has s.own name
owns s (Peer p) name = has in_key (row s p).ins (Chunk name)

-- the number of the last of these changes that brings the bytes of a name; the first has number n
abbrev pub brought_from : ℕ → List ℕ → List Change → Option ℕ
brought_from n name h = last_place n (brings_name name) h

-- the store has the names that are held after the history
pub record KnowsNames (store : Store) (h : List Change) : Type 0 where
  pub owners : (o : Owner) (name : List ℕ) → is_owner store o name ≡ owns (state h) o name
  pub held : (name : List ℕ) → is_some (record_of store name) ≡ is_held (state h) name
  pub records : (name : List ℕ) (k : ℕ) → record_of store name ≡ Some k → brought_from 0 name h ≡ Some k

-- The body of each name is in a record of the log, which has so many, and was not given up.
abbrev pub AreThere : Store → ℕ → (ℕ → Bool) → Type 0
AreThere store size keeps = (name : List ℕ) (k : ℕ) → record_of store name ≡ Some k → (k < size) × (keeps k ≡ true)

-- an owner was added to a name; a name that has a record keeps it
pub record Adds (old new : Store) (owner : Owner) (name : List ℕ) (number : ℕ) : Type 0 where
  pub owners : (o : Owner) (q : List ℕ) → is_owner new o q ≡ (is_owner old o q || (name_eq name q && owner_eq owner o))
  pub records : (q : List ℕ) → record_of new q ≡ or_else (record_of old q) (if name_eq name q then Some number else None)

-- the store has what it had
pub record SameNames (old new : Store) : Type 0 where
  pub owners : (o : Owner) (q : List ℕ) → is_owner new o q ≡ is_owner old o q
  pub records : (q : List ℕ) → record_of new q ≡ record_of old q

-- no owner of the name is left, or some is
abbrev pub HasNoOwner : Store → List ℕ → Type 0
HasNoOwner store name = (o : Owner) → is_owner store o name ≡ false

pub record IsOwned (store : Store) (name : List ℕ) : Type 0 where
  pub some : ¬ HasNoOwner store name

-- A name has the record that it had, and where this owner was taken from its owners another is left; or it
-- has none, and no owner.
abbrev pub IsLeft : Store → Store → Owner → List ℕ → Type 0
IsLeft old new owner q =
    ((record_of new q ≡ record_of old q) × ((is_owner new owner q ≡ is_owner old owner q) ⊎ IsOwned new q))
    ⊎ ((record_of new q ≡ None) × HasNoOwner new q)

-- an owner was taken from those of the names that are gone
pub record Drops (old new : Store) (owner : Owner) (gone : List ℕ → Bool) : Type 0 where
  pub owners : (o : Owner) (q : List ℕ) → is_owner new o q ≡ (is_owner old o q && not (gone q && owner_eq owner o))
  pub records : (q : List ℕ) → IsLeft old new owner q

-- The own chunks that a change gives up are gone: those that the state after it has no longer.
pub record GivesUp (s : State) (c : Change) (old new : Store) : Type 0 where
  pub gone : List ℕ → Bool
  pub are : (q : List ℕ) → own_has s.own q ≡ true → gone q ≡ not (own_has (after s c).own q)
  pub drops : Drops old new Own gone

-- what a change with this number does to the names, after this state
abbrev pub Enters : State → Store → Store → Change → ℕ → Type 0
Enters s old new (Kept x) number = Adds old new Own x.name number
Enters s old new (Forgot x) number = GivesUp s (Forgot x) old new
Enters s old new (TookFresh x) number = Adds old new (Peer x.peer) x.name number
Enters s old new (TookSwap x) number = Adds old new (Peer x.peer) x.name number
Enters s old new (LetGo x) number = Drops old new (Peer x.peer) (name_eq x.name)
Enters s old new (LetGoBack x) number = Drops old new (Peer x.peer) (name_eq x.name)
Enters s old new (Settled x) number = GivesUp s (Settled x) old new
Enters s old new (Turned x) number = GivesUp s (Turned x) old new
Enters s old new (Discarded x) number = (mid : Store) × Drops old mid (Peer x.peer) (λ q. listed x.objects (Chunk q)) × GivesUp s (Discarded x) mid new
Enters s old new _ number = SameNames old new

-- The own names that may go: those that no kept snapshot lists without this one, and those of the peer's pending
-- deal.
abbrev pub AreUnlisted : State → ℕ → List (List ℕ) → Type 0
AreUnlisted s number names = (q : List ℕ) → own_has s.own q ≡ true → kept_lists (kept_without number s.kept) q ≡ false → name_listed names q ≡ true

abbrev pub deal_names : State → ℕ → List (List ℕ)
deal_names s p = pending_name deal_name (row s p).pending

-- these names are those of the chunks among the objects, and these are all of which the peer owes something
abbrev pub AreChunks : List Object → List (List ℕ) → Type 0
AreChunks objects names = (q : List ℕ) → name_listed names q ≡ listed objects (Chunk q)

abbrev pub AreOwed : State → ℕ → List (List ℕ) → Type 0
AreOwed s p names = (q : List ℕ) → name_listed names q ≡ has debt_key (row s p).debts (Chunk q)

-- what is worked out of it before the change is made
abbrev pub IsEntering : State → Change → Entering → Type 0
IsEntering s (Kept x) e = e ≡ AddsOwner Own x.name
IsEntering s (Forgot x) e = (names : List (List ℕ)) × (e ≡ MayDropOwn names) × AreUnlisted s x.number names
IsEntering s (TookFresh x) e = e ≡ AddsOwner (Peer x.peer) x.name
IsEntering s (TookSwap x) e = e ≡ AddsOwner (Peer x.peer) x.name
IsEntering s (LetGo x) e = e ≡ DropsOwner (Peer x.peer) x.name
IsEntering s (LetGoBack x) e = e ≡ DropsOwner (Peer x.peer) x.name
IsEntering s (Settled x) e = e ≡ MayDropOwn (deal_names s x.peer)
IsEntering s (Turned x) e = e ≡ MayDropOwn (deal_names s x.peer)
IsEntering s (Discarded x) e = (chunks : List (List ℕ)) × (owed : List (List ℕ)) × (e ≡ Discards x.peer chunks owed) × AreChunks x.objects chunks × AreOwed s x.peer owed
IsEntering s _ e = e ≡ Nothing

-- what that does to the names, where these are the own chunks after it
abbrev pub Enter : List OwnEntry → Store → Store → Entering → ℕ → Type 0
Enter own old new Nothing number = SameNames old new
Enter own old new (AddsOwner owner name) number = Adds old new owner name number
Enter own old new (DropsOwner owner name) number = Drops old new owner (name_eq name)
Enter own old new (MayDropOwn names) number = Drops old new Own (λ q. name_listed names q && not (own_has own q))
Enter own old new (Discards p chunks owed) number = (mid : Store) × Drops old mid (Peer p) (name_listed chunks) × Drops mid new Own (λ q. name_listed owed q && not (own_has own q))

-- the owner to whom a name is given does not have it yet
abbrev pub IsNew : Store → Entering → Type 0
IsNew store Nothing = Unit {0}
IsNew store (AddsOwner owner name) = is_owner store owner name ≡ false
IsNew store (DropsOwner owner name) = Unit {0}
IsNew store (MayDropOwn names) = Unit {0}
IsNew store (Discards p chunks owed) = Unit {0}
