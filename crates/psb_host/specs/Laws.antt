-- What the replay of a record says of honest answers, and of one that is not.
use Rattle.std.specs.Prelude.{◌≡◌, ◌≢◌, ℕ, ◌<◌, ◌≤◌, Bool, true, false, List, [], ◌++◌, length, take, drop, Option, Some, None}
use Rattle.std.specs.FinMap.{get, insert}
use Rattle.psb_station.specs.Calls.{written}
use Rattle.psb_station.specs.Folder.{Content, Folder, File, plain, parent, found, Lists, ReadsPiece}
use Rattle.psb_station.specs.declared.item.Item.{Item}
use Rattle.psb_host.specs.StationEvents.{StationEvent, Measured, Read, Wrote, WasCut, Synced}
use Rattle.psb_host.specs.FolderEvents.{FolderEvent, Listed, Piece, MadeFolder, MadeFile, Added}
use Rattle.psb_host.specs.HonestStation.{bytes_after, went_down}
use Rattle.psb_host.specs.HonestFolder.{after_call}

-- a file that reads these bytes and answers as it should goes on being told, as it then reads
pub record FileGoesOn : Type 0 where
  pub len : (usable : Bool) (b : List ℕ) → bytes_after usable (Measured true (length b)) (Some b) ≡ Some b
  pub read : (usable : Bool) (at n : ℕ) (b : List ℕ) → bytes_after usable (Read at n true (take n (drop at b))) (Some b) ≡ Some b
  -- also where not all went down
  pub write : (usable : Bool) (at n : ℕ) (ok : Bool) (given b : List ℕ) → at ≤ length b → (ok ≡ true → n ≡ length given)
      → bytes_after usable (Wrote at n ok given) (Some b) ≡ Some (written at (went_down ok n given) b)
  pub cut : (usable : Bool) (n : ℕ) (b : List ℕ) → n ≤ length b → bytes_after usable (WasCut n true) (Some b) ≡ Some (take n b)
  pub sync : (b : List ℕ) → bytes_after true (Synced true) (Some b) ≡ Some b
  -- a call that fails, but for a write, changes nothing
  pub no_len : (usable : Bool) (n : ℕ) (b : List ℕ) → bytes_after usable (Measured false n) (Some b) ≡ Some b
  pub no_read : (usable : Bool) (at n : ℕ) (came b : List ℕ) → bytes_after usable (Read at n false came) (Some b) ≡ Some b
  pub no_cut : (usable : Bool) (n : ℕ) (b : List ℕ) → n ≤ length b → bytes_after usable (WasCut n false) (Some b) ≡ Some b
  pub no_sync : (usable : Bool) (b : List ℕ) → bytes_after usable (Synced false) (Some b) ≡ Some b

-- folders that hold this content and answer as they should go on telling what they then hold
pub record FolderGoesOn : Type 0 where
  pub list : (path : List ℕ) (items : List Item) (c : Content) → Lists c path items → after_call (Listed path (Some items)) (Some c) ≡ Some c
  pub piece : (path : List ℕ) (at n : ℕ) (into : List ℕ) (c : Content) → n ≤ length into → ReadsPiece c path at n into
      → after_call (Piece path at (length into) true (take n into)) (Some c) ≡ Some c
  pub folder : (path : List ℕ) (c : Content) → get c (parent (plain path)) ≡ Some Folder → found c path ≡ None
      → after_call (MadeFolder path true) (Some c) ≡ Some (insert c (plain path) Folder)
  pub file : (path : List ℕ) (c : Content) → get c (parent (plain path)) ≡ Some Folder → found c path ≡ None
      → after_call (MadeFile path true) (Some c) ≡ Some (insert c (plain path) (File []))
  pub append : (path bytes given : List ℕ) (c : Content) → found c path ≡ Some (File bytes)
      → after_call (Added path (length given) true given) (Some c) ≡ Some (insert c (plain path) (File (bytes ++ given)))
  -- where only some bytes were added, these
  pub some_added : (path bytes given : List ℕ) (n : ℕ) (c : Content) → 0 < n → found c path ≡ Some (File bytes)
      → after_call (Added path n false given) (Some c) ≡ Some (insert c (plain path) (File (bytes ++ take n given)))
  -- a call that fails and adds nothing changes nothing
  pub no_list : (path : List ℕ) (o : Option Content) → after_call (Listed path None) o ≡ o
  pub no_piece : (path came : List ℕ) (at n : ℕ) (o : Option Content) → after_call (Piece path at n false came) o ≡ o
  pub no_folder : (path : List ℕ) (o : Option Content) → after_call (MadeFolder path false) o ≡ o
  pub no_file : (path : List ℕ) (o : Option Content) → after_call (MadeFile path false) o ≡ o
  pub no_append : (path given : List ℕ) (o : Option Content) → after_call (Added path 0 false given) o ≡ o

-- an answer that is not that of what is told ends the telling, and nothing begins it again
pub record EndsAtALie : Type 0 where
  pub len : (usable : Bool) (n : ℕ) (b : List ℕ) → n ≢ length b → bytes_after usable (Measured true n) (Some b) ≡ None
  pub read : (usable : Bool) (at n : ℕ) (came b : List ℕ) → came ≢ take n (drop at b) → bytes_after usable (Read at n true came) (Some b) ≡ None
  -- a sync that succeeds after one that failed is no answer to build on
  pub sync : (b : List ℕ) → bytes_after false (Synced true) (Some b) ≡ None
  pub list : (path : List ℕ) (items : List Item) (c : Content) → ¬ Lists c path items → after_call (Listed path (Some items)) (Some c) ≡ None
  pub piece : (path : List ℕ) (at n : ℕ) (into : List ℕ) (c : Content) → n ≤ length into → ¬ ReadsPiece c path at n into → after_call (Piece path at (length into) true (take n into)) (Some c) ≡ None
  -- fewer bytes went down than were given, and all are said to have
  pub write : (usable : Bool) (at n : ℕ) (given b : List ℕ) → n ≢ length given → bytes_after usable (Wrote at n true given) (Some b) ≡ None
  pub append : (path given : List ℕ) (n : ℕ) (c : Content) → n ≢ length given → after_call (Added path n true given) (Some c) ≡ None
  pub made : (path : List ℕ) (c : Content) (bytes : List ℕ) → found c path ≡ Some (File bytes) → after_call (MadeFile path true) (Some c) ≡ None
  pub file : (usable : Bool) (e : StationEvent) → bytes_after usable e None ≡ None
  pub folder : (e : FolderEvent) → after_call e None ≡ None
