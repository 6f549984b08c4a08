-- What `init` comes to.
use Rattle.std.specs.Prelude.{◌≡◌, ◌≢◌, ◌⊎◌, ℕ, List, [], length, Some, None, IfSome}
use Rattle.psb_station.specs.View.{View}
use Rattle.psb_station.specs.Calls.{Grows, Rose}
use Rattle.psb_station.specs.Span.{Shows, Tells_bytes, Keeps}
use Rattle.psb_station.specs.Folder.{FolderView, Content, File, Tells_content, found}
use Rattle.node_journal.specs.Entry.{Entry}
use Rattle.psb_settings.specs.Settings.{settings_of}
use Rattle.psb_settings.specs.declared.settings.Settings.{Settings}
use Rattle.node_core.specs.Begun.{begun_with}
use Rattle.node_history.specs.Stands.{ReopensTo}
use Rattle.node_serve.specs.Sends.{ToldMore}
use Rattle.backup_cli.specs.Files.{OnlyReads}
use Rattle.said_lines.specs.Lines.{node_line}
use Rattle.said_lines.specs.Says.{IsRefusal}
use Rattle.said_lines.specs.declared.status.Status.{Status}
use Rattle.said_lines.specs.declared.status.Status.TheVariants.{Done, DiskFault, FolderFault, SayFault, Already, BadSettings, Memory}

-- the disk has no bytes, as far as it tells them
abbrev pub IsEmpty : View → Type 0
IsEmpty v = IfSome v.bytes (λ b. b ≡ [])

-- the file is this settings text, as far as the folder tells it after the command, and says these settings
pub record HasSettings (file : List ℕ) (folder : FolderView) : Type 0 where
  pub text : List ℕ
  pub settings : Settings
  pub valid : settings_of text ≡ Some settings
  pub file_is : IfSome folder.content (λ c. found c file ≡ Some (File text))

-- the file, as far as the folder tells it after the command, is a text that says no settings
abbrev pub HasNoSettings : List ℕ → FolderView → Type 0
HasNoSettings file folder = IfSome folder.content (λ c. (text : List ℕ) × (found c file ≡ Some (File text)) × (settings_of text ≡ None))

-- nothing was done to the disk: it reads as before, and a crash leaves only what it might have left
pub record Stays (old new : View) : Type 0 where
  pub bytes : Tells_bytes new → new.bytes ≡ old.bytes
  pub images : (c : List ℕ) (k : ℕ) → new.left_since old.moment c k → old.may_leave c

-- A node was begun with the settings of the file: a disk that tells its bytes reopens to the history
-- that has just this text.
pub record HasBegun (stands : List Entry → List ℕ → Type 0) (file : List ℕ) (old new : View) (folder : FolderView) : Type 0 where
  pub has : HasSettings file folder
  pub disk : Tells_bytes new → Shows (ReopensTo stands (begun_with has.text)) new

-- when the disk may be written: it is empty, and the file has settings
pub record MayBegin (file : List ℕ) (old new : View) (folder : FolderView) : Type 0 where
  pub empty : Tells_bytes new → IsEmpty old
  pub has : HasSettings file folder

-- how `init` may end
abbrev pub IsEnd : Status → Type 0
IsEnd status = (status ≡ Done) ⊎ (status ≡ DiskFault) ⊎ (status ≡ FolderFault) ⊎ (status ≡ SayFault) ⊎ (status ≡ Already) ⊎ (status ≡ BadSettings) ⊎ (status ≡ Memory)

-- `init FILE`, up to a status, over the disk with what is outside, and the folder
pub record Begins (stands : List Entry → List ℕ → Type 0) (file : List ℕ) (old new : View) (before after : FolderView) (status : Status) : Type 0 where
  pub ends : IsEnd status
  -- Already comes exactly where the disk has bytes, as far as no fault came first
  pub already : status ≡ Already → Tells_bytes new → IfSome old.bytes (λ b. b ≢ [])
  pub empty : (status ≡ Done) ⊎ (status ≡ SayFault) ⊎ (status ≡ FolderFault) ⊎ (status ≡ BadSettings) → Tells_bytes new → IsEmpty old
  -- BadSettings comes exactly where the file has no settings
  pub bad_settings : status ≡ BadSettings → HasNoSettings file after
  -- one line was said, or tried; no call was made but this, those of the disk, and to read the file
  pub line : List ℕ
  pub said : Grows old.outside.said new.outside.said line
  pub refusal : status ≢ Done → IsRefusal status line old new
  pub told : ToldMore old.told new.told 1
  pub kept : new.outside ≡ record old.outside { said = new.outside.said; say_faults = new.outside.say_faults }
  pub reads : OnlyReads file before after
  -- the node that was begun, and its line
  pub begun : (status ≡ Done) ⊎ (status ≡ SayFault)
      → (b : HasBegun stands file old new after) × (status ≡ Done → line ≡ node_line b.has.settings.id (length b.has.settings.peers))
  -- the disk is left alone, but where a node may begin on it
  pub stays : (status ≡ Already) ⊎ (status ≡ FolderFault) ⊎ (status ≡ BadSettings) → Stays old new
  pub written : Stays old new ⊎ MayBegin file old new after
  pub no_memory : status ≡ Memory → Stays old new ⊎ HasBegun stands file old new after
  -- what faults come of
  pub disk_cause : status ≡ DiskFault → Rose old.disk_faults new.disk_faults
  pub folder_cause : status ≡ FolderFault → Rose before.folder_faults after.folder_faults
  pub say_cause : status ≡ SayFault → Rose old.outside.say_faults new.outside.say_faults

-- an empty disk and settings that are valid are enough, where no device failed: only memory can be short
abbrev pub Completes : List ℕ → View → View → FolderView → FolderView → Status → Type 0
Completes file old new before after status =
    Tells_bytes new → Tells_content after → old.bytes ≡ Some [] → (c : Content) (text : List ℕ) (settings : Settings) → before.content ≡ Some c → found c file ≡ Some (File text) → settings_of text ≡ Some settings
    → ¬ Rose old.disk_faults new.disk_faults → ¬ Rose before.folder_faults after.folder_faults → ¬ Rose old.outside.say_faults new.outside.say_faults
    → (status ≡ Done) ⊎ (status ≡ Memory)

-- ---- on the way

-- no node was begun, for this status
pub record Stops (file : List ℕ) (old new : View) (before after : FolderView) (status : Status) : Type 0 where
  pub ends : (status ≡ DiskFault) ⊎ (status ≡ FolderFault) ⊎ (status ≡ Already) ⊎ (status ≡ BadSettings) ⊎ (status ≡ Memory)
  pub already : status ≡ Already → Tells_bytes new → IfSome old.bytes (λ b. b ≢ [])
  pub empty : (status ≡ FolderFault) ⊎ (status ≡ BadSettings) → Tells_bytes new → IsEmpty old
  pub bad_settings : status ≡ BadSettings → HasNoSettings file after
  pub written : Keeps old new ⊎ ((status ≡ DiskFault) × MayBegin file old new after)
  pub disk_cause : status ≡ DiskFault → Rose old.disk_faults new.disk_faults
  pub folder_cause : status ≡ FolderFault → Rose before.folder_faults after.folder_faults
