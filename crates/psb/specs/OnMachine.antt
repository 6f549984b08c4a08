-- What the program comes to over a machine: a file that held these bytes first, and folders that held this content.
use Rattle.std.specs.Prelude.{◌≡◌, ◌≢◌, ◌⊎◌, ◌↔◌, Bool, List, ℕ, [], Some, IfSome}
use Rattle.psb_station.specs.View.{View}
use Rattle.psb_station.specs.Calls.{Rose}
use Rattle.psb_station.specs.Folder.{FolderView, Content, Lists as Lists_folder, Tells_content}
use Rattle.psb_station.specs.Span.{Tells_bytes}
use Rattle.psb_settings.specs.declared.settings.Settings.{Settings}
use Rattle.psb_model.specs.History.{state}
use Rattle.psb_model.specs.Needed.{IsValid}
use Rattle.psb_model.specs.declared.change.Change.{Change}
use Rattle.psb_machine.specs.Course.{after_all}
use Rattle.psb_machine.specs.Machine.{fresh}
use Rattle.psb_machine.specs.declared.snap_note.SnapNote.{SnapNote}
use Rattle.node_journal.specs.Format.{Stands}
use Rattle.node_history.specs.Stands.{HoldsHistory}
use Rattle.snapshots.specs.Meaning.{Place, means}
use Rattle.snapshots.specs.Writing.{IsNotEmpty}
use Rattle.snapshot_backup.specs.Backed.{IsSnapOf, ListsThenReads}
use Rattle.snapshot_backup.specs.Course.{backup_course}
use Rattle.snapshot_backup.specs.Kept.{own_bodies}
use Rattle.backup_cli.specs.BackedUp.{BacksUpTo}
use Rattle.backup_cli.specs.Begun.{Begins}
use Rattle.backup_cli.specs.Completeness.{CompletesFor}
use Rattle.backup_cli.specs.RestoredTo.{RestoresTo}
use Rattle.said_lines.specs.Says.{Utters, IsRefusal, ledger_lines, snapshot_lines}
use Rattle.backup_cli.specs.Served.{Serves}
use Rattle.backup_cli.specs.Listed.{Lists}
use Rattle.backup_cli.specs.Forgotten.{Forgets}
use Rattle.backup_cli.specs.Words.{IsServe, IsLedger, IsInit, IsSnapshots, IsForget, IsBackup, IsRestore, IsQuiet, IsNoCommand}
use Rattle.said_lines.specs.declared.status.Status.{Status}
use Rattle.said_lines.specs.declared.status.Status.TheVariants.{Done, Usage, DiskFault, LinkFault, FolderFault, SayFault, NotNode, Already, NotEmpty}
use Rattle.backup_cli.specs.declared.words.Which.{Which}

pub record OnMachine (first : List ℕ) (tree : Content) (words : List (List ℕ)) (old new : View) (was is : FolderView) (status : Status) : Type 0 where
  -- Usage comes exactly where the words are no command; then its line is tried and nothing else done.
  pub usage : (status ≡ Usage) ↔ IsNoCommand words
  pub usage_said : status ≡ Usage → (text : List ℕ) × Utters old new 1 text
      × IsRefusal Usage text old new
  -- The headline. Whatever the file held: where that was a node's, this is a serving of that node, and so is what
  -- a crash leaves at each moment, as long as the file answered as one that held it.
  pub serves : (turns : ℕ) → IsServe words turns → Tells_bytes new
      → (h : List Change) (settings : Settings) → IsValid h → HoldsHistory Stands h first → (state h).settings ≡ Some settings
      → (opened : Bool) × Serves Stands h settings opened old new turns status
  -- The headlines of `ledger` and `snapshots`: the lines of the peers with the rows of their debt, or of the kept snapshots, at that history,
  -- and nothing else is done.
  pub lists : IsLedger words → Tells_bytes new
      → (h : List Change) (settings : Settings) → IsValid h → HoldsHistory Stands h first → (state h).settings ≡ Some settings
      → (opened : Bool) × Lists Stands h (ledger_lines settings (state h)) opened old new status
  pub shows : IsSnapshots words → Tells_bytes new
      → (h : List Change) → IsValid h → HoldsHistory Stands h first
      → (opened : Bool) × Lists Stands h (snapshot_lines (state h)) opened old new status
  -- The headline of `forget`: the snapshot of that number is given up, and its line is said.
  pub forgets : (number : ℕ) → IsForget words number → Tells_bytes new
      → (h : List Change) → IsValid h → HoldsHistory Stands h first
      → (opened : Bool) × Forgets Stands h number opened old new status
  -- The headline of `backup`: a snapshot of the folder is made, whose ticket means the folder's tree, and its line is
  -- said.
  pub backs_up : (root : List ℕ) → IsBackup words root → Tells_bytes new
      → (h : List Change) → IsValid h → HoldsHistory Stands h first
      → (opened : Bool) × BacksUpTo Stands h root opened old new is status
  -- Where the folders answered as what they held first, that is the tree of the snapshot.
  pub snapped : (root : List ℕ) → IsBackup words root → (status ≡ Done) ⊎ (status ≡ SayFault)
      → Tells_bytes new → Tells_content is → (h : List Change) → IsValid h → HoldsHistory Stands h first
      → (places : List Place) × (note : SnapNote) × IsSnapOf tree root places note.left
      × (means (own_bodies (after_all (fresh h) (backup_course places note)).history) note.ticket ≡ Some places)
  -- It lists all folders before it reads the first file, and asks for nothing but what it found.
  pub calls : (root : List ℕ) → IsBackup words root → ListsThenReads root was is
  -- The headline of `restore`: the snapshot of that number or ticket stands below the folder, or what is missing or
  -- altered is named.
  pub restores : (which : Which) (root : List ℕ) (turns : ℕ) → IsRestore words which root turns → Tells_bytes new
      → (h : List Change) (settings : Settings) → IsValid h → HoldsHistory Stands h first → (state h).settings ≡ Some settings
      → (opened : Bool) × RestoresTo Stands h settings which root turns opened old new was is status
  -- Nothing is restored into a folder that held anything first, and none is refused that holds nothing.
  pub empty : (which : Which) (root : List ℕ) (turns : ℕ) → IsRestore words which root turns
      → (status ≡ Done) ⊎ (status ≡ SayFault) → Tells_content is → Lists_folder tree root []
  pub not_empty : (which : Which) (root : List ℕ) (turns : ℕ) → IsRestore words which root turns
      → status ≡ NotEmpty → IfSome is.content (λ c. IsNotEmpty c root)
  -- Where what the command needs is there and no device that it uses fails, only memory can be short.
  pub completes : CompletesFor Stands words old new was is status
  -- Whatever the file answers, nothing is joined, heard or sent for these four.
  pub quiet : IsQuiet words → new.outside ≡ record old.outside { said = new.outside.said; say_faults = new.outside.say_faults }
  pub not_node : status ≡ NotNode → Tells_bytes new → (h : List Change) → IsValid h → ¬ HoldsHistory Stands h first
  -- The headline of `init`: what it comes to over each file and each folder.
  pub begins : (file : List ℕ) → IsInit words file
      → Begins Stands file old new was is status
  -- `init` and `backup` leave the folder as it was.
  pub content : ((file : List ℕ) × IsInit words file) ⊎ ((root : List ℕ) × IsBackup words root)
      → Tells_content is → is.content ≡ Some tree
  pub already : status ≡ Already → Tells_bytes new → first ≢ []
  pub disk_cause : status ≡ DiskFault → Rose old.disk_faults new.disk_faults
  pub link_cause : status ≡ LinkFault → Rose old.outside.link_faults new.outside.link_faults
  pub say_cause : status ≡ SayFault → Rose old.outside.say_faults new.outside.say_faults
  pub folder_cause : status ≡ FolderFault → Rose was.folder_faults is.folder_faults
  -- The first fault decides: no other device failed before it, and where all was done, none did.
  pub disk : (status ≡ DiskFault) ⊎ (new.disk_faults ≡ old.disk_faults)
  pub link : (status ≡ LinkFault) ⊎ (new.outside.link_faults ≡ old.outside.link_faults)
  pub folder : (status ≡ FolderFault) ⊎ (is.folder_faults ≡ was.folder_faults)
  pub all_said : status ≡ Done → new.outside.say_faults ≡ old.outside.say_faults
