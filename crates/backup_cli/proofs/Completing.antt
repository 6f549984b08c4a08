-- A command to which nothing is lacking is done, or memory was short.
use Rattle.std.proofs.Common.{◌≡◌, ◌==◌, ◌≢◌, ◌⊎◌, inl, inr, ℕ, true, false, List, Bor, IfSome, is_some, Option, None, Some, refl, sym, ◌∙◌, ap}
use Rattle.psb_digest.specs.Clashes.{Pair}
use Rattle.std.proofs.lemmas.Bool.{false≢true, eq-eqb}
use Rattle.psb_station.specs.View.{View}
use Rattle.psb_station.specs.Folder.{FolderView, Content, File, found}
use Rattle.psb_station.specs.Span.{Tells_bytes}
use Rattle.psb_station.proofs.Spans.{at_some}
use Rattle.node_journal.specs.Entry.{Entry}
use Rattle.psb_model.specs.History.{state}
use Rattle.psb_model.specs.Needed.{IsValid}
use Rattle.psb_model.specs.declared.change.Change.{Change}
use Rattle.psb_machine.specs.Machine.{has_snapshot}
use Rattle.node_history.specs.Stands.{HoldsHistory}
use Rattle.backup_cli.specs.Begun.{Begins}
use Rattle.backup_cli.specs.Completeness.{Holds, CanBegin, NoDiskFault, NoFolderFault, NoSayFault}
use Rattle.backup_cli.specs.Forgotten.{Finds}
use Rattle.said_lines.specs.Status.{IsElsewhere}
use Rattle.backup_cli.specs.Words.{IsCommand, IsServe, IsLedger, IsSnapshots, IsForget, IsInit, IsBackup, IsRestore, IsKind, IsNoCommand, Kind, OfServe, OfLedger, OfInit, OfSnapshots, OfForget, OfBackup, OfRestore}
use Rattle.said_lines.specs.declared.status.Status.{Status}
use Rattle.said_lines.specs.declared.status.Status.TheVariants.{Done, Usage, DiskFault, LinkFault, FolderFault, SayFault, NotNode, Already, BadSettings, NoSnapshot, TooLarge, Missing, Altered, Clash, NotEmpty, BadSkeleton, Memory}
use Rattle.backup_cli.specs.declared.words.Command.{Command}
use Rattle.backup_cli.specs.declared.words.Command.TheVariants.{Serve, Ledger, Init, Snapshots, Forget, Backup, Restore}
use Rattle.backup_cli.specs.declared.words.Which.{Which}
use Rattle.backup_cli.proofs.Beginnings.{completes}
use Rattle.backup_cli.proofs.WordLemmas.{apart}

-- ---- the answers

-- what a command that restores nothing does not answer leaves these two
pub ends_well : (status : Status) → IsElsewhere status → status ≢ Usage → status ≢ DiskFault → status ≢ LinkFault → status ≢ FolderFault → status ≢ SayFault → status ≢ NotNode → status ≢ Already → status ≢ BadSettings
    → ((k : ℕ) → status ≢ NoSnapshot k) → status ≢ TooLarge → ((c : Pair) → status ≢ Clash c) → (status ≡ Done) ⊎ (status ≡ Memory)
ends_well Done elsewhere usage disk link folder say node already settings number large clash = inl refl
ends_well Usage elsewhere usage disk link folder say node already settings number large clash = absurd (usage refl)
ends_well DiskFault elsewhere usage disk link folder say node already settings number large clash = absurd (disk refl)
ends_well LinkFault elsewhere usage disk link folder say node already settings number large clash = absurd (link refl)
ends_well FolderFault elsewhere usage disk link folder say node already settings number large clash = absurd (folder refl)
ends_well SayFault elsewhere usage disk link folder say node already settings number large clash = absurd (say refl)
ends_well NotNode elsewhere usage disk link folder say node already settings number large clash = absurd (node refl)
ends_well Already elsewhere usage disk link folder say node already settings number large clash = absurd (already refl)
ends_well BadSettings elsewhere usage disk link folder say node already settings number large clash = absurd (settings refl)
ends_well (NoSnapshot k) elsewhere usage disk link folder say node already settings number large clash = absurd (number k refl)
ends_well TooLarge elsewhere usage disk link folder say node already settings number large clash = absurd (large refl)
ends_well (Missing name) elsewhere usage disk link folder say node already settings number large clash = absurd elsewhere
ends_well (Altered name got) elsewhere usage disk link folder say node already settings number large clash = absurd elsewhere
ends_well (Clash c) elsewhere usage disk link folder say node already settings number large clash = absurd (clash c refl)
ends_well NotEmpty elsewhere usage disk link folder say node already settings number large clash = absurd elsewhere
ends_well (BadSkeleton f place) elsewhere usage disk link folder say node already settings number large clash = absurd elsewhere
ends_well Memory elsewhere usage disk link folder say node already settings number large clash = inr refl

-- a disk that holds a node is not told to hold none
pub is_a_node : (stands : List Entry → List ℕ → Type 0) (h : List Change) (old new : View) (status : Status) → Holds stands h old new
    → (status ≡ NotNode → Tells_bytes new → IfSome old.bytes (λ b. (g : List Change) → IsValid g → ¬ HoldsHistory stands g b)) → status ≢ NotNode
is_a_node stands h old new status holds not_node is = at_some old.bytes (λ b. (g : List Change) → IsValid g → ¬ HoldsHistory stands g b) holds.1.bytes (not_node is holds.0) holds.1.told h holds.1.valid holds.1.holds

-- nor a snapshot that it keeps not to be there
pub is_kept : (h : List Change) (number : ℕ) (status : Status) → Finds h number status → has_snapshot (state h) number ≡ true → (k : ℕ) → status ≢ NoSnapshot k
is_kept h number status finds kept k is = let none = (finds.absent k is).1 in absurd (cc (none, kept))

-- an empty disk and a file with settings are enough to begin
pub begins_well : (stands : List Entry → List ℕ → Type 0) (file : List ℕ) (old new : View) (was is : FolderView) (status : Status) → Begins stands file old new was is status → CanBegin file old new was is
    → NoDiskFault old new → NoFolderFault was is → NoSayFault old new → (status ≡ Done) ⊎ (status ≡ Memory)
begins_well stands file old new was is status begins can disk folder say = at was.content refl (begins.reads.content can.shows)
  where
    at : (o : Option Content) → was.content ≡ o → is.content ≡ was.content → (status ≡ Done) ⊎ (status ≡ Memory)
    at None none same = absurd (false≢true (sym (ap (λ (x : Option Content). is_some x) (same ∙ none)) ∙ can.shows))
    at (Some c) told same = completes stands file old new was is status begins can.tells can.shows can.empty c can.has.text can.has.settings told (at_some was.content (λ k. found k file ≡ Some (File can.has.text)) c can.has.file_is told) can.has.valid disk folder say

-- ---- the command

abbrev kind_of : Command → Kind
kind_of (Serve turns) = OfServe
kind_of Ledger = OfLedger
kind_of (Init file) = OfInit
kind_of Snapshots = OfSnapshots
kind_of (Forget number) = OfForget
kind_of (Backup root) = OfBackup
kind_of (Restore which root turns) = OfRestore

is_of : (words : List (List ℕ)) (command : Command) → IsCommand words command → IsKind words (kind_of command)
is_of words (Serve turns) is = (turns, is)
is_of words Ledger is = is
is_of words (Init file) is = (file.now, is)
is_of words Snapshots is = is
is_of words (Forget number) is = (number, is)
is_of words (Backup root) is = (root.now, is)
is_of words (Restore which root turns) is = (which, root.now, turns, is)

pub no_one : (words : List (List ℕ)) (command : Command) (P : Type 0) → IsNoCommand words → IsCommand words command → P
no_one words command P none is = absurd (none.none (kind_of command) (is_of words command is))

abbrev number_of : Kind → ℕ
number_of OfServe = 0
number_of OfLedger = 1
number_of OfInit = 2
number_of OfSnapshots = 3
number_of OfForget = 4
number_of OfBackup = 5
number_of OfRestore = 6

-- what holds of it, where the words are those of a command of another kind
other : (words : List (List ℕ)) (kind : Kind) (command : Command) (P : Type 0) → IsKind words kind → (number_of kind == number_of (kind_of command)) ≡ false → IsCommand words command → P
other words kind command P here differ is =
    absurd (apart words kind (kind_of command) (λ e. false≢true (sym differ ∙ eq-eqb (number_of kind) (number_of (kind_of command)) (ap (λ (k : Kind). number_of k) e))) here (is_of words command is))

pub at_serve : (words : List (List ℕ)) (k : ℕ) (P : Command → Type 0) → IsServe words k → ((n : ℕ) → IsServe words n → P (Serve n)) → (command : Command) → IsCommand words command → P command
at_serve words k P here holds (Serve n) is = holds n is
at_serve words k P here holds Ledger is = other words OfServe Ledger (P Ledger) (k, here) refl is
at_serve words k P here holds (Init file) is = other words OfServe (Init file) (P (Init file)) (k, here) refl is
at_serve words k P here holds Snapshots is = other words OfServe Snapshots (P Snapshots) (k, here) refl is
at_serve words k P here holds (Forget number) is = other words OfServe (Forget number) (P (Forget number)) (k, here) refl is
at_serve words k P here holds (Backup root) is = other words OfServe (Backup root) (P (Backup root)) (k, here) refl is
at_serve words k P here holds (Restore which root turns) is = other words OfServe (Restore which root turns) (P (Restore which root turns)) (k, here) refl is

pub at_ledger : (words : List (List ℕ)) (P : Command → Type 0) → IsLedger words → (P Ledger) → (command : Command) → IsCommand words command → P command
at_ledger words P here holds (Serve n) is = other words OfLedger (Serve n) (P (Serve n)) here refl is
at_ledger words P here holds Ledger is = holds
at_ledger words P here holds (Init file) is = other words OfLedger (Init file) (P (Init file)) here refl is
at_ledger words P here holds Snapshots is = other words OfLedger Snapshots (P Snapshots) here refl is
at_ledger words P here holds (Forget number) is = other words OfLedger (Forget number) (P (Forget number)) here refl is
at_ledger words P here holds (Backup root) is = other words OfLedger (Backup root) (P (Backup root)) here refl is
at_ledger words P here holds (Restore which root turns) is = other words OfLedger (Restore which root turns) (P (Restore which root turns)) here refl is

pub at_init : (words : List (List ℕ)) (path : List ℕ) (P : Command → Type 0) → IsInit words path → ((file : Bor (List ℕ)) → IsInit words file.now → P (Init file)) → (command : Command) → IsCommand words command → P command
at_init words path P here holds (Serve n) is = other words OfInit (Serve n) (P (Serve n)) (path, here) refl is
at_init words path P here holds Ledger is = other words OfInit Ledger (P Ledger) (path, here) refl is
at_init words path P here holds (Init file) is = holds file is
at_init words path P here holds Snapshots is = other words OfInit Snapshots (P Snapshots) (path, here) refl is
at_init words path P here holds (Forget number) is = other words OfInit (Forget number) (P (Forget number)) (path, here) refl is
at_init words path P here holds (Backup root) is = other words OfInit (Backup root) (P (Backup root)) (path, here) refl is
at_init words path P here holds (Restore which root turns) is = other words OfInit (Restore which root turns) (P (Restore which root turns)) (path, here) refl is

pub at_snapshots : (words : List (List ℕ)) (P : Command → Type 0) → IsSnapshots words → (P Snapshots) → (command : Command) → IsCommand words command → P command
at_snapshots words P here holds (Serve n) is = other words OfSnapshots (Serve n) (P (Serve n)) here refl is
at_snapshots words P here holds Ledger is = other words OfSnapshots Ledger (P Ledger) here refl is
at_snapshots words P here holds (Init file) is = other words OfSnapshots (Init file) (P (Init file)) here refl is
at_snapshots words P here holds Snapshots is = holds
at_snapshots words P here holds (Forget number) is = other words OfSnapshots (Forget number) (P (Forget number)) here refl is
at_snapshots words P here holds (Backup root) is = other words OfSnapshots (Backup root) (P (Backup root)) here refl is
at_snapshots words P here holds (Restore which root turns) is = other words OfSnapshots (Restore which root turns) (P (Restore which root turns)) here refl is

pub at_forget : (words : List (List ℕ)) (k : ℕ) (P : Command → Type 0) → IsForget words k → ((j : ℕ) → IsForget words j → P (Forget j)) → (command : Command) → IsCommand words command → P command
at_forget words k P here holds (Serve n) is = other words OfForget (Serve n) (P (Serve n)) (k, here) refl is
at_forget words k P here holds Ledger is = other words OfForget Ledger (P Ledger) (k, here) refl is
at_forget words k P here holds (Init file) is = other words OfForget (Init file) (P (Init file)) (k, here) refl is
at_forget words k P here holds Snapshots is = other words OfForget Snapshots (P Snapshots) (k, here) refl is
at_forget words k P here holds (Forget number) is = holds number is
at_forget words k P here holds (Backup root) is = other words OfForget (Backup root) (P (Backup root)) (k, here) refl is
at_forget words k P here holds (Restore which root turns) is = other words OfForget (Restore which root turns) (P (Restore which root turns)) (k, here) refl is

pub at_backup : (words : List (List ℕ)) (path : List ℕ) (P : Command → Type 0) → IsBackup words path → ((root : Bor (List ℕ)) → IsBackup words root.now → P (Backup root)) → (command : Command) → IsCommand words command → P command
at_backup words path P here holds (Serve n) is = other words OfBackup (Serve n) (P (Serve n)) (path, here) refl is
at_backup words path P here holds Ledger is = other words OfBackup Ledger (P Ledger) (path, here) refl is
at_backup words path P here holds (Init file) is = other words OfBackup (Init file) (P (Init file)) (path, here) refl is
at_backup words path P here holds Snapshots is = other words OfBackup Snapshots (P Snapshots) (path, here) refl is
at_backup words path P here holds (Forget number) is = other words OfBackup (Forget number) (P (Forget number)) (path, here) refl is
at_backup words path P here holds (Backup root) is = holds root is
at_backup words path P here holds (Restore which root turns) is = other words OfBackup (Restore which root turns) (P (Restore which root turns)) (path, here) refl is

pub at_restore : (words : List (List ℕ)) (w : Which) (path : List ℕ) (k : ℕ) (P : Command → Type 0) → IsRestore words w path k → ((which : Which) (root : Bor (List ℕ)) (turns : ℕ) → IsRestore words which root.now turns → P (Restore which root turns)) → (command : Command) → IsCommand words command → P command
at_restore words w path k P here holds (Serve n) is = other words OfRestore (Serve n) (P (Serve n)) (w, path, k, here) refl is
at_restore words w path k P here holds Ledger is = other words OfRestore Ledger (P Ledger) (w, path, k, here) refl is
at_restore words w path k P here holds (Init file) is = other words OfRestore (Init file) (P (Init file)) (w, path, k, here) refl is
at_restore words w path k P here holds Snapshots is = other words OfRestore Snapshots (P Snapshots) (w, path, k, here) refl is
at_restore words w path k P here holds (Forget number) is = other words OfRestore (Forget number) (P (Forget number)) (w, path, k, here) refl is
at_restore words w path k P here holds (Backup root) is = other words OfRestore (Backup root) (P (Backup root)) (w, path, k, here) refl is
at_restore words w path k P here holds (Restore which root turns) is = holds which root turns is
