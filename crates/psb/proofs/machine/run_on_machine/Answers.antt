use Rattle.std.proofs.Common.{◌≡◌, ◌≢◌, inl, ⊎_elim, ℕ, List, [], Some, ◌∙◌, ap}
use Rattle.psb_station.specs.View.{View}
use Rattle.psb_station.specs.Folder.{FolderView, Content, Lists}
use Rattle.psb_station.proofs.Spans.{at_some}
use Rattle.psb_model.specs.Needed.{IsValid}
use Rattle.psb_model.specs.declared.change.Change.{Change}
use Rattle.node_journal.specs.Format.{Stands}
use Rattle.node_history.specs.Stands.{HoldsHistory}
use Rattle.snapshot_backup.specs.Backed.{IsSnapOf}
use Rattle.backup_cli.specs.Served.{IsNode}
use Rattle.psb.proofs.machine.run_on_machine.Goals as goal

-- a file that nothing touched holds what it held first
held_first : (bytes : List ℕ) (v : View) (h : List Change) → v.bytes ≡ Some bytes → IsValid h → HoldsHistory Stands h bytes → IsNode Stands h v
held_first bytes v h reads valid holds = record { bytes = bytes; told = reads; valid = valid; holds = holds }

pub returns : goal.returns
returns g c =
    let run = c.run.ensures in
    let reads = c.requires.begun.reads in
    let tree = ap (λ (v : FolderView). v.content) c.requires.first in
    record {
      usage = run.usage;
      usage_said = run.usage_said;
      serves = λ turns words told h settings valid holds set. run.serves turns words told h settings (held_first _ _ h reads valid holds) set;
      lists = λ words told h settings valid holds set. run.lists words told h settings (held_first _ _ h reads valid holds) set;
      shows = λ words told h valid holds. run.shows words told h (held_first _ _ h reads valid holds);
      forgets = λ number words told h valid holds. run.forgets number words told h (held_first _ _ h reads valid holds);
      backs_up = λ root words told h valid holds. run.backs_up root words told h (held_first _ _ h reads valid holds);
      snapped = λ root words well told shows h valid holds.
          (let made = (run.backs_up root words told h (held_first _ _ h reads valid holds)).1.made well in
          (made.places, made.note, at_some _ (λ (t : Content). IsSnapOf t root made.places made.note.left) _ made.of (run.content root words shows ∙ tree), made.means_it));
      calls = run.calls;
      restores = λ which root turns words told h settings valid holds set. run.restores which root turns words told h settings (held_first _ _ h reads valid holds) set;
      empty = λ which root turns words done shows. at_some _ (λ (t : Content). Lists t root []) _ (run.empty which root turns words done shows) tree;
      not_empty = run.not_empty;
      completes = run.completes;
      quiet = run.quiet;
      not_node = λ is told h valid holds. at_some _ (λ (b : List ℕ). (k : List Change) → IsValid k → ¬ HoldsHistory Stands k b) _ (run.not_node is told) reads h valid holds;
      begins = run.begins;
      content = λ words told. ⊎_elim (λ init. (run.begins init.0 init.1).reads.content told) (λ backup. run.content backup.0 backup.1 told) words ∙ tree;
      already = λ is told. (let init = run.of_init (inl is) in at_some _ (λ (b : List ℕ). b ≢ []) _ ((run.begins init.0 init.1).already is told) reads);
      disk_cause = run.disk_cause;
      link_cause = run.link_cause;
      say_cause = run.say_cause;
      folder_cause = run.folder_cause;
      disk = run.disk;
      link = run.link;
      folder = run.folder;
      all_said = run.all_said;
    }
