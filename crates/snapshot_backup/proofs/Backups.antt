-- A backup, of what was kept and of the note.
use Rattle.std.proofs.Common.{◌≡◌, ◌⊎◌, inl, inr, ⊎_elim, ℕ, ◌+◌, ◌≤◌, Bool, true, false, not, ◌||◌, cond, List, [], ◌∷◌, ◌++◌, length, All, Option, Some, None, IfSome, refl, sym, ◌∙◌, ap, subst}
use Rattle.std.proofs.lemmas.List.{append-nil, append_assoc}
use Rattle.std.proofs.lemmas.List.Elements.{All-nil, All-cons, All-append}
use Rattle.psb_station.specs.View.{View}
use Rattle.psb_station.specs.Folder.{Content}
use Rattle.psb_station.specs.Span.{DiskWorks, Tells_bytes}
use Rattle.node_journal.specs.Entry.{Entry}
use Rattle.psb_model.specs.State.{State, is_held, own_has, snaps_made}
use Rattle.psb_model.specs.History.{state}
use Rattle.psb_model.specs.Needed.{IsValid}
use Rattle.psb_model.specs.declared.snapshots.Snapshot.{Snapshot}
use Rattle.psb_model.specs.declared.change.Change.{Change}
use Rattle.psb_model.proofs.Prefixes.{state_snoc}
use Rattle.psb_machine.specs.Deals.{meets_others}
use Rattle.psb_machine.specs.Machine.{Situation, Input, Keep, Snap, quiet, grows, kept_with, snapped_with, changes_of, next}
use Rattle.psb_machine.specs.Course.{Step, Absorb, after_all}
use Rattle.psb_machine.specs.declared.snap_note.SnapNote.{SnapNote}
use Rattle.psb_machine.proofs.Courses.{after_all-append}
use Rattle.node_core.specs.declared.fault.Fault.{Fault}
use Rattle.node_core.specs.declared.fault.Fault.TheVariants as fault
use Rattle.node_core.specs.declared.node.Node.{Node}
use Rattle.node_core.specs.Stored.{Knows, Stored}
use Rattle.node_serve.specs.Spans.{Fed}
use Rattle.node_serve.proofs.Runs.{fed_then, undone_then, fed_as, all_done}
use Rattle.convergent_seal.specs.Sealing.{sealed, sealed_ref}
use Rattle.skeleton.specs.declared.limits.TheConstants.{MOST_TEXT_BYTES}
use Rattle.skeleton.specs.Entries.{IsSkeleton}
use Rattle.snapshots.specs.Meaning.{Place}
use Rattle.snapshots.specs.Tickets.{skeleton_of_tree}
use Rattle.snapshot_backup.specs.Backed.{Notes, BacksUp, StopsBackup, IsKeptChange, AreTried, IsTooMuch, IsSnapOf, snapshot_of, text_len}
use Rattle.snapshot_backup.specs.Course.{pieces_of, keep_steps, backup_course}
use Rattle.snapshot_backup.specs.Endings.{backup_fault_of, AllKept, StoppedFor}
use Rattle.snapshot_backup.specs.Kept.{AreKept}
use Rattle.snapshot_backup.specs.Runs.{KeepsSo}
use Rattle.snapshot_backup.specs.declared.fault.BackupFault.{BackupFault}
use Rattle.snapshot_backup.specs.declared.fault.BackupFault.TheVariants as backup_fault
use Rattle.snapshot_backup.proofs.Fronts.{none_left, front_all}
use Rattle.snapshot_backup.proofs.Meant.{snapped_stays, kept_means}

-- ---- the changes

kept_change : (n : Situation) (name bytes : List ℕ) (b : Bool) → (l : List Change) × All IsKeptChange l × (changes_of (cond b quiet (grows (kept_with (state n.history) name bytes))) ≡ l)
kept_change n name bytes true = ([], All-nil IsKeptChange, refl)
kept_change n name bytes false =
    let new = not (is_held (state n.history) name) in
    let c = kept_with (state n.history) name bytes in
    (c ∷ [], All-cons IsKeptChange c [] (name, length bytes, new, Some (cond new bytes []), refl) (All-nil IsKeptChange), refl)

kept_changes : (n : Situation) (ps : List (List ℕ)) → (l : List Change) × All IsKeptChange l × ((after_all n (keep_steps ps)).history ≡ n.history ++ l)
kept_changes n [] = ([], All-nil IsKeptChange, sym (append-nil n.history))
kept_changes n (p ∷ ps) =
    let name = (sealed_ref p).name in
    let m = next n (Keep name (sealed p)) in
    let here = kept_change n name (sealed p) (own_has (state n.history).own name || meets_others n.history name (sealed p)) in
    let rest = kept_changes m ps in
    (here.0 ++ rest.0, All-append IsKeptChange here.0 rest.0 here.1 rest.1, rest.2 ∙ ap (λ (l : List Change). (n.history ++ l) ++ rest.0) here.2 ∙ append_assoc n.history here.0 rest.0)

-- a note makes the last snapshot that is kept
pub is_noted : {L : Type 0} (n1 n2 : Node L) (m : Situation) (note : SnapNote) (made : ℕ) → Knows n1 m → Knows n2 (next m (Snap note)) → snaps_made n1.ledger.state ≡ made → (before : List Snapshot) × (n2.ledger.state.kept ≡ before ++ snapshot_of (made + 1) note ∷ [])
is_noted n1 n2 m note made k1 k2 is =
    let s = state m.history in
    (s.kept, ap (λ (t : State). t.kept) (k2.ledger ∙ state_snoc m.history (snapped_with s note)) ∙ ap (λ (n : ℕ). s.kept ++ snapshot_of (n + 1) note ∷ []) (sym (ap snaps_made k1.ledger) ∙ is))

-- the situation behind the whole course
behind_course : (n : Situation) (places : List Place) (note : SnapNote) → after_all n (backup_course places note) ≡ next (after_all n (keep_steps (pieces_of places))) (Snap note)
behind_course n places note = after_all-append n (keep_steps (pieces_of places)) (Absorb (Snap note) ∷ [])

all_stay : (h : List Change) (note : SnapNote) (ps : List (List ℕ)) → IsValid h → AreKept h ps → AreKept (h ++ snapped_with (state h) note ∷ []) ps
all_stay h note [] v all = tt
all_stay h note (p ∷ ps) v all = (snapped_stays h note (sealed_ref p).name (sealed p) v all.0, all_stay h note ps v all.1)

-- a fault of the node is none of too large a tree
pub never_large : (f : Fault) → backup_fault_of f ≡ backup_fault.TooLarge → ⊥
never_large fault.NotNode is = absurd (cc)
never_large fault.DiskFault is = absurd (cc)
never_large fault.Broken is = absurd (cc)
never_large fault.BadSettings is = absurd (cc)
never_large (fault.Clash c) is = absurd (cc)
never_large (fault.Altered name) is = absurd (cc)
never_large (fault.NoSnapshot k) is = absurd (cc)
never_large fault.Memory is = absurd (cc)

module _ {L : Type 0} (holds : L → List Entry → List ℕ → Type 0) (stands : List Entry → List ℕ → Type 0) (size : L → ℕ) (keeps : L → ℕ → Bool) (broken : L → Bool) (law : (log : L) (es : List Entry) (c : List ℕ) → holds log es c → stands es c) where
  -- the node behind what was kept
  record Behind (n1 : Node L) (v1 : View) (m : Situation) : Type 0 where
    knows : Knows n1 m
    stored : Stored holds n1 m.history v1

  behind : (n0 n1 : Node L) (v0 v1 : View) (n : Situation) (ps : List (List ℕ)) → KeepsSo holds stands size keeps broken n0 n1 v0 v1 ps AllKept → Tells_bytes v1 → Knows n0 n → Stored holds n0 n.history v0 → Behind n1 v1 (after_all n (keep_steps ps))
  behind n0 n1 v0 v1 n ps so tells k s =
      let r = front_all holds stands broken law n0 n1 v0 v1 n ps (so.front tells n k s) in
      let done : keep_steps ps ≡ r.fed.done = sym r.steps_are ∙ all_done holds stands broken law n0 n1 v0 v1 n r.steps None r.fed in
      let whole = (so.up refl).whole in
      record {
        knows = subst (λ (d : List Step). Knows n1 (after_all n d)) (sym done) (r.fed.knows whole);
        stored = subst (λ (d : List Step). Stored holds n1 (after_all n d).history v1) (sym done) (r.fed.stored whole);
      }

  -- the note was fed behind all pieces, and was made or not
  noted : (n0 n1 n2 : Node L) (v0 v1 v2 : View) (n : Situation) (places : List Place) (note : SnapNote) (i : Input) (ok : Bool) → i ≡ Snap note → KeepsSo holds stands size keeps broken n0 n1 v0 v1 (pieces_of places) AllKept → DiskWorks v1 v2
      → (Tells_bytes v2 → (m : Situation) → Knows n1 m → Stored holds n1 m.history v1 → Fed holds stands broken n1 n2 v1 v2 m (Absorb i ∷ []) None ok)
      → Tells_bytes v2 → Knows n0 n → Stored holds n0 n.history v0 → Fed holds stands broken n0 n2 v0 v2 n (backup_course places note) None ok
  noted n0 n1 n2 v0 v1 v2 n places note i ok is so works fed tells k s =
      let ps = pieces_of places in
      let told = works.tells tells in
      let r = front_all holds stands broken law n0 n1 v0 v1 n ps (so.front told n k s) in
      let done : keep_steps ps ≡ r.fed.done = sym r.steps_are ∙ all_done holds stands broken law n0 n1 v0 v1 n r.steps None r.fed in
      let b = behind n0 n1 v0 v1 n ps so told k s in
      fed_as holds stands broken law n0 n2 v0 v2 n (r.steps ++ Absorb i ∷ []) (backup_course places note) None ok (ap (λ (l : List Step). l ++ Absorb i ∷ []) r.steps_are ∙ ap (λ (x : Input). keep_steps ps ++ Absorb x ∷ []) is)
      (fed_then holds stands broken law n0 n1 n2 v0 v1 v2 n r.steps (Absorb i ∷ []) None None ok r.fed
      (subst (λ (d : List Step). Fed holds stands broken n1 n2 v1 v2 (after_all n d) (Absorb i ∷ []) None ok) done (fed tells (after_all n (keep_steps ps)) b.knows b.stored)))

  pub backed_up : (n0 n1 n2 : Node L) (v0 v1 v2 : View) (n : Situation) (places : List Place) (note : SnapNote) (i : Input) → i ≡ Snap note → KeepsSo holds stands size keeps broken n0 n1 v0 v1 (pieces_of places) AllKept → DiskWorks v1 v2
      → (Tells_bytes v2 → (m : Situation) → Knows n1 m → Stored holds n1 m.history v1 → Fed holds stands broken n1 n2 v1 v2 m (Absorb i ∷ []) None true)
      → Notes places note → IsSkeleton (skeleton_of_tree places) → text_len places ≤ MOST_TEXT_BYTES
      → Tells_bytes v2 → Knows n0 n → Stored holds n0 n.history v0 → BacksUp holds stands broken n0 n2 v0 v2 n places note
  backed_up n0 n1 n2 v0 v1 v2 n places note i is so works fed notes skeleton short tells k s =
      let ps = pieces_of places in
      let m = after_all n (keep_steps ps) in
      let b = behind n0 n1 v0 v1 n ps so (works.tells tells) k s in
      let kept = kept_changes n ps in
      let front = front_all holds stands broken law n0 n1 v0 v1 n ps (so.front (works.tells tells) n k s) in
      let history : (after_all n (backup_course places note)).history ≡ m.history ++ snapped_with (state m.history) note ∷ [] = ap (λ (x : Situation). x.history) (behind_course n places note) in
      record {
        fed = noted n0 n1 n2 v0 v1 v2 n places note i true is so works fed tells k s;
        grown = (kept.0, kept.1, history ∙ ap (λ (h : List Change). h ++ snapped_with (state h) note ∷ []) kept.2);
        means_it = kept_means (after_all n (backup_course places note)).history places note.ticket skeleton short notes.ticket
            (subst (λ (h : List Change). AreKept h ps) (sym history) (all_stay m.history note ps b.knows.valid (front.kept refl).each));
      }

  -- ---- where it stopped

  pub not_noted : (n0 n1 n2 : Node L) (v0 v1 v2 : View) (n : Situation) (places : List Place) (note : SnapNote) (i : Input) (f : Fault) (content : Option Content) (root : List ℕ) → i ≡ Snap note → KeepsSo holds stands size keeps broken n0 n1 v0 v1 (pieces_of places) AllKept → DiskWorks v1 v2
      → (Tells_bytes v2 → (m : Situation) → Knows n1 m → Stored holds n1 m.history v1 → Fed holds stands broken n1 n2 v1 v2 m (Absorb i ∷ []) None false)
      → (f ≡ fault.DiskFault) ⊎ (f ≡ fault.Memory) → Notes places note → IfSome content (λ c. IsSnapOf c root places note.left)
      → Tells_bytes v2 → Knows n0 n → Stored holds n0 n.history v0 → StopsBackup holds stands broken n0 n2 v0 v2 n (backup_fault_of f) content root
  not_noted n0 n1 n2 v0 v1 v2 n places note i f content root is so works fed why notes snap tells k s =
      let ps = pieces_of places in
      let r = front_all holds stands broken law n0 n1 v0 v1 n ps (so.front (works.tells tells) n k s) in
      let whole = (so.up refl).whole in
      let more = fed tells (after_all n r.fed.done) (r.fed.knows whole) (r.fed.stored whole) in
      record {
        tried = r.steps ++ Absorb i ∷ [];
        all = false;
        are = inr (
          places,
          note,
          ap (λ (l : List Step). l ++ Absorb i ∷ []) r.steps_are ∙ ap (λ (x : Input). keep_steps ps ++ Absorb x ∷ []) is,
          refl,
          notes,
          snap,
          ⊎_elim (λ disk. inl (ap backup_fault_of disk)) (λ memory. inr (ap backup_fault_of memory)) why,
        );
        too_large = λ large. absurd (never_large f large);
        fed = fed_then holds stands broken law n0 n1 n2 v0 v1 v2 n r.steps (Absorb i ∷ []) None None false r.fed more;
        last = undone_then holds stands broken law n0 n1 n2 v0 v1 v2 n r.steps (Absorb i ∷ []) None None false r.fed more ∙ none_left holds stands broken law n1 n2 v1 v2 (after_all n r.fed.done) (Absorb i) more;
      }

  -- some pieces were to be kept, and not all were
  pub stopped_at : (n0 n1 : Node L) (v0 v1 : View) (n : Situation) (ps : List (List ℕ)) (e : BackupFault) (content : Option Content) (root : List ℕ) → KeepsSo holds stands size keeps broken n0 n1 v0 v1 ps (StoppedFor e)
      → ((tried rest : List (List ℕ)) → ps ≡ tried ++ rest → AreTried e content root tried)
      → ((tried rest : List (List ℕ)) → ps ≡ tried ++ rest → e ≡ backup_fault.TooLarge → IsTooMuch (snaps_made (state n.history)) content root (keep_steps tried))
      → Tells_bytes v1 → Knows n0 n → Stored holds n0 n.history v0 → StopsBackup holds stands broken n0 n1 v0 v1 n e content root
  stopped_at n0 n1 v0 v1 n ps e content root so are large tells k s =
      let f = so.front tells n k s in
      record {
        tried = f.run.steps;
        all = f.all;
        are = inl (f.tried, f.run.steps_are, are f.tried f.rest f.parts, f.ends);
        too_large = λ is. subst (IsTooMuch (snaps_made (state n.history)) content root) (sym f.run.steps_are) (large f.tried f.rest f.parts is);
        fed = f.run.fed;
        last = f.run.last;
      }
