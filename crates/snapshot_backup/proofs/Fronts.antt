-- Runs in which pieces are kept, one after another.
use Rattle.std.proofs.Common.{◌≡◌, ℕ, ◌≤◌, Bool, true, false, List, [], ◌∷◌, ◌++◌, length, None, Some, Result, Ok, Err, IfErr, refl, sym, ◌∙◌, ap, subst, arith, length-append}
use Rattle.std.proofs.lemmas.Bool.{false≢true}
use Rattle.std.proofs.lemmas.List.{append-nil, append_assoc, map-append}
use Rattle.psb_digest.specs.Clashes.{Pair}
use Rattle.psb_station.specs.View.{View}
use Rattle.psb_station.specs.Span.{DiskWorks, Tells_bytes}
use Rattle.psb_station.proofs.Spans.{works_same, works_then}
use Rattle.node_journal.specs.Entry.{Entry}
use Rattle.psb_model.specs.State.{State}
use Rattle.psb_model.specs.History.{state}
use Rattle.psb_machine.specs.Machine.{Situation, Input, Keep, settled}
use Rattle.psb_machine.specs.Course.{Step, Absorb, after_all}
use Rattle.psb_machine.proofs.Courses.{after_all-append}
use Rattle.convergent_seal.specs.Sealing.{sealed, sealed_ref}
use Rattle.node_core.specs.declared.node.Node.{Node}
use Rattle.node_history.proofs.Presence.{err_is}
use Rattle.node_core.specs.Refusing.{is_refused, when_taken, IsHeldAs}
use Rattle.node_core.specs.declared.fault.Fault.{Fault}
use Rattle.node_core.specs.declared.fault.Fault.TheVariants as fault
use Rattle.node_core.specs.Stored.{Knows, Stored}
use Rattle.node_serve.specs.Spans.{no_tally, IsReady, Fed, IsUp}
use Rattle.node_serve.proofs.Runs.{fed_none, fed_then, undone_then, uncounted, all_done}
use Rattle.snapshot_backup.specs.Course.{keep_step, keep_steps}
use Rattle.snapshot_backup.specs.Endings.{backup_fault_of, Ending, AllKept, StoppedFor, end_of, MeetsOther, EndsFor, Ends}
use Rattle.snapshot_backup.specs.Kept.{KeepsAll, Owns}
use Rattle.snapshot_backup.specs.Runs.{KeepsPieces, KeepsFront, KeepsSo}
use Rattle.snapshot_backup.specs.declared.fault.BackupFault.{BackupFault}
use Rattle.snapshot_backup.specs.declared.fault.BackupFault.TheVariants as backup_fault
use Rattle.node_history.proofs.HeldBodies.{held_brought}
use Rattle.snapshot_backup.proofs.Keeping.{keeps_none, keeps_then, owns_none, owns_then, keeps_piece, owns_piece}

-- where a course of pieces leads
pub led_by : (n : Situation) (ps qs : List (List ℕ)) → after_all n (keep_steps (ps ++ qs)) ≡ after_all (after_all n (keep_steps ps)) (keep_steps qs)
led_by n ps qs = ap (after_all n) (map-append keep_step ps qs) ∙ after_all-append n (keep_steps ps) (keep_steps qs)

-- ---- how it ends

-- behind pieces that were kept
meets_then : (n : Situation) (ps tried : List (List ℕ)) (c : Pair) → MeetsOther (after_all n (keep_steps ps)) tried c → MeetsOther n (ps ++ tried) c
meets_then n ps tried c m = record {
  before = ps ++ m.before;
  piece = m.piece;
  tried_are = ap (λ (l : List (List ℕ)). ps ++ l) m.tried_are ∙ sym (append_assoc ps m.before (m.piece ∷ []));
  first = subst (λ (x : Situation). IsHeldAs x (Keep (sealed_ref m.piece).name (sealed m.piece)) c.first) (sym (led_by n ps m.before)) m.first;
  second = m.second;
}

ends_behind : (n : Situation) (ps tried : List (List ℕ)) (all : Bool) (e : BackupFault) → EndsFor e (after_all n (keep_steps ps)) tried all → EndsFor e n (ps ++ tried) all
ends_behind n ps tried all (backup_fault.Node (fault.Clash c)) ends = (ends.0, meets_then n ps tried c ends.1)
ends_behind n ps tried all (backup_fault.Node fault.NotNode) ends = ends
ends_behind n ps tried all (backup_fault.Node fault.DiskFault) ends = ends
ends_behind n ps tried all (backup_fault.Node fault.Broken) ends = ends
ends_behind n ps tried all (backup_fault.Node fault.BadSettings) ends = ends
ends_behind n ps tried all (backup_fault.Node (fault.Altered name)) ends = ends
ends_behind n ps tried all (backup_fault.Node (fault.NoSnapshot k)) ends = ends
ends_behind n ps tried all (backup_fault.Node fault.Memory) ends = ends
ends_behind n ps tried all backup_fault.Folder ends = ends
ends_behind n ps tried all backup_fault.TooLarge ends = ends
ends_behind n ps tried all backup_fault.Memory ends = ends

ends_then : (n : Situation) (ps tried rest : List (List ℕ)) (all : Bool) (end : Ending) → Ends end (after_all n (keep_steps ps)) tried rest all → Ends end n (ps ++ tried) rest all
ends_then n ps tried rest all AllKept ends = ends
ends_then n ps tried rest all (StoppedFor e) ends = ends_behind n ps tried all e ends

-- what no fault of the node is: then each piece that was tried was kept
abbrev pub IsLeft : BackupFault → Type 0
IsLeft (backup_fault.Node f) = ⊥
IsLeft backup_fault.Folder = Unit {0}
IsLeft backup_fault.TooLarge = Unit {0}
IsLeft backup_fault.Memory = Unit {0}

pub left_ends : (n : Situation) (tried : List (List ℕ)) (e : BackupFault) → IsLeft e → EndsFor e n tried true
left_ends n tried (backup_fault.Node f) left = absurd left
left_ends n tried backup_fault.Folder left = refl
left_ends n tried backup_fault.TooLarge left = refl
left_ends n tried backup_fault.Memory left = tt

-- the one piece that was tried
pub fault_ends : (n : Situation) (plain : List ℕ) (f : Fault) → ((c : Pair) → f ≡ fault.Clash c → IsHeldAs n (Keep (sealed_ref plain).name (sealed plain)) c.first × (c.second ≡ sealed plain)) → EndsFor (backup_fault_of f) n (plain ∷ []) false
fault_ends n plain (fault.Clash c) clash = let held = clash c refl in (refl, record { before = []; piece = plain; tried_are = refl; first = held.0; second = held.1 })
fault_ends n plain fault.NotNode clash = refl
fault_ends n plain fault.DiskFault clash = refl
fault_ends n plain fault.Broken clash = refl
fault_ends n plain fault.BadSettings clash = refl
fault_ends n plain (fault.Altered name) clash = refl
fault_ends n plain (fault.NoSnapshot k) clash = refl
fault_ends n plain fault.Memory clash = tt

-- an error of which it is known which one it is
pub if_err : {A E : Type 0} (r : Result A E) (e : E) (P : E → Type 0) → r ≡ Err e → P e → IfErr r P
if_err (Ok x) e P is p = absurd (cc)
if_err (Err f) e P is p = subst P (sym (err_is f e is)) p

module _ {L : Type 0} (holds : L → List Entry → List ℕ → Type 0) (stands : List Entry → List ℕ → Type 0) (broken : L → Bool) (law : (log : L) (es : List Entry) (c : List ℕ) → holds log es c → stands es c) where
  pub pieces_none : (node : Node L) (n : Situation) (v : View) → Knows node n → Stored holds node n.history v → KeepsPieces holds stands broken node node v v n [] true
  pieces_none node n v knows s =
      let fed : Fed holds stands broken node node v v n [] None true = uncounted holds stands broken law node node v v n [] (Some no_tally) true (fed_none holds stands broken law node n v knows s) in
      record { steps = []; steps_are = refl; fed = fed; last = fed.whole refl; kept = λ is. keeps_none n.history }

  -- where one step failed, nothing stands behind it
  pub none_left : (n0 n1 : Node L) (v0 v1 : View) (n : Situation) (x : Step) (r : Fed holds stands broken n0 n1 v0 v1 n (x ∷ []) None false) → r.undone ≡ []
  none_left n0 n1 v0 v1 n x r = no_more r.undone (omega (arith, ap (λ (l : List Step). length l) r.parts, r.one, length-append (r.done ++ r.failed) r.undone, length-append r.done r.failed))
    where
      no_more : (l : List Step) → length l ≤ 0 → l ≡ []
      no_more [] few = refl
      no_more (y ∷ l) few = absurd (omega (arith, few))

  pub pieces_then : (n0 n1 n2 : Node L) (v0 v1 v2 : View) (n : Situation) (ps qs : List (List ℕ)) (all : Bool) → KeepsPieces holds stands broken n0 n1 v0 v1 n ps true → KeepsPieces holds stands broken n1 n2 v1 v2 (after_all n (keep_steps ps)) qs all
      → KeepsPieces holds stands broken n0 n2 v0 v2 n (ps ++ qs) all
  pieces_then n0 n1 n2 v0 v1 v2 n ps qs all a b =
      let done : keep_steps ps ≡ a.fed.done = sym a.steps_are ∙ all_done holds stands broken law n0 n1 v0 v1 n a.steps None a.fed in
      let behind : KeepsPieces holds stands broken n1 n2 v1 v2 (after_all n a.fed.done) qs all = subst (λ (d : List Step). KeepsPieces holds stands broken n1 n2 v1 v2 (after_all n d) qs all) done b in
      record {
        steps = a.steps ++ behind.steps;
        steps_are = ap (λ (l : List Step). l ++ behind.steps) a.steps_are ∙ ap (λ (l : List Step). keep_steps ps ++ l) behind.steps_are ∙ sym (map-append keep_step ps qs);
        fed = fed_then holds stands broken law n0 n1 n2 v0 v1 v2 n a.steps behind.steps None None all a.fed behind.fed;
        last = undone_then holds stands broken law n0 n1 n2 v0 v1 v2 n a.steps behind.steps None None all a.fed behind.fed ∙ behind.last;
        kept = λ is. subst (λ (m : Situation). KeepsAll n.history m.history (ps ++ qs)) (sym (led_by n ps qs))
            (keeps_then n.history (after_all n (keep_steps ps)).history (after_all (after_all n (keep_steps ps)) (keep_steps qs)).history ps qs (a.kept refl) (b.kept is));
      }

  -- ---- the first pieces of something

  pub front_whole : (n0 n1 : Node L) (v0 v1 : View) (n : Situation) (ps : List (List ℕ)) → KeepsPieces holds stands broken n0 n1 v0 v1 n ps true → KeepsFront holds stands broken n0 n1 v0 v1 n ps AllKept
  front_whole n0 n1 v0 v1 n ps r = record { tried = ps; rest = []; parts = sym (append-nil ps); all = true; run = r; ends = (refl, refl) }

  pub front_cut : (n0 n1 : Node L) (v0 v1 : View) (n : Situation) (pieces tried rest : List (List ℕ)) (all : Bool) (e : BackupFault) → pieces ≡ tried ++ rest → KeepsPieces holds stands broken n0 n1 v0 v1 n tried all → EndsFor e n tried all
      → KeepsFront holds stands broken n0 n1 v0 v1 n pieces (StoppedFor e)
  front_cut n0 n1 v0 v1 n pieces tried rest all e is r ends = record { tried = tried; rest = rest; parts = is; all = all; run = r; ends = ends }

  -- where all went well, they were all kept
  pub front_all : (n0 n1 : Node L) (v0 v1 : View) (n : Situation) (ps : List (List ℕ)) → KeepsFront holds stands broken n0 n1 v0 v1 n ps AllKept → KeepsPieces holds stands broken n0 n1 v0 v1 n ps true
  front_all n0 n1 v0 v1 n ps r =
      let same : r.tried ≡ ps = sym (r.parts ∙ ap (λ (l : List (List ℕ)). r.tried ++ l) r.ends.0 ∙ append-nil r.tried) in
      subst (λ (l : List (List ℕ)). KeepsPieces holds stands broken n0 n1 v0 v1 n l true) same
      (subst (λ (b : Bool). KeepsPieces holds stands broken n0 n1 v0 v1 n r.tried b) r.ends.1 r.run)

  pub front_then : (n0 n1 n2 : Node L) (v0 v1 v2 : View) (n : Situation) (ps qs : List (List ℕ)) (end : Ending) → KeepsPieces holds stands broken n0 n1 v0 v1 n ps true → KeepsFront holds stands broken n1 n2 v1 v2 (after_all n (keep_steps ps)) qs end
      → KeepsFront holds stands broken n0 n2 v0 v2 n (ps ++ qs) end
  front_then n0 n1 n2 v0 v1 v2 n ps qs end a b = record {
    tried = ps ++ b.tried;
    rest = b.rest;
    parts = ap (λ (l : List (List ℕ)). ps ++ l) b.parts ∙ sym (append_assoc ps b.tried b.rest);
    all = b.all;
    run = pieces_then n0 n1 n2 v0 v1 v2 n ps b.tried b.all a b.run;
    ends = ends_then n ps b.tried b.rest b.all end b.ends;
  }

  pub front_more : (n0 n1 : Node L) (v0 v1 : View) (n : Situation) (ps qs : List (List ℕ)) (e : BackupFault) → KeepsFront holds stands broken n0 n1 v0 v1 n ps (StoppedFor e) → KeepsFront holds stands broken n0 n1 v0 v1 n (ps ++ qs) (StoppedFor e)
  front_more n0 n1 v0 v1 n ps qs e r = record {
    tried = r.tried;
    rest = r.rest ++ qs;
    parts = ap (λ (l : List (List ℕ)). l ++ qs) r.parts ∙ append_assoc r.tried r.rest qs;
    all = r.all;
    run = r.run;
    ends = r.ends;
  }

module _ {L : Type 0} (holds : L → List Entry → List ℕ → Type 0) (stands : List Entry → List ℕ → Type 0) (size : L → ℕ) (keeps : L → ℕ → Bool) (broken : L → Bool) (law : (log : L) (es : List Entry) (c : List ℕ) → holds log es c → stands es c) where
  -- nothing was kept
  pub so_none : (node : Node L) (v : View) → IsUp holds size keeps broken node v → KeepsSo holds stands size keeps broken node node v v [] AllKept
  so_none node v up = record {
    front = λ tells n k s. front_whole holds stands broken law node node v v n [] (pieces_none holds stands broken law node n v k s);
    owns = λ is. owns_none node.ledger.state;
    up = λ is. up;
    works = works_same v;
  }

  -- nothing was tried of what was to be kept
  pub so_untried : (node : Node L) (v : View) (ps : List (List ℕ)) (e : BackupFault) → IsLeft e → KeepsSo holds stands size keeps broken node node v v ps (StoppedFor e)
  so_untried node v ps e left = record {
    front = λ tells n k s. front_cut holds stands broken law node node v v n ps [] ps true e refl (pieces_none holds stands broken law node n v k s) (left_ends n [] e left);
    owns = λ is. absurd (cc (is));
    up = λ is. absurd (cc (is));
    works = works_same v;
  }

  -- memory was short
  pub so_lacking : {R : Type 0} (n0 n1 : Node L) (v0 v1 : View) (ps : List (List ℕ)) (r : Result R Fault) → r ≡ Err fault.Memory → KeepsSo holds stands size keeps broken n0 n1 v0 v1 ps (StoppedFor backup_fault.Memory) → KeepsSo holds stands size keeps broken n0 n1 v0 v1 ps (end_of r)
  so_lacking n0 n1 v0 v1 ps r is so = subst (λ (x : Result _ Fault). KeepsSo holds stands size keeps broken n0 n1 v0 v1 ps (end_of x)) (sym is) so

  -- a piece was fed
  pub so_fed : (n0 n1 : Node L) (v0 v1 : View) (plain : List ℕ) (i : Input) → i ≡ Keep (sealed_ref plain).name (sealed plain) → IsReady holds n0 v0 → DiskWorks v0 v1
      → (Tells_bytes v1 → (n : Situation) → Knows n0 n → Stored holds n0 n.history v0 → Fed holds stands broken n0 n1 v0 v1 n (Absorb i ∷ []) None true)
      → (Tells_bytes v1 → (n : Situation) → Knows n0 n → Stored holds n0 n.history v0 → is_refused n i ≡ false)
      → ((n : Situation) → Knows n0 n → Knows n1 (settled n (when_taken n i))) → IsUp holds size keeps broken n1 v1
      → KeepsSo holds stands size keeps broken n0 n1 v0 v1 (plain ∷ []) AllKept
  so_fed n0 n1 v0 v1 plain i is ready works fed accepts taken up = record {
    front = λ tells n k s. front_whole holds stands broken law n0 n1 v0 v1 n (plain ∷ []) (record {
      steps = Absorb i ∷ [];
      steps_are = ap (λ (x : Input). Absorb x ∷ []) is;
      fed = fed tells n k s;
      last = (fed tells n k s).whole refl;
      kept = λ _. keeps_piece n plain k.valid (ap (is_refused n) (sym is) ∙ accepts tells n k s) (held_brought n0.names n.history (sealed_ref plain).name k.names k.valid);
    });
    owns = λ _.
        let n = ready.0 in
        let k = ready.1 in
        let after : n1.ledger.state ≡ state (settled n (when_taken n (Keep (sealed_ref plain).name (sealed plain)))).history = (taken n k).ledger ∙ ap (λ (x : Input). state (settled n (when_taken n x)).history) is in
        subst (λ (s : State). Owns n0.ledger.state s (plain ∷ [])) (sym after) (subst (λ (s : State). Owns s (state (settled n (when_taken n (Keep (sealed_ref plain).name (sealed plain)))).history) (plain ∷ [])) (sym k.ledger) (owns_piece n plain k.valid));
    up = λ _. up;
    works = works;
  }

  -- it failed, or was refused
  pub so_failed : (n0 n1 : Node L) (v0 v1 : View) (plain : List ℕ) (i : Input) (f : Fault) → i ≡ Keep (sealed_ref plain).name (sealed plain) → DiskWorks v0 v1
      → (Tells_bytes v1 → (n : Situation) → Knows n0 n → Stored holds n0 n.history v0 → Fed holds stands broken n0 n1 v0 v1 n (Absorb i ∷ []) None false)
      → ((c : Pair) → f ≡ fault.Clash c → Tells_bytes v1 → (n : Situation) → Knows n0 n → Stored holds n0 n.history v0 → IsHeldAs n i c.first) → ((c : Pair) → f ≡ fault.Clash c → c.second ≡ sealed plain)
      → KeepsSo holds stands size keeps broken n0 n1 v0 v1 (plain ∷ []) (StoppedFor (backup_fault_of f))
  so_failed n0 n1 v0 v1 plain i f is works fed first second = record {
    front = λ tells n k s. front_cut holds stands broken law n0 n1 v0 v1 n (plain ∷ []) (plain ∷ []) [] false (backup_fault_of f) refl
        (record {
          steps = Absorb i ∷ [];
          steps_are = ap (λ (x : Input). Absorb x ∷ []) is;
          fed = fed tells n k s;
          last = none_left holds stands broken law n0 n1 v0 v1 n (Absorb i) (fed tells n k s);
          kept = λ no. absurd (false≢true no);
        })
        (fault_ends n plain f (λ c e. (subst (λ (x : Input). IsHeldAs n x c.first) is (first c e tells n k s), second c e)));
    owns = λ no. absurd (cc (no));
    up = λ no. absurd (cc (no));
    works = works;
  }

  -- and then these
  pub so_then : (n0 n1 n2 : Node L) (v0 v1 v2 : View) (ps qs : List (List ℕ)) (end : Ending) → KeepsSo holds stands size keeps broken n0 n1 v0 v1 ps AllKept → KeepsSo holds stands size keeps broken n1 n2 v1 v2 qs end → KeepsSo holds stands size keeps broken n0 n2 v0 v2 (ps ++ qs) end
  so_then n0 n1 n2 v0 v1 v2 ps qs end a b = record {
    front = λ tells n k s.
        let r = front_all holds stands broken law n0 n1 v0 v1 n ps (a.front (b.works.tells tells) n k s) in
        let done : keep_steps ps ≡ r.fed.done = sym r.steps_are ∙ all_done holds stands broken law n0 n1 v0 v1 n r.steps None r.fed in
        let whole = (a.up refl).whole in
        front_then holds stands broken law n0 n1 n2 v0 v1 v2 n ps qs end r
        (b.front tells (after_all n (keep_steps ps)) (subst (λ (d : List Step). Knows n1 (after_all n d)) (sym done) (r.fed.knows whole)) (subst (λ (d : List Step). Stored holds n1 (after_all n d).history v1) (sym done) (r.fed.stored whole)));
    owns = λ is. owns_then n0.ledger.state n1.ledger.state n2.ledger.state ps qs (a.owns refl) (b.owns is);
    up = b.up;
    works = works_then v0 v1 v2 a.works b.works;
  }

  -- more was to be kept behind what failed
  pub so_more : (n0 n1 : Node L) (v0 v1 : View) (ps qs : List (List ℕ)) (e : BackupFault) → KeepsSo holds stands size keeps broken n0 n1 v0 v1 ps (StoppedFor e) → KeepsSo holds stands size keeps broken n0 n1 v0 v1 (ps ++ qs) (StoppedFor e)
  so_more n0 n1 v0 v1 ps qs e a = record {
    front = λ tells n k s. front_more holds stands broken law n0 n1 v0 v1 n ps qs e (a.front tells n k s);
    owns = λ is. absurd (cc (is));
    up = λ is. absurd (cc (is));
    works = a.works;
  }

  -- what was kept went well, and then something else did not
  pub so_stopped : (n0 n1 : Node L) (v0 v1 : View) (ps qs : List (List ℕ)) (e : BackupFault) → IsLeft e → KeepsSo holds stands size keeps broken n0 n1 v0 v1 ps AllKept → KeepsSo holds stands size keeps broken n0 n1 v0 v1 (ps ++ qs) (StoppedFor e)
  so_stopped n0 n1 v0 v1 ps qs e left a = record {
    front = λ tells n k s. front_cut holds stands broken law n0 n1 v0 v1 n (ps ++ qs) ps qs true e refl (front_all holds stands broken law n0 n1 v0 v1 n ps (a.front tells n k s)) (left_ends n ps e left);
    owns = λ is. absurd (cc (is));
    up = λ is. absurd (cc (is));
    works = a.works;
  }
