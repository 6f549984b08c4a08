-- A file that is read and kept piece by piece.
use Rattle.std.proofs.Common.{◌≡◌, ⊎_elim, ℕ, ◌+◌, ◌≤◌, Bool, true, false, not, ◌&&◌, cond, List, [], ◌∷◌, ◌++◌, length, map, Some, IfSome, refl, sym, ◌∙◌, ap, subst, arith, append-nil, length-append}
use Rattle.std.proofs.lemmas.Bool.{false≢true}
use Rattle.std.proofs.lemmas.List.{map-append, length-map}
use Rattle.psb_bytes.specs.declared.ids.Ref.{Ref}
use Rattle.psb_station.specs.View.{View}
use Rattle.psb_station.specs.Folder.{FolderView, Content, File, Tells_content, found}
use Rattle.psb_station.proofs.Spans.{at_some, if_some, told_before}
use Rattle.node_journal.specs.Entry.{Entry}
use Rattle.node_core.specs.declared.node.Node.{Node}
use Rattle.convergent_seal.specs.Sealing.{sealed_ref}
use Rattle.snapshots.specs.declared.reading.ChunkReader.{ChunkReader}
use Rattle.snapshots.specs.Reading.{IsBehind, HasFile, ReadsBehind}
use Rattle.snapshots.specs.Tickets.{chunks_of, refs_of_text}
use Rattle.snapshots.proofs.ChunkReads.{first_given}
use Rattle.snapshots.proofs.Members.{by_cases}
use Rattle.snapshot_backup.specs.Endings.{AllKept, StoppedFor}
use Rattle.snapshot_backup.specs.Files.{IsFile, AreFirst, HasMore}
use Rattle.node_serve.specs.Spans.{IsUp}
use Rattle.snapshot_backup.specs.Runs.{KeepsSo}
use Rattle.snapshot_backup.specs.declared.fault.BackupFault.{BackupFault}
use Rattle.snapshot_backup.proofs.Fronts.{IsLeft, so_none, so_then, so_stopped}

-- ---- what was read of the file

-- what was read is the first part of its bytes, and all of them where the reader ended
pub record IsGiven (path : List ℕ) (v : FolderView) (r : ChunkReader) (text : List ℕ) (chunks : List (List ℕ)) : Type 0 where
  pub behind : IsBehind r text chunks
  pub bytes : (c : Content) (bytes : List ℕ) → v.content ≡ Some c → found c path ≡ Some (File bytes) → (rest : List ℕ) × (bytes ≡ text ++ rest) × (r.ended ≡ true → rest ≡ [])
  pub file : r.ended ≡ true → IfSome v.content (λ c. HasFile c path)

pub given_start : (path : List ℕ) (v : FolderView) (r : ChunkReader) → IsBehind r [] [] → r.ended ≡ false → IsGiven path v r [] []
given_start path v r behind goes = record {
  behind = behind;
  bytes = λ c bytes told file. (bytes, refl, λ e. absurd (false≢true (sym goes ∙ e)));
  file = λ e. absurd (false≢true (sym goes ∙ e));
}

no_length : (l : List ℕ) → length l ≤ 0 → l ≡ []
no_length [] none = refl
no_length (x ∷ l) none = absurd (omega (arith, none))

none_behind : (bytes text rest more behind : List ℕ) → bytes ≡ text ++ rest → rest ≡ [] → bytes ≡ (text ++ more) ++ behind → behind ≡ []
none_behind bytes text rest more behind was none is =
    no_length behind (omega (arith, ap length was, ap length none, ap length is, length-append text rest, length-append (text ++ more) behind, length-append text more))

ends_now : (now was : Bool) → now ≡ true → was ≡ false → (now && not was) ≡ true
ends_now now was ended goes = ap (λ (b : Bool). b && not was) ended ∙ ap not goes

-- the reader went on
pub given_next : (path : List ℕ) (v0 v1 : FolderView) (r0 r1 : ChunkReader) (text more : List ℕ) (chunks now : List (List ℕ)) → IsGiven path v0 r0 text chunks → (Tells_content v1 → v1.content ≡ v0.content)
    → IsBehind r1 (text ++ more) now → ReadsBehind path v1 text more (r1.ended && not r0.ended) → IsGiven path v1 r1 (text ++ more) now
given_next path v0 v1 r0 r1 text more chunks now g same behind read = record {
  behind = behind;
  bytes = λ c bytes told file.
      let was = g.bytes c bytes (told_before v0.content v1.content same c told) file in
      let next = read.next c bytes was.0 told file was.1 in (
        next.0,
        next.1,
        λ e. by_cases r0.ended (λ ended. none_behind bytes text was.0 more next.0 was.1 (was.2 ended) next.1) (λ goes. next.2 (ends_now r1.ended r0.ended e goes)),
      );
  file = λ e.
      by_cases r0.ended
      (λ ended. if_some v1.content (λ c. HasFile c path) (λ c told. at_some v0.content (λ c. HasFile c path) c (g.file ended) (told_before v0.content v1.content same c told)))
      (λ goes. ⊎_elim (λ none. absurd (false≢true (sym none.1 ∙ ends_now r1.ended r0.ended e goes))) (λ file. file) read.file);
}

-- the chunks are the first ones of the file
pub given_first : (path : List ℕ) (v0 v1 : FolderView) (r : ChunkReader) (text : List ℕ) (chunks : List (List ℕ)) → IsGiven path v0 r text chunks → (Tells_content v1 → v1.content ≡ v0.content) → AreFirst v1.content path chunks
given_first path v0 v1 r text chunks g same c bytes told file =
    let was = g.bytes c bytes (told_before v0.content v1.content same c told) file in
    first_given r text chunks g.behind bytes was.0 was.1 was.2

-- there is one more
pub given_more : (path : List ℕ) (v : FolderView) (r : ChunkReader) (text chunk : List ℕ) (chunks : List (List ℕ)) (most : ℕ) → IsGiven path v r text (chunks ++ chunk ∷ []) → length chunks ≡ most → HasMore v.content path most
given_more path v r text chunk chunks most g all c bytes told file =
    let first = given_first path v v r text (chunks ++ chunk ∷ []) g (λ tells. refl) c bytes told file in
    omega (arith, ap length first.1, length-append (chunks ++ chunk ∷ []) first.0, length-append chunks (chunk ∷ []), all)

-- and where the reader ended, they are all
pub given_whole : (path : List ℕ) (v : FolderView) (r : ChunkReader) (text : List ℕ) (chunks : List (List ℕ)) → IsGiven path v r text chunks → r.ended ≡ true → IsFile v.content path text
given_whole path v r text chunks g ended =
    if_some v.content (λ c. found c path ≡ Some (File text)) (λ c told.
    let file = at_some v.content (λ c. HasFile c path) c (g.file ended) told in
    let was = g.bytes c file.0 told file.1 in
    file.1 ∙ ap (λ (l : List ℕ). Some (File l)) (was.1 ∙ ap (λ (l : List ℕ). text ++ l) (was.2 ended) ∙ append-nil text))

-- ---- what was kept of it

-- what the next call of the reader says
abbrev pub GoesOn : List ℕ → FolderView → ChunkReader → ChunkReader → Bool → Type 0
GoesOn path v r0 r1 some = (text : List ℕ) (chunks : List (List ℕ)) → IsBehind r0 text chunks
    → (more : List ℕ) × IsBehind r1 (text ++ more) (cond some (chunks ++ r1.chunk.bytes ∷ []) chunks) × ReadsBehind path v text more (r1.ended && not r0.ended)

-- the chunks that were given are kept, and nothing was read behind them
pub record KeepsFile {L : Type 0} (holds : L → List Entry → List ℕ → Type 0) (stands : List Entry → List ℕ → Type 0) (size : L → ℕ) (keeps : L → ℕ → Bool) (broken : L → Bool) (old new : Node L) (before now : View) (path : List ℕ) (v : FolderView) (r : ChunkReader) (refs : List Ref) (had room : ℕ) : Type 0 where
  pub text : List ℕ
  pub chunks : List (List ℕ)
  pub given : IsGiven path v r text chunks
  pub kept : KeepsSo holds stands size keeps broken old new before now chunks AllKept
  pub refs_are : refs ≡ map sealed_ref chunks
  pub left : room + length chunks ≡ had

module _ {L : Type 0} (holds : L → List Entry → List ℕ → Type 0) (stands : List Entry → List ℕ → Type 0) (size : L → ℕ) (keeps : L → ℕ → Bool) (broken : L → Bool) (law : (log : L) (es : List Entry) (c : List ℕ) → holds log es c → stands es c) where
  pub file_start : (node : Node L) (v : View) (path : List ℕ) (w : FolderView) (r : ChunkReader) (refs : List Ref) (room : ℕ) → IsUp holds size keeps broken node v → IsBehind r [] [] → r.ended ≡ false → refs ≡ [] → KeepsFile holds stands size keeps broken node node v v path w r refs room room
  file_start node v path w r refs room up behind goes none = record {
    text = [];
    chunks = [];
    given = given_start path w r behind goes;
    kept = so_none holds stands size keeps broken law node v up;
    refs_are = none;
    left = omega arith;
  }

  -- these and no more
  pub so_cut : (n0 n1 : Node L) (v0 v1 : View) (ps : List (List ℕ)) (e : BackupFault) → IsLeft e → KeepsSo holds stands size keeps broken n0 n1 v0 v1 ps AllKept → KeepsSo holds stands size keeps broken n0 n1 v0 v1 ps (StoppedFor e)
  so_cut n0 n1 v0 v1 ps e left kept = subst (λ (l : List (List ℕ)). KeepsSo holds stands size keeps broken n0 n1 v0 v1 l (StoppedFor e)) (append-nil ps) (so_stopped holds stands size keeps broken law n0 n1 v0 v1 ps [] e left kept)

  -- one chunk more was read and kept
  pub file_then : (n0 n1 n2 : Node L) (v0 v1 v2 : View) (path : List ℕ) (w1 w2 : FolderView) (r1 r2 : ChunkReader) (refs now : List Ref) (had room : ℕ) → KeepsFile holds stands size keeps broken n0 n1 v0 v1 path w1 r1 refs had (room + 1)
      → (Tells_content w2 → w2.content ≡ w1.content) → GoesOn path w2 r1 r2 true → KeepsSo holds stands size keeps broken n1 n2 v1 v2 (r2.chunk.bytes ∷ []) AllKept → now ≡ refs ++ sealed_ref r2.chunk.bytes ∷ []
      → KeepsFile holds stands size keeps broken n0 n2 v0 v2 path w2 r2 now had room
  file_then n0 n1 n2 v0 v1 v2 path w1 w2 r1 r2 refs now had room k same next more pushed =
      let chunk = r2.chunk.bytes in
      let m = next k.text k.chunks k.given.behind in
      record {
        text = k.text ++ m.0;
        chunks = k.chunks ++ chunk ∷ [];
        given = given_next path w1 w2 r1 r2 k.text m.0 k.chunks (k.chunks ++ chunk ∷ []) k.given same m.1 m.2;
        kept = so_then holds stands size keeps broken law n0 n1 n2 v0 v1 v2 k.chunks (chunk ∷ []) AllKept k.kept more;
        refs_are = pushed ∙ ap (λ (l : List Ref). l ++ sealed_ref chunk ∷ []) k.refs_are ∙ sym (map-append sealed_ref k.chunks (chunk ∷ []));
        left = omega (arith, k.left, length-append k.chunks (chunk ∷ []));
      }

  -- the file ended
  pub file_ended : (n0 n1 : Node L) (v0 v1 : View) (path : List ℕ) (w1 w2 : FolderView) (r1 r2 : ChunkReader) (refs : List Ref) (had room : ℕ) → KeepsFile holds stands size keeps broken n0 n1 v0 v1 path w1 r1 refs had room
      → (Tells_content w2 → w2.content ≡ w1.content) → GoesOn path w2 r1 r2 false → r2.ended ≡ true
      → (bytes : List ℕ) × (refs ≡ refs_of_text bytes) × IsFile w2.content path bytes × KeepsSo holds stands size keeps broken n0 n1 v0 v1 (chunks_of bytes) AllKept
  file_ended n0 n1 v0 v1 path w1 w2 r1 r2 refs had room k same next ended =
      let m = next k.text k.chunks k.given.behind in
      let all = m.1.all ended in (
        k.text ++ m.0,
        k.refs_are ∙ ap (map sealed_ref) all,
        given_whole path w2 r2 (k.text ++ m.0) k.chunks (given_next path w1 w2 r1 r2 k.text m.0 k.chunks k.chunks k.given same m.1 m.2) ended,
        subst (λ (l : List (List ℕ)). KeepsSo holds stands size keeps broken n0 n1 v0 v1 l AllKept) all k.kept,
      )

  pub ended_room : (n0 n1 : Node L) (v0 v1 : View) (path : List ℕ) (w : FolderView) (r : ChunkReader) (refs : List Ref) (had room : ℕ) → KeepsFile holds stands size keeps broken n0 n1 v0 v1 path w r refs had room → room + length refs ≡ had
  ended_room n0 n1 v0 v1 path w r refs had room k = omega (arith, k.left, ap length k.refs_are, length-map k.chunks sealed_ref)

  -- no more was read, or there is no room for what was read
  pub file_stopped : (n0 n1 : Node L) (v0 v1 : View) (path : List ℕ) (w1 w2 : FolderView) (r : ChunkReader) (refs : List Ref) (had room : ℕ) (e : BackupFault) → IsLeft e → KeepsFile holds stands size keeps broken n0 n1 v0 v1 path w1 r refs had room → (Tells_content w2 → w2.content ≡ w1.content)
      → (pieces : List (List ℕ)) × AreFirst w2.content path pieces × (length pieces ≤ had) × KeepsSo holds stands size keeps broken n0 n1 v0 v1 pieces (StoppedFor e)
  file_stopped n0 n1 v0 v1 path w1 w2 r refs had room e left k same = (k.chunks, given_first path w1 w2 r k.text k.chunks k.given same, omega (arith, k.left), so_cut n0 n1 v0 v1 k.chunks e left k.kept)

  pub file_too_large : (n0 n1 : Node L) (v0 v1 : View) (path : List ℕ) (w1 w2 : FolderView) (r1 r2 : ChunkReader) (refs : List Ref) (had room : ℕ) → KeepsFile holds stands size keeps broken n0 n1 v0 v1 path w1 r1 refs had room
      → (Tells_content w2 → w2.content ≡ w1.content) → GoesOn path w2 r1 r2 true → room ≡ 0 → HasMore w2.content path had
  file_too_large n0 n1 v0 v1 path w1 w2 r1 r2 refs had room k same next none =
      let m = next k.text k.chunks k.given.behind in
      given_more path w2 r2 (k.text ++ m.0) r2.chunk.bytes k.chunks had (given_next path w1 w2 r1 r2 k.text m.0 k.chunks (k.chunks ++ r2.chunk.bytes ∷ []) k.given same m.1 m.2) (omega (arith, k.left, none))

  -- the chunk that was read was not kept
  pub file_failed : (n0 n1 n2 : Node L) (v0 v1 v2 : View) (path : List ℕ) (w1 w2 : FolderView) (r1 r2 : ChunkReader) (refs : List Ref) (had room : ℕ) (e : BackupFault) → 1 ≤ room → KeepsFile holds stands size keeps broken n0 n1 v0 v1 path w1 r1 refs had room
      → (Tells_content w2 → w2.content ≡ w1.content) → GoesOn path w2 r1 r2 true → KeepsSo holds stands size keeps broken n1 n2 v1 v2 (r2.chunk.bytes ∷ []) (StoppedFor e)
      → (pieces : List (List ℕ)) × AreFirst w2.content path pieces × (length pieces ≤ had) × KeepsSo holds stands size keeps broken n0 n2 v0 v2 pieces (StoppedFor e)
  file_failed n0 n1 n2 v0 v1 v2 path w1 w2 r1 r2 refs had room e some k same next failed =
      let chunk = r2.chunk.bytes in
      let m = next k.text k.chunks k.given.behind in
      let all = k.chunks ++ chunk ∷ [] in (
        all,
        given_first path w2 w2 r2 (k.text ++ m.0) all (given_next path w1 w2 r1 r2 k.text m.0 k.chunks all k.given same m.1 m.2) (λ tells. refl),
        omega (arith, some, k.left, length-append k.chunks (chunk ∷ [])),
        so_then holds stands size keeps broken law n0 n1 n2 v0 v1 v2 k.chunks (chunk ∷ []) (StoppedFor e) k.kept failed,
      )
