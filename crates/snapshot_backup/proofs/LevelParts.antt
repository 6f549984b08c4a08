-- The pieces of a text and of the lists of refs above it.
use Rattle.std.proofs.Common.{◌≡◌, ℕ, zero, suc, ◌+◌, ◌-◌, ◌≤◌, Bool, true, ◌||◌, List, [], ◌∷◌, ◌++◌, length, map, Option, Some, None, is_some, refl, sym, ◌∙◌, ap, subst, arith, length-append}
use Rattle.std.specs.List.{list_all}
use Rattle.std.proofs.Math.Bool.{or_assoc}
use Rattle.std.proofs.lemmas.Bool.{and_parts, false≢true}
use Rattle.std.proofs.lemmas.List.{append-nil, length-map, map-append}
use Rattle.std.proofs.lemmas.List.Folds.{list_any-append}
use Rattle.psb_bytes.specs.declared.ids.Ref.{Ref}
use Rattle.psb_bytes.specs.declared.ids.Ticket.{Ticket}
use Rattle.psb_model.specs.Words.{name_eq, name_listed}
use Rattle.psb_station.specs.View.{View}
use Rattle.node_journal.specs.Entry.{Entry}
use Rattle.node_core.specs.declared.node.Node.{Node}
use Rattle.convergent_seal.specs.Sealing.{sealed_ref}
use Rattle.rolling_chunks.specs.Cuts.{longest}
use Rattle.rolling_chunks.specs.Spans.{spans}
use Rattle.rolling_chunks.proofs.Covering.{spans_cover, span_sizes}
use Rattle.skeleton.specs.declared.limits.TheConstants.{MOST_TEXT_BYTES}
use Rattle.skeleton.specs.Entries.{is_ref, has_digests, has_chunk_len}
use Rattle.skeleton.specs.Texts.{refs_text}
use Rattle.snapshots.specs.Meaning.{given}
use Rattle.snapshots.specs.Tickets.{chunks_of, refs_of_text, one_of, ticket_from}
use Rattle.snapshots.proofs.Levels.{next_short}
use Rattle.snapshots.proofs.Tickets.{refs_fit}
use Rattle.snapshot_backup.specs.Course.{pieces_of_levels}
use Rattle.snapshot_backup.specs.Endings.{Ending, AllKept, StoppedFor}
use Rattle.snapshot_backup.specs.Kept.{names_of}
use Rattle.snapshot_backup.specs.Naming.{names_in}
use Rattle.snapshot_backup.specs.Runs.{KeepsSo}
use Rattle.snapshot_backup.specs.declared.fault.BackupFault.{BackupFault}
use Rattle.snapshot_backup.specs.declared.fault.BackupFault.TheVariants.{Memory}
use Rattle.snapshot_backup.proofs.Fronts.{so_then, so_more, so_stopped}

-- those of the text itself come first
levels_front : (most : ℕ) (text : List ℕ) → (rest : List (List ℕ)) × (pieces_of_levels most text ≡ chunks_of text ++ rest)
levels_front zero text = ([], sym (append-nil (chunks_of text)))
levels_front (suc most) text = (elim (one_of (refs_of_text text)) [ Some q ↦ [] | None ↦ pieces_of_levels most (refs_text (refs_of_text text)) ], refl)

-- ---- a text of one piece

one_level : (most : ℕ) (text : List ℕ) (r : Ref) → one_of (refs_of_text text) ≡ Some r → pieces_of_levels most text ≡ chunks_of text
one_level zero text r is = refl
one_level (suc most) text r is =
    ap (λ (o : Option Ref). chunks_of text ++ elim o [ Some q ↦ [] | None ↦ pieces_of_levels most (refs_text (refs_of_text text)) ]) is ∙ append-nil (chunks_of text)

pub one_ticket : (most : ℕ) (text : List ℕ) (r : Ref) → one_of (refs_of_text text) ≡ Some r → ticket_from most text ≡ Some (record { reference = r; levels = 0 })
one_ticket zero text r is = ap (λ (o : Option Ref). given o (λ q. Some (record { reference = q; levels = 0 }))) is
one_ticket (suc most) text r is =
    ap (λ (o : Option Ref). elim o [ Some q ↦ Some (record { reference = q; levels = 0 }) | None ↦ given (ticket_from most (refs_text (refs_of_text text))) (λ t. Some (record { reference = t.reference; levels = suc t.levels })) ]) is

-- ---- a text of more

-- the text of their refs stands above it
pub record IsBelow (most below : ℕ) (text next : List ℕ) : Type 0 where
  pub pieces : pieces_of_levels most text ≡ chunks_of text ++ pieces_of_levels below next
  pub enough : is_some (ticket_from below next) ≡ true
  pub ticket : (t : Ticket) → ticket_from below next ≡ Some t → ticket_from most text ≡ Some (record { reference = t.reference; levels = t.levels + 1 })
  pub fewer : below + 1 ≡ most

some_given : {A B : Type 0} (o : Option A) (f : A → Option B) → is_some (given o f) ≡ true → is_some o ≡ true
some_given None f is = absurd (false≢true is)
some_given (Some x) f is = refl

pub is_below : (most : ℕ) (text next : List ℕ) → next ≡ refs_text (refs_of_text text) → one_of (refs_of_text text) ≡ None → is_some (ticket_from most text) ≡ true → IsBelow most (most - 1) text next
is_below zero text next is none enough = absurd (false≢true (sym (ap (λ (o : Option Ref). is_some (given {B = Ticket} o (λ q. Some (record { reference = q; levels = 0 })))) none) ∙ enough))
is_below (suc most) text next is none enough =
    let e : suc most - 1 ≡ most = omega arith in
    subst (λ (m : ℕ). IsBelow (suc most) m text next) (sym e) (subst (IsBelow (suc most) most text) (sym is) (record {
      pieces = ap (λ (o : Option Ref). chunks_of text ++ elim o [ Some q ↦ [] | None ↦ pieces_of_levels most (refs_text (refs_of_text text)) ]) none;
      enough = some_given (ticket_from most (refs_text (refs_of_text text))) (λ t. Some (record { reference = t.reference; levels = suc t.levels })) (sym (ap is_some made) ∙ enough);
      ticket = λ t there.
          let one : suc t.levels ≡ t.levels + 1 = omega arith in
          made ∙ ap (λ (o : Option Ticket). given o (λ u. Some (record { reference = u.reference; levels = suc u.levels }))) there ∙ ap (λ (n : ℕ). Some (record { reference = t.reference; levels = n })) one;
      fewer = omega arith;
    }))
  where
    made : ticket_from (suc most) text ≡ given (ticket_from most (refs_text (refs_of_text text))) (λ t. Some (record { reference = t.reference; levels = suc t.levels }))
    made = ap (λ (o : Option Ref). elim o [ Some q ↦ Some (record { reference = q; levels = 0 }) | None ↦ given (ticket_from most (refs_text (refs_of_text text))) (λ t. Some (record { reference = t.reference; levels = suc t.levels })) ]) none

-- it may be written, and is short
pub above_short : (text next : List ℕ) → next ≡ refs_text (refs_of_text text) → length text ≤ MOST_TEXT_BYTES → length next ≤ MOST_TEXT_BYTES
above_short text next is short = subst (λ (l : List ℕ). length l ≤ MOST_TEXT_BYTES) (sym is) (next_short text short)

chunk_lens : (rs : List Ref) → list_all is_ref rs ≡ true → list_all has_chunk_len rs ≡ true
chunk_lens [] all = refl
chunk_lens (r ∷ rs) all =
    let two = and_parts (is_ref r) (list_all is_ref rs) all in
    rw ((and_parts (has_digests r) (has_chunk_len r) two.0).1, chunk_lens rs two.1) refl

pub above_fits : (text : List ℕ) (rs : List Ref) → rs ≡ refs_of_text text → list_all has_chunk_len rs ≡ true
above_fits text rs are = ap (list_all has_chunk_len) are ∙ chunk_lens (refs_of_text text) (refs_fit text 0 (spans longest text) (spans_cover longest text).0 (span_sizes longest text (omega arith)))

-- ---- names

pub refs_named : (ps : List (List ℕ)) → names_in (map sealed_ref ps) ≡ names_of ps
refs_named [] = refl
refs_named (p ∷ ps) = ap (λ (l : List (List ℕ)). (sealed_ref p).name ∷ l) (refs_named ps)

pub named_both : (ps qs : List (List ℕ)) (q : List ℕ) → name_listed (names_of (ps ++ qs)) q ≡ (name_listed (names_of ps) q || name_listed (names_of qs) q)
named_both ps qs q = ap (λ (l : List (List ℕ)). name_listed l q) (map-append (λ (p : List ℕ). (sealed_ref p).name) ps qs) ∙ list_any-append (λ x. name_eq x q) (names_of ps) (names_of qs)

-- the names of refs, and those of the pieces above them, are those of the levels
pub names_then : (text q : List ℕ) (rs : List Ref) (all above : List (List ℕ)) (first mid now : Bool) → all ≡ chunks_of text ++ above → rs ≡ refs_of_text text → mid ≡ (first || name_listed (names_in rs) q) → now ≡ (mid || name_listed (names_of above) q)
    → now ≡ (first || name_listed (names_of all) q)
names_then text q rs all above first mid now parts are was is =
    is ∙ ap (λ (b : Bool). b || name_listed (names_of above) q) (was ∙ ap (λ (l : List (List ℕ)). first || name_listed l q) (ap names_in are ∙ refs_named (chunks_of text)))
    ∙ or_assoc first (name_listed (names_of (chunks_of text)) q) (name_listed (names_of above) q)
    ∙ ap (λ (b : Bool). first || b) (sym (named_both (chunks_of text) above q))
    ∙ ap (λ (l : List (List ℕ)). first || name_listed (names_of l) q) (sym parts)

pub names_alone : (most : ℕ) (text q : List ℕ) (rs : List Ref) (r : Ref) (first now : Bool) → one_of (refs_of_text text) ≡ Some r → rs ≡ refs_of_text text → now ≡ (first || name_listed (names_in rs) q)
    → now ≡ (first || name_listed (names_of (pieces_of_levels most text)) q)
names_alone most text q rs r first now one are is =
    is ∙ ap (λ (l : List (List ℕ)). first || name_listed l q) (ap names_in are ∙ refs_named (chunks_of text))
    ∙ ap (λ (l : List (List ℕ)). first || name_listed (names_of l) q) (sym (one_level most text r one))

-- and as many
pub count_then : (text : List ℕ) (rs : List Ref) (all above : List (List ℕ)) (first mid now : ℕ) → all ≡ chunks_of text ++ above → rs ≡ refs_of_text text → mid ≤ first + length rs → now ≤ mid + length above → now ≤ first + length all
count_then text rs all above first mid now parts are was is = omega (arith, was, is, ap length are, length-map (chunks_of text) sealed_ref, ap length parts, length-append (chunks_of text) above)

pub count_alone : (most : ℕ) (text : List ℕ) (rs : List Ref) (r : Ref) (first now : ℕ) → one_of (refs_of_text text) ≡ Some r → rs ≡ refs_of_text text → now ≤ first + length rs → now ≤ first + length (pieces_of_levels most text)
count_alone most text rs r first now one are is = omega (arith, is, ap length are, length-map (chunks_of text) sealed_ref, ap length (one_level most text r one))

-- ---- runs

module _ {L : Type 0} (holds : L → List Entry → List ℕ → Type 0) (stands : List Entry → List ℕ → Type 0) (size : L → ℕ) (keeps : L → ℕ → Bool) (broken : L → Bool) (law : (log : L) (es : List Entry) (c : List ℕ) → holds log es c → stands es c) where
  -- of one text that is the other
  pub levels_as : (n0 n1 : Node L) (v0 v1 : View) (most : ℕ) (text other : List ℕ) (end : Ending) → text ≡ other → KeepsSo holds stands size keeps broken n0 n1 v0 v1 (pieces_of_levels most text) end → KeepsSo holds stands size keeps broken n0 n1 v0 v1 (pieces_of_levels most other) end
  levels_as n0 n1 v0 v1 most text other end is so = subst (λ (t : List ℕ). KeepsSo holds stands size keeps broken n0 n1 v0 v1 (pieces_of_levels most t) end) is so

  -- they were all kept, and then something else failed
  pub levels_then_not : (n0 n1 : Node L) (v0 v1 : View) (most : ℕ) (text other : List ℕ) → text ≡ other → KeepsSo holds stands size keeps broken n0 n1 v0 v1 (pieces_of_levels most text) AllKept → KeepsSo holds stands size keeps broken n0 n1 v0 v1 (pieces_of_levels most other) (StoppedFor Memory)
  levels_then_not n0 n1 v0 v1 most text other is so =
      levels_as n0 n1 v0 v1 most text other (StoppedFor Memory) is
      (subst (λ (l : List (List ℕ)). KeepsSo holds stands size keeps broken n0 n1 v0 v1 l (StoppedFor Memory)) (append-nil (pieces_of_levels most text)) (so_stopped holds stands size keeps broken law n0 n1 v0 v1 (pieces_of_levels most text) [] Memory tt so))

  -- the text was kept in part, or whole and nothing above it
  pub levels_cut : (n0 n1 : Node L) (v0 v1 : View) (most : ℕ) (text : List ℕ) (e : BackupFault) → KeepsSo holds stands size keeps broken n0 n1 v0 v1 (chunks_of text) (StoppedFor e) → KeepsSo holds stands size keeps broken n0 n1 v0 v1 (pieces_of_levels most text) (StoppedFor e)
  levels_cut n0 n1 v0 v1 most text e so =
      let front = levels_front most text in
      subst (λ (l : List (List ℕ)). KeepsSo holds stands size keeps broken n0 n1 v0 v1 l (StoppedFor e)) (sym front.1) (so_more holds stands size keeps broken law n0 n1 v0 v1 (chunks_of text) front.0 e so)

  pub levels_stopped : (n0 n1 : Node L) (v0 v1 : View) (most : ℕ) (text : List ℕ) → KeepsSo holds stands size keeps broken n0 n1 v0 v1 (chunks_of text) AllKept → KeepsSo holds stands size keeps broken n0 n1 v0 v1 (pieces_of_levels most text) (StoppedFor Memory)
  levels_stopped n0 n1 v0 v1 most text so =
      let front = levels_front most text in
      subst (λ (l : List (List ℕ)). KeepsSo holds stands size keeps broken n0 n1 v0 v1 l (StoppedFor Memory)) (sym front.1) (so_stopped holds stands size keeps broken law n0 n1 v0 v1 (chunks_of text) front.0 Memory tt so)

  pub levels_alone : (n0 n1 : Node L) (v0 v1 : View) (most : ℕ) (text : List ℕ) (r : Ref) → one_of (refs_of_text text) ≡ Some r → KeepsSo holds stands size keeps broken n0 n1 v0 v1 (chunks_of text) AllKept
      → KeepsSo holds stands size keeps broken n0 n1 v0 v1 (pieces_of_levels most text) AllKept
  levels_alone n0 n1 v0 v1 most text r one so = subst (λ (l : List (List ℕ)). KeepsSo holds stands size keeps broken n0 n1 v0 v1 l AllKept) (sym (one_level most text r one)) so

  pub levels_then : (n0 n1 n2 : Node L) (v0 v1 v2 : View) (text : List ℕ) (all above : List (List ℕ)) (end : Ending) → all ≡ chunks_of text ++ above → KeepsSo holds stands size keeps broken n0 n1 v0 v1 (chunks_of text) AllKept
      → KeepsSo holds stands size keeps broken n1 n2 v1 v2 above end → KeepsSo holds stands size keeps broken n0 n2 v0 v2 all end
  levels_then n0 n1 n2 v0 v1 v2 text all above end parts a b =
      subst (λ (l : List (List ℕ)). KeepsSo holds stands size keeps broken n0 n2 v0 v2 l end) (sym parts) (so_then holds stands size keeps broken law n0 n1 n2 v0 v1 v2 (chunks_of text) above end a b)
