-- The pieces of a text, one after another.
use Rattle.std.proofs.Common.{◌≡◌, ◌⊎◌, inl, inr, ⊎_elim, ℕ, ◌+◌, ◌<◌, List, [], ◌∷◌, ◌++◌, map, length, take, drop, get_or, Result, Err, sym, ◌∙◌, ap}
use Rattle.std.proofs.lemmas.List.{take_more, take-append-drop, map-append}
use Rattle.node_core.specs.declared.fault.Fault.{Fault}
use Rattle.node_core.specs.declared.fault.Fault.TheVariants.{DiskFault, Memory}
use Rattle.node_history.proofs.Presence.{err_as}
use Rattle.rolling_chunks.specs.Cuts.{longest}
use Rattle.rolling_chunks.specs.Spans.{spans}
use Rattle.rolling_chunks.specs.Laws.{part}
use Rattle.rolling_chunks.specs.declared.spans.Span.{Span}
use Rattle.psb_bytes.specs.declared.ids.Ref.{Ref}
use Rattle.convergent_seal.specs.Sealing.{sealed_ref}
use Rattle.snapshots.specs.Tickets.{chunks_of}
use Rattle.snapshots.proofs.Tickets.{refs_more}
use Rattle.snapshot_backup.specs.Runs.{RefusesPiece}

pub parts_more : (text : List ℕ) (ss : List Span) (i : ℕ) (d : Span) → i < length ss → map (part text) (take (i + 1) ss) ≡ map (part text) (take i ss) ++ part text (get_or ss i d) ∷ []
parts_more text ss i d lt = ap (map (part text)) (take_more ss i d lt) ∙ map-append (part text) (take i ss) (get_or ss i d ∷ [])

-- those up to one, and those behind it
pub parts_around : (text : List ℕ) (ss : List Span) (i : ℕ) (d : Span) → ss ≡ spans longest text → i < length ss → chunks_of text ≡ (map (part text) (take i ss) ++ part text (get_or ss i d) ∷ []) ++ map (part text) (drop (i + 1) ss)
parts_around text ss i d is lt =
    ap (map (part text)) (sym is ∙ sym (take-append-drop (i + 1) ss))
    ∙ map-append (part text) (take (i + 1) ss) (drop (i + 1) ss)
    ∙ ap (λ (l : List (List ℕ)). l ++ map (part text) (drop (i + 1) ss)) (parts_more text ss i d lt)

-- what opens them
pub refs_pushed : (text : List ℕ) (ss : List Span) (i : ℕ) (d : Span) (refs now : List Ref) → i < length ss → refs ≡ map sealed_ref (map (part text) (take i ss)) → now ≡ refs ++ sealed_ref (part text (get_or ss i d)) ∷ [] → now ≡ map sealed_ref (map (part text) (take (i + 1) ss))
refs_pushed text ss i d refs now lt are is = is ∙ ap (λ (l : List Ref). l ++ sealed_ref (part text (get_or ss i d)) ∷ []) are ∙ sym (refs_more text ss i d lt)

-- what a piece fails of is what the whole fails of
pub fails_as : {R S : Type 0} (f : Fault) → (◌≡◌ {A = Result R Fault} (Err f) (Err DiskFault)) ⊎ (◌≡◌ {A = Result R Fault} (Err f) (Err Memory)) ⊎ RefusesPiece {R = R} (Err f)
    → (◌≡◌ {A = Result S Fault} (Err f) (Err DiskFault)) ⊎ (◌≡◌ {A = Result S Fault} (Err f) (Err Memory)) ⊎ RefusesPiece {R = S} (Err f)
fails_as f only =
    ⊎_elim (λ disk. inl (err_as f DiskFault disk))
    (λ rest. ⊎_elim (λ memory. inr (inl (err_as f Memory memory)))
    (λ refuses. inr (inr (refuses.0, ⊎_elim (λ altered. inl (err_as f _ altered)) (λ clash. inr (clash.0, err_as f _ clash.1, clash.2)) refuses.1))) rest)
    only
