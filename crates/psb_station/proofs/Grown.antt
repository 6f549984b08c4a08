-- Bytes that grow at their end leave each piece in them as it is.
use Rattle.std.proofs.Common.{◌≡◌, ℕ, suc, ◌-◌, ◌≤◌, List, [], ◌∷◌, ◌++◌, length, take, drop, map, refl, sym, ◌∙◌, ap, subst, arith, length-append, length-drop}
use Rattle.std.specs.Prelude.{All}
use Rattle.std.proofs.lemmas.List.{take-append-le, drop-append-le, drop_at, take_all, map_push}
use Rattle.std.proofs.lemmas.List.Elements.{All-push, All-weaker}
use Rattle.psb_station.specs.Piece.{piece_of, IsIn}
use Rattle.psb_station.specs.Pieces.{labelled_of}
use Rattle.psb_station.specs.Past.{Call, Write, Past, call_of, kept_of, past_of, piece_in, AreIn}
use Rattle.psb_station.specs.declared.piece.Piece.{Piece}
use Rattle.psb_station.specs.declared.past.PastChange.{PastChange}
use Rattle.psb_station.specs.declared.past.Change.{Change}
use Rattle.psb_station.specs.declared.past.Change.TheVariants as change
use Rattle.psb_station.specs.declared.pieces.Labelled.{Labelled}

pub piece_stays : (bytes more : List ℕ) (p : Piece) → IsIn (length bytes) p → piece_of (bytes ++ more) p ≡ piece_of bytes p
piece_stays bytes more p within =
    let le : p.begin ≤ length bytes = omega (arith, within.0, within.1) in
    let few : p.end - p.begin ≤ length (drop p.begin bytes) = omega (arith, within.0, within.1, length-drop p.begin bytes) in
    ap (take (p.end - p.begin)) (drop-append-le p.begin bytes more le) ∙ take-append-le (p.end - p.begin) (drop p.begin bytes) more few

-- the piece that was put behind
pub piece_put : (bytes more : List ℕ) (p : Piece) → p.begin ≡ length bytes → p.end ≡ length (bytes ++ more) → piece_of (bytes ++ more) p ≡ more
piece_put bytes more p begin end =
    let few : length more ≤ p.end - p.begin = omega (arith, begin, end, length-append bytes more) in
    ap (take (p.end - p.begin)) (drop_at bytes more p.begin (sym begin)) ∙ take_all (p.end - p.begin) more few

pub pieces_stay : {K : Type 0} (bytes more : List ℕ) (list : List (Labelled K)) → All (λ (p : Labelled K). IsIn (length bytes) p.piece) list → map (labelled_of (bytes ++ more)) list ≡ map (labelled_of bytes) list
pieces_stay {K} bytes more [] within = refl
pieces_stay {K} bytes more (p ∷ list) within =
    ap (λ (c : List ℕ). (p.label, c) ∷ map (labelled_of (bytes ++ more)) list) (piece_stays bytes more p.piece (within 0 p (omega arith)))
    ∙ ap (λ (rest : List (K × List ℕ)). labelled_of bytes p ∷ rest) (pieces_stay bytes more list (λ k d lt. within (suc k) d (omega arith)))

-- one more behind them
pub pieces_put : {K : Type 0} (bytes more : List ℕ) (list : List (Labelled K)) (p : Labelled K) → p.piece.begin ≡ length bytes → p.piece.end ≡ length (bytes ++ more) → All (λ (p : Labelled K). IsIn (length bytes) p.piece) list
    → map (labelled_of (bytes ++ more)) (list ++ p ∷ []) ≡ map (labelled_of bytes) list ++ (p.label, more) ∷ []
pieces_put {K} bytes more list p begin end within =
    map_push (labelled_of (bytes ++ more)) list p
    ∙ ap (λ (l : List (K × List ℕ)). l ++ labelled_of (bytes ++ more) p ∷ []) (pieces_stay bytes more list within)
    ∙ ap (λ (c : List ℕ). map (labelled_of bytes) list ++ (p.label, c) ∷ []) (piece_put bytes more p.piece begin end)

call_stays : (written more : List ℕ) (c : Change) → IsIn (length written) (piece_in c) → call_of (written ++ more) c ≡ call_of written c
call_stays written more (change.Write at p) within = ap (Write at) (piece_stays written more p within)
call_stays written more (change.Cut len) within = refl
call_stays written more change.Sync within = refl

pub past_stays : (written more : List ℕ) (cs : List PastChange) → AreIn (length written) cs → past_of (written ++ more) cs ≡ past_of written cs
past_stays written more [] within = refl
past_stays written more (c ∷ cs) within =
    ap (λ (x : Call). record { call = x; number = c.number; told = c.told } ∷ past_of (written ++ more) cs) (call_stays written more c.change (within 0 c (omega arith)))
    ∙ ap (λ (rest : List Past). kept_of written c ∷ rest) (past_stays written more cs (λ k d lt. within (suc k) d (omega arith)))

-- a write more, with what it wrote behind the rest
pub past_put : (written written' more : List ℕ) (cs cs' : List PastChange) (at number told : ℕ) (p : Piece) → written' ≡ written ++ more → cs' ≡ cs ++ record { change = change.Write at p; number = number; told = told } ∷ []
    → p.begin ≡ length written → p.end ≡ length written' → AreIn (length written) cs → past_of written' cs' ≡ past_of written cs ++ record { call = Write at more; number = number; told = told } ∷ []
past_put written written' more cs cs' at number told p grown items begin end within =
    ap (past_of written') items
    ∙ ap (λ (w : List ℕ). past_of w (cs ++ record { change = change.Write at p; number = number; told = told } ∷ [])) grown
    ∙ map_push (kept_of (written ++ more)) cs (record { change = change.Write at p; number = number; told = told })
    ∙ ap (λ (l : List Past). l ++ record { call = Write at (piece_of (written ++ more) p); number = number; told = told } ∷ []) (past_stays written more cs within)
    ∙ ap (λ (b : List ℕ). past_of written cs ++ record { call = Write at b; number = number; told = told } ∷ []) (piece_put written more p begin (end ∙ ap (λ (w : List ℕ). length w) grown))

pub changes_put : (written written' more : List ℕ) (cs cs' : List PastChange) (c : PastChange) → written' ≡ written ++ more → cs' ≡ cs ++ c ∷ [] → (piece_in c.change).begin ≡ length written → (piece_in c.change).end ≡ length written' → AreIn (length written) cs
    → AreIn (length written') cs'
changes_put written written' more cs cs' c grown items begin end within =
    let old : (x : PastChange) → IsIn (length written) (piece_in x.change) → IsIn (length written') (piece_in x.change) =
    λ x is. (is.0, omega (arith, is.1, ap (λ (w : List ℕ). length w) grown, length-append written more)) in
    let here : IsIn (length written') (piece_in c.change) = (omega (arith, begin, end, ap (λ (w : List ℕ). length w) grown, length-append written more), omega (arith, end)) in
    subst (AreIn (length written')) (sym items)
    (All-push (λ (x : PastChange). IsIn (length written') (piece_in x.change)) cs c
    (All-weaker (λ (x : PastChange). IsIn (length written) (piece_in x.change)) (λ (x : PastChange). IsIn (length written') (piece_in x.change)) old cs within) here)

-- a change more that wrote nothing
pub changes_push : (long : ℕ) (cs : List PastChange) (c : PastChange) → (piece_in c.change).begin ≡ 0 → (piece_in c.change).end ≡ 0 → AreIn long cs → AreIn long (cs ++ c ∷ [])
changes_push long cs c begin end within = All-push (λ (c : PastChange). IsIn long (piece_in c.change)) cs c within (omega (arith, begin, end), omega (arith, end))
