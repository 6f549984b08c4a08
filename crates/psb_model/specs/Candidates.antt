-- The order of candidates for buddies (Pastiche, OSDI 2002: those that hold most of the sample).
use Rattle.std.specs.Prelude.{◌*◌, nat_lt, Bool, true, not, ◌&&◌, ◌==◌, if◌then◌else◌, List, [], ◌∷◌}
use Rattle.std.specs.List.{list_any}
use Rattle.psb_model.specs.declared.entries.Candidate.{Candidate}

-- the order of candidates: greater got/of, then fewer hops, then the lesser id
abbrev pub comes_before : Candidate → Candidate → Bool
comes_before a b =
    if a.got * b.of == b.got * a.of then (if a.hops == b.hops then nat_lt a.peer b.peer else nat_lt a.hops b.hops) else nat_lt (b.got * a.of) (a.got * b.of)

-- each comes before the next
abbrev pub in_select_order : List Candidate → Bool
in_select_order [] = true
in_select_order (x ∷ []) = true
in_select_order (x ∷ y ∷ ys) = comes_before x y && in_select_order (y ∷ ys)

-- no peer is listed twice
abbrev pub distinct_peers : List Candidate → Bool
distinct_peers [] = true
distinct_peers (x ∷ xs) = not (list_any (λ (y : Candidate). x.peer == y.peer) xs) && distinct_peers xs
