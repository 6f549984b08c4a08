-- The frames whose sending a station in memory tried.
use Rattle.std.proofs.Common.{◌≡◌, ℕ, zero, suc, ◌+◌, ◌≤◌, List, [], ◌∷◌, ◌++◌, Option, None, refl, arith}
use Rattle.psb_station.specs.Calls.{Grows, raised}
use Rattle.psb_station.specs.Memory.{tried_of}

-- one was sent
pub tried_more : (faults : ℕ) (sent : List (ℕ × List ℕ)) (frame : ℕ × List ℕ) → Grows (tried_of faults sent) (tried_of faults (sent ++ frame ∷ [])) (frame ∷ [])
tried_more zero sent frame = (sent, refl, refl)
tried_more (suc faults) sent frame = tt

none_told : (faults : ℕ) (sent : List (ℕ × List ℕ)) → 1 ≤ faults → tried_of faults sent ≡ None
none_told zero sent some = absurd (omega (arith, some))
none_told (suc faults) sent some = refl

-- one was not
pub tried_lost : (old : Option (List (ℕ × List ℕ))) (before faults : ℕ) (sent more : List (ℕ × List ℕ)) → faults ≡ raised before → Grows old (tried_of faults sent) more
tried_lost old before faults sent more rose =
    let some : 1 ≤ faults = omega (arith, rose) in
    rw (none_told faults sent some) tt
