-- Calls of a device in memory that fail by their kind.
use Rattle.std.specs.Prelude.{◌-◌, Bool, ◌==◌, ◌&&◌, if◌then◌else◌, List, map}
use Rattle.std.specs.List.{list_any}
use Rattle.psb_station.specs.declared.plan.Planned.{Planned}

-- the next call of this kind is one that was planned
abbrev pub is_planned : {K : Type 0} → (K → K → Bool) → K → List (Planned K) → Bool
is_planned same kind plan = list_any (λ p. same p.kind kind && p.number == 1) plan

-- a call of this kind came: one that was planned is one call nearer
abbrev pub nearer : {K : Type 0} → (K → K → Bool) → K → Planned K → Planned K
nearer same kind p = record { kind = p.kind; number = if same p.kind kind then p.number - 1 else p.number }

abbrev pub counted : {K : Type 0} → (K → K → Bool) → K → List (Planned K) → List (Planned K)
counted same kind plan = map (nearer same kind) plan
