-- Which entries a discard takes (Samsara, SOSP 2003: a peer's debt is paid by chance, the more often
-- the more probes it failed in a row).
use Rattle.std.specs.Prelude.{ℕ, ◌+◌, ◌-◌, ◌%◌, nat_le, nat_lt, Bool, not, ◌&&◌, ◌==◌, if◌then◌else◌, List, [], ◌∷◌, filter, Option, Some, None}
use Rattle.psb_model.specs.declared.entries.InEntry.{InEntry}
use Rattle.psb_settings.specs.declared.settings.Settings.{Settings}
use Rattle.psb_model.specs.State.{State, row, debt_units, tied_in}
use Rattle.psb_digest.specs.Words.{own_word}

-- one entry in how many, by the failures in a row: 0 stands for none
abbrev pub one_in : ℕ → ℕ
one_in fails = if nat_lt fails 3 then 0 else if fails == 3 then 8 else if fails == 4 then 4 else if fails == 5 then 2 else 1

-- the word lets the entry go, and the debt and the count have room for it
abbrev pub is_picked : ℕ → ℕ → ℕ → ℕ → InEntry → Bool
is_picked every word left room e = nat_lt 0 every && word % every == 0 && nat_le e.units left && nat_lt 0 room

-- the entries that the words choose: entry j, the debt that is left, and how many may still be taken
abbrev pub picks : (ℕ → ℕ) → ℕ → ℕ → ℕ → ℕ → List InEntry → List InEntry
picks words every j left room [] = []
picks words every j left room (e ∷ es) =
    if is_picked every (words j) left room e
    then e ∷ picks words every (j + 1) (left - e.units) (room - 1) es
    else picks words every (j + 1) left room es

-- the seed of the settings
abbrev pub seed : Option Settings → List ℕ
seed None = []
seed (Some x) = x.seed

-- the untied entries of in(p) that the words of the next change choose
abbrev pub discards : State → ℕ → List InEntry
discards s p = picks (own_word (seed s.settings) s.changes) (one_in (row s p).fails) 0 (debt_units (row s p)) 1048576 (filter (λ (e : InEntry). not (tied_in s p e.object)) (row s p).ins)
