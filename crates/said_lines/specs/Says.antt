-- What is said: lines, each in one call, and for a refusal its one line.
use Rattle.std.specs.Prelude.{◌≡◌, ◌⊎◌, ℕ, ◌+◌, ◌<◌, ◌≤◌, List, [], ◌∷◌, ◌++◌, length, take, map, flat_map, Result, Ok, Err}
use Rattle.psb_station.specs.View.{View}
use Rattle.psb_station.specs.Calls.{Grows, Rose}
use Rattle.psb_station.specs.Span.{Leaves, Tells_bytes}
use Rattle.psb_settings.specs.declared.settings.PeerRow.{PeerRow}
use Rattle.psb_settings.specs.declared.settings.Settings.{Settings}
use Rattle.psb_model.specs.State.{State, row, held_units, back_units, debt_units}
use Rattle.psb_model.specs.History.{state}
use Rattle.psb_model.specs.declared.change.Change.{Change}
use Rattle.node_serve.specs.Sends.{ToldMore}
use Rattle.node_serve.specs.Spans.{Tally}
use Rattle.said_lines.specs.Lines.{joined_lines, peer_line, debt_line, turns_line, snapshot_line}
use Rattle.said_lines.specs.Status.{refusal_line}
use Rattle.said_lines.specs.declared.saying.SayError.{SayError}
use Rattle.said_lines.specs.declared.saying.SayError.TheVariants as say_error
use Rattle.said_lines.specs.declared.status.Status.{Status}
use Rattle.said_lines.specs.declared.status.Status.TheVariants.{DiskFault, NotNode, Memory}

-- nothing is done but that texts are said, or tried
pub record OnlySays (old new : View) : Type 0 where
  pub bytes : Tells_bytes new → new.bytes ≡ old.bytes
  pub disk_faults : new.disk_faults ≡ old.disk_faults
  pub kept : new.outside ≡ record old.outside { said = new.outside.said; say_faults = new.outside.say_faults }

-- a run that tries to say so many texts, says these bytes, and makes no other call
pub record Utters (old new : View) (tried : ℕ) (text : List ℕ) : Type 0 where
  pub bytes : Tells_bytes new → new.bytes ≡ old.bytes
  pub images : (c : List ℕ) → new.may_leave c → old.may_leave c
  pub told : ToldMore old.told new.told tried
  pub disk_faults : new.disk_faults ≡ old.disk_faults
  pub moments : Leaves old new (λ c k. old.may_leave c × (k ≤ old.told + tried))
  pub kept : new.outside ≡ record old.outside { said = new.outside.said; say_faults = new.outside.say_faults }
  pub counts : old.outside.say_faults ≤ new.outside.say_faults
  pub said : Grows old.outside.said new.outside.said text

-- the line of a peer
abbrev pub line_of_row : State → PeerRow → List ℕ
line_of_row s p = peer_line p.id (held_units (row s p.id)) (back_units (row s p.id)) (debt_units (row s p.id))

-- the lines of the peers at a state, in the order of the settings
abbrev pub peer_lines : Settings → State → List (List ℕ)
peer_lines settings s = map (line_of_row s) settings.peers

-- the lines of a peer in `ledger`: that of its numbers, and one for each row of its debt, in order of booking
abbrev pub lines_of_row : State → PeerRow → List (List ℕ)
lines_of_row s p = line_of_row s p ∷ map debt_line (row s p.id).debts

-- the lines of `ledger` at a state, in the order of the settings
abbrev pub ledger_lines : Settings → State → List (List ℕ)
ledger_lines settings s = flat_map (lines_of_row s) settings.peers

-- the lines of the kept snapshots at a state, by number
abbrev pub snapshot_lines : State → List (List ℕ)
snapshot_lines s = map snapshot_line s.kept

-- the lines of `serve` at a state: those of the peers, and that of the turns
abbrev pub lines_at : Settings → State → ℕ → Tally → List (List ℕ)
lines_at settings s turns tally = peer_lines settings s ++ turns_line turns tally.taken tally.dropped tally.lost ∷ []

abbrev pub served_lines : Settings → List Change → ℕ → Tally → List (List ℕ)
served_lines settings h turns tally = lines_at settings (state h) turns tally

-- what was said of the lines, up to the first saying that failed or for which there was no memory
abbrev pub SaysLines : List (List ℕ) → View → View → Result (Unit {0}) SayError → Type 0
SaysLines lines old new (Ok x) = Utters old new (length lines) (joined_lines lines)
SaysLines lines old new (Err say_error.Say) = (full : ℕ) × (full < length lines) × Utters old new (full + 1) (joined_lines (take full lines)) × Rose old.outside.say_faults new.outside.say_faults
SaysLines lines old new (Err say_error.Memory) = (full : ℕ) × (full < length lines) × Utters old new full (joined_lines (take full lines))

-- the refusal was said, or its saying failed
abbrev pub IsRefusal : Status → List ℕ → View → View → Type 0
IsRefusal status text old new = (text ≡ refusal_line status) ⊎ ((text ≡ []) × Rose old.outside.say_faults new.outside.say_faults)

-- nothing was done: one saying of the refusal was tried, and nothing else was told outside
pub record Refuses (status : Status) (old new : View) : Type 0 where
  pub text : List ℕ
  pub said : Grows old.outside.said new.outside.said text
  pub how : IsRefusal status text old new
  pub told : ToldMore old.told new.told 1
  pub kept : new.outside ≡ record old.outside { said = new.outside.said; say_faults = new.outside.say_faults }
  pub bytes : new.bytes ≡ old.bytes

-- ---- a node that was not opened

-- why it was not
abbrev pub IsUnopened : Status → Type 0
IsUnopened status = (status ≡ NotNode) ⊎ (status ≡ DiskFault) ⊎ (status ≡ Memory)

-- one saying of the refusal was tried, and nothing else came of it
pub record NotOpened (status : Status) (old new : View) : Type 0 where
  pub refuses : Tells_bytes new → Refuses status old new
  pub kept : new.outside ≡ record old.outside { said = new.outside.said; say_faults = new.outside.say_faults }
  pub images : (c : List ℕ) (k : ℕ) → new.left_since old.moment c k → old.may_leave c
