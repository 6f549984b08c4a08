-- What a restart forgets: one record for each peer, and what is noted there.
use Rattle.std.specs.Prelude.{ℕ, ◌+◌, ◌-◌, ◌^◌, nat_lt, Bool, false, not, ◌||◌, ◌&&◌, ◌==◌, if◌then◌else◌, min, List, [], ◌∷◌, map, is_some, Option, Some, None}
use Rattle.std.specs.List.{list_all}
use Rattle.psb_settings.specs.declared.settings.Settings.{Settings}
use Rattle.psb_bytes.specs.declared.ids.Object.{Object}
use Rattle.psb_model.specs.Words.{has}
use Rattle.psb_model.specs.State.{State, Row, row, out_key, debt_key}
use Rattle.psb_model.specs.Conditions.{peer_of}
use Rattle.psb_model.specs.Effects.{after}
use Rattle.psb_model.specs.declared.change.Change.{Change}
use Rattle.psb_model.specs.declared.change.Change.TheVariants.{Snapped, Forgot, Turned, Asked}

-- Of a peer: the ticks that were absorbed, those that are to pass before a deal is proposed to it, the bits of what it
-- answered last to the question that is asked before buddies are chosen, if that is kept; the tick at which the probe
-- that runs began, if one runs, and the one at which the last probe ended.
pub record PeerState : Type 0 where
  pub clock : ℕ
  pub wait : ℕ
  pub sample : Option ℕ
  pub began : Option ℕ
  pub ended : ℕ

-- before anything came of it
abbrev pub unheard : PeerState
unheard = record { clock = 0; wait = 0; sample = None; began = None; ended = 0 }

-- a clock of 2^62 stays as it is
abbrev pub later : ℕ → ℕ
later c = min (c + 1) (2 ^ 62)

-- At a tick its clock goes on, and there is one less to wait for.
abbrev pub after_tick : PeerState → PeerState
after_tick x = record x { clock = later x.clock; wait = x.wait - 1 }

-- what it answered is kept, in the place of what it answered before
abbrev pub sampled : ℕ → PeerState → PeerState
sampled bits x = record x { sample = Some bits }

-- nothing that it answered is kept
abbrev pub unsampled : PeerState → PeerState
unsampled x = record x { sample = None }

-- so many of its ticks are waited for
abbrev pub waiting : ℕ → PeerState → PeerState
waiting ticks x = record x { wait = ticks }

-- a probe begins now, or the one that runs ends
abbrev pub asked_now : PeerState → PeerState
asked_now x = record x { began = Some x.clock }

abbrev pub ended_now : PeerState → PeerState
ended_now x = record x { began = None; ended = x.clock }

-- Each object that was asked for, if that has no outcome yet, is still there or in debt.
abbrev pub still_there : Row → Object → Bool
still_there r o = has out_key r.outs o || has debt_key r.debts o

abbrev pub still_asked : Row → Bool
still_asked r = elim r.asked [ None ↦ false | Some a ↦ list_all (still_there r) a.1 ]

-- A probe that runs goes on while it is so of the peer's row.
abbrev pub probe_goes_on : Bool → PeerState → PeerState
probe_goes_on still x = if not still && is_some x.began then ended_now x else x

-- WAITING: after a refusal the node makes no proposal at the next ticks of the peer. The node with the
-- lesser id waits for 2 of them and the other for 4, so that two that refused each other don't go on in step.
abbrev pub ticks_to_wait : ℕ → ℕ → ℕ
ticks_to_wait own p = if nat_lt own p then 2 else 4

pub record Volatile : Type 0 where
  pub peers : List (ℕ × PeerState)

-- what a node that was just opened has
abbrev pub empty : Volatile
empty = record { peers = [] }

abbrev pub found_in : List (ℕ × PeerState) → ℕ → PeerState
found_in [] p = unheard
found_in (x ∷ xs) p = if x.0 == p then x.1 else found_in xs p

abbrev pub of_peer : Volatile → ℕ → PeerState
of_peer v p = found_in v.peers p

-- what is done to the record of one peer, and to those of all
abbrev pub changed_in : ℕ → (PeerState → PeerState) → List (ℕ × PeerState) → List (ℕ × PeerState)
changed_in p f [] = (p, f unheard) ∷ []
changed_in p f (x ∷ xs) = if x.0 == p then (p, f x.1) ∷ xs else x ∷ changed_in p f xs

abbrev pub at_peer : ℕ → (PeerState → PeerState) → Volatile → Volatile
at_peer p f v = record { peers = changed_in p f v.peers }

abbrev pub at_each : (PeerState → PeerState) → Volatile → Volatile
at_each f v = record { peers = map (λ (x : ℕ × PeerState). (x.0, f x.1)) v.peers }

-- What an input notes beside the change that it makes, before that: nothing, a tick of a peer, or what a peer
-- answered.
pub data Note : Type 0 where
  Nothing : Note
  Ticked : ℕ → Note
  Sampled : ℕ → ℕ → Note

abbrev pub noted : Note → Volatile → Volatile
noted Nothing v = v
noted (Ticked p) v = at_peer p after_tick v
noted (Sampled p bits) v = at_peer p (sampled bits) v

abbrev pub turned_by : Option Settings → ℕ → Volatile → Volatile
turned_by None p v = v
turned_by (Some settings) p v = at_peer p (waiting (ticks_to_wait settings.id p)) v

-- What a change notes beside what it does to a probe; the state is the one before it. After a snapshot, or without one,
-- other names are wanted, and what was answered tells nothing of them.
abbrev pub marked_by : State → Change → Volatile → Volatile
marked_by s (Snapped x) v = at_each unsampled v
marked_by s (Forgot x) v = at_each unsampled v
marked_by s (Turned x) v = turned_by s.settings x.peer v
marked_by s (Asked x) v = at_peer x.peer asked_now v
marked_by s _ v = v

-- Of the peer of a change the probe that runs ends with its outcome, and where what it asks for is there no longer.
abbrev pub probed_by : State → Option ℕ → Volatile → Volatile
probed_by after None v = v
probed_by after (Some p) v = at_peer p (probe_goes_on (still_asked (row after p))) v

-- What a change does to it, whatever input made the change.
abbrev pub by_change : State → Change → Volatile → Volatile
by_change s c v = probed_by (after s c) (peer_of c) (marked_by s c v)

abbrev pub by_changes : State → Option Change → Volatile → Volatile
by_changes s None v = v
by_changes s (Some c) v = by_change s c v
