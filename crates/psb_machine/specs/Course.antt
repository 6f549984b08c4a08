-- A course: what a command makes a node absorb, and what it tells, in order.
use Rattle.std.specs.Prelude.{ℕ, zero, suc, ◌+◌, ◌-◌, if◌then◌else◌, is_some, List, [], ◌∷◌, ◌++◌, length, map}
use Rattle.psb_machine.specs.Machine.{Situation, Input, Datagram, Tick, Keep, Snap, Forget, changes_of, react, sent_by, next}

-- what is told outside: a frame that is sent to a peer (a letter or a Get), or a line
pub data Telling : Type 0 where
  Send : ℕ × List ℕ → Telling
  Say : List ℕ → Telling

-- A step: an input is absorbed and then its letters are sent, or something else is told.
pub data Step : Type 0 where
  Absorb : Input → Step
  Tell : Telling → Step

-- a node after a step, and after these
abbrev pub after_step : Situation → Step → Situation
after_step n (Absorb x) = next n x
after_step n (Tell t) = n

abbrev pub after_all : Situation → List Step → Situation
after_all n [] = n
after_all n (s ∷ ss) = after_all (after_step n s) ss

-- all that is told in them, in order
abbrev pub tellings_of : Situation → Step → List Telling
tellings_of n (Absorb x) = map Send (sent_by n x)
tellings_of n (Tell t) = t ∷ []

abbrev pub tellings : Situation → List Step → List Telling
tellings n [] = []
tellings n (s ∷ ss) = tellings_of n s ++ tellings (after_step n s) ss

-- the frames among what is told, and the lines
abbrev pub sent_of : List Telling → List (ℕ × List ℕ)
sent_of [] = []
sent_of (Send frame ∷ ts) = frame ∷ sent_of ts
sent_of (Say line ∷ ts) = sent_of ts

abbrev pub said_of : List Telling → List (List ℕ)
said_of [] = []
said_of (Send frame ∷ ts) = said_of ts
said_of (Say line ∷ ts) = line ∷ said_of ts

abbrev pub sent_in : Situation → List Step → List (ℕ × List ℕ)
sent_in n ss = sent_of (tellings n ss)

abbrev pub said_in : Situation → List Step → List (List ℕ)
said_in n ss = said_of (tellings n ss)

-- how many datagrams came, and how many of them fail a test of their format and are dropped
abbrev pub datagrams : Input → ℕ
datagrams (Datagram x) = 1
datagrams (Tick p) = 0
datagrams (Keep name bytes) = 0
datagrams (Snap note) = 0
datagrams (Forget number) = 0

abbrev pub taken_of : Step → ℕ
taken_of (Absorb x) = datagrams x
taken_of (Tell t) = 0

abbrev pub taken_in : List Step → ℕ
taken_in [] = 0
taken_in (s ∷ ss) = taken_of s + taken_in ss

abbrev pub dropped_of : Situation → Step → ℕ
dropped_of n (Absorb x) = if is_some (react n x).dropped then 1 else 0
dropped_of n (Tell t) = 0

abbrev pub dropped_in : Situation → List Step → ℕ
dropped_in n [] = 0
dropped_in n (s ∷ ss) = dropped_of n s + dropped_in (after_step n s) ss

-- this many, but none before the first telling
abbrev pub unless_first : ℕ → ℕ → ℕ
unless_first zero n = 0
unless_first (suc j) n = n

-- how many changes a step makes
abbrev pub changed_by : Situation → Step → ℕ
changed_by n (Absorb x) = length (changes_of (react n x))
changed_by n (Tell t) = 0

-- how many changes were made by inputs that had been absorbed before the j-th telling was tried
abbrev pub told_by : Situation → List Step → ℕ → ℕ
told_by n [] j = 0
told_by n (s ∷ ss) j = unless_first j (changed_by n s + told_by (after_step n s) ss (j - length (tellings_of n s)))

-- how many tellings were tried in steps that failed: a line whose saying failed was tried
abbrev pub tried_of : Step → ℕ
tried_of (Absorb x) = 0
tried_of (Tell t) = 1

abbrev pub tried_in : List Step → ℕ
tried_in [] = 0
tried_in (s ∷ ss) = tried_of s + tried_in ss
