-- The bodies that a history needs, and the histories that a node's log may stand for.
use Rattle.std.specs.Prelude.{◌≡◌, ℕ, ◌+◌, ◌≤◌, Bool, true, false, not, ◌||◌, ◌&&◌, ◌==◌, if◌then◌else◌, List, [], ◌∷◌, length, take, drop, option_map, Option, Some, None}
use Rattle.std.specs.List.{list_any, list_all}
use Rattle.psb_digest.specs.Hashes.{sha}
use Rattle.psb_bytes.specs.declared.ids.Object.TheVariants.{Slot}
use Rattle.psb_model.specs.declared.change.Change.{Change}
use Rattle.psb_model.specs.declared.change.Change.TheVariants.{Kept, TookFresh, TookSwap, LetGoBack, Replaced, Settled}
use Rattle.psb_model.specs.Words.{name_eq, has_so}
use Rattle.psb_model.specs.State.{State, row, in_key, is_held}
use Rattle.psb_model.specs.Heads.{body_of}
use Rattle.psb_model.specs.Grammar.{fits_widths}
use Rattle.psb_model.specs.Conditions.{peer_of, is_begun, is_direct}
use Rattle.psb_model.specs.History.{state, is_lawful}

-- the name whose sealed bytes the change carries
abbrev pub brings : Change → Option (List ℕ)
brings (Kept x) = if x.new then Some x.name else None
brings (TookFresh x) = if x.new then Some x.name else None
brings (TookSwap x) = if x.new then Some x.name else None
brings _ = None

-- the slots whose 512 bytes each the change carries
abbrev pub slots_given : Change → List ℕ
slots_given (LetGoBack x) = x.slots
slots_given (Replaced x) = if x.place == 0 then x.slot ∷ [] else []
slots_given (Settled x) = x.slots
slots_given _ = []

-- the change carries the bytes of this name
abbrev pub brings_name : List ℕ → Change → Bool
brings_name name c = elim (brings c) [ None ↦ false | Some n ↦ name_eq n name ]

-- the change carries the bytes of this slot of p
abbrev pub gives_slot : ℕ → ℕ → Change → Bool
gives_slot p n c = elim (peer_of c) [ None ↦ false | Some q ↦ q == p && list_any (λ m. m == n) (slots_given c) ]

-- the last of these changes that passes the test; and where it stands, the first having number n
abbrev pub last_that : (Change → Bool) → List Change → Option Change
last_that test [] = None
last_that test (c ∷ cs) = elim (last_that test cs) [ Some d ↦ Some d | None ↦ if test c then Some c else None ]

abbrev pub last_place : ℕ → (Change → Bool) → List Change → Option ℕ
last_place n test [] = None
last_place n test (c ∷ cs) = elim (last_place (n + 1) test cs) [ Some k ↦ Some k | None ↦ if test c then Some n else None ]

-- The bytes of a name: those that the last change which carries some brought.
abbrev pub last_bringing : List ℕ → List Change → Option Change
last_bringing name h = last_that (brings_name name) h

abbrev pub last_brought : List ℕ → List Change → Option (List ℕ)
last_brought name h = elim (last_bringing name h) [ Some c ↦ body_of c | None ↦ None ]

-- The bytes of a slot of p: those that the last change which carries some gave. A body has 512 bytes for
-- each of its slots, in their order.
abbrev pub piece_of : ℕ → List ℕ → List ℕ → List ℕ
piece_of n [] body = []
piece_of n (m ∷ ms) body = if m == n then take 512 body else piece_of n ms (drop 512 body)

abbrev pub given_by : ℕ → Change → Option (List ℕ)
given_by n c = option_map (piece_of n (slots_given c)) (body_of c)

abbrev pub slot_bytes : ℕ → ℕ → List Change → Option (List ℕ)
slot_bytes p n h = elim (last_that (gives_slot p n) h) [ Some c ↦ given_by n c | None ↦ None ]

-- the bytes of the name are held, and no later change brings them again
abbrev pub needs_name : State → Option (List ℕ) → List Change → Bool
needs_name s None later = false
needs_name s (Some name) later = is_held s name && not (list_any (brings_name name) later)

-- one of these slots of p is Direct, and no later change gives its bytes again
abbrev pub needs_slot : State → Option ℕ → List ℕ → List Change → Bool
needs_slot s None numbers later = false
needs_slot s (Some p) numbers later = list_any (λ n. has_so in_key is_direct (row s p).ins (Slot n) && not (list_any (gives_slot p n) later)) numbers

-- whether the history that gave the state needs the body of this change, which has these after it
abbrev pub is_needed_by : State → Change → List Change → Bool
is_needed_by s c later = is_begun c || needs_name s (brings c) later || needs_slot s (peer_of c) (slots_given c) later

-- a body that is there, and has the name as its SHA-256 where it is that of a name
abbrev pub is_body : Option (List ℕ) → Option (List ℕ) → Bool
is_body name None = false
is_body None (Some bytes) = true
is_body (Some name) (Some bytes) = name_eq (sha bytes) name

-- the body of a change that needs it
abbrev pub body_is_right : Change → Bool
body_is_right c = is_body (brings c) (body_of c)

-- each change whose body is needed has it
abbrev pub bodies_right : State → List Change → Bool
bodies_right s [] = true
bodies_right s (c ∷ cs) = (not (is_needed_by s c cs) || body_is_right c) && bodies_right s cs

-- a history has the bodies that it needs
abbrev pub is_sound : List Change → Bool
is_sound h = bodies_right (state h) h

-- the change gives no slot its bytes
abbrev pub no_slots : List ℕ → Bool
no_slots [] = true
no_slots (n ∷ ns) = false

-- the change has the bytes that it brings under a name, or gives to slots, if it does either
abbrev pub brings_right : Change → Bool
brings_right c = elim (brings c) [ None ↦ no_slots (slots_given c) || body_is_right c | Some name ↦ body_is_right c ]

-- The histories of nodes: each change is in the grammar and its condition holds after those before
-- it; what it says fits its fields; and the bodies that the history needs are there.
pub record IsValid (h : List Change) : Type 0 where
  pub lawful : is_lawful h ≡ true
  pub fit : list_all fits_widths h ≡ true
  pub some : 1 ≤ length h
  pub sound : is_sound h ≡ true
