-- The bytes that a record of a log gives a slot.
use Rattle.std.specs.Prelude.{◌≡◌, ◌==◌, ℕ, Bool, true, if◌then◌else◌, List, position, Option, Some, None}
use Rattle.std.specs.List.{list_any}
use Rattle.node_journal.specs.Entry.{Entry}
use Rattle.psb_model.specs.Needed.{slots_given, given_by}
use Rattle.psb_model.specs.declared.change.Change.{Change}
use Rattle.change_codec.specs.Records.{IsRead}

-- the change gives a slot of this number its bytes
abbrev pub gives_number : ℕ → Change → Bool
gives_number n c = list_any (λ m. m == n) (slots_given c)

-- The place of slot n among those whose bytes the change with this head gives. Whether its body is there is of no
-- account.
abbrev pub IsPlaceIn : Option ℕ → ℕ → List ℕ → Type 0
IsPlaceIn place n head = (c : Change) → IsRead c head None → place ≡ position (λ m. m == n) (slots_given c)

-- these bytes, where some were found, are those that a change gives slot n
abbrev pub AreGivenBy : Change → ℕ → Bool → List ℕ → Type 0
AreGivenBy c n found bytes = given_by n c ≡ (if found then Some bytes else None)

-- so it is with whatever change the record is of, if that gives the slot its bytes
abbrev pub AreGivenIn : Entry → ℕ → Bool → List ℕ → Type 0
AreGivenIn e n found bytes = (c : Change) → IsRead c e.head e.body → gives_number n c ≡ true → AreGivenBy c n found bytes
