-- What the answers of the readers say of the definition.
use Rattle.std.specs.Prelude.{◌≡◌, Result, Ok, Err}
use Rattle.skeleton.specs.declared.faults.FaultAt.{FaultAt}
use Rattle.skeleton.specs.declared.faults.SkelError.{SkelError}
use Rattle.skeleton.specs.declared.faults.SkelError.TheVariants.{Bad, Memory}
use Rattle.skeleton.specs.Reading.{Unread, Reading}

-- a field that was read, or refused, as the definition does; the reader now stands behind it
abbrev pub Reads : {X Y : Type 0} → (X → Y) → Result X FaultAt → Unread → Reading Y → Type 0
Reads view (Ok x) unread reading = reading ≡ Ok (view x, unread)
Reads view (Err refusal) unread reading = reading ≡ Err refusal

-- an error is the definition's refusal, with its fault and its place, or want of memory
abbrev pub IsRefusalOf : {Y : Type 0} → SkelError → Result Y FaultAt → Type 0
IsRefusalOf (Bad fault place) reading = reading ≡ Err (record { fault = fault; place = place })
IsRefusalOf Memory reading = Unit {0}

-- what was read with memory
abbrev pub ReadsOrLacks : {X Y : Type 0} → (X → Y) → Result X SkelError → Unread → Reading Y → Type 0
ReadsOrLacks view (Ok x) unread reading = reading ≡ Ok (view x, unread)
ReadsOrLacks view (Err error) unread reading = IsRefusalOf error reading
