-- What a station means after its calls, by what its file held at first. Whether each answer of the file is that of an
-- honest one shows in its bytes: they are told up to the first answer that is not.
use Rattle.std.specs.Prelude.{◌≡◌, ◌⊎◌, ℕ, ◌+◌, ◌-◌, ◌≤◌, min, ◌==◌, nat_le, bytes_eq, Bool, true, false, not, ◌&&◌, ◌||◌, if◌then◌else◌, List, [], ◌∷◌, length, take, drop, Option, Some, None}
use Rattle.std.specs.Option.{option_map}
use Rattle.psb_station.specs.View.{View}
use Rattle.psb_station.specs.Calls.{Torn, CutShort, written, raised}
use Rattle.psb_host.specs.StationEvents.{StationEvent, counted, is_usable, outside_of}
use Rattle.psb_host.specs.StationEvents.StationEvent.{Measured, Read, Wrote, WasCut, Synced, Answered, JoinedAt, Sent, Said}

-- before the first call: the file reads these bytes, and a crash leaves one of these images
abbrev pub begun : List ℕ → (List ℕ → Type 0) → View
begun bytes images = record {
  bytes = Some bytes;
  may_leave = images;
  moment = 0;
  left_since = λ t c k. (t ≤ 0) × images c × (k ≡ 0);
  told = 0;
  disk_faults = 0;
  write_faults = 0;
  outside = outside_of [];
}

-- a moment more, at which a crash leaves one of these images, when so many things were told
abbrev pub since_more : View → (List ℕ → Type 0) → ℕ → ℕ → List ℕ → ℕ → Type 0
since_more v images told t c k = v.left_since t c k ⊎ ((t ≤ v.moment + 1) × images c × (k ≡ told))

-- the file was looked at
abbrev pub looked : Option (List ℕ) → Bool → View → View
looked bytes ok v = record v {
  bytes = bytes;
  moment = v.moment + 1;
  left_since = since_more v v.may_leave v.told;
  disk_faults = counted ok v.disk_faults;
}

-- the file was changed, or may have been
abbrev pub changed : Option (List ℕ) → (List ℕ → Type 0) → Bool → View → View
changed bytes images ok v = record v {
  bytes = bytes;
  may_leave = images;
  moment = v.moment + 1;
  left_since = since_more v images v.told;
  disk_faults = counted ok v.disk_faults;
  write_faults = counted ok v.write_faults;
}

-- the link or the clock answered
abbrev pub listened : View → View
listened v = record v { moment = v.moment + 1; left_since = since_more v v.may_leave v.told }

-- one thing more was told
abbrev pub told : View → View
told v = record v { moment = v.moment + 1; told = raised v.told; left_since = since_more v v.may_leave (raised v.told) }

-- the bytes, where they are told and pass a test
abbrev pub where_so : (List ℕ → Bool) → Option (List ℕ) → Option (List ℕ)
where_so test None = None
where_so test (Some bytes) = if test bytes then Some bytes else None

-- an honest file that holds these bytes reads so at a place, where n bytes are asked for
abbrev pub reads_so : ℕ → ℕ → List ℕ → List ℕ → Bool
reads_so at n came bytes = (length came == min n (length bytes - at)) && bytes_eq came (take (length came) (drop at bytes))

-- what went down of bytes that were given
abbrev pub went_down : Bool → ℕ → List ℕ → List ℕ
went_down true n given = given
went_down false n given = take n given

-- An answer that all went down, where fewer bytes did than were given, is no honest one: nothing more is told.
abbrev pub unless_short : {A : Type 0} → Bool → ℕ → List ℕ → Option A → Option A
unless_short true n given o = if n == length given then o else None
unless_short false n given o = o

-- where the last call was a write that is said to be done, all bytes went down that it was given
abbrev pub PutsAll : List StationEvent → Type 0
PutsAll (Wrote at n true given ∷ earlier) = n ≡ length given
PutsAll _ = Unit {0}

-- A cut that fails is not seen.
abbrev pub cut_to : Bool → ℕ → Option (List ℕ) → Option (List ℕ)
cut_to true n bytes = option_map (take n) bytes
cut_to false n bytes = bytes

-- after a sync a crash leaves what is read, where that is told
abbrev pub settled : Option (List ℕ) → (List ℕ → Type 0) → List ℕ → Type 0
settled None images c = images c
settled (Some bytes) images c = c ≡ bytes

-- A sync that fails settles nothing, and after it none does: the system may have dropped what was written and say so
-- no more. So a success that comes after a failure is no answer to build on, and the bytes are told no more.
abbrev pub bytes_synced : Bool → Bool → Option (List ℕ) → Option (List ℕ)
bytes_synced false usable bytes = bytes
bytes_synced true false bytes = None
bytes_synced true true bytes = bytes

abbrev pub images_synced : Bool → Bool → View → List ℕ → Type 0
images_synced false usable v = v.may_leave
images_synced true false v = v.may_leave
images_synced true true v = settled v.bytes v.may_leave

-- the bytes after one call more, where its answer is that of an honest file; the flag says that no sync before it failed
abbrev pub bytes_after : Bool → StationEvent → Option (List ℕ) → Option (List ℕ)
bytes_after usable (Measured ok n) bytes = where_so (λ b. not ok || (n == length b)) bytes
bytes_after usable (Read at n ok came) bytes = where_so (λ b. not ok || reads_so at n came b) bytes
bytes_after usable (Wrote at n ok given) bytes = option_map (written at (went_down ok n given)) (where_so (λ b. nat_le at (length b)) (unless_short ok n given bytes))
bytes_after usable (WasCut n ok) bytes = cut_to ok n (where_so (λ b. nat_le n (length b)) bytes)
bytes_after usable (Synced ok) bytes = bytes_synced ok usable bytes
bytes_after usable (Answered answer) bytes = bytes
bytes_after usable (JoinedAt id address) bytes = bytes
bytes_after usable (Sent to ok frame) bytes = bytes
bytes_after usable (Said ok text) bytes = bytes

-- one call more
abbrev pub after : Bool → StationEvent → View → View
after usable (Measured ok n) v = looked (bytes_after usable (Measured ok n) v.bytes) ok v
after usable (Read at n ok came) v = looked (bytes_after usable (Read at n ok came) v.bytes) ok v
after usable (Wrote at n ok given) v = changed (bytes_after usable (Wrote at n ok given) v.bytes) (λ c. (d : List ℕ) × v.may_leave d × Torn at (length given) d c) ok v
after usable (WasCut n ok) v = changed (bytes_after usable (WasCut n ok) v.bytes) (λ c. (d : List ℕ) × v.may_leave d × CutShort n d c) ok v
after usable (Synced ok) v = changed (bytes_after usable (Synced ok) v.bytes) (images_synced ok usable v) ok v
after usable (Answered answer) v = listened v
after usable (JoinedAt id address) v = listened v
after usable (Sent to ok frame) v = told v
after usable (Said ok text) v = told v

abbrev pub replay : List ℕ → (List ℕ → Type 0) → List StationEvent → View
replay bytes images [] = begun bytes images
replay bytes images (e ∷ earlier) = after (is_usable earlier) e (replay bytes images earlier)

-- a station with this record of its calls, the newest first
abbrev pub meaning : List ℕ → (List ℕ → Type 0) → List StationEvent → View
meaning bytes images events = record (replay bytes images events) { outside = outside_of events }

-- nothing was called yet
pub record IsBegun (bytes : List ℕ) (images : List ℕ → Type 0) (v : View) : Type 0 where
  pub reads : v.bytes ≡ Some bytes
  pub left : (c : List ℕ) → v.may_leave c → images c
  pub since : (t : ℕ) (c : List ℕ) (k : ℕ) → v.left_since t c k → images c × (k ≡ 0)
  pub told : v.told ≡ 0
  pub moment : v.moment ≡ 0
  pub outside : v.outside ≡ outside_of []
