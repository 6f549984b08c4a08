-- The node's own chunks, as a tree keeps them, and the list that it stands for.
use Rattle.std.specs.Prelude.{ℕ, Bool, true, false, not, ◌&&◌, ◌||◌, if◌then◌else◌, List, filter, find, Option, Some, None}
use Rattle.std.specs.Ordering.{nat_cmp, is_lt}
use Rattle.std.specs.Cmp.Lexicographic.{slice_cmp}
use Rattle.psb_bytes.specs.declared.ids.Object.{Object}
use Rattle.psb_bytes.specs.declared.ids.Object.TheVariants.{Chunk}
use Rattle.psb_model.specs.declared.entries.OwnEntry.{OwnEntry}
use Rattle.psb_model.specs.declared.snapshots.Snapshot.{Snapshot}
use Rattle.psb_model.specs.Words.{units, name_eq, name_listed}
use Rattle.psb_model.specs.State.{Row, own_has, own_len, own_marked}
use Rattle.psb_model.specs.Effects.{own_with, kept_lists, is_named}
use Rattle.own_chunks.specs.declared.own.OwnChunk.{OwnChunk}

-- the object of an own chunk, which has the order of its name
abbrev pub own_key : OwnEntry → Object
own_key e = Chunk e.name

-- an own chunk, by its name and what is kept of it
abbrev pub own_entry : List ℕ × OwnChunk → OwnEntry
own_entry x = record { name = x.0; len = x.1.len; marked = x.1.marked }

-- the chunks, with one more if there is one
abbrev pub with_newest : Option OwnEntry → List OwnEntry → List OwnEntry
with_newest None l = l
with_newest (Some c) l = own_with c l

-- the name is that of the chunk, if there is one
abbrev pub is_newest : Option OwnEntry → List ℕ → Bool
is_newest None n = false
is_newest (Some c) n = name_eq c.name n

-- the length of the chunk, where it has the name
abbrev pub newest_len : Option OwnEntry → List ℕ → Option ℕ
newest_len None n = None
newest_len (Some c) n = if name_eq c.name n then Some c.len else None

-- whether the chunk has the name, and is marked
abbrev pub newest_marked : Option OwnEntry → List ℕ → Bool
newest_marked None n = false
newest_marked (Some c) n = name_eq c.name n && c.marked

abbrev pub room_for_newest : Option OwnEntry → ℕ
room_for_newest None = 1
room_for_newest (Some c) = 0

-- the length of the chunk of this name, None where there is none
abbrev pub known_len : List OwnEntry → List ℕ → Option ℕ
known_len own n = if own_has own n then Some (own_len own n) else None

-- whether a name stands behind another, if there is one
abbrev pub is_behind : Option (List ℕ) → List ℕ → Bool
is_behind None n = true
is_behind (Some m) n = is_lt (slice_cmp nat_cmp m n)

-- the first chunk, or the first behind the name
abbrev pub next_own : Option (List ℕ) → List OwnEntry → Option OwnEntry
next_own name own = find (λ (e : OwnEntry). is_behind name e.name) own

-- the chunk, where it stands behind the name
abbrev pub newest_behind : Option (List ℕ) → Option OwnEntry → Option OwnEntry
newest_behind name None = None
newest_behind name (Some c) = if is_behind name c.name then Some c else None

-- the one of two chunks that comes first
abbrev pub nearer : Option OwnEntry → Option OwnEntry → Option OwnEntry
nearer e None = e
nearer None (Some c) = Some c
nearer (Some e) (Some c) = if is_lt (slice_cmp nat_cmp c.name e.name) then Some c else Some e

-- the chunk, without its mark where a list has its name
abbrev pub lifts : List (List ℕ) → OwnEntry → Bool
lifts names e = e.marked && not (name_listed names e.name)

abbrev pub newest_lifted : List (List ℕ) → Option OwnEntry → Option OwnEntry
newest_lifted names None = None
newest_lifted names (Some c) = Some (record c { marked = lifts names c })

-- the chunk, marked where no kept snapshot lists it; a marked one leaves where no row names it
abbrev pub marks : List Snapshot → OwnEntry → Bool
marks kept e = e.marked || not (kept_lists kept e.name)

abbrev pub newest_left : List Snapshot → List (ℕ × Row) → Option OwnEntry → Option OwnEntry
newest_left kept rows None = None
newest_left kept rows (Some c) = if not (marks kept c) || is_named rows c.name then Some (record c { marked = marks kept c }) else None

-- the chunk, unless it is marked and no row names it
abbrev pub newest_named : List (ℕ × Row) → Option OwnEntry → Option OwnEntry
newest_named rows None = None
newest_named rows (Some c) = if not c.marked || is_named rows c.name then Some c else None

-- the chunk, where it has another name
abbrev pub newest_other : List ℕ → Option OwnEntry → Option OwnEntry
newest_other name None = None
newest_other name (Some c) = if name_eq c.name name then None else Some c

-- own without a chunk that is marked and that no row names any more
abbrev pub without_name : List ℕ → List OwnEntry → List OwnEntry
without_name name = filter (λ (e : OwnEntry). not (name_eq e.name name))

abbrev pub released : List (ℕ × Row) → Option (List ℕ) → List OwnEntry → List OwnEntry
released rows None own = own
released rows (Some n) own = if own_marked own n && not (is_named rows n) then without_name n own else own

-- the units of an own chunk, 0 where no name is given
abbrev pub own_units : List OwnEntry → Option (List ℕ) → ℕ
own_units own None = 0
own_units own (Some n) = units (own_len own n)
