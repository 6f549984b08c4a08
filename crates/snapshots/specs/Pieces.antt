-- The bytes of a piece that were not taken yet, and what a piece of a file is.
use Rattle.std.specs.Prelude.{◌≡◌, ℕ, ◌-◌, ◌≤◌, List, [], length, take, drop, Some}
use Rattle.psb_station.specs.Folder.{Content, File, found}
use Rattle.snapshots.specs.declared.unread.TheConstants.{PIECE_BYTES}

abbrev pub bytes_between : List ℕ → ℕ → ℕ → List ℕ
bytes_between bytes begin end = take (end - begin) (drop begin bytes)

pub record IsPlaced (bytes : List ℕ) (begin end : ℕ) : Type 0 where
  pub order : begin ≤ end
  pub within : end ≤ length bytes
  pub size : length bytes ≡ PIECE_BYTES

-- the bytes of the file at the path from a place on; none at its end alone
pub record ReadsNext (content : Content) (path : List ℕ) (at : ℕ) (piece : List ℕ) : Type 0 where
  pub bytes : List ℕ
  pub file : found content path ≡ Some (File bytes)
  pub piece_is : piece ≡ take (length piece) (drop at bytes)
  pub none_at_end : piece ≡ [] → length bytes ≤ at
