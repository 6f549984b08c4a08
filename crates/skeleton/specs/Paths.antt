-- Paths: which are valid, and their order.
use Rattle.std.specs.Prelude.{ℕ, Bool, ◌&&◌, nat_le, List, length}
use Rattle.std.specs.Ordering.{nat_cmp, is_lt}
use Rattle.std.specs.Cmp.Lexicographic.{slice_cmp}
use Rattle.psb_bytes.specs.Names.{has_names}
pub use Rattle.psb_bytes.specs.Paths.{parents}
use Rattle.skeleton.specs.declared.limits.TheConstants.{MOST_PATH_BYTES}

-- from the least to the most
abbrev pub within : ℕ → ℕ → ℕ → Bool
within least most n = nat_le least n && nat_le n most

-- a path of 1 to 4,096 bytes
unfoldable pub is_path : List ℕ → Bool
is_path path = within 1 MOST_PATH_BYTES (length path) && has_names path

-- the order of paths: by their bytes
abbrev pub is_below : List ℕ → List ℕ → Bool
is_below a b = is_lt (slice_cmp nat_cmp a b)
