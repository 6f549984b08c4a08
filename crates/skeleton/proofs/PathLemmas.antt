-- Paths of bytes that are text, and of bytes that are not.
use Rattle.std.proofs.Common.{◌≡◌, ℕ, Bool, true, false, ◌&&◌, List, length, refl}
use Rattle.std.specs.List.{list_all}
use Rattle.std.specs.Str.{IsUtf8, is_utf8}
use Rattle.std.proofs.lemmas.Str.{IsUtf8-from_is_utf8, is_utf8-from_IsUtf8}
use Rattle.skeleton.proofs.Lists.{by_cases}
use Rattle.psb_bytes.specs.Names.{is_name, parts, has_names}
use Rattle.skeleton.specs.Paths.{within, is_path}
use Rattle.skeleton.specs.declared.limits.TheConstants.{MOST_PATH_BYTES}

-- of a text, the length and the parts decide
pub path_of_text : (path : List ℕ) → IsUtf8 path → is_path path ≡ (within 1 MOST_PATH_BYTES (length path) && list_all is_name (parts path))
unfolding is_path
path_of_text path h = rw (is_utf8-from_IsUtf8 path h) refl

-- what is no text is no path
pub no_path : (path : List ℕ) → (IsUtf8 path → ⊥) → is_path path ≡ false
unfolding is_path
no_path path h = by_cases (is_utf8 path) (λ e. absurd (h (IsUtf8-from_is_utf8 path e))) (λ e. rw e (none_passes (within 1 MOST_PATH_BYTES (length path))))
  where
    none_passes : (b : Bool) → (b && false) ≡ false
    none_passes true = refl
    none_passes false = refl
