-- A text that is no settings, and one that is.
use Rattle.std.proofs.Common.{◌≡◌, ℕ, ◌<◌, ◌≤◌, nat_le, le-leb, Bool, true, false, ◌&&◌, List, length, Option, Some, None, option_and_then, if◌then◌else◌, refl}
use Rattle.std.specs.Str.{IsUtf8, is_utf8}
use Rattle.std.proofs.lemmas.Str.{IsUtf8-from_is_utf8, is_utf8-from_IsUtf8}
use Rattle.std.proofs.lemmas.Bool.{and_right, lt-leb}
use Rattle.toml.specs.Data.{Members}
use Rattle.toml.specs.Parse.{parse_document}
use Rattle.psb_settings.specs.Settings.{settings_in, settings_of}

pub long_text : (text : List ℕ) → 65536 < length text → settings_of text ≡ None
unfolding settings_of
long_text text h = rw (and_right (is_utf8 text) (nat_le (length text) 65536) (lt-leb (length text) 65536 h))

pub read_text : (text : List ℕ) (t : Members) → IsUtf8 text → length text ≤ 65536 → parse_document text ≡ Some t → settings_of text ≡ settings_in t
unfolding settings_of
read_text text t u h e = rw (is_utf8-from_IsUtf8 text u, le-leb (length text) 65536 h, e)

none_if : {A : Type 0} (a b : Bool) (o : Option A) → (a ≡ true → o ≡ None) → (if a && b then o else None) ≡ None
none_if true true o h = h refl
none_if true false o h = refl
none_if false b o h = refl

pub no_document : (text : List ℕ) → (IsUtf8 text → parse_document text ≡ None) → settings_of text ≡ None
unfolding settings_of
no_document text h = none_if (is_utf8 text) (nat_le (length text) 65536) (option_and_then settings_in (parse_document text)) (λ yes. rw (h (IsUtf8-from_is_utf8 text yes)))
