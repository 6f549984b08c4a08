-- The keys of a table, and the keys of the members that it stands for.
use Rattle.std.proofs.Common.{◌≡◌, ℕ, Bool, ◌&&◌, ◌||◌, List, [], ◌∷◌, map, String, Global, string_bytes, refl, ap}
use Rattle.std.specs.List.{list_all, list_any}
use Rattle.std.specs.Map.{keys_of}
use Rattle.std.specs.Str.{bytes_eq}
use Rattle.toml.specs.View.{members_view}
use Rattle.toml.specs.declared.value.Value.{Value}
use Rattle.psb_settings.specs.Settings.{has_only_keys}

pub list_any-map : {X Y : Type 0} (test : Y → Bool) (h : X → Y) (xs : List X) → list_any test (map h xs) ≡ list_any (λ x. test (h x)) xs
list_any-map test h [] = refl
list_any-map test h (x ∷ xs) = ap (λ b. test (h x) || b) (list_any-map test h xs)

pub has_only_keys-view : (keys : List (List ℕ)) (es : List (String Global × Value)) → has_only_keys keys (members_view es) ≡ list_all (λ key. list_any (bytes_eq (string_bytes key)) keys) (keys_of es)
has_only_keys-view keys [] = refl
has_only_keys-view keys (e ∷ es) = ap (λ b. list_any (bytes_eq (string_bytes e.0)) keys && b) (has_only_keys-view keys es)
