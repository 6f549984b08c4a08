-- A table that is no peer's, and the peers of an array one by one.
use Rattle.std.proofs.Common.{◌≡◌, ℕ, ◌+◌, ◌<◌, ◌≤◌, append-nil, true, false, List, [], ◌∷◌, ◌++◌, length, get_or, drop, codes, Option, Some, None, option_map, refl, ap, sym, append_assoc}
use Rattle.std.proofs.lemmas.List.{drop_all}
use Rattle.toml.specs.Data.{Members}
use Rattle.toml.specs.View.{view, items_view}
use Rattle.toml.specs.declared.value.Value.{Value}
use Rattle.toml.proofs.Views.{items_view-drop}
use Rattle.psb_settings.specs.declared.settings.PeerRow.{PeerRow}
use Rattle.psb_settings.specs.Settings.{required, optional, number_within, digest_of, id_in, address_in, has_only_keys, peer_keys, peer_in, peer_of, peers_in, ◌>>=◌}

-- nothing follows from any value, or there is none
pub to_none : {A B : Type 0} (o : Option A) {f : A → Option B} → ((a : A) → f a ≡ None) → (o >>= f) ≡ None
to_none None h = refl
to_none (Some a) h = h a

-- ---- one peer

abbrev pub key_in : Members → Option (List ℕ)
key_in t = required (codes "key") digest_of t

abbrev pub hops_in : Members → Option ℕ
hops_in t = optional (codes "hops") (number_within 0 255) 0 t

pub no_peer_id : (t : Members) → id_in t ≡ None → peer_in t ≡ None
unfolding peer_in
no_peer_id t e = rw e

pub no_peer_address : (t : Members) → address_in t ≡ None → peer_in t ≡ None
unfolding peer_in
no_peer_address t e = rw e (to_none (id_in t) (λ _. refl))

pub no_peer_key : (t : Members) → key_in t ≡ None → peer_in t ≡ None
unfolding peer_in
no_peer_key t e = rw e (to_none (id_in t) (λ _. to_none (address_in t) (λ _. refl)))

pub no_peer_hops : (t : Members) → hops_in t ≡ None → peer_in t ≡ None
unfolding peer_in
no_peer_hops t e = rw e (to_none (id_in t) (λ _. to_none (address_in t) (λ _. to_none (key_in t) (λ _. refl))))

pub other_peer_keys : (t : Members) → has_only_keys peer_keys t ≡ false → peer_in t ≡ None
unfolding peer_in
other_peer_keys t e = rw e (to_none (id_in t) (λ _. to_none (address_in t) (λ _. to_none (key_in t) (λ _. to_none (hops_in t) (λ _. refl)))))

pub peer_is : (t : Members) (id : ℕ) (address key : List ℕ) (hops : ℕ) → id_in t ≡ Some id → address_in t ≡ Some address → key_in t ≡ Some key → hops_in t ≡ Some hops → has_only_keys peer_keys t ≡ true
    → peer_in t ≡ Some (record { id = id; address = address; key = key; hops = hops })
unfolding peer_in
peer_is t id address key hops e f g h i = rw (e, f, g, h, i)

-- ---- the peers of an array

before : (rows : List PeerRow) (o : Option (List PeerRow)) (row : PeerRow) → option_map (λ more. rows ++ more) (o >>= (λ more. Some (row ∷ more))) ≡ option_map (λ more. (rows ++ row ∷ []) ++ more) o
before rows None row = refl
before rows (Some more) row = ap Some (sym (append_assoc rows (row ∷ []) more))

-- the rows so far, and those of the rest of the array
abbrev pub after_rows : List PeerRow → List Value → Option (List PeerRow)
after_rows rows rest = option_map (λ more. rows ++ more) (peers_in (items_view rest))

pub no_row : (rows : List PeerRow) (vs : List Value) (i : ℕ) (v : Value) → i < length vs → v ≡ get_or vs i v → peer_of (view v) ≡ None → after_rows rows (drop i vs) ≡ None
unfolding peers_in
no_row rows vs i v h at e = rw (items_view-drop vs i v h, ← at, e)

pub one_row : (rows : List PeerRow) (vs : List Value) (i : ℕ) (v : Value) (row : PeerRow) → i < length vs → v ≡ get_or vs i v → peer_of (view v) ≡ Some row
    → after_rows rows (drop i vs) ≡ after_rows (rows ++ row ∷ []) (drop (i + 1) vs)
unfolding peers_in
one_row rows vs i v row h at e = rw (items_view-drop vs i v h, ← at, e) (before rows _ row)

pub no_rows : (rows : List PeerRow) → rows ≡ [] → (o : Option (List PeerRow)) → o ≡ option_map (λ more. rows ++ more) o
no_rows rows e None = refl
no_rows rows e (Some more) = rw e

pub all_rows : (rows : List PeerRow) (vs : List Value) (i : ℕ) → length vs ≤ i → after_rows rows (drop i vs) ≡ Some rows
unfolding peers_in
all_rows rows vs i h = rw (drop_all i vs h, append-nil rows)
