-- A table that is no settings, and one that is.
use Rattle.std.proofs.Common.{◌≡◌, ℕ, Bool, true, false, List, codes, Option, Some, None, refl}
use Rattle.std.proofs.lemmas.Bool.{and_right}
use Rattle.toml.specs.Data.{Members, as_bool}
use Rattle.psb_settings.specs.declared.settings.PeerRow.{PeerRow}
use Rattle.psb_settings.specs.declared.settings.Settings.{Settings}
use Rattle.psb_settings.specs.Settings.{required, optional, number_within, digest_of, id_in, address_in, has_only_keys, settings_keys, most_peers, are_apart, peers_of, settings_in}
use Rattle.psb_settings.proofs.Peers.{to_none}

-- the fields of the table
abbrev pub seed_in : Members → Option (List ℕ)
seed_in t = required (codes "seed") digest_of t

abbrev pub capacity_in : Members → Option ℕ
capacity_in t = required (codes "capacity") (number_within 0 2147483648) t

abbrev pub buddies_in : Members → Option ℕ
buddies_in t = optional (codes "buddies") (number_within 1 most_peers) 2 t

abbrev pub forward_in : Members → Option Bool
forward_in t = optional (codes "forward") as_bool true t

abbrev pub peers_at : Members → Option (List PeerRow)
peers_at t = required (codes "peer") peers_of t

pub no_id : (t : Members) → id_in t ≡ None → settings_in t ≡ None
unfolding settings_in
no_id t e = rw e

pub no_address : (t : Members) → address_in t ≡ None → settings_in t ≡ None
unfolding settings_in
no_address t e = rw e (to_none (id_in t) (λ _. refl))

pub no_seed : (t : Members) → seed_in t ≡ None → settings_in t ≡ None
unfolding settings_in
no_seed t e = rw e (to_none (id_in t) (λ _. to_none (address_in t) (λ _. refl)))

pub no_capacity : (t : Members) → capacity_in t ≡ None → settings_in t ≡ None
unfolding settings_in
no_capacity t e = rw e (to_none (id_in t) (λ _. to_none (address_in t) (λ _. to_none (seed_in t) (λ _. refl))))

pub no_buddies : (t : Members) → buddies_in t ≡ None → settings_in t ≡ None
unfolding settings_in
no_buddies t e = rw e (to_none (id_in t) (λ _. to_none (address_in t) (λ _. to_none (seed_in t) (λ _. to_none (capacity_in t) (λ _. refl)))))

pub no_forward : (t : Members) → forward_in t ≡ None → settings_in t ≡ None
unfolding settings_in
no_forward t e = rw e (to_none (id_in t) (λ _. to_none (address_in t) (λ _. to_none (seed_in t) (λ _. to_none (capacity_in t) (λ _. to_none (buddies_in t) (λ _. refl))))))

pub no_peers_at : (t : Members) → peers_at t ≡ None → settings_in t ≡ None
unfolding settings_in
no_peers_at t e =
    rw e (to_none (id_in t) (λ _. to_none (address_in t) (λ _. to_none (seed_in t) (λ _. to_none (capacity_in t) (λ _. to_none (buddies_in t) (λ _. to_none (forward_in t) (λ _. refl)))))))

pub other_keys : (t : Members) → has_only_keys settings_keys t ≡ false → settings_in t ≡ None
unfolding settings_in
other_keys t e =
    rw e
    (to_none (id_in t)
    (λ _. to_none (address_in t) (λ _. to_none (seed_in t) (λ _. to_none (capacity_in t) (λ _. to_none (buddies_in t) (λ _. to_none (forward_in t) (λ _. to_none (peers_at t) (λ _. refl))))))))

-- what the fields of a table were read as
pub record HasFields (t : Members) (s : Settings) : Type 0 where
  pub id : id_in t ≡ Some s.id
  pub address : address_in t ≡ Some s.address
  pub seed : seed_in t ≡ Some s.seed
  pub capacity : capacity_in t ≡ Some s.capacity
  pub buddies : buddies_in t ≡ Some s.buddies
  pub forward : forward_in t ≡ Some s.forward
  pub peers : peers_at t ≡ Some s.peers

pub same_ids : (t : Members) (s : Settings) → HasFields t s → are_apart s.id s.peers ≡ false → settings_in t ≡ None
unfolding settings_in
same_ids t s h e = rw (h.id, h.address, h.seed, h.capacity, h.buddies, h.forward, h.peers, and_right (has_only_keys settings_keys t) (are_apart s.id s.peers) e)

pub settings_are : (t : Members) (s : Settings) → HasFields t s → has_only_keys settings_keys t ≡ true → are_apart s.id s.peers ≡ true → settings_in t ≡ Some s
unfolding settings_in
settings_are t s h k e = rw (h.id, h.address, h.seed, h.capacity, h.buddies, h.forward, h.peers, k, e)
