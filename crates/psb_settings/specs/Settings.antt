-- What a settings text says.
use Rattle.std.specs.Prelude.{◌≡◌, ℕ, ◌^◌, ◌<◌, ◌≤◌, nat_le, ◌==◌, pos, Bool, true, false, ◌&&◌, not, if◌then◌else◌, List, [], ◌∷◌, length, codes, Option, Some, None, option_and_then}
use Rattle.std.specs.List.{All, list_all, list_any}
use Rattle.std.specs.Str.{is_utf8, bytes_eq}
use Rattle.psb_bytes.specs.Hex.{digest_of_text}
use Rattle.psb_bytes.specs.Numbers.{AreBytes}
use Rattle.toml.specs.Data.{Data, integer, Items, no_items, item, Members, no_members, member, get_member, as_str, as_bool, as_array, as_table}
use Rattle.toml.specs.Parse.{parse_document}
use Rattle.psb_settings.specs.declared.settings.PeerRow.{PeerRow}
use Rattle.psb_settings.specs.declared.settings.Settings.{Settings}

-- what f makes of the value, where there is one: the lines of a `do` are joined by it
infixl 10 ◌>>=◌
abbrev pub ◌>>=◌ : {A B : Type 0} → Option A → (A → Option B) → Option B
o >>= f = option_and_then f o

-- ---- values

-- a whole number from low to high
abbrev pub number_within : ℕ → ℕ → Data → Option ℕ
number_within low high (integer (pos n)) = if nat_le low n && nat_le n high then Some n else None
number_within low high _ = None

-- 1 to 253 bytes, each a visible character of ASCII
abbrev pub is_address_byte : ℕ → Bool
is_address_byte b = nat_le 0x21 b && nat_le b 0x7e

abbrev pub is_address : List ℕ → Bool
is_address text = (nat_le 1 (length text) && nat_le (length text) 253) && list_all is_address_byte text

abbrev pub address_of : Data → Option (List ℕ)
address_of d = as_str d >>= (λ text. if is_address text then Some text else None)

-- 64 hexadecimal digits, in either case, are 32 bytes
abbrev pub digest_of : Data → Option (List ℕ)
digest_of d = as_str d >>= digest_of_text

-- ---- tables

-- each key of the table is one of these
abbrev pub has_only_keys : List (List ℕ) → Members → Bool
has_only_keys keys no_members = true
has_only_keys keys (member key d rest) = list_any (bytes_eq key) keys && has_only_keys keys rest

-- the value of a key that has to be there
abbrev pub required : {A : Type 0} → List ℕ → (Data → Option A) → Members → Option A
required key read table = get_member key table >>= read

-- the value, or a default where there is none
abbrev pub or_default : {A : Type 0} → A → (Data → Option A) → Option Data → Option A
or_default default read None = Some default
or_default default read (Some d) = read d

-- the value of a key that may be left out
abbrev pub optional : {A : Type 0} → List ℕ → (Data → Option A) → A → Members → Option A
optional key read default table = or_default default read (get_member key table)

-- the id and the address of a node, which its own table and that of a peer have alike
abbrev pub id_in : Members → Option ℕ
id_in table = required (codes "id") (number_within 1 4294967295) table

abbrev pub address_in : Members → Option (List ℕ)
address_in table = required (codes "address") address_of table

-- ---- a peer

abbrev pub peer_keys : List (List ℕ)
peer_keys = codes "id" ∷ codes "address" ∷ codes "key" ∷ codes "hops" ∷ []

unfoldable pub peer_in : Members → Option PeerRow
peer_in table = do
  id ← id_in table
  address ← address_in table
  key ← required (codes "key") digest_of table
  hops ← optional (codes "hops") (number_within 0 255) 0 table
  if has_only_keys peer_keys table then Some (record { id = id; address = address; key = key; hops = hops }) else None

abbrev pub peer_of : Data → Option PeerRow
peer_of d = as_table d >>= peer_in

-- the peers of an array, in its order
unfoldable pub peers_in : Items → Option (List PeerRow)
peers_in no_items = Some []
peers_in (item d rest) = do
  peer ← peer_of d
  peers ← peers_in rest
  Some (peer ∷ peers)

-- the most peers that a node has
abbrev pub most_peers : ℕ
most_peers = 64

-- one peer at least, and no more than that
abbrev pub peers_of : Data → Option (List PeerRow)
peers_of d = do
  array ← as_array d
  peers ← peers_in array
  if nat_le 1 (length peers) && nat_le (length peers) most_peers then Some peers else None

-- ---- the whole text

abbrev pub settings_keys : List (List ℕ)
settings_keys = codes "id" ∷ codes "address" ∷ codes "seed" ∷ codes "capacity" ∷ codes "buddies" ∷ codes "forward" ∷ codes "peer" ∷ []

-- one of the peers has this id
abbrev pub has_id : ℕ → List PeerRow → Bool
has_id id peers = list_any (λ p. p.id == id) peers

-- no two of the peers have the same id
abbrev pub have_distinct_ids : List PeerRow → Bool
have_distinct_ids [] = true
have_distinct_ids (p ∷ peers) = not (has_id p.id peers) && have_distinct_ids peers

-- the node's own id and those of its peers are all different
abbrev pub are_apart : ℕ → List PeerRow → Bool
are_apart id peers = not (has_id id peers) && have_distinct_ids peers

unfoldable pub settings_in : Members → Option Settings
settings_in table = do
  id ← id_in table
  address ← address_in table
  seed ← required (codes "seed") digest_of table
  capacity ← required (codes "capacity") (number_within 0 2147483648) table
  buddies ← optional (codes "buddies") (number_within 1 most_peers) 2 table
  forward ← optional (codes "forward") as_bool true table
  peers ← required (codes "peer") peers_of table
  if has_only_keys settings_keys table && are_apart id peers
      then Some (record { id = id; address = address; seed = seed; capacity = capacity; buddies = buddies; forward = forward; peers = peers })
      else None

-- what a text says: at most 65,536 bytes of TOML in UTF-8
unfoldable pub settings_of : List ℕ → Option Settings
settings_of text = if is_utf8 text && nat_le (length text) 65536 then parse_document text >>= settings_in else None

-- ---- what all settings that were read have

-- 1 to 253 bytes, each a visible character of ASCII
pub record IsAddress (text : List ℕ) : Type 0 where
  pub some : 1 ≤ length text
  pub short : length text ≤ 253
  pub visible : All (λ b. (0x21 ≤ b) × (b ≤ 0x7e)) text

-- 32 bytes
pub record IsDigest (bytes : List ℕ) : Type 0 where
  pub sized : length bytes ≡ 32
  pub small : AreBytes bytes

pub record IsPeerRow (peer : PeerRow) : Type 0 where
  pub from_one : 1 ≤ peer.id
  pub fits : peer.id < 2 ^ 32
  pub address : IsAddress peer.address
  pub key : IsDigest peer.key
  pub hops : peer.hops ≤ 255

pub record IsSettings (s : Settings) : Type 0 where
  pub from_one : 1 ≤ s.id
  pub fits : s.id < 2 ^ 32
  pub address : IsAddress s.address
  pub seed : IsDigest s.seed
  pub capacity : s.capacity ≤ 2147483648
  pub some_buddies : 1 ≤ s.buddies
  pub few_buddies : s.buddies ≤ most_peers
  pub some_peers : 1 ≤ length s.peers
  pub few_peers : length s.peers ≤ most_peers
  pub peers : All IsPeerRow s.peers
  pub not_own : has_id s.id s.peers ≡ false
  pub distinct : have_distinct_ids s.peers ≡ true
