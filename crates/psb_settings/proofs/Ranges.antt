-- What all settings that were read have.
use Rattle.std.proofs.Common.{◌≡◌, ℕ, ◌≤◌, nat_le, pos, negsuc, Bool, true, false, not, ◌&&◌, List, [], ◌∷◌, length, codes, Option, Some, None, Result, Ok, Err, if◌then◌else◌, refl, sym, ◌∙◌, ap, subst, arith}
use Rattle.std.proofs.lemmas.Bool.{and_parts, leb-true, not-true}
use Rattle.std.proofs.lemmas.List.Elements.{All-cons, All-nil}
use Rattle.std.proofs.lemmas.Option.{none-some, same_Some, cond_some}
use Rattle.std.specs.List.{All, list_all}
use Rattle.toml.specs.Data.{Data, string, integer, float, boolean, datetime, array, table, Items, no_items, item, Members, as_str, as_array, as_table, get_member}
use Rattle.toml.specs.Parse.{parse_document}
use Rattle.std.specs.Result.{result_ok}
use Rattle.hex.specs.Hex.{decode_sized}
use Rattle.hex.specs.declared.error.FromHexError.{FromHexError}
use Rattle.hex.proofs.HexLemmas.{decode_of-ok, decode_sized-ok, decode_sized-twice}
use Rattle.psb_bytes.specs.Hex.{digest_of_text}
use Rattle.std.specs.Str.{is_utf8}
use Rattle.psb_settings.specs.declared.settings.PeerRow.{PeerRow}
use Rattle.psb_settings.specs.declared.settings.Settings.{Settings}
use Rattle.psb_settings.specs.Settings.{◌>>=◌, number_within, is_address_byte, is_address, address_of, digest_of, required, optional, or_default, id_in, address_in, has_only_keys, peer_keys, peer_in, peer_of, peers_in, peers_of, most_peers, settings_keys, are_apart, has_id, have_distinct_ids, settings_in, settings_of, IsAddress, IsDigest, IsPeerRow, IsSettings}
use Rattle.psb_settings.proofs.Peers.{key_in, hops_in}
use Rattle.psb_settings.proofs.Tables.{seed_in, capacity_in, buddies_in, forward_in, peers_at}

-- what follows a value that was read
pub after : {A B : Type 0} (P : B → Type 0) (o : Option A) (f : A → Option B) (y : B) → (o >>= f) ≡ Some y → ((x : A) → o ≡ Some x → f x ≡ Some y → P y) → P y
after P None f y e h = absurd (none-some y e)
after P (Some x) f y e h = h x refl e

-- what an `if` with nothing in its other branch gave
chosen : {A : Type 0} (b : Bool) (o : Option A) (y : A) → (if b then o else None) ≡ Some y → (b ≡ true) × (o ≡ Some y)
chosen true o y e = (refl, e)
chosen false o y e = absurd (none-some y e)

read_or_default : {A : Type 0} (P : A → Type 0) (default : A) (read : Data → Option A) (o : Option Data) (y : A) → P default → ((d : Data) → read d ≡ Some y → P y) → or_default default read o ≡ Some y → P y
read_or_default P default read None y p h e = subst P (cond_some true default y e).1 p
read_or_default P default read (Some d) y p h e = h d e

-- ---- numbers

within : (low high n m : ℕ) → (if nat_le low n && nat_le n high then Some n else None) ≡ Some m → (low ≤ m) × (m ≤ high)
within low high n m e =
    let (test, same) = cond_some (nat_le low n && nat_le n high) n m e in
    let (above, below) = and_parts (nat_le low n) (nat_le n high) test in
    subst (λ (k : ℕ). (low ≤ k) × (k ≤ high)) same (leb-true low n above, leb-true n high below)

pub number_within-bounds : (low high : ℕ) (d : Data) (m : ℕ) → number_within low high d ≡ Some m → (low ≤ m) × (m ≤ high)
number_within-bounds low high (integer (pos n)) m e = within low high n m e
number_within-bounds low high (integer (negsuc n)) m e = absurd (none-some m e)
number_within-bounds low high (string s) m e = absurd (none-some m e)
number_within-bounds low high (float x) m e = absurd (none-some m e)
number_within-bounds low high (boolean b) m e = absurd (none-some m e)
number_within-bounds low high (datetime dt) m e = absurd (none-some m e)
number_within-bounds low high (array ds) m e = absurd (none-some m e)
number_within-bounds low high (table ms) m e = absurd (none-some m e)

pub required-bounds : (key : List ℕ) (low high : ℕ) (t : Members) (m : ℕ) → required key (number_within low high) t ≡ Some m → (low ≤ m) × (m ≤ high)
required-bounds key low high t m e = after (λ (k : ℕ). (low ≤ k) × (k ≤ high)) (get_member key t) (number_within low high) m e (λ d _. number_within-bounds low high d m)

pub optional-bounds : (key : List ℕ) (low high default : ℕ) (t : Members) (m : ℕ) → low ≤ default → default ≤ high → optional key (number_within low high) default t ≡ Some m → (low ≤ m) × (m ≤ high)
optional-bounds key low high default t m h i e =
    read_or_default (λ (k : ℕ). (low ≤ k) × (k ≤ high)) default (number_within low high) (get_member key t) m (h, i) (λ d. number_within-bounds low high d m) e

-- ---- addresses

visible : (text : List ℕ) → list_all is_address_byte text ≡ true → All (λ b. (0x21 ≤ b) × (b ≤ 0x7e)) text
visible [] h = All-nil (λ b. (0x21 ≤ b) × (b ≤ 0x7e))
visible (b ∷ text) h =
    let (here, more) = and_parts (is_address_byte b) (list_all is_address_byte text) h in
    let (above, below) = and_parts (nat_le 0x21 b) (nat_le b 0x7e) here in
    All-cons (λ b. (0x21 ≤ b) × (b ≤ 0x7e)) b text (leb-true 0x21 b above, leb-true b 0x7e below) (visible text more)

address_from_test : (text : List ℕ) → is_address text ≡ true → IsAddress text
address_from_test text h =
    let (sized, bytes) = and_parts (nat_le 1 (length text) && nat_le (length text) 253) (list_all is_address_byte text) h in
    let (some, short) = and_parts (nat_le 1 (length text)) (nat_le (length text) 253) sized in
    record { some = leb-true 1 (length text) some; short = leb-true (length text) 253 short; visible = visible text bytes }

pub address_in-is : (t : Members) (a : List ℕ) → address_in t ≡ Some a → IsAddress a
address_in-is t a e =
    after IsAddress (get_member (codes "address") t) address_of a e
    (λ d _ e1. after IsAddress (as_str d) _ a e1
    (λ text _ e2. let (test, same) = cond_some (is_address text) text a e2 in subst IsAddress same (address_from_test text test)))

-- ---- digests

ok_value : (r : Result (List ℕ) FromHexError) (bytes : List ℕ) → result_ok r ≡ Some bytes → r ≡ Ok bytes
ok_value (Ok read) bytes e = ap Ok (same_Some read bytes e)
ok_value (Err error) bytes e = absurd (none-some bytes e)

digest_of_text-is : (text bytes : List ℕ) → digest_of_text text ≡ Some bytes → IsDigest bytes
digest_of_text-is text bytes e =
    let read = ok_value (decode_sized text 32) bytes e in
    let long = decode_sized-ok text 32 bytes read in
    let spelled = decode_of-ok text bytes (sym (decode_sized-twice text 32 long) ∙ read) in
    record { sized = omega (arith, long, spelled.2); small = spelled.3 }

digest_in-is : (key : List ℕ) (t : Members) (bytes : List ℕ) → required key digest_of t ≡ Some bytes → IsDigest bytes
digest_in-is key t bytes e =
    after IsDigest (get_member key t) digest_of bytes e (λ d _ e1. after IsDigest (as_str d) digest_of_text bytes e1 (λ text _. digest_of_text-is text bytes))

-- ---- peers

peer_in-is : (t : Members) (p : PeerRow) → peer_in t ≡ Some p → IsPeerRow p
unfolding peer_in
peer_in-is t p e =
    after IsPeerRow (id_in t) _ p e
    (λ id read_id e1. after IsPeerRow (address_in t) _ p e1
    (λ address read_address e2. after IsPeerRow (key_in t) _ p e2
    (λ key read_key e3. after IsPeerRow (hops_in t) _ p e3
    (λ hops read_hops e4.
    let (keys, same) = cond_some (has_only_keys peer_keys t) _ p e4 in
    let range = required-bounds (codes "id") 1 4294967295 t id read_id in
    let reach = optional-bounds (codes "hops") 0 255 0 t hops (omega arith) (omega arith) read_hops in
    subst IsPeerRow same (record {
      from_one = range.0;
      fits = omega (arith, range.1);
      address = address_in-is t address read_address;
      key = digest_in-is (codes "key") t key read_key;
      hops = reach.1;
    })))))

peer_of-is : (d : Data) (p : PeerRow) → peer_of d ≡ Some p → IsPeerRow p
peer_of-is d p e = after IsPeerRow (as_table d) peer_in p e (λ t _. peer_in-is t p)

peers_in-are : (ds : Items) (ps : List PeerRow) → peers_in ds ≡ Some ps → All IsPeerRow ps
unfolding peers_in
peers_in-are no_items ps e = subst (All IsPeerRow) (same_Some _ _ e) (All-nil IsPeerRow)
peers_in-are (item d ds) ps e =
    after (All IsPeerRow) (peer_of d) _ ps e
    (λ p here e1. after (All IsPeerRow) (peers_in ds) _ ps e1
    (λ more there e2. subst (All IsPeerRow) (same_Some _ _ e2) (All-cons IsPeerRow p more (peer_of-is d p here) (peers_in-are ds more there))))

-- the peers of a table
record ArePeers (ps : List PeerRow) : Type 0 where
  some : 1 ≤ length ps
  few : length ps ≤ most_peers
  each : All IsPeerRow ps

peers_of-are : (d : Data) (ps : List PeerRow) → peers_of d ≡ Some ps → ArePeers ps
peers_of-are d ps e =
    after ArePeers (as_array d) _ ps e
    (λ ds is_array e1. after ArePeers (peers_in ds) _ ps e1
    (λ read are e2.
    let (sized, same) = cond_some (nat_le 1 (length read) && nat_le (length read) most_peers) read ps e2 in
    let (some, few) = and_parts (nat_le 1 (length read)) (nat_le (length read) most_peers) sized in
    subst ArePeers same (record { some = leb-true 1 (length read) some; few = leb-true (length read) most_peers few; each = peers_in-are ds read are })))

peers_at-are : (t : Members) (ps : List PeerRow) → peers_at t ≡ Some ps → ArePeers ps
peers_at-are t ps e = after ArePeers (get_member (codes "peer") t) peers_of ps e (λ d _. peers_of-are d ps)

-- ---- settings

pub settings_in-are : (t : Members) (s : Settings) → settings_in t ≡ Some s → IsSettings s
unfolding settings_in
settings_in-are t s e =
    after IsSettings (id_in t) _ s e
    (λ id read_id e1. after IsSettings (address_in t) _ s e1
    (λ address read_address e2. after IsSettings (seed_in t) _ s e2
    (λ seed read_seed e3. after IsSettings (capacity_in t) _ s e3
    (λ capacity read_capacity e4. after IsSettings (buddies_in t) _ s e4
    (λ buddies read_buddies e5. after IsSettings (forward_in t) _ s e5
    (λ forward read_forward e6. after IsSettings (peers_at t) _ s e6
    (λ peers read_peers e7.
    let (test, same) = cond_some (has_only_keys settings_keys t && are_apart id peers) _ s e7 in
    let (keys, apart) = and_parts (has_only_keys settings_keys t) (are_apart id peers) test in
    let (others, distinct) = and_parts (not (has_id id peers)) (have_distinct_ids peers) apart in
    let range = required-bounds (codes "id") 1 4294967295 t id read_id in
    let room = required-bounds (codes "capacity") 0 2147483648 t capacity read_capacity in
    let pals = optional-bounds (codes "buddies") 1 most_peers 2 t buddies (omega arith) (omega arith) read_buddies in
    let known = peers_at-are t peers read_peers in
    subst IsSettings same (record {
      from_one = range.0;
      fits = omega (arith, range.1);
      address = address_in-is t address read_address;
      seed = digest_in-is (codes "seed") t seed read_seed;
      capacity = room.1;
      some_buddies = pals.0;
      few_buddies = pals.1;
      some_peers = known.some;
      few_peers = known.few;
      peers = known.each;
      not_own = not-true (has_id id peers) others;
      distinct = distinct;
    }))))))))

-- what every settings text says has these ranges
pub settings_of-are : (text : List ℕ) (s : Settings) → settings_of text ≡ Some s → IsSettings s
unfolding settings_of
settings_of-are text s e =
    let (sized, read) = chosen (is_utf8 text && nat_le (length text) 65536) (parse_document text >>= settings_in) s e in
    after IsSettings (parse_document text) settings_in s read (λ t _. settings_in-are t s)
