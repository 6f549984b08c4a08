-- What is known of a deal whose frame was read.
use Rattle.std.proofs.Common.{◌≡◌, ℕ, true, ◌&&◌, ◌==◌, nat_le, nat_lt, List, [], ◌∷◌, length, Some, refl, sym, ap, ◌∙◌, subst, ◌≤◌, ◌^◌, arith}
use Rattle.std.specs.List.{list_all}
use Rattle.std.proofs.lemmas.Bool.{and_parts, leb-true, lt-ltb, eqb-true}
use Rattle.std.proofs.lemmas.List.{length-map}
use Rattle.psb_bytes.specs.declared.lists.SlotClaim.{SlotClaim}
use Rattle.psb_bytes.specs.declared.ids.Object.{Object}
use Rattle.psb_model.specs.Grammar.{ascend, is_u8, is_u32, is_u64}
use Rattle.wire_codec.specs.Fields.{within, ascends, is_digest, is_claim, are_slots, are_claims, are_names, is_object, are_objects, are_places, is_text, are_bytes}
use Rattle.wire_codec.specs.Frames.{fits}
use Rattle.wire_codec.specs.declared.frame.Frame.{Frame}
use Rattle.wire_codec.specs.declared.frame.Frame.TheVariants as frame
use Rattle.wire_codec.specs.declared.limits.TheConstants.{MOST_SLOTS, MOST_OBJECTS, CLAIM_BYTES}
use Rattle.psb_bytes.specs.declared.limits.TheConstants.{LAST_REASON}
use Rattle.psb_machine.specs.Deals.{Deal, StoreFresh, StoreSwap, Cancel, PutBack, Replace, deal_of, slots_of}
use Rattle.psb_machine.specs.Settling.{Reply, Accepts, Refuses, replied_by}
use Rattle.psb_machine.specs.Messages.{Message, Deals, Replies, Asks, Probes, Proves, Declines, message_of}
use Rattle.psb_machine.specs.Judging.{SlotsFit, SwapFits, CancelFits, PutBackFits, ReplaceFits, DealFits, ReplyFits, MessageFits}

-- a frame that was read
pub record FrameFits (p number : ℕ) (frame : Frame) : Type 0 where
  pub peer : is_u32 p ≡ true
  pub number_fits : is_u64 number ≡ true
  pub frame_is : fits frame ≡ true

-- slots ascend in a frame as they do in a record
pub ascend_same : (l : List ℕ) → ascends l ≡ ascend l
ascend_same [] = refl
ascend_same (x ∷ []) = refl
ascend_same (x ∷ y ∷ ys) = ap (λ b. nat_lt x y && b) (ascend_same (y ∷ ys))

few_of : (least n : ℕ) → within least MOST_SLOTS n ≡ true → n ≤ MOST_SLOTS
few_of least n h = leb-true n MOST_SLOTS (and_parts (nat_le least n) (nat_le n MOST_SLOTS) h).1

slots_fit : (least : ℕ) (slots : List ℕ) → are_slots least slots ≡ true → SlotsFit slots
slots_fit least slots h =
    let a = and_parts (within least MOST_SLOTS (length slots)) (list_all is_u32 slots && ascends slots) h in
    let b = and_parts (list_all is_u32 slots) (ascends slots) a.1 in
    record { few = few_of least (length slots) a.0; widths = b.0; ascend = sym (ascend_same slots) ∙ b.1 }

claim_slots : (claims : List SlotClaim) → list_all is_claim claims ≡ true → list_all is_u32 (slots_of claims) ≡ true
claim_slots [] h = refl
claim_slots (c ∷ cs) h =
    let two = and_parts (is_claim c) (list_all is_claim cs) h in
    let slot = (and_parts (is_u32 c.slot) ((length c.bytes == CLAIM_BYTES) && are_bytes c.bytes) two.0).0 in
    rw (slot, claim_slots cs two.1) refl

claims_fit : (least : ℕ) (claims : List SlotClaim) → are_claims least claims ≡ true → SlotsFit (slots_of claims) × (list_all is_claim claims ≡ true)
claims_fit least claims h =
    let a = and_parts (within least MOST_SLOTS (length claims)) (list_all is_claim claims && ascends (slots_of claims)) h in
    let b = and_parts (list_all is_claim claims) (ascends (slots_of claims)) a.1 in
    let few = few_of least (length claims) a.0 in (
      record {
        few = subst (λ (n : ℕ). n ≤ MOST_SLOTS) (sym (length-map claims (λ (c : SlotClaim). c.slot))) few;
        widths = claim_slots claims b.0;
        ascend = sym (ascend_same (slots_of claims)) ∙ b.1;
      },
      b.0,
    )

store_fits : (p number : ℕ) (name slots bytes : List ℕ) → FrameFits p number (frame.Store name slots bytes) → SwapFits p number name slots bytes
store_fits p number name slots bytes f =
    let a = and_parts (is_digest name) (are_slots 0 slots && is_text 1 bytes) f.frame_is in
    let b = and_parts (are_slots 0 slots) (is_text 1 bytes) a.1 in
    let c = and_parts (within 1 32768 (length bytes)) (are_bytes bytes) b.1 in
    let d = and_parts (nat_le 1 (length bytes)) (nat_le (length bytes) 32768) c.0 in
    record {
      store = record {
        peer = f.peer;
        number_fits = f.number_fits;
        name_fits = a.0;
        long = leb-true 1 (length bytes) d.0;
        short = leb-true (length bytes) 32768 d.1;
        bytes_fit = c.1;
      };
      slots = slots_fit 0 slots b.0;
    }

cancel_fits : (p number : ℕ) (name slots : List ℕ) → FrameFits p number (frame.Cancel name slots) → CancelFits p number name slots
cancel_fits p number name slots f =
    let a = and_parts (is_digest name) (are_slots 1 slots) f.frame_is in
    record { peer = f.peer; number_fits = f.number_fits; name_fits = a.0; slots = slots_fit 1 slots a.1 }

put_back_fits : (p number : ℕ) (name : List ℕ) (claims : List SlotClaim) → FrameFits p number (frame.PutBack name claims) → PutBackFits p number name claims
put_back_fits p number name claims f =
    let a = and_parts (is_digest name) (are_claims 1 claims) f.frame_is in
    let b = claims_fit 1 claims a.1 in
    record { peer = f.peer; number_fits = f.number_fits; name_fits = a.0; slots = b.0; claims_fit = b.1 }

replace_fits : (p number slot : ℕ) (bytes : List ℕ) → FrameFits p number (frame.Replace slot bytes) → ReplaceFits p number slot bytes
replace_fits p number slot bytes f =
    let a = and_parts (is_u32 slot) ((length bytes == CLAIM_BYTES) && are_bytes bytes) f.frame_is in
    let b = and_parts (length bytes == CLAIM_BYTES) (are_bytes bytes) a.1 in
    record { peer = f.peer; number_fits = f.number_fits; slot_fits = a.0; long = eqb-true (length bytes) CLAIM_BYTES b.0; bytes_fit = b.1 }

-- the parts of a deal that a frame asks for are within their bounds
pub deal_fits : (p number : ℕ) (f : Frame) (deal : Deal) → FrameFits p number f → deal_of f ≡ Some deal → DealFits p number deal
deal_fits p number (frame.Store name [] bytes) deal f is =
    let same : StoreFresh name bytes ≡ deal = cc in subst (DealFits p number) same (store_fits p number name [] bytes f).store
deal_fits p number (frame.Store name (slot ∷ slots) bytes) deal f is =
    let same : StoreSwap name (slot ∷ slots) bytes ≡ deal = cc in subst (DealFits p number) same (store_fits p number name (slot ∷ slots) bytes f)
deal_fits p number (frame.Cancel name slots) deal f is =
    let same : Cancel name slots ≡ deal = cc in subst (DealFits p number) same (cancel_fits p number name slots f)
deal_fits p number (frame.PutBack name claims) deal f is =
    let same : PutBack name claims ≡ deal = cc in subst (DealFits p number) same (put_back_fits p number name claims f)
deal_fits p number (frame.Replace slot bytes) deal f is =
    let same : Replace slot bytes ≡ deal = cc in subst (DealFits p number) same (replace_fits p number slot bytes f)
deal_fits p number _ deal f is = absurd (cc)

-- ---- what is known of a reply whose frame was read

refused_fits : (p number why detail : ℕ) → FrameFits p number (frame.Refused why detail) → (is_u8 why ≡ true) × (is_u64 detail ≡ true)
refused_fits p number why detail f =
    let a = and_parts (within 1 LAST_REASON why) (nat_lt detail (2 ^ 64)) f.frame_is in
    let b = and_parts (nat_le 1 why) (nat_le why LAST_REASON) a.0 in
    (lt-ltb why 256 (omega (arith, leb-true why LAST_REASON b.1)), a.1)

pub reply_fits : (p number : ℕ) (f : Frame) (reply : Reply) → FrameFits p number f → replied_by f ≡ Some reply → ReplyFits reply
reply_fits p number (frame.Accepted claims) reply f is =
    let same : Accepts claims ≡ reply = cc in subst ReplyFits same (claims_fit 0 claims f.frame_is)
reply_fits p number (frame.Refused why detail) reply f is =
    let same : Refuses why detail ≡ reply = cc in subst ReplyFits same (refused_fits p number why detail f)
reply_fits p number _ reply f is = absurd (cc)

-- ---- by the message that it is

pub message_deal : (f : Frame) (deal : Deal) → message_of f ≡ Some (Deals deal) → deal_of f ≡ Some deal
message_deal (frame.Store name numbers bytes) deal is = cc (is)
message_deal (frame.Cancel name numbers) deal is = cc (is)
message_deal (frame.PutBack name claims) deal is = cc (is)
message_deal (frame.Replace slot bytes) deal is = cc (is)
message_deal _ deal is = absurd (cc (is))

pub message_reply : (f : Frame) (reply : Reply) → message_of f ≡ Some (Replies reply) → replied_by f ≡ Some reply
message_reply (frame.Accepted claims) reply is = cc (is)
message_reply (frame.Refused why detail) reply is = cc (is)
message_reply _ reply is = absurd (cc (is))

pub deal_message : (p number : ℕ) (f : Frame) (deal : Deal) → FrameFits p number f → message_of f ≡ Some (Deals deal) → DealFits p number deal
deal_message p number f deal fit is = deal_fits p number f deal fit (message_deal f deal is)

pub reply_message : (p number : ℕ) (f : Frame) (reply : Reply) → FrameFits p number f → message_of f ≡ Some (Replies reply) → ReplyFits reply
reply_message p number f reply fit is = reply_fits p number f reply fit (message_reply f reply is)

few_names : (names : List (List ℕ)) → are_names names ≡ true → length names ≤ 32
few_names names h =
    let a = and_parts (within 1 32 (length names)) (list_all is_digest names) h in
    leb-true (length names) 32 (and_parts (nat_le 1 (length names)) (nat_le (length names) 32) a.0).1

ask_names : (f : Frame) (salt : List ℕ) (names : List (List ℕ)) → fits f ≡ true → message_of f ≡ Some (Asks salt names) → are_names names ≡ true
ask_names (frame.Ask s ns) salt names fit is =
    let same : Asks s ns ≡ Asks salt names = cc (is) in
    let names_are : ns ≡ names = ap (λ (m : Message). elim m [ Asks a b ↦ b | _ ↦ ns ]) same in
    subst (λ l. are_names l ≡ true) names_are (and_parts (is_digest s) (are_names ns) fit).1
ask_names _ salt names fit is = absurd (cc (is))

few_objects : (objects : List Object) → are_objects objects ≡ true → length objects ≤ MOST_OBJECTS
few_objects objects h =
    let a = and_parts (within 1 MOST_OBJECTS (length objects)) (list_all is_object objects) h in
    leb-true (length objects) MOST_OBJECTS (and_parts (nat_le 1 (length objects)) (nat_le (length objects) MOST_OBJECTS) a.0).1

-- what a probe has: its nonce is one, and its objects are so many
pub probe_parts : (f : Frame) (nonce : List ℕ) (objects : List Object) → fits f ≡ true → message_of f ≡ Some (Probes nonce objects) → (is_digest nonce ≡ true) × (length objects ≤ MOST_OBJECTS)
probe_parts (frame.Probe m os) nonce objects fit is =
    let same : Probes m os ≡ Probes nonce objects = cc (is) in
    let nonce_is : m ≡ nonce = ap (λ (y : Message). elim y [ Probes a b ↦ a | _ ↦ m ]) same in
    let objects_are : os ≡ objects = ap (λ (y : Message). elim y [ Probes a b ↦ b | _ ↦ os ]) same in
    let two = and_parts (is_digest m) (are_objects os) fit in
    (subst (λ l. is_digest l ≡ true) nonce_is two.0, subst (λ (l : List Object). length l ≤ MOST_OBJECTS) objects_are (few_objects os two.1))
probe_parts _ nonce objects fit is = absurd (cc (is))

-- what the answers to a probe of the node's own have: a value that is one, places that are some
pub proof_value : (f : Frame) (nonce value : List ℕ) → fits f ≡ true → message_of f ≡ Some (Proves nonce value) → is_digest value ≡ true
proof_value (frame.Proof m v) nonce value fit is =
    let same : Proves m v ≡ Proves nonce value = cc (is) in
    let value_is : v ≡ value = ap (λ (y : Message). elim y [ Proves a b ↦ b | _ ↦ v ]) same in
    subst (λ l. is_digest l ≡ true) value_is (and_parts (is_digest m) (is_digest v) fit).1
proof_value _ nonce value fit is = absurd (cc (is))

pub declined_places : (f : Frame) (nonce places : List ℕ) → fits f ≡ true → message_of f ≡ Some (Declines nonce places) → are_places places ≡ true
declined_places (frame.Declined m ks) nonce places fit is =
    let same : Declines m ks ≡ Declines nonce places = cc (is) in
    let places_are : ks ≡ places = ap (λ (y : Message). elim y [ Declines a b ↦ b | _ ↦ ks ]) same in
    subst (λ l. are_places l ≡ true) places_are (and_parts (is_digest m) (are_places ks) fit).1
declined_places _ nonce places fit is = absurd (cc (is))

pub message_fits : (p number : ℕ) (f : Frame) (m : Message) → FrameFits p number f → message_of f ≡ Some m → MessageFits (record { peer = p; number = number }) m
message_fits p number f (Deals deal) fit is = deal_message p number f deal fit is
message_fits p number f (Replies reply) fit is = (fit.peer, fit.number_fits, reply_message p number f reply fit is)
message_fits p number f (Asks salt names) fit is = few_names names (ask_names f salt names (fit.frame_is) is)
message_fits p number f (Probes nonce objects) fit is = (probe_parts f nonce objects fit.frame_is is).1
message_fits p number f (Proves nonce value) fit is = (fit.peer, proof_value f nonce value fit.frame_is is)
message_fits p number f (Declines nonce places) fit is = (fit.peer, declined_places f nonce places fit.frame_is is)
message_fits p number f _ fit is = tt
