-- Bodies, kind by kind: what is read is spelled so and fits, and what fits and is spelled so is read.
use Rattle.std.proofs.Common.{◌≡◌, ℕ, ◌^◌, Bool, true, false, ◌&&◌, cond, eqb, List, [], ◌∷◌, ◌++◌, Option, Some, None, refl, ap, sym, ◌∙◌, subst, append_assoc}
use Rattle.std.specs.Prelude.{nat_lt}
use Rattle.std.proofs.lemmas.Bool.{and_parts, eqb-true}
use Rattle.std.proofs.lemmas.List.{append-nil}
use Rattle.psb_bytes.specs.Numbers.{AreBytes, u32_bytes, u64_bytes}
use Rattle.psb_bytes.specs.declared.limits.TheConstants.{LAST_REASON}
use Rattle.psb_bytes.specs.declared.ids.Object.{Object}
use Rattle.psb_bytes.specs.declared.lists.SlotClaim.{SlotClaim}
use Rattle.wire_codec.specs.declared.frame.Frame.{Frame}
use Rattle.wire_codec.specs.declared.frame.Frame.TheVariants.{Store, Cancel, PutBack, Replace, Accepted, Refused, Declined, Get, Here, Probe, Proof, Ask, Sample}
use Rattle.wire_codec.specs.declared.limits.TheConstants.{DIGEST_BYTES, CLAIM_BYTES}
use Rattle.wire_codec.specs.Fields.{◌>>=◌, ended, within, text_bytes, slots_bytes, claims_bytes, places_bytes, objects_bytes, names_bytes, is_digest, is_u32, are_slots, are_claims, are_places, are_objects, are_names, is_text, bytes_at, u8_at, u32_at, u64_at, slots_at, claims_at, places_at, names_at, objects_at, text_at}
use Rattle.wire_codec.specs.Frames.{kind_of, body_of, fits, store_at, cancel_at, put_back_at, release_at, replace_at, accepted_at, refused_at, declined_at, get_at, here_at, probe_at, proof_at, ask_at, sample_at, read_body}
use Rattle.byte_fields.proofs.Found.{bind_some, then_some, some_is}
use Rattle.byte_fields.proofs.FieldLaws.{IsField, as_they_are, many_bytes, bytes_field, u8_field, u32_field, u64_field, and_both}
use Rattle.wire_codec.proofs.ListLaws.{slots_field, claims_field, places_field, names_field, objects_field, text_field}

-- the frame fits, is of this kind and is spelled so
abbrev pub IsSpelled : ℕ → List ℕ → Frame → Type 0
IsSpelled kind body f = (body ≡ body_of f) × (fits f ≡ true) × (kind_of f ≡ kind)

ended_is : (value : Frame) (rest : List ℕ) (f : Frame) → ended value rest ≡ Some f → (rest ≡ []) × (value ≡ f)
ended_is value [] f e = (refl, some_is value f e)
ended_is value (b ∷ rest) f e = absurd cc

-- ---- one field, two fields

abbrev one_from : {B : Type 0} → (List ℕ → Option (B × List ℕ)) → (B → Frame) → List ℕ → Option Frame
one_from read make rest = read rest >>= λ b. ended (make b.0) b.1

last_takes : {B : Type 0} (spell : B → List ℕ) (fit : B → Bool) (read : List ℕ → Option (B × List ℕ)) → IsField spell fit read → (make : B → Frame) (front : List ℕ) (kind : ℕ) → ((b : B) → fit b ≡ true → IsSpelled kind (front ++ spell b) (make b))
    → (rest : List ℕ) (f : Frame) → AreBytes rest → one_from read make rest ≡ Some f → IsSpelled kind (front ++ rest) f
last_takes spell fit read h make front kind law rest f ok e =
    let b = bind_some (read rest) (λ b. ended (make b.0) b.1) f e in
    let t = h.takes rest b.0.0 b.0.1 ok b.1 in
    let d = ended_is (make b.0.0) b.0.1 f b.2 in
    let whole : rest ≡ spell b.0.0 = t.0 ∙ ap (λ (l : List ℕ). spell b.0.0 ++ l) d.0 ∙ append-nil (spell b.0.0) in
    subst (λ (g : Frame). IsSpelled kind (front ++ rest) g) d.1 (subst (λ (l : List ℕ). IsSpelled kind (front ++ l) (make b.0.0)) (sym whole) (law b.0.0 t.1))

last_again : {B : Type 0} (spell : B → List ℕ) (fit : B → Bool) (read : List ℕ → Option (B × List ℕ)) → IsField spell fit read → (make : B → Frame) (b : B) → fit b ≡ true → one_from read make (spell b) ≡ Some (make b)
last_again spell fit read h make b e =
    let r : read (spell b) ≡ Some (b, []) = ap read (sym (append-nil (spell b))) ∙ h.again b [] e in
    rw r refl

abbrev two_from : {A B : Type 0} → (List ℕ → Option (A × List ℕ)) → (List ℕ → Option (B × List ℕ)) → (A → B → Frame) → List ℕ → Option Frame
two_from first second make body = first body >>= λ a. second a.1 >>= λ b. ended (make a.0 b.0) b.1

pair_takes : {A B : Type 0} (spell : A → List ℕ) (fit : A → Bool) (read : List ℕ → Option (A × List ℕ)) → IsField spell fit read → (spell' : B → List ℕ) (fit' : B → Bool) (read' : List ℕ → Option (B × List ℕ)) → IsField spell' fit' read'
    → (make : A → B → Frame) (kind : ℕ) → ((a : A) (b : B) → fit a ≡ true → fit' b ≡ true → IsSpelled kind (spell a ++ spell' b) (make a b)) → (body : List ℕ) (f : Frame) → AreBytes body → two_from read read' make body ≡ Some f → IsSpelled kind body f
pair_takes spell fit read h spell' fit' read' k make kind law body f ok e =
    let a = bind_some (read body) (λ a. read' a.1 >>= λ b. ended (make a.0 b.0) b.1) f e in
    let t = h.takes body a.0.0 a.0.1 ok a.1 in
    subst (λ (l : List ℕ). IsSpelled kind l f) (sym t.0) (last_takes spell' fit' read' k (make a.0.0) (spell a.0.0) kind (λ b passed. law a.0.0 b t.1 passed) a.0.1 f t.2 a.2)

pair_again : {A B : Type 0} (spell : A → List ℕ) (fit : A → Bool) (read : List ℕ → Option (A × List ℕ)) → IsField spell fit read → (spell' : B → List ℕ) (fit' : B → Bool) (read' : List ℕ → Option (B × List ℕ)) → IsField spell' fit' read'
    → (make : A → B → Frame) (a : A) (b : B) → (fit a && fit' b) ≡ true → two_from read read' make (spell a ++ spell' b) ≡ Some (make a b)
pair_again spell fit read h spell' fit' read' k make a b e =
    let p = and_parts (fit a) (fit' b) e in
    rw (h.again a (spell' b) p.0) (last_again spell' fit' read' k (make a) b p.1)

-- a digest, and a field behind it
digest_takes : {B : Type 0} (spell : B → List ℕ) (fit : B → Bool) (read : List ℕ → Option (B × List ℕ)) → IsField spell fit read → (make : List ℕ → B → Frame) (kind : ℕ)
    → ((a : List ℕ) (b : B) → is_digest a ≡ true → fit b ≡ true → IsSpelled kind (a ++ spell b) (make a b)) → (body : List ℕ) (f : Frame) → AreBytes body → two_from (bytes_at DIGEST_BYTES) read make body ≡ Some f → IsSpelled kind body f
digest_takes spell fit read h make kind law = pair_takes as_they_are is_digest (bytes_at DIGEST_BYTES) (bytes_field DIGEST_BYTES) spell fit read h make kind law

digest_again : {B : Type 0} (spell : B → List ℕ) (fit : B → Bool) (read : List ℕ → Option (B × List ℕ)) → IsField spell fit read → (make : List ℕ → B → Frame) (a : List ℕ) (b : B) → (is_digest a && fit b) ≡ true
    → two_from (bytes_at DIGEST_BYTES) read make (a ++ spell b) ≡ Some (make a b)
digest_again spell fit read h make a b e = pair_again as_they_are is_digest (bytes_at DIGEST_BYTES) (bytes_field DIGEST_BYTES) spell fit read h make a b e

-- ---- the kinds

store_takes : (body : List ℕ) (f : Frame) → AreBytes body → store_at body ≡ Some f → IsSpelled 1 body f
unfolding store_at
store_takes body f ok e =
    let a = bind_some (bytes_at DIGEST_BYTES body) (λ name. slots_at 0 name.1 >>= λ slots. text_at 1 slots.1 >>= λ bytes. ended (Store name.0 slots.0 bytes.0) bytes.1) f e in
    let name = (bytes_field DIGEST_BYTES).takes body a.0.0 a.0.1 ok a.1 in
    let b = bind_some (slots_at 0 a.0.1) (λ slots. text_at 1 slots.1 >>= λ bytes. ended (Store a.0.0 slots.0 bytes.0) bytes.1) f a.2 in
    let slots = (slots_field 0).takes a.0.1 b.0.0 b.0.1 name.2 b.1 in
    let whole : body ≡ a.0.0 ++ slots_bytes b.0.0 ++ b.0.1 = name.0 ∙ ap (λ (l : List ℕ). a.0.0 ++ l) slots.0 ∙ sym (append_assoc a.0.0 (slots_bytes b.0.0) b.0.1) in
    subst (λ (l : List ℕ). IsSpelled 1 l f) (sym whole) (last_takes text_bytes (is_text 1) (text_at 1) (text_field 1) (λ bytes. Store a.0.0 b.0.0 bytes) (a.0.0 ++ slots_bytes b.0.0) 1
    (λ bytes passed. (refl, and_both _ _ name.1 (and_both _ _ slots.1 passed), refl)) b.0.1 f slots.2 b.2)

store_again : (name slots bytes : List ℕ) → fits (Store name slots bytes) ≡ true → store_at (body_of (Store name slots bytes)) ≡ Some (Store name slots bytes)
unfolding store_at
store_again name slots bytes e =
    let p = and_parts (is_digest name) (are_slots 0 slots && is_text 1 bytes) e in
    let q = and_parts (are_slots 0 slots) (is_text 1 bytes) p.1 in
    rw (append_assoc name (slots_bytes slots) (text_bytes bytes), (bytes_field DIGEST_BYTES).again name (slots_bytes slots ++ text_bytes bytes) p.0, (slots_field 0).again slots (text_bytes bytes) q.0) (last_again text_bytes (is_text 1) (text_at 1) (text_field 1) (λ b. Store name slots b) bytes q.1)

cancel_takes : (name rest : List ℕ) (f : Frame) → is_digest name ≡ true → AreBytes rest → cancel_at name rest ≡ Some f → IsSpelled 2 (name ++ 0 ∷ rest) f
unfolding cancel_at
cancel_takes name rest f fit ok e =
    subst (λ (l : List ℕ). IsSpelled 2 l f) (append_assoc name (0 ∷ []) rest) (last_takes slots_bytes (are_slots 1) (slots_at 1) (slots_field 1) (λ slots. Cancel name slots) (name ++ 0 ∷ []) 2
    (λ slots passed. (append_assoc name (0 ∷ []) (slots_bytes slots), and_both _ _ fit passed, refl)) rest f ok e)

put_back_takes : (name rest : List ℕ) (f : Frame) → is_digest name ≡ true → AreBytes rest → put_back_at name rest ≡ Some f → IsSpelled 2 (name ++ 1 ∷ rest) f
unfolding put_back_at
put_back_takes name rest f fit ok e =
    subst (λ (l : List ℕ). IsSpelled 2 l f) (append_assoc name (1 ∷ []) rest) (last_takes claims_bytes (are_claims 1) (claims_at 1) (claims_field 1) (λ claims. PutBack name claims) (name ++ 1 ∷ []) 2
    (λ claims passed. (append_assoc name (1 ∷ []) (claims_bytes claims), and_both _ _ fit passed, refl)) rest f ok e)

-- either branch of a choice
chosen : {P : Type 0} (b : Bool) (x y : Option Frame) (f : Frame) → (b ≡ true → x ≡ Some f → P) → (b ≡ false → y ≡ Some f → P) → cond b x y ≡ Some f → P
chosen true x y f h k e = h refl e
chosen false x y f h k e = k refl e

release_takes : (body : List ℕ) (f : Frame) → AreBytes body → release_at body ≡ Some f → IsSpelled 2 body f
unfolding release_at
release_takes body f ok e =
    let a = bind_some (bytes_at DIGEST_BYTES body) (λ name. u8_at name.1 >>= λ mode. cond (eqb mode.0 0) (cancel_at name.0 mode.1) (cond (eqb mode.0 1) (put_back_at name.0 mode.1) None)) f e in
    let name = (bytes_field DIGEST_BYTES).takes body a.0.0 a.0.1 ok a.1 in
    let b = bind_some (u8_at a.0.1) (λ mode. cond (eqb mode.0 0) (cancel_at a.0.0 mode.1) (cond (eqb mode.0 1) (put_back_at a.0.0 mode.1) None)) f a.2 in
    let mode = u8_field.takes a.0.1 b.0.0 b.0.1 name.2 b.1 in
    let whole : (m : ℕ) → b.0.0 ≡ m → a.0.0 ++ m ∷ b.0.1 ≡ body = λ m is. ap (λ (k : ℕ). a.0.0 ++ k ∷ b.0.1) (sym is) ∙ ap (λ (l : List ℕ). a.0.0 ++ l) (sym mode.0) ∙ sym name.0 in
    chosen (eqb b.0.0 0) (cancel_at a.0.0 b.0.1) (cond (eqb b.0.0 1) (put_back_at a.0.0 b.0.1) None) f
    (λ t h. subst (λ (l : List ℕ). IsSpelled 2 l f) (whole 0 (eqb-true b.0.0 0 t)) (cancel_takes a.0.0 b.0.1 f name.1 mode.2 h))
    (λ n h. let g = then_some (eqb b.0.0 1) (put_back_at a.0.0 b.0.1) f h in subst (λ (l : List ℕ). IsSpelled 2 l f) (whole 1 (eqb-true b.0.0 1 g.0)) (put_back_takes a.0.0 b.0.1 f name.1 mode.2 g.1))
    b.2

cancel_again : (name slots : List ℕ) → fits (Cancel name slots) ≡ true → release_at (body_of (Cancel name slots)) ≡ Some (Cancel name slots)
unfolding release_at cancel_at u8_at
cancel_again name slots e =
    let p = and_parts (is_digest name) (are_slots 1 slots) e in
    rw ((bytes_field DIGEST_BYTES).again name (0 ∷ slots_bytes slots) p.0) (last_again slots_bytes (are_slots 1) (slots_at 1) (slots_field 1) (λ s. Cancel name s) slots p.1)

put_back_again : (name : List ℕ) (claims : List SlotClaim) → fits (PutBack name claims) ≡ true → release_at (body_of (PutBack name claims)) ≡ Some (PutBack name claims)
unfolding release_at put_back_at u8_at
put_back_again name claims e =
    let p = and_parts (is_digest name) (are_claims 1 claims) e in
    rw ((bytes_field DIGEST_BYTES).again name (1 ∷ claims_bytes claims) p.0) (last_again claims_bytes (are_claims 1) (claims_at 1) (claims_field 1) (λ s. PutBack name s) claims p.1)

replace_takes : (body : List ℕ) (f : Frame) → AreBytes body → replace_at body ≡ Some f → IsSpelled 3 body f
unfolding replace_at
replace_takes = pair_takes u32_bytes is_u32 u32_at u32_field as_they_are (many_bytes CLAIM_BYTES) (bytes_at CLAIM_BYTES) (bytes_field CLAIM_BYTES) (λ slot bytes. Replace slot bytes) 3 (λ a b p q. (refl, and_both _ _ p q, refl))

replace_again : (slot : ℕ) (bytes : List ℕ) → fits (Replace slot bytes) ≡ true → replace_at (body_of (Replace slot bytes)) ≡ Some (Replace slot bytes)
unfolding replace_at
replace_again slot bytes e = pair_again u32_bytes is_u32 u32_at u32_field as_they_are (many_bytes CLAIM_BYTES) (bytes_at CLAIM_BYTES) (bytes_field CLAIM_BYTES) (λ s b. Replace s b) slot bytes e

accepted_takes : (body : List ℕ) (f : Frame) → AreBytes body → accepted_at body ≡ Some f → IsSpelled 4 body f
unfolding accepted_at
accepted_takes = last_takes claims_bytes (are_claims 0) (claims_at 0) (claims_field 0) (λ claims. Accepted claims) [] 4 (λ claims passed. (refl, passed, refl))

accepted_again : (claims : List SlotClaim) → fits (Accepted claims) ≡ true → accepted_at (body_of (Accepted claims)) ≡ Some (Accepted claims)
unfolding accepted_at
accepted_again claims e = last_again claims_bytes (are_claims 0) (claims_at 0) (claims_field 0) (λ c. Accepted c) claims e

refused_takes : (body : List ℕ) (f : Frame) → AreBytes body → refused_at body ≡ Some f → IsSpelled 5 body f
unfolding refused_at
refused_takes body f ok e =
    let a = bind_some (u8_at body) (λ why. u64_at why.1 >>= λ detail. cond (within 1 LAST_REASON why.0) (ended (Refused why.0 detail.0) detail.1) None) f e in
    let why = u8_field.takes body a.0.0 a.0.1 ok a.1 in
    let b = bind_some (u64_at a.0.1) (λ detail. cond (within 1 LAST_REASON a.0.0) (ended (Refused a.0.0 detail.0) detail.1) None) f a.2 in
    let detail = u64_field.takes a.0.1 b.0.0 b.0.1 why.2 b.1 in
    let g = then_some (within 1 LAST_REASON a.0.0) (ended (Refused a.0.0 b.0.0) b.0.1) f b.2 in
    let d = ended_is (Refused a.0.0 b.0.0) b.0.1 f g.1 in
    let whole : body ≡ a.0.0 ∷ u64_bytes b.0.0 = why.0 ∙ ap (λ (l : List ℕ). a.0.0 ∷ l) (detail.0 ∙ ap (λ (l : List ℕ). u64_bytes b.0.0 ++ l) d.0 ∙ append-nil (u64_bytes b.0.0)) in
    subst (λ (g : Frame). IsSpelled 5 body g) d.1 (whole, and_both _ _ g.0 detail.1, refl)

refused_again : (why detail : ℕ) → fits (Refused why detail) ≡ true → refused_at (body_of (Refused why detail)) ≡ Some (Refused why detail)
unfolding refused_at u8_at
refused_again why detail e =
    let p = and_parts (within 1 LAST_REASON why) (nat_lt detail (2 ^ 64)) e in
    let r : u64_at (u64_bytes detail) ≡ Some (detail, []) = ap u64_at (sym (append-nil (u64_bytes detail))) ∙ u64_field.again detail [] p.1 in
    rw (r, p.0) refl

declined_takes : (body : List ℕ) (f : Frame) → AreBytes body → declined_at body ≡ Some f → IsSpelled 6 body f
unfolding declined_at
declined_takes = digest_takes places_bytes are_places places_at places_field (λ nonce places. Declined nonce places) 6 (λ a b p q. (refl, and_both _ _ p q, refl))

declined_again : (nonce places : List ℕ) → fits (Declined nonce places) ≡ true → declined_at (body_of (Declined nonce places)) ≡ Some (Declined nonce places)
unfolding declined_at
declined_again nonce places e = digest_again places_bytes are_places places_at places_field (λ n p. Declined n p) nonce places e

get_takes : (body : List ℕ) (f : Frame) → AreBytes body → get_at body ≡ Some f → IsSpelled 7 body f
unfolding get_at
get_takes = last_takes as_they_are is_digest (bytes_at DIGEST_BYTES) (bytes_field DIGEST_BYTES) (λ name. Get name) [] 7 (λ name passed. (refl, passed, refl))

get_again : (name : List ℕ) → fits (Get name) ≡ true → get_at (body_of (Get name)) ≡ Some (Get name)
unfolding get_at
get_again name e = last_again as_they_are is_digest (bytes_at DIGEST_BYTES) (bytes_field DIGEST_BYTES) (λ n. Get n) name e

here_takes : (body : List ℕ) (f : Frame) → AreBytes body → here_at body ≡ Some f → IsSpelled 8 body f
unfolding here_at
here_takes = digest_takes text_bytes (is_text 0) (text_at 0) (text_field 0) (λ name bytes. Here name bytes) 8 (λ a b p q. (refl, and_both _ _ p q, refl))

here_again : (name bytes : List ℕ) → fits (Here name bytes) ≡ true → here_at (body_of (Here name bytes)) ≡ Some (Here name bytes)
unfolding here_at
here_again name bytes e = digest_again text_bytes (is_text 0) (text_at 0) (text_field 0) (λ n b. Here n b) name bytes e

probe_takes : (body : List ℕ) (f : Frame) → AreBytes body → probe_at body ≡ Some f → IsSpelled 9 body f
unfolding probe_at
probe_takes = digest_takes objects_bytes are_objects objects_at objects_field (λ nonce objects. Probe nonce objects) 9 (λ a b p q. (refl, and_both _ _ p q, refl))

probe_again : (nonce : List ℕ) (objects : List Object) → fits (Probe nonce objects) ≡ true → probe_at (body_of (Probe nonce objects)) ≡ Some (Probe nonce objects)
unfolding probe_at
probe_again nonce objects e = digest_again objects_bytes are_objects objects_at objects_field (λ n o. Probe n o) nonce objects e

proof_takes : (body : List ℕ) (f : Frame) → AreBytes body → proof_at body ≡ Some f → IsSpelled 10 body f
unfolding proof_at
proof_takes = digest_takes as_they_are is_digest (bytes_at DIGEST_BYTES) (bytes_field DIGEST_BYTES) (λ nonce value. Proof nonce value) 10 (λ a b p q. (refl, and_both _ _ p q, refl))

proof_again : (nonce value : List ℕ) → fits (Proof nonce value) ≡ true → proof_at (body_of (Proof nonce value)) ≡ Some (Proof nonce value)
unfolding proof_at
proof_again nonce value e = digest_again as_they_are is_digest (bytes_at DIGEST_BYTES) (bytes_field DIGEST_BYTES) (λ n v. Proof n v) nonce value e

ask_takes : (body : List ℕ) (f : Frame) → AreBytes body → ask_at body ≡ Some f → IsSpelled 11 body f
unfolding ask_at
ask_takes = digest_takes names_bytes are_names names_at names_field (λ salt names. Ask salt names) 11 (λ a b p q. (refl, and_both _ _ p q, refl))

ask_again : (salt : List ℕ) (names : List (List ℕ)) → fits (Ask salt names) ≡ true → ask_at (body_of (Ask salt names)) ≡ Some (Ask salt names)
unfolding ask_at
ask_again salt names e = digest_again names_bytes are_names names_at names_field (λ s n. Ask s n) salt names e

sample_takes : (body : List ℕ) (f : Frame) → AreBytes body → sample_at body ≡ Some f → IsSpelled 12 body f
unfolding sample_at
sample_takes = digest_takes u32_bytes is_u32 u32_at u32_field (λ salt bits. Sample salt bits) 12 (λ a b p q. (refl, and_both _ _ p q, refl))

sample_again : (salt : List ℕ) (bits : ℕ) → fits (Sample salt bits) ≡ true → sample_at (body_of (Sample salt bits)) ≡ Some (Sample salt bits)
unfolding sample_at
sample_again salt bits e = digest_again u32_bytes is_u32 u32_at u32_field (λ s b. Sample s b) salt bits e

-- ---- all kinds

at_kind : (kind n : ℕ) (body : List ℕ) (f : Frame) → eqb kind n ≡ true → IsSpelled n body f → IsSpelled kind body f
at_kind kind n body f t h = subst (λ (k : ℕ). IsSpelled k body f) (sym (eqb-true kind n t)) h

pub body_takes : (kind : ℕ) (body : List ℕ) (f : Frame) → AreBytes body → read_body kind body ≡ Some f → IsSpelled kind body f
unfolding read_body
body_takes kind body f ok e =
    chosen (eqb kind 1) _ _ f (λ t h. at_kind kind 1 body f t (store_takes body f ok h)) (λ _ e.
    chosen (eqb kind 2) _ _ f (λ t h. at_kind kind 2 body f t (release_takes body f ok h)) (λ _ e.
    chosen (eqb kind 3) _ _ f (λ t h. at_kind kind 3 body f t (replace_takes body f ok h)) (λ _ e.
    chosen (eqb kind 4) _ _ f (λ t h. at_kind kind 4 body f t (accepted_takes body f ok h)) (λ _ e.
    chosen (eqb kind 5) _ _ f (λ t h. at_kind kind 5 body f t (refused_takes body f ok h)) (λ _ e.
    chosen (eqb kind 6) _ _ f (λ t h. at_kind kind 6 body f t (declined_takes body f ok h)) (λ _ e.
    chosen (eqb kind 7) _ _ f (λ t h. at_kind kind 7 body f t (get_takes body f ok h)) (λ _ e.
    chosen (eqb kind 8) _ _ f (λ t h. at_kind kind 8 body f t (here_takes body f ok h)) (λ _ e.
    chosen (eqb kind 9) _ _ f (λ t h. at_kind kind 9 body f t (probe_takes body f ok h)) (λ _ e.
    chosen (eqb kind 10) _ _ f (λ t h. at_kind kind 10 body f t (proof_takes body f ok h)) (λ _ e.
    chosen (eqb kind 11) _ _ f (λ t h. at_kind kind 11 body f t (ask_takes body f ok h)) (λ _ e.
    chosen (eqb kind 12) _ _ f (λ t h. at_kind kind 12 body f t (sample_takes body f ok h)) (λ _ e. absurd cc)
    e) e) e) e) e) e) e) e) e) e) e) e

pub body_again : (f : Frame) → fits f ≡ true → read_body (kind_of f) (body_of f) ≡ Some f
unfolding read_body
body_again (Store name slots bytes) e = store_again name slots bytes e
body_again (Cancel name slots) e = cancel_again name slots e
body_again (PutBack name claims) e = put_back_again name claims e
body_again (Replace slot bytes) e = replace_again slot bytes e
body_again (Accepted claims) e = accepted_again claims e
body_again (Refused why detail) e = refused_again why detail e
body_again (Declined nonce places) e = declined_again nonce places e
body_again (Get name) e = get_again name e
body_again (Here name bytes) e = here_again name bytes e
body_again (Probe nonce objects) e = probe_again nonce objects e
body_again (Proof nonce value) e = proof_again nonce value e
body_again (Ask salt names) e = ask_again salt names e
body_again (Sample salt bits) e = sample_again salt bits e
