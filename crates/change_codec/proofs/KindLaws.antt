-- Changes, kind by kind: what is read is spelled so and fits, and what fits and is spelled so is read.
use Rattle.std.proofs.Common.{◌≡◌, ℕ, Bool, true, List, [], ◌∷◌, ◌++◌, length, Option, Some, refl, ap, ◌∙◌, subst}
use Rattle.std.specs.Prelude.{⊤, MatchBool}
use Rattle.std.proofs.lemmas.Bool.{and_parts}
use Rattle.psb_bytes.specs.Numbers.{AreBytes, u16_bytes as u16, u32_bytes as u32, u64_bytes as u64}
use Rattle.psb_bytes.specs.declared.ids.Object.{Object}
use Rattle.psb_bytes.specs.declared.ids.Ticket.{Ticket}
use Rattle.psb_model.specs.declared.entries.Candidate.{Candidate}
use Rattle.psb_model.specs.declared.deals.DealWhat.{DealWhat}
use Rattle.psb_model.specs.declared.change.Change.{Change}
use Rattle.psb_model.specs.declared.change.Change.TheVariants.{Begun, Kept, Snapped, Forgot, TookFresh, TookSwap, LetGo, LetGoBack, Replaced, Refused, Proposed, Settled, Turned, Asked, Passed, Failed, Declined, Discarded, Chose}
use Rattle.psb_model.specs.Heads.{flag, counted, object, ticket, candidate, deal_fields, head_of, body_of}
use Rattle.psb_model.specs.Grammar.{is_u16, is_u32, is_digest, is_count, object_fits, candidate_fits, are_bytes, fits_widths, what_in_grammar}
use Rattle.byte_fields.specs.Fields.{◌>>=◌, u8_at, ended}
use Rattle.byte_fields.proofs.Found.{bind_some, some_is}
use Rattle.byte_fields.proofs.FieldLaws.{u8_field, u32_field, u64_field, digest_field}
use Rattle.change_codec.specs.Records.{has_body}
use Rattle.change_codec.specs.Reading.{begun_at, kept_at, snapped_at, forgot_at, took_fresh_at, took_swap_at, let_go_at, let_go_back_at, replaced_at, refused_at, deal_by, proposed_at, settled_at, turned_at, asked_at, passed_at, failed_at, declined_at, discarded_at, chose_at}
use Rattle.change_codec.proofs.Taking.{took, took_all, gave, gave_last, parts_3, parts_6, parts_7}
use Rattle.change_codec.proofs.Parts.{both, each, and_3, and_4, and_5, and_6, and_7, flag_field, ticket_field, slots_field, places_field, names_field, objects_field, candidates_field}
use Rattle.change_codec.proofs.DealLaws.{deal_takes, deal_again, deal_kind, deal_rest, deal_parts}

-- the change fits, is of this kind and is spelled so, and has this body part where its kind has one
pub record IsTaken (kind : ℕ) (fields : List ℕ) (body : Option (List ℕ)) (c : Change) : Type 0 where
  pub spelled : kind ∷ fields ≡ head_of c
  pub widths : fits_widths c ≡ true
  pub part : MatchBool (has_body c) (body ≡ body_of c) ⊤

taken : (kind : ℕ) (value c : Change) (fields front rest : List ℕ) (body : Option (List ℕ)) → fields ≡ front ++ rest → ended value rest ≡ Some c → kind ∷ front ≡ head_of value → fits_widths value ≡ true → MatchBool (has_body value) (body ≡ body_of value) ⊤ → IsTaken kind fields body c
taken kind value c fields front rest body whole e spelled widths part =
    let d = took_all value c fields front rest whole e in
    subst (λ (v : Change). IsTaken kind fields body v) d.1 (record { spelled = ap (λ (l : List ℕ). kind ∷ l) d.0 ∙ spelled; widths = widths; part = part })

pub begun_takes : (fields : List ℕ) (body : Option (List ℕ)) (c : Change) → AreBytes fields → are_bytes body ≡ true → begun_at fields body ≡ Some c → IsTaken 1 fields body c
unfolding begun_at
begun_takes fields body c ok okb e = taken 1 (Begun (record { body = body })) c fields [] fields body refl e refl okb refl

pub kept_takes : (fields : List ℕ) (body : Option (List ℕ)) (c : Change) → AreBytes fields → are_bytes body ≡ true → kept_at fields body ≡ Some c → IsTaken 2 fields body c
unfolding kept_at
kept_takes fields body c ok okb e =
    let name = took digest_field fields [] fields c refl ok e in
    let len = took u32_field fields name.value name.rest c name.whole name.ok name.gives in
    let new = took flag_field fields (name.value ++ u32 len.value) len.rest c len.whole len.ok len.gives in
    taken 2 (Kept (record { name = name.value; len = len.value; new = new.value; body = body })) c fields (name.value ++ u32 len.value ++ flag new.value) new.rest body new.whole new.gives refl (both (both name.fits len.fits) okb) refl

pub kept_again : (name : List ℕ) (len : ℕ) (new : Bool) (body : Option (List ℕ)) → fits_widths (Kept (record { name = name; len = len; new = new; body = body })) ≡ true → kept_at (name ++ u32 len ++ flag new) body ≡ Some (Kept (record { name = name; len = len; new = new; body = body }))
unfolding kept_at
kept_again name len new body e =
    let w = and_3 _ _ _ e in
    ap (λ l. kept_at l body) (parts_3 name (u32 len) (flag new))
    ∙ gave digest_field _ name (u32 len ++ (flag new)) w.0
    ∙ gave u32_field _ len _ w.1
    ∙ gave_last flag_field _ new refl

pub snapped_takes : (fields : List ℕ) (body : Option (List ℕ)) (c : Change) → AreBytes fields → snapped_at fields ≡ Some c → IsTaken 3 fields body c
unfolding snapped_at
snapped_takes fields body c ok e =
    let number = took u32_field fields [] fields c refl ok e in
    let t = took ticket_field fields (u32 number.value) number.rest c number.whole number.ok number.gives in
    let files = took u32_field fields (u32 number.value ++ ticket t.value) t.rest c t.whole t.ok t.gives in
    let folders = took u32_field fields (u32 number.value ++ ticket t.value ++ u32 files.value) files.rest c files.whole files.ok files.gives in
    let bytes = took u64_field fields (u32 number.value ++ ticket t.value ++ u32 files.value ++ u32 folders.value) folders.rest c folders.whole folders.ok folders.gives in
    let left = took u32_field fields (u32 number.value ++ ticket t.value ++ u32 files.value ++ u32 folders.value ++ u64 bytes.value) bytes.rest c bytes.whole bytes.ok bytes.gives in
    let names = took names_field fields (u32 number.value ++ ticket t.value ++ u32 files.value ++ u32 folders.value ++ u64 bytes.value ++ u32 left.value) left.rest c left.whole left.ok left.gives in
    taken 3 (Snapped (record { number = number.value; ticket = t.value; files = files.value; folders = folders.value; bytes = bytes.value; left = left.value; names = names.value })) c fields (u32 number.value ++ ticket t.value ++ u32 files.value ++ u32 folders.value ++ u64 bytes.value ++ u32 left.value ++ counted (λ name. name) names.value) names.rest body names.whole names.gives refl (both (both (both (both (both (both number.fits t.fits) files.fits) folders.fits) bytes.fits) left.fits) (each is_digest names.value names.fits)) tt

pub snapped_again : (number : ℕ) (t : Ticket) (files : ℕ) (folders : ℕ) (bytes : ℕ) (left : ℕ) (names : List (List ℕ)) → fits_widths (Snapped (record { number = number; ticket = t; files = files; folders = folders; bytes = bytes; left = left; names = names })) ≡ true → is_count (length names) ≡ true → snapped_at (u32 number ++ ticket t ++ u32 files ++ u32 folders ++ u64 bytes ++ u32 left ++ counted (λ name. name) names) ≡ Some (Snapped (record { number = number; ticket = t; files = files; folders = folders; bytes = bytes; left = left; names = names }))
unfolding snapped_at
snapped_again number t files folders bytes left names e few =
    let w = and_7 _ _ _ _ _ _ _ e in
    ap snapped_at (parts_7 (u32 number) (ticket t) (u32 files) (u32 folders) (u64 bytes) (u32 left) (counted (λ name. name) names))
    ∙ gave u32_field _ number (ticket t ++ (u32 files ++ (u32 folders ++ (u64 bytes ++ (u32 left ++ (counted (λ name. name) names)))))) w.0
    ∙ gave ticket_field _ t _ w.1
    ∙ gave u32_field _ files _ w.2
    ∙ gave u32_field _ folders _ w.3
    ∙ gave u64_field _ bytes _ w.4
    ∙ gave u32_field _ left _ w.5
    ∙ gave_last names_field _ names (both few w.6)

pub forgot_takes : (fields : List ℕ) (body : Option (List ℕ)) (c : Change) → AreBytes fields → forgot_at fields ≡ Some c → IsTaken 4 fields body c
unfolding forgot_at
forgot_takes fields body c ok e =
    let number = took u32_field fields [] fields c refl ok e in
    taken 4 (Forgot (record { number = number.value })) c fields (u32 number.value) number.rest body number.whole number.gives refl number.fits tt

pub forgot_again : (number : ℕ) → fits_widths (Forgot (record { number = number })) ≡ true → forgot_at (u32 number) ≡ Some (Forgot (record { number = number }))
unfolding forgot_at
forgot_again number e =
    gave_last u32_field _ number e

pub took_fresh_takes : (fields : List ℕ) (body : Option (List ℕ)) (c : Change) → AreBytes fields → are_bytes body ≡ true → took_fresh_at fields body ≡ Some c → IsTaken 5 fields body c
unfolding took_fresh_at
took_fresh_takes fields body c ok okb e =
    let peer = took u32_field fields [] fields c refl ok e in
    let deal = took u64_field fields (u32 peer.value) peer.rest c peer.whole peer.ok peer.gives in
    let name = took digest_field fields (u32 peer.value ++ u64 deal.value) deal.rest c deal.whole deal.ok deal.gives in
    let first = took u32_field fields (u32 peer.value ++ u64 deal.value ++ name.value) name.rest c name.whole name.ok name.gives in
    let len = took u32_field fields (u32 peer.value ++ u64 deal.value ++ name.value ++ u32 first.value) first.rest c first.whole first.ok first.gives in
    let new = took flag_field fields (u32 peer.value ++ u64 deal.value ++ name.value ++ u32 first.value ++ u32 len.value) len.rest c len.whole len.ok len.gives in
    taken 5 (TookFresh (record { peer = peer.value; deal = deal.value; name = name.value; first = first.value; len = len.value; new = new.value; body = body })) c fields (u32 peer.value ++ u64 deal.value ++ name.value ++ u32 first.value ++ u32 len.value ++ flag new.value) new.rest body new.whole new.gives refl (both (both (both (both (both peer.fits deal.fits) name.fits) first.fits) len.fits) okb) refl

pub took_fresh_again : (peer : ℕ) (deal : ℕ) (name : List ℕ) (first : ℕ) (len : ℕ) (new : Bool) (body : Option (List ℕ)) → fits_widths (TookFresh (record { peer = peer; deal = deal; name = name; first = first; len = len; new = new; body = body })) ≡ true → took_fresh_at (u32 peer ++ u64 deal ++ name ++ u32 first ++ u32 len ++ flag new) body ≡ Some (TookFresh (record { peer = peer; deal = deal; name = name; first = first; len = len; new = new; body = body }))
unfolding took_fresh_at
took_fresh_again peer deal name first len new body e =
    let w = and_6 _ _ _ _ _ _ e in
    ap (λ l. took_fresh_at l body) (parts_6 (u32 peer) (u64 deal) name (u32 first) (u32 len) (flag new))
    ∙ gave u32_field _ peer (u64 deal ++ (name ++ (u32 first ++ (u32 len ++ (flag new))))) w.0
    ∙ gave u64_field _ deal _ w.1
    ∙ gave digest_field _ name _ w.2
    ∙ gave u32_field _ first _ w.3
    ∙ gave u32_field _ len _ w.4
    ∙ gave_last flag_field _ new refl

pub took_swap_takes : (fields : List ℕ) (body : Option (List ℕ)) (c : Change) → AreBytes fields → are_bytes body ≡ true → took_swap_at fields body ≡ Some c → IsTaken 6 fields body c
unfolding took_swap_at
took_swap_takes fields body c ok okb e =
    let peer = took u32_field fields [] fields c refl ok e in
    let deal = took u64_field fields (u32 peer.value) peer.rest c peer.whole peer.ok peer.gives in
    let name = took digest_field fields (u32 peer.value ++ u64 deal.value) deal.rest c deal.whole deal.ok deal.gives in
    let slots = took slots_field fields (u32 peer.value ++ u64 deal.value ++ name.value) name.rest c name.whole name.ok name.gives in
    let len = took u32_field fields (u32 peer.value ++ u64 deal.value ++ name.value ++ counted u32 slots.value) slots.rest c slots.whole slots.ok slots.gives in
    let new = took flag_field fields (u32 peer.value ++ u64 deal.value ++ name.value ++ counted u32 slots.value ++ u32 len.value) len.rest c len.whole len.ok len.gives in
    taken 6 (TookSwap (record { peer = peer.value; deal = deal.value; name = name.value; slots = slots.value; len = len.value; new = new.value; body = body })) c fields (u32 peer.value ++ u64 deal.value ++ name.value ++ counted u32 slots.value ++ u32 len.value ++ flag new.value) new.rest body new.whole new.gives refl (both (both (both (both (both peer.fits deal.fits) name.fits) (each is_u32 slots.value slots.fits)) len.fits) okb) refl

pub took_swap_again : (peer : ℕ) (deal : ℕ) (name : List ℕ) (slots : List ℕ) (len : ℕ) (new : Bool) (body : Option (List ℕ)) → fits_widths (TookSwap (record { peer = peer; deal = deal; name = name; slots = slots; len = len; new = new; body = body })) ≡ true → is_count (length slots) ≡ true → took_swap_at (u32 peer ++ u64 deal ++ name ++ counted u32 slots ++ u32 len ++ flag new) body ≡ Some (TookSwap (record { peer = peer; deal = deal; name = name; slots = slots; len = len; new = new; body = body }))
unfolding took_swap_at
took_swap_again peer deal name slots len new body e few =
    let w = and_6 _ _ _ _ _ _ e in
    ap (λ l. took_swap_at l body) (parts_6 (u32 peer) (u64 deal) name (counted u32 slots) (u32 len) (flag new))
    ∙ gave u32_field _ peer (u64 deal ++ (name ++ (counted u32 slots ++ (u32 len ++ (flag new))))) w.0
    ∙ gave u64_field _ deal _ w.1
    ∙ gave digest_field _ name _ w.2
    ∙ gave slots_field _ slots _ (both few w.3)
    ∙ gave u32_field _ len _ w.4
    ∙ gave_last flag_field _ new refl

pub let_go_takes : (fields : List ℕ) (body : Option (List ℕ)) (c : Change) → AreBytes fields → let_go_at fields ≡ Some c → IsTaken 7 fields body c
unfolding let_go_at
let_go_takes fields body c ok e =
    let peer = took u32_field fields [] fields c refl ok e in
    let deal = took u64_field fields (u32 peer.value) peer.rest c peer.whole peer.ok peer.gives in
    let name = took digest_field fields (u32 peer.value ++ u64 deal.value) deal.rest c deal.whole deal.ok deal.gives in
    let slots = took slots_field fields (u32 peer.value ++ u64 deal.value ++ name.value) name.rest c name.whole name.ok name.gives in
    taken 7 (LetGo (record { peer = peer.value; deal = deal.value; name = name.value; slots = slots.value })) c fields (u32 peer.value ++ u64 deal.value ++ name.value ++ counted u32 slots.value) slots.rest body slots.whole slots.gives refl (both (both (both peer.fits deal.fits) name.fits) (each is_u32 slots.value slots.fits)) tt

pub let_go_again : (peer : ℕ) (deal : ℕ) (name : List ℕ) (slots : List ℕ) → fits_widths (LetGo (record { peer = peer; deal = deal; name = name; slots = slots })) ≡ true → is_count (length slots) ≡ true → let_go_at (u32 peer ++ u64 deal ++ name ++ counted u32 slots) ≡ Some (LetGo (record { peer = peer; deal = deal; name = name; slots = slots }))
unfolding let_go_at
let_go_again peer deal name slots e few =
    let w = and_4 _ _ _ _ e in
    gave u32_field _ peer (u64 deal ++ (name ++ (counted u32 slots))) w.0
    ∙ gave u64_field _ deal _ w.1
    ∙ gave digest_field _ name _ w.2
    ∙ gave_last slots_field _ slots (both few w.3)

pub let_go_back_takes : (fields : List ℕ) (body : Option (List ℕ)) (c : Change) → AreBytes fields → are_bytes body ≡ true → let_go_back_at fields body ≡ Some c → IsTaken 8 fields body c
unfolding let_go_back_at
let_go_back_takes fields body c ok okb e =
    let peer = took u32_field fields [] fields c refl ok e in
    let deal = took u64_field fields (u32 peer.value) peer.rest c peer.whole peer.ok peer.gives in
    let name = took digest_field fields (u32 peer.value ++ u64 deal.value) deal.rest c deal.whole deal.ok deal.gives in
    let slots = took slots_field fields (u32 peer.value ++ u64 deal.value ++ name.value) name.rest c name.whole name.ok name.gives in
    taken 8 (LetGoBack (record { peer = peer.value; deal = deal.value; name = name.value; slots = slots.value; body = body })) c fields (u32 peer.value ++ u64 deal.value ++ name.value ++ counted u32 slots.value) slots.rest body slots.whole slots.gives refl (both (both (both (both peer.fits deal.fits) name.fits) (each is_u32 slots.value slots.fits)) okb) refl

pub let_go_back_again : (peer : ℕ) (deal : ℕ) (name : List ℕ) (slots : List ℕ) (body : Option (List ℕ)) → fits_widths (LetGoBack (record { peer = peer; deal = deal; name = name; slots = slots; body = body })) ≡ true → is_count (length slots) ≡ true → let_go_back_at (u32 peer ++ u64 deal ++ name ++ counted u32 slots) body ≡ Some (LetGoBack (record { peer = peer; deal = deal; name = name; slots = slots; body = body }))
unfolding let_go_back_at
let_go_back_again peer deal name slots body e few =
    let w = and_5 _ _ _ _ _ e in
    gave u32_field _ peer (u64 deal ++ (name ++ (counted u32 slots))) w.0
    ∙ gave u64_field _ deal _ w.1
    ∙ gave digest_field _ name _ w.2
    ∙ gave_last slots_field _ slots (both few w.3)

pub replaced_takes : (fields : List ℕ) (body : Option (List ℕ)) (c : Change) → AreBytes fields → are_bytes body ≡ true → replaced_at fields body ≡ Some c → IsTaken 9 fields body c
unfolding replaced_at
replaced_takes fields body c ok okb e =
    let peer = took u32_field fields [] fields c refl ok e in
    let deal = took u64_field fields (u32 peer.value) peer.rest c peer.whole peer.ok peer.gives in
    let slot = took u32_field fields (u32 peer.value ++ u64 deal.value) deal.rest c deal.whole deal.ok deal.gives in
    let place = took u8_field fields (u32 peer.value ++ u64 deal.value ++ u32 slot.value) slot.rest c slot.whole slot.ok slot.gives in
    let home = took u32_field fields (u32 peer.value ++ u64 deal.value ++ u32 slot.value ++ (place.value ∷ [])) place.rest c place.whole place.ok place.gives in
    taken 9 (Replaced (record { peer = peer.value; deal = deal.value; slot = slot.value; place = place.value; home = home.value; body = body })) c fields (u32 peer.value ++ u64 deal.value ++ u32 slot.value ++ (place.value ∷ []) ++ u32 home.value) home.rest body home.whole home.gives refl (both (both (both (both (both peer.fits deal.fits) slot.fits) place.fits) home.fits) okb) refl

pub replaced_again : (peer : ℕ) (deal : ℕ) (slot : ℕ) (place : ℕ) (home : ℕ) (body : Option (List ℕ)) → fits_widths (Replaced (record { peer = peer; deal = deal; slot = slot; place = place; home = home; body = body })) ≡ true → replaced_at (u32 peer ++ u64 deal ++ u32 slot ++ place ∷ (u32 home)) body ≡ Some (Replaced (record { peer = peer; deal = deal; slot = slot; place = place; home = home; body = body }))
unfolding replaced_at
replaced_again peer deal slot place home body e =
    let w = and_6 _ _ _ _ _ _ e in
    gave u32_field _ peer (u64 deal ++ (u32 slot ++ (place ∷ (u32 home)))) w.0
    ∙ gave u64_field _ deal _ w.1
    ∙ gave u32_field _ slot _ w.2
    ∙ gave u8_field _ place _ w.3
    ∙ gave_last u32_field _ home w.4

pub refused_takes : (fields : List ℕ) (body : Option (List ℕ)) (c : Change) → AreBytes fields → refused_at fields ≡ Some c → IsTaken 10 fields body c
unfolding refused_at
refused_takes fields body c ok e =
    let peer = took u32_field fields [] fields c refl ok e in
    let deal = took u64_field fields (u32 peer.value) peer.rest c peer.whole peer.ok peer.gives in
    let why = took u8_field fields (u32 peer.value ++ u64 deal.value) deal.rest c deal.whole deal.ok deal.gives in
    let detail = took u64_field fields (u32 peer.value ++ u64 deal.value ++ (why.value ∷ [])) why.rest c why.whole why.ok why.gives in
    taken 10 (Refused (record { peer = peer.value; deal = deal.value; why = why.value; detail = detail.value })) c fields (u32 peer.value ++ u64 deal.value ++ (why.value ∷ []) ++ u64 detail.value) detail.rest body detail.whole detail.gives refl (both (both (both peer.fits deal.fits) why.fits) detail.fits) tt

pub refused_again : (peer : ℕ) (deal : ℕ) (why : ℕ) (detail : ℕ) → fits_widths (Refused (record { peer = peer; deal = deal; why = why; detail = detail })) ≡ true → refused_at (u32 peer ++ u64 deal ++ why ∷ (u64 detail)) ≡ Some (Refused (record { peer = peer; deal = deal; why = why; detail = detail }))
unfolding refused_at
refused_again peer deal why detail e =
    let w = and_4 _ _ _ _ e in
    gave u32_field _ peer (u64 deal ++ (why ∷ (u64 detail))) w.0
    ∙ gave u64_field _ deal _ w.1
    ∙ gave u8_field _ why _ w.2
    ∙ gave_last u64_field _ detail w.3

pub settled_takes : (fields : List ℕ) (body : Option (List ℕ)) (c : Change) → AreBytes fields → are_bytes body ≡ true → settled_at fields body ≡ Some c → IsTaken 12 fields body c
unfolding settled_at
settled_takes fields body c ok okb e =
    let peer = took u32_field fields [] fields c refl ok e in
    let deal = took u64_field fields (u32 peer.value) peer.rest c peer.whole peer.ok peer.gives in
    let slots = took slots_field fields (u32 peer.value ++ u64 deal.value) deal.rest c deal.whole deal.ok deal.gives in
    taken 12 (Settled (record { peer = peer.value; deal = deal.value; slots = slots.value; body = body })) c fields (u32 peer.value ++ u64 deal.value ++ counted u32 slots.value) slots.rest body slots.whole slots.gives refl (both (both (both peer.fits deal.fits) (each is_u32 slots.value slots.fits)) okb) refl

pub settled_again : (peer : ℕ) (deal : ℕ) (slots : List ℕ) (body : Option (List ℕ)) → fits_widths (Settled (record { peer = peer; deal = deal; slots = slots; body = body })) ≡ true → is_count (length slots) ≡ true → settled_at (u32 peer ++ u64 deal ++ counted u32 slots) body ≡ Some (Settled (record { peer = peer; deal = deal; slots = slots; body = body }))
unfolding settled_at
settled_again peer deal slots body e few =
    let w = and_4 _ _ _ _ e in
    gave u32_field _ peer (u64 deal ++ (counted u32 slots)) w.0
    ∙ gave u64_field _ deal _ w.1
    ∙ gave_last slots_field _ slots (both few w.2)

pub turned_takes : (fields : List ℕ) (body : Option (List ℕ)) (c : Change) → AreBytes fields → turned_at fields ≡ Some c → IsTaken 13 fields body c
unfolding turned_at
turned_takes fields body c ok e =
    let peer = took u32_field fields [] fields c refl ok e in
    let deal = took u64_field fields (u32 peer.value) peer.rest c peer.whole peer.ok peer.gives in
    let why = took u8_field fields (u32 peer.value ++ u64 deal.value) deal.rest c deal.whole deal.ok deal.gives in
    let detail = took u64_field fields (u32 peer.value ++ u64 deal.value ++ (why.value ∷ [])) why.rest c why.whole why.ok why.gives in
    taken 13 (Turned (record { peer = peer.value; deal = deal.value; why = why.value; detail = detail.value })) c fields (u32 peer.value ++ u64 deal.value ++ (why.value ∷ []) ++ u64 detail.value) detail.rest body detail.whole detail.gives refl (both (both (both peer.fits deal.fits) why.fits) detail.fits) tt

pub turned_again : (peer : ℕ) (deal : ℕ) (why : ℕ) (detail : ℕ) → fits_widths (Turned (record { peer = peer; deal = deal; why = why; detail = detail })) ≡ true → turned_at (u32 peer ++ u64 deal ++ why ∷ (u64 detail)) ≡ Some (Turned (record { peer = peer; deal = deal; why = why; detail = detail }))
unfolding turned_at
turned_again peer deal why detail e =
    let w = and_4 _ _ _ _ e in
    gave u32_field _ peer (u64 deal ++ (why ∷ (u64 detail))) w.0
    ∙ gave u64_field _ deal _ w.1
    ∙ gave u8_field _ why _ w.2
    ∙ gave_last u64_field _ detail w.3

pub asked_takes : (fields : List ℕ) (body : Option (List ℕ)) (c : Change) → AreBytes fields → asked_at fields ≡ Some c → IsTaken 14 fields body c
unfolding asked_at
asked_takes fields body c ok e =
    let peer = took u32_field fields [] fields c refl ok e in
    let objects = took objects_field fields (u32 peer.value) peer.rest c peer.whole peer.ok peer.gives in
    taken 14 (Asked (record { peer = peer.value; objects = objects.value })) c fields (u32 peer.value ++ counted object objects.value) objects.rest body objects.whole objects.gives refl (both peer.fits (each object_fits objects.value objects.fits)) tt

pub asked_again : (peer : ℕ) (objects : List Object) → fits_widths (Asked (record { peer = peer; objects = objects })) ≡ true → is_count (length objects) ≡ true → asked_at (u32 peer ++ counted object objects) ≡ Some (Asked (record { peer = peer; objects = objects }))
unfolding asked_at
asked_again peer objects e few =
    let w = and_parts _ _ e in
    gave u32_field _ peer (counted object objects) w.0
    ∙ gave_last objects_field _ objects (both few w.1)

pub passed_takes : (fields : List ℕ) (body : Option (List ℕ)) (c : Change) → AreBytes fields → passed_at fields ≡ Some c → IsTaken 15 fields body c
unfolding passed_at
passed_takes fields body c ok e =
    let peer = took u32_field fields [] fields c refl ok e in
    let asked = took u64_field fields (u32 peer.value) peer.rest c peer.whole peer.ok peer.gives in
    let objects = took objects_field fields (u32 peer.value ++ u64 asked.value) asked.rest c asked.whole asked.ok asked.gives in
    taken 15 (Passed (record { peer = peer.value; asked = asked.value; objects = objects.value })) c fields (u32 peer.value ++ u64 asked.value ++ counted object objects.value) objects.rest body objects.whole objects.gives refl (both (both peer.fits asked.fits) (each object_fits objects.value objects.fits)) tt

pub passed_again : (peer : ℕ) (asked : ℕ) (objects : List Object) → fits_widths (Passed (record { peer = peer; asked = asked; objects = objects })) ≡ true → is_count (length objects) ≡ true → passed_at (u32 peer ++ u64 asked ++ counted object objects) ≡ Some (Passed (record { peer = peer; asked = asked; objects = objects }))
unfolding passed_at
passed_again peer asked objects e few =
    let w = and_3 _ _ _ e in
    gave u32_field _ peer (u64 asked ++ (counted object objects)) w.0
    ∙ gave u64_field _ asked _ w.1
    ∙ gave_last objects_field _ objects (both few w.2)

pub failed_takes : (fields : List ℕ) (body : Option (List ℕ)) (c : Change) → AreBytes fields → failed_at fields ≡ Some c → IsTaken 16 fields body c
unfolding failed_at
failed_takes fields body c ok e =
    let peer = took u32_field fields [] fields c refl ok e in
    let asked = took u64_field fields (u32 peer.value) peer.rest c peer.whole peer.ok peer.gives in
    let how = took u8_field fields (u32 peer.value ++ u64 asked.value) asked.rest c asked.whole asked.ok asked.gives in
    let got = took digest_field fields (u32 peer.value ++ u64 asked.value ++ (how.value ∷ [])) how.rest c how.whole how.ok how.gives in
    let objects = took objects_field fields (u32 peer.value ++ u64 asked.value ++ (how.value ∷ []) ++ got.value) got.rest c got.whole got.ok got.gives in
    taken 16 (Failed (record { peer = peer.value; asked = asked.value; how = how.value; got = got.value; objects = objects.value })) c fields (u32 peer.value ++ u64 asked.value ++ (how.value ∷ []) ++ got.value ++ counted object objects.value) objects.rest body objects.whole objects.gives refl (both (both (both (both peer.fits asked.fits) how.fits) got.fits) (each object_fits objects.value objects.fits)) tt

pub failed_again : (peer : ℕ) (asked : ℕ) (how : ℕ) (got : List ℕ) (objects : List Object) → fits_widths (Failed (record { peer = peer; asked = asked; how = how; got = got; objects = objects })) ≡ true → is_count (length objects) ≡ true → failed_at (u32 peer ++ u64 asked ++ how ∷ (got ++ counted object objects)) ≡ Some (Failed (record { peer = peer; asked = asked; how = how; got = got; objects = objects }))
unfolding failed_at
failed_again peer asked how got objects e few =
    let w = and_5 _ _ _ _ _ e in
    gave u32_field _ peer (u64 asked ++ (how ∷ (got ++ (counted object objects)))) w.0
    ∙ gave u64_field _ asked _ w.1
    ∙ gave u8_field _ how _ w.2
    ∙ gave digest_field _ got _ w.3
    ∙ gave_last objects_field _ objects (both few w.4)

pub declined_takes : (fields : List ℕ) (body : Option (List ℕ)) (c : Change) → AreBytes fields → declined_at fields ≡ Some c → IsTaken 17 fields body c
unfolding declined_at
declined_takes fields body c ok e =
    let peer = took u32_field fields [] fields c refl ok e in
    let asked = took u64_field fields (u32 peer.value) peer.rest c peer.whole peer.ok peer.gives in
    let places = took places_field fields (u32 peer.value ++ u64 asked.value) asked.rest c asked.whole asked.ok asked.gives in
    taken 17 (Declined (record { peer = peer.value; asked = asked.value; places = places.value })) c fields (u32 peer.value ++ u64 asked.value ++ counted u16 places.value) places.rest body places.whole places.gives refl (both (both peer.fits asked.fits) (each is_u16 places.value places.fits)) tt

pub declined_again : (peer : ℕ) (asked : ℕ) (places : List ℕ) → fits_widths (Declined (record { peer = peer; asked = asked; places = places })) ≡ true → is_count (length places) ≡ true → declined_at (u32 peer ++ u64 asked ++ counted u16 places) ≡ Some (Declined (record { peer = peer; asked = asked; places = places }))
unfolding declined_at
declined_again peer asked places e few =
    let w = and_3 _ _ _ e in
    gave u32_field _ peer (u64 asked ++ (counted u16 places)) w.0
    ∙ gave u64_field _ asked _ w.1
    ∙ gave_last places_field _ places (both few w.2)

pub discarded_takes : (fields : List ℕ) (body : Option (List ℕ)) (c : Change) → AreBytes fields → discarded_at fields ≡ Some c → IsTaken 18 fields body c
unfolding discarded_at
discarded_takes fields body c ok e =
    let peer = took u32_field fields [] fields c refl ok e in
    let objects = took objects_field fields (u32 peer.value) peer.rest c peer.whole peer.ok peer.gives in
    taken 18 (Discarded (record { peer = peer.value; objects = objects.value })) c fields (u32 peer.value ++ counted object objects.value) objects.rest body objects.whole objects.gives refl (both peer.fits (each object_fits objects.value objects.fits)) tt

pub discarded_again : (peer : ℕ) (objects : List Object) → fits_widths (Discarded (record { peer = peer; objects = objects })) ≡ true → is_count (length objects) ≡ true → discarded_at (u32 peer ++ counted object objects) ≡ Some (Discarded (record { peer = peer; objects = objects }))
unfolding discarded_at
discarded_again peer objects e few =
    let w = and_parts _ _ e in
    gave u32_field _ peer (counted object objects) w.0
    ∙ gave_last objects_field _ objects (both few w.1)

pub chose_takes : (fields : List ℕ) (body : Option (List ℕ)) (c : Change) → AreBytes fields → chose_at fields ≡ Some c → IsTaken 19 fields body c
unfolding chose_at
chose_takes fields body c ok e =
    let candidates = took candidates_field fields [] fields c refl ok e in
    taken 19 (Chose (record { candidates = candidates.value })) c fields (counted candidate candidates.value) candidates.rest body candidates.whole candidates.gives refl (each candidate_fits candidates.value candidates.fits) tt

pub chose_again : (candidates : List Candidate) → fits_widths (Chose (record { candidates = candidates })) ≡ true → is_count (length candidates) ≡ true → chose_at (counted candidate candidates) ≡ Some (Chose (record { candidates = candidates }))
unfolding chose_at
chose_again candidates e few =
    gave_last candidates_field _ candidates (both few e)

pub proposed_takes : (fields : List ℕ) (body : Option (List ℕ)) (c : Change) → AreBytes fields → proposed_at fields ≡ Some c → IsTaken 11 fields body c
unfolding proposed_at
proposed_takes fields body c ok e =
    let peer = took u32_field fields [] fields c refl ok e in
    let deal = took u64_field fields (u32 peer.value) peer.rest c peer.whole peer.ok peer.gives in
    let kind = took u8_field fields (u32 peer.value ++ u64 deal.value) deal.rest c deal.whole deal.ok deal.gives in
    let what = bind_some (deal_by kind.value kind.rest) (λ what. Some (Proposed (record { peer = peer.value; deal = deal.value; what = what }))) c kind.gives in
    let h = deal_takes kind.value kind.rest what.0 kind.ok what.1 in
    let whole : fields ≡ u32 peer.value ++ u64 deal.value ++ deal_fields what.0 = kind.whole ∙ ap (λ (l : List ℕ). u32 peer.value ++ u64 deal.value ++ l) h.spelled in
    subst (λ (v : Change). IsTaken 11 fields body v) (some_is (Proposed (record { peer = peer.value; deal = deal.value; what = what.0 })) c what.2) (record { spelled = ap (λ (l : List ℕ). 11 ∷ l) whole; widths = both (both peer.fits deal.fits) h.fits; part = tt })

pub proposed_again : (peer deal : ℕ) (what : DealWhat) → fits_widths (Proposed (record { peer = peer; deal = deal; what = what })) ≡ true → what_in_grammar what ≡ true → proposed_at (u32 peer ++ u64 deal ++ deal_fields what) ≡ Some (Proposed (record { peer = peer; deal = deal; what = what }))
unfolding proposed_at u8_at
proposed_again peer deal what e g =
    let w = and_3 _ _ _ e in
    ap (λ (l : List ℕ). proposed_at (u32 peer ++ u64 deal ++ l)) (deal_parts what)
    ∙ gave u32_field _ peer (u64 deal ++ deal_kind what ∷ deal_rest what) w.0
    ∙ gave u64_field _ deal _ w.1
    ∙ ap (λ (r : Option DealWhat). r >>= λ what. Some (Proposed (record { peer = peer; deal = deal; what = what }))) (deal_again what w.2 g)
