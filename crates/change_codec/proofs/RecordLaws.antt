-- Records: what is read from one is its change, and each change is read from its record.
use Rattle.std.proofs.Common.{◌≡◌, ℕ, suc, Bool, true, false, ◌||◌, eqb, List, [], ◌∷◌, Option, Some, None, Result, Ok, Err, refl, ap, sym, ◌∙◌, subst}
use Rattle.std.specs.Prelude.{⊤, MatchBool, unwrap_or, IfOk, IfErr}
use Rattle.std.proofs.lemmas.Bool.{and_parts, eqb-true}
use Rattle.psb_bytes.specs.Numbers.{AreBytes}
use Rattle.psb_model.specs.declared.change.Change.{Change}
use Rattle.psb_model.specs.declared.change.Change.TheVariants.{Begun, Kept, Snapped, Forgot, TookFresh, TookSwap, LetGo, LetGoBack, Replaced, Refused, Proposed, Settled, Turned, Asked, Passed, Failed, Declined, Discarded, Chose}
use Rattle.psb_model.specs.Heads.{head_of, body_of}
use Rattle.psb_model.specs.Grammar.{is_u8, are_bytes, in_grammar, fits_widths}
use Rattle.byte_fields.proofs.FieldLaws.{are_bytes_is}
use Rattle.std.specs.List.{list_all}
use Rattle.byte_fields.proofs.Found.{bind_some, then_some, some_is}
use Rattle.change_codec.specs.declared.decode.ChangeError.{ChangeError}
use Rattle.change_codec.specs.declared.decode.ChangeError.TheVariants.{BadHead, Memory}
use Rattle.change_codec.specs.Records.{has_body, IsRead, NoneIsRead, OneChangeEach}
use Rattle.change_codec.specs.Reading.{begun_at, change_by, is_empty, goes_with, if_it_goes, Answers, read_change}
use Rattle.change_codec.proofs.Taking.{chosen}
use Rattle.change_codec.proofs.KindLaws.{IsTaken, begun_takes, kept_takes, kept_again, snapped_takes, snapped_again, forgot_takes, forgot_again, took_fresh_takes, took_fresh_again, took_swap_takes, took_swap_again, let_go_takes, let_go_again, let_go_back_takes, let_go_back_again, replaced_takes, replaced_again, refused_takes, refused_again, proposed_takes, proposed_again, settled_takes, settled_again, turned_takes, turned_again, asked_takes, asked_again, passed_takes, passed_again, failed_takes, failed_again, declined_takes, declined_again, discarded_takes, discarded_again, chose_takes, chose_again}

-- ---- what is read

at_kind : (kind n : ℕ) (fields : List ℕ) (body : Option (List ℕ)) (c : Change) → eqb kind n ≡ true → IsTaken n fields body c → IsTaken kind fields body c
at_kind kind n fields body c t h = subst (λ (k : ℕ). IsTaken k fields body c) (sym (eqb-true kind n t)) h

change_takes : (kind : ℕ) (fields : List ℕ) (body : Option (List ℕ)) (c : Change) → AreBytes fields → are_bytes body ≡ true → change_by kind fields body ≡ Some c → IsTaken kind fields body c
unfolding change_by
change_takes kind fields body c ok okb e =
    chosen (eqb kind 1) _ _ c (λ t h. at_kind kind 1 fields body c t (begun_takes fields body c ok okb h)) (λ _ e.
    chosen (eqb kind 2) _ _ c (λ t h. at_kind kind 2 fields body c t (kept_takes fields body c ok okb h)) (λ _ e.
    chosen (eqb kind 3) _ _ c (λ t h. at_kind kind 3 fields body c t (snapped_takes fields body c ok h)) (λ _ e.
    chosen (eqb kind 4) _ _ c (λ t h. at_kind kind 4 fields body c t (forgot_takes fields body c ok h)) (λ _ e.
    chosen (eqb kind 5) _ _ c (λ t h. at_kind kind 5 fields body c t (took_fresh_takes fields body c ok okb h)) (λ _ e.
    chosen (eqb kind 6) _ _ c (λ t h. at_kind kind 6 fields body c t (took_swap_takes fields body c ok okb h)) (λ _ e.
    chosen (eqb kind 7) _ _ c (λ t h. at_kind kind 7 fields body c t (let_go_takes fields body c ok h)) (λ _ e.
    chosen (eqb kind 8) _ _ c (λ t h. at_kind kind 8 fields body c t (let_go_back_takes fields body c ok okb h)) (λ _ e.
    chosen (eqb kind 9) _ _ c (λ t h. at_kind kind 9 fields body c t (replaced_takes fields body c ok okb h)) (λ _ e.
    chosen (eqb kind 10) _ _ c (λ t h. at_kind kind 10 fields body c t (refused_takes fields body c ok h)) (λ _ e.
    chosen (eqb kind 11) _ _ c (λ t h. at_kind kind 11 fields body c t (proposed_takes fields body c ok h)) (λ _ e.
    chosen (eqb kind 12) _ _ c (λ t h. at_kind kind 12 fields body c t (settled_takes fields body c ok okb h)) (λ _ e.
    chosen (eqb kind 13) _ _ c (λ t h. at_kind kind 13 fields body c t (turned_takes fields body c ok h)) (λ _ e.
    chosen (eqb kind 14) _ _ c (λ t h. at_kind kind 14 fields body c t (asked_takes fields body c ok h)) (λ _ e.
    chosen (eqb kind 15) _ _ c (λ t h. at_kind kind 15 fields body c t (passed_takes fields body c ok h)) (λ _ e.
    chosen (eqb kind 16) _ _ c (λ t h. at_kind kind 16 fields body c t (failed_takes fields body c ok h)) (λ _ e.
    chosen (eqb kind 17) _ _ c (λ t h. at_kind kind 17 fields body c t (declined_takes fields body c ok h)) (λ _ e.
    chosen (eqb kind 18) _ _ c (λ t h. at_kind kind 18 fields body c t (discarded_takes fields body c ok h)) (λ _ e.
    chosen (eqb kind 19) _ _ c (λ t h. at_kind kind 19 fields body c t (chose_takes fields body c ok h)) (λ _ e. absurd cc)
    e) e) e) e) e) e) e) e) e) e) e) e) e) e) e) e) e) e) e

nothing : (bytes : List ℕ) → is_empty bytes ≡ true → bytes ≡ []
nothing [] e = refl
nothing (b ∷ bytes) e = absurd cc

-- a body part is the change's, or is none
part_is : (P : Type 0) (has : Bool) (body : Option (List ℕ)) → MatchBool has P ⊤ → (has || is_empty (unwrap_or body [])) ≡ true → MatchBool has P (unwrap_or body [] ≡ [])
part_is P true body h e = h
part_is P false body h e = nothing (unwrap_or body []) e

pub takes : (head : List ℕ) (body : Option (List ℕ)) (c : Change) → AreBytes head → are_bytes body ≡ true → read_change head body ≡ Some c → IsRead c head body
unfolding read_change
takes [] body c ok okb e = absurd cc
takes (kind ∷ fields) body c ok okb e =
    let b = bind_some (change_by kind fields body) (λ c. if_it_goes (unwrap_or body []) c) c e in
    let g = then_some (goes_with (unwrap_or body []) b.0) (Some b.0) c b.2 in
    let same : b.0 ≡ c = some_is b.0 c g.1 in
    let p = and_parts (in_grammar b.0) (has_body b.0 || is_empty (unwrap_or body [])) g.0 in
    let t = change_takes kind fields body b.0 (λ i. ok (suc i)) okb b.1 in
    subst (λ (d : Change). IsRead d (kind ∷ fields) body) same (record { grammar = p.0; widths = t.widths; stands = record { head_is = t.spelled; body_is = part_is _ (has_body b.0) body t.part p.1 } })

-- ---- what is spelled

no_part : (body : Option (List ℕ)) → unwrap_or body [] ≡ [] → is_empty (unwrap_or body []) ≡ true
no_part body e = ap is_empty e

-- a change that its fields give, and that goes with the body part
goes : (kind : ℕ) (fields : List ℕ) (body : Option (List ℕ)) (c : Change) → change_by kind fields body ≡ Some c → in_grammar c ≡ true → (has_body c || is_empty (unwrap_or body [])) ≡ true → read_change (kind ∷ fields) body ≡ Some c
unfolding read_change
goes kind fields body c e g b = rw (e, g, b) refl

-- the body part is the one that the change has
with_part : (head : List ℕ) (body part : Option (List ℕ)) (c : Change) → body ≡ part → read_change head part ≡ Some c → read_change head body ≡ Some c
with_part head body part c e h = subst (λ (b : Option (List ℕ)). read_change head b ≡ Some c) (sym e) h

pub again : (c : Change) (body : Option (List ℕ)) → in_grammar c ≡ true → fits_widths c ≡ true → MatchBool (has_body c) (body ≡ body_of c) (unwrap_or body [] ≡ []) → read_change (head_of c) body ≡ Some c
unfolding change_by begun_at
again (Begun x) body g e s = with_part _ body x.body _ s (goes 1 [] x.body (Begun x) refl g refl)
again (Kept x) body g e s = with_part _ body x.body _ s (goes 2 _ x.body (Kept x) (kept_again x.name x.len x.new x.body e) g refl)
again (Snapped x) body g e s = goes 3 _ body (Snapped x) (snapped_again x.number x.ticket x.files x.folders x.bytes x.left x.names e (and_parts _ _ g).1) g (no_part body s)
again (Forgot x) body g e s = goes 4 _ body (Forgot x) (forgot_again x.number e) g (no_part body s)
again (TookFresh x) body g e s = with_part _ body x.body _ s (goes 5 _ x.body (TookFresh x) (took_fresh_again x.peer x.deal x.name x.first x.len x.new x.body e) g refl)
again (TookSwap x) body g e s = with_part _ body x.body _ s (goes 6 _ x.body (TookSwap x) (took_swap_again x.peer x.deal x.name x.slots x.len x.new x.body e (and_parts _ _ (and_parts _ _ g).1).1) g refl)
again (LetGo x) body g e s = goes 7 _ body (LetGo x) (let_go_again x.peer x.deal x.name x.slots e (and_parts _ _ g).1) g (no_part body s)
again (LetGoBack x) body g e s = with_part _ body x.body _ s (goes 8 _ x.body (LetGoBack x) (let_go_back_again x.peer x.deal x.name x.slots x.body e (and_parts _ _ (and_parts _ _ g).1).1) g refl)
again (Replaced x) body g e s = with_part _ body x.body _ s (goes 9 _ x.body (Replaced x) (replaced_again x.peer x.deal x.slot x.place x.home x.body e) g refl)
again (Refused x) body g e s = goes 10 _ body (Refused x) (refused_again x.peer x.deal x.why x.detail e) g (no_part body s)
again (Proposed y) body g e s = goes 11 _ body (Proposed y) (proposed_again y.peer y.deal y.what e g) g (no_part body s)
again (Settled x) body g e s = with_part _ body x.body _ s (goes 12 _ x.body (Settled x) (settled_again x.peer x.deal x.slots x.body e (and_parts _ _ (and_parts _ _ g).1).1) g refl)
again (Turned x) body g e s = goes 13 _ body (Turned x) (turned_again x.peer x.deal x.why x.detail e) g (no_part body s)
again (Asked x) body g e s = goes 14 _ body (Asked x) (asked_again x.peer x.objects e (and_parts _ _ g).1) g (no_part body s)
again (Passed x) body g e s = goes 15 _ body (Passed x) (passed_again x.peer x.asked x.objects e (and_parts _ _ g).1) g (no_part body s)
again (Failed x) body g e s = goes 16 _ body (Failed x) (failed_again x.peer x.asked x.how x.got x.objects e (and_parts _ _ g).1) g (no_part body s)
again (Declined x) body g e s = goes 17 _ body (Declined x) (declined_again x.peer x.asked x.places e (and_parts _ _ g).1) g (no_part body s)
again (Discarded x) body g e s = goes 18 _ body (Discarded x) (discarded_again x.peer x.objects e (and_parts _ _ g).1) g (no_part body s)
again (Chose x) body g e s = goes 19 _ body (Chose x) (chose_again x.candidates e g) g (no_part body s)

pub read_again : (c : Change) (head : List ℕ) (body : Option (List ℕ)) → IsRead c head body → read_change head body ≡ Some c
read_again c head body h = ap (λ (l : List ℕ). read_change l body) h.stands.head_is ∙ again c body h.grammar h.widths h.stands.body_is

pub one_change : OneChangeEach
one_change c d head body g g' w w' h h' = some_is c d (sym (read_again c head body (record { grammar = g; widths = w; stands = h })) ∙ read_again d head body (record { grammar = g'; widths = w'; stands = h' }))

-- ---- what a reader answers

pub answers_ok : (r : Result Change ChangeError) (head : List ℕ) (body : Option (List ℕ)) → AreBytes head → are_bytes body ≡ true → Answers r (read_change head body) → IfOk r (λ c. IsRead c head body)
answers_ok (Ok c) head body ok okb e = takes head body c ok okb e
answers_ok (Err e') head body ok okb e = tt

pub answers_bad : (r : Result Change ChangeError) (head : List ℕ) (body : Option (List ℕ)) → Answers r (read_change head body) → IfErr r (λ e. e ≡ BadHead → NoneIsRead head body)
answers_bad (Ok c) head body e = tt
answers_bad (Err BadHead) head body e = λ _ c h. let there = read_again c head body h in absurd cc
answers_bad (Err Memory) head body e = λ h. absurd cc

-- the bytes of a body part
pub all_bytes : (bytes : List ℕ) → AreBytes bytes → list_all is_u8 bytes ≡ true
all_bytes bytes h = are_bytes_is bytes h

pub part_bytes : (body : Option (List ℕ)) (part : List ℕ) → part ≡ unwrap_or body [] → AreBytes part → are_bytes body ≡ true
part_bytes None part e h = refl
part_bytes (Some bytes) part e h = all_bytes bytes (subst AreBytes e h)
