-- The numbers of deals in a lawful history: each is used once, in turn; what is pending was proposed; and the last deal of
-- a peer was answered by the change that is noted.
use Rattle.std.proofs.Common.{◌≡◌, ◌⊎◌, inl, inr, ⊎_elim, ◌≤◌, ◌<◌, ℕ, zero, suc, ◌+◌, Bool, true, false, ◌&&◌, ◌==◌, nat_le, cond, slice_get, option_map, List, [], ◌∷◌, ◌++◌, length, Option, Some, None, refl, sym, ap, ap₂, subst, ◌∙◌, arith}
use Rattle.std.specs.List.{flat_map}
use Rattle.std.proofs.lemmas.Bool.{false≢true, and_parts, eqb-true, eq-eqb, leb-true, leb-false}
use Rattle.std.proofs.lemmas.List.{append-nil}
use Rattle.std.proofs.lemmas.Grind.{flat_map-append}
use Rattle.psb_model.specs.declared.deals.Deal.{Deal}
use Rattle.psb_model.specs.declared.deals.LastDeal.{LastDeal}
use Rattle.psb_model.specs.declared.deals.DealWhat.{DealWhat}
use Rattle.psb_model.specs.declared.change.Change.{Change}
use Rattle.psb_model.specs.declared.change.Change.TheVariants.{Begun, Proposed}
use Rattle.psb_model.specs.State.{Row, State, blank, row}
use Rattle.psb_model.specs.Grammar.{in_grammar}
use Rattle.psb_model.specs.Conditions.{allowed, is_begun, settings_of_body}
use Rattle.psb_model.specs.History.{state, is_lawful}
use Rattle.psb_model.proofs.ByObject.{by_cases}
use Rattle.psb_model.proofs.Prefixes.{state_snoc, changes_counted}
use Rattle.psb_model.proofs.Rows.{row_in-first_rows}
use Rattle.model_laws.specs.Finding.{Found, told_or, answers_to, answers_if, proposes_to, proposes_if, deal_answered, deal_ended, deal_proposed, answer, proposed}
use Rattle.model_laws.specs.Numbers.{up_to, number_with, numbered, numbers_answered, numbers_proposed, numbers_ended, number_pending, WasProposed, WasAnswered, AllAreNumbered}
use Rattle.model_laws.proofs.Growth.{begun_first, by_growth}
use Rattle.model_laws.proofs.Along.{found-grows, found-end, along_found, along_any, along_lawful}
use Rattle.model_laws.proofs.Noted.{IsNoted, noted, last_by, mine_by, ended_by, pending_by, proposes_next, answers_next, ends_pending}

-- each number is used up to the last one, and none past it
pub record IsNumbered (h : List Change) (p : ℕ) : Type 0 where
  pub none_proposed : (d : ℕ) → (row (state h) p).mine < d → proposed h p d ≡ None
  pub none_answered : (d : ℕ) → (row (state h) p).last.number < d → answer h p d ≡ None
  pub pending : (x : Deal) → (row (state h) p).pending ≡ Some x → (x.number ≡ (row (state h) p).mine) × WasProposed h p x
  pub answered : ((row (state h) p).last.number ≡ 0) ⊎ WasAnswered h p (row (state h) p).last
  pub numbers_answered_are : numbers_answered p h ≡ up_to (row (state h) p).last.number
  pub numbers_proposed_are : numbers_proposed p h ≡ up_to (row (state h) p).mine
  pub numbers_ended_are : numbers_ended p h ++ number_pending (row (state h) p).pending ≡ up_to (row (state h) p).mine

-- ---- one change more

differs : (a b : ℕ) → a < b → (a == b) ≡ false
differs a b less = by_cases (a == b) (λ k. absurd (omega (arith, eqb-true a b k, less))) (λ k. k)

-- a number that comes is not one past it
past_mine : (o : Option (ℕ × Deal)) (p d old : ℕ) → ((x : ℕ × Deal) → o ≡ Some x → (x.0 == p) ≡ true → x.1.number ≡ old + 1) → mine_by o p old < d → (old < d) × (proposes_if p d o ≡ None)
past_mine None p d old next less = (less, refl)
past_mine (Some x) p d old next less =
    by_cases (x.0 == p)
    (λ k. let less' : x.1.number < d = rw k at less in
    let one = next x refl k in
    (omega (arith, one, less'), rw (k, differs x.1.number d less') refl))
    (λ k. let less' : old < d = rw k at less in (less', rw k refl))

past_last : (c : Change) (o : Option (ℕ × ℕ)) (p d n : ℕ) (old : LastDeal) → ((x : ℕ × ℕ) → o ≡ Some x → (x.0 == p) ≡ true → x.1 ≡ old.number + 1) → (last_by o p n old).number < d → (old.number < d) × (answers_if p d c o ≡ None)
past_last c None p d n old next less = (less, refl)
past_last c (Some x) p d n old next less =
    by_cases (x.0 == p)
    (λ k. let less' : x.1 < d = rw k at less in
    let one = next x refl k in
    (omega (arith, one, less'), rw (k, differs x.1 d less') refl))
    (λ k. let less' : old.number < d = rw k at less in (less', rw k refl))

-- what is still pending was so before, and did not end
pub ended_still : (o : Option (ℕ × ℕ)) (p : ℕ) (old : Option Deal) (x : Deal) → ended_by o p old ≡ Some x → (old ≡ Some x) × (ended_by o p (Some x) ≡ Some x)
ended_still None p old x h = (h, refl)
ended_still (Some z) p old x h =
    by_cases (z.0 == p)
    (λ k. let bad : None ≡ Some x = rw k at h in absurd (cc (bad)))
    (λ k. let h' : old ≡ Some x = rw k at h in (h', rw k refl))

pub proposed_is : (c : Change) (y : ℕ × Deal) → deal_proposed c ≡ Some y → Proposed (record { peer = y.0; deal = y.1.number; what = y.1.what }) ≡ c
proposed_is (Proposed x) y is = let same : (x.peer, record { number = x.deal; what = x.what }) ≡ y = cc (is) in ap (λ (z : ℕ × Deal). Proposed (record { peer = z.0; deal = z.1.number; what = z.1.what })) (sym same)
proposed_is _ y is = absurd (cc (is))

pub get_front : {A : Type 0} (l : List A) (k : ℕ) (x y : A) → slice_get l k ≡ Some x → slice_get (l ++ y ∷ []) k ≡ Some x
get_front [] k x y h = absurd (cc)
get_front (z ∷ l) zero x y h = h
get_front (z ∷ l) (suc k) x y h = get_front l k x y h

pub get_end : {A : Type 0} (l : List A) (y : A) → slice_get (l ++ y ∷ []) (length l) ≡ Some y
get_end [] y = refl
get_end (z ∷ l) y = get_end l y

-- a deal that was pending before
pends_on : (h : List Change) (c : Change) (p : ℕ) (x : Deal) → WasProposed h p x → WasProposed (h ++ c ∷ []) p x
pends_on h c p x q = record { there = q.there; is = found-grows (proposes_to p x.number) h (c ∷ []) q.there q.is; what = q.what }

-- one that is proposed now
pub proposed_end : (h : List Change) (p : ℕ) (x : Deal) → proposed h p x.number ≡ None → proposed (h ++ Proposed (record { peer = p; deal = x.number; what = x.what }) ∷ []) p x.number ≡ Some (record { before = h; what = x.what })
proposed_end h p x none = found-end (proposes_to p x.number) h (Proposed (record { peer = p; deal = x.number; what = x.what })) none ∙ rw (eq-eqb p p refl, eq-eqb x.number x.number refl) refl

pends_new : (h : List Change) (p : ℕ) (x : Deal) → proposed h p x.number ≡ None → WasProposed (h ++ Proposed (record { peer = p; deal = x.number; what = x.what }) ∷ []) p x
pends_new h p x none = record { there = record { before = h; what = x.what }; is = proposed_end h p x none; what = refl }

answered_on : (h : List Change) (c : Change) (p : ℕ) (last : LastDeal) → WasAnswered h p last → WasAnswered (h ++ c ∷ []) p last
answered_on h c p last l = record { there = l.there; is = found-grows (answers_to p last.number) h (c ∷ []) l.there l.is; at = get_front h last.change l.there.what c l.at }

pub answer_end : (h : List Change) (c : Change) (p number : ℕ) → deal_answered c ≡ Some (p, number) → answer h p number ≡ None → answer (h ++ c ∷ []) p number ≡ Some (record { before = h; what = c })
answer_end h c p number is none = found-end (answers_to p number) h c none ∙ ap (λ (o : Option (ℕ × ℕ)). told_or h None (answers_if p number c o)) is ∙ rw (eq-eqb p p refl, eq-eqb number number refl) refl

answered_new : (h : List Change) (c : Change) (p number : ℕ) → deal_answered c ≡ Some (p, number) → answer h p number ≡ None → WasAnswered (h ++ c ∷ []) p (record { number = number; change = (state h).changes })
answered_new h c p number is none = record {
  there = record { before = h; what = c };
  is = answer_end h c p number is none;
  at = ap (λ (n : ℕ). slice_get (h ++ c ∷ []) n) (changes_counted h) ∙ get_end h c;
}

-- ---- the numbers as lists

listed_snoc : (f : Change → List ℕ) (h : List Change) (c : Change) → flat_map f (h ++ c ∷ []) ≡ flat_map f h ++ f c
listed_snoc f h c = flat_map-append f h (c ∷ []) ∙ ap (λ l. flat_map f h ++ l) (append-nil (f c))

one_more : (n m : ℕ) → m ≡ n + 1 → up_to n ++ m ∷ [] ≡ up_to m
one_more n m is =
    let next : suc n ≡ m = omega (arith, is) in
    subst (λ (k : ℕ). up_to n ++ k ∷ [] ≡ up_to k) next (ap (λ (k : ℕ). up_to n ++ k ∷ []) (omega arith))

pub numbered_after : (h : List Change) (c : Change) (p : ℕ) → allowed (state h) c ≡ true → is_begun c ≡ false → IsNumbered h p → IsNumbered (h ++ c ∷ []) p
numbered_after h c p m b n = record {
  none_proposed = λ d less.
      let past = past_mine (deal_proposed c) p d (row (state h) p).mine next_own (subst (λ (k : ℕ). k < d) k.mine less) in
      found-end (proposes_to p d) h c (n.none_proposed d past.0) ∙ ap (told_or h None) past.1;
  none_answered = λ d less.
      let past = past_last c (deal_answered c) p d (state h).changes (row (state h) p).last next_last (subst (λ (l : LastDeal). l.number < d) k.last less) in
      found-end (answers_to p d) h c (n.none_answered d past.0) ∙ ap (told_or h None) past.1;
  pending = λ x is. by_proposed x (deal_proposed c) refl (sym k.pending ∙ is);
  answered = subst (λ (l : LastDeal). (l.number ≡ 0) ⊎ WasAnswered (h ++ c ∷ []) p l) (sym k.last) (by_answered (deal_answered c) refl);
  numbers_answered_are = listed_snoc (λ (d : Change). number_with p (deal_answered d)) h c ∙ ap (λ l. l ++ number_with p (deal_answered c)) n.numbers_answered_are ∙ answered_list (deal_answered c) refl;
  numbers_proposed_are = listed_snoc (λ (d : Change). number_with p (option_map numbered (deal_proposed d))) h c ∙ ap (λ l. l ++ number_with p (option_map numbered (deal_proposed c))) n.numbers_proposed_are ∙ proposed_list (deal_proposed c) refl;
  numbers_ended_are = ap (λ l. l ++ number_pending (row (state (h ++ c ∷ [])) p).pending) (listed_snoc (λ (d : Change). number_with p (deal_ended d)) h c)
      ∙ ap (λ o. (numbers_ended p h ++ number_with p (deal_ended c)) ++ number_pending o) k.pending
      ∙ ended_list (deal_proposed c) refl (deal_ended c) refl
      ∙ ap up_to (sym k.mine);
}
  where
    k : IsNoted (state h) c p (row (state (h ++ c ∷ [])) p)
    k = subst (λ (t : State). IsNoted (state h) c p (row t p)) (sym (state_snoc h c)) (noted (state h) c p m b)

    next_own : (x : ℕ × Deal) → deal_proposed c ≡ Some x → (x.0 == p) ≡ true → x.1.number ≡ (row (state h) p).mine + 1
    next_own x is t = (proposes_next (state h) c x m is).number ∙ ap (λ q. (row (state h) q).mine + 1) (eqb-true x.0 p t)

    next_last : (x : ℕ × ℕ) → deal_answered c ≡ Some x → (x.0 == p) ≡ true → x.1 ≡ (row (state h) p).last.number + 1
    next_last x is t = answers_next (state h) c x m is ∙ ap (λ q. (row (state h) q).last.number + 1) (eqb-true x.0 p t)

    IsStillPending : Deal → Type 0
    IsStillPending x = (x.number ≡ (row (state (h ++ c ∷ [])) p).mine) × WasProposed (h ++ c ∷ []) p x

    last_is : (o : Option (ℕ × ℕ)) → deal_answered c ≡ o → (row (state (h ++ c ∷ [])) p).last.number ≡ (last_by o p (state h).changes (row (state h) p).last).number
    last_is o e = ap (λ (l : LastDeal). l.number) (k.last ∙ ap (λ (o : Option (ℕ × ℕ)). last_by o p (state h).changes (row (state h) p).last) e)

    mine_is : (o : Option (ℕ × Deal)) → deal_proposed c ≡ o → (row (state (h ++ c ∷ [])) p).mine ≡ mine_by o p (row (state h) p).mine
    mine_is o e = k.mine ∙ ap (λ (o : Option (ℕ × Deal)). mine_by o p (row (state h) p).mine) e

    answered_list : (o : Option (ℕ × ℕ)) → deal_answered c ≡ o → up_to (row (state h) p).last.number ++ number_with p o ≡ up_to (row (state (h ++ c ∷ [])) p).last.number
    answered_list None e = append-nil (up_to (row (state h) p).last.number) ∙ ap up_to (sym (last_is None e))
    answered_list (Some x) e = by_cases (x.0 == p)
        (λ t. rw t (one_more (row (state h) p).last.number x.1 (next_last x e t)) ∙ ap up_to (sym (last_is (Some x) e ∙ ap (λ (v : Bool). (cond v (record { number = x.1; change = (state h).changes }) (row (state h) p).last).number) t)))
        (λ t. rw t (append-nil (up_to (row (state h) p).last.number)) ∙ ap up_to (sym (last_is (Some x) e ∙ ap (λ (v : Bool). (cond v (record { number = x.1; change = (state h).changes }) (row (state h) p).last).number) t)))

    proposed_list : (o : Option (ℕ × Deal)) → deal_proposed c ≡ o → up_to (row (state h) p).mine ++ number_with p (option_map numbered o) ≡ up_to (row (state (h ++ c ∷ [])) p).mine
    proposed_list None e = append-nil (up_to (row (state h) p).mine) ∙ ap up_to (sym (mine_is None e))
    proposed_list (Some x) e = by_cases (x.0 == p)
        (λ t. rw t (one_more (row (state h) p).mine x.1.number (next_own x e t)) ∙ ap up_to (sym (mine_is (Some x) e ∙ ap (λ (v : Bool). cond v x.1.number (row (state h) p).mine) t)))
        (λ t. rw t (append-nil (up_to (row (state h) p).mine)) ∙ ap up_to (sym (mine_is (Some x) e ∙ ap (λ (v : Bool). cond v x.1.number (row (state h) p).mine) t)))

    -- what ends was pending, and what is proposed comes where none was
    ended_list : (o : Option (ℕ × Deal)) → deal_proposed c ≡ o → (z : Option (ℕ × ℕ)) → deal_ended c ≡ z → (numbers_ended p h ++ number_with p z) ++ number_pending (pending_by o z p (row (state h) p).pending) ≡ up_to (mine_by o p (row (state h) p).mine)
    ended_list None e None e' = ap (λ l. l ++ number_pending (row (state h) p).pending) (append-nil (numbers_ended p h)) ∙ n.numbers_ended_are
    ended_list None e (Some z) e' = by_cases (z.0 == p)
        (λ t. let was = subst (λ q. (row (state h) q).pending ≡ Some (ends_pending (state h) c z m e').deal) (eqb-true z.0 p t) (ends_pending (state h) c z m e').pending in
        rw t (append-nil (numbers_ended p h ++ z.1 ∷ []) ∙ ap (λ (a : ℕ). numbers_ended p h ++ a ∷ []) (sym (ends_pending (state h) c z m e').number) ∙ ap (λ (o : Option Deal). numbers_ended p h ++ number_pending o) (sym was) ∙ n.numbers_ended_are))
        (λ t. rw t (ap (λ l. l ++ number_pending (row (state h) p).pending) (append-nil (numbers_ended p h)) ∙ n.numbers_ended_are))
    ended_list (Some x) e (Some z) e' = absurd (cc (sym e' ∙ ap deal_ended (sym (proposed_is c x e))))
    ended_list (Some x) e None e' = by_cases (x.0 == p)
        (λ t. let idle = subst (λ q. (row (state h) q).pending ≡ None) (eqb-true x.0 p t) (proposes_next (state h) c x m e).idle in
        let before : numbers_ended p h ++ [] ≡ up_to (row (state h) p).mine = ap (λ (o : Option Deal). numbers_ended p h ++ number_pending o) (sym idle) ∙ n.numbers_ended_are in
        rw t (ap (λ l. l ++ x.1.number ∷ []) before ∙ one_more (row (state h) p).mine x.1.number (next_own x e t)))
        (λ t. rw t (ap (λ l. l ++ number_pending (row (state h) p).pending) (append-nil (numbers_ended p h)) ∙ n.numbers_ended_are))

    still : (x : Deal) → ended_by (deal_ended c) p (row (state h) p).pending ≡ Some x → (row (state (h ++ c ∷ [])) p).mine ≡ (row (state h) p).mine → IsStillPending x
    still x is mine = let q = n.pending x (ended_still (deal_ended c) p (row (state h) p).pending x is).0 in (q.0 ∙ sym mine, pends_on h c p x q.1)

    proposes_now : (x : Deal) (y : ℕ × Deal) → deal_proposed c ≡ Some y → (y.0 == p) ≡ true → Some y.1 ≡ Some x → IsStillPending x
    proposes_now x y e t is =
        let same : y.1 ≡ x = cc (is) in
        let here : Proposed (record { peer = p; deal = x.number; what = x.what }) ≡ c = sym (ap₂ (λ (q : ℕ) (z : Deal). Proposed (record { peer = q; deal = z.number; what = z.what })) (eqb-true y.0 p t) same) ∙ proposed_is c y e in
        let mine : (row (state (h ++ c ∷ [])) p).mine ≡ x.number = mine_is (Some y) e ∙ ap (λ v. cond v y.1.number (row (state h) p).mine) t ∙ ap (λ (z : Deal). z.number) same in
        let one : x.number ≡ (row (state h) p).mine + 1 = sym (ap (λ (z : Deal). z.number) same) ∙ next_own y e t in
        let none : proposed h p x.number ≡ None = n.none_proposed x.number (omega (arith, one)) in
        (sym mine, subst (λ (d : Change). WasProposed (h ++ d ∷ []) p x) here (pends_new h p x none))

    by_proposed : (x : Deal) (o : Option (ℕ × Deal)) → deal_proposed c ≡ o → pending_by o (deal_ended c) p (row (state h) p).pending ≡ Some x → IsStillPending x
    by_proposed x None e is = still x is (mine_is None e)
    by_proposed x (Some y) e is =
        by_cases (y.0 == p)
        (λ t. proposes_now x y e t (rw t at is))
        (λ t. let is' : (row (state h) p).pending ≡ Some x = rw t at is in
        let none : deal_ended c ≡ None = ap deal_ended (sym (proposed_is c y e)) in
        still x (ap (λ (o : Option (ℕ × ℕ)). ended_by o p (row (state h) p).pending) none ∙ is') (mine_is (Some y) e ∙ ap (λ v. cond v y.1.number (row (state h) p).mine) t))

    same_last : (((row (state h) p).last.number ≡ 0) ⊎ WasAnswered (h ++ c ∷ []) p (row (state h) p).last)
    same_last = ⊎_elim (λ z. inl z) (λ l. inr (answered_on h c p (row (state h) p).last l)) n.answered

    by_answered : (o : Option (ℕ × ℕ)) → deal_answered c ≡ o → ((last_by (deal_answered c) p (state h).changes (row (state h) p).last).number ≡ 0) ⊎ WasAnswered (h ++ c ∷ []) p (last_by (deal_answered c) p (state h).changes (row (state h) p).last)
    by_answered None e = rw e same_last
    by_answered (Some y) e =
        by_cases (y.0 == p)
        (λ t. let who : Some y ≡ Some (p, y.1) = ap (λ (q : ℕ). Some (q, y.1)) (eqb-true y.0 p t) in
        let none : answer h p y.1 ≡ None = n.none_answered y.1 (omega (arith, next_last y e t)) in
        rw (e, t) (inr (answered_new h c p y.1 (e ∙ who) none)))
        (λ t. rw (e, t) same_last)

-- ---- whole histories

numbered_none : (p : ℕ) → IsNumbered [] p
numbered_none p = record {
  none_proposed = λ d less. refl;
  none_answered = λ d less. refl;
  pending = λ x is. absurd (cc (is));
  answered = inl refl;
  numbers_answered_are = refl;
  numbers_proposed_are = refl;
  numbers_ended_are = refl;
}

numbered_first : (body : Option (List ℕ)) (p : ℕ) → IsNumbered (Begun (record { body = body }) ∷ []) p
numbered_first body p =
    let e : row (state (Begun (record { body = body }) ∷ [])) p ≡ blank = row_in-first_rows (settings_of_body body) p in
    record {
      none_proposed = λ d less. refl;
      none_answered = λ d less. refl;
      pending = λ x is. absurd (cc (ap (λ (r : Row). r.pending) (sym e) ∙ is));
      answered = inl (ap (λ (r : Row). r.last.number) e);
      numbers_answered_are = ap (λ (r : Row). up_to r.last.number) (sym e);
      numbers_proposed_are = ap (λ (r : Row). up_to r.mine) (sym e);
      numbers_ended_are = ap (λ (r : Row). number_pending r.pending) e ∙ ap (λ (r : Row). up_to r.mine) (sym e);
    }

begun_numbered : (h : List Change) (c : Change) (p : ℕ) → allowed (state h) c ≡ true → is_begun c ≡ true → IsNumbered (h ++ c ∷ []) p
begun_numbered h (Begun x) p m b = subst (λ l. IsNumbered (l ++ Begun x ∷ []) p) (sym (begun_first h (Begun x) m b)) (numbered_first x.body p)
begun_numbered h _ p m b = absurd (false≢true b)

pub numbered_state : (h : List Change) (p : ℕ) → is_lawful h ≡ true → IsNumbered h p
numbered_state h p v = by_growth (λ l. IsNumbered l p) (numbered_none p) (λ l c lawful grammar may n. by_cases (is_begun c) (λ b. begun_numbered l c p may b) (λ b. numbered_after l c p may b n)) h v

pub are_numbered : AllAreNumbered
are_numbered h p v =
    let n = numbered_state h p v in
    record { answered = n.numbers_answered_are; last = n.answered; proposed = n.numbers_proposed_are; ended = n.numbers_ended_are; pending = λ d is. (n.pending d is).1 }

-- ---- what the numbers say

-- a deal that was answered is not past the last, and one that was proposed is not past the last own one
pub answered_within : (h : List Change) (p number : ℕ) (there : Found Change) → IsNumbered h p → answer h p number ≡ Some there → number ≤ (row (state h) p).last.number
answered_within h p number there n is = by_cases (nat_le number (row (state h) p).last.number)
    (λ k. leb-true number (row (state h) p).last.number k)
    (λ k. let none : answer h p number ≡ None = n.none_answered number (leb-false number (row (state h) p).last.number k) in absurd (cc (sym is ∙ none)))

pub proposed_within : (h : List Change) (p number : ℕ) (there : Found DealWhat) → IsNumbered h p → proposed h p number ≡ Some there → number ≤ (row (state h) p).mine
proposed_within h p number there n is = by_cases (nat_le number (row (state h) p).mine)
    (λ k. leb-true number (row (state h) p).mine k)
    (λ k. let none : proposed h p number ≡ None = n.none_proposed number (leb-false number (row (state h) p).mine k) in absurd (cc (sym is ∙ none)))

-- what is found as an answer is the change itself
pub answers_itself : (p number : ℕ) (c d : Change) → answers_to p number c ≡ Some d → (deal_answered c ≡ Some (p, number)) × (c ≡ d)
answers_itself p number c d is = by_answered (deal_answered c) refl is
  where
    by_answered : (o : Option (ℕ × ℕ)) → deal_answered c ≡ o → answers_if p number c o ≡ Some d → (deal_answered c ≡ Some (p, number)) × (c ≡ d)
    by_answered None e h = absurd (cc (h))
    by_answered (Some x) e h = by_cases (x.0 == p && x.1 == number)
        (λ k. let two = and_parts (x.0 == p) (x.1 == number) k in
        (e ∙ ap₂ (λ (a b : ℕ). Some (a, b)) (eqb-true x.0 p two.0) (eqb-true x.1 number two.1), cc (ap (λ (b : Bool). cond b (Some c) None) (sym k) ∙ h)))
        (λ k. let bad : None ≡ Some d = ap (λ (b : Bool). cond b (Some c) None) (sym k) ∙ h in absurd (cc (bad)))

pub answer_whose : (h : List Change) (p number : ℕ) (there : Found Change) → answer h p number ≡ Some there → deal_answered there.what ≡ Some (p, number)
answer_whose h p number there is =
    let at = along_found (λ b c. Unit {0}) (answers_to p number) [] h there (along_any [] h) is in
    let self = answers_itself p number at.change there.what at.told in
    subst (λ c. deal_answered c ≡ Some (p, number)) self.1 self.0

-- it was lawful where it stands
pub record IsAnswer (h : List Change) (p number : ℕ) (there : Found Change) : Type 0 where
  pub whose : deal_answered there.what ≡ Some (p, number)
  pub grammar : in_grammar there.what ≡ true
  pub may : allowed (state there.before) there.what ≡ true

pub answer_is : (h : List Change) (p number : ℕ) (there : Found Change) → is_lawful h ≡ true → answer h p number ≡ Some there → IsAnswer h p number there
answer_is h p number there v is =
    let at = along_found (λ b c. (in_grammar c ≡ true) × (allowed (state b) c ≡ true)) (answers_to p number) [] h there (along_lawful [] h v) is in
    let self = answers_itself p number at.change there.what at.told in
    record {
      whose = answer_whose h p number there is;
      grammar = subst (λ c. in_grammar c ≡ true) self.1 at.holds.0;
      may = subst (λ c. allowed (state there.before) c ≡ true) self.1 at.holds.1;
    }

-- a deal that is pending after a change was so before, or has a new number
pub pending_from : (s : State) (c : Change) (p : ℕ) (r : Row) (d : Deal) → IsNoted s c p r → allowed s c ≡ true → r.pending ≡ Some d → ((row s p).pending ≡ Some d) ⊎ (d.number ≡ (row s p).mine + 1)
pending_from s c p r d k m is = by_proposed (deal_proposed c) refl (sym k.pending ∙ is)
  where
    by_proposed : (o : Option (ℕ × Deal)) → deal_proposed c ≡ o → pending_by o (deal_ended c) p (row s p).pending ≡ Some d → ((row s p).pending ≡ Some d) ⊎ (d.number ≡ (row s p).mine + 1)
    by_proposed None e h = inl (ended_still (deal_ended c) p (row s p).pending d h).0
    by_proposed (Some y) e h = by_cases (y.0 == p)
        (λ t. let same : y.1 ≡ d = cc (ap (λ (b : Bool). cond b (Some y.1) (row s p).pending) (sym t) ∙ h) in
        inr (sym (ap (λ (z : Deal). z.number) same) ∙ (proposes_next s c y m e).number ∙ ap (λ q. (row s q).mine + 1) (eqb-true y.0 p t)))
        (λ t. inl (ap (λ (b : Bool). cond b (Some y.1) (row s p).pending) (sym t) ∙ h))
