-- A chunk that is discarded, behind the change that took it.
use Rattle.std.proofs.Common.{◌≡◌, ℕ, true, ◌==◌, List, [], ◌∷◌, ◌++◌, Option, Some, None, refl, sym, ap, subst, ◌∙◌, append_assoc}
use Rattle.std.proofs.lemmas.Bool.{false≢true, eqb-true, and_parts}
use Rattle.psb_bytes.specs.declared.ids.Object.{Object}
use Rattle.psb_bytes.specs.declared.ids.Object.TheVariants.{Chunk}
use Rattle.psb_model.specs.declared.change.Change.{Change}
use Rattle.psb_model.specs.declared.change.Change.TheVariants.{Discarded}
use Rattle.psb_model.specs.Words.{listed}
use Rattle.psb_model.specs.Grammar.{in_grammar}
use Rattle.psb_model.specs.Conditions.{allowed}
use Rattle.psb_model.specs.History.{state, is_lawful}
use Rattle.psb_model.proofs.Prefixes.{lawful_snoc}
use Rattle.model_laws.specs.Finding.{Found, told_or, found_from, answers_to, answer}
use Rattle.model_laws.specs.Following.{HasFailure}
use Rattle.model_laws.proofs.Following.{discards_follow}
use Rattle.model_laws.proofs.Numbered.{answers_itself}
use Rattle.agreement.specs.Agreeing.{IsDiscarded}
use Rattle.placing_laws.proofs.Ins.{discards_it}

-- ---- the change that answered a deal is in the history

record Behind (h : List Change) (t : Found Change) : Type 0 where
  between : List Change
  parts : h ≡ t.before ++ t.what ∷ between

behind_from : (p number : ℕ) (before h : List Change) (t : Found Change) → found_from (answers_to p number) before h ≡ Some t → Behind (before ++ h) t
behind_from p number before [] t is = absurd (cc (is))
behind_from p number before (c ∷ cs) t is = by_told (behind_from p number (before ++ c ∷ []) cs t) (answers_to p number c) refl is
  where
    by_told : (found_from (answers_to p number) (before ++ c ∷ []) cs ≡ Some t → Behind ((before ++ c ∷ []) ++ cs) t) → (o : Option Change) → answers_to p number c ≡ o → told_or before (found_from (answers_to p number) (before ++ c ∷ []) cs) o ≡ Some t → Behind (before ++ c ∷ cs) t
    by_told rest None e h = let r = rest h in record { between = r.between; parts = sym (append_assoc before (c ∷ []) cs) ∙ r.parts }
    by_told rest (Some d) e h =
        let same : record { before = before; what = d } ≡ t = cc (h) in
        subst (Behind (before ++ c ∷ cs)) same (record { between = cs; parts = ap (λ (x : Change). before ++ x ∷ cs) (answers_itself p number c d e).1 })

-- ---- a change that discards the chunk

pub record DiscardsNow (c : Change) (p : ℕ) (n : List ℕ) : Type 0 where
  pub objects : List Object
  pub is : c ≡ Discarded (record { peer = p; objects = objects })
  pub lists : listed objects (Chunk n) ≡ true

pub discards_now : (c : Change) (p : ℕ) (n : List ℕ) → discards_it c p n ≡ true → DiscardsNow c p n
discards_now (Discarded x) p n k =
    let two = and_parts (x.peer == p) (listed x.objects (Chunk n)) k in
    record { objects = x.objects; is = ap (λ (q : ℕ). Discarded (record { peer = q; objects = x.objects })) (eqb-true x.peer p two.0); lists = two.1 }
discards_now _ p n k = absurd (false≢true k)

-- comes behind the one that took it, and behind a failure of the peer
pub discarded_now : (p number : ℕ) (h : List Change) (c : Change) (n : List ℕ) (t : Found Change) → is_lawful h ≡ true → in_grammar c ≡ true → allowed (state h) c ≡ true → answer h p number ≡ Some t → DiscardsNow c p n → IsDiscarded p (h ++ c ∷ []) n t
discarded_now p number h c n t lawful grammar may answered d =
    let b = behind_from p number [] h t answered in
    let whole : is_lawful (h ++ c ∷ []) ≡ true = lawful_snoc h c ∙ rw (lawful, grammar, may) refl in
    let failed : HasFailure h p = discards_follow h [] p d.objects (ap (λ (x : Change). is_lawful (h ++ x ∷ [])) (sym d.is) ∙ whole) in
    record {
      between = b.between;
      objects = d.objects;
      later = [];
      parts = ap (λ (x : Change). h ++ x ∷ []) d.is ∙ ap (λ (l : List Change). l ++ Discarded (record { peer = p; objects = d.objects }) ∷ []) b.parts;
      lists = d.lists;
      failed = subst (λ (l : List Change). HasFailure l p) b.parts failed;
    }

-- and stays there
pub discarded_on : (p : ℕ) (h : List Change) (c : Change) (n : List ℕ) (t : Found Change) → IsDiscarded p h n t → IsDiscarded p (h ++ c ∷ []) n t
discarded_on p h c n t d = record {
  between = d.between;
  objects = d.objects;
  later = d.later ++ c ∷ [];
  parts = ap (λ (l : List Change). l ++ c ∷ []) d.parts ∙ append_assoc (t.before ++ t.what ∷ d.between) (Discarded (record { peer = p; objects = d.objects }) ∷ d.later) (c ∷ []);
  lists = d.lists;
  failed = d.failed;
}
