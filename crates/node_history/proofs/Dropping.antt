-- Names from whose owners one is taken.
use Rattle.std.proofs.Common.{◌≡◌, ◌⊎◌, inl, inr, ℕ, ◌+◌, ◌<◌, Bool, true, false, not, ◌||◌, ◌&&◌, ◌↔◌, cond, List, [], ◌∷◌, ◌++◌, length, take, get_or, None, Result, Ok, Err, IfOk, OnOk, OnErr, refl, sym, ◌∙◌, ap, subst}
use Rattle.std.proofs.lemmas.Bool.{false≢true, eqb-true, eq-eqb}
use Rattle.std.proofs.lemmas.List.{take_more}
use Rattle.chunk_store.specs.declared.error.NotThere.{NotThere}
use Rattle.chunk_store.specs.declared.owner.Owner.{Owner}
use Rattle.chunk_store.specs.declared.owner.Owner.TheVariants.{Own, Peer}
use Rattle.chunk_store.specs.declared.store.Store.{Store}
use Rattle.chunk_store.specs.Owners.{owner_eq}
use Rattle.chunk_store.specs.Store.{record_of, is_owner}
use Rattle.psb_model.specs.Words.{name_eq, name_listed}
use Rattle.psb_model.specs.State.{own_has}
use Rattle.psb_model.specs.declared.entries.OwnEntry.{OwnEntry}
use Rattle.psb_model.proofs.ByObject.{by_cases}
use Rattle.psb_model.proofs.Own.{name_same, name_refl}
use Rattle.node_history.specs.Names.{HasNoOwner, IsOwned, IsLeft, Drops}
use Rattle.node_history.proofs.Walking.{or_none, or_true, and_true, and_none, listed_last}

pub owner_same : (a b : Owner) → owner_eq a b ≡ true → a ≡ b
owner_same Own Own h = refl
owner_same Own (Peer q) h = absurd (false≢true h)
owner_same (Peer p) Own h = absurd (false≢true h)
owner_same (Peer p) (Peer q) h = ap Peer (eqb-true p q h)

owner_refl : (a : Owner) → owner_eq a a ≡ true
owner_refl Own = refl
owner_refl (Peer p) = eq-eqb p p refl

-- nothing was taken yet
pub drop_start : (store : Store) (owner : Owner) (gone : List ℕ → Bool) → ((q : List ℕ) → gone q ≡ false) → Drops store store owner gone
drop_start store owner gone none = record {
  owners = λ o q. sym (ap (λ (b : Bool). is_owner store o q && not (b && owner_eq owner o)) (none q) ∙ and_true (is_owner store o q));
  records = λ q. inl (refl, inl refl);
}

-- one name more of the list was tried, and the list is longer by it
abbrev more_gone : (List ℕ → Bool) → List ℕ → List ℕ → Bool
more_gone gone n q = gone q || name_eq n q

owner_less : (a g k o : Bool) → ((a && not (g && o)) && not (k && o)) ≡ (a && not ((g || k) && o))
owner_less false g k o = refl
owner_less true true true o = at o
  where
    at : (o : Bool) → (not (true && o) && not (true && o)) ≡ not (true && o)
    at true = refl
    at false = refl
owner_less true true false o = at o
  where
    at : (o : Bool) → (not (true && o) && not (false && o)) ≡ not (true && o)
    at true = refl
    at false = refl
owner_less true false k o = refl

still_owned : (mid new : Store) (q : List ℕ) → ((o : Owner) → is_owner new o q ≡ is_owner mid o q) → IsOwned mid q → IsOwned new q
still_owned mid new q same owned = record { some = λ nobody. owned.some (λ o. sym (same o) ∙ nobody o) }

-- a name whose record and owners stay is left as it was
left_same : (old mid new : Store) (owner : Owner) (q : List ℕ) → record_of new q ≡ record_of mid q → ((o : Owner) → is_owner new o q ≡ is_owner mid o q) → IsLeft old mid owner q → IsLeft old new owner q
left_same old mid new owner q record_is same (inl (was, inl own)) = inl (record_is ∙ was, inl (same owner ∙ own))
left_same old mid new owner q record_is same (inl (was, inr owned)) = inl (record_is ∙ was, inr (still_owned mid new q same owned))
left_same old mid new owner q record_is same (inr (none, nobody)) = inr (record_is ∙ none, λ o. same o ∙ nobody o)

-- the name was taken out
pub drop_one : (old mid new : Store) (owner : Owner) (gone : List ℕ → Bool) (n : List ℕ) (last : Bool) → Drops old mid owner gone
    → ((o : Owner) (q : List ℕ) → is_owner new o q ≡ (is_owner mid o q && not (name_eq n q && owner_eq owner o)))
    → (last ≡ true) ↔ ((o : Owner) → is_owner new o n ≡ false)
    → ((q : List ℕ) → record_of new q ≡ cond (name_eq n q && last) None (record_of mid q)) → is_owner mid owner n ≡ true → Drops old new owner (more_gone gone n)
drop_one old mid new owner gone n last drops owners last_is records there = record {
  owners = λ o q. owners o q ∙ ap (λ (b : Bool). b && not (name_eq n q && owner_eq owner o)) (drops.owners o q) ∙ owner_less (is_owner old o q) (gone q) (name_eq n q) (owner_eq owner o);
  records = λ q. by_cases (name_eq n q) (λ k. here q k) (λ k. other q k);
}
  where
    other : (q : List ℕ) → name_eq n q ≡ false → IsLeft old new owner q
    other q k = left_same old mid new owner q (records q ∙ ap (λ (b : Bool). cond (b && last) None (record_of mid q)) k) (λ o. owners o q ∙ ap (λ (b : Bool). is_owner mid o q && not (b && owner_eq owner o)) k ∙ and_true (is_owner mid o q)) (drops.records q)

    owned_before : IsLeft old mid owner n → record_of mid n ≡ record_of old n
    owned_before (inl was) = was.0
    owned_before (inr none) = absurd (false≢true (sym (none.1 owner) ∙ there))

    by_last : (b : Bool) → last ≡ b → IsLeft old new owner n
    by_last true l = inr (records n ∙ ap (λ (b : Bool). cond (b && last) None (record_of mid n)) (name_refl n) ∙ ap (λ (b : Bool). cond b None (record_of mid n)) l, last_is.0 l)
    by_last false l = inl (
      records n ∙ ap (λ (b : Bool). cond (b && last) None (record_of mid n)) (name_refl n) ∙ ap (λ (b : Bool). cond b None (record_of mid n)) l ∙ owned_before (drops.records n),
      inr (record { some = λ nobody. absurd (false≢true (sym l ∙ last_is.1 nobody)) }),
    )

    here : (q : List ℕ) → name_eq n q ≡ true → IsLeft old new owner q
    here q k = subst (λ (x : List ℕ). IsLeft old new owner x) (name_same n q k) (by_last last refl)

-- it was no own one
pub drop_none : (old mid : Store) (owner : Owner) (gone : List ℕ → Bool) (n : List ℕ) → Drops old mid owner gone → is_owner mid owner n ≡ false → Drops old mid owner (more_gone gone n)
drop_none old mid owner gone n drops absent = record {
  owners = λ o q. by_cases (name_eq n q) (λ k. at o q k) (λ k. drops.owners o q ∙ ap (λ (b : Bool). is_owner old o q && not (b && owner_eq owner o)) (sym (ap (λ (b : Bool). gone q || b) k ∙ or_none (gone q))));
  records = drops.records;
}
  where
    at : (o : Owner) (q : List ℕ) → name_eq n q ≡ true → is_owner mid o q ≡ (is_owner old o q && not (more_gone gone n q && owner_eq owner o))
    at o q k = by_cases (owner_eq owner o)
        (λ same.
        ap (λ (x : Owner). is_owner mid x q) (sym (owner_same owner o same)) ∙ ap (is_owner mid owner) (sym (name_same n q k)) ∙ absent
        ∙ sym (ap (λ (b : Bool). is_owner old o q && not (b && owner_eq owner o)) (ap (λ (b : Bool). gone q || b) k ∙ or_true (gone q)) ∙ ap (λ (b : Bool). is_owner old o q && not b) same ∙ and_none (is_owner old o q)))
        (λ other.
        drops.owners o q
        ∙ ap (λ (b : Bool). is_owner old o q && not (gone q && b)) other ∙ ap (λ (b : Bool). is_owner old o q && not b) (and_none (gone q))
        ∙ sym (ap (λ (b : Bool). is_owner old o q && not (more_gone gone n q && b)) other ∙ ap (λ (b : Bool). is_owner old o q && not b) (and_none (more_gone gone n q))))

-- the list that was tried is longer by one
pub gone_as : (old new : Store) (owner : Owner) (gone gone' : List ℕ → Bool) → ((q : List ℕ) → gone' q ≡ gone q) → Drops old new owner gone → Drops old new owner gone'
gone_as old new owner gone gone' same drops = record {
  owners = λ o q. drops.owners o q ∙ ap (λ (b : Bool). is_owner old o q && not (b && owner_eq owner o)) (sym (same q));
  records = drops.records;
}

-- the owner was taken from one name more, if it was one of its owners
pub drop_step : (old mid new : Store) (owner : Owner) (gone : List ℕ → Bool) (n : List ℕ) (r : Result Bool NotThere) → Drops old mid owner gone
    → OnOk r ((o : Owner) (q : List ℕ) → is_owner new o q ≡ (is_owner mid o q && not (name_eq n q && owner_eq owner o)))
    → IfOk r (λ last. (last ≡ true) ↔ ((o : Owner) → is_owner new o n ≡ false))
    → IfOk r (λ last. (q : List ℕ) → record_of new q ≡ cond (name_eq n q && last) None (record_of mid q))
    → (r ≡ Err (record {})) ↔ (is_owner mid owner n ≡ false) → OnErr r (new ≡ mid) → Drops old new owner (more_gone gone n)
drop_step old mid new owner gone n (Ok last) drops owners last_is records not_there same =
    by_cases (is_owner mid owner n)
    (λ there. drop_one old mid new owner gone n last drops owners last_is records there)
    (λ absent. absurd (let clash : Ok last ≡ Err (record {}) = not_there.1 absent in cc))
drop_step old mid new owner gone n (Err e) drops owners last_is records not_there same =
    subst (λ (s : Store). Drops old s owner (more_gone gone n)) (sym same) (drop_none old mid owner gone n drops (not_there.0 refl))

-- the name is the next of a list
pub drop_next : (old new : Store) (owner : Owner) (dropped : List (List ℕ)) (i : ℕ) (n : List ℕ) → i < length dropped → n ≡ get_or dropped i n → Drops old new owner (more_gone (name_listed (take i dropped)) n) → Drops old new owner (name_listed (take (i + 1) dropped))
drop_next old new owner dropped i n lt here d = gone_as old new owner (more_gone (name_listed (take i dropped)) n) (name_listed (take (i + 1) dropped))
    (λ q. ap (λ (l : List (List ℕ)). name_listed l q) (take_more dropped i n lt ∙ ap (λ (m : List ℕ). take i dropped ++ m ∷ []) (sym here)) ∙ listed_last (take i dropped) n q) d

-- ---- names that are no own chunks

-- what was taken away in two goes was taken away
pub drops_then : (old mid new : Store) (owner : Owner) (gone more : List ℕ → Bool) → Drops old mid owner gone → Drops mid new owner more → Drops old new owner (λ q. gone q || more q)
drops_then old mid new owner gone more a b = record {
  owners = λ o q. b.owners o q ∙ ap (λ (x : Bool). x && not (more q && owner_eq owner o)) (a.owners o q) ∙ owner_less (is_owner old o q) (gone q) (more q) (owner_eq owner o);
  records = λ q. left_then q (a.records q) (b.records q);
}
  where
    none_less : (q : List ℕ) → HasNoOwner mid q → HasNoOwner new q
    none_less q nobody o = b.owners o q ∙ ap (λ (x : Bool). x && not (more q && owner_eq owner o)) (nobody o)

    by_owned : (q : List ℕ) → IsOwned mid q → is_owner new owner q ≡ is_owner mid owner q → (is_owner new owner q ≡ is_owner old owner q) ⊎ IsOwned new q
    by_owned q owned same = inr (record {
      some = λ nobody. owned.some (λ o. by_cases (owner_eq owner o)
          (λ k. let here : is_owner mid owner q ≡ false = sym same ∙ nobody owner in subst (λ (x : Owner). is_owner mid x q ≡ false) (owner_same owner o k) here)
          (λ k. sym (b.owners o q ∙ ap (λ (x : Bool). is_owner mid o q && not (more q && x)) k ∙ ap (λ (x : Bool). is_owner mid o q && not x) (and_none (more q)) ∙ and_true (is_owner mid o q)) ∙ nobody o));
    })

    left_then : (q : List ℕ) → IsLeft old mid owner q → IsLeft mid new owner q → IsLeft old new owner q
    left_then q (inl (was, own)) (inl (is, inr owned)) = inl (is ∙ was, inr owned)
    left_then q (inl (was, inl own)) (inl (is, inl same)) = inl (is ∙ was, inl (same ∙ own))
    left_then q (inl (was, inr owned)) (inl (is, inl same)) = inl (is ∙ was, by_owned q owned same)
    left_then q (inl was) (inr none) = inr none
    left_then q (inr (none, nobody)) (inl (is, how)) = inr (is ∙ none, none_less q nobody)
    left_then q (inr (none, nobody)) (inr gone_now) = inr gone_now

-- one name more of a list, of which those go that own has no longer
pub drop_lost_next : (old mid new : Store) (own : List OwnEntry) (dropped : List (List ℕ)) (i : ℕ) (n : List ℕ) → i < length dropped → n ≡ get_or dropped i n
    → Drops old mid Own (λ q. name_listed (take i dropped) q && not (own_has own q)) → Drops mid new Own (λ q. name_eq n q && not (own_has own q))
    → Drops old new Own (λ q. name_listed (take (i + 1) dropped) q && not (own_has own q))
drop_lost_next old mid new own dropped i n lt here before step =
    gone_as old new Own (λ q. (name_listed (take i dropped) q && not (own_has own q)) || (name_eq n q && not (own_has own q))) (λ q. name_listed (take (i + 1) dropped) q && not (own_has own q))
    (λ q. ap (λ (b : Bool). b && not (own_has own q)) (ap (λ (l : List (List ℕ)). name_listed l q) (take_more dropped i n lt ∙ ap (λ (m : List ℕ). take i dropped ++ m ∷ []) (sym here)) ∙ listed_last (take i dropped) n q)
    ∙ both (name_listed (take i dropped) q) (name_eq n q) (not (own_has own q)))
    (drops_then old mid new Own (λ q. name_listed (take i dropped) q && not (own_has own q)) (λ q. name_eq n q && not (own_has own q)) before step)
  where
    both : (a b c : Bool) → ((a || b) && c) ≡ ((a && c) || (b && c))
    both true true true = refl
    both true true false = refl
    both true false true = refl
    both true false false = refl
    both false b c = refl

-- a name that own has stays
pub lost_none : (store : Store) (own : List OwnEntry) (n : List ℕ) → own_has own n ≡ true → Drops store store Own (λ q. name_eq n q && not (own_has own q))
lost_none store own n has = drop_start store Own (λ q. name_eq n q && not (own_has own q)) (λ q. by_cases (name_eq n q)
    (λ k. rw k (ap not (ap (own_has own) (sym (name_same n q k)) ∙ has)))
    (λ k. rw k refl))

-- one that it does not have goes
pub lost_one : (old new : Store) (own : List OwnEntry) (n : List ℕ) → own_has own n ≡ false → Drops old new Own (name_eq n) → Drops old new Own (λ q. name_eq n q && not (own_has own q))
lost_one old new own n lacks drops = gone_as old new Own (name_eq n) (λ q. name_eq n q && not (own_has own q)) (λ q. by_cases (name_eq n q)
    (λ k. rw k (ap not (ap (own_has own) (sym (name_same n q k)) ∙ lacks)))
    (λ k. rw k refl))
    drops
