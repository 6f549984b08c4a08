-- Objects that are taken from the end of a list, and kept in a set.
use Rattle.std.proofs.Common.{◌≡◌, Bool, true, false, not, ◌&&◌, ◌||◌, cond, List, [], ◌∷◌, ◌++◌, refl, ap, sym, ◌∙◌, append_assoc, append-nil}
use Rattle.std.specs.Ordering.{is_eq}
use Rattle.std.specs.BTreeSet.{BTreeSet, contains}
use Rattle.psb_bytes.specs.Objects.{object_eq}
use Rattle.psb_bytes.specs.declared.ids.Object.{Object}
use Rattle.psb_bytes.specs.declared.ids.Object.TheVariants.{Chunk, Slot}
use Rattle.psb_bytes.specs.contracts.ids.ObjectOrd.TheImpl.{cmp-value as derived_cmp}
use Rattle.psb_model.specs.Words.{listed, objects_distinct}
use Rattle.psb_model.proofs.ObjectOrder.{same_object as same_one}

-- the order of the set finds an object where the list does
same_object : (a b : Object) → is_eq (derived_cmp.it a b) ≡ object_eq a b
same_object (Chunk a) (Chunk b) = sym (same_one (Chunk a) (Chunk b))
same_object (Chunk a) (Slot b) = refl
same_object (Slot a) (Chunk b) = refl
same_object (Slot a) (Slot b) = sym (same_one (Slot a) (Slot b))

-- the objects behind the rest are distinct, and are those of the set
pub record AreSeen (objects rest : List Object) (seen : BTreeSet Object) : Type 0 where
  pub done : List Object
  pub whole : objects ≡ rest ++ done
  pub distinct : objects_distinct done ≡ true
  pub has : (o : Object) → contains derived_cmp.it seen o ≡ listed done o

or_test : (b y : Bool) → cond b true y ≡ (b || y)
or_test true y = refl
or_test false y = refl

pub none_seen : (objects : List Object) (seen : BTreeSet Object) → ((o : Object) → contains derived_cmp.it seen o ≡ false) → AreSeen objects objects seen
none_seen objects seen empty = record { done = []; whole = sym (append-nil objects); distinct = refl; has = empty }

-- one more from the end
pub one_seen : (objects rest front : List Object) (last : Object) (seen new : BTreeSet Object) → rest ≡ front ++ last ∷ [] → contains derived_cmp.it seen last ≡ false
    → ((o : Object) → contains derived_cmp.it new o ≡ cond (is_eq (derived_cmp.it last o)) true (contains derived_cmp.it seen o)) → AreSeen objects rest seen → AreSeen objects front new
one_seen objects rest front last seen new cut absent updates before = record {
  done = last ∷ before.done;
  whole = before.whole ∙ ap (λ (l : List Object). l ++ before.done) cut ∙ append_assoc front (last ∷ []) before.done;
  distinct = rw (sym (before.has last) ∙ absent, before.distinct) refl;
  has = λ o. updates o ∙ ap (λ (b : Bool). cond b true (contains derived_cmp.it seen o)) (same_object last o) ∙ or_test (object_eq last o) (contains derived_cmp.it seen o) ∙ ap (λ (b : Bool). object_eq last o || b) (before.has o);
}

-- what stands behind is distinct where all is
behind_distinct : (front behind : List Object) → objects_distinct behind ≡ false → objects_distinct (front ++ behind) ≡ false
behind_distinct [] behind e = e
behind_distinct (x ∷ front) behind e = and_false (not (listed (front ++ behind) x)) (objects_distinct (front ++ behind)) (behind_distinct front behind e)
  where
    and_false : (a b : Bool) → b ≡ false → (a && b) ≡ false
    and_false true b e = e
    and_false false b e = refl

pub seen_twice : (objects rest front : List Object) (last : Object) (seen : BTreeSet Object) → rest ≡ front ++ last ∷ [] → contains derived_cmp.it seen last ≡ true → AreSeen objects rest seen → false ≡ objects_distinct objects
seen_twice objects rest front last seen cut there before =
    let twice : objects_distinct (last ∷ before.done) ≡ false = rw (sym (before.has last) ∙ there) refl in
    sym (ap objects_distinct (before.whole ∙ ap (λ (l : List Object). l ++ before.done) cut ∙ append_assoc front (last ∷ []) before.done) ∙ behind_distinct front (last ∷ before.done) twice)

pub all_seen : (objects rest : List Object) (seen : BTreeSet Object) → rest ≡ [] → AreSeen objects rest seen → true ≡ objects_distinct objects
all_seen objects rest seen none before = sym (ap objects_distinct (before.whole ∙ ap (λ (l : List Object). l ++ before.done) none) ∙ before.distinct)

-- what an insert tells of the key
pub was_there : (added there : Bool) → added ≡ not there → added ≡ false → there ≡ true
was_there added true e h = refl
was_there added false e h = sym h ∙ e

pub was_absent : (added there : Bool) → added ≡ not there → added ≡ true → there ≡ false
was_absent added true e h = sym h ∙ e
was_absent added false e h = refl
