-- The names of a node's store follow its history.
use Rattle.std.proofs.Common.{◌≡◌, ◌⊎◌, inl, inr, ℕ, ◌+◌, ◌<◌, Bool, true, false, not, ◌||◌, ◌&&◌, ◌==◌, cond, List, [], ◌∷◌, ◌++◌, length, is_some, Option, Some, None, refl, sym, ◌∙◌, ap, subst, arith}
use Rattle.std.proofs.lemmas.Bool.{false≢true, eqb-true}
use Rattle.psb_bytes.specs.declared.ids.Object.{Object}
use Rattle.psb_bytes.specs.declared.ids.Object.TheVariants.{Chunk}
use Rattle.chunk_store.specs.declared.owner.Owner.{Owner}
use Rattle.chunk_store.specs.declared.owner.Owner.TheVariants.{Own, Peer}
use Rattle.chunk_store.specs.declared.store.Store.{Store}
use Rattle.chunk_store.specs.Owners.{owner_eq}
use Rattle.chunk_store.specs.Records.{or_else}
use Rattle.chunk_store.specs.Store.{record_of, is_owner}
use Rattle.psb_model.specs.declared.change.Change.{Change}
use Rattle.psb_model.specs.declared.change.Change.TheVariants.{Begun, Kept, Snapped, Forgot, TookFresh, TookSwap, LetGo, LetGoBack, Replaced, Refused, Proposed, Settled, Turned, Asked, Passed, Failed, Declined, Discarded, Chose}
use Rattle.psb_model.specs.Words.{name_eq, name_listed, listed, has}
use Rattle.psb_model.specs.State.{Row, State, nothing_yet, row, row_in, is_peer, in_key, own_has, own_marked, is_held}
use Rattle.psb_model.specs.Conditions.{allowed, tests, settings_of_body, peer_of, of_a_peer, is_begun}
use Rattle.psb_model.specs.Effects.{after, own_after, all_rows_after, kept_lists, kept_without, is_named}
use Rattle.psb_model.specs.History.{state, is_lawful}
use Rattle.psb_model.specs.Needed.{brings_name}
use Rattle.psb_model.proofs.ByObject.{by_cases}
use Rattle.psb_model.proofs.Own.{name_same}
use Rattle.psb_model.proofs.Rows.{row_in-first_rows}
use Rattle.psb_model.proofs.Steps.{parts}
use Rattle.psb_model.proofs.Steady.{IsSteady, steady_state, marks_has, allows, begun_before}
use Rattle.psb_model.proofs.Bare.{bare, bare_in, has_bare, changed, row_bare}
use Rattle.psb_model.proofs.Held.{or_none, or_last, or_middle, and_none, has_less, held_in, own_with_is, Gains, Loses, fresh_gains, swap_gains, settled_gains, turned_gains, let_go_loses, put_back_loses, still_gains, held_more, none_first, was_held, brings_none}
use Rattle.model_laws.proofs.Leaving.{gives_up_none, own_stays, forgot_has, ended_has, settled_beside, turned_beside, discard_beside}
use Rattle.psb_model.proofs.Prefixes.{state_snoc, changes_counted}
use Rattle.node_history.specs.declared.entering.Entering.{Entering}
use Rattle.node_history.specs.declared.entering.Entering.TheVariants.{Discards}
use Rattle.node_history.specs.Names.{owns, brought_from, KnowsNames, AreThere, Adds, SameNames, HasNoOwner, IsOwned, IsLeft, Drops, GivesUp, deal_names, Enters, IsEntering, Enter, IsNew}
use Rattle.node_history.proofs.Brought.{brought_snoc}
use Rattle.node_history.proofs.Ordering.{IsOrdered, ordered_state, ordered_after, none_in_row, none_in_rows}
use Rattle.node_history.proofs.Dropping.{owner_same, gone_as}

-- ---- one of two

and_true : (a : Bool) → (a && true) ≡ a
and_true true = refl
and_true false = refl

not_true : (a : Bool) → not a ≡ true → a ≡ false
not_true true h = absurd (false≢true h)
not_true false h = refl

-- ---- what the rows have after a change

-- which chunks a row has here does not look at the states of entries
in_bare : (r : Row) (q : List ℕ) → has in_key (bare r).ins (Chunk q) ≡ has in_key r.ins (Chunk q)
in_bare r q = has_bare in_key bare_in (λ e. refl) r.ins (Chunk q)

-- so a change of a peer changes them in the row of that peer alone
ins_then : (s : State) (c : Change) (p r : ℕ) (q : List ℕ) → peer_of c ≡ Some p → is_peer s p ≡ true → has in_key (row (after s c) r).ins (Chunk q) ≡ has in_key (cond (p == r) (changed s c (row s r)) (row s r)).ins (Chunk q)
ins_then s c p r q peer here =
    sym (in_bare (row (after s c) r) q)
    ∙ ap (λ (x : Row). has in_key x.ins (Chunk q)) (row_bare s c p r peer here)
    ∙ in_bare (cond (p == r) (changed s c (row s r)) (row s r)) q

one_gains : (s : State) (c : Change) (p r : ℕ) (q : List ℕ) (b : Bool) → peer_of c ≡ Some p → is_peer s p ≡ true → Gains (changed s c) q b → has in_key (row (after s c) r).ins (Chunk q) ≡ (has in_key (row s r).ins (Chunk q) || (b && (p == r)))
one_gains s c p r q b peer here gains = ins_then s c p r q peer here ∙ by_cases (p == r)
    (λ k. rw k (gains (row s r) ∙ ap (λ (x : Bool). has in_key (row s r).ins (Chunk q) || x) (sym (and_true b))))
    (λ k. rw k (sym (ap (λ (x : Bool). has in_key (row s r).ins (Chunk q) || x) (and_none b) ∙ or_none (has in_key (row s r).ins (Chunk q)))))

-- ---- who owns what, and what is held, after a change

-- the states differ in that the owner has a body under the name, if b
record Differ (s t : State) (owner : Owner) (name : List ℕ) (b : Bool) : Type 0 where
  owners : (o : Owner) (q : List ℕ) → owns t o q ≡ (owns s o q || ((b && name_eq name q) && owner_eq owner o))
  held : (q : List ℕ) → is_held t q ≡ (is_held s q || (b && name_eq name q))

-- a change of a peer that gives it the chunk, if b, and leaves what is the node's own
differ_at : (s : State) (c : Change) (p : ℕ) (name : List ℕ) (b : Bool) → (after s c).own ≡ s.own → peer_of c ≡ Some p → is_peer s p ≡ true → ((q : List ℕ) → Gains (changed s c) q (b && name_eq name q)) → Differ s (after s c) (Peer p) name b
differ_at s c p name b own peer here gains = record {
  owners = λ o q. by_owner o q;
  held = λ q.
      (λ i. own_has (own i) q || held_more s c p q (b && name_eq name q) peer here (gains q) i)
      ∙ or_last (own_has s.own q) (held_in s.rows q) (b && name_eq name q);
}
  where
    by_owner : (o : Owner) (q : List ℕ) → owns (after s c) o q ≡ (owns s o q || ((b && name_eq name q) && owner_eq (Peer p) o))
    by_owner Own q = ap (λ own. own_has own q) own ∙ sym (ap (λ (x : Bool). own_has s.own q || x) (and_none (b && name_eq name q)) ∙ or_none (own_has s.own q))
    by_owner (Peer r) q = one_gains s c p r q (b && name_eq name q) peer here (gains q)

differ_kept : (s : State) (name : List ℕ) (len : ℕ) (new : Bool) (body : Option (List ℕ)) → IsSteady s → allowed s (Kept (record { name = name; len = len; new = new; body = body })) ≡ true → Differ s (after s (Kept (record { name = name; len = len; new = new; body = body }))) Own name true
differ_kept s name len new body steady may = record {
  owners = λ o q. by_owner o q;
  held = λ q. ap (λ (x : Bool). x || held_in s.rows q) (own_now q) ∙ or_middle (own_has s.own q) (name_eq name q) (held_in s.rows q);
}
  where
    own_now : (q : List ℕ) → own_has (after s (Kept (record { name = name; len = len; new = new; body = body }))).own q ≡ (own_has s.own q || name_eq name q)
    own_now q = ap (λ own. own_has own q) (own_stays s (Kept (record { name = name; len = len; new = new; body = body })) steady may refl) ∙ own_with_is (record { name = name; len = len; marked = false }) s.own q

    by_owner : (o : Owner) (q : List ℕ) → owns (after s (Kept (record { name = name; len = len; new = new; body = body }))) o q ≡ (owns s o q || (name_eq name q && owner_eq Own o))
    by_owner Own q = own_now q ∙ ap (λ (x : Bool). own_has s.own q || x) (sym (and_true (name_eq name q)))
    by_owner (Peer p) q = sym (ap (λ (x : Bool). has in_key (row s p).ins (Chunk q) || x) (and_none (name_eq name q)) ∙ or_none (has in_key (row s p).ins (Chunk q)))

-- ---- the store after a change

some_or : (r : Option ℕ) (b : Bool) (n : ℕ) → is_some (or_else r (cond b (Some n) None)) ≡ (is_some r || b)
some_or (Some k) b n = refl
some_or None true n = refl
some_or None false n = refl

-- of two, the one where the other is not
is_fresh : (held new : Bool) → cond held (not new) new ≡ true → held ≡ false → new ≡ true
is_fresh true new t free = absurd (false≢true (sym free))
is_fresh false new t free = t

-- A name has the record that it had, and the change does not bring its bytes; or it has the record of the
-- change, which brings them.
abbrev pub IsPlaced : Store → Change → ℕ → List ℕ → ℕ → Type 0
IsPlaced old c number q k = ((record_of old q ≡ Some k) × (brings_name q c ≡ false)) ⊎ ((number ≡ k) × (brings_name q c ≡ true))

-- a change that adds an owner to a name brings its bytes where none are held under it
added_placed : (old new : Store) (h : List Change) (c : Change) (owner : Owner) (name : List ℕ) (brings : Bool) (number : ℕ) → allowed (state h) c ≡ true → ((q : List ℕ) → brings_name q c ≡ (brings && name_eq name q)) → (is_held (state h) name ≡ false → brings ≡ true)
    → KnowsNames old h → Adds old new owner name number → (q : List ℕ) (k : ℕ) → record_of new q ≡ Some k → IsPlaced old c number q k
added_placed old new h c owner name brings number may names_it fresh knows adds q k is = by_old (record_of old q) refl
  where
    now : (r : Option ℕ) → record_of old q ≡ r → or_else r (cond (name_eq name q) (Some number) None) ≡ Some k
    now r there = sym (ap (λ (o : Option ℕ). or_else o (cond (name_eq name q) (Some number) None)) there) ∙ sym (adds.records q) ∙ is

    by_old : (r : Option ℕ) → record_of old q ≡ r → IsPlaced old c number q k
    by_old (Some j) there = inl (there ∙ now (Some j) there, brings_none (state h) c q may (sym (knows.held q) ∙ ap is_some there))
    by_old None there =
        let free : is_held (state h) q ≡ false = sym (knows.held q) ∙ ap is_some there in
        by_cases (name_eq name q)
        (λ e.
        let it : brings ≡ true = fresh (ap (is_held (state h)) (name_same name q e) ∙ free) in
        let same : Some number ≡ Some k = sym (ap (λ (b : Bool). cond b (Some number) None) e) ∙ now None there in
        inr (cc (same), names_it q ∙ ap (λ (b : Bool). b && name_eq name q) it ∙ e))
        (λ e. absurd (let clash : None ≡ Some k = sym (ap (λ (b : Bool). cond b (Some number) None) e) ∙ now None there in cc))

kept_brings : (name : List ℕ) (len : ℕ) (new : Bool) (body : Option (List ℕ)) (q : List ℕ) → brings_name q (Kept (record { name = name; len = len; new = new; body = body })) ≡ (new && name_eq name q)
kept_brings name len true body q = refl
kept_brings name len false body q = refl

swap_brings : (p deal : ℕ) (name numbers : List ℕ) (len : ℕ) (new : Bool) (body : Option (List ℕ)) (q : List ℕ) → brings_name q (TookSwap (record { peer = p; deal = deal; name = name; slots = numbers; len = len; new = new; body = body })) ≡ (new && name_eq name q)
swap_brings p deal name numbers len true body q = refl
swap_brings p deal name numbers len false body q = refl

fresh_brings : (p deal : ℕ) (name : List ℕ) (first len : ℕ) (new : Bool) (body : Option (List ℕ)) (q : List ℕ) → brings_name q (TookFresh (record { peer = p; deal = deal; name = name; first = first; len = len; new = new; body = body })) ≡ (new && name_eq name q)
fresh_brings p deal name first len true body q = refl
fresh_brings p deal name first len false body q = refl

-- what is left of a name that has a record has it still
left_record : (old new : Store) (owner : Owner) (q : List ℕ) (k : ℕ) → IsLeft old new owner q → record_of new q ≡ Some k → record_of old q ≡ Some k
left_record old new owner q k (inl was) is = sym was.0 ∙ is
left_record old new owner q k (inr none) is = absurd (let clash : None ≡ Some k = sym none.0 ∙ is in cc)

pub placed : (old new : Store) (h : List Change) (c : Change) (number : ℕ) → allowed (state h) c ≡ true → KnowsNames old h → Enters (state h) old new c number → (q : List ℕ) (k : ℕ) → record_of new q ≡ Some k → IsPlaced old c number q k
placed old new h (Kept x) number may knows enters q k here =
    let c : Change = Kept x in
    let ts = parts (tests (state h) c) (allows (state h) c may).tests in
    added_placed old new h c Own x.name x.new number may (kept_brings x.name x.len x.new x.body) (λ free. is_fresh (is_held (state h) x.name) x.new ts.1.0 free) knows enters q k here
placed old new h (Forgot x) number may knows enters q k here = inl (left_record old new Own q k (enters.drops.records q) here, refl)
placed old new h (TookFresh x) number may knows enters q k here =
    let c : Change = TookFresh x in
    let ts = parts (tests (state h) c) (allows (state h) c may).tests in
    added_placed old new h c (Peer x.peer) x.name x.new number may (fresh_brings x.peer x.deal x.name x.first x.len x.new x.body) (λ free. is_fresh (is_held (state h) x.name) x.new ts.1.1.0 free) knows enters q k here
placed old new h (TookSwap x) number may knows enters q k here =
    let c : Change = TookSwap x in
    let ts = parts (tests (state h) c) (allows (state h) c may).tests in
    added_placed old new h c (Peer x.peer) x.name x.new number may (swap_brings x.peer x.deal x.name x.slots x.len x.new x.body) (λ free. is_fresh (is_held (state h) x.name) x.new ts.1.1.0 free) knows enters q k here
placed old new h (LetGo x) number may knows enters q k here = inl (left_record old new (Peer x.peer) q k (enters.records q) here, refl)
placed old new h (LetGoBack x) number may knows enters q k here = inl (left_record old new (Peer x.peer) q k (enters.records q) here, refl)
placed old new h (Settled x) number may knows enters q k here = inl (left_record old new Own q k (enters.drops.records q) here, refl)
placed old new h (Turned x) number may knows enters q k here = inl (left_record old new Own q k (enters.drops.records q) here, refl)
placed old new h (Discarded x) number may knows enters q k here = inl (left_record old enters.0 (Peer x.peer) q k (enters.1.records q) (left_record enters.0 new Own q k (enters.2.drops.records q) here), refl)
placed old new h _ number may knows enters q k here = inl (sym (enters.records q) ∙ here, refl)

placed_brought : (old : Store) (h : List Change) (c : Change) (q : List ℕ) (k : ℕ) → KnowsNames old h → IsPlaced old c (length h) q k → brought_from 0 q (h ++ c ∷ []) ≡ Some k
placed_brought old h c q k knows (inl was) = brought_snoc 0 q h c ∙ ap (λ (b : Bool). cond b (Some (0 + length h)) (brought_from 0 q h)) was.1 ∙ knows.records q k was.0
placed_brought old h c q k knows (inr now) = brought_snoc 0 q h c ∙ ap (λ (b : Bool). cond b (Some (0 + length h)) (brought_from 0 q h)) now.1 ∙ ap (λ (i : ℕ). Some i) (omega (arith, now.0))

-- the same names are held where a change takes none and brings none
same_names : (old new : Store) (h : List Change) (c : Change) → ((q : List ℕ) → brings_name q c ≡ false) → ((o : Owner) (q : List ℕ) → owns (after (state h) c) o q ≡ owns (state h) o q) → ((q : List ℕ) → is_held (after (state h) c) q ≡ is_held (state h) q) → KnowsNames old h → SameNames old new → KnowsNames new (h ++ c ∷ [])
same_names old new h c none owners held knows same = record {
  owners = λ o q. same.owners o q ∙ knows.owners o q ∙ sym (owners o q) ∙ ap (λ (s : State). owns s o q) (sym (state_snoc h c));
  held = λ q. ap is_some (same.records q) ∙ knows.held q ∙ sym (held q) ∙ ap (λ (s : State). is_held s q) (sym (state_snoc h c));
  records = λ q k is. brought_snoc 0 q h c ∙ ap (λ (b : Bool). cond b (Some (0 + length h)) (brought_from 0 q h)) (none q) ∙ knows.records q k (sym (same.records q) ∙ is);
}

-- one name more is held, or has an owner more
added_names : (old new : Store) (h : List Change) (c : Change) (owner : Owner) (name : List ℕ) → Differ (state h) (after (state h) c) owner name true → KnowsNames old h → Adds old new owner name (length h) → ((q : List ℕ) (k : ℕ) → record_of new q ≡ Some k → IsPlaced old c (length h) q k) → KnowsNames new (h ++ c ∷ [])
added_names old new h c owner name differ knows adds places = record {
  owners = λ o q. adds.owners o q ∙ ap (λ (b : Bool). b || (name_eq name q && owner_eq owner o)) (knows.owners o q) ∙ sym (differ.owners o q) ∙ ap (λ (t : State). owns t o q) (sym (state_snoc h c));
  held = λ q. ap is_some (adds.records q) ∙ some_or (record_of old q) (name_eq name q) (length h) ∙ ap (λ (b : Bool). b || name_eq name q) (knows.held q) ∙ sym (differ.held q) ∙ ap (λ (t : State). is_held t q) (sym (state_snoc h c));
  records = λ q k here. placed_brought old h c q k knows (places q k here);
}

or_parts : (a b : Bool) → (a || b) ≡ false → (a ≡ false) × (b ≡ false)
or_parts true b h = absurd (false≢true (sym h))
or_parts false b h = (refl, h)

-- where the store has the owners of a state: who is not held has no owner, and who has none is not held
nobody_has : (store : Store) (s : State) (q : List ℕ) → ((o : Owner) → is_owner store o q ≡ owns s o q) → is_held s q ≡ false → HasNoOwner store q
nobody_has store s q owners free Own = owners Own ∙ (or_parts (own_has s.own q) (held_in s.rows q) free).0
nobody_has store s q owners free (Peer p) = owners (Peer p) ∙ none_in_row s.rows q p (or_parts (own_has s.own q) (held_in s.rows q) free).1

not_held : (store : Store) (s : State) (q : List ℕ) → IsOrdered s → ((o : Owner) → is_owner store o q ≡ owns s o q) → HasNoOwner store q → is_held s q ≡ false
not_held store s q ordered owners nobody =
    let own : own_has s.own q ≡ false = sym (owners Own) ∙ nobody Own in
    let rows : held_in s.rows q ≡ false = none_in_rows s.rows q ordered.rows (λ p. sym (owners (Peer p)) ∙ nobody (Peer p)) in
    rw own rows

-- A name has the record that it had, with the owners that it had or with some left; or it has none, and no owner.
abbrev IsLeftAs : Store → Store → List ℕ → Type 0
IsLeftAs old new q = ((record_of new q ≡ record_of old q) × (((o : Owner) → is_owner new o q ≡ is_owner old o q) ⊎ IsOwned new q)) ⊎ ((record_of new q ≡ None) × HasNoOwner new q)

-- where an owner was taken from some names: who has that owner as before, has each other so
left_as : (old new : Store) (owner : Owner) (gone : List ℕ → Bool) → Drops old new owner gone → (q : List ℕ) → IsLeftAs old new q
left_as old new owner gone drops q = at (drops.records q)
  where
    same_owners : is_owner new owner q ≡ is_owner old owner q → (o : Owner) → is_owner new o q ≡ is_owner old o q
    same_owners same o = by_cases (owner_eq owner o)
        (λ k. subst (λ (x : Owner). is_owner new x q ≡ is_owner old x q) (owner_same owner o k) same)
        (λ k. drops.owners o q ∙ ap (λ (b : Bool). is_owner old o q && not (gone q && b)) k ∙ ap (λ (b : Bool). is_owner old o q && not b) (and_none (gone q)) ∙ and_true (is_owner old o q))

    at : IsLeft old new owner q → IsLeftAs old new q
    at (inl (was, inl same)) = inl (was, inl (same_owners same))
    at (inl (was, inr owned)) = inl (was, inr owned)
    at (inr none) = inr none

-- and in two goes, of which the second takes owners alone
left_then : (old mid new : Store) (q : List ℕ) → ((o : Owner) → is_owner mid o q ≡ false → is_owner new o q ≡ false) → IsLeftAs old mid q → IsLeftAs mid new q → IsLeftAs old new q
left_then old mid new q fewer (inl (was, inl before)) (inl (is, inl same)) = inl (is ∙ was, inl (λ o. same o ∙ before o))
left_then old mid new q fewer (inl (was, inr owned)) (inl (is, inl same)) = inl (is ∙ was, inr (record { some = λ nobody. owned.some (λ o. sym (same o) ∙ nobody o) }))
left_then old mid new q fewer (inl (was, how)) (inl (is, inr owned)) = inl (is ∙ was, inr owned)
left_then old mid new q fewer (inr (none, nobody)) (inl (is, how)) = inr (is ∙ none, λ o. fewer o (nobody o))
left_then old mid new q fewer was (inr none) = inr none

left_was : (old new : Store) (q : List ℕ) (k : ℕ) → IsLeftAs old new q → record_of new q ≡ Some k → record_of old q ≡ Some k
left_was old new q k (inl was) is = sym was.0 ∙ is
left_was old new q k (inr none) is = absurd (let clash : None ≡ Some k = sym none.0 ∙ is in cc)

-- Owners were taken from some names by a change that brings no bytes: a name is held where it has an owner left.
left_names : (old new : Store) (h : List Change) (c : Change) → is_lawful h ≡ true → is_begun c ≡ false → allowed (state h) c ≡ true → ((q : List ℕ) → brings_name q c ≡ false)
    → KnowsNames old h → ((q : List ℕ) → IsLeftAs old new q) → ((o : Owner) (q : List ℕ) → is_owner new o q ≡ owns (after (state h) c) o q) → KnowsNames new (h ++ c ∷ [])
left_names old new h c lawful later may none knows left owners_now = record {
  owners = λ o q. owners_now o q ∙ ap (λ (x : State). owns x o q) (sym (state_snoc h c));
  held = λ q. held_now q (left q) ∙ ap (λ (x : State). is_held x q) (sym (state_snoc h c));
  records = λ q k there. brought_snoc 0 q h c ∙ ap (λ (b : Bool). cond b (Some (0 + length h)) (brought_from 0 q h)) (none q) ∙ knows.records q k (left_was old new q k (left q) there);
}
  where
    t : State
    t = after (state h) c

    ordered : IsOrdered (state h)
    ordered = ordered_state h lawful

    ordered_now : IsOrdered t
    ordered_now = ordered_after (state h) c may ordered

    was : (q : List ℕ) → is_held t q ≡ true → is_held (state h) q ≡ true
    was q held = was_held (state h) c q (begun_before (state h) c later may) may held (none q)

    held_now : (q : List ℕ) → IsLeftAs old new q → is_some (record_of new q) ≡ is_held t q
    held_now q (inl (record_is, inl same)) = ap is_some record_is ∙ knows.held q ∙ by_cases (is_held t q)
        (λ held. was q held ∙ sym held)
        (λ free.
        let nobody : HasNoOwner old q = λ o. sym (same o) ∙ nobody_has new t q (λ x. owners_now x q) free o in
        not_held old (state h) q ordered (λ o. knows.owners o q) nobody ∙ sym free)
    held_now q (inl (record_is, inr owned)) = by_cases (is_held t q)
        (λ held. ap is_some record_is ∙ knows.held q ∙ was q held ∙ sym held)
        (λ free. absurd (owned.some (nobody_has new t q (λ o. owners_now o q) free)))
    held_now q (inr (gone_is, nobody)) = ap is_some gone_is ∙ sym (not_held new t q ordered_now (λ o. owners_now o q) nobody)

-- an owner that was gone where the change gives up, and one that it did not have, is as after it
gone_own : (a g w : Bool) → (a ≡ true → g ≡ not w) → (a ≡ false → w ≡ false) → (a && not (g && true)) ≡ w
gone_own false g w are less = sym (less refl)
gone_own true g true are less = ap (λ (b : Bool). not (b && true)) (are refl)
gone_own true g false are less = ap (λ (b : Bool). not (b && true)) (are refl)

-- own chunks were given up by a change that leaves what peers have here
given_up_names : (old new : Store) (h : List Change) (c : Change) → is_lawful h ≡ true → is_begun c ≡ false → allowed (state h) c ≡ true → ((q : List ℕ) → brings_name q c ≡ false)
    → ((q : List ℕ) → own_has (state h).own q ≡ false → own_has (after (state h) c).own q ≡ false) → ((p : ℕ) (q : List ℕ) → owns (after (state h) c) (Peer p) q ≡ owns (state h) (Peer p) q)
    → KnowsNames old h → GivesUp (state h) c old new → KnowsNames new (h ++ c ∷ [])
given_up_names old new h c lawful later may none fewer peers knows f = left_names old new h c lawful later may none knows (left_as old new Own f.gone f.drops) owners_now
  where
    owners_now : (o : Owner) (q : List ℕ) → is_owner new o q ≡ owns (after (state h) c) o q
    owners_now Own q =
        f.drops.owners Own q
        ∙ ap (λ (b : Bool). b && not (f.gone q && true)) (knows.owners Own q)
        ∙ gone_own (own_has (state h).own q) (f.gone q) (own_has (after (state h) c).own q) (f.are q) (fewer q)
    owners_now (Peer p) q = f.drops.owners (Peer p) q ∙ ap (λ (b : Bool). is_owner old (Peer p) q && not b) (and_none (f.gone q)) ∙ and_true (is_owner old (Peer p) q) ∙ knows.owners (Peer p) q ∙ sym (peers p q)

-- what the peers have here stays, where a change of one brings no chunk and takes none
peers_stay : (s : State) (c : Change) (p : ℕ) → peer_of c ≡ Some p → is_peer s p ≡ true → ((q : List ℕ) → Gains (changed s c) q false) → (r : ℕ) (q : List ℕ) → owns (after s c) (Peer r) q ≡ owns s (Peer r) q
peers_stay s c p peer here gains r q = one_gains s c p r q false peer here (gains q) ∙ or_none (has in_key (row s r).ins (Chunk q))

-- a peer let a chunk go
let_go_names : (old new : Store) (h : List Change) (c : Change) (p : ℕ) (name : List ℕ) → is_lawful h ≡ true → is_begun c ≡ false → peer_of c ≡ Some p → is_peer (state h) p ≡ true → (after (state h) c).own ≡ (state h).own → allowed (state h) c ≡ true → ((q : List ℕ) → brings_name q c ≡ false) → ((q : List ℕ) → Loses (changed (state h) c) name q)
    → KnowsNames old h → Drops old new (Peer p) (name_eq name) → KnowsNames new (h ++ c ∷ [])
let_go_names old new h c p name lawful later peer here own may none loses knows drops = left_names old new h c lawful later may none knows (left_as old new (Peer p) (name_eq name) drops) owners_now
  where
    s : State
    s = state h

    row_now : (r : ℕ) (q : List ℕ) → has in_key (row (after s c) r).ins (Chunk q) ≡ (has in_key (row s r).ins (Chunk q) && not (name_eq name q && (p == r)))
    row_now r q = ins_then s c p r q peer here ∙ by_cases (p == r)
        (λ k. rw k (loses q (row s r) ∙ ap (λ (b : Bool). has in_key (row s r).ins (Chunk q) && not b) (sym (and_true (name_eq name q)))))
        (λ k. rw k (sym (ap (λ (b : Bool). has in_key (row s r).ins (Chunk q) && not b) (and_none (name_eq name q)) ∙ and_true (has in_key (row s r).ins (Chunk q)))))

    owners_now : (o : Owner) (q : List ℕ) → is_owner new o q ≡ owns (after s c) o q
    owners_now Own q = drops.owners Own q ∙ ap (λ (b : Bool). is_owner old Own q && not b) (and_none (name_eq name q)) ∙ and_true (is_owner old Own q) ∙ knows.owners Own q ∙ ap (λ l. own_has l q) (sym own)
    owners_now (Peer r) q = drops.owners (Peer r) q ∙ ap (λ (b : Bool). b && not (name_eq name q && (p == r))) (knows.owners (Peer r) q) ∙ sym (row_now r q)

-- chunks of a peer were discarded, and own ones given up with what it owed
discarded_names : (old mid new : Store) (h : List Change) (p : ℕ) (objects : List Object) → is_lawful h ≡ true → allowed (state h) (Discarded (record { peer = p; objects = objects })) ≡ true
    → KnowsNames old h → Drops old mid (Peer p) (λ q. listed objects (Chunk q)) → GivesUp (state h) (Discarded (record { peer = p; objects = objects })) mid new → KnowsNames new (h ++ Discarded (record { peer = p; objects = objects }) ∷ [])
discarded_names old mid new h p objects lawful may knows d f =
    left_names old new h c lawful refl may (λ q. refl) knows (λ q. left_then old mid new q (less q) (left_as old mid (Peer p) gone d q) (left_as mid new Own f.gone f.drops q)) owners_now
  where
    c : Change
    c = Discarded (record { peer = p; objects = objects })

    s : State
    s = state h

    gone : List ℕ → Bool
    gone q = listed objects (Chunk q)

    less : (q : List ℕ) (o : Owner) → is_owner mid o q ≡ false → is_owner new o q ≡ false
    less q o none = f.drops.owners o q ∙ ap (λ (b : Bool). b && not (f.gone q && owner_eq Own o)) none

    row_now : (r : ℕ) (q : List ℕ) → has in_key (row (after s c) r).ins (Chunk q) ≡ (has in_key (row s r).ins (Chunk q) && not (gone q && (p == r)))
    row_now r q = ins_then s c p r q refl (allows s c may).peer ∙ by_cases (p == r)
        (λ k. rw k (has_less in_key objects (row s r).ins (Chunk q) ∙ ap (λ (b : Bool). has in_key (row s r).ins (Chunk q) && not b) (sym (and_true (gone q)))))
        (λ k. rw k (sym (ap (λ (b : Bool). has in_key (row s r).ins (Chunk q) && not b) (and_none (gone q)) ∙ and_true (has in_key (row s r).ins (Chunk q)))))

    fewer : (q : List ℕ) → own_has s.own q ≡ false → own_has (after s c).own q ≡ false
    fewer q lacks = ended_has s c q (steady_state h lawful) refl ∙ ap (λ (b : Bool). b && (not (own_marked s.own q) || is_named (all_rows_after s c) q)) lacks

    owners_now : (o : Owner) (q : List ℕ) → is_owner new o q ≡ owns (after s c) o q
    owners_now Own q =
        f.drops.owners Own q
        ∙ ap (λ (b : Bool). b && not (f.gone q && true)) (d.owners Own q ∙ ap (λ (b : Bool). is_owner old Own q && not b) (and_none (gone q)) ∙ and_true (is_owner old Own q) ∙ knows.owners Own q)
        ∙ gone_own (own_has s.own q) (f.gone q) (own_has (after s c).own q) (f.are q) (fewer q)
    owners_now (Peer r) q =
        f.drops.owners (Peer r) q ∙ ap (λ (b : Bool). is_owner mid (Peer r) q && not b) (and_none (f.gone q)) ∙ and_true (is_owner mid (Peer r) q)
        ∙ d.owners (Peer r) q ∙ ap (λ (b : Bool). b && not (gone q && (p == r))) (knows.owners (Peer r) q) ∙ sym (row_now r q)

begun_names : (old new : Store) (h : List Change) (body : Option (List ℕ)) → length h ≡ 0 → KnowsNames old h → SameNames old new → KnowsNames new (h ++ Begun (record { body = body }) ∷ [])
begun_names old new h body none knows same = at h none knows
  where
    no_owner : (o : Owner) (q : List ℕ) → owns (after nothing_yet (Begun (record { body = body }))) o q ≡ false
    no_owner Own q = refl
    no_owner (Peer p) q = ap (λ (r : Row). has in_key r.ins (Chunk q)) (row_in-first_rows (settings_of_body body) p)

    nobody : (o : Owner) (q : List ℕ) → owns nothing_yet o q ≡ false
    nobody Own q = refl
    nobody (Peer p) q = refl

    at : (h : List Change) → length h ≡ 0 → KnowsNames old h → KnowsNames new (h ++ Begun (record { body = body }) ∷ [])
    at [] first knows = record {
      owners = λ o q. same.owners o q ∙ knows.owners o q ∙ nobody o q ∙ sym (no_owner o q);
      held = λ q. ap is_some (same.records q) ∙ knows.held q ∙ sym (none_first (settings_of_body body) q);
      records = λ q k is. knows.records q k (sym (same.records q) ∙ is);
    }
    at (c ∷ h) first knows = absurd (omega (arith, first))

snapped_owns : (s : State) (c : Change) → ((q : List ℕ) → own_has (after s c).own q ≡ own_has s.own q) → (after s c).rows ≡ s.rows → (o : Owner) (q : List ℕ) → owns (after s c) o q ≡ owns s o q
snapped_owns s c own rows Own q = own q
snapped_owns s c own rows (Peer p) q = ap (λ (l : List (ℕ × Row)). has in_key (row_in l p).ins (Chunk q)) rows

-- a change of a peer that brings and takes no chunk leaves the names
still_names : (old new : Store) (h : List Change) (c : Change) (p : ℕ) → is_lawful h ≡ true → allowed (state h) c ≡ true → peer_of c ≡ Some p → gives_up_none c ≡ true → own_after (state h) c ≡ (state h).own → ((q : List ℕ) → Gains (changed (state h) c) q false) → ((q : List ℕ) → brings_name q c ≡ false) → KnowsNames old h → SameNames old new → KnowsNames new (h ++ c ∷ [])
still_names old new h c p lawful may peer none_given own gains none knows same =
    let s = state h in
    let there = ap (of_a_peer s) (sym peer) ∙ (allows s c may).peer in
    let differ : Differ s (after s c) (Peer p) [] false = differ_at s c p [] false (own_stays s c (steady_state h lawful) may none_given ∙ own) peer there gains in
    same_names old new h c none (λ o q. differ.owners o q ∙ or_none (owns s o q)) (λ q. differ.held q ∙ or_none (is_held s q)) knows same

-- with one change more
pub names_grown : (old new : Store) (h : List Change) (c : Change) → is_lawful h ≡ true → allowed (state h) c ≡ true → KnowsNames old h → Enters (state h) old new c (length h) → KnowsNames new (h ++ c ∷ [])
names_grown old new h (Begun x) lawful may knows enters =
    let ts = parts (tests (state h) (Begun x)) (allows (state h) (Begun x) may).tests in
    begun_names old new h x.body (omega (arith, changes_counted h, eqb-true (state h).changes 0 ts.0)) knows enters
names_grown old new h (Kept x) lawful may knows enters =
    let c : Change = Kept x in
    added_names old new h c Own x.name (differ_kept (state h) x.name x.len x.new x.body (steady_state h lawful) may) knows enters (placed old new h c (length h) may knows enters)
names_grown old new h (Snapped x) lawful may knows enters =
    let c : Change = Snapped x in
    let own : (q : List ℕ) → own_has (after (state h) c).own q ≡ own_has (state h).own q = λ q. ap (λ l. own_has l q) (own_stays (state h) c (steady_state h lawful) may refl) ∙ marks_has (λ e. e.marked && not (name_listed x.names e.name)) (state h).own q in
    same_names old new h c (λ q. refl) (snapped_owns (state h) c own refl) (λ q. ap (λ b. b || held_in (state h).rows q) (own q)) knows enters
names_grown old new h (Forgot x) lawful may knows enters =
    let p = steady_state h lawful in
    given_up_names old new h (Forgot x) lawful refl may (λ q. refl)
    (λ q lacks. forgot_has (state h) x.number q p ∙ ap (λ (b : Bool). b && (kept_lists (kept_without x.number (state h).kept) q || is_named (state h).rows q)) lacks)
    (λ r q. refl) knows enters
names_grown old new h (TookFresh x) lawful may knows enters =
    let c : Change = TookFresh x in
    let s = state h in
    added_names old new h c (Peer x.peer) x.name
    (differ_at s c x.peer x.name true (own_stays s c (steady_state h lawful) may refl) refl (allows s c may).peer (λ q. fresh_gains s x.peer x.deal x.name x.first x.len x.new x.body q))
    knows enters (placed old new h c (length h) may knows enters)
names_grown old new h (TookSwap x) lawful may knows enters =
    let c : Change = TookSwap x in
    let s = state h in
    added_names old new h c (Peer x.peer) x.name
    (differ_at s c x.peer x.name true (own_stays s c (steady_state h lawful) may refl) refl (allows s c may).peer (λ q. swap_gains s x.peer x.deal x.name x.slots x.len x.new x.body q))
    knows enters (placed old new h c (length h) may knows enters)
names_grown old new h (LetGo x) lawful may knows enters =
    let c : Change = LetGo x in
    let_go_names old new h c x.peer x.name lawful refl refl (allows (state h) c may).peer (own_stays (state h) c (steady_state h lawful) may refl) may (λ q. refl) (λ q. let_go_loses (state h) x.peer x.deal x.name x.slots q) knows enters
names_grown old new h (LetGoBack x) lawful may knows enters =
    let c : Change = LetGoBack x in
    let_go_names old new h c x.peer x.name lawful refl refl (allows (state h) c may).peer (own_stays (state h) c (steady_state h lawful) may refl) may (λ q. refl) (λ q. put_back_loses (state h) x.peer x.deal x.name x.slots x.body q) knows enters
names_grown old new h (Settled x) lawful may knows enters =
    let c : Change = Settled x in
    let s = state h in
    given_up_names old new h c lawful refl may (λ q. refl) (λ q lacks. ended_has s c q (steady_state h lawful) refl ∙ ap (λ (b : Bool). b && (not (own_marked s.own q) || is_named (all_rows_after s c) q)) lacks)
    (peers_stay s c x.peer refl (allows s c may).peer (λ q. settled_gains s x.peer x.deal x.slots x.body q)) knows enters
names_grown old new h (Turned x) lawful may knows enters =
    let c : Change = Turned x in
    let s = state h in
    given_up_names old new h c lawful refl may (λ q. refl) (λ q lacks. ended_has s c q (steady_state h lawful) refl ∙ ap (λ (b : Bool). b && (not (own_marked s.own q) || is_named (all_rows_after s c) q)) lacks)
    (peers_stay s c x.peer refl (allows s c may).peer (λ q. turned_gains s x.peer x.deal x.why x.detail q)) knows enters
names_grown old new h (Chose x) lawful may knows enters =
    let c : Change = Chose x in
    let own : (q : List ℕ) → own_has (after (state h) c).own q ≡ own_has (state h).own q = λ q. ap (λ l. own_has l q) (own_stays (state h) c (steady_state h lawful) may refl) in
    same_names old new h c (λ q. refl) (snapped_owns (state h) c own refl) (λ q. ap (λ b. b || held_in (state h).rows q) (own q)) knows enters
names_grown old new h (Replaced x) lawful may knows enters = still_names old new h (Replaced x) x.peer lawful may refl refl refl (λ q. still_gains (state h) (Replaced x) q refl refl) (λ q. refl) knows enters
names_grown old new h (Refused x) lawful may knows enters = still_names old new h (Refused x) x.peer lawful may refl refl refl (λ q. still_gains (state h) (Refused x) q refl refl) (λ q. refl) knows enters
names_grown old new h (Proposed x) lawful may knows enters = still_names old new h (Proposed x) x.peer lawful may refl refl refl (λ q. still_gains (state h) (Proposed x) q refl refl) (λ q. refl) knows enters
names_grown old new h (Asked x) lawful may knows enters = still_names old new h (Asked x) x.peer lawful may refl refl refl (λ q. still_gains (state h) (Asked x) q refl refl) (λ q. refl) knows enters
names_grown old new h (Passed x) lawful may knows enters = still_names old new h (Passed x) x.peer lawful may refl refl refl (λ q. still_gains (state h) (Passed x) q refl refl) (λ q. refl) knows enters
names_grown old new h (Failed x) lawful may knows enters = still_names old new h (Failed x) x.peer lawful may refl refl refl (λ q. still_gains (state h) (Failed x) q refl refl) (λ q. refl) knows enters
names_grown old new h (Declined x) lawful may knows enters = still_names old new h (Declined x) x.peer lawful may refl refl refl (λ q. still_gains (state h) (Declined x) q refl refl) (λ q. refl) knows enters
names_grown old new h (Discarded x) lawful may knows enters = discarded_names old enters.0 new h x.peer x.objects lawful may knows enters.1 enters.2

-- a store without names knows the empty history
pub names_start : (store : Store) → ((q : List ℕ) → record_of store q ≡ None) → ((o : Owner) (q : List ℕ) → is_owner store o q ≡ false) → KnowsNames store []
names_start store none nobody = record {
  owners = λ o q. nobody o q ∙ sym (at o q);
  held = λ q. ap is_some (none q);
  records = λ q k is. absurd (let clash : None ≡ Some k = sym (none q) ∙ is in cc);
}
  where
    at : (o : Owner) (q : List ℕ) → owns nothing_yet o q ≡ false
    at Own q = refl
    at (Peer p) q = refl

-- and so does that of a node that has just begun
pub names_begun : (store : Store) (text : List ℕ) → ((q : List ℕ) → record_of store q ≡ None) → ((o : Owner) (q : List ℕ) → is_owner store o q ≡ false) → KnowsNames store (Begun (record { body = Some text }) ∷ [])
names_begun store text none nobody = begun_names store store [] (Some text) refl (names_start store none nobody) (record { owners = λ o q. refl; records = λ q. refl })

-- a name that a change may give to an owner is not the owner's yet
pub is_new : (store : Store) (h : List Change) (s : State) (c : Change) (e : Entering) → KnowsNames store h → s ≡ state h → allowed s c ≡ true → IsEntering s c e → IsNew store e
is_new store h s (Kept x) e knows here may it =
    let c : Change = Kept x in
    let ts = parts (tests s c) (allows s c may).tests in
    subst (IsNew store) (sym it) (knows.owners Own x.name ∙ ap (λ (t : State). owns t Own x.name) (sym here) ∙ not_true (own_has s.own x.name) ts.0)
is_new store h s (Forgot x) e knows here may it = subst (IsNew store) (sym it.1) tt
is_new store h s (TookFresh x) e knows here may it =
    let c : Change = TookFresh x in
    let ts = parts (tests s c) (allows s c may).tests in
    subst (IsNew store) (sym it) (knows.owners (Peer x.peer) x.name ∙ ap (λ (t : State). owns t (Peer x.peer) x.name) (sym here) ∙ not_true (has in_key (row s x.peer).ins (Chunk x.name)) ts.1.0)
is_new store h s (TookSwap x) e knows here may it =
    let c : Change = TookSwap x in
    let ts = parts (tests s c) (allows s c may).tests in
    subst (IsNew store) (sym it) (knows.owners (Peer x.peer) x.name ∙ ap (λ (t : State). owns t (Peer x.peer) x.name) (sym here) ∙ not_true (has in_key (row s x.peer).ins (Chunk x.name)) ts.1.0)
is_new store h s (Discarded x) e knows here may it = subst (IsNew store) (sym it.2) tt
is_new store h s _ e knows here may it = subst (IsNew store) (sym it) tt

-- names that may go, and of which those went that own has no longer
given_up_of : (s : State) (c : Change) (old new : Store) (names : List (List ℕ)) → ((q : List ℕ) → own_has s.own q ≡ true → name_listed names q ≡ false → own_has (after s c).own q ≡ true) → Drops old new Own (λ q. name_listed names q && not (own_has (after s c).own q)) → GivesUp s c old new
given_up_of s c old new names stay drops = record {
  gone = λ q. name_listed names q && not (own_has (after s c).own q);
  are = λ q has. by_cases (name_listed names q) (λ k. rw k refl) (λ k. rw (k, stay q has k) refl);
  drops = drops;
}

-- what was worked out of a change is what the change does
enters_of : (s : State) (old new : Store) (c : Change) (e : Entering) (number : ℕ) → IsSteady s → IsEntering s c e → Enter (after s c).own old new e number → Enters s old new c number
enters_of s old new (Forgot y) e number p it enter =
    given_up_of s (Forgot y) old new it.0 (λ q has other. forgot_has s y.number q p ∙ rw (has, listed q has other) refl) (subst (λ (x : Entering). Enter (after s (Forgot y)).own old new x number) it.1 enter)
  where
    listed : (q : List ℕ) → own_has s.own q ≡ true → name_listed it.0 q ≡ false → kept_lists (kept_without y.number s.kept) q ≡ true
    listed q has other = by_cases (kept_lists (kept_without y.number s.kept) q) (λ k. k) (λ k. absurd (false≢true (sym other ∙ it.2 q has k)))
enters_of s old new (Settled y) e number p it enter =
    let c : Change = Settled y in
    given_up_of s c old new (deal_names s y.peer) (λ n has other. settled_beside s y.peer y.deal y.slots y.body n p other ∙ has) (subst (λ (x : Entering). Enter (after s c).own old new x number) it enter)
enters_of s old new (Turned y) e number p it enter =
    let c : Change = Turned y in
    given_up_of s c old new (deal_names s y.peer) (λ n has other. turned_beside s y.peer y.deal y.why y.detail n p other ∙ has) (subst (λ (x : Entering). Enter (after s c).own old new x number) it enter)
enters_of s old new (Discarded y) e number p it enter =
    let c : Change = Discarded y in
    let done : Enter (after s c).own old new (Discards y.peer it.0 it.1) number = subst (λ (x : Entering). Enter (after s c).own old new x number) it.2 enter in (
      done.0,
      gone_as old done.0 (Peer y.peer) (name_listed it.0) (λ q. listed y.objects (Chunk q)) (λ q. sym (it.3 q)) done.1,
      given_up_of s c done.0 new it.1 (λ q has other. discard_beside s y.peer y.objects q p (sym (it.4 q) ∙ other) ∙ has) done.2,
    )
enters_of s old new c e number p it enter = subst (λ (x : Entering). Enter (after s c).own old new x number) it enter

-- so it is after the change was made of a history
pub enters_after : (s t : State) (h : List Change) (old new : Store) (c : Change) (e : Entering) (number : ℕ) → s ≡ state h → is_lawful h ≡ true → t ≡ after s c → IsEntering s c e → Enter t.own old new e number → Enters s old new c number
enters_after s t h old new c e number here lawful grown it enter =
    enters_of s old new c e number (subst IsSteady (sym here) (steady_state h lawful)) it (subst (λ (x : State). Enter x.own old new e number) grown enter)

pub names_same : (old new : Store) (h : List Change) → SameNames old new → KnowsNames old h → KnowsNames new h
names_same old new h same knows = record {
  owners = λ o q. same.owners o q ∙ knows.owners o q;
  held = λ q. ap is_some (same.records q) ∙ knows.held q;
  records = λ q k is. knows.records q k (sym (same.records q) ∙ is);
}

-- ---- the bodies in the log

pub there_same : (old new : Store) (size : ℕ) (keeps : ℕ → Bool) → SameNames old new → AreThere old size keeps → AreThere new size keeps
there_same old new size keeps same there = λ q k is. there q k (sym (same.records q) ∙ is)

abbrev IsLonger : ℕ → ℕ → (ℕ → Bool) → (ℕ → Bool) → Type 0
IsLonger size more keeps keeps' = (more ≡ size + 1) × ((n : ℕ) → n < size → keeps' n ≡ keeps n) × (keeps' size ≡ true)

still_there : (size more : ℕ) (keeps keeps' : ℕ → Bool) (k : ℕ) → IsLonger size more keeps keeps' → (k < size) × (keeps k ≡ true) → (k < more) × (keeps' k ≡ true)
still_there size more keeps keeps' k longer is = (omega (arith, longer.0, is.0), longer.1 k is.0 ∙ is.1)

by_name : (b : Bool) (size k : ℕ) → cond b (Some size) None ≡ Some k → size ≡ k
by_name true size k is = cc (is)
by_name false size k is = absurd (cc)

added_there : (old new : Store) (owner : Owner) (name : List ℕ) (size more : ℕ) (keeps keeps' : ℕ → Bool) → IsLonger size more keeps keeps' → AreThere old size keeps → Adds old new owner name size → AreThere new more keeps'
added_there old new owner name size more keeps keeps' longer there adds = λ q k here. at q k (record_of old q) (there q) refl (sym (adds.records q) ∙ here)
  where
    at : (q : List ℕ) (k : ℕ) (r : Option ℕ) → ((j : ℕ) → record_of old q ≡ Some j → (j < size) × (keeps j ≡ true)) → record_of old q ≡ r → or_else (record_of old q) (cond (name_eq name q) (Some size) None) ≡ Some k → (k < more) × (keeps' k ≡ true)
    at q k (Some j) all was now =
        let same_k : Some j ≡ Some k = sym (ap (λ (o : Option ℕ). or_else o (cond (name_eq name q) (Some size) None)) was) ∙ now in
        still_there size more keeps keeps' k longer (all k (was ∙ same_k))
    at q k None all was now =
        let k_is : size ≡ k = by_name (name_eq name q) size k (sym (ap (λ (o : Option ℕ). or_else o (cond (name_eq name q) (Some size) None)) was) ∙ now) in
        (omega (arith, longer.0, k_is), subst (λ (i : ℕ). keeps' i ≡ true) k_is longer.2)

-- a log with the record of the change has the bodies of the names after it
pub there_grown : (s : State) (old new : Store) (c : Change) (size more : ℕ) (keeps keeps' : ℕ → Bool) → more ≡ size + 1 → ((n : ℕ) → n < size → keeps' n ≡ keeps n) → keeps' size ≡ true → AreThere old size keeps → Enters s old new c size → AreThere new more keeps'
there_grown s old new (Kept x) size more keeps keeps' longer same last there enters = added_there old new Own x.name size more keeps keeps' (longer, same, last) there enters
there_grown s old new (Forgot x) size more keeps keeps' longer same last there enters = λ q k here. still_there size more keeps keeps' k (longer, same, last) (there q k (left_record old new Own q k (enters.drops.records q) here))
there_grown s old new (TookFresh x) size more keeps keeps' longer same last there enters = added_there old new (Peer x.peer) x.name size more keeps keeps' (longer, same, last) there enters
there_grown s old new (TookSwap x) size more keeps keeps' longer same last there enters = added_there old new (Peer x.peer) x.name size more keeps keeps' (longer, same, last) there enters
there_grown s old new (LetGo x) size more keeps keeps' longer same last there enters = λ q k here. still_there size more keeps keeps' k (longer, same, last) (there q k (left_record old new (Peer x.peer) q k (enters.records q) here))
there_grown s old new (LetGoBack x) size more keeps keeps' longer same last there enters = λ q k here. still_there size more keeps keeps' k (longer, same, last) (there q k (left_record old new (Peer x.peer) q k (enters.records q) here))
there_grown s old new (Settled x) size more keeps keeps' longer same last there enters = λ q k here. still_there size more keeps keeps' k (longer, same, last) (there q k (left_record old new Own q k (enters.drops.records q) here))
there_grown s old new (Turned x) size more keeps keeps' longer same last there enters = λ q k here. still_there size more keeps keeps' k (longer, same, last) (there q k (left_record old new Own q k (enters.drops.records q) here))
there_grown s old new (Discarded x) size more keeps keeps' longer same last there enters = λ q k here. still_there size more keeps keeps' k (longer, same, last) (there q k (left_record old enters.0 (Peer x.peer) q k (enters.1.records q) (left_record enters.0 new Own q k (enters.2.drops.records q) here)))
there_grown s old new _ size more keeps keeps' longer same last there enters = λ q k here. still_there size more keeps keeps' k (longer, same, last) (there q k (sym (enters.records q) ∙ here))
