-- What was passed over stays so through each change, but for what the change starts anew.
use Rattle.std.proofs.Common.{◌≡◌, ℕ, zero, suc, ◌+◌, ◌<◌, Bool, true, false, not, ◌&&◌, ◌==◌, List, [], ◌∷◌, ◌++◌, length, map, take, drop, get_or, slice_set, Option, Some, None, refl, sym, ap, ◌∙◌, subst, arith}
use Rattle.std.specs.Prelude.{find, nat_le}
use Rattle.std.specs.List.{list_all}
use Rattle.std.proofs.lemmas.Bool.{false≢true, eqb-true, leb-true}
use Rattle.std.proofs.lemmas.List.{length-map}
use Rattle.psb_bytes.specs.declared.ids.Object.{Object}
use Rattle.psb_bytes.specs.declared.ids.Object.TheVariants.{Chunk, Slot}
use Rattle.psb_model.specs.declared.entries.OutEntry.{OutEntry}
use Rattle.psb_model.specs.declared.entries.OwnEntry.{OwnEntry}
use Rattle.psb_model.specs.declared.deals.Deal.{Deal}
use Rattle.psb_model.specs.declared.deals.DealWhat.{DealWhat}
use Rattle.psb_model.specs.declared.deals.DealWhat.TheVariants.{Fresh, Swap, Cancel, PutBack, Forward, Return}
use Rattle.psb_model.specs.declared.change.Change.{Change}
use Rattle.psb_model.specs.declared.change.Change.TheVariants.{Begun, Kept, Snapped, Forgot, TookFresh, TookSwap, LetGo, LetGoBack, Replaced, Refused, Proposed, Settled, Turned, Asked, Passed, Failed, Declined, Discarded, Chose}
use Rattle.psb_model.specs.State.{State, row, is_peer, own_marked}
use Rattle.psb_model.specs.Conditions.{peer_of, allowed}
use Rattle.psb_model.specs.Effects.{own_after, kept_after, all_rows_after, after}
use Rattle.psb_model.specs.Proposing.{none_marked, none_missing, is_missing}
use Rattle.psb_model.proofs.ByObject.{by_cases}
use Rattle.psb_model.proofs.Steady.{IsSteady, allows}
use Rattle.psb_model.proofs.Passing.{settles_marked, settles_release, places_marked, releases, still_unmarked, still_not_missing, chosen_unmarked, chosen_not_missing}
use Rattle.next_deals.specs.Searches.{is_past, is_past_own, at_start, search_in, IsSearched, settled_restarts, restarts_of, restarted, all_restarted, missing_from, with_row}
use Rattle.next_deals.proofs.Reaching.{fewer_units}
use Rattle.next_deals.specs.declared.search.Search.{Search}
use Rattle.next_deals.specs.declared.search.Restarts.{Restarts}
use Rattle.next_deals.specs.declared.search.Restarts.TheVariants.{Nothing, All, Marked, Missing}

-- ---- rows

-- a search at its start has passed nothing
pub start_unmarked : (own : List OwnEntry) (outs : List OutEntry) → none_marked (is_past None) own outs ≡ true
start_unmarked own [] = refl
start_unmarked own (e ∷ es) = by_object e.object (start_unmarked own es)
  where
    by_object : (o : Object) → none_marked (is_past None) own es ≡ true → (elim o [ Chunk n ↦ not (is_past None n && own_marked own n) | Slot n ↦ true ] && none_marked (is_past None) own es) ≡ true
    by_object (Chunk n) h = h
    by_object (Slot n) h = h

pub start_not_missing : (most : ℕ) (s : State) (q : ℕ) → none_missing (is_past_own None most) s q ≡ true
start_not_missing most s q = over s.own
  where
    over : (l : List OwnEntry) → list_all (λ (e : OwnEntry). not (is_past_own None most e && is_missing s q e.name)) l ≡ true
    over [] = refl
    over (e ∷ es) = over es

-- nothing was passed where no search was begun
pub none_searched : (s : State) → IsSearched s []
none_searched s = record { marked = λ q. start_unmarked s.own (row s q).outs; missing = λ q. start_not_missing 0 s q }

-- the row of a peer, after each was started anew
passed_restarted : (what : Restarts) (l : List Search) (q : ℕ) → search_in (all_restarted what l) q ≡ restarted what q (search_in l q)
passed_restarted what [] q = none what
  where
    none : (what : Restarts) → at_start q ≡ restarted what q (at_start q)
    none Nothing = refl
    none All = refl
    none (Marked p) = by_cases (p == q) (λ k. rw k refl) (λ k. rw k refl)
    none (Missing p) = by_cases (p == q) (λ k. rw k refl) (λ k. rw k refl)
passed_restarted what (x ∷ xs) q =
    by_cases (x.peer == q)
    (λ k. let same : x.peer ≡ q = eqb-true x.peer q k in rw (same_peer what x.peer x refl ∙ k, k) (ap (λ p. restarted what p x) same))
    (λ k. rw (same_peer what x.peer x refl ∙ k, k) (passed_restarted what xs q))
  where
    same_peer : (what : Restarts) (p : ℕ) (y : Search) → y.peer ≡ p → ((restarted what p y).peer == q) ≡ (p == q)
    same_peer Nothing p y e = ap (λ n. n == q) e
    same_peer All p y e = refl
    same_peer (Marked r) p y e = by_cases (r == p) (λ k. rw k (ap (λ n. n == q) e)) (λ k. rw k (ap (λ n. n == q) e))
    same_peer (Missing r) p y e = by_cases (r == p) (λ k. rw k (ap (λ n. n == q) e)) (λ k. rw k (ap (λ n. n == q) e))

-- ---- a deal that is settled

places : (s : State) (p : ℕ) (o : Option Deal) → settles_marked s o ≡ true → settled_restarts s p o ≡ Marked p
places s p None h = absurd (false≢true h)
places s p (Some d) h = by_what d.what h
  where
    by_what : (what : DealWhat) → settles_marked s (Some (record { number = d.number; what = what })) ≡ true → settled_restarts s p (Some (record { number = d.number; what = what })) ≡ Marked p
    by_what (Fresh name) h = rw h refl
    by_what (Swap name numbers) h = rw h refl
    by_what (Cancel name numbers) h = absurd (false≢true h)
    by_what (PutBack name first) h = absurd (false≢true h)
    by_what (Forward slot entry) h = absurd (false≢true h)
    by_what (Return slot) h = absurd (false≢true h)

takes_away : (s : State) (p : ℕ) (o : Option Deal) → settles_release o ≡ true → settled_restarts s p o ≡ Missing p
takes_away s p None h = absurd (false≢true h)
takes_away s p (Some d) h = by_what d.what h
  where
    by_what : (what : DealWhat) → settles_release (Some (record { number = d.number; what = what })) ≡ true → settled_restarts s p (Some (record { number = d.number; what = what })) ≡ Missing p
    by_what (Fresh name) h = absurd (false≢true h)
    by_what (Swap name numbers) h = absurd (false≢true h)
    by_what (Cancel name numbers) h = refl
    by_what (PutBack name first) h = refl
    by_what (Forward slot entry) h = absurd (false≢true h)
    by_what (Return slot) h = absurd (false≢true h)

-- ---- each search after a change

-- where it is not started anew, it stands where it stood
marked_place : (what : Restarts) (q : ℕ) (x : Search) (P : Option (List ℕ) → Type 0) → P None → P x.marked → P (restarted what q x).marked
marked_place Nothing q x P start was = was
marked_place All q x P start was = start
marked_place (Marked p) q x P start was = by_cases (p == q) (λ k. rw k start) (λ k. rw k was)
marked_place (Missing p) q x P start was = by_cases (p == q) (λ k. rw k was) (λ k. rw k was)

of_peer : (s : State) (c : Change) (p : ℕ) (l : List Search) → IsSteady s → peer_of c ≡ Some p → is_peer s p ≡ true → own_after s c ≡ s.own → kept_after s c ≡ s.kept
    → (places_marked s c ≡ true → restarts_of s c ≡ Marked p) → (releases s c ≡ true → restarts_of s c ≡ Missing p) → IsSearched s l → IsSearched (after s c) (all_restarted (restarts_of s c) l)
of_peer s c p l steady e here own kept marks frees was = record { marked = marked; missing = missing }
  where
    at : (q : ℕ) → search_in (all_restarted (restarts_of s c) l) q ≡ restarted (restarts_of s c) q (search_in l q)
    at q = passed_restarted (restarts_of s c) l q

    anew_marked : (q : ℕ) → (p == q) ≡ true → places_marked s c ≡ true → (restarted (restarts_of s c) q (search_in l q)).marked ≡ None
    anew_marked q same k = rw (marks k) (rw same refl)

    anew_missing : (q : ℕ) → (p == q) ≡ true → releases s c ≡ true → (restarted (restarts_of s c) q (search_in l q)).missing ≡ None
    anew_missing q same k = rw (frees k) (rw same refl)

    not_both : (x : Bool) → (x ≡ true → ⊥) → x ≡ false
    not_both true f = absurd (f refl)
    not_both false f = refl

    stays_marked : (q : ℕ) → ((p == q) ≡ true → places_marked s c ≡ false) → none_marked (is_past (restarted (restarts_of s c) q (search_in l q)).marked) (after s c).own (row (after s c) q).outs ≡ true
    stays_marked q quiet =
        marked_place (restarts_of s c) q (search_in l q) (λ m. none_marked (is_past m) (after s c).own (row (after s c) q).outs ≡ true)
        (start_unmarked (after s c).own (row (after s c) q).outs)
        (still_unmarked (is_past (search_in l q).marked) s c p q steady e here own quiet (was.marked q))

    marked : (q : ℕ) → none_marked (is_past (search_in (all_restarted (restarts_of s c) l) q).marked) (after s c).own (row (after s c) q).outs ≡ true
    marked q = subst (λ (x : Search). none_marked (is_past x.marked) (after s c).own (row (after s c) q).outs ≡ true) (sym (at q))
        (by_cases (places_marked s c)
        (λ k. by_cases (p == q)
        (λ same. subst (λ m. none_marked (is_past m) (after s c).own (row (after s c) q).outs ≡ true) (sym (anew_marked q same k)) (start_unmarked (after s c).own (row (after s c) q).outs))
        (λ other. stays_marked q (λ same. absurd (false≢true (sym other ∙ same)))))
        (λ k. stays_marked q (λ same. k)))

    stays_missing : (q : ℕ) → ((p == q) ≡ true → releases s c ≡ false) → none_missing (is_past_own (restarted (restarts_of s c) q (search_in l q)).missing (restarted (restarts_of s c) q (search_in l q)).most) (after s c) q ≡ true
    stays_missing q quiet = by_what (restarts_of s c) (still_not_missing (is_past_own (search_in l q).missing (search_in l q).most) s c p q e here own kept quiet (was.missing q))
      where
        by_what : (what : Restarts) → none_missing (is_past_own (search_in l q).missing (search_in l q).most) (after s c) q ≡ true → none_missing (is_past_own (restarted what q (search_in l q)).missing (restarted what q (search_in l q)).most) (after s c) q ≡ true
        by_what Nothing h = h
        by_what All h = start_not_missing 0 (after s c) q
        by_what (Marked r) h = by_cases (r == q) (λ k. rw k h) (λ k. rw k h)
        by_what (Missing r) h = by_cases (r == q) (λ k. rw k (start_not_missing (search_in l q).most (after s c) q)) (λ k. rw k h)

    missing : (q : ℕ) → none_missing (is_past_own (search_in (all_restarted (restarts_of s c) l) q).missing (search_in (all_restarted (restarts_of s c) l) q).most) (after s c) q ≡ true
    missing q = subst (λ (x : Search). none_missing (is_past_own x.missing x.most) (after s c) q ≡ true) (sym (at q))
        (by_cases (releases s c)
        (λ k. by_cases (p == q)
        (λ same. subst (λ m. none_missing (is_past_own m (restarted (restarts_of s c) q (search_in l q)).most) (after s c) q ≡ true) (sym (anew_missing q same k)) (start_not_missing (restarted (restarts_of s c) q (search_in l q)).most (after s c) q))
        (λ other. stays_missing q (λ same. absurd (false≢true (sym other ∙ same)))))
        (λ k. stays_missing q (λ same. k)))

all_anew : (s : State) (l : List Search) → IsSearched s (all_restarted All l)
all_anew s l = record {
  marked = λ q. subst (λ (x : Search). none_marked (is_past x.marked) s.own (row s q).outs ≡ true) (sym (passed_restarted All l q)) (start_unmarked s.own (row s q).outs);
  missing = λ q. subst (λ (x : Search). none_missing (is_past_own x.missing x.most) s q ≡ true) (sym (passed_restarted All l q)) (start_not_missing 0 s q);
}

chosen : (s : State) (c : Change) (l : List Search) → IsSteady s → own_after s c ≡ s.own → kept_after s c ≡ s.kept → all_rows_after s c ≡ s.rows → IsSearched s l → IsSearched (after s c) (all_restarted Nothing l)
chosen s c l steady own kept rows was = record {
  marked = λ q. subst (λ (x : Search). none_marked (is_past x.marked) (after s c).own (row (after s c) q).outs ≡ true) (sym (passed_restarted Nothing l q)) (chosen_unmarked (is_past (search_in l q).marked) s c q steady own rows (was.marked q));
  missing = λ q. subst (λ (x : Search). none_missing (is_past_own x.missing x.most) (after s c) q ≡ true) (sym (passed_restarted Nothing l q)) (chosen_not_missing (is_past_own (search_in l q).missing (search_in l q).most) s c q own kept rows (was.missing q));
}

pub passed_after : (s : State) (c : Change) (l : List Search) → IsSteady s → allowed s c ≡ true → IsSearched s l → IsSearched (after s c) (all_restarted (restarts_of s c) l)
passed_after s (Begun x) l steady h was = all_anew (after s (Begun x)) l
passed_after s (Kept x) l steady h was = all_anew (after s (Kept x)) l
passed_after s (Snapped x) l steady h was = all_anew (after s (Snapped x)) l
passed_after s (Forgot x) l steady h was = all_anew (after s (Forgot x)) l
passed_after s (Chose x) l steady h was = chosen s (Chose x) l steady refl refl refl was
passed_after s (TookFresh x) l steady h was = let c : Change = TookFresh x in of_peer s c x.peer l steady refl (allows s c h).peer refl refl (λ k. absurd (false≢true k)) (λ k. absurd (false≢true k)) was
passed_after s (TookSwap x) l steady h was = let c : Change = TookSwap x in of_peer s c x.peer l steady refl (allows s c h).peer refl refl (λ k. absurd (false≢true k)) (λ k. absurd (false≢true k)) was
passed_after s (LetGo x) l steady h was = let c : Change = LetGo x in of_peer s c x.peer l steady refl (allows s c h).peer refl refl (λ k. absurd (false≢true k)) (λ k. absurd (false≢true k)) was
passed_after s (LetGoBack x) l steady h was = let c : Change = LetGoBack x in of_peer s c x.peer l steady refl (allows s c h).peer refl refl (λ k. absurd (false≢true k)) (λ k. absurd (false≢true k)) was
passed_after s (Refused x) l steady h was = let c : Change = Refused x in of_peer s c x.peer l steady refl (allows s c h).peer refl refl (λ k. absurd (false≢true k)) (λ k. absurd (false≢true k)) was
passed_after s (Proposed x) l steady h was = let c : Change = Proposed x in of_peer s c x.peer l steady refl (allows s c h).peer refl refl (λ k. absurd (false≢true k)) (λ k. absurd (false≢true k)) was
passed_after s (Turned x) l steady h was = let c : Change = Turned x in of_peer s c x.peer l steady refl (allows s c h).peer refl refl (λ k. absurd (false≢true k)) (λ k. absurd (false≢true k)) was
passed_after s (Settled x) l steady h was = let c : Change = Settled x in of_peer s c x.peer l steady refl (allows s c h).peer refl refl (places s x.peer (row s x.peer).pending) (takes_away s x.peer (row s x.peer).pending) was
passed_after s (Replaced x) l steady h was = let c : Change = Replaced x in of_peer s c x.peer l steady refl (allows s c h).peer refl refl (λ k. absurd (false≢true k)) (λ k. absurd (false≢true k)) was
passed_after s (Asked x) l steady h was = let c : Change = Asked x in of_peer s c x.peer l steady refl (allows s c h).peer refl refl (λ k. absurd (false≢true k)) (λ k. absurd (false≢true k)) was
passed_after s (Failed x) l steady h was = let c : Change = Failed x in of_peer s c x.peer l steady refl (allows s c h).peer refl refl (λ k. absurd (false≢true k)) (λ k. absurd (false≢true k)) was
passed_after s (Declined x) l steady h was = let c : Change = Declined x in of_peer s c x.peer l steady refl (allows s c h).peer refl refl (λ k. absurd (false≢true k)) (λ k. absurd (false≢true k)) was
passed_after s (Passed x) l steady h was = let c : Change = Passed x in of_peer s c x.peer l steady refl (allows s c h).peer refl refl (λ k. refl) (λ k. absurd (false≢true k)) was
passed_after s (Discarded x) l steady h was = let c : Change = Discarded x in of_peer s c x.peer l steady refl (allows s c h).peer refl refl (λ k. absurd (false≢true k)) (λ k. refl) was

-- before the first change
pub passed_none : (s : State) → IsSearched s []
passed_none s = record { marked = λ q. start_unmarked s.own (row s q).outs; missing = λ q. start_not_missing 0 s q }

pub carried : (s t : State) (l m : List Search) → t ≡ s → m ≡ l → IsSearched s l → IsSearched t m
carried s t l m state rows was = subst (λ (u : State). IsSearched u m) (sym state) (subst (IsSearched s) (sym rows) was)

-- rows that were added
pub passed_same : (s : State) (l m : List Search) → ((q : ℕ) → search_in m q ≡ search_in l q) → IsSearched s l → IsSearched s m
passed_same s l m same was = record {
  marked = λ q. subst (λ (x : Search). none_marked (is_past x.marked) s.own (row s q).outs ≡ true) (sym (same q)) (was.marked q);
  missing = λ q. subst (λ (x : Search). none_missing (is_past_own x.missing x.most) s q ≡ true) (sym (same q)) (was.missing q);
}

pub row_added : (l : List Search) (p q : ℕ) → search_in (l ++ at_start p ∷ []) q ≡ search_in l q
row_added [] p q = by_cases (p == q) (λ k. rw k (ap at_start (eqb-true p q k))) (λ k. rw k refl)
row_added (x ∷ xs) p q = by_cases (x.peer == q) (λ k. rw k refl) (λ k. rw k (row_added xs p q))

-- ---- a search that went on

-- a missing chunk is looked for from a place up to which none was found
pub passed_from : (s : State) (l : List Search) (q most : ℕ) → IsSearched s l → none_missing (is_past_own (missing_from (search_in l q) most) most) s q ≡ true
passed_from s l q most was =
    by_cases (nat_le most (search_in l q).most)
    (λ k. rw k (fewer_units s q (search_in l q).most most (search_in l q).missing (leb-true most (search_in l q).most k) (was.missing q)))
    (λ k. rw k (start_not_missing most s q))

row_put : (P : Search → Type 0) (x : Search) (l : List Search) (q : ℕ) → (x.peer ≡ q → P x) → P (search_in l q) → P (search_in (map (with_row x) l) q)
row_put P x [] q new old = old
row_put P x (y ∷ ys) q new old =
    by_cases (y.peer == x.peer)
    (λ k. by_cases (x.peer == q)
    (λ j. rw (k, j) (new (eqb-true x.peer q j)))
    (λ j. let other : (y.peer == q) ≡ false = ap (λ n. n == q) (eqb-true y.peer x.peer k) ∙ j in let old' : P (search_in ys q) = rw other at old in rw (k, j) (row_put P x ys q new old')))
    (λ k. by_cases (y.peer == q)
    (λ j. let old' : P y = rw j at old in rw (k, j) old')
    (λ j. let old' : P (search_in ys q) = rw j at old in rw (k, j) (row_put P x ys q new old')))

pub passed_put : (s : State) (l : List Search) (x : Search) → IsSearched s l → none_marked (is_past x.marked) s.own (row s x.peer).outs ≡ true → none_missing (is_past_own x.missing x.most) s x.peer ≡ true → IsSearched s (map (with_row x) l)
passed_put s l x was marked missing = record {
  marked = λ q. row_put (λ y. none_marked (is_past y.marked) s.own (row s q).outs ≡ true) x l q (λ same. subst (λ p. none_marked (is_past x.marked) s.own (row s p).outs ≡ true) same marked) (was.marked q);
  missing = λ q. row_put (λ y. none_missing (is_past_own y.missing y.most) s q ≡ true) x l q (λ same. subst (λ p. none_missing (is_past_own x.missing x.most) s p ≡ true) same missing) (was.missing q);
}

-- ---- rows that are changed one after another

pub map_on : {X : Type 0} (f : X → X) (old : List X) (i : ℕ) (d x : X) → i < length old → x ≡ f (get_or (map f (take i old) ++ drop i old) i d) → slice_set (map f (take i old) ++ drop i old) i x ≡ map f (take (i + 1) old) ++ drop (i + 1) old
map_on f [] i d x lt is = absurd (omega (arith, lt))
map_on f (o ∷ os) zero d x lt is = ap (λ y. y ∷ os) is
map_on f (o ∷ os) (suc i) d x lt is =
    let more : suc i + 1 ≡ suc (i + 1) = omega arith in
    rw more (ap (λ l. f o ∷ l) (map_on f os i d x (omega (arith, lt)) is))

-- a row that was found
abbrev pub row_or : Option Search → ℕ → Search
row_or None q = at_start q
row_or (Some x) q = x

pub row_found : (l : List Search) (q : ℕ) → row_or (find (λ (x : Search). x.peer == q) l) q ≡ search_in l q
row_found [] q = refl
row_found (x ∷ xs) q = by_cases (x.peer == q) (λ k. rw k refl) (λ k. rw k (row_found xs q))

-- the rows that were changed stand in the place of the old ones
pub written_back : (f : Search → Search) (items new : List Search) (n : ℕ) → length items ≡ n → new ≡ map f items → take n (new ++ drop (length new) items) ≡ map f items
written_back f items new n long is = ap (λ (l : List Search). take n (l ++ drop (length l) items)) is ∙ front n (map f items) _ (length-map items f ∙ long)
  where
    front : (n : ℕ) (a b : List Search) → length a ≡ n → take n (a ++ b) ≡ a
    front zero [] b h = refl
    front zero (x ∷ xs) b h = absurd (omega (arith, h))
    front (suc n) [] b h = absurd (omega (arith, h))
    front (suc n) (x ∷ xs) b h = ap (λ l. x ∷ l) (front n xs b (omega (arith, h)))
