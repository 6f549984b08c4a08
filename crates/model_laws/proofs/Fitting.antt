-- Numbers that stay small in each lawful history: the length of an own chunk, the units of
-- an entry there, and the number of an own deal.
use Rattle.std.proofs.Common.{◌≡◌, ℕ, ◌+◌, ◌≤◌, Bool, true, false, not, cond, List, [], ◌∷◌, Option, Some, None, refl, sym, ap, ◌∙◌, subst, arith}
use Rattle.std.specs.Prelude.{zero, suc, ◌==◌, nat_le, if◌then◌else◌}
use Rattle.std.specs.List.{list_all}
use Rattle.std.specs.Ordering.{is_lt, nat_cmp}
use Rattle.std.specs.Cmp.Lexicographic.{slice_cmp}
use Rattle.std.proofs.lemmas.Bool.{and_parts, leb-true, le-leb, eqb-true}
use Rattle.psb_bytes.specs.declared.ids.Object.{Object}
use Rattle.psb_bytes.specs.declared.ids.Object.TheVariants.{Chunk}
use Rattle.psb_bytes.specs.Tickets.{is_chunk_len}
use Rattle.psb_model.specs.declared.entries.OutEntry.{OutEntry}
use Rattle.psb_model.specs.declared.entries.OwnEntry.{OwnEntry}
use Rattle.psb_model.specs.declared.deals.Deal.{Deal}
use Rattle.psb_model.specs.declared.deals.DealWhat.{DealWhat}
use Rattle.psb_model.specs.declared.deals.DealWhat.TheVariants.{Fresh, Swap, Cancel, PutBack, Forward, Return}
use Rattle.psb_model.specs.declared.change.Change.{Change}
use Rattle.psb_model.specs.declared.change.Change.TheVariants.{Begun, Kept, Snapped, Forgot, TookFresh, TookSwap, LetGo, LetGoBack, Replaced, Refused, Proposed, Settled, Turned, Asked, Passed, Failed, Declined, Discarded, Chose}
use Rattle.psb_model.specs.declared.entries.DebtEntry.{DebtEntry}
use Rattle.psb_model.specs.Words.{units, units_at, listed, slots, name_eq, with_one, with_all, without}
use Rattle.psb_model.specs.State.{Row, State, nothing_yet, row, is_peer, out_key, out_size, own_len}
use Rattle.psb_model.specs.Grammar.{in_grammar, body_fits}
use Rattle.psb_model.specs.Conditions.{peer_of, settings_of_body, declined_objects, tests, allowed}
use Rattle.psb_model.specs.Move.{after_move}
use Rattle.psb_model.specs.Effects.{chunk_out, own_slot, own_slots, own_with, set_marks, own_after, settle_move, move_of, after}
use Rattle.psb_model.specs.History.{state_from, lawful_from, state, is_lawful}
use Rattle.psb_model.proofs.ByObject.{by_cases, all_with_one, all_kept}
use Rattle.psb_model.proofs.Steps.{parts}
use Rattle.psb_model.proofs.Rows.{row_in-first_rows, note_lists}
use Rattle.psb_model.proofs.Prefixes.{lawful_cons}
use Rattle.psb_model.proofs.Bare.{bare, bare_out, bare_debt, all_bare, changed, row_bare}
use Rattle.psb_model.proofs.Steady.{allows}
use Rattle.model_laws.proofs.Losing.{regained, debts_pass}

-- an entry, and a row of debt, has no more units than the longest chunk
abbrev is_few : Object → ℕ → Bool
is_few o u = nat_le u 64

abbrev pub is_small : OutEntry → Bool
is_small e = nat_le e.units 64

abbrev pub is_small_debt : DebtEntry → Bool
is_small_debt d = nat_le d.units 64

abbrev pub is_fit_len : OwnEntry → Bool
is_fit_len e = nat_le e.len 32768

pub record IsFitRow (changes : ℕ) (r : Row) : Type 0 where
  pub mine : r.mine ≤ changes
  pub small : list_all is_small r.outs ≡ true
  pub owed : list_all is_small_debt r.debts ≡ true

pub record IsFit (s : State) : Type 0 where
  pub rows : (q : ℕ) → IsFitRow s.changes (row s q)
  pub own : list_all is_fit_len s.own ≡ true

-- ---- lists

small_less : (gone : List Object) (l : List OutEntry) → list_all is_small l ≡ true → list_all is_small (without out_key gone l) ≡ true
small_less gone l h = all_kept is_small (λ (e : OutEntry). not (listed gone (out_key e))) l h

all_slots : (first u : ℕ) (l : List OutEntry) → list_all is_small l ≡ true → list_all is_small (with_all out_key (own_slots first u) l) ≡ true
all_slots first zero l h = h
all_slots first (suc u) l h = all_slots (first + 1) u (with_one out_key (own_slot first) l) (all_with_one out_key is_small (own_slot first) l refl h)

all_own : (e : OwnEntry) (l : List OwnEntry) → is_fit_len e ≡ true → list_all is_fit_len l ≡ true → list_all is_fit_len (own_with e l) ≡ true
all_own e [] h k = rw h refl
all_own e (x ∷ xs) h k =
    let two = and_parts (is_fit_len x) (list_all is_fit_len xs) k in
    by_cases (is_lt (slice_cmp nat_cmp e.name x.name)) (λ j. rw (j, h) k) (λ j. rw (j, two.0) (all_own e xs h two.1))

all_marked : (mark : OwnEntry → Bool) (l : List OwnEntry) → list_all is_fit_len l ≡ true → list_all is_fit_len (set_marks mark l) ≡ true
all_marked mark [] h = refl
all_marked mark (x ∷ xs) h = let a = and_parts (is_fit_len x) (list_all is_fit_len xs) h in rw a.0 (all_marked mark xs a.1)

pub few_units : (len : ℕ) → len ≤ 32768 → units len ≤ 64
few_units len h = omega (arith, h)

pub len_fits : (l : List OwnEntry) (n : List ℕ) → list_all is_fit_len l ≡ true → own_len l n ≤ 32768
len_fits [] n h = omega arith
len_fits (e ∷ es) n h =
    let a = and_parts (is_fit_len e) (list_all is_fit_len es) h in
    by_cases (name_eq e.name n) (λ k. rw k (leb-true e.len 32768 a.0)) (λ k. rw k (len_fits es n a.1))

chunk_small : (s : State) (name : List ℕ) → list_all is_fit_len s.own ≡ true → is_small (chunk_out name (units (own_len s.own name))) ≡ true
chunk_small s name h = le-leb (units (own_len s.own name)) 64 (few_units (own_len s.own name) (len_fits s.own name h))

-- ---- a change of the peer

settles : (s : State) (r : Row) (o : Option Deal) (numbers : List ℕ) → list_all is_fit_len s.own ≡ true → list_all is_small r.outs ≡ true → list_all is_small (after_move (settle_move s r o numbers) r).outs ≡ true
settles s r None numbers own h = small_less [] r.outs h
settles s r (Some d) numbers own h = by_what d.what
  where
    by_what : (what : DealWhat) → list_all is_small (after_move (settle_move s r (Some (record { number = d.number; what = what })) numbers) r).outs ≡ true
    by_what (Fresh name) = all_with_one out_key is_small (chunk_out name (units (own_len s.own name))) (without out_key [] r.outs) (chunk_small s name own) (small_less [] r.outs h)
    by_what (Swap name mine) = all_with_one out_key is_small (chunk_out name (units (own_len s.own name))) (without out_key (slots mine) r.outs) (chunk_small s name own) (small_less (slots mine) r.outs h)
    by_what (Cancel name theirs) = small_less (Chunk name ∷ []) r.outs h
    by_what (PutBack name first) = all_slots first (units_at out_key out_size r.outs (Chunk name)) (without out_key (Chunk name ∷ []) r.outs) (small_less (Chunk name ∷ []) r.outs h)
    by_what (Forward slot entry) = small_less [] r.outs h
    by_what (Return slot) = small_less [] r.outs h

row_fits : (s : State) (c : Change) (p : ℕ) → IsFit s → allowed s c ≡ true → peer_of c ≡ Some p → IsFitRow (s.changes + 1) (changed s c (row s p))
row_fits s c p f h e = record {
  mine = mine_fits s c p f h e;
  small = ap (list_all is_small) (note_lists s c (after_move (move_of s c) (row s p))).outs ∙ outs_fit s c p f e;
  owed = debts_pass is_few s c (row s p) (λ q. (f.rows q).small) (f.rows p).owed;
}
  where
    mine_fits : (s : State) (c : Change) (p : ℕ) → IsFit s → allowed s c ≡ true → peer_of c ≡ Some p → (changed s c (row s p)).mine ≤ s.changes + 1
    mine_fits s (Proposed x) p f h e =
        let ts = parts (tests s (Proposed x)) (allows s (Proposed x) h).tests in
        let next : x.deal ≡ (row s x.peer).mine + 1 = eqb-true x.deal ((row s x.peer).mine + 1) ts.0 in
        omega (arith, next, (f.rows x.peer).mine)
    mine_fits s (Passed x) p f h e = by_cases (x.asked == 0) (λ k. rw k (omega (arith, (f.rows p).mine))) (λ k. rw k (omega (arith, (f.rows p).mine)))
    mine_fits s (TookFresh x) p f h e = omega (arith, (f.rows p).mine)
    mine_fits s (TookSwap x) p f h e = omega (arith, (f.rows p).mine)
    mine_fits s (LetGo x) p f h e = omega (arith, (f.rows p).mine)
    mine_fits s (LetGoBack x) p f h e = omega (arith, (f.rows p).mine)
    mine_fits s (Replaced x) p f h e = omega (arith, (f.rows p).mine)
    mine_fits s (Refused x) p f h e = omega (arith, (f.rows p).mine)
    mine_fits s (Settled x) p f h e = omega (arith, (f.rows p).mine)
    mine_fits s (Turned x) p f h e = omega (arith, (f.rows p).mine)
    mine_fits s (Asked x) p f h e = omega (arith, (f.rows p).mine)
    mine_fits s (Failed x) p f h e = omega (arith, (f.rows p).mine)
    mine_fits s (Declined x) p f h e = omega (arith, (f.rows p).mine)
    mine_fits s (Discarded x) p f h e = omega (arith, (f.rows p).mine)
    mine_fits s _ p f h e = omega (arith, (f.rows p).mine)

    outs_fit : (s : State) (c : Change) (p : ℕ) → IsFit s → peer_of c ≡ Some p → list_all is_small (after_move (move_of s c) (row s p)).outs ≡ true
    outs_fit s (TookFresh x) p f e = all_slots x.first (units x.len) _ (small_less [] (row s p).outs (f.rows p).small)
    outs_fit s (LetGo x) p f e = small_less (slots x.slots) (row s p).outs (f.rows p).small
    outs_fit s (Settled y) p f e =
        let same : y.peer ≡ p = cc (e) in
        subst (λ x. list_all is_small (after_move (settle_move s (row s x) (row s x).pending y.slots) (row s p)).outs ≡ true) (sym same) (settles s (row s p) (row s p).pending y.slots f.own (f.rows p).small)
    outs_fit s (Passed y) p f e = regained is_few y.objects (row s y.peer).debts (without out_key [] (row s p).outs) (f.rows y.peer).owed (small_less [] (row s p).outs (f.rows p).small)
    outs_fit s (Failed x) p f e = small_less x.objects (row s p).outs (f.rows p).small
    outs_fit s (Declined x) p f e = small_less (declined_objects s x.peer x.asked x.places) (row s p).outs (f.rows p).small
    outs_fit s _ p f e = small_less [] (row s p).outs (f.rows p).small

-- ---- every change

own_fits : (s : State) (c : Change) → IsFit s → in_grammar c ≡ true → list_all is_fit_len (own_after s c) ≡ true
own_fits s (Kept x) f g =
    let a = and_parts (is_chunk_len x.len) (body_fits (if x.new then x.len else 0) x.body) g in
    all_own (record { name = x.name; len = x.len; marked = false }) s.own (and_parts (nat_le 1 x.len) (nat_le x.len 32768) a.0).1 f.own
own_fits s (Snapped x) f g = all_marked _ s.own f.own
own_fits s (Forgot x) f g = all_marked _ s.own f.own
own_fits s _ f g = f.own

later : (changes : ℕ) (r : Row) → IsFitRow changes r → IsFitRow (changes + 1) r
later changes r f = record { mine = omega (arith, f.mine); small = f.small; owed = f.owed }

after_fits : (s : State) (c : Change) → IsFit s → in_grammar c ≡ true → ((q : ℕ) → IsFitRow (s.changes + 1) (row (after s c) q)) → IsFit (after s c)
after_fits s c f g rows = record { rows = rows; own = all_kept is_fit_len _ (own_after s c) (own_fits s c f g) }

-- states of entries do not matter
fits_bare : (changes : ℕ) (r r' : Row) → bare r ≡ bare r' → IsFitRow changes r' → IsFitRow changes r
fits_bare changes r r' e f = record {
  mine = omega (arith, ap (λ (x : Row). x.mine) e, f.mine);
  small = sym (all_bare bare_out is_small (λ x. refl) r.outs) ∙ ap (λ (x : Row). list_all is_small x.outs) e ∙ all_bare bare_out is_small (λ x. refl) r'.outs ∙ f.small;
  owed = sym (all_bare bare_debt is_small_debt (λ x. refl) r.debts) ∙ ap (λ (x : Row). list_all is_small_debt x.debts) e ∙ all_bare bare_debt is_small_debt (λ x. refl) r'.debts ∙ f.owed;
}

of_peer : (s : State) (c : Change) (p : ℕ) → IsFit s → in_grammar c ≡ true → allowed s c ≡ true → peer_of c ≡ Some p → is_peer s p ≡ true → IsFit (after s c)
of_peer s c p f g h e here = after_fits s c f g (λ q. fits_bare (s.changes + 1) (row (after s c) q) (cond (p == q) (changed s c (row s q)) (row s q)) (row_bare s c p q e here) (by_peer q))
  where
    by_peer : (q : ℕ) → IsFitRow (s.changes + 1) (cond (p == q) (changed s c (row s q)) (row s q))
    by_peer q = by_cases (p == q)
        (λ k. rw k (subst (λ x. IsFitRow (s.changes + 1) (changed s c (row s x))) (eqb-true p q k) (row_fits s c p f h e)))
        (λ k. rw k (later s.changes (row s q) (f.rows q)))

fit_after : (s : State) (c : Change) → IsFit s → in_grammar c ≡ true → allowed s c ≡ true → IsFit (after s c)
fit_after s (Begun x) f g h = after_fits s (Begun x) f g (λ q. subst (IsFitRow (s.changes + 1)) (sym (row_in-first_rows (settings_of_body x.body) q)) (record { mine = omega arith; small = refl; owed = refl }))
fit_after s (Kept x) f g h = after_fits s (Kept x) f g (λ q. later s.changes (row s q) (f.rows q))
fit_after s (Snapped x) f g h = after_fits s (Snapped x) f g (λ q. later s.changes (row s q) (f.rows q))
fit_after s (Forgot x) f g h = after_fits s (Forgot x) f g (λ q. later s.changes (row s q) (f.rows q))
fit_after s (Chose x) f g h = after_fits s (Chose x) f g (λ q. later s.changes (row s q) (f.rows q))
fit_after s (TookFresh x) f g h = let c : Change = TookFresh x in of_peer s c x.peer f g h refl (allows s c h).peer
fit_after s (TookSwap x) f g h = let c : Change = TookSwap x in of_peer s c x.peer f g h refl (allows s c h).peer
fit_after s (LetGo x) f g h = let c : Change = LetGo x in of_peer s c x.peer f g h refl (allows s c h).peer
fit_after s (LetGoBack x) f g h = let c : Change = LetGoBack x in of_peer s c x.peer f g h refl (allows s c h).peer
fit_after s (Replaced x) f g h = let c : Change = Replaced x in of_peer s c x.peer f g h refl (allows s c h).peer
fit_after s (Refused x) f g h = let c : Change = Refused x in of_peer s c x.peer f g h refl (allows s c h).peer
fit_after s (Proposed x) f g h = let c : Change = Proposed x in of_peer s c x.peer f g h refl (allows s c h).peer
fit_after s (Settled x) f g h = let c : Change = Settled x in of_peer s c x.peer f g h refl (allows s c h).peer
fit_after s (Turned x) f g h = let c : Change = Turned x in of_peer s c x.peer f g h refl (allows s c h).peer
fit_after s (Asked x) f g h = let c : Change = Asked x in of_peer s c x.peer f g h refl (allows s c h).peer
fit_after s (Passed x) f g h = let c : Change = Passed x in of_peer s c x.peer f g h refl (allows s c h).peer
fit_after s (Failed x) f g h = let c : Change = Failed x in of_peer s c x.peer f g h refl (allows s c h).peer
fit_after s (Declined x) f g h = let c : Change = Declined x in of_peer s c x.peer f g h refl (allows s c h).peer
fit_after s (Discarded x) f g h = let c : Change = Discarded x in of_peer s c x.peer f g h refl (allows s c h).peer

fit_nothing : IsFit nothing_yet
fit_nothing = record { rows = λ q. record { mine = omega arith; small = refl; owed = refl }; own = refl }

fit_from : (s : State) (h : List Change) → IsFit s → lawful_from s h ≡ true → IsFit (state_from s h)
fit_from s [] f v = f
fit_from s (c ∷ cs) f v =
    let l = lawful_cons s c cs v in
    fit_from (after s c) cs (fit_after s c f l.grammar l.allows) l.rest

pub fit_state : (h : List Change) → is_lawful h ≡ true → IsFit (state h)
fit_state h v = fit_from nothing_yet h fit_nothing v
