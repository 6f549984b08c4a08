-- The widths of what a state keeps, in each lawful history: a name has 32 bytes and a slot's
-- number four, and no more claims are drawn than there are.
use Rattle.std.proofs.Common.{◌≡◌, ℕ, ◌+◌, ◌≤◌, ◌^◌, Bool, true, false, not, ◌&&◌, cond, List, [], ◌∷◌, Option, Some, None, refl, sym, ap, ◌∙◌, subst, arith}
use Rattle.std.specs.Prelude.{zero, suc, ◌==◌}
use Rattle.std.specs.List.{list_all}
use Rattle.std.specs.Ordering.{is_lt, nat_cmp}
use Rattle.std.specs.Cmp.Lexicographic.{slice_cmp}
use Rattle.std.proofs.lemmas.Bool.{and_parts, leb-true, lt-ltb, eqb-true}
use Rattle.psb_bytes.specs.declared.ids.Object.{Object}
use Rattle.psb_bytes.specs.declared.ids.Object.TheVariants.{Chunk}
use Rattle.psb_model.specs.declared.entries.InEntry.{InEntry}
use Rattle.psb_model.specs.declared.entries.OutEntry.{OutEntry}
use Rattle.psb_model.specs.declared.entries.OwnEntry.{OwnEntry}
use Rattle.psb_model.specs.declared.deals.Deal.{Deal}
use Rattle.psb_model.specs.declared.deals.DealWhat.{DealWhat}
use Rattle.psb_model.specs.declared.deals.DealWhat.TheVariants.{Fresh, Swap, Cancel, PutBack, Forward, Return}
use Rattle.psb_model.specs.declared.change.Change.{Change}
use Rattle.psb_model.specs.declared.change.Change.TheVariants.{Begun, Kept, Snapped, Forgot, TookFresh, TookSwap, LetGo, LetGoBack, Replaced, Refused, Proposed, Settled, Turned, Asked, Passed, Failed, Declined, Discarded, Chose}
use Rattle.psb_model.specs.declared.entries.DebtEntry.{DebtEntry}
use Rattle.psb_model.specs.Words.{units, units_at, all_of, slots, with_one, with_all, without, listed}
use Rattle.psb_model.specs.State.{Row, State, blank, nothing_yet, row, is_peer, in_key, out_key, out_size, own_len}
use Rattle.psb_model.specs.Grammar.{is_u32, is_u64, is_digest, are_bytes, object_fits, what_fits, fits_widths}
use Rattle.psb_model.specs.Conditions.{most_claims, peer_of, settings_of_body, declined_objects, tests, propose_tests, allowed}
use Rattle.psb_model.specs.Move.{after_move}
use Rattle.psb_model.specs.Effects.{chunk_in, chunk_out, direct_slot, direct_slots, own_slot, own_slots, own_with, set_marks, own_after, settle_move, move_of, issued_after, after}
use Rattle.psb_model.specs.History.{state_from, lawful_from, state, is_lawful}
use Rattle.psb_model.proofs.ByObject.{by_cases, all_with_one, all_kept}
use Rattle.psb_model.proofs.Steps.{parts}
use Rattle.psb_model.proofs.Standing.{StandsFor}
use Rattle.psb_model.proofs.Rows.{row_in-first_rows, note_lists}
use Rattle.psb_model.proofs.Prefixes.{lawful_cons}
use Rattle.psb_model.proofs.Bare.{bare, bare_in, bare_out, bare_debt, all_bare, changed, row_bare}
use Rattle.psb_model.proofs.Steady.{IsSteady, steady_nothing, steady_after, allows}
use Rattle.model_laws.proofs.Losing.{regained, debts_pass}

abbrev pub in_fits : InEntry → Bool
in_fits e = object_fits e.object

abbrev fits_there : Object → ℕ → Bool
fits_there o u = object_fits o

abbrev pub out_fits : OutEntry → Bool
out_fits e = object_fits e.object

abbrev pub debt_fits : DebtEntry → Bool
debt_fits d = object_fits d.object

abbrev pub name_fits : OwnEntry → Bool
name_fits e = is_digest e.name

abbrev pub pending_fits : Option Deal → Bool
pending_fits None = true
pending_fits (Some d) = what_fits d.what

pub record IsWideRow (r : Row) : Type 0 where
  pub ins : list_all in_fits r.ins ≡ true
  pub outs : list_all out_fits r.outs ≡ true
  pub debts : list_all debt_fits r.debts ≡ true
  pub deal : pending_fits r.pending ≡ true

pub record AreWide (s : State) : Type 0 where
  pub rows : (q : ℕ) → IsWideRow (row s q)
  pub own : list_all name_fits s.own ≡ true
  pub issued : s.issued ≤ 4294967295

-- ---- lists

ins_left : (gone : List Object) (l : List InEntry) → list_all in_fits l ≡ true → list_all in_fits (without in_key gone l) ≡ true
ins_left gone l h = all_kept in_fits (λ (e : InEntry). not (listed gone (in_key e))) l h

outs_left : (gone : List Object) (l : List OutEntry) → list_all out_fits l ≡ true → list_all out_fits (without out_key gone l) ≡ true
outs_left gone l h = all_kept out_fits (λ (e : OutEntry). not (listed gone (out_key e))) l h

direct_fit : (numbers : List ℕ) (l : List InEntry) → list_all is_u32 numbers ≡ true → list_all in_fits l ≡ true → list_all in_fits (with_all in_key (direct_slots numbers) l) ≡ true
direct_fit [] l w h = h
direct_fit (n ∷ ns) l w h = let a = and_parts (is_u32 n) (list_all is_u32 ns) w in direct_fit ns (with_one in_key (direct_slot n) l) a.1 (all_with_one in_key in_fits (direct_slot n) l a.0 h)

own_fit : (first u : ℕ) (l : List OutEntry) → first + u ≤ 4294967295 → list_all out_fits l ≡ true → list_all out_fits (with_all out_key (own_slots first u) l) ≡ true
own_fit first zero l few h = h
own_fit first (suc u) l few h = own_fit (first + 1) u (with_one out_key (own_slot first) l) (omega (arith, few)) (all_with_one out_key out_fits (own_slot first) l (lt-ltb first (2 ^ 32) (omega (arith, few))) h)

names_with : (e : OwnEntry) (l : List OwnEntry) → name_fits e ≡ true → list_all name_fits l ≡ true → list_all name_fits (own_with e l) ≡ true
names_with e [] h k = rw h refl
names_with e (x ∷ xs) h k =
    let two = and_parts (name_fits x) (list_all name_fits xs) k in
    by_cases (is_lt (slice_cmp nat_cmp e.name x.name)) (λ j. rw (j, h) k) (λ j. rw (j, two.0) (names_with e xs h two.1))

names_marked : (mark : OwnEntry → Bool) (l : List OwnEntry) → list_all name_fits l ≡ true → list_all name_fits (set_marks mark l) ≡ true
names_marked mark [] h = refl
names_marked mark (x ∷ xs) h = let a = and_parts (name_fits x) (list_all name_fits xs) h in rw a.0 (names_marked mark xs a.1)

-- ---- the widths of a change's fields

deal_widths : (a b c : Bool) → (a && b && c) ≡ true → c ≡ true
deal_widths a b c h = (and_parts (a && b) c h).1

record SettleFits (s : State) (r : Row) (o : Option Deal) (numbers : List ℕ) : Type 0 where
  ins : list_all in_fits (after_move (settle_move s r o numbers) r).ins ≡ true
  outs : list_all out_fits (after_move (settle_move s r o numbers) r).outs ≡ true

settle_fits : (s : State) (r : Row) (o : Option Deal) (numbers : List ℕ) → IsWideRow r → pending_fits o ≡ true → list_all is_u32 numbers ≡ true → ((d : Deal) → o ≡ Some d → StandsFor s.issued s.own r d.what) → s.issued ≤ 4294967295 → SettleFits s r o numbers
settle_fits s r None numbers w p n stands few = record { ins = ins_left [] r.ins w.ins; outs = outs_left [] r.outs w.outs }
settle_fits s r (Some d) numbers w p n stands few = by_what d.what p (stands d refl)
  where
    by_what : (what : DealWhat) → what_fits what ≡ true → StandsFor s.issued s.own r what → SettleFits s r (Some (record { number = d.number; what = what })) numbers
    by_what (Fresh name) fit st = record { ins = direct_fit numbers (without in_key [] r.ins) n (ins_left [] r.ins w.ins); outs = all_with_one out_key out_fits (chunk_out name (units (own_len s.own name))) (without out_key [] r.outs) fit (outs_left [] r.outs w.outs) }
    by_what (Swap name mine) fit st = record { ins = ins_left [] r.ins w.ins; outs = all_with_one out_key out_fits (chunk_out name (units (own_len s.own name))) (without out_key (slots mine) r.outs) (and_parts (is_digest name) (list_all is_u32 mine) fit).0 (outs_left (slots mine) r.outs w.outs) }
    by_what (Cancel name theirs) fit st = record { ins = ins_left (slots theirs) r.ins w.ins; outs = outs_left (Chunk name ∷ []) r.outs w.outs }
    by_what (PutBack name first) fit st = record { ins = ins_left [] r.ins w.ins; outs = own_fit first (units_at out_key out_size r.outs (Chunk name)) (without out_key (Chunk name ∷ []) r.outs) (omega (arith, st.drawn, few)) (outs_left (Chunk name ∷ []) r.outs w.outs) }
    by_what (Forward slot entry) fit st = record { ins = ins_left [] r.ins w.ins; outs = outs_left [] r.outs w.outs }
    by_what (Return slot) fit st = record { ins = ins_left [] r.ins w.ins; outs = outs_left [] r.outs w.outs }

-- ---- a change of the peer

-- the entries, and the own deal
record AreWideEntries (r : Row) : Type 0 where
  ins : list_all in_fits r.ins ≡ true
  outs : list_all out_fits r.outs ≡ true
  deal : pending_fits r.pending ≡ true

entries_wide : (s : State) (c : Change) (p : ℕ) → IsSteady s → AreWide s → fits_widths c ≡ true → allowed s c ≡ true → peer_of c ≡ Some p → AreWideEntries (changed s c (row s p))
entries_wide s (Begun x) p steady w f h e = absurd (cc (e))
entries_wide s (Kept x) p steady w f h e = absurd (cc (e))
entries_wide s (Snapped x) p steady w f h e = absurd (cc (e))
entries_wide s (Forgot x) p steady w f h e = absurd (cc (e))
entries_wide s (Chose x) p steady w f h e = absurd (cc (e))
entries_wide s (TookFresh x) p steady w f h e =
    let ts = parts (tests s (TookFresh x)) (allows s (TookFresh x) h).tests in
    let begins : x.first ≡ s.issued = eqb-true x.first s.issued ts.1.1.1.1.1.0 in
    let few = leb-true (s.issued + units x.len) most_claims ts.1.1.1.1.1.1.0 in
    let names = and_parts (is_u32 x.peer && is_u64 x.deal) (is_digest x.name) (and_parts (is_u32 x.peer && is_u64 x.deal && is_digest x.name) (is_u32 x.first) (and_parts (is_u32 x.peer && is_u64 x.deal && is_digest x.name && is_u32 x.first) (is_u32 x.len) (and_parts (is_u32 x.peer && is_u64 x.deal && is_digest x.name && is_u32 x.first && is_u32 x.len) (are_bytes x.body) f).0).0).0 in
    let r = w.rows p in
    record {
      ins = all_with_one in_key in_fits (chunk_in x.name (units x.len)) (without in_key [] (row s p).ins) names.1 (ins_left [] (row s p).ins r.ins);
      outs = own_fit x.first (units x.len) (without out_key [] (row s p).outs) (omega (arith, begins, few)) (outs_left [] (row s p).outs r.outs);
      deal = r.deal;
    }
entries_wide s (TookSwap x) p steady w f h e =
    let names = and_parts (is_u32 x.peer && is_u64 x.deal) (is_digest x.name) (and_parts (is_u32 x.peer && is_u64 x.deal && is_digest x.name) (list_all is_u32 x.slots) (and_parts (is_u32 x.peer && is_u64 x.deal && is_digest x.name && list_all is_u32 x.slots) (is_u32 x.len) (and_parts (is_u32 x.peer && is_u64 x.deal && is_digest x.name && list_all is_u32 x.slots && is_u32 x.len) (are_bytes x.body) f).0).0).0 in
    let r = w.rows p in
    record {
      ins = all_with_one in_key in_fits (chunk_in x.name (units x.len)) (without in_key (slots x.slots) (row s p).ins) names.1 (ins_left (slots x.slots) (row s p).ins r.ins);
      outs = outs_left [] (row s p).outs r.outs;
      deal = r.deal;
    }
entries_wide s (LetGo x) p steady w f h e =
    let r = w.rows p in
    record { ins = ins_left (Chunk x.name ∷ []) (row s p).ins r.ins; outs = outs_left (slots x.slots) (row s p).outs r.outs; deal = r.deal }
entries_wide s (LetGoBack x) p steady w f h e =
    let listed = and_parts (is_u32 x.peer && is_u64 x.deal && is_digest x.name) (list_all is_u32 x.slots) (and_parts (is_u32 x.peer && is_u64 x.deal && is_digest x.name && list_all is_u32 x.slots) (are_bytes x.body) f).0 in
    let r = w.rows p in
    record { ins = direct_fit x.slots (without in_key (Chunk x.name ∷ []) (row s p).ins) listed.1 (ins_left (Chunk x.name ∷ []) (row s p).ins r.ins); outs = outs_left [] (row s p).outs r.outs; deal = r.deal }
entries_wide s (Refused x) p steady w f h e = let r = w.rows p in record { ins = ins_left [] (row s p).ins r.ins; outs = outs_left [] (row s p).outs r.outs; deal = r.deal }
entries_wide s (Turned x) p steady w f h e = let r = w.rows p in record { ins = ins_left [] (row s p).ins r.ins; outs = outs_left [] (row s p).outs r.outs; deal = refl }
entries_wide s (Proposed x) p steady w f h e = let r = w.rows p in record { ins = ins_left [] (row s p).ins r.ins; outs = outs_left [] (row s p).outs r.outs; deal = deal_widths (is_u32 x.peer) (is_u64 x.deal) (what_fits x.what) f }
entries_wide s (Settled y) p steady w f h e =
    let same : y.peer ≡ p = cc (e) in
    let listed = and_parts (is_u32 y.peer && is_u64 y.deal) (list_all is_u32 y.slots) (and_parts (is_u32 y.peer && is_u64 y.deal && list_all is_u32 y.slots) (are_bytes y.body) f).0 in
    let m = settle_fits s (row s p) (row s p).pending y.slots (w.rows p) (w.rows p).deal listed.1 (steady.good.rows p).stands w.issued in
    record {
      ins = subst (λ x. list_all in_fits (after_move (settle_move s (row s x) (row s x).pending y.slots) (row s p)).ins ≡ true) (sym same) m.ins;
      outs = subst (λ x. list_all out_fits (after_move (settle_move s (row s x) (row s x).pending y.slots) (row s p)).outs ≡ true) (sym same) m.outs;
      deal = refl;
    }
entries_wide s (Replaced x) p steady w f h e = let r = w.rows p in record { ins = ins_left [] (row s p).ins r.ins; outs = outs_left [] (row s p).outs r.outs; deal = r.deal }
entries_wide s (Asked x) p steady w f h e = let r = w.rows p in record { ins = ins_left [] (row s p).ins r.ins; outs = outs_left [] (row s p).outs r.outs; deal = r.deal }
entries_wide s (Passed y) p steady w f h e =
    let r = w.rows p in
    let lists = note_lists s (Passed y) (after_move (move_of s (Passed y)) (row s p)) in
    record {
      ins = ap (list_all in_fits) lists.ins ∙ ins_left [] (row s p).ins r.ins;
      outs = ap (list_all out_fits) lists.outs ∙ regained fits_there y.objects (row s y.peer).debts (without out_key [] (row s p).outs) (w.rows y.peer).debts (outs_left [] (row s p).outs r.outs);
      deal = by_cases (y.asked == 0) (λ k. rw k r.deal) (λ k. rw k r.deal);
    }
entries_wide s (Failed x) p steady w f h e = let r = w.rows p in record { ins = ins_left [] (row s p).ins r.ins; outs = outs_left x.objects (row s p).outs r.outs; deal = r.deal }
entries_wide s (Declined x) p steady w f h e = let r = w.rows p in record { ins = ins_left [] (row s p).ins r.ins; outs = outs_left (declined_objects s x.peer x.asked x.places) (row s p).outs r.outs; deal = r.deal }
entries_wide s (Discarded x) p steady w f h e = let r = w.rows p in record { ins = ins_left x.objects (row s p).ins r.ins; outs = outs_left [] (row s p).outs r.outs; deal = r.deal }

row_wide : (s : State) (c : Change) (p : ℕ) → IsSteady s → AreWide s → fits_widths c ≡ true → allowed s c ≡ true → peer_of c ≡ Some p → IsWideRow (changed s c (row s p))
row_wide s c p steady w f h e = let x = entries_wide s c p steady w f h e in record { ins = x.ins; outs = x.outs; debts = debts_pass fits_there s c (row s p) (λ q. (w.rows q).outs) (w.rows p).debts; deal = x.deal }

-- ---- every change

own_wide : (s : State) (c : Change) → AreWide s → fits_widths c ≡ true → list_all name_fits (own_after s c) ≡ true
own_wide s (Kept x) w f =
    let a = and_parts (is_digest x.name) (is_u32 x.len) (and_parts (is_digest x.name && is_u32 x.len) (are_bytes x.body) f).0 in
    names_with (record { name = x.name; len = x.len; marked = false }) s.own a.0 w.own
own_wide s (Snapped x) w f = names_marked _ s.own w.own
own_wide s (Forgot x) w f = names_marked _ s.own w.own
own_wide s _ w f = w.own

issued_few : (s : State) (c : Change) → AreWide s → allowed s c ≡ true → issued_after s c ≤ 4294967295
issued_few s (TookFresh x) w h =
    let ts = parts (tests s (TookFresh x)) (allows s (TookFresh x) h).tests in
    leb-true (s.issued + units x.len) most_claims ts.1.1.1.1.1.1.0
issued_few s (Proposed x) w h =
    by_what x.what ((parts (tests s (Proposed x)) (allows s (Proposed x) h).tests).1.1.0)
  where
    by_what : (what : DealWhat) → all_of (propose_tests s x.peer what) ≡ true → issued_after s (Proposed (record x { what = what })) ≤ 4294967295
    by_what (Fresh name) t = w.issued
    by_what (Swap name numbers) t = w.issued
    by_what (Cancel name numbers) t = w.issued
    by_what (PutBack name first) t = leb-true (s.issued + units_at out_key out_size (row s x.peer).outs (Chunk name)) most_claims (parts (propose_tests s x.peer (PutBack name first)) t).1.1.1.1.0
    by_what (Forward slot entry) t = w.issued
    by_what (Return slot) t = w.issued
issued_few s _ w h = w.issued

after_wide : (s : State) (c : Change) → AreWide s → fits_widths c ≡ true → allowed s c ≡ true → ((q : ℕ) → IsWideRow (row (after s c) q)) → AreWide (after s c)
after_wide s c w f h rows = record { rows = rows; own = all_kept name_fits _ (own_after s c) (own_wide s c w f); issued = issued_few s c w h }

-- states of entries do not matter
wide_bare : (r r' : Row) → bare r ≡ bare r' → IsWideRow r' → IsWideRow r
wide_bare r r' e w = record {
  ins = sym (all_bare bare_in in_fits (λ x. refl) r.ins) ∙ ap (λ (x : Row). list_all in_fits x.ins) e ∙ all_bare bare_in in_fits (λ x. refl) r'.ins ∙ w.ins;
  outs = sym (all_bare bare_out out_fits (λ x. refl) r.outs) ∙ ap (λ (x : Row). list_all out_fits x.outs) e ∙ all_bare bare_out out_fits (λ x. refl) r'.outs ∙ w.outs;
  debts = sym (all_bare bare_debt debt_fits (λ x. refl) r.debts) ∙ ap (λ (x : Row). list_all debt_fits x.debts) e ∙ all_bare bare_debt debt_fits (λ x. refl) r'.debts ∙ w.debts;
  deal = ap (λ (x : Row). pending_fits x.pending) e ∙ w.deal;
}

of_peer : (s : State) (c : Change) (p : ℕ) → IsSteady s → AreWide s → fits_widths c ≡ true → allowed s c ≡ true → peer_of c ≡ Some p → is_peer s p ≡ true → AreWide (after s c)
of_peer s c p steady w f h e here = after_wide s c w f h (λ q. wide_bare (row (after s c) q) (cond (p == q) (changed s c (row s q)) (row s q)) (row_bare s c p q e here) (by_peer q))
  where
    by_peer : (q : ℕ) → IsWideRow (cond (p == q) (changed s c (row s q)) (row s q))
    by_peer q = by_cases (p == q)
        (λ k. rw k (subst (λ x. IsWideRow (changed s c (row s x))) (eqb-true p q k) (row_wide s c p steady w f h e)))
        (λ k. rw k (w.rows q))

blank_wide : IsWideRow blank
blank_wide = record { ins = refl; outs = refl; debts = refl; deal = refl }

wide_after : (s : State) (c : Change) → IsSteady s → AreWide s → fits_widths c ≡ true → allowed s c ≡ true → AreWide (after s c)
wide_after s (Begun x) steady w f h = after_wide s (Begun x) w f h (λ q. subst IsWideRow (sym (row_in-first_rows (settings_of_body x.body) q)) blank_wide)
wide_after s (Kept x) steady w f h = after_wide s (Kept x) w f h w.rows
wide_after s (Snapped x) steady w f h = after_wide s (Snapped x) w f h w.rows
wide_after s (Forgot x) steady w f h = after_wide s (Forgot x) w f h w.rows
wide_after s (Chose x) steady w f h = after_wide s (Chose x) w f h w.rows
wide_after s (TookFresh x) steady w f h = let c : Change = TookFresh x in of_peer s c x.peer steady w f h refl (allows s c h).peer
wide_after s (TookSwap x) steady w f h = let c : Change = TookSwap x in of_peer s c x.peer steady w f h refl (allows s c h).peer
wide_after s (LetGo x) steady w f h = let c : Change = LetGo x in of_peer s c x.peer steady w f h refl (allows s c h).peer
wide_after s (LetGoBack x) steady w f h = let c : Change = LetGoBack x in of_peer s c x.peer steady w f h refl (allows s c h).peer
wide_after s (Replaced x) steady w f h = let c : Change = Replaced x in of_peer s c x.peer steady w f h refl (allows s c h).peer
wide_after s (Refused x) steady w f h = let c : Change = Refused x in of_peer s c x.peer steady w f h refl (allows s c h).peer
wide_after s (Proposed x) steady w f h = let c : Change = Proposed x in of_peer s c x.peer steady w f h refl (allows s c h).peer
wide_after s (Settled x) steady w f h = let c : Change = Settled x in of_peer s c x.peer steady w f h refl (allows s c h).peer
wide_after s (Turned x) steady w f h = let c : Change = Turned x in of_peer s c x.peer steady w f h refl (allows s c h).peer
wide_after s (Asked x) steady w f h = let c : Change = Asked x in of_peer s c x.peer steady w f h refl (allows s c h).peer
wide_after s (Passed x) steady w f h = let c : Change = Passed x in of_peer s c x.peer steady w f h refl (allows s c h).peer
wide_after s (Failed x) steady w f h = let c : Change = Failed x in of_peer s c x.peer steady w f h refl (allows s c h).peer
wide_after s (Declined x) steady w f h = let c : Change = Declined x in of_peer s c x.peer steady w f h refl (allows s c h).peer
wide_after s (Discarded x) steady w f h = let c : Change = Discarded x in of_peer s c x.peer steady w f h refl (allows s c h).peer

wide_nothing : AreWide nothing_yet
wide_nothing = record { rows = λ q. blank_wide; own = refl; issued = omega arith }

wide_from : (s : State) (h : List Change) → IsSteady s → AreWide s → lawful_from s h ≡ true → list_all fits_widths h ≡ true → AreWide (state_from s h)
wide_from s [] steady w v f = w
wide_from s (c ∷ cs) steady w v f =
    let l = lawful_cons s c cs v in
    let fit = and_parts (fits_widths c) (list_all fits_widths cs) f in
    wide_from (after s c) cs (steady_after s c steady l.grammar l.allows) (wide_after s c steady w fit.0 l.allows) l.rest fit.1

pub wide_state : (h : List Change) → is_lawful h ≡ true → list_all fits_widths h ≡ true → AreWide (state h)
wide_state h v f = wide_from nothing_yet h steady_nothing wide_nothing v f
