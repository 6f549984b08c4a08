-- What rows name is the node's own: a chunk comes to a row by a deal that was proposed for an own one, and goes from own
-- only where no row names it.
use Rattle.std.proofs.Common.{◌≡◌, ℕ, Bool, true, false, not, ◌&&◌, ◌||◌, ◌==◌, List, [], ◌∷◌, map, filter, Option, Some, None, refl, sym, ap, ◌∙◌, subst, arith}
use Rattle.std.specs.Prelude.{zero, suc, ◌-◌, nat_le}
use Rattle.std.proofs.lemmas.Bool.{and_parts, false≢true}
use Rattle.psb_bytes.specs.declared.ids.Object.{Object}
use Rattle.psb_bytes.specs.declared.ids.Object.TheVariants.{Chunk}
use Rattle.psb_settings.specs.declared.settings.Settings.{Settings}
use Rattle.psb_settings.specs.declared.settings.PeerRow.{PeerRow}
use Rattle.psb_model.specs.declared.entries.OutEntry.{OutEntry}
use Rattle.psb_model.specs.declared.entries.DebtEntry.{DebtEntry}
use Rattle.psb_model.specs.declared.deals.Deal.{Deal}
use Rattle.psb_model.specs.declared.deals.DealWhat.{DealWhat}
use Rattle.psb_model.specs.declared.deals.DealWhat.TheVariants.{Fresh, Swap, Cancel, PutBack, Forward, Return}
use Rattle.psb_model.specs.declared.change.Change.{Change}
use Rattle.psb_model.specs.declared.change.Change.TheVariants.{Begun, Kept, Snapped, Forgot, TookFresh, Proposed, Settled, Turned, Passed, Failed, Declined, Chose}
use Rattle.psb_model.specs.Words.{units, units_at, name_eq, name_listed, object_eq, listed, only, has, all_of}
use Rattle.psb_model.specs.State.{Row, State, nothing_yet, row, row_in, at_row, out_key, out_size, debt_key, own_has}
use Rattle.psb_model.specs.Conditions.{peer_of, is_begun, settings_of_body, place_tests, propose_tests, tests, allowed, declined_objects}
use Rattle.psb_model.specs.Move.{Move, use_up, after_move}
use Rattle.psb_model.specs.Effects.{move_of, settle_move, own_slots, debt_row, lost_rows, out_again, is_whole_listed, rows_after, all_rows_after, after, blank_rows, first_rows, deal_name, pending_name, is_named}
use Rattle.psb_model.specs.History.{state_from, lawful_from, state}
use Rattle.psb_model.proofs.ByObject.{by_cases, has-occurs}
use Rattle.psb_model.proofs.Own.{name_same}
use Rattle.psb_model.proofs.Parts.{own_slots-chunk}
use Rattle.psb_model.proofs.Steps.{parts}
use Rattle.psb_model.proofs.Rows.{note_lists}
use Rattle.psb_model.proofs.Bare.{changed, named_then}
use Rattle.psb_model.proofs.Held.{any_less}
use Rattle.psb_model.proofs.Lent.{lent, has_both, has_only, booked_has, again_has, moved_outs}
use Rattle.psb_model.proofs.Prefixes.{lawful_cons}
use Rattle.psb_model.proofs.Steady.{IsSteady, or_true, allows, row_names, own_keeps, steady_after, steady_nothing}
use Rattle.probe_laws.specs.There.{RowsNameOwn}

-- ---- Bools

-- what follows from either of two
either_gives : {P : Type 0} (a b : Bool) → (a || b) ≡ true → (a ≡ true → P) → (b ≡ true → P) → P
either_gives true b h f g = f refl
either_gives false b h f g = g h

-- ---- the objects of a row after a move

used_has : (n : ℕ) (ds : List DebtEntry) (o : Object) → has debt_key (use_up n ds) o ≡ true → has debt_key ds o ≡ true
used_has zero ds o h = h
used_has (suc n) [] o h = absurd (false≢true h)
used_has (suc n) (d ∷ ds) o h = by_cases (nat_le d.left (suc n))
    (λ k. let h' = rw k at h in let there = used_has (suc n - d.left) ds o h' in rw there (or_true (object_eq d.object o)))
    (λ k. let h' = rw k at h in h')

-- what is booked was there
lost_was : (n : ℕ) (declined : Bool) (objects : List Object) (l : List OutEntry) (o : Object) → has debt_key (lost_rows n declined objects l) o ≡ true → has out_key l o ≡ true
lost_was n declined [] l o h = absurd (false≢true h)
lost_was n declined (x ∷ xs) l o h =
    either_gives (has debt_key (map (debt_row n declined) (only out_key (x ∷ []) l)) o) (has debt_key (lost_rows n declined xs l) o)
    (sym (has_both debt_key (map (debt_row n declined) (only out_key (x ∷ []) l)) (lost_rows n declined xs l) o) ∙ h)
    (λ k. (and_parts (has out_key l o) (listed (x ∷ []) o) (sym (booked_has n declined (only out_key (x ∷ []) l) o ∙ has_only out_key (x ∷ []) l o) ∙ k)).0)
    (λ k. lost_was n declined xs l o k)

-- what returns was in debt
returned_was : (objects : List Object) (ds : List DebtEntry) (o : Object) → has out_key (map out_again (filter (is_whole_listed objects) ds)) o ≡ true → has debt_key ds o ≡ true
returned_was objects ds o h = any_less (λ (d : DebtEntry). object_eq (debt_key d) o) (is_whole_listed objects) ds (sym (again_has (filter (is_whole_listed objects) ds) o) ∙ h)

-- own slots are no chunks
no_own_chunk : (first u : ℕ) (n : List ℕ) → has out_key (own_slots first u) (Chunk n) ≡ true → ⊥
no_own_chunk first u n h = omega (arith, has-occurs out_key (own_slots first u) (Chunk n) h, own_slots-chunk first u n)

-- what is lent after a move was lent, or came with it
moved_from : {P : Type 0} (m : Move) (r : Row) (o : Object) → lent (after_move m r) o ≡ true → (lent r o ≡ true → P) → (has out_key m.out_new o ≡ true → P) → (has debt_key m.booked o ≡ true → P) → P
moved_from {P} m r o h was new booked =
    either_gives (has out_key (after_move m r).outs o) (has debt_key (after_move m r).debts o) h
    (λ k. either_gives (has out_key r.outs o && not (listed m.out_gone o)) (has out_key m.out_new o) (sym (moved_outs m r o) ∙ k)
    (λ j. was (out_lent ((and_parts (has out_key r.outs o) (not (listed m.out_gone o)) j).0))) new)
    (λ k. either_gives (has debt_key (use_up m.used_up (filter (λ d. not (m.returned d)) r.debts)) o) (has debt_key m.booked o) (sym (has_both debt_key (use_up m.used_up (filter (λ d. not (m.returned d)) r.debts)) m.booked o) ∙ k)
    (λ j. was (debt_lent (any_less (λ (d : DebtEntry). object_eq (debt_key d) o) (λ d. not (m.returned d)) r.debts (used_has m.used_up (filter (λ d. not (m.returned d)) r.debts) o j)))) booked)
  where
    out_lent : has out_key r.outs o ≡ true → lent r o ≡ true
    out_lent k = rw k refl

    debt_lent : has debt_key r.debts o ≡ true → lent r o ≡ true
    debt_lent k = rw k (or_true (has out_key r.outs o))

-- ---- what a change brings to the row of its peer

-- a row names what it has or lost, and the chunk of its pending deal
names_lent : (r : Row) (n : List ℕ) → lent r (Chunk n) ≡ true → row_names r n ≡ true
names_lent r n h = rw h refl

names_pending : (r : Row) (n : List ℕ) → name_listed (pending_name deal_name r.pending) n ≡ true → row_names r n ≡ true
names_pending r n h = rw h (or_true (lent r (Chunk n)))

-- a settled deal brings the chunk that it names
settled_new : (s : State) (r : Row) (o : Option Deal) (numbers n : List ℕ) → has out_key (settle_move s r o numbers).out_new (Chunk n) ≡ true → name_listed (pending_name deal_name o) n ≡ true
settled_new s r None numbers n h = absurd (false≢true h)
settled_new s r (Some d) numbers n h = by_what d.what h
  where
    by_what : (w : DealWhat) → has out_key (settle_move s r (Some (record { number = d.number; what = w })) numbers).out_new (Chunk n) ≡ true → name_listed (deal_name w) n ≡ true
    by_what (Fresh name) k = k
    by_what (Swap name mine) k = k
    by_what (Cancel name theirs) k = absurd (false≢true k)
    by_what (PutBack name first) k = absurd (no_own_chunk first (units_at out_key out_size r.outs (Chunk name)) n k)
    by_what (Forward slot entry) k = absurd (false≢true k)
    by_what (Return slot) k = absurd (false≢true k)

settled_booked : (s : State) (r : Row) (o : Option Deal) (numbers n : List ℕ) → has debt_key (settle_move s r o numbers).booked (Chunk n) ≡ true → ⊥
settled_booked s r None numbers n h = false≢true h
settled_booked s r (Some d) numbers n h = by_what d.what h
  where
    by_what : (w : DealWhat) → has debt_key (settle_move s r (Some (record { number = d.number; what = w })) numbers).booked (Chunk n) ≡ true → ⊥
    by_what (Fresh name) k = false≢true k
    by_what (Swap name mine) k = false≢true k
    by_what (Cancel name theirs) k = false≢true k
    by_what (PutBack name first) k = false≢true k
    by_what (Forward slot entry) k = false≢true k
    by_what (Return slot) k = false≢true k

-- what comes to the row of p was named there
abbrev IsNamedAt : State → ℕ → List ℕ → Type 0
IsNamedAt s p n = row_names (row s p) n ≡ true

new_named : (s : State) (c : Change) (p : ℕ) (n : List ℕ) → peer_of c ≡ Some p → has out_key (move_of s c).out_new (Chunk n) ≡ true → IsNamedAt s p n
new_named s (TookFresh x) p n e h = absurd (no_own_chunk x.first (units x.len) n h)
new_named s (Settled x) p n e h =
    let same : x.peer ≡ p = cc (e) in
    subst (λ q. IsNamedAt s q n) same (names_pending (row s x.peer) n (settled_new s (row s x.peer) (row s x.peer).pending x.slots n h))
new_named s (Passed x) p n e h =
    let same : x.peer ≡ p = cc (e) in
    let owed = returned_was x.objects (row s x.peer).debts (Chunk n) h in
    subst (λ q. IsNamedAt s q n) same (names_lent (row s x.peer) n (rw owed (or_true (has out_key (row s x.peer).outs (Chunk n)))))
new_named s _ p n e h = absurd (false≢true h)

booked_named : (s : State) (c : Change) (p : ℕ) (n : List ℕ) → peer_of c ≡ Some p → has debt_key (move_of s c).booked (Chunk n) ≡ true → IsNamedAt s p n
booked_named s (Settled x) p n e h = absurd (settled_booked s (row s x.peer) (row s x.peer).pending x.slots n h)
booked_named s (Failed x) p n e h =
    let same : x.peer ≡ p = cc (e) in
    let out = lost_was s.changes false x.objects (row s x.peer).outs (Chunk n) h in
    subst (λ q. IsNamedAt s q n) same (names_lent (row s x.peer) n (rw out refl))
booked_named s (Declined x) p n e h =
    let same : x.peer ≡ p = cc (e) in
    let out = lost_was s.changes true (declined_objects s x.peer x.asked x.places) (row s x.peer).outs (Chunk n) h in
    subst (λ q. IsNamedAt s q n) same (names_lent (row s x.peer) n (rw out refl))
booked_named s _ p n e h = absurd (false≢true h)

-- ---- own chunks

-- each chunk that rows name is an own one
abbrev AllOwn : State → Type 0
AllOwn s = (n : List ℕ) → is_named s.rows n ≡ true → own_has s.own n ≡ true

abbrev OwnAt : State → ℕ → Type 0
OwnAt s p = (n : List ℕ) → IsNamedAt s p n → own_has s.own n ≡ true

named_in : (rows : List (ℕ × Row)) (p : ℕ) (n : List ℕ) → row_names (row_in rows p) n ≡ true → is_named rows n ≡ true
named_in [] p n h = absurd (false≢true h)
named_in (x ∷ xs) p n h = by_cases (x.0 == p)
    (λ k. let h' = rw k at h in rw h' refl)
    (λ k. let h' = rw k at h in let there = named_in xs p n h' in rw there (or_true (row_names x.1 n)))

-- a deal is proposed for an own chunk
one_name : (own : State) (name n : List ℕ) → name_listed (name ∷ []) n ≡ true → own_has own.own name ≡ true → own_has own.own n ≡ true
one_name s name n h there = either_gives (name_eq name n) false h (λ k. ap (own_has s.own) (sym (name_same name n k)) ∙ there) (λ k. absurd (false≢true k))

proposed_own : (s : State) (p : ℕ) (what : DealWhat) (n : List ℕ) → IsSteady s → OwnAt s p → all_of (propose_tests s p what) ≡ true → name_listed (deal_name what) n ≡ true → own_has s.own n ≡ true
proposed_own s p (Fresh name) n was own h k =
    let place = parts (place_tests s p name) (parts (propose_tests s p (Fresh name)) h).0 in
    one_name s name n k (was.good.wanted name place.1.0).has
proposed_own s p (Swap name numbers) n was own h k =
    let place = parts (place_tests s p name) (parts (propose_tests s p (Swap name numbers)) h).0 in
    one_name s name n k (was.good.wanted name place.1.0).has
proposed_own s p (Cancel name numbers) n was own h k =
    let out = (parts (propose_tests s p (Cancel name numbers)) h).0 in
    one_name s name n k (own name (names_lent (row s p) name (rw out refl)))
proposed_own s p (PutBack name first) n was own h k =
    let out = (parts (propose_tests s p (PutBack name first)) h).0 in
    one_name s name n k (own name (names_lent (row s p) name (rw out refl)))
proposed_own s p (Forward slot entry) n was own h k = absurd (false≢true k)
proposed_own s p (Return slot) n was own h k = absurd (false≢true k)

-- the chunk of the pending deal behind a change was named, or is proposed now
pending_own : (s : State) (c : Change) (p : ℕ) (n : List ℕ) → IsSteady s → allowed s c ≡ true → peer_of c ≡ Some p → OwnAt s p → name_listed (pending_name deal_name (changed s c (row s p)).pending) n ≡ true → own_has s.own n ≡ true
pending_own s (Proposed x) p n was may e own h =
    let same : x.peer ≡ p = cc (e) in
    let ts = parts (tests s (Proposed x)) (allows s (Proposed x) may).tests in
    proposed_own s x.peer x.what n was (subst (OwnAt s) (sym same) own) ts.1.1.0 h
pending_own s (Settled x) p n was may e own h = absurd (false≢true h)
pending_own s (Turned x) p n was may e own h = absurd (false≢true h)
pending_own s (Passed x) p n was may e own h = own n (names_pending (row s p) n (by_cases (x.asked == 0) (λ k. let h' = rw k at h in h') (λ k. let h' = rw k at h in h')))
pending_own s (Begun x) p n was may e own h = absurd (cc (e))
pending_own s (Kept x) p n was may e own h = absurd (cc (e))
pending_own s (Snapped x) p n was may e own h = absurd (cc (e))
pending_own s (Forgot x) p n was may e own h = absurd (cc (e))
pending_own s (Chose x) p n was may e own h = absurd (cc (e))
pending_own s _ p n was may e own h = own n (names_pending (row s p) n h)

-- what the row of its peer names after a change
changed_own : (s : State) (c : Change) (p : ℕ) (n : List ℕ) → IsSteady s → allowed s c ≡ true → peer_of c ≡ Some p → OwnAt s p → row_names (changed s c (row s p)) n ≡ true → own_has s.own n ≡ true
changed_own s c p n was may e own h =
    let m = move_of s c in
    let r = row s p in
    let lists = note_lists s c (after_move m r) in
    either_gives (lent (changed s c r) (Chunk n)) (name_listed (pending_name deal_name (changed s c r).pending) n) h
    (λ k. moved_from m r (Chunk n) (sym (ap (λ l. has out_key l (Chunk n) || has debt_key (changed s c r).debts (Chunk n)) lists.outs ∙ ap (λ l. has out_key (after_move m r).outs (Chunk n) || has debt_key l (Chunk n)) lists.debts) ∙ k)
    (λ j. own n (names_lent r n j))
    (λ j. own n (new_named s c p n e j))
    (λ j. own n (booked_named s c p n e j)))
    (λ k. pending_own s c p n was may e own k)

-- ---- rows

-- where one row changes, what is named is named by it or was named
named_from : {P : Type 0} (p : ℕ) (f : Row → Row) (rows : List (ℕ × Row)) (n : List ℕ) → (is_named rows n ≡ true → P) → (row_names (f (row_in rows p)) n ≡ true → P) → is_named (at_row p f rows) n ≡ true → P
named_from p f [] n was now h = was h
named_from p f (x ∷ xs) n was now h = by_cases (x.0 == p)
    (λ k. let h' = rw k at h in let now' = rw k at now in
    either_gives (row_names (f x.1) n) (is_named xs n) h' now' (λ j. was (rw j (or_true (row_names x.1 n)))))
    (λ k. let h' = rw k at h in let now' = rw k at now in
    either_gives (row_names x.1 n) (is_named (at_row p f xs) n) h' (λ j. was (rw j refl)) (λ j. named_from p f xs n (λ i. was (rw i (or_true (row_names x.1 n)))) now' j))

none_blank : (ps : List PeerRow) (n : List ℕ) → is_named (blank_rows ps) n ≡ false
none_blank [] n = refl
none_blank (p ∷ ps) n = none_blank ps n

none_first : (o : Option Settings) (n : List ℕ) → is_named (first_rows o) n ≡ false
none_first None n = refl
none_first (Some x) n = none_blank x.peers n

peer_own : (s : State) (c : Change) (p : ℕ) (n : List ℕ) → IsSteady s → allowed s c ≡ true → peer_of c ≡ Some p → AllOwn s → is_named (all_rows_after s c) n ≡ true → own_has s.own n ≡ true
peer_own s c p n was may e own h =
    named_from p (changed s c) s.rows n (own n)
    (λ k. changed_own s c p n was may e (λ m j. own m (named_in s.rows p m j)) k)
    (sym (named_then s c p n e) ∙ h)

-- a change of no peer but the first leaves the rows
pub rows_stay : (s : State) (c : Change) → is_begun c ≡ false → peer_of c ≡ None → all_rows_after s c ≡ s.rows
rows_stay s (Begun x) none e = absurd (false≢true (sym none))
rows_stay s c none e = ap (λ (o : Option ℕ). elim o [ None ↦ s.rows | Some q ↦ rows_after s c q ]) e

-- what rows name after a change was an own chunk before
before_own : (s : State) (c : Change) (n : List ℕ) → IsSteady s → allowed s c ≡ true → AllOwn s → is_named (all_rows_after s c) n ≡ true → own_has s.own n ≡ true
before_own s (Begun x) n was may own h = absurd (false≢true (sym (none_first (settings_of_body x.body) n) ∙ h))
before_own s c n was may own h = by_peer (peer_of c) refl
  where
    by_peer : (o : Option ℕ) → peer_of c ≡ o → own_has s.own n ≡ true
    by_peer None e = own n (subst (λ rows. is_named rows n ≡ true) (rows_stay s c refl e) h)
    by_peer (Some p) e = peer_own s c p n was may e own h

-- and is one still, since rows name it
own_step : (s : State) (c : Change) → IsSteady s → allowed s c ≡ true → AllOwn s → AllOwn (after s c)
own_step s c was may own n h = (own_keeps s c (allows s c may).tests n h (before_own s c n was may own h)).has

own_from : (s : State) (h : List Change) → IsSteady s → AllOwn s → lawful_from s h ≡ true → AllOwn (state_from s h)
own_from s [] was own v = own
own_from s (c ∷ cs) was own v =
    let l = lawful_cons s c cs v in
    own_from (after s c) cs (steady_after s c was l.grammar l.allows) (own_step s c was l.allows own) l.rest

pub rows_name_own : RowsNameOwn
rows_name_own h p name v there =
    own_from nothing_yet h steady_nothing (λ n k. absurd (false≢true k)) v name (named_in (state h).rows p name (names_lent (row (state h) p) name there))
