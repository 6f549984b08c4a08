-- What every row of a valid history keeps, through each move.
use Rattle.std.proofs.Common.{◌≡◌, ℕ, ◌+◌, ◌≤◌, Bool, true, false, not, cond, leb, List, [], ◌∷◌, length, map, filter, sum_by, refl, sym, ap, ◌∙◌, arith}
use Rattle.std.proofs.lemmas.Bool.{false≢true, leb-true, cases_Bool}
use Rattle.std.proofs.lemmas.Bool.Decides.{nat_tests}
use Rattle.std.proofs.lemmas.List.Sums.{sum_by-append}
use Rattle.psb_bytes.specs.declared.ids.Object.{Object}
use Rattle.psb_bytes.specs.declared.ids.Object.TheVariants.{Chunk, Slot}
use Rattle.psb_model.specs.declared.entries.DebtEntry.{DebtEntry}
use Rattle.psb_model.specs.Effects.{chunk_in, direct_slots, is_whole_listed, loses, out_again, own_slots}
use Rattle.psb_model.specs.Grammar.{ascend}
use Rattle.psb_model.specs.Move.{Move, after_move, still, use_up}
use Rattle.psb_model.specs.State.{Row, back_units, debt_key, debt_units, debt_size, held_units, in_key, in_size, out_key, out_size}
use Rattle.psb_model.specs.Words.{has, listed, object_eq, objects_distinct, slots, units_at, without}
use Rattle.psb_model.proofs.ByObject.{by_cases, carry, occurs, units_at-without, units_at-with_all, units_at-filter_both, units_at-append, units_at-map, sum_by-with_all, sum_by-without, sum_by-only, sum_by-parts, sum_at, sum_at-ones, Ones, Ones-filter, Ones-with_all, Ones-map, Ones-append, units_at-slot, has-occurs, lacks-units_at}
use Rattle.psb_model.proofs.Parts.{ascend-distinct, length-slots, no_chunk, sum-direct_slots, occurs-direct_slots, Ones-direct_slots, sum-own_slots, own_slots-chunk, IsRange, own_slots-slot, Ones-own_slots, booked_units, sum-lost_rows, units_at-lost_rows, Ones-lost_rows, sum-out_again, sum-use_up, occurs-use_up, Ones-use_up}

-- how often out(p) and debt(p) have the object
abbrev pub total : Row → Object → ℕ
total r o = occurs out_key r.outs o + occurs debt_key r.debts o

pub record IsTidy (issued : ℕ) (r : Row) : Type 0 where
  pub balanced : held_units r ≡ back_units r + debt_units r
  pub ins_once : (o : Object) → occurs in_key r.ins o ≤ 1
  pub ins_ones : Ones in_key in_size r.ins
  pub outs_once : (o : Object) → total r o ≤ 1
  pub outs_ones : Ones out_key out_size r.outs
  pub debts_ones : Ones debt_key booked_units r.debts
  pub below : (n : ℕ) → issued ≤ n → total r (Slot n) ≡ 0

-- What a move does to sums and to what stands at each object.
pub record Weighs (r : Row) (m : Move) : Type 0 where
  pub held : held_units (after_move m r) + sum_at in_key in_size r.ins m.in_gone ≡ held_units r + sum_by in_size m.in_new
  pub back : back_units (after_move m r) + sum_at out_key out_size r.outs m.out_gone ≡ back_units r + sum_by out_size m.out_new
  pub debt : debt_units (after_move m r) + m.used_up + sum_by debt_size (filter m.returned r.debts) ≡ debt_units r + sum_by debt_size m.booked
  pub ins : (o : Object) → occurs in_key (after_move m r).ins o ≡ occurs in_key m.in_new o + cond (listed m.in_gone o) 0 (occurs in_key r.ins o)
  pub outs : (o : Object) → occurs out_key (after_move m r).outs o ≡ occurs out_key m.out_new o + cond (listed m.out_gone o) 0 (occurs out_key r.outs o)
  pub debts : (o : Object) → occurs debt_key (after_move m r).debts o + occurs debt_key (filter m.returned r.debts) o ≤ occurs debt_key r.debts o + occurs debt_key m.booked o

pub weighs : (r : Row) (m : Move) → objects_distinct m.in_gone ≡ true → objects_distinct m.out_gone ≡ true → m.used_up ≤ sum_by debt_size (filter (λ d. not (m.returned d)) r.debts) → Weighs r m
weighs r m in_d out_d room =
    let kept = filter (λ (d : DebtEntry). not (m.returned d)) r.debts in
    record {
      held = omega (arith, sum_by-with_all in_key in_size m.in_new (without in_key m.in_gone r.ins), sum_by-without in_key in_size m.in_gone r.ins, sum_by-only in_key in_size r.ins m.in_gone in_d);
      back = omega (arith, sum_by-with_all out_key out_size m.out_new (without out_key m.out_gone r.outs), sum_by-without out_key out_size m.out_gone r.outs, sum_by-only out_key out_size r.outs m.out_gone out_d);
      debt = omega (arith, sum_by-append debt_size (use_up m.used_up kept) m.booked, sum-use_up m.used_up kept room, sum_by-parts m.returned debt_size r.debts);
      ins = λ o. units_at-with_all in_key (λ _. 1) m.in_new (without in_key m.in_gone r.ins) o ∙ ap (λ n. occurs in_key m.in_new o + n) (units_at-without in_key (λ _. 1) m.in_gone r.ins o);
      outs = λ o. units_at-with_all out_key (λ _. 1) m.out_new (without out_key m.out_gone r.outs) o ∙ ap (λ n. occurs out_key m.out_new o + n) (units_at-without out_key (λ _. 1) m.out_gone r.outs o);
      debts = λ o. omega (arith, units_at-append debt_key (λ _. 1) (use_up m.used_up kept) m.booked o, occurs-use_up m.used_up kept o, units_at-filter_both debt_key (λ _. 1) m.returned r.debts o);
    }

-- nothing is returned
pub none_returned : {E : Type 0} (size : E → ℕ) (l : List E) → sum_by size (filter (λ (d : E). false) l) ≡ 0
none_returned size [] = refl
none_returned size (d ∷ ds) = none_returned size ds

-- the tidiness of what comes and goes
pub ones_moved : (issued : ℕ) (r : Row) (m : Move) → IsTidy issued r → Ones in_key in_size m.in_new → Ones out_key out_size m.out_new → Ones debt_key booked_units m.booked → (Ones in_key in_size (after_move m r).ins) × (Ones out_key out_size (after_move m r).outs) × (Ones debt_key booked_units (after_move m r).debts)
ones_moved issued r m t a b c = (
  Ones-with_all in_key in_size m.in_new _ a (Ones-filter in_key in_size (λ e. not (listed m.in_gone (in_key e))) r.ins t.ins_ones),
  Ones-with_all out_key out_size m.out_new _ b (Ones-filter out_key out_size (λ e. not (listed m.out_gone (out_key e))) r.outs t.outs_ones),
  Ones-append debt_key booked_units _ m.booked (Ones-use_up m.used_up _ (Ones-filter debt_key booked_units (λ d. not (m.returned d)) r.debts t.debts_ones)) c,
)

-- one chunk that was not there
pub new_chunk : {E : Type 0} (key : E → Object) (l : List E) (name : List ℕ) (o : Object) (n : ℕ) → has key l (Chunk name) ≡ false → n ≡ (cond (object_eq (Chunk name) o) 1 0 + 0) + occurs key l o → occurs key l o ≤ 1 → n ≤ 1
new_chunk key l name o n lacks is once =
    by_cases (object_eq (Chunk name) o)
    (λ k. let none : occurs key l o ≡ 0 = sym (carry (occurs key l) (Chunk name) o k) ∙ lacks-units_at key (λ _. 1) l (Chunk name) lacks in let is' = rw k at is in omega (arith, is', none))
    (λ k. let is' = rw k at is in omega (arith, is', once))

pub tidy_still : (issued : ℕ) (r : Row) → IsTidy issued r → IsTidy issued (after_move still r)
tidy_still issued r t =
    let w = weighs r still refl refl (omega arith) in
    let ones = ones_moved issued r still t tt tt tt in
    record {
      balanced = omega (arith, w.held, w.back, w.debt, t.balanced, none_returned debt_size r.debts);
      ins_once = λ o. omega (arith, w.ins o, t.ins_once o);
      ins_ones = ones.0;
      outs_once = λ o. omega (arith, w.outs o, w.debts o, t.outs_once o);
      outs_ones = ones.1;
      debts_ones = ones.2;
      below = λ n h. omega (arith, w.outs (Slot n), w.debts (Slot n), t.below n h);
    }

abbrev pub fresh_move : ℕ → ℕ → List ℕ → Move
fresh_move issued u name = record still { in_new = chunk_in name u ∷ []; out_new = own_slots issued u }

-- own slots from issued on are new
pub none_left : (k : ℕ) → leb 1 k ≡ false → k ≡ 0
none_left k h = grind (arith, nat_tests)

pub new_slots_once : (issued u : ℕ) (r : Row) (n k x y d : ℕ) → IsRange issued u n k → total r (Slot n) ≤ 1 → (issued ≤ n → total r (Slot n) ≡ 0) → x ≡ k + occurs out_key r.outs (Slot n) → y + d ≤ occurs debt_key r.debts (Slot n) + 0 → x + y ≤ 1
new_slots_once issued u r n k x y d range once below a b =
    by_cases (leb 1 k)
    (λ h. let least = leb-true 1 k h in omega (arith, range.once, below (range.low least)))
    (λ h. let less = none_left k h in omega arith)

pub new_slots_below : (issued u : ℕ) (r : Row) (n k x y d : ℕ) → IsRange issued u n k → issued + u ≤ n → (issued ≤ n → total r (Slot n) ≡ 0) → x ≡ k + occurs out_key r.outs (Slot n) → y + d ≤ occurs debt_key r.debts (Slot n) + 0 → x + y ≡ 0
new_slots_below issued u r n k x y d range le below a b =
    by_cases (leb 1 k)
    (λ h. absurd (omega (arith, range.high (leb-true 1 k h))))
    (λ h. let less = none_left k h in omega (arith, below (omega arith)))

pub tidy_fresh : (issued u : ℕ) (name : List ℕ) (r : Row) → 1 ≤ u → IsTidy issued r → has in_key r.ins (Chunk name) ≡ false → IsTidy (issued + u) (after_move (fresh_move issued u name) r)
tidy_fresh issued u name r some t lacks =
    let m : Move = fresh_move issued u name in
    let w = weighs r m refl refl (omega arith) in
    let ones = ones_moved issued r m t (some, tt) (Ones-own_slots issued u) tt in
    record {
      balanced = omega (arith, w.held, w.back, w.debt, t.balanced, none_returned debt_size r.debts, sum-own_slots issued u);
      ins_once = λ o. new_chunk in_key r.ins name o _ lacks (w.ins o) (t.ins_once o);
      ins_ones = ones.0;
      outs_once = elim [ Chunk c ↦ omega (arith, w.outs (Chunk c), w.debts (Chunk c), own_slots-chunk issued u c, t.outs_once (Chunk c)) | Slot n ↦ new_slots_once issued u r n _ _ _ _ (own_slots-slot issued u n) (t.outs_once (Slot n)) (t.below n) (w.outs (Slot n)) (w.debts (Slot n)) ];
      outs_ones = ones.1;
      debts_ones = ones.2;
      below = λ n h. new_slots_below issued u r n _ _ _ _ (own_slots-slot issued u n) h (t.below n) (w.outs (Slot n)) (w.debts (Slot n));
    }

-- slots of a list that has each of them are as many units as there are slots
pub units_of_slots : {E : Type 0} (key : E → Object) (size : E → ℕ) (l : List E) (ns : List ℕ) → Ones key size l → ((o : Object) → occurs key l o ≤ 1) → ((o : Object) → listed (slots ns) o ≡ true → has key l o ≡ true) → sum_at key size l (slots ns) ≡ length ns
units_of_slots key size l ns ones once here =
    sum_at-ones key size l (slots ns) (elim [ Chunk c ↦ λ h. absurd (false≢true (sym (no_chunk ns c) ∙ h)) | Slot n ↦ λ h. omega (arith, units_at-slot key size l n ones, once (Slot n), has-occurs key l (Slot n) (here (Slot n) h)) ])
    ∙ length-slots ns

-- a chunk in the place of slots
abbrev pub swap_move : List ℕ → List ℕ → ℕ → Move
swap_move numbers name u = record still { in_gone = slots numbers; in_new = chunk_in name u ∷ [] }

pub fewer : (b : Bool) (n : ℕ) → cond b 0 n ≤ n
fewer true n = omega arith
fewer false n = omega arith

pub new_chunk_less : {E : Type 0} (key : E → Object) (l : List E) (name : List ℕ) (o : Object) (n : ℕ) (b : Bool) → has key l (Chunk name) ≡ false → n ≡ (cond (object_eq (Chunk name) o) 1 0 + 0) + cond b 0 (occurs key l o) → occurs key l o ≤ 1 → n ≤ 1
new_chunk_less key l name o n b lacks is once =
    by_cases (object_eq (Chunk name) o)
    (λ k. let none : occurs key l o ≡ 0 = sym (carry (occurs key l) (Chunk name) o k) ∙ lacks-units_at key (λ _. 1) l (Chunk name) lacks in let is' = rw k at is in omega (arith, is', none, fewer b (occurs key l o)))
    (λ k. let is' = rw k at is in omega (arith, is', once, fewer b (occurs key l o)))

pub tidy_swap : (issued u : ℕ) (numbers : List ℕ) (name : List ℕ) (r : Row) → 1 ≤ u → IsTidy issued r → has in_key r.ins (Chunk name) ≡ false → ascend numbers ≡ true → ((o : Object) → listed (slots numbers) o ≡ true → has in_key r.ins o ≡ true) → length numbers ≡ u → IsTidy issued (after_move (swap_move numbers name u) r)
tidy_swap issued u numbers name r some t lacks asc here long =
    let m : Move = swap_move numbers name u in
    let w = weighs r m (ascend-distinct numbers asc) refl (omega arith) in
    let ones = ones_moved issued r m t (some, tt) tt tt in
    record {
      balanced = omega (arith, w.held, w.back, w.debt, t.balanced, none_returned debt_size r.debts, units_of_slots in_key in_size r.ins numbers t.ins_ones t.ins_once here, long);
      ins_once = λ o. new_chunk_less in_key r.ins name o _ (listed (slots numbers) o) lacks (w.ins o) (t.ins_once o);
      ins_ones = ones.0;
      outs_once = λ o. omega (arith, w.outs o, w.debts o, t.outs_once o);
      outs_ones = ones.1;
      debts_ones = ones.2;
      below = λ n h. omega (arith, w.outs (Slot n), w.debts (Slot n), t.below n h);
    }

-- a chunk is let go, and own slots
abbrev pub let_go_move : List ℕ → List ℕ → Move
let_go_move name numbers = record still { in_gone = Chunk name ∷ []; out_gone = slots numbers }

pub tidy_let_go : (issued : ℕ) (numbers : List ℕ) (name : List ℕ) (r : Row) → IsTidy issued r → ascend numbers ≡ true → ((o : Object) → listed (slots numbers) o ≡ true → has out_key r.outs o ≡ true) → length numbers ≡ units_at in_key in_size r.ins (Chunk name) → IsTidy issued (after_move (let_go_move name numbers) r)
tidy_let_go issued numbers name r t asc here long =
    let m : Move = let_go_move name numbers in
    let w = weighs r m refl (ascend-distinct numbers asc) (omega arith) in
    let ones = ones_moved issued r m t tt tt tt in
    record {
      balanced = omega (arith, w.held, w.back, w.debt, t.balanced, none_returned debt_size r.debts, units_of_slots out_key out_size r.outs numbers t.outs_ones (λ o. omega (arith, t.outs_once o)) here, long);
      ins_once = λ o. omega (arith, w.ins o, t.ins_once o, fewer (listed (Chunk name ∷ []) o) (occurs in_key r.ins o));
      ins_ones = ones.0;
      outs_once = λ o. omega (arith, w.outs o, w.debts o, t.outs_once o, fewer (listed (slots numbers) o) (occurs out_key r.outs o));
      outs_ones = ones.1;
      debts_ones = ones.2;
      below = λ n h. omega (arith, w.outs (Slot n), w.debts (Slot n), t.below n h, fewer (listed (slots numbers) (Slot n)) (occurs out_key r.outs (Slot n)));
    }

-- slots in the place of a chunk
abbrev pub put_back_move : List ℕ → List ℕ → Move
put_back_move name numbers = record still { in_gone = Chunk name ∷ []; in_new = direct_slots numbers }

pub new_slots_in : (r : Row) (numbers : List ℕ) (o : Object) (n : ℕ) (b : Bool) → ascend numbers ≡ true → ((x : Object) → listed (slots numbers) x ≡ true → not (has in_key r.ins x) ≡ true) → n ≡ occurs in_key (direct_slots numbers) o + cond b 0 (occurs in_key r.ins o) → occurs in_key r.ins o ≤ 1 → n ≤ 1
new_slots_in r numbers o n b asc lacks is once =
    let is' = rw (occurs-direct_slots numbers o (ascend-distinct numbers asc)) at is in
    by_cases (listed (slots numbers) o)
    (λ k. let none : occurs in_key r.ins o ≡ 0 = lacks-units_at in_key (λ _. 1) r.ins o (not_true (has in_key r.ins o) (lacks o k)) in let is'' = rw k at is' in omega (arith, is'', none, fewer b (occurs in_key r.ins o)))
    (λ k. let is'' = rw k at is' in omega (arith, is'', once, fewer b (occurs in_key r.ins o)))
  where
    not_true : (b : Bool) → not b ≡ true → b ≡ false
    not_true true h = sym h
    not_true false h = refl

pub tidy_put_back : (issued : ℕ) (numbers : List ℕ) (name : List ℕ) (r : Row) → IsTidy issued r → ascend numbers ≡ true → ((o : Object) → listed (slots numbers) o ≡ true → not (has in_key r.ins o) ≡ true) → length numbers ≡ units_at in_key in_size r.ins (Chunk name) → IsTidy issued (after_move (put_back_move name numbers) r)
tidy_put_back issued numbers name r t asc lacks long =
    let m : Move = put_back_move name numbers in
    let w = weighs r m refl refl (omega arith) in
    let ones = ones_moved issued r m t (Ones-direct_slots numbers) tt tt in
    record {
      balanced = omega (arith, w.held, w.back, w.debt, t.balanced, none_returned debt_size r.debts, sum-direct_slots numbers, long);
      ins_once = λ o. new_slots_in r numbers o _ (listed (Chunk name ∷ []) o) asc lacks (w.ins o) (t.ins_once o);
      ins_ones = ones.0;
      outs_once = λ o. omega (arith, w.outs o, w.debts o, t.outs_once o);
      outs_ones = ones.1;
      debts_ones = ones.2;
      below = λ n h. omega (arith, w.outs (Slot n), w.debts (Slot n), t.below n h);
    }

-- lost objects become debt
pub lost_total : (x y z d a b c : ℕ) (l : Bool) → x ≡ 0 + cond l 0 a → y + z ≤ b + c → c ≡ cond l a 0 → x + y ≤ a + b
lost_total x y z d a b c l p q e = grind (arith, cases_Bool l)

pub tidy_loses : (issued n : ℕ) (declined : Bool) (objects : List Object) (r : Row) → IsTidy issued r → objects_distinct objects ≡ true → IsTidy issued (after_move (loses n declined objects r) r)
tidy_loses issued n declined objects r t distinct =
    let m : Move = loses n declined objects r in
    let w = weighs r m refl distinct (omega arith) in
    let ones = ones_moved issued r m t tt tt (Ones-lost_rows n declined objects r.outs t.outs_ones) in
    let tot : (o : Object) → total (after_move m r) o ≤ total r o = λ o. lost_total _ _ _ 0 (occurs out_key r.outs o) (occurs debt_key r.debts o) _ (listed objects o) (w.outs o) (w.debts o) (units_at-lost_rows (λ _. 1) (λ _. 1) n declined (λ e. refl) objects r.outs o distinct) in
    record {
      balanced = omega (arith, w.held, w.back, w.debt, t.balanced, none_returned debt_size r.debts, sum-lost_rows n declined objects r.outs);
      ins_once = λ o. omega (arith, w.ins o, t.ins_once o);
      ins_ones = ones.0;
      outs_once = λ o. omega (arith, tot o, t.outs_once o);
      outs_ones = ones.1;
      debts_ones = ones.2;
      below = λ k h. omega (arith, tot (Slot k), t.below k h);
    }

-- whole rows go back
abbrev pub give_back_move : List Object → Row → Move
give_back_move objects r = record still { returned = is_whole_listed objects; out_new = map out_again (filter (is_whole_listed objects) r.debts) }

ones_again : (objects : List Object) (ds : List DebtEntry) → Ones debt_key booked_units ds → Ones out_key out_size (map out_again (filter (is_whole_listed objects) ds))
ones_again objects ds h = Ones-map debt_key booked_units out_key out_size out_again (λ d. refl) (λ d. refl) (filter (is_whole_listed objects) ds) (Ones-filter debt_key booked_units (is_whole_listed objects) ds h)

pub tidy_give_back : (issued : ℕ) (objects : List Object) (r : Row) → IsTidy issued r → IsTidy issued (after_move (give_back_move objects r) r)
tidy_give_back issued objects r t =
    let m : Move = give_back_move objects r in
    let w = weighs r m refl refl (omega arith) in
    let ones = ones_moved issued r m t tt (ones_again objects r.debts t.debts_ones) tt in
    let tot : (o : Object) → total (after_move m r) o ≤ total r o = λ o. omega (arith, w.outs o, w.debts o, units_at-map debt_key (λ _. 1) out_key (λ _. 1) out_again (λ d. refl) (λ d. refl) (filter (is_whole_listed objects) r.debts) o) in
    record {
      balanced = omega (arith, w.held, w.back, w.debt, t.balanced, sum-out_again objects r.debts);
      ins_once = λ o. omega (arith, w.ins o, t.ins_once o);
      ins_ones = ones.0;
      outs_once = λ o. omega (arith, tot o, t.outs_once o);
      outs_ones = ones.1;
      debts_ones = ones.2;
      below = λ k h. omega (arith, tot (Slot k), t.below k h);
    }
