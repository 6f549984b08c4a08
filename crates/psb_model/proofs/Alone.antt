-- A pending deal stands through every move that leaves its objects alone.
use Rattle.std.proofs.Common.{◌≡◌, ℕ, ◌+◌, ◌<◌, ◌≤◌, true, false, List, [], ◌∷◌, refl, sym, ap, ◌∙◌, arith}
use Rattle.std.proofs.lemmas.Bool.{eq-eqb}
use Rattle.psb_bytes.specs.declared.ids.Object.{Object}
use Rattle.psb_bytes.specs.declared.ids.Object.TheVariants.{Chunk, Slot}
use Rattle.psb_model.specs.declared.entries.OwnEntry.{OwnEntry}
use Rattle.psb_model.specs.declared.deals.DealWhat.{DealWhat}
use Rattle.psb_model.specs.declared.deals.DealWhat.TheVariants.{Fresh, Swap, Cancel, PutBack, Forward, Return}
use Rattle.psb_model.specs.Move.{Move, after_move}
use Rattle.psb_model.specs.State.{Row, in_key, in_ties, out_key, out_size, out_ties}
use Rattle.psb_model.specs.Words.{listed, slots, units_at, without}
use Rattle.psb_model.proofs.ByObject.{by_cases, carry, occurs, units_at-without, units_at-with_all}
use Rattle.psb_model.proofs.Tidy.{total, IsTidy, Weighs}
use Rattle.psb_model.proofs.Standing.{occurs_none, StandsFor}

-- a chunk, or a slot whose number was drawn
abbrev pub IsOld : ℕ → Object → Type 0
IsOld issued (Chunk c) = Unit {0}
IsOld issued (Slot n) = n < issued

pub record LeavesAlone (issued p : ℕ) (r : Row) (m : Move) (d : DealWhat) : Type 0 where
  pub outs : (o : Object) → listed (out_ties d) o ≡ true → listed m.out_gone o ≡ false
  pub ins : (o : Object) → listed (in_ties p d p) o ≡ true → listed m.in_gone o ≡ false
  pub late : (o : Object) → IsOld issued o → total r o ≡ 0 → total (after_move m r) o ≡ 0

-- what is there once and does not go stays, with its units
pub record Stays (r : Row) (m : Move) (o : Object) : Type 0 where
  pub once : occurs out_key (after_move m r).outs o ≡ 1
  pub same : units_at out_key out_size (after_move m r).outs o ≡ units_at out_key out_size r.outs o

stays : (issued : ℕ) (r : Row) (m : Move) (o : Object) → IsTidy issued (after_move m r) → Weighs r m → listed m.out_gone o ≡ false → occurs out_key r.outs o ≡ 1 → Stays r m o
stays issued r m o t w kept here =
    let outs = rw kept at (w.outs o) in
    let sizes = rw kept at (units_at-with_all out_key out_size m.out_new (without out_key m.out_gone r.outs) o ∙ ap (λ n. units_at out_key out_size m.out_new o + n) (units_at-without out_key out_size m.out_gone r.outs o)) in
    let none : occurs out_key m.out_new o ≡ 0 = omega (arith, outs, here, t.outs_once o) in
    record {
      once = omega (arith, outs, here, none);
      same = omega (arith, sizes, occurs_none out_key out_size m.out_new o none);
    }

in_stays : (issued : ℕ) (r : Row) (m : Move) (o : Object) → IsTidy issued (after_move m r) → Weighs r m → listed m.in_gone o ≡ false → occurs in_key r.ins o ≡ 1 → occurs in_key (after_move m r).ins o ≡ 1
in_stays issued r m o t w kept here =
    let ins = rw kept at (w.ins o) in
    omega (arith, ins, here, t.ins_once o)

pub cancel_ties : (p : ℕ) (name numbers : List ℕ) → in_ties p (Cancel name numbers) p ≡ slots numbers
cancel_ties p name numbers = rw (eq-eqb p p refl) refl

first_tie : (o : Object) → listed (o ∷ []) o ≡ true
first_tie o = rw (Rattle.psb_model.proofs.ByObject.object_eq-refl o) refl

pub stands_after : (issued issued' p : ℕ) (own : List OwnEntry) (r : Row) (m : Move) (d : DealWhat) → issued ≤ issued' → IsTidy issued' (after_move m r) → Weighs r m → LeavesAlone issued p r m d → StandsFor issued own r d → StandsFor issued' own (after_move m r) d
stands_after issued issued' p own r m (Fresh name) le t w a s = a.late (Chunk name) tt s
stands_after issued issued' p own r m (Swap name numbers) le t w a s = record {
  absent = a.late (Chunk name) tt s.absent;
  owned = s.owned;
  long = s.long;
  ascends = s.ascends;
  here = λ o h. (stays issued' r m o t w (a.outs o h) (s.here o h)).once;
}
stands_after issued issued' p own r m (Cancel name numbers) le t w a s =
    let stay = stays issued' r m (Chunk name) t w (a.outs (Chunk name) (first_tie (Chunk name))) s.present in
    record {
      present = stay.once;
      long = s.long ∙ sym stay.same;
      ascends = s.ascends;
      here = λ o h. in_stays issued' r m o t w (a.ins o (ap (λ l. listed l o) (cancel_ties p name numbers) ∙ h)) (s.here o h);
    }
stands_after issued issued' p own r m (PutBack name first) le t w a s =
    let stay = stays issued' r m (Chunk name) t w (a.outs (Chunk name) (first_tie (Chunk name))) s.present in
    record {
      present = stay.once;
      drawn = omega (arith, s.drawn, stay.same, le);
      free = λ n low high. a.late (Slot n) (omega (arith, s.drawn, stay.same, high)) (s.free n low (omega (arith, stay.same, high)));
    }
stands_after issued issued' p own r m (Forward slot entry) le t w a s = tt
stands_after issued issued' p own r m (Return slot) le t w a s = tt
