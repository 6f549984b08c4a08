-- Each row of a valid history can be searched by ranks.
use Rattle.std.proofs.Common.{◌≡◌, ◌≤◌, ℕ, true, List, [], ◌∷◌, length, sum_by, Option, Some, None, refl, arith}
use Rattle.std.proofs.lemmas.List.Sums.{sum_by-cons}
use Rattle.psb_bytes.specs.declared.ids.Object.{Object}
use Rattle.psb_bytes.specs.declared.ids.Object.TheVariants.{Chunk, Slot}
use Rattle.psb_model.specs.declared.change.Change.{Change}
use Rattle.psb_model.specs.declared.deals.Deal.{Deal}
use Rattle.psb_model.specs.declared.deals.DealWhat.{DealWhat}
use Rattle.psb_model.specs.declared.deals.DealWhat.TheVariants.{Fresh, Swap, Cancel, PutBack, Forward, Return}
use Rattle.psb_model.specs.declared.entries.OutEntry.{OutEntry}
use Rattle.psb_model.specs.declared.entries.OwnEntry.{OwnEntry}
use Rattle.psb_model.specs.Grammar.{ascend}
use Rattle.psb_model.specs.History.{state}
use Rattle.psb_model.specs.Needed.{IsValid}
use Rattle.psb_model.specs.State.{Row, row, out_key, out_size}
use Rattle.psb_model.proofs.ByObject.{Ones, slot_size}
use Rattle.psb_model.proofs.Standing.{StandsFor}
use Rattle.psb_model.proofs.Steady.{steady_state}
use Rattle.psb_model.proofs.Tidy.{IsTidy}
use Rattle.asked_objects.specs.Listable.{IsListable, deal_ties, tied_slots}

-- each entry has a unit at least
some_units : (l : List OutEntry) → Ones out_key out_size l → length l ≤ sum_by out_size l
some_units [] h = omega arith
some_units (e ∷ es) h = omega (arith, sum_by-cons out_size e es, one_at e.object e.units h.0, some_units es h.1)
  where
    one_at : (o : Object) (u : ℕ) → slot_size o u → 1 ≤ u
    one_at (Chunk n) u h = h
    one_at (Slot n) u h = omega (arith, h)

deal_ascends : (issued : ℕ) (own : List OwnEntry) (r : Row) (w : DealWhat) → StandsFor issued own r w → ascend (deal_ties w) ≡ true
deal_ascends issued own r (Fresh name) h = refl
deal_ascends issued own r (Swap name numbers) h = h.ascends
deal_ascends issued own r (Cancel name numbers) h = refl
deal_ascends issued own r (PutBack name first) h = refl
deal_ascends issued own r (Forward slot entry) h = refl
deal_ascends issued own r (Return slot) h = refl

ties_ascend : (issued : ℕ) (own : List OwnEntry) (r : Row) (o : Option Deal) → ((d : Deal) → o ≡ Some d → StandsFor issued own r d.what) → ascend (tied_slots o) ≡ true
ties_ascend issued own r None h = refl
ties_ascend issued own r (Some d) h = deal_ascends issued own r d.what (h d refl)

pub tidy_listable : (issued : ℕ) (r : Row) → IsTidy issued r → ascend (tied_slots r.pending) ≡ true → IsListable r
tidy_listable issued r tidy ascends = record { once = tidy.outs_once; ascends = ascends; few = some_units r.outs tidy.outs_ones }

pub listable : (h : List Change) (p : ℕ) → IsValid h → IsListable (row (state h) p)
listable h p v =
    let r = row (state h) p in
    let good = (steady_state h v.lawful).good.rows p in
    tidy_listable (state h).issued r good.tidy (ties_ascend (state h).issued (state h).own r r.pending good.stands)
