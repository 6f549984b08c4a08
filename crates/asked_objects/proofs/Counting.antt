-- How many objects a probe may ask for.
use Rattle.std.proofs.Common.{◌≡◌, ◌≤◌, ℕ, ◌+◌, not, List, map, length, refl, ap, length-append, arith}
use Rattle.std.proofs.lemmas.List.{length-map}
use Rattle.std.proofs.lemmas.List.Filters.{length-filter_both}
use Rattle.psb_bytes.specs.declared.ids.Object.{Object}
use Rattle.psb_model.specs.State.{Row, out_key, back_units}
use Rattle.psb_machine.specs.OwnProbes.{may_list, objects_to_ask}
use Rattle.asked_objects.specs.Listable.{IsListable}
use Rattle.asked_objects.specs.Parts.{chunks_there, slots_there, outs_there, AreParts}
use Rattle.asked_objects.proofs.Ranks.{IsJoined, length_all}
use Rattle.asked_objects.proofs.Joining.{there_is, joined}

pub parts_joined : (r : Row) (chunks : List Object) (slots : ℕ) (debts : List Object) → AreParts r chunks slots debts → IsListable r → IsJoined (objects_to_ask r) (outs_there r) debts
parts_joined r chunks slots debts parts listable = joined r debts parts.outs_ordered listable parts.debts_are

outs_are : (r : Row) (chunks : List Object) (slots : ℕ) (debts : List Object) → AreParts r chunks slots debts → length (outs_there r) ≡ length chunks + slots
outs_are r chunks slots debts parts = omega (arith, length-append (chunks_there r) (map out_key (slots_there r)), length-map (slots_there r) out_key, ap length parts.chunks_are, parts.slots_are)

pub count_is : (r : Row) (chunks : List Object) (slots : ℕ) (debts : List Object) → AreParts r chunks slots debts → IsListable r → length chunks + slots + length debts ≡ length (objects_to_ask r)
count_is r chunks slots debts parts listable = omega (arith, length_all (objects_to_ask r) (outs_there r) debts (parts_joined r chunks slots debts parts listable), outs_are r chunks slots debts parts)

pub few_outs : (r : Row) (chunks : List Object) (slots : ℕ) (debts : List Object) → AreParts r chunks slots debts → IsListable r → length chunks + slots ≤ back_units r
few_outs r chunks slots debts parts listable =
    let q = may_list r in
    let l = map out_key r.outs in
    omega (arith, outs_are r chunks slots debts parts, ap length (there_is r parts.outs_ordered listable), length-filter_both q (λ o. not (q o)) (λ _. refl) l, length-map r.outs out_key, listable.few)
