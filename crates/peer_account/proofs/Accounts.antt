-- The lists and the running sums of an account, as entries come and go.
use Rattle.std.proofs.Common.{◌≡◌, ℕ, ◌+◌, ◌||◌, Bool, true, false, not, List, [], ◌∷◌, map, filter, sum_by, refl, sym, ap, ◌∙◌, arith}
use Rattle.std.specs.List.{list_any}
use Rattle.psb_bytes.specs.declared.ids.Object.{Object}
use Rattle.std.proofs.lemmas.Bool.{and_parts, false≢true}
use Rattle.psb_model.specs.declared.entries.InEntry.{InEntry}
use Rattle.psb_model.specs.declared.entries.OutEntry.{OutEntry}
use Rattle.psb_model.specs.declared.entries.DebtEntry.{DebtEntry}
use Rattle.psb_model.specs.declared.deals.LastDeal.{LastDeal}
use Rattle.psb_model.specs.Words.{has, object_eq, with_one, with_all}
use Rattle.psb_model.specs.State.{in_key, in_size, out_key, out_size}
use Rattle.psb_model.specs.Effects.{own_slots, chunk_in, is_named}
use Rattle.psb_model.proofs.ByObject.{sum_by-with_one, sum_by-with_all, by_cases}
use Rattle.psb_model.proofs.Parts.{sum-own_slots}
use Rattle.peer_account.specs.declared.probes.Probes.{Probes}
use Rattle.peer_account.specs.OwnDeals.{row_names}
use Rattle.own_deals.specs.OwnDeals.{OwnDealsView}
use Rattle.peer_account.specs.View.{AccountView, lacks_all, named_row, whole_row, fresh_row}
use Rattle.peer_lists.proofs.Ordered.{is_false}

-- what a list lacks, it lacks when others are gone
pub lacks_kept : {E : Type 0} (key : E → Object) (q : E → Bool) (l : List E) (o : Object) → has key l o ≡ false → has key (filter q l) o ≡ false
lacks_kept key q [] o h = refl
lacks_kept key q (x ∷ xs) o h =
    by_cases (object_eq (key x) o)
    (λ k. absurd (false≢true (sym h ∙ rw k refl)))
    (λ k. let h' = rw k at h in by_cases (q x) (λ j. rw (j, k) (lacks_kept key q xs o h')) (λ j. rw j (lacks_kept key q xs o h')))

pub lacks_all_kept : {E : Type 0} (key : E → Object) (q : E → Bool) (es l : List E) → lacks_all key es l ≡ true → lacks_all key es (filter q l) ≡ true
lacks_all_kept key q [] l h = refl
lacks_all_kept key q (e ∷ es) l h =
    let a = and_parts (not (has key l (key e))) (lacks_all key es l) h in
    rw (lacks_kept key q l (key e) (is_false (has key l (key e)) a.0)) (lacks_all_kept key q es l a.1)

pub one_more_in : (held u : ℕ) (e : InEntry) (old new : List InEntry) → e.units ≡ u → held ≡ sum_by in_size old → new ≡ with_one in_key e old → held + u ≡ sum_by in_size new
one_more_in held u e old new size total is = omega (arith, total, size, ap (sum_by in_size) is, sum_by-with_one in_key in_size e old)

pub more_out : (back first u : ℕ) (old new : List OutEntry) → back ≡ sum_by out_size old → new ≡ with_all out_key (own_slots first u) old → back + u ≡ sum_by out_size new
more_out back first u old new total is = omega (arith, total, ap (sum_by out_size) is, sum_by-with_all out_key out_size (own_slots first u) old, sum-own_slots first u)

-- the row of an account that took a chunk
pub taken_row : (ins ins' : List InEntry) (outs outs' : List OutEntry) (debts : List DebtEntry) (last : LastDeal) (deals : OwnDealsView) (probes : Probes) (name : List ℕ) (u first deal change : ℕ) → ins' ≡ with_one in_key (chunk_in name u) ins → outs' ≡ with_all out_key (own_slots first u) outs → whole_row ins' outs' debts (record { number = deal; change = change }) deals probes ≡ fresh_row name u first deal change (whole_row ins outs debts last deals probes)
taken_row ins ins' outs outs' debts last deals probes name u first deal change a b = λ i. whole_row (a i) (b i) debts (record { number = deal; change = change }) deals probes

-- whose rows name a chunk
pub named_in : (vs : List AccountView) (n : List ℕ) → list_any (λ (v : AccountView). row_names v.row n) vs ≡ is_named (map named_row vs) n
named_in [] n = refl
named_in (v ∷ vs) n = ap (λ b. row_names v.row n || b) (named_in vs n)
