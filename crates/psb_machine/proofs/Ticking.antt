-- A deal that a tick offers can be spelled; what is proposed may be made.
use Rattle.std.proofs.Common.{◌≡◌, ℕ, ◌+◌, ◌^◌, true, List, [], ◌∷◌, ◌++◌, Some, None, refl, sym, ap, subst, arith}
use Rattle.std.proofs.lemmas.Bool.{lt-ltb}
use Rattle.psb_settings.specs.declared.settings.Settings.{Settings}
use Rattle.psb_model.specs.State.{row, is_peer}
use Rattle.psb_model.specs.Grammar.{is_u64}
use Rattle.psb_model.specs.Conditions.{capacity}
use Rattle.psb_model.specs.Proposing.{proposal}
use Rattle.psb_model.specs.History.{state}
use Rattle.psb_model.specs.Needed.{IsValid}
use Rattle.psb_model.specs.declared.deals.DealWhat.{DealWhat}
use Rattle.psb_model.specs.declared.change.Change.{Change}
use Rattle.psb_model.specs.declared.change.Change.TheVariants.{Proposed}
use Rattle.model_laws.proofs.Bodies.{valid_snoc}
use Rattle.psb_model.proofs.Steady.{steady_state}
use Rattle.model_laws.proofs.Fitting.{fit_state}
use Rattle.model_laws.proofs.Widths.{wide_state}
use Rattle.model_laws.proofs.RowOrder.{sorted_row}
use Rattle.model_laws.proofs.Proposable.{proposable, proposal_allowed}
use Rattle.psb_machine.specs.Proposals.{Offer, propose_facts, is_askable}
use Rattle.psb_bytes.specs.declared.ids.Object.{Object}
use Rattle.psb_machine.specs.OwnProbes.{listed_by}
use Rattle.psb_machine.specs.Machine.{Situation, run_at, offer_at}
use Rattle.psb_machine.specs.Laws.{TickFits}
use Rattle.psb_machine.proofs.Causes.{offer_cases}
use Rattle.psb_machine.proofs.Taken.{MayTake, begun_here}
use Rattle.psb_machine.proofs.Askable.{pending_askable, proposal_askable}

-- it can be asked for
pub offer_askable : (settings : Settings) (n : Situation) (p : ℕ) (o : Offer) → IsValid n.history → (state n.history).settings ≡ Some settings → offer_at settings n p ≡ Some o → is_askable (state n.history) p o.deal.what ≡ true
offer_askable settings n p o v is h =
    offer_cases settings n p o h
    (λ pending old. pending_askable n.history p o.deal v pending)
    (λ idle what found same. subst (λ (x : Offer). is_askable (state n.history) p x.deal.what ≡ true) same (proposal_askable n.history settings p (listed_by (run_at n p)) what v is found))

-- ---- the deal that is proposed next, where none is pending, may be made

pub proposed_may : (h : List Change) (settings : Settings) (p : ℕ) (probed : List Object) (what : DealWhat) → IsValid h → (state h).settings ≡ Some settings → is_peer (state h) p ≡ true → TickFits (state h) p → (row (state h) p).pending ≡ None
    → proposal (state h) p probed (propose_facts settings (state h)) ≡ Some what → MayTake (state h) (Proposed (record { peer = p; deal = (row (state h) p).mine + 1; what = what }))
proposed_may h settings p probed what v is peer f idle next =
    let s = state h in
    let number = (row s p).mine + 1 in
    let may = proposable s p probed (propose_facts settings s) what (steady_state h v.lawful) (fit_state h v.lawful) (wide_state h v.lawful v.fit) (sorted_row h p) refl (sym (ap capacity is)) next in
    let fits : is_u64 number ≡ true = lt-ltb number (2 ^ 64) (omega (arith, f.more)) in
    record {
      grammar = may.listed;
      may = proposal_allowed s p number what may (begun_here h v.some) peer idle refl;
      widths = rw (f.peer, fits, may.fits) refl;
      brings = refl;
      answerable = refl;
    }

pub proposed_valid : (h : List Change) (settings : Settings) (p : ℕ) (probed : List Object) (what : DealWhat) → IsValid h → (state h).settings ≡ Some settings → is_peer (state h) p ≡ true → TickFits (state h) p → (row (state h) p).pending ≡ None
    → proposal (state h) p probed (propose_facts settings (state h)) ≡ Some what → IsValid (h ++ Proposed (record { peer = p; deal = (row (state h) p).mine + 1; what = what }) ∷ [])
proposed_valid h settings p probed what v is peer f idle next =
    let m = proposed_may h settings p probed what v is peer f idle next in
    valid_snoc h (Proposed (record { peer = p; deal = (row (state h) p).mine + 1; what = what })) v m.grammar m.may m.widths m.brings
