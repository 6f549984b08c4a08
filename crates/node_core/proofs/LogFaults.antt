-- The fault that a log met.
use Rattle.std.proofs.Common.{◌≡◌, ◌⊎◌, ⊎_elim, ◌↔◌, Bool, true, false, Result, Err, sym, ◌∙◌, subst}
use Rattle.std.specs.Result.{IsErr, IsErrAnd}
use Rattle.std.proofs.lemmas.Bool.{false≢true}
use Rattle.node_journal.specs.declared.log.LogError.{LogError}
use Rattle.node_journal.specs.declared.log.LogError.TheVariants as log
use Rattle.node_history.proofs.Presence.{err_that, err_is}
use Rattle.node_core.specs.declared.fault.Fault.{Fault}
use Rattle.node_core.specs.declared.fault.Fault.TheVariants as fault
use Rattle.node_core.specs.Faults.{fault_of}

-- a log that was whole and refuses an append met a fault of the disk
pub log_failed : {A B : Type 0} (r : Result A LogError) (s : Result B Fault) (e : LogError) (was : Bool) → was ≡ false → (r ≡ Err log.Broken) ↔ (was ≡ true) → (r ≡ Err log.DiskFault) ⊎ (r ≡ Err log.Broken) → r ≡ Err e → IsErr s → IsErrAnd s (λ f. f ≡ fault_of e) → (r ≡ Err log.DiskFault) × (s ≡ Err fault.DiskFault)
log_failed r s e was whole refused only is bad same =
    let failed : r ≡ Err log.DiskFault = ⊎_elim (λ f. f) (λ b. absurd (false≢true (sym whole ∙ refused.0 b))) only in
    let which : e ≡ log.DiskFault = err_is e log.DiskFault (sym is ∙ failed) in
    (failed, err_that s fault.DiskFault bad (subst (λ (x : LogError). IsErrAnd s (λ f. f ≡ fault_of x)) which same))
