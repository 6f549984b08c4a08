-- A fault that a call hands on.
use Rattle.std.proofs.Common.{◌≡◌, Result, Err, sym, ◌∙◌}
use Rattle.std.specs.Result.{IsErr, IsErrAnd}
use Rattle.node_history.proofs.Presence.{err_that, err_as}

-- a call that hands a fault on met that very fault
pub same_fault : {A B E : Type 0} (r : Result A E) (s : Result B E) (e f : E) → r ≡ Err e → IsErr s → IsErrAnd s (λ g. g ≡ e) → s ≡ Err f → r ≡ Err f
same_fault r s e f is bad same ends = is ∙ err_as e f (sym (err_that s e bad same) ∙ ends)

-- and so with whatever fault the call may end
pub handed : {A B E : Type 0} (s : Result B E) (e f : E) → IsErr s → IsErrAnd s (λ g. g ≡ e) → ◌≡◌ {A = Result A E} (Err e) (Err f) → s ≡ Err f
handed s e f bad same is = err_that s e bad same ∙ err_as e f is
