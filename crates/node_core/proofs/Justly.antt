-- What a history grows by has its reason in the input.
use Rattle.std.proofs.Common.{◌≡◌, inl, inr, List, [], ◌∷◌, ◌++◌, option_to_list, Option, Some, None, refl, ◌∙◌, ap, append-nil}
use Rattle.psb_model.specs.declared.change.Change.{Change}
use Rattle.psb_machine.specs.Machine.{Situation, Input, react, next}
use Rattle.probe_laws.proofs.Just.{outcomes_are_just}
use Rattle.node_core.specs.Reacting.{GrewJustly}

-- what the history of the next situation is, by what grew
grown_is : (n : Situation) (x : Input) (o : Option Change) → (react n x).grown ≡ o → (next n x).history ≡ n.history ++ option_to_list o
grown_is n x o is = ap (λ (q : Option Change). n.history ++ option_to_list q) is

pub grew_justly : (n : Situation) (x : Input) → GrewJustly n x (next n x)
grew_justly n x = by_change (react n x).grown refl
  where
    by_change : (o : Option Change) → (react n x).grown ≡ o → GrewJustly n x (next n x)
    by_change None is = inl (grown_is n x None is ∙ append-nil n.history)
    by_change (Some c) is = inr (c, grown_is n x (Some c) is, outcomes_are_just n x c is)
