-- What is looked for among the slots of a deal.
use Rattle.std.specs.Prelude.{ℕ, Bool, not}
use Rattle.psb_bytes.specs.declared.ids.Object.{Object}
use Rattle.psb_model.specs.Words.{has}
use Rattle.psb_model.specs.State.{State, row, in_key, out_key, tied_in}
use Rattle.psb_machine.specs.Deals.{is_engaged}
use Rattle.deals.specs.declared.slots.Sought.{Sought}
use Rattle.deals.specs.declared.slots.Sought.TheVariants.{In, NotIn, TiedIn, NotOut, Engaged}

abbrev pub is_sought : Sought → State → ℕ → Object → Bool
is_sought In s p = has in_key (row s p).ins
is_sought NotIn s p = λ o. not (has in_key (row s p).ins o)
is_sought TiedIn s p = tied_in s p
is_sought NotOut s p = λ o. not (has out_key (row s p).outs o)
is_sought Engaged s p = is_engaged s p
