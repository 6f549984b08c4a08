use Rattle.std.proofs.Common.{◌≡◌, true, option_to_list, Option, Some, None, is_some, refl, ap, ◌∙◌}
use Rattle.std.specs.List.{list_any}
use Rattle.psb_bytes.specs.declared.ids.Seat.{Seat}
use Rattle.peer_account.proofs.account.Account.is_forwarded.Goals as goal

one_there : (o : Option Seat) → is_some o ≡ list_any (λ (s : Seat). true) (option_to_list o)
one_there None = refl
one_there (Some s) = refl

pub returns : goal.returns
returns c = c.is_some.ensures ∙ one_there c.forwarded.result ∙ ap (list_any (λ (s : Seat). true)) c.forwarded.ensures
