-- Which kinds of change the machine makes so far.
use Rattle.std.specs.Prelude.{Bool, true, false}
use Rattle.psb_model.specs.declared.deals.DealWhat.{DealWhat}
use Rattle.psb_model.specs.declared.deals.DealWhat.TheVariants.{Fresh, Swap, Cancel, PutBack, Forward, Return}
use Rattle.psb_model.specs.declared.change.Change.{Change}
use Rattle.psb_model.specs.declared.change.Change.TheVariants.{Begun, Kept, Snapped, Forgot, TookFresh, TookSwap, LetGo, LetGoBack, Replaced, Refused, Proposed, Settled, Turned, Asked, Passed, Failed, Declined, Discarded, Chose}

-- The machine proposes deals of these kinds: all but those that move a claim to another peer, or back from there.
abbrev pub is_made_deal : DealWhat → Bool
is_made_deal (Fresh name) = true
is_made_deal (Swap name numbers) = true
is_made_deal (Cancel name numbers) = true
is_made_deal (PutBack name first) = true
is_made_deal (Forward slot entry) = false
is_made_deal (Return slot) = false

-- The kinds in a history that the machine makes: the beginning, which stands before its first input; what is kept of
-- the node's own; what the deals of a peer make; the own deals but for those that move a claim, with their replies; a
-- probe and its outcomes; a discard; and a choice of buddies.
abbrev pub is_made : Change → Bool
is_made (Begun x) = true
is_made (Kept x) = true
is_made (Snapped x) = true
is_made (Forgot x) = true
is_made (TookFresh x) = true
is_made (TookSwap x) = true
is_made (LetGo x) = true
is_made (LetGoBack x) = true
is_made (Replaced x) = true
is_made (Refused x) = true
is_made (Proposed x) = is_made_deal x.what
is_made (Settled x) = true
is_made (Turned x) = true
is_made (Asked x) = true
is_made (Passed x) = true
is_made (Failed x) = true
is_made (Declined x) = true
is_made (Discarded x) = true
is_made (Chose x) = true
