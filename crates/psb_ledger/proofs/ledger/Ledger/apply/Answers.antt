-- What each change needs follows from its condition and the room.
use Rattle.std.proofs.Common.{arith}
use Rattle.psb_model.specs.declared.change.Change.TheVariants as change
use Rattle.psb_ledger.proofs.Needs.{needs}
use Rattle.psb_ledger.proofs.ledger.Ledger.apply.Goals as goal

pub take_fresh-requires-clause-may : goal.take_fresh-requires-clause-may
take_fresh-requires-clause-may c = needs c.self.inside c.args.self.now c.args.c (change.TookFresh c.in-TookFresh.x) c.place_in.result c.self.view_is c.self.invariant (omega arith) c.in-TookFresh.is c.place_in.ensures c.requires.grammar c.requires.room c.requires.may

pub take_swap-requires-clause-loose : goal.take_swap-requires-clause-loose
take_swap-requires-clause-loose c = (needs c.self.inside c.args.self.now c.args.c (change.TookSwap c.in-TookSwap.x) c.place_in-in-TookSwap.result c.self.view_is c.self.invariant (omega arith) c.in-TookSwap.is c.place_in-in-TookSwap.ensures c.requires.grammar c.requires.room c.requires.may).0

pub take_swap-requires-clause-may : goal.take_swap-requires-clause-may
take_swap-requires-clause-may c = (needs c.self.inside c.args.self.now c.args.c (change.TookSwap c.in-TookSwap.x) c.place_in-in-TookSwap.result c.self.view_is c.self.invariant (omega arith) c.in-TookSwap.is c.place_in-in-TookSwap.ensures c.requires.grammar c.requires.room c.requires.may).1

pub let_go-requires-clause-may : goal.let_go-requires-clause-may
let_go-requires-clause-may c = needs c.self.inside c.args.self.now c.args.c (change.LetGo c.in-LetGo.x) c.place_in-in-LetGo.result c.self.view_is c.self.invariant (omega arith) c.in-LetGo.is c.place_in-in-LetGo.ensures c.requires.grammar c.requires.room c.requires.may

pub put_back-requires-clause-may : goal.put_back-requires-clause-may
put_back-requires-clause-may c = needs c.self.inside c.args.self.now c.args.c (change.LetGoBack c.in-LetGoBack.x) c.place_in-in-LetGoBack.result c.self.view_is c.self.invariant (omega arith) c.in-LetGoBack.is c.place_in-in-LetGoBack.ensures c.requires.grammar c.requires.room c.requires.may

pub replace-requires-clause-loose : goal.replace-requires-clause-loose
replace-requires-clause-loose c = (needs c.self.inside c.args.self.now c.args.c (change.Replaced c.in-Replaced.x) c.place_in-in-Replaced.result c.self.view_is c.self.invariant (omega arith) c.in-Replaced.is c.place_in-in-Replaced.ensures c.requires.grammar c.requires.room c.requires.may).0

pub replace-requires-clause-may : goal.replace-requires-clause-may
replace-requires-clause-may c = (needs c.self.inside c.args.self.now c.args.c (change.Replaced c.in-Replaced.x) c.place_in-in-Replaced.result c.self.view_is c.self.invariant (omega arith) c.in-Replaced.is c.place_in-in-Replaced.ensures c.requires.grammar c.requires.room c.requires.may).1

pub refuse-requires-clause-may : goal.refuse-requires-clause-may
refuse-requires-clause-may c = needs c.self.inside c.args.self.now c.args.c (change.Refused c.in-Refused.x) c.place_in-in-Refused.result c.self.view_is c.self.invariant (omega arith) c.in-Refused.is c.place_in-in-Refused.ensures c.requires.grammar c.requires.room c.requires.may

pub propose-requires-clause-may : goal.propose-requires-clause-may
propose-requires-clause-may c = needs c.self.inside c.args.self.now c.args.c (change.Proposed c.in-Proposed.x) c.place_in-in-Proposed.result c.self.view_is c.self.invariant (omega arith) c.in-Proposed.is c.place_in-in-Proposed.ensures c.requires.grammar c.requires.room c.requires.may

pub settle-requires-clause-states : goal.settle-requires-clause-states
settle-requires-clause-states c = (needs c.self.inside c.args.self.now c.args.c (change.Settled c.in-Settled.x) c.place_in-in-Settled.result c.self.view_is c.self.invariant (omega arith) c.in-Settled.is c.place_in-in-Settled.ensures c.requires.grammar c.requires.room c.requires.may).0

pub settle-requires-clause-may : goal.settle-requires-clause-may
settle-requires-clause-may c = (needs c.self.inside c.args.self.now c.args.c (change.Settled c.in-Settled.x) c.place_in-in-Settled.result c.self.view_is c.self.invariant (omega arith) c.in-Settled.is c.place_in-in-Settled.ensures c.requires.grammar c.requires.room c.requires.may).1

pub turn-requires-clause-may : goal.turn-requires-clause-may
turn-requires-clause-may c = needs c.self.inside c.args.self.now c.args.c (change.Turned c.in-Turned.x) c.place_in-in-Turned.result c.self.view_is c.self.invariant (omega arith) c.in-Turned.is c.place_in-in-Turned.ensures c.requires.grammar c.requires.room c.requires.may

pub ask-requires-clause-may : goal.ask-requires-clause-may
ask-requires-clause-may c = needs c.self.inside c.args.self.now c.args.c (change.Asked c.in-Asked.x) c.place_in-in-Asked.result c.self.view_is c.self.invariant (omega arith) c.in-Asked.is c.place_in-in-Asked.ensures c.requires.grammar c.requires.room c.requires.may

pub pass-requires-clause-may : goal.pass-requires-clause-may
pass-requires-clause-may c = needs c.self.inside c.args.self.now c.args.c (change.Passed c.in-Passed.x) c.place_in-in-Passed.result c.self.view_is c.self.invariant (omega arith) c.in-Passed.is c.place_in-in-Passed.ensures c.requires.grammar c.requires.room c.requires.may

pub fail-requires-clause-may : goal.fail-requires-clause-may
fail-requires-clause-may c = needs c.self.inside c.args.self.now c.args.c (change.Failed c.in-Failed.x) c.place_in-in-Failed.result c.self.view_is c.self.invariant (omega arith) c.in-Failed.is c.place_in-in-Failed.ensures c.requires.grammar c.requires.room c.requires.may

pub decline-requires-clause-may : goal.decline-requires-clause-may
decline-requires-clause-may c = needs c.self.inside c.args.self.now c.args.c (change.Declined c.in-Declined.x) c.place_in-in-Declined.result c.self.view_is c.self.invariant (omega arith) c.in-Declined.is c.place_in-in-Declined.ensures c.requires.grammar c.requires.room c.requires.may

pub discard-requires-clause-loose : goal.discard-requires-clause-loose
discard-requires-clause-loose c = (needs c.self.inside c.args.self.now c.args.c (change.Discarded c.in-Discarded.x) c.place_in-in-Discarded.result c.self.view_is c.self.invariant (omega arith) c.in-Discarded.is c.place_in-in-Discarded.ensures c.requires.grammar c.requires.room c.requires.may).0

pub discard-requires-clause-may : goal.discard-requires-clause-may
discard-requires-clause-may c = (needs c.self.inside c.args.self.now c.args.c (change.Discarded c.in-Discarded.x) c.place_in-in-Discarded.result c.self.view_is c.self.invariant (omega arith) c.in-Discarded.is c.place_in-in-Discarded.ensures c.requires.grammar c.requires.room c.requires.may).1
