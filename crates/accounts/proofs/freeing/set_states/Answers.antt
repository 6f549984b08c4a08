-- What each kind of deal sets.
use Rattle.std.proofs.Common.{ap, ◌∙◌, subst}
use Rattle.psb_model.specs.declared.deals.DealWhat.TheVariants.{Cancel, Forward, Return}
use Rattle.psb_model.specs.Words.{slots}
use Rattle.accounts.specs.Freeing.{row_at, have_out_room, free_room, Freed}
use Rattle.accounts.proofs.Settled.{within, pending_here, sets, needs, sets_none, sets_no_state, given_of}
use Rattle.accounts.proofs.freeing.set_states.Goals as goal

pub returns-in_default : goal.returns-in_default
returns-in_default c =
    let vs = c.args.accounts.now.items in
    sets_none vs c.args.peer c.args.place (row_at vs c.args.place).pending
    (pending_here vs c.args.place c.index.result.now _ (within vs c.args.peer c.args.place c.requires.place) c.index.ensures c.in_default.ensures)

pub free_given-requires-clause-within : goal.free_given-requires-clause-within
free_given-requires-clause-within c = within c.args.accounts.now.items c.args.peer c.args.place c.requires.place

pub free_given-requires-clause-room : goal.free_given-requires-clause-room
free_given-requires-clause-room c =
    let vs = c.args.accounts.now.items in
    let i = c.args.place in
    let is = pending_here vs i c.index.result.now _ (within vs c.args.peer i c.requires.place) c.index.ensures c.in-Some.ensures in
    let given_is = given_of c.in-Some.deal.now c.in-Cancel.name c.in-Cancel.slots (row_at vs i).pending is c.in-Cancel.is in
    ap (λ ns. have_out_room (free_room (row_at vs i).ins (slots ns)) vs) given_is
    ∙ needs vs c.args.peer (row_at vs i).ins c.in-Some.deal.now (Cancel c.in-Cancel.name c.in-Cancel.slots) (row_at vs i).pending is c.in-Cancel.is c.requires.room

pub forward-requires-clause-room : goal.forward-requires-clause-room
forward-requires-clause-room c =
    let vs = c.args.accounts.now.items in
    let i = c.args.place in
    let is = pending_here vs i c.index.result.now _ (within vs c.args.peer i c.requires.place) c.index.ensures c.in-Some.ensures in
    needs vs c.args.peer (row_at vs i).ins c.in-Some.deal.now (Forward c.in-Forward.slot c.in-Forward.entry) (row_at vs i).pending is c.in-Forward.is c.requires.room

pub set_out-requires-clause-room : goal.set_out-requires-clause-room
set_out-requires-clause-room c =
    let vs = c.args.accounts.now.items in
    let i = c.args.place in
    let is = pending_here vs i c.index.result.now _ (within vs c.args.peer i c.requires.place) c.index.ensures c.in-Some.ensures in
    needs vs c.args.peer (row_at vs i).ins c.in-Some.deal.now (Return c.in-Return.slot) (row_at vs i).pending is c.in-Return.is c.requires.room

pub returns-in-Cancel : goal.returns-in-Cancel
returns-in-Cancel c =
    let vs = c.args.accounts.now.items in
    let i = c.args.place in
    let is = pending_here vs i c.index.result.now _ (within vs c.args.peer i c.requires.place) c.index.ensures c.in-Some.ensures in
    let given_is = given_of c.in-Some.deal.now c.in-Cancel.name c.in-Cancel.slots (row_at vs i).pending is c.in-Cancel.is in
    sets vs c.free_given.new.accounts.items c.args.peer i c.in-Some.deal.now (Cancel c.in-Cancel.name c.in-Cancel.slots) (row_at vs i).pending is c.in-Cancel.is
    (subst (λ ns. Freed vs i (slots ns) c.free_given.new.accounts.items) given_is c.free_given.ensures)

pub returns-in-Forward : goal.returns-in-Forward
returns-in-Forward c =
    let vs = c.args.accounts.now.items in
    let i = c.args.place in
    let is = pending_here vs i c.index.result.now _ (within vs c.args.peer i c.requires.place) c.index.ensures c.in-Some.ensures in
    sets vs c.forward.new.accounts.items c.args.peer i c.in-Some.deal.now (Forward c.in-Forward.slot c.in-Forward.entry) (row_at vs i).pending is c.in-Forward.is c.forward.ensures

pub returns-in-Return : goal.returns-in-Return
returns-in-Return c =
    let vs = c.args.accounts.now.items in
    let i = c.args.place in
    let is = pending_here vs i c.index.result.now _ (within vs c.args.peer i c.requires.place) c.index.ensures c.in-Some.ensures in
    sets vs c.set_out.new.accounts.items c.args.peer i c.in-Some.deal.now (Return c.in-Return.slot) (row_at vs i).pending is c.in-Return.is c.set_out.ensures.rows

pub returns-in_default-what : goal.returns-in_default-what
returns-in_default-what c =
    let vs = c.args.accounts.now.items in
    let i = c.args.place in
    let is = pending_here vs i c.index.result.now _ (within vs c.args.peer i c.requires.place) c.index.ensures c.in-Some.ensures in
    sets_no_state vs c.args.peer i c.in-Some.deal.now (row_at vs i).pending is c.in_default-what.not-Cancel c.in_default-what.not-Forward c.in_default-what.not-Return
