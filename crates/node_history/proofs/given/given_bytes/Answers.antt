use Rattle.std.proofs.Common.{[], false, sym, ◌∙◌}
use Rattle.node_history.proofs.GivenBytes.{found_last, found_none}
use Rattle.node_history.proofs.DirectBytes.{found_there}
use Rattle.node_history.proofs.Presence.{ok_map}
use Rattle.node_history.proofs.given.given_bytes.Goals as goal

pub returns-in-None-clause-exact : goal.returns-in-None-clause-exact
returns-in-None-clause-exact g c = λ tells h es lawful fit knows are shows direct.
    found_none c.args.slots.now h c.args.peer c.args.slot knows direct (sym c.record_of.ensures ∙ c.in-None.is)

pub returns-in-Some-clause-exact : goal.returns-in-Some-clause-exact
returns-in-Some-clause-exact g c =
    ok_map c.read_given.result _ _
    (λ found bytes tells h es lawful fit knows are shows direct.
    found_last c.args.slots.now h es c.args.peer c.args.slot c.in-Some.number found c.read_given.new.into.items lawful fit knows are direct (sym c.record_of.ensures ∙ c.in-Some.is) (bytes tells es shows))
    c.read_given.ensures.bytes

pub returns-in-None-clause-found : goal.returns-in-None-clause-found
returns-in-None-clause-found g c = λ tells h es v knows are shows direct.
    found_there h c.args.peer c.args.slot false [] v direct (found_none c.args.slots.now h c.args.peer c.args.slot knows direct (sym c.record_of.ensures ∙ c.in-None.is))

pub returns-in-Some-clause-found : goal.returns-in-Some-clause-found
returns-in-Some-clause-found g c =
    ok_map c.read_given.result _ _
    (λ found bytes tells h es v knows are shows direct.
    found_there h c.args.peer c.args.slot found c.read_given.new.into.items v direct
    (found_last c.args.slots.now h es c.args.peer c.args.slot c.in-Some.number found c.read_given.new.into.items v.lawful v.fit knows are direct (sym c.record_of.ensures ∙ c.in-Some.is) (bytes tells es shows)))
    c.read_given.ensures.bytes
