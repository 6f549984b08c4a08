-- As many of the first as the settings ask for.
use Rattle.std.proofs.Common.{◌∙◌, arith}
use Rattle.psb_model.specs.Conditions.{buddies}
use Rattle.psb_ledger.proofs.Choosing.{first_of}
use Rattle.psb_ledger.proofs.ledger.Ledger.make_room_to_choose.Goals as goal

pub returns-clause-room : goal.returns-clause-room
returns-clause-room c =
    c.in_ok-self-inside.ensures
    ∙ first_of (buddies c.self.inside.settings) c.min-count.result c.args.candidates.now (omega (arith, c.min-count.ensures, c.buddies_of-most.ensures)) (omega (arith, c.min-count.ensures)) (λ less. omega (arith, less, c.min-count.ensures, c.buddies_of-most.ensures))
