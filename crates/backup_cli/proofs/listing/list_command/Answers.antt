use Rattle.std.proofs.Common.{◌≡◌, true, false, Ok, Err, sym, ◌∙◌, ap, subst}
use Rattle.psb_station.specs.View.{Outside}
use Rattle.psb_model.specs.State.{State}
use Rattle.psb_model.specs.History.{state}
use Rattle.psb_ledger.specs.View.{LedgerView}
use Rattle.psb_machine.specs.Machine.{fresh}
use Rattle.said_lines.specs.Says.{SaysLines}
use Rattle.backup_cli.specs.Listed.{Lists, listed_lines}
use Rattle.said_lines.specs.declared.saying.SayError.{SayError}
use Rattle.said_lines.specs.declared.saying.SayError.TheVariants as say_error
use Rattle.said_lines.specs.declared.status.Status.{Status}
use Rattle.backup_cli.proofs.Ends.{why_unopened, quiet_since, images_since}
use Rattle.backup_cli.proofs.Listings.{nothing_listed, all_listed, a_line_failed, short_of_memory}
use Rattle.backup_cli.proofs.Opened.{held, is_node, is_there, some_of, known_as}
use Rattle.said_lines.proofs.Utterances.{utters_tells, utters_then, says_tells}
use Rattle.backup_cli.proofs.listing.list_command.Goals as goal

-- ---- the node was not opened

pub returns-in-Err-clause-lists : goal.returns-in-Err-clause-lists
returns-in-Err-clause-lists g c = λ tells h settings is present.
    let v0 = g.S.Disk.view c.args.station.now in
    let why = why_unopened g.L.Log.stands h v0 c.in-Err.status c.in-Err.ensures.only (λ none. c.in-Err.ensures.not_node (ap Err none) tells) is in
    (false, nothing_listed g.L.Log.stands h (listed_lines c.args.listing settings (state h)) v0 (g.S.Disk.view c.open_or_refuse.new.station) c.in-Err.status tells why c.in-Err.ensures.refused)

pub returns-in-Err-clause-unharmed : goal.returns-in-Err-clause-unharmed
returns-in-Err-clause-unharmed g c = λ tells. c.in-Err.ensures.refused.images

pub returns-in-Err-clause-refuses : goal.returns-in-Err-clause-refuses
returns-in-Err-clause-refuses g c = λ none tells. c.in-Err.ensures.refused.refuses tells

pub returns-in-Err-clause-quiet : goal.returns-in-Err-clause-quiet
returns-in-Err-clause-quiet g c = c.in-Err.ensures.refused.kept

-- ---- it was opened

pub say_listing-requires : goal.say_listing-requires
say_listing-requires g c = let o = c.in-Ok.ensures.ok in is_there c.in-Ok.node (fresh o.0) c.ledger.result.now o.1 c.ledger.ensures

pub returns-in-Ok-say_listing-clause-lists : goal.returns-in-Ok-say_listing-clause-lists
returns-in-Ok-say_listing-clause-lists g c = λ tells h settings is present.
    let o = c.in-Ok.ensures.ok in
    let own = some_of c.ledger.result.now.state.settings (is_there c.in-Ok.node (fresh o.0) c.ledger.result.now o.1 c.ledger.ensures) in
    let t1 = says_tells (listed_lines c.args.listing own.0 c.ledger.result.now.state) (g.S.Disk.view c.open_or_refuse.new.station) (g.S.Disk.view c.say_listing.new.station) (Ok c.in-Ok-say_listing.field-0) (c.in-Ok-say_listing.ensures.says own.0 own.1) tells in
    let known = known_as g.L.Log.holds g.L.Log.stands g.met.L.Log.holds_stands g.met.L.Log.stands_one c.in-Ok.node (g.S.Disk.view c.args.station.now) (g.S.Disk.view c.open_or_refuse.new.station) h c.in-Ok.ensures.keeps o t1 is in
    let at : c.ledger.result.now.state ≡ state h = ap (λ (l : LedgerView). l.state) c.ledger.ensures ∙ known.0.ledger in
    let said = subst (λ (s : State). SaysLines (listed_lines c.args.listing settings s) (g.S.Disk.view c.open_or_refuse.new.station) (g.S.Disk.view c.say_listing.new.station) (Ok c.in-Ok-say_listing.field-0)) at (c.in-Ok-say_listing.ensures.says settings (ap (λ (s : State). s.settings) at ∙ present)) in
    (true, all_listed g.L.Log.holds g.L.Log.stands g.L.Log.is_broken g.met.L.Log.holds_stands c.in-Ok.node h (listed_lines c.args.listing settings (state h)) (g.S.Disk.view c.args.station.now) (g.S.Disk.view c.open_or_refuse.new.station) (g.S.Disk.view c.say_listing.new.station) c.in-Ok.ensures.whole (λ i k left. g.met.S.Disk.only_now c.args.station.now i k left) (λ i k left. g.met.S.Disk.only_now c.open_or_refuse.new.station i k left) c.in-Ok.ensures.keeps tells known.0 known.1 said)

pub returns-in-Ok-say_listing-clause-refuses : goal.returns-in-Ok-say_listing-clause-refuses
returns-in-Ok-say_listing-clause-refuses g c = λ none tells.
    let o = c.in-Ok.ensures.ok in
    let own = some_of c.ledger.result.now.state.settings (is_there c.in-Ok.node (fresh o.0) c.ledger.result.now o.1 c.ledger.ensures) in
    let t1 = says_tells (listed_lines c.args.listing own.0 c.ledger.result.now.state) (g.S.Disk.view c.open_or_refuse.new.station) (g.S.Disk.view c.say_listing.new.station) (Ok c.in-Ok-say_listing.field-0) (c.in-Ok-say_listing.ensures.says own.0 own.1) tells in
    let node = is_node g.L.Log.holds g.L.Log.stands g.met.L.Log.holds_stands c.in-Ok.node (g.S.Disk.view c.args.station.now) (g.S.Disk.view c.open_or_refuse.new.station) c.in-Ok.ensures.keeps o t1 in
    absurd (none node.0 node.1)

pub returns-in-Err-Say-clause-lists : goal.returns-in-Err-Say-clause-lists
returns-in-Err-Say-clause-lists g c = λ tells h settings is present.
    let o = c.in-Ok.ensures.ok in
    let own = some_of c.ledger.result.now.state.settings (is_there c.in-Ok.node (fresh o.0) c.ledger.result.now o.1 c.ledger.ensures) in
    let t1 = says_tells (listed_lines c.args.listing own.0 c.ledger.result.now.state) (g.S.Disk.view c.open_or_refuse.new.station) (g.S.Disk.view c.say_listing.new.station) c.say_listing.result (c.say_listing.ensures.says own.0 own.1) tells in
    let known = known_as g.L.Log.holds g.L.Log.stands g.met.L.Log.holds_stands g.met.L.Log.stands_one c.in-Ok.node (g.S.Disk.view c.args.station.now) (g.S.Disk.view c.open_or_refuse.new.station) h c.in-Ok.ensures.keeps o t1 is in
    let at : c.ledger.result.now.state ≡ state h = ap (λ (l : LedgerView). l.state) c.ledger.ensures ∙ known.0.ledger in
    let said = subst (λ (s : State). SaysLines (listed_lines c.args.listing settings s) (g.S.Disk.view c.open_or_refuse.new.station) (g.S.Disk.view c.say_listing.new.station) (Err say_error.Say)) at (subst (λ (e : SayError). SaysLines (listed_lines c.args.listing settings c.ledger.result.now.state) (g.S.Disk.view c.open_or_refuse.new.station) (g.S.Disk.view c.say_listing.new.station) (Err e)) c.in-Err-Say.field-0-is (c.in-Err-Say.ensures.says settings (ap (λ (s : State). s.settings) at ∙ present))) in
    (true, a_line_failed g.L.Log.holds g.L.Log.stands g.L.Log.is_broken g.met.L.Log.holds_stands c.in-Ok.node h (listed_lines c.args.listing settings (state h)) (g.S.Disk.view c.args.station.now) (g.S.Disk.view c.open_or_refuse.new.station) (g.S.Disk.view c.say_listing.new.station) c.in-Ok.ensures.whole (λ i k left. g.met.S.Disk.only_now c.args.station.now i k left) (λ i k left. g.met.S.Disk.only_now c.open_or_refuse.new.station i k left) c.in-Ok.ensures.keeps tells known.0 known.1 said)

pub returns-in-Err-Say-clause-refuses : goal.returns-in-Err-Say-clause-refuses
returns-in-Err-Say-clause-refuses g c = λ none tells.
    let o = c.in-Ok.ensures.ok in
    let own = some_of c.ledger.result.now.state.settings (is_there c.in-Ok.node (fresh o.0) c.ledger.result.now o.1 c.ledger.ensures) in
    let t1 = says_tells (listed_lines c.args.listing own.0 c.ledger.result.now.state) (g.S.Disk.view c.open_or_refuse.new.station) (g.S.Disk.view c.say_listing.new.station) c.say_listing.result (c.say_listing.ensures.says own.0 own.1) tells in
    let node = is_node g.L.Log.holds g.L.Log.stands g.met.L.Log.holds_stands c.in-Ok.node (g.S.Disk.view c.args.station.now) (g.S.Disk.view c.open_or_refuse.new.station) c.in-Ok.ensures.keeps o t1 in
    absurd (none node.0 node.1)

pub returns-clause-lists : goal.returns-clause-lists
returns-clause-lists g c = λ tells h settings is present.
    let o = c.in-Ok.ensures.ok in
    let own = some_of c.ledger.result.now.state.settings (is_there c.in-Ok.node (fresh o.0) c.ledger.result.now o.1 c.ledger.ensures) in
    let t1 = says_tells (listed_lines c.args.listing own.0 c.ledger.result.now.state) (g.S.Disk.view c.open_or_refuse.new.station) (g.S.Disk.view c.say_listing.new.station) c.say_listing.result (c.say_listing.ensures.says own.0 own.1) (utters_tells _ _ _ _ c.refuse.ensures.said.1 tells) in
    let known = known_as g.L.Log.holds g.L.Log.stands g.met.L.Log.holds_stands g.met.L.Log.stands_one c.in-Ok.node (g.S.Disk.view c.args.station.now) (g.S.Disk.view c.open_or_refuse.new.station) h c.in-Ok.ensures.keeps o t1 is in
    let at : c.ledger.result.now.state ≡ state h = ap (λ (l : LedgerView). l.state) c.ledger.ensures ∙ known.0.ledger in
    let said = subst (λ (s : State). SaysLines (listed_lines c.args.listing settings s) (g.S.Disk.view c.open_or_refuse.new.station) (g.S.Disk.view c.say_listing.new.station) (Err say_error.Memory)) at (subst (λ (e : SayError). SaysLines (listed_lines c.args.listing settings c.ledger.result.now.state) (g.S.Disk.view c.open_or_refuse.new.station) (g.S.Disk.view c.say_listing.new.station) (Err e)) c.in-Err-Memory.field-0-is (c.in-Err-Memory.ensures.says settings (ap (λ (s : State). s.settings) at ∙ present))) in (
      true,
      subst (λ (s : Status). Lists g.L.Log.stands h (listed_lines c.args.listing settings (state h)) true (g.S.Disk.view c.args.station.now) (g.S.Disk.view c.refuse.new.station) s) (sym c.refuse.ensures.same)
          (short_of_memory g.L.Log.holds g.L.Log.stands g.L.Log.is_broken g.met.L.Log.holds_stands c.in-Ok.node h (listed_lines c.args.listing settings (state h)) (g.S.Disk.view c.args.station.now) (g.S.Disk.view c.open_or_refuse.new.station) (g.S.Disk.view c.say_listing.new.station) (g.S.Disk.view c.refuse.new.station) c.refuse.ensures.said.0 c.in-Ok.ensures.whole (λ i k left. g.met.S.Disk.only_now c.args.station.now i k left) (λ i k left. g.met.S.Disk.only_now c.open_or_refuse.new.station i k left) c.in-Ok.ensures.keeps tells known.0 known.1 said c.refuse.ensures.said.1 c.refuse.ensures.said.2),
    )

pub returns-clause-refuses : goal.returns-clause-refuses
returns-clause-refuses g c = λ none tells.
    let o = c.in-Ok.ensures.ok in
    let own = some_of c.ledger.result.now.state.settings (is_there c.in-Ok.node (fresh o.0) c.ledger.result.now o.1 c.ledger.ensures) in
    let t1 = says_tells (listed_lines c.args.listing own.0 c.ledger.result.now.state) (g.S.Disk.view c.open_or_refuse.new.station) (g.S.Disk.view c.say_listing.new.station) c.say_listing.result (c.say_listing.ensures.says own.0 own.1) (utters_tells _ _ _ _ c.refuse.ensures.said.1 tells) in
    let node = is_node g.L.Log.holds g.L.Log.stands g.met.L.Log.holds_stands c.in-Ok.node (g.S.Disk.view c.args.station.now) (g.S.Disk.view c.open_or_refuse.new.station) c.in-Ok.ensures.keeps o t1 in
    absurd (none node.0 node.1)

pub returns-in-Ok-say_listing-clause-unharmed : goal.returns-in-Ok-say_listing-clause-unharmed
returns-in-Ok-say_listing-clause-unharmed g c = λ tells.
    let o = c.in-Ok.ensures.ok in
    let own = some_of c.ledger.result.now.state.settings (is_there c.in-Ok.node (fresh o.0) c.ledger.result.now o.1 c.ledger.ensures) in
    let said = c.in-Ok-say_listing.ensures.says own.0 own.1 in
    images_since (g.S.Disk.view c.args.station.now) (g.S.Disk.view c.open_or_refuse.new.station) (g.S.Disk.view c.say_listing.new.station) _ _ (λ i k left. g.met.S.Disk.only_now c.args.station.now i k left) c.in-Ok.ensures.keeps said

pub returns-in-Err-Say-clause-unharmed : goal.returns-in-Err-Say-clause-unharmed
returns-in-Err-Say-clause-unharmed g c = λ tells.
    let o = c.in-Ok.ensures.ok in
    let own = some_of c.ledger.result.now.state.settings (is_there c.in-Ok.node (fresh o.0) c.ledger.result.now o.1 c.ledger.ensures) in
    let said = subst (λ (e : SayError). SaysLines (listed_lines c.args.listing own.0 c.ledger.result.now.state) (g.S.Disk.view c.open_or_refuse.new.station) (g.S.Disk.view c.say_listing.new.station) (Err e)) c.in-Err-Say.field-0-is (c.in-Err-Say.ensures.says own.0 own.1) in
    images_since (g.S.Disk.view c.args.station.now) (g.S.Disk.view c.open_or_refuse.new.station) (g.S.Disk.view c.say_listing.new.station) _ _ (λ i k left. g.met.S.Disk.only_now c.args.station.now i k left) c.in-Ok.ensures.keeps said.2

pub returns-clause-unharmed : goal.returns-clause-unharmed
returns-clause-unharmed g c = λ tells.
    let o = c.in-Ok.ensures.ok in
    let own = some_of c.ledger.result.now.state.settings (is_there c.in-Ok.node (fresh o.0) c.ledger.result.now o.1 c.ledger.ensures) in
    let said = subst (λ (e : SayError). SaysLines (listed_lines c.args.listing own.0 c.ledger.result.now.state) (g.S.Disk.view c.open_or_refuse.new.station) (g.S.Disk.view c.say_listing.new.station) (Err e)) c.in-Err-Memory.field-0-is (c.in-Err-Memory.ensures.says own.0 own.1) in
    images_since (g.S.Disk.view c.args.station.now) (g.S.Disk.view c.open_or_refuse.new.station) (g.S.Disk.view c.refuse.new.station) _ _ (λ i k left. g.met.S.Disk.only_now c.args.station.now i k left) c.in-Ok.ensures.keeps (utters_then _ _ _ _ _ _ _ said.2 c.refuse.ensures.said.1)

pub returns-in-Ok-say_listing-clause-opened : goal.returns-in-Ok-say_listing-clause-opened
returns-in-Ok-say_listing-clause-opened g c = λ is tells.
    let o = c.in-Ok.ensures.ok in
    let own = some_of c.ledger.result.now.state.settings (is_there c.in-Ok.node (fresh o.0) c.ledger.result.now o.1 c.ledger.ensures) in
    let t1 = says_tells (listed_lines c.args.listing own.0 c.ledger.result.now.state) (g.S.Disk.view c.open_or_refuse.new.station) (g.S.Disk.view c.say_listing.new.station) (Ok c.in-Ok-say_listing.field-0) (c.in-Ok-say_listing.ensures.says own.0 own.1) tells in
    held g.L.Log.holds g.L.Log.stands g.met.L.Log.holds_stands c.in-Ok.node (g.S.Disk.view c.args.station.now) (g.S.Disk.view c.open_or_refuse.new.station) c.in-Ok.ensures.keeps o t1

pub returns-in-Err-Say-clause-opened : goal.returns-in-Err-Say-clause-opened
returns-in-Err-Say-clause-opened g c = λ is tells.
    let o = c.in-Ok.ensures.ok in
    let own = some_of c.ledger.result.now.state.settings (is_there c.in-Ok.node (fresh o.0) c.ledger.result.now o.1 c.ledger.ensures) in
    let t1 = says_tells (listed_lines c.args.listing own.0 c.ledger.result.now.state) (g.S.Disk.view c.open_or_refuse.new.station) (g.S.Disk.view c.say_listing.new.station) c.say_listing.result (c.say_listing.ensures.says own.0 own.1) tells in
    held g.L.Log.holds g.L.Log.stands g.met.L.Log.holds_stands c.in-Ok.node (g.S.Disk.view c.args.station.now) (g.S.Disk.view c.open_or_refuse.new.station) c.in-Ok.ensures.keeps o t1

pub returns-in-Ok-say_listing-clause-quiet : goal.returns-in-Ok-say_listing-clause-quiet
returns-in-Ok-say_listing-clause-quiet g c = quiet_since (g.S.Disk.view c.args.station.now) (g.S.Disk.view c.open_or_refuse.new.station) (g.S.Disk.view c.say_listing.new.station) c.in-Ok.ensures.keeps c.say_listing.ensures.only_says.kept

pub returns-in-Err-Say-clause-quiet : goal.returns-in-Err-Say-clause-quiet
returns-in-Err-Say-clause-quiet g c = quiet_since (g.S.Disk.view c.args.station.now) (g.S.Disk.view c.open_or_refuse.new.station) (g.S.Disk.view c.say_listing.new.station) c.in-Ok.ensures.keeps c.say_listing.ensures.only_says.kept

pub returns-clause-quiet : goal.returns-clause-quiet
returns-clause-quiet g c = c.refuse.ensures.only_says.kept ∙ ap (λ (o : Outside). record o { said = (g.S.Disk.view c.refuse.new.station).outside.said; say_faults = (g.S.Disk.view c.refuse.new.station).outside.say_faults }) (quiet_since (g.S.Disk.view c.args.station.now) (g.S.Disk.view c.open_or_refuse.new.station) (g.S.Disk.view c.say_listing.new.station) c.in-Ok.ensures.keeps c.say_listing.ensures.only_says.kept)
