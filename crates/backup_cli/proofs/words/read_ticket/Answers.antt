use Rattle.std.proofs.Common.{◌≡◌, ◌≢◌, rules, true, false}
use Rattle.std.specs.Prelude.{is_err}
use Rattle.hex.specs.Hex.{encode_lower}
use Rattle.backup_cli.proofs.TicketTexts.{never_refused, never_other, is_ticket_text, no_ticket_text}
use Rattle.backup_cli.proofs.words.read_ticket.Goals as goal

pub returns-then-is_err-clause-none : goal.returns-then-is_err-clause-none
returns-then-is_err-clause-none c =
    let refused : is_err c.decode_to_slice.result ≡ true = search rules in
    never_refused c.args.text.now c.decode_to_slice.result c.decode_to_slice.new.out c.decode_to_slice.ensures.value refused

pub returns-then-ne-clause-none : goal.returns-then-ne-clause-none
returns-then-ne-clause-none c =
    let spelled : c.as_slice.result.now ≡ encode_lower c.decode_to_slice.new.out = search rules in
    let differ : c.as_slice.result.now ≢ c.args.text.now = search rules in
    never_other c.args.text.now c.decode_to_slice.result c.decode_to_slice.new.out c.as_slice.result.now c.decode_to_slice.ensures.value spelled differ

pub returns-clause-some : goal.returns-clause-some
returns-clause-some c =
    let ok : is_err c.decode_to_slice.result ≡ false = search rules in
    let spelled : c.as_slice.result.now ≡ encode_lower c.decode_to_slice.new.out = search rules in
    let same : c.as_slice.result.now ≡ c.args.text.now = search rules in
    is_ticket_text c.args.text.now c.decode_to_slice.result c.decode_to_slice.new.out c.as_slice.result.now c.read.result c.decode_to_slice.ensures.value ok spelled same c.read.ensures.exact c.read.ensures.value

pub returns-clause-none : goal.returns-clause-none
returns-clause-none c = no_ticket_text c.args.text.now c.decode_to_slice.result c.decode_to_slice.new.out c.read.result c.decode_to_slice.ensures.value c.read.ensures.exact
