use Rattle.std.proofs.Common.{◌≡◌, ◌∙◌, ap, take, drop, length, arith}
use Rattle.psb_bytes.specs.Numbers.{AreBytes, u32_of}
use Rattle.psb_bytes.proofs.Refs.{ticket_bytes-ticket_of}
use Rattle.psb_bytes.proofs.ids.Ticket.read.Goals as goal

pub returns-clause-spelled_again : goal.returns-clause-spelled_again
returns-clause-spelled_again c =
    let bytes = c.args.bytes.now in
    let name : c.part-2.result ≡ take 32 bytes = c.part-2.ensures in
    let handle : c.part-3.result ≡ take 32 (drop 32 bytes) = c.part-3.ensures in
    let len : c.from_be_bytes-len.result ≡ u32_of (take 4 (drop 64 bytes)) = c.from_be_bytes-len.ensures ∙ ap u32_of c.part.ensures in
    let long : length bytes ≡ 69 = c.told-bytes in
    let ok : AreBytes bytes = λ i. omega (arith, c.fits-bytes i) in
    rw (name, handle, len) (ticket_bytes-ticket_of bytes long ok)
