use Rattle.std.proofs.Common.{string_bytes}
use Rattle.psb_bytes.proofs.HexDigits.{digest_read_back}
use Rattle.psb_bytes.proofs.digits.digest_text.Goals as goal

pub returns-clause-reads_back : goal.returns-clause-reads_back
returns-clause-reads_back c = rw (← c.digest.view_is) (digest_read_back string_bytes c.hex_text.result c.digest.inside.0 c.digest.told c.hex_text.ensures.text c.hex_text.ensures.reads_back)
