-- Names and sealed bytes are fields of frames.
use Rattle.std.proofs.Common.{◌≡◌, ◌≤◌, ◌<◌, ℕ, true, List, length, get_or}
use Rattle.std.proofs.lemmas.Bool.{eq-eqb, le-leb}
use Rattle.psb_bytes.specs.Units.{longest_chunk}
use Rattle.byte_fields.proofs.FieldLaws.{are_bytes_is}
use Rattle.wire_codec.specs.Fields.{is_digest, is_text, are_bytes}

pub digest_fits : (name : List ℕ) → length name ≡ 32 → ((k : ℕ) → get_or name k 0 < 256) → is_digest name ≡ true
digest_fits name long each = rw (eq-eqb (length name) 32 long) (are_bytes_is name each)

pub text_fits : (least : ℕ) (bytes : List ℕ) → least ≤ length bytes → length bytes ≤ longest_chunk → are_bytes bytes ≡ true → is_text least bytes ≡ true
text_fits least bytes some short all = rw (le-leb least (length bytes) some, le-leb (length bytes) 32768 short) all
