-- A piece of a file, as it is read and as bytes are taken of it.
use Rattle.std.proofs.Common.{◌≡◌, ℕ, ◌+◌, ◌-◌, ◌<◌, ◌≤◌, List, [], ◌++◌, length, take, drop, Option, Some, None, IfSome, sym, ◌∙◌, ap, arith, append-nil}
use Rattle.std.proofs.Math.Nat.{sub-zero}
use Rattle.std.proofs.lemmas.List.{take_all, drop_all, drop-take, drop-drop, length-take-le}
use Rattle.psb_station.specs.Folder.{Content, ReadsPiece}
use Rattle.snapshots.specs.Pieces.{bytes_between, ReadsNext}

-- the bytes behind those that were passed
pub passed : (bytes : List ℕ) (begin end count : ℕ) → begin + count ≤ end → bytes_between bytes (begin + count) end ≡ drop count (bytes_between bytes begin end)
passed bytes begin end count within =
    let rest : end - begin ≡ count + (end - (begin + count)) = omega (arith, within) in
    ap (take (end - (begin + count))) (sym (drop-drop count begin bytes))
    ∙ sym (drop-take count (end - (begin + count)) (drop begin bytes))
    ∙ ap (λ (n : ℕ). drop count (take n (drop begin bytes))) (sym rest)

-- a buffer that was lent whole
pub lent_back : (n : ℕ) (into items : List ℕ) → length into ≡ n → length items ≡ n → take n (into ++ drop (length into) items) ≡ into
lent_back n into items whole same =
    ap (λ (l : List ℕ). take n (into ++ l)) (drop_all (length into) items (omega (arith, whole, same)))
    ∙ ap (take n) (append-nil into)
    ∙ take_all n into (omega (arith, whole))

pub front_between : (n : ℕ) (bytes into : List ℕ) → bytes ≡ into → bytes_between bytes 0 n ≡ take n into
front_between n bytes into same = ap (λ (m : ℕ). take m bytes) (sub-zero n) ∙ ap (take n) same

none_of : (n : ℕ) (l : List ℕ) → length l ≡ n → l ≡ [] → n ≡ 0
none_of n l long none = omega (arith, long, ap length none)

next_of : (content : Content) (path into piece : List ℕ) (at n : ℕ) → n ≤ length into → 0 < length into → piece ≡ take n into → ReadsPiece content path at n into → ReadsNext content path at piece
next_of content path into piece at n within some is r =
    let long : length piece ≡ n = ap length is ∙ length-take-le n into within in
    record {
      bytes = r.bytes;
      file = r.file;
      piece_is = is ∙ r.piece ∙ ap (λ (m : ℕ). take m (drop at r.bytes)) (sym long);
      none_at_end = λ none. r.none_at_end (none_of n piece long none) some;
    }

pub next_piece : (o : Option Content) (path into piece : List ℕ) (at n : ℕ) → n ≤ length into → 0 < length into → piece ≡ take n into → IfSome o (λ content. ReadsPiece content path at n into) → IfSome o (λ content. ReadsNext content path at piece)
next_piece None path into piece at n within some is read = tt
next_piece (Some content) path into piece at n within some is read = next_of content path into piece at n within some is read
