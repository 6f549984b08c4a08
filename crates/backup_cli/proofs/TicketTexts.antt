-- Texts of tickets: which they are, and that a word names one snapshot.
use Rattle.std.proofs.Common.{◌≡◌, ◌≢◌, ℕ, ◌≤◌, List, length, decimal, true, false, Result, Ok, Err, Option, Some, None, refl, sym, ◌∙◌, ap, subst, arith}
use Rattle.std.proofs.lemmas.Fmt.{decimal_injective}
use Rattle.std.specs.Prelude.{◌↔◌, IsSome, IsTrue, IfSome, IfNone, MatchResult, is_err}
use Rattle.hex.specs.Hex.{decode_of, decode_sized, encode_lower, lower_digits}
use Rattle.hex.specs.declared.error.FromHexError.{FromHexError}
use Rattle.hex.proofs.HexLemmas.{decode_of-encode_lower, decode_sized-encode_lower, decode_of-same, length-encode_with, decode_of-ok, decode_sized-twice, decode_sized-ok}
use Rattle.psb_bytes.specs.Tickets.{ticket_of, is_ticket}
use Rattle.psb_bytes.specs.declared.ids.Ticket.{Ticket}
use Rattle.backup_cli.specs.Words.{IsTicketText, IsWhich}
use Rattle.backup_cli.specs.declared.words.Which.{Which}
use Rattle.backup_cli.specs.declared.words.Which.TheVariants.{Number, Of}
use Rattle.said_lines.proofs.LineLemmas.{few_digits}

-- ---- the digits fix the bytes

read_back : (text : List ℕ) (t : Ticket) (a : IsTicketText text t) → decode_of text ≡ Ok a.bytes
read_back text t a = ap decode_of a.digits ∙ decode_of-encode_lower a.bytes a.are

read_sized : (text : List ℕ) (t : Ticket) (a : IsTicketText text t) → decode_sized text 69 ≡ Ok a.bytes
read_sized text t a = ap (λ (s : List ℕ). decode_sized s 69) a.digits ∙ decode_sized-encode_lower a.bytes 69 a.many a.are

one_ticket : (text : List ℕ) (t u : Ticket) → IsTicketText text t → IsTicketText text u → t ≡ u
one_ticket text t u a b = a.spells ∙ ap ticket_of (decode_of-same text a.bytes b.bytes (read_back text t a) (read_back text u b)) ∙ sym b.spells

-- ---- a number has at most 10 digits, and a ticket 138

long_ticket : (text : List ℕ) (t : Ticket) → IsTicketText text t → length text ≡ 138
long_ticket text t a = omega (arith, ap length a.digits, length-encode_with lower_digits a.bytes, a.many)

no_number : (text : List ℕ) (t : Ticket) (n : ℕ) → IsTicketText text t → n ≤ 4294967295 → text ≢ decimal n
no_number text t n a most spelled = omega (arith, long_ticket text t a, ap length spelled, few_digits n (omega (arith, most)))

pub one_which : (word : List ℕ) (which other : Which) → IsWhich word which → IsWhich word other → which ≡ other
one_which word (Number m) (Number n) a b = ap Number (decimal_injective m n (omega (arith, a.1)) (omega (arith, b.1)) (sym a.0 ∙ b.0))
one_which word (Number m) (Of t) a b = absurd (no_number word t m b a.1 a.0)
one_which word (Of t) (Number m) a b = absurd (no_number word t m a b.1 b.0)
one_which word (Of t) (Of u) a b = ap Of (one_ticket word t u a b)

-- ---- what is read of a text

-- what decoding into 69 bytes answers
abbrev Wrote : List ℕ → Result Unit FromHexError → List ℕ → Type 0
Wrote text r out = MatchResult (decode_sized text 69) (λ bytes. (r ≡ Ok tt) × (out ≡ bytes)) (λ e. r ≡ Err e)

wrote_bytes : (text : List ℕ) (r : Result Unit FromHexError) (out : List ℕ) (t : Ticket) → Wrote text r out → (a : IsTicketText text t) → (r ≡ Ok tt) × (out ≡ a.bytes)
wrote_bytes text r out t wrote a = subst (λ (d : Result (List ℕ) FromHexError). MatchResult d (λ bytes. (r ≡ Ok tt) × (out ≡ bytes)) (λ e. r ≡ Err e)) (read_sized text t a) wrote

pub never_refused : (text : List ℕ) (r : Result Unit FromHexError) (out : List ℕ) → Wrote text r out → is_err r ≡ true → (t : Ticket) → ¬ IsTicketText text t
never_refused text r out wrote refused t a = let ok = (wrote_bytes text r out t wrote a).0 in absurd (cc (ap is_err ok, refused))

pub never_other : (text : List ℕ) (r : Result Unit FromHexError) (out digits : List ℕ) → Wrote text r out → digits ≡ encode_lower out → digits ≢ text → (t : Ticket) → ¬ IsTicketText text t
never_other text r out digits wrote spelled differ t a = differ (spelled ∙ ap encode_lower (wrote_bytes text r out t wrote a).1 ∙ sym a.digits)

was_ok : (d : Result (List ℕ) FromHexError) (r : Result Unit FromHexError) (out : List ℕ) → MatchResult d (λ bytes. (r ≡ Ok tt) × (out ≡ bytes)) (λ e. r ≡ Err e) → is_err r ≡ false → d ≡ Ok out
was_ok (Ok bytes) r out wrote ok = ap Ok (sym wrote.1)
was_ok (Err e) r out wrote ok = absurd (cc (ap is_err wrote, ok))

pub is_ticket_text : (text : List ℕ) (r : Result Unit FromHexError) (out digits : List ℕ) (o : Option Ticket) → Wrote text r out → is_err r ≡ false → digits ≡ encode_lower out → digits ≡ text
    → IsSome o ↔ IsTrue (is_ticket (ticket_of out)) → IfSome o (λ t. t ≡ ticket_of out) → IfSome o (λ t. IsTicketText text t)
is_ticket_text text r out digits None wrote ok spelled same exact value = tt
is_ticket_text text r out digits (Some t) wrote ok spelled same exact value =
    let sized = was_ok (decode_sized text 69) r out wrote ok in
    let long = decode_sized-ok text 69 out sized in
    let read = decode_of-ok text out (sym (decode_sized-twice text 69 long) ∙ sized) in
    record {
      bytes = out;
      are = read.3;
      many = omega (arith, long, read.2);
      digits = sym same ∙ spelled;
      spells = value;
      valid = ap is_ticket value ∙ exact.0 refl;
    }

pub no_ticket_text : (text : List ℕ) (r : Result Unit FromHexError) (out : List ℕ) (o : Option Ticket) → Wrote text r out → IsSome o ↔ IsTrue (is_ticket (ticket_of out)) → IfNone o ((t : Ticket) → ¬ IsTicketText text t)
no_ticket_text text r out (Some t) wrote exact = tt
no_ticket_text text r out None wrote exact = λ t a.
    let valid : is_ticket (ticket_of out) ≡ true = ap (λ (b : List ℕ). is_ticket (ticket_of b)) (wrote_bytes text r out t wrote a).1 ∙ sym (ap is_ticket a.spells) ∙ a.valid in
    absurd (cc (exact.1 valid))
