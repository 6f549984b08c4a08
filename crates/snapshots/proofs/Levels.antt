-- How many lists of refs stand above each other: each is much shorter than the one below it.
use Rattle.std.proofs.Common.{◌≡◌, ℕ, suc, ◌+◌, ◌*◌, ◌≤◌, true, ◌==◌, List, [], ◌∷◌, ◌++◌, length, map, flat_map, is_some, Option, Some, None, refl, ◌∙◌, arith, length-append}
use Rattle.std.specs.List.{list_all}
use Rattle.std.proofs.lemmas.Bool.{and_parts, eqb-true}
use Rattle.std.proofs.lemmas.List.{length-map}
use Rattle.psb_bytes.specs.Numbers.{u32_bytes}
use Rattle.psb_bytes.specs.Tickets.{ref_bytes}
use Rattle.psb_bytes.specs.declared.ids.Ref.{Ref}
use Rattle.psb_bytes.specs.declared.ids.Ticket.{Ticket}
use Rattle.convergent_seal.specs.Sealing.{sealed_ref}
use Rattle.rolling_chunks.specs.declared.spans.Span.{Span}
use Rattle.rolling_chunks.specs.Cuts.{longest}
use Rattle.rolling_chunks.specs.Spans.{spans}
use Rattle.rolling_chunks.specs.Laws.{part, StandFrom, AreChunkSizes}
use Rattle.rolling_chunks.proofs.Covering.{spans_cover, span_sizes}
use Rattle.skeleton.specs.declared.limits.TheConstants.{REFS_MARK, MOST_TEXT_BYTES}
use Rattle.skeleton.specs.Entries.{is_ref, has_digests, has_chunk_len}
use Rattle.skeleton.specs.Texts.{skeleton_text, refs_text}
use Rattle.snapshots.specs.Meaning.{given}
use Rattle.snapshots.specs.Tickets.{refs_of_text, skeleton_of_tree, one_of, ticket_from, most_levels}
use Rattle.snapshots.specs.Laws.{TreesHaveTickets}
use Rattle.snapshots.proofs.Tickets.{refs_fit}

-- ---- how many pieces a text has

sum_of : List ℕ → ℕ
sum_of [] = 0
sum_of (n ∷ ns) = n + sum_of ns

few : (m : ℕ) (ns : List ℕ) → AreChunkSizes m ns → 2048 * length ns ≤ sum_of ns + 2048
unfolding AreChunkSizes sum_of
few m [] sizes = omega arith
few m (n ∷ []) sizes = omega arith
few m (n ∷ k ∷ ns) sizes = omega (arith, sizes.0, few m (k ∷ ns) sizes.2)

sum_is : (start n : ℕ) (ss : List Span) → StandFrom start n ss → start + sum_of (map (λ (s : Span). s.len) ss) ≡ n
unfolding StandFrom sum_of
sum_is start n [] stand = omega (arith, stand)
sum_is start n (s ∷ ss) stand = omega (arith, sum_is (start + s.len) n ss stand.1)

some_stand : (n : ℕ) (ss : List Span) → StandFrom 0 n ss → 1 ≤ n → 1 ≤ length ss
unfolding StandFrom
some_stand n [] stand some = absurd (omega (arith, stand, some))
some_stand n (s ∷ ss) stand some = omega arith

count_is : (text : List ℕ) → length (refs_of_text text) ≡ length (spans longest text)
count_is text = length-map (map (part text) (spans longest text)) sealed_ref ∙ length-map (spans longest text) (part text)

pub count_few : (text : List ℕ) → 2048 * length (refs_of_text text) ≤ length text + 2048
count_few text =
    omega (arith, count_is text, few longest (map (λ (s : Span). s.len) (spans longest text)) (span_sizes longest text (omega arith)), sum_is 0 (length text) (spans longest text) (spans_cover longest text).0, length-map (spans longest text) (λ (s : Span). s.len))

count_some : (text : List ℕ) → 1 ≤ length text → 1 ≤ length (refs_of_text text)
count_some text some = omega (arith, count_is text, some_stand (length text) (spans longest text) (spans_cover longest text).0 some)

-- ---- how long the text of their refs is

pub ref_long : (r : Ref) → is_ref r ≡ true → length (ref_bytes r) ≡ 68
ref_long r h =
    let digests = and_parts (length r.name == 32) (length r.handle == 32) (and_parts (has_digests r) (has_chunk_len r) h).0 in
    omega (arith, eqb-true (length r.name) 32 digests.0, eqb-true (length r.handle) 32 digests.1, length-append (r.name ++ r.handle) (u32_bytes r.len), length-append r.name r.handle)

pub refs_long : (rs : List Ref) → list_all is_ref rs ≡ true → length (flat_map ref_bytes rs) ≡ 68 * length rs
refs_long [] h = refl
refs_long (r ∷ rs) h =
    let both = and_parts (is_ref r) (list_all is_ref rs) h in
    omega (arith, ref_long r both.0, refs_long rs both.1, length-append (ref_bytes r) (flat_map ref_bytes rs))

pub next_long : (text : List ℕ) → length (refs_text (refs_of_text text)) ≡ 12 + 68 * length (refs_of_text text)
next_long text =
    let rs = refs_of_text text in
    let fit = refs_fit text 0 (spans longest text) (spans_cover longest text).0 (span_sizes longest text (omega arith)) in
    omega (arith, refs_long rs fit, length-append REFS_MARK (u32_bytes (length rs) ++ flat_map ref_bytes rs), length-append (u32_bytes (length rs)) (flat_map ref_bytes rs))

-- it is short where the text is
pub next_short : (text : List ℕ) → length text ≤ MOST_TEXT_BYTES → length (refs_text (refs_of_text text)) ≤ MOST_TEXT_BYTES
next_short text short = omega (arith, short, next_long text, count_few text)

-- ---- tickets

is_one : (rs : List Ref) → length rs ≡ 1 → is_some (one_of rs) ≡ true
is_one [] n = absurd (omega (arith, n))
is_one (r ∷ []) n = refl
is_one (r ∷ q ∷ rs) n = absurd (omega (arith, n))

last_ticket : (text : List ℕ) → 1 ≤ length text → length text ≤ 2047 → is_some (ticket_from 0 text) ≡ true
last_ticket text some short = at (one_of (refs_of_text text)) (is_one (refs_of_text text) (omega (arith, some, short, count_some text some, count_few text)))
  where
    at : (o : Option Ref) → is_some o ≡ true → is_some {T = Ticket} (given o (λ r. Some (record { reference = r; levels = 0 }))) ≡ true
    at (Some r) h = refl
    at None h = absurd (cc)

next_ticket : (m : ℕ) (text : List ℕ) → is_some (ticket_from m (refs_text (refs_of_text text))) ≡ true → is_some (ticket_from (suc m) text) ≡ true
next_ticket m text next = at (one_of (refs_of_text text))
  where
    above : (o : Option Ticket) → is_some o ≡ true → is_some {T = Ticket} (given o (λ t. Some (record { reference = t.reference; levels = suc t.levels }))) ≡ true
    above (Some t) h = refl
    above None h = absurd (cc)

    at : (o : Option Ref) → is_some {T = Ticket} (elim o [ Some r ↦ Some (record { reference = r; levels = 0 }) | None ↦ given (ticket_from m (refs_text (refs_of_text text))) (λ t. Some (record { reference = t.reference; levels = suc t.levels })) ]) ≡ true
    at (Some r) = refl
    at None = above (ticket_from m (refs_text (refs_of_text text))) next

above_of : List ℕ → List ℕ
above_of text = refs_text (refs_of_text text)

-- four lists are enough for any text that is short enough
pub text_has_ticket : (text : List ℕ) → length text ≤ MOST_TEXT_BYTES → is_some (ticket_from most_levels text) ≡ true
unfolding above_of
text_has_ticket text short =
    let a = above_of text in
    let b = above_of a in
    let c = above_of b in
    let d = above_of c in
    next_ticket 3 text (next_ticket 2 a (next_ticket 1 b (next_ticket 0 c (last_ticket d (omega (arith, next_long c))
    (omega (arith, short, next_long text, count_few text, next_long a, count_few a, next_long b, count_few b, next_long c, count_few c))))))

pub tree_has_ticket : TreesHaveTickets
tree_has_ticket places short = text_has_ticket (skeleton_text (skeleton_of_tree places)) short
