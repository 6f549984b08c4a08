-- What a ticket that was made of a tree means.
use Rattle.std.proofs.Common.{◌≡◌, ℕ, zero, suc, ◌+◌, ◌≤◌, ◌<◌, get_or, Bool, true, ◌&&◌, ◌==◌, cond, List, [], ◌∷◌, ◌++◌, length, take, drop, map, flat_map, bytes_eq, Option, Some, None, refl, sym, ◌∙◌, ap, subst, arith}
use Rattle.std.specs.List.{list_all}
use Rattle.std.proofs.lemmas.Bool.{le-leb, eq-eqb}
use Rattle.std.proofs.lemmas.List.{length-take, length-drop, take_more, map-append}
use Rattle.psb_station.proofs.Spans.{same_some}
use Rattle.psb_bytes.specs.declared.ids.Ref.{Ref}
use Rattle.psb_bytes.specs.declared.ids.Ticket.{Ticket}
use Rattle.psb_digest.specs.Hashes.{sha}
use Rattle.psb_digest.proofs.Digests.{length-sha}
use Rattle.psb_digest.proofs.Streams.{length-masked_from, masked_from-twice}
use Rattle.convergent_seal.specs.Sealing.{seal_key, handle_of, sealed, sealed_ref, opened}
use Rattle.rolling_chunks.specs.declared.spans.Span.{Span}
use Rattle.rolling_chunks.specs.Cuts.{longest}
use Rattle.rolling_chunks.specs.Spans.{spans}
use Rattle.rolling_chunks.specs.Laws.{part, StandFrom, AreChunkSizes}
use Rattle.rolling_chunks.proofs.Covering.{spans_cover, span_sizes}
use Rattle.skeleton.specs.declared.limits.TheConstants.{MOST_TEXT_BYTES}
use Rattle.skeleton.specs.Entries.{is_ref}
use Rattle.skeleton.specs.Paths.{within}
use Rattle.skeleton.specs.Reading.{skeleton_of, refs_of}
use Rattle.skeleton.specs.Texts.{skeleton_text, refs_text}
use Rattle.skeleton.proofs.TextLaws.{skeleton_is_read, refs_are_read}
use Rattle.snapshots.specs.Meaning.{Bodies, given, read, opens, plain_of, plains_of, text_behind, Item, Folder, File, Place, item_of, tree_of}
use Rattle.snapshots.specs.Tickets.{chunks_of, refs_of_text, entry_of, skeleton_of_tree, one_of, ticket_from, most_levels}
use Rattle.snapshots.specs.Laws.{AreHeld, HoldsLevels, HoldsItem, HoldsFiles, TicketMeansItsTree}

-- ---- one piece

same_bytes : (a : List ℕ) → bytes_eq a a ≡ true
same_bytes [] = refl
same_bytes (x ∷ a) = rw (eq-eqb x x refl) (same_bytes a)

plain_back : (bodies : Bodies) (p : List ℕ) → bodies (sealed_ref p).name ≡ Some (sealed p) → plain_of bodies (sealed_ref p) ≡ Some p
plain_back bodies p held =
    let key = seal_key (handle_of p) in
    let long : (length (sealed p) == length p) ≡ true = eq-eqb (length (sealed p)) (length p) (length-masked_from key 0 0 p) in
    let fits : opens (sealed_ref p) (sealed p) ≡ true = ap (λ (b : Bool). b && (length (sealed p) == length p)) (same_bytes (sha (sealed p))) ∙ long in
    ap (λ (o : Option (List ℕ)). given o (λ body. cond (opens (sealed_ref p) body) (Some (opened (sealed_ref p) body)) None)) held
    ∙ ap (λ (b : Bool). cond b (Some (opened (sealed_ref p) (sealed p))) None) fits
    ∙ ap (λ (l : List ℕ). Some l) (masked_from-twice key 0 0 p)

-- ---- a text

abbrev joined : List (List ℕ) → List ℕ
joined ps = flat_map (λ (p : List ℕ). p) ps

plains_back : (bodies : Bodies) (ps : List (List ℕ)) → AreHeld bodies ps → plains_of bodies (map sealed_ref ps) ≡ Some (joined ps)
plains_back bodies [] held = refl
plains_back bodies (p ∷ ps) held =
    ap (λ (o : Option (List ℕ)). given o (λ front. given (plains_of bodies (map sealed_ref ps)) (λ rest. Some (front ++ rest)))) (plain_back bodies p held.0)
    ∙ ap (λ (o : Option (List ℕ)). given o (λ rest. Some (p ++ rest))) (plains_back bodies ps held.1)

joined_parts : (text : List ℕ) (ss : List Span) → joined (map (part text) ss) ≡ flat_map (part text) ss
joined_parts text [] = refl
joined_parts text (s ∷ ss) = ap (λ (l : List ℕ). part text s ++ l) (joined_parts text ss)

text_back : (bodies : Bodies) (text : List ℕ) → AreHeld bodies (chunks_of text) → plains_of bodies (refs_of_text text) ≡ Some text
text_back bodies text held =
    plains_back bodies (chunks_of text) held
    ∙ ap (λ (l : List ℕ). Some l) (joined_parts text (spans longest text) ∙ (spans_cover longest text).1)

-- ---- the refs of a text

pub stand_le : (start n : ℕ) (ss : List Span) → StandFrom start n ss → start ≤ n
unfolding StandFrom
stand_le start n [] s = omega (arith, s)
stand_le start n (x ∷ ss) s = omega (arith, stand_le (start + x.len) n ss s.1)

pub part_long : (text : List ℕ) (start : ℕ) (s : Span) → s.start ≡ start → start + s.len ≤ length text → length (part text s) ≡ s.len
part_long text start s at inside = omega (arith, at, inside, length-take s.len (drop s.start text), length-drop s.start text)

is_ref_of : (p : List ℕ) → within 1 longest (length p) ≡ true → is_ref (sealed_ref p) ≡ true
is_ref_of p long = rw (eq-eqb (length (sha (sealed p))) 32 (length-sha (sealed p)), eq-eqb (length (sha p)) 32 (length-sha p)) long

within_of : (m n : ℕ) → 1 ≤ n → n ≤ m → within 1 m n ≡ true
within_of m n least most = rw (le-leb 1 n least, le-leb n m most) refl

pub refs_fit : (text : List ℕ) (start : ℕ) (ss : List Span) → StandFrom start (length text) ss → AreChunkSizes longest (map (λ (s : Span). s.len) ss) → list_all is_ref (map sealed_ref (map (part text) ss)) ≡ true
unfolding StandFrom AreChunkSizes
refs_fit text start [] stand sizes = refl
refs_fit text start (s ∷ []) stand sizes =
    let long = part_long text start s stand.0 (stand_le (start + s.len) (length text) [] stand.1) in
    rw (is_ref_of (part text s) (ap (within 1 longest) long ∙ within_of longest s.len sizes.0 sizes.1)) refl
refs_fit text start (s ∷ x ∷ ss) stand sizes =
    let long = part_long text start s stand.0 (stand_le (start + s.len) (length text) (x ∷ ss) stand.1) in
    rw (is_ref_of (part text s) (ap (within 1 longest) long ∙ within_of longest s.len (omega (arith, sizes.0)) sizes.1)) (refs_fit text (start + s.len) (x ∷ ss) stand.1 sizes.2)

refs_read : (text : List ℕ) → length (refs_text (refs_of_text text)) ≤ MOST_TEXT_BYTES → read (refs_of (refs_text (refs_of_text text))) ≡ Some (refs_of_text text)
refs_read text short = ap read (refs_are_read (refs_of_text text) (refs_fit text 0 (spans longest text) (spans_cover longest text).0 (span_sizes longest text (omega arith))) short)

-- ---- lists of refs, one above another

behind_last : (bodies : Bodies) (n : ℕ) (rs : List Ref) → text_behind bodies (suc n) rs ≡ given (text_behind bodies n rs) (λ text. given (read (refs_of text)) (plains_of bodies))
behind_last bodies zero rs = refl
behind_last bodies (suc n) rs = by_text (plains_of bodies rs)
    (λ text. by_refs (read (refs_of text)) (λ next. behind_last bodies n next))
  where
    by_refs : (o : Option (List Ref)) → ((next : List Ref) → text_behind bodies (suc n) next ≡ given (text_behind bodies n next) (λ text. given (read (refs_of text)) (plains_of bodies)))
        → given o (λ next. text_behind bodies (suc n) next) ≡ given (given o (λ next. text_behind bodies n next)) (λ text. given (read (refs_of text)) (plains_of bodies))
    by_refs None rest = refl
    by_refs (Some next) rest = rest next

    by_text : (o : Option (List ℕ)) → ((text : List ℕ) → given (read (refs_of text)) (λ next. text_behind bodies (suc n) next) ≡ given (given (read (refs_of text)) (λ next. text_behind bodies n next)) (λ t. given (read (refs_of t)) (plains_of bodies)))
        → given o (λ text. given (read (refs_of text)) (λ next. text_behind bodies (suc n) next)) ≡ given (given o (λ text. given (read (refs_of text)) (λ next. text_behind bodies n next))) (λ t. given (read (refs_of t)) (plains_of bodies))
    by_text None rest = refl
    by_text (Some text) rest = rest text

one_is : (rs : List Ref) (r : Ref) → one_of rs ≡ Some r → rs ≡ r ∷ []
one_is [] r is = absurd (cc)
one_is (q ∷ []) r is = ap (λ (x : Ref). x ∷ []) (same_some (Some q) q r refl is)
one_is (q ∷ x ∷ rest) r is = absurd (cc)

short_text : (bodies : Bodies) (most : ℕ) (text : List ℕ) → HoldsLevels bodies most text → length text ≤ MOST_TEXT_BYTES
short_text bodies zero text holds = holds.1
short_text bodies (suc most) text holds = holds.1

held_text : (bodies : Bodies) (most : ℕ) (text : List ℕ) → HoldsLevels bodies most text → AreHeld bodies (chunks_of text)
held_text bodies zero text holds = holds.0
held_text bodies (suc most) text holds = holds.0

-- a text of one piece
one_again : (bodies : Bodies) (text : List ℕ) (r : Ref) (t : Ticket) → one_of (refs_of_text text) ≡ Some r → Some (record { reference = r; levels = 0 }) ≡ Some t → AreHeld bodies (chunks_of text) → text_behind bodies t.levels (t.reference ∷ []) ≡ Some text
one_again bodies text r t one made held =
    subst (λ (u : Ticket). text_behind bodies u.levels (u.reference ∷ []) ≡ Some text) (same_some (Some (record { reference = r; levels = 0 })) (record { reference = r; levels = 0 }) t refl made)
    (ap (plains_of bodies) (sym (one_is (refs_of_text text) r one)) ∙ text_back bodies text held)

-- a text of more, behind the list of their refs
more_again : (bodies : Bodies) (text : List ℕ) (u t : Ticket) → Some (record { reference = u.reference; levels = suc u.levels }) ≡ Some t → text_behind bodies u.levels (u.reference ∷ []) ≡ Some (refs_text (refs_of_text text)) → length (refs_text (refs_of_text text)) ≤ MOST_TEXT_BYTES
    → AreHeld bodies (chunks_of text) → text_behind bodies t.levels (t.reference ∷ []) ≡ Some text
more_again bodies text u t made above short held =
    let next : Ticket = record { reference = u.reference; levels = suc u.levels } in
    subst (λ (x : Ticket). text_behind bodies x.levels (x.reference ∷ []) ≡ Some text) (same_some (Some next) next t refl made) (
    behind_last bodies u.levels (u.reference ∷ [])
    ∙ ap (λ (o : Option (List ℕ)). given o (λ l. given (read (refs_of l)) (plains_of bodies))) above
    ∙ ap (λ (o : Option (List Ref)). given o (plains_of bodies)) (refs_read text short)
    ∙ text_back bodies text held)

-- the text that a ticket was made of comes back
text_again : (bodies : Bodies) (most : ℕ) (text : List ℕ) (t : Ticket) → ticket_from most text ≡ Some t → HoldsLevels bodies most text → text_behind bodies t.levels (t.reference ∷ []) ≡ Some text
text_again bodies zero text t made holds = at (one_of (refs_of_text text)) refl made
  where
    at : (o : Option Ref) → one_of (refs_of_text text) ≡ o → given o (λ r. Some (record { reference = r; levels = 0 })) ≡ Some t → text_behind bodies t.levels (t.reference ∷ []) ≡ Some text
    at None one is = absurd (cc)
    at (Some r) one is = one_again bodies text r t one is holds.0
text_again bodies (suc most) text t made holds =
    at (one_of (refs_of_text text)) refl made (λ u above none. text_again bodies most (refs_text (refs_of_text text)) u above (holds.2 none))
  where
    next : List ℕ
    next = refs_text (refs_of_text text)

    by_next : (o : Option Ticket) → ticket_from most next ≡ o → one_of (refs_of_text text) ≡ None → given o (λ u. Some (record { reference = u.reference; levels = suc u.levels })) ≡ Some t
        → ((u : Ticket) → ticket_from most next ≡ Some u → one_of (refs_of_text text) ≡ None → text_behind bodies u.levels (u.reference ∷ []) ≡ Some next) → text_behind bodies t.levels (t.reference ∷ []) ≡ Some text
    by_next None above none is rest = absurd (cc)
    by_next (Some u) above none is rest = more_again bodies text u t is (rest u above none) (short_text bodies most next (holds.2 none)) holds.0

    at : (o : Option Ref) → one_of (refs_of_text text) ≡ o
        → elim o [ Some r ↦ Some (record { reference = r; levels = 0 }) | None ↦ given (ticket_from most next) (λ u. Some (record { reference = u.reference; levels = suc u.levels })) ] ≡ Some t
        → ((u : Ticket) → ticket_from most next ≡ Some u → one_of (refs_of_text text) ≡ None → text_behind bodies u.levels (u.reference ∷ []) ≡ Some next) → text_behind bodies t.levels (t.reference ∷ []) ≡ Some text
    at (Some r) one is rest = one_again bodies text r t one is holds.0
    at None one is rest = by_next (ticket_from most next) refl one is rest

-- ---- a tree

tree_again : (bodies : Bodies) (places : List Place) → HoldsFiles bodies places → tree_of bodies (skeleton_of_tree places) ≡ Some places
tree_again bodies [] holds = refl
tree_again bodies (p ∷ ps) holds =
    ap (λ (o : Option Item). given o (λ item. given (tree_of bodies (skeleton_of_tree ps)) (λ rest. Some (record { path = (entry_of p).path; item = item } ∷ rest)))) (item_again p.item holds.0)
    ∙ ap (λ (o : Option (List Place)). given o (λ rest. Some (record { path = (entry_of p).path; item = p.item } ∷ rest))) (tree_again bodies ps holds.1)
    ∙ ap (λ (path : List ℕ). Some (record { path = path; item = p.item } ∷ ps)) (same_path p.item)
  where
    item_again : (item : Item) → HoldsItem bodies item → item_of bodies (entry_of (record { path = p.path; item = item })).kind (entry_of (record { path = p.path; item = item })).refs ≡ Some item
    item_again Folder h = refl
    item_again (File bytes) h = ap (λ (o : Option (List ℕ)). given o (λ (b : List ℕ). Some (File b))) (text_back bodies bytes h)

    same_path : (item : Item) → (entry_of (record { path = p.path; item = item })).path ≡ p.path
    same_path Folder = refl
    same_path (File bytes) = refl

pub ticket_means : TicketMeansItsTree
ticket_means bodies places t skeleton made holds =
    let entries = skeleton_of_tree places in
    ap (λ (o : Option (List ℕ)). given o (λ text. given (read (skeleton_of text)) (tree_of bodies))) (text_again bodies most_levels (skeleton_text entries) t made holds.levels)
    ∙ ap (λ o. given (read o) (tree_of bodies)) (skeleton_is_read entries skeleton (short_text bodies most_levels (skeleton_text entries) holds.levels))
    ∙ tree_again bodies places holds.files

-- ---- a span of a text

-- it lies in the text, and has the length of a chunk
pub record IsPiece (text : List ℕ) (s : Span) : Type 0 where
  pub inside : s.start + s.len ≤ length text
  pub some : 1 ≤ s.len
  pub short : s.len ≤ longest

piece_from : (text : List ℕ) (start : ℕ) (ss : List Span) → StandFrom start (length text) ss → AreChunkSizes longest (map (λ (s : Span). s.len) ss) → (i : ℕ) (d : Span) → i < length ss → IsPiece text (get_or ss i d)
unfolding StandFrom AreChunkSizes
piece_from text start [] stand sizes i d lt = absurd (omega (arith, lt))
piece_from text start (s ∷ []) stand sizes zero d lt = record { inside = omega (arith, stand.0, stand_le (start + s.len) (length text) [] stand.1); some = sizes.0; short = sizes.1 }
piece_from text start (s ∷ []) stand sizes (suc i) d lt = absurd (omega (arith, lt))
piece_from text start (s ∷ x ∷ ss) stand sizes zero d lt = record { inside = omega (arith, stand.0, stand_le (start + s.len) (length text) (x ∷ ss) stand.1); some = omega (arith, sizes.0); short = sizes.1 }
piece_from text start (s ∷ x ∷ ss) stand sizes (suc i) d lt = piece_from text (start + s.len) (x ∷ ss) stand.1 sizes.2 i d (omega (arith, lt))

pub span_is_piece : (text : List ℕ) (ss : List Span) → ss ≡ spans longest text → (i : ℕ) (d : Span) → i < length ss → IsPiece text (get_or ss i d)
span_is_piece text ss is i d lt =
    subst (λ (l : List Span). i < length l → IsPiece text (get_or l i d)) (sym is)
    (λ inside. piece_from text 0 (spans longest text) (spans_cover longest text).0 (span_sizes longest text (omega arith)) i d inside) lt

-- the refs of one span more
pub refs_more : (text : List ℕ) (ss : List Span) (i : ℕ) (d : Span) → i < length ss → map sealed_ref (map (part text) (take (i + 1) ss)) ≡ map sealed_ref (map (part text) (take i ss)) ++ sealed_ref (part text (get_or ss i d)) ∷ []
refs_more text ss i d lt =
    ap (λ (l : List Span). map sealed_ref (map (part text) l)) (take_more ss i d lt)
    ∙ ap (map sealed_ref) (map-append (part text) (take i ss) (get_or ss i d ∷ []))
    ∙ map-append sealed_ref (map (part text) (take i ss)) (part text (get_or ss i d) ∷ [])
