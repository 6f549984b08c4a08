-- The note of a tree may be made by a node that has the tree's pieces for itself.
use Rattle.std.proofs.Common.{◌≡◌, inl, inr, ℕ, zero, suc, ◌≤◌, ◌<◌, ◌^◌, Bool, true, false, ◌&&◌, ◌||◌, nat_le, List, [], ◌∷◌, length, Option, Some, None, refl, sym, ◌∙◌, ap, subst, arith}
use Rattle.std.specs.List.{list_all}
use Rattle.std.proofs.lemmas.Bool.{and_parts, false≢true, lt-ltb, le-leb, leb-true, eq-eqb}
use Rattle.psb_station.proofs.Spans.{same_some}
use Rattle.psb_bytes.specs.declared.ids.Ref.{Ref}
use Rattle.psb_bytes.specs.declared.ids.Ticket.{Ticket}
use Rattle.psb_digest.specs.Hashes.{sha}
use Rattle.psb_digest.proofs.Digests.{length-sha, AreBytes-sha}
use Rattle.psb_model.specs.Words.{name_eq, name_listed}
use Rattle.psb_model.specs.State.{State, own_has, snaps_made}
use Rattle.psb_model.specs.Grammar.{is_digest, is_ticket, is_chunk_len, ticket_fits}
use Rattle.psb_model.proofs.Own.{name_same, name_refl}
use Rattle.change_codec.proofs.RecordLaws.{all_bytes}
use Rattle.psb_machine.specs.Laws.{SnapFits, most_names}
use Rattle.psb_machine.specs.declared.snap_note.SnapNote.{SnapNote}
use Rattle.convergent_seal.specs.Sealing.{sealed, sealed_ref}
use Rattle.rolling_chunks.specs.Cuts.{longest}
use Rattle.rolling_chunks.specs.Spans.{spans}
use Rattle.rolling_chunks.proofs.Covering.{spans_cover, span_sizes}
use Rattle.skeleton.specs.Entries.{is_ref, has_digests, has_chunk_len}
use Rattle.skeleton.specs.Texts.{skeleton_text, refs_text}
use Rattle.snapshots.specs.Meaning.{given, Place}
use Rattle.snapshots.specs.Tickets.{chunks_of, refs_of_text, one_of, ticket_from, skeleton_of_tree, most_levels}
use Rattle.snapshots.specs.WalkSteps.{In}
use Rattle.snapshots.proofs.Members.{passes, all_pass, of_map}
use Rattle.snapshots.proofs.Tickets.{refs_fit}
use Rattle.snapshot_backup.specs.Backed.{Notes}
use Rattle.snapshot_backup.specs.Course.{pieces_of}
use Rattle.snapshot_backup.specs.Kept.{names_of}

-- ---- names

or_true : (a : Bool) → (a || true) ≡ true
or_true true = refl
or_true false = refl

listed : (q : List ℕ) (names : List (List ℕ)) → In q names → name_listed names q ≡ true
listed q [] i = absurd i
listed q (x ∷ names) (inl is) = ap (λ (b : Bool). b || name_listed names q) (ap (λ (y : List ℕ). name_eq y q) is ∙ name_refl q)
listed q (x ∷ names) (inr i) = ap (λ (b : Bool). name_eq x q || b) (listed q names i) ∙ or_true (name_eq x q)

in_list : (q : List ℕ) (names : List (List ℕ)) → name_listed names q ≡ true → In q names
in_list q [] h = absurd (false≢true h)
in_list q (x ∷ names) h = at (name_eq x q) refl h (in_list q names)
  where
    at : (b : Bool) → name_eq x q ≡ b → (b || name_listed names q) ≡ true → (name_listed names q ≡ true → In q names) → In q (x ∷ names)
    at true is h rest = inl (name_same x q is)
    at false is h rest = inr (rest h)

-- what holds of all names of one list holds of those of another that has none but these
all_as : (p : List ℕ → Bool) (names all : List (List ℕ)) → ((q : List ℕ) → name_listed names q ≡ name_listed all q) → list_all p all ≡ true → list_all p names ≡ true
all_as p names all same h = all_pass p names (λ q i. passes p q all h (in_list q all (sym (same q) ∙ listed q names i)))

sha_digest : (bytes : List ℕ) → is_digest (sha bytes) ≡ true
sha_digest bytes = rw (eq-eqb (length (sha bytes)) 32 (length-sha bytes)) (all_bytes (sha bytes) (AreBytes-sha bytes))

names_are_digests : (pieces : List (List ℕ)) → list_all is_digest (names_of pieces) ≡ true
names_are_digests [] = refl
names_are_digests (p ∷ ps) = rw (sha_digest (sealed p)) (names_are_digests ps)

-- ---- the ticket

record IsRefOf (most : ℕ) (t : Ticket) : Type 0 where
  text : List ℕ
  one : one_of (refs_of_text text) ≡ Some t.reference
  levels : t.levels ≤ most

text_behind : (most : ℕ) (text : List ℕ) (t : Ticket) → ticket_from most text ≡ Some t → IsRefOf most t
text_behind zero text t is = at (one_of (refs_of_text text)) refl is
  where
    at : (o : Option Ref) → one_of (refs_of_text text) ≡ o → given {A = Ref} {B = Ticket} o (λ r. Some (record { reference = r; levels = 0 })) ≡ Some t → IsRefOf 0 t
    at (Some r) one is = subst (IsRefOf 0) (same_some _ _ t refl is) (record { text = text; one = one; levels = omega arith })
    at None one is = absurd (cc)
text_behind (suc most) text t is = at (one_of (refs_of_text text)) refl (λ u some. text_behind most (refs_text (refs_of_text text)) u some) is
  where
    deeper : (o : Option Ticket) → ((u : Ticket) → o ≡ Some u → IsRefOf most u) → given {A = Ticket} {B = Ticket} o (λ u. Some (record { reference = u.reference; levels = suc u.levels })) ≡ Some t → IsRefOf (suc most) t
    deeper (Some u) next is =
        let below = next u refl in
        subst (IsRefOf (suc most)) (same_some _ _ t refl is) (record { text = below.text; one = below.one; levels = omega (arith, below.levels) })
    deeper None next is = absurd (cc)

    at : (o : Option Ref) → one_of (refs_of_text text) ≡ o → ((u : Ticket) → ticket_from most (refs_text (refs_of_text text)) ≡ Some u → IsRefOf most u)
        → elim o [ Some r ↦ Some (record { reference = r; levels = 0 }) | None ↦ given {A = Ticket} {B = Ticket} (ticket_from most (refs_text (refs_of_text text))) (λ u. Some (record { reference = u.reference; levels = suc u.levels })) ] ≡ Some t → IsRefOf (suc most) t
    at (Some r) one next is = subst (IsRefOf (suc most)) (same_some _ _ t refl is) (record { text = text; one = one; levels = omega arith })
    at None one next is = deeper (ticket_from most (refs_text (refs_of_text text))) next is

one_in : (rs : List Ref) (r : Ref) → one_of rs ≡ Some r → In r rs
one_in [] r is = absurd (cc)
one_in (x ∷ []) r is = inl (same_some (Some x) x r refl is)
one_in (x ∷ y ∷ rs) r is = absurd (cc)

ref_fits : (text : List ℕ) (r : Ref) → In r (refs_of_text text) → is_chunk_len r.len ≡ true
ref_fits text r i =
    (and_parts (has_digests r) (has_chunk_len r) (passes is_ref r (refs_of_text text) (refs_fit text 0 (spans longest text) (spans_cover longest text).0 (span_sizes longest text (omega arith))) i)).1

ref_digests : (text : List ℕ) (r : Ref) → In r (refs_of_text text) → (is_digest r.name && is_digest r.handle) ≡ true
ref_digests text r i =
    let m = of_map sealed_ref r (chunks_of text) i in
    subst (λ (x : Ref). (is_digest x.name && is_digest x.handle) ≡ true) m.2 (rw (sha_digest (sealed m.0), sha_digest m.0) refl)

short_len : (len : ℕ) → is_chunk_len len ≡ true → len ≤ 32768
short_len len h = leb-true len 32768 (and_parts (nat_le 1 len) (nat_le len 32768) h).1

record TicketFits (t : Ticket) : Type 0 where
  read : is_ticket t ≡ true
  widths : ticket_fits t ≡ true

ticket_is_fit : (text : List ℕ) (t : Ticket) → ticket_from most_levels text ≡ Some t → TicketFits t
ticket_is_fit text t is =
    let b = text_behind most_levels text t is in
    let i = one_in (refs_of_text b.text) t.reference b.one in
    let len = ref_fits b.text t.reference i in
    let digests = ref_digests b.text t.reference i in
    record {
      read = rw (len, le-leb t.levels 4 b.levels) refl;
      widths = rw (digests, lt-ltb t.reference.len (2 ^ 32) (omega (arith, short_len t.reference.len len)), lt-ltb t.levels 256 (omega (arith, b.levels))) refl;
    }

-- ---- the note

pub note_fits : (s : State) (places : List Place) (note : SnapNote) → Notes places note → list_all (own_has s.own) (names_of (pieces_of places)) ≡ true → length note.names ≤ most_names → snaps_made s < 4294967295
    → note.files < 2 ^ 32 → note.folders < 2 ^ 32 → note.bytes < 2 ^ 64 → note.left < 2 ^ 32 → SnapFits s note
note_fits s places note notes own few more files folders bytes left =
    let fit = ticket_is_fit (skeleton_text (skeleton_of_tree places)) note.ticket notes.ticket in
    record {
      ascend = notes.ascend;
      own = all_as (own_has s.own) note.names (names_of (pieces_of places)) notes.names own;
      most = few;
      ticket = fit.read;
      more = more;
      widths = rw (fit.widths, lt-ltb note.files (2 ^ 32) files, lt-ltb note.folders (2 ^ 32) folders, lt-ltb note.bytes (2 ^ 64) bytes, lt-ltb note.left (2 ^ 32) left, all_as is_digest note.names (names_of (pieces_of places)) notes.names (names_are_digests (pieces_of places))) refl;
    }
