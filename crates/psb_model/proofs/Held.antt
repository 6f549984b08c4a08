-- What is held after a change: by the peers, and of the node's own.
use Rattle.std.proofs.Common.{◌≡◌, ℕ, ◌≤◌, Bool, true, false, not, ◌&&◌, ◌||◌, cond, List, [], ◌∷◌, filter, Option, Some, None, refl, sym, ap, ◌∙◌, arith}
use Rattle.std.specs.Prelude.{◌==◌, if◌then◌else◌}
use Rattle.std.specs.List.{list_any}
use Rattle.std.specs.Ordering.{is_lt, nat_cmp}
use Rattle.std.specs.Cmp.Lexicographic.{slice_cmp}
use Rattle.std.proofs.lemmas.Bool.{false≢true, eqb-true, and_parts}
use Rattle.psb_bytes.specs.declared.ids.Object.{Object}
use Rattle.psb_bytes.specs.declared.ids.Object.TheVariants.{Chunk}
use Rattle.psb_settings.specs.declared.settings.Settings.{Settings}
use Rattle.psb_settings.specs.declared.settings.PeerRow.{PeerRow}
use Rattle.psb_model.specs.declared.entries.InEntry.{InEntry}
use Rattle.psb_model.specs.declared.entries.OwnEntry.{OwnEntry}
use Rattle.psb_model.specs.declared.deals.Deal.{Deal}
use Rattle.psb_model.specs.declared.deals.DealWhat.{DealWhat}
use Rattle.psb_model.specs.declared.deals.DealWhat.TheVariants.{Fresh, Swap, Cancel, PutBack, Forward, Return}
use Rattle.psb_model.specs.declared.change.Change.{Change}
use Rattle.psb_model.specs.declared.change.Change.TheVariants.{Begun, Kept, Snapped, Forgot, TookFresh, TookSwap, LetGo, LetGoBack, Replaced, Refused, Proposed, Settled, Turned, Asked, Passed, Failed, Declined, Discarded, Chose}
use Rattle.psb_model.specs.Words.{units, name_eq, name_listed, object_eq, object_cmp, listed, slots, has, without, with_one, with_all}
use Rattle.psb_model.specs.State.{Row, State, row, has_row, is_peer, at_row, in_key, own_has, is_held}
use Rattle.psb_model.specs.Conditions.{settings_of_body, peer_of, tests, allowed}
use Rattle.psb_model.specs.Move.{after_move}
use Rattle.psb_model.specs.Effects.{move_of, settle_move, direct_slot, direct_slots, blank_rows, first_rows, all_rows_after, after, chunk_in, own_after, own_with, kept_lists, kept_without}
use Rattle.psb_model.specs.Needed.{brings_name}
use Rattle.psb_model.proofs.ByObject.{by_cases, carry}
use Rattle.psb_model.proofs.Parts.{no_chunk}
use Rattle.psb_model.proofs.Steps.{parts}
use Rattle.psb_model.proofs.Own.{name_same, name_refl, own_with_other, IsUnmarked, unmarked_stays}
use Rattle.psb_model.proofs.Rows.{note_lists}
use Rattle.psb_model.proofs.Bare.{bare_in, bare_rows, has_bare, changed, rows_then}
pub use Rattle.psb_model.proofs.Steady.{or_true}
use Rattle.psb_model.proofs.Steady.{neither, marks_has, allows, is_kept}

-- WHAT IS HELD

abbrev pub held_in : List (ℕ × Row) → List ℕ → Bool
held_in rows n = list_any (λ (x : ℕ × Row). has in_key x.1.ins (Chunk n)) rows

pub or_none : (a : Bool) → (a || false) ≡ a
or_none true = refl
or_none false = refl

pub or_swap : (a b : Bool) → (a || b) ≡ (b || a)
or_swap true true = refl
or_swap true false = refl
or_swap false true = refl
or_swap false false = refl

pub or_last : (a b c : Bool) → (a || (b || c)) ≡ ((a || b) || c)
or_last true b c = refl
or_last false b c = refl

pub or_middle : (a b c : Bool) → ((a || b) || c) ≡ ((a || c) || b)
or_middle true b c = refl
or_middle false b c = or_swap b c

-- either of two is not both not
pub either_was : (a b a' b' : Bool) → (a || b) ≡ true → (a ≡ true → a' ≡ true) → (b ≡ true → b' ≡ true) → (a' || b') ≡ true
either_was true b a' b' h f g = rw (f refl) refl
either_was false b a' b' h f g = rw (g h) (or_true a')

pub any_more : {E : Type 0} (key : E → Object) (f : E → Bool) (e : E) (l : List E) → list_any f (with_one key e l) ≡ (list_any f l || f e)
any_more key f e [] = or_none (f e)
any_more key f e (x ∷ xs) = by_cases (is_lt (object_cmp (key e) (key x)))
    (λ k. rw k (or_swap (f e) (f x || list_any f xs)))
    (λ k. rw k (ap (λ (b : Bool). f x || b) (any_more key f e xs) ∙ or_last (f x) (list_any f xs) (f e)))

has_more : (e : InEntry) (l : List InEntry) (o : Object) → has in_key (with_one in_key e l) o ≡ (has in_key l o || object_eq e.object o)
has_more e l o = any_more in_key (λ (x : InEntry). object_eq (in_key x) o) e l

-- an entry that passes a test among those that a filter leaves was one of the list
pub any_less : {E : Type 0} (f q : E → Bool) (l : List E) → list_any f (filter q l) ≡ true → list_any f l ≡ true
any_less f q [] h = h
any_less f q (e ∷ es) h = by_cases (f e)
    (λ k. rw k refl)
    (λ k. rw k (any_less f q es (by_cases (q e) (λ j. let h' = rw j at h in rw k at h') (λ j. rw j at h))))

pub and_none : (a : Bool) → (a && false) ≡ false
and_none true = refl
and_none false = refl

-- what leaves is no longer there, and what is not named stays
pub has_less : {E : Type 0} (key : E → Object) (objects : List Object) (l : List E) (o : Object) → has key (without key objects l) o ≡ (has key l o && not (listed objects o))
has_less key objects [] o = refl
has_less key objects (e ∷ es) o = by_cases (listed objects (key e))
    (λ k. rw k (has_less key objects es o ∙ by_cases (object_eq (key e) o)
    (λ j. let gone : listed objects o ≡ true = sym (carry (listed objects) (key e) o j) ∙ k in rw (j, gone) (and_none (has key es o)))
    (λ j. rw j refl)))
    (λ k. rw k (by_cases (object_eq (key e) o)
    (λ j. let stays : listed objects o ≡ false = sym (carry (listed objects) (key e) o j) ∙ k in rw (j, stays) refl)
    (λ j. rw j (has_less key objects es o))))

-- slots that leave are no chunks
pub chunk_stays : {E : Type 0} (key : E → Object) (numbers : List ℕ) (l : List E) (q : List ℕ) → has key (without key (slots numbers) l) (Chunk q) ≡ has key l (Chunk q)
chunk_stays key numbers l q = has_less key (slots numbers) l (Chunk q) ∙ ap (λ (b : Bool). has key l (Chunk q) && not b) (no_chunk numbers q) ∙ and_true (has key l (Chunk q))
  where
    and_true : (a : Bool) → (a && true) ≡ a
    and_true true = refl
    and_true false = refl

-- nor are slots that come
direct_chunk : (numbers : List ℕ) (l : List InEntry) (q : List ℕ) → has in_key (with_all in_key (direct_slots numbers) l) (Chunk q) ≡ has in_key l (Chunk q)
direct_chunk [] l q = refl
direct_chunk (n ∷ ns) l q = direct_chunk ns (with_one in_key (direct_slot n) l) q ∙ has_more (direct_slot n) l (Chunk q) ∙ or_none (has in_key l (Chunk q))

-- a row gained the chunk, if b
abbrev pub Gains : (Row → Row) → List ℕ → Bool → Type 0
Gains f name b = (r : Row) → has in_key (f r).ins (Chunk name) ≡ (has in_key r.ins (Chunk name) || b)

pub fresh_gains : (s : State) (p deal : ℕ) (name : List ℕ) (first len : ℕ) (new : Bool) (body : Option (List ℕ)) (q : List ℕ) → Gains (changed s (TookFresh (record { peer = p; deal = deal; name = name; first = first; len = len; new = new; body = body }))) q (name_eq name q)
fresh_gains s p deal name first len new body q r =
    has_more (chunk_in name (units len)) (without in_key [] r.ins) (Chunk q) ∙ ap (λ (b : Bool). b || name_eq name q) (chunk_stays in_key [] r.ins q)

pub swap_gains : (s : State) (p deal : ℕ) (name numbers : List ℕ) (len : ℕ) (new : Bool) (body : Option (List ℕ)) (q : List ℕ) → Gains (changed s (TookSwap (record { peer = p; deal = deal; name = name; slots = numbers; len = len; new = new; body = body }))) q (name_eq name q)
swap_gains s p deal name numbers len new body q r =
    has_more (chunk_in name (units len)) (without in_key (slots numbers) r.ins) (Chunk q) ∙ ap (λ (b : Bool). b || name_eq name q) (chunk_stays in_key numbers r.ins q)

-- a row lost the chunk
abbrev pub Loses : (Row → Row) → List ℕ → List ℕ → Type 0
Loses f name q = (r : Row) → has in_key (f r).ins (Chunk q) ≡ (has in_key r.ins (Chunk q) && not (name_eq name q))

lone : (name q : List ℕ) → listed (Chunk name ∷ []) (Chunk q) ≡ name_eq name q
lone name q = or_none (name_eq name q)

pub let_go_loses : (s : State) (p deal : ℕ) (name numbers q : List ℕ) → Loses (changed s (LetGo (record { peer = p; deal = deal; name = name; slots = numbers }))) name q
let_go_loses s p deal name numbers q r = has_less in_key (Chunk name ∷ []) r.ins (Chunk q) ∙ ap (λ (b : Bool). has in_key r.ins (Chunk q) && not b) (lone name q)

pub put_back_loses : (s : State) (p deal : ℕ) (name numbers : List ℕ) (body : Option (List ℕ)) (q : List ℕ) → Loses (changed s (LetGoBack (record { peer = p; deal = deal; name = name; slots = numbers; body = body }))) name q
put_back_loses s p deal name numbers body q r =
    direct_chunk numbers (without in_key (Chunk name ∷ []) r.ins) q
    ∙ has_less in_key (Chunk name ∷ []) r.ins (Chunk q) ∙ ap (λ (b : Bool). has in_key r.ins (Chunk q) && not b) (lone name q)

pub refused_gains : (s : State) (p deal why detail : ℕ) (q : List ℕ) → Gains (changed s (Refused (record { peer = p; deal = deal; why = why; detail = detail }))) q false
refused_gains s p deal why detail q r = chunk_stays in_key [] r.ins q ∙ sym (or_none (has in_key r.ins (Chunk q)))

pub proposed_gains : (s : State) (p deal : ℕ) (what : DealWhat) (q : List ℕ) → Gains (changed s (Proposed (record { peer = p; deal = deal; what = what }))) q false
proposed_gains s p deal what q r = chunk_stays in_key [] r.ins q ∙ sym (or_none (has in_key r.ins (Chunk q)))

pub turned_gains : (s : State) (p deal why detail : ℕ) (q : List ℕ) → Gains (changed s (Turned (record { peer = p; deal = deal; why = why; detail = detail }))) q false
turned_gains s p deal why detail q r = chunk_stays in_key [] r.ins q ∙ sym (or_none (has in_key r.ins (Chunk q)))

-- a settled deal brings and takes slots of in(p) alone
pub settled_gains : (s : State) (p deal : ℕ) (numbers : List ℕ) (body : Option (List ℕ)) (q : List ℕ) → Gains (changed s (Settled (record { peer = p; deal = deal; slots = numbers; body = body }))) q false
settled_gains s p deal numbers body q r = by_deal (row s p).pending ∙ sym (or_none (has in_key r.ins (Chunk q)))
  where
    by_what : (number : ℕ) (w : DealWhat) → has in_key (after_move (settle_move s (row s p) (Some (record { number = number; what = w })) numbers) r).ins (Chunk q) ≡ has in_key r.ins (Chunk q)
    by_what number (Fresh name) = direct_chunk numbers (without in_key [] r.ins) q ∙ chunk_stays in_key [] r.ins q
    by_what number (Swap name mine) = chunk_stays in_key [] r.ins q
    by_what number (Cancel name theirs) = chunk_stays in_key theirs r.ins q
    by_what number (PutBack name first) = chunk_stays in_key [] r.ins q
    by_what number (Forward slot entry) = chunk_stays in_key [] r.ins q
    by_what number (Return slot) = chunk_stays in_key [] r.ins q

    by_deal : (o : Option Deal) → has in_key (after_move (settle_move s (row s p) o numbers) r).ins (Chunk q) ≡ has in_key r.ins (Chunk q)
    by_deal None = chunk_stays in_key [] r.ins q
    by_deal (Some d) = by_what d.number d.what

pub all_gain : (p : ℕ) (f : Row → Row) (q : List ℕ) (b : Bool) (rows : List (ℕ × Row)) → has_row rows p ≡ true → Gains f q b → held_in (at_row p f rows) q ≡ (held_in rows q || b)
all_gain p f q b [] here gains = absurd (false≢true here)
all_gain p f q b (x ∷ xs) here gains = by_cases (x.0 == p)
    (λ k. rw k (ap (λ (c : Bool). c || held_in xs q) (gains x.1) ∙ or_middle (has in_key x.1.ins (Chunk q)) b (held_in xs q)))
    (λ k. let rest = rw k at here in rw k (ap (λ (c : Bool). has in_key x.1.ins (Chunk q) || c) (all_gain p f q b xs rest gains) ∙ or_last (has in_key x.1.ins (Chunk q)) (held_in xs q) b))

-- a row has no chunk that it had not
abbrev pub Lessens : (Row → Row) → List ℕ → Type 0
Lessens f q = (r : Row) → has in_key (f r).ins (Chunk q) ≡ true → has in_key r.ins (Chunk q) ≡ true

loses_less : (f : Row → Row) (name q : List ℕ) → Loses f name q → Lessens f q
loses_less f name q loses r h = (and_parts (has in_key r.ins (Chunk q)) (not (name_eq name q)) (sym (loses r) ∙ h)).0

-- what is held after a row lost a chunk was held before
all_less : (p : ℕ) (f : Row → Row) (q : List ℕ) (rows : List (ℕ × Row)) → Lessens f q → held_in (at_row p f rows) q ≡ true → held_in rows q ≡ true
all_less p f q [] less h = h
all_less p f q (x ∷ xs) less h = by_cases (x.0 == p)
    (λ k. let h' = rw k at h in either_was (has in_key (f x.1).ins (Chunk q)) (held_in xs q) (has in_key x.1.ins (Chunk q)) (held_in xs q) h' (less x.1) (λ a. a))
    (λ k. let h' = rw k at h in either_was (has in_key x.1.ins (Chunk q)) (held_in (at_row p f xs) q) (has in_key x.1.ins (Chunk q)) (held_in xs q) h'
    (λ a. a) (λ a. all_less p f q xs less a))

-- nothing comes to in(p) and nothing goes
pub still_gains : (s : State) (c : Change) (q : List ℕ) → (move_of s c).in_gone ≡ [] → (move_of s c).in_new ≡ [] → Gains (changed s c) q false
still_gains s c q gone new r =
    ap (λ l. has in_key l (Chunk q)) (note_lists s c (after_move (move_of s c) r)).ins
    ∙ ap (λ (es : List InEntry). has in_key (with_all in_key es (without in_key (move_of s c).in_gone r.ins)) (Chunk q)) new
    ∙ ap (λ (os : List Object). has in_key (without in_key os r.ins) (Chunk q)) gone
    ∙ chunk_stays in_key [] r.ins q ∙ sym (or_none (has in_key r.ins (Chunk q)))

-- what is thrown away was there
pub discard_less : (s : State) (p : ℕ) (objects : List Object) (q : List ℕ) → Lessens (changed s (Discarded (record { peer = p; objects = objects }))) q
discard_less s p objects q r h = (and_parts (has in_key r.ins (Chunk q)) (not (listed objects (Chunk q))) (sym (has_less in_key objects r.ins (Chunk q)) ∙ h)).0

-- the states of entries do not matter
held_bare : (rows : List (ℕ × Row)) (q : List ℕ) → held_in (bare_rows rows) q ≡ held_in rows q
held_bare [] q = refl
held_bare (x ∷ xs) q = ap (λ b. b || held_in (bare_rows xs) q) (has_bare in_key bare_in (λ e. refl) x.1.ins (Chunk q)) ∙ ap (λ b. has in_key x.1.ins (Chunk q) || b) (held_bare xs q)

held_then : (s : State) (c : Change) (p : ℕ) (q : List ℕ) → peer_of c ≡ Some p → held_in (after s c).rows q ≡ held_in (at_row p (changed s c) s.rows) q
held_then s c p q peer = sym (held_bare (all_rows_after s c) q) ∙ ap (λ (l : List (ℕ × Row)). held_in l q) (rows_then s c p peer) ∙ held_bare (at_row p (changed s c) s.rows) q

none_blank : (ps : List PeerRow) (q : List ℕ) → held_in (blank_rows ps) q ≡ false
none_blank [] q = refl
none_blank (p ∷ ps) q = none_blank ps q

pub none_first : (o : Option Settings) (q : List ℕ) → held_in (first_rows o) q ≡ false
none_first None q = refl
none_first (Some x) q = none_blank x.peers q

-- what the peers have here after a change
pub held_begun : (s : State) (body : Option (List ℕ)) (q : List ℕ) → held_in (after s (Begun (record { body = body }))).rows q ≡ false
held_begun s body q = none_first (settings_of_body body) q

-- where a change of a peer brings a chunk, or none
pub held_more : (s : State) (c : Change) (p : ℕ) (q : List ℕ) (b : Bool) → peer_of c ≡ Some p → is_peer s p ≡ true → Gains (changed s c) q b → held_in (after s c).rows q ≡ (held_in s.rows q || b)
held_more s c p q b peer here gains = held_then s c p q peer ∙ all_gain p (changed s c) q b s.rows here gains

held_as_before : (s : State) (c : Change) (p : ℕ) (q : List ℕ) → peer_of c ≡ Some p → is_peer s p ≡ true → Gains (changed s c) q false → held_in (after s c).rows q ≡ held_in s.rows q
held_as_before s c p q peer here gains = held_more s c p q false peer here gains ∙ or_none (held_in s.rows q)

-- where it takes some away
held_less : (s : State) (c : Change) (p : ℕ) (q : List ℕ) → peer_of c ≡ Some p → Lessens (changed s c) q → held_in (after s c).rows q ≡ true → held_in s.rows q ≡ true
held_less s c p q peer less h = all_less p (changed s c) q s.rows less (sym (held_then s c p q peer) ∙ h)

-- OWN CHUNKS

-- what passed a filter was one of the list
pub filter_has : (t : OwnEntry → Bool) (l : List OwnEntry) (n : List ℕ) → own_has (filter t l) n ≡ true → own_has l n ≡ true
filter_has t [] n h = h
filter_has t (e ∷ es) n h = by_cases (name_eq e.name n)
    (λ k. rw k refl)
    (λ k. rw k (filter_has t es n (by_cases (t e) (λ j. let h' = rw j at h in rw k at h') (λ j. rw j at h))))

own_with_has : (e : OwnEntry) (l : List OwnEntry) → own_has (own_with e l) e.name ≡ true
own_with_has e [] = rw (name_refl e.name) refl
own_with_has e (x ∷ xs) = by_cases (is_lt (slice_cmp nat_cmp e.name x.name))
    (λ j. rw (j, name_refl e.name) refl)
    (λ j. rw j (by_cases (name_eq x.name e.name) (λ k. rw k refl) (λ k. rw k (own_with_has e xs))))

-- own has a kept chunk, and what it had
pub own_with_is : (e : OwnEntry) (l : List OwnEntry) (n : List ℕ) → own_has (own_with e l) n ≡ (own_has l n || name_eq e.name n)
own_with_is e l n = by_cases (name_eq e.name n)
    (λ k. ap (own_has (own_with e l)) (sym (name_same e.name n k)) ∙ own_with_has e l ∙ sym (ap (λ b. own_has l n || b) k ∙ or_true (own_has l n)))
    (λ k. (own_with_other e l n k).0 ∙ sym (ap (λ b. own_has l n || b) k ∙ or_none (own_has l n)))

-- what is an own chunk after a change was one before what is given up
own_was : (s : State) (c : Change) (n : List ℕ) → own_has (after s c).own n ≡ true → own_has (own_after s c) n ≡ true
own_was s c n h = filter_has (is_kept (all_rows_after s c)) (own_after s c) n h

-- a chunk that was just kept is not marked, so it stays
with_unmarked : (e : OwnEntry) (l : List OwnEntry) → own_has l e.name ≡ false → e.marked ≡ false → IsUnmarked (own_with e l) e.name
with_unmarked e [] lacks free = record { has = rw (name_refl e.name) refl; free = rw (name_refl e.name) free }
with_unmarked e (x ∷ xs) lacks free =
    let two = neither (name_eq x.name e.name) (own_has xs e.name) lacks in
    let rest = with_unmarked e xs two.1 free in
    by_cases (is_lt (slice_cmp nat_cmp e.name x.name))
    (λ j. rw j (record { has = rw (name_refl e.name) refl; free = rw (name_refl e.name) free }))
    (λ j. rw j (record { has = rw two.0 rest.has; free = rw two.0 rest.free }))

pub kept_is_own : (s : State) (name : List ℕ) (len : ℕ) (new : Bool) (body : Option (List ℕ)) → own_has s.own name ≡ false → own_has (after s (Kept (record { name = name; len = len; new = new; body = body }))).own name ≡ true
kept_is_own s name len new body lacks =
    (unmarked_stays s.rows (own_after s (Kept (record { name = name; len = len; new = new; body = body }))) name (with_unmarked (record { name = name; len = len; marked = false }) s.own lacks refl)).has

-- WHAT A CHANGE HOLDS

-- a chunk's bytes are brought where it is new
brings_when : (new : Bool) (name n : List ℕ) → elim (if new then Some name else None) [ None ↦ false | Some m ↦ name_eq m n ] ≡ (new && name_eq name n)
brings_when true name n = refl
brings_when false name n = refl

-- the change's chunk is held after it
pub brought_held : (s : State) (c : Change) (n : List ℕ) → allowed s c ≡ true → brings_name n c ≡ true → is_held (after s c) n ≡ true
brought_held s (Kept x) n h is =
    let c : Change = Kept x in
    let ts = parts (tests s c) (allows s c h).tests in
    let name = (and_parts x.new (name_eq x.name n) (sym (brings_when x.new x.name n) ∙ is)).1 in
    let here : own_has (after s c).own n ≡ true = ap (own_has (after s c).own) (sym (name_same x.name n name)) ∙ kept_is_own s x.name x.len x.new x.body (not_true (own_has s.own x.name) ts.0) in
    rw here refl
  where
    not_true : (b : Bool) → not b ≡ true → b ≡ false
    not_true true k = sym k
    not_true false k = refl
brought_held s (TookFresh y) n h is =
    let c : Change = TookFresh y in
    let name = (and_parts y.new (name_eq y.name n) (sym (brings_when y.new y.name n) ∙ is)).1 in
    let here : held_in (after s c).rows n ≡ true = held_more s c y.peer n (name_eq y.name n) refl (allows s c h).peer (fresh_gains s y.peer y.deal y.name y.first y.len y.new y.body n) ∙ ap (λ x. held_in s.rows n || x) name ∙ or_true (held_in s.rows n) in
    ap (λ x. own_has (after s c).own n || x) here ∙ or_true (own_has (after s c).own n)
brought_held s (TookSwap y) n h is =
    let c : Change = TookSwap y in
    let name = (and_parts y.new (name_eq y.name n) (sym (brings_when y.new y.name n) ∙ is)).1 in
    let here : held_in (after s c).rows n ≡ true = held_more s c y.peer n (name_eq y.name n) refl (allows s c h).peer (swap_gains s y.peer y.deal y.name y.slots y.len y.new y.body n) ∙ ap (λ x. held_in s.rows n || x) name ∙ or_true (held_in s.rows n) in
    ap (λ x. own_has (after s c).own n || x) here ∙ or_true (own_has (after s c).own n)
brought_held s _ n h is = absurd (false≢true is)

not_new : (held new : Bool) → (cond held (not new) new) ≡ true → new ≡ false → held ≡ true
not_new true new t e = refl
not_new false new t e = sym e ∙ t

-- what is held after a change of which own and the peers' rows hold no more was held before it
held_before : (s : State) (c : Change) (n : List ℕ) → (own_has (own_after s c) n ≡ true → own_has s.own n ≡ true) → (held_in (after s c).rows n ≡ true → held_in s.rows n ≡ true) → is_held (after s c) n ≡ true → is_held s n ≡ true
held_before s c n f g held = either_was (own_has (after s c).own n) (held_in (after s c).rows n) (own_has s.own n) (held_in s.rows n) held (λ a. f (own_was s c n a)) g

-- a held name was held before, or the change brings its bytes
pub was_held : (s : State) (c : Change) (n : List ℕ) → 1 ≤ s.changes → allowed s c ≡ true → is_held (after s c) n ≡ true → brings_name n c ≡ false → is_held s n ≡ true
was_held s (Begun x) n some h held none = let ts = parts (tests s (Begun x)) (allows s (Begun x) h).tests in absurd (omega (arith, some, eqb-true s.changes 0 ts.0))
was_held s (Kept y) n some h held none =
    let c : Change = Kept y in
    let ts = parts (tests s c) (allows s c h).tests in
    by_cases (name_eq y.name n)
    (λ k. ap (is_held s) (sym (name_same y.name n k)) ∙ not_new (is_held s y.name) y.new ts.1.0 (flag y.new k (sym (brings_when y.new y.name n) ∙ none)))
    (λ k. held_before s c n
    (λ a. sym (own_with_is (record { name = y.name; len = y.len; marked = false }) s.own n ∙ ap (λ x. own_has s.own n || x) k ∙ or_none (own_has s.own n)) ∙ a)
    (λ a. a) held)
  where
    flag : (new : Bool) → name_eq y.name n ≡ true → (new && name_eq y.name n) ≡ false → new ≡ false
    flag true k e = absurd (false≢true (sym e ∙ k))
    flag false k e = refl
was_held s (Snapped x) n some h held none =
    held_before s (Snapped x) n (λ a. sym (marks_has (λ e. e.marked && not (name_listed x.names e.name)) s.own n) ∙ a) (λ a. a) held
was_held s (Forgot x) n some h held none =
    held_before s (Forgot x) n (λ a. sym (marks_has (λ e. e.marked || not (kept_lists (kept_without x.number s.kept) e.name)) s.own n) ∙ a) (λ a. a) held
was_held s (Chose x) n some h held none = held_before s (Chose x) n (λ a. a) (λ a. a) held
was_held s (TookFresh y) n some h held none =
    let c : Change = TookFresh y in
    let ts = parts (tests s c) (allows s c h).tests in
    by_cases (name_eq y.name n)
    (λ k. ap (is_held s) (sym (name_same y.name n k)) ∙ not_new (is_held s y.name) y.new ts.1.1.0 (flag y.new k (sym (brings_when y.new y.name n) ∙ none)))
    (λ k. held_before s c n (λ a. a)
    (λ a. sym (held_more s c y.peer n (name_eq y.name n) refl (allows s c h).peer (fresh_gains s y.peer y.deal y.name y.first y.len y.new y.body n) ∙ ap (λ x. held_in s.rows n || x) k ∙ or_none (held_in s.rows n)) ∙ a)
    held)
  where
    flag : (new : Bool) → name_eq y.name n ≡ true → (new && name_eq y.name n) ≡ false → new ≡ false
    flag true k e = absurd (false≢true (sym e ∙ k))
    flag false k e = refl
was_held s (TookSwap y) n some h held none =
    let c : Change = TookSwap y in
    let ts = parts (tests s c) (allows s c h).tests in
    by_cases (name_eq y.name n)
    (λ k. ap (is_held s) (sym (name_same y.name n k)) ∙ not_new (is_held s y.name) y.new ts.1.1.0 (flag y.new k (sym (brings_when y.new y.name n) ∙ none)))
    (λ k. held_before s c n (λ a. a)
    (λ a. sym (held_more s c y.peer n (name_eq y.name n) refl (allows s c h).peer (swap_gains s y.peer y.deal y.name y.slots y.len y.new y.body n) ∙ ap (λ x. held_in s.rows n || x) k ∙ or_none (held_in s.rows n)) ∙ a)
    held)
  where
    flag : (new : Bool) → name_eq y.name n ≡ true → (new && name_eq y.name n) ≡ false → new ≡ false
    flag true k e = absurd (false≢true (sym e ∙ k))
    flag false k e = refl
was_held s (LetGo x) n some h held none =
    let c : Change = LetGo x in
    held_before s c n (λ a. a) (held_less s c x.peer n refl (loses_less (changed s c) x.name n (let_go_loses s x.peer x.deal x.name x.slots n))) held
was_held s (LetGoBack x) n some h held none =
    let c : Change = LetGoBack x in
    held_before s c n (λ a. a) (held_less s c x.peer n refl (loses_less (changed s c) x.name n (put_back_loses s x.peer x.deal x.name x.slots x.body n))) held
was_held s (Refused x) n some h held none =
    let c : Change = Refused x in
    held_before s c n (λ a. a) (λ a. sym (held_as_before s c x.peer n refl (allows s c h).peer (refused_gains s x.peer x.deal x.why x.detail n)) ∙ a) held
was_held s (Proposed x) n some h held none =
    let c : Change = Proposed x in
    held_before s c n (λ a. a) (λ a. sym (held_as_before s c x.peer n refl (allows s c h).peer (proposed_gains s x.peer x.deal x.what n)) ∙ a) held
was_held s (Settled x) n some h held none =
    let c : Change = Settled x in
    held_before s c n (λ a. a) (λ a. sym (held_as_before s c x.peer n refl (allows s c h).peer (settled_gains s x.peer x.deal x.slots x.body n)) ∙ a) held
was_held s (Turned x) n some h held none =
    let c : Change = Turned x in
    held_before s c n (λ a. a) (λ a. sym (held_as_before s c x.peer n refl (allows s c h).peer (turned_gains s x.peer x.deal x.why x.detail n)) ∙ a) held
was_held s (Replaced x) n some h held none =
    let c : Change = Replaced x in
    held_before s c n (λ a. a) (λ a. sym (held_as_before s c x.peer n refl (allows s c h).peer (still_gains s c n refl refl)) ∙ a) held
was_held s (Asked x) n some h held none =
    let c : Change = Asked x in
    held_before s c n (λ a. a) (λ a. sym (held_as_before s c x.peer n refl (allows s c h).peer (still_gains s c n refl refl)) ∙ a) held
was_held s (Passed x) n some h held none =
    let c : Change = Passed x in
    held_before s c n (λ a. a) (λ a. sym (held_as_before s c x.peer n refl (allows s c h).peer (still_gains s c n refl refl)) ∙ a) held
was_held s (Failed x) n some h held none =
    let c : Change = Failed x in
    held_before s c n (λ a. a) (λ a. sym (held_as_before s c x.peer n refl (allows s c h).peer (still_gains s c n refl refl)) ∙ a) held
was_held s (Declined x) n some h held none =
    let c : Change = Declined x in
    held_before s c n (λ a. a) (λ a. sym (held_as_before s c x.peer n refl (allows s c h).peer (still_gains s c n refl refl)) ∙ a) held
was_held s (Discarded x) n some h held none =
    let c : Change = Discarded x in
    held_before s c n (λ a. a) (held_less s c x.peer n refl (discard_less s x.peer x.objects n)) held

-- a name that is brought is new only where it is not held
held_not_new : (s : State) (name n : List ℕ) (new : Bool) → is_held s n ≡ true → cond (is_held s name) (not new) new ≡ true → (new && name_eq name n) ≡ false
held_not_new s name n false held t = refl
held_not_new s name n true held t =
    by_cases (name_eq name n)
    (λ k. let here : is_held s name ≡ true = ap (is_held s) (name_same name n k) ∙ held in
    let bad = rw here at t in
    absurd (false≢true bad))
    (λ k. k)

-- a held name is not brought again
pub brings_none : (s : State) (c : Change) (n : List ℕ) → allowed s c ≡ true → is_held s n ≡ true → brings_name n c ≡ false
brings_none s (Kept x) n h held = let c : Change = Kept x in brings_when x.new x.name n ∙ held_not_new s x.name n x.new held (parts (tests s c) (allows s c h).tests).1.0
brings_none s (TookFresh x) n h held = let c : Change = TookFresh x in brings_when x.new x.name n ∙ held_not_new s x.name n x.new held (parts (tests s c) (allows s c h).tests).1.1.0
brings_none s (TookSwap x) n h held = let c : Change = TookSwap x in brings_when x.new x.name n ∙ held_not_new s x.name n x.new held (parts (tests s c) (allows s c h).tests).1.1.0
brings_none s _ n h held = refl
