-- The answer to a change, made again from the head of its record.
use Rattle.std.proofs.Common.{◌≡◌, ℕ, zero, suc, ◌+◌, ◌*◌, length, Bool, true, false, ◌&&◌, cond, List, [], ◌∷◌, slice_get, Option, Some, None, IfSome, refl, sym, ◌∙◌, ap, subst}
use Rattle.std.proofs.lemmas.Bool.{false≢true, and_parts, le-leb}
use Rattle.psb_bytes.specs.Units.{units}
use Rattle.psb_station.proofs.Spans.{at_some}
use Rattle.node_journal.specs.Entry.{Entry}
use Rattle.psb_model.specs.Heads.{head_of}
use Rattle.psb_model.specs.Grammar.{in_grammar, fits_widths, is_u8, is_u32, is_u64, is_digest, are_bytes, is_chunk_len, body_fits, chunk_fits, numbers_listed}
use Rattle.std.specs.List.{list_all}
use Rattle.psb_model.specs.Conditions.{most_claims}
use Rattle.psb_model.specs.declared.change.Change.{Change}
use Rattle.psb_model.specs.declared.change.Change.TheVariants.{TookFresh, TookSwap, LetGo, LetGoBack, Replaced, Refused}
use Rattle.psb_model.proofs.ByObject.{by_cases}
use Rattle.change_codec.specs.Records.{IsRecord, IsRead, OneChangeEach}
use Rattle.wire_codec.specs.declared.frame.Frame.{Frame}
use Rattle.psb_machine.specs.Replies.{reply_of, is_answerable}
use Rattle.psb_machine.proofs.Lasts.{IsAnswered, LastIs}
use Rattle.node_facts.specs.Again.{IsAnswerOf}
use Rattle.node_history.specs.Less.{without_body, IsLess}
use Rattle.node_history.specs.Stands.{AreDecoded}
use Rattle.node_history.proofs.Less.{head_less, less_at}

-- what is known of a change without its body part, as it is read from its head alone, where a peer's deal made the change
record IsBare (seed : List ℕ) (c : Change) (head : List ℕ) : Type 0 where
  read : IsRead (without_body c) head None
  reply : reply_of seed (without_body c) ≡ reply_of seed c
  answerable : is_answerable (without_body c) ≡ true

grammar_without : (len : ℕ) (new : Bool) (body : Option (List ℕ)) → in_grammar (TookFresh (record { peer = 0; deal = 0; name = []; first = 0; len = len; new = new; body = body })) ≡ true → in_grammar (TookFresh (record { peer = 0; deal = 0; name = []; first = 0; len = len; new = new; body = None })) ≡ true
grammar_without len new None g = g
grammar_without len new (Some bytes) g = (and_parts (is_chunk_len len && true) true (ap (λ b. b && true) (first (is_chunk_len len) (body_fits (cond new len 0) (Some bytes)) g))).0
  where
    first : (a b : Bool) → a && b ≡ true → a && true ≡ true
    first true b h = refl
    first false b h = absurd (false≢true h)

bare_fresh : (seed : List ℕ) (p deal : ℕ) (name : List ℕ) (first len : ℕ) (new : Bool) (body : Option (List ℕ)) (head : List ℕ) → head ≡ head_of (TookFresh (record { peer = p; deal = deal; name = name; first = first; len = len; new = new; body = body }))
    → in_grammar (TookFresh (record { peer = p; deal = deal; name = name; first = first; len = len; new = new; body = body })) ≡ true → fits_widths (TookFresh (record { peer = p; deal = deal; name = name; first = first; len = len; new = new; body = body })) ≡ true → IsAnswered (TookFresh (record { peer = p; deal = deal; name = name; first = first; len = len; new = new; body = body })) → IsBare seed (TookFresh (record { peer = p; deal = deal; name = name; first = first; len = len; new = new; body = body })) head
bare_fresh seed p deal name first len new body head is g f a = record {
  read = record {
    grammar = grammar_without len new body g;
    widths = rw ((and_parts (is_u32 p && is_u64 deal && is_digest name && is_u32 first && is_u32 len) (are_bytes body) f).0) refl;
    stands = record { head_is = is; body_is = refl };
  };
  reply = refl;
  answerable = rw (le-leb len 32768 a.1, le-leb (first + units len) most_claims a.0) refl;
}

bare_refused : (seed : List ℕ) (p deal why detail : ℕ) (head : List ℕ) → head ≡ head_of (Refused (record { peer = p; deal = deal; why = why; detail = detail })) → fits_widths (Refused (record { peer = p; deal = deal; why = why; detail = detail })) ≡ true → IsAnswered (Refused (record { peer = p; deal = deal; why = why; detail = detail })) → IsBare seed (Refused (record { peer = p; deal = deal; why = why; detail = detail })) head
bare_refused seed p deal why detail head is f a = record {
  read = record { grammar = refl; widths = f; stands = record { head_is = is; body_is = refl } };
  reply = refl;
  answerable = rw (le-leb 1 why a.0, le-leb why 9 a.1) refl;
}

bare_swap : (seed : List ℕ) (p deal : ℕ) (name numbers : List ℕ) (len : ℕ) (new : Bool) (body : Option (List ℕ)) (head : List ℕ) → head ≡ head_of (TookSwap (record { peer = p; deal = deal; name = name; slots = numbers; len = len; new = new; body = body })) → in_grammar (TookSwap (record { peer = p; deal = deal; name = name; slots = numbers; len = len; new = new; body = body })) ≡ true → fits_widths (TookSwap (record { peer = p; deal = deal; name = name; slots = numbers; len = len; new = new; body = body })) ≡ true → IsBare seed (TookSwap (record { peer = p; deal = deal; name = name; slots = numbers; len = len; new = new; body = body })) head
bare_swap seed p deal name numbers len new body head is g f =
    let two = and_parts (chunk_fits len new body) (numbers_listed numbers) g in
    record {
      read = record {
        grammar = rw (grammar_without len new body two.0, two.1) refl;
        widths = rw ((and_parts (is_u32 p && is_u64 deal && is_digest name && list_all is_u32 numbers && is_u32 len) (are_bytes body) f).0) refl;
        stands = record { head_is = is; body_is = refl };
      };
      reply = refl;
      answerable = refl;
    }

bare_let_go : (seed : List ℕ) (p deal : ℕ) (name numbers head : List ℕ) → head ≡ head_of (LetGo (record { peer = p; deal = deal; name = name; slots = numbers })) → in_grammar (LetGo (record { peer = p; deal = deal; name = name; slots = numbers })) ≡ true → fits_widths (LetGo (record { peer = p; deal = deal; name = name; slots = numbers })) ≡ true → IsBare seed (LetGo (record { peer = p; deal = deal; name = name; slots = numbers })) head
bare_let_go seed p deal name numbers head is g f = record {
  read = record { grammar = g; widths = f; stands = record { head_is = is; body_is = refl } };
  reply = refl;
  answerable = refl;
}

bare_put_back : (seed : List ℕ) (p deal : ℕ) (name numbers : List ℕ) (body : Option (List ℕ)) (head : List ℕ) → head ≡ head_of (LetGoBack (record { peer = p; deal = deal; name = name; slots = numbers; body = body })) → in_grammar (LetGoBack (record { peer = p; deal = deal; name = name; slots = numbers; body = body })) ≡ true → fits_widths (LetGoBack (record { peer = p; deal = deal; name = name; slots = numbers; body = body })) ≡ true → IsBare seed (LetGoBack (record { peer = p; deal = deal; name = name; slots = numbers; body = body })) head
bare_put_back seed p deal name numbers body head is g f = record {
  read = record {
    grammar = (and_parts (body_fits (512 * length numbers) body) (numbers_listed numbers) g).1;
    widths = rw ((and_parts (is_u32 p && is_u64 deal && is_digest name && list_all is_u32 numbers) (are_bytes body) f).0) refl;
    stands = record { head_is = is; body_is = refl };
  };
  reply = refl;
  answerable = refl;
}

bare_replaced : (seed : List ℕ) (p deal slot place home : ℕ) (body : Option (List ℕ)) (head : List ℕ) → head ≡ head_of (Replaced (record { peer = p; deal = deal; slot = slot; place = place; home = home; body = body })) → fits_widths (Replaced (record { peer = p; deal = deal; slot = slot; place = place; home = home; body = body })) ≡ true → IsBare seed (Replaced (record { peer = p; deal = deal; slot = slot; place = place; home = home; body = body })) head
bare_replaced seed p deal slot place home body head is f = record {
  read = record {
    grammar = refl;
    widths = rw ((and_parts (is_u32 p && is_u64 deal && is_u32 slot && is_u8 place && is_u32 home) (are_bytes body) f).0) refl;
    stands = record { head_is = is; body_is = refl };
  };
  reply = refl;
  answerable = refl;
}

is_bare : (seed : List ℕ) (c : Change) (head : List ℕ) → head ≡ head_of c → in_grammar c ≡ true → fits_widths c ≡ true → IsAnswered c → IsBare seed c head
is_bare seed (TookFresh x) head is g f a = bare_fresh seed x.peer x.deal x.name x.first x.len x.new x.body head is g f a
is_bare seed (TookSwap x) head is g f a = bare_swap seed x.peer x.deal x.name x.slots x.len x.new x.body head is g f
is_bare seed (LetGo x) head is g f a = bare_let_go seed x.peer x.deal x.name x.slots head is g f
is_bare seed (LetGoBack x) head is g f a = bare_put_back seed x.peer x.deal x.name x.slots x.body head is g f
is_bare seed (Replaced x) head is g f a = bare_replaced seed x.peer x.deal x.slot x.place x.home x.body head is f
is_bare seed (Refused x) head is g f a = bare_refused seed x.peer x.deal x.why x.detail head is f a
is_bare seed _ head is g f a = absurd a

-- so what the head is read as has the same answer, and has one
pub answers_as : (one : OneChangeEach) (seed : List ℕ) (c : Change) (head : List ℕ) (o : Option Frame) → head ≡ head_of c → in_grammar c ≡ true → fits_widths c ≡ true → IsAnswered c → IsAnswerOf o seed head → o ≡ Some (reply_of seed c)
answers_as one seed c head None is g f a answers =
    let bare_is = is_bare seed c head is g f a in
    absurd (false≢true (sym (answers (without_body c) bare_is.read) ∙ bare_is.answerable))
answers_as one seed c head (Some frame) is g f a answers =
    let bare_is = is_bare seed c head is g f a in
    let d = answers.0 in
    let same : d ≡ without_body c = one d (without_body c) head None answers.1.grammar bare_is.read.grammar answers.1.widths bare_is.read.widths answers.1.stands bare_is.read.stands in
    ap (λ (x : Frame). Some x) (answers.2 ∙ ap (reply_of seed) same ∙ bare_is.reply)

-- what was made of the change that a head is read as answers it
pub answer_of_read : (one : OneChangeEach) (seed : List ℕ) (c : Change) (head : List ℕ) (o : Option Frame) → IsRead c head None → o ≡ cond (is_answerable c) (Some (reply_of seed c)) None → IsAnswerOf o seed head
answer_of_read one seed c head o read is = by_cases (is_answerable c)
    (λ k. subst (λ (x : Option Frame). IsAnswerOf x seed head) (sym (is ∙ ap (λ b. cond b (Some (reply_of seed c)) None) k)) (c, read, refl))
    (λ k. subst (λ (x : Option Frame). IsAnswerOf x seed head) (sym (is ∙ ap (λ b. cond b (Some (reply_of seed c)) None) k))
    (λ d also. let same : d ≡ c = one d c head None also.grammar read.grammar also.widths read.widths also.stands read.stands in ap is_answerable same ∙ k))

-- the record at the place of a change is the change's
decoded_at : (h : List Change) (es : List Entry) (k : ℕ) (c : Change) → AreDecoded h es → slice_get h k ≡ Some c → (e : Entry) × (slice_get es k ≡ Some e) × IsRecord c e.head e.body
decoded_at [] es k c are is = absurd (cc)
decoded_at (d ∷ h) [] k c are is = absurd are
decoded_at (d ∷ h) (e ∷ es) zero c are is = (e, refl, subst (λ (x : Change). IsRecord x e.head e.body) (some_same d c is) are.0)
  where
    some_same : (a b : Change) → Some a ≡ Some b → a ≡ b
    some_same a b e = cc
decoded_at (d ∷ h) (e ∷ es) (suc k) c are is = decoded_at h es k c are.1 is

-- what was read at the place of a peer's last change answers that change
pub answer_is : (one : OneChangeEach) (h less : List Change) (es : List Entry) (seed : List ℕ) (p : ℕ) (o : Option Frame) (number change : ℕ) → IsLess h less → AreDecoded less es → LastIs h number change
    → IfSome (slice_get es change) (λ e. IsAnswerOf o seed e.head) → (c : Change) × (slice_get h change ≡ Some c) × (o ≡ Some (reply_of seed c))
answer_is one h less es seed p o number change is_less are last answers =
    let rest = less_at h less change last.c is_less last.there in
    let d = decoded_at less es change rest.0 are rest.1 in
    let here = at_some (slice_get es change) (λ e. IsAnswerOf o seed e.head) d.0 answers d.1 in
    (last.c, last.there, answers_as one seed last.c d.0.head o (d.2.head_is ∙ head_less last.c rest.0 rest.2) last.grammar last.fit last.answered here)
