-- A reply that fits the pending deal makes a change that may be made.
use Rattle.std.proofs.Common.{◌≡◌, ℕ, ◌*◌, ◌≤◌, Bool, cond, None, true, ◌==◌, nat_lt, List, [], ◌∷◌, ◌++◌, length, Some, refl, sym, ap, ◌∙◌, subst, arith}
use Rattle.std.proofs.lemmas.Bool.{eq-eqb}
use Rattle.std.proofs.lemmas.List.{length-map}
use Rattle.psb_bytes.specs.declared.lists.SlotClaim.{SlotClaim}
use Rattle.psb_model.specs.Words.{all_of}
use Rattle.psb_model.specs.State.{State, is_peer}
use Rattle.psb_model.specs.Grammar.{is_u32, is_u64}
use Rattle.psb_model.specs.Conditions.{peer_of, of_a_peer, is_begun, tests, allowed}
use Rattle.psb_model.specs.History.{state}
use Rattle.psb_model.specs.Needed.{brings_right, no_slots, IsValid}
use Rattle.psb_model.specs.declared.change.Change.{Change}
use Rattle.psb_model.specs.declared.change.Change.TheVariants.{Settled}
use Rattle.psb_model.proofs.ByObject.{by_cases}
use Rattle.model_laws.proofs.Bodies.{valid_snoc}
use Rattle.psb_machine.specs.Deals.{slots_of, claims_joined}
use Rattle.psb_machine.specs.Settling.{Reply, Accepts, Refuses, answers_deal, settle}
use Rattle.psb_machine.specs.Machine.{Situation}
use Rattle.psb_machine.specs.Judging.{ReplyFits}
use Rattle.psb_machine.proofs.Taken.{MayTake, begun_here, counted, joined_long, joined_bytes}

-- a change of a peer whose tests hold, after another change
allows_change : (s : State) (c : Change) → nat_lt 0 s.changes ≡ true → of_a_peer s (peer_of c) ≡ true → all_of (tests s c) ≡ true → allowed s c ≡ true
allows_change s c some peer passed = by_cases (is_begun c) (λ k. rw (k, peer, passed) refl) (λ k. rw (k, some, peer, passed) refl)

brings_settled : (p number : ℕ) (numbers bytes : List ℕ) → brings_right (Settled (record { peer = p; deal = number; slots = numbers; body = Some bytes })) ≡ true
brings_settled p number numbers bytes = by_cases (no_slots numbers) (λ k. rw k refl) (λ k. rw k refl)

pub reply_may : (h : List Change) (p number : ℕ) (reply : Reply) → 1 ≤ length h → is_peer (state h) p ≡ true → is_u32 p ≡ true → is_u64 number ≡ true → ReplyFits reply
    → all_of (tests (state h) (answers_deal p number reply)) ≡ true → MayTake (state h) (answers_deal p number reply)
reply_may h p number (Accepts claims) some peer p_fits number_fits f passed =
    let numbers = slots_of claims in
    let long : (length (claims_joined claims) == 512 * length numbers) ≡ true =
    eq-eqb (length (claims_joined claims)) (512 * length numbers) (omega (arith, joined_long claims f.1, length-map claims (λ (c : SlotClaim). c.slot))) in
    record {
      grammar = rw (long, f.0.ascend, counted numbers f.0) refl;
      may = allows_change (state h) (answers_deal p number (Accepts claims)) (begun_here h some) peer passed;
      widths = rw (p_fits, number_fits, f.0.widths, joined_bytes claims f.1) refl;
      brings = brings_settled p number numbers (claims_joined claims);
      answerable = refl;
    }
reply_may h p number (Refuses why detail) some peer p_fits number_fits f passed = record {
  grammar = refl;
  may = allows_change (state h) (answers_deal p number (Refuses why detail)) (begun_here h some) peer passed;
  widths = rw (p_fits, number_fits, f.0, f.1) refl;
  brings = refl;
  answerable = refl;
}

-- so does one that makes a change at all
pub settle_may : (h : List Change) (p number : ℕ) (reply : Reply) (c : Change) → 1 ≤ length h → is_peer (state h) p ≡ true → is_u32 p ≡ true → is_u64 number ≡ true → ReplyFits reply → settle (state h) p number reply ≡ Some c → MayTake (state h) c
settle_may h p number reply c some peer p_fits number_fits f makes =
    let made = answers_deal p number reply in
    by_cases (all_of (tests (state h) made))
    (λ k. let here : Some made ≡ Some c = ap (λ (b : Bool). cond b (Some made) None) (sym k) ∙ makes in
    let same : made ≡ c = cc (here) in
    subst (MayTake (state h)) same (reply_may h p number reply some peer p_fits number_fits f k))
    (λ k. let here : None ≡ Some c = ap (λ (b : Bool). cond b (Some made) None) (sym k) ∙ makes in absurd (cc (here)))

pub reply_valid : (n : Situation) (p number : ℕ) (reply : Reply) (c : Change) → IsValid n.history → is_peer (state n.history) p ≡ true → is_u32 p ≡ true → is_u64 number ≡ true → ReplyFits reply → settle (state n.history) p number reply ≡ Some c → IsValid (n.history ++ c ∷ [])
reply_valid n p number reply c v peer p_fits number_fits f made =
    let m = settle_may n.history p number reply c v.some peer p_fits number_fits f made in
    valid_snoc n.history c v m.grammar m.may m.widths m.brings
