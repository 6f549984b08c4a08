use Rattle.std.proofs.Common.{◌≡◌, ◌+◌, ◌++◌, [], ◌∷◌, List, ℕ, ap, sym, ◌∙◌, arith}
use Rattle.claims.specs.Source.{Run}
use Rattle.psb_bytes.specs.declared.lists.SlotClaim.{SlotClaim}
use Rattle.psb_digest.specs.Claims.{claim}
use Rattle.psb_machine.specs.Replies.{claims_from}
use Rattle.psb_machine.proofs.ClaimRuns.{one_claim_more}
use Rattle.psb_machine.proofs.claim_list.known_claims.Goals as goal

pub next_claim-requires : goal.next_claim-requires
next_claim-requires c =
    let run = c.loop-i.invariant.run in
    omega (arith, ap (λ (r : Run). r.number) run, ap (λ (r : Run). r.end) run, c.loop-i-test.true, c.requires.issued)

pub loop-i-preserved : goal.loop-i-preserved
loop-i-preserved c =
    let seed = c.args.source.now.seed in
    let slot = c.args.first + c.loop-i.i in
    let run = c.loop-i.invariant.run in
    let made : c.next_claim.result ≡ claim seed slot = c.next_claim.ensures.claim ∙ ap (λ (r : Run). claim r.seed r.number) run in
    let next : slot + 1 ≡ c.args.first + (c.loop-i.i + 1) = omega arith in
    record {
      list =
          c.in_ok-push.ensures.items
          ∙ ap (λ (l : List SlotClaim). l ++ record { slot = slot; bytes = c.next_claim.result } ∷ []) c.loop-i.invariant.list
          ∙ ap (λ (b : List ℕ). claims_from seed c.args.first c.loop-i.i ++ record { slot = slot; bytes = b } ∷ []) made
          ∙ sym (one_claim_more seed c.args.first c.loop-i.i);
      run = c.next_claim.ensures.moved ∙ ap (λ (r : Run). record r { number = r.number + 1 }) run ∙ ap (λ (n : ℕ). record { seed = seed; number = n; end = c.args.source.now.issued }) next;
    }
