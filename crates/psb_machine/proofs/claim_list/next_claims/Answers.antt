use Rattle.std.proofs.Common.{◌≡◌, ◌+◌, ◌++◌, [], ◌∷◌, List, ℕ, ap, sym, ◌∙◌, arith}
use Rattle.psb_bytes.specs.declared.lists.SlotClaim.{SlotClaim}
use Rattle.psb_digest.specs.Claims.{claim}
use Rattle.psb_machine.specs.Replies.{claims_from}
use Rattle.psb_machine.proofs.ClaimRuns.{one_claim_more}
use Rattle.psb_machine.proofs.claim_list.next_claims.Goals as goal

pub next_claim-bytes-requires : goal.next_claim-bytes-requires
next_claim-bytes-requires c = omega (arith, c.loop-i.invariant.issued, c.loop-i-test.true, c.requires.issued)

pub loop-i-preserved : goal.loop-i-preserved
loop-i-preserved c =
    let seed = c.args.source.now.seed in
    let slot = c.args.first + c.loop-i.i in
    let made : c.next_claim-bytes.result ≡ claim seed slot = c.next_claim-bytes.ensures.bytes ∙ ap (λ (s : List ℕ). claim s slot) c.loop-i.invariant.seed in
    record {
      list =
          c.in_ok-push.ensures.items
          ∙ ap (λ (l : List SlotClaim). l ++ record { slot = slot; bytes = c.next_claim-bytes.result } ∷ []) c.loop-i.invariant.list
          ∙ ap (λ (b : List ℕ). claims_from seed c.args.first c.loop-i.i ++ record { slot = slot; bytes = b } ∷ []) made
          ∙ sym (one_claim_more seed c.args.first c.loop-i.i);
      seed = c.next_claim-bytes.ensures.seed ∙ c.loop-i.invariant.seed;
      issued = c.next_claim-bytes.ensures.issued ∙ c.loop-i.invariant.issued;
    }
