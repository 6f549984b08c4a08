use Rattle.std.proofs.Common.{◌≡◌, ◌+◌, ◌-◌, ◌*◌, ◌++◌, length, arith, refl, sym, ap, ◌∙◌}
use Rattle.psb_digest.specs.Hashes.{sha}
use Rattle.psb_digest.specs.Claims.{link, links}
use Rattle.psb_digest.proofs.Chains.{link-next, length-link, length-put_mid, link-written, links-whole}
use Rattle.psb_digest.proofs.claims.links.Goals as goal
use Rattle.psb_digest.proofs.claims.links.Goals.{then-j-gt0, else-j-gt0}

pub loop-j-init : goal.loop-j-init
unfolding links
loop-j-init c =
    let start : c.args.k ≡ c.args.k + (0 - 1) = omega arith in
    record { written = refl; long = refl; at_hand = c.link-next.ensures ∙ ap (link c.args.secret.now) start }

pub loop-j-preserved : goal.loop-j-preserved
loop-j-preserved c =
    let secret = c.args.secret.now in
    let k = c.args.k in
    let j = c.loop-j.j in
    let at : c.if-j-gt0.next ≡ link secret (k + j) =
    elim c.if-j-gt0.branch [
      | then-j-gt0 w ↦
          let place : k + (j - 1) + 1 ≡ k + j = omega arith in
          w.next-is ∙ w.link_after-next.ensures ∙ ap (λ l. sha (secret ++ l)) c.loop-j.invariant.at_hand ∙ sym (link-next secret (k + (j - 1))) ∙ ap (link secret) place
      | else-j-gt0 w ↦
          let place : k + (j - 1) ≡ k + j = omega arith in
          w.next-is ∙ c.loop-j.invariant.at_hand ∙ ap (link secret) place
    ] in
    let width : 32 * j + 32 - 32 * j ≡ 32 = omega arith in
    let last : c.copy_from_slice.new.self ≡ link secret (k + j) = c.copy_from_slice.ensures.after ∙ c.next.view_is ∙ at in
    let place : k + j ≡ k + (j + 1 - 1) = omega arith in
    record {
      written = link-written secret c.loop-j.bytes c.copy_from_slice.new.self k j (32 * j + 32 - 32 * j) (omega arith) width last c.loop-j.invariant.written;
      long = length-put_mid (32 * j) (32 * j + 32 - 32 * j) c.loop-j.bytes c.copy_from_slice.new.self (omega (arith, c.loop-j.invariant.long)) (ap length last ∙ length-link secret (k + j) ∙ sym width) ∙ c.loop-j.invariant.long;
      at_hand = at ∙ ap (link secret) place;
    }

pub returns : goal.returns
returns c = links-whole c.args.secret.now c.loop-j.bytes c.args.k c.loop-j.j c.loop-j.invariant.long (omega arith) c.loop-j.invariant.written
