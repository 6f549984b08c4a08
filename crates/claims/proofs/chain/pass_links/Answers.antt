use Rattle.std.proofs.Common.{◌≡◌, ◌+◌, ◌-◌, ◌*◌, ◌++◌, arith, refl, sym, ap, ◌∙◌}
use borrow.Rule.Slice.PartMut.{same_len_mid}
use Rattle.psb_digest.specs.Hashes.{sha}
use Rattle.psb_digest.specs.Claims.{link, links}
use Rattle.psb_digest.proofs.Chains.{link-next, link-written, links-whole}
use Rattle.claims.proofs.chain.pass_links.Goals as goal

pub loop-j-init : goal.loop-j-init
unfolding links
loop-j-init c = record {
  written = λ k at. refl;
  long = refl;
  at_hand = λ k at. let place : k ≡ k + 0 = omega arith in at ∙ ap (link c.args.secret.now) place;
}

pub loop-j-preserved : goal.loop-j-preserved
loop-j-preserved c =
    let secret = c.args.secret.now in
    let j = c.loop-j.j in
    let width : 32 * j + 32 - 32 * j ≡ 32 = omega arith in
    let copied = c.copy_from_slice.ensures.after ∙ c.next.view_is in
    record {
      written = λ k at. link-written secret c.loop-j.bytes c.copy_from_slice.new.self k j (32 * j + 32 - 32 * j) (omega (arith, c.loop-j.invariant.long)) width (copied ∙ c.loop-j.invariant.at_hand k at) (c.loop-j.invariant.written k at);
      long = same_len_mid (32 * j) (32 * j + 32 - 32 * j) c.loop-j.bytes c.copy_from_slice.new.self c.copy_from_slice.ensures.len ∙ c.loop-j.invariant.long;
      at_hand = λ k at.
          let place : k + j + 1 ≡ k + (j + 1) = omega arith in
          c.next-in-loop-j.view_is ∙ c.link_after.ensures ∙ ap (λ l. sha (secret ++ l)) (c.loop-j.invariant.at_hand k at) ∙ sym (link-next secret (k + j)) ∙ ap (link secret) place;
    }

pub returns-clause-links : goal.returns-clause-links
returns-clause-links c = λ k at. links-whole c.args.secret.now c.loop-j.bytes k c.loop-j.j c.loop-j.invariant.long (omega arith) (c.loop-j.invariant.written k at)

pub returns-clause-moved : goal.returns-clause-moved
returns-clause-moved c = λ k at.
    let place : k + c.loop-j.j ≡ k + 16 = omega arith in
    c.loop-j.invariant.at_hand k at ∙ ap (link c.args.secret.now) place
