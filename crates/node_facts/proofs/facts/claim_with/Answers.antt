use Rattle.std.proofs.Common.{◌≡◌, ℕ, List, sym, subst, rules}
use Rattle.claims.specs.Source.{HasNone, IsHome}
use Rattle.psb_machine.proofs.Homes.{home_below, home_past, none_below, none_wide}
use Rattle.node_facts.proofs.facts.claim_with.Goals as goal

pub returns-in_default-clause-claim : goal.returns-in_default-clause-claim
returns-in_default-clause-claim c = sym (none_wide c.args.claims.now.seed c.args.bytes.now c.args.issued (search rules))

pub returns-then-home-issued-clause-claim : goal.returns-then-home-issued-clause-claim
returns-then-home-issued-clause-claim c =
    let same : c.in-Ok.body.now ≡ c.args.bytes.now = search rules in
    let home : IsHome c.args.claims.now.seed c.in-Ok.body.now 0 c.args.claims.now.issued c.in-Some.home = search rules in
    sym (home_below c.args.claims.now.seed c.args.bytes.now c.args.issued c.args.claims.now.issued c.in-Some.home (subst (λ b. IsHome c.args.claims.now.seed b 0 c.args.claims.now.issued c.in-Some.home) same home) (search rules))

pub returns-else-home-issued-clause-claim : goal.returns-else-home-issued-clause-claim
returns-else-home-issued-clause-claim c =
    let same : c.in-Ok.body.now ≡ c.args.bytes.now = search rules in
    let home : IsHome c.args.claims.now.seed c.in-Ok.body.now 0 c.args.claims.now.issued c.in-Some.home = search rules in
    sym (home_past c.args.claims.now.seed c.args.bytes.now c.args.issued c.args.claims.now.issued c.in-Some.home (subst (λ b. IsHome c.args.claims.now.seed b 0 c.args.claims.now.issued c.in-Some.home) same home) (search rules))

pub returns-in-None-clause-claim : goal.returns-in-None-clause-claim
returns-in-None-clause-claim c =
    let same : c.in-Ok.body.now ≡ c.args.bytes.now = search rules in
    let walked = c.walk_to.new.claims in
    let none = subst (λ (s : List ℕ). HasNone s c.in-Ok.body.now 0 walked.issued) c.walk_to.ensures.seed c.in-None.ensures.none in
    sym (none_below c.args.claims.now.seed c.args.bytes.now c.args.issued walked.issued (subst (λ (b : List ℕ). HasNone c.args.claims.now.seed b 0 walked.issued) same none) (search rules))
