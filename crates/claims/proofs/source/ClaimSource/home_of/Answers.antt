use Rattle.std.proofs.Common.{IfSome, IfNone, subst}
use Rattle.claims.specs.Source.{Source, HasNone, IsHome}
use Rattle.claims.proofs.Homes.{home_wider, home_ahead, none_ahead}
use Rattle.claims.proofs.source.ClaimSource.home_of.Goals as goal

pub returns-in-Some-clause-some : goal.returns-in-Some-clause-some
returns-in-Some-clause-some c =
    let w = c.self.inside.walk in
    let body = c.args.body.now in
    subst (λ (s : Source). IsHome s.seed body 0 s.issued c.in-Some.home) c.self.view_is (home_wider w.seed body w.count c.self.inside.issued c.in-Some.home c.self.invariant c.in-Some.ensures.some)

pub returns-in-None-clause-some : goal.returns-in-None-clause-some
returns-in-None-clause-some c =
    let w = c.self.inside.walk in
    let body = c.args.body.now in
    subst (λ (s : Source). IfSome c.home_ahead.result (λ i. IsHome s.seed body 0 s.issued i)) c.self.view_is (home_ahead w.seed body w.count c.self.inside.issued c.home_ahead.result c.in-None.ensures.none c.home_ahead.ensures.some)

pub returns-in-None-clause-none : goal.returns-in-None-clause-none
returns-in-None-clause-none c =
    let w = c.self.inside.walk in
    let body = c.args.body.now in
    subst (λ (s : Source). IfNone c.home_ahead.result (HasNone s.seed body 0 s.issued)) c.self.view_is (none_ahead w.seed body w.count c.self.inside.issued c.home_ahead.result c.in-None.ensures.none c.home_ahead.ensures.none)
