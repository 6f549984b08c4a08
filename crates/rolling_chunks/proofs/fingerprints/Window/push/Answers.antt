use Rattle.std.proofs.Common.{◌<◌, subst, sym}
use Rattle.rolling_chunks.specs.Fingerprints.{modulus}
use Rattle.rolling_chunks.proofs.Rolling.{IsRolling-pushed, fingerprint-below}
use Rattle.rolling_chunks.proofs.fingerprints.Window.push.Goals as goal

pub rolled-self-inside-requires : goal.rolled-self-inside-requires
rolled-self-inside-requires c =
    subst (λ v. v < modulus) (sym c.self.invariant.value_is) (fingerprint-below c.self.inside.bytes.items)

pub invariant_of-self : goal.invariant_of-self
invariant_of-self c =
    IsRolling-pushed c.self.inside.bytes c.push_back-oldest.new.self c.self.inside.value c.args.byte c.rolled-self-inside.result c.push_back-oldest.result c.self.invariant c.push_back-oldest.ensures.items c.push_back-oldest.ensures.value c.rolled-self-inside.ensures

pub returns-clause-value : goal.returns-clause-value
returns-clause-value c =
    let r = IsRolling-pushed c.self.inside.bytes c.push_back-oldest.new.self c.self.inside.value c.args.byte c.rolled-self-inside.result c.push_back-oldest.result c.self.invariant c.push_back-oldest.ensures.items c.push_back-oldest.ensures.value c.rolled-self-inside.ensures in
    r.value_is
