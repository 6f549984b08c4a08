use Rattle.std.proofs.Common.{◌≡◌, ◌∙◌, get_or, take, ap}
use Rattle.abstracts.specs.Least.{under_salt, put_in}
use Rattle.abstracts.proofs.Puts.{put_next}
use Rattle.abstracts.proofs.least.abstract_of.Goals as goal

pub loop-name-preserved : goal.loop-name-preserved
loop-name-preserved c =
    let salt = c.args.salt.now in
    let names = c.args.names.now in
    let item = c.name-item.result in
    let new : c.under_salt.result ≡ under_salt salt (get_or names c.loop-name.name-index item) = c.under_salt.ensures ∙ ap (under_salt salt) c.name-item.is in
    c.in_ok-keep.ensures ∙ ap (λ x. take c.args.k (put_in x c.loop-name.least.items)) new
    ∙ put_next salt c.args.k names c.loop-name.name-index item c.loop-name.least.items c.loop-name-test.true c.loop-name.invariant
