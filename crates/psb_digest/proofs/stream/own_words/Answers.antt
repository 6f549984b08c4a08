use Rattle.std.proofs.Common.{ℕ, List, ap, ◌∙◌}
use Rattle.psb_digest.specs.Words.{Reader, words_key}
use Rattle.psb_digest.proofs.stream.own_words.Goals as goal

pub returns : goal.returns
unfolding words_key
returns c =
    let key = c.sha_two.ensures ∙ ap words_key c.seed.view_is in
    c.new.ensures ∙ ap (λ (k : List ℕ). let start : Reader = record { key = k; stream = c.args.change; place = 0 } in start) key
