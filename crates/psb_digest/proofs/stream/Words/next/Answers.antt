use Rattle.std.proofs.Common.{ap, ◌∙◌}
use Rattle.rand_chacha.specs.ChaCha.{word_at}
use Rattle.psb_digest.specs.Words.{word}
use Rattle.psb_digest.proofs.stream.Words.next.Goals as goal

pub returns-clause-value : goal.returns-clause-value
unfolding word
returns-clause-value c =
    let generator = c.self.inside.generator in
    rw (← c.self.view_is) (ap (λ p. p.0) c.next_word.ensures ∙ ap (λ key. word_at 10 key generator.stream generator.word_pos) c.self.invariant)
