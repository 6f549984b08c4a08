use Rattle.std.proofs.Common.{◌≡◌}
use Rattle.psb_digest.specs.Words.{words_key}
use Rattle.asked_objects.proofs.drawing.drawn_word.Given as goal

abbrev pub invariant-loop : goal.invariant-loop
invariant-loop l = l.words ≡ record { key = words_key l.seed; stream = l.change; place = l.counter }
