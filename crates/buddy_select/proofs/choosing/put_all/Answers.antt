use Rattle.std.proofs.Common.{◌≡◌, ◌+◌, [], take, get_or, sym, ap, subst, ◌∙◌}
use Rattle.std.proofs.lemmas.List.{take_more}
use Rattle.std.specs.List.Sorted.{IsPermutation}
use Rattle.buddy_select.specs.Order.{put_in, put_all}
use Rattle.buddy_select.proofs.Ordering.{put_last, more_moved}
use Rattle.buddy_select.proofs.choosing.put_all.Goals as goal

pub loop-candidate-preserved : goal.loop-candidate-preserved
loop-candidate-preserved c =
    let all = c.args.candidates.now in
    let i = c.loop-candidate.candidate-index in
    let item = c.candidate-item.result in
    let l = c.loop-candidate.ordered.items in
    let put : c.put.new.ordered.items ≡ put_in (get_or all i item) l = c.in_ok-put.ensures ∙ ap (λ x. put_in x l) c.candidate-item.is in
    record {
      order = put ∙ ap (put_in (get_or all i item)) c.loop-candidate.invariant.order ∙ sym (put_last [] (take i all) (get_or all i item)) ∙ ap (put_all []) (sym (take_more all i item c.loop-candidate-test.true));
      all = subst (IsPermutation (take (i + 1) all)) (sym put) (more_moved all i item l c.loop-candidate-test.true c.loop-candidate.invariant.all);
    }
