-- A row that comes again is not there yet, and all of them have room.
use Rattle.std.proofs.Common.{◌≡◌, ◌∷◌, [], length, take, sum_by, sym, ap, ◌∙◌, arith}
use Rattle.std.proofs.lemmas.List.{length-append}
use Rattle.std.proofs.lemmas.List.Sums.{sum_by-append}
use Rattle.psb_model.specs.declared.entries.OutEntry.{OutEntry}
use Rattle.psb_model.specs.Words.{has, with_one, with_all}
use Rattle.psb_model.specs.State.{out_key, out_size}
use Rattle.psb_model.specs.Effects.{out_again}
use Rattle.peer_account.specs.View.{out_anew}
use Rattle.peer_lists.proofs.Trees.{with_more}
use Rattle.peer_account.proofs.Probed.{anew_absent, anew_room, anew_units, anew_one, anew_none}
use Rattle.peer_account.proofs.account.probing.put_again.Goals as goal
use Rattle.peer_account.proofs.account.probing.put_again.Goals.{then-is_whole_listed, else-is_whole_listed}

pub insert-requires-clause-room : goal.insert-requires-clause-room
insert-requires-clause-room c = omega (arith, c.requires.room, c.loop-row.invariant.room, anew_room c.args.objects.now c.args.rows.now c.loop-row.row-index c.row-item.result c.loop-row-test.true c.row-item.is (sym c.is_whole_listed.ensures ∙ c.if-is_whole_listed.true))

pub insert-requires-clause-absent : goal.insert-requires-clause-absent
insert-requires-clause-absent c =
    ap (λ (e : OutEntry). has out_key c.loop-row.outs.items e.object) c.out_again.ensures
    ∙ anew_absent c.args.objects.now c.args.rows.now c.loop-row.row-index c.row-item.result c.args.outs.now.items c.loop-row.outs.items c.requires.once c.loop-row-test.true c.row-item.is c.loop-row.invariant.items

pub overflow_add-units : goal.overflow_add-units
overflow_add-units c = omega (arith, c.requires.small, c.loop-row.invariant.units, anew_units c.args.objects.now c.args.rows.now c.loop-row.row-index c.row-item.result c.loop-row-test.true c.row-item.is (sym c.is_whole_listed.ensures ∙ c.if-is_whole_listed.true))

pub loop-row-preserved : goal.loop-row-preserved
loop-row-preserved c =
    let os = c.args.objects.now in
    let rows = c.args.rows.now in
    let i = c.loop-row.row-index in
    let d = c.row-item.result in
    let outs = c.args.outs.now.items in
    let was = c.loop-row.invariant in
    elim c.if-is_whole_listed.branch [
      | then-is_whole_listed w ↦
          let more = anew_one os rows i d c.loop-row-test.true c.row-item.is (sym c.is_whole_listed.ensures ∙ w.if-is_whole_listed.true) in
          record {
            items = (λ j. (w.outs-is j).items) ∙ w.insert.ensures.items ∙ (λ j. with_one out_key (w.out_again.ensures j) (was.items j)) ∙ sym (with_more out_key (out_anew os (take i rows)) (out_again d ∷ []) outs) ∙ ap (λ es. with_all out_key es outs) (sym more);
            units = w.units-is ∙ omega (arith, was.units, ap (sum_by out_size) more, sum_by-append out_size (out_anew os (take i rows)) (out_again d ∷ []));
            room = let room_is : c.if-is_whole_listed.outs.room ≡ w.insert.new.self.room = λ j. (w.outs-is j).room in omega (arith, room_is, was.room, w.insert.ensures.room, ap length more, length-append (out_anew os (take i rows)) (out_again d ∷ []));
          }
      | else-is_whole_listed w ↦
          let none = anew_none os rows i d c.loop-row-test.true c.row-item.is (sym c.is_whole_listed.ensures ∙ w.if-is_whole_listed.false) in
          record {
            items = (λ j. (w.outs-is j).items) ∙ was.items ∙ ap (λ es. with_all out_key es outs) (sym none);
            units = w.units-is ∙ was.units ∙ ap (sum_by out_size) (sym none);
            room = let room_is : c.if-is_whole_listed.outs.room ≡ c.loop-row.outs.room = λ j. (w.outs-is j).room in omega (arith, room_is, was.room, ap length none);
          }
    ]
