use Rattle.std.proofs.Common.{rules, ◌≡◌, ◌<◌, ◌^◌, Option, Some, None, IfSome, sym, ◌∙◌, subst, refl}
use Rattle.psb_model.specs.declared.change.Change.{Change}
use Rattle.peer_states.specs.PeerStates.{state_of}
use Rattle.node_core.specs.Reacting.{MayCome}
use Rattle.node_core.specs.Stored.{Knows}
use Rattle.node_core.proofs.Ticking.{follows_so}
use Rattle.node_core.proofs.Committing.{same_knows, same_counted, same_then, stored_room, worked_still}
use Rattle.node_core.proofs.Choices.{failure_follows, choice_follows, deal_follows, deal_follows_so, asking_follows, asking_follows_so, choice_may_come, some_may_back, asks_back}
use Rattle.node_core.proofs.node.Node.follow_rules.Goals as goal

pub returns-in-Some-2-clause-exact : goal.returns-in-Some-2-clause-exact
returns-in-Some-2-clause-exact g c = λ tells n k s.
    let old = c.args.self.now in
    let x = c.in-Some.at in
    let here : state_of old.states.items c.args.peer ≡ Some x = search rules in
    failure_follows c.made.result old n c.args.peer x c.in-Some-2.change k here (sym c.in-Some-2.is ∙ c.in_ok-change.ensures.rule n k) c.made.ensures.change c.made.ensures.dropped (c.made.ensures.out ∙ c.no_letter.ensures)

pub returns-in-Some-2-clause-unread : goal.returns-in-Some-2-clause-unread
returns-in-Some-2-clause-unread g c = λ n k unread.
    let old = c.args.self.now in
    let x = c.in-Some.at in
    let here : state_of old.states.items c.args.peer ≡ Some x = search rules in
    failure_follows c.made.result old n c.args.peer x c.in-Some-2.change k here (sym c.in-Some-2.is ∙ c.in_ok-change.ensures.rule n k) c.made.ensures.change c.made.ensures.dropped (c.made.ensures.out ∙ c.no_letter.ensures)

pub returns-in-Some-2-clause-so : goal.returns-in-Some-2-clause-so
returns-in-Some-2-clause-so g c = λ n k.
    let old = c.args.self.now in
    let x = c.in-Some.at in
    let here : state_of old.states.items c.args.peer ≡ Some x = search rules in
    follows_so c.made.result n c.args.peer (failure_follows c.made.result old n c.args.peer x c.in-Some-2.change k here (sym c.in-Some-2.is ∙ c.in_ok-change.ensures.rule n k) c.made.ensures.change c.made.ensures.dropped (c.made.ensures.out ∙ c.no_letter.ensures))

pub returns-in-Some-2-clause-may : goal.returns-in-Some-2-clause-may
returns-in-Some-2-clause-may g c = subst (λ (o : Option Change). IfSome o (MayCome Knows c.args.self.now)) (c.in-Some-2.is ∙ sym c.made.ensures.change) c.in_ok-change.ensures.may

pub returns-in-Some-3-clause-exact : goal.returns-in-Some-3-clause-exact
returns-in-Some-3-clause-exact g c = λ tells n k s.
    let old = c.args.self.now in
    let x = c.in-Some.at in
    let here : state_of old.states.items c.args.peer ≡ Some x = search rules in
    let mid = c.work_out_question.new.self in
    let same = c.work_out_question.ensures.same in
    let found = subst (λ l. state_of l.items c.args.peer ≡ Some x) (sym same.states) here in
    let late : c.in_ok-change.field-0 ≡ None = search rules in
    choice_follows c.made-in-Some-3.result mid n c.args.peer x c.in-Some-3.change (same_knows old mid n same k) found (sym late ∙ c.in_ok-change.ensures.rule n k)
    (λ m settings known present. sym c.in-Some-3.is ∙ c.in_ok-change-2.ensures.choice m settings known present)
    c.made-in-Some-3.ensures.change c.made-in-Some-3.ensures.dropped (c.made-in-Some-3.ensures.out ∙ c.no_letter-in-Some-3.ensures)

pub returns-in-Some-3-clause-unread : goal.returns-in-Some-3-clause-unread
returns-in-Some-3-clause-unread g c = λ n k unread.
    let old = c.args.self.now in
    let x = c.in-Some.at in
    let here : state_of old.states.items c.args.peer ≡ Some x = search rules in
    let mid = c.work_out_question.new.self in
    let same = c.work_out_question.ensures.same in
    let found = subst (λ l. state_of l.items c.args.peer ≡ Some x) (sym same.states) here in
    let late : c.in_ok-change.field-0 ≡ None = search rules in
    choice_follows c.made-in-Some-3.result mid n c.args.peer x c.in-Some-3.change (same_knows old mid n same k) found (sym late ∙ c.in_ok-change.ensures.rule n k)
    (λ m settings known present. sym c.in-Some-3.is ∙ c.in_ok-change-2.ensures.choice m settings known present)
    c.made-in-Some-3.ensures.change c.made-in-Some-3.ensures.dropped (c.made-in-Some-3.ensures.out ∙ c.no_letter-in-Some-3.ensures)

pub returns-in-Some-3-clause-so : goal.returns-in-Some-3-clause-so
returns-in-Some-3-clause-so g c = λ n k.
    let old = c.args.self.now in
    let x = c.in-Some.at in
    let here : state_of old.states.items c.args.peer ≡ Some x = search rules in
    let mid = c.work_out_question.new.self in
    let same = c.work_out_question.ensures.same in
    let found = subst (λ l. state_of l.items c.args.peer ≡ Some x) (sym same.states) here in
    let late : c.in_ok-change.field-0 ≡ None = search rules in
    follows_so c.made-in-Some-3.result n c.args.peer (
    choice_follows c.made-in-Some-3.result mid n c.args.peer x c.in-Some-3.change (same_knows old mid n same k) found (sym late ∙ c.in_ok-change.ensures.rule n k)
    (λ m settings known present. sym c.in-Some-3.is ∙ c.in_ok-change-2.ensures.choice m settings known present)
    c.made-in-Some-3.ensures.change c.made-in-Some-3.ensures.dropped (c.made-in-Some-3.ensures.out ∙ c.no_letter-in-Some-3.ensures))

pub returns-in-Some-3-clause-may : goal.returns-in-Some-3-clause-may
returns-in-Some-3-clause-may g c =
    let old = c.args.self.now in
    let x = c.in-Some.at in
    let here : state_of old.states.items c.args.peer ≡ Some x = search rules in
    let mid = c.work_out_question.new.self in
    let same = c.work_out_question.ensures.same in
    let n = c.requires.known.0 in
    some_may_back old mid (Some c.in-Some-3.change) c.made-in-Some-3.result.change same c.made-in-Some-3.ensures.change
    (choice_may_come mid c.args.peer c.in-Some-3.change (subst (λ l. l.state.changes < 2 ^ 62) (sym same.ledger) c.requires.few) (n, same_knows old mid n same c.requires.known.1)
    (λ m settings known present. sym c.in-Some-3.is ∙ c.in_ok-change-2.ensures.choice m settings known present))

pub deal_at-requires-clause-counted : goal.deal_at-requires-clause-counted
deal_at-requires-clause-counted g c = same_counted g.L.Log.size g.L.Log.keeps_body c.args.self.now c.work_out_question.new.self c.work_out_question.ensures.same c.requires.counted

pub returns-in-Err-clause-rests : goal.returns-in-Err-clause-rests
returns-in-Err-clause-rests g c = λ n k bare. c.in-Err.ensures.rests n (same_knows c.args.self.now c.work_out_question.new.self n c.work_out_question.ensures.same k) bare

pub returns-then-is_some-clause-rests : goal.returns-then-is_some-clause-rests
returns-then-is_some-clause-rests g c = λ n k bare. c.in-Ok.ensures.rests n (same_knows c.args.self.now c.work_out_question.new.self n c.work_out_question.ensures.same k) bare

pub returns-in_err-asking-clause-rests : goal.returns-in_err-asking-clause-rests
returns-in_err-asking-clause-rests g c = λ n k bare. c.in-Ok.ensures.rests n (same_knows c.args.self.now c.work_out_question.new.self n c.work_out_question.ensures.same k) bare

pub returns-in_err-with_asking-clause-rests : goal.returns-in_err-with_asking-clause-rests
returns-in_err-with_asking-clause-rests g c = λ n k bare. c.in-Ok.ensures.rests n (same_knows c.args.self.now c.work_out_question.new.self n c.work_out_question.ensures.same k) bare

pub returns-clause-rests : goal.returns-clause-rests
returns-clause-rests g c = λ n k bare. c.in-Ok.ensures.rests n (same_knows c.args.self.now c.work_out_question.new.self n c.work_out_question.ensures.same k) bare

pub returns-then-is_some-clause-exact : goal.returns-then-is_some-clause-exact
returns-then-is_some-clause-exact g c = λ tells n k s.
    let old = c.args.self.now in
    let x = c.in-Some.at in
    let here : state_of old.states.items c.args.peer ≡ Some x = search rules in
    let mid = c.work_out_question.new.self in
    let same = c.work_out_question.ensures.same in
    let found = subst (λ l. state_of l.items c.args.peer ≡ Some x) (sym same.states) here in
    let late : c.in_ok-change.field-0 ≡ None = search rules in
    let none : c.in_ok-change-2.field-0 ≡ None = search rules in
    let stored = stored_room g.L.Log.holds old mid n.history (g.D.Disk.view c.args.disk.now) (λ es i held. subst (λ l. g.L.Log.holds l es i) (sym same.log) held) s in
    deal_follows c.in-Ok.reaction mid n c.args.peer x (same_knows old mid n same k) found
    (sym late ∙ c.in_ok-change.ensures.rule n k) (λ m settings known present. sym none ∙ c.in_ok-change-2.ensures.choice m settings known present)
    (search rules) (c.in-Ok.ensures.exact tells n (same_knows old mid n same k) stored)

pub returns-then-is_some-clause-unread : goal.returns-then-is_some-clause-unread
returns-then-is_some-clause-unread g c = λ n k bare.
    let old = c.args.self.now in
    let x = c.in-Some.at in
    let here : state_of old.states.items c.args.peer ≡ Some x = search rules in
    let mid = c.work_out_question.new.self in
    let same = c.work_out_question.ensures.same in
    let found = subst (λ l. state_of l.items c.args.peer ≡ Some x) (sym same.states) here in
    let late : c.in_ok-change.field-0 ≡ None = search rules in
    let none : c.in_ok-change-2.field-0 ≡ None = search rules in
    deal_follows c.in-Ok.reaction mid n c.args.peer x (same_knows old mid n same k) found
    (sym late ∙ c.in_ok-change.ensures.rule n k) (λ m settings known present. sym none ∙ c.in_ok-change-2.ensures.choice m settings known present)
    (search rules) (c.in-Ok.ensures.unread n (same_knows old mid n same k) bare)

pub returns-then-is_some-clause-so : goal.returns-then-is_some-clause-so
returns-then-is_some-clause-so g c = λ n k.
    let old = c.args.self.now in
    let x = c.in-Some.at in
    let here : state_of old.states.items c.args.peer ≡ Some x = search rules in
    let mid = c.work_out_question.new.self in
    let same = c.work_out_question.ensures.same in
    let found = subst (λ l. state_of l.items c.args.peer ≡ Some x) (sym same.states) here in
    let late : c.in_ok-change.field-0 ≡ None = search rules in
    let none : c.in_ok-change-2.field-0 ≡ None = search rules in
    deal_follows_so c.in-Ok.reaction mid n c.args.peer x (same_knows old mid n same k) found
    (sym late ∙ c.in_ok-change.ensures.rule n k) (λ m settings known present. sym none ∙ c.in_ok-change-2.ensures.choice m settings known present)
    (search rules) (c.in-Ok.ensures.so n (same_knows old mid n same k))

pub returns-then-is_some-clause-may : goal.returns-then-is_some-clause-may
returns-then-is_some-clause-may g c = some_may_back c.args.self.now c.work_out_question.new.self c.in-Ok.reaction.change c.in-Ok.reaction.change c.work_out_question.ensures.same refl c.in-Ok.ensures.may

pub ask_at-requires-clause-known : goal.ask_at-requires-clause-known
ask_at-requires-clause-known g c =
    let n = c.requires.known.0 in
    (n, same_knows c.work_out_question.new.self c.deal_at.new.self n c.in-Ok.ensures.same (same_knows c.args.self.now c.work_out_question.new.self n c.work_out_question.ensures.same c.requires.known.1))

pub ask_at-requires-clause-worked : goal.ask_at-requires-clause-worked
ask_at-requires-clause-worked g c = worked_still c.work_out_question.new.self c.deal_at.new.self c.in-Ok.ensures.same c.in_ok-work_out_question.ensures.worked

pub returns-clause-exact : goal.returns-clause-exact
returns-clause-exact g c = λ tells n k s.
    let old = c.args.self.now in
    let x = c.in-Some.at in
    let here : state_of old.states.items c.args.peer ≡ Some x = search rules in
    let mid = c.work_out_question.new.self in
    let same = c.work_out_question.ensures.same in
    let found = subst (λ l. state_of l.items c.args.peer ≡ Some x) (sym same.states) here in
    let late : c.in_ok-change.field-0 ≡ None = search rules in
    let none : c.in_ok-change-2.field-0 ≡ None = search rules in
    let stored = stored_room g.L.Log.holds old mid n.history (g.D.Disk.view c.args.disk.now) (λ es i held. subst (λ l. g.L.Log.holds l es i) (sym same.log) held) s in
    let asks = asks_back mid c.deal_at.new.self c.in_ok-asking.asking c.args.peer c.in-Ok.ensures.same c.in_ok-asking.ensures.asks n (same_knows old mid n same k) in
    asking_follows c.in-Ok.reaction c.in_ok-with_asking.field-0 mid n c.args.peer x c.in_ok-asking.asking (same_knows old mid n same k) found
    (sym late ∙ c.in_ok-change.ensures.rule n k) (λ m settings known present. sym none ∙ c.in_ok-change-2.ensures.choice m settings known present)
    (search rules) c.in_ok-with_asking.ensures.change c.in_ok-with_asking.ensures.dropped c.in_ok-with_asking.ensures.out asks
    (c.in-Ok.ensures.exact tells n (same_knows old mid n same k) stored)

pub returns-clause-unread : goal.returns-clause-unread
returns-clause-unread g c = λ n k bare.
    let old = c.args.self.now in
    let x = c.in-Some.at in
    let here : state_of old.states.items c.args.peer ≡ Some x = search rules in
    let mid = c.work_out_question.new.self in
    let same = c.work_out_question.ensures.same in
    let found = subst (λ l. state_of l.items c.args.peer ≡ Some x) (sym same.states) here in
    let late : c.in_ok-change.field-0 ≡ None = search rules in
    let none : c.in_ok-change-2.field-0 ≡ None = search rules in
    let asks = asks_back mid c.deal_at.new.self c.in_ok-asking.asking c.args.peer c.in-Ok.ensures.same c.in_ok-asking.ensures.asks n (same_knows old mid n same k) in
    asking_follows c.in-Ok.reaction c.in_ok-with_asking.field-0 mid n c.args.peer x c.in_ok-asking.asking (same_knows old mid n same k) found
    (sym late ∙ c.in_ok-change.ensures.rule n k) (λ m settings known present. sym none ∙ c.in_ok-change-2.ensures.choice m settings known present)
    (search rules) c.in_ok-with_asking.ensures.change c.in_ok-with_asking.ensures.dropped c.in_ok-with_asking.ensures.out asks
    (c.in-Ok.ensures.unread n (same_knows old mid n same k) bare)

pub returns-clause-so : goal.returns-clause-so
returns-clause-so g c = λ n k.
    let old = c.args.self.now in
    let x = c.in-Some.at in
    let here : state_of old.states.items c.args.peer ≡ Some x = search rules in
    let mid = c.work_out_question.new.self in
    let same = c.work_out_question.ensures.same in
    let found = subst (λ l. state_of l.items c.args.peer ≡ Some x) (sym same.states) here in
    let late : c.in_ok-change.field-0 ≡ None = search rules in
    let none : c.in_ok-change-2.field-0 ≡ None = search rules in
    let asks = asks_back mid c.deal_at.new.self c.in_ok-asking.asking c.args.peer c.in-Ok.ensures.same c.in_ok-asking.ensures.asks n (same_knows old mid n same k) in
    asking_follows_so c.in-Ok.reaction c.in_ok-with_asking.field-0 mid n c.args.peer x c.in_ok-asking.asking (same_knows old mid n same k) found
    (sym late ∙ c.in_ok-change.ensures.rule n k) (λ m settings known present. sym none ∙ c.in_ok-change-2.ensures.choice m settings known present)
    (search rules) c.in_ok-with_asking.ensures.change c.in_ok-with_asking.ensures.dropped asks (c.in-Ok.ensures.so n (same_knows old mid n same k))

pub returns-clause-may : goal.returns-clause-may
returns-clause-may g c = some_may_back c.args.self.now c.deal_at.new.self c.in_ok-asking.asking.change c.in_ok-with_asking.field-0.change (same_then c.args.self.now c.work_out_question.new.self c.deal_at.new.self c.work_out_question.ensures.same c.in-Ok.ensures.same) c.in_ok-with_asking.ensures.change c.in_ok-asking.ensures.may

pub returns-clause-few : goal.returns-clause-few
returns-clause-few g c = c.in_ok-with_asking.ensures.few c.in-Ok.ensures.few
