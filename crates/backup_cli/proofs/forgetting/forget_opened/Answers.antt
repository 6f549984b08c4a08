use Rattle.std.proofs.Common.{inl, inr, Err, ap, sym, subst, ⊎_elim}
use Rattle.psb_machine.specs.Machine.{fresh}
use Rattle.backup_cli.specs.Forgotten.{ForgetsOn}
use Rattle.said_lines.specs.declared.status.Status.{Status}
use Rattle.backup_cli.proofs.Forgettings.{line_said, line_failed, halted_by}
use Rattle.said_lines.proofs.Utterances.{utters_tells}
use Rattle.backup_cli.proofs.forgetting.forget_opened.Goals as goal

pub returns-in-Err-clause-forgets : goal.returns-in-Err-clause-forgets
returns-in-Err-clause-forgets g c = λ tells h k st.
    let v1 = g.S.Disk.view c.args.station.now in
    let v2 = g.S.Disk.view c.give_up.new.station in
    let v3 = g.S.Disk.view c.refuse.new.station in
    let s = c.refuse.ensures.said in
    subst (λ (status : Status). ForgetsOn g.L.Log.stands h c.args.number v1 v3 status) (sym c.refuse.ensures.same)
    (halted_by g.L.Log.holds g.L.Log.stands g.L.Log.is_broken g.met.L.Log.holds_stands c.in-Err.status c.args.node.now c.give_up.new.node h c.args.number v1 v2 v3 s.0
    c.in-Err.ensures.only (⊎_elim (λ e. inl (cc (e))) (λ well. inr well) c.in-Err.ensures.unbroken) (λ is. c.in-Err.ensures.absent (ap Err is) (fresh h) k) (λ i j left. g.met.S.Disk.only_now c.args.station.now i j left) tells c.give_up.ensures.outside
    (c.in-Err.ensures.fed (utters_tells _ _ _ _ s.1 tells) (fresh h) k st) s.1 s.2)

pub returns-in-Ok-say_forgot-clause-forgets : goal.returns-in-Ok-say_forgot-clause-forgets
returns-in-Ok-say_forgot-clause-forgets g c = λ tells h k st.
    let v1 = g.S.Disk.view c.args.station.now in
    let v2 = g.S.Disk.view c.give_up.new.station in
    let v3 = g.S.Disk.view c.say_forgot.new.station in
    let u = c.in-Ok-say_forgot.ensures.ok in
    let sound = ⊎_elim (λ e. absurd (cc (e))) (λ well. well) c.in-Ok.ensures.unbroken in
    line_said g.L.Log.holds g.L.Log.stands g.L.Log.is_broken g.met.L.Log.holds_stands c.args.node.now c.give_up.new.node h c.args.number v1 v2 v3
    sound (c.in-Ok.ensures.present (fresh h) k) (λ i j left. g.met.S.Disk.only_now c.args.station.now i j left) tells c.give_up.ensures.outside (c.in-Ok.ensures.fed (utters_tells _ _ _ _ u tells) (fresh h) k st) u

pub returns-in-Err-say_forgot-clause-forgets : goal.returns-in-Err-say_forgot-clause-forgets
returns-in-Err-say_forgot-clause-forgets g c = λ tells h k st.
    let v1 = g.S.Disk.view c.args.station.now in
    let v2 = g.S.Disk.view c.give_up.new.station in
    let v3 = g.S.Disk.view c.say_forgot.new.station in
    let u = c.in-Err-say_forgot.ensures.err in
    let sound = ⊎_elim (λ e. absurd (cc (e))) (λ well. well) c.in-Ok.ensures.unbroken in
    line_failed g.L.Log.holds g.L.Log.stands g.L.Log.is_broken g.met.L.Log.holds_stands c.args.node.now c.give_up.new.node h c.args.number v1 v2 v3
    sound (c.in-Ok.ensures.present (fresh h) k) (λ i j left. g.met.S.Disk.only_now c.args.station.now i j left) tells c.give_up.ensures.outside (c.in-Ok.ensures.fed (utters_tells _ _ _ _ u tells) (fresh h) k st) u
