use Rattle.std.proofs.Common.{◌≡◌, Err, [], ◌∷◌, ◌∙◌, ap, rules}
use Rattle.psb_machine.specs.Machine.{Keep}
use Rattle.node_core.specs.declared.fault.Fault.{Fault}
use Rattle.node_core.specs.declared.fault.Fault.TheVariants as fault
use Rattle.convergent_seal.specs.Sealing.{sealed_ref}
use Rattle.snapshot_backup.specs.declared.fault.BackupFault.TheVariants as backup_fault
use Rattle.snapshot_backup.proofs.Fronts.{so_untried, so_fed, so_failed, so_lacking}
use Rattle.snapshot_backup.proofs.NodeFaults.{clash_second}
use Rattle.snapshot_backup.proofs.piece.keep_piece.Goals as goal

pub returns-in_err-reserve-clause-keeps : goal.returns-in_err-reserve-clause-keeps
returns-in_err-reserve-clause-keeps g c =
    let short : c.from_residual.result ≡ Err fault.Memory = search rules in
    so_lacking g.L.Log.holds g.L.Log.stands g.L.Log.size g.L.Log.keeps_body g.L.Log.is_broken g.met.L.Log.holds_stands c.args.node.now c.args.node.now (g.D.Disk.view c.args.disk.now) (g.D.Disk.view c.args.disk.now) (c.args.plain.now ∷ []) c.from_residual.result short
    (so_untried g.L.Log.holds g.L.Log.stands g.L.Log.size g.L.Log.keeps_body g.L.Log.is_broken g.met.L.Log.holds_stands c.args.node.now (g.D.Disk.view c.args.disk.now) (c.args.plain.now ∷ []) backup_fault.Memory tt)

pub returns-in_err-sealed-clause-keeps : goal.returns-in_err-sealed-clause-keeps
returns-in_err-sealed-clause-keeps g c =
    let short : c.from_residual-in_err-sealed.result ≡ Err fault.Memory = search rules in
    so_lacking g.L.Log.holds g.L.Log.stands g.L.Log.size g.L.Log.keeps_body g.L.Log.is_broken g.met.L.Log.holds_stands c.args.node.now c.args.node.now (g.D.Disk.view c.args.disk.now) (g.D.Disk.view c.args.disk.now) (c.args.plain.now ∷ []) c.from_residual-in_err-sealed.result short
    (so_untried g.L.Log.holds g.L.Log.stands g.L.Log.size g.L.Log.keeps_body g.L.Log.is_broken g.met.L.Log.holds_stands c.args.node.now (g.D.Disk.view c.args.disk.now) (c.args.plain.now ∷ []) backup_fault.Memory tt)

pub returns-in-Ok-clause-keeps : goal.returns-in-Ok-clause-keeps
returns-in-Ok-clause-keeps g c =
    so_fed g.L.Log.holds g.L.Log.stands g.L.Log.size g.L.Log.keeps_body g.L.Log.is_broken g.met.L.Log.holds_stands c.args.node.now c.feed_own.new.node (g.D.Disk.view c.args.disk.now) (g.D.Disk.view c.feed_own.new.disk) c.args.plain.now
    (Keep c.in_ok-sealed.sealed.reference.name c.in_ok-sealed.sealed.body) (ap (λ r. Keep r.name c.in_ok-sealed.sealed.body) c.in_ok-sealed.ensures.reference ∙ ap (λ b. Keep (sealed_ref c.args.plain.now).name b) c.in_ok-sealed.ensures.body)
    c.requires.up.ready c.feed_own.ensures.works (λ tells n k s. c.in-Ok.ensures.fed tells n k s) (λ tells n k s. c.in-Ok.ensures.told_accepts tells n k s) (λ n k. c.in-Ok.ensures.taken n k)
    (record { ready = c.in-Ok.ensures.ready; whole = c.in-Ok.ensures.whole; counted = c.in-Ok.ensures.counted })

pub returns-clause-keeps : goal.returns-clause-keeps
returns-clause-keeps g c =
    let i = Keep c.in_ok-sealed.sealed.reference.name c.in_ok-sealed.sealed.body in
    so_failed g.L.Log.holds g.L.Log.stands g.L.Log.size g.L.Log.keeps_body g.L.Log.is_broken g.met.L.Log.holds_stands c.args.node.now c.feed_own.new.node (g.D.Disk.view c.args.disk.now) (g.D.Disk.view c.feed_own.new.disk) c.args.plain.now
    i c.in-Err.fault (ap (λ r. Keep r.name c.in_ok-sealed.sealed.body) c.in_ok-sealed.ensures.reference ∙ ap (λ b. Keep (sealed_ref c.args.plain.now).name b) c.in_ok-sealed.ensures.body)
    c.feed_own.ensures.works (λ tells n k s. c.in-Err.ensures.fed tells n k s) (λ pair is tells n k s. (c.in-Err.ensures.clash pair (ap (λ (x : Fault). Err x) is) tells n k s).1)
    (λ pair is. clash_second c.in_ok-sealed.sealed.reference.name c.in_ok-sealed.sealed.body pair c.in-Err.fault is c.in-Err.ensures.only ∙ c.in_ok-sealed.ensures.body)
