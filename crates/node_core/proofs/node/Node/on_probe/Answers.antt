use Rattle.std.proofs.Common.{◌∙◌, sym, ap, subst, refl}
use Rattle.psb_settings.specs.declared.settings.PeerRow.{PeerRow}
use Rattle.psb_model.specs.State.{State}
use Rattle.psb_ledger.specs.View.{LedgerView}
use Rattle.wire_codec.specs.Frames.{datagram}
use Rattle.node_facts.specs.Probed.{Lacks}
use Rattle.node_letters.specs.Letters.{letters_of}
use Rattle.node_core.proofs.Probing.{no_frame, plain_quiet, letter_hears, knows_held, probe_hears, proof_now, proof_known}
use Rattle.node_core.proofs.node.Node.on_probe.Goals as goal

pub returns-in_default-clause-exact : goal.returns-in_default-clause-exact
returns-in_default-clause-exact g c = λ tells n k s.
    let node = c.args.self.now in
    let from = c.args.sender.now in
    let o = c.in_ok-proof.field-0 in
    let here = ap (λ (v : LedgerView). v.state) c.ledger.ensures ∙ k.ledger in
    probe_hears c.quiet.result node n from c.args.nonce.now c.args.objects.now o k c.requires.heard (plain_quiet c.quiet.result c.quiet.ensures.change c.quiet.ensures.note c.quiet.ensures.dropped c.quiet.ensures.out)
    (no_frame (letters_of c.quiet.result.out) node from o (λ f is. c.in_default.not-Some f is) (ap letters_of c.quiet.ensures.out))
    (proof_known node n c.ledger.result.now.state s.less from.peer c.args.nonce.now c.args.objects.now o k here s.is_less s.valid
    (c.in_ok-proof.ensures.exact tells s.less s.records
    (knows_held _ node n s.less k s.is_less s.valid here refl refl) s.decoded s.shows))

pub returns-clause-exact : goal.returns-clause-exact
returns-clause-exact g c = λ tells n k s.
    let node = c.args.self.now in
    let from = c.args.sender.now in
    let o = c.in_ok-proof.field-0 in
    let here = ap (λ (v : LedgerView). v.state) c.ledger.ensures ∙ k.ledger in
    letter_hears c.made.result node n from c.args.nonce.now c.args.objects.now c.in_ok-letter.letter c.in-Some.proof k c.requires.heard c.made.ensures.change c.made.ensures.note c.made.ensures.dropped (c.made.ensures.out ∙ c.in_ok-one_letter.ensures) c.in_ok-letter.ensures.to
    (c.in_ok-letter.ensures.frame ∙ ap (λ (r : PeerRow). datagram from.key r.id from.peer from.number c.in-Some.proof) c.own.ensures)
    (sym c.in-Some.is
    ∙ proof_known node n c.ledger.result.now.state s.less from.peer c.args.nonce.now c.args.objects.now o k here s.is_less s.valid
    (c.in_ok-proof.ensures.exact tells s.less s.records (knows_held _ node n s.less k s.is_less s.valid here refl refl) s.decoded s.shows))

pub returns-in_default-clause-unread : goal.returns-in_default-clause-unread
returns-in_default-clause-unread g c = λ n k lacks.
    let node = c.args.self.now in
    let from = c.args.sender.now in
    let o = c.in_ok-proof.field-0 in
    let here = ap (λ (v : LedgerView). v.state) c.ledger.ensures ∙ k.ledger in
    probe_hears c.quiet.result node n from c.args.nonce.now c.args.objects.now o k c.requires.heard (plain_quiet c.quiet.result c.quiet.ensures.change c.quiet.ensures.note c.quiet.ensures.dropped c.quiet.ensures.out)
    (no_frame (letters_of c.quiet.result.out) node from o (λ f is. c.in_default.not-Some f is) (ap letters_of c.quiet.ensures.out))
    (proof_now node n c.ledger.result.now.state from.peer c.args.nonce.now c.args.objects.now o k here
    (c.in_ok-proof.ensures.unread n.history (subst (λ (t : State). Lacks t from.peer c.args.objects.now) (sym here) lacks)))

pub returns-clause-unread : goal.returns-clause-unread
returns-clause-unread g c = λ n k lacks.
    let node = c.args.self.now in
    let from = c.args.sender.now in
    let o = c.in_ok-proof.field-0 in
    let here = ap (λ (v : LedgerView). v.state) c.ledger.ensures ∙ k.ledger in
    letter_hears c.made.result node n from c.args.nonce.now c.args.objects.now c.in_ok-letter.letter c.in-Some.proof k c.requires.heard c.made.ensures.change c.made.ensures.note c.made.ensures.dropped (c.made.ensures.out ∙ c.in_ok-one_letter.ensures) c.in_ok-letter.ensures.to
    (c.in_ok-letter.ensures.frame ∙ ap (λ (r : PeerRow). datagram from.key r.id from.peer from.number c.in-Some.proof) c.own.ensures)
    (sym c.in-Some.is
    ∙ proof_now node n c.ledger.result.now.state from.peer c.args.nonce.now c.args.objects.now o k here
    (c.in_ok-proof.ensures.unread n.history (subst (λ (t : State). Lacks t from.peer c.args.objects.now) (sym here) lacks)))
