use Rattle.std.proofs.Common.{◌≡◌, ⊎_elim, ◌<◌, ℕ, List, Err, true, IfSome, slice_get, refl, ◌∙◌, subst, arith, rules}
use Rattle.psb_station.specs.Span.{Shows, Tells_bytes}
use Rattle.psb_station.proofs.Spans.{keeps_same, keeps_then}
use Rattle.node_journal.specs.Entry.{Entry}
use Rattle.psb_model.specs.Conditions.{allowed}
use Rattle.psb_model.specs.Needed.{brings_name, body_is_right}
use Rattle.psb_model.specs.declared.change.Change.{Change}
use Rattle.change_codec.specs.Records.{IsRecord}
use Rattle.change_codec.proofs.RecordLaws.{one_change}
use Rattle.node_history.specs.declared.fault.ReadFault.TheVariants.{NotNode}
use Rattle.node_history.specs.Readable.{IsReadable}
use Rattle.node_history.proofs.Reading.{length-decoded, reading_start, reading_counted, reading_more, no_change}
use Rattle.node_history.proofs.history.Reader.read_all.Goals as goal

pub returns-then-count-eq0-clause-not_node : goal.returns-then-count-eq0-clause-not_node
returns-then-count-eq0-clause-not_node g c = λ is tells es shows h v are. omega (arith, length-decoded h es are, v.some, g.met.L.Log.holds_size c.args.log.now es shows.bytes shows.reads, c.count-count.ensures.value, c.if-count-eq0.true)

pub loop-number-init : goal.loop-number-init
loop-number-init g c = record {
  log = refl;
  keeps = keeps_same (g.D.Disk.view c.args.disk.now);
  steady = refl;
  reading = reading_start (g.L.Log.holds c.args.log.now) (g.L.Log.keeps_body c.args.log.now) c.args.self.now (g.D.Disk.view c.args.disk.now) c.requires.fresh;
}

pub read_next-requires-clause-few : goal.read_next-requires-clause-few
read_next-requires-clause-few g c =
    let log = c.args.log.now in
    omega (arith, c.count-count.ensures.small, c.loop-number-test.true, reading_counted (g.L.Log.holds log) (g.L.Log.keeps_body log) c.loop-number.number c.loop-number.self.tables c.loop-number.self.lacking (g.D.Disk.view c.args.disk.now) (g.D.Disk.view c.loop-number.disk) c.loop-number.invariant.reading)

pub returns-in_err-read_next-clause-not_node : goal.returns-in_err-read_next-clause-not_node
returns-in_err-read_next-clause-not_node g c = λ is.
    let log = c.args.log.now in
    let first = g.D.Disk.view c.args.disk.now in
    let now = g.D.Disk.view c.loop-number.disk in
    let later = g.D.Disk.view c.read_next.new.disk in
    let t = c.loop-number.self.tables in
    let n = c.loop-number.number in
    let inside : n < g.L.Log.size log = omega (arith, c.loop-number-test.true, c.count-count.ensures.value) in
    let failed : c.read_next.result ≡ Err NotNode = search rules in
    no_change (g.L.Log.holds log) (g.L.Log.size log) (g.L.Log.keeps_body log) n t c.loop-number.self.lacking first now later (g.met.L.Log.holds_size log) inside c.loop-number.invariant.keeps c.read_next.ensures.keeps
    (subst (λ (l : g.row.L.Denot). Tells_bytes later → (es : List Entry) → Shows (g.L.Log.holds l es) now → IfSome (slice_get es n) (λ e. (d : Change) → IsReadable d → allowed t.ledger.state d ≡ true → ¬ IsRecord d e.head e.body)) c.loop-number.invariant.log (c.read_next.ensures.not_node failed))
    c.loop-number.invariant.reading

pub loop-number-preserved : goal.loop-number-preserved
loop-number-preserved g c =
    let log = c.args.log.now in
    let first = g.D.Disk.view c.args.disk.now in
    let now = g.D.Disk.view c.loop-number.disk in
    let later = g.D.Disk.view c.read_next.new.disk in
    let old = c.loop-number.self in
    let new = c.read_next.new.self in
    let n = c.loop-number.number in
    let inside : n < g.L.Log.size log = omega (arith, c.loop-number-test.true, c.count-count.ensures.value) in
    let one = c.in_ok-read_next.ensures.read in
    record {
      log = c.in_ok-read_next.ensures.log ∙ c.loop-number.invariant.log;
      keeps = keeps_then first now later c.loop-number.invariant.keeps c.in_ok-read_next.ensures.keeps;
      steady = ⊎_elim (λ bad. absurd (cc (bad))) (λ same. same ∙ c.loop-number.invariant.steady) c.in_ok-read_next.ensures.steady;
      reading = reading_more one_change (g.L.Log.holds log) (g.L.Log.size log) (g.L.Log.keeps_body log) n old.tables new.tables old.lacking new.lacking first now later one.0 (g.met.L.Log.holds_size log) inside
          c.loop-number.invariant.keeps c.in_ok-read_next.ensures.keeps one.1
          (subst (λ (l : g.row.L.Denot). Tells_bytes later → (es : List Entry) → Shows (g.L.Log.holds l es) now → IfSome (slice_get es n) (λ e. IsRecord one.0 e.head e.body)) c.loop-number.invariant.log one.3)
          (subst (λ (l : g.row.L.Denot). (name : List ℕ) → brings_name name one.0 ≡ true → body_is_right one.0 ≡ true → g.L.Log.keeps_body l n ≡ true) c.loop-number.invariant.log one.4)
          one.2 c.loop-number.invariant.reading;
    }
