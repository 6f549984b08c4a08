use Rattle.std.proofs.Common.{◌≡◌, ℕ, ◌+◌, ◌<◌, ◌≤◌, ◌^◌, cond, List, [], ◌∷◌, ◌++◌, length, map, drop, get_or, sym, ap, ◌∙◌, Vec, Global, append_assoc, arith}
use Rattle.std.proofs.lemmas.List.{length-map}
use Rattle.std.proofs.Math.ListN.{get_or-map}
use Rattle.psb_bytes.specs.declared.ids.Object.{Object}
use Rattle.psb_digest.specs.Words.{Reader, word}
use Rattle.psb_model.specs.declared.entries.InEntry.{InEntry}
use Rattle.psb_model.specs.State.{in_key}
use Rattle.psb_model.specs.Discards.{is_picked, picks}
use Rattle.discard_policy.specs.declared.grades.Grade.{Grade}
use Rattle.discard_policy.specs.Grades.{every}
use Rattle.discard_policy.specs.Drawing.{drawn}
use Rattle.discard_policy.specs.Choices.{weighed}
use Rattle.discard_policy.proofs.Draws.{past_next, own_picks}
use Rattle.discard_policy.proofs.Chosen.{entry_of, next_pick, taken, passed_over, all_done, is_within}
use Rattle.discard_policy.proofs.choosing.choose.Goals.{then-draw+in_ok-push, else-draw}
use Rattle.discard_policy.proofs.choosing.choose.Goals as goal

pub loop-object-preserved : goal.loop-object-preserved
loop-object-preserved c =
    let r = c.args.words.now in
    let entries = c.args.entries.now in
    let i = c.loop-object.object-index in
    let item = c.loop-object-item.result in
    let picker = c.loop-object.picker in
    let more : c.if-draw.chosen.items ≡ c.loop-object.chosen.items ++ cond c.draw.result (item.0 ∷ []) [] = elim c.if-draw.branch [
      | then-draw+in_ok-push w ↦ taken c.if-draw.chosen.items c.loop-object.chosen.items item.0 c.draw.result w.if-draw.true (ap (λ (v : Vec Object Global). v.items) w.chosen-is ∙ w.in_ok-push.ensures.items)
      | else-draw w ↦ passed_over c.if-draw.chosen.items c.loop-object.chosen.items item.0 c.draw.result w.if-draw.false (ap (λ (v : Vec Object Global). v.items) w.chosen-is)
    ] in
    record {
      words = past_next r c.loop-object.words c.draw.new.words i c.loop-object.invariant.words c.draw.ensures.words;
      grade = c.draw.ensures.grade ∙ c.loop-object.invariant.grade;
      picks = λ es same.
          let less : i < length es = omega (arith, length-map es weighed, ap length same) in
          let is : weighed (get_or es i (entry_of item)) ≡ item = sym (get_or-map weighed es i (entry_of item)) ∙ ap (λ (l : List (Object × ℕ)). get_or l i item) same ∙ sym c.loop-object-item.is in
          let picked : (e : InEntry) → e.units ≡ item.1 → c.draw.result ≡ is_picked (every c.args.grade) (drawn r i) picker.left picker.room e = λ e units. c.draw.ensures.picked e units
          ∙ ap (λ (g : Grade). is_picked (every g) (word c.loop-object.words.key c.loop-object.words.stream c.loop-object.words.place) picker.left picker.room e) c.loop-object.invariant.grade
          ∙ ap (λ (s : Reader). is_picked (every c.args.grade) (word s.key s.stream s.place) picker.left picker.room e) c.loop-object.invariant.words in
          let step = next_pick (drawn r) (every c.args.grade) i picker.left picker.room c.draw.new.self.left c.draw.new.self.room item.1 es item.0 c.draw.result (entry_of item) less is picked c.draw.ensures.left c.draw.ensures.room in
          let rest : List Object = map in_key (picks (drawn r) (every c.args.grade) (i + 1) c.draw.new.self.left c.draw.new.self.room (drop (i + 1) es)) in
          c.loop-object.invariant.picks es same ∙ ap (λ (l : List Object). c.loop-object.chosen.items ++ l) step ∙ sym (append_assoc c.loop-object.chosen.items (cond c.draw.result (item.0 ∷ []) []) rest) ∙ ap (λ (l : List Object). l ++ rest) (sym more);
    }

-- what is chosen once all entries are done
chosen : (c : goal.After-from_vec) (es : List InEntry) → map weighed es ≡ c.args.entries.now → c.from_vec.result ≡ map in_key (picks (drawn c.args.words.now) (every c.args.grade) 0 c.args.debt 1048576 es)
chosen c es same =
    c.from_vec.ensures
    ∙ all_done (drawn c.args.words.now) (every c.args.grade) c.loop-object.object-index c.loop-object.picker.left c.loop-object.picker.room es c.loop-object.chosen.items
    (map in_key (picks (drawn c.args.words.now) (every c.args.grade) 0 c.args.debt 1048576 es)) (omega (arith, length-map es weighed, ap length same)) (c.loop-object.invariant.picks es same)

pub returns-clause-own : goal.returns-clause-own
returns-clause-own c = λ es seed change same start.
    let few : length es ≤ 2 ^ 68 = omega (arith, length-map es weighed, ap length same) in
    chosen c es same
    ∙ ap (λ (r : Reader). map in_key (picks (drawn r) (every c.args.grade) 0 c.args.debt 1048576 es)) start
    ∙ ap (map in_key) (own_picks seed change (every c.args.grade) c.args.debt 1048576 es few)

pub returns-clause-within : goal.returns-clause-within
returns-clause-within c = is_within (drawn c.args.words.now) (every c.args.grade) 0 c.args.debt c.args.entries.now c.from_vec.result (chosen c)
