-- The question that a valid history gives fits a frame, and has the number of one of its changes.
use Rattle.std.proofs.Common.{◌≡◌, ◌<◌, ◌≤◌, ℕ, zero, suc, ◌+◌, Bool, true, ◌==◌, List, [], ◌∷◌, length, map, take, replicate, option_map, Option, Some, None, refl, sym, ap, subst, ◌∙◌, arith}
use Rattle.std.specs.List.{list_all}
use Rattle.std.proofs.lemmas.Bool.{and_parts, le-leb, eq-eqb}
use Rattle.std.proofs.lemmas.List.Folds.{list_all-map}
use Rattle.std.proofs.lemmas.List.Sums.{AllPass-from_list_all, list_all-from_AllPass}
use Rattle.std.proofs.lemmas.Map.Views.{All-map-IsPermutation}
use Rattle.psb_bytes.specs.Numbers.{AreBytes}
use Rattle.psb_digest.specs.Words.{words_key}
use Rattle.psb_digest.proofs.Streams.{length-masked_from, AreBytes-masked_from}
use Rattle.psb_settings.specs.declared.settings.Settings.{Settings}
use Rattle.psb_model.specs.declared.entries.OwnEntry.{OwnEntry}
use Rattle.psb_model.specs.declared.entries.SnapMark.{SnapMark}
use Rattle.psb_model.specs.declared.change.Change.{Change}
use Rattle.psb_model.specs.declared.change.Change.TheVariants.{Snapped}
use Rattle.psb_model.specs.State.{State, nothing_yet, is_wanted}
use Rattle.psb_model.specs.Grammar.{is_digest}
use Rattle.psb_model.specs.Effects.{after}
use Rattle.psb_model.specs.History.{state_from, state}
use Rattle.psb_model.specs.Needed.{IsValid}
use Rattle.psb_model.proofs.ByObject.{all_kept}
use Rattle.psb_model.proofs.Prefixes.{changes_counted}
use Rattle.model_laws.proofs.Widths.{wide_state}
use Rattle.abstracts.specs.Least.{under_salt, abstract_of}
use Rattle.abstracts.proofs.Ordering.{are_least}
use Rattle.byte_fields.proofs.FieldLaws.{are_bytes_is}
use Rattle.wire_codec.specs.Fields.{is_digest as is_wire_digest}
use Rattle.wire_codec.specs.Frames.{fits}
use Rattle.wire_codec.specs.declared.frame.Frame.TheVariants as frame
use Rattle.psb_machine.specs.Sampling.{wanted_names, salt_of, question_at, question_by, open_question}
use Rattle.psb_machine.specs.declared.question.Question.{Question}
use Rattle.psb_machine.proofs.Choosing.{few_asked, open_is}

-- ---- the salt

zeros : (n : ℕ) → AreBytes (replicate n 0)
zeros zero i = omega arith
zeros (suc n) zero = omega arith
zeros (suc n) (suc i) = zeros n i

pub salt_fits : (seed : List ℕ) (change : ℕ) → is_wire_digest (salt_of seed change) ≡ true
salt_fits seed change =
    let long : (length (salt_of seed change) == 32) ≡ true = eq-eqb (length (salt_of seed change)) 32 (length-masked_from (words_key seed) change 0 (replicate 32 0)) in
    rw (long, are_bytes_is (salt_of seed change) (AreBytes-masked_from (words_key seed) change 0 (replicate 32 0) (zeros 32))) refl

-- ---- the names

take_fits : {S : Type 0} (test : S → Bool) (n : ℕ) (l : List S) → list_all test l ≡ true → list_all test (take n l) ≡ true
take_fits test zero l all = refl
take_fits test (suc n) [] all = refl
take_fits test (suc n) (x ∷ xs) all = let two = and_parts (test x) (list_all test xs) all in rw two.0 (take_fits test n xs two.1)

-- what holds of all names holds of those that are chosen
abstract_fits : (names : List (List ℕ)) (salt : List ℕ) (k : ℕ) → list_all is_digest names ≡ true → list_all is_digest (abstract_of names salt k) ≡ true
abstract_fits names salt k all =
    let a = are_least names salt k in
    let salted = map (under_salt salt) names in
    let first = list_all-map is_digest (λ x. x.name) salted ∙ list_all-map (λ x. is_digest x.name) (under_salt salt) names ∙ all in
    let ordered = list_all-from_AllPass is_digest (map (λ x. x.name) a.ordered) (All-map-IsPermutation (λ x. x.name) (λ n. is_digest n ≡ true) salted a.ordered a.all (AllPass-from_list_all is_digest (map (λ x. x.name) salted) first)) in
    let taken = take_fits (λ x. is_digest x.name) k a.ordered (sym (list_all-map is_digest (λ x. x.name) a.ordered) ∙ ordered) in
    ap (list_all is_digest) a.first ∙ list_all-map is_digest (λ x. x.name) (take k a.ordered) ∙ taken

wanted_fit : (h : List Change) → IsValid h → list_all is_digest (wanted_names (state h)) ≡ true
wanted_fit h v =
    let s = state h in
    all_kept is_digest (is_wanted s) (map (λ (e : OwnEntry). e.name) s.own) (list_all-map is_digest (λ (e : OwnEntry). e.name) s.own ∙ (wide_state h v.lawful v.fit).own)

-- ---- the number

abbrev IsMarked : State → Type 0
IsMarked s = (m : SnapMark) → s.snapped ≡ Some m → m.change < s.changes

marked_after : (s : State) (c : Change) → IsMarked s → IsMarked (after s c)
marked_after s (Snapped x) all m is = let same : record { number = x.number; change = s.changes } ≡ m = cc (is) in subst (λ (k : SnapMark). k.change < s.changes + 1) same (omega arith)
marked_after s _ all m is = omega (arith, all m is)

marked_from : (s : State) (h : List Change) → IsMarked s → IsMarked (state_from s h)
marked_from s [] all = all
marked_from s (c ∷ cs) all = marked_from (after s c) cs (marked_after s c all)

-- ---- the question

record IsAsked (h : List Change) (q : Question) : Type 0 where
  salt : is_wire_digest q.salt ≡ true
  names : list_all is_digest q.names ≡ true
  number : q.number < length h

asked_by : (h : List Change) (o : Option Settings) (q : Question) → IsValid h → question_by o (state h) ≡ Some q → IsAsked h q
asked_by h None q v is = absurd (cc (is))
asked_by h (Some settings) q v is = by_mark (state h).snapped refl is
  where
    by_mark : (m : Option SnapMark) → (state h).snapped ≡ m → option_map (question_at settings.seed (state h)) m ≡ Some q → IsAsked h q
    by_mark None e k = absurd (cc (k))
    by_mark (Some mark) e k =
        let same : question_at settings.seed (state h) mark ≡ q = cc (k) in
        subst (IsAsked h) same (record {
          salt = salt_fits settings.seed mark.change;
          names = abstract_fits (wanted_names (state h)) (salt_of settings.seed mark.change) 32 (wanted_fit h v);
          number = subst (λ (n : ℕ). mark.change < n) (changes_counted h) (marked_from nothing_yet h (λ m none. absurd (cc (none))) mark e);
        })

pub question_fits : (h : List Change) (q : Question) → IsValid h → open_question (state h) ≡ Some q → (fits (frame.Ask q.salt q.names) ≡ true) × (q.number < length h)
question_fits h q v is =
    let o = open_is (state h) q is in
    let few : length q.names ≤ 32 = few_asked (state h) q o.asked in
    let a = asked_by h (state h).settings q v o.asked in
    (rw (a.salt, le-leb 1 (length q.names) o.some_names, le-leb (length q.names) 32 few, a.names) refl, a.number)
