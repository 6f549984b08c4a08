-- What is asked before buddies are chosen, and what is chosen at a tick: it may be made.
use Rattle.std.proofs.Common.{◌≡◌, ◌≤◌, ◌^◌, ℕ, zero, suc, ◌/◌, Bool, true, false, not, ◌||◌, ◌&&◌, ◌==◌, nat_le, nat_lt, List, [], ◌∷◌, ◌++◌, length, map, take, option_map, Option, Some, None, refl, sym, ap, subst, ◌∙◌, arith}
use Rattle.std.specs.List.{All, list_any, list_all}
use Rattle.std.proofs.lemmas.Bool.{and_parts, eqb-true, eq-eqb, lt-ltb, ltb-true, le-leb, false≢true}
use Rattle.std.proofs.lemmas.List.{length-map, length-take}
use Rattle.psb_settings.specs.declared.settings.PeerRow.{PeerRow}
use Rattle.psb_settings.specs.declared.settings.Settings.{Settings}
use Rattle.psb_settings.specs.Settings.{IsPeerRow, has_id, have_distinct_ids}
use Rattle.psb_model.specs.Grammar.{is_u32, is_count, candidate_fits}
use Rattle.psb_model.specs.State.{State, is_peer}
use Rattle.psb_model.specs.Candidates.{distinct_peers}
use Rattle.psb_model.specs.History.{state}
use Rattle.psb_model.specs.Needed.{IsValid}
use Rattle.psb_model.specs.declared.change.Change.{Change}
use Rattle.psb_model.specs.declared.change.Change.TheVariants.{Chose}
use Rattle.psb_model.specs.declared.entries.Candidate.{Candidate}
use Rattle.psb_model.specs.declared.entries.SnapMark.{SnapMark}
use Rattle.psb_model.proofs.ByObject.{by_cases}
use Rattle.abstracts.specs.Bits.{coverage}
use Rattle.abstracts.specs.Least.{under_salt, put_all as put_names}
use Rattle.buddy_select.specs.Order.{put_all}
use Rattle.buddy_select.proofs.Ordering.{all_hold, put_long, put_distinct, put_in_order, next_in_order}
use Rattle.psb_machine.specs.Sampling.{question_at, question_by, question_of, if_some_names, open_question, wanted_names, salt_of, most_asked, candidate_by, candidates, is_last, ticks_to_choose, is_ready, choice_by}
use Rattle.psb_machine.specs.declared.question.Question.{Question}
use Rattle.psb_machine.specs.Volatile.{of_peer, later}
use Rattle.psb_machine.specs.Machine.{Situation, sample_of, choice_at}
use Rattle.psb_machine.proofs.Taken.{MayTake, begun_here}
use Rattle.psb_machine.proofs.Peers.{peer_in, rows_are_peers, settings_read}

-- ---- the question

few_by : (o : Option Settings) (s : State) (q : Question) → question_by o s ≡ Some q → length q.names ≤ 32
few_by None s q is = absurd (cc (is))
few_by (Some settings) s q is = by_mark s.snapped is
  where
    by_mark : (m : Option SnapMark) → option_map (question_at settings.seed s) m ≡ Some q → length q.names ≤ 32
    by_mark None k = absurd (cc (k))
    by_mark (Some mark) k =
        let same : question_at settings.seed s mark ≡ q = cc (k) in
        let salt = salt_of settings.seed mark.change in
        let all = put_names [] (map (under_salt salt) (wanted_names s)) in
        let long : length (question_at settings.seed s mark).names ≤ 32 = omega (arith, length-map (take most_asked all) (λ x. x.name), length-take most_asked all) in
        subst (λ (x : Question). length x.names ≤ 32) same long

-- no question has more than 32 names
pub few_asked : (s : State) (q : Question) → question_of s ≡ Some q → length q.names ≤ 32
few_asked s q is = few_by s.settings s q is

-- what is asked while nothing was chosen: the question, with some name
pub record IsOpen (s : State) (q : Question) : Type 0 where
  pub none_chosen : length s.chosen ≡ 0
  pub asked : question_of s ≡ Some q
  pub some_names : 1 ≤ length q.names

not_none : (a : ℕ) → (a == 0) ≡ false → 1 ≤ a
not_none zero h = absurd (false≢true (sym h))
not_none (suc a) h = omega arith

pub open_is : (s : State) (q : Question) → open_question s ≡ Some q → IsOpen s q
open_is s q is =
    by_cases (length s.chosen == 0)
    (λ k. let named : if_some_names (question_of s) ≡ Some q = rw k at is in by_question (eqb-true (length s.chosen) 0 k) (question_of s) refl named)
    (λ k. let none : None ≡ Some q = rw k at is in absurd (cc (none)))
  where
    by_question : length s.chosen ≡ 0 → (o : Option Question) → question_of s ≡ o → if_some_names o ≡ Some q → IsOpen s q
    by_question free None o k = absurd (cc (k))
    by_question free (Some x) o k =
        by_cases (length x.names == 0)
        (λ j. let none : None ≡ Some q = rw j at k in absurd (cc (none)))
        (λ j. let one : Some x ≡ Some q = rw j at k in
        let same : x ≡ q = cc (one) in
        record { none_chosen = free; asked = o ∙ one; some_names = subst (λ (y : Question). 1 ≤ length y.names) same (not_none (length x.names) j) })

-- ---- those that are found

coverage_within : (bits n : ℕ) → coverage bits n ≤ n
coverage_within bits zero = omega arith
coverage_within bits (suc n) = omega (arith, coverage_within (bits / 2) n)

-- what each candidate of a row has all that are found have
found_pass : (test : Candidate → Bool) (of_row : PeerRow → Bool) (peers : List PeerRow) (samples : ℕ → Option ℕ) (n : ℕ) → ((r : PeerRow) (bits : ℕ) → of_row r ≡ true → test (record { peer = r.id; got = coverage bits n; of = n; hops = r.hops }) ≡ true)
    → list_all of_row peers ≡ true → list_all test (candidates peers samples n) ≡ true
found_pass test of_row [] samples n passes h = refl
found_pass test of_row (r ∷ rs) samples n passes h =
    let two = and_parts (of_row r) (list_all of_row rs) h in
    by_sample (samples r.id) two.0 (found_pass test of_row rs samples n passes two.1)
  where
    by_sample : (o : Option ℕ) → of_row r ≡ true → list_all test (candidates rs samples n) ≡ true → list_all test (candidate_by r n o ++ candidates rs samples n) ≡ true
    by_sample None one rest = rest
    by_sample (Some bits) one rest = rw (passes r bits one) rest

any_row : (peers : List PeerRow) → list_all (λ (r : PeerRow). true) peers ≡ true
any_row [] = refl
any_row (r ∷ rs) = any_row rs

-- each was asked for as many names
pub found_asked : (peers : List PeerRow) (samples : ℕ → Option ℕ) (n : ℕ) → 1 ≤ n → list_all (λ (x : Candidate). nat_le 1 x.of) (candidates peers samples n) ≡ true
found_asked peers samples n some = found_pass (λ (x : Candidate). nat_le 1 x.of) (λ r. true) peers samples n (λ r bits k. le-leb 1 n some) (any_row peers)

no_other : (id : ℕ) (peers : List PeerRow) (samples : ℕ → Option ℕ) (n : ℕ) → has_id id peers ≡ false → list_any (λ (y : Candidate). id == y.peer) (candidates peers samples n) ≡ false
no_other id [] samples n h = refl
no_other id (r ∷ rs) samples n h =
    by_cases (r.id == id)
    (λ k. let wrong : true ≡ false = rw k at h in absurd (false≢true (sym wrong)))
    (λ k. let rest : has_id id rs ≡ false = rw k at h in by_sample (samples r.id) k (no_other id rs samples n rest))
  where
    other : (r.id == id) ≡ false → (id == r.id) ≡ false
    other k = by_cases (id == r.id) (λ j. absurd (false≢true (sym k ∙ eq-eqb r.id id (sym (eqb-true id r.id j))))) (λ j. j)

    by_sample : (o : Option ℕ) → (r.id == id) ≡ false → list_any (λ (y : Candidate). id == y.peer) (candidates rs samples n) ≡ false → list_any (λ (y : Candidate). id == y.peer) (candidate_by r n o ++ candidates rs samples n) ≡ false
    by_sample None k rest = rest
    by_sample (Some bits) k rest = rw (other k) rest

-- no peer is found twice
pub found_distinct : (peers : List PeerRow) (samples : ℕ → Option ℕ) (n : ℕ) → have_distinct_ids peers ≡ true → distinct_peers (candidates peers samples n) ≡ true
found_distinct [] samples n h = refl
found_distinct (r ∷ rs) samples n h =
    let two = and_parts (not (has_id r.id rs)) (have_distinct_ids rs) h in
    by_sample (samples r.id) (no_other r.id rs samples n (not_true (has_id r.id rs) two.0)) (found_distinct rs samples n two.1)
  where
    not_true : (b : Bool) → not b ≡ true → b ≡ false
    not_true true e = absurd (false≢true e)
    not_true false e = refl

    by_sample : (o : Option ℕ) → list_any (λ (y : Candidate). r.id == y.peer) (candidates rs samples n) ≡ false → distinct_peers (candidates rs samples n) ≡ true → distinct_peers (candidate_by r n o ++ candidates rs samples n) ≡ true
    by_sample None none rest = rest
    by_sample (Some bits) none rest = rw none rest

-- they are no more than the peers
pub found_few : (peers : List PeerRow) (samples : ℕ → Option ℕ) (n : ℕ) → length (candidates peers samples n) ≤ length peers
found_few [] samples n = omega arith
found_few (r ∷ rs) samples n = by_sample (samples r.id) (found_few rs samples n)
  where
    by_sample : (o : Option ℕ) → length (candidates rs samples n) ≤ length rs → length (candidate_by r n o ++ candidates rs samples n) ≤ suc (length rs)
    by_sample None few = omega (arith, few)
    by_sample (Some bits) few = omega (arith, few)

abbrev row_fits : PeerRow → Bool
row_fits r = is_u32 r.id && is_u32 r.hops

rows_fit : (peers : List PeerRow) → All IsPeerRow peers → list_all row_fits peers ≡ true
rows_fit [] all = refl
rows_fit (r ∷ rs) all =
    let one : IsPeerRow r = all 0 r (omega arith) in
    let rest : All IsPeerRow rs = λ k d lt. all (suc k) d (omega (arith, lt)) in
    rw (lt-ltb r.id (2 ^ 32) one.fits, lt-ltb r.hops (2 ^ 32) (omega (arith, one.hops))) (rows_fit rs rest)

found_fit : (peers : List PeerRow) (samples : ℕ → Option ℕ) (n : ℕ) → All IsPeerRow peers → n ≤ 32 → list_all candidate_fits (candidates peers samples n) ≡ true
found_fit peers samples n all few =
    found_pass candidate_fits row_fits peers samples n
    (λ r bits k. let two = and_parts (is_u32 r.id) (is_u32 r.hops) k in
    rw (two.0, two.1, lt-ltb (coverage bits n) (2 ^ 32) (omega (arith, coverage_within bits n, few)), lt-ltb n (2 ^ 32) (omega (arith, few))) refl)
    (rows_fit peers all)

all_known : (f : ℕ → Bool) (peers : List PeerRow) → ((q : ℕ) → list_any (λ (r : PeerRow). r.id == q) peers ≡ true → f q ≡ true) → list_all (λ (r : PeerRow). f r.id) peers ≡ true
all_known f [] known = refl
all_known f (r ∷ rs) known =
    let here : f r.id ≡ true = known r.id (rw (eq-eqb r.id r.id refl) refl) in
    rw here (all_known f rs (λ q k. known q (rw k (or_true (r.id == q)))))
  where
    or_true : (b : Bool) → (b || true) ≡ true
    or_true true = refl
    or_true false = refl

found_peers : (h : List Change) (settings : Settings) (samples : ℕ → Option ℕ) (n : ℕ) → (state h).settings ≡ Some settings → list_all (λ (x : Candidate). is_peer (state h) x.peer) (candidates settings.peers samples n) ≡ true
found_peers h settings samples n is =
    found_pass (λ (x : Candidate). is_peer (state h) x.peer) (λ (r : PeerRow). is_peer (state h) r.id) settings.peers samples n (λ r bits k. k)
    (all_known (is_peer (state h)) settings.peers (λ q k. rows_are_peers h q ∙ ap (λ o. peer_in o q) is ∙ k))

-- ---- the choice

-- what is chosen at a tick: those that are found, in their order
pub record IsFound (settings : Settings) (n : Situation) (q : Question) (cs : List Candidate) : Type 0 where
  pub asked : IsOpen (state n.history) q
  pub some : 1 ≤ length (candidates settings.peers (sample_of n.volatile) (length q.names))
  pub order : put_all [] (candidates settings.peers (sample_of n.volatile) (length q.names)) ≡ cs

pub choice_cases : (P : Type 0) (settings : Settings) (n : Situation) (p : ℕ) (cs : List Candidate) → choice_at settings n p ≡ Some cs → ((q : Question) → IsFound settings n q cs → P) → P
choice_cases P settings n p cs is found_so =
    by_cases (is_last settings.peers p)
    (λ k. let chosen : choice_by settings.peers (sample_of n.volatile) (later (of_peer n.volatile p).clock) (open_question (state n.history)) ≡ Some cs = rw k at is in
    by_question (later (of_peer n.volatile p).clock) (open_question (state n.history)) refl chosen)
    (λ k. let none : None ≡ Some cs = rw k at is in absurd (cc (none)))
  where
    by_question : (clock : ℕ) (o : Option Question) → open_question (state n.history) ≡ o → choice_by settings.peers (sample_of n.volatile) clock o ≡ Some cs → P
    by_question clock None o k = absurd (cc (k))
    by_question clock (Some q) o k =
        let found = candidates settings.peers (sample_of n.volatile) (length q.names) in
        by_cases (is_ready (length settings.peers) (length found) clock)
        (λ j. let one : Some (put_all [] found) ≡ Some cs = rw j at k in
        let order : put_all [] found ≡ cs = cc (one) in
        let two = and_parts (nat_lt 0 (length found)) (length found == length settings.peers || nat_le ticks_to_choose clock) j in
        found_so q (record { asked = open_is (state n.history) q o; some = ltb-true 0 (length found) two.0; order = order }))
        (λ j. let none : None ≡ Some cs = rw j at k in absurd (cc (none)))

-- those that are found may be chosen, in their order
found_may : (settings : Settings) (h : List Change) (samples : ℕ → Option ℕ) (n : ℕ) → IsValid h → (state h).settings ≡ Some settings → 1 ≤ n → n ≤ 32 → 1 ≤ length (candidates settings.peers samples n) → MayTake (state h) (Chose (record { candidates = put_all [] (candidates settings.peers samples n) }))
found_may settings h samples n v is some few found =
    let s = state h in
    let read = settings_read h settings is in
    let all = candidates settings.peers samples n in
    let asked = found_asked settings.peers samples n some in
    let one = found_distinct settings.peers samples n read.distinct in
    let ordered = put_all [] all in
    let long : length ordered ≡ length all = put_long all in
    let count : is_count (length ordered) ≡ true = lt-ltb (length ordered) (2 ^ 32) (omega (arith, long, found_few settings.peers samples n, read.few_peers)) in
    let first : nat_le 1 (length ordered) ≡ true = le-leb 1 (length ordered) (omega (arith, long, found)) in
    record {
      grammar = count;
      may = rw (
        begun_here h v.some,
        first,
        put_distinct all one,
        all_hold (λ (x : Candidate). is_peer s x.peer) [] all refl (found_peers h settings samples n is),
        all_hold (λ (x : Candidate). nat_le 1 x.of) [] all refl asked,
        next_in_order ordered (put_in_order all asked one),
      ) refl;
      widths = all_hold candidate_fits [] all refl (found_fit settings.peers samples n read.peers few);
      brings = refl;
      answerable = refl;
    }

-- what is chosen at a tick may be made
pub choice_may : (settings : Settings) (n : Situation) (p : ℕ) (cs : List Candidate) → IsValid n.history → (state n.history).settings ≡ Some settings → choice_at settings n p ≡ Some cs → MayTake (state n.history) (Chose (record { candidates = cs }))
choice_may settings n p cs v is chosen =
    choice_cases (MayTake (state n.history) (Chose (record { candidates = cs }))) settings n p cs chosen
    (λ q f. subst (λ (l : List Candidate). MayTake (state n.history) (Chose (record { candidates = l }))) f.order
    (found_may settings n.history (sample_of n.volatile) (length q.names) v is f.asked.some_names (few_asked (state n.history) q f.asked.asked) f.some))
