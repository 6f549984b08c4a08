-- Runs that take bodies, one behind another.
use Rattle.std.proofs.Common.{◌≡◌, inl, inr, ⊎_elim, ℕ, Bool, true, false, List, [], ◌++◌, Option, Some, None, refl, sym, ◌∙◌, ap, subst, append_assoc}
use Rattle.std.proofs.lemmas.Bool.{false≢true}
use Rattle.std.proofs.lemmas.List.{append-nil}
use Rattle.psb_bytes.specs.declared.ids.Ref.{Ref}
use Rattle.psb_station.specs.View.{View, Heard}
use Rattle.node_journal.specs.Entry.{Entry}
use Rattle.psb_settings.specs.declared.settings.Settings.{Settings}
use Rattle.psb_machine.specs.Machine.{Situation}
use Rattle.psb_machine.specs.Course.{Step, after_all}
use Rattle.psb_machine.specs.Commands.{peer_ids}
use Rattle.psb_machine.proofs.Courses.{after_all-append}
use Rattle.node_core.specs.declared.node.Node.{Node}
use Rattle.node_serve.specs.Hears.{clock_of}
use Rattle.node_serve.specs.Spans.{no_tally, Fed, FedBy}
use Rattle.node_serve.proofs.Runs.{all_done, fed_none, fed_then, fed_as, uncounted, by_whole, by_then, by_as}
use Rattle.snapshot_restore.specs.Course.{Fetch, heard_in, restore_steps}
use Rattle.snapshot_restore.specs.Taken.{Taken, fetches, AreTaken}
use Rattle.snapshot_restore.specs.Fetching.{Begins, Takes, TakesAll, IsSpentOn, IsCutOn, Spends, IsVainOn, IsVainSoFar, IsInVain, Stops}
use Rattle.snapshot_restore.specs.declared.fault.RestoreFault.{RestoreFault}
use Rattle.snapshot_restore.specs.declared.fault.RestoreFault.TheVariants as restore_fault
use Rattle.snapshot_restore.specs.declared.waiting.Waiting.{Waiting}
use Rattle.snapshot_restore.proofs.Awaiting.{runs_then}
use Rattle.snapshot_restore.proofs.Courses.{heard_in-append, restore_steps-append}
use Rattle.snapshot_restore.proofs.Lists.{fetches-append, open_then, taken_then}
use Rattle.snapshot_restore.proofs.Rounds.{runs_none, runs_as, begins_then}

-- a fault that is of no place, and not of the link
abbrev pub IsQuiet : RestoreFault → Type 0
IsQuiet (restore_fault.Node f) = Unit {0}
IsQuiet restore_fault.Link = ⊥
IsQuiet restore_fault.Folder = Unit {0}
IsQuiet restore_fault.NotEmpty = Unit {0}
IsQuiet (restore_fault.Missing n) = ⊥
IsQuiet (restore_fault.Altered n got) = ⊥
IsQuiet (restore_fault.BadSkeleton f place) = Unit {0}
IsQuiet restore_fault.Memory = Unit {0}

pub quiet_spends : (turns : ℕ) (next : List Ref) (e : RestoreFault) → IsQuiet e → Spends turns next [] true e
quiet_spends turns next (restore_fault.Node f) is = inl (refl, refl)
quiet_spends turns next restore_fault.Link is = absurd is
quiet_spends turns next restore_fault.Folder is = (refl, refl)
quiet_spends turns next restore_fault.NotEmpty is = (refl, refl)
quiet_spends turns next (restore_fault.Missing n) is = absurd is
quiet_spends turns next (restore_fault.Altered n got) is = absurd is
quiet_spends turns next (restore_fault.BadSkeleton f place) is = (refl, refl)
quiet_spends turns next restore_fault.Memory is = inl (refl, refl)

pub quiet_in_vain : (st : Settings) (n : Situation) (next : List Ref) (e : RestoreFault) → IsQuiet e → IsInVain st n next [] e
quiet_in_vain st n next (restore_fault.Node f) is = inl refl
quiet_in_vain st n next restore_fault.Link is = absurd is
quiet_in_vain st n next restore_fault.Folder is = tt
quiet_in_vain st n next restore_fault.NotEmpty is = tt
quiet_in_vain st n next (restore_fault.Missing m) is = absurd is
quiet_in_vain st n next (restore_fault.Altered m got) is = absurd is
quiet_in_vain st n next (restore_fault.BadSkeleton f place) is = tt
quiet_in_vain st n next restore_fault.Memory is = inl refl

-- ---- more places would have followed

spent_more : (turns : ℕ) (name : List ℕ) (next more : List Ref) (last : List Fetch) (ok : Bool) → IsSpentOn turns name next last ok → IsSpentOn turns name (next ++ more) last ok
spent_more turns name next more last ok s = record { r = s.r; more = s.more ++ more; rounds = s.rounds; next_is = ap (λ (l : List Ref). l ++ more) s.next_is; name_is = s.name_is; last_is = s.last_is; spent = s.spent; all_fed = s.all_fed }

cut_more : (turns : ℕ) (next more : List Ref) (last : List Fetch) (ok : Bool) (e : RestoreFault) → IsCutOn turns next last ok e → IsCutOn turns (next ++ more) last ok e
cut_more turns next more last ok e s = record { r = s.r; more = s.more ++ more; front = s.front; part = s.part; next_is = ap (λ (l : List Ref). l ++ more) s.next_is; last_is = s.last_is; soon = s.soon; whole = s.whole; ends = s.ends }

spends_more : (turns : ℕ) (next more : List Ref) (last : List Fetch) (ok : Bool) (e : RestoreFault) → Spends turns next last ok e → Spends turns (next ++ more) last ok e
spends_more turns next more last ok (restore_fault.Node f) s = ⊎_elim (λ none. inl none) (λ cut. inr (cut_more turns next more last ok (restore_fault.Node f) cut)) s
spends_more turns next more last ok restore_fault.Link s = cut_more turns next more last ok restore_fault.Link s
spends_more turns next more last ok restore_fault.Folder s = s
spends_more turns next more last ok restore_fault.NotEmpty s = s
spends_more turns next more last ok (restore_fault.Missing n) s = spent_more turns n next more last ok s
spends_more turns next more last ok (restore_fault.Altered n got) s = spent_more turns n next more last ok s
spends_more turns next more last ok (restore_fault.BadSkeleton f place) s = s
spends_more turns next more last ok restore_fault.Memory s = ⊎_elim (λ none. inl none) (λ cut. inr (cut_more turns next more last ok restore_fault.Memory cut)) s

vain_more : (st : Settings) (n : Situation) (next more : List Ref) (last : List Fetch) (got : Option (List ℕ)) → IsVainOn st n next last got → IsVainOn st n (next ++ more) last got
vain_more st n next more last got s = record { r = s.r; more = s.more ++ more; rounds = s.rounds; next_is = ap (λ (l : List Ref). l ++ more) s.next_is; last_is = s.last_is; vain = s.vain }

so_far_more : (st : Settings) (n : Situation) (next more : List Ref) (last : List Fetch) → IsVainSoFar st n next last → IsVainSoFar st n (next ++ more) last
so_far_more st n next more last s = record { r = s.r; more = s.more ++ more; front = s.front; part = s.part; next_is = ap (λ (l : List Ref). l ++ more) s.next_is; last_is = s.last_is; one = s.one; none = s.none; others = s.others }

in_vain_more : (st : Settings) (n : Situation) (next more : List Ref) (last : List Fetch) (e : RestoreFault) → IsInVain st n next last e → IsInVain st n (next ++ more) last e
in_vain_more st n next more last (restore_fault.Node f) s = ⊎_elim (λ none. inl none) (λ vain. inr (so_far_more st n next more last vain)) s
in_vain_more st n next more last restore_fault.Link s = so_far_more st n next more last s
in_vain_more st n next more last restore_fault.Folder s = tt
in_vain_more st n next more last restore_fault.NotEmpty s = tt
in_vain_more st n next more last (restore_fault.Missing m) s = vain_more st n next more last None s
in_vain_more st n next more last (restore_fault.Altered m got) s = vain_more st n next more last (Some got) s
in_vain_more st n next more last (restore_fault.BadSkeleton f place) s = tt
in_vain_more st n next more last restore_fault.Memory s = ⊎_elim (λ none. inl none) (λ vain. inr (so_far_more st n next more last vain)) s

module _ {L : Type 0} (holds : L → List Entry → List ℕ → Type 0) (stands : List Entry → List ℕ → Type 0) (broken : L → Bool) (law : (log : L) (es : List Entry) (c : List ℕ) → holds log es c → stands es c) where
  nothing_fed : (peers : List ℕ) (node : Node L) (v : View) (n : Situation) (st : Settings) → Begins holds peers node v n st → Fed holds stands broken node node v v n [] None true
  nothing_fed peers node v n st b = uncounted holds stands broken law node node v v n [] (Some no_tally) true (fed_none holds stands broken law node n v b.knows b.stored)

  pub takes_none : (w : Waiting) (node : Node L) (v : View) → broken node.log ≡ false → Takes holds stands broken w w node node v v []
  takes_none w node v sound = record {
    run = runs_none w v;
    whole = sound;
    open_all = tt;
    all = λ told n st b. record { fed = nothing_fed w.peers node v n st b; taken = tt };
  }

  -- where the next run begins
  after_taken : (w0 w1 : Waiting) (n0 n1 : Node L) (v0 v1 : View) (ts : List Taken) (n : Situation) (st : Settings) → Takes holds stands broken w0 w1 n0 n1 v0 v1 ts → Begins holds w0.peers n0 v0 n st
      → TakesAll holds stands broken w0.turns w0.clock n0 n1 v0 v1 n st ts → Begins holds w1.peers n1 v1 (after_all n (restore_steps st w0.clock (fetches ts))) st
  after_taken w0 w1 n0 n1 v0 v1 ts n st r b a =
      let course = restore_steps st w0.clock (fetches ts) in
      subst (λ (steps : List Step). Begins holds w1.peers n1 v1 (after_all n steps) st) (sym (all_done holds stands broken law n0 n1 v0 v1 n course None a.fed))
      (begins_then holds stands broken law w0.peers w1.peers n0 n1 v0 v1 n st course true r.run.still.peers r.whole b a.fed)

  -- the courses are one
  fed_both : (w0 w1 : Waiting) (n0 n1 n2 : Node L) (v0 v1 v2 : View) (ts : List Taken) (fs : List Fetch) (n : Situation) (st : Settings) (ok : Bool) → Takes holds stands broken w0 w1 n0 n1 v0 v1 ts
      → TakesAll holds stands broken w0.turns w0.clock n0 n1 v0 v1 n st ts → Fed holds stands broken n1 n2 v1 v2 (after_all n (restore_steps st w0.clock (fetches ts))) (restore_steps st w1.clock fs) None ok
      → Fed holds stands broken n0 n2 v0 v2 n (restore_steps st w0.clock (fetches ts ++ fs)) None ok
  fed_both w0 w1 n0 n1 n2 v0 v1 v2 ts fs n st ok r a g =
      let course = restore_steps st w0.clock (fetches ts) in
      fed_as holds stands broken law n0 n2 v0 v2 n (course ++ restore_steps st w1.clock fs) (restore_steps st w0.clock (fetches ts ++ fs)) None ok
      (ap (λ (c : ℕ). course ++ restore_steps st c fs) r.run.clock_is ∙ sym (restore_steps-append st w0.clock (fetches ts) fs))
      (fed_then holds stands broken law n0 n1 n2 v0 v1 v2 n course (restore_steps st w1.clock fs) None None ok a.fed
      (subst (λ (steps : List Step). Fed holds stands broken n1 n2 v1 v2 (after_all n steps) (restore_steps st w1.clock fs) None ok) (all_done holds stands broken law n0 n1 v0 v1 n course None a.fed) g))

  by_both : (w0 w1 : Waiting) (n0 n1 n2 : Node L) (v0 v1 v2 : View) (ts : List Taken) (fs : List Fetch) (n : Situation) (st : Settings) (ok : Bool) → Takes holds stands broken w0 w1 n0 n1 v0 v1 ts
      → TakesAll holds stands broken w0.turns w0.clock n0 n1 v0 v1 n st ts → FedBy holds stands broken n1 n2 v1 v2 (after_all n (restore_steps st w0.clock (fetches ts))) (peer_ids st) w1.clock (heard_in fs) (restore_steps st w1.clock fs) None ok
      → FedBy holds stands broken n0 n2 v0 v2 n (peer_ids st) w0.clock (heard_in (fetches ts ++ fs)) (restore_steps st w0.clock (fetches ts ++ fs)) None ok
  by_both w0 w1 n0 n1 n2 v0 v1 v2 ts fs n st ok r a g =
      let course = restore_steps st w0.clock (fetches ts) in
      let front = heard_in (fetches ts) in
      let mid = clock_of w0.clock front in
      let all = restore_steps st w0.clock (fetches ts ++ fs) in
      subst (λ (l : List Heard). FedBy holds stands broken n0 n2 v0 v2 n (peer_ids st) w0.clock l all None ok) (sym (heard_in-append (fetches ts) fs))
      (by_as holds stands broken law n0 n2 v0 v2 n (peer_ids st) w0.clock (front ++ heard_in fs) (course ++ restore_steps st mid fs) all None ok (sym (restore_steps-append st w0.clock (fetches ts) fs))
      (by_then holds stands broken law n0 n1 n2 v0 v1 v2 n (peer_ids st) w0.clock front (heard_in fs) course (restore_steps st mid fs) None None ok a.fed
      (subst (λ (c : ℕ). FedBy holds stands broken n1 n2 v1 v2 (after_all n a.fed.done) (peer_ids st) c (heard_in fs) (restore_steps st c fs) None ok) r.run.clock_is
      (subst (λ (steps : List Step). FedBy holds stands broken n1 n2 v1 v2 (after_all n steps) (peer_ids st) w1.clock (heard_in fs) (restore_steps st w1.clock fs) None ok) (all_done holds stands broken law n0 n1 v0 v1 n course None a.fed) g))))

  taken_both : (w0 w1 : Waiting) (n0 n1 : Node L) (v0 v1 : View) (ts us : List Taken) (n : Situation) (st : Settings) → Takes holds stands broken w0 w1 n0 n1 v0 v1 ts → AreTaken st w0.turns n w0.clock ts
      → AreTaken st w1.turns (after_all n (restore_steps st w0.clock (fetches ts))) w1.clock us → AreTaken st w0.turns n w0.clock (ts ++ us)
  taken_both w0 w1 n0 n1 v0 v1 ts us n st r a b =
      let m = after_all n (restore_steps st w0.clock (fetches ts)) in
      taken_then st w0.turns n w0.clock ts us a
      (subst (λ (c : ℕ). AreTaken st w0.turns m c us) r.run.clock_is (subst (λ (k : ℕ). AreTaken st k m w1.clock us) r.run.still.turns b))

  pub takes_then : (w0 w1 w2 : Waiting) (n0 n1 n2 : Node L) (v0 v1 v2 : View) (ts us : List Taken) → Takes holds stands broken w0 w1 n0 n1 v0 v1 ts → Takes holds stands broken w1 w2 n1 n2 v1 v2 us → Takes holds stands broken w0 w2 n0 n2 v0 v2 (ts ++ us)
  takes_then w0 w1 w2 n0 n1 n2 v0 v1 v2 ts us r s =
      let joined : fetches (ts ++ us) ≡ fetches ts ++ fetches us = fetches-append ts us in
      record {
        run = runs_as w0 w2 v0 v2 (heard_in (fetches ts) ++ heard_in (fetches us)) (heard_in (fetches (ts ++ us))) (sym (ap heard_in joined ∙ heard_in-append (fetches ts) (fetches us)))
            (runs_then w0 w1 w2 v0 v1 v2 (heard_in (fetches ts)) (heard_in (fetches us)) r.run s.run);
        whole = s.whole;
        open_all = open_then ts us r.open_all s.open_all;
        all = λ told n st b.
            let a = r.all (s.run.tells told) n st b in
            let g = s.all told (after_all n (restore_steps st w0.clock (fetches ts))) st (after_taken w0 w1 n0 n1 v0 v1 ts n st r b a) in
            record {
              fed = subst (λ (fs : List Fetch). Fed holds stands broken n0 n2 v0 v2 n (restore_steps st w0.clock fs) None true) (sym joined) (fed_both w0 w1 n0 n1 n2 v0 v1 v2 ts (fetches us) n st true r a g.fed);
              taken = taken_both w0 w1 n0 n1 v0 v1 ts us n st r a.taken g.taken;
            };
      }

  pub stops_none : (w : Waiting) (node : Node L) (v : View) (next : List Ref) (e : RestoreFault) → broken node.log ≡ false → IsQuiet e → Stops holds stands broken w w node node v v [] next e
  stops_none w node v next e sound quiet = record {
    last = [];
    ok = true;
    run = runs_none w v;
    unbroken = λ broke. absurd (false≢true (sym sound ∙ broke));
    open_all = tt;
    spends = quiet_spends w.turns next e quiet;
    all = λ told n st b. record {
      fed = by_whole holds stands broken law node node v v n (peer_ids st) w.clock [] [] None (nothing_fed w.peers node v n st b);
      taken = tt;
      in_vain = quiet_in_vain st n next e quiet;
    };
  }

  pub stops_behind : (w0 w1 w2 : Waiting) (n0 n1 n2 : Node L) (v0 v1 v2 : View) (ts us : List Taken) (next : List Ref) (e : RestoreFault) → Takes holds stands broken w0 w1 n0 n1 v0 v1 ts → Stops holds stands broken w1 w2 n1 n2 v1 v2 us next e
      → Stops holds stands broken w0 w2 n0 n2 v0 v2 (ts ++ us) next e
  stops_behind w0 w1 w2 n0 n1 n2 v0 v1 v2 ts us next e r s =
      let fs = fetches us ++ s.last in
      let joined : fetches (ts ++ us) ++ s.last ≡ fetches ts ++ fs = ap (λ (l : List Fetch). l ++ s.last) (fetches-append ts us) ∙ append_assoc (fetches ts) (fetches us) s.last in
      record {
        last = s.last;
        ok = s.ok;
        run = runs_as w0 w2 v0 v2 (heard_in (fetches ts) ++ heard_in fs) (heard_in (fetches (ts ++ us) ++ s.last)) (sym (ap heard_in joined ∙ heard_in-append (fetches ts) fs))
            (runs_then w0 w1 w2 v0 v1 v2 (heard_in (fetches ts)) (heard_in fs) r.run s.run);
        unbroken = s.unbroken;
        open_all = open_then ts us r.open_all s.open_all;
        spends = subst (λ (k : ℕ). Spends k next s.last s.ok e) r.run.still.turns s.spends;
        all = λ told n st b.
            let a = r.all (s.run.tells told) n st b in
            let course = restore_steps st w0.clock (fetches ts) in
            let g = s.all told (after_all n course) st (after_taken w0 w1 n0 n1 v0 v1 ts n st r b a) in
            let behind = restore_steps st w1.clock (fetches us) in
            record {
              fed = subst (λ (l : List Fetch). FedBy holds stands broken n0 n2 v0 v2 n (peer_ids st) w0.clock (heard_in l) (restore_steps st w0.clock l) None s.ok) (sym joined) (by_both w0 w1 n0 n1 n2 v0 v1 v2 ts fs n st s.ok r a g.fed);
              taken = taken_both w0 w1 n0 n1 v0 v1 ts us n st r a.taken g.taken;
              in_vain = subst (λ (steps : List Step). IsInVain st (after_all n steps) next s.last e)
                  (ap (λ (c : ℕ). course ++ restore_steps st c (fetches us)) r.run.clock_is ∙ sym (restore_steps-append st w0.clock (fetches ts) (fetches us)) ∙ ap (restore_steps st w0.clock) (sym (fetches-append ts us)))
                  (subst (λ (m : Situation). IsInVain st m next s.last e) (sym (after_all-append n course behind)) g.in_vain);
            };
      }

  -- something else failed behind these places
  pub stopped_behind : (w0 w1 : Waiting) (n0 n1 : Node L) (v0 v1 : View) (ts : List Taken) (next : List Ref) (e : RestoreFault) → IsQuiet e → Takes holds stands broken w0 w1 n0 n1 v0 v1 ts → Stops holds stands broken w0 w1 n0 n1 v0 v1 ts next e
  stopped_behind w0 w1 n0 n1 v0 v1 ts next e quiet r =
      subst (λ (l : List Taken). Stops holds stands broken w0 w1 n0 n1 v0 v1 l next e) (append-nil ts)
      (stops_behind w0 w1 w1 n0 n1 n1 v0 v1 v1 ts [] next e r (stops_none w1 n1 v1 next e r.whole quiet))

  pub stops_before : (w0 w1 : Waiting) (n0 n1 : Node L) (v0 v1 : View) (ts : List Taken) (next more : List Ref) (e : RestoreFault) → Stops holds stands broken w0 w1 n0 n1 v0 v1 ts next e → Stops holds stands broken w0 w1 n0 n1 v0 v1 ts (next ++ more) e
  stops_before w0 w1 n0 n1 v0 v1 ts next more e s = record {
    last = s.last;
    ok = s.ok;
    run = s.run;
    unbroken = s.unbroken;
    open_all = s.open_all;
    spends = spends_more w0.turns next more s.last s.ok e s.spends;
    all = λ told n st b.
        let a = s.all told n st b in
        record { fed = a.fed; taken = a.taken; in_vain = in_vain_more st (after_all n (restore_steps st w0.clock (fetches ts))) next more s.last e a.in_vain };
  }
