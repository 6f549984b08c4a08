-- The body of one place.
use Rattle.std.proofs.Common.{◌≡◌, inl, inr, ⊎_elim, ℕ, ◌<◌, ◌≤◌, Bool, true, false, List, [], ◌∷◌, ◌++◌, length, Option, Some, None, refl, sym, ◌∙◌, ap, subst, arith}
use Rattle.std.proofs.lemmas.Bool.{false≢true}
use Rattle.std.proofs.lemmas.List.{append-nil}
use Rattle.psb_bytes.specs.declared.ids.Ref.{Ref}
use Rattle.convergent_seal.specs.Sealing.{opened}
use Rattle.psb_station.specs.View.{View, Outside, Heard}
use Rattle.psb_station.specs.Span.{Tells_bytes, Keeps}
use Rattle.psb_station.proofs.Spans.{weakened}
use Rattle.node_journal.specs.Entry.{Entry}
use Rattle.psb_settings.specs.declared.settings.Settings.{Settings}
use Rattle.psb_machine.specs.Machine.{Situation}
use Rattle.psb_machine.specs.Course.{after_all}
use Rattle.psb_machine.specs.Commands.{peer_ids}
use Rattle.node_core.specs.declared.node.Node.{Node}
use Rattle.node_serve.specs.Sends.{ToldMore}
use Rattle.node_serve.specs.Spans.{IsPrefixSoon, Fed, FedBy}
use Rattle.node_core.proofs.Reopened.{stored_at, stored_reopens}
use Rattle.node_serve.proofs.Prefixes.{whole, whole_has_all}
use Rattle.node_serve.proofs.Runs.{fed_then, fed_as, by_whole, by_then, by_as}
use Rattle.node_serve.proofs.Tries.{told_none, sent_none}
use Rattle.snapshot_restore.specs.Answers.{answers}
use Rattle.snapshot_restore.specs.Course.{Fetch, all_of, fetch_steps}
use Rattle.snapshot_restore.specs.Taken.{Taken, NoneOwn, NoneOpens, AreWhole, last_of}
use Rattle.snapshot_restore.specs.Faults.{IsOfRead, IsOfPlace}
use Rattle.snapshot_restore.specs.Fetching.{Begins, Runs, IsOwn, Awaits, EndsIn, SpendsAll, TellsLast, StopsAwaiting, Takes, IsSpentOn, IsCutOn, Spends, IsVainOn, IsVainSoFar, IsInVain, Stops}
use Rattle.snapshot_restore.specs.declared.fault.RestoreFault.{RestoreFault}
use Rattle.snapshot_restore.specs.declared.fault.RestoreFault.TheVariants as restore_fault
use Rattle.snapshot_restore.specs.declared.waiting.Waiting.{Waiting}
use Rattle.snapshot_restore.proofs.Awaiting.{runs_then}
use Rattle.snapshot_restore.proofs.Rounds.{grows_same, runs_as, begins_then}

-- ---- a look

runs_kept : (w : Waiting) (v0 v1 : View) → Keeps v0 v1 → Runs w w v0 v1 []
runs_kept w v0 v1 k =
    let out = k.works.outside in
    record {
      hears = record { heard = grows_same v0.outside.heard v1.outside.heard (ap (λ (o : Outside). o.heard) out); joined = grows_same v0.outside.joined v1.outside.joined (ap (λ (o : Outside). o.joined) out) };
      clock_is = refl;
      still = record { peers = refl; turns = refl };
      tells = k.works.tells;
      counts = record {
        disk_faults = k.works.disk_faults;
        link_faults = omega (arith, ap (λ (o : Outside). o.link_faults) out);
        send_faults = omega (arith, ap (λ (o : Outside). o.send_faults) out);
      };
    }

-- ---- no body

-- the node's own body was not read, and nothing was asked for
read_spends : (turns : ℕ) (next : List Ref) (e : RestoreFault) → IsOfRead e → Spends turns next [] true e
read_spends turns next (restore_fault.Node f) is = inl (refl, refl)
read_spends turns next restore_fault.Link is = absurd is
read_spends turns next restore_fault.Folder is = absurd is
read_spends turns next restore_fault.NotEmpty is = absurd is
read_spends turns next (restore_fault.Missing n) is = absurd is
read_spends turns next (restore_fault.Altered n got) is = absurd is
read_spends turns next (restore_fault.BadSkeleton f place) is = absurd is
read_spends turns next restore_fault.Memory is = inl (refl, refl)

read_in_vain : (st : Settings) (n : Situation) (next : List Ref) (e : RestoreFault) → IsOfRead e → IsInVain st n next [] e
read_in_vain st n next (restore_fault.Node f) is = inl refl
read_in_vain st n next restore_fault.Link is = absurd is
read_in_vain st n next restore_fault.Folder is = absurd is
read_in_vain st n next restore_fault.NotEmpty is = absurd is
read_in_vain st n next (restore_fault.Missing m) is = absurd is
read_in_vain st n next (restore_fault.Altered m got) is = absurd is
read_in_vain st n next (restore_fault.BadSkeleton f place) is = absurd is
read_in_vain st n next restore_fault.Memory is = inl refl

pub read_of_place : (e : RestoreFault) → IsOfRead e → IsOfPlace e
read_of_place (restore_fault.Node f) is = is
read_of_place restore_fault.Link is = absurd is
read_of_place restore_fault.Folder is = absurd is
read_of_place restore_fault.NotEmpty is = absurd is
read_of_place (restore_fault.Missing n) is = absurd is
read_of_place (restore_fault.Altered n got) is = absurd is
read_of_place (restore_fault.BadSkeleton f place) is = absurd is
read_of_place restore_fault.Memory is = tt

abbrev asked_for : Ref → List (List Heard) → List Fetch
asked_for r rounds = record { name = r.name; rounds = rounds } ∷ []

-- all turns were made
all_made : (front part : List (List Heard)) → part ≡ [] → front ++ part ≡ front
all_made front part none = ap (λ (l : List (List Heard)). front ++ l) none ∙ append-nil front

all_spent : (turns : ℕ) (name : List ℕ) (r : Ref) (front part : List (List Heard)) (ok : Bool) → AreWhole front → (name ≡ r.name) × (length front ≡ turns) × (part ≡ []) × (ok ≡ true) → IsSpentOn turns name (r ∷ []) (asked_for r (front ++ part)) ok
all_spent turns name r front part ok whole is =
    let same = all_made front part is.2 in
    record {
      r = r;
      more = [];
      rounds = front ++ part;
      next_is = refl;
      name_is = is.0;
      last_is = ap (λ (m : List ℕ). let f : Fetch = record { name = m; rounds = front ++ part } in f ∷ []) (sym is.0);
      spent = record { many = ap (λ (l : List (List Heard)). length l) same ∙ is.1; whole = subst AreWhole (sym same) whole };
      all_fed = is.3;
    }

cut_on : (turns : ℕ) (r : Ref) (front part : List (List Heard)) (ok : Bool) (e : RestoreFault) → AreWhole front → (length front < turns) × EndsIn e part ok → IsCutOn turns (r ∷ []) (asked_for r (front ++ part)) ok e
cut_on turns r front part ok e whole is = record { r = r; more = []; front = front; part = part; next_is = refl; last_is = refl; soon = is.0; whole = whole; ends = is.1 }

spent_on : (turns : ℕ) (r : Ref) (front part : List (List Heard)) (ok : Bool) (e : RestoreFault) → IsOfPlace e → AreWhole front → SpendsAll turns r.name (length front) part ok e → Spends turns (r ∷ []) (asked_for r (front ++ part)) ok e
spent_on turns r front part ok (restore_fault.Node f) of_place whole is = inr (cut_on turns r front part ok (restore_fault.Node f) whole is)
spent_on turns r front part ok restore_fault.Link of_place whole is = cut_on turns r front part ok restore_fault.Link whole is
spent_on turns r front part ok restore_fault.Folder of_place whole is = absurd of_place
spent_on turns r front part ok restore_fault.NotEmpty of_place whole is = absurd of_place
spent_on turns r front part ok (restore_fault.Missing n) of_place whole is = all_spent turns n r front part ok whole is
spent_on turns r front part ok (restore_fault.Altered n got) of_place whole is = all_spent turns n r front part ok whole is
spent_on turns r front part ok (restore_fault.BadSkeleton f place) of_place whole is = absurd of_place
spent_on turns r front part ok restore_fault.Memory of_place whole is = inr (cut_on turns r front part ok restore_fault.Memory whole is)

one_part : (e : RestoreFault) (part : List (List Heard)) (ok : Bool) → EndsIn e part ok → length part ≤ 1
one_part e part ok ends =
    ⊎_elim (λ some. omega (arith, ap (λ (l : List (List Heard)). length l) some.1)) (λ none. omega (arith, ap (λ (l : List (List Heard)). length l) none.1)) ends

all_vain : (st : Settings) (n : Situation) (r : Ref) (front part : List (List Heard)) (got : Option (List ℕ)) → NoneOwn n.history r → NoneOpens r (answers st r.name (all_of front)) → last_of (answers st r.name (all_of front)) ≡ got → part ≡ []
    → IsVainOn st n (r ∷ []) (asked_for r (front ++ part)) got
all_vain st n r front part got none others last empty =
    let same : front ≡ front ++ part = sym (all_made front part empty) in
    record {
      r = r;
      more = [];
      rounds = front ++ part;
      next_is = refl;
      last_is = refl;
      vain = record {
        none = none;
        others = subst (λ (l : List (List Heard)). NoneOpens r (answers st r.name (all_of l))) same others;
        last_is = subst (λ (l : List (List Heard)). last_of (answers st r.name (all_of l)) ≡ got) same last;
      };
    }

vain_so_far : (st : Settings) (n : Situation) (r : Ref) (front part : List (List Heard)) (ok : Bool) (e : RestoreFault) → NoneOwn n.history r → NoneOpens r (answers st r.name (all_of front)) → EndsIn e part ok
    → IsVainSoFar st n (r ∷ []) (asked_for r (front ++ part))
vain_so_far st n r front part ok e none others ends = record { r = r; more = []; front = front; part = part; next_is = refl; last_is = refl; one = one_part e part ok ends; none = none; others = others }

in_vain_on : (turns : ℕ) (st : Settings) (n : Situation) (r : Ref) (front part : List (List Heard)) (ok : Bool) (e : RestoreFault) → NoneOwn n.history r → NoneOpens r (answers st r.name (all_of front)) → TellsLast (answers st r.name (all_of front)) e
    → SpendsAll turns r.name (length front) part ok e → IsInVain st n (r ∷ []) (asked_for r (front ++ part)) e
in_vain_on turns st n r front part ok (restore_fault.Node f) none others tells is = inr (vain_so_far st n r front part ok (restore_fault.Node f) none others is.1)
in_vain_on turns st n r front part ok restore_fault.Link none others tells is = vain_so_far st n r front part ok restore_fault.Link none others is.1
in_vain_on turns st n r front part ok restore_fault.Folder none others tells is = tt
in_vain_on turns st n r front part ok restore_fault.NotEmpty none others tells is = tt
in_vain_on turns st n r front part ok (restore_fault.Missing m) none others tells is = all_vain st n r front part None none others tells is.2
in_vain_on turns st n r front part ok (restore_fault.Altered m got) none others tells is = all_vain st n r front part (Some got) none others tells is.2
in_vain_on turns st n r front part ok (restore_fault.BadSkeleton f place) none others tells is = tt
in_vain_on turns st n r front part ok restore_fault.Memory none others tells is = inr (vain_so_far st n r front part ok restore_fault.Memory none others is.1)

-- ---- the place

module _ {L : Type 0} (holds : L → List Entry → List ℕ → Type 0) (stands : List Entry → List ℕ → Type 0) (broken : L → Bool) (law : (log : L) (es : List Entry) (c : List ℕ) → holds log es c → stands es c) where
  -- a look feeds nothing
  pub fed_look : (node : Node L) (v0 v1 : View) (n : Situation) (st : Settings) (peers : List ℕ) → Keeps v0 v1 → Tells_bytes v1 → Begins holds peers node v0 n st → Fed holds stands broken node node v0 v1 n [] None true
  fed_look node v0 v1 n st peers k told b =
      let out = k.works.outside in
      let shows = b.stored.shows in
      let reopens = λ (c : List ℕ) (left : v0.may_leave c). stored_reopens holds stands law node n v0 b.knows.valid b.stored c left in
      record {
        done = [];
        failed = [];
        undone = [];
        parts = refl;
        one = refl;
        whole = λ is. refl;
        knows = λ is. b.knows;
        stored = λ is. stored_at holds node n.history v0 v1 b.stored (record { bytes = shows.bytes; told = k.bytes told ∙ shows.told; reads = shows.reads; images = λ c left. shows.images c (k.images c left) });
        moments = weakened v0 v1 (λ c t. v0.may_leave c × (t ≡ v0.told)) (λ c t. IsPrefixSoon stands n [] [] v0.told c t)
            (λ c t both. record { prefix = whole stands n [] v0.told c t (reopens c both.0); soon = omega (arith, both.1) }) k.moments;
        ends = λ c left. whole_has_all stands n [] c (reopens c (k.images c left));
        told = subst (λ (t : ℕ). ToldMore v0.told t 0) (sym k.works.told) (told_none v0.told);
        lost = 0;
        tried = grows_same v0.outside.tried v1.outside.tried (ap (λ (o : Outside). o.tried) out);
        sent = ([], sent_none, grows_same v0.outside.sent v1.outside.sent (ap (λ (o : Outside). o.sent) out));
        lost_cause = omega (arith, ap (λ (o : Outside). o.send_faults) out);
        said = grows_same v0.outside.said v1.outside.said (ap (λ (o : Outside). o.said) out);
        counted = tt;
      }

  pub own_taken : (w : Waiting) (node : Node L) (v0 v1 : View) (r : Ref) (plain : List ℕ) → broken node.log ≡ false → Keeps v0 v1 → IsOwn holds node v0 v1 r (Some plain)
      → (t : Taken) × (t.reference ≡ r) × (plain ≡ opened t.reference t.body) × Takes holds stands broken w w node node v0 v1 (t ∷ [])
  own_taken w node v0 v1 r plain sound k o =
      let t : Taken = record { reference = r; body = o.body; rounds = [] } in (
        t,
        refl,
        o.opens_it.1,
        record {
          run = runs_kept w v0 v1 k;
          whole = sound;
          open_all = (o.opens_it.0, tt);
          all = λ told n st begins. record {
            fed = fed_look node v0 v1 n st w.peers k told begins;
            taken = (inl (refl, (o.own told n begins.knows begins.stored).0), tt);
          };
        },
      )

  -- the node has none that opens, and nothing was fed
  looked_begins : (w : Waiting) (node : Node L) (v0 v1 : View) (n : Situation) (st : Settings) → broken node.log ≡ false → Keeps v0 v1 → Tells_bytes v1 → Begins holds w.peers node v0 n st
      → (f : Fed holds stands broken node node v0 v1 n [] None true) × Begins holds w.peers node v1 (after_all n f.done) st
  looked_begins w node v0 v1 n st sound k told b =
      let f = fed_look node v0 v1 n st w.peers k told b in
      (f, begins_then holds stands broken law w.peers w.peers node node v0 v1 n st [] true refl sound b f)

  pub awaited_taken : (w0 w1 : Waiting) (n0 n1 : Node L) (v0 v1 v2 : View) (r : Ref) (plain : List ℕ) → broken n0.log ≡ false → broken n1.log ≡ false → Keeps v0 v1 → IsOwn holds n0 v0 v1 r None
      → Awaits holds stands broken w0 w1 n0 n1 v1 v2 r plain → (t : Taken) × (t.reference ≡ r) × (plain ≡ opened t.reference t.body) × Takes holds stands broken w0 w1 n0 n1 v0 v2 (t ∷ [])
  awaited_taken w0 w1 n0 n1 v0 v1 v2 r plain sound sound1 k o a =
      let t : Taken = record { reference = r; body = a.body; rounds = a.rounds } in
      let heard = all_of a.rounds in (
        t,
        refl,
        a.plain_is,
        record {
          run = runs_as w0 w1 v0 v2 heard (heard ++ []) (sym (append-nil heard)) (runs_then w0 w0 w1 v0 v1 v2 [] heard (runs_kept w0 v0 v1 k) a.run);
          whole = sound1;
          open_all = (a.opens_it, tt);
          all = λ told n st begins.
              let mid = a.run.tells told in
              let first = looked_begins w0 n0 v0 v1 n st sound k mid begins in
              let then_ = a.fed told (after_all n first.0.done) st first.1 in
              let steps = fetch_steps st r.name w0.clock 0 a.rounds in
              record {
                fed = fed_as holds stands broken law n0 n1 v0 v2 n steps (steps ++ []) None true (sym (append-nil steps)) (fed_then holds stands broken law n0 n0 n1 v0 v1 v2 n [] steps None None true first.0 then_.0);
                taken = (inr ((o.own mid n begins.knows begins.stored).1 refl, then_.1), tt);
              };
        },
      )

  -- the node's own body was not read
  pub own_stopped : (w : Waiting) (node : Node L) (v0 v1 : View) (r : Ref) (e : RestoreFault) → broken node.log ≡ false → Keeps v0 v1 → IsOfRead e → Stops holds stands broken w w node node v0 v1 [] (r ∷ []) e
  own_stopped w node v0 v1 r e sound k is = record {
    last = [];
    ok = true;
    run = runs_kept w v0 v1 k;
    unbroken = λ broke. absurd (false≢true (sym sound ∙ broke));
    open_all = tt;
    spends = read_spends w.turns (r ∷ []) e is;
    all = λ told n st begins. record {
      fed = by_whole holds stands broken law node node v0 v1 n (peer_ids st) w.clock [] [] None (fed_look node v0 v1 n st w.peers k told begins);
      taken = tt;
      in_vain = read_in_vain st n (r ∷ []) e is;
    };
  }

  pub awaited_stopped : (w0 w1 : Waiting) (n0 n1 : Node L) (v0 v1 v2 : View) (r : Ref) (e : RestoreFault) → broken n0.log ≡ false → IsOfPlace e → Keeps v0 v1 → IsOwn holds n0 v0 v1 r None
      → StopsAwaiting holds stands broken w0 w1 n0 n1 v1 v2 r e → Stops holds stands broken w0 w1 n0 n1 v0 v2 [] (r ∷ []) e
  awaited_stopped w0 w1 n0 n1 v0 v1 v2 r e sound of_place k o s =
      let rounds = s.front ++ s.part in
      let heard = all_of rounds in
      record {
        last = asked_for r rounds;
        ok = s.ok;
        run = runs_as w0 w1 v0 v2 heard (heard ++ []) (sym (append-nil heard)) (runs_then w0 w0 w1 v0 v1 v2 [] heard (runs_kept w0 v0 v1 k) s.run);
        unbroken = s.unbroken;
        open_all = tt;
        spends = spent_on w0.turns r s.front s.part s.ok e of_place s.whole s.spends;
        all = λ told n st begins.
            let mid = s.run.tells told in
            let first = looked_begins w0 n0 v0 v1 n st sound k mid begins in
            let then_ = s.fed told (after_all n first.0.done) st first.1 in
            let steps = fetch_steps st r.name w0.clock 0 rounds in
            record {
              fed = subst (λ (l : List Heard). FedBy holds stands broken n0 n1 v0 v2 n (peer_ids st) w0.clock l (steps ++ []) None s.ok) (sym (append-nil heard))
                  (by_as holds stands broken law n0 n1 v0 v2 n (peer_ids st) w0.clock heard steps (steps ++ []) None s.ok (sym (append-nil steps))
                  (by_then holds stands broken law n0 n0 n1 v0 v1 v2 n (peer_ids st) w0.clock [] heard [] steps None None s.ok first.0 then_.0));
              taken = tt;
              in_vain = in_vain_on w0.turns st n r s.front s.part s.ok e ((o.own mid n begins.knows begins.stored).1 refl) then_.1 then_.2 s.spends;
            };
      }
