-- A restore that finds a body for each place does not fall short.
use Rattle.std.proofs.Common.{◌≡◌, ◌≢◌, ◌⊎◌, inl, inr, ⊎_elim, ℕ, Bool, true, false, List, [], ◌∷◌, ◌++◌, length, take, Option, Some, None, IfSome, is_some, refl, sym, ◌∙◌, ap, subst}
use Rattle.std.proofs.lemmas.Bool.{false≢true, true≢false}
use Rattle.std.proofs.Math.Seq.{take-length}
use Rattle.psb_bytes.specs.declared.ids.Ref.{Ref}
use Rattle.psb_bytes.specs.declared.ids.Ticket.{Ticket}
use Rattle.psb_station.specs.View.{View, Heard}
use Rattle.psb_station.specs.Folder.{Content, FolderView, Tells_content}
use Rattle.psb_station.proofs.Spans.{same_some}
use Rattle.node_journal.specs.Entry.{Entry}
use Rattle.psb_settings.specs.declared.settings.Settings.{Settings}
use Rattle.psb_model.specs.History.{state}
use Rattle.psb_model.specs.declared.change.Change.{Change}
use Rattle.psb_machine.specs.Machine.{Situation, fresh}
use Rattle.psb_machine.specs.Course.{Step, after_all}
use Rattle.node_serve.specs.Hears.{Hears, clock_of}
use Rattle.node_serve.specs.Joins.{nodes_of, join_answers}
use Rattle.snapshots.specs.Meaning.{Place}
use Rattle.snapshots.specs.Writing.{Writes, IsNotEmpty, with_places}
use Rattle.snapshots.proofs.GotReads.{bad_texts_are_met}
use Rattle.snapshot_restore.specs.Answers.{answers}
use Rattle.snapshot_restore.specs.Course.{Fetch, all_of, fetch_steps, heard_in, restore_steps}
use Rattle.snapshot_restore.specs.Taken.{Taken, taken_uses, fetches, AllOpen, NoneOpens, IsVain, AreTaken, IsSpent}
use Rattle.snapshot_restore.specs.Fetching.{IsSpentOn, IsVainOn}
use Rattle.snapshot_restore.specs.Reading.{AreNext}
use Rattle.snapshot_restore.proofs.GotTaken.{bad_got}
use Rattle.snapshot_restore.specs.declared.fault.RestoreFault.{RestoreFault}
use Rattle.snapshot_restore.specs.declared.fault.RestoreFault.TheVariants as restore_fault
use Rattle.backup_cli.specs.RestoredTo.{status_of, kept_ticket, ticket_at, HearsThen, FindsNone, FallsShort, EndsSaying, Outcome, RestoresTo, IsSuppliedAt, IsSupplied, AnyOpens, HasBodies}
use Rattle.backup_cli.specs.declared.words.Which.{Which}
use Rattle.said_lines.specs.declared.status.Status.{Status}
use Rattle.said_lines.specs.declared.status.Status.TheVariants.{Done, DiskFault, LinkFault, FolderFault, SayFault, NotEmpty, Memory}

-- ---- the plain premise

any_none : (r : Ref) (bodies : List (List ℕ)) → AnyOpens r bodies → NoneOpens r bodies → ⊥
any_none r [] any none = any
any_none r (body ∷ bodies) (inl one) none = true≢false (sym one ∙ none.0)
any_none r (body ∷ bodies) (inr more) none = any_none r bodies more none.1

all_open : (settings : Settings) (turns : ℕ) (n : Situation) (clock : ℕ) (ts : List Taken) → AreTaken settings turns n clock ts → AllOpen ts
all_open settings turns n clock [] taken = tt
all_open settings turns n clock (t ∷ ts) taken =
    (⊎_elim (λ own. own.1.1) (λ came. came.1.opens_it) taken.0, all_open settings turns (after_all n (fetch_steps settings t.reference.name clock 0 t.rounds)) (clock_of clock (all_of t.rounds)) ts taken.1)

pub supplied_by : (h : List Change) (settings : Settings) (t : Ticket) (turns : ℕ) (old new : View) → HasBodies h settings t turns old new → IsSupplied h settings t turns old new
supplied_by h settings t turns old new b = record {
  bodies = λ ts r more rounds next taken spent hears.
      ⊎_elim
      (λ own. inl (λ none. true≢false (sym own.1.1 ∙ none own.0 own.1.0)))
      (λ came. inr (λ none. any_none r (answers settings r.name (all_of rounds)) came none))
      (b.each ts r more rounds next taken spent hears);
  texts = λ ts last fault place taken hears bad.
      b.apart ts last taken hears
      (bad_texts_are_met b.bodies (taken_uses ts) t b.tree b.means_it (bad_got t.levels (t.reference ∷ []) ts fault place bad (all_open settings turns (fresh h) 0 ts taken)));
}

-- ---- a restore that falls short

not_in_vain : (settings : Settings) (n : Situation) (r : Ref) (rounds : List (List Heard)) (got : Option (List ℕ)) → IsSuppliedAt settings n r rounds → IsVain settings n r rounds got → ⊥
not_in_vain settings n r rounds got s v = ⊎_elim (λ own. own v.none) (λ came. came v.others) s

-- all nodes were joined
joined_all : (old new : View) (settings : Settings) (made : ℕ) (answers heard : List Heard) → Hears old new (take made (nodes_of settings)) answers → HearsThen settings made answers heard
    → Hears old new (nodes_of settings) (join_answers (length (nodes_of settings)) true ++ heard)
joined_all old new settings made answers heard h then =
    subst (λ (js : List (ℕ × List ℕ)). Hears old new js (join_answers (length (nodes_of settings)) true ++ heard)) (take-length (nodes_of settings))
    (subst (λ (k : ℕ). Hears old new (take k (nodes_of settings)) (join_answers k true ++ heard)) then.all_joined
    (subst (λ (l : List Heard). Hears old new (take made (nodes_of settings)) l) then.answers_are h))

-- nothing was written, so the target is what it was
target_same : (was is : FolderView) (root : List ℕ) (places : List Place) → Writes root was is places → places ≡ [] → Tells_content is → IfSome was.content (λ c. ¬ IsNotEmpty c root) → IfSome is.content (λ c. IsNotEmpty c root) → ⊥
target_same was is root places w none told empty full = known was.content is.content (w.tells told) told empty full (λ c d a b. w.content c d a b ∙ ap (λ (l : List Place). with_places root c l) none)
  where
    known : (o p : Option Content) → is_some o ≡ true → is_some p ≡ true → IfSome o (λ c. ¬ IsNotEmpty c root) → IfSome p (λ c. IsNotEmpty c root) → ((c d : Content) → o ≡ Some c → p ≡ Some d → d ≡ c) → ⊥
    known (Some c) (Some d) a b empty full same = empty (subst (λ (x : Content). IsNotEmpty x root) (same c d refl refl) full)
    known None p a b empty full same = false≢true a
    known (Some c) None a b empty full same = false≢true b

module _ (h : List Change) (settings : Settings) (t : Ticket) (root : List ℕ) (turns : ℕ) (old new : View) (was is : FolderView) (supplied : IsSupplied h settings t turns old new) where
  no_vain : (made : ℕ) (answers : List Heard) (ts : List Taken) (next : List Ref) (last : List Fetch) (name : List ℕ) (got : Option (List ℕ)) (ok : Bool) → AreNext t ts next → AreTaken settings turns (fresh h) 0 ts → IsSpentOn turns name next last ok
      → IsVainOn settings (after_all (fresh h) (restore_steps settings 0 (fetches ts))) next last got → Hears old new (take made (nodes_of settings)) answers → HearsThen settings made answers (heard_in (fetches ts ++ last)) → ⊥
  no_vain made answers ts next last name got ok inside taken spent v hears then =
      let all = joined_all old new settings made answers (heard_in (fetches ts ++ last)) hears then in
      let same : v.rounds ≡ spent.rounds = ap first_rounds (sym v.last_is ∙ spent.last_is) in
      not_in_vain settings (after_all (fresh h) (restore_steps settings 0 (fetches ts))) v.r v.rounds got
      (supplied.bodies ts v.r v.more v.rounds (subst (λ (l : List Ref). AreNext t ts l) v.next_is inside) taken
      (subst (λ (l : List (List Heard)). IsSpent turns l) (sym same) spent.spent)
      (subst (λ (l : List Fetch). Hears old new (nodes_of settings) (join_answers (length (nodes_of settings)) true ++ heard_in (fetches ts ++ l))) v.last_is all))
      v.vain
    where
      first_rounds : List Fetch → List (List Heard)
      first_rounds [] = []
      first_rounds (f ∷ fs) = f.rounds

  not_short : (status : Status) (made : ℕ) (answers : List Heard) (steps failed undone : List Step) (e : RestoreFault) → FallsShort h settings t root turns was is made answers steps failed undone e → status ≡ status_of e → Hears old new (take made (nodes_of settings)) answers
      → Tells_content is → IfSome was.content (λ c. ¬ IsNotEmpty c root) → (status ≡ NotEmpty → IfSome is.content (λ c. IsNotEmpty c root))
      → status ≢ DiskFault → status ≢ LinkFault → status ≢ FolderFault → (status ≡ Done) ⊎ (status ≡ Memory)
  not_short status made answers steps failed undone (restore_fault.Node f) s by hears told empty full disk link folder = absurd (disk by)
  not_short status made answers steps failed undone restore_fault.Link s by hears told empty full disk link folder = absurd (link by)
  not_short status made answers steps failed undone restore_fault.Folder s by hears told empty full disk link folder = absurd (folder by)
  not_short status made answers steps failed undone restore_fault.NotEmpty s by hears told empty full disk link folder = absurd (target_same was is root s.left.places s.left.writes s.at_once.2 told empty (full by))
  not_short status made answers steps failed undone (restore_fault.Missing name) s by hears told empty full disk link folder =
      absurd (no_vain made answers s.left.ts s.left.next s.left.last name None s.left.ok s.left.here s.taken s.left.spends s.in_vain hears s.hears)
  not_short status made answers steps failed undone (restore_fault.Altered name got) s by hears told empty full disk link folder =
      absurd (no_vain made answers s.left.ts s.left.next s.left.last name (Some got) s.left.ok s.left.here s.taken s.left.spends s.in_vain hears s.hears)
  not_short status made answers steps failed undone (restore_fault.BadSkeleton f place) s by hears told empty full disk link folder =
      absurd (supplied.texts s.left.ts s.left.last f place s.taken (joined_all old new settings made answers (heard_in (fetches s.left.ts ++ s.left.last)) hears s.hears) s.left.here.0)
  not_short status made answers steps failed undone restore_fault.Memory s by hears told empty full disk link folder = inr by

-- the statuses of a tree that was restored
said_status : (status : Status) (line : List ℕ) (failed undone : List Step) → EndsSaying status line failed undone → (status ≡ Done) ⊎ (status ≡ SayFault) ⊎ (status ≡ Memory)
said_status Done line failed undone is = inl refl
said_status SayFault line failed undone is = inr (inl refl)
said_status Memory line failed undone is = inr (inr refl)
said_status status line failed undone is = absurd is

-- no kept snapshot has the number, and yet one was found
none_found : (h : List Change) (which : Which) (t : Ticket) (status : Status) → FindsNone h which status → ticket_at (state h).kept which ≡ Some t → ⊥
none_found h which t status f found = not_both (kept_ticket (state h).kept f.number) f.absent (ap (λ (w : Which). ticket_at (state h).kept w) (sym f.which_is) ∙ found)
  where
    not_both : (o : Option Ticket) → o ≡ None → o ≡ Some t → ⊥
    not_both o a b = absurd (cc (a, b))

pub comes_back : (stands : List Entry → List ℕ → Type 0) (h : List Change) (settings : Settings) (which : Which) (root : List ℕ) (turns : ℕ) (t : Ticket) (old new : View) (was is : FolderView) (status : Status)
    → ((opened : Bool) × RestoresTo stands h settings which root turns opened old new was is status) → ticket_at (state h).kept which ≡ Some t
    → IfSome was.content (λ c. ¬ IsNotEmpty c root) → IsSupplied h settings t turns old new → Tells_content is → (status ≡ NotEmpty → IfSome is.content (λ c. IsNotEmpty c root))
    → status ≢ DiskFault → status ≢ LinkFault → status ≢ FolderFault → status ≢ SayFault → (status ≡ Done) ⊎ (status ≡ Memory)
comes_back stands h settings which root turns t old new was is status (false, r) found empty supplied told full disk link folder say =
    ⊎_elim (λ e. absurd (disk e)) (λ e. inr e) (r.unopened refl).0
comes_back stands h settings which root turns t old new was is status (true, r) found empty supplied told full disk link folder say =
    ⊎_elim (λ none. absurd (none_found h which t status none.0 found))
    (λ some. ends (subst (λ (x : Ticket). Outcome h settings x root turns was is r.made r.answers r.steps r.lines r.course.failed r.course.undone status) (same_some (ticket_at (state h).kept which) some.0 t some.1 found) some.2))
    (r.comes_to refl)
  where
    ends : Outcome h settings t root turns was is r.made r.answers r.steps r.lines r.course.failed r.course.undone status → (status ≡ Done) ⊎ (status ≡ Memory)
    ends (inl unjoined) = absurd (link unjoined.0.status_is)
    ends (inr (inl made)) = ⊎_elim (λ e. inl e) (λ o. ⊎_elim (λ e. absurd (say e)) (λ e. inr e) o) (said_status status _ _ _ made.3)
    ends (inr (inr short)) = not_short h settings t root turns old new was is supplied status r.made r.answers r.steps r.course.failed r.course.undone short.0 short.1 short.3 r.hears told empty full disk link folder
