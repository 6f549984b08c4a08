-- What `init` comes to: the text that was read, and each way that it may end.
use Rattle.std.proofs.Common.{◌≡◌, ◌≢◌, ◌⊎◌, inl, inr, ⊎_elim, ℕ, ◌<◌, ◌≤◌, nat_le, List, [], ◌∷◌, length, take, Option, Some, None, IfSome, refl, sym, ◌∙◌, ap, subst, arith}
use Rattle.std.proofs.lemmas.Bool.{leb-true, leb-false}
use Rattle.std.proofs.lemmas.List.{length-take, take_all}
use Rattle.psb_settings.specs.Settings.{settings_of}
use Rattle.psb_settings.specs.declared.settings.Settings.{Settings}
use Rattle.psb_settings.proofs.Texts.{long_text}
use Rattle.psb_digest.specs.Clashes.{Pair}
use Rattle.psb_station.specs.View.{View, Outside}
use Rattle.psb_station.specs.Calls.{Grows, Rose}
use Rattle.psb_station.specs.Span.{Shows, Tells_bytes, DiskWorks, Keeps}
use Rattle.psb_station.specs.Folder.{FolderView, Content, File, found}
use Rattle.psb_station.proofs.Spans.{shows_wider, at_some, if_some, tells_some, told_before, same_some}
use Rattle.node_journal.specs.Entry.{Entry}
use Rattle.psb_model.proofs.ByObject.{by_cases}
use Rattle.node_core.specs.Begun.{begun_with, first_situation}
use Rattle.node_history.specs.Stands.{ReopensTo}
use Rattle.node_core.specs.Stored.{Knows, Stored}
use Rattle.node_core.specs.declared.node.Node.{Node}
use Rattle.node_core.proofs.Reopened.{image_reopens}
use Rattle.node_serve.proofs.Tries.{told_from}
use Rattle.backup_cli.specs.Files.{IsFrontOf, OnlyReads}
use Rattle.said_lines.specs.Lines.{node_line}
use Rattle.said_lines.specs.Says.{Utters, IsRefusal}
use Rattle.said_lines.specs.Status.{refusal_line}
use Rattle.backup_cli.specs.Begun.{IsEmpty, HasSettings, HasNoSettings, Stays, HasBegun, MayBegin, IsEnd, Begins, Completes, Stops}
use Rattle.said_lines.specs.declared.status.Status.{Status}
use Rattle.said_lines.specs.declared.status.Status.TheVariants.{Done, Usage, DiskFault, LinkFault, FolderFault, SayFault, NotNode, Already, BadSettings, NoSnapshot, TooLarge, Clash, Memory}
use Rattle.backup_cli.proofs.Commanding.{NoOther}
use Rattle.said_lines.proofs.Utterances.{utters_tells}
use Rattle.backup_cli.proofs.FileReads.{if_one}

-- ---- the text

pub short_enough : (bytes : List ℕ) (s : Settings) → settings_of (take 65537 bytes) ≡ Some s → length bytes ≤ 65537
short_enough bytes s valid =
    by_cases (nat_le (length bytes) 65537) (λ e. leb-true (length bytes) 65537 e)
    (λ e. let long : 65537 < length bytes = leb-false (length bytes) 65537 e in
    let none : settings_of (take 65537 bytes) ≡ None = long_text (take 65537 bytes) (omega (arith, length-take 65537 bytes, long)) in
    absurd (cc (none, valid)))

-- a front of 65,537 bytes that says settings is the whole file
abbrev pub is_settings : (file : List ℕ) (folder : FolderView) (text : List ℕ) (s : Settings) → IfSome folder.content (λ c. IsFrontOf c file 65537 text) → settings_of text ≡ Some s → HasSettings file folder
is_settings file folder text s front valid = record {
  text = text;
  settings = s;
  valid = valid;
  file_is = if_one folder.content (λ c. IsFrontOf c file 65537 text) (λ c. found c file ≡ Some (File text))
      (λ c f. f.file ∙ ap (λ (l : List ℕ). Some (File l)) (sym (f.front ∙ take_all 65537 f.bytes (short_enough f.bytes s (ap settings_of (sym f.front) ∙ valid))))) front;
}

none_in_all : (bytes : List ℕ) → settings_of (take 65537 bytes) ≡ None → settings_of bytes ≡ None
none_in_all bytes none =
    by_cases (nat_le (length bytes) 65537) (λ e. ap settings_of (sym (take_all 65537 bytes (leb-true (length bytes) 65537 e))) ∙ none)
    (λ e. let long : 65537 < length bytes = leb-false (length bytes) 65537 e in long_text bytes (omega (arith, long)))

-- and one that says none shows that the file says none
pub is_no_settings : (file : List ℕ) (folder : FolderView) (text : List ℕ) → IfSome folder.content (λ c. IsFrontOf c file 65537 text) → settings_of text ≡ None → HasNoSettings file folder
is_no_settings file folder text front none =
    if_one folder.content (λ c. IsFrontOf c file 65537 text) (λ c. (l : List ℕ) × (found c file ≡ Some (File l)) × (settings_of l ≡ None))
    (λ c f. (f.bytes, f.file, none_in_all f.bytes (ap settings_of (sym f.front) ∙ none))) front

-- ---- the disk

pub empty_then : (v0 v1 : View) → Keeps v0 v1 → (Tells_bytes v1 → IsEmpty v0) → IsEmpty v1
empty_then v0 v1 keeps empty = if_some v1.bytes (λ b. b ≡ []) (λ b is. at_some v0.bytes (λ b. b ≡ []) b (empty (tells_some v1.bytes b is)) (told_before v0.bytes v1.bytes keeps.bytes b is))

-- the node that was begun holds its history on the disk
pub disk_begun : {L : Type 0} (holds : L → List Entry → List ℕ → Type 0) (stands : List Entry → List ℕ → Type 0) (law : (log : L) (es : List Entry) (c : List ℕ) → holds log es c → stands es c)
    (node : Node L) (text : List ℕ) (v0 v1 v2 : View) → Keeps v0 v1 → Knows node (first_situation text) → (Tells_bytes v2 → (s : Stored holds node (begun_with text) v2) × (s.less ≡ begun_with text))
    → Tells_bytes v2 → Shows (ReopensTo stands (begun_with text)) v2
disk_begun holds stands law node text v0 v1 v2 keeps knows stored tells =
    let st = (stored tells).0 in
    shows_wider (holds node.log st.records) (ReopensTo stands (begun_with text)) v2 (λ c is. image_reopens holds stands law node (begun_with text) v2 knows.valid st c is) st.shows

-- the length tells whether the disk is empty
length_none : (b : List ℕ) → length b ≡ 0 → b ≡ []
length_none [] none = refl
length_none (x ∷ xs) none = absurd (omega (arith, none))

pub empty_of : (o : Option (List ℕ)) (n : ℕ) → n ≡ 0 → IfSome o (λ b. n ≡ length b) → IfSome o (λ b. b ≡ [])
empty_of o n none len = if_one o (λ b. n ≡ length b) (λ b. b ≡ []) (λ b is. length_none b (sym is ∙ none)) len

pub some_of : (o : Option (List ℕ)) (n : ℕ) → (n ≡ 0 → ⊥) → IfSome o (λ b. n ≡ length b) → IfSome o (λ b. b ≢ [])
some_of o n some len = if_one o (λ b. n ≡ length b) (λ b. b ≢ []) (λ b is none. some (is ∙ ap length none)) len

-- ---- why no node was begun

-- the disk was looked at
pub stops_first : (file : List ℕ) (v0 v1 : View) (f0 : FolderView) (status : Status) → (status ≡ Already) ⊎ (status ≡ DiskFault) → Keeps v0 v1
    → (status ≡ Already → Tells_bytes v1 → IfSome v0.bytes (λ b. b ≢ [])) → (status ≡ DiskFault → Rose v0.disk_faults v1.disk_faults) → Stops file v0 v1 f0 f0 status
stops_first file v0 v1 f0 status is keeps already rose = record {
  ends = ⊎_elim (λ e. inr (inr (inl e))) (λ e. inl e) is;
  already = already;
  empty = λ other. absurd (⊎_elim (λ e. ⊎_elim (λ a. absurd (cc (e, a))) (λ a. absurd (cc (e, a))) is) (λ e. ⊎_elim (λ a. absurd (cc (e, a))) (λ a. absurd (cc (e, a))) is) other);
  bad_settings = λ e. absurd (⊎_elim (λ a. absurd (cc (e, a))) (λ a. absurd (cc (e, a))) is);
  written = inl keeps;
  disk_cause = rose;
  folder_cause = λ e. absurd (⊎_elim (λ a. absurd (cc (e, a))) (λ a. absurd (cc (e, a))) is);
}

-- the file could not be read
pub stops_unread : (file : List ℕ) (v0 v1 : View) (f0 f1 : FolderView) → Keeps v0 v1 → (Tells_bytes v1 → IsEmpty v0) → Rose f0.folder_faults f1.folder_faults → Stops file v0 v1 f0 f1 FolderFault
stops_unread file v0 v1 f0 f1 keeps empty rose = record {
  ends = inr (inl refl);
  already = λ e. absurd (cc e);
  empty = λ _. empty;
  bad_settings = λ e. absurd (cc e);
  written = inl keeps;
  disk_cause = λ e. absurd (cc e);
  folder_cause = λ _. rose;
}

-- there was no memory
pub stops_memory : (file : List ℕ) (v0 v1 : View) (f0 f1 : FolderView) → Keeps v0 v1 → Stops file v0 v1 f0 f1 Memory
stops_memory file v0 v1 f0 f1 keeps = record {
  ends = inr (inr (inr (inr refl)));
  already = λ e. absurd (cc e);
  empty = λ other. absurd (⊎_elim (λ e. absurd (cc e)) (λ e. absurd (cc e)) other);
  bad_settings = λ e. absurd (cc e);
  written = inl keeps;
  disk_cause = λ e. absurd (cc e);
  folder_cause = λ e. absurd (cc e);
}

-- the text says no settings
pub stops_bad : (file : List ℕ) (v0 v1 : View) (f0 f1 : FolderView) → Keeps v0 v1 → (Tells_bytes v1 → IsEmpty v0) → HasNoSettings file f1 → Stops file v0 v1 f0 f1 BadSettings
stops_bad file v0 v1 f0 f1 keeps empty bad = record {
  ends = inr (inr (inr (inl refl)));
  already = λ e. absurd (cc e);
  empty = λ _. empty;
  bad_settings = λ _. bad;
  written = inl keeps;
  disk_cause = λ e. absurd (cc e);
  folder_cause = λ e. absurd (cc e);
}

-- the disk failed
pub stops_disk : (file : List ℕ) (v0 v1 : View) (f0 f1 : FolderView) → Keeps v0 v1 ⊎ MayBegin file v0 v1 f1 → Rose v0.disk_faults v1.disk_faults → Stops file v0 v1 f0 f1 DiskFault
stops_disk file v0 v1 f0 f1 written rose = record {
  ends = inl refl;
  already = λ e. absurd (cc e);
  empty = λ other. absurd (⊎_elim (λ e. absurd (cc e)) (λ e. absurd (cc e)) other);
  bad_settings = λ e. absurd (cc e);
  written = ⊎_elim (λ keeps. inl keeps) (λ may. inr (refl, may)) written;
  disk_cause = λ _. rose;
  folder_cause = λ e. absurd (cc e);
}

-- nothing is done to the disk by what is said
pub stays_then : (v0 v1 v3 : View) (tried : ℕ) (text : List ℕ) → NoOther v0 → Keeps v0 v1 → Utters v1 v3 tried text → Stays v0 v3
stays_then v0 v1 v3 tried text now keeps u = record {
  bytes = λ tells. u.bytes tells ∙ keeps.bytes (utters_tells v1 v3 tried text u tells);
  images = λ c k left.
      ⊎_elim
      (λ early. ⊎_elim (λ before. (now c k before).0) (λ entry. entry.0) (keeps.moments.each v0.moment c k (omega arith) early))
      (λ late. keeps.images c late.0)
      (u.moments.each v0.moment c k keeps.moments.later left);
}

outside_kept : (v0 v1 v3 : View) → v1.outside ≡ v0.outside → v3.outside ≡ record v1.outside { said = v3.outside.said; say_faults = v3.outside.say_faults }
    → v3.outside ≡ record v0.outside { said = v3.outside.said; say_faults = v3.outside.say_faults }
outside_kept v0 v1 v3 same kept = kept ∙ ap (λ (o : Outside). record o { said = v3.outside.said; say_faults = v3.outside.say_faults }) same

refusal_from : (status : Status) (v0 v1 v3 : View) (text : List ℕ) → v1.outside ≡ v0.outside → IsRefusal status text v1 v3 → IsRefusal status text v0 v3
refusal_from status v0 v1 v3 text same how = subst (λ (m : ℕ). (text ≡ refusal_line status) ⊎ ((text ≡ []) × Rose m v3.outside.say_faults)) (ap (λ (o : Outside). o.say_faults) same) how

-- ---- no node was begun

module _ (stands : List Entry → List ℕ → Type 0) (file : List ℕ) (v0 v1 v3 : View) (f0 f1 : FolderView) where
  not_well : (status other : Status) → status ≡ other → (other ≡ Done → ⊥) → (other ≡ SayFault → ⊥) → (status ≡ Done) ⊎ (status ≡ SayFault) → ⊥
  not_well status other is done say (inl d) = done (sym is ∙ d)
  not_well status other is done say (inr e) = say (sym is ∙ e)

  stopped_end : (status : Status) → (status ≡ DiskFault) ⊎ (status ≡ FolderFault) ⊎ (status ≡ Already) ⊎ (status ≡ BadSettings) ⊎ (status ≡ Memory) → IsEnd status × ((status ≡ Done) ⊎ (status ≡ SayFault) → ⊥)
  stopped_end status (inl e) = (inr (inl e), not_well status DiskFault e (λ q. absurd (cc q)) (λ q. absurd (cc q)))
  stopped_end status (inr (inl e)) = (inr (inr (inl e)), not_well status FolderFault e (λ q. absurd (cc q)) (λ q. absurd (cc q)))
  stopped_end status (inr (inr (inl e))) = (inr (inr (inr (inr (inl e)))), not_well status Already e (λ q. absurd (cc q)) (λ q. absurd (cc q)))
  stopped_end status (inr (inr (inr (inl e)))) = (inr (inr (inr (inr (inr (inl e))))), not_well status BadSettings e (λ q. absurd (cc q)) (λ q. absurd (cc q)))
  stopped_end status (inr (inr (inr (inr e)))) = (inr (inr (inr (inr (inr (inr e))))), not_well status Memory e (λ q. absurd (cc q)) (λ q. absurd (cc q)))

  on_empty : (status : Status) → ((status ≡ Done) ⊎ (status ≡ SayFault) → ⊥) → ((status ≡ FolderFault) ⊎ (status ≡ BadSettings) → Tells_bytes v1 → IsEmpty v0) → (status ≡ Done) ⊎ (status ≡ SayFault) ⊎ (status ≡ FolderFault) ⊎ (status ≡ BadSettings) → Tells_bytes v1 → IsEmpty v0
  on_empty status never empty (inl e) = absurd (never (inl e))
  on_empty status never empty (inr (inl e)) = absurd (never (inr e))
  on_empty status never empty (inr (inr rest)) = empty rest

  no_disk_fault : (status : Status) → (status ≡ Already) ⊎ (status ≡ FolderFault) ⊎ (status ≡ BadSettings) → status ≡ DiskFault → ⊥
  no_disk_fault status (inl e) other = absurd (cc (e, other))
  no_disk_fault status (inr (inl e)) other = absurd (cc (e, other))
  no_disk_fault status (inr (inr e)) other = absurd (cc (e, other))

  not_memory : (status : Status) → status ≡ Memory → status ≡ DiskFault → ⊥
  not_memory status is other = absurd (cc (is, other))

  pub stopped : (status : Status) (text : List ℕ) → NoOther v0 → DiskWorks v0 v1 → OnlyReads file f0 f1 → Stops file v0 v1 f0 f1 status → Utters v1 v3 1 text → IsRefusal status text v1 v3 → Begins stands file v0 v3 f0 f1 status
  stopped status text now works reads s u how =
      let end = stopped_end status s.ends in
      let same : v1.outside ≡ v0.outside = works.outside in
      let back : Tells_bytes v3 → Tells_bytes v1 = utters_tells v1 v3 1 text u in
      let stays : Keeps v0 v1 → Stays v0 v3 = λ keeps. stays_then v0 v1 v3 1 text now keeps u in
      record {
        ends = end.0;
        already = λ is tells. s.already is (back tells);
        empty = λ is tells. on_empty status end.1 s.empty is (back tells);
        bad_settings = s.bad_settings;
        line = text;
        said = subst (λ (o : Outside). Grows o.said v3.outside.said text) same u.said;
        refusal = λ not_done. refusal_from status v0 v1 v3 text same how;
        told = told_from v0.told v1.told v3.told v3.told 1 works.told refl u.told;
        kept = outside_kept v0 v1 v3 same u.kept;
        reads = reads;
        begun = λ well. absurd (end.1 well);
        stays = λ is. ⊎_elim stays (λ w. absurd (no_disk_fault status is w.0)) s.written;
        written = ⊎_elim (λ keeps. inl (stays keeps)) (λ w. inr (record { empty = λ tells. w.1.empty (back tells); has = w.1.has })) s.written;
        no_memory = λ is. ⊎_elim (λ keeps. inl (stays keeps)) (λ w. absurd (not_memory status is w.0)) s.written;
        disk_cause = λ is. subst (λ (m : ℕ). Rose v0.disk_faults m) (sym u.disk_faults) (s.disk_cause is);
        folder_cause = s.folder_cause;
        say_cause = λ is. absurd (end.1 (inr is));
      }

  -- ---- a node was begun

  module _ (works : DiskWorks v0 v1) (reads : OnlyReads file f0 f1) (empty : Tells_bytes v1 → IsEmpty v0) (b : HasBegun stands file v0 v1 f1) where
    -- what is said leaves the disk as it is
    abbrev begun_then : (tried : ℕ) (text : List ℕ) → Utters v1 v3 tried text → HasBegun stands file v0 v3 f1
    begun_then tried text u = record {
      has = b.has;
      disk = λ tells. let shown = b.disk (utters_tells v1 v3 tried text u tells) in record { bytes = shown.bytes; told = u.bytes tells ∙ shown.told; reads = shown.reads; images = λ c left. shown.images c (u.images c left) };
    }

    begun_as : (status : Status) → (status ≡ Done) ⊎ (status ≡ SayFault) ⊎ (status ≡ Memory) → IsEnd status
    begun_as status (inl e) = inl e
    begun_as status (inr (inl e)) = inr (inr (inr (inl e)))
    begun_as status (inr (inr e)) = inr (inr (inr (inr (inr (inr e)))))

    not_other : (status other : Status) → (status ≡ Done) ⊎ (status ≡ SayFault) ⊎ (status ≡ Memory) → (other ≡ Done → ⊥) → (other ≡ SayFault → ⊥) → (other ≡ Memory → ⊥) → status ≡ other → ⊥
    not_other status other (inl e) done say memory is = done (sym is ∙ e)
    not_other status other (inr (inl e)) done say memory is = say (sym is ∙ e)
    not_other status other (inr (inr e)) done say memory is = memory (sym is ∙ e)

    no_already : (status : Status) → (status ≡ Done) ⊎ (status ≡ SayFault) ⊎ (status ≡ Memory) → status ≡ Already → ⊥
    no_already status is = not_other status Already is (λ q. absurd (cc q)) (λ q. absurd (cc q)) (λ q. absurd (cc q))

    no_folder : (status : Status) → (status ≡ Done) ⊎ (status ≡ SayFault) ⊎ (status ≡ Memory) → status ≡ FolderFault → ⊥
    no_folder status is = not_other status FolderFault is (λ q. absurd (cc q)) (λ q. absurd (cc q)) (λ q. absurd (cc q))

    no_bad : (status : Status) → (status ≡ Done) ⊎ (status ≡ SayFault) ⊎ (status ≡ Memory) → status ≡ BadSettings → ⊥
    no_bad status is = not_other status BadSettings is (λ q. absurd (cc q)) (λ q. absurd (cc q)) (λ q. absurd (cc q))

    no_disk : (status : Status) → (status ≡ Done) ⊎ (status ≡ SayFault) ⊎ (status ≡ Memory) → status ≡ DiskFault → ⊥
    no_disk status is = not_other status DiskFault is (λ q. absurd (cc q)) (λ q. absurd (cc q)) (λ q. absurd (cc q))

    begun_ends : (status : Status) (text : List ℕ) → (status ≡ Done) ⊎ (status ≡ SayFault) ⊎ (status ≡ Memory) → Utters v1 v3 1 text → (status ≢ Done → IsRefusal status text v1 v3)
        → (status ≡ Done → text ≡ node_line b.has.settings.id (length b.has.settings.peers)) → (status ≡ SayFault → Rose v1.outside.say_faults v3.outside.say_faults) → Begins stands file v0 v3 f0 f1 status
    begun_ends status text is u how line rose =
        let same : v1.outside ≡ v0.outside = works.outside in
        record {
          ends = begun_as status is;
          already = λ e. absurd (no_already status is e);
          empty = λ _ tells. empty (utters_tells v1 v3 1 text u tells);
          bad_settings = λ e. absurd (no_bad status is e);
          line = text;
          said = subst (λ (o : Outside). Grows o.said v3.outside.said text) same u.said;
          refusal = λ not_done. refusal_from status v0 v1 v3 text same (how not_done);
          told = told_from v0.told v1.told v3.told v3.told 1 works.told refl u.told;
          kept = outside_kept v0 v1 v3 same u.kept;
          reads = reads;
          begun = λ _. (begun_then 1 text u, line);
          stays = λ other. absurd (⊎_elim (λ e. no_already status is e) (λ rest. ⊎_elim (λ e. no_folder status is e) (λ e. no_bad status is e) rest) other);
          written = inr (record { empty = λ tells. empty (utters_tells v1 v3 1 text u tells); has = b.has });
          no_memory = λ _. inr (begun_then 1 text u);
          disk_cause = λ e. absurd (no_disk status is e);
          folder_cause = λ e. absurd (no_folder status is e);
          say_cause = λ e. subst (λ (o : Outside). Rose o.say_faults v3.outside.say_faults) same (rose e);
        }

    pub begun_done : Utters v1 v3 1 (node_line b.has.settings.id (length b.has.settings.peers)) → Begins stands file v0 v3 f0 f1 Done
    begun_done u = begun_ends Done (node_line b.has.settings.id (length b.has.settings.peers)) (inl refl) u (λ not_done. absurd (not_done refl)) (λ _. refl) (λ e. absurd (cc e))

    pub begun_unsaid : Utters v1 v3 1 [] → Rose v1.outside.say_faults v3.outside.say_faults → Begins stands file v0 v3 f0 f1 SayFault
    begun_unsaid u rose = begun_ends SayFault [] (inr (inl refl)) u (λ _. inl refl) (λ e. absurd (cc e)) (λ _. rose)

    pub begun_no_memory : (text : List ℕ) → Utters v1 v3 1 text → IsRefusal Memory text v1 v3 → Begins stands file v0 v3 f0 f1 Memory
    begun_no_memory text u how = begun_ends Memory text (inr (inr refl)) u (λ _. how) (λ e. absurd (cc e)) (λ e. absurd (cc e))

-- ---- the other answers

-- a status among these is none of the others
pub not_among : (status other : Status) → IsEnd status → (other ≡ Done → ⊥) → (other ≡ DiskFault → ⊥) → (other ≡ FolderFault → ⊥) → (other ≡ SayFault → ⊥) → (other ≡ Already → ⊥) → (other ≡ BadSettings → ⊥) → (other ≡ Memory → ⊥) → status ≢ other
not_among status other (inl e) a b c d f g h is = a (sym is ∙ e)
not_among status other (inr (inl e)) a b c d f g h is = b (sym is ∙ e)
not_among status other (inr (inr (inl e))) a b c d f g h is = c (sym is ∙ e)
not_among status other (inr (inr (inr (inl e)))) a b c d f g h is = d (sym is ∙ e)
not_among status other (inr (inr (inr (inr (inl e))))) a b c d f g h is = f (sym is ∙ e)
not_among status other (inr (inr (inr (inr (inr (inl e)))))) a b c d f g h is = g (sym is ∙ e)
not_among status other (inr (inr (inr (inr (inr (inr e)))))) a b c d f g h is = h (sym is ∙ e)

pub never_usage : (status : Status) → IsEnd status → status ≢ Usage
never_usage status is = not_among status Usage is (λ q. absurd (cc q)) (λ q. absurd (cc q)) (λ q. absurd (cc q)) (λ q. absurd (cc q)) (λ q. absurd (cc q)) (λ q. absurd (cc q)) (λ q. absurd (cc q))

pub never_not_node : (status : Status) → IsEnd status → status ≢ NotNode
never_not_node status is = not_among status NotNode is (λ q. absurd (cc q)) (λ q. absurd (cc q)) (λ q. absurd (cc q)) (λ q. absurd (cc q)) (λ q. absurd (cc q)) (λ q. absurd (cc q)) (λ q. absurd (cc q))

pub never_link_fault : (status : Status) → IsEnd status → status ≢ LinkFault
never_link_fault status is = not_among status LinkFault is (λ q. absurd (cc q)) (λ q. absurd (cc q)) (λ q. absurd (cc q)) (λ q. absurd (cc q)) (λ q. absurd (cc q)) (λ q. absurd (cc q)) (λ q. absurd (cc q))

pub never_no_snapshot : (status : Status) (k : ℕ) → IsEnd status → status ≢ NoSnapshot k
never_no_snapshot status k is = not_among status (NoSnapshot k) is (λ q. absurd (cc q)) (λ q. absurd (cc q)) (λ q. absurd (cc q)) (λ q. absurd (cc q)) (λ q. absurd (cc q)) (λ q. absurd (cc q)) (λ q. absurd (cc q))

pub never_too_large : (status : Status) → IsEnd status → status ≢ TooLarge
never_too_large status is = not_among status TooLarge is (λ q. absurd (cc q)) (λ q. absurd (cc q)) (λ q. absurd (cc q)) (λ q. absurd (cc q)) (λ q. absurd (cc q)) (λ q. absurd (cc q)) (λ q. absurd (cc q))

pub never_clash : (status : Status) (c : Pair) → IsEnd status → status ≢ Clash c
never_clash status c is = not_among status (Clash c) is (λ q. absurd (cc q)) (λ q. absurd (cc q)) (λ q. absurd (cc q)) (λ q. absurd (cc q)) (λ q. absurd (cc q)) (λ q. absurd (cc q)) (λ q. absurd (cc q))

-- ---- what is enough

no_bytes : (o : Option (List ℕ)) → o ≡ Some [] → IfSome o (λ b. b ≢ []) → ⊥
no_bytes o is some = at_some o (λ b. b ≢ []) [] some is refl

has_some : (file : List ℕ) (folder : FolderView) (c : Content) (text : List ℕ) (s : Settings) → folder.content ≡ Some c → found c file ≡ Some (File text) → settings_of text ≡ Some s → HasNoSettings file folder → ⊥
has_some file folder c text s told there valid none =
    let n = at_some folder.content (λ k. (l : List ℕ) × (found k file ≡ Some (File l)) × (settings_of l ≡ None)) c none told in
    let same : File n.0 ≡ File text = same_some (found c file) (File n.0) (File text) n.1 there in
    let alike : n.0 ≡ text = cc same in
    let unsaid : settings_of text ≡ None = ap settings_of (sym alike) ∙ n.2 in
    absurd (cc (unsaid, valid))

pub completes : (stands : List Entry → List ℕ → Type 0) (file : List ℕ) (old new : View) (before after : FolderView) (status : Status) → Begins stands file old new before after status → Completes file old new before after status
completes stands file old new before after status b tells shows empty c text settings told there valid disk folder say = go b.ends
  where
    go : IsEnd status → (status ≡ Done) ⊎ (status ≡ Memory)
    go (inl e) = inl e
    go (inr (inl e)) = absurd (disk (b.disk_cause e))
    go (inr (inr (inl e))) = absurd (folder (b.folder_cause e))
    go (inr (inr (inr (inl e)))) = absurd (say (b.say_cause e))
    go (inr (inr (inr (inr (inl e))))) = absurd (no_bytes old.bytes empty (b.already e tells))
    go (inr (inr (inr (inr (inr (inl e)))))) = absurd (has_some file after c text settings (b.reads.content shows ∙ told) there valid (b.bad_settings e))
    go (inr (inr (inr (inr (inr (inr e)))))) = inr e
