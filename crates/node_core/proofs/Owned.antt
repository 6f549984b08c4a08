-- What a node makes of an input of its own is what the machine makes of it.
use Rattle.std.proofs.Common.{◌≡◌, ◌↔◌, ℕ, ◌+◌, ◌<◌, ◌≤◌, ◌^◌, Bool, true, false, not, ◌||◌, ◌==◌, cond, get_or, List, [], ◌∷◌, ◌++◌, length, slice_get, is_some, IfSome, Option, Some, None, Result, Ok, Err, refl, sym, ◌∙◌, ap, subst, arith, length-append}
use Rattle.std.specs.Int.{to_be_bytes, w32, w64}
use Rattle.std.specs.List.{list_all, flat_map}
use Rattle.std.proofs.lemmas.Bool.{and_parts, false≢true, true≢false, eqb-true, eq-eqb}
use Rattle.std.proofs.lemmas.Option.{slice_get-get_or}
use Rattle.psb_bytes.specs.Units.{longest_chunk}
use Rattle.psb_digest.specs.Hashes.{sha}
use Rattle.psb_digest.proofs.Digests.{length-sha, AreBytes-sha}
use Rattle.psb_station.specs.View.{View}
use Rattle.psb_station.proofs.Spans.{at_some}
use Rattle.node_journal.specs.Entry.{Entry, entry}
use Rattle.psb_model.specs.Words.{name_eq}
use Rattle.psb_model.specs.State.{State, own_has, is_held, snaps_made}
use Rattle.psb_model.specs.Heads.{head_of, ticket}
use Rattle.psb_model.specs.Grammar.{is_u8, is_digest, is_u32}
use Rattle.psb_model.specs.History.{state}
use Rattle.psb_model.specs.Needed.{last_brought, IsValid}
use Rattle.psb_model.specs.declared.change.Change.{Change}
use Rattle.psb_model.specs.declared.change.Change.TheVariants.{Kept, Forgot}
use Rattle.psb_model.proofs.ByObject.{by_cases}
use Rattle.psb_model.proofs.Own.{name_refl}
use Rattle.change_codec.proofs.RecordLaws.{all_bytes}
use Rattle.change_codec.proofs.Lengths.{ticket_length, names_length}
use Rattle.model_laws.specs.Finding.{deal_proposed}
use Rattle.psb_machine.specs.Deals.{meets_others}
use Rattle.psb_machine.specs.Laws.{KeepFits, SnapFits}
use Rattle.psb_machine.specs.Machine.{Situation, Reaction as MachineReaction, Keep, on_keep, kept_with, snapped_with, has_snapshot, quiet, grows}
use Rattle.psb_machine.specs.declared.snap_note.SnapNote.{SnapNote}
use Rattle.psb_machine.proofs.Valid.{kept_may, kept_valid, snapped_may, snap_valid, forgot_may, forgot_valid}
use Rattle.chunk_store.specs.declared.owner.Owner.TheVariants.{Own}
use Rattle.chunk_store.specs.declared.store.Store.{Store}
use Rattle.chunk_store.specs.Store.{record_of, is_owner}
use Rattle.chunk_store.specs.Looks.{Compares}
use Rattle.chunk_store.specs.declared.reading.Fit.{Fit}
use Rattle.chunk_store.specs.declared.reading.Fit.TheVariants.{New}
use Rattle.chunk_store.specs.declared.error.StoreError.{StoreError}
use Rattle.chunk_store.specs.declared.error.StoreError.TheVariants.{Already, Clash, Altered, DiskFault, Memory}
use Rattle.node_core.specs.declared.fault.Fault.{Fault}
use Rattle.node_core.specs.declared.fault.Fault.TheVariants as fault
use Rattle.node_core.specs.declared.node.Node.{Node}
use Rattle.peer_states.specs.declared.peer_state.Note.TheVariants as note
use Rattle.node_core.specs.declared.reaction.Reaction.{Reaction}
use Rattle.node_letters.specs.Letters.{letters_of}
use Rattle.peer_states.specs.PeerStates.{note_in}
use Rattle.node_history.specs.Less.{IsLess}
use Rattle.node_core.specs.Making.{MayMake}
use Rattle.node_history.specs.Names.{KnowsNames}
use Rattle.node_core.specs.Reacting.{Reacts, ReactsSo, MayCome}
use Rattle.node_core.specs.Refusing.{Compared, when_taken}
use Rattle.node_history.specs.Stands.{AreDecoded}
use Rattle.node_core.specs.Stored.{Knows, Stored}
use Rattle.node_history.proofs.Brought.{held_body}
use Rattle.node_facts.proofs.Compared.{MeetsBy, look_exact}
use Rattle.node_history.proofs.Less.{state_less, names_less, last_bytes_less}
use Rattle.node_history.proofs.Named.{named_there}
use Rattle.node_facts.proofs.Compared.{meets_less}
use Rattle.node_core.proofs.Dealt.{body_short}
use Rattle.node_core.proofs.Heard.{none_spelled}
use Rattle.node_core.proofs.Committing.{may_follow}

-- ---- what was found under a name

-- no others, where the bytes fit; the first of a clash; and never what was altered
abbrev pub FoundBy : Result Fit StoreError → List Change → List ℕ → List ℕ → Type 0
FoundBy (Ok fit) h name bytes = meets_others h name bytes ≡ false
FoundBy (Err (Clash c)) h name bytes = (meets_others h name bytes ≡ true) × (is_held (state h) name ≡ true) × (last_brought name h ≡ Some c.first)
FoundBy (Err Altered) h name bytes = ⊥
FoundBy (Err _) h name bytes = Unit {0}

abbrev Was : Option ℕ → List Entry → List ℕ → Result Fit StoreError → Type 0
Was place es bytes result = IfSome place (λ k. IfSome (slice_get es k) (λ e. IfSome e.body (λ held. Compares held bytes result)))

-- a record whose body was compared is that of the bytes that were brought last
record IsMet (h : List Change) (name : List ℕ) (P : List ℕ → Type 0) : Type 0 where
  held : List ℕ
  last : last_brought name h ≡ Some held
  was : P held

met_at : (names : Store) (h : List Change) (es : List Entry) (name : List ℕ) (k : ℕ) (keeps : Bool) (P : List ℕ → Type 0) → KnowsNames names h → AreDecoded h es → record_of names name ≡ Some k → k < length es → keeps ≡ true
    → IfSome (slice_get es k) (λ e. is_some e.body ≡ keeps) → IfSome (slice_get es k) (λ e. IfSome e.body P) → IsMet h name P
met_at names h es name k keeps P knows are is inside kept there was =
    at (slice_get es k) (ap is_some (slice_get-get_or es k (entry [] []) inside)) (held_body names h es name k knows are is) there was
  where
    in_entry : (b : Option (List ℕ)) → b ≡ last_brought name h → is_some b ≡ true → IfSome b P → IsMet h name P
    in_entry None body there was = absurd (false≢true there)
    in_entry (Some held) body there was = record { held = held; last = sym body; was = was }

    at : (o : Option Entry) → is_some o ≡ true → IfSome o (λ e. e.body ≡ last_brought name h) → IfSome o (λ e. is_some e.body ≡ keeps) → IfSome o (λ e. IfSome e.body P) → IsMet h name P
    at None some body there was = absurd (false≢true some)
    at (Some e) some body there was = in_entry e.body body (there ∙ kept) was

pub look_found : (names : Store) (h : List Change) (es : List Entry) (name bytes : List ℕ) (size : ℕ) (keeps : ℕ → Bool) (result : Result Fit StoreError) → IsValid h → sha bytes ≡ name → KnowsNames names h → AreDecoded h es
    → IfSome (record_of names name) (λ k. k < size) → IfSome (record_of names name) (λ k. keeps k ≡ true) → size ≡ length es
    → ((k : ℕ) → IfSome (slice_get es k) (λ e. is_some e.body ≡ keeps k)) → (result ≡ Ok New) ↔ (record_of names name ≡ None) → Was (record_of names name) es bytes result → FoundBy result h name bytes
look_found names h es name bytes size keeps result v named knows are below there long bodies new compared =
    by_result result new compared (look_exact names h es name bytes size keeps result knows are below there long bodies new compared)
  where
    met : (k : ℕ) (P : List ℕ → Type 0) → record_of names name ≡ Some k → IfSome (slice_get es k) (λ e. IfSome e.body P) → IsMet h name P
    met k P is was =
        met_at names h es name k (keeps k) P knows are is (omega (arith, at_some (record_of names name) (λ i. i < size) k below is, long))
        (at_some (record_of names name) (λ i. keeps i ≡ true) k there is) (bodies k) was

    held_name : (k : ℕ) → record_of names name ≡ Some k → is_held (state h) name ≡ true
    held_name k is = sym (knows.held name) ∙ ap is_some is

    clash_at : (k : ℕ) (c : _) → record_of names name ≡ Some k → true ≡ meets_others h name bytes → Was (Some k) es bytes (Err (Clash c)) → FoundBy (Err (Clash c)) h name bytes
    clash_at k c is meets was =
        let m = met k (λ held. Compares held bytes (Err (Clash c))) is was in
        (sym meets, held_name k is, m.last ∙ ap (λ (l : List ℕ). Some l) (sym (ap (λ p. p.first) m.was.0)))

    altered_at : (k : ℕ) → record_of names name ≡ Some k → Was (Some k) es bytes (Err Altered) → ⊥
    altered_at k is was =
        let m = met k (λ held. Compares held bytes (Err Altered)) is was in
        m.was.1 (named_there names h name m.held v knows (λ none. absurd (let bad : Some k ≡ None = sym is ∙ none in cc)) m.last ∙ sym named)

    by_place : (o : Option ℕ) (r : Result Fit StoreError) → record_of names name ≡ o → (record_of names name ≡ None → r ≡ Ok New) → Was o es bytes r → MeetsBy r (meets_others h name bytes) → FoundBy r h name bytes
    by_place o (Ok fit) is none was meets = sym meets
    by_place o (Err Already) is none was meets = tt
    by_place None (Err (Clash c)) is none was meets = absurd (let bad : Err (Clash c) ≡ Ok New = none is in cc)
    by_place (Some k) (Err (Clash c)) is none was meets = clash_at k c is meets was
    by_place None (Err Altered) is none was meets = absurd (let bad : Err Altered ≡ Ok New = none is in cc)
    by_place (Some k) (Err Altered) is none was meets = altered_at k is was
    by_place o (Err DiskFault) is none was meets = tt
    by_place o (Err Memory) is none was meets = tt

    by_result : (r : Result Fit StoreError) → (r ≡ Ok New) ↔ (record_of names name ≡ None) → Was (record_of names name) es bytes r → MeetsBy r (meets_others h name bytes) → FoundBy r h name bytes
    by_result r new was meets = by_place (record_of names name) r refl new.1 was meets

-- what was found on the disk is so by the history
pub found_less : {R : Type 0} (h less : List Change) (name bytes : List ℕ) (names : Store) (result : Result R Fault) → IsLess h less → IsValid less → KnowsNames names less → Compared less name bytes result → Compared h name bytes result
found_less h less name bytes names (Ok x) is v knows found = sym (meets_less h less name bytes is v) ∙ found
found_less h less name bytes names (Err (fault.Clash c)) is v knows found =
    let some : record_of names name ≡ None → ⊥ = λ none. true≢false (sym found.1 ∙ sym (knows.held name) ∙ ap is_some none) in (
      sym (meets_less h less name bytes is v) ∙ found.0,
      ap (λ (s : State). is_held s name) (sym (state_less h less is)) ∙ found.1,
      last_bytes_less h less name is v names knows some ∙ found.2,
    )
found_less h less name bytes names (Err (fault.Altered q)) is v knows found = found
found_less h less name bytes names (Err fault.NotNode) is v knows found = tt
found_less h less name bytes names (Err fault.DiskFault) is v knows found = tt
found_less h less name bytes names (Err fault.Broken) is v knows found = tt
found_less h less name bytes names (Err fault.BadSettings) is v knows found = tt
found_less h less name bytes names (Err (fault.NoSnapshot k)) is v knows found = tt
found_less h less name bytes names (Err fault.Memory) is v knows found = tt

pub found_stored : {L R : Type 0} (holds : L → List Entry → List ℕ → Type 0) (node : Node L) (n : Situation) (v : View) (name bytes : List ℕ) (result : Result R Fault) → Knows node n → (s : Stored holds node n.history v)
    → (IsValid s.less → KnowsNames node.names s.less → AreDecoded s.less s.records → Compared s.less name bytes result) → Compared n.history name bytes result
found_stored holds node n v name bytes result k s found =
    let knows = names_less node.names n.history s.less s.is_less k.names in
    found_less n.history s.less name bytes node.names result s.is_less s.valid knows (found s.valid knows s.decoded)

-- ---- bytes that are kept

pub keep_fits : (name bytes : List ℕ) → sha bytes ≡ name → 1 ≤ length bytes → length bytes ≤ longest_chunk → ((k : ℕ) → get_or bytes k 0 < 256) → KeepFits name bytes
keep_fits name bytes named some short each = record {
  named = ap (λ (l : List ℕ). name_eq l name) named ∙ name_refl name;
  name_fits = ap is_digest (sym named) ∙ rw (eq-eqb (length (sha bytes)) 32 (length-sha bytes)) (all_bytes (sha bytes) (AreBytes-sha bytes));
  long = some;
  short = short;
  bytes_fit = all_bytes bytes each;
}

kept_long : (name : List ℕ) (len : ℕ) (new : Bool) (body : Option (List ℕ)) → length name ≡ 32 → length (head_of (Kept (record { name = name; len = len; new = new; body = body }))) ≡ 38
kept_long name len new body is = omega (arith, is, length-append (name ++ to_be_bytes w32 len) (cond new 1 0 ∷ []), length-append name (to_be_bytes w32 len))

kept_may_make : (h : List Change) (name bytes : List ℕ) → 1 ≤ length h → KeepFits name bytes → own_has (state h).own name ≡ false → (state h).changes < 2 ^ 62 → MayMake (state h) (kept_with (state h) name bytes)
kept_may_make h name bytes some f lacks few =
    let s = state h in
    let may = kept_may h name bytes some f lacks in
    let named : length name ≡ 32 = eqb-true (length name) 32 (and_parts (length name == 32) (list_all is_u8 name) f.name_fits).0 in
    record {
      grammar = may.0;
      may = may.1;
      few = few;
      there = refl;
      short = omega (arith, kept_long name (length bytes) (not (is_held s name)) (Some (cond (not (is_held s name)) bytes [])) named, body_short (not (is_held s name)) bytes, f.short);
    }

-- the change may come next, whatever the disk told
pub keep_may_come : {L : Type 0} (r : Reaction) (node : Node L) (name bytes : List ℕ) (c : Change) → r.change ≡ Some c → KeepFits name bytes → (n : Situation) × Knows node n → is_owner node.names Own name ≡ false → node.ledger.state.changes < 2 ^ 62
    → ((n : Situation) → Knows node n → c ≡ kept_with (state n.history) name bytes) → IfSome r.change (MayCome Knows node)
keep_may_come r node name bytes c makes f known lacks few is =
    subst (λ (o : Option Change). IfSome o (MayCome Knows node)) (sym makes) (
      may_make known,
      λ n k. may_follow n c (ap deal_proposed (is n k)) (subst (λ (d : Change). IsValid (n.history ++ d ∷ [])) (sym (is n k)) (kept_valid n.history name bytes k.valid f (free n k))),
    )
  where
    free : (n : Situation) → Knows node n → own_has (state n.history).own name ≡ false
    free n k = sym (k.names.owners Own name) ∙ lacks

    may_make : (n : Situation) × Knows node n → MayMake node.ledger.state c
    may_make known =
        let n = known.0 in
        let k = known.1 in
        subst (λ (s : State). MayMake s c) (sym k.ledger) (
        subst (λ (d : Change). MayMake (state n.history) d) (sym (is n k))
        (kept_may_make n.history name bytes k.valid.some f (free n k) (subst (λ (s : State). s.changes < 2 ^ 62) k.ledger few)))

-- it is a reaction that makes this change and tells nobody
made_here : (r : Reaction) (n : Situation) (m : MachineReaction) (c d : Change) → r.change ≡ Some c → r.note ≡ note.Nothing → r.dropped ≡ None → r.out ≡ [] → c ≡ d → m ≡ grows d → Reacts r n m
made_here r n m c d makes noted dropped out is same = subst (λ (q : MachineReaction). Reacts r n q) (sym same) (record {
  change = makes ∙ ap (λ (e : Change). Some e) is;
  letters = ap letters_of out ∙ none_spelled (state n.history).settings;
  note = ap note_in noted;
  dropped = dropped;
})

-- it is the change that the machine makes, where no others are held
pub keeps_new : {L : Type 0} (r : Reaction) (node : Node L) (n : Situation) (name bytes : List ℕ) (c : Change) → r.change ≡ Some c → r.note ≡ note.Nothing → r.dropped ≡ None → r.out ≡ [] → is_owner node.names Own name ≡ false → Knows node n → meets_others n.history name bytes ≡ false
    → c ≡ kept_with (state n.history) name bytes → Reacts r n (on_keep n name bytes)
keeps_new r node n name bytes c makes noted dropped out lacks k meets is =
    let made = grows (kept_with (state n.history) name bytes) in
    made_here r n (on_keep n name bytes) c (kept_with (state n.history) name bytes) makes noted dropped out is (
    ap (λ (b : Bool). cond (b || meets_others n.history name bytes) quiet made) (sym (k.names.owners Own name) ∙ lacks)
    ∙ ap (λ (b : Bool). cond b quiet made) meets)

-- and the one that it makes of what is taken
pub keeps_taken : {L : Type 0} (r : Reaction) (node : Node L) (n : Situation) (name bytes : List ℕ) (c : Change) → r.change ≡ Some c → r.note ≡ note.Nothing → r.dropped ≡ None → r.out ≡ [] → is_owner node.names Own name ≡ false → Knows node n
    → c ≡ kept_with (state n.history) name bytes → Reacts r n (when_taken n (Keep name bytes))
keeps_taken r node n name bytes c makes noted dropped out lacks k is =
    let made = grows (kept_with (state n.history) name bytes) in
    made_here r n (when_taken n (Keep name bytes)) c (kept_with (state n.history) name bytes) makes noted dropped out is
    (ap (λ (b : Bool). cond b quiet made) (sym (k.names.owners Own name) ∙ lacks))

-- on every disk a change is made where the machine makes one, unless bytes are compared
keep_undropped : (n : Situation) (name bytes : List ℕ) → (on_keep n name bytes).dropped ≡ None
keep_undropped n name bytes = by_cases (own_has (state n.history).own name || meets_others n.history name bytes) (λ k. rw k refl) (λ k. rw k refl)

pub keep_so : (r : Reaction) (n : Situation) (name bytes : List ℕ) → r.dropped ≡ None → (is_held (state n.history) name ≡ false → Reacts r n (on_keep n name bytes)) → ReactsSo r n (Keep name bytes)
keep_so r n name bytes dropped it = record { change = λ certain. ap (λ (o : Option Change). is_some o) (it certain).change; dropped = dropped ∙ sym (keep_undropped n name bytes) }

-- what is new here is not held
pub new_is : (names : Store) (h : List Change) (name : List ℕ) (new : Bool) → KnowsNames names h → (new ≡ true) ↔ (record_of names name ≡ None) → new ≡ not (is_held (state h) name)
new_is names h name new knows both = by_place (record_of names name) refl ∙ ap not (knows.held name)
  where
    by_place : (o : Option ℕ) → record_of names name ≡ o → new ≡ not (is_some (record_of names name))
    by_place None is = both.1 is ∙ sym (ap (λ (o : Option ℕ). not (is_some o)) is)
    by_place (Some k) is = not_new new refl ∙ sym (ap (λ (o : Option ℕ). not (is_some o)) is)
      where
        not_new : (b : Bool) → new ≡ b → new ≡ false
        not_new false e = e
        not_new true e = absurd (let none : Some k ≡ None = sym is ∙ both.0 e in cc)

-- ---- a snapshot

snapped_long : (s : State) (note : SnapNote) → SnapFits s note → length (head_of (snapped_with s note)) ≤ 67108864
snapped_long s note f =
    let a = and_parts _ _ f.widths in
    let b = and_parts _ _ a.0 in let c = and_parts _ _ b.0 in let d = and_parts _ _ c.0 in let e = and_parts _ _ d.0 in
    let t = note.ticket in
    let x = to_be_bytes w32 (snaps_made s + 1) in
    let files = to_be_bytes w32 note.files in
    let folders = to_be_bytes w32 note.folders in
    let bytes = to_be_bytes w64 note.bytes in
    let left = to_be_bytes w32 note.left in
    let names = flat_map (λ (name : List ℕ). name) note.names in
    omega (
      arith,
      ticket_length t e.0,
      names_length note.names a.1,
      f.most,
      length-append (x ++ ticket t ++ files ++ folders ++ bytes ++ left) (to_be_bytes w32 (length note.names) ++ names),
      length-append (to_be_bytes w32 (length note.names)) names,
      length-append (x ++ ticket t ++ files ++ folders ++ bytes) left,
      length-append (x ++ ticket t ++ files ++ folders) bytes,
      length-append (x ++ ticket t ++ files) folders,
      length-append (x ++ ticket t) files,
      length-append x (ticket t),
    )

pub snap_may_come : {L : Type 0} (r : Reaction) (node : Node L) (note : SnapNote) (c : Change) → r.change ≡ Some c → c ≡ snapped_with node.ledger.state note → SnapFits node.ledger.state note → (n : Situation) × Knows node n → node.ledger.state.changes < 2 ^ 62 → IfSome r.change (MayCome Knows node)
snap_may_come r node note c makes is f known few =
    subst (λ (o : Option Change). IfSome o (MayCome Knows node)) (sym makes) (
      subst (λ (d : Change). MayMake node.ledger.state d) (sym is) (may_make known),
      λ n k. may_follow n c (ap deal_proposed is) (subst (λ (d : Change). IsValid (n.history ++ d ∷ [])) (sym (is ∙ ap (λ (s : State). snapped_with s note) k.ledger)) (snap_valid n note k.valid (subst (λ (s : State). SnapFits s note) k.ledger f))),
    )
  where
    may_make : (n : Situation) × Knows node n → MayMake node.ledger.state (snapped_with node.ledger.state note)
    may_make known =
        let h = known.0.history in
        let k = known.1 in
        let here : SnapFits (state h) note = subst (λ (s : State). SnapFits s note) k.ledger f in
        let may = snapped_may h note k.valid.some here in
        subst (λ (s : State). MayMake s (snapped_with s note)) (sym k.ledger) (record {
          grammar = may.0;
          may = may.1;
          few = subst (λ (s : State). s.changes < 2 ^ 62) k.ledger few;
          there = refl;
          short = omega (arith, snapped_long (state h) note here);
        })

-- ---- a snapshot that is given up

pub forget_may_come : {L : Type 0} (r : Reaction) (node : Node L) (number : ℕ) → r.change ≡ Some (Forgot (record { number = number })) → is_u32 number ≡ true → has_snapshot node.ledger.state number ≡ true → (n : Situation) × Knows node n → node.ledger.state.changes < 2 ^ 62 → IfSome r.change (MayCome Knows node)
forget_may_come r node number makes fits has known few =
    subst (λ (o : Option Change). IfSome o (MayCome Knows node)) (sym makes) (
      may_make known,
      λ n k. may_follow n (Forgot (record { number = number })) refl (forgot_valid n.history number k.valid fits (there n k)),
    )
  where
    there : (n : Situation) → Knows node n → has_snapshot (state n.history) number ≡ true
    there n k = ap (λ (s : State). has_snapshot s number) (sym k.ledger) ∙ has

    may_make : (n : Situation) × Knows node n → MayMake node.ledger.state (Forgot (record { number = number }))
    may_make known =
        let k = known.1 in
        subst (λ (s : State). MayMake s (Forgot (record { number = number }))) (sym k.ledger) (record {
          grammar = refl;
          may = forgot_may known.0.history number k.valid.some (there known.0 k);
          few = subst (λ (s : State). s.changes < 2 ^ 62) k.ledger few;
          there = refl;
          short = omega arith;
        })
