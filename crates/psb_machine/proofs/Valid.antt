-- What the machine makes of a valid history is valid.
use Rattle.std.proofs.Common.{◌≡◌, ℕ, ◌+◌, ◌≤◌, ◌^◌, Bool, true, false, not, ◌==◌, nat_le, cond, sum_by, List, [], ◌∷◌, ◌++◌, length, Option, Some, None, refl, sym, ap, subst, arith}
use Rattle.std.specs.List.{list_all}
use Rattle.std.proofs.lemmas.Bool.{lt-ltb, eq-eqb, le-leb}
use Rattle.std.proofs.lemmas.List.{append-nil}
use Rattle.std.proofs.lemmas.List.Sums.{sum_by-cons}
use Rattle.psb_bytes.specs.Units.{units}
use Rattle.psb_bytes.specs.Objects.{name_eq}
use Rattle.psb_bytes.specs.declared.ids.Object.{Object}
use Rattle.psb_bytes.specs.declared.ids.Object.TheVariants.{Chunk}
use Rattle.psb_digest.specs.Hashes.{sha}
use Rattle.psb_settings.specs.declared.settings.Settings.{Settings}
use Rattle.psb_model.specs.Words.{object_eq, has, units_at}
use Rattle.psb_model.specs.State.{State, row, in_key, in_size, out_key, debt_units, is_held, is_peer, used, own_has, snaps_made, tied_in}
use Rattle.psb_model.specs.Grammar.{in_grammar, is_u8, is_u32, is_u64, is_count}
use Rattle.psb_model.specs.Conditions.{capacity, is_next_deal, allowed}
use Rattle.psb_model.specs.History.{state}
use Rattle.psb_model.specs.Needed.{brings_right, IsValid}
use Rattle.psb_model.specs.declared.change.Change.{Change}
use Rattle.psb_model.specs.declared.change.Change.TheVariants.{Kept, Forgot, Refused}
use Rattle.psb_model.proofs.Steady.{steady_state, use_within}
use Rattle.model_laws.proofs.Bodies.{valid_snoc}
use Rattle.psb_model.proofs.ByObject.{by_cases}
use Rattle.psb_machine.specs.Laws.{KeepFits, SnapFits}
use Rattle.psb_machine.specs.Deals.{code_of, first_that_holds, judged, Deal, StoreFresh, StoreSwap, Cancel, PutBack, Replace, slots_of, is_engaged, chunk_units}
use Rattle.psb_machine.specs.Machine.{Situation, kept_with, snapped_with, has_snapshot}
use Rattle.psb_machine.specs.declared.deals.Reason.{Reason}
use Rattle.psb_machine.specs.declared.deals.Reason.TheVariants.{Busy, BadName, Already, Clash, NotThere, Unequal, Indebted, Full, Spent}
use Rattle.psb_machine.specs.declared.deals.Refusal.{Refusal}
use Rattle.psb_machine.specs.declared.snap_note.SnapNote.{SnapNote}
use Rattle.psb_machine.specs.Judging.{DealFits, reasons_at, taken_at, judged_with}
use Rattle.psb_machine.proofs.Standings.{detail_fits, first_fits}
use Rattle.psb_machine.proofs.Slots.{found_fits, wider}
use Rattle.psb_machine.proofs.Taken.{MayTake, begun_here, flag_same, body_in_grammar, body_of_bytes, deal_may}
use Rattle.psb_machine.proofs.Lasts.{drawn}
use Rattle.psb_machine.proofs.Peers.{settings_read}

pub unchanged : (h : List Change) → IsValid h → IsValid (h ++ [])
unchanged h v = subst IsValid (sym (append-nil h)) v

-- ---- refusals

pub codes_are : (why : Reason) → (nat_le 1 (code_of why) ≡ true) × (nat_le (code_of why) 9 ≡ true) × (is_u8 (code_of why) ≡ true)
codes_are Busy = (refl, refl, refl)
codes_are BadName = (refl, refl, refl)
codes_are Already = (refl, refl, refl)
codes_are Clash = (refl, refl, refl)
codes_are NotThere = (refl, refl, refl)
codes_are Unequal = (refl, refl, refl)
codes_are Indebted = (refl, refl, refl)
codes_are Full = (refl, refl, refl)
codes_are Spent = (refl, refl, refl)

-- a refusal answers the next deal of a peer
pub allows_refused : (h : List Change) (p number : ℕ) (r : Refusal) → 1 ≤ length h → is_peer (state h) p ≡ true → is_next_deal (state h) p number ≡ true → allowed (state h) (Refused (record { peer = p; deal = number; why = code_of r.why; detail = r.detail })) ≡ true
allows_refused h p number r some peer next_deal =
    let code = codes_are r.why in
    rw (begun_here h some, peer, next_deal, code.0, code.1) refl

refused_valid : (h : List Change) (p number : ℕ) (r : Refusal) → IsValid h → is_peer (state h) p ≡ true → is_u32 p ≡ true → is_u64 number ≡ true → is_next_deal (state h) p number ≡ true → is_u64 r.detail ≡ true
    → IsValid (h ++ Refused (record { peer = p; deal = number; why = code_of r.why; detail = r.detail }) ∷ [])
refused_valid h p number r v peer p_fits number_fits next_deal small =
    let code = codes_are r.why in
    valid_snoc h (Refused (record { peer = p; deal = number; why = code_of r.why; detail = r.detail })) v refl (allows_refused h p number r v.some peer next_deal) (rw (p_fits, number_fits, code.2, small) refl) refl

-- ---- the details of what is looked at fit their field

-- what a list has at an object is a part of what it has in all
units_most : {E : Type 0} (key : E → Object) (size : E → ℕ) (l : List E) (o : Object) → units_at key size l o ≤ sum_by size l
units_most key size [] o = omega arith
units_most key size (e ∷ es) o =
    let rest = units_most key size es o in
    by_cases (object_eq (key e) o) (λ k. rw k (omega (arith, rest, sum_by-cons size e es))) (λ k. rw k (omega (arith, rest, sum_by-cons size e es)))

-- the numbers of a valid history that a detail may be
record DetailsFit (s : State) (p : ℕ) : Type 0 where
  issued : is_u64 s.issued ≡ true
  in_use : is_u64 (used s) ≡ true
  debt : is_u64 (debt_units (row s p)) ≡ true
  chunk : (name : List ℕ) → is_u64 (chunk_units s p name) ≡ true

-- no more is used than the capacity, which a settings text bounds
used_small : (h : List Change) → IsValid h → used (state h) ≤ 2147483648
used_small h v = by_settings (state h).settings refl (steady_state h v.lawful).used
  where
    by_settings : (o : Option Settings) → (state h).settings ≡ o → used (state h) ≤ capacity o → used (state h) ≤ 2147483648
    by_settings None is le = omega (arith, le)
    by_settings (Some st) is le = omega (arith, le, (settings_read h st is).capacity)

numbers_fit : (h : List Change) (p : ℕ) → IsValid h → DetailsFit (state h) p
numbers_fit h p v =
    let s = state h in
    let most = drawn h v in
    let in_all = used_small h v in
    let balanced = ((steady_state h v.lawful).good.rows p).tidy.balanced in
    record {
      issued = lt-ltb s.issued (2 ^ 64) (omega (arith, most));
      in_use = lt-ltb (used s) (2 ^ 64) (omega (arith, in_all));
      debt = lt-ltb (debt_units (row s p)) (2 ^ 64) (omega (arith, in_all, balanced, use_within s s.rows p));
      chunk = λ name. lt-ltb (chunk_units s p name) (2 ^ 64) (omega (arith, in_all, units_most in_key in_size (row s p).ins (Chunk name), use_within s s.rows p));
    }

details_fit : (settings : Settings) (s : State) (p number : ℕ) (deal : Deal) (clash : Bool) → DetailsFit s p → DealFits p number deal → list_all detail_fits (reasons_at settings s p deal clash) ≡ true
details_fit settings s p number (StoreFresh name bytes) clash d f = rw (d.issued, d.in_use, d.debt) refl
details_fit settings s p number (StoreSwap name numbers bytes) clash d f =
    let u : is_u64 (units (length bytes)) ≡ true = lt-ltb (units (length bytes)) (2 ^ 64) (omega (arith, f.store.short)) in
    rw (found_fits (tied_in s p) numbers f.slots.widths, found_fits (λ o. not (has in_key (row s p).ins o)) numbers f.slots.widths, u, d.debt) refl
details_fit settings s p number (Cancel name numbers) clash d f =
    rw (found_fits (is_engaged s p) numbers f.slots.widths, found_fits (λ o. not (has out_key (row s p).outs o)) numbers f.slots.widths, d.chunk name) refl
details_fit settings s p number (PutBack name claims) clash d f =
    rw (found_fits (has in_key (row s p).ins) (slots_of claims) f.slots.widths, d.chunk name) refl
details_fit settings s p number (Replace slot bytes) clash d f = rw (wider slot f.slot_fits) refl

-- ---- deals

-- the peer and the number of any deal are within their bounds
sender_fits : (p number : ℕ) (deal : Deal) → DealFits p number deal → (is_u32 p ≡ true) × (is_u64 number ≡ true)
sender_fits p number (StoreFresh name bytes) f = (f.peer, f.number_fits)
sender_fits p number (StoreSwap name numbers bytes) f = (f.store.peer, f.store.number_fits)
sender_fits p number (Cancel name numbers) f = (f.peer, f.number_fits)
sender_fits p number (PutBack name claims) f = (f.peer, f.number_fits)
sender_fits p number (Replace slot bytes) f = (f.peer, f.number_fits)

-- a fresh deal, which is taken or refused
pub judged_deal_valid : (settings : Settings) (h : List Change) (p number : ℕ) (deal : Deal) (clash : Bool) → IsValid h → (state h).settings ≡ Some settings → is_peer (state h) p ≡ true
    → DealFits p number deal → is_next_deal (state h) p number ≡ true → IsValid (h ++ judged_with settings (state h) p number deal clash ∷ [])
judged_deal_valid settings h p number deal clash v present peer f next_deal = by_refusal (first_that_holds (reasons_at settings (state h) p deal clash)) refl
  where
    taken_valid : (c : Change) → MayTake (state h) c → IsValid (h ++ c ∷ [])
    taken_valid c m = valid_snoc h c v m.grammar m.may m.widths m.brings

    by_refusal : (o : Option Refusal) → first_that_holds (reasons_at settings (state h) p deal clash) ≡ o → IsValid (h ++ judged p number (taken_at settings (state h) p number deal) o ∷ [])
    by_refusal None is =
        taken_valid (taken_at settings (state h) p number deal) (deal_may settings h p number deal clash (record { some = v.some; present = present; peer = peer; next_deal = next_deal; drawn = drawn h v }) f is)
    by_refusal (Some r) is =
        let sent = sender_fits p number deal f in
        refused_valid h p number r v peer sent.0 sent.1 next_deal (first_fits (reasons_at settings (state h) p deal clash) r (details_fit settings (state h) p number deal clash (numbers_fit h p v) f) is)

-- ---- the node's own chunks and snapshots

brings_kept : (name bytes : List ℕ) (held : Bool) → name_eq (sha bytes) name ≡ true → brings_right (Kept (record { name = name; len = length bytes; new = not held; body = Some (cond (not held) bytes []) })) ≡ true
brings_kept name bytes true h = refl
brings_kept name bytes false h = h

pub kept_may : (h : List Change) (name bytes : List ℕ) → 1 ≤ length h → KeepFits name bytes → own_has (state h).own name ≡ false → (in_grammar (kept_with (state h) name bytes) ≡ true) × (allowed (state h) (kept_with (state h) name bytes) ≡ true)
kept_may h name bytes some f lacks =
    let s = state h in
    let free : not (own_has s.own name) ≡ true = ap not lacks in (
      rw (le-leb 1 (length bytes) f.long, le-leb (length bytes) 32768 f.short, body_in_grammar (is_held s name) bytes) refl,
      rw (begun_here h some, free, flag_same (is_held s name)) refl,
    )

pub kept_valid : (h : List Change) (name bytes : List ℕ) → IsValid h → KeepFits name bytes → own_has (state h).own name ≡ false → IsValid (h ++ kept_with (state h) name bytes ∷ [])
kept_valid h name bytes v f lacks =
    let s = state h in
    let len : is_u32 (length bytes) ≡ true = lt-ltb (length bytes) (2 ^ 32) (omega (arith, f.short)) in
    let may = kept_may h name bytes v.some f lacks in
    valid_snoc h (kept_with s name bytes) v
    may.0
    may.1
    (rw (f.name_fits, len, body_of_bytes (is_held s name) bytes f.bytes_fit) refl)
    (brings_kept name bytes (is_held s name) f.named)

pub snapped_may : (h : List Change) (note : SnapNote) → 1 ≤ length h → SnapFits (state h) note → (in_grammar (snapped_with (state h) note) ≡ true) × (allowed (state h) (snapped_with (state h) note) ≡ true)
snapped_may h note some f =
    let s = state h in
    let count : is_count (length note.names) ≡ true = lt-ltb (length note.names) (2 ^ 32) (omega (arith, f.most)) in
    let same : (snaps_made s + 1 == snaps_made s + 1) ≡ true = eq-eqb (snaps_made s + 1) (snaps_made s + 1) refl in (
      rw (f.ticket, count) refl,
      rw (begun_here h some, same, f.ascend, f.own) refl,
    )

pub snap_valid : (n : Situation) (note : SnapNote) → IsValid n.history → SnapFits (state n.history) note → IsValid (n.history ++ snapped_with (state n.history) note ∷ [])
snap_valid n note v f =
    let s = state n.history in
    let number : is_u32 (snaps_made s + 1) ≡ true = lt-ltb (snaps_made s + 1) (2 ^ 32) (omega (arith, f.more)) in
    let may = snapped_may n.history note v.some f in
    valid_snoc n.history (snapped_with s note) v may.0 may.1 (rw number f.widths) refl

pub forgot_may : (h : List Change) (number : ℕ) → 1 ≤ length h → has_snapshot (state h) number ≡ true → allowed (state h) (Forgot (record { number = number })) ≡ true
forgot_may h number some k = rw (begun_here h some, k) refl

pub forgot_valid : (h : List Change) (number : ℕ) → IsValid h → is_u32 number ≡ true → has_snapshot (state h) number ≡ true → IsValid (h ++ Forgot (record { number = number }) ∷ [])
forgot_valid h number v fit k = valid_snoc h (Forgot (record { number = number })) v refl (forgot_may h number v.some k) fit refl
