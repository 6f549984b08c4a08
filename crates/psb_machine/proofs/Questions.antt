-- Which changes leave the question that is asked before buddies are chosen.
use Rattle.std.proofs.Common.{◌≡◌, ℕ, true, List, map, option_map, Option, Some, None, refl, sym, ◌∙◌, ap}
use Rattle.std.specs.Prelude.{filter}
use Rattle.std.specs.List.{list_any}
use Rattle.std.proofs.lemmas.Bool.{false≢true}
use Rattle.psb_model.specs.State.{State}
use Rattle.psb_model.specs.Words.{name_listed}
use Rattle.psb_model.specs.Effects.{after}
use Rattle.psb_model.specs.Conditions.{allowed}
use Rattle.psb_model.specs.declared.change.Change.{Change}
use Rattle.psb_model.specs.declared.change.Change.TheVariants.{Begun, Kept, Snapped, Forgot, TookFresh, TookSwap, LetGo, LetGoBack, Refused, Proposed, Settled, Turned, Chose, Replaced, Asked, Passed, Failed, Declined, Discarded}
use Rattle.psb_model.specs.declared.entries.OwnEntry.{OwnEntry}
use Rattle.psb_model.specs.declared.snapshots.Snapshot.{Snapshot}
use Rattle.psb_model.specs.declared.entries.SnapMark.{SnapMark}
use Rattle.psb_settings.specs.declared.settings.Settings.{Settings}
use Rattle.psb_model.proofs.Steady.{IsSteady}
use Rattle.model_laws.proofs.Leaving.{own_stays}
use Rattle.abstracts.specs.Least.{abstract_of}
use Rattle.psb_machine.specs.Sampling.{wanted_names, salt_of, most_asked, question_at, question_by, question_of, keeps_question}

-- the names that are wanted are made of own and the snapshots that are kept
abbrev wanted_by : List OwnEntry → List Snapshot → List (List ℕ)
wanted_by own kept = filter (λ n. list_any (λ (k : Snapshot). name_listed k.names n) kept) (map (λ (e : OwnEntry). e.name) own)

-- the question is made of the settings, these names and the latest snapshot
same_by : (s t : State) (o : Option Settings) (m : Option SnapMark) → wanted_names t ≡ wanted_names s → t.snapped ≡ m → s.snapped ≡ m → question_by o t ≡ question_by o s
same_by s t None m wanted mine other = refl
same_by s t (Some settings) m wanted mine other =
    ap (λ (x : Option SnapMark). option_map (question_at settings.seed t) x) mine
    ∙ by_mark m
    ∙ sym (ap (λ (x : Option SnapMark). option_map (question_at settings.seed s) x) other)
  where
    by_mark : (x : Option SnapMark) → option_map (question_at settings.seed t) x ≡ option_map (question_at settings.seed s) x
    by_mark None = refl
    by_mark (Some mark) = ap (λ (l : List (List ℕ)). Some (record { number = mark.change; salt = salt_of settings.seed mark.change; names = abstract_of l (salt_of settings.seed mark.change) most_asked })) wanted

same_own : (s t : State) → t.settings ≡ s.settings → t.own ≡ s.own → t.kept ≡ s.kept → t.snapped ≡ s.snapped → question_of t ≡ question_of s
same_own s t settings own kept snapped =
    ap (λ (o : Option Settings). question_by o t) settings
    ∙ same_by s t s.settings s.snapped (ap (λ (l : List OwnEntry). wanted_by l t.kept) own ∙ ap (λ (l : List Snapshot). wanted_by s.own l) kept) snapped refl

pub question_stays : (s : State) (c : Change) → IsSteady s → allowed s c ≡ true → keeps_question c ≡ true → question_of (after s c) ≡ question_of s
question_stays s (TookFresh x) steady h k = same_own s (after s (TookFresh x)) refl (own_stays s (TookFresh x) steady h refl) refl refl
question_stays s (TookSwap x) steady h k = same_own s (after s (TookSwap x)) refl (own_stays s (TookSwap x) steady h refl) refl refl
question_stays s (LetGo x) steady h k = same_own s (after s (LetGo x)) refl (own_stays s (LetGo x) steady h refl) refl refl
question_stays s (LetGoBack x) steady h k = same_own s (after s (LetGoBack x)) refl (own_stays s (LetGoBack x) steady h refl) refl refl
question_stays s (Refused x) steady h k = same_own s (after s (Refused x)) refl (own_stays s (Refused x) steady h refl) refl refl
question_stays s (Proposed x) steady h k = same_own s (after s (Proposed x)) refl (own_stays s (Proposed x) steady h refl) refl refl
question_stays s (Asked x) steady h k = same_own s (after s (Asked x)) refl (own_stays s (Asked x) steady h refl) refl refl
question_stays s (Passed x) steady h k = same_own s (after s (Passed x)) refl (own_stays s (Passed x) steady h refl) refl refl
question_stays s (Failed x) steady h k = same_own s (after s (Failed x)) refl (own_stays s (Failed x) steady h refl) refl refl
question_stays s (Declined x) steady h k = same_own s (after s (Declined x)) refl (own_stays s (Declined x) steady h refl) refl refl
question_stays s (Replaced x) steady h k = same_own s (after s (Replaced x)) refl (own_stays s (Replaced x) steady h refl) refl refl
question_stays s (Chose x) steady h k = same_own s (after s (Chose x)) refl (own_stays s (Chose x) steady h refl) refl refl
question_stays s (Begun x) steady h k = absurd (false≢true k)
question_stays s (Kept x) steady h k = absurd (false≢true k)
question_stays s (Snapped x) steady h k = absurd (false≢true k)
question_stays s (Forgot x) steady h k = absurd (false≢true k)
question_stays s (Settled x) steady h k = absurd (false≢true k)
question_stays s (Turned x) steady h k = absurd (false≢true k)
question_stays s (Discarded x) steady h k = absurd (false≢true k)
