-- The settings stay what they are while inputs come.
use Rattle.std.proofs.Common.{Bool, true, false, if◌then◌else◌, ◌≡◌, ℕ, option_to_list, List, [], ◌∷◌, Option, Some, None, refl, ◌∙◌, ap, subst}
use Rattle.psb_settings.specs.declared.settings.Settings.{Settings}
use Rattle.psb_model.specs.State.{State, nothing_yet}
use Rattle.psb_model.specs.Effects.{after}
use Rattle.psb_model.specs.History.{state, state_from}
use Rattle.psb_model.specs.declared.change.Change.{Change}
use Rattle.psb_model.proofs.Prefixes.{state_app}
use Rattle.psb_machine.specs.Deals.{first_that_holds, judged, clashes, Deal, StoreFresh, StoreSwap, Cancel, PutBack, Replace, replaced, home_of}
use Rattle.psb_machine.specs.Settling.{Reply, Accepts, Refuses, answers_deal}
use Rattle.psb_machine.specs.Judging.{reasons_at, taken_at}
use Rattle.psb_machine.specs.Machine.{Situation, Input, changes_of, react, next}
use Rattle.psb_machine.specs.declared.deals.Refusal.{Refusal}
use Rattle.psb_machine.specs.Course.{Step, Absorb, Tell, after_all}
use Rattle.psb_bytes.specs.Objects.{name_eq}
use Rattle.psb_machine.specs.OwnProbes.{Run, passed_by, wrong_by}
use Rattle.psb_machine.proofs.Causes.{caused}
use Rattle.psb_machine.proofs.Made.{settles_by}

-- a change, if there is one, leaves the settings
abbrev Stays : State → Option Change → Type 0
Stays s o = (state_from s (option_to_list o)).settings ≡ s.settings

replaced_stays : (s : State) (p number slot : ℕ) (bytes : List ℕ) (home : Option ℕ) → (after s (replaced p number slot bytes home)).settings ≡ s.settings
replaced_stays s p number slot bytes None = refl
replaced_stays s p number slot bytes (Some i) = refl

taken_stays : (settings : Settings) (s : State) (p number : ℕ) (deal : Deal) → (after s (taken_at settings s p number deal)).settings ≡ s.settings
taken_stays settings s p number (StoreFresh name bytes) = refl
taken_stays settings s p number (StoreSwap name numbers bytes) = refl
taken_stays settings s p number (Cancel name numbers) = refl
taken_stays settings s p number (PutBack name claims) = refl
taken_stays settings s p number (Replace slot bytes) = replaced_stays s p number slot bytes (home_of settings.seed s.issued (Replace slot bytes))

judged_stays : (settings : Settings) (s : State) (p number : ℕ) (deal : Deal) (o : Option Refusal) → (after s (judged p number (taken_at settings s p number deal) o)).settings ≡ s.settings
judged_stays settings s p number deal None = taken_stays settings s p number deal
judged_stays settings s p number deal (Some r) = refl

answers_stay : (s : State) (p number : ℕ) (reply : Reply) → Stays s (Some (answers_deal p number reply))
answers_stay s p number (Accepts claims) = refl
answers_stay s p number (Refuses why detail) = refl

value_stays : (s : State) (p : ℕ) (value : List ℕ) (r : Run) (b : Bool) → Stays s (Some (if b then passed_by p r else wrong_by p value r))
value_stays s p value r true = refl
value_stays s p value r false = refl

react_stays : (n : Situation) (x : Input) → Stays (state n.history) (react n x).grown
react_stays n x = caused (Stays (state n.history)) n x (record {
  none = refl;
  deal = λ settings bytes i deal came present read is fresh. judged_stays settings (state n.history) i.from i.number deal (first_that_holds (reasons_at settings (state n.history) i.from deal (clashes n.history deal)));
  reply = λ settings bytes i reply c came present read is made. subst (λ (d : Change). Stays (state n.history) (Some d)) (settles_by (state n.history) i.from i.number reply c made) (answers_stay (state n.history) i.from i.number reply);
  choice = λ settings p key candidates came present keyed chosen. refl;
  propose = λ settings p key what came present keyed idle found. refl;
  late = λ settings p key r came present keyed run is. refl;
  due = λ settings p key came present keyed is. refl;
  asks = λ settings p key o os came present keyed idle is. refl;
  proof = λ settings bytes i nonce value own r came present read is run of_it made. value_stays (state n.history) i.from value r (name_eq own value);
  declined = λ settings bytes i nonce places r came present read is run of among. refl;
  keep = λ name bytes came lacks same. refl;
  snap = λ note came. refl;
  forget = λ number came has. refl;
})

next_stays : (n : Situation) (x : Input) → (state (next n x).history).settings ≡ (state n.history).settings
next_stays n x =
    ap (λ (s : State). s.settings) (state_app nothing_yet n.history (changes_of (react n x)))
    ∙ react_stays n x

pub all_stay : (n : Situation) (xs : List Step) → (state (after_all n xs).history).settings ≡ (state n.history).settings
all_stay n [] = refl
all_stay n (Absorb x ∷ xs) = all_stay (next n x) xs ∙ next_stays n x
all_stay n (Tell t ∷ xs) = all_stay n xs
