-- Each name that a node holds has its bytes at each step of a course: the opened history has those that it needs, and each
-- change that the machine makes carries its own.
use Rattle.std.proofs.Common.{◌≡◌, ◌≤◌, ℕ, Bool, true, false, if◌then◌else◌, is_some, List, [], ◌∷◌, ◌++◌, length, Option, Some, None, refl, sym, ap, ◌∙◌, subst, arith}
use Rattle.std.proofs.lemmas.Bool.{false≢true}
use Rattle.psb_bytes.specs.Objects.{name_eq}
use Rattle.psb_settings.specs.declared.settings.Settings.{Settings}
use Rattle.psb_model.specs.State.{State, is_held}
use Rattle.psb_model.specs.Conditions.{allowed}
use Rattle.psb_model.specs.Effects.{after}
use Rattle.psb_model.specs.Heads.{body_of}
use Rattle.psb_model.specs.History.{state}
use Rattle.psb_model.specs.Needed.{brings_name, last_brought, IsValid}
use Rattle.psb_model.specs.declared.change.Change.{Change}
use Rattle.psb_model.proofs.ByObject.{by_cases}
use Rattle.psb_model.proofs.Held.{was_held}
use Rattle.psb_model.proofs.Prefixes.{changes_counted, state_snoc}
use Rattle.model_laws.proofs.Along.{last_is}
use Rattle.model_laws.proofs.HeldBytes.{bytes_stay, held_have_bytes}
use Rattle.psb_machine.specs.OwnProbes.{Run, passed_by, wrong_by}
use Rattle.psb_machine.specs.Deals.{Deal, StoreFresh, StoreSwap, Cancel, PutBack, Replace, replaced, takes, judged, judged_at, facts_at, clashes, reasons, first_that_holds}
use Rattle.psb_machine.specs.declared.deals.Refusal.{Refusal}
use Rattle.psb_machine.specs.Settling.{Reply, Accepts, Refuses, answers_deal}
use Rattle.psb_machine.specs.Machine.{Situation, Input, react}
use Rattle.psb_machine.proofs.Causes.{caused}
use Rattle.psb_machine.proofs.Made.{settles_by}

-- ---- what is there

pub some_is : {A : Type 0} (o : Option A) → is_some o ≡ true → (a : A) × (o ≡ Some a)
some_is None h = absurd (false≢true h)
some_is (Some a) h = (a, refl)

-- ---- what the machine makes

abbrev pub HasBody : Change → Type 0
HasBody c = is_some (body_of c) ≡ true

-- of a change, if there is one
abbrev pub Carries : Option Change → Type 0
Carries None = Unit {0}
Carries (Some c) = HasBody c

replaced_body : (p number slot : ℕ) (bytes : List ℕ) (home : Option ℕ) → HasBody (replaced p number slot bytes home)
replaced_body p number slot bytes None = refl
replaced_body p number slot bytes (Some i) = refl

takes_body : (issued : ℕ) (new : Bool) (home : Option ℕ) (p number : ℕ) (deal : Deal) → HasBody (takes issued new home p number deal)
takes_body issued new home p number (StoreFresh name bytes) = refl
takes_body issued new home p number (StoreSwap name numbers bytes) = refl
takes_body issued new home p number (Cancel name numbers) = refl
takes_body issued new home p number (PutBack name claims) = refl
takes_body issued new home p number (Replace slot bytes) = replaced_body p number slot bytes home

judged_body : (p number : ℕ) (c : Change) (o : Option Refusal) → HasBody c → HasBody (judged p number c o)
judged_body p number c None h = h
judged_body p number c (Some r) h = refl

deal_body : (settings : Settings) (h : List Change) (p number : ℕ) (deal : Deal) → HasBody (judged_at settings h p number deal)
deal_body settings h p number deal =
    let facts = facts_at settings (state h) deal (clashes h deal) in
    judged_body p number (takes facts.issued facts.new_body facts.home p number deal) (first_that_holds (reasons facts (state h) p deal)) (takes_body facts.issued facts.new_body facts.home p number deal)

answers_body : (p number : ℕ) (reply : Reply) → HasBody (answers_deal p number reply)
answers_body p number (Accepts claims) = refl
answers_body p number (Refuses why detail) = refl

value_body : (p : ℕ) (value : List ℕ) (r : Run) (b : Bool) → HasBody (if b then passed_by p r else wrong_by p value r)
value_body p value r true = refl
value_body p value r false = refl

pub react_carries : (n : Situation) (x : Input) → Carries (react n x).grown
react_carries n x = caused Carries n x (record {
  none = tt;
  deal = λ settings bytes i deal came present read is fresh. deal_body settings n.history i.from i.number deal;
  reply = λ settings bytes i reply c came present read is made. subst HasBody (settles_by (state n.history) i.from i.number reply c made) (answers_body i.from i.number reply);
  choice = λ settings p key candidates came present keyed chosen. refl;
  propose = λ settings p key what came present keyed idle found. refl;
  late = λ settings p key r came present keyed run over. refl;
  due = λ settings p key came present keyed is. refl;
  asks = λ settings p key first rest came present keyed idle there. refl;
  proof = λ settings bytes i nonce value own r came present read is run of known. value_body i.from value r (name_eq own value);
  declined = λ settings bytes i nonce places r came present read is run of theirs. refl;
  keep = λ name bytes came lacks same. refl;
  snap = λ note came. refl;
  forget = λ number came has. refl;
})

-- ---- what is held

abbrev pub HasAllBytes : List Change → Type 0
HasAllBytes h = (name : List ℕ) → is_held (state h) name ≡ true → is_some (last_brought name h) ≡ true

pub valid_bytes : (h : List Change) → IsValid h → HasAllBytes h
valid_bytes h v name held = ap is_some (held_have_bytes h name v held).brought

-- behind a change that carries its own
pub grown_bytes : (h : List Change) (c : Change) → 1 ≤ length h → allowed (state h) c ≡ true → HasBody c → HasAllBytes h → HasAllBytes (h ++ c ∷ [])
grown_bytes h c some may body all name held =
    let now : is_held (after (state h) c) name ≡ true = ap (λ (s : State). is_held s name) (sym (state_snoc h c)) ∙ held in
    let begun : 1 ≤ (state h).changes = omega (arith, some, changes_counted h) in
    by_cases (brings_name name c)
    (λ k. ap (λ (o : Option Change). is_some (elim o [ Some d ↦ body_of d | None ↦ None ])) (last_is (brings_name name) h c k) ∙ body)
    (λ k. ap is_some (bytes_stay h c name k) ∙ all name (was_held (state h) c name begun may now k))
