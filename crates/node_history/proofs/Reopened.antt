-- What an image that holds a valid history reopens to.
use Rattle.std.proofs.Common.{◌≡◌, ℕ, Bool, true, false, not, ◌||◌, List, [], ◌∷◌, Option, Some, is_some, refl, sym, ◌∙◌, ap, subst}
use Rattle.std.specs.Option.{unwrap_or}
use Rattle.std.specs.Bool.{MatchBool}
use Rattle.std.proofs.lemmas.Bool.{and_parts, false≢true}
use Rattle.node_journal.specs.Entry.{Entry}
use Rattle.psb_model.specs.State.{State}
use Rattle.psb_model.specs.Heads.{body_of}
use Rattle.psb_model.specs.History.{state}
use Rattle.psb_model.specs.Needed.{is_needed_by, body_is_right, brings, bodies_right, IsValid}
use Rattle.psb_model.specs.declared.change.Change.{Change}
use Rattle.psb_model.specs.declared.change.Change.TheVariants.{Begun, Kept, TookFresh, TookSwap, LetGoBack, Replaced, Settled}
use Rattle.psb_model.proofs.ByObject.{by_cases}
use Rattle.psb_model.proofs.Balance.{balances}
use Rattle.model_laws.proofs.Explained.{explained}
use Rattle.change_codec.specs.Records.{has_body, IsRecord}
use Rattle.node_history.specs.Stands.{IsRecordOf, AreRecordsOf, AreDecoded, ReopensTo}
use Rattle.node_history.specs.Less.{IsLess}
use Rattle.node_history.proofs.Lacks.{or_right}
use Rattle.node_history.proofs.Less.{head_less, bytes_less, state_less, needed_less, there_body}

-- a kind without a body part has an empty one, which is never needed
pub empty_body : (c : Change) → has_body c ≡ false → body_of c ≡ Some []
empty_body (Begun x) h = absurd (cc)
empty_body (Kept x) h = absurd (cc)
empty_body (TookFresh x) h = absurd (cc)
empty_body (TookSwap x) h = absurd (cc)
empty_body (LetGoBack x) h = absurd (cc)
empty_body (Replaced x) h = absurd (cc)
empty_body (Settled x) h = absurd (cc)
empty_body _ h = refl

not_needed : (s : State) (c : Change) (later : List Change) → has_body c ≡ false → is_needed_by s c later ≡ false
not_needed s (Begun x) later h = absurd (cc)
not_needed s (Kept x) later h = absurd (cc)
not_needed s (TookFresh x) later h = absurd (cc)
not_needed s (TookSwap x) later h = absurd (cc)
not_needed s (LetGoBack x) later h = absurd (cc)
not_needed s (Replaced x) later h = absurd (cc)
not_needed s (Settled x) later h = absurd (cc)
not_needed s _ later h = refl

same_body : (flag : Bool) (body own : Option (List ℕ)) (bytes : List ℕ) → MatchBool flag (body ≡ own) (unwrap_or body [] ≡ []) → (flag ≡ false → own ≡ Some []) → body ≡ Some bytes → own ≡ Some bytes
same_body true body own bytes is empty here = sym is ∙ here
same_body false body own bytes is empty here = empty refl ∙ ap (λ (l : List ℕ). Some l) (sym is ∙ ap (λ (o : Option (List ℕ)). unwrap_or o []) here)

record_of : (c : Change) (e : Entry) → IsRecord c e.head e.body → IsRecordOf c e
record_of c e is = record { head = is.head_is; body = λ bytes here. same_body (has_body c) e.body (body_of c) bytes is.body_is (empty_body c) here }

same_presence : (flag : Bool) (body own : Option (List ℕ)) → MatchBool flag (body ≡ own) (unwrap_or body [] ≡ []) → flag ≡ true → is_some own ≡ true → is_some body ≡ true
same_presence true body own is there h = ap (λ (o : Option (List ℕ)). is_some o) is ∙ h
same_presence false body own is there h = absurd (cc)

is_there : (s : State) (c : Change) (later : List Change) (e : Entry) → IsRecord c e.head e.body → (not (is_needed_by s c later) || body_is_right c) ≡ true → is_needed_by s c later ≡ true → is_some e.body ≡ true
is_there s c later e is right needed =
    by_cases (has_body c)
    (λ there. same_presence (has_body c) e.body (body_of c) is.body_is there (there_body (brings c) (body_of c) (or_right (is_needed_by s c later) (body_is_right c) right needed)))
    (λ none. absurd (false≢true (sym (not_needed s c later none) ∙ needed)))

are_records : (s : State) (h less : List Change) (es : List Entry) → IsLess h less → bodies_right s less ≡ true → AreDecoded less es → AreRecordsOf s h es
are_records s [] [] [] l right is = tt
are_records s [] [] (e ∷ es) l right is = absurd is
are_records s [] (d ∷ ds) es l right is = absurd l
are_records s (c ∷ cs) [] es l right is = absurd l
are_records s (c ∷ cs) (d ∷ ds) [] l right is = absurd is
are_records s (c ∷ cs) (d ∷ ds) (e ∷ es) l right is =
    let parts = and_parts (not (is_needed_by s d ds) || body_is_right d) (bodies_right s ds) right in
    let own = record_of d e is.0 in (
      record { head = own.head ∙ head_less c d l.0; body = λ bytes here. bytes_less c d bytes l.0 (own.body bytes here) },
      λ needed. is_there s d ds e is.0 parts.0 (needed_less s c d cs ds l.0 l.1 ∙ needed),
      are_records s cs ds es l.1 parts.1 is.1,
    )

pub reopens : (stands : List Entry → List ℕ → Type 0) (h less : List Change) (es : List Entry) (c : List ℕ) → IsValid h → IsLess h less → IsValid less → AreDecoded less es → stands es c → ReopensTo stands h c
reopens stands h less es c valid is_less sound decoded is = record {
  image_is = (es, are_records (state h) h less es is_less (subst (λ (s : State). bodies_right s less ≡ true) (state_less h less is_less) sound.sound) decoded, is);
  less = less;
  is_less = is_less;
  holds = record { records = es; decoded = decoded; image_is = is };
  valid = sound;
  history_valid = valid;
  balances = λ p. balances h p valid.lawful;
  explained = λ p. explained h p valid.lawful;
}
