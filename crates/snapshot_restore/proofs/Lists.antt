-- Places one behind another.
use Rattle.std.proofs.Common.{◌≡◌, ℕ, ◌+◌, ◌<◌, List, [], ◌∷◌, ◌++◌, length, take, drop, get_or, sym, ◌∙◌, ap, subst, append_assoc}
use Rattle.std.proofs.lemmas.List.{map-append, take_more, take-append-drop}
use Rattle.std.proofs.lemmas.Grind.{flat_map-append}
use Rattle.convergent_seal.specs.Sealing.{opened}
use Rattle.psb_settings.specs.declared.settings.Settings.{Settings}
use Rattle.psb_machine.specs.Machine.{Situation}
use Rattle.psb_machine.specs.Course.{after_all}
use Rattle.psb_machine.proofs.Courses.{after_all-append}
use Rattle.node_serve.specs.Hears.{clock_of}
use Rattle.node_serve.proofs.Runs.{clock_of-append}
use Rattle.snapshots.specs.Got.{Use}
use Rattle.snapshot_restore.specs.Course.{Fetch, all_of, fetch_steps, heard_in, restore_steps}
use Rattle.snapshot_restore.specs.Taken.{Taken, taken_refs, taken_uses, taken_text, fetches, AllOpen, AreTaken}

pub refs-append : (a b : List Taken) → taken_refs (a ++ b) ≡ taken_refs a ++ taken_refs b
refs-append a b = map-append (λ (t : Taken). t.reference) a b

pub uses-append : (a b : List Taken) → taken_uses (a ++ b) ≡ taken_uses a ++ taken_uses b
uses-append a b = map-append {B = Use} (λ (t : Taken). record { name = t.reference.name; body = t.body }) a b

pub text-append : (a b : List Taken) → taken_text (a ++ b) ≡ taken_text a ++ taken_text b
text-append a b = flat_map-append (λ (t : Taken). opened t.reference t.body) a b

pub fetches-append : (a b : List Taken) → fetches (a ++ b) ≡ fetches a ++ fetches b
fetches-append a b = map-append {B = Fetch} (λ (t : Taken). record { name = t.reference.name; rounds = t.rounds }) a b

pub open_then : (a b : List Taken) → AllOpen a → AllOpen b → AllOpen (a ++ b)
open_then [] b o p = p
open_then (t ∷ a) b o p = (o.0, open_then a b o.1 p)

pub taken_then : (st : Settings) (turns : ℕ) (n : Situation) (c : ℕ) (a b : List Taken) → AreTaken st turns n c a → AreTaken st turns (after_all n (restore_steps st c (fetches a))) (clock_of c (heard_in (fetches a))) b → AreTaken st turns n c (a ++ b)
taken_then st turns n c [] b r s = s
taken_then st turns n c (t ∷ a) b r s =
    let first = fetch_steps st t.reference.name c 0 t.rounds in
    let mid = clock_of c (all_of t.rounds) in (
      r.0,
      taken_then st turns (after_all n first) mid a b r.1
          (subst (λ (m : Situation). AreTaken st turns m (clock_of mid (heard_in (fetches a))) b) (after_all-append n first (restore_steps st mid (fetches a)))
          (subst (λ (k : ℕ). AreTaken st turns (after_all n (first ++ restore_steps st mid (fetches a))) k b) (clock_of-append c (all_of t.rounds) (heard_in (fetches a))) s)),
    )

-- ---- a list by an index

pub one_further : {A : Type 0} (xs : List A) (i : ℕ) (x d : A) → i < length xs → x ≡ get_or xs i d → take (i + 1) xs ≡ take i xs ++ x ∷ []
one_further xs i x d lt is = take_more xs i d lt ∙ ap (λ y. take i xs ++ y ∷ []) (sym is)

pub around : {A : Type 0} (xs : List A) (i : ℕ) (x d : A) → i < length xs → x ≡ get_or xs i d → xs ≡ take i xs ++ x ∷ drop (i + 1) xs
around xs i x d lt is =
    sym (take-append-drop (i + 1) xs) ∙ ap (λ l. l ++ drop (i + 1) xs) (one_further xs i x d lt is) ∙ append_assoc (take i xs) (x ∷ []) (drop (i + 1) xs)
