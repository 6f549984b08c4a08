-- What one record is read as.
use Rattle.std.proofs.Common.{◌≡◌, ℕ, Bool, false, List, Option, Some, None, is_some, Result, Ok, Err, IfSome, IfOk, OnOk, OnErr, option_map, refl, sym, ◌∙◌, ap, subst}
use Rattle.std.specs.Result.{IsErr, IsErrAnd}
use Rattle.std.proofs.lemmas.Bool.{false≢true}
use Rattle.node_journal.specs.Entry.{Entry}

none_is : (b : Option (List ℕ)) → is_some b ≡ false → b ≡ None
none_is None h = refl
none_is (Some bytes) h = absurd (cc)

-- what is known of a record without a body is known of the one at its place
pub given_up : (P : List ℕ → Option (List ℕ) → Type 0) (o : Option Entry) (head : List ℕ) (keeps : Bool) → IfSome o (λ e. head ≡ e.head) → IfSome o (λ e. is_some e.body ≡ keeps) → keeps ≡ false → P head None → IfSome o (λ e. P e.head e.body)
given_up P None head keeps h b lost is = tt
given_up P (Some e) head keeps h b lost is = subst (λ (l : List ℕ). P l e.body) h (subst (λ (o : Option (List ℕ)). P head o) (sym (none_is e.body (b ∙ lost))) is)

pub ok_map : {A E : Type 0} (r : Result A E) (P Q : A → Type 0) → ((x : A) → P x → Q x) → IfOk r P → IfOk r Q
ok_map (Ok x) P Q f h = f x h
ok_map (Err e) P Q f h = tt

pub on_err : {A E : Type 0} (r : Result A E) (Q : Type 0) → Q → OnErr r Q
on_err (Ok x) Q h = tt
on_err (Err e) Q h = h

pub at_err : {A E : Type 0} (r : Result A E) (e : E) (Q : Type 0) → r ≡ Err e → OnErr r Q → Q
at_err (Ok x) e Q is h = absurd (cc (is))
at_err (Err f) e Q is h = h

pub ok_map2 : {A E : Type 0} (r : Result A E) (P Q R : A → Type 0) → ((x : A) → P x → Q x → R x) → IfOk r P → IfOk r Q → IfOk r R
ok_map2 (Ok x) P Q R f p q = f x p q
ok_map2 (Err e) P Q R f p q = tt

pub ok_map3 : {A E : Type 0} (r : Result A E) (P Q R S : A → Type 0) → ((x : A) → P x → Q x → R x → S x) → IfOk r P → IfOk r Q → IfOk r R → IfOk r S
ok_map3 (Ok x) P Q R S f p q s = f x p q s
ok_map3 (Err e) P Q R S f p q s = tt

pub on_ok_map : {A E : Type 0} (r : Result A E) (P Q : Type 0) → (P → Q) → OnOk r P → OnOk r Q
on_ok_map (Ok x) P Q f p = f p
on_ok_map (Err e) P Q f p = tt

pub on_ok_map2 : {A E : Type 0} (r : Result A E) (P Q R : Type 0) → (P → Q → R) → OnOk r P → OnOk r Q → OnOk r R
on_ok_map2 (Ok x) P Q R f p q = f p q
on_ok_map2 (Err e) P Q R f p q = tt

-- an error of which it is known which one it is
pub err_that : {A E : Type 0} (r : Result A E) (e : E) → IsErr r → IsErrAnd r (λ f. f ≡ e) → r ≡ Err e
err_that (Ok x) e h same = absurd (false≢true h)
err_that (Err f) e h same = ap (λ (x : _). Err x) same

-- whether something is there does not change with what it is seen as
pub some_as : {A B : Type 0} (f : A → B) (o : Option A) → is_some (option_map f o) ≡ is_some o
some_as f None = refl
some_as f (Some x) = refl

-- what is known of whatever is there
pub one_there : {A : Type 0} (o : Option A) (P : A → Type 0) → ((x : A) → o ≡ Some x → P x) → IfSome o P
one_there None P h = tt
one_there (Some x) P h = h x refl

-- a fault is the same in whatever result it is
pub err_is : {A E : Type 0} (e f : E) → ◌≡◌ {A = Result A E} (Err e) (Err f) → e ≡ f
err_is e f is = ap (λ (r : Result _ _). elim r [ Ok x ↦ e | Err g ↦ g ]) is

pub err_as : {A B E : Type 0} (e f : E) → ◌≡◌ {A = Result A E} (Err e) (Err f) → ◌≡◌ {A = Result B E} (Err e) (Err f)
err_as e f is = ap (λ (x : _). Err x) (err_is e f is)
