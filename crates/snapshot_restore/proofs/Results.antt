-- What is said of a result's error is said in other words.
use Rattle.std.proofs.Common.{Result, Ok, Err, IfErr}

pub err_also : {A E : Type 0} (r : Result A E) (P Q : E → Type 0) → ((e : E) → P e → Q e) → IfErr r P → IfErr r Q
err_also (Ok x) P Q f p = p
err_also (Err e) P Q f p = f e p
