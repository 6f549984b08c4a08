-- Objects that leave what is answered for, one after another.
use Rattle.std.proofs.Common.{◌≡◌, ℕ, ◌+◌, ◌<◌, List, [], ◌∷◌, ◌++◌, length, take, get_or, sym, ap, ◌∙◌}
use Rattle.std.proofs.lemmas.List.{take_more}
use Rattle.psb_bytes.specs.declared.ids.Object.{Object}
use Rattle.psb_model.specs.State.{Row, in_key}
use Rattle.peer_lists.proofs.Trees.{without_none}
use Rattle.peer_account.specs.View.{left_row}
use Rattle.peer_account.proofs.Probed.{gone_then}

pub left_first : (r : Row) → left_row [] r ≡ r
left_first r = λ i. record r { ins = without_none in_key r.ins i }

pub left_more : (objects : List Object) (i : ℕ) (o : Object) (r now new : Row) → i < length objects → o ≡ get_or objects i o → now ≡ left_row (take i objects) r → new ≡ left_row (o ∷ []) now → new ≡ left_row (take (i + 1) objects) r
left_more objects i o r now new lt is was then =
    then ∙ ap (left_row (o ∷ [])) was
    ∙ (λ j. record r { ins = gone_then in_key (take i objects) o r.ins j })
    ∙ ap (λ l. left_row l r) (ap (λ x. take i objects ++ x ∷ []) is ∙ sym (take_more objects i o lt))
