use Rattle.std.proofs.Common.{◌∙◌, ◌++◌, ◌∷◌, List, ℕ, ap, sym, append_assoc}
use Rattle.psb_bytes.specs.Numbers.{u32_bytes, u64_bytes}
use Rattle.psb_model.specs.Heads.{flag, counted}
use Rattle.change_codec.proofs.Written.{next}
use Rattle.change_codec.proofs.encode.took_swap.Goals as goal

pub returns : goal.returns
returns c =
    let front : List ℕ = 6 ∷ (u32_bytes c.args.x.now.peer ++ u64_bytes c.args.x.now.deal ++ c.args.x.now.name ++ counted u32_bytes c.args.x.now.slots) in
    next c.args.out.now.items front (u32_bytes c.args.x.now.len ++ flag c.args.x.now.new) _ _ (next _ _ _ _ _ c.in_ok-put_named.ensures (c.in_ok-put_list.ensures ∙ ap (λ (l : List ℕ). c.put_named.new.out.items ++ counted u32_bytes l) c.as_slice.ensures)) c.in_ok-put_stored.ensures
    ∙ ap (λ (l : List ℕ). c.args.out.now.items ++ l) (sym (append_assoc front (u32_bytes c.args.x.now.len) (flag c.args.x.now.new)))
