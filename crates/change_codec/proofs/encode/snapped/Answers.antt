use Rattle.std.proofs.Common.{List, ℕ, [], ◌∷◌, ◌++◌, ◌∙◌, ap}
use Rattle.psb_bytes.specs.Numbers.{u32_bytes, u64_bytes}
use Rattle.psb_bytes.specs.Tickets.{ticket_bytes}
use Rattle.psb_model.specs.Heads.{counted}
use Rattle.change_codec.proofs.Written.{next}
use Rattle.change_codec.proofs.encode.snapped.Goals as goal

pub returns : goal.returns
returns c =
    let old = c.args.out.now.items in
    next old (3 ∷ [] ++ u32_bytes c.args.x.now.number ++ ticket_bytes c.args.x.now.ticket ++ u32_bytes c.args.x.now.files ++ u32_bytes c.args.x.now.folders ++ u64_bytes c.args.x.now.bytes ++ u32_bytes c.args.x.now.left) (counted (λ name. name) c.args.x.now.names) c.put_u32-4.new.out.items c.put_list.new.out.items (next old (3 ∷ [] ++ u32_bytes c.args.x.now.number ++ ticket_bytes c.args.x.now.ticket ++ u32_bytes c.args.x.now.files ++ u32_bytes c.args.x.now.folders ++ u64_bytes c.args.x.now.bytes) (u32_bytes c.args.x.now.left) c.put_u64.new.out.items c.put_u32-4.new.out.items (next old (3 ∷ [] ++ u32_bytes c.args.x.now.number ++ ticket_bytes c.args.x.now.ticket ++ u32_bytes c.args.x.now.files ++ u32_bytes c.args.x.now.folders) (u64_bytes c.args.x.now.bytes) c.put_u32-3.new.out.items c.put_u64.new.out.items (next old (3 ∷ [] ++ u32_bytes c.args.x.now.number ++ ticket_bytes c.args.x.now.ticket ++ u32_bytes c.args.x.now.files) (u32_bytes c.args.x.now.folders) c.put_u32-2.new.out.items c.put_u32-3.new.out.items (next old (3 ∷ [] ++ u32_bytes c.args.x.now.number ++ ticket_bytes c.args.x.now.ticket) (u32_bytes c.args.x.now.files) c.put_bytes.new.out.items c.put_u32-2.new.out.items (next old (3 ∷ [] ++ u32_bytes c.args.x.now.number) (ticket_bytes c.args.x.now.ticket) c.put_u32.new.out.items c.put_bytes.new.out.items (next old (3 ∷ []) (u32_bytes c.args.x.now.number) c.put_u8.new.out.items c.put_u32.new.out.items c.in_ok-put_u8.ensures c.in_ok-put_u32.ensures) (c.in_ok-put_bytes.ensures ∙ ap (λ (l : List ℕ). c.put_u32.new.out.items ++ l) c.bytes.ensures.spelling)) c.in_ok-put_u32-2.ensures) c.in_ok-put_u32-3.ensures) c.in_ok-put_u64.ensures) c.in_ok-put_u32-4.ensures) (c.in_ok-put_list.ensures ∙ ap (λ (l : List (List ℕ)). c.put_u32-4.new.out.items ++ counted (λ name. name) l) c.as_slice.ensures)
