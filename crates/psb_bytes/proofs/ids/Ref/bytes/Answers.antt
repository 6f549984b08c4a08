use Rattle.std.proofs.Common.{◌≡◌, length, refl, ap, sym, ◌∙◌, arith}
use Rattle.psb_bytes.specs.Numbers.{u32_bytes}
use Rattle.psb_bytes.specs.Tickets.{ref_of}
use Rattle.psb_bytes.proofs.Refs.{Copied, handle_copied, two_copied, three_copied, ref_of-ref_bytes}
use Rattle.psb_bytes.proofs.ids.Ref.bytes.Goals as goal

pub slice_bounds-bytes-end-3 : goal.slice_bounds-bytes-end-3
slice_bounds-bytes-end-3 c =
    omega (arith, two_copied c.copy_from_slice.new.self c.copy_from_slice-2.new.self c.copy_from_slice.ensures.len c.copy_from_slice-2.ensures.len)

pub returns-clause-spelling : goal.returns-clause-spelling
returns-clause-spelling c =
    let all : Copied c.copy_from_slice.new.self c.copy_from_slice-2.new.self c.copy_from_slice-3.new.self = record {
      name_long = c.copy_from_slice.ensures.len;
      handle_long = c.copy_from_slice-2.ensures.len;
      len_long = c.copy_from_slice-3.ensures.len;
    } in
    let name : c.copy_from_slice.new.self ≡ c.args.self.now.name = c.copy_from_slice.ensures.after ∙ c.name.view_is in
    let handle : c.copy_from_slice-2.new.self ≡ c.args.self.now.handle = c.copy_from_slice-2.ensures.after ∙ c.handle.view_is in
    let len : c.copy_from_slice-3.new.self ≡ u32_bytes c.args.self.now.len = c.copy_from_slice-3.ensures.after ∙ c.to_be_bytes.ensures in
    three_copied _ _ _ all ∙ rw (name, handle, len) refl

pub returns-clause-reads_back : goal.returns-clause-reads_back
returns-clause-reads_back c =
    let name : length c.args.self.now.name ≡ 32 = ap length (sym (c.copy_from_slice.ensures.after ∙ c.name.view_is)) ∙ c.copy_from_slice.ensures.len in
    let handle : length c.args.self.now.handle ≡ 32 = ap length (sym (c.copy_from_slice-2.ensures.after ∙ c.handle.view_is)) ∙ handle_copied _ _ c.copy_from_slice.ensures.len c.copy_from_slice-2.ensures.len in
    ap ref_of (returns-clause-spelling c) ∙ ref_of-ref_bytes c.args.self.now name handle (omega arith)
