use Rattle.std.proofs.Common.{◌≡◌, ◌++◌, ◌∷◌, [], length, ap, sym, ◌∙◌}
use Rattle.psb_bytes.specs.Tickets.{ref_bytes, ref_of, ticket_of}
use Rattle.psb_bytes.proofs.Refs.{levels_written, ticket_of-ticket_bytes}
use Rattle.psb_bytes.proofs.ids.Ticket.bytes.Goals as goal

pub returns-clause-spelling : goal.returns-clause-spelling
returns-clause-spelling c =
    let front : c.copy_from_slice.new.self ≡ ref_bytes c.args.self.now.reference = c.copy_from_slice.ensures.after ∙ c.bytes.ensures.spelling in
    levels_written c.copy_from_slice.new.self _ c.copy_from_slice.ensures.len ∙ ap (λ l. l ++ c.args.self.now.levels ∷ []) front

pub returns-clause-reads_back : goal.returns-clause-reads_back
returns-clause-reads_back c =
    let front : c.copy_from_slice.new.self ≡ ref_bytes c.args.self.now.reference = c.copy_from_slice.ensures.after ∙ c.bytes.ensures.spelling in
    ap ticket_of (returns-clause-spelling c)
    ∙ ticket_of-ticket_bytes c.args.self.now (ap length (sym front) ∙ c.copy_from_slice.ensures.len) (ap ref_of (sym c.bytes.ensures.spelling) ∙ c.bytes.ensures.reads_back)
