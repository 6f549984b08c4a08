-- What an account keeps of the node's own deals with its peer.
use Rattle.std.specs.Prelude.{ℕ, Bool, ◌||◌, List, Option, Some, None}
use Rattle.psb_model.specs.declared.deals.Deal.{Deal}
use Rattle.psb_model.specs.declared.deals.DealWhat.{DealWhat}
use Rattle.psb_model.specs.declared.deals.DealWhat.TheVariants.{Fresh, Swap, PutBack}
use Rattle.psb_model.specs.Words.{units_at, has, name_listed}
use Rattle.psb_model.specs.State.{Row, out_key, out_size, debt_key}
use Rattle.psb_bytes.specs.declared.ids.Object.TheVariants.{Chunk}
use Rattle.psb_model.specs.Effects.{deal_name, pending_name}
use Rattle.own_deals.specs.OwnDeals.{number_of}

-- the number of the first change by which the peer turned the name down for good
abbrev pub barring : Row → List ℕ → Option ℕ
barring r n = number_of r.barred n

-- the chunk that the pending deal places, and the one that will be answered for
abbrev pub placed_name : Option Deal → Option (List ℕ)
placed_name None = None
placed_name (Some d) = elim d.what [ Fresh name ↦ Some name | Swap name numbers ↦ Some name | _ ↦ None ]

abbrev pub coming_name : Option Deal → Option (List ℕ)
coming_name None = None
coming_name (Some d) = elim d.what [ Fresh name ↦ Some name | _ ↦ None ]

abbrev pub put_back_name : Option Deal → Option (List ℕ)
put_back_name None = None
put_back_name (Some d) = elim d.what [ PutBack name first ↦ Some name | _ ↦ None ]

-- an entry there, a debt or the pending deal of the row names the chunk
abbrev pub row_names : Row → List ℕ → Bool
row_names r n = has out_key r.outs (Chunk n) || has debt_key r.debts (Chunk n) || name_listed (pending_name deal_name r.pending) n

-- the claim numbers that the deal draws
abbrev pub drawn : Row → DealWhat → ℕ
drawn r (PutBack name first) = units_at out_key out_size r.outs (Chunk name)
drawn r _ = 0
