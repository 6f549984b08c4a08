-- What a change does to the three lists of its peer.
use Rattle.std.specs.Prelude.{ℕ, zero, suc, ◌-◌, nat_le, Bool, false, not, if◌then◌else◌, List, [], ◌∷◌, ◌++◌, filter}
use Rattle.psb_bytes.specs.declared.ids.Object.{Object}
use Rattle.psb_model.specs.declared.entries.InEntry.{InEntry}
use Rattle.psb_model.specs.declared.entries.OutEntry.{OutEntry}
use Rattle.psb_model.specs.declared.entries.DebtEntry.{DebtEntry}
use Rattle.psb_model.specs.Words.{without, with_all}
use Rattle.psb_model.specs.State.{Row, in_key, out_key}

-- First the objects that are gone leave, and then the new entries come.
pub record Move : Type 0 where
  pub in_gone : List Object
  pub in_new : List InEntry
  pub out_gone : List Object
  pub out_new : List OutEntry
  pub returned : DebtEntry → Bool  -- the rows of debt that leave
  pub booked : List DebtEntry  -- the rows that debt gains, at its end
  pub used_up : ℕ  -- the units that rows of debt lose, the oldest first

-- nothing moves
abbrev pub still : Move
still = record { in_gone = []; in_new = []; out_gone = []; out_new = []; returned = λ d. false; booked = []; used_up = 0 }

-- rows lose units, the oldest first; a row with nothing left is gone
abbrev pub use_up : ℕ → List DebtEntry → List DebtEntry
use_up zero ds = ds
use_up (suc n) [] = []
use_up (suc n) (d ∷ ds) = if nat_le d.left (suc n) then use_up (suc n - d.left) ds else record d { left = d.left - suc n } ∷ ds

-- the row after the move
abbrev pub after_move : Move → Row → Row
after_move m r = record r {
  ins = with_all in_key m.in_new (without in_key m.in_gone r.ins);
  outs = with_all out_key m.out_new (without out_key m.out_gone r.outs);
  debts = use_up m.used_up (filter (λ d. not (m.returned d)) r.debts) ++ m.booked;
}
