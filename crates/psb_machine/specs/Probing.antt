-- What a peer gets that asks for a proof that the node has what it answers for (Samsara, SOSP 2003).
use Rattle.std.specs.Prelude.{ℕ, ◌+◌, Bool, true, not, ◌||◌, if◌then◌else◌, List, [], ◌∷◌, find, option_map, Option, Some, None}
use Rattle.psb_bytes.specs.declared.ids.Object.{Object}
use Rattle.psb_bytes.specs.declared.ids.Object.TheVariants.{Chunk, Slot}
use Rattle.psb_bytes.specs.declared.ids.Seat.{Seat}
use Rattle.psb_digest.specs.Claims.{claim}
use Rattle.psb_settings.specs.declared.settings.Settings.{Settings}
use Rattle.psb_model.specs.Words.{object_eq, has, has_so}
use Rattle.psb_model.specs.State.{State, row, in_key, out_key, debt_key}
use Rattle.psb_model.specs.Conditions.{is_whole}
use Rattle.psb_model.specs.History.{state}
use Rattle.psb_model.specs.Needed.{last_brought, slot_bytes}
use Rattle.psb_model.specs.declared.change.Change.{Change}
use Rattle.psb_model.specs.declared.entries.InEntry.{InEntry}
use Rattle.psb_model.specs.declared.entries.InState.{InState}
use Rattle.psb_model.specs.declared.entries.InState.TheVariants.{Direct, Forwarded, Home}
use Rattle.probe.specs.Chains.{link_on}
use Rattle.wire_codec.specs.declared.frame.Frame.{Frame}
use Rattle.wire_codec.specs.declared.frame.Frame.TheVariants.{Proof, Declined}

-- ---- what is missing

-- what the node answers for to the peer at the object
abbrev pub entry_for : State → ℕ → Object → Option InEntry
entry_for s p o = find (λ e. object_eq (in_key e) o) (row s p).ins

-- A claim that was handed on can be asked for where the slot that carries it still stands there, or in a row of debt
-- of which nothing was used up.
abbrev pub carries : State → Seat → Bool
carries s to = has out_key (row s to.peer).outs (Slot to.slot) || has_so debt_key is_whole (row s to.peer).debts (Slot to.slot)

abbrev pub is_within_reach : State → InState → Bool
is_within_reach s (Forwarded to) = carries s to
is_within_reach s _ = true

abbrev pub is_lost : State → Option InEntry → Bool
is_lost s None = true
is_lost s (Some e) = not (is_within_reach s e.state)

abbrev pub is_missing : State → ℕ → Object → Bool
is_missing s p o = is_lost s (entry_for s p o)

-- the places of the missing objects, in their order; the first object has place k
abbrev pub missing_from : ℕ → State → ℕ → List Object → List ℕ
missing_from k s p [] = []
missing_from k s p (o ∷ os) = if is_missing s p o then k ∷ missing_from (k + 1) s p os else missing_from (k + 1) s p os

-- ---- what is proved

-- the bytes of a claim: the peer's own stand in the change that gave them, and one that came home is the node's
abbrev pub claim_bytes : List ℕ → List Change → ℕ → ℕ → InState → Option (List ℕ)
claim_bytes seed h p n Direct = slot_bytes p n h
claim_bytes seed h p n (Home i) = Some (claim seed i)
claim_bytes seed h p n _ = None

-- the bytes of what the node answers for, where it has them
abbrev pub bytes_at : List ℕ → List Change → ℕ → Object → Option InEntry → Option (List ℕ)
bytes_at seed h p o None = None
bytes_at seed h p (Chunk name) (Some e) = last_brought name h
bytes_at seed h p (Slot n) (Some e) = claim_bytes seed h p n e.state

abbrev pub object_bytes : List ℕ → List Change → ℕ → Object → Option (List ℕ)
object_bytes seed h p o = bytes_at seed h p o (entry_for (state h) p o)

-- The value of the chain over the objects, from this value on, where the node has the bytes of each.
abbrev pub chain_over : (Object → Option (List ℕ)) → List ℕ → List Object → Option (List ℕ)
chain_over bytes value [] = Some value
chain_over bytes value (o ∷ os) = elim (bytes o) [ None ↦ None | Some b ↦ chain_over bytes (link_on value b) os ]

-- ---- the answer

-- Where objects are missing it is declined, with their places; else the value of the chain is the proof. So far there
-- is no answer where a claim was handed on: its bytes are another node's.
abbrev pub proof_by : List ℕ → List Change → ℕ → List ℕ → List Object → List ℕ → Option Frame
proof_by seed h p nonce objects [] = option_map (Proof nonce) (chain_over (object_bytes seed h p) nonce objects)
proof_by seed h p nonce objects (k ∷ ks) = Some (Declined nonce (k ∷ ks))

abbrev pub proof_of : Settings → List Change → ℕ → List ℕ → List Object → Option Frame
proof_of settings h p nonce objects = proof_by settings.seed h p nonce objects (missing_from 0 (state h) p objects)
