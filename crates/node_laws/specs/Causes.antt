-- Why a node made a change, and what it is that its letters tell.
use Rattle.std.specs.Prelude.{◌≡◌, ◌⊎◌, ℕ, List, Result, Ok, Some, None}
use Rattle.psb_settings.specs.declared.settings.Settings.{Settings}
use Rattle.psb_model.specs.History.{state}
use Rattle.psb_model.specs.Needed.{IsValid}
use Rattle.psb_model.specs.declared.change.Change.{Change}
use Rattle.wire_codec.specs.Frames.{Incoming, read_frame}
use Rattle.wire_codec.specs.declared.frame.Dropped.{Dropped}
use Rattle.psb_machine.specs.Letters.{keys_of}
use Rattle.psb_machine.specs.Deals.{Deal, deal_of, judged_at}
use Rattle.psb_machine.specs.Settling.{Reply, replied_by, settle}
use Rattle.psb_machine.specs.Machine.{Situation, Input, Datagram, react, next, sent_by}
use Rattle.psb_machine.specs.Laws.{Fits, IsUntied}
use Rattle.model_laws.specs.Finding.{deal_answered, deal_ended}
use Rattle.node_laws.specs.Letters.{AreLetters}

-- what a node reads of a datagram
abbrev pub reads : Settings → List ℕ → Result Incoming Dropped
reads s x = read_frame s.id (keys_of s) x

-- it answers a deal that was read
pub record ByDeal (s : Settings) (n : Situation) (x : Input) (c : Change) : Type 0 where
  pub bytes : List ℕ
  pub came : x ≡ Datagram bytes
  pub i : Incoming
  pub read : reads s bytes ≡ Ok i
  pub deal : Deal
  pub asks : deal_of i.frame ≡ Some deal
  pub made : c ≡ judged_at s n.history i.from i.number deal

-- a reply that was read made it
pub record ByReply (s : Settings) (n : Situation) (x : Input) (c : Change) : Type 0 where
  pub bytes : List ℕ
  pub came : x ≡ Datagram bytes
  pub i : Incoming
  pub read : reads s bytes ≡ Ok i
  pub reply : Reply
  pub is : replied_by i.frame ≡ Some reply
  pub made : settle (state n.history) i.from i.number reply ≡ Some c

-- it neither answers nor ends a deal
pub record ByItself (c : Change) : Type 0 where
  pub answers : deal_answered c ≡ None
  pub ends : deal_ended c ≡ None

abbrev pub Cause : Settings → Situation → Input → Change → Type 0
Cause s n x c = ByDeal s n x c ⊎ ByReply s n x c ⊎ ByItself c

-- each change that is made has one of these
abbrev pub HaveCauses : Type 0
HaveCauses = (s : Settings) (n : Situation) (x : Input) (c : Change) → (state n.history).settings ≡ Some s → (react n x).grown ≡ Some c → Cause s n x c

-- ---- letters

-- the node has a valid history with these settings, and the input is one that may be
pub record IsReady (s : Settings) (n : Situation) (x : Input) : Type 0 where
  pub valid : IsValid n.history
  pub settings : (state n.history).settings ≡ Some s
  pub fits : Fits n x

-- each letter is told by the history as it is then
abbrev pub AreTold : Type 0
AreTold = (s : Settings) (n : Situation) (x : Input) → IsReady s n x → IsUntied n → AreLetters s (next n x).history (sent_by n x)
