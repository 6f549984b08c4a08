-- The laws of the machine, for each history and each input.
use Rattle.std.specs.Prelude.{◌≡◌, ℕ, ◌≤◌, ◌<◌, ◌^◌, Bool, ◌&&◌, not, true, List, [], length, is_some, Some}
use Rattle.std.specs.List.{list_all}
use Rattle.psb_bytes.specs.Numbers.{AreBytes}
use Rattle.psb_bytes.specs.declared.ids.Object.{Object}
use Rattle.psb_bytes.specs.Objects.{name_eq}
use Rattle.psb_bytes.specs.Units.{longest_chunk}
use Rattle.psb_digest.specs.Hashes.{sha}
use Rattle.psb_settings.specs.declared.settings.Settings.{Settings}
use Rattle.psb_model.specs.Words.{In, listed}
use Rattle.psb_model.specs.State.{State, Row, row, own_has, snaps_made, out_ties, ties_out}
use Rattle.psb_model.specs.Conditions.{names_ascend}
use Rattle.psb_model.specs.Grammar.{is_u8, is_u32, is_u64, is_digest, is_ticket, ticket_fits}
use Rattle.psb_model.specs.History.{state}
use Rattle.psb_model.specs.Needed.{IsValid}
use Rattle.psb_model.specs.declared.deals.Deal.{Deal as OwnDeal}
use Rattle.psb_model.specs.declared.change.Change.{Change}
use Rattle.model_laws.specs.Finding.{deal_proposed}
use Rattle.wire_codec.specs.Laws.{IsFrame}
use Rattle.wire_codec.specs.declared.frame.Frame.{Frame}
use Rattle.wire_codec.specs.declared.frame.Frame.TheVariants as frame
use Rattle.psb_machine.specs.Letters.{Letter}
use Rattle.psb_machine.specs.OwnProbes.{Run}
use Rattle.psb_machine.specs.Machine.{Situation, Input, Datagram, Tick, Keep, Snap, Forget, run_at, react, next}
use Rattle.psb_machine.specs.declared.snap_note.SnapNote.{SnapNote}

-- sealed bytes as they are kept: under the name that is their SHA-256
pub record KeepFits (name bytes : List ℕ) : Type 0 where
  pub named : name_eq (sha bytes) name ≡ true
  pub name_fits : is_digest name ≡ true
  pub long : 1 ≤ length bytes
  pub short : length bytes ≤ longest_chunk
  pub bytes_fit : list_all is_u8 bytes ≡ true

-- how many names a snapshot may list
abbrev pub most_names : ℕ
most_names = 1048576

-- a snapshot that may be noted: its names ascend, the node has each for itself, and they are not too many;
-- its ticket can be read; and there is a number left
pub record SnapFits (s : State) (note : SnapNote) : Type 0 where
  pub ascend : names_ascend note.names ≡ true
  pub own : list_all (own_has s.own) note.names ≡ true
  pub most : length note.names ≤ most_names
  pub ticket : is_ticket note.ticket ≡ true
  pub more : snaps_made s < 4294967295
  pub widths : (ticket_fits note.ticket && is_u32 note.files && is_u32 note.folders && is_u64 note.bytes && is_u32 note.left && list_all is_digest note.names) ≡ true

-- a tick of a peer, after which its next deal has a number, and the next change too
pub record TickFits (s : State) (p : ℕ) : Type 0 where
  pub peer : is_u32 p ≡ true
  pub more : (row s p).mine < 18446744073709551615
  pub room : s.changes < 2 ^ 64

-- what an input has to be
abbrev pub Fits : Situation → Input → Type 0
Fits n (Datagram x) = AreBytes x
Fits n (Tick p) = TickFits (state n.history) p
Fits n (Keep name bytes) = KeepFits name bytes
Fits n (Snap note) = SnapFits (state n.history) note
Fits n (Forget number) = is_u32 number ≡ true

-- The pending deal with a peer ties none of these objects there.
abbrev pub all_untied : Row → List Object → Bool
all_untied r objects = list_all (λ o. not (ties_out r.pending o)) objects

-- No deal ties what a probe that runs lists.
abbrev pub IsUntied : Situation → Type 0
IsUntied n = (p : ℕ) (r : Run) → run_at n p ≡ Some r → all_untied (row (state n.history) p) r.objects ≡ true

-- The deal that a change proposes ties nothing that a probe lists which runs.
abbrev pub SparesProbes : Situation → Change → Type 0
SparesProbes n c = (p : ℕ) (d : OwnDeal) (r : Run) → deal_proposed c ≡ Some (p, d) → run_at n p ≡ Some r → list_all (λ (o : Object). not (listed (out_ties d.what) o)) r.objects ≡ true

-- what is made of a valid history is valid, and no deal comes to tie what a probe lists
abbrev pub KeepsValid : Type 0
KeepsValid = (n : Situation) (x : Input) → IsValid n.history → IsUntied n → Fits n x → IsValid (next n x).history

abbrev pub KeepsUntied : Type 0
KeepsUntied = (n : Situation) (x : Input) → IsValid n.history → IsUntied n → Fits n x → IsUntied (next n x)

-- There are at most two letters. A datagram that is dropped gives none, makes no change and leaves what
-- a restart forgets.
pub record Drops (n : Situation) (x : Input) : Type 0 where
  pub letters : (react n x).letters ≡ []
  pub same : next n x ≡ n

pub record TellsLittle (n : Situation) (x : Input) : Type 0 where
  pub most : length (react n x).letters ≤ 2
  pub dropped : is_some (react n x).dropped ≡ true → Drops n x

abbrev pub AllTellLittle : Type 0
AllTellLittle = (n : Situation) (x : Input) → TellsLittle n x

-- A question has the number of a change, for which there must be room in its field.
abbrev pub HasRoom : List Change → Frame → Type 0
HasRoom h (frame.Ask salt names) = length h ≤ 2 ^ 64
HasRoom h _ = Unit {0}

-- each letter is a frame of the grammar, so that its receiver can read it
abbrev pub AllAreFrames : Type 0
AllAreFrames = (n : Situation) (x : Input) (settings : Settings) (l : Letter) → IsValid n.history → (state n.history).settings ≡ Some settings → Fits n x → In l (react n x).letters → HasRoom n.history l.frame → IsFrame settings.id l.to l.number l.frame
