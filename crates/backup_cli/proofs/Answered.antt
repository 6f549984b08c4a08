-- The answers for which a node was opened, one by one.
use Rattle.std.proofs.Common.{◌≡◌, ℕ, refl, subst}
use Rattle.psb_digest.specs.Clashes.{Pair}
use Rattle.said_lines.specs.Status.{IsElsewhere, IsOpened}
use Rattle.said_lines.specs.declared.status.Status.{Status}
use Rattle.said_lines.specs.declared.status.Status.TheVariants.{Done, Usage, DiskFault, LinkFault, FolderFault, SayFault, NotNode, Already, BadSettings, NoSnapshot, TooLarge, Missing, Altered, Clash, NotEmpty, BadSkeleton, Memory}

-- of a command that restores nothing
pub opened_as : (status : Status) (P : Type 0) → IsElsewhere status → (status ≡ Done → P) → (status ≡ LinkFault → P) → (status ≡ SayFault → P) → ((k : ℕ) → status ≡ NoSnapshot k → P) → (status ≡ FolderFault → P) → (status ≡ TooLarge → P) → ((c : Pair) → status ≡ Clash c → P) → IsOpened status → P
opened_as Done P elsewhere done link say number folder large clash is = done refl
opened_as Usage P elsewhere done link say number folder large clash is = absurd is
opened_as DiskFault P elsewhere done link say number folder large clash is = absurd is
opened_as LinkFault P elsewhere done link say number folder large clash is = link refl
opened_as FolderFault P elsewhere done link say number folder large clash is = folder refl
opened_as SayFault P elsewhere done link say number folder large clash is = say refl
opened_as NotNode P elsewhere done link say number folder large clash is = absurd is
opened_as Already P elsewhere done link say number folder large clash is = absurd is
opened_as BadSettings P elsewhere done link say number folder large clash is = absurd is
opened_as (NoSnapshot k) P elsewhere done link say number folder large clash is = number k refl
opened_as TooLarge P elsewhere done link say number folder large clash is = large refl
opened_as (Missing name) P elsewhere done link say number folder large clash is = absurd elsewhere
opened_as (Altered name got) P elsewhere done link say number folder large clash is = absurd elsewhere
opened_as (Clash c) P elsewhere done link say number folder large clash is = clash c refl
opened_as NotEmpty P elsewhere done link say number folder large clash is = absurd elsewhere
opened_as (BadSkeleton f place) P elsewhere done link say number folder large clash is = absurd elsewhere
opened_as Memory P elsewhere done link say number folder large clash is = absurd is

pub opened_is_no : (status closed : Status) → (IsOpened closed → ⊥) → IsOpened status → status ≡ closed → ⊥
opened_is_no status closed not opened is = not (subst (λ (s : Status). IsOpened s) is opened)
