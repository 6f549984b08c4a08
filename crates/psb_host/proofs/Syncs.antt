-- A sync that succeeded.
use Rattle.std.proofs.Common.{◌≡◌, ◌≤◌, ℕ, Bool, true, false, List, [], ◌∷◌, Option, Some, None, IfSome, is_some, refl, sym, subst, inl, inr, ⊎_elim, arith}
use Rattle.psb_station.specs.View.{View, Outside}
use Rattle.psb_station.specs.Calls.{Writes, Same}
use Rattle.psb_host.specs.StationEvents.{StationEvent, counted, is_usable, outside_of}
use Rattle.psb_host.specs.StationEvents.StationEvent.{Synced}
use Rattle.psb_host.specs.HonestStation.{settled, images_synced, bytes_after, after, replay, meaning, IsBegun}
use Rattle.psb_host.specs.StationLaws.{reads_one}

from_settled : (o : Option (List ℕ)) (P : List ℕ → Type 0) → IfSome o P → (c : List ℕ) → settled o P c → (d : List ℕ) × P d × Same d c
from_settled None P reads c left = (c, left, refl)
from_settled (Some b) P reads c left = (b, reads, left)

-- what is kept where a sync leaves the images as they were
writes_kept : (usable ok : Bool) (v : View) (o : Outside) → images_synced ok usable v ≡ v.may_leave → (is_some (bytes_after usable (Synced ok) v.bytes) ≡ true → is_some v.bytes ≡ true) → (faults : v.disk_faults ≤ counted ok v.disk_faults) → v.write_faults ≤ counted ok v.write_faults
    → Writes Same (record v { outside = o }) (record (after usable (Synced ok) v) { outside = o })
writes_kept usable ok v o same tells faults writes = record {
  images = λ c left. (c, subst (λ (P : List ℕ → Type 0). P c) same left, refl);
  time = record {
    later = omega arith;
    nothing_else = λ t c k le left. ⊎_elim (λ before. inl before) (λ now. inr (now.1, now.2)) left;
    keeps = λ t c k le left. inl left;
  };
  told = refl;
  disk_faults = faults;
  write_faults = writes;
  outside = refl;
  tells = tells;
}

writes_synced : (usable ok : Bool) (v : View) (o : Outside) → IfSome v.bytes v.may_leave → Writes Same (record v { outside = o }) (record (after usable (Synced ok) v) { outside = o })
writes_synced true true v o reads = record {
  images = from_settled v.bytes v.may_leave reads;
  time = record {
    later = omega arith;
    nothing_else = λ t c k le left. ⊎_elim (λ before. inl before) (λ now. inr (now.1, now.2)) left;
    keeps = λ t c k le left. inl left;
  };
  told = refl;
  disk_faults = omega arith;
  write_faults = omega arith;
  outside = refl;
  tells = λ tells. tells;
}
writes_synced false true v o reads = writes_kept false true v o refl (λ tells. absurd (cc)) (omega arith) (omega arith)
writes_synced usable false v o reads = writes_kept usable false v o refl (λ tells. tells) (omega arith) (omega arith)

pub synced_writes : (bytes : List ℕ) (images : List ℕ → Type 0) → images bytes → (ok : Bool) (old new : List StationEvent) → new ≡ Synced ok ∷ old → Writes Same (meaning bytes images old) (meaning bytes images new)
synced_writes bytes images reads ok old new is =
    subst (λ (events : List StationEvent). Writes Same (meaning bytes images old) (meaning bytes images events)) (sym is)
    (writes_synced (is_usable old) ok (replay bytes images old) (outside_of old) (reads_one bytes images reads old))

pub begins : (bytes : List ℕ) (images : List ℕ → Type 0) (events : List StationEvent) → events ≡ [] → IsBegun bytes images (meaning bytes images events)
begins bytes images events none = subst (λ (l : List StationEvent). IsBegun bytes images (meaning bytes images l)) (sym none) (record {
  reads = refl;
  left = λ c left. left;
  since = λ t c k left. (left.1, left.2);
  told = refl;
  moment = refl;
  outside = refl;
})
