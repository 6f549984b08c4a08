-- Where it has no say in why an offer is refused whether other bytes are held under its name.
use Rattle.std.proofs.Common.{◌≡◌, ◌⊎◌, inl, inr, ℕ, Bool, true, false, List, Option, Some, None, refl, sym, ◌∙◌, ap}
use Rattle.psb_bytes.specs.declared.ids.Object.TheVariants.{Chunk}
use Rattle.psb_bytes.specs.Objects.{name_eq}
use Rattle.psb_digest.specs.Hashes.{sha}
use Rattle.psb_settings.specs.declared.settings.Settings.{Settings}
use Rattle.chunk_store.specs.declared.owner.Owner.TheVariants.{Peer}
use Rattle.chunk_store.specs.declared.store.Store.{Store}
use Rattle.chunk_store.specs.Store.{is_owner}
use Rattle.psb_model.specs.Words.{has}
use Rattle.psb_model.specs.State.{State, row, in_key}
use Rattle.psb_model.specs.History.{state}
use Rattle.psb_model.specs.declared.change.Change.{Change}
use Rattle.psb_model.proofs.ByObject.{by_cases}
use Rattle.psb_machine.specs.Deals.{StoreFresh, StoreSwap, meets_others}
use Rattle.node_facts.specs.Refused.{refused_by}
use Rattle.node_history.specs.Names.{KnowsNames}

-- the bytes do not have their name, or the peer has it here, or the two answers are one
abbrev pub IsIdle : State → ℕ → List ℕ → List ℕ → Bool → Bool → Type 0
IsIdle s p name bytes a b = (name_eq (sha bytes) name ≡ false) ⊎ (has in_key (row s p).ins (Chunk name) ≡ true) ⊎ (a ≡ b)

pub idle_fresh : (known : Option Settings) (s : State) (p : ℕ) (name bytes : List ℕ) (a b : Bool) → IsIdle s p name bytes a b → refused_by known s p (StoreFresh name bytes) a ≡ refused_by known s p (StoreFresh name bytes) b
idle_fresh None s p name bytes a b is = refl
idle_fresh (Some st) s p name bytes a b (inl k) = rw k refl
idle_fresh (Some st) s p name bytes a b (inr (inl k)) = rw k refl
idle_fresh (Some st) s p name bytes a b (inr (inr k)) = ap (refused_by (Some st) s p (StoreFresh name bytes)) k

pub idle_swap : (known : Option Settings) (s : State) (p : ℕ) (name numbers bytes : List ℕ) (a b : Bool) → IsIdle s p name bytes a b → refused_by known s p (StoreSwap name numbers bytes) a ≡ refused_by known s p (StoreSwap name numbers bytes) b
idle_swap None s p name numbers bytes a b is = refl
idle_swap (Some st) s p name numbers bytes a b (inl k) = rw k refl
idle_swap (Some st) s p name numbers bytes a b (inr (inl k)) = rw k refl
idle_swap (Some st) s p name numbers bytes a b (inr (inr k)) = ap (refused_by (Some st) s p (StoreSwap name numbers bytes)) k

-- so it is with what was looked up, where the disk told its bytes
pub idle_of : (store : Store) (h : List Change) (p : ℕ) (name bytes : List ℕ) (clash : Bool) → KnowsNames store h → (name_eq (sha bytes) name ≡ true → is_owner store (Peer p) name ≡ false → clash ≡ meets_others h name bytes) → IsIdle (state h) p name bytes clash (meets_others h name bytes)
idle_of store h p name bytes clash knows told = by_cases (name_eq (sha bytes) name)
    (λ named. by_cases (is_owner store (Peer p) name)
    (λ has_it. inr (inl (sym (knows.owners (Peer p) name) ∙ has_it)))
    (λ free. inr (inr (told named free))))
    (λ other. inl other)
