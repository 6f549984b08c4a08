-- What one more change does to the numbers of deals with a peer.
use Rattle.std.proofs.Common.{◌≡◌, ℕ, ◌+◌, true, false, ◌==◌, cond, if◌then◌else◌, is_none, Option, Some, None, refl, sym, ap, subst, ◌∙◌}
use Rattle.std.proofs.lemmas.Bool.{false≢true, eqb-true}
use Rattle.psb_model.specs.declared.deals.Deal.{Deal}
use Rattle.psb_model.specs.declared.deals.LastDeal.{LastDeal}
use Rattle.psb_model.specs.declared.change.Change.{Change}
use Rattle.psb_model.specs.declared.change.Change.TheVariants.{Begun, Kept, Snapped, Forgot, TookFresh, TookSwap, LetGo, LetGoBack, Replaced, Refused, Proposed, Settled, Turned, Asked, Passed, Failed, Declined, Discarded, Chose}
use Rattle.psb_model.specs.State.{Row, State, row, is_peer}
use Rattle.psb_model.specs.Conditions.{allowed, is_begun, is_pending, peer_of, tests}
use Rattle.psb_model.specs.Effects.{after}
use Rattle.psb_model.proofs.ByObject.{by_cases}
use Rattle.psb_model.proofs.Steps.{parts}
use Rattle.psb_model.proofs.Steady.{allows}
use Rattle.psb_model.proofs.Bare.{bare, changed, row_bare}
use Rattle.model_laws.specs.Finding.{deal_answered, deal_ended, deal_proposed}

-- the last deal of p, the last own deal to p and the one that is pending, after a change
abbrev pub last_by : Option (ℕ × ℕ) → ℕ → ℕ → LastDeal → LastDeal
last_by None p n old = old
last_by (Some x) p n old = if x.0 == p then record { number = x.1; change = n } else old

abbrev pub mine_by : Option (ℕ × Deal) → ℕ → ℕ → ℕ
mine_by None p old = old
mine_by (Some x) p old = if x.0 == p then x.1.number else old

abbrev pub ended_by : Option (ℕ × ℕ) → ℕ → Option Deal → Option Deal
ended_by None p old = old
ended_by (Some x) p old = if x.0 == p then None else old

abbrev pub pending_by : Option (ℕ × Deal) → Option (ℕ × ℕ) → ℕ → Option Deal → Option Deal
pending_by None e p old = ended_by e p old
pending_by (Some x) e p old = if x.0 == p then Some x.1 else old

pub record IsNoted (s : State) (c : Change) (p : ℕ) (r : Row) : Type 0 where
  pub last : r.last ≡ last_by (deal_answered c) p s.changes (row s p).last
  pub mine : r.mine ≡ mine_by (deal_proposed c) p (row s p).mine
  pub pending : r.pending ≡ pending_by (deal_proposed c) (deal_ended c) p (row s p).pending

-- what is said of a row holds of one that differs in states alone
alike : (s : State) (c : Change) (p : ℕ) (r q : Row) → bare r ≡ bare q → IsNoted s c p q → IsNoted s c p r
alike s c p r q e n = record { last = ap (λ (x : Row). x.last) e ∙ n.last; mine = ap (λ (x : Row). x.mine) e ∙ n.mine; pending = ap (λ (x : Row). x.pending) e ∙ n.pending }

of_peer : (s : State) (c : Change) (q p : ℕ) → peer_of c ≡ Some q → is_peer s q ≡ true → ((q == p) ≡ true → IsNoted s c p (changed s c (row s p))) → ((q == p) ≡ false → IsNoted s c p (row s p)) → IsNoted s c p (row (after s c) p)
of_peer s c q p peer here same other =
    let e = row_bare s c q p peer here in
    by_cases (q == p)
    (λ k. alike s c p (row (after s c) p) (changed s c (row s p)) (e ∙ ap (λ b. bare (cond b (changed s c (row s p)) (row s p))) k) (same k))
    (λ k. alike s c p (row (after s c) p) (row s p) (e ∙ ap (λ b. bare (cond b (changed s c (row s p)) (row s p))) k) (other k))

pub noted : (s : State) (c : Change) (p : ℕ) → allowed s c ≡ true → is_begun c ≡ false → IsNoted s c p (row (after s c) p)
noted s (Begun x) p h b = absurd (false≢true (sym b))
noted s (Kept x) p h b = record { last = refl; mine = refl; pending = refl }
noted s (Snapped x) p h b = record { last = refl; mine = refl; pending = refl }
noted s (Forgot x) p h b = record { last = refl; mine = refl; pending = refl }
noted s (Chose x) p h b = record { last = refl; mine = refl; pending = refl }
noted s (TookFresh x) p h b =
    let c : Change = TookFresh x in of_peer s c x.peer p refl (allows s c h).peer (λ k. record { last = rw k refl; mine = refl; pending = refl }) (λ k. record { last = rw k refl; mine = refl; pending = refl })
noted s (TookSwap x) p h b =
    let c : Change = TookSwap x in of_peer s c x.peer p refl (allows s c h).peer (λ k. record { last = rw k refl; mine = refl; pending = refl }) (λ k. record { last = rw k refl; mine = refl; pending = refl })
noted s (LetGo x) p h b =
    let c : Change = LetGo x in of_peer s c x.peer p refl (allows s c h).peer (λ k. record { last = rw k refl; mine = refl; pending = refl }) (λ k. record { last = rw k refl; mine = refl; pending = refl })
noted s (LetGoBack x) p h b =
    let c : Change = LetGoBack x in of_peer s c x.peer p refl (allows s c h).peer (λ k. record { last = rw k refl; mine = refl; pending = refl }) (λ k. record { last = rw k refl; mine = refl; pending = refl })
noted s (Replaced x) p h b =
    let c : Change = Replaced x in of_peer s c x.peer p refl (allows s c h).peer (λ k. record { last = rw k refl; mine = refl; pending = refl }) (λ k. record { last = rw k refl; mine = refl; pending = refl })
noted s (Refused x) p h b =
    let c : Change = Refused x in of_peer s c x.peer p refl (allows s c h).peer (λ k. record { last = rw k refl; mine = refl; pending = refl }) (λ k. record { last = rw k refl; mine = refl; pending = refl })
noted s (Proposed x) p h b =
    let c : Change = Proposed x in of_peer s c x.peer p refl (allows s c h).peer (λ k. record { last = refl; mine = rw k refl; pending = rw k refl }) (λ k. record { last = refl; mine = rw k refl; pending = rw k refl })
noted s (Settled x) p h b =
    let c : Change = Settled x in of_peer s c x.peer p refl (allows s c h).peer (λ k. record { last = refl; mine = refl; pending = rw k refl }) (λ k. record { last = refl; mine = refl; pending = rw k refl })
noted s (Turned x) p h b =
    let c : Change = Turned x in of_peer s c x.peer p refl (allows s c h).peer (λ k. record { last = refl; mine = refl; pending = rw k refl }) (λ k. record { last = refl; mine = refl; pending = rw k refl })
noted s (Asked x) p h b =
    let c : Change = Asked x in of_peer s c x.peer p refl (allows s c h).peer (λ k. record { last = refl; mine = refl; pending = refl }) (λ k. record { last = refl; mine = refl; pending = refl })
noted s (Failed x) p h b =
    let c : Change = Failed x in of_peer s c x.peer p refl (allows s c h).peer (λ k. record { last = refl; mine = refl; pending = refl }) (λ k. record { last = refl; mine = refl; pending = refl })
noted s (Declined x) p h b =
    let c : Change = Declined x in of_peer s c x.peer p refl (allows s c h).peer (λ k. record { last = refl; mine = refl; pending = refl }) (λ k. record { last = refl; mine = refl; pending = refl })
noted s (Discarded x) p h b =
    let c : Change = Discarded x in of_peer s c x.peer p refl (allows s c h).peer (λ k. record { last = refl; mine = refl; pending = refl }) (λ k. record { last = refl; mine = refl; pending = refl })
noted s (Passed x) p h b =
    let c : Change = Passed x in of_peer s c x.peer p refl (allows s c h).peer (λ k. by_cases (x.asked == 0) (λ j. record { last = rw j refl; mine = rw j refl; pending = rw j refl }) (λ j. record { last = rw j refl; mine = rw j refl; pending = rw j refl })) (λ k. record { last = refl; mine = refl; pending = refl })

-- ---- the numbers that come

pub record ComesNext (s : State) (x : ℕ × Deal) : Type 0 where
  pub number : x.1.number ≡ (row s x.0).mine + 1
  pub idle : (row s x.0).pending ≡ None

none_is : (o : Option Deal) → is_none o ≡ true → o ≡ None
none_is None h = refl
none_is (Some d) h = absurd (false≢true h)

pub proposes_next : (s : State) (c : Change) (x : ℕ × Deal) → allowed s c ≡ true → deal_proposed c ≡ Some x → ComesNext s x
proposes_next s (Proposed y) x m is =
    let ts = parts (tests s (Proposed y)) (allows s (Proposed y) m).tests in
    let same : (y.peer, record { number = y.deal; what = y.what }) ≡ x = cc (is) in
    subst (ComesNext s) same (record { number = eqb-true y.deal ((row s y.peer).mine + 1) ts.0; idle = none_is (row s y.peer).pending ts.1.0 })
proposes_next s _ x m is = absurd (cc (is))

abbrev pub IsNextOf : State → ℕ × ℕ → Type 0
IsNextOf s x = x.1 ≡ (row s x.0).last.number + 1

next_of : (s : State) (p deal : ℕ) (x : ℕ × ℕ) → Some (p, deal) ≡ Some x → (deal == (row s p).last.number + 1) ≡ true → IsNextOf s x
next_of s p deal x is h = let same : (p, deal) ≡ x = cc (is) in subst (IsNextOf s) same (eqb-true deal ((row s p).last.number + 1) h)

pub answers_next : (s : State) (c : Change) (x : ℕ × ℕ) → allowed s c ≡ true → deal_answered c ≡ Some x → IsNextOf s x
answers_next s (TookFresh y) x m is =
    let c : Change = TookFresh y in next_of s y.peer y.deal x is (parts (tests s c) (allows s c m).tests).0
answers_next s (TookSwap y) x m is =
    let c : Change = TookSwap y in next_of s y.peer y.deal x is (parts (tests s c) (allows s c m).tests).0
answers_next s (LetGo y) x m is =
    let c : Change = LetGo y in next_of s y.peer y.deal x is (parts (tests s c) (allows s c m).tests).0
answers_next s (LetGoBack y) x m is =
    let c : Change = LetGoBack y in next_of s y.peer y.deal x is (parts (tests s c) (allows s c m).tests).0
answers_next s (Replaced y) x m is =
    let c : Change = Replaced y in next_of s y.peer y.deal x is (parts (tests s c) (allows s c m).tests).0
answers_next s (Refused y) x m is =
    let c : Change = Refused y in next_of s y.peer y.deal x is (parts (tests s c) (allows s c m).tests).0
answers_next s _ x m is = absurd (cc (is))

-- the pending deal has the number of what ends it
pub record EndsPending (s : State) (z : ℕ × ℕ) : Type 0 where
  pub deal : Deal
  pub pending : (row s z.0).pending ≡ Some deal
  pub number : deal.number ≡ z.1

pending_of : (s : State) (p number : ℕ) (z : ℕ × ℕ) → Some (p, number) ≡ Some z → is_pending (row s p).pending number ≡ true → EndsPending s z
pending_of s p number z is h =
    let same : (p, number) ≡ z = cc (is) in
    subst (EndsPending s) same (by_deal (row s p).pending refl h)
  where
    by_deal : (o : Option Deal) → (row s p).pending ≡ o → is_pending o number ≡ true → EndsPending s (p, number)
    by_deal None e k = absurd (false≢true k)
    by_deal (Some d) e k = record { deal = d; pending = e; number = eqb-true d.number number k }

pub ends_pending : (s : State) (c : Change) (z : ℕ × ℕ) → allowed s c ≡ true → deal_ended c ≡ Some z → EndsPending s z
ends_pending s (Settled x) z m is = let c : Change = Settled x in pending_of s x.peer x.deal z is (parts (tests s c) (allows s c m).tests).0
ends_pending s (Turned x) z m is = let c : Change = Turned x in pending_of s x.peer x.deal z is (parts (tests s c) (allows s c m).tests).0
ends_pending s _ z m is = absurd (cc (is))
