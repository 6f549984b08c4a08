-- The worked world, from what the settings texts say: each letter is read as what it spells.
use Rattle.std.proofs.Common.{◌≡◌, ℕ, nat_le, Bool, true, false, cond, List, [], ◌∷◌, ◌++◌, slice_get, option_map, Option, Some, None, refl, ap, ◌∙◌, arith}
use Rattle.psb_digest.specs.Hashes.{sha}
use Rattle.psb_settings.specs.Settings.{settings_of}
use Rattle.psb_settings.specs.declared.settings.Settings.{Settings}
use Rattle.psb_model.specs.History.{state, state_from}
use Rattle.psb_model.specs.State.{State, row, blank, nothing_yet}
use Rattle.psb_model.specs.Effects.{after}
use Rattle.psb_model.specs.declared.entries.Candidate.{Candidate}
use Rattle.psb_model.specs.declared.deals.Deal.{Deal as OwnDeal}
use Rattle.psb_model.specs.declared.deals.DealWhat.TheVariants.{Fresh}
use Rattle.psb_model.specs.declared.change.Change.{Change}
use Rattle.psb_model.specs.declared.change.Change.TheVariants.{Begun, Kept, Snapped, Chose, Settled}
use Rattle.psb_model.specs.Words.{name_eq}
use Rattle.wire_codec.specs.Laws.{IsFrame}
use Rattle.wire_codec.specs.declared.frame.Frame.TheVariants.{Store, Accepted}
use Rattle.wire_codec.proofs.FrameLaws.{reads}
use Rattle.psb_machine.specs.Letters.{Letter, keys_of, all_spelled}
use Rattle.psb_machine.specs.Volatile.{of_peer, later}
use Rattle.psb_machine.specs.OwnProbes.{Run}
use Rattle.psb_machine.specs.Deals.{StoreFresh, claims_joined, standing, judged_at}
use Rattle.psb_machine.specs.Messages.{Deals, Replies}
use Rattle.psb_machine.specs.Settling.{Accepts}
use Rattle.psb_machine.specs.Replies.{claims_from, reply}
use Rattle.psb_machine.specs.Proposals.{Offer, proposed_at}
use Rattle.psb_machine.specs.Sampling.{questions}
use Rattle.psb_machine.specs.Machine.{Situation, Input, Datagram, Tick, Reaction, answers_with, by_standing, on_deal, on_reply, sends, then_by, by_choice, choice_at, by_offer, offer_by, offer_at, ruled, on_tick, react, fresh, settled, Rule, run_at, by_late, discarded_by, by_due, by_run, ends_with, passes}
use Rattle.psb_machine.proofs.Causes.{react-message}
use Rattle.model_laws.specs.Worked.{bytes_from, plain_ticket}
use Rattle.agreement.specs.Worlds.{Party, Give, Stop, moved}
use Rattle.agreement.specs.Worked.{chunk, name, pair_key, node_settings, chosen, asked, placed, quiet_yet, took, store, accepted, first_node, opened, comes, StepsWorked, EndWorked, ToldWorked, WorkedWorld}
use Rattle.placing_laws.specs.Placing.{placing_by, last_placed}
use Rattle.psb_machine.proofs.ClaimFits.{accepted_fits}
use Rattle.agreement.proofs.Chunks.{last_end, first_of_two}

-- ---- an input whose reaction is known

given : (n : Party) (x : Input) (s : Settings) (r : Reaction) → (state n.now.history).settings ≡ Some s → react n.now x ≡ r → moved n (Give x) ≡ record { now = settled n.now r; sent = n.sent ++ all_spelled (Some s) r.letters }
given n x s r has is =
    ap (λ (q : Reaction). record { now = settled n.now q; sent = n.sent ++ all_spelled (state n.now.history).settings q.letters }) is
    ∙ ap (λ (o : Option Settings). record { now = settled n.now r; sent = n.sent ++ all_spelled o r.letters }) has

-- ---- what the letters are read as

-- node 1's, by node 2
asks_it : (n : Situation) → (state n.history).settings ≡ Some (node_settings 2 1) → IsFrame 1 2 1 (Store name [] chunk) → react n (Datagram store.1) ≡ on_deal (node_settings 2 1) n (record { peer = 1; number = 1 }) (StoreFresh name chunk)
asks_it n has fit =
    react-message n store.1 (node_settings 2 1) (record { from = 1; number = 1; frame = Store name [] chunk }) (Deals (StoreFresh name chunk)) has
    (reads 2 (keys_of (node_settings 2 1)) pair_key 1 1 (Store name [] chunk) fit refl) refl

-- node 2's, by node 1
answers_it : (n : Situation) → (state n.history).settings ≡ Some (node_settings 1 2) → react n (Datagram accepted.1) ≡ on_reply n (record { peer = 2; number = 1 }) (Accepts (claims_from (bytes_from 2 32) 0 1))
answers_it n has =
    react-message n accepted.1 (node_settings 1 2) (record { from = 2; number = 1; frame = Accepted (claims_from (bytes_from 2 32) 0 1) }) (Replies (Accepts (claims_from (bytes_from 2 32) 0 1))) has
    (reads 1 (keys_of (node_settings 1 2)) pair_key 2 1 (Accepted (claims_from (bytes_from 2 32) 0 1)) fit refl) refl
  where
    fit : IsFrame 2 1 1 (Accepted (claims_from (bytes_from 2 32) 0 1))
    fit = record { frame_fits = accepted_fits (bytes_from 2 32) 0 1 (omega arith) (omega arith); from_fits = omega arith; to_fits = omega arith; number_fits = omega arith }

store_fits : IsFrame 1 2 1 (Store name [] chunk)
store_fits = record { frame_fits = refl; from_fits = omega arith; to_fits = omega arith; number_fits = omega arith }

-- ---- ticks

-- a tick at node 1, where no choice is to be made and nothing is asked besides, no probe runs or is due, and no discard
ticks : (n : Situation) (o : Offer) → (state n.history).settings ≡ Some (node_settings 1 2) → run_at n 2 ≡ None → (row (state n.history) 2).due ≡ false → nat_le 4 (later (of_peer n.volatile 2).clock) ≡ false → (of_peer n.volatile 2).ended ≡ 0 → choice_at (node_settings 1 2) n 2 ≡ None → questions (state n.history) 2 ≡ []
    → offer_at (node_settings 1 2) n 2 ≡ Some o → react n (Tick 2) ≡ ruled 2 (then_by (by_offer (node_settings 1 2) n.history 2 (Some o)) (sends []))
ticks n o has idle not_now early ended none no_question offer =
    let st = node_settings 1 2 in
    let last = sends (questions (state n.history) 2) in
    let probed = then_by (by_run st.seed (state n.history) 2 (of_peer n.volatile 2) (run_at n 2)) last in
    let offered = then_by (by_offer st n.history 2 (offer_at st n 2)) probed in
    let chosen = then_by (by_choice (choice_at st n 2)) offered in
    ap (λ (s : Option Settings). ruled 2 (on_tick s n 2)) has
    ∙ ap (λ (r : Option Run). ruled 2 (then_by (by_late 2 (later (of_peer n.volatile 2).clock) r) (then_by (by_due (state n.history) 2) chosen))) idle
    ∙ ap (λ (b : Bool). ruled 2 (then_by (cond b (ends_with (discarded_by (state n.history) 2) []) passes) chosen)) not_now
    ∙ ap (λ (c : Option (List Candidate)). ruled 2 (then_by (by_choice c) offered)) none
    ∙ ap (λ (a : Option Offer). ruled 2 (then_by (by_offer st n.history 2 a) probed)) offer
    ∙ ap (λ (q : Rule). ruled 2 (then_by (by_offer st n.history 2 (Some o)) q)) (not_due n last idle early ended ∙ ap (λ (ls : List Letter). sends ls) no_question)
  where
    not_due : (n : Situation) (last : Rule) → run_at n 2 ≡ None → nat_le 4 (later (of_peer n.volatile 2).clock) ≡ false → (of_peer n.volatile 2).ended ≡ 0 → then_by (by_run (node_settings 1 2).seed (state n.history) 2 (of_peer n.volatile 2) (run_at n 2)) last ≡ last
    not_due n last idle early ended = rw (idle, ended, early) refl

-- what node 1 is when it has begun, and the changes after that
begun_state : (text : List ℕ) → settings_of text ≡ Some (node_settings 1 2) → after nothing_yet (Begun (record { body = Some text })) ≡ record nothing_yet { changes = 1; settings = Some (node_settings 1 2); rows = (2, blank) ∷ [] }
begun_state text says = rw says refl

abbrev later_changes : List Change
later_changes = Kept (record { name = name; len = 3; new = true; body = Some chunk }) ∷ Snapped (record { number = 1; ticket = plain_ticket; files = 1; folders = 0; bytes = 3; left = 0; names = name ∷ [] }) ∷ Chose (record { candidates = record { peer = 2; got = 0; of = 1; hops = 0 } ∷ [] }) ∷ []

-- ---- a deal that was answered

record IsLast (h : List Change) : Type 0 where
  number : (row (state h) 1).last.number ≡ 1
  change : (row (state h) 1).last.change ≡ 1

-- is answered again by the change that is noted
answers_last : (n : Situation) → IsLast n.history → on_deal (node_settings 2 1) n (record { peer = 1; number = 1 }) (StoreFresh name chunk) ≡ answers_with (option_map (reply (node_settings 2 1) 1 1) (slice_get n.history 1))
answers_last n last =
    ap (λ (k : ℕ). by_standing (standing k 1) (node_settings 2 1) n (record { peer = 1; number = 1 }) (judged_at (node_settings 2 1) n.history 1 1 (StoreFresh name chunk))) last.number
    ∙ ap (λ (k : ℕ). answers_with (option_map (reply (node_settings 2 1) 1 1) (slice_get n.history k))) last.change

-- ---- the steps

steps_worked : (text other : List ℕ) → settings_of text ≡ Some (node_settings 1 2) → settings_of other ≡ Some (node_settings 2 1) → name_eq (sha chunk) name ≡ true → StepsWorked text other
steps_worked text other says others is =
    let first = (opened (chosen text) []).now in
    let again = (first_node (asked text) 1 []).now in
    let taken = fresh (took other) in
    let last : IsLast (took other) = record { number = rw others refl; change = rw others refl } in
    let pending : (row (state (chosen text)) 2).pending ≡ None = rw says refl in
    let next : offer_at (node_settings 1 2) first 2 ≡ Some (record { deal = record { number = 1; what = Fresh name }; is_new = true }) =
    ap (λ (o : Option OwnDeal). offer_by (node_settings 1 2) (state first.history) 2 (of_peer first.volatile 2) [] o) pending ∙ ap (λ (s : State). proposed_at (node_settings 1 2) (state_from s later_changes) 2 []) (begun_state text says) in
    let proposes = ticks first (record { deal = record { number = 1; what = Fresh name }; is_new = true }) says refl (rw says refl) refl refl (rw says refl) (rw says refl) next in
    let repeats = ticks again (record { deal = record { number = 1; what = Fresh name }; is_new = false }) says refl (rw says refl) refl refl (rw says refl) (rw says refl) (rw says refl) in
    let tells = asks_it taken others store_fits ∙ answers_last taken last in
    record {
      asks = given (opened (chosen text) []) (Tick 2) (node_settings 1 2) _ says proposes ∙ rw says refl;
      asks_again = given (first_node (asked text) 1 (store ∷ [])) (Tick 2) (node_settings 1 2) _ says repeats;
      forgets = ap (λ r. record { now = fresh (settled again r).history; sent = store ∷ [] }) repeats;
      restarts = refl;
      stops_before = refl;
      stops_after = ap (λ r. record { now = fresh (settled (fresh (quiet_yet other)) r).history; sent = [] }) (asks_it (fresh (quiet_yet other)) others store_fits) ∙ rw (others, is) refl;
      answers = given (opened (took other) []) (Datagram store.1) (node_settings 2 1) _ others tells;
      answers_again = given (opened (took other) (accepted ∷ [])) (Datagram store.1) (node_settings 2 1) _ others tells;
      settles = given (first_node (asked text) 2 (store ∷ store ∷ [])) (Datagram accepted.1) (node_settings 1 2) _ (rw says refl) (answers_it (first_node (asked text) 2 []).now (rw says refl)) ∙ rw says refl;
      settles_once = given (first_node (placed text) 2 (store ∷ store ∷ [])) (Datagram accepted.1) (node_settings 1 2) _ (rw says refl) (answers_it (first_node (placed text) 2 []).now (rw says refl)) ∙ rw says refl;
    }

told_worked : (text other : List ℕ) → settings_of text ≡ Some (node_settings 1 2) → settings_of other ≡ Some (node_settings 2 1) → ToldWorked text other
told_worked text other says others =
    let pending : (row (state (asked text)) 2).pending ≡ Some (record { number = 1; what = Fresh name }) = rw says refl in
    record {
      asked_for = refl;
      not_there_yet = refl;
      came_there = last_end (asked text) 2 name (Settled (record { peer = 2; deal = 1; slots = 0 ∷ []; body = Some (claims_joined (claims_from (bytes_from 2 32) 0 1)) })) ∙ ap (λ (o : Option OwnDeal). first_of_two (placing_by o name) (last_placed (asked text) 2 name)) pending;
      not_answered_yet = refl;
      answer_is = refl;
      there = rw says refl;
      here = rw others refl;
      claimed = rw says refl;
      same_bytes = refl;
    }

end_worked : (text other : List ℕ) → StepsWorked text other → EndWorked text other
end_worked text other s = record {
  first = ap (λ n. moved (moved (moved n (Give (Tick 2))) (comes accepted)) (comes accepted)) s.asks
      ∙ ap (λ n. moved (moved n (comes accepted)) (comes accepted)) s.asks_again
      ∙ ap (λ n. moved n (comes accepted)) s.settles
      ∙ s.settles_once;
  second = ap (λ n. moved (moved (moved n (Stop (Datagram store.1) true)) (comes store)) (comes store)) s.stops_before
      ∙ ap (λ n. moved (moved n (comes store)) (comes store)) s.stops_after
      ∙ ap (λ n. moved n (comes store)) s.answers
      ∙ s.answers_again;
}

pub worked : WorkedWorld
worked text other says others is =
    let s = steps_worked text other says others is in
    record { steps = s; end = end_worked text other s; told = told_worked text other says others }
