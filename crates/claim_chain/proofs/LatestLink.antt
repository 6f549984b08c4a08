-- The latest link beside the trees.
use Rattle.std.proofs.Common.{◌≡◌, Bool, true, false, cond, Option, Some, None, refl, sym, ap, ◌∙◌}
use Rattle.std.specs.Option.{is_none}
use Rattle.psb_bytes.specs.declared.ids.Seat.{Seat}
use Rattle.claim_chain.specs.declared.latest.Link.{Link}
use Rattle.claim_chain.specs.declared.seat_map.SeatMap.{SeatMap}
use Rattle.claim_chain.specs.Seats.{seat_eq}
use Rattle.claim_chain.specs.SeatMap.{seat_at}
use Rattle.claim_chain.specs.Latest.{or_else, latest_next, latest_carried, latest_left}
use Rattle.claim_chain.specs.OneToOne.{AreOneToOne, next_by, carried_by}
use Rattle.claim_chain.proofs.Seats.{by_cases, seat_eq-refl, same_seat}
use Rattle.claim_chain.proofs.OneToOne.{same, linked, cut}

-- an answer of the latest link, before that of the tree
pub put_before : (b : Bool) (x : Seat) (y : Option Seat) → or_else (cond b (Some x) None) y ≡ cond b (Some x) y
put_before true x y = refl
put_before false x y = refl

-- the same answer in the tree too
pub put_twice : (b : Bool) (x : Seat) (y : Option Seat) → or_else (cond b (Some x) None) (cond b (Some x) y) ≡ or_else (cond b (Some x) None) y
put_twice true x y = refl
put_twice false x y = refl

-- what is left where a held seat loses its link
pub next_left : (latest : Option Link) (held q : Seat) (y : Option Seat) → or_else (latest_next (latest_left latest held) q) (cond (seat_eq held q) None y) ≡ cond (seat_eq held q) None (or_else (latest_next latest q) y)
next_left None held q y = refl
next_left (Some x) held q y = by_cases (seat_eq x.held held)
    (λ k.
    let one : x.held ≡ held = same_seat x.held held k in
    by_cases (seat_eq held q)
    (λ l. rw (k, l) refl)
    (λ l. let other : seat_eq x.held q ≡ false = ap (λ (s : Seat). seat_eq s q) one ∙ l in rw (k, l, other) refl))
    (λ k. by_cases (seat_eq held q)
    (λ l.
    let other : seat_eq x.held q ≡ false = ap (seat_eq x.held) (sym (same_seat held q l)) ∙ k in
    rw (k, l, other) refl)
    (λ l. rw (k, l) refl))

-- and what is left of the other way
pub carried_left : (latest : Option Link) (nexts carried : SeatMap) (held out q : Seat) → AreOneToOne (next_by latest nexts) (carried_by latest carried) → next_by latest nexts held ≡ Some out
    → or_else (latest_carried (latest_left latest held) q) (cond (seat_eq out q) None (seat_at carried q)) ≡ cond (seat_eq out q) None (carried_by latest carried q)
carried_left None nexts carried held out q all had = refl
carried_left (Some x) nexts carried held out q all had = by_cases (seat_eq x.held held)
    (λ k.
    let is : Some x.out ≡ Some out = rw k at had in
    let one : x.out ≡ out = cc in
    by_cases (seat_eq out q)
    (λ l. rw (k, l) refl)
    (λ l. let other : seat_eq x.out q ≡ false = ap (λ (s : Seat). seat_eq s q) one ∙ l in rw (k, l, other) refl))
    (λ k. by_cases (seat_eq out q)
    (λ l. by_cases (seat_eq x.out q)
    (λ m.
    let at_q : out ≡ q = same_seat out q l in
    let here : carried_by (Some x) carried q ≡ Some x.held = rw m refl in
    let there : carried_by (Some x) carried q ≡ Some held = ap (carried_by (Some x) carried) (sym at_q) ∙ (all held out).0 had in
    let one : x.held ≡ held = cc in
    let yes : seat_eq x.held held ≡ true = ap (seat_eq x.held) (sym one) ∙ seat_eq-refl x.held in
    absurd (cc))
    (λ m. rw (k, l, m) refl))
    (λ l. rw (k, l) refl))

-- Links stay one to one where the latest is made, goes into the first tree or into both, and where one is cut.

pub made : (latest : Option Link) (nexts carried : SeatMap) (held out : Seat) → is_none latest ≡ true → next_by latest nexts held ≡ None → carried_by latest carried out ≡ None
    → AreOneToOne (next_by latest nexts) (carried_by latest carried) → AreOneToOne (next_by (Some (record { held = held; out = out })) nexts) (carried_by (Some (record { held = held; out = out })) carried)
made None nexts carried held out room free free' all =
    linked (seat_at nexts) (seat_at carried) _ _ held out free free'
    (λ h. put_before (seat_eq held h) out (seat_at nexts h)) (λ o. put_before (seat_eq out o) held (seat_at carried o)) all
made (Some x) nexts carried held out room free free' all = absurd (cc)

pub half_kept : (latest : Option Link) (nexts carried nexts' carried' : SeatMap) (link : Link) → latest ≡ Some link
    → ((s : Seat) → seat_at nexts' s ≡ cond (seat_eq link.held s) (Some link.out) (seat_at nexts s)) → ((s : Seat) → seat_at carried' s ≡ seat_at carried s)
    → AreOneToOne (next_by latest nexts) (carried_by latest carried) → AreOneToOne (next_by latest nexts') (carried_by latest carried')
half_kept latest nexts carried nexts' carried' link is put same_there all =
    same _ _ _ _
    (λ h. ap (or_else (latest_next latest h)) (put h)
    ∙ (let l : latest_next latest h ≡ cond (seat_eq link.held h) (Some link.out) None = ap (λ (x : Option Link). latest_next x h) is in rw l (put_twice (seat_eq link.held h) link.out (seat_at nexts h))))
    (λ o. ap (or_else (latest_carried latest o)) (same_there o)) all

pub kept : (latest : Option Link) (nexts carried nexts' carried' : SeatMap) (link : Link) → latest ≡ Some link
    → ((s : Seat) → seat_at nexts' s ≡ cond (seat_eq link.held s) (Some link.out) (seat_at nexts s)) → ((s : Seat) → seat_at carried' s ≡ cond (seat_eq link.out s) (Some link.held) (seat_at carried s))
    → AreOneToOne (next_by latest nexts) (carried_by latest carried) → AreOneToOne (next_by None nexts') (carried_by None carried')
kept latest nexts carried nexts' carried' link is put put' all =
    same _ _ _ _
    (λ h. put h ∙ sym (put_before (seat_eq link.held h) link.out (seat_at nexts h)) ∙ ap (λ (x : Option Link). next_by x nexts h) (sym is))
    (λ o. put' o ∙ sym (put_before (seat_eq link.out o) link.held (seat_at carried o)) ∙ ap (λ (x : Option Link). carried_by x carried o) (sym is)) all

pub loosened : (latest latest' : Option Link) (nexts carried nexts' carried' : SeatMap) (held out : Seat) → latest' ≡ latest_left latest held → next_by latest nexts held ≡ Some out
    → ((s : Seat) → seat_at nexts' s ≡ cond (seat_eq held s) None (seat_at nexts s)) → ((s : Seat) → seat_at carried' s ≡ cond (seat_eq out s) None (seat_at carried s))
    → AreOneToOne (next_by latest nexts) (carried_by latest carried) → AreOneToOne (next_by latest' nexts') (carried_by latest' carried')
loosened latest latest' nexts carried nexts' carried' held out is had gone gone' all =
    cut _ _ _ _ held out had
    (λ h. ap (or_else (latest_next latest' h)) (gone h) ∙ ap (λ (x : Option Link). or_else (latest_next x h) (cond (seat_eq held h) None (seat_at nexts h))) is ∙ next_left latest held h (seat_at nexts h))
    (λ o. ap (or_else (latest_carried latest' o)) (gone' o) ∙ ap (λ (x : Option Link). or_else (latest_carried x o) (cond (seat_eq out o) None (seat_at carried o))) is ∙ carried_left latest nexts carried held out o all had)
    all
