-- `note` puts one event more into the record. Its body is empty: the event is put in while the borrow of the record is open, and to close it takes only what a record owns, which does not depend on the events.
use Rattle.std.proofs.Common.{[], ◌∷◌, refl}
use Rattle.std.proofs.raw_atomic.Walks.{proved}
use seplogic.Ra.Ura.{Ura}
use mir.Syntax.{named}
use mir.Val.{vunit}
use base.Logic.{SProp, ent}
use base.Fml.{ftrue, flft, fobs, fbor}
use contract.Lifetimes.{Lfts, Shares, toks}
use types.Logic.{Logic}
use types.Kit.{Item, ‵, raw, ◌⊛◌, ⋆, ◌$◌, ◌∵◌, !, qed, by, done, move, keep, use1, split, split3, join, fsplit3, group, updating, suffices, frame, feq_i}
use types.SemTy.{Body}
use types.Run.{enter, of_opd, unit_lit, returns}
use types.ByLocal.{alloc_all, pass_all, free_all, look_at, sets}
use denote.Builtin.{RefOf}
use denote.Exit.{yes}
use denote.Memory.{mem}
use denote.RattleType.{owns}
use denote.Ref.{MutRef, mut_vals, mut_Tells, shr_vals, shr_Tells}
use denote.Signature.{Slot, plain, types_at, named_lft}
use denote.Steps.{nothing, opens, closes}
use denote.Triple.Entry.{Args, Vals, on_entry}
use denote.Triple.Walked.{Stays, stay_ref, stay_dropped, Goes-ref, Goes-dropped, walk_of, on_exit, says, ends_at}
use Rattle.psb_host.specs.Noted.{Event, event_of}
use Rattle.psb_host.specs.contracts.call.Call as Call
use Rattle.psb_host.specs.contracts.record.Record.{the_row as R}
use Rattle.psb_host.specs.contracts.record.Record.note as f
use Rattle.psb_host.proofs.record.Record.note.Statement.{statement}
use Rattle.psb_host.proofs.record.Record.note.Code as code

-- the reference to the call that is noted
abbrev Given : Slot 3
Given = RefOf (1 ∷ []) tt (plain (λ κs. Call.the_row (named_lft 3 2 tt κs))) (λ _. tt)

-- at the return the record is still lent, and nothing is wanted of the call
abbrev stayed : Stays f.ended.signature.params f.ended.kept
stayed = (stay_ref (0 ∷ []) tt (plain (λ _. R)), (stay_dropped Given yes, tt))

abbrev one_more : Event → R.Denot → R.Denot
one_more e r = record r { events = e ∷ r.events }

module _ {M : Type 1} {𝓤 : Ura M} (𝓛 : Logic 𝓤) (κs : Lfts 3) (qs : Shares 3) (a : Args f.signature κs) where
  open 𝓛 use {H}

  -- how the machine stores the arguments
  abbrev words : Vals f.signature κs
  words = (mut_vals a.0, (shr_vals a.1.0, tt))

  -- the borrow of the record and the token of its lifetime, where the record is r
  abbrev lent : R.Denot → Item 𝓤
  lent r = ‵ (fobs a.0.ghost_name (R.coded.code r)) ⊛ ‵ (fbor κs.0 (Body (mem R) a.0.ref_ptr.0 a.0.ref_ptr.1 a.0.ghost_name)) ⊛ ‵ (flft κs.0 qs.0)

  -- the tokens of the call's lifetimes
  abbrev others : Item 𝓤
  others = raw (toks 𝓛 2 κs.1 qs.1)

  received : ent 𝓤 (on_entry 𝓛 f.signature κs qs a words) (⋆ 𝓛 (lent a.0.now ∷ others ∷ []))
  received =
      qed 𝓛 (((‵ (flft κs.0 qs.0) ⊛ others) ⊛ ‵ ((MutRef (named 0) κs.0 R).own_val a.0 (mut_vals a.0)) ⊛ ‵ (owns (types_at (Given ∷ []) κs) a.1 words.1)) ∷ []) ∵
      split ! $ split ! $ move ! (2 ∷ []) $ split ! $ fsplit3 ! $
      -- [where the record lies; what is seen of it; its borrow; the call; its token; the other tokens]
      keep ! (1 ∷ 2 ∷ 4 ∷ 5 ∷ []) $ group ! 3 $ done !

  -- the one step that no code makes: the borrow is opened on the record passed and closed on the one with the event
  noted : (e : Event) (P : SProp 𝓤) → ent 𝓤 (⋆ 𝓛 (lent (one_more e a.0.now) ∷ others ∷ [])) (H.⇛ P) → ent 𝓤 (⋆ 𝓛 (lent a.0.now ∷ others ∷ [])) (H.⇛ P)
  noted e P then =
      qed 𝓛 (lent a.0.now ∷ others ∷ []) ∵ updating ! $ split3 ! $ opens ! tt R a.0.ref_ptr.0 a.0.ref_ptr.1 (λ stored.
      closes ! tt R (one_more e a.0.now) stored a.0.ref_ptr.0 a.0.ref_ptr.1 $ group ! 3 $ by ! then)

  handed_back : (r : R.Denot) → ent 𝓤 (⋆ 𝓛 (lent r ∷ others ∷ [])) (on_exit 𝓛 f.ended stayed κs qs words vunit tt a (r, (tt, tt)))
  handed_back r =
      qed 𝓛 (lent r ∷ others ∷ []) ∵ split3 ! $ feq_i ! _ (mut_vals a.0) _ refl $ group ! 3 $
      -- [the reference; its token; the other tokens]
      nothing ! $ nothing ! $ join ! $ move ! (1 ∷ 0 ∷ []) $ join ! $
      move ! (1 ∷ 2 ∷ []) $ join ! $ frame ! $ frame ! $ feq_i ! _ (vunit ∷ []) _ refl $ done !

pub note_spec : {M : Type 1} → statement M
note_spec 𝓤 𝓛 𝓜 𝓡 wired =
    let c = f.clauses 𝓛 𝓜.mem 𝓡.returns in
    proved 𝓛 f.ended stayed c 𝓜 𝓡
    (Goes-ref 𝓛 3 0 tt (plain (λ _. R)), (Goes-dropped 𝓛 3 Given yes (λ κs x w. refl), tt))
    f.Key.name code.function (code.unfolded 𝓤 𝓛.H 𝓜 𝓡 wired)
    (λ κs. (mut_vals, (shr_vals, tt)))
    (λ κs. (mut_Tells (named 0) κs.0 R, (shr_Tells (named 1) κs.1.0 (Call.the_row (named_lft 3 2 tt κs)), tt))) (λ κs qs bounds a g are.
    let e : Event = event_of a.1.0.now in
    let r : R.Denot = one_more e a.0.now in
    let y : (walk_of 𝓛 f.ended stayed c).Ghost = ((κs, qs, bounds, a, words 𝓛 κs qs a), g) in
    qed 𝓛 (raw (on_entry 𝓛 f.signature κs qs a (words 𝓛 κs qs a)) ∷ ‵ ftrue ∷ []) ∵ keep ! (0 ∷ []) $
    use1 𝓛 (lent 𝓛 κs qs a a.0.now ⊛ others 𝓛 κs qs a) (received 𝓛 κs qs a) $ split ! $
    enter ! _ _ _ _ _ $ alloc_all ! (λ l. pass_all ! refl ((tt, tt), ((tt, tt), tt)) $
    sets ! (of_opd ! (unit_lit !)) refl (tt, tt) $
    returns ! (look_at ! 0 refl) $ free_all ! refl $ by ! (noted 𝓛 κs qs a e _ (
    qed 𝓛 (lent 𝓛 κs qs a r ∷ others 𝓛 κs qs a ∷ []) ∵
    suffices ! _ (ends_at 𝓛 f.ended stayed c y vunit tt (r, (tt, tt)) (tt, (tt, tt))) $ says ! refl $ by ! (handed_back 𝓛 κs qs a r)))))
