-- Which entries a discard takes, entry by entry: what is listed is compared with what is still to be taken.
use Rattle.std.proofs.Common.{◌≡◌, ℕ, zero, suc, ◌+◌, ◌-◌, ◌≤◌, ◌<◌, ◌^◌, Bool, true, false, ◌&&◌, cond, List, [], ◌∷◌, ◌++◌, length, map, drop, Option, Some, None, refl, sym, ap, ◌∙◌, arith}
use Rattle.std.specs.Prelude.{◌==◌, ◌%◌}
use Rattle.std.proofs.lemmas.Bool.Decides.{nat_tests}
use Rattle.psb_bytes.specs.declared.ids.Object.{Object}
use Rattle.psb_digest.specs.Words.{Reader, word}
use Rattle.psb_model.specs.declared.entries.InEntry.{InEntry}
use Rattle.psb_model.specs.State.{in_key}
use Rattle.psb_model.specs.Discards.{is_picked, picks}
use Rattle.psb_model.specs.Conditions.{same_objects}
use Rattle.discard_policy.specs.Drawing.{drawn}
use Rattle.discard_policy.proofs.Draws.{draw_step}
use Rattle.peer_lists.specs.Entries.{in_order}
use Rattle.peer_lists.specs.Walks.{entry_after}
use Rattle.peer_lists.proofs.Next.{behind, behind_none, behind_next, behind_end}
use Rattle.peer_account.specs.View.{AccountView}
use Rattle.accounts.specs.Table.{tied_by, untied}

-- THE OBJECTS OF A LIST, ONE AFTER ANOTHER

-- nothing more is listed
no_more : (os : List Object) (n : ℕ) → n ≤ length os → same_objects (drop n os) [] ≡ (n == length os)
no_more [] zero le = refl
no_more [] (suc n) le = absurd (omega (arith, le))
no_more (x ∷ xs) zero le = grind (arith, nat_tests)
no_more (x ∷ xs) (suc n) le = no_more xs n (omega (arith, le)) ∙ more n (length xs)
  where
    more : (a b : ℕ) → (a == b) ≡ (suc a == suc b)
    more a b = grind (arith, nat_tests)

-- THE ENTRIES THAT ARE TAKEN

-- a tied entry is passed over
pub tied_passes : (vs : List AccountView) (p : ℕ) (e : InEntry) → true ≡ tied_by vs p e.object → (es : List InEntry) → untied vs p (e ∷ es) ≡ untied vs p es
tied_passes vs p e is es = rw (sym is) refl

-- any other is offered
pub untied_offered : (vs : List AccountView) (p : ℕ) (r t : Reader) (every every_then left room left_then room_then : ℕ) (e : InEntry) (b : Bool)
    → false ≡ tied_by vs p e.object → b ≡ is_picked every (word r.key r.stream r.place) left room e → t ≡ record r { place = (r.place + 1) % 2 ^ 68 } → every_then ≡ every → left_then ≡ cond b (left - e.units) left → room_then ≡ cond b (room - 1) room
    → (es : List InEntry) → picks (drawn r) every 0 left room (untied vs p (e ∷ es)) ≡ cond b (e ∷ []) [] ++ picks (drawn t) every_then 0 left_then room_then (untied vs p es)
untied_offered vs p r t every every_then left room left_then room_then e b is picked moved same left_is room_is es =
    let offered : picks (drawn r) every 0 left room (untied vs p (e ∷ es)) ≡ cond b (e ∷ []) [] ++ picks (drawn t) every 0 left_then room_then (untied vs p es) =
    rw (sym is) (draw_step r t every left room left_then room_then e (untied vs p es) b picked moved left_is room_is) in
    offered ∙ ap (λ (g : ℕ). cond b (e ∷ []) [] ++ picks (drawn t) g 0 left_then room_then (untied vs p es)) (sym same)

-- what is to be taken of those behind a place, at first of all
abbrev pub to_take : List AccountView → ℕ → Reader → ℕ → ℕ → ℕ → Option Object → List InEntry → List Object
to_take vs p t every left room place l = map in_key (picks (drawn t) every 0 left room (untied vs p (behind in_key place l)))

pub take_first : (vs : List AccountView) (p : ℕ) (t : Reader) (every left room : ℕ) (l : List InEntry) → map in_key (picks (drawn t) every 0 left room (untied vs p l)) ≡ to_take vs p t every left room None l
take_first vs p t every left room l = ap (λ (xs : List InEntry). map in_key (picks (drawn t) every 0 left room (untied vs p xs))) (sym (behind_none in_key l))

pub take_step : (vs : List AccountView) (p : ℕ) (l : List InEntry) (place : Option Object) (e : InEntry) (b : Bool) (t t' : Reader) (every every' left left' room room' : ℕ)
    → in_order in_key l ≡ true → Some e ≡ entry_after in_key place l
    → ((es : List InEntry) → picks (drawn t) every 0 left room (untied vs p (e ∷ es)) ≡ cond b (e ∷ []) [] ++ picks (drawn t') every' 0 left' room' (untied vs p es))
    → to_take vs p t every left room place l ≡ cond b (e.object ∷ []) [] ++ to_take vs p t' every' left' room' (Some e.object) l
take_step vs p l place e b t t' every every' left left' room room' ordered next taken =
    let es = behind in_key (Some e.object) l in
    ap (λ (xs : List InEntry). map in_key (picks (drawn t) every 0 left room (untied vs p xs))) (behind_next in_key place l e ordered next)
    ∙ ap (map in_key) (taken es)
    ∙ by_choice b (picks (drawn t') every' 0 left' room' (untied vs p es))
  where
    by_choice : (c : Bool) (ps : List InEntry) → map in_key (cond c (e ∷ []) [] ++ ps) ≡ cond c (e.object ∷ []) [] ++ map in_key ps
    by_choice true ps = refl
    by_choice false ps = refl

-- so the comparison goes on, where the entry is passed over, and where it is taken and listed; and else it fails
pub goes_on : (seen now next : List Object) (o : Object) (x b : Bool) → x ≡ same_objects seen now → now ≡ cond b (o ∷ []) [] ++ next → b ≡ false → x ≡ same_objects seen next
goes_on seen now next o x b was step passed = was ∙ ap (same_objects seen) (step ∙ ap (λ t. cond t (o ∷ []) [] ++ next) passed)

told_then : (os : List Object) (n : ℕ) (now next : List Object) (o : Object) (x b at : Bool) → x ≡ same_objects (drop n os) now → now ≡ cond b (o ∷ []) [] ++ next → b ≡ true → ((rest : List Object) → same_objects (drop n os) (o ∷ rest) ≡ (at && same_objects (drop (n + 1) os) rest)) → x ≡ (at && same_objects (drop (n + 1) os) next)
told_then os n now next o x b at was step taken told = was ∙ ap (same_objects (drop n os)) (step ∙ ap (λ t. cond t (o ∷ []) [] ++ next) taken) ∙ told next

pub goes_on_listed : (os : List Object) (n : ℕ) (now next : List Object) (o : Object) (x b at : Bool) → x ≡ same_objects (drop n os) now → now ≡ cond b (o ∷ []) [] ++ next → b ≡ true → ((rest : List Object) → same_objects (drop n os) (o ∷ rest) ≡ (at && same_objects (drop (n + 1) os) rest)) → at ≡ true → x ≡ same_objects (drop (n + 1) os) next
goes_on_listed os n now next o x b at was step taken told is = told_then os n now next o x b at was step taken told ∙ ap (λ t. t && same_objects (drop (n + 1) os) next) is

pub not_listed : (os : List Object) (n : ℕ) (now next : List Object) (o : Object) (x b at : Bool) → x ≡ same_objects (drop n os) now → now ≡ cond b (o ∷ []) [] ++ next → b ≡ true → ((rest : List Object) → same_objects (drop n os) (o ∷ rest) ≡ (at && same_objects (drop (n + 1) os) rest)) → at ≡ false → x ≡ false
not_listed os n now next o x b at was step taken told is = told_then os n now next o x b at was step taken told ∙ ap (λ t. t && same_objects (drop (n + 1) os) next) is

-- fewer are left behind it
pub take_fewer : (l : List InEntry) (place : Option Object) (e : InEntry) → in_order in_key l ≡ true → Some e ≡ entry_after in_key place l → length (behind in_key (Some e.object) l) < length (behind in_key place l)
take_fewer l place e ordered next = omega (arith, ap length (behind_next in_key place l e ordered next))

-- at the end
pub take_end : (vs : List AccountView) (p : ℕ) (l : List InEntry) (place : Option Object) (t : Reader) (every left room n : ℕ) (os : List Object) → n ≤ length os → None ≡ entry_after in_key place l → same_objects (drop n os) (to_take vs p t every left room place l) ≡ (n == length os)
take_end vs p l place t every left room n os le none =
    ap (λ (xs : List InEntry). same_objects (drop n os) (map in_key (picks (drawn t) every 0 left room (untied vs p xs)))) (behind_end in_key place l none)
    ∙ no_more os n le
