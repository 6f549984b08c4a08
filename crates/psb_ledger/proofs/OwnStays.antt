-- Own chunks through a change of the rows: what the rows name stays, and what a deal with its reply named may leave.
use Rattle.std.proofs.Common.{◌≡◌, ℕ, Bool, true, false, not, ◌&&◌, ◌||◌, List, [], ◌∷◌, Option, Some, None, refl, sym, ap, ◌∙◌}
use Rattle.std.specs.Prelude.{◌==◌}
use Rattle.std.specs.List.{list_all}
use Rattle.std.proofs.lemmas.Bool.{and_parts, false≢true}
use Rattle.psb_bytes.specs.declared.ids.Object.{Object}
use Rattle.psb_bytes.specs.declared.ids.Object.TheVariants.{Chunk}
use Rattle.psb_model.specs.declared.entries.OwnEntry.{OwnEntry}
use Rattle.psb_model.specs.declared.entries.OutEntry.{OutEntry}
use Rattle.psb_model.specs.Words.{name_eq, name_listed, object_eq, has, with_one, with_all}
use Rattle.psb_model.specs.State.{Row, at_row, out_key, debt_key, own_has, own_marked}
use Rattle.psb_model.specs.Effects.{deal_name, pending_name, given_up, is_named}
use Rattle.psb_model.proofs.Own.{name_same}
use Rattle.psb_model.proofs.Held.{any_more}
use Rattle.psb_model.proofs.Steady.{or_true}
use Rattle.psb_model.proofs.Steady.{is_kept}
use Rattle.psb_model.proofs.ByObject.{by_cases}
use Rattle.own_chunks.specs.OwnList.{own_key, without_name, released}
use Rattle.peer_lists.specs.Entries.{in_order}
use Rattle.peer_account.specs.OwnDeals.{row_names}
use Rattle.peer_lists.proofs.Found.{none_behind, rest_ordered}

-- what the rows name, others name too; but for one name, if there is one
abbrev pub NamesMost : List (ℕ × Row) → List (ℕ × Row) → Type 0
NamesMost rows rows' = (n : List ℕ) → is_named rows n ≡ true → is_named rows' n ≡ true

abbrev pub is_but : Option (List ℕ) → List ℕ → Bool
is_but None n = false
is_but (Some m) n = name_eq n m

abbrev pub NamesBut : Option (List ℕ) → List (ℕ × Row) → List (ℕ × Row) → Type 0
NamesBut o rows rows' = (n : List ℕ) → is_but o n ≡ false → is_named rows n ≡ true → is_named rows' n ≡ true

-- a row that changes
pub names_at_row : (o : Option (List ℕ)) (p : ℕ) (f : Row → Row) (rows : List (ℕ × Row)) → ((r : Row) (n : List ℕ) → is_but o n ≡ false → row_names r n ≡ true → row_names (f r) n ≡ true) → NamesBut o rows (at_row p f rows)
names_at_row o p f [] g n k h = h
names_at_row o p f (x ∷ xs) g n k h = by_cases (x.0 == p)
    (λ j. rw j (by_cases (row_names x.1 n) (λ i. rw (g x.1 n k i) refl) (λ i. let h' : is_named xs n ≡ true = rw i at h in ap (λ b. row_names (f x.1) n || b) h' ∙ or_true (row_names (f x.1) n))))
    (λ j. rw j (by_cases (row_names x.1 n) (λ i. rw i refl) (λ i. let h' : is_named xs n ≡ true = rw i at h in ap (λ b. row_names x.1 n || b) (names_at_row o p f xs g n k h') ∙ or_true (row_names x.1 n))))

-- the same, where more is known of the row that changes
abbrev pub FirstIs : List (ℕ × Row) → ℕ → Row → Type 0
FirstIs [] p r = Unit {0}
FirstIs (x ∷ xs) p r = ((x.0 == p) ≡ true → x.1 ≡ r) × ((x.0 == p) ≡ false → FirstIs xs p r)

pub names_one : (o : Option (List ℕ)) (p : ℕ) (f : Row → Row) (rows : List (ℕ × Row)) (r : Row) → FirstIs rows p r → ((n : List ℕ) → is_but o n ≡ false → row_names r n ≡ true → row_names (f r) n ≡ true) → NamesBut o rows (at_row p f rows)
names_one o p f [] r first g n k h = h
names_one o p f (x ∷ xs) r first g n k h = by_cases (x.0 == p)
    (λ j. let same = first.0 j in
    rw j (by_cases (row_names x.1 n)
    (λ i. let now : row_names (f x.1) n ≡ true = ap (λ y. row_names (f y) n) same ∙ g n k (ap (λ y. row_names y n) (sym same) ∙ i) in rw now refl)
    (λ i. let h' : is_named xs n ≡ true = rw i at h in ap (λ b. row_names (f x.1) n || b) h' ∙ or_true (row_names (f x.1) n))))
    (λ j. rw j (by_cases (row_names x.1 n) (λ i. rw i refl) (λ i. let h' : is_named xs n ≡ true = rw i at h in ap (λ b. row_names x.1 n || b) (names_one o p f xs r (first.1 j) g n k h') ∙ or_true (row_names x.1 n))))

-- WHAT STAYS

kept_still : (o : Option (List ℕ)) (rows rows' : List (ℕ × Row)) (e : OwnEntry) → NamesBut o rows rows' → is_but o e.name ≡ false → is_kept rows e ≡ true → is_kept rows' e ≡ true
kept_still o rows rows' e most other h = by_cases (not e.marked)
    (λ k. rw k refl)
    (λ k. let named : is_named rows e.name ≡ true = rw k at h in rw k (most e.name other named))

-- nothing is given up where all is kept
pub all_stay : (rows : List (ℕ × Row)) (own : List OwnEntry) → list_all (is_kept rows) own ≡ true → given_up rows own ≡ own
all_stay rows [] h = refl
all_stay rows (e ∷ es) h =
    let two = and_parts (is_kept rows e) (list_all (is_kept rows) es) h in
    rw two.0 (ap (λ l. e ∷ l) (all_stay rows es two.1))

pub kept_most : (rows rows' : List (ℕ × Row)) (own : List OwnEntry) → NamesBut None rows rows' → list_all (is_kept rows) own ≡ true → list_all (is_kept rows') own ≡ true
kept_most rows rows' [] most h = refl
kept_most rows rows' (e ∷ es) most h =
    let two = and_parts (is_kept rows e) (list_all (is_kept rows) es) h in
    rw (kept_still None rows rows' e most refl two.0) (kept_most rows rows' es most two.1)

pub own_stays : (rows rows' : List (ℕ × Row)) (own : List OwnEntry) → NamesBut None rows rows' → list_all (is_kept rows) own ≡ true → given_up rows' own ≡ own
own_stays rows rows' own most h = all_stay rows' own (kept_most rows rows' own most h)

-- WHAT MAY LEAVE

-- what has other names is kept
others_kept : (n : List ℕ) (rows rows' : List (ℕ × Row)) (own : List OwnEntry) → NamesBut (Some n) rows rows' → own_has own n ≡ false → list_all (is_kept rows) own ≡ true → (given_up rows' own ≡ own) × (without_name n own ≡ own)
others_kept n rows rows' [] most none h = (refl, refl)
others_kept n rows rows' (e ∷ es) most none h =
    let two = and_parts (is_kept rows e) (list_all (is_kept rows) es) h in
    by_cases (name_eq e.name n)
    (λ k. absurd (false≢true (sym none ∙ rw k refl)))
    (λ k. let none' : own_has es n ≡ false = rw k at none in
    let rest = others_kept n rows rows' es most none' two.1 in
    (rw (kept_still (Some n) rows rows' e most k two.0) (ap (λ l. e ∷ l) rest.0), rw k (ap (λ l. e ∷ l) rest.1)))

-- the chunk of the name leaves where it is marked and not named
leaves : (n : List ℕ) (rows rows' : List (ℕ × Row)) (own : List OwnEntry) → in_order own_key own ≡ true → NamesBut (Some n) rows rows' → list_all (is_kept rows) own ≡ true → own_marked own n ≡ true → is_named rows' n ≡ false → given_up rows' own ≡ without_name n own
leaves n rows rows' [] ordered most h marked unnamed = refl
leaves n rows rows' (e ∷ es) ordered most h marked unnamed =
    let two = and_parts (is_kept rows e) (list_all (is_kept rows) es) h in
    by_cases (name_eq e.name n)
    (λ k.
    let none : own_has es n ≡ false = none_behind own_key e es (Chunk n) ordered k in
    let m : e.marked ≡ true = rw k at marked in
    let u : is_named rows' e.name ≡ false = ap (is_named rows') (name_same e.name n k) ∙ unnamed in
    let rest = others_kept n rows rows' es most none two.1 in
    rw (m, u, k) (rest.0 ∙ sym rest.1))
    (λ k.
    let marked' : own_marked es n ≡ true = rw k at marked in
    rw (kept_still (Some n) rows rows' e most k two.0, k) (ap (λ l. e ∷ l) (leaves n rows rows' es (rest_ordered own_key e es ordered) most two.1 marked' unnamed)))

-- and else it stays
remains : (n : List ℕ) (rows rows' : List (ℕ × Row)) (own : List OwnEntry) → in_order own_key own ≡ true → NamesBut (Some n) rows rows' → list_all (is_kept rows) own ≡ true → (own_marked own n && not (is_named rows' n)) ≡ false → given_up rows' own ≡ own
remains n rows rows' [] ordered most h stays = refl
remains n rows rows' (e ∷ es) ordered most h stays =
    let two = and_parts (is_kept rows e) (list_all (is_kept rows) es) h in
    by_cases (name_eq e.name n)
    (λ k.
    let none : own_has es n ≡ false = none_behind own_key e es (Chunk n) ordered k in
    let stays' : (e.marked && not (is_named rows' n)) ≡ false = rw k at stays in
    let same : is_named rows' e.name ≡ is_named rows' n = ap (is_named rows') (name_same e.name n k) in
    let here : is_kept rows' e ≡ true = ap (λ b. not e.marked || b) same ∙ one_of e.marked (is_named rows' n) stays' in
    rw here (ap (λ l. e ∷ l) (others_kept n rows rows' es most none two.1).0))
    (λ k.
    let stays' : (own_marked es n && not (is_named rows' n)) ≡ false = rw k at stays in
    rw (kept_still (Some n) rows rows' e most k two.0) (ap (λ l. e ∷ l) (remains n rows rows' es (rest_ordered own_key e es ordered) most two.1 stays')))
  where
    one_of : (a b : Bool) → (a && not b) ≡ false → (not a || b) ≡ true
    one_of true true h = refl
    one_of true false h = sym h
    one_of false b h = refl

pub released_is : (o : Option (List ℕ)) (rows rows' : List (ℕ × Row)) (own : List OwnEntry) → in_order own_key own ≡ true → NamesBut o rows rows' → list_all (is_kept rows) own ≡ true → released rows' o own ≡ given_up rows' own
released_is None rows rows' own ordered most h = sym (own_stays rows rows' own most h)
released_is (Some n) rows rows' own ordered most h = by_cases (own_marked own n && not (is_named rows' n))
    (λ k. let two = and_parts (own_marked own n) (not (is_named rows' n)) k in
    rw k (sym (leaves n rows rows' own ordered most h two.0 (not_true (is_named rows' n) two.1))))
    (λ k. rw k (sym (remains n rows rows' own ordered most h k)))
  where
    not_true : (b : Bool) → not b ≡ true → b ≡ false
    not_true true k = sym k
    not_true false k = refl

-- WHAT A ROW NAMES

-- a row that has at least the chunks of another, and the same debts, names what its deal names, too
pub names_more : (r r' : Row) (n : List ℕ) → (has out_key r.outs (Chunk n) ≡ true → has out_key r'.outs (Chunk n) ≡ true) → r'.debts ≡ r.debts → (name_listed (pending_name deal_name r.pending) n ≡ true → name_listed (pending_name deal_name r'.pending) n ≡ true) → row_names r n ≡ true → row_names r' n ≡ true
names_more r r' n outs debts deals h =
    let d : has debt_key r'.debts (Chunk n) ≡ has debt_key r.debts (Chunk n) = ap (λ l. has debt_key l (Chunk n)) debts in
    any (has out_key r.outs (Chunk n)) (has debt_key r.debts (Chunk n)) (name_listed (pending_name deal_name r.pending) n) (has out_key r'.outs (Chunk n)) (has debt_key r'.debts (Chunk n)) (name_listed (pending_name deal_name r'.pending) n) outs (λ k. d ∙ k) deals h
  where
    any : (a b c a' b' c' : Bool) → (a ≡ true → a' ≡ true) → (b ≡ true → b' ≡ true) → (c ≡ true → c' ≡ true) → (a || b || c) ≡ true → (a' || b' || c') ≡ true
    any true b c a' b' c' f g k h = rw (f refl) refl
    any false true c a' b' c' f g k h = rw (g refl) (two a' c')
      where
        two : (x y : Bool) → ((x || true) || y) ≡ true
        two true y = refl
        two false y = refl
    any false false c a' b' c' f g k h = rw (k h) (or_true (a' || b'))

pub has_with_one : (e : OutEntry) (l : List OutEntry) (o : Object) → has out_key l o ≡ true → has out_key (with_one out_key e l) o ≡ true
has_with_one e l o h = any_more out_key (λ x. object_eq (out_key x) o) e l ∙ rw h refl

pub has_with_all : (es l : List OutEntry) (o : Object) → has out_key l o ≡ true → has out_key (with_all out_key es l) o ≡ true
has_with_all [] l o h = h
has_with_all (e ∷ es) l o h = has_with_all es (with_one out_key e l) o (has_with_one e l o h)
