-- How far the next own deal with each peer was looked for: there it is not looked for again.
use Rattle.std.specs.Prelude.{◌≡◌, ℕ, ◌+◌, nat_le, Bool, true, false, not, ◌&&◌, ◌==◌, if◌then◌else◌, List, [], ◌∷◌, map, filter, length, Option, Some, None}
use Rattle.psb_bytes.specs.declared.ids.Object.{Object}
use Rattle.psb_bytes.specs.declared.ids.Object.TheVariants.{Chunk, Slot}
use Rattle.psb_model.specs.declared.entries.OutEntry.{OutEntry}
use Rattle.psb_model.specs.declared.entries.OwnEntry.{OwnEntry}
use Rattle.psb_model.specs.declared.deals.Deal.{Deal}
use Rattle.psb_model.specs.declared.deals.DealWhat.TheVariants.{Fresh, Swap, Cancel, PutBack}
use Rattle.psb_model.specs.declared.change.Change.{Change}
use Rattle.psb_model.specs.declared.change.Change.TheVariants.{TookFresh, TookSwap, LetGo, LetGoBack, Refused, Proposed, Settled, Turned, Chose, Replaced, Asked, Passed, Failed, Declined, Discarded}
use Rattle.psb_model.specs.Words.{units}
use Rattle.psb_model.specs.State.{State, row, own_marked}
use Rattle.psb_model.specs.Proposing.{none_marked, none_missing}
use Rattle.own_chunks.specs.OwnList.{is_behind}
use Rattle.next_deals.specs.declared.search.Search.{Search}
use Rattle.next_deals.specs.declared.search.Restarts.{Restarts}
use Rattle.next_deals.specs.declared.search.Restarts.TheVariants.{Nothing, All, Marked, Missing}

-- the name is not behind the place; and such an own chunk has no more than so many units
abbrev pub is_past : Option (List ℕ) → List ℕ → Bool
is_past place n = not (is_behind place n)

abbrev pub is_past_own : Option (List ℕ) → ℕ → OwnEntry → Bool
is_past_own place most e = is_past place e.name && nat_le (units e.len) most

-- nothing was looked at yet
abbrev pub at_start : ℕ → Search
at_start p = record { peer = p; marked = None; missing = None; most = 0 }

-- where the search with a peer stands
abbrev pub search_in : List Search → ℕ → Search
search_in [] p = at_start p
search_in (x ∷ xs) p = if x.peer == p then x else search_in xs p

-- up to there nothing was found
pub record IsSearched (s : State) (l : List Search) : Type 0 where
  pub marked : (q : ℕ) → none_marked (is_past (search_in l q).marked) s.own (row s q).outs ≡ true
  pub missing : (q : ℕ) → none_missing (is_past_own (search_in l q).missing (search_in l q).most) s q ≡ true

-- What a change starts anew: a deal that is settled may place a marked chunk, or take one away that is wanted again;
-- and what keeps, makes or forgets a snapshot may mark and want any.
abbrev pub settled_restarts : State → ℕ → Option Deal → Restarts
settled_restarts s p None = Nothing
settled_restarts s p (Some d) = elim d.what [
  | Fresh name ↦ if own_marked s.own name then Marked p else Nothing
  | Swap name numbers ↦ if own_marked s.own name then Marked p else Nothing
  | Cancel name numbers ↦ Missing p
  | PutBack name first ↦ Missing p
  | _ ↦ Nothing
]

abbrev pub restarts_of : State → Change → Restarts
restarts_of s (TookFresh x) = Nothing
restarts_of s (TookSwap x) = Nothing
restarts_of s (LetGo x) = Nothing
restarts_of s (LetGoBack x) = Nothing
restarts_of s (Refused x) = Nothing
restarts_of s (Proposed x) = Nothing
restarts_of s (Settled x) = settled_restarts s x.peer (row s x.peer).pending
restarts_of s (Turned x) = Nothing
restarts_of s (Replaced x) = Nothing
restarts_of s (Asked x) = Nothing
restarts_of s (Passed x) = Marked x.peer
restarts_of s (Failed x) = Nothing
restarts_of s (Declined x) = Nothing
restarts_of s (Discarded x) = Missing x.peer
restarts_of s (Chose x) = Nothing
restarts_of s _ = All

abbrev pub restarted : Restarts → ℕ → Search → Search
restarted Nothing q x = x
restarted All q x = at_start q
restarted (Marked p) q x = if p == q then record x { marked = None } else x
restarted (Missing p) q x = if p == q then record x { missing = None } else x

abbrev pub all_restarted : Restarts → List Search → List Search
all_restarted what = map (λ (x : Search). restarted what x.peer x)

-- from where a missing chunk of at most so many units is looked for
abbrev pub missing_from : Search → ℕ → Option (List ℕ)
missing_from x most = if nat_le most x.most then x.missing else None

-- a row in the place of its peer's
abbrev pub with_row : Search → Search → Search
with_row x y = if y.peer == x.peer then x else y

-- the name of a chunk; and the number behind that of a slot
abbrev pub chunk_name : Object → Option (List ℕ)
chunk_name (Chunk n) = Some n
chunk_name (Slot n) = None

abbrev pub number_behind : Object → ℕ
number_behind (Chunk n) = 0
number_behind (Slot n) = n + 1

-- the first chunk of out(p) behind the place, which stands in front of all slots
abbrev pub next_out : Option (List ℕ) → List OutEntry → Option (List ℕ)
next_out place [] = None
next_out place (e ∷ es) = elim e.object [ Chunk n ↦ if is_behind place n then Some n else next_out place es | Slot n ↦ None ]

-- how many chunks of out(p), and of the own ones, stand behind the place
abbrev pub outs_behind : Option (List ℕ) → List OutEntry → ℕ
outs_behind place outs = length (filter (λ (e : OutEntry). elim e.object [ Chunk n ↦ is_behind place n | Slot n ↦ false ]) outs)

abbrev pub own_behind : Option (List ℕ) → List OwnEntry → ℕ
own_behind place own = length (filter (λ (e : OwnEntry). is_behind place e.name) own)
