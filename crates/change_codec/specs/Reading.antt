-- How a change is read from its record: the fields of its head in turn, and then the grammar.
use Rattle.std.specs.Prelude.{◌≡◌, ◌↔◌, ⊤, ℕ, Bool, true, false, nat_le, ◌&&◌, ◌||◌, ◌==◌, if◌then◌else◌, List, [], ◌∷◌, Option, Some, None, unwrap_or, Result, Ok, Err}
use Rattle.psb_bytes.specs.Numbers.{AreBytes}
use Rattle.psb_bytes.specs.declared.ids.Ticket.{Ticket}
use Rattle.psb_model.specs.declared.entries.Candidate.{Candidate}
use Rattle.psb_model.specs.declared.deals.DealWhat.{DealWhat}
use Rattle.psb_model.specs.declared.deals.DealWhat.TheVariants.{Fresh, Swap, Cancel, PutBack, Forward, Return}
use Rattle.psb_model.specs.declared.change.Change.{Change}
use Rattle.psb_model.specs.declared.change.Change.TheVariants.{Begun, Kept, Snapped, Forgot, TookFresh, TookSwap, LetGo, LetGoBack, Replaced, Refused, Proposed, Settled, Turned, Asked, Passed, Failed, Declined, Discarded, Chose}
use Rattle.psb_model.specs.Grammar.{are_bytes, in_grammar}
use Rattle.byte_fields.specs.Fields.{◌>>=◌, u8_at, u16_at, u32_at, u64_at, digest_at, object_at, items_at, ended}
use Rattle.change_codec.specs.declared.decode.ChangeError.{ChangeError}
use Rattle.change_codec.specs.declared.decode.ChangeError.TheVariants.{BadHead, Memory}
use Rattle.change_codec.specs.Records.{has_body, IsRead}

-- what a reader of the code answers is what reading gives, where memory did not run out
abbrev pub Answers : {X : Type 0} → Result X ChangeError → Option X → Type 0
Answers (Ok x) read = read ≡ Some x
Answers (Err BadHead) read = read ≡ None
Answers (Err Memory) read = ⊤

-- the same of one that leaves the bytes behind what it read
abbrev pub AnswersAt : {X : Type 0} → Result X ChangeError → List ℕ → Option (X × List ℕ) → Type 0
AnswersAt (Ok x) left read = read ≡ Some (x, left)
AnswersAt (Err BadHead) left read = read ≡ None
AnswersAt (Err Memory) left read = ⊤

-- ---- fields

-- one byte, 0 or 1
unfoldable pub flag_at : List ℕ → Option (Bool × List ℕ)
flag_at bytes = do
  flag ← u8_at bytes
  if nat_le flag.0 1 then Some (flag.0 == 1, flag.1) else None

-- a name, a handle, a length and how many levels
unfoldable pub ticket_at : List ℕ → Option (Ticket × List ℕ)
ticket_at bytes = do
  name ← digest_at bytes
  handle ← digest_at name.1
  len ← u32_at handle.1
  levels ← u8_at len.1
  Some (record { reference = record { name = name.0; handle = handle.0; len = len.0 }; levels = levels.0 }, levels.1)

unfoldable pub candidate_at : List ℕ → Option (Candidate × List ℕ)
candidate_at bytes = do
  peer ← u32_at bytes
  got ← u32_at peer.1
  of ← u32_at got.1
  hops ← u32_at of.1
  Some (record { peer = peer.0; got = got.0; of = of.0; hops = hops.0 }, hops.1)

-- a count of four bytes, and the items
unfoldable pub counted_at : {A : Type 0} → (List ℕ → Option (A × List ℕ)) → List ℕ → Option (List A × List ℕ)
counted_at item bytes = do
  n ← u32_at bytes
  items_at item n.0 n.1

-- ---- kinds, behind the byte that tells which

unfoldable pub begun_at : List ℕ → Option (List ℕ) → Option Change
begun_at fields body = ended (Begun (record { body = body })) fields

unfoldable pub kept_at : List ℕ → Option (List ℕ) → Option Change
kept_at fields body = do
  name ← digest_at fields
  len ← u32_at name.1
  new ← flag_at len.1
  ended (Kept (record { name = name.0; len = len.0; new = new.0; body = body })) new.1

unfoldable pub snapped_at : List ℕ → Option Change
snapped_at fields = do
  number ← u32_at fields
  ticket ← ticket_at number.1
  files ← u32_at ticket.1
  folders ← u32_at files.1
  bytes ← u64_at folders.1
  left ← u32_at bytes.1
  names ← counted_at digest_at left.1
  ended (Snapped (record { number = number.0; ticket = ticket.0; files = files.0; folders = folders.0; bytes = bytes.0; left = left.0; names = names.0 })) names.1

unfoldable pub forgot_at : List ℕ → Option Change
forgot_at fields = do
  number ← u32_at fields
  ended (Forgot (record { number = number.0 })) number.1

unfoldable pub took_fresh_at : List ℕ → Option (List ℕ) → Option Change
took_fresh_at fields body = do
  peer ← u32_at fields
  deal ← u64_at peer.1
  name ← digest_at deal.1
  first ← u32_at name.1
  len ← u32_at first.1
  new ← flag_at len.1
  ended (TookFresh (record { peer = peer.0; deal = deal.0; name = name.0; first = first.0; len = len.0; new = new.0; body = body })) new.1

unfoldable pub took_swap_at : List ℕ → Option (List ℕ) → Option Change
took_swap_at fields body = do
  peer ← u32_at fields
  deal ← u64_at peer.1
  name ← digest_at deal.1
  slots ← counted_at u32_at name.1
  len ← u32_at slots.1
  new ← flag_at len.1
  ended (TookSwap (record { peer = peer.0; deal = deal.0; name = name.0; slots = slots.0; len = len.0; new = new.0; body = body })) new.1

unfoldable pub let_go_at : List ℕ → Option Change
let_go_at fields = do
  peer ← u32_at fields
  deal ← u64_at peer.1
  name ← digest_at deal.1
  slots ← counted_at u32_at name.1
  ended (LetGo (record { peer = peer.0; deal = deal.0; name = name.0; slots = slots.0 })) slots.1

unfoldable pub let_go_back_at : List ℕ → Option (List ℕ) → Option Change
let_go_back_at fields body = do
  peer ← u32_at fields
  deal ← u64_at peer.1
  name ← digest_at deal.1
  slots ← counted_at u32_at name.1
  ended (LetGoBack (record { peer = peer.0; deal = deal.0; name = name.0; slots = slots.0; body = body })) slots.1

unfoldable pub replaced_at : List ℕ → Option (List ℕ) → Option Change
replaced_at fields body = do
  peer ← u32_at fields
  deal ← u64_at peer.1
  slot ← u32_at deal.1
  place ← u8_at slot.1
  home ← u32_at place.1
  ended (Replaced (record { peer = peer.0; deal = deal.0; slot = slot.0; place = place.0; home = home.0; body = body })) home.1

unfoldable pub refused_at : List ℕ → Option Change
refused_at fields = do
  peer ← u32_at fields
  deal ← u64_at peer.1
  why ← u8_at deal.1
  detail ← u64_at why.1
  ended (Refused (record { peer = peer.0; deal = deal.0; why = why.0; detail = detail.0 })) detail.1

unfoldable pub settled_at : List ℕ → Option (List ℕ) → Option Change
settled_at fields body = do
  peer ← u32_at fields
  deal ← u64_at peer.1
  slots ← counted_at u32_at deal.1
  ended (Settled (record { peer = peer.0; deal = deal.0; slots = slots.0; body = body })) slots.1

unfoldable pub turned_at : List ℕ → Option Change
turned_at fields = do
  peer ← u32_at fields
  deal ← u64_at peer.1
  why ← u8_at deal.1
  detail ← u64_at why.1
  ended (Turned (record { peer = peer.0; deal = deal.0; why = why.0; detail = detail.0 })) detail.1

unfoldable pub asked_at : List ℕ → Option Change
asked_at fields = do
  peer ← u32_at fields
  objects ← counted_at object_at peer.1
  ended (Asked (record { peer = peer.0; objects = objects.0 })) objects.1

unfoldable pub passed_at : List ℕ → Option Change
passed_at fields = do
  peer ← u32_at fields
  asked ← u64_at peer.1
  objects ← counted_at object_at asked.1
  ended (Passed (record { peer = peer.0; asked = asked.0; objects = objects.0 })) objects.1

unfoldable pub failed_at : List ℕ → Option Change
failed_at fields = do
  peer ← u32_at fields
  asked ← u64_at peer.1
  how ← u8_at asked.1
  got ← digest_at how.1
  objects ← counted_at object_at got.1
  ended (Failed (record { peer = peer.0; asked = asked.0; how = how.0; got = got.0; objects = objects.0 })) objects.1

unfoldable pub declined_at : List ℕ → Option Change
declined_at fields = do
  peer ← u32_at fields
  asked ← u64_at peer.1
  places ← counted_at u16_at asked.1
  ended (Declined (record { peer = peer.0; asked = asked.0; places = places.0 })) places.1

unfoldable pub discarded_at : List ℕ → Option Change
discarded_at fields = do
  peer ← u32_at fields
  objects ← counted_at object_at peer.1
  ended (Discarded (record { peer = peer.0; objects = objects.0 })) objects.1

unfoldable pub chose_at : List ℕ → Option Change
chose_at fields = do
  candidates ← counted_at candidate_at fields
  ended (Chose (record { candidates = candidates.0 })) candidates.1

-- ---- own deals, behind the byte that tells which

unfoldable pub fresh_at : List ℕ → Option DealWhat
fresh_at fields = do
  name ← digest_at fields
  ended (Fresh name.0) name.1

unfoldable pub swap_at : List ℕ → Option DealWhat
swap_at fields = do
  name ← digest_at fields
  slots ← counted_at u32_at name.1
  ended (Swap name.0 slots.0) slots.1

unfoldable pub cancel_at : List ℕ → Option DealWhat
cancel_at fields = do
  name ← digest_at fields
  slots ← counted_at u32_at name.1
  ended (Cancel name.0 slots.0) slots.1

unfoldable pub put_back_at : List ℕ → Option DealWhat
put_back_at fields = do
  name ← digest_at fields
  first ← u32_at name.1
  ended (PutBack name.0 first.0) first.1

unfoldable pub forward_at : List ℕ → Option DealWhat
forward_at fields = do
  slot ← u32_at fields
  peer ← u32_at slot.1
  there ← u32_at peer.1
  ended (Forward slot.0 (record { peer = peer.0; slot = there.0 })) there.1

unfoldable pub return_at : List ℕ → Option DealWhat
return_at fields = do
  slot ← u32_at fields
  ended (Return slot.0) slot.1

unfoldable pub deal_by : ℕ → List ℕ → Option DealWhat
deal_by kind fields =
    if kind == 1 then fresh_at fields
    else if kind == 2 then swap_at fields
    else if kind == 3 then cancel_at fields
    else if kind == 4 then put_back_at fields
    else if kind == 5 then forward_at fields
    else if kind == 6 then return_at fields
    else None

unfoldable pub proposed_at : List ℕ → Option Change
proposed_at fields = do
  peer ← u32_at fields
  deal ← u64_at peer.1
  kind ← u8_at deal.1
  what ← deal_by kind.0 kind.1
  Some (Proposed (record { peer = peer.0; deal = deal.0; what = what }))

-- ---- all kinds

-- the change of this kind that the fields spell
unfoldable pub change_by : ℕ → List ℕ → Option (List ℕ) → Option Change
change_by kind fields body =
    if kind == 1 then begun_at fields body
    else if kind == 2 then kept_at fields body
    else if kind == 3 then snapped_at fields
    else if kind == 4 then forgot_at fields
    else if kind == 5 then took_fresh_at fields body
    else if kind == 6 then took_swap_at fields body
    else if kind == 7 then let_go_at fields
    else if kind == 8 then let_go_back_at fields body
    else if kind == 9 then replaced_at fields body
    else if kind == 10 then refused_at fields
    else if kind == 11 then proposed_at fields
    else if kind == 12 then settled_at fields body
    else if kind == 13 then turned_at fields
    else if kind == 14 then asked_at fields
    else if kind == 15 then passed_at fields
    else if kind == 16 then failed_at fields
    else if kind == 17 then declined_at fields
    else if kind == 18 then discarded_at fields
    else if kind == 19 then chose_at fields
    else None

abbrev pub is_empty : List ℕ → Bool
is_empty [] = true
is_empty (b ∷ bytes) = false

-- the change is in the grammar, and its body part is empty but where its kind has one
abbrev pub goes_with : List ℕ → Change → Bool
goes_with part c = in_grammar c && (has_body c || is_empty part)

abbrev pub if_it_goes : List ℕ → Change → Option Change
if_it_goes part c = if goes_with part c then Some c else None

-- the change that a record stands for
unfoldable pub read_change : List ℕ → Option (List ℕ) → Option Change
read_change [] body = None
read_change (kind ∷ fields) body = do
  c ← change_by kind fields body
  if_it_goes (unwrap_or body []) c

-- ---- the law that ties reading to spelling

-- a record is read as a change exactly where it stands for it
abbrev pub ReadsEach : Type 0
ReadsEach = (c : Change) (head : List ℕ) (body : Option (List ℕ)) → AreBytes head → are_bytes body ≡ true → (read_change head body ≡ Some c) ↔ IsRead c head body
