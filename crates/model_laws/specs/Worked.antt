-- Worked histories, so that the definitions can be seen at work.
use Rattle.std.specs.Prelude.{◌≡◌, ℕ, zero, suc, ◌+◌, true, false, List, [], ◌∷◌, ◌++◌, length, replicate, codes, Some, None}
use Rattle.std.specs.List.{list_all}
use Rattle.psb_bytes.specs.declared.ids.Ticket.{Ticket}
use Rattle.psb_bytes.specs.declared.ids.Object.TheVariants.{Chunk, Slot}
use Rattle.psb_model.specs.declared.entries.OutState.TheVariants as on
use Rattle.psb_model.specs.declared.entries.InState.TheVariants as at
use Rattle.psb_settings.specs.declared.settings.Settings.{Settings}
use Rattle.psb_settings.specs.declared.settings.PeerRow.{PeerRow}
use Rattle.psb_model.specs.declared.change.Change.{Change}
use Rattle.psb_model.specs.declared.change.Change.TheVariants.{Begun, Kept, Snapped, Forgot, TookFresh, TookSwap, LetGo, LetGoBack, Replaced, Proposed, Settled, Turned, Asked, Passed, Failed, Declined, Discarded, Chose}
use Rattle.psb_model.specs.declared.deals.DealWhat.TheVariants.{Fresh, Forward, Return}
use Rattle.psb_settings.specs.Settings.{settings_of}
use Rattle.psb_model.specs.State.{row}
use Rattle.psb_model.specs.History.{state, is_lawful, held, back, debt}
use Rattle.psb_model.specs.declared.change.Change.TheVariants.{Refused}
use Rattle.psb_digest.specs.Hashes.{sha}
use Rattle.psb_model.specs.Grammar.{is_u8, is_digest}
use Rattle.psb_model.specs.Needed.{IsValid}

-- n bytes that rise by one from the first on
abbrev pub bytes_from : ℕ → ℕ → List ℕ
bytes_from first zero = []
bytes_from first (suc n) = first ∷ bytes_from (first + 1) n

-- the settings of a node with one peer, and with two
abbrev pub peer_two : PeerRow
peer_two = record { id = 2; address = codes "127.0.0.1:7002"; key = bytes_from 32 32; hops = 0 }

abbrev pub peer_three : PeerRow
peer_three = record { id = 3; address = codes "127.0.0.1:7003"; key = bytes_from 64 32; hops = 2 }

abbrev pub with_peers : List PeerRow → Settings
with_peers peers = record { id = 1; address = codes "127.0.0.1:7001"; seed = bytes_from 0 32; capacity = 1048576; buddies = 2; forward = true; peers = peers }

abbrev pub one_peer : Settings
one_peer = with_peers (peer_two ∷ [])

abbrev pub two_peers : Settings
two_peers = with_peers (peer_two ∷ peer_three ∷ [])

-- a name, and a ticket of one chunk
abbrev pub name_of : ℕ → List ℕ
name_of byte = replicate 32 byte

abbrev pub plain_ticket : Ticket
plain_ticket = record { reference = record { name = name_of 8; handle = name_of 9; len = 512 }; levels = 0 }

-- a chunk is taken, and the next deal refused
abbrev pub first_deals : List ℕ → List ℕ → List Change
first_deals text chunk =
    Begun (record { body = Some text })
    ∷ TookFresh (record { peer = 2; deal = 1; name = sha chunk; first = 0; len = 512; new = true; body = Some chunk })
    ∷ Refused (record { peer = 2; deal = 2; why = 3; detail = 0 })
    ∷ []

-- two peers store one chunk, and its bytes are kept once
abbrev pub shared_deals : List ℕ → List ℕ → List Change
shared_deals text chunk =
    Begun (record { body = Some text })
    ∷ TookFresh (record { peer = 2; deal = 1; name = sha chunk; first = 0; len = 512; new = true; body = Some chunk })
    ∷ TookFresh (record { peer = 3; deal = 1; name = sha chunk; first = 1; len = 512; new = false; body = Some [] })
    ∷ []

-- a chunk is taken, its slot is asked for, and no answer comes
abbrev pub lost_slot : List ℕ → List Change
lost_slot text =
    Begun (record { body = Some text })
    ∷ TookFresh (record { peer = 2; deal = 1; name = name_of 7; first = 0; len = 512; new = true; body = None })
    ∷ Asked (record { peer = 2; objects = Slot 0 ∷ [] })
    ∷ Failed (record { peer = 2; asked = 2; how = 0; got = name_of 0; objects = Slot 0 ∷ [] })
    ∷ []

-- and then the peer shows it after all, outside a probe
abbrev pub shown_again : Change
shown_again = Passed (record { peer = 2; asked = 0; objects = Slot 0 ∷ [] })

-- the same slot is asked for once more, and the peer passes: it is there again
abbrev pub passed_later : List ℕ → List Change
passed_later text =
    lost_slot text
    ++ Asked (record { peer = 2; objects = Slot 0 ∷ [] })
    ∷ Passed (record { peer = 2; asked = 4; objects = Slot 0 ∷ [] })
    ∷ []

-- two slots are asked for, and the peer declines the second
abbrev pub declined_one : List ℕ → List Change
declined_one text =
    Begun (record { body = Some text })
    ∷ TookFresh (record { peer = 2; deal = 1; name = name_of 7; first = 0; len = 1024; new = true; body = None })
    ∷ Asked (record { peer = 2; objects = Slot 0 ∷ Slot 1 ∷ [] })
    ∷ Declined (record { peer = 2; asked = 2; places = 1 ∷ [] })
    ∷ []

-- the own slot 0 on peer 2 carries slot 5 of peer 3, which is then swapped for a chunk
abbrev pub forwarded : List ℕ → List Change
forwarded text =
    Begun (record { body = Some text })
    ∷ TookFresh (record { peer = 2; deal = 1; name = name_of 7; first = 0; len = 512; new = true; body = None })
    ∷ Kept (record { name = name_of 8; len = 512; new = true; body = None })
    ∷ Snapped (record { number = 1; ticket = plain_ticket; files = 1; folders = 0; bytes = 512; left = 0; names = name_of 8 ∷ [] })
    ∷ Chose (record { candidates = record { peer = 3; got = 0; of = 1; hops = 2 } ∷ [] })
    ∷ Proposed (record { peer = 3; deal = 1; what = Fresh (name_of 8) })
    ∷ Settled (record { peer = 3; deal = 1; slots = 5 ∷ []; body = None })
    ∷ Proposed (record { peer = 2; deal = 1; what = Forward 0 (record { peer = 3; slot = 5 }) })
    ∷ Settled (record { peer = 2; deal = 1; slots = []; body = None })
    ∷ []

abbrev pub swapped_away : Change
swapped_away = TookSwap (record { peer = 3; deal = 1; name = name_of 10; slots = 5 ∷ []; len = 512; new = true; body = None })

-- then it is returned: an own claim stands in it again
abbrev pub returned : List ℕ → List Change
returned text =
    forwarded text
    ++ swapped_away
    ∷ Proposed (record { peer = 2; deal = 2; what = Return 0 })
    ∷ Settled (record { peer = 2; deal = 2; slots = []; body = None })
    ∷ []

-- peer 3 puts the own claim 0 into its forwarded slot: that is home, and nothing carries it any more
abbrev pub come_home : List ℕ → List Change
come_home text =
    forwarded text
    ++ Replaced (record { peer = 3; deal = 1; slot = 5; place = 1; home = 0; body = Some [] })
    ∷ []

-- a chunk is let go with its slot; it comes once more, and is put back into a slot of the peer; a snapshot that
-- listed an own chunk is given up
abbrev pub given_back : List ℕ → List Change
given_back text =
    Begun (record { body = Some text })
    ∷ TookFresh (record { peer = 2; deal = 1; name = name_of 7; first = 0; len = 512; new = true; body = None })
    ∷ LetGo (record { peer = 2; deal = 2; name = name_of 7; slots = 0 ∷ [] })
    ∷ TookFresh (record { peer = 2; deal = 3; name = name_of 7; first = 1; len = 512; new = true; body = None })
    ∷ LetGoBack (record { peer = 2; deal = 4; name = name_of 7; slots = 3 ∷ []; body = None })
    ∷ Kept (record { name = name_of 8; len = 512; new = true; body = None })
    ∷ Snapped (record { number = 1; ticket = plain_ticket; files = 1; folders = 0; bytes = 512; left = 0; names = name_of 8 ∷ [] })
    ∷ Forgot (record { number = 1 })
    ∷ []

-- so often the slot is asked for and no answer comes, from change n on
abbrev pub unanswered : ℕ → ℕ → ℕ → List Change
unanswered slot n zero = []
unanswered slot n (suc k) =
    Asked (record { peer = 3; objects = Slot slot ∷ [] })
    ∷ Failed (record { peer = 3; asked = n; how = 0; got = name_of 0; objects = Slot slot ∷ [] })
    ∷ unanswered slot (n + 2) k

-- peer 3 has a chunk of two units, against its slots 5 and 6 here, and the own slot 1, against a chunk of one unit
-- here; it fails six probes in a row, and slot 5 is then tied by a forward to peer 2
abbrev pub six_failures : List ℕ → List Change
six_failures text =
    Begun (record { body = Some text })
    ∷ TookFresh (record { peer = 2; deal = 1; name = name_of 7; first = 0; len = 512; new = true; body = None })
    ∷ Kept (record { name = name_of 8; len = 1024; new = true; body = None })
    ∷ Snapped (record { number = 1; ticket = plain_ticket; files = 1; folders = 0; bytes = 512; left = 0; names = name_of 8 ∷ [] })
    ∷ Chose (record { candidates = record { peer = 3; got = 0; of = 1; hops = 2 } ∷ [] })
    ∷ Proposed (record { peer = 3; deal = 1; what = Fresh (name_of 8) })
    ∷ Settled (record { peer = 3; deal = 1; slots = 5 ∷ 6 ∷ []; body = None })
    ∷ TookFresh (record { peer = 3; deal = 1; name = name_of 10; first = 1; len = 512; new = true; body = None })
    ∷ Asked (record { peer = 3; objects = Chunk (name_of 8) ∷ Slot 1 ∷ [] })
    ∷ Failed (record { peer = 3; asked = 8; how = 0; got = name_of 0; objects = Chunk (name_of 8) ∷ Slot 1 ∷ [] })
    ∷ unanswered 1 10 5
    ++ Proposed (record { peer = 2; deal = 1; what = Forward 0 (record { peer = 3; slot = 5 }) })
    ∷ []

-- all that is untied is let go: two of the three units of the debt are used up, the oldest first
abbrev pub first_discard : Change
first_discard = Discarded (record { peer = 3; objects = Chunk (name_of 10) ∷ Slot 6 ∷ [] })

abbrev pub discarded_once : List ℕ → List Change
discarded_once text = six_failures text ++ first_discard ∷ []

-- the forward is turned down, and the next probe fails as well
abbrev pub seventh_failure : List Change
seventh_failure = Turned (record { peer = 2; deal = 1; why = 9; detail = 0 }) ∷ unanswered 1 23 1

-- the slot is let go, and the debt is paid
abbrev pub second_discard : Change
second_discard = Discarded (record { peer = 3; objects = Slot 5 ∷ [] })

abbrev pub discarded_twice : List ℕ → List Change
discarded_twice text = (discarded_once text ++ seventh_failure) ++ second_discard ∷ []

-- the three numbers of a peer
pub record Numbers (h : List Change) (q a b c : ℕ) : Type 0 where
  pub held_is : held h q ≡ a
  pub back_is : back h q ≡ b
  pub debt_is : debt h q ≡ c

-- with one peer
pub record FirstWorked (text chunk : List ℕ) : Type 0 where
  pub valid : IsValid (first_deals text chunk)
  pub numbers : Numbers (first_deals text chunk) 2 1 1 0

-- with two who store one chunk
pub record SharedWorked (text chunk : List ℕ) : Type 0 where
  pub valid : IsValid (shared_deals text chunk)
  pub first_numbers : Numbers (shared_deals text chunk) 2 1 1 0
  pub second_numbers : Numbers (shared_deals text chunk) 3 1 1 0

-- with two, by kinds that come later
pub record Worked (text : List ℕ) : Type 0 where
  pub lost_lawful : is_lawful (lost_slot text) ≡ true
  pub lost_numbers : Numbers (lost_slot text) 2 1 0 1
  pub shown_lawful : is_lawful (lost_slot text ++ shown_again ∷ []) ≡ true
  pub shown_numbers : Numbers (lost_slot text ++ shown_again ∷ []) 2 1 1 0
  pub forwarded_lawful : is_lawful (forwarded text) ≡ true
  pub forwarded_two : Numbers (forwarded text) 2 1 1 0
  pub forwarded_three : Numbers (forwarded text) 3 1 1 0
  pub carries : (row (state (forwarded text)) 2).outs ≡ record { object = Slot 0; units = 1; state = on.Carries (record { peer = 3; slot = 5 }) } ∷ []
  pub swapped_lawful : is_lawful (forwarded text ++ swapped_away ∷ []) ≡ true
  pub loose : (row (state (forwarded text ++ swapped_away ∷ [])) 2).outs ≡ record { object = Slot 0; units = 1; state = on.Loose } ∷ []
  pub swapped_numbers : Numbers (forwarded text ++ swapped_away ∷ []) 3 1 1 0

-- a probe that fails is passed by a later one, and one place of a probe is declined
pub record ProbesWorked (text : List ℕ) : Type 0 where
  pub passed_lawful : is_lawful (passed_later text) ≡ true
  pub passed_numbers : Numbers (passed_later text) 2 1 1 0
  pub no_failures : (row (state (passed_later text)) 2).fails ≡ 0
  pub declined_lawful : is_lawful (declined_one text) ≡ true
  pub declined_numbers : Numbers (declined_one text) 2 2 1 1
  pub one_failure : (row (state (declined_one text)) 2).fails ≡ 1
  pub lost : (row (state (declined_one text)) 2).debts ≡ record { object = Slot 1; units = 1; left = 1; cause = 3; declined = true; state = on.Own } ∷ []

-- a loose slot is returned, and a claim comes home
pub record ClaimsWorked (text : List ℕ) : Type 0 where
  pub returned_lawful : is_lawful (returned text) ≡ true
  pub own_again : (row (state (returned text)) 2).outs ≡ record { object = Slot 0; units = 1; state = on.Own } ∷ []
  pub returned_numbers : Numbers (returned text) 2 1 1 0
  pub home_lawful : is_lawful (come_home text) ≡ true
  pub at_home : (row (state (come_home text)) 3).ins ≡ record { object = Slot 5; units = 1; state = at.Home 0 } ∷ []
  pub freed : (row (state (come_home text)) 2).outs ≡ record { object = Slot 0; units = 1; state = on.Loose } ∷ []
  pub home_numbers : Numbers (come_home text) 3 1 1 0

-- chunks go and come back, and what no snapshot lists is given up
pub record LettingGoWorked (text : List ℕ) : Type 0 where
  pub lawful : is_lawful (given_back text) ≡ true
  pub put_back : (row (state (given_back text)) 2).ins ≡ record { object = Slot 3; units = 1; state = at.Direct } ∷ []
  pub numbers : Numbers (given_back text) 2 1 1 0
  pub given_up : (state (given_back text)).own ≡ []

-- a debt of three units is used up in two discards
pub record DiscardsWorked (text : List ℕ) : Type 0 where
  pub lawful : is_lawful (discarded_twice text) ≡ true
  pub failed_numbers : Numbers (six_failures text) 3 3 0 3
  pub once_numbers : Numbers (discarded_once text) 3 1 0 1
  pub twice_numbers : Numbers (discarded_twice text) 3 0 0 0

-- under each text that says these settings, and for each chunk of 512 bytes
pub record WorkedRows : Type 0 where
  pub first : (text chunk : List ℕ) → settings_of text ≡ Some one_peer → list_all is_u8 text ≡ true → length chunk ≡ 512 → list_all is_u8 chunk ≡ true → is_digest (sha chunk) ≡ true → FirstWorked text chunk
  pub shared : (text chunk : List ℕ) → settings_of text ≡ Some two_peers → list_all is_u8 text ≡ true → length chunk ≡ 512 → list_all is_u8 chunk ≡ true → is_digest (sha chunk) ≡ true → SharedWorked text chunk
  pub two : (text : List ℕ) → settings_of text ≡ Some two_peers → Worked text
  pub probes : (text : List ℕ) → settings_of text ≡ Some one_peer → ProbesWorked text
  pub claims : (text : List ℕ) → settings_of text ≡ Some two_peers → ClaimsWorked text
  pub letting_go : (text : List ℕ) → settings_of text ≡ Some one_peer → LettingGoWorked text
  pub discards : (text : List ℕ) → settings_of text ≡ Some two_peers → DiscardsWorked text
