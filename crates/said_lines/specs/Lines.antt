-- The lines that the program says.
use Rattle.std.specs.Prelude.{ℕ, Bool, true, false, List, ◌++◌, flat_map, codes, decimal}
use Rattle.hex.specs.Hex.{encode_lower}
use Rattle.psb_bytes.specs.Tickets.{ticket_bytes}
use Rattle.psb_model.specs.declared.entries.DebtEntry.{DebtEntry}
use Rattle.psb_model.specs.declared.snapshots.Snapshot.{Snapshot}

-- lines, one after another
abbrev pub joined_lines : List (List ℕ) → List ℕ
joined_lines lines = flat_map (λ line. line) lines

-- the line on a peer: `peer 2 held 1 back 1 debt 0` and a line feed
abbrev pub peer_line : ℕ → ℕ → ℕ → ℕ → List ℕ
peer_line id held back debt =
    codes "peer " ++ decimal id ++ codes " held " ++ decimal held
    ++ codes " back " ++ decimal back ++ codes " debt " ++ decimal debt ++ codes "\n"

-- how a row of debt came: a probe failed, or the peer declined it
abbrev pub loss_word : Bool → List ℕ
loss_word true = codes " declined\n"
loss_word false = codes " failed\n"

-- the line of a row of debt: units that are left of those that were lost, and the change that booked the row:
-- `debt 1 of 2 change 3 failed` and a line feed
abbrev pub debt_front : DebtEntry → List ℕ
debt_front d = codes "debt " ++ decimal d.left ++ codes " of " ++ decimal d.units ++ codes " change " ++ decimal d.cause

abbrev pub debt_line : DebtEntry → List ℕ
debt_line d = debt_front d ++ loss_word d.declined

-- the last line of `serve`: `turns 12 taken 1 dropped 0 lost 0` and a line feed
abbrev pub turns_line : ℕ → ℕ → ℕ → ℕ → List ℕ
turns_line turns taken dropped lost =
    codes "turns " ++ decimal turns ++ codes " taken " ++ decimal taken
    ++ codes " dropped " ++ decimal dropped ++ codes " lost " ++ decimal lost ++ codes "\n"

-- the line of a node that has begun: `node 1 peers 2` and a line feed
abbrev pub node_line : ℕ → ℕ → List ℕ
node_line id peers = codes "node " ++ decimal id ++ codes " peers " ++ decimal peers ++ codes "\n"

-- the line of a kept snapshot: `snapshot 1 files 3 folders 2 bytes 256 left 0 ticket`, the 138 digits of
-- the ticket's 69 bytes, and a line feed
abbrev pub snapshot_front : Snapshot → List ℕ
snapshot_front s =
    codes "snapshot " ++ decimal s.number ++ codes " files " ++ decimal s.files ++ codes " folders " ++ decimal s.folders
    ++ codes " bytes " ++ decimal s.bytes ++ codes " left " ++ decimal s.left ++ codes " ticket "

abbrev pub snapshot_line : Snapshot → List ℕ
snapshot_line s = snapshot_front s ++ encode_lower (ticket_bytes s.ticket) ++ codes "\n"

-- the line of a snapshot that was restored: `restored files 3 folders 2 bytes 256` and a line feed
abbrev pub restored_line : ℕ → ℕ → ℕ → List ℕ
restored_line files folders bytes = codes "restored files " ++ decimal files ++ codes " folders " ++ decimal folders ++ codes " bytes " ++ decimal bytes ++ codes "\n"

-- the line of a snapshot that was given up: `forgot 1` and a line feed
abbrev pub forgot_line : ℕ → List ℕ
forgot_line number = codes "forgot " ++ decimal number ++ codes "\n"
