-- How a run of the program may end.
use Rattle.std.specs.Prelude.{ℕ, List, [], ◌++◌, codes, decimal}
use Rattle.hex.specs.Hex.{encode_lower}
use Rattle.psb_digest.specs.Hashes.{sha}
use Rattle.skeleton.specs.declared.faults.SkelFault.{SkelFault}
use Rattle.skeleton.specs.declared.faults.SkelFault.TheVariants as skel
use Rattle.said_lines.specs.declared.status.Status.{Status}
use Rattle.said_lines.specs.declared.status.Status.TheVariants.{Done, Usage, DiskFault, LinkFault, FolderFault, SayFault, NotNode, Already, BadSettings, NoSnapshot, TooLarge, Missing, Altered, Clash, NotEmpty, BadSkeleton, Memory}

-- the exit status of the program
abbrev pub code_of : Status → ℕ
code_of Done = 0
code_of Usage = 2
code_of DiskFault = 3
code_of LinkFault = 4
code_of FolderFault = 5
code_of SayFault = 6
code_of NotNode = 7
code_of Already = 8
code_of BadSettings = 9
code_of (NoSnapshot number) = 10
code_of TooLarge = 11
code_of (Missing name) = 12
code_of (Altered name got) = 13
code_of (Clash c) = 14
code_of NotEmpty = 16
code_of (BadSkeleton f place) = 17
code_of Memory = 18

-- an answer that is none of a restore alone
abbrev pub IsElsewhere : Status → Type 0
IsElsewhere (Missing name) = ⊥
IsElsewhere (Altered name got) = ⊥
IsElsewhere NotEmpty = ⊥
IsElsewhere (BadSkeleton f place) = ⊥
IsElsewhere s = Unit {0}

-- an answer for which the node that the disk holds was opened
abbrev pub IsOpened : Status → Type 0
IsOpened Usage = ⊥
IsOpened DiskFault = ⊥
IsOpened NotNode = ⊥
IsOpened Already = ⊥
IsOpened BadSettings = ⊥
IsOpened Memory = ⊥
IsOpened s = Unit {0}

-- the number of a fault of a text
abbrev pub fault_number : SkelFault → ℕ
fault_number skel.BadMark = 1
fault_number skel.BadOrder = 2
fault_number skel.BadPath = 3
fault_number skel.BadCount = 4
fault_number skel.Short = 5
fault_number skel.Trailing = 6
fault_number skel.TooLong = 7

-- the line said for a refusal, or nothing
abbrev pub refusal_line : Status → List ℕ
refusal_line Done = []
refusal_line Usage = codes "usage\n"
refusal_line DiskFault = codes "disk fault\n"
refusal_line LinkFault = codes "link fault\n"
refusal_line FolderFault = codes "folder fault\n"
refusal_line SayFault = []
refusal_line NotNode = codes "not a node\n"
refusal_line Already = codes "disk not empty\n"
refusal_line BadSettings = codes "bad settings\n"
refusal_line (NoSnapshot number) = codes "no snapshot " ++ decimal number ++ codes "\n"
refusal_line TooLarge = codes "too large\n"
refusal_line (Missing name) = codes "missing " ++ encode_lower name ++ codes "\n"
refusal_line (Altered name got) = codes "altered " ++ encode_lower name ++ codes "\n"
refusal_line (Clash c) = codes "clash " ++ encode_lower (sha c.first) ++ codes "\n"
refusal_line NotEmpty = codes "target not empty\n"
refusal_line (BadSkeleton f place) = codes "bad skeleton " ++ decimal (fault_number f) ++ codes " at " ++ decimal place ++ codes "\n"
refusal_line Memory = codes "no memory\n"
