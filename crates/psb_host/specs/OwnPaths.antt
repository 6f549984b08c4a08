-- Where a device supposes the node's own file.
use Rattle.std.specs.Prelude.{ℕ, List, string_bytes}
use Rattle.psb_host.specs.declared.host_station.HostStation.{HostStation}
use Rattle.psb_host.specs.declared.host_folder.HostFolder.{HostFolder}

-- the file that a station opens
abbrev pub disk_of : {R S : Type 0} → HostStation R S → List ℕ
disk_of s = string_bytes s.file.path

-- the file that is no part of any folder
abbrev pub left_out_of : {R S A B : Type 0} → HostFolder R S A B → List ℕ
left_out_of f = string_bytes f.own.path
