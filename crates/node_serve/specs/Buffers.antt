-- What a buffer tells of the last turn.
use Rattle.std.specs.Prelude.{ℕ, List, take, Option, option_map}
use Rattle.node_serve.specs.declared.buffer.Buffer.{Buffer}

-- the datagram that came in it, if one did
abbrev pub last_of : Buffer → Option (List ℕ)
last_of b = option_map (λ (n : ℕ). take n b.bytes.items) b.count
