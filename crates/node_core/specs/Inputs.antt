-- What is fed to a node, as the machine has it.
use Rattle.std.specs.Prelude.{Bool, true, false}
use Rattle.psb_machine.specs.Machine.{Input as MachineInput, Datagram, Tick, Keep, Snap, Forget}
use Rattle.node_core.specs.declared.input.Input.{Input}
use Rattle.node_core.specs.declared.input.Input.TheVariants as input

abbrev pub input_of : Input → MachineInput
input_of (input.Frame datagram) = Datagram datagram.now
input_of (input.Tick p) = Tick p
input_of (input.Keep sealed) = Keep sealed.now.reference.name sealed.now.body
input_of (input.Snap note) = Snap note.now
input_of (input.Forget number) = Forget number

-- an input of the node's own: nobody is told of it
abbrev pub is_own : MachineInput → Bool
is_own (Datagram x) = false
is_own (Tick p) = false
is_own (Keep name bytes) = true
is_own (Snap note) = true
is_own (Forget number) = true
