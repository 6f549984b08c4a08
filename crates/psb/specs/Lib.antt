pub mod OnMachine
