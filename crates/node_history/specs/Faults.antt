-- The fault that an error of the log is. A log that is broken met one of the disk.
use Rattle.node_journal.specs.declared.log.LogError.{LogError}
use Rattle.node_journal.specs.declared.log.LogError.TheVariants as log
use Rattle.node_history.specs.declared.fault.ReadFault.{ReadFault}
use Rattle.node_history.specs.declared.fault.ReadFault.TheVariants as fault

abbrev pub fault_of : LogError → ReadFault
fault_of log.NotLog = fault.NotNode
fault_of log.DiskFault = fault.DiskFault
fault_of log.Broken = fault.DiskFault
fault_of log.Memory = fault.Memory
