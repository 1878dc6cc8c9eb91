-- The fault of a session by that of its transaction, or of its reader.
use Rattle.txn.specs.declared.fault.WriteFault.{WriteFault}
use Rattle.txn.specs.declared.fault.WriteFault.TheVariants as write
use Rattle.publishing.specs.declared.reading.ReadingFault.{ReadingFault}
use Rattle.publishing.specs.declared.reading.ReadingFault.TheVariants as reading
use Rattle.shared.specs.declared.fault.BeginFault.{BeginFault}
use Rattle.shared.specs.declared.fault.BeginFault.TheVariants as begin
use Rattle.shared.specs.declared.fault.SessionFault.{SessionFault}
use Rattle.shared.specs.declared.fault.SessionFault.TheVariants.{Shape, NoMemory}

abbrev pub fault_of_write : WriteFault → SessionFault
fault_of_write (write.Shape fault) = Shape fault
fault_of_write write.NoMemory = NoMemory

abbrev pub fault_of_reading : ReadingFault → BeginFault
fault_of_reading reading.Ended = begin.Ended
fault_of_reading reading.NoMemory = begin.NoMemory
