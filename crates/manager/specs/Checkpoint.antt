-- A checkpoint: the newest table goes to a store, and becomes the stable table only once the store has it.
use Rattle.std.specs.Prelude.{ℕ, Result, Ok, Err}
use Rattle.devices.specs.Appending.{Taken, Appends}
use Rattle.devices.specs.declared.fault.StoreFault.{StoreFault}
use Rattle.devices.specs.declared.fault.StoreFault.TheVariants as store
use Rattle.manager.specs.Managed.{Managed, newest_stable}
use Rattle.manager.specs.declared.fault.CheckpointFault.{CheckpointFault}
use Rattle.manager.specs.declared.fault.CheckpointFault.TheVariants.{StoreFailed, GenerationsSpent, NoMemory, DeviceFailed}

-- the store's fault
abbrev pub fault_of_store : CheckpointFault → StoreFault
fault_of_store StoreFailed = store.StoreFailed
fault_of_store GenerationsSpent = store.GenerationsSpent
fault_of_store NoMemory = store.NoMemory
fault_of_store (DeviceFailed i) = store.DeviceFailed i

abbrev pub answer_of_store : Result ℕ CheckpointFault → Result ℕ StoreFault
answer_of_store (Ok generation) = Ok generation
answer_of_store (Err fault) = Err (fault_of_store fault)

-- the store is offered the newest table, and answers so
abbrev pub Checkpoints : Managed → Taken → Result ℕ CheckpointFault → Taken → Type 0
Checkpoints m old answer new = Appends (newest_stable m) old (answer_of_store answer) new
