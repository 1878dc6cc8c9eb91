-- What a store answers, by the generation of its next image.
use Rattle.std.proofs.Common.{◌≡◌, ℕ, Ok, Err, sym, ap, subst}
use Rattle.stable.specs.Stable.{Stable}
use Rattle.devices.specs.Appending.{Appends, Taken}
use Rattle.devices.specs.declared.fault.StoreFault.{StoreFault}
use Rattle.manager.specs.Checkpoint.{fault_of_store}
use Rattle.manager.specs.declared.fault.CheckpointFault.{CheckpointFault}
use Rattle.manager.specs.declared.fault.CheckpointFault.TheVariants.{StoreFailed, GenerationsSpent, NoMemory, DeviceFailed}
use Rattle.shared.specs.Generations.{IsAnswered}

pub taken_answers : (t : Stable) (old new : Taken) (generation : ℕ) → Appends t old (Ok generation) new
    → IsAnswered old.next (Ok generation) new.next
taken_answers t old new generation a = (a.0.left, a.1, ap (λ (s : Taken). s.next) a.2)

fault_answers : (t : Stable) (old new : Taken) (fault : CheckpointFault) → Appends t old (Err (fault_of_store fault)) new
    → IsAnswered old.next (Err fault) new.next
fault_answers t old new StoreFailed a = ap (λ (s : Taken). s.next) a.1
fault_answers t old new GenerationsSpent a = (a.1, ap (λ (s : Taken). s.next) a.2)
fault_answers t old new NoMemory a = (a.0.left, ap (λ (s : Taken). s.next) a.1)
fault_answers t old new (DeviceFailed i) a = (a.0.left, a.1.next)

pub refused_answers : (t : Stable) (old new : Taken) (store : StoreFault) (fault : CheckpointFault) → fault_of_store fault ≡ store →
    Appends t old (Err store) new → IsAnswered old.next (Err fault) new.next
refused_answers t old new store fault same a =
    fault_answers t old new fault (subst (λ (f : StoreFault). Appends t old (Err f) new) (sym same) a)
