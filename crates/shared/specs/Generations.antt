-- Which generation the sessions' store answers a checkpoint with.
use Rattle.std.specs.Prelude.{◌≡◌, ℕ, suc, ◌<◌, ◌≤◌, ◌^◌, Result, Ok, Err}
use Rattle.manager.specs.declared.fault.CheckpointFault.{CheckpointFault}
use Rattle.manager.specs.declared.fault.CheckpointFault.TheVariants.{StoreFailed, GenerationsSpent, NoMemory, DeviceFailed}

-- why a store of that next generation takes no image now
abbrev pub IsUnready : ℕ → CheckpointFault → Type 0
IsUnready next StoreFailed = Unit {0}
IsUnready next GenerationsSpent = 2 ^ 32 ≤ next
IsUnready next NoMemory = ⊥
IsUnready next (DeviceFailed i) = ⊥

-- an image is taken under the next generation, which is counted up; else the next generation is what it was, and is past the
-- last exactly where all are spent
abbrev pub IsAnswered : ℕ → Result ℕ CheckpointFault → ℕ → Type 0
IsAnswered old (Ok generation) new = (old < 2 ^ 32) × (generation ≡ old) × (new ≡ suc old)
IsAnswered old (Err StoreFailed) new = new ≡ old
IsAnswered old (Err GenerationsSpent) new = (2 ^ 32 ≤ old) × (new ≡ old)
IsAnswered old (Err NoMemory) new = (old < 2 ^ 32) × (new ≡ old)
IsAnswered old (Err (DeviceFailed i)) new = (old < 2 ^ 32) × (new ≡ old)
