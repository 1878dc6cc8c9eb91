-- A journal on a device, and what a call leaves that logs bytes.
use Rattle.std.specs.Prelude.{◌≡◌, ℕ, ◌<◌, ◌≤◌, List, ◌++◌, length, take}
use Rattle.logging.specs.Device.{Device}
use Rattle.logging.specs.declared.fault.LogFault.{LogFault}
use Rattle.logging.specs.declared.fault.LogFault.TheVariants.{NoMemory, DeviceFailed}

-- a device, and the seed of the frames that it is handed
pub record Log : Type 0 where
  pub device : Device
  pub seed : ℕ

-- a log with these bytes at its end, all of its bytes safe
abbrev pub with_safe : List ℕ → Log → Log
with_safe bytes log =
    let appended = log.device.appended ++ bytes in
    record { device = record { appended = appended; safe = length appended; failures = log.device.failures }; seed = log.seed }

-- the device has failed over these bytes: it took some beginning of them, and lost nothing that was safe
pub record FailsOver (bytes : List ℕ) (old new : Device) : Type 0 where
  pub taken : ℕ
  pub appended : new.appended ≡ old.appended ++ take taken bytes
  pub safe : old.safe ≤ new.safe
  pub failures : old.failures < new.failures

-- bytes weren't logged: nothing has changed where memory was refused; else the device has failed over them
abbrev pub IsGivenUp : List ℕ → Log → LogFault → Log → Type 0
IsGivenUp bytes old NoMemory new = new ≡ old
IsGivenUp bytes old DeviceFailed new = FailsOver bytes old.device new.device × (new.seed ≡ old.seed)
