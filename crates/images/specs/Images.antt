-- The marks of a store, and what a mark does to them.
use Rattle.std.specs.Prelude.{◌≡◌, ◌⊎◌, ℕ, ◌+◌, ◌<◌}
use Rattle.journal.specs.Frame.{frame_bytes}
use Rattle.logging.specs.Log.{FailsOver, Log, with_safe}
use Rattle.logging.specs.declared.fault.LogFault.{LogFault}
use Rattle.logging.specs.declared.fault.LogFault.TheVariants.{NoMemory, DeviceFailed}
use Rattle.images.specs.declared.mark.ImageMark.{ImageMark}
use Rattle.images.specs.Mark.{marked_at}

-- the log on the device, and the number of the next frame
pub record Images : Type 0 where
  pub log : Log
  pub next : ℕ

-- with a mark more, which is safe
abbrev pub with_mark : ImageMark → Images → Images
with_mark mark i = record { log = with_safe (frame_bytes i.log.seed (marked_at i.next mark)) i.log; next = i.next + 1 }

-- a mark wasn't taken: nothing has changed where memory was refused; else the device had failed before, or has failed over it
abbrev pub IsUnmarked : LogFault → ImageMark → Images → Images → Type 0
IsUnmarked NoMemory mark old new = new ≡ old
IsUnmarked DeviceFailed mark old new =
    (new.next ≡ old.next) × (new.log.seed ≡ old.log.seed)
    × (((new ≡ old) × (0 < old.log.device.failures))
    ⊎ FailsOver (frame_bytes old.log.seed (marked_at old.next mark)) old.log.device new.log.device)
