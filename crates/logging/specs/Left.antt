-- What a crash leaves of the bytes that a device was handed.
use Rattle.std.specs.Prelude.{◌≡◌, ◌≢◌, ◌≤◌, ℕ, ◌+◌, false, None, List, [], ◌++◌, length, take}
use Rattle.journal.specs.Crash.{bytes_after, whole_in}
use Rattle.journal.specs.Frame.{Logged}
use Rattle.journal.specs.Reading.{frame_at, has_witness}

-- a device that was handed these bytes, of which so many are safe, may have these after a crash: those that are safe, maybe more
-- of them, and then maybe others
pub record MayLeave (appended : List ℕ) (safe : ℕ) (bytes : List ℕ) : Type 0 where
  pub size : ℕ
  pub other : List ℕ
  pub kept : safe ≤ size
  pub within : size ≤ length appended
  pub spelt : bytes ≡ take size appended ++ other

-- the premise on checks: other bytes are no frame by chance, and no head by chance tells of a frame that never was safe
pub record IsNoChance (seed next : ℕ) (logged : List Logged) (size : ℕ) (other bytes : List ℕ) : Type 0 where
  pub torn : other ≢ [] → frame_at seed (bytes_after seed size logged bytes) ≡ None
  pub silent : has_witness seed (next + whole_in seed size logged) (bytes_after seed size logged bytes) ≡ false
