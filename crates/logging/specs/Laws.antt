-- A device and what a crash leaves of it, for all frames and every crash.
use Rattle.std.specs.Prelude.{ℕ, ◌≤◌, List, [], ◌∷◌, ◌++◌, length, take}
use Rattle.journal.specs.Crash.{IsLeft}
use Rattle.journal.specs.Frame.{Logged, frame_bytes, journal_bytes}
use Rattle.logging.specs.Left.{IsNoChance, MayLeave}

-- frames that are safe, and any part of the next one: as in the middle of a call, or after one that failed
abbrev pub ADeviceLeavesAFrame : Type 0
ADeviceLeavesAFrame = (seed next : ℕ) (logged : List Logged) (l : Logged) (n safe : ℕ) (bytes : List ℕ)
    → length (journal_bytes seed logged) ≤ safe
    → (left : MayLeave (journal_bytes seed logged ++ take n (frame_bytes seed l)) safe bytes)
    → IsNoChance seed next (logged ++ l ∷ []) left.size left.other bytes
    → IsLeft seed next (logged ++ l ∷ []) (length logged) bytes

-- frames that are safe, and any part of a batch of others
abbrev pub ADeviceLeavesABatch : Type 0
ADeviceLeavesABatch = (seed next : ℕ) (logged batch : List Logged) (n safe : ℕ) (bytes : List ℕ)
    → length (journal_bytes seed logged) ≤ safe
    → (left : MayLeave (journal_bytes seed logged ++ take n (journal_bytes seed batch)) safe bytes)
    → IsNoChance seed next (logged ++ batch) left.size left.other bytes
    → IsLeft seed next (logged ++ batch) (length logged) bytes
