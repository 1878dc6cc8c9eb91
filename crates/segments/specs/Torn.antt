-- Whole frames in what is torn off a journal's end.
use Rattle.std.specs.Prelude.{◌≡◌, ◌≤◌, ℕ, ◌+◌, nat_lt, nat_le, Bool, true, false, ◌&&◌, Some, None, List, length, drop}
use Rattle.journal.specs.Reading.{Found, frame_at}

-- whether numbers are those of a frame that may be in so many bytes behind the newest commit that is taken: a later commit's, of which
-- a number that is far beyond is none, and the last commit before it that was durable
abbrev pub is_near : ℕ → ℕ → ℕ → ℕ → Bool
is_near newest len number synced = nat_lt newest number && (nat_le number (len + (newest + newest)) && nat_lt synced number)

-- whether what was found at the front of so many bytes is such a frame
abbrev pub is_later : ℕ → ℕ → Found → Bool
is_later newest len None = false
is_later newest len (Some found) = is_near newest len found.0.number found.0.synced

-- whether a whole frame of a later commit is at the front of bytes
unfoldable pub has_frame : ℕ → ℕ → List ℕ → Bool
has_frame seed newest bytes = is_later newest (length bytes) (frame_at seed bytes)

-- one begins behind their first byte
abbrev pub HasFrameBehind : ℕ → ℕ → List ℕ → Type 0
HasFrameBehind seed newest bytes = (at : ℕ) × (1 ≤ at) × (has_frame seed newest (drop at bytes) ≡ true)
