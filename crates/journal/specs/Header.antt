-- The header of a journal: its bytes, and what bytes say as one.
use Rattle.std.specs.Prelude.{◌≢◌, ℕ, ◌<◌, ◌^◌, ◌==◌, nat_lt, nat_le, if◌then◌else◌, Option, Some, None, Result, Ok, Err, List, [], ◌∷◌, ◌++◌, length, take, drop}
use Rattle.std.specs.Int.{w32, w64, to_be_bytes}
use Rattle.std.specs.Borrow.{Bor}
use Rattle.journal.specs.Check.{crc}
use Rattle.journal.specs.Reading.{long_at, word_at}
use Rattle.journal.specs.declared.fault.HeaderFault.{HeaderFault}
use Rattle.journal.specs.declared.fault.HeaderFault.TheVariants.{Empty, CutHeader, NoJournal, UnknownVersion, BadHeader, BadSeed, BadBase}

-- a salt, the name that was drawn for the store, and the number of the commit before the first frame
pub record HeaderFields : Type 0 where
  pub salt : ℕ
  pub store : ℕ
  pub base : ℕ

-- the register that a header's check begins with, and that the salt goes into
abbrev pub all_ones : ℕ
all_ones = 0xffffffff

-- the seed of a journal's frames: the register after its salt
unfoldable pub seed_of : ℕ → ℕ
seed_of salt = crc all_ones (to_be_bytes w64 salt)

-- fields that a header may have: with the seed 0 zeros would read as frames
pub record IsHeader (h : HeaderFields) : Type 0 where
  pub salt : h.salt < 2 ^ 64
  pub store : h.store < 2 ^ 64
  pub base : h.base < 2 ^ 63
  pub seed : seed_of h.salt ≢ 0

-- a header of these fields, where it may have them
unfoldable pub header_with : ℕ → ℕ → ℕ → Option HeaderFields
header_with salt store base =
    if seed_of salt == 0 then None
    else if nat_le (2 ^ 63) base then None
    else Some (record { salt = salt; store = store; base = base })

-- the 32 bytes in front: `NMJ1`, the version, and the fields, the highest byte of each first
abbrev pub front_bytes : HeaderFields → List ℕ
front_bytes h =
    (78 ∷ 77 ∷ 74 ∷ 49 ∷ [])
    ++ (to_be_bytes w32 1 ++ (to_be_bytes w64 h.salt ++ (to_be_bytes w64 h.store ++ to_be_bytes w64 h.base)))

-- those, and their check
abbrev pub header_bytes : HeaderFields → List ℕ
header_bytes h = front_bytes h ++ to_be_bytes w32 (crc all_ones (front_bytes h))

-- the header at the front of bytes, and the bytes after it; or the first fault
unfoldable pub header_in : List ℕ → Result (HeaderFields × List ℕ) HeaderFault
header_in bytes =
    if length bytes == 0 then Err Empty
    else if nat_lt (length bytes) 36 then Err CutHeader
    else if word_at bytes 0 == 0x4e4d4a31 then
    (if word_at bytes 4 == 1 then
    (if word_at bytes 32 == crc all_ones (take 32 bytes) then
    (if seed_of (long_at bytes 8) == 0 then Err BadSeed
    else if nat_le (2 ^ 63) (long_at bytes 24) then Err BadBase
    else Ok (record { salt = long_at bytes 8; store = long_at bytes 16; base = long_at bytes 24 }, drop 36 bytes))
    else Err BadHeader)
    else Err UnknownVersion)
    else Err NoJournal

-- what an answer says
abbrev pub header_now : Result (HeaderFields × Bor (List ℕ)) HeaderFault → Result (HeaderFields × List ℕ) HeaderFault
header_now (Ok found) = Ok (found.0, found.1.now)
header_now (Err fault) = Err fault
