-- The frames of one table among those of a journal, and where their payloads are in its bytes.
use Rattle.std.specs.Prelude.{◌≡◌, ◌<◌, ◌≤◌, ◌==◌, nat_lt, ℕ, ◌+◌, ◌-◌, ◌^◌, IfSome, Bool, true, cond, Option, Some, None, Result, Ok, Err, List, [], ◌∷◌, length, take, drop}
use Rattle.std.specs.BTreeMap.{BTreeMap, get}
use Rattle.std.specs.Ordering.{nat_cmp}
use Rattle.codec.specs.Tables.{is_among, tables_in}
use Rattle.codec.specs.declared.fault.PayloadFault.{PayloadFault}
use Rattle.journal.specs.Frame.{Logged}
use Rattle.journal.specs.Reading.{read_of}
use Rattle.journal.specs.declared.frame.Ending.{Ending}
use Rattle.replay.specs.declared.spots.Spot.{Spot}

-- whether a payload is of a table, by its tables: it has a part of the table, or can't be read as parts
abbrev pub is_of : ℕ → Result (List ℕ) PayloadFault → Bool
is_of table (Ok tables) = is_among table tables
is_of table (Err fault) = true

abbrev pub concerns : ℕ → List ℕ → Bool
concerns table payload = is_of table (tables_in payload)

-- the frames of a table
abbrev pub own_frames : ℕ → List Logged → List Logged
own_frames table [] = []
own_frames table (l ∷ logged) = cond (concerns table l.payload) (l ∷ own_frames table logged) (own_frames table logged)

-- ---- where they are

-- where the payload of a frame that begins at this offset is: a head has 28 bytes
abbrev pub spot_of : ℕ → Logged → Spot
spot_of at l = record { number = l.number; synced = l.synced; at = at + 28; len = length l.payload }

-- how many bytes frames have
abbrev pub size_of : List Logged → ℕ
size_of [] = 0
size_of (l ∷ logged) = 28 + length l.payload + size_of logged

-- the places of a table's frames, where the first of all begins at this offset
abbrev pub spots_in : ℕ → ℕ → List Logged → List Spot
spots_in table at [] = []
spots_in table at (l ∷ logged) =
    cond (concerns table l.payload) (spot_of at l ∷ spots_in table (at + 28 + length l.payload) logged)
    (spots_in table (at + 28 + length l.payload) logged)

-- the frame at a place of bytes
abbrev pub logged_at : List ℕ → Spot → Logged
logged_at bytes s = record { number = s.number; synced = s.synced; payload = take s.len (drop s.at bytes) }

-- the frames at places, those after a number alone
abbrev pub frames_after : List ℕ → ℕ → List Spot → List Logged
frames_after bytes number [] = []
frames_after bytes number (s ∷ spots) =
    cond (nat_lt number s.number) (logged_at bytes s ∷ frames_after bytes number spots) (frames_after bytes number spots)

-- whether places are within so many bytes
abbrev pub AreWithin : ℕ → List Spot → Type 0
AreWithin size [] = Unit {0}
AreWithin size (s ∷ spots) = (s.at + s.len ≤ size) × AreWithin size spots

-- ---- by table

-- what is kept at a key, or nothing
abbrev pub items_at : {V : Type 0} → (V → List Spot) → Option V → List Spot
items_at items None = []
items_at items (Some v) = items v

-- the places that are kept of a table
abbrev pub spots_at : {V : Type 0} → (V → List Spot) → BTreeMap ℕ V → ℕ → List Spot
spots_at items spots table = items_at items (get nat_cmp spots table)

-- a place, once for each time that a table is among others
abbrev pub entered : ℕ → Spot → List ℕ → List Spot
entered table s [] = []
entered table s (other ∷ tables) = cond (other == table) (s ∷ entered table s tables) (entered table s tables)

-- ---- all of a journal's frames

-- the bytes that were read as the frames behind a base
pub record Given : Type 0 where
  pub seed : ℕ
  pub base : ℕ
  pub bytes : List ℕ

-- what is kept of them: how many there are, why they end, how many bytes are whole, and where those of each table are
pub record IsKept {V : Type 0} (items : V → List Spot) (given : Given) (count : ℕ) (ending : Ending) (whole : ℕ)
    (spots : Option (BTreeMap ℕ V)) : Type 0 where
  pub small : given.base < 2 ^ 63
  pub few : count < 2 ^ 63
  pub count_is : count ≡ length (read_of given.seed (given.base + 1) given.bytes).logged
  pub ending_is : ending ≡ (read_of given.seed (given.base + 1) given.bytes).ending
  pub whole_is : whole ≡ length given.bytes - length (read_of given.seed (given.base + 1) given.bytes).rest
  pub spots_are :
      IfSome spots (λ s. (table : ℕ) → spots_at items s table
      ≡ spots_in table 0 (read_of given.seed (given.base + 1) given.bytes).logged)
