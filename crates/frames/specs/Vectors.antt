-- Columns written out byte by byte, the first of them in format 1.
use Rattle.std.specs.Prelude.{ℕ, List, [], ◌∷◌, ◌++◌}

-- ten, twenty and thirty, generation 1, with a clean end
abbrev pub ID_COLUMN : List ℕ
ID_COLUMN =
    0x48 ∷ 0x01 ∷ 0x01 ∷ []
    ++ (0x42 ∷ 0 ∷ 0 ∷ 0 ∷ 1 ∷ 0 ∷ 0 ∷ 0 ∷ 0 ∷ 0x01 ∷ 0 ∷ 3 ∷ 0 ∷ 0 ∷ 0 ∷ 0x18 ∷ [])
    ++ (0 ∷ 0 ∷ 0 ∷ 0 ∷ 0 ∷ 0 ∷ 0 ∷ 0x0a ∷ 0 ∷ 0 ∷ 0 ∷ 0 ∷ 0 ∷ 0 ∷ 0 ∷ 0x14 ∷ 0 ∷ 0 ∷ 0 ∷ 0 ∷ 0 ∷ 0 ∷ 0 ∷ 0x1e ∷ [])
    ++ (0x45 ∷ [])

-- Ann, Bob and Cid
abbrev pub NAME_COLUMN : List ℕ
NAME_COLUMN =
    0x48 ∷ 0x01 ∷ 0x02 ∷ []
    ++ (0x42 ∷ 0 ∷ 0 ∷ 0 ∷ 1 ∷ 0 ∷ 0 ∷ 0 ∷ 0 ∷ 0x01 ∷ 0 ∷ 3 ∷ 0 ∷ 0 ∷ 0 ∷ 0x0f ∷ [])
    ++ (0 ∷ 3 ∷ 0x41 ∷ 0x6e ∷ 0x6e ∷ 0 ∷ 3 ∷ 0x42 ∷ 0x6f ∷ 0x62 ∷ 0 ∷ 3 ∷ 0x43 ∷ 0x69 ∷ 0x64 ∷ [])
    ++ (0x45 ∷ [])

-- no number
abbrev pub EMPTY_COLUMN : List ℕ
EMPTY_COLUMN =
    0x48 ∷ 0x01 ∷ 0x01 ∷ []
    ++ (0x42 ∷ 0 ∷ 0 ∷ 0 ∷ 1 ∷ 0 ∷ 0 ∷ 0 ∷ 0 ∷ 0x01 ∷ 0 ∷ 0 ∷ 0 ∷ 0 ∷ 0 ∷ 0 ∷ [])
    ++ (0x45 ∷ [])

-- the header of numbers
abbrev pub INT_HEADER : List ℕ
INT_HEADER = 0x48 ∷ 0x01 ∷ 0x01 ∷ []

-- a block of the one number ten, generation 1
abbrev pub TEN_BLOCK : List ℕ
TEN_BLOCK = 0x42 ∷ 0 ∷ 0 ∷ 0 ∷ 1 ∷ 0 ∷ 0 ∷ 0 ∷ 0 ∷ 0x01 ∷ 0 ∷ 1 ∷ 0 ∷ 0 ∷ 0 ∷ 8 ∷ 0 ∷ 0 ∷ 0 ∷ 0 ∷ 0 ∷ 0 ∷ 0 ∷ 0x0a ∷ []

-- ten, generation 1, with a clean end
abbrev pub ONE_ROW_COLUMN : List ℕ
ONE_ROW_COLUMN = INT_HEADER ++ TEN_BLOCK ++ 0x45 ∷ []

-- ---- format 2

-- the header of numbers, and of truths
abbrev pub INT_HEADER_2 : List ℕ
INT_HEADER_2 = 0x48 ∷ 0x02 ∷ 0x01 ∷ []

abbrev pub TRUTH_HEADER_2 : List ℕ
TRUTH_HEADER_2 = 0x48 ∷ 0x02 ∷ 0x03 ∷ []

-- a block of the one number ten under a generation, plain
abbrev pub TEN_BLOCK_2 : ℕ → List ℕ
TEN_BLOCK_2 generation =
    0x42 ∷ 0 ∷ 0 ∷ 0 ∷ generation ∷ 0 ∷ 0 ∷ 0 ∷ 0 ∷ 0x01 ∷ 0 ∷ 1 ∷ 0 ∷ 0 ∷ 0 ∷ 9 ∷ 0x00 ∷ 0 ∷ 0 ∷ 0 ∷ 0 ∷ 0 ∷ 0 ∷ 0 ∷ 0x0a ∷ []

-- ten, generation 1, with a clean end
abbrev pub ONE_ROW_COLUMN_2 : List ℕ
ONE_ROW_COLUMN_2 = INT_HEADER_2 ++ TEN_BLOCK_2 1 ++ 0x45 ∷ []

-- three times seven, constant
abbrev pub SEVENS_COLUMN_2 : List ℕ
SEVENS_COLUMN_2 =
    INT_HEADER_2
    ++ (0x42 ∷ 0 ∷ 0 ∷ 0 ∷ 1 ∷ 0 ∷ 0 ∷ 0 ∷ 0 ∷ 0x01 ∷ 0 ∷ 3 ∷ 0 ∷ 0 ∷ 0 ∷ 9 ∷ 0x01 ∷ 0 ∷ 0 ∷ 0 ∷ 0 ∷ 0 ∷ 0 ∷ 0 ∷ 0x07 ∷ [])
    ++ (0x45 ∷ [])

-- three times true, constant
abbrev pub TRUTHS_COLUMN_2 : List ℕ
TRUTHS_COLUMN_2 =
    TRUTH_HEADER_2
    ++ (0x42 ∷ 0 ∷ 0 ∷ 0 ∷ 1 ∷ 0 ∷ 0 ∷ 0 ∷ 0 ∷ 0x01 ∷ 0 ∷ 3 ∷ 0 ∷ 0 ∷ 0 ∷ 2 ∷ 0x01 ∷ 0x80 ∷ [])
    ++ (0x45 ∷ [])
