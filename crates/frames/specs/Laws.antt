-- A column and its bytes, for all frames and all bytes.
use Rattle.std.specs.Prelude.{◌≡◌, ℕ, Option, List, Ok}
use Rattle.values.specs.declared.value.ColumnType.{ColumnType}
use Rattle.blocks.specs.Payload.{AreBytes}
use Rattle.frames.specs.declared.frame.Frame.{Frame}
use Rattle.frames.specs.Column.{IsColumn}
use Rattle.frames.specs.Reading.{AreWanted, frames_of}

-- bytes are a column in one way at most
abbrev pub AColumnIsInOneWay : Type 0
AColumnIsInOneWay = (bytes : List ℕ) (frames others : List Frame) (rest left : List ℕ)
    → IsColumn bytes frames rest → IsColumn bytes others left → (frames ≡ others) × (rest ≡ left)

-- a column whose headers are of the type that is wanted reads as its frames
abbrev pub AColumnReadsBack : Type 0
AColumnReadsBack = (col : ℕ) (bytes : List ℕ) (frames : List Frame) (rest : List ℕ) (wanted : Option ColumnType)
    → IsColumn bytes frames rest → AreWanted wanted frames → frames_of col wanted bytes ≡ Ok frames

-- bytes that read as frames are a column of these, with a rest
abbrev pub WhatReadsIsAColumn : Type 0
WhatReadsIsAColumn = (col : ℕ) (wanted : Option ColumnType) (bytes : List ℕ) (frames : List Frame)
    → AreBytes bytes → frames_of col wanted bytes ≡ Ok frames → (rest : List ℕ) × IsColumn bytes frames rest
