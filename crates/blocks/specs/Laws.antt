-- The round trip of payloads, for every list of values and all bytes.
use Rattle.std.specs.Prelude.{◌≡◌, ℕ, List, length, Ok}
use Rattle.values.specs.declared.value.ColumnType.{ColumnType}
use Rattle.values.specs.declared.value.Value.{Value}
use Rattle.blocks.specs.Column.{AllFit}
use Rattle.blocks.specs.Payload.{AreBytes, payload_of}
use Rattle.blocks.specs.Reading.{reading_of}

-- the payload of values that fit the type reads as just these values
abbrev pub APayloadReadsBack : Type 0
APayloadReadsBack =
    (ty : ColumnType) (values : List Value) → AllFit ty values → reading_of ty (length values) (payload_of ty values) ≡ Ok values

-- bytes are the payload of these values of the type
pub record IsPayload (ty : ColumnType) (count : ℕ) (bytes : List ℕ) (values : List Value) : Type 0 where
  pub counted : length values ≡ count
  pub fit : AllFit ty values
  pub spelt : bytes ≡ payload_of ty values

-- bytes that read as values are their payload
abbrev pub WhatReadsIsAPayload : Type 0
WhatReadsIsAPayload =
    (ty : ColumnType) (count : ℕ) (bytes : List ℕ) (values : List Value) → AreBytes bytes → reading_of ty count bytes ≡ Ok values
    → IsPayload ty count bytes values

-- bytes are the payload of one list of so many values at most
abbrev pub APayloadIsOfOneList : Type 0
APayloadIsOfOneList =
    (ty : ColumnType) (count : ℕ) (bytes : List ℕ) (values others : List Value) → IsPayload ty count bytes values
    → IsPayload ty count bytes others → values ≡ others
