-- The round trip of payloads.
use Rattle.std.proofs.Common.{◌≡◌, ℕ, Bool, List, [], ◌∷◌, length, map, Ok, refl, sym, ap, ◌∙◌, arith}
use Rattle.std.proofs.lemmas.Bool.{ltb-false, le-ltb}
use Rattle.std.proofs.lemmas.List.{length-map}
use Rattle.values.specs.declared.value.ColumnType.{ColumnType}
use Rattle.values.specs.declared.value.ColumnType.TheVariants as column
use Rattle.values.specs.declared.value.Value.{Value}
use Rattle.values.specs.declared.value.Value.TheVariants.{Int, Text, Bool as Truth}
use Rattle.blocks.specs.Column.{AllFit}
use Rattle.blocks.specs.Payload.{AreBytes, byte_count, packed, is_true, payload_of}
use Rattle.blocks.specs.Reading.{truths_of, reading_of}
use Rattle.blocks.specs.Laws.{IsPayload, APayloadReadsBack, WhatReadsIsAPayload, APayloadIsOfOneList}
use Rattle.blocks.proofs.BitsLemmas.{length-packed, length-truths, packed-truths, truths-packed, unused-packed}
use Rattle.blocks.proofs.IntsLemmas.{guard_ok, ok_is, ints_take, ints_again}
use Rattle.blocks.proofs.TextsLemmas.{texts_take, texts_again}
use Rattle.blocks.proofs.FitLemmas.{bits_fit}
use Rattle.std.proofs.lemmas.Grind.{common_steps}

-- ---- truths

map-is_true : (bs : List Bool) → map is_true (map Truth bs) ≡ bs
map-is_true [] = refl
map-is_true (b ∷ bs) = ap (λ others. b ∷ others) (map-is_true bs)

pub map-Truth : (values : List Value) → AllFit column.Bool values → map Truth (map is_true values) ≡ values
map-Truth [] fit = refl
map-Truth (Truth b ∷ values) fit = ap (λ others. Truth b ∷ others) (map-Truth values fit.1)
map-Truth (Int x ∷ values) fit = absurd fit.0
map-Truth (Text t ∷ values) fit = absurd fit.0

-- what was read is truths, and bytes are these, packed
truths_take : (count : ℕ) (bytes : List ℕ) (values : List Value) → AreBytes bytes → truths_of count bytes ≡ Ok values
    → IsPayload column.Bool count bytes values
unfolding truths_of
truths_take count bytes values small e =
    grind (arith, common_steps, guard_ok, ltb-false, length-map, length-truths, bits_fit, map-is_true, packed-truths, ok_is)

-- packed truths are read as these truths
truths_again : (values : List Value) → AllFit column.Bool values
    → truths_of (length values) (packed (byte_count (length values)) (map is_true values)) ≡ Ok values
unfolding truths_of
truths_again values fit = grind (arith, common_steps, length-map, le-ltb, length-packed, unused-packed, truths-packed, map-Truth)

-- the payload of truths is these, packed
pub payload-truths : (bs : List Bool) → payload_of column.Bool (map Truth bs) ≡ packed (byte_count (length bs)) bs
payload-truths bs = grind (arith, common_steps, length-map, map-is_true)

-- ---- the laws

-- the payload of values reads back as them
pub reads_back : APayloadReadsBack
reads_back column.Int values fit = ints_again 0 values fit
reads_back column.Text values fit = texts_again 0 0 values fit
reads_back column.Bool values fit = truths_again values fit

-- bytes that read as values are their payload
pub is_payload : WhatReadsIsAPayload
is_payload column.Int count bytes values small e =
    let taken = ints_take 0 count bytes values small e in
    record { counted = taken.0; fit = taken.1; spelt = taken.2 }
is_payload column.Text count bytes values small e =
    let taken = texts_take 0 0 count bytes values small e in
    record { counted = taken.0; fit = taken.1; spelt = taken.2 }
is_payload column.Bool count bytes values small e = truths_take count bytes values small e

-- the payload of values reads as these values
pub payload_reads : (ty : ColumnType) (count : ℕ) (bytes : List ℕ) (values : List Value) → IsPayload ty count bytes values
    → reading_of ty count bytes ≡ Ok values
payload_reads ty count bytes values p =
    ap (λ n. reading_of ty n bytes) (sym p.counted) ∙ ap (reading_of ty (length values)) p.spelt ∙ reads_back ty values p.fit

pub of_one_list : APayloadIsOfOneList
of_one_list ty count bytes values others p q =
    ok_is values others (sym (payload_reads ty count bytes values p) ∙ payload_reads ty count bytes others q)
