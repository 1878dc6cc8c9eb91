-- Truths that are put into C's room by their numbers, part by part.
use Rattle.std.proofs.Common.{◌≡◌, ◌∙◌, Bool, true, false, ℕ, ◌+◌, ◌<◌, ◌≤◌, List, [], ◌∷◌, ◌++◌, length, map, take, drop, get_or}
use Rattle.std.proofs.Common.{refl, sym, ap, arith}
use Rattle.std.specs.Prelude.{ℤ, cond, IsTrue, Option, Some, None, slice_get}
use Rattle.std.specs.List.{drop-map}
use Rattle.std.proofs.Math.Seq.{take-add}
use Rattle.std.proofs.lemmas.List.{drop-drop, get_or-map, length-append, length-drop, length-map, length-take}
use Rattle.std.proofs.lemmas.List.{take-take, take_at, take_more}
use Rattle.std.proofs.lemmas.Option.{get_or_from_slice_get, slice_get_within}
use Rattle.values.specs.Shape.{has_type}
use Rattle.values.specs.declared.row.Row.{Row}
use Rattle.values.specs.declared.value.ColumnType.{ColumnType}
use Rattle.values.specs.declared.value.ColumnType.TheVariants as column
use Rattle.values.specs.declared.value.Value.{Value}
use Rattle.values.specs.declared.value.Value.TheVariants.{Int, Text, Bool as Truth}
use Rattle.stable.specs.Rows.{column_values}
use Rattle.merge.specs.Packed.{AreNumbersOf, number_of}
use Rattle.merge.specs.Runs.{run_values}
use Rattle.merge.specs.declared.run.TruthRun.{TruthRun}
use Rattle.merge.specs.declared.run.Run.TheVariants.{Truths}
use Rattle.pdt_c.specs.Truths.{LieTogether, byte_of, is_truth, truths_of}

-- a column of truths is there
pub truths_there : (types : List ColumnType) (col : ℕ) → is_truth (slice_get types col) ≡ true
    → (col < length types) × (get_or types col column.Int ≡ column.Bool)
truths_there types col is = by (slice_get types col) refl is
  where
    by : (found : Option ColumnType) → slice_get types col ≡ found → is_truth found ≡ true
        → (col < length types) × (get_or types col column.Int ≡ column.Bool)
    by (Some column.Bool) e h = (slice_get_within types col column.Bool e, get_or_from_slice_get types col column.Bool column.Int e)
    by (Some column.Int) e h = cc h
    by (Some column.Text) e h = cc h
    by None e h = cc h

truth_is : (v : Value) → IsTrue (has_type column.Bool v) → (truth : Bool) × (v ≡ Truth truth)
truth_is (Truth b) h = (b, refl)
truth_is (Int n) h = cc h
truth_is (Text t) h = cc h

-- one byte more of truths, by their numbers
pub bytes_more : (truths : List Value) (numbers : List ℤ) (i byte : ℕ) (d : ℤ) → AreNumbersOf column.Bool truths numbers
    → i < length numbers
    → ((truth : Bool) → get_or numbers i d ≡ number_of (Truth truth) → byte ≡ byte_of (Truth truth))
    → take (i + 1) (truths_of truths) ≡ take i (truths_of truths) ++ byte ∷ []
bytes_more truths numbers i byte d are lt told =
    take_more (truths_of truths) i 0 (omega (arith, within, length-map truths byte_of))
    ∙ ap (λ b. take i (truths_of truths) ++ b ∷ []) (get_or-map byte_of truths i (Truth false) 0 within ∙ ap byte_of is.1 ∙ sym own)
  where
    within : i < length truths
    within = omega (arith, lt, ap (λ (ns : List ℤ). length ns) are.numbers_are, length-map truths number_of)

    is : (truth : Bool) × (get_or truths i (Truth false) ≡ Truth truth)
    is = truth_is (get_or truths i (Truth false)) (are.typed i (Truth false) within)

    own : byte ≡ byte_of (Truth is.0)
    own =
        told is.0
        (ap (λ (ns : List ℤ). get_or ns i d) are.numbers_are ∙ get_or-map number_of truths i (Truth false) d within ∙ ap number_of is.1)

-- a part more of the truths of a column from a position on
pub truths_more : (col from done more : ℕ) (rows : List Row)
    → take (done + more) (truths_of (column_values col (drop from rows)))
    ≡ take done (truths_of (column_values col (drop from rows))) ++ take more (truths_of (column_values col (drop (from + done) rows)))
truths_more col from done more rows =
    take-add done more (truths_of (column_values col (drop from rows)))
    ∙ ap (λ (bs : List ℕ). take done (truths_of (column_values col (drop from rows))) ++ take more bs)
    (drop-map byte_of done (column_values col (drop from rows))
    ∙ ap truths_of (drop-map (λ (row : Row). get_or row col (Truth false)) done (drop from rows))
    ∙ ap (λ (rs : List Row). truths_of (column_values col rs)) (drop-drop done from rows))

-- the bytes of truths
pub bytes_of_truths : (truths : List Bool) → truths_of (map Truth truths) ≡ map (λ truth. cond truth 1 0) truths
bytes_of_truths [] = refl
bytes_of_truths (true ∷ truths) = ap (λ (bs : List ℕ). 1 ∷ bs) (bytes_of_truths truths)
bytes_of_truths (false ∷ truths) = ap (λ (bs : List ℕ). 0 ∷ bs) (bytes_of_truths truths)

-- the first run of the cells up to a place
pub lie_together : (run : TruthRun) (most : ℕ) (cells rest : List Value) → take most cells ≡ run_values (Truths run) ++ rest
    → 0 < length (run_values (Truths run)) → run.first + run.count ≤ length run.truths.now → LieTogether run most cells
lie_together run most cells rest is some within =
    let own = run_values (Truths run) in
    let bits = drop run.first run.truths.now in
    let counted : length own ≡ run.count =
    omega (arith, within, length-map (take run.count bits) Truth, length-take run.count bits, length-drop run.first run.truths.now) in
    let all = ap (λ (vs : List Value). length vs) is in
    let few : run.count ≤ most = omega (arith, all, counted, length-append own rest, length-take most cells) in
    record {
      some = omega (arith, some, counted);
      few = few;
      within = within;
      same =
          sym (take-take run.count most cells few)
          ∙ ap (take run.count) is
          ∙ take_at own rest run.count counted;
    }
