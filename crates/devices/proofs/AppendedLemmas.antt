-- Columns side by side: the image that they store once they have taken the pieces of another.
use Rattle.std.proofs.Common.{◌≡◌, ℕ, zero, suc, ◌+◌, ◌<◌, true, false, Option, Some, None, List, [], ◌∷◌, ◌++◌, length, take, get_or, map, Result, Ok, refl, sym, ap, subst, ◌∙◌, arith}
use Rattle.std.specs.List.{AllByRecursion, list_all, range_with_len}
use Rattle.std.proofs.lemmas.Bool.{and_from, and_parts, eq-eqb}
use Rattle.std.proofs.lemmas.List.{length-map}
use Rattle.std.proofs.lemmas.List.Sums.{list_all-from_AllPass}
use Rattle.std.proofs.lemmas.Simd.{map-map}
use Rattle.std.proofs.lemmas.Slice.Zip.{AllZip-long}
use Rattle.values.specs.Shape.{Columns, IsSchema}
use Rattle.values.specs.declared.row.Row.{Row}
use Rattle.values.specs.declared.value.ColumnType.{ColumnType}
use Rattle.values.specs.declared.value.Value.{Value}
use Rattle.blocks.specs.Column.{Column}
use Rattle.stable.specs.Rows.{column_at, first_columns, row_count}
use Rattle.stable.specs.Stable.{IsStable, Stable}
use Rattle.stable.proofs.CallerLemmas.{all_even, all_rows, all_stable, all_typed, no_build_fault, whole}
use Rattle.frames.specs.declared.fault.ReadFault.{ReadFault}
use Rattle.frames.specs.declared.frame.Part.{Part}
use Rattle.frames.specs.Column.{column_bytes}
use Rattle.frames.specs.Reading.{◌>>=◌, frames_of, parts_after}
use Rattle.devices.specs.Image.{AllBlocks, image_frames, pieces_of}
use Rattle.devices.specs.Ready.{AreReady, IsReadyColumn}
use Rattle.devices.specs.Store.{StopsAt, appended}
use Rattle.devices.specs.Stored.{Image, StaysOrIs, all_parts, are_even, columns_in, image_at, image_of, is_whole, newest_whole, stored_image, values_in}
use Rattle.devices.proofs.GenerationsLemmas.{Grown, IsGrown, all_of, columns_in-front, front_of, newest_whole-all, newest_whole-below, newest_whole-part, is_whole-more, values_in-more}
use Rattle.devices.proofs.ReadyLemmas.{Grows, IsHeld, grows_front, grows_none, grows_whole, ready_next}
use Rattle.std.proofs.lemmas.Grind.{common_steps}

abbrev pub type_of : Column → ColumnType
type_of c = c.ty

-- the piece of a column
abbrev pub piece_of : ℕ → Column → List ℕ
piece_of g c = column_bytes (image_frames g c)

-- ---- each column grows

abbrev GrowAll : ℕ → List Column → List (List ℕ) → List (List ℕ) → Type 0
GrowAll g [] [] [] = Unit {0}
GrowAll g [] [] (n ∷ news) = ⊥
GrowAll g [] (o ∷ olds) news = ⊥
GrowAll g (c ∷ cs) [] news = ⊥
GrowAll g (c ∷ cs) (o ∷ olds) [] = ⊥
GrowAll g (c ∷ cs) (o ∷ olds) (n ∷ news) = Grows g c o n × GrowAll g cs olds news

grow_none : (g : ℕ) (cs : List Column) (olds : List (List ℕ)) → AllByRecursion (IsHeld g) cs → AreReady g (map type_of cs) olds
    → GrowAll g cs olds olds
grow_none g [] [] held ready = tt
grow_none g [] (o ∷ olds) held ready = absurd ready
grow_none g (c ∷ cs) [] held ready = absurd ready
grow_none g (c ∷ cs) (o ∷ olds) held ready = (grows_none g c held.0 o ready.0, grow_none g cs olds held.1 ready.1)

-- whether each has all of its piece
abbrev EndAll : (g : ℕ) (cs : List Column) (olds news : List (List ℕ)) → GrowAll g cs olds news → Type 0
EndAll g [] olds news grow = Unit {0}
EndAll g (c ∷ cs) [] news grow = ⊥
EndAll g (c ∷ cs) (o ∷ olds) [] grow = ⊥
EndAll g (c ∷ cs) (o ∷ olds) (n ∷ news) grow = (is_whole g grow.0.column.more ≡ true) × EndAll g cs olds news grow.1

grow_whole : (g : ℕ) (cs : List Column) (olds : List (List ℕ)) → AllByRecursion (IsHeld g) cs → AreReady g (map type_of cs) olds
    → (grow : GrowAll g cs olds (appended olds (map (piece_of g) cs))) × EndAll g cs olds (appended olds (map (piece_of g) cs)) grow
grow_whole g [] [] held ready = (tt, tt)
grow_whole g [] (o ∷ olds) held ready = absurd ready
grow_whole g (c ∷ cs) [] held ready = absurd ready
grow_whole g (c ∷ cs) (o ∷ olds) held ready =
    let here = grows_whole g c held.0 o ready.0 in
    let there = grow_whole g cs olds held.1 ready.1 in
    ((here.0, there.0), (here.1, there.1))

-- up to a device that stops in its piece
grow_stopped : (g i n : ℕ) (cs : List Column) (olds : List (List ℕ)) → i < length cs → AllByRecursion (IsHeld g) cs
    → AreReady g (map type_of cs) olds
    → GrowAll g cs olds (appended olds (take i (map (piece_of g) cs) ++ take n (get_or (map (piece_of g) cs) i []) ∷ []))
grow_stopped g i n [] olds lt held ready = absurd (omega (arith, lt))
grow_stopped g i n (c ∷ cs) [] lt held ready = absurd ready
grow_stopped g zero n (c ∷ cs) (o ∷ olds) lt held ready = (grows_front g c held.0 o ready.0 n, grow_none g cs olds held.1 ready.1)
grow_stopped g (suc i) n (c ∷ cs) (o ∷ olds) lt held ready =
    ((grows_whole g c held.0 o ready.0).0, grow_stopped g i n cs olds (omega (arith, lt)) held.1 ready.1)

pub ready_all : (g : ℕ) (cs : List Column) (olds : List (List ℕ)) → AllByRecursion (IsHeld g) cs → AreReady g (map type_of cs) olds
    → AreReady (g + 1) (map type_of cs) (appended olds (map (piece_of g) cs))
ready_all g [] [] held ready = tt
ready_all g [] (o ∷ olds) held ready = absurd ready
ready_all g (c ∷ cs) [] held ready = absurd ready
ready_all g (c ∷ cs) (o ∷ olds) held ready = (ready_next g c held.0 o ready.0, ready_all g cs olds held.1 ready.1)

-- ---- what is read of them

pub record AreRead (g : ℕ) (cs : List Column) (olds news : List (List ℕ)) : Type 0 where
  pub columns : List Grown
  pub grown : AllByRecursion (IsGrown g) columns
  pub even : length columns ≡ length cs
  pub old_even : length olds ≡ length cs
  pub new_even : length news ≡ length cs
  pub old_read : (col : ℕ) → all_parts col (map type_of cs) olds ≡ Ok (map front_of columns)
  pub new_read : (col : ℕ) → all_parts col (map type_of cs) news ≡ Ok (map all_of columns)
  pub full : list_all (is_whole g) (map all_of columns) ≡ true → columns_in g (map type_of cs) (map all_of columns) ≡ cs

read_more :
    (col : ℕ) (ty : ColumnType) (types : List ColumnType) (bytes : List ℕ) (contents : List (List ℕ)) (parts : List Part)
    (others : List (List Part))
    → parts_after [] (frames_of col (Some ty) bytes) ≡ Ok parts → all_parts (suc col) types contents ≡ Ok others
    → all_parts col (ty ∷ types) (bytes ∷ contents) ≡ Ok (parts ∷ others)
read_more col ty types bytes contents parts others here there =
    ap (λ (r : Result (List Part) ReadFault). r >>= λ ps. (all_parts (suc col) types contents >>= λ os. Ok (ps ∷ os))) here
    ∙ ap (λ (r : Result (List (List Part)) ReadFault). r >>= λ os. Ok (parts ∷ os)) there

read_all : (g : ℕ) (cs : List Column) (olds news : List (List ℕ)) (grow : GrowAll g cs olds news)
    → (read : AreRead g cs olds news) × (EndAll g cs olds news grow → list_all (is_whole g) (map all_of read.columns) ≡ true)
read_all g [] [] [] grow =
    let none : AreRead g [] [] [] =
    record {
      columns = [];
      grown = tt;
      even = refl;
      old_even = refl;
      new_even = refl;
      old_read = λ col. refl;
      new_read = λ col. refl;
      full = λ h. refl;
    } in
    (none, λ ended. refl)
read_all g [] [] (n ∷ news) grow = absurd grow
read_all g [] (o ∷ olds) news grow = absurd grow
read_all g (c ∷ cs) [] news grow = absurd grow
read_all g (c ∷ cs) (o ∷ olds) [] grow = absurd grow
read_all g (c ∷ cs) (o ∷ olds) (n ∷ news) grow =
    let here = grow.0 in
    let rest = read_all g cs olds news grow.1 in
    let there = rest.0 in
    let column = here.column in
    let types = map type_of cs in (
      record {
        columns = column ∷ there.columns;
        grown = (here.grown, there.grown);
        even = omega (arith, there.even);
        old_even = omega (arith, there.old_even);
        new_even = omega (arith, there.new_even);
        old_read =
            λ col. read_more col c.ty types o olds column.front (map front_of there.columns) (here.old_read col) (there.old_read (suc col));
        new_read =
            λ col. read_more col c.ty types n news (all_of column) (map all_of there.columns) (here.new_read col)
            (there.new_read (suc col));
        full =
            λ whole.
            let both = and_parts (is_whole g (all_of column)) (list_all (is_whole g) (map all_of there.columns)) whole in
            let ended : is_whole g column.more ≡ true = sym (is_whole-more g column.front column.more here.grown.below) ∙ both.0 in
            let values : values_in g (all_of column) ≡ c.values =
            values_in-more g column.front column.more here.grown.below ∙ here.full ended in
            ap (λ (vs : List Value). record { ty = c.ty; values = vs } ∷ columns_in g (map type_of cs) (map all_of there.columns)) values
            ∙ ap (λ (columns : List Column). c ∷ columns) (there.full both.1);
      },
      λ ended.
          and_from (is_whole g (all_of column)) (list_all (is_whole g) (map all_of there.columns))
          (is_whole-more g column.front column.more here.grown.below ∙ ended.0) (rest.1 ended.1),
    )

-- ---- the image that they store

module _ (schema : Columns) (g : ℕ) (cs : List Column) (typed : map type_of cs ≡ schema.types) (olds news : List (List ℕ))
    (read : AreRead g cs olds news) where
  abbrev columns : List Grown
  columns = read.columns

  old_stored : stored_image schema olds ≡ image_at schema (map front_of columns) (newest_whole (map front_of columns))
  old_stored = grind (arith, common_steps)

  new_stored : stored_image schema news ≡ image_at schema (map all_of columns) (newest_whole (map all_of columns))
  new_stored = grind (arith, common_steps)

  front_image : (newest : Option ℕ) → ((h : ℕ) → newest ≡ Some h → h < g)
      → image_at schema (map all_of columns) newest ≡ image_at schema (map front_of columns) newest
  front_image None below = refl
  front_image (Some h) below =
      let lt = below h refl in
      ap (image_of schema h) (columns_in-front h g (λ e. omega (arith, e, lt)) schema.types columns read.grown)

  -- where a column lacks its end, the image is the one that was
  stays : list_all (is_whole g) (map all_of columns) ≡ false → stored_image schema news ≡ stored_image schema olds
  stays lacks =
      new_stored
      ∙ ap (image_at schema (map all_of columns)) (newest_whole-part g columns read.grown lacks)
      ∙ front_image (newest_whole (map front_of columns)) (newest_whole-below g columns read.grown)
      ∙ sym old_stored

-- ---- the columns of a table

all_even_is : (cs : List Column) → ((col : ℕ) (d : Column) → col < length cs → length (get_or cs col d).values ≡ row_count cs)
    → are_even cs ≡ true
all_even_is cs even = grind (arith, common_steps, list_all-from_AllPass, eq-eqb)

module _ (schema : Columns) (rows : List Row) (lawful : IsSchema schema) (stable : IsStable (record { schema = schema; rows = rows })) where
  abbrev pub table : Stable
  table = record { schema = schema; rows = rows }

  abbrev pub image : ℕ → Image
  image g = record { generation = g; table = table }

  abbrev pub columns_of : List Column
  columns_of = first_columns schema.types rows (length schema.types)

  pub columns_typed : map type_of columns_of ≡ schema.types
  columns_typed = grind (arith, common_steps, all_typed, whole)

  -- they give the table back
  image_again : (g : ℕ) → image_of schema g columns_of ≡ Ok (image g)
  image_again g = grind (arith, common_steps, whole, all_rows, no_build_fault, all_stable, all_even_is, all_even)

  module _ (g : ℕ) (olds news : List (List ℕ)) (read : AreRead g columns_of olds news) where
    abbrev grown : List Grown
    grown = read.columns

    -- where each column has its end, the image is that table
    becomes : list_all (is_whole g) (map all_of grown) ≡ true
        → stored_image schema news ≡ Ok (image g)
    becomes all =
        let even : length columns_of ≡ length schema.types = sym (length-map columns_of type_of) ∙ ap length columns_typed in
        let some : 0 < length grown = omega (arith, read.even, even, lawful.keyed, lawful.key_within) in
        new_stored schema g columns_of columns_typed olds news read
        ∙ ap (image_at schema (map all_of grown)) (newest_is grown read.grown all some)
        ∙ ap (image_of schema g) (subst (λ types. columns_in g types (map all_of grown) ≡ columns_of) columns_typed (read.full all))
        ∙ image_again g
      where
        newest_is : (cs : List Grown) → AllByRecursion (IsGrown g) cs → list_all (is_whole g) (map all_of cs) ≡ true → 0 < length cs
            → newest_whole (map all_of cs) ≡ Some g
        newest_is [] are has some = absurd (omega (arith, some))
        newest_is (c ∷ cs) are has some = newest_whole-all g c cs are has

    -- in any case it is that or the one that was
    either : StaysOrIs schema olds (image g) news
    either = grind (arith, common_steps, all_of, becomes, stays, columns_typed)

  -- ---- the pieces of a table

  module _ (g : ℕ) (small : g < 4294967296) (blocks : AllBlocks table) where
    pieces_are : pieces_of g table ≡ map (piece_of g) columns_of
    pieces_are = sym (map-map (piece_of g) (column_at schema.types rows) (range_with_len 0 (length schema.types)))

    held_from : (a m : ℕ) → a + m ≡ length schema.types → AllByRecursion (IsHeld g) (map (column_at schema.types rows) (range_with_len a m))
    held_from a zero all = tt
    held_from a (suc m) all = grind (arith, common_steps, held_from (a + 1) m (omega (arith, all)), length-map)

    held : AllByRecursion (IsHeld g) columns_of
    held = held_from 0 (length schema.types) (omega arith)

    module _ (olds : List (List ℕ)) (ready : AreReady g schema.types olds) where
      ready_here : AreReady g (map type_of columns_of) olds
      ready_here = subst (λ types. AreReady g types olds) (sym columns_typed) ready

      -- with all of them the store has the table's image, and the next may follow
      pub stored-appended : stored_image schema (appended olds (pieces_of g table)) ≡ Ok (image g)
      stored-appended =
          let news = appended olds (map (piece_of g) columns_of) in
          let grow = grow_whole g columns_of olds held ready_here in
          let read = read_all g columns_of olds news grow.0 in
          ap (λ pieces. stored_image schema (appended olds pieces)) pieces_are ∙ becomes g olds news read.0 (read.1 grow.1)

      pub ready-appended : AreReady (g + 1) schema.types (appended olds (pieces_of g table))
      ready-appended = grind (arith, common_steps, pieces_are, columns_typed, ready_all, held, ready_here)

      -- up to a device that stops the store has the image that it had, or the table's
      pub stored-stopped : (i : ℕ) (news : List (List ℕ)) → i < length olds
          → StopsAt i olds (pieces_of g table) news
          → StaysOrIs schema olds (image g) news
      stored-stopped i news lt stops =
          let n = stops.0 in
          let stopped = λ (pieces : List (List ℕ)). appended olds (take i pieces ++ take n (get_or pieces i []) ∷ []) in
          let even : length olds ≡ length schema.types = AllZip-long (IsReadyColumn g) schema.types olds ready in
          let few : i < length columns_of = omega (arith, lt, even, ap length columns_typed, length-map columns_of type_of) in
          let grow = grow_stopped g i n columns_of olds few held ready_here in
          let is : news ≡ stopped (map (piece_of g) columns_of) = stops.1 ∙ ap stopped pieces_are in
          let read = read_all g columns_of olds (stopped (map (piece_of g) columns_of)) grow in
          subst (λ xs. StaysOrIs schema olds (image g) xs) (sym is) (either g olds (stopped (map (piece_of g) columns_of)) read.0)

-- ---- devices that took a table's pieces

module _ (schema : Columns) (table : Stable) (g : ℕ) (olds news : List (List ℕ)) (same : table.schema ≡ schema)
    (lawful : IsSchema table.schema)
    (stable : IsStable table) (small : g < 4294967296) (blocks : AllBlocks table)
    (ready : AreReady g schema.types olds) where
  here : AreReady g table.schema.types olds
  here = subst (λ (s : Columns). AreReady g s.types olds) (sym same) ready

  pub stored_now : news ≡ appended olds (pieces_of g table) → stored_image schema news ≡ Ok (record { generation = g; table = table })
  stored_now took =
      let stored = stored-appended table.schema table.rows lawful stable g small blocks olds here in
      ap (stored_image schema) took
      ∙ subst
      (λ (s : Columns). stored_image s (appended olds (pieces_of g table)) ≡ Ok (record { generation = g; table = table }))
      same stored

  pub ready_now : news ≡ appended olds (pieces_of g table) → AreReady (g + 1) schema.types news
  ready_now took =
      subst (AreReady (g + 1) schema.types) (sym took)
      (subst (λ (s : Columns). AreReady (g + 1) s.types (appended olds (pieces_of g table))) same
      (ready-appended table.schema table.rows lawful stable g small blocks olds here))

  pub stays_or_is : (i : ℕ) → i < length olds → StopsAt i olds (pieces_of g table) news
      → StaysOrIs schema olds (record { generation = g; table = table }) news
  stays_or_is i lt stops =
      subst (λ (s : Columns). StaysOrIs s olds (record { generation = g; table = table }) news) same
      (stored-stopped table.schema table.rows lawful stable g small blocks olds here i news lt stops)
