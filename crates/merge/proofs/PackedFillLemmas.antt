-- The numbers of a column under packed modifies, and of packed inserts.
use Rattle.std.proofs.Common.{◌≡◌, ◌∙◌, ℕ, zero, suc, ◌+◌, ◌-◌, ◌<◌, ◌≤◌, true, false, cond, T, Some, None, List, [], ◌∷◌, ◌++◌, length, map, take, drop, slice_get, get_or, refl, sym, ap, subst, arith}
use Rattle.std.specs.Prelude.{ℤ, ◌==◌, nat_lt, slice_set}
use Rattle.std.specs.List.{All, list_all}
use Rattle.std.proofs.lemmas.Bool.Decides.{nat_tests}
use Rattle.std.proofs.lemmas.List.{length-append, length-map, length-set, map-append, map-set, take-append-drop}
use Rattle.std.proofs.lemmas.List.Elements.{All-cons, All-get_or, All-head, All-same, All-tail, All-take}
use Rattle.std.proofs.Math.Seq.{get_or-append_seam, map-set_same}
use Rattle.values.specs.declared.row.Row.{Row}
use Rattle.values.specs.declared.value.ColumnType.{ColumnType}
use Rattle.values.specs.declared.value.Value.{Value}
use Rattle.values.specs.declared.value.Value.TheVariants.{Bool as Truth}
use Rattle.model.specs.declared.entry.Entry.{Entry}
use Rattle.model.specs.declared.entry.Change.{Change}
use Rattle.model.specs.declared.entry.Change.TheVariants.{Ins, Del, Mod}
use Rattle.model.specs.Entries.{entry_at, is_modify}
use Rattle.model.proofs.CallerLemmas.{first, second}
use Rattle.merge.specs.Cursor.{TreeCursor, IsCursor, entries_left, rows_left}
use Rattle.merge.specs.Filling.{FillsRows, IsWide, KeepsModified, modified_by, modified_rows, modifies_between, past_modifies, patched, patches_before, patches_from}
use Rattle.merge.specs.Packed.{number_at, number_of, patch_at, patches_in, rows_in, with_first}
use Rattle.merge.specs.PackedLeft.{HasPackedColumn, IsPackedRows, base_left, changes_left, count_before, count_passed, cursor_of, packed_left}
use Rattle.merge.specs.declared.packed.Patch.{Patch}
use Rattle.merge.specs.declared.packed_rows.PackedRows.{PackedRows}
use Rattle.merge.proofs.CursorLemmas.{drop-at}
use Rattle.merge.proofs.FillingLemmas.{are_wide}
use Rattle.merge.proofs.PackedLemmas.{rows_in-append}
use Rattle.merge.proofs.PackedStepLemmas.{between_of, modifies_past, patches_past}
use Rattle.merge.proofs.PackedWalkLemmas.{cursor_kept, passed}

get-set : (row : Row) (i j : ℕ) (v d : Value) → j < length row → get_or (slice_set row i v) j d ≡ cond (i == j) v (get_or row j d)
get-set [] i j v d lt = absurd (omega (arith, lt))
get-set (x ∷ row) zero zero v d lt = refl
get-set (x ∷ row) zero (suc j) v d lt = ap (λ b. cond b v (get_or row j d)) (sym (apart j))
  where
    apart : (j : ℕ) → (0 == suc j) ≡ false
    apart j = grind (arith, nat_tests)
get-set (x ∷ row) (suc i) zero v d lt = ap (λ b. cond b v x) (sym (apart i))
  where
    apart : (i : ℕ) → (suc i == 0) ≡ false
    apart i = grind (arith, nat_tests)
get-set (x ∷ row) (suc i) (suc j) v d lt =
    get-set row i j v d (omega (arith, lt)) ∙ ap (λ b. cond b v (get_or row j d)) (same i j)
  where
    same : (i j : ℕ) → (i == j) ≡ (suc i == suc j)
    same i j = grind (arith, nat_tests)

module _ (col first_sid : ℕ) where
  wide_set : (xs : List Row) (i other : ℕ) (v : Value) → All (IsWide col) xs
      → All (IsWide col) (slice_set xs i (slice_set (get_or xs i []) other v))
  wide_set [] zero other v h = h
  wide_set [] (suc i) other v h = h
  wide_set (x ∷ xs) zero other v h =
      let wide : col < length x = All-head (IsWide col) x xs h in
      let same = length-set x other v in
      All-cons (IsWide col) (slice_set x other v) xs (omega (arith, same, wide)) (All-tail (IsWide col) x xs h)
  wide_set (x ∷ xs) (suc i) other v h =
      All-cons (IsWide col) x (slice_set xs i (slice_set (get_or xs i []) other v)) (All-head (IsWide col) x xs h)
      (wide_set xs i other v (All-tail (IsWide col) x xs h))

  one_patch : (sid other : ℕ) (v : Value) (patches : List Patch) (xs : List Row) → All (IsWide col) xs → sid - first_sid < length xs
      → patched first_sid patches (map (number_at col) (modified_by first_sid sid (Mod other v) xs))
      ≡ patched first_sid (with_first (patch_at col sid (Mod other v)) patches) (map (number_at col) xs)
  one_patch sid other v patches xs wide lt =
      let i : ℕ = sid - first_sid in
      let row : Row = get_or xs i [] in
      let is_wide : col < length row = All-get_or (IsWide col) xs i [] lt wide in
      let set = get-set row other col v (Truth false) is_wide in
      ap (patched first_sid patches) (map-set (number_at col) xs i (slice_set row other v))
      ∙ (elim (other == col) as (λ b. (other == col) ≡ b
      → patched first_sid patches (slice_set (map (number_at col) xs) i (number_at col (slice_set row other v)))
      ≡ patched first_sid (with_first (cond b (Some (record { sid = sid; number = number_of v })) None) patches) (map (number_at col) xs)) [
        | true ↦ λ e.
            ap (λ n. patched first_sid patches (slice_set (map (number_at col) xs) i n))
            (ap number_of (set ∙ ap (λ b. cond b v (get_or row col (Truth false))) e))
        | false ↦ λ e.
            ap (patched first_sid patches)
            (sym (map-set (number_at col) xs i (slice_set row other v)) ∙ map-set_same (number_at col) xs i (slice_set row other v) []
            (ap number_of (set ∙ ap (λ b. cond b v (get_or row col (Truth false))) e)))
      ] refl)

  pub patched_rows : (es : List Entry) (xs : List Row) → All (IsWide col) xs
      → T (list_all (modifies_between first_sid (first_sid + length xs)) es)
      → map (number_at col) (modified_rows first_sid es xs) ≡ patched first_sid (patches_in col es) (map (number_at col) xs)
  patched_rows [] xs wide h = refl
  patched_rows (e ∷ es) xs wide h = by e.change refl (patched_rows es)
    where
      here : (first_sid ≤ e.sid) × (e.sid < first_sid + length xs) × T (is_modify e.change)
      here = between_of first_sid (first_sid + length xs) e (first (modifies_between first_sid (first_sid + length xs) e) _ h)

      by : (c : Change) → e.change ≡ c
          → ((ys : List Row) → All (IsWide col) ys → T (list_all (modifies_between first_sid (first_sid + length ys)) es)
          → map (number_at col) (modified_rows first_sid es ys) ≡ patched first_sid (patches_in col es) (map (number_at col) ys))
          → map (number_at col) (modified_rows first_sid es (modified_by first_sid e.sid e.change xs))
          ≡ patched first_sid (with_first (patch_at col e.sid e.change) (patches_in col es)) (map (number_at col) xs)
      by (Ins row) is more = absurd (subst (λ c. T (is_modify c)) is here.2)
      by (Del key) is more = absurd (subst (λ c. T (is_modify c)) is here.2)
      by (Mod other v) is more =
          let ys = modified_by first_sid e.sid (Mod other v) xs in
          let i : ℕ = e.sid - first_sid in
          let same : length ys ≡ length xs = length-set xs i (slice_set (get_or xs i []) other v) in
          ap (λ c. map (number_at col) (modified_rows first_sid es (modified_by first_sid e.sid c xs))) is
          ∙ more ys (wide_set xs i other v wide)
          (subst (λ n. T (list_all (modifies_between first_sid (first_sid + n)) es)) (sym same)
          (second (modifies_between first_sid (first_sid + length xs) e) _ h))
          ∙ one_patch e.sid other v (patches_in col es) xs wide (omega (arith, here.0, here.1))
          ∙ ap (λ c. patched first_sid (with_first (patch_at col e.sid c) (patches_in col es)) (map (number_at col) xs)) (sym is)

-- base rows with what a packed tree modifies of them
pub fills_patched : (col : ℕ) (c : TreeCursor) (most n m : ℕ) → KeepsModified most n m c → (base left : List Row) (numbers out : List ℤ)
    → IsCursor (length base) c → FillsRows col base numbers left → length numbers ≡ m → All (IsWide col) base
    → out ≡ patched c.sid (patches_in col (take n (entries_left c))) numbers
    → FillsRows col (rows_left c base) out (rows_left (past_modifies n m c) left) × IsCursor (length left) (past_modifies n m c)
fills_patched col c most n m kept base left numbers out cursor p many wide is =
    let count : length p.passed ≡ m = sym (length-map p.passed (number_at col)) ∙ ap (λ ns. length ns) (sym p.numbers_are) ∙ many in
    let sum : length base ≡ length p.passed + length left = ap (λ rs. length rs) p.rows ∙ length-append p.passed left in
    let over = subst (λ j. IsCursor j c) sum cursor in
    let all = subst (λ j. T (list_all (modifies_between c.sid (c.sid + j)) (take n (entries_left c)))) (sym count) kept.modifies in
    let first_wide = front_wide p.passed left (All-same (IsWide col) (p.passed ++ left) base (sym p.rows) wide) in (
      record {
        passed = modified_rows c.sid (take n (entries_left c)) p.passed;
        rows = ap (rows_left c) p.rows ∙ kept.rows p.passed left count over;
        numbers_are =
            is
            ∙ ap (patched c.sid (patches_in col (take n (entries_left c)))) p.numbers_are
            ∙ sym (patched_rows col c.sid (take n (entries_left c)) p.passed first_wide all);
      },
      kept.cursor (length left) (subst (λ j. IsCursor (j + length left) c) count over),
    )
  where
    front_wide : (xs ys : List Row) → All (IsWide col) (xs ++ ys) → All (IsWide col) xs
    front_wide xs ys h =
        All-same (IsWide col) xs (take (length xs) (xs ++ ys)) (sym (front xs)) (All-take (IsWide col) (length xs) (xs ++ ys) h)
      where
        front : (zs : List Row) → take (length zs) (zs ++ ys) ≡ zs
        front [] = refl
        front (z ∷ zs) = ap (λ ws. z ∷ ws) (front zs)

-- a packed walk past so many base rows, which were read and had the packed modifies put in
module _ (p : PackedRows) (ty : ColumnType) (col most m : ℕ) (lawful : IsPackedRows p) (column : HasPackedColumn ty col p)
    (kept : KeepsModified most (count_passed m (cursor_of p)) m (cursor_of p)) (left : List Row) (read out : List ℤ)
    (filled : FillsRows col (base_left p) read left) (many : length read ≡ m)
    (is : out ≡ patched p.sid (patches_before (p.sid + m) p.patches.now) read) where
  abbrev pub past : TreeCursor
  past = record { tree = p.tree.now; index = p.place + count_before (p.sid + m) (drop p.place p.tree.now.entries); sid = p.sid + m }

  both : FillsRows col (packed_left p) out (rows_left (passed p m lawful) left) × IsCursor (length left) (passed p m lawful)
  both =
      fills_patched col (cursor_of p) most (count_passed m (cursor_of p)) m kept (base_left p) left read out lawful.cursor filled many
      (are_wide ty col (base_left p) column.values)
      (is
      ∙ ap (λ (ps : List Patch). patched p.sid (patches_before (p.sid + m) ps) read) column.patches_are
      ∙ ap (λ (ps : List Patch). patched p.sid ps read)
      (patches_past p.tree.now.key_cols (p.sid + m) col (entries_left (cursor_of p)) lawful.cursor.over.ordered).0)

  pub filled_past : FillsRows col (packed_left p) out (rows_left past left)
  filled_past = subst (λ (x : TreeCursor). FillsRows col (packed_left p) out (rows_left x left)) (sym (cursor_kept p m lawful)) both.0

  pub cursor_past_rows : IsCursor (length left) past
  cursor_past_rows = subst (λ (x : TreeCursor). IsCursor (length left) x) (sym (cursor_kept p m lawful)) both.1

  pub changes_past_rows : p.changes.now ≡ changes_left past
  changes_past_rows =
      lawful.changes_are
      ∙ sym (modifies_past (cursor_of p) (count_passed m (cursor_of p)) m kept.modifies)
      ∙ ap changes_left (sym (cursor_kept p m lawful))

-- ---- inserts

-- a packed insert's number is that of its row
pub inserted_number : (col sid i : ℕ) (es : List Entry) (row : Row) (d : ℤ) → slice_get es i ≡ Some (entry_at sid (Ins row))
    → (length (rows_in (take i es)) < length (map (number_at col) (rows_in es)))
    × (get_or (map (number_at col) (rows_in es)) (length (rows_in (take i es))) d ≡ number_at col row)
inserted_number col sid i es row d is =
    let before = rows_in (take i es) in
    let rest = rows_in (drop (i + 1) es) in
    let whole : rows_in es ≡ before ++ row ∷ rest =
    ap rows_in (sym (take-append-drop i es) ∙ ap (λ xs. take i es ++ xs) (drop-at es i (entry_at sid (Ins row)) is))
    ∙ rows_in-append (take i es) (entry_at sid (Ins row) ∷ drop (i + 1) es) in
    let numbers : map (number_at col) (rows_in es) ≡ map (number_at col) before ++ number_at col row ∷ map (number_at col) rest =
    ap (map (number_at col)) whole ∙ map-append (number_at col) before (row ∷ rest) in
    let many = length-map before (number_at col) in (
      omega (
        arith,
        many,
        ap (λ ns. length ns) numbers,
        length-append (map (number_at col) before) (number_at col row ∷ map (number_at col) rest),
      ),
      ap (λ ns. get_or ns (length before) d) numbers
          ∙ ap (λ n. get_or (map (number_at col) before ++ number_at col row ∷ map (number_at col) rest) n d) (sym many)
          ∙ get_or-append_seam (map (number_at col) before) (number_at col row) (map (number_at col) rest) d,
    )

-- ---- no packed modify on the way

-- where none lies before a SID, all are left
pub none_passed : (s : ℕ) (ps : List Patch) → patches_before s ps ≡ [] → patches_from s ps ≡ ps
none_passed s [] e = refl
none_passed s (p ∷ ps) e =
    elim (nat_lt p.sid s) as (λ b. cond b (p ∷ patches_before s ps) [] ≡ [] → cond b (patches_from s ps) (p ∷ ps) ≡ p ∷ ps) [
      | true ↦ λ t. cc
      | false ↦ λ t. refl
    ] e

-- and none lies before a lower one
pub none_nearer : (a b : ℕ) (ps : List Patch) → a ≤ b → patches_before b ps ≡ [] → patches_before a ps ≡ []
none_nearer a b [] le e = refl
none_nearer a b (p ∷ ps) le e =
    elim (nat_lt p.sid b) as (λ x. nat_lt p.sid b ≡ x → cond x (p ∷ patches_before b ps) [] ≡ [] → patches_before a (p ∷ ps) ≡ []) [
      | true ↦ λ k t. cc
      | false ↦ λ k t. ap (λ x. cond x (p ∷ patches_before a ps) []) (lower p.sid k)
    ] refl e
  where
    lower : (n : ℕ) → nat_lt n b ≡ false → nat_lt n a ≡ false
    lower n k = grind (arith, le, nat_tests)
