use Rattle.std.proofs.Common.{◌≡◌, ◌∙◌, ◌⊎◌, inl, inr, ◌+◌, ◌<◌, Bool, Option, Some, None, List, [], ◌∷◌, ◌++◌, append_assoc, length, map, drop, get_or, is_some, ℕ, sym, ap, subst, arith}
use Rattle.std.specs.Prelude.{IfSome}
use Rattle.std.proofs.lemmas.List.{map-append}
use Rattle.std.proofs.lemmas.Option.{slice_get-get_or}
use Rattle.values.specs.declared.value.ColumnType.{ColumnType}
use Rattle.values.specs.declared.value.ColumnType.TheVariants as column
use Rattle.merge.specs.Packed.{ColumnView, IsPackedColumn, is_fixed_width}
use Rattle.merge.proofs.CursorLemmas.{drop-at}
use Rattle.merge.proofs.PackedLemmas.{column_more}
use Rattle.merge.proofs.packed.Packed.of.Goals as goal

pub loop-ty-preserved : goal.loop-ty-preserved
loop-ty-preserved c =
    let types = c.args.schema.now.types in
    let i = c.loop-ty.ty-index in
    let before = c.loop-ty.columns.items in
    let made = c.in_ok-column.column in
    let rest : List Bool = map is_fixed_width (drop (i + 1) types) in
    let is = ap (λ (ts : List ColumnType). get_or ts i column.Int) c.types-ty-items.ensures in
    let there : i < length types = omega (arith, c.loop-ty-test.true, ap (λ (ts : List ColumnType). length ts) c.types-ty-items.ensures) in
    let left = drop-at types i (get_or types i column.Int) (slice_get-get_or types i column.Int there) in (
      ap (λ (cs : List (Option ColumnView)). map is_some cs ++ rest) c.in_ok-push.ensures.items
          ∙ ap (λ (bs : List Bool). bs ++ rest) (map-append is_some before (made ∷ []))
          ∙ append_assoc (map is_some before) (is_some made ∷ []) rest
          ∙ ap (λ (b : Bool). map is_some before ++ b ∷ rest) (c.in_ok-column.ensures.fixed ∙ ap is_fixed_width is)
          ∙ ap (λ (ts : List ColumnType). map is_some before ++ map is_fixed_width ts) (sym left)
          ∙ c.loop-ty.invariant.0,
      λ col x h.
          by col x
          (column_more before made col x
          (ap (λ (cs : List (Option ColumnView)). get_or cs col None) (sym c.in_ok-push.ensures.items) ∙ h)),
    )
  where
    by : (col : ℕ) (x : ColumnView)
        → (get_or c.loop-ty.columns.items col None ≡ Some x) ⊎ ((col ≡ length c.loop-ty.columns.items) × (c.in_ok-column.column ≡ Some x))
        → IsPackedColumn col c.args.tree.now.entries x
    by col x (inl old) = c.loop-ty.invariant.1 col x old
    by col x (inr new) =
        let many : c.len.result ≡ length c.loop-ty.columns.items = omega (arith, c.len.ensures, c.loop-ty.columns.ok.0) in
        subst (λ n. IsPackedColumn n c.args.tree.now.entries x) (many ∙ sym new.0)
        (subst (λ (o : Option ColumnView). IfSome o (IsPackedColumn c.len.result c.args.tree.now.entries)) new.1
        c.in_ok-column.ensures.packed)
