use Rattle.std.proofs.Common.{◌≡◌, ◌∷◌, [], ◌++◌, List, append_assoc, length, sym, ap, subst, ◌∙◌, arith}
use Rattle.std.specs.List.{All}
use Rattle.values.specs.Lent.{value_of}
use Rattle.values.specs.declared.value.ColumnType.{ColumnType}
use Rattle.values.specs.declared.value.Value.{Value}
use Rattle.stable.specs.Rows.{column_values}
use Rattle.merge.specs.Fitting.{StandsAt}
use Rattle.merge.specs.ColumnStretches.{PassesColumn}
use Rattle.merge.specs.Runs.{range_values, run_values, IsRun}
use Rattle.merge.specs.Stretches.{stretch_rows}
use Rattle.merge.specs.declared.column_stretch.ColumnStretch.{ColumnStretch}
use Rattle.merge.specs.declared.stretch.Stretch.TheVariants.{Stable as Together}
use Rattle.merge.proofs.ColumnStretchLemmas.{one_value, same_stand, same_values, value_typed}
use Rattle.merge.proofs.RunLemmas.{values_next, nothing_left}
use Rattle.merge.proofs.TableLemmas.{left_stand, right_stand}
use Rattle.merge.proofs.runs.ColumnRunsIterator.next.Goals as goal

pub invariant_of-self-in-Value : goal.invariant_of-self-in-Value
invariant_of-self-in-Value c =
    let inside = c.self.inside in
    let rest = c.next_of_column.new.self in
    let own = subst (λ (p : ColumnStretch). PassesColumn inside.col inside.stretches p rest) c.in-Value.is c.in_ok-value.ensures in (
      c.self.invariant.0,
      right_stand inside.range.column.now.ty inside.col own.passed rest inside.stretches own.rows c.self.invariant.1,
    )

pub of_stretch-range-requires-clause-stand : goal.of_stretch-range-requires-clause-stand
of_stretch-range-requires-clause-stand c =
    let inside = c.self.inside in
    let ty = inside.range.column.now.ty in
    let rest = c.next_of_column.new.self in
    let own = subst (λ (p : ColumnStretch). PassesColumn inside.col inside.stretches p rest) c.in-Stable.is c.in_ok-value.ensures in (
      ty,
      same_stand ty inside.col own.passed (stretch_rows (Together c.in-Stable.stretch)) own.cells
          (left_stand ty inside.col own.passed rest inside.stretches own.rows c.self.invariant.1),
    )

pub invariant_of-self-in-Stable : goal.invariant_of-self-in-Stable
invariant_of-self-in-Stable c =
    let inside = c.self.inside in
    let ty = inside.range.column.now.ty in
    let rest = c.next_of_column.new.self in
    let own = subst (λ (p : ColumnStretch). PassesColumn inside.col inside.stretches p rest) c.in-Stable.is c.in_ok-value.ensures in
    let stand =
    same_stand ty inside.col own.passed (stretch_rows (Together c.in-Stable.stretch)) own.cells
    (left_stand ty inside.col own.passed rest inside.stretches own.rows c.self.invariant.1) in
    let typed = c.of_stretch-range.ensures.typed ty stand in
    let same : c.next_run-run.new.self.column.now.ty ≡ ty = ap (λ x. x.now.ty) c.next_run-run.ensures.column ∙ typed in (
      omega (arith, c.next_run-run.ensures.within, ap (λ x. length x.now.values) c.next_run-run.ensures.column),
      subst (λ (t : ColumnType). All (StandsAt t inside.col) rest) (sym same)
          (right_stand ty inside.col own.passed rest inside.stretches own.rows c.self.invariant.1),
    )

pub returns-in-Value-clause-steps : goal.returns-in-Value-clause-steps
returns-in-Value-clause-steps c =
    let inside = c.self.inside in
    let ty = inside.range.column.now.ty in
    let col = inside.col in
    let v = value_of c.in-Value.value in
    let rest = c.next_of_column.new.self in
    let own = subst (λ (p : ColumnStretch). PassesColumn col inside.stretches p rest) c.in-Value.is c.in_ok-value.ensures in
    let stand = left_stand ty col own.passed rest inside.stretches own.rows c.self.invariant.1 in (
      sym c.self.view_is
          ∙ ap (λ (vs : List Value). record { ty = ty; values = vs })
          (values_next col inside.range own.passed rest inside.stretches (v ∷ []) c.if-self-gt0.false own.rows
          (one_value col own.passed v own.cells)
          ∙ ap (λ (vs : List Value). v ∷ (vs ++ column_values col rest)) (sym (nothing_left inside.range c.if-self-gt0.false))),
      omega arith,
      value_typed ty col own.passed v own.cells stand,
    )

pub returns-in-Stable-clause-steps : goal.returns-in-Stable-clause-steps
returns-in-Stable-clause-steps c =
    let inside = c.self.inside in
    let ty = inside.range.column.now.ty in
    let col = inside.col in
    let rest = c.next_of_column.new.self in
    let own = subst (λ (p : ColumnStretch). PassesColumn col inside.stretches p rest) c.in-Stable.is c.in_ok-value.ensures in
    let shown = stretch_rows (Together c.in-Stable.stretch) in
    let stand =
    same_stand ty col own.passed shown own.cells (left_stand ty col own.passed rest inside.stretches own.rows c.self.invariant.1) in
    let typed = c.of_stretch-range.ensures.typed ty stand in
    let same : c.next_run-run.new.self.column.now.ty ≡ ty = ap (λ x. x.now.ty) c.next_run-run.ensures.column ∙ typed in
    let run = run_values c.next_run-run.result in
    let left = range_values c.next_run-run.new.self in (
      sym c.self.view_is
          ∙ (λ i. record {
            ty = sym same i;
            values =
                (values_next col inside.range own.passed rest inside.stretches (range_values c.of_stretch-range.result)
                c.if-self-gt0.false own.rows
                (c.of_stretch-range.ensures.values ∙ sym (same_values col own.passed shown own.cells))
                ∙ ap (λ (vs : List Value). vs ++ column_values col rest) c.next_run-run.ensures.values
                ∙ append_assoc run left (column_values col rest)) i;
          }),
      c.next_run-run.ensures.some,
      subst (λ x. IsRun x.now.ty c.next_run-run.result) (sym c.next_run-run.ensures.column) c.next_run-run.ensures.run,
    )
