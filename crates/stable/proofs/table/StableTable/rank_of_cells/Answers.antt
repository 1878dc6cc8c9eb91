use Rattle.std.proofs.Common.{◌≡◌, ℕ, ◌-◌, ◌+◌, ◌/◌, ◌<◌, ◌≤◌, [], length, get_or, is_lt, sym, ap, ◌∙◌, subst, arith}
use Rattle.std.proofs.lemmas.List.{get_or_default}
use Rattle.values.specs.Orders.{key_cmp}
use Rattle.values.specs.Shape.{key_of}
use Rattle.values.specs.declared.row.Row.{Row}
use Rattle.stable.specs.Spans.{HasCells}
use Rattle.stable.proofs.BelowLemmas.{high_part, low_part}
use Rattle.stable.proofs.RankLemmas.{rank-point}
use Rattle.stable.proofs.SpanLemmas.{shared_cells, wide_rows}
use Rattle.stable.proofs.StableLemmas.{stable_sorted}
use Rattle.stable.proofs.table.StableTable.rank_of_cells.Goals.{After-min-tied}
use Rattle.stable.proofs.table.StableTable.rank_of_cells.Goals as goal
use Rattle.std.proofs.lemmas.Grind.{common_steps}

-- the rows that are left have the cells that both ends have
left_have : (c : After-min-tied) → (k : ℕ) → c.loop-low.low ≤ k → k < c.loop-low.high
    → HasCells c.min-tied.result c.args.key.now (get_or c.args.self.now.rows k [])
left_have c =
    let s = c.args.self.now in
    let inside = c.self.inside in
    let h = c.loop-low.invariant in
    let wide =
    wide_rows inside.schema inside.count inside.columns.items c.self.invariant c.key_cols-key_cols.ensures.lawful.key_within s
    c.self.view_is in
    shared_cells s.schema.key_cols c.args.key.now s.rows wide (stable_sorted s c.len-high.ensures.lawful) c.loop-low.low c.loop-low.high
    c.loop-low.tied_before c.loop-low.tied_after c.min-tied.result (omega (arith, c.min-tied.ensures)) (omega (arith, c.min-tied.ensures))
    h.within h.few h.short h.some h.before h.more h.after

pub rank_among-requires-clause-span : goal.rank_among-requires-clause-span
rank_among-requires-clause-span c = grind (arith, common_steps, c.loop-low.invariant, left_have)

pub compare_from-order-requires-clause-tied : goal.compare_from-order-requires-clause-tied
compare_from-order-requires-clause-tied c = grind (arith, common_steps, c.loop-low-test.true, left_have)

pub loop-low-preserved-then-is_lt : goal.loop-low-preserved-then-is_lt
loop-low-preserved-then-is_lt c =
    let s = c.args.self.now in
    let key = c.args.key.now in
    let inside = c.self.inside in
    let h = c.loop-low.invariant in
    let low = c.loop-low.low in
    let high = c.loop-low.high in
    let middle = low + (high - low) / 2 in
    let within : middle < length s.rows = omega (arith, h.within, c.loop-low-test.true) in
    let sorted = stable_sorted s c.len-high.ensures.lawful in
    let is = ap is_lt (sym c.compare_from-order.ensures.order) ∙ sym c.is_lt.ensures ∙ c.if-is_lt.true in
    let back : middle ≡ middle + 1 - 1 = omega arith in
    record {
      ordered = omega (arith, c.loop-low-test.true);
      within = h.within;
      below = λ k lt. low_part s.schema.key_cols key s.rows sorted middle within is k [] (omega (arith, lt));
      above = h.above;
      few = c.compare_from-order.ensures.key;
      short = c.compare_from-order.ensures.cell;
      some = λ _. omega arith;
      before =
          subst (λ i. HasCells c.compare_from-order.result.1 key (get_or s.rows i [])) back c.compare_from-order.ensures.tied;
      more = h.more;
      after = h.after;
    }

pub loop-low-preserved : goal.loop-low-preserved
loop-low-preserved c =
    let s = c.args.self.now in
    let key = c.args.key.now in
    let inside = c.self.inside in
    let h = c.loop-low.invariant in
    let low = c.loop-low.low in
    let high = c.loop-low.high in
    let middle = low + (high - low) / 2 in
    let within : middle < length s.rows = omega (arith, h.within, c.loop-low-test.true) in
    let sorted = stable_sorted s c.len-high.ensures.lawful in
    let is = ap is_lt (sym c.compare_from-order.ensures.order) ∙ sym c.is_lt.ensures ∙ c.if-is_lt.false in
    record {
      ordered = omega (arith, c.loop-low-test.true);
      within = omega (arith, within);
      below = h.below;
      above = λ k le lt. high_part s.schema.key_cols key s.rows sorted middle within is k [] le lt;
      few = h.few;
      short = h.short;
      some = h.some;
      before = h.before;
      more = λ _. within;
      after = c.compare_from-order.ensures.tied;
    }

pub returns-clause-rank : goal.returns-clause-rank
returns-clause-rank c =
    let s = c.args.self.now in
    let key = c.args.key.now in
    let h = c.loop-low.invariant in
    let n = s.schema.key_cols in
    let met : c.loop-low.high ≡ c.loop-low.low = omega (arith, h.ordered, c.loop-low-test.false) in
    rank-point n key s.rows c.loop-low.low (omega (arith, h.ordered, h.within)) (
      (λ k d _ lt.
          ap (λ (row : Row). is_lt (key_cmp (key_of n row) key))
          (get_or_default s.rows k d [] (omega (arith, lt, h.ordered, h.within)))
          ∙ h.below k lt),
      (λ k d le lt.
          ap (λ (row : Row). is_lt (key_cmp (key_of n row) key)) (get_or_default s.rows k d [] lt)
          ∙ h.above k (omega (arith, le, met)) lt),
    )
