use Rattle.std.proofs.Common.{◌≡◌, ◌∙◌, ◌≤◌, List, length, drop, ap, sym, refl, subst, arith, length-drop}
use Rattle.std.specs.Option.{option_copied}
use Rattle.values.specs.declared.row.Row.{Row}
use Rattle.merge.specs.Image.{Stack, stack_of, stack_over, tree_over, read_rows, write_rows}
use Rattle.merge.specs.Cursor.{rows_left, IsCursor, IsCursorAt}
use Rattle.merge.proofs.AlikeLemmas.{lower_alike, lower_is}
use Rattle.merge.proofs.LeftLemmas.{write_at, read_at, write_is, write_stands}
use Rattle.merge.proofs.layers.Layers.committed_from.Goals as goal

pub at-read-requires : goal.at-read-requires
at-read-requires c =
    let l = c.self.inside in
    let top = tree_over l.stable.now.schema.key_cols (option_copied l.trans) in
    let low : c.args.rid ≤ length (write_rows (stack_of l.stable.now l.read.now l.write.now top)) =
    subst (λ (s : Stack). c.args.rid ≤ length (write_rows s)) (sym c.self.view_is) c.requires in
    let w =
    write_at l.stable.now l.read.now l.write.now top l.len c.self.invariant c.args.rid c.at-write.result low
    c.at-write.ensures.at in
    record { few = omega (arith, w.within, c.sid.ensures, c.self.invariant.read_few) }

pub returns-clause-rows : goal.returns-clause-rows
returns-clause-rows c =
    let l = c.self.inside in
    let top = tree_over l.stable.now.schema.key_cols (option_copied l.trans) in
    let low : c.args.rid ≤ length (write_rows (stack_of l.stable.now l.read.now l.write.now top)) =
    subst (λ (s : Stack). c.args.rid ≤ length (write_rows s)) (sym c.self.view_is) c.requires in
    let w =
    write_at l.stable.now l.read.now l.write.now top l.len c.self.invariant c.args.rid c.at-write.result low
    c.at-write.ensures.at in
    let w_low = subst (λ n. n ≤ length (read_rows (stack_of l.stable.now l.read.now l.write.now top))) (sym c.sid.ensures) w.within in
    let r =
    read_at l.stable.now l.read.now l.write.now top l.len c.self.invariant c.sid.result c.at-read.result w_low
    c.at-read.ensures.at in
    let r_here = subst (λ n. IsCursorAt l.stable.now.rows n c.at-read.result) c.sid.ensures r in
    let r_is = ap (λ x. x.entries) c.at-read.ensures.tree in
    let w_is = ap (λ x. x.entries) c.at-write.ensures.tree in
    ap (λ n. rows_left c.at-write.result (rows_left c.at-read.result (drop n l.stable.now.rows))) c.sid-2.ensures
    ∙ write_is l.stable.now.rows l.read.now.entries l.write.now.entries c.at-read.result c.at-write.result c.args.rid r_here w r_is w_is
    ∙ ap (λ (s : Stack). drop c.args.rid (write_rows s)) c.self.view_is

pub returns-clause-cursors : goal.returns-clause-cursors
returns-clause-cursors c =
    let l = c.self.inside in
    let top = tree_over l.stable.now.schema.key_cols (option_copied l.trans) in
    let low : c.args.rid ≤ length (write_rows (stack_of l.stable.now l.read.now l.write.now top)) =
    subst (λ (s : Stack). c.args.rid ≤ length (write_rows s)) (sym c.self.view_is) c.requires in
    let w =
    write_at l.stable.now l.read.now l.write.now top l.len c.self.invariant c.args.rid c.at-write.result low
    c.at-write.ensures.at in
    let w_low = subst (λ n. n ≤ length (read_rows (stack_of l.stable.now l.read.now l.write.now top))) (sym c.sid.ensures) w.within in
    let r =
    read_at l.stable.now l.read.now l.write.now top l.len c.self.invariant c.sid.result c.at-read.result w_low
    c.at-read.ensures.at in
    let r_here = subst (λ n. IsCursorAt l.stable.now.rows n c.at-read.result) c.sid.ensures r in
    let r_is = ap (λ x. x.entries) c.at-read.ensures.tree in
    let w_is = ap (λ x. x.entries) c.at-write.ensures.tree in
    let here = sym c.sid-2.ensures in
    record {
      few = c.self.invariant.few;
      read = subst (λ n. IsCursor (length (drop n l.stable.now.rows)) c.at-read.result) here r.cursor;
      write =
          subst (λ n. IsCursor (length (rows_left c.at-read.result (drop n l.stable.now.rows))) c.at-write.result) here
          (write_stands l.stable.now.rows l.read.now.entries l.write.now.entries c.at-read.result c.at-write.result c.args.rid
          r_here w r_is w_is);
      read_layer = refl;
      write_layer = refl;
    }

-- ---- over other stable rows

pub returns-clause-alike : goal.returns-clause-alike
returns-clause-alike c =
    let l = c.self.inside in
    let rows = l.stable.now.rows in
    let r = c.at-read.result in
    let top = tree_over l.stable.now.schema.key_cols (option_copied l.trans) in
    let low : c.args.rid ≤ length (write_rows (stack_of l.stable.now l.read.now l.write.now top)) =
    subst (λ (s : Stack). c.args.rid ≤ length (write_rows s)) (sym c.self.view_is) c.requires in
    subst (λ (s : Stack). (base : List Row) → length base ≡ length s.rows
    → ((length base ≡ length rows) × (length (drop c.sid-2.result base) ≡ length (drop c.sid-2.result rows)))
    × (length (rows_left r (drop c.sid-2.result base)) ≡ length (rows_left r (drop c.sid-2.result rows)))) c.self.view_is
    (λ base same.
    let left = lower_alike l.stable.now l.read.now l.write.now top l.len c.self.invariant base same c.args.rid r c.at-write.result low
    c.at-write.ensures.at c.sid.result c.sid.ensures c.at-read.ensures.at c.at-read.ensures.tree c.at-write.ensures.tree in
    subst (λ n. ((length base ≡ length rows) × (length (drop n base) ≡ length (drop n rows)))
    × (length (rows_left r (drop n base)) ≡ length (rows_left r (drop n rows)))) (sym c.sid-2.ensures)
    ((same, omega (arith, same, length-drop r.sid base, length-drop r.sid rows)), left))

pub returns-clause-over : goal.returns-clause-over
returns-clause-over c =
    let l = c.self.inside in
    let r = c.at-read.result in
    let w = c.at-write.result in
    let top = tree_over l.stable.now.schema.key_cols (option_copied l.trans) in
    let low : c.args.rid ≤ length (write_rows (stack_of l.stable.now l.read.now l.write.now top)) =
    subst (λ (s : Stack). c.args.rid ≤ length (write_rows s)) (sym c.self.view_is) c.requires in
    subst (λ (s : Stack). (base : List Row) → length base ≡ length s.rows
    → rows_left w (rows_left r (drop c.sid-2.result base)) ≡ drop c.args.rid (write_rows (stack_over base s))) c.self.view_is
    (λ base same.
    ap (λ n. rows_left w (rows_left r (drop n base))) c.sid-2.ensures
    ∙ lower_is l.stable.now l.read.now l.write.now top l.len c.self.invariant base same c.args.rid r w low c.at-write.ensures.at c.sid.result
    c.sid.ensures c.at-read.ensures.at c.at-read.ensures.tree c.at-write.ensures.tree)
