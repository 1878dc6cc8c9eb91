use Rattle.std.proofs.Common.{◌∙◌, ◌≤◌, length, drop, ap, sym, subst, arith}
use Rattle.std.specs.Option.{option_copied}
use Rattle.std.proofs.lemmas.List.Elements.{All-same}
use Rattle.merge.specs.Cursor.{IsCursor, rows_left}
use Rattle.merge.specs.Filling.{IsWide}
use Rattle.merge.specs.Image.{Stack, stack_of, tree_over, write_rows}
use Rattle.merge.specs.Packed.{type_at}
use Rattle.merge.specs.ReadRows.{rows_of_read}
use Rattle.merge.proofs.LeftLemmas.{write_at}
use Rattle.merge.proofs.PackedPlaceLemmas.{IsPlaced, placed_under}
use Rattle.merge.proofs.layers.Layers.numbers_from.Goals.{After-sid-2}
use Rattle.merge.proofs.layers.Layers.numbers_from.Goals as goal

pub at-read-requires : goal.at-read-requires
at-read-requires c =
    let l = c.self.inside in
    let top = tree_over l.stable.now.schema.key_cols (option_copied l.trans) in
    let low : c.args.rid ≤ length (write_rows (stack_of l.stable.now l.read.now l.write.now top)) =
    subst (λ (s : Stack). c.args.rid ≤ length (write_rows s)) (sym c.self.view_is) c.requires.rid in
    let w =
    write_at l.stable.now l.read.now l.write.now top l.len c.self.invariant c.args.rid c.at-write.result low
    c.at-write.ensures.at in
    record { few = omega (arith, w.within, c.sid.ensures, c.self.invariant.read_few) }

here : (c : After-sid-2)
    → IsPlaced c.args.self.now c.args.rid c.at-write.result c.at-read.result (drop c.sid-2.result c.self.inside.stable.now.rows)
here c =
    let l = c.self.inside in
    placed_under l.stable.now l.read.now l.write.now (option_copied l.trans) l.len c.args.self.now c.self.view_is c.self.invariant
    c.args.rid c.at-write.result c.at-read.result c.sid.result c.sid-2.result c.requires.rid c.at-write.ensures.at c.at-read.ensures.at
    c.sid.ensures c.sid-2.ensures c.at-write.ensures.tree c.at-read.ensures.tree

pub at-requires-clause-cursor : goal.at-requires-clause-cursor
at-requires-clause-cursor c = (here c).cursor

pub returns-clause-rows : goal.returns-clause-rows
returns-clause-rows c = ap (rows_left c.at-write.result) c.at.ensures.rows ∙ (here (goal.at.returns-clause-rows c).After-sid-2).rows

pub returns-clause-cursor : goal.returns-clause-cursor
returns-clause-cursor c =
    subst (λ rows. IsCursor (length rows) c.at-write.result) (sym c.at.ensures.rows)
    (here (goal.at.returns-clause-cursor c).After-sid-2).stands

pub returns-clause-column : goal.returns-clause-column
returns-clause-column c =
    c.at.ensures.column (type_at c.args.self.now.schema c.args.col)
    ((here (goal.at.returns-clause-column c).After-sid-2).values c.args.col c.requires.column)

pub returns-clause-wide : goal.returns-clause-wide
returns-clause-wide c =
    All-same (IsWide c.args.col) (rows_of_read c.at.result)
    (rows_left c.at-read.result (drop c.sid-2.result c.self.inside.stable.now.rows)) c.at.ensures.rows
    ((here (goal.at.returns-clause-wide c).After-sid-2).wide c.args.col c.requires.column)
