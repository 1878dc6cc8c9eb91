use Rattle.std.proofs.Common.{◌∙◌, ◌≤◌, List, length, drop, sym, ap, subst, arith}
use Rattle.std.proofs.lemmas.List.Elements.{All-drop, All-same}
use Rattle.std.specs.Option.{option_copied}
use Rattle.values.specs.declared.row.Row.{Row}
use Rattle.merge.specs.Cursor.{rows_left}
use Rattle.merge.specs.Filling.{IsWide}
use Rattle.merge.specs.Image.{write_rows}
use Rattle.merge.specs.ReadRows.{rows_of_read}
use Rattle.merge.proofs.LeftLemmas.{none_on_top, tree_on_top}
use Rattle.merge.proofs.PackedPlaceLemmas.{wide_under}
use Rattle.merge.proofs.layers.Layers.number_rows_from.Goals as goal

pub numbers_from-requires-clause-rid : goal.numbers_from-requires-clause-rid
numbers_from-requires-clause-rid c =
    let l = c.self.inside in
    let same = none_on_top l.stable.now l.read.now l.write.now (option_copied l.trans) l.len c.args.self.now c.self.view_is c.self.invariant
    (ap option_copied c.in-None.is) in
    omega (arith, c.requires.rid, ap (λ (rs : List Row). length rs) same)

pub numbers_from-requires-in-Some-clause-rid : goal.numbers_from-requires-in-Some-clause-rid
numbers_from-requires-in-Some-clause-rid c =
    let l = c.self.inside in
    let own = tree_on_top l.stable.now l.read.now l.write.now (option_copied l.trans) l.len c.args.self.now c.self.view_is c.self.invariant
    c.in-Some.trans.now (ap option_copied c.in-Some.is) c.args.rid c.at-cursor.result c.requires.rid c.at-cursor.ensures.at
    c.at-cursor.ensures.tree in
    subst (λ n. n ≤ length (write_rows c.args.self.now)) (sym c.sid.ensures) own.within

pub returns-in-None-clause-rows : goal.returns-in-None-clause-rows
returns-in-None-clause-rows c =
    let l = c.self.inside in
    c.numbers_from.ensures.rows
    ∙ ap (drop c.args.rid)
    (none_on_top l.stable.now l.read.now l.write.now (option_copied l.trans) l.len c.args.self.now c.self.view_is c.self.invariant
    (ap option_copied c.in-None.is))

pub returns-in-Some-clause-rows : goal.returns-in-Some-clause-rows
returns-in-Some-clause-rows c =
    let l = c.self.inside in
    let own = tree_on_top l.stable.now l.read.now l.write.now (option_copied l.trans) l.len c.args.self.now c.self.view_is c.self.invariant
    c.in-Some.trans.now (ap option_copied c.in-Some.is) c.args.rid c.at-cursor.result c.requires.rid c.at-cursor.ensures.at
    c.at-cursor.ensures.tree in
    let left = rows_left c.numbers_from-in-Some.result.cursor (rows_of_read c.numbers_from-in-Some.result.below) in
    let left_is = c.numbers_from-in-Some.ensures.rows ∙ ap (λ n. drop n (write_rows c.args.self.now)) c.sid.ensures in
    own.rows_are left left_is

pub returns-in-Some-clause-lawful : goal.returns-in-Some-clause-lawful
returns-in-Some-clause-lawful c =
    let l = c.self.inside in
    let own = tree_on_top l.stable.now l.read.now l.write.now (option_copied l.trans) l.len c.args.self.now c.self.view_is c.self.invariant
    c.in-Some.trans.now (ap option_copied c.in-Some.is) c.args.rid c.at-cursor.result c.requires.rid c.at-cursor.ensures.at
    c.at-cursor.ensures.tree in
    let left = rows_left c.numbers_from-in-Some.result.cursor (rows_of_read c.numbers_from-in-Some.result.below) in
    let left_is = c.numbers_from-in-Some.ensures.rows ∙ ap (λ n. drop n (write_rows c.args.self.now)) c.sid.ensures in
    ((c.numbers_from-in-Some.ensures.lawful, c.numbers_from-in-Some.ensures.cursor), own.stands left left_is)

pub returns-in-Some-clause-column : goal.returns-in-Some-clause-column
returns-in-Some-clause-column c =
    let col = c.args.col in
    let l = c.self.inside in
    let wide = wide_under l.stable.now l.read.now l.write.now (option_copied l.trans) l.len c.args.self.now c.self.view_is
    c.self.invariant in
    let left = rows_left c.numbers_from-in-Some.result.cursor (rows_of_read c.numbers_from-in-Some.result.below) in
    let left_is = c.numbers_from-in-Some.ensures.rows ∙ ap (λ n. drop n (write_rows c.args.self.now)) c.sid.ensures in
    let lower = c.numbers_from-in-Some.ensures in
    let sid = c.at-cursor.result.sid in (
      (lower.column, lower.wide),
      All-same (IsWide col) left (drop sid (write_rows c.args.self.now)) left_is
          (All-drop (IsWide col) sid (write_rows c.args.self.now) (wide col c.requires.column)),
    )
