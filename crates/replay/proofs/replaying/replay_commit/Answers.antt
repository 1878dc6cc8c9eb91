use Rattle.std.proofs.Common.{◌≡◌, inr, List, Option, length, sym, ap, ◌∙◌, subst, arith}
use Rattle.std.proofs.lemmas.List.{length-map}
use Rattle.std.specs.Prelude.{IfSome}
use Rattle.values.specs.Shape.{Columns}
use Rattle.values.specs.declared.row.Row.{Row}
use Rattle.model.specs.Effects.{table_with}
use Rattle.model.specs.declared.entry.Entry.{Entry}
use Rattle.model.specs.Merging.{merged_rows}
use Rattle.model.specs.Table.{Table, rows_of}
use Rattle.delta.specs.Tree.{Tree}
use Rattle.merge.specs.Image.{IsLayer, image_table}
use Rattle.manager.specs.Managed.{newest_table}
use Rattle.replay.specs.Replayed.{IsReplayed}
use Rattle.replay.proofs.ReplayLemmas.{redone_replayed, same_table}
use Rattle.replay.proofs.replaying.replay_commit.Goals.{After-redo}
use Rattle.replay.proofs.replaying.replay_commit.Goals as goal

module _ (c : After-redo) where
  -- the tree that was made is a layer over the newest table
  layer : IsLayer c.args.manager.now.schema (newest_table c.args.manager.now) c.in-Some.tree
  layer =
      let above : IsLayer c.newest.result.schema (image_table c.newest.result) c.in-Some.tree =
      subst (λ (found : Option Tree). IfSome found (λ t. IsLayer c.newest.result.schema (image_table c.newest.result) t)) c.in-Some.is
      c.in_ok-tree.ensures.layer in
      subst (λ (e : Columns × Table). IsLayer e.0 e.1 c.in-Some.tree)
      (λ i. (c.newest.ensures.schema i, c.newest.ensures.table i)) above

  -- of the entries given
  entries : c.in-Some.tree.entries ≡ c.args.entries.items
  entries =
      ap (λ (t : Tree). t.entries)
      (subst
      (λ (found : Option Tree). IfSome found (λ t. t ≡ record { key_cols = c.newest.result.schema.key_cols; entries = c.args.entries.items }))
      c.in-Some.is c.in_ok-tree.ensures.entries)

pub returns-in-Ok-clause-table : goal.returns-in-Ok-clause-table
returns-in-Ok-clause-table c = λ x over is.
    let m = c.args.manager.now in
    let before = (goal.at.returns-in-Ok-clause-table c).After-redo in
    let w = layer before in
    ap newest_table (c.in-Ok.ensures.ok w).kept
    ∙ same_table c.merges_to_table.ensures m.schema (newest_table m) w.effects x w.over over (sym w.entries ∙ entries before ∙ is)

pub returns-in-Ok-clause-ok : goal.returns-in-Ok-clause-ok
returns-in-Ok-clause-ok c =
    let m = c.args.manager.now in
    let before = (goal.at.returns-in-Ok-clause-ok c).After-redo in
    subst (λ (es : List Entry). IsReplayed m (merged_rows (rows_of (newest_table m)) es) 1 c.redo.new.self) (entries before)
    (redone_replayed m c.redo.new.self c.in-Some.tree (layer before) c.merges_to_table.ensures (c.in-Ok.ensures.ok (layer before)))

pub returns-in-Err-TooManyRows-clause-full : goal.returns-in-Err-TooManyRows-clause-full
returns-in-Err-TooManyRows-clause-full c = λ same.
    let m = c.args.manager.now in
    let before = (goal.at.returns-in-Err-TooManyRows-clause-full c).After-redo in
    let w = layer before in
    let past = c.in-Err-TooManyRows.ensures.full c.in-Err-TooManyRows.field-0-is w in
    let rows : merged_rows (rows_of (newest_table m)) c.args.entries.items ≡ rows_of (table_with (newest_table m) w.effects) =
    ap (merged_rows (rows_of (newest_table m))) (sym (entries before) ∙ w.entries)
    ∙ c.merges_to_table.ensures m.schema (newest_table m) w.effects w.over in
    let count : length (merged_rows (rows_of (newest_table m)) c.args.entries.items) ≡ length (table_with (newest_table m) w.effects) =
    ap (λ (rs : List Row). length rs) rows ∙ length-map _ _ in
    inr (omega (arith, past, count))
