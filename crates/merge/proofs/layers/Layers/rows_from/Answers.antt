use Rattle.std.proofs.Common.{◌≡◌, ◌∙◌, ◌≤◌, Option, Some, None, List, length, drop, ap, sym, refl, subst}
use Rattle.std.specs.Option.{option_copied}
use Rattle.values.specs.declared.row.Row.{Row}
use Rattle.delta.specs.Tree.{Tree}
use Rattle.merge.specs.Image.{Stack, image_rows, stack_of, stack_over, tree_over, write_rows}
use Rattle.merge.specs.Left.{AreAlike, AreAlikeLower, image_over, write_left, write_over}
use Rattle.merge.specs.Level.{AreKept}
use Rattle.merge.specs.declared.image.Image.{Image}
use Rattle.merge.specs.declared.image.Image.TheVariants.{Own}
use Rattle.merge.specs.declared.view.Layer.TheVariants.{Trans}
use Rattle.merge.proofs.AlikeLemmas.{none_over, upper_alike, upper_is}
use Rattle.merge.proofs.LeftLemmas.{none_on_top, tree_on_top}
use Rattle.merge.proofs.layers.Layers.rows_from.Goals as goal

pub committed_from-requires : goal.committed_from-requires
committed_from-requires c =
    let l = c.self.inside in
    let same = none_on_top l.stable.now l.read.now l.write.now (option_copied l.trans) l.len c.args.self.now c.self.view_is c.self.invariant
    (ap option_copied c.in-None.is) in
    subst (λ rows. c.args.rid ≤ length rows) (sym same) c.requires

pub returns-in-None-clause-rows : goal.returns-in-None-clause-rows
returns-in-None-clause-rows c =
    let l = c.self.inside in
    let same = none_on_top l.stable.now l.read.now l.write.now (option_copied l.trans) l.len c.args.self.now c.self.view_is c.self.invariant
    (ap option_copied c.in-None.is) in
    c.committed_from.ensures.rows ∙ ap (drop c.args.rid) same

pub committed_from-requires-in-Some : goal.committed_from-requires-in-Some
committed_from-requires-in-Some c =
    let l = c.self.inside in
    let own = tree_on_top l.stable.now l.read.now l.write.now (option_copied l.trans) l.len c.args.self.now c.self.view_is c.self.invariant
    c.in-Some.trans.now (ap option_copied c.in-Some.is) c.args.rid c.at-cursor.result c.requires c.at-cursor.ensures.at
    c.at-cursor.ensures.tree in
    subst (λ n. n ≤ length (write_rows c.args.self.now)) (sym c.sid.ensures) own.within

pub returns-in-Some-clause-rows : goal.returns-in-Some-clause-rows
returns-in-Some-clause-rows c =
    let l = c.self.inside in
    let own = tree_on_top l.stable.now l.read.now l.write.now (option_copied l.trans) l.len c.args.self.now c.self.view_is c.self.invariant
    c.in-Some.trans.now (ap option_copied c.in-Some.is) c.args.rid c.at-cursor.result c.requires c.at-cursor.ensures.at
    c.at-cursor.ensures.tree in
    own.rows_are (write_left c.committed_from-in-Some.result)
    (c.committed_from-in-Some.ensures.rows ∙ ap (λ n. drop n (write_rows c.args.self.now)) c.sid.ensures)

pub returns-in-Some-clause-cursors : goal.returns-in-Some-clause-cursors
returns-in-Some-clause-cursors c =
    let l = c.self.inside in
    let own = tree_on_top l.stable.now l.read.now l.write.now (option_copied l.trans) l.len c.args.self.now c.self.view_is c.self.invariant
    c.in-Some.trans.now (ap option_copied c.in-Some.is) c.args.rid c.at-cursor.result c.requires c.at-cursor.ensures.at
    c.at-cursor.ensures.tree in
    record {
      lower = c.committed_from-in-Some.ensures.cursors;
      trans =
          own.stands (write_left c.committed_from-in-Some.result)
          (c.committed_from-in-Some.ensures.rows ∙ ap (λ n. drop n (write_rows c.args.self.now)) c.sid.ensures);
      trans_layer = refl;
    }

-- ---- over other stable rows

pub returns-in-None-clause-placed : goal.returns-in-None-clause-placed
returns-in-None-clause-placed c =
    let l = c.self.inside in
    let stack = λ (o : Option Tree). stack_of l.stable.now l.read.now l.write.now (tree_over l.stable.now.schema.key_cols o) in
    let known : stack None ≡ c.args.self.now = ap stack (sym (ap option_copied c.in-None.is)) ∙ c.self.view_is in
    let same = none_on_top l.stable.now l.read.now l.write.now (option_copied l.trans) l.len c.args.self.now c.self.view_is c.self.invariant
    (ap option_copied c.in-None.is) in
    record {
      cursors = c.committed_from.ensures.cursors;
      rows = c.committed_from.ensures.rows ∙ ap (drop c.args.rid) same;
      alike = c.committed_from.ensures.alike;
      over = λ base count.
          c.committed_from.ensures.over base count
          ∙ ap (drop c.args.rid)
          (subst (λ (s : Stack). write_rows (stack_over base s) ≡ image_rows (stack_over base s)) known
          (none_over l.stable.now l.read.now l.write.now base));
    }

pub returns-in-Some-clause-placed : goal.returns-in-Some-clause-placed
returns-in-Some-clause-placed c =
    let l = c.self.inside in
    let trans = c.in-Some.trans.now in
    let t = c.at-cursor.result in
    let lower = c.committed_from-in-Some in
    let image : Image = Own (record { below = lower.result; cursor = t; layer = Trans }) in
    let stack = λ (o : Option Tree). stack_of l.stable.now l.read.now l.write.now (tree_over l.stable.now.schema.key_cols o) in
    let known : stack (Some trans) ≡ c.args.self.now = ap stack (sym (ap option_copied c.in-Some.is)) ∙ c.self.view_is in
    let kept : AreKept l.stable.now l.read.now l.write.now trans l.len =
    subst (λ (o : Option Tree). AreKept l.stable.now l.read.now l.write.now (tree_over l.stable.now.schema.key_cols o) l.len)
    (ap option_copied c.in-Some.is) c.self.invariant in
    let own = tree_on_top l.stable.now l.read.now l.write.now (option_copied l.trans) l.len c.args.self.now c.self.view_is c.self.invariant
    trans (ap option_copied c.in-Some.is) c.args.rid t c.requires c.at-cursor.ensures.at
    c.at-cursor.ensures.tree in
    let under = lower.ensures.rows ∙ ap (λ n. drop n (write_rows c.args.self.now)) c.sid.ensures in
    let over_all =
    subst (λ (s : Stack). c.args.rid ≤ length (image_rows s) → write_left lower.result ≡ drop t.sid (write_rows s) → (base : List Row)
    → length base ≡ length s.rows → AreAlikeLower base lower.result → write_over base lower.result ≡ drop t.sid (write_rows (stack_over base s))
    → AreAlike base image × (image_over base image ≡ drop c.args.rid (image_rows (stack_over base s)))) known
    (λ low below base count alike over. (
      (
        alike,
        upper_alike l.stable.now l.read.now l.write.now trans l.len kept base count c.args.rid t low c.at-cursor.ensures.at
            c.at-cursor.ensures.tree
            (write_over base lower.result) (write_left lower.result) over below,
      ),
      upper_is l.stable.now l.read.now l.write.now trans l.len kept base
          count
          c.args.rid t low c.at-cursor.ensures.at c.at-cursor.ensures.tree
          (write_over base lower.result) (write_left lower.result) over below,
    )) in
    let over = λ (base : List Row) (count : length base ≡ length c.args.self.now.rows).
    over_all c.requires under base count (lower.ensures.alike base count)
    (lower.ensures.over base count ∙ ap (λ n. drop n (write_rows (stack_over base c.args.self.now))) c.sid.ensures) in
    record {
      cursors = record {
        lower = lower.ensures.cursors;
        trans = own.stands (write_left lower.result) under;
        trans_layer = refl;
      };
      rows = own.rows_are (write_left lower.result) under;
      alike = λ base count. (over base count).0;
      over = λ base count. (over base count).1;
    }
