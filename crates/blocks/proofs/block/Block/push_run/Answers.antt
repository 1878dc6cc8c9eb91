use Rattle.std.proofs.Common.{◌≡◌, ◌++◌, take, drop, subst, OnOk, OnErr, arith, rules}
use Rattle.blocks.specs.Cells.{column_of}
use Rattle.blocks.specs.Column.{Column, IsBlock, AllFit, Fits}
use Rattle.blocks.proofs.RunLemmas.{map-with_run, all_with_run, length-with_run, block_after}
use Rattle.blocks.proofs.block.Block.push_run.Goals as goal
use Rattle.blocks.proofs.block.Block.push_run.Goals.{Joined-self, in-Ints-Ints, in-Texts-Texts, in-Truths-Truths}

-- after a success the column has the run more
longer : (c : Joined-self) → OnOk c.match-self.result (column_of c.match-self.self-inside.cells
    ≡ record c.args.self.now { values = c.args.self.now.values ++ take c.args.count (drop c.args.start c.args.other.now.values) })
longer c =
    elim c.match-self.branch [
      | in-Ints-Ints w ↦ search (rules, map-with_run)
      | in-Texts-Texts w ↦ search (rules, map-with_run)
      | in-Truths-Truths w ↦ search (rules, map-with_run)
    ]

pub returns-clause-ok : goal.returns-clause-ok
returns-clause-ok c = longer c

pub invariant_of-self : goal.invariant_of-self
invariant_of-self c =
    let run = take c.args.count (drop c.args.start c.args.other.now.values) in
    let typed : c.args.other.now.ty ≡ c.args.self.now.ty = c.requires.typed in
    let mine : IsBlock c.args.self.now = subst IsBlock c.self.view_is c.self.invariant in
    let theirs : IsBlock c.args.other.now = subst IsBlock c.other.view_is c.other.invariant in
    let more : Column = record { ty = c.args.self.now.ty; values = c.args.self.now.values ++ run } in
    let kept : IsBlock more = record {
      few =
          omega (
            arith,
            c.requires.few,
            length-with_run c.args.self.now.values c.args.other.now.values c.args.start c.args.count c.requires.within,
          );
      fit =
          all_with_run (Fits c.args.self.now.ty) c.args.self.now.values c.args.other.now.values c.args.start c.args.count mine.fit
          (subst (λ ty. AllFit ty c.args.other.now.values) typed theirs.fit);
    } in
    let err : OnErr c.match-self.result (column_of c.match-self.self-inside.cells ≡ c.args.self.now) =
    elim c.match-self.branch [
      | in-Ints-Ints w ↦ search rules
      | in-Texts-Texts w ↦ search rules
      | in-Truths-Truths w ↦ search rules
    ] in
    block_after c.match-self.result (column_of c.match-self.self-inside.cells) c.args.self.now more mine kept (longer c) err
