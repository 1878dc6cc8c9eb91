use Rattle.std.proofs.Common.{◌≡◌, ◌+◌, ◌-◌, ◌*◌, ◌/◌, ◌%◌, ◌++◌, List, length, take, drop, sym, ap, ◌∙◌, arith}
use Rattle.std.proofs.lemmas.List.{length-drop, length-take}
use Rattle.values.specs.declared.value.Value.{Value}
use Rattle.blocks.specs.Column.{Column}
use Rattle.merge.specs.Runs.{run_values}
use Rattle.merge.proofs.RunLemmas.{range_next}
use Rattle.merge.proofs.run.ColumnRange.next_run.Goals as goal
use Rattle.stable.proofs.CallerLemmas.{run_of_block}

pub run_of-requires : goal.run_of-requires
run_of-requires c =
    let range = c.args.self.now in
    let values = range.column.now.values in
    let begin = 1024 * (range.first / 1024) in
    omega (
      arith,
      c.requires.within,
      c.min-count.ensures,
      ap (λ (b : Column). length b.values) c.block-block.ensures,
      length-take 1024 (drop begin values),
      length-drop begin values,
    )

pub returns-clause-values : goal.returns-clause-values
returns-clause-values c =
    let range = c.args.self.now in
    let values = range.column.now.values in
    let n = c.min-count.result in
    let run : run_values c.run_of.result ≡ take n (drop range.first values) =
    c.run_of.ensures.values
    ∙ ap (λ (b : Column). take n (drop (range.first % 1024) b.values)) c.block-block.ensures
    ∙ run_of_block values range.first n (omega (arith, c.min-count.ensures)) in
    range_next values range.first range.count n (omega (arith, c.min-count.ensures))
    ∙ ap (λ vs. vs ++ take (range.count - n) (drop (range.first + n) values)) (sym run)

pub returns-clause-some : goal.returns-clause-some
returns-clause-some c =
    let range = c.args.self.now in
    let values = range.column.now.values in
    let begin = 1024 * (range.first / 1024) in
    let block = c.block-block.result.now.values in
    let n = c.min-count.result in
    omega (
      arith,
      c.requires.some,
      c.requires.within,
      c.min-count.ensures,
      ap (λ (vs : List Value). length vs) c.run_of.ensures.values,
      length-take n (drop (range.first % 1024) block),
      length-drop (range.first % 1024) block,
      ap (λ (b : Column). length b.values) c.block-block.ensures,
      length-take 1024 (drop begin values),
      length-drop begin values,
    )

pub returns-clause-count : goal.returns-clause-count
returns-clause-count c =
    let range = c.args.self.now in
    let values = range.column.now.values in
    let begin = 1024 * (range.first / 1024) in
    let block = c.block-block.result.now.values in
    let n = c.min-count.result in
    omega (
      arith,
      c.requires.within,
      c.min-count.ensures,
      ap (λ (vs : List Value). length vs) c.run_of.ensures.values,
      length-take n (drop (range.first % 1024) block),
      length-drop (range.first % 1024) block,
      ap (λ (b : Column). length b.values) c.block-block.ensures,
      length-take 1024 (drop begin values),
      length-drop begin values,
    )
