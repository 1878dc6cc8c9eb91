use Rattle.std.proofs.Common.{◌∙◌, ◌-◌, ◌++◌, map, take, sym, ap}
use Rattle.merge.specs.Filling.{numbers_in}
use Rattle.merge.specs.NumberRows.{number_rows_left}
use Rattle.merge.specs.Packed.{number_at}
use Rattle.merge.proofs.FillingLemmas.{filled_taken}
use Rattle.merge.proofs.number_runs.NumberRunsIterator.next.Goals as goal

pub returns-clause-steps : goal.returns-clause-steps
returns-clause-steps c =
    let inside = c.self.inside in
    let run = numbers_in c.next_run-run.result in
    let left = number_rows_left c.next_run-run.new.self in (
      sym c.self.view_is
          ∙ filled_taken inside.col inside.left (number_rows_left inside.rows) left run c.next_run-run.ensures.numbers c.next_run-run.ensures.few
          ∙ ap (λ n. run ++ take (inside.left - n) (map (number_at inside.col) left)) (sym c.len.ensures),
      c.next_run-run.ensures.some,
    )
