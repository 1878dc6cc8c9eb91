use Rattle.std.proofs.Common.{◌≡◌, ◌++◌, ℕ, List}
use Rattle.merge.specs.Image.{image_rows}
use Rattle.pdtcli.specs.Output.{rows_text}
use Rattle.pdtcli.specs.Records.{HasGone}
use Rattle.pdtcli.proofs.output.show_rows.Given as goal

-- what has gone, and the text of the rows that are left, is the text of all
abbrev pub invariant-loop-row : goal.invariant-loop-row
invariant-loop-row g l = record {
  can_next : (goal.iterator-loop-row g).can_next l.row-iterator;
  finite : (goal.iterator-loop-row g).is_finite l.row-iterator;
  gone :
      (done : List ℕ) × HasGone (g.W.Write.contents l.initial.out) (g.W.Write.contents l.out) l.batch.records done
      × (done ++ rows_text l.row-iterator ≡ rows_text (image_rows l.fn.newest));
}
