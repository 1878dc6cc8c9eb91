use Rattle.std.proofs.Common.{◌≡◌, length}
use Rattle.merge.specs.Image.{image_table}
use Rattle.replay.specs.Fitting.{are_over}
use Rattle.replay.proofs.fitting.are_over.Given as goal

-- those that were looked at may stand where they do
abbrev pub invariant-loop-rest : goal.invariant-loop-rest
invariant-loop-rest l =
    are_over l.layers.schema (image_table l.layers) l.entries ≡ are_over l.layers.schema (image_table l.layers) l.rest

abbrev pub decreases-loop-rest : goal.decreases-loop-rest
decreases-loop-rest l = length l.rest
