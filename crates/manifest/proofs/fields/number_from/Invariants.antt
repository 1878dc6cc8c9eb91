use Rattle.std.proofs.Common.{◌≡◌, ◌≤◌, length}
use Rattle.manifest.specs.Reading.{number_from}
use Rattle.manifest.proofs.fields.number_from.Given as goal

abbrev pub invariant-loop-rest : goal.invariant-loop-rest
invariant-loop-rest l = record {
  small : l.number ≤ l.most;
  read : number_from l.most l.number l.rest ≡ number_from l.most 0 l.bytes;
}

abbrev pub decreases-loop-rest : goal.decreases-loop-rest
decreases-loop-rest l = length l.rest
