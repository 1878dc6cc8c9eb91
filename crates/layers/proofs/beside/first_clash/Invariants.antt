use Rattle.std.proofs.Common.{◌≡◌, ◌≤◌, length, drop}
use Rattle.model.specs.Rebasing.{first_clash, first_clash_from}
use Rattle.layers.proofs.beside.first_clash.Given as goal

-- the entries so far clash with none
abbrev pub invariant-loop-entry : goal.invariant-loop-entry
invariant-loop-entry l = record {
  left : l.entry-iterator ≡ drop l.index l.x.entries;
  within : l.index ≤ length l.x.entries;
  clear :
      first_clash l.rule l.y.key_cols l.x.entries l.y.entries
      ≡ first_clash_from l.rule l.y.key_cols l.index (drop l.index l.x.entries) l.y.entries;
}
