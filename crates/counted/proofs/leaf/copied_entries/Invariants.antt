use Rattle.std.proofs.Common.{◌≡◌, take}
use Rattle.std.specs.Prelude.{vec_len, vec_capacity}
use Rattle.counted.specs.declared.node.TheConstants.{MAX_WIDTH}
use Rattle.counted.proofs.leaf.copied_entries.Given as goal

-- the entries so far, with room for the others
abbrev pub invariant-loop-entry : goal.invariant-loop-entry
invariant-loop-entry l = record {
  items : l.out.items ≡ take l.entry-index l.entries;
  len : vec_len l.out ≡ l.entry-index;
  room : vec_capacity l.out ≡ MAX_WIDTH;
}
