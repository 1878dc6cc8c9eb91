use Rattle.std.proofs.Common.{◌≡◌, ◌+◌, ◌-◌, ◌++◌, map, take}
use Rattle.std.specs.Prelude.{vec_len, vec_capacity}
use Rattle.blocks.proofs.spelled.add_ends.Given as goal

abbrev pub invariant-loop-end : goal.invariant-loop-end
invariant-loop-end l = record {
  spelt : l.ends.items ≡ l.fn.ends.items ++ map (λ end. l.to + (end - l.from)) (take l.end-index l.more);
  counted : vec_len l.ends ≡ vec_len l.fn.ends + l.end-index;
  room : vec_capacity l.ends ≡ vec_capacity l.fn.ends;
}
