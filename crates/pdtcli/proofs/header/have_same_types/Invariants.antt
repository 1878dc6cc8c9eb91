use Rattle.std.proofs.Common.{◌≡◌, length, take}
use Rattle.pdtcli.proofs.header.have_same_types.Given as goal

-- the types so far are the same, of as many
abbrev pub invariant-loop-col : goal.invariant-loop-col
invariant-loop-col l = record {
  same : take l.col l.a ≡ take l.col l.b;
  within : l.col-end ≡ length l.a;
  width : length l.a ≡ length l.b;
}
