use Rattle.std.proofs.Common.{◌≡◌, length, take}
use Rattle.values.specs.Shape.{IsSchema}
use Rattle.pdtcli.proofs.header.have_same_names.Given as goal

-- the names so far are the same, of as many columns
abbrev pub invariant-loop-col : goal.invariant-loop-col
invariant-loop-col l = record {
  same : take l.col l.a.names ≡ take l.col l.b.names;
  within : l.col-end ≡ length l.a.types;
  width : length l.a.types ≡ length l.b.types;
  first : IsSchema l.a;
  second : IsSchema l.b;
}
