use Rattle.std.proofs.Common.{◌≡◌, ◌++◌, drop, length}
use Rattle.inputs.specs.Reading.{Fields}
use Rattle.pdtcli.specs.Output.{header_cells, header_fields}
use Rattle.pdtcli.specs.Records.{TakesFields}
use Rattle.pdtcli.proofs.image.push_header.Given as goal

-- the cells so far, and then those of the columns that are left, are the header
abbrev pub invariant-loop-col : goal.invariant-loop-col
invariant-loop-col l = record {
  added : (cells : Fields) × TakesFields l.fn.records l.records cells
      × (cells ++ header_cells l.schema.key_cols l.col (drop l.col l.schema.names) (drop l.col l.schema.types) ≡ header_fields l.schema);
  within : l.col-end ≡ length l.schema.types;
}
