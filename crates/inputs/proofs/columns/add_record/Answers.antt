use Rattle.std.proofs.Common.{arith}
use Rattle.csv.specs.Records.{fields_of}
use Rattle.inputs.specs.Filling.{types_in}
use Rattle.inputs.proofs.FillingLemmas.{row_of-many}
use Rattle.inputs.proofs.columns.add_record.Goals as goal

pub returns-then-number-clause-err : goal.returns-then-number-clause-err
returns-then-number-clause-err c ne =
    row_of-many (types_in c.args.columns.now.items) c.args.number (fields_of c.args.fields.now) (omega arith)
