use Rattle.std.proofs.Common.{◌≡◌, None}
use Rattle.stable.specs.Rows.{rows_of}
use Rattle.stable.specs.Stable.{rows_fault}
use Rattle.stable.proofs.ColumnsLemmas.{faults_from}
use Rattle.stable.proofs.columns.first_fault_of.Given as goal

-- the rows so far have no fault
abbrev pub invariant-loop-sid : goal.invariant-loop-sid
invariant-loop-sid l = rows_fault l.schema 0 None (rows_of l.count l.columns) ≡ faults_from l.schema l.count l.columns l.sid
