use Rattle.std.proofs.Common.{◌≡◌, ◌+◌, ◌++◌, ℕ, [], List, length}
use Rattle.inputs.specs.Cells.{prepend}
use Rattle.inputs.specs.Reading.{Fields, IsReading}
use Rattle.inputs.specs.Clients.{clients_of}
use Rattle.inputs.specs.Script.{calls_of}
use Rattle.inputs.proofs.script.read_calls.Given as goal

-- the records so far lead to where the reader stands, and their clients and calls are those so far
abbrev pub invariant-loop-number : goal.invariant-loop-number
invariant-loop-number l = record {
  count : l.number ≡ length l.calls.items + 1;
  reading : (read : List Fields) × ((text : List ℕ) → IsReading text [] l.fn.reader → IsReading text read l.reader)
      × ((more : List Fields) → clients_of [] (read ++ more) ≡ clients_of l.clients.items more)
      × ((more : List Fields)
      → calls_of l.schema [] 1 (read ++ more) ≡ prepend l.calls.items (calls_of l.schema l.clients.items l.number more));
}
