use Rattle.std.proofs.Common.{◌≡◌, drop, length, map}
use Rattle.devices.specs.Stored.{all_parts}
use Rattle.devices.specs.Turns.{AreAllInTurn}
use Rattle.devices.proofs.PartsLemmas.{columns_after}
use Rattle.devices.proofs.reading.read_parts.Given as goal

-- the blocks of the columns so far
abbrev pub invariant-loop-col : goal.invariant-loop-col
invariant-loop-col l =
    let columns = map (λ c. c.now) l.columns in
    record {
      read :
          columns_after (map (λ p. p.items) l.parts.items) (all_parts l.col (drop l.col l.types) (drop l.col columns))
          ≡ all_parts 0 l.types columns;
      turn : AreAllInTurn l.types (map (λ p. p.items) l.parts.items);
      count : length l.parts.items ≡ l.col;
    }
