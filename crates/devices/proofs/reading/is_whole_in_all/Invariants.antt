use Rattle.std.proofs.Common.{◌≡◌, drop, map}
use Rattle.std.specs.List.{list_all}
use Rattle.devices.specs.Stored.{is_whole}
use Rattle.devices.proofs.reading.is_whole_in_all.Given as goal

abbrev pub invariant-loop-parts : goal.invariant-loop-parts
invariant-loop-parts l =
    list_all (is_whole l.generation) (map (λ p. p.items) (drop l.parts-index l.columns))
    ≡ list_all (is_whole l.generation) (map (λ p. p.items) l.columns)
