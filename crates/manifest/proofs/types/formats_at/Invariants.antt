use Rattle.std.proofs.Common.{◌≡◌, ◌-◌}
use Rattle.manifest.specs.Types.{formats_at, formats_now}
use Rattle.manifest.proofs.TypesLemmas.{with_formats}
use Rattle.manifest.proofs.types.formats_at.Given as goal

abbrev pub invariant-loop-column : goal.invariant-loop-column
invariant-loop-column l =
    with_formats (formats_now l.formats.items) (formats_at (l.width - l.column) l.column l.rest) ≡ formats_at l.width 0 l.bytes
