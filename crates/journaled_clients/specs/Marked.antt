-- The mark of an image.
use Rattle.std.specs.Prelude.{ℕ}
use Rattle.images.specs.declared.mark.ImageMark.{ImageMark}
use Rattle.manager.specs.Managed.{Managed, newest_number}

-- of the newest table, under a generation
abbrev pub mark_of : ℕ → Managed → ImageMark
mark_of generation manager = record { generation = generation; number = newest_number manager }
