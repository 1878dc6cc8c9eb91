use Rattle.std.proofs.Common.{◌≡◌, drop, map}
use Rattle.std.specs.Option.{option_or}
use Rattle.journal.specs.Reading.{logged_in}
use Rattle.images.specs.Mark.{bad_mark, number_in}
use Rattle.images.proofs.reading.last_number.Given as goal

-- the last mark of the rest counts, or else what was found before it; and none before it was bad
abbrev pub invariant-loop-frame : goal.invariant-loop-frame
invariant-loop-frame l = record {
  number :
      number_in l.generation (map logged_in l.frames)
      ≡ option_or (number_in l.generation (map logged_in (drop l.frame-index l.frames))) l.number;
  bad : bad_mark (map logged_in l.frames) ≡ bad_mark (map logged_in (drop l.frame-index l.frames));
}
