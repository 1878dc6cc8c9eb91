use Rattle.std.proofs.Common.{◌≡◌, ◌≤◌, ◌-◌, length, map}
use Rattle.values.specs.declared.value.Value.TheVariants.{Text}
use Rattle.blocks.specs.Reading.{texts_at}
use Rattle.blocks.proofs.ReadLemmas.{after}
use Rattle.blocks.proofs.reading.read_texts.Given as goal

abbrev pub invariant-loop-i : goal.invariant-loop-i
invariant-loop-i l = record {
  left : length l.rest ≤ length l.bytes;
  counted : length l.texts ≡ l.i;
  read : after (map Text l.texts) (texts_at l.i (length l.bytes - length l.rest) (l.count - l.i) l.rest) ≡ texts_at 0 0 l.count l.bytes;
}
