use Rattle.std.proofs.Common.{add-one, refl}
use Rattle.manifest.specs.Types.{IsFormat}
use Rattle.manifest.proofs.TypesLemmas.{put_more}
use Rattle.manifest.proofs.WritingLemmas.{all_at, all_more}
use Rattle.manifest.proofs.types.put_formats.Goals as goal

pub returns-then-not-is_format-clause-only : goal.returns-then-not-is_format-clause-only
returns-then-not-is_format-clause-only c = λ all unlawful.
    let is =
    c.if-not-is_format.ensures.1
    (all_at IsFormat (λ f. f.now) c.args.formats.now c.loop-column.column _ c.loop-column-test.true all) in
    absurd (cc is)

pub loop-column-preserved : goal.loop-column-preserved
loop-column-preserved c =
    let formats = c.args.formats.now in
    let at = c.loop-column.column in
    rw add-one record {
      spelt =
          put_more (λ f. f.now) formats at _ c.args.out.now.items c.loop-column.out.items c.put_format.new.out.items c.loop-column-test.true
          c.loop-column.invariant.spelt c.in_ok-put_format.ensures;
      lawful =
          all_more IsFormat (λ f. f.now) formats at _ c.loop-column-test.true c.loop-column.invariant.lawful (c.if-not-is_format.ensures.0 refl);
    }
