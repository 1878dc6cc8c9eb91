use Rattle.std.proofs.Common.{arith, sym, subst, ℕ, take, drop, List}
use Rattle.std.proofs.lemmas.List.{take_rest}
use Rattle.std.proofs.Math.Seq.{take-add}
use Rattle.std.proofs.KnownBytes.{Appends-trans}
use Rattle.std.specs.Io.KnownBytes.{Appends}
use Rattle.logging.proofs.file.write_front.Goals as goal

pub loop-at-preserved : goal.loop-at-preserved
loop-at-preserved g c =
    let bytes = c.args.bytes.now in
    let at = c.loop-at.at in
    let count = c.in-Ok.count in
    let first = g.W.Write.contents c.args.file.now in
    let new = g.W.Write.contents c.write.new.self in
    let more : Appends (g.W.Write.contents c.loop-at.file) new (take count (drop at bytes)) =
    subst (λ (xs : List ℕ). Appends (g.W.Write.contents c.loop-at.file) new (take count xs)) (take_rest bytes at) c.in-Ok.ensures.bytes in
    record {
      within = grind (arith, c.in-Ok.ensures.bound, take_rest bytes at, c.loop-at-test.true);
      taken =
          subst (λ (xs : List ℕ). Appends first new xs) (sym (take-add at count bytes))
          (Appends-trans _ _ _ _ _ c.loop-at.invariant.taken more);
    }
