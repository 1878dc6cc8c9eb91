use Rattle.std.proofs.Common.{◌≡◌, ◌<◌, ◌-◌, [], Some, Ok, length, sym, ap, ◌∙◌, arith}
use Rattle.std.proofs.lemmas.Bool.{eqb-true, eqb-false}
use Rattle.std.proofs.lemmas.Result.{err_from_is_err_and}
use Rattle.frames.specs.Reading.{found_now, frame_at, frames_of, parts_after}
use Rattle.frames.proofs.TakesLemmas.{frame_shorter, frame_leaves}
use Rattle.frames.proofs.ReadLemmas.{reads_on, reads_torn, reads_fault, reads_end}
use Rattle.frames.proofs.reading.read_column.Goals as goal
use Rattle.std.proofs.lemmas.Grind.{common_steps}

pub loop-rest-init : goal.loop-rest-init
loop-rest-init c = grind (arith, common_steps, c.type_inv.bytes, c.new-parts.ensures.items, c.start-seam.ensures)

pub returns-in_err-frame : goal.returns-in_err-frame
returns-in_err-frame c =
    let e = err_from_is_err_and c.from_residual.result c.from_residual.ensures.1 in
    let some : 0 < length c.loop-rest.rest.now = omega (arith, eqb-false _ _ (sym c.is_empty.ensures ∙ c.loop-rest-test.true)) in
    rw (e.1, e.2) (reads_fault c.args.col (Some c.args.ty) (length c.args.bytes.now) c.loop-rest.seam c.loop-rest.rest.now
    c.loop-rest.parts.items (parts_after [] (frames_of c.args.col (Some c.args.ty) c.args.bytes.now)) some
    c.loop-rest.invariant.read c.in_err-frame.field-0.0 c.in_err-frame.ensures)

pub returns-in_default : goal.returns-in_default
returns-in_default c =
    let some : 0 < length c.loop-rest.rest.now = omega (arith, eqb-false _ _ (sym c.is_empty.ensures ∙ c.loop-rest-test.true)) in
    reads_torn c.args.col (Some c.args.ty) (length c.args.bytes.now) c.loop-rest.seam c.loop-rest.rest.now c.loop-rest.parts.items
    (parts_after [] (frames_of c.args.col (Some c.args.ty) c.args.bytes.now)) some c.loop-rest.invariant.read
    (c.in_ok-frame.ensures ∙ ap (λ f. Ok (found_now f)) c.in_default.is)

pub loop-rest-smaller : goal.loop-rest-smaller
loop-rest-smaller c = grind (arith, common_steps, c.loop-rest.invariant.bytes, c.in_ok-frame.ensures, c.in-Some.is, frame_shorter)

pub loop-rest-preserved : goal.loop-rest-preserved
loop-rest-preserved c =
    let at = length c.args.bytes.now - length c.loop-rest.rest.now in
    let e :
    frame_at c.args.col at (Some c.args.ty) c.loop-rest.seam c.loop-rest.rest.now
    ≡ Ok (Some (c.in-Some.frame, c.in-Some.after.now)) =
    c.in_ok-frame.ensures ∙ ap (λ f. Ok (found_now f)) c.in-Some.is in
    let shorter =
    frame_shorter c.args.col at (Some c.args.ty) c.loop-rest.seam c.loop-rest.rest.now c.in-Some.after.now c.in-Some.frame
    c.loop-rest.invariant.bytes e in
    let some : 0 < length c.loop-rest.rest.now = omega (arith, shorter) in
    record {
      left = omega (arith, shorter, c.loop-rest.invariant.left);
      bytes =
          frame_leaves c.args.col at (Some c.args.ty) c.loop-rest.seam c.loop-rest.rest.now c.in-Some.after.now c.in-Some.frame
          c.loop-rest.invariant.bytes e;
      read =
          rw (c.after-seam.ensures, c.in_ok-keep_block.ensures.ok)
          (reads_on c.args.col (Some c.args.ty) (length c.args.bytes.now) c.loop-rest.seam c.loop-rest.rest.now
          c.loop-rest.parts.items (parts_after [] (frames_of c.args.col (Some c.args.ty) c.args.bytes.now)) some
          c.loop-rest.invariant.read c.in-Some.frame c.in-Some.after.now shorter e);
    }

pub returns : goal.returns
returns c =
    reads_end c.args.col (Some c.args.ty) (length c.args.bytes.now) c.loop-rest.seam c.loop-rest.rest.now c.loop-rest.parts.items
    (parts_after [] (frames_of c.args.col (Some c.args.ty) c.args.bytes.now))
    (eqb-true _ _ (sym c.is_empty.ensures ∙ c.loop-rest-test.false)) c.loop-rest.invariant.read
