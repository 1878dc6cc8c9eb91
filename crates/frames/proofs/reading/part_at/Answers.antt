use Rattle.std.proofs.Common.{◌≡◌, ◌≤◌, length, sym, ap, subst, ◌∙◌, arith}
use Rattle.frames.specs.Reading.{Gives, found_now, payload_at, part_at}
use Rattle.frames.proofs.FrameLemmas.{part_at-stands}
use Rattle.frames.proofs.reading.part_at.Goals as goal

pub returns : goal.returns
returns c =
    let long : 16 ≤ length c.args.bytes.now = omega arith in
    let stands = sym c.may_stand.ensures ∙ c.if-not-may_stand.false in
    let body :
    payload_at c.args.col c.args.at c.head_at-head.result c.unwrap_or-kind.result c.split_at.result.1.now
    ≡ part_at c.args.col c.args.at c.args.seam.now c.args.bytes.now =
    ap (payload_at c.args.col c.args.at c.head_at-head.result c.unwrap_or-kind.result) c.split_at.ensures.back
    ∙ part_at-stands c.args.col c.args.at c.args.seam.now c.args.bytes.now c.head_at-head.result c.unwrap_or-kind.result long
    c.head_at-head.ensures stands c.unwrap_or-kind.ensures in
    subst (Gives found_now c.payload_at.result) body c.payload_at.ensures
