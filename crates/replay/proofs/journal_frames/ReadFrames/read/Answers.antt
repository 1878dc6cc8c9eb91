use Rattle.std.proofs.Common.{◌≡◌, ◌+◌, List, map, ap, ◌∙◌, arith}
use Rattle.journal.specs.Reading.{Read, logged_in, read_of}
use Rattle.journal.specs.declared.frame.Frame.{Frame}
use Rattle.replay.specs.Own.{size_of}
use Rattle.replay.proofs.PlaceLemmas.{read_size}
use Rattle.replay.proofs.journal_frames.ReadFrames.read.Goals as goal

-- the frames that were read are inside their bytes
pub spots_in-requires : goal.spots_in-requires
spots_in-requires c =
    let given = c.args.frames in
    let size = read_size given.seed given.base given.bytes.now in
    let same : size_of (map logged_in c.as_slice.result.now) ≡ size_of (read_of given.seed (given.base + 1) given.bytes.now).logged =
    ap (λ (fs : List Frame). size_of (map logged_in fs)) c.as_slice.ensures.value
    ∙ ap (λ (r : Read). size_of r.logged) c.in_ok-reading.ensures in
    let few = c.ranges.frames.1 in
    omega (arith, size, same, few)
