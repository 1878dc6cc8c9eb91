use Rattle.std.proofs.Common.{◌≡◌, ◌+◌, ◌++◌, map, take, drop}
use Rattle.journal.specs.Frame.{frame_bytes}
use Rattle.journal_steps.specs.Batch.{HaveRooms, HaveSizes, framed, payload_in}
use Rattle.journal_steps.proofs.batch.put_heads.Given as goal

-- the frames so far are filled, and with those of what is left they are all
abbrev pub invariant-loop-frame : goal.invariant-loop-frame
invariant-loop-frame l = record {
  number : l.number ≡ l.fn.first + l.frame-index;
  rooms : HaveRooms (map (λ v. v.items) (drop l.frame-index l.frames));
  sizes : HaveSizes (map (λ v. payload_in v.items) (drop l.frame-index l.frames));
  all : map (λ v. v.items) (take l.frame-index l.frames)
      ++ map (frame_bytes l.seed) (framed l.number l.durable (map (λ v. payload_in v.items) (drop l.frame-index l.frames)))
      ≡ map (frame_bytes l.seed) (framed l.fn.first l.durable (map (λ v. payload_in v.items) l.fn.frames));
}
