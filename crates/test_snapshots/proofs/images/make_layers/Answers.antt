use Rattle.test_snapshots.proofs.images.make_layers.Goals as goal

pub returns : goal.returns
returns c = (
  c.in_ok-read.ensures.0,
  c.in_ok-read.ensures.1,
  c.in_ok-write.ensures.0,
  c.in_ok-write.ensures.1,
  c.in_ok-trans.ensures.0,
)
