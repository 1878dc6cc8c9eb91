use Rattle.std.proofs.Common.{map}
use Rattle.devices.specs.Stored.{Image}
use Rattle.segments.specs.Pieces.{piece_now}
use Rattle.databases.proofs.restoring.restore_table.Goals as goal

pub returns-in-Ok-remade-clause-ok : goal.returns-in-Ok-remade-clause-ok
returns-in-Ok-remade-clause-ok c =
    let found = c.in-Ok-whole_image.found in
    let image : Image = record { generation = found.1.generation; table = found.1.table } in
    record {
      image = image;
      pieces = map piece_now c.in-Ok.journal.pieces.items;
      base = c.in-Ok.journal.base;
      frames = c.in-Ok.journal.frames.items;
      joined = c.in-Ok.ensures.ok;
      whole = c.in-Ok-whole_image.ensures.ok;
      remade = rw c.seed_of.ensures at (c.in-Ok-remade.ensures.ok found.1.generation);
      chain = rw c.seed_of.ensures at (c.in-Ok-remade.ensures.chain found.1.generation);
    }

pub returns-clause-err : goal.returns-clause-err
returns-clause-err c =
    let found = c.in-Ok-whole_image.found in
    let image : Image = record { generation = found.1.generation; table = found.1.table } in
    record {
      schema = found.0;
      image = image;
      pieces = map piece_now c.in-Ok.journal.pieces.items;
      base = c.in-Ok.journal.base;
      frames = c.in-Ok.journal.frames.items;
      joined = c.in-Ok.ensures.ok;
      whole = c.in-Ok-whole_image.ensures.ok;
      unmade = rw c.seed_of.ensures at (c.in-Err-remade.ensures.err found.1.generation);
    }
