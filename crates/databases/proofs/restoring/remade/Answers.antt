use Rattle.std.proofs.Common.{ℕ, List, inl, subst, sym, ◌∙◌}
use Rattle.devices.specs.Stored.{Image}
use Rattle.manager.specs.Managed.{newest_table}
use Rattle.model.specs.Table.{rows_of}
use Rattle.databases.specs.Restored.{AreRemade, IsUnmade}
use Rattle.databases.proofs.restoring.remade.Goals as goal

pub returns-in-Err-clause-err : goal.returns-in-Err-clause-err
returns-in-Err-clause-err c generation =
    let image : Image = record { generation = generation; table = c.args.image.table } in
    inl
    (subst
    (λ (bytes : List ℕ). IsUnmade image c.args.image.number c.args.table c.args.seed c.args.journal.now.base bytes c.in-Err.fault)
    c.as_slice.ensures.value (record {
      told = c.in-Err.ensures.fault;
      caused = rw (c.limits.ensures.row_limit, c.limits.ensures.recent) at c.in-Err.ensures.caused;
      named = c.in-Err.ensures.named;
      sound = c.in-Err.ensures.sound;
    }))

pub returns-then-is_chain-clause-ok : goal.returns-then-is_chain-clause-ok
returns-then-is_chain-clause-ok c generation =
    let image : Image = record { generation = generation; table = c.args.image.table } in
    subst
    (λ (bytes : List ℕ). AreRemade image c.args.image.number c.args.table c.args.seed c.args.journal.now.base bytes
    (rows_of (newest_table c.in-Ok.recovered.manager)))
    c.as_slice.ensures.value
    (record {
      rows_are = c.in-Ok.ensures.rows;
      ending = c.in-Ok.ensures.ending;
      newest = sym c.in-Ok.ensures.number ∙ c.in-Ok.ensures.newest;
      reached = c.in-Ok.ensures.reached;
      read = c.in-Ok.ensures.read;
      prefix = λ t commits safe crash is.
          let p = c.in-Ok.ensures.prefix t commits safe crash is in
          record {
            whole = p.whole;
            enough = p.enough;
            inside = p.inside;
            number = sym c.in-Ok.ensures.newest ∙ p.number;
            rows_are = p.rows_are;
          };
    })
