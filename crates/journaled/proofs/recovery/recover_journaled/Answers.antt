use Rattle.std.proofs.Common.{List, refl, subst, sym}
use Rattle.std.specs.Io.KnownBytes.{Appends}
use Rattle.values.specs.declared.row.Row.{Row}
use Rattle.devices.specs.Stored.{Image}
use Rattle.manager.specs.Managed.{Managed, newest_table}
use Rattle.model.specs.Table.{rows_of}
use Rattle.pdtcli.specs.Output.{image_text}
use Rattle.pdtcli.specs.declared.refusal.Refusal.TheVariants.{Commits, Output}
use Rattle.journaled.specs.Recovery.{Pair}
use Rattle.pdtcli.proofs.CallerLemmas.{passed_up}
use Rattle.journaled.proofs.RecoveryLemmas.{recovered}
use Rattle.journaled.proofs.recovery.recover_journaled.Goals as goal

pub returns-in_err-recovered-clause-refused : goal.returns-in_err-recovered-clause-refused
returns-in_err-recovered-clause-refused g c =
    let lent = c.in_ok-pair.pair in
    let pair : Pair = record { images = lent.images; marks = lent.marks.now; commits = lent.commits; frames = lent.frames.now } in
    let image : Image = record { generation = c.in_ok-image.image.generation; table = c.in_ok-image.image.table } in
    passed_up c.from_residual-in_err-recovered.result (Commits c.in_err-recovered.field-0.0) _
    c.from_residual-in_err-recovered.ensures.1
    (record {
      pair = pair;
      image = image;
      number = c.in_ok-number.number;
      read = record {
        pair_is = sym c.in_ok-pair.ensures;
        image_is = c.in_ok-image.ensures;
        number_is = rw (c.seed-seed.ensures.seed, c.base-base.ensures) at c.in_ok-number.ensures.ok;
      };
      told = rw (c.seed.ensures.seed, c.base.ensures) at c.in_err-recovered.ensures.fault;
      caused =
          rw (c.seed.ensures.seed, c.base.ensures, c.limits.ensures.row_limit, c.limits.ensures.recent) at c.in_err-recovered.ensures.caused;
      named = rw (c.seed.ensures.seed, c.base.ensures) at c.in_err-recovered.ensures.named;
      sound = rw (c.seed.ensures.seed, c.base.ensures) at c.in_err-recovered.ensures.sound;
    })

pub returns-in_err-show_image-clause-refused : goal.returns-in_err-show_image-clause-refused
returns-in_err-show_image-clause-refused g c =
    let lent = c.in_ok-pair.pair in
    let pair : Pair = record { images = lent.images; marks = lent.marks.now; commits = lent.commits; frames = lent.frames.now } in
    let image : Image = record { generation = c.in_ok-image.image.generation; table = c.in_ok-image.image.table } in
    let manager : Managed = c.in_ok-recovered.recovered.manager in
    passed_up c.from_residual-in_err-show_image.result (Output c.in_err-show_image.field-0.0) _
    c.from_residual-in_err-show_image.ensures.1 (
      rows_of (newest_table manager),
      recovered c.args.schema.now _ pair image c.in_ok-number.number manager
          (record {
            pair_is = sym c.in_ok-pair.ensures;
            image_is = c.in_ok-image.ensures;
            number_is = rw (c.seed-seed.ensures.seed, c.base-base.ensures) at c.in_ok-number.ensures.ok;
          })
          (rw (c.seed.ensures.seed, c.base.ensures) at c.in_ok-recovered.ensures.rows)
          (rw (c.seed.ensures.seed, c.base.ensures) at c.in_ok-recovered.ensures.ending)
          (rw (c.seed.ensures.seed, c.base.ensures) at c.in_ok-recovered.ensures.reached)
          (rw (c.seed.ensures.seed, c.base.ensures) at c.in_ok-recovered.ensures.read)
          (rw (c.seed.ensures.seed, c.base.ensures) at c.in_ok-recovered.ensures.prefix),
    )

pub returns-clause-shown : goal.returns-clause-shown
returns-clause-shown g c =
    let lent = c.in_ok-pair.pair in
    let pair : Pair = record { images = lent.images; marks = lent.marks.now; commits = lent.commits; frames = lent.frames.now } in
    let image : Image = record { generation = c.in_ok-image.image.generation; table = c.in_ok-image.image.table } in
    let manager : Managed = c.in_ok-recovered.recovered.manager in (
      rows_of (newest_table manager),
      recovered c.args.schema.now _ pair image c.in_ok-number.number manager
          (record {
            pair_is = sym c.in_ok-pair.ensures;
            image_is = c.in_ok-image.ensures;
            number_is = rw (c.seed-seed.ensures.seed, c.base-base.ensures) at c.in_ok-number.ensures.ok;
          })
          (rw (c.seed.ensures.seed, c.base.ensures) at c.in_ok-recovered.ensures.rows)
          (rw (c.seed.ensures.seed, c.base.ensures) at c.in_ok-recovered.ensures.ending)
          (rw (c.seed.ensures.seed, c.base.ensures) at c.in_ok-recovered.ensures.reached)
          (rw (c.seed.ensures.seed, c.base.ensures) at c.in_ok-recovered.ensures.read)
          (rw (c.seed.ensures.seed, c.base.ensures) at c.in_ok-recovered.ensures.prefix),
      subst
          (λ (rs : List Row). Appends (g.W.Write.contents c.args.out.now) (g.W.Write.contents c.show_image.new.out)
          (image_text c.args.schema.now rs))
          c.newest.ensures.rows c.in_ok-show_image.ensures,
      refl,
    )
