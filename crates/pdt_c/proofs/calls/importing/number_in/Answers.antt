use Rattle.std.proofs.Common.{◌≢◌, ◌≤◌, ◌<◌, ◌^◌, ◌+◌, map}
use Rattle.devices.specs.Stored.{Image}
use Rattle.journal.specs.Header.{seed_of}
use Rattle.journal.specs.Reading.{read_of}
use Rattle.pdt_c.specs.Importing.{IsUnmarked, IsUntold}
use Rattle.pdt_c.specs.declared.calls.importing.Untold.{Untold}
use Rattle.pdt_c.specs.declared.codes.TheConstants.{BAD_STORE, DONE, ROT}
use Rattle.pdt_c.proofs.ImportingLemmas.{err_then, untold_of}
use Rattle.pdt_c.proofs.calls.importing.number_in.Goals as goal

pub returns-in-Ok-clause-err : goal.returns-in-Ok-clause-err
returns-in-Ok-clause-err c =
    let image : Image = record { generation = c.in-Ok.image.generation; table = c.in-Ok.image.table } in
    let columns = map (λ c'. c'.now) c.args.columns.now in
    let seed = seed_of c.args.salt in
    let base = c.args.base in
    let marks = c.args.frames.now in
    err_then
    (λ (e : Untold). (e.code ≢ DONE) × (e.code ≢ BAD_STORE)
    × (base < 2 ^ 63 → ROT ≤ e.code → IsUnmarked base image.generation (read_of seed (base + 1) marks) e.code e.place))
    (λ (e : Untold). IsUntold c.args.header.now columns seed base marks e.code e.place)
    (λ e told. untold_of c.args.header.now columns seed base marks image e.code e.place c.in-Ok.ensures.ok told)
    c.number_by.result c.number_by.ensures.err
