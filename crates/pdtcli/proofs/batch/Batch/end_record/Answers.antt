use Rattle.std.proofs.Common.{subst}
use Rattle.std.specs.Io.KnownBytes.{Appends}
use Rattle.pdtcli.specs.Records.{IsWritten}
use Rattle.pdtcli.proofs.BatchLemmas.{handed_on}
use Rattle.pdtcli.proofs.batch.Batch.end_record.Goals as goal

pub returns : goal.returns
returns g c = λ text fields is.
    let whole = c.in_ok-text.ensures _ (c.in_ok-end_record.ensures text fields is) in
    handed_on _ _ _ _ (subst (Appends _ _) whole c.in_ok-send.ensures.bytes)
    (subst (IsWritten _) c.in_ok-send.ensures.empty c.in_ok-after.ensures)
