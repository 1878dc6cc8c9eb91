use Rattle.std.proofs.Common.{sym}
use Rattle.std.specs.Int.{w32, w64, to_be_bytes}
use Rattle.journal.specs.Header.{all_ones}
use Rattle.journal.proofs.CheckLemmas.{crc-five}
use Rattle.journal.proofs.header.check_of.Goals as goal

pub returns : goal.returns
returns c =
    rw (
      c.crc_from.ensures,
      c.crc_from-register-4.ensures,
      c.crc_from-register-3.ensures,
      c.crc_from-register-2.ensures,
      c.crc_from-register.ensures,
      c.to_be_bytes.ensures,
      c.to_be_bytes-2.ensures,
      c.to_be_bytes-3.ensures,
      c.to_be_bytes-4.ensures,
      c.to_be_bytes-5.ensures,
      c.salt.ensures,
      c.store.ensures,
      c.base.ensures,
    ) (sym (crc-five all_ones (to_be_bytes w32 0x4e4d4a31) (to_be_bytes w32 1) (to_be_bytes w64 c.args.header.now.salt)
    (to_be_bytes w64 c.args.header.now.store) (to_be_bytes w64 c.args.header.now.base)))
