use Rattle.std.proofs.Common.{◌≡◌, map, drop}
use Rattle.devices.specs.Store.{have_failed}
use Rattle.devices.proofs.store.have_failed.Given as goal

abbrev pub invariant-loop-device : goal.invariant-loop-device
invariant-loop-device g l =
    have_failed (map g.D.ColumnDevice.failures (drop l.device-index l.devices))
    ≡ have_failed (map g.D.ColumnDevice.failures l.devices)
