use Rattle.std.proofs.Common.{◌≡◌, map, take}
use Rattle.devices.specs.Store.{appended}
use Rattle.devices.proofs.store.append_all.Given as goal

abbrev pub invariant-loop-i : goal.invariant-loop-i
invariant-loop-i g l =
    let contents = g.D.ColumnDevice.contents in
    let failures = g.D.ColumnDevice.failures in
    record {
      contents : map contents l.devices ≡ appended (map contents l.initial.devices) (take l.i (map (λ p. p.items) l.pieces));
      failures : map failures l.devices ≡ map failures l.initial.devices;
    }
