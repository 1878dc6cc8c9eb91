use Rattle.std.proofs.Common.{◌≡◌, ℕ, ◌<◌, ◌++◌, List, length, map, get_or, set, sym, ap, ◌∙◌, get_or-set_same, Vec, Global, arith}
use Rattle.std.proofs.lemmas.List.{get_or-map, length-map, length-set}
use Rattle.std.proofs.Math.Seq.{map-set_same}
use Rattle.devices.proofs.StoreLemmas.{none_at, some_at, put_device, put_piece}
use Rattle.devices.proofs.store.append_all.Goals as goal
use Rattle.std.proofs.lemmas.Grind.{common_steps}

abbrev items : Vec ℕ Global → List ℕ
items p = p.items

pub append-requires : goal.append-requires
append-requires g c =
    let failures = g.D.ColumnDevice.failures in
    let lt : c.loop-i.i < length c.loop-i.devices = omega arith in
    sym (get_or-map failures c.loop-i.devices c.loop-i.i c.index-devices-i.result 0 lt)
    ∙ ap (λ (ns : List ℕ). get_or ns c.loop-i.i 0) c.loop-i.invariant.failures
    ∙ none_at (map failures c.args.devices.now) c.loop-i.i c.requires.sound

pub returns-in-Err-clause-stopped : goal.returns-in-Err-clause-stopped
returns-in-Err-clause-stopped g c = grind (arith, common_steps, c.in-Err.ensures.part.0, c.requires.even, c.as_slice.ensures.value, c.index-pieces-i.is, c.loop-i.invariant.contents, c.in-Err.ensures.part.1, length-map, get_or-map, put_device)

pub returns-in-Err-clause-failed : goal.returns-in-Err-clause-failed
returns-in-Err-clause-failed g c =
    let failures = g.D.ColumnDevice.failures in
    let i = c.loop-i.i in
    let d = c.index-devices-i.result in
    let lt : i < length c.loop-i.devices = omega arith in
    let now = set c.loop-i.devices i c.append.new.self in
    let at : get_or (map failures now) i 0 ≡ failures c.append.new.self =
    get_or-map failures now i d 0 (omega (arith, length-set c.loop-i.devices i c.append.new.self))
    ∙ ap failures (get_or-set_same c.loop-i.devices i c.append.new.self d lt) in
    some_at (map failures now) i (omega (arith, at, c.in-Err.ensures.counted))

pub loop-i-preserved : goal.loop-i-preserved
loop-i-preserved g c =
    let contents = g.D.ColumnDevice.contents in
    let failures = g.D.ColumnDevice.failures in
    let i = c.loop-i.i in
    let d = c.index-devices-i.result in
    let pieces = c.args.pieces.now in
    let old = map contents c.args.devices.now in
    let lt : i < length c.loop-i.devices = omega arith in
    let few : i < length pieces = omega (arith, c.requires.even) in
    let even : length c.loop-i.devices ≡ length old = omega (arith, length-map c.args.devices.now contents) in
    let took : contents c.append.new.self ≡ contents (get_or c.loop-i.devices i d) ++ items (get_or pieces i c.index-pieces-i.result) =
    c.in-Ok.ensures.whole
    ∙ ap (λ (x : List ℕ). contents (get_or c.loop-i.devices i d) ++ x) (c.as_slice.ensures.value ∙ ap items c.index-pieces-i.is)
    in
    record {
      contents =
          put_piece contents failures items c.loop-i.devices pieces old i d c.append.new.self c.index-pieces-i.result lt even few
          c.loop-i.invariant.contents took;
      failures = map-set_same failures c.loop-i.devices i c.append.new.self d c.in-Ok.ensures.sound ∙ c.loop-i.invariant.failures;
    }
