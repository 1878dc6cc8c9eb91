use Rattle.std.proofs.Common.{ℕ, List, length, ap, Vec, Global, ◌∙◌, map, arith, rules}
use Rattle.std.proofs.lemmas.Grind.{common_steps}
use Rattle.std.proofs.lemmas.List.{length-map}
use Rattle.std.proofs.lemmas.List.FromFn.{length-map-range_with_len}
use Rattle.devices.proofs.AppendedLemmas.{ready_now, stays_or_is, stored_now}
use Rattle.devices.proofs.StoreLemmas.{StopsAt-handed, within_contents}
use Rattle.devices.proofs.store.Store.append_image.Goals as goal

abbrev items : Vec ℕ Global → List ℕ
items p = p.items

pub append_all-requires-clause-even : goal.append_all-requires-clause-even
append_all-requires-clause-even g c = grind (arith, common_steps, c.in_ok-pieces.ensures.pieces, c.requires, c.deref.ensures.value, c.deref_mut.ensures.value, length-map, length-map-range_with_len)

pub returns-in-Ok-clause-stored : goal.returns-in-Ok-clause-stored
returns-in-Ok-clause-stored g c = grind (arith, common_steps, c.in_ok-pieces.ensures, c.in_ok-ready.ensures.left, c.requires, stored_now)

pub returns-in-Ok-clause-ready : goal.returns-in-Ok-clause-ready
returns-in-Ok-clause-ready g c = grind (arith, common_steps, c.in_ok-pieces.ensures, c.in_ok-ready.ensures.left, c.requires, ready_now)

pub returns-clause-stored : goal.returns-clause-stored
returns-clause-stored g c =
    λ ready.
    let store = c.args.self.now in
    let made = c.in_ok-pieces.ensures in
    let left = c.in_ok-ready.ensures.left in
    stays_or_is store.schema c.args.table.now store.next _ _ c.requires made.schema made.lawful left made.blocks (ready (search rules))
    c.in-Err.i (within_contents _ _ c.in-Err.i (omega (arith, c.in-Err.ensures.within, ap length c.deref_mut.ensures.value)))
    (StopsAt-handed _ items c.in-Err.i _ _ _ _ c.deref.result.now _ c.in-Err.ensures.stopped c.deref_mut.ensures.value
    (ap (map items) c.deref.ensures.value ∙ made.pieces) (grind (arith, common_steps)))
