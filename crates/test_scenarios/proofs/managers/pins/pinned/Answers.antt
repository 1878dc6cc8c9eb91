use Rattle.std.proofs.Common.{◌≡◌, ℕ, Result, Ok, Err, refl, sym, subst, arith}
use Rattle.std.specs.Prelude.{IfOk}
use Rattle.txn.specs.Txn.{Transaction}
use Rattle.manager.specs.Managed.{Managed, IsOwn, begun_at}
use Rattle.manager.proofs.CallerLemmas.{newest_whole}
use Rattle.test_scenarios.proofs.managers.pins.pinned.Goals as goal

-- what begins is of the manager
own_begun : (m : Managed) (client : ℕ) → IsOwn m (begun_at m client)
own_begun m client = record { schema = refl; limit = refl; begun = omega arith; snapshot = λ above. sym (newest_whole m) }

if_ok : {A E : Type 0} {P Q : A → Type 0} (r : Result A E) → ((x : A) → P x → Q x) → IfOk r P → IfOk r Q
if_ok (Ok x) f h = f x h
if_ok (Err e) f h = h

pub returns : goal.returns
returns c =
    let m = c.args.manager.now in
    if_ok c.pin.result
    (λ pin begins client. subst (λ (txn : Transaction). IsOwn m txn) (sym (begins client)) (own_begun m client))
    c.pin.ensures.begins
