-- A commit that is decided keeps the other transactions of its manager.
use Rattle.std.proofs.Common.{◌≡◌, ℕ, ◌+◌, ◌-◌, ◌≤◌, List, [], ◌∷◌, ◌++◌, length, refl, sym, ap, ◌∙◌, subst, arith}
use Rattle.std.proofs.lemmas.List.{take-append-le, length-append}
use Rattle.model.specs.declared.write.CommitReply.{CommitReply}
use Rattle.model.specs.declared.write.CommitReply.TheVariants.{Committed, Conflict, TooOld, Full}
use Rattle.model.specs.Effects.{Effects}
use Rattle.model.specs.History.{Record, table_with_all, table_after, commits_with, effects_of_record}
use Rattle.txn.specs.Txn.{Transaction}
use Rattle.manager.specs.Managed.{Managed, commits_in, IsDecided, IsOwn, record_of, with_record}
use Rattle.manager.proofs.CallerLemmas.{commits_from-append, own_over}

-- a record that commits nothing leaves the tables
own_same : (m : Managed) (r : Record) (txn : Transaction) → commits_in (with_record m r) ≡ commits_in m → IsOwn m txn
    → IsOwn (with_record m r) txn
own_same m r txn is h =
    subst
    (λ (cs : List Effects).
    (txn.begin ≤ m.start.base + length cs) × (m.start.base ≤ txn.begin → txn.table ≡ table_after m.start cs txn.begin)
    → IsOwn (with_record m r) txn)
    is (λ k. record { schema = h.schema; limit = h.limit; begun = k.0; snapshot = k.1 }) (h.begun, h.snapshot)

-- one that does leaves those before it
own_later : (m : Managed) (r : Record) (txn : Transaction) (reply : CommitReply) (x : Effects)
    → commits_in (with_record m r) ≡ commits_with (commits_in m) x reply → IsOwn m txn → IsOwn (with_record m r) txn
own_later m r txn (Committed n) x longer h =
    let grown = length-append (commits_in m) (x ∷ []) in
    let more = subst (λ (cs : List Effects). length (commits_in m) ≤ length cs) (sym longer) (omega (arith, grown)) in
    let before = take-append-le (txn.begin - m.start.base) (commits_in m) (x ∷ []) (omega (arith, h.begun)) in
    record {
      schema = h.schema;
      limit = h.limit;
      begun = omega (arith, h.begun, more);
      snapshot =
          λ above. h.snapshot above
          ∙ ap (table_with_all m.start.table) (sym before)
          ∙ ap (λ (cs : List Effects). table_after m.start cs txn.begin) (sym longer);
    }
own_later m r txn (Conflict n) x is h = own_same m r txn is h
own_later m r txn (TooOld n) x is h = own_same m r txn is h
own_later m r txn (Full n) x is h = own_same m r txn is h

own_with_record : (m : Managed) (r : Record) (txn : Transaction) → IsOwn m txn → IsOwn (with_record m r) txn
own_with_record m r txn h =
    own_later m r txn r.reply (effects_of_record m.schema m.start (commits_in m) r)
    (commits_from-append m.schema m.start [] m.history r) h

-- a decided commit keeps the other transactions of the manager
pub own_decided : (m : Managed) (txn : Transaction) (reply : CommitReply) (new : Managed) → IsDecided m txn reply new
    → (other : Transaction) → IsOwn m other → IsOwn new other
own_decided m txn reply new h other own =
    subst (λ (n : Managed). IsOwn n other) (sym h.kept)
    (own_over (with_record m (record_of txn reply)) new.layers other (own_with_record m (record_of txn reply) other own))
