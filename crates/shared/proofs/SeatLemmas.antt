-- What a session keeps while the list that it has seen grows, and what it begins.
use Rattle.std.proofs.Common.{◌≡◌, ℕ, Option, Some, None, List, [], refl, sym, ap, ◌∙◌, subst, arith}
use mathlib.Core.List.{IsPrefix}
use Rattle.txn.specs.Txn.{Transaction, transaction_at}
use Rattle.txn.specs.Version.{TableVersion}
use Rattle.manager.specs.Managed.{Managed}
use Rattle.publishing.specs.declared.item.Item.{Item}
use Rattle.publishing.specs.Lists.{Opened, Known, table_at, version_in, IsBegun}
use Rattle.publishing.proofs.CallerLemmas.{begun_more, prefix_trans}
use Rattle.publishing.specs.declared.reading.ReadingFault.{ReadingFault}
use Rattle.publishing.specs.declared.reading.ReadingFault.TheVariants.{Ended, NoMemory}
use Rattle.shared.specs.Faults.{fault_of_reading}
use Rattle.shared.specs.Sessions.{IsOfSeat, IsNote}
use Rattle.shared.specs.declared.fault.BeginFault.TheVariants.{AlreadyOpen}

pub seat_more : (o : Managed) (client : ℕ) (xs ys : List Item) (t : Option Transaction) → IsPrefix xs ys → IsOfSeat o client xs t
    → IsOfSeat o client ys t
seat_more o client xs ys (Some txn) p s = (begun_more o xs ys txn p s.0, s.1)
seat_more o client xs ys None p s = tt

pub note_more : (opening : Opened) (xs ys : List Item) (n : Option Known) → IsPrefix xs ys → IsNote opening xs n → IsNote opening ys n
note_more opening xs ys (Some known) p s = (s.0, prefix_trans known.list xs ys s.1 p)
note_more opening xs ys None p s = tt

-- a transaction over the version of a list began in it
pub begun_now : (o : Managed) (list : List Item) (v : TableVersion) (limit client : ℕ) → v ≡ version_in o list → limit ≡ o.start.limit →
    IsBegun o list (transaction_at v limit client [])
begun_now o list v limit client is same =
    let number = ap (λ (w : TableVersion). w.number) is in
    record {
      schema = ap (λ (w : TableVersion). w.schema) is;
      limit = same;
      from_base = omega (arith, number);
      begun = omega (arith, number);
      snapshot = ap (λ (w : TableVersion). w.table) is ∙ sym (ap (table_at o list) number);
    }

pub seat_begun : (o : Managed) (list : List Item) (v : TableVersion) (limit client : ℕ) (t : Option Transaction) →
    v ≡ version_in o list → limit ≡ o.start.limit → t ≡ Some (transaction_at v limit client []) → IsOfSeat o client list t
seat_begun o list v limit client t is same now =
    subst (IsOfSeat o client list) (sym now) (begun_now o list v limit client is same, refl)

-- a fault of a reader is another one than a transaction that is open
pub never_already : (fault : ReadingFault) → AlreadyOpen ≡ fault_of_reading fault → ⊥
never_already Ended h = cc h
never_already NoMemory h = cc h
