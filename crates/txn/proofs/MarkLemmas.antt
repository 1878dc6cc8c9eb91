-- A transaction with the first of its writes is one, and a mark stands as long as they are there.
use Rattle.std.proofs.Common.{◌≡◌, ℕ, zero, suc, ◌≤◌, Bool, true, false, ◌||◌, cond, List, [], ◌∷◌, length, take, refl, sym, ap, ◌∙◌, subst, arith}
use Rattle.std.specs.List.{list_all}
use Rattle.std.proofs.lemmas.Float.{T_from_true}
use Rattle.std.proofs.lemmas.List.{append-nil, length-take, take_all, take-take, take-map, take-append-le, length-append}
use Rattle.model.specs.declared.write.Write.{Write}
use Rattle.model.specs.declared.write.WriteReply.{WriteReply}
use Rattle.model.specs.Table.{Table}
use Rattle.model.specs.Effects.{Effects}
use Rattle.model.specs.Writes.{write_fits_schema, is_done, effects_after, reply_to, replies_to}
use Rattle.txn.specs.Txn.{Transaction, asked_of, tree_of, with_write, IsTransaction, IsMet}
use Rattle.txn.specs.Marks.{Marked, mark_of, with_first, IsMark, GoesOn, MarksStand}
use Rattle.txn.proofs.TxnLemmas.{is_true}
use Rattle.delta.proofs.CallerLemmas.{all_take}
use Rattle.std.proofs.lemmas.Grind.{common_steps}

-- the replies to the first writes are the first replies
replies_to-take : (key_cols limit : ℕ) (t : Table) (n : ℕ) (x : Effects) (writes : List Write)
    → take n (replies_to key_cols limit t x writes) ≡ replies_to key_cols limit t x (take n writes)
replies_to-take key_cols limit t zero x writes = refl
replies_to-take key_cols limit t (suc n) x [] = refl
replies_to-take key_cols limit t (suc n) x (w ∷ writes) =
    ap (λ rs. reply_to key_cols limit t x w ∷ rs) (replies_to-take key_cols limit t n (effects_after key_cols limit t x w) writes)

module _ (txn : Transaction) (h : IsTransaction txn) (count : ℕ) where
  abbrev asked-first : asked_of (with_first count txn) ≡ take count (asked_of txn)
  asked-first = sym (take-map (λ (w : Write × WriteReply). w.0) count txn.writes)

  pub first_IsTransaction : IsTransaction (with_first count txn)
  first_IsTransaction = record {
    lawful = h.lawful;
    table = h.table;
    within = h.within;
    limited = h.limited;
    fitting =
        ap (list_all (write_fits_schema txn.schema)) asked-first
        ∙ is_true _ (all_take (write_fits_schema txn.schema) count (asked_of txn)
        (T_from_true (list_all (write_fits_schema txn.schema) (asked_of txn)) h.fitting));
    answered =
        sym (take-map (λ (w : Write × WriteReply). w.1) count txn.writes)
        ∙ ap (take count) h.answered
        ∙ replies_to-take txn.schema.key_cols txn.limit txn.table count [] (asked_of txn)
        ∙ ap (replies_to txn.schema.key_cols txn.limit txn.table []) (sym asked-first);
  }

-- ---- how long a mark stands

abbrev with_writes : Transaction → List (Write × WriteReply) → Transaction
with_writes txn writes = record txn { writes = writes }

-- a mark that is made is one of its transaction
pub made_IsMark : (txn : Transaction) → IsMark (mark_of txn) txn
made_IsMark txn = grind (arith, common_steps)

-- it stays one where further writes follow
pub written_IsMark : (mark : Marked) (old new : Transaction) → IsMark mark old → GoesOn old new → IsMark mark new
written_IsMark mark old new m g = grind (arith, common_steps)

-- and where the transaction goes back to no fewer writes than the mark has
pub gone_back_IsMark : (mark : Marked) (txn : Transaction) (count : ℕ) → IsMark mark txn → mark.count ≤ count
    → IsMark mark (with_first count txn)
gone_back_IsMark mark txn count m le = grind (arith, common_steps)

-- a transaction that stays as it is goes on with no writes
pub refused_GoesOn : (old new : Transaction) → new ≡ old → GoesOn old new
refused_GoesOn old new same = record { later = []; new_is = same ∙ ap (with_writes old) (sym (append-nil old.writes)) }

goes_on_where : (recorded : Bool) (old new : Transaction) (write : Write) (reply : WriteReply)
    → new ≡ cond recorded (with_write old write reply) old → GoesOn old new
goes_on_where true old new write reply kept = record { later = (write, reply) ∷ []; new_is = kept }
goes_on_where false old new write reply kept = refused_GoesOn old new kept

-- an answered write goes on, whether it is recorded or not
pub met_GoesOn : (with_refusals : Bool) (old new : Transaction) (write : Write) (reply : WriteReply)
    → IsMet with_refusals old write reply new → GoesOn old new
met_GoesOn with_refusals old new write reply met = goes_on_where (with_refusals || is_done reply) old new write reply met.kept

pub marks_stand : MarksStand
marks_stand = record { made = made_IsMark; written = written_IsMark; gone_back = gone_back_IsMark }

-- ---- the fields of a transaction that goes back

-- they are kept where its writes are the first ones, and its tree is that of the mark
pub back_kept : (txn self : Transaction) (view : txn ≡ self) (h : IsTransaction txn) (mark args : Marked) (same : mark ≡ args)
    → IsMark args self → (writes : List (Write × WriteReply)) → writes ≡ take mark.count txn.writes
    → IsTransaction (with_writes txn writes) × (mark.tree ≡ tree_of (with_writes txn writes))
back_kept txn self view h mark args same m writes items = grind (arith, common_steps, first_IsTransaction)
