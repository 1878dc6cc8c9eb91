-- What a transaction's type keeps, write by write.
use Rattle.std.proofs.Common.{◌≡◌, ℕ, ◌^◌, ◌≤◌, Bool, true, false, cond, T, Option, Some, None, is_some, List, [], ◌∷◌, ◌++◌, length, refl, sym, ap, ◌∙◌, subst, arith, rules}
use Rattle.std.specs.Prelude.{IsTrue}
use Rattle.std.specs.List.{list_all}
use Rattle.std.proofs.lemmas.Float.{T_from_true}
use Rattle.std.proofs.lemmas.List.{map-append}
use Rattle.values.specs.Orders.{key_cmp}
use Rattle.values.specs.Shape.{Columns}
use Rattle.values.specs.declared.row.Key.{Key}
use Rattle.model.specs.declared.effect.Effect.{Effect}
use Rattle.model.specs.declared.effect.Effect.TheVariants as effect
use Rattle.model.specs.declared.entry.Entry.{Entry}
use Rattle.model.specs.declared.write.Write.{Write}
use Rattle.model.specs.declared.write.Write.TheVariants.{Insert, Delete, Set}
use Rattle.model.specs.declared.write.WriteReply.{WriteReply}
use Rattle.model.specs.Maps.{find}
use Rattle.model.specs.Table.{Table, rank}
use Rattle.model.specs.Effects.{Effects, all_fit, table_with, AreOver}
use Rattle.model.specs.Writes.{write_fits_schema, key_of_write, reply_where, reply_to, is_done, effects_after, replies_to, effects_after_all}
use Rattle.model.specs.Entries.{are_ordered, canonical_entries}
use Rattle.model.specs.Edits.{edited_entries}
use Rattle.model.proofs.CallerLemmas.{both, first, second, all_keep, keeps, edits, length-effects_after, ordered-canonical_entries, rank-le-length}
use Rattle.delta.specs.Search.{insert_cmp, stands_before, IsSplit}
use Rattle.delta.specs.Tree.{Tree}
use Rattle.delta.specs.Laws.{row_inserted, FindsEffect, MayEdit}
use Rattle.delta.proofs.CallerLemmas.{finds_effect, may_call, length-entries_over}
use Rattle.txn.specs.Edit.{edited, MayBeEdited}
use Rattle.txn.specs.Txn.{Transaction, asked_of, answers_of, effects_of, image_of, entries_of, tree_of, IsTransaction, IsFound, with_write, answer_to}
use Rattle.std.proofs.lemmas.Grind.{common_steps}

pub is_true : (b : Bool) → T b → IsTrue b
is_true true h = refl
is_true false h = absurd h

-- ---- the edit, by whether the row was inserted

module _ (key_cols sid : ℕ) where
  edited-edited_entries : (write : Write) (old : Option Effect) (entries : List Entry)
      → edited key_cols sid (is_some (row_inserted old)) write entries ≡ edited_entries key_cols sid write old entries
  edited-edited_entries (Insert row) old entries = refl
  edited-edited_entries (Delete key) None entries = refl
  edited-edited_entries (Delete key) (Some (effect.Ins row)) entries = refl
  edited-edited_entries (Delete key) (Some effect.Del) entries = refl
  edited-edited_entries (Delete key) (Some (effect.Mod cells)) entries = refl
  edited-edited_entries (Delete key) (Some (effect.Rep row)) entries = refl
  edited-edited_entries (Set key col value) None entries = refl
  edited-edited_entries (Set key col value) (Some (effect.Ins row)) entries = refl
  edited-edited_entries (Set key col value) (Some effect.Del) entries = refl
  edited-edited_entries (Set key col value) (Some (effect.Mod cells)) entries = refl
  edited-edited_entries (Set key col value) (Some (effect.Rep row)) entries = refl

  may_be-may : (write : Write) (old : Option Effect) (entries : List Entry) → MayEdit key_cols sid write old entries
      → MayBeEdited key_cols sid (is_some (row_inserted old)) write entries
  may_be-may (Insert row) old entries h = h
  may_be-may (Delete key) None entries h = h
  may_be-may (Delete key) (Some (effect.Ins row)) entries h = h
  may_be-may (Delete key) (Some effect.Del) entries h = h
  may_be-may (Delete key) (Some (effect.Mod cells)) entries h = h
  may_be-may (Delete key) (Some (effect.Rep row)) entries h = h
  may_be-may (Set key col value) None entries h = h
  may_be-may (Set key col value) (Some (effect.Ins row)) entries h = h
  may_be-may (Set key col value) (Some effect.Del) entries h = h
  may_be-may (Set key col value) (Some (effect.Mod cells)) entries h = h
  may_be-may (Set key col value) (Some (effect.Rep row)) entries h = h

-- ---- one write after the others

module _ (key_cols limit : ℕ) (t : Table) where
  pub effects_after_all-append : (x : Effects) (writes : List Write) (write : Write)
      → effects_after_all key_cols limit t x (writes ++ write ∷ [])
      ≡ effects_after key_cols limit t (effects_after_all key_cols limit t x writes) write
  effects_after_all-append x [] write = refl
  effects_after_all-append x (w ∷ writes) write = effects_after_all-append (effects_after key_cols limit t x w) writes write

  pub replies_to-append : (x : Effects) (writes : List Write) (write : Write)
      → replies_to key_cols limit t x (writes ++ write ∷ [])
      ≡ replies_to key_cols limit t x writes ++ reply_to key_cols limit t (effects_after_all key_cols limit t x writes) write
      ∷ []
  replies_to-append x [] write = refl
  replies_to-append x (w ∷ writes) write =
      ap (λ rs. reply_to key_cols limit t x w ∷ rs) (replies_to-append (effects_after key_cols limit t x w) writes write)

list_all-append : {A : Type 0} (p : A → Bool) (xs : List A) (x : A) → T (list_all p xs) → T (p x) → T (list_all p (xs ++ x ∷ []))
list_all-append p [] x h k = both (p x) true k tt
list_all-append p (y ∷ xs) x h k = both (p y) _ (first (p y) _ h) (list_all-append p xs x (second (p y) _ h) k)

-- no write takes the image past the limit
limit_kept : (schema : Columns) (limit : ℕ) (t : Table) (x : Effects) (writes : List Write) → AreOver schema t x
    → T (list_all (write_fits_schema schema) writes) → length (table_with t x) ≤ limit
    → length (table_with t (effects_after_all schema.key_cols limit t x writes)) ≤ limit
limit_kept schema limit t x [] over fit within = within
limit_kept schema limit t x (w ∷ writes) over fit within =
    limit_kept schema limit t (effects_after schema.key_cols limit t x w) writes
    (keeps schema limit t x w over (is_true (write_fits_schema schema w) (first (write_fits_schema schema w) _ fit)))
    (second (write_fits_schema schema w) _ fit)
    (length-effects_after schema limit t x w over within)

module _ (txn : Transaction) (h : IsTransaction txn) where
  -- the effects of a transaction fit its table
  pub over : AreOver txn.schema txn.table (effects_of txn)
  over =
      all_keep txn.schema txn.limit txn.table [] (asked_of txn)
      (record { table = h.table; effects_are = record { keyed = refl; fitting = refl }; fit = refl }) h.fitting

  effects_fit : T (all_fit txn.table (effects_of txn))
  effects_fit = T_from_true (all_fit txn.table (effects_of txn)) over.fit

  -- its image has no more rows than the limit
  pub image_within : length (image_of txn) ≤ txn.limit
  image_within = grind (arith, common_steps, limit_kept)

  pub entries_few : length (entries_of txn) ≤ 2 ^ 40
  entries_few = grind (arith, common_steps, length-entries_over, over, image_within)

  -- ---- what it finds at a key

  module _ (key : Key) where
    pub finds : FindsEffect txn.schema txn.table (effects_of txn) key
    finds = finds_effect txn.schema txn.table (effects_of txn) key over

  -- ---- one write more

  module _ (write : Write) (fits_it : IsTrue (write_fits_schema txn.schema write)) where
    abbrev pub key : Key
    key = key_of_write txn.schema.key_cols write

    abbrev pub next : Transaction
    next = with_write txn write (answer_to txn write)

    asked-next : asked_of next ≡ asked_of txn ++ write ∷ []
    asked-next = map-append (λ w. w.0) txn.writes ((write, answer_to txn write) ∷ [])

    answers-next : answers_of next ≡ answers_of txn ++ answer_to txn write ∷ []
    answers-next = map-append (λ w. w.1) txn.writes ((write, answer_to txn write) ∷ [])

    pub is_next : IsTransaction next
    is_next = grind (arith, common_steps, list_all-append, asked-next, is_true, answers-next, replies_to-append)

    effects_of-next : effects_of next ≡ effects_after txn.schema.key_cols txn.limit txn.table (effects_of txn) write
    effects_of-next = grind (arith, common_steps, asked-next, effects_after_all-append)

    abbrev pub was_inserted : Bool
    was_inserted = is_some (row_inserted (find key_cmp key (effects_of txn)))

    -- its entries are those before, with the one change where it is done
    pub entries_of-next :
        entries_of next ≡ cond (is_done (answer_to txn write))
        (edited txn.schema.key_cols (rank key txn.table) was_inserted write (entries_of txn)) (entries_of txn)
    entries_of-next =
        ap (canonical_entries txn.table) effects_of-next
        ∙ edits txn.schema txn.limit txn.table (effects_of txn) write over
        ∙ ap (λ es. cond (is_done (answer_to txn write)) es (entries_of txn))
        (sym (edited-edited_entries txn.schema.key_cols (rank key txn.table) write (find key_cmp key (effects_of txn))
        (entries_of txn)))

    pub may : IsTrue (is_done (answer_to txn write))
        → MayBeEdited txn.schema.key_cols (rank key txn.table) was_inserted write (entries_of txn)
    may done =
        may_be-may txn.schema.key_cols (rank key txn.table) write (find key_cmp key (effects_of txn)) (entries_of txn)
        (may_call txn.schema txn.limit txn.table (effects_of txn) write over fits_it done)

-- ---- a write as the code makes it

-- what is known of a write that fits, once its key was looked up
pub record IsSeen (txn : Transaction) (write : Write) (sid : ℕ) (inserted : Bool) (reply : WriteReply) : Type 0 where
  pub fits : IsTrue (write_fits_schema txn.schema write)
  pub sid_is : sid ≡ rank (key_of_write txn.schema.key_cols write) txn.table
  pub inserted_is : inserted ≡ is_some (row_inserted (find key_cmp (key_of_write txn.schema.key_cols write) (effects_of txn)))
  pub due : reply ≡ answer_to txn write

-- it is seen by what was found at its key and by how many rows the image has
pub seen : (txn self : Transaction) (view : txn ≡ self) (write : Write) (columns : Columns) (key_cols : ℕ) (key : Key)
    (sid count : ℕ) (there inserted : Bool) (reply : WriteReply)
    → IsTrue (write_fits_schema self.schema write)
    → columns ≡ self.schema → key_cols ≡ columns.key_cols → key ≡ key_of_write key_cols write
    → IsFound self key sid there inserted → count ≡ length (image_of self) → reply ≡ reply_where txn.limit there count write
    → IsSeen txn write sid inserted reply
seen txn self view write columns key_cols key sid count there inserted reply fits_it columns_are cols_is key_is found_is count_is reply_is =
    search rules

-- its tree is in order, and what is found of a key's place is of it
module _ (txn : Transaction) (h : IsTransaction txn) (tree : Tree) (tree_is : tree ≡ tree_of txn) where
  pub tree_ordered : IsTrue (are_ordered tree.key_cols tree.entries)
  tree_ordered = grind (arith, common_steps, is_true, ordered-canonical_entries, over, effects_fit)

  pub tree_split : (self : Transaction) (view : txn ≡ self) (write : Write) (columns : Columns) (key_cols : ℕ) (key : Key)
      (sid n : ℕ)
      → columns ≡ self.schema → key_cols ≡ columns.key_cols → key ≡ key_of_write key_cols write
      → IsSplit (stands_before (insert_cmp self.schema.key_cols key) sid) (entries_of self) n
      → IsSplit (stands_before (insert_cmp tree.key_cols (key_of_write tree.key_cols write)) sid) tree.entries n
  tree_split self view write columns key_cols key sid n columns_are cols_is key_is split = search rules

module _ (txn : Transaction) (h : IsTransaction txn) (tree : Tree) (tree_is : tree ≡ tree_of txn) (write : Write) (sid : ℕ)
    (inserted : Bool) (reply : WriteReply) (s : IsSeen txn write sid inserted reply) where
  pub seen_place : sid ≤ 2147483647
  seen_place = omega (arith, rank-le-length)

  abbrev edited_tree : Tree → ℕ → Bool → List Entry
  edited_tree t n b = edited t.key_cols n b write t.entries

  edit_is :
      edited_tree tree sid inserted
      ≡ edited txn.schema.key_cols (rank (key_of_write txn.schema.key_cols write) txn.table) (was_inserted txn h write s.fits)
      write (entries_of txn)
  edit_is i = edited_tree (tree_is i) (s.sid_is i) (s.inserted_is i)

  pub seen_may : IsTrue (is_done reply) → MayBeEdited tree.key_cols sid inserted write tree.entries
  seen_may done = grind (arith, common_steps, may)

  -- the entries afterwards
  next_entries : cond (is_done reply) (edited_tree tree sid inserted) tree.entries ≡ entries_of (with_write txn write reply)
  next_entries =
      (λ i. cond (is_done (s.due i)) (edit_is i) (tree_is i).entries)
      ∙ sym (entries_of-next txn h write s.fits)
      ∙ ap (λ r. entries_of (with_write txn write r)) (sym s.due)

  pub seen_next : IsTransaction (with_write txn write reply)
  seen_next = subst (λ r. IsTransaction (with_write txn write r)) (sym s.due) (is_next txn h write s.fits)

  pub seen_room : IsTrue (is_done reply) → length (edited_tree tree sid inserted) ≤ 2 ^ 40
  seen_room done =
      let same : edited_tree tree sid inserted ≡ entries_of (with_write txn write reply) =
      sym (ap (λ b. cond b (edited_tree tree sid inserted) tree.entries) done) ∙ next_entries in
      subst (λ (es : List Entry). length es ≤ 2 ^ 40) (sym same) (entries_few (with_write txn write reply) seen_next)

  pub seen_tree :
      record tree { entries = cond (is_done reply) (edited_tree tree sid inserted) tree.entries }
      ≡ tree_of (with_write txn write reply)
  seen_tree i = record { key_cols = (tree_is i).key_cols; entries = next_entries i }
