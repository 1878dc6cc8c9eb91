-- Transactions over the base table, computed by the definitions.
use Rattle.std.proofs.Common.{◌≡◌, ℕ, ◌+◌, ◌≤◌, Option, Some, None, List, [], ◌∷◌, map, length, pos, codes, nat_cmp, lit≤, refl, arith, rules}
use Rattle.std.specs.Prelude.{slice_set, IsTrue}
use Rattle.std.specs.List.{list_all}
use Rattle.values.specs.Shape.{Columns, cell_fault}
use Rattle.values.specs.declared.fault.ShapeFault.TheVariants.{KeyColumn}
use Rattle.values.specs.declared.row.Row.{Row}
use Rattle.values.specs.declared.row.Key.{Key}
use Rattle.values.specs.declared.value.Value.{Value}
use Rattle.values.specs.declared.value.Value.TheVariants.{Int, Text}
use Rattle.values.specs.declared.value.ColumnType.TheVariants as column
use Rattle.model.specs.declared.entry.Entry.{Entry}
use Rattle.model.specs.declared.entry.Change.TheVariants.{Ins, Del}
use Rattle.model.specs.declared.effect.Effect.{Effect}
use Rattle.model.specs.declared.effect.Effect.TheVariants as effect
use Rattle.model.specs.declared.write.Write.{Write}
use Rattle.model.specs.declared.write.Write.TheVariants.{Insert, Delete, Set}
use Rattle.model.specs.declared.write.WriteReply.{WriteReply}
use Rattle.model.specs.declared.write.WriteReply.TheVariants.{Done, Duplicate, Full, Missing}
use Rattle.model.specs.declared.write.CommitReply.{CommitReply}
use Rattle.model.specs.declared.write.CommitReply.TheVariants.{Committed, Conflict, TooOld, Full as TableFull}
use Rattle.model.specs.Maps.{put}
use Rattle.model.specs.Table.{Table, rows_of, row_at}
use Rattle.model.specs.Effects.{Cells, Effects}
use Rattle.model.specs.Composition.{composed_effect}
use Rattle.model.specs.Writes.{write_fits_schema, replies_to, effects_after_all}
use Rattle.model.specs.Entries.{entry_at, canonical_entries}
use Rattle.model.specs.declared.clash.ConflictRule.{ConflictRule}
use Rattle.model.specs.declared.clash.ConflictRule.TheVariants.{ByColumn, ByRow}
use Rattle.model.specs.History.{Start, Record, IsLegal, IsLegalRecord, writes_of, replies_of, effects_of_record, due_reply, commits_of, table_after, table_with_all}
use Rattle.std.proofs.lemmas.Grind.{common_steps}

-- ---- what a write that is done makes of the effect on its key

insert_on_nothing : (row : Row) → composed_effect (effect.Ins row) None ≡ Some (effect.Ins row)
insert_on_nothing row = refl

insert_on_delete : (row : Row) → composed_effect (effect.Ins row) (Some effect.Del) ≡ Some (effect.Rep row)
insert_on_delete row = refl

delete_on_nothing : composed_effect effect.Del None ≡ Some effect.Del
delete_on_nothing = refl

delete_on_insert : (row : Row) → composed_effect effect.Del (Some (effect.Ins row)) ≡ None
delete_on_insert row = refl

delete_on_modify : (cells : Cells) → composed_effect effect.Del (Some (effect.Mod cells)) ≡ Some effect.Del
delete_on_modify cells = refl

delete_on_replacement : (row : Row) → composed_effect effect.Del (Some (effect.Rep row)) ≡ Some effect.Del
delete_on_replacement row = refl

abbrev set_cell : ℕ → Value → Option Effect → Option Effect
set_cell c v old = composed_effect (effect.Mod ((c, v) ∷ [])) old

set_on_nothing : (c : ℕ) (v : Value) → set_cell c v None ≡ Some (effect.Mod ((c, v) ∷ []))
set_on_nothing c v = refl

set_on_modify : (c : ℕ) (v : Value) (cells : Cells) → set_cell c v (Some (effect.Mod cells)) ≡ Some (effect.Mod (put nat_cmp c v cells))
set_on_modify c v cells = refl

set_on_insert : (c : ℕ) (v : Value) (row : Row) → set_cell c v (Some (effect.Ins row)) ≡ Some (effect.Ins (slice_set row c v))
set_on_insert c v row = refl

set_on_replacement : (c : ℕ) (v : Value) (row : Row) → set_cell c v (Some (effect.Rep row)) ≡ Some (effect.Rep (slice_set row c v))
set_on_replacement c v row = refl

-- ---- the base table: id:int:key, name:text, qty:int

abbrev pub schema : Columns
schema = record { names = codes "id" ∷ codes "name" ∷ codes "qty" ∷ []; types = column.Int ∷ column.Text ∷ column.Int ∷ []; key_cols = 1 }

abbrev pub id : ℕ → Key
id n = Int (pos n) ∷ []

abbrev pub item : ℕ → List ℕ → ℕ → Row
item n name qty = Int (pos n) ∷ Text name ∷ Int (pos qty) ∷ []

abbrev pub named : ℕ → List ℕ → ℕ → Key × Row
named n name qty = (id n, item n name qty)

abbrev pub base : Table
base = named 10 (codes "Ann") 1 ∷ named 20 (codes "Bob") 2 ∷ named 30 (codes "Cid") 3 ∷ []

abbrev pub keys : Table → List Key
keys t = map (λ e. e.0) t

abbrev limit : ℕ
limit = 2147483647

abbrev set_qty : ℕ → ℕ → Write
set_qty n qty = Set (id n) 2 (Int (pos qty))

-- a record of a client
abbrev by : ℕ → ℕ → List (Write × WriteReply) → CommitReply → Record
by client begin writes reply = record { client = client; begin = begin; writes = writes; reply = reply }

abbrev a : ℕ
a = 0

abbrev b : ℕ
b = 1

abbrev c : ℕ
c = 2

-- a history that starts from a table under a rule, with ample limits
abbrev under : ConflictRule → Table → Start
under rule t = record { table = t; base = 0; limit = limit; recent = 64; rule = rule }

abbrev legal : Start → List Record → Type 0
legal start history = IsLegal schema start history

-- a record that began at a number that is still there
kept : {start : Start} {commits : List Effects} {r : Record} → r.begin ≤ start.base + length commits → start.base ≤ r.begin →
    IsTrue (list_all (write_fits_schema schema) (writes_of r)) →
    replies_of r ≡ replies_to schema.key_cols start.limit (table_after start commits r.begin) [] (writes_of r) →
    r.reply ≡ due_reply start commits r.begin (effects_of_record schema start commits r) →
    IsLegalRecord schema start commits r
kept {start} {commits} {r} begun above fitting answered replied = search rules

-- the newest table of a history
abbrev newest : Start → List Record → Table
newest start history = table_with_all start.table (commits_of schema start history)

-- the entries of a transaction that begins at the base table
abbrev entries : List Write → List Entry
entries writes = canonical_entries base (effects_after_all 1 limit base [] writes)

-- the first row of an empty table
abbrev first_row : List Record
first_row = by a 0 ((Insert (item 5 (codes "Eve") 0), Done) ∷ []) (Committed 1) ∷ []

the_first_row_of_an_empty_table : legal (under ByColumn []) first_row
the_first_row_of_an_empty_table = (kept (lit≤ tt) (lit≤ tt) refl refl refl, tt)

first_image : rows_of (newest (under ByColumn []) first_row) ≡ item 5 (codes "Eve") 0 ∷ []
first_image = refl

first_entries : canonical_entries [] (effects_after_all 1 limit [] [] (Insert (item 5 (codes "Eve") 0) ∷ [])) ≡ entry_at 0 (Ins (item 5 (codes "Eve") 0)) ∷ []
first_entries = refl

-- refused writes leave the image
abbrev refused : List Record
refused = by a 0 ((Insert (item 20 (codes "Bob") 2), Duplicate) ∷ (Delete (id 25), Missing) ∷ []) (Committed 1) ∷ []

refused_writes_leave_the_image : legal (under ByColumn base) refused
refused_writes_leave_the_image = (kept (lit≤ tt) (lit≤ tt) refl refl refl, tt)

refused_image : newest (under ByColumn base) refused ≡ base
refused_image = refl

a_key_cell_cannot_be_set : cell_fault schema 0 (Int (pos 21)) ≡ Some KeyColumn
a_key_cell_cannot_be_set = refl

-- an insert that is changed and then deleted leaves no entry
abbrev undone : List Record
undone = by a 0 ((Insert (item 25 (codes "Dee") 4), Done) ∷ (set_qty 25 5, Done) ∷ (Delete (id 25), Done) ∷ []) (Committed 1) ∷ []

an_insert_changed_and_deleted_leaves_no_entry : legal (under ByColumn base) undone
an_insert_changed_and_deleted_leaves_no_entry = (kept (lit≤ tt) (lit≤ tt) refl refl refl, tt)

undone_entries : entries (Insert (item 25 (codes "Dee") 4) ∷ set_qty 25 5 ∷ Delete (id 25) ∷ []) ≡ []
undone_entries = refl

undone_image : newest (under ByColumn base) undone ≡ base
undone_image = refl

-- a replaced row is an insert and a delete at one place, and conflicts with a modify
abbrev bea : Row
bea = item 20 (codes "Bea") 9

abbrev replacing : List Record
replacing = by a 0 ((Delete (id 20), Done) ∷ (Insert bea, Done) ∷ []) (Committed 1) ∷ by b 0 ((set_qty 20 7, Done) ∷ []) (Conflict 1) ∷ []

a_replaced_row_conflicts_with_a_modify : (rule : ConflictRule) → legal (under rule base) replacing
a_replaced_row_conflicts_with_a_modify rule = (kept (lit≤ tt) (lit≤ tt) refl refl refl, (kept (lit≤ tt) (lit≤ tt) refl refl refl, tt))

replacing_entries : entries (Delete (id 20) ∷ Insert bea ∷ []) ≡ entry_at 1 (Ins bea) ∷ entry_at 1 (Del (id 20)) ∷ []
replacing_entries = refl

-- modifies of two columns both commit
abbrev two_columns : List Record
two_columns = by a 0 ((Set (id 20) 1 (Text (codes "Bea")), Done) ∷ []) (Committed 1) ∷ by b 0 ((set_qty 20 7, Done) ∷ []) (Committed 2) ∷ []

modifies_of_two_columns_both_commit : legal (under ByColumn base) two_columns
modifies_of_two_columns_both_commit = (kept (lit≤ tt) (lit≤ tt) refl refl refl, (kept (lit≤ tt) (lit≤ tt) refl refl refl, tt))

two_columns_image : rows_of (newest (under ByColumn base) two_columns)
    ≡ item 10 (codes "Ann") 1 ∷ item 20 (codes "Bea") 7 ∷ item 30 (codes "Cid") 3 ∷ []
two_columns_image = refl

-- by row the later one conflicts
abbrev two_columns_by_row : List Record
two_columns_by_row =
    by a 0 ((Set (id 20) 1 (Text (codes "Bea")), Done) ∷ []) (Committed 1) ∷ by b 0 ((set_qty 20 7, Done) ∷ []) (Conflict 1) ∷ []

modifies_of_two_columns_conflict_by_row : legal (under ByRow base) two_columns_by_row
modifies_of_two_columns_conflict_by_row = (kept (lit≤ tt) (lit≤ tt) refl refl refl, (kept (lit≤ tt) (lit≤ tt) refl refl refl, tt))

two_columns_by_row_image : rows_of (newest (under ByRow base) two_columns_by_row)
    ≡ item 10 (codes "Ann") 1 ∷ item 20 (codes "Bea") 2 ∷ item 30 (codes "Cid") 3 ∷ []
two_columns_by_row_image = refl

-- modifies to the value that is there conflict all the same
abbrev same_value : List Record
same_value = by a 0 ((set_qty 20 2, Done) ∷ []) (Committed 1) ∷ by b 0 ((set_qty 20 2, Done) ∷ []) (Conflict 1) ∷ []

same_value_modifies_conflict : (rule : ConflictRule) → legal (under rule base) same_value
same_value_modifies_conflict ByColumn = (kept (lit≤ tt) (lit≤ tt) refl refl refl, (kept (lit≤ tt) (lit≤ tt) refl refl refl, tt))
same_value_modifies_conflict ByRow = (kept (lit≤ tt) (lit≤ tt) refl refl refl, (kept (lit≤ tt) (lit≤ tt) refl refl refl, tt))

-- only inserts of one key conflict
abbrev inserting : ℕ → List (Write × WriteReply)
inserting n = (Insert (item n [] 0), Done) ∷ []

abbrev three_inserts : List Record
three_inserts = by a 0 (inserting 25) (Committed 1) ∷ by b 0 (inserting 25) (Conflict 1) ∷ by c 0 (inserting 26) (Committed 2) ∷ []

only_inserts_of_one_key_conflict : (rule : ConflictRule) → legal (under rule base) three_inserts
only_inserts_of_one_key_conflict rule =
    (kept (lit≤ tt) (lit≤ tt) refl refl refl, (kept (lit≤ tt) (lit≤ tt) refl refl refl, (kept (lit≤ tt) (lit≤ tt) refl refl refl, tt)))

three_inserts_keys : keys (newest (under ByColumn base) three_inserts) ≡ id 10 ∷ id 20 ∷ id 25 ∷ id 26 ∷ id 30 ∷ []
three_inserts_keys = refl

-- a commit that another one undid still conflicts
abbrev undone_by_another : List Record
undone_by_another =
    by b 0 (inserting 25) (Committed 1) ∷ by c 1 ((Delete (id 25), Done) ∷ []) (Committed 2) ∷ by a 0 (inserting 25) (Conflict 2)
    ∷ []

a_commit_undone_by_another_still_conflicts : (rule : ConflictRule) → legal (under rule base) undone_by_another
a_commit_undone_by_another_still_conflicts rule =
    (kept (lit≤ tt) (lit≤ tt) refl refl refl, (kept (lit≤ tt) (lit≤ tt) refl refl refl, (kept (lit≤ tt) (lit≤ tt) refl refl refl, tt)))

-- write skew commits
abbrev skewed : List Record
skewed = by a 0 ((set_qty 20 0, Done) ∷ []) (Committed 1) ∷ by b 0 ((set_qty 10 0, Done) ∷ []) (Committed 2) ∷ []

write_skew_commits : (rule : ConflictRule) → legal (under rule base) skewed
write_skew_commits rule = (kept (lit≤ tt) (lit≤ tt) refl refl refl, (kept (lit≤ tt) (lit≤ tt) refl refl refl, tt))

skewed_image : rows_of (newest (under ByColumn base) skewed)
    ≡ item 10 (codes "Ann") 0 ∷ item 20 (codes "Bob") 0 ∷ item 30 (codes "Cid") 3 ∷ []
skewed_image = refl

-- an old begin is decided with as many commits since as are kept, and too old with one more
abbrev old_begins : List Record
old_begins =
    by b 0 [] (Committed 1) ∷ by b 1 [] (Committed 2) ∷ by a 0 ((set_qty 30 9, Done) ∷ []) (Committed 3) ∷ by c 0 [] (TooOld 3)
    ∷ []

an_old_begin_is_decided_or_too_old : legal (record (under ByColumn base) { recent = 2 }) old_begins
an_old_begin_is_decided_or_too_old = grind (arith, common_steps, kept, lit≤)

-- the row limit holds within a transaction and across transactions
abbrev at_most_four : List Record
at_most_four =
    by a 0 ((Insert (item 40 [] 0), Done) ∷ (Insert (item 41 [] 0), Full) ∷ []) (Committed 1)
    ∷ by b 0 (inserting 50) (TableFull 1) ∷ []

the_row_limit_holds_in_and_across_transactions : legal (record (under ByColumn base) { limit = 4 }) at_most_four
the_row_limit_holds_in_and_across_transactions = (kept (lit≤ tt) (lit≤ tt) refl refl refl, (kept (lit≤ tt) (lit≤ tt) refl refl refl, tt))

at_most_four_keys : keys (newest (record (under ByColumn base) { limit = 4 }) at_most_four) ≡ id 10 ∷ id 20 ∷ id 30 ∷ id 40 ∷ []
at_most_four_keys = refl

-- ---- numbers go on after a cut: the newest table is the start, with the number of commits that made it

abbrev dee : Row
dee = item 25 (codes "Dee") 4

abbrev before_the_cut : List Record
before_the_cut = by b 0 ((Insert dee, Done) ∷ []) (Committed 1) ∷ []

a_commit_before_the_cut : legal (under ByColumn base) before_the_cut
a_commit_before_the_cut = (kept (lit≤ tt) (lit≤ tt) refl refl refl, tt)

abbrev cut_once : Start
cut_once = record (under ByColumn (newest (under ByColumn base) before_the_cut)) { base = 1 }

-- c began at the cut, a before it, and d at the newest table
abbrev after_the_cut : List Record
after_the_cut =
    by c 1 ((set_qty 30 9, Done) ∷ []) (Committed 2)
    ∷ by a 0 ((set_qty 10 9, Done) ∷ []) (TooOld 2)
    ∷ by 3 2 [] (Committed 3)
    ∷ []

-- a's snapshot was the base table
too_old : IsLegalRecord schema cut_once (commits_of schema cut_once (by c 1 ((set_qty 30 9, Done) ∷ []) (Committed 2) ∷ []))
    (by a 0 ((set_qty 10 9, Done) ∷ []) (TooOld 2))
too_old = record {
  begun = lit≤ tt;
  fitting = refl;
  snapshot = base;
  is_snapshot = record { kept = λ above. absurd (omega (arith, above)); cut = λ below. record { keyed = refl; fitting = refl } };
  answered = refl;
  replied = refl;
}

numbers_go_on_after_a_cut : legal cut_once after_the_cut
numbers_go_on_after_a_cut = (kept (lit≤ tt) (lit≤ tt) refl refl refl, (too_old, (kept (lit≤ tt) (lit≤ tt) refl refl refl, tt)))

-- d reads 25,Dee,4
the_row_of_before_the_cut : row_at (table_after cut_once (commits_of schema cut_once after_the_cut) 2) (id 25) ≡ Some dee
the_row_of_before_the_cut = refl

-- another cut has the next base
the_next_base : cut_once.base + length (commits_of schema cut_once after_the_cut) ≡ 3
the_next_base = refl
