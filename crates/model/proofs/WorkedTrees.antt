-- Trees over the base table, computed by the definitions: folded, made consecutive, clashing and stacked.
use Rattle.std.proofs.Common.{◌≡◌, ℕ, false, Option, Some, None, List, [], ◌∷◌, codes, pos, refl}
use Rattle.values.specs.declared.row.Row.{Row}
use Rattle.values.specs.declared.value.Value.TheVariants.{Int, Text}
use Rattle.model.specs.declared.entry.Entry.{Entry}
use Rattle.model.specs.declared.entry.Change.TheVariants.{Ins, Del, Mod}
use Rattle.model.specs.declared.effect.Effect.TheVariants as effect
use Rattle.model.specs.declared.clash.Clash.{Clash}
use Rattle.model.specs.declared.clash.ConflictRule.{ConflictRule}
use Rattle.model.specs.declared.clash.ConflictRule.TheVariants.{ByColumn, ByRow}
use Rattle.model.specs.declared.clash.ClashKind.TheVariants.{InsertInsert, DeleteDelete, DeleteModify, ModifyModify}
use Rattle.model.specs.Table.{rows_of}
use Rattle.model.specs.Effects.{Effects, table_with}
use Rattle.model.specs.Composition.{composed_effects}
use Rattle.model.specs.Clashes.{conflicts}
use Rattle.model.specs.Entries.{entry_at, canonical_entries}
use Rattle.model.specs.Merging.{merged_rows}
use Rattle.model.specs.Places.{rid_of_insert, rid_of_base}
use Rattle.model.specs.Rebasing.{first_clash, rebased_entries}
use Rattle.model.specs.Folding.{folded_entries}
use Rattle.model.proofs.WorkedTransactions.{id, item, base, keys}

-- ---- effects on single keys

-- the key of the base table is its first column
abbrev key_cols : ℕ
key_cols = 1

abbrev new_row : ℕ → Row
new_row n = item n [] 0

abbrev inserts : ℕ → Effects
inserts n = (id n, effect.Ins (new_row n)) ∷ []

abbrev deletes : ℕ → Effects
deletes n = (id n, effect.Del) ∷ []

abbrev bea : Row
bea = item 20 (codes "Bea") 9

abbrev replaces_20 : Effects
replaces_20 = (id 20, effect.Rep bea) ∷ []

abbrev sets_qty : ℕ → ℕ → Effects
sets_qty n qty = (id n, effect.Mod ((2, Int (pos qty)) ∷ [])) ∷ []

-- to the row of key 20: another name, and a quantity
abbrev sets_both : ℕ → Effects
sets_both qty = (id 20, effect.Mod ((1, Text (codes "Bea")) ∷ (2, Int (pos qty)) ∷ [])) ∷ []

abbrev dee : ℕ → Row
dee qty = item 25 (codes "Dee") qty

abbrev inserts_dee : ℕ → Effects
inserts_dee qty = (id 25, effect.Ins (dee qty)) ∷ []

-- ---- Serialize passes smaller inserts alone

abbrev two_inserts : Effects
two_inserts = (id 15, effect.Ins (new_row 15)) ∷ (id 18, effect.Ins (new_row 18)) ∷ []

abbrev at_the_ghost : Effects
at_the_ghost = (id 16, effect.Ins (new_row 16)) ∷ (id 20, effect.Rep (new_row 20)) ∷ []

two_inserts_entries : canonical_entries base two_inserts ≡ entry_at 1 (Ins (new_row 15)) ∷ entry_at 1 (Ins (new_row 18)) ∷ []
two_inserts_entries = refl

at_the_ghost_entries :
    canonical_entries base at_the_ghost
    ≡ entry_at 1 (Ins (new_row 16)) ∷ entry_at 1 (Ins (new_row 20)) ∷ entry_at 1 (Del (id 20)) ∷ []
at_the_ghost_entries = refl

at_the_ghost_keys : keys (table_with base at_the_ghost) ≡ id 10 ∷ id 16 ∷ id 20 ∷ id 30 ∷ []
at_the_ghost_keys = refl

serialize_passes_smaller_inserts_alone : rebased_entries key_cols (canonical_entries base at_the_ghost) (canonical_entries base two_inserts)
    ≡ entry_at 1 (Ins (new_row 15)) ∷ entry_at 2 (Ins (new_row 18)) ∷ []
serialize_passes_smaller_inserts_alone = refl

serialized_entries_are_canonical :
    canonical_entries (table_with base at_the_ghost) two_inserts
    ≡ entry_at 1 (Ins (new_row 15)) ∷ entry_at 2 (Ins (new_row 18)) ∷ []
serialized_entries_are_canonical = refl

serialized_keys : keys (table_with (table_with base at_the_ghost) two_inserts) ≡ id 10 ∷ id 15 ∷ id 16 ∷ id 18 ∷ id 20 ∷ id 30 ∷ []
serialized_keys = refl

-- ---- upper trees fold into lower ones: the walk, and the composed effects

abbrev composed : Effects → Effects → List Entry
composed x f = canonical_entries base (composed_effects x f)

abbrev folded : Effects → Effects → List Entry
folded x f = folded_entries key_cols (canonical_entries base x) (canonical_entries (table_with base x) f)

abbrev round_the_ghost : Effects
round_the_ghost = (id 15, effect.Ins (new_row 15)) ∷ (id 25, effect.Ins (new_row 25)) ∷ []

abbrev round_the_ghost_folded : List Entry
round_the_ghost_folded = entry_at 1 (Ins (new_row 15)) ∷ entry_at 1 (Del (id 20)) ∷ entry_at 2 (Ins (new_row 25)) ∷ []

upper_round_the_ghost :
    canonical_entries (table_with base (deletes 20)) round_the_ghost
    ≡ entry_at 1 (Ins (new_row 15)) ∷ entry_at 1 (Ins (new_row 25)) ∷ []
upper_round_the_ghost = refl

composed_round_the_ghost : composed (deletes 20) round_the_ghost ≡ round_the_ghost_folded
composed_round_the_ghost = refl

folded_round_the_ghost : folded (deletes 20) round_the_ghost ≡ round_the_ghost_folded
folded_round_the_ghost = refl

composed_at_the_ghost : composed (deletes 20) ((id 20, effect.Ins bea) ∷ []) ≡ entry_at 1 (Ins bea) ∷ entry_at 1 (Del (id 20)) ∷ []
composed_at_the_ghost = refl

folded_at_the_ghost : folded (deletes 20) ((id 20, effect.Ins bea) ∷ []) ≡ entry_at 1 (Ins bea) ∷ entry_at 1 (Del (id 20)) ∷ []
folded_at_the_ghost = refl

composed_into_an_insert : composed (inserts_dee 4) (sets_qty 25 5) ≡ entry_at 2 (Ins (dee 5)) ∷ []
composed_into_an_insert = refl

folded_into_an_insert : folded (inserts_dee 4) (sets_qty 25 5) ≡ entry_at 2 (Ins (dee 5)) ∷ []
folded_into_an_insert = refl

composed_to_nothing : composed (inserts_dee 4) (deletes 25) ≡ []
composed_to_nothing = refl

folded_to_nothing : folded (inserts_dee 4) (deletes 25) ≡ []
folded_to_nothing = refl

composed_to_a_delete : composed (sets_qty 20 9) (deletes 20) ≡ entry_at 1 (Del (id 20)) ∷ []
composed_to_a_delete = refl

folded_to_a_delete : folded (sets_qty 20 9) (deletes 20) ≡ entry_at 1 (Del (id 20)) ∷ []
folded_to_a_delete = refl

composed_columns : composed (sets_both 9) (sets_qty 20 4) ≡ entry_at 1 (Mod 1 (Text (codes "Bea"))) ∷ entry_at 1 (Mod 2 (Int (pos 4))) ∷ []
composed_columns = refl

folded_columns : folded (sets_both 9) (sets_qty 20 4) ≡ entry_at 1 (Mod 1 (Text (codes "Bea"))) ∷ entry_at 1 (Mod 2 (Int (pos 4))) ∷ []
folded_columns = refl

-- ---- trees pass, or clash

abbrev rebased : Effects → Effects → List Entry
rebased x y = rebased_entries key_cols (canonical_entries base y) (canonical_entries base x)

abbrev clash : ConflictRule → Effects → Effects → Option Clash
clash rule x y = first_clash rule key_cols (canonical_entries base x) (canonical_entries base y)

an_insert_at_a_ghost_stays : rebased (inserts 25) (deletes 30) ≡ entry_at 2 (Ins (new_row 25)) ∷ []
an_insert_at_a_ghost_stays = refl

a_modify_passes_inserts : rebased (sets_qty 30 9) ((id 5, effect.Ins (new_row 5)) ∷ inserts 25) ≡ entry_at 4 (Mod 2 (Int (pos 9))) ∷ []
a_modify_passes_inserts = refl

a_delete_passes_a_delete : rebased (deletes 30) (deletes 10) ≡ entry_at 1 (Del (id 30)) ∷ []
a_delete_passes_a_delete = refl

two_modifies_of_a_column_clash : clash ByColumn (sets_both 7) (sets_qty 20 8) ≡ Some (record { kind = ModifyModify; x = 1; y = 0 })
two_modifies_of_a_column_clash = refl

-- of two columns they clash by row alone
abbrev names_bea : Effects
names_bea = (id 20, effect.Mod ((1, Text (codes "Bea")) ∷ [])) ∷ []

two_modifies_of_a_row_clash : clash ByRow (sets_qty 20 7) names_bea ≡ Some (record { kind = ModifyModify; x = 0; y = 0 })
two_modifies_of_a_row_clash = refl

two_modifies_of_a_row_pass : clash ByColumn (sets_qty 20 7) names_bea ≡ None
two_modifies_of_a_row_pass = refl

a_delete_and_a_modify_clash : (rule : ConflictRule) → clash rule (deletes 20) (sets_both 7)
    ≡ Some (record { kind = DeleteModify; x = 0; y = 0 })
a_delete_and_a_modify_clash rule = refl

two_deletes_clash : (rule : ConflictRule) → clash rule replaces_20 (deletes 20) ≡ Some (record { kind = DeleteDelete; x = 1; y = 0 })
two_deletes_clash rule = refl

two_inserts_of_a_key_clash : (rule : ConflictRule) → clash rule replaces_20 replaces_20
    ≡ Some (record { kind = InsertInsert; x = 0; y = 0 })
two_inserts_of_a_key_clash rule = refl

-- ---- three layers make one image

abbrev read_layer : Effects
read_layer = (id 15, effect.Ins (item 15 (codes "Flo") 5)) ∷ (id 30, effect.Del) ∷ []

abbrev write_layer : Effects
write_layer = (id 15, effect.Mod ((2, Int (pos 6)) ∷ [])) ∷ (id 30, effect.Ins (item 30 (codes "Zed") 7)) ∷ []

abbrev trans_layer : Effects
trans_layer = (id 10, effect.Del) ∷ (id 35, effect.Ins (item 35 (codes "Gus") 8)) ∷ []

read_entries : canonical_entries base read_layer ≡ entry_at 1 (Ins (item 15 (codes "Flo") 5)) ∷ entry_at 2 (Del (id 30)) ∷ []
read_entries = refl

write_entries : canonical_entries (table_with base read_layer) write_layer ≡ entry_at 1 (Mod 2 (Int (pos 6))) ∷ entry_at 3 (Ins (item 30 (codes "Zed") 7)) ∷ []
write_entries = refl

trans_entries : canonical_entries (table_with (table_with base read_layer) write_layer) trans_layer ≡ entry_at 0 (Del (id 10)) ∷ entry_at 4 (Ins (item 35 (codes "Gus") 8)) ∷ []
trans_entries = refl

abbrev read_rows : List Row
read_rows = merged_rows (rows_of base) (canonical_entries base read_layer)

abbrev write_rows : List Row
write_rows = merged_rows read_rows (canonical_entries (table_with base read_layer) write_layer)

three_layers_make_one_image : merged_rows write_rows (canonical_entries (table_with (table_with base read_layer) write_layer) trans_layer) ≡ item 15 (codes "Flo") 6 ∷ item 20 (codes "Bob") 2 ∷ item 30 (codes "Zed") 7 ∷ item 35 (codes "Gus") 8 ∷ []
three_layers_make_one_image = refl

-- ---- positions in the image: key 15 stands after key 10, and key 20 after both

the_position_of_an_insert : rid_of_insert [] 1 ≡ 1
the_position_of_an_insert = refl

the_position_of_a_base_row : rid_of_base (canonical_entries base read_layer) 1 ≡ 2
the_position_of_a_base_row = refl

-- an insert of a ghost's key doesn't clash with the delete, which another clash comes before
an_insert_and_a_delete_of_one_key : (rule : ConflictRule) → conflicts rule (inserts 20) (deletes 20) ≡ false
an_insert_and_a_delete_of_one_key rule = refl
