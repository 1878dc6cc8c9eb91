-- A stable table under the trees of two transactions, as tests make it.
use Rattle.std.proofs.Common.{◌≡◌, ap, ◌∙◌, sym, subst}
use Rattle.values.specs.Shape.{Columns}
use Rattle.model.specs.Table.{Table}
use Rattle.model.specs.Effects.{table_with}
use Rattle.model.proofs.CallerLemmas.{leaves}
use Rattle.delta.specs.Tree.{Tree}
use Rattle.stable.specs.Stable.{Stable, table_in}
use Rattle.merge.specs.Image.{IsLayer}
use Rattle.txn.specs.Txn.{Transaction, IsTransaction, tree_of}
use Rattle.txn.specs.Version.{Lower, AreLower, TableVersion, lower_table, empty_tree}
use Rattle.txn.proofs.CallerLemmas.{is_layer, no_layer, lower_table_is}

-- the tree of a transaction is over the table that it was opened on
pub tree_is_layer : (schema : Columns) (t : Table) (txn : Transaction) (tree : Tree) → IsTransaction txn → txn.schema ≡ schema
    → txn.table ≡ t → tree ≡ tree_of txn → IsLayer schema t tree
tree_is_layer schema t txn tree h columns table is =
    subst (λ (e : Columns × (Table × Tree)). IsLayer e.0 e.1.0 e.1.1) (λ i. (columns i, (table i, sym is i))) (is_layer txn h)

-- a Read-PDT alone
abbrev read_alone : Stable → Tree → Lower
read_alone s read = record { stable = s; read = read; write = empty_tree s.schema.key_cols }

abbrev are_read_alone : (s : Stable) (read : Tree) → IsLayer s.schema (table_in s) read → AreLower (read_alone s read)
are_read_alone s read l = record {
  lower = l;
  middle = no_layer s.schema (table_with (table_in s) l.effects) (leaves s.schema (table_in s) l.effects l.over);
}

-- the layers of a version that has no entries in its Write-PDT
pub one_layer : (s : Stable) (l : Lower) → l.stable ≡ s → l.write ≡ empty_tree s.schema.key_cols
    → IsLayer s.schema (table_in s) l.read → AreLower l
one_layer s l stable none read =
    let same : ◌≡◌ {A = Lower} (read_alone s l.read) l = λ i. record { stable = sym stable i; read = l.read; write = sym none i } in
    subst AreLower same (are_read_alone s l.read read)

-- and those with a tree over it for its Write-PDT
pub two_layers : (s : Stable) (l : Lower) (write : Tree) → l.stable ≡ s → l.write ≡ empty_tree s.schema.key_cols
    → IsLayer s.schema (table_in s) l.read → IsLayer s.schema (lower_table l) write
    → AreLower (record { stable = s; read = l.read; write = write })
two_layers s l write stable none read over =
    let same : ◌≡◌ {A = Lower} l (read_alone s l.read) = λ i. record { stable = stable i; read = l.read; write = none i } in
    record {
      lower = read;
      middle =
          subst (λ t. IsLayer s.schema t write)
          (ap lower_table same ∙ lower_table_is (read_alone s l.read) (are_read_alone s l.read read)) over;
    }

-- a layer over a version's table, where the version is known
pub layer_of_version : (version known : TableVersion) (tree other : Tree) → version ≡ known → other ≡ tree
    → IsLayer version.schema version.table tree → IsLayer known.schema known.table other
layer_of_version version known tree other is same over =
    subst (λ (e : TableVersion × Tree). IsLayer e.0.schema e.0.table e.1) (λ i. (is i, sym same i)) over
