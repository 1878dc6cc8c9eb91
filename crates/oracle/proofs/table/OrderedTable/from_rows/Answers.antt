use Rattle.std.proofs.Common.{◌≡◌, ◌∙◌, arith, T, Some, List, [], ◌∷◌, length, refl, ap, sym, subst}
use Rattle.values.specs.Orders.{key_cmp, key_cmp_total, key_cmp-IsAntisymmetric}
use Rattle.model.specs.Maps.{alter_all}
use Rattle.model.specs.Table.{table_of}
use Rattle.oracle.proofs.OrderedMapLemmas.{alter_all-put}
use Rattle.oracle.proofs.table.OrderedTable.from_rows.Goals as goal

none : {A : Type 0} (xs : List A) → length xs ≡ 0 → xs ≡ []
none [] e = refl
none (x ∷ xs) e = absurd (omega arith)

pub returns-clause-ascending : goal.returns-clause-ascending
returns-clause-ascending c ascending =
    let none_left : c.loop-row.row-iterator.rest.items ≡ [] =
    none (c.loop-row.row-iterator.rest.items) (sym c.loop-row.row-iterator.rest.ok.0 ∙ c.in-None.ensures.steps.0) in
    let rows = table_of c.args.key_cols c.args.rows.items in
    sym (ap (λ left. alter_all key_cmp (λ row old. Some row) (table_of c.args.key_cols left) c.loop-row.by_key.entries) none_left)
    ∙ c.loop-row.invariant
    ∙ alter_all-put key_cmp key_cmp_total key_cmp-IsAntisymmetric rows (subst T (sym ascending) tt)
