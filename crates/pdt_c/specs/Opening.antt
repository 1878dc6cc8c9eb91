-- What a manager is opened on.
use Rattle.std.specs.Prelude.{◌≡◌, ℕ, Bool, true, false, List, Ok}
use Rattle.model.specs.declared.clash.ConflictRule.{ConflictRule}
use Rattle.model.specs.declared.clash.ConflictRule.TheVariants.{ByRow, ByColumn}
use Rattle.stable.specs.Stable.{Stable}
use Rattle.inputs.specs.Input.{IsTableOf}
use Rattle.inputs.specs.Plain.{IsPlainTableOf}
use Rattle.devices.specs.Stored.{stored_image}
use Rattle.manager.specs.Managed.{Managed, opened}

-- whether changes of one row conflict, or of one column of one row
abbrev pub rule_of : Bool → ConflictRule
rule_of true = ByRow
rule_of false = ByColumn

-- a manager that was opened, whose records clauses alone see
abbrev pub opened_counting : Stable → ℕ → ℕ → ConflictRule → Managed
opened_counting s limit recent rule = record (opened s limit recent rule) { keeps = false }

-- a manager that was opened on the table of a text
pub record IsOpenedOn (text : List ℕ) (row_limit recent : ℕ) (by_row : Bool) (m : Managed) : Type 0 where
  pub table : Stable
  pub table_is : IsTableOf text table.schema table.rows
  pub opened_is : m ≡ opened_counting table row_limit recent (rule_of by_row)

-- a manager that was opened on the table of a text whose header names no types
pub record IsOpenedOnPlain (text : List ℕ) (key : List (List ℕ)) (sample : ℕ) (row_limit recent : ℕ) (by_row : Bool) (m : Managed)
    : Type 0 where
  pub table : Stable
  pub table_is : IsPlainTableOf text key sample table.schema table.rows
  pub opened_is : m ≡ opened_counting table row_limit recent (rule_of by_row)

-- a manager that was opened on the table that columns store under the schema of a header
pub record IsRecoveredOn (header : List ℕ) (columns : List (List ℕ)) (row_limit recent : ℕ) (by_row : Bool) (generation : ℕ)
    (m : Managed) : Type 0 where
  pub empty : Stable
  pub schema_is : IsTableOf header empty.schema empty.rows
  pub table : Stable
  pub stored_is : stored_image empty.schema columns ≡ Ok (record { generation = generation; table = table })
  pub opened_is : m ≡ opened_counting table row_limit recent (rule_of by_row)
