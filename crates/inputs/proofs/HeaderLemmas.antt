-- Header cells, and the columns that they name.
use Rattle.std.proofs.Common.{◌≡◌, ◌≤◌, ◌+◌, ◌-◌, ℕ, suc, Bool, false, ◌&&◌, ◌==◌, not, List, [], ◌∷◌, ◌++◌, length, take, drop, Option, Some, None, Ok, Err, refl, ap, arith, add-one, inl, inr, nat_lt}
use Rattle.std.proofs.lemmas.Bool.{cases_Bool}
use Rattle.std.proofs.lemmas.List.{take_all, length-drop}
use Rattle.std.proofs.lemmas.Str.{is_utf8-from_IsUtf8}
use Rattle.std.specs.Str.{IsUtf8}
use Rattle.inputs.specs.Cells.{prepend}
use Rattle.inputs.specs.Header.{heading_of, headings_of, named, placed, is_key_column}
use Rattle.inputs.specs.Reading.{Fields}
use Rattle.inputs.specs.declared.header.Heading.{Heading}
use Rattle.inputs.specs.declared.fault.TableFault.{TableFault}
use Rattle.values.specs.declared.value.ColumnType.{ColumnType}
use Rattle.inputs.proofs.CellLemmas.{not_utf8, lt_false}
use Rattle.inputs.proofs.ReadLemmas.{prepend-then_cons}

-- ---- cells in their order

placed-is_key : (at : ℕ) (in_key : Bool) (o : Option Heading) (heading : Heading) → placed at in_key o ≡ Ok heading
    → is_key_column o ≡ heading.is_key
placed-is_key at in_key None heading e = cc e
placed-is_key at in_key (Some x) heading e = elim (cases_Bool (x.is_key && not in_key)) [
  | inl t ↦ cc (rw t at e)
  | inr f ↦ let same : x ≡ heading = cc (rw f at e) in ap (λ (h : Heading). h.is_key) same
]

pub headings_of-step : (i : ℕ) (in_key : Bool) (fields : Fields) (field : List ℕ) (heading : Heading) (headings : List Heading)
    → drop i fields ≡ field ∷ drop (suc i) fields → placed i in_key (heading_of field) ≡ Ok heading
    → prepend headings (headings_of i in_key (drop i fields))
    ≡ prepend (headings ++ heading ∷ []) (headings_of (i + 1) heading.is_key (drop (i + 1) fields))
headings_of-step i in_key fields field heading headings hf hp =
    rw (hf, hp, add-one, placed-is_key i in_key (heading_of field) heading hp) (prepend-then_cons headings heading _)

pub headings_of-fault : (i : ℕ) (in_key : Bool) (fields : Fields) (field : List ℕ) (fault : TableFault) (headings : List Heading)
    → drop i fields ≡ field ∷ drop (suc i) fields → placed i in_key (heading_of field) ≡ Err fault
    → prepend headings (headings_of i in_key (drop i fields)) ≡ Err fault
headings_of-fault i in_key fields field fault headings hf hp = rw (hf, hp) refl

-- ---- one cell

pub named-no_text : (name : List ℕ) (kind : ColumnType × Bool) → ¬ (IsUtf8 name) → named name (Some kind) ≡ None
named-no_text name kind h = elim (cases_Bool (length name == 0)) [
  | inl e ↦ rw e refl
  | inr e ↦ elim (cases_Bool (nat_lt 64 (length name))) [ inl f ↦ rw (e, f) refl | inr f ↦ rw (e, f, not_utf8 name h) refl ]
]

pub named-text : (name : List ℕ) (kind : ColumnType × Bool) → (length name == 0) ≡ false → length name ≤ 64 → IsUtf8 name
    → named name (Some kind) ≡ Some (record { name = name; column = kind.0; is_key = kind.1 })
named-text name kind e f u = rw (e, lt_false 64 (length name) f, is_utf8-from_IsUtf8 name u) refl

-- what stands from a place to the end
pub take-rest : (xs : List ℕ) (i : ℕ) → take (length xs - i) (drop i xs) ≡ drop i xs
take-rest xs i = take_all (length xs - i) (drop i xs) (omega (arith, length-drop i xs))
