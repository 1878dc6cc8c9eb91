-- A record in the making: one field more, some fields more, and its end.
use Rattle.std.proofs.Common.{◌≡◌, ◌==◌, ◌∙◌, ◌^◌, ◌-◌, ◌+◌, ◌≢◌, ℕ, zero, suc, List, [], ◌∷◌, ◌++◌, Option, Some, None, Vec}
use Rattle.std.proofs.Common.{length, length-append, refl, sym, ap, subst, append_assoc, true, false, arith}
use Rattle.std.specs.Prelude.{min, not}
use Rattle.std.specs.declared.alloc.Global.{Global}
use Rattle.std.proofs.lemmas.List.{append-nil}
use Rattle.std.proofs.lemmas.Bool.{ne_eqb}
use Rattle.std.specs.Io.KnownBytes.{Appends}
use Rattle.csv.specs.Writing.{is_blank, next_sep, field_text, row_body, writer_setup, fields_written, has_written, text_written}
use Rattle.csv.specs.declared.writer.Writer.{Writer}
use Rattle.csv.specs.declared.writer.QuoteStyle.TheVariants as style
use Rattle.csv.proofs.WriteFacts.{row-more, blank-more}
use Rattle.inputs.specs.Reading.{Fields}
use Rattle.pdtcli.specs.Records.{IsWritten, IsUnderway, TakesFields, record_setup}

-- what a writer with these known bytes holds after more
pub appended : (a b : Option (List ℕ)) (xs ys : List ℕ) → a ≡ Some xs → Appends a b ys → b ≡ Some (xs ++ ys)
appended None b xs ys e h = cc e
appended (Some x) None xs ys e h = absurd h
appended (Some x) (Some y) xs ys e h = ap Some (h ∙ ap (λ (z : List ℕ). z ++ ys) (cc e))

-- a count of fields that has come to its most is not none
pub min-zero : (n : ℕ) → (min n (2 ^ 64 - 1) == 0) ≡ (n == 0)
min-zero zero = refl
min-zero (suc n) =
    ne_eqb (min (suc n) (2 ^ 64 - 1)) 0 (λ e. absurd (omega (arith, e))) ∙ sym (ne_eqb (suc n) 0 (λ e. absurd (omega (arith, e))))

-- a record of no field yet
pub IsUnderway-none : (writer : Writer (Vec ℕ Global)) (text : List ℕ) → IsWritten writer text → IsUnderway writer text []
unfolding is_blank
IsUnderway-none writer text is = record {
  setup = is.setup;
  count = is.fresh;
  blank = rw is.clean refl;
  written = is.written ∙ ap Some (sym (append-nil text));
}

-- these fields, and then those
pub TakesFields-trans : (a b c : Writer (Vec ℕ Global)) (xs ys : Fields)
    → TakesFields a b xs → TakesFields b c ys → TakesFields a c (xs ++ ys)
TakesFields-trans a b c xs ys f g text before is =
    subst (IsUnderway c text) (append_assoc before xs ys) (g text (before ++ xs) (f text before is))

pub TakesFields-none : (a : Writer (Vec ℕ Global)) → TakesFields a a []
TakesFields-none a text before is = subst (IsUnderway a text) (sym (append-nil before)) is

-- one field more
module _ (a b : Writer (Vec ℕ Global)) (field : List ℕ) where
  abbrev bytes_of : Writer (Vec ℕ Global) → Option (List ℕ)
  bytes_of writer = text_written (λ v. Some v.items) writer

  pub TakesFields-one :
      (((writer_setup a).style ≢ style.NonNumeric)
      → Appends (bytes_of a) (bytes_of b) (next_sep (writer_setup a) (fields_written a) ++ field_text (writer_setup a) field))
      → writer_setup b ≡ writer_setup a
      → fields_written b ≡ min (fields_written a + 1) (2 ^ 64 - 1)
      → (has_written a ≡ false → ((writer_setup a).style ≢ style.NonNumeric)
      → has_written b ≡ not (length (field_text (writer_setup a) field) == 0))
      → (has_written a ≡ true → has_written b ≡ true)
      → TakesFields a b (field ∷ [])
  TakesFields-one text same count wrote stays before fields is =
      let plain : (writer_setup a).style ≢ style.NonNumeric = rw is.setup (λ e. cc e) in
      let size = length-append fields (field ∷ []) in
      let one : length (fields ++ field ∷ []) ≡ length fields + 1 = omega (arith, size) in
      let sep : next_sep record_setup (fields_written a) ≡ next_sep record_setup (length fields) =
      rw (is.count, min-zero (length fields)) refl in
      let added = rw (is.setup, sep) at (text plain) in
      record {
        setup = same ∙ is.setup;
        count = rw one (count ∙ rw is.count (omega arith));
        blank = rw one
            (blank-more record_setup fields field (has_written a) (has_written b) is.blank (λ w. rw is.setup at (wrote w plain)) stays);
        written = appended (bytes_of a) (bytes_of b) _ _ is.written added
            ∙ ap Some (append_assoc before (row_body record_setup fields) _
            ∙ ap (λ (z : List ℕ). before ++ z) (sym (row-more record_setup fields field)));
      }
