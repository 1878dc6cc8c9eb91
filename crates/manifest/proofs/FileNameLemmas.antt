-- What a name is read as is what it is spelt by, and each file's name is read as that file.
use Rattle.std.proofs.Common.{◌≡◌, ◌<◌, ℕ, ◌-◌, ◌^◌, eqb, Option, Some, None, List, [], ◌++◌, length, codes, refl, sym, ap, subst, ◌∙◌, arith}
use Rattle.std.specs.Option.{IfSome}
use Rattle.std.specs.Str.{bytes_eq}
use Rattle.std.proofs.lemmas.Bool.{eqb-true}
use Rattle.std.proofs.lemmas.List.{append-nil, nil_from_length}
use Rattle.std.proofs.lemmas.Option.{cond_some}
use Rattle.std.proofs.lemmas.Slice.Eq.{bytes_eq-Decides}
use Rattle.manifest.specs.FileName.{IsFileName, file_named, image_at, image_named, image_of, journal_at, journal_named, name_text, or_else, header_named, header_text, image_file_named, column_at, column_end, column_named, other_named, torn_at, torn_named, types_at, types_named, whole}
use Rattle.manifest.specs.Manifest.{number_text}
use Rattle.manifest.specs.Reading.{Reader, number_at}
use Rattle.manifest.specs.declared.file_name.FileName.{FileName}
use Rattle.manifest.specs.declared.file_name.FileName.TheVariants.{Journal, Image, Types, Torn, Column, Header}
use Rattle.manifest.proofs.NumberLemmas.{number_reads}
use Rattle.manifest.proofs.ReaderLemmas.{IsReader, before_reads, behind_reads, both_reads}

long_end : IsReader (λ n. n < 2 ^ 64) (number_text 0) (number_at (2 ^ 64 - 1) 0)
long_end = number_reads (2 ^ 64 - 1) (2 ^ 64) 0 refl (omega arith) refl

table_end : IsReader (λ n. n < 2 ^ 32) (number_text 0) (number_at (2 ^ 32 - 1) 0)
table_end = number_reads (2 ^ 32 - 1) (2 ^ 32) 0 refl (omega arith) refl

table_dash : IsReader (λ n. n < 2 ^ 32) (number_text 45) (number_at (2 ^ 32 - 1) 45)
table_dash = number_reads (2 ^ 32 - 1) (2 ^ 32) 45 refl (omega arith) refl

journal_reads : IsReader (λ n. n < 2 ^ 64) (λ n. codes "journal-" ++ number_text 0 n) journal_at
journal_reads = behind_reads (codes "journal-") long_end

image_reads : IsReader (λ p. (p.0 < 2 ^ 32) × (p.1 < 2 ^ 64)) (λ p. codes "image-" ++ (number_text 45 p.0 ++ number_text 0 p.1)) image_at
image_reads = behind_reads (codes "image-") (both_reads table_dash long_end)

types_reads : IsReader (λ n. n < 2 ^ 32) (λ n. codes "types-" ++ number_text 0 n) types_at
types_reads = behind_reads (codes "types-") table_end

table_dot : IsReader (λ n. n < 2 ^ 32) (number_text 46) (number_at (2 ^ 32 - 1) 46)
table_dot = number_reads (2 ^ 32 - 1) (2 ^ 32) 46 refl (omega arith) refl

torn_reads : IsReader (λ n. n < 2 ^ 64) (λ n. codes "torn-" ++ number_text 0 n) torn_at
torn_reads = behind_reads (codes "torn-") long_end

column_reads : IsReader (λ n. n < 2 ^ 32) (λ n. codes "column-" ++ (number_text 46 n ++ column_end)) column_at
column_reads = behind_reads (codes "column-") (before_reads column_end table_dot)

-- ---- a whole name

whole_some : {A : Type 0} (f : A → FileName) (o : Option (A × List ℕ)) (file : FileName) → whole f o ≡ Some file
    → (x : A) × (o ≡ Some (x, [])) × (f x ≡ file)
whole_some f None file e = absurd cc
whole_some f (Some (x, rest)) file e =
    let c = cond_some (eqb (length rest) 0) (f x) file e in
    (x, ap (λ (r : List ℕ). found (x, r)) (nil_from_length rest (eqb-true (length rest) 0 c.0)), c.1)
  where
    found : {B : Type 0} → B → Option B
    found x = Some x

whole_takes : {A : Type 0} {Fits : A → Type 0} {text : A → List ℕ} {at : Reader A} (f : A → FileName) → IsReader Fits text at
    → (bytes : List ℕ) (file : FileName) → whole f (at bytes) ≡ Some file → (x : A) × (f x ≡ file) × (bytes ≡ text x) × Fits x
whole_takes {A} {Fits} {text} {at} f reads bytes file e =
    let x = whole_some f (at bytes) file e in
    let t = reads.takes bytes x.0 [] x.1 in
    (x.0, x.2, t.0 ∙ append-nil (text x.0), t.1)

whole_again : {A : Type 0} {Fits : A → Type 0} {text : A → List ℕ} {at : Reader A} (f : A → FileName) → IsReader Fits text at
    → (x : A) → Fits x → whole f (at (text x)) ≡ Some (f x)
whole_again {A} {Fits} {text} {at} f reads x fits =
    let again : at (text x) ≡ Some (x, []) = ap at (sym (append-nil (text x))) ∙ reads.again x [] fits in
    ap (whole f) again

-- ---- each kind

journal_takes : (bytes : List ℕ) (file : FileName) → journal_named bytes ≡ Some file → IsFileName file × (bytes ≡ name_text file)
unfolding journal_named
journal_takes bytes file e =
    let x = whole_takes Journal journal_reads bytes file e in
    subst (λ (g : FileName). IsFileName g × (bytes ≡ name_text g)) x.1 (x.3, x.2)

image_takes : (bytes : List ℕ) (file : FileName) → image_named bytes ≡ Some file → IsFileName file × (bytes ≡ name_text file)
unfolding image_named
image_takes bytes file e =
    let x = whole_takes image_of image_reads bytes file e in
    subst (λ (g : FileName). IsFileName g × (bytes ≡ name_text g)) x.1 (x.3, x.2)

types_takes : (bytes : List ℕ) (file : FileName) → types_named bytes ≡ Some file → IsFileName file × (bytes ≡ name_text file)
unfolding types_named
types_takes bytes file e =
    let x = whole_takes Types types_reads bytes file e in
    subst (λ (g : FileName). IsFileName g × (bytes ≡ name_text g)) x.1 (x.3, x.2)

torn_takes : (bytes : List ℕ) (file : FileName) → torn_named bytes ≡ Some file → IsFileName file × (bytes ≡ name_text file)
unfolding torn_named
torn_takes bytes file e =
    let x = whole_takes Torn torn_reads bytes file e in
    subst (λ (g : FileName). IsFileName g × (bytes ≡ name_text g)) x.1 (x.3, x.2)

column_takes : (bytes : List ℕ) (file : FileName) → column_named bytes ≡ Some file → IsFileName file × (bytes ≡ name_text file)
unfolding column_named
column_takes bytes file e =
    let x = whole_takes Column column_reads bytes file e in
    subst (λ (g : FileName). IsFileName g × (bytes ≡ name_text g)) x.1 (x.3, x.2)

header_takes : (bytes : List ℕ) (file : FileName) → header_named bytes ≡ Some file → IsFileName file × (bytes ≡ name_text file)
unfolding header_named
header_takes bytes file e =
    let c = cond_some (bytes_eq bytes header_text) Header file e in
    subst (λ (g : FileName). IsFileName g × (bytes ≡ name_text g)) c.1 (tt, (bytes_eq-Decides bytes header_text).0 c.0)

-- what one of them finds has a property that each of them gives what it finds
or_takes : (P : FileName → Type 0) (a b : Option FileName) → IfSome a P → IfSome b P → IfSome (or_else a b) P
or_takes P (Some file) b pa pb = pa
or_takes P None b pa pb = pb

if_some : (P : FileName → Type 0) (o : Option FileName) → ((file : FileName) → o ≡ Some file → P file) → IfSome o P
if_some P (Some file) h = h file refl
if_some P None h = tt

abbrev IsTaken : List ℕ → FileName → Type 0
IsTaken bytes file = IsFileName file × (bytes ≡ name_text file)

other_takes : (bytes : List ℕ) → IfSome (other_named bytes) (IsTaken bytes)
unfolding other_named image_file_named
other_takes bytes =
    let P = IsTaken bytes in
    or_takes P (types_named bytes) (or_else (torn_named bytes) (image_file_named bytes)) (if_some P (types_named bytes) (types_takes bytes))
    (or_takes P (torn_named bytes) (image_file_named bytes) (if_some P (torn_named bytes) (torn_takes bytes))
    (or_takes P (column_named bytes) (header_named bytes) (if_some P (column_named bytes) (column_takes bytes))
    (if_some P (header_named bytes) (header_takes bytes))))

pub file_takes : (bytes : List ℕ) → IfSome (file_named bytes) (λ file. IsFileName file × (bytes ≡ name_text file))
unfolding file_named
file_takes bytes =
    let P = IsTaken bytes in
    or_takes P (journal_named bytes) (or_else (image_named bytes) (other_named bytes)) (if_some P (journal_named bytes) (journal_takes bytes))
    (or_takes P (image_named bytes) (other_named bytes) (if_some P (image_named bytes) (image_takes bytes)) (other_takes bytes))

pub file_again : (file : FileName) → IsFileName file → file_named (name_text file) ≡ Some file
unfolding file_named journal_named image_named other_named types_named torn_named image_file_named column_named header_named
file_again (Journal number) fits = rw (whole_again Journal journal_reads number fits) refl
file_again (Image table folder) fits = rw (whole_again image_of image_reads (table, folder) fits) refl
file_again (Types table) fits = rw (whole_again Types types_reads table fits) refl
file_again (Torn number) fits = rw (whole_again Torn torn_reads number fits) refl
file_again (Column column) fits = rw (whole_again Column column_reads column fits) refl
file_again Header fits = refl
