-- Tables and marks, read one after the other, as loops do.
use Rattle.std.proofs.Common.{◌≡◌, ◌<◌, ◌≤◌, ℕ, zero, suc, ◌+◌, ◌-◌, Option, Some, None, List, [], ◌∷◌, ◌++◌, length, refl, sym, ap, ◌∙◌, append_assoc, arith}
use Rattle.std.proofs.lemmas.List.{append-nil}
use Rattle.manifest.specs.Manifest.{Table}
use Rattle.manifest.specs.Reading.{◌>>=◌, Fails, mark_at, marks_at, table_at, tables_at}
use Rattle.manifest.specs.declared.entries.FileMark.{FileMark}
use Rattle.manifest.specs.declared.fault.ManifestFault.{ManifestFault}
use Rattle.manifest.specs.declared.fault.ManifestFault.TheVariants.{Damaged, NoMemory}
use Rattle.manifest.proofs.LineLemmas.{table_shorter, tables_none, tables_step}

-- ---- marks

-- marks that were read before
abbrev pub with_marks : List FileMark → Option (List FileMark × List ℕ) → Option (List FileMark × List ℕ)
with_marks front read = read >>= λ x. Some (front ++ x.0, x.1)

regroup_marks : (front : List FileMark) (m : FileMark) (read : Option (List FileMark × List ℕ))
    → with_marks front (read >>= λ y. Some (m ∷ y.0, y.1)) ≡ with_marks (front ++ m ∷ []) read
regroup_marks front m (Some x) = ap (λ (ms : List FileMark). found (ms, x.1)) (sym (append_assoc front (m ∷ []) x.0))
  where
    found : List FileMark × List ℕ → Option (List FileMark × List ℕ)
    found x = Some x
regroup_marks front m None = refl

abbrev Marks : Type 0
Marks = List FileMark × List ℕ

abbrev paired : FileMark → Marks → Option ((FileMark × List FileMark) × List ℕ)
paired m y = Some ((m, y.0), y.1)

abbrev consed : (FileMark × List FileMark) × List ℕ → Option Marks
consed p = Some (p.0.0 ∷ p.0.1, p.1)

abbrev cons_on : FileMark → Marks → Option Marks
cons_on m y = Some (m ∷ y.0, y.1)

marks_step : (n : ℕ) (bytes : List ℕ) (m : FileMark) (after : List ℕ) → mark_at bytes ≡ Some (m, after)
    → marks_at (suc n) bytes ≡ (marks_at n after >>= cons_on m)
unfolding marks_at
marks_step n bytes m after e = rw e (by (marks_at n after))
  where
    by : (o : Option Marks) → ((o >>= paired m) >>= consed) ≡ (o >>= cons_on m)
    by (Some x) = refl
    by None = refl

marks_fail : (n : ℕ) (bytes : List ℕ) → mark_at bytes ≡ None → marks_at (suc n) bytes ≡ None
unfolding marks_at
marks_fail n bytes e = rw e refl

marks_zero : (bytes : List ℕ) → marks_at 0 bytes ≡ Some ([], bytes)
unfolding marks_at
marks_zero bytes = refl

module _ (front : List FileMark) (count i : ℕ) (bytes : List ℕ) (total : Option (List FileMark × List ℕ))
    (so_far : with_marks front (marks_at (count - i) bytes) ≡ total) where
  pub mark_more : (m : FileMark) (after : List ℕ) → i < count → mark_at bytes ≡ Some (m, after)
      → with_marks (front ++ m ∷ []) (marks_at (count - (i + 1)) after) ≡ total
  mark_more m after lt e =
      let k : count - i ≡ suc (count - (i + 1)) = omega (arith, lt) in
      sym (regroup_marks front m (marks_at (count - (i + 1)) after))
      ∙ sym (ap (with_marks front) (ap (λ n. marks_at n bytes) k ∙ marks_step (count - (i + 1)) bytes m after e)) ∙ so_far

  pub mark_fails : i < count → mark_at bytes ≡ None → total ≡ None
  mark_fails lt e =
      let k : count - i ≡ suc (count - (i + 1)) = omega (arith, lt) in
      sym so_far ∙ ap (with_marks front) (ap (λ n. marks_at n bytes) k ∙ marks_fail (count - (i + 1)) bytes e)

  pub marks_done : count ≤ i → total ≡ Some (front, bytes)
  marks_done le =
      let k : count - i ≡ 0 = omega (arith, le) in
      sym so_far ∙ ap (with_marks front) (ap (λ n. marks_at n bytes) k ∙ marks_zero bytes)
      ∙ ap (λ (ms : List FileMark). found (ms, bytes)) (append-nil front)
    where
      found : List FileMark × List ℕ → Option (List FileMark × List ℕ)
      found x = Some x

-- ---- tables

abbrev pub with_tables : List Table → Option (List Table) → Option (List Table)
with_tables front read = read >>= λ ts. Some (front ++ ts)

regroup_tables : (front : List Table) (t : Table) (read : Option (List Table))
    → with_tables front (read >>= λ ts. Some (t ∷ ts)) ≡ with_tables (front ++ t ∷ []) read
regroup_tables front t (Some ts) = ap (λ (x : List Table). found x) (sym (append_assoc front (t ∷ []) ts))
  where
    found : List Table → Option (List Table)
    found x = Some x
regroup_tables front t None = refl

-- what has been read so far, with what is left to read, is all that is read
pub record IsReadTo (rest : List ℕ) (front : List Table) (total : Option (List Table)) : Type 0 where
  pub most : ℕ
  pub enough : length rest ≤ most
  pub read : with_tables front (tables_at most rest) ≡ total

module _ (rest : List ℕ) (front : List Table) (total : Option (List Table)) (so_far : IsReadTo rest front total) where
  pub tables_end : length rest ≡ 0 → total ≡ Some front
  tables_end none =
      sym so_far.read ∙ ap (with_tables front) (tables_none so_far.most rest none) ∙ ap (λ (ts : List Table). found ts) (append-nil front)
    where
      found : List Table → Option (List Table)
      found x = Some x

  step : 0 < length rest → (most : ℕ) × (length rest ≤ suc most)
      × (with_tables front (table_at rest >>= λ t. tables_at most t.1 >>= λ ts. Some (t.0 ∷ ts)) ≡ total)
  step some = by so_far.most so_far.enough so_far.read
    where
      by : (n : ℕ) → length rest ≤ n → with_tables front (tables_at n rest) ≡ total
          → (most : ℕ) × (length rest ≤ suc most)
          × (with_tables front (table_at rest >>= λ t. tables_at most t.1 >>= λ ts. Some (t.0 ∷ ts)) ≡ total)
      by zero le e = absurd (omega (arith, le, some))
      by (suc most) le e = (most, le, sym (ap (with_tables front) (tables_step most rest some)) ∙ e)

  pub table_fails : (fault : ManifestFault) → 0 < length rest → Fails fault (table_at rest) → Fails fault total
  table_fails NoMemory some e = tt
  table_fails Damaged some e =
      let s = step some in
      sym s.2 ∙ ap (λ o. with_tables front (o >>= λ t. tables_at s.0 t.1 >>= λ ts. Some (t.0 ∷ ts))) e

  pub table_more : (t : Table) (after : List ℕ) → 0 < length rest → table_at rest ≡ Some (t, after) → IsReadTo after (front ++ t ∷ []) total
  table_more t after some e =
      let s = step some in
      record {
        most = s.0;
        enough = omega (arith, s.1, table_shorter rest t after e);
        read = sym (regroup_tables front t (tables_at s.0 after))
            ∙ sym (ap (λ o. with_tables front (o >>= λ t. tables_at s.0 t.1 >>= λ ts. Some (t.0 ∷ ts))) e) ∙ s.2;
      }
