-- Lines, tables and the head, read and spelt.
use Rattle.std.proofs.Common.{◌≡◌, ◌<◌, ◌≤◌, ℕ, zero, suc, ◌-◌, ◌^◌, Some, List, [], ◌∷◌, ◌++◌, length, length-append, codes, refl, sym, ap, subst, ◌∙◌, append_assoc, arith}
use Rattle.std.specs.List.{flat_map, AllByRecursion}
use Rattle.std.proofs.lemmas.List.Concat.{flat_map-cons}
use Rattle.manifest.specs.Manifest.{IsHead, IsLine, IsMark, IsTable, Table, flag_text, head_text, line_text, long_text, mark_text, number_text, table_text}
use Rattle.manifest.specs.Reading.{◌>>=◌, both, head_at, head_of, line_at, line_of, mark_at, mark_of, marks_at, number_at, table_at, tables_at}
use Rattle.manifest.specs.declared.entries.FileMark.{FileMark}
use Rattle.manifest.proofs.ReaderLemmas.{IsReader, before_reads, behind_reads, bind_some, both_reads, said_reads, some_is}
use Rattle.manifest.proofs.NumberLemmas.{flag_reads, long_reads, name_reads, number_reads, word_reads}

-- ---- decimal numbers, and what ends them

long_space : IsReader (λ n. n < 2 ^ 64) (number_text 32) (number_at (2 ^ 64 - 1) 32)
long_space = number_reads (2 ^ 64 - 1) (2 ^ 64) 32 refl (omega arith) refl

long_line : IsReader (λ n. n < 2 ^ 64) (number_text 10) (number_at (2 ^ 64 - 1) 10)
long_line = number_reads (2 ^ 64 - 1) (2 ^ 64) 10 refl (omega arith) refl

word_space : IsReader (λ n. n < 2 ^ 32) (number_text 32) (number_at (2 ^ 32 - 1) 32)
word_space = number_reads (2 ^ 32 - 1) (2 ^ 32) 32 refl (omega arith) refl

width_space : IsReader (λ n. n < 33) (number_text 32) (number_at 32 32)
width_space = number_reads 32 33 32 refl (omega arith) refl

-- ---- marks

pub mark_reads : IsReader IsMark mark_text mark_at
unfolding mark_at
mark_reads =
    said_reads mark_of (λ mark. (mark.size, mark.check)) IsMark mark_text (both_reads long_space (before_reads (10 ∷ []) word_reads))
    (λ p fits. (refl, record { size = fits.0; check = fits.1 })) (λ mark fits. ((fits.size, fits.check), refl))

pub marks_take : (n : ℕ) (bytes : List ℕ) (cs : List FileMark) (rest : List ℕ) → marks_at n bytes ≡ Some (cs, rest)
    → (bytes ≡ flat_map mark_text cs ++ rest) × (length cs ≡ n) × AllByRecursion IsMark cs
unfolding marks_at
marks_take zero bytes cs rest e =
    subst (λ (q : List FileMark × List ℕ). (bytes ≡ flat_map mark_text q.0 ++ q.1) × (length q.0 ≡ 0) × AllByRecursion IsMark q.0)
    (some_is ([], bytes) (cs, rest) e) (refl, refl, tt)
marks_take (suc n) bytes cs rest e =
    let p = bind_some (both mark_at (marks_at n) bytes) (λ p. Some (p.0.0 ∷ p.0.1, p.1)) (cs, rest) e in
    let m = bind_some (mark_at bytes) (λ x. marks_at n x.1 >>= λ y. Some ((x.0, y.0), y.1)) p.0 p.1 in
    let ms = bind_some (marks_at n m.0.1) (λ y. Some ((m.0.0, y.0), y.1)) p.0 m.2 in
    let t = mark_reads.takes bytes m.0.0 m.0.1 m.1 in
    let u = marks_take n m.0.1 ms.0.0 ms.0.1 ms.1 in
    let made : (FileMark × List FileMark) × List ℕ = ((m.0.0, ms.0.0), ms.0.1) in
    let is : ((FileMark × List FileMark) × List ℕ) = p.0 in
    let parts : bytes ≡ flat_map mark_text (m.0.0 ∷ ms.0.0) ++ ms.0.1 =
    t.0 ∙ ap (λ (r : List ℕ). mark_text m.0.0 ++ r) u.0 ∙ sym (append_assoc (mark_text m.0.0) (flat_map mark_text ms.0.0) ms.0.1)
    ∙ ap (λ (r : List ℕ). r ++ ms.0.1) (sym (flat_map-cons mark_text m.0.0 ms.0.0)) in
    let one : List FileMark × List ℕ = (p.0.0.0 ∷ p.0.0.1, p.0.1) in
    subst (λ (q : List FileMark × List ℕ). (bytes ≡ flat_map mark_text q.0 ++ q.1) × (length q.0 ≡ suc n) × AllByRecursion IsMark q.0)
    (some_is one (cs, rest) p.2)
    (subst (λ (q : (FileMark × List FileMark) × List ℕ). (bytes ≡ flat_map mark_text (q.0.0 ∷ q.0.1) ++ q.1) × (length (q.0.0 ∷ q.0.1) ≡ suc n)
    × AllByRecursion IsMark (q.0.0 ∷ q.0.1)) (some_is made is ms.2) (parts, ap suc u.1, (t.1, u.2)))

pub marks_again : (cs : List FileMark) (rest : List ℕ) → AllByRecursion IsMark cs
    → marks_at (length cs) (flat_map mark_text cs ++ rest) ≡ Some (cs, rest)
unfolding marks_at
marks_again [] rest fits = refl
marks_again (c ∷ cs) rest fits =
    let regrouped : flat_map mark_text (c ∷ cs) ++ rest ≡ mark_text c ++ (flat_map mark_text cs ++ rest) =
    ap (λ (t : List ℕ). t ++ rest) (flat_map-cons mark_text c cs) ∙ append_assoc (mark_text c) (flat_map mark_text cs) rest in
    ap (marks_at (suc (length cs))) regrouped
    ∙ rw (mark_reads.again c (flat_map mark_text cs ++ rest) fits.0, marks_again cs rest fits.1) refl

-- ---- a table's line

pub line_reads : IsReader IsLine line_text line_at
unfolding line_at
line_reads =
    behind_reads (codes "table ")
    (said_reads line_of
    (λ l. (l.number, (l.commit, (l.folder, (l.recent, (l.limit, (l.by_row, (l.width, l.name))))))))
    IsLine
    (λ l. number_text 32 l.number ++ (number_text 32 l.commit ++ (number_text 32 l.folder ++ (number_text 32 l.recent
    ++ (number_text 32 l.limit ++ (flag_text l.by_row ++ (number_text 32 l.width ++ (l.name ++ 10 ∷ []))))))))
    (both_reads word_space (both_reads long_space (both_reads long_space (both_reads long_space (both_reads long_space
    (both_reads flag_reads (both_reads width_space name_reads)))))))
    (λ p fits. (
      refl,
      record {
        number = fits.0;
        commit = fits.1.0;
        folder = fits.1.1.0;
        recent = fits.1.1.1.0;
        limit = fits.1.1.1.1.0;
        width = omega (arith, fits.1.1.1.1.1.1.0);
        name = fits.1.1.1.1.1.1.1;
      },
    ))
    (λ l fits.
    ((fits.number, (fits.commit, (fits.folder, (fits.recent, (fits.limit, (tt, (omega (arith, fits.width), fits.name))))))), refl)))

-- ---- the head

pub head_reads : IsReader IsHead head_text head_at
unfolding head_at
head_reads =
    behind_reads (codes "narthexmace 1\ndatabase ")
    (said_reads head_of
    (λ h. (h.store, (h.salt, (h.commit, (h.first_file, (h.next_table, h.next_folder))))))
    IsHead
    (λ h. (long_text h.store ++ 32 ∷ []) ++ ((long_text h.salt ++ 10 ∷ [])
    ++ (codes "at " ++ (number_text 32 h.commit ++ (number_text 10 h.first_file
    ++ (codes "next " ++ (number_text 32 h.next_table ++ number_text 10 h.next_folder)))))))
    (both_reads (before_reads (32 ∷ []) long_reads) (both_reads (before_reads (10 ∷ []) long_reads)
    (behind_reads (codes "at ") (both_reads long_space (both_reads long_line
    (behind_reads (codes "next ") (both_reads word_space long_line)))))))
    (λ p fits. (
      refl,
      record {
        store = fits.0;
        salt = fits.1.0;
        commit = fits.1.1.0;
        first_file = fits.1.1.1.0;
        next_table = fits.1.1.1.1.0;
        next_folder = fits.1.1.1.1.1;
      },
    ))
    (λ h fits. ((fits.store, (fits.salt, (fits.commit, (fits.first_file, (fits.next_table, fits.next_folder))))), refl)))

-- ---- tables

table_takes : (bytes : List ℕ) (t : Table) (rest : List ℕ) → table_at bytes ≡ Some (t, rest) → (bytes ≡ table_text t ++ rest) × IsTable t
unfolding table_at
table_takes bytes t rest e =
    let l = bind_some (line_at bytes) (λ l. mark_at l.1 >>= λ h. marks_at l.0.width h.1 >>= λ cs. Some (record { line = l.0; header = h.0; columns = cs.0 }, cs.1)) (t, rest) e in
    let h = bind_some (mark_at l.0.1) (λ h. marks_at l.0.0.width h.1 >>= λ cs. Some (record { line = l.0.0; header = h.0; columns = cs.0 }, cs.1)) (t, rest) l.2 in
    let cs = bind_some (marks_at l.0.0.width h.0.1) (λ cs. Some (record { line = l.0.0; header = h.0.0; columns = cs.0 }, cs.1)) (t, rest) h.2 in
    let a = line_reads.takes bytes l.0.0 l.0.1 l.1 in
    let b = mark_reads.takes l.0.1 h.0.0 h.0.1 h.1 in
    let c = marks_take l.0.0.width h.0.1 cs.0.0 cs.0.1 cs.1 in
    let made : Table × List ℕ = (record { line = l.0.0; header = h.0.0; columns = cs.0.0 }, cs.0.1) in
    let inner : l.0.1 ≡ (mark_text h.0.0 ++ flat_map mark_text cs.0.0) ++ cs.0.1 =
    b.0 ∙ ap (λ (r : List ℕ). mark_text h.0.0 ++ r) c.0 ∙ sym (append_assoc (mark_text h.0.0) (flat_map mark_text cs.0.0) cs.0.1) in
    let parts : bytes ≡ (line_text l.0.0 ++ (mark_text h.0.0 ++ flat_map mark_text cs.0.0)) ++ cs.0.1 =
    a.0 ∙ ap (λ (r : List ℕ). line_text l.0.0 ++ r) inner
    ∙ sym (append_assoc (line_text l.0.0) (mark_text h.0.0 ++ flat_map mark_text cs.0.0) cs.0.1) in
    subst (λ (q : Table × List ℕ). (bytes ≡ table_text q.0 ++ q.1) × IsTable q.0) (some_is made (t, rest) cs.2)
    (parts, record { line = a.1; header = b.1; width = c.1; columns = c.2 })

table_again : (t : Table) (rest : List ℕ) → IsTable t → table_at (table_text t ++ rest) ≡ Some (t, rest)
unfolding table_at
table_again t rest fits =
    let columns = flat_map mark_text t.columns in
    let regrouped : table_text t ++ rest ≡ line_text t.line ++ (mark_text t.header ++ (columns ++ rest)) =
    append_assoc (line_text t.line) (mark_text t.header ++ columns) rest
    ∙ ap (λ (r : List ℕ). line_text t.line ++ r) (append_assoc (mark_text t.header) columns rest) in
    let all : marks_at t.line.width (columns ++ rest) ≡ Some (t.columns, rest) =
    subst (λ (n : ℕ). marks_at n (columns ++ rest) ≡ Some (t.columns, rest)) fits.width (marks_again t.columns rest fits.columns) in
    ap table_at regrouped
    ∙ rw (line_reads.again t.line (mark_text t.header ++ (columns ++ rest)) fits.line, mark_reads.again t.header (columns ++ rest) fits.header, all) refl

pub table_longer : (t : Table) (rest : List ℕ) → length rest < length (table_text t ++ rest)
table_longer t rest =
    let long : 6 ≤ length (line_text t.line) = omega arith in
    omega (arith, long, length-append (table_text t) rest, length-append (line_text t.line) (mark_text t.header ++ flat_map mark_text t.columns))

pub table_shorter : (bytes : List ℕ) (t : Table) (rest : List ℕ) → table_at bytes ≡ Some (t, rest) → length rest < length bytes
table_shorter bytes t rest e = subst (λ (b : List ℕ). length rest < length b) (sym (table_takes bytes t rest e).0) (table_longer t rest)

-- ---- all of them

pub tables_step : (most : ℕ) (bytes : List ℕ) → 0 < length bytes
    → tables_at (suc most) bytes ≡ (table_at bytes >>= λ t. tables_at most t.1 >>= λ ts. Some (t.0 ∷ ts))
unfolding tables_at
tables_step most [] some = absurd (omega (arith, some))
tables_step most (b ∷ bytes) some = refl

pub tables_none : (most : ℕ) (bytes : List ℕ) → length bytes ≡ 0 → tables_at most bytes ≡ Some []
unfolding tables_at
tables_none zero [] e = refl
tables_none (suc most) [] e = refl
tables_none most (b ∷ bytes) e = absurd (omega (arith, e))

pub tables_take : (most : ℕ) (bytes : List ℕ) (ts : List Table) → tables_at most bytes ≡ Some ts
    → (bytes ≡ flat_map table_text ts) × AllByRecursion IsTable ts
unfolding tables_at
tables_take zero [] ts e =
    subst (λ (q : List Table). ([] ≡ flat_map table_text q) × AllByRecursion IsTable q) (some_is [] ts e) (refl, tt)
tables_take (suc most) [] ts e =
    subst (λ (q : List Table). ([] ≡ flat_map table_text q) × AllByRecursion IsTable q) (some_is [] ts e) (refl, tt)
tables_take zero (b ∷ bytes) ts e = absurd cc
tables_take (suc most) (b ∷ bytes) ts e =
    let t = bind_some (table_at (b ∷ bytes)) (λ t. tables_at most t.1 >>= λ more. Some (t.0 ∷ more)) ts e in
    let more = bind_some (tables_at most t.0.1) (λ more. Some (t.0.0 ∷ more)) ts t.2 in
    let a = table_takes (b ∷ bytes) t.0.0 t.0.1 t.1 in
    let c = tables_take most t.0.1 more.0 more.1 in
    subst (λ (q : List Table). ((b ∷ bytes) ≡ flat_map table_text q) × AllByRecursion IsTable q) (some_is (t.0.0 ∷ more.0) ts more.2)
    (a.0 ∙ ap (λ (r : List ℕ). table_text t.0.0 ++ r) c.0 ∙ sym (flat_map-cons table_text t.0.0 more.0), (a.1, c.1))

pub tables_again : (most : ℕ) (ts : List Table) → length (flat_map table_text ts) ≤ most → AllByRecursion IsTable ts
    → tables_at most (flat_map table_text ts) ≡ Some ts
tables_again most [] le fits = tables_none most [] refl
tables_again zero (t ∷ ts) le fits =
    absurd (omega (arith, le, ap length (flat_map-cons table_text t ts), table_longer t (flat_map table_text ts)))
tables_again (suc most) (t ∷ ts) le fits =
    let cons = flat_map-cons table_text t ts in
    let long = table_longer t (flat_map table_text ts) in
    let some : 0 < length (table_text t ++ flat_map table_text ts) = omega (arith, long) in
    let rest : tables_at most (flat_map table_text ts) ≡ Some ts = tables_again most ts (omega (arith, le, ap length cons, long)) fits.1 in
    ap (tables_at (suc most)) cons ∙ tables_step most (table_text t ++ flat_map table_text ts) some
    ∙ rw (table_again t (flat_map table_text ts) fits.0, rest) refl
