-- The two laws: what is read is spelt so, and what is spelt so is read.
use Rattle.std.proofs.Common.{◌≡◌, ◌<◌, ℕ, ◌-◌, ◌^◌, Bool, true, false, eqb, ltb, ◌&&◌, Option, Some, None, Result, Ok, Err, List, [], ◌∷◌, ◌++◌, length, length-append, take, drop, codes, refl, sym, ap, subst, ◌∙◌, arith, inl, inr}
use Rattle.std.specs.Prelude.{IfOk}
use Rattle.std.specs.List.{flat_map}
use Rattle.std.proofs.lemmas.Bool.{eq-eqb, eqb-true, le-ltb}
use Rattle.std.proofs.lemmas.List.{append-nil, nil_from_length, take_at, drop_at, take-append-drop}
use Rattle.std.proofs.lemmas.Option.{cond_some}
use Rattle.journal.proofs.FrameLemmas.{crc_small}
use Rattle.journal.specs.Check.{crc}
use Rattle.journal.specs.Header.{all_ones}
use Rattle.manifest.specs.Manifest.{Fields, IsManifest, body_text, end_text, head_text, manifest_now, spelling, table_text, with_end, word_text}
use Rattle.manifest.specs.Reading.{◌>>=◌, Gives, IsReadAs, body_by, body_of, checked, end_at, head_at, manifest_of, tables_at}
use Rattle.manifest.specs.declared.entries.Manifest.{Manifest}
use Rattle.manifest.specs.declared.fault.ManifestFault.{ManifestFault}
use Rattle.manifest.specs.declared.fault.ManifestFault.TheVariants.{Damaged, NoMemory}
use Rattle.manifest.proofs.ReaderLemmas.{IsReader, before_reads, behind_reads, bind_some, chosen, some_is}
use Rattle.manifest.proofs.NumberLemmas.{length-word, word_reads}
use Rattle.manifest.proofs.LineLemmas.{head_reads, tables_again, tables_take}

-- ---- the last line

end_reads : IsReader (λ n. n < 2 ^ 32) end_text end_at
unfolding end_at
end_reads = behind_reads (codes "end ") (before_reads (10 ∷ []) word_reads)

length-end : (check : ℕ) → length (end_text check) ≡ 13
length-end check = omega (arith, length-append (word_text check) (10 ∷ []), length-word check)

and_true : (a b : Bool) → (a && b) ≡ true → (a ≡ true) × (b ≡ true)
and_true true b e = (refl, e)
and_true false b e = absurd cc

pub checked_takes : (bytes body : List ℕ) → checked bytes ≡ Some body → bytes ≡ with_end body
unfolding checked
checked_takes bytes body e =
    let n = length bytes - 13 in
    let front = take n bytes in
    elim (chosen (ltb (length bytes) 13) None (end_at (drop n bytes) >>= body_by front) (Some body) e) [
      | inl h ↦ absurd (no h.1)
      | inr h ↦
          let last = bind_some (end_at (drop n bytes)) (body_by front) body h.1 in
          let c = cond_some (eqb (length last.0.1) 0 && eqb last.0.0 (crc all_ones front)) front body last.2 in
          let both = and_true (eqb (length last.0.1) 0) (eqb last.0.0 (crc all_ones front)) c.0 in
          let t = end_reads.takes (drop n bytes) last.0.0 last.0.1 last.1 in
          let whole : drop n bytes ≡ end_text last.0.0 =
          t.0 ∙ ap (λ (r : List ℕ). end_text last.0.0 ++ r) (nil_from_length last.0.1 (eqb-true (length last.0.1) 0 both.0))
          ∙ append-nil (end_text last.0.0) in
          subst (λ (b : List ℕ). bytes ≡ with_end b) c.1
          (sym (take-append-drop n bytes) ∙ ap (λ (r : List ℕ). front ++ r) whole
          ∙ ap (λ (k : ℕ). front ++ end_text k) (eqb-true last.0.0 (crc all_ones front) both.1))
    ]
  where
    no : {A : Type 0} {x : A} → ◌≡◌ {A = Option A} None (Some x) → ⊥
    no e = cc e

pub checked_again : (body : List ℕ) → checked (with_end body) ≡ Some body
unfolding checked
checked_again body =
    let check = crc all_ones body in
    let last = end_text check in
    let long = length-append body last in
    let n : length (body ++ last) - 13 ≡ length body = omega (arith, long, length-end check) in
    let enough : ltb (length (body ++ last)) 13 ≡ false = le-ltb (length (body ++ last)) 13 (omega (arith, long, length-end check)) in
    let front : take (length (body ++ last) - 13) (body ++ last) ≡ body =
    ap (λ (k : ℕ). take k (body ++ last)) n ∙ take_at body last (length body) refl in
    let back : drop (length (body ++ last) - 13) (body ++ last) ≡ last =
    ap (λ (k : ℕ). drop k (body ++ last)) n ∙ drop_at body last (length body) refl in
    let read : end_at last ≡ Some (check, []) =
    ap end_at (sym (append-nil last)) ∙ end_reads.again check [] (crc_small all_ones body (omega arith)) in
    rw (enough, front, back, read, eq-eqb check check refl) refl

-- ---- the rest

body_takes : (bytes : List ℕ) (m : Fields) → body_of bytes ≡ Some m → (bytes ≡ body_text m) × IsManifest m
unfolding body_of
body_takes bytes m e =
    let h = bind_some (head_at bytes) (λ h. tables_at (length h.1) h.1 >>= λ ts. Some (record { head = h.0; tables = ts })) m e in
    let ts = bind_some (tables_at (length h.0.1) h.0.1) (λ ts. Some (record { head = h.0.0; tables = ts })) m h.2 in
    let a = head_reads.takes bytes h.0.0 h.0.1 h.1 in
    let b = tables_take (length h.0.1) h.0.1 ts.0 ts.1 in
    let made : Fields = record { head = h.0.0; tables = ts.0 } in
    subst (λ (q : Fields). (bytes ≡ body_text q) × IsManifest q) (some_is made m ts.2)
    (a.0 ∙ ap (λ (r : List ℕ). head_text h.0.0 ++ r) b.0, record { head = a.1; tables = b.1 })

body_again : (m : Fields) → IsManifest m → body_of (body_text m) ≡ Some m
unfolding body_of
body_again m is =
    let tables = flat_map table_text m.tables in
    rw (head_reads.again m.head tables is.head, tables_again (length tables) m.tables (omega arith) is.tables) refl

pub manifest_takes : (bytes : List ℕ) (m : Fields) → manifest_of bytes ≡ Some m → IsManifest m × (bytes ≡ spelling m)
unfolding manifest_of
manifest_takes bytes m e =
    let c = bind_some (checked bytes) body_of m e in
    let b = body_takes c.0 m c.2 in
    (b.1, checked_takes bytes c.0 c.1 ∙ ap with_end b.0)

pub manifest_again : (m : Fields) → IsManifest m → manifest_of (spelling m) ≡ Some m
unfolding manifest_of
manifest_again m is = rw (checked_again (body_text m)) (body_again m is)

-- ---- what is answered

pub is_spelt : (bytes : List ℕ) (answer : Result Manifest ManifestFault) → Gives manifest_now answer (manifest_of bytes)
    → IfOk answer (λ m. IsManifest (manifest_now m) × (bytes ≡ spelling (manifest_now m)))
is_spelt bytes (Ok m) e = manifest_takes bytes (manifest_now m) e
is_spelt bytes (Err fault) e = tt

pub is_read : (bytes : List ℕ) (answer : Result Manifest ManifestFault) → Gives manifest_now answer (manifest_of bytes)
    → (m : Fields) → IsManifest m → bytes ≡ spelling m → IsReadAs m answer
is_read bytes (Ok read) e m is spelt = sym (some_is m (manifest_now read) (sym (ap manifest_of spelt ∙ manifest_again m is) ∙ e))
is_read bytes (Err Damaged) e m is spelt = no (sym e ∙ (ap manifest_of spelt ∙ manifest_again m is))
  where
    no : {A : Type 0} {x : A} → ◌≡◌ {A = Option A} None (Some x) → ⊥
    no e = cc e
is_read bytes (Err NoMemory) e m is spelt = tt
