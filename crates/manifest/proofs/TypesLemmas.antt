-- Formats of columns, read and spelt.
use Rattle.std.proofs.Common.{◌≡◌, ◌<◌, ◌≤◌, ℕ, zero, suc, ◌+◌, ◌-◌, ◌^◌, Bool, false, cond, eqb, ltb, Option, Some, None, List, [], ◌∷◌, ◌++◌, length, get_or, map, take, ◌≢◌, add-one, Result, Ok, Err, refl, sym, ap, subst, ◌∙◌, append_assoc, inl, inr, arith}
use Rattle.std.specs.List.{AllByRecursion}
use Rattle.std.proofs.lemmas.Bool.{eq-eqb, eqb-true, lt-ltb, ltb-true}
use Rattle.std.proofs.lemmas.List.{append-nil, nil_from_length}
use Rattle.std.proofs.lemmas.Option.{cond_some}
use Rattle.std.specs.Prelude.{IfOk}
use Rattle.manifest.specs.Manifest.{IsName, number_text, with_end}
use Rattle.manifest.specs.Reading.{◌>>=◌, Gives, checked, digits_at, name_at, number_at}
use Rattle.manifest.specs.Types.{AreFormats, IsFormat, all_formats, format_at, format_by, format_line, formats_at, short_format, types_lines, types_of, types_spelling}
use Rattle.manifest.specs.declared.fault.ManifestFault.{ManifestFault}
use Rattle.manifest.specs.declared.fault.ManifestFault.TheVariants.{Damaged, NoMemory}
use Rattle.manifest.proofs.ManifestLemmas.{checked_again, checked_takes}
use Rattle.manifest.proofs.NumberLemmas.{name_reads, number_reads}
use Rattle.manifest.proofs.ReaderLemmas.{IsReader, bind_some, chosen, some_is}

long_reads : IsReader (λ n. n < 2 ^ 64) (number_text 32) (number_at (2 ^ 64 - 1) 32)
long_reads = number_reads (2 ^ 64 - 1) (2 ^ 64) 32 refl (omega arith) refl

abbrev Found : Type 0
Found = List ℕ × List ℕ

-- ---- a line

line_is : (n : ℕ) (f : List ℕ) → 1 ≤ length f → format_line n f ≡ number_text 32 n ++ (f ++ 10 ∷ [])
line_is n [] some = absurd (omega (arith, some))
line_is n (b ∷ f) some = refl

format_takes : (n : ℕ) (bytes : List ℕ) (q : Found) → format_at n bytes ≡ Some q → (bytes ≡ format_line n q.0 ++ q.1) × IsFormat q.0
unfolding format_at
format_takes n bytes q e = by (number_at (2 ^ 64 - 1) 32 bytes) refl e
  where
    by : (o : Option (ℕ × List ℕ)) → number_at (2 ^ 64 - 1) 32 bytes ≡ o → format_by n bytes o ≡ Some q
        → (bytes ≡ format_line n q.0 ++ q.1) × IsFormat q.0
    by None at h =
        subst (λ (r : Found). (bytes ≡ format_line n r.0 ++ r.1) × IsFormat r.0) (some_is ([], bytes) q h)
        (refl, record { short = omega arith; plain = tt })
    by (Some found) at h =
        elim (chosen (eqb found.0 n) (name_at found.1 >>= short_format) (Some ([], bytes)) (Some q) h) [
          | inl here ↦
              let x = bind_some (name_at found.1) short_format q here.1 in
              let c = cond_some (ltb (length x.0.0) 64) x.0 q x.2 in
              let number = long_reads.takes bytes found.0 found.1 at in
              let name = name_reads.takes found.1 x.0.0 x.0.1 x.1 in
              let line = line_is n x.0.0 name.1.some in
              subst (λ (r : Found). (bytes ≡ format_line n r.0 ++ r.1) × IsFormat r.0) c.1 (
                number.0 ∙ ap (λ (m : ℕ). number_text 32 m ++ found.1) (eqb-true found.0 n here.0)
                    ∙ ap (λ (r : List ℕ). number_text 32 n ++ r) name.0
                    ∙ sym (append_assoc (number_text 32 n) (x.0.0 ++ 10 ∷ []) x.0.1)
                    ∙ ap (λ (r : List ℕ). r ++ x.0.1) (sym line),
                record { short = omega (arith, ltb-true (length x.0.0) 64 c.0); plain = name.1.plain },
              )
          | inr there ↦
              subst (λ (r : Found). (bytes ≡ format_line n r.0 ++ r.1) × IsFormat r.0) (some_is ([], bytes) q there.1)
              (refl, record { short = omega arith; plain = tt })
        ]

no_number : number_at (2 ^ 64 - 1) 32 [] ≡ None
unfolding number_at digits_at
no_number = refl

-- a line of a later column is none of this one
later_line : (m n : ℕ) (fs : List (List ℕ)) → m < n → n + length fs ≤ 2 ^ 64
    → format_at m (types_lines n fs) ≡ Some ([], types_lines n fs)
unfolding format_at
later_line m n [] lt le = ap (format_by m []) no_number
later_line m n ([] ∷ fs) lt le = later_line m (suc n) fs (omega (arith, lt)) (omega (arith, le))
later_line m n ((b ∷ f) ∷ fs) lt le =
    let back = ((b ∷ f) ++ 10 ∷ []) ++ types_lines (suc n) fs in
    let all = types_lines n ((b ∷ f) ∷ fs) in
    let regrouped : all ≡ number_text 32 n ++ back = append_assoc (number_text 32 n) ((b ∷ f) ++ 10 ∷ []) (types_lines (suc n) fs) in
    let read : number_at (2 ^ 64 - 1) 32 all ≡ Some (n, back) =
    ap (number_at (2 ^ 64 - 1) 32) regrouped ∙ long_reads.again n back (omega (arith, le)) in
    let other : eqb n m ≡ false = not_equal n m lt in
    ap (format_by m all) read
    ∙ ap (λ (c : Bool). cond c (name_at back >>= short_format) (found ([], all))) other
  where
    found : Found → Option Found
    found x = Some x

    not_equal : (n m : ℕ) → m < n → eqb n m ≡ false
    not_equal n m lt = grind (arith, lt)

this_line : (n : ℕ) (b : ℕ) (f rest : List ℕ) → n < 2 ^ 64 → IsFormat (b ∷ f)
    → format_at n (format_line n (b ∷ f) ++ rest) ≡ Some (b ∷ f, rest)
unfolding format_at
this_line n b f rest lt is =
    let format = b ∷ f in
    let back = (format ++ 10 ∷ []) ++ rest in
    let all = format_line n format ++ rest in
    let regrouped : all ≡ number_text 32 n ++ back = append_assoc (number_text 32 n) (format ++ 10 ∷ []) rest in
    let read : number_at (2 ^ 64 - 1) 32 all ≡ Some (n, back) =
    ap (number_at (2 ^ 64 - 1) 32) regrouped ∙ long_reads.again n back lt in
    let name : IsName format = record { some = omega arith; short = omega (arith, is.short); plain = is.plain } in
    ap (format_by n all) read
    ∙ ap (λ (c : Bool). cond c (name_at back >>= short_format) (found ([], all))) (eq-eqb n n refl)
    ∙ ap (λ (o : Option Found). o >>= short_format) (name_reads.again format rest name)
    ∙ ap (λ (c : Bool). cond c (found (format, rest)) None) (lt-ltb (length format) 64 (omega (arith, is.short)))
  where
    found : Found → Option Found
    found x = Some x

-- ---- all of them

abbrev Formats : Type 0
Formats = List (List ℕ) × List ℕ

abbrev cons_on : List ℕ → Formats → Option Formats
cons_on f fs = Some (f ∷ fs.0, fs.1)

pub formats_take : (k n : ℕ) (bytes : List ℕ) (q : Formats) → formats_at k n bytes ≡ Some q
    → (bytes ≡ types_lines n q.0 ++ q.1) × (length q.0 ≡ k) × AllByRecursion IsFormat q.0
unfolding formats_at
formats_take zero n bytes q e =
    subst (λ (r : Formats). (bytes ≡ types_lines n r.0 ++ r.1) × (length r.0 ≡ 0) × AllByRecursion IsFormat r.0) (some_is ([], bytes) q e)
    (refl, refl, tt)
formats_take (suc k) n bytes q e =
    let f = bind_some (format_at n bytes) (λ f. formats_at k (suc n) f.1 >>= cons_on f.0) q e in
    let fs = bind_some (formats_at k (suc n) f.0.1) (cons_on f.0.0) q f.2 in
    let t = format_takes n bytes f.0 f.1 in
    let u = formats_take k (suc n) f.0.1 fs.0 fs.1 in
    let made : Formats = (f.0.0 ∷ fs.0.0, fs.0.1) in
    subst (λ (r : Formats). (bytes ≡ types_lines n r.0 ++ r.1) × (length r.0 ≡ suc k) × AllByRecursion IsFormat r.0) (some_is made q fs.2) (
      t.0 ∙ ap (λ (r : List ℕ). format_line n f.0.0 ++ r) u.0 ∙ sym (append_assoc (format_line n f.0.0) (types_lines (suc n) fs.0.0) fs.0.1),
      ap suc u.1,
      (t.1, u.2),
    )

pub formats_again : (n : ℕ) (fs : List (List ℕ)) → n + length fs ≤ 2 ^ 64 → AllByRecursion IsFormat fs
    → formats_at (length fs) n (types_lines n fs) ≡ Some (fs, [])
unfolding formats_at
formats_again n [] le all = refl
formats_again n ([] ∷ fs) le all =
    ap (λ (o : Option Found). o >>= λ f. formats_at (length fs) (suc n) f.1 >>= cons_on f.0)
    (later_line n (suc n) fs (omega arith) (omega (arith, le)))
    ∙ ap (λ (o : Option Formats). o >>= cons_on []) (formats_again (suc n) fs (omega (arith, le)) all.1)
formats_again n ((b ∷ f) ∷ fs) le all =
    ap (λ (o : Option Found). o >>= λ f. formats_at (length fs) (suc n) f.1 >>= cons_on f.0)
    (this_line n b f (types_lines (suc n) fs) (omega (arith, le)) all.0)
    ∙ ap (λ (o : Option Formats). o >>= cons_on (b ∷ f)) (formats_again (suc n) fs (omega (arith, le)) all.1)

-- ---- the text

pub types_take : (width : ℕ) (bytes : List ℕ) (fs : List (List ℕ)) → types_of width bytes ≡ Some fs
    → AreFormats width fs × (bytes ≡ types_spelling fs)
unfolding types_of
types_take width bytes fs e =
    let b = bind_some (checked bytes) (λ body. formats_at width 0 body >>= all_formats) fs e in
    let q = bind_some (formats_at width 0 b.0) all_formats fs b.2 in
    let c = cond_some (eqb (length q.0.1) 0) q.0.0 fs q.2 in
    let t = formats_take width 0 b.0 q.0 q.1 in
    let none = nil_from_length q.0.1 (eqb-true (length q.0.1) 0 c.0) in
    let body : b.0 ≡ types_lines 0 q.0.0 =
    t.0 ∙ ap (λ (r : List ℕ). types_lines 0 q.0.0 ++ r) none ∙ append-nil (types_lines 0 q.0.0) in
    subst (λ (r : List (List ℕ)). AreFormats width r × (bytes ≡ types_spelling r)) c.1
    (record { count = t.1; each = t.2 }, checked_takes bytes b.0 b.1 ∙ ap with_end body)

pub types_again : (width : ℕ) (fs : List (List ℕ)) → width < 2 ^ 64 → AreFormats width fs → types_of width (types_spelling fs) ≡ Some fs
unfolding types_of
types_again width fs small are =
    let all : formats_at width 0 (types_lines 0 fs) ≡ Some (fs, []) =
    subst (λ (k : ℕ). formats_at k 0 (types_lines 0 fs) ≡ Some (fs, [])) are.count
    (formats_again 0 fs (omega (arith, small, are.count)) are.each) in
    ap (λ (o : Option (List ℕ)). o >>= λ body. formats_at width 0 body >>= all_formats) (checked_again (types_lines 0 fs))
    ∙ ap (λ (o : Option Formats). o >>= all_formats) all

-- ---- what is answered

pub types_spelt : {A : Type 0} (view : A → List (List ℕ)) (width : ℕ) (bytes : List ℕ) (answer : Result A ManifestFault)
    → Gives view answer (types_of width bytes) → IfOk answer (λ x. AreFormats width (view x) × (bytes ≡ types_spelling (view x)))
types_spelt view width bytes (Ok x) e = types_take width bytes (view x) e
types_spelt view width bytes (Err fault) e = tt

pub types_read : {A : Type 0} (view : A → List (List ℕ)) (width : ℕ) (bytes : List ℕ) (answer : Result A ManifestFault)
    → Gives view answer (types_of width bytes) → width < 2 ^ 64 → (fs : List (List ℕ)) → AreFormats width fs → bytes ≡ types_spelling fs
    → IfOk answer (λ x. view x ≡ fs) × (answer ≢ Err Damaged)
types_read view width bytes (Ok x) e small fs are is =
    (some_is (view x) fs (sym e ∙ ap (types_of width) is ∙ types_again width fs small are), λ h. absurd cc)
types_read view width bytes (Err Damaged) e small fs are is = absurd (no (sym e ∙ ap (types_of width) is ∙ types_again width fs small are))
  where
    no : {B : Type 0} {y : B} → ◌≡◌ {A = Option B} None (Some y) → ⊥
    no e = cc e
types_read view width bytes (Err NoMemory) e small fs are is = (tt, λ h. absurd cc)

-- ---- as a loop reads them

-- formats that were read before
abbrev pub with_formats : List (List ℕ) → Option Formats → Option Formats
with_formats front read = read >>= λ x. Some (front ++ x.0, x.1)

regroup : (front : List (List ℕ)) (f : List ℕ) (read : Option Formats)
    → with_formats front (read >>= cons_on f) ≡ with_formats (front ++ f ∷ []) read
regroup front f (Some x) = ap (λ (fs : List (List ℕ)). found (fs, x.1)) (sym (append_assoc front (f ∷ []) x.0))
  where
    found : Formats → Option Formats
    found x = Some x
regroup front f None = refl

formats_step : (k n : ℕ) (bytes : List ℕ) → formats_at (suc k) n bytes ≡ (format_at n bytes >>= λ f. formats_at k (suc n) f.1 >>= cons_on f.0)
unfolding formats_at
formats_step k n bytes = refl

formats_zero : (n : ℕ) (bytes : List ℕ) → formats_at 0 n bytes ≡ Some ([], bytes)
unfolding formats_at
formats_zero n bytes = refl

module _ (front : List (List ℕ)) (count i : ℕ) (bytes : List ℕ) (total : Option Formats)
    (so_far : with_formats front (formats_at (count - i) i bytes) ≡ total) where
  step : i < count → with_formats front (format_at i bytes >>= λ f. formats_at (count - (i + 1)) (i + 1) f.1 >>= cons_on f.0) ≡ total
  step lt =
      let k : count - i ≡ suc (count - (i + 1)) = omega (arith, lt) in
      rw add-one
      (sym (ap (with_formats front) (ap (λ (n : ℕ). formats_at n i bytes) k ∙ rw add-one (formats_step (count - suc i) i bytes))) ∙ so_far)

  pub format_more : (f after : List ℕ) → i < count → format_at i bytes ≡ Some (f, after)
      → with_formats (front ++ f ∷ []) (formats_at (count - (i + 1)) (i + 1) after) ≡ total
  format_more f after lt e =
      sym (regroup front f (formats_at (count - (i + 1)) (i + 1) after))
      ∙ sym (ap (λ (o : Option Found). with_formats front (o >>= λ f. formats_at (count - (i + 1)) (i + 1) f.1 >>= cons_on f.0)) e)
      ∙ step lt

  pub format_fails : i < count → format_at i bytes ≡ None → total ≡ None
  format_fails lt e =
      sym (step lt)
      ∙ ap (λ (o : Option Found). with_formats front (o >>= λ f. formats_at (count - (i + 1)) (i + 1) f.1 >>= cons_on f.0)) e

  pub formats_done : count ≤ i → total ≡ Some (front, bytes)
  formats_done le =
      let k : count - i ≡ 0 = omega (arith, le) in
      sym so_far ∙ ap (with_formats front) (ap (λ (n : ℕ). formats_at n i bytes) k ∙ formats_zero i bytes)
      ∙ ap (λ (fs : List (List ℕ)). found (fs, bytes)) (append-nil front)
    where
      found : Formats → Option Formats
      found x = Some x

-- ---- and as one puts them

pub lines_more : {A : Type 0} (f : A → List ℕ) (xs : List A) (n i m : ℕ) (d : A) → m ≡ n + i → i < length xs
    → types_lines n (map f (take (suc i) xs)) ≡ types_lines n (map f (take i xs)) ++ format_line m (f (get_or xs i d))
lines_more f [] n i m d is lt = absurd (omega (arith, lt))
lines_more f (x ∷ xs) n zero m d is lt =
    append-nil (format_line n (f x)) ∙ ap (λ (k : ℕ). format_line k (f x)) (omega (arith, is))
lines_more f (x ∷ xs) n (suc i) m d is lt =
    ap (λ (r : List ℕ). format_line n (f x) ++ r) (lines_more f xs (suc n) i m d (omega (arith, is)) (omega (arith, lt)))
    ∙ sym (append_assoc (format_line n (f x)) (types_lines (suc n) (map f (take i xs))) (format_line m (f (get_or xs i d))))

pub put_more : {A : Type 0} (f : A → List ℕ) (xs : List A) (i : ℕ) (d : A) (old out new : List ℕ) → i < length xs
    → out ≡ old ++ types_lines 0 (map f (take i xs)) → new ≡ out ++ format_line i (f (get_or xs i d))
    → new ≡ old ++ types_lines 0 (map f (take (suc i) xs))
put_more f xs i d old out new lt so_far put =
    let line = format_line i (f (get_or xs i d)) in
    put ∙ ap (λ (front : List ℕ). front ++ line) so_far ∙ append_assoc old (types_lines 0 (map f (take i xs))) line
    ∙ ap (λ (back : List ℕ). old ++ back) (sym (lines_more f xs 0 i i d (omega arith) lt))
