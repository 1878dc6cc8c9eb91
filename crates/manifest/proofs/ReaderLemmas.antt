-- A reader reads what a text spells, and no more; and so do readers that are made of such.
use Rattle.std.proofs.Common.{◌≡◌, ◌<◌, ◌⊎◌, ℕ, ◌+◌, ◌*◌, ◌/◌, ◌%◌, Bool, true, false, cond, Option, Some, None, List, ◌++◌, length, take, drop, refl, sym, ap, subst, ◌∙◌, append_assoc, inl, inr}
use Rattle.std.specs.Str.{bytes_eq}
use Rattle.std.proofs.lemmas.List.{take_at, drop_at, take-append-drop}
use Rattle.std.proofs.lemmas.Nat.{div-mul-add, mod-mul-add, div-add-mod', div_below, mod_below}
use Rattle.std.proofs.lemmas.Option.{cond_some}
use Rattle.std.proofs.lemmas.Slice.Eq.{bytes_eq-Decides}
use Rattle.manifest.specs.Manifest.{halves_text}
use Rattle.manifest.specs.Reading.{◌>>=◌, Reader, after_word, before, behind, both, halves_at, said}

-- what is read is spelt so, and what is spelt so is read, whatever follows
pub record IsReader {A : Type 0} (Fits : A → Type 0) (text : A → List ℕ) (at : Reader A) : Type 0 where
  pub takes : (bytes : List ℕ) (x : A) (rest : List ℕ) → at bytes ≡ Some (x, rest) → (bytes ≡ text x ++ rest) × Fits x
  pub again : (x : A) (rest : List ℕ) → Fits x → at (text x ++ rest) ≡ Some (x, rest)

-- the value of a step that found one
pub bind_some : {A B : Type 0} (o : Option A) (f : A → Option B) (y : B) → (o >>= f) ≡ Some y → (x : A) × (o ≡ Some x) × (f x ≡ Some y)
bind_some (Some x) f y e = (x, refl, e)
bind_some None f y e = absurd cc

abbrev some : {A : Type 0} → A → Option A
some x = Some x

pub some_is : {A : Type 0} (x y : A) → some x ≡ some y → x ≡ y
some_is x y e = cc

pub chosen : {A : Type 0} (c : Bool) (x y z : A) → cond c x y ≡ z → ((c ≡ true) × (x ≡ z)) ⊎ ((c ≡ false) × (y ≡ z))
chosen true x y z e = inl (refl, e)
chosen false x y z e = inr (refl, e)

-- ---- words

pub after_takes : (word bytes rest : List ℕ) → after_word word bytes ≡ Some rest → bytes ≡ word ++ rest
after_takes word bytes rest e =
    let c = cond_some (bytes_eq (take (length word) bytes) word) (drop (length word) bytes) rest e in
    sym (take-append-drop (length word) bytes)
    ∙ ap (λ (front : List ℕ). front ++ drop (length word) bytes) ((bytes_eq-Decides (take (length word) bytes) word).0 c.0)
    ∙ ap (λ (r : List ℕ). word ++ r) c.1

pub after_again : (word rest : List ℕ) → after_word word (word ++ rest) ≡ Some rest
after_again word rest =
    let front = take_at word rest (length word) refl in
    let left = drop_at word rest (length word) refl in
    let same : bytes_eq (take (length word) (word ++ rest)) word ≡ true = (bytes_eq-Decides (take (length word) (word ++ rest)) word).1 front in
    rw (same, left) refl

-- ---- readers of readers

pub both_reads : {A B : Type 0} {FA : A → Type 0} {FB : B → Type 0} {ta : A → List ℕ} {tb : B → List ℕ} {a : Reader A} {b : Reader B}
    → IsReader FA ta a → IsReader FB tb b → IsReader (λ p. FA p.0 × FB p.1) (λ p. ta p.0 ++ tb p.1) (both a b)
both_reads {A} {B} {FA} {FB} {ta} {tb} {a} {b} ra rb = record {
  takes = λ bytes p rest e.
      let x = bind_some (a bytes) (λ x. b x.1 >>= λ y. Some ((x.0, y.0), y.1)) (p, rest) e in
      let y = bind_some (b x.0.1) (λ y. Some ((x.0.0, y.0), y.1)) (p, rest) x.2 in
      let t = ra.takes bytes x.0.0 x.0.1 x.1 in
      let u = rb.takes x.0.1 y.0.0 y.0.1 y.1 in
      let made : (A × B) × List ℕ = ((x.0.0, y.0.0), y.0.1) in
      let parts : bytes ≡ (ta x.0.0 ++ tb y.0.0) ++ y.0.1 =
      t.0 ∙ ap (λ (r : List ℕ). ta x.0.0 ++ r) u.0 ∙ sym (append_assoc (ta x.0.0) (tb y.0.0) y.0.1) in
      subst (λ (q : (A × B) × List ℕ). (bytes ≡ (ta q.0.0 ++ tb q.0.1) ++ q.1) × (FA q.0.0 × FB q.0.1)) (some_is made (p, rest) y.2)
      (parts, (t.1, u.1));
  again = λ p rest fits.
      rw (append_assoc (ta p.0) (tb p.1) rest, ra.again p.0 (tb p.1 ++ rest) fits.0, rb.again p.1 rest fits.1) refl;
}

pub behind_reads : {A : Type 0} {FA : A → Type 0} {ta : A → List ℕ} {a : Reader A} (word : List ℕ)
    → IsReader FA ta a → IsReader FA (λ x. word ++ ta x) (behind word a)
behind_reads {A} {FA} {ta} {a} word ra = record {
  takes = λ bytes x rest e.
      let w = bind_some (after_word word bytes) (λ left. a left) (x, rest) e in
      let t = ra.takes w.0 x rest w.2 in
      (after_takes word bytes w.0 w.1 ∙ ap (λ (r : List ℕ). word ++ r) t.0 ∙ sym (append_assoc word (ta x) rest), t.1);
  again = λ x rest fits. rw (append_assoc word (ta x) rest, after_again word (ta x ++ rest), ra.again x rest fits) refl;
}

pub before_reads : {A : Type 0} {FA : A → Type 0} {ta : A → List ℕ} {a : Reader A} (word : List ℕ)
    → IsReader FA ta a → IsReader FA (λ x. ta x ++ word) (before word a)
before_reads {A} {FA} {ta} {a} word ra = record {
  takes = λ bytes x rest e.
      let y = bind_some (a bytes) (λ y. after_word word y.1 >>= λ left. Some (y.0, left)) (x, rest) e in
      let w = bind_some (after_word word y.0.1) (λ left. Some (y.0.0, left)) (x, rest) y.2 in
      let t = ra.takes bytes y.0.0 y.0.1 y.1 in
      let made : A × List ℕ = (y.0.0, w.0) in
      let parts : bytes ≡ (ta y.0.0 ++ word) ++ w.0 =
      t.0 ∙ ap (λ (r : List ℕ). ta y.0.0 ++ r) (after_takes word y.0.1 w.0 w.1) ∙ sym (append_assoc (ta y.0.0) word w.0) in
      subst (λ (q : A × List ℕ). (bytes ≡ (ta q.0 ++ word) ++ q.1) × FA q.0) (some_is made (x, rest) w.2) (parts, t.1);
  again = λ x rest fits. rw (append_assoc (ta x) word rest, ra.again x (word ++ rest) fits, after_again word rest) refl;
}

-- what is said has the text of what it is said by
pub said_reads : {A B : Type 0} {FA : A → Type 0} {ta : A → List ℕ} {a : Reader A} (f : A → B) (back : B → A) (FB : B → Type 0) (tb : B → List ℕ)
    → IsReader FA ta a → ((x : A) → FA x → (tb (f x) ≡ ta x) × FB (f x)) → ((y : B) → FB y → FA (back y) × (f (back y) ≡ y))
    → IsReader FB tb (said f a)
said_reads {A} {B} {FA} {ta} {a} f back FB tb ra there home = record {
  takes = λ bytes y rest e.
      let x = bind_some (a bytes) (λ x. Some (f x.0, x.1)) (y, rest) e in
      let t = ra.takes bytes x.0.0 x.0.1 x.1 in
      let g = there x.0.0 t.1 in
      let made : B × List ℕ = (f x.0.0, x.0.1) in
      subst (λ (q : B × List ℕ). (bytes ≡ tb q.0 ++ q.1) × FB q.0) (some_is made (y, rest) x.2)
      (t.0 ∙ ap (λ (front : List ℕ). front ++ x.0.1) (sym g.0), g.1);
  again = λ y rest fits.
      let h = home y fits in
      let same : tb y ≡ ta (back y) = ap tb (sym h.1) ∙ (there (back y) h.0).0 in
      ap (λ (front : List ℕ). said f a (front ++ rest)) same
      ∙ rw (ra.again (back y) rest h.0) (ap (λ (z : B). some (z, rest)) h.1);
}

-- ---- halves

pub halves_reads : (base limit : ℕ) {half : ℕ → List ℕ} {at : Reader ℕ} → 0 < base → limit ≡ base * base
    → ((h l : ℕ) → h < base → l < base → h * base + l < limit)
    → IsReader (λ n. n < base) half at → IsReader (λ n. n < limit) (halves_text base half) (halves_at base at)
halves_reads base limit {half} {at} some is below r =
    said_reads (λ p. p.0 * base + p.1) (λ n. (n / base, n % base)) (λ n. n < limit) (halves_text base half) (both_reads r r)
    (λ p fits. (
      ap (λ (n : ℕ). half n ++ half ((p.0 * base + p.1) % base)) (div-mul-add p.0 base p.1 fits.1)
          ∙ ap (λ (n : ℕ). half p.0 ++ half n) (mod-mul-add p.0 base p.1 fits.1),
      below p.0 p.1 fits.0 fits.1,
    ))
    (λ n lt. ((div_below n base base some (subst (λ (m : ℕ). n < m) is lt), mod_below n base some), div-add-mod' n base))
