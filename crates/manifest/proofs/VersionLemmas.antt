-- A later version is what a manifest's first line says above this one.
use Rattle.std.proofs.Common.{◌≡◌, ◌<◌, ◌↔◌, ℕ, ◌-◌, ◌^◌, Bool, cond, ltb, Option, Some, None, List, ◌++◌, codes, refl, sym, ap, ◌∙◌, arith, IsTrue}
use Rattle.std.proofs.lemmas.Bool.{lt-ltb, ltb-true}
use Rattle.std.proofs.lemmas.Option.{cond_some}
use Rattle.std.specs.Option.{is_some}
use Rattle.manifest.specs.Manifest.{number_text, with_end}
use Rattle.manifest.specs.Reading.{◌>>=◌, after_word, checked, number_at}
use Rattle.manifest.specs.Version.{IsLater, later, later_in, later_version}
use Rattle.manifest.proofs.ManifestLemmas.{checked_again, checked_takes}
use Rattle.manifest.proofs.NumberLemmas.{number_reads}
use Rattle.manifest.proofs.ReaderLemmas.{IsReader, after_again, after_takes, bind_some}

version_reads : IsReader (λ n. n < 2 ^ 32) (number_text 10) (number_at (2 ^ 32 - 1) 10)
version_reads = number_reads (2 ^ 32 - 1) (2 ^ 32) 10 refl (omega arith) refl

abbrev word : List ℕ
word = codes "narthexmace "

some_true : {A : Type 0} (o : Option A) → IsTrue (is_some o) → (x : A) × (o ≡ Some x)
some_true (Some x) e = (x, refl)
some_true None e = absurd cc

pub later_is : (bytes : List ℕ) (n : ℕ) → later_version bytes ≡ Some n → IsLater bytes
unfolding later_version
later_is bytes n e =
    let b = bind_some (checked bytes) later_in n e in
    let w = bind_some (after_word word b.0) (λ rest. number_at (2 ^ 32 - 1) 10 rest >>= later) n b.2 in
    let v = bind_some (number_at (2 ^ 32 - 1) 10 w.0) later n w.2 in
    let c = cond_some (ltb 1 v.0.0) v.0.0 n v.2 in
    let t = version_reads.takes w.0 v.0.0 v.0.1 v.1 in
    record {
      version = v.0.0;
      rest = v.0.1;
      above = ltb-true 1 v.0.0 c.0;
      below = t.1;
      spelt = checked_takes bytes b.0 b.1 ∙ ap with_end (after_takes word b.0 w.0 w.1 ∙ ap (λ (r : List ℕ). word ++ r) t.0);
    }

later_in_again : (version : ℕ) (rest : List ℕ) → 1 < version → version < 2 ^ 32
    → later_in (word ++ (number_text 10 version ++ rest)) ≡ Some version
later_in_again version rest above below =
    ap (λ (o : Option (List ℕ)). o >>= λ rest. number_at (2 ^ 32 - 1) 10 rest >>= later) (after_again word (number_text 10 version ++ rest))
    ∙ ap (λ (o : Option (ℕ × List ℕ)). o >>= later) (version_reads.again version rest below)
    ∙ ap (λ (b : Bool). cond b (some version) None) (lt-ltb 1 version above)
  where
    some : ℕ → Option ℕ
    some n = Some n

pub later_again : (bytes : List ℕ) → IsLater bytes → (n : ℕ) × (later_version bytes ≡ Some n)
unfolding later_version
later_again bytes is =
    let body = word ++ (number_text 10 is.version ++ is.rest) in (
      is.version,
      ap later_version is.spelt ∙ ap (λ (o : Option (List ℕ)). o >>= later_in) (checked_again body)
          ∙ later_in_again is.version is.rest is.above is.below,
    )

pub later_iff : (bytes : List ℕ) (b : Bool) → b ≡ is_some (later_version bytes) → IsTrue b ↔ IsLater bytes
later_iff bytes b e = (
  λ is. let n = some_true (later_version bytes) (sym e ∙ is) in later_is bytes n.0 n.1,
  λ is. let n = later_again bytes is in e ∙ ap is_some n.1,
)
