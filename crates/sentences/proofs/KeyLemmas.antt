-- The parts of a key, one after the other.
use Rattle.std.proofs.Common.{◌≡◌, ◌+◌, ◌++◌, ◌∷◌, ℕ, zero, suc, List, [], drop, None, true, false, refl, ap, ◌∙◌, arith}
use Rattle.csv.specs.Records.{field_at}
use Rattle.inputs.specs.Reading.{Fields}
use Rattle.sentences.specs.Headings.{is_key_heading}
use Rattle.sentences.specs.Keys.{key_count, key_part, key_parts}

-- past a record's last field nothing is left of it
pub nothing-past : (fields : Fields) (at : ℕ) → None ≡ field_at fields at → drop at fields ≡ []
unfolding field_at
nothing-past [] zero e = refl
nothing-past [] (suc at) e = refl
nothing-past (f ∷ fields) zero e = cc e
nothing-past (f ∷ fields) (suc at) e = nothing-past fields at e

-- where a record ends no part of the key is left
pub key_parts-ended : (at : ℕ) (header fields : Fields) → fields ≡ [] → key_parts at header fields ≡ []
key_parts-ended at [] fields e = refl
key_parts-ended at (heading ∷ header) [] e = refl
key_parts-ended at (heading ∷ header) (f ∷ fields) e = cc e

-- past the key's last column none is left
pub key_parts-past : (at : ℕ) (heading : List ℕ) (header : Fields) (fields : Fields) → is_key_heading heading ≡ false
    → key_parts at (heading ∷ header) fields ≡ []
key_parts-past at heading header [] e = refl
key_parts-past at heading header (f ∷ fields) e = rw e refl

-- a key column gives its part
pub key_parts-more : (at : ℕ) (heading : List ℕ) (header : Fields) (cell : List ℕ) (fields : Fields) → is_key_heading heading ≡ true
    → key_parts at (heading ∷ header) (cell ∷ fields) ≡ key_part at heading cell ++ key_parts (suc at) header fields
key_parts-more at heading header cell fields e = rw e refl

-- a key column counts for one, and another column for none
pub key_count-key : (header : Fields) (at : ℕ) (heading : List ℕ) → drop at header ≡ heading ∷ drop (suc at) header
    → is_key_heading heading ≡ true → key_count (drop at header) ≡ key_count (drop (at + 1) header) + 1
key_count-key header at heading here key =
    let next : suc at ≡ at + 1 = omega arith in
    let more : suc (key_count (drop (suc at) header)) ≡ key_count (drop (suc at) header) + 1 = omega arith in
    ap key_count here ∙ rw key more ∙ ap (λ (n : ℕ). key_count (drop n header) + 1) next

pub key_count-other : (header : Fields) (at : ℕ) (heading : List ℕ) → drop at header ≡ heading ∷ drop (suc at) header
    → is_key_heading heading ≡ false → key_count (drop at header) ≡ key_count (drop (at + 1) header)
key_count-other header at heading here other =
    let next : suc at ≡ at + 1 = omega arith in
    ap key_count here ∙ rw other refl ∙ ap (λ (n : ℕ). key_count (drop n header)) next
