-- One text, from what the reader has found.
use Rattle.std.proofs.Common.{◌≡◌, ℕ, ◌≤◌, true, false, ltb, List, length, take, drop, Ok, Err, IsUtf8, refl, sym, subst}
use Rattle.std.specs.Str.{is_utf8}
use Rattle.std.proofs.lemmas.Bool.{le-ltb, false_from_ne_true}
use Rattle.std.proofs.lemmas.Str.{IsUtf8-from_is_utf8, is_utf8-from_IsUtf8}
use Rattle.values.specs.declared.value.Value.TheVariants.{Text}
use Rattle.values.specs.declared.limits.TheConstants.{MAX_TEXT_BYTES}
use Rattle.blocks.specs.Reading.{length_of}
use Rattle.codec.specs.declared.fault.PayloadFault.TheVariants.{BadCell}
use Rattle.codec.specs.Reading.{begin, text_at}

-- the text, and what follows it
pub text_found : (end : ℕ) (bytes : List ℕ) (len : ℕ) (body t rest : List ℕ) → 2 ≤ length bytes → body ≡ drop 2 bytes
    → len ≡ length_of bytes → len ≤ MAX_TEXT_BYTES → len ≤ length body → t ≡ take len body → rest ≡ drop len body → IsUtf8 t
    → text_at end bytes ≡ Ok (Text t, rest)
unfolding text_at
text_found end bytes len body t rest two body-is len-is short long t-is rest-is utf8 =
    let a : ltb (length bytes) 2 ≡ false = le-ltb _ _ two in
    let b : ltb MAX_TEXT_BYTES len ≡ false = le-ltb _ _ short in
    let c : ltb (length body) len ≡ false = le-ltb _ _ long in
    let d : is_utf8 (take len body) ≡ true = is_utf8-from_IsUtf8 (take len body) (subst IsUtf8 t-is utf8) in
    rw (sym body-is, sym len-is, a, b, c, d, t-is, rest-is) refl

-- bytes that are no text
pub text_bad : (end : ℕ) (bytes : List ℕ) (len : ℕ) (body t : List ℕ) → 2 ≤ length bytes → body ≡ drop 2 bytes
    → len ≡ length_of bytes → len ≤ MAX_TEXT_BYTES → len ≤ length body → t ≡ take len body → (IsUtf8 t → ⊥)
    → text_at end bytes ≡ Err (BadCell (begin end bytes))
unfolding text_at
text_bad end bytes len body t two body-is len-is short long t-is bad =
    let a : ltb (length bytes) 2 ≡ false = le-ltb _ _ two in
    let b : ltb MAX_TEXT_BYTES len ≡ false = le-ltb _ _ short in
    let c : ltb (length body) len ≡ false = le-ltb _ _ long in
    let d : is_utf8 (take len body) ≡ false =
    false_from_ne_true (is_utf8 (take len body)) (λ e. bad (subst IsUtf8 (sym t-is) (IsUtf8-from_is_utf8 (take len body) e))) in
    rw (sym body-is, sym len-is, a, b, c, d) refl
