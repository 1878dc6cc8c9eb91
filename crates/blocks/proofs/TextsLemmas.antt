-- Texts read from their payload, and the payload of texts that were read.
use Rattle.std.proofs.Common.{◌≡◌, ℕ, zero, suc, ◌+◌, ◌^◌, ◌<◌, ◌≤◌, Bool, true, false, cond, ltb, List, [], ◌∷◌, ◌++◌, length, take, drop, Ok, Err, IsUtf8, refl, sym, ap, subst, ◌∙◌, append_assoc, arith, rules}
use Rattle.std.specs.List.{flat_map}
use Rattle.std.specs.Int.{w16, from_be_bytes, to_be_bytes}
use Rattle.std.specs.Str.{is_utf8}
use Rattle.std.proofs.lemmas.Bool.{ltb-false, le-ltb, false_from_ne_true}
use Rattle.std.proofs.lemmas.List.{length-append, length-take, length-drop, take_at, drop_at, take-append-drop}
use Rattle.std.proofs.lemmas.Nat.{be_bytes_2, from_be_bytes-to_be_bytes_2}
use Rattle.std.proofs.lemmas.Str.{IsUtf8-from_is_utf8, is_utf8-from_IsUtf8}
use Rattle.values.specs.declared.value.ColumnType.TheVariants as column
use Rattle.values.specs.declared.value.Value.{Value}
use Rattle.values.specs.declared.value.Value.TheVariants.{Int, Text, Bool as Truth}
use Rattle.values.specs.declared.limits.TheConstants.{MAX_TEXT_BYTES}
use Rattle.blocks.specs.declared.fault.BlockFault.{BlockFault}
use Rattle.blocks.specs.declared.fault.BlockFault.TheVariants.{Short, BadText, TextTooLong}
use Rattle.blocks.specs.Cuts.{IsText}
use Rattle.blocks.specs.Column.{AllFit}
use Rattle.blocks.specs.Payload.{AreBytes, spelling}
use Rattle.blocks.specs.Reading.{and_then, length_of, text_at, texts_at}
use Rattle.blocks.proofs.IntsLemmas.{AreBytes-drop, AreBytes-take, bind_ok, guard_ok, ok_is, done}
use Rattle.std.proofs.lemmas.Grind.{common_steps}

-- a test that held
test_ok : {A : Type 0} (b : Bool) (fault : BlockFault) (x y : A) → cond b (done x) (Err fault) ≡ Ok y → (b ≡ true) × (x ≡ y)
test_ok true fault x y e = (refl, ok_is x y e)
test_ok false fault x y e = absurd cc

-- a text that was read: it lies after its length, and the rest after it
record Found (bytes t rest : List ℕ) : Type 0 where
  two : 2 ≤ length bytes
  short : length_of bytes ≤ MAX_TEXT_BYTES
  long : length_of bytes ≤ length (drop 2 bytes)
  utf8 : IsUtf8 (take (length_of bytes) (drop 2 bytes))
  first : take (length_of bytes) (drop 2 bytes) ≡ t
  others : drop (length_of bytes) (drop 2 bytes) ≡ rest

text_ok : (i at : ℕ) (bytes t rest : List ℕ) → text_at i at bytes ≡ Ok (t, rest) → Found bytes t rest
unfolding text_at
text_ok i at bytes t rest e =
    let len = length_of bytes in
    let body = drop 2 bytes in
    let found : List ℕ × List ℕ = (take len body, drop len body) in
    let a =
    guard_ok (ltb (length bytes) 2) (Short at) (cond (ltb MAX_TEXT_BYTES len) (Err (TextTooLong i))
    (cond (ltb (length body) len) (Err (Short at)) (cond (is_utf8 (take len body)) (Ok found) (Err (BadText i))))) (t, rest)
    e in
    let b =
    guard_ok (ltb MAX_TEXT_BYTES len) (TextTooLong i)
    (cond (ltb (length body) len) (Err (Short at)) (cond (is_utf8 (take len body)) (Ok found) (Err (BadText i)))) (t, rest)
    a.1 in
    let c = guard_ok (ltb (length body) len) (Short at) (cond (is_utf8 (take len body)) (Ok found) (Err (BadText i))) (t, rest) b.1 in
    let d = test_ok (is_utf8 (take len body)) (BadText i) found (t, rest) c.1 in
    record {
      two = ltb-false _ _ a.0;
      short = ltb-false _ _ b.0;
      long = ltb-false _ _ c.0;
      utf8 = IsUtf8-from_is_utf8 (take len body) d.0;
      first = ap (λ (p : List ℕ × List ℕ). p.0) d.1;
      others = ap (λ (p : List ℕ × List ℕ). p.1) d.1;
    }

-- how long a text that was read is, and what follows it
pub record Measured (bytes t rest : List ℕ) : Type 0 where
  pub short : length t ≤ MAX_TEXT_BYTES
  pub counted : length rest + 2 + length t ≡ length bytes

pub text_measured : (i at : ℕ) (bytes t rest : List ℕ) → text_at i at bytes ≡ Ok (t, rest) → Measured bytes t rest
text_measured i at bytes t rest e = grind (arith, common_steps, text_ok, length-take, length-drop)

-- the front of the bytes is the spelling of a text
record Taken (bytes t rest : List ℕ) : Type 0 where
  text : IsText t
  spelt : bytes ≡ spelling (Text t) ++ rest
  small : AreBytes rest

text_takes : (i at : ℕ) (bytes t rest : List ℕ) → AreBytes bytes → text_at i at bytes ≡ Ok (t, rest) → Taken bytes t rest
text_takes i at bytes t rest small e =
    let found = text_ok i at bytes t rest e in
    let len = length_of bytes in
    let body = drop 2 bytes in
    let counted : length (take len body) ≡ len = omega (arith, length-take len body, found.long) in
    let front : to_be_bytes w16 len ≡ take 2 bytes =
    be_bytes_2 (take 2 bytes) len (omega (arith, length-take 2 bytes, found.two)) (AreBytes-take 2 bytes small) refl in
    let whole : bytes ≡ spelling (Text (take len body)) ++ drop len body =
    sym (take-append-drop 2 bytes)
    ∙ ap (λ xs. xs ++ body) (sym front)
    ∙ ap (λ xs. to_be_bytes w16 len ++ xs) (sym (take-append-drop len body))
    ∙ sym (append_assoc (to_be_bytes w16 len) (take len body) (drop len body))
    ∙ ap (λ n. (to_be_bytes w16 n ++ take len body) ++ drop len body) (sym counted) in
    let made : Taken bytes (take len body) (drop len body) = record {
      text = record { utf8 = found.utf8; short = omega (arith, counted, found.short) };
      spelt = whole;
      small = AreBytes-drop len body (AreBytes-drop 2 bytes small);
    } in
    subst (λ xs. Taken bytes t xs) found.others (subst (λ xs. Taken bytes xs (drop len body)) found.first made)

-- what was read is texts, and bytes are their spelling
pub texts_take : (i at count : ℕ) (bytes : List ℕ) (values : List Value) → AreBytes bytes → texts_at i at count bytes ≡ Ok values
    → (length values ≡ count) × AllFit column.Text values × (bytes ≡ flat_map spelling values)
unfolding texts_at
texts_take i at zero bytes values small e = search rules
texts_take i at (suc count) bytes values small e =
    let a =
    bind_ok (text_at i at bytes) (λ found. and_then (Text found.0) (texts_at (i + 1) (at + 2 + length found.0) count found.1))
    values e in
    let b = bind_ok (texts_at (i + 1) (at + 2 + length a.0.0) count a.0.1) (λ others. Ok (Text a.0.0 ∷ others)) values a.2 in
    let first = text_takes i at bytes a.0.0 a.0.1 small a.1 in
    let others = texts_take (i + 1) (at + 2 + length a.0.0) count a.0.1 b.0 first.small b.1 in
    let whole : bytes ≡ flat_map spelling (Text a.0.0 ∷ b.0) = first.spelt ∙ ap (λ rest. spelling (Text a.0.0) ++ rest) others.2 in
    subst (λ vs. (length vs ≡ suc count) × AllFit column.Text vs × (bytes ≡ flat_map spelling vs))
    (ok_is (Text a.0.0 ∷ b.0) values b.2) (ap suc others.0, (first.text, others.1), whole)

-- the spelling of a text is read as the text
text_again : (i at : ℕ) (front t rest : List ℕ) → length front ≡ 2 → from_be_bytes w16 front ≡ length t → IsText t
    → text_at i at (front ++ (t ++ rest)) ≡ Ok (t, rest)
unfolding text_at
text_again i at front t rest two spelt text = grind (arith, common_steps, le-ltb, length-append, take_at, drop_at, is_utf8-from_IsUtf8)

texts_none : (i at : ℕ) → texts_at i at 0 [] ≡ Ok []
unfolding texts_at
texts_none i at = refl

texts_step : (i at count : ℕ) (bytes t rest : List ℕ) → text_at i at bytes ≡ Ok (t, rest)
    → texts_at i at (suc count) bytes ≡ and_then (Text t) (texts_at (i + 1) (at + 2 + length t) count rest)
unfolding texts_at
texts_step i at count bytes t rest e = rw e refl

-- the spelling of texts is read as these texts
pub texts_again : (i at : ℕ) (values : List Value) → AllFit column.Text values
    → texts_at i at (length values) (flat_map spelling values) ≡ Ok values
texts_again i at [] fit = texts_none i at
texts_again i at (Text t ∷ values) fit =
    let front = to_be_bytes w16 (length t) in
    let rest = flat_map spelling values in
    let short : length t < 2 ^ 16 = omega (arith, fit.0.short) in
    let one = text_again i at front t rest refl (from_be_bytes-to_be_bytes_2 (length t) short) fit.0 in
    texts_step i at (length values) ((front ++ t) ++ rest) t rest (ap (text_at i at) (append_assoc front t rest) ∙ one)
    ∙ ap (and_then (Text t)) (texts_again (i + 1) (at + 2 + length t) values fit.1)
texts_again i at (Int x ∷ values) fit = absurd fit.0
texts_again i at (Truth b ∷ values) fit = absurd fit.0

-- ---- one text, from what the reader has found

-- the text, and what follows it
pub text_found : (i at : ℕ) (bytes : List ℕ) (len : ℕ) (body t rest : List ℕ) → 2 ≤ length bytes → body ≡ drop 2 bytes
    → len ≡ length_of bytes → len ≤ MAX_TEXT_BYTES → len ≤ length body → t ≡ take len body → rest ≡ drop len body → IsUtf8 t
    → text_at i at bytes ≡ Ok (t, rest)
unfolding text_at
text_found i at bytes len body t rest two body-is len-is short long t-is rest-is utf8 =
    grind (arith, common_steps, le-ltb, is_utf8-from_IsUtf8)

-- bytes that are no text
pub text_bad : (i at : ℕ) (bytes : List ℕ) (len : ℕ) (body t : List ℕ) → 2 ≤ length bytes → body ≡ drop 2 bytes
    → len ≡ length_of bytes → len ≤ MAX_TEXT_BYTES → len ≤ length body → t ≡ take len body → (IsUtf8 t → ⊥)
    → text_at i at bytes ≡ Err (BadText i)
unfolding text_at
text_bad i at bytes len body t two body-is len-is short long t-is bad =
    let a : ltb (length bytes) 2 ≡ false = le-ltb _ _ two in
    let b : ltb MAX_TEXT_BYTES len ≡ false = le-ltb _ _ short in
    let c : ltb (length body) len ≡ false = le-ltb _ _ long in
    let d : is_utf8 (take len body) ≡ false =
    false_from_ne_true (is_utf8 (take len body)) (λ e. bad (subst IsUtf8 (sym t-is) (IsUtf8-from_is_utf8 (take len body) e)))
    in
    rw (sym body-is, sym len-is, a, b, c, d) refl
