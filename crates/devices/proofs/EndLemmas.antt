-- A clean end after whole frames leaves the image.
use Rattle.std.proofs.Common.{◌≡◌, ℕ, suc, ◌==◌, Some, List, [], ◌∷◌, ◌++◌, length, get_or, cond, Result, Ok, Err, refl, sym, ap, subst, ◌∙◌, arith}
use Rattle.std.proofs.lemmas.List.{append-nil, length-append}
use Rattle.values.specs.declared.value.ColumnType.{ColumnType}
use Rattle.values.specs.declared.value.ColumnType.TheVariants as column
use Rattle.frames.specs.declared.fault.ReadFault.{ReadFault}
use Rattle.frames.specs.declared.fault.ReadFault.TheVariants.{WrongCount}
use Rattle.frames.specs.declared.frame.Frame.TheVariants.{End}
use Rattle.frames.specs.declared.frame.Part.{Part}
use Rattle.frames.specs.Reading.{◌>>=◌, frames_of, parts_after}
use Rattle.devices.specs.Ready.{IsWholeColumn, StoresAs}
use Rattle.devices.specs.Stored.{all_parts, image_at, newest_whole}
use Rattle.devices.proofs.FramesLemmas.{AreWanted-append, column_after, parts_again, parts_of-append}
use Rattle.std.proofs.lemmas.Grind.{common_steps}

-- what is read of a column is what was read before its end
end_reading : (next : ℕ) (ty : ColumnType) (old : List ℕ) → IsWholeColumn next ty old → (col : ℕ)
    → parts_after [] (frames_of col (Some ty) (old ++ 69 ∷ [])) ≡ parts_after [] (frames_of col (Some ty) old)
end_reading next ty old whole col =
    let frames = whole.frames in
    parts_again ty (old ++ 69 ∷ []) (frames ++ End ∷ []) [] (column_after old frames (End ∷ []) [] whole.column (tt, tt) refl)
    (AreWanted-append (Some ty) frames (End ∷ []) whole.typed tt) col
    ∙ ap (λ ps. Ok ps) (parts_of-append frames (End ∷ []) ∙ append-nil _) ∙ sym (parts_again ty old frames [] whole.column whole.typed col)

-- columns of which one has its end
all_parts-ended : (next col : ℕ) (types : List ColumnType) (front : List (List ℕ)) (old : List ℕ) (back : List (List ℕ))
    → IsWholeColumn next (get_or types (length front) column.Int) old
    → all_parts col types (front ++ (old ++ 69 ∷ []) ∷ back) ≡ all_parts col types (front ++ old ∷ back)
all_parts-ended next col [] front old back whole = refl
all_parts-ended next col (ty ∷ types) [] old back whole =
    ap (λ (r : Result (List Part) ReadFault). r >>= λ ps. (all_parts (suc col) types back >>= λ os. Ok (ps ∷ os)))
    (end_reading next ty old whole col)
all_parts-ended next col (ty ∷ types) (bytes ∷ front) old back whole =
    grind (arith, common_steps, all_parts-ended next (suc col) types front old back whole)

-- it stores what it stored
pub StoresAs-ended : (old new : List ℕ) → new ≡ old ++ 69 ∷ [] → StoresAs old new
StoresAs-ended old new is = subst (StoresAs old) (sym is) (ended old)
  where
    ended : (old : List ℕ) → StoresAs old (old ++ 69 ∷ [])
    ended old schema next front back whole =
        let news = front ++ (old ++ 69 ∷ []) ∷ back in
        let olds = front ++ old ∷ back in
        let even : length news ≡ length olds =
        omega (arith, length-append front ((old ++ 69 ∷ []) ∷ back), length-append front (old ∷ back)) in
        ap (λ n. cond (n == length schema.types) (all_parts 0 schema.types news >>= λ ps. image_at schema ps (newest_whole ps))
        (Err WrongCount)) even
        ∙ ap
        (λ (r : Result (List (List Part)) ReadFault). cond (length olds == length schema.types) (r >>= λ ps. image_at schema ps (newest_whole ps)) (Err WrongCount))
        (all_parts-ended next 0 schema.types front old back whole)
