-- A run of a list put after another list.
use Rattle.std.proofs.Common.{◌≡◌, ℕ, zero, suc, ◌+◌, ◌-◌, ◌/◌, ◌%◌, ◌<◌, ◌≤◌, List, [], ◌∷◌, ◌++◌, length, map, take, drop, get_or, slice_get, Some, Result, Ok, Err, OnOk, OnErr, Bool, true, false, cond, pos, append_assoc, refl, sym, ap, subst, ◌∙◌, arith}
use Rattle.std.specs.Prelude.{ℤ}
use mir.Val.{bool_byte}
use Rattle.std.specs.List.{AllByRecursion}
use Rattle.std.proofs.Math.Seq.{take-add, take-append-add}
use Rattle.std.proofs.lemmas.List.{drop_more, drop-drop, drop-take, take-append-le, take-take, take_more, take-map, drop-map, map-append, get_or-drop, length-append, length-drop, length-take}
use Rattle.std.proofs.lemmas.Option.{slice_get_within, get_or_from_slice_get}
use Rattle.blocks.specs.Column.{Column, IsBlock}
use Rattle.std.proofs.lemmas.Grind.{common_steps}
use Rattle.blocks.specs.Payload.{all_bits}
use Rattle.blocks.proofs.BitsLemmas.{drop-all_bits, length-all_bits}
use Rattle.blocks.proofs.SpreadLemmas.{byte_truths}

-- one more of the run
pub run_more : {X : Type 0} (front xs : List X) (start i : ℕ) (x : X) → slice_get xs (start + i) ≡ Some x
    → (front ++ take i (drop start xs)) ++ x ∷ [] ≡ front ++ take (i + 1) (drop start xs)
run_more front xs start i x e =
    let within : i < length (drop start xs) = omega (arith, slice_get_within xs (start + i) x e, length-drop start xs) in
    let there : get_or (drop start xs) i x ≡ x = get_or-drop start xs i x ∙ get_or_from_slice_get xs (start + i) x x e in
    append_assoc front (take i (drop start xs)) (x ∷ [])
    ∙ ap (λ more. front ++ more) (ap (λ y. take i (drop start xs) ++ y ∷ []) (sym there) ∙ sym (take_more (drop start xs) i x within))

-- how long a run is that lies within
pub length-run : {X : Type 0} (xs : List X) (start i : ℕ) → start + i ≤ length xs → length (take i (drop start xs)) ≡ i
length-run xs start i within = omega (arith, length-take i (drop start xs), length-drop start xs)

-- how long a list is with a run after it
pub length-with_run : {X : Type 0} (front xs : List X) (start i : ℕ) → start + i ≤ length xs
    → length (front ++ take i (drop start xs)) ≡ length front + i
length-with_run front xs start i within = omega (arith, length-append front (take i (drop start xs)), length-run xs start i within)

-- a list and a run of another, each with its elements changed
pub map-with_run : {X Y : Type 0} (f : X → Y) (front xs : List X) (start i : ℕ)
    → map f (front ++ take i (drop start xs)) ≡ map f front ++ take i (drop start (map f xs))
map-with_run f front xs start i = grind (arith, common_steps, map-append, take-map, drop-map)

-- ---- truths as bytes and as numbers

-- the bytes of so many truths, from one of them on: 1 for true, and 0 for false
abbrev pub run_bytes : List Bool → ℕ → ℕ → List ℕ
run_bytes truths first count = map (λ truth. cond truth 1 0) (take count (drop first truths))

pub byte_is : (truth : Bool) → bool_byte truth ≡ cond truth 1 0
byte_is true = refl
byte_is false = refl

pub run_bytes_more : (truths : List Bool) (first i : ℕ) (truth : Bool) → slice_get truths (first + i) ≡ Some truth
    → run_bytes truths first (i + 1) ≡ run_bytes truths first i ++ cond truth 1 0 ∷ []
run_bytes_more truths first i truth is =
    ap (map (λ truth. cond truth 1 0)) (sym (run_more [] truths first i truth is))
    ∙ map-append (λ truth. cond truth 1 0) (take i (drop first truths)) (truth ∷ [])

-- those of some, and of more after them
pub run_bytes_add : (truths : List Bool) (first done more : ℕ)
    → run_bytes truths first (done + more) ≡ run_bytes truths first done ++ run_bytes truths (first + done) more
run_bytes_add truths first done more =
    ap (map (λ truth. cond truth 1 0)) (take-add done more (drop first truths))
    ∙ map-append (λ truth. cond truth 1 0) (take done (drop first truths)) (take more (drop done (drop first truths)))
    ∙ ap (λ rest. run_bytes truths first done ++ map (λ truth. cond truth 1 0) (take more rest)) (drop-drop done first truths)

-- the numbers of so many truths, from one of them on
abbrev pub run_numbers : List Bool → ℕ → ℕ → List ℤ
run_numbers truths first count = map (λ truth. cond truth (pos 1) (pos 0)) (take count (drop first truths))

-- their bytes are these
pub numbers_of_bytes : (truths : List Bool)
    → map pos (map (λ truth. cond truth 1 0) truths) ≡ map (λ truth. cond truth (pos 1) (pos 0)) truths
numbers_of_bytes [] = refl
numbers_of_bytes (true ∷ truths) = ap (λ ns. pos 1 ∷ ns) (numbers_of_bytes truths)
numbers_of_bytes (false ∷ truths) = ap (λ ns. pos 0 ∷ ns) (numbers_of_bytes truths)

pub run_numbers_add : (truths : List Bool) (first done more : ℕ)
    → run_numbers truths first (done + more) ≡ run_numbers truths first done ++ run_numbers truths (first + done) more
run_numbers_add truths first done more =
    sym (numbers_of_bytes (take (done + more) (drop first truths)))
    ∙ ap (map pos) (run_bytes_add truths first done more)
    ∙ map-append pos (run_bytes truths first done) (run_bytes truths (first + done) more)
    ∙ ap (λ ns. ns ++ map pos (run_bytes truths (first + done) more)) (numbers_of_bytes (take done (drop first truths)))
    ∙ ap (λ ns. run_numbers truths first done ++ ns) (numbers_of_bytes (take more (drop (first + done) truths)))

-- the begin of a room, of which a part was put in its place
pub take_filled : {X : Type 0} (done more : ℕ) (out part rest : List X) → done ≤ length out → more ≤ length part
    → take (done + more) (take done out ++ (part ++ rest)) ≡ take done out ++ take more part
take_filled done more out part rest fits few =
    let long : length (take done out) ≡ done = omega (arith, length-take done out, fits) in
    ap (λ n. take (n + more) (take done out ++ (part ++ rest))) (sym long)
    ∙ take-append-add (take done out) (part ++ rest) more
    ∙ ap (λ ns. take done out ++ ns) (take-append-le more part rest few)

-- a run of the first of a list
run_of_take : {X : Type 0} (n first count : ℕ) (xs : List X) → first + n ≤ count
    → take n (drop first (take count xs)) ≡ take n (drop first xs)
run_of_take n first count xs within =
    let parts : first + (count - first) ≡ count = omega arith in
    ap (λ k. take n (drop first (take k xs))) (sym parts)
    ∙ ap (take n) (drop-take first (count - first) xs)
    ∙ take-take n (count - first) (drop first xs) (omega (arith, within))

-- truths from the first of a byte on that are eight at least begin with those of the byte
pub run_bytes_of_byte : (truths : List Bool) (bytes : List ℕ) (count first byte : ℕ) → take count (all_bits bytes) ≡ truths
    → first % 8 ≡ 0 → first + 8 ≤ length truths → byte ≡ get_or bytes (first / 8) byte → byte_truths byte ≡ run_bytes truths first 8
run_bytes_of_byte truths bytes count first byte is even within read =
    ap (map (λ truth. cond truth 1 0)) (sym (
    ap (λ bs. take 8 (drop first bs)) (sym is)
    ∙ run_of_take 8 first count (all_bits bytes) (omega (arith, within, ap length is, length-take count (all_bits bytes)))
    ∙ ap (λ n. take 8 (drop n (all_bits bytes))) (omega (arith, even))
    ∙ ap (take 8) (drop-all_bits (first / 8) 0 bytes)
    ∙ ap (λ rest. take 8 (all_bits rest)) (drop_more bytes (first / 8) byte there ∙ ap (λ b. b ∷ drop (first / 8 + 1) bytes) (sym read))
    ))
  where
    there : first / 8 < length bytes
    there = omega (arith, within, ap length is, length-take count (all_bits bytes), length-all_bits bytes)

-- ---- what holds of each

pub all_append : {X : Type 0} (P : X → Type 0) (xs ys : List X) → AllByRecursion P xs → AllByRecursion P ys → AllByRecursion P (xs ++ ys)
all_append P [] ys h k = k
all_append P (x ∷ xs) ys h k = (h.0, all_append P xs ys h.1 k)

-- what holds of each holds of each of the first ones
pub all_take : {X : Type 0} (P : X → Type 0) (i : ℕ) (xs : List X) → AllByRecursion P xs → AllByRecursion P (take i xs)
all_take P zero xs h = tt
all_take P (suc i) [] h = tt
all_take P (suc i) (x ∷ xs) h = (h.0, all_take P i xs h.1)

-- and of each that comes behind them
pub all_drop : {X : Type 0} (P : X → Type 0) (i : ℕ) (xs : List X) → AllByRecursion P xs → AllByRecursion P (drop i xs)
all_drop P zero xs h = h
all_drop P (suc i) [] h = tt
all_drop P (suc i) (x ∷ xs) h = all_drop P i xs h.1

pub all_with_run : {X : Type 0} (P : X → Type 0) (front xs : List X) (start i : ℕ) → AllByRecursion P front → AllByRecursion P xs
    → AllByRecursion P (front ++ take i (drop start xs))
all_with_run P front xs start i h k = all_append P front (take i (drop start xs)) h (all_take P i (drop start xs) (all_drop P start xs k))

-- a block that took values, or stayed as it was, is a block
pub block_after : {A E : Type 0} (answer : Result A E) (now before longer : Column) → IsBlock before → IsBlock longer
    → OnOk answer (now ≡ longer) → OnErr answer (now ≡ before) → IsBlock now
block_after (Ok x) now before longer mine kept ok err = subst IsBlock (sym ok) kept
block_after (Err e) now before longer mine kept ok err = subst IsBlock (sym err) mine
