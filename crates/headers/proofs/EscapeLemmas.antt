-- Bytes between quotes, one after the other.
use Rattle.std.proofs.Common.{◌≡◌, ◌<◌, ◌≤◌, ℕ, ◌+◌, List, [], ◌∷◌, ◌++◌, length, get_or, drop, refl, sym, ap, inl, inr, ◌∙◌, append_assoc}
use Rattle.std.specs.Bool.{◌==◌}
use Rattle.std.proofs.lemmas.Bool.{cases_Bool, eqb-true}
use Rattle.std.proofs.lemmas.List.{at_drop_more, drop_all}
use Rattle.csv.specs.Writing.{default_writer, escaped}
use Rattle.headers.specs.Spelling.{escaped_byte, quoted_text}

pub escaped_cons : (b : ℕ) (bytes : List ℕ) → escaped default_writer (b ∷ bytes) ≡ escaped_byte b ++ escaped default_writer bytes
unfolding escaped
escaped_cons b bytes = elim (cases_Bool (b == 34)) [
  | inl is ↦ rw is (ap (λ n. n ∷ b ∷ escaped default_writer bytes) (sym (eqb-true b 34 is)))
  | inr not ↦ rw not refl
]

pub escaped_append : (xs ys : List ℕ) → escaped default_writer (xs ++ ys) ≡ escaped default_writer xs ++ escaped default_writer ys
unfolding escaped
escaped_append [] ys = refl
escaped_append (x ∷ xs) ys =
    escaped_cons x (xs ++ ys) ∙ ap (λ (r : List ℕ). escaped_byte x ++ r) (escaped_append xs ys)
    ∙ sym (append_assoc (escaped_byte x) (escaped default_writer xs) (escaped default_writer ys))
    ∙ ap (λ (r : List ℕ). r ++ escaped default_writer ys) (sym (escaped_cons x xs))

pub escaped_more : (bytes : List ℕ) (i : ℕ) (d : ℕ) → i < length bytes
    → escaped default_writer (drop i bytes) ≡ escaped_byte (get_or bytes i d) ++ escaped default_writer (drop (i + 1) bytes)
escaped_more bytes i d lt =
    at_drop_more (λ bs. escaped default_writer bs) bytes i d lt ∙ escaped_cons (get_or bytes i d) (drop (i + 1) bytes)

pub escaped_done : (bytes : List ℕ) (i : ℕ) → length bytes ≤ i → escaped default_writer (drop i bytes) ≡ []
unfolding escaped
escaped_done bytes i le = ap (λ bs. escaped default_writer bs) (drop_all i bytes le)

-- a byte more stands behind what was there
pub step : (front new total : List ℕ) (bytes : List ℕ) (i : ℕ) (d : ℕ) → i < length bytes → new ≡ front ++ escaped_byte (get_or bytes i d)
    → front ++ escaped default_writer (drop i bytes) ≡ total → new ++ escaped default_writer (drop (i + 1) bytes) ≡ total
step front new total bytes i d lt is so_far =
    ap (λ (r : List ℕ). r ++ escaped default_writer (drop (i + 1) bytes)) is
    ∙ append_assoc front (escaped_byte (get_or bytes i d)) (escaped default_writer (drop (i + 1) bytes))
    ∙ sym (ap (λ (r : List ℕ). front ++ r) (escaped_more bytes i d lt)) ∙ so_far

-- a cell stands behind what was there, part by part
pub cell_step : (text comma : List ℕ) (name kind t1 t2 t3 t4 t5 t6 : List ℕ) → t1 ≡ text ++ comma → t2 ≡ t1 ++ 34 ∷ []
    → t3 ≡ t2 ++ escaped default_writer name → t4 ≡ t3 ++ 58 ∷ [] → t5 ≡ t4 ++ escaped default_writer kind → t6 ≡ t5 ++ 34 ∷ []
    → t6 ≡ text ++ (comma ++ quoted_text (name ++ 58 ∷ kind))
cell_step text comma name kind t1 t2 t3 t4 t5 t6 e1 e2 e3 e4 e5 e6 =
    let n = escaped default_writer name in
    let k = escaped default_writer kind in
    let inner : escaped default_writer (name ++ 58 ∷ kind) ≡ n ++ 58 ∷ k =
    escaped_append name (58 ∷ kind) ∙ ap (λ (r : List ℕ). n ++ r) (escaped_cons 58 kind) in
    rw inner (e6 ∙ ap (λ (r : List ℕ). r ++ 34 ∷ []) (e5 ∙ ap (λ (r : List ℕ). r ++ k) (e4 ∙ ap (λ (r : List ℕ). r ++ 58 ∷ [])
    (e3 ∙ ap (λ (r : List ℕ). r ++ n) (e2 ∙ ap (λ (r : List ℕ). r ++ 34 ∷ []) e1)))) ∙ grouped n k)
  where
    grouped : (n k : List ℕ) → (((((text ++ comma) ++ 34 ∷ []) ++ n) ++ 58 ∷ []) ++ k) ++ 34 ∷ []
        ≡ text ++ (comma ++ 34 ∷ ((n ++ 58 ∷ k) ++ 34 ∷ []))
    grouped n k =
        append_assoc ((((text ++ comma) ++ 34 ∷ []) ++ n) ++ 58 ∷ []) k (34 ∷ [])
        ∙ append_assoc (((text ++ comma) ++ 34 ∷ []) ++ n) (58 ∷ []) (k ++ 34 ∷ [])
        ∙ append_assoc ((text ++ comma) ++ 34 ∷ []) n (58 ∷ (k ++ 34 ∷ []))
        ∙ append_assoc (text ++ comma) (34 ∷ []) (n ++ 58 ∷ (k ++ 34 ∷ []))
        ∙ append_assoc text comma (34 ∷ (n ++ 58 ∷ (k ++ 34 ∷ [])))
        ∙ ap (λ (r : List ℕ). text ++ (comma ++ 34 ∷ r)) (sym (append_assoc n (58 ∷ k) (34 ∷ [])))
