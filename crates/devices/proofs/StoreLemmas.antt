-- Devices that take their pieces one after the other.
use Rattle.std.proofs.Common.{◌≡◌, ℕ, zero, suc, ◌+◌, ◌<◌, ◌≤◌, true, false, ◌||◌, ltb, List, [], ◌∷◌, ◌++◌, length, take, get_or, set, map, refl, sym, ap, ◌∙◌, arith}
use Rattle.std.proofs.lemmas.Bool.{lt-ltb}
use Rattle.std.proofs.lemmas.List.{get_or-map, map-set, take_more, length-map}
use Rattle.devices.specs.Store.{StopsAt, appended, have_failed}

-- ---- whether one has failed

-- where none has, each has failed 0 times
pub none_at : (failures : List ℕ) (i : ℕ) → have_failed failures ≡ false → get_or failures i 0 ≡ 0
none_at [] i h = refl
none_at (zero ∷ failures) zero h = refl
none_at (zero ∷ failures) (suc i) h = none_at failures i h
none_at (suc n ∷ failures) i h = absurd (let p : ltb 0 (suc n) ≡ true = lt-ltb _ _ (omega arith) in cc)

-- where one has, some have
pub some_at : (failures : List ℕ) (i : ℕ) → 0 < get_or failures i 0 → have_failed failures ≡ true
some_at [] i h = absurd (omega arith)
some_at (n ∷ failures) zero h = let p : ltb 0 n ≡ true = lt-ltb _ _ h in ap (λ b. b || have_failed failures) p
some_at (zero ∷ failures) (suc i) h = some_at failures i h
some_at (suc n ∷ failures) (suc i) h = let p : ltb 0 (suc n) ≡ true = lt-ltb _ _ (omega arith) in ap (λ b. b || have_failed failures) p

-- ---- pieces

-- one device more takes a piece
pub appended_put : (i : ℕ) (old pieces : List (List ℕ)) (x : List ℕ) → i < length old → i ≤ length pieces
    → set (appended old (take i pieces)) i (get_or old i [] ++ x) ≡ appended old (take i pieces ++ x ∷ [])
appended_put i [] pieces x lt le = absurd (omega arith)
appended_put zero (c ∷ old) pieces x lt le = refl
appended_put (suc i) (c ∷ old) [] x lt le = absurd (omega arith)
appended_put (suc i) (c ∷ old) (p ∷ pieces) x lt le = ap (λ xs. (c ++ p) ∷ xs) (appended_put i old pieces x (omega arith) (omega arith))

pub appended_at : (i : ℕ) (old pieces : List (List ℕ)) → get_or (appended old (take i pieces)) i [] ≡ get_or old i []
appended_at zero old pieces = refl
appended_at (suc i) [] [] = refl
appended_at (suc i) [] (p ∷ pieces) = refl
appended_at (suc i) (c ∷ old) [] = refl
appended_at (suc i) (c ∷ old) (p ∷ pieces) = appended_at i old pieces

-- ---- devices

module _ {D V : Type 0} (contents : D → List ℕ) (failures : D → ℕ) (items : V → List ℕ) where
  -- the contents of the devices, when one of them has taken some bytes after the others took their pieces
  pub put_device : (devices : List D) (pieces : List V) (old : List (List ℕ)) (i : ℕ) (d : D) (new : D) (x : List ℕ)
      → i < length devices → length devices ≡ length old → i ≤ length pieces
      → map contents devices ≡ appended old (take i (map items pieces)) → contents new ≡ contents (get_or devices i d) ++ x
      → map contents (set devices i new) ≡ appended old (take i (map items pieces) ++ x ∷ [])
  put_device devices pieces old i d new x lt even le so_far took =
      let there : contents (get_or devices i d) ≡ get_or old i [] =
      sym (get_or-map contents devices i d [] lt) ∙ ap (λ cs. get_or cs i []) so_far ∙ appended_at i old (map items pieces) in
      map-set contents devices i new
      ∙ ap (λ y. set (map contents devices) i y) (took ∙ ap (λ c. c ++ x) there)
      ∙ ap (λ cs. set cs i (get_or old i [] ++ x)) so_far
      ∙ appended_put i old (map items pieces) x (omega (arith, even)) (omega (arith, length-map pieces items))

  -- with its whole piece
  pub put_piece : (devices : List D) (pieces : List V) (old : List (List ℕ)) (i : ℕ) (d : D) (new : D) (v : V)
      → i < length devices → length devices ≡ length old → i < length pieces
      → map contents devices ≡ appended old (take i (map items pieces))
      → contents new ≡ contents (get_or devices i d) ++ items (get_or pieces i v)
      → map contents (set devices i new) ≡ appended old (take (i + 1) (map items pieces))
  put_piece devices pieces old i d new v lt even le so_far took =
      let piece : items (get_or pieces i v) ≡ get_or (map items pieces) i [] = sym (get_or-map items pieces i v [] le) in
      let more : take (i + 1) (map items pieces) ≡ take i (map items pieces) ++ get_or (map items pieces) i [] ∷ [] =
      take_more (map items pieces) i [] (omega (arith, length-map pieces items)) in
      put_device devices pieces old i d new (items (get_or pieces i v)) lt even (omega arith) so_far took
      ∙ ap (λ x. appended old (take i (map items pieces) ++ x ∷ [])) piece ∙ ap (appended old) (sym more)

-- a device's number is one of its contents
pub within_contents : {D : Type 0} (contents : D → List ℕ) (devices : List D) (i : ℕ) → i < length devices
    → i < length (map contents devices)
within_contents contents devices i lt = omega (arith, lt, length-map devices contents)

-- where the devices stopped, by the pieces that they were handed
pub StopsAt-handed :
    {D V : Type 0} (contents : D → List ℕ) (items : V → List ℕ) (i : ℕ) (given before after left : List D) (held : List V)
    (pieces : List (List ℕ))
    → StopsAt i (map contents before) (map items held) (map contents after) → before ≡ given → map items held ≡ pieces → left ≡ after
    → StopsAt i (map contents given) pieces (map contents left)
StopsAt-handed contents items i given before after left held pieces stops is have are = (
  stops.0,
  ap (map contents) are ∙ stops.1
      ∙ ap (λ ds. appended (map contents ds) (take i (map items held) ++ take stops.0 (get_or (map items held) i []) ∷ [])) is
      ∙ ap (λ ps. appended (map contents given) (take i ps ++ take stops.0 (get_or ps i []) ∷ [])) have,
)
