-- Frames in a list, whose heads are filled in turn.
use Rattle.std.proofs.Common.{◌≡◌, ◌≤◌, ◌<◌, ◌^◌, ℕ, zero, suc, true, false, cond, ltb, ◌+◌, ◌-◌, List, [], ◌∷◌, ◌++◌, length, map, take, drop, get_or, set, Vec, Global, refl, sym, ap, subst, ◌∙◌, append_assoc, arith, add-one, drop-cons}
use Rattle.std.proofs.lemmas.List.{append-nil, drop-set-lt, length-append, length-drop, map-append, take_more_set}
use Rattle.std.proofs.Math.ListN.{drop_of_length-le}
use Rattle.std.proofs.Math.Seq.{take-length}
use Rattle.std.proofs.lemmas.Bool.{lt-ltb}
use Rattle.journal.specs.Frame.{frame_bytes, journal_bytes}
use Rattle.journal_steps.specs.Batch.{HaveRooms, framed, payload_in, together}
use Rattle.journal_steps.specs.Progress.{Progress, added, may_add, newest}

-- a slice that is written as a whole is what was written
pub written_back : {A : Type 0} (n : ℕ) (old new : List A) → length new ≡ n → length old ≡ n → take n (new ++ drop (length new) old) ≡ new
written_back {A} n old new size is =
    ap (λ (ys : List A). take n (new ++ ys)) (drop_of_length-le old (omega (arith, size, is)))
    ∙ ap (take n) (append-nil new) ∙ ap (λ k. take k new) (sym size) ∙ take-length new

-- a frame whose head is filled is its bytes
pub filled : (n : ℕ) (items copied head back spelt : List ℕ) → length items ≡ n → copied ≡ head → length head ≡ 28 → 28 ≤ length items
    → back ≡ drop 28 items → head ++ back ≡ spelt
    → take n ((copied ++ back) ++ drop (length (copied ++ back)) items) ≡ spelt
filled n items copied head back spelt is same room le behind all =
    let size : length (copied ++ back) ≡ n =
    length-append copied back
    ∙ omega (arith, ap length same, room, ap length behind, length-drop 28 items, is, le) in
    written_back n items (copied ++ back) size is ∙ ap (λ (ys : List ℕ). ys ++ back) same ∙ all

-- what is left begins with the frame at the index
pub next_frame : (i : ℕ) (fs : List (Vec ℕ Global)) (d : Vec ℕ Global) → i < length fs → drop i fs ≡ get_or fs i d ∷ drop (i + 1) fs
next_frame i fs d lt = drop-cons fs i d lt ∙ ap (λ k. get_or fs i d ∷ drop k fs) (sym (add-one i))

-- the frames that are filled, and those of what is left, are all, also once the next one is filled
pub next_filled : (seed n s i : ℕ) (fs : List (Vec ℕ Global)) (d v : Vec ℕ Global) → i < length fs
    → v.items ≡ frame_bytes seed (record { number = n; synced = s; payload = payload_in (get_or fs i d).items })
    → map (λ (w : Vec ℕ Global). w.items) (take (i + 1) (set fs i v))
    ++ map (frame_bytes seed) (framed (n + 1) s (map (λ (w : Vec ℕ Global). payload_in w.items) (drop (i + 1) (set fs i v))))
    ≡ map (λ (w : Vec ℕ Global). w.items) (take i fs)
    ++ map (frame_bytes seed) (framed n s (map (λ (w : Vec ℕ Global). payload_in w.items) (drop i fs)))
next_filled seed n s i fs d v lt is =
    let items = λ (w : Vec ℕ Global). w.items in
    let payload = λ (w : Vec ℕ Global). payload_in w.items in
    let x = get_or fs i d in
    let rest = drop (i + 1) fs in
    let front = map items (take i fs) in
    let bytes = λ (ws : List (Vec ℕ Global)). map (frame_bytes seed) (framed (n + 1) s (map payload ws)) in
    ap (λ (ws : List (Vec ℕ Global)). map items ws ++ bytes (drop (i + 1) (set fs i v))) (take_more_set fs i v lt)
    ∙ ap (λ (ws : List (Vec ℕ Global)). map items (take i fs ++ v ∷ []) ++ bytes ws) (drop-set-lt (i + 1) fs i v (omega arith))
    ∙ ap (λ (bs : List (List ℕ)). bs ++ bytes rest) (map-append items (take i fs) (v ∷ []))
    ∙ append_assoc front (v.items ∷ []) (bytes rest)
    ∙ ap (λ (b : List ℕ). front ++ b ∷ bytes rest) is
    ∙ ap (λ (ws : List (Vec ℕ Global)). front ++ map (frame_bytes seed) (framed n s (map payload ws))) (sym (next_frame i fs d lt))

-- the frames of a batch one behind the other are its bytes
pub together-map : (seed : ℕ) (first durable : ℕ) (payloads : List (List ℕ))
    → together (map (frame_bytes seed) (framed first durable payloads)) ≡ journal_bytes seed (framed first durable payloads)
together-map seed first durable [] = refl
together-map seed first durable (p ∷ ps) =
    ap (λ (bs : List ℕ). frame_bytes seed (record { number = first; synced = durable; payload = p }) ++ bs)
    (together-map seed (first + 1) durable ps)

-- ---- rooms

pub rooms_more : (fs : List (List ℕ)) (f : List ℕ) → HaveRooms fs → 28 ≤ length f → HaveRooms (fs ++ f ∷ [])
rooms_more [] f all le = (le, tt)
rooms_more (g ∷ fs) f all le = (all.0, rooms_more fs f all.1 le)

pub rooms_fewer : (n : ℕ) (fs : List (List ℕ)) → HaveRooms fs → HaveRooms (take n fs)
rooms_fewer zero fs all = tt
rooms_fewer (suc n) [] all = tt
rooms_fewer (suc n) (f ∷ fs) all = (all.0, rooms_fewer n fs all.1)

-- ---- what is added

pub may : (payload : List ℕ) (p : Progress) → length payload < 2 ^ 32 → newest p + 1 < 2 ^ 63 → may_add payload p ≡ true
may payload p short few =
    ap (λ b. cond b (ltb (newest p + 1) (2 ^ 63)) false) (lt-ltb (length payload) (2 ^ 32) short)
    ∙ lt-ltb (newest p + 1) (2 ^ 63) few

pub added_is : (payload : List ℕ) (p : Progress) → may_add payload p ≡ true
    → added payload p ≡ record p { waiting = p.waiting ++ payload ∷ [] }
added_is payload p e = ap (λ b. cond b (record p { waiting = p.waiting ++ payload ∷ [] }) p) e
