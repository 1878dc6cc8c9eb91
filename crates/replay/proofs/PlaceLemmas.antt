-- Where the frames of a table are in the bytes that were read.
use Rattle.std.proofs.Common.{◌≡◌, ℕ, zero, suc, ◌+◌, ◌-◌, ◌<◌, ◌≤◌, ◌^◌, ◌⊎◌, inl, inr, Bool, true, false, cond, ◌&&◌, ◌||◌, ltb, eqb, Option, Some, None, List, [], ◌∷◌, ◌++◌, length, take, drop, refl, sym, ap, ◌∙◌, subst, arith}
use Rattle.std.proofs.Math.Seq.{drop-nil}
use Rattle.std.specs.BTreeMap.{BTreeMap}
use Rattle.std.proofs.lemmas.Bool.{cases_lt, eqb-true, le-ltb, lt-ltb, ltb-false, ne_eqb}
use Rattle.std.proofs.lemmas.List.{append-nil, drop-drop, length-drop, length-take-le}
use Rattle.codec.specs.Tables.{Ascend, is_among}
use Rattle.journal.specs.Check.{crc}
use Rattle.journal.specs.Frame.{Logged}
use Rattle.journal.specs.Reading.{Found, body_at, found_then, frame_at, head_at, is_head, read_after, read_at, read_of, read_with}
use Rattle.journal.specs.declared.frame.Ending.TheVariants.{Gap}
use Rattle.journal.specs.declared.frame.Ending.{Ending}
use Rattle.replay.specs.Own.{AreWithin, Given, IsKept, concerns, entered, frames_after, items_at, logged_at, own_frames, size_of, spot_of, spots_in}
use Rattle.replay.specs.Recovered.{frames_since}
use Rattle.replay.specs.declared.spots.Spot.{Spot}

-- ---- one frame

chosen_some : {A : Type 0} (b : Bool) (x : Option A) (y : A) → cond b None x ≡ Some y → (b ≡ false) × (x ≡ Some y)
chosen_some true x y e = absurd cc
chosen_some false x y e = (refl, e)

chosen_none : {A : Type 0} (b : Bool) (x : Option A) (y : A) → cond b x None ≡ Some y → (b ≡ true) × (x ≡ Some y)
chosen_none true x y e = (refl, e)
chosen_none false x y e = absurd cc

some_is : {A : Type 0} (x y : A) → Some x ≡ Some y → x ≡ y
some_is x y e = cc

-- a frame that is found is at the front of its bytes, behind its head
record IsFront (bytes : List ℕ) (l : Logged) (rest : List ℕ) : Type 0 where
  inside : 28 + length l.payload ≤ length bytes
  payload_is : l.payload ≡ take (length l.payload) (drop 28 bytes)
  rest_is : rest ≡ drop (28 + length l.payload) bytes

is_front : (seed : ℕ) (bytes : List ℕ) (found : Logged × List ℕ) → frame_at seed bytes ≡ Some found → IsFront bytes found.0 found.1
unfolding frame_at is_head body_at
is_front seed bytes found e =
    let h = head_at bytes in
    let body = drop 28 bytes in
    let made : Logged = record { number = h.number; synced = h.synced; payload = take h.size body } in
    let a = chosen_none (is_head seed bytes) (body_at seed h body) found e in
    let long : ltb (length bytes) 28 ≡ false = headed (ltb (length bytes) 28) (eqb h.check (crc seed (take 24 bytes))) a.0 in
    let b = chosen_some (ltb (length body) h.size) (cond (eqb (crc seed (take h.size body)) h.sum) (Some (made, drop h.size body)) None) found a.1 in
    let d = chosen_none (eqb (crc seed (take h.size body)) h.sum) (Some (made, drop h.size body)) found b.1 in
    let whole : h.size ≤ length body = ltb-false _ _ b.0 in
    let count : length (take h.size body) ≡ h.size = length-take-le h.size body whole in
    let behind : length body ≡ length bytes - 28 = length-drop 28 bytes in
    let least : 28 ≤ length bytes = ltb-false _ _ long in
    subst (λ (p : Logged × List ℕ). IsFront bytes p.0 p.1) (some_is (made, drop h.size body) found d.1) (record {
      inside = omega (arith, whole, count, behind, least);
      payload_is = ap (λ n. take n body) (sym count);
      rest_is = drop-drop h.size 28 bytes ∙ ap (λ n. drop (28 + n) bytes) (sym count);
    })
  where
    headed : (b c : Bool) → cond b false c ≡ true → b ≡ false
    headed true c h = absurd cc
    headed false c h = refl

-- ---- all frames

-- frames that are read from an offset on have the next numbers, and their payloads are in the bytes behind their heads
abbrev pub ArePlaced : List ℕ → ℕ → ℕ → List Logged → Type 0
ArePlaced bytes at next [] = at ≤ length bytes
ArePlaced bytes at next (l ∷ logged) =
    (l.number ≡ next) × (at + 28 + length l.payload ≤ length bytes) × (l.payload ≡ take (length l.payload) (drop (at + 28) bytes))
    × ArePlaced bytes (at + 28 + length l.payload) (next + 1) logged

turned : (a b : Bool) → (a && b) ≡ true → a ≡ true
turned true b e = refl
turned false b e = absurd cc

pub are_placed : (most seed next at : ℕ) (bytes rest : List ℕ) → rest ≡ drop at bytes → at ≤ length bytes
    → ArePlaced bytes at next (read_at most seed next rest).logged
unfolding read_at
are_placed zero seed next at bytes rest is le = le
are_placed (suc most) seed next at bytes [] is le = le
are_placed (suc most) seed next at bytes (byte ∷ left) is le =
    by (frame_at seed (byte ∷ left)) refl (λ n m rest e l. are_placed most seed n m bytes rest e l)
  where
    by : (found : Found) → frame_at seed (byte ∷ left) ≡ found
        → ((n m : ℕ) (rest : List ℕ) → rest ≡ drop m bytes → m ≤ length bytes → ArePlaced bytes m n (read_at most seed n rest).logged)
        → ArePlaced bytes at next (found_then seed next (byte ∷ left) found (λ rest. read_at most seed (next + 1) rest)).logged
    by None e later = le
    by (Some p) e later = turn (eqb p.0.number next && ltb next (2 ^ 63)) refl
      where
        front : IsFront (byte ∷ left) p.0 p.1
        front = is_front seed (byte ∷ left) p e

        end : at + (28 + length p.0.payload) ≡ at + 28 + length p.0.payload
        end = omega arith

        inside : at + 28 + length p.0.payload ≤ length bytes
        inside =
            let count : length (byte ∷ left) ≡ length bytes - at = ap (λ (bs : List ℕ). length bs) is ∙ length-drop at bytes in
            let within = front.inside in
            omega (arith, count, within, le)

        turn : (b : Bool) → (eqb p.0.number next && ltb next (2 ^ 63)) ≡ b
            → ArePlaced bytes at next
            (cond b (read_after p.0 (read_at most seed (next + 1) p.1)) (read_with [] Gap (byte ∷ left))).logged
        turn true due = (
          eqb-true _ _ (turned (eqb p.0.number next) (ltb next (2 ^ 63)) due),
          inside,
          front.payload_is
              ∙ ap (λ (bs : List ℕ). take (length p.0.payload) (drop 28 bs)) is
              ∙ ap (take (length p.0.payload)) (drop-drop 28 at bytes),
          later (next + 1) (at + 28 + length p.0.payload) p.1
              (front.rest_is
              ∙ ap (drop (28 + length p.0.payload)) is
              ∙ drop-drop (28 + length p.0.payload) at bytes
              ∙ ap (λ n. drop n bytes) end)
              inside,
        )
        turn false due = le

-- ---- what follows of them

pub placed_size : (bytes : List ℕ) (at next : ℕ) (logged : List Logged) → ArePlaced bytes at next logged → at + size_of logged ≤ length bytes
placed_size bytes at next [] h = omega (arith, h)
placed_size bytes at next (l ∷ logged) h =
    let rest = placed_size bytes (at + 28 + length l.payload) (next + 1) logged h.3 in omega (arith, rest)

pub placed_within : (bytes : List ℕ) (table at next : ℕ) (logged : List Logged) → ArePlaced bytes at next logged
    → AreWithin (length bytes) (spots_in table at logged)
placed_within bytes table at next [] h = tt
placed_within bytes table at next (l ∷ logged) h =
    by (concerns table l.payload) (placed_within bytes table (at + 28 + length l.payload) (next + 1) logged h.3)
  where
    by : (b : Bool) → AreWithin (length bytes) (spots_in table (at + 28 + length l.payload) logged)
        → AreWithin (length bytes)
        (cond b (spot_of at l ∷ spots_in table (at + 28 + length l.payload) logged) (spots_in table (at + 28 + length l.payload) logged))
    by true rest = (h.1, rest)
    by false rest = rest

-- the frame at its place
logged_there : (bytes : List ℕ) (at : ℕ) (l : Logged) → l.payload ≡ take (length l.payload) (drop (at + 28) bytes)
    → logged_at bytes (spot_of at l) ≡ l
logged_there bytes at l is = λ i. record { number = l.number; synced = l.synced; payload = sym is i }

-- the frames after a number, among those of a table: it has been read up to the number
pub placed_after : (bytes : List ℕ) (table at next number : ℕ) (logged : List Logged) → ArePlaced bytes at next logged
    → frames_after bytes number (spots_in table at logged) ≡ own_frames table (drop (suc number - next) logged)
placed_after bytes table at next number [] h = ap (own_frames table) (sym (drop-nil (suc number - next)))
placed_after bytes table at next number (l ∷ logged) h =
    by (cases_lt number next) (placed_after bytes table (at + 28 + length l.payload) (next + 1) number logged h.3)
  where
    rest : List Spot
    rest = spots_in table (at + 28 + length l.payload) logged

    -- it begins behind the number
    now : number < next → (b : Bool) → frames_after bytes number rest ≡ own_frames table (drop (suc number - (next + 1)) logged)
        → frames_after bytes number (cond b (spot_of at l ∷ rest) rest) ≡ cond b (l ∷ own_frames table logged) (own_frames table logged)
    now lt true later =
        let none : suc number - (next + 1) ≡ 0 = omega (arith, lt) in
        let above : ltb number l.number ≡ true = lt-ltb number l.number (let is = h.0 in omega (arith, lt, is)) in
        ap (λ b. cond b (logged_at bytes (spot_of at l) ∷ frames_after bytes number rest) (frames_after bytes number rest)) above
        ∙ (λ i. logged_there bytes at l h.2 i ∷ (later ∙ ap (λ n. own_frames table (drop n logged)) none) i)
    now lt false later =
        let none : suc number - (next + 1) ≡ 0 = omega (arith, lt) in later ∙ ap (λ n. own_frames table (drop n logged)) none

    -- or at it or before
    before : next ≤ number → (b : Bool) → frames_after bytes number rest ≡ own_frames table (drop (suc number - (next + 1)) logged)
        → frames_after bytes number (cond b (spot_of at l ∷ rest) rest) ≡ own_frames table (drop (suc number - (next + 1)) logged)
    before le true later =
        let above : ltb number l.number ≡ false = le-ltb number l.number (let is = h.0 in omega (arith, le, is)) in
        ap (λ b. cond b (logged_at bytes (spot_of at l) ∷ frames_after bytes number rest) (frames_after bytes number rest)) above ∙ later
    before le false later = later

    by : (number < next) ⊎ (next ≤ number) → frames_after bytes number rest ≡ own_frames table (drop (suc number - (next + 1)) logged)
        → frames_after bytes number (spots_in table at (l ∷ logged)) ≡ own_frames table (drop (suc number - next) (l ∷ logged))
    by (inl lt) later =
        let none : suc number - next ≡ 0 = omega (arith, lt) in
        now lt (concerns table l.payload) later ∙ ap (λ n. own_frames table (drop n (l ∷ logged))) (sym none)
    by (inr le) later =
        let one : suc (suc number - (next + 1)) ≡ suc number - next = omega (arith, le) in
        before le (concerns table l.payload) later ∙ ap (λ n. own_frames table (drop n (l ∷ logged))) one

-- ---- by table

-- a table below those that ascend isn't among them
none_below : (low table : ℕ) (s : Spot) (tables : List ℕ) → Ascend low tables → table < low → entered table s tables ≡ []
none_below low table s [] h lt = refl
none_below low table s (other ∷ tables) h lt =
    let above = h.0 in
    ap (λ b. cond b (s ∷ entered table s tables) (entered table s tables)) (ne_eqb other table (λ e. omega (arith, e, above, lt)))
    ∙ none_below (other + 1) table s tables h.1 (omega (arith, above, lt))

-- a place is entered once for each table that is among those that ascend
pub entered_once : (low table : ℕ) (s : Spot) (tables : List ℕ) → Ascend low tables
    → entered table s tables ≡ cond (is_among table tables) (s ∷ []) []
entered_once low table s [] h = refl
entered_once low table s (other ∷ tables) h = by (eqb other table) refl (entered_once (other + 1) table s tables h.1)
  where
    by : (b : Bool) → eqb other table ≡ b → entered table s tables ≡ cond (is_among table tables) (s ∷ []) []
        → cond b (s ∷ entered table s tables) (entered table s tables) ≡ cond (b || is_among table tables) (s ∷ []) []
    by true e later =
        let same : other ≡ table = eqb-true other table e in
        ap (λ (ss : List Spot). s ∷ ss) (none_below (other + 1) table s tables h.1 (omega (arith, same)))
    by false e later = later

-- where no table is left, it has been entered once for each of them
pub entered_all : (front back : List Spot) (table : ℕ) (s : Spot) (rest tables : List ℕ) → length rest < 1 → Ascend 0 tables
    → front ++ entered table s rest ≡ back ++ entered table s tables → front ≡ back ++ cond (is_among table tables) (s ∷ []) []
entered_all front back table s [] tables none h is =
    sym (append-nil front) ∙ is ∙ ap (λ (ss : List Spot). back ++ ss) (entered_once 0 table s tables h)
entered_all front back table s (other ∷ rest) tables none h is = absurd (omega (arith, none))

-- ---- all that was read

module _ (seed base : ℕ) (bytes : List ℕ) where
  placed : ArePlaced bytes 0 (base + 1) (read_of seed (base + 1) bytes).logged
  placed = are_placed (length bytes) seed (base + 1) 0 bytes bytes refl (omega arith)

  -- the frames that are read are inside their bytes
  pub read_size : size_of (read_of seed (base + 1) bytes).logged ≤ length bytes
  read_size = let size = placed_size bytes 0 (base + 1) (read_of seed (base + 1) bytes).logged placed in omega (arith, size)

  -- the frames of a table after a number, at the places that are kept of it
  pub kept_frames : (table number : ℕ) (spots : List Spot) → spots ≡ spots_in table 0 (read_of seed (base + 1) bytes).logged
      → AreWithin (length bytes) spots × (frames_after bytes number spots ≡ own_frames table (frames_since seed base number bytes))
  kept_frames table number spots is =
      let logged = (read_of seed (base + 1) bytes).logged in
      let count : suc number - (base + 1) ≡ number - base = omega arith in (
        subst (AreWithin (length bytes)) (sym is) (placed_within bytes table 0 (base + 1) logged placed),
        ap (frames_after bytes number) is
            ∙ placed_after bytes table 0 (base + 1) number logged placed
            ∙ ap (λ n. own_frames table (drop n logged)) count,
      )

-- what is kept at a key
pub kept_some : {V : Type 0} (items : V → List Spot) (o : Option V) (v : V) (spots : List Spot) → o ≡ Some v → items_at items o ≡ spots
    → items v ≡ spots
kept_some items o v spots is h = sym (ap (items_at items) is) ∙ h

pub kept_none : {V : Type 0} (items : V → List Spot) (o : Option V) (spots : List Spot) → o ≡ None → items_at items o ≡ spots → [] ≡ spots
kept_none items o spots is h = sym (ap (items_at items) is) ∙ h

-- what is kept of bytes is so of what a value shows
pub kept_over : {V : Type 0} (items : V → List Spot) (g h : Given) (count : ℕ) (ending : Ending) (whole : ℕ) (spots : Option (BTreeMap ℕ V))
    → g ≡ h → IsKept items g count ending whole spots → IsKept items h count ending whole spots
kept_over items g h count ending whole spots is kept = subst (λ (x : Given). IsKept items x count ending whole spots) is kept
