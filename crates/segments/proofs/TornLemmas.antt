-- A frame in torn bytes, by its head and its checks.
use Rattle.std.proofs.Common.{◌≡◌, ℕ, Bool, true, false, cond, ◌&&◌, Some, None, List, length, sym, drop, take, eqb, ltb, ◌≤◌, ◌<◌, inl, inr, ap, arith}
use Rattle.std.specs.Option.{is_some}
use Rattle.std.proofs.lemmas.Bool.{both_ways, cases_lt, lt-ltb}
use Rattle.std.proofs.lemmas.List.{length-drop}
use Rattle.std.proofs.Math.Bool.{and-false, and-true}
use Rattle.journal.specs.Check.{crc}
use Rattle.journal.specs.Frame.{Logged}
use Rattle.journal.specs.Reading.{Found, body_at, frame_at, head_at, is_head}
use Rattle.segments.specs.Torn.{HasFrameBehind, has_frame, is_later, is_near}

abbrev found_if : Bool → Bool → Bool → Logged → List ℕ → Found
found_if head short sum l rest = cond head (cond short None (cond sum (Some (l, rest)) None)) None

later_if : (newest len : ℕ) (head short sum : Bool) (l : Logged) (rest : List ℕ)
    → is_later newest len (found_if head short sum l rest)
    ≡ (is_near newest len l.number l.synced && is_some (found_if head short sum l rest))
later_if newest len false short sum l rest = sym (and-false (is_near newest len l.number l.synced))
later_if newest len true true sum l rest = sym (and-false (is_near newest len l.number l.synced))
later_if newest len true false false l rest = sym (and-false (is_near newest len l.number l.synced))
later_if newest len true false true l rest = sym (and-true (is_near newest len l.number l.synced))

-- a later frame is there where its numbers may be, and it is whole
pub found_later : (seed newest : ℕ) (bytes : List ℕ)
    → has_frame seed newest bytes
    ≡ (is_near newest (length bytes) (head_at bytes).number (head_at bytes).synced && is_some (frame_at seed bytes))
unfolding has_frame frame_at body_at
found_later seed newest bytes =
    later_if newest (length bytes) (is_head seed bytes) (ltb (length (drop 28 bytes)) (head_at bytes).size)
    (eqb (crc seed (take (head_at bytes).size (drop 28 bytes))) (head_at bytes).sum)
    (record { number = (head_at bytes).number; synced = (head_at bytes).synced; payload = take (head_at bytes).size (drop 28 bytes) })
    (drop (head_at bytes).size (drop 28 bytes))

pub short : (seed newest : ℕ) (bytes : List ℕ) → length bytes < 28 → has_frame seed newest bytes ≡ false
unfolding has_frame frame_at is_head
short seed newest bytes lt =
    ap (λ b. is_later newest (length bytes)
    (cond (cond b false (eqb (head_at bytes).check (crc seed (take 24 bytes)))) (body_at seed (head_at bytes) (drop 28 bytes)) None))
    (lt-ltb (length bytes) 28 lt)

-- at no place behind the first one a frame begins
pub none_behind : (seed newest : ℕ) (bytes : List ℕ) (at : ℕ) → length bytes ≤ at
    → ((i : ℕ) → 1 ≤ i → i < at → has_frame seed newest (drop i bytes) ≡ false) → HasFrameBehind seed newest bytes → ⊥
none_behind seed newest bytes at all none found =
    elim (cases_lt found.0 at) [
      | inl before ↦ both_ways (has_frame seed newest (drop found.0 bytes)) (none found.0 found.1 before) found.2
      | inr behind ↦ both_ways (has_frame seed newest (drop found.0 bytes))
          (short seed newest (drop found.0 bytes) (omega (arith, length-drop found.0 bytes, behind, all))) found.2
    ]
