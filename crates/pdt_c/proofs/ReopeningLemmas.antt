-- A recovered manager that keeps no records.
use Rattle.std.proofs.Common.{◌≡◌, ◌+◌, ◌-◌, ◌<◌, ◌⊎◌, ℕ, true, false, List, Result, Ok, Err, length, map, inl, inr, refl, sym, ap, subst, arith}
use Rattle.std.specs.Prelude.{IfErr, IfOk, ◌≢◌}
use Rattle.codec.specs.Reading.{decoded}
use Rattle.journal.specs.Reading.{read_of}
use Rattle.values.specs.declared.row.Row.{Row}
use Rattle.model.specs.declared.entry.Entry.{Entry}
use Rattle.manager.specs.Managed.{Managed, is_bad_limit, newest_number, newest_table}
use Rattle.model.specs.Effects.{Effects}
use Rattle.model.specs.Table.{Table, rows_of}
use Rattle.replay.specs.Recovered.{AreBehind, HasPrefix, IsBlameless, IsCrashed, IsImage, IsTold, MayEnd, frames_since, logged_since, newest_in, payloads_since}
use Rattle.replay.specs.Replayed.{AreRead, AreSaid, IsCaused, IsMisfit, IsNamed, IsPastLimit, rows_after}
use Rattle.replay.specs.declared.fault.RecoverFault.{RecoverFault}
use Rattle.replay.specs.declared.fault.RecoverFault.TheVariants as fault
use Rattle.stable.specs.Stable.{Stable}
use Rattle.model.specs.declared.clash.ConflictRule.{ConflictRule}
use Rattle.pdt_c.specs.Reopening.{IsImageIn, IsRefusal, IsRemadeOf, IsUnder, IsUnmade, told_fault}
use Rattle.pdt_c.specs.declared.codes.TheConstants.{BAD_LIMIT, DONE, TOO_MANY_ROWS}

-- ---- what holds of an answer

pub ok_then : {A E : Type 0} (P Q : A → Type 0) → ((x : A) → P x → Q x) → (r : Result A E) → IfOk r P → IfOk r Q
ok_then P Q f (Ok x) h = f x h
ok_then P Q f (Err e) h = tt

pub err_then : {A E : Type 0} (P Q : E → Type 0) → ((x : E) → P x → Q x) → (r : Result A E) → IfErr r P → IfErr r Q
err_then P Q f (Ok x) h = tt
err_then P Q f (Err e) h = f e h

-- ---- a recovered manager

abbrev pub counting : Managed → Managed
counting m = record m { keeps = false }

prefix_counting : (base : ℕ) (t : Table) (commits : List Effects) (safe : ℕ) (m : Managed) → HasPrefix base t commits safe m
    → HasPrefix base t commits safe (counting m)
prefix_counting base t commits safe m h =
    record { whole = h.whole; enough = h.enough; inside = h.inside; number = h.number; rows_are = h.rows_are }

-- one that keeps no records has the same table
pub remade_of : (image : Stable) (number table seed base : ℕ) (frames : List ℕ) (whole : ℕ) (m new : Managed)
    → m.schema ≡ image.schema
    → rows_of (newest_table m) ≡ rows_after image.rows (logged_since (decoded image.schema table) seed base number frames)
    → newest_number m ≡ number + length (logged_since (decoded image.schema table) seed base number frames)
    → newest_number m ≡ newest_in seed base frames
    → whole ≡ length frames - length (read_of seed (base + 1) frames).rest
    → MayEnd (read_of seed (base + 1) frames).ending
    → AreBehind base number (read_of seed (base + 1) frames)
    → AreRead image.schema table (payloads_since seed base number frames)
    → ((t : Table) (commits : List Effects) (safe : ℕ) → IsCrashed (decoded image.schema table) image.schema seed base t commits safe frames
    → IsImage base t commits safe number image.rows → HasPrefix base t commits safe m)
    → new ≡ counting m
    → IsRemadeOf image number table seed base frames whole new
remade_of image number table seed base frames whole m new schema rows number_is newest_is whole_is ending reached read prefix is =
    subst (λ (n : Managed). IsRemadeOf image number table seed base frames whole n) (sym is) (record {
      schema = schema;
      rows = rows;
      number_is = number_is;
      newest_is = newest_is;
      whole_is = whole_is;
      ending = ending;
      reached = reached;
      read = read;
      prefix = λ t commits safe crash stored. prefix_counting base t commits safe m (prefix t commits safe crash stored);
      keeps = refl;
    })

-- and is under the same limits
pub under_of : (row_limit recent : ℕ) (rule : ConflictRule) (m new : Managed)
    → (m.start.limit ≡ row_limit) × (m.start.recent ≡ recent) × (m.start.rule ≡ rule) → new ≡ counting m
    → IsUnder row_limit recent rule new
under_of row_limit recent rule m new under is =
    subst (λ (n : Managed). IsUnder row_limit recent rule n) (sym is)
    (record { limit = under.0; recent_is = under.1; rule_is = under.2 })

-- ---- why nothing is remade

some_code : (f : RecoverFault) → (told_fault f).0 ≢ DONE
some_code (fault.Rot n) = λ (e : 21 ≡ 0). cc e
some_code (fault.Gap n) = λ (e : 22 ≡ 0). cc e
some_code (fault.BadPayload n p) = λ (e : 23 ≡ 0). cc e
some_code (fault.Misfit n) = λ (e : 23 ≡ 0). cc e
some_code fault.NumbersSpent = λ (e : 23 ≡ 0). cc e
some_code fault.BadLimit = λ (e : 9 ≡ 0). cc e
some_code fault.TooManyRows = λ (e : 10 ≡ 0). cc e
some_code fault.NoMemory = λ (e : 1 ≡ 0). cc e

-- rot and a gap are told of themselves alone
not_rot : (code : ℕ) → code ≡ 21 → (code ≡ 22) ⊎ (code ≡ 23) ⊎ (code < 21) → ⊥
not_rot code e (inl gap) = omega (arith, e, gap)
not_rot code e (inr (inl misfit)) = omega (arith, e, misfit)
not_rot code e (inr (inr below)) = omega (arith, e, below)

not_gap : (code : ℕ) → code ≡ 22 → (code ≡ 21) ⊎ (code ≡ 23) ⊎ (code < 21) → ⊥
not_gap code e (inl rot) = omega (arith, e, rot)
not_gap code e (inr (inl misfit)) = omega (arith, e, misfit)
not_gap code e (inr (inr below)) = omega (arith, e, below)

module _ (P : RecoverFault → Type 0) where
  rot_alone : (f : RecoverFault) (code n : ℕ) → told_fault f ≡ (code, n) → code ≡ 21 → P f → P (fault.Rot n)
  rot_alone (fault.Rot n) code m is e h = subst (λ (k : ℕ). P (fault.Rot k)) (ap (λ (t : ℕ × ℕ). t.1) is) h
  rot_alone (fault.Gap n) code m is e h = absurd (not_rot code e (inl (sym (ap (λ (t : ℕ × ℕ). t.0) is))))
  rot_alone (fault.BadPayload n p) code m is e h = absurd (not_rot code e (inr (inl (sym (ap (λ (t : ℕ × ℕ). t.0) is)))))
  rot_alone (fault.Misfit n) code m is e h = absurd (not_rot code e (inr (inl (sym (ap (λ (t : ℕ × ℕ). t.0) is)))))
  rot_alone fault.NumbersSpent code m is e h = absurd (not_rot code e (inr (inl (sym (ap (λ (t : ℕ × ℕ). t.0) is)))))
  rot_alone fault.BadLimit code m is e h = let b : 9 ≡ code = ap (λ (t : ℕ × ℕ). t.0) is in absurd (omega (arith, e, b))
  rot_alone fault.TooManyRows code m is e h = let b : 10 ≡ code = ap (λ (t : ℕ × ℕ). t.0) is in absurd (omega (arith, e, b))
  rot_alone fault.NoMemory code m is e h = let b : 1 ≡ code = ap (λ (t : ℕ × ℕ). t.0) is in absurd (omega (arith, e, b))

  gap_alone : (f : RecoverFault) (code n : ℕ) → told_fault f ≡ (code, n) → code ≡ 22 → P f → P (fault.Gap n)
  gap_alone (fault.Gap n) code m is e h = subst (λ (k : ℕ). P (fault.Gap k)) (ap (λ (t : ℕ × ℕ). t.1) is) h
  gap_alone (fault.Rot n) code m is e h = absurd (not_gap code e (inl (sym (ap (λ (t : ℕ × ℕ). t.0) is))))
  gap_alone (fault.BadPayload n p) code m is e h = absurd (not_gap code e (inr (inl (sym (ap (λ (t : ℕ × ℕ). t.0) is)))))
  gap_alone (fault.Misfit n) code m is e h = absurd (not_gap code e (inr (inl (sym (ap (λ (t : ℕ × ℕ). t.0) is)))))
  gap_alone fault.NumbersSpent code m is e h = absurd (not_gap code e (inr (inl (sym (ap (λ (t : ℕ × ℕ). t.0) is)))))
  gap_alone fault.BadLimit code m is e h = let b : 9 ≡ code = ap (λ (t : ℕ × ℕ). t.0) is in absurd (omega (arith, e, b))
  gap_alone fault.TooManyRows code m is e h = let b : 10 ≡ code = ap (λ (t : ℕ × ℕ). t.0) is in absurd (omega (arith, e, b))
  gap_alone fault.NoMemory code m is e h = let b : 1 ≡ code = ap (λ (t : ℕ × ℕ). t.0) is in absurd (omega (arith, e, b))

-- and limits by their causes
limit_caused : (f : RecoverFault) (recent limit : ℕ) (rows : List Row) (logged : List (List Entry)) → (told_fault f).0 ≡ BAD_LIMIT
    → IsCaused recent limit rows logged f → is_bad_limit recent limit ≡ true
limit_caused (fault.Rot n) recent limit rows logged e h = cc e
limit_caused (fault.Gap n) recent limit rows logged e h = cc e
limit_caused (fault.BadPayload n p) recent limit rows logged e h = cc e
limit_caused (fault.Misfit n) recent limit rows logged e h = cc e
limit_caused fault.NumbersSpent recent limit rows logged e h = cc e
limit_caused fault.BadLimit recent limit rows logged e h = h
limit_caused fault.TooManyRows recent limit rows logged e h = cc e
limit_caused fault.NoMemory recent limit rows logged e h = cc e

full_caused : (f : RecoverFault) (recent limit : ℕ) (rows : List Row) (logged : List (List Entry)) → (told_fault f).0 ≡ TOO_MANY_ROWS
    → IsCaused recent limit rows logged f → IsPastLimit limit rows logged
full_caused (fault.Rot n) recent limit rows logged e h = cc e
full_caused (fault.Gap n) recent limit rows logged e h = cc e
full_caused (fault.BadPayload n p) recent limit rows logged e h = cc e
full_caused (fault.Misfit n) recent limit rows logged e h = cc e
full_caused fault.NumbersSpent recent limit rows logged e h = cc e
full_caused fault.BadLimit recent limit rows logged e h = cc e
full_caused fault.TooManyRows recent limit rows logged e h = h
full_caused fault.NoMemory recent limit rows logged e h = cc e

module _ (image : Stable) (row_limit recent number table seed base : ℕ) (frames : List ℕ) where
  -- each fault of recovery is told with its cause
  pub unmade_of : (f : RecoverFault) → IsTold f base number (read_of seed (base + 1) frames)
      → IsCaused recent row_limit image.rows (logged_since (decoded image.schema table) seed base number frames) f
      → (IsMisfit f → IsNamed image.schema table (frames_since seed base number frames) f)
      → ((t : Table) (commits : List Effects) (safe : ℕ)
      → (crash : IsCrashed (decoded image.schema table) image.schema seed base t commits safe frames)
      → AreSaid image.schema table t commits (map (λ l. l.payload) crash.logged)
      → IsImage base t commits safe number image.rows → IsBlameless f)
      → IsUnmade image row_limit recent number table seed base frames (told_fault f).0 (told_fault f).1
  unmade_of f told caused named sound = record {
    some = some_code f;
    rot = λ e. rot_alone (λ (g : RecoverFault). IsTold g base number (read_of seed (base + 1) frames)) f (told_fault f).0 (told_fault f).1 refl e told;
    gap = λ e. gap_alone (λ (g : RecoverFault). IsTold g base number (read_of seed (base + 1) frames)) f (told_fault f).0 (told_fault f).1 refl e told;
    misfit = λ e. record { fault = f; code_is = (λ i. (e i, (told_fault f).1)); told = told; named = named; sound = sound };
    limits = λ e. limit_caused f recent row_limit image.rows (logged_since (decoded image.schema table) seed base number frames) e caused;
    full = λ e. full_caused f recent row_limit image.rows (logged_since (decoded image.schema table) seed base number frames) e caused;
  }

-- nor is anything reopened of an image of which nothing is remade
pub refusal_of : (header : List ℕ) (columns : List (List ℕ)) (image : Stable) (row_limit recent number table seed base : ℕ)
    (frames : List ℕ) (code commit : ℕ) → IsImageIn header columns image
    → IsUnmade image row_limit recent number table seed base frames code commit
    → IsRefusal header columns row_limit recent number table seed base frames code commit
refusal_of header columns image row_limit recent number table seed base frames code commit is h = record {
  some = h.some;
  rot = h.rot;
  gap = h.gap;
  misfit = λ e. (image, is, h.misfit e);
  limits = h.limits;
  full = λ e. inr (image, is, h.full e);
}
