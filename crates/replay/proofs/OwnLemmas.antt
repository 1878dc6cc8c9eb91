-- Frames that have no part of a table, passed over.
use Rattle.std.proofs.Common.{◌≡◌, ℕ, ◌<◌, ◌≤◌, ◌^◌, ◌⊎◌, inl, inr, Bool, true, false, cond, Result, Ok, Err, List, [], ◌∷◌, length, map, refl, sym, ap, ◌∙◌, subst, arith}
use Rattle.std.specs.Bool.{passes}
use Rattle.std.specs.Prelude.{IfErr, IsErrAnd, IsOk}
use Rattle.values.specs.Shape.{Columns}
use Rattle.values.specs.declared.row.Row.{Row}
use Rattle.codec.specs.Reading.{decoded, entries_in, entries_or_none}
use Rattle.codec.specs.Tables.{OtherTablesReadNone, tables_in}
use Rattle.codec.specs.declared.fault.PayloadFault.{PayloadFault}
use Rattle.journal.specs.Frame.{Logged}
use Rattle.journal.specs.Reading.{logged_in}
use Rattle.journal.specs.declared.frame.Frame.{Frame}
use Rattle.model.specs.declared.entry.Entry.{Entry}
use Rattle.model.specs.Effects.{AreOver, Effects, table_with}
use Rattle.model.specs.Entries.{canonical_entries}
use Rattle.model.specs.Laws.{AreCommits, MergesToTable}
use Rattle.model.specs.Merging.{merged_rows}
use Rattle.model.specs.Table.{Table, is_keyed_table, rows_of, table_of}
use Rattle.model.proofs.CallerLemmas.{leaves, merged_rows_from_nothing, table_of-rows_of}
use Rattle.replay.specs.Own.{concerns, is_of, own_frames}
use Rattle.replay.specs.Replayed.{AreRead, AreSaid, IsCaused, IsNamed, IsPastLimit, rows_after}
use Rattle.replay.proofs.RecoveryLemmas.{said_by_frames}
use Rattle.replay.specs.declared.fault.RecoverFault.{RecoverFault}
use Rattle.replay.specs.declared.fault.RecoverFault.TheVariants as fault

-- its own frames are no more than all
pub length-own_frames : (table : ℕ) (since : List Logged) → length (own_frames table since) ≤ length since
length-own_frames table [] = omega arith
length-own_frames table (l ∷ since) = by (concerns table l.payload) (length-own_frames table since)
  where
    by : (b : Bool) → length (own_frames table since) ≤ length since
        → length (cond b (l ∷ own_frames table since) (own_frames table since)) ≤ length (l ∷ since)
    by true rest = omega (arith, rest)
    by false rest = omega (arith, rest)

module _ (law : OtherTablesReadNone) where
  -- a payload that isn't of a table says nothing of it
  says_none : (schema : Columns) (table : ℕ) (payload : List ℕ) → concerns table payload ≡ false → entries_in schema table payload ≡ Ok []
  says_none schema table payload apart = by (tables_in payload) refl apart
    where
      by : (r : Result (List ℕ) PayloadFault) → tables_in payload ≡ r → is_of table r ≡ false → entries_in schema table payload ≡ Ok []
      by (Ok tables) e h = (law payload tables e).1 schema table h
      by (Err fault) e h = absurd cc

  module _ (schema : Columns) (table : ℕ) where
    abbrev pub said : Logged → List Entry
    said l = decoded schema table l.payload

    nothing_said : (l : Logged) → concerns table l.payload ≡ false → said l ≡ []
    nothing_said l apart = ap entries_or_none (says_none schema table l.payload apart)

    -- the rows after them stay
    rows_stay : (rows : List Row) (l : Logged) → concerns table l.payload ≡ false → merged_rows rows (said l) ≡ rows
    rows_stay rows l apart = ap (merged_rows rows) (nothing_said l apart) ∙ merged_rows_from_nothing 0 rows

    -- the rows after all frames are those after the table's own
    pub rows_after-own : (rows : List Row) (since : List Logged)
        → rows_after rows (map said (own_frames table since)) ≡ rows_after rows (map said since)
    rows_after-own rows [] = refl
    rows_after-own rows (l ∷ since) = by (concerns table l.payload) refl (λ others. rows_after-own others since)
      where
        by : (b : Bool) → concerns table l.payload ≡ b
            → ((others : List Row) → rows_after others (map said (own_frames table since)) ≡ rows_after others (map said since))
            → rows_after rows (map said (cond b (l ∷ own_frames table since) (own_frames table since)))
            ≡ rows_after (merged_rows rows (said l)) (map said since)
        by true e later = later (merged_rows rows (said l))
        by false e later = later rows ∙ ap (λ (rs : List Row). rows_after rs (map said since)) (sym (rows_stay rows l e))

    -- all payloads are read where its own are
    pub are_read-own : (since : List Logged) → AreRead schema table (map (λ l. l.payload) (own_frames table since))
        → AreRead schema table (map (λ l. l.payload) since)
    are_read-own [] h = tt
    are_read-own (l ∷ since) h = by (concerns table l.payload) refl (λ read. are_read-own since read) h
      where
        by : (b : Bool) → concerns table l.payload ≡ b
            → (AreRead schema table (map (λ (m : Logged). m.payload) (own_frames table since)) → AreRead schema table (map (λ (m : Logged). m.payload) since))
            → AreRead schema table (map (λ (m : Logged). m.payload) (cond b (l ∷ own_frames table since) (own_frames table since)))
            → IsOk (entries_in schema table l.payload) × AreRead schema table (map (λ (m : Logged). m.payload) since)
        by true e later read = (read.0, later read.1)
        by false e later read =
            (subst (λ (r : Result (List Entry) PayloadFault). IsOk r) (sym (says_none schema table l.payload e)) refl, later read)

    -- what its own frames pass, all pass
    past-own : (limit : ℕ) (rows : List Row) (since : List Logged) → IsPastLimit limit rows (map said (own_frames table since))
        → IsPastLimit limit rows (map said since)
    past-own limit rows [] h = h
    past-own limit rows (l ∷ since) h = by (concerns table l.payload) refl (λ others past. past-own limit others since past) h
      where
        by : (b : Bool) → concerns table l.payload ≡ b
            → ((others : List Row) → IsPastLimit limit others (map said (own_frames table since)) → IsPastLimit limit others (map said since))
            → IsPastLimit limit rows (map said (cond b (l ∷ own_frames table since) (own_frames table since)))
            → (limit < length rows) ⊎ ((2 ^ 40 < length (said l)) ⊎ IsPastLimit limit (merged_rows rows (said l)) (map said since))
        by true e later (inl many) = inl many
        by true e later (inr (inl many)) = inr (inl many)
        by true e later (inr (inr past)) = inr (inr (later (merged_rows rows (said l)) past))
        by false e later past =
            inr (inr (subst (λ (rs : List Row). IsPastLimit limit rs (map said since)) (sym (rows_stay rows l e)) (later rows past)))

    pub caused-own : (recent limit : ℕ) (rows : List Row) (since : List Logged) (f : RecoverFault)
        → IsCaused recent limit rows (map said (own_frames table since)) f → IsCaused recent limit rows (map said since) f
    caused-own recent limit rows since fault.TooManyRows h = past-own limit rows since h
    caused-own recent limit rows since fault.BadLimit h = h
    caused-own recent limit rows since fault.NumbersSpent h = tt
    caused-own recent limit rows since fault.NoMemory h = tt
    caused-own recent limit rows since (fault.Rot n) h = tt
    caused-own recent limit rows since (fault.Gap n) h = tt
    caused-own recent limit rows since (fault.BadPayload n p) h = tt
    caused-own recent limit rows since (fault.Misfit n) h = tt

    -- a frame of its own that is named is one of all
    pub named-own : (since : List Logged) (f : RecoverFault) → IsNamed schema table (own_frames table since) f → IsNamed schema table since f
    named-own [] f h = h
    named-own (l ∷ since) f h = by (concerns table l.payload) (λ named. named-own since f named) h
      where
        by : (b : Bool) → (IsNamed schema table (own_frames table since) f → IsNamed schema table since f)
            → IsNamed schema table (cond b (l ∷ own_frames table since) (own_frames table since)) f
            → IsNamed schema table (l ∷ since) f
        by true later (inl here) = inl here
        by true later (inr there) = inr (later there)
        by false later named = inr (later named)

    module _ (merges : MergesToTable schema) where
      -- a commit of no entries leaves the table
      table_stays : (t : Table) (x : Effects) → AreOver schema t x → canonical_entries t x ≡ [] → table_with t x ≡ t
      table_stays t x over none =
          let keys = schema.key_cols in
          sym (table_of-rows_of keys (table_with t x) (passes (is_keyed_table keys (table_with t x)) (leaves schema t x over).keyed))
          ∙ ap (table_of keys)
          (sym (merges t x over) ∙ ap (merged_rows (rows_of t)) none ∙ merged_rows_from_nothing 0 (rows_of t))
          ∙ table_of-rows_of keys t (passes (is_keyed_table keys t) over.table.keyed)

      -- frames that say commits, the table's own alone
      abbrev SaidBy : Table → List Logged → Type 0
      SaidBy t frames =
          (own : List Effects) × AreCommits schema t own × AreSaid schema table t own (map (λ (m : Logged). m.payload) frames)

      pub said-own : (t : Table) (commits : List Effects) (since : List Logged) → AreCommits schema t commits
          → AreSaid schema table t commits (map (λ (m : Logged). m.payload) since) → SaidBy t (own_frames table since)
      said-own t [] [] h s = ([], tt, tt)
      said-own t [] (l ∷ since) h s = absurd s
      said-own t (x ∷ commits) [] h s = absurd s
      said-own t (x ∷ commits) (l ∷ since) h s =
          by (concerns table l.payload) refl (said-own (table_with t x) commits since h.1 s.1)
        where
          by : (b : Bool) → concerns table l.payload ≡ b → SaidBy (table_with t x) (own_frames table since)
              → SaidBy t (cond b (l ∷ own_frames table since) (own_frames table since))
          by true e later = (x ∷ later.0, (h.0, later.1), (s.0, later.2))
          by false e later =
              let none : canonical_entries t x ≡ [] =
              ap entries_or_none (sym s.0 ∙ says_none schema table l.payload e) in
              subst (λ (u : Table). SaidBy u (own_frames table since)) (table_stays t x h.0 none) later

-- what frames say is what is logged in them
pub said_in_frames : {A : Type 0} (d : List ℕ → A) (frames : List Frame) (logged : List Logged) → map logged_in frames ≡ logged
    → map (λ f. d f.payload.now) frames ≡ map (λ l. d l.payload) logged
said_in_frames d frames logged is = sym (said_by_frames d frames) ∙ ap (map (λ l. d l.payload)) is

-- what is passed on as an error is that error
pub passed_on : {A E : Type 0} (r : Result A E) (x : E) (P : E → Type 0) → IsErrAnd r (λ y. y ≡ x) → P x → IfErr r P
passed_on (Ok a) x P h p = tt
passed_on (Err y) x P h p = subst P (sym h) p
