-- Reading one thing after the other, as the loops do.
use Rattle.std.proofs.Common.{◌≡◌, ℕ, zero, suc, ◌+◌, ◌<◌, ◌≤◌, eqb, cond, Option, Some, List, [], ◌∷◌, ◌++◌, length, Result, Ok, Err, refl, sym, ap, ◌∙◌, append_assoc, arith}
use Rattle.std.proofs.lemmas.List.{append-nil}
use Rattle.values.specs.Shape.{Columns}
use Rattle.values.specs.declared.value.Value.{Value}
use Rattle.model.specs.declared.entry.Entry.{Entry}
use Rattle.codec.specs.declared.fault.PayloadFault.{PayloadFault}
use Rattle.codec.specs.declared.fault.PayloadFault.TheVariants.{Short, BadTable, BadKind, BadColumn, BadCell, NoMemory}
use Rattle.codec.specs.Reading.{◌>>=◌, FoundEntry, FoundSpan, Span, entry_at, entries_up, and_then, span_at, spans_up, span_then, found_among, Fails}

-- a fault of a step is that of what wants the step
pub failed : {A B : Type 0} (fault : PayloadFault) (step : Result A PayloadFault) (total : Result B PayloadFault)
    → ((f : PayloadFault) → step ≡ Err f → total ≡ Err f) → Fails fault step → Fails fault total
failed NoMemory step total by h = tt
failed (Short at) step total by h = by (Short at) h
failed (BadTable at) step total by h = by (BadTable at) h
failed (BadKind at) step total by h = by (BadKind at) h
failed (BadColumn at) step total by h = by (BadColumn at) h
failed (BadCell at) step total by h = by (BadCell at) h

-- ---- cells

abbrev pub FoundValues : Type 0
FoundValues = List Value × List ℕ

-- cells that were read before, and those that are read now
abbrev pub cells_after : List Value → Result FoundValues PayloadFault → Result FoundValues PayloadFault
cells_after front reading = reading >>= λ found. Ok (front ++ found.0, found.1)

-- ---- entries

-- entries that were read before, and those that are read now
abbrev pub entries_after : List Entry → Result (List Entry) PayloadFault → Result (List Entry) PayloadFault
entries_after front reading = reading >>= λ entries. Ok (front ++ entries)

entries_after-and_then : (front : List Entry) (entry : Entry) (reading : Result (List Entry) PayloadFault)
    → entries_after front (and_then entry reading) ≡ entries_after (front ++ entry ∷ []) reading
entries_after-and_then front entry (Ok entries) = ap (λ es. Ok es) (sym (append_assoc front (entry ∷ []) entries))
entries_after-and_then front entry (Err fault) = refl

pub entries_none : (reading : Result (List Entry) PayloadFault) → entries_after [] reading ≡ reading
entries_none (Ok entries) = refl
entries_none (Err fault) = refl

-- what has been read so far, with what is left to read, is all that is read
pub record IsReadTo (schema : Columns) (end : ℕ) (rest : List ℕ) (front : List Entry) (total : Result (List Entry) PayloadFault) : Type 0 where
  pub most : ℕ
  pub enough : length rest ≤ most
  pub read : entries_after front (entries_up most schema end rest) ≡ total

pub entries_up-none : (most : ℕ) (schema : Columns) (end : ℕ) (bytes : List ℕ) → length bytes ≡ 0 → entries_up most schema end bytes ≡ Ok []
unfolding entries_up
entries_up-none zero schema end bytes h = refl
entries_up-none (suc most) schema end [] h = refl
entries_up-none (suc most) schema end (byte ∷ bytes) h = absurd (omega (arith, h))

pub entries_up-step : (most : ℕ) (schema : Columns) (end : ℕ) (bytes : List ℕ) → 0 < length bytes
    → entries_up (suc most) schema end bytes ≡ (entry_at schema end bytes >>= λ found. and_then found.0 (entries_up most schema end found.1))
unfolding entries_up
entries_up-step most schema end [] some = absurd (omega (arith, some))
entries_up-step most schema end (byte ∷ bytes) some = refl

module _ (schema : Columns) (end : ℕ) (rest : List ℕ) (front : List Entry) (total : Result (List Entry) PayloadFault)
    (so_far : IsReadTo schema end rest front total) where
  -- nothing is left
  pub reads_end : length rest ≡ 0 → total ≡ Ok front
  reads_end none =
      sym so_far.read ∙ ap (entries_after front) (entries_up-none so_far.most schema end rest none) ∙ ap (λ es. Ok es) (append-nil front)

  module _ (some : 0 < length rest) where
    abbrev next_entries : ℕ → Result FoundEntry PayloadFault → Result (List Entry) PayloadFault
    next_entries most entry = entries_after front (entry >>= λ found. and_then found.0 (entries_up most schema end found.1))

    entry_step : (most : ℕ) × (length rest ≤ suc most) × (next_entries most (entry_at schema end rest) ≡ total)
    entry_step = by so_far.most so_far.enough so_far.read
      where
        by : (n : ℕ) → length rest ≤ n → entries_after front (entries_up n schema end rest) ≡ total
            → (most : ℕ) × (length rest ≤ suc most) × (next_entries most (entry_at schema end rest) ≡ total)
        by zero le e = absurd (omega (arith, le, some))
        by (suc most) le e = (most, le, sym (ap (entries_after front) (entries_up-step most schema end rest some)) ∙ e)

    -- an entry more
    pub reads_on : (entry : Entry) (left : List ℕ) → length left < length rest → entry_at schema end rest ≡ Ok (entry, left)
        → IsReadTo schema end left (front ++ entry ∷ []) total
    reads_on entry left shorter e =
        record {
          most = entry_step.0;
          enough = omega (arith, entry_step.1, shorter);
          read =
              sym (entries_after-and_then front entry (entries_up entry_step.0 schema end left))
              ∙ sym (ap (next_entries entry_step.0) e) ∙ entry_step.2;
        }

    -- a fault
    pub reads_fault : (fault : PayloadFault) → Fails fault (entry_at schema end rest) → Fails fault total
    reads_fault fault h =
        failed fault (entry_at schema end rest) total (λ f e. sym entry_step.2 ∙ ap (next_entries entry_step.0) e) h

-- ---- parts

-- the part that was found, among the parts that are read now
abbrev pub among : ℕ → Option Span → Result (List Span) PayloadFault → Result (Option Span) PayloadFault
among table found reading = reading >>= λ spans. Ok (found_among table found spans)

-- the part that is found after one more
abbrev pub found_now : ℕ → Option Span → Span → Option Span
found_now table found span = cond (eqb span.table table) (Some span) found

among-span_then : (table : ℕ) (found : Option Span) (span : Span) (reading : Result (List Span) PayloadFault)
    → among table found (span_then span reading) ≡ among table (found_now table found span) reading
among-span_then table found span (Ok spans) = refl
among-span_then table found span (Err fault) = refl

pub record IsScannedTo (table end low : ℕ) (rest : List ℕ) (found : Option Span) (total : Result (Option Span) PayloadFault) : Type 0 where
  pub most : ℕ
  pub enough : length rest ≤ most
  pub read : among table found (spans_up most end low rest) ≡ total

pub spans_up-none : (most end low : ℕ) (bytes : List ℕ) → length bytes ≡ 0 → spans_up most end low bytes ≡ Ok []
unfolding spans_up
spans_up-none zero end low bytes h = refl
spans_up-none (suc most) end low [] h = refl
spans_up-none (suc most) end low (byte ∷ bytes) h = absurd (omega (arith, h))

pub spans_up-step : (most end low : ℕ) (bytes : List ℕ) → 0 < length bytes
    → spans_up (suc most) end low bytes ≡ (span_at end low bytes >>= λ found. span_then found.0 (spans_up most end (found.0.table + 1) found.1))
unfolding spans_up
spans_up-step most end low [] some = absurd (omega (arith, some))
spans_up-step most end low (byte ∷ bytes) some = refl

module _ (table end low : ℕ) (rest : List ℕ) (found : Option Span) (total : Result (Option Span) PayloadFault)
    (so_far : IsScannedTo table end low rest found total) where
  pub scans_end : length rest ≡ 0 → total ≡ Ok found
  scans_end none = sym so_far.read ∙ ap (among table found) (spans_up-none so_far.most end low rest none)

  module _ (some : 0 < length rest) where
    abbrev next_spans : ℕ → Result FoundSpan PayloadFault → Result (Option Span) PayloadFault
    next_spans most span = among table found (span >>= λ s. span_then s.0 (spans_up most end (s.0.table + 1) s.1))

    span_step : (most : ℕ) × (length rest ≤ suc most) × (next_spans most (span_at end low rest) ≡ total)
    span_step = by so_far.most so_far.enough so_far.read
      where
        by : (n : ℕ) → length rest ≤ n → among table found (spans_up n end low rest) ≡ total
            → (most : ℕ) × (length rest ≤ suc most) × (next_spans most (span_at end low rest) ≡ total)
        by zero le e = absurd (omega (arith, le, some))
        by (suc most) le e = (most, le, sym (ap (among table found) (spans_up-step most end low rest some)) ∙ e)

    -- a part more
    pub scans_on : (span : Span) (left : List ℕ) → length left < length rest → span_at end low rest ≡ Ok (span, left)
        → IsScannedTo table end (span.table + 1) left (found_now table found span) total
    scans_on span left shorter e =
        record {
          most = span_step.0;
          enough = omega (arith, span_step.1, shorter);
          read =
              sym (among-span_then table found span (spans_up span_step.0 end (span.table + 1) left))
              ∙ sym (ap (next_spans span_step.0) e) ∙ span_step.2;
        }

    -- a fault
    pub scans_fault : (fault : PayloadFault) → Fails fault (span_at end low rest) → Fails fault total
    scans_fault fault h = failed fault (span_at end low rest) total (λ f e. sym span_step.2 ∙ ap (next_spans span_step.0) e) h
