-- The tables of a payload's parts: as a loop finds them, and what others read.
use Rattle.std.proofs.Common.{◌≡◌, ℕ, zero, suc, ◌+◌, ◌<◌, ◌≤◌, Bool, true, false, cond, eqb, ltb, ◌||◌, Some, None, List, [], ◌∷◌, ◌++◌, length, drop, Result, Ok, Err, refl, sym, ap, ◌∙◌, append_assoc, subst, arith}
use Rattle.std.proofs.lemmas.Bool.{ltb-false}
use Rattle.std.proofs.lemmas.List.{append-nil}
use Rattle.codec.specs.declared.fault.PayloadFault.{PayloadFault}
use Rattle.codec.specs.declared.fault.PayloadFault.TheVariants.{Short, BadTable}
use Rattle.codec.specs.Reading.{◌>>=◌, FoundSpan, Span, Fails, begin, entries_of, found_among, span_at, span_of, span_then, spans_in, spans_up, word_at}
use Rattle.codec.specs.Tables.{Ascend, OtherTablesReadNone, is_among, tables_of}
use Rattle.codec.proofs.BackLemmas.{done}
use Rattle.codec.proofs.LoopLemmas.{failed, spans_up-none, spans_up-step}
use Rattle.codec.proofs.SpeltLemmas.{bind_ok, guard_ok, ok_is}

-- ---- the loop

-- tables that were found before, and those of the parts that are read now
abbrev pub tables_after : List ℕ → Result (List Span) PayloadFault → Result (List ℕ) PayloadFault
tables_after front reading = reading >>= λ spans. Ok (front ++ tables_of spans)

tables_after-span_then : (front : List ℕ) (span : Span) (reading : Result (List Span) PayloadFault)
    → tables_after front (span_then span reading) ≡ tables_after (front ++ span.table ∷ []) reading
tables_after-span_then front span (Ok spans) = ap (λ ts. Ok ts) (sym (append_assoc front (span.table ∷ []) (tables_of spans)))
tables_after-span_then front span (Err fault) = refl

pub tables_none : (reading : Result (List Span) PayloadFault) → tables_after [] reading ≡ (reading >>= λ spans. Ok (tables_of spans))
tables_none (Ok spans) = refl
tables_none (Err fault) = refl

-- the tables so far, with those of what is left to read, are all
pub record AreListedTo (end low : ℕ) (rest front : List ℕ) (total : Result (List ℕ) PayloadFault) : Type 0 where
  pub most : ℕ
  pub enough : length rest ≤ most
  pub read : tables_after front (spans_up most end low rest) ≡ total

module _ (end low : ℕ) (rest front : List ℕ) (total : Result (List ℕ) PayloadFault) (so_far : AreListedTo end low rest front total) where
  -- nothing is left
  pub lists_end : length rest ≡ 0 → total ≡ Ok front
  lists_end none =
      sym so_far.read ∙ ap (tables_after front) (spans_up-none so_far.most end low rest none) ∙ ap (λ ts. Ok ts) (append-nil front)

  module _ (some : 0 < length rest) where
    abbrev next_tables : ℕ → Result FoundSpan PayloadFault → Result (List ℕ) PayloadFault
    next_tables most span = tables_after front (span >>= λ s. span_then s.0 (spans_up most end (s.0.table + 1) s.1))

    table_step : (most : ℕ) × (length rest ≤ suc most) × (next_tables most (span_at end low rest) ≡ total)
    table_step = by so_far.most so_far.enough so_far.read
      where
        by : (n : ℕ) → length rest ≤ n → tables_after front (spans_up n end low rest) ≡ total
            → (most : ℕ) × (length rest ≤ suc most) × (next_tables most (span_at end low rest) ≡ total)
        by zero le e = absurd (omega (arith, le, some))
        by (suc most) le e = (most, le, sym (ap (tables_after front) (spans_up-step most end low rest some)) ∙ e)

    -- a part more
    pub lists_on : (span : Span) (left : List ℕ) → length left < length rest → span_at end low rest ≡ Ok (span, left)
        → AreListedTo end (span.table + 1) left (front ++ span.table ∷ []) total
    lists_on span left shorter e =
        record {
          most = table_step.0;
          enough = omega (arith, table_step.1, shorter);
          read =
              sym (tables_after-span_then front span (spans_up table_step.0 end (span.table + 1) left))
              ∙ sym (ap (next_tables table_step.0) e) ∙ table_step.2;
        }

    -- a fault
    pub lists_fault : (fault : PayloadFault) → Fails fault (span_at end low rest) → Fails fault total
    lists_fault fault h = failed fault (span_at end low rest) total (λ f e. sym table_step.2 ∙ ap (next_tables table_step.0) e) h

-- ---- the law

-- a part that was read is of the least table or one above
span_above : (end low : ℕ) (bytes : List ℕ) (pair : FoundSpan) → span_at end low bytes ≡ Ok pair → low ≤ pair.0.table
unfolding span_at
span_above end low bytes pair e =
    let at = begin end bytes in
    let table = word_at bytes 0 in
    let size = word_at bytes 4 in
    let body = drop 8 bytes in
    let found = span_of end bytes in
    let sized = cond (ltb (length body) size) (Err (Short at)) (done found) in
    let a = guard_ok (ltb (length bytes) 8) (Short at) (cond (ltb table low) (Err (BadTable at)) sized) pair e in
    let b = guard_ok (ltb table low) (BadTable at) sized pair a.1 in
    let c = guard_ok (ltb (length body) size) (Short at) (done found) pair b.1 in
    subst (λ (p : FoundSpan). low ≤ p.0.table) (ok_is found pair c.1) (ltb-false _ _ b.0)

ascend : (most end low : ℕ) (bytes : List ℕ) (spans : List Span) → spans_up most end low bytes ≡ Ok spans → Ascend low (tables_of spans)
unfolding spans_up
ascend zero end low bytes spans e = subst (λ (ss : List Span). Ascend low (tables_of ss)) (ok_is [] spans e) tt
ascend (suc most) end low [] spans e = subst (λ (ss : List Span). Ascend low (tables_of ss)) (ok_is [] spans e) tt
ascend (suc most) end low (byte ∷ bytes) spans e =
    let whole = byte ∷ bytes in
    let one = bind_ok (span_at end low whole) (λ found. span_then found.0 (spans_up most end (found.0.table + 1) found.1)) spans e in
    let span = one.0.0 in
    let others = bind_ok (spans_up most end (span.table + 1) one.0.1) (λ ss. done (span ∷ ss)) spans one.2 in
    subst (λ (ss : List Span). Ascend low (tables_of ss)) (ok_is (span ∷ others.0) spans others.2)
    (span_above end low whole one.0 one.1, ascend most end (span.table + 1) one.0.1 others.0 others.1)

-- no part is of a table that isn't among theirs
none_among : (table : ℕ) (spans : List Span) → is_among table (tables_of spans) ≡ false → found_among table None spans ≡ None
none_among table [] none = refl
none_among table (span ∷ spans) none = by (eqb span.table table) (λ e. none_among table spans e) none
  where
    by : (here : Bool) → (is_among table (tables_of spans) ≡ false → found_among table None spans ≡ None)
        → (here || is_among table (tables_of spans)) ≡ false
        → found_among table (cond here (Some span) None) spans ≡ None
    by true later e = absurd cc
    by false later e = later e

pub other_tables_read_none : OtherTablesReadNone
other_tables_read_none bytes tables e =
    let one = bind_ok (spans_in bytes) (λ spans. done (tables_of spans)) tables e in
    let is = ok_is (tables_of one.0) tables one.2 in (
      subst (Ascend 0) is (ascend (length bytes) (length bytes) 0 bytes one.0 one.1),
      λ schema table none.
          ap (λ (r : Result (List Span) PayloadFault). (r >>= λ spans. done (found_among table None spans)) >>= entries_of schema) one.1
          ∙ ap (entries_of schema) (none_among table one.0 (ap (is_among table) is ∙ none)),
    )
