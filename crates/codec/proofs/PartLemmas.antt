-- Parts are read from the payload of all parts.
use Rattle.std.proofs.Common.{◌≡◌, ◌≢◌, ℕ, zero, suc, ◌+◌, ◌<◌, ◌≤◌, ◌^◌, false, cond, ltb, eqb, Option, Some, None, List, [], ◌∷◌, ◌++◌, length, Result, Ok, refl, sym, ap, ◌∙◌, arith}
use Rattle.std.specs.List.{All}
use Rattle.std.specs.Prelude.{slice_index_or}
use Rattle.std.specs.Int.{w32, from_be_bytes, to_be_bytes}
use Rattle.std.proofs.lemmas.Bool.{le-ltb, eq-eqb, ne_eqb}
use Rattle.std.proofs.lemmas.List.{length-append, take_at, drop_at, append-nil}
use Rattle.std.proofs.lemmas.List.Elements.{All-head, All-tail, All-nil, All-cons}
use Rattle.std.proofs.lemmas.Nat.{from_be_bytes-to_be_bytes_4}
use Rattle.values.specs.Shape.{Columns}
use Rattle.model.specs.declared.entry.Entry.{Entry}
use Rattle.codec.specs.declared.fault.PayloadFault.{PayloadFault}
use Rattle.codec.specs.Laws.{ReadBack, PartsReadBack, OthersReadNone}
use Rattle.codec.specs.Payload.{Part, AreParts, entries_bytes, framed, part_bytes, payload_of}
use Rattle.codec.specs.Reading.{◌>>=◌, FoundSpan, Span, begin, bytes_in, entries_in, entries_of, found_among, span_at, span_in, span_then, spans_up}
use Rattle.codec.proofs.BackLemmas.{done}
use Rattle.codec.proofs.LoopLemmas.{spans_up-none, spans_up-step}

abbrev pub span_with : ℕ → ℕ → List ℕ → Span
span_with table end bytes = record { table = table; end = end; bytes = bytes }

-- a part in its frame is found at the front
span_again : (end low table : ℕ) (bytes rest : List ℕ) → low ≤ table → table < 2 ^ 32 → length bytes < 2 ^ 32
    → span_at end low (framed table bytes ++ rest) ≡ Ok (span_with table (begin end rest) bytes, rest)
unfolding span_at
span_again end low table bytes rest above small short =
    let whole = framed table bytes ++ rest in
    let long : ltb (length whole) 8 ≡ false =
    le-ltb _ _ (omega (
      arith,
      length-append (framed table bytes) rest,
      length-append (to_be_bytes w32 table) (to_be_bytes w32 (length bytes) ++ bytes),
      length-append (to_be_bytes w32 (length bytes)) bytes,
    )) in
    let number : from_be_bytes w32 (to_be_bytes w32 table) ≡ table = from_be_bytes-to_be_bytes_4 table small in
    let size : from_be_bytes w32 (to_be_bytes w32 (length bytes)) ≡ length bytes = from_be_bytes-to_be_bytes_4 (length bytes) short in
    let turn : ltb table low ≡ false = le-ltb _ _ above in
    let within : ltb (length (bytes ++ rest)) (length bytes) ≡ false = le-ltb _ _ (omega (arith, length-append bytes rest)) in
    rw (long, number, size, turn, within, take_at bytes rest (length bytes) refl, drop_at bytes rest (length bytes) refl) refl

-- the parts with the places of their entries
unfoldable pub spans_for : ℕ → List Part → List Span
spans_for end [] = []
spans_for end (part ∷ parts) = span_with part.table (begin end (payload_of parts)) (entries_bytes part.entries) ∷ spans_for end parts

part_some : (part : Part) → 1 ≤ length (part_bytes part.table part.entries)
part_some part =
    omega (arith, length-append (to_be_bytes w32 part.table) (to_be_bytes w32 (length (entries_bytes part.entries)) ++ entries_bytes part.entries))

pub spans_again : (end : ℕ) (parts : List Part) (low most : ℕ) → AreParts low parts → length (payload_of parts) ≤ most
    → spans_up most end low (payload_of parts) ≡ Ok (spans_for end parts)
unfolding spans_for
spans_again end [] low most are enough = spans_up-none most end low [] refl
spans_again end (part ∷ parts) low zero are enough =
    absurd (omega (arith, enough, part_some part, length-append (part_bytes part.table part.entries) (payload_of parts)))
spans_again end (part ∷ parts) low (suc most) are enough =
    let bytes = part_bytes part.table part.entries in
    let left = payload_of parts in
    let sized = length-append bytes left in
    spans_up-step most end low (bytes ++ left) (omega (arith, sized, part_some part))
    ∙ ap (λ (r : Result FoundSpan PayloadFault). r >>= λ found. span_then found.0 (spans_up most end (found.0.table + 1) found.1))
    (span_again end low part.table (entries_bytes part.entries) left are.0 are.1 are.2)
    ∙ ap (span_then (span_with part.table (begin end left) (entries_bytes part.entries)))
    (spans_again end parts (part.table + 1) most are.3 (omega (arith, enough, sized, part_some part)))

-- ---- the part of one table

-- no later part is of a table below theirs
others_stay : (end : ℕ) (parts : List Part) (low table : ℕ) (found : Option Span) → AreParts low parts → table < low
    → found_among table found (spans_for end parts) ≡ found
unfolding spans_for
others_stay end [] low table found are below = refl
others_stay end (part ∷ parts) low table found are below =
    ap (λ b. found_among table (cond b (Some (span_with part.table (begin end (payload_of parts)) (entries_bytes part.entries))) found) (spans_for end parts))
    (ne_eqb part.table table (λ e. omega (arith, e, are.0, below)))
    ∙ others_stay end parts (part.table + 1) table found are.3 (omega (arith, are.0, below))

-- the part is found with its entries
abbrev IsFound : ℕ → List Part → Part → Type 0
IsFound end parts part =
    (found : Option Span) → (at : ℕ) × (found_among part.table found (spans_for end parts) ≡ Some (span_with part.table at (entries_bytes part.entries)))

all_found : (end : ℕ) (parts : List Part) (low : ℕ) → AreParts low parts → All (IsFound end parts) parts
unfolding spans_for
all_found end [] low are = All-nil (IsFound end [])
all_found end (part ∷ parts) low are =
    All-cons (IsFound end (part ∷ parts)) part parts here (λ k d lt. there _ (all_found end parts (part.table + 1) are.3 k d lt))
  where
    here : IsFound end (part ∷ parts) part
    here found =
        let span = span_with part.table (begin end (payload_of parts)) (entries_bytes part.entries) in (
          begin end (payload_of parts),
          ap (λ b. found_among part.table (cond b (Some span) found) (spans_for end parts)) (eq-eqb part.table part.table refl)
              ∙ others_stay end parts (part.table + 1) part.table (Some span) are.3 (omega arith),
        )

    there : (other : Part) → IsFound end parts other → IsFound end (part ∷ parts) other
    there other is found =
        is (cond (eqb part.table other.table) (Some (span_with part.table (begin end (payload_of parts)) (entries_bytes part.entries))) found)

none_found : (end : ℕ) (parts : List Part) (table : ℕ) (found : Option Span) → All (λ part. part.table ≢ table) parts
    → found_among table found (spans_for end parts) ≡ found
unfolding spans_for
none_found end [] table found others = refl
none_found end (part ∷ parts) table found others =
    ap (λ b. found_among table (cond b (Some (span_with part.table (begin end (payload_of parts)) (entries_bytes part.entries))) found) (spans_for end parts))
    (ne_eqb part.table table (All-head (λ p. p.table ≢ table) part parts others))
    ∙ none_found end parts table found (All-tail (λ p. p.table ≢ table) part parts others)

-- ---- the laws

among_all : (parts : List Part) (table : ℕ) → AreParts 0 parts
    → span_in table (payload_of parts) ≡ Ok (found_among table None (spans_for (length (payload_of parts)) parts))
among_all parts table are =
    ap (λ (r : Result (List Span) PayloadFault). r >>= λ spans. done (found_among table None spans))
    (spans_again (length (payload_of parts)) parts 0 (length (payload_of parts)) are (omega arith))

pub parts_read_back : PartsReadBack
parts_read_back parts are k d lt =
    let part = slice_index_or parts k d in
    let there = all_found (length (payload_of parts)) parts 0 are k d lt None in
    let found : span_in part.table (payload_of parts) ≡ Ok (Some (span_with part.table there.0 (entries_bytes part.entries))) =
    among_all parts part.table are ∙ ap (λ (o : Option Span). done o) there.1 in (
      ap (λ (r : Result (Option Span) PayloadFault). r >>= λ o. done (bytes_in o)) found,
      λ schema back. ap (λ (r : Result (Option Span) PayloadFault). r >>= entries_of schema) found ∙ back there.0,
    )

pub others_read_none : OthersReadNone
others_read_none parts schema table are others =
    ap (λ (r : Result (Option Span) PayloadFault). r >>= entries_of schema)
    (among_all parts table are ∙ ap (λ (o : Option Span). done o) (none_found (length (payload_of parts)) parts table None others))

-- one part alone
pub part_alone : (schema : Columns) (table : ℕ) (entries : List Entry) → table < 2 ^ 32 → length (entries_bytes entries) < 2 ^ 32
    → ReadBack schema entries → entries_in schema table (part_bytes table entries) ≡ Ok entries
part_alone schema table entries small short back =
    let part : Part = record { table = table; entries = entries } in
    let law = parts_read_back (part ∷ []) (omega arith, small, short, tt) 0 part (omega arith) in
    sym (ap (entries_in schema table) (append-nil (part_bytes table entries))) ∙ law.1 schema back
