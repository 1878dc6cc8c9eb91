-- The files of a journal, taken one after the other, as loops do; and the frames that a file has behind its header.
use Rattle.std.proofs.Common.{Bool, ◌≡◌, ◌<◌, ◌≤◌, ◌⊎◌, inl, inr, ℕ, ◌+◌, ◌-◌, true, false, cond, eqb, leb, ltb, ◌&&◌, ◌^◌, Option, Some, None, Result, Ok, Err, List, [], ◌∷◌, ◌++◌, length, get_or, take, drop, refl, sym, ap, ◌∙◌, arith}
use Rattle.std.proofs.lemmas.Bool.{cond-false, cond_both, eqb-false, le-leb, lt-leb, ne_eqb}
use Rattle.std.proofs.lemmas.List.{at_drop_more, drop_all, take-append-drop, take_more}
use Rattle.std.specs.Result.{IfOk}
use Rattle.journal.specs.Check.{crc}
use Rattle.journal.specs.Header.{HeaderFields, all_ones, header_in, seed_of}
use Rattle.journal.specs.Reading.{long_at, word_at}
use Rattle.journal.specs.declared.fault.HeaderFault.{HeaderFault}
use Rattle.journal.specs.declared.fault.HeaderFault.TheVariants.{Empty, CutHeader, NoJournal, UnknownVersion, BadHeader, BadSeed, BadBase}
use Rattle.manifest.specs.declared.entries.ManifestHead.{ManifestHead}
use Rattle.segments.specs.Ends.{IsLast, IsTornBefore, begin_in_time, file_at, frames_len}
use Rattle.segments.specs.Pieces.{Piece, is_behind, piece_by, piece_of}
use Rattle.segments.specs.Segment.{base_in, segment_by, segment_in}
use Rattle.segments.specs.Version.{is_later_header}
use Rattle.segments.specs.declared.fault.SegmentFault.TheVariants.{OtherStore, LaterVersion}
use Rattle.segments.specs.declared.segment.Segment.{Segment}

-- ---- how many bytes of frames files have

len_append : (xs ys : List Segment) → frames_len (xs ++ ys) ≡ frames_len xs + frames_len ys
unfolding frames_len
len_append [] ys = omega arith
len_append (x ∷ xs) ys = omega (arith, len_append xs ys)

pub len_split : (files : List Segment) (i : ℕ) → frames_len files ≡ frames_len (take i files) + frames_len (drop i files)
len_split files i = ap frames_len (sym (take-append-drop i files)) ∙ len_append (take i files) (drop i files)

len_one : (s : Segment) → frames_len (s ∷ []) ≡ s.len
unfolding frames_len
len_one s = omega arith

pub len_take_more : (files : List Segment) (i : ℕ) (d : Segment) → i < length files
    → frames_len (take (i + 1) files) ≡ frames_len (take i files) + (get_or files i d).len
len_take_more files i d lt =
    ap frames_len (take_more files i d lt) ∙ len_append (take i files) (get_or files i d ∷ [])
    ∙ ap (λ n. frames_len (take i files) + n) (len_one (get_or files i d))

pub len_drop_more : (files : List Segment) (i : ℕ) (d : Segment) → i < length files
    → frames_len (drop i files) ≡ (get_or files i d).len + frames_len (drop (i + 1) files)
unfolding frames_len
len_drop_more files i d lt = at_drop_more frames_len files i d lt

pub len_drop_less : (files : List Segment) (i : ℕ) (d : Segment) → 0 < i → i ≤ length files
    → frames_len (drop (i - 1) files) ≡ (get_or files (i - 1) d).len + frames_len (drop i files)
len_drop_less files i d some within =
    let e : i - 1 + 1 ≡ i = omega (arith, some) in
    len_drop_more files (i - 1) d (omega (arith, some, within)) ∙ ap (λ n. (get_or files (i - 1) d).len + frames_len (drop n files)) e

len_take_none : (files : List Segment) → frames_len (take 0 files) ≡ 0
unfolding frames_len
len_take_none files = refl

pub len_drop_all : (files : List Segment) (i : ℕ) → length files ≤ i → frames_len (drop i files) ≡ 0
unfolding frames_len
len_drop_all files i le = ap frames_len (drop_all i files le)

-- the files in front of the last one that has frames have more than are whole
pub torn_before : (files : List Segment) (place whole : ℕ) → IsLast files place → whole < frames_len (take place files)
    → IsTornBefore files whole
torn_before files place whole last short = (
  place,
  short,
  elim last.some [
    | inl e ↦ absurd (omega (arith, short, ap (λ n. frames_len (take n files)) e, len_take_none files))
    | inr some ↦ omega (arith, some, len_drop_more files place (record { base = 0; front = 0; len = 0 }) last.there)
  ],
)

-- all files have as many bytes as those in front of the last one that has frames, and it
pub len_by_last : (files : List Segment) (place : ℕ) → IsLast files place
    → frames_len files ≡ frames_len (take place files) + (file_at files place).len
len_by_last files place last =
    omega (arith, len_split files place, len_drop_more files place (record { base = 0; front = 0; len = 0 }) last.there, last.behind)

-- ---- where files begin

in_time : (newest front base : ℕ) → (front ≡ 0) ⊎ (base ≤ newest) → is_behind newest (cond (eqb front 0) None (Some base)) ≡ true
in_time newest front base why =
    cond_both (eqb front 0) None (Some base) (λ o. is_behind newest o ≡ true) (λ e. refl)
    (λ e. elim why [ inl z ↦ absurd (eqb-false front 0 e z) | inr le ↦ le-leb base newest le ])

module _ (files : List Segment) (i newest : ℕ) (d : Segment) (lt : i < length files) where
  pub time_more : begin_in_time newest (drop i files) ≡ (is_behind newest (base_in (get_or files i d)) && begin_in_time newest (drop (i + 1) files))
  unfolding begin_in_time
  time_more = at_drop_more (λ ss. begin_in_time newest ss) files i d lt

  pub late : 0 < (get_or files i d).front → newest < (get_or files i d).base → begin_in_time newest (drop i files) ≡ false
  late front base =
      time_more
      ∙ ap (λ o. is_behind newest o && begin_in_time newest (drop (i + 1) files)) (cond-false (eqb (get_or files i d).front 0) None (Some (get_or files i d).base) (ne_eqb (get_or files i d).front 0 (λ e. omega (arith, front, e))))
      ∙ ap (λ b. b && begin_in_time newest (drop (i + 1) files)) (lt-leb (get_or files i d).base newest base)

  pub timely : ((get_or files i d).front ≡ 0) ⊎ ((get_or files i d).base ≤ newest)
      → begin_in_time newest (drop i files) ≡ begin_in_time newest (drop (i + 1) files)
  timely why =
      time_more
      ∙ ap (λ b. b && begin_in_time newest (drop (i + 1) files)) (in_time newest (get_or files i d).front (get_or files i d).base why)

pub time_done : (files : List Segment) (i newest : ℕ) → length files ≤ i → begin_in_time newest (drop i files) ≡ true
unfolding begin_in_time
time_done files i newest le = ap (λ ss. begin_in_time newest ss) (drop_all i files le)

-- ---- the frames behind a header

-- what is read as a header has the bytes behind the first 36
abbrev HasRest : List ℕ → Result (HeaderFields × List ℕ) HeaderFault → Type 0
HasRest bytes r = IfOk r (λ found. found.1 ≡ drop 36 bytes)

abbrev header_if : (empty cut magic version check seedless high : Bool) → HeaderFields × List ℕ → Result (HeaderFields × List ℕ) HeaderFault
header_if empty cut magic version check seedless high found =
    cond empty (Err Empty) (cond cut (Err CutHeader)
    (cond magic (cond version (cond check (cond seedless (Err BadSeed) (cond high (Err BadBase) (Ok found))) (Err BadHeader))
    (Err UnknownVersion)) (Err NoJournal)))

rest_if : (empty cut magic version check seedless high : Bool) (h : HeaderFields) (bytes : List ℕ)
    → HasRest bytes (header_if empty cut magic version check seedless high (h, drop 36 bytes))
rest_if true cut magic version check seedless high h bytes = tt
rest_if false true magic version check seedless high h bytes = tt
rest_if false false false version check seedless high h bytes = tt
rest_if false false true false check seedless high h bytes = tt
rest_if false false true true false seedless high h bytes = tt
rest_if false false true true true true high h bytes = tt
rest_if false false true true true false true h bytes = tt
rest_if false false true true true false false h bytes = refl

header_rest : (bytes : List ℕ) → HasRest bytes (header_in bytes)
unfolding header_in
header_rest bytes =
    rest_if (eqb (length bytes) 0) (ltb (length bytes) 36) (eqb (word_at bytes 0) 0x4e4d4a31) (eqb (word_at bytes 4) 1)
    (eqb (word_at bytes 32) (crc all_ones (take 32 bytes))) (eqb (seed_of (long_at bytes 8)) 0) (leb (2 ^ 63) (long_at bytes 24))
    (record { salt = long_at bytes 8; store = long_at bytes 16; base = long_at bytes 24 }) bytes

abbrev IsPieceOf : ℕ → ℕ → List ℕ → Result (HeaderFields × List ℕ) HeaderFault → Segment → Type 0
IsPieceOf salt store bytes r s =
    (head : ManifestHead) → head.salt ≡ salt → head.store ≡ store
    → piece_by head bytes r ≡ Some (record { base = base_in s; frames = drop s.front bytes })

piece_by_header : (salt store : ℕ) (bytes : List ℕ) (r : Result (HeaderFields × List ℕ) HeaderFault)
    → HasRest bytes r → IfOk (segment_by salt store bytes r) (IsPieceOf salt store bytes r)
piece_by_header salt store bytes (Ok found) has = by _ refl
  where
    piece : List ℕ → Option Piece
    piece frames = Some (record { base = Some found.0.base; frames = frames })

    test : ℕ → ℕ → Bool
    test a b = (eqb found.0.salt a) && (eqb found.0.store b)

    by : (b : Bool) → test salt store ≡ b
        → IfOk (cond b (Ok (record { base = found.0.base; front = 36; len = length found.1 })) (Err OtherStore))
        (IsPieceOf salt store bytes (Ok found))
    by true e = λ head es et.
        ap (λ b. cond b (piece found.1) None) (ap (λ n. test n head.store) es ∙ ap (test salt) et ∙ e) ∙ ap piece has
    by false e = tt
piece_by_header salt store bytes (Err fault) has = by (is_later_header bytes)
  where
    by : (b : Bool) → IfOk (cond b (Err LaterVersion) (Ok (record { base = 0; front = 0; len = length bytes })))
        (IsPieceOf salt store bytes (Err fault))
    by true = tt
    by false = λ head es et. refl

-- a file is taken for the frames that whoever restores a table of it takes it for
pub same_piece : (salt store : ℕ) (bytes : List ℕ)
    → IfOk (segment_in salt store bytes) (λ s. (head : ManifestHead) → head.salt ≡ salt → head.store ≡ store
    → piece_of head bytes ≡ Some (record { base = base_in s; frames = drop s.front bytes }))
unfolding segment_in piece_of
same_piece salt store bytes = piece_by_header salt store bytes (header_in bytes) (header_rest bytes)
