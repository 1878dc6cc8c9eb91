-- A header that is spelt is read again, one that was read is spelt, and one that was changed is none.
use Rattle.std.proofs.Common.{◌≡◌, ◌≢◌, ℕ, zero, suc, ◌+◌, ◌-◌, ◌^◌, ◌<◌, ◌≤◌, Bool, true, false, cond, eqb, ltb, leb, Result, Ok, Err, IsErr, List, [], ◌∷◌, ◌++◌, length, take, drop, get_or, refl, sym, ap, subst, ◌∙◌, append_assoc, inl, inr, arith}
use Rattle.std.specs.Int.{w32, w64, to_be_bytes}
use Rattle.std.proofs.lemmas.Bool.{le-ltb, lt-leb, eq-eqb, ne_eqb, eqb-true, eqb-false, ltb-false, leb-false, cases_lt}
use Rattle.std.proofs.lemmas.List.{take-append-le}
use Rattle.std.proofs.lemmas.Nat.{from_be_bytes-to_be_bytes_4, from_be_bytes-to_be_bytes_8}
use Rattle.journal.specs.Check.{crc}
use Rattle.journal.specs.Header.{HeaderFields, IsHeader, all_ones, front_bytes, header_bytes, header_in, seed_of}
use Rattle.journal.specs.Laws.{AHeaderIsGuarded, AHeaderIsSpelt, AHeaderReadsBack, AJournalSurvives, AreBytes}
use Rattle.journal.specs.Reading.{long_at, word_at}
use Rattle.journal.specs.declared.fault.HeaderFault.{HeaderFault}
use Rattle.journal.specs.declared.fault.HeaderFault.TheVariants.{Empty, CutHeader, NoJournal, UnknownVersion, BadHeader, BadSeed, BadBase}
use Rattle.journal.proofs.BurstLemmas.{a_changed_byte_is_found}
use Rattle.journal.proofs.FrameLemmas.{crc_small, take_past}
use Rattle.journal.proofs.PrefixLemmas.{a_crash_leaves_whole_frames}
use Rattle.journal.proofs.SpeltLemmas.{long_spelt, word_spelt}

-- ---- a header that is spelt

check_small : (h : HeaderFields) → crc all_ones (front_bytes h) < 2 ^ 32
check_small h = crc_small all_ones (front_bytes h) (omega arith)

pub seed_small : (salt : ℕ) → seed_of salt < 2 ^ 32
unfolding seed_of
seed_small salt = crc_small all_ones (to_be_bytes w64 salt) (omega arith)

abbrev fields_of : ℕ → ℕ → ℕ → HeaderFields
fields_of a b c = record { salt = a; store = b; base = c }

pub a_header_reads_back : AHeaderReadsBack
unfolding header_in
a_header_reads_back h rest is =
    let bytes = header_bytes h ++ rest in
    let some : eqb (length bytes) 0 ≡ false = ne_eqb (length bytes) 0 (λ e. omega (arith, e)) in
    let long : ltb (length bytes) 36 ≡ false = le-ltb _ _ (omega arith) in
    let salt : long_at bytes 8 ≡ h.salt = from_be_bytes-to_be_bytes_8 h.salt is.salt in
    let store : long_at bytes 16 ≡ h.store = from_be_bytes-to_be_bytes_8 h.store is.store in
    let base : long_at bytes 24 ≡ h.base = from_be_bytes-to_be_bytes_8 h.base (omega (arith, is.base)) in
    let check : word_at bytes 32 ≡ crc all_ones (front_bytes h) =
    from_be_bytes-to_be_bytes_4 (crc all_ones (front_bytes h)) (check_small h) in
    let low : leb (2 ^ 63) h.base ≡ false = lt-leb _ _ is.base in
    rw (some, long, salt, store, base, eq-eqb _ _ check, ne_eqb _ _ is.seed, low) refl

-- ---- a header that was read

abbrev Answer : Type 0
Answer = Result (HeaderFields × List ℕ) HeaderFault

-- what bytes have that read as a header
record Has (bytes : List ℕ) (found : HeaderFields × List ℕ) : Type 0 where
  long : 36 ≤ length bytes
  magic : word_at bytes 0 ≡ 0x4e4d4a31
  version : word_at bytes 4 ≡ 1
  check : word_at bytes 32 ≡ crc all_ones (take 32 bytes)
  seed : seed_of (long_at bytes 8) ≢ 0
  base : long_at bytes 24 < 2 ^ 63
  is : (fields_of (long_at bytes 8) (long_at bytes 16) (long_at bytes 24), drop 36 bytes) ≡ found

found_is : (p q : HeaderFields × List ℕ) → ◌≡◌ {A = Answer} (Ok p) (Ok q) → p ≡ q
found_is p q e = ap (λ (r : Answer). elim r [ Ok f ↦ f | Err fault ↦ p ]) e

has_of : (bytes : List ℕ) (found : HeaderFields × List ℕ) → header_in bytes ≡ Ok found → Has bytes found
unfolding header_in
has_of bytes found e =
    by (eqb (length bytes) 0) (ltb (length bytes) 36) (eqb (word_at bytes 0) 0x4e4d4a31) (eqb (word_at bytes 4) 1)
    (eqb (word_at bytes 32) (crc all_ones (take 32 bytes))) (eqb (seed_of (long_at bytes 8)) 0) (leb (2 ^ 63) (long_at bytes 24))
    refl refl refl refl refl refl refl e
  where
    by : (b1 b2 b3 b4 b5 b6 b7 : Bool) → eqb (length bytes) 0 ≡ b1 → ltb (length bytes) 36 ≡ b2 → eqb (word_at bytes 0) 0x4e4d4a31 ≡ b3
        → eqb (word_at bytes 4) 1 ≡ b4 → eqb (word_at bytes 32) (crc all_ones (take 32 bytes)) ≡ b5
        → eqb (seed_of (long_at bytes 8)) 0 ≡ b6 → leb (2 ^ 63) (long_at bytes 24) ≡ b7
        → ◌≡◌ {A = Answer} (cond b1 (Err Empty) (cond b2 (Err CutHeader) (cond b3 (cond b4 (cond b5 (cond b6 (Err BadSeed)
        (cond b7 (Err BadBase) (Ok (fields_of (long_at bytes 8) (long_at bytes 16) (long_at bytes 24), drop 36 bytes)))) (Err BadHeader)) (Err UnknownVersion))
        (Err NoJournal)))) (Ok found)
        → Has bytes found
    by true b2 b3 b4 b5 b6 b7 p1 p2 p3 p4 p5 p6 p7 h = absurd cc
    by false true b3 b4 b5 b6 b7 p1 p2 p3 p4 p5 p6 p7 h = absurd cc
    by false false false b4 b5 b6 b7 p1 p2 p3 p4 p5 p6 p7 h = absurd cc
    by false false true false b5 b6 b7 p1 p2 p3 p4 p5 p6 p7 h = absurd cc
    by false false true true false b6 b7 p1 p2 p3 p4 p5 p6 p7 h = absurd cc
    by false false true true true true b7 p1 p2 p3 p4 p5 p6 p7 h = absurd cc
    by false false true true true false true p1 p2 p3 p4 p5 p6 p7 h = absurd cc
    by false false true true true false false p1 p2 p3 p4 p5 p6 p7 h = record {
      long = ltb-false _ _ p2;
      magic = eqb-true _ _ p3;
      version = eqb-true _ _ p4;
      check = eqb-true _ _ p5;
      seed = eqb-false _ _ p6;
      base = leb-false _ _ p7;
      is = found_is _ _ h;
    }

six_parts : (a b d e f x : List ℕ) → a ++ (b ++ (d ++ (e ++ (f ++ x)))) ≡ (a ++ (b ++ (d ++ (e ++ f)))) ++ x
six_parts a b d e f x = sym (simp append_assoc)

-- the 36 bytes by the numbers that they spell
front_spelt : (bytes : List ℕ) → AreBytes bytes → 36 ≤ length bytes → word_at bytes 0 ≡ 0x4e4d4a31 → word_at bytes 4 ≡ 1
    → bytes ≡ front_bytes (fields_of (long_at bytes 8) (long_at bytes 16) (long_at bytes 24))
    ++ (to_be_bytes w32 (word_at bytes 32) ++ drop 36 bytes)
front_spelt bytes small le magic version =
    let a = to_be_bytes w32 0x4e4d4a31 in
    let b = to_be_bytes w32 1 in
    let d = to_be_bytes w64 (long_at bytes 8) in
    let e = to_be_bytes w64 (long_at bytes 16) in
    let f = to_be_bytes w64 (long_at bytes 24) in
    let g = to_be_bytes w32 (word_at bytes 32) in
    word_spelt bytes 0 small (omega (arith, le))
    ∙ ap (λ n. to_be_bytes w32 n ++ drop 4 bytes) magic
    ∙ ap (λ (x : List ℕ). a ++ x) (word_spelt bytes 4 small (omega (arith, le)) ∙ ap (λ n. to_be_bytes w32 n ++ drop 8 bytes) version)
    ∙ ap (λ (x : List ℕ). a ++ (b ++ x)) (long_spelt bytes 8 small (omega (arith, le)))
    ∙ ap (λ (x : List ℕ). a ++ (b ++ (d ++ x))) (long_spelt bytes 16 small (omega (arith, le)))
    ∙ ap (λ (x : List ℕ). a ++ (b ++ (d ++ (e ++ x)))) (long_spelt bytes 24 small (omega (arith, le)))
    ∙ ap (λ (x : List ℕ). a ++ (b ++ (d ++ (e ++ (f ++ x))))) (word_spelt bytes 32 small (omega (arith, le)))
    ∙ six_parts a b d e f (g ++ drop 36 bytes)

read_spelt : (bytes : List ℕ) (found : HeaderFields × List ℕ) → AreBytes bytes → Has bytes found
    → (bytes ≡ header_bytes found.0 ++ found.1) × IsHeader found.0
read_spelt bytes found small has =
    subst (λ (f : HeaderFields × List ℕ). (bytes ≡ header_bytes f.0 ++ f.1) × IsHeader f.0) has.is (
      spelt,
      record { salt = long_small bytes 8 small; store = long_small bytes 16 small; base = has.base; seed = has.seed },
    )
  where
    read : HeaderFields
    read = fields_of (long_at bytes 8) (long_at bytes 16) (long_at bytes 24)

    front : bytes ≡ front_bytes read ++ (to_be_bytes w32 (word_at bytes 32) ++ drop 36 bytes)
    front = front_spelt bytes small has.long has.magic has.version

    first : take 32 bytes ≡ front_bytes read
    first = ap (take 32) front

    spelt : bytes ≡ header_bytes read ++ drop 36 bytes
    spelt =
        front
        ∙ ap (λ n. front_bytes read ++ (to_be_bytes w32 n ++ drop 36 bytes)) (has.check ∙ ap (crc all_ones) first)
        ∙ sym (append_assoc (front_bytes read) (to_be_bytes w32 (crc all_ones (front_bytes read))) (drop 36 bytes))

    long_small : (bytes : List ℕ) (i : ℕ) → AreBytes bytes → long_at bytes i < 2 ^ 64
    long_small bytes i small =
        omega (arith, small i, small (i + 1), small (i + 2), small (i + 3), small (i + 4), small (i + 5), small (i + 6), small (i + 7))

pub a_header_is_spelt : AHeaderIsSpelt
a_header_is_spelt bytes rest h small e = read_spelt bytes (h, rest) small (has_of bytes (h, rest) e)

-- ---- a byte that changed

same_at : (before after : List ℕ) (x y i : ℕ) → i ≢ length before → get_or (before ++ x ∷ after) i 0 ≡ get_or (before ++ y ∷ after) i 0
same_at [] after x y zero other = absurd (other refl)
same_at [] after x y (suc i) other = refl
same_at (b ∷ before) after x y zero other = refl
same_at (b ∷ before) after x y (suc i) other = same_at before after x y i (λ e. other (ap suc e))

at_change : (before after : List ℕ) (x : ℕ) → get_or (before ++ x ∷ after) (length before) 0 ≡ x
at_change [] after x = refl
at_change (b ∷ before) after x = at_change before after x

module _ (before after : List ℕ) (x y : ℕ) (xl : x < 256) (yl : y < 256) where
  abbrev old : List ℕ
  old = before ++ x ∷ after

  abbrev new : List ℕ
  new = before ++ y ∷ after

  same : (i : ℕ) → i ≢ length before → get_or old i 0 ≡ get_or new i 0
  same = same_at before after x y

  -- in front of the check
  in_front : length before < 32 → word_at old 32 ≡ crc all_ones (take 32 old) → word_at new 32 ≡ crc all_ones (take 32 new) → x ≡ y
  in_front lt p q =
      let k = 31 - length before in
      let left : 32 - length before ≡ suc k = omega (arith, lt) in
      let cut : (z : ℕ) → take 32 (before ++ z ∷ after) ≡ before ++ z ∷ take k after =
      λ z. take_past before (z ∷ after) 32 (omega (arith, lt)) ∙ ap (λ n. before ++ take n (z ∷ after)) left in
      let words : word_at old 32 ≡ word_at new 32 =
      rw (
        same 32 (λ e. omega (arith, e, lt)),
        same 33 (λ e. omega (arith, e, lt)),
        same 34 (λ e. omega (arith, e, lt)),
        same 35 (λ e. omega (arith, e, lt)),
      ) refl in
      a_changed_byte_is_found all_ones before (take k after) x y (omega arith) xl yl
      (sym (ap (crc all_ones) (cut x)) ∙ sym p ∙ words ∙ q ∙ ap (crc all_ones) (cut y))

  -- at the place of the change, where it is the one that may differ
  here : (i : ℕ) → length before ≡ i → (((j : ℕ) → j ≢ i → get_or old j 0 ≡ get_or new j 0) → get_or old i 0 ≡ get_or new i 0)
      → get_or old (length before) 0 ≡ get_or new (length before) 0
  here i e alike =
      ap (λ n. get_or old n 0) e ∙ alike (λ j other. same j (λ h. other (h ∙ e))) ∙ sym (ap (λ n. get_or new n 0) e)

  -- in the check
  in_check : 32 ≤ length before → length before < 36 → word_at old 32 ≡ crc all_ones (take 32 old)
      → word_at new 32 ≡ crc all_ones (take 32 new)
      → x ≡ y
  in_check le lt p q =
      let fronts : take 32 old ≡ take 32 new = take-append-le 32 before (x ∷ after) le ∙ sym (take-append-le 32 before (y ∷ after) le) in
      let words : word_at old 32 ≡ word_at new 32 = p ∙ ap (crc all_ones) fronts ∙ sym q in
      sym (at_change before after x) ∙ by words ∙ at_change before after y
    where
      by : word_at old 32 ≡ word_at new 32 → get_or old (length before) 0 ≡ get_or new (length before) 0
      by words =
          elim (cases_lt (length before) 33) [
            | inl lt33 ↦ here 32 (omega (arith, le, lt33)) (λ ne.
                omega (arith, words, ne 33 (omega arith), ne 34 (omega arith), ne 35 (omega arith)))
            | inr ge33 ↦ elim (cases_lt (length before) 34) [
              | inl lt34 ↦ here 33 (omega (arith, ge33, lt34)) (λ ne.
                  omega (arith, words, ne 32 (omega arith), ne 34 (omega arith), ne 35 (omega arith)))
              | inr ge34 ↦ elim (cases_lt (length before) 35) [
                | inl lt35 ↦ here 34 (omega (arith, ge34, lt35)) (λ ne.
                    omega (arith, words, ne 32 (omega arith), ne 33 (omega arith), ne 35 (omega arith)))
                | inr ge35 ↦ here 35 (omega (arith, ge35, lt)) (λ ne.
                    omega (arith, words, ne 32 (omega arith), ne 33 (omega arith), ne 34 (omega arith)))
              ]
            ]
          ]

changed : (before after : List ℕ) (x y : ℕ) (found other : HeaderFields × List ℕ) → x < 256 → y < 256 → length before < 36
    → Has (before ++ x ∷ after) found → Has (before ++ y ∷ after) other → x ≡ y
changed before after x y found other xl yl short p q =
    elim (cases_lt (length before) 32) [
      | inl front ↦ in_front before after x y xl yl front p.check q.check
      | inr check ↦ in_check before after x y xl yl check short p.check q.check
    ]

pub a_header_is_guarded : AHeaderIsGuarded
a_header_is_guarded before after x y found xl yl differ short e = by (header_in (before ++ y ∷ after)) refl
  where
    by : (answer : Result (HeaderFields × List ℕ) HeaderFault) → header_in (before ++ y ∷ after) ≡ answer
        → IsErr (header_in (before ++ y ∷ after))
    by (Ok other) h =
        absurd (differ (changed before after x y found other xl yl short
        (has_of (before ++ x ∷ after) found e) (has_of (before ++ y ∷ after) other h)))
    by (Err fault) h = subst (λ (r : Answer). IsErr r) (sym h) refl

-- ---- a crash

pub a_journal_survives : AJournalSurvives
a_journal_survives h logged safe bytes is few are left = (
  a_header_reads_back h bytes is,
  a_crash_leaves_whole_frames (seed_of h.salt) (h.base + 1) logged safe bytes (seed_small h.salt) few are left,
)
