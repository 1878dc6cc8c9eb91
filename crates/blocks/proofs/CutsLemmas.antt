-- Texts in one buffer are what lies between their ends, and each ends at a character boundary.
use Rattle.std.proofs.Common.{◌≡◌, ℕ, zero, suc, ◌+◌, ◌-◌, ◌*◌, ◌<◌, ◌≤◌, List, [], ◌∷◌, ◌++◌, length, get_or, take, drop, map, slice_get, Some, IsUtf8, IsCharBoundary, append_assoc, refl, sym, ap, subst, ◌∙◌, arith}
use Rattle.std.specs.List.{All, AllByRecursion}
use Rattle.std.proofs.lemmas.List.{append-nil, length-append, take_at, drop_at}
use Rattle.std.proofs.lemmas.Grind.{flat_map-append}
use Rattle.std.proofs.lemmas.List.Elements.{All-nil}
use Rattle.std.proofs.lemmas.Option.{slice_get-get_or}
use Rattle.std.proofs.Math.Seq.{take-add}
use Rattle.std.proofs.lemmas.Str.{IsUtf8-nil, IsUtf8-append, IsCharBoundary-at_seam}
use Rattle.values.specs.declared.limits.TheConstants.{MAX_TEXT_BYTES, MAX_BLOCK_VALUES}
use Rattle.blocks.specs.Cuts.{joined, ends_of, cut, IsText, IsCut}
use Rattle.blocks.proofs.RunLemmas.{all_append, all_take, all_drop}
use Rattle.std.proofs.lemmas.Grind.{common_steps}

-- ---- lengths

pub length-cut : (start : ℕ) (ends bytes : List ℕ) → length (cut start ends bytes) ≡ length ends
length-cut start [] bytes = refl
length-cut start (end ∷ ends) bytes = ap suc (length-cut end ends bytes)

length-ends_of : (start : ℕ) (ts : List (List ℕ)) → length (ends_of start ts) ≡ length ts
length-ends_of start [] = refl
length-ends_of start (t ∷ ts) = ap suc (length-ends_of (start + length t) ts)

-- texts of at most 4,096 bytes have so many together
pub joined-short : (ts : List (List ℕ)) → AllByRecursion IsText ts → length (joined ts) ≤ MAX_TEXT_BYTES * length ts
joined-short [] fit = omega arith
joined-short (t ∷ ts) fit = omega (arith, length-append t (joined ts), fit.0.short, joined-short ts fit.1)

-- ---- the texts between the ends of texts

cut_after : (ts : List (List ℕ)) (front bytes : List ℕ) (start : ℕ) → length front ≡ start → bytes ≡ front ++ joined ts
    → cut start (ends_of start ts) bytes ≡ ts
cut_after [] front bytes start counted spelt = refl
cut_after (t ∷ ts) front bytes start counted spelt = grind (arith, common_steps, cut_after ts (front ++ t) bytes (start + length t) (length-append front t ∙ ap (λ n. n + length t) counted) (spelt ∙ sym (append_assoc front t (joined ts))), drop_at, take_at, length-append, append_assoc)

pub cut-ends_of : (ts : List (List ℕ)) → cut 0 (ends_of 0 ts) (joined ts) ≡ ts
cut-ends_of ts = cut_after ts [] (joined ts) 0 refl refl

-- ---- texts more

ends_of-append : (start : ℕ) (ts us : List (List ℕ))
    → ends_of start (ts ++ us) ≡ ends_of start ts ++ ends_of (start + length (joined ts)) us
ends_of-append start [] us =
    let e : start ≡ start + 0 = omega arith in
    ap (λ n. ends_of n us) e
ends_of-append start (t ∷ ts) us = grind (arith, common_steps, ends_of-append (start + length t) ts us, length-append)

-- the ends and the buffer with texts more
pub record Longer (ends bytes longer whole : List ℕ) (run : List (List ℕ)) : Type 0 where
  pub keeps : IsCut longer whole
  pub shows : cut 0 longer whole ≡ cut 0 ends bytes ++ run

pub push_texts : (ends bytes longer whole : List ℕ) (run : List (List ℕ)) → longer ≡ ends ++ ends_of (length bytes) run
    → whole ≡ bytes ++ joined run
    → IsCut ends bytes → length (cut 0 ends bytes) + length run ≤ MAX_BLOCK_VALUES → AllByRecursion IsText run
    → Longer ends bytes longer whole run
push_texts ends bytes longer whole run longer-is whole-is kept few fit =
    let ts = cut 0 ends bytes in
    let end : 0 + length (joined ts) ≡ length bytes = omega (arith, ap length kept.whole) in
    let ends-are : longer ≡ ends_of 0 (ts ++ run) =
    longer-is
    ∙ sym (ends_of-append 0 ts run
    ∙ ap (λ n. ends_of 0 ts ++ ends_of n run) end
    ∙ ap (λ es. es ++ ends_of (length bytes) run) (sym kept.ended)) in
    let bytes-are : whole ≡ joined (ts ++ run) =
    whole-is ∙ ap (λ bs. bs ++ joined run) kept.whole ∙ sym (flat_map-append (λ t. t) ts run) in
    let shows : cut 0 longer whole ≡ ts ++ run =
    ap (λ es. cut 0 es whole) ends-are ∙ ap (cut 0 (ends_of 0 (ts ++ run))) bytes-are ∙ cut-ends_of (ts ++ run) in
    record {
      keeps = record {
        whole = bytes-are ∙ ap joined (sym shows);
        ended = ends-are ∙ ap (ends_of 0) (sym shows);
        texts = subst (AllByRecursion IsText) (sym shows) (all_append IsText ts run kept.texts fit);
        few =
            omega (
              arith,
              ap length longer-is,
              length-append ends (ends_of (length bytes) run),
              length-ends_of (length bytes) run,
              length-cut 0 ends bytes,
              few,
            );
      };
      shows = shows;
    }

-- one text
pub push_text : (ends bytes t : List ℕ) → IsCut ends bytes → length (cut 0 ends bytes) < MAX_BLOCK_VALUES → IsText t
    → Longer ends bytes (ends ++ length (bytes ++ t) ∷ []) (bytes ++ t) (t ∷ [])
push_text ends bytes t kept few one =
    push_texts ends bytes (ends ++ length (bytes ++ t) ∷ []) (bytes ++ t) (t ∷ [])
    (ap (λ n. ends ++ n ∷ []) (length-append bytes t)) (ap (λ bs. bytes ++ bs) (sym (append-nil t))) kept (omega (arith, few))
    (one, tt)

-- the end of a text that is pushed fits 32 bits
pub end_fits : (ends bytes t : List ℕ) → IsCut ends bytes → length t ≤ MAX_TEXT_BYTES → length (bytes ++ t) < 4294967296
end_fits ends bytes t kept short = grind (arith, common_steps, length-append, joined-short, length-cut)

-- ---- one text of them

-- the text at a place lies between two ends
cut-at : (start : ℕ) (ends bytes : List ℕ) (i : ℕ) → i < length ends
    → get_or (cut start ends bytes) i []
    ≡ take (get_or ends i 0 - get_or (start ∷ ends) i 0) (drop (get_or (start ∷ ends) i 0) bytes)
cut-at start [] bytes i lt = absurd (omega arith)
cut-at start (end ∷ ends) bytes zero lt = refl
cut-at start (end ∷ ends) bytes (suc i) lt = cut-at end ends bytes i (omega arith)

-- where a text begins: after all texts before it
begin_at : (ts : List (List ℕ)) (start i : ℕ) → i ≤ length ts → get_or (start ∷ ends_of start ts) i 0 ≡ start + length (joined (take i ts))
begin_at ts start zero le = omega arith
begin_at [] start (suc i) le = absurd (omega arith)
begin_at (t ∷ ts) start (suc i) le = omega (arith, begin_at ts (start + length t) i (omega arith), length-append t (joined (take i ts)))

IsUtf8-joined : (ts : List (List ℕ)) → AllByRecursion IsText ts → IsUtf8 (joined ts)
IsUtf8-joined [] fit = IsUtf8-nil
IsUtf8-joined (t ∷ ts) fit = IsUtf8-append t (joined ts) fit.0.utf8 (IsUtf8-joined ts fit.1)

joined-split : (i : ℕ) (ts : List (List ℕ)) → joined ts ≡ joined (take i ts) ++ joined (drop i ts)
joined-split zero ts = refl
joined-split (suc i) [] = refl
joined-split (suc i) (t ∷ ts) =
    ap (λ bytes. t ++ bytes) (joined-split i ts) ∙ sym (append_assoc t (joined (take i ts)) (joined (drop i ts)))

-- each beginning is a character boundary
boundary : (ends bytes : List ℕ) (i : ℕ) → IsCut ends bytes → i ≤ length ends → IsCharBoundary bytes (get_or (0 ∷ ends) i 0)
boundary ends bytes i kept le =
    let ts = cut 0 ends bytes in
    let at : get_or (0 ∷ ends_of 0 ts) i 0 ≡ 0 + length (joined (take i ts)) = begin_at ts 0 i (omega (arith, length-cut 0 ends bytes)) in
    let place : length (joined (take i ts)) ≡ get_or (0 ∷ ends) i 0 = omega (arith, at, ap (λ es. get_or (0 ∷ es) i 0) kept.ended) in
    subst (IsCharBoundary bytes) place
    (IsCharBoundary-at_seam bytes (joined (take i ts)) (joined (drop i ts)) (kept.whole ∙ joined-split i ts)
    (IsUtf8-joined (drop i ts) (all_drop IsText i ts kept.texts)))

-- no beginning lies past the last byte
pub begin_within : (ends bytes : List ℕ) (i : ℕ) → IsCut ends bytes → i ≤ length ends → get_or (0 ∷ ends) i 0 ≤ length bytes
begin_within ends bytes i kept le =
    let ts = cut 0 ends bytes in
    let at = begin_at ts 0 i (omega (arith, length-cut 0 ends bytes)) in
    omega (
      arith,
      at,
      ap (λ es. get_or (0 ∷ es) i 0) kept.ended,
      ap length kept.whole,
      ap length (joined-split i ts),
      length-append (joined (take i ts)) (joined (drop i ts)),
    )

joined-grows : (ts : List (List ℕ)) (i : ℕ) → length (joined (take i ts)) ≤ length (joined (take (suc i) ts))
joined-grows [] zero = omega arith
joined-grows [] (suc i) = omega arith
joined-grows (t ∷ ts) zero = omega arith
joined-grows (t ∷ ts) (suc i) =
    omega (arith, length-append t (joined (take i ts)), length-append t (joined (take (suc i) ts)), joined-grows ts i)

fit_at : (ts : List (List ℕ)) (i : ℕ) → AllByRecursion IsText ts → i < length ts → IsText (get_or ts i [])
fit_at [] i fit lt = absurd (omega arith)
fit_at (t ∷ ts) zero fit lt = fit.0
fit_at (t ∷ ts) (suc i) fit lt = fit_at ts i fit.1 (omega arith)

-- where the text at a place begins and ends, and that it lies there
pub record Lies (ends bytes : List ℕ) (i start end : ℕ) : Type 0 where
  pub ordered : start ≤ end
  pub begins : IsCharBoundary bytes start
  pub stops : IsCharBoundary bytes end
  pub text : slice_get (cut 0 ends bytes) i ≡ Some (take (end - start) (drop start bytes))
  pub short : length (take (end - start) (drop start bytes)) ≤ MAX_TEXT_BYTES

pub lies : (ends bytes : List ℕ) (i start end : ℕ) → IsCut ends bytes → i < length ends → start ≡ get_or (0 ∷ ends) i 0
    → end ≡ get_or (0 ∷ ends) (i + 1) 0 → Lies ends bytes i start end
lies ends bytes i start end kept lt start-is stop-is =
    let more : i + 1 ≡ suc i = omega arith in
    let end-is : end ≡ get_or ends i 0 = stop-is ∙ ap (λ k. get_or (0 ∷ ends) k 0) more in
    let ts = cut 0 ends bytes in
    let here : get_or (0 ∷ ends_of 0 ts) i 0 ≡ 0 + length (joined (take i ts)) = begin_at ts 0 i (omega (arith, length-cut 0 ends bytes)) in
    let text-is : get_or ts i [] ≡ take (end - start) (drop start bytes) = cut-at 0 ends bytes i lt ∙ rw (sym start-is, sym end-is) refl in
    let next : get_or (ends_of 0 ts) i 0 ≡ 0 + length (joined (take (suc i) ts)) =
    begin_at ts 0 (suc i) (omega (arith, length-cut 0 ends bytes)) in
    record {
      ordered =
          omega (
            arith,
            here,
            next,
            start-is,
            end-is,
            ap (λ es. get_or (0 ∷ es) i 0) kept.ended,
            ap (λ es. get_or es i 0) kept.ended,
            joined-grows ts i,
          );
      begins = subst (IsCharBoundary bytes) (sym start-is) (boundary ends bytes i kept (omega arith));
      stops = subst (IsCharBoundary bytes) (sym end-is) (boundary ends bytes (suc i) kept (omega arith));
      text = slice_get-get_or ts i [] (omega (arith, length-cut 0 ends bytes)) ∙ ap (λ t. Some t) text-is;
      short = omega (arith, ap length text-is, (fit_at ts i kept.texts (omega (arith, length-cut 0 ends bytes))).short);
    }

-- all texts have at most so many bytes
pub buffer-short : (ends bytes : List ℕ) → IsCut ends bytes → length bytes ≤ MAX_TEXT_BYTES * MAX_BLOCK_VALUES
buffer-short ends bytes kept =
    omega (arith, ap length kept.whole, joined-short (cut 0 ends bytes) kept.texts, length-cut 0 ends bytes, kept.few)

-- ---- a run of the texts of others

-- ends behind one place as ends behind another
pub ends_moved : (from to at : ℕ) (ts : List (List ℕ)) → from ≤ at
    → map (λ end. to + (end - from)) (ends_of at ts) ≡ ends_of (to + (at - from)) ts
ends_moved from to at [] le = refl
ends_moved from to at (t ∷ ts) le = grind (arith, common_steps, ends_moved from to (at + length t) ts (omega (arith, le)))

-- and each of them is small
pub ends_small : (from to at : ℕ) (ts : List (List ℕ)) → from ≤ at → to + (at - from) + length (joined ts) < 4294967296
    → All (λ end. (from ≤ end) × (to + (end - from) < 4294967296)) (ends_of at ts)
ends_small from to at [] le lt = All-nil (λ end. (from ≤ end) × (to + (end - from) < 4294967296))
ends_small from to at (t ∷ ts) le lt = grind (arith, common_steps, ends_small from to (at + length t) ts (omega (arith, le)) (omega (arith, le, lt, length-append t (joined ts))), length-append)

ends_of-drop : (i start : ℕ) (ts : List (List ℕ)) → drop i (ends_of start ts) ≡ ends_of (start + length (joined (take i ts))) (drop i ts)
ends_of-drop zero start ts =
    let e : start ≡ start + 0 = omega arith in
    ap (λ n. ends_of n ts) e
ends_of-drop (suc i) start [] = refl
ends_of-drop (suc i) start (t ∷ ts) = grind (arith, common_steps, ends_of-drop i (start + length t) ts, length-append)

ends_of-take : (i start : ℕ) (ts : List (List ℕ)) → take i (ends_of start ts) ≡ ends_of start (take i ts)
ends_of-take zero start ts = refl
ends_of-take (suc i) start [] = refl
ends_of-take (suc i) start (t ∷ ts) = ap (λ ends. (start + length t) ∷ ends) (ends_of-take i (start + length t) ts)

-- where a run of the texts begins and ends, and that it lies there
pub record RunLies (ends bytes : List ℕ) (start count from to : ℕ) (run : List (List ℕ)) : Type 0 where
  pub ordered : from ≤ to
  pub begins : IsCharBoundary bytes from
  pub stops : IsCharBoundary bytes to
  pub text : take (to - from) (drop from bytes) ≡ joined run
  pub ended : take count (drop start ends) ≡ ends_of from run
  pub fit : AllByRecursion IsText run
  pub within : length (joined run) ≤ length bytes

pub run_lies : (ends bytes : List ℕ) (start count from to : ℕ) → IsCut ends bytes → start + count ≤ length ends
    → from ≡ get_or (0 ∷ ends) start 0 → to ≡ get_or (0 ∷ ends) (start + count) 0
    → RunLies ends bytes start count from to (take count (drop start (cut 0 ends bytes)))
run_lies ends bytes start count from to kept le from-is to-is =
    let ts = cut 0 ends bytes in
    let run = take count (drop start ts) in
    let front = joined (take start ts) in
    let rest = joined (drop count (drop start ts)) in
    let here : get_or (0 ∷ ends_of 0 ts) start 0 ≡ 0 + length front = begin_at ts 0 start (omega (arith, le, length-cut 0 ends bytes)) in
    let next : get_or (0 ∷ ends_of 0 ts) (start + count) 0 ≡ 0 + length (joined (take (start + count) ts)) =
    begin_at ts 0 (start + count) (omega (arith, le, length-cut 0 ends bytes)) in
    let from-at : length front ≡ from = omega (arith, here, from-is, ap (λ es. get_or (0 ∷ es) start 0) kept.ended) in
    let both : joined (take (start + count) ts) ≡ front ++ joined run =
    ap joined (take-add start count ts) ∙ flat_map-append (λ t. t) (take start ts) run in
    let to-at : to ≡ from + length (joined run) =
    omega (
      arith,
      next,
      to-is,
      ap (λ es. get_or (0 ∷ es) (start + count) 0) kept.ended,
      ap length both,
      length-append front (joined run),
      from-at,
    ) in
    let spelt : bytes ≡ front ++ (joined run ++ rest) =
    kept.whole ∙ joined-split start ts ∙ ap (λ bs. front ++ bs) (joined-split count (drop start ts)) in
    let behind : drop from bytes ≡ joined run ++ rest = ap (drop from) spelt ∙ drop_at front (joined run ++ rest) from from-at in
    record {
      ordered = omega (arith, to-at);
      begins = subst (IsCharBoundary bytes) (sym from-is) (boundary ends bytes start kept (omega (arith, le)));
      stops = subst (IsCharBoundary bytes) (sym to-is) (boundary ends bytes (start + count) kept le);
      text = ap (take (to - from)) behind ∙ take_at (joined run) rest (to - from) (omega (arith, to-at));
      ended =
          ap (λ es. take count (drop start es)) kept.ended
          ∙ ap (take count) (ends_of-drop start 0 ts)
          ∙ ends_of-take count (0 + length front) (drop start ts)
          ∙ ap (λ n. ends_of n run) (omega (arith, from-at));
      fit = all_take IsText count (drop start ts) (all_drop IsText start ts kept.texts);
      within = omega (arith, ap length spelt, length-append front (joined run ++ rest), length-append (joined run) rest);
    }

-- the texts with the run more
pub push_lying : (ends bytes others text more longer whole : List ℕ) (start count from to before : ℕ) (run : List (List ℕ))
    → IsCut ends bytes → RunLies others text start count from to run → length (cut 0 ends bytes) + length run ≤ MAX_BLOCK_VALUES
    → before ≡ length bytes → more ≡ take count (drop start others) → longer ≡ ends ++ map (λ end. before + (end - from)) more
    → whole ≡ bytes ++ take (to - from) (drop from text) → Longer ends bytes longer whole run
push_lying ends bytes others text more longer whole start count from to before run kept lies few before-is more-is longer-is whole-is =
    let moved : map (λ end. before + (end - from)) more ≡ ends_of (length bytes) run =
    ap (map (λ end. before + (end - from))) (more-is ∙ lies.ended)
    ∙ ends_moved from before from run (omega arith)
    ∙ ap (λ n. ends_of n run) (omega (arith, before-is)) in
    push_texts ends bytes longer whole run (longer-is ∙ ap (λ es. ends ++ es) moved) (whole-is ∙ ap (λ bs. bytes ++ bs) lies.text)
    kept few lies.fit
