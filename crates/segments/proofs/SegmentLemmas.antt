-- Files, marks and names, taken one after the other, as loops do.
use Rattle.std.proofs.Common.{◌≡◌, ◌<◌, ◌≤◌, ℕ, ◌+◌, true, false, cond, eqb, ◌&&◌, Option, Some, None, Ok, Err, List, [], ◌∷◌, ◌++◌, length, map, get_or, drop, refl, sym, ap, ◌∙◌, append_assoc}
use Rattle.std.specs.Borrow.{Bor}
use Rattle.std.specs.Str.{bytes_eq}
use Rattle.std.proofs.lemmas.Bool.{le-leb, lt-leb}
use Rattle.std.proofs.lemmas.List.{append-nil, at_drop_more, drop_all}
use Rattle.manifest.specs.Manifest.{table_now}
use Rattle.manifest.specs.Reading.{◌>>=◌}
use Rattle.manifest.specs.declared.entries.FileMark.{FileMark}
use Rattle.manifest.specs.declared.entries.ManifestHead.{ManifestHead}
use Rattle.manifest.specs.declared.entries.TableEntry.{TableEntry}
use Rattle.segments.specs.Marks.{first_damaged, has_mark}
use Rattle.segments.specs.Naming.{place_from}
use Rattle.segments.specs.Pieces.{Piece, are_behind, frames_of, is_behind, last_len, piece_now, piece_of, pieces_of}
use Rattle.segments.specs.declared.fault.NameFault.TheVariants.{NoTable}
use Rattle.segments.specs.declared.pieces.Piece.{Piece as Lent}

-- ---- pieces

abbrev pub with_pieces : List Piece → Option (List Piece) → Option (List Piece)
with_pieces front read = read >>= λ ps. Some (front ++ ps)

regroup : (front : List Piece) (p : Piece) (read : Option (List Piece))
    → with_pieces front (read >>= λ ps. Some (p ∷ ps)) ≡ with_pieces (front ++ p ∷ []) read
regroup front p (Some ps) = ap (λ (x : List Piece). found x) (sym (append_assoc front (p ∷ []) ps))
  where
    found : List Piece → Option (List Piece)
    found x = Some x
regroup front p None = refl

module _ (head : ManifestHead) (files : List (Bor (List ℕ))) (i : ℕ) (front : List Piece)
    (so_far : with_pieces front (pieces_of head (map (λ f. f.now) (drop i files))) ≡ pieces_of head (map (λ f. f.now) files)) where
  at : (d : Bor (List ℕ)) → i < length files
      → pieces_of head (map (λ f. f.now) (drop i files))
      ≡ (piece_of head (get_or files i d).now >>= λ p. pieces_of head (map (λ f. f.now) (drop (i + 1) files)) >>= λ ps. Some (p ∷ ps))
  unfolding pieces_of
  at d lt = at_drop_more (λ fs. pieces_of head (map (λ f. f.now) fs)) files i d lt

  pub piece_more : (d : Bor (List ℕ)) (p : Piece) → i < length files → piece_of head (get_or files i d).now ≡ Some p
      → with_pieces (front ++ p ∷ []) (pieces_of head (map (λ f. f.now) (drop (i + 1) files))) ≡ pieces_of head (map (λ f. f.now) files)
  piece_more d p lt is =
      sym (regroup front p (pieces_of head (map (λ f. f.now) (drop (i + 1) files))))
      ∙ sym (ap (with_pieces front)
      (at d lt ∙ ap (λ o. o >>= λ p. pieces_of head (map (λ f. f.now) (drop (i + 1) files)) >>= λ ps. Some (p ∷ ps)) is))
      ∙ so_far

  pub piece_fails : (d : Bor (List ℕ)) → i < length files → piece_of head (get_or files i d).now ≡ None
      → pieces_of head (map (λ f. f.now) files) ≡ None
  piece_fails d lt is =
      sym so_far
      ∙ ap (with_pieces front)
      (at d lt ∙ ap (λ o. o >>= λ p. pieces_of head (map (λ f. f.now) (drop (i + 1) files)) >>= λ ps. Some (p ∷ ps)) is)

  pub pieces_done : length files ≤ i → pieces_of head (map (λ f. f.now) files) ≡ Some front
  unfolding pieces_of
  pieces_done le =
      sym so_far ∙ ap (λ fs. with_pieces front (pieces_of head (map (λ f. f.now) fs))) (drop_all i files le)
      ∙ ap (λ (ps : List Piece). found ps) (append-nil front)
    where
      found : List Piece → Option (List Piece)
      found x = Some x

module _ (pieces : List Lent) (i : ℕ) where
  pub frames_more : (d : Lent) → i < length pieces
      → frames_of (map piece_now (drop i pieces)) ≡ (get_or pieces i d).frames.now ++ frames_of (map piece_now (drop (i + 1) pieces))
  unfolding frames_of
  frames_more d lt = at_drop_more (λ ps. frames_of (map piece_now ps)) pieces i d lt

  pub frames_done : length pieces ≤ i → frames_of (map piece_now (drop i pieces)) ≡ []
  unfolding frames_of
  frames_done le = ap (λ ps. frames_of (map piece_now ps)) (drop_all i pieces le)

  pub last_more : (found : ℕ) (d : Lent) → i < length pieces
      → last_len found (map piece_now (drop i pieces))
      ≡ last_len (cond (eqb (length (get_or pieces i d).frames.now) 0) found (length (get_or pieces i d).frames.now))
      (map piece_now (drop (i + 1) pieces))
  unfolding last_len
  last_more found d lt = at_drop_more (λ ps. last_len found (map piece_now ps)) pieces i d lt

  pub last_done : (found : ℕ) → length pieces ≤ i → last_len found (map piece_now (drop i pieces)) ≡ found
  unfolding last_len
  last_done found le = ap (λ ps. last_len found (map piece_now ps)) (drop_all i pieces le)

  pub behind_more : (newest : ℕ) (d : Lent) → i < length pieces
      → are_behind newest (map piece_now (drop i pieces))
      ≡ (is_behind newest (get_or pieces i d).base && are_behind newest (map piece_now (drop (i + 1) pieces)))
  unfolding are_behind
  behind_more newest d lt = at_drop_more (λ ps. are_behind newest (map piece_now ps)) pieces i d lt

  pub behind_done : (newest : ℕ) → length pieces ≤ i → are_behind newest (map piece_now (drop i pieces)) ≡ true
  unfolding are_behind
  behind_done newest le = ap (λ ps. are_behind newest (map piece_now ps)) (drop_all i pieces le)

  pub frames_step : (front new total : List ℕ) (d : Lent) → i < length pieces → new ≡ front ++ (get_or pieces i d).frames.now
      → front ++ frames_of (map piece_now (drop i pieces)) ≡ total → new ++ frames_of (map piece_now (drop (i + 1) pieces)) ≡ total
  frames_step front new total d lt is so_far =
      ap (λ (r : List ℕ). r ++ frames_of (map piece_now (drop (i + 1) pieces))) is
      ∙ append_assoc front (get_or pieces i d).frames.now (frames_of (map piece_now (drop (i + 1) pieces)))
      ∙ sym (ap (λ (r : List ℕ). front ++ r) (frames_more d lt)) ∙ so_far

  pub last_kept : (found : ℕ) (d : Lent) → i < length pieces → eqb (length (get_or pieces i d).frames.now) 0 ≡ true
      → last_len found (map piece_now (drop i pieces)) ≡ last_len found (map piece_now (drop (i + 1) pieces))
  last_kept found d lt is =
      last_more found d lt
      ∙ ap (λ b. last_len (cond b found (length (get_or pieces i d).frames.now)) (map piece_now (drop (i + 1) pieces))) is

  pub last_found : (found : ℕ) (d : Lent) → i < length pieces → eqb (length (get_or pieces i d).frames.now) 0 ≡ false
      → last_len found (map piece_now (drop i pieces)) ≡ last_len (length (get_or pieces i d).frames.now) (map piece_now (drop (i + 1) pieces))
  last_found found d lt is =
      last_more found d lt
      ∙ ap (λ b. last_len (cond b found (length (get_or pieces i d).frames.now)) (map piece_now (drop (i + 1) pieces))) is

  pub behind_not : (newest base : ℕ) (d : Lent) → i < length pieces → (get_or pieces i d).base ≡ Some base → newest < base
      → are_behind newest (map piece_now (drop i pieces)) ≡ false
  behind_not newest base d lt is late =
      behind_more newest d lt
      ∙ ap (λ o. is_behind newest o && are_behind newest (map piece_now (drop (i + 1) pieces))) is
      ∙ ap (λ b. b && are_behind newest (map piece_now (drop (i + 1) pieces))) (lt-leb base newest late)

  pub behind_some : (newest base : ℕ) (d : Lent) → i < length pieces → (get_or pieces i d).base ≡ Some base → base ≤ newest
      → are_behind newest (map piece_now (drop i pieces)) ≡ are_behind newest (map piece_now (drop (i + 1) pieces))
  behind_some newest base d lt is le =
      behind_more newest d lt
      ∙ ap (λ o. is_behind newest o && are_behind newest (map piece_now (drop (i + 1) pieces))) is
      ∙ ap (λ b. b && are_behind newest (map piece_now (drop (i + 1) pieces))) (le-leb base newest le)

  pub behind_none : (newest : ℕ) (d : Lent) → i < length pieces → (get_or pieces i d).base ≡ None
      → are_behind newest (map piece_now (drop i pieces)) ≡ are_behind newest (map piece_now (drop (i + 1) pieces))
  behind_none newest d lt is =
      behind_more newest d lt ∙ ap (λ o. is_behind newest o && are_behind newest (map piece_now (drop (i + 1) pieces))) is

-- ---- marks

module _ (marks : List FileMark) (files : List (Bor (List ℕ))) (i : ℕ) where
  pub damaged_more : (d : FileMark) (e : Bor (List ℕ)) → i < length marks → i < length files
      → first_damaged i (drop i marks) (map (λ f. f.now) (drop i files))
      ≡ cond (has_mark (get_or marks i d) (get_or files i e).now)
      (first_damaged (i + 1) (drop (i + 1) marks) (map (λ f. f.now) (drop (i + 1) files))) (Some i)
  unfolding first_damaged
  damaged_more d e m f =
      at_drop_more (λ ms. first_damaged i ms (map (λ f. f.now) (drop i files))) marks i d m
      ∙ at_drop_more (λ fs. first_damaged i (get_or marks i d ∷ drop (i + 1) marks) (map (λ f. f.now) fs)) files i e f

  pub damaged_done : length marks ≤ i → length files ≤ i → first_damaged i (drop i marks) (map (λ f. f.now) (drop i files)) ≡ None
  unfolding first_damaged
  damaged_done m f =
      ap (λ ms. first_damaged i ms (map (λ f. f.now) (drop i files))) (drop_all i marks m)
      ∙ ap (λ fs. first_damaged i [] (map (λ f. f.now) fs)) (drop_all i files f)

  pub damaged_marks : (d : FileMark) → i < length marks → length files ≤ i
      → first_damaged i (drop i marks) (map (λ f. f.now) (drop i files)) ≡ Some i
  unfolding first_damaged
  damaged_marks d m f =
      at_drop_more (λ ms. first_damaged i ms (map (λ f. f.now) (drop i files))) marks i d m
      ∙ ap (λ fs. first_damaged i (get_or marks i d ∷ drop (i + 1) marks) (map (λ f. f.now) fs)) (drop_all i files f)

  pub damaged_files : (e : Bor (List ℕ)) → length marks ≤ i → i < length files
      → first_damaged i (drop i marks) (map (λ f. f.now) (drop i files)) ≡ Some i
  unfolding first_damaged
  damaged_files e m f =
      ap (λ ms. first_damaged i ms (map (λ f. f.now) (drop i files))) (drop_all i marks m)
      ∙ at_drop_more (λ fs. first_damaged i [] (map (λ f. f.now) fs)) files i e f

module _ (marks : List FileMark) (files : List (Bor (List ℕ))) (i : ℕ) (d : FileMark) (e : Bor (List ℕ)) where
  pub damaged_bad : i < length marks → i < length files → has_mark (get_or marks i d) (get_or files i e).now ≡ false
      → first_damaged i (drop i marks) (map (λ f. f.now) (drop i files)) ≡ Some i
  damaged_bad m f is =
      damaged_more marks files i d e m f
      ∙ ap (λ b. cond b (first_damaged (i + 1) (drop (i + 1) marks) (map (λ f. f.now) (drop (i + 1) files))) (Some i)) is

  pub damaged_good : i < length marks → i < length files → has_mark (get_or marks i d) (get_or files i e).now ≡ true
      → first_damaged i (drop i marks) (map (λ f. f.now) (drop i files))
      ≡ first_damaged (i + 1) (drop (i + 1) marks) (map (λ f. f.now) (drop (i + 1) files))
  damaged_good m f is =
      damaged_more marks files i d e m f
      ∙ ap (λ b. cond b (first_damaged (i + 1) (drop (i + 1) marks) (map (λ f. f.now) (drop (i + 1) files))) (Some i)) is

-- ---- names

module _ (name : List ℕ) (tables : List TableEntry) (i : ℕ) where
  pub place_more : (d : TableEntry) → i < length tables
      → place_from i name (map table_now (drop i tables))
      ≡ cond (bytes_eq (get_or tables i d).line.name.now name) (Ok i) (place_from (i + 1) name (map table_now (drop (i + 1) tables)))
  unfolding place_from
  place_more d lt = at_drop_more (λ ts. place_from i name (map table_now ts)) tables i d lt

  pub place_done : length tables ≤ i → place_from i name (map table_now (drop i tables)) ≡ Err NoTable
  unfolding place_from
  place_done le = ap (λ ts. place_from i name (map table_now ts)) (drop_all i tables le)

  pub place_here : (d : TableEntry) → i < length tables → bytes_eq (get_or tables i d).line.name.now name ≡ true
      → place_from i name (map table_now (drop i tables)) ≡ Ok i
  place_here d lt is =
      place_more d lt ∙ ap (λ b. cond b (Ok i) (place_from (i + 1) name (map table_now (drop (i + 1) tables)))) is

  pub place_later : (d : TableEntry) → i < length tables → bytes_eq (get_or tables i d).line.name.now name ≡ false
      → place_from i name (map table_now (drop i tables)) ≡ place_from (i + 1) name (map table_now (drop (i + 1) tables))
  place_later d lt is =
      place_more d lt ∙ ap (λ b. cond b (Ok i) (place_from (i + 1) name (map table_now (drop (i + 1) tables)))) is
