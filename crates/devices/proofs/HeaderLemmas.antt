-- A header after whole frames: the image of an earlier store stays, and an image may follow.
use Rattle.std.proofs.Common.{◌≡◌, ℕ, suc, ◌==◌, Some, List, [], ◌∷◌, ◌++◌, length, cond, Result, Ok, Err, refl, sym, ap, subst, ◌∙◌}
use Rattle.std.proofs.lemmas.Bool.{eq-eqb}
use Rattle.std.proofs.lemmas.List.{append-nil}
use Rattle.std.proofs.lemmas.Slice.Zip.{AllZip-long}
use Rattle.values.specs.Shape.{Columns}
use Rattle.values.specs.declared.value.ColumnType.{ColumnType}
use Rattle.frames.specs.Bytes.{type_byte}
use Rattle.frames.specs.declared.fault.ReadFault.{ReadFault}
use Rattle.frames.specs.declared.fault.ReadFault.TheVariants.{WrongCount}
use Rattle.frames.specs.declared.frame.Format.TheVariants.{Second}
use Rattle.frames.specs.declared.frame.Frame.{Frame}
use Rattle.frames.specs.declared.frame.Frame.TheVariants.{Header}
use Rattle.frames.specs.declared.frame.Part.{Part}
use Rattle.frames.specs.declared.seam.Seam.{Seam}
use Rattle.frames.specs.Column.{IsColumn, frame_bytes, start}
use Rattle.frames.specs.Reading.{◌>>=◌, AreWanted, frames_of, parts_after, parts_of}
use Rattle.devices.specs.Image.{headers_of}
use Rattle.devices.specs.Ready.{AreBelow, AreReady, AreWhole, IsReadyColumn, IsWholeColumn}
use Rattle.devices.specs.Store.{appended}
use Rattle.devices.specs.Stored.{all_parts, image_at, newest_whole, stored_image}
use Rattle.devices.proofs.FramesLemmas.{AreWanted-append, column_after, parts_again, parts_of-append, seam_after_all-append}

module _ (next : ℕ) (ty : ColumnType) (old : List ℕ) (whole : IsWholeColumn next ty old) where
  abbrev header : Frame
  header = Header (record { format = Second; ty = ty })

  abbrev before : List Frame
  before = whole.frames

  column : IsColumn (old ++ frame_bytes header) (before ++ header ∷ []) []
  column = column_after old before (header ∷ []) [] whole.column (tt, tt) refl

  wanted : AreWanted (Some ty) (before ++ header ∷ [])
  wanted = AreWanted-append (Some ty) before (header ∷ []) whole.typed (eq-eqb (type_byte ty) (type_byte ty) refl, tt)

  same_parts : parts_of (before ++ header ∷ []) ≡ parts_of before
  same_parts = parts_of-append before (header ∷ []) ∙ append-nil (parts_of before)

  ready_header : IsReadyColumn next ty (old ++ frame_bytes header)
  ready_header = record {
    whole =
        record {
          frames = before ++ header ∷ [];
          column = column;
          typed = wanted;
          below = subst (AreBelow next) (sym same_parts) whole.below;
        };
    kind = ap (λ (s : Seam). s.kind) (seam_after_all-append start before (header ∷ []));
  }

  same_reading : (col : ℕ)
      → parts_after [] (frames_of col (Some ty) (old ++ frame_bytes header)) ≡ parts_after [] (frames_of col (Some ty) old)
  same_reading col =
      parts_again ty (old ++ frame_bytes header) (before ++ header ∷ []) [] column wanted col
      ∙ ap (λ ps. Ok ps) same_parts ∙ sym (parts_again ty old before [] whole.column whole.typed col)

-- ---- columns side by side

pub ready_headers : (next : ℕ) (types : List ColumnType) (olds : List (List ℕ)) → AreWhole next types olds
    → AreReady next types (appended olds (headers_of types))
ready_headers next [] [] whole = tt
ready_headers next [] (o ∷ olds) whole = absurd whole
ready_headers next (ty ∷ types) [] whole = absurd whole
ready_headers next (ty ∷ types) (o ∷ olds) whole = (ready_header next ty o whole.0, ready_headers next types olds whole.1)

all_parts-headers : (next col : ℕ) (types : List ColumnType) (olds : List (List ℕ)) → AreWhole next types olds
    → all_parts col types (appended olds (headers_of types)) ≡ all_parts col types olds
all_parts-headers next col [] [] whole = refl
all_parts-headers next col [] (o ∷ olds) whole = absurd whole
all_parts-headers next col (ty ∷ types) [] whole = absurd whole
all_parts-headers next col (ty ∷ types) (o ∷ olds) whole =
    ap
    (λ (r : Result (List Part) ReadFault). r >>= λ ps. (all_parts (suc col) types (appended olds (headers_of types)) >>= λ os. Ok (ps ∷ os)))
    (same_reading next ty o whole.0 col)
    ∙ ap
    (λ (r : Result (List (List Part)) ReadFault). parts_after [] (frames_of col (Some ty) o) >>= λ ps. (r >>= λ os. Ok (ps ∷ os)))
    (all_parts-headers next (suc col) types olds whole.1)

pub stored_image-headers : (next : ℕ) (schema : Columns) (olds : List (List ℕ)) → AreWhole next schema.types olds
    → stored_image schema (appended olds (headers_of schema.types)) ≡ stored_image schema olds
stored_image-headers next schema olds whole =
    let news = appended olds (headers_of schema.types) in
    let even : length news ≡ length olds =
    AllZip-long (IsReadyColumn next) schema.types news (ready_headers next schema.types olds whole)
    ∙ sym (AllZip-long (IsWholeColumn next) schema.types olds whole) in
    ap (λ n. cond (n == length schema.types) (all_parts 0 schema.types news >>= λ ps. image_at schema ps (newest_whole ps))
    (Err WrongCount)) even
    ∙ ap
    (λ (r : Result (List (List Part)) ReadFault). cond (length olds == length schema.types) (r >>= λ ps. image_at schema ps (newest_whole ps)) (Err WrongCount))
    (all_parts-headers next 0 schema.types olds whole)

-- ---- devices that took the headers

module _ (next : ℕ) (schema : Columns) (olds news : List (List ℕ)) (whole : AreWhole next schema.types olds)
    (took : news ≡ appended olds (headers_of schema.types)) where
  pub stored_still : stored_image schema news ≡ stored_image schema olds
  stored_still = ap (stored_image schema) took ∙ stored_image-headers next schema olds whole

  pub ready_first : AreReady next schema.types news
  ready_first = subst (AreReady next schema.types) (sym took) (ready_headers next schema.types olds whole)
