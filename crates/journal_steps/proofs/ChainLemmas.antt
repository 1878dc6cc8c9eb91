-- Frames in turn, and files in turn.
use Rattle.std.proofs.Common.{◌≡◌, ◌≤◌, ◌<◌, ◌^◌, ℕ, suc, ◌+◌, ◌-◌, Option, Some, List, [], ◌∷◌, ◌++◌, length, take, drop, refl, sym, ap, subst, ◌∙◌, append_assoc, arith}
use Rattle.std.proofs.lemmas.Grind.{flat_map-append}
use Rattle.std.proofs.lemmas.List.{append-nil, length-append, take-append-drop, take-take}
use Rattle.disk.specs.Disk.{Disk, File, MayName}
use Rattle.journal.specs.Frame.{AreLogged, Logged, frame_bytes, journal_bytes}
use Rattle.journal.specs.Header.{header_bytes, seed_of}
use Rattle.journal_steps.specs.Batch.{HaveSizes, framed}
use Rattle.journal_steps.specs.Progress.{header_from}
use Rattle.journal_steps.specs.World.{Segment, frames_in, journal_name}
use Rattle.journal_steps.specs.Sound.{AreClosed, AreNumbered, file_bytes, frames_end}

-- ---- frames

-- frames and more of them are in turn; more commits may be durable by then
pub numbered_more : (next old durable : ℕ) (ls ms : List Logged) → old ≤ durable → AreNumbered next old ls
    → AreNumbered (next + length ls) durable ms → AreNumbered next durable (ls ++ ms)
numbered_more next old durable [] ms le a b = subst (λ n. AreNumbered n durable ms) (let e : next + 0 ≡ next = omega arith in e) b
numbered_more next old durable (l ∷ ls) ms le a b = (
  a.0,
  a.1,
  (let e : l.synced ≤ durable = omega (arith, le, a.2) in e),
  a.3,
  numbered_more (next + 1) old durable ls ms le a.4
      (subst (λ n. AreNumbered n durable ms) (let e : next + suc (length ls) ≡ (next + 1) + length ls = omega arith in e) b),
)

pub numbered_later : (next old durable : ℕ) (ls : List Logged) → old ≤ durable → AreNumbered next old ls → AreNumbered next durable ls
numbered_later next old durable [] le a = tt
numbered_later next old durable (l ∷ ls) le a =
    (a.0, a.1, (let e : l.synced ≤ durable = omega (arith, le, a.2) in e), a.3, numbered_later (next + 1) old durable ls le a.4)

-- the frames behind the first ones
pub numbered_behind : (next durable : ℕ) (ls ms : List Logged) → AreNumbered next durable (ls ++ ms)
    → AreNumbered (next + length ls) durable ms
numbered_behind next durable [] ms a = subst (λ n. AreNumbered n durable ms) (let e : next ≡ next + 0 = omega arith in e) a
numbered_behind next durable (l ∷ ls) ms a =
    subst (λ n. AreNumbered n durable ms) (let e : (next + 1) + length ls ≡ next + suc (length ls) = omega arith in e)
    (numbered_behind (next + 1) durable ls ms a.4)

pub framed_numbered : (next durable : ℕ) (ps : List (List ℕ)) → durable < next → HaveSizes ps
    → AreNumbered next durable (framed next durable ps)
framed_numbered next durable [] lt all = tt
framed_numbered next durable (p ∷ ps) lt all =
    (refl, lt, (let e : durable ≤ durable = omega arith in e), all.0, framed_numbered (next + 1) durable ps (omega (arith, lt)) all.1)

pub length-framed : (next durable : ℕ) (ps : List (List ℕ)) → length (framed next durable ps) ≡ length ps
length-framed next durable [] = refl
length-framed next durable (p ∷ ps) = ap suc (length-framed (next + 1) durable ps)

pub logged_of_numbered : (next durable : ℕ) (ls : List Logged) → next + length ls ≤ 2 ^ 63 → AreNumbered next durable ls → AreLogged next ls
logged_of_numbered next durable [] few are = tt
logged_of_numbered next durable (l ∷ ls) few are = (
  are.0,
  record { number = omega (arith, few, are.0); synced = omega (arith, few, are.1); size = are.3 },
  logged_of_numbered (next + 1) durable ls (omega (arith, few)) are.4,
)

pub frames_more : (ss : List Segment) (s : Segment) → frames_in (ss ++ s ∷ []) ≡ frames_in ss ++ s.logged
frames_more [] s = append-nil s.logged
frames_more (t ∷ ss) s =
    ap (λ (ls : List Logged). t.logged ++ ls) (frames_more ss s) ∙ sym (append_assoc t.logged (frames_in ss) s.logged)

pub journal-append : (seed : ℕ) (ls ms : List Logged) → journal_bytes seed (ls ++ ms) ≡ journal_bytes seed ls ++ journal_bytes seed ms
journal-append seed ls ms = flat_map-append (frame_bytes seed) ls ms

-- so many frames have no more bytes than all
pub length-journal-take : (seed k : ℕ) (ls : List Logged) → length (journal_bytes seed (take k ls)) ≤ length (journal_bytes seed ls)
length-journal-take seed k ls =
    omega (
      arith,
      ap (λ (x : List Logged). length (journal_bytes seed x)) (take-append-drop k ls),
      ap length (journal-append seed (take k ls) (drop k ls)),
      length-append (journal_bytes seed (take k ls)) (journal_bytes seed (drop k ls)),
    )

-- the frames up to an earlier commit end earlier
pub frames_end-le : (salt base a b : ℕ) (ls : List Logged) → a ≤ b → frames_end salt base a ls ≤ frames_end salt base b ls
frames_end-le salt base a b ls le =
    let few : a - base ≤ b - base = omega (arith, le) in
    subst (λ (x : List Logged). length (journal_bytes (seed_of salt) x) ≤ frames_end salt base b ls)
    (take-take (a - base) (b - base) ls few)
    (length-journal-take (seed_of salt) (a - base) (take (b - base) ls))

-- all frames end where the bytes of the file do
pub frames_end-whole : (salt store base upto : ℕ) (ls : List Logged) → length (header_bytes (header_from salt store base)) ≡ 36
    → frames_end salt base upto ls ≤ length (file_bytes salt store base ls) - 36
frames_end-whole salt store base upto [] e = omega (arith, length-journal-take (seed_of salt) (upto - base) [])
frames_end-whole salt store base upto (l ∷ ls) e =
    omega (
      arith,
      e,
      length-journal-take (seed_of salt) (upto - base) (l ∷ ls),
      length-append (header_bytes (header_from salt store base)) (journal_bytes (seed_of salt) (l ∷ ls)),
    )

-- ---- files in turn

pub closed_step : (d e : Disk) (salt store bound more seq base : ℕ) (ss : List Segment) → bound ≤ more
    → ((i : ℕ) → i < bound → e.files i ≡ d.files i)
    → ((m : ℕ) (x : Option ℕ) → seq ≤ m → m < seq + length ss → MayName e (journal_name m) x → MayName d (journal_name m) x)
    → AreClosed d salt store bound seq base ss → AreClosed e salt store more seq base ss
closed_step d e salt store bound more seq base [] le files names h = tt
closed_step d e salt store bound more seq base (s ∷ ss) le files names h = (
  omega (arith, le, h.0),
  subst (λ (f : File). f.bytes ≡ file_bytes salt store base s.logged) (sym (files s.file h.0)) h.1,
  subst (λ (f : File). f.durable ≡ length f.bytes) (sym (files s.file h.0)) h.2,
  (λ x m. h.3 x (names seq x (omega arith) (omega arith) m)),
  closed_step d e salt store bound more (seq + 1) (base + length s.logged) ss le files
      (λ m x low lt y. names m x (omega (arith, low)) (omega (arith, lt)) y) h.4,
)

pub closed_more : (d : Disk) (salt store bound seq base : ℕ) (ss : List Segment) (s : Segment) → AreClosed d salt store bound seq base ss
    → s.file < bound → (d.files s.file).bytes ≡ file_bytes salt store (base + length (frames_in ss)) s.logged
    → (d.files s.file).durable ≡ length (d.files s.file).bytes
    → ((x : Option ℕ) → MayName d (journal_name (seq + length ss)) x → x ≡ Some s.file)
    → AreClosed d salt store bound seq base (ss ++ s ∷ [])
closed_more d salt store bound seq base [] s h lt bytes durable name = (
  lt,
  subst (λ n. (d.files s.file).bytes ≡ file_bytes salt store n s.logged) (let e : base + 0 ≡ base = omega arith in e) bytes,
  durable,
  (λ x m. name x (subst (λ n. MayName d (journal_name n) x) (let e : seq ≡ seq + 0 = omega arith in e) m)),
  tt,
)
closed_more d salt store bound seq base (t ∷ ss) s h lt bytes durable name = (
  h.0,
  h.1,
  h.2,
  h.3,
  closed_more d salt store bound (seq + 1) (base + length t.logged) ss s h.4 lt
      (subst (λ n. (d.files s.file).bytes ≡ file_bytes salt store n s.logged)
      (let e : base + length (t.logged ++ frames_in ss) ≡ (base + length t.logged) + length (frames_in ss) =
      omega (arith, length-append t.logged (frames_in ss)) in e) bytes) durable
      (λ x m. name x (subst (λ n. MayName d (journal_name n) x)
      (let e : (seq + 1) + length ss ≡ seq + suc (length ss) = omega arith in e) m)),
)
