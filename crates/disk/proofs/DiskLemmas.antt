-- What a crash leaves of files and names, step by step.
use Rattle.std.proofs.Common.{◌≡◌, ◌≢◌, ℕ, zero, suc, ◌+◌, ◌-◌, ◌≤◌, ◌⊎◌, cond, eqb, Option, Some, None, List, [], ◌∷◌, ◌++◌, length, take, drop, refl, sym, ap, subst, ◌∙◌, inl, inr, arith}
use Rattle.std.proofs.lemmas.Bool.{cases_lt}
use Rattle.std.proofs.lemmas.Bool.Decides.{eqb_tells}
use Rattle.std.proofs.lemmas.List.{append-nil, length-append, length-take, take-append-le, take-take, take_all, nil_from_length}
use Rattle.std.proofs.Math.Seq.{take-append-add}
use Rattle.disk.specs.Disk.{Disk, File, IsAtRest, Left, Link, MayLeave, MayName, Append, Sync, Create, Rename, Unlink, SyncNames, begun, linked, named, with_bytes}
use Rattle.disk.specs.Laws.{ACrashBeforeAStep, ACrashInAWrite, ACrashOfACrash, ASyncedNameStays}

-- ---- files

-- of a file whose bytes are all durable, all is left
pub left_durable : (f : File) (bytes : List ℕ) → f.durable ≡ length f.bytes → Left f bytes → bytes ≡ f.bytes
left_durable f bytes all_are l =
    let all : length f.bytes ≤ l.size = omega (arith, all_are, l.kept) in
    let whole : take l.size f.bytes ≡ f.bytes = take_all l.size f.bytes all in
    let none : l.other ≡ [] =
    nil_from_length l.other (omega (arith, l.no_longer, ap length l.spelt, length-append (take l.size f.bytes) l.other, ap length whole)) in
    l.spelt ∙ ap (λ (x : List ℕ). x ++ l.other) whole ∙ ap (λ (x : List ℕ). f.bytes ++ x) none ∙ append-nil f.bytes

-- what is left of a file, where more is written behind it
pub left_longer : (f : File) (more bytes : List ℕ) → Left f bytes → Left (with_bytes (f.bytes ++ more) f) bytes
left_longer f more bytes l =
    record {
      size = l.size;
      other = l.other;
      kept = l.kept;
      within = omega (arith, l.within, length-append f.bytes more);
      spelt = l.spelt ∙ ap (λ (x : List ℕ). x ++ l.other) (sym (take-append-le l.size f.bytes more l.within));
      no_longer = omega (arith, l.no_longer, length-append f.bytes more);
    }

-- a beginning of what stands at the front is a beginning of the whole
front_of : (a b : List ℕ) (n size : ℕ) → size ≤ length (a ++ take n b) → take size (a ++ take n b) ≡ take size (a ++ b)
front_of a b n size le =
    elim (cases_lt size (length a)) [
      | inl lt ↦ take-append-le size a (take n b) (omega (arith, lt)) ∙ sym (take-append-le size a b (omega (arith, lt)))
      | inr past ↦
          let rest = size - length a in
          let k : size ≡ length a + rest = omega (arith, past) in
          let few : rest ≤ n = omega (arith, le, past, length-append a (take n b), length-take n b) in
          ap (λ s. take s (a ++ take n b)) k
          ∙ take-append-add a (take n b) rest
          ∙ ap (λ (x : List ℕ). a ++ x) (take-take rest n b few)
          ∙ sym (take-append-add a b rest)
          ∙ sym (ap (λ s. take s (a ++ b)) k)
    ]

left_part : (f : File) (more bytes : List ℕ) (n : ℕ) → Left (with_bytes (f.bytes ++ take n more) f) bytes
    → Left (with_bytes (f.bytes ++ more) f) bytes
left_part f more bytes n l =
    let shorter : length (f.bytes ++ take n more) ≤ length (f.bytes ++ more) =
    omega (arith, length-append f.bytes (take n more), length-append f.bytes more, length-take n more) in
    record {
      size = l.size;
      other = l.other;
      kept = l.kept;
      within = omega (arith, l.within, shorter);
      spelt = l.spelt ∙ ap (λ (x : List ℕ). x ++ l.other) (front_of f.bytes more n l.size l.within);
      no_longer = omega (arith, l.no_longer, shorter);
    }

-- ---- names

-- what a name may be it may be after a change more
pub name_linked : (d : Disk) (other : ℕ) (file : Option ℕ) (name : ℕ) (x : Option ℕ) → MayName d name x
    → MayName (linked other file d) name x
name_linked d other file name x m = record { undone = suc m.undone; few = omega (arith, m.few); was = m.was }

name_or_before : (d : Disk) (l : Link) (name : ℕ) (x : Option ℕ) (undone : ℕ) → undone ≤ suc d.pending
    → named name (drop undone (l ∷ d.links)) ≡ x
    → (named name (l ∷ d.links) ≡ x) ⊎ MayName d name x
name_or_before d l name x zero few was = inl was
name_or_before d l name x (suc k) few was = inr (record { undone = k; few = omega (arith, few); was = was })

-- after a change of a name it may be that, or what it was
pub name_of_linked : (d : Disk) (other : ℕ) (file : Option ℕ) (name : ℕ) (x : Option ℕ) → MayName (linked other file d) name x
    → (named name (record { name = other; file = file } ∷ d.links) ≡ x) ⊎ MayName d name x
name_of_linked d other file name x m = name_or_before d (record { name = other; file = file }) name x m.undone m.few m.was

-- ---- disks

with_files : (d c : Disk) (files : ℕ → File) → ((i : ℕ) → Left (files i) (c.files i).bytes) → MayLeave d c
    → MayLeave (record d { files = files }) c
with_files d c files left m =
    record {
      files = left;
      names = (λ name. record { undone = (m.names name).undone; few = (m.names name).few; was = (m.names name).was });
      count = m.count;
      rest = m.rest;
    }

-- of one file something else is left, and of the others the same
left_at : (files : ℕ → File) (f : File) (i j : ℕ) (bytes : List ℕ) → (j ≡ i → Left f bytes) → (j ≢ i → Left (files j) bytes)
    → Left (cond (eqb j i) f (files j)) bytes
left_at files f i j bytes here there =
    elim (eqb_tells j i) [
      | inl same ↦ subst (λ b. Left (cond b f (files j)) bytes) (sym same.0) (here same.1)
      | inr other ↦ subst (λ b. Left (cond b f (files j)) bytes) (sym other.0) (there other.1)
    ]

before_write : (d c : Disk) (i : ℕ) (bytes : List ℕ) → MayLeave d c → MayLeave (begun (Append i bytes) d) c
before_write d c i bytes m =
    with_files d c (begun (Append i bytes) d).files
    (λ j. left_at d.files (with_bytes ((d.files i).bytes ++ bytes) (d.files i)) i j (c.files j).bytes
    (λ e. left_longer (d.files i) bytes (c.files j).bytes (subst (λ k. Left (d.files k) (c.files j).bytes) e (m.files j)))
    (λ e. m.files j)) m

-- how many files there are says nothing of what is durable
with_count : (c : Disk) (n : ℕ) → IsAtRest c → IsAtRest (record c { count = n })
with_count c n r = record { files = r.files; sound = r.sound; names = r.names }

pub a_crash_before_a_step : ACrashBeforeAStep
a_crash_before_a_step d c (Append i bytes) m =
    let n = before_write d c i bytes m in
    record { files = n.files; names = n.names; count = refl; rest = with_count c d.count n.rest }
a_crash_before_a_step d c (Sync i upto) m = record { files = m.files; names = m.names; count = refl; rest = with_count c d.count m.rest }
a_crash_before_a_step d c (Create name) m =
    let names : (n : ℕ) → MayName (linked name (Some d.count) d) n (named n c.links) =
    λ n. name_linked d name (Some d.count) n (named n c.links) (m.names n) in
    record {
      files = m.files;
      names = (λ n. record { undone = (names n).undone; few = (names n).few; was = (names n).was });
      count = refl;
      rest = with_count c (suc d.count) m.rest;
    }
a_crash_before_a_step d c (Rename old new) m =
    let given = linked new (named old d.links) d in
    record {
      files = m.files;
      names = (λ n. name_linked given old None n (named n c.links) (name_linked d new (named old d.links) n (named n c.links) (m.names n)));
      count = refl;
      rest = with_count c d.count m.rest;
    }
a_crash_before_a_step d c (Unlink name) m =
    record {
      files = m.files;
      names = (λ n. name_linked d name None n (named n c.links) (m.names n));
      count = refl;
      rest = with_count c d.count m.rest;
    }
a_crash_before_a_step d c (SyncNames upto) m = record { files = m.files; names = m.names; count = refl; rest = with_count c d.count m.rest }

unchanged : (d : Disk) (f : File) (i j : ℕ) (bytes : List ℕ) → j ≢ i → Left (cond (eqb j i) f (d.files j)) bytes → Left (d.files j) bytes
unchanged d f i j bytes other l =
    elim (eqb_tells j i) [
      | inl same ↦ absurd (other same.1)
      | inr differ ↦ subst (λ b. Left (cond b f (d.files j)) bytes) differ.0 l
    ]

changed : (d : Disk) (f : File) (i j : ℕ) (bytes : List ℕ) → j ≡ i → Left (cond (eqb j i) f (d.files j)) bytes → Left f bytes
changed d f i j bytes e l =
    elim (eqb_tells j i) [
      | inl same ↦ subst (λ b. Left (cond b f (d.files j)) bytes) same.0 l
      | inr differ ↦ absurd (differ.1 e)
    ]

pub a_crash_in_a_write : ACrashInAWrite
a_crash_in_a_write d c i n bytes m =
    let part = with_bytes ((d.files i).bytes ++ take n bytes) (d.files i) in
    let all = with_bytes ((d.files i).bytes ++ bytes) (d.files i) in
    record {
      files = (λ j. left_at d.files all i j (c.files j).bytes
          (λ e. left_part (d.files i) bytes (c.files j).bytes n (changed d part i j (c.files j).bytes e (m.files j)))
          (λ e. unchanged d part i j (c.files j).bytes e (m.files j)));
      names = (λ name. record { undone = (m.names name).undone; few = (m.names name).few; was = (m.names name).was });
      count = m.count;
      rest = m.rest;
    }

at_rest_named : (links : List Link) (undone pending name : ℕ) (x : Option ℕ) → undone ≤ pending → pending ≡ 0
    → named name (drop undone links) ≡ x → named name links ≡ x
at_rest_named links zero pending name x few none was = was
at_rest_named links (suc k) pending name x few none was = absurd (omega (arith, few, none))

pub a_synced_name_stays : ASyncedNameStays
a_synced_name_stays d c name m none =
    sym (at_rest_named d.links (m.names name).undone d.pending name (named name c.links) (m.names name).few none (m.names name).was)

pub a_crash_of_a_crash : ACrashOfACrash
a_crash_of_a_crash d c e m n =
    let files : (i : ℕ) → (e.files i).bytes ≡ (c.files i).bytes =
    λ i. left_durable (c.files i) (e.files i).bytes (m.rest.files i) (n.files i) in
    let names : (name : ℕ) → named name e.links ≡ named name c.links = λ name. a_synced_name_stays c e name n m.rest.names in (
      record { files = files; names = names },
      record {
        files = (λ i. subst (Left (d.files i)) (sym (files i)) (m.files i));
        names = (λ name. subst (MayName d name) (sym (names name)) (m.names name));
        count = n.count ∙ m.count;
        rest = n.rest;
      },
    )
