-- What a step makes of files and names.
use Rattle.std.proofs.Common.{◌≡◌, ◌≢◌, ◌⊎◌, ◌≤◌, ℕ, ◌-◌, min, max, Bool, true, false, cond, eqb, Option, Some, length, drop, refl, sym, ap, ◌∙◌, inl, inr, arith}
use Rattle.std.proofs.lemmas.Bool.Decides.{eqb_tells}
use Rattle.disk.specs.Disk.{Disk, File, MayName, Create, SyncNames, begun, done, linked, named, synced, with_file}
use Rattle.disk.proofs.DiskLemmas.{name_of_linked}

pub at_here : {A : Type 0} (i : ℕ) (x y : A) → cond (eqb i i) x y ≡ x
at_here i x y =
    elim (eqb_tells i i) [
      | inl same ↦ ap (λ b. cond b x y) same.0
      | inr other ↦ absurd (other.1 refl)
    ]

pub at_other : {A : Type 0} (j i : ℕ) (x y : A) → j ≢ i → cond (eqb j i) x y ≡ y
at_other j i x y differ =
    elim (eqb_tells j i) [
      | inl same ↦ absurd (differ same.1)
      | inr other ↦ ap (λ b. cond b x y) other.0
    ]

-- ---- names

-- a name is as it was where only files have changed
pub names_of_file : (d : Disk) (i : ℕ) (f : File) (name : ℕ) (x : Option ℕ) → MayName (with_file i f d) name x → MayName d name x
names_of_file d i f name x m = record { undone = m.undone; few = m.few; was = m.was }

-- a folder is synced: fewer names may be otherwise
pub names_kept : (d : Disk) (asked name : ℕ) (x : Option ℕ) → MayName (done (SyncNames asked) d) name x → MayName d name x
names_kept d asked name x m = record { undone = m.undone; few = omega (arith, m.few); was = m.was }

-- another name is as it was
pub linked_other : (d : Disk) (name other : ℕ) (file x : Option ℕ) → name ≢ other → MayName (linked name file d) other x → MayName d other x
linked_other d name other file x differ m =
    elim (name_of_linked d name file other x m) [
      | inl now ↦ record { undone = 0; few = omega arith; was = sym (at_other name other file (named other d.links) differ) ∙ now }
      | inr before ↦ before
    ]

-- this one is what it is now, or what it was
pub linked_here : (d : Disk) (name : ℕ) (file x : Option ℕ) → MayName (linked name file d) name x → (x ≡ file) ⊎ MayName d name x
linked_here d name file x m =
    elim (name_of_linked d name file name x m) [
      | inl now ↦ inl (sym now ∙ at_here name file (named name d.links))
      | inr before ↦ inr before
    ]

pub create_other : (d : Disk) (name other : ℕ) (x : Option ℕ) → name ≢ other → MayName (begun (Create name) d) other x → MayName d other x
create_other d name other x differ m =
    linked_other d name other (Some d.count) x differ (record { undone = m.undone; few = m.few; was = m.was })

pub create_here : (d : Disk) (name : ℕ) (x : Option ℕ) → MayName (begun (Create name) d) name x → (x ≡ Some d.count) ⊎ MayName d name x
create_here d name x m = linked_here d name (Some d.count) x (record { undone = m.undone; few = m.few; was = m.was })

-- a name that was there when a sync of the folder began is durable once it is done
pub asked_name : (d : Disk) (asked name : ℕ) (file x : Option ℕ)
    → ((k : ℕ) → k ≤ length d.links - asked → named name (drop k d.links) ≡ file)
    → MayName (done (SyncNames asked) d) name x → x ≡ file
asked_name d asked name file x all m = sym m.was ∙ all m.undone (omega (arith, m.few))

-- one that is there now is among those that a sync of the folder is begun for
pub asked_now : (d : Disk) (name : ℕ) (file : Option ℕ) → named name d.links ≡ file
    → (k : ℕ) → k ≤ length d.links - length d.links → named name (drop k d.links) ≡ file
asked_now d name file is k le = ap (λ n. named name (drop n d.links)) (let e : k ≡ 0 = omega (arith, le) in e) ∙ is

-- ---- a sync

synced_bytes_by : (b : Bool) (upto : ℕ) (f : File)
    → (cond b (record f { durable = max f.durable (min upto (length f.bytes)) }) f).bytes ≡ f.bytes
synced_bytes_by true upto f = refl
synced_bytes_by false upto f = refl

pub synced_bytes : (upto : ℕ) (f : File) → (synced upto f).bytes ≡ f.bytes
synced_bytes upto f = synced_bytes_by f.sound upto f

synced_sound_by : (b : Bool) (upto : ℕ) (f : File)
    → (cond b (record f { durable = max f.durable (min upto (length f.bytes)) }) f).sound ≡ f.sound
synced_sound_by true upto f = refl
synced_sound_by false upto f = refl

pub synced_sound : (upto : ℕ) (f : File) → (synced upto f).sound ≡ f.sound
synced_sound upto f = synced_sound_by f.sound upto f

pub synced_durable : (upto : ℕ) (f : File) → f.sound ≡ true → (synced upto f).durable ≡ max f.durable (min upto (length f.bytes))
synced_durable upto f e = ap (λ b. (cond b (record f { durable = max f.durable (min upto (length f.bytes)) }) f).durable) e
