-- What others do beside a journal keeps what holds of it.
use Rattle.std.proofs.Common.{◌≡◌, ◌≤◌, ◌<◌, ℕ, ◌+◌, ◌-◌, Option, Some, List, [], ◌∷◌, length, refl, sym, ap, subst, ◌∙◌, inl, inr, arith}
use Rattle.disk.specs.Disk.{Disk, File, MayName}
use Rattle.journal_steps.specs.World.{IsBeside, IsFileOf, Segment, World, journal_name}
use Rattle.journal_steps.specs.Sound.{AreClosed, Holds, IsComing, IsMade, IsNext, IsNoneOrEmpty, IsWhole, file_bytes, frames_end}
use Rattle.journal_steps.specs.declared.step.Ahead.{Ahead}
use Rattle.journal_steps.specs.declared.step.Ahead.TheVariants.{NotWanted, Wanted, Making, Made, Keeping, Kept}

closed_beside : (d e : Disk) (salt store bound seq base first : ℕ) (ss : List Segment) → first ≤ seq
    → ((i : ℕ) → IsFileOf ss i → i < bound → e.files i ≡ d.files i)
    → ((m : ℕ) (x : Option ℕ) → first ≤ m → MayName e (journal_name m) x → MayName d (journal_name m) x)
    → AreClosed d salt store bound seq base ss → AreClosed e salt store bound seq base ss
closed_beside d e salt store bound seq base first [] low files names h = tt
closed_beside d e salt store bound seq base first (s ∷ ss) low files names h =
    let same : e.files s.file ≡ d.files s.file = files s.file (inl refl) h.0 in (
      h.0,
      subst (λ (f : File). f.bytes ≡ file_bytes salt store base s.logged) (sym same) h.1,
      subst (λ (f : File). f.durable ≡ length f.bytes) (sym same) h.2,
      (λ x m. h.3 x (names seq x low m)),
      closed_beside d e salt store bound (seq + 1) (base + length s.logged) first ss (omega (arith, low))
          (λ i is lt. files i (inr is) lt) names h.4,
    )

next_beside : (w : World) (e : Disk) → IsBeside w e → IsNext w.disk w.file w.next_file → IsNext e w.file w.next_file
next_beside w e b h =
    record { order = h.order; below = omega (arith, h.below, b.count); empty = b.files w.next_file (inr (inl refl)) h.below ∙ h.empty }

empty_beside : (w : World) (e : Disk) (x : Option ℕ) → IsBeside w e → MayName w.disk (journal_name (w.progress.seq + 1)) x
    → IsNoneOrEmpty w.disk w.file x → IsNoneOrEmpty e w.file x
empty_beside w e x b m (inl none) = inl none
empty_beside w e x b m (inr some) =
    let i = some.0 in
    let named : MayName w.disk (journal_name (w.progress.seq + 1)) (Some i) =
    subst (λ (y : Option ℕ). MayName w.disk (journal_name (w.progress.seq + 1)) y) some.1 m in
    inr (
      i,
      some.1,
      record {
        order = some.2.order;
        below = omega (arith, some.2.below, b.count);
        empty = b.files i (inr (inr (inl named))) some.2.below ∙ some.2.empty;
      },
    )

made_beside : (w : World) (e : Disk) → w.progress.first ≤ w.progress.seq + 1 → IsBeside w e
    → IsMade w.disk w.progress.seq w.file w.next_file → IsMade e w.progress.seq w.file w.next_file
made_beside w e low b h = (b.now (w.progress.seq + 1) low ∙ h.0, next_beside w e b h.1)

coming_beside : (a : Ahead) (w : World) (e : Disk) → w.progress.first ≤ w.progress.seq + 1 → IsBeside w e
    → IsComing a w.disk w.progress.seq w.file w.next_file w.names_at → IsComing a e w.progress.seq w.file w.next_file w.names_at
coming_beside NotWanted w e low b h = tt
coming_beside Wanted w e low b h = tt
coming_beside Making w e low b h = made_beside w e low b h
coming_beside Made w e low b h = made_beside w e low b h
coming_beside Keeping w e low b h = (made_beside w e low b h.0, b.asked (w.progress.seq + 1) (Some w.next_file) low h.1)
coming_beside Kept w e low b h = (made_beside w e low b h.0, λ x m. h.1 x (b.names (w.progress.seq + 1) x low m))

pub holds_beside : (w : World) (e : Disk) → IsBeside w e → Holds w → Holds (record w { disk = e })
holds_beside w e b h =
    let p = w.progress in
    let c = h.core in
    let here : p.first ≤ p.seq = omega (arith, c.seq_is) in
    let later : p.first ≤ p.seq + 1 = omega (arith, here) in
    let same : e.files w.file ≡ w.disk.files w.file = b.files w.file (inl refl) c.below in
    record {
      ready = h.ready;
      core = record {
        numbered = c.numbered;
        taken_is = c.taken_is;
        base_is = c.base_is;
        base_durable = c.base_durable;
        durable_taken = c.durable_taken;
        seq_is = c.seq_is;
        are_closed =
            closed_beside w.disk e p.salt p.store w.file p.first w.before p.first w.closed (omega arith)
            (λ i is lt. b.files i (inr (inr (inr is))) (omega (arith, lt, c.below))) b.names c.are_closed;
        part = c.part;
        bytes = ap (λ (f : File). f.bytes) same ∙ c.bytes;
        kept = subst (λ (f : File). frames_end p.salt p.base p.durable w.logged ≤ f.durable - 36) (sym same) c.kept;
        no_more = subst (λ (f : File). f.durable ≤ length f.bytes) (sym same) c.no_more;
        name = (λ x m. c.name x (b.names p.seq x here m));
        next = (λ x m. let before = b.names (p.seq + 1) x later m in empty_beside w e x b before (c.next x before));
        beyond = (λ n x lt m. c.beyond n x lt (b.names n x (omega (arith, lt, here)) m));
        below = omega (arith, c.below, b.count);
        fresh = b.fresh;
      };
      durable_written = h.durable_written;
      written_taken = h.written_taken;
      whole = subst (λ (f : File). IsWhole p.broken f (file_bytes p.salt p.store p.base w.logged)) (sym same) h.whole;
      appending = h.appending;
      syncing = h.syncing;
      coming = coming_beside p.ahead w e later b h.coming;
    }
