-- What a group log holds, call by call, and after a crash.
use Rattle.std.proofs.lemmas.Bool.Decides.{nat_tests}
use Rattle.std.proofs.Common.{nat_lt, false, ◌≡◌, ℕ, zero, suc, ◌+◌, ◌-◌, ◌≤◌, List, [], ◌∷◌, ◌++◌, length, take, refl, sym, ap, ◌∙◌, subst, arith, length-append}
use Rattle.std.proofs.Math.Seq.{take-append-add}
use Rattle.std.proofs.lemmas.List.{append-nil, append_assoc, length-map, map-append}
use Rattle.std.proofs.lemmas.List.Concat.{flat_map-cons}
use Rattle.std.proofs.lemmas.List.Elements.{All-append, All-nil, All-push, All-weaker}
use Rattle.journal.specs.Crash.{IsLeft}
use Rattle.journal.specs.Frame.{AreLogged, Logged, frame_bytes, journal_bytes}
use Rattle.journal.specs.Laws.{AJournalGoesOn}
use Rattle.logging.specs.Device.{Device}
use Rattle.logging.specs.Laws.{ADeviceLeavesABatch}
use Rattle.logging.specs.Log.{FailsOver, with_safe}
use Rattle.group_commit.specs.GroupLog.{GroupLogState, Holds, HoldsNow}
use Rattle.group_commit.specs.Laws.{ABatchAtAnyMoment, ACrashLeavesWhatIsWritten, ABatchGrows}
use Rattle.group_commit.specs.Batch.{IsBatch, SyncedAtMost, payloads_of}

alone : (seed : ℕ) (l : Logged) → journal_bytes seed (l ∷ []) ≡ frame_bytes seed l
alone seed l = flat_map-cons (frame_bytes seed) l [] ∙ append-nil (frame_bytes seed l)

-- heads that call at most this durable call no more than a later commit
pub say_more : (n m : ℕ) (logged : List Logged) → n ≤ m → SyncedAtMost n logged → SyncedAtMost m logged
say_more n m logged le known =
    All-weaker (λ (l : Logged). l.synced ≤ n) (λ (l : Logged). l.synced ≤ m) (λ l k. omega (arith, k, le)) logged known

pub count_of : (logged : List Logged) (payloads : List (List ℕ)) → payloads_of logged ≡ payloads → length logged ≡ length payloads
count_of logged payloads is = sym (length-map _ _) ∙ ap (λ (p : List (List ℕ)). length p) is

pub a_batch_grows : AJournalGoesOn → ABatchGrows
a_batch_grows goes_on seed base from to bytes l is number fits known =
    let counted : length to ≡ length from + length is.logged =
    ap (λ (p : List (List ℕ)). length p) is.added ∙ length-append from (payloads_of is.logged)
    ∙ ap (λ n. length from + n) (length-map _ _) in
    let one : AreLogged (((base + 1) + length from) + length is.logged) (l ∷ []) = (omega (arith, number, counted), fits, tt) in
    let both = goes_on seed ((base + 1) + length from) is.logged (l ∷ []) is.numbered one in
    record {
      logged = is.logged ++ l ∷ [];
      spelt = ap (λ (b : List ℕ). b ++ frame_bytes seed l) is.spelt ∙ ap (λ (b : List ℕ). journal_bytes seed is.logged ++ b) (sym (alone seed l)) ∙ sym both.1;
      numbered = both.0;
      added =
          ap (λ (p : List (List ℕ)). p ++ l.payload ∷ []) is.added
          ∙ append_assoc from (payloads_of is.logged) (l.payload ∷ [])
          ∙ ap (λ (p : List (List ℕ)). from ++ p) (sym (map-append (λ (f : Logged). f.payload) is.logged (l ∷ [])));
      known = All-push (λ (f : Logged). f.synced ≤ base + length from) is.logged l is.known known;
    }

-- nothing else was tried
bare : (front : List ℕ) (base seed : ℕ) (device : Device) (written tried : List (List ℕ)) (h : HoldsNow front base seed device written tried)
    → h.more ≡ [] → device.appended ≡ front ++ journal_bytes seed h.logged
bare front base seed device written tried h none =
    h.appended ∙ ap (λ (m : List Logged). front ++ (journal_bytes seed h.logged ++ take h.taken (journal_bytes seed m))) none
    ∙ ap (λ (b : List ℕ). front ++ (journal_bytes seed h.logged ++ b)) (nothing h.taken)
    ∙ ap (λ (b : List ℕ). front ++ b) (append-nil (journal_bytes seed h.logged))
  where
    nothing : (n : ℕ) → take n (journal_bytes seed []) ≡ []
    nothing zero = refl
    nothing (suc n) = refl

pub a_batch_at_any_moment : AJournalGoesOn → ABatchAtAnyMoment
a_batch_at_any_moment goes_on front base seed d to bytes now held sound is midst =
    let h = held.now in
    let none = held.all sound in
    let same : h.logged ++ h.more ≡ h.logged = ap (λ (m : List Logged). h.logged ++ m) none ∙ append-nil h.logged in
    let whole = bare front base seed d.log.device d.written d.tried h none in
    let count : length h.logged ≡ length d.written = count_of h.logged d.written h.written_are in
    let numbered : AreLogged (base + 1) h.logged = subst (AreLogged (base + 1)) same h.numbered in
    let more : AreLogged ((base + 1) + length h.logged) is.logged =
    subst (λ n. AreLogged ((base + 1) + n) is.logged) (sym count) is.numbered in
    let both = goes_on seed (base + 1) h.logged is.logged numbered more in
    let safe = h.safe in
    let kept = midst.safe in
    record {
      logged = h.logged;
      more = is.logged;
      numbered = both.0;
      written_are = h.written_are;
      tried_are =
          map-append (λ (l : Logged). l.payload) h.logged is.logged
          ∙ ap (λ (p : List (List ℕ)). p ++ payloads_of is.logged) h.written_are
          ∙ sym is.added;
      taken = midst.taken;
      appended =
          midst.appended
          ∙ ap (λ (b : List ℕ). b ++ take midst.taken bytes) whole
          ∙ append_assoc front (journal_bytes seed h.logged) (take midst.taken bytes)
          ∙ ap (λ (b : List ℕ). front ++ (journal_bytes seed h.logged ++ take midst.taken b)) is.spelt;
      safe = omega (arith, safe, kept);
      known = All-append (λ (l : Logged). l.synced ≤ base + length d.written) h.logged is.logged
          (subst (SyncedAtMost (base + length d.written)) same h.known) is.known;
    }

-- what a device leaves behind a front that is safe
behind : (front bytes left : List ℕ) (size : ℕ) → length front ≤ size
    → take size (front ++ bytes) ++ left ≡ front ++ (take (size - length front) bytes ++ left)
behind front bytes left size le =
    let split : size ≡ length front + (size - length front) = omega (arith, le) in
    ap (λ (n : ℕ). take n (front ++ bytes) ++ left) split
    ∙ ap (λ (b : List ℕ). b ++ left) (take-append-add front bytes (size - length front))
    ∙ append_assoc front (take (size - length front) bytes) left

pub a_crash_leaves : ADeviceLeavesABatch → ACrashLeavesWhatIsWritten
a_crash_leaves leaves front base seed device written tried bytes h left =
    let frames = journal_bytes seed h.logged in
    let part = take h.taken (journal_bytes seed h.more) in
    let kept = left.kept in
    let within = left.within in
    let safe = h.safe in
    let r = left.size - length front in
    let rest = take r (frames ++ part) ++ left.other in
    let long = length-append front frames in
    let sized : length device.appended ≡ length front + length (frames ++ part) =
    ap (λ (b : List ℕ). length b) h.appended ∙ length-append front (frames ++ part) in (
      rest,
      left.spelt
          ∙ ap (λ (b : List ℕ). take left.size b ++ left.other) h.appended
          ∙ behind front (frames ++ part) left.other left.size (omega (arith, kept, safe, long)),
      h.logged ++ h.more,
      h.numbered,
      h.tried_are,
      λ chance.
          subst (λ (s : ℕ). IsLeft seed (base + 1) (h.logged ++ h.more) s rest) (count_of h.logged written h.written_are)
          (leaves seed (base + 1) h.logged h.more h.taken (length frames) rest (omega arith)
          (record {
            size = r;
            other = left.other;
            kept = omega (arith, kept, safe, long);
            within = omega (arith, within, sized);
            spelt = refl;
          })
          chance),
      h.known,
    )

-- ---- the group log between two calls

pub at_first : (front : List ℕ) (base seed : ℕ) (d : GroupLogState) → d.log.device.appended ≡ front → length front ≤ d.log.device.safe
    → d.log.seed ≡ seed → d.written ≡ [] → d.tried ≡ [] → d.watermark ≤ base → Holds front base seed d
at_first front base seed d appended safe is written tried watermark =
    let bare : front ++ journal_bytes seed [] ≡ front = append-nil front in
    let same : length (front ++ journal_bytes seed []) ≡ length front = ap (λ (b : List ℕ). length b) bare in
    record {
      now = record {
        logged = [];
        more = [];
        numbered = tt;
        written_are = sym written;
        tried_are = sym tried;
        taken = 0;
        appended = appended ∙ sym (append-nil front);
        safe = omega (arith, safe, same);
        known = All-nil (λ (l : Logged). l.synced ≤ base + length d.written);
      };
      all = λ _. refl;
      seed_is = is;
      watermark = omega (arith, watermark);
    }

pub when_advanced : (front : List ℕ) (base seed : ℕ) (d : GroupLogState) (n : ℕ) → Holds front base seed d → n ≤ base + length d.written
    → Holds front base seed (record d { watermark = n })
when_advanced front base seed d n h le = record { now = h.now; all = h.all; seed_is = h.seed_is; watermark = le }

-- after a batch that was written
pub when_written : AJournalGoesOn → (front : List ℕ) (base seed : ℕ) (d : GroupLogState) (to : List (List ℕ)) (bytes : List ℕ)
    → Holds front base seed d → d.log.device.failures ≡ 0 → IsBatch seed base d.written to bytes
    → Holds front base seed (record d { log = with_safe bytes d.log; written = to; tried = to })
when_written goes_on front base seed d to bytes held sound is =
    let h = held.now in
    let none = held.all sound in
    let same : h.logged ++ h.more ≡ h.logged = ap (λ (m : List Logged). h.logged ++ m) none ∙ append-nil h.logged in
    let whole = bare front base seed d.log.device d.written d.tried h none in
    let count : length h.logged ≡ length d.written = count_of h.logged d.written h.written_are in
    let numbered : AreLogged (base + 1) h.logged = subst (AreLogged (base + 1)) same h.numbered in
    let more : AreLogged ((base + 1) + length h.logged) is.logged =
    subst (λ n. AreLogged ((base + 1) + n) is.logged) (sym count) is.numbered in
    let both = goes_on seed (base + 1) h.logged is.logged numbered more in
    let logged = h.logged ++ is.logged in
    let upto_is : payloads_of logged ≡ to =
    map-append (λ (l : Logged). l.payload) h.logged is.logged
    ∙ ap (λ (p : List (List ℕ)). p ++ payloads_of is.logged) h.written_are
    ∙ sym is.added in
    let appended : d.log.device.appended ++ bytes ≡ front ++ journal_bytes seed logged =
    ap (λ (b : List ℕ). b ++ bytes) whole
    ∙ append_assoc front (journal_bytes seed h.logged) bytes
    ∙ ap (λ (b : List ℕ). front ++ (journal_bytes seed h.logged ++ b)) is.spelt
    ∙ ap (λ (b : List ℕ). front ++ b) (sym both.1) in
    let size = ap (λ (b : List ℕ). length b) appended in
    let watermark = held.watermark in
    let said : SyncedAtMost (base + length d.written) logged =
    All-append (λ (l : Logged). l.synced ≤ base + length d.written) h.logged is.logged
    (subst (SyncedAtMost (base + length d.written)) same h.known) is.known in
    let longer : length to ≡ length d.written + length (payloads_of is.logged) =
    ap (λ (p : List (List ℕ)). length p) is.added ∙ length-append d.written (payloads_of is.logged) in
    record {
      now = record {
        logged = logged;
        more = [];
        numbered = subst (AreLogged (base + 1)) (sym (append-nil logged)) both.0;
        written_are = upto_is;
        tried_are = ap payloads_of (append-nil logged) ∙ upto_is;
        taken = 0;
        appended = appended ∙ ap (λ (b : List ℕ). front ++ b) (sym (append-nil (journal_bytes seed logged)));
        safe = omega (arith, size);
        known =
            subst (SyncedAtMost (base + length to)) (sym (append-nil logged))
            (say_more (base + length d.written) (base + length to) logged (omega (arith, longer)) said);
      };
      all = λ _. refl;
      seed_is = held.seed_is;
      watermark = omega (arith, watermark, longer);
    }

-- after a batch during which the device failed
pub when_failed : AJournalGoesOn → (front : List ℕ) (base seed : ℕ) (d : GroupLogState) (to : List (List ℕ)) (bytes : List ℕ) (device : Device)
    → Holds front base seed d → d.log.device.failures ≡ 0 → IsBatch seed base d.written to bytes
    → FailsOver bytes d.log.device device
    → Holds front base seed (record d { log = record { device = device; seed = d.log.seed }; tried = to })
when_failed goes_on front base seed d to bytes device held sound is fails =
    let more = fails.failures in
    record {
      now =
          a_batch_at_any_moment goes_on front base seed d to bytes device held sound is
          (record { taken = fails.taken; appended = fails.appended; safe = fails.safe });
      all = λ none. absurd (omega (arith, none, more));
      seed_is = held.seed_is;
      watermark = held.watermark;
    }

-- a device that hasn't failed has no failures
pub sound_is : (n : ℕ) → nat_lt 0 n ≡ false → n ≡ 0
sound_is n is = grind (arith, nat_tests)
