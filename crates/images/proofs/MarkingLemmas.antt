-- What a call leaves that marks an image.
use Rattle.std.proofs.Common.{◌≡◌, ℕ, ◌+◌, ◌-◌, List, ap, subst, ◌∙◌, inr}
use Rattle.journal.specs.Frame.{Logged, frame_bytes}
use Rattle.logging.specs.Log.{FailsOver, IsGivenUp, Log, with_safe}
use Rattle.logging.specs.declared.fault.LogFault.{LogFault}
use Rattle.logging.specs.declared.fault.LogFault.TheVariants.{NoMemory, DeviceFailed}
use Rattle.images.specs.Images.{Images, IsUnmarked, with_mark}
use Rattle.images.specs.Mark.{mark_bytes, marked_at}
use Rattle.images.specs.declared.mark.ImageMark.{ImageMark}

-- what was seen of the marks before, and what was logged of this one
module _ (seen old : Images) (is : seen ≡ old) (mark : ImageMark) (synced : ℕ) (before : synced ≡ seen.next - 1) (payload : List ℕ)
    (spelt : payload ≡ mark_bytes mark) where
  abbrev logged : Logged
  logged = record { number = seen.next; synced = synced; payload = payload }

  same : logged ≡ marked_at seen.next mark
  same = λ i. record { number = seen.next; synced = before i; payload = spelt i }

  -- the device took it, and made it safe
  pub is_marked : (log : Log) → log ≡ with_safe (frame_bytes seen.log.seed logged) seen.log
      → (record { log = log; next = seen.next + 1 }) ≡ with_mark mark old
  is_marked log e =
      (λ i. record { log = e i; next = seen.next + 1 })
      ∙ (λ i. record { log = with_safe (frame_bytes seen.log.seed (same i)) seen.log; next = seen.next + 1 })
      ∙ ap (with_mark mark) is

  -- it didn't
  pub is_unmarked : (fault : LogFault) (log : Log) → IsGivenUp (frame_bytes seen.log.seed logged) seen.log fault log
      → IsUnmarked fault mark old (record { log = log; next = seen.next })
  is_unmarked NoMemory log e = (λ i. record { log = e i; next = seen.next }) ∙ is
  is_unmarked DeviceFailed log e = (
    ap (λ (s : Images). s.next) is,
    e.1 ∙ ap (λ (s : Images). s.log.seed) is,
    inr (subst (λ (s : Images). FailsOver (frame_bytes s.log.seed (marked_at s.next mark)) s.log.device log.device) is
        (subst (λ (l : Logged). FailsOver (frame_bytes seen.log.seed l) seen.log.device log.device) same e.0)),
  )
