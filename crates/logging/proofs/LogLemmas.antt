-- What a call leaves that logs bytes.
use Rattle.std.proofs.Common.{◌≡◌, ℕ, ◌<◌, ◌≤◌, List, [], ◌++◌, length, take, Result, Ok, Err, IfErr, refl, sym, ap, subst, ◌∙◌, arith}
use Rattle.std.specs.Result.{IsErrAnd}
use Rattle.std.proofs.lemmas.List.{take_all}
use Rattle.logging.specs.Device.{Device}
use Rattle.logging.specs.Log.{FailsOver, Log, with_safe}
use Rattle.logging.specs.declared.fault.LogFault.{LogFault}
use Rattle.logging.specs.declared.fault.LogFault.TheVariants.{DeviceFailed}

-- all of a piece is a beginning of it
pub whole_taken : (piece : List ℕ) → take (length piece) piece ≡ piece
whole_taken piece = take_all (length piece) piece (omega arith)

-- what was written behind nothing
pub written_alone : (slice out cleared frame : List ℕ) → slice ≡ out → out ≡ cleared ++ frame → cleared ≡ [] → slice ≡ frame
written_alone slice out cleared frame p q r = p ∙ q ∙ ap (λ (x : List ℕ). x ++ frame) r

-- what was seen of the log before, and what it is written by
module _ (seen old : Log) (is : seen ≡ old) (spelt : ℕ → List ℕ) (appended : List ℕ) (safe failures : ℕ) where
  abbrev now : Device
  now = record { appended = appended; safe = safe; failures = failures }

  -- the device took what was spelt, and made it safe
  pub is_safe : appended ≡ seen.device.appended ++ spelt seen.seed → safe ≡ length appended → failures ≡ seen.device.failures
      → (record { device = now; seed = seen.seed }) ≡ with_safe (spelt old.seed) old
  is_safe p q r = rw (q, p, r) refl ∙ ap (λ (l : Log). with_safe (spelt l.seed) l) is

  -- the device failed over it
  pub is_given_up : (n : ℕ) × (appended ≡ seen.device.appended ++ take n (spelt seen.seed)) → seen.device.safe ≤ safe
      → seen.device.failures < failures
      → FailsOver (spelt old.seed) old.device now × (seen.seed ≡ old.seed)
  is_given_up part kept counted = (
    subst (λ (l : Log). FailsOver (spelt l.seed) l.device now) is
        (record { taken = part.0; appended = part.1; safe = kept; failures = counted }),
    ap (λ (l : Log). l.seed) is,
  )

-- what holds of a failed device's answer
pub if_failed : (result : Result (Unit {0}) LogFault) → IsErrAnd result (λ fault. fault ≡ DeviceFailed) → (P : LogFault → Type 0)
    → P DeviceFailed → IfErr result P
if_failed (Ok ok) is P holds = absurd is
if_failed (Err fault) is P holds = subst P (sym is) holds
