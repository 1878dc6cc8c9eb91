use Rattle.std.proofs.Common.{List, ℕ, ◌++◌, length, sym, ap, ◌∙◌}
use Rattle.logging.proofs.LogLemmas.{whole_taken}
use Rattle.logging.proofs.appender.append_safely.Goals as goal

-- the device may have taken the whole piece, and not have made it safe
pub returns-then-is_err-clause-part : goal.returns-then-is_err-clause-part
returns-then-is_err-clause-part g c = (
  length c.args.bytes.now,
  c.sync.ensures.same ∙ c.in_ok-append.ensures.whole
      ∙ ap (λ (x : List ℕ). g.D.JournalDevice.appended c.args.device.now ++ x) (sym (whole_taken c.args.bytes.now)),
)
