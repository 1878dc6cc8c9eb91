use Rattle.std.proofs.Common.{◌≡◌, ℕ, List, ◌++◌, take, ap, ◌∙◌}
use Rattle.journal.specs.Frame.{frame_bytes}
use Rattle.journal.specs.Reading.{logged_in}
use Rattle.logging.proofs.LogLemmas.{if_failed, is_given_up, is_safe, written_alone}
use Rattle.logging.proofs.appender.Appender.log.Goals as goal

pub returns-clause-ok : goal.returns-clause-ok
returns-clause-ok g c =
    let before = g.D.JournalDevice.appended c.self.inside.device in
    let frame = frame_bytes c.self.inside.seed (logged_in c.args.frame.now) in
    let spelt : c.as_slice.result.now ≡ frame =
    written_alone _ _ _ frame c.as_slice.ensures.value c.in_ok-write_frame.ensures c.clear.ensures.items in
    is_safe _ _ c.self.view_is (λ seed. frame_bytes seed (logged_in c.args.frame.now)) _ _ _
    (c.in_ok-append_safely.ensures.whole ∙ ap (λ (x : List ℕ). before ++ x) spelt)
    c.in_ok-append_safely.ensures.safe c.in_ok-append_safely.ensures.sound

pub returns-in_err-append_safely-clause-err : goal.returns-in_err-append_safely-clause-err
returns-in_err-append_safely-clause-err g c =
    let before = g.D.JournalDevice.appended c.self.inside.device in
    let frame = frame_bytes c.self.inside.seed (logged_in c.args.frame.now) in
    let spelt : c.as_slice.result.now ≡ frame =
    written_alone _ _ _ frame c.as_slice.ensures.value c.in_ok-write_frame.ensures c.clear.ensures.items in
    let held = c.in_err-append_safely.ensures in
    if_failed _ c.from_residual-in_err-append_safely.ensures.1 _
    (is_given_up _ _ c.self.view_is (λ seed. frame_bytes seed (logged_in c.args.frame.now)) _ _ _
    (held.part.0, held.part.1 ∙ ap (λ (x : List ℕ). before ++ take held.part.0 x) spelt) held.kept held.counted)
