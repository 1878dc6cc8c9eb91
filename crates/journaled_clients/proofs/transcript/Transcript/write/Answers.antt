use Rattle.std.proofs.Common.{◌∙◌, ◌||◌, ℕ, List, [], ◌∷◌, ap, subst, arith}
use Rattle.std.specs.Io.KnownBytes.{Appends}
use Rattle.pdtcli.specs.Output.{is_refused, lines_text}
use Rattle.journaled_clients.specs.Transcripts.{Transcribed}
use Rattle.journaled_clients.proofs.TranscriptLemmas.{IsTranscript-more, none-of}
use Rattle.journaled_clients.proofs.transcript.Transcript.write.Goals as goal
use Rattle.journaled_clients.proofs.transcript.Transcript.write.Goals.{then-number, else-number}

-- the line is whole, behind those before it
pub invariant_of-self : goal.invariant_of-self
invariant_of-self g c =
    let o = g.O.Opening.opened.manager in
    let names = g.O.TranscriptId.names in
    let before = g.O.TranscriptId.before in
    let was = c.self.inside in
    let now = c.if-number.self-inside in
    let out = c.show_reply.new.out in
    let old : Transcribed = record { bytes = g.W.Write.contents was.out; safe = was.reader; refused = was.refused; fault = was.fault } in
    let new : Transcribed =
    record { bytes = g.W.Write.contents out; safe = now.reader; refused = now.refused || c.is_refused.result; fault = now.fault } in
    let none = none-of was.fault (λ x is. c.in_default.not-Some x is) in
    let text =
    subst (λ (clients : List (List ℕ)). Appends (g.W.Write.contents now.out) (g.W.Write.contents out) (lines_text clients (c.args.line.now ∷ [])))
    c.requires.names c.in-Ok.ensures in
    elim c.if-number.branch [
      | then-number w ↦
          let reader = ap (λ s. s.reader) w.self-inside-is in
          IsTranscript-more o names before old new c.args.reader c.args.line.now c.self.invariant none
          (ap (λ s. s.fault) w.self-inside-is ∙ none)
          (omega (arith, reader, w.if-number.true, c.number.ensures, c.number-2.ensures)) (omega (arith, reader)) c.requires.reported
          (subst (λ w. Appends (g.W.Write.contents w) (g.W.Write.contents out) (lines_text names (c.args.line.now ∷ [])))
          (ap (λ s. s.out) w.self-inside-is) text)
          (ap (λ s. s.refused || c.is_refused.result) w.self-inside-is ∙ ap (λ b. was.refused || b) c.is_refused.ensures)
      | else-number w ↦
          let reader = ap (λ s. s.reader) w.self-inside-is in
          IsTranscript-more o names before old new c.args.reader c.args.line.now c.self.invariant none
          (ap (λ s. s.fault) w.self-inside-is ∙ none)
          (omega (arith, reader)) (omega (arith, reader, w.if-number.false, c.number.ensures, c.number-2.ensures)) c.requires.reported
          (subst (λ w. Appends (g.W.Write.contents w) (g.W.Write.contents out) (lines_text names (c.args.line.now ∷ [])))
          (ap (λ s. s.out) w.self-inside-is) text)
          (ap (λ s. s.refused || c.is_refused.result) w.self-inside-is ∙ ap (λ b. was.refused || b) c.is_refused.ensures)
    ]
