use Rattle.std.proofs.Common.{◌∙◌, sym}
use Rattle.merge.specs.PackedLeft.{cursor_of}
use Rattle.merge.proofs.CursorLemmas.{not_same, starts-same}
use Rattle.merge.proofs.PackedStepLemmas.{change_here, change_next, change_none, change_other, modifies_start_none}
use Rattle.merge.proofs.packed_rows.PackedRows.deletes_next.Goals as goal

pub returns-in_default : goal.returns-in_default
returns-in_default c =
    let p = c.args.self.now in
    let none = sym c.next_change.ensures ∙ c.in_default.is in
    sym (modifies_start_none p.sid _ (change_none (cursor_of p) p.changes.now c.requires.changes_are none)).0

pub returns-then-sid-self : goal.returns-then-sid-self
returns-then-sid-self c =
    let p = c.args.self.now in
    let change = c.in-Some.change in
    let next = change_next (cursor_of p) p.changes.now change c.requires.changes_are (sym c.next_change.ensures ∙ c.in-Some.is) in
    let same = sym next.is.sid_is ∙ sym c.sid.ensures ∙ c.if-sid-self.true in
    let here = change_here (cursor_of p) c.requires.cursor change _ next same in
    c.is_delete.ensures
    ∙ next.is.gone_is
    ∙ sym (starts-same p.sid p.tree.now.entries (cursor_of p).index next.entry here same)

pub returns-else-sid-self : goal.returns-else-sid-self
returns-else-sid-self c =
    let p = c.args.self.now in
    let change = c.in-Some.change in
    let next = change_next (cursor_of p) p.changes.now change c.requires.changes_are (sym c.next_change.ensures ∙ c.in-Some.is) in
    let sid = c.sid.ensures ∙ next.is.sid_is in
    not_same c.sid.result p.sid c.if-sid-self.false
    ∙ sym (change_other (cursor_of p) c.requires.cursor change _ next (λ same. c.if-sid-self.false (sid ∙ same))).0
