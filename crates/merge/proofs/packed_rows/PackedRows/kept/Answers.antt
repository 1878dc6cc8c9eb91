use Rattle.std.proofs.Common.{◌∙◌, drop, sym, arith}
use Rattle.merge.specs.PackedLeft.{cursor_of}
use Rattle.merge.proofs.PackedStepLemmas.{change_low, change_next, change_none, change_past, keeps_all, keeps_up_to}
use Rattle.merge.proofs.packed_rows.PackedRows.kept.Goals as goal

pub overflow_sub-sid : goal.overflow_sub-sid
overflow_sub-sid c =
    let p = c.args.self.now in
    let lawful = c.requires.lawful in
    let change = c.in-Some.change in
    let next = change_next (cursor_of p) p.changes.now change lawful.changes_are (sym c.next_change.ensures ∙ c.in-Some.is) in
    let low = change_low (cursor_of p) lawful.cursor change (drop 1 p.changes.now) next in
    omega (arith, low, c.sid.ensures, next.is.sid_is)

pub returns-in-Some : goal.returns-in-Some
returns-in-Some c =
    let p = c.args.self.now in
    let lawful = c.requires.lawful in
    let change = c.in-Some.change in
    let next = change_next (cursor_of p) p.changes.now change lawful.changes_are (sym c.next_change.ensures ∙ c.in-Some.is) in
    let past = change_past (cursor_of p) lawful.cursor change (drop 1 p.changes.now) next (c.requires.deleted, c.requires.inserted) in
    let sid = c.sid.ensures ∙ next.is.sid_is in
    record {
      kept = keeps_up_to (cursor_of p) c.args.most c.min.result lawful.cursor change (drop 1 p.changes.now) next
          (omega (arith, c.min.ensures)) (omega (arith, c.min.ensures, sid, past)) (λ some. omega (arith, c.min.ensures, sid, past, some));
    }

pub returns-in-None : goal.returns-in-None
returns-in-None c =
    let p = c.args.self.now in
    let lawful = c.requires.lawful in
    let none = change_none (cursor_of p) p.changes.now lawful.changes_are (sym c.next_change.ensures ∙ c.in-None.is) in
    record { kept = keeps_all (cursor_of p) none c.args.most lawful.cursor }
