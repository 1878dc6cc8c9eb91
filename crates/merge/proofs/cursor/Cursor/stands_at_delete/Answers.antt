use Rattle.std.proofs.Common.{◌∙◌, sym, ap, arith}
use Rattle.std.specs.Option.{option_copied}
use Rattle.merge.proofs.CursorLemmas.{not_same, starts-none, starts-same, starts-other}
use Rattle.merge.proofs.cursor.Cursor.stands_at_delete.Goals as goal
use Rattle.std.proofs.lemmas.Grind.{common_steps}

pub returns-in-None : goal.returns-in-None
returns-in-None c =
    let old = c.args.self.now in
    sym (starts-none old.sid old.tree.entries old.index (sym c.next_entry.ensures ∙ ap option_copied c.in-None.is))

pub returns-then-sid : goal.returns-then-sid
returns-then-sid c = grind (arith, common_steps, c.is_delete.ensures, c.next_entry.ensures, c.in-Some.is, c.sid.ensures, c.if-sid.true, c.sid-in-Some.ensures, starts-same)

pub returns-else-sid : goal.returns-else-sid
returns-else-sid c = grind (arith, common_steps, c.if-sid.false, c.sid.ensures, c.sid-in-Some.ensures, c.next_entry.ensures, c.in-Some.is, not_same, starts-other)
