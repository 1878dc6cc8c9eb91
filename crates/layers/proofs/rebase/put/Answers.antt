use Rattle.std.proofs.Common.{◌+◌, ◌++◌, ◌∷◌, [], List, sym, ap, ◌∙◌, arith}
use Rattle.std.proofs.lemmas.Option.{slice_get_within}
use Rattle.model.specs.declared.entry.Entry.{Entry}
use Rattle.model.specs.Entries.{entry_at}
use Rattle.layers.specs.Passing.{put_entries}
use Rattle.layers.proofs.SerialLemmas.{none_if, some_if, put_none, put_first, put_more}
use Rattle.layers.proofs.rebase.put.Goals as goal
use Rattle.layers.proofs.rebase.put.Goals.{then-is_empty+else-sid+in_ok-entries, else-is_empty}
use Rattle.std.proofs.lemmas.Grind.{common_steps}

pub returns-then-sid : goal.returns-then-sid
returns-then-sid c =
    grind (arith, common_steps, c.is_empty.ensures, c.if-is_empty.true, c.requires, c.if-sid.true, c.sid.ensures, none_if, put_none)

pub first_entries-requires : goal.first_entries-requires
first_entries-requires c = omega (arith, c.requires, slice_get_within)

pub returns : goal.returns
returns c =
    let n = c.args.index in
    let own = c.args.tree.now.entries in
    let out = c.args.entries.now.items in
    let moved = entry_at c.args.sid c.args.entry.now.change in
    let here = c.if-is_empty.entries.items in
    let put = c.in_ok-push.ensures.items ∙ ap (λ (m : Entry). here ++ m ∷ []) c.in_ok-with_sid.ensures in
    ap (put_entries (n + 1) own) put
    ∙ elim c.if-is_empty.branch [
      | then-is_empty+else-sid+in_ok-entries w ↦
          let none = none_if c.args.entries.now.len out c.args.entries.now.ok.0 (sym c.is_empty.ensures ∙ w.if-is_empty.true) in
          let first = ap (λ v. v.items) w.entries-is ∙ w.in_ok-entries.ensures.entries in
          ap (λ (es : List Entry). put_entries (n + 1) own (es ++ moved ∷ [])) first ∙ put_first n own out moved none
      | else-is_empty w ↦
          let some = some_if c.args.entries.now.len out c.args.entries.now.ok.0 (sym c.is_empty.ensures ∙ w.if-is_empty.false) in
          ap (λ v. put_entries (n + 1) own (v.items ++ moved ∷ [])) w.entries-is ∙ put_more n own out moved some
    ]
