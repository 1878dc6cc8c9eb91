use Rattle.std.proofs.Common.{subst}
use Rattle.std.specs.List.{All}
use Rattle.std.proofs.lemmas.List.Elements.{All-tail}
use Rattle.codec.specs.Fit.{EntryFits}
use Rattle.codec.specs.Payload.{entries_bytes}
use Rattle.codec.proofs.KeptLemmas.{kept_more, written_more}
use Rattle.codec.proofs.spelling.append_entries.Goals as goal

pub loop-entry-preserved : goal.loop-entry-preserved
loop-entry-preserved c =
    let P = EntryFits c.args.schema.now in
    let entry = c.in-Some.entry.now in
    let rest = c.next.new.self in
    let steps = c.in-Some.ensures.steps in
    record {
      fits = All-tail P entry rest (subst (All P) steps c.loop-entry.invariant.fits);
      written =
          written_more c.args.out.now.items c.loop-entry.out.items c.append_entry.new.out.items c.args.tree.now.entries
          c.loop-entry.entry-iterator rest entry c.loop-entry.invariant.written steps c.in_ok-append_entry.ensures.ok
          c.in_ok-append_entry.ensures.plain;
    }

pub returns-in_err-append_entry-clause-kept : goal.returns-in_err-append_entry-clause-kept
returns-in_err-append_entry-clause-kept c =
    kept_more c.args.out.now.items (entries_bytes c.loop-entry.invariant.written.front) c.append_entry.new.out.items
    c.loop-entry.out.items c.loop-entry.invariant.written.spelt c.in_err-append_entry.ensures.kept
