use Rattle.std.proofs.Common.{◌++◌, List, ℕ, [], sym, ap, subst, ◌∙◌, arith}
use Rattle.inputs.specs.Input.{IsTableOf}
use Rattle.headers.specs.Spelling.{header_text}
use Rattle.headers.proofs.HeaderLemmas.{cells_done, cells_step, header_reads, names_more}
use Rattle.headers.proofs.spelling.spell_header.Goals as goal

pub loop-col-preserved : goal.loop-col-preserved
loop-col-preserved c =
    let cell = rw (c.kind_word-kind.ensures, c.key_cols.ensures.count) at c.in_ok-push_cell.ensures in
    record {
      spelt = cells_step c.loop-col.text.items c.push_cell.new.text.items (header_text c.args.schema.now) c.args.schema.now.key_cols
          c.loop-col.col c.args.schema.now.names c.args.schema.now.types _ c.column_type.result c.name-name.ensures c.column_type.ensures cell
          c.loop-col.invariant.spelt;
      names = names_more c.args.schema.now.names c.loop-col.col _ c.loop-col.invariant.names c.name-name.ensures
          (sym c.is_name.ensures ∙ c.if-not-is_name.false);
      within = c.loop-col.invariant.within;
    }

pub returns-clause-spelt : goal.returns-clause-spelt
returns-clause-spelt c =
    let schema = c.args.schema.now in
    c.in_ok-push.ensures.items
    ∙ ap (λ (r : List ℕ). c.loop-col.text.items ++ r) (sym (cells_done schema.key_cols c.loop-col.col schema.names schema.types
    (omega (arith, c.loop-col-test.false, c.loop-col.invariant.within, c.width-col-end.ensures.lawful.named))))
    ∙ c.loop-col.invariant.spelt

pub returns-clause-read : goal.returns-clause-read
returns-clause-read c =
    let schema = c.args.schema.now in
    subst (λ (text : List ℕ). IsTableOf text schema []) (sym (returns-clause-spelt c))
    (header_reads schema c.width-col-end.ensures.lawful (λ i lt. c.loop-col.invariant.names i (omega (
      arith,
      lt,
      c.loop-col-test.false,
      c.loop-col.invariant.within,
      c.width-col-end.ensures.lawful.named,
    ))))
