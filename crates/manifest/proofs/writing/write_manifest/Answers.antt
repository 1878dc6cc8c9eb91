use Rattle.std.proofs.Common.{◌≡◌, List, ◌++◌, ℕ, ap, map, ◌∙◌}
use Rattle.std.specs.List.{flat_map}
use Rattle.manifest.specs.Manifest.{body_text, head_text, manifest_now, table_now, table_text, with_end}
use Rattle.manifest.proofs.writing.write_manifest.Goals as goal

pub returns-clause-spelt : goal.returns-clause-spelt
returns-clause-spelt c =
    let m = c.args.manifest.now in
    let head : c.put_head.new.out.items ≡ head_text m.head =
    c.in_ok-put_head.ensures.spelt ∙ ap (λ (front : List ℕ). front ++ head_text m.head) c.new-text.ensures.items in
    let same : flat_map table_text (map table_now c.as_slice.result.now) ≡ flat_map table_text (map table_now m.tables.items) =
    ap (λ ts. flat_map table_text (map table_now ts)) c.as_slice.ensures.value in
    let tables : c.put_tables.new.out.items ≡ body_text (manifest_now m) =
    c.in_ok-put_tables.ensures.spelt ∙ ap (λ (front : List ℕ). front ++ flat_map table_text (map table_now c.as_slice.result.now)) head
    ∙ ap (λ (back : List ℕ). head_text m.head ++ back) same in
    c.in_ok-put_end.ensures ∙ ap with_end tables
