use Rattle.std.proofs.Common.{[], ◌∷◌, ◌++◌, ap, ◌∙◌, append_assoc}
use Rattle.codec.proofs.KeptLemmas.{kept_more}
use Rattle.codec.proofs.spelling.append_part.Goals as goal

pub returns-in_err-append_entries-clause-kept : goal.returns-in_err-append_entries-clause-kept
returns-in_err-append_entries-clause-kept c =
    let old = c.args.out.now.items in
    let word = c.to_be_bytes.result in
    let room = 0 ∷ 0 ∷ 0 ∷ 0 ∷ [] in
    kept_more old (word ++ room) c.append_entries.new.out.items c.extend_from_slice-2.new.self.items
    (c.in_ok-extend_from_slice-2.ensures.items ∙ ap (λ xs. xs ++ room) c.in_ok-extend_from_slice.ensures.items ∙ append_assoc old word room)
    c.in_err-append_entries.ensures.kept
