use Rattle.std.proofs.Common.{◌≡◌, ℕ, List, [], ◌∷◌, ◌++◌, append_assoc}
use Rattle.frames.proofs.writing.write_head.Goals as goal

head_joined : (old a b c d : List ℕ) (flag : ℕ)
    → ((((old ++ 66 ∷ []) ++ a) ++ b) ++ flag ∷ []) ++ c ++ d ≡ old ++ (66 ∷ (a ++ (b ++ flag ∷ (c ++ d))))
head_joined old a b c d flag = simp append_assoc

pub returns : goal.returns
returns c =
    rw (
      c.in_ok-extend_from_slice-4.ensures.items,
      c.in_ok-extend_from_slice-3.ensures.items,
      c.in_ok-push-2.ensures.items,
      c.in_ok-extend_from_slice-2.ensures.items,
      c.in_ok-extend_from_slice.ensures.items,
      c.in_ok-push.ensures.items,
      c.to_be_bytes-4.ensures,
      c.to_be_bytes-3.ensures,
      c.to_be_bytes-2.ensures,
      c.to_be_bytes.ensures,
    )
    (head_joined c.args.out.now.items _ _ _ _ c.args.head.now.flag)
