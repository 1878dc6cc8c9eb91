use Rattle.std.proofs.Common.{◌≡◌, ℕ, ◌-◌, List, ◌∷◌, ◌++◌, length, take, drop, append_assoc, refl, sym, ap, ◌∙◌, arith}
use Rattle.std.specs.Int.{w16, w32, to_be_bytes}
use Rattle.std.proofs.lemmas.List.{length-append}
use Rattle.blocks.specs.Encoding.{encoded_of}
use Rattle.frames.specs.declared.frame.Format.TheVariants.{Second}
use Rattle.frames.specs.declared.frame.Head.{Head}
use Rattle.frames.specs.Column.{head_bytes, flag_byte}
use Rattle.frames.proofs.AgainLemmas.{in_short}
use Rattle.frames.proofs.writing.write_part.Goals as goal
use Rattle.frames.proofs.writing.write_part.Goals.{then-last, else-last}
use Rattle.std.proofs.lemmas.Grind.{common_steps}

-- the length is the last of the numbers in front of a payload
size_last : (old g n c size : List ℕ) (flag : ℕ)
    → old ++ (66 ∷ (g ++ (n ++ flag ∷ (c ++ size)))) ≡ (old ++ (66 ∷ (g ++ (n ++ flag ∷ c)))) ++ size
size_last old g n c size flag = simp append_assoc

-- four bytes in front of a payload, put over others
put_over : (front none size payload whole : List ℕ) (begin : ℕ) → whole ≡ front ++ none → length none ≡ 4 → begin ≡ length whole
    → take (begin - 4) (whole ++ payload) ++ (size ++ drop begin (whole ++ payload)) ≡ (front ++ size) ++ payload
put_over front none size payload whole begin is four at = grind (arith, common_steps)

part_written : (old whole payload : List ℕ) (h : Head) (begin size : ℕ) → whole ≡ old ++ head_bytes (record h { size = 0 })
    → begin ≡ length whole
    → take (begin - 4) (whole ++ payload) ++ (to_be_bytes w32 size ++ drop begin (whole ++ payload))
    ≡ old ++ (head_bytes (record h { size = size }) ++ payload)
part_written old whole payload h begin size is at =
    let g = to_be_bytes w32 h.generation in
    let n = to_be_bytes w32 h.number in
    let k = to_be_bytes w16 h.count in
    put_over (old ++ (66 ∷ (g ++ (n ++ h.flag ∷ k)))) (to_be_bytes w32 0) (to_be_bytes w32 size) payload whole begin
    (is ∙ size_last old g n k (to_be_bytes w32 0) h.flag) refl at
    ∙ ap (λ xs. xs ++ payload) (sym (size_last old g n k (to_be_bytes w32 size) h.flag))
    ∙ append_assoc old (head_bytes (record h { size = size })) payload

pub overflow_cast-size : goal.overflow_cast-size
overflow_cast-size c =
    let short =
    in_short Second c.args.block.now
    (record { few = omega (arith, c.len.ensures.len, c.len.ensures.few); fit = c.len.ensures.fit }) in
    record {
      fits = omega (
        arith,
        short,
        ap length c.in_ok-write_block2.ensures.ok,
        length-append c.write_head.new.out.items (encoded_of c.args.block.now.ty c.args.block.now.values),
        c.len-begin.ensures,
        c.len-2.ensures,
        c.write_head.new.out.ok.0,
        c.write_block2.new.out.ok.0,
      );
    }

pub returns : goal.returns
returns c =
    let payload = encoded_of c.args.block.now.ty c.args.block.now.values in
    let head : Head =
    record {
      generation = c.args.generation;
      number = c.args.number;
      flag = flag_byte c.args.last;
      count = length c.args.block.now.values;
      size = 0;
    } in
    let flag-is : c.if-last.head ≡ flag_byte c.args.last =
    elim c.if-last.branch [
      | then-last w ↦ w.head-is ∙ sym (ap flag_byte w.if-last.true)
      | else-last w ↦ w.head-is ∙ sym (ap flag_byte w.if-last.false)
    ] in
    let size : c.len-2.result - c.len-begin.result ≡ length payload =
    omega (
      arith,
      ap length c.in_ok-write_block2.ensures.ok,
      length-append c.write_head.new.out.items payload,
      c.len-begin.ensures,
      c.len-2.ensures,
      c.write_head.new.out.ok.0,
      c.write_block2.new.out.ok.0,
    )
    in
    c.set_size.ensures
    ∙ (λ i. take (c.len-begin.result - 4) (c.in_ok-write_block2.ensures.ok i)
    ++ (to_be_bytes w32 (size i) ++ drop c.len-begin.result (c.in_ok-write_block2.ensures.ok i)))
    ∙ part_written c.args.out.now.items c.write_head.new.out.items payload head c.len-begin.result (length payload)
    (c.in_ok-write_head.ensures
    ∙ (λ i. c.args.out.now.items ++ head_bytes (record head { flag = flag-is i; count = c.len.ensures.len i })))
    (omega (arith, c.len-begin.ensures, c.write_head.new.out.ok.0))
