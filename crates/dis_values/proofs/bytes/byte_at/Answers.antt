use Rattle.std.proofs.Common.{ℕ, List, Some, ◌+◌, ◌∙◌, sym, ap, arith}
use Rattle.std.specs.Prelude.{slice_get}
use Rattle.ref_heap.specs.Store.{at, words_of}
use Rattle.dis_values.specs.Arrays.{part_of}
use Rattle.dis_values.specs.Bytes.{byte_of}
use Rattle.dis_values.proofs.Packed.{bytes_are, bytes_past, bytes_get}
use Rattle.dis_values.proofs.bytes.byte_at.Goals as goal

pub returns-then-i-whole : goal.returns-then-i-whole
returns-then-i-whole c =
    let h = c.args.heap.now in
    let p = part_of h c.args.array.serial in
    let w = c.requires.whole in
    sym (ap (λ (bs : List ℕ). slice_get bs c.args.i) (bytes_are h c.args.array.serial w.block w.live)
    ∙ bytes_past (words_of w.block) p.from p.length c.args.i (omega (arith, c.part-whole.ensures.length)))

pub returns : goal.returns
returns c =
    let h = c.args.heap.now in
    let p = part_of h c.args.array.serial in
    let w = c.requires.whole in
    ap (λ (b : ℕ). Some b) (c.byte_in_block.ensures w.block (ap (at h) c.part-whole.ensures.array ∙ w.live)
    ∙ ap (λ (f : ℕ). byte_of (words_of w.block) (f + c.args.i)) c.part-whole.ensures.from)
    ∙ sym (ap (λ (bs : List ℕ). slice_get bs c.args.i) (bytes_are h c.args.array.serial w.block w.live)
    ∙ bytes_get (words_of w.block) p.from p.length c.args.i (omega (arith, c.part-whole.ensures.length)))
