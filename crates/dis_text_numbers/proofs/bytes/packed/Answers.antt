use Rattle.std.proofs.Common.{refl, sym, ap, ◌∙◌}
use Rattle.dis_memory.specs.Copies.{put_bytes}
use Rattle.dis_text_numbers.specs.Packed.{words_of}
use Rattle.dis_text_numbers.proofs.Packing.{packed_is}
use Rattle.dis_text_numbers.proofs.bytes.packed.Goals as goal

pub returns : goal.returns
returns c =
    let bs = c.args.bytes.now in
    packed_is bs c.put_bytes.new.words.items _ c.requires refl
    (ap (λ ws. put_bytes (words_of ws) 0 bs) (sym c.in_ok-words.ensures) ∙ c.put_bytes.ensures)
