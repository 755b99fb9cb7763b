use Rattle.std.proofs.Common.{◌≡◌, Ok, Err, sym, ap, ◌∙◌, arith}
use Rattle.ref_heap.specs.Store.{with_block, with_content}
use Rattle.ref_heap.specs.Words.{plain, with_cell}
use Rattle.dis_strings.proofs.Edits.{text_names_none, text_takes}
use Rattle.dis_strings.proofs.renewing.put_character.Goals as goal

pub unreachable-requires : goal.unreachable-requires
unreachable-requires c =
    let r = c.requires in
    let a = text_takes c.args.heap.now c.args.block.serial r.0 c.args.at c.args.code r.1 r.2 in
    let b = c.set_word.ensures.answer in
    let e : Ok tt ≡ Err c.in-Err.field-0 = sym a ∙ sym b ∙ c.in-Err.is in
    cc

pub returns : goal.returns
returns c =
    λ s t. record {
      before = t;
      is = c.in-Ok.ensures.ok t.block t.live
          ∙ ap (λ ct. with_block c.args.heap.now c.args.block.serial (with_content t.block (with_cell ct c.args.at (plain c.args.code)))) t.content;
      outside = λ n.
          let a = text_names_none c.args.heap.now c.args.block.serial s c.args.at n t in
          let b = c.in-Ok.ensures.outside n in
          omega (arith, a, b);
    }
