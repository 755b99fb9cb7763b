use Rattle.std.proofs.Common.{ap, ◌∙◌}
use Rattle.ref_heap.specs.Store.{with_block, with_content}
use Rattle.ref_heap.specs.Words.{with_more}
use Rattle.dis_strings.proofs.renewing.append.Goals as goal

pub returns-in-Ok-clause-edited : goal.returns-in-Ok-clause-edited
returns-in-Ok-clause-edited c =
    λ s t. record {
      before = t;
      is = c.in-Ok.ensures.ok t.block t.live
          ∙ ap (λ ct. with_block c.args.heap.now c.args.block.serial (with_content t.block (with_more ct c.args.more.now))) t.content;
      outside = c.in-Ok.ensures.outside;
    }
