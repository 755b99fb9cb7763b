use Rattle.std.proofs.Common.{ap, ◌∙◌}
use Rattle.ref_heap.specs.Words.{cells, naming}
use Rattle.ref_heap.proofs.Naming.{plain_names}
use Rattle.dis_opening.proofs.making.put_text.Goals as goal

pub put_new-requires-clause-bare : goal.put_new-requires-clause-bare
put_new-requires-clause-bare c = λ n. ap (λ w. naming (cells w) n) c.compact.ensures ∙ plain_names c.in_ok-codes.codes.items n
