use Rattle.std.proofs.Common.{sym, ap, ◌∙◌}
use Rattle.ref_heap.specs.Words.{Content, cells, naming}
use Rattle.ref_heap.specs.Kept.{content_of}
use Rattle.ref_heap.proofs.Naming.{plain_names}
use Rattle.ref_heap.proofs.words.Words.references.Goals as goal

pub returns-in-Compact : goal.returns-in-Compact
returns-in-Compact c n = sym (plain_names c.in-Compact.field-0.items n) ∙ ap (λ (w : Content). naming (cells w) n) (sym (ap content_of c.in-Compact.is) ∙ c.self.view_is)
