use Rattle.std.proofs.Common.{sym, ap, ◌∙◌}
use Rattle.std.specs.Prelude.{map}
use Rattle.ref_heap.specs.declared.word.Word.TheVariants.{Plain}
use Rattle.ref_heap.specs.Kept.{content_of}
use Rattle.ref_heap.proofs.Naming.{widened_words}
use Rattle.ref_heap.proofs.words.Words.widen.Goals as goal

pub returns-clause-ok : goal.returns-clause-ok
returns-clause-ok c = widened_words c.in_ok-words-in-Compact.words.items c.in-Compact.numbers.items c.args.self.now (sym (ap content_of c.in-Compact.is) ∙ c.self.view_is) (c.in_ok-words-in-Compact.ensures ∙ ap (map Plain) c.deref.ensures.value)
