use Rattle.std.proofs.Common.{sym, ap, ◌∙◌}
use Rattle.ref_heap.specs.declared.words.Words.TheInside.{Inside}
use Rattle.ref_heap.specs.Words.{cell_of}
use Rattle.ref_heap.specs.Kept.{content_of}
use Rattle.ref_heap.proofs.Naming.{wide_set, compact_set}
use Rattle.ref_heap.proofs.words.Words.set.Goals as goal
use Rattle.ref_heap.proofs.words.Words.set.Goals.{in-Wide, in-Compact}

pub returns : goal.returns
returns c = elim c.match-self.branch [
  | in-Wide w ↦
      ap (λ (a : Inside). content_of a.kept) w.self-inside-is
      ∙ wide_set w.in-Wide.words.items w.put_word.new.words.items c.args.i c.args.word c.args.self.now (sym (ap content_of w.in-Wide.is) ∙ c.self.view_is) w.put_word.ensures
  | in-Compact w ↦
      ap (λ (a : Inside). content_of a.kept) w.self-inside-is
      ∙ compact_set w.in-Compact.numbers.items w.put_number.new.numbers.items c.args.i (cell_of c.args.word) c.args.self.now (sym (ap content_of w.in-Compact.is) ∙ c.self.view_is) w.put_number.ensures
]
