use Rattle.std.proofs.Common.{ap, ◌∙◌}
use Rattle.ref_heap.specs.Words.{cells, compact, naming}
use Rattle.ref_heap.proofs.Naming.{plain_names}
use Rattle.dis_places.specs.Words.{view_cells}
use Rattle.dis_blocks.proofs.Bare.{as_cells}
use Rattle.dis_blocks.proofs.Ranges.{zero_words, words_bare}
use Rattle.dis_blocks.proofs.arrays.array_words.Goals as goal

pub returns-in_ok-numbers-clause-words : goal.returns-in_ok-numbers-clause-words
returns-in_ok-numbers-clause-words c =
    ap (λ w. view_cells (cells w)) c.compact.ensures
    ∙ ap (λ ns. view_cells (cells (compact ns))) (c.in_ok-numbers.ensures {u = tt})
    ∙ zero_words c.args.desc.now c.args.count (c.is_plain.ensures c.if-is_plain.true)

pub returns-in_ok-numbers-clause-bare : goal.returns-in_ok-numbers-clause-bare
returns-in_ok-numbers-clause-bare c = λ n. ap (λ w. naming (cells w) n) c.compact.ensures ∙ plain_names c.in_ok-numbers.numbers.items n

pub returns-in_ok-words-clause-words : goal.returns-in_ok-words-clause-words
returns-in_ok-words-clause-words c =
    ap (λ w. view_cells (cells w)) c.wide.ensures ∙ as_cells c.in_ok-words.words.items ∙ c.in_ok-words.ensures {u = tt}

pub returns-in_ok-words-clause-bare : goal.returns-in_ok-words-clause-bare
returns-in_ok-words-clause-bare c = λ n.
    ap (λ w. naming (cells w) n) c.wide.ensures ∙ words_bare c.args.desc.now c.args.count c.in_ok-words.words.items (c.in_ok-words.ensures {u = tt}) n
