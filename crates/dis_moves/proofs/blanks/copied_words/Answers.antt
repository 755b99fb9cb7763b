use Rattle.std.proofs.Common.{sym, ◌∙◌}
use Rattle.dis_places.specs.Regions.{words_here}
use Rattle.dis_moves.proofs.Copied.{bytes_copied, whole_bare, whole_copied}
use Rattle.dis_moves.proofs.blanks.copied_words.Goals as goal

pub returns-then-is_whole-clause-words : goal.returns-then-is_whole-clause-words
returns-then-is_whole-clause-words c =
    whole_copied (words_here c.args.memory.now.heap c.args.process.now c.args.source) c.args.from c.args.count c.plain_words.result
    (sym c.is_whole.ensures ∙ c.if-is_whole.true) c.plain_words.ensures

pub returns-then-is_whole-clause-plain : goal.returns-then-is_whole-clause-plain
returns-then-is_whole-clause-plain c =
    whole_bare (words_here c.args.memory.now.heap c.args.process.now c.args.source) c.args.from c.args.count c.plain_words.result c.plain_words.ensures

pub returns-else-is_whole-clause-words : goal.returns-else-is_whole-clause-words
returns-else-is_whole-clause-words c =
    bytes_copied (words_here c.args.memory.now.heap c.args.process.now c.args.source) c.args.from c.args.count c.byte_words.result
    (sym c.is_whole.ensures ∙ c.if-is_whole.false) c.byte_words.ensures.words
