use Rattle.std.proofs.Common.{sym, ◌∙◌}
use Rattle.dis_places.specs.Regions.{words_here}
use Rattle.dis_moves.proofs.Moved.{bytes_fault, bytes_put, whole_fault, whole_plain, whole_put}
use Rattle.dis_moves.proofs.moves.moved_words.Goals as goal

pub returns-then-is_whole-clause-put : goal.returns-then-is_whole-clause-put
returns-then-is_whole-clause-put c =
    whole_put (words_here c.args.memory.now.heap c.args.process.now c.args.source) c.args.from (words_here c.args.memory.now.heap c.args.process.now c.args.target) c.args.to c.args.count
    c.plain_words.result (sym c.is_whole.ensures ∙ c.if-is_whole.true) c.plain_words.ensures

pub returns-then-is_whole-clause-plain : goal.returns-then-is_whole-clause-plain
returns-then-is_whole-clause-plain c =
    whole_plain (words_here c.args.memory.now.heap c.args.process.now c.args.source) c.args.from (words_here c.args.memory.now.heap c.args.process.now c.args.target) c.args.to c.args.count
    c.plain_words.result (sym c.is_whole.ensures ∙ c.if-is_whole.true) c.plain_words.ensures

pub returns-then-is_whole-clause-fault : goal.returns-then-is_whole-clause-fault
returns-then-is_whole-clause-fault c =
    whole_fault (words_here c.args.memory.now.heap c.args.process.now c.args.source) c.args.from (words_here c.args.memory.now.heap c.args.process.now c.args.target) c.args.to c.args.count
    c.plain_words.result (sym c.is_whole.ensures ∙ c.if-is_whole.true) c.plain_words.ensures

pub returns-else-is_whole-clause-put : goal.returns-else-is_whole-clause-put
returns-else-is_whole-clause-put c =
    bytes_put (words_here c.args.memory.now.heap c.args.process.now c.args.source) c.args.from (words_here c.args.memory.now.heap c.args.process.now c.args.target) c.args.to c.args.count
    c.byte_words.result (sym c.is_whole.ensures ∙ c.if-is_whole.false) c.byte_words.ensures.put

pub returns-else-is_whole-clause-fault : goal.returns-else-is_whole-clause-fault
returns-else-is_whole-clause-fault c =
    bytes_fault (words_here c.args.memory.now.heap c.args.process.now c.args.source) c.args.from (words_here c.args.memory.now.heap c.args.process.now c.args.target) c.args.to c.args.count
    c.byte_words.result (sym c.is_whole.ensures ∙ c.if-is_whole.false) c.byte_words.ensures.fault
