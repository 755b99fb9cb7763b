use Rattle.dis_meaning.specs.Words.{blank}
use Rattle.dis_memory.specs.Lists.{plain_type}
use Rattle.dis_places.specs.Regions.{words_here}
use Rattle.dis_moves.proofs.Copied.{bytes_then}
use Rattle.dis_moves.proofs.blanks.byte_words.Goals as goal

pub returns-in-Ok-clause-words : goal.returns-in-Ok-clause-words
returns-in-Ok-clause-words c =
    bytes_then (words_here c.args.memory.now.heap c.args.process.now c.args.source) c.args.from (blank (plain_type c.args.count)) c.args.count
    c.in-Ok.bytes.items c.deref.result.now c.words_of.result c.in-Ok.ensures c.deref.ensures.value c.words_of.ensures.words
