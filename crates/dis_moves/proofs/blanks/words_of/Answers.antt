use Rattle.dis_places.specs.Words.{view_words}
use Rattle.dis_moves.proofs.Copied.{bytes_bare}
use Rattle.dis_moves.proofs.blanks.words_of.Goals as goal

pub returns-in-Ok-set_bytes-clause-plain : goal.returns-in-Ok-set_bytes-clause-plain
returns-in-Ok-set_bytes-clause-plain c =
    bytes_bare c.args.count (view_words c.in-Ok.row.items) c.args.bytes.now _ (c.in-Ok.ensures {u = tt}) c.in-Ok-set_bytes.ensures
