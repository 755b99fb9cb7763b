use Rattle.std.proofs.Common.{refl}
use Rattle.source_files.proofs.Readers.{marks_of}
use Rattle.source_files.proofs.reader.ask.Goals as goal

pub returns-clause-marked : goal.returns-clause-marked
returns-clause-marked c =
    marks_of c.args.path c.in_ok-insert.field-0 c.args.reader.now (record { texts = c.args.reader.now.texts; depths = c.args.reader.now.depths; asked = c.insert.new.self; refused = c.args.reader.now.refused })
    refl refl refl c.in_ok-insert.ensures.added c.in_ok-insert.ensures.updates
