use Rattle.std.proofs.Common.{length}
use Rattle.limbo_reading.specs.Reading.{kinds}
use Rattle.limbo_parser.proofs.Clauses.{is_found, is_only, is_refused, is_syntax, is_deep, is_within, kinds_length}
use Rattle.limbo_parser.proofs.tree.parse.Goals as goal

pub returns-clause-found : goal.returns-clause-found
returns-clause-found c = rw c.told.ensures (is_found c.args.included (kinds c.args.tokens.now) (length c.args.tokens.now) c.tree_at-read.result c.tree_at-read.ensures)

pub returns-clause-only : goal.returns-clause-only
returns-clause-only c = rw c.told.ensures (is_only c.args.included (kinds c.args.tokens.now) (length c.args.tokens.now) c.tree_at-read.result c.tree_at-read.ensures)

pub returns-clause-refused : goal.returns-clause-refused
returns-clause-refused c = rw c.told.ensures (is_refused c.args.included (kinds c.args.tokens.now) (length c.args.tokens.now) c.tree_at-read.result c.tree_at-read.ensures)

pub returns-clause-syntax : goal.returns-clause-syntax
returns-clause-syntax c = rw c.told.ensures (is_syntax c.args.included (kinds c.args.tokens.now) (length c.args.tokens.now) c.tree_at-read.result c.tree_at-read.ensures)

pub returns-clause-too_deep : goal.returns-clause-too_deep
returns-clause-too_deep c = rw c.told.ensures (is_deep c.args.included (kinds c.args.tokens.now) (length c.args.tokens.now) c.tree_at-read.result c.tree_at-read.ensures (kinds_length c.args.tokens.now))

pub returns-clause-within : goal.returns-clause-within
returns-clause-within c = rw c.told.ensures (is_within (length c.args.tokens.now) c.tree_at-read.result)
