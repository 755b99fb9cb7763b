use Rattle.std.proofs.Common.{◌+◌}
use Rattle.limbo_tree.specs.View.{view_decl}
use Rattle.limbo_reading.specs.Reading.{kinds}
use Rattle.limbo_decl_parser.specs.Decls as decls
use Rattle.limbo_decl_parser.proofs.Places.{decl_keeps, gives_shorter}
use Rattle.limbo_decl_parser.proofs.decl.decl_at.Goals as goal

pub returns-clause-shorter : goal.returns-clause-shorter
returns-clause-shorter c =
    gives_shorter (c.args.budget + 2) (λ x. view_decl x.0.value) (λ x. kinds x.1.now) c.decl_here.result (kinds c.args.tokens.now) (decls.decl_at c.args.budget (kinds c.args.tokens.now)) c.decl_here.ensures (decl_keeps c.args.budget (kinds c.args.tokens.now))
