use Rattle.std.proofs.Common.{length}
use Rattle.limbo_lexer.specs.declared.token.Mark.TheVariants as mark
use Rattle.limbo_tree.specs.View.{name_of}
use Rattle.limbo_reading.specs.Reading.{kinds, after_mark}
use Rattle.limbo_reading.specs.Lists.{items}
use Rattle.limbo_reading.proofs.Loops.{Reading}
use Rattle.limbo_decl_parser.specs.Decls.{pname_at}
use Rattle.limbo_decl_parser.proofs.params.expect_pnames.Given as goal

-- the list so far, and what is left
abbrev pub invariant-names : goal.invariant-names
invariant-names l = Reading name_of pname_at (after_mark mark.Comma) (items pname_at (after_mark mark.Comma) (kinds l.fn.tokens)) l.names.items (kinds l.rest)

abbrev pub decreases-names : goal.decreases-names
decreases-names l = length (kinds l.rest)
