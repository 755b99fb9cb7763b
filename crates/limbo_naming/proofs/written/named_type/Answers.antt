use Rattle.std.proofs.Common.{ap, ◌∙◌}
use Rattle.limbo_tree.proofs.Exprs.{view_type-Named, view_type-Ref}
use Rattle.limbo_tree.specs.View.{view_type}
use Rattle.limbo_naming.specs.Qualified.{named_type}
use Rattle.limbo_naming.proofs.Types.{no_name}
use Rattle.limbo_naming.proofs.written.named_type.Goals as goal

pub returns-in-Named-clause-some : goal.returns-in-Named-clause-some
returns-in-Named-clause-some c =
    ap (λ t. named_type (view_type t)) c.in-Named.is ∙ ap named_type (view_type-Named c.in-Named.name c.in-Named.span)

pub returns-in-Ref-clause-some : goal.returns-in-Ref-clause-some
returns-in-Ref-clause-some c =
    ap (λ t. named_type (view_type t)) c.in-Ref.is ∙ ap named_type (view_type-Ref c.in-Ref.of c.in-Ref.span)

pub returns-in_default : goal.returns-in_default
returns-in_default c = record { some = tt; none = no_name c.args.of.now c.in_default.not-Ref c.in_default.not-Named }
