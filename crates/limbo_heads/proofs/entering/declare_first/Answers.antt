use Rattle.std.proofs.Common.{Option, subst}
use Rattle.std.specs.Prelude.{IsSome}
use Rattle.std.proofs.lemmas.Bool.{false≢true}
use Rattle.limbo_scope.specs.declared.meaning.Meaning.{Meaning}
use Rattle.limbo_heads.proofs.entering.declare_first.Goals as goal

pub unreachable-requires : goal.unreachable-requires
unreachable-requires c =
    false≢true
    (subst (λ (o : Option Meaning). IsSome o) (c.requires.entered c.args.name.now)
    (c.in-Err-Twice.ensures.twice c.in-Err-Twice.field-0-is))
