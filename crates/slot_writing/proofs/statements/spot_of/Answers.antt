use Rattle.std.proofs.Common.{ap, ◌∙◌}
use Rattle.slot_code.specs.Code.{Variable}
use Rattle.typed_meaning.specs.Values.{kind_of}
use Rattle.slot_writing.proofs.Declared.{kind_there}
use Rattle.slot_writing.proofs.statements.spot_of.Goals as goal

pub returns-in-Some : goal.returns-in-Some
returns-in-Some c =
    ap (λ k. Variable k c.args.variable) (c.kind_of-kind.ensures
    ∙ ap kind_of (kind_there c.args.variables.now c.args.variable c.in-Some.declared.now c.in-Some.ensures.lookup.3.0
    c.in-Some.ensures.lookup.1))
