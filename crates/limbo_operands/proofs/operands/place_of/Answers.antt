use Rattle.std.proofs.lemmas.Option.{IfSome_then}
use Rattle.limbo_typed.specs.View.{view_place}
use Rattle.limbo_operands.proofs.Nodes.{none_also, reads_of, no_place_of}
use Rattle.limbo_operands.proofs.operands.place_of.Goals as goal

pub returns-clause-found : goal.returns-clause-found
returns-clause-found c =
    IfSome_then c.place_in.result c.place_in.ensures.found
    (λ p h. reads_of c.args.e.value c.into_inner.result c.into_inner.ensures (view_place p.value) h)

pub returns-clause-none : goal.returns-clause-none
returns-clause-none c =
    none_also c.place_in.result _ _ (no_place_of c.args.e.value c.into_inner.result c.into_inner.ensures) c.place_in.ensures.none
