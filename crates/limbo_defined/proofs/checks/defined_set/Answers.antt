use Rattle.std.proofs.Common.{◌≡◌, ℕ, ◌<◌, List, length, ap, subst, ◌∙◌, arith}
use Rattle.std.proofs.lemmas.List.{length-map}
use Rattle.limbo_declarations.specs.Names.{AreOnce, IsRepeated}
use Rattle.limbo_top.specs.View.{view_definition, definitions_of}
use Rattle.limbo_defined.specs.Labels.{label, labels}
use Rattle.limbo_defined.specs.Sets.{IsSetOf}
use Rattle.limbo_defined.proofs.Setting.{index_set}
use Rattle.limbo_defined.proofs.Checking.{once_defined, second}
use Rattle.limbo_defined.proofs.checks.defined_set.Goals as goal

pub returns-in-Ok-clause-set : goal.returns-in-Ok-clause-set
returns-in-Ok-clause-set c =
    let e : c.deref.result.now ≡ labels (definitions_of c.args.definitions.now) = c.deref.ensures.value ∙ c.in_ok-labels.ensures in
    subst (λ (z : List (List ℕ)). IsSetOf c.in-Ok.index z) e (index_set c.in-Ok.index c.deref.result.now c.in-Ok.ensures.index)

pub returns-in-Ok-clause-once : goal.returns-in-Ok-clause-once
returns-in-Ok-clause-once c =
    let e : c.deref.result.now ≡ labels (definitions_of c.args.definitions.now) = c.deref.ensures.value ∙ c.in_ok-labels.ensures in
    once_defined (definitions_of c.args.definitions.now) (subst (λ (z : List (List ℕ)). AreOnce z) e c.in-Ok.ensures.once)

pub returns-clause-refused : goal.returns-clause-refused
returns-clause-refused c =
    let e : c.deref.result.now ≡ labels (definitions_of c.args.definitions.now) = c.deref.ensures.value ∙ c.in_ok-labels.ensures in
    let k = c.in-Err-Twice.row in
    let l : k < length c.deref.result.now = c.in-Err-Twice.ensures.within k c.in-Err-Twice.field-0-is in
    let m : length (labels (definitions_of c.args.definitions.now)) ≡ length c.args.definitions.now =
    length-map (definitions_of c.args.definitions.now) (λ d. label d.name d.part) ∙ length-map c.args.definitions.now view_definition in
    let n : k < length c.args.definitions.now = omega (arith, ap length e) in
    let r = subst (λ (z : List (List ℕ)). IsRepeated z k) e (c.in-Err-Twice.ensures.twice k c.in-Err-Twice.field-0-is) in
    λ members rows. second c.args.definitions.now k c.index-definitions-row.result r n c.index-definitions-row.is
