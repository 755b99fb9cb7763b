use Rattle.std.proofs.Common.{arith, length, ap, ◌∙◌, take, map}
use Rattle.limbo_layout.specs.Adts.{variant_types}
use Rattle.limbo_layout.specs.View.{view_variant}
use Rattle.core_writing.proofs.Numbered.{map_take, fields_length}
use Rattle.core_writing.proofs.moves.first_number.Goals as goal

pub returns-in-Some-checked_add : goal.returns-in-Some-checked_add
returns-in-Some-checked_add c =
    let d = c.args.def.now in
    let before = c.in_ok-before.ensures {u = tt} in
    let front = c.first_variants.ensures in
    let taken = map_take c.args.variant d.picks.items in
    let fields = fields_length d.fields.items in
    let one = c.in-Some.ensures {u = tt} in
    let two = c.in-Some-checked_add.ensures {u = tt} in
    let same = ap (λ vs. length (variant_types vs)) (ap (map view_variant) (front ∙ ap (take c.args.variant) c.deref.ensures.value)
    ∙ taken) in
    omega (arith, before, same, fields, one, two, c.len.ensures, d.fields.ok.0)
