use Rattle.std.proofs.Common.{◌≡◌, List, length, map, take, ap, ◌∙◌, arith}
use Rattle.std.proofs.lemmas.List.{length-map}
use Rattle.limbo_layout.specs.Adts.{Variant, variant_types}
use Rattle.limbo_layout.specs.View.{view_field, view_variant}
use Rattle.limbo_layout.specs.declared.def.Variant as code_variant
use Rattle.limbo_fields.proofs.Named.{taken, one_tag}
use Rattle.limbo_fields.proofs.part.before_own.Goals as goal

pub returns-in-Some-checked_add-2 : goal.returns-in-Some-checked_add-2
returns-in-Some-checked_add-2 c =
    let picks = c.args.def.now.picks.items in
    let v = c.args.variant in
    let o = c.in-Some.ensures {u = tt} in
    let p : c.in-Some.others ≡ length (variant_types (take v (map view_variant picks))) =
    o ∙ ap (λ (z : List code_variant.Variant). length (variant_types (map view_variant (take v z)))) c.deref.ensures.value
    ∙ ap (λ (z : List Variant). length (variant_types z)) (taken view_variant v picks) in
    let m = length-map picks view_variant in
    let r = c.requires in
    let t = one_tag (map view_variant picks) v (omega arith) in
    let l = c.len.ensures in
    let f = length-map c.args.def.now.fields.items view_field in
    let a = (c.in-Some-checked_add.ensures {u = tt}).1 in
    let b = (c.in-Some-checked_add-2.ensures {u = tt}).1 in
    omega arith
