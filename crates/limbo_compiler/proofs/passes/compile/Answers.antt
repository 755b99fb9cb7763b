use Rattle.std.proofs.Common.{◌≡◌, ◌<◌, length, sym, subst, ap, ◌∙◌, arith}
use Rattle.slot_code.specs.Code.{Module}
use Rattle.limbo_typed.specs.View.{view_module}
use Rattle.typed_lower.specs.Statements.{module_code}
use Rattle.dis_objects.specs.Words.{AllSmall}
use Rattle.dis_objects.specs.Proper.{IsProper}
use Rattle.part_code.proofs.Functions.{part_is_proper}
use Rattle.code_sim.proofs.Small.{all_small}
use Rattle.code_sim.proofs.Strings.{spelled_all}
use Rattle.dis_file.specs.declared.object.Object.{Object}
use Rattle.dis_format.specs.Objects.{IsValid}
use Rattle.dis_meaning.specs.Opening.{StringsSpell}
use Rattle.dis_objects.specs.Objects.{object_of}
use Rattle.code_sim.specs.Keeps.{object_for}
use Rattle.limbo_compiler.specs.Limits.{IsWithin}
use Rattle.limbo_compiler.proofs.Valid.{objects_valid}
use Rattle.limbo_compiler.proofs.passes.compile.Goals as goal

pub generate-requires-clause-proper : goal.generate-requires-clause-proper
generate-requires-clause-proper c =
    let m = view_module c.args.module.now in
    subst (λ (k : Module). IsProper k) (sym (c.in-Ok.ensures {u = tt}).code) (part_is_proper m c.requires.part)

pub generate-requires-clause-small : goal.generate-requires-clause-small
generate-requires-clause-small c =
    let m = view_module c.args.module.now in
    let small : AllSmall (module_code m) = all_small m c.requires.part (c.in-Ok.ensures {u = tt}).fits in
    subst (λ (k : Module). AllSmall k) (sym (c.in-Ok.ensures {u = tt}).code) small

pub returns-in-Ok-generate-clause-spelled : goal.returns-in-Ok-generate-clause-spelled
returns-in-Ok-generate-clause-spelled c = λ n item there string. spelled_all c.in-Ok-generate.object.items (c.in-Ok-generate.ensures {u = tt}).spelled n item there string

pub returns-in-Ok-generate-clause-valid : goal.returns-in-Ok-generate-clause-valid
returns-in-Ok-generate-clause-valid c =
    let m = view_module c.args.module.now in
    let o : Object = c.in-Ok-generate.object in
    let lowered = c.in-Ok.ensures {u = tt} in
    let made = c.in-Ok-generate.ensures {u = tt} in
    let same : o ≡ object_for m = made.object ∙ ap (λ (k : Module). object_of k) lowered.code in
    let long = ap (λ (p : Object). length p.insts) same in
    let few = made.fits in
    let within : IsWithin m = record { frames = lowered.fits; code = λ large. omega (arith, large, few, long) } in
    let spell : StringsSpell o = λ n item there string. spelled_all o.items made.spelled n item there string in
    subst (λ (p : Object). IsValid p) (sym same)
    (objects_valid m c.requires.part within (subst (λ (p : Object). StringsSpell p) same spell))
