-- A machine of a program's object can begin.
use Rattle.std.proofs.Common.{◌≡◌, Some, None, subst, sym, ap, ◌∙◌}
use Rattle.dis_file.specs.declared.object.Object.{Object}
use Rattle.limbo_typed.specs.Typed.{Module}
use Rattle.dis_meaning.specs.Opening.{StringsSpell, if_found}
use Rattle.dis_counts.specs.Opening.{opened}
use Rattle.code_sim.specs.Keeps.{object_for}
use Rattle.memory_sim.proofs.Keeping.{memory_keeps_meaning}
use Rattle.inferno_top.specs.declared.cause.Aim.TheVariants.{Run}
use Rattle.inferno_top.specs.Running.{IsCompiled}
use Rattle.inferno_top.proofs.Programs.{part_of}

pub opens : (m : Module) (o : Object) → IsCompiled m o → if_found (opened o) ≡ None → ⊥
opens m o c none =
    let spelled : StringsSpell (object_for m) = subst StringsSpell c.made.same c.made.spelled in
    let keeps = memory_keeps_meaning m (part_of Run m c.made.has.part) c.made.has.within.frames spelled in
    let there = ap if_found keeps.begins in
    let bad = sym there ∙ subst (λ (x : Object). if_found (opened x) ≡ None) c.made.same none in
    absurd cc
