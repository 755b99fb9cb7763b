-- The object of what is told of a typed module, and why there is none.
use Rattle.std.proofs.Common.{◌≡◌, ℕ, List, Bool, true, false, not, refl, subst}
use Rattle.inf_ports.specs.Outside.{Told}
use Rattle.limbo_tree.specs.Sources.{Source}
use Rattle.limbo_typed.specs.Typed.{Module}
use Rattle.limbo_typed.specs.View.{view_module}
use Rattle.limbo_typed.specs.declared.module.TypedModule.{TypedModule}
use Rattle.dis_file.specs.declared.object.Object.{Object}
use Rattle.dis_format.specs.Objects.{IsValid}
use Rattle.dis_meaning.specs.Opening.{StringsSpell}
use Rattle.code_sim.specs.Keeps.{object_for}
use Rattle.typed_part.specs.Part.{is_part, has_init}
use Rattle.typed_part.proofs.Tests.{left}
use Rattle.typed_lower.specs.Sizes as sizes
use Rattle.limbo_compiler.specs.Limits as limits
use Rattle.limbo_compiler.specs.Limits.{IsWithin}
use Rattle.limbo_compiler.specs.declared.passes.CompileFault.{CompileFault}
use Rattle.limbo_compiler.specs.declared.passes.CompileFault.TheVariants as compile
use Rattle.source_modules.specs.Given.{IsSort, Gives}
use Rattle.source_modules.specs.declared.checking.Checked.{Checked}
use Rattle.inferno_top.specs.Built.{IsModuleFor, IsSomeModule, is_in}
use Rattle.inferno_top.specs.Faults.{IsBeginless}
use Rattle.inferno_top.specs.Reading.{IsTreeReadFault, lacks_init, uncompiled}
use Rattle.inferno_top.specs.Running.{IsMade}
use Rattle.inferno_top.specs.declared.cause.Aim.{Aim}
use Rattle.inferno_top.specs.declared.cause.Aim.TheVariants.{Run, Write}

module _ (told : Told) (path : List ℕ) (tree : Source) where
  -- a module that is told is one that the tree is, whether it begins or not
  some_sort : (m : Module) (begins : Bool) → IsSort told path tree m begins → IsSomeModule told path tree m
  some_sort m true s = record { entries = s.entries; implemented = s.implemented; is = s.is }
  some_sort m false s = record { entries = s.entries; implemented = s.implemented; is = s.is }

  -- and one for what it's compiled for, where it begins or needn't
  pub module_for : (aim : Aim) (c : Checked) → Gives told path tree c → lacks_init aim c.begins ≡ false
      → IsModuleFor aim told path tree (view_module c.module.value)
  module_for Run c g begins =
      subst (λ (b : Bool). IsSort told path tree (view_module c.module.value) b) (begun c.begins begins) g.sort
    where
      begun : (b : Bool) → not b ≡ false → b ≡ true
      begun true e = refl
      begun false e = absurd cc
  module_for Write c g begins = some_sort (view_module c.module.value) c.begins g.sort

  -- where it doesn't begin and has to, it's none
  pub beginless : (aim : Aim) (c : Checked) → Gives told path tree c → lacks_init aim c.begins ≡ true → IsBeginless aim told path tree
  beginless Run c g lacks = (
    view_module c.module.value,
    subst (λ (b : Bool). IsSort told path tree (view_module c.module.value) b) (unbegun c.begins lacks) g.sort,
  )
    where
      unbegun : (b : Bool) → not b ≡ true → b ≡ false
      unbegun true e = absurd cc
      unbegun false e = refl
  beginless Write c g lacks = absurd cc

  module _ (aim : Aim) (m : Module) (is : IsModuleFor aim told path tree m) (part : is_in aim m ≡ true) where
    pub uncompiled_is : (fault : CompileFault) → (fault ≡ compile.FrameTooLarge → sizes.FrameTooLarge m)
        → (fault ≡ compile.CodeTooLarge → limits.CodeTooLarge m × (sizes.FrameTooLarge m → ⊥))
        → IsTreeReadFault aim told path tree (uncompiled fault)
    uncompiled_is compile.NoMemory frames code = tt
    uncompiled_is compile.FrameTooLarge frames code = (m, is, part, frames refl)
    uncompiled_is compile.CodeTooLarge frames code = let k = code refl in (m, is, part, k.0, k.1)

-- what is in the part for what it's compiled for is in the part
pub part_of : (aim : Aim) (m : Module) → is_in aim m ≡ true → is_part m ≡ true
part_of Run m part = left (is_part m) (has_init m) part
part_of Write m part = part

-- an object that the compiler made of a module
pub made_of : (aim : Aim) (m k : TypedModule) (o : Object) → m ≡ k → is_in aim (view_module m) ≡ true → IsWithin (view_module m)
    → o ≡ object_for (view_module m) → StringsSpell o → IsValid o → IsMade aim (view_module k) o
made_of aim m k o named part within same spelled valid =
    subst (λ (z : TypedModule). IsMade aim (view_module z) o) named
    (record { has = record { part = part; within = within }; same = same; spelled = spelled; valid = valid })
