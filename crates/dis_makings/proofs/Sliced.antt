-- What part of an array goes where, step by step.
use Rattle.std.proofs.Common.{ℤ}
use Rattle.dis_file.specs.declared.object.Object.{Object}
use Rattle.dis_isa.specs.declared.inst.Inst.{Inst}
use Rattle.limbo_values.specs.declared.number.Kind.TheVariants.{Int}
use Rattle.dis_meaning.specs.Words.{Access, ◌>>=◌}
use Rattle.dis_meaning.specs.Process.{Process}
use Rattle.dis_meaning.specs.Places.{Spot}
use Rattle.dis_memory.specs.Arrays.{sliced}
use Rattle.dis_memory.specs.Blocks.{World}
use Rattle.dis_memory.specs.Kinds.{elements_at}
use Rattle.dis_memory.specs.Places.{given_of, reference_at, spot}
use Rattle.dis_memory.specs.Process.{Does}

module _ (o : Object) (x : World) (p : Process) (i : Inst) where
  abbrev pub here : (from to : ℤ) → Spot → Access Does
  here from to d = reference_at x p d >>= elements_at x >>= λ es. sliced o x p i d es from to

  abbrev pub placed : (from to : ℤ) → Access Does
  placed from to = spot x p i.dst >>= λ d. here from to d

  abbrev pub ended : (from : ℤ) → Access Does
  ended from = given_of Int x p i.middle >>= λ to. placed from to
