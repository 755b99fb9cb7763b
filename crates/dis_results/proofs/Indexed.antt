-- Where the address of an element goes, step by step.
use Rattle.std.proofs.Common.{ℤ, Option}
use Rattle.dis_file.specs.declared.object.Object.{Object}
use Rattle.dis_isa.specs.declared.inst.Inst.{Inst}
use Rattle.limbo_values.specs.declared.number.Kind.TheVariants.{Int}
use Rattle.dis_meaning.specs.Words.{Access, ◌>>=◌}
use Rattle.dis_meaning.specs.Process.{Process}
use Rattle.dis_meaning.specs.Places.{Spot}
use Rattle.dis_memory.specs.Arrays.{element_address}
use Rattle.dis_memory.specs.Blocks.{World}
use Rattle.dis_memory.specs.Kinds.{Elements}
use Rattle.dis_memory.specs.Places.{middle_spot, source_of}
use Rattle.dis_memory.specs.Process.{Does}
use Rattle.dis_memory.specs.Raising.{not_nil}
use Rattle.dis_memory.specs.Results.{gives_plain_at}

module _ (o : Object) (x : World) (p : Process) (i : Inst) where
  abbrev pub given : Spot → Option Elements → ℤ → Access Does
  given d es index = gives_plain_at x p d (not_nil es >>= λ e. element_address o x p i e index)

  abbrev pub indexed : Spot → Option Elements → Access Does
  indexed d es = source_of Int x p i.dst >>= λ index. given d es index

  abbrev pub placed : Option Elements → Access Does
  placed es = middle_spot i.middle >>= λ d. indexed d es
