-- The objects of a machine, and the one whose code a process runs.
use Rattle.std.specs.Prelude.{ℕ, List, map, Option, Some, None, slice_get}
use Rattle.dis_file.specs.declared.object.Object.{Object}
use Rattle.ref_heap.specs.declared.kind.Kind.{Kind}
use Rattle.ref_heap.specs.declared.kind.Kind.TheVariants.{Instance}
use Rattle.dis_meaning.specs.Words.{Access, ◌>>=◌, type_check, or_wrong}
use Rattle.dis_meaning.specs.Process.{Process}
use Rattle.dis_memory.specs.Blocks.{World, block}
use Rattle.dis_memory.specs.Step.{object_of}
use Rattle.dis_code.specs.declared.code.Code.{Code}

abbrev pub objects_of : List (List ℕ × Code) → List Object
objects_of codes = map (λ c. c.1.object) codes

abbrev pub running : List Object → World → Process → Access Object
running objects x p = block x p.frame.instance >>= object_of >>= λ n. or_wrong type_check (slice_get objects n)

abbrev pub instance_of : Kind → Option ℕ
instance_of (Instance object) = Some object
instance_of _ = None
