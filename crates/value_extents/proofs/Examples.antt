-- Small adts, to be computed with.
use Rattle.std.proofs.Common.{◌≡◌, [], ◌∷◌, refl}
use Rattle.limbo_types.specs.Types as ty
use Rattle.limbo_layout.specs.Adts.{Def}
use Rattle.limbo_meaning.specs.Operations.{size_of}
use Rattle.core_code.specs.Terms.{count_of, count_all, part_types}
use Rattle.value_extents.specs.Extent.{table_of}

-- an adt of a reference and an int, and one of the first and a byte
pair : Def
pair = record {
  name = [];
  fields = record { name = []; ty = ty.ListOf ty.Int } ∷ record { name = []; ty = ty.Int } ∷ [];
  picks = [];
}

around : Def
around = record { name = []; fields = record { name = []; ty = ty.Adt 0 } ∷ record { name = []; ty = ty.Byte } ∷ []; picks = [] }

two_adts : table_of (pair ∷ around ∷ [])
    ≡ record { size = 8; align = 4; count = 1 } ∷ record { size = 12; align = 4; count = 1 } ∷ []
unfolding pair around
two_adts = refl

-- An adt that holds itself has no layout. By the rounds it takes 4 bytes and has one reference, but its parts together have two: so what
-- parts have isn't below what the whole has where nothing says that it has a layout.
itself : Def
itself = record {
  name = [];
  fields = record { name = []; ty = ty.RefAdt 0 } ∷ record { name = []; ty = ty.Adt 0 } ∷ [];
  picks = [];
}

itself_small : size_of (itself ∷ []) (ty.Adt 0) ≡ 4
unfolding itself
itself_small = refl

itself_one : count_of (itself ∷ []) (ty.Adt 0) ≡ 1
unfolding itself
itself_one = refl

parts_two : count_all (itself ∷ []) (part_types (itself ∷ []) (ty.Adt 0)) ≡ 2
unfolding itself
parts_two = refl
