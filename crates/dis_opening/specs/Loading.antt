-- Memory of the program while items are put in, as the definition has it, and what is held meanwhile.
use Rattle.std.specs.Prelude.{◌≡◌, ℕ, ℤ, ◌+◌, List, map, reverse}
use Rattle.limbo_values.specs.declared.number.Kind.{Kind}
use Rattle.ref_heap.specs.Words.{cell_of, naming}
use Rattle.ref_heap.specs.Store.{one, outside}
use Rattle.dis_meaning.specs.Words.{Access, ◌>>=◌}
use Rattle.dis_meaning.specs.Numbers.{with_number_at}
use Rattle.dis_memory.specs.Blocks.{World}
use Rattle.dis_memory.specs.Places.{data_at, with_data}
use Rattle.dis_counts.specs.Opening as opening
use Rattle.dis_counts.specs.Opening.{numbers, with_numbers}
use Rattle.dis_places.specs.View.{view_world}
use Rattle.dis_opening.specs.declared.loading.Base.{Base}
use Rattle.dis_opening.specs.declared.loading.Loading.{Loading}

abbrev pub view_base : Base → opening.Into
view_base b = record { serial = b.block.serial; from = b.from }

-- Of the arrays that were entered the definition has the latest first.
abbrev pub view_loading : Loading → opening.Loading
view_loading l = record { world = view_world l.memory; here = view_base l.here; back = reverse (map view_base l.back.items) }

-- How often the words over which items were put name each block.
abbrev pub over_named : Loading → ℕ → ℕ
over_named l n = naming (map cell_of l.over.items) n

-- Beside the one reference to the instance, what is held outside of blocks is what those words refer to.
abbrev pub IsExact : Loading → Type 0
IsExact l = (n : ℕ) → outside l.memory.heap n ≡ one 0 n + over_named l n

-- What an item left: what is held more, the words over which it was put refer to.
pub record Holds (l m : Loading) : Type 0 where
  pub held : (n : ℕ) → outside m.memory.heap n + over_named l n ≡ outside l.memory.heap n + over_named m n
  pub tables : m.memory.tables ≡ l.memory.tables

-- ---- numbers in a block

-- One number is put there, over one of its kind.
abbrev pub number_stored : Kind → World → (serial : ℕ) → (at : ℤ) → ℤ → Access World
number_stored kind x n at z = data_at x n >>= (λ words. with_number_at kind words at z) >>= with_data x n

-- Numbers are put there, one behind the other, from a byte on: those that bytes make.
abbrev pub numbers_stored : Kind → World → (serial from : ℕ) → (content : List ℕ) → Access World
numbers_stored kind x n from content = numbers kind content >>= λ zs. data_at x n >>= with_numbers kind from zs >>= with_data x n
