-- What a block is, and how that is stored.
use Rattle.std.specs.Prelude.{◌≡◌, ℕ, zero, suc, Option, Some, None, refl}
use Rattle.std.specs.Coded.{Coded, code_by, coded_ℕ, coded×}
use Rattle.ref_heap.specs.declared.kind.Kind.{Kind}
use Rattle.ref_heap.specs.declared.kind.Kind.TheVariants.{Record, Fd, Text, Array, Slice, Cell, Channel, Instance, Sys}

-- The number of the open file that a block is for.
abbrev pub fd_number : Kind → Option ℕ
fd_number (Fd number) = Some number
fd_number _ = None

abbrev pub kind_parts : Kind → ℕ × (ℕ × ℕ)
kind_parts Record = (0, (0, 0))
kind_parts (Fd number) = (1, (number, 0))
kind_parts Text = (2, (0, 0))
kind_parts (Array element length) = (3, (element, length))
kind_parts (Slice from length) = (4, (from, length))
kind_parts Cell = (5, (0, 0))
kind_parts (Channel element) = (6, (element, 0))
kind_parts (Instance object) = (7, (object, 0))
kind_parts (Sys names) = (8, (names, 0))

abbrev pub kind_numbered : ℕ → ℕ → ℕ → Kind
kind_numbered zero a b = Record
kind_numbered (suc zero) a b = Fd a
kind_numbered (suc (suc zero)) a b = Text
kind_numbered (suc (suc (suc zero))) a b = Array a b
kind_numbered (suc (suc (suc (suc zero)))) a b = Slice a b
kind_numbered (suc (suc (suc (suc (suc zero))))) a b = Cell
kind_numbered (suc (suc (suc (suc (suc (suc zero)))))) a b = Channel a
kind_numbered (suc (suc (suc (suc (suc (suc (suc zero))))))) a b = Instance a
kind_numbered (suc (suc (suc (suc (suc (suc (suc (suc n)))))))) a b = Sys a

abbrev pub kind_whole : ℕ × (ℕ × ℕ) → Kind
kind_whole p = kind_numbered p.0 p.1.0 p.1.1

pub kind_again : (k : Kind) → kind_whole (kind_parts k) ≡ k
kind_again Record = refl
kind_again (Fd number) = refl
kind_again Text = refl
kind_again (Array element length) = refl
kind_again (Slice from length) = refl
kind_again Cell = refl
kind_again (Channel element) = refl
kind_again (Instance object) = refl
kind_again (Sys names) = refl

abbrev pub kind_code : Coded Kind
kind_code = code_by (ℕ × (ℕ × ℕ)) (coded× coded_ℕ (coded× coded_ℕ coded_ℕ)) kind_parts kind_whole kind_again
