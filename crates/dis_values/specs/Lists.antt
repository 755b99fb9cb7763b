-- Lists on blocks (Limbo Language Reference, lists).
use Rattle.std.specs.Prelude.{◌≡◌, ℕ, List, [], ◌∷◌, Option, Some, None}
use Rattle.ref_heap.specs.declared.kind.Kind.TheVariants.{Cell as ListCell}
use Rattle.ref_heap.specs.Words.{Cell, refer}
use Rattle.ref_heap.specs.Store.{Store, Block, at, words_of}

-- What is named is a live cell with these words of an element, and refers to the rest.
pub record IsCell (h : Store) (list : Option ℕ) (element : List Cell) (rest : Option ℕ) : Type 0 where
  pub serial : ℕ
  pub named : list ≡ Some serial
  pub block : Block
  pub live : at h serial ≡ Some block
  pub kind : block.kind ≡ ListCell
  pub words : words_of block ≡ refer rest ∷ element

-- Nil is the empty list, and a cell is its element before the list that the rest is.
abbrev pub IsList : Store → Option ℕ → List (List Cell) → Type 0
IsList h list [] = list ≡ None
IsList h list (element ∷ elements) = (rest : Option ℕ) × IsCell h list element rest × IsList h rest elements
