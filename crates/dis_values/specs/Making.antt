-- What a call that makes a block does.
use Rattle.std.specs.Prelude.{◌≡◌, ℕ, ◌+◌, Option}
use Rattle.std.specs.Option.{option_map}
use Rattle.ref_heap.specs.declared.kind.HeapFault.{HeapFault}
use Rattle.ref_heap.specs.declared.kind.HeapFault.TheVariants.{Dead, NoMemory, Full, OutOfBlock, NotPointer, NotData}
use Rattle.ref_heap.specs.declared.word.Ref.{Ref}
use Rattle.ref_heap.specs.Answers.{most}
use Rattle.ref_heap.specs.Store.{Store, Block, outside, one, with_new}

-- The serial that a reference word names, which may be nil.
abbrev pub serial_of : Option Ref → Option ℕ
serial_of r = option_map (λ (x : Ref). x.serial) r

-- Block b is made, and the caller has the only reference to it; all else is as it was.
pub record Makes (old new : Store) (made : ℕ) (b : Block) : Type 0 where
  pub serial : made ≡ old.made
  pub makes : new ≡ with_new old b
  pub held : (n : ℕ) → outside new n ≡ outside old n + one made n

-- Why a block isn't made: 94 only where all serials are used.
abbrev pub IsMakeFault : Store → HeapFault → Type 0
IsMakeFault h NoMemory = Unit {0}
IsMakeFault h Full = h.made ≡ most
IsMakeFault h Dead = ⊥
IsMakeFault h NotPointer = ⊥
IsMakeFault h NotData = ⊥
IsMakeFault h OutOfBlock = ⊥
