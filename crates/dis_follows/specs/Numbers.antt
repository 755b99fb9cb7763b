-- Numbers that stand at places of memory.
use Rattle.std.specs.Prelude.{ℕ, ℤ, pos, ◌≡◌, List}
use Rattle.limbo_values.specs.declared.number.Kind.{Kind}
use Rattle.limbo_values.specs.Numbers.{InRange}
use Rattle.system_model.specs.Values.{Value, Num}
use Rattle.dis_meaning.specs.Words.{Word, Plain, Refer, Address, Found}
use Rattle.dis_meaning.specs.Numbers.{number_at}

-- A value of a kind stands at a place among these words.
pub record Holds (k : Kind) (words : List Word) (at : ℕ) (v : Value) : Type 0 where
  pub number : ℤ
  pub is : v ≡ Num number
  pub range : InRange k number
  pub there : number_at k words (pos at) ≡ Found number

-- Neither a reference nor anything else than a number or an address.
abbrev pub IsPlain : Word → Type 0
IsPlain (Plain n) = Unit {0}
IsPlain (Address place at) = Unit {0}
IsPlain (Refer r) = ⊥
