-- What holds of the operators and conversions.
use Rattle.std.specs.Prelude.{◌≡◌, ℕ, ◌≤◌, ◌<◌, ◌^◌, ℤ, pos, ◌+ℤ◌, ◌*ℤ◌, ◌≤ℤ◌, ◌⊎◌, ◌↔◌, IsTrue, IfOk, Ok, List}
use Rattle.limbo_values.specs.declared.number.Kind.{Kind}
use Rattle.limbo_values.specs.declared.operator.Operator.{Operator}
use Rattle.limbo_values.specs.declared.operator.Operator.TheVariants.{Divide, Remainder}
use Rattle.limbo_values.specs.declared.operator.Shift.{Shift}
use Rattle.limbo_values.specs.declared.operator.Shift.TheVariants.{Left}
use Rattle.limbo_values.specs.declared.operator.Unary.{Unary}
use Rattle.limbo_values.specs.declared.operator.Comparison.TheVariants as c
use Rattle.limbo_values.specs.Numbers.{InRange, width, wrapped}
use Rattle.limbo_values.specs.Operators.{applied, shifted, altered, places}
use Rattle.limbo_values.specs.Conversions.{number_text, number_read}
use Rattle.limbo_values.specs.Texts.{text_compared}

-- A number in range is what is left of it, and what is left of a number is in range.
pub record Wraps : Type 0 where
  pub within : (kind : Kind) (z : ℤ) → InRange kind z → wrapped kind z ≡ z
  pub always : (kind : Kind) (z : ℤ) → InRange kind (wrapped kind z)

-- What operators give of numbers of a kind is a number of the kind.
pub record StaysInRange : Type 0 where
  pub applied : (kind : Kind) (operator : Operator) (a b : ℤ) → IfOk (applied kind operator a b) (InRange kind)
  pub shifted : (kind : Kind) (shift : Shift) (a count : ℤ) → InRange kind a → InRange kind (shifted kind shift a count)
  pub altered : (kind : Kind) (unary : Unary) (a : ℤ) → InRange kind a → InRange kind (altered kind unary a)

-- A quotient times the divisor, and the remainder, give the dividend back.
abbrev pub DivisionGivesBack : Type 0
DivisionGivesBack =
    (kind : Kind) (a b q r : ℤ) → InRange kind a → applied kind Divide a b ≡ Ok q → applied kind Remainder a b ≡ Ok r
    → wrapped kind (q *ℤ b +ℤ r) ≡ a

-- A remainder has the sign of the dividend.
abbrev pub RemainderHasSign : Type 0
RemainderHasSign =
    (kind : Kind) (a b r : ℤ) → InRange kind a → applied kind Remainder a b ≡ Ok r
    → (pos 0 ≤ℤ a → pos 0 ≤ℤ r) × (a ≤ℤ pos 0 → r ≤ℤ pos 0)

-- A shift to the left by less than the width is a multiplication by a power of two.
abbrev pub ShiftMultiplies : Type 0
ShiftMultiplies =
    (kind : Kind) (a : ℤ) (count : ℕ) → count < width kind
    → shifted kind Left a (pos count) ≡ wrapped kind (a *ℤ pos (2 ^ count))

-- The width more in a count changes nothing.
abbrev pub CountsAreReduced : Type 0
CountsAreReduced =
    (kind : Kind) (count : ℤ)
    → (places kind (count +ℤ pos (width kind)) ≡ places kind count) × (places kind count < width kind)

-- A conversion by way of a wider kind is the conversion, so each keeps what fits.
abbrev pub ConversionsKeep : Type 0
ConversionsKeep = (narrow wide : Kind) (z : ℤ) → width narrow ≤ width wide → wrapped narrow (wrapped wide z) ≡ wrapped narrow z

-- The text of a number, read as a number of its kind, is the number.
abbrev pub ReadsBack : Type 0
ReadsBack = (kind : Kind) (z : ℤ) → InRange kind z → number_read kind (number_text z) ≡ z

-- Strings are in a total order, in which those are equal that have the same characters.
pub record TextsAreOrdered : Type 0 where
  pub reflexive : (s : List ℕ) → IsTrue (text_compared c.AtMost s s)
  pub antisymmetric : (s t : List ℕ) → IsTrue (text_compared c.AtMost s t) → IsTrue (text_compared c.AtMost t s) → s ≡ t
  pub transitive : (s t u : List ℕ) → IsTrue (text_compared c.AtMost s t) → IsTrue (text_compared c.AtMost t u)
      → IsTrue (text_compared c.AtMost s u)
  pub total : (s t : List ℕ) → IsTrue (text_compared c.AtMost s t) ⊎ IsTrue (text_compared c.AtMost t s)
  pub equal : (s t : List ℕ) → IsTrue (text_compared c.Equal s t) ↔ (s ≡ t)
