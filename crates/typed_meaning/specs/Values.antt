-- What operations give of values (Limbo Language Reference, expressions), by the operators of numbers.
use Rattle.std.specs.Prelude.{ℤ, Bool, true, false, if◌then◌else◌, List, [], ◌∷◌, Result, Ok, Err}
use Rattle.limbo_types.specs.Types.{Ty, Byte, Big}
use Rattle.limbo_values.specs.declared.number.Kind.{Kind}
use Rattle.limbo_values.specs.declared.number.Kind.TheVariants as kind
use Rattle.limbo_values.specs.declared.raised.Raised.{Raised}
use Rattle.limbo_values.specs.Numbers.{wrapped}
use Rattle.limbo_values.specs.Operators.{applied, shifted, altered, compared, denied, truth}
use Rattle.limbo_values.specs.Operators as operators
use Rattle.limbo_typed.specs.declared.operation.Operation.{Operation}
use Rattle.limbo_typed.specs.declared.operation.Operation.TheVariants as operation
use Rattle.limbo_typed.specs.declared.operation.Connective.{Connective}
use Rattle.limbo_typed.specs.declared.operation.Connective.TheVariants as connective
use Rattle.system_model.specs.Values.{Value, Num, zero_value}

-- A number as one of a kind: what is left of it in the kind's bits.
abbrev pub number_of : Kind → Value → Value
number_of k (Num z) = Num (wrapped k z)

-- Of which kind the numbers of a type are. Other types aren't in this part.
abbrev pub kind_of : Ty → Kind
kind_of Byte = kind.Byte
kind_of Big = kind.Big
kind_of _ = kind.Int

-- A value as one of a type.
abbrev pub fitted : Ty → Value → Value
fitted t v = number_of (kind_of t) v

-- A condition holds where its int isn't 0.
abbrev pub holds : Value → Bool
holds (Num z) = operators.holds z

abbrev pub as_value : Result ℤ Raised → Result Value Raised
as_value (Ok z) = Ok (Num z)
as_value (Err r) = Err r

-- of two numbers, and of one
abbrev pub of_two : Operation → ℤ → ℤ → Result Value Raised
of_two (operation.Arithmetic o k) a b = as_value (applied k o a b)
of_two (operation.Shift s k) a b = Ok (Num (shifted k s a b))
of_two (operation.Compare c k) a b = Ok (Num (truth (compared c a b)))
of_two _ a b = Ok zero_value

abbrev pub of_one : Operation → ℤ → Result Value Raised
of_one (operation.Alter u k) a = Ok (Num (altered k u a))
of_one operation.Not a = Ok (Num (denied a))
of_one (operation.Convert from to) a = Ok (Num (wrapped to a))
of_one _ a = Ok zero_value

-- What an operation gives of its operands, or the exception that it raises. Operations on other values than numbers aren't in this part.
abbrev pub result_of : Operation → List Value → Result Value Raised
result_of o (Num a ∷ Num b ∷ []) = of_two o a b
result_of o (Num a ∷ []) = of_one o a
result_of o _ = Ok zero_value

-- Whether the left operand of `&&` or `||` decides, so that the right one isn't evaluated: `&&` where it doesn't hold, `||` where it does.
abbrev pub decides : Connective → Value → Bool
decides connective.And v = if holds v then false else true
decides connective.Or v = holds v

-- The 1 or 0 of a condition.
abbrev pub truth_of : Value → Value
truth_of v = Num (truth (holds v))
