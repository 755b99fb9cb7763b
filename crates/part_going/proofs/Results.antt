-- What operations give of numbers of their kinds.
use Rattle.std.proofs.Common.{◌≡◌, ℤ, pos, Bool, true, false, List, [], ◌∷◌, Some, Result, Ok, Err, IfOk, sym}
use Rattle.std.proofs.Common.{subst, arith}
use Rattle.std.proofs.lemmas.Int.{ints}
use Rattle.std.proofs.lemmas.Option.{none-some, same_Some}
use Rattle.std.specs.Ordering.{int_eq}
use Rattle.limbo_types.specs.Types.{Ty}
use Rattle.limbo_values.specs.declared.number.Kind.{Kind}
use Rattle.limbo_values.specs.declared.number.Kind.TheVariants as kind
use Rattle.limbo_values.specs.declared.raised.Raised.{Raised}
use Rattle.limbo_values.specs.Numbers.{InRange}
use Rattle.limbo_values.specs.Operators.{truth, compared}
use Rattle.limbo_values.specs.Operators as operators
use Rattle.limbo_values.proofs.Ranges.{always, applied_in, shifted_in, altered_in}
use Rattle.limbo_typed.specs.declared.operation.Given.{Given}
use Rattle.limbo_typed.specs.declared.operation.Given.TheVariants as given
use Rattle.limbo_typed.specs.declared.operation.Operation.{Operation}
use Rattle.limbo_typed.specs.declared.operation.Operation.TheVariants as operation
use Rattle.system_model.specs.Values.{Value, Num}
use Rattle.typed_meaning.specs.Values.{as_value, kind_of, fitted, result_of, holds, truth_of}
use Rattle.typed_meaning.specs.Evaluation.{given_by}
use Rattle.typed_lower.specs.Kinds.{kind_given}
use Rattle.typed_part.specs.Part.{operands}
use Rattle.part_going.specs.Fitting.{IsOf, AreOf}

-- ---- numbers

pub fitted_of : (t : Ty) (v : Value) → IsOf (kind_of t) (fitted t v)
fitted_of t (Num z) = always (kind_of t) z

truth_in : (b : Bool) → InRange kind.Int (truth b)
truth_in true = record { above = omega (arith, ints); below = omega (arith, ints) }
truth_in false = record { above = omega (arith, ints); below = omega (arith, ints) }

pub truth_is_int : (v : Value) → IsOf kind.Int (truth_of v)
truth_is_int v = truth_in (holds v)

-- ---- operations

as_value_of : (k : Kind) (r : Result ℤ Raised) → IfOk r (InRange k) → IfOk (as_value r) (IsOf k)
as_value_of k (Ok z) h = h
as_value_of k (Err e) h = tt

module _ (P : List Value → Type 0) where
  one_value : (k : Kind) (vs : List Value) → AreOf (k ∷ []) vs → ((a : ℤ) → InRange k a → P (Num a ∷ [])) → P vs
  one_value k [] h f = absurd h
  one_value k (Num a ∷ []) h f = f a h.0
  one_value k (Num a ∷ v ∷ vs) h f = absurd h.1

  two_values : (j k : Kind) (vs : List Value) → AreOf (j ∷ k ∷ []) vs
      → ((a b : ℤ) → InRange j a → InRange k b → P (Num a ∷ Num b ∷ [])) → P vs
  two_values j k [] h f = absurd h
  two_values j k (Num a ∷ []) h f = absurd h.1
  two_values j k (Num a ∷ Num b ∷ []) h f = f a b h.0 h.1.0
  two_values j k (Num a ∷ Num b ∷ v ∷ vs) h f = absurd h.1.1

abbrev So : Operation → List Value → Type 0
So o vs = IfOk (result_of o vs) (IsOf (kind_given o))

abbrev are : (js ks : List Kind) (vs : List Value) → Some js ≡ Some ks → AreOf ks vs → AreOf js vs
are js ks vs e h = subst (λ ks. AreOf ks vs) (sym (same_Some js ks e)) h

-- an operation on such numbers as it takes gives one of its kind, or raises
pub result_in : (o : Operation) (ks : List Kind) (vs : List Value) → operands o ≡ Some ks → AreOf ks vs
    → IfOk (result_of o vs) (IsOf (kind_given o))
result_in (operation.Arithmetic x k) ks vs e h =
    two_values (So (operation.Arithmetic x k)) k k vs (are (k ∷ k ∷ []) ks vs e h)
    (λ a b f g. as_value_of k (operators.applied k x a b) (applied_in k x a b))
result_in (operation.Shift s k) ks vs e h =
    two_values (So (operation.Shift s k)) k kind.Int vs (are (k ∷ kind.Int ∷ []) ks vs e h) (λ a b f g. shifted_in k s a b f)
result_in (operation.Compare c k) ks vs e h =
    two_values (So (operation.Compare c k)) k k vs (are (k ∷ k ∷ []) ks vs e h) (λ a b f g. truth_in (compared c a b))
result_in (operation.Alter u k) ks vs e h =
    one_value (So (operation.Alter u k)) k vs (are (k ∷ []) ks vs e h) (λ a f. altered_in k u a f)
result_in operation.Not ks vs e h =
    one_value (So operation.Not) kind.Int vs (are (kind.Int ∷ []) ks vs e h) (λ a f. truth_in (int_eq a (pos 0)))
result_in (operation.Convert from to) ks vs e h =
    one_value (So (operation.Convert from to)) from vs (are (from ∷ []) ks vs e h) (λ a f. always to a)
result_in _ ks vs e h = absurd (none-some ks e)

-- ---- what an assignment gives

-- the first kind is this one
abbrev pub BeginsWith : List Kind → Kind → Type 0
BeginsWith [] k = ⊥
BeginsWith (j ∷ js) k = j ≡ k

pub given_in : (g : Given) (ks : List Kind) (vs : List Value) (w : Value) (k : Kind) → AreOf ks vs → BeginsWith ks k → IsOf k w
    → IsOf k (given_by g vs w)
given_in given.New ks vs w k h b f = f
given_in given.Old [] vs w k h b f = absurd b
given_in given.Old (j ∷ js) [] w k h b f = absurd h
given_in given.Old (j ∷ js) (v ∷ vs) w k h b f = subst (λ k. IsOf k v) b h.0
