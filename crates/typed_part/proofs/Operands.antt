-- Operations take one or two numbers.
use Rattle.std.proofs.Common.{◌≡◌, ◌&&◌, Bool, true, false, List, [], ◌∷◌, refl}
use Rattle.limbo_types.specs.Types.{Ty}
use Rattle.limbo_typed.specs.declared.operation.Operation.{Operation}
use Rattle.limbo_typed.specs.declared.operation.Operation.TheVariants as operation
use Rattle.typed_part.specs.Part.{some_is, are_of, operands, is_of}

never : (a : Bool) → (a && false) ≡ false
never true = refl
never false = refl

never_both : (a b : Bool) → (a && (b && false)) ≡ false
never_both true b = never b
never_both false b = refl

pub takes_none : (o : Operation) → some_is (λ ks. are_of ks []) (operands o) ≡ false
takes_none (operation.Arithmetic x k) = refl
takes_none _ = refl

pub takes_no_more : (o : Operation) (a b c : Ty) (ts : List Ty) → some_is (λ ks. are_of ks (a ∷ b ∷ c ∷ ts)) (operands o) ≡ false
takes_no_more (operation.Arithmetic x k) a b c ts = never_both (is_of k a) (is_of k b)
takes_no_more (operation.Shift x k) a b c ts = never_both (is_of k a) _
takes_no_more (operation.Alter x k) a b c ts = never (is_of k a)
takes_no_more (operation.Compare x k) a b c ts = never_both (is_of k a) (is_of k b)
takes_no_more operation.Not a b c ts = never _
takes_no_more (operation.Convert k j) a b c ts = never (is_of k a)
takes_no_more _ a b c ts = refl
