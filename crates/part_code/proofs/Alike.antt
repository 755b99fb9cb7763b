-- What the tests of the part say of kinds.
use Rattle.std.proofs.Common.{◌≡◌, pos, Bool, true, false, ◌&&◌, ◌⊎◌, inl, inr, List, [], ◌∷◌, Some, refl, sym, ap}
use Rattle.std.proofs.Common.{◌∙◌, arith}
use Rattle.std.proofs.lemmas.Bool.{false≢true}
use Rattle.std.proofs.lemmas.Int.{ints}
use Rattle.limbo_types.specs.Types.{Ty, Byte, Int, Big, Nothing}
use Rattle.limbo_types.specs.Same.{same}
use Rattle.limbo_types.proofs.Same.{only}
use Rattle.limbo_values.specs.declared.number.Kind.{Kind}
use Rattle.limbo_values.specs.declared.number.Kind.TheVariants as kind
use Rattle.limbo_values.specs.Numbers.{InRange}
use Rattle.limbo_typed.specs.declared.operation.Operation.{Operation}
use Rattle.limbo_typed.specs.declared.operation.Operation.TheVariants as operation
use Rattle.slot_code.specs.Machine.{same_kind}
use Rattle.typed_meaning.specs.Values.{kind_of}
use Rattle.typed_lower.specs.Kinds.{kind_given}
use Rattle.typed_lower.specs.Statements.{number_kind}
use Rattle.typed_part.specs.Part.{is_of, is_number, are_alike, answers_alike, are_of, operands, gives, some_is}
use Rattle.typed_part.proofs.Tests.{left, right, one_holds}
use Rattle.typed_part.proofs.Operands.{takes_none, takes_no_more}
use Rattle.dis_objects.specs.Code.{operand_kind, right_kind}
use Rattle.dis_objects.specs.Proper.{IsOfOne, IsOfTwo}
use Rattle.dis_objects.specs.Proper as proper

pub same_only : (k j : Kind) → same_kind k j ≡ true → k ≡ j
same_only kind.Byte kind.Byte h = refl
same_only kind.Int kind.Int h = refl
same_only kind.Big kind.Big h = refl
same_only _ _ h = absurd (false≢true h)

-- ---- types of a kind

pub record HasKind (k : Kind) (t : Ty) : Type 0 where
  pub number : number_kind t ≡ Some k
  pub kind : kind_of t ≡ k

pub has_kind : (k : Kind) (t : Ty) → is_of k t ≡ true → HasKind k t
has_kind k Byte h = let e = same_only k kind.Byte h in record { number = ap Some (sym e); kind = sym e }
has_kind k Int h = let e = same_only k kind.Int h in record { number = ap Some (sym e); kind = sym e }
has_kind k Big h = let e = same_only k kind.Big h in record { number = ap Some (sym e); kind = sym e }
has_kind k _ h = absurd (false≢true h)

pub its_kind : (t : Ty) → is_number t ≡ true → HasKind (kind_of t) t
its_kind Byte h = record { number = refl; kind = refl }
its_kind Int h = record { number = refl; kind = refl }
its_kind Big h = record { number = refl; kind = refl }
its_kind _ h = absurd (false≢true h)

-- both are of the first one's kind
pub alike_first : (t u : Ty) → are_alike t u ≡ true → HasKind (kind_of t) t
alike_first Byte u h = record { number = refl; kind = refl }
alike_first Int u h = record { number = refl; kind = refl }
alike_first Big u h = record { number = refl; kind = refl }
alike_first _ u h = absurd (false≢true h)

pub alike : (t u : Ty) → are_alike t u ≡ true → HasKind (kind_of t) u
alike Byte u h = has_kind kind.Byte u h
alike Int u h = has_kind kind.Int u h
alike Big u h = has_kind kind.Big u h
alike _ u h = absurd (false≢true h)

pub alike_kinds : (t u : Ty) → are_alike t u ≡ true → kind_of u ≡ kind_of t
alike_kinds t u h = (alike t u h).kind

pub answer_kinds : (t u : Ty) → answers_alike t u ≡ true → kind_of u ≡ kind_of t
answer_kinds t u h = go (one_holds (are_alike t u) (same t Nothing && same u Nothing) h)
  where
    go : (are_alike t u ≡ true) ⊎ ((same t Nothing && same u Nothing) ≡ true) → kind_of u ≡ kind_of t
    go (inl a) = alike_kinds t u a
    go (inr b) = ap kind_of (only u Nothing (right (same t Nothing) (same u Nothing) b) ∙ sym (only t Nothing (left _ (same u Nothing) b)))

-- ---- numbers

pub zero_in : (k : Kind) → InRange k (pos 0)
zero_in kind.Byte = record { above = omega (arith, ints); below = omega (arith, ints) }
zero_in kind.Int = record { above = omega (arith, ints); below = omega (arith, ints) }
zero_in kind.Big = record { above = omega (arith, ints); below = omega (arith, ints) }

pub one_in : InRange kind.Int (pos 1)
one_in = record { above = omega (arith, ints); below = omega (arith, ints) }

-- ---- operations

pub given_same : (o : Operation) → kind_given o ≡ proper.kind_given o
given_same (operation.Arithmetic x k) = refl
given_same (operation.Shift x k) = refl
given_same (operation.Alter x k) = refl
given_same (operation.Convert k j) = refl
given_same _ = refl

-- An operation on one number, and on two.
pub record OfOne (o : Operation) (t u : Ty) : Type 0 where
  pub one : IsOfOne o
  pub taken : kind_of t ≡ operand_kind o
  pub given : kind_of u ≡ kind_given o

pub record OfTwo (o : Operation) (t t' u : Ty) : Type 0 where
  pub two : IsOfTwo o
  pub left_taken : kind_of t ≡ operand_kind o
  pub right_taken : kind_of t' ≡ right_kind o
  pub given : kind_of u ≡ kind_given o

false_right : (a : Bool) → (a && false) ≡ true → ⊥
false_right a h = false≢true (right a false h)

kinds_one : (o : Operation) (t : Ty) → some_is (λ ks. are_of ks (t ∷ [])) (operands o) ≡ true → IsOfOne o × (kind_of t ≡ operand_kind o)
kinds_one (operation.Arithmetic x k) t h = absurd (false_right (is_of k t) h)
kinds_one (operation.Shift x k) t h = absurd (false_right (is_of k t) h)
kinds_one (operation.Compare x k) t h = absurd (false_right (is_of k t) h)
kinds_one (operation.Alter x k) t h = (tt, (has_kind k t (left (is_of k t) true h)).kind)
kinds_one operation.Not t h = (tt, (has_kind kind.Int t (left (is_of kind.Int t) true h)).kind)
kinds_one (operation.Convert k j) t h = (tt, (has_kind k t (left (is_of k t) true h)).kind)
kinds_one _ t h = absurd (false≢true h)

kinds_two : (o : Operation) (t t' : Ty) → some_is (λ ks. are_of ks (t ∷ t' ∷ [])) (operands o) ≡ true
    → IsOfTwo o × (kind_of t ≡ operand_kind o) × (kind_of t' ≡ right_kind o)
kinds_two (operation.Arithmetic x k) t t' h = (
  tt,
  (has_kind k t (left (is_of k t) (is_of k t' && true) h)).kind,
  (has_kind k t' (left (is_of k t') true (right (is_of k t) (is_of k t' && true) h))).kind,
)
kinds_two (operation.Shift x k) t t' h = (
  tt,
  (has_kind k t (left (is_of k t) (is_of kind.Int t' && true) h)).kind,
  (has_kind kind.Int t' (left (is_of kind.Int t') true (right (is_of k t) (is_of kind.Int t' && true) h))).kind,
)
kinds_two (operation.Compare x k) t t' h = (
  tt,
  (has_kind k t (left (is_of k t) (is_of k t' && true) h)).kind,
  (has_kind k t' (left (is_of k t') true (right (is_of k t) (is_of k t' && true) h))).kind,
)
kinds_two (operation.Alter x k) t t' h = absurd (false_right (is_of k t) h)
kinds_two operation.Not t t' h = absurd (false_right (is_of kind.Int t) h)
kinds_two (operation.Convert k j) t t' h = absurd (false_right (is_of k t) h)
kinds_two _ t t' h = absurd (false≢true h)

pub of_one : (o : Operation) (t u : Ty) → gives o (t ∷ []) u ≡ true → OfOne o t u
of_one o t u h =
    let a : some_is (λ ks. are_of ks (t ∷ [])) (operands o) ≡ true = left _ _ h in
    let b : is_of (kind_given o) u ≡ true = right _ _ h in
    let c : IsOfOne o × (kind_of t ≡ operand_kind o) = kinds_one o t a in
    record { one = c.0; taken = c.1; given = (has_kind (kind_given o) u b).kind }

pub of_two : (o : Operation) (t t' u : Ty) → gives o (t ∷ t' ∷ []) u ≡ true → OfTwo o t t' u
of_two o t t' u h =
    let a : some_is (λ ks. are_of ks (t ∷ t' ∷ [])) (operands o) ≡ true = left _ _ h in
    let b : is_of (kind_given o) u ≡ true = right _ _ h in
    let c : IsOfTwo o × (kind_of t ≡ operand_kind o) × (kind_of t' ≡ right_kind o) = kinds_two o t t' a in
    record { two = c.0; left_taken = c.1; right_taken = c.2; given = (has_kind (kind_given o) u b).kind }

pub of_none : (o : Operation) (u : Ty) → gives o [] u ≡ true → ⊥
of_none o u h = false≢true (sym (takes_none o) ∙ left _ _ h)

pub of_more : (o : Operation) (a b c : Ty) (ts : List Ty) (u : Ty) → gives o (a ∷ b ∷ c ∷ ts) u ≡ true → ⊥
of_more o a b c ts u h = false≢true (sym (takes_no_more o a b c ts) ∙ left _ _ h)
