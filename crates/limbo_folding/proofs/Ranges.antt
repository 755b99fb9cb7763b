-- Constants are of the types of their expressions.
use Rattle.std.proofs.Common.{◌≡◌, ℕ, ℤ, pos, List, [], ◌∷◌, Bool, true, false, if◌then◌else◌, Option, Some, None, option_map, Result, Ok, Err, IfOk, IfSome, sym, subst, arith}
use Rattle.std.specs.Result.{result_ok}
use Rattle.std.specs.Ordering.{int_eq}
use Rattle.std.proofs.lemmas.Int.{ints}
use Rattle.inf_text.specs.Options.{◌>>=◌}
use Rattle.limbo_values.specs.declared.number.Kind.{Kind}
use Rattle.limbo_values.specs.declared.number.Kind.TheVariants as kind
use Rattle.limbo_values.specs.declared.raised.Raised.{Raised}
use Rattle.limbo_values.specs.Numbers.{InRange, wrapped}
use Rattle.limbo_values.specs.Operators as values
use Rattle.limbo_values.specs.Texts.{joined}
use Rattle.limbo_values.proofs.Ranges.{always, applied_in, shifted_in, altered_in}
use Rattle.limbo_types.specs.Types as ty
use Rattle.limbo_types.specs.Types.{Ty}
use Rattle.limbo_layout.specs.Adts.{Def}
use Rattle.limbo_typed.specs.declared.operation.Operation.{Operation}
use Rattle.limbo_typed.specs.declared.operation.Operation.TheVariants as op
use Rattle.limbo_typed.specs.declared.operation.Connective.{Connective}
use Rattle.limbo_typed.specs.declared.stmt.Constant.{Constant}
use Rattle.limbo_typed.specs.declared.stmt.Constant.TheVariants as constant
use Rattle.limbo_typed.specs.Typed as tree
use Rattle.limbo_typed.specs.Typed.{Expr, Of, Node, Exprs, NoExprs, MoreExprs}
use Rattle.limbo_typed.specs.Fitting.{IsNumber, IsConstant, Gives, of_kind}
use Rattle.limbo_typed.specs.Sound.{type_of, types_of}
use Rattle.limbo_folding.specs.declared.outcome.Outcome.{Outcome}
use Rattle.limbo_folding.specs.declared.outcome.Outcome.TheVariants as outcomes
use Rattle.limbo_folding.specs.Folding as folding
use Rattle.limbo_folding.specs.Folding.{settled, number, decision, folds, of_number, of_text, of_numbers, of_texts, of_constants, of_one, of_two, told, decided, condition, outcome, outcome_at, on_operands, value_in}
use Rattle.limbo_folding.specs.Laws.{FitsNode, FitsType}

-- a value, if there is one, is a constant of the type
abbrev Ranged : Ty → Option Outcome → Type 0
Ranged t o = IfSome (o >>= value_in) (IsConstant t)

number_of_kind : (k : Kind) (z : ℤ) → InRange k z → IsNumber (of_kind k) z
number_of_kind kind.Byte z r = r
number_of_kind kind.Int z r = r
number_of_kind kind.Big z r = r

ranged_number : (t : Ty) (k : Kind) (z : ℤ) → t ≡ of_kind k → InRange k z → Ranged t (Some (number z))
ranged_number t k z e r = subst (λ (u : Ty). IsNumber u z) (sym e) (number_of_kind k z r)

truth_in : (b : Bool) → InRange kind.Int (values.truth b)
truth_in true = record { above = omega (arith, ints); below = omega (arith, ints) }
truth_in false = record { above = omega (arith, ints); below = omega (arith, ints) }

ranged_decision : (t : Ty) (b : Bool) → t ≡ ty.Int → Ranged t (Some (decision b))
ranged_decision t b e = ranged_number t kind.Int (values.truth b) e (truth_in b)

ranged_applied : (t : Ty) (k : Kind) (r : Result ℤ Raised) → t ≡ of_kind k → IfOk r (InRange k)
    → Ranged t (Some (settled (option_map (λ n. constant.Number n) (result_ok r))))
ranged_applied t k (Ok z) e h = ranged_number t k z e h
ranged_applied t k (Err x) e h = tt

ranged_texts : (t : Ty) (r : Result (List ℕ) Raised) → t ≡ ty.Chars → Ranged t (Some (settled (option_map (λ s. constant.Chars s) (result_ok r))))
ranged_texts t (Ok s) e = e
ranged_texts t (Err x) e = tt

ranged_told : (t : Ty) (o : Option Bool) → t ≡ ty.Int → Ranged t (Some (told o))
ranged_told t None e = tt
ranged_told t (Some b) e = ranged_decision t b e

-- ---- operations

module _ (defs : List Def) where
  number_ranged : (o : Operation) (us : List Ty) (t : Ty) (a : ℤ) → Gives defs o us t → Ranged t (of_number o a)
  number_ranged (op.Alter by k) us t a g = ranged_number t k _ g.1 (altered_in k by _ (always k a))
  number_ranged op.Not us t a g = ranged_number t kind.Int _ g.1 (truth_in (int_eq (wrapped kind.Int a) (pos 0)))
  number_ranged (op.Convert from to) us t a g = ranged_number t to _ g.1 (always to a)
  number_ranged _ us t a g = tt

  text_ranged : (o : Operation) (u : Ty) (t : Ty) (s : List ℕ) → Gives defs o (u ∷ []) t → Ranged t (of_text o s)
  text_ranged (op.Length of) u t s g = ranged_number t kind.Int _ g.1 (always kind.Int _)
  text_ranged _ u t s g = tt

  numbers_ranged : (o : Operation) (us : List Ty) (t : Ty) (a b : ℤ) → Gives defs o us t → Ranged t (of_numbers o a b)
  numbers_ranged (op.Arithmetic by k) us t a b g = ranged_applied t k (values.applied k by (wrapped k a) (wrapped k b)) g.1 (applied_in k by _ _)
  numbers_ranged (op.Shift by k) us t a b g = ranged_number t k _ g.1 (shifted_in k by _ _ (always k a))
  numbers_ranged (op.Compare by k) us t a b g = ranged_decision t _ g.1
  numbers_ranged _ us t a b g = tt

  texts_ranged : (o : Operation) (us : List Ty) (t : Ty) (a b : List ℕ) → Gives defs o us t → Ranged t (of_texts o a b)
  texts_ranged (op.CompareChars by) us t a b g = ranged_decision t _ g.1
  texts_ranged op.Join us t a b g = ranged_texts t (joined a b) g.1
  texts_ranged _ us t a b g = tt

  one_ranged : (o : Operation) (u t : Ty) (x : Option Outcome) → Gives defs o (u ∷ []) t → Ranged t (x >>= of_one o)
  one_ranged o u t None g = tt
  one_ranged o u t (Some (outcomes.Gives (constant.Number a))) g = number_ranged o (u ∷ []) t a g
  one_ranged o u t (Some (outcomes.Gives (constant.Chars s))) g = text_ranged o u t s g
  one_ranged o u t (Some outcomes.Raises) g = tt

  constants_ranged : (o : Operation) (us : List Ty) (t : Ty) (a b : Constant) → Gives defs o us t → Ranged t (of_constants o a b)
  constants_ranged o us t (constant.Number a) (constant.Number b) g = numbers_ranged o us t a b g
  constants_ranged o us t (constant.Chars a) (constant.Chars b) g = texts_ranged o us t a b g
  constants_ranged o us t (constant.Number a) (constant.Chars b) g = tt
  constants_ranged o us t (constant.Chars a) (constant.Number b) g = tt

  two_ranged : (o : Operation) (us : List Ty) (t : Ty) (x y : Option Outcome) → Gives defs o us t → Ranged t (x >>= λ v. y >>= λ w. of_two o v w)
  two_ranged o us t None y g = tt
  two_ranged o us t (Some x) None g = tt
  two_ranged o us t (Some (outcomes.Gives a)) (Some (outcomes.Gives b)) g = constants_ranged o us t a b g
  two_ranged o us t (Some (outcomes.Gives a)) (Some outcomes.Raises) g = tt
  two_ranged o us t (Some outcomes.Raises) (Some y) g = tt

  lazy_ranged : (c : Connective) (t : Ty) (x y : Option Outcome) → t ≡ ty.Int → Ranged t (folding.with_lazy c x y)
  lazy_ranged c t None y e = tt
  lazy_ranged c t (Some x) None e = tt
  lazy_ranged c t (Some x) (Some y) e = ranged_told t (decided c (condition x) (condition y)) e

  -- ---- expressions

  literal_ranged : (t : Ty) (z : ℤ) (o : Option Kind) → IsNumber t z → Ranged t (o >>= λ k. Some (number z))
  literal_ranged t z None h = tt
  literal_ranged t z (Some k) h = h

  operands_ranged : (o : Operation) (es : Exprs) (t : Ty) → Gives defs o (types_of es) t → Ranged t (on_operands o es)
  operands_ranged o NoExprs t g = tt
  operands_ranged o (MoreExprs e NoExprs) t g = one_ranged o (type_of e) t (outcome e) g
  operands_ranged o (MoreExprs e (MoreExprs f NoExprs)) t g = two_ranged o (type_of e ∷ type_of f ∷ []) t (outcome e) (outcome f) g
  operands_ranged o (MoreExprs e (MoreExprs f (MoreExprs h es))) t g = tt

  applied_ranged : (b : Bool) (t : Ty) (x : Option Outcome) → Ranged t x → Ranged t (if b then x else None)
  applied_ranged true t x h = h
  applied_ranged false t x h = tt

  node_ranged : (t : Ty) (n : Node) → FitsNode defs t n → Ranged t (outcome_at t n)
  node_ranged t (tree.Number z) h = literal_ranged t z _ h
  node_ranged t (tree.Chars s) h = h
  node_ranged t (tree.Apply o es) h = applied_ranged (folds o) t (on_operands o es) (operands_ranged o es t h)
  node_ranged t (tree.Lazy c l r) h = lazy_ranged c t (outcome l) (outcome r) h
  node_ranged t _ h = tt

  expr_ranged : (e : Expr) → FitsType defs e → Ranged (type_of e) (outcome e)
  expr_ranged (Of t n) h = node_ranged t n h

  pub in_range : (e : Expr) (v : Constant) → FitsType defs e → folding.value_of e ≡ Some v → IsConstant (type_of e) v
  in_range e v h is = subst (λ (o : Option Constant). IfSome o (IsConstant (type_of e))) is (expr_ranged e h)
