-- What an expression comes to has the sort that the table gives.
use Rattle.std.proofs.Common.{◌≡◌, ℕ, ℤ, List, Bool, true, false, ◌&&◌, if◌then◌else◌, Option, Some, None, IsSome, option_map, Result, Ok, Err, refl, ap, ap₂, ◌∙◌, subst}
use Rattle.std.specs.Result.{result_ok}
use Rattle.inf_text.specs.Options.{◌>>=◌}
use Rattle.limbo_values.specs.declared.number.Kind.{Kind}
use Rattle.limbo_values.specs.declared.number.Kind.TheVariants.{Byte, Int, Big}
use Rattle.limbo_values.specs.declared.number.Number as number_type
use Rattle.limbo_values.specs.declared.number.Number.TheVariants as number
use Rattle.limbo_values.specs.declared.operator.Operator.{Operator}
use Rattle.limbo_values.specs.declared.raised.Raised.{Raised}
use Rattle.limbo_values.specs.Numbers.{kind_of, value_of, number_of}
use Rattle.limbo_values.specs.Operators.{applied}
use Rattle.limbo_values.specs.Texts.{joined}
use Rattle.limbo_tree.specs.declared.operators.UnaryOp.{UnaryOp}
use Rattle.limbo_tree.specs.declared.operators.BinaryOp.{BinaryOp}
use Rattle.limbo_tree.specs.Exprs as tree
use Rattle.limbo_constants.specs.declared.constant.Sort.{Sort}
use Rattle.limbo_constants.specs.declared.constant.Sort.TheVariants as sort
use Rattle.limbo_constants.specs.declared.constant.Constant.{Constant}
use Rattle.limbo_constants.specs.declared.constant.Constant.TheVariants.{Number, Chars}
use Rattle.limbo_constants.specs.declared.constant.Outcome.{Outcome}
use Rattle.limbo_constants.specs.declared.constant.Outcome.TheVariants.{Gives, Raises}
use Rattle.limbo_constants.specs.declared.rows.Before.{Before}
use Rattle.limbo_constants.specs.declared.rows.Before.TheVariants.{Alter, Deny, Count, Convert}
use Rattle.limbo_constants.specs.declared.rows.Operation.{Operation}
use Rattle.limbo_constants.specs.declared.rows.Operation.TheVariants.{Apply, Shift, Compare}
use Rattle.limbo_constants.specs.declared.rows.Between.{Between}
use Rattle.limbo_constants.specs.declared.rows.Between.TheVariants.{And, Or, Values}
use Rattle.limbo_constants.specs.Sorts.{before_row, between_row, fitting, same, has_operator, is_int, sort_before, sort_between, sort_in, sort_of_one}
use Rattle.limbo_constants.specs.Constants.{Meant, sort_of_constant, sort_of, value_in, settled, of_kind, given_before, of_values, both, either, told, condition, given_between, unary, binary, outcome, outcome_of_one}
use Rattle.limbo_constants.specs.Laws.{HasItsSort}

-- a value, if there is one, has a sort
abbrev pub HasSort : Sort → Option Constant → Type 0
HasSort s None = Unit {0}
HasSort s (Some a) = sort_of_constant a ≡ s

pub kind-number_of : (kind : Kind) (z : ℤ) → kind_of (number_of kind z) ≡ kind
kind-number_of Byte z = refl
kind-number_of Int z = refl
kind-number_of Big z = refl

settled_sort : (s : Sort) (v : Option Constant) → HasSort s v → sort_of (settled s v) ≡ s
settled_sort s None h = refl
settled_sort s (Some a) h = h

-- ---- before

number_sort : (kind : Kind) (z : ℤ) → sort_of_constant (Number (number_of kind z)) ≡ sort.Number kind
number_sort kind z = ap sort.Number (kind-number_of kind z)

int_before : (a : number_type.Number) (s : Sort) → fitting (is_int (sort.Number (kind_of a))) (sort.Number (kind_of a)) ≡ Some s → sort.Number Int ≡ s
int_before (number.Byte a) s h = absurd cc
int_before (number.Int a) s h = cc
int_before (number.Big a) s h = absurd cc

before_sort : (row : Before) (a : Constant) (s : Sort) → sort_before row (sort_of_constant a) ≡ Some s → HasSort s (given_before row a)
before_sort (Alter by) (Number a) s h = number_sort (kind_of a) _ ∙ cc
before_sort Deny (Number a) s h = int_before a s h
before_sort Count (Number a) s h = tt
before_sort (Convert kind) (Number a) s h = number_sort kind _ ∙ cc
before_sort (Alter by) (Chars t) s h = tt
before_sort Deny (Chars t) s h = tt
before_sort Count (Chars t) s h = cc
before_sort (Convert kind) (Chars t) s h = tt

value_before : (row : Before) (x : Outcome) (s : Sort) → sort_before row (sort_of x) ≡ Some s → HasSort s (value_in x >>= given_before row)
value_before row (Gives a) s h = before_sort row a s h
value_before row (Raises t) s h = tt

fits_before :
    (row : Before) (x : Outcome) (s : Option Sort) → sort_before row (sort_of x) ≡ s
    → option_map sort_of (s >>= λ s. Some (settled s (value_in x >>= given_before row))) ≡ s
fits_before row x None h = refl
fits_before row x (Some s) h = ap Some (settled_sort s (value_in x >>= given_before row) (value_before row x s h))

row_before :
    (row : Option Before) (x : Outcome)
    → option_map sort_of (row >>= λ row. sort_before row (sort_of x) >>= λ s. Some (settled s (value_in x >>= given_before row)))
    ≡ (row >>= λ row. sort_before row (sort_of x))
row_before None x = refl
row_before (Some row) x = fits_before row x (sort_before row (sort_of x)) refl

-- ---- between

-- where a sort fits, what it fits holds
pub fits : (b : Bool) (s t : Sort) → fitting b s ≡ Some t → (b ≡ true) × (s ≡ t)
fits true s t h = (refl, cc)
fits false s t h = absurd cc

pub first_of : (a b : Bool) → (a && b) ≡ true → a ≡ true
first_of true b h = refl
first_of false b h = h

pub second_of : (a b : Bool) → (a && b) ≡ true → b ≡ true
second_of true b h = h
second_of false b h = absurd cc

int_is : (s : Sort) → is_int s ≡ true → sort.Number Int ≡ s
int_is (sort.Number Byte) h = absurd cc
int_is (sort.Number Int) h = refl
int_is (sort.Number Big) h = absurd cc
int_is sort.Chars h = absurd cc

told_sort : (t : Option Bool) → HasSort (sort.Number Int) (told t)
told_sort None = tt
told_sort (Some b) = refl

numbers_sort : (r : Result ℤ Raised) (kind : Kind) → HasSort (sort.Number kind) (option_map Number (option_map (number_of kind) (result_ok r)))
numbers_sort (Ok z) kind = number_sort kind z
numbers_sort (Err e) kind = tt

texts_sort : (r : Result (List ℕ) Raised) → HasSort sort.Chars (option_map Chars (result_ok r))
texts_sort (Ok t) = refl
texts_sort (Err e) = tt

values_sort :
    (by : Operation) (a b : Constant) (s : Sort) → sort_between (Values by) (sort_of_constant a) (sort_of_constant b) ≡ Some s
    → HasSort s (of_values by a b)
values_sort (Apply by) (Number a) (Number b) s h =
    subst (λ s. HasSort s (of_values (Apply by) (Number a) (Number b))) ((fits _ _ s h).1)
    (numbers_sort (applied (kind_of a) by (value_of a) (value_of b)) (kind_of a))
values_sort (Apply by) (Chars t) (Chars u) s h =
    subst (λ s. HasSort s (of_values (Apply by) (Chars t) (Chars u))) ((fits _ _ s h).1) (texts_sort (joined t u))
values_sort (Shift by) (Number a) (Number b) s h = number_sort (kind_of a) _ ∙ (fits _ _ s h).1
values_sort (Shift by) (Chars t) (Chars u) s h = tt
values_sort (Compare by) (Number a) (Number b) s h = (fits _ _ s h).1
values_sort (Compare by) (Chars t) (Chars u) s h = (fits true (sort.Number Int) s h).1
values_sort by (Number a) (Chars t) s h = tt
values_sort by (Chars t) (Number a) s h = tt

both_values :
    (by : Operation) (x y : Outcome) (s : Sort) → sort_between (Values by) (sort_of x) (sort_of y) ≡ Some s
    → HasSort s (value_in x >>= λ a. value_in y >>= λ b. of_values by a b)
both_values by (Gives a) (Gives b) s h = values_sort by a b s h
both_values by (Gives a) (Raises t) s h = tt
both_values by (Raises t) y s h = tt

value_between :
    (row : Between) (x y : Outcome) (s : Sort) → sort_between row (sort_of x) (sort_of y) ≡ Some s
    → HasSort s (given_between row (value_in x) (value_in y))
value_between And x y s h =
    let f = fits _ _ s h in
    subst (λ s. HasSort s (given_between And (value_in x) (value_in y))) (int_is (sort_of x) (first_of _ _ f.0) ∙ f.1)
    (told_sort (both (value_in x >>= condition) (value_in y >>= condition)))
value_between Or x y s h =
    let f = fits _ _ s h in
    subst (λ s. HasSort s (given_between Or (value_in x) (value_in y))) (int_is (sort_of x) (first_of _ _ f.0) ∙ f.1)
    (told_sort (either (value_in x >>= condition) (value_in y >>= condition)))
value_between (Values by) x y s h = both_values by x y s h

fits_between :
    (row : Between) (x y : Outcome) (s : Option Sort) → sort_between row (sort_of x) (sort_of y) ≡ s
    → option_map sort_of (s >>= λ s. Some (settled s (given_between row (value_in x) (value_in y)))) ≡ s
fits_between row x y None h = refl
fits_between row x y (Some s) h = ap Some (settled_sort s (given_between row (value_in x) (value_in y)) (value_between row x y s h))

row_between :
    (row : Option Between) (x y : Outcome)
    → option_map sort_of
    (row >>= λ row. sort_between row (sort_of x) (sort_of y) >>= λ s. Some (settled s (given_between row (value_in x) (value_in y))))
    ≡ (row >>= λ row. sort_between row (sort_of x) (sort_of y))
row_between None x y = refl
row_between (Some row) x y = fits_between row x y (sort_between row (sort_of x) (sort_of y)) refl

-- ---- expressions

after_one :
    (op : UnaryOp) (x : Option Outcome) (s : Option Sort) → option_map sort_of x ≡ s
    → option_map sort_of (x >>= λ x. unary op x) ≡ (before_row op >>= λ row. s >>= λ s. sort_before row s)
after_one op None s h = none (before_row op) ∙ ap (λ s. before_row op >>= λ row. s >>= λ s. sort_before row s) h
  where
    none : (row : Option Before) → None ≡ (row >>= λ row. (None >>= λ s. sort_before row s))
    none None = refl
    none (Some row) = refl
after_one op (Some x) s h = row_before (before_row op) x ∙ ap (λ s. before_row op >>= λ row. s >>= λ s. sort_before row s) h

after_two :
    (op : BinaryOp) (x y : Option Outcome) (s t : Option Sort) → option_map sort_of x ≡ s → option_map sort_of y ≡ t
    → option_map sort_of (x >>= λ x. y >>= λ y. binary op x y) ≡ (between_row op >>= λ row. s >>= λ s. t >>= λ t. sort_between row s t)
after_two op x y s t h k = go x y ∙ ap₂ (λ s t. between_row op >>= λ row. s >>= λ s. t >>= λ t. sort_between row s t) h k
  where
    none : (row : Option Between) (t : Option Sort) → None ≡ (row >>= λ row. (None >>= λ s. t >>= λ t. sort_between row s t))
    none None t = refl
    none (Some row) t = refl

    no_second : (row : Option Between) (s : Sort) → None ≡ (row >>= λ row. (None >>= λ t. sort_between row s t))
    no_second None s = refl
    no_second (Some row) s = refl

    go :
        (x y : Option Outcome)
        → option_map sort_of (x >>= λ x. y >>= λ y. binary op x y)
        ≡ (between_row op >>= λ row. option_map sort_of x >>= λ s. option_map sort_of y >>= λ t. sort_between row s t)
    go None y = none (between_row op) (option_map sort_of y)
    go (Some x) None = no_second (between_row op) (sort_of x)
    go (Some x) (Some y) = row_between (between_row op) x y

given_sort : (m : Option Constant) → option_map sort_of (option_map Gives m) ≡ option_map sort_of_constant m
given_sort None = refl
given_sort (Some a) = refl

literal_sort : (wide : Bool) (v : ℤ) → kind_of (of_kind (if wide then Big else Int) v) ≡ (if wide then Big else Int)
literal_sort true v = refl
literal_sort false v = refl

module _ (meant : Meant) where
  mutual
    sorted : (e : tree.Expr) → option_map sort_of (outcome meant e) ≡ sort_in (λ part. option_map sort_of_constant (meant part)) e
    sorted (tree.Number v wide) = ap (λ k. Some (sort.Number k)) (literal_sort wide v)
    sorted (tree.Chars t) = refl
    sorted (tree.Name n) = given_sort (meant (tree.Name n))
    sorted (tree.Arrow x n) = given_sort (meant (tree.Arrow x n))
    sorted (tree.Dot x n) = given_sort (meant (tree.Dot x n))
    sorted (tree.Group es) = sorted_one es
    sorted (tree.Unary o e) = after_one o (outcome meant e) (sort_in (λ part. option_map sort_of_constant (meant part)) e) (sorted e)
    sorted (tree.Binary o l r) =
        after_two o (outcome meant l) (outcome meant r) (sort_in (λ part. option_map sort_of_constant (meant part)) l)
        (sort_in (λ part. option_map sort_of_constant (meant part)) r) (sorted l) (sorted r)
    sorted _ = refl

    sorted_one :
        (es : tree.Exprs)
        → option_map sort_of (outcome_of_one meant es) ≡ sort_of_one (λ part. option_map sort_of_constant (meant part)) es
    sorted_one tree.NoExprs = refl
    sorted_one (tree.MoreExprs e tree.NoExprs) = sorted e
    sorted_one (tree.MoreExprs e (tree.MoreExprs f es)) = refl

pub has_its_sort : HasItsSort
has_its_sort meant e = sorted meant e

-- ---- numbers of one kind

same_kinds : (k l : Kind) → same (sort.Number k) (sort.Number l) ≡ true → l ≡ k
same_kinds Byte Byte h = refl
same_kinds Byte Int h = absurd cc
same_kinds Byte Big h = absurd cc
same_kinds Int Byte h = absurd cc
same_kinds Int Int h = refl
same_kinds Int Big h = absurd cc
same_kinds Big Byte h = absurd cc
same_kinds Big Int h = absurd cc
same_kinds Big Big h = refl

-- two numbers that an operator fits are of one kind
pub alike :
    (by : Operator) (a b : number_type.Number)
    → IsSome (sort_between (Values (Apply by)) (sort.Number (kind_of a)) (sort.Number (kind_of b))) → kind_of b ≡ kind_of a
alike by a b h = go (same (sort.Number (kind_of a)) (sort.Number (kind_of b)) && has_operator (sort.Number (kind_of a)) by) refl h
  where
    go :
        (t : Bool) → (same (sort.Number (kind_of a)) (sort.Number (kind_of b)) && has_operator (sort.Number (kind_of a)) by) ≡ t
        → IsSome (fitting t (sort.Number (kind_of a))) → kind_of b ≡ kind_of a
    go true e h = same_kinds (kind_of a) (kind_of b) (first_of _ _ e)
    go false e h = absurd cc
