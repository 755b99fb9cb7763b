-- The numbers of constants are in their ranges.
use Rattle.std.proofs.Common.{ℕ, ℤ, pos, negsuc, List, [], Bool, true, false, if◌then◌else◌, Option, Some, None, get_or, option_map, Result}
use Rattle.std.proofs.Common.{Ok, Err, IfOk, IfSome, refl, sym, subst, arith}
use Rattle.std.specs.Prelude.{All}
use Rattle.std.specs.Result.{result_ok}
use Rattle.std.specs.Ordering.{int_eq}
use Rattle.std.proofs.lemmas.Int.{ints}
use Rattle.std.proofs.lemmas.List.Elements.{All-head, Contains-get_or}
use Rattle.inf_text.specs.Options.{◌>>=◌}
use Rattle.limbo_values.specs.declared.number.Kind.{Kind}
use Rattle.limbo_values.specs.declared.number.Kind.TheVariants.{Byte, Int, Big}
use Rattle.limbo_values.specs.declared.number.Number.TheVariants as number
use Rattle.limbo_values.specs.declared.raised.Raised.{Raised}
use Rattle.limbo_values.specs.Numbers.{InRange, kind_of, value_of, number_of}
use Rattle.limbo_values.specs.Operators.{applied, truth}
use Rattle.limbo_values.specs.Texts.{joined}
use Rattle.limbo_values.proofs.Ranges.{always, applied_in, shifted_in, altered_in}
use Rattle.limbo_tree.specs.declared.operators.UnaryOp.{UnaryOp}
use Rattle.limbo_tree.specs.declared.operators.BinaryOp.{BinaryOp}
use Rattle.limbo_tree.specs.Exprs as tree
use Rattle.limbo_tree.specs.Exprs.{Expr}
use Rattle.limbo_constants.specs.declared.constant.Sort.{Sort}
use Rattle.limbo_constants.specs.declared.constant.Constant.{Constant}
use Rattle.limbo_constants.specs.declared.constant.Constant.TheVariants.{Number, Chars}
use Rattle.limbo_constants.specs.declared.constant.Outcome.{Outcome}
use Rattle.limbo_constants.specs.declared.constant.Outcome.TheVariants.{Gives}
use Rattle.limbo_constants.specs.declared.rows.Before.{Before}
use Rattle.limbo_constants.specs.declared.rows.Before.TheVariants.{Alter, Deny, Count, Convert}
use Rattle.limbo_constants.specs.declared.rows.Operation.{Operation}
use Rattle.limbo_constants.specs.declared.rows.Operation.TheVariants.{Apply, Shift, Compare}
use Rattle.limbo_constants.specs.declared.rows.Between.{Between}
use Rattle.limbo_constants.specs.declared.rows.Between.TheVariants.{And, Or, Values}
use Rattle.limbo_constants.specs.Sorts.{before_row, between_row, sort_before, sort_between}
use Rattle.limbo_constants.specs.Constants.{Meant, sort_of, value_in, settled, told, both, either, condition, given_before, of_values}
use Rattle.limbo_constants.specs.Constants.{given_between, unary, binary, outcome, outcome_of_one}
use Rattle.limbo_constants.specs.Asked.{asked, asked_of_one}
use Rattle.limbo_constants.proofs.Depends.{all_first}
use Rattle.limbo_entries.specs.Entries.{Entry}
use Rattle.limbo_constant_values.specs.Values.{HasValue, value, Comes, comes, IsMeant, named, counted}
use Rattle.limbo_constant_values.proofs.Meanings.{all_constant}
use Rattle.limbo_typed.specs.Fitting.{IsConstant}
use Rattle.limbo_outline.specs.Outline.{type_of_constant, value_of_constant}

-- a number is in the range of its kind
abbrev pub HasRange : Constant → Type 0
HasRange (Number a) = InRange (kind_of a) (value_of a)
HasRange (Chars text) = Unit {0}

-- so it is a constant of its type
pub is_constant : (c : Constant) → HasRange c → IsConstant (type_of_constant c) (value_of_constant c)
is_constant (Number (number.Byte a)) r = r
is_constant (Number (number.Int a)) r = r
is_constant (Number (number.Big a)) r = r
is_constant (Chars text) r = refl

abbrev Ranged : Option Constant → Type 0
Ranged v = IfSome v HasRange

abbrev RangedAt : Option Outcome → Type 0
RangedAt x = Ranged (x >>= value_in)

of_range : (kind : Kind) (z : ℤ) → InRange kind z → HasRange (Number (number_of kind z))
of_range Byte (pos n) r = r
of_range Byte (negsuc n) r = let above = r.above in absurd (omega (arith, ints))
of_range Int z r = r
of_range Big z r = r

truth_range : (b : Bool) → InRange Int (truth b)
truth_range true = record { above = omega (arith, ints); below = omega (arith, ints) }
truth_range false = record { above = omega (arith, ints); below = omega (arith, ints) }

-- ---- operators

before_range : (row : Before) (a : Constant) → HasRange a → Ranged (given_before row a)
before_range (Alter by) (Number a) r = of_range (kind_of a) _ (altered_in (kind_of a) by (value_of a) r)
before_range Deny (Number a) r = truth_range (int_eq (value_of a) (pos 0))
before_range Count (Number a) r = tt
before_range (Convert kind) (Number a) r = of_range kind _ (always kind (value_of a))
before_range (Alter by) (Chars t) r = tt
before_range Deny (Chars t) r = tt
before_range Count (Chars t) r = of_range Int _ (always Int _)
before_range (Convert kind) (Chars t) r = tt

applied_range : (kind : Kind) (r : Result ℤ Raised) → IfOk r (InRange kind)
    → Ranged (option_map Number (option_map (number_of kind) (result_ok r)))
applied_range kind (Ok z) r = of_range kind z r
applied_range kind (Err e) r = tt

joined_range : (r : Result (List ℕ) Raised) → Ranged (option_map Chars (result_ok r))
joined_range (Ok t) = tt
joined_range (Err e) = tt

told_range : (t : Option Bool) → Ranged (told t)
told_range None = tt
told_range (Some b) = truth_range b

values_range : (by : Operation) (a b : Constant) → HasRange a → Ranged (of_values by a b)
values_range (Apply by) (Number a) (Number b) r =
    applied_range (kind_of a) (applied (kind_of a) by (value_of a) (value_of b)) (applied_in (kind_of a) by (value_of a) (value_of b))
values_range (Shift by) (Number a) (Number b) r = of_range (kind_of a) _ (shifted_in (kind_of a) by (value_of a) (value_of b) r)
values_range (Compare by) (Number a) (Number b) r = truth_range _
values_range (Apply by) (Chars s) (Chars t) r = joined_range (joined s t)
values_range (Shift by) (Chars s) (Chars t) r = tt
values_range (Compare by) (Chars s) (Chars t) r = truth_range _
values_range by (Number a) (Chars t) r = tt
values_range by (Chars t) (Number a) r = tt

both_range : (by : Operation) (x y : Option Constant) → Ranged x → Ranged (x >>= λ a. y >>= λ b. of_values by a b)
both_range by None y r = tt
both_range by (Some a) None r = tt
both_range by (Some a) (Some b) r = values_range by a b r

between_range : (row : Between) (x y : Option Constant) → Ranged x → Ranged (given_between row x y)
between_range And x y r = told_range (both (x >>= condition) (y >>= condition))
between_range Or x y r = told_range (either (x >>= condition) (y >>= condition))
between_range (Values by) x y r = both_range by x y r

settled_range : (s : Option Sort) (v : Option Constant) → Ranged v → RangedAt (s >>= λ s. Some (settled s v))
settled_range None v r = tt
settled_range (Some s) None r = tt
settled_range (Some s) (Some a) r = r

value_before_range : (row : Before) (x : Option Constant) → Ranged x → Ranged (x >>= given_before row)
value_before_range row None r = tt
value_before_range row (Some a) r = before_range row a r

row_before : (row : Option Before) (x : Outcome) → Ranged (value_in x)
    → RangedAt (row >>= λ row. sort_before row (sort_of x) >>= λ s. Some (settled s (value_in x >>= given_before row)))
row_before None x r = tt
row_before (Some row) x r =
    settled_range (sort_before row (sort_of x)) (value_in x >>= given_before row) (value_before_range row (value_in x) r)

row_between : (row : Option Between) (x y : Outcome) → Ranged (value_in x)
    → RangedAt
    (row >>= λ row. sort_between row (sort_of x) (sort_of y) >>= λ s. Some (settled s (given_between row (value_in x) (value_in y))))
row_between None x y r = tt
row_between (Some row) x y r =
    settled_range (sort_between row (sort_of x) (sort_of y)) (given_between row (value_in x) (value_in y))
    (between_range row (value_in x) (value_in y) r)

after_one : (op : UnaryOp) (x : Option Outcome) → RangedAt x → RangedAt (x >>= λ x. unary op x)
after_one op None r = tt
after_one op (Some x) r = row_before (before_row op) x r

after_two : (op : BinaryOp) (x y : Option Outcome) → RangedAt x → RangedAt (x >>= λ x. y >>= λ y. binary op x y)
after_two op None y r = tt
after_two op (Some x) None r = tt
after_two op (Some x) (Some y) r = row_between (between_row op) x y r

given_range : (m : Option Constant) → Ranged m → RangedAt (option_map Gives m)
given_range None r = tt
given_range (Some a) r = r

-- ---- expressions

module _ (meant : Meant) where
  abbrev Fits : Expr → Type 0
  Fits part = IfSome (meant part) HasRange

  mutual
    ranged : (e : Expr) → All Fits (asked e) → RangedAt (outcome meant e)
    ranged (tree.Number v wide) h = of_range (if wide then Big else Int) _ (always (if wide then Big else Int) v)
    ranged (tree.Chars t) h = tt
    ranged (tree.Name n) h = given_range (meant (tree.Name n)) (All-head Fits _ [] h)
    ranged (tree.Arrow x n) h = given_range (meant (tree.Arrow x n)) (All-head Fits _ [] h)
    ranged (tree.Dot x n) h = given_range (meant (tree.Dot x n)) (All-head Fits _ [] h)
    ranged (tree.Group es) h = ranged_one es h
    ranged (tree.Unary o e) h = after_one o (outcome meant e) (ranged e h)
    ranged (tree.Binary o l r) h =
        after_two o (outcome meant l) (outcome meant r) (ranged l (all_first Fits (asked l) (asked r) h))
    ranged _ h = tt

    ranged_one : (es : tree.Exprs) → All Fits (asked_of_one es) → RangedAt (outcome_of_one meant es)
    ranged_one tree.NoExprs h = tt
    ranged_one (tree.MoreExprs e tree.NoExprs) h = ranged e h
    ranged_one (tree.MoreExprs e (tree.MoreExprs f es)) h = tt

-- ---- values

module _ (es : List Entry) (m : ℕ) where
  mutual
    pub value_range : (k : ℕ) (c : Constant) → HasValue es m k c → HasRange c
    value_range _ _ (value k e expr i c t w x) = comes_range e.within (Some i) expr c x

    pub comes_range : (scope iota : Option ℕ) (expr : Expr) (c : Constant) → Comes es m scope iota expr c → HasRange c
    comes_range _ _ _ _ (comes scope iota expr c meant f h) =
        let fits : All (λ part. IfSome (meant part) HasRange) (asked expr) = λ k x l.
        let a = all_constant meant expr c h k x l in
        let part = get_or (asked expr) k x in
        let r = part_range scope iota part a.0 (f part a.0 (Contains-get_or (asked expr) k x l) a.1) in
        subst (λ (z : Option Constant). IfSome z HasRange) (sym a.1) r in
        subst (λ (z : Option Constant). IfSome z HasRange) h (ranged meant expr fits)

    part_range : (scope iota : Option ℕ) (part : Expr) (a : Constant) → IsMeant es m scope iota part a → HasRange a
    part_range _ _ _ _ (named scope iota part q r a w n v) = value_range r a v
    part_range _ _ _ _ (counted scope i none) = of_range Int _ (always Int (pos i))
