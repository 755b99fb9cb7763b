-- What holds of constant expressions.
use Rattle.std.specs.Prelude.{◌≡◌, ◌≤◌, option_map, length, IfSome, All}
use Rattle.limbo_values.specs.Numbers.{InRange, kind_of, value_of}
use Rattle.limbo_values.specs.Texts.{longest}
use Rattle.limbo_tree.specs.Exprs.{Expr}
use Rattle.limbo_constants.specs.declared.constant.Constant.{Constant}
use Rattle.limbo_constants.specs.declared.constant.Constant.TheVariants.{Number, Chars}
use Rattle.limbo_constants.specs.Sorts.{sort_in}
use Rattle.limbo_constants.specs.Constants.{Meant, sort_of_constant, sort_of, constant_in, outcome}
use Rattle.limbo_constants.specs.Asked.{asked, written}

-- What an expression comes to depends on nothing but what its asked parts mean.
abbrev pub DependsOnAsked : Type 0
DependsOnAsked = (meant other : Meant) (e : Expr) → All (λ part. meant part ≡ other part) (asked e) → outcome meant e ≡ outcome other e

-- The sort of what an expression comes to, also where it raises, is the one that the table gives by the sorts of the asked parts; where
-- the table gives none, it comes to nothing.
abbrev pub HasItsSort : Type 0
HasItsSort =
    (meant : Meant) (e : Expr)
    → option_map sort_of (outcome meant e) ≡ sort_in (λ part. option_map sort_of_constant (meant part)) e

-- a number is one of its kind, and a string has no more characters than one may have
abbrev pub IsInRange : Constant → Type 0
IsInRange (Number a) = InRange (kind_of a) (value_of a)
IsInRange (Chars text) = length text ≤ longest

-- Where the asked parts mean constants in range, and the strings that are written are in range, the constant that an expression is
-- is in range.
abbrev pub StaysInRange : Type 0
StaysInRange =
    (meant : Meant) (e : Expr) → All (λ part. IfSome (meant part) IsInRange) (asked e) → All (λ text. length text ≤ longest) (written e)
    → IfSome (constant_in meant e) IsInRange
