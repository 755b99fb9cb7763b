-- Constant expressions worked out by hand.
use Rattle.std.proofs.Common.{◌≡◌, ℕ, ℤ, pos, negsuc, false, true, List, Option, Some, None, codes, refl}
use Rattle.std.specs.Int.{int_wrap}
use Rattle.limbo_values.specs.declared.number.Kind.TheVariants as kind
use Rattle.limbo_values.specs.declared.number.Number.TheVariants.{Byte, Int, Big}
use Rattle.limbo_tree.specs.declared.operators.UnaryOp.TheVariants as unary
use Rattle.limbo_tree.specs.declared.operators.BinaryOp.TheVariants as binary
use Rattle.limbo_tree.specs.Exprs as tree
use Rattle.limbo_constants.specs.declared.constant.Sort.TheVariants as sort
use Rattle.limbo_constants.specs.declared.constant.Constant.TheVariants.{Number, Chars}
use Rattle.limbo_constants.specs.declared.constant.Outcome.{Outcome}
use Rattle.limbo_constants.specs.declared.constant.Outcome.TheVariants.{Gives, Raises}
use Rattle.limbo_constants.specs.Constants.{outcome}

-- no name means anything
abbrev of : tree.Expr → Option Outcome
of e = outcome (λ part. None) e

-- an int and a string, as they are written
abbrev int : ℤ → tree.Expr
int v = tree.Number v false

abbrev text : List ℕ → tree.Expr
text s = tree.Chars s

-- `1 << 3` is 8, `1 << 33` is 2
shifted : of (tree.Binary binary.Shl (int (pos 1)) (int (pos 3))) ≡ Some (Gives (Number (Int (pos 8))))
unfolding int_wrap
shifted = refl

count_reduced : of (tree.Binary binary.Shl (int (pos 1)) (int (pos 33))) ≡ Some (Gives (Number (Int (pos 2))))
unfolding int_wrap
count_reduced = refl

-- `"a" + "b"` is "ab", `len ("a" + "b")` is 2, `"a" < "b"` is 1
joint : of (tree.Binary binary.Add (text (codes "a")) (text (codes "b"))) ≡ Some (Gives (Chars (codes "ab")))
joint = refl

length_of_joint :
    of (tree.Unary unary.Len (tree.Group (tree.MoreExprs (tree.Binary binary.Add (text (codes "a")) (text (codes "b"))) tree.NoExprs)))
    ≡ Some (Gives (Number (Int (pos 2))))
unfolding int_wrap
length_of_joint = refl

in_order : of (tree.Binary binary.Less (text (codes "a")) (text (codes "b"))) ≡ Some (Gives (Number (Int (pos 1))))
in_order = refl

-- `2147483647 + 1` is the least int, and `-2147483648` a big
wraps : of (tree.Binary binary.Add (int (pos 2147483647)) (int (pos 1))) ≡ Some (Gives (Number (Int (negsuc 2147483647))))
unfolding int_wrap
wraps = refl

minus_of_big : of (tree.Unary unary.Minus (tree.Number (pos 2147483648) true)) ≡ Some (Gives (Number (Big (negsuc 2147483647))))
unfolding int_wrap
minus_of_big = refl

-- `16r80000000 / -1` is the least int, which its first token is
least_by_minus_one :
    of (tree.Binary binary.Div (int (negsuc 2147483647)) (tree.Unary unary.Minus (int (pos 1))))
    ≡ Some (Gives (Number (Int (negsuc 2147483647))))
unfolding int_wrap
least_by_minus_one = refl

-- `byte 255 + byte 1` is 0
byte_wraps :
    of (tree.Binary binary.Add (tree.Unary unary.Byte (int (pos 255))) (tree.Unary unary.Byte (int (pos 1)))) ≡ Some (Gives (Number (Byte 0)))
unfolding int_wrap
byte_wraps = refl

-- `-7 / 2` is -3, `-7 % 2` is -1
toward_zero :
    of (tree.Binary binary.Div (tree.Unary unary.Minus (int (pos 7))) (int (pos 2))) ≡ Some (Gives (Number (Int (negsuc 2))))
unfolding int_wrap
toward_zero = refl

sign_of_dividend :
    of (tree.Binary binary.Rem (tree.Unary unary.Minus (int (pos 7))) (int (pos 2))) ≡ Some (Gives (Number (Int (negsuc 0))))
unfolding int_wrap
sign_of_dividend = refl

-- `1 / 0` and `1 / 0 + 1` raise in place of an int, `1 / 0 + "a"` isn't constant
raises : tree.Expr
raises = tree.Binary binary.Div (int (pos 1)) (int (pos 0))

by_zero : of raises ≡ Some (Raises (sort.Number kind.Int))
unfolding raises int_wrap
by_zero = refl

raises_on : of (tree.Binary binary.Add raises (int (pos 1))) ≡ Some (Raises (sort.Number kind.Int))
unfolding raises int_wrap
raises_on = refl

raises_with_string : of (tree.Binary binary.Add raises (text (codes "a"))) ≡ None
unfolding raises int_wrap
raises_with_string = refl

-- `0 && 1 / 0` is 0, `1 || 1 / 0` is 1, `1 && 1 / 0` raises, `0 && "a"` isn't constant
decided_false : of (tree.Binary binary.AndAnd (int (pos 0)) raises) ≡ Some (Gives (Number (Int (pos 0))))
unfolding raises int_wrap
decided_false = refl

decided_true : of (tree.Binary binary.OrOr (int (pos 1)) raises) ≡ Some (Gives (Number (Int (pos 1))))
unfolding raises int_wrap
decided_true = refl

not_decided : of (tree.Binary binary.AndAnd (int (pos 1)) raises) ≡ Some (Raises (sort.Number kind.Int))
unfolding raises int_wrap
not_decided = refl

no_int : of (tree.Binary binary.AndAnd (int (pos 0)) (text (codes "a"))) ≡ None
unfolding int_wrap
no_int = refl

-- `byte 1 + 1`, `string 3`, `int "3"`, `"abc"[1]`, `nil` and `(1, 2)` aren't constant
two_kinds : of (tree.Binary binary.Add (tree.Unary unary.Byte (int (pos 1))) (int (pos 1))) ≡ None
unfolding int_wrap
two_kinds = refl

to_string : of (tree.Unary unary.String (int (pos 3))) ≡ None
unfolding int_wrap
to_string = refl

from_string : of (tree.Unary unary.Int (text (codes "3"))) ≡ None
from_string = refl

indexed : of (tree.Index (text (codes "abc")) (int (pos 1))) ≡ None
indexed = refl

no_value : of tree.Nil ≡ None
no_value = refl

pair : of (tree.Group (tree.MoreExprs (int (pos 1)) (tree.MoreExprs (int (pos 2)) tree.NoExprs))) ≡ None
pair = refl
