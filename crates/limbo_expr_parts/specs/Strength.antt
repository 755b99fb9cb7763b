-- How strongly the first token goes on with the expression or type before it.
use Rattle.std.specs.Prelude.{ℕ, ◌<◌, Bool, true, false, List, ◌∷◌}
use Rattle.limbo_lexer.specs.declared.token.Kind.{Kind}
use Rattle.limbo_lexer.specs.declared.token.Kind.TheVariants as kind
use Rattle.limbo_lexer.specs.declared.token.Key.TheVariants as key
use Rattle.limbo_lexer.specs.declared.token.Mark.{Mark}
use Rattle.limbo_lexer.specs.declared.token.Mark.TheVariants as mark

-- the level at which a sign goes on: 0 behind a postfix or the name of a type, 1 to 11 an operator, 13 an assignment; 14 is
-- any sign that doesn't
abbrev pub strength_of : Mark → ℕ
strength_of mark.OpenParen = 0
strength_of mark.OpenBracket = 0
strength_of mark.Dot = 0
strength_of mark.Arrow = 0
strength_of mark.Increment = 0
strength_of mark.Decrement = 0
strength_of mark.Star = 1
strength_of mark.Slash = 1
strength_of mark.Percent = 1
strength_of mark.Plus = 2
strength_of mark.Minus = 2
strength_of mark.Shl = 3
strength_of mark.Shr = 3
strength_of mark.Less = 4
strength_of mark.LessEqual = 4
strength_of mark.Greater = 4
strength_of mark.GreaterEqual = 4
strength_of mark.Equal = 5
strength_of mark.NotEqual = 5
strength_of mark.Ampersand = 6
strength_of mark.Caret = 7
strength_of mark.Bar = 8
strength_of mark.Cons = 9
strength_of mark.AndAnd = 10
strength_of mark.OrOr = 11
strength_of mark.Assign = 13
strength_of mark.Define = 13
strength_of mark.Send = 13
strength_of mark.AddAssign = 13
strength_of mark.SubAssign = 13
strength_of mark.MulAssign = 13
strength_of mark.DivAssign = 13
strength_of mark.RemAssign = 13
strength_of mark.AndAssign = 13
strength_of mark.OrAssign = 13
strength_of mark.XorAssign = 13
strength_of mark.ShlAssign = 13
strength_of mark.ShrAssign = 13
strength_of _ = 14

abbrev pub strength : List Kind → ℕ
strength (kind.Mark m ∷ ts) = strength_of m
strength _ = 14

-- no token at the front goes on with a tree of this level
abbrev pub Stops : ℕ → List Kind → Type 0
Stops k ts = k < strength ts

-- the first token begins an expression
abbrev pub begins_expr : List Kind → Bool
begins_expr (kind.Name n ∷ ts) = true
begins_expr (kind.Number v wide ∷ ts) = true
begins_expr (kind.Chars s ∷ ts) = true
begins_expr (kind.Key key.Nil ∷ ts) = true
begins_expr (kind.Key key.Load ∷ ts) = true
begins_expr (kind.Key key.Array ∷ ts) = true
begins_expr (kind.Key key.Chan ∷ ts) = true
begins_expr (kind.Key key.List ∷ ts) = true
begins_expr (kind.Key key.Ref ∷ ts) = true
begins_expr (kind.Key key.Hd ∷ ts) = true
begins_expr (kind.Key key.Tl ∷ ts) = true
begins_expr (kind.Key key.Len ∷ ts) = true
begins_expr (kind.Key key.Tagof ∷ ts) = true
begins_expr (kind.Key key.Byte ∷ ts) = true
begins_expr (kind.Key key.Int ∷ ts) = true
begins_expr (kind.Key key.Big ∷ ts) = true
begins_expr (kind.Key key.String ∷ ts) = true
begins_expr (kind.Mark mark.OpenParen ∷ ts) = true
begins_expr (kind.Mark mark.Plus ∷ ts) = true
begins_expr (kind.Mark mark.Minus ∷ ts) = true
begins_expr (kind.Mark mark.Bang ∷ ts) = true
begins_expr (kind.Mark mark.Tilde ∷ ts) = true
begins_expr (kind.Mark mark.Increment ∷ ts) = true
begins_expr (kind.Mark mark.Decrement ∷ ts) = true
begins_expr (kind.Mark mark.Receive ∷ ts) = true
begins_expr (kind.Mark mark.Star ∷ ts) = true
begins_expr _ = false

-- the first token begins a type
abbrev pub begins_ty : List Kind → Bool
begins_ty (kind.Name n ∷ ts) = true
begins_ty (kind.Key key.Byte ∷ ts) = true
begins_ty (kind.Key key.Int ∷ ts) = true
begins_ty (kind.Key key.Big ∷ ts) = true
begins_ty (kind.Key key.String ∷ ts) = true
begins_ty (kind.Key key.Array ∷ ts) = true
begins_ty (kind.Key key.List ∷ ts) = true
begins_ty (kind.Key key.Chan ∷ ts) = true
begins_ty (kind.Key key.Ref ∷ ts) = true
begins_ty (kind.Mark mark.OpenParen ∷ ts) = true
begins_ty _ = false
