-- The words and signs of the language (Limbo Language Reference, lexical conventions).
use Rattle.std.specs.Prelude.{ℕ, List, [], ◌∷◌, codes, nat_eq, Option, Some, None, cond}
use Rattle.std.specs.Cmp.Lexicographic.{pointwise}
use Rattle.limbo_lexer.specs.declared.token.Kind.{Kind}
use Rattle.limbo_lexer.specs.declared.token.Kind.TheVariants as kind
use Rattle.limbo_lexer.specs.declared.token.Key.{Key}
use Rattle.limbo_lexer.specs.declared.token.Key.TheVariants as key
use Rattle.limbo_lexer.specs.declared.token.Mark.{Mark}
use Rattle.limbo_lexer.specs.declared.token.Mark.TheVariants as mark

-- What a table of spellings gives this one: the value in the first row with it.
abbrev pub listed : {T : Type 0} → List (List ℕ × T) → List ℕ → Option T
listed [] s = None
listed (row ∷ rows) s = cond (pointwise nat_eq s row.0) (Some row.1) (listed rows s)

-- The keywords.
unfoldable pub keywords : List (List ℕ × Key)
keywords =
    (codes "adt", key.Adt) ∷ (codes "alt", key.Alt) ∷ (codes "array", key.Array) ∷ (codes "big", key.Big)
    ∷ (codes "break", key.Break) ∷ (codes "byte", key.Byte) ∷ (codes "case", key.Case)
    ∷ (codes "chan", key.Chan) ∷ (codes "con", key.Con) ∷ (codes "continue", key.Continue)
    ∷ (codes "cyclic", key.Cyclic) ∷ (codes "do", key.Do) ∷ (codes "dynamic", key.Dynamic)
    ∷ (codes "else", key.Else) ∷ (codes "exception", key.Exception) ∷ (codes "exit", key.Exit)
    ∷ (codes "fixed", key.Fixed) ∷ (codes "fn", key.Fn) ∷ (codes "for", key.For) ∷ (codes "hd", key.Hd)
    ∷ (codes "if", key.If) ∷ (codes "implement", key.Implement) ∷ (codes "import", key.Import)
    ∷ (codes "include", key.Include) ∷ (codes "int", key.Int) ∷ (codes "len", key.Len)
    ∷ (codes "list", key.List) ∷ (codes "load", key.Load) ∷ (codes "module", key.Module)
    ∷ (codes "nil", key.Nil) ∷ (codes "of", key.Of) ∷ (codes "or", key.Or) ∷ (codes "pick", key.Pick)
    ∷ (codes "raise", key.Raise) ∷ (codes "raises", key.Raises) ∷ (codes "real", key.Real)
    ∷ (codes "ref", key.Ref) ∷ (codes "return", key.Return) ∷ (codes "self", key.SelfWord)
    ∷ (codes "spawn", key.Spawn) ∷ (codes "string", key.String) ∷ (codes "tagof", key.Tagof)
    ∷ (codes "tl", key.Tl) ∷ (codes "to", key.To) ∷ (codes "type", key.TypeWord) ∷ (codes "while", key.While)
    ∷ []

-- The operators and signs of the language's grammar.
unfoldable pub marks : List (List ℕ × Mark)
marks =
    (codes ";", mark.Semicolon) ∷ (codes ".", mark.Dot) ∷ (codes "(", mark.OpenParen)
    ∷ (codes ")", mark.CloseParen) ∷ (codes ":", mark.Colon) ∷ (codes ",", mark.Comma)
    ∷ (codes "{", mark.OpenBrace) ∷ (codes "}", mark.CloseBrace) ∷ (codes "[", mark.OpenBracket)
    ∷ (codes "]", mark.CloseBracket) ∷ (codes "=", mark.Assign) ∷ (codes ":=", mark.Define)
    ∷ (codes "<-=", mark.Send) ∷ (codes "+=", mark.AddAssign) ∷ (codes "-=", mark.SubAssign)
    ∷ (codes "*=", mark.MulAssign) ∷ (codes "/=", mark.DivAssign) ∷ (codes "%=", mark.RemAssign)
    ∷ (codes "&=", mark.AndAssign) ∷ (codes "|=", mark.OrAssign) ∷ (codes "^=", mark.XorAssign)
    ∷ (codes "<<=", mark.ShlAssign) ∷ (codes ">>=", mark.ShrAssign) ∷ (codes "||", mark.OrOr)
    ∷ (codes "&&", mark.AndAnd) ∷ (codes "::", mark.Cons) ∷ (codes "|", mark.Bar) ∷ (codes "^", mark.Caret)
    ∷ (codes "&", mark.Ampersand) ∷ (codes "==", mark.Equal) ∷ (codes "!=", mark.NotEqual)
    ∷ (codes "<", mark.Less) ∷ (codes "<=", mark.LessEqual) ∷ (codes ">", mark.Greater)
    ∷ (codes ">=", mark.GreaterEqual) ∷ (codes "<<", mark.Shl) ∷ (codes ">>", mark.Shr) ∷ (codes "+", mark.Plus)
    ∷ (codes "-", mark.Minus) ∷ (codes "*", mark.Star) ∷ (codes "/", mark.Slash) ∷ (codes "%", mark.Percent)
    ∷ (codes "!", mark.Bang) ∷ (codes "~", mark.Tilde) ∷ (codes "++", mark.Increment)
    ∷ (codes "--", mark.Decrement) ∷ (codes "<-", mark.Receive) ∷ (codes "->", mark.Arrow)
    ∷ (codes "=>", mark.FatArrow) ∷ []

-- A keyword's token, or a name's.
abbrev pub key_or_name : Option Key → List ℕ → Kind
key_or_name (Some k) s = kind.Key k
key_or_name None s = kind.Name s

-- A word gives the token of the keyword with its spelling, and is else a name.
abbrev pub word_kind : List ℕ → Kind
word_kind s = key_or_name (listed keywords s) s
