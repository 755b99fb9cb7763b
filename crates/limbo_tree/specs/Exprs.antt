-- Expressions (Limbo Language Reference, expressions): their trees, the spelling of each, how deep each nests, and which
-- trees stand at which level of precedence.
use Rattle.std.specs.Prelude.{◌≡◌, ℕ, ℤ, ◌+◌, ◌≤◌, max, List, [], ◌∷◌, Bool, true, false}
use Rattle.limbo_lexer.specs.declared.token.Kind.{Kind}
use Rattle.limbo_lexer.specs.declared.token.Kind.TheVariants as kind
use Rattle.limbo_lexer.specs.declared.token.Mark.{Mark}
use Rattle.limbo_lexer.specs.declared.token.Mark.TheVariants as mark
use Rattle.limbo_lexer.specs.declared.token.Key.TheVariants as key
use Rattle.limbo_tree.specs.declared.operators.AssignOp.{AssignOp}
use Rattle.limbo_tree.specs.declared.operators.AssignOp.TheVariants as assign
use Rattle.limbo_tree.specs.declared.operators.BinaryOp.{BinaryOp}
use Rattle.limbo_tree.specs.declared.operators.BinaryOp.TheVariants as binary
use Rattle.limbo_tree.specs.declared.operators.UnaryOp.{UnaryOp}
use Rattle.limbo_tree.specs.declared.operators.UnaryOp.TheVariants as unary
use Rattle.limbo_tree.specs.declared.operators.PostfixOp.{PostfixOp}
use Rattle.limbo_tree.specs.declared.operators.PostfixOp.TheVariants as postfix
use Rattle.limbo_tree.specs.Tokens.{◌▸◌, ◌▹◌}
use Rattle.limbo_tree.specs.Types.{Ty, spell_ty, ty_nesting, is_ty}

mutual
  pub data Expr : Type 0 where
    Assign : AssignOp → Expr → Expr → Expr
    Load : List ℕ → Expr → Expr
    Binary : BinaryOp → Expr → Expr → Expr
    Unary : UnaryOp → Expr → Expr
    Bytes : Expr → Expr
    Filled : Part → Inits → Bool → Expr
    Sized : Expr → Ty → Expr
    Channel : Part → Ty → Expr
    Listed : Exprs → Expr
    Call : Expr → Exprs → Expr
    Index : Expr → Expr → Expr
    Slice : Expr → Part → Part → Expr
    Dot : Expr → List ℕ → Expr
    Arrow : Expr → List ℕ → Expr
    Postfix : PostfixOp → Expr → Expr
    Number : ℤ → Bool → Expr
    Chars : List ℕ → Expr
    Name : List ℕ → Expr
    Nil : Expr
    Group : Exprs → Expr

  -- [expr]
  pub data Part : Type 0 where
    Absent : Part
    Present : Expr → Part

  pub data Exprs : Type 0 where
    NoExprs : Exprs
    MoreExprs : Expr → Exprs → Exprs

  -- init = expr | (expr | "*") "=>" expr
  pub data Init : Type 0 where
    Next : Expr → Init
    At : Expr → Expr → Init
    Rest : Expr → Init

  pub data Inits : Type 0 where
    NoInits : Inits
    MoreInits : Init → Inits → Inits

abbrev pub assign_mark : AssignOp → Mark
assign_mark assign.Assign = mark.Assign
assign_mark assign.Define = mark.Define
assign_mark assign.Send = mark.Send
assign_mark assign.Add = mark.AddAssign
assign_mark assign.Sub = mark.SubAssign
assign_mark assign.Mul = mark.MulAssign
assign_mark assign.Div = mark.DivAssign
assign_mark assign.Rem = mark.RemAssign
assign_mark assign.And = mark.AndAssign
assign_mark assign.Or = mark.OrAssign
assign_mark assign.Xor = mark.XorAssign
assign_mark assign.Shl = mark.ShlAssign
assign_mark assign.Shr = mark.ShrAssign

abbrev pub binary_mark : BinaryOp → Mark
binary_mark binary.OrOr = mark.OrOr
binary_mark binary.AndAnd = mark.AndAnd
binary_mark binary.Cons = mark.Cons
binary_mark binary.Or = mark.Bar
binary_mark binary.Xor = mark.Caret
binary_mark binary.And = mark.Ampersand
binary_mark binary.Equal = mark.Equal
binary_mark binary.NotEqual = mark.NotEqual
binary_mark binary.Less = mark.Less
binary_mark binary.LessEqual = mark.LessEqual
binary_mark binary.Greater = mark.Greater
binary_mark binary.GreaterEqual = mark.GreaterEqual
binary_mark binary.Shl = mark.Shl
binary_mark binary.Shr = mark.Shr
binary_mark binary.Add = mark.Plus
binary_mark binary.Sub = mark.Minus
binary_mark binary.Mul = mark.Star
binary_mark binary.Div = mark.Slash
binary_mark binary.Rem = mark.Percent

abbrev pub unary_kind : UnaryOp → Kind
unary_kind unary.Plus = kind.Mark mark.Plus
unary_kind unary.Minus = kind.Mark mark.Minus
unary_kind unary.Not = kind.Mark mark.Bang
unary_kind unary.Complement = kind.Mark mark.Tilde
unary_kind unary.Increment = kind.Mark mark.Increment
unary_kind unary.Decrement = kind.Mark mark.Decrement
unary_kind unary.Receive = kind.Mark mark.Receive
unary_kind unary.Ref = kind.Key key.Ref
unary_kind unary.Deref = kind.Mark mark.Star
unary_kind unary.Hd = kind.Key key.Hd
unary_kind unary.Tl = kind.Key key.Tl
unary_kind unary.Len = kind.Key key.Len
unary_kind unary.Tagof = kind.Key key.Tagof
unary_kind unary.Byte = kind.Key key.Byte
unary_kind unary.Int = kind.Key key.Int
unary_kind unary.Big = kind.Key key.Big
unary_kind unary.String = kind.Key key.String

abbrev pub postfix_mark : PostfixOp → Mark
postfix_mark postfix.Increment = mark.Increment
postfix_mark postfix.Decrement = mark.Decrement

-- [","]
abbrev pub spell_comma : Bool → List Kind → List Kind
spell_comma true ts = mark.Comma ▸ ts
spell_comma false ts = ts

abbrev mutual
  pub spell : Expr → List Kind → List Kind
  spell (Assign o l r) ts = spell l (assign_mark o ▸ spell r ts)
  spell (Load n e) ts = key.Load ▹ kind.Name n ∷ spell e ts
  spell (Binary o l r) ts = spell l (binary_mark o ▸ spell r ts)
  spell (Unary o e) ts = unary_kind o ∷ spell e ts
  spell (Bytes e) ts = key.Array ▹ key.Of ▹ key.Byte ▹ spell e ts
  spell (Filled n is comma) ts =
      key.Array ▹ mark.OpenBracket ▸ spell_part n (mark.CloseBracket ▸ key.Of ▹ mark.OpenBrace ▸
      spell_inits is (spell_comma comma (mark.CloseBrace ▸ ts)))
  spell (Sized e t) ts = key.Array ▹ mark.OpenBracket ▸ spell e (mark.CloseBracket ▸ key.Of ▹ spell_ty t ts)
  spell (Channel n t) ts = key.Chan ▹ key.Of ▹ spell_ty t ts
  spell (Listed es) ts = key.List ▹ key.Of ▹ mark.OpenBrace ▸ spell_exprs es (mark.CloseBrace ▸ ts)
  spell (Call f es) ts = spell f (mark.OpenParen ▸ spell_exprs es (mark.CloseParen ▸ ts))
  spell (Index e i) ts = spell e (mark.OpenBracket ▸ spell i (mark.CloseBracket ▸ ts))
  spell (Slice e i j) ts =
      spell e (mark.OpenBracket ▸ spell_part i (mark.Colon ▸ spell_part j (mark.CloseBracket ▸ ts)))
  spell (Dot e n) ts = spell e (mark.Dot ▸ kind.Name n ∷ ts)
  spell (Arrow e n) ts = spell e (mark.Arrow ▸ kind.Name n ∷ ts)
  spell (Postfix o e) ts = spell e (postfix_mark o ▸ ts)
  spell (Number v wide) ts = kind.Number v wide ∷ ts
  spell (Chars s) ts = kind.Chars s ∷ ts
  spell (Name n) ts = kind.Name n ∷ ts
  spell Nil ts = key.Nil ▹ ts
  spell (Group es) ts = mark.OpenParen ▸ spell_exprs es (mark.CloseParen ▸ ts)

  pub spell_part : Part → List Kind → List Kind
  spell_part Absent ts = ts
  spell_part (Present e) ts = spell e ts

  -- [expr {"," expr}]
  pub spell_exprs : Exprs → List Kind → List Kind
  spell_exprs NoExprs ts = ts
  spell_exprs (MoreExprs e es) ts = spell e (spell_more_exprs es ts)

  -- {"," expr}
  pub spell_more_exprs : Exprs → List Kind → List Kind
  spell_more_exprs NoExprs ts = ts
  spell_more_exprs (MoreExprs e es) ts = mark.Comma ▸ spell e (spell_more_exprs es ts)

  pub spell_init : Init → List Kind → List Kind
  spell_init (Next e) ts = spell e ts
  spell_init (At i e) ts = spell i (mark.FatArrow ▸ spell e ts)
  spell_init (Rest e) ts = mark.Star ▸ mark.FatArrow ▸ spell e ts

  -- inits without the last comma: init {"," init}
  pub spell_inits : Inits → List Kind → List Kind
  spell_inits NoInits ts = ts
  spell_inits (MoreInits i is) ts = spell_init i (spell_more_inits is ts)

  -- {"," init}
  pub spell_more_inits : Inits → List Kind → List Kind
  spell_more_inits NoInits ts = ts
  spell_more_inits (MoreInits i is) ts = mark.Comma ▸ spell_init i (spell_more_inits is ts)

-- the greatest number of expressions and types on one path from the root
abbrev mutual
  pub nesting : Expr → ℕ
  nesting (Assign o l r) = 1 + max (nesting l) (nesting r)
  nesting (Load n e) = 1 + nesting e
  nesting (Binary o l r) = 1 + max (nesting l) (nesting r)
  nesting (Unary o e) = 1 + nesting e
  nesting (Bytes e) = 1 + nesting e
  nesting (Filled n is comma) = 1 + max (part_nesting n) (inits_nesting is)
  nesting (Sized e t) = 1 + max (nesting e) (ty_nesting t)
  nesting (Channel n t) = 1 + ty_nesting t
  nesting (Listed es) = 1 + exprs_nesting es
  nesting (Call f es) = 1 + max (nesting f) (exprs_nesting es)
  nesting (Index e i) = 1 + max (nesting e) (nesting i)
  nesting (Slice e i j) = 1 + max (nesting e) (max (part_nesting i) (part_nesting j))
  nesting (Dot e n) = 1 + nesting e
  nesting (Arrow e n) = 1 + nesting e
  nesting (Postfix o e) = 1 + nesting e
  nesting (Number v wide) = 1
  nesting (Chars s) = 1
  nesting (Name n) = 1
  nesting Nil = 1
  nesting (Group es) = 1 + exprs_nesting es

  pub part_nesting : Part → ℕ
  part_nesting Absent = 0
  part_nesting (Present e) = nesting e

  pub exprs_nesting : Exprs → ℕ
  exprs_nesting NoExprs = 0
  exprs_nesting (MoreExprs e es) = max (nesting e) (exprs_nesting es)

  pub init_nesting : Init → ℕ
  init_nesting (Next e) = nesting e
  init_nesting (At i e) = max (nesting i) (nesting e)
  init_nesting (Rest e) = nesting e

  pub inits_nesting : Inits → ℕ
  inits_nesting NoInits = 0
  inits_nesting (MoreInits i is) = max (init_nesting i) (inits_nesting is)

-- The level of an operator between two operands, the tightest first: 1 for those of `mul` up to 11 for `||`. Level 0 is
-- a unary, 12 what may be loaded, 13 an expression.
abbrev pub level : BinaryOp → ℕ
level binary.Mul = 1
level binary.Div = 1
level binary.Rem = 1
level binary.Add = 2
level binary.Sub = 2
level binary.Shl = 3
level binary.Shr = 3
level binary.Less = 4
level binary.LessEqual = 4
level binary.Greater = 4
level binary.GreaterEqual = 4
level binary.Equal = 5
level binary.NotEqual = 5
level binary.And = 6
level binary.Xor = 7
level binary.Or = 8
level binary.Cons = 9
level binary.AndAnd = 10
level binary.OrOr = 11

-- the levels of what stands on its two sides: all group to the left but `::`, which groups to the right
abbrev pub left_level : BinaryOp → ℕ
left_level binary.Cons = 8
left_level o = level o

abbrev pub right_level : BinaryOp → ℕ
right_level binary.Mul = 0
right_level binary.Div = 0
right_level binary.Rem = 0
right_level binary.Add = 1
right_level binary.Sub = 1
right_level binary.Shl = 2
right_level binary.Shr = 2
right_level binary.Less = 3
right_level binary.LessEqual = 3
right_level binary.Greater = 3
right_level binary.GreaterEqual = 3
right_level binary.Equal = 4
right_level binary.NotEqual = 4
right_level binary.And = 5
right_level binary.Xor = 6
right_level binary.Or = 7
right_level binary.Cons = 9
right_level binary.AndAnd = 9
right_level binary.OrOr = 10

-- a postfix: a primary, and what may stand behind one
abbrev pub is_postfix : Expr → Bool
is_postfix (Assign o l r) = false
is_postfix (Load n e) = false
is_postfix (Binary o l r) = false
is_postfix (Unary o e) = false
is_postfix (Bytes e) = false
is_postfix (Filled n is comma) = false
is_postfix (Sized e t) = false
is_postfix (Channel n t) = false
is_postfix (Listed es) = false
is_postfix _ = true

-- a unary, as what stands before an assignment's sign is
abbrev pub is_unary : Expr → Bool
is_unary (Assign o l r) = false
is_unary (Load n e) = false
is_unary (Binary o l r) = false
is_unary _ = true

-- at least one
abbrev pub are_exprs : Exprs → Bool
are_exprs NoExprs = false
are_exprs (MoreExprs e es) = true

abbrev pub are_inits : Inits → Bool
are_inits NoInits = false
are_inits (MoreInits i is) = true

abbrev pub is_absent : Part → Bool
is_absent Absent = true
is_absent (Present e) = false

-- The well-formed trees that may stand at a level. No form of a channel with a size is built yet.
abbrev mutual
  pub IsAt : ℕ → Expr → Type 0
  IsAt k (Assign o l r) = (13 ≤ k) × IsAt 0 l × IsAt 13 r
  IsAt k (Load n e) = (12 ≤ k) × IsAt 12 e
  IsAt k (Binary o l r) = (level o ≤ k) × IsAt (left_level o) l × IsAt (right_level o) r
  IsAt k (Unary o e) = IsAt 0 e
  IsAt k (Bytes e) = IsAt 0 e
  IsAt k (Filled n is comma) = IsPart n × (are_inits is ≡ true) × AreInits is
  IsAt k (Sized e t) = IsAt 13 e × (is_ty t ≡ true)
  IsAt k (Channel n t) = (is_absent n ≡ true) × (is_ty t ≡ true)
  IsAt k (Listed es) = AreExprs es
  IsAt k (Call f es) = (is_postfix f ≡ true) × IsAt 0 f × AreExprs es
  IsAt k (Index e i) = (is_postfix e ≡ true) × IsAt 0 e × IsAt 13 i
  IsAt k (Slice e i j) = (is_postfix e ≡ true) × IsAt 0 e × IsPart i × IsPart j
  IsAt k (Dot e n) = (is_postfix e ≡ true) × IsAt 0 e
  IsAt k (Arrow e n) = (is_postfix e ≡ true) × IsAt 0 e
  IsAt k (Postfix o e) = (is_postfix e ≡ true) × IsAt 0 e
  IsAt k (Number v wide) = Unit {0}
  IsAt k (Chars s) = Unit {0}
  IsAt k (Name n) = Unit {0}
  IsAt k Nil = Unit {0}
  IsAt k (Group es) = (are_exprs es ≡ true) × AreExprs es

  pub IsPart : Part → Type 0
  IsPart Absent = Unit {0}
  IsPart (Present e) = IsAt 13 e

  pub AreExprs : Exprs → Type 0
  AreExprs NoExprs = Unit {0}
  AreExprs (MoreExprs e es) = IsAt 13 e × AreExprs es

  pub IsInit : Init → Type 0
  IsInit (Next e) = IsAt 13 e
  IsInit (At i e) = IsAt 13 i × IsAt 13 e
  IsInit (Rest e) = IsAt 13 e

  pub AreInits : Inits → Type 0
  AreInits NoInits = Unit {0}
  AreInits (MoreInits i is) = IsInit i × AreInits is
