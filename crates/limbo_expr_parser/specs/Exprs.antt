-- Reading expressions, from left to right, with the first fault that is met. Operators are read by climbing: a tree goes on
-- with each operator of its level or a tighter one, and reads what stands behind it at that operator's level.
use Rattle.std.specs.Prelude.{ℕ, zero, suc, List, length, nat_lt, Some, None, Result, Ok, Err, if◌then◌else◌}
use Rattle.limbo_lexer.specs.declared.token.Kind.{Kind}
use Rattle.limbo_lexer.specs.declared.token.Mark.{Mark}
use Rattle.limbo_lexer.specs.declared.token.Mark.TheVariants as mark
use Rattle.limbo_lexer.specs.declared.token.Key.TheVariants as key
use Rattle.limbo_reading.specs.declared.fault.Fault.{Fault}
use Rattle.limbo_reading.specs.declared.fault.Fault.TheVariants.{TooDeep}
use Rattle.limbo_reading.specs.Reading.{◌>>=◌, Reader, choose, after_mark, after_key, expect_mark, expect_key, expect_name}
use Rattle.limbo_reading.specs.Lists.{items}
use Rattle.limbo_tree.specs.Exprs.{Expr, Part, Exprs, Init, Assign, Load, Binary, Unary, Bytes, Filled, Listed, Call, Index, Slice, Group, Absent, Present, NoExprs, Next, At, Rest, right_level, nesting}
use Rattle.limbo_tree.specs.View.{exprs_of, inits_of}
use Rattle.limbo_expr_parts.specs.Strength.{strength}
use Rattle.limbo_expr_parts.specs.Front.{front}
use Rattle.limbo_expr_parts.specs.Operators.{unary_of, op_within, after_load, assign_after}
use Rattle.limbo_expr_parts.specs.Parts.{after_rest, after_comma_inside, comma_and_brace, sized_at, channel_at, leaf_at, part_behind}

-- what reads the parts of a tree: an expression of a level, and any expression
pub record Readers : Type 0 where
  pub chain : ℕ → Reader Expr
  pub expr : Reader Expr

-- what follows, if a tree of nesting n before it may be a part of another
abbrev pub guard : {A : Type 0} → ℕ → ℕ → List Kind → Result A Fault → Result A Fault
guard b n ts go = if nat_lt b n then Err (TooDeep (length ts)) else go

-- [expr] before a sign, and the sign
unfoldable pub part_before : Readers → Mark → Reader Part
part_before r m ts = choose (after_mark m ts) (do
  e ← r.expr ts
  us ← expect_mark m e.1
  Ok (Present e.0, us)) λ us. Ok (Absent, us)

-- expr {"," expr}
unfoldable pub list_at : Readers → Reader (List Expr)
list_at r ts = items r.expr (after_mark mark.Comma) ts

-- [expr {"," expr}] before a sign, and the sign
unfoldable pub list_before : Readers → Mark → Reader Exprs
list_before r m ts = choose (after_mark m ts) (do
  es ← list_at r ts
  us ← expect_mark m es.1
  Ok (exprs_of es.0, us)) λ us. Ok (NoExprs, us)

-- init = expr | (expr | "*") "=>" expr
unfoldable pub init_at : Readers → Reader Init
init_at r ts = choose (after_rest ts) (do
  i ← r.expr ts
  choose (after_mark mark.FatArrow i.1) (Ok (Next i.0, i.1)) λ us. do
    e ← r.expr us
    Ok (At i.0 e.0, e.1)) λ us. do
      e ← r.expr us
      Ok (Rest e.0, e.1)

-- init {"," init}
unfoldable pub inits_at : Readers → Reader (List Init)
inits_at r ts = items (init_at r) after_comma_inside ts

-- inits "}"
unfoldable pub filled_at : Readers → Part → Reader Expr
filled_at r n ts = do
  is ← inits_at r ts
  c ← comma_and_brace is.1
  Ok (Filled n (inits_of is.0) c.0, c.1)

-- what stands behind "array"
unfoldable pub array_at : Readers → ℕ → Reader Expr
array_at r b ts = choose (after_mark mark.OpenBracket ts) (do
  us ← expect_key key.Of ts
  vs ← expect_key key.Byte us
  e ← r.chain 0 vs
  Ok (Bytes e.0, e.1)) λ us. do
    n ← part_before r mark.CloseBracket us
    vs ← expect_key key.Of n.1
    choose (after_mark mark.OpenBrace vs) (sized_at b n.0 vs) λ ws. filled_at r n.0 ws

-- what stands behind "list"
unfoldable pub listed_at : Readers → Reader Expr
listed_at r ts = do
  us ← expect_key key.Of ts
  vs ← expect_mark mark.OpenBrace us
  es ← list_before r mark.CloseBrace vs
  Ok (Listed es.0, es.1)

-- primary = NUM | STR | ID | "nil" | "(" expr {"," expr} ")"
unfoldable pub primary : Readers → Reader Expr
primary r ts = choose (after_mark mark.OpenParen ts) (leaf_at ts) λ us. do
  es ← list_at r us
  vs ← expect_mark mark.CloseParen es.1
  Ok (Group (exprs_of es.0), vs)

-- what stands behind the ":" of a slice
abbrev pub slice_at : Readers → Expr → Part → Reader Expr
slice_at r e i ts = do
  j ← part_before r mark.CloseBracket ts
  Ok (Slice e i j.0, j.1)

-- what stands behind the "[" of an index or a slice
unfoldable pub index_at : Readers → Expr → Reader Expr
index_at r e ts = choose (after_mark mark.Colon ts) (do
  i ← r.expr ts
  choose (after_mark mark.CloseBracket i.1) (do
    us ← expect_mark mark.Colon i.1
    slice_at r e (Present i.0) us) λ us. Ok (Index e i.0, us)) λ us. slice_at r e Absent us

-- one of those that may stand behind a postfix
unfoldable pub one_behind : Readers → Expr → Reader Expr
one_behind r e ts = choose (after_mark mark.OpenParen ts) (choose (after_mark mark.OpenBracket ts)
    (part_behind e ts)
    λ us. index_at r e us)
    λ us. do
      es ← list_before r mark.CloseParen us
      Ok (Call e es.0, es.1)

-- all that stands behind a postfix. r reads up to nesting b, and the whole may have nesting b + 1.
unfoldable pub postfix : Readers → ℕ → ℕ → Expr → Reader Expr
postfix r b zero e ts = if nat_lt 0 (strength ts) then Ok (e, ts) else Err (TooDeep (length ts))
postfix r b (suc n) e ts = if nat_lt 0 (strength ts) then Ok (e, ts) else guard b (nesting e) ts (do
  x ← one_behind r e ts
  postfix r b n x.0 x.1)

unfoldable pub postfixed : Readers → ℕ → Reader Expr
postfixed r b ts = do
  x ← primary r ts
  postfix r b (suc b) x.0 x.1

-- a unary that begins with an operator or a keyword of its own, or a postfix
unfoldable pub unary : Readers → ℕ → Reader Expr
unary r b ts = choose (front unary_of ts) (choose (after_key key.Array ts) (choose (after_key key.List ts) (choose (after_key key.Chan ts)
    (postfixed r b ts)
    λ us. channel_at b us)
    λ us. listed_at r us)
    λ us. array_at r b us)
    λ o. do
      e ← r.chain 0 o.1
      Ok (Unary o.0 e.0, e.1)

-- the operators of level k or a tighter one behind a tree
unfoldable pub climb : Readers → ℕ → ℕ → ℕ → Expr → Reader Expr
climb r b k zero l ts = choose (op_within k ts) (Ok (l, ts)) λ o. Err (TooDeep (length ts))
climb r b k (suc n) l ts = choose (op_within k ts) (Ok (l, ts)) λ o. guard b (nesting l) ts (do
  x ← r.chain (right_level o.0) o.1
  climb r b k n (Binary o.0 l x.0) x.1)

-- load = "load" ID load, behind its keyword
unfoldable pub load_at : Readers → Reader Expr
load_at r ts = do
  n ← expect_name ts
  e ← r.chain 12 n.1
  Ok (Load n.0 e.0, e.1)

-- a tree of level k: a unary and the operators behind it, or from level 12 on a load
unfoldable pub chain : Readers → ℕ → ℕ → Reader Expr
chain r b k ts = choose (after_load k ts) (do
  x ← unary r b ts
  climb r b k (suc b) x.0 x.1) λ us. load_at r us

-- an assignment to the tree, if its sign follows
unfoldable pub assigned : Readers → ℕ → Expr → Reader Expr
assigned r b l ts = choose (assign_after l ts) (Ok (l, ts)) λ o. guard b (nesting l) ts (do
  x ← r.expr o.1
  Ok (Assign o.0 l x.0, x.1))

unfoldable pub expr : Readers → ℕ → Reader Expr
expr r b ts = do
  x ← chain r b 12 ts
  assigned r b x.0 x.1

unfoldable pub step : Readers → ℕ → Readers
step r b = record { chain = chain r b; expr = expr r b }

-- the readers of trees of nesting up to a limit
unfoldable pub readers : ℕ → Readers
readers zero = record { chain = λ k ts. Err (TooDeep (length ts)); expr = λ ts. Err (TooDeep (length ts)) }
readers (suc b) = step (readers b) b
