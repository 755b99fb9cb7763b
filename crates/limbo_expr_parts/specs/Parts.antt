-- Parts of expressions that hold no expression that is still to be read, from left to right, with the first fault that is met.
use Rattle.std.specs.Prelude.{ℕ, List, length, Bool, true, false, Option, Some, None, Ok, Err}
use Rattle.limbo_lexer.specs.declared.token.Kind.{Kind}
use Rattle.limbo_lexer.specs.declared.token.Kind.TheVariants as kind
use Rattle.limbo_lexer.specs.declared.token.Mark.TheVariants as mark
use Rattle.limbo_lexer.specs.declared.token.Key.TheVariants as key
use Rattle.limbo_reading.specs.declared.fault.Fault.TheVariants.{Syntax}
use Rattle.limbo_reading.specs.Reading.{◌>>=◌, Reader, choose, after_mark, expect_mark, expect_key, expect_name}
use Rattle.limbo_tree.specs.Exprs.{Expr, Part, Sized, Channel, Dot, Arrow, Postfix, Number, Chars, Name, Nil, Absent, Present}
use Rattle.limbo_expr_parts.specs.Types.{ty_at}
use Rattle.limbo_expr_parts.specs.Operators.{postfix_of}
use Rattle.limbo_expr_parts.specs.Front.{front}

-- "*" "=>"
abbrev pub after_rest : List Kind → Option (List Kind)
after_rest ts = choose (after_mark mark.Star ts) None λ us. after_mark mark.FatArrow us

-- a comma behind which another item stands: no brace closes them there
abbrev pub after_comma_inside : List Kind → Option (List Kind)
after_comma_inside ts = choose (after_mark mark.Comma ts) None λ us. choose (after_mark mark.CloseBrace us) (Some us) λ vs. None

-- [","] "}"
abbrev pub comma_and_brace : Reader Bool
comma_and_brace ts = choose (after_mark mark.Comma ts) (do
  us ← expect_mark mark.CloseBrace ts
  Ok (false, us)) λ us. do
    vs ← expect_mark mark.CloseBrace us
    Ok (true, vs)

-- type, behind "array" "[" expr "]" "of"
unfoldable pub sized_at : ℕ → Part → Reader Expr
sized_at b Absent ts = Err (Syntax (length ts))
sized_at b (Present e) ts = do
  t ← ty_at b ts
  Ok (Sized e t.0, t.1)

-- what stands behind "chan"
unfoldable pub channel_at : ℕ → Reader Expr
channel_at b ts = do
  us ← expect_key key.Of ts
  t ← ty_at b us
  Ok (Channel Absent t.0, t.1)

-- NUM | STR | ID | "nil"
abbrev pub leaf_of : Kind → Option Expr
leaf_of (kind.Number v wide) = Some (Number v wide)
leaf_of (kind.Chars s) = Some (Chars s)
leaf_of (kind.Name n) = Some (Name n)
leaf_of (kind.Key key.Nil) = Some Nil
leaf_of _ = None

-- one of these
unfoldable pub leaf_at : Reader Expr
leaf_at ts = choose (front leaf_of ts) (Err (Syntax (length ts))) λ e. Ok e

-- the name of a part, or a step, behind a postfix
unfoldable pub part_behind : Expr → Reader Expr
part_behind e ts = choose (after_mark mark.Dot ts) (choose (after_mark mark.Arrow ts) (choose (front postfix_of ts)
    (Err (Syntax (length ts)))
    λ o. Ok (Postfix o.0 e, o.1))
    λ us. do
      n ← expect_name us
      Ok (Arrow e n.0, n.1))
    λ us. do
      n ← expect_name us
      Ok (Dot e n.0, n.1)
