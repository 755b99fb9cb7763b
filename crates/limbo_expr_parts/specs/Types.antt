-- Reading types, from left to right, with the first fault that is met.
use Rattle.std.specs.Prelude.{ℕ, zero, suc, List, length, Option, Some, None, Ok, Err, if◌then◌else◌}
use Rattle.limbo_lexer.specs.declared.token.Kind.{Kind}
use Rattle.limbo_lexer.specs.declared.token.Kind.TheVariants as kind
use Rattle.limbo_lexer.specs.declared.token.Mark.{Mark}
use Rattle.limbo_lexer.specs.declared.token.Mark.TheVariants as mark
use Rattle.limbo_lexer.specs.declared.token.Key.TheVariants as key
use Rattle.limbo_reading.specs.declared.fault.Fault.TheVariants.{Syntax, TooDeep}
use Rattle.limbo_reading.specs.Reading.{◌>>=◌, Reader, choose, after_mark, after_key, expect_mark, expect_key, expect_name}
use Rattle.limbo_reading.specs.Lists.{items}
use Rattle.limbo_tree.specs.Types.{Qual, Ty, Tys, Byte, Int, Big, String, ArrayOf, ListOf, ChanOf, RefTo, Named, Tuple, are_several}
use Rattle.limbo_tree.specs.View.{tys_of}
use Rattle.limbo_expr_parts.specs.Front.{front}

-- [sign ID]
unfoldable pub part_at : Mark → Reader (Option (List ℕ))
part_at m ts = choose (after_mark m ts) (Ok (None, ts)) λ us. do
  n ← expect_name us
  Ok (Some n.0, n.1)

-- qual = ID ["->" ID] ["." ID]
unfoldable pub qual_at : Reader Qual
qual_at ts = do
  n ← expect_name ts
  m ← part_at mark.Arrow n.1
  p ← part_at mark.Dot m.1
  Ok (record { first = n.0; member = m.0; part = p.0 }, p.1)

-- "of" type
unfoldable pub element_at : Reader Ty → Reader Ty
element_at r ts = do
  us ← expect_key key.Of ts
  r us

abbrev pub of_at : Reader Ty → (Ty → Ty) → Reader Ty
of_at r make ts = do
  t ← element_at r ts
  Ok (make t.0, t.1)

-- type {"," type}
unfoldable pub types_at : Reader Ty → Reader (List Ty)
types_at r ts = items r (after_mark mark.Comma) ts

-- a tuple of at least two parts, before ")"
abbrev pub closed : Tys → Reader Ty
closed tys ts = if are_several tys then (do
  us ← expect_mark mark.CloseParen ts
  Ok (Tuple tys, us)) else Err (Syntax (length ts))

-- type "," type {"," type} ")"
unfoldable pub tuple_at : Reader Ty → Reader Ty
tuple_at r ts = do
  ps ← types_at r ts
  closed (tys_of ps.0) ps.1

-- a type that is one keyword
abbrev pub simple_of : Kind → Option Ty
simple_of (kind.Key key.Byte) = Some Byte
simple_of (kind.Key key.Int) = Some Int
simple_of (kind.Key key.Big) = Some Big
simple_of (kind.Key key.String) = Some String
simple_of _ = None

-- ["ref"] qual
unfoldable pub named_at : Reader Ty
named_at ts = choose (after_key key.Ref ts) (do
  q ← qual_at ts
  Ok (Named q.0, q.1)) λ us. do
    q ← qual_at us
    Ok (RefTo q.0, q.1)

-- one type, whose parts r reads
unfoldable pub ty_above : Reader Ty → Reader Ty
ty_above r ts = choose (front simple_of ts) (choose (after_key key.Array ts) (choose (after_key key.List ts) (choose (after_key key.Chan ts) (choose (after_mark mark.OpenParen ts)
    (named_at ts)
    λ us. tuple_at r us)
    λ us. of_at r ChanOf us)
    λ us. of_at r ListOf us)
    λ us. of_at r ArrayOf us)
    λ t. Ok t

-- types of nesting up to a limit
unfoldable pub ty_at : ℕ → Reader Ty
ty_at zero ts = Err (TooDeep (length ts))
ty_at (suc b) ts = ty_above (ty_at b) ts
