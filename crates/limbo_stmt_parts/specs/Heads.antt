-- Reading what stands before the "=>" of an arm, and telling where the statements of an arm or of a block end.
use Rattle.std.specs.Prelude.{ℕ, List, [], ◌∷◌, length, Bool, true, false, Option, Some, None, Result, Ok, Err, if◌then◌else◌}
use Rattle.limbo_lexer.specs.declared.token.Kind.{Kind}
use Rattle.limbo_lexer.specs.declared.token.Kind.TheVariants as kind
use Rattle.limbo_lexer.specs.declared.token.Mark.TheVariants as mark
use Rattle.limbo_lexer.specs.declared.token.Key.TheVariants as key
use Rattle.limbo_tree.specs.Stmts.{Head, CaseHead, AltHead, PickHead, HandlerHead, Pattern, AnyValue}
use Rattle.limbo_tree.specs.Stmts.{Value, Range, HandlerPattern, Text, Declared, AnyException}
use Rattle.limbo_reading.specs.declared.fault.Fault.{Fault}
use Rattle.limbo_reading.specs.declared.fault.Fault.TheVariants.{Syntax, TooDeep}
use Rattle.limbo_reading.specs.declared.fault.ReadError.{ReadError}
use Rattle.limbo_reading.specs.declared.fault.ReadError.TheVariants as errors
use Rattle.limbo_reading.specs.Reading.{◌>>=◌, Reader, choose, after_mark, after_key, expect_mark}
use Rattle.limbo_reading.specs.Lists.{items, choices_at}
use Rattle.limbo_expr_parser.specs.Exprs.{readers}
use Rattle.limbo_stmt_parts.specs.declared.start.Region.{Region}
use Rattle.limbo_stmt_parts.specs.declared.start.Region.TheVariants as region
use Rattle.limbo_stmt_parts.specs.Start.{start, may_head}

-- a pattern ends before these
abbrev pub arrow_or : List Kind → Bool
arrow_or (kind.Mark mark.FatArrow ∷ ts) = true
arrow_or (kind.Key key.Or ∷ ts) = true
arrow_or _ = false

-- "*" where a pattern ends behind it
abbrev pub star_alone : List Kind → Option (List Kind)
star_alone ts = choose (after_mark mark.Star ts) None λ us. if arrow_or us then Some us else None

-- cpat = "*" | expr ["to" expr]
abbrev pub case_pattern_at : ℕ → Reader Pattern
case_pattern_at b ts = choose (star_alone ts) (do
  e ← (readers b).expr ts
  choose (after_key key.To e.1) (Ok (Value e.0, e.1)) λ us. do
    f ← (readers b).expr us
    Ok (Range e.0 f.0, f.1)) λ us. Ok (AnyValue, us)

-- epat = STR | ID | "*"
abbrev pub handler_pattern_at : Reader HandlerPattern
handler_pattern_at (kind.Chars s ∷ ts) = Ok (Text s, ts)
handler_pattern_at (kind.Name n ∷ ts) = Ok (Declared n, ts)
handler_pattern_at (kind.Mark mark.Star ∷ ts) = Ok (AnyException, ts)
handler_pattern_at ts = Err (Syntax (length ts))

-- what stands before the "=>" of an arm of this region; the statements of a block have none
abbrev pub head_at : ℕ → Region → Reader Head
head_at b region.Block ts = Err (Syntax (length ts))
head_at b region.Case ts = do
  ps ← items (case_pattern_at b) (after_key key.Or) ts
  Ok (CaseHead ps.0, ps.1)
head_at b region.Alt ts = choose (star_alone ts) (do
  e ← (readers b).expr ts
  Ok (AltHead (Some e.0), e.1)) λ us. Ok (AltHead None, us)
head_at b region.Pick ts = choose (after_mark mark.Star ts) (do
  ns ← choices_at ts
  Ok (PickHead ns.0, ns.1)) λ us. Ok (PickHead [], us)
head_at b region.Handler ts = do
  ps ← items handler_pattern_at (after_key key.Or) ts
  Ok (HandlerHead ps.0, ps.1)

-- a head and its "=>"
unfoldable pub front_at : ℕ → Region → Reader Head
front_at b r ts = do
  h ← head_at b r ts
  us ← expect_mark mark.FatArrow h.1
  Ok (h.0, us)

-- Whether there is a head: a fault of syntax says that there is none, and one of depth stays one.
abbrev pub is_read : Result (Head × List Kind) Fault → Result Bool Fault
is_read (Ok x) = Ok true
is_read (Err (Syntax n)) = Ok false
is_read (Err (TooDeep n)) = Err (TooDeep n)

-- the same of a fault in the code
abbrev pub no_head : ReadError → Result Bool ReadError
no_head (errors.Fault (Syntax n)) = Ok false
no_head e = Err e

abbrev pub told : {A : Type 0} → Option A → Bool
told None = false
told (Some x) = true

-- whether a brace closes what goes on here
abbrev pub closing : List Kind → Result Bool Fault
closing ts = Ok (told (after_mark mark.CloseBrace ts))

-- whether the statements of a region end here: before the brace, or before the next head up to its "=>"
unfoldable pub ends : ℕ → Region → List Kind → Result Bool Fault
ends b r ts = choose (after_mark mark.CloseBrace ts) (if may_head (start ts) then is_read (front_at b r ts) else Ok false) λ us. Ok true
