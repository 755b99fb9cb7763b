-- Why a statement is none (Limbo Language Reference, statements).
use Rattle.std.specs.Prelude.{ℕ}
use Rattle.limbo_causes.specs.Causes as causes
use Rattle.limbo_causes.specs.Causes.{Cause}

-- By a part of it, which fails or doesn't fit; labels of a `case` that overlap or aren't constant, or a second `*`; an arm of an `alt` that
-- is neither a receive nor a send, or a second `*`; a `pick` of what has no variants, or an arm of it that names none, or one again, or a
-- second `*`; a path of a function with an answer that ends without one; a `break` or `continue` outside of what it speaks of.
pub data Reason : Type 0 where
  ByPart : Cause → Reason
  CaseOverlap : Reason
  BadAlt : Reason
  BadPick : Reason
  NoReturn : Reason
  BadLabel : Reason

abbrev pub number_of : Reason → ℕ
number_of (ByPart c) = causes.number_of c
number_of CaseOverlap = 60
number_of BadAlt = 61
number_of BadPick = 62
number_of NoReturn = 63
number_of BadLabel = 64
