-- A test of whether two types are the same, which goes down both; that it tells exactly that is proved of it.
use Rattle.std.specs.Prelude.{Bool, true, false, ◌==◌, ◌&&◌}
use Rattle.limbo_types.specs.Types.{Ty, Tys, Byte, Int, Big, Chars, Nothing, Nil, ArrayOf, ListOf, ChanOf, Tuple, Adt, RefAdt, RefPick}
use Rattle.limbo_types.specs.Types.{Module, NoTys, MoreTys}

-- two types are the same where they have one form and the same parts
abbrev mutual
  pub same : Ty → Ty → Bool
  same Byte Byte = true
  same Int Int = true
  same Big Big = true
  same Chars Chars = true
  same Nothing Nothing = true
  same Nil Nil = true
  same (ArrayOf t) (ArrayOf u) = same t u
  same (ListOf t) (ListOf u) = same t u
  same (ChanOf t) (ChanOf u) = same t u
  same (Tuple ts) (Tuple us) = all_same ts us
  same (Adt n) (Adt m) = n == m
  same (RefAdt n) (RefAdt m) = n == m
  same (RefPick n v) (RefPick m w) = (n == m) && (v == w)
  same (Module n) (Module m) = n == m
  same _ _ = false

  pub all_same : Tys → Tys → Bool
  all_same NoTys NoTys = true
  all_same (MoreTys t ts) (MoreTys u us) = same t u && all_same ts us
  all_same _ _ = false
