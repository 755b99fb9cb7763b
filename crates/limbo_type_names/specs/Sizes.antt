-- How many nodes a type has.
use Rattle.std.specs.Prelude.{ℕ, ◌+◌}
use Rattle.limbo_types.specs.Types.{Ty, Tys, ArrayOf, ListOf, ChanOf, Tuple, NoTys, MoreTys}

abbrev mutual
  pub size : Ty → ℕ
  size (ArrayOf t) = 1 + size t
  size (ListOf t) = 1 + size t
  size (ChanOf t) = 1 + size t
  size (Tuple ts) = 1 + sizes ts
  size t = 1

  pub sizes : Tys → ℕ
  sizes NoTys = 0
  sizes (MoreTys t ts) = size t + sizes ts
