-- What may stand anywhere (Limbo Language Reference, types and assignment; Sys).
use Rattle.std.specs.Prelude.{◌≡◌, ℕ, ◌+◌, ◌<◌, ◌≤◌, length}
use Rattle.limbo_types.specs.Types.{Ty, Tys, ArrayOf, ListOf, ChanOf, Tuple, NoTys, MoreTys}
use Rattle.limbo_typed.specs.Typed.{Expr, Of, Node}
use Rattle.limbo_typed.specs.Sound.{type_of}
use Rattle.limbo_refusals.specs.Refusals.{Refusal, TypeTooLarge, NoneIs}
use Rattle.limbo_allowed.specs.Allowed.{IsAllowed, RefusesType}
use Rattle.limbo_stores.specs.Stores.{RefusesStore}
use Rattle.limbo_context.specs.Context.{Context}

-- how many nodes a type has
abbrev mutual
  pub nodes : Ty → ℕ
  nodes (ArrayOf t) = 1 + nodes t
  nodes (ListOf t) = 1 + nodes t
  nodes (ChanOf t) = 1 + nodes t
  nodes (Tuple ts) = 1 + all_nodes ts
  nodes t = 1

  pub all_nodes : Tys → ℕ
  all_nodes NoTys = 0
  all_nodes (MoreTys t ts) = nodes t + all_nodes ts

abbrev pub most_nodes : ℕ
most_nodes = 4096

-- A type that values may have in a body: it is allowed, and written out it isn't too long.
pub record Permits (c : Context) (t : Ty) : Type 0 where
  pub allowed : IsAllowed c.adts (length c.modules) c.system c.fd t
  pub small : nodes t ≤ most_nodes

pub data ForbidsType (c : Context) (t : Ty) (r : Refusal) : Type 0 where
  not_allowed : RefusesType c.adts (length c.modules) c.system c.fd t r → ForbidsType c t r
  too_long : most_nodes < nodes t → r ≡ TypeTooLarge → ForbidsType c t r

abbrev pub node_of : Expr → Node
node_of (Of t n) = n

-- An expression whose type values may have, and that stores nothing where it may not.
pub record IsPermitted (c : Context) (e : Expr) : Type 0 where
  pub type : Permits c (type_of e)
  pub store : NoneIs (RefusesStore c.adts c.fd (node_of e))

pub data Forbids (c : Context) (e : Expr) (r : Refusal) : Type 0 where
  by_type : ForbidsType c (type_of e) r → Forbids c e r
  by_store : RefusesStore c.adts c.fd (node_of e) r → Forbids c e r
