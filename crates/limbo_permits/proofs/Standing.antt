-- What is forbidden may not stand.
use Rattle.std.proofs.Common.{◌≤◌, ◌<◌, length, arith}
use Rattle.limbo_types.specs.Types.{Ty}
use Rattle.limbo_typed.specs.Typed.{Expr}
use Rattle.limbo_typed.specs.Sound.{type_of}
use Rattle.limbo_refusals.specs.Refusals.{Refusal}
use Rattle.limbo_allowed.proofs.Decided.{refused_not_allowed}
use Rattle.limbo_context.specs.Context.{Context}
use Rattle.limbo_permits.specs.Permits.{Permits, ForbidsType, not_allowed, too_long, IsPermitted, Forbids, by_type, by_store}
use Rattle.limbo_permits.specs.Permits.{nodes, most_nodes}
use Rattle.limbo_permits.specs.Laws.{ForbiddenOrPermitted}

pub type_forbidden : (c : Context) (t : Ty) (r : Refusal) → ForbidsType c t r → Permits c t → ⊥
type_forbidden c t r (not_allowed h) p = refused_not_allowed c.adts (length c.modules) c.system c.fd t r h p.allowed
type_forbidden c t r (too_long l e) p = let s : nodes t ≤ most_nodes = p.small in let x : most_nodes < nodes t = l in omega arith

pub expression_forbidden : (c : Context) (e : Expr) (r : Refusal) → Forbids c e r → IsPermitted c e → ⊥
expression_forbidden c e r (by_type h) p = type_forbidden c (type_of e) r h p.type
expression_forbidden c e r (by_store h) p = p.store r h

pub forbidden_not_permitted : ForbiddenOrPermitted
forbidden_not_permitted = record { types = type_forbidden; expressions = expression_forbidden }
