-- The arms of an `alt` (Limbo Language Reference, alt statement).
use Rattle.std.specs.Prelude.{◌≡◌, ◌≤◌, Bool, true, false, List, count_by, Option, None, Some}
use Rattle.limbo_tree.specs.declared.operators.AssignOp.{AssignOp}
use Rattle.limbo_tree.specs.declared.operators.AssignOp.TheVariants as assign
use Rattle.limbo_tree.specs.declared.operators.UnaryOp.TheVariants as unary
use Rattle.limbo_tree.specs.Exprs as tree
use Rattle.limbo_typed.specs.Typed.{Expr, Of, Receive, Assign, Send, AltHead, Receives, Sends, WaitsNot}
use Rattle.limbo_causes.specs.Causes.{Cause}
use Rattle.limbo_context.specs.Context.{Body}
use Rattle.limbo_local.specs.limbo_typing.Typing.{Types}
use Rattle.limbo_local.specs.limbo_typing.Failing.{Fails}
use Rattle.limbo_local.specs.Points.{Point, with_body}
use Rattle.limbo_stating.specs.Reasons.{Reason, ByPart, BadAlt}

-- `<-channel`
abbrev pub is_receive : tree.Expr → Bool
is_receive (tree.Unary unary.Receive e) = true
is_receive _ = false

-- A send, or a receive to the right of `=` or `:=`.
abbrev pub is_given : AssignOp → (right : tree.Expr) → Bool
is_given assign.Send r = true
is_given assign.Assign r = is_receive r
is_given assign.Define r = is_receive r
is_given _ r = false

-- A send or a receive.
abbrev pub is_arm : tree.Expr → Bool
is_arm (tree.Assign o l r) = is_given o r
is_arm e = is_receive e

-- the channel of a receive
abbrev pub assigned : Expr → Option Expr
assigned (Of t (Receive c)) = Some c
assigned _ = None

-- What an expression waits for: a receive, an assignment of one, or a send.
abbrev pub waits_for : Expr → Option AltHead
waits_for (Of t (Receive c)) = Some (Receives None c)
waits_for (Of t (Assign p x)) = elim (assigned x) [ None ↦ None | Some c ↦ Some (Receives (Some p) c) ]
waits_for (Of t (Send c x)) = Some (Sends c x)
waits_for _ = None

-- An arm is `*`, or a send or receive that is typed as any other.
abbrev pub IsAltHead : Point → Option tree.Expr → AltHead → Point → Type 0
IsAltHead p None h q = (h ≡ WaitsNot) × (q ≡ p)
IsAltHead p (Some e) h q =
    (x : Expr) × (b : Body) × (is_arm e ≡ true) × Types p.context p.body e x b × (waits_for x ≡ Some h) × (q ≡ with_body b p)

-- It is neither, as it is written; it fails; or it is a copy of what is received into an array, for which no arm waits.
pub data FailsAltHead (p : Point) : Option tree.Expr → Reason → Type 0 where
  no_arm : (e : tree.Expr) → is_arm e ≡ false → FailsAltHead p (Some e) BadAlt
  untyped : (e : tree.Expr) (k : Cause) → Fails p.context p.body e k → FailsAltHead p (Some e) (ByPart k)
  copies : (e : tree.Expr) (x : Expr) (b : Body) → Types p.context p.body e x b → waits_for x ≡ None → FailsAltHead p (Some e) BadAlt

abbrev pub is_star : AltHead → Bool
is_star WaitsNot = true
is_star _ = false

-- `*` stands once at most.
abbrev pub HasOneStar : List AltHead → Type 0
HasOneStar heads = count_by is_star heads ≤ 1
