-- What is sent and received (Limbo Language Reference, expressions).
use Rattle.limbo_types.specs.Types.{Ty, Int, ArrayOf, ChanOf, Tuple, NoTys, MoreTys}
use Rattle.limbo_typed.specs.Typed.{Expr, Of, Node, Send, Receive}
use Rattle.limbo_typed.specs.Sound.{IsSettled}
use Rattle.limbo_standing.specs.Standing.{Settles}

-- `channel <-= value`: the value stands where the type that the channel carries is asked for.
pub data Sends : (channel value : Expr) → Expr → Type 0 where
  sends : (t : Ty) (n : Node) (value v : Expr) → IsSettled t → Settles t value v
      → Sends (Of (ChanOf t) n) value (Of t (Send (Of (ChanOf t) n) v))

-- `<-channel`: a value from a channel; from an array of channels, the index of one that has a value, and that value.
pub data Receives : (channel : Expr) → Expr → Type 0 where
  from_one : (t : Ty) (n : Node) → IsSettled t → Receives (Of (ChanOf t) n) (Of t (Receive (Of (ChanOf t) n)))
  from_any : (t : Ty) (n : Node) → IsSettled t
      → Receives (Of (ArrayOf (ChanOf t)) n) (Of (Tuple (MoreTys Int (MoreTys t NoTys))) (Receive (Of (ArrayOf (ChanOf t)) n)))
