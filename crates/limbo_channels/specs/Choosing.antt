-- The types of what is sent and received, as functions; that they are those of the definitions is proved of them.
use Rattle.std.specs.Prelude.{Option, None, Some, option_map, if◌then◌else◌}
use Rattle.limbo_types.specs.Types.{Ty, Int, ArrayOf, ChanOf, Tuple, NoTys, MoreTys}
use Rattle.limbo_forms.specs.Forms.{choose, is_settled}

-- the type of what a channel carries
abbrev pub carried : Ty → Option Ty
carried (ChanOf t) = if is_settled t then Some t else None
carried _ = None

abbrev pub indexed : Ty → Ty
indexed t = Tuple (MoreTys Int (MoreTys t NoTys))

-- the type of what is received from any channel of an array
abbrev pub received_from_any : Ty → Option Ty
received_from_any (ArrayOf t) = option_map indexed (carried t)
received_from_any _ = None

abbrev pub received : Ty → Option Ty
received t = choose (carried t) (received_from_any t) (λ u. Some u)
