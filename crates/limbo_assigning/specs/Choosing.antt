-- The same as functions; that they give what the definitions say is proved of them.
use Rattle.std.specs.Prelude.{Bool, true, false, Option, None, Some, option_map, if◌then◌else◌, ◌&&◌, ◌||◌}
use Rattle.limbo_types.specs.Types.{Ty, Tys, Tuple, NoTys, MoreTys}
use Rattle.limbo_types.specs.Same.{same}
use Rattle.limbo_typed.specs.Typed.{Pattern, ToPlace, ToNothing, ToParts}
use Rattle.limbo_typed.specs.Typed.{Patterns, NoPatterns, MorePatterns}
use Rattle.limbo_typed.specs.Sound.{type_at}
use Rattle.limbo_forms.specs.Forms.{choose, is_settled, element_of}
use Rattle.limbo_standing.specs.Settling.{stands_variant, both}

-- whether a value of the first type stands where the second is asked for
abbrev pub stands : Ty → Ty → Bool
stands t u = same t u || stands_variant u t

abbrev pub parts_of : Ty → Option Tys
parts_of (Tuple ts) = Some ts
parts_of _ = None

abbrev mutual
  pub takes : Pattern → Ty → Bool
  takes (ToPlace p) t = stands t (type_at p)
  takes ToNothing t = true
  takes (ToParts ps) t = choose (parts_of t) false (λ ts. take_each ps ts)

  pub take_each : Patterns → Tys → Bool
  take_each NoPatterns NoTys = true
  take_each NoPatterns (MoreTys t ts) = false
  take_each (MorePatterns p ps) NoTys = false
  take_each (MorePatterns p ps) (MoreTys t ts) = takes p t && take_each ps ts

abbrev pub takes_parts : Patterns → Ty → Bool
takes_parts ps t = choose (parts_of t) false (λ ts. take_each ps ts)

abbrev mutual
  pub asked : Pattern → Ty → Option Ty
  asked (ToPlace p) t = if is_settled t && stands t (type_at p) then Some t else Some (type_at p)
  asked ToNothing t = if is_settled t then Some t else None
  asked (ToParts ps) t = choose (parts_of t) None (λ ts. option_map Tuple (ask_each ps ts))

  pub ask_each : Patterns → Tys → Option Tys
  ask_each NoPatterns NoTys = Some NoTys
  ask_each NoPatterns (MoreTys t ts) = None
  ask_each (MorePatterns p ps) NoTys = None
  ask_each (MorePatterns p ps) (MoreTys t ts) = both MoreTys (asked p t) (ask_each ps ts)

abbrev pub asked_parts : Patterns → Ty → Option Ty
asked_parts ps t = choose (parts_of t) None (λ ts. option_map Tuple (ask_each ps ts))

-- an array of which is known what it holds
abbrev pub is_known_array : Ty → Bool
is_known_array t = choose (element_of t) false is_settled
