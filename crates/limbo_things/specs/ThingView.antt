-- The things of the code, without how they lie in memory.
use Rattle.std.specs.Prelude.{Option, option_map, Box}
use Rattle.std.specs.Global.{Global}
use Rattle.limbo_types.specs.View.{view_ty}
use Rattle.limbo_typed.specs.View.{view_expr, view_optional}
use Rattle.limbo_things.specs.declared.thing.Thing as code_thing
use Rattle.limbo_things.specs.declared.thing.Thing.TheVariants as code
use Rattle.limbo_things.specs.Things.{Thing, AValue, AType, AVariant, AFunction, AMethod, AMember, APrint, AnException}

abbrev pub view_thing : code_thing.Thing → Thing
view_thing (code.Value e) = AValue (view_expr e.value)
view_thing (code.Type t) = AType (view_ty t.value)
view_thing (code.Variant a v) = AVariant a v
view_thing (code.Function n) = AFunction n
view_thing (code.Method n object) = AMethod n (view_optional object)
view_thing (code.Member instance i j) = AMember (view_expr instance.value) i j
view_thing (code.Print p instance) = APrint p (view_expr instance.value)
view_thing (code.Exception n) = AnException n

-- the thing that is found, if there is one
abbrev pub view_found : Option (Box code_thing.Thing Global) → Option Thing
view_found found = option_map (λ t. view_thing t.value) found
