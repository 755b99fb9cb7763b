-- The context and the body of the code, without how they lie in memory.
use Rattle.std.specs.Prelude.{map}
use Rattle.limbo_types.specs.View.{view_ty, view_fn}
use Rattle.limbo_adts.specs.Table.{defs_of}
use Rattle.limbo_typed.specs.View.{view_var, view_interface, view_exception}
use Rattle.limbo_context.specs.declared.context.Context as code_context
use Rattle.limbo_context.specs.declared.context.Valued as code_valued
use Rattle.limbo_context.specs.declared.context.Callee as code_callee
use Rattle.limbo_context.specs.declared.body.Body as code_body
use Rattle.limbo_context.specs.Context.{Context, Body, Valued, Callee}

abbrev pub view_valued : code_valued.Valued → Valued
view_valued v = record { ty = view_ty v.ty; value = v.value }

abbrev pub view_callee : code_callee.Callee → Callee
view_callee f = record { of = view_fn f.of; owner = f.owner; takes_self = f.takes_self }

abbrev pub view_context : code_context.Context → Context
view_context c = record {
  adts = defs_of c.adts;
  modules = c.adts.modules;
  members = c.members.items;
  interfaces = map view_interface c.interfaces.items;
  exports = c.exports.items;
  globals = map view_var c.globals.items;
  constants = map view_valued c.constants.items;
  types = map view_ty c.types.items;
  functions = map view_callee c.functions.items;
  imports = c.imports.items;
  exceptions = map view_exception c.exceptions.items;
  system = c.system;
  fd = c.fd;
}

abbrev pub view_body : code_body.Body → Body
view_body b = record { scopes = b.scopes; variables = map view_var b.variables.items }
