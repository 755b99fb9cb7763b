-- What is found out of a source, part by part.
use Rattle.std.specs.Prelude.{◌≡◌, ℕ, List, map, length}
use Rattle.limbo_types.specs.View.{view_ty}
use Rattle.limbo_adts.specs.Table.{defs_of}
use Rattle.limbo_typed.specs.View.{view_var, view_interface, view_exception}
use Rattle.limbo_entries.specs.declared.table.Table.{Table}
use Rattle.limbo_entries.specs.Entries.{Entry}
use Rattle.limbo_entries.specs.View.{entries_of}
use Rattle.limbo_constant_values.specs.Initials.{AreInitials}
use Rattle.limbo_source_adts.specs.Definitions.{AdtsAre, AreHeaded}
use Rattle.limbo_source_adts.specs.Modules.{modules_of}
use Rattle.limbo_context.specs.View.{view_valued, view_callee}
use Rattle.limbo_meanings.specs.declared.kind.Kind.TheVariants as kind
use Rattle.limbo_outline.specs.Outline.{ConstantsAre, TypesAre, GlobalsAre, FunctionsAre, ExceptionsAre, ScopesAre}
use Rattle.limbo_outline_members.specs.Members.{InterfacesAre}
use Rattle.limbo_imports.specs.Imports.{ImportsAre}
use Rattle.limbo_source_context.specs.declared.known.Meant as code_meant
use Rattle.limbo_source_context.specs.declared.known.Known as code_known
use Rattle.limbo_source_context.specs.declared.outer.Outer as code_outer
use Rattle.limbo_source_context.specs.declared.inner.Inner as code_inner
use Rattle.limbo_source_context.specs.declared.plain.Plain as code_plain
use Rattle.limbo_source_context.specs.SourceContext.{AreMeant, AllFit}

pub record IsMeant (table : Table) (m : ℕ) (s : code_meant.Meant) : Type 0 where
  pub many : length s.meanings.items ≡ length table.entries.items
  pub many_others : length s.others.items ≡ length table.entries.items
  pub meant : AreMeant (entries_of table.entries.items) m s.meanings.items s.others.items s.builtin s.fd

pub record IsKnown (table : Table) (m : ℕ) (k : code_known.Known) : Type 0 where
  pub many : length k.headings.items ≡ length table.entries.items
  pub headed : AreHeaded (entries_of table.entries.items) m k.headings.items
  pub meant : IsMeant table m k.meant
  pub initials : AreInitials (entries_of table.entries.items) m k.initials.items

pub record IsOuter (es : List Entry) (m : ℕ) (s : code_meant.Meant) (o : code_outer.Outer) : Type 0 where
  pub adts : AdtsAre es m 0 es (defs_of o.adts)
  pub modules : o.adts.modules ≡ modules_of es
  pub laid : AllFit (defs_of o.adts)
  pub globals : GlobalsAre es m (map view_var o.globals.items)
  pub imports : ImportsAre es m s.meanings.items s.others.items o.imports.items

pub record IsInner (es : List Entry) (m : ℕ) (s : code_meant.Meant) (i : code_inner.Inner) : Type 0 where
  pub members : ScopesAre es m kind.Adt s.meanings.items i.members.items
  pub interfaces : InterfacesAre es m s.builtin (map view_interface i.interfaces.items)
  pub exports : ScopesAre es m kind.Module s.others.items i.exports.items

pub record IsPlain (es : List Entry) (m : ℕ) (module_name : List ℕ) (p : code_plain.Plain) : Type 0 where
  pub constants : ConstantsAre es m (map view_valued p.constants.items)
  pub types : TypesAre es m (map view_ty p.types.items)
  pub functions : FunctionsAre es m (map view_callee p.functions.items)
  pub exceptions : ExceptionsAre es m module_name (map view_exception p.exceptions.items)
