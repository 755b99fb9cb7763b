-- The adts of the code, without how they lie in memory.
use Rattle.std.specs.Prelude.{List, map}
use Rattle.limbo_types.specs.View.{view_ty}
use Rattle.limbo_layout.specs.declared.def.Field as code_field
use Rattle.limbo_layout.specs.declared.def.Variant as code_variant
use Rattle.limbo_layout.specs.declared.def.AdtDef as code_def
use Rattle.limbo_layout.specs.Adts.{Field, Variant, Def}

abbrev pub view_field : code_field.Field → Field
view_field f = record { name = f.name; ty = view_ty f.ty }

abbrev pub view_fields : List code_field.Field → List Field
view_fields fs = map view_field fs

abbrev pub view_variant : code_variant.Variant → Variant
view_variant v = record { name = v.name; fields = view_fields v.fields.items }

abbrev pub view_def : code_def.AdtDef → Def
view_def d = record { name = d.name; fields = view_fields d.fields.items; picks = map view_variant d.picks.items }

abbrev pub view_defs : List code_def.AdtDef → List Def
view_defs ds = map view_def ds
