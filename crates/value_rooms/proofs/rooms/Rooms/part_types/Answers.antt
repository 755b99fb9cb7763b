use Rattle.std.proofs.Common.{List, map, sym, ap, ◌∙◌, arith}
use Rattle.limbo_types.specs.Types as ty
use Rattle.limbo_types.specs.Types.{Ty}
use Rattle.limbo_types.specs.View.{view_ty}
use Rattle.limbo_types.specs.declared.ty.Ty as code_ty
use Rattle.limbo_types.proofs.View.{view_ty-Tuple, view_ty-Adt}
use Rattle.limbo_layout.specs.View.{view_defs}
use Rattle.limbo_layout.specs.declared.def.AdtDef.{AdtDef}
use Rattle.core_code.specs.Terms.{part_types}
use Rattle.value_rooms.specs.Tables.{view_parts}
use Rattle.value_rooms.proofs.PartsThere.{adt_none, adt_parts, listed-row, no_parts}
use Rattle.value_rooms.proofs.rooms.Rooms.part_types.Goals as goal

pub returns-in-Tuple : goal.returns-in-Tuple
returns-in-Tuple c =
    let ts = c.in-Tuple.types in
    ap (λ (us : List code_ty.Ty). map view_ty us) c.deref.ensures.value
    ∙ sym (listed-row (map view_ty ts.items))
    ∙ sym (ap (λ (t : Ty). part_types (view_defs c.args.self.now) t) (ap view_ty c.in-Tuple.is ∙ view_ty-Tuple ts))

pub returns-in-Some : goal.returns-in-Some
returns-in-Some c =
    let n = c.in-Adt.number in
    let l = c.in-Some.ensures.lookup in
    ap (λ (us : List code_ty.Ty). map view_ty us) c.deref-in-Some.ensures.value
    ∙ adt_parts (view_defs c.self.inside.defs.now) c.deref-in-Adt.result.now n c.in-Some.types.now
    (ap view_parts c.deref-in-Adt.ensures.value ∙ c.self.invariant.parts) (omega arith) l.1
    ∙ ap (λ (ds : List AdtDef). part_types (view_defs ds) (ty.Adt n)) c.self.view_is
    ∙ sym (ap (λ (t : Ty). part_types (view_defs c.args.self.now) t) (ap view_ty c.in-Adt.is ∙ view_ty-Adt n))

pub returns-in-None : goal.returns-in-None
returns-in-None c =
    let n = c.in-Adt.number in
    let l = c.in-None.ensures.lookup in
    adt_none (view_defs c.self.inside.defs.now) c.deref-in-Adt.result.now n
    (ap view_parts c.deref-in-Adt.ensures.value ∙ c.self.invariant.parts) (omega arith)
    ∙ ap (λ (ds : List AdtDef). part_types (view_defs ds) (ty.Adt n)) c.self.view_is
    ∙ sym (ap (λ (t : Ty). part_types (view_defs c.args.self.now) t) (ap view_ty c.in-Adt.is ∙ view_ty-Adt n))

pub returns-in_default : goal.returns-in_default
returns-in_default c = no_parts (view_defs c.args.self.now) c.args.t.now c.in_default.not-Tuple c.in_default.not-Adt
