use Rattle.std.proofs.Common.{◌≡◌, ℕ, List, take, min, ap, sym, ◌∙◌, arith}
use Rattle.std.proofs.lemmas.List.{take_min}
use Rattle.limbo_types.specs.Types.{Ty}
use Rattle.limbo_types.specs.View.{view_ty, view_tys}
use Rattle.limbo_types.proofs.View.{view_ty-Tuple, view_ty-Adt}
use Rattle.limbo_types.specs.declared.ty.Ty as code_ty
use Rattle.limbo_layout.specs.View.{view_defs}
use Rattle.core_code.specs.Terms.{part_types}
use Rattle.value_extents.specs.Extent.{Extent, all_behind, all_extents, empty, extents_of}
use Rattle.value_extents.proofs.First.{parts-found, parts-none, tuple-take}
use Rattle.value_extents.proofs.Others.{has_no_parts, no_parts}
use Rattle.value_extents.proofs.parts.first_parts.Goals as goal

pub returns-in-Tuple : goal.returns-in-Tuple
returns-in-Tuple c =
    let table = c.args.table.now in
    let n = c.args.count in
    let ts = c.in-Tuple.types.items in
    let cut : take c.min.result c.deref.result.now ≡ take n ts =
    ap (λ (k : ℕ). take k c.deref.result.now) (c.min.ensures ∙ ap (min n) (c.len.ensures ∙ sym c.deref.ensures.len))
    ∙ take_min n c.deref.result.now ∙ ap (λ (us : List code_ty.Ty). take n us) c.deref.ensures.value in
    c.types_behind.ensures
    ∙ ap (λ (w : Extent). all_behind w (all_extents table (view_tys (take c.min.result c.deref.result.now)))) c.empty.ensures
    ∙ ap (λ (us : List code_ty.Ty). all_behind empty (all_extents table (view_tys us))) cut
    ∙ ap (λ (es : List Extent). all_behind empty es) (tuple-take table n ts)
    ∙ sym (ap (λ (t : Ty). all_behind empty (extents_of table (take n (part_types (view_defs c.args.defs.now) t))))
    (ap view_ty c.in-Tuple.is ∙ view_ty-Tuple c.in-Tuple.types))

pub returns-in-Some : goal.returns-in-Some
returns-in-Some c =
    let l = c.in-Some.ensures.lookup in
    let table = c.args.table.now in
    let n = c.args.count in
    let defs = c.args.defs.now in
    c.first_of_adt.ensures
    ∙ ap (λ (ts : List Ty). all_behind empty (extents_of table (take n ts)))
    (parts-found defs c.in-Adt.number c.in-Some.def.now (omega arith) l.1)
    ∙ sym (ap (λ (t : Ty). all_behind empty (extents_of table (take n (part_types (view_defs defs) t))))
    (ap view_ty c.in-Adt.is ∙ view_ty-Adt c.in-Adt.number))

pub returns-in-None : goal.returns-in-None
returns-in-None c =
    let l = c.in-None.ensures.lookup in
    let table = c.args.table.now in
    let n = c.args.count in
    let defs = c.args.defs.now in
    c.empty-in-None.ensures ∙ no_parts table n
    ∙ ap (λ (ts : List Ty). all_behind empty (extents_of table (take n ts))) (parts-none defs c.in-Adt.number (omega arith))
    ∙ sym (ap (λ (t : Ty). all_behind empty (extents_of table (take n (part_types (view_defs defs) t))))
    (ap view_ty c.in-Adt.is ∙ view_ty-Adt c.in-Adt.number))

pub returns-in_default : goal.returns-in_default
returns-in_default c =
    let d = c.in_default in
    c.empty-in_default.ensures
    ∙ has_no_parts c.args.table.now (view_defs c.args.defs.now) c.args.count c.args.t.now d.not-Tuple d.not-Adt
