use Rattle.std.proofs.Common.{◌+◌, ◌*◌, ◌<◌, length, List, [], ◌∷◌, ◌++◌, map, codes, encode_utf8_all, refl, sym, ap, ◌∙◌, arith}
use Rattle.std.specs.Fmt.{decimal}
use Rattle.limbo_types.specs.Types as ty
use Rattle.limbo_types.specs.View.{view_ty, tys_of}
use Rattle.limbo_types.proofs.View.{view_ty-Byte, view_ty-Int, view_ty-Big, view_ty-Chars, view_ty-Nothing, view_ty-Nil, view_ty-Array, view_ty-List}
use Rattle.limbo_types.proofs.View.{view_ty-Chan, view_ty-Tuple, view_ty-Adt, view_ty-RefAdt, view_ty-RefPick, view_ty-Module}
use Rattle.link_sign.specs.TypeText.{Letter, Whole, name_at}
use Rattle.link_sign.specs.Drafts.{ThePiece, TheType, listed, burden}
use Rattle.link_sign.proofs.Drafts.{spreads_type}
use Rattle.link_sign.proofs.Forms.{letter_before, tuple_form, variant_form, module_form}
use Rattle.link_sign.proofs.spread.put_type.Goals as goal

light : (ts : List ty.Ty) → burden (ThePiece (Letter 41) ∷ listed ts) < 2 + 8 * length (codes "(")
light [] = omega arith
light (t ∷ ts) = omega arith

pub returns-in-Byte : goal.returns-in-Byte
returns-in-Byte c =
    spreads_type c.args.modules.now (view_ty c.args.t.now) ty.Byte (codes "b") [] c.args.draft.now c.put.new.self c.put.result
    (ap view_ty c.in-Byte.is ∙ view_ty-Byte) refl (omega arith) c.put.ensures

pub returns-in-Int : goal.returns-in-Int
returns-in-Int c =
    spreads_type c.args.modules.now (view_ty c.args.t.now) ty.Int (codes "i") [] c.args.draft.now c.put-in-Int.new.self c.put-in-Int.result
    (ap view_ty c.in-Int.is ∙ view_ty-Int) refl (omega arith) c.put-in-Int.ensures

pub returns-in-Big : goal.returns-in-Big
returns-in-Big c =
    spreads_type c.args.modules.now (view_ty c.args.t.now) ty.Big (codes "B") [] c.args.draft.now c.put-in-Big.new.self c.put-in-Big.result
    (ap view_ty c.in-Big.is ∙ view_ty-Big) refl (omega arith) c.put-in-Big.ensures

pub returns-in-Chars : goal.returns-in-Chars
returns-in-Chars c =
    spreads_type c.args.modules.now (view_ty c.args.t.now) ty.Chars (codes "s") [] c.args.draft.now c.put-in-Chars.new.self c.put-in-Chars.result
    (ap view_ty c.in-Chars.is ∙ view_ty-Chars) refl (omega arith) c.put-in-Chars.ensures

pub returns-in-Nothing : goal.returns-in-Nothing
returns-in-Nothing c =
    spreads_type c.args.modules.now (view_ty c.args.t.now) ty.Nothing (codes "n") [] c.args.draft.now c.put-in-Nothing.new.self c.put-in-Nothing.result
    (ap view_ty c.in-Nothing.is ∙ view_ty-Nothing) refl (omega arith) c.put-in-Nothing.ensures

pub returns-in-Nil : goal.returns-in-Nil
returns-in-Nil c =
    spreads_type c.args.modules.now (view_ty c.args.t.now) ty.Nil (codes "N") [] c.args.draft.now c.put-in-Nil.new.self c.put-in-Nil.result
    (ap view_ty c.in-Nil.is ∙ view_ty-Nil) refl (omega arith) c.put-in-Nil.ensures

pub returns-in-Array : goal.returns-in-Array
returns-in-Array c =
    let item = view_ty c.deref.result.now in
    spreads_type c.args.modules.now (view_ty c.args.t.now) (ty.ArrayOf item) (codes "A") (TheType item ∷ []) c.args.draft.now c.put_before.new.draft c.put_before.result
    (ap view_ty c.in-Array.is ∙ view_ty-Array c.in-Array.item ∙ ap (λ z. ty.ArrayOf (view_ty z)) (sym c.deref.ensures))
    (letter_before c.args.modules.now 65 item) (omega arith) c.put_before.ensures

pub returns-in-List : goal.returns-in-List
returns-in-List c =
    let item = view_ty c.deref-in-List.result.now in
    spreads_type c.args.modules.now (view_ty c.args.t.now) (ty.ListOf item) (codes "L") (TheType item ∷ []) c.args.draft.now c.put_before-in-List.new.draft c.put_before-in-List.result
    (ap view_ty c.in-List.is ∙ view_ty-List c.in-List.item ∙ ap (λ z. ty.ListOf (view_ty z)) (sym c.deref-in-List.ensures))
    (letter_before c.args.modules.now 76 item) (omega arith) c.put_before-in-List.ensures

pub returns-in-Chan : goal.returns-in-Chan
returns-in-Chan c =
    let item = view_ty c.deref-in-Chan.result.now in
    spreads_type c.args.modules.now (view_ty c.args.t.now) (ty.ChanOf item) (codes "C") (TheType item ∷ []) c.args.draft.now c.put_before-in-Chan.new.draft c.put_before-in-Chan.result
    (ap view_ty c.in-Chan.is ∙ view_ty-Chan c.in-Chan.item ∙ ap (λ z. ty.ChanOf (view_ty z)) (sym c.deref-in-Chan.ensures))
    (letter_before c.args.modules.now 67 item) (omega arith) c.put_before-in-Chan.ensures

pub returns-in-Tuple : goal.returns-in-Tuple
returns-in-Tuple c =
    let ts = c.deref-in-Tuple.result.now in
    spreads_type c.args.modules.now (view_ty c.args.t.now) (ty.Tuple (tys_of (map view_ty ts))) (codes "(") (ThePiece (Letter 41) ∷ listed (map view_ty ts)) c.args.draft.now c.put_tuple.new.draft c.put_tuple.result
    (ap view_ty c.in-Tuple.is ∙ view_ty-Tuple c.in-Tuple.parts ∙ ap (λ z. ty.Tuple (tys_of (map view_ty z))) (sym c.deref-in-Tuple.ensures.value))
    (tuple_form c.args.modules.now (map view_ty ts)) (light (map view_ty ts)) c.put_tuple.ensures

pub returns-in-Adt : goal.returns-in-Adt
returns-in-Adt c =
    spreads_type c.args.modules.now (view_ty c.args.t.now) (ty.Adt c.in-Adt.number) [] (ThePiece (Whole c.in-Adt.number) ∷ []) c.args.draft.now c.leave.new.self c.leave.result
    (ap view_ty c.in-Adt.is ∙ view_ty-Adt c.in-Adt.number) refl (omega arith) c.leave.ensures

pub returns-in-RefAdt : goal.returns-in-RefAdt
returns-in-RefAdt c =
    spreads_type c.args.modules.now (view_ty c.args.t.now) (ty.RefAdt c.in-RefAdt.number) (codes "R") (ThePiece (Whole c.in-RefAdt.number) ∷ []) c.args.draft.now c.put_ref.new.draft c.put_ref.result
    (ap view_ty c.in-RefAdt.is ∙ view_ty-RefAdt c.in-RefAdt.number) refl (omega arith) c.put_ref.ensures

pub returns-in-RefPick : goal.returns-in-RefPick
returns-in-RefPick c =
    let n = c.in-RefPick.adt in
    let v = c.in-RefPick.variant in
    spreads_type c.args.modules.now (view_ty c.args.t.now) (ty.RefPick n v) (codes "V" ++ (decimal v ++ codes ";")) (ThePiece (Whole n) ∷ []) c.args.draft.now c.put_variant_ref.new.draft c.put_variant_ref.result
    (ap view_ty c.in-RefPick.is ∙ view_ty-RefPick n v) (variant_form c.args.modules.now n v) (omega arith) c.put_variant_ref.ensures

pub returns-in-Module : goal.returns-in-Module
returns-in-Module c =
    let n = c.in-Module.number in
    spreads_type c.args.modules.now (view_ty c.args.t.now) (ty.Module n) (codes "M" ++ (encode_utf8_all (name_at c.args.modules.now n) ++ codes ";")) [] c.args.draft.now c.put_module.new.draft c.put_module.result
    (ap view_ty c.in-Module.is ∙ view_ty-Module n) (module_form c.args.modules.now n) (omega arith) c.put_module.ensures
