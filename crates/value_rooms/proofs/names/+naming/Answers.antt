use Rattle.std.proofs.Common.{◌≡◌, ℕ, ◌++◌, List, sym, ap, subst, ◌∙◌, append-nil, arith}
use Rattle.std.specs.Prelude.{OnOk}
use Rattle.limbo_types.specs.Types.{Ty}
use Rattle.limbo_types.specs.View.{view_ty}
use Rattle.limbo_types.proofs.View.{view_ty-Adt, view_ty-Byte, view_ty-Int, view_ty-Big, view_ty-Chars, view_ty-Nothing}
use Rattle.value_rooms.specs.Names.{moved, named, view_names}
use Rattle.value_rooms.proofs.Naming.{names_past, offsets_at}
use Rattle.value_rooms.proofs.names.+naming.Goals as goal

pub put_names-returns-in-Some : goal.put_names-returns-in-Some
put_names-returns-in-Some t c =
    let n = c.in-Adt.number in
    let l = c.in-Some.ensures.lookup in
    let e =
    ap (moved c.args.at) (c.deref-in-Some.ensures.value ∙ offsets_at c.args.adts.now n c.in-Some.offsets.now (omega arith) l.1)
    ∙ sym (ap (named c.args.table.now (view_names c.args.adts.now) c.args.at) (ap view_ty c.in-Adt.is ∙ view_ty-Adt n)) in
    subst (λ (os : List ℕ). OnOk c.put_moved.result (c.put_moved.new.names.items ≡ c.args.names.now.items ++ os)) e c.put_moved.ensures

pub put_names-returns-in-None : goal.put_names-returns-in-None
put_names-returns-in-None t c =
    let n = c.in-Adt.number in
    let l = c.in-None.ensures.lookup in
    let items = c.args.names.now.items in
    sym (append-nil items)
    ∙ ap (λ (os : List ℕ). items ++ os) (ap (moved c.args.at) (names_past c.args.adts.now n (omega arith))
    ∙ sym (ap (named c.args.table.now (view_names c.args.adts.now) c.args.at) (ap view_ty c.in-Adt.is ∙ view_ty-Adt n)))

pub put_names-returns-in-Byte : goal.put_names-returns-in-Byte
put_names-returns-in-Byte t c =
    let items = c.args.names.now.items in
    sym (append-nil items)
    ∙ sym (ap (λ (u : Ty). items ++ named c.args.table.now (view_names c.args.adts.now) c.args.at u) (ap view_ty c.in-Byte.is ∙ view_ty-Byte))

pub put_names-returns-in-Int : goal.put_names-returns-in-Int
put_names-returns-in-Int t c =
    let items = c.args.names.now.items in
    sym (append-nil items)
    ∙ sym (ap (λ (u : Ty). items ++ named c.args.table.now (view_names c.args.adts.now) c.args.at u) (ap view_ty c.in-Int.is ∙ view_ty-Int))

pub put_names-returns-in-Big : goal.put_names-returns-in-Big
put_names-returns-in-Big t c =
    let items = c.args.names.now.items in
    sym (append-nil items)
    ∙ sym (ap (λ (u : Ty). items ++ named c.args.table.now (view_names c.args.adts.now) c.args.at u) (ap view_ty c.in-Big.is ∙ view_ty-Big))

pub put_names-returns-in-Chars : goal.put_names-returns-in-Chars
put_names-returns-in-Chars t c =
    let items = c.args.names.now.items in
    sym (append-nil items)
    ∙ sym (ap (λ (u : Ty). items ++ named c.args.table.now (view_names c.args.adts.now) c.args.at u) (ap view_ty c.in-Chars.is ∙ view_ty-Chars))

pub put_names-returns-in-Nothing : goal.put_names-returns-in-Nothing
put_names-returns-in-Nothing t c =
    let items = c.args.names.now.items in
    sym (append-nil items)
    ∙ sym (ap (λ (u : Ty). items ++ named c.args.table.now (view_names c.args.adts.now) c.args.at u) (ap view_ty c.in-Nothing.is ∙ view_ty-Nothing))
