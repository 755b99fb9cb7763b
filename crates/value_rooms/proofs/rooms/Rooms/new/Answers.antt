use Rattle.std.proofs.Common.{◌≡◌, List, ap, ◌∙◌, map, arith}
use Rattle.std.specs.Prelude.{slice_index_or}
use Rattle.limbo_types.specs.Types.{Ty}
use Rattle.limbo_types.proofs.View.{view_ty-Nothing}
use Rattle.limbo_layout.specs.Adts.{parts}
use Rattle.limbo_layout.specs.Layout.{Room, nothing}
use Rattle.limbo_layout.specs.View.{view_defs}
use Rattle.limbo_layout.proofs.Rooms.{read_at}
use Rattle.value_rooms.specs.Names.{names_of}
use Rattle.value_rooms.specs.Tables.{table_of, view_parts}
use Rattle.value_rooms.proofs.Fitting.{all_fit, none_larger}
use Rattle.value_rooms.proofs.rooms.Rooms.new.Goals as goal

pub returns-then-size-gt-LIMIT-clause-too_large : goal.returns-then-size-gt-LIMIT-clause-too_large
returns-then-size-gt-LIMIT-clause-too_large c e fit =
    let defs = view_defs c.args.defs.now in
    let items = c.deref-room-items.result.now in
    let made : items ≡ table_of (map parts defs) =
    c.deref-room-items.ensures.value ∙ c.in_ok-table.ensures ∙ ap (λ ts. table_of (view_parts ts)) c.deref.ensures.value
    ∙ ap table_of c.in_ok-parts.ensures in
    let i = c.loop-room.room-index in
    let r = c.room-item.result in
    let at : slice_index_or items i nothing ≡ r = read_at items i nothing r (omega arith) c.room-item.is in
    let s = ap (λ (z : Room). z.size) at in
    none_larger defs items made i (omega arith) fit

pub invariant_of-result : goal.invariant_of-result
invariant_of-result c =
    let table : c.in_ok-table.table.items ≡ table_of (map parts (view_defs c.args.defs.now)) =
    c.in_ok-table.ensures ∙ ap (λ ts. table_of (view_parts ts)) c.deref.ensures.value ∙ ap table_of c.in_ok-parts.ensures in
    record {
      nothing = view_ty-Nothing;
      parts = c.in_ok-parts.ensures;
      table = table;
      names =
          c.in_ok-names.ensures
          ∙ ap (λ (rooms : List Room). names_of rooms (view_parts c.deref-3.result.now)) (c.deref-2.ensures.value ∙ table)
          ∙ ap (λ (all : List (List Ty)). names_of (table_of (map parts (view_defs c.args.defs.now))) all)
          (ap view_parts c.deref-3.ensures.value ∙ c.in_ok-parts.ensures);
    }

pub returns-clause-fit : goal.returns-clause-fit
returns-clause-fit c =
    let defs = view_defs c.args.defs.now in
    let items = c.deref-room-items.result.now in
    let made : items ≡ table_of (map parts defs) =
    c.deref-room-items.ensures.value ∙ c.in_ok-table.ensures ∙ ap (λ ts. table_of (view_parts ts)) c.deref.ensures.value
    ∙ ap table_of c.in_ok-parts.ensures in
    all_fit defs items made (λ n l. c.loop-room.invariant n (omega arith))
