-- Nodes behind their operands.
use Rattle.std.proofs.Common.{◌≡◌, ℕ, ◌+◌, ◌<◌, List, [], ◌∷◌, ◌++◌, Option, map, drop, length, get_or, refl, add-one}
use Rattle.std.proofs.Math.Seq.{drop-cons}
use Rattle.limbo_types.specs.Types.{Ty}
use Rattle.limbo_layout.specs.Adts.{Def}
use Rattle.limbo_typed.specs.declared.operation.Operation.{Operation}
use Rattle.limbo_typed.specs.declared.print.Piece.{Piece}
use Rattle.limbo_meaning.specs.Trees.{Aim, Assign, Operate}
use Rattle.limbo_meaning.specs.Evaluation.{operands_for}
use Rattle.core_code.specs.Code.{Instr, Gather, Call, Print}
use Rattle.core_code.specs.Terms.{LoweredAll, Lowered, slot_at, writes, node, drops_after, drops_after_all, drops_from}
use Rattle.core_code.specs.Terms.{operands_slot, value_slot}
use Rattle.core_parts.specs.declared.drops.Moved as code_moved
use Rattle.core_parts.specs.Nodes.{view_moved, Whole, put_together, together_drops, gathered, called, printed}

pub assign_is : (defs : List Def) (us : List Ty) (t : Ty) (aims : List Aim) (l : LoweredAll) (code : List Instr) (v : ℕ)
    → v ≡ slot_at (operands_for aims) l.values → code ≡ l.code ++ writes defs aims l.values v
    → ◌≡◌ {A = Lowered} (record { code = code; drops = l.drops; value = v; free = l.free }) (node defs us t (Assign aims) l)
assign_is defs us t aims l code v ev ec = rw (ec, ev) refl

pub moves_on : (ms : List code_moved.Moved) (i : ℕ) (d : code_moved.Moved) (code next : List Instr) → i < length ms
    → next ≡ drops_after (view_moved (get_or ms i d)) code
    → drops_after_all (map view_moved (drop (i + 1) ms)) next ≡ drops_after_all (map view_moved (drop i ms)) code
moves_on ms i d code next below e = rw (add-one i, e, drop-cons ms i d) refl

-- ---- operands that are put together

pub gather_is : (defs : List Def) (o : Operation) (w : Whole) (l : LoweredAll) (n : ℕ) (code next drops : List Instr)
    → n ≡ length l.values → code ≡ put_together defs w l → next ≡ code ++ Gather w.type (Operate o) l.free n ∷ []
    → drops ≡ together_drops defs w l
    → ◌≡◌ {A = Lowered} (record { code = next; drops = drops; value = l.free; free = l.free + 1 }) (gathered defs o w l)
gather_is defs o w l n code next drops el ec en ed = rw (en, ec, ed, el, add-one l.free) refl

pub call_is : (defs : List Def) (t : Ty) (f k : ℕ) (w : Whole) (l : LoweredAll) (v : ℕ) (s : Option ℕ) (code next drops gone : List Instr)
    → v ≡ value_slot defs l → s ≡ operands_slot defs l → code ≡ put_together defs w l → next ≡ code ++ Call t f v s ∷ []
    → drops ≡ together_drops defs w l → gone ≡ drops ++ drops_from v 0 k
    → ◌≡◌ {A = Lowered} (record { code = next; drops = gone; value = v; free = v + 1 }) (called defs t f k w l)
call_is defs t f k w l v s code next drops gone ev es ec en ed eg = rw (add-one v, en, ec, eg, ed, es, ev) refl

pub print_is : (defs : List Def) (ps : List Piece) (w : Whole) (l : LoweredAll) (v : ℕ) (s : Option ℕ) (code next drops : List Instr)
    → v ≡ value_slot defs l → s ≡ operands_slot defs l → code ≡ put_together defs w l → next ≡ code ++ Print ps v s ∷ []
    → drops ≡ together_drops defs w l
    → ◌≡◌ {A = Lowered} (record { code = next; drops = drops; value = v; free = v + 1 }) (printed defs ps w l)
print_is defs ps w l v s code next drops ev es ec en ed = rw (add-one v, en, ec, ed, es, ev) refl
