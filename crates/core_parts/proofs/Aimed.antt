-- The writes of an assignment, one by one.
use Rattle.std.proofs.Common.{◌≡◌, ℕ, List, [], ◌∷◌, ◌++◌, take, drop, map, get_or, Box, Global, sym, ap, ◌∙◌, add-zero, append_assoc}
use Rattle.std.proofs.lemmas.List.{append-nil, map-append, get_or-drop}
use Rattle.limbo_types.specs.View.{view_ty}
use Rattle.limbo_layout.specs.Adts.{Def}
use Rattle.limbo_typed.specs.declared.expr.Place as code_place
use Rattle.limbo_typed.specs.declared.expr.Pattern as code_pattern
use Rattle.limbo_typed.specs.declared.expr.Pattern.TheVariants as make_pattern
use Rattle.limbo_typed.specs.View.{view_place_node, view_pattern}
use Rattle.limbo_typed.proofs.View.{view_pattern-Place, view_pattern-Nothing, view_place-out}
use Rattle.limbo_meaning.specs.Places.{operands_of}
use Rattle.limbo_meaning.specs.Trees.{Aim}
use Rattle.limbo_meaning.specs.Program.{way_of, aims_in}
use Rattle.core_data.specs.View.{view_way}
use Rattle.core_code.specs.Code.{Instr, Write}
use Rattle.core_code.specs.Terms.{writes, slot_at}
use Rattle.core_parts.specs.declared.aims.Aim as code_aim
use Rattle.core_parts.specs.Aims.{view_aim}

pub writes_on : (defs : List Def) (a : Aim) (aims : List Aim) (os slots rest : List ℕ) (from : ℕ) (code next : List Instr)
    → os ≡ take (operands_of a.way) slots → rest ≡ drop (operands_of a.way) slots
    → next ≡ code ++ Write a.type a.way os a.part from ∷ []
    → next ++ writes defs aims rest from ≡ code ++ writes defs (a ∷ aims) slots from
writes_on defs a aims os slots rest from code next eo er e =
    rw (e, er, eo) (append_assoc code (Write a.type a.way (take (operands_of a.way) slots) a.part from ∷ [])
    (writes defs aims (drop (operands_of a.way) slots) from))

pub aims_place : (aims next : List code_aim.Aim) (a : code_aim.Aim) (part : List ℕ) (q : code_pattern.Pattern)
    (p : Box code_place.Place Global) → q ≡ make_pattern.Place p → next ≡ aims ++ a ∷ [] → a.part.items ≡ part
    → view_ty a.ty ≡ view_ty p.value.ty → view_way a.way ≡ way_of (view_place_node p.value.at)
    → map view_aim next ≡ map view_aim aims ++ aims_in part (view_pattern q)
aims_place aims next a part q p eq en ep et ew =
    rw (eq, view_pattern-Place p, view_place-out p.value, ← ep, ← et, ← ew, en) (map-append view_aim aims (a ∷ []))

pub aims_nothing : (aims : List Aim) (part : List ℕ) (q : code_pattern.Pattern) → q ≡ make_pattern.Nothing
    → aims ≡ aims ++ aims_in part (view_pattern q)
aims_nothing aims part q e = rw (e, view_pattern-Nothing) (sym (append-nil aims))

-- What stands at a place is the first from there on.
pub first_behind : (n : ℕ) (slots : List ℕ) → slot_at n slots ≡ slot_at 0 (drop n slots)
first_behind n slots = ap (λ k. get_or slots k 0) (sym (add-zero n)) ∙ sym (get_or-drop n slots 0 0)
