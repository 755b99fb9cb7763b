-- Nodes behind their operands, by how many references their values have and where those of the operands move; and those of several parts.
use Rattle.std.specs.Prelude.{ℕ, ℤ, suc, ◌+◌, ◌≤◌, ◌^◌, All, List, [], ◌∷◌, ◌++◌, length, map, Bool, Option, Some, None, if◌then◌else◌}
use Rattle.limbo_types.specs.Types as ty
use Rattle.limbo_types.specs.Types.{Ty}
use Rattle.limbo_types.specs.View.{view_ty}
use Rattle.limbo_layout.specs.Adts.{Def}
use Rattle.limbo_typed.specs.declared.operation.Operation.{Operation}
use Rattle.limbo_typed.specs.declared.operation.Operation.TheVariants as operation
use Rattle.limbo_typed.specs.declared.operation.Connective.{Connective}
use Rattle.limbo_typed.specs.declared.operation.Given.{Given}
use Rattle.limbo_typed.specs.declared.operation.Given.TheVariants as given
use Rattle.limbo_typed.specs.declared.print.Piece.{Piece}
use Rattle.limbo_meaning.specs.Places.{Way}
use Rattle.limbo_meaning.specs.Trees as tree
use Rattle.limbo_meaning.specs.Trees.{Work, Operate}
use Rattle.core_code.specs.Code.{Instr, Give, Gather, Pick, Call, Print, Write, Skip, Truth, Mirror, Drop, Element, Start, Next, Take, Back}
use Rattle.core_code.specs.Terms.{Lowered, LoweredAll, Moved, slot_at, drops_from, drops_after, drops_after_all, drops_if}
use Rattle.core_code.specs.Terms.{placed, operands_slot, value_slot}
use Rattle.core_parts.specs.declared.drops.Moved as code_moved
use Rattle.core_parts.specs.declared.together.Whole as code_whole

abbrev pub view_moved : code_moved.Moved → Moved
view_moved v = record { slot = v.slot; first = v.first; count = v.count; into = v.into; at = v.at }

-- The references of what moves have numbers.
abbrev pub AllFit : List code_moved.Moved → Type 0
AllFit vs = All (λ v. v.at + v.count ≤ 2 ^ 32) vs

-- A node gives a value with so many references that it gets.
abbrev pub gave : Ty → Work → (references : ℕ) → LoweredAll → Lowered
gave t o n l = record {
  code = l.code ++ Give t o l.free l.values ∷ [];
  drops = l.drops ++ drops_from l.free 0 n;
  value = l.free;
  free = suc l.free;
}

-- What operands are put together as: a value of this type, and variant of an adt, of the parts of these numbers; and where the references
-- of each are then.
pub record Whole : Type 0 where
  pub type : Ty
  pub variant : Option ℕ
  pub parts : List ℕ
  pub moves : List Moved

abbrev pub view_whole : code_whole.Whole → Whole
view_whole w = record {
  type = view_ty w.ty;
  variant = w.variant;
  parts = w.parts.items;
  moves = map view_moved w.moves.items;
}

module _ (defs : List Def) where
  -- their code, and their drops
  abbrev pub put_together : Whole → LoweredAll → List Instr
  put_together w l = placed defs w.type w.variant l.free 0 w.parts l.each l.values

  abbrev pub together_drops : Whole → LoweredAll → List Instr
  together_drops w l = drops_after_all w.moves l.drops

  abbrev pub gathered : Operation → Whole → LoweredAll → Lowered
  gathered o w l = record {
    code = put_together w l ++ Gather w.type (Operate o) l.free (length l.values) ∷ [];
    drops = together_drops w l;
    value = l.free;
    free = suc l.free;
  }

  abbrev pub called : Ty → (function references : ℕ) → Whole → LoweredAll → Lowered
  called t f n w l = record {
    code = put_together w l ++ Call t f (value_slot defs l) (operands_slot defs l) ∷ [];
    drops = together_drops w l ++ drops_from (value_slot defs l) 0 n;
    value = value_slot defs l;
    free = suc (value_slot defs l);
  }

  abbrev pub printed : List Piece → Whole → LoweredAll → Lowered
  printed ps w l = record {
    code = put_together w l ++ Print ps (value_slot defs l) (operands_slot defs l) ∷ [];
    drops = together_drops w l;
    value = value_slot defs l;
    free = suc (value_slot defs l);
  }

abbrev pub picked : Ty → (part : ℕ) → Moved → LoweredAll → Lowered
picked t n v l = record {
  code = l.code ++ Pick t n l.free (slot_at 0 l.values) ∷ [];
  drops = drops_after v l.drops;
  value = l.free;
  free = suc l.free;
}

-- A connective, whose right operand may hold something or not.
abbrev pub connected : Connective → (held : Bool) → (left right : Lowered) → Lowered
connected c held a b = record {
  code = a.code ++ Skip c b.free (if held then Some a.free else None) a.value
      (suc (length b.code)) ∷ b.code ++ Truth b.free b.value ∷ [];
  drops = a.drops ++ drops_if held (Mirror a.free (length b.drops) ∷ b.drops);
  value = b.free;
  free = suc b.free;
}

-- A place is read and written: its old value has so many references, and what the operation gives so many that it gets.
abbrev pub given_slot : Given → (old new : ℕ) → ℕ
given_slot given.Old old new = old
given_slot given.New old new = new

abbrev pub updated : Operation → Given → Ty → Way → (old new : ℕ) → (place others : LoweredAll) → Lowered
updated o g t w m n a b = record {
  code = a.code ++ Give t (tree.Read w) a.free a.values ∷ b.code ++
      (Give t (Operate o) b.free (a.free ∷ b.values) ∷ Write t w a.values [] b.free ∷ []);
  drops = a.drops ++ (drops_from a.free 0 m ++ (b.drops ++ drops_from b.free 0 n));
  value = given_slot g a.free b.free;
  free = suc b.free;
}

-- A new array behind its length, and then its elements.
abbrev pub filled : Ty → (length elements others : Lowered) → Lowered
filled t n es os = record {
  code = n.code ++ Give (ty.ArrayOf t) (Operate operation.NewArray) n.free (n.value ∷ []) ∷ es.code ++ os.code;
  drops = n.drops ++ Drop n.free 0 ∷ es.drops ++ os.drops;
  value = n.free;
  free = os.free;
}

-- An element that is stored behind others: what it holds has slots of its own.
abbrev pub stored : Ty → (index : ℤ) → (held : Bool) → (sum element : Lowered) → Lowered
stored t i held l x = record {
  code = l.code ++ (x.code ++ Element t l.value i x.value ∷ []);
  drops = l.drops ++ x.drops;
  value = l.value;
  free = if held then x.free else l.free;
}

-- The turns of a loop, and the drops of what they held.
abbrev pub turns : (array : ℕ) → List ℤ → (from : ℕ) → List Instr → List Instr
turns a zs from turn = Start from ∷ Next a from zs (suc (length turn)) ∷ turn ++ Back (suc (length turn)) ∷ []

abbrev pub turned_back : (loop from words : ℕ) → List Instr → List Instr
turned_back loop from words is = Take loop from words (suc (length is)) ∷ is ++ Back (suc (length is)) ∷ []
