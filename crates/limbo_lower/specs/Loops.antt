-- What is around a statement, by the code that is written already, from the end of the function on.
use Rattle.std.specs.Prelude.{◌≡◌, ℕ, ◌-◌, ◌≤◌, Bool, true, false, List, [], ◌∷◌, ◌++◌, map, max, length, Option, Some, None}
use Rattle.limbo_types.specs.Types.{Ty, Int}
use Rattle.limbo_layout.specs.Adts.{Def}
use Rattle.limbo_typed.specs.Typed as typed
use Rattle.limbo_layout.specs.View.{view_defs}
use Rattle.limbo_typed.specs.View.{view_var}
use Rattle.limbo_typed.specs.declared.module.TVar.{TVar}
use Rattle.limbo_meaning.specs.Program.{is_load, term_of, only_term, local, optional, declared_value, all_before}
use Rattle.limbo_meaning.specs.Trees.{Term, Node, Assign, Stm, If, Block, Done, Loop, Looping}
use Rattle.core_code.specs.Code.{Instr}
use Rattle.core_code.specs.Statements.{Around, block_code, block_slots}
use Rattle.core_data.specs.declared.code.Inst as code_inst
use Rattle.limbo_lower.specs.declared.statements.Loop as code_loop
use Rattle.limbo_lower.specs.declared.statements.Function as code_function
use Rattle.limbo_lower.specs.Written.{written}

-- A loop, seen from the end of a block behind which so many instructions stand.
abbrev pub around : ℕ → code_loop.Loop → Around
around end l = record { leaves = end - l.end; turns = end - l.turn }

abbrev pub arounds_at : ℕ → List code_loop.Loop → List Around
arounds_at end loops = map (around end) loops

-- Each of them was there by then.
pub record IsBehind (here : ℕ) (l : code_loop.Loop) : Type 0 where
  pub turn : l.turn ≤ here
  pub end : l.end ≤ here

abbrev pub AreBehind : ℕ → List code_loop.Loop → Type 0
AreBehind here [] = Unit {0}
AreBehind here (l ∷ ls) = IsBehind here l × AreBehind here ls

-- The types of variables.
abbrev pub types_of : List TVar → List Ty
types_of variables = map (λ v. v.ty) (map view_var variables)

abbrev pub defs_in : code_function.Function → List Def
defs_in f = view_defs f.extents.now

abbrev pub types_in : code_function.Function → List Ty
types_in f = types_of f.variables.now

-- Whether an expression is an assignment of what `load` gives.
abbrev pub is_some : Option Stm → Bool
is_some None = false
is_some (Some s) = true

abbrev pub loads : typed.Expr → Bool
loads (typed.Of t n) = is_some (is_load n)

-- What is written is the code of a block, in front of what stands behind it, and there are slots for it.
pub record Stands (defs : List Def) (loops : List code_loop.Loop) (end : ℕ) (back : List Instr) (least : ℕ) (b : Block)
    (now : List code_inst.Inst) (count : ℕ) : Type 0 where
  pub one : 1 ≤ least
  pub length : length back ≡ end
  pub code : written now ≡ block_code defs (arounds_at end loops) b ++ back
  pub slots : count ≡ max least (block_slots defs b)

-- ---- statements

module _ (types : List Ty) where
  abbrev pub declaration : List ℕ → Option typed.Expr → Term
  declaration xs e = Node Int (Assign (map (local types) xs)) (only_term (declared_value types e))

  abbrev pub chosen : typed.Expr → (then other : typed.Stmts) → Stm
  chosen c ss others = If (term_of c) (all_before types ss Done) (all_before types others Done)

  abbrev pub looping : (condition next : Option typed.Expr) → typed.Stmts → Loop
  looping c n ss = Looping (optional c) (optional n) (all_before types ss Done)
