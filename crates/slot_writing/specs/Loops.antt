-- What is around a statement, by the code that is written already, from the end of the function on.
use Rattle.std.specs.Prelude.{ℕ, ◌-◌, ◌≤◌, Bool, true, false, List, [], ◌∷◌, map, length, Option, Some, None}
use Rattle.limbo_types.specs.Types.{Ty}
use Rattle.limbo_typed.specs.Typed as typed
use Rattle.limbo_typed.specs.View.{view_var}
use Rattle.limbo_typed.specs.declared.module.TVar.{TVar}
use Rattle.typed_meaning.specs.Program.{is_load, term_of}
use Rattle.typed_meaning.specs.Trees.{Stm}
use Rattle.slot_code.specs.Code.{Inst, Jump}
use Rattle.typed_lower.specs.Statements.{Around, either, further, passed, inside, while_loop, do_loop, condition, stmts_code}
use Rattle.slot_writing.specs.declared.statements.Loop.{Loop}

-- A loop, behind so many instructions.
abbrev pub around : ℕ → Loop → Around
around here l = record { turn = here - l.turn; end = here - l.end }

abbrev pub arounds_at : ℕ → List Loop → List Around
arounds_at here loops = map (around here) loops

-- Each of them was there by then.
pub record IsBehind (here : ℕ) (l : Loop) : Type 0 where
  pub turn : l.turn ≤ here
  pub end : l.end ≤ here

abbrev pub AreBehind : ℕ → List Loop → Type 0
AreBehind here [] = Unit {0}
AreBehind here (l ∷ ls) = IsBehind here l × AreBehind here ls

-- The types of variables.
abbrev pub types_of : List TVar → List Ty
types_of variables = map (λ v. v.ty) (map view_var variables)

-- Whether an expression is an assignment of what `load` gives.
abbrev pub is_some : Option Stm → Bool
is_some None = false
is_some (Some s) = true

abbrev pub loads : typed.Expr → Bool
loads (typed.Of t n) = is_some (is_load n)

-- The way round the other part of an `if`.
abbrev pub round : List Inst → List Inst
round [] = []
round (i ∷ is) = Jump (length (i ∷ is)) ∷ i ∷ is

-- all but a list of one
abbrev pub IsNotOne : List ℕ → Type 0
IsNotOne (x ∷ []) = ⊥
IsNotOne xs = Unit {0}

-- An `if`, a loop that tests first, with what stands between two turns, and one that tests last.
module _ (types : List Ty) (arounds : List Around) where
  abbrev pub chosen : typed.Expr → (then other : typed.Stmts) → List Inst
  chosen c ss others =
      either (term_of c) (stmts_code types (further (passed (stmts_code types arounds others)) arounds) ss)
      (stmts_code types arounds others)

  abbrev pub looped : Option typed.Expr → (next : List Inst) → typed.Stmts → List Inst
  looped c next ss = while_loop c next (stmts_code types (inside next arounds) ss)

  abbrev pub done_first : Option typed.Expr → typed.Stmts → List Inst
  done_first c ss = do_loop (condition c 1) (stmts_code types (inside (condition c 1) arounds) ss)
