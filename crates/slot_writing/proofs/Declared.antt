-- What is found of variables and of loops by their numbers.
use Rattle.std.proofs.Common.{◌≡◌, ℕ, zero, suc, ◌<◌, ◌≤◌, List, [], ◌∷◌, ◌++◌, length, get_or, refl, sym, ap, ◌∙◌, arith}
use Rattle.std.specs.Prelude.{slice_index_or}
use Rattle.std.proofs.lemmas.Option.{slice_get_read}
use Rattle.limbo_types.specs.Types.{Int}
use Rattle.limbo_types.specs.View.{view_ty}
use Rattle.limbo_typed.specs.declared.module.TVar.{TVar}
use Rattle.limbo_typed.specs.declared.stmt.TStmt as code_stmt
use Rattle.limbo_typed.specs.View.{view_stmt, view_stmts}
use Rattle.slot_code.specs.Code.{Operand, Inst, Jump, Return}
use Rattle.typed_meaning.specs.Trees.{Term}
use Rattle.typed_lower.specs.Kinds.{leaf}
use Rattle.typed_lower.specs.Terms.{Ready, part_of, ready, one}
use Rattle.typed_lower.specs.Sizes.{stmt_size, stmts_size, stmt_nodes, stmts_nodes}
use Rattle.slot_writing.specs.declared.statements.Loop.{Loop}
use Rattle.slot_writing.specs.Loops.{IsBehind, AreBehind, types_of, round}
use Rattle.slot_writing.specs.Operands.{ready_at}
use Rattle.slot_writing.proofs.Looping.{one_behind}
use Rattle.slot_writing.proofs.Parts.{ready_is, one_before}
use Rattle.std.specs.Prelude.{Option}

pub kind_there : (vs : List TVar) (n : ℕ) (v : TVar) → n < length vs → v ≡ get_or vs n v → view_ty v.ty ≡ slice_index_or (types_of vs) n Int
kind_there [] n v l e = absurd (omega (arith, l))
kind_there (x ∷ vs) zero v l e = ap (λ (y : TVar). view_ty y.ty) e
kind_there (x ∷ vs) (suc n) v l e = kind_there vs n v (omega (arith, l)) e

pub behind_there : (here : ℕ) (ls : List Loop) (n : ℕ) (l : Loop) → n < length ls → l ≡ get_or ls n l → AreBehind here ls → IsBehind here l
behind_there here ls n l lt e b = one_behind here ls n l (slice_get_read ls (length ls) n l refl lt e) b

pub round_none : (other : List Inst) → length other ≡ 0 → other ≡ round other
round_none [] e = refl
round_none (i ∷ is) e = absurd (omega (arith, e))

pub round_some : (other back : List Inst) (n : ℕ) → n ≡ length other → 0 < n → Jump n ∷ (other ++ back) ≡ round other ++ back
round_some [] back n e l = absurd (omega (arith, e, l))
round_some (i ∷ is) back n e l = ap (λ k. Jump k ∷ ((i ∷ is) ++ back)) e

pub returned_code : (t u : Term) (x : Option Operand) (a : Operand) (mid base : List Inst) → t ≡ u → x ≡ leaf t
    → a ≡ (ready_at 0 t x).operand
    → mid ≡ Return a ∷ base → (ready_at 0 t x).before ++ mid ≡ one (ready 0 (part_of u)) Return ++ base
returned_code t u x a mid base et ex ea em =
    rw (em, ea, ex) (one_before (ready_at 0 t (leaf t)) Return base ∙ ap (λ (r : Ready). one r Return ++ base) (sym (ready_is 0 t))
    ∙ ap (λ (v : Term). one (ready 0 (part_of v)) Return ++ base) et)

pub nodes_within : (ss : List code_stmt.TStmt) (i : ℕ) (s : code_stmt.TStmt) → i < length ss → s ≡ get_or ss i s
    → stmt_nodes (view_stmt s) ≤ stmts_nodes (view_stmts ss)
nodes_within [] i s l e = absurd (omega (arith, l))
nodes_within (x ∷ ss) zero s l e = omega (arith, ap (λ (y : code_stmt.TStmt). stmt_nodes (view_stmt y)) e)
nodes_within (x ∷ ss) (suc i) s l e = omega (arith, nodes_within ss i s (omega (arith, l)) e)

pub size_within : (ss : List code_stmt.TStmt) (i : ℕ) (s : code_stmt.TStmt) → i < length ss → s ≡ get_or ss i s
    → stmt_size (view_stmt s) ≤ stmts_size (view_stmts ss)
size_within [] i s l e = absurd (omega (arith, l))
size_within (x ∷ ss) zero s l e = omega (arith, ap (λ (y : code_stmt.TStmt). stmt_size (view_stmt y)) e)
size_within (x ∷ ss) (suc i) s l e = omega (arith, size_within ss i s (omega (arith, l)) e)
