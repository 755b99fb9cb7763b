-- How many instructions the statements of a module have.
use Rattle.std.proofs.Common.{◌≡◌, ℕ, suc, ◌+◌, ◌*◌, ◌≤◌, Bool, true, false, List, [], ◌∷◌, ◌++◌, Option, None, Some, length, map, refl}
use Rattle.std.proofs.Common.{ap, arith, length-append}
use Rattle.std.proofs.lemmas.List.{length-map}
use Rattle.limbo_types.specs.Types.{Ty}
use Rattle.limbo_typed.specs.Typed as typed
use Rattle.limbo_typed.specs.Typed.{Function, Module}
use Rattle.typed_meaning.specs.Trees.{Place, Term, Literal, Store, Change}
use Rattle.typed_meaning.specs.Program.{term_of, evaluated, local, declared_value}
use Rattle.slot_code.specs.Code.{Operand, Inst, Temporary, In, Jump, Back, Return, Leave}
use Rattle.typed_lower.specs.Kinds.{kind_in, spot_of, leaf}
use Rattle.typed_lower.specs.Terms.{part_of, code_of, branches, ready}
use Rattle.typed_lower.specs.Statements.{Around, further, passed, inside, effects, done, optional, condition, moves, sets, either}
use Rattle.typed_lower.specs.Statements.{while_loop}
use Rattle.typed_lower.specs.Statements.{do_loop, returned, stmt_code, stmts_code, function_code, module_code}
use Rattle.typed_lower.specs.Sizes.{expr_nodes, optional_nodes, stmt_nodes, stmts_nodes, functions_nodes, nodes, instructions}
use Rattle.slot_writing.specs.Loops.{loads}
use Rattle.slot_writing.proofs.Stated.{loaded, not_loaded}
use Rattle.slot_writing.proofs.Few.{size, term_few, terms_few, applied_few, ready_few, one_long, expr_size}

-- ---- expressions

value_few : (t : Term) → length (code_of 1 t (Temporary (kind_in t) 0)) ≤ 4 * size t
value_few t = omega (arith, (term_few t).value 1 (Temporary (kind_in t) 0))

effects_few : (t : Term) → length (effects t) ≤ 4 * size t
effects_few (Store p t) = omega (arith, (term_few t).value 0 (spot_of p))
effects_few (Change o g p ts) = omega (arith, applied_few o ts (terms_few ts) 0 (spot_of p))
effects_few t = value_few t

done_few : (e : typed.Expr) → length (done (evaluated e)) ≤ 8 * expr_nodes e
done_few e = go (loads e) refl
  where
    go : (b : Bool) → b ≡ loads e → length (done (evaluated e)) ≤ 8 * expr_nodes e
    go true h = omega (arith, ap length (loaded e true refl h))
    go false h = omega (arith, ap length (not_loaded e false refl h), effects_few (term_of e), expr_size e)

optional_few : (e : Option typed.Expr) → length (optional e) ≤ 8 * optional_nodes e
optional_few None = omega arith
optional_few (Some e) = done_few e

branches_few : (e : typed.Expr) (n : ℕ) → length (branches false 0 (term_of e) n) ≤ 8 * expr_nodes e
branches_few e n = omega (arith, (term_few (term_of e)).branches false 0 n, expr_size e)

condition_few : (e : Option typed.Expr) (n : ℕ) → length (condition e n) ≤ 8 * optional_nodes e
condition_few None n = omega arith
condition_few (Some e) n = branches_few e n

returned_few : (e : Option typed.Expr) → length (returned e) ≤ suc (8 * optional_nodes e)
returned_few None = omega arith
returned_few (Some e) =
    let p = part_of (term_of e) in
    omega (
      arith,
      one_long (ready 0 p) Return,
      ready_few 0 p.kind p.leaf p.value (size (term_of e)) (term_few
          (term_of e)).value,
      expr_size e,
    )

-- ---- declarations

moves_long : (ps : List Place) (x : Operand) → length (moves ps x) ≡ length ps
moves_long [] x = refl
moves_long (p ∷ ps) x = ap suc (moves_long ps x)

kept_sets : (ps : List Place) (t : Term)
    → length (code_of 1 t (Temporary (kind_in t) 0) ++ moves ps (In (Temporary (kind_in t) 0))) ≤ 4 * size t + length ps
kept_sets ps t =
    let x = In (Temporary (kind_in t) 0) in
    omega (arith, length-append (code_of 1 t (Temporary (kind_in t) 0)) (moves ps x), moves_long ps x, value_few t)

sets_few : (ps : List Place) (t : Term) (o : Option Operand) → length (sets ps t o) ≤ 4 * size t + length ps
sets_few (p ∷ []) t o = omega (arith, (term_few t).value 0 (spot_of p))
sets_few [] (Literal t v) (Some x) = omega arith
sets_few [] (Literal t v) None = kept_sets [] (Literal t v)
sets_few [] t o = kept_sets [] t
sets_few (p ∷ q ∷ ps) (Literal t v) (Some x) = omega (arith, moves_long ps x)
sets_few (p ∷ q ∷ ps) (Literal t v) None = kept_sets (p ∷ q ∷ ps) (Literal t v)
sets_few (p ∷ q ∷ ps) t o = kept_sets (p ∷ q ∷ ps) t

declared_few : (types : List Ty) (e : Option typed.Expr) → size (declared_value types e) ≤ suc (2 * optional_nodes e)
declared_few types None = omega arith
declared_few types (Some e) = omega (arith, expr_size e)

-- ---- statements

either_few : (t : Term) (a b : List Inst) → length (either t a b) ≤ 4 * size t + (length a + suc (length b))
either_few t a [] =
    omega (arith, length-append (branches false 0 t (length a)) a, (term_few t).branches false 0 (length a))
either_few t a (i ∷ is) =
    let n = suc (length a) in
    omega (
      arith,
      length-append (branches false 0 t n ++ a) (Jump (length (i ∷ is)) ∷ i ∷ is),
      length-append (branches false 0 t n) a,
      (term_few t).branches false 0 n,
    )

while_few : (c : Option typed.Expr) (next body : List Inst) → length (while_loop c next body) ≤ 8 * optional_nodes c + suc
    (length next + length body)
while_few c next body =
    let n = suc (length body + length next) in
    let test = condition c n in
    omega (
      arith,
      length-append (test ++ body ++ next) (Back (length test + length body + length next) ∷ []),
      length-append (test ++ body) next,
      length-append test body,
      condition_few c n,
    )

do_few : (c : Option typed.Expr) (body : List Inst) → length (do_loop (condition c 1) body) ≤ 8 * optional_nodes c + suc (length body)
do_few c body =
    let test = condition c 1 in
    omega (arith, length-append (body ++ test) (Back (length body + length test) ∷ []), length-append body test, condition_few c 1)

module _ (types : List Ty) where
  mutual
    stmt_few : (s : typed.Stmt) (bs : List Around) → length (stmt_code types bs s) ≤ 8 * stmt_nodes s
    stmt_few (typed.Block ss) bs = omega (arith, stmts_few ss bs)
    stmt_few (typed.Declare xs e) bs =
        let t = declared_value types e in
        omega (arith, sets_few (map (local types) xs) t (leaf t), length-map xs (local types), declared_few types e)
    stmt_few (typed.Eval e) bs = omega (arith, done_few e)
    stmt_few (typed.If c ss others) bs =
        let b = stmts_code types bs others in
        let around = further (passed b) bs in
        let a = stmts_code types around ss in
        omega (arith, either_few (term_of c) a b, stmts_few ss around, stmts_few others bs, expr_size c)
    stmt_few (typed.While c ss) bs =
        omega (arith, while_few c [] (stmts_code types (inside [] bs) ss), stmts_few ss (inside [] bs))
    stmt_few (typed.Do ss c) bs =
        let around = inside (condition c 1) bs in
        omega (arith, do_few c (stmts_code types around ss), stmts_few ss around)
    stmt_few (typed.For first c n ss) bs =
        let around = inside (optional n) bs in
        let body = stmts_code types around ss in
        omega (
          arith,
          length-append (optional first) (while_loop c (optional n) body),
          while_few c (optional n) body,
          stmts_few ss around,
          optional_few first,
          optional_few n,
        )
    stmt_few (typed.Return e) bs = omega (arith, returned_few e)
    stmt_few s bs = omega arith

    stmts_few : (ss : typed.Stmts) (bs : List Around) → length (stmts_code types bs ss) ≤ 8 * stmts_nodes ss
    stmts_few typed.NoStmts bs = omega arith
    stmts_few (typed.MoreStmts s ss) bs =
        let rest = stmts_code types bs ss in
        let around = further (length rest) bs in
        omega (arith, length-append (stmt_code types around s) rest, stmt_few s around, stmts_few ss bs)

functions_few : (fs : List Function) → instructions (map function_code fs) ≤ 8 * functions_nodes fs
functions_few [] = omega arith
functions_few (f ∷ fs) =
    let types = map (λ v. v.ty) f.variables in
    omega (arith, length-append (stmts_code types [] f.body) (Leave ∷ []), stmts_few types f.body [], functions_few fs)

pub module_few : (m : Module) → instructions (module_code m).functions ≤ 8 * nodes m
module_few m = omega (arith, functions_few m.functions)
