use Rattle.std.proofs.Common.{◌≡◌, ℕ, List, [], ◌∷◌, ◌++◌, None, map, max, refl, ap, ◌∙◌}
use Rattle.limbo_types.specs.Types.{Ty}
use Rattle.limbo_layout.specs.View.{view_defs}
use Rattle.limbo_typed.specs.declared.module.TVar.{TVar}
use Rattle.limbo_typed.specs.declared.stmt.TStmt.{TStmt}
use Rattle.limbo_typed.specs.View.{view_var, view_stmts}
use Rattle.limbo_meaning.specs.Program.{all_before}
use Rattle.limbo_meaning.specs.Trees.{Done}
use Rattle.core_code.specs.Code.{Instr, Return, Function}
use Rattle.core_code.specs.Statements.{block_code, block_slots}
use Rattle.limbo_lower.proofs.lowering.lower_function.Goals as goal

made : (ts us : List Ty) (n m : ℕ) (is js : List Instr) → ts ≡ us → n ≡ m → is ≡ js
    → (let f : Function = record { variables = ts; slots = n; code = is } in f) ≡ record { variables = us; slots = m; code = js }
made ts us n m is js p q r = rw (p, q, r) refl

pub returns : goal.returns
returns c =
    let d = view_defs c.args.extents.now in
    let vs = c.args.f.now.variables.items in
    let ss = c.args.f.now.body.items in
    let body = λ (xs : List TVar) (ys : List TStmt). all_before (map (λ v. v.ty) (map view_var xs)) (view_stmts ys) Done in
    let types = c.in_ok-types_of.ensures {u = tt} ∙ ap (λ (xs : List TVar). map (λ v. v.ty) (map view_var xs)) c.deref-3.ensures.value in
    let told = c.in_ok-code.ensures {u = tt} in
    let slots = told.slots ∙ ap (λ (xs : List TVar). max 1 (block_slots d (body xs c.deref-2.result.now))) c.deref.ensures.value
    ∙ ap (λ (ys : List TStmt). max 1 (block_slots d (body vs ys))) c.deref-2.ensures.value in
    let code = told.code ∙ ap (λ (xs : List TVar). block_code d [] (body xs c.deref-2.result.now) ++ Return None ∷ []) c.deref.ensures.value
    ∙ ap (λ (ys : List TStmt). block_code d [] (body vs ys) ++ Return None ∷ []) c.deref-2.ensures.value in
    made _ _ _ _ _ _ types slots code
