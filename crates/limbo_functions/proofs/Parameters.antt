-- Parameters that are declared one after the other, and all together.
use Rattle.std.proofs.Common.{◌≡◌, ℕ, suc, List, [], ◌∷◌, ◌++◌, length, map, Option, None, Some, refl, sym, ap, ◌∙◌, append_assoc, arith}
use Rattle.std.proofs.lemmas.List.{append-nil}
use Rattle.limbo_tree.specs.Types as written
use Rattle.limbo_tree.specs.Decls as decls
use Rattle.limbo_types.specs.Types.{Ty, FnTy}
use Rattle.limbo_typed.specs.Typed.{Var}
use Rattle.limbo_scope.specs.declared.meaning.Meaning.TheVariants as meaning
use Rattle.limbo_scope.specs.Scopes.{Scope, entered, declared}
use Rattle.limbo_scope.specs.Laws.{declared_all}
use Rattle.limbo_context.specs.Context.{Context, Body}
use Rattle.limbo_stmt_values.specs.limbo_local.Points.{Point}
use Rattle.limbo_stmt_values.specs.limbo_local.Local.{argument_types, ArePermitted, IsHeader}
use Rattle.limbo_bodies.specs.Bodies as bodies
use Rattle.limbo_bodies.specs.Bodies.{with_parameter, with_parameters, begun}
use Rattle.limbo_stmt_values.specs.limbo_stating.Functions.{Definition, parameter_names, parameter_meanings, parameters, outside, begins}

same_names : (ps : List decls.Param) → bodies.parameter_names ps ≡ parameter_names ps
same_names [] = refl
same_names (p ∷ ps) = ap (λ (ns : List (Option (List ℕ))). p.names ++ ns) (same_names ps)

-- ---- as many types as names

as_many_names : (ps : List decls.Param) → length (argument_types ps) ≡ length (parameter_names ps)
as_many_names [] = refl
as_many_names (p ∷ ps) = one_more p.of p.names (argument_types ps) (parameter_names ps) (as_many_names ps)
  where
    one_more : (t : written.Ty) (ns : List (Option (List ℕ))) (ts : List written.Ty) (os : List (Option (List ℕ))) → length ts ≡ length os
        → length (map (λ n. t) ns ++ ts) ≡ length (ns ++ os)
    one_more t [] ts os e = e
    one_more t (n ∷ ns) ts os e = ap suc (one_more t ns ts os e)

as_many_types : (c : Context) (b : Body) (ts : List written.Ty) (us : List Ty) → ArePermitted c b ts us → length us ≡ length ts
as_many_types c b [] [] h = refl
as_many_types c b [] (u ∷ us) h = absurd h
as_many_types c b (t ∷ ts) [] h = absurd h
as_many_types c b (t ∷ ts) (u ∷ us) h = ap suc (as_many_types c b ts us h.1)

-- ---- all together

longer : (vs : List Var) (v : Var) → length (vs ++ v ∷ []) ≡ suc (length vs)
longer [] v = refl
longer (w ∷ vs) v = ap suc (longer vs v)

abbrev with_variables : List Scope → List Var → Body
with_variables scopes vs = record { scopes = scopes; variables = vs }

abbrev all_in : List Scope → List Var → ℕ → List (Option (List ℕ)) → List Ty → Body
all_in scopes vs k ns ts = with_variables (declared_all (parameter_meanings k ns) scopes) (vs ++ parameters ns ts)

further : (scopes : List Scope) (vs : List Var) (v : Var) (ns : List (Option (List ℕ))) (ts : List Ty)
    → all_in scopes (vs ++ v ∷ []) (length (vs ++ v ∷ [])) ns ts
    ≡ with_variables (declared_all (parameter_meanings (suc (length vs)) ns) scopes) (vs ++ v ∷ parameters ns ts)
further scopes vs v ns ts =
    ap (λ (k : ℕ). all_in scopes (vs ++ v ∷ []) k ns ts) (longer vs v)
    ∙ ap (with_variables (declared_all (parameter_meanings (suc (length vs)) ns) scopes)) (append_assoc vs (v ∷ []) (parameters ns ts))

declared_together : (ns : List (Option (List ℕ))) (ts : List Ty) (scopes : List Scope) (vs : List Var) → length ts ≡ length ns
    → with_parameters ns ts (with_variables scopes vs) ≡ all_in scopes vs (length vs) ns ts
declared_together [] ts scopes vs e =
    ap (with_variables scopes) (sym (append-nil vs))
declared_together (n ∷ ns) [] scopes vs e = absurd (omega arith)
declared_together (None ∷ ns) (t ∷ ts) scopes vs e =
    let v : Var = record { name = []; ty = t } in
    declared_together ns ts scopes (vs ++ v ∷ []) (omega arith) ∙ further scopes vs v ns ts
declared_together (Some n ∷ ns) (t ∷ ts) scopes vs e =
    let v : Var = record { name = n; ty = t } in
    let inner : List Scope = declared n (meaning.Variable (length vs)) scopes in
    declared_together ns ts inner (vs ++ v ∷ []) (omega arith) ∙ further inner vs v ns ts

-- ---- where a function begins

module _ (c : Context) (scopes : List Scope) (d : Definition) (of : FnTy) (h : IsHeader c (outside scopes) d.of of) where
  begun_so : begun scopes d.of.params of ≡ (begins c scopes d of).body
  begun_so =
      let ns = parameter_names d.of.params in
      let e = as_many_types c (outside scopes) (argument_types d.of.params) of.args h.args ∙ as_many_names d.of.params in
      ap (λ (os : List (Option (List ℕ))). with_parameters os of.args (with_variables (entered scopes) [])) (same_names d.of.params)
      ∙ declared_together ns of.args (entered scopes) [] e

  pub begins_here : (b : Body) (n : ℕ) (at : List Scope) → n ≡ 0 → at ≡ scopes → b ≡ begun at d.of.params of
      → record { context = c; body = b; catches = n } ≡ begins c scopes d of
  begins_here b n at z s e =
      ap (λ (x : Body). let p : Point = record { context = c; body = x; catches = n } in p)
      (e ∙ ap (λ (x : List Scope). begun x d.of.params of) s ∙ begun_so)
      ∙ ap (λ (x : ℕ). let p : Point = record { context = c; body = (begins c scopes d of).body; catches = x } in p) z
