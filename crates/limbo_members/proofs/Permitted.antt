-- Types in a row, as they are written.
use Rattle.std.proofs.Common.{◌≡◌, ◌<◌, ◌+◌, ◌++◌, ◌∷◌, [], ℕ, zero, suc, List, Option, Some, length, map, take, get_or, sym, ap, subst}
use Rattle.std.proofs.Common.{◌∙◌, append_assoc, arith}
use Rattle.std.proofs.lemmas.List.{map_more, map-append, append-nil}
use Rattle.limbo_tree.specs.Types as written
use Rattle.limbo_tree.specs.Decls as decls
use Rattle.limbo_tree.specs.declared.decl.Param as code_param
use Rattle.limbo_tree.specs.View.{view_param}
use Rattle.limbo_types.specs.declared.ty.Ty as code_ty
use Rattle.limbo_types.specs.Types.{Ty}
use Rattle.limbo_types.specs.View.{view_ty}
use Rattle.limbo_allowed.specs.Allowed.{IsUserModule}
use Rattle.limbo_refusals.specs.Refusals.{ModuleValue}
use Rattle.limbo_causes.specs.declared.fault.Cause as code
use Rattle.limbo_causes.specs.Causes.{Cause, Refused, FailsBy}
use Rattle.limbo_causes.proofs.Telling.{fails_weaker}
use Rattle.limbo_context.specs.Context.{Context, Body}
use Rattle.limbo_written.specs.Written.{MeansPermitted, FailsAsType}
use Rattle.limbo_locals.specs.limbo_local.Local.{argument_types, ArePermitted}
use Rattle.limbo_locals.specs.limbo_local.Failing as failing
use Rattle.limbo_locals.specs.limbo_local.Failing.{FailsTypes, FailsHeader}
use Rattle.limbo_members.specs.Written as rules
use Rattle.limbo_members.specs.Written.{of_each, FailsAnswer}

module _ (c : Context) (b : Body) where
  pub permitted_push : (ts : List written.Ty) (us : List Ty) (t : written.Ty) (u : Ty) → ArePermitted c b ts us → MeansPermitted c b t u
      → ArePermitted c b (ts ++ t ∷ []) (us ++ u ∷ [])
  permitted_push [] [] t u h m = (m, tt)
  permitted_push [] (v ∷ vs) t u h m = absurd h
  permitted_push (s ∷ ss) [] t u h m = absurd h
  permitted_push (s ∷ ss) (v ∷ vs) t u h m = (h.0, permitted_push ss vs t u h.1 m)

  pub of_each_more : (names : List (Option (List ℕ))) (t : written.Ty) (ts : List written.Ty) (us : List Ty) (i : ℕ) → i < length names
      → ArePermitted c b ((ts ++ of_each (take i names) t) ++ t ∷ []) us → ArePermitted c b (ts ++ of_each (take (i + 1) names) t) us
  of_each_more [] t ts us i l h = absurd (omega arith)
  of_each_more (n ∷ ns) t ts us i l h =
      subst (λ (zs : List written.Ty). ArePermitted c b zs us)
      (append_assoc ts (of_each (take i (n ∷ ns)) t) (t ∷ []) ∙ ap (λ (zs : List written.Ty). ts ++ zs) (sym (each_more (n ∷ ns) i l))) h
    where
      each_more : (names : List (Option (List ℕ))) (i : ℕ) → i < length names
          → of_each (take (i + 1) names) t ≡ of_each (take i names) t ++ t ∷ []
      each_more [] i l = absurd (omega arith)
      each_more (m ∷ ms) i l = map_more (λ n. t) (m ∷ ms) i m l

  pub each_fails : (names : List (Option (List ℕ))) (t : written.Ty) (i : ℕ) (f : code.Cause) → i < length names
      → FailsBy f (FailsAsType c b t) → FailsBy f (FailsTypes c b (of_each names t))
  each_fails [] t i f l h = absurd (omega arith)
  each_fails (n ∷ ns) t i f l h = fails_weaker f _ _ (λ k x. failing.this_type t (of_each ns t) k x) h

  fails_front : (ts more : List written.Ty) (k : Cause) → FailsTypes c b ts k → FailsTypes c b (ts ++ more) k
  fails_front _ more _ (failing.this_type t ts k f) = failing.this_type t (ts ++ more) k f
  fails_front _ more _ (failing.later_type t ts k f) = failing.later_type t (ts ++ more) k (fails_front ts more k f)

  fails_behind : (ts more : List written.Ty) (k : Cause) → FailsTypes c b more k → FailsTypes c b (ts ++ more) k
  fails_behind [] more k f = f
  fails_behind (t ∷ ts) more k f = failing.later_type t (ts ++ more) k (fails_behind ts more k f)

  param_fails : (ps : List decls.Param) (i : ℕ) (p : decls.Param) (k : Cause) → i < length ps → p ≡ get_or ps i p
      → FailsTypes c b (of_each p.names p.of) k → FailsTypes c b (argument_types ps) k
  param_fails [] i p k l e f = absurd (omega arith)
  param_fails (q ∷ qs) zero p k l e f =
      fails_front (of_each q.names q.of) (argument_types qs) k
      (subst (λ (z : decls.Param). FailsTypes c b (of_each z.names z.of) k) e f)
  param_fails (q ∷ qs) (suc i) p k l e f =
      fails_behind (of_each q.names q.of) (argument_types qs) k (param_fails qs i p k (omega arith) e f)

  pub some_param_fails : (ps : List decls.Param) (i : ℕ) (p : decls.Param) (f : code.Cause) → i < length ps → p ≡ get_or ps i p
      → FailsBy f (FailsTypes c b (of_each p.names p.of)) → FailsBy f (FailsTypes c b (argument_types ps))
  some_param_fails ps i p f l e h = fails_weaker f _ _ (λ k x. param_fails ps i p k l e x) h

  -- ---- the answer

  pub answer_fails : (of : Option written.Ty) (t : written.Ty) (f : code.Cause) → of ≡ Some t → FailsBy f (FailsAsType c b t)
      → FailsBy f (FailsAnswer c b of)
  answer_fails of t f is h = fails_weaker f _ _ (λ k x. rules.its_type t k is x) h

  pub answer_refused : (of : Option written.Ty) (t : written.Ty) (u : Ty) (f : code.Cause) → of ≡ Some t → MeansPermitted c b t u
      → FailsBy f (λ k. (k ≡ Refused ModuleValue) × IsUserModule c.system u) → FailsBy f (FailsAnswer c b of)
  answer_refused of t u f is m h =
      fails_weaker f _ _ (λ k x. subst (FailsAnswer c b of) (sym x.0) (rules.a_module t u is m x.1)) h

  -- ---- the whole

  pub arguments_fail : (f : decls.FnType) (g : code.Cause) → FailsBy g (FailsTypes c b (argument_types f.params))
      → FailsBy g (FailsHeader c b f)
  arguments_fail f g h = fails_weaker g _ _ (λ k x. failing.an_argument k x) h

  of_answer : (f : decls.FnType) (k : Cause) → FailsAnswer c b f.answer k → FailsHeader c b f k
  of_answer f _ (rules.its_type t k is x) = failing.the_answer t k is x
  of_answer f _ (rules.a_module t u is m x) = failing.a_module t u is m x

  pub the_answer_fails : (f : decls.FnType) (g : code.Cause) → FailsBy g (FailsAnswer c b f.answer) → FailsBy g (FailsHeader c b f)
  the_answer_fails f g h = fails_weaker g _ _ (λ k x. of_answer f k x) h

-- the types of the first parameters, and of one more
pub one_more_param : (ps : List decls.Param) (p : decls.Param)
    → argument_types (ps ++ p ∷ []) ≡ argument_types ps ++ of_each p.names p.of
one_more_param [] p = append-nil (of_each p.names p.of)
one_more_param (q ∷ qs) p =
    ap (λ (zs : List written.Ty). of_each q.names q.of ++ zs) (one_more_param qs p)
    ∙ sym (append_assoc (of_each q.names q.of) (argument_types qs) (of_each p.names p.of))

-- one more type of the code
pub pushed_types : (old now : List code_ty.Ty) (v : code_ty.Ty) (u : Ty) → now ≡ old ++ v ∷ [] → view_ty v ≡ u
    → map view_ty now ≡ map view_ty old ++ u ∷ []
pushed_types old now v u p q =
    ap (map view_ty) p ∙ map-append view_ty old (v ∷ []) ∙ ap (λ (w : Ty). map view_ty old ++ w ∷ []) q

pub next_param : (ps : List code_param.Param) (i : ℕ) (p : code_param.Param) → i < length ps → p ≡ get_or ps i p
    → argument_types (map view_param (take (i + 1) ps))
    ≡ argument_types (map view_param (take i ps)) ++ of_each (view_param p).names (view_param p).of
next_param ps i p l is =
    ap argument_types (map_more view_param ps i p l
    ∙ ap (λ (z : code_param.Param). map view_param (take i ps) ++ view_param z ∷ []) (sym is))
    ∙ one_more_param (map view_param (take i ps)) (view_param p)

pub param_at : (ps : List code_param.Param) (i : ℕ) (p : code_param.Param) → i < length ps → p ≡ get_or ps i p
    → view_param p ≡ get_or (map view_param ps) i (view_param p)
param_at [] i p l is = absurd (omega arith)
param_at (q ∷ qs) zero p l is = ap view_param is
param_at (q ∷ qs) (suc i) p l is = param_at qs i p (omega arith) is
