-- Types in a row.
use Rattle.std.proofs.Common.{◌≡◌, ◌<◌, ◌+◌, ◌++◌, ◌∷◌, [], ℕ, List, Option, length, map, take, get_or, refl, sym, ap, subst, ◌∙◌, append_assoc}
use Rattle.std.proofs.lemmas.List.{append-nil, map_more, map-append}
use Rattle.limbo_tree.specs.declared.decl.Param as code_param
use Rattle.limbo_tree.specs.declared.name.Name as code_name
use Rattle.limbo_tree.specs.Types as tree
use Rattle.limbo_tree.specs.Decls as decls
use Rattle.limbo_tree.specs.View as view
use Rattle.limbo_tree.specs.View.{view_type, view_param, name_of}
use Rattle.limbo_types.specs.declared.ty.Ty as code_ty
use Rattle.limbo_types.specs.Types as ty
use Rattle.limbo_types.specs.Types.{Ty, Tys}
use Rattle.limbo_types.specs.View.{view_ty, tys_of}
use Rattle.limbo_entries.specs.Entries.{Entry}
use Rattle.limbo_type_names.specs.Means.{Means, AllMean, no_more, and_more}
use Rattle.limbo_headers.specs.Headers.{each_name, argument_types}

-- ---- once for each name

each_push : {A B : Type 0} → (ns : List A) (n : A) (t : B) → each_name (ns ++ (n ∷ [])) t ≡ each_name ns t ++ (t ∷ [])
each_push [] n t = refl
each_push (x ∷ ns) n t = ap (λ ts. t ∷ ts) (each_push ns n t)

pub each_more : {B : Type 0} → (names : List (Option code_name.Name)) (i : ℕ) (n : Option code_name.Name) (t : B) → i < length names
    → each_name (map name_of (take (i + 1) names)) t ≡ each_name (map name_of (take i names)) t ++ (t ∷ [])
each_more names i n t l = ap (λ ns. each_name ns t) (map_more name_of names i n l) ∙ each_push (map name_of (take i names)) (name_of (get_or names i n)) t

arguments_push : (ps : List decls.Param) (p : decls.Param) → argument_types (ps ++ (p ∷ [])) ≡ argument_types ps ++ each_name p.names p.of
arguments_push [] p = append-nil (each_name p.names p.of)
arguments_push (q ∷ ps) p =
    ap (λ ts. each_name q.names q.of ++ ts) (arguments_push ps p) ∙ sym (append_assoc (each_name q.names q.of) (argument_types ps) (each_name p.names p.of))

-- ---- what they mean

module _ (es : List Entry) (m : ℕ) (scope : Option ℕ) where
  split : (t : tree.Ty) (u : Ty) (ts : tree.Tys) (us : Tys) → AllMean es m scope (tree.MoreTys t ts) (ty.MoreTys u us)
      → Means es m scope t u × AllMean es m scope ts us
  split _ _ _ _ (and_more _ t ts u us a b) = (a, b)

  mean_append : (ts more : List tree.Ty) (us others : List Ty) → AllMean es m scope (view.tys_of ts) (tys_of us)
      → AllMean es m scope (view.tys_of more) (tys_of others) → AllMean es m scope (view.tys_of (ts ++ more)) (tys_of (us ++ others))
  mean_append [] more [] others a b = b
  mean_append [] more (u ∷ us) others a b = elim a [ ]
  mean_append (t ∷ ts) more [] others a b = elim a [ ]
  mean_append (t ∷ ts) more (u ∷ us) others a b =
      let x = split t u (view.tys_of ts) (tys_of us) a in
      and_more scope t (view.tys_of (ts ++ more)) u (tys_of (us ++ others)) x.0 (mean_append ts more us others x.1 b)

  mean_each : {A : Type 0} → (ns : List A) (t : tree.Ty) (u : Ty) → Means es m scope t u → AllMean es m scope (view.tys_of (each_name ns t)) (tys_of (each_name ns u))
  mean_each [] t u w = no_more scope
  mean_each (n ∷ ns) t u w = and_more scope t (view.tys_of (each_name ns t)) u (tys_of (each_name ns u)) w (mean_each ns t u w)

  pub arguments_more : (params : List code_param.Param) (i : ℕ) (p : code_param.Param) (old new : List code_ty.Ty) (u : Ty) → i < length params → p ≡ get_or params i p
      → AllMean es m scope (view.tys_of (argument_types (map view_param (take i params)))) (tys_of (map view_ty old)) → Means es m scope (view_type p.of.value) u
      → map view_ty new ≡ map view_ty old ++ each_name (map name_of p.names.items) u
      → AllMean es m scope (view.tys_of (argument_types (map view_param (take (i + 1) params)))) (tys_of (map view_ty new))
  arguments_more params i p old new u l e a w is =
      let q = view_param p in
      let x : argument_types (map view_param (take (i + 1) params)) ≡ argument_types (map view_param (take i params)) ++ each_name q.names q.of =
      ap argument_types (map_more view_param params i p l) ∙ arguments_push (map view_param (take i params)) (view_param (get_or params i p))
      ∙ ap (λ z. argument_types (map view_param (take i params)) ++ each_name (view_param z).names (view_param z).of) (sym e) in
      subst (λ (z : List tree.Ty). AllMean es m scope (view.tys_of z) (tys_of (map view_ty new))) (sym x)
      (subst (λ (z : List Ty). AllMean es m scope (view.tys_of (argument_types (map view_param (take i params)) ++ each_name q.names q.of)) (tys_of z)) (sym is)
      (mean_append (argument_types (map view_param (take i params))) (each_name q.names q.of) (map view_ty old) (each_name (map name_of p.names.items) u) a
      (mean_each q.names q.of u w)))

-- one more type for one more name
pub pushed : (initial old new : List code_ty.Ty) (x : code_ty.Ty) (u : Ty) (names : List (Option code_name.Name)) (i : ℕ) (n : Option code_name.Name) → i < length names
    → new ≡ old ++ (x ∷ []) → view_ty x ≡ u → map view_ty old ≡ map view_ty initial ++ each_name (map name_of (take i names)) u
    → map view_ty new ≡ map view_ty initial ++ each_name (map name_of (take (i + 1) names)) u
pushed initial old new x u names i n l e f h =
    ap (map view_ty) e ∙ map-append view_ty old (x ∷ []) ∙ ap (λ z. map view_ty old ++ (z ∷ [])) f ∙ ap (λ zs. zs ++ (u ∷ [])) h
    ∙ append_assoc (map view_ty initial) (each_name (map name_of (take i names)) u) (u ∷ []) ∙ ap (λ zs. map view_ty initial ++ zs) (sym (each_more names i n u l))
