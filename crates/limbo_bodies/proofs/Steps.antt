-- Parameters that are declared one after the other.
use Rattle.std.proofs.Common.{◌≡◌, ◌<◌, ◌≤◌, ◌+◌, ℕ, zero, suc, List, [], ◌∷◌, Option, Some, length, drop, get_or, map, refl, sym, ap}
use Rattle.std.proofs.Common.{subst, ◌∙◌, arith}
use Rattle.std.specs.Borrow.{Bor}
use Rattle.limbo_tree.specs.declared.name.Name as code_name
use Rattle.limbo_types.specs.declared.ty.Ty as code_ty
use Rattle.limbo_types.specs.Types.{Ty}
use Rattle.limbo_types.specs.View.{view_ty}
use Rattle.limbo_declarations.proofs.Apart.{drop_more}
use Rattle.limbo_scope.specs.declared.meaning.Meaning.{Meaning}
use Rattle.limbo_scope.specs.Scopes.{declared_here}
use Rattle.limbo_context.specs.Context.{Body}
use Rattle.limbo_bodies.specs.Bodies.{with_parameter, with_parameters, RepeatsName, this, further}
use Rattle.limbo_bodies.specs.View.{view_parameter, names_seen}

pub without_types : (ns : List (Option (List ℕ))) (b : Body) → with_parameters ns [] b ≡ b
without_types [] b = refl
without_types (n ∷ ns) b = refl

dropped_all : {A : Type 0} → (xs : List A) (i : ℕ) → length xs ≤ i → drop i xs ≡ []
dropped_all [] zero l = refl
dropped_all [] (suc i) l = refl
dropped_all (x ∷ xs) zero l = absurd (omega arith)
dropped_all (x ∷ xs) (suc i) l = dropped_all xs i (omega arith)

pub no_types_left : (ns : List (Option (List ℕ))) (types : List code_ty.Ty) (i : ℕ) (b : Body) → length types ≤ i
    → with_parameters ns (map view_ty (drop i types)) b ≡ b
no_types_left ns types i b l = ap (λ (ts : List code_ty.Ty). with_parameters ns (map view_ty ts) b) (dropped_all types i l) ∙
    without_types ns b

module _ (names : List (Option (Bor code_name.Name))) (types : List code_ty.Ty) (i : ℕ) (name : Option (Bor code_name.Name)) (t :
    code_ty.Ty) (u : Ty) (b : Body)
    (l : i < length names) (k : i < length types) (n : name ≡ get_or names i name) (y : t ≡ get_or types i t) (s : u ≡ view_ty t) where
  names_are : names_seen (drop i names) ≡ view_parameter name ∷ names_seen (drop (i + 1) names)
  names_are = drop_more view_parameter i names name l n

  types_are : map view_ty (drop i types) ≡ u ∷ map view_ty (drop (i + 1) types)
  types_are = drop_more view_ty i types t k y ∙ ap (λ z. z ∷ map view_ty (drop (i + 1) types)) (sym s)

  pub next : with_parameters (names_seen (drop i names)) (map view_ty (drop i types)) b
      ≡ with_parameters (names_seen (drop (i + 1) names)) (map view_ty (drop (i + 1) types)) (with_parameter (view_parameter name) u b)
  next = ap (λ ns. with_parameters ns (map view_ty (drop i types)) b) names_are
      ∙ ap (λ ts. with_parameters (view_parameter name ∷ names_seen (drop (i + 1) names)) ts b) types_are

  pub repeats_further : RepeatsName (names_seen (drop (i + 1) names)) (map view_ty (drop (i + 1) types)) (with_parameter (view_parameter
      name) u b)
      → RepeatsName (names_seen (drop i names)) (map view_ty (drop i types)) b
  repeats_further r =
      subst (λ ns. RepeatsName ns (map view_ty (drop i types)) b) (sym names_are)
      (subst (λ ts. RepeatsName (view_parameter name ∷ names_seen (drop (i + 1) names)) ts b) (sym types_are)
      (further (view_parameter name) (names_seen (drop (i + 1) names)) u (map view_ty (drop (i + 1) types)) b r))

  pub repeats_this : (text : List ℕ) (x : Meaning) → view_parameter name ≡ Some text → declared_here text b.scopes ≡ Some x
      → RepeatsName (names_seen (drop i names)) (map view_ty (drop i types)) b
  repeats_this text x h d =
      subst (λ ns. RepeatsName ns (map view_ty (drop i types)) b) (sym (names_are ∙ ap (λ z. z ∷ names_seen (drop (i + 1) names)) h))
      (subst (λ ts. RepeatsName (Some text ∷ names_seen (drop (i + 1) names)) ts b) (sym types_are)
      (this text (names_seen (drop (i + 1) names)) u (map view_ty (drop (i + 1) types)) b x d))
