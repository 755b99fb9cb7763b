-- Variables as the places of an assignment.
use Rattle.std.proofs.Common.{◌≡◌, ℕ, zero, suc, ◌<◌, ◌≤◌, ◌+◌, List, [], ◌∷◌, ◌++◌, map, drop, length, get_or, refl, sym, ap, ◌∙◌, arith}
use Rattle.std.proofs.Common.{add-one, append_assoc}
use Rattle.std.proofs.Math.Seq.{drop-cons}
use Rattle.std.proofs.lemmas.List.{map-append, append-nil}
use Rattle.limbo_types.specs.Types.{Ty, Int}
use Rattle.limbo_types.specs.View.{view_ty}
use Rattle.limbo_layout.specs.Adts.{Def}
use Rattle.limbo_typed.specs.declared.module.TVar as code_var
use Rattle.limbo_typed.specs.View.{view_var}
use Rattle.limbo_meaning.specs.Trees.{Aim, Assign, Node, Term}
use Rattle.limbo_meaning.specs.Program.{local, only_term}
use Rattle.core_code.specs.Terms.{Lowered, LoweredAll, lower, node}
use Rattle.core_frames.specs.Sizes.{types_in}
use Rattle.core_parts.specs.Lowered.{none_from, added}
use Rattle.core_parts.specs.declared.aims.Aim as code_aim
use Rattle.core_parts.specs.Aims.{view_aim}

pub type_there : (vs : List code_var.TVar) (n : ℕ) (v : code_var.TVar) → n < length vs → v ≡ get_or vs n v
    → view_ty v.ty ≡ get_or (types_in (map view_var vs)) n Int
type_there [] n v below at = absurd (omega (arith, below))
type_there (u ∷ vs) zero v below at = ap (λ (x : code_var.TVar). view_ty x.ty) at
type_there (u ∷ vs) (suc n) v below at = type_there vs n v (omega arith) at

pub type_none : (vs : List code_var.TVar) (n : ℕ) → length vs ≤ n → Int ≡ get_or (types_in (map view_var vs)) n Int
type_none [] zero h = refl
type_none [] (suc n) h = refl
type_none (u ∷ vs) zero h = absurd (omega (arith, h))
type_none (u ∷ vs) (suc n) h = type_none vs n (omega arith)

pub aims_on : (types : List Ty) (ns : List ℕ) (i n : ℕ) (aims next : List code_aim.Aim) (a : code_aim.Aim) → i < length ns
    → n ≡ get_or ns i n → next ≡ aims ++ a ∷ [] → view_aim a ≡ local types n
    → map view_aim next ++ map (local types) (drop (i + 1) ns) ≡ map view_aim aims ++ map (local types) (drop i ns)
aims_on types ns i n aims next a below at e ea =
    let d = drop-cons ns i n below ∙ ap (λ x. x ∷ drop (suc i) ns) (sym at) ∙ ap (λ k. n ∷ drop k ns) (sym (add-one i)) in
    let left = map (local types) (drop (i + 1) ns) in
    rw (e, d) (ap (λ xs. xs ++ left) (map-append view_aim aims (a ∷ [])) ∙ append_assoc (map view_aim aims) (view_aim a ∷ []) left
    ∙ ap (λ (x : Aim). map view_aim aims ++ x ∷ left) ea)

pub declared_is : (defs : List Def) (aims : List Aim) (v : Term) (a l : Lowered) (all : LoweredAll) → a ≡ lower defs 0 v
    → all ≡ added (none_from 0) a → l ≡ node defs [] Int (Assign aims) all
    → l ≡ lower defs 0 (Node Int (Assign aims) (only_term v))
declared_is defs aims v a l all ea eall el =
    rw (el, eall, ea, append-nil (lower defs 0 v).code, append-nil (lower defs 0 v).drops) refl
