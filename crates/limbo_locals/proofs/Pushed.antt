-- Variables of the first names, so many.
use Rattle.std.proofs.Common.{◌≡◌, ◌≤◌, ◌<◌, ◌+◌, ◌++◌, ◌∷◌, [], ℕ, zero, suc, List, map, length, take, get_or, refl, sym, ap, subst, ◌∙◌}
use Rattle.std.proofs.Common.{arith}
use Rattle.std.proofs.lemmas.List.{take_more, take_all, map-append, append_assoc, append-nil}
use Rattle.limbo_types.specs.declared.ty.Ty as code_ty
use Rattle.limbo_types.specs.Types.{Ty}
use Rattle.limbo_types.specs.View.{view_ty}
use Rattle.limbo_tree.specs.declared.name.Name as code_name
use Rattle.limbo_tree.specs.View.{view_name, names_of}
use Rattle.limbo_typed.specs.declared.module.TVar as code_var
use Rattle.limbo_typed.specs.Typed.{Var}
use Rattle.limbo_typed.specs.View.{view_var}
use Rattle.limbo_local.specs.Points.{numbers}
use Rattle.limbo_locals.specs.Named.{variables_of, types_of}

abbrev pub first : ℕ → List code_name.Name → List (List ℕ)
first i names = names_of (take i names)

pub one_first : (names : List code_name.Name) (i : ℕ) (x : code_name.Name) → x ≡ get_or names i x → i < length names
    → first (i + 1) names ≡ first i names ++ x.text ∷ []
one_first names i x is l =
    ap names_of (take_more names i x l ∙ ap (λ (z : code_name.Name). take i names ++ z ∷ []) (sym is)) ∙ map-append view_name (take i
    names) (x ∷ [])

one_number : (n : ℕ) (names : List (List ℕ)) (m : List ℕ) → numbers n (names ++ m ∷ []) ≡ numbers n names ++ (n + length names) ∷ []
one_number n [] m = ap (λ (k : ℕ). k ∷ []) (omega arith)
one_number n (x ∷ xs) m =
    ap (λ (ks : List ℕ). n ∷ ks) (one_number (suc n) xs m ∙ ap (λ (k : ℕ). numbers (suc n) xs ++ k ∷ []) (omega arith))

pub record Pushed (old now : List code_var.TVar) (pushed : List ℕ) (names : List code_name.Name) (t : Ty) (i : ℕ) : Type 0 where
  pub variables : map view_var now ≡ map view_var old ++ variables_of (first i names) t
  pub numbered : pushed ≡ numbers (length old) (first i names)
  pub many : length now ≡ length old + i

pub pushed_start : (old : List code_var.TVar) (names : List code_name.Name) (t : Ty) → Pushed old old [] names t 0
pushed_start old names t = record {
  variables = sym (append-nil (map view_var old));
  numbered = refl;
  many = omega arith;
}

length_first : (names : List code_name.Name) (i : ℕ) → i ≤ length names → length (first i names) ≡ i
length_first names zero l = refl
length_first [] (suc i) l = absurd (omega arith)
length_first (x ∷ xs) (suc i) l = ap suc (length_first xs i (omega arith))

length_more : (vs : List code_var.TVar) (v : code_var.TVar) → length (vs ++ v ∷ []) ≡ length vs + 1
length_more [] v = refl
length_more (x ∷ xs) v = let r : length (xs ++ v ∷ []) ≡ length xs + 1 = length_more xs v in omega arith

pub pushed_more : (old now : List code_var.TVar) (pushed : List ℕ) (names : List code_name.Name) (t : Ty) (i : ℕ) (x : code_name.Name)
    (v : code_var.TVar) (k : ℕ) → x ≡ get_or names i x → i < length names → view_var v ≡ record { name = x.text; ty = t } → k ≡ length now
    → Pushed old now pushed names t i → Pushed old (now ++ v ∷ []) (pushed ++ k ∷ []) names t (i + 1)
pushed_more old now pushed names t i x v k is l viewed counted h =
    let len : length (first i names) ≡ i = length_first names i (omega arith) in
    let number : k ≡ length old + length (first i names) = counted ∙ h.many ∙ ap (λ (z : ℕ). length old + z) (sym len) in
    let one : Var = record { name = x.text; ty = t } in
    record {
      variables =
          map-append view_var now (v ∷ []) ∙ ap (λ (w : Var). map view_var now ++ w ∷ []) viewed
          ∙ ap (λ (vs : List Var). vs ++ one ∷ []) h.variables
          ∙ append_assoc (map view_var old) (variables_of (first i names) t) (one ∷ [])
          ∙ ap (λ (vs : List Var). map view_var old ++ vs)
          (sym (map-append (λ (n : List ℕ). let w : Var = record { name = n; ty = t } in w) (first i names) (x.text ∷ []))
          ∙ ap (λ (ns : List (List ℕ)). variables_of ns t) (sym (one_first names i x is l)));
      numbered =
          ap (λ (ks : List ℕ). ks ++ k ∷ []) h.numbered
          ∙ ap (λ (z : ℕ). numbers (length old) (first i names) ++ z ∷ []) number
          ∙ sym (one_number (length old) (first i names) x.text)
          ∙ ap (λ (ns : List (List ℕ)). numbers (length old) ns) (sym (one_first names i x is l));
      many = let m : length now ≡ length old + i = h.many in let n : length (now ++ v ∷ []) ≡ length now + 1 = length_more now v in omega
          arith;
    }

pub all_first : (names : List code_name.Name) (i : ℕ) → length names ≤ i → first i names ≡ names_of names
all_first names i l = ap names_of (take_all i names l)

pub viewed_as : (v : code_var.TVar) (name : List ℕ) (t : Ty) → v.name ≡ name → view_ty v.ty ≡ t → view_var v ≡ record {
  name = name;
  ty =
      t;
}
viewed_as v name t p q =
    ap (λ (n : List ℕ). let w : Var = record { name = n; ty = view_ty v.ty } in w) p
    ∙ ap (λ (u : Ty). let w : Var = record { name = name; ty = u } in w) q

pub pushed_on : (old now later : List code_var.TVar) (pushed behind : List ℕ) (names : List code_name.Name) (t : Ty) (i : ℕ)
    (x : code_name.Name) (v : code_var.TVar) (k : ℕ) → later ≡ now ++ v ∷ [] → behind ≡ pushed ++ k ∷ [] → x ≡ get_or names i x
    → i < length names → v.name ≡ x.text → view_ty v.ty ≡ t → k ≡ length now → Pushed old now pushed names t i
    → Pushed old later behind names t (i + 1)
pushed_on old now later pushed behind names t i x v k p q is l named typed counted h =
    subst (λ (zs : List code_var.TVar). Pushed old zs behind names t (i + 1)) (sym p)
    (subst (λ (ks : List ℕ). Pushed old (now ++ v ∷ []) ks names t (i + 1)) (sym q)
    (pushed_more old now pushed names t i x v k is l (viewed_as v x.text t named typed) counted h))

-- a type once more for each of the first names
pub one_type_more : (old now later : List code_ty.Ty) (names : List code_name.Name) (t : Ty) (i : ℕ) (x : code_name.Name) (u : code_ty.Ty)
    → later ≡ now ++ u ∷ [] → view_ty u ≡ t → x ≡ get_or names i x → i < length names
    → map view_ty now ≡ map view_ty old ++ types_of (first i names) t
    → map view_ty later ≡ map view_ty old ++ types_of (first (i + 1) names) t
one_type_more old now later names t i x u p q is l h =
    ap (map view_ty) p ∙ map-append view_ty now (u ∷ []) ∙ ap (λ (w : Ty). map view_ty now ++ w ∷ []) q
    ∙ ap (λ (ts : List Ty). ts ++ t ∷ []) h
    ∙ append_assoc (map view_ty old) (types_of (first i names) t) (t ∷ [])
    ∙ ap (λ (ts : List Ty). map view_ty old ++ ts)
    (sym (map-append (λ (n : List ℕ). t) (first i names) (x.text ∷ [])) ∙ ap (λ (ns : List (List ℕ)). types_of ns t) (sym (one_first names
    i x is l)))
