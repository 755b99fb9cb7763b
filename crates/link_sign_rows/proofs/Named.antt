-- Types in a row that name something.
use Rattle.std.proofs.Common.{◌≡◌, ℕ, suc, zero, ◌+◌, ◌<◌, ◌≤◌, ◌⊎◌, inl, inr, List, [], ◌∷◌, ◌++◌, length, map, take, get_or, Some, refl, sym, ap, ◌∙◌, subst, arith, append_assoc}
use Rattle.std.proofs.lemmas.List.{take_more, map_push, append-nil, length-map, get_or-map}
use Rattle.std.proofs.lemmas.Bool.Decides.{nat_tests}
use Rattle.std.proofs.lemmas.Bool.{cases_lt}
use Rattle.std.specs.Prelude.{slice_get, IsTrue, nat_lt}
use Rattle.limbo_types.specs.declared.ty.Ty as code_ty
use Rattle.limbo_types.specs.Types.{Ty}
use Rattle.limbo_types.specs.View.{view_ty, view_tys, tys_of}
use Rattle.limbo_layout.specs.declared.def.Field as code_field
use Rattle.limbo_layout.specs.declared.def.Variant as code_variant
use Rattle.limbo_layout.specs.declared.def.AdtDef as code_def
use Rattle.limbo_layout.specs.Adts.{Def, Has, HasVariant, Names, AllName, AreNamed, types_of, variant_types, field_types}
use Rattle.limbo_layout.specs.View.{view_fields, view_variant, view_def, view_defs}

module _ (defs : List Def) (modules : ℕ) where
  pub both_name : (xs ys : List Ty) → AllName defs modules (tys_of xs) → AllName defs modules (tys_of ys) → AllName defs modules (tys_of (xs ++ ys))
  both_name [] ys h k = k
  both_name (x ∷ xs) ys h k = (h.0, both_name xs ys h.1 k)

  pub each_names : (ts : List Ty) (t : Ty) → AllName defs modules (tys_of ts) → Has ts t → Names defs modules t
  each_names [] t h k = absurd k
  each_names (u ∷ ts) t h (inl e) = subst (λ z. Names defs modules z) e h.0
  each_names (u ∷ ts) t h (inr k) = each_names ts t h.1 k

  -- one type more
  pub type_more : (ts : List code_ty.Ty) (i : ℕ) (t : code_ty.Ty) → i < length ts → t ≡ get_or ts i t → AllName defs modules (view_tys (take i ts)) → Names defs modules (view_ty t)
      → AllName defs modules (view_tys (take (i + 1) ts))
  type_more ts i t h e all one =
      subst (λ z. AllName defs modules (tys_of z))
      (sym (ap (map view_ty) (take_more ts i t h) ∙ map_push view_ty (take i ts) (get_or ts i t) ∙ ap (λ z. map view_ty (take i ts) ++ view_ty z ∷ []) (sym e)))
      (both_name (map view_ty (take i ts)) (view_ty t ∷ []) all (one, tt))

  types_push : (fs : List code_field.Field) (f : code_field.Field) → types_of (view_fields (fs ++ f ∷ [])) ≡ types_of (view_fields fs) ++ view_ty f.ty ∷ []
  types_push [] f = refl
  types_push (g ∷ fs) f = ap (λ z. view_ty g.ty ∷ z) (types_push fs f)

  -- one field more
  pub field_more : (fs : List code_field.Field) (i : ℕ) (f : code_field.Field) → i < length fs → f ≡ get_or fs i f
      → AllName defs modules (tys_of (types_of (view_fields (take i fs)))) → Names defs modules (view_ty f.ty)
      → AllName defs modules (tys_of (types_of (view_fields (take (i + 1) fs))))
  field_more fs i f h e all one =
      subst (λ z. AllName defs modules (tys_of z))
      (sym (ap (λ z. types_of (view_fields z)) (take_more fs i f h) ∙ types_push (take i fs) (get_or fs i f) ∙ ap (λ (z : code_field.Field). types_of (view_fields (take i fs)) ++ view_ty z.ty ∷ []) (sym e)))
      (both_name (types_of (view_fields (take i fs))) (view_ty f.ty ∷ []) all (one, tt))

  variants_push : (vs : List code_variant.Variant) (v : code_variant.Variant) → variant_types (map view_variant (vs ++ v ∷ [])) ≡ variant_types (map view_variant vs) ++ types_of (view_fields v.fields.items)
  variants_push [] v = append-nil (types_of (view_fields v.fields.items))
  variants_push (w ∷ vs) v =
      ap (λ z. types_of (view_fields w.fields.items) ++ z) (variants_push vs v)
      ∙ sym (append_assoc (types_of (view_fields w.fields.items)) (variant_types (map view_variant vs)) (types_of (view_fields v.fields.items)))

  -- one variant more
  pub variant_more : (vs : List code_variant.Variant) (i : ℕ) (v : code_variant.Variant) → i < length vs → v ≡ get_or vs i v
      → AllName defs modules (tys_of (variant_types (map view_variant (take i vs)))) → AllName defs modules (tys_of (types_of (view_fields v.fields.items)))
      → AllName defs modules (tys_of (variant_types (map view_variant (take (i + 1) vs))))
  variant_more vs i v h e all one =
      subst (λ z. AllName defs modules (tys_of z))
      (sym (ap (λ z. variant_types (map view_variant z)) (take_more vs i v h) ∙ variants_push (take i vs) (get_or vs i v)
      ∙ ap (λ (z : code_variant.Variant). variant_types (map view_variant (take i vs)) ++ types_of (view_fields z.fields.items)) (sym e)))
      (both_name (variant_types (map view_variant (take i vs))) (types_of (view_fields v.fields.items)) all one)

-- the definition at a number
pub def_got : (ds : List code_def.AdtDef) (n : ℕ) (x : code_def.AdtDef) (d : Def) → slice_get (view_defs ds) n ≡ Some d → (n < length ds) × (view_def (get_or ds n x) ≡ d)
def_got [] n x d e = absurd (cc)
def_got (y ∷ ds) zero x d e = (omega arith, cc)
def_got (y ∷ ds) (suc n) x d e = let r = def_got ds n x d e in (omega (arith, r.0), r.1)

-- the definitions before one name only what is there
abbrev pub NamedBelow : List Def → (modules : ℕ) → ℕ → Type 0
NamedBelow defs modules i = (n : ℕ) (d : Def) (t : Ty) → n < i → slice_get defs n ≡ Some d → Has (field_types d) t → Names defs modules t

pub def_more : (ds : List code_def.AdtDef) (modules i : ℕ) (x : code_def.AdtDef) → x ≡ get_or ds i x → NamedBelow (view_defs ds) modules i
    → AllName (view_defs ds) modules (tys_of (field_types (view_def x))) → NamedBelow (view_defs ds) modules (i + 1)
def_more ds modules i x e all one n d t h g k = go (cases_lt n i)
  where
    go : (n < i) ⊎ (i ≤ n) → Names (view_defs ds) modules t
    go (inl b) = all n d t b g k
    go (inr b) =
        let same : i ≡ n = omega arith in
        let there : view_def x ≡ d = ap view_def e ∙ ap (λ z. view_def (get_or ds z x)) same ∙ (def_got ds n x d g).1 in
        each_names (view_defs ds) modules (field_types (view_def x)) t one (subst (λ (z : Def). Has (field_types z) t) (sym there) k)

pub all_named : (ds : List code_def.AdtDef) (modules i : ℕ) → length ds ≤ i → NamedBelow (view_defs ds) modules i → AreNamed (view_defs ds) modules
all_named [] modules i h all n d t g k = absurd (cc)
all_named (x ∷ ds) modules i h all n d t g k = let r = def_got (x ∷ ds) n x d g in all n d t (omega (arith, r.0)) g k

pub from_test : (m n : ℕ) → IsTrue (nat_lt m n) → m < n
from_test m n h = grind (arith, nat_tests)

-- the length of the definitions is that of their views
pub defs_length : (ds : List code_def.AdtDef) → length (view_defs ds) ≡ length ds
defs_length ds = length-map ds view_def

pub slice_some : {A : Type 0} (xs : List A) (n : ℕ) (d : A) → n < length xs → slice_get xs n ≡ Some (get_or xs n d)
slice_some [] n d h = absurd (omega arith)
slice_some (x ∷ xs) zero d h = refl
slice_some (x ∷ xs) (suc n) d h = slice_some xs n d (omega arith)

-- a variant of an adt that is there
pub variant_there : (ds : List code_def.AdtDef) (n v : ℕ) (d : code_def.AdtDef) → n < length ds → d ≡ get_or ds n d → v < length d.picks.items → HasVariant (view_defs ds) n v
variant_there ds n v d h e k = record {
  def = view_def d;
  there =
      let inside : n < length (view_defs ds) = omega (arith, defs_length ds, h) in
      slice_some (view_defs ds) n (view_def d) inside ∙ ap Some (get_or-map view_def ds n d (view_def d) h ∙ ap view_def (sym e));
  variant = omega (arith, length-map d.picks.items view_variant, k);
}
