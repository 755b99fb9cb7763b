-- The test of likeness tells whether the plain types are the same.
use Rattle.std.proofs.Common.{◌≡◌, ℕ, Bool, true, false, ◌&&◌, Vec, Box, Global, refl, sym, ap, ◌∙◌}
use Rattle.limbo_types.specs.declared.ty.Ty as code_ty
use Rattle.limbo_types.specs.declared.ty.Ty.TheVariants as make
use Rattle.limbo_types.specs.Types.{Ty, Tys, Byte, Int, Big, Chars, Nothing, Nil, ArrayOf, ListOf, ChanOf, Tuple, Adt, RefAdt, RefPick, Module, NoTys, MoreTys}
use Rattle.limbo_types.specs.View.{view_ty}
use Rattle.limbo_types.specs.Same.{same, all_same}
use Rattle.limbo_types.proofs.Same.{only, itself}
use Rattle.limbo_types.proofs.Forms.{HasForm, has_form}
use Rattle.limbo_adts.specs.Reaches.{plain, all_plain}
use Rattle.limbo_adts.specs.Reading.{alike, all_alike, is_ref, touches, through}

ref_same : (n : ℕ) (u : Ty) → is_ref u n ≡ same (RefAdt n) (plain u)
ref_same n (RefAdt m) = refl
ref_same n (RefPick m v) = refl
ref_same n _ = refl

mutual
  pub alike-same : (t u : Ty) → alike t u ≡ same (plain t) (plain u)
  alike-same (ArrayOf t) (ArrayOf u) = alike-same t u
  alike-same (ListOf t) (ListOf u) = alike-same t u
  alike-same (ChanOf t) (ChanOf u) = alike-same t u
  alike-same (Tuple ts) (Tuple us) = all_alike-same ts us
  alike-same (RefAdt n) u = ref_same n u
  alike-same (RefPick n v) u = ref_same n u
  alike-same Byte (RefPick n v) = refl
  alike-same Byte _ = refl
  alike-same Int (RefPick n v) = refl
  alike-same Int _ = refl
  alike-same Big (RefPick n v) = refl
  alike-same Big _ = refl
  alike-same Chars (RefPick n v) = refl
  alike-same Chars _ = refl
  alike-same Nothing (RefPick n v) = refl
  alike-same Nothing _ = refl
  alike-same Nil (RefPick n v) = refl
  alike-same Nil _ = refl
  alike-same (Adt m) (RefPick n v) = refl
  alike-same (Adt m) _ = refl
  alike-same (Module m) (RefPick n v) = refl
  alike-same (Module m) _ = refl
  alike-same _ _ = refl

  all_alike-same : (ts us : Tys) → all_alike ts us ≡ all_same (all_plain ts) (all_plain us)
  all_alike-same NoTys NoTys = refl
  all_alike-same NoTys (MoreTys u us) = refl
  all_alike-same (MoreTys t ts) NoTys = refl
  all_alike-same (MoreTys t ts) (MoreTys u us) = ap (λ b. b && all_alike ts us) (alike-same t u) ∙ ap (λ b. same (plain t) (plain u) && b) (all_alike-same ts us)

pub alike_plain : (t u : Ty) → alike t u ≡ true → plain t ≡ plain u
alike_plain t u e = only (plain t) (plain u) (sym (alike-same t u) ∙ e)

pub plain_alike : (t u : Ty) → plain t ≡ plain u → alike t u ≡ true
plain_alike t u e = alike-same t u ∙ ap (λ z. same (plain t) z) (sym e) ∙ itself (plain t)

-- ---- what a type of the code isn't

pub no_array : (u : code_ty.Ty) (t : Ty) → ((b : Box code_ty.Ty Global) → u ≡ make.Array b → ⊥) → false ≡ alike (ArrayOf t) (view_ty u)
no_array u t never = go (view_ty u) (has_form u)
  where
    go : (v : Ty) → HasForm u v → false ≡ alike (ArrayOf t) v
    go (ArrayOf x) h = absurd (never h.0 h.1)
    go _ h = refl

pub no_list : (u : code_ty.Ty) (t : Ty) → ((b : Box code_ty.Ty Global) → u ≡ make.List b → ⊥) → false ≡ alike (ListOf t) (view_ty u)
no_list u t never = go (view_ty u) (has_form u)
  where
    go : (v : Ty) → HasForm u v → false ≡ alike (ListOf t) v
    go (ListOf x) h = absurd (never h.0 h.1)
    go _ h = refl

pub no_chan : (u : code_ty.Ty) (t : Ty) → ((b : Box code_ty.Ty Global) → u ≡ make.Chan b → ⊥) → false ≡ alike (ChanOf t) (view_ty u)
no_chan u t never = go (view_ty u) (has_form u)
  where
    go : (v : Ty) → HasForm u v → false ≡ alike (ChanOf t) v
    go (ChanOf x) h = absurd (never h.0 h.1)
    go _ h = refl

pub no_tuple : (u : code_ty.Ty) (ts : Tys) → ((b : Vec code_ty.Ty Global) → u ≡ make.Tuple b → ⊥) → false ≡ alike (Tuple ts) (view_ty u)
no_tuple u ts never = go (view_ty u) (has_form u)
  where
    go : (v : Ty) → HasForm u v → false ≡ alike (Tuple ts) v
    go (Tuple x) h = absurd (never h.0 h.1)
    go _ h = refl

pub no_ref : (u : code_ty.Ty) (n : ℕ) → ((m : ℕ) → u ≡ make.RefAdt m → ⊥) → ((m v : ℕ) → u ≡ make.RefPick m v → ⊥) → false ≡ is_ref (view_ty u) n
no_ref u n never nor = go (view_ty u) (has_form u)
  where
    go : (v : Ty) → HasForm u v → false ≡ is_ref v n
    go (RefAdt x) h = absurd (never h.0 h.1)
    go (RefPick x y) h = absurd (nor h.0 h.1 h.2)
    go _ h = refl

-- a type that is neither of these forms is alike what it is
pub no_other : (t : code_ty.Ty) (u : Ty) → ((b : Box code_ty.Ty Global) → t ≡ make.Array b → ⊥) → ((b : Box code_ty.Ty Global) → t ≡ make.List b → ⊥) → ((b : Box code_ty.Ty Global) → t ≡ make.Chan b → ⊥)
    → ((b : Vec code_ty.Ty Global) → t ≡ make.Tuple b → ⊥) → ((m : ℕ) → t ≡ make.RefAdt m → ⊥) → ((m v : ℕ) → t ≡ make.RefPick m v → ⊥) → alike (view_ty t) u ≡ same (view_ty t) u
no_other t u array list chan tuple ref variant = go (view_ty t) (has_form t)
  where
    go : (v : Ty) → HasForm t v → alike v u ≡ same v u
    go (ArrayOf x) h = absurd (array h.0 h.1)
    go (ListOf x) h = absurd (list h.0 h.1)
    go (ChanOf x) h = absurd (chan h.0 h.1)
    go (Tuple x) h = absurd (tuple h.0 h.1)
    go (RefAdt x) h = absurd (ref h.0 h.1)
    go (RefPick x y) h = absurd (variant h.0 h.1 h.2)
    go _ h = refl

-- a type that holds no other in itself touches what it is alike
pub no_part : (t : code_ty.Ty) (u : Ty) → ((b : Box code_ty.Ty Global) → t ≡ make.Array b → ⊥) → ((b : Box code_ty.Ty Global) → t ≡ make.List b → ⊥) → ((b : Box code_ty.Ty Global) → t ≡ make.Chan b → ⊥)
    → ((b : Vec code_ty.Ty Global) → t ≡ make.Tuple b → ⊥) → touches (view_ty t) u ≡ alike (view_ty t) u
no_part t u array list chan tuple = go (view_ty t) (has_form t)
  where
    go : (v : Ty) → HasForm t v → touches v u ≡ alike v u
    go (ArrayOf x) h = absurd (array h.0 h.1)
    go (ListOf x) h = absurd (list h.0 h.1)
    go (ChanOf x) h = absurd (chan h.0 h.1)
    go (Tuple x) h = absurd (tuple h.0 h.1)
    go _ h = refl

-- a type that names no adt leads through none
pub no_name : (t : code_ty.Ty) (f : ℕ → Bool) → ((b : Box code_ty.Ty Global) → t ≡ make.Array b → ⊥) → ((b : Box code_ty.Ty Global) → t ≡ make.List b → ⊥) → ((b : Box code_ty.Ty Global) → t ≡ make.Chan b → ⊥)
    → ((b : Vec code_ty.Ty Global) → t ≡ make.Tuple b → ⊥) → ((m : ℕ) → t ≡ make.Adt m → ⊥) → ((m : ℕ) → t ≡ make.RefAdt m → ⊥) → ((m v : ℕ) → t ≡ make.RefPick m v → ⊥) → through f (view_ty t) ≡ false
no_name t f array list chan tuple adt ref variant = go (view_ty t) (has_form t)
  where
    go : (v : Ty) → HasForm t v → through f v ≡ false
    go (ArrayOf x) h = absurd (array h.0 h.1)
    go (ListOf x) h = absurd (list h.0 h.1)
    go (ChanOf x) h = absurd (chan h.0 h.1)
    go (Tuple x) h = absurd (tuple h.0 h.1)
    go (Adt x) h = absurd (adt h.0 h.1)
    go (RefAdt x) h = absurd (ref h.0 h.1)
    go (RefPick x y) h = absurd (variant h.0 h.1 h.2)
    go _ h = refl
