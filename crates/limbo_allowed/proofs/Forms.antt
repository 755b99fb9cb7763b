-- What the tests say of a type of the code that has another form.
use Rattle.std.proofs.Common.{◌≡◌, ℕ, true, false, List, Option, Box, Vec, Global, refl}
use Rattle.limbo_types.specs.declared.ty.Ty as code_ty
use Rattle.limbo_types.specs.declared.ty.Ty.TheVariants as make
use Rattle.limbo_types.specs.Types as ty
use Rattle.limbo_types.specs.View.{view_ty}
use Rattle.limbo_types.proofs.Forms.{HasForm, has_form}
use Rattle.limbo_layout.specs.Adts.{Def}
use Rattle.limbo_allowed.specs.Choosing.{is_user_module, has_module, holds_module, holds_fd, is_named}

pub no_user_module : (system : Option ℕ) (u : code_ty.Ty) → ((n : ℕ) → u ≡ make.Module n → ⊥) → false ≡ is_user_module system (view_ty u)
no_user_module system u p0 = go (view_ty u) (has_form u)
  where
    go : (t : ty.Ty) → HasForm u t → false ≡ is_user_module system t
    go (ty.Module n) h = absurd (p0 h.0 h.1)
    go _ h = refl

pub has_module_itself :
    (system : Option ℕ) (u : code_ty.Ty)
    → ((b : Box code_ty.Ty Global) → u ≡ make.Array b → ⊥)
    → ((b : Box code_ty.Ty Global) → u ≡ make.List b → ⊥)
    → ((b : Box code_ty.Ty Global) → u ≡ make.Chan b → ⊥)
    → ((vs : Vec code_ty.Ty Global) → u ≡ make.Tuple vs → ⊥)
    → is_user_module system (view_ty u) ≡ has_module system (view_ty u)
has_module_itself system u p0 p1 p2 p3 = go (view_ty u) (has_form u)
  where
    go : (t : ty.Ty) → HasForm u t → is_user_module system t ≡ has_module system t
    go (ty.ArrayOf t) h = absurd (p0 h.0 h.1)
    go (ty.ListOf t) h = absurd (p1 h.0 h.1)
    go (ty.ChanOf t) h = absurd (p2 h.0 h.1)
    go (ty.Tuple ts) h = absurd (p3 h.0 h.1)
    go _ h = refl

pub holds_no_module :
    (system : Option ℕ) (u : code_ty.Ty)
    → ((b : Box code_ty.Ty Global) → u ≡ make.Array b → ⊥)
    → ((b : Box code_ty.Ty Global) → u ≡ make.List b → ⊥)
    → ((b : Box code_ty.Ty Global) → u ≡ make.Chan b → ⊥)
    → ((vs : Vec code_ty.Ty Global) → u ≡ make.Tuple vs → ⊥)
    → false ≡ holds_module system (view_ty u)
holds_no_module system u p0 p1 p2 p3 = go (view_ty u) (has_form u)
  where
    go : (t : ty.Ty) → HasForm u t → false ≡ holds_module system t
    go (ty.ArrayOf t) h = absurd (p0 h.0 h.1)
    go (ty.ListOf t) h = absurd (p1 h.0 h.1)
    go (ty.ChanOf t) h = absurd (p2 h.0 h.1)
    go (ty.Tuple ts) h = absurd (p3 h.0 h.1)
    go _ h = refl

pub holds_no_fd :
    (fd : Option ℕ) (u : code_ty.Ty)
    → ((b : Box code_ty.Ty Global) → u ≡ make.Array b → ⊥)
    → ((b : Box code_ty.Ty Global) → u ≡ make.List b → ⊥)
    → ((b : Box code_ty.Ty Global) → u ≡ make.Chan b → ⊥)
    → ((vs : Vec code_ty.Ty Global) → u ≡ make.Tuple vs → ⊥)
    → ((n : ℕ) → u ≡ make.Adt n → ⊥)
    → false ≡ holds_fd fd (view_ty u)
holds_no_fd fd u p0 p1 p2 p3 p4 = go (view_ty u) (has_form u)
  where
    go : (t : ty.Ty) → HasForm u t → false ≡ holds_fd fd t
    go (ty.ArrayOf t) h = absurd (p0 h.0 h.1)
    go (ty.ListOf t) h = absurd (p1 h.0 h.1)
    go (ty.ChanOf t) h = absurd (p2 h.0 h.1)
    go (ty.Tuple ts) h = absurd (p3 h.0 h.1)
    go (ty.Adt n) h = absurd (p4 h.0 h.1)
    go _ h = refl

pub names_nothing :
    (defs : List Def) (modules : ℕ) (u : code_ty.Ty)
    → ((b : Box code_ty.Ty Global) → u ≡ make.Array b → ⊥)
    → ((b : Box code_ty.Ty Global) → u ≡ make.List b → ⊥)
    → ((b : Box code_ty.Ty Global) → u ≡ make.Chan b → ⊥)
    → ((vs : Vec code_ty.Ty Global) → u ≡ make.Tuple vs → ⊥)
    → ((n : ℕ) → u ≡ make.Adt n → ⊥)
    → ((n : ℕ) → u ≡ make.RefAdt n → ⊥)
    → ((n v : ℕ) → u ≡ make.RefPick n v → ⊥)
    → ((n : ℕ) → u ≡ make.Module n → ⊥)
    → true ≡ is_named defs modules (view_ty u)
names_nothing defs modules u p0 p1 p2 p3 p4 p5 p6 p7 = go (view_ty u) (has_form u)
  where
    go : (t : ty.Ty) → HasForm u t → true ≡ is_named defs modules t
    go (ty.ArrayOf t) h = absurd (p0 h.0 h.1)
    go (ty.ListOf t) h = absurd (p1 h.0 h.1)
    go (ty.ChanOf t) h = absurd (p2 h.0 h.1)
    go (ty.Tuple ts) h = absurd (p3 h.0 h.1)
    go (ty.Adt n) h = absurd (p4 h.0 h.1)
    go (ty.RefAdt n) h = absurd (p5 h.0 h.1)
    go (ty.RefPick n v) h = absurd (p6 h.0 h.1 h.2)
    go (ty.Module n) h = absurd (p7 h.0 h.1)
    go _ h = refl
