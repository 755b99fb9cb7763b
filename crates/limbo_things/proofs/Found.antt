-- What is said of a thing that is found, and where none is.
use Rattle.std.proofs.Common.{◌≡◌, ℕ, List, map, Option, Some, None, option_map, Box, Global, sym, ap, ◌∙◌}
use Rattle.std.specs.Prelude.{IfSome, IfNone, slice_get}
use Rattle.std.proofs.lemmas.Option.{none-some, slice_get-map}
use Rattle.inf_text.specs.Options.{◌>>=◌}
use Rattle.limbo_types.specs.View.{view_ty}
use Rattle.limbo_typed.specs.declared.module.TVar as code_var
use Rattle.limbo_typed.specs.Typed.{PlaceNode, Var}
use Rattle.limbo_typed.specs.View.{view_var}
use Rattle.limbo_places.specs.Places.{read}
use Rattle.limbo_things.specs.declared.thing.Thing as code_thing
use Rattle.limbo_things.specs.Things.{Thing, variable}
use Rattle.limbo_things.specs.ThingView.{view_thing, view_found}

pub found_as : (o : Option (Box code_thing.Thing Global)) (x : Option Thing) (P : Thing → Type 0) → view_found o ≡ x
    → ((t : Thing) → x ≡ Some t → P t) → IfSome o (λ t. P (view_thing t.value))
found_as None x P e k = tt
found_as (Some t) x P e k = k (view_thing t.value) (sym e)

pub none_as : (o : Option (Box code_thing.Thing Global)) (x : Option Thing) (N : Type 0) → view_found o ≡ x → (x ≡ None → N) → IfNone o N
none_as None x N e k = k (sym e)
none_as (Some t) x N e k = tt

pub bind_some : {A B : Type 0} (o : Option A) (f : A → Option B) (x : A) → o ≡ Some x → (o >>= f) ≡ f x
bind_some o f x e = ap (λ z. z >>= f) e

pub bind_none : {A B : Type 0} (o : Option A) (f : A → Option B) (y : B) → o ≡ None → (o >>= f) ≡ Some y → ⊥
bind_none o f y e h = none-some y (sym (ap (λ z. z >>= f) e) ∙ h)

pub bind_is : {A B : Type 0} (o : Option A) (f : A → Option B) (x : A) (y : B) → o ≡ Some x → (o >>= f) ≡ Some y → f x ≡ Some y
bind_is o f x y e h = sym (bind_some o f x e) ∙ h

-- ---- variables

pub variable_at : (place : ℕ → PlaceNode) (vs : List code_var.TVar) (n : ℕ) (v : code_var.TVar) → slice_get vs n ≡ Some v
    → variable place (map view_var vs) n ≡ Some (read (view_ty v.ty) (place n))
variable_at place vs n v h =
    ap (option_map (λ (z : Var). read z.ty (place n))) (slice_get-map view_var vs n ∙ ap (option_map view_var) h)

pub no_variable : (place : ℕ → PlaceNode) (vs : List code_var.TVar) (n : ℕ) → slice_get vs n ≡ None
    → variable place (map view_var vs) n ≡ None
no_variable place vs n h =
    ap (option_map (λ (z : Var). read z.ty (place n))) (slice_get-map view_var vs n ∙ ap (option_map view_var) h)
