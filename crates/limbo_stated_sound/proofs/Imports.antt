-- Imported names: through what they come.
use Rattle.std.proofs.Common.{◌≡◌, ℕ, zero, suc, List, [], ◌∷◌, ◌++◌, length, map, Option, None, Some, refl}
use Rattle.std.proofs.Common.{sym, ap, subst, ◌∙◌}
use Rattle.std.specs.Prelude.{slice_get}
use Rattle.std.proofs.lemmas.Option.{none-some, same_Some}
use Rattle.inf_text.specs.Options.{◌>>=◌}
use Rattle.limbo_types.specs.Types as ty
use Rattle.limbo_types.specs.Types.{Ty, FnTy}
use Rattle.limbo_typed.specs.Typed.{Var}
use Rattle.limbo_typed.specs.Sound.{Each, HasVariable}
use Rattle.limbo_scope.specs.declared.meaning.Meaning.{Meaning}
use Rattle.limbo_scope.specs.declared.meaning.Meaning.TheVariants as meaning
use Rattle.limbo_context.specs.declared.context.Imported.{Imported}
use Rattle.limbo_context.specs.declared.context.Origin.{Origin}
use Rattle.limbo_context.specs.declared.context.Origin.TheVariants as origin
use Rattle.limbo_context.specs.Context.{Context, Body}
use Rattle.limbo_body_types.specs.Means.{module_of, module_led}
use Rattle.limbo_stating.specs.limbo_local.Points.{Point}
use Rattle.limbo_stating.specs.limbo_local.Local.{origin_of, NamesModule, AreImported}
use Rattle.limbo_typed_sound.specs.Describing.{Begins}
use Rattle.limbo_typed_sound.specs.Laws.{Grows}
use Rattle.limbo_typed_sound.proofs.Lists.{each_at, begins_with}
use Rattle.limbo_stated_sound.specs.Growing.{AreThrough}
use Rattle.limbo_typed_sound.specs.Describing.{IsThrough}

pub same_imports : (is : List Imported) (vs : List Var) → AreThrough is is vs
same_imports is vs n x i e f g = absurd (none-some i (sym e ∙ f))

pub has_grown : (b d : Body) → Grows b d → (x : ℕ) (t : Ty) → HasVariable b.variables x t → HasVariable d.variables x t
has_grown b d g x t k =
    (k.0, subst (λ (vs : List Var). slice_get vs x ≡ Some k.0) (sym g.1) (begins_with b.variables g.0 x k.0 k.1), k.2)

pub imports_on : (is : List Imported) (b d : Body) (js ks : List Imported) → Grows b d → AreThrough is js b.variables
    → AreThrough js ks d.variables → Begins js ks → AreThrough is ks d.variables
imports_on is b d js ks v g h begins n x i e f l = go (slice_get js n) refl
  where
    go : (o : Option Imported) → slice_get js n ≡ o → HasVariable d.variables x (ty.Module i.interface)
    go None q = h n x i q f l
    go (Some j) q =
        let s : j ≡ i = same_Some j i (sym (begins n j q) ∙ f) in
        has_grown b d v x (ty.Module i.interface) (g n x i e (q ∙ ap (λ (z : Imported). Some z) s) l)

-- what stands behind a list
pub at_the_end : {A : Type 0} (P : A → Type 0) (xs ys : List A) (n : ℕ) (y : A) → slice_get xs n ≡ None → slice_get (xs ++ ys) n ≡ Some y
    → Each P ys → P y
at_the_end P [] ys n y e f h = each_at P ys n y f h
at_the_end P (x ∷ xs) ys zero y e f h = absurd (none-some x (sym e))
at_the_end P (x ∷ xs) ys (suc n) y e f h = at_the_end P xs ys n y e f h

abbrev pub IsRight : List Var → Imported → Type 0
IsRight vs i = (x : ℕ) → i.origin ≡ origin.Local x → HasVariable vs x (ty.Module i.interface)

pub new_imports : (is xs : List Imported) (vs : List Var) → Each (IsRight vs) xs → AreThrough is (is ++ xs) vs
new_imports is xs vs h n x i e f g = at_the_end (IsRight vs) is xs n i e f h x g

pub module_is : (t : Ty) (i : ℕ) → module_of t ≡ Some i → t ≡ ty.Module i
module_is (ty.Module k) i e = ap ty.Module (same_Some k i e)
module_is _ i e = absurd (none-some i e)

pub through_variable : (o : Option Var) (i : ℕ) → ((o >>= λ v. Some v.ty) >>= module_of) ≡ Some i
    → (v : Var) × (o ≡ Some v) × (v.ty ≡ ty.Module i)
through_variable None i e = absurd (none-some i e)
through_variable (Some v) i e = (v, refl, module_is v.ty i e)

pub from_variable : (c : Context) (b : Body) (k : Meaning) (i x : ℕ) → module_led c b k ≡ Some i → origin_of k ≡ origin.Local x
    → HasVariable b.variables x (ty.Module i)
from_variable c b (meaning.Variable y) i x e o =
    let q : y ≡ x = cc in
    subst (λ (z : ℕ). HasVariable b.variables z (ty.Module i)) q (through_variable (slice_get b.variables y) i e)
from_variable c b (meaning.Global y) i x e o = absurd cc
from_variable c b _ i x e o = absurd cc

pub imported_through : (p : Point) (name : List ℕ) (from : Origin) (i : ℕ) (ns : List (List ℕ)) (xs : List Imported)
    → NamesModule p name from i → AreImported p.context from i ns xs → Each (IsRight p.body.variables) xs
imported_through p name from i [] [] h k = tt
imported_through p name from i [] (x ∷ xs) h k = absurd k
imported_through p name from i (n ∷ ns) [] h k = absurd k
imported_through p name from i (n ∷ ns) (x ∷ xs) h k = (
  λ y o.
      subst (λ (z : Imported). HasVariable p.body.variables y (ty.Module z.interface)) (sym k.0.2)
      (from_variable p.context p.body h.means i y h.leads (sym h.is ∙ sym (ap (λ (z : Imported). z.origin) k.0.2) ∙ o)),
  imported_through p name from i ns xs h k.1,
)

pub from_global : (c : Context) (b : Body) (k : Meaning) (i x : ℕ) → module_led c b k ≡ Some i → origin_of k ≡ origin.Global x → (v : Var)
    → slice_get c.globals x ≡ Some v → v.ty ≡ ty.Module i
from_global c b (meaning.Global y) i x e o v g =
    let q : y ≡ x = cc in go (slice_get c.globals y) e (ap (slice_get c.globals) q ∙ g)
  where
    go : (a : Option Var) → ((a >>= λ w. Some w.ty) >>= module_of) ≡ Some i → a ≡ Some v → v.ty ≡ ty.Module i
    go None e g = absurd (none-some i e)
    go (Some w) e g = subst (λ (z : Var). z.ty ≡ ty.Module i) (same_Some w v g) (module_is w.ty i e)
from_global c b (meaning.Variable y) i x e o v g = absurd cc
from_global c b _ i x e o v g = absurd cc

pub through_globals : (p : Point) (name : List ℕ) (from : Origin) (i : ℕ) (ns : List (List ℕ)) (xs : List Imported)
    → NamesModule p name from i → AreImported p.context from i ns xs → Each (IsThrough p.context.globals) xs
through_globals p name from i [] [] h k = tt
through_globals p name from i [] (x ∷ xs) h k = absurd k
through_globals p name from i (n ∷ ns) [] h k = absurd k
through_globals p name from i (n ∷ ns) (x ∷ xs) h k = (
  λ y v o g.
      from_global p.context p.body h.means i y h.leads (sym h.is ∙ sym (ap (λ (z : Imported). z.origin) k.0.2) ∙ o) v g
      ∙ ap (λ (z : Imported). ty.Module z.interface) (sym k.0.2),
  through_globals p name from i ns xs h k.1,
)

pub same_length : {A B : Type 0} (f : A → B) (xs : List A) → length (map f xs) ≡ length xs
same_length f [] = refl
same_length f (x ∷ xs) = ap suc (same_length f xs)
