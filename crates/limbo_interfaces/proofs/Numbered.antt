-- Functions of module types, as the code numbers them.
use Rattle.std.proofs.Common.{◌≡◌, ◌<◌, ◌∷◌, [], ℕ, zero, suc, List, length, map, refl, sym, ap, subst, ◌∙◌, arith}
use Rattle.std.specs.Prelude.{slice_set, slice_index_or}
use Rattle.std.proofs.lemmas.List.{length-map}
use Rattle.limbo_types.specs.Types.{FnTy}
use Rattle.limbo_scope.specs.declared.meaning.Meaning.TheVariants as meaning
use Rattle.limbo_scope.specs.Scopes.{Scope}
use Rattle.limbo_scope.specs.Laws.{declared_all}
use Rattle.limbo_typed.specs.declared.module.Interface as code_interface
use Rattle.limbo_typed.specs.Typed.{Interface}
use Rattle.limbo_typed.specs.View.{view_signature, view_interface}
use Rattle.limbo_context.specs.Context.{Context, Body}
use Rattle.limbo_locals.specs.limbo_local.Points.{meaning_from}
use Rattle.limbo_locals.specs.limbo_local.Members.{changed, showing_module, with_signatures, functions_at, with_functions}
use Rattle.limbo_locals.specs.Anywhere.{at}
use Rattle.limbo_members.proofs.Kept.{length_changed}
use Rattle.limbo_interfaces.specs.Modules.{IsBegun}
use Rattle.limbo_interfaces.proofs.Exported.{added_shown, added_begun}

-- the module type of a number, and how many functions it has
pub below_viewed : (i : ℕ) (xs : List code_interface.Interface) → i < length (map view_interface xs) → i < length xs
below_viewed i xs l = subst (λ (n : ℕ). i < n) (length-map xs view_interface) l

pub functions_there : (i : ℕ) (xs : List code_interface.Interface) (x : code_interface.Interface) → i < length xs
    → x ≡ slice_index_or xs i x → length x.functions.items ≡ functions_at (map view_interface xs) i
functions_there i [] x l is = absurd (omega arith)
functions_there zero (z ∷ zs) x l is =
    ap (λ (y : code_interface.Interface). length y.functions.items) is ∙ sym (length-map z.functions.items view_signature)
functions_there (suc i) (z ∷ zs) x l is = functions_there i zs x (omega arith) is

pub set_viewed : (i : ℕ) (f : Interface → Interface) (xs : List code_interface.Interface) (x y : code_interface.Interface) → i < length xs
    → x ≡ slice_index_or xs i x → view_interface y ≡ f (view_interface x)
    → map view_interface (slice_set xs i y) ≡ changed i f (map view_interface xs)
set_viewed i f [] x y l is eq = absurd (omega arith)
set_viewed zero f (z ∷ zs) x y l is eq =
    ap (λ (w : Interface). w ∷ map view_interface zs) (eq ∙ ap (λ (w : code_interface.Interface). f (view_interface w)) is)
set_viewed (suc i) f (z ∷ zs) x y l is eq =
    ap (λ (ws : List Interface). view_interface z ∷ ws) (set_viewed i f zs x y (omega arith) is eq)

module _ (i : ℕ) (c : Context) (b : Body) (names : List (List ℕ)) (of : FnTy) (first : ℕ) (interfaces : List Interface)
    (rows : List (List Scope)) (scopes : List Scope) (begun : IsBegun i c b) (counted : first ≡ functions_at c.interfaces i)
    (more : interfaces ≡ changed i (with_signatures names of) c.interfaces)
    (later : scopes ≡ declared_all (meaning_from meaning.Function first names) b.scopes)
    (is : rows ≡ changed i (declared_all (meaning_from meaning.Function first names)) c.exports) where
  as_many : length interfaces ≡ length c.interfaces
  as_many = ap length more ∙ length_changed i (with_signatures names of) c.interfaces

  numbered : (n : ℕ) → at (record c { interfaces = interfaces }) (record { scopes = scopes; variables = b.variables }) n
      ≡ with_functions i names of (at c b n)
  numbered n =
      ap (λ (js : List Interface). at (record c { interfaces = js }) (record { scopes = scopes; variables = b.variables }) n) more
      ∙ ap (λ (ss : List Scope). at (record c { interfaces = changed i (with_signatures names of) c.interfaces })
      (record { scopes = ss; variables = b.variables }) n)
      (later ∙ ap (λ (k : ℕ). declared_all (meaning_from meaning.Function k names) b.scopes) counted)

  pub placed : (n : ℕ)
      → at (record c { interfaces = interfaces; exports = rows }) (record { scopes = scopes; variables = b.variables }) n
      ≡ showing_module i (with_functions i names of (at c b n))
  placed n =
      added_shown i c b (record c { interfaces = interfaces }) (record { scopes = scopes; variables = b.variables }) begun refl
      (meaning_from meaning.Function first names) rows is later n
      ∙ ap (showing_module i) (numbered n)

  pub placed_begun : IsBegun i (record c { interfaces = interfaces; exports = rows }) (record { scopes = scopes; variables = b.variables })
  placed_begun =
      added_begun i c b (record c { interfaces = interfaces }) (record { scopes = scopes; variables = b.variables }) begun refl
      (meaning_from meaning.Function first names) rows is later as_many
