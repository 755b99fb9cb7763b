-- Adts and modules that a body declares (Limbo Language Reference, adts, modules and scope). A member is seen behind its declaration, the
-- adt or module itself from its name on.
use Rattle.std.specs.Prelude.{◌≡◌, ◌≤◌, ℕ, zero, suc, ◌++◌, Bool, true, List, [], ◌∷◌, length, map, take, Option, None, Some, slice_get}
use Rattle.limbo_tree.specs.Decls as decls
use Rattle.limbo_tree.specs.Decls.{Member, VarMember, FnMember, ConMember, TypeMember, AdtMember, Members, NoMembers, MoreMembers}
use Rattle.limbo_types.specs.Types.{Ty, FnTy, Tuple}
use Rattle.limbo_types.specs.View.{tys_of}
use Rattle.limbo_layout.specs.Adts.{Def, Field, Variant, field_types, parts}
use Rattle.limbo_typed.specs.Typed.{Interface}
use Rattle.limbo_typed.specs.Sound.{Each}
use Rattle.limbo_scope.specs.declared.meaning.Meaning.TheVariants as meaning
use Rattle.limbo_scope.specs.Scopes.{entered}
use Rattle.limbo_allowed.specs.Allowed.{IsAllowed}
use Rattle.limbo_typing.specs.limbo_permits.Permits.{nodes, most_nodes}
use Rattle.limbo_context.specs.Context.{Context, Body, Valued}
use Rattle.limbo_typing.specs.limbo_written.Written.{MeansPermitted}
use Rattle.limbo_local.specs.Points.{Point, enter, leave, leading}
use Rattle.limbo_local.specs.Local.{AreConstants, with_constants, with_types, IsHeader}

-- What members give an adt: its fields, and the adts that stand in it, in the order of their numbers.
pub record Inside : Type 0 where
  pub fields : List Field
  pub adts : List Def

abbrev pub nothing_inside : Inside
nothing_inside = record { fields = []; adts = [] }

abbrev pub beside : Inside → Inside → Inside
beside g h = record { fields = g.fields ++ h.fields; adts = g.adts ++ h.adts }

abbrev pub fields : List (List ℕ) → Ty → List Field
fields names t = map (λ n. record { name = n; ty = t }) names

-- an adt, and those that stand in it
abbrev pub adt_inside : List ℕ → Inside → List Variant → Inside
adt_inside n h vs = record { fields = []; adts = (record { name = n; fields = h.fields; picks = vs }) ∷ h.adts }

-- the item of a number, changed
abbrev pub changed : {A : Type 0} → ℕ → (A → A) → List A → List A
changed n f [] = []
changed zero f (x ∷ xs) = f x ∷ xs
changed (suc n) f (x ∷ xs) = x ∷ changed n f xs

-- The innermost scope is that of the members of an adt, or of a module.
abbrev pub showing_adt : ℕ → Point → Point
showing_adt a p = record p { context = record p.context { members = changed a (λ row. take 1 p.body.scopes) p.context.members } }

abbrev pub showing_module : ℕ → Point → Point
showing_module i p = record p { context = record p.context { exports = changed i (λ row. take 1 p.body.scopes) p.context.exports } }

-- ---- variants

abbrev pub variants_in : Option (List decls.Variant) → List decls.Variant
variants_in None = []
variants_in (Some vs) = vs

-- the variants of these names, with these fields
abbrev pub named_variants : List (List ℕ) → List Field → List Variant
named_variants names fs = map (λ n. record { name = n; fields = fs }) names

-- the variants without their fields
abbrev pub bare : List decls.Variant → List Variant
bare [] = []
bare (v ∷ vs) = named_variants v.names [] ++ bare vs

-- Fields as they are written, where the checking has come to.
abbrev pub AreFields : Context → Body → List decls.Field → List Field → Type 0
AreFields c b [] gs = gs ≡ []
AreFields c b (f ∷ fs) gs =
    (u : Ty) × (hs : List Field) × MeansPermitted c b f.of u × AreFields c b fs hs × (gs ≡ fields f.names u ++ hs)

abbrev pub AreVariants : Context → Body → List decls.Variant → List Variant → Type 0
AreVariants c b [] ws = ws ≡ []
AreVariants c b (v ∷ vs) ws =
    (gs : List Field) × (us : List Variant) × AreFields c b v.fields gs × AreVariants c b vs us × (ws ≡ named_variants v.names gs ++ us)

-- ---- adts

-- An adt begins: its name is declared, and the names of its variants are known; the scope of its members is entered. Its fields are known
-- behind the adt that stands in no other.
abbrev pub open_adt : List ℕ → List decls.Variant → Point → Point
open_adt n vs p =
    enter
    (leading
    (record p.context {
      adts = p.context.adts ++ (record { name = n; fields = []; picks = bare vs }) ∷ [];
      members = p.context.members ++ entered [] ∷ [];
    })
    meaning.Adt (length p.context.adts) (n ∷ []) p)

abbrev mutual
  -- A member of an adt gives it this. A function of an adt that stands in no module is to be defined, and a body has no definitions.
  pub AddsToAdt : (in_module : Bool) → Member → Point → Inside → Point → Type 0
  AddsToAdt m (VarMember ns t) p g q =
      (u : Ty) × MeansPermitted p.context p.body t u × (g ≡ record { fields = fields ns u; adts = [] }) × (q ≡ p)
  AddsToAdt m (FnMember ns f) p g q =
      (of : FnTy) × (m ≡ true) × IsHeader p.context p.body f of × (g ≡ nothing_inside) × (q ≡ p)
  AddsToAdt m (ConMember ns e) p g q =
      (vs : List Valued) × (r : Point) × AreConstants e 0 ns vs p r × (g ≡ nothing_inside) × (q ≡ with_constants ns vs r)
  AddsToAdt m (TypeMember ns t) p g q =
      (u : Ty) × MeansPermitted p.context p.body t u × (g ≡ nothing_inside) × (q ≡ with_types ns u p)
  AddsToAdt m (AdtMember n ms pick) p g q =
      (h : Inside) × (vs : List Variant) × (r : Point)
      × AllAddToAdt m (length p.context.adts) ms (open_adt n (variants_in pick) p) h r
      × AreVariants r.context r.body (variants_in pick) vs × (g ≡ adt_inside n h vs) × (q ≡ leave r)

  pub AllAddToAdt : (in_module : Bool) → (adt : ℕ) → Members → Point → Inside → Point → Type 0
  AllAddToAdt m a NoMembers p g q = (g ≡ nothing_inside) × (q ≡ p)
  AllAddToAdt m a (MoreMembers x xs) p g q =
      (h : Inside) × (i : Inside) × (r : Point) × AddsToAdt m x p h r × AllAddToAdt m a xs (showing_adt a r) i q × (g ≡ beside h i)

-- An adt may stand: its parts together have a type that values may have inside others, and none of them is too long.
pub record MayStand (c : Context) (d : Def) : Type 0 where
  pub allowed : IsAllowed c.adts (length c.modules) c.system c.fd (Tuple (tys_of (parts d)))
  pub small : Each (λ t. nodes t ≤ most_nodes) (field_types d)

-- Each adt from this number on does.
abbrev pub AllMayStand : (first : ℕ) → Context → Type 0
AllMayStand first c = (a : ℕ) (d : Def) → first ≤ a → slice_get c.adts a ≡ Some d → MayStand c d

-- The adts from this number on are these.
abbrev pub with_adts : (first : ℕ) → List Def → Point → Point
with_adts first ds p = record p { context = record p.context { adts = take first p.context.adts ++ ds } }

-- An adt that stands in no other, with those that stand in it.
pub record IsAdt (in_module : Bool) (n : List ℕ) (ms : Members) (pick : Option (List decls.Variant)) (p q : Point) : Type 0 where
  pub inside : Inside
  pub behind : Point
  pub adds : AddsToAdt in_module (AdtMember n ms pick) p inside behind
  pub goes_on : q ≡ with_adts (length p.context.adts) inside.adts behind
  pub stand : AllMayStand (length p.context.adts) q.context

-- ---- modules

-- A module begins.
abbrev pub open_module : List ℕ → Point → Point
open_module n p =
    enter
    (leading
    (record p.context {
      modules = p.context.modules ++ n ∷ [];
      interfaces = p.context.interfaces ++ (record { name = n; functions = [] }) ∷ [];
      exports = p.context.exports ++ entered [] ∷ [];
    })
    meaning.Module (length p.context.interfaces) (n ∷ []) p)

abbrev pub with_signatures : List (List ℕ) → FnTy → Interface → Interface
with_signatures names of i = record i { functions = i.functions ++ map (λ n. record { name = n; of = of }) names }

abbrev pub functions_at : List Interface → ℕ → ℕ
functions_at is i = elim (slice_get is i) [ None ↦ 0 | Some of ↦ length of.functions ]

-- A function of a module has its place among those of the module.
abbrev pub with_functions : (interface : ℕ) → List (List ℕ) → FnTy → Point → Point
with_functions i names of p =
    leading (record p.context { interfaces = changed i (with_signatures names of) p.context.interfaces }) meaning.Function
    (functions_at p.context.interfaces i) names p

-- A member of a module adds this. Its variables are known to the module alone that implements it.
abbrev pub AddsToModule : (interface : ℕ) → Member → Point → Point → Type 0
AddsToModule i (VarMember ns t) p q = (u : Ty) × MeansPermitted p.context p.body t u × (q ≡ p)
AddsToModule i (FnMember ns f) p q = (of : FnTy) × IsHeader p.context p.body f of × (q ≡ with_functions i ns of p)
AddsToModule i (ConMember ns e) p q = (vs : List Valued) × (r : Point) × AreConstants e 0 ns vs p r × (q ≡ with_constants ns vs r)
AddsToModule i (TypeMember ns t) p q = (u : Ty) × MeansPermitted p.context p.body t u × (q ≡ with_types ns u p)
AddsToModule i (AdtMember n ms pick) p q = IsAdt true n ms pick p q

abbrev pub AllAddToModule : (interface : ℕ) → Members → Point → Point → Type 0
AllAddToModule i NoMembers p q = q ≡ p
AllAddToModule i (MoreMembers m ms) p q = (r : Point) × AddsToModule i m p r × AllAddToModule i ms (showing_module i r) q
