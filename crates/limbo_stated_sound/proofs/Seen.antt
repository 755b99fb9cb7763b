-- A module as a context sees it where adts and modules of a body are open yet.
use Rattle.std.proofs.Common.{◌≡◌, ◌≤◌, ◌<◌, ℕ, List, [], ◌∷◌, ◌++◌, length, Option, None, Some, refl, sym, ap, subst, ◌∙◌, arith}
use Rattle.std.specs.Prelude.{slice_get}
use Rattle.std.specs.Option.{option_or}
use Rattle.std.proofs.lemmas.Option.{same_Some, slice_get_within}
use Rattle.limbo_types.specs.Types as ty
use Rattle.limbo_types.specs.Types.{Ty, Tys}
use Rattle.limbo_layout.specs.Adts.{Def, Has, field_types, Names, AllName}
use Rattle.limbo_typed.specs.Typed.{Module, Var, Function, Interface, Signature}
use Rattle.limbo_typed.specs.Fitting.{IsConstant}
use Rattle.limbo_typed.specs.Sound.{Each, IsSettled, IsNamed, NamesAll, SoundSignature, HasVariable}
use Rattle.limbo_scope.specs.declared.meaning.Meaning.TheVariants as meaning
use Rattle.limbo_scope.specs.Scopes.{seen}
use Rattle.limbo_context.specs.declared.context.Imported.{Imported}
use Rattle.limbo_context.specs.declared.context.Origin.TheVariants as origin
use Rattle.limbo_context.specs.Context.{Context, Body, Callee}
use Rattle.limbo_typed_sound.specs.Describing.{Begins, HasTypes, HasFunctionOf, IsNamedFunction, IsThrough, Describes, IsWell}
use Rattle.limbo_typed_sound.proofs.Lists.{each_at}
use Rattle.limbo_stated_sound.specs.Growing.{Extends}
use Rattle.limbo_stated_sound.specs.Standing.{Covers}
use Rattle.limbo_stated_sound.proofs.Lists.{as_long, each_of}
use Rattle.limbo_stated_sound.proofs.Over.{over, over_at, over_begins, each_over, at_least, at_most, numbered_below, item_at}

pub each_as : {A : Type 0} (P Q : A → Type 0) (xs : List A) → ((x : A) → P x → Q x) → Each P xs → Each Q xs
each_as P Q [] f h = tt
each_as P Q (x ∷ xs) f h = (f x h.0, each_as P Q xs f h.1)

-- ---- adts with as many variants

-- A list has an adt of this number, with so many variants.
abbrev pub HasShape : List Def → ℕ → ℕ → Type 0
HasShape ds n picks = (d : Def) × (slice_get ds n ≡ Some d) × (length d.picks ≡ picks)

module _ (old new : List Def) (shapes : (n : ℕ) (d : Def) → slice_get old n ≡ Some d → HasShape new n (length d.picks)) (before after : ℕ)
    (more : before ≤ after) where
  has_number : (n : ℕ) → n < length old → n < length new
  has_number n l = let i = item_at old n l in let s = shapes n i.0 i.1 in slice_get_within new n s.0 s.1

  mutual
    pub shaped_names : (t : Ty) → Names old before t → Names new after t
    shaped_names (ty.ArrayOf t) h = shaped_names t h
    shaped_names (ty.ListOf t) h = shaped_names t h
    shaped_names (ty.ChanOf t) h = shaped_names t h
    shaped_names (ty.Tuple ts) h = all_shaped_names ts h
    shaped_names (ty.Adt n) h = has_number n h
    shaped_names (ty.RefAdt n) h = has_number n h
    shaped_names (ty.RefPick n v) h =
        let s = shapes n h.def h.there in
        let l = h.variant in
        let e = s.2 in
        record { def = s.0; there = s.1; variant = omega arith }
    shaped_names (ty.Module n) h = omega arith
    shaped_names _ h = tt

    all_shaped_names : (ts : Tys) → AllName old before ts → AllName new after ts
    all_shaped_names ty.NoTys h = tt
    all_shaped_names (ty.MoreTys t ts) h = (shaped_names t h.0, all_shaped_names ts h.1)

-- ---- contexts that fit a module

-- The module has an adt of the number, with as many variants; the fields that are known so far have types of the module.
pub record FitsDef (m : Module) (n : ℕ) (d : Def) : Type 0 where
  pub shape : HasShape m.adts n (length d.picks)
  pub fields : (t : Ty) → Has (field_types d) t → IsNamed m t

pub record Fits (m : Module) (c : Context) : Type 0 where
  pub adts : (n : ℕ) (d : Def) → slice_get c.adts n ≡ Some d → FitsDef m n d
  pub modules : length c.modules ≤ length m.interfaces
  pub interfaces : (n : ℕ) (i : Interface) → slice_get c.interfaces n ≡ Some i
      → (n < length m.interfaces) × Each (SoundSignature m) i.functions

pub covered_fits : (m : Module) (c : Context) → HasTypes m → Covers m c → Fits m c
covered_fits m c types h = record {
  adts = λ n d e. record {
    shape = (d, h.adts n d e, refl);
    fields = λ t i. types.fields n d t (h.adts n d e) i;
  };
  modules = h.modules;
  interfaces = λ n i e. (
    slice_get_within m.interfaces n i (h.interfaces n i e),
    each_at (λ (x : Interface). Each (SoundSignature m) x.functions) m.interfaces n i (h.interfaces n i e) types.interfaces,
  );
}

-- ---- contexts that grow, while adts and modules are open

-- An adt of the number has as many variants, and maybe more fields.
pub record GrownDef (ds : List Def) (n : ℕ) (d : Def) : Type 0 where
  pub def : Def
  pub there : slice_get ds n ≡ Some def
  pub as_many : length def.picks ≡ length d.picks
  pub fields : (t : Ty) → Has (field_types d) t → Has (field_types def) t

-- A module type of the number has more functions.
pub record GrownInterface (is : List Interface) (n : ℕ) (i : Interface) : Type 0 where
  pub interface : Interface
  pub there : slice_get is n ≡ Some interface
  pub more : List Signature
  pub functions : interface.functions ≡ i.functions ++ more

pub record Grown (c d : Context) : Type 0 where
  pub adts : (n : ℕ) (x : Def) → slice_get c.adts n ≡ Some x → GrownDef d.adts n x
  pub modules : length c.modules ≤ length d.modules
  pub interfaces : (n : ℕ) (i : Interface) → slice_get c.interfaces n ≡ Some i → GrownInterface d.interfaces n i

pub no_more : {A : Type 0} (xs : List A) → xs ≡ xs ++ []
no_more [] = refl
no_more {A = A} (x ∷ xs) = ap (λ (ys : List A). x ∷ ys) (no_more xs)

pub same_def : (ds : List Def) (n : ℕ) (d : Def) → slice_get ds n ≡ Some d → GrownDef ds n d
same_def ds n d e = record { def = d; there = e; as_many = refl; fields = λ t h. h }

pub same_interface : (is : List Interface) (n : ℕ) (i : Interface) → slice_get is n ≡ Some i → GrownInterface is n i
same_interface is n i e = record { interface = i; there = e; more = []; functions = no_more i.functions }

pub extended_grows : (c d : Context) → Extends c d → Grown c d
extended_grows c d h = record {
  adts = λ n x e. same_def d.adts n x (h.adts n x e);
  modules = as_long c.modules d.modules h.modules;
  interfaces = λ n i e. same_interface d.interfaces n i (h.interfaces n i e);
}

first_ones : {A : Type 0} (P : A → Type 0) (xs ys : List A) → Each P (xs ++ ys) → Each P xs
first_ones P [] ys h = tt
first_ones P (x ∷ xs) ys h = (h.0, first_ones P xs ys h.1)

pub fits_before : (m : Module) (c d : Context) → Grown c d → Fits m d → Fits m c
fits_before m c d g h = record {
  adts = λ n x e.
      let k = g.adts n x e in
      let f = h.adts n k.def k.there in
      record { shape = (f.shape.0, f.shape.1, f.shape.2 ∙ k.as_many); fields = λ t i. f.fields t (k.fields t i) };
  modules = let a = g.modules in let b = h.modules in omega arith;
  interfaces = λ n i e.
      let k = g.interfaces n i e in
      let f = h.interfaces n k.interface k.there in
      (f.0, first_ones (SoundSignature m) i.functions k.more (subst (Each (SoundSignature m)) k.functions f.1));
}

-- ---- what is known of a point

pub record Known (m : Module) (c : Context) (b : Body) : Type 0 where
  pub globals : Begins c.globals m.globals
  pub functions : (n : ℕ) (f : Callee) → slice_get c.functions n ≡ Some f → HasFunctionOf m n f.of
  pub system : c.system ≡ m.system
  pub fd : (n : ℕ) → c.fd ≡ Some n → n < length m.adts
  pub constants : Each (λ v. IsConstant v.ty v.value) c.constants
  pub types : Each IsSettled c.types
  pub imports : Each (IsThrough c.globals) c.imports
  pub named : Each (λ v. IsNamed m v.ty) b.variables
  pub imported : (name : List ℕ) (n x : ℕ) (i : Imported) → seen name b.scopes ≡ Some (meaning.Import n)
      → slice_get c.imports n ≡ Some i → i.origin ≡ origin.Local x → HasVariable b.variables x (ty.Module i.interface)
  pub raises : (name : List ℕ) (n : ℕ) → seen name b.scopes ≡ Some (meaning.Exception n) → n < length c.exceptions

-- ---- the module as the context sees it

abbrev pub sight : Module → Context → Module
sight m c = record m { adts = over c.adts m.adts; interfaces = over c.interfaces m.interfaces }

module _ (m : Module) (c : Context) (fits : Fits m c) where
  few_interfaces : length c.interfaces ≤ length m.interfaces
  few_interfaces = numbered_below c.interfaces (length m.interfaces) (λ n i e. (fits.interfaces n i e).0)

  to_sight : (n : ℕ) (d : Def) → slice_get m.adts n ≡ Some d → HasShape (over c.adts m.adts) n (length d.picks)
  to_sight n d e = go (slice_get c.adts n) refl
    where
      go : (o : Option Def) → slice_get c.adts n ≡ o → HasShape (over c.adts m.adts) n (length d.picks)
      go None q = (d, over_at c.adts m.adts n ∙ ap (λ o. option_or o (slice_get m.adts n)) q ∙ e, refl)
      go (Some x) q =
          let s = (fits.adts n x q).shape in
          let p : s.0 ≡ d = same_Some s.0 d (sym s.1 ∙ e) in
          (x, over_begins c.adts m.adts n x q, sym s.2 ∙ ap (λ (y : Def). length y.picks) p)

  from_sight : (n : ℕ) (d : Def) → slice_get (over c.adts m.adts) n ≡ Some d → HasShape m.adts n (length d.picks)
  from_sight n d e = go (slice_get c.adts n) refl
    where
      go : (o : Option Def) → slice_get c.adts n ≡ o → HasShape m.adts n (length d.picks)
      go None q = (d, sym (over_at c.adts m.adts n ∙ ap (λ o. option_or o (slice_get m.adts n)) q) ∙ e, refl)
      go (Some x) q =
          let s = (fits.adts n x q).shape in
          let p : x ≡ d = same_Some x d (sym (over_begins c.adts m.adts n x q) ∙ e) in
          (s.0, s.1, s.2 ∙ ap (λ (y : Def). length y.picks) p)

  pub named_there : (t : Ty) → IsNamed m t → IsNamed (sight m c) t
  named_there t h = (
    shaped_names m.adts (over c.adts m.adts) to_sight (length m.interfaces) (length (over c.interfaces m.interfaces))
        (at_least c.interfaces m.interfaces) t h.0,
    h.1,
  )

  pub named_back : (t : Ty) → IsNamed (sight m c) t → IsNamed m t
  named_back t h = (
    shaped_names (over c.adts m.adts) m.adts from_sight (length (over c.interfaces m.interfaces)) (length m.interfaces)
        (at_most c.interfaces m.interfaces few_interfaces) t h.0,
    h.1,
  )

  all_there : (ts : List Ty) → NamesAll m ts → NamesAll (sight m c) ts
  all_there ts h = each_as (IsNamed m) (IsNamed (sight m c)) ts named_there h

  signature_there : (s : Signature) → SoundSignature m s → SoundSignature (sight m c) s
  signature_there s h = (all_there s.of.args h.0, named_there s.of.answer h.1)

  signatures_there : (ss : List Signature) → Each (SoundSignature m) ss → Each (SoundSignature (sight m c)) ss
  signatures_there ss h = each_as (SoundSignature m) (SoundSignature (sight m c)) ss signature_there h

  pub types_there : HasTypes m → HasTypes (sight m c)
  types_there types = record {
    fields = λ n d t e i. field n d t i e (slice_get c.adts n) refl;
    globals = each_as (λ (v : Var). IsNamed m v.ty) (λ (v : Var). IsNamed (sight m c) v.ty) m.globals (λ v h. named_there v.ty h)
        types.globals;
    functions = each_as (λ (f : Function). IsNamedFunction m f.of) (λ (f : Function). IsNamedFunction (sight m c) f.of) m.functions
        (λ f h. (all_there f.of.args h.0, named_there f.of.answer h.1)) types.functions;
    interfaces = each_over (λ (i : Interface). Each (SoundSignature (sight m c)) i.functions) c.interfaces m.interfaces
        (each_of (λ (i : Interface). Each (SoundSignature (sight m c)) i.functions) c.interfaces
        (λ n i e. signatures_there i.functions (fits.interfaces n i e).1))
        (each_as (λ (i : Interface). Each (SoundSignature m) i.functions) (λ (i : Interface). Each (SoundSignature (sight m c)) i.functions)
        m.interfaces (λ i h. signatures_there i.functions h) types.interfaces);
  }
    where
      field : (n : ℕ) (d : Def) (t : Ty) → Has (field_types d) t → slice_get (over c.adts m.adts) n ≡ Some d → (o : Option Def)
          → slice_get c.adts n ≡ o → IsNamed (sight m c) t
      field n d t i e None q =
          named_there t
          (types.fields n d t (sym (over_at c.adts m.adts n ∙ ap (λ o. option_or o (slice_get m.adts n)) q) ∙ e) i)
      field n d t i e (Some x) q =
          let p : x ≡ d = same_Some x d (sym (over_begins c.adts m.adts n x q) ∙ e) in
          named_there t ((fits.adts n x q).fields t (subst (λ (y : Def). Has (field_types y) t) (sym p) i))

  pub describes_there : (b : Body) → Known m c b → Describes (sight m c) c
  describes_there b k = record {
    adts = over_begins c.adts m.adts;
    modules = let a = fits.modules in let l = at_least c.interfaces m.interfaces in omega arith;
    interfaces = over_begins c.interfaces m.interfaces;
    globals = k.globals;
    functions = k.functions;
    system = k.system;
    fd = λ n e. let a = k.fd n e in let l = at_least c.adts m.adts in omega arith;
    constants = k.constants;
    types = k.types;
    imports = k.imports;
  }

  pub well_there : (b : Body) → Known m c b → IsWell (sight m c) c b
  well_there b k = record {
    named = each_as (λ (v : Var). IsNamed m v.ty) (λ (v : Var). IsNamed (sight m c) v.ty) b.variables (λ v h. named_there v.ty h) k.named;
    imported = k.imported;
  }
