-- What names, members and parts are has nodes alone that what stands before them has, and others that store nothing.
use Rattle.std.proofs.Common.{◌≡◌, ℕ, Bool, true, false, cond, List, Option, None, Some, option_map, sym, subst}
use Rattle.std.specs.Prelude.{slice_get, ◌-◌, length}
use Rattle.inf_text.specs.Options.{◌>>=◌}
use Rattle.limbo_types.specs.Types as ty
use Rattle.limbo_types.specs.Types.{Ty}
use Rattle.limbo_layout.specs.Adts.{Def}
use Rattle.limbo_typed.specs.declared.print.Printed.{Printed}
use Rattle.limbo_typed.specs.declared.stmt.Constant.{Constant}
use Rattle.limbo_typed.specs.declared.stmt.Constant.TheVariants as constant
use Rattle.limbo_typed.specs.Typed.{Expr, Of, Node, Optional, Absent, Present, Local, Global, Interface, Signature, Var}
use Rattle.limbo_typed.specs.Typed.{Number, Chars, Read, Part, At, Field, Target}
use Rattle.limbo_scope.specs.declared.meaning.Meaning.{Meaning}
use Rattle.limbo_scope.specs.declared.meaning.Meaning.TheVariants as meaning
use Rattle.limbo_context.specs.declared.context.Imported.{Imported}
use Rattle.limbo_context.specs.declared.context.Origin.{Origin}
use Rattle.limbo_context.specs.declared.context.Origin.TheVariants as origin
use Rattle.limbo_context.specs.Context.{Context, Body, Valued, named_in}
use Rattle.limbo_places.specs.Places.{read}
use Rattle.limbo_places.specs.Targets as targets
use Rattle.limbo_places.specs.Targets.{Selects}
use Rattle.limbo_things.specs.Things as things
use Rattle.limbo_things.specs.Things.{Thing, AValue, AType, AVariant, AMember, APrint, NameIs, MemberIs, PartIs, PartOfValue, PartOfAdt}
use Rattle.limbo_things.specs.Things.{declared, variable, printed_at, is_number, print_at, function_among, function_at}
use Rattle.limbo_things.specs.Things.{function_through, export, exported, through_of, export_from, imported, meant}
use Rattle.limbo_things.specs.Things.{adt_member, member_at, constant_value}
use Rattle.limbo_typed_stores.specs.Nodes.{AllNodes, InOptional, InThing}
use Rattle.limbo_typed_stores.proofs.Settled.{StoresNothing}

module _ (P : Node → Type 0) (plain : (n : Node) → StoresNothing n → P n) where
  -- of a thing, if there is one
  abbrev InMaybe : Option Thing → Type 0
  InMaybe None = Unit {0}
  InMaybe (Some t) = InThing P t

  abbrev MaybeNodes : Option Expr → Type 0
  MaybeNodes None = Unit {0}
  MaybeNodes (Some e) = AllNodes P e

  abbrev MaybeThrough : Option Optional → Type 0
  MaybeThrough None = Unit {0}
  MaybeThrough (Some o) = InOptional P o

  there : (o : Option Thing) (t : Thing) → o ≡ Some t → InMaybe o → InThing P t
  there o t e h = subst (λ (z : Option Thing). InMaybe z) e h

  bound : (A : Type 0) (o : Option A) (f : A → Option Thing) → ((a : A) → InMaybe (f a)) → InMaybe (o >>= f)
  bound A None f h = tt
  bound A (Some a) f h = h a

  -- ---- constants, types and variables

  in_constant : (v : Valued) → AllNodes P (constant_value v)
  in_constant v = go v.value
    where
      go : (k : Constant) → AllNodes P (Of v.ty (things.literal k))
      go (constant.Number n) = (plain (Number n) tt, tt)
      go (constant.Chars s) = (plain (Chars s) tt, tt)

  in_constant_at : (o : Option Valued) → InMaybe (option_map (λ v. AValue (constant_value v)) o)
  in_constant_at None = tt
  in_constant_at (Some v) = in_constant v

  in_type_at : (o : Option Ty) → InMaybe (option_map AType o)
  in_type_at None = tt
  in_type_at (Some t) = tt

  in_declared : (c : Context) (m : Meaning) → InMaybe (declared c m)
  in_declared c (meaning.Constant n) = in_constant_at (slice_get c.constants n)
  in_declared c (meaning.Type n) = in_type_at (slice_get c.types n)
  in_declared c (meaning.Adt n) = tt
  in_declared c (meaning.Module n) = tt
  in_declared c _ = tt

  in_local : (o : Option Var) (n : ℕ) → MaybeNodes (option_map (λ v. read v.ty (Local n)) o)
  in_local None n = tt
  in_local (Some v) n = (plain (Read (At v.ty (Local n))) tt, tt)

  in_global : (o : Option Var) (n : ℕ) → MaybeNodes (option_map (λ v. read v.ty (Global n)) o)
  in_global None n = tt
  in_global (Some v) n = (plain (Read (At v.ty (Global n))) tt, tt)

  as_thing : (o : Option Expr) → MaybeNodes o → InMaybe (option_map AValue o)
  as_thing None h = tt
  as_thing (Some e) h = h

  as_through : (o : Option Expr) → MaybeNodes o → MaybeThrough (option_map Present o)
  as_through None h = tt
  as_through (Some e) h = h

  -- ---- members of modules

  in_print : (o : Option Printed) (e : Expr) → AllNodes P e → InMaybe (option_map (λ p. APrint p e) o)
  in_print None e h = tt
  in_print (Some p) e h = h

  in_print_at : (system : Option ℕ) (i n : ℕ) (e : Expr) → AllNodes P e → InMaybe (print_at system i n e)
  in_print_at system i n e h = go (is_number system i)
    where
      go : (b : Bool) → InMaybe (cond b (option_map (λ p. APrint p e) (printed_at n)) None)
      go true = in_print (printed_at n) e h
      go false = tt

  in_function : (system : Option ℕ) (i j : ℕ) (functions : List Signature) (e : Expr) → AllNodes P e
      → InMaybe (function_among system i j functions e)
  in_function system i j functions e h = go (slice_get functions j)
    where
      go : (o : Option Signature)
          → InMaybe (elim o [ Some s ↦ Some (AMember e i j) | None ↦ print_at system i (j - length functions) e ])
      go None = in_print_at system i (j - length functions) e h
      go (Some s) = h

  in_function_at : (c : Context) (i j : ℕ) (e : Expr) → AllNodes P e → InMaybe (function_at c i j e)
  in_function_at c i j e h =
      bound Interface (slice_get c.interfaces i) (λ of. function_among c.system i j of.functions e)
      (λ of. in_function c.system i j of.functions e h)

  in_function_through : (c : Context) (i j : ℕ) (o : Optional) → InOptional P o → InMaybe (function_through c i j o)
  in_function_through c i j Absent h = tt
  in_function_through c i j (Present e) h = in_function_at c i j e h

  in_export : (c : Context) (i : ℕ) (o : Optional) → InOptional P o → (m : Meaning) → InMaybe (export c i o m)
  in_export c i o h (meaning.Function j) = in_function_through c i j o h
  in_export c i o h m = in_declared c m

  in_exported : (c : Context) (i : ℕ) (o : Optional) (name : List ℕ) → InOptional P o → InMaybe (exported c i o name)
  in_exported c i o name h = bound Meaning (named_in c.exports i name) (export c i o) (in_export c i o h)

  pub in_member : (c : Context) (name : List ℕ) (s t : Thing) → MemberIs c name s t → InThing P s → InThing P t
  in_member c name (AValue e) t m h = there (exported c m.0 (Present e) name) t m.2 (in_exported c m.0 (Present e) name h)
  in_member c name (AType u) t m h = there (exported c m.0 Absent name) t m.2 (in_exported c m.0 Absent name tt)
  in_member c name _ t m h = absurd m

  -- ---- names

  in_through : (c : Context) (b : Body) (o : Origin) → MaybeThrough (through_of c b o)
  in_through c b (origin.Local x) = as_through (variable Local b.variables x) (in_local (slice_get b.variables x) x)
  in_through c b (origin.Global x) = as_through (variable Global c.globals x) (in_global (slice_get c.globals x) x)
  in_through c b origin.Type = tt

  in_export_from : (c : Context) (i : Imported) (o : Option Optional) → MaybeThrough o → InMaybe (export_from c i o)
  in_export_from c i None h = tt
  in_export_from c i (Some o) h = in_export c i.interface o h i.member

  in_meant : (c : Context) (b : Body) (m : Meaning) → InMaybe (meant c b m)
  in_meant c b (meaning.Variable n) = as_thing (variable Local b.variables n) (in_local (slice_get b.variables n) n)
  in_meant c b (meaning.Global n) = as_thing (variable Global c.globals n) (in_global (slice_get c.globals n) n)
  in_meant c b (meaning.Function n) = tt
  in_meant c b (meaning.Exception n) = tt
  in_meant c b (meaning.Import n) =
      bound Imported (slice_get c.imports n) (imported c b)
      (λ i. in_export_from c i (through_of c b i.origin) (in_through c b i.origin))
  in_meant c b m = in_declared c m

  pub in_name : (c : Context) (b : Body) (name : List ℕ) (t : Thing) → NameIs c b name t → InThing P t
  in_name c b name t n = there (meant c b n.means) t n.is (in_meant c b n.means)

  -- ---- parts, and members of adts

  in_adt_member : (c : Context) (o : Optional) → InOptional P o → (m : Meaning) → InMaybe (adt_member c o m)
  in_adt_member c o h (meaning.Function n) = h
  in_adt_member c o h m = in_declared c m

  in_member_at : (c : Context) (a : ℕ) (o : Optional) (name : List ℕ) → InOptional P o → InMaybe (member_at c a o name)
  in_member_at c a o name h = bound Meaning (named_in c.members a name) (adt_member c o) (in_adt_member c o h)

  pub selected : (defs : List Def) (name : List ℕ) (e x : Expr) → Selects defs name e x → AllNodes P e → AllNodes P x
  selected _ _ _ _ (targets.Selects.in_place of p k t q n s) h = (plain (Read (At t (Field p k))) tt, h.1)
  selected _ _ _ _ (targets.Selects.in_value of n k t q i m s) h = (plain (Part (Of of n) k) tt, h)
  selected _ _ _ _ (targets.in_target adt e k t r n s) h = (plain (Read (At t (Field (At (ty.Adt adt) (Target e)) k))) tt, h)

  of_value : (c : Context) (name : List ℕ) (e : Expr) (t : Thing) → PartOfValue c name e t → AllNodes P e → InThing P t
  of_value c name e t (things.a_part x s q) h = subst (λ (z : Thing). InThing P z) (sym q) (selected c.adts name e x s h)
  of_value c name e t (things.a_member a n q m) h = there (member_at c a (Present e) name) t m (in_member_at c a (Present e) name h)

  of_adt : (c : Context) (name : List ℕ) (a : ℕ) (t : Thing) → PartOfAdt c name a t → InThing P t
  of_adt c name a t (things.adt_has m) = there (member_at c a Absent name) t m (in_member_at c a Absent name tt)
  of_adt c name a t (things.a_variant v n i q) = subst (λ (z : Thing). InThing P z) (sym q) tt

  pub in_part : (c : Context) (name : List ℕ) (s t : Thing) → PartIs c name s t → InThing P s → InThing P t
  in_part c name (AValue e) t m h = of_value c name e t m h
  in_part c name (AType (ty.Adt a)) t m h = of_adt c name a t m
  in_part c name (AVariant a v) t m h = there (member_at c a Absent name) t m (in_member_at c a Absent name tt)
  in_part c name _ t m h = absurd m
