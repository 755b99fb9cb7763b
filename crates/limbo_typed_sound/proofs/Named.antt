-- What names, members and parts are is ready, where what stands before them is.
use Rattle.std.proofs.Common.{◌≡◌, ℕ, Bool, true, false, cond, List, Option, None, Some, option_map, refl, sym, ap, subst, ◌∙◌, inl}
use Rattle.std.specs.Prelude.{slice_get, ◌-◌, length}
use Rattle.std.proofs.lemmas.Bool.{eqb-true}
use Rattle.inf_text.specs.Options.{◌>>=◌}
use Rattle.limbo_types.specs.Types as ty
use Rattle.limbo_types.specs.Types.{Ty, Tys, Tuple, Adt, RefAdt, RefPick}
use Rattle.limbo_layout.specs.Adts.{listed}
use Rattle.limbo_typed.specs.declared.print.Printed.{Printed}
use Rattle.limbo_typed.specs.declared.stmt.Constant.{Constant}
use Rattle.limbo_typed.specs.declared.stmt.Constant.TheVariants as constant
use Rattle.limbo_typed.specs.Typed.{Expr, Of, Optional, Absent, Present, Local, Global, Interface, Signature, Var, Module}
use Rattle.limbo_typed.specs.Typed.{PlaceNode}
use Rattle.limbo_typed.specs.Fitting.{IsConstant}
use Rattle.limbo_typed.specs.Sound.{type_of, IsSettled, IsNamed, HasVariable, SoundExpr}
use Rattle.limbo_scope.specs.declared.meaning.Meaning.{Meaning}
use Rattle.limbo_scope.specs.declared.meaning.Meaning.TheVariants as meaning
use Rattle.limbo_scope.specs.Scopes.{seen}
use Rattle.limbo_fields.specs.Fields as fields
use Rattle.limbo_fields.proofs.Named.{there as part_there}
use Rattle.limbo_context.specs.declared.context.Imported.{Imported}
use Rattle.limbo_context.specs.declared.context.Origin.{Origin}
use Rattle.limbo_context.specs.declared.context.Origin.TheVariants as origin
use Rattle.limbo_context.specs.Context.{Context, Body, Valued, named_in}
use Rattle.limbo_places.specs.Places.{read}
use Rattle.limbo_places.specs.Targets as targets
use Rattle.limbo_places.specs.Targets.{Selects}
use Rattle.limbo_places.proofs.Sound.{parts_sound}
use Rattle.limbo_places.proofs.Targets.{parts_settled, ref_settled}
use Rattle.limbo_typing.specs.limbo_things.Things as things
use Rattle.limbo_typing.specs.limbo_things.Things.{Thing, AValue, AType, AVariant, AMember, APrint, NameIs, MemberIs, PartIs, PartOfValue, PartOfAdt}
use Rattle.limbo_typing.specs.limbo_things.Things.{declared, variable, printed_at, is_number, print_at, function_among, function_at}
use Rattle.limbo_typing.specs.limbo_things.Things.{function_through, export, exported, through_of, export_from, imported, meant}
use Rattle.limbo_typing.specs.limbo_things.Things.{adt_member, member_at, constant_value}
use Rattle.limbo_typed_sound.specs.Describing.{Begins, HasTypes, Describes, IsWell, IsThrough}
use Rattle.limbo_typed_sound.proofs.Lists.{each_at}
use Rattle.limbo_typed_sound.proofs.Ready.{Ready, ReadyMaybe, as_ready, sound, is_named, all_named}
use Rattle.limbo_typed_sound.proofs.More.{more_selects, part_named}
use Rattle.limbo_typed_sound.proofs.Built.{ReadyThing}

number_is : (o : Option ℕ) (n : ℕ) → is_number o n ≡ true → o ≡ Some n
number_is None n e = absurd cc
number_is (Some k) n e = ap (λ (z : ℕ). Some z) (eqb-true k n e)

constant_named : (m : Module) (t : Ty) (k : Constant) → IsConstant t k → IsNamed m t
constant_named m t (constant.Chars s) e = subst (IsNamed m) (sym e) (tt, tt)
constant_named m ty.Byte (constant.Number n) h = (tt, tt)
constant_named m ty.Int (constant.Number n) h = (tt, tt)
constant_named m ty.Big (constant.Number n) h = (tt, tt)
constant_named m _ (constant.Number n) h = absurd h

module _ (m : Module) (vs : List Var) (c : Context) (types : HasTypes m) (describes : Describes m c) where
  abbrev Is : Thing → Type 0
  Is t = ReadyThing m vs c types describes t

  -- a thing, if there is one
  abbrev Maybe : Option Thing → Type 0
  Maybe None = Unit {0}
  Maybe (Some t) = Is t

  -- a value of a module of this number, if there is one
  abbrev IsOfModule : ℕ → Expr → Type 0
  IsOfModule i e = Ready m vs e × (type_of e ≡ ty.Module i)

  abbrev Through : ℕ → Optional → Type 0
  Through i Absent = Unit {0}
  Through i (Present e) = IsOfModule i e

  abbrev MaybeThrough : ℕ → Option Optional → Type 0
  MaybeThrough i None = Unit {0}
  MaybeThrough i (Some o) = Through i o

  there : (o : Option Thing) (t : Thing) → o ≡ Some t → Maybe o → Is t
  there o t e h = subst Maybe e h

  bound : (A : Type 0) (o : Option A) (f : A → Option Thing) → ((a : A) → o ≡ Some a → Maybe (f a)) → Maybe (o >>= f)
  bound A None f h = tt
  bound A (Some a) f h = h a refl

  -- ---- constants, types and variables

  of_constant : (v : Valued) → IsConstant v.ty v.value → SoundExpr m vs (constant_value v)
  of_constant v h = go v.ty v.value h
    where
      go : (t : Ty) (k : Constant) → IsConstant t k → SoundExpr m vs (Of t (things.literal k))
      go t (constant.Number n) h = (constant_named m t (constant.Number n) h, h)
      go t (constant.Chars s) h = (constant_named m t (constant.Chars s) h, h)

  constant_at : (o : Option Valued) → ((v : Valued) → o ≡ Some v → IsConstant v.ty v.value)
      → Maybe (option_map (λ v. AValue (constant_value v)) o)
  constant_at None h = tt
  constant_at (Some v) h = inl (of_constant v (h v refl))

  type_at : (o : Option Ty) → Maybe (option_map AType o)
  type_at None = tt
  type_at (Some t) = tt

  as_declared : (k : Meaning) → Maybe (declared c k)
  as_declared (meaning.Constant n) =
      constant_at (slice_get c.constants n) (λ v e. each_at (λ x. IsConstant x.ty x.value) c.constants n v e describes.constants)
  as_declared (meaning.Type n) = type_at (slice_get c.types n)
  as_declared (meaning.Adt n) = tt
  as_declared (meaning.Module n) = tt
  as_declared _ = tt

  a_local : (x : ℕ) (v : Var) → slice_get vs x ≡ Some v → IsNamed m v.ty → SoundExpr m vs (read v.ty (Local x))
  a_local x v e n = (n, ((n, (v, e, refl)), refl))

  a_global : (x : ℕ) (v : Var) → slice_get c.globals x ≡ Some v → SoundExpr m vs (read v.ty (Global x))
  a_global x v e =
      let f = describes.globals x v e in
      let n = each_at (λ w. IsNamed m w.ty) m.globals x v f types.globals in
      (n, ((n, (v, f, refl)), refl))

  value_at : (place : ℕ → PlaceNode) (x : ℕ) (o : Option Var) → ((v : Var) → o ≡ Some v → SoundExpr m vs (read v.ty (place x)))
      → Maybe (option_map AValue (option_map (λ v. read v.ty (place x)) o))
  value_at place x None h = tt
  value_at place x (Some v) h = inl (h v refl)

  through_at : (i : ℕ) (place : ℕ → PlaceNode) (x : ℕ) (o : Option Var)
      → ((v : Var) → o ≡ Some v → SoundExpr m vs (read v.ty (place x)) × (v.ty ≡ ty.Module i))
      → MaybeThrough i (option_map Present (option_map (λ v. read v.ty (place x)) o))
  through_at i place x None h = tt
  through_at i place x (Some v) h = let k = h v refl in (inl k.0, k.1)

  -- ---- members of modules

  a_print : (o : Option Printed) (i : ℕ) (e : Expr) → IsOfModule i e → c.system ≡ Some i → Maybe (option_map (λ p. APrint p e) o)
  a_print None i e h q = tt
  a_print (Some p) i e h q = (h.0, (i, sym describes.system ∙ q, h.1))

  print_there : (i n : ℕ) (e : Expr) → IsOfModule i e → Maybe (print_at c.system i n e)
  print_there i n e h = go (is_number c.system i) refl
    where
      go : (b : Bool) → is_number c.system i ≡ b → Maybe (cond b (option_map (λ p. APrint p e) (printed_at n)) None)
      go true q = a_print (printed_at n) i e h (number_is c.system i q)
      go false q = tt

  a_function : (i j : ℕ) (functions : List Signature) (e : Expr) → IsOfModule i e → Maybe (function_among c.system i j functions e)
  a_function i j functions e h = go (slice_get functions j)
    where
      go : (o : Option Signature)
          → Maybe (elim o [ Some s ↦ Some (AMember e i j) | None ↦ print_at c.system i (j - length functions) e ])
      go None = print_there i (j - length functions) e h
      go (Some s) = h.0

  a_function_at : (i j : ℕ) (e : Expr) → IsOfModule i e → Maybe (function_at c i j e)
  a_function_at i j e h =
      bound Interface (slice_get c.interfaces i) (λ of. function_among c.system i j of.functions e) (λ of q. a_function i j of.functions e
      h)

  a_function_through : (i j : ℕ) (o : Optional) → Through i o → Maybe (function_through c i j o)
  a_function_through i j Absent h = tt
  a_function_through i j (Present e) h = a_function_at i j e h

  as_export : (i : ℕ) (o : Optional) → Through i o → (k : Meaning) → Maybe (export c i o k)
  as_export i o h (meaning.Function j) = a_function_through i j o h
  as_export i o h k = as_declared k

  as_exported : (i : ℕ) (o : Optional) (name : List ℕ) → Through i o → Maybe (exported c i o name)
  as_exported i o name h = bound Meaning (named_in c.exports i name) (export c i o) (λ k q. as_export i o h k)

  pub of_member : (name : List ℕ) (s t : Thing) → MemberIs c name s t → Is s → Is t
  of_member name (AValue e) t k h = there (exported c k.0 (Present e) name) t k.2 (as_exported k.0 (Present e) name (h, k.1))
  of_member name (AType u) t k h = there (exported c k.0 Absent name) t k.2 (as_exported k.0 Absent name tt)
  of_member name _ t k h = absurd k

  -- ---- names

  module _ (b : Body) (well : IsWell m c b) (begins : Begins b.variables vs) where
    local_sound : (x : ℕ) (v : Var) → slice_get b.variables x ≡ Some v → SoundExpr m vs (read v.ty (Local x))
    local_sound x v e = a_local x v (begins x v e) (each_at (λ w. IsNamed m w.ty) b.variables x v e well.named)

    local_module : (x i : ℕ) → HasVariable b.variables x (ty.Module i) → (v : Var) → slice_get b.variables x ≡ Some v → v.ty ≡ ty.Module i
    local_module x i h v e =
        let q : Some v ≡ Some h.0 = sym e ∙ h.1 in
        let r : v ≡ h.0 = cc in
        ap (λ (w : Var). w.ty) r ∙ h.2

    as_through : (name : List ℕ) (n : ℕ) (i : Imported) → seen name b.scopes ≡ Some (meaning.Import n) → slice_get c.imports n ≡ Some i
        → (o : Origin) → i.origin ≡ o → MaybeThrough i.interface (through_of c b o)
    as_through name n i s e (origin.Local x) q =
        through_at i.interface Local x (slice_get b.variables x)
        (λ v l. (local_sound x v l, local_module x i.interface (well.imported name n x i s e q) v l))
    as_through name n i s e (origin.Global x) q =
        through_at i.interface Global x (slice_get c.globals x)
        (λ v l. (a_global x v l, each_at (IsThrough c.globals) c.imports n i e describes.imports x v q l))
    as_through name n i s e origin.Type q = tt

    from_import : (i : Imported) (o : Option Optional) → MaybeThrough i.interface o → Maybe (export_from c i o)
    from_import i None h = tt
    from_import i (Some o) h = as_export i.interface o h i.member

    as_meant : (name : List ℕ) (k : Meaning) → seen name b.scopes ≡ Some k → Maybe (meant c b k)
    as_meant name (meaning.Variable n) s = value_at Local n (slice_get b.variables n) (λ v e. local_sound n v e)
    as_meant name (meaning.Global n) s = value_at Global n (slice_get c.globals n) (λ v e. a_global n v e)
    as_meant name (meaning.Function n) s = tt
    as_meant name (meaning.Exception n) s = tt
    as_meant name (meaning.Import n) s =
        bound Imported (slice_get c.imports n) (imported c b)
        (λ i e. from_import i (through_of c b i.origin) (as_through name n i s e i.origin refl))
    as_meant name (meaning.Constant n) s = as_declared (meaning.Constant n)
    as_meant name (meaning.Type n) s = as_declared (meaning.Type n)
    as_meant name (meaning.Adt n) s = tt
    as_meant name (meaning.Module n) s = tt

    pub of_name : (name : List ℕ) (t : Thing) → NameIs c b name t → Is t
    of_name name t n = there (meant c b n.means) t n.is (as_meant name n.means n.is_seen)

  -- ---- parts, and members of adts

  as_adt_member : (o : Optional) → ReadyMaybe m vs o → (k : Meaning) → Maybe (adt_member c o k)
  as_adt_member o h (meaning.Function n) = h
  as_adt_member o h k = as_declared k

  as_member_at : (a : ℕ) (o : Optional) (name : List ℕ) → ReadyMaybe m vs o → Maybe (member_at c a o name)
  as_member_at a o name h = bound Meaning (named_in c.members a name) (adt_member c o) (λ k q. as_adt_member o h k)

  part_type : (name : List ℕ) (of : Ty) (k : ℕ) (t : Ty) → fields.Names m.adts name of k t → IsNamed m of → IsNamed m t
  part_type name _ _ _ (fields.of_adt n d k t e p) s =
      let q = part_there m.adts name (Adt n) k t (fields.of_adt n d k t e p) in part_named m types n q.0 k t q.1 q.2
  part_type name _ _ _ (fields.of_ref n d k t e p) s =
      let q = part_there m.adts name (RefAdt n) k t (fields.of_ref n d k t e p) in part_named m types n q.0 k t q.1 q.2
  part_type name _ _ _ (fields.of_variant n v d k t e p) s =
      let q = part_there m.adts name (RefPick n v) k t (fields.of_variant n v d k t e p) in part_named m types n q.0 k t q.1 q.2
  part_type name _ _ _ (fields.of_tuple ts k t i p) s = each_at (IsNamed m) (listed ts) k t p (all_named m ts s.0 s.1)

  selected_type : (name : List ℕ) (e x : Expr) → Selects m.adts name e x → IsNamed m (type_of e) → IsNamed m (type_of x)
  selected_type name _ _ (targets.Selects.in_place of p k t h n s) l = part_type name of k t n l
  selected_type name _ _ (targets.Selects.in_value of n k t h i q s) l = part_type name of k t q l
  selected_type name _ _ (targets.in_target adt e k t h n s) l = part_type name (type_of e) k t n l

  selected : (name : List ℕ) (e x : Expr) → Selects c.adts name e x → SoundExpr m vs e → SoundExpr m vs x
  selected name e x s h =
      let k = more_selects c.adts m.adts describes.adts name e x s in
      parts_sound m vs name e x k h (selected_type name e x k (is_named m vs e h))

  selected_settled : (name : List ℕ) (e x : Expr) → Selects c.adts name e x → IsSettled (type_of e)
  selected_settled name _ _ (targets.Selects.in_place of p k t h n s) = parts_settled of h
  selected_settled name _ _ (targets.Selects.in_value of n k t h i q s) = parts_settled of h
  selected_settled name _ _ (targets.in_target adt e k t h n s) = ref_settled adt (type_of e) h

  of_value : (name : List ℕ) (e : Expr) (t : Thing) → PartOfValue c name e t → Ready m vs e → Is t
  of_value name e t (things.a_part x s q) h =
      subst Is (sym q) (as_ready m vs x (selected name e x s (sound m vs e h (selected_settled name e x s))))
  of_value name e t (things.a_member a n q k) h = there (member_at c a (Present e) name) t k (as_member_at a (Present e) name h)

  of_adt : (name : List ℕ) (a : ℕ) (t : Thing) → PartOfAdt c name a t → Is t
  of_adt name a t (things.adt_has k) = there (member_at c a Absent name) t k (as_member_at a Absent name tt)
  of_adt name a t (things.a_variant v n i q) = subst Is (sym q) tt

  pub of_part : (name : List ℕ) (s t : Thing) → PartIs c name s t → Is s → Is t
  of_part name (AValue e) t k h = of_value name e t k h
  of_part name (AType (Adt a)) t k h = of_adt name a t k
  of_part name (AVariant a v) t k h = there (member_at c a Absent name) t k (as_member_at a Absent name tt)
  of_part name _ t k h = absurd k
