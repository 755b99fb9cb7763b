-- Calls: what there is of parts, and when there is none.
use Rattle.std.proofs.Common.{◌≡◌, ◌+◌, ◌<◌, ◌≤◌, ℕ, suc, List, [], ◌∷◌, ◌++◌, map, drop, length}
use Rattle.std.proofs.Common.{get_or, Bool, true, Option, None, Some, option_map, refl, sym, ap, subst, ◌∙◌, arith}
use Rattle.std.specs.Prelude.{slice_get, IfSome, IfNone}
use Rattle.std.proofs.lemmas.Option.{same_Some, slice_get-map}
use Rattle.std.proofs.lemmas.List.{drop_all}
use Rattle.std.proofs.Math.Seq.{drop-cons}
use Rattle.limbo_types.specs.declared.ty.Ty as code_ty
use Rattle.limbo_types.specs.declared.ty.Ty.TheVariants as make
use Rattle.limbo_types.specs.View.{view_ty}
use Rattle.limbo_layout.specs.declared.def.Field as code_field
use Rattle.limbo_layout.specs.declared.def.Variant as code_variant
use Rattle.limbo_layout.specs.declared.def.AdtDef as code_def
use Rattle.limbo_layout.specs.View.{view_fields, view_variant, view_def}
use Rattle.limbo_types.specs.Same.{same}
use Rattle.limbo_types.proofs.Same.{only}
use Rattle.limbo_types.proofs.View.{view_ty-Module}
use Rattle.limbo_typed.specs.declared.expr.TExpr as code_expr
use Rattle.limbo_typed.specs.View.{view_expr}
use Rattle.limbo_typed.proofs.View.{view_expr-out}
use Rattle.limbo_types.specs.Types as ty
use Rattle.limbo_types.specs.Types.{Ty, FnTy, Adt}
use Rattle.limbo_layout.specs.Adts.{Def, Variant, types_of}
use Rattle.limbo_typed.specs.declared.operation.Operation.TheVariants as op
use Rattle.limbo_typed.specs.Typed.{Expr, Of, Exprs, Apply, Call, CallThrough, Module, Var, Function, Interface, Signature}
use Rattle.limbo_typed.specs.Fitting.{AllStand, TakesFields}
use Rattle.limbo_typed.specs.Sound as sound
use Rattle.limbo_refusals.specs.Refusals.{Refusal, NoneIs}
use Rattle.limbo_arguments.specs.limbo_standing.Standing.{SettleEach}
use Rattle.limbo_arguments.specs.Failing.{FailsEach}
use Rattle.limbo_arguments.proofs.Each.{each_once, each_stand, each_fails}
use Rattle.limbo_calls.specs.Calls.{Calls, CallsThrough, Constructs, HasFields, FieldsOf, PassesNone}
use Rattle.limbo_allowed.specs.Allowed.{IsUserModule}
use Rattle.limbo_calls.specs.Refusing.{RefusesThrough, RefusesConstruct}
use Rattle.limbo_calls.specs.Refusing as refusing
use Rattle.limbo_calls.specs.Laws.{IsFit}

-- ---- what was answered

pub some_of : {A : Type 0} (o : Option A) (P : A → Type 0) (x : A) → o ≡ Some x → IfSome o P → P x
some_of (Some y) P x e h = let q : y ≡ x = cc in subst P q h
some_of None P x e h = absurd cc

pub none_of : {A : Type 0} (o : Option A) (P : Type 0) → ((x : A) → o ≡ Some x → ⊥) → IfNone o P → P
none_of (Some y) P never h = absurd (never y refl)
none_of None P never h = h

pub through_type : (e d : code_expr.TExpr) (n : ℕ) (b : Bool) → d ≡ e → b ≡ same (view_ty d.ty) (view_ty (make.Module n)) → b ≡ true
    → sound.type_of (view_expr e) ≡ ty.Module n
through_type e d n b p q t =
    ap sound.type_of (view_expr-out e) ∙ ap (λ (x : code_expr.TExpr). view_ty x.ty) (sym p)
    ∙ only (view_ty d.ty) (view_ty (make.Module n)) (sym q ∙ t) ∙ view_ty-Module n

-- ---- parameters

rest_at : (ts : List code_ty.Ty) (i : ℕ) (x : code_ty.Ty) → i < length ts → x ≡ get_or ts i x → drop i ts ≡ x ∷ drop (i + 1) ts
rest_at ts i x l is =
    drop-cons ts i x l ∙ ap (λ (y : code_ty.Ty). y ∷ drop (suc i) ts) (sym is)
    ∙ ap (λ n. x ∷ drop n ts) (let e : suc i ≡ i + 1 = omega arith in e)

pub pass_here : (system : Option ℕ) (ts : List code_ty.Ty) (i : ℕ) (x : code_ty.Ty) → i < length ts → x ≡ get_or ts i x
    → PassesNone system (map view_ty (drop i ts))
    → (IsUserModule system (view_ty x) → ⊥) × PassesNone system (map view_ty (drop (i + 1) ts))
pass_here system ts i x l is h =
    let e : drop i ts ≡ x ∷ drop (i + 1) ts = rest_at ts i x l is in
    subst (λ (us : List code_ty.Ty). PassesNone system (map view_ty us)) e h

pub pass_more : (system : Option ℕ) (ts : List code_ty.Ty) (i : ℕ) (x : code_ty.Ty) → i < length ts → x ≡ get_or ts i x
    → (IsUserModule system (view_ty x) → ⊥) → PassesNone system (map view_ty (drop (i + 1) ts))
    → PassesNone system (map view_ty (drop i ts))
pass_more system ts i x l is never h =
    let e : drop i ts ≡ x ∷ drop (i + 1) ts = rest_at ts i x l is in
    subst (λ (us : List code_ty.Ty). PassesNone system (map view_ty us)) (sym e) (never, h)

pub pass_over : (system : Option ℕ) (ts : List code_ty.Ty) (i : ℕ) → length ts ≤ i → PassesNone system (map view_ty (drop i ts))
pass_over system ts i l = subst (λ (us : List code_ty.Ty). PassesNone system (map view_ty us)) (sym (drop_all i ts l)) tt

-- ---- fields

abbrev pub field_type : code_field.Field → Ty
field_type f = view_ty f.ty

pub field_types_are : (fs : List code_field.Field) → types_of (view_fields fs) ≡ map field_type fs
field_types_are [] = refl
field_types_are (f ∷ fs) = ap (λ ts. view_ty f.ty ∷ ts) (field_types_are fs)

pub fields_found : (d : code_def.AdtDef) (variant : Option ℕ) (v : ℕ) (own : code_variant.Variant) (ts : List Ty) → variant ≡ Some v
    → slice_get d.picks.items v ≡ Some own → ts ≡ types_of (view_fields d.fields.items) ++ types_of (view_fields own.fields.items)
    → HasFields (view_def d) variant ts
fields_found d variant v own ts e there types =
    subst (λ (o : Option ℕ). HasFields (view_def d) o ts) (sym e)
    (view_variant own, slice_get-map view_variant d.picks.items v ∙ ap (option_map view_variant) there, types)

-- ---- when there is none

pub call_none : (function : ℕ) (of : FnTy) (args : Exprs) (r : Refusal) → FailsEach of.answer of.args args r
    → FailsEach of.answer of.args args r × NoneIs (Calls function of args)
call_none function of args r h = (h, λ e k. each_fails of.answer of.args args k.values r h k.arguments)

pub through_none : (system : Option ℕ) (instance : Expr) (interface function : ℕ) (of : FnTy) (args : Exprs) (r : Refusal)
    → RefusesThrough system instance interface of args r
    → RefusesThrough system instance interface of args r × NoneIs (CallsThrough system instance interface function of args)
through_none system instance interface function of args r (refusing.no_module never p) =
    (refusing.no_module never p, λ e k. never k.through)
through_none system instance interface function of args r (refusing.unlike t f) =
    (refusing.unlike t f, λ e k. each_fails of.answer of.args args k.values r f k.arguments)
through_none system instance interface function of args r (refusing.passes vs t a never p) =
    (refusing.passes vs t a never p, λ e k. never k.passes_none)

has_fields_once : (d : Def) (variant : Option ℕ) (ts us : List Ty) → HasFields d variant ts → HasFields d variant us → ts ≡ us
has_fields_once d None ts us h k = h.1 ∙ sym k.1
has_fields_once d (Some v) ts us h k =
    let p : h.0 ≡ k.0 = same_Some h.0 k.0 (sym h.1 ∙ k.1) in
    h.2 ∙ ap (λ (w : Variant). types_of d.fields ++ types_of w.fields) p ∙ sym k.2

pub fields_once : (defs : List Def) (adt : ℕ) (variant : Option ℕ) (ts us : List Ty) → FieldsOf defs adt variant ts
    → FieldsOf defs adt variant us
    → ts ≡ us
fields_once defs adt variant ts us h k =
    let p : h.def ≡ k.def = same_Some h.def k.def (sym h.there ∙ k.there) in
    has_fields_once k.def variant ts us (subst (λ (d : Def). HasFields d variant ts) p h.fields) k.fields

pub construct_none : (defs : List Def) (adt : ℕ) (variant : Option ℕ) (args : Exprs) (r : Refusal)
    → RefusesConstruct defs adt variant args r
    → RefusesConstruct defs adt variant args r × NoneIs (Constructs defs adt variant args)
construct_none defs adt variant args r (refusing.no_value never p) = (refusing.no_value never p, λ e k. never k.types k.fields)
construct_none defs adt variant args r (refusing.unlike_field ts h f) = (
  refusing.unlike_field ts h f,
  λ e k. each_fails (Adt adt) ts args k.values r f
      (subst (λ (z : List Ty). SettleEach z args k.values) (fields_once defs adt variant k.types ts k.fields h) k.arguments),
)

-- ---- one at most

pub one_call : (function : ℕ) (of : FnTy) (args : Exprs) (e f : Expr) → Calls function of args e → Calls function of args f → e ≡ f
one_call function of args e f h k =
    h.gives ∙ ap (λ z. Of of.answer (Call function z)) (each_once of.args args h.values k.values h.arguments k.arguments) ∙ sym k.gives

pub one_through : (system : Option ℕ) (instance : Expr) (interface function : ℕ) (of : FnTy) (args : Exprs) (e f : Expr)
    → CallsThrough system instance interface function of args e → CallsThrough system instance interface function of args f → e ≡ f
one_through system instance interface function of args e f h k =
    h.gives
    ∙ ap (λ z. Of of.answer (CallThrough instance interface function z)) (each_once of.args args h.values k.values h.arguments k.arguments)
    ∙ sym k.gives

pub one_construct : (defs : List Def) (adt : ℕ) (variant : Option ℕ) (args : Exprs) (e f : Expr)
    → Constructs defs adt variant args e → Constructs defs adt variant args f → e ≡ f
one_construct defs adt variant args e f h k =
    let p : h.types ≡ k.types = fields_once defs adt variant h.types k.types h.fields k.fields in
    let q : SettleEach k.types args h.values = subst (λ (z : List Ty). SettleEach z args h.values) p h.arguments in
    h.gives ∙ ap (λ z. Of (Adt adt) (Apply (op.Adt adt variant) z)) (each_once k.types args h.values k.values q k.arguments) ∙ sym k.gives

-- ---- soundness

pub call_fits : (m : Module) (vs : List Var) (function : ℕ) (f : Function) (args : Exprs) (e : Expr)
    → slice_get m.functions function ≡ Some f → Calls function f.of args e → IsFit m vs e
call_fits m vs function f args e there h =
    subst (IsFit m vs) (sym h.gives)
    (λ parts. (parts, record { function = f; there = there; takes = (each_stand f.of.args args h.values h.arguments, refl) }))

pub through_fits : (m : Module) (vs : List Var) (instance : Expr) (interface function : ℕ) (i : Interface) (s : Signature)
    (args : Exprs) (e : Expr)
    → slice_get m.interfaces interface ≡ Some i → slice_get i.functions function ≡ Some s
    → CallsThrough m.system instance interface function s.of args e → IsFit m vs e
through_fits m vs instance interface function i s args e there declared h =
    subst (IsFit m vs) (sym h.gives)
    (λ parts. (
      parts.0,
      h.through,
      parts.1,
      record {
        of = i;
        there = there;
        member = s;
        declared = declared;
        takes = (each_stand s.of.args args h.values h.arguments, refl);
      },
    ))

takes_fields : (d : Def) (variant : Option ℕ) (ts us : List Ty) → HasFields d variant ts → AllStand us ts → TakesFields d variant us
takes_fields d None ts us h s = (h.0, subst (AllStand us) h.1 s)
takes_fields d (Some v) ts us h s = (h.0, h.1, subst (AllStand us) h.2 s)

pub construct_fits : (m : Module) (vs : List Var) (adt : ℕ) (variant : Option ℕ) (args : Exprs) (e : Expr)
    → Constructs m.adts adt variant args e → IsFit m vs e
construct_fits m vs adt variant args e h =
    let s = each_stand h.types args h.values h.arguments in
    subst (IsFit m vs) (sym h.gives)
    (λ parts. (
      parts,
      record {
        def = h.fields.def;
        there = h.fields.there;
        fields = takes_fields h.fields.def variant h.types (sound.types_of h.values) h.fields.fields s;
        result = refl;
      },
    ))
