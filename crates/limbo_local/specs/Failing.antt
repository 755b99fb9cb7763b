-- Why declarations in bodies declare nothing (Limbo Language Reference, declarations, scope, adts and modules).
use Rattle.std.specs.Prelude.{◌≡◌, ◌≤◌, ◌<◌, ℕ, suc, Bool, true, false, List, [], ◌∷◌, length, Option, None, Some, slice_get}
use Rattle.limbo_tree.specs.Exprs as tree
use Rattle.limbo_tree.specs.Types as written
use Rattle.limbo_tree.specs.Decls as decls
use Rattle.limbo_tree.specs.Decls.{Decl, Member, VarMember, FnMember, ConMember, TypeMember, AdtMember, Members, MoreMembers}
use Rattle.limbo_types.specs.Types.{Ty, Tuple}
use Rattle.limbo_types.specs.View.{tys_of}
use Rattle.limbo_layout.specs.Adts.{Def, Has, field_types, parts}
use Rattle.limbo_typed.specs.Typed.{Expr}
use Rattle.limbo_typed.specs.Sound.{type_of, IsSettled}
use Rattle.limbo_scope.specs.declared.meaning.Meaning.{Meaning}
use Rattle.limbo_scope.specs.Scopes.{seen}
use Rattle.limbo_refusals.specs.Refusals.{Refusal, ModuleValue, TypeTooLarge}
use Rattle.limbo_allowed.specs.Allowed.{IsUserModule, RefusesType}
use Rattle.limbo_typing.specs.limbo_permits.Permits.{nodes, most_nodes}
use Rattle.limbo_typing.specs.limbo_arguments.Failing.{FailsAt}
use Rattle.limbo_declarations.specs.Scopes.{AdtIsOnce, ModuleIsOnce}
use Rattle.limbo_causes.specs.Causes.{Cause, Twice, Unknown, NotConstant, Refused, nothing}
use Rattle.limbo_context.specs.declared.context.Origin.{Origin}
use Rattle.limbo_context.specs.Context.{Context, Body, Valued, named_in}
use Rattle.limbo_typing.specs.limbo_body_types.Means.{module_led}
use Rattle.limbo_typing.specs.limbo_written.Written.{MeansPermitted, FailsAsType}
use Rattle.limbo_typing.specs.limbo_folding.Folding.{value_of}
use Rattle.limbo_typing.specs.limbo_value_forms.Forms.{itself}
use Rattle.limbo_typing.specs.Typing.{HasValue}
use Rattle.limbo_typing.specs.Failing.{FailsValue}
use Rattle.limbo_local.specs.Points.{Point, ValueAt, AreNew}
use Rattle.limbo_local.specs.Local.{counting, seeing_iota, argument_types, NamesModule, IsConstant, AreConstants}
use Rattle.limbo_local.specs.Members.{Inside, variants_in, open_adt, open_module, AddsToAdt, AllAddToAdt, showing_adt, with_adts}
use Rattle.limbo_local.specs.Members.{AddsToModule, showing_module}

-- ---- constants

-- A constant's expression has no value, or isn't constant.
pub data FailsConstant (p : Point) (e : tree.Expr) (k : ℕ) : Cause → Type 0 where
  no_value : (c : Cause) → FailsValue (counting k p.context) (seeing_iota p.context p.body) e c → FailsConstant p e k c
  not_constant : (x : Expr) (b : Body) → HasValue (counting k p.context) (seeing_iota p.context p.body) e x b → value_of x ≡ None
      → FailsConstant p e k NotConstant

pub data FailsConstants (e : tree.Expr) : ℕ → List (List ℕ) → Point → Cause → Type 0 where
  this_name : (k : ℕ) (n : List ℕ) (ns : List (List ℕ)) (p : Point) (c : Cause) → FailsConstant p e k c → FailsConstants e k (n ∷ ns) p c
  later_name : (k : ℕ) (n : List ℕ) (ns : List (List ℕ)) (p q : Point) (v : Valued) (c : Cause) → IsConstant p e k v q
      → FailsConstants e (suc k) ns q c → FailsConstants e k (n ∷ ns) p c

-- ---- imported names

-- It isn't seen, or leads to no module.
pub data FailsModule (p : Point) (name : List ℕ) : Cause → Type 0 where
  unseen : seen name p.body.scopes ≡ None → FailsModule p name Unknown
  no_module : (m : Meaning) → seen name p.body.scopes ≡ Some m → module_led p.context p.body m ≡ None → FailsModule p name nothing

-- One of the names is no member of the module.
pub data HasNoMember (c : Context) (i : ℕ) : List (List ℕ) → Type 0 where
  this_member : (n : List ℕ) (ns : List (List ℕ)) → named_in c.exports i n ≡ None → HasNoMember c i (n ∷ ns)
  later_member : (n : List ℕ) (ns : List (List ℕ)) → HasNoMember c i ns → HasNoMember c i (n ∷ ns)

-- ---- functions

-- One of the types is none that values may have.
pub data FailsTypes (c : Context) (b : Body) : List written.Ty → Cause → Type 0 where
  this_type : (t : written.Ty) (ts : List written.Ty) (k : Cause) → FailsAsType c b t k → FailsTypes c b (t ∷ ts) k
  later_type : (t : written.Ty) (ts : List written.Ty) (k : Cause) → FailsTypes c b ts k → FailsTypes c b (t ∷ ts) k

-- An argument's type fails, or the answer's, or a value of a user's module would be answered.
pub data FailsHeader (c : Context) (b : Body) (f : decls.FnType) : Cause → Type 0 where
  an_argument : (k : Cause) → FailsTypes c b (argument_types f.params) k → FailsHeader c b f k
  the_answer : (t : written.Ty) (k : Cause) → f.answer ≡ Some t → FailsAsType c b t k → FailsHeader c b f k
  a_module : (t : written.Ty) (u : Ty) → f.answer ≡ Some t → MeansPermitted c b t u → IsUserModule c.system u
      → FailsHeader c b f (Refused ModuleValue)

-- ---- adts and modules

pub data FailsFields (c : Context) (b : Body) : List decls.Field → Cause → Type 0 where
  this_field : (f : decls.Field) (fs : List decls.Field) (k : Cause) → FailsAsType c b f.of k → FailsFields c b (f ∷ fs) k
  later_field : (f : decls.Field) (fs : List decls.Field) (k : Cause) → FailsFields c b fs k → FailsFields c b (f ∷ fs) k

pub data FailsVariants (c : Context) (b : Body) : List decls.Variant → Cause → Type 0 where
  this_variant : (v : decls.Variant) (vs : List decls.Variant) (k : Cause) → FailsFields c b v.fields k → FailsVariants c b (v ∷ vs) k
  later_variant : (v : decls.Variant) (vs : List decls.Variant) (k : Cause) → FailsVariants c b vs k → FailsVariants c b (v ∷ vs) k

mutual
  -- A member's type or value fails, or a function is declared that nothing defines.
  pub data FailsInAdt (m : Bool) : Member → Point → Cause → Type 0 where
    a_field : (ns : List (List ℕ)) (t : written.Ty) (p : Point) (k : Cause) → FailsAsType p.context p.body t k
        → FailsInAdt m (VarMember ns t) p k
    undefined : (ns : List (List ℕ)) (f : decls.FnType) (p : Point) → m ≡ false → FailsInAdt m (FnMember ns f) p Unknown
    a_header : (ns : List (List ℕ)) (f : decls.FnType) (p : Point) (k : Cause) → FailsHeader p.context p.body f k
        → FailsInAdt m (FnMember ns f) p k
    a_constant : (ns : List (List ℕ)) (e : tree.Expr) (p : Point) (k : Cause) → FailsConstants e 0 ns p k
        → FailsInAdt m (ConMember ns e) p k
    a_type : (ns : List (List ℕ)) (t : written.Ty) (p : Point) (k : Cause) → FailsAsType p.context p.body t k
        → FailsInAdt m (TypeMember ns t) p k
    in_inner : (n : List ℕ) (ms : Members) (pick : Option (List decls.Variant)) (p : Point) (k : Cause)
        → FailsAllInAdt m (length p.context.adts) ms (open_adt n (variants_in pick) p) k → FailsInAdt m (AdtMember n ms pick) p k
    a_variant : (n : List ℕ) (ms : Members) (pick : Option (List decls.Variant)) (p q : Point) (g : Inside) (k : Cause)
        → AllAddToAdt m (length p.context.adts) ms (open_adt n (variants_in pick) p) g q
        → FailsVariants q.context q.body (variants_in pick) k → FailsInAdt m (AdtMember n ms pick) p k

  pub data FailsAllInAdt (m : Bool) : (adt : ℕ) → Members → Point → Cause → Type 0 where
    here : (a : ℕ) (x : Member) (xs : Members) (p : Point) (k : Cause) → FailsInAdt m x p k → FailsAllInAdt m a (MoreMembers x xs) p k
    later : (a : ℕ) (x : Member) (xs : Members) (p q : Point) (g : Inside) (k : Cause) → AddsToAdt m x p g q
        → FailsAllInAdt m a xs (showing_adt a q) k → FailsAllInAdt m a (MoreMembers x xs) p k

-- An adt from this number on may not stand: by the type that its parts have together, or by a part that is too long.
pub data FailsToStand (first : ℕ) (c : Context) : Refusal → Type 0 where
  parts_refused : (a : ℕ) (d : Def) (r : Refusal) → first ≤ a → slice_get c.adts a ≡ Some d
      → RefusesType c.adts (length c.modules) c.system c.fd (Tuple (tys_of (parts d))) r → FailsToStand first c r
  too_long : (a : ℕ) (d : Def) (t : Ty) → first ≤ a → slice_get c.adts a ≡ Some d → Has (field_types d) t → most_nodes < nodes t
      → FailsToStand first c TypeTooLarge

-- An adt that stands in no other.
pub data FailsAdt (m : Bool) (n : List ℕ) (ms : Members) (pick : Option (List decls.Variant)) (p : Point) : Cause → Type 0 where
  in_adt : (k : Cause) → FailsInAdt m (AdtMember n ms pick) p k → FailsAdt m n ms pick p k
  stands_not : (g : Inside) (q : Point) (r : Refusal) → AddsToAdt m (AdtMember n ms pick) p g q
      → FailsToStand (length p.context.adts) (with_adts (length p.context.adts) g.adts q).context r → FailsAdt m n ms pick p (Refused r)

pub data FailsInModule (i : ℕ) : Member → Point → Cause → Type 0 where
  its_variable : (ns : List (List ℕ)) (t : written.Ty) (p : Point) (k : Cause) → FailsAsType p.context p.body t k
      → FailsInModule i (VarMember ns t) p k
  its_function : (ns : List (List ℕ)) (f : decls.FnType) (p : Point) (k : Cause) → FailsHeader p.context p.body f k
      → FailsInModule i (FnMember ns f) p k
  its_constant : (ns : List (List ℕ)) (e : tree.Expr) (p : Point) (k : Cause) → FailsConstants e 0 ns p k
      → FailsInModule i (ConMember ns e) p k
  its_type : (ns : List (List ℕ)) (t : written.Ty) (p : Point) (k : Cause) → FailsAsType p.context p.body t k
      → FailsInModule i (TypeMember ns t) p k
  its_adt : (n : List ℕ) (ms : Members) (pick : Option (List decls.Variant)) (p : Point) (k : Cause) → FailsAdt true n ms pick p k
      → FailsInModule i (AdtMember n ms pick) p k

pub data FailsAllInModule (i : ℕ) : Members → Point → Cause → Type 0 where
  this_member_fails : (x : Member) (xs : Members) (p : Point) (k : Cause) → FailsInModule i x p k
      → FailsAllInModule i (MoreMembers x xs) p k
  later_member_fails : (x : Member) (xs : Members) (p q : Point) (k : Cause) → AddsToModule i x p q
      → FailsAllInModule i xs (showing_module i q) k → FailsAllInModule i (MoreMembers x xs) p k

-- ---- declarations

pub data FailsToDeclare : Decl → Point → Cause → Type 0 where
  constant : (ns : List (List ℕ)) (e : tree.Expr) (p : Point) (k : Cause) → FailsConstants e 0 ns p k
      → FailsToDeclare (decls.Con ns e) p k
  constant_again : (ns : List (List ℕ)) (e : tree.Expr) (p q : Point) (vs : List Valued) → AreConstants e 0 ns vs p q
      → (AreNew ns q.body → ⊥) → FailsToDeclare (decls.Con ns e) p Twice
  type : (ns : List (List ℕ)) (t : written.Ty) (p : Point) (k : Cause) → FailsAsType p.context p.body t k
      → FailsToDeclare (decls.TypeName ns t) p k
  type_again : (ns : List (List ℕ)) (t : written.Ty) (p : Point) → (AreNew ns p.body → ⊥)
      → FailsToDeclare (decls.TypeName ns t) p Twice
  type_of_variable : (ns : List (List ℕ)) (t : written.Ty) (e : Option tree.Expr) (p : Point) (k : Cause)
      → FailsAsType p.context p.body t k → FailsToDeclare (decls.Var ns t e) p k
  variable_again : (ns : List (List ℕ)) (t : written.Ty) (p : Point) → (AreNew ns p.body → ⊥)
      → FailsToDeclare (decls.Var ns t None) p Twice
  value : (ns : List (List ℕ)) (t : written.Ty) (e : tree.Expr) (p : Point) (k : Cause) → FailsValue p.context p.body e k
      → FailsToDeclare (decls.Var ns t (Some e)) p k
  value_unfit : (ns : List (List ℕ)) (t : written.Ty) (e : tree.Expr) (p q : Point) (u : Ty) (x : Expr) (r : Refusal)
      → MeansPermitted p.context p.body t u → ValueAt p e x q → FailsAt u x r → FailsToDeclare (decls.Var ns t (Some e)) p (Refused r)
  valued_again : (ns : List (List ℕ)) (t : written.Ty) (e : tree.Expr) (p q : Point) (x : Expr) → ValueAt p e x q
      → (AreNew ns q.body → ⊥) → FailsToDeclare (decls.Var ns t (Some e)) p Twice
  defined : (ns : List (List ℕ)) (e : tree.Expr) (p : Point) (k : Cause) → FailsValue p.context p.body e k
      → FailsToDeclare (decls.Define ns e) p k
  open_value : (ns : List (List ℕ)) (e : tree.Expr) (p q : Point) (x : Expr) → ValueAt p e x q → (IsSettled (type_of x) → ⊥)
      → FailsToDeclare (decls.Define ns e) p (Refused (itself x))
  defined_again : (ns : List (List ℕ)) (e : tree.Expr) (p q : Point) (x : Expr) → ValueAt p e x q → (AreNew ns q.body → ⊥)
      → FailsToDeclare (decls.Define ns e) p Twice
  no_module : (ns : List (List ℕ)) (name : List ℕ) (p : Point) (k : Cause) → FailsModule p name k
      → FailsToDeclare (decls.Import ns name) p k
  no_member : (ns : List (List ℕ)) (name : List ℕ) (p : Point) (from : Origin) (i : ℕ) → NamesModule p name from i
      → HasNoMember p.context i ns → FailsToDeclare (decls.Import ns name) p Unknown
  imported_again : (ns : List (List ℕ)) (name : List ℕ) (p : Point) → (AreNew ns p.body → ⊥)
      → FailsToDeclare (decls.Import ns name) p Twice
  values : (ns : List (List ℕ)) (ts : written.Tys) (p : Point) (k : Cause) → FailsAsType p.context p.body (written.Tuple ts) k
      → FailsToDeclare (decls.Exception ns ts) p k
  exception_again : (ns : List (List ℕ)) (ts : written.Tys) (p : Point) → (AreNew ns p.body → ⊥)
      → FailsToDeclare (decls.Exception ns ts) p Twice
  in_module : (n : List ℕ) (ms : Members) (p : Point) (k : Cause)
      → FailsAllInModule (length p.context.interfaces) ms (open_module n p) k → FailsToDeclare (decls.Module n ms) p k
  module_repeats : (n : List ℕ) (ms : Members) (p : Point) → (ModuleIsOnce ms → ⊥) → FailsToDeclare (decls.Module n ms) p Twice
  module_again : (n : List ℕ) (ms : Members) (p : Point) → (AreNew (n ∷ []) p.body → ⊥) → FailsToDeclare (decls.Module n ms) p Twice
  adt : (n : List ℕ) (ms : Members) (pick : Option (List decls.Variant)) (p : Point) (k : Cause) → FailsAdt false n ms pick p k
      → FailsToDeclare (decls.Adt n ms pick) p k
  adt_repeats : (n : List ℕ) (ms : Members) (pick : Option (List decls.Variant)) (p : Point) → (AdtIsOnce ms pick → ⊥)
      → FailsToDeclare (decls.Adt n ms pick) p Twice
  adt_again : (n : List ℕ) (ms : Members) (pick : Option (List decls.Variant)) (p : Point) → (AreNew (n ∷ []) p.body → ⊥)
      → FailsToDeclare (decls.Adt n ms pick) p Twice
