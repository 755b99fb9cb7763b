-- What is known of a point is known behind declarations.
use Rattle.std.proofs.Common.{◌≡◌, ◌≤◌, ◌<◌, ◌+◌, ℕ, suc, pos, Bool, true, false, List, [], ◌∷◌, ◌++◌, length, map}
use Rattle.std.proofs.Common.{Option, None, Some, sym, subst, arith, length-append}
use Rattle.std.proofs.lemmas.Option.{slice_get_past}
use Rattle.std.proofs.lemmas.Int.{ints}
use Rattle.limbo_values.specs.declared.number.Kind.TheVariants as kind
use Rattle.limbo_values.specs.Numbers.{InRange}
use Rattle.limbo_types.specs.Types.{Ty, Int}
use Rattle.limbo_layout.specs.Adts.{Def, listed}
use Rattle.limbo_tree.specs.Exprs as tree
use Rattle.limbo_tree.specs.Types as written
use Rattle.limbo_tree.specs.Decls as decls
use Rattle.limbo_tree.specs.Decls.{Decl, Member, VarMember, FnMember, ConMember, TypeMember, AdtMember, Members, NoMembers, MoreMembers}
use Rattle.limbo_typed.specs.declared.stmt.Constant.TheVariants as constant
use Rattle.limbo_typed.specs.Typed.{Module, Var, Expr, Stmt, Interface}
use Rattle.limbo_typed.specs.Fitting as fitting
use Rattle.limbo_typed.specs.Sound.{Each, type_of, IsSettled, IsNamed}
use Rattle.limbo_scope.specs.declared.meaning.Meaning.{Meaning}
use Rattle.limbo_scope.specs.declared.meaning.Meaning.TheVariants as meaning
use Rattle.limbo_scope.specs.Scopes.{Scope, seen, entered}
use Rattle.limbo_context.specs.Context.{Context, Body, Valued}
use Rattle.limbo_typed_sound.specs.limbo_written.Written.{MeansPermitted}
use Rattle.limbo_stating.specs.limbo_local.Points.{Point, with_body, ValueAt, enter, leave, with_names, with_variables}
use Rattle.limbo_stating.specs.limbo_local.Local.{iota, counting, seeing, seeing_iota, seen_behind, without_iota, IsConstant, AreConstants}
use Rattle.limbo_stating.specs.limbo_local.Local.{with_constants, with_types, with_imports, with_exceptions}
use Rattle.limbo_stating.specs.limbo_local.Members.{Inside, variants_in, functions_at, showing_adt}
use Rattle.limbo_stating.specs.limbo_local.Members.{showing_module, AddsToAdt, AllAddToAdt, with_adts, IsAdt}
use Rattle.limbo_stating.specs.limbo_local.Members.{open_module, with_functions, AddsToModule, AllAddToModule}
use Rattle.limbo_stating.specs.limbo_local.Declaring.{Declares}
use Rattle.limbo_typed_sound.specs.Describing.{HasTypes}
use Rattle.limbo_typed_sound.proofs.Leading.{value_permitted}
use Rattle.limbo_typed_sound.proofs.More.{means_settled}
use Rattle.limbo_typed_sound.proofs.Typed.{in_value}
use Rattle.limbo_stated_sound.specs.Growing.{LeadsTo}
use Rattle.limbo_stated_sound.specs.Proper.{IsProper, AreCounted, InMember, InMembers, IsProperDecl}
use Rattle.limbo_stated_sound.proofs.Lists.{begins_itself}
use Rattle.limbo_stated_sound.proofs.Moving as moving
use Rattle.limbo_stated_sound.proofs.Moving.{Moves}
use Rattle.limbo_stated_sound.proofs.Leading as leads
use Rattle.limbo_stated_sound.proofs.Members as members
use Rattle.limbo_stated_sound.proofs.Imports.{at_the_end, IsRight, same_imports, imported_through, through_globals, same_length}
use Rattle.limbo_stated_sound.proofs.Opening.{added, complete_grows, members_grow}
use Rattle.limbo_stated_sound.proofs.Leading.{named_adt}
use Rattle.limbo_stated_sound.proofs.Members.{named_module}
use Rattle.limbo_stated_sound.proofs.Open.{value_folds, constant_of}
use Rattle.limbo_stated_sound.proofs.Seen.{Fits, Known, sight, types_there, describes_there, well_there}
use Rattle.limbo_stated_sound.proofs.Seen.{fits_before, extended_grows}
use Rattle.limbo_stated_sound.proofs.Knowing.{value_known, permitted_is_named, constants_known, types_known, imports_known}
use Rattle.limbo_stated_sound.proofs.Knowing.{exceptions_known, variables_known, names_known, entered_known, left_known}

abbrev pub KnownAt : Module → Point → Type 0
KnownAt m p = Known m p.context p.body

pub known_at : (m : Module) (p q : Point) → q ≡ p → KnownAt m p → KnownAt m q
known_at m p q e k = subst (λ (z : Point). KnownAt m z) (sym e) k

pub fits_at : (m : Module) (p q : Point) → q ≡ p → Fits m q.context → Fits m p.context
fits_at m p q e f = subst (λ (z : Point). Fits m z.context) e f

-- what fits behind a point fits there
pub fits_there : (m : Module) (p q : Point) → LeadsTo p q → Fits m q.context → Fits m p.context
fits_there m p q l f = fits_before m p.context q.context (extended_grows p.context q.context l.context) f

-- other adts, module types and members say nothing of what is known
pub other_known : (m : Module) (c : Context) (b : Body) (adts : List Def) (modules : List (List ℕ)) (members : List (List Scope))
    (interfaces : List Interface) (exports : List (List Scope)) → Known m c b
    → Known m (record c { adts = adts; modules = modules; members = members; interfaces = interfaces; exports = exports }) b
other_known m c b adts modules members interfaces exports k = record {
  globals = k.globals;
  functions = k.functions;
  system = k.system;
  fd = k.fd;
  constants = k.constants;
  types = k.types;
  imports = k.imports;
  named = k.named;
  imported = k.imported;
  raises = k.raises;
}

-- names that mean neither imported names nor exceptions
abbrev IsPlain : (ℕ → Meaning) → Type 0
IsPlain means = ((j a : ℕ) → meaning.Import a ≡ means j → ⊥) × ((j a : ℕ) → meaning.Exception a ≡ means j → ⊥)

pub plain_known : (m : Module) (c : Context) (b : Body) (means : ℕ → Meaning) (n : ℕ) (names : List (List ℕ)) → IsPlain means
    → Known m c b → Known m c (with_names means n names b)
plain_known m c b means n names p k =
    names_known m c b k means n names (λ j a x i l q e o. absurd (p.0 j a q)) (λ j a l q. absurd (p.1 j a q))

-- ---- constants

small_int : (k : ℕ) → k < 2147483648 → InRange kind.Int (pos k)
small_int k l = record { above = omega (arith, ints); below = omega (arith, ints) }

module _ (m : Module) (types : HasTypes m) where
  same_fits : (c : Context) (xs : List Valued) → Fits m c → Fits m (record c { constants = xs })
  same_fits c xs f = record { adts = f.adts; modules = f.modules; interfaces = f.interfaces }

  seeing_known : (o : Option Meaning) (c d : Context) (b : Body) → Known m d b → Known m d (seeing o c b)
  seeing_known (Some k) c d b h = h
  seeing_known None c d b h =
      plain_known m d (record { scopes = entered b.scopes; variables = b.variables }) meaning.Constant (length c.constants) (iota ∷ [])
      (λ j a q. cc, λ j a q. cc) (entered_known m d b h)

  behind_known : (o : Option Meaning) (c : Context) (b d : Body) → Known m c b → Known m c d → Moves (seeing o c b) d
      → Known m c (seen_behind o d)
  behind_known (Some j) c b d k h l = h
  behind_known None c b d k h l =
      left_known m c c b d k h l.scopes l.variables (begins_itself c.imports) (same_imports c.imports d.variables)
      (begins_itself c.exceptions)

  without_constant : (c : Context) (xs : List Valued) (b d : Body) → Known m c b → Known m (record c { constants = xs }) d → Known m c d
  without_constant c xs b d k h = record {
    globals = h.globals;
    functions = h.functions;
    system = h.system;
    fd = h.fd;
    constants = k.constants;
    types = h.types;
    imports = h.imports;
    named = h.named;
    imported = h.imported;
    raises = h.raises;
  }

  abbrev pub IsOfItsType : Valued → Type 0
  IsOfItsType v = fitting.IsConstant v.ty v.value

  constant_known : (e : tree.Expr) (k : ℕ) (v : Valued) (p q : Point) → Fits m p.context → KnownAt m p → IsProper e → k < 2147483648
      → IsConstant p e k v q → KnownAt m q × IsOfItsType v
  constant_known e k v p q f h r l i =
      let c = p.context in
      let d = counting k c in
      let b = seeing_iota c p.body in
      let n : Valued = record { ty = Int; value = constant.Number (pos k) } in
      let g : Fits m d = same_fits c (c.constants ++ n ∷ []) f in
      let k0 : Known m d p.body = constants_known m c p.body h (n ∷ []) (small_int k l, tt) in
      let k1 : Known m d b = seeing_known (seen iota p.body.scopes) c d p.body k0 in
      let k2 : Known m d i.behind = value_known m d g b e i.value i.behind i.has k1 in
      let k3 : Known m c i.behind = without_constant c (c.constants ++ n ∷ []) p.body i.behind h k2 in
      let s = moving.by_value d b e i.value i.behind i.has in
      let ready = in_value (sight m d) i.behind.variables d (types_there m d g types)
      (describes_there m d g b k1) b e i.value i.behind i.has
      (well_there m d g b k1) r (begins_itself i.behind.variables) in
      let t = constant_of (sight m d) i.behind.variables i.value v.value ready (value_folds
      (sight m d) d b e i.value i.behind i.has) i.known in (
        known_at m (with_body (without_iota p.body i.behind) p) q i.goes_on
            (behind_known (seen iota p.body.scopes) c p.body i.behind h k3 s),
        subst (λ (u : Ty). fitting.IsConstant u v.value) (sym i.of) t,
      )

  all_constants_known : (e : tree.Expr) (k : ℕ) (ns : List (List ℕ)) (vs : List Valued) (p q : Point) → Fits m q.context → KnownAt m p
      → IsProper e → k + length ns ≤ 2147483648 → AreConstants e k ns vs p q → KnownAt m q × Each IsOfItsType vs
  all_constants_known e k [] [] p q f h r l i = (known_at m p q i h, tt)
  all_constants_known e k [] (v ∷ vs) p q f h r l i = absurd i
  all_constants_known e k (n ∷ ns) [] p q f h r l i = absurd i
  all_constants_known e k (n ∷ ns) (v ∷ vs) p q f h r l i =
      let g = fits_there m i.0 q (leads.constants_lead e (suc k) ns vs i.0 q i.2) f in
      let s = fits_there m p i.0 (leads.constant_leads e k v p i.0 i.1) g in
      let a = constant_known e k v p i.0 s h r (omega arith) i.1 in
      let t = all_constants_known e (suc k) ns vs i.0 q f a.0 r (omega arith) i.2 in
      (t.0, (a.1, t.1))

  con_known : (ns : List (List ℕ)) (e : tree.Expr) (vs : List Valued) (p r : Point) → Fits m (with_constants ns vs r).context → KnownAt m p
      → AreCounted ns → IsProper e → AreConstants e 0 ns vs p r → KnownAt m (with_constants ns vs r)
  con_known ns e vs p r f h l i a =
      let g = fits_there m r (with_constants ns vs r) (leads.with_constants_leads ns vs r) f in
      let t = all_constants_known e 0 ns vs p r g h i (omega arith) a in
      plain_known m (record r.context { constants = r.context.constants ++ vs }) r.body meaning.Constant (length r.context.constants) ns
      (λ j a q. cc, λ j a q. cc) (constants_known m r.context r.body t.0 vs t.1)

  -- ---- types

  each_settled : (ns : List (List ℕ)) (t : Ty) → IsSettled t → Each IsSettled (map (λ n. t) ns)
  each_settled [] t h = tt
  each_settled (n ∷ ns) t h = (h, each_settled ns t h)

  type_known : (ns : List (List ℕ)) (t : written.Ty) (u : Ty) (p : Point) → KnownAt m p → MeansPermitted p.context p.body t u
      → KnownAt m (with_types ns u p)
  type_known ns t u p h i =
      let xs = map (λ n. u) ns in
      plain_known m (record p.context { types = p.context.types ++ xs }) p.body meaning.Type (length p.context.types) ns
      (λ j a q. cc, λ j a q. cc)
      (types_known m p.context p.body h xs (each_settled ns u (means_settled p.context h.types p.body t u i.means)))

  -- ---- adts

  named_adt_known : (n : List ℕ) (vs : List decls.Variant) (p : Point) → KnownAt m p → KnownAt m (named_adt n vs p)
  named_adt_known n vs p h =
      let c = (named_adt n vs p).context in
      plain_known m c p.body meaning.Adt (length p.context.adts) (n ∷ []) (λ j a q. cc, λ j a q. cc)
      (other_known m p.context p.body c.adts p.context.modules c.members p.context.interfaces p.context.exports h)

  showing_known : (a : ℕ) (p : Point) → KnownAt m p → KnownAt m (showing_adt a p)
  showing_known a p h =
      other_known m p.context p.body p.context.adts p.context.modules (showing_adt a p).context.members p.context.interfaces
      p.context.exports h

  -- behind a scope
  pub scope_known : (p r : Point) → KnownAt m p → KnownAt m r → LeadsTo (enter p) r → KnownAt m (leave r)
  scope_known p r k h l =
      left_known m p.context r.context p.body r.body k h l.scopes l.variables l.context.imports l.imported l.context.exceptions

  mutual
    adds_known : (o : Bool) (x : Member) (p q : Point) (g : Inside) → Fits m q.context → KnownAt m p → InMember IsProper x
        → AddsToAdt o x p g q → KnownAt m q
    adds_known o (VarMember ns t) p q g f k i h = known_at m p q h.3 k
    adds_known o (FnMember ns t) p q g f k i h = known_at m p q h.4 k
    adds_known o (ConMember ns e) p q g f k i h =
        known_at m (with_constants ns h.0 h.1) q h.4
        (con_known ns e h.0 p h.1 (fits_at m (with_constants ns h.0 h.1) q h.4 f) k i.0 i.1 h.2)
    adds_known o (TypeMember ns t) p q g f k i h = known_at m (with_types ns h.0 p) q h.3 (type_known ns t h.0 p k h.1)
    adds_known o (AdtMember n ms pick) p q g f k i h =
        let a = named_adt n (variants_in pick) p in
        let s = named_adt_known n (variants_in pick) p k in
        let j = length p.context.adts in
        let r = all_adds_known o j ms (enter a) h.2 h.0 (fits_at m (leave h.2) q h.6 f) (entered_known m a.context a.body s) i h.3 in
        known_at m (leave h.2) q h.6 (scope_known a h.2 s r (leads.all_add_leads o j ms (enter a) h.2 h.0 h.3))

    all_adds_known : (o : Bool) (a : ℕ) (xs : Members) (p q : Point) (g : Inside) → Fits m q.context → KnownAt m p → InMembers IsProper xs
        → AllAddToAdt o a xs p g q → KnownAt m q
    all_adds_known o a NoMembers p q g f k i h = known_at m p q h.1 k
    all_adds_known o a (MoreMembers x xs) p q g f k i h =
        let s = fits_there m (showing_adt a h.2) q (leads.all_add_leads o a xs (showing_adt a h.2) q h.1 h.4) f in
        let t = fits_there m h.2 (showing_adt a h.2) (leads.showing_leads a h.2) s in
        all_adds_known o a xs (showing_adt a h.2) q h.1 f (showing_known a h.2 (adds_known o x p h.2 h.0 t k i.0 h.3)) i.1 h.4

-- ---- declarations

module _ (m : Module) (types : HasTypes m) where
  adt_known : (o : Bool) (n : List ℕ) (ms : Members) (pick : Option (List decls.Variant)) (p q : Point) → Fits m q.context → KnownAt m p
      → InMembers IsProper ms → IsAdt o n ms pick p q → KnownAt m q
  adt_known o n ms pick p q f k i h =
      let x = AdtMember n ms pick in
      let w = with_adts (length p.context.adts) h.inside.adts h.behind in
      let g = complete_grows p h.behind h.inside.adts (added o x p h.behind h.inside h.adds) in
      let s = fits_before m h.behind.context w.context g (fits_at m w q h.goes_on f) in
      let b = adds_known m types o x p h.behind h.inside s k i h.adds in
      known_at m w q h.goes_on
      (other_known m h.behind.context h.behind.body w.context.adts h.behind.context.modules h.behind.context.members
      h.behind.context.interfaces h.behind.context.exports b)

  member_known : (j : ℕ) (x : Member) (p q : Point) → Fits m q.context → KnownAt m p → InMember IsProper x → AddsToModule j x p q
      → KnownAt m q
  member_known j (VarMember ns t) p q f k i h = known_at m p q h.2 k
  member_known j (FnMember ns t) p q f k i h =
      let w = with_functions j ns h.0 p in
      known_at m w q h.2
      (plain_known m w.context p.body meaning.Function (functions_at p.context.interfaces j) ns (λ j a q. cc, λ j a q. cc)
      (other_known m p.context p.body p.context.adts p.context.modules p.context.members w.context.interfaces p.context.exports k))
  member_known j (ConMember ns e) p q f k i h =
      known_at m (with_constants ns h.0 h.1) q h.3
      (con_known m types ns e h.0 p h.1 (fits_at m (with_constants ns h.0 h.1) q h.3 f) k i.0 i.1 h.2)
  member_known j (TypeMember ns t) p q f k i h = known_at m (with_types ns h.0 p) q h.2 (type_known m types ns t h.0 p k h.1)
  member_known j (AdtMember n ms pick) p q f k i h = adt_known true n ms pick p q f k i h

  members_known : (j : ℕ) (xs : Members) (p q : Point) → Fits m q.context → KnownAt m p → InMembers IsProper xs → AllAddToModule j xs p q
      → KnownAt m q
  members_known j NoMembers p q f k i h = known_at m p q h k
  members_known j (MoreMembers x xs) p q f k i h =
      let w = showing_module j h.0 in
      let s = fits_before m w.context q.context (members_grow j xs w q h.2) f in
      let t = fits_there m h.0 w (members.showing_module_leads j h.0) s in
      let a = member_known j x p h.0 t k i.0 h.1 in
      members_known j xs w q f
      (other_known m h.0.context h.0.body h.0.context.adts h.0.context.modules h.0.context.members h.0.context.interfaces
      w.context.exports a) i.1 h.2

  module_known : (n : List ℕ) (ms : Members) (p r : Point) → Fits m r.context → KnownAt m p → InMembers IsProper ms
      → AllAddToModule (length p.context.interfaces) ms (open_module n p) r → KnownAt m (leave r)
  module_known n ms p r f k i h =
      let j = length p.context.interfaces in
      let o = named_module n p in
      let c = o.context in
      let s = plain_known m c p.body meaning.Module j (n ∷ []) (λ j a q. cc, λ j a q. cc)
      (other_known m p.context p.body p.context.adts c.modules p.context.members c.interfaces c.exports k) in
      let t = members_known j ms (enter o) r f (entered_known m c o.body s) i h in
      let l = members.members_lead j ms (enter o) r h in
      left_known m c r.context o.body r.body s t l.scopes l.variables l.imports l.imported l.exceptions

  -- variables of a named type
  each_named : (ns : List (List ℕ)) (t : Ty) → IsNamed m t → Each (λ v. IsNamed m v.ty) (map
      (λ n. let v : Var = record { name = n; ty = t } in v) ns)
  each_named [] t h = tt
  each_named (n ∷ ns) t h = (h, each_named ns t h)

  pub declares_variables : (ns : List (List ℕ)) (t : Ty) (p : Point) → IsNamed m t → KnownAt m p → KnownAt m (with_variables ns t p)
  declares_variables ns t p n k =
      let vs : List Var = map (λ n. record { name = n; ty = t }) ns in
      plain_known m p.context (record { scopes = p.body.scopes; variables = p.body.variables ++ vs }) meaning.Variable
      (length p.body.variables) ns (λ j a q. cc, λ j a q. cc) (variables_known m p.context p.body k vs (each_named ns t n))

  pub value_at_known : (p : Point) (e : tree.Expr) (x : Expr) (q : Point) → Fits m p.context → KnownAt m p → ValueAt p e x q → KnownAt m q
  value_at_known p e x q f k h =
      known_at m (with_body h.behind p) q h.goes_on (value_known m p.context f p.body e x h.behind h.has k)

  pub means_named : (p : Point) (t : written.Ty) (u : Ty) → Fits m p.context → KnownAt m p → MeansPermitted p.context p.body t u
      → IsNamed m u
  means_named p t u f k h =
      permitted_is_named m p.context f p.body k u h.permitted (means_settled p.context k.types p.body t u h.means)

  pub declared_known : (name : List ℕ) (d : Decl) (p q : Point) (z : Stmt) → Fits m q.context → KnownAt m p → IsProperDecl d
      → Declares name d p z q → KnownAt m q
  declared_known name (decls.Con ns e) p q z f k i h =
      known_at m (with_constants ns h.0 h.1) q h.5
      (con_known m types ns e h.0 p h.1 (fits_at m (with_constants ns h.0 h.1) q h.5 f) k i.0 i.1 h.2)
  declared_known name (decls.TypeName ns t) p q z f k i h = known_at m (with_types ns h.0 p) q h.4 (type_known m types ns t h.0 p k h.1)
  declared_known name (decls.Var ns t None) p q z f k i h =
      let w = with_variables ns h.0 p in
      let g = fits_there m p w (leads.variables_lead ns h.0 p) (fits_at m w q h.4 f) in
      known_at m w q h.4 (declares_variables ns h.0 p (means_named p t h.0 g k h.1) k)
  declared_known name (decls.Var ns t (Some e)) p q z f k i h =
      let w = with_variables ns h.0 h.3 in
      let g = fits_there m h.3 w (leads.variables_lead ns h.0 h.3) (fits_at m w q h.9 f) in
      let s = fits_there m p h.3 (leads.value_leads p e h.1 h.3 h.5) g in
      known_at m w q h.9 (declares_variables ns h.0 h.3 (means_named p t h.0 s k h.4) (value_at_known p e h.1 h.3 s k h.5))
  declared_known name (decls.Define ns e) p q z f k i h =
      let t = type_of h.0 in
      let w = with_variables ns t h.1 in
      let g = fits_there m h.1 w (leads.variables_lead ns t h.1) (fits_at m w q h.6 f) in
      let s = fits_there m p h.1 (leads.value_leads p e h.0 h.1 h.2) g in
      let n = permitted_is_named m p.context s p.body k t (value_permitted p.context p.body e h.0 h.2.behind h.2.has) h.3 in
      known_at m w q h.6 (declares_variables ns t h.1 n (value_at_known p e h.0 h.1 s k h.2))
  declared_known name (decls.Import ns n) p q z f k i h =
      let is = p.context.imports in
      let right = imported_through p n h.0 h.1 ns h.2 h.3 h.4 in
      let s = imports_known m p.context p.body k h.2 (through_globals p n h.0 h.1 ns h.2 h.3 h.4) right in
      known_at m (with_imports ns h.2 p) q h.7
      (names_known m (record p.context { imports = is ++ h.2 }) p.body s meaning.Import (length is) ns
      (λ j a x i l r e o. let r2 : a ≡ j = cc in at_the_end (IsRight p.body.variables) is h.2 a i (slice_get_past is a
      (omega arith)) e right x
      o) (λ j a l r. absurd cc))
  declared_known name (decls.Exception ns ts) p q z f k i h =
      let es = leads.exceptions_of name ns (listed h.0) in
      let xs = p.context.exceptions in
      known_at m (with_exceptions name ns (listed h.0) p) q h.4
      (names_known m (record p.context { exceptions = xs ++ es }) p.body (exceptions_known m p.context p.body k es) meaning.Exception
      (length xs) ns (λ j a x i l r e o. absurd cc)
      (λ j a l r. let r2 : a ≡ j = cc in let n = length-append xs es in let e : length es ≡ length ns = same_length _ ns in omega arith))
  declared_known name (decls.Module n ms) p q z f k i h =
      known_at m (leave h.0) q h.5 (module_known n ms p h.0 (fits_at m (leave h.0) q h.5 f) k i h.3)
  declared_known name (decls.Adt n ms pick) p q z f k i h = adt_known false n ms pick p q f k i h.2
