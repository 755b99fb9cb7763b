-- What the lists of a context speak of stays named behind statements and functions; modules that are made of them are sound.
use Rattle.std.proofs.Common.{◌≡◌, ◌≤◌, ℕ, zero, suc, List, [], ◌∷◌, length, map, Option, None, Some, refl, sym, ap, subst, ◌∙◌, arith}
use Rattle.std.specs.Prelude.{slice_get}
use Rattle.std.proofs.lemmas.Option.{none-some, same_Some}
use Rattle.limbo_types.specs.Types.{Ty}
use Rattle.limbo_layout.specs.Adts.{Def}
use Rattle.limbo_tree.specs.Exprs as exprs
use Rattle.limbo_tree.specs.Stmts as tree
use Rattle.limbo_typed.specs.declared.stmt.CasePattern.{CasePattern}
use Rattle.limbo_typed.specs.declared.stmt.HandlerPattern.{HandlerPattern}
use Rattle.limbo_typed.specs.Typed.{Expr, AltHead, HandlerHead, Stmt, Stmts, Bodies, Function, Module, Var, Interface}
use Rattle.limbo_typed.specs.Typed.{Exception}
use Rattle.limbo_typed.specs.Sound.{Each, type_of, IsNamed, SoundFunction, HasOwner, HasSystem, SoundInitial, SoundDeclaration, IsSound}
use Rattle.limbo_scope.specs.Scopes.{Scope}
use Rattle.limbo_context.specs.Context.{Context, Callee}
use Rattle.limbo_stating.specs.limbo_local.Points.{Point, ValueAt, with_body, enter, leave, with_variables}
use Rattle.limbo_stating.specs.Around.{Around, in_loop, in_branch, in_arm_of, MayEvaluate, MayTest}
use Rattle.limbo_stating.specs.Cases as cases
use Rattle.limbo_stating.specs.Cases.{ArePatterns}
use Rattle.limbo_stating.specs.Alts.{IsAltHead}
use Rattle.limbo_stating.specs.Handlers.{HasName}
use Rattle.limbo_stating.specs.Raising as raising
use Rattle.limbo_stating.specs.Raising.{Raises}
use Rattle.limbo_stating.specs.Stating.{Branch, OfCase, OfAlt, OfPick, OfHandler, HeadOf, IsHead, with_catch}
use Rattle.limbo_stating.specs.Stating.{States, StatesAll, StatesBlock, StatesArms}
use Rattle.limbo_stating.specs.Functions.{Definition, begins, around, IsFunction, AreFunctions}
use Rattle.limbo_typed_sound.specs.Describing.{Begins, IsNamedFunction, Describes}
use Rattle.limbo_typed_sound.proofs.More.{more_names}
use Rattle.limbo_stated_sound.specs.Growing.{Extends}
use Rattle.limbo_stated_sound.specs.Proper.{IsProperBlock}
use Rattle.limbo_stated_sound.specs.Standing.{HasAllTypes, Covers, Opens}
use Rattle.limbo_stated_sound.specs.Named.{IsNamedIn, OfFunction, HoldsOf, IsNamedThroughout, IsMadeOf, OwnerIn, IsReady}
use Rattle.limbo_stated_sound.proofs.Lists.{begins_on, as_long}
use Rattle.limbo_stated_sound.proofs.Imports.{same_length}
use Rattle.limbo_stated_sound.proofs.Seen.{each_as}
use Rattle.limbo_stated_sound.proofs.Naming.{declared_named, lists_as}
use Rattle.limbo_stated_sound.proofs.Whole.{functions_extend, functions_sound}

-- ---- statements: only declarations change a context

abbrev Stays : Point → Point → Type 0
Stays p q = IsNamedThroughout p.context → IsNamedThroughout q.context

same : (p r q : Point) → q ≡ r → Stays p r → Stays p q
same p r q e f n = subst (λ (z : Point). IsNamedThroughout z.context) (sym e) (f n)

by_value : (p : Point) (e : exprs.Expr) (x : Expr) (q : Point) → ValueAt p e x q → Stays p q
by_value p e x q h = same p (with_body h.behind p) q h.goes_on (λ n. n)

may_evaluate : (p : Point) (e : Option exprs.Expr) (x : Option Expr) (q : Point) → MayEvaluate p e x q → Stays p q
may_evaluate p None x q h = same p p q h.1 (λ n. n)
may_evaluate p (Some e) x q h = same p (with_body h.1.behind p) q h.1.goes_on (λ n. n)

may_test : (p : Point) (e : Option exprs.Expr) (x : Option Expr) (q : Point) → MayTest p e x q → Stays p q
may_test p None x q h = same p p q h.1 (λ n. n)
may_test p (Some e) x q h = by_value p e h.0 q h.1.has

raises : (p : Point) (e : exprs.Expr) (z : Stmt) (q : Point) → Raises p e z q → Stays p q
raises p _ _ _ (raising.a_string e x y q h s) = by_value p e x q h
raises p _ _ _ (raising.alone n i x h v) = λ n. n
raises p _ _ _ (raising.with_values n es i x xs ys b h v s) = λ n. n

pattern_stays : (t : Ty) (p : Point) (x : tree.Pattern) (z : CasePattern) (q : Point) → cases.IsPattern t p x z q → Stays p q
pattern_stays t p tree.AnyValue z q h = same p p q h.1 (λ n. n)
pattern_stays t p (tree.Value e) z q h = by_value p e h.1.value q h.1.has
pattern_stays t p (tree.Range e f) z q h = λ n. by_value h.2 f h.4.value q h.4.has (by_value p e h.3.value h.2 h.3.has n)

patterns_stay : (t : Ty) (p : Point) (xs : List tree.Pattern) (zs : List CasePattern) (q : Point) → ArePatterns t p xs zs q → Stays p q
patterns_stay t p [] [] q h = same p p q h (λ n. n)
patterns_stay t p [] (z ∷ zs) q h = absurd h
patterns_stay t p (x ∷ xs) [] q h = absurd h
patterns_stay t p (x ∷ xs) (z ∷ zs) q h = λ n. patterns_stay t h.0 xs zs q h.2 (pattern_stays t p x z h.0 h.1 n)

alt_stays : (p : Point) (e : Option exprs.Expr) (h : AltHead) (q : Point) → IsAltHead p e h q → Stays p q
alt_stays p None h q k = same p p q k.1 (λ n. n)
alt_stays p (Some e) h q k = same p (with_body k.1 p) q k.5 (λ n. n)

name_stays : (p : Point) (name : Option (List ℕ)) (zs : List HandlerPattern) (h : HandlerHead) (q : Point) → HasName p name zs h q
    → Stays p q
name_stays p None zs h q k = same p p q k.1 (λ n. n)
name_stays p (Some n) zs h q k = same p (with_variables (n ∷ []) k.0 p) q k.4 (λ n. n)

head_stays : (o : Branch) (p : Point) (x : tree.Head) (h : HeadOf o) (q : Point) → IsHead o p x h q → Stays p q
head_stays (OfCase t) p (tree.CaseHead ps) h q k = patterns_stay t p ps h q k
head_stays OfAlt p (tree.AltHead e) h q k = alt_stays p e h q k
head_stays (OfPick n a) p (tree.PickHead ns) h q k = same p (with_variables (n ∷ []) _ p) q k.3 (λ n. n)
head_stays (OfHandler n) p (tree.HandlerHead ps) h q k = name_stays p n k.0 h q k.2
head_stays (OfCase t) p (tree.AltHead e) h q k = absurd k
head_stays (OfCase t) p (tree.PickHead ns) h q k = absurd k
head_stays (OfCase t) p (tree.HandlerHead ps) h q k = absurd k
head_stays OfAlt p (tree.CaseHead ps) h q k = absurd k
head_stays OfAlt p (tree.PickHead ns) h q k = absurd k
head_stays OfAlt p (tree.HandlerHead ps) h q k = absurd k
head_stays (OfPick n a) p (tree.CaseHead ps) h q k = absurd k
head_stays (OfPick n a) p (tree.AltHead e) h q k = absurd k
head_stays (OfPick n a) p (tree.HandlerHead ps) h q k = absurd k
head_stays (OfHandler n) p (tree.CaseHead ps) h q k = absurd k
head_stays (OfHandler n) p (tree.AltHead e) h q k = absurd k
head_stays (OfHandler n) p (tree.PickHead ns) h q k = absurd k

mutual
  pub stated_named : (v : Around) (p : Point) (s : tree.Stmt) (z : Stmt) (q : Point) → States v p s z q → Stays p q
  stated_named v p tree.Empty z q h = same p p q h.1 (λ n. n)
  stated_named v p (tree.Nested b) z q h = block_named v p b z q h
  stated_named v p (tree.Declare d) z q h = λ n. declared_named v.module_name d p q z n h
  stated_named v p (tree.Eval e) z q h = same p (with_body h.1.behind p) q h.1.goes_on (λ n. n)
  stated_named v p (tree.If c s) z q h = λ n. stated_named v h.2 s h.1 q h.4 (by_value p c h.0 h.2 h.3.has n)
  stated_named v p (tree.IfElse c s t) z q h =
      λ n. stated_named v h.4 t h.2 q h.7 (stated_named v h.3 s h.1 h.4 h.6 (by_value p c h.0 h.3 h.5.has n))
  stated_named v p (tree.While l c s) z q h = λ n. stated_named (in_loop l v) h.2 s h.1 q h.4 (may_test p c h.0 h.2 h.3 n)
  stated_named v p (tree.Do l s c) z q h = λ n. may_test h.2 c h.0 q h.4 (stated_named (in_loop l v) p s h.1 h.2 h.3 n)
  stated_named v p (tree.For l a c b s) z q h =
      λ n.
      stated_named (in_loop l v) h.6 s h.3 q h.10
      (may_evaluate h.5 b h.2 h.6 h.9 (may_test h.4 c h.1 h.5 h.8 (may_evaluate p a h.0 h.4 h.7 n)))
  stated_named v p (tree.Case l e arms) z q h =
      λ n. arms_named (OfCase (type_of h.0)) (in_branch l v) h.3 arms h.1 h.2 q h.5 (by_value p e h.4.value h.3 h.4.has n)
  stated_named v p (tree.Alt l arms) z q h = arms_named OfAlt (in_branch l v) p arms h.0 h.1 q h.2
  stated_named v p (tree.Pick l x e arms) z q h =
      λ n. arms_named (OfPick x h.1) (in_branch l v) h.4 arms h.2 h.3 q h.6 (by_value p e h.0 h.4 h.5.has n)
  stated_named v p (tree.Break l) z q h = same p p q h.3 (λ n. n)
  stated_named v p (tree.Continue l) z q h = same p p q h.3 (λ n. n)
  stated_named v p (tree.Return None) z q h = same p p q h.2 (λ n. n)
  stated_named v p (tree.Return (Some e)) z q h = by_value p e h.0 q h.2
  stated_named v p tree.Exit z q h = same p p q h.1 (λ n. n)
  stated_named v p (tree.Spawn e) z q h = same p (with_body h.1.behind p) q h.1.goes_on (λ n. n)
  stated_named v p (tree.Raise None) z q h = same p p q h.3 (λ n. n)
  stated_named v p (tree.Raise (Some e)) z q h = raises p e z q h

  all_named : (v : Around) (p : Point) (ss : tree.Stmts) (zs : Stmts) (q : Point) → StatesAll v p ss zs q → Stays p q
  all_named v p tree.NoStmts zs q h = same p p q h.1 (λ n. n)
  all_named v p (tree.MoreStmts s ss) zs q h = λ n. all_named v h.2 ss h.1 q h.4 (stated_named v p s h.0 h.2 h.3 n)

  pub block_named : (v : Around) (p : Point) (b : tree.Block) (z : Stmt) (q : Point) → StatesBlock v p b z q → Stays p q
  block_named v p (tree.Plain ss) z q h = same p (leave h.1) q h.4 (λ n. all_named v (enter p) ss h.0 h.1 h.2 n)
  block_named v p (tree.Handled ss x arms) z q h =
      λ n.
      arms_named (OfHandler x) (in_arm_of p.catches v) (leave h.3) arms h.1 h.2 q h.5
      (all_named v (enter (with_catch p)) ss h.0 h.3 h.4 n)

  arms_named : (o : Branch) (v : Around) (p : Point) (arms : tree.Arms) (hs : List (HeadOf o)) (bs : Bodies) (q : Point)
      → StatesArms o v p arms hs bs q → Stays p q
  arms_named o v p tree.NoArms hs bs q h = same p p q h.2 (λ n. n)
  arms_named o v p (tree.MoreArms x ss arms) hs bs q h =
      λ n.
      arms_named o v (leave h.5) arms h.1 h.3 q h.8
      (all_named v h.4 ss h.2 h.5 h.7 (head_stays o (enter p) x h.0 h.4 h.6 n))

-- ---- functions

function_named : (name : List ℕ) (scopes : List Scope) (f : Callee) (d : Definition) (c e : Context) (g : Function)
    → IsFunction name scopes f d c g e → IsNamedThroughout c → IsNamedThroughout e
function_named name scopes f d c e g h n =
    subst IsNamedThroughout (sym h.goes_on)
    (block_named (around name f.of) (begins c scopes d f.of) d.block h.stmt h.behind h.states n)

pub functions_named : (name : List ℕ) (scopes : List Scope) (fs : List Callee) (ds : List Definition) (c e : Context) (gs : List Function)
    → IsNamedThroughout c → AreFunctions name scopes fs ds c gs e → IsNamedThroughout e
functions_named name scopes [] [] c e [] n h = subst IsNamedThroughout (sym h) n
functions_named name scopes [] [] c e (g ∷ gs) n h = absurd h
functions_named name scopes [] (d ∷ ds) c e gs n h = absurd h
functions_named name scopes (f ∷ fs) [] c e gs n h = absurd h
functions_named name scopes (f ∷ fs) (d ∷ ds) c e [] n h = absurd h
functions_named name scopes (f ∷ fs) (d ∷ ds) c e (g ∷ gs) n h =
    functions_named name scopes fs ds h.0 e gs (function_named name scopes f d c h.0 g h.1 n) h.2

-- the functions are those that are declared
checked_as_declared : (name : List ℕ) (scopes : List Scope) (fs : List Callee) (ds : List Definition) (c e : Context) (gs : List Function)
    → AreFunctions name scopes fs ds c gs e → (n : ℕ) (f : Callee) → slice_get fs n ≡ Some f
    → (g : Function) × (slice_get gs n ≡ Some g) × (g.of ≡ f.of)
checked_as_declared name scopes [] ds c e gs h n f i = absurd (none-some f i)
checked_as_declared name scopes (x ∷ fs) [] c e gs h n f i = absurd h
checked_as_declared name scopes (x ∷ fs) (d ∷ ds) c e [] h n f i = absurd h
checked_as_declared name scopes (x ∷ fs) (d ∷ ds) c e (g ∷ gs) h zero f i =
    (g, refl, ap (λ (z : Function). z.of) h.1.gives ∙ ap (λ (z : Callee). z.of) (same_Some x f i))
checked_as_declared name scopes (x ∷ fs) (d ∷ ds) c e (g ∷ gs) h (suc n) f i =
    checked_as_declared name scopes fs ds h.0 e gs h.2 n f i

types_checked : (P : Ty → Type 0) (name : List ℕ) (scopes : List Scope) (fs : List Callee) (ds : List Definition) (c e : Context)
    (gs : List Function) → AreFunctions name scopes fs ds c gs e → Each (λ f. OfFunction P f.of) fs → Each (λ g. OfFunction P g.of) gs
types_checked P name scopes [] [] c e [] h k = tt
types_checked P name scopes [] [] c e (g ∷ gs) h k = absurd h
types_checked P name scopes [] (d ∷ ds) c e gs h k = absurd h
types_checked P name scopes (f ∷ fs) [] c e gs h k = absurd h
types_checked P name scopes (f ∷ fs) (d ∷ ds) c e [] h k = absurd h
types_checked P name scopes (f ∷ fs) (d ∷ ds) c e (g ∷ gs) h k =
    (subst (OfFunction P) (sym (ap (λ (z : Function). z.of) h.1.gives)) k.0, types_checked P name scopes fs ds h.0 e gs h.2 k.1)

-- ---- modules

same_begins : {A : Type 0} (xs ys : List A) → ys ≡ xs → Begins xs ys
same_begins xs ys e n x i = ap (λ z. slice_get z n) e ∙ i

module _ (m : Module) (name : List ℕ) (scopes : List Scope) (ds : List Definition) (c e : Context) (gs : List Function)
    (ready : IsReady scopes c) (proper : Each (λ d. IsProperBlock d.block) ds) (are : AreFunctions name scopes c.functions ds c gs e)
    (made : IsMadeOf m e gs) where
  extends : Extends c e
  extends = functions_extend name scopes c.functions ds c e gs are

  named : IsNamedThroughout e
  named = functions_named name scopes c.functions ds c e gs ready.named are

  many : length e.modules ≤ length m.interfaces
  many =
      let a : length m.interfaces ≡ length e.interfaces = ap (λ (is : List Interface). length is) made.interfaces in
      let b : length (map (λ (i : Interface). i.name) e.interfaces) ≡ length e.modules = ap (λ (ns : List (List ℕ)). length ns)
      named.modules in
      let d : length (map (λ (i : Interface). i.name) e.interfaces) ≡ length e.interfaces = same_length (λ (i : Interface). i.name)
      e.interfaces in
      omega arith

  named_in_module : (t : Ty) → IsNamedIn e t → IsNamed m t
  named_in_module t h =
      (more_names e.adts m.adts (same_begins e.adts m.adts made.adts) (length e.modules) (length m.interfaces) many t h.0, h.1)

  covers : Covers m e
  covers = record {
    adts = same_begins e.adts m.adts made.adts;
    modules = many;
    interfaces = same_begins e.interfaces m.interfaces made.interfaces;
    exceptions = same_begins e.exceptions m.exceptions made.exceptions;
  }

  lists : HoldsOf (IsNamed m) e.globals e.functions e.interfaces e.exceptions
  lists = lists_as (IsNamedIn e) (IsNamed m) e.globals e.functions e.interfaces e.exceptions named_in_module named.lists

  pub all_types : HasAllTypes m
  all_types = record {
    types = record {
      fields = λ n d t i h. named_in_module t (named.fields n d t (ap (λ (z : List Def). slice_get z n) (sym made.adts) ∙ i) h);
      globals = subst (λ (vs : List Var). Each (λ v. IsNamed m v.ty) vs) (sym made.globals) lists.globals;
      functions =
          subst (λ (fs : List Function). Each (λ f. IsNamedFunction m f.of) fs) (sym made.functions)
          (types_checked (IsNamed m) name scopes c.functions ds c e gs are
          (subst (λ (fs : List Callee). Each (λ f. OfFunction (IsNamed m) f.of) fs) extends.functions lists.functions));
      interfaces =
          subst (λ (is : List Interface). Each (λ i. Each (λ s. OfFunction (IsNamed m) s.of) i.functions) is) (sym made.interfaces)
          lists.interfaces;
    };
    exceptions = subst (λ (es : List Exception). Each (λ x. Each (IsNamed m) x.values) es) (sym made.exceptions) lists.exceptions;
  }

  describes : Describes m c
  describes = record {
    adts = begins_on c.adts e.adts m.adts extends.adts covers.adts;
    modules = let a = as_long c.modules e.modules extends.modules in let b = many in omega arith;
    interfaces = begins_on c.interfaces e.interfaces m.interfaces extends.interfaces covers.interfaces;
    globals = same_begins c.globals m.globals (made.globals ∙ extends.globals);
    functions = λ n f i.
        let g = checked_as_declared name scopes c.functions ds c e gs are n f i in
        (g.0, ap (λ (z : List Function). slice_get z n) made.functions ∙ g.1, g.2);
    system = sym (made.system ∙ extends.system);
    fd = λ n i.
        let a = ready.fd n i in
        let l = as_long c.adts e.adts extends.adts in
        let b : length m.adts ≡ length e.adts = ap (λ (z : List Def). length z) made.adts in
        omega arith;
    constants = ready.constants;
    types = ready.named.types;
    imports = ready.imports;
  }

  owner : (o : Option ℕ) → OwnerIn c o → HasOwner m o
  owner None h = tt
  owner (Some n) h =
      let l = as_long c.adts e.adts extends.adts in
      let b : length m.adts ≡ length e.adts = ap (λ (z : List Def). length z) made.adts in
      omega arith

  opens : Opens m scopes c
  opens = record { describes = describes; outside = ready.outside }

  pub module_sound : HasAllTypes m × Each (SoundFunction m) m.functions × Describes m e
  module_sound =
      let o = each_as (λ (f : Callee). OwnerIn c f.owner) (λ (f : Callee). HasOwner m f.owner) c.functions (λ f h. owner f.owner h)
      ready.owners in
      let s = functions_sound m name scopes c.functions ds c e gs all_types opens covers o proper are in
      (all_types, subst (Each (SoundFunction m)) (sym made.functions) s.0, s.1.describes)

  system_there : (o : Option ℕ) → c.system ≡ o → HasSystem m o
  system_there None q = tt
  system_there (Some n) q =
      let a = ready.system n q in
      let l = as_long c.interfaces e.interfaces extends.interfaces in
      let b : length m.interfaces ≡ length e.interfaces = ap (λ (is : List Interface). length is) made.interfaces in
      omega arith

  pub checked_sound : Each (SoundInitial m) m.initials → Each (SoundDeclaration m) m.declared → IsSound m
  checked_sound initials declared = record {
    adts = λ n d t q h. (all_types.types.fields n d t q h).0;
    modules = ap (λ (is : List Interface). map (λ (i : Interface). i.name) is) made.interfaces ∙ named.modules ∙ sym made.modules;
    globals = all_types.types.globals;
    initials = initials;
    functions = module_sound.1;
    declared = declared;
    interfaces = all_types.types.interfaces;
    system = subst (HasSystem m) (sym (made.system ∙ extends.system)) (system_there c.system refl);
    exceptions = all_types.exceptions;
  }
