-- Expressions in statements, declarations and heads of arms are sound.
use Rattle.std.proofs.Common.{◌≡◌, ◌≤◌, ◌<◌, ◌+◌, inl, inr, ℕ, suc, Bool, true, false, List, [], ◌∷◌, ◌++◌, length, map, Option, None, Some}
use Rattle.std.proofs.Common.{refl, sym, ap, subst, ◌∙◌, arith, if◌then◌else◌, length-append}
use Rattle.std.specs.Prelude.{slice_get}
use Rattle.std.proofs.lemmas.Option.{none-some, same_Some}
use Rattle.limbo_types.specs.Types as ty
use Rattle.limbo_types.specs.Types.{Ty, Tys, Tuple, Chars, Int}
use Rattle.limbo_types.specs.View.{tys_of}
use Rattle.limbo_layout.specs.Adts.{listed}
use Rattle.limbo_tree.specs.Exprs as exprs
use Rattle.limbo_tree.specs.Stmts as tree
use Rattle.limbo_tree.specs.Decls as decls
use Rattle.limbo_tree.specs.Decls.{Decl}
use Rattle.limbo_typed.specs.declared.stmt.CasePattern.{CasePattern}
use Rattle.limbo_typed.specs.declared.stmt.Constant.{Constant}
use Rattle.limbo_typed.specs.declared.stmt.HandlerPattern.{HandlerPattern}
use Rattle.limbo_typed.specs.declared.stmt.HandlerPattern.TheVariants as handler
use Rattle.limbo_typed.specs.Typed.{Expr, Of, Exprs, Receive, Assign, Send, AltHead, Receives, Sends, PickHead, HandlerHead}
use Rattle.limbo_typed.specs.Typed.{Stmt, Declare, Empty, Module, Var, Function, Exception, Pattern}
use Rattle.limbo_typed.specs.Fitting.{IsConstant, IsRefOf, Stands, AllStand}
use Rattle.limbo_typed.specs.Sound.{Each, type_of, types_of, picked, IsSettled, IsNamed, NamesAll, HasVariable, HasException, IsCased}
use Rattle.limbo_typed.specs.Sound.{SoundExpr, SoundExprs, SoundInt, SoundPattern, SoundOption, SoundCondition, HasSomeVariable}
use Rattle.limbo_typed.specs.Sound.{SoundDeclared}
use Rattle.limbo_typed.specs.Sound.{SoundCasePattern, SoundReceived, SoundAltHead, SoundPickHead, SoundHandlerPattern, HasCaught}
use Rattle.limbo_typed.specs.Sound.{SoundHandlerHead}
use Rattle.limbo_typed.specs.Sound as checked
use Rattle.limbo_typed.specs.Sound.{SoundStmt}
use Rattle.limbo_forms.specs.Forms.{ref_of}
use Rattle.limbo_standing.proofs.Settled.{settled_stands}
use Rattle.limbo_arguments.proofs.Each.{each_stand}
use Rattle.limbo_folding.specs.Folding.{value_of}
use Rattle.limbo_scope.specs.declared.meaning.Meaning.{Meaning}
use Rattle.limbo_context.specs.Context.{Context, Body}
use Rattle.limbo_typed_sound.specs.limbo_typing.Typing as typing
use Rattle.limbo_typed_sound.specs.limbo_typing.Typing.{Types, HasValue, HaveValues}
use Rattle.limbo_stating.specs.limbo_local.Points.{Point, ValueAt, with_body, numbers, next_numbers, with_variables}
use Rattle.limbo_stating.specs.limbo_local.Declaring.{Declares}
use Rattle.limbo_stating.specs.Around.{Evaluates, MayEvaluate, Tests, MayTest, always}
use Rattle.limbo_stating.specs.Cases as cases
use Rattle.limbo_stating.specs.Cases.{Chooses, IsChosenFrom, ArePatterns, IsLabel}
use Rattle.limbo_stating.specs.Alts.{IsAltHead, assigned, waits_for}
use Rattle.limbo_stating.specs.Picks.{IsPicked, IsPickHead, AreVariants}
use Rattle.limbo_stating.specs.Handlers as handlers
use Rattle.limbo_stating.specs.Handlers.{IsHandled, AreHandled, IsHandlerHead, HasName, IsCaught, AllCarry, Carries}
use Rattle.limbo_stating.specs.Raising as raising
use Rattle.limbo_stating.specs.Raising.{Raises, NamesException}
use Rattle.limbo_stating.specs.Stating.{Branch, OfCase, OfAlt, OfPick, OfHandler, HeadOf, IsHead}
use Rattle.limbo_typed_sound.specs.Describing.{Begins}
use Rattle.limbo_typed_sound.specs.Proper.{ThroughoutAll, IsInRange}
use Rattle.limbo_typed_sound.proofs.Lists.{each_at, begins_with, at_end}
use Rattle.limbo_typed_sound.proofs.Ready.{stands_alone, Ready, ReadyEach, sound, sound_int, asked, asked_each}
use Rattle.limbo_typed_sound.proofs.Bodies.{before}
use Rattle.limbo_typed_sound.proofs.Typed.{in_typed, in_value}
use Rattle.limbo_stated_sound.specs.Proper.{IsProper, InOption, InPattern, InPatterns, InHead, IsProperDecl}
use Rattle.limbo_stated_sound.specs.Standing.{HasAllTypes, Covers}
use Rattle.limbo_stated_sound.proofs.Lists.{as_long}
use Rattle.limbo_stated_sound.proofs.Moving.{by_values}
use Rattle.limbo_stated_sound.proofs.Leading.{value_leads, variables_lead}
use Rattle.limbo_stated_sound.proofs.Rows as rows
use Rattle.limbo_stated_sound.proofs.Seen.{Known, covered_fits, each_as}
use Rattle.limbo_stated_sound.proofs.Knowing.{value_known}
use Rattle.limbo_stated_sound.proofs.Open.{value_folds, constant_of, exception_meant}
use Rattle.limbo_stated_sound.proofs.Staying.{KnownAt, means_named}
use Rattle.limbo_stated_sound.proofs.Standing.{describes_of, well_of}
use Rattle.limbo_stated_sound.proofs.Going.{covered_there, covered_at, fits_covered, go_by_value, go_pattern, variant_named}

-- ---- variables

numbered : (n : ℕ) (names : List (List ℕ)) (k : ℕ) → n + length names ≤ k → Each (λ x. x < k) (numbers n names)
numbered n [] k l = tt
numbered n (name ∷ names) k l = (omega arith, numbered (suc n) names k (omega arith))

abbrev pub variables_of : List (List ℕ) → Ty → List Var
variables_of names t = map (λ n. record { name = n; ty = t }) names

one_by_one : (vs : List Var) (v : Var) (ws : List Var) → vs ++ v ∷ ws ≡ (vs ++ v ∷ []) ++ ws
one_by_one [] v ws = refl
one_by_one (w ∷ vs) v ws = ap (λ (z : List Var). w ∷ z) (one_by_one vs v ws)

one_longer : (vs : List Var) (v : Var) → length (vs ++ v ∷ []) ≡ suc (length vs)
one_longer [] v = refl
one_longer (w ∷ vs) v = ap suc (one_longer vs v)

-- the variables that names declare have the type
have_type : (vs : List Var) (names : List (List ℕ)) (t : Ty) (fs : List Var) → Begins (vs ++ variables_of names t) fs
    → Each (λ x. HasVariable fs x t) (numbers (length vs) names)
have_type vs [] t fs b = tt
have_type vs (n ∷ names) t fs b =
    let v : Var = record { name = n; ty = t } in
    let c : Begins ((vs ++ v ∷ []) ++ variables_of names t) fs = subst (λ (z : List Var). Begins z fs)
    (one_by_one vs v (variables_of names t)) b in
    let h = have_type (vs ++ v ∷ []) names t fs c in (
      (v, c (length vs) v (begins_with (vs ++ v ∷ []) (variables_of names t) (length vs) v (at_end vs v)), refl),
      subst (λ (k : ℕ). Each (λ x. HasVariable fs x t) (numbers k names)) (one_longer vs v) h,
    )

-- ---- in a function with these variables

module _ (m : Module) (all : HasAllTypes m) (vs : List Var) where
  abbrev Is : Expr → Type 0
  Is e = Ready m vs e

  behind : (p q : Point) (b : Body) → q ≡ with_body b p → Begins q.body.variables vs → Begins b.variables vs
  behind p q b e g = subst (λ (z : Point). Begins z.body.variables vs) e g

  pub ready_value : (p : Point) (e : exprs.Expr) (x : Expr) (q : Point) → Covers m p.context → KnownAt m p → IsProper e
      → Begins q.body.variables vs → ValueAt p e x q → Is x
  ready_value p e x q c k i g h =
      in_value m vs p.context all.types (describes_of m p.context p.body c k) p.body e x h.behind h.has
      (well_of m p.context p.body k) i (behind p q h.behind h.goes_on g)

  pub ready_typed : (p : Point) (e : exprs.Expr) (x : Expr) (b : Body) → Covers m p.context → KnownAt m p → IsProper e
      → Begins b.variables vs → Types p.context p.body e x b → Is x
  ready_typed p e x b c k i g h =
      in_typed m vs p.context all.types (describes_of m p.context p.body c k) p.body e x b h (well_of m p.context p.body k) i g

  ready_values : (c : Context) → Covers m c → (b : Body) (es : exprs.Exprs) (xs : Exprs) (d : Body) → Known m c b
      → ThroughoutAll IsInRange es → Begins d.variables vs → HaveValues c b es xs d → ReadyEach m vs xs
  ready_values c h _ _ _ _ k i g (typing.no_values b) = tt
  ready_values c h _ _ _ _ k i g (typing.values b b1 d e es x xs v s) =
      let f = covered_fits m c all.types h in (
        in_value m vs c all.types (describes_of m c b h k) b e x b1 v (well_of m c b k) i.0
            (before b1 d vs (by_values c b1 es xs d s).variables g),
        ready_values c h b1 es xs d (value_known m c f b e x b1 v k) i.1 g s,
      )

  -- ---- what is evaluated, and tested

  pub evaluated : (p : Point) (e : exprs.Expr) (x : Expr) (q : Point) → Covers m p.context → KnownAt m p → IsProper e
      → Begins q.body.variables vs → Evaluates p e x q → SoundExpr m vs x
  evaluated p e x q c k i g h =
      sound m vs x (ready_typed p e x h.behind c k i (behind p q h.behind h.goes_on g) h.types) h.settled

  pub may_be_evaluated : (p : Point) (e : Option exprs.Expr) (x : Option Expr) (q : Point) → Covers m p.context → KnownAt m p
      → InOption IsProper e → Begins q.body.variables vs → MayEvaluate p e x q → SoundOption m vs x
  may_be_evaluated p None x q c k i g h = subst (SoundOption m vs) (sym h.0) tt
  may_be_evaluated p (Some e) x q c k i g h = subst (SoundOption m vs) (sym h.2) (evaluated p e h.0 q c k i g h.1)

  pub tested : (p : Point) (e : exprs.Expr) (x : Expr) (q : Point) → Covers m p.context → KnownAt m p → IsProper e
      → Begins q.body.variables vs → Tests p e x q → SoundInt m vs x
  tested p e x q c k i g h = sound_int m vs x (ready_value p e x q c k i g h.has) h.int

  pub may_be_tested : (p : Point) (e : Option exprs.Expr) (x : Option Expr) (q : Point) → Covers m p.context → KnownAt m p
      → InOption IsProper e → Begins q.body.variables vs → MayTest p e x q → SoundCondition m vs x
  may_be_tested p None x q c k i g h = subst (SoundCondition m vs) (sym h.0) tt
  may_be_tested p (Some e) x q c k i g h =
      subst (SoundCondition m vs) (sym h.2) (go (always (value_of h.0)) (tested p e h.0 q c k i g h.1))
    where
      go : (b : Bool) → SoundInt m vs h.0 → SoundCondition m vs (if b then None else Some h.0)
      go true s = tt
      go false s = s

  -- ---- declarations

  sound_declared : (p : Point) (names : List (List ℕ)) (t : Ty) (x : Expr) → Begins (with_variables names t p).body.variables vs
      → SoundExpr m vs x → Stands (type_of x) t → SoundDeclared m vs (next_numbers names p) (Some x)
  sound_declared p names t x g s l = (
    s,
    each_as (λ y. HasVariable vs y t) (λ y. (u : Ty) × HasVariable vs y u × Stands (type_of x) u) (next_numbers names p) (λ y h. (t, h, l))
        (have_type p.body.variables names t vs g),
  )

  same_many : (names : List (List ℕ)) (t : Ty) → length (variables_of names t) ≡ length names
  same_many [] t = refl
  same_many (n ∷ names) t = ap suc (same_many names t)

module _ (m : Module) (all : HasAllTypes m) (f : Function) (around : List Bool) where
  is : (z y : Stmt) → z ≡ y → SoundStmt m f around y → SoundStmt m f around z
  is z y e h = subst (SoundStmt m f around) (sym e) h

  pub declared : (name : List ℕ) (d : Decl) (p q : Point) (z : Stmt) → Covers m q.context → KnownAt m p → IsProperDecl d
      → Begins q.body.variables f.variables → Declares name d p z q → SoundStmt m f around z
  declared name (decls.Con ns e) p q z c k i g h = is z Empty h.4 tt
  declared name (decls.TypeName ns t) p q z c k i g h = is z Empty h.3 tt
  declared name (decls.Var ns t None) p q z c k i g h =
      let w = with_variables ns h.0 p in
      let b : Begins w.body.variables f.variables = subst (λ (x : Point). Begins x.body.variables f.variables) h.4 g in
      let l = as_long w.body.variables f.variables b in
      let a = length-append p.body.variables (variables_of ns h.0) in
      let n = same_many m all f.variables ns h.0 in
      is z (Declare (next_numbers ns p) None) h.3 (numbered (length p.body.variables) ns (length f.variables) (omega arith))
  declared name (decls.Var ns t (Some e)) p q z c k i g h =
      let w = with_variables ns h.0 h.3 in
      let b : Begins w.body.variables f.variables = subst (λ (x : Point). Begins x.body.variables f.variables) h.9 g in
      let d = covered_there m h.3 w (variables_lead ns h.0 h.3) (covered_at m w q h.9 c) in
      let o = covered_there m p h.3 (value_leads p e h.1 h.3 h.5) d in
      let n = means_named m all.types p t h.0 (fits_covered m all p o) k h.4 in
      let r = ready_value m all f.variables p e h.1 h.3 o k i
      (before h.3.body w.body f.variables (variables_lead ns h.0 h.3).variables b) h.5 in
      is z (Declare (next_numbers ns h.3) (Some h.2)) h.8
      (sound_declared m all f.variables h.3 ns h.0 h.2 b (asked m f.variables h.0 h.1 h.2 h.6 r n) (settled_stands h.0 h.1 h.2 h.6))
  declared name (decls.Define ns e) p q z c k i g h =
      let t = type_of h.0 in
      let w = with_variables ns t h.1 in
      let b : Begins w.body.variables f.variables = subst (λ (x : Point). Begins x.body.variables f.variables) h.6 g in
      let d = covered_there m h.1 w (variables_lead ns t h.1) (covered_at m w q h.6 c) in
      let o = covered_there m p h.1 (value_leads p e h.0 h.1 h.2) d in
      let r = ready_value m all f.variables p e h.0 h.1 o k i (before h.1.body w.body f.variables
      (variables_lead ns t h.1).variables b) h.2 in
      is z (Declare (next_numbers ns h.1) (Some h.0)) h.5
      (sound_declared m all f.variables h.1 ns t h.0 b (sound m f.variables h.0 r h.3) (inl refl))
  declared name (decls.Import ns n) p q z c k i g h = is z Empty h.6 tt
  declared name (decls.Exception ns ts) p q z c k i g h = is z Empty h.3 tt
  declared name (decls.Module n ms) p q z c k i g h = is z Empty h.4 tt
  declared name (decls.Adt n ms pick) p q z c k i g h = is z Empty h.3 tt

-- ---- what is chosen from, labels, and heads of arms

cased_settled : (t : Ty) → IsCased t → IsSettled t
cased_settled t (inl e) = subst IsSettled (sym e) tt
cased_settled t (inr (inl e)) = subst IsSettled (sym e) tt
cased_settled t (inr (inr e)) = subst IsSettled (sym e) tt

ref_settled : (t : Ty) (a : ℕ) → ref_of t ≡ Some a → IsSettled t × IsRefOf a t
ref_settled (ty.RefAdt n) a e = (tt, same_Some n a e)
ref_settled (ty.RefPick n v) a e = (tt, same_Some n a e)
ref_settled _ a e = absurd (none-some a e)

listed_tys : (ts : List Ty) → listed (tys_of ts) ≡ ts
listed_tys [] = refl
listed_tys (t ∷ ts) = ap (λ (z : List Ty). t ∷ z) (listed_tys ts)

module _ (m : Module) (all : HasAllTypes m) (vs : List Var) where
  pub chosen : (x y : Expr) → IsChosenFrom x y → Ready m vs x → SoundExpr m vs y × IsCased (type_of y)
  chosen x _ (cases.as_it_is h) r = (sound m vs x r (cased_settled (type_of x) h), h)
  chosen x _ (cases.as_string y e s) r =
      (asked m vs Chars x y s r (tt, tt), inr (inr (stands_alone (type_of y) Chars tt (settled_stands Chars x y s))))

  label_constant : (t : Ty) (p : Point) (e : exprs.Expr) (v : Constant) (q : Point) → Covers m p.context → KnownAt m p → IsProper e
      → Begins q.body.variables vs → IsLabel t p e v q → IsConstant t v
  label_constant t p e v q c k i g h =
      subst (λ (u : Ty). IsConstant u v) h.of
      (constant_of m vs h.value v (ready_value m all vs p e h.value q c k i g h.has)
      (value_folds m p.context p.body e h.value h.has.behind h.has.has) h.known)

  abbrev IsCase : Ty → CasePattern → Type 0
  IsCase t z = SoundCasePattern m vs t z

  case_pattern : (t : Ty) (p : Point) (x : tree.Pattern) (z : CasePattern) (q : Point) → Covers m q.context → KnownAt m p
      → InPattern IsProper x → Begins q.body.variables vs → cases.IsPattern t p x z q → IsCase t z
  case_pattern t p tree.AnyValue z q c k i g h = subst (IsCase t) (sym h.0) tt
  case_pattern t p (tree.Value e) z q c k i g h =
      let d = covered_there m p q (rows.label_leads t p e h.0 q h.1) c in
      subst (IsCase t) (sym h.2) (label_constant t p e h.0 q d k i g h.1)
  case_pattern t p (tree.Range e f) z q c k i g h =
      let l = rows.label_leads t h.2 f h.1 q h.4 in
      let d = covered_there m h.2 q l c in
      let o = covered_there m p h.2 (rows.label_leads t p e h.0 h.2 h.3) d in
      let a = go_by_value m all p e h.3.value h.2 o k h.3.has in
      subst (IsCase t) (sym h.5)
      (label_constant t p e h.0 h.2 o k i.0 (before h.2.body q.body vs l.variables g) h.3, label_constant t h.2 f h.1 q d a i.1 g h.4)

  case_patterns : (t : Ty) (p : Point) (xs : List tree.Pattern) (zs : List CasePattern) (q : Point) → Covers m q.context → KnownAt m p
      → InPatterns IsProper xs → Begins q.body.variables vs → ArePatterns t p xs zs q → Each (IsCase t) zs
  case_patterns t p [] [] q c k i g h = tt
  case_patterns t p [] (z ∷ zs) q c k i g h = absurd h
  case_patterns t p (x ∷ xs) [] q c k i g h = absurd h
  case_patterns t p (x ∷ xs) (z ∷ zs) q c k i g h =
      let l = rows.patterns_lead t h.0 xs zs q h.2 in
      let d = covered_there m h.0 q l c in (
        case_pattern t p x z h.0 d k i.0 (before h.0.body q.body vs l.variables g) h.1,
        case_patterns t h.0 xs zs q c (go_pattern m all t p x z h.0 d k h.1) i.1 g h.2,
      )

  -- ---- of an `alt`

  same_head : (g h : AltHead) → Some g ≡ Some h → SoundAltHead m vs g → SoundAltHead m vs h
  same_head g h e s = subst (SoundAltHead m vs) (same_Some g h e) s

  of_assigned : (t : Ty) (p : Pattern) (y : Expr) (h : AltHead)
      → (elim (assigned y) [ None ↦ None | Some c ↦ Some (Receives (Some p) c) ]) ≡ Some h → Ready m vs (Of t (Assign p y))
      → SoundAltHead m vs h
  of_assigned t p (Of u (Receive c)) h e (inl s) =
      same_head (Receives (Some p) c) h e (s.1.0.1.0, (u, s.1.0.1.1, s.1.1))
  of_assigned t p (Of u _) h e (inl s) = absurd (none-some h e)
  of_assigned t p y h e (inr o) = absurd o.3

  waiting : (x : Expr) (h : AltHead) → waits_for x ≡ Some h → Ready m vs x → SoundAltHead m vs h
  waiting (Of t (Receive c)) h e (inl s) = same_head (Receives None c) h e (s.1.0, (t, s.1.1, tt))
  waiting (Of t (Receive c)) h e (inr o) = absurd o.3
  waiting (Of t (Assign p y)) h e r = of_assigned t p y h e r
  waiting (Of t (Send c y)) h e (inl s) = same_head (Sends c y) h e (s.1.0, s.1.1, (t, s.1.2, s.1.3))
  waiting (Of t (Send c y)) h e (inr o) = absurd o.3
  waiting (Of t _) h e r = absurd (none-some h e)

  alt_head : (p : Point) (e : Option exprs.Expr) (h : AltHead) (q : Point) → Covers m q.context → KnownAt m p → InOption IsProper e
      → Begins q.body.variables vs → IsAltHead p e h q → SoundAltHead m vs h
  alt_head p None h q c k i g j = subst (SoundAltHead m vs) (sym j.0) tt
  alt_head p (Some e) h q c k i g j =
      let d = covered_there m p q (rows.typed_leads p e j.0 j.1 q j.3 j.5) c in
      waiting j.0 h j.4
      (ready_typed m all vs p e j.0 j.1 d k i (subst (λ (x : Point). Begins x.body.variables vs) j.5 g) j.3)

  -- ---- of a `pick`

  variants_named : (c : Context) → Covers m c → (a : ℕ) (ns : List (List ℕ)) (ws : List ℕ) → AreVariants c a ns ws
      → Each (λ v. IsNamed m (ty.RefPick a v)) ws
  variants_named c d a [] [] h = tt
  variants_named c d a [] (v ∷ ws) h = absurd h
  variants_named c d a (n ∷ ns) [] h = absurd h
  variants_named c d a (n ∷ ns) (v ∷ ws) h =
      (variant_named m c (covered_fits m c all.types d) a n v h.0, variants_named c d a ns ws h.1)

  -- the one variable that a name declares
  the_variable : (n : List ℕ) (t : Ty) (p : Point) → Begins (with_variables (n ∷ []) t p).body.variables vs
      → HasVariable vs (length p.body.variables) t
  the_variable n t p g = (have_type p.body.variables (n ∷ []) t vs g).0

  pick_head : (name : List ℕ) (a : ℕ) (p : Point) (ns : List (List ℕ)) (h : PickHead) (q : Point) → Covers m q.context
      → Begins q.body.variables vs → IsPickHead name a p ns h q → SoundPickHead m vs a h
  pick_head name a p ns h q c g j =
      let w = with_variables (name ∷ []) (picked a j.0) p in
      let b : Begins w.body.variables vs = subst (λ (x : Point). Begins x.body.variables vs) j.3 g in
      let d = covered_there m p w (variables_lead (name ∷ []) (picked a j.0) p) (covered_at m w q j.3 c) in
      subst (SoundPickHead m vs a) (sym j.2) (variants_named p.context d a ns j.0 j.1, the_variable name (picked a j.0) p b)

  -- ---- of a handler

  handled : (c : Context) (b : Body) → Covers m c → Known m c b → (x : tree.HandlerPattern) (z : HandlerPattern) → IsHandled c b x z
      → SoundHandlerPattern m vs z
  handled c b d k (tree.Text s) z h = subst (SoundHandlerPattern m vs) (sym h) (text (handlers.starred s))
    where
      text : (o : Option (List ℕ))
          → SoundHandlerPattern m vs (elim o [ None ↦ handler.Chars s | Some t ↦ handler.Prefix t ])
      text None = tt
      text (Some t) = tt
  handled c b d k (tree.Declared n) z h =
      let e = exception_meant c b h.1.means h.0 h.1.is in
      let l = k.raises n h.0 (h.1.is_seen ∙ ap (λ (x : Meaning). Some x) e) in
      let a = as_long c.exceptions m.exceptions d.exceptions in
      subst (SoundHandlerPattern m vs) (sym h.2) (omega arith)
  handled c b d k tree.AnyException z h = subst (SoundHandlerPattern m vs) (sym h) tt

  all_handled : (c : Context) (b : Body) → Covers m c → Known m c b → (xs : List tree.HandlerPattern) (zs : List HandlerPattern)
      → AreHandled c b xs zs → Each (SoundHandlerPattern m vs) zs
  all_handled c b d k [] [] h = tt
  all_handled c b d k [] (z ∷ zs) h = absurd h
  all_handled c b d k (x ∷ xs) [] h = absurd h
  all_handled c b d k (x ∷ xs) (z ∷ zs) h = (handled c b d k x z h.0, all_handled c b d k xs zs h.1)

  carries : (c : Context) → Covers m c → (z : HandlerPattern) (ts : List Ty) → Carries c z ts → checked.Carries m vs (tys_of ts) z
  carries c d (handler.Declared n) ts h = (h.0, d.exceptions n h.0 h.1, h.2 ∙ sym (listed_tys ts))
  carries c d _ ts h = absurd h

  all_carry : (c : Context) → Covers m c → (zs : List HandlerPattern) (ts : List Ty) → AllCarry c zs ts
      → Each (checked.Carries m vs (tys_of ts)) zs
  all_carry c d [] ts h = absurd h
  all_carry c d (z ∷ []) ts h = (carries c d z ts h, tt)
  all_carry c d (z ∷ y ∷ zs) ts h = (carries c d z ts h.0, all_carry c d (y ∷ zs) ts h.1)

  caught : (c : Context) → Covers m c → (zs : List HandlerPattern) (t : Ty) (x : ℕ) → IsCaught c zs t → HasVariable vs x t
      → HasCaught m vs zs (Some x)
  caught c d zs _ x (handlers.IsCaught.values ts h) k = inr (tys_of ts, k, all_carry c d zs ts h)
  caught c d zs _ x (handlers.text h) k = inl k

  named_head : (p : Point) (name : Option (List ℕ)) (zs : List HandlerPattern) (h : HandlerHead) (q : Point) → Covers m q.context
      → Begins q.body.variables vs → Each (SoundHandlerPattern m vs) zs → HasName p name zs h q → SoundHandlerHead m vs h
  named_head p None zs h q c g s j = subst (SoundHandlerHead m vs) (sym j.0) (s, tt)
  named_head p (Some n) zs h q c g s j =
      let w = with_variables (n ∷ []) j.0 p in
      let b : Begins w.body.variables vs = subst (λ (x : Point). Begins x.body.variables vs) j.4 g in
      let d = covered_there m p w (variables_lead (n ∷ []) j.0 p) (covered_at m w q j.4 c) in
      subst (SoundHandlerHead m vs) (sym j.3) (s, caught p.context d zs j.0 (length p.body.variables) j.1 (the_variable n j.0 p b))

  -- ---- of any

  abbrev pub HeadIs : (o : Branch) → HeadOf o → Type 0
  HeadIs (OfCase t) h = Each (SoundCasePattern m vs t) h
  HeadIs OfAlt h = SoundAltHead m vs h
  HeadIs (OfPick name adt) h = SoundPickHead m vs adt h
  HeadIs (OfHandler name) h = SoundHandlerHead m vs h

  pub head : (o : Branch) (p : Point) (x : tree.Head) (h : HeadOf o) (q : Point) → Covers m q.context → KnownAt m p → InHead IsProper x
      → Begins q.body.variables vs → IsHead o p x h q → HeadIs o h
  head (OfCase t) p (tree.CaseHead ps) h q c k i g j = case_patterns t p ps h q c k i g j
  head OfAlt p (tree.AltHead e) h q c k i g j = alt_head p e h q c k i g j
  head (OfPick n a) p (tree.PickHead ns) h q c k i g j = pick_head n a p ns h q c g j
  head (OfHandler n) p (tree.HandlerHead ps) h q c k i g j =
      let d = covered_there m p q (rows.head_leads (OfHandler n) p (tree.HandlerHead ps) h q j) c in
      named_head p n j.0 h q c g (all_handled p.context p.body d k ps j.0 j.1) j.2
  head (OfCase t) p (tree.AltHead e) h q c k i g j = absurd j
  head (OfCase t) p (tree.PickHead ns) h q c k i g j = absurd j
  head (OfCase t) p (tree.HandlerHead ps) h q c k i g j = absurd j
  head OfAlt p (tree.CaseHead ps) h q c k i g j = absurd j
  head OfAlt p (tree.PickHead ns) h q c k i g j = absurd j
  head OfAlt p (tree.HandlerHead ps) h q c k i g j = absurd j
  head (OfPick n a) p (tree.CaseHead ps) h q c k i g j = absurd j
  head (OfPick n a) p (tree.AltHead e) h q c k i g j = absurd j
  head (OfPick n a) p (tree.HandlerHead ps) h q c k i g j = absurd j
  head (OfHandler n) p (tree.CaseHead ps) h q c k i g j = absurd j
  head (OfHandler n) p (tree.AltHead e) h q c k i g j = absurd j
  head (OfHandler n) p (tree.PickHead ns) h q c k i g j = absurd j

  -- ---- what is picked from, and raised

  pub picked_from : (p : Point) (x : Expr) (a : ℕ) → IsPicked p.context x a → Ready m vs x → SoundExpr m vs x × IsRefOf a (type_of x)
  picked_from p x a h r = let s = ref_settled (type_of x) a h.of in (sound m vs x r s.0, s.1)

module _ (m : Module) (all : HasAllTypes m) (f : Function) (around : List Bool) where
  stands_for : (c : Context) (b : Body) → Covers m c → (n : List ℕ) (i : ℕ) (x : Exception) → NamesException c b n i x
      → (slice_get m.exceptions i ≡ Some x) × NamesAll m x.values
  stands_for c b d n i x h =
      let e = d.exceptions i x h.there in
      (e, each_at (λ (y : Exception). NamesAll m y.values) m.exceptions i x e all.exceptions)

  pub raised : (p : Point) (e : exprs.Expr) (z : Stmt) (q : Point) → Covers m p.context → KnownAt m p → IsProper e
      → Begins q.body.variables f.variables → Raises p e z q → SoundStmt m f around z
  raised p _ _ _ c k i g (raising.a_string e x y q h s) =
      let r = ready_value m all f.variables p e x q c k i g h in
      (asked m f.variables Chars x y s r (tt, tt), stands_alone (type_of y) Chars tt (settled_stands Chars x y s))
  raised p _ _ _ c k i g (raising.alone n j x h v) =
      let s = stands_for p.context p.body c n j x h in
      (tt, record { exception = x; there = s.0; takes = subst (AllStand []) (sym v) tt })
  raised p _ _ _ c k i g (raising.with_values n es j x xs ys b h v s) =
      let t = stands_for p.context p.body c n j x h in
      let r = ready_values m all f.variables p.context c p.body es xs b k i.2 g v in
      (asked_each m f.variables x.values xs ys s r t.1, record { exception = x; there = t.0; takes = each_stand x.values xs ys s })
