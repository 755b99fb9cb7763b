-- The parts of statements are one each at most.
use Rattle.std.proofs.Common.{◌≡◌, refl, sym, ap, ◌∙◌, subst, ℕ, ◌<◌, ◌⊎◌, inl, inr, List, [], ◌∷◌, length, Option, None, Some, slice_get}
use Rattle.std.proofs.Common.{arith}
use Rattle.std.proofs.lemmas.Option.{same_Some}
use Rattle.limbo_tree.specs.Exprs as tree
use Rattle.limbo_tree.specs.Stmts as stmts
use Rattle.limbo_types.specs.Types as ty
use Rattle.limbo_types.specs.Types.{Ty, Chars, Tuple}
use Rattle.limbo_types.specs.View.{tys_of}
use Rattle.limbo_layout.specs.Adts.{Def}
use Rattle.limbo_forms.specs.Forms.{ref_of}
use Rattle.limbo_typed.specs.declared.stmt.Constant.{Constant}
use Rattle.limbo_typed.specs.declared.stmt.CasePattern.{CasePattern}
use Rattle.limbo_typed.specs.declared.stmt.CasePattern.TheVariants as case
use Rattle.limbo_typed.specs.declared.stmt.HandlerPattern.{HandlerPattern}
use Rattle.limbo_typed.specs.declared.stmt.HandlerPattern.TheVariants as handler
use Rattle.limbo_typed.specs.Typed.{Expr, Exprs, NoExprs, MoreExprs, AltHead, PickHead, HandlerHead, Exception, Stmt, Raise, RaiseDeclared}
use Rattle.limbo_typed.specs.Sound.{type_of, picked, IsCased}
use Rattle.limbo_standing.specs.Standing.{Settles, SettleEach}
use Rattle.limbo_context.specs.Context.{Context, Body, IsFirstNamed, HasVariantAt}
use Rattle.limbo_local.specs.limbo_folding.Folding.{value_of}
use Rattle.limbo_things.specs.Things.{Thing, AValue, APrint, AnException, NameIs}
use Rattle.limbo_local.specs.limbo_applying.Applying.{Applies}
use Rattle.limbo_local.specs.limbo_typing.Typing.{HasValue, HaveValues}
use Rattle.limbo_local.specs.limbo_typing.Typing as typing
use Rattle.limbo_local.proofs.limbo_typing_lemmas.Forms as form
use Rattle.limbo_local.proofs.limbo_typing_lemmas.Forms.{Called, a_call, a_print}
use Rattle.limbo_local.specs.Points.{Point, with_body, with_variables}
use Rattle.limbo_local.proofs.Once.{same_two, value_once}
use Rattle.limbo_stating.specs.Around.{Turn, Innermost, Evaluates, MayEvaluate, Tests, MayTest, condition}
use Rattle.limbo_stating.specs.Cases.{IsChosenFrom, as_it_is, as_string, Chooses, IsLabel, IsPattern, ArePatterns}
use Rattle.limbo_stating.specs.Alts.{IsAltHead, waits_for}
use Rattle.limbo_stating.specs.Picks.{Picks, AreVariants, IsPickHead}
use Rattle.limbo_stating.specs.Handlers.{IsHandled, AreHandled, Carries, AllCarry, IsCaught, values, text, HasName, IsHandlerHead}
use Rattle.limbo_stating.specs.Raising.{NamesException, Raises, a_string, alone, with_values}
use Rattle.limbo_stating.specs.Stating.{Branch, OfCase, OfAlt, OfPick, OfHandler, HeadOf, IsHead, Spawns}
use Rattle.limbo_stating.proofs.Lower.{OneBelow}

pub same_three : {A B C D : Type 0} → (f : A → B → C → D) → (a a' : A) (b b' : B) (c c' : C) → a ≡ a' → b ≡ b' → c ≡ c'
    → f a b c ≡ f a' b' c'
same_three f a a' b b' c c' p q r = ap (λ x. f x b c) p ∙ ap (λ x. f a' x c) q ∙ ap (f a' b') r

before_or : (v w : ℕ) → (v < w) ⊎ ((v ≡ w) ⊎ (w < v))
before_or v w = grind arith

-- ---- what a `break` or a `continue` speaks of

pub one_innermost : (ts : List Turn) (Is : Turn → Type 0) (m n : ℕ) → Innermost ts Is m → Innermost ts Is n → m ≡ n
one_innermost ts Is m n x y =
    elim (before_or m n) [
      | inl l ↦ absurd (y.none_further_in m x.turn l x.there x.is)
      | inr r ↦ elim r [ inl e ↦ e | inr l ↦ absurd (x.none_further_in n y.turn l y.there y.is) ]
    ]

-- ---- the variants of a pick

one_place : (ds : List Def) (a : ℕ) (name : List ℕ) (v w : ℕ) → HasVariantAt ds a name v → HasVariantAt ds a name w → v ≡ w
one_place ds a name v w x y =
    let e : x.def ≡ y.def = same_Some x.def y.def (sym x.there ∙ y.there) in
    let n : IsFirstNamed y.def.picks name v = subst (λ (z : Def). IsFirstNamed z.picks name v) e x.named in
    let m = y.named in
    elim (before_or v w) [
      | inl l ↦ absurd (m.first v n.variant l n.there n.named)
      | inr r ↦ elim r [ inl e ↦ e | inr l ↦ absurd (n.first w m.variant l m.there m.named) ]
    ]

pub one_variants : (c : Context) (a : ℕ) (ns : List (List ℕ)) (vs ws : List ℕ) → AreVariants c a ns vs → AreVariants c a ns ws → vs ≡ ws
one_variants c a [] [] [] h k = refl
one_variants c a [] [] (w ∷ ws) h k = absurd k
one_variants c a [] (v ∷ vs) ws h k = absurd h
one_variants c a (n ∷ ns) [] ws h k = absurd h
one_variants c a (n ∷ ns) (v ∷ vs) [] h k = absurd k
one_variants c a (n ∷ ns) (v ∷ vs) (w ∷ ws) h k =
    same_two (λ (x : ℕ) (xs : List ℕ). x ∷ xs) v w vs ws (one_place c.adts a n v w h.0 k.0) (one_variants c a ns vs ws h.1 k.1)

-- ---- what a handler's name has

same_text : (s t : List ℕ) (z y : HandlerPattern) → z ≡ y → z ≡ handler.Chars s → y ≡ handler.Chars t → s ≡ t
same_text s t z y e p q = cc

one_carried : (c : Context) (z : HandlerPattern) (ts us : List Ty) → Carries c z ts → Carries c z us → ts ≡ us
one_carried c (handler.Declared n) ts us h k =
    let e : h.0 ≡ k.0 = same_Some h.0 k.0 (sym h.1 ∙ k.1) in sym h.2 ∙ ap (λ x. x.values) e ∙ k.2
one_carried c (handler.Chars s) ts us h k = absurd h
one_carried c (handler.Prefix s) ts us h k = absurd h
one_carried c handler.Any ts us h k = absurd h

one_all_carried : (c : Context) (zs : List HandlerPattern) (ts us : List Ty) → AllCarry c zs ts → AllCarry c zs us → ts ≡ us
one_all_carried c [] ts us h k = absurd h
one_all_carried c (z ∷ []) ts us h k = one_carried c z ts us h k
one_all_carried c (z ∷ y ∷ zs) ts us h k = one_carried c z ts us h.0 k.0

pub one_caught : (c : Context) (zs : List HandlerPattern) (t u : Ty) → IsCaught c zs t → IsCaught c zs u → t ≡ u
one_caught c zs _ _ (values ts a) (values us b) = ap (λ x. Tuple (tys_of x)) (one_all_carried c zs ts us a b)
one_caught c zs _ _ (values ts a) (text n) = absurd (n ts a)
one_caught c zs _ _ (text n) (values us b) = absurd (n us b)
one_caught c zs _ _ (text n) (text m) = refl

-- ---- the value of a case

not_cased : (t : Ty) → t ≡ ty.Nil → IsCased t → ⊥
not_cased t e (inl i) = cc
not_cased t e (inr (inl i)) = cc
not_cased t e (inr (inr i)) = cc

module _ (b : OneBelow) where
  pub one_choice : (x y z : Expr) → IsChosenFrom x y → IsChosenFrom x z → y ≡ z
  one_choice x _ _ (as_it_is h) (as_it_is k) = refl
  one_choice x _ _ (as_it_is h) (as_string z n s) = absurd (not_cased (type_of x) n h)
  one_choice x _ _ (as_string y n s) (as_it_is k) = absurd (not_cased (type_of x) n k)
  one_choice x _ _ (as_string y n s) (as_string z m r) = b.settled Chars x y z s r

  -- ---- expressions

  pub one_evaluated : (p : Point) (e : tree.Expr) (x y : Expr) (q r : Point) → Evaluates p e x q → Evaluates p e y r → (x ≡ y) × (q ≡ r)
  one_evaluated p e x y q r h k =
      let a = b.typed p.context p.body h.behind k.behind e x y h.types k.types in
      (a.0, h.goes_on ∙ ap (λ z. with_body z p) a.1 ∙ sym k.goes_on)

  pub may_evaluate_one : (p : Point) (e : Option tree.Expr) (x y : Option Expr) (q r : Point) → MayEvaluate p e x q → MayEvaluate p e y r
      → (x ≡ y) × (q ≡ r)
  may_evaluate_one p None x y q r h k = (h.0 ∙ sym k.0, h.1 ∙ sym k.1)
  may_evaluate_one p (Some e) x y q r h k =
      let a = one_evaluated p e h.0 k.0 q r h.1 k.1 in (h.2 ∙ ap (λ z. Some z) a.0 ∙ sym k.2, a.1)

  pub one_test : (p : Point) (e : tree.Expr) (x y : Expr) (q r : Point) → Tests p e x q → Tests p e y r → (x ≡ y) × (q ≡ r)
  one_test p e x y q r h k = value_once b.value p e x y q r h.has k.has

  pub may_test_one : (p : Point) (e : Option tree.Expr) (x y : Option Expr) (q r : Point) → MayTest p e x q → MayTest p e y r
      → (x ≡ y) × (q ≡ r)
  may_test_one p None x y q r h k = (h.0 ∙ sym k.0, h.1 ∙ sym k.1)
  may_test_one p (Some e) x y q r h k =
      let a = one_test p e h.0 k.0 q r h.1 k.1 in (h.2 ∙ ap condition a.0 ∙ sym k.2, a.1)

  pub one_chosen : (p : Point) (e : tree.Expr) (x y : Expr) (q r : Point) → Chooses p e x q → Chooses p e y r → (x ≡ y) × (q ≡ r)
  one_chosen p e x y q r h k =
      let a = value_once b.value p e h.value k.value q r h.has k.has in
      (one_choice k.value x y (subst (λ (z : Expr). IsChosenFrom z x) a.0 h.is) k.is, a.1)

  pub one_picked : (p : Point) (e : tree.Expr) (x y : Expr) (a i : ℕ) (q r : Point) → Picks p e x a q → Picks p e y i r
      → (x ≡ y) × (a ≡ i) × (q ≡ r)
  one_picked p e x y a i q r h k =
      let s = value_once b.value p e x y q r h.has k.has in
      (s.0, same_Some a i (sym h.is.of ∙ ap (λ z. ref_of (type_of z)) s.0 ∙ k.is.of), s.1)

  pub one_spawned : (p : Point) (e : tree.Expr) (x y : Expr) (q r : Point) → Spawns p e x q → Spawns p e y r → (x ≡ y) × (q ≡ r)
  one_spawned p e x y q r h k =
      let a = b.typed p.context p.body h.behind k.behind e x y h.types k.types in
      (a.0, h.goes_on ∙ ap (λ z. with_body z p) a.1 ∙ sym k.goes_on)

  -- ---- labels

  pub one_label : (t : Ty) (p : Point) (e : tree.Expr) (v w : Constant) (q r : Point) → IsLabel t p e v q → IsLabel t p e w r
      → (v ≡ w) × (q ≡ r)
  one_label t p e v w q r h k =
      let a = value_once b.value p e h.value k.value q r h.has k.has in
      (same_Some v w (sym h.known ∙ ap value_of a.0 ∙ k.known), a.1)

  pub label_at : (t : Ty) (p q : Point) (e : tree.Expr) (v : Constant) (r : Point) → p ≡ q → IsLabel t q e v r → IsLabel t p e v r
  label_at t p q e v r s h = subst (λ (z : Point). IsLabel t z e v r) (sym s) h

  pub one_pattern : (t : Ty) (p : Point) (x : stmts.Pattern) (y z : CasePattern) (q r : Point) → IsPattern t p x y q → IsPattern t p x z r
      → (y ≡ z) × (q ≡ r)
  one_pattern t p stmts.AnyValue y z q r h k = (h.0 ∙ sym k.0, h.1 ∙ sym k.1)
  one_pattern t p (stmts.Value e) y z q r h k =
      let a = one_label t p e h.0 k.0 q r h.1 k.1 in (h.2 ∙ ap (λ v. case.One v) a.0 ∙ sym k.2, a.1)
  one_pattern t p (stmts.Range e f) y z q r h k =
      let a = one_label t p e h.0 k.0 h.2 k.2 h.3 k.3 in
      let l = one_label t h.2 f h.1 k.1 q r h.4 (label_at t h.2 k.2 f k.1 r a.1 k.4) in
      (h.5 ∙ same_two (λ (v : Constant) (w : Constant). case.Range v w) h.0 k.0 h.1 k.1 a.0 l.0 ∙ sym k.5, l.1)

  pub one_patterns : (t : Ty) (p : Point) (xs : List stmts.Pattern) (ys zs : List CasePattern) (q r : Point) → ArePatterns t p xs ys q
      → ArePatterns t p xs zs r → (ys ≡ zs) × (q ≡ r)
  one_patterns t p [] [] [] q r h k = (refl, h ∙ sym k)
  one_patterns t p [] [] (z ∷ zs) q r h k = absurd k
  one_patterns t p [] (y ∷ ys) zs q r h k = absurd h
  one_patterns t p (x ∷ xs) [] zs q r h k = absurd h
  one_patterns t p (x ∷ xs) (y ∷ ys) [] q r h k = absurd k
  one_patterns t p (x ∷ xs) (y ∷ ys) (z ∷ zs) q r h k =
      let a = one_pattern t p x y z h.0 k.0 h.1 k.1 in
      let l = one_patterns t h.0 xs ys zs q r h.2 (subst (λ (w : Point). ArePatterns t w xs zs r) (sym a.1) k.2) in
      (same_two (λ (v : CasePattern) (vs : List CasePattern). v ∷ vs) y z ys zs a.0 l.0, l.1)

  -- ---- arms of an alt

  pub one_alt_head : (p : Point) (e : Option tree.Expr) (x y : AltHead) (q r : Point) → IsAltHead p e x q → IsAltHead p e y r
      → (x ≡ y) × (q ≡ r)
  one_alt_head p None x y q r h k = (h.0 ∙ sym k.0, h.1 ∙ sym k.1)
  one_alt_head p (Some e) x y q r h k =
      let a = b.typed p.context p.body h.1 k.1 e h.0 k.0 h.3 k.3 in
      (same_Some x y (sym h.4 ∙ ap waits_for a.0 ∙ k.4), h.5 ∙ ap (λ z. with_body z p) a.1 ∙ sym k.5)

  -- ---- arms of a pick

  pub one_pick_head : (n : List ℕ) (a : ℕ) (p : Point) (ns : List (List ℕ)) (x y : PickHead) (q r : Point) → IsPickHead n a p ns x q
      → IsPickHead n a p ns y r → (x ≡ y) × (q ≡ r)
  one_pick_head n a p ns x y q r h k =
      let e = one_variants p.context a ns h.0 k.0 h.1 k.1 in (
        h.2 ∙ ap (λ (vs : List ℕ). let z : PickHead = record { variants = vs; variable = length p.body.variables } in z) e ∙ sym k.2,
        h.3 ∙ ap (λ (vs : List ℕ). with_variables (n ∷ []) (picked a vs) p) e ∙ sym k.3,
      )

  -- ---- arms of a handler

  exception_same : (i j : ℕ) → AnException i ≡ AnException j → i ≡ j
  exception_same i j e = cc

  one_handled : (c : Context) (d : Body) (x : stmts.HandlerPattern) (y z : HandlerPattern) → IsHandled c d x y → IsHandled c d x z → y ≡ z
  one_handled c d (stmts.Text s) y z h k = h ∙ sym k
  one_handled c d (stmts.Declared n) y z h k =
      h.2
      ∙ ap (λ i. handler.Declared i) (exception_same h.0 k.0 (b.name c d n (AnException h.0) (AnException k.0) h.1 k.1))
      ∙ sym k.2
  one_handled c d stmts.AnyException y z h k = h ∙ sym k

  pub all_handled_one : (c : Context) (d : Body) (xs : List stmts.HandlerPattern) (ys zs : List HandlerPattern) → AreHandled c d xs ys
      → AreHandled c d xs zs → ys ≡ zs
  all_handled_one c d [] [] [] h k = refl
  all_handled_one c d [] [] (z ∷ zs) h k = absurd k
  all_handled_one c d [] (y ∷ ys) zs h k = absurd h
  all_handled_one c d (x ∷ xs) [] zs h k = absurd h
  all_handled_one c d (x ∷ xs) (y ∷ ys) [] h k = absurd k
  all_handled_one c d (x ∷ xs) (y ∷ ys) (z ∷ zs) h k =
      same_two (λ (v : HandlerPattern) (vs : List HandlerPattern). v ∷ vs) y z ys zs (one_handled c d x y z h.0 k.0)
      (all_handled_one c d xs ys zs h.1 k.1)

  one_named : (p : Point) (n : Option (List ℕ)) (zs : List HandlerPattern) (x y : HandlerHead) (q r : Point) → HasName p n zs x q
      → HasName p n zs y r → (x ≡ y) × (q ≡ r)
  one_named p None zs x y q r h k = (h.0 ∙ sym k.0, h.1 ∙ sym k.1)
  one_named p (Some n) zs x y q r h k =
      let e = one_caught p.context zs h.0 k.0 h.1 k.1 in
      (h.3 ∙ sym k.3, h.4 ∙ ap (λ t. with_variables (n ∷ []) t p) e ∙ sym k.4)

  pub one_handler_head : (n : Option (List ℕ)) (p : Point) (xs : List stmts.HandlerPattern) (x y : HandlerHead) (q r : Point)
      → IsHandlerHead n p xs x q → IsHandlerHead n p xs y r → (x ≡ y) × (q ≡ r)
  one_handler_head n p xs x y q r h k =
      let e = all_handled_one p.context p.body xs h.0 k.0 h.1 k.1 in
      one_named p n h.0 x y q r h.2 (subst (λ (zs : List HandlerPattern). HasName p n zs y r) (sym e) k.2)

  -- ---- heads

  pub one_head : (o : Branch) (p : Point) (x : stmts.Head) (y z : HeadOf o) (q r : Point) → IsHead o p x y q → IsHead o p x z r
      → (y ≡ z) × (q ≡ r)
  one_head (OfCase t) p (stmts.CaseHead ps) y z q r h k = one_patterns t p ps y z q r h k
  one_head OfAlt p (stmts.AltHead e) y z q r h k = one_alt_head p e y z q r h k
  one_head (OfPick n a) p (stmts.PickHead ns) y z q r h k = one_pick_head n a p ns y z q r h k
  one_head (OfHandler n) p (stmts.HandlerHead ps) y z q r h k = one_handler_head n p ps y z q r h k
  one_head _ p _ y z q r h k = absurd h

  -- ---- what is raised

  value_is_no_exception : (x : Expr) (i : ℕ) → AValue x ≡ AnException i → ⊥
  value_is_no_exception x i e = cc

  print_is_no_exception : (w : _) (x : Expr) (i : ℕ) → APrint w x ≡ AnException i → ⊥
  print_is_no_exception w x i e = cc

  pub name_no_value : (c : Context) (d d' : Body) (n : List ℕ) (i : ℕ) (x : Expr) → NameIs c d n (AnException i)
      → HasValue c d (tree.Name n) x d' → ⊥
  name_no_value c d d' n i x h k =
      let t = form.has_form c d d' (tree.Name n) x (form.typed_value c d d' (tree.Name n) x k) in
      let m = form.name_of c d d' n (AValue x) (form.path_of c d d' (tree.Name n) x refl t) in
      value_is_no_exception x i (b.name c d n (AValue x) (AnException i) m.0 h)

  called_no_exception : (c : Context) (d d' : Body) (n : List ℕ) (es : tree.Exprs) (i : ℕ) (x : Expr) → NameIs c d n (AnException i)
      → Called c d (tree.Name n) es x d' → ⊥
  called_no_exception c d d' n es i x h (a_call r) =
      let m = form.name_of c d r.b1 n r.thing r.denotes in
      let e = b.name c d n r.thing (AnException i) m.0 h in
      subst (λ (t : Thing). Applies c t r.values x) e r.applies
  called_no_exception c d d' n es i x h (a_print r) =
      let m = form.name_of c d r.b1 n (APrint r.which r.instance) r.denotes in
      print_is_no_exception r.which r.instance i (b.name c d n (APrint r.which r.instance) (AnException i) m.0 h)

  pub call_no_value : (c : Context) (d d' : Body) (n : List ℕ) (es : tree.Exprs) (i : ℕ) (x : Expr) → NameIs c d n (AnException i)
      → HasValue c d (tree.Call (tree.Name n) es) x d' → ⊥
  call_no_value c d d' n es i x h k =
      let t =
      form.has_form c d d' (tree.Call (tree.Name n) es) x
      (form.typed_value c d d' (tree.Call (tree.Name n) es) x k) in
      called_no_exception c d d' n es i x h (form.call_of c d d' (tree.Name n) es x t)

  pub one_row : (c : Context) (d d' : Body) (es : tree.Exprs) (xs : Exprs) → HaveValues c d es xs d' → (f : Body) (ys : Exprs)
      → HaveValues c d es ys f → (xs ≡ ys) × (d' ≡ f)
  one_row c _ _ _ _ (typing.no_values d) f ys k = let g = form.no_more_values c d f ys k in (sym g.0, g.1)
  one_row c _ _ _ _ (typing.values d d1 d' e es x xs h s) f zs k =
      let g = form.more_values c d f e es zs k in
      let p = b.value c d d1 g.0 e x g.1 h g.4 in
      let q = one_row c d1 d' es xs s f g.2 (subst (λ (z : Body). HaveValues c z es g.2 f) (sym p.1) g.5) in
      (ap (λ v. MoreExprs v xs) p.0 ∙ ap (MoreExprs g.1) q.0 ∙ sym g.3, q.1)

  pub one_exception : (c : Context) (d : Body) (n : List ℕ) (i j : ℕ) (x y : Exception) → NamesException c d n i x
      → NamesException c d n j y → (i ≡ j) × (x ≡ y)
  one_exception c d n i j x y h k =
      let e = exception_same i j (b.name c d n (AnException i) (AnException j) h.is k.is) in
      (e, same_Some x y (sym h.there ∙ ap (slice_get c.exceptions) e ∙ k.there))

  pub one_raised : (p : Point) (e : tree.Expr) (y z : Stmt) (q r : Point) → Raises p e y q → Raises p e z r → (y ≡ z) × (q ≡ r)
  one_raised p _ _ _ _ _ (a_string e x y q h s) (a_string _ x' z r k t) =
      let a = value_once b.value p e x x' q r h k in
      (ap (λ v. Raise v) (b.settled Chars x' y z (subst (λ (v : Expr). Settles Chars v y) a.0 s) t), a.1)
  one_raised p _ _ _ _ _ (a_string _ x y q h s) (alone n i w k e) = absurd (name_no_value p.context p.body h.behind n i x k.is h.has)
  one_raised p _ _ _ _ _ (a_string _ x y q h s) (with_values n es i w xs ys d k v t) =
      absurd (call_no_value p.context p.body h.behind n es i x k.is h.has)
  one_raised p _ _ _ _ _ (alone n i w k e) (a_string _ x y q h s) = absurd (name_no_value p.context p.body h.behind n i x k.is h.has)
  one_raised p _ _ _ _ _ (alone n i w k e) (alone _ j v l f) =
      let a = one_exception p.context p.body n i j w v k l in (ap (λ m. RaiseDeclared m NoExprs) a.0, refl)
  one_raised p _ _ _ _ _ (with_values n es i w xs ys d k v t) (a_string _ x y q h s) =
      absurd (call_no_value p.context p.body h.behind n es i x k.is h.has)
  one_raised p _ _ _ _ _ (with_values n es i w xs ys d k v t) (with_values _ _ j w' xs' ys' d' k' v' t') =
      let a = one_exception p.context p.body n i j w w' k k' in
      let l = one_row p.context p.body d es xs v d' xs' v' in
      let s = subst (λ (g : Exception). SettleEach g.values xs ys) a.1 t in
      let u = b.each w'.values xs' ys ys' (subst (λ (g : Exprs). SettleEach w'.values g ys) l.0 s) t' in
      (same_two (λ (m : ℕ) (g : Exprs). RaiseDeclared m g) i j ys ys' a.0 u, ap (λ g. with_body g p) l.1)
