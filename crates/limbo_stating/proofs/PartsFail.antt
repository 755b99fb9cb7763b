-- What fails is no part of a statement.
use Rattle.std.proofs.Common.{refl, sym, ap, ◌∙◌, subst, ℕ, List, [], ◌∷◌, Option, None, Some}
use Rattle.std.proofs.lemmas.Bool.{false≢true}
use Rattle.std.proofs.lemmas.Option.{none-some}
use Rattle.limbo_tree.specs.Exprs as tree
use Rattle.limbo_tree.specs.Stmts as stmts
use Rattle.limbo_types.specs.Types.{Ty, Chars, Nothing}
use Rattle.limbo_typed.specs.declared.stmt.Constant.{Constant}
use Rattle.limbo_typed.specs.declared.stmt.CasePattern.{CasePattern}
use Rattle.limbo_typed.specs.declared.stmt.HandlerPattern.{HandlerPattern}
use Rattle.limbo_typed.specs.Typed.{Expr, Exprs, AltHead, HandlerHead, Exception, Stmt}
use Rattle.limbo_typed.specs.Sound.{type_of, IsSettled, is_call}
use Rattle.limbo_standing.specs.Standing.{Settles, SettleEach}
use Rattle.limbo_causes.specs.Causes.{Cause}
use Rattle.limbo_context.specs.Context.{Context, Body}
use Rattle.limbo_local.specs.limbo_folding.Folding.{value_of}
use Rattle.limbo_local.specs.limbo_permits.Permits.{ForbidsType}
use Rattle.limbo_local.proofs.limbo_permits_lemmas.Standing.{type_forbidden}
use Rattle.limbo_things.specs.Things.{Thing, AnException, NameIs}
use Rattle.limbo_local.specs.limbo_typing.Typing.{HaveValues}
use Rattle.limbo_local.specs.limbo_typing.Failing.{FailsName, FailsSome}
use Rattle.limbo_local.specs.limbo_typing.Failing as row
use Rattle.limbo_local.proofs.limbo_typing_lemmas.Forms as form
use Rattle.limbo_local.specs.Points.{Point, ValueAt}
use Rattle.limbo_local.proofs.Once.{value_once}
use Rattle.limbo_stating.specs.Reasons.{Reason}
use Rattle.limbo_stating.specs.Around.{Evaluates, FailsToEvaluate, MayEvaluate, MayFailToEvaluate, Tests, FailsToTest, MayTest}
use Rattle.limbo_stating.specs.Around.{MayFailToTest}
use Rattle.limbo_stating.specs.Around as around
use Rattle.limbo_stating.specs.Cases as cases
use Rattle.limbo_stating.specs.Cases.{IsChosenFrom, Chooses, FailsToChoose, IsLabel, FailsLabel, IsPattern, FailsPattern}
use Rattle.limbo_stating.specs.Cases.{ArePatterns, FailsPatterns}
use Rattle.limbo_stating.specs.Alts as alts
use Rattle.limbo_stating.specs.Alts.{IsAltHead, FailsAltHead, waits_for}
use Rattle.limbo_stating.specs.Picks as picks
use Rattle.limbo_stating.specs.Picks.{IsPicked, Picks, FailsToPick, AreVariants, HasNoVariant}
use Rattle.limbo_stating.specs.Handlers as handlers
use Rattle.limbo_stating.specs.Handlers.{AreHandled, FailsHandled, IsCaught, IsHandlerHead, FailsHandlerHead}
use Rattle.limbo_stating.specs.Raising as raising
use Rattle.limbo_stating.specs.Raising.{NamesException, Raises, FailsToRaise}
use Rattle.limbo_stating.specs.Stating.{Branch, OfCase, OfAlt, OfPick, OfHandler, HeadOf, IsHead, Spawns}
use Rattle.limbo_stating.specs.FailsToState as states
use Rattle.limbo_stating.specs.FailsToState.{FailsHead, FailsToSpawn}
use Rattle.limbo_stating.proofs.Lower.{OneBelow, NoneBelow}
use Rattle.limbo_stating.proofs.Parts.{one_label, label_at, one_pattern, all_handled_one, one_caught, name_no_value, call_no_value}
use Rattle.limbo_stating.proofs.Parts.{one_row, one_exception}

module _ (b : OneBelow) (f : NoneBelow) where
  -- ---- expressions

  pub not_valued : (p : Point) (e : tree.Expr) (k : Cause) → row.FailsValue p.context p.body e k → (x : Expr) (q : Point)
      → ValueAt p e x q → ⊥
  not_valued p e k g x q h = f.value p.context p.body h.behind e k x g h.has

  pub not_evaluated : (p : Point) (e : tree.Expr) (k : Cause) → FailsToEvaluate p e k → (x : Expr) (q : Point) → Evaluates p e x q → ⊥
  not_evaluated p e _ (around.untyped k g) x q h = f.typed p.context p.body h.behind e k x g h.types
  not_evaluated p e _ (around.open_yet y d t n) x q h =
      let a = b.typed p.context p.body d h.behind e y x t h.types in n (subst (λ (z : Expr). IsSettled (type_of z)) (sym a.0) h.settled)

  pub may_not_evaluate : (p : Point) (e : Option tree.Expr) (k : Cause) → MayFailToEvaluate p e k → (x : Option Expr) (q : Point)
      → MayEvaluate p e x q → ⊥
  may_not_evaluate p None k g x q h = g
  may_not_evaluate p (Some e) k g x q h = not_evaluated p e k g h.0 q h.1

  pub not_tested : (p : Point) (e : tree.Expr) (k : Cause) → FailsToTest p e k → (x : Expr) (q : Point) → Tests p e x q → ⊥
  not_tested p e _ (around.no_value k g) x q h = not_valued p e k g x q h.has
  not_tested p e _ (around.no_int y r v n) x q h = n (ap type_of (value_once b.value p e y x r q v h.has).0 ∙ h.int)

  pub may_not_test : (p : Point) (e : Option tree.Expr) (k : Cause) → MayFailToTest p e k → (x : Option Expr) (q : Point)
      → MayTest p e x q → ⊥
  may_not_test p None k g x q h = g
  may_not_test p (Some e) k g x q h = not_tested p e k g h.0 q h.1

  pub not_chosen : (p : Point) (e : tree.Expr) (k : Cause) → FailsToChoose p e k → (x : Expr) (q : Point) → Chooses p e x q → ⊥
  not_chosen p e _ (cases.no_value k g) x q h = not_valued p e k g h.value q h.has
  not_chosen p e _ (cases.no_choice y r v n) x q h =
      n x (subst (λ (z : Expr). IsChosenFrom z x) (sym (value_once b.value p e y h.value r q v h.has).0) h.is)

  pub not_picked : (p : Point) (e : tree.Expr) (k : Reason) → FailsToPick p e k → (x : Expr) (a : ℕ) (q : Point) → Picks p e x a q → ⊥
  not_picked p e _ (picks.no_value k g) x a q h = not_valued p e k g x q h.has
  not_picked p e _ (picks.no_pick y r v n) x a q h =
      n a (subst (λ (z : Expr). IsPicked p.context z a) (sym (value_once b.value p e y x r q v h.has).0) h.is)

  pub not_spawned : (p : Point) (e : tree.Expr) (k : Cause) → FailsToSpawn p e k → (x : Expr) (q : Point) → Spawns p e x q → ⊥
  not_spawned p e _ (states.untyped k g) x q h = f.typed p.context p.body h.behind e k x g h.types
  not_spawned p e _ (states.no_call y d t n) x q h =
      let a = b.typed p.context p.body d h.behind e y x t h.types in
      n (ap is_call a.0 ∙ h.call, ap type_of a.0 ∙ h.no_answer)

  -- ---- labels

  not_label : (t : Ty) (p : Point) (e : tree.Expr) (k : Reason) → FailsLabel t p e k → (v : Constant) (q : Point) → IsLabel t p e v q → ⊥
  not_label t p e _ (cases.unvalued k g) v q h = not_valued p e k g h.value q h.has
  not_label t p e _ (cases.other_type x r m n) v q h = n (ap type_of (value_once b.value p e x h.value r q m h.has).0 ∙ h.of)
  not_label t p e _ (cases.not_constant x r m n) v q h =
      none-some v (sym n ∙ ap value_of (value_once b.value p e x h.value r q m h.has).0 ∙ h.known)

  not_pattern : (t : Ty) (p : Point) (x : stmts.Pattern) (k : Reason) → FailsPattern t p x k → (z : CasePattern) (q : Point)
      → IsPattern t p x z q → ⊥
  not_pattern t p _ _ (cases.only e k g) z q h = not_label t p e k g h.0 q h.1
  not_pattern t p _ _ (cases.from e i k g) z q h = not_label t p e k g h.0 h.2 h.3
  not_pattern t p _ _ (cases.to e i v r k m g) z q h =
      let a = one_label b t p e v h.0 r h.2 m h.3 in not_label t r i k g h.1 q (label_at b t r h.2 i h.1 q a.1 h.4)

  not_patterns : (t : Ty) (p : Point) (xs : List stmts.Pattern) (k : Reason) → FailsPatterns t p xs k → (zs : List CasePattern) (q : Point)
      → ArePatterns t p xs zs q → ⊥
  not_patterns t _ _ _ (cases.here p x xs k g) [] q h = absurd h
  not_patterns t _ _ _ (cases.here p x xs k g) (z ∷ zs) q h = not_pattern t p x k g z h.0 h.1
  not_patterns t _ _ _ (cases.later p r x y xs k m g) [] q h = absurd h
  not_patterns t _ _ _ (cases.later p r x y xs k m g) (z ∷ zs) q h =
      let a = one_pattern b t p x y z r h.0 m h.1 in
      not_patterns t r xs k g zs q (subst (λ (w : Point). ArePatterns t w xs zs q) (sym a.1) h.2)

  -- ---- heads

  not_alt_head : (p : Point) (e : Option tree.Expr) (k : Reason) → FailsAltHead p e k → (x : AltHead) (q : Point) → IsAltHead p e x q → ⊥
  not_alt_head p _ _ (alts.no_arm e n) x q h = false≢true (sym n ∙ h.2)
  not_alt_head p _ _ (alts.untyped e k g) x q h = f.typed p.context p.body h.1 e k h.0 g h.3
  not_alt_head p _ _ (alts.copies e y d t n) x q h =
      none-some x (sym n ∙ ap waits_for (b.typed p.context p.body d h.1 e y h.0 t h.3).0 ∙ h.4)

  not_variants : (c : Context) (a : ℕ) (ns : List (List ℕ)) → HasNoVariant c a ns → (vs : List ℕ) → AreVariants c a ns vs → ⊥
  not_variants c a _ (picks.here n ns g) [] h = absurd h
  not_variants c a _ (picks.here n ns g) (v ∷ vs) h = g v h.0
  not_variants c a _ (picks.later n ns g) [] h = absurd h
  not_variants c a _ (picks.later n ns g) (v ∷ vs) h = not_variants c a ns g vs h.1

  not_handled : (c : Context) (d : Body) (xs : List stmts.HandlerPattern) (k : Cause) → FailsHandled c d xs k → (zs : List HandlerPattern)
      → AreHandled c d xs zs → ⊥
  not_handled c d _ _ (handlers.no_name n xs k g) [] h = absurd h
  not_handled c d _ _ (handlers.no_name n xs k g) (z ∷ zs) h = no_name n k g (AnException h.0.0) h.0.1
    where
      no_name : (n : List ℕ) (k : Cause) → FailsName c d n k → (t : Thing) → NameIs c d n t → ⊥
      no_name n _ (row.unseen e) t i = none-some i.means (sym e ∙ i.is_seen)
      no_name n _ (row.no_thing m e none) t i = none t i
  not_handled c d _ _ (handlers.no_exception n xs t m none) [] h = absurd h
  not_handled c d _ _ (handlers.no_exception n xs t m none) (z ∷ zs) h = none h.0.0 (b.name c d n t (AnException h.0.0) m h.0.1)
  not_handled c d _ _ (handlers.later x xs k g) [] h = absurd h
  not_handled c d _ _ (handlers.later x xs k g) (z ∷ zs) h = not_handled c d xs k g zs h.1

  not_handler_head : (p : Point) (xs : List stmts.HandlerPattern) (n : Option (List ℕ)) (k : Cause) → FailsHandlerHead p xs n k
      → (x : HandlerHead) (q : Point) → IsHandlerHead n p xs x q → ⊥
  not_handler_head p xs _ _ (handlers.a_pattern n k g) x q h = not_handled p.context p.body xs k g h.0 h.1
  not_handler_head p xs _ _ (handlers.the_name n zs t r a i g) x q h =
      let e = all_handled_one b p.context p.body xs zs h.0 a h.1 in
      let j = subst (λ (ys : List HandlerPattern). IsCaught p.context ys t) e i in
      let l = one_caught p.context h.0 t h.2.0 j h.2.1 in
      type_forbidden p.context h.2.0 r (subst (λ (u : Ty). ForbidsType p.context u r) l g) h.2.2

  pub not_head : (o : Branch) (p : Point) (x : stmts.Head) (k : Reason) → FailsHead o p x k → (z : HeadOf o) (q : Point)
      → IsHead o p x z q → ⊥
  not_head (OfCase t) p (stmts.CaseHead ps) k g z q h = not_patterns t p ps k g z q h
  not_head OfAlt p (stmts.AltHead e) k g z q h = not_alt_head p e k g z q h
  not_head (OfPick n a) p (stmts.PickHead ns) k g z q h = not_variants p.context a ns g.0 h.0 h.1
  not_head (OfHandler n) p (stmts.HandlerHead ps) k g z q h = not_handler_head p ps n g.0 g.1 z q h
  not_head _ p _ k g z q h = absurd h

  -- ---- what is raised

  not_row : (c : Context) (d : Body) (es : tree.Exprs) (k : Cause) → FailsSome c d es k → (d' : Body) (xs : Exprs)
      → HaveValues c d es xs d' → ⊥
  not_row c _ _ _ (row.here d e es k g) i zs h =
      let r = form.more_values c d i e es zs h in f.value c d r.0 e k r.1 g r.4
  not_row c _ _ _ (row.later d d1 e es x k m g) i zs h =
      let r = form.more_values c d i e es zs h in
      let p = b.value c d d1 r.0 e x r.1 m r.4 in
      not_row c d1 es k g i r.2 (subst (λ (z : Body). HaveValues c z es r.2 i) (sym p.1) r.5)

  pub not_raised : (p : Point) (e : tree.Expr) (k : Cause) → FailsToRaise p e k → (z : Stmt) (q : Point) → Raises p e z q → ⊥
  not_raised p _ _ (raising.no_value e k n g) _ _ (raising.a_string _ x y q h s) = not_valued p e k g x q h
  not_raised p _ _ (raising.no_value _ k n g) _ _ (raising.alone m i w h v) = n m i w refl h
  not_raised p _ _ (raising.no_value _ k n g) _ _ (raising.with_values m es i w xs ys d h v s) = n m i w refl h
  not_raised p _ _ (raising.no_string e x r c v g) _ _ (raising.a_string _ y z q h s) =
      g.stands_not z (subst (λ (u : Expr). Settles Chars u z) (sym (value_once b.value p e x y r q v h).0) s)
  not_raised p _ _ (raising.no_string _ x r c v g) _ _ (raising.alone m i w h s) =
      name_no_value b p.context p.body v.behind m i x h.is v.has
  not_raised p _ _ (raising.no_string _ x r c v g) _ _ (raising.with_values m es i w xs ys d h u s) =
      call_no_value b p.context p.body v.behind m es i x h.is v.has
  not_raised p _ _ (raising.lacks_values n i w m g) _ _ (raising.a_string _ x y q h s) =
      name_no_value b p.context p.body h.behind n i x m.is h.has
  not_raised p _ _ (raising.lacks_values n i w m g) _ _ (raising.alone _ j u h s) =
      let a = one_exception b p.context p.body n i j w u m h in g (ap (λ x. x.values) a.1 ∙ s)
  not_raised p _ _ (raising.a_value n es i w k m g) _ _ (raising.a_string _ x y q h s) =
      call_no_value b p.context p.body h.behind n es i x m.is h.has
  not_raised p _ _ (raising.a_value n es i w k m g) _ _ (raising.with_values _ _ j u xs ys d h v s) = not_row p.context p.body es k g d xs v
  not_raised p _ _ (raising.values_unfit n es i w xs d r m g u) _ _ (raising.a_string _ x y q h s) =
      call_no_value b p.context p.body h.behind n es i x m.is h.has
  not_raised p _ _ (raising.values_unfit n es i w xs d r m g u) _ _ (raising.with_values _ _ j w' xs' ys d' h v s) =
      let a = one_exception b p.context p.body n i j w w' m h in
      let l = one_row b p.context p.body d es xs g d' xs' v in
      let t = subst (λ (x : Exception). SettleEach x.values xs' ys) (sym a.1) s in
      f.each Nothing w.values xs ys r u (subst (λ (x : Exprs). SettleEach w.values x ys) (sym l.0) t)
