-- What is told of a node of the code, from what is told of its parts.
use Rattle.std.proofs.Common.{◌≡◌, ◌<◌, ◌≤◌, ◌+◌, ℕ, ◌↔◌, IsTrue, Bool, List, length, get_or, map, drop, Option, sym, ap, ◌∙◌, subst}
use Rattle.std.proofs.lemmas.List.{at_drop_more, at_drop_all}
use Rattle.limbo_types.specs.Types.{Ty}
use Rattle.limbo_types.specs.View.{view_ty}
use Rattle.limbo_layout.specs.Adts.{Def}
use Rattle.limbo_typed.specs.declared.operation.Operation.{Operation}
use Rattle.limbo_typed.specs.declared.operation.Given.{Given}
use Rattle.limbo_typed.specs.declared.expr.TExpr as code_expr
use Rattle.limbo_typed.specs.declared.expr.Place as code_place
use Rattle.limbo_typed.specs.declared.expr.Pattern as code_pattern
use Rattle.limbo_typed.specs.declared.expr.TNode as code_node
use Rattle.limbo_typed.specs.declared.expr.TNode.TheVariants as make
use Rattle.limbo_typed.specs.Typed as tree
use Rattle.limbo_typed.specs.View.{view_pattern, view_node, view_place, view_expr, patterns_of}
use Rattle.limbo_typed.specs.Sound.{type_of}
use Rattle.limbo_typed.proofs.View.{view_expr-out, view_node-Assign, view_node-Update, view_node-Step, view_node-Copy, view_node-Send}
use Rattle.limbo_stores.specs.declared.outcome.Store.{Store}
use Rattle.limbo_stores.specs.declared.outcome.Store.TheVariants.{Allowed}
use Rattle.limbo_stores.specs.Stores.{RefusesPlace, RefusesPattern, CopyCloses, SendCloses, RefusesStore}
use Rattle.limbo_stores.specs.Telling.{Tells}
use Rattle.limbo_stores.specs.Choosing.{worse, closing}
use Rattle.limbo_stores.proofs.Forms.{PlaceBox, ExprBox}
use Rattle.limbo_stores.proofs.Nodes.{PatternBox}
use Rattle.limbo_stores.proofs.Told.{assigned, updated, stepped, copied, sent, to_none, to_more, worse_assoc, worse_allowed}

module _ (defs : List Def) (fd : Option ℕ) (n : code_node.TNode) where
  at_node : (m : tree.Node) (s : Store) → view_node n ≡ m → Tells s (RefusesStore defs fd m) → Tells s (RefusesStore defs fd (view_node n))
  at_node m s e h = subst (λ (z : tree.Node). Tells s (RefusesStore defs fd z)) (sym e) h

  place_of :
      (p q : code_place.Place) (s : Store) → q ≡ p → Tells s (RefusesPlace defs fd (view_place q))
      → Tells s (RefusesPlace defs fd (view_place p))
  place_of p q s e h = subst (λ (z : code_place.Place). Tells s (RefusesPlace defs fd (view_place z))) e h

  pub assign_at :
      (p : PatternBox) (e : ExprBox) (q : code_pattern.Pattern) (s : Store) → n ≡ make.Assign p e → q ≡ p.value
      → Tells s (RefusesPattern defs fd (view_pattern q)) → Tells s (RefusesStore defs fd (view_node n))
  assign_at p e q s at d h =
      at_node _ s (ap view_node at ∙ view_node-Assign p e)
      (assigned defs fd (view_pattern p.value) (view_expr e.value) s
      (subst (λ (z : code_pattern.Pattern). Tells s (RefusesPattern defs fd (view_pattern z))) d h))

  pub update_at :
      (o : Operation) (p : PlaceBox) (e : ExprBox) (q : code_place.Place) (s : Store) → n ≡ make.Update o p e → q ≡ p.value
      → Tells s (RefusesPlace defs fd (view_place q)) → Tells s (RefusesStore defs fd (view_node n))
  update_at o p e q s at d h =
      at_node _ s (ap view_node at ∙ view_node-Update o p e)
      (updated defs fd o (view_place p.value) (view_expr e.value) s (place_of p.value q s d h))

  pub step_at :
      (o : Operation) (g : Given) (p : PlaceBox) (q : code_place.Place) (s : Store) → n ≡ make.Step o g p → q ≡ p.value
      → Tells s (RefusesPlace defs fd (view_place q)) → Tells s (RefusesStore defs fd (view_node n))
  step_at o g p q s at d h =
      at_node _ s (ap view_node at ∙ view_node-Step o g p) (stepped defs fd o g (view_place p.value) s (place_of p.value q s d h))

  type_is : (a : ExprBox) (b : code_expr.TExpr) → b ≡ a.value → view_ty b.ty ≡ type_of (view_expr a.value)
  type_is a b d = ap (λ (z : code_expr.TExpr). view_ty z.ty) d ∙ sym (ap type_of (view_expr-out a.value))

  pub copy_at :
      (a i e : ExprBox) (b : code_expr.TExpr) (closes : Bool) (s : Store) → n ≡ make.Copy a i e → b ≡ a.value
      → IsTrue closes ↔ CopyCloses defs (view_ty b.ty) → s ≡ closing closes → Tells s (RefusesStore defs fd (view_node n))
  copy_at a i e b closes s at d h told =
      at_node _ s (ap view_node at ∙ view_node-Copy a i e)
      (subst
      (λ (z : Store). Tells z (RefusesStore defs fd (tree.Copy (view_expr a.value) (view_expr i.value) (view_expr e.value)))) (sym told)
      (copied defs fd (view_expr a.value) (view_expr i.value) (view_expr e.value) closes
      (subst (λ (t : Ty). IsTrue closes ↔ CopyCloses defs t) (type_is a b d) h)))

  pub send_at :
      (c e : ExprBox) (b : code_expr.TExpr) (closes : Bool) (s : Store) → n ≡ make.Send c e → b ≡ c.value
      → IsTrue closes ↔ SendCloses defs (view_ty b.ty) → s ≡ closing closes → Tells s (RefusesStore defs fd (view_node n))
  send_at c e b closes s at d h told =
      at_node _ s (ap view_node at ∙ view_node-Send c e)
      (subst (λ (z : Store). Tells z (RefusesStore defs fd (tree.Send (view_expr c.value) (view_expr e.value)))) (sym told)
      (sent defs fd (view_expr c.value) (view_expr e.value) closes
      (subst (λ (t : Ty). IsTrue closes ↔ SendCloses defs t) (type_is c b d) h)))

-- ---- the parts of a tuple

abbrev pub parts_of : List code_pattern.Pattern → tree.Patterns
parts_of ps = patterns_of (map view_pattern ps)

-- What is told of the parts that are left, together with what was told, is told of all.
abbrev pub TellsRest : List Def → Option ℕ → (told : Store) → (left all : List code_pattern.Pattern) → Type 0
TellsRest defs fd told left all =
    (s : Store) → Tells s (RefusesPattern defs fd (tree.ToParts (parts_of left)))
    → Tells (worse told s) (RefusesPattern defs fd (tree.ToParts (parts_of all)))

pub rest_next :
    (defs : List Def) (fd : Option ℕ) (ps : List code_pattern.Pattern) (i : ℕ) (p : code_pattern.Pattern) (told one new : Store)
    → i < length ps → p ≡ get_or ps i p → Tells one (RefusesPattern defs fd (view_pattern p)) → new ≡ worse told one
    → TellsRest defs fd told (drop i ps) ps → TellsRest defs fd new (drop (i + 1) ps) ps
rest_next defs fd ps i p told one new l e h f rest s k =
    let Holds : tree.Patterns → Store → Type 0 = λ qs z. Tells z (RefusesPattern defs fd (tree.ToParts qs)) in
    let next : parts_of (drop i ps) ≡ tree.MorePatterns (view_pattern p) (parts_of (drop (i + 1) ps)) =
    at_drop_more parts_of ps i p l
    ∙ ap (λ (q : code_pattern.Pattern). tree.MorePatterns (view_pattern q) (parts_of (drop (i + 1) ps))) (sym e) in
    let both : Holds (parts_of (drop i ps)) (worse one s) =
    subst (λ (qs : tree.Patterns). Holds qs (worse one s)) (sym next)
    (to_more defs fd (view_pattern p) (parts_of (drop (i + 1) ps)) one s h k) in
    subst (λ (z : Store). Holds (parts_of ps) (worse z s)) (sym f)
    (subst (λ (z : Store). Holds (parts_of ps) z) (sym (worse_assoc told one s)) (rest (worse one s) both))

pub rest_done :
    (defs : List Def) (fd : Option ℕ) (ps : List code_pattern.Pattern) (i : ℕ) (told : Store) → length ps ≤ i
    → TellsRest defs fd told (drop i ps) ps → Tells told (RefusesPattern defs fd (tree.ToParts (parts_of ps)))
rest_done defs fd ps i told l rest =
    let Holds : tree.Patterns → Store → Type 0 = λ qs z. Tells z (RefusesPattern defs fd (tree.ToParts qs)) in
    subst (λ (z : Store). Holds (parts_of ps) z) (worse_allowed told)
    (rest Allowed (subst (λ (qs : tree.Patterns). Holds qs Allowed) (sym (at_drop_all parts_of ps i l)) (to_none defs fd)))
