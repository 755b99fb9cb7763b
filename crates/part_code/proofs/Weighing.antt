-- The places that are counted take no more bytes than the nodes have.
use Rattle.std.proofs.Common.{◌≡◌, ℕ, suc, ◌+◌, ◌*◌, ◌≤◌, max, true, ◌&&◌, ◌⊎◌, inl, inr, List, [], ◌∷◌, Option, Some, None, refl}
use Rattle.std.proofs.Common.{arith}
use Rattle.std.specs.Prelude.{not, slice_get}
use Rattle.std.proofs.lemmas.Bool.{false≢true}
use Rattle.std.proofs.lemmas.Option.{none-some}
use Rattle.limbo_types.specs.Types.{Ty, Nothing}
use Rattle.limbo_values.specs.declared.number.Kind.{Kind}
use Rattle.limbo_values.specs.declared.number.Kind.TheVariants as kind
use Rattle.limbo_typed.specs.declared.operation.Operation.{Operation}
use Rattle.limbo_typed.specs.declared.print.Piece.{Piece as Written}
use Rattle.limbo_typed.specs.declared.print.Piece.TheVariants as piece
use Rattle.limbo_typed.specs.Typed as typed
use Rattle.limbo_typed.specs.Typed.{Of}
use Rattle.limbo_typed.specs.Sound.{type_of, types_of, type_at}
use Rattle.typed_lower.specs.Sizes.{node_size, expr_size, inner_size, exprs_size, optional_size, stmt_size, stmts_size}
use Rattle.typed_lower.specs.Statements.{number_kind}
use Rattle.typed_part.specs.Part as part
use Rattle.typed_part.specs.Part.{Inside, is_of, are_of, all_alike, are_alike, gives, some_is}
use Rattle.typed_part.proofs.Tests.{left, right, one_holds}
use Rattle.part_code.proofs.Counted.{expr_places, inner_places, exprs_places, optional_places, stmt_places, stmts_places}
use Rattle.part_code.proofs.Alike.{has_kind, alike_first}
use Rattle.part_code.proofs.Callees.{some_holds}

-- ---- numbers have whole nodes

number_node : (t : Ty) (k : Kind) → number_kind t ≡ Some k → node_size t ≡ 24
number_node Nothing k h = absurd (none-some k h)
number_node _ k h = refl

of_kind : (k : Kind) (t : Ty) → is_of k t ≡ true → node_size t ≡ 24
of_kind k t h = number_node t k (has_kind k t h).number

of_alike : (t u : Ty) → are_alike t u ≡ true → node_size t ≡ 24
of_alike t u h = number_node t _ (alike_first t u h).number

any_node : (t : Ty) → 16 ≤ node_size t
any_node Nothing = omega arith
any_node _ = omega arith

abbrev AllWhole : List Ty → Type 0
AllWhole [] = Unit {0}
AllWhole (t ∷ ts) = (node_size t ≡ 24) × AllWhole ts

kinds_whole : (ks : List Kind) (ts : List Ty) → are_of ks ts ≡ true → AllWhole ts
kinds_whole [] [] h = tt
kinds_whole [] (t ∷ ts) h = absurd (false≢true h)
kinds_whole (k ∷ ks) [] h = tt
kinds_whole (k ∷ ks) (t ∷ ts) h = (of_kind k t (left (is_of k t) (are_of ks ts) h), kinds_whole ks ts (right (is_of k t) (are_of ks ts) h))

gives_whole : (o : Operation) (ts : List Ty) (t : Ty) → gives o ts t ≡ true → AllWhole ts
gives_whole o ts t h =
    let a = some_holds (λ (ks : List Kind). are_of ks ts) (part.operands o) (left _ _ h) in kinds_whole a.0 ts a.2

alike_whole : (ts args : List Ty) → all_alike ts args ≡ true → AllWhole ts
alike_whole [] args h = tt
alike_whole (t ∷ ts) [] h = absurd (false≢true h)
alike_whole (t ∷ ts) (a ∷ args) h =
    (of_alike t a (left (are_alike t a) (all_alike ts args) h), alike_whole ts args (right (are_alike t a) (all_alike ts args) h))

printed_whole : (ps : List Written) (ts : List Ty) → part.are_printed ps ts ≡ true → AllWhole ts
printed_whole [] [] h = tt
printed_whole [] (t ∷ ts) h = absurd (false≢true h)
printed_whole (piece.Chars s ∷ ps) ts h = printed_whole ps ts h
printed_whole (piece.Hole x ∷ ps) [] h = tt
printed_whole (piece.Hole x ∷ ps) (t ∷ ts) h =
    let a = some_holds (λ (k : Kind). is_of k t) (part.hole_kind x) (left _ (part.are_printed ps ts) h) in
    (of_kind a.0 t a.2, printed_whole ps ts (right _ _ h))

-- ---- sums

both_weighed : (a b r s : ℕ) → 24 * a ≤ r → 24 * b ≤ s → 24 * (a + b) ≤ r + s
both_weighed a b r s x y = omega (arith, x, y)

one_more : (a r : ℕ) → 24 * a ≤ r → 24 * suc a ≤ 24 + r
one_more a r x = omega (arith, x)

two_more : (a r : ℕ) → 24 * a ≤ r → 24 * suc (suc a) ≤ 48 + r
two_more a r x = omega (arith, x)

greater_weighed : (a b r s : ℕ) → 24 * a ≤ r + 8 → 24 * b ≤ s + 8 → 24 * max a b ≤ max r s + 8
greater_weighed a b r s x y = omega (arith, x, y)

-- ---- expressions

module _ (i : Inside) where
  mutual
    weighed : (e : typed.Expr) → part.is_expr i e ≡ true → node_size (type_of e) ≡ 24 → 24 * expr_places e ≤ expr_size e
    weighed (Of t n) h w = let x = inner_weighed t n h in omega (arith, x, w)

    inner_weighed : (t : Ty) (n : typed.Node) → part.is_node i t n ≡ true → 24 * inner_places n ≤ inner_size n
    inner_weighed t (typed.Number n) h = omega arith
    inner_weighed t (typed.Read p) h = omega arith
    inner_weighed t (typed.Apply o es) h = all_weighed es (left _ _ h) (gives_whole o (types_of es) t (right _ _ h))
    inner_weighed t (typed.Lazy c l r) h =
        let a = right (part.is_expr i l && part.is_expr i r) _ h in
        both_weighed (expr_places l) (expr_places r) (expr_size l) (expr_size r)
        (weighed l (left _ _ (left _ _ h)) (of_kind kind.Int (type_of l) (left _ _ a)))
        (weighed r (right _ _ (left _ _ h)) (of_kind kind.Int (type_of r) (left _ _ (right _ _ a))))
    inner_weighed t (typed.Assign p e) h =
        one_more (expr_places e) (expr_size e) (weighed e (left _ _ h) (assigned_node p (type_of e) t (right _ _ h)))
    inner_weighed t (typed.Update o p e) h =
        let a : AllWhole (type_at p ∷ type_of e ∷ []) = gives_whole o (type_at p ∷ type_of e ∷ []) (type_at p) (right _ _ (left _ _ h)) in
        one_more (expr_places e) (expr_size e) (weighed e (right _ _ (left _ _ (left _ _ h))) a.1.0)
    inner_weighed t (typed.Step o g p) h = omega arith
    inner_weighed t (typed.Call g es) h =
        let a = some_holds (λ (x : typed.Function). all_alike (types_of es) x.of.args && part.answers_alike t x.of.answer)
        (slice_get i.functions g) (right _ _ h) in
        all_weighed es (left _ _ h) (alike_whole (types_of es) (a.0).of.args (left _ _ a.2))
    inner_weighed t (typed.Print v m file ps es) h =
        two_more (exprs_places es) (exprs_size es)
        (all_weighed es (right _ _ (left _ _ (left _ _ h))) (printed_whole ps (types_of es) (right _ _ (left _ _ h))))
    inner_weighed t _ h = absurd (false≢true h)

    all_weighed : (es : typed.Exprs) → part.are_exprs i es ≡ true → AllWhole (types_of es) → 24 * exprs_places es ≤ exprs_size es
    all_weighed typed.NoExprs h w = omega arith
    all_weighed (typed.MoreExprs e es) h w =
        both_weighed (expr_places e) (exprs_places es) (expr_size e) (exprs_size es) (weighed e (left _ _ h) w.0)
        (all_weighed es (right _ _ h) w.1)

    assigned_node : (p : typed.Pattern) (u t : Ty) → part.assigns i p u t ≡ true → node_size u ≡ 24
    assigned_node (typed.ToPlace q) u t h = of_alike u (type_at q) (right _ _ (left _ _ h))
    assigned_node _ u t h = absurd (false≢true h)

  -- A statement's own expression may have no value.
  alone : (e : typed.Expr) → part.is_expr i e ≡ true → 24 * expr_places e ≤ expr_size e + 8
  alone (Of t n) h =
      let x = inner_weighed t n h in
      let y = any_node t in
      omega (arith, x, y)

  load_weighed : (system : Option ℕ) (e : typed.Expr) → not (part.is_none (part.loads system e)) ≡ true
      → 24 * expr_places e ≤ expr_size e + 8
  load_weighed system (Of t (typed.Assign p (Of u (typed.Load k (Of v n))))) h =
      let x = any_node t in
      let y = any_node u in
      let z = any_node v in
      omega (arith, x, y, z)
  load_weighed system _ h = absurd (false≢true h)

  action_weighed : (e : typed.Expr) → part.is_action i e ≡ true → 24 * expr_places e ≤ expr_size e + 8
  action_weighed e h = go (one_holds (not (part.is_none (part.loads i.system e))) (part.is_expr i e) h)
    where
      go : (not (part.is_none (part.loads i.system e)) ≡ true) ⊎ (part.is_expr i e ≡ true) → 24 * expr_places e ≤ expr_size e + 8
      go (inl a) = load_weighed i.system e a
      go (inr b) = alone e b

  value_weighed : (e : Option typed.Expr) → part.is_value i e ≡ true → 24 * optional_places e ≤ optional_size e + 8
  value_weighed None h = omega arith
  value_weighed (Some e) h = alone e h

  test_weighed : (e : Option typed.Expr) → part.is_test i e ≡ true → 24 * optional_places e ≤ optional_size e + 8
  test_weighed None h = omega arith
  test_weighed (Some e) h = alone e (left _ _ h)

  return_weighed : (e : Option typed.Expr) → part.returns i e ≡ true → 24 * optional_places e ≤ optional_size e + 8
  return_weighed None h = omega arith
  return_weighed (Some e) h = alone e (left _ _ h)

  declare_weighed : (xs : List ℕ) (e : Option typed.Expr) → part.declares i xs e ≡ true → 24 * optional_places e ≤ optional_size e + 8
  declare_weighed xs None h = omega arith
  declare_weighed xs (Some e) h = alone e (left _ _ h)

  mutual
    stmt_weighed : (n : ℕ) (s : typed.Stmt) → part.is_stmt i n s ≡ true → 24 * stmt_places s ≤ stmt_size s + 8
    stmt_weighed n typed.Empty h = omega arith
    stmt_weighed n (typed.Block ss) h = stmts_weighed n ss h
    stmt_weighed n (typed.Declare xs e) h = let x = declare_weighed xs e h in omega (arith, x)
    stmt_weighed n (typed.Eval e) h = action_weighed e h
    stmt_weighed n (typed.If c ss others) h =
        greater_weighed (expr_places c) (max (stmts_places ss) (stmts_places others)) (expr_size c)
        (max (stmts_size ss) (stmts_size others)) (alone c (left _ _ (left _ _ (left _ _ h))))
        (greater_weighed (stmts_places ss) (stmts_places others) (stmts_size ss) (stmts_size others)
        (stmts_weighed n ss (right _ _ (left _ _ h))) (stmts_weighed n others (right _ _ h)))
    stmt_weighed n (typed.While c ss) h =
        greater_weighed (optional_places c) (stmts_places ss) (optional_size c) (stmts_size ss) (test_weighed c (left _ _ h))
        (stmts_weighed (suc n) ss (right _ _ h))
    stmt_weighed n (typed.Do ss c) h =
        greater_weighed (optional_places c) (stmts_places ss) (optional_size c) (stmts_size ss) (test_weighed c (right _ _ h))
        (stmts_weighed (suc n) ss (left _ _ h))
    stmt_weighed n (typed.For first c next ss) h =
        greater_weighed (optional_places first) (max (optional_places c) (max (optional_places next) (stmts_places ss)))
        (optional_size first) (max (optional_size c) (max (optional_size next) (stmts_size ss)))
        (value_weighed first (left _ _ (left _ _ (left _ _ h))))
        (greater_weighed (optional_places c) (max (optional_places next) (stmts_places ss)) (optional_size c)
        (max (optional_size next) (stmts_size ss)) (test_weighed c (right _ _ (left _ _ (left _ _ h))))
        (greater_weighed (optional_places next) (stmts_places ss) (optional_size next) (stmts_size ss)
        (value_weighed next (right _ _ (left _ _ h))) (stmts_weighed (suc n) ss (right _ _ h))))
    stmt_weighed n (typed.Break k) h = omega arith
    stmt_weighed n (typed.Continue k) h = omega arith
    stmt_weighed n (typed.Return e) h = return_weighed e h
    stmt_weighed n _ h = absurd (false≢true h)

    pub stmts_weighed : (n : ℕ) (ss : typed.Stmts) → part.are_stmts i n ss ≡ true → 24 * stmts_places ss ≤ stmts_size ss + 8
    stmts_weighed n typed.NoStmts h = omega arith
    stmts_weighed n (typed.MoreStmts s ss) h =
        greater_weighed (stmt_places s) (stmts_places ss) (stmt_size s) (stmts_size ss) (stmt_weighed n s (left _ _ h))
        (stmts_weighed n ss (right _ _ h))
