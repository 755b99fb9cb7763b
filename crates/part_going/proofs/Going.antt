-- The functions of a module of the part are sound, and so are its processes at every moment: none is ever without a rule, and each
-- operation and each function has such numbers as it takes.
use Rattle.std.proofs.Common.{◌≡◌, ℕ, zero, suc, pos, true, ◌&&◌, ◌⊎◌, inl, inr, List, [], ◌∷◌, map, Option, Some, None}
use Rattle.std.proofs.Common.{refl, sym, ap, ◌∙◌, subst, arith}
use Rattle.std.specs.Prelude.{slice_get, not}
use Rattle.std.proofs.lemmas.Bool.{false≢true}
use Rattle.std.proofs.lemmas.Int.{ints}
use Rattle.process_model.specs.Process.{Doing, Ready, Waiting}
use Rattle.process_model.specs.Source.{Turn}
use Rattle.process_model.specs.Plain.{no_names}
use Rattle.process_model.specs.Law.{begins}
use Rattle.limbo_types.specs.Types.{Ty, Byte}
use Rattle.limbo_values.specs.declared.number.Kind.{Kind}
use Rattle.limbo_values.specs.declared.number.Kind.TheVariants as kind
use Rattle.limbo_values.specs.Numbers.{InRange}
use Rattle.limbo_typed.specs.declared.operation.Operation.{Operation}
use Rattle.limbo_typed.specs.declared.print.Printed.{Printed}
use Rattle.limbo_typed.specs.declared.print.Printed.TheVariants as printed
use Rattle.limbo_typed.specs.declared.print.Piece.{Piece}
use Rattle.limbo_typed.specs.Typed as typed
use Rattle.limbo_typed.specs.Typed.{Of, At}
use Rattle.limbo_typed.specs.Sound.{type_of, types_of, type_at}
use Rattle.system_model.specs.Values.{Value, Num}
use Rattle.system_model.specs.Limits.{frames_limit}
use Rattle.typed_meaning.specs.Values.{kind_of}
use Rattle.typed_meaning.specs.Trees as tree
use Rattle.typed_meaning.specs.Trees.{Term, Terms, Store, Stm, Over, Eval, Looping, Block, Done, Then, tested}
use Rattle.typed_meaning.specs.Program as program
use Rattle.typed_meaning.specs.Program.{Routine, routine_of, routines_of, term_of, terms_of, node_of, evaluated, at_place, place_of}
use Rattle.typed_meaning.specs.Program.{place_to, printing, as_printed, printed_of, before, all_before, optional, declared_value, return_of}
use Rattle.typed_meaning.specs.Process.{Process, reads}
use Rattle.typed_meaning.specs.Rules.{rules}
use Rattle.typed_meaning.specs.Runs.{Meaning, MeaningRun, first_world, first_process}
use Rattle.typed_meaning.proofs.Kept.{Keeps, all_at, kept_matched}
use Rattle.typed_lower.specs.Kinds.{kind_at, kind_given}
use Rattle.typed_part.specs.Part as part
use Rattle.typed_part.specs.Part.{Inside, some_is, operands}
use Rattle.typed_part.proofs.Tests as tests
use Rattle.typed_part.proofs.Tests.{left, right, one_holds}
use Rattle.part_going.specs.Going.{AlwaysGoing}
use Rattle.part_going.specs.Fitting.{OperandsFit, ArgumentsFit}
use Rattle.part_going.proofs.Alike.{of_kind, of_kinds, alike_kinds, all_alike_kinds, some_holds}
use Rattle.part_going.proofs.Results.{fitted_of}
use Rattle.part_going.proofs.Operands as fitting
use Rattle.part_going.proofs.Sound.{HasKind, HaveKinds, SoundTerm, SoundOption, SoundStm, SoundBlock, SoundRoutines, IsSound}
use Rattle.part_going.proofs.Sound.{tested_sound, step_sound, answer_sound}

-- what stands in a list that is made from another

mapped_from : {X Y : Type 0} (f : X → Y) (xs : List X) (i : ℕ) (y : Y) → slice_get (map f xs) i ≡ Some y
    → (x : X) × (slice_get xs i ≡ Some x) × (f x ≡ y)
mapped_from f [] i y e = absurd cc
mapped_from f (x ∷ xs) zero y e = (x, refl, cc)
mapped_from f (x ∷ xs) (suc i) y e = mapped_from f xs i y e

zero_in_int : InRange kind.Int (pos 0)
zero_in_int = record { above = omega (arith, ints); below = omega (arith, ints) }

module _ (i : Inside) where
  abbrev fs : List typed.Function
  fs = i.functions

  -- ---- expressions

  -- the function that is called, which takes numbers of these kinds
  call_has : (f : ℕ) (es : typed.Exprs) (t : Ty) → part.calls i f (types_of es) t ≡ true
      → HaveKinds fs (terms_of es) (map kind_of (types_of es)) → HasKind fs (tree.Call t f (terms_of es)) (kind_of t)
  call_has f es t h have =
      let g = some_holds _ (slice_get fs f) h in
      let same = all_alike_kinds (types_of es) g.0.of.args (left _ _ g.2) in
      (refl, (g.0, g.1, subst (HaveKinds fs (terms_of es)) (sym same) have))

  -- a place of the part is one of the meaning, of the same type
  at_has : (p : typed.Place) (k : Kind) (made : tree.Place → Term) → part.is_place i p ≡ true
      → ((q : tree.Place) → kind_at q ≡ kind_of (type_at p) → HasKind fs (made q) k) → HasKind fs (at_place (place_of p) made) k
  at_has (At t (typed.Local x)) k made h f = f (tree.At t (tree.Local x)) refl
  at_has (At t (typed.Global x)) k made h f = f (tree.At t (tree.Global x)) refl
  at_has (At t _) k made h f = absurd (false≢true h)

  assign_has : (p : typed.Pattern) (u t : Ty) (e : Term) → part.assigns i p u t ≡ true → HasKind fs e (kind_of u)
      → HasKind fs (at_place (place_to p) (λ q. Store q e)) (kind_of t)
  assign_has (typed.ToPlace q) u t e h f =
      let u_same : kind_of (type_at q) ≡ kind_of u = alike_kinds u (type_at q) (right _ _ (left _ _ h)) in
      let t_same : kind_of (type_at q) ≡ kind_of t = alike_kinds t (type_at q) (right _ _ h) in
      at_has q (kind_of t) (λ r. Store r e) (left _ _ (left _ _ h)) (λ r s. subst (HasKind fs e) (sym u_same ∙ t_same) f)
  assign_has _ u t e h f = absurd (false≢true h)

  -- what an operation takes, and what it gives
  gives_kinds : (o : Operation) (ts : List Ty) (t : Ty) → part.gives o ts t ≡ true
      → (kind_given o ≡ kind_of t) × (operands o ≡ Some (map kind_of ts))
  gives_kinds o ts t h =
      let ks = some_holds (λ ks. part.are_of ks ts) (operands o) (left _ _ h) in
      (sym (of_kind (kind_given o) t (right _ _ h)), ks.1 ∙ ap Some (sym (of_kinds ks.0 ts ks.2)))

  print_has : (w : Printed) (file : typed.Optional) (ps : List Piece) (ts : Terms) (k : Kind)
      → (part.is_print w && part.is_absent file) ≡ true → HasKind fs (tree.Print ps ts) k → HasKind fs (printing w file ps ts) k
  print_has printed.Print typed.Absent ps ts k h f = f
  print_has printed.Print (typed.Present e) ps ts k h f = absurd (false≢true h)
  print_has _ file ps ts k h f = absurd (false≢true h)

  -- a byte is printed as an int
  printed_one : (t : Ty) (x : Term) → HasKind fs x (kind_of t) → SoundTerm fs (as_printed t x)
  printed_one Byte x f = (kind.Int, (refl, (kind.Byte ∷ [], refl, (f, tt))))
  printed_one t x f = (kind_of t, f)

  mutual
    expr_has : (e : typed.Expr) → part.is_expr i e ≡ true → HasKind fs (term_of e) (kind_of (type_of e))
    expr_has (Of t n) h = node_has t n h

    node_has : (t : Ty) (n : typed.Node) → part.is_node i t n ≡ true → HasKind fs (node_of t n) (kind_of t)
    node_has t (typed.Number n) h = fitted_of t (Num n)
    node_has t (typed.Read p) h =
        let same : kind_of (type_at p) ≡ kind_of t = alike_kinds t (type_at p) (right _ _ h) in
        at_has p (kind_of t) tree.Read (left _ _ h) (λ q s. s ∙ same)
    node_has t (typed.Apply o es) h =
        let of = gives_kinds o (types_of es) t (right _ _ h) in
        (of.0, (map kind_of (types_of es), of.1, exprs_have es (left _ _ h)))
    node_has t (typed.Lazy c l r) h =
        let three = right _ _ h in
        let first = of_kind kind.Int (type_of l) (left _ _ three) in
        let second = of_kind kind.Int (type_of r) (left _ _ (right _ _ three)) in
        let third = of_kind kind.Int t (left _ _ (right _ _ (right _ _ three))) in (
          sym third,
          subst (HasKind fs (term_of l)) first (expr_has l (left _ _ (left _ _ h))),
          subst (HasKind fs (term_of r)) second (expr_has r (right _ _ (left _ _ h))),
        )
    node_has t (typed.Assign p e) h = assign_has p (type_of e) t (term_of e) (right _ _ h) (expr_has e (left _ _ h))
    node_has t (typed.Update o p e) h =
        let of = gives_kinds o (type_at p ∷ type_of e ∷ []) (type_at p) (right _ _ (left _ _ h)) in
        let same : kind_of (type_at p) ≡ kind_of t = alike_kinds t (type_at p) (right _ _ h) in
        let e_has = expr_has e (right _ _ (left _ _ (left _ _ h))) in
        at_has p (kind_of t) _ (left _ _ (left _ _ (left _ _ h)))
        (λ q s. (of.0 ∙ same, (kind_of (type_at p) ∷ kind_of (type_of e) ∷ [], of.1, (s, (e_has, tt)), same)))
    node_has t (typed.Step o g p) h =
        let of = gives_kinds o (type_at p ∷ []) (type_at p) (right _ _ (left _ _ h)) in
        let same : kind_of (type_at p) ≡ kind_of t = alike_kinds t (type_at p) (right _ _ h) in
        at_has p (kind_of t) _ (left _ _ (left _ _ h))
        (λ q s. (of.0 ∙ same, (kind_of (type_at p) ∷ [], of.1, (s, tt), same)))
    node_has t (typed.Call f es) h = call_has f es t (right _ _ h) (exprs_have es (left _ _ h))
    node_has t (typed.Print w m file ps es) h =
        let int : kind.Int ≡ kind_of t = sym (of_kind kind.Int t (left _ _ (right _ _ h))) in
        print_has w file ps (printed_of es) (kind_of t) (left _ _ (left _ _ (left _ _ (left _ _ h))))
        (int, printed_have es (right _ _ (left _ _ (left _ _ h))))
    node_has t _ h = absurd (false≢true h)

    exprs_have : (es : typed.Exprs) → part.are_exprs i es ≡ true → HaveKinds fs (terms_of es) (map kind_of (types_of es))
    exprs_have typed.NoExprs h = tt
    exprs_have (typed.MoreExprs e es) h = (expr_has e (left _ _ h), exprs_have es (right _ _ h))

    printed_have : (es : typed.Exprs) → part.are_exprs i es ≡ true → (ks : List Kind) × HaveKinds fs (printed_of es) ks
    printed_have typed.NoExprs h = ([], tt)
    printed_have (typed.MoreExprs (Of t n) es) h =
        let one = printed_one t (node_of t n) (node_has t n (left _ _ h)) in
        let others = printed_have es (right _ _ h) in
        (one.0 ∷ others.0, (one.1, others.1))

  expr_sound : (e : typed.Expr) → part.is_expr i e ≡ true → SoundTerm fs (term_of e)
  expr_sound e h = (kind_of (type_of e), expr_has e h)

  -- ---- expressions that stand alone

  no_load : (t : Ty) (n : typed.Node) → part.is_node i t n ≡ true → program.is_load n ≡ None
  no_load t (typed.Assign p (Of u (typed.Load k e))) h = absurd (false≢true h)
  no_load t _ h = refl

  evaluated_sound : (e : typed.Expr) → part.is_expr i e ≡ true → SoundStm fs (evaluated e)
  evaluated_sound (Of t n) h =
      let same = ap (λ (o : Option Stm). elim o [ None ↦ Eval (node_of t n) | Some s ↦ s ]) (no_load t n h) in
      subst (SoundStm fs) (sym same) (kind_of t, node_has t n h)

  load_sound : (e : typed.Expr) → not (part.is_none (part.loads i.system e)) ≡ true → SoundStm fs (evaluated e)
  load_sound (Of t (typed.Assign p (Of u (typed.Load k e)))) h = tt
  load_sound _ h = absurd (false≢true h)

  action_sound : (e : typed.Expr) → part.is_action i e ≡ true → SoundStm fs (evaluated e)
  action_sound e h = go (one_holds (not (part.is_none (part.loads i.system e))) (part.is_expr i e) h)
    where
      go : (not (part.is_none (part.loads i.system e)) ≡ true) ⊎ (part.is_expr i e ≡ true) → SoundStm fs (evaluated e)
      go (inl a) = load_sound e a
      go (inr b) = evaluated_sound e b

  first_sound : (e : Option typed.Expr) (rest : Block) → part.is_value i e ≡ true → SoundBlock fs rest
      → SoundBlock fs (program.first_of e rest)
  first_sound None rest h k = k
  first_sound (Some e) rest h k = (evaluated_sound e h, k)

  value_sound : (e : Option typed.Expr) → part.is_value i e ≡ true → SoundOption fs (optional e)
  value_sound None h = tt
  value_sound (Some e) h = expr_sound e h

  test_sound : (e : Option typed.Expr) → part.is_test i e ≡ true → SoundOption fs (optional e)
  test_sound None h = tt
  test_sound (Some e) h = expr_sound e (left _ _ h)

  return_sound : (e : Option typed.Expr) → part.returns i e ≡ true → SoundStm fs (return_of e)
  return_sound None h = tt
  return_sound (Some e) h = expr_sound e (left _ _ h)

  -- ---- statements

  module _ (types : List Ty) where
    declare_sound : (xs : List ℕ) (e : Option typed.Expr) → part.declares i xs e ≡ true → SoundTerm fs (declared_value types e)
    declare_sound xs None h = (kind.Int, zero_in_int)
    declare_sound xs (Some e) h = expr_sound e (left _ _ h)

    mutual
      before_sound : (n : ℕ) (s : typed.Stmt) (rest : Block) → part.is_stmt i n s ≡ true → SoundBlock fs rest
          → SoundBlock fs (before types s rest)
      before_sound n typed.Empty rest h k = (tt, k)
      before_sound n (typed.Block ss) rest h k = all_before_sound n ss (Then Over rest) h (tt, k)
      before_sound n (typed.Declare xs e) rest h k = (declare_sound xs e h, k)
      before_sound n (typed.Eval e) rest h k = (action_sound e h, k)
      before_sound n (typed.If c ss others) rest h k = (
        (
          expr_sound c (left _ _ (left _ _ (left _ _ h))),
          all_before_sound n ss Done (right _ _ (left _ _ h)) tt,
          all_before_sound n others Done (right _ _ h) tt,
        ),
        k,
      )
      before_sound n (typed.While c ss) rest h k =
          tested_sound fs (Looping (optional c) None (all_before types ss Done)) (Then Over rest)
          (test_sound c (left _ _ h), tt, all_before_sound (suc n) ss Done (right _ _ h) tt) (tt, k)
      before_sound n (typed.Do ss c) rest h k =
          ((test_sound c (right _ _ h), tt, all_before_sound (suc n) ss Done (left _ _ h) tt), (tt, k))
      before_sound n (typed.For first c next ss) rest h k =
          first_sound first (tested (Looping (optional c) (optional next) (all_before types ss Done)) (Then Over rest))
          (left _ _ (left _ _ (left _ _ h)))
          (tested_sound fs (Looping (optional c) (optional next) (all_before types ss Done)) (Then Over rest) (
            test_sound c (right _ _ (left _ _ (left _ _ h))),
            value_sound next (right _ _ (left _ _ h)),
            all_before_sound (suc n) ss Done (right _ _ h) tt,
          )
          (tt, k))
      before_sound n (typed.Break j) rest h k = (tt, k)
      before_sound n (typed.Continue j) rest h k = (tt, k)
      before_sound n (typed.Return e) rest h k = (return_sound e h, k)
      before_sound n _ rest h k = absurd (false≢true h)

      all_before_sound : (n : ℕ) (ss : typed.Stmts) (rest : Block) → part.are_stmts i n ss ≡ true → SoundBlock fs rest
          → SoundBlock fs (all_before types ss rest)
      all_before_sound n typed.NoStmts rest h k = k
      all_before_sound n (typed.MoreStmts s ss) rest h k =
          before_sound n s (all_before types ss rest) (left _ _ h) (all_before_sound n ss rest (right _ _ h) k)

-- ---- modules

routines_sound : (m : typed.Module) → part.is_part m ≡ true → SoundRoutines m.functions
routines_sound m h n r e =
    let from = mapped_from routine_of m.functions n r e in
    let f : typed.Function = from.0 in
    let its : part.is_function m f ≡ true = tests.all_at (part.is_function m) m.functions n f from.1 (right _ _ h) in
    subst (λ r. SoundBlock m.functions r.body) from.2
    (all_before_sound (part.inside m f) (map (λ v. v.ty) f.variables) 0 f.body Done (right _ _ its) tt)

-- in a run every process is sound, at every moment
kept_sound : (m : typed.Module) → part.is_part m ≡ true → (init : ℕ) (turns : List Turn) (c : Meaning) → MeaningRun m init turns c
    → (i : ℕ) (d : Doing Process Value) → slice_get c.processes i ≡ Some d → IsSound m.functions d
kept_sound m h init turns c run i d e =
    let fs = m.functions in
    let program = rules frames_limit (routines_of m) in
    let sound = routines_sound m h in
    let keeps : Keeps program no_names (IsSound fs) = record {
      step = λ w p h. step_sound fs frames_limit sound w p h;
      wake = λ k v bs w p h. absurd h;
      answer = λ a w p h. answer_sound fs a w p h;
    } in
    let first = begins (first_world m) (first_process run.first) in
    let kept = kept_matched program no_names (IsSound fs) keeps first c turns run.run ((sound init run.first run.there, tt), tt) in
    all_at program no_names (IsSound fs) c.processes i d kept e

pub always_going : AlwaysGoing
always_going m h init turns c run i branches p e = kept_sound m h init turns c run i (Waiting branches p) e

pub operands_fit : OperandsFit
operands_fit m h init turns c run i p at a next =
    let sound = kept_sound m h init turns c run i (Ready p) at in
    fitting.operands_fit m.functions (reads c.world p.frame) p.frame.todo a sound.0 next

pub arguments_fit : ArgumentsFit
arguments_fit m h init turns c run i p at called next =
    let sound = kept_sound m h init turns c run i (Ready p) at in
    fitting.arguments_fit m.functions (reads c.world p.frame) p.frame.todo called sound.0 next
