-- The code of statements of the part is proper.
use Rattle.std.proofs.Common.{◌≡◌, ℕ, zero, suc, ◌+◌, ◌<◌, pos, true, false, ◌⊎◌, inl, inr, List, [], ◌∷◌, ◌++◌, length, map}
use Rattle.std.proofs.Common.{Option, Some, None, refl, sym, ap, ◌∙◌, subst, arith}
use Rattle.std.specs.Prelude.{slice_get, slice_index_or, not}
use Rattle.std.proofs.lemmas.Bool.{false≢true}
use Rattle.std.proofs.lemmas.Option.{none-some, same_Some}
use Rattle.std.proofs.lemmas.List.{length-append}
use Rattle.limbo_types.specs.Types.{Ty, Int}
use Rattle.limbo_values.specs.declared.number.Kind.{Kind}
use Rattle.limbo_typed.specs.Typed as typed
use Rattle.limbo_typed.specs.Typed.{Of}
use Rattle.limbo_typed.specs.Sound.{type_of}
use Rattle.system_model.specs.Values.{Num, zero_value}
use Rattle.typed_meaning.specs.Values.{kind_of}
use Rattle.typed_meaning.specs.Trees.{Place, Term, Literal, Stm, Eval}
use Rattle.typed_meaning.specs.Program as program
use Rattle.typed_meaning.specs.Program.{term_of, node_of, evaluated, local, declared_value}
use Rattle.slot_code.specs.Code as code
use Rattle.slot_code.specs.Code.{Spot, Temporary, Operand, In, Number, Inst, Move, Jump, Back, Return, Leave, Function, Module}
use Rattle.dis_objects.specs.Code.{spot_kind}
use Rattle.dis_objects.specs.Proper.{IsRead, IsTaken, GoesOn}
use Rattle.typed_lower.specs.Kinds.{spot_of, leaf, kind_in}
use Rattle.typed_lower.specs.Terms.{part_of, branches, ready}
use Rattle.typed_lower.specs.Statements as lower
use Rattle.typed_lower.specs.Statements.{Around, around_at, further, effects, done, condition, moves, sets, either, passed, inside}
use Rattle.typed_lower.specs.Statements.{while_loop}
use Rattle.typed_lower.specs.Statements.{do_loop, returned, stmt_code, stmts_code, number_kind}
use Rattle.typed_part.specs.Part as part
use Rattle.typed_part.specs.Part.{Inside, some_is, is_number, are_alike, all}
use Rattle.typed_part.proofs.Tests.{left, right, one_holds, less}
use Rattle.part_code.proofs.Level.{No, Piece, Plain, both, both_plain, none, asked, single, with_back, at_front, goes_here, goes_behind}
use Rattle.part_code.proofs.Level.{goes_at}
use Rattle.part_code.proofs.Alike.{its_kind, alike_kinds, zero_in}
use Rattle.part_code.proofs.Operands.{ProperReady, Passing, part_ready, of_one, written, taken_as, move}
use Rattle.part_code.proofs.Callees.{some_holds}
use Rattle.part_code.proofs.Expressions.{Knows, ProperTerm, read_local, expr_proper}

-- ---- loops around

further_has : (m : ℕ) (xs : List Around) (n : ℕ) (b : Around) → slice_get (further m xs) n ≡ Some b
    → (a : Around) × (slice_get xs n ≡ Some a) × (b.turn ≡ a.turn + m) × (b.end ≡ a.end + m)
further_has m [] n b e = absurd (none-some b e)
further_has m (a ∷ xs) zero b e =
    let same = same_Some (record { turn = a.turn + m; end = a.end + m }) b e in
    (a, refl, ap (λ (x : Around). x.turn) (sym same), ap (λ (x : Around). x.end) (sym same))
further_has m (a ∷ xs) (suc n) b e = further_has m xs n b e

further_many : (m : ℕ) (xs : List Around) → length (further m xs) ≡ length xs
further_many m [] = refl
further_many m (a ∷ xs) = ap suc (further_many m xs)

one_there : (xs : List Around) (n : ℕ) → n < length xs → slice_get xs n ≡ Some (around_at xs n)
one_there [] n l = absurd (omega (arith, l))
one_there (a ∷ xs) zero l = refl
one_there (a ∷ xs) (suc n) l = one_there xs n (omega (arith, l))

-- ---- expressions that stand alone

no_load : (i : Inside) (t : Ty) (n : typed.Node) → part.is_node i t n ≡ true → program.is_load n ≡ None
no_load i t (typed.Assign p (Of u (typed.Load k e))) h = absurd (false≢true h)
no_load i t _ h = refl

pub is_evaluated : (i : Inside) (e : typed.Expr) → part.is_expr i e ≡ true → evaluated e ≡ Eval (term_of e)
is_evaluated i (Of t n) h = ap (λ (o : Option Stm). elim o [ None ↦ Eval (node_of t n) | Some s ↦ s ]) (no_load i t n h)

pub load_none : (system : Option ℕ) (e : typed.Expr) → not (part.is_none (part.loads system e)) ≡ true → done (evaluated e) ≡ []
load_none system (Of t (typed.Assign p (Of u (typed.Load k e)))) h = refl
load_none system _ h = absurd (false≢true h)

-- ---- variables

type_there : (vs : List typed.Var) (x : ℕ) (v : typed.Var) → slice_get vs x ≡ Some v → slice_index_or (part.types_in vs) x Int ≡ v.ty
type_there [] x v e = absurd (none-some v e)
type_there (u ∷ vs) zero v e = ap (λ (y : typed.Var). y.ty) (same_Some u v e)
type_there (u ∷ vs) (suc x) v e = type_there vs x v e

module _ (m : Module) (f : Function) where
  -- Where control goes on behind each loop around, and at its next turn.
  abbrev pub Exits : List Around → ℕ → Type 0
  Exits xs q = (n : ℕ) (a : Around) → slice_get xs n ≡ Some a → GoesOn m f [] (q + a.turn) × GoesOn m f [] (q + a.end)

  exits_at : (xs : List Around) (q q' : ℕ) → q ≡ q' → Exits xs q → Exits xs q'
  exits_at xs q q' e x = subst (Exits xs) e x

  exits_further : (m' : ℕ) (xs : List Around) (q : ℕ) → Exits xs (q + m') → Exits (further m' xs) q
  exits_further m' xs q x n b e =
      let h = further_has m' xs n b e in
      let y = x n h.0 h.1 in (
        goes_at m f [] (q + m' + (h.0).turn) (q + b.turn) (omega (arith, h.2)) y.0,
        goes_at m f [] (q + m' + (h.0).end) (q + b.end) (omega (arith, h.3)) y.1,
      )

  exits_inside : (turn : List Inst) (xs : List Around) (q : ℕ) → GoesOn m f [] q → GoesOn m f [] (suc (q + length turn))
      → Exits xs (suc (q + length turn)) → Exits (inside turn xs) q
  exits_inside turn xs q here end x zero a e =
      let same = same_Some (record { turn = 0; end = suc (length turn) }) a e in
      let t : 0 ≡ a.turn = ap (λ (y : Around). y.turn) same in
      let l : suc (length turn) ≡ a.end = ap (λ (y : Around). y.end) same in
      (goes_at m f [] q (q + a.turn) (omega (arith, t)) here, goes_at m f [] (suc (q + length turn)) (q + a.end) (omega (arith, l)) end)
  exits_inside turn xs q here end x (suc n) a e =
      exits_further (suc (length turn)) xs q (exits_at xs (suc (q + length turn)) (q + suc (length turn)) (omega arith) x) n a e

  abbrev pub ProperStmt : List Around → List Inst → Type 0
  ProperStmt xs is = Piece m f (Exits xs) [] [] is

  from_plain : (xs : List Around) (a : List Inst) → Plain m f [] a → ProperStmt xs a
  from_plain xs a p = asked m f No (Exits xs) [] [] a (λ q k. tt) p

  then_more : (xs : List Around) (a b : List Inst) → ProperStmt (further (length b) xs) a → ProperStmt xs b → ProperStmt xs (a ++ b)
  then_more xs a b p r =
      both m f (Exits (further (length b) xs)) (Exits xs) (Exits xs) [] [] [] a b p r (λ q h k. exits_further (length b) xs q k) (λ q k. k)

  -- ---- choices

  abbrev Tests : (ℕ → List Inst) → Type 0
  Tests test = (n : ℕ) → Piece m f (Passing m f [] n) [] [] (test n)

  choosing : (xs : List Around) (t : Term) (a o : List Inst) → Tests (λ n. branches false 0 t n) → ProperStmt (further (passed o) xs) a
      → ProperStmt xs o → ProperStmt xs (either t a o)
  choosing xs t a [] b p r =
      both m f (Passing m f [] (length a)) (Exits (further 0 xs)) (Exits xs) [] [] [] (branches false 0 t (length a)) a (b (length a)) p
      (λ q h k. goes_behind m f [] [] a q p.level h) (λ q k. exits_further 0 xs q (exits_at xs q (q + 0) (omega arith) k))
  choosing xs t a (j ∷ js) b p r =
      let o = j ∷ js in
      let c = branches false 0 t (suc (length a)) in
      let ys = further (suc (length o)) xs in
      let Z : ℕ → Type 0 = λ q. Exits ys q × GoesOn m f [] (suc q) in
      let first : Piece m f Z [] [] (c ++ a) =
      both m f (Passing m f [] (suc (length a))) (Exits ys) Z [] [] [] c a (b (suc (length a))) p
      (λ q h k. goes_at m f [] (suc (q + length a)) (q + suc (length a)) (omega arith) k.1) (λ q k. k.0) in
      let second : ProperStmt xs (Jump (length o) ∷ o) =
      both m f (Passing m f [] (length o)) (Exits xs) (Exits xs) [] [] [] (Jump (length o) ∷ []) o
      (single m f (Passing m f [] (length o)) [] (Jump (length o)) (λ pc g k. k)) r (λ q h k. goes_behind m f [] [] o q r.level h)
      (λ q k. k)
      in
      both m f Z (Exits xs) (Exits xs) [] [] [] (c ++ a) (Jump (length o) ∷ o) first second
      (λ q h k. (
        exits_further (suc (length o)) xs q k,
        goes_at m f [] (q + 1) (suc q) (omega arith)
            (goes_behind m f [] [] (Jump (length o) ∷ []) q refl (at_front m f [] (Jump (length o) ∷ []) o q h)),
      ))
      (λ q k. k)

  -- ---- loops

  abbrev Ends : List Around → ℕ → Type 0
  Ends xs q = GoesOn m f [] (suc q) × Exits xs (suc q)

  looping : (xs : List Around) (c : Option typed.Expr) (next body : List Inst) → Tests (condition c) → Plain m f [] next
      → ProperStmt (inside next xs) body → ProperStmt xs (while_loop c next body)
  looping xs c next body t x b =
      let n = suc (length body + length next) in
      let T = condition c n in
      let first : ProperStmt (inside next xs) (T ++ body) =
      both m f (Passing m f [] n) (Exits (inside next xs)) (Exits (inside next xs)) [] [] [] T body (t n) b
      (λ q h k.
      goes_at m f [] (q + length body + suc (length next)) (q + n) (omega arith)
      (k 0 (record { turn = 0; end = suc (length next) }) refl).1)
      (λ q k. k) in
      let whole : Piece m f (Ends xs) [] [] (T ++ body ++ next) =
      both m f (Exits (inside next xs)) No (Ends xs) [] [] [] (T ++ body) next first x
      (λ q h k. exits_inside next xs q (goes_here m f [] next q h) k.0 k.1) (λ q k. tt) in
      with_back m f (Ends xs) (Exits xs) [] (T ++ body ++ next) (length T + length body + length next)
      (length-append (T ++ body) next ∙ ap (λ l. l + length next) (length-append T body)) whole (λ q g k. (g, k))

  doing : (xs : List Around) (test body : List Inst) → Piece m f (Passing m f [] 1) [] [] test → ProperStmt (inside test xs) body
      → ProperStmt xs (do_loop test body)
  doing xs test body t b =
      let whole : Piece m f (Ends xs) [] [] (body ++ test) =
      both m f (Exits (inside test xs)) (Passing m f [] 1) (Ends xs) [] [] [] body test b t
      (λ q h k. exits_inside test xs q (goes_here m f [] test q h) k.0 k.1)
      (λ q k. goes_at m f [] (suc q) (q + 1) (omega arith) k.0) in
      with_back m f (Ends xs) (Exits xs) [] (body ++ test) (length body + length test) (length-append body test) whole (λ q g k. (g, k))

  -- ---- values that go to several places

  abbrev Takes : Operand → List Place → Type 0
  Takes x [] = Unit {0}
  Takes x (p ∷ ps) = IsRead m f (spot_of p) × IsTaken m f (spot_kind (spot_of p)) x × Takes x ps

  moving : (ps : List Place) (x : Operand) → Takes x ps → Plain m f [] (moves ps x)
  moving [] x h = none m f No []
  moving (p ∷ ps) x h =
      both_plain m f [] [] [] (Move (spot_of p) x ∷ []) (moves ps x) (move m f [] (spot_of p) x (written m f [] (spot_of p) h.0) h.1)
      (moving ps x h.2)

  setting_zero : (ps : List Place) → Takes (Number (pos 0)) ps
      → Plain m f [] (sets ps (Literal Int zero_value) (leaf (Literal Int zero_value)))
  setting_zero [] h = none m f No []
  setting_zero (p ∷ []) h = move m f [] (spot_of p) (Number (pos 0)) (written m f [] (spot_of p) h.0) h.1
  setting_zero (p ∷ q ∷ ps) h = moving (p ∷ q ∷ ps) (Number (pos 0)) h

  abbrev OfKind : Kind → List Place → Type 0
  OfKind k [] = Unit {0}
  OfKind k (p ∷ ps) = IsRead m f (spot_of p) × (spot_kind (spot_of p) ≡ k) × OfKind k ps

  takes_all : (k : Kind) (x : Operand) (ps : List Place) → IsTaken m f k x → OfKind k ps → Takes x ps
  takes_all k x [] t h = tt
  takes_all k x (p ∷ ps) t h = (h.0, taken_as m f k (spot_kind (spot_of p)) x (sym h.1) t, takes_all k x ps t h.2)

  setting : (k : Kind) (ps : List Place) (t : Term) → ProperTerm m f k t → OfKind k ps → Plain m f [] (sets ps t (leaf t))
  setting k (p ∷ []) t w h = w.part.value [] 0 (spot_of p) (written m f [] (spot_of p) h.0) h.1
  setting k [] (Literal ty (Num z)) w h = none m f No []
  setting k (p ∷ q ∷ ps) (Literal ty (Num z)) w h =
      moving (p ∷ q ∷ ps) (Number z) (takes_all k (Number z) (p ∷ q ∷ ps) (w.part.leaf (Number z) refl) h)
  setting k ps t w h =
      let s = Temporary (kind_in t) 0 in
      both_plain m f [] [] [] ((part_of t).value 1 s) (moves ps (In s)) (w.part.value [] 1 s tt w.kind)
      (moving ps (In s) (takes_all k (In s) ps (tt, w.kind) h))

  module _ (i : Inside) (w : Knows m f i) where
    abbrev types : List Ty
    types = part.types_in i.variables

    term : (e : typed.Expr) → part.is_expr i e ≡ true → ProperTerm m f (kind_of (type_of e)) (term_of e)
    term e h = expr_proper m f i w e h

    -- ---- declarations

    zeros : (xs : List ℕ) → all (part.takes_zero i) xs ≡ true → Takes (Number (pos 0)) (map (local types) xs)
    zeros [] h = tt
    zeros (x ∷ xs) h =
        let a = some_holds (λ (v : typed.Var). is_number v.ty) (slice_get i.variables x) (left _ _ h) in
        let t = slice_index_or types x Int in
        let r : IsRead m f (code.Variable (kind_of t) x) =
        subst (λ (u : Ty). IsRead m f (code.Variable (kind_of u) x)) (sym (type_there i.variables x a.0 a.1))
        (w.local x a.0 a.1 ∙ ap Some (its_kind (a.0).ty a.2).number) in
        (r, zero_in (kind_of t), zeros xs (right _ _ h))

    values : (t : Ty) (xs : List ℕ) → all (part.takes_value i t) xs ≡ true → OfKind (kind_of t) (map (local types) xs)
    values t [] h = tt
    values t (x ∷ xs) h =
        let a = some_holds (λ (v : typed.Var). are_alike t v.ty) (slice_get i.variables x) (left _ _ h) in
        let e : kind_of (slice_index_or types x Int) ≡ kind_of t =
        ap kind_of (type_there i.variables x a.0 a.1) ∙ alike_kinds t (a.0).ty a.2 in
        let r : IsRead m f (code.Variable (kind_of (slice_index_or types x Int)) x) =
        subst (λ k. IsRead m f (code.Variable k x)) (sym e) (read_local m f i t x w (left _ _ h)) in
        (r, e, values t xs (right _ _ h))

    declaring : (xs : List ℕ) (e : Option typed.Expr) → part.declares i xs e ≡ true
        → Plain m f [] (sets (map (local types) xs) (declared_value types e) (leaf (declared_value types e)))
    declaring xs None h = setting_zero (map (local types) xs) (zeros xs h)
    declaring xs (Some e) h =
        setting (kind_of (type_of e)) (map (local types) xs) (term_of e) (term e (left _ _ h)) (values (type_of e) xs (right _ _ h))

    -- ---- expressions that stand alone, and conditions

    done_plain : (e : typed.Expr) → part.is_expr i e ≡ true → Plain m f [] (done (evaluated e))
    done_plain e h = subst (λ s. Plain m f [] (done s)) (sym (is_evaluated i e h)) ((term e h).effects [])

    acting : (e : typed.Expr) → part.is_action i e ≡ true → Plain m f [] (done (evaluated e))
    acting e h = go (one_holds (not (part.is_none (part.loads i.system e))) (part.is_expr i e) h)
      where
        go : (not (part.is_none (part.loads i.system e)) ≡ true) ⊎ (part.is_expr i e ≡ true) → Plain m f [] (done (evaluated e))
        go (inl a) = subst (Plain m f []) (sym (load_none i.system e a)) (none m f No [])
        go (inr b) = done_plain e b

    optional_plain : (e : Option typed.Expr) → part.is_value i e ≡ true → Plain m f [] (lower.optional e)
    optional_plain None h = none m f No []
    optional_plain (Some e) h = done_plain e h

    testing : (e : Option typed.Expr) → part.is_test i e ≡ true → Tests (condition e)
    testing None h n = none m f (Passing m f [] n) []
    testing (Some e) h n = (term e (left _ _ h)).part.branches [] false 0 n

    returning : (xs : List Around) (e : Option typed.Expr) → part.returns i e ≡ true → ProperStmt xs (returned e)
    returning xs None h = single m f (Exits xs) [] Leave (λ pc g k. refl)
    returning xs (Some e) h =
        let k = kind_of (type_of e) in
        let x = ready 0 (part_of (term_of e)) in
        let r : ProperReady m f k x = part_ready m f 0 k (part_of (term_of e)) (term e (left _ _ h)).part in
        let same : k ≡ f.answer = sym (w.answer ∙ alike_kinds (type_of e) i.answer (right _ _ h)) in
        of_one m f (Exits xs) [] [] k x Return r
        (single m f (Exits xs) [] (Return x.operand) (λ pc g q. (taken_as m f k f.answer x.operand same r.taken, refl)))

    -- ---- statements

    within : (xs : List Around) (k : ℕ) (ss : typed.Stmts) → k ≡ length xs → part.are_stmts i k ss ≡ true
        → part.are_stmts i (length xs) ss ≡ true
    within xs k ss e h = subst (λ j. part.are_stmts i j ss ≡ true) e h

    mutual
      stmt_proper : (s : typed.Stmt) (xs : List Around) → part.is_stmt i (length xs) s ≡ true → ProperStmt xs (stmt_code types xs s)
      stmt_proper typed.Empty xs h = none m f (Exits xs) []
      stmt_proper (typed.Block ss) xs h = stmts_proper ss xs h
      stmt_proper (typed.Declare ns e) xs h = from_plain xs _ (declaring ns e h)
      stmt_proper (typed.Eval e) xs h = from_plain xs _ (acting e h)
      stmt_proper (typed.If c ss others) xs h =
          let o = stmts_code types xs others in
          let ys = further (passed o) xs in
          let t = term c (left _ _ (left _ _ (left _ _ h))) in
          choosing xs (term_of c) (stmts_code types ys ss) o (λ n. t.part.branches [] false 0 n)
          (stmts_proper ss ys (within ys (length xs) ss (sym (further_many (passed o) xs)) (right _ _ (left _ _ h))))
          (stmts_proper others xs (right _ _ h))
      stmt_proper (typed.While c ss) xs h =
          let ys = inside [] xs in
          looping xs c [] (stmts_code types ys ss) (testing c (left _ _ h)) (none m f No [])
          (stmts_proper ss ys (within ys (suc (length xs)) ss (ap suc (sym (further_many 1 xs))) (right _ _ h)))
      stmt_proper (typed.Do ss c) xs h =
          let t = condition c 1 in
          let ys = inside t xs in
          doing xs t (stmts_code types ys ss) (testing c (right _ _ h) 1)
          (stmts_proper ss ys (within ys (suc (length xs)) ss (ap suc (sym (further_many (suc (length t)) xs))) (left _ _ h)))
      stmt_proper (typed.For first c n ss) xs h =
          let t = lower.optional n in
          let ys = inside t xs in
          let l = while_loop c t (stmts_code types ys ss) in
          then_more xs (lower.optional first) l
          (from_plain (further (length l) xs) (lower.optional first) (optional_plain first (left _ _ (left _ _ (left _ _ h)))))
          (looping xs c t (stmts_code types ys ss) (testing c (right _ _ (left _ _ (left _ _ h))))
          (optional_plain n (right _ _ (left _ _ h)))
          (stmts_proper ss ys (within ys (suc (length xs)) ss (ap suc (sym (further_many (suc (length t)) xs))) (right _ _ h))))
      stmt_proper (typed.Break n) xs h =
          single m f (Exits xs) [] (Jump (around_at xs n).end)
          (λ pc g k. (k n (around_at xs n) (one_there xs n (less n (length xs) h))).1)
      stmt_proper (typed.Continue n) xs h =
          single m f (Exits xs) [] (Jump (around_at xs n).turn)
          (λ pc g k. (k n (around_at xs n) (one_there xs n (less n (length xs) h))).0)
      stmt_proper (typed.Return e) xs h = returning xs e h
      stmt_proper _ xs h = absurd (false≢true h)

      pub stmts_proper : (ss : typed.Stmts) (xs : List Around) → part.are_stmts i (length xs) ss ≡ true
          → ProperStmt xs (stmts_code types xs ss)
      stmts_proper typed.NoStmts xs h = none m f (Exits xs) []
      stmts_proper (typed.MoreStmts s ss) xs h =
          let r = stmts_code types xs ss in
          let ys = further (length r) xs in
          then_more xs (stmt_code types ys s) r
          (stmt_proper s ys (subst (λ n. part.is_stmt i n s ≡ true) (sym (further_many (length r) xs)) (left _ _ h)))
          (stmts_proper ss xs (right _ _ h))
