-- The frames of functions of the part have a bound.
use Rattle.std.proofs.Common.{◌≡◌, ℕ, zero, suc, ◌+◌, ◌-◌, ◌*◌, ◌≤◌, pos, true, false, ◌⊎◌, inl, inr, List, [], ◌∷◌, ◌++◌}
use Rattle.std.proofs.Common.{length, map, Option, Some, None, refl, sym, ap, ◌∙◌, subst, arith}
use Rattle.std.specs.Prelude.{not}
use Rattle.std.specs.Int.{next_multiple_of}
use Rattle.std.proofs.lemmas.Bool.{false≢true}
use Rattle.limbo_types.specs.Types.{Ty, Int}
use Rattle.limbo_values.specs.declared.number.Kind.{Kind}
use Rattle.limbo_values.specs.declared.number.Kind.TheVariants as kind
use Rattle.limbo_typed.specs.Typed as typed
use Rattle.limbo_typed.specs.Typed.{Of}
use Rattle.system_model.specs.Values.{Num, zero_value}
use Rattle.typed_meaning.specs.Trees as tree
use Rattle.typed_meaning.specs.Trees.{Place, Term, Literal}
use Rattle.typed_meaning.specs.Program.{term_of, evaluated, local, declared_value}
use Rattle.slot_code.specs.Layout.{end_of}
use Rattle.slot_code.specs.Code.{Temporary, Operand, In, Number, Inst, Move, Jump, Back, Return, Leave, Function, Module}
use Rattle.dis_objects.specs.Frames.{spot_count, operand_count, count, most_bytes, whole, room_from, room_of}
use Rattle.typed_lower.specs.Kinds.{spot_of, leaf, kind_in}
use Rattle.typed_lower.specs.Terms.{part_of, branches, ready}
use Rattle.typed_lower.specs.Statements as lower
use Rattle.typed_lower.specs.Statements.{Around, around_at, further, done, condition, moves, sets, either, passed, inside, while_loop}
use Rattle.typed_lower.specs.Statements.{do_loop}
use Rattle.typed_lower.specs.Statements.{returned, stmt_code, stmts_code, function_code, functions_code, module_code}
use Rattle.typed_part.specs.Part as part
use Rattle.typed_part.specs.Part.{Inside}
use Rattle.typed_part.proofs.Tests.{left, right, one_holds}
use Rattle.part_code.proofs.Counted.{expr_places, optional_places, stmt_places, stmts_places}
use Rattle.part_code.specs.Laws.{FramesFit, InstructionsHeld, ArgumentsFew}
use Rattle.typed_lower.specs.Sizes.{frame_size, stmts_size}
use Rattle.part_code.proofs.Weighing.{stmts_weighed}
use Rattle.part_code.proofs.Held.{Held, held_both, held_none, held_one}
use Rattle.part_code.proofs.Fitting.{Prepared, temporary_count, moved, one_held, ready_prepared}
use Rattle.part_code.proofs.Bounds.{FitsTerm, fixed_place, expr_fits}
use Rattle.part_code.proofs.Expressions.{Knows}
use Rattle.part_code.proofs.Statements.{is_evaluated, load_none}
use Rattle.part_code.proofs.Functions.{each_function, known}

fixed_spot : (p : Place) (k : Kind) → spot_count k (spot_of p) ≤ 0
fixed_spot (tree.At t n) k = fixed_place t n k

module _ (m : Module) (f : Function) (i : Inside) (know : Knows m f i) (T L : ℕ) (enough : 8 * T ≤ L + 8) where
  abbrev Has : List Inst → Type 0
  Has is = Held m.functions T L [] [] is

  nothing : Has []
  nothing = held_none m.functions T L [] (omega arith)

  both : (a b : List Inst) → Has a → Has b → Has (a ++ b)
  both a b x y = held_both m.functions T L [] [] [] a b x y

  jumps : (n : ℕ) → Has (Jump n ∷ [])
  jumps n = held_one m.functions T L [] (Jump n) tt (λ k. omega arith) (omega arith) (omega arith)

  goes_back : (n : ℕ) → Has (Back n ∷ [])
  goes_back n = held_one m.functions T L [] (Back n) tt (λ k. omega arith) (omega arith) (omega arith)

  leaves : Has (Leave ∷ [])
  leaves = held_one m.functions T L [] Leave tt (λ k. omega arith) (omega arith) (omega arith)

  moving : (ps : List Place) (x : Operand) → ((k : Kind) → operand_count k x ≤ T) → Has (moves ps x)
  moving [] x h = nothing
  moving (p ∷ ps) x h =
      both (Move (spot_of p) x ∷ []) (moves ps x)
      (moved m.functions T L [] (spot_of p) x (λ k. let z = fixed_spot p k in omega (arith, z)) h (omega arith)) (moving ps x h)

  setting_zero : (ps : List Place) → Has (sets ps (Literal Int zero_value) (leaf (Literal Int zero_value)))
  setting_zero [] = nothing
  setting_zero (p ∷ []) = moving (p ∷ []) (Number (pos 0)) (λ k. omega arith)
  setting_zero (p ∷ q ∷ ps) = moving (p ∷ q ∷ ps) (Number (pos 0)) (λ k. omega arith)

  setting : (w : ℕ) (ps : List Place) (t : Term) → FitsTerm m.functions w t → w ≤ T → Has (sets ps t (leaf t))
  setting w (p ∷ []) t h l =
      h.part.value [] 0 (spot_of p) T L (omega (arith, l)) (λ k. let z = fixed_spot p k in omega (arith, z)) (omega (arith, l, enough))
  setting w [] (Literal ty (Num z)) h l = nothing
  setting w (p ∷ q ∷ ps) (Literal ty (Num z)) h l = moving (p ∷ q ∷ ps) (Number z) (λ k. omega arith)
  setting w ps t h l =
      let s = h.part.some in
      let c : (k : Kind) → spot_count k (Temporary (kind_in t) 0) ≤ T = λ k. temporary_count k (kind_in t) 0 T (omega (arith, l, s)) in
      both ((part_of t).value 1 (Temporary (kind_in t) 0)) (moves ps (In (Temporary (kind_in t) 0)))
      (h.part.value [] 1 (Temporary (kind_in t) 0) T L (omega (arith, l)) c (omega (arith, l, enough)))
      (moving ps (In (Temporary (kind_in t) 0)) c)

  declaring : (types : List Ty) (xs : List ℕ) (e : Option typed.Expr) → part.declares i xs e ≡ true → optional_places e ≤ T
      → Has (sets (map (local types) xs) (declared_value types e) (leaf (declared_value types e)))
  declaring types xs None h l = setting_zero (map (local types) xs)
  declaring types xs (Some e) h l =
      setting (expr_places e) (map (local types) xs) (term_of e) (expr_fits m f i know e (left _ _ h)) l

  done_has : (e : typed.Expr) → part.is_expr i e ≡ true → expr_places e ≤ T → Has (done (evaluated e))
  done_has e h l =
      subst (λ s. Has (done s)) (sym (is_evaluated i e h)) ((expr_fits m f i know e h).effects [] T L l (omega (arith, l, enough)))

  acting : (e : typed.Expr) → part.is_action i e ≡ true → expr_places e ≤ T → Has (done (evaluated e))
  acting e h l = go (one_holds (not (part.is_none (part.loads i.system e))) (part.is_expr i e) h)
    where
      go : (not (part.is_none (part.loads i.system e)) ≡ true) ⊎ (part.is_expr i e ≡ true) → Has (done (evaluated e))
      go (inl a) = subst Has (sym (load_none i.system e a)) nothing
      go (inr b) = done_has e b l

  optional_has : (e : Option typed.Expr) → part.is_value i e ≡ true → optional_places e ≤ T → Has (lower.optional e)
  optional_has None h l = nothing
  optional_has (Some e) h l = done_has e h l

  testing : (e : typed.Expr) → part.is_expr i e ≡ true → expr_places e ≤ T → (n : ℕ) → Has (branches false 0 (term_of e) n)
  testing e h l n = (expr_fits m f i know e h).part.branches [] false 0 n T L (omega (arith, l)) (omega (arith, l, enough))

  condition_has : (e : Option typed.Expr) → part.is_test i e ≡ true → optional_places e ≤ T → (n : ℕ) → Has (condition e n)
  condition_has None h l n = nothing
  condition_has (Some e) h l n = testing e (left _ _ h) l n

  returning : (e : Option typed.Expr) → part.returns i e ≡ true → optional_places e ≤ T → Has (returned e)
  returning None h l = leaves
  returning (Some e) h l =
      let p = (expr_fits m f i know e (left _ _ h)).part in
      let q = part_of (term_of e) in
      let x = ready 0 q in
      let r : Prepared m.functions T L [] x =
      ready_prepared m.functions T L [] 0 (expr_places e) q.kind q.leaf q.value p.leaf p.value p.some (omega (arith, l)) (omega
      (arith, l, enough))
      in
      one_held m.functions T L [] [] x Return r (held_one m.functions T L [] (Return x.operand) tt r.operand (omega arith) (omega arith))

  choosing : (t : Term) (a o : List Inst) → ((n : ℕ) → Has (branches false 0 t n)) → Has a → Has o → Has (either t a o)
  choosing t a [] b x y = both (branches false 0 t (length a)) a (b (length a)) x
  choosing t a (j ∷ js) b x y =
      let c = branches false 0 t (suc (length a)) in
      both (c ++ a) (Jump (length (j ∷ js)) ∷ j ∷ js) (both c a (b (suc (length a))) x)
      (both (Jump (length (j ∷ js)) ∷ []) (j ∷ js) (jumps (length (j ∷ js))) y)

  looping : (c : Option typed.Expr) (next body : List Inst) → ((n : ℕ) → Has (condition c n)) → Has next → Has body
      → Has (while_loop c next body)
  looping c next body t x y =
      let a = condition c (suc (length body + length next)) in
      both (a ++ body ++ next) (Back (length a + length body + length next) ∷ [])
      (both (a ++ body) next (both a body (t (suc (length body + length next))) y) x) (goes_back (length a + length body + length next))

  doing : (test body : List Inst) → Has test → Has body → Has (do_loop test body)
  doing test body x y =
      both (body ++ test) (Back (length body + length test) ∷ []) (both body test y x) (goes_back (length body + length test))

  module _ (types : List Ty) where
    mutual
      stmt_has : (s : typed.Stmt) (n : ℕ) (xs : List Around) → part.is_stmt i n s ≡ true → stmt_places s ≤ T → Has (stmt_code types xs s)
      stmt_has typed.Empty n xs h l = nothing
      stmt_has (typed.Block ss) n xs h l = stmts_have ss n xs h l
      stmt_has (typed.Declare ns e) n xs h l = declaring types ns e h l
      stmt_has (typed.Eval e) n xs h l = acting e h l
      stmt_has (typed.If c ss others) n xs h l =
          choosing (term_of c) (stmts_code types (further (passed (stmts_code types xs others)) xs) ss) (stmts_code types xs others)
          (testing c (left _ _ (left _ _ (left _ _ h))) (omega (arith, l))) (stmts_have ss n _ (right _ _ (left _ _ h)) (omega (arith, l)))
          (stmts_have others n xs (right _ _ h) (omega (arith, l)))
      stmt_has (typed.While c ss) n xs h l =
          looping c [] (stmts_code types (inside [] xs) ss) (condition_has c (left _ _ h) (omega (arith, l))) nothing
          (stmts_have ss (suc n) (inside [] xs) (right _ _ h) (omega (arith, l)))
      stmt_has (typed.Do ss c) n xs h l =
          doing (condition c 1) (stmts_code types (inside (condition c 1) xs) ss) (condition_has c (right _ _ h) (omega (arith, l)) 1)
          (stmts_have ss (suc n) (inside (condition c 1) xs) (left _ _ h) (omega (arith, l)))
      stmt_has (typed.For first c next ss) n xs h l =
          let t = lower.optional next in
          both (lower.optional first) (while_loop c t (stmts_code types (inside t xs) ss))
          (optional_has first (left _ _ (left _ _ (left _ _ h))) (omega (arith, l)))
          (looping c t (stmts_code types (inside t xs) ss) (condition_has c (right _ _ (left _ _ (left _ _ h))) (omega (arith, l)))
          (optional_has next (right _ _ (left _ _ h)) (omega (arith, l)))
          (stmts_have ss (suc n) (inside t xs) (right _ _ h) (omega (arith, l))))
      stmt_has (typed.Break k) n xs h l = jumps (around_at xs k).end
      stmt_has (typed.Continue k) n xs h l = jumps (around_at xs k).turn
      stmt_has (typed.Return e) n xs h l = returning e h l
      stmt_has _ n xs h l = absurd (false≢true h)

      stmts_have : (ss : typed.Stmts) (n : ℕ) (xs : List Around) → part.are_stmts i n ss ≡ true → stmts_places ss ≤ T
          → Has (stmts_code types xs ss)
      stmts_have typed.NoStmts n xs h l = nothing
      stmts_have (typed.MoreStmts s ss) n xs h l =
          both (stmt_code types (further (length (stmts_code types xs ss)) xs) s) (stmts_code types xs ss)
          (stmt_has s n _ (left _ _ h) (omega (arith, l))) (stmts_have ss n xs (right _ _ h) (omega (arith, l)))

    body_has : (ss : typed.Stmts) → part.are_stmts i 0 ss ≡ true → stmts_places ss ≤ T → Has (stmts_code types [] ss ++ Leave ∷ [])
    body_has ss h l = both (stmts_code types [] ss) (Leave ∷ []) (stmts_have ss 0 [] h l) leaves

-- ---- frames

-- Behind the linkage variables stand as they stand from 0 on.
end_behind : (from : ℕ) (ks : List (Option Kind)) → end_of (32 + from) ks ≡ 32 + end_of from ks
end_behind from [] = refl
end_behind from (None ∷ ks) =
    let e : next_multiple_of (32 + from) 4 + 4 ≡ 32 + (next_multiple_of from 4 + 4) = omega arith in
    ap (λ n. end_of n ks) e ∙ end_behind (next_multiple_of from 4 + 4) ks
end_behind from (Some kind.Byte ∷ ks) =
    let e : next_multiple_of (32 + from) 1 + 1 ≡ 32 + (next_multiple_of from 1 + 1) = omega arith in
    ap (λ n. end_of n ks) e ∙ end_behind (next_multiple_of from 1 + 1) ks
end_behind from (Some kind.Int ∷ ks) =
    let e : next_multiple_of (32 + from) 4 + 4 ≡ 32 + (next_multiple_of from 4 + 4) = omega arith in
    ap (λ n. end_of n ks) e ∙ end_behind (next_multiple_of from 4 + 4) ks
end_behind from (Some kind.Big ∷ ks) =
    let e : next_multiple_of (32 + from) 8 + 8 ≡ 32 + (next_multiple_of from 8 + 8) = omega arith in
    ap (λ n. end_of n ks) e ∙ end_behind (next_multiple_of from 8 + 8) ks

-- the sum, where there are so many places
room_most : (j e bigs ints bytes arguments r : ℕ) → bigs ≤ j → ints ≤ j → bytes ≤ j → arguments ≤ 8 * j - 8 → 24 * j ≤ r + 8
    → (room_from (whole (32 + e)) bigs ints bytes arguments).size ≤ 40 + e + r
room_most zero e bigs ints bytes arguments r a b c d w = omega (arith, a, b, c, d, w)
room_most (suc j) e bigs ints bytes arguments r a b c d w = omega (arith, a, b, c, d, w)

-- What the code of a function needs.
body_held : (m : typed.Module) → part.is_part m ≡ true → (f : typed.Function) → part.are_stmts (part.inside m f) 0 f.body ≡ true
    → Held (functions_code m) (stmts_places f.body) (8 * stmts_places f.body - 8) [] [] (function_code f).code
body_held m h f its =
    let j = stmts_places f.body in
    body_has (module_code m) (function_code f) (part.inside m f) (known m h f) j (8 * j - 8) (omega arith)
    (map (λ v. v.ty) f.variables) f.body its (omega arith)

frame_fits : (m : typed.Module) → part.is_part m ≡ true → (f : typed.Function) → part.are_stmts (part.inside m f) 0 f.body ≡ true
    → (room_of (functions_code m) (function_code f)).size ≤ frame_size f
frame_fits m h f its =
    let fs = functions_code m in
    let g = function_code f in
    let j = stmts_places f.body in
    let x : Held fs j (8 * j - 8) [] [] g.code = body_held m h f its in
    subst (λ k.
    (room_from (whole k) (count kind.Big g.code) (count kind.Int g.code) (count kind.Byte g.code) (most_bytes fs [] g.code)).size
    ≤ frame_size f) (sym (end_behind 0 g.variables))
    (room_most j (end_of 0 g.variables) (count kind.Big g.code) (count kind.Int g.code) (count kind.Byte g.code) (most_bytes fs [] g.code)
    (stmts_size f.body) (x.temporaries kind.Big) (x.temporaries kind.Int) (x.temporaries kind.Byte) x.bytes
    (stmts_weighed (part.inside m f) 0 f.body its))

pub frames_fit : FramesFit
frames_fit m h n f e = frame_fits m h f (right _ _ (each_function m h n f e))

pub instructions_held : InstructionsHeld
instructions_held m h n f e = (body_held m h f (right _ _ (each_function m h n f e))).held

few_most : (j b r v : ℕ) → b ≤ 8 * j - 8 → 24 * j ≤ r + 8 → 3 * b ≤ 40 + v + r
few_most j b r v x y = omega (arith, x, y)

pub arguments_few : ArgumentsFew
arguments_few m h n f e =
    let its = right _ _ (each_function m h n f e) in
    few_most (stmts_places f.body) (most_bytes (functions_code m) [] (function_code f).code) (stmts_size f.body)
    (end_of 0 (function_code f).variables) (body_held m h f its).bytes (stmts_weighed (part.inside m f) 0 f.body its)
