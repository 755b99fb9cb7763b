-- What the code of expressions needs of its readers: budgets that are used up and that are not, lists, and loops.
use Rattle.std.proofs.Common.{◌≡◌, ℕ, zero, suc, ◌+◌, ◌-◌, ◌≤◌, ◌<◌, true, false, List, [], ◌∷◌, ◌++◌, map, length, max, Some, None, Ok, Err, refl, ap, ◌∙◌, arith}
use Rattle.std.specs.Prelude.{nat_lt}
use Rattle.std.proofs.lemmas.Bool.{lt-ltb, le-ltb}
use Rattle.limbo_lexer.specs.declared.token.Kind.{Kind}
use Rattle.limbo_tree.specs.declared.operators.AssignOp.{AssignOp}
use Rattle.limbo_tree.specs.declared.operators.BinaryOp.{BinaryOp}
use Rattle.limbo_tree.specs.declared.expr.Expr as code_expr
use Rattle.limbo_tree.specs.declared.expr.Init as code_init
use Rattle.limbo_tree.specs.Exprs.{Expr, Init, Binary, nesting, exprs_nesting, init_nesting, inits_nesting, right_level}
use Rattle.limbo_tree.specs.View.{view_expr, view_init, exprs_of, inits_of}
use Rattle.limbo_reading.specs.declared.fault.Fault.TheVariants.{TooDeep}
use Rattle.limbo_reading.specs.declared.fault.ReadError.{ReadError}
use Rattle.limbo_reading.specs.Reading.{Fails}
use Rattle.limbo_reading.proofs.Steps.{kept_shorter, fails_same, fails_bind}
use Rattle.limbo_expr_parts.specs.Strength.{strength}
use Rattle.limbo_expr_parts.specs.Operators.{op_within, after_load, assign_after}
use Rattle.limbo_expr_parts.specs.Parts.{after_comma_inside}
use Rattle.limbo_expr_parser.specs.Exprs.{Readers, init_at, primary, one_behind, postfix, postfixed, unary, climb, load_at, chain, assigned, expr, step, readers}
use Rattle.limbo_expr_parts.proofs.Steps.{took_is}
use Rattle.limbo_expr_parser.proofs.Shapes.{nesting_pos}
use Rattle.limbo_expr_parser.proofs.Sound.{one_behind_deeper, comma_inside_is}
use Rattle.limbo_expr_parser.proofs.Places.{keeping, init_keeps}

-- ---- budgets

pub expr_used : (n : ℕ) (ts : List Kind) → n ≡ 0 → (readers n).expr ts ≡ Err (TooDeep (length ts))
unfolding readers
expr_used zero ts h = refl
expr_used (suc n) ts h = absurd (omega arith)

pub expr_left : (n : ℕ) (ts : List Kind) → (n ≡ 0 → ⊥) → (readers n).expr ts ≡ expr (readers (n - 1)) (n - 1) ts
unfolding readers step
expr_left zero ts h = absurd (h refl)
expr_left (suc n) ts h = let e : suc n - 1 ≡ n = omega arith in rw e refl

pub chain_used : (n k : ℕ) (ts : List Kind) → n ≡ 0 → (readers n).chain k ts ≡ Err (TooDeep (length ts))
unfolding readers
chain_used zero k ts h = refl
chain_used (suc n) k ts h = absurd (omega arith)

pub chain_left : (n k : ℕ) (ts : List Kind) → (n ≡ 0 → ⊥) → (readers n).chain k ts ≡ chain (readers (n - 1)) (n - 1) k ts
unfolding readers step
chain_left zero k ts h = absurd (h refl)
chain_left (suc n) k ts h = let e : suc n - 1 ≡ n = omega arith in rw e refl

pub ruleset the_budget = (expr_used, expr_left, chain_used, chain_left)

-- ---- how many tokens are left

pub expr_shorter : (n : ℕ) (ts : List Kind) (e : Expr) (us : List Kind) → (readers n).expr ts ≡ Ok (e, us) → length us < length ts
expr_shorter n ts e us h = omega (arith, kept_shorter n 1 (length ts) ((readers n).expr ts) e us ((keeping n).expr ts) h)

pub chain_shorter : (n k : ℕ) (ts : List Kind) (e : Expr) (us : List Kind) → (readers n).chain k ts ≡ Ok (e, us) → length us < length ts
chain_shorter n k ts e us h = omega (arith, kept_shorter n 1 (length ts) ((readers n).chain k ts) e us ((keeping n).chain k ts) h)

pub init_shorter : (n : ℕ) (ts : List Kind) (i : Init) (us : List Kind) → init_at (readers n) ts ≡ Ok (i, us) → length us < length ts
init_shorter n ts i us h = omega (arith, kept_shorter n 1 (length ts) (init_at (readers n) ts) i us (init_keeps (readers n) n (keeping n) ts) h)

pub comma_shorter : (ts us : List Kind) → after_comma_inside ts ≡ Some us → length us < length ts
comma_shorter ts us e = omega (arith, ap length (comma_inside_is ts us e))

-- ---- how deep lists nest

abbrev pub exprs_size : List code_expr.Expr → ℕ
exprs_size xs = exprs_nesting (exprs_of (map view_expr xs))

pub exprs_one : (x : code_expr.Expr) → exprs_size (x ∷ []) ≡ nesting (view_expr x)
exprs_one x = omega arith

pub exprs_more : (xs : List code_expr.Expr) (x : code_expr.Expr) → exprs_size (xs ++ (x ∷ [])) ≡ max (exprs_size xs) (nesting (view_expr x))
exprs_more [] x = omega arith
exprs_more (y ∷ ys) x = omega (arith, exprs_more ys x)

abbrev pub inits_size : List code_init.Init → ℕ
inits_size xs = inits_nesting (inits_of (map view_init xs))

pub inits_one : (x : code_init.Init) → inits_size (x ∷ []) ≡ init_nesting (view_init x)
inits_one x = omega arith

pub inits_more : (xs : List code_init.Init) (x : code_init.Init) → inits_size (xs ++ (x ∷ [])) ≡ max (inits_size xs) (init_nesting (view_init x))
inits_more [] x = omega arith
inits_more (y ∷ ys) x = omega (arith, inits_more ys x)

-- ---- operators: the tree so far, and what is left to read

pub record Chained (inner level : ℕ) (tokens : List Kind) (left : Expr) (size : ℕ) (rest : List Kind) : Type 0 where
  pub fuel : ℕ
  pub enough : inner + 1 < fuel + size
  pub same_size : size ≡ nesting left
  pub within : size ≤ inner + 1
  pub read : chain (readers inner) inner level tokens ≡ climb (readers inner) inner level fuel left rest

pub chained_start : (inner level : ℕ) (tokens : List Kind) (left : Expr) (size : ℕ) (rest : List Kind) → after_load level tokens ≡ None → size ≡ nesting left → size ≤ inner + 1
    → unary (readers inner) inner tokens ≡ Ok (left, rest) → Chained inner level tokens left size rest
unfolding chain
chained_start inner level tokens left size rest n s w h = record { fuel = suc inner; enough = omega (arith, nesting_pos left); same_size = s; within = w; read = rw (n, h) refl }

pub chain_fails : (e : ReadError) (inner level : ℕ) (tokens : List Kind) → after_load level tokens ≡ None → Fails e (unary (readers inner) inner tokens) → Fails e (chain (readers inner) inner level tokens)
unfolding chain
chain_fails e inner level tokens n f = rw n (fails_bind e (unary (readers inner) inner tokens) _ f)

climb_more : (inner level fuel : ℕ) (left : Expr) (rest : List Kind) (o : BinaryOp) (behind : List Kind) (right : Expr) (after' : List Kind)
    → op_within level rest ≡ Some (o, behind) → nesting left ≤ inner → (readers inner).chain (right_level o) behind ≡ Ok (right, after')
    → climb (readers inner) inner level (suc fuel) left rest ≡ climb (readers inner) inner level fuel (Binary o left right) after'
unfolding climb
climb_more inner level fuel left rest o behind right after' h d e = rw (h, le-ltb inner (nesting left) d, e) refl

pub chained_more : (inner level : ℕ) (tokens : List Kind) (left : Expr) (size : ℕ) (rest : List Kind) (o : BinaryOp) (behind : List Kind) (right : Expr) (right_size : ℕ) (after' : List Kind)
    → op_within level rest ≡ Some (o, behind) → size ≤ inner → right_size ≡ nesting right → right_size ≤ inner → (readers inner).chain (right_level o) behind ≡ Ok (right, after')
    → Chained inner level tokens left size rest → Chained inner level tokens (Binary o left right) (1 + max size right_size) after'
chained_more inner level tokens left size rest o behind right right_size after' h d rs rw' e state = go state.fuel state.enough state.read
  where
    go : (fuel : ℕ) → inner + 1 < fuel + size → chain (readers inner) inner level tokens ≡ climb (readers inner) inner level fuel left rest → Chained inner level tokens (Binary o left right) (1 + max size right_size) after'
    go zero k read = absurd (omega arith)
    go (suc fuel) k read =
        let same : size ≡ nesting left = state.same_size in
        record {
          fuel = fuel;
          enough = omega arith;
          same_size = rw (same, rs) refl;
          within = omega arith;
          read = read ∙ climb_more inner level fuel left rest o behind right after' h (omega arith) e;
        }

climb_end : (r : Readers) (inner level fuel : ℕ) (left : Expr) (rest : List Kind) → op_within level rest ≡ None → climb r inner level fuel left rest ≡ Ok (left, rest)
unfolding climb
climb_end r inner level zero left rest h = rw h refl
climb_end r inner level (suc fuel) left rest h = rw h refl

pub chained_end : (inner level : ℕ) (tokens : List Kind) (left : Expr) (size : ℕ) (rest : List Kind) → op_within level rest ≡ None → Chained inner level tokens left size rest
    → chain (readers inner) inner level tokens ≡ Ok (left, rest)
chained_end inner level tokens left size rest h state = state.read ∙ climb_end (readers inner) inner level state.fuel left rest h

climb_deep : (r : Readers) (inner level fuel : ℕ) (left : Expr) (rest : List Kind) (o : BinaryOp × List Kind) → op_within level rest ≡ Some o → inner < nesting left
    → climb r inner level fuel left rest ≡ Err (TooDeep (length rest))
unfolding climb
climb_deep r inner level zero left rest o h d = rw h refl
climb_deep r inner level (suc fuel) left rest o h d = rw (h, lt-ltb inner (nesting left) d) refl

pub chained_deep : (inner level : ℕ) (tokens : List Kind) (left : Expr) (size : ℕ) (rest : List Kind) (o : BinaryOp × List Kind) → op_within level rest ≡ Some o → inner < size
    → Chained inner level tokens left size rest → chain (readers inner) inner level tokens ≡ Err (TooDeep (length rest))
chained_deep inner level tokens left size rest o h d state =
    let same : size ≡ nesting left = state.same_size in
    state.read ∙ climb_deep (readers inner) inner level state.fuel left rest o h (omega arith)

climb_fails : (e : ReadError) (r : Readers) (inner level fuel : ℕ) (left : Expr) (rest : List Kind) (o : BinaryOp) (behind : List Kind) → op_within level rest ≡ Some (o, behind) → nesting left ≤ inner
    → Fails e (r.chain (right_level o) behind) → Fails e (climb r inner level (suc fuel) left rest)
unfolding climb
climb_fails e r inner level fuel left rest o behind h d f = rw (h, le-ltb inner (nesting left) d) (fails_bind e (r.chain (right_level o) behind) (λ x. climb r inner level fuel (Binary o left x.0) x.1) f)

pub chained_fails : (e : ReadError) (inner level : ℕ) (tokens : List Kind) (left : Expr) (size : ℕ) (rest : List Kind) (o : BinaryOp) (behind : List Kind) → op_within level rest ≡ Some (o, behind) → size ≤ inner
    → Fails e ((readers inner).chain (right_level o) behind) → Chained inner level tokens left size rest → Fails e (chain (readers inner) inner level tokens)
chained_fails e inner level tokens left size rest o behind h d f state = go state.fuel state.enough state.read
  where
    go : (fuel : ℕ) → inner + 1 < fuel + size → chain (readers inner) inner level tokens ≡ climb (readers inner) inner level fuel left rest → Fails e (chain (readers inner) inner level tokens)
    go zero k read = absurd (omega arith)
    go (suc fuel) k read =
        let same : size ≡ nesting left = state.same_size in
        fails_same e _ _ read (climb_fails e (readers inner) inner level fuel left rest o behind h (omega arith) f)

-- ---- what stands behind a postfix

pub record Postfixed (inner : ℕ) (tokens : List Kind) (f : Expr) (size : ℕ) (rest : List Kind) : Type 0 where
  pub fuel : ℕ
  pub enough : inner + 1 < fuel + size
  pub same_size : size ≡ nesting f
  pub within : size ≤ inner + 1
  pub read : postfixed (readers inner) inner tokens ≡ postfix (readers inner) inner fuel f rest

pub postfixed_start : (inner : ℕ) (tokens : List Kind) (f : Expr) (size : ℕ) (rest : List Kind) → size ≡ nesting f → size ≤ inner + 1
    → primary (readers inner) tokens ≡ Ok (f, rest) → Postfixed inner tokens f size rest
unfolding postfixed
postfixed_start inner tokens f size rest s w h = record { fuel = suc inner; enough = omega (arith, nesting_pos f); same_size = s; within = w; read = rw h refl }

pub postfixed_fails_first : (e : ReadError) (inner : ℕ) (tokens : List Kind) → Fails e (primary (readers inner) tokens) → Fails e (postfixed (readers inner) inner tokens)
unfolding postfixed
postfixed_fails_first e inner tokens f = fails_bind e (primary (readers inner) tokens) _ f

postfix_more : (inner n : ℕ) (f : Expr) (rest : List Kind) (g : Expr) (behind : List Kind) → nat_lt 0 (strength rest) ≡ false → nesting f ≤ inner → one_behind (readers inner) f rest ≡ Ok (g, behind)
    → postfix (readers inner) inner (suc n) f rest ≡ postfix (readers inner) inner n g behind
unfolding postfix
postfix_more inner n f rest g behind s d e = rw (s, le-ltb inner (nesting f) d, e) refl

pub postfixed_more : (inner : ℕ) (tokens : List Kind) (f : Expr) (size : ℕ) (rest : List Kind) (g : Expr) (g_size : ℕ) (behind : List Kind)
    → nat_lt 0 (strength rest) ≡ false → size ≤ inner → g_size ≡ nesting g → g_size ≤ inner + 1 → one_behind (readers inner) f rest ≡ Ok (g, behind)
    → Postfixed inner tokens f size rest → Postfixed inner tokens g g_size behind
postfixed_more inner tokens f size rest g g_size behind z d s w e state = go state.fuel state.enough state.read
  where
    go : (fuel : ℕ) → inner + 1 < fuel + size → postfixed (readers inner) inner tokens ≡ postfix (readers inner) inner fuel f rest → Postfixed inner tokens g g_size behind
    go zero k read = absurd (omega arith)
    go (suc n) k read =
        let same : size ≡ nesting f = state.same_size in
        let up : suc (nesting f) ≤ nesting g = took_is (one_behind (readers inner) f rest) (λ x. suc (nesting f) ≤ nesting x.0) (g, behind) (one_behind_deeper (readers inner) f rest) e in
        record { fuel = n; enough = omega arith; same_size = s; within = w; read = read ∙ postfix_more inner n f rest g behind z (omega arith) e }

-- each of them nests deeper
pub behind_deeper : (inner : ℕ) (f : Expr) (rest : List Kind) (g : Expr) (behind : List Kind) → one_behind (readers inner) f rest ≡ Ok (g, behind) → nesting f < nesting g
behind_deeper inner f rest g behind e = omega (arith, took_is (one_behind (readers inner) f rest) (λ x. suc (nesting f) ≤ nesting x.0) (g, behind) (one_behind_deeper (readers inner) f rest) e)

postfix_end : (r : Readers) (inner fuel : ℕ) (f : Expr) (rest : List Kind) → nat_lt 0 (strength rest) ≡ true → postfix r inner fuel f rest ≡ Ok (f, rest)
unfolding postfix
postfix_end r inner zero f rest s = rw s refl
postfix_end r inner (suc n) f rest s = rw s refl

pub postfixed_end : (inner : ℕ) (tokens : List Kind) (f : Expr) (size : ℕ) (rest : List Kind) → nat_lt 0 (strength rest) ≡ true → Postfixed inner tokens f size rest → postfixed (readers inner) inner tokens ≡ Ok (f, rest)
postfixed_end inner tokens f size rest s state = state.read ∙ postfix_end (readers inner) inner state.fuel f rest s

postfix_deep : (r : Readers) (inner fuel : ℕ) (f : Expr) (rest : List Kind) → nat_lt 0 (strength rest) ≡ false → inner < nesting f → postfix r inner fuel f rest ≡ Err (TooDeep (length rest))
unfolding postfix
postfix_deep r inner zero f rest s d = rw s refl
postfix_deep r inner (suc n) f rest s d = rw (s, lt-ltb inner (nesting f) d) refl

pub postfixed_deep : (inner : ℕ) (tokens : List Kind) (f : Expr) (size : ℕ) (rest : List Kind) → nat_lt 0 (strength rest) ≡ false → inner < size → Postfixed inner tokens f size rest
    → postfixed (readers inner) inner tokens ≡ Err (TooDeep (length rest))
postfixed_deep inner tokens f size rest s d state =
    let same : size ≡ nesting f = state.same_size in
    state.read ∙ postfix_deep (readers inner) inner state.fuel f rest s (omega arith)

postfix_fails : (e : ReadError) (r : Readers) (inner n : ℕ) (f : Expr) (rest : List Kind) → nat_lt 0 (strength rest) ≡ false → nesting f ≤ inner → Fails e (one_behind r f rest) → Fails e (postfix r inner (suc n) f rest)
unfolding postfix
postfix_fails e r inner n f rest s d h = rw (s, le-ltb inner (nesting f) d) (fails_bind e (one_behind r f rest) (λ x. postfix r inner n x.0 x.1) h)

pub postfixed_fails : (e : ReadError) (inner : ℕ) (tokens : List Kind) (f : Expr) (size : ℕ) (rest : List Kind) → nat_lt 0 (strength rest) ≡ false → size ≤ inner
    → Fails e (one_behind (readers inner) f rest) → Postfixed inner tokens f size rest → Fails e (postfixed (readers inner) inner tokens)
postfixed_fails e inner tokens f size rest s d h state = go state.fuel state.enough state.read
  where
    go : (fuel : ℕ) → inner + 1 < fuel + size → postfixed (readers inner) inner tokens ≡ postfix (readers inner) inner fuel f rest → Fails e (postfixed (readers inner) inner tokens)
    go zero k read = absurd (omega arith)
    go (suc n) k read =
        let same : size ≡ nesting f = state.same_size in
        fails_same e _ _ read (postfix_fails e (readers inner) inner n f rest s (omega arith) h)

-- ---- loads and assignments

pub chain_loads : (inner level : ℕ) (tokens us : List Kind) → after_load level tokens ≡ Some us → chain (readers inner) inner level tokens ≡ load_at (readers inner) us
unfolding chain
chain_loads inner level tokens us e = rw e refl

pub expr_deep : (inner : ℕ) (tokens : List Kind) (left : Expr) (rest : List Kind) (o : AssignOp × List Kind) → chain (readers inner) inner 12 tokens ≡ Ok (left, rest) → assign_after left rest ≡ Some o → inner < nesting left
    → expr (readers inner) inner tokens ≡ Err (TooDeep (length rest))
unfolding expr assigned
expr_deep inner tokens left rest o e a d = rw (e, a, lt-ltb inner (nesting left) d) refl

pub expr_fails : (f : ReadError) (inner : ℕ) (tokens : List Kind) (left : Expr) (rest : List Kind) (o : AssignOp) (behind : List Kind) → chain (readers inner) inner 12 tokens ≡ Ok (left, rest) → assign_after left rest ≡ Some (o, behind) → nesting left ≤ inner
    → Fails f ((readers inner).expr behind) → Fails f (expr (readers inner) inner tokens)
unfolding expr assigned
expr_fails f inner tokens left rest o behind e a d h = rw (e, a, le-ltb inner (nesting left) d) (fails_bind f ((readers inner).expr behind) _ h)
