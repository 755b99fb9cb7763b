-- So few instructions of a module's code stand for no step.
use Rattle.std.proofs.Common.{◌≡◌, ℕ, suc, ◌+◌, ◌<◌, ◌≤◌, Bool, false, List, [], ◌∷◌, ◌++◌, length, map, Option, Some, None, refl, sym}
use Rattle.std.proofs.Common.{ap, ◌∙◌, subst, arith}
use Rattle.std.proofs.lemmas.Option.{none-some, same_Some, slice_get-map}
use Rattle.std.specs.Prelude.{◌||◌, slice_get, option_map}
use Rattle.limbo_types.specs.Types.{Ty}
use Rattle.limbo_typed.specs.Typed as typed
use Rattle.limbo_typed.specs.Typed.{Module}
use Rattle.limbo_typed.specs.declared.operation.Operation.{Operation}
use Rattle.limbo_typed.specs.declared.operation.Given.{Given}
use Rattle.system_model.specs.Values.{Num}
use Rattle.typed_meaning.specs.Trees.{Place, Term, Literal, Store, Change, Terms, NoTerms, MoreTerms, Stm, Over, Eval}
use Rattle.typed_meaning.specs.Program.{term_of, evaluated, local, declared_value}
use Rattle.slot_code.specs.Code.{Spot, Temporary, Operand, In, Number, Inst, Move, Jump, Back, Leave, Function}
use Rattle.slot_code.specs.Code as code
use Rattle.typed_lower.specs.Kinds.{leaf, kind_in, makes_call, spot_of}
use Rattle.typed_lower.specs.Terms.{part_of, parts_of, applied, ready, branches}
use Rattle.typed_lower.specs.Statements as lower
use Rattle.typed_lower.specs.Statements.{Around, effects, sets, moves, done, condition, either, passed, further, inside, with_test}
use Rattle.typed_lower.specs.Statements.{while_loop, do_loop}
use Rattle.typed_lower.specs.Statements.{returned, stmt_code, stmts_code, function_code, functions_code}
use Rattle.typed_lower.specs.Stands.{Fresh, FreshStm, FreshOption, FreshOptional, Handled, AllHandled, FewSilent, run_to, is_silent}
use Rattle.typed_lower.specs.Keeps.{HasCode}
use Rattle.typed_lower.proofs.Bodies.{further_many}
use Rattle.typed_lower.proofs.Pauses.{Calm, calm_both, calm_less, calm_more, calm_none, calm_step, few_runs, calm, starts_low, one_value}
use Rattle.typed_lower.proofs.Pauses.{two_value, one_calm}

-- From any end of a statement to another.
abbrev Still : List Inst → Type 0
Still a = Calm 3 3 a

no_code : Still []
no_code = calm_none 3 (omega arith)

then_more : (a b : List Inst) → Still a → Still b → Still (a ++ b)
then_more a b x y = calm_both 3 3 3 a b x y

one_step : (i : Inst) → is_silent i ≡ false → Still (i ∷ [])
one_step i e = calm_more 3 0 3 (i ∷ []) (omega arith) (calm_step 3 i e (omega arith))

value_still : (t : Term) → Fresh t → (d : ℕ) (s : Spot) → Still ((part_of t).value d s)
value_still t f d s = (calm t f).value d s 3 (starts_low (makes_call t) 3 (omega arith))

branches_still : (t : Term) → Fresh t → (w : Bool) (d n : ℕ) → Still (branches w d t n)
branches_still t f w d n = calm_more 3 0 3 _ (omega arith) ((calm t f).branches w d n 3 (starts_low (makes_call t) 3 (omega arith)))

change_still : (o : Operation) (m : Given) (p : Place) (ts : Terms) → Fresh (Change o m p ts)
    → Still (applied o (parts_of ts) 0 (spot_of p))
change_still o m p (MoreTerms a NoTerms) f =
    one_value o a (calm a f.0.0) (makes_call a || false) refl 0 (spot_of p) 3 (starts_low _ 3 (omega arith))
change_still o m p (MoreTerms a (MoreTerms b NoTerms)) f =
    two_value o a b (calm a f.0.0) (calm b f.0.1.0) (makes_call a || (makes_call b || false)) refl 0 (spot_of p) 3
    (starts_low _ 3 (omega arith))
change_still o m p ts f = absurd f.1

effects_still : (t : Term) → Fresh t → Still (effects t)
effects_still (Store p t) f = value_still t f 0 (spot_of p)
effects_still (Change o m p ts) f = change_still o m p ts f
effects_still t f = value_still t f 1 (Temporary (kind_in t) 0)

done_still : (s : Stm) → FreshStm s → Still (done s)
done_still Over f = no_code
done_still (Eval t) f = effects_still t f
done_still _ f = absurd f

moves_still : (ps : List Place) (x : Operand) → Still (moves ps x)
moves_still [] x = no_code
moves_still (p ∷ ps) x = then_more (Move (spot_of p) x ∷ []) (moves ps x) (one_step (Move (spot_of p) x) refl) (moves_still ps x)

sets_still : (ps : List Place) (t : Term) → Fresh t → Still (sets ps t (leaf t))
sets_still (p ∷ []) t f = value_still t f 0 (spot_of p)
sets_still [] (Literal ty (Num z)) f = no_code
sets_still (p ∷ q ∷ ps) (Literal ty (Num z)) f = moves_still (p ∷ q ∷ ps) (Number z)
sets_still ps t f =
    then_more ((part_of t).value 1 (Temporary (kind_in t) 0)) (moves ps (In (Temporary (kind_in t) 0)))
    (value_still t f 1 (Temporary (kind_in t) 0)) (moves_still ps (In (Temporary (kind_in t) 0)))

condition_still : (e : Option typed.Expr) → FreshOption e → (n : ℕ) → Still (condition e n)
condition_still None f n = no_code
condition_still (Some e) f n = branches_still (term_of e) f false 0 n

optional_still : (e : Option typed.Expr) → FreshOptional e → Still (lower.optional e)
optional_still None f = no_code
optional_still (Some e) f = subst (λ s. Still (done s)) (sym f.1) (effects_still (term_of e) f.0)

either_still : (t : Term) → Fresh t → (a o : List Inst) → Still a → Still o → Still (either t a o)
either_still t f a [] x y = then_more (branches false 0 t (length a)) a (branches_still t f false 0 (length a)) x
either_still t f a (i ∷ is) x y =
    let b = branches false 0 t (suc (length a)) in
    then_more (b ++ a) (Jump (length (i ∷ is)) ∷ i ∷ is) (then_more b a (branches_still t f false 0 (suc (length a))) x)
    (then_more (Jump (length (i ∷ is)) ∷ []) (i ∷ is) (one_step (Jump (length (i ∷ is))) refl) y)

while_still : (e : Option typed.Expr) → FreshOption e → (n b : List Inst) → Still n → Still b → Still (while_loop e n b)
while_still e f n b x y =
    let t = condition e (suc (length b + length n)) in
    let k = Back (length t + length b + length n) in
    then_more (t ++ b ++ n) (k ∷ []) (then_more (t ++ b) n (then_more t b (condition_still e f (suc (length b + length n))) y) x)
    (one_step k refl)

do_still : (t b : List Inst) → Still t → Still b → Still (do_loop t b)
do_still t b x y =
    let k = Back (length b + length t) in then_more (b ++ t) (k ∷ []) (then_more b t y x) (one_step k refl)

returned_still : (e : Option typed.Expr) → FreshOption e → Still (returned e)
returned_still None f = one_step Leave refl
returned_still (Some e) f =
    let t = term_of e in
    calm_more 3 0 3 _ (omega arith)
    (one_calm t (calm t f) (part_of t).leaf 0 (part_of t).kind 3 (code.Return (ready 0 (part_of t)).operand) refl
    (starts_low (makes_call t) 3 (omega arith)))

module _ (types : List Ty) where
  mutual
    stmt_still : (s : typed.Stmt) (xs : List Around) → Handled types (length xs) s → Still (stmt_code types xs s)
    stmt_still typed.Empty xs f = no_code
    stmt_still (typed.Block ss) xs f = stmts_still ss xs f
    stmt_still (typed.Declare ns e) xs f = sets_still (map (local types) ns) (declared_value types e) f
    stmt_still (typed.Eval e) xs f = done_still (evaluated e) f
    stmt_still (typed.If c ss others) xs f =
        let o = stmts_code types xs others in
        let ys = further (passed o) xs in
        either_still (term_of c) f.0 (stmts_code types ys ss) o
        (stmts_still ss ys (subst (λ n. AllHandled types n ss) (sym (further_many (passed o) xs)) f.1)) (stmts_still others xs f.2)
    stmt_still (typed.While c ss) xs f =
        while_still c f.0 [] (stmts_code types (inside [] xs) ss) no_code
        (stmts_still ss (inside [] xs) (subst (λ n. AllHandled types n ss) (ap suc (sym (further_many 1 xs))) f.1))
    stmt_still (typed.Do ss c) xs f =
        let t = condition c 1 in
        do_still t (stmts_code types (inside t xs) ss) (condition_still c f.0 1)
        (stmts_still ss (inside t xs) (subst (λ n. AllHandled types n ss) (ap suc (sym (further_many (suc (length t)) xs))) f.1))
    stmt_still (typed.For first c n ss) xs f =
        let t = lower.optional n in
        then_more (lower.optional first) (while_loop c t (stmts_code types (inside t xs) ss)) (optional_still first f.0)
        (while_still c f.1 t (stmts_code types (inside t xs) ss) (optional_still n f.2)
        (stmts_still ss (inside t xs) (subst (λ m. AllHandled types m ss) (ap suc (sym (further_many (suc (length t)) xs))) f.3)))
    stmt_still (typed.Break n) xs f = one_step (Jump (lower.around_at xs n).end) refl
    stmt_still (typed.Continue n) xs f = one_step (Jump (lower.around_at xs n).turn) refl
    stmt_still (typed.Return e) xs f = returned_still e f
    stmt_still _ xs f = absurd f

    stmts_still : (ss : typed.Stmts) (xs : List Around) → AllHandled types (length xs) ss → Still (stmts_code types xs ss)
    stmts_still typed.NoStmts xs f = no_code
    stmts_still (typed.MoreStmts s ss) xs f =
        let r = stmts_code types xs ss in
        let ys = further (length r) xs in
        then_more (stmt_code types ys s) r
        (stmt_still s ys (subst (λ n. Handled types n s) (sym (further_many (length r) xs)) f.0)) (stmts_still ss xs f.1)

function_still : (f : typed.Function) → AllHandled (map (λ v. v.ty) f.variables) 0 f.body → Still (function_code f).code
function_still f h =
    let types = map (λ v. v.ty) f.variables in
    then_more (stmts_code types [] f.body) (Leave ∷ []) (stmts_still types f.body [] h) (one_step Leave refl)

few_by : (m : Module) → HasCode m → (n : ℕ) (h : Function) → slice_get (functions_code m) n ≡ Some h → (o : Option typed.Function)
    → slice_get m.functions n ≡ o → (pc : ℕ) → run_to 0 h.code pc < 7
few_by m has n h e None none pc =
    absurd (none-some h (sym (slice_get-map function_code m.functions n ∙ ap (option_map function_code) none) ∙ e))
few_by m has n h e (Some f) there pc =
    let same : function_code f ≡ h =
    same_Some (function_code f) h (sym (slice_get-map function_code m.functions n ∙ ap (option_map function_code) there) ∙ e) in
    let its : run_to 0 (function_code f).code pc ≤ 6 =
    few_runs 0 (function_code f).code (calm_less 0 3 3 (function_code f).code (omega arith) (function_still f (has n f there))).few pc in
    subst (λ (x : Function). run_to 0 x.code pc < 7) same (omega (arith, its))

pub few : (m : Module) → HasCode m → FewSilent (functions_code m) 7
few m has n h e pc = few_by m has n h e (slice_get m.functions n) refl pc
