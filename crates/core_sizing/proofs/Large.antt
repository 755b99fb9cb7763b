-- Which statements count nothing, and that no frame of a module is too large where each fits.
use Rattle.std.proofs.Common.{◌≡◌, ℕ, zero, suc, ◌<◌, ◌≤◌, ◌↔◌, inl, inr, Bool, true, false, IsTrue, List, [], ◌∷◌, Some}
use Rattle.std.proofs.Common.{Vec, Global, length, get_or, map, refl, sym, ap, ◌∙◌, subst, arith}
use Rattle.std.specs.Prelude.{slice_get, option_map}
use Rattle.std.proofs.lemmas.Option.{slice_get-map, slice_get_read}
use Rattle.std.proofs.lemmas.Bool.Decides.{leb_tells}
use Rattle.limbo_types.specs.Types.{Ty}
use Rattle.limbo_layout.specs.Adts.{Def}
use Rattle.limbo_typed.specs.declared.stmt.TStmt as code_stmt
use Rattle.limbo_typed.specs.declared.stmt.TStmt.{TStmt-F, out-TStmt, roll-TStmt, roll-out-TStmt, fold-roll-TStmt}
use Rattle.limbo_typed.specs.declared.stmt.TStmt.TheVariants as make
use Rattle.limbo_typed.specs.declared.module.TFn.{TFn}
use Rattle.limbo_typed.specs.Typed as typed
use Rattle.limbo_typed.specs.Typed.{Function, Module}
use Rattle.limbo_typed.specs.View.{stmt_step, alt_arm_step, case_arm_step, handler_arm_step, pick_arm_step}
use Rattle.limbo_typed.specs.View.{view_stmt, view_case_arm, view_alt_arm, view_pick_arm, view_handler_arm, view_boxed, view_function}
use Rattle.limbo_typed.proofs.View.{view_stmt-Block, view_stmt-Declare, view_stmt-Eval, view_stmt-If, view_stmt-While, view_stmt-Do}
use Rattle.limbo_typed.proofs.View.{view_stmt-For, view_stmt-Return}
use Rattle.core_frames.specs.Sizes.{frame_size, globals_size, largest_frame, stmt_size, FrameTooLarge}
use Rattle.core_sizing.proofs.Others.{Boxed, Optional}

abbrev Stmts : Type 0
Stmts = Vec code_stmt.TStmt Global

abbrev HasStmt : code_stmt.TStmt → typed.Stmt → Type 0
HasStmt n (typed.Block ss) = (xs : Stmts) × (n ≡ make.Block xs)
HasStmt n (typed.Declare xs e) = (ys : Vec ℕ Global) × (f : Optional) × (n ≡ make.Declare ys f)
HasStmt n (typed.Eval e) = (f : Boxed) × (n ≡ make.Eval f)
HasStmt n (typed.If c ss others) = (f : Boxed) × (xs : Stmts) × (ys : Stmts) × (n ≡ make.If f xs ys)
HasStmt n (typed.While c ss) = (f : Optional) × (xs : Stmts) × (n ≡ make.While f xs)
HasStmt n (typed.Do ss c) = (xs : Stmts) × (f : Optional) × (n ≡ make.Do xs f)
HasStmt n (typed.For a c b ss) = (f : Optional) × (g : Optional) × (h : Optional) × (xs : Stmts) × (n ≡ make.For f g h xs)
HasStmt n (typed.Return e) = (f : Optional) × (n ≡ make.Return f)
HasStmt n _ = Unit {0}

has_stmt : (n : code_stmt.TStmt) → HasStmt n (view_stmt n)
unfolding view_stmt view_case_arm view_alt_arm view_pick_arm view_handler_arm view_boxed
has_stmt n = go (out-TStmt n) (sym (roll-out-TStmt n))
  where
    is : (m : code_stmt.TStmt) (t : typed.Stmt) → n ≡ m → view_stmt m ≡ t → HasStmt n t → HasStmt n (view_stmt n)
    is m t at f h = subst (λ (z : typed.Stmt). HasStmt n z) (sym (ap view_stmt at ∙ f)) h

    go : (y : TStmt-F _ _ _ _ _) → n ≡ roll-TStmt y → HasStmt n (view_stmt n)
    go (TStmt-F.Block ss) at = let p : n ≡ make.Block ss = at ∙ make.rolls-Block ss in is _ _ p (view_stmt-Block ss) (ss, p)
    go (TStmt-F.Declare xs e) at =
        let p : n ≡ make.Declare xs e = at ∙ make.rolls-Declare xs e in is _ _ p (view_stmt-Declare xs e) (xs, e, p)
    go (TStmt-F.Eval e) at = let p : n ≡ make.Eval e = at ∙ make.rolls-Eval e in is _ _ p (view_stmt-Eval e) (e, p)
    go (TStmt-F.If c ss others) at =
        let p : n ≡ make.If c ss others = at ∙ make.rolls-If c ss others in is _ _ p (view_stmt-If c ss others) (c, ss, others, p)
    go (TStmt-F.While c ss) at = let p : n ≡ make.While c ss = at ∙ make.rolls-While c ss in is _ _ p (view_stmt-While c ss) (c, ss, p)
    go (TStmt-F.Do ss c) at = let p : n ≡ make.Do ss c = at ∙ make.rolls-Do ss c in is _ _ p (view_stmt-Do ss c) (ss, c, p)
    go (TStmt-F.For a c b ss) at =
        let p : n ≡ make.For a c b ss = at ∙ make.rolls-For a c b ss in is _ _ p (view_stmt-For a c b ss) (a, c, b, ss, p)
    go (TStmt-F.Return e) at = let p : n ≡ make.Return e = at ∙ make.rolls-Return e in is _ _ p (view_stmt-Return e) (e, p)
    go y at = is _ _ at (fold-roll-TStmt _ _ _ _ _ stmt_step alt_arm_step case_arm_step handler_arm_step pick_arm_step y) tt

pub no_stmt_size : (defs : List Def) (types : List Ty) (n : code_stmt.TStmt) → ((ss : Stmts) → n ≡ make.Block ss → ⊥)
    → ((xs : Vec ℕ Global) (e : Optional) → n ≡ make.Declare xs e → ⊥) → ((e : Boxed) → n ≡ make.Eval e → ⊥)
    → ((c : Boxed) (ss others : Stmts) → n ≡ make.If c ss others → ⊥) → ((c : Optional) (ss : Stmts) → n ≡ make.While c ss → ⊥)
    → ((ss : Stmts) (c : Optional) → n ≡ make.Do ss c → ⊥) → ((a c b : Optional) (ss : Stmts) → n ≡ make.For a c b ss → ⊥)
    → ((e : Optional) → n ≡ make.Return e → ⊥) → stmt_size defs types (view_stmt n) ≡ 0
no_stmt_size defs types n block declare evals chooses loops does counts returns = go (view_stmt n) (has_stmt n)
  where
    go : (s : typed.Stmt) → HasStmt n s → stmt_size defs types s ≡ 0
    go (typed.Block ss) h = absurd (block h.0 h.1)
    go (typed.Declare xs e) h = absurd (declare h.0 h.1 h.2)
    go (typed.Eval e) h = absurd (evals h.0 h.1)
    go (typed.If c ss others) h = absurd (chooses h.0 h.1 h.2 h.3)
    go (typed.While c ss) h = absurd (loops h.0 h.1 h.2)
    go (typed.Do ss c) h = absurd (does h.0 h.1 h.2)
    go (typed.For a c b ss) h = absurd (counts h.0 h.1 h.2 h.3 h.4)
    go (typed.Return e) h = absurd (returns h.0 h.1)
    go _ h = refl

-- ---- the module

pub too_large : (n : ℕ) (r : Bool) → r ≡ false → (n ≤ largest_frame → IsTrue r) → largest_frame < n
too_large n r e h = elim (leb_tells n largest_frame) [
  | inl l ↦ absurd (let t : r ≡ true = h l.1 in cc)
  | inr l ↦ l.1
]

pub no_large : (m : Module) (defs : List Def) → defs ≡ m.adts
    → ((k : ℕ) (g : Function) → slice_get m.functions k ≡ Some g → frame_size defs g ≤ largest_frame) → (r : Bool)
    → (IsTrue r ↔ (globals_size m ≤ largest_frame)) → (IsTrue r ↔ (FrameTooLarge m → ⊥))
no_large m defs e all r globals = (
  λ t x. elim x [
    | inl large ↦
        let a = all large.number large.function large.there in
        let b : frame_size m.adts large.function ≤ largest_frame =
        subst (λ (ds : List Def). frame_size ds large.function ≤ largest_frame) e a in
        let c = large.large in
        omega arith
    | inr h ↦ let a = globals.0 t in omega arith
  ],
  λ none. elim (leb_tells (globals_size m) largest_frame) [
    | inl h ↦ globals.1 h.1
    | inr h ↦ absurd (none (inr h.1))
  ],
)

pub large_globals : (m : Module) (r : Bool) → (globals_size m ≤ largest_frame → IsTrue r) → r ≡ false → FrameTooLarge m
large_globals m r h e = inr (too_large (globals_size m) r e h)

pub one_large : (m : Module) (defs : List Def) (k : ℕ) (g : Function) → defs ≡ m.adts → slice_get m.functions k ≡ Some g
    → largest_frame < frame_size defs g → FrameTooLarge m
one_large m defs k g e there h = inl (record {
  number = k;
  function = g;
  there = there;
  large = subst (λ (ds : List Def). largest_frame < frame_size ds g) e h;
})

-- ---- functions by their numbers

pub function-there : (fs : List TFn) (i : ℕ) (f : TFn) → i < length fs → f ≡ get_or fs i f
    → slice_get (map view_function fs) i ≡ Some (view_function f)
function-there fs i f l e = slice_get-map view_function fs i ∙ ap (option_map view_function) (slice_get_read fs (length fs) i f refl l e)

pub function-below : (fs : List TFn) (i : ℕ) (g : Function) → slice_get (map view_function fs) i ≡ Some g → i < length fs
function-below [] i g e = absurd (cc)
function-below (f ∷ fs) zero g e = omega arith
function-below (f ∷ fs) (suc i) g e = let a = function-below fs i g e in omega arith
