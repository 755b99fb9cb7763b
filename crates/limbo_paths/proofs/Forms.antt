-- Which form a statement of the code has, told by its view, and what is told where it has another.
use Rattle.std.proofs.Common.{◌≡◌, ℕ, Bool, true, false, List, Option, Vec, Box, Global, refl, sym, ap, ◌∙◌, subst, not, ◌&&◌, ◌||◌, nat_eq, map, None, Some}
use Rattle.limbo_types.specs.Types.{Ty}
use Rattle.limbo_types.specs.View.{view_ty}
use Rattle.limbo_layout.specs.Adts.{Def}
use Rattle.limbo_typed.specs.declared.expr.TExpr as code_expr
use Rattle.limbo_typed.specs.declared.stmt.AltArm as code_alt_arm
use Rattle.limbo_typed.specs.declared.stmt.CaseArm as code_case_arm
use Rattle.limbo_typed.specs.declared.stmt.HandlerArm as code_handler_arm
use Rattle.limbo_typed.specs.declared.stmt.PickArm as code_pick_arm
use Rattle.limbo_typed.specs.declared.stmt.TStmt as code_stmt
use Rattle.limbo_typed.specs.declared.stmt.TStmt.{TStmt-F, out-TStmt, roll-TStmt, roll-out-TStmt, fold-roll-TStmt}
use Rattle.limbo_typed.specs.declared.stmt.TStmt.TheVariants as make
use Rattle.limbo_typed.specs.Sound.{type_of as tree_type}
use Rattle.limbo_typed.specs.Typed as tree
use Rattle.limbo_typed.specs.Typed.{Stmt}
use Rattle.limbo_typed.specs.View.{stmt_step, alt_arm_step, case_arm_step, handler_arm_step, pick_arm_step}
use Rattle.limbo_typed.specs.View.{view_stmt, view_alt_arm, view_case_arm, view_handler_arm, view_pick_arm, heads_of, bodies_of}
use Rattle.limbo_typed.specs.View.{view_boxed}
use Rattle.limbo_typed.proofs.View.{view_expr-out, view_boxed-None, view_boxed-Some}
use Rattle.limbo_typed.proofs.View.{view_stmt-Empty, view_stmt-Block, view_stmt-Declare, view_stmt-Eval, view_stmt-If, view_stmt-While, view_stmt-Do, view_stmt-For}
use Rattle.limbo_typed.proofs.View.{view_stmt-Case, view_stmt-Alt, view_stmt-Pick, view_stmt-Break, view_stmt-Continue, view_stmt-Spawn, view_stmt-Handle}
use Rattle.limbo_paths.specs.declared.jumps.Jump.{Jump}
use Rattle.limbo_paths.specs.Walking.{is_break, jumps, has, takes_each, variants, falls, arms_fall, is_some}

abbrev pub Boxed : Type 0
Boxed = Box code_expr.TExpr Global

abbrev pub Body : Type 0
Body = Vec code_stmt.TStmt Global

-- a statement of the code has the form that this statement has
abbrev pub HasForm : code_stmt.TStmt → Stmt → Type 0
HasForm x tree.Empty = x ≡ make.Empty
HasForm x (tree.Block ss) = (b : Body) × (x ≡ make.Block b)
HasForm x (tree.Declare xs e) = (ys : Vec ℕ Global) × (f : Option Boxed) × (x ≡ make.Declare ys f)
HasForm x (tree.Eval e) = (f : Boxed) × (x ≡ make.Eval f)
HasForm x (tree.If c ss others) = (d : Boxed) × (b : Body) × (o : Body) × (x ≡ make.If d b o)
HasForm x (tree.While c ss) = (d : Option Boxed) × (b : Body) × (x ≡ make.While d b)
HasForm x (tree.Do ss c) = (b : Body) × (d : Option Boxed) × (x ≡ make.Do b d)
HasForm x (tree.For first c next ss) = (f : Option Boxed) × (d : Option Boxed) × (g : Option Boxed) × (b : Body) × (x ≡ make.For f d g b)
HasForm x (tree.Case e heads arms) = (f : Boxed) × (rows : Vec code_case_arm.CaseArm Global) × (x ≡ make.Case f rows)
HasForm x (tree.Alt heads arms) = (rows : Vec code_alt_arm.AltArm Global) × (x ≡ make.Alt rows)
HasForm x (tree.Pick e heads arms) = (f : Boxed) × (rows : Vec code_pick_arm.PickArm Global) × (x ≡ make.Pick f rows)
HasForm x (tree.Break n) = (m : ℕ) × (x ≡ make.Break m)
HasForm x (tree.Continue n) = (m : ℕ) × (x ≡ make.Continue m)
HasForm x (tree.Spawn e) = (f : Boxed) × (x ≡ make.Spawn f)
HasForm x (tree.Handle ss n heads arms) = (b : Body) × (m : ℕ) × (rows : Vec code_handler_arm.HandlerArm Global) × (x ≡ make.Handle b m rows)
HasForm x _ = Unit {0}

pub has_form : (x : code_stmt.TStmt) → HasForm x (view_stmt x)
unfolding view_stmt view_alt_arm view_case_arm view_handler_arm view_pick_arm
has_form x = go (out-TStmt x) (sym (roll-out-TStmt x))
  where
    is : (y : code_stmt.TStmt) (t : Stmt) → x ≡ y → view_stmt y ≡ t → HasForm x t → HasForm x (view_stmt x)
    is y t at f h = subst (λ (z : Stmt). HasForm x z) (sym (ap view_stmt at ∙ f)) h

    go : (y : TStmt-F _ _ _ _ _) → x ≡ roll-TStmt y → HasForm x (view_stmt x)
    go TStmt-F.Empty at = let p : x ≡ make.Empty = at ∙ make.rolls-Empty in is _ _ p view_stmt-Empty p
    go (TStmt-F.Block b) at = let p : x ≡ make.Block b = at ∙ make.rolls-Block b in is _ _ p (view_stmt-Block b) (b, p)
    go (TStmt-F.Declare xs e) at = let p : x ≡ make.Declare xs e = at ∙ make.rolls-Declare xs e in is _ _ p (view_stmt-Declare xs e) (xs, e, p)
    go (TStmt-F.Eval e) at = let p : x ≡ make.Eval e = at ∙ make.rolls-Eval e in is _ _ p (view_stmt-Eval e) (e, p)
    go (TStmt-F.If c b o) at = let p : x ≡ make.If c b o = at ∙ make.rolls-If c b o in is _ _ p (view_stmt-If c b o) (c, b, o, p)
    go (TStmt-F.While c b) at = let p : x ≡ make.While c b = at ∙ make.rolls-While c b in is _ _ p (view_stmt-While c b) (c, b, p)
    go (TStmt-F.Do b c) at = let p : x ≡ make.Do b c = at ∙ make.rolls-Do b c in is _ _ p (view_stmt-Do b c) (b, c, p)
    go (TStmt-F.For f c g b) at = let p : x ≡ make.For f c g b = at ∙ make.rolls-For f c g b in is _ _ p (view_stmt-For f c g b) (f, c, g, b, p)
    go (TStmt-F.Case e rows) at = let p : x ≡ make.Case e rows = at ∙ make.rolls-Case e rows in is _ _ p (view_stmt-Case e rows) (e, rows, p)
    go (TStmt-F.Alt rows) at = let p : x ≡ make.Alt rows = at ∙ make.rolls-Alt rows in is _ _ p (view_stmt-Alt rows) (rows, p)
    go (TStmt-F.Pick e rows) at = let p : x ≡ make.Pick e rows = at ∙ make.rolls-Pick e rows in is _ _ p (view_stmt-Pick e rows) (e, rows, p)
    go (TStmt-F.Break n) at = let p : x ≡ make.Break n = at ∙ make.rolls-Break n in is _ _ p (view_stmt-Break n) (n, p)
    go (TStmt-F.Continue n) at = let p : x ≡ make.Continue n = at ∙ make.rolls-Continue n in is _ _ p (view_stmt-Continue n) (n, p)
    go (TStmt-F.Spawn e) at = let p : x ≡ make.Spawn e = at ∙ make.rolls-Spawn e in is _ _ p (view_stmt-Spawn e) (e, p)
    go (TStmt-F.Handle b n rows) at = let p : x ≡ make.Handle b n rows = at ∙ make.rolls-Handle b n rows in is _ _ p (view_stmt-Handle b n rows) (b, n, rows, p)
    go y at = is _ _ at (fold-roll-TStmt _ _ _ _ _ stmt_step alt_arm_step case_arm_step handler_arm_step pick_arm_step y) tt

-- what a test says of a statement of the code, by its form
pub shown : (f : Stmt → Bool) (x y : code_stmt.TStmt) (t : Stmt) (b : Bool) → x ≡ y → view_stmt y ≡ t → b ≡ f t → b ≡ f (view_stmt x)
shown f x y t b e v h = h ∙ sym (ap f (ap view_stmt e ∙ v))

-- one of two tests that the code makes one after the other
pub first_holds : (b a r : Bool) → b ≡ a → b ≡ true → b ≡ (a || r)
first_holds b true r e h = e
first_holds b false r e h = absurd cc

pub second_holds : (b a c r : Bool) → b ≡ a → b ≡ false → c ≡ r → c ≡ (a || r)
second_holds b true c r e h k = absurd cc
second_holds b false c r e h k = k

-- whether there is a condition
pub boxed : (c : Option Boxed) → is_some c ≡ is_some (view_boxed c)
boxed None = sym (ap is_some view_boxed-None)
boxed (Some b) = sym (ap is_some (view_boxed-Some b))

-- neither a `break` nor a `continue`
pub no_jump : (j : Jump) (n : ℕ) (x : code_stmt.TStmt) → ((m : ℕ) → x ≡ make.Break m → ⊥) → ((m : ℕ) → x ≡ make.Continue m → ⊥)
    → false ≡ jumps j n (view_stmt x)
no_jump j n x never0 never1 = go (view_stmt x) (has_form x)
  where
    go : (t : Stmt) → HasForm x t → false ≡ jumps j n t
    go (tree.Break m) h = absurd (never0 h.0 h.1)
    go (tree.Continue m) h = absurd (never1 h.0 h.1)
    go _ h = refl

-- no statement with parts
pub no_parts : (j : Jump) (n : ℕ) (x : code_stmt.TStmt)
    → ((b : Body) → x ≡ make.Block b → ⊥) → ((c : Boxed) (b o : Body) → x ≡ make.If c b o → ⊥)
    → ((c : Option Boxed) (b : Body) → x ≡ make.While c b → ⊥) → ((b : Body) (c : Option Boxed) → x ≡ make.Do b c → ⊥)
    → ((f c g : Option Boxed) (b : Body) → x ≡ make.For f c g b → ⊥)
    → ((e : Boxed) (rows : Vec code_case_arm.CaseArm Global) → x ≡ make.Case e rows → ⊥)
    → ((rows : Vec code_alt_arm.AltArm Global) → x ≡ make.Alt rows → ⊥)
    → ((e : Boxed) (rows : Vec code_pick_arm.PickArm Global) → x ≡ make.Pick e rows → ⊥)
    → ((b : Body) (m : ℕ) (rows : Vec code_handler_arm.HandlerArm Global) → x ≡ make.Handle b m rows → ⊥)
    → jumps j n (view_stmt x) ≡ has j n (view_stmt x)
no_parts j n x n0 n1 n2 n3 n4 n5 n6 n7 n8 = go (view_stmt x) (has_form x)
  where
    go : (t : Stmt) → HasForm x t → jumps j n t ≡ has j n t
    go (tree.Block ss) h = absurd (n0 h.0 h.1)
    go (tree.If c ss others) h = absurd (n1 h.0 h.1 h.2 h.3)
    go (tree.While c ss) h = absurd (n2 h.0 h.1 h.2)
    go (tree.Do ss c) h = absurd (n3 h.0 h.1 h.2)
    go (tree.For first c next ss) h = absurd (n4 h.0 h.1 h.2 h.3 h.4)
    go (tree.Case e heads arms) h = absurd (n5 h.0 h.1 h.2)
    go (tree.Alt heads arms) h = absurd (n6 h.0 h.1)
    go (tree.Pick e heads arms) h = absurd (n7 h.0 h.1 h.2)
    go (tree.Handle ss m heads arms) h = absurd (n8 h.0 h.1 h.2 h.3)
    go _ h = refl

-- ---- jumps

pub break_there : (j : Jump) (n m : ℕ) (x : code_stmt.TStmt) (a b : Bool) → x ≡ make.Break m → a ≡ is_break j → a ≡ true → b ≡ nat_eq m n
    → b ≡ jumps j n (view_stmt x)
break_there j n m x a b e f t g =
    g ∙ sym (ap (λ (z : Bool). z && nat_eq m n) (sym f ∙ t)) ∙ sym (ap (jumps j n) (ap view_stmt e ∙ view_stmt-Break m))

pub break_elsewhere : (j : Jump) (n m : ℕ) (x : code_stmt.TStmt) (a : Bool) → x ≡ make.Break m → a ≡ is_break j → a ≡ false
    → false ≡ jumps j n (view_stmt x)
break_elsewhere j n m x a e f t =
    sym (ap (λ (z : Bool). z && nat_eq m n) (sym f ∙ t)) ∙ sym (ap (jumps j n) (ap view_stmt e ∙ view_stmt-Break m))

pub continue_there : (j : Jump) (n m : ℕ) (x : code_stmt.TStmt) (a b : Bool) → x ≡ make.Continue m → a ≡ is_break j → a ≡ false
    → b ≡ nat_eq m n → b ≡ jumps j n (view_stmt x)
continue_there j n m x a b e f t g =
    g ∙ sym (ap (λ (z : Bool). not z && nat_eq m n) (sym f ∙ t)) ∙ sym (ap (jumps j n) (ap view_stmt e ∙ view_stmt-Continue m))

pub continue_elsewhere : (j : Jump) (n m : ℕ) (x : code_stmt.TStmt) (a : Bool) → x ≡ make.Continue m → a ≡ is_break j → a ≡ true
    → false ≡ jumps j n (view_stmt x)
continue_elsewhere j n m x a e f t =
    sym (ap (λ (z : Bool). not z && nat_eq m n) (sym f ∙ t)) ∙ sym (ap (jumps j n) (ap view_stmt e ∙ view_stmt-Continue m))

-- ---- what isn't gone through

pub no_fall : (defs : List Def) (x : code_stmt.TStmt)
    → (x ≡ make.Empty → ⊥) → ((xs : Vec ℕ Global) (e : Option Boxed) → x ≡ make.Declare xs e → ⊥) → ((e : Boxed) → x ≡ make.Eval e → ⊥)
    → ((e : Boxed) → x ≡ make.Spawn e → ⊥) → ((b : Body) → x ≡ make.Block b → ⊥) → ((c : Boxed) (b o : Body) → x ≡ make.If c b o → ⊥)
    → ((c : Option Boxed) (b : Body) → x ≡ make.While c b → ⊥) → ((f c g : Option Boxed) (b : Body) → x ≡ make.For f c g b → ⊥)
    → ((b : Body) (c : Option Boxed) → x ≡ make.Do b c → ⊥)
    → ((e : Boxed) (rows : Vec code_case_arm.CaseArm Global) → x ≡ make.Case e rows → ⊥)
    → ((rows : Vec code_alt_arm.AltArm Global) → x ≡ make.Alt rows → ⊥)
    → ((e : Boxed) (rows : Vec code_pick_arm.PickArm Global) → x ≡ make.Pick e rows → ⊥)
    → ((b : Body) (m : ℕ) (rows : Vec code_handler_arm.HandlerArm Global) → x ≡ make.Handle b m rows → ⊥)
    → false ≡ falls defs (view_stmt x)
no_fall defs x n0 n1 n2 n3 n4 n5 n6 n7 n8 n9 n10 n11 n12 = go (view_stmt x) (has_form x)
  where
    go : (t : Stmt) → HasForm x t → false ≡ falls defs t
    go tree.Empty h = absurd (n0 h)
    go (tree.Declare xs e) h = absurd (n1 h.0 h.1 h.2)
    go (tree.Eval e) h = absurd (n2 h.0 h.1)
    go (tree.Spawn e) h = absurd (n3 h.0 h.1)
    go (tree.Block ss) h = absurd (n4 h.0 h.1)
    go (tree.If c ss others) h = absurd (n5 h.0 h.1 h.2 h.3)
    go (tree.While c ss) h = absurd (n6 h.0 h.1 h.2)
    go (tree.For first c next ss) h = absurd (n7 h.0 h.1 h.2 h.3 h.4)
    go (tree.Do ss c) h = absurd (n8 h.0 h.1 h.2)
    go (tree.Case e heads arms) h = absurd (n9 h.0 h.1 h.2)
    go (tree.Alt heads arms) h = absurd (n10 h.0 h.1)
    go (tree.Pick e heads arms) h = absurd (n11 h.0 h.1 h.2)
    go (tree.Handle ss m heads arms) h = absurd (n12 h.0 h.1 h.2 h.3)
    go _ h = refl

-- ---- a `pick`, whose value has this type and whose arms are these, where it is told whether they take each variant

module _ (defs : List Def) (x : code_stmt.TStmt) (e : Boxed) (rows : Vec code_pick_arm.PickArm Global) (is : x ≡ make.Pick e rows)
    (value : code_expr.TExpr) (one : value ≡ e.value) (arms : List code_pick_arm.PickArm) (all : arms ≡ rows.items)
    (count : ℕ) (counted : count ≡ variants defs (view_ty value.ty)) (a : Bool) (told : a ≡ takes_each count (heads_of (map view_pick_arm arms))) where
  pick_is : falls defs (view_stmt x) ≡ (not a || arms_fall defs (bodies_of (map view_pick_arm rows.items)))
  pick_is =
      let bodies = bodies_of (map view_pick_arm rows.items) in
      ap (falls defs) (ap view_stmt is ∙ view_stmt-Pick e rows)
      ∙ ap (λ (t : Ty). not (takes_each (variants defs t) (heads_of (map view_pick_arm rows.items))) || arms_fall defs bodies)
      (ap tree_type (view_expr-out e.value) ∙ ap (λ (v : code_expr.TExpr). view_ty v.ty) (sym one))
      ∙ ap (λ (n : ℕ). not (takes_each n (heads_of (map view_pick_arm rows.items))) || arms_fall defs bodies) (sym counted)
      ∙ ap (λ (as_ : List code_pick_arm.PickArm). not (takes_each count (heads_of (map view_pick_arm as_))) || arms_fall defs bodies) (sym all)
      ∙ ap (λ (b : Bool). not b || arms_fall defs bodies) (sym told)

  pub pick_misses : a ≡ false → not a ≡ falls defs (view_stmt x)
  pick_misses h =
      ap not h ∙ sym (pick_is ∙ ap (λ (b : Bool). not b || arms_fall defs (bodies_of (map view_pick_arm rows.items))) h)

  pub pick_takes : a ≡ true → (others : List code_pick_arm.PickArm) → others ≡ rows.items → (b : Bool)
      → b ≡ arms_fall defs (bodies_of (map view_pick_arm others)) → b ≡ falls defs (view_stmt x)
  pick_takes h others same b g =
      g ∙ ap (λ (as_ : List code_pick_arm.PickArm). arms_fall defs (bodies_of (map view_pick_arm as_))) same
      ∙ sym (pick_is ∙ ap (λ (z : Bool). not z || arms_fall defs (bodies_of (map view_pick_arm rows.items))) h)
