-- The bodies of arms.
use Rattle.std.proofs.Common.{◌≡◌, ℕ, zero, suc, ◌+◌, ◌<◌, Bool, true, false, ◌||◌, List, [], ◌∷◌, length, get_or, drop, map, refl, sym, ap, ◌∙◌, subst, arith}
use Rattle.limbo_typed.specs.declared.stmt.AltArm as code_alt_arm
use Rattle.limbo_typed.specs.declared.stmt.CaseArm as code_case_arm
use Rattle.limbo_typed.specs.declared.stmt.HandlerArm as code_handler_arm
use Rattle.limbo_typed.specs.declared.stmt.PickArm as code_pick_arm
use Rattle.limbo_typed.specs.declared.stmt.TStmt as code_stmt
use Rattle.limbo_typed.specs.Typed.{Stmts, Bodies, MoreBodies}
use Rattle.limbo_typed.specs.View.{Arm, bodies_of, heads_of, AltArm, CaseArm, HandlerArm, PickArm}
use Rattle.limbo_typed.specs.View.{view_stmts, view_alt_arm, view_case_arm, view_handler_arm, view_pick_arm}
use Rattle.limbo_typed.proofs.View.{view_alt_arm-out, view_case_arm-out, view_handler_arm-out, view_pick_arm-out}

pub case_body : (a : code_case_arm.CaseArm) → (view_case_arm a).body ≡ view_stmts a.body.items
case_body a = ap (λ (z : CaseArm). z.body) (view_case_arm-out a)

pub alt_body : (a : code_alt_arm.AltArm) → (view_alt_arm a).body ≡ view_stmts a.body.items
alt_body a = ap (λ (z : AltArm). z.body) (view_alt_arm-out a)

pub pick_body : (a : code_pick_arm.PickArm) → (view_pick_arm a).body ≡ view_stmts a.body.items
pick_body a = ap (λ (z : PickArm). z.body) (view_pick_arm-out a)

pub handler_body : (a : code_handler_arm.HandlerArm) → (view_handler_arm a).body ≡ view_stmts a.body.items
handler_body a = ap (λ (z : HandlerArm). z.body) (view_handler_arm-out a)

-- ---- one arm after the other

-- arms of the code, whose bodies these are
module _ {A Head : Type 0} (view : A → Arm Head) (body : A → List code_stmt.TStmt) (same : (a : A) → (view a).body ≡ view_stmts (body a)) where
  pub next_arm : (arms : List A) (i k : ℕ) (a : A) → i < length arms → a ≡ get_or arms i a → k ≡ suc i
      → bodies_of (map view (drop i arms)) ≡ MoreBodies (view_stmts (body a)) (bodies_of (map view (drop k arms)))
  next_arm arms i k a l e f = subst (λ (z : ℕ). bodies_of (map view (drop i arms)) ≡ MoreBodies (view_stmts (body a)) (bodies_of (map view (drop z arms)))) (sym f) (go arms i l e)
    where
      go : (arms : List A) (i : ℕ) → i < length arms → a ≡ get_or arms i a
          → bodies_of (map view (drop i arms)) ≡ MoreBodies (view_stmts (body a)) (bodies_of (map view (drop (suc i) arms)))
      go [] i l e = absurd (omega arith)
      go (x ∷ xs) zero l e =
          ap (λ (z : _). MoreBodies z (bodies_of (map view xs))) (same x ∙ ap (λ (z : A). view_stmts (body z)) (sym e))
      go (x ∷ xs) (suc i) l e = go xs i (omega arith) e

  -- a test that holds of arms where one of their bodies passes it
  module _ (test : Stmts → Bool) (some : Bodies → Bool) (one : (ss : Stmts) (arms : Bodies) → some (MoreBodies ss arms) ≡ (test ss || some arms)) where
    -- the next arm passes
    pub passes : (arms : List A) (i : ℕ) (a : A) (ss : List code_stmt.TStmt) (b : Bool)
        → i < length arms → a ≡ get_or arms i a → ss ≡ body a → b ≡ test (view_stmts ss) → b ≡ true
        → some (bodies_of (map view (drop i arms))) ≡ some (bodies_of (map view arms)) → true ≡ some (bodies_of (map view arms))
    passes arms i a ss b l e f g h inv =
        let rest = bodies_of (map view (drop (suc i) arms)) in
        let holds : test (view_stmts (body a)) ≡ true = sym (ap (λ (z : List code_stmt.TStmt). test (view_stmts z)) f) ∙ sym g ∙ h in
        sym (ap (λ (z : Bool). z || some rest) holds) ∙ sym (one (view_stmts (body a)) rest) ∙ sym (ap some (next_arm arms i (suc i) a l e refl)) ∙ inv

    -- it doesn't
    pub fails : (arms : List A) (i : ℕ) (a : A) (ss : List code_stmt.TStmt) (b : Bool)
        → i < length arms → a ≡ get_or arms i a → ss ≡ body a → b ≡ test (view_stmts ss) → b ≡ false
        → some (bodies_of (map view (drop i arms))) ≡ some (bodies_of (map view arms))
        → some (bodies_of (map view (drop (i + 1) arms))) ≡ some (bodies_of (map view arms))
    fails arms i a ss b l e f g h inv =
        let rest = bodies_of (map view (drop (i + 1) arms)) in
        let not_here : test (view_stmts (body a)) ≡ false = sym (ap (λ (z : List code_stmt.TStmt). test (view_stmts z)) f) ∙ sym g ∙ h in
        sym (ap (λ (z : Bool). z || some rest) not_here) ∙ sym (one (view_stmts (body a)) rest) ∙ sym (ap some (next_arm arms i (i + 1) a l e (omega arith))) ∙ inv

-- ---- heads

module _ {A Head : Type 0} (view : A → Arm Head) (head : A → Head) (same : (a : A) → (view a).head ≡ head a) where
  pub next_head : (arms : List A) (i k : ℕ) (a : A) → i < length arms → a ≡ get_or arms i a → k ≡ suc i
      → heads_of (map view (drop i arms)) ≡ head a ∷ heads_of (map view (drop k arms))
  next_head arms i k a l e f = subst (λ (z : ℕ). heads_of (map view (drop i arms)) ≡ head a ∷ heads_of (map view (drop z arms))) (sym f) (go arms i l e)
    where
      go : (arms : List A) (i : ℕ) → i < length arms → a ≡ get_or arms i a
          → heads_of (map view (drop i arms)) ≡ head a ∷ heads_of (map view (drop (suc i) arms))
      go [] i l e = absurd (omega arith)
      go (x ∷ xs) zero l e = ap (λ (z : Head). z ∷ heads_of (map view xs)) (same x ∙ ap head (sym e))
      go (x ∷ xs) (suc i) l e = go xs i (omega arith) e

  module _ (test : Head → Bool) (some : List Head → Bool) (one : (h : Head) (hs : List Head) → some (h ∷ hs) ≡ (test h || some hs)) where
    pub head_passes : (arms : List A) (i : ℕ) (a : A) → i < length arms → a ≡ get_or arms i a → test (head a) ≡ true
        → some (heads_of (map view (drop i arms))) ≡ some (heads_of (map view arms)) → true ≡ some (heads_of (map view arms))
    head_passes arms i a l e h inv =
        let rest = heads_of (map view (drop (suc i) arms)) in
        sym (ap (λ (z : Bool). z || some rest) h) ∙ sym (one (head a) rest) ∙ sym (ap some (next_head arms i (suc i) a l e refl)) ∙ inv

    pub head_fails : (arms : List A) (i : ℕ) (a : A) → i < length arms → a ≡ get_or arms i a → test (head a) ≡ false
        → some (heads_of (map view (drop i arms))) ≡ some (heads_of (map view arms))
        → some (heads_of (map view (drop (i + 1) arms))) ≡ some (heads_of (map view arms))
    head_fails arms i a l e h inv =
        let rest = heads_of (map view (drop (i + 1) arms)) in
        sym (ap (λ (z : Bool). z || some rest) h) ∙ sym (one (head a) rest) ∙ sym (ap some (next_head arms i (i + 1) a l e (omega arith))) ∙ inv

pub case_head : (a : code_case_arm.CaseArm) → (view_case_arm a).head ≡ a.patterns.items
case_head a = ap (λ (z : CaseArm). z.head) (view_case_arm-out a)

pub pick_head : (a : code_pick_arm.PickArm) → (view_pick_arm a).head ≡ record { variants = a.variants.items; variable = a.variable }
pick_head a = ap (λ (z : PickArm). z.head) (view_pick_arm-out a)
