-- What holds of statements by the rules is told by the tests.
use Rattle.std.proofs.Common.{◌≡◌, ℕ, zero, suc, Bool, true, not, ◌&&◌, ◌||◌, List, Some, refl, subst, ◌∙◌}
use Rattle.limbo_layout.specs.Adts.{Def}
use Rattle.limbo_typed.specs.Sound.{type_of}
use Rattle.limbo_typed.specs.Typed.{Expr, AltHead, PickHead, HandlerHead, Stmt, Stmts, NoStmts, MoreStmts, Bodies, NoBodies, MoreBodies}
use Rattle.limbo_typed.specs.Typed as tree
use Rattle.limbo_paths.specs.declared.jumps.Jump.TheVariants as jump
use Rattle.limbo_paths.specs.Paths as rule
use Rattle.limbo_paths.specs.Paths.{Way, Through, Breaks, Continues, IsJump, outward, Leaves, LeaveAll, LeaveArms, Takes, HasVariant}
use Rattle.limbo_paths.specs.Walking.{has, has_any, has_in, is_some, takes_rest, takes_each, variants, falls, all_fall, some_falls}
use Rattle.limbo_paths.proofs.Tests.{or_left, or_right, and_join, not_false, number_same, rest_sound, takes_sound, each_taken, variant_whole}

-- the test of each way
abbrev pub goes : List Def → Way → Stmt → Bool
goes defs Through s = falls defs s
goes defs (Breaks n) s = has jump.Break n s
goes defs (Continues n) s = has jump.Continue n s

abbrev pub go_all : List Def → Way → Stmts → Bool
go_all defs Through ss = all_fall defs ss
go_all defs (Breaks n) ss = has_any jump.Break n ss
go_all defs (Continues n) ss = has_any jump.Continue n ss

abbrev pub go_arms : List Def → Way → Bodies → Bool
go_arms defs Through arms = some_falls defs arms
go_arms defs (Breaks n) arms = has_in jump.Break n arms
go_arms defs (Continues n) arms = has_in jump.Continue n arms

-- a way out of a part is one out of the whole, where the whole goes on behind its own `break`, and has each other jump one less far out
part : (v w : Way) → outward v ≡ Some w → (inner whole : Way → Bool)
    → (inner (Breaks 0) ≡ true → whole Through ≡ true)
    → ((n : ℕ) → whole (Breaks n) ≡ inner (Breaks (suc n))) → ((n : ℕ) → whole (Continues n) ≡ inner (Continues (suc n)))
    → inner v ≡ true → whole w ≡ true
part Through w e inner whole f g k h = absurd cc
part (Breaks zero) w e inner whole f g k h = let p : Through ≡ w = cc in subst (λ (z : Way). whole z ≡ true) p (f h)
part (Breaks (suc n)) w e inner whole f g k h = let p : Breaks n ≡ w = cc in subst (λ (z : Way). whole z ≡ true) p (g n ∙ h)
part (Continues zero) w e inner whole f g k h = absurd cc
part (Continues (suc n)) w e inner whole f g k h = let p : Continues n ≡ w = cc in subst (λ (z : Way). whole z ≡ true) p (k n ∙ h)

block_goes : (defs : List Def) (ss : Stmts) (w : Way) → go_all defs w ss ≡ true → goes defs w (tree.Block ss) ≡ true
block_goes defs ss Through h = h
block_goes defs ss (Breaks n) h = h
block_goes defs ss (Continues n) h = h

then_goes : (defs : List Def) (c : Expr) (ss others : Stmts) (w : Way) → go_all defs w ss ≡ true → goes defs w (tree.If c ss others) ≡ true
then_goes defs c ss others Through h = or_left (all_fall defs ss) (all_fall defs others) h
then_goes defs c ss others (Breaks n) h = or_left (has_any jump.Break n ss) (has_any jump.Break n others) h
then_goes defs c ss others (Continues n) h = or_left (has_any jump.Continue n ss) (has_any jump.Continue n others) h

else_goes : (defs : List Def) (c : Expr) (ss others : Stmts) (w : Way) → go_all defs w others ≡ true → goes defs w (tree.If c ss others) ≡ true
else_goes defs c ss others Through h = or_right (all_fall defs ss) (all_fall defs others) h
else_goes defs c ss others (Breaks n) h = or_right (has_any jump.Break n ss) (has_any jump.Break n others) h
else_goes defs c ss others (Continues n) h = or_right (has_any jump.Continue n ss) (has_any jump.Continue n others) h

handled_goes : (defs : List Def) (ss : Stmts) (k : ℕ) (heads : List HandlerHead) (arms : Bodies) (w : Way)
    → go_all defs w ss ≡ true → goes defs w (tree.Handle ss k heads arms) ≡ true
handled_goes defs ss k heads arms Through h = or_left (all_fall defs ss) (some_falls defs arms) h
handled_goes defs ss k heads arms (Breaks n) h = or_left (has_any jump.Break n ss) (has_in jump.Break n arms) h
handled_goes defs ss k heads arms (Continues n) h = or_left (has_any jump.Continue n ss) (has_in jump.Continue n arms) h

handler_goes : (defs : List Def) (ss : Stmts) (k : ℕ) (heads : List HandlerHead) (arms : Bodies) (w : Way)
    → go_arms defs w arms ≡ true → goes defs w (tree.Handle ss k heads arms) ≡ true
handler_goes defs ss k heads arms Through h = or_right (all_fall defs ss) (some_falls defs arms) h
handler_goes defs ss k heads arms (Breaks n) h = or_right (has_any jump.Break n ss) (has_in jump.Break n arms) h
handler_goes defs ss k heads arms (Continues n) h = or_right (has_any jump.Continue n ss) (has_in jump.Continue n arms) h

here_goes : (defs : List Def) (s : Stmt) (ss : Stmts) (w : Way) → IsJump w → goes defs w s ≡ true → go_all defs w (MoreStmts s ss) ≡ true
here_goes defs s ss Through j h = absurd j
here_goes defs s ss (Breaks n) j h = or_left (has jump.Break n s) (has_any jump.Break n ss) h
here_goes defs s ss (Continues n) j h = or_left (has jump.Continue n s) (has_any jump.Continue n ss) h

behind_goes : (defs : List Def) (s : Stmt) (ss : Stmts) (w : Way) → IsJump w → go_all defs w ss ≡ true → go_all defs w (MoreStmts s ss) ≡ true
behind_goes defs s ss Through j h = absurd j
behind_goes defs s ss (Breaks n) j h = or_right (has jump.Break n s) (has_any jump.Break n ss) h
behind_goes defs s ss (Continues n) j h = or_right (has jump.Continue n s) (has_any jump.Continue n ss) h

this_goes : (defs : List Def) (ss : Stmts) (arms : Bodies) (w : Way) → go_all defs w ss ≡ true → go_arms defs w (MoreBodies ss arms) ≡ true
this_goes defs ss arms Through h = or_left (all_fall defs ss) (some_falls defs arms) h
this_goes defs ss arms (Breaks n) h = or_left (has_any jump.Break n ss) (has_in jump.Break n arms) h
this_goes defs ss arms (Continues n) h = or_left (has_any jump.Continue n ss) (has_in jump.Continue n arms) h

other_goes : (defs : List Def) (ss : Stmts) (arms : Bodies) (w : Way) → go_arms defs w arms ≡ true → go_arms defs w (MoreBodies ss arms) ≡ true
other_goes defs ss arms Through h = or_right (all_fall defs ss) (some_falls defs arms) h
other_goes defs ss arms (Breaks n) h = or_right (has_any jump.Break n ss) (has_in jump.Break n arms) h
other_goes defs ss arms (Continues n) h = or_right (has_any jump.Continue n ss) (has_in jump.Continue n arms) h

-- the test of what a `pick` misses
pick_missed : (defs : List Def) (e : Expr) (heads : List PickHead) (v : ℕ) → HasVariant defs (type_of e) v → (Takes heads v → ⊥)
    → not (takes_each (variants defs (type_of e)) heads) ≡ true
pick_missed defs e heads v h never =
    not_false (takes_each (variants defs (type_of e)) heads)
    (λ t. never (takes_sound v heads (each_taken (variants defs (type_of e)) heads t v (variant_whole defs (type_of e) v h))))

mutual
  pub goes_whole : (defs : List Def) (s : Stmt) (w : Way) → Leaves defs s w → goes defs w s ≡ true
  goes_whole defs _ _ rule.empty = refl
  goes_whole defs _ _ (rule.declared xs e) = refl
  goes_whole defs _ _ (rule.evaluated e) = refl
  goes_whole defs _ _ (rule.spawned e) = refl
  goes_whole defs _ _ (rule.block ss w l) = block_goes defs ss w (all_whole defs ss w l)
  goes_whole defs _ _ (rule.then_part c ss others w l) = then_goes defs c ss others w (all_whole defs ss w l)
  goes_whole defs _ _ (rule.else_part c ss others w l) = else_goes defs c ss others w (all_whole defs others w l)
  goes_whole defs _ _ (rule.while_ends c ss) = refl
  goes_whole defs _ _ (rule.while_part c ss v w l e) =
      part v w e (λ (z : Way). go_all defs z ss) (λ (z : Way). goes defs z (tree.While c ss)) (λ h. or_right (is_some c) (has_any jump.Break 0 ss) h) (λ n. refl) (λ n. refl)
      (all_whole defs ss v l)
  goes_whole defs _ _ (rule.for_ends first next c ss) = refl
  goes_whole defs _ _ (rule.for_part first c next ss v w l e) =
      part v w e (λ (z : Way). go_all defs z ss) (λ (z : Way). goes defs z (tree.For first c next ss)) (λ h. or_right (is_some c) (has_any jump.Break 0 ss) h) (λ n. refl) (λ n. refl)
      (all_whole defs ss v l)
  goes_whole defs _ _ (rule.do_ends ss c l) =
      or_right (has_any jump.Break 0 ss) (has_any jump.Continue 0 ss || all_fall defs ss)
      (or_right (has_any jump.Continue 0 ss) (all_fall defs ss) (all_whole defs ss Through l))
  goes_whole defs _ _ (rule.do_continues ss c l) =
      or_right (has_any jump.Break 0 ss) (has_any jump.Continue 0 ss || all_fall defs ss)
      (or_left (has_any jump.Continue 0 ss) (all_fall defs ss) (all_whole defs ss (Continues 0) l))
  goes_whole defs _ _ (rule.do_part ss c v w l e) =
      part v w e (λ (z : Way). go_all defs z ss) (λ (z : Way). goes defs z (tree.Do ss c))
      (λ h. or_left (has_any jump.Break 0 ss) (is_some c && (has_any jump.Continue 0 ss || all_fall defs ss)) h) (λ n. refl) (λ n. refl)
      (all_whole defs ss v l)
  goes_whole defs _ _ (rule.case_misses e heads arms never) =
      or_left (not (takes_rest heads)) (some_falls defs arms || has_in jump.Break 0 arms) (not_false (takes_rest heads) (λ t. never (rest_sound heads t)))
  goes_whole defs _ _ (rule.case_ends e heads arms l) =
      or_right (not (takes_rest heads)) (some_falls defs arms || has_in jump.Break 0 arms)
      (or_left (some_falls defs arms) (has_in jump.Break 0 arms) (arms_whole defs arms Through l))
  goes_whole defs _ _ (rule.case_part e heads arms v w l f) =
      part v w f (λ (z : Way). go_arms defs z arms) (λ (z : Way). goes defs z (tree.Case e heads arms))
      (λ h. or_right (not (takes_rest heads)) (some_falls defs arms || has_in jump.Break 0 arms) (or_right (some_falls defs arms) (has_in jump.Break 0 arms) h)) (λ n. refl) (λ n. refl)
      (arms_whole defs arms v l)
  goes_whole defs _ _ (rule.alt_ends heads arms l) = or_left (some_falls defs arms) (has_in jump.Break 0 arms) (arms_whole defs arms Through l)
  goes_whole defs _ _ (rule.alt_part heads arms v w l f) =
      part v w f (λ (z : Way). go_arms defs z arms) (λ (z : Way). goes defs z (tree.Alt heads arms))
      (λ h. or_right (some_falls defs arms) (has_in jump.Break 0 arms) h) (λ n. refl) (λ n. refl)
      (arms_whole defs arms v l)
  goes_whole defs _ _ (rule.pick_misses e heads arms v h never) =
      or_left (not (takes_each (variants defs (type_of e)) heads)) (some_falls defs arms || has_in jump.Break 0 arms) (pick_missed defs e heads v h never)
  goes_whole defs _ _ (rule.pick_ends e heads arms l) =
      or_right (not (takes_each (variants defs (type_of e)) heads)) (some_falls defs arms || has_in jump.Break 0 arms)
      (or_left (some_falls defs arms) (has_in jump.Break 0 arms) (arms_whole defs arms Through l))
  goes_whole defs _ _ (rule.pick_part e heads arms v w l f) =
      part v w f (λ (z : Way). go_arms defs z arms) (λ (z : Way). goes defs z (tree.Pick e heads arms))
      (λ h. or_right (not (takes_each (variants defs (type_of e)) heads)) (some_falls defs arms || has_in jump.Break 0 arms) (or_right (some_falls defs arms) (has_in jump.Break 0 arms) h)) (λ n. refl) (λ n. refl)
      (arms_whole defs arms v l)
  goes_whole defs _ _ (rule.breaks n) = number_same n
  goes_whole defs _ _ (rule.continues n) = number_same n
  goes_whole defs _ _ (rule.handled ss n heads arms w l) = handled_goes defs ss n heads arms w (all_whole defs ss w l)
  goes_whole defs _ _ (rule.handler ss n heads arms w l) = handler_goes defs ss n heads arms w (arms_whole defs arms w l)

  pub all_whole : (defs : List Def) (ss : Stmts) (w : Way) → LeaveAll defs ss w → go_all defs w ss ≡ true
  all_whole defs _ _ rule.at_end = refl
  all_whole defs _ _ (rule.one_by_one s ss l m) = and_join (falls defs s) (all_fall defs ss) (goes_whole defs s Through l) (all_whole defs ss Through m)
  all_whole defs _ _ (rule.jump_here s ss w j l) = here_goes defs s ss w j (goes_whole defs s w l)
  all_whole defs _ _ (rule.jump_behind s ss w j l) = behind_goes defs s ss w j (all_whole defs ss w l)

  pub arms_whole : (defs : List Def) (arms : Bodies) (w : Way) → LeaveArms defs arms w → go_arms defs w arms ≡ true
  arms_whole defs _ _ (rule.this_arm ss arms w l) = this_goes defs ss arms w (all_whole defs ss w l)
  arms_whole defs _ _ (rule.other_arm ss arms w l) = other_goes defs ss arms w (arms_whole defs arms w l)
