-- What the tests say of statements holds by the rules.
use Rattle.std.proofs.Common.{◌≡◌, ℕ, suc, inl, inr, Bool, true, false, not, ◌&&◌, ◌||◌, nat_eq, List, Option, None, Some, refl, subst}
use Rattle.limbo_layout.specs.Adts.{Def}
use Rattle.limbo_typed.specs.declared.stmt.CasePattern.{CasePattern}
use Rattle.limbo_typed.specs.Sound.{type_of}
use Rattle.limbo_typed.specs.Typed.{Expr, AltHead, PickHead, HandlerHead, Stmt, Stmts, NoStmts, MoreStmts, Bodies, NoBodies, MoreBodies}
use Rattle.limbo_typed.specs.Typed as tree
use Rattle.limbo_paths.specs.declared.jumps.Jump.{Jump}
use Rattle.limbo_paths.specs.declared.jumps.Jump.TheVariants as jump
use Rattle.limbo_paths.specs.Paths as rule
use Rattle.limbo_paths.specs.Paths.{Way, Through, Breaks, Continues, Leaves, LeaveAll, LeaveArms}
use Rattle.limbo_paths.specs.Walking.{way, is_break, has, has_any, has_in, is_some, takes_rest, takes_each, variants, falls, all_fall, some_falls}
use Rattle.limbo_paths.proofs.Tests.{or_split, and_split, not_true, same_number, out, is_jump, rest_whole, takes_whole, each_missed, variant_sound}

break_is : (defs : List Def) (j : Jump) (n m : ℕ) → (is_break j && nat_eq m n) ≡ true → Leaves defs (tree.Break m) (way j n)
break_is defs jump.Break n m h = subst (λ (z : ℕ). Leaves defs (tree.Break m) (Breaks z)) (same_number m n h) (rule.breaks m)
break_is defs jump.Continue n m h = absurd cc

continue_is : (defs : List Def) (j : Jump) (n m : ℕ) → (not (is_break j) && nat_eq m n) ≡ true → Leaves defs (tree.Continue m) (way j n)
continue_is defs jump.Break n m h = absurd cc
continue_is defs jump.Continue n m h = subst (λ (z : ℕ). Leaves defs (tree.Continue m) (Continues z)) (same_number m n h) (rule.continues m)

module _ (defs : List Def) where
  mutual
    pub has_sound : (j : Jump) (n : ℕ) (s : Stmt) → has j n s ≡ true → Leaves defs s (way j n)
    has_sound j n (tree.Block ss) h = rule.block ss (way j n) (any_sound j n ss h)
    has_sound j n (tree.If c ss others) h = elim (or_split (has_any j n ss) (has_any j n others) h) [
      | inl a ↦ rule.then_part c ss others (way j n) (any_sound j n ss a)
      | inr b ↦ rule.else_part c ss others (way j n) (any_sound j n others b)
    ]
    has_sound j n (tree.While c ss) h = rule.while_part c ss (way j (suc n)) (way j n) (any_sound j (suc n) ss h) (out j n)
    has_sound j n (tree.Do ss c) h = rule.do_part ss c (way j (suc n)) (way j n) (any_sound j (suc n) ss h) (out j n)
    has_sound j n (tree.For first c next ss) h = rule.for_part first c next ss (way j (suc n)) (way j n) (any_sound j (suc n) ss h) (out j n)
    has_sound j n (tree.Case e heads arms) h = rule.case_part e heads arms (way j (suc n)) (way j n) (in_sound j (suc n) arms h) (out j n)
    has_sound j n (tree.Alt heads arms) h = rule.alt_part heads arms (way j (suc n)) (way j n) (in_sound j (suc n) arms h) (out j n)
    has_sound j n (tree.Pick e heads arms) h = rule.pick_part e heads arms (way j (suc n)) (way j n) (in_sound j (suc n) arms h) (out j n)
    has_sound j n (tree.Handle ss k heads arms) h = elim (or_split (has_any j n ss) (has_in j n arms) h) [
      | inl a ↦ rule.handled ss k heads arms (way j n) (any_sound j n ss a)
      | inr b ↦ rule.handler ss k heads arms (way j n) (in_sound j n arms b)
    ]
    has_sound j n (tree.Break m) h = break_is defs j n m h
    has_sound j n (tree.Continue m) h = continue_is defs j n m h
    has_sound j n s h = absurd cc

    pub any_sound : (j : Jump) (n : ℕ) (ss : Stmts) → has_any j n ss ≡ true → LeaveAll defs ss (way j n)
    any_sound j n NoStmts h = absurd cc
    any_sound j n (MoreStmts s ss) h = elim (or_split (has j n s) (has_any j n ss) h) [
      | inl a ↦ rule.jump_here s ss (way j n) (is_jump j n) (has_sound j n s a)
      | inr b ↦ rule.jump_behind s ss (way j n) (is_jump j n) (any_sound j n ss b)
    ]

    pub in_sound : (j : Jump) (n : ℕ) (arms : Bodies) → has_in j n arms ≡ true → LeaveArms defs arms (way j n)
    in_sound j n NoBodies h = absurd cc
    in_sound j n (MoreBodies ss arms) h = elim (or_split (has_any j n ss) (has_in j n arms) h) [
      | inl a ↦ rule.this_arm ss arms (way j n) (any_sound j n ss a)
      | inr b ↦ rule.other_arm ss arms (way j n) (in_sound j n arms b)
    ]

  while_falls : (c : Option Expr) (ss : Stmts) → (is_some c || has_any jump.Break 0 ss) ≡ true → Leaves defs (tree.While c ss) Through
  while_falls (Some c) ss h = rule.while_ends c ss
  while_falls None ss h = rule.while_part None ss (Breaks 0) Through (any_sound jump.Break 0 ss h) refl

  for_falls : (first c next : Option Expr) (ss : Stmts) → (is_some c || has_any jump.Break 0 ss) ≡ true → Leaves defs (tree.For first c next ss) Through
  for_falls first (Some c) next ss h = rule.for_ends first next c ss
  for_falls first None next ss h = rule.for_part first None next ss (Breaks 0) Through (any_sound jump.Break 0 ss h) refl

  case_misses : (e : Expr) (heads : List (List CasePattern)) (arms : Bodies) → not (takes_rest heads) ≡ true → Leaves defs (tree.Case e heads arms) Through
  case_misses e heads arms h = rule.case_misses e heads arms (λ t. not_true (takes_rest heads) h (rest_whole heads t))

  pick_misses : (e : Expr) (heads : List PickHead) (arms : Bodies) → not (takes_each (variants defs (type_of e)) heads) ≡ true → Leaves defs (tree.Pick e heads arms) Through
  pick_misses e heads arms h = go (takes_each (variants defs (type_of e)) heads) refl h where
    go : (b : Bool) → takes_each (variants defs (type_of e)) heads ≡ b → not b ≡ true → Leaves defs (tree.Pick e heads arms) Through
    go true f k = absurd cc
    go false f k =
        let m = each_missed (variants defs (type_of e)) heads f in
        rule.pick_misses e heads arms m.0 (variant_sound defs (type_of e) m.0 m.1) (λ t. m.2 (takes_whole m.0 heads t))

  mutual
    pub falls_sound : (s : Stmt) → falls defs s ≡ true → Leaves defs s Through
    falls_sound tree.Empty h = rule.empty
    falls_sound (tree.Declare xs e) h = rule.declared xs e
    falls_sound (tree.Eval e) h = rule.evaluated e
    falls_sound (tree.Spawn e) h = rule.spawned e
    falls_sound (tree.Block ss) h = rule.block ss Through (all_sound ss h)
    falls_sound (tree.If c ss others) h = elim (or_split (all_fall defs ss) (all_fall defs others) h) [
      | inl a ↦ rule.then_part c ss others Through (all_sound ss a)
      | inr b ↦ rule.else_part c ss others Through (all_sound others b)
    ]
    falls_sound (tree.While c ss) h = while_falls c ss h
    falls_sound (tree.For first c next ss) h = for_falls first c next ss h
    falls_sound (tree.Do ss None) h = elim (or_split (has_any jump.Break 0 ss) false h) [
      | inl a ↦ rule.do_part ss None (Breaks 0) Through (any_sound jump.Break 0 ss a) refl
      | inr a ↦ absurd cc
    ]
    falls_sound (tree.Do ss (Some c)) h = elim (or_split (has_any jump.Break 0 ss) (has_any jump.Continue 0 ss || all_fall defs ss) h) [
      | inl a ↦ rule.do_part ss (Some c) (Breaks 0) Through (any_sound jump.Break 0 ss a) refl
      | inr a ↦ elim (or_split (has_any jump.Continue 0 ss) (all_fall defs ss) a) [
        | inl b ↦ rule.do_continues ss c (any_sound jump.Continue 0 ss b)
        | inr b ↦ rule.do_ends ss c (all_sound ss b)
      ]
    ]
    falls_sound (tree.Case e heads arms) h = elim (or_split (not (takes_rest heads)) (some_falls defs arms || has_in jump.Break 0 arms) h) [
      | inl a ↦ case_misses e heads arms a
      | inr a ↦ elim (or_split (some_falls defs arms) (has_in jump.Break 0 arms) a) [
        | inl b ↦ rule.case_ends e heads arms (some_sound arms b)
        | inr b ↦ rule.case_part e heads arms (Breaks 0) Through (in_sound jump.Break 0 arms b) refl
      ]
    ]
    falls_sound (tree.Alt heads arms) h = elim (or_split (some_falls defs arms) (has_in jump.Break 0 arms) h) [
      | inl b ↦ rule.alt_ends heads arms (some_sound arms b)
      | inr b ↦ rule.alt_part heads arms (Breaks 0) Through (in_sound jump.Break 0 arms b) refl
    ]
    falls_sound (tree.Pick e heads arms) h = elim (or_split (not (takes_each (variants defs (type_of e)) heads)) (some_falls defs arms || has_in jump.Break 0 arms) h) [
      | inl a ↦ pick_misses e heads arms a
      | inr a ↦ elim (or_split (some_falls defs arms) (has_in jump.Break 0 arms) a) [
        | inl b ↦ rule.pick_ends e heads arms (some_sound arms b)
        | inr b ↦ rule.pick_part e heads arms (Breaks 0) Through (in_sound jump.Break 0 arms b) refl
      ]
    ]
    falls_sound (tree.Handle ss n heads arms) h = elim (or_split (all_fall defs ss) (some_falls defs arms) h) [
      | inl a ↦ rule.handled ss n heads arms Through (all_sound ss a)
      | inr b ↦ rule.handler ss n heads arms Through (some_sound arms b)
    ]
    falls_sound s h = absurd cc

    pub all_sound : (ss : Stmts) → all_fall defs ss ≡ true → LeaveAll defs ss Through
    all_sound NoStmts h = rule.at_end
    all_sound (MoreStmts s ss) h =
        let p = and_split (falls defs s) (all_fall defs ss) h in
        rule.one_by_one s ss (falls_sound s p.0) (all_sound ss p.1)

    pub some_sound : (arms : Bodies) → some_falls defs arms ≡ true → LeaveArms defs arms Through
    some_sound NoBodies h = absurd cc
    some_sound (MoreBodies ss arms) h = elim (or_split (all_fall defs ss) (some_falls defs arms) h) [
      | inl a ↦ rule.this_arm ss arms Through (all_sound ss a)
      | inr b ↦ rule.other_arm ss arms Through (some_sound arms b)
    ]
