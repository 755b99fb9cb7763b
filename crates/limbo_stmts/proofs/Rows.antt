-- Statements and arms one after the other: what the rest comes to, all come to.
use Rattle.std.proofs.Common.{◌≡◌, ◌<◌, ◌≤◌, ◌+◌, ℕ, List, [], ◌∷◌, ◌++◌, length, get_or, map, drop, refl, sym, ap, subst}
use Rattle.std.proofs.lemmas.List.{drop_more, append_assoc, append-nil, drop_all}
use Rattle.limbo_tree.specs.declared.stmt.Stmt as code_stmt
use Rattle.limbo_tree.specs.Stmts as tree
use Rattle.limbo_tree.specs.View as source
use Rattle.limbo_typed.specs.declared.stmt.TStmt as code_typed
use Rattle.limbo_typed.specs.Typed as typed
use Rattle.limbo_typed.specs.View.{view_stmt, view_stmts, Arm, heads_of, bodies_of}
use Rattle.limbo_stmt_values.specs.limbo_local.Points.{Point}
use Rattle.limbo_stmt_values.specs.limbo_stating.Reasons.{Reason}
use Rattle.limbo_stmt_values.specs.limbo_stating.Around.{Around}
use Rattle.limbo_stmt_values.specs.limbo_stating.Stating.{Branch, HeadOf, States, StatesAll, StatesArms}
use Rattle.limbo_stmt_values.specs.limbo_stating.FailsToState as fails
use Rattle.limbo_stmt_values.specs.limbo_stating.FailsToState.{FailsToState, FailsAll, FailsArms}
use Rattle.limbo_stmt_values.specs.declared.fault.Why.{Why}
use Rattle.limbo_stmt_values.specs.Whys.{FailsFor}
use Rattle.limbo_stmt_values.proofs.Told.{reasons_weaker}
use Rattle.limbo_stmts.specs.Stated as stated
use Rattle.limbo_stmts.specs.Stated.{StatesArm, FailsArm}

-- ---- statements

abbrev pub stmts_from : ℕ → List code_stmt.Stmt → tree.Stmts
stmts_from i ss = source.stmts_of (map source.view_stmt (drop i ss))

stmts_more : (ss : List code_stmt.Stmt) (i : ℕ) (d : code_stmt.Stmt) → i < length ss
    → stmts_from i ss ≡ tree.MoreStmts (source.view_stmt (get_or ss i d)) (stmts_from (i + 1) ss)
stmts_more ss i d l = ap (λ xs. source.stmts_of (map source.view_stmt xs)) (drop_more ss i d l)

pub record StatedSoFar (v : Around) (start now : Point) (ss : List code_stmt.Stmt) (i : ℕ) (done : List code_typed.TStmt) : Type 0 where
  pub states : (ys : List code_typed.TStmt) (q : Point) → StatesAll v now (stmts_from i ss) (view_stmts ys) q
      → StatesAll v start (stmts_from 0 ss) (view_stmts (done ++ ys)) q
  pub fails : (k : Reason) → FailsAll v now (stmts_from i ss) k → FailsAll v start (stmts_from 0 ss) k

pub stated_start : (v : Around) (p : Point) (ss : List code_stmt.Stmt) → StatedSoFar v p p ss 0 []
stated_start v p ss = record { states = λ ys q h. h; fails = λ k h. h }

pub stated_more : (v : Around) (start now next : Point) (ss : List code_stmt.Stmt) (i : ℕ) (done : List code_typed.TStmt)
    (d : code_stmt.Stmt) (z : code_typed.TStmt) → i < length ss → States v now (source.view_stmt (get_or ss i d)) (view_stmt z) next
    → StatedSoFar v start now ss i done → StatedSoFar v start next ss (i + 1) (done ++ z ∷ [])
stated_more v start now next ss i done d z l s h = record {
  states = λ ys q w.
      subst (λ zs. StatesAll v start (stmts_from 0 ss) (view_stmts zs) q) (sym (append_assoc done (z ∷ []) ys))
      (h.states (z ∷ ys) q
      (subst (λ zs. StatesAll v now zs (view_stmts (z ∷ ys)) q) (sym (stmts_more ss i d l))
      (view_stmt z, view_stmts ys, next, s, w, refl)));
  fails = λ k w.
      h.fails k
      (subst (λ zs. FailsAll v now zs k) (sym (stmts_more ss i d l))
      (fails.later v now next (source.view_stmt (get_or ss i d)) (stmts_from (i + 1) ss) (view_stmt z) k s w));
}

pub stated_end : (v : Around) (start now : Point) (ss : List code_stmt.Stmt) (i : ℕ) (done : List code_typed.TStmt) → length ss ≤ i
    → StatedSoFar v start now ss i done → StatesAll v start (stmts_from 0 ss) (view_stmts done) now
stated_end v start now ss i done l h =
    subst (λ zs. StatesAll v start (stmts_from 0 ss) (view_stmts zs) now) (append-nil done)
    (h.states [] now
    (subst (λ zs. StatesAll v now (source.stmts_of (map source.view_stmt zs)) (view_stmts []) now) (sym (drop_all i ss l)) (refl, refl)))

pub stated_fails : (v : Around) (start now : Point) (ss : List code_stmt.Stmt) (i : ℕ) (done : List code_typed.TStmt) (d : code_stmt.Stmt)
    (w : Why) → i < length ss → FailsFor w (FailsToState v now (source.view_stmt (get_or ss i d))) → StatedSoFar v start now ss i done
    → FailsFor w (FailsAll v start (stmts_from 0 ss))
stated_fails v start now ss i done d w l told h =
    reasons_weaker w _ _ (λ k x.
    h.fails k
    (subst (λ zs. FailsAll v now zs k) (sym (stmts_more ss i d l))
    (fails.here v now (source.view_stmt (get_or ss i d)) (stmts_from (i + 1) ss) k x))) told

-- ---- arms

module _ {X Y : Type 0} (o : Branch) (view : X → source.Arm) (look : Y → Arm (HeadOf o)) (v : Around) where
  abbrev pub arms_from : ℕ → List X → tree.Arms
  arms_from i arms = source.arms_of (map view (drop i arms))

  arms_more : (arms : List X) (i : ℕ) (d : X) → i < length arms
      → arms_from i arms ≡ tree.MoreArms (view (get_or arms i d)).head (view (get_or arms i d)).body (arms_from (i + 1) arms)
  arms_more arms i d l = ap (λ xs. source.arms_of (map view xs)) (drop_more arms i d l)

  pub record ArmedSoFar (start now : Point) (arms : List X) (i : ℕ) (done : List Y) : Type 0 where
    pub states : (ys : List Y) (q : Point)
        → StatesArms o v now (arms_from i arms) (heads_of (map look ys)) (bodies_of (map look ys)) q
        → StatesArms o v start (arms_from 0 arms) (heads_of (map look (done ++ ys))) (bodies_of (map look (done ++ ys))) q
    pub fails : (k : Reason) → FailsArms o v now (arms_from i arms) k → FailsArms o v start (arms_from 0 arms) k

  pub armed_start : (p : Point) (arms : List X) → ArmedSoFar p p arms 0 []
  armed_start p arms = record { states = λ ys q h. h; fails = λ k h. h }

  pub armed_more : (start now next : Point) (arms : List X) (i : ℕ) (done : List Y) (d : X) (z : Y) → i < length arms
      → StatesArm o v now (view (get_or arms i d)) (look z) next → ArmedSoFar start now arms i done
      → ArmedSoFar start next arms (i + 1) (done ++ z ∷ [])
  armed_more start now next arms i done d z l s h = record {
    states = λ ys q w.
        subst (λ zs. StatesArms o v start (arms_from 0 arms) (heads_of (map look zs)) (bodies_of (map look zs)) q)
        (sym (append_assoc done (z ∷ []) ys))
        (h.states (z ∷ ys) q
        (subst (λ zs. StatesArms o v now zs (heads_of (map look (z ∷ ys))) (bodies_of (map look (z ∷ ys))) q) (sym (arms_more arms i d l)) (
          (look z).head,
          heads_of (map look ys),
          (look z).body,
          bodies_of (map look ys),
          s.begun,
          s.behind,
          s.head,
          s.body,
          subst (λ p. StatesArms o v p (arms_from (i + 1) arms) (heads_of (map look ys)) (bodies_of (map look ys)) q) s.goes_on w,
          refl,
          refl,
        )));
    fails = λ k w.
        h.fails k
        (subst (λ zs. FailsArms o v now zs k) (sym (arms_more arms i d l))
        (fails.behind o v now s.begun s.behind (view (get_or arms i d)).head (view (get_or arms i d)).body (arms_from (i + 1) arms)
        (look z).head (look z).body k s.head s.body
        (subst (λ p. FailsArms o v p (arms_from (i + 1) arms) k) s.goes_on w)));
  }

  pub armed_end : (start now : Point) (arms : List X) (i : ℕ) (done : List Y) → length arms ≤ i → ArmedSoFar start now arms i done
      → StatesArms o v start (arms_from 0 arms) (heads_of (map look done)) (bodies_of (map look done)) now
  armed_end start now arms i done l h =
      subst (λ zs. StatesArms o v start (arms_from 0 arms) (heads_of (map look zs)) (bodies_of (map look zs)) now) (append-nil done)
      (h.states [] now
      (subst (λ zs. StatesArms o v now (source.arms_of (map view zs)) [] typed.NoBodies now) (sym (drop_all i arms l)) (refl, refl, refl)))

  arm_fails : (p : Point) (a : source.Arm) (rest : tree.Arms) (k : Reason) → FailsArm o v p a k
      → FailsArms o v p (tree.MoreArms a.head a.body rest) k
  arm_fails p a rest k (stated.in_head _ h) = fails.in_head o v p a.head a.body rest k h
  arm_fails p a rest k (stated.in_body q x _ h w) = fails.in_body o v p q a.head a.body rest x k h w

  pub armed_fails : (start now : Point) (arms : List X) (i : ℕ) (done : List Y) (d : X) (w : Why) → i < length arms
      → FailsFor w (FailsArm o v now (view (get_or arms i d))) → ArmedSoFar start now arms i done
      → FailsFor w (FailsArms o v start (arms_from 0 arms))
  armed_fails start now arms i done d w l told h =
      reasons_weaker w _ _ (λ k x.
      h.fails k
      (subst (λ zs. FailsArms o v now zs k) (sym (arms_more arms i d l))
      (arm_fails now (view (get_or arms i d)) (arms_from (i + 1) arms) k x))) told
