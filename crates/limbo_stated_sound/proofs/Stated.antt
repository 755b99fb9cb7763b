-- Statements are sound.
use Rattle.std.proofs.Common.{◌≡◌, ◌<◌, ℕ, zero, suc, Bool, List, [], ◌∷◌, map, Option, None, Some}
use Rattle.std.proofs.Common.{refl, sym, ap, subst, ◌∙◌, arith}
use Rattle.std.specs.Prelude.{slice_get}
use Rattle.std.proofs.lemmas.Option.{none-some, same_Some, slice_get_within}
use Rattle.limbo_tree.specs.Exprs as exprs
use Rattle.limbo_tree.specs.Stmts as tree
use Rattle.limbo_typed.specs.Typed.{Expr, Stmt, Stmts, NoStmts, Bodies, Module, Function}
use Rattle.limbo_typed.specs.Typed.{Empty, Block, Eval, If, While, Do, For, Case, Alt, Pick, Break, Continue, Return, Exit, Spawn}
use Rattle.limbo_typed.specs.Typed.{RaiseAgain, Handle, NoBodies, MoreBodies, MoreStmts}
use Rattle.limbo_typed.specs.Sound.{type_of, IsSettled, SoundStmt, SoundStmts}
use Rattle.limbo_standing.proofs.Settled.{settled_stands}
use Rattle.limbo_typed.specs.Fitting.{Stands}
use Rattle.limbo_types.specs.Types.{Ty}
use Rattle.limbo_stating.specs.limbo_local.Points.{Point, enter, leave}
use Rattle.limbo_stating.specs.Around.{Turn, Around, in_loop, in_branch, in_arm_of}
use Rattle.limbo_stating.specs.Stating.{Branch, OfCase, OfAlt, OfPick, OfHandler, HeadOf, Spawns, one, with_catch}
use Rattle.limbo_stating.specs.Stating.{States, StatesAll, StatesBlock, StatesArms}
use Rattle.limbo_typed_sound.specs.Describing.{Begins}
use Rattle.limbo_typed_sound.proofs.Ready.{sound, asked}
use Rattle.limbo_typed_sound.proofs.Bodies.{before}
use Rattle.limbo_stated_sound.specs.Growing.{LeadsTo}
use Rattle.limbo_stated_sound.specs.Proper.{IsProperStmt, AreProperStmts, IsProperBlock, AreProperArms}
use Rattle.limbo_stated_sound.specs.Standing.{HasAllTypes, Covers, IsAround, Reaches}
use Rattle.limbo_stated_sound.specs.Laws.{IsBranch, SoundHead, SoundArms}
use Rattle.limbo_stated_sound.proofs.Leading.{value_leads}
use Rattle.limbo_stated_sound.proofs.Rows as rows
use Rattle.limbo_stated_sound.proofs.Staying.{KnownAt, scope_known}
use Rattle.limbo_stated_sound.proofs.Going.{covered_there, covered_at, pick_stays, branch_stays, go_by_value, go_may_evaluate}
use Rattle.limbo_stated_sound.proofs.Going.{go_may_test, go_head, enters, go, go_all}
use Rattle.limbo_stated_sound.proofs.Parts.{ready_value, ready_typed, evaluated, may_be_evaluated, tested, may_be_tested, declared, chosen}
use Rattle.limbo_stated_sound.proofs.Parts.{HeadIs, head, picked_from, raised}

-- ---- what stands around

abbrev pub turns : Around → List Bool
turns v = map (λ t. t.is_loop) v.turns

module _ (m : Module) (f : Function) where
  pub reaches_there : (p q : Point) → LeadsTo p q → Reaches f q → Reaches f p
  reaches_there p q l r = record {
    variables = before p.body q.body f.variables l.variables r.variables;
    catches = let a = l.catches in let b = r.catches in omega arith;
  }

  reaches_at : (p q : Point) → q ≡ p → Reaches f q → Reaches f p
  reaches_at p q e r = subst (Reaches f) e r

  looped : (l : Option (List ℕ)) (v : Around) → IsAround m f v → IsAround m f (in_loop l v)
  looped l v a = record { answer = a.answer; named = a.named; caught = a.caught }

  branched : (l : Option (List ℕ)) (v : Around) → IsAround m f v → IsAround m f (in_branch l v)
  branched l v a = record { answer = a.answer; named = a.named; caught = a.caught }

  handled : (n : ℕ) (v : Around) → n < f.catches → IsAround m f v → IsAround m f (in_arm_of n v)
  handled n v l a = record { answer = a.answer; named = a.named; caught = λ k e. subst (λ (i : ℕ). i < f.catches) (same_Some n k e) l }

turn_at : (ts : List Turn) (n : ℕ) (t : Turn) → slice_get ts n ≡ Some t → slice_get (map (λ u. u.is_loop) ts) n ≡ Some t.is_loop
turn_at [] n t e = absurd (none-some t e)
turn_at (u ∷ ts) zero t e = ap (λ (o : Option Turn). option_loop o) e
  where
    option_loop : Option Turn → Option Bool
    option_loop None = None
    option_loop (Some t) = Some t.is_loop
turn_at (u ∷ ts) (suc n) t e = turn_at ts n t e

-- ---- statements

module _ (m : Module) (all : HasAllTypes m) (f : Function) where
  at : (around : List Bool) (z y : Stmt) → z ≡ y → SoundStmt m f around y → SoundStmt m f around z
  at around z y e h = subst (SoundStmt m f around) (sym e) h

  all_at : (around : List Bool) (z y : Stmts) → z ≡ y → SoundStmts m f around y → SoundStmts m f around z
  all_at around z y e h = subst (SoundStmts m f around) (sym e) h

  spawned : (v : Around) (p : Point) (e : exprs.Expr) (x : Expr) (q : Point) → Covers m p.context → KnownAt m p
      → IsProperStmt (tree.Spawn e)
      → Begins q.body.variables f.variables → Spawns p e x q → SoundStmt m f (turns v) (Spawn x)
  spawned v p e x q c k i g h =
      let r = ready_typed m all f.variables p e x h.behind c k i
      (subst (λ (y : Point). Begins y.body.variables f.variables) h.goes_on g) h.types in
      (sound m f.variables x r (subst IsSettled (sym h.no_answer) tt), h.call, h.no_answer)

  arms_at : (o : Branch) (v : Around) (hs is : List (HeadOf o)) (bs ds : Bodies) → hs ≡ is → bs ≡ ds → SoundArms m f o v is ds
      → SoundArms m f o v hs bs
  arms_at o v hs is bs ds e i h =
      subst (λ (x : Bodies). SoundArms m f o v hs x) (sym i) (subst (λ (x : List (HeadOf o)). SoundArms m f o v x ds) (sym e) h)

  head_of : (o : Branch) (h : HeadOf o) → HeadIs m all f.variables o h → SoundHead m f o h
  head_of (OfCase t) h s = s
  head_of OfAlt h s = s
  head_of (OfPick n a) h s = s
  head_of (OfHandler n) h s = s

  mutual
    pub stated : (v : Around) (p : Point) (s : tree.Stmt) (z : Stmt) (q : Point) → Covers m q.context → KnownAt m p → IsAround m f v
        → Reaches f q → IsProperStmt s → States v p s z q → SoundStmt m f (turns v) z
    stated v p tree.Empty z q c k a r i h = at (turns v) z Empty h.0 tt
    stated v p (tree.Nested b) z q c k a r i h = block v p b z q c k a r i h
    stated v p (tree.Declare d) z q c k a r i h = declared m all f (turns v) v.module_name d p q z c k i r.variables h
    stated v p (tree.Eval e) z q c k a r i h =
        let d = covered_there m p q (rows.evaluated_leads p e h.0 q h.1) c in
        at (turns v) z (Eval h.0) h.2 (evaluated m all f.variables p e h.0 q d k i r.variables h.1)
    stated v p (tree.If e s) z q c k a r i h =
        let l = rows.stated_leads v h.2 s h.1 q h.4 in
        let d = covered_there m h.2 q l c in
        let o = covered_there m p h.2 (rows.tests_lead p e h.0 h.2 h.3) d in
        let k1 = go_by_value m all p e h.0 h.2 o k h.3.has in
        let r1 = reaches_there m f h.2 q l r in
        at (turns v) z (If h.0 (one h.1) NoStmts) h.5
        (tested m all f.variables p e h.0 h.2 o k i.0 r1.variables h.3, (stated v h.2 s h.1 q c k1 a r i.1 h.4, tt), tt)
    stated v p (tree.IfElse e s t) z q c k a r i h =
        let l2 = rows.stated_leads v h.4 t h.2 q h.7 in
        let d2 = covered_there m h.4 q l2 c in
        let r2 = reaches_there m f h.4 q l2 r in
        let l1 = rows.stated_leads v h.3 s h.1 h.4 h.6 in
        let d1 = covered_there m h.3 h.4 l1 d2 in
        let r1 = reaches_there m f h.3 h.4 l1 r2 in
        let d0 = covered_there m p h.3 (rows.tests_lead p e h.0 h.3 h.5) d1 in
        let k1 = go_by_value m all p e h.0 h.3 d0 k h.5.has in
        let k2 = go m all v h.3 s h.1 h.4 d2 k1 i.1 h.6 in
        at (turns v) z (If h.0 (one h.1) (one h.2)) h.8 (
          tested m all f.variables p e h.0 h.3 d0 k i.0 r1.variables h.5,
          (stated v h.3 s h.1 h.4 d2 k1 a r2 i.1 h.6, tt),
          (stated v h.4 t h.2 q c k2 a r i.2 h.7, tt),
        )
    stated v p (tree.While l e s) z q c k a r i h =
        let w = in_loop l v in
        let l1 = rows.stated_leads w h.2 s h.1 q h.4 in
        let d1 = covered_there m h.2 q l1 c in
        let r1 = reaches_there m f h.2 q l1 r in
        let d0 = covered_there m p h.2 (rows.may_test_leads p e h.0 h.2 h.3) d1 in
        let k1 = go_may_test m all p e h.0 h.2 d0 k h.3 in
        at (turns v) z (While h.0 (one h.1)) h.5 (
          may_be_tested m all f.variables p e h.0 h.2 d0 k i.0 r1.variables h.3,
          (stated w h.2 s h.1 q c k1 (looped m f l v a) r i.1 h.4, tt),
        )
    stated v p (tree.Do l s e) z q c k a r i h =
        let w = in_loop l v in
        let l1 = rows.may_test_leads h.2 e h.0 q h.4 in
        let d1 = covered_there m h.2 q l1 c in
        let r1 = reaches_there m f h.2 q l1 r in
        let k1 = go m all w p s h.1 h.2 d1 k i.0 h.3 in
        at (turns v) z (Do (one h.1) h.0) h.5 (
          (stated w p s h.1 h.2 d1 k (looped m f l v a) r1 i.0 h.3, tt),
          may_be_tested m all f.variables h.2 e h.0 q d1 k1 i.1 r.variables h.4,
        )
    stated v p (tree.For l x e b s) z q c k a r i h =
        let w = in_loop l v in
        let l3 = rows.stated_leads w h.6 s h.3 q h.10 in
        let d3 = covered_there m h.6 q l3 c in
        let r3 = reaches_there m f h.6 q l3 r in
        let l2 = rows.may_evaluate_leads h.5 b h.2 h.6 h.9 in
        let d2 = covered_there m h.5 h.6 l2 d3 in
        let r2 = reaches_there m f h.5 h.6 l2 r3 in
        let l1 = rows.may_test_leads h.4 e h.1 h.5 h.8 in
        let d1 = covered_there m h.4 h.5 l1 d2 in
        let r1 = reaches_there m f h.4 h.5 l1 r2 in
        let d0 = covered_there m p h.4 (rows.may_evaluate_leads p x h.0 h.4 h.7) d1 in
        let k1 = go_may_evaluate m all p x h.0 h.4 d0 k h.7 in
        let k2 = go_may_test m all h.4 e h.1 h.5 d1 k1 h.8 in
        let k3 = go_may_evaluate m all h.5 b h.2 h.6 d2 k2 h.9 in
        at (turns v) z (For h.0 h.1 h.2 (one h.3)) h.11 (
          may_be_evaluated m all f.variables p x h.0 h.4 d0 k i.0 r1.variables h.7,
          may_be_tested m all f.variables h.4 e h.1 h.5 d1 k1 i.1 r2.variables h.8,
          may_be_evaluated m all f.variables h.5 b h.2 h.6 d2 k2 i.2 r3.variables h.9,
          (stated w h.6 s h.3 q c k3 (looped m f l v a) r i.3 h.10, tt),
        )
    stated v p (tree.Case l e arms) z q c k a r i h =
        let w = in_branch l v in
        let o = OfCase (type_of h.0) in
        let l1 = rows.arms_lead o w h.3 arms h.1 h.2 q h.5 in
        let d1 = covered_there m h.3 q l1 c in
        let r1 = reaches_there m f h.3 q l1 r in
        let d0 = covered_there m p h.3 (value_leads p e h.4.value h.3 h.4.has) d1 in
        let k1 = go_by_value m all p e h.4.value h.3 d0 k h.4.has in
        let x = chosen m all f.variables h.4.value h.0 h.4.is
        (ready_value m all f.variables p e h.4.value h.3 d0 k i.0 r1.variables h.4.has) in
        let t = arms_stated o w h.3 arms h.1 h.2 q c k1 tt (branched m f l v a) r i.1 h.5 in
        at (turns v) z (Case h.0 h.1 h.2) h.7 (x.0, x.1, t.heads, t.as_many, t.bodies)
    stated v p (tree.Alt l arms) z q c k a r i h =
        let w = in_branch l v in
        let t = arms_stated OfAlt w p arms h.0 h.1 q c k tt (branched m f l v a) r i h.2 in
        at (turns v) z (Alt h.0 h.1) h.4 (t.heads, t.as_many, t.bodies)
    stated v p (tree.Pick l n e arms) z q c k a r i h =
        let w = in_branch l v in
        let o = OfPick n h.1 in
        let l1 = rows.arms_lead o w h.4 arms h.2 h.3 q h.6 in
        let d1 = covered_there m h.4 q l1 c in
        let r1 = reaches_there m f h.4 q l1 r in
        let l0 = value_leads p e h.0 h.4 h.5.has in
        let d0 = covered_there m p h.4 l0 d1 in
        let k1 = go_by_value m all p e h.0 h.4 d0 k h.5.has in
        let x = picked_from m all f.variables p h.0 h.1 h.5.is (ready_value m all f.variables p e h.0 h.4 d0 k i.0 r1.variables h.5.has) in
        let t = arms_stated o w h.4 arms h.2 h.3 q c k1 (pick_stays p.context h.4.context l0.context h.1 h.5.is.pick) (branched m f l v a) r
        i.1 h.6 in
        at (turns v) z (Pick h.0 h.2 h.3) h.8 (x.0, (h.1, x.1, t.heads), t.as_many, t.bodies)
    stated v p (tree.Break l) z q c k a r i h =
        at (turns v) z (Break h.0) h.2 (slice_get_within (turns v) h.0 h.1.turn.is_loop (turn_at v.turns h.0 h.1.turn h.1.there))
    stated v p (tree.Continue l) z q c k a r i h =
        at (turns v) z (Continue h.0) h.2 (turn_at v.turns h.0 h.1.turn h.1.there ∙ ap (λ (b : Bool). Some b) h.1.is.1)
    stated v p (tree.Return None) z q c k a r i h = at (turns v) z (Return None) h.1 (a.answer ∙ h.0)
    stated v p (tree.Return (Some e)) z q c k a r i h =
        let d = covered_there m p q (value_leads p e h.0 q h.2) c in
        let y = ready_value m all f.variables p e h.0 q d k i r.variables h.2 in
        at (turns v) z (Return (Some h.1)) h.4 (
          asked m f.variables v.answer h.0 h.1 h.3 y a.named,
          subst (λ (t : Ty). Stands (type_of h.1) t) (sym a.answer) (settled_stands v.answer h.0 h.1 h.3),
        )
    stated v p tree.Exit z q c k a r i h = at (turns v) z Exit h.0 tt
    stated v p (tree.Spawn e) z q c k a r i h =
        let d = covered_there m p q (rows.typed_leads p e h.0 h.1.behind q h.1.types h.1.goes_on) c in
        at (turns v) z (Spawn h.0) h.2 (spawned v p e h.0 q d k i r.variables h.1)
    stated v p (tree.Raise None) z q c k a r i h = at (turns v) z (RaiseAgain h.0) h.2 (a.caught h.0 h.1)
    stated v p (tree.Raise (Some e)) z q c k a r i h =
        raised m all f (turns v) p e z q (covered_there m p q (rows.raises_lead p e z q h) c) k i r.variables h

    pub all_stated : (v : Around) (p : Point) (ss : tree.Stmts) (zs : Stmts) (q : Point) → Covers m q.context → KnownAt m p
        → IsAround m f v → Reaches f q → AreProperStmts ss → StatesAll v p ss zs q → SoundStmts m f (turns v) zs
    all_stated v p tree.NoStmts zs q c k a r i h = all_at (turns v) zs NoStmts h.0 tt
    all_stated v p (tree.MoreStmts s ss) zs q c k a r i h =
        let l = rows.all_lead v h.2 ss h.1 q h.4 in
        let d = covered_there m h.2 q l c in
        all_at (turns v) zs (MoreStmts h.0 h.1) h.5 (
          stated v p s h.0 h.2 d k a (reaches_there m f h.2 q l r) i.0 h.3,
          all_stated v h.2 ss h.1 q c (go m all v p s h.0 h.2 d k i.0 h.3) a r i.1 h.4,
        )

    pub block : (v : Around) (p : Point) (b : tree.Block) (z : Stmt) (q : Point) → Covers m q.context → KnownAt m p → IsAround m f v
        → Reaches f q → IsProperBlock b → StatesBlock v p b z q → SoundStmt m f (turns v) z
    block v p (tree.Plain ss) z q c k a r i h =
        let d = covered_at m (leave h.1) q h.4 c in
        let w = reaches_at m f (leave h.1) q h.4 r in
        at (turns v) z (Block h.0) h.3
        (all_stated v (enter p) ss h.0 h.1 d (enters m all p k) a (record { variables = w.variables; catches = w.catches }) i h.2)
    block v p (tree.Handled ss n arms) z q c k a r i h =
        let o = with_catch p in
        let w = in_arm_of p.catches v in
        let u = OfHandler n in
        let l = rows.arms_lead u w (leave h.3) arms h.1 h.2 q h.5 in
        let d = covered_there m (leave h.3) q l c in
        let r1 = reaches_there m f (leave h.3) q l r in
        let l0 = rows.all_lead v (enter o) ss h.0 h.3 h.4 in
        let g = go_all m all v (enter o) ss h.0 h.3 d (enters m all o k) i.0 h.4 in
        let s = scope_known m all.types o h.3 k g l0 in
        let x = l0.catches in
        let y = r1.catches in
        let t = arms_stated u w (leave h.3) arms h.1 h.2 q c s tt (handled m f p.catches v (omega arith) a) r i.1 h.5 in
        at (turns v) z (Handle h.0 p.catches h.1 h.2) h.6 (
          all_stated v (enter o) ss h.0 h.3 d (enters m all o k) a (record { variables = r1.variables; catches = r1.catches }) i.0 h.4,
          omega arith,
          t.heads,
          t.as_many,
          t.bodies,
        )

    pub arms_stated : (o : Branch) (v : Around) (p : Point) (arms : tree.Arms) (hs : List (HeadOf o)) (bs : Bodies) (q : Point)
        → Covers m q.context → KnownAt m p → IsBranch p.context o → IsAround m f v → Reaches f q → AreProperArms arms
        → StatesArms o v p arms hs bs q → SoundArms m f o v hs bs
    arms_stated o v p tree.NoArms hs bs q c k j a r i h =
        arms_at o v hs [] bs NoBodies h.0 h.1 (record { heads = tt; as_many = refl; bodies = tt })
    arms_stated o v p (tree.MoreArms x ss arms) hs bs q c k j a r i h =
        let l = rows.arms_lead o v (leave h.5) arms h.1 h.3 q h.8 in
        let d = covered_there m (leave h.5) q l c in
        let r2 = reaches_there m f (leave h.5) q l r in
        let r1 : Reaches f h.5 = record { variables = r2.variables; catches = r2.catches } in
        let l1 = rows.all_lead v h.4 ss h.2 h.5 h.7 in
        let d0 = covered_there m h.4 h.5 l1 d in
        let r0 = reaches_there m f h.4 h.5 l1 r1 in
        let k0 = go_head m all o (enter p) x h.0 h.4 d0 (enters m all p k) j h.6 in
        let k1 = go_all m all v h.4 ss h.2 h.5 d k0 i.1 h.7 in
        let l2 = rows.arm_leads o v p x ss h.0 h.2 h.4 h.5 h.6 h.7 in
        let k2 = scope_known m all.types p h.5 k k1 l2 in
        let t = arms_stated o v (leave h.5) arms h.1 h.3 q c k2 (branch_stays p.context h.5.context l2.context o j) a r i.2 h.8 in
        let n = t.as_many in
        arms_at o v hs (h.0 ∷ h.1) bs (MoreBodies h.2 h.3) h.9 h.10
        (record {
          heads = (head_of o h.0 (head m all f.variables o (enter p) x h.0 h.4 d0 (enters m all p k) i.0 r0.variables h.6), t.heads);
          as_many = omega arith;
          bodies = (all_stated v h.4 ss h.2 h.5 d k0 a r1 i.1 h.7, t.bodies);
        })
