use Rattle.std.proofs.Common.{◌≡◌, List, None, inl, inr, ap, sym, subst, ◌∙◌, arith}
use Rattle.std.specs.List.{Contains}
use Rattle.limbo_defined.specs.declared.wants.Wanted as code_wanted
use Rattle.limbo_defined.specs.Labels.{label}
use Rattle.limbo_defined.specs.Sets.{get_label}
use Rattle.limbo_defined.specs.Wanted.{Wanted}
use Rattle.limbo_defined.specs.View.{view_wanted, wanted_of}
use Rattle.limbo_defined.proofs.Checking.{next_taken, all_taken, still_some}
use Rattle.limbo_defined.proofs.checks.undefined.Goals as goal

pub loop-w-preserved : goal.loop-w-preserved
loop-w-preserved c =
    λ w h e.
    let x = c.w-item.result in
    let set = c.args.set.now in
    elim (next_taken view_wanted c.args.wanted.now c.loop-w.w-index x w (omega arith) c.w-item.is h) [
      | inl d ↦ c.loop-w.invariant w d e
      | inr s ↦
          let q : get_label set (label (view_wanted x).name (view_wanted x).part) ≡ None = subst
          (λ (z : Wanted). get_label set (label z.name z.part) ≡ None) (sym s) e in
          still_some c.look_up.result c.if-is_none.ensures (c.look_up.ensures ∙ ap (get_label set) c.in_ok-text.ensures ∙ q)
    ]

pub returns-clause-none : goal.returns-clause-none
returns-clause-none c =
    λ w h e.
    let t = all_taken c.args.wanted.now c.loop-w.w-index (omega arith) in
    c.loop-w.invariant w (subst (λ (ws : List code_wanted.Wanted). Contains (wanted_of ws) w) (sym t) h) e
