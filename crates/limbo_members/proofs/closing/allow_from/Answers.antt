use Rattle.std.proofs.Common.{arith, ◌≡◌, ◌<◌, ◌≤◌, inl, inr, List, Some, length, sym, ap, subst, ◌∙◌}
use Rattle.std.specs.Prelude.{slice_get}
use Rattle.std.proofs.lemmas.Option.{slice_get_within}
use Rattle.limbo_layout.specs.declared.def.AdtDef as code_def
use Rattle.limbo_layout.specs.Adts.{Def}
use Rattle.limbo_layout.specs.View.{view_def, view_defs}
use Rattle.limbo_context.specs.View.{view_context}
use Rattle.limbo_locals.specs.limbo_local.Failing as failing
use Rattle.limbo_members.specs.Standing.{IsAllowedIn}
use Rattle.limbo_members.proofs.Named.{viewed_there, below_or_last}
use Rattle.limbo_members.proofs.Closed.{refuses_weaker, length_defs}
use Rattle.limbo_members.proofs.closing.allow_from.Goals as goal

pub returns-in-Err-clause-refused : goal.returns-in-Err-clause-refused
returns-in-Err-clause-refused c =
    let there : slice_get (view_defs c.args.context.now.adts.adts) c.loop-number.number ≡ Some (view_def c.index-defs-number.result) =
    subst (λ (ds : List code_def.AdtDef). slice_get (view_defs ds) c.loop-number.number ≡ Some (view_def c.index-defs-number.result))
    c.defs-defs.ensures (viewed_there view_def c.defs-defs.result.now c.loop-number.number c.index-defs-number.result
    c.index-defs-number.is c.loop-number-test.true) in
    let from : c.args.first ≤ c.loop-number.number = c.loop-number.auto.number in
    refuses_weaker c.in-Err.fault _ _
    (λ r h. failing.parts_refused c.loop-number.number (view_def c.index-defs-number.result) r from there h) c.in-Err.ensures.refused

pub loop-number-preserved : goal.loop-number-preserved
loop-number-preserved c = λ a d l b at.
    let there : slice_get (view_defs c.args.context.now.adts.adts) c.loop-number.number ≡ Some (view_def c.index-defs-number.result) =
    subst (λ (ds : List code_def.AdtDef). slice_get (view_defs ds) c.loop-number.number ≡ Some (view_def c.index-defs-number.result))
    c.defs-defs.ensures (viewed_there view_def c.defs-defs.result.now c.loop-number.number c.index-defs-number.result
    c.index-defs-number.is c.loop-number-test.true) in
    elim (below_or_last a c.loop-number.number b) [
      | inl p ↦ c.loop-number.invariant a d l p at
      | inr e ↦
          let s : Some (view_def c.index-defs-number.result) ≡ Some d =
          sym there ∙ ap (slice_get (view_defs c.args.context.now.adts.adts)) (sym e) ∙ at in
          let t : view_def c.index-defs-number.result ≡ d = cc in
          subst (λ (z : Def). IsAllowedIn (view_context c.args.context.now) z) t c.in-Ok.ensures.allowed
    ]

pub returns-clause-allowed : goal.returns-clause-allowed
returns-clause-allowed c = λ a d l at.
    let w : a < length (view_defs c.args.context.now.adts.adts) = slice_get_within (view_defs c.args.context.now.adts.adts) a d at in
    let m : length c.defs-defs.result.now ≡ length (view_defs c.args.context.now.adts.adts) =
    ap length c.defs-defs.ensures ∙ length_defs c.args.context.now.adts.adts in
    let n : length c.defs-defs.result.now ≤ c.loop-number.number = c.loop-number-test.false in
    c.loop-number.invariant a d l (omega arith) at
