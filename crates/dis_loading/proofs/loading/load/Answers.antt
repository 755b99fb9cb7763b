use Rattle.std.proofs.Common.{◌≡◌, ℕ, List, map, Some, sym, subst, ap, ◌∙◌}
use Rattle.std.specs.Prelude.{slice_get}
use Rattle.dis_code.specs.declared.code.Code.{Code}
use Rattle.dis_loading.specs.Growing.{IsEntered}
use Rattle.dis_loading.proofs.Entering.{more_entered, more_same}
use Rattle.dis_loading.proofs.loading.load.Goals as goal

pub loop-name-preserved : goal.loop-name-preserved
loop-name-preserved c =
    let old = c.loop-name.codes.items in
    let items = c.in_ok-push.ensures.items in
    let Each : List (List ℕ × Code) → Type 0 =
    λ codes. (k : ℕ) (code : List ℕ × Code) → slice_get codes k ≡ Some code → IsEntered c.enter.new.tables code.1 in (
      c.in_ok-code.ensures.begun,
      ap (map (λ code. (code.0, code.1.object))) items
          ∙ more_same old c.loop-name.yielded c.in-Some.name c.in_ok-code.code c.in-Some.object c.loop-name.invariant.1 c.in_ok-code.ensures.object,
      subst Each (sym items)
          (more_entered c.loop-name.tables c.enter.new.tables old (c.in-Some.name, c.in_ok-code.code) c.loop-name.invariant.2
          c.in_ok-code.ensures.grows c.in_ok-code.ensures.begun c.in_ok-code.ensures.entered),
    )

pub returns-clause-loaded : goal.returns-clause-loaded
returns-clause-loaded c = λ k code there. (c.loop-name.invariant.2 k code there).loaded
