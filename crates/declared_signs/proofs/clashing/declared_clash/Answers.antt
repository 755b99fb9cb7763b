use Rattle.std.proofs.Common.{List, ℕ, None, ◌≡◌, sym, subst, Vec}
use Rattle.std.proofs.lemmas.Result.{IfOk-weaker}
use Rattle.std.specs.Global.{Global}
use Rattle.limbo_typed.specs.View.{view_module}
use Rattle.link_sign.specs.Clashes.{texts_of}
use Rattle.declared_signs.specs.Declared.{AreDeclaredTexts}
use Rattle.declared_signs.proofs.Lists as lists
use Rattle.declared_signs.proofs.clashing.declared_clash.Goals as goal
use Rattle.declared_signs.proofs.clashing.declared_clash.Goals.{After-drop-texts}

-- the texts are those of the module
declared : (c : After-drop-texts) → AreDeclaredTexts (view_module c.args.module.now) (texts_of c.deref.result.now)
declared c =
    subst (λ (vs : List (Vec ℕ Global)). AreDeclaredTexts (view_module c.args.module.now) (texts_of vs)) (sym c.deref.ensures.value)
    c.in_ok-texts.ensures

pub returns-clause-none : goal.returns-clause-none
returns-clause-none c =
    IfOk-weaker c.clash.result _ _
    (λ r i. lists.told_apart c.one_text.ensures (view_module c.args.module.now) (texts_of c.deref.result.now) (declared c) (r ≡ None) i)
    c.clash.ensures.none

pub returns-clause-first : goal.returns-clause-first
returns-clause-first c =
    IfOk-weaker c.clash.result _ _
    (λ r i. lists.has_clash (view_module c.args.module.now) (texts_of c.deref.result.now) (declared c) r i)
    c.clash.ensures.first
