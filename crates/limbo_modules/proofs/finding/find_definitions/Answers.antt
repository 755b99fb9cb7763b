use Rattle.std.proofs.Common.{◌≡◌, ◌∷◌, ◌++◌, [], ◌<◌, ℕ, List, length, map, take, Option, None, Some, slice_get}
use Rattle.std.proofs.Common.{◌∙◌, subst, get_or, sym, ap, refl}
use Rattle.std.proofs.lemmas.List.{take_more, take_all, map-append}
use Rattle.std.proofs.lemmas.Option.{slice_get_read}
use Rattle.limbo_top.specs.View.{placed}
use Rattle.limbo_entries.specs.View.{entries_of}
use Rattle.limbo_modules.specs.Definitions.{HasNone, AreDefinitions}
use Rattle.limbo_modules.specs.declared.finding.Found as code_found
use Rattle.limbo_modules.specs.Found.{view_found}
use Rattle.limbo_modules.proofs.Defining.{all_found}
use Rattle.limbo_modules.proofs.finding.find_definitions.Goals as goal

pub loop-number-init : goal.loop-number-init
loop-number-init c = ap (λ (z : List code_found.Found). map (λ (f : code_found.Found). Some f) z) c.in_ok-definitions.ensures.items

pub returns-in-None-clause-undefined : goal.returns-in-None-clause-undefined
returns-in-None-clause-undefined c = λ n e.
    let items = c.deref-definition-items.result.now in
    let k = c.loop-number.number in
    let value = c.deref-definition-items.ensures.value in
    let same : k ≡ n = cc in
    let many : length items ≡ c.args.many = ap length value ∙ c.in_ok-found.ensures.many in
    let at : slice_get items k ≡ Some None =
    slice_get_read items (length items) k c.definition-item.result refl c.loop-number-test.true c.definition-item.is
    ∙ ap (λ (o : Option code_found.Found). Some o) c.in-None.is in
    let found : slice_get c.in_ok-found.found.items k ≡ Some None =
    ap (λ (z : List (Option code_found.Found)). slice_get z k) (sym value) ∙ at in
    let within : k < c.args.many = subst (λ (z : ℕ). k < z) many c.loop-number-test.true in (
      subst (λ (z : ℕ). z < c.args.many) same within,
      subst (λ (z : ℕ). HasNone (entries_of c.args.table.now.entries.items) c.args.implemented (placed c.args.tops.now) z) same
          (c.in_ok-found.ensures.found k None found),
    )

pub loop-number-preserved : goal.loop-number-preserved
loop-number-preserved c =
    let some : code_found.Found → Option code_found.Found = λ f. Some f in
    let items = c.deref-definition-items.result.now in
    let k = c.loop-number.number in
    let before = c.loop-number.definitions.items in
    let one = c.in-Some.definition in
    let there : Some one ≡ get_or items k c.definition-item.result = sym c.in-Some.is ∙ c.definition-item.is in
    ap (λ (z : List code_found.Found). map some z) c.in_ok-push-in-Some.ensures.items
    ∙ map-append some before (one ∷ [])
    ∙ ap (λ (z : List (Option code_found.Found)). z ++ Some one ∷ []) c.loop-number.invariant
    ∙ ap (λ (z : Option code_found.Found). take k items ++ z ∷ []) there
    ∙ sym (take_more items k c.definition-item.result c.loop-number-test.true)

pub returns-clause-definitions : goal.returns-clause-definitions
returns-clause-definitions c =
    let es = entries_of c.args.table.now.entries.items in
    let tops = placed c.args.tops.now in
    let items = c.deref-definition-items.result.now in
    let definitions = c.loop-number.definitions.items in
    let found = c.in_ok-found.found.items in
    let all : map (λ (f : code_found.Found). Some f) definitions ≡ found =
    c.loop-number.invariant ∙ take_all c.loop-number.number items c.loop-number-test.false ∙ c.deref-definition-items.ensures.value in
    subst (λ (z : ℕ). AreDefinitions es c.args.implemented tops z (view_found definitions)) c.in_ok-found.ensures.many
    (all_found es c.args.implemented tops found definitions c.in_ok-found.ensures.found all)
