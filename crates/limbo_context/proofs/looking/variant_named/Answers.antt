use Rattle.std.proofs.Common.{◌≡◌, inl, inr, ℕ, Some, length, refl, sym, ap, ◌∙◌, subst}
use Rattle.std.specs.Prelude.{slice_get}
use Rattle.std.specs.Cmp.Lexicographic.{same_text}
use Rattle.std.proofs.lemmas.Option.{slice_get_read, same_Some}
use Rattle.limbo_layout.specs.declared.def.Variant as code_variant
use Rattle.limbo_context.proofs.Variants.{less_or, differs, first_at, none_at}
use Rattle.limbo_context.proofs.looking.variant_named.Goals as goal

pub returns-then-eq-clause-found : goal.returns-then-eq-clause-found
returns-then-eq-clause-found c =
    let picks = c.args.picks.now in
    let place = c.loop-place.place in
    let v = c.index-picks-place.result in
    let there : slice_get picks place ≡ Some v = slice_get_read picks (length picks) place v refl c.loop-place-test.true c.index-picks-place.is in
    let named : v.name ≡ c.args.name.now = same_text v.name c.args.name.now (c.if-eq.ensures {u = tt}) in
    first_at picks c.args.name.now place v c.loop-place.invariant there named

pub loop-place-preserved : goal.loop-place-preserved
loop-place-preserved c = λ p w l h e.
    let picks = c.args.picks.now in
    let place = c.loop-place.place in
    let v = c.index-picks-place.result in
    let there : slice_get picks place ≡ Some v = slice_get_read picks (length picks) place v refl c.loop-place-test.true c.index-picks-place.is in
    elim (less_or p place l) [
      | inl m ↦ c.loop-place.invariant p w m h e
      | inr m ↦
          let s : w ≡ v = same_Some w v (sym h ∙ subst (λ (z : ℕ). slice_get picks z ≡ Some v) (sym m) there) in
          let n : v.name ≡ c.args.name.now = ap (λ (z : code_variant.Variant). z.name) (sym s) ∙ e in
          absurd (differs v.name c.args.name.now n (c.if-eq.ensures {u = tt}))
    ]

pub returns-clause-none : goal.returns-clause-none
returns-clause-none c = none_at c.args.picks.now c.args.name.now c.loop-place.place c.loop-place-test.false c.loop-place.invariant
