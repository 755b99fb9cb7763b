use Rattle.std.proofs.Common.{◌≡◌, inl, inr, ℕ, Some, length, refl, sym, ap, ◌∙◌, subst, arith}
use Rattle.std.specs.Prelude.{slice_get}
use Rattle.std.specs.Cmp.Lexicographic.{same_text}
use Rattle.std.proofs.lemmas.Option.{slice_get_read, same_Some}
use Rattle.limbo_layout.specs.declared.def.Field as code_field
use Rattle.limbo_fields.proofs.Named.{field_at, lacks_all, less_or, differs}
use Rattle.limbo_fields.proofs.field.find_field.Goals as goal

pub returns-then-eq-clause-found : goal.returns-then-eq-clause-found
returns-then-eq-clause-found c =
    let fields = c.args.fields.now in
    let place = c.loop-place.place in
    let f = c.index-fields-place.result in
    let there : slice_get fields place ≡ Some f = slice_get_read fields (length fields) place f refl c.loop-place-test.true c.index-fields-place.is in
    let named : f.name ≡ c.args.name.now = same_text f.name c.args.name.now (c.if-eq.ensures {u = tt}) in
    (f, there, field_at fields place f c.args.name.now c.loop-place.invariant there named)

pub loop-place-preserved : goal.loop-place-preserved
loop-place-preserved c = λ p f l h e.
    let fields = c.args.fields.now in
    let place = c.loop-place.place in
    let g = c.index-fields-place.result in
    let there : slice_get fields place ≡ Some g = slice_get_read fields (length fields) place g refl c.loop-place-test.true c.index-fields-place.is in
    elim (less_or p place l) [
      | inl m ↦ c.loop-place.invariant p f m h e
      | inr m ↦
          let s : f ≡ g = same_Some f g (sym h ∙ subst (λ (z : ℕ). slice_get fields z ≡ Some g) (sym m) there) in
          let n : g.name ≡ c.args.name.now = ap (λ (z : code_field.Field). z.name) (sym s) ∙ e in
          absurd (differs g.name c.args.name.now n (c.if-eq.ensures {u = tt}))
    ]

pub returns-clause-absent : goal.returns-clause-absent
returns-clause-absent c = lacks_all c.args.fields.now c.args.name.now (λ p g l h e. c.loop-place.invariant p g (omega (arith, c.loop-place-test.false)) h e)
