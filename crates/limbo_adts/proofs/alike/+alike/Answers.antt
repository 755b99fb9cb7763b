use Rattle.std.proofs.Common.{◌≡◌, ◌==◌, Bool, true, false, List, [], ◌∷◌, length, refl, sym, ap, ◌∙◌, rules, tests}
use Rattle.std.proofs.lemmas.List.{at_drop_all}
use Rattle.limbo_types.specs.declared.ty.Ty.{Ty}
use Rattle.limbo_types.specs.Types as types
use Rattle.limbo_types.specs.Types.{NoTys}
use Rattle.limbo_types.specs.View.{view_ty, view_tys}
use Rattle.limbo_types.specs.Same.{same}
use Rattle.limbo_types.proofs.Same.{only, itself}
use Rattle.limbo_types.proofs.View.{view_ty-Array, view_ty-List, view_ty-Chan, view_ty-Tuple}
use Rattle.limbo_adts.specs.Reading.{all_alike}
use Rattle.limbo_adts.proofs.Likeness.{no_array, no_list, no_chan, no_tuple, no_other}
use Rattle.limbo_adts.proofs.alike.+alike.Goals as goal

pub alike-returns-in_default-u : goal.alike-returns-in_default-u
alike-returns-in_default-u t c = rw (c.in-Array.is, view_ty-Array) (no_array c.args.u.now (view_ty c.in-Array.item.value) c.in_default-u.not-Array)

pub alike-returns-in_default-u-2 : goal.alike-returns-in_default-u-2
alike-returns-in_default-u-2 t c = rw (c.in-List.is, view_ty-List) (no_list c.args.u.now (view_ty c.in-List.item.value) c.in_default-u-2.not-List)

pub alike-returns-in_default-u-3 : goal.alike-returns-in_default-u-3
alike-returns-in_default-u-3 t c = rw (c.in-Chan.is, view_ty-Chan) (no_chan c.args.u.now (view_ty c.in-Chan.item.value) c.in_default-u-3.not-Chan)

pub alike-returns-in_default-u-4 : goal.alike-returns-in_default-u-4
alike-returns-in_default-u-4 t c = rw (c.in-Tuple.is, view_ty-Tuple) (no_tuple c.args.u.now (view_tys c.in-Tuple.parts.items) c.in_default-u-4.not-Tuple)

-- a test that tells whether types are the same gives what the test of their views gives
told : (t u : types.Ty) (r : Bool) → (r ≡ true → t ≡ u) → (t ≡ u → r ≡ true) → r ≡ same t u
told t u true k l = sym (ap (λ z. same t z) (sym (k refl)) ∙ itself t)
told t u false k l = go (same t u) refl
  where
    go : (b : Bool) → same t u ≡ b → false ≡ same t u
    go true e = absurd (let f : false ≡ true = l (only t u e) in cc)
    go false e = sym e

pub alike-returns-in_default : goal.alike-returns-in_default
alike-returns-in_default t c =
    told (view_ty c.args.t.now) (view_ty c.args.u.now) c.equal.result c.equal.ensures.0 c.equal.ensures.1
    ∙ sym (no_other c.args.t.now (view_ty c.args.u.now) c.in_default.not-Array c.in_default.not-List c.in_default.not-Chan c.in_default.not-Tuple c.in_default.not-RefAdt c.in_default.not-RefPick)

-- no types are alike the rest, where nothing is left
ending : (rest : List Ty) → all_alike NoTys (view_tys rest) ≡ (length rest == 0)
ending [] = refl
ending (t ∷ ts) = search (rules, tests)

pub all_alike-returns : goal.all_alike-returns
all_alike-returns t c =
    let rest = c.loop-t.rest.now in
    c.is_empty.ensures
    ∙ sym (ending rest)
    ∙ sym (at_drop_all (λ xs. all_alike (view_tys xs) (view_tys rest)) c.args.ts.now c.loop-t.t-index c.loop-t-test.false)
    ∙ c.loop-t.invariant
