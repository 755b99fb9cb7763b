use Rattle.std.proofs.Common.{◌≡◌, ◌==◌, List, [], ◌∷◌, length, sym, ◌∙◌, refl, rules, tests}
use Rattle.std.proofs.lemmas.List.{at_drop_all}
use Rattle.limbo_types.specs.declared.ty.Ty.{Ty}
use Rattle.limbo_types.specs.Types.{NoTys}
use Rattle.limbo_types.specs.View.{view_tys}
use Rattle.limbo_types.specs.Same.{all_same}
use Rattle.limbo_types.proofs.View.{view_ty-Byte, view_ty-Int, view_ty-Big, view_ty-Chars, view_ty-Nothing, view_ty-Nil, view_ty-Array, view_ty-List}
use Rattle.limbo_types.proofs.View.{view_ty-Chan, view_ty-Tuple, view_ty-Adt, view_ty-RefAdt, view_ty-RefPick, view_ty-Module}
use Rattle.limbo_types.proofs.Forms.{other_form}
use Rattle.limbo_types.proofs.sameness.+same.Goals as goal

-- no types are the same as the rest, where nothing is left
ending : (rest : List Ty) → all_same NoTys (view_tys rest) ≡ (length rest == 0)
ending [] = refl
ending (t ∷ ts) = search (rules, tests)

pub all_same-returns : goal.all_same-returns
all_same-returns t c =
    let rest = c.loop-t.rest.now in
    c.is_empty.ensures
    ∙ sym (ending rest)
    ∙ sym (at_drop_all (λ xs. all_same (view_tys xs) (view_tys rest)) c.args.ts.now c.loop-t.t-index c.loop-t-test.false)
    ∙ c.loop-t.invariant

pub same-returns-in_default : goal.same-returns-in_default
same-returns-in_default t c = other_form c.args.u.now c.in-Byte.is view_ty-Byte c.in_default.not-Byte

pub same-returns-in_default-matches : goal.same-returns-in_default-matches
same-returns-in_default-matches t c = other_form c.args.u.now c.in-Int.is view_ty-Int c.in_default-matches.not-Int

pub same-returns-in_default-matches-2 : goal.same-returns-in_default-matches-2
same-returns-in_default-matches-2 t c = other_form c.args.u.now c.in-Big.is view_ty-Big c.in_default-matches-2.not-Big

pub same-returns-in_default-matches-3 : goal.same-returns-in_default-matches-3
same-returns-in_default-matches-3 t c = other_form c.args.u.now c.in-Chars.is view_ty-Chars c.in_default-matches-3.not-Chars

pub same-returns-in_default-matches-4 : goal.same-returns-in_default-matches-4
same-returns-in_default-matches-4 t c = other_form c.args.u.now c.in-Nothing.is view_ty-Nothing c.in_default-matches-4.not-Nothing

pub same-returns-in_default-matches-5 : goal.same-returns-in_default-matches-5
same-returns-in_default-matches-5 t c = other_form c.args.u.now c.in-Nil.is view_ty-Nil c.in_default-matches-5.not-Nil

pub same-returns-in_default-u : goal.same-returns-in_default-u
same-returns-in_default-u t c = other_form c.args.u.now c.in-Array.is (view_ty-Array c.in-Array.item) (λ h. c.in_default-u.not-Array h.0 h.1)

pub same-returns-in_default-u-2 : goal.same-returns-in_default-u-2
same-returns-in_default-u-2 t c = other_form c.args.u.now c.in-List.is (view_ty-List c.in-List.item) (λ h. c.in_default-u-2.not-List h.0 h.1)

pub same-returns-in_default-u-3 : goal.same-returns-in_default-u-3
same-returns-in_default-u-3 t c = other_form c.args.u.now c.in-Chan.is (view_ty-Chan c.in-Chan.item) (λ h. c.in_default-u-3.not-Chan h.0 h.1)

pub same-returns-in_default-u-4 : goal.same-returns-in_default-u-4
same-returns-in_default-u-4 t c = other_form c.args.u.now c.in-Tuple.is (view_ty-Tuple c.in-Tuple.parts) (λ h. c.in_default-u-4.not-Tuple h.0 h.1)

pub same-returns-in_default-u-5 : goal.same-returns-in_default-u-5
same-returns-in_default-u-5 t c = other_form c.args.u.now c.in-Adt.is (view_ty-Adt c.in-Adt.number) (λ h. c.in_default-u-5.not-Adt h.0 h.1)

pub same-returns-in_default-u-6 : goal.same-returns-in_default-u-6
same-returns-in_default-u-6 t c = other_form c.args.u.now c.in-RefAdt.is (view_ty-RefAdt c.in-RefAdt.number) (λ h. c.in_default-u-6.not-RefAdt h.0 h.1)

pub same-returns-in_default-u-7 : goal.same-returns-in_default-u-7
same-returns-in_default-u-7 t c = other_form c.args.u.now c.in-RefPick.is (view_ty-RefPick c.in-RefPick.adt c.in-RefPick.variant) (λ h. c.in_default-u-7.not-RefPick h.0 h.1 h.2)

pub same-returns-in_default-u-8 : goal.same-returns-in_default-u-8
same-returns-in_default-u-8 t c = other_form c.args.u.now c.in-Module.is (view_ty-Module c.in-Module.number) (λ h. c.in_default-u-8.not-Module h.0 h.1)
