use Rattle.std.proofs.Common.{◌≡◌, ◌<◌, ◌≤◌, ◌+◌, ◌++◌, ◌∷◌, [], None, length, get_or, take, sym, ap, subst, ◌∙◌, arith}
use Rattle.std.proofs.lemmas.List.{take_more}
use Rattle.limbo_scope.specs.Scopes.{declared_here}
use Rattle.limbo_scope.specs.Laws.{declared_all}
use Rattle.limbo_entries.specs.View.{entries_of, view_entry}
use Rattle.limbo_meanings.specs.Names.{names_in, here}
use Rattle.limbo_meanings.proofs.Finding.{all_push}
use Rattle.limbo_meanings.proofs.Places.{as_many, entry_at, one_more, take_many}
use Rattle.limbo_meanings.proofs.Inside.{names_push, said_twice}
use Rattle.limbo_meanings.proofs.scopes.declare_all.Goals as goal

pub returns-in-Err-clause-twice : goal.returns-in-Err-clause-twice
returns-in-Err-clause-twice c = λ e outer fresh once.
    let all = c.args.table.now.entries.items in
    let i = c.loop-number.number in
    let l : i < length all = rw c.deref-entry-items.ensures.value at c.loop-number-test.true in
    let f : c.entry-item.result ≡ get_or all i c.entry-item.result = rw c.deref-entry-items.ensures.value at c.entry-item.is in
    said_twice (entries_of all) c.args.meanings.now c.args.scope i (view_entry c.entry-item.result) outer c.loop-number.scopes
    (entry_at all i c.entry-item.result l f) (c.in-Err.ensures.stands e)
    (c.loop-number.invariant ∙ ap (declared_all (names_in c.args.scope (take i c.args.meanings.now) (take i (entries_of all)))) fresh)
    (c.in-Err.ensures.twice e) once

pub loop-number-preserved : goal.loop-number-preserved
loop-number-preserved c =
    let all = c.args.table.now.entries.items in
    let es = entries_of all in
    let xs = c.args.meanings.now in
    let i = c.loop-number.number in
    let e = c.entry-item.result in
    let s = c.args.scope in
    let o = get_or xs i None in
    let l : i < length all = rw c.deref-entry-items.ensures.value at c.loop-number-test.true in
    let f : e ≡ get_or all i e = rw c.deref-entry-items.ensures.value at c.entry-item.is in
    let m = as_many all in
    let n = c.requires.many in
    let lx : i < length xs = omega arith in
    let t : length (take i xs) ≡ length (take i es) = take_many xs i (omega arith) ∙ sym (take_many es i (omega arith)) in
    c.in-Ok.ensures.declared ∙ ap (declared_all (here s (view_entry e) o)) c.loop-number.invariant
    ∙ sym (all_push (names_in s (take i xs) (take i es)) (here s (view_entry e) o) c.args.scopes.now)
    ∙ ap (λ ds. declared_all ds c.args.scopes.now) (sym (names_push s (take i xs) (take i es) o (view_entry e) t)
    ∙ ap (λ ys. names_in s ys (take i es ++ (view_entry e ∷ []))) (sym (take_more xs i None lx))
    ∙ ap (λ ys. names_in s (take (i + 1) xs) ys) (sym (one_more all i e l f)))
