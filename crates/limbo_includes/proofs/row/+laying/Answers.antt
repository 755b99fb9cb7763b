use Rattle.std.proofs.Common.{◌≡◌, ◌++◌, ◌∷◌, ◌+◌, ◌<◌, ℕ, [], List, length, take, drop, get_or, unwrap_or, Option, Some, None, sym, ap, subst, ◌∙◌, arith}
use Rattle.std.proofs.Math.ListN.{set}
use Rattle.std.specs.Prelude.{slice_get}
use Rattle.std.specs.List.{Contains}
use Rattle.std.proofs.lemmas.Option.{slice_get-get_or}
use Rattle.std.proofs.lemmas.Result.{err_from_is_err_and}
use Rattle.limbo_tree.specs.declared.source.Top.{Top}
use Rattle.limbo_includes.specs.declared.row.Seen.{Seen}
use Rattle.limbo_includes.specs.declared.row.Seen.TheVariants as seen
use Rattle.limbo_includes.specs.Includes.{target, tops_at, LacksAt}
use Rattle.limbo_includes.specs.Shelf.{place_of}
use Rattle.limbo_includes.specs.Laying.{IsLaid, Blames, source_of, mark_of}
use Rattle.limbo_includes.proofs.Lists.{whole_at, taken, contains_at, none_left}
use Rattle.limbo_includes.proofs.Deep.{too_deep}
use Rattle.limbo_includes.proofs.Places.{is_lacking}
use Rattle.limbo_includes.proofs.Growing.{laid_none, laid_more, laid_text, laid_empty, twice_full, blames_part, blames_include}
use Rattle.limbo_includes.proofs.row.+laying.Goals as goal

pub put_all-loop-top-init : goal.put_all-loop-top-init
put_all-loop-top-init t c = λ a. laid_none c.args.shelf.now.texts.now c.args.path.now c.args.row.now a

pub put_all-returns-in_err-put-clause-refused : goal.put_all-returns-in_err-put-clause-refused
put_all-returns-in_err-put-clause-refused t c =
    let p = err_from_is_err_and c.from_residual.result c.from_residual.ensures.1 in
    let xs = take c.loop-top.top-index c.args.tops.now in
    let ys = drop (c.loop-top.top-index + 1) c.args.tops.now in
    let x = c.top-item.result in
    let w : xs ++ (x ∷ ys) ≡ c.args.tops.now = whole_at c.args.tops.now c.loop-top.top-index x (omega arith) c.top-item.is in
    let k : Contains c.args.tops.now x = contains_at c.args.tops.now c.loop-top.top-index x (omega arith) c.top-item.is in
    let b : Blames c.args.shelf.now.texts.now c.args.depth c.args.path.now (xs ++ (x ∷ ys)) (x ∷ []) c.loop-top.row c.in_err-put.field-0.0 =
    subst (λ (z : List Top). Blames c.args.shelf.now.texts.now c.args.depth c.args.path.now z (x ∷ []) c.loop-top.row c.in_err-put.field-0.0) (sym w) (c.in_err-put.ensures.refused c.args.tops.now k) in
    rw (p.1, p.2)
    (subst (λ (z : List Top). Blames c.args.shelf.now.texts.now c.args.depth c.args.path.now z z c.args.row.now c.in_err-put.field-0.0) w
    (blames_part c.args.shelf.now.texts.now c.args.depth c.args.path.now xs ys x c.args.row.now c.loop-top.row c.in_err-put.field-0.0 c.loop-top.invariant b))

pub put_all-loop-top-preserved : goal.put_all-loop-top-preserved
put_all-loop-top-preserved t c = λ a.
    let k = c.loop-top.invariant a in
    subst (λ (z : List Top). IsLaid c.args.shelf.now.texts.now c.args.path.now z c.args.row.now c.put.new.row)
    (sym (taken c.args.tops.now c.loop-top.top-index c.top-item.result (omega arith) c.top-item.is))
    (laid_more c.args.shelf.now.texts.now c.args.path.now (take c.loop-top.top-index c.args.tops.now) (c.top-item.result ∷ []) c.args.row.now c.loop-top.row c.put.new.row k (c.in_ok-put.ensures.laid k.seen))

pub put_text-returns-then-depth-ge-MOST-clause-refused : goal.put_text-returns-then-depth-ge-MOST-clause-refused
put_text-returns-then-depth-ge-MOST-clause-refused t c = λ whole s first source l.
    too_deep (source_of first source c.args.shelf.now.texts.now) c.args.depth c.args.path.now whole c.args.name.now c.args.at c.if-depth-ge-MOST.true l s

pub put_text-returns-in_default-clause-refused : goal.put_text-returns-in_default-clause-refused
put_text-returns-in_default-clause-refused t c = λ whole s first source l.
    let n : c.in_ok-place.field-0 ≡ None = none_left c.in_ok-place.field-0 c.in_default.not-Some in
    let m : tops_at c.args.shelf.now.texts.now (target c.args.path.now c.args.name.now) ≡ None = is_lacking c.args.shelf.now.texts.now (target c.args.path.now c.args.name.now) (sym c.in_ok-place.ensures.place ∙ n) in
    subst (λ (z : List ℕ). LacksAt (source_of first source c.args.shelf.now.texts.now) z c.args.at) (sym c.in_ok-clone.ensures.cases)
    (record { depth = c.args.depth; tops = whole; name = c.args.name.now; leads = l; stands = s; missing = m })

pub put_text-returns-in_err-put_all-in-NotYet-clause-refused : goal.put_text-returns-in_err-put_all-in-NotYet-clause-refused
put_text-returns-in_err-put_all-in-NotYet-clause-refused t c =
    let p = err_from_is_err_and c.from_residual-in_err-put_all-in-NotYet.result c.from_residual-in_err-put_all-in-NotYet.ensures.1 in
    let texts = c.args.shelf.now.texts.now in
    let e : place_of texts (target c.args.path.now c.args.name.now) ≡ Some c.in-Some.place = sym c.in_ok-place.ensures.place ∙ c.in-Some.is in
    let n : c.in-Some.place < length texts = (rw c.in-Some.is at c.in_ok-place.ensures.within) in
    let x = get_or texts c.in-Some.place c.index-shelf-place.result in
    let h : slice_get texts c.in-Some.place ≡ Some x = slice_get-get_or texts c.in-Some.place c.index-shelf-place.result n in
    rw (p.1, p.2) (λ whole s.
    blames_include texts c.args.path.now c.args.name.now c.args.at c.in-Some.place e x h c.args.depth whole c.args.row.now c.in_err-put_all-in-NotYet.field-0.0 s
    (rw c.deref-in-NotYet.ensures.value at c.in_err-put_all-in-NotYet.ensures.refused))

pub put_text-returns-in-Empty-clause-laid : goal.put_text-returns-in-Empty-clause-laid
put_text-returns-in-Empty-clause-laid t c = λ a.
    let texts = c.args.shelf.now.texts.now in
    let e : place_of texts (target c.args.path.now c.args.name.now) ≡ Some c.in-Some.place = sym c.in_ok-place.ensures.place ∙ c.in-Some.is in
    let n : c.in-Some.place < length texts = (rw c.in-Some.is at c.in_ok-place.ensures.within) in
    let x = get_or texts c.in-Some.place c.index-shelf-place.result in
    let h : slice_get texts c.in-Some.place ≡ Some x = slice_get-get_or texts c.in-Some.place c.index-shelf-place.result n in
    let v : get_or c.args.row.now.seen.items c.in-Some.place seen.NotYet ≡ c.unwrap_or.result =
    sym (c.unwrap_or.ensures ∙ ap (λ (o : Option Seen). unwrap_or o seen.NotYet) c.copied.ensures ∙ c.get.ensures.lookup.4 (omega arith) seen.NotYet ∙ ap (λ (z : List Seen). get_or z c.in-Some.place seen.NotYet) c.deref.ensures.value) in
    laid_empty texts c.args.path.now c.args.name.now c.args.at c.in-Some.place e x h c.args.row.now a (v ∙ c.in-Empty.is)

pub put_text-returns-in_ok-clone-in-Full-clause-refused : goal.put_text-returns-in_ok-clone-in-Full-clause-refused
put_text-returns-in_ok-clone-in-Full-clause-refused t c = λ whole s a all f.
    let texts = c.args.shelf.now.texts.now in
    let e : place_of texts (target c.args.path.now c.args.name.now) ≡ Some c.in-Some.place = sym c.in_ok-place.ensures.place ∙ c.in-Some.is in
    let n : c.in-Some.place < length texts = (rw c.in-Some.is at c.in_ok-place.ensures.within) in
    let x = get_or texts c.in-Some.place c.index-shelf-place.result in
    let h : slice_get texts c.in-Some.place ≡ Some x = slice_get-get_or texts c.in-Some.place c.index-shelf-place.result n in
    let v : get_or c.args.row.now.seen.items c.in-Some.place seen.NotYet ≡ c.unwrap_or.result =
    sym (c.unwrap_or.ensures ∙ ap (λ (o : Option Seen). unwrap_or o seen.NotYet) c.copied.ensures ∙ c.get.ensures.lookup.4 (omega arith) seen.NotYet ∙ ap (λ (z : List Seen). get_or z c.in-Some.place seen.NotYet) c.deref.ensures.value) in
    twice_full texts c.args.path.now c.args.name.now c.args.at c.in-Some.place e x h c.args.row.now (v ∙ c.in-Full.is) a all f

pub put_text-returns-in_ok-put_all-in-NotYet-clause-laid : goal.put_text-returns-in_ok-put_all-in-NotYet-clause-laid
put_text-returns-in_ok-put_all-in-NotYet-clause-laid t c = λ a.
    let texts = c.args.shelf.now.texts.now in
    let e : place_of texts (target c.args.path.now c.args.name.now) ≡ Some c.in-Some.place = sym c.in_ok-place.ensures.place ∙ c.in-Some.is in
    let n : c.in-Some.place < length texts = (rw c.in-Some.is at c.in_ok-place.ensures.within) in
    let x = get_or texts c.in-Some.place c.index-shelf-place.result in
    let h : slice_get texts c.in-Some.place ≡ Some x = slice_get-get_or texts c.in-Some.place c.index-shelf-place.result n in
    laid_text texts c.args.path.now c.args.name.now c.args.at c.in-Some.place e x h c.args.row.now c.put_all.new.row c.note.new.row
    (rw c.deref-in-NotYet.ensures.value at c.in_ok-put_all-in-NotYet.ensures.laid a) c.note.ensures.out
    (c.note.ensures.seen ∙ ap (λ (m : ℕ). set c.put_all.new.row.seen.items c.in-Some.place (mark_of m (length c.put_all.new.row.out.items))) (c.len-before.ensures ∙ c.args.row.now.out.ok.0))
