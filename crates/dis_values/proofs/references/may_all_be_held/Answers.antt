use Rattle.std.proofs.Common.{◌≡◌, ◌+◌, ◌<◌, ℕ, cond, Some, take, get_or, arith, inl, inr}
use Rattle.std.specs.Prelude.{map, slice_get}
use Rattle.std.proofs.lemmas.Bool.{cases_lt}
use Rattle.ref_heap.specs.declared.word.Word.TheVariants.{Plain}
use Rattle.ref_heap.specs.Words.{cell_of, naming, refers}
use Rattle.dis_values.proofs.Referring.{item_at, naming_step, name_there}
use Rattle.dis_values.proofs.references.may_all_be_held.Goals as goal

pub loop-word-preserved : goal.loop-word-preserved
loop-word-preserved c n some =
    let cs = map cell_of c.args.words.now in
    let i = c.loop-word.word-index in
    let w0 = get_or c.args.words.now i (Plain 0) in
    let is : slice_get cs i ≡ Some (cell_of w0) = item_at c.args.words.now i (Plain 0) c.loop-word-test.true in
    let next : naming (take (i + 1) cs) n ≡ naming (take i cs) n + cond {A = ℕ} (refers n (cell_of w0)) 1 0 =
    naming_step cs i n (cell_of w0) is in
    let has : 0 < naming (take (i + 1) cs) n = some in
    elim (cases_lt 0 (naming (take i cs) n)) [
      | inl y ↦ c.loop-word.invariant n y
      | inr y ↦ c.named_may_be_held.ensures.yes c.if-not-named_may_be_held.false n (name_there (cell_of w0) n (omega arith))
    ]
