use Rattle.std.proofs.Common.{◌≡◌, ◌+◌, ℕ, Bool, cond, Some, take, get_or, sym, ap, ◌∙◌, arith}
use Rattle.std.specs.Prelude.{map, slice_get}
use Rattle.ref_heap.specs.declared.word.Word.TheVariants.{Plain}
use Rattle.ref_heap.specs.Words.{cell_of, naming, refers}
use Rattle.dis_values.proofs.Referring.{item_at, naming_step}
use Rattle.dis_values.proofs.references.times.Goals as goal
use Rattle.dis_values.proofs.references.times.Goals.{then-refers, else-refers}

pub loop-word-preserved : goal.loop-word-preserved
loop-word-preserved c =
    let cs = map cell_of c.args.words.now in
    let i = c.loop-word.word-index in
    let w0 = get_or c.args.words.now i (Plain 0) in
    let is : slice_get cs i ≡ Some (cell_of w0) = item_at c.args.words.now i (Plain 0) c.loop-word-test.true in
    let next : naming (take (i + 1) cs) c.args.serial ≡ naming (take i cs) c.args.serial + cond {A = ℕ}
    (refers c.args.serial (cell_of w0)) 1 0 = naming_step cs i c.args.serial (cell_of w0) is in
    let had : c.loop-word.times ≡ naming (take i cs) c.args.serial = c.loop-word.invariant in
    let tells : cond {A = ℕ} (refers c.args.serial (cell_of w0)) 1 0 ≡ cond {A = ℕ} c.refers.result 1 0 =
    ap (λ (b : Bool). cond {A = ℕ} b 1 0) (sym c.refers.ensures) in
    elim c.if-refers.branch [
      | then-refers w ↦ let one : cond {A = ℕ} c.refers.result 1 0 ≡ 1 =
          ap (λ (b : Bool). cond {A = ℕ} b 1 0) w.if-refers.true in w.times-is ∙ omega arith
      | else-refers w ↦ let none : cond {A = ℕ} c.refers.result 1 0 ≡ 0 =
          ap (λ (b : Bool). cond {A = ℕ} b 1 0) w.if-refers.false in w.times-is ∙ omega arith
    ]
