use Rattle.std.proofs.Common.{◌≡◌, ap, sym, subst, ◌∙◌}
use Rattle.std.specs.Prelude.{unwrap_or}
use Rattle.ref_heap.specs.Store.{at}
use Rattle.ref_heap.specs.Words.{cells}
use Rattle.dis_meaning.specs.Words as words
use Rattle.dis_memory.specs.Blocks.{Part, block}
use Rattle.dis_memory.specs.Kinds as meaning
use Rattle.dis_places.specs.Blocks.{block_by, first_name, is_proper, words_of}
use Rattle.dis_places.specs.View.{view_world}
use Rattle.dis_places.specs.Words.{GivesFault}
use Rattle.dis_kinds.specs.Views.{elements_by, first_in, named_elements, view_elements}
use Rattle.dis_kinds.proofs.Heaps.{there, gone, named}
use Rattle.dis_kinds.proofs.Found.{at_serial, named_is, no_part}
use Rattle.dis_kinds.proofs.arrays.elements_in.Goals as goal

pub returns-in-Slice : goal.returns-in-Slice
returns-in-Slice c =
    let m = c.args.memory.now in
    let x = view_world m in
    let n = c.args.block.serial in
    let k = c.in-Slice.from in
    let l = c.in-Slice.length in
    let h = there m n c.in-Ok.kind c.stands.ensures (c.in-Ok.ensures {u = tt}) in
    let word = cells h.live.content in
    let to = named word (ap (λ k. is_proper k h.live.content) (sym c.in-Slice.is) ∙ h.proper) in
    let is : words.◌>>=◌ (block x n) (meaning.elements_in x n) ≡ meaning.elements_in x n (Part (unwrap_or (first_name word) 0) k l) =
    ap (λ b. words.◌>>=◌ b (meaning.elements_in x n)) (h.is ∙ ap (λ k. words.Found (block_by m.tables k h.live.content)) c.in-Slice.is) in
    let found : words.◌>>=◌ (named_elements x (first_in (at m.heap n))) (λ e. words.Found (meaning.some_of k l e)) ≡ words.◌>>=◌ (block x n) (meaning.elements_in x n) =
    ap (λ o. words.◌>>=◌ (named_elements x (first_in o)) (λ e. words.Found (meaning.some_of k l e))) h.here
    ∙ ap (λ a. words.◌>>=◌ a (λ e. words.Found (meaning.some_of k l e))) (named_is x (first_name word) to.0 to.1)
    ∙ sym is in
    subst (GivesFault (view_elements m) c.part_of.result) found c.part_of.ensures

pub returns-in_default : goal.returns-in_default
returns-in_default c =
    let m = c.args.memory.now in
    let x = view_world m in
    let a = c.args.block in
    let h = there m a.serial c.in-Ok.kind c.stands.ensures (c.in-Ok.ensures {u = tt}) in
    at_serial m a c.whole.result c.in-Ok.kind h (meaning.elements_in x a.serial) c.whole.ensures.array
    (subst (GivesFault (elements_by m.tables (words_of h.live.content)) c.whole.result)
    (sym (no_part m.tables x a.serial c.in-Ok.kind h.live.content c.in_default.not-Slice))
    (c.whole.ensures.elements m.tables h.live.content))

pub returns-in-Err : goal.returns-in-Err
returns-in-Err c =
    let m = c.args.memory.now in
    let a = c.args.block in
    ap (λ b. words.◌>>=◌ b (meaning.elements_in (view_world m) a.serial)) (gone m a.serial c.in-Err.field-0 c.stands.ensures (c.in-Err.ensures {u = tt}))
