use Rattle.std.proofs.Common.{◌≡◌, ◌++◌, Some, sym, ap, ◌∙◌}
use Rattle.std.specs.Option.{option_map}
use Rattle.ref_heap.specs.declared.word.Ref.{Ref}
use Rattle.limbo_values.specs.Texts.{joined}
use Rattle.dis_meaning.specs.Words.{Found, ◌>>=◌}
use Rattle.dis_memory.specs.Kinds.{text_at}
use Rattle.dis_memory.specs.Raising.{unless_raised}
use Rattle.dis_places.specs.View.{view_process, view_spot, view_world}
use Rattle.dis_strings.proofs.Changing.{has_text, there_is}
use Rattle.dis_strings.proofs.Joined.{joined_is}
use Rattle.dis_strings.proofs.making.joining.Goals as goal

pub returns-in-Ok-from_slice : goal.returns-in-Ok-from_slice
returns-in-Ok-from_slice c =
    let m = c.args.memory.now in
    let x = view_world m in
    let front = c.args.front.now in
    let back = c.args.back.now in
    let block = c.in-Some.block in
    let see = option_map (λ (r : Ref). r.serial) in
    let here : see c.in-Ok.block ≡ Some block.serial = ap see c.in-Some.ensures.is in (
      front ++ back,
      ap (λ a. a >>= λ old. unless_raised (joined front back)) c.in-Ok.ensures
          ∙ ap unless_raised (joined_is front back c.in-Ok-joined_len.field-0 (sym c.joined_len.ensures ∙ c.in-Ok-joined_len.is)),
      record {
        there = there_is x (view_process c.args.process.now) (view_spot c.args.spot) (Some block.serial) (c.in-Ok.ensures ∙ ap Found here);
        may = c.in-Some.ensures.may;
        before = front;
        text = has_text m block.serial front c.stands.ensures
            (sym (ap (text_at x) (c.are_same.ensures c.if-are_same.true ∙ here)) ∙ c.requires);
        fits = tt;
        is = ap (λ ms. front ++ ms) c.in-Ok-from_slice.ensures.items;
      },
    )
