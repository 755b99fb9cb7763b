use Rattle.std.proofs.Common.{◌≡◌, Some, suc, length, rules, refl, sym, ap, ◌∙◌, to_z, of_z, w32}
use Rattle.std.specs.Option.{option_map}
use Rattle.ref_heap.specs.declared.word.Ref.{Ref}
use Rattle.limbo_values.specs.Texts.{index_in}
use Rattle.dis_meaning.specs.Words.{Found, ◌>>=◌}
use Rattle.dis_memory.specs.Kinds.{text_at}
use Rattle.dis_memory.specs.Raising.{unless_raised}
use Rattle.dis_memory.specs.Strings.{inserted, not_longer, with_character}
use Rattle.system_model.specs.Verbs.{character}
use Rattle.dis_places.specs.View.{view_process, view_spot, view_world}
use Rattle.dis_strings.proofs.Changing.{has_text, there_is}
use Rattle.dis_strings.proofs.making.inserting.Goals as goal

pub returns-in-Err-place_in : goal.returns-in-Err-place_in
returns-in-Err-place_in c =
    let x = view_world c.args.memory.now in
    let text = c.in-Ok-text_of.text.now in
    let whole : to_z w32 (of_z w32 c.args.at) ≡ c.args.at = search rules in
    ap (λ a. a >>= text_at x >>= λ s. inserted s c.args.at c.args.code) c.in-Ok.ensures
    ∙ ap (λ a. a >>= λ s. inserted s c.args.at c.args.code) c.in-Ok-text_of.ensures
    ∙ ap (λ z. unless_raised (index_in (suc (length text)) z) >>= λ k. unless_raised (not_longer (with_character text k (character c.args.code)))) (sym whole)
    ∙ sym (c.in-Err-place_in.ensures.told (character c.args.code))

pub returns-in-Some : goal.returns-in-Some
returns-in-Some c =
    let m = c.args.memory.now in
    let x = view_world m in
    let text = c.in-Ok-text_of.text.now in
    let k = c.in-Ok-place_in.k in
    let code = c.character-code.result in
    let whole : to_z w32 (of_z w32 c.args.at) ≡ c.args.at = search rules in
    let whole_code : to_z w32 (of_z w32 c.args.code) ≡ c.args.code = search rules in
    let block = c.in-Some.block in
    let see = option_map (λ (r : Ref). r.serial) in
    let here : see c.in-Ok.block ≡ Some block.serial = ap see c.in-Some.ensures.is in (
      with_character text k code,
      ap (λ a. a >>= text_at x >>= λ s. inserted s c.args.at c.args.code) c.in-Ok.ensures
          ∙ ap (λ a. a >>= λ s. inserted s c.args.at c.args.code) c.in-Ok-text_of.ensures
          ∙ ap (λ c'. unless_raised (index_in (suc (length text)) c.args.at) >>= λ k. unless_raised (not_longer (with_character text k c')))
          (ap character (sym whole_code) ∙ sym c.character-code.ensures)
          ∙ ap (λ z. unless_raised (index_in (suc (length text)) z) >>= λ k. unless_raised (not_longer (with_character text k code))) (sym whole)
          ∙ sym (c.in-Ok-place_in.ensures.told code),
      record {
        there = there_is x (view_process c.args.process.now) (view_spot c.args.spot) (Some block.serial) (c.in-Ok.ensures ∙ ap Found here);
        may = c.in-Some.ensures.may;
        before = text;
        text = has_text m block.serial text c.stands.ensures (sym (ap (text_at x) here) ∙ c.in-Ok-text_of.ensures);
        fits = c.in-Ok-place_in.ensures.within;
        is = refl;
      },
    )
