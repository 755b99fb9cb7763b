use Rattle.std.proofs.Common.{◌≡◌, ℤ, rules, sym, ap, ◌∙◌, to_z, of_z, w32}
use Rattle.dis_meaning.specs.Places.{Spot}
use Rattle.dis_meaning.specs.Words.{Access, Found, ◌>>=◌}
use Rattle.dis_memory.specs.Blocks as blocks
use Rattle.dis_memory.specs.Kinds.{text_at}
use Rattle.dis_memory.specs.Places.{given_of, reference_at, spot}
use Rattle.dis_memory.specs.Process.{Does}
use Rattle.dis_memory.specs.Results.{gives_block_at}
use Rattle.dis_memory.specs.Strings.{inserted}
use Rattle.limbo_values.specs.declared.number.Kind.TheVariants.{Int}
use Rattle.dis_places.specs.View.{view_process, view_spot, view_world}
use Rattle.dis_results.proofs.Onward.{goes_same, halts_same}
use Rattle.dis_strings.specs.Telling.{as_block}
use Rattle.dis_strings.proofs.Changing.{changes_found, changes_none}
use Rattle.dis_strings.proofs.making.insc.Goals as goal

pub returns-in-Ok-inserting-clause-goes : goal.returns-in-Ok-inserting-clause-goes
returns-in-Ok-inserting-clause-goes c =
    let m = c.args.memory.now in
    let x = view_world m in
    let p = view_process c.args.process.now in
    let i = c.args.inst in
    let d = view_spot c.in-Ok-spot_of.spot in
    let there : (code at : ℤ) → Spot → Access Does = λ code at d. reference_at x p d >>= text_at x >>= λ s. gives_block_at x p d (as_block (inserted s at code)) in
    let made = c.in-Ok-inserting.ensures in
    let whole : to_z w32 (of_z w32 c.in-Ok-given_int.at) ≡ c.in-Ok-given_int.at = search rules in
    let whole_code : to_z w32 (of_z w32 c.in-Ok.code) ≡ c.in-Ok.code = search rules in
    λ o.
    goes_same m c.give_change.new.memory c.args.process.now c.give_change.new.process c.give_change.result
    (gives_block_at x p d (Found (blocks.Text made.0))) _
    (ap (λ a. a >>= λ code. given_of Int x p i.middle >>= λ at. spot x p i.dst >>= there code at) c.in-Ok.ensures
    ∙ ap (λ a. a >>= λ at. spot x p i.dst >>= there c.in-Ok.code at) c.in-Ok-given_int.ensures
    ∙ ap (λ a. a >>= there c.in-Ok.code c.in-Ok-given_int.at) c.in-Ok-spot_of.ensures
    ∙ ap (λ z. there c.in-Ok.code z d) (sym whole) ∙ ap (λ z. there z (to_z w32 (of_z w32 c.in-Ok-given_int.at)) d) (sym whole_code)
    ∙ changes_found x p d (λ s. inserted s (to_z w32 (of_z w32 c.in-Ok-given_int.at)) (to_z w32 (of_z w32 c.in-Ok.code))) made.0 made.1)
    (c.give_change.ensures.goes made.0 made.2)

pub returns-in-Err-inserting-clause-goes : goal.returns-in-Err-inserting-clause-goes
returns-in-Err-inserting-clause-goes c =
    let x = view_world c.args.memory.now in
    let p = view_process c.args.process.now in
    let i = c.args.inst in
    let h = c.in-Err-inserting.halt in
    let d = view_spot c.in-Ok-spot_of.spot in
    let there : (code at : ℤ) → Spot → Access Does = λ code at d. reference_at x p d >>= text_at x >>= λ s. gives_block_at x p d (as_block (inserted s at code)) in
    let whole : to_z w32 (of_z w32 c.in-Ok-given_int.at) ≡ c.in-Ok-given_int.at = search rules in
    let whole_code : to_z w32 (of_z w32 c.in-Ok.code) ≡ c.in-Ok.code = search rules in
    λ o.
    halts_same h (there (to_z w32 (of_z w32 c.in-Ok.code)) (to_z w32 (of_z w32 c.in-Ok-given_int.at)) d) _
    (ap (λ a. a >>= λ code. given_of Int x p i.middle >>= λ at. spot x p i.dst >>= there code at) c.in-Ok.ensures
    ∙ ap (λ a. a >>= λ at. spot x p i.dst >>= there c.in-Ok.code at) c.in-Ok-given_int.ensures
    ∙ ap (λ a. a >>= there c.in-Ok.code c.in-Ok-given_int.at) c.in-Ok-spot_of.ensures
    ∙ ap (λ z. there c.in-Ok.code z d) (sym whole) ∙ ap (λ z. there z (to_z w32 (of_z w32 c.in-Ok-given_int.at)) d) (sym whole_code))
    (changes_none x p d h (λ s. inserted s (to_z w32 (of_z w32 c.in-Ok-given_int.at)) (to_z w32 (of_z w32 c.in-Ok.code))) c.in-Err-inserting.ensures)
