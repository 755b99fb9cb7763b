use Rattle.std.proofs.Common.{ap, sym, ◌∙◌, subst, w32, w64, to_z, of_z, arith}
use Rattle.std.proofs.lemmas.Int.{to_z-of_z}
use Rattle.process_model.specs.Process.{Went}
use Rattle.sys_print.specs.Worlds as outside
use Rattle.dis_meaning.specs.Words.{Plain, Found}
use Rattle.dis_meaning.specs.Places.{Far}
use Rattle.dis_memory.specs.Control.{with_outside}
use Rattle.dis_memory.specs.Naming.{names}
use Rattle.dis_memory.specs.Places as places
use Rattle.dis_places.specs.View.{view_place, view_process, view_world}
use Rattle.dis_places.specs.Words.{Halts}
use Rattle.dis_stores.specs.Storing.{rested}
use Rattle.dis_results.specs.Going.{moved_on}
use Rattle.dis_prints.proofs.Chains.{settles_twice}
use Rattle.dis_prints.proofs.Left.{goes_without, goes_without_it, halts_behind, store_left, store_gone}
use Rattle.dis_prints.proofs.printing.finish_print.Goals as goal

pub returns-then-is_frame-clause-goes : goal.returns-then-is_frame-clause-goes
returns-then-is_frame-clause-goes c =
    store_gone (with_outside (view_world c.args.memory.now) (outside.view_world c.args.world)) c.args.process.now c.args.serial (view_place c.args.place)
    c.args.at (Plain c.args.number) c.requires.made (sym c.is_frame.ensures ∙ c.if-is_frame.true)

pub returns-in-Ok-clause-goes : goal.returns-in-Ok-clause-goes
returns-in-Ok-clause-goes c =
    let m = c.args.memory.now in
    let x = view_world m in
    let xw = with_outside x (outside.view_world c.args.world) in
    let p = c.args.process.now in
    let P = view_process p in
    let s = c.args.serial in
    let place = view_place c.args.place in
    let w = Plain c.args.number in
    let dest = c.replace-before.new.dest in
    let back = to_z-of_z w32 c.args.number c.ranges.number in
    let whole = sym (ap (to_z w32) c.cast_unsigned.ensures ∙ ap (λ z. to_z w32 (of_z w32 z)) back ∙ back) in
    let same =
    ap (λ o. rested (places.store (with_outside x (outside.view_world o)) P (Far place c.args.at) w)) (sym c.replace-before.ensures.after)
    ∙ ap (λ at. rested (places.store (with_outside x (outside.view_world dest)) P (Far place at) w)) (sym (to_z-of_z w64 c.args.at c.ranges.at))
    ∙ ap (λ n. rested (places.store (with_outside x (outside.view_world dest)) P (Far place (to_z w64 (of_z w64 c.args.at))) (Plain n))) whole in
    let stores = c.in-Ok.ensures.stores in
    let y = stores.0 in
    let settles = stores.2 in
    let m2 = c.store_plain.new.memory in
    let p2 = c.store_plain.new.process in
    let m3 = c.discard.new.memory in
    let p3 = c.discard.new.process in
    let S =
    settles_twice m m2 m3 p p2 p3 y
    (record { held = settles.held; heap = settles.heap; outer = settles.outer; tables = settles.tables })
    c.discard.ensures.settles c.discard.ensures.less in (
      y,
      store_left xw P s place c.args.at w (sym c.is_frame.ensures ∙ c.if-is_frame.false)
          ∙ goes_without_it s (places.store xw P (Far place c.args.at) w) y (view_process p2) (same ∙ stores.1)
          ∙ ap (λ q. Found (Went y (moved_on q))) (sym c.discard.ensures.gone)
          ∙ ap (λ q. Found (Went y q)) (sym c.advance.ensures),
      record {
        held = λ n. let h = S.held n in let a = ap (λ q. names q n) c.advance.ensures in omega (arith, h, a);
        heap = S.heap;
        outer = S.outer;
        tables = S.tables;
      },
    )

pub returns-in-Err-clause-goes : goal.returns-in-Err-clause-goes
returns-in-Err-clause-goes c =
    let m = c.args.memory.now in
    let x = view_world m in
    let xw = with_outside x (outside.view_world c.args.world) in
    let p = c.args.process.now in
    let P = view_process p in
    let s = c.args.serial in
    let place = view_place c.args.place in
    let w = Plain c.args.number in
    let dest = c.replace-before.new.dest in
    let back = to_z-of_z w32 c.args.number c.ranges.number in
    let whole = sym (ap (to_z w32) c.cast_unsigned.ensures ∙ ap (λ z. to_z w32 (of_z w32 z)) back ∙ back) in
    let same =
    ap (λ o. rested (places.store (with_outside x (outside.view_world o)) P (Far place c.args.at) w)) (sym c.replace-before.ensures.after)
    ∙ ap (λ at. rested (places.store (with_outside x (outside.view_world dest)) P (Far place at) w)) (sym (to_z-of_z w64 c.args.at c.ranges.at))
    ∙ ap (λ n. rested (places.store (with_outside x (outside.view_world dest)) P (Far place (to_z w64 (of_z w64 c.args.at))) (Plain n))) whole in
    subst (Halts c.in-Err.halt) (sym (store_left xw P s place c.args.at w (sym c.is_frame.ensures ∙ c.if-is_frame.false)))
    (halts_behind c.in-Err.halt (places.store xw P (Far place c.args.at) w) (λ m. Found (goes_without s m)) (subst (Halts c.in-Err.halt) (sym same) c.in-Err.ensures.stores))
