use Rattle.std.proofs.Common.{rules, ◌≡◌, refl, sym, ap, ◌∙◌, ◌+ℤ◌, pos}
use Rattle.limbo_values.specs.declared.number.Kind.TheVariants as kind
use Rattle.limbo_values.specs.Numbers.{value_of}
use Rattle.dis_meaning.specs.Words.{Plain, Found}
use Rattle.dis_meaning.specs.Numbers.{high_part, low_part}
use Rattle.dis_meaning.specs.Places.{place_in}
use Rattle.dis_memory.specs.Places as places
use Rattle.dis_memory.specs.Places.{store, read_number}
use Rattle.dis_places.specs.View.{view_process, view_spot, view_world}
use Rattle.dis_places.specs.Words.{number_of, Halts}
use Rattle.dis_stores.specs.Storing.{rested, settled}
use Rattle.dis_results.specs.Bytes.{moved}
use Rattle.dis_results.proofs.Bigs.{big_wrong, big_found, high_found, low_then}
use Rattle.dis_results.proofs.Onward.{never}
use Rattle.dis_results.proofs.numbers.put_big.Goals as goal

pub returns-in-Err-clause-gives : goal.returns-in-Err-clause-gives
returns-in-Err-clause-gives c =
    ap rested (big_wrong (view_world c.args.memory.now) (view_process c.args.process.now) (view_spot c.args.spot) c.args.z (number_of c.in-Err.fault) (c.in-Err.ensures {u = tt}).number)

pub unreachable-requires : goal.unreachable-requires
unreachable-requires c =
    let x = view_world c.args.memory.now in
    let p = view_process c.args.process.now in
    let s = view_spot c.args.spot in
    let there : read_number kind.Big x p s ≡ Found (value_of c.in-Ok.field-0) = c.in-Ok.ensures.number in
    let h = high_found x p s (value_of c.in-Ok.field-0) c.args.z there in
    let fault : Halts c.in-Err-put_int.field-0 (rested (store x p s (Plain (high_part c.args.z)))) = search rules in
    never c.in-Err-put_int.field-0 (rested (store x p s (Plain (high_part c.args.z)))) h.0 h.1 fault (c.in-Err-put_int.ensures {u = tt}).sure

pub unreachable-requires-in-Err-put_int-2 : goal.unreachable-requires-in-Err-put_int-2
unreachable-requires-in-Err-put_int-2 c =
    let x = view_world c.args.memory.now in
    let p = view_process c.args.process.now in
    let s = view_spot c.args.spot in
    let y = view_world c.put_int.new.memory in
    let q = view_process c.put_int.new.process in
    let there : read_number kind.Big x p s ≡ Found (value_of c.in-Ok.field-0) = c.in-Ok.ensures.number in
    let h = big_found x p s (value_of c.in-Ok.field-0) c.args.z there in
    let first : rested (store x p s (Plain (high_part c.args.z))) ≡ Found (places.memory y (settled q)) = search rules in
    let low = store y q (moved s (place_in s +ℤ pos 4)) (Plain (low_part c.args.z)) in
    let fault : Halts c.in-Err-put_int-2.field-0 (rested low) = search rules in
    never c.in-Err-put_int-2.field-0 (rested low) h.0
    (low_then x p s (value_of c.in-Ok.field-0) c.args.z there y q (places.memory y (settled q)) first refl refl ∙ h.1)
    fault (c.in-Err-put_int-2.ensures {u = tt}).sure

pub returns-clause-gives : goal.returns-clause-gives
returns-clause-gives c =
    let x = view_world c.args.memory.now in
    let p = view_process c.args.process.now in
    let s = view_spot c.args.spot in
    let y = view_world c.put_int.new.memory in
    let q = view_process c.put_int.new.process in
    let there : read_number kind.Big x p s ≡ Found (value_of c.in-Ok.field-0) = c.in-Ok.ensures.number in
    let first : rested (store x p s (Plain (high_part c.args.z))) ≡ Found (places.memory y (settled q)) = search rules in
    let second : rested (store y q (moved s (place_in s +ℤ pos 4)) (Plain (low_part c.args.z))) ≡ Found (places.memory (view_world c.put_int-2.new.memory) (settled (view_process c.put_int-2.new.process))) = search rules in
    sym (low_then x p s (value_of c.in-Ok.field-0) c.args.z there y q (places.memory y (settled q)) first refl refl) ∙ second
