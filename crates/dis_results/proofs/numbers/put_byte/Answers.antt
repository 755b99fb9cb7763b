use Rattle.std.proofs.Common.{rules, ◌≡◌, ap}
use Rattle.dis_meaning.specs.Words.{Plain, Found}
use Rattle.dis_meaning.specs.Places.{place_in}
use Rattle.dis_memory.specs.Places as places
use Rattle.dis_memory.specs.Places.{store, words_at}
use Rattle.dis_places.specs.Regions.{words_here}
use Rattle.dis_places.specs.View.{view_process, view_spot, view_world}
use Rattle.dis_places.specs.Words.{Gives}
use Rattle.dis_stores.specs.Storing.{rested, settled}
use Rattle.dis_stores.proofs.Blocks.{gives_same}
use Rattle.dis_results.specs.Bytes.{moved, word_with_byte}
use Rattle.dis_results.proofs.Bigs.{byte_stored}
use Rattle.dis_results.proofs.numbers.put_byte.Goals as goal

pub returns-in-Ok-word_with_byte-clause-gives : goal.returns-in-Ok-word_with_byte-clause-gives
returns-in-Ok-word_with_byte-clause-gives c =
    let x = view_world c.args.memory.now in
    let p = view_process c.args.process.now in
    let s = view_spot c.args.spot in
    let at = c.in-Ok-word_with_byte.at in
    let word = c.in-Ok-word_with_byte.word in
    let ws = words_here c.args.memory.now.heap c.args.process.now c.in-Ok.region in
    let among : words_at x p s ≡ Found ws = search rules in
    let made : word_with_byte ws (place_in s) c.args.byte ≡ Found (at, word) = search rules in
    let gives : Gives (λ _. places.memory (view_world c.put_int.new.memory) (settled (view_process c.put_int.new.process))) c.put_int.result (rested (store x p (moved s at) (Plain word))) = search rules in
    gives_same _ _ _ _ (ap rested (byte_stored x p s ws c.args.byte (at, word) among made)) gives
