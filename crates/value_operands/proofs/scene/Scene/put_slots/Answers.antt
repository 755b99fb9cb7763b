use Rattle.std.proofs.Common.{ℕ, ◌++◌, ◌∷◌, [], List, map, sym, ap, ◌∙◌, append_assoc, arith}
use Rattle.std.specs.List.{range_with_len}
use Rattle.std.proofs.lemmas.List.FromFn.{map-range_with_len_more}
use Rattle.value_frames.specs.Frames.{reference_place}
use Rattle.value_operands.specs.Seen.{scene_of}
use Rattle.value_operands.proofs.scene.Scene.put_slots.Goals as goal

pub loop-slot-preserved : goal.loop-slot-preserved
loop-slot-preserved c =
    let own = c.args.offsets.now.items in
    let i = c.loop-slot.slot in
    let r = c.reference_place.result in
    let f = λ (s : ℕ). reference_place (scene_of c.args.self.now).adts (scene_of c.args.self.now).variables s in
    c.in_ok-push.ensures.items
    ∙ ap (λ (ns : List ℕ). ns ++ (r ∷ [])) c.loop-slot.invariant
    ∙ append_assoc own (map f (range_with_len 0 i)) (r ∷ [])
    ∙ ap (λ (x : ℕ). own ++ (map f (range_with_len 0 i) ++ (x ∷ []))) c.reference_place.ensures.place
    ∙ ap (λ (ns : List ℕ). own ++ ns) (sym (map-range_with_len_more f 0 i i (omega arith)))
