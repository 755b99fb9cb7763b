use Rattle.std.proofs.Common.{refl}
use Rattle.ref_heap.specs.declared.word.Place.TheVariants as place
use Rattle.ref_heap.specs.declared.word.Word.TheVariants as word
use Rattle.dis_blocks.proofs.Bare.{blank_named}
use Rattle.dis_calls.proofs.Framed.{wrong_on}
use Rattle.dis_calls.proofs.making.frame_of_type.Goals as goal

pub returns-in-Err-clause-goes : goal.returns-in-Err-clause-goes
returns-in-Err-clause-goes c =
    wrong_on _ _ _ ((c.in-Err.ensures {u = tt}).wrong (word.Address (place.Frame c.args.memory.now.frames) 0) refl)

pub finish_frame-requires-clause-bare : goal.finish_frame-requires-clause-bare
finish_frame-requires-clause-bare c = blank_named c.args.desc.now c.in-Ok-blank.words.items (c.in-Ok-blank.ensures {u = tt})
