use Rattle.std.proofs.Common.{◌≡◌, ap, sym, ◌∙◌, arith}
use Rattle.std.specs.Prelude.{slice_set, reverse}
use Rattle.std.proofs.lemmas.List.{map-set}
use Rattle.dis_meaning.specs.Counts.{in_frames}
use Rattle.dis_meaning.specs.Words.{Found, Wrong, ◌>>=◌, dead_address}
use Rattle.dis_meaning.specs.Process.{with_frames}
use Rattle.dis_meaning.specs.Places.{with_frame_words}
use Rattle.dis_places.specs.declared.frame.Frame as code_frame
use Rattle.dis_places.specs.Frames.{view_frame, view_frames}
use Rattle.dis_places.specs.View.{view_process}
use Rattle.dis_places.specs.Words.{view_words}
use Rattle.dis_stores.proofs.Named.{frames_set, frames_reverse}
use Rattle.dis_stores.proofs.Written.{within, counts_kept, frame_seen, words_running, words_below, words_made, words_gone, changed_running, changed_below, changed_made}
use Rattle.dis_copies.specs.Spans.{meets, over}
use Rattle.dis_copies.proofs.frames.exchange_frame.Goals as goal

pub exchange_row-requires-in-Below-clause-meets : goal.exchange_row-requires-in-Below-clause-meets
exchange_row-requires-in-Below-clause-meets c =
    sym (ap (λ a. a >>= λ ws. meets ws c.args.from (view_words c.args.words.now))
    (words_below c.args.process.now c.args.serial c.in-Below.k c.index_mut.result.now (c.in-Below.ensures {u = tt}) c.index_mut.ensures.value))
    ∙ c.requires.meets

pub invariant_of-process-in-Below : goal.invariant_of-process-in-Below
invariant_of-process-in-Below c =
    let old = c.index_mut.result.now in
    let new : code_frame.Frame = record { serial = old.serial; instance = old.instance; pc = old.pc; words = c.exchange_row-in-Below.new.row } in
    record { once = λ n. let o = c.args.process.now.once n in let k = counts_kept n c.args.serial c.args.process.now.below.items c.in-Below.k old new (c.in-Below.ensures {u = tt}) c.index_mut.ensures.value (λ i. old.serial) in omega (arith, o, k) }

pub index_mut-requires-in-Made : goal.index_mut-requires-in-Made
index_mut-requires-in-Made c =
    let w = within c.args.serial c.args.process.now.made.items c.in-Made.k (c.in-Made.ensures {u = tt}) in
    let l = c.args.process.now.made.ok.0 in
    omega (arith, w, l)

pub exchange_row-requires-in-Made-clause-meets : goal.exchange_row-requires-in-Made-clause-meets
exchange_row-requires-in-Made-clause-meets c =
    sym (ap (λ a. a >>= λ ws. meets ws c.args.from (view_words c.args.words.now))
    (words_made c.args.process.now c.args.serial c.in-Made.k c.index_mut-in-Made.result.now (c.in-Made.ensures {u = tt}) c.index_mut-in-Made.ensures.value))
    ∙ c.requires.meets

pub invariant_of-process-in-Made : goal.invariant_of-process-in-Made
invariant_of-process-in-Made c =
    let old = c.index_mut-in-Made.result.now in
    let new : code_frame.Frame = record { serial = old.serial; instance = old.instance; pc = old.pc; words = c.exchange_row-in-Made.new.row } in
    record { once = λ n. let o = c.args.process.now.once n in let k = counts_kept n c.args.serial c.args.process.now.made.items c.in-Made.k old new (c.in-Made.ensures {u = tt}) c.index_mut-in-Made.ensures.value (λ i. old.serial) in omega (arith, o, k) }

pub unreachable-requires : goal.unreachable-requires
unreachable-requires c =
    let a : Wrong dead_address ≡ Found tt =
    sym (ap (λ a. a >>= λ ws. meets ws c.args.from (view_words c.args.words.now)) (words_gone c.args.process.now c.args.serial (c.in-Gone.ensures {u = tt})))
    ∙ c.requires.meets in
    absurd cc

pub returns-in-Running-clause-over : goal.returns-in-Running-clause-over
returns-in-Running-clause-over c =
    let p = c.args.process.now in
    let s = c.args.serial in
    let vs = view_words c.args.words.now in
    ap (λ a. a >>= λ ws. Found (with_frame_words (view_process p) s (over ws c.args.from vs))) (words_running p s (c.in-Running.ensures {u = tt}))
    ∙ ap (λ ws. Found (with_frame_words (view_process p) s ws)) (sym c.exchange_row.ensures.over)
    ∙ ap Found (changed_running p s (view_words c.exchange_row.new.row.items) (c.in-Running.ensures {u = tt}))

pub returns-in-Below-clause-over : goal.returns-in-Below-clause-over
returns-in-Below-clause-over c =
    let p = c.args.process.now in
    let s = c.args.serial in
    let vs = view_words c.args.words.now in
    let f = c.index_mut.result.now in
    let g : code_frame.Frame = record { serial = f.serial; instance = f.instance; pc = f.pc; words = c.exchange_row-in-Below.new.row } in
    let k = c.in-Below.k in
    let new = view_words c.exchange_row-in-Below.new.row.items in
    ap (λ a. a >>= λ ws. Found (with_frame_words (view_process p) s (over ws c.args.from vs))) (words_below p s k f (c.in-Below.ensures {u = tt}) c.index_mut.ensures.value)
    ∙ ap (λ ws. Found (with_frame_words (view_process p) s ws)) (sym c.exchange_row-in-Below.ensures.over)
    ∙ ap Found (changed_below p s k f new (c.in-Below.ensures {u = tt}) c.index_mut.ensures.value)
    ∙ ap (λ fs. Found (with_frames (view_process p) (view_frame p.frame) (reverse fs) (view_frames p.made.items))) (sym (map-set view_frame p.below.items k g))

pub returns-in-Below-clause-named : goal.returns-in-Below-clause-named
returns-in-Below-clause-named c = λ n.
    let p = c.args.process.now in
    let f = c.index_mut.result.now in
    let g : code_frame.Frame = record { serial = f.serial; instance = f.instance; pc = f.pc; words = c.exchange_row-in-Below.new.row } in
    let k = c.in-Below.k in
    let a = frames_set (view_frames p.below.items) k (view_frame f) (view_frame g) n (frame_seen c.args.serial p.below.items k f (c.in-Below.ensures {u = tt}) c.index_mut.ensures.value) in
    let b = ap (in_frames n) (map-set view_frame p.below.items k g) in
    let r = frames_reverse (view_frames p.below.items) n in
    let q = frames_reverse (view_frames (slice_set p.below.items k g)) n in
    let h = c.exchange_row-in-Below.ensures.named n in
    omega (arith, a, b, r, q, h)

pub returns-in-Made-clause-over : goal.returns-in-Made-clause-over
returns-in-Made-clause-over c =
    let p = c.args.process.now in
    let s = c.args.serial in
    let vs = view_words c.args.words.now in
    let f = c.index_mut-in-Made.result.now in
    let g : code_frame.Frame = record { serial = f.serial; instance = f.instance; pc = f.pc; words = c.exchange_row-in-Made.new.row } in
    let k = c.in-Made.k in
    let new = view_words c.exchange_row-in-Made.new.row.items in
    ap (λ a. a >>= λ ws. Found (with_frame_words (view_process p) s (over ws c.args.from vs))) (words_made p s k f (c.in-Made.ensures {u = tt}) c.index_mut-in-Made.ensures.value)
    ∙ ap (λ ws. Found (with_frame_words (view_process p) s ws)) (sym c.exchange_row-in-Made.ensures.over)
    ∙ ap Found (changed_made p s k f new (c.in-Made.ensures {u = tt}) c.index_mut-in-Made.ensures.value)
    ∙ ap (λ fs. Found (with_frames (view_process p) (view_frame p.frame) (reverse (view_frames p.below.items)) fs)) (sym (map-set view_frame p.made.items k g))

pub returns-in-Made-clause-named : goal.returns-in-Made-clause-named
returns-in-Made-clause-named c = λ n.
    let p = c.args.process.now in
    let f = c.index_mut-in-Made.result.now in
    let g : code_frame.Frame = record { serial = f.serial; instance = f.instance; pc = f.pc; words = c.exchange_row-in-Made.new.row } in
    let k = c.in-Made.k in
    let a = frames_set (view_frames p.made.items) k (view_frame f) (view_frame g) n (frame_seen c.args.serial p.made.items k f (c.in-Made.ensures {u = tt}) c.index_mut-in-Made.ensures.value) in
    let b = ap (in_frames n) (map-set view_frame p.made.items k g) in
    let h = c.exchange_row-in-Made.ensures.named n in
    omega (arith, a, b, h)
