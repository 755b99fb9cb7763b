use Rattle.std.proofs.Common.{◌≡◌, ap, sym, ◌∙◌, subst, w64, arith}
use Rattle.std.specs.Prelude.{slice_set, reverse}
use Rattle.std.proofs.lemmas.List.{map-set}
use Rattle.std.proofs.lemmas.Int.{to_z-of_z}
use Rattle.dis_meaning.specs.Words.{Found, ◌>>=◌, stored, word_at}
use Rattle.dis_meaning.specs.Counts.{in_frames}
use Rattle.dis_meaning.specs.Process.{with_frames}
use Rattle.dis_meaning.specs.Places.{words_in, all_frames, with_frame_words}
use Rattle.dis_places.specs.declared.frame.Frame as code_frame
use Rattle.dis_places.specs.Words.{view_word, view_words, GivesFault}
use Rattle.dis_places.specs.Frames.{view_frame, view_frames}
use Rattle.dis_places.specs.View.{view_process}
use Rattle.dis_stores.proofs.Named.{frames_set, frames_reverse}
use Rattle.dis_stores.proofs.Written.{gives_within, within, counts_kept, frame_seen, words_running, words_below, words_made, words_gone, changed_running, changed_below, changed_made, on_ok}
use Rattle.dis_stores.proofs.puts.put_in_frame.Goals as goal

pub invariant_of-process-in-Below : goal.invariant_of-process-in-Below
invariant_of-process-in-Below c =
    let old = c.index_mut.result.now in
    let new : code_frame.Frame = record { serial = old.serial; instance = old.instance; pc = old.pc; words = c.put_at-in-Below.new.row } in
    record { once = λ n. let o = c.args.process.now.once n in let k = counts_kept n c.args.serial c.args.process.now.below.items c.in-Below.k old new (c.in-Below.ensures {u = tt}) c.index_mut.ensures.value (λ i. old.serial) in omega (arith, o, k) }

pub index_mut-requires-in-Made : goal.index_mut-requires-in-Made
index_mut-requires-in-Made c =
    let w = within c.args.serial c.args.process.now.made.items c.in-Made.k (c.in-Made.ensures {u = tt}) in
    let l = c.args.process.now.made.ok.0 in
    omega (arith, w, l)

pub invariant_of-process-in-Made : goal.invariant_of-process-in-Made
invariant_of-process-in-Made c =
    let old = c.index_mut-in-Made.result.now in
    let new : code_frame.Frame = record { serial = old.serial; instance = old.instance; pc = old.pc; words = c.put_at-in-Made.new.row } in
    record { once = λ n. let o = c.args.process.now.once n in let k = counts_kept n c.args.serial c.args.process.now.made.items c.in-Made.k old new (c.in-Made.ensures {u = tt}) c.index_mut-in-Made.ensures.value (λ i. old.serial) in omega (arith, o, k) }

pub returns-in-Running-clause-gives : goal.returns-in-Running-clause-gives
returns-in-Running-clause-gives c =
    let p = c.args.process.now in
    let s = c.args.serial in
    let w = view_word c.args.new in
    let old = view_words p.frame.words.items in
    let whole = to_z-of_z w64 c.args.at c.ranges.at in
    let gives = subst (λ at. GivesFault (λ _. view_words c.put_at.new.row.items) c.put_at.result (stored old at w)) whole c.put_at.ensures.gives in
    gives_within c.put_at.result (words_in s (all_frames (view_process p))) old (λ ws. stored ws c.args.at w) (λ ws. Found (with_frame_words (view_process p) s ws)) (λ _. view_words c.put_at.new.row.items) _
    (words_running p s (c.in-Running.ensures {u = tt})) (λ _. ap Found (changed_running p s (view_words c.put_at.new.row.items) (c.in-Running.ensures {u = tt}))) gives

pub returns-in-Below-clause-gives : goal.returns-in-Below-clause-gives
returns-in-Below-clause-gives c =
    let p = c.args.process.now in
    let s = c.args.serial in
    let w = view_word c.args.new in
    let f = c.index_mut.result.now in
    let g : code_frame.Frame = record { serial = f.serial; instance = f.instance; pc = f.pc; words = c.put_at-in-Below.new.row } in
    let old = view_words f.words.items in
    let new = view_words c.put_at-in-Below.new.row.items in
    let k = c.in-Below.k in
    let whole = to_z-of_z w64 c.args.at c.ranges.at in
    let gives = subst (λ at. GivesFault (λ _. new) c.put_at-in-Below.result (stored old at w)) whole c.put_at-in-Below.ensures.gives in
    let changed = changed_below p s k f new (c.in-Below.ensures {u = tt}) c.index_mut.ensures.value
    ∙ ap (λ fs. with_frames (view_process p) (view_frame p.frame) (reverse fs) (view_frames p.made.items)) (sym (map-set view_frame p.below.items k g)) in
    gives_within c.put_at-in-Below.result (words_in s (all_frames (view_process p))) old (λ ws. stored ws c.args.at w) (λ ws. Found (with_frame_words (view_process p) s ws)) (λ _. new) _
    (words_below p s k f (c.in-Below.ensures {u = tt}) c.index_mut.ensures.value) (λ _. ap Found changed) gives

pub returns-in-Below-clause-stood : goal.returns-in-Below-clause-stood
returns-in-Below-clause-stood c =
    let p = c.args.process.now in
    let s = c.args.serial in
    let f = c.index_mut.result.now in
    let whole = to_z-of_z w64 c.args.at c.ranges.at in
    on_ok c.put_at-in-Below.result
    (λ old e.
    ap (λ a. a >>= λ ws. word_at ws c.args.at) (words_below p s c.in-Below.k f (c.in-Below.ensures {u = tt}) c.index_mut.ensures.value)
    ∙ subst (λ at. word_at (view_words f.words.items) at ≡ Found (view_word old)) whole e)
    c.put_at-in-Below.ensures.stood

pub returns-in-Below-clause-named : goal.returns-in-Below-clause-named
returns-in-Below-clause-named c =
    let p = c.args.process.now in
    let f = c.index_mut.result.now in
    let g : code_frame.Frame = record { serial = f.serial; instance = f.instance; pc = f.pc; words = c.put_at-in-Below.new.row } in
    let k = c.in-Below.k in
    on_ok c.put_at-in-Below.result
    (λ old e n.
    let a = frames_set (view_frames p.below.items) k (view_frame f) (view_frame g) n (frame_seen c.args.serial p.below.items k f (c.in-Below.ensures {u = tt}) c.index_mut.ensures.value) in
    let b = ap (in_frames n) (map-set view_frame p.below.items k g) in
    let r = frames_reverse (view_frames p.below.items) n in
    let q = frames_reverse (view_frames (slice_set p.below.items k g)) n in
    let h = e n in
    omega (arith, a, b, r, q, h))
    c.put_at-in-Below.ensures.named

pub returns-in-Made-clause-gives : goal.returns-in-Made-clause-gives
returns-in-Made-clause-gives c =
    let p = c.args.process.now in
    let s = c.args.serial in
    let w = view_word c.args.new in
    let f = c.index_mut-in-Made.result.now in
    let g : code_frame.Frame = record { serial = f.serial; instance = f.instance; pc = f.pc; words = c.put_at-in-Made.new.row } in
    let old = view_words f.words.items in
    let new = view_words c.put_at-in-Made.new.row.items in
    let k = c.in-Made.k in
    let whole = to_z-of_z w64 c.args.at c.ranges.at in
    let gives = subst (λ at. GivesFault (λ _. new) c.put_at-in-Made.result (stored old at w)) whole c.put_at-in-Made.ensures.gives in
    let changed = changed_made p s k f new (c.in-Made.ensures {u = tt}) c.index_mut-in-Made.ensures.value
    ∙ ap (λ fs. with_frames (view_process p) (view_frame p.frame) (reverse (view_frames p.below.items)) fs) (sym (map-set view_frame p.made.items k g)) in
    gives_within c.put_at-in-Made.result (words_in s (all_frames (view_process p))) old (λ ws. stored ws c.args.at w) (λ ws. Found (with_frame_words (view_process p) s ws)) (λ _. new) _
    (words_made p s k f (c.in-Made.ensures {u = tt}) c.index_mut-in-Made.ensures.value) (λ _. ap Found changed) gives

pub returns-in-Made-clause-stood : goal.returns-in-Made-clause-stood
returns-in-Made-clause-stood c =
    let p = c.args.process.now in
    let s = c.args.serial in
    let f = c.index_mut-in-Made.result.now in
    let whole = to_z-of_z w64 c.args.at c.ranges.at in
    on_ok c.put_at-in-Made.result
    (λ old e.
    ap (λ a. a >>= λ ws. word_at ws c.args.at) (words_made p s c.in-Made.k f (c.in-Made.ensures {u = tt}) c.index_mut-in-Made.ensures.value)
    ∙ subst (λ at. word_at (view_words f.words.items) at ≡ Found (view_word old)) whole e)
    c.put_at-in-Made.ensures.stood

pub returns-in-Made-clause-named : goal.returns-in-Made-clause-named
returns-in-Made-clause-named c =
    let p = c.args.process.now in
    let f = c.index_mut-in-Made.result.now in
    let g : code_frame.Frame = record { serial = f.serial; instance = f.instance; pc = f.pc; words = c.put_at-in-Made.new.row } in
    let k = c.in-Made.k in
    on_ok c.put_at-in-Made.result
    (λ old e n.
    let a = frames_set (view_frames p.made.items) k (view_frame f) (view_frame g) n (frame_seen c.args.serial p.made.items k f (c.in-Made.ensures {u = tt}) c.index_mut-in-Made.ensures.value) in
    let b = ap (in_frames n) (map-set view_frame p.made.items k g) in
    let h = e n in
    omega (arith, a, b, h))
    c.put_at-in-Made.ensures.named

pub returns-in-Gone-clause-gives : goal.returns-in-Gone-clause-gives
returns-in-Gone-clause-gives c =
    let p = c.args.process.now in
    ap (λ a. a >>= (λ ws. stored ws c.args.at (view_word c.args.new)) >>= λ ws. Found (with_frame_words (view_process p) c.args.serial ws)) (words_gone p c.args.serial (c.in-Gone.ensures {u = tt}))
