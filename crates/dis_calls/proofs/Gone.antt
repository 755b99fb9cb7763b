-- A frame that goes, by what is let go of its words and then of its instance.
use Rattle.std.proofs.Common.{◌≡◌, ℕ, ◌+◌, [], ◌∷◌, map, Some, ap, ◌∙◌, arith}
use Rattle.heap_model.specs.Heap.{stays}
use Rattle.heap_cuts.specs.Laws.{GivesAway}
use Rattle.heap_cuts.proofs.Sooner.{early, twice_early}
use Rattle.ref_heap.specs.declared.word.Word.TheVariants as word
use Rattle.ref_heap.specs.Words.{cell_of, naming}
use Rattle.ref_heap.specs.Store.{Store, AreHeld, outside}
use Rattle.dis_meaning.specs.Counts.{in_frame, in_words}
use Rattle.dis_memory.specs.Naming.{inside}
use Rattle.dis_places.specs.declared.frame.Frame as code_frame
use Rattle.dis_places.specs.declared.memory.Tables.{Tables}
use Rattle.dis_places.specs.Blocks.{view_heap, AreProper}
use Rattle.dis_places.specs.Frames.{view_frame}
use Rattle.dis_stores.proofs.Cuts.{view_cut}
use Rattle.dis_stores.proofs.Named.{cells_named, word_named}
use Rattle.dis_stores.proofs.Settling.{part_proper}
use Rattle.dis_blocks.proofs.Bare.{as_cells}

-- What a frame refers to, by its words and its instance.
pub frame_named : (f : code_frame.Frame) (n : ℕ) →
    in_frame n (view_frame f) ≡ naming (map cell_of f.words.items) n + naming (map cell_of (word.Refer (Some f.instance) ∷ [])) n
frame_named f n =
    let a = cells_named (map cell_of f.words.items) n in
    let b = ap (in_words n) (as_cells f.words.items) in
    let c = word_named (word.Refer (Some f.instance)) n in
    omega (arith, a, b, c)

pub words_held : (f : code_frame.Frame) (h : Store) → AreHeld h (λ n. in_frame n (view_frame f)) → AreHeld h (naming (map cell_of f.words.items))
words_held f h held n = let a = held n in let b = frame_named f n in omega (arith, a, b)

module _ (f : code_frame.Frame) (h h1 : Store) (held : AreHeld h (λ n. in_frame n (view_frame f)))
    (out : (n : ℕ) → outside h1 n + naming (map cell_of f.words.items) n ≡ outside h n) where
  pub instance_held : AreHeld h1 (naming (map cell_of (word.Refer (Some f.instance) ∷ [])))
  instance_held n = let a = held n in let b = frame_named f n in let c = out n in omega (arith, a, b, c)

  pub both_let_go : (h2 : Store) → ((n : ℕ) → outside h2 n + naming (map cell_of (word.Refer (Some f.instance) ∷ [])) n ≡ outside h1 n) →
      (n : ℕ) → outside h2 n + in_frame n (view_frame f) ≡ outside h n
  both_let_go h2 more n = let a = out n in let b = frame_named f n in let c = more n in omega (arith, a, b, c)

-- Two drops, one behind the other, are one cut.
pub two_cuts : (t : Tables) (h h1 h2 : Store) (first then : ℕ → ℕ) → GivesAway h h1 first → GivesAway h1 h2 then → AreProper h →
    ((n : ℕ) → outside h2 n + then n ≡ outside h1 n) → view_heap t h2 ≡ stays inside (outside h2) (view_heap t h)
two_cuts t h h1 h2 first then a b proper out =
    view_cut t h1 h2 then b (part_proper h h1 a.drops.part proper)
    ∙ ap (stays inside (outside h2)) (view_cut t h h1 first a proper)
    ∙ early inside (outside h2) (view_heap t h) (stays inside (outside h1) (view_heap t h))
    (twice_early inside (outside h1) (outside h2) (view_heap t h) (λ n. let o = out n in omega (arith, o)))
