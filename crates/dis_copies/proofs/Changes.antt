-- A block that takes other words.
use Rattle.std.proofs.Common.{◌≡◌, ℕ, zero, suc, ◌+◌, ◌≤◌, true, List, [], ◌∷◌, ◌++◌, take, length, get_or, ◌<◌, Option, Some, None, Result, Ok, Err, refl, sym, ap, ◌∙◌, subst, arith}
use Rattle.std.specs.Prelude.{slice_get, slice_set}
use Rattle.std.specs.Option.{option_map}
use Rattle.std.proofs.lemmas.List.{map-set, take_more}
use Rattle.std.proofs.lemmas.Option.{slice_get-map}
use Rattle.ref_heap.specs.declared.kind.HeapFault.{HeapFault}
use Rattle.ref_heap.specs.declared.word.Word as code_word
use Rattle.ref_heap.specs.Answers.{get_answer, set_answer, found, fits_there}
use Rattle.ref_heap.specs.Words.{Cell, Content, wide, compact, plain, refer, in_block, in_frame, cells, cell_of, is_reference, MayTake, with_cell}
use Rattle.ref_heap.specs.Store.{Block, Store, IsHeap, IsLive, at, outside, words_of, with_block, with_content, widened}
use Rattle.ref_heap.proofs.Put.{at_with_block}
use Rattle.heap_cuts.specs.Shapes.{shape_of, shapes}
use Rattle.heap_cuts.proofs.Listed.{at_shapes, put_shapes}
use Rattle.dis_meaning.specs.Words.{Word, Found, fits}
use Rattle.dis_places.specs.Regions.{block_words}
use Rattle.dis_places.specs.Words.{view_cell, view_cells, view_word}
use Rattle.dis_stores.specs.Exchanging.{Exchanged, TakesNow}
use Rattle.dis_stores.proofs.Takes.{set_itself, set_again, alike}
use Rattle.dis_copies.specs.Changes.{Changed, TakesAll, TakesAllNow}
use Rattle.dis_copies.specs.Spans.{meets, over}
use Rattle.dis_copies.proofs.Overs.{first_met, First}

-- ---- what a block takes

pub takes_more : (c : Content) (ws vs : List code_word.Word) → TakesAll c ws → TakesAll c vs → TakesAll c (ws ++ vs)
takes_more c [] vs t u = u
takes_more c (w ∷ ws) vs t u = (t.0, takes_more c ws vs t.1 u)

-- One word more, and all of them.
pub takes_next : (c : Content) (ws : List code_word.Word) (k : ℕ) (w : code_word.Word) → k < length ws → TakesAll c (take k ws) → MayTake c (cell_of (get_or ws k w)) →
    TakesAll c (take (k + 1) ws)
takes_next c ws k w lt t u = subst (TakesAll c) (sym (take_more ws k w lt)) (takes_more c (take k ws) (get_or ws k w ∷ []) t (u, tt))

pub takes_whole : (c : Content) (ws : List code_word.Word) (k : ℕ) → length ws ≤ k → TakesAll c (take k ws) → TakesAll c ws
takes_whole c ws k le t = subst (TakesAll c) (take_full ws k le) t
  where
    take_full : (ws : List code_word.Word) (k : ℕ) → length ws ≤ k → take k ws ≡ ws
    take_full [] zero le = refl
    take_full [] (suc k) le = refl
    take_full (w ∷ ws) zero le = absurd (omega (arith, le))
    take_full (w ∷ ws) (suc k) le = ap (λ vs. w ∷ vs) (take_full ws k (omega (arith, le)))

takes_wide : (cs : List Cell) (ws : List code_word.Word) → TakesAll (wide cs) ws
takes_wide cs [] = tt
takes_wide cs (w ∷ ws) = (tt, takes_wide cs ws)

pub takes_kept : (b c : Content) (ws : List code_word.Word) → ((d : Cell) → MayTake b d → MayTake c d) → TakesAll b ws → TakesAll c ws
takes_kept b c [] keep t = tt
takes_kept b c (w ∷ ws) keep t = (keep (cell_of w) t.0, takes_kept b c ws keep t.1)

pub all_as_it_is : (h : Store) (k : ℕ) (ws : List code_word.Word) → IsHeap h → (l : IsLive h k) → TakesAll l.block.content ws → TakesAllNow h h k ws
all_as_it_is h k ws ok l t = record {
  block = l.block;
  there = l.live;
  now = l.block;
  is = l.live;
  kind = refl;
  cells = refl;
  takes = t;
  apart = λ n ne. refl;
  shapes = sym (set_itself (shapes h) k (shape_of l.block) (at_shapes h ok k ∙ ap (option_map shape_of) l.live));
  outside = λ n. refl;
}

pub all_widened : (h h' : Store) (k : ℕ) (ws : List code_word.Word) → (l : IsLive h k) → h' ≡ with_block h k (widened l.block) →
    ((n : ℕ) → outside h' n ≡ outside h n) → TakesAllNow h h' k ws
all_widened h h' k ws l e held = record {
  block = l.block;
  there = l.live;
  now = widened l.block;
  is = ap (λ h. at h k) e ∙ (at_with_block h k (widened l.block)).here;
  kind = refl;
  cells = refl;
  takes = takes_wide (words_of l.block) ws;
  apart = λ n ne. ap (λ h. at h n) e ∙ (at_with_block h k (widened l.block)).apart n ne;
  shapes = ap shapes e ∙ put_shapes h k (widened l.block);
  outside = held;
}

-- ---- one word

abbrev pub one_as_it_is : (h : Store) (k : ℕ) (word : Cell) → IsHeap h → (l : IsLive h k) → MayTake l.block.content word → TakesNow h h k word
one_as_it_is h k word ok l t = record {
  block = l.block;
  there = l.live;
  now = l.block;
  is = l.live;
  kind = refl;
  cells = refl;
  takes = t;
  apart = λ n ne. refl;
  shapes = sym (set_itself (shapes h) k (shape_of l.block) (at_shapes h ok k ∙ ap (option_map shape_of) l.live));
  outside = λ n. refl;
}

-- A block that takes a word takes what it took.
cell_takes : (c : Content) (k : ℕ) (w d : Cell) → MayTake c d → MayTake (with_cell c k w) d
cell_takes (wide ws) k w d t = tt
cell_takes (compact ns) k (plain v) (plain u) t = tt
cell_takes (compact ns) k (plain v) (refer r) t = tt
cell_takes (compact ns) k (plain v) (in_block s u) t = absurd t
cell_takes (compact ns) k (plain v) (in_frame s u) t = absurd t
cell_takes (compact ns) k (refer r) d t = t
cell_takes (compact ns) k (in_block s v) d t = t
cell_takes (compact ns) k (in_frame s v) d t = t

pub takes_still : (h h' : Store) (s k : ℕ) (w : Cell) (b c : Block) → at h s ≡ Some b → h' ≡ with_block h s (with_content b (with_cell b.content k w)) → at h' s ≡ Some c →
    (d : Cell) → MayTake b.content d → MayTake c.content d
takes_still h h' s k w b c there e is d t =
    let now : Some (with_content b (with_cell b.content k w)) ≡ Some c =
    sym (at_with_block h s (with_content b (with_cell b.content k w))).here ∙ ap (λ h. at h s) (sym e) ∙ is in
    let same : with_content b (with_cell b.content k w) ≡ c = cc in
    subst (λ (c : Block). MayTake c.content d) same (cell_takes b.content k w d t)

-- The cell that a word meets.
pub record Met (b : Block) (k : ℕ) (new : code_word.Word) : Type 0 where
  pub cell : Cell
  pub there : slice_get (words_of b) k ≡ Some cell
  pub fits : fits (view_cell cell) (view_word new) ≡ true

pub met : (h : Store) (s k : ℕ) (new : code_word.Word) (b : Block) → at h s ≡ Some b → meets (block_words (at h s)) k (view_word new ∷ []) ≡ Found tt → Met b k new
met h s k new b there e =
    let f : First (view_cells (words_of b)) k (view_word new) [] =
    first_met (view_cells (words_of b)) k (view_word new) [] (ap (λ o. meets (block_words o) k (view_word new ∷ [])) (sym there) ∙ e) in
    go (slice_get (words_of b) k) refl f (sym (slice_get-map view_cell (words_of b) k) ∙ f.there)
  where
    go : (o : Option Cell) → slice_get (words_of b) k ≡ o → (f : First (view_cells (words_of b)) k (view_word new) []) →
        option_map view_cell (slice_get (words_of b) k) ≡ Some f.old → Met b k new
    go None is f g = let a : None ≡ Some f.old = sym (ap (option_map view_cell) is) ∙ g in absurd cc
    go (Some c) is f g =
        let a : Some (view_cell c) ≡ Some f.old = sym (ap (option_map view_cell) is) ∙ g in let same : view_cell c ≡ f.old = cc in
        record { cell = c; there = is; fits = ap (λ w. fits w (view_word new)) same ∙ f.fits }

-- It is found, and the word is set.
pub never_lost : (h : Store) (s k : ℕ) (new : code_word.Word) (b : Block) (f : HeapFault) → at h s ≡ Some b → Met b k new →
    ◌≡◌ {A = Result Cell HeapFault} (Err f) (get_answer (at h s) k) → ⊥
never_lost h s k new b f there m e =
    let a : ◌≡◌ {A = Result Cell HeapFault} (Err f) (Ok m.cell) = e ∙ ap (λ o. get_answer o k) there ∙ ap found m.there in absurd cc

set_fits : (a b : Cell) → is_reference a ≡ is_reference b → fits_there (Some a) b ≡ Ok tt
set_fits (plain v) (plain w) e = refl
set_fits (plain v) (refer r) e = absurd cc
set_fits (plain v) (in_block s w) e = refl
set_fits (plain v) (in_frame s w) e = refl
set_fits (refer r) (plain w) e = absurd cc
set_fits (refer r) (refer q) e = refl
set_fits (refer r) (in_block s w) e = absurd cc
set_fits (refer r) (in_frame s w) e = absurd cc
set_fits (in_block s v) (plain w) e = refl
set_fits (in_block s v) (refer r) e = absurd cc
set_fits (in_block s v) (in_block q w) e = refl
set_fits (in_block s v) (in_frame q w) e = refl
set_fits (in_frame s v) (plain w) e = refl
set_fits (in_frame s v) (refer r) e = absurd cc
set_fits (in_frame s v) (in_block q w) e = refl
set_fits (in_frame s v) (in_frame q w) e = refl

pub never_unset : (h : Store) (s k : ℕ) (new : code_word.Word) (b : Block) (f : HeapFault) → at h s ≡ Some b → Met b k new →
    ◌≡◌ {A = Result (Unit {0}) HeapFault} (Err f) (set_answer (at h s) k (cell_of new)) → ⊥
never_unset h s k new b f there m e =
    let a : ◌≡◌ {A = Result (Unit {0}) HeapFault} (Err f) (Ok tt) =
    e ∙ ap (λ o. set_answer o k (cell_of new)) there ∙ ap (λ o. fits_there o (cell_of new)) m.there ∙ set_fits m.cell (cell_of new) (alike m.cell (cell_of new) m.fits) in absurd cc

-- What was got is of the kind of the new word.
pub got_fits : (h : Store) (s k : ℕ) (new was : code_word.Word) (b : Block) → at h s ≡ Some b → Met b k new →
    ◌≡◌ {A = Result Cell HeapFault} (Ok (cell_of was)) (get_answer (at h s) k) → fits (view_word was) (view_word new) ≡ true
got_fits h s k new was b there m e =
    let a : ◌≡◌ {A = Result Cell HeapFault} (Ok (cell_of was)) (Ok m.cell) = e ∙ ap (λ o. get_answer o k) there ∙ ap found m.there in
    let same : cell_of was ≡ m.cell = cc in ap (λ c. fits (view_cell c) (view_word new)) same ∙ m.fits

-- ---- many words

pub exchanged_words : (h h1 : Store) (s k : ℕ) (new was : code_word.Word) → Exchanged h h1 s k new was → block_words (at h1 s) ≡ slice_set (block_words (at h s)) k (view_word new)
exchanged_words h h1 s k new was x =
    ap block_words x.is ∙ ap view_cells x.cells ∙ map-set view_cell (cells x.block.content) k (cell_of new)
    ∙ ap (λ o. slice_set (block_words o) k (view_word new)) (sym x.there)

pub changed_first : (h : Store) (s : ℕ) → IsHeap h → IsLive h s → Changed h h s (block_words (at h s))
changed_first h s ok l = record {
  block = l.block;
  there = l.live;
  now = l.block;
  is = l.live;
  kind = refl;
  holds = ap block_words (sym l.live);
  apart = λ n ne. refl;
  shapes = sym (set_itself (shapes h) s (shape_of l.block) (at_shapes h ok s ∙ ap (option_map shape_of) l.live));
}

pub changed_more : (h0 h h1 : Store) (s k : ℕ) (ws : List Word) (new was : code_word.Word) → Changed h0 h s ws → Exchanged h h1 s k new was → Changed h0 h1 s (block_words (at h1 s))
changed_more h0 h h1 s k ws new was c x =
    let same : x.block ≡ c.now = let e : Some x.block ≡ Some c.now = sym x.there ∙ c.is in cc in
    record {
      block = c.block;
      there = c.there;
      now = x.now;
      is = x.is;
      kind = x.kind ∙ ap (λ (b : Block). b.kind) same ∙ c.kind;
      holds = ap block_words (sym x.is);
      apart = λ n ne. x.apart n ne ∙ c.apart n ne;
      shapes = x.shapes ∙ ap (λ hs. slice_set hs s (Some (shape_of x.now))) c.shapes ∙ set_again (shapes h0) s (Some (shape_of c.now)) (Some (shape_of x.now));
    }

pub changed_after : (h0 h h1 : Store) (s from : ℕ) (vs : List Word) (us : List code_word.Word) → TakesAllNow h0 h s us → Changed h h1 s (over (block_words (at h s)) from vs) →
    Changed h0 h1 s (over (block_words (at h0 s)) from vs)
changed_after h0 h h1 s from vs us t c =
    let same : c.block ≡ t.now = let e : Some c.block ≡ Some t.now = sym c.there ∙ t.is in cc in
    let words : block_words (at h s) ≡ block_words (at h0 s) = ap block_words t.is ∙ ap view_cells t.cells ∙ ap block_words (sym t.there) in
    record {
      block = t.block;
      there = t.there;
      now = c.now;
      is = c.is;
      kind = c.kind ∙ ap (λ (b : Block). b.kind) same ∙ t.kind;
      holds = c.holds ∙ ap (λ ws. over ws from vs) words;
      apart = λ n ne. c.apart n ne ∙ t.apart n ne;
      shapes = c.shapes ∙ ap (λ hs. slice_set hs s (Some (shape_of c.now))) t.shapes ∙ set_again (shapes h0) s (Some (shape_of t.now)) (Some (shape_of c.now));
    }
