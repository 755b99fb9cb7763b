-- One word of a block takes the place of another.
use Rattle.std.proofs.Common.{◌≡◌, ℕ, zero, suc, ◌+◌, true, false, List, [], ◌∷◌, map, Option, Some, None, Result, Ok, refl, sym, ap, ◌∙◌, arith}
use Rattle.std.specs.Prelude.{slice_get, slice_set}
use Rattle.std.specs.Option.{option_map}
use Rattle.std.proofs.lemmas.List.{map-set}
use Rattle.std.proofs.lemmas.Option.{slice_get-map}
use Rattle.heap_model.specs.Heap as heap_list
use Rattle.ref_heap.specs.declared.word.Word as code_word
use Rattle.ref_heap.specs.declared.kind.HeapFault.{HeapFault}
use Rattle.ref_heap.specs.Answers.{get_answer, found}
use Rattle.ref_heap.specs.Words.{naming, Cell, Content, wide, compact, cells, plain, refer, in_block, in_frame, cell_of, is_reference, with_cell, MayTake}
use Rattle.ref_heap.specs.Store.{Block, Store, IsHeap, IsLive, at, outside, words_of, word_in, alone, with_block, with_content, widened}
use Rattle.heap_cuts.specs.Shapes.{shape_of, shapes}
use Rattle.heap_cuts.proofs.Listed.{at_shapes, put_shapes}
use Rattle.ref_heap.proofs.Put.{at_with_block}
use Rattle.dis_meaning.specs.Words.{fits}
use Rattle.dis_places.specs.Words.{view_cell, view_word}
use Rattle.dis_stores.specs.Exchanging.{TakesNow, Exchanged}
use Rattle.dis_stores.specs.Storing.{named}

-- ---- what a place of a list has

pub set_itself : {A : Type 0} (h : heap_list.Heap A) (k : ℕ) (a : A) → heap_list.at h k ≡ Some a → slice_set h k (Some a) ≡ h
set_itself [] k a e = absurd cc
set_itself (o ∷ os) zero a e = ap (λ o. o ∷ os) (sym e)
set_itself (o ∷ os) (suc k) a e = ap (λ os. o ∷ os) (set_itself os k a e)

pub set_again : {A : Type 0} (h : List A) (k : ℕ) (a b : A) → slice_set (slice_set h k a) k b ≡ slice_set h k b
set_again [] zero a b = refl
set_again [] (suc k) a b = refl
set_again (o ∷ os) zero a b = refl
set_again (o ∷ os) (suc k) a b = ap (λ os. o ∷ os) (set_again os k a b)

-- ---- the words of a block

pub takes_plain : (c : Content) (v : ℕ) → MayTake c (plain v)
takes_plain (wide ws) v = tt
takes_plain (compact ns) v = tt

pub takes_refer : (c : Content) (r : Option ℕ) → MayTake c (refer r)
takes_refer (wide ws) r = tt
takes_refer (compact ns) r = tt

plain_there : (ns : List ℕ) (k : ℕ) (was : Cell) → slice_get (map plain ns) k ≡ Some was → is_reference was ≡ false
plain_there ns k was e = go (slice_get ns k) refl
  where
    go : (o : Option ℕ) → slice_get ns k ≡ o → is_reference was ≡ false
    go None n = let h : None ≡ Some was = sym (ap (option_map plain) n) ∙ sym (slice_get-map plain ns k) ∙ e in absurd cc
    go (Some v) n = let h : Some (plain v) ≡ Some was = sym (ap (option_map plain) n) ∙ sym (slice_get-map plain ns k) ∙ e in
        let same : plain v ≡ was = cc in ap is_reference (sym same)

pub cells_set : (c : Content) (k : ℕ) (word was : Cell) → slice_get (cells c) k ≡ Some was → is_reference was ≡ is_reference word → MayTake c word →
    cells (with_cell c k word) ≡ slice_set (cells c) k word
cells_set (wide ws) k word was e f t = refl
cells_set (compact ns) k (plain v) was e f t = map-set plain ns k v
cells_set (compact ns) k (refer r) was e f t = let n = plain_there ns k was e in absurd cc
cells_set (compact ns) k (in_block s v) was e f t = absurd t
cells_set (compact ns) k (in_frame s v) was e f t = absurd t

-- ---- a block that takes a word

pub takes_as_it_is : (h : Store) (k : ℕ) (word : Cell) → IsHeap h → (l : IsLive h k) → MayTake l.block.content word → TakesNow h h k word
takes_as_it_is h k word ok l t = record {
  block = l.block;
  there = l.live;
  now = l.block;
  is = l.live;
  kind = refl;
  cells = refl;
  takes = t;
  apart = λ n ne. refl;
  shapes = sym (set_itself (shapes h) k (shape_of l.block) (at_shapes h ok k ∙ ap (option_map shape_of) l.live));
  outside = λ n. refl;
}

pub takes_widened : (h h' : Store) (k : ℕ) (word : Cell) → (l : IsLive h k) → h' ≡ with_block h k (widened l.block) → ((n : ℕ) → outside h' n ≡ outside h n) →
    TakesNow h h' k word
takes_widened h h' k word l e held = record {
  block = l.block;
  there = l.live;
  now = widened l.block;
  is = ap (λ h. at h k) e ∙ (at_with_block h k (widened l.block)).here;
  kind = refl;
  cells = refl;
  takes = tt;
  apart = λ n ne. ap (λ h. at h n) e ∙ (at_with_block h k (widened l.block)).apart n ne;
  shapes = ap shapes e ∙ put_shapes h k (widened l.block);
  outside = held;
}

-- ---- a word that takes the place of another

got : (o : Option Block) (k : ℕ) (c : Cell) (b : Block) → ◌≡◌ {A = Result Cell HeapFault} (Ok c) (get_answer o k) → o ≡ Some b → slice_get (words_of b) k ≡ Some c
got None k c b e f = absurd cc
got (Some b') k c b e f = go (slice_get (words_of b') k) refl e
  where
    go : (o : Option Cell) → slice_get (words_of b') k ≡ o → ◌≡◌ {A = Result Cell HeapFault} (Ok c) (found o) → slice_get (words_of b) k ≡ Some c
    go None n e = absurd cc
    go (Some d) n e =
        let same : b' ≡ b = cc in let is : c ≡ d = cc in
        ap (λ b. slice_get (words_of b) k) (sym same) ∙ n ∙ ap Some (sym is)

pub alike : (a b : Cell) → fits (view_cell a) (view_cell b) ≡ true → is_reference a ≡ is_reference b
alike (plain v) (plain w) e = refl
alike (plain v) (refer r) e = absurd cc
alike (plain v) (in_block s w) e = refl
alike (plain v) (in_frame s w) e = refl
alike (refer r) (plain w) e = absurd cc
alike (refer r) (refer q) e = refl
alike (refer r) (in_block s w) e = absurd cc
alike (refer r) (in_frame s w) e = absurd cc
alike (in_block s v) (plain w) e = refl
alike (in_block s v) (refer r) e = absurd cc
alike (in_block s v) (in_block q w) e = refl
alike (in_block s v) (in_frame q w) e = refl
alike (in_frame s v) (plain w) e = refl
alike (in_frame s v) (refer r) e = absurd cc
alike (in_frame s v) (in_block q w) e = refl
alike (in_frame s v) (in_frame q w) e = refl

pub exchanged : (h h1 h2 : Store) (s k : ℕ) (word was : code_word.Word) → (t : TakesNow h h1 s (cell_of word)) →
    ◌≡◌ {A = Result Cell HeapFault} (Ok (cell_of was)) (get_answer (at h s) k) → fits (view_word was) (view_word word) ≡ true →
    h2 ≡ with_block h1 s (with_content t.now (with_cell t.now.content k (cell_of word))) →
    ((n : ℕ) → outside h2 n + naming (cell_of word ∷ []) n ≡ outside h1 n + naming (word_in (at h1 s) k) n) →
    Exchanged h h2 s k word was
exchanged h h1 h2 s k word was t read fit e held =
    let now = with_content t.now (with_cell t.now.content k (cell_of word)) in
    let stood = got (at h s) k (cell_of was) t.block read t.there in
    let stands : slice_get (cells t.now.content) k ≡ Some (cell_of was) = ap (λ cs. slice_get cs k) t.cells ∙ stood in
    record {
      block = t.block;
      there = t.there;
      now = now;
      is = ap (λ h. at h s) e ∙ (at_with_block h1 s now).here;
      kind = t.kind;
      stood = stood;
      fits = fit;
      cells =
          cells_set t.now.content k (cell_of word) (cell_of was) stands (alike (cell_of was) (cell_of word) fit) t.takes
          ∙ ap (λ cs. slice_set cs k (cell_of word)) t.cells;
      apart = λ n ne. ap (λ h. at h n) e ∙ (at_with_block h1 s now).apart n ne ∙ t.apart n ne;
      shapes =
          ap shapes e ∙ put_shapes h1 s now ∙ ap (λ xs. slice_set xs s (Some (shape_of now))) t.shapes
          ∙ set_again (shapes h) s (Some (shape_of t.now)) (Some (shape_of now));
      outside = λ n.
          let a = held n in let b = t.outside n in
          let c : naming (word_in (at h1 s) k) n ≡ named was n = ap (λ b. naming (word_in b k) n) t.is ∙ ap (λ c. naming (alone c) n) stands in
          omega (arith, a, b, c);
    }
