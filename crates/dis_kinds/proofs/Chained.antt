-- Cells of lists, one after another.
use Rattle.std.proofs.Common.{◌≡◌, ℕ, suc, ◌+◌, List, [], ◌∷◌, add-one, length, Option, Some, None, Result, Ok, Err, refl, sym, ap, ◌∙◌, subst, arith}
use Rattle.std.specs.Option.{option_map}
use Rattle.std.specs.Result.{IsErrAnd}
use Rattle.std.specs.Prelude.{slice_get}
use Rattle.std.proofs.lemmas.List.{length-map}
use Rattle.std.proofs.lemmas.Option.{slice_get-map}
use Rattle.ref_heap.specs.declared.word.Word.{Word}
use Rattle.ref_heap.specs.declared.kind.HeapFault.{HeapFault}
use Rattle.ref_heap.specs.Words.{Cell, cell_of, cells}
use Rattle.ref_heap.specs.Answers.{found, get_answer}
use Rattle.ref_heap.specs.declared.word.Ref.{Ref}
use Rattle.ref_heap.specs.declared.kind.Kind.{Kind}
use Rattle.ref_heap.specs.Store.{Block, at, limit}
use Rattle.heap_cuts.specs.Shapes.{shapes}
use Rattle.heap_cuts.proofs.Listed.{below_length}
use Rattle.dis_meaning.specs.Words.{Access, Found, Wrong, Raises, ◌>>=◌, or_wrong, type_check}
use Rattle.dis_memory.specs.Blocks.{World, block}
use Rattle.dis_memory.specs.Kinds.{Linked, cell_in, first_cell, cells_from}
use Rattle.dis_places.specs.declared.fault.Fault.{Fault}
use Rattle.dis_places.specs.declared.memory.Memory.{Memory}
use Rattle.dis_places.specs.Blocks.{block_by, behind_first, view_shape}
use Rattle.dis_places.specs.View.{view_world}
use Rattle.dis_places.specs.Words.{GivesFault, number_of, view_cell, view_cells, view_word}
use Rattle.dis_kinds.specs.Views.{linked, view_linked, behind_in, first_in}
use Rattle.dis_kinds.proofs.Heaps.{There}

-- What is found in a block is found at its serial.
pub cell_seen : (m : Memory) (a : Ref) (r : Result (Unit {0}) Fault) (k : Kind) (h : There m a.serial k) →
    GivesFault (λ _. linked h.live.content) r (cell_in (block_by m.tables k h.live.content)) → GivesFault (λ _. view_linked m a) r (block (view_world m) a.serial >>= cell_in)
cell_seen m a r k h gives =
    let same : view_linked m a ≡ linked h.live.content = ap (λ o. record { element = behind_in o; rest = first_in o }) h.here in
    subst (λ b. GivesFault (λ _. view_linked m a) r (b >>= cell_in)) (sym h.is)
    (subst (λ l. GivesFault (λ _. l) r (cell_in (block_by m.tables k h.live.content))) (sym same) gives)

-- As many places as blocks were made.
pub places : (m : Memory) → length (view_world m).heap ≡ m.heap.made
places m = length-map (shapes m.heap) (option_map (view_shape m.tables)) ∙ below_length (limit m.heap) (at m.heap)

-- So many cells more.
abbrev pub more : ℕ → Access ℕ → Access ℕ
more n a = a >>= λ m. Found (n + m)

pub more_none : (a : Access ℕ) → a ≡ more 0 a
more_none (Found m) = ap Found (omega arith)
more_none (Wrong n) = refl
more_none (Raises t) = refl

-- And one more.
abbrev pub longer : Access ℕ → Access ℕ
longer a = a >>= λ m. Found (suc m)

pub more_more : (n : ℕ) (a : Access ℕ) → more n (longer a) ≡ more (n + 1) a
more_more n (Found m) = ap Found (omega arith)
more_more n (Wrong w) = refl
more_more n (Raises t) = refl

module _ (x : World) where
  -- A list has one cell more than its rest.
  pub one_cell : (k : ℕ) (r : Option ℕ) (l : Linked) → first_cell x r ≡ Found (Some l) → cells_from x (suc k) r ≡ longer (cells_from x k l.rest)
  one_cell k None l e = absurd cc
  one_cell k (Some n) l e = go (block x n >>= cell_in) e
    where
      go : (a : Access Linked) → (a >>= λ c. Found (Some c)) ≡ Found (Some l) →
          (a >>= λ c. cells_from x k c.rest >>= λ m. Found (suc m)) ≡ longer (cells_from x k l.rest)
      go (Found c) e = let same : c ≡ l = cc in ap (λ (l : Linked). cells_from x k l.rest >>= λ m. Found (suc m)) same
      go (Wrong w) e = absurd cc
      go (Raises t) e = absurd cc

  pub no_cell : (k : ℕ) (r : Option ℕ) → first_cell x r ≡ Found None → cells_from x k r ≡ Found 0
  no_cell k None e = refl
  no_cell k (Some n) e = absurd (go (block x n >>= cell_in) e)
    where
      go : (a : Access Linked) → (a >>= λ c. Found (Some c)) ≡ Found None → ⊥
      go (Found c) e = absurd cc
      go (Wrong w) e = absurd cc
      go (Raises t) e = absurd cc

  pub no_list : (k : ℕ) (r : Option ℕ) (w : ℕ) → first_cell x r ≡ Wrong w → cells_from x (suc k) r ≡ Wrong w
  no_list k None w e = absurd cc
  no_list k (Some n) w e = go (block x n >>= cell_in) e
    where
      go : (a : Access Linked) → (a >>= λ c. Found (Some c)) ≡ Wrong w → (a >>= λ c. cells_from x k c.rest >>= λ m. Found (suc m)) ≡ Wrong w
      go (Found c) e = absurd cc
      go (Wrong v) e = cc
      go (Raises t) e = absurd cc

-- ---- words of elements

word_there : (cs : List Cell) (k : ℕ) → or_wrong type_check (slice_get (view_cells cs) k) ≡ or_wrong type_check (option_map view_cell (slice_get cs k))
word_there cs k = ap (or_wrong type_check) (slice_get-map view_cell cs k)

pub word_found : (o : Option Block) (k : ℕ) (w : Word) → ◌≡◌ {A = Result Cell HeapFault} (Ok (cell_of w)) (get_answer o (k + 1)) →
    or_wrong type_check (slice_get (behind_in o) k) ≡ Found (view_word w)
word_found None k w e = absurd cc
word_found (Some b) k w e = go (cells b.content) (e ∙ ap (λ i. found (slice_get (cells b.content) i)) (add-one k))
  where
    at : (o : Option Cell) → ◌≡◌ {A = Result Cell HeapFault} (Ok (cell_of w)) (found o) → or_wrong type_check (option_map view_cell o) ≡ Found (view_word w)
    at None e = absurd cc
    at (Some c) e = let same : c ≡ cell_of w = cc in ap (λ c. Found (view_cell c)) same

    go : (cs : List Cell) → ◌≡◌ {A = Result Cell HeapFault} (Ok (cell_of w)) (found (slice_get cs (suc k))) →
        or_wrong type_check (slice_get (view_cells (behind_first cs)) k) ≡ Found (view_word w)
    go [] e = absurd cc
    go (c ∷ cs) e = word_there cs k ∙ at (slice_get cs k) e

pub word_missed : (o : Option Block) (k : ℕ) (f : HeapFault) → ◌≡◌ {A = Result Cell HeapFault} (Err f) (get_answer o (k + 1)) →
    or_wrong type_check (slice_get (behind_in o) k) ≡ Wrong type_check
word_missed None k f e = refl
word_missed (Some b) k f e = go (cells b.content) (e ∙ ap (λ i. found (slice_get (cells b.content) i)) (add-one k))
  where
    at : (o : Option Cell) → ◌≡◌ {A = Result Cell HeapFault} (Err f) (found o) → or_wrong type_check (option_map view_cell o) ≡ Wrong type_check
    at None e = refl
    at (Some c) e = absurd cc

    go : (cs : List Cell) → ◌≡◌ {A = Result Cell HeapFault} (Err f) (found (slice_get cs (suc k))) →
        or_wrong type_check (slice_get (view_cells (behind_first cs)) k) ≡ Wrong type_check
    go [] e = refl
    go (c ∷ cs) e = word_there cs k ∙ at (slice_get cs k) e

-- A fault that is handed on.
pub handed_on : {S T : Type 0} (see : S → T) (r : Result S Fault) (f : Fault) (a : Access T) → IsErrAnd r (λ e. e ≡ f) → a ≡ Wrong (number_of f) → GivesFault see r a
handed_on see (Ok s) f a e w = absurd e
handed_on see (Err g) f a e w = w ∙ ap (λ f. Wrong (number_of f)) (sym e)
