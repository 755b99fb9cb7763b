-- What a value of a type refers to is there.
use Rattle.std.proofs.Common.{◌≡◌, ℕ, zero, suc, ◌+◌, ◌/◌, ◌≤◌, Bool, true, false, List, [], ◌∷◌, map, Option, Some, None, Result, Ok, Err, IfOk, refl, sym, ap, ◌∙◌, arith}
use Rattle.std.specs.Prelude.{slice_get, Vec}
use Rattle.std.specs.Global.{Global}
use Rattle.dis_file.specs.declared.types.TypeDesc.{TypeDesc}
use Rattle.dis_file.specs.References.{marks}
use Rattle.ref_heap.specs.declared.word.Ref.{Ref}
use Rattle.ref_heap.specs.declared.word.Word as code_word
use Rattle.ref_heap.specs.Words.{Cell, cells, cell_of}
use Rattle.ref_heap.specs.Store.{Block, IsHeap, IsLive, AreHeld, at}
use Rattle.dis_meaning.specs.Counts.{refers, in_words}
use Rattle.dis_meaning.specs.Places.{Spot}
use Rattle.dis_meaning.specs.Words.{Word, Plain, Refer, Address, Access, Found, Wrong, Raises, ◌>>=◌, type_check, or_wrong}
use Rattle.dis_memory.specs.Copies.{as_marked, typed_from, typed_words}
use Rattle.dis_memory.specs.Naming.{names}
use Rattle.dis_memory.specs.Places.{words_at}
use Rattle.dis_places.specs.declared.fault.Halt.{Halt}
use Rattle.dis_places.specs.declared.memory.Memory.{Memory}
use Rattle.dis_places.specs.declared.process.Process.{Process}
use Rattle.dis_places.specs.Blocks.{behind_first}
use Rattle.dis_places.specs.Regions.{block_words}
use Rattle.dis_places.specs.View.{view_process, view_world}
use Rattle.dis_places.specs.Words.{view_cells, view_words, Gives}
use Rattle.dis_kinds.specs.Views.{behind_in}
use Rattle.dis_stores.proofs.Named.{cells_named}
use Rattle.dis_blocks.proofs.Bare.{as_cells}
use Rattle.dis_copies.specs.Spans.{all_named, AreLive}
use Rattle.dis_results.proofs.Live.{inside_live, words_live}

-- ---- words that are found name what the others name

marked_same : (b : Bool) (w v : Word) → as_marked b w ≡ Found v → v ≡ w
marked_same true (Plain n) v e = absurd cc
marked_same true (Refer r) v e = cc
marked_same true (Address place at) v e = absurd cc
marked_same false (Plain n) v e = cc
marked_same false (Refer r) v e = absurd cc
marked_same false (Address place at) v e = cc

pub counted : (n : ℕ) (ws : List Word) (k : ℕ) (w : Word) → slice_get ws k ≡ Some w → refers n w ≤ in_words n ws
counted n [] k w e = absurd cc
counted n (v ∷ ws) zero w e = let same : v ≡ w = cc in let a = ap (refers n) same in omega (arith, a)
counted n (v ∷ ws) (suc k) w e = let h = counted n ws k w e in omega (arith, h)

typed_named : (desc : TypeDesc) (k : ℕ) (ws : List Word) (from count : ℕ) (vs : List Word) (n : ℕ) → typed_from desc k ws from count ≡ Found vs → 1 ≤ in_words n vs → 1 ≤ in_words n ws
typed_named desc k ws from zero vs n e one = let same : [] ≡ vs = cc in let a = ap (in_words n) same in absurd (omega (arith, a, one))
typed_named desc k ws from (suc count) vs n e one = go (slice_get ws from) refl e (λ us f. typed_named desc (suc k) ws (suc from) count us n f)
  where
    Rest : Type 0
    Rest = (us : List Word) → typed_from desc (suc k) ws (suc from) count ≡ Found us → 1 ≤ in_words n us → 1 ≤ in_words n ws

    ends : (w v : Word) → slice_get ws from ≡ Some w → v ≡ w → (a : Access (List Word)) → typed_from desc (suc k) ws (suc from) count ≡ a →
        (a >>= λ us. Found (v ∷ us)) ≡ Found vs → Rest → 1 ≤ in_words n ws
    ends w v there same (Found us) is e more =
        let all : v ∷ us ≡ vs = cc in
        let a = ap (in_words n) all in let b = counted n ws from w there in let c = ap (refers n) same in
        by_rest (in_words n us) refl a b c (more us is)
      where
        by_rest : (j : ℕ) → in_words n us ≡ j → refers n v + in_words n us ≡ in_words n vs → refers n w ≤ in_words n ws → refers n v ≡ refers n w →
            (1 ≤ in_words n us → 1 ≤ in_words n ws) → 1 ≤ in_words n ws
        by_rest zero j a b c f = omega (arith, j, a, b, c, one)
        by_rest (suc i) j a b c f = f (omega (arith, j))
    ends w v there same (Wrong m) is e more = absurd cc
    ends w v there same (Raises text) is e more = absurd cc

    with_word : (w : Word) → slice_get ws from ≡ Some w → (a : Access Word) → as_marked (marks desc.map k) w ≡ a →
        (a >>= λ v. typed_from desc (suc k) ws (suc from) count >>= λ us. Found (v ∷ us)) ≡ Found vs → Rest → 1 ≤ in_words n ws
    with_word w there (Found v) is e more = ends w v there (marked_same (marks desc.map k) w v is) (typed_from desc (suc k) ws (suc from) count) refl e more
    with_word w there (Wrong m) is e more = absurd cc
    with_word w there (Raises text) is e more = absurd cc

    go : (o : Option Word) → slice_get ws from ≡ o →
        (or_wrong type_check o >>= as_marked (marks desc.map k) >>= λ v. typed_from desc (suc k) ws (suc from) count >>= λ us. Found (v ∷ us)) ≡ Found vs → Rest → 1 ≤ in_words n ws
    go None there e more = absurd cc
    go (Some w) there e more = with_word w there (as_marked (marks desc.map k) w) refl e more

pub named_viewed : (ws : List code_word.Word) (n : ℕ) → in_words n (view_words ws) ≡ all_named ws n
named_viewed ws n = ap (in_words n) (sym (as_cells ws)) ∙ cells_named (map cell_of ws) n

-- ---- a value that stands in a place

pub value_live : (m : Memory) (p : Process) → IsHeap m.heap → AreHeld m.heap (names (view_process p)) → (s : Spot) (ws : List Word) (desc : TypeDesc) (from : ℕ)
    (r : Result (Vec code_word.Word Global) Halt) → words_at (view_world m) (view_process p) s ≡ Found ws →
    Gives (λ (found : Vec code_word.Word Global). view_words found.items) r (typed_words desc ws from) → IfOk r (λ found. AreLive m.heap found.items)
value_live m p ok held s ws desc from (Err h) there g = tt
value_live m p ok held s ws desc from (Ok found) there g = λ n one.
    let a = named_viewed found.items n in
    words_live m p ok held s n ws there (typed_named desc 0 ws from (desc.size / 4) (view_words found.items) n g (omega (arith, a, one)))

-- ---- a value that a cell has

past_first : (desc : TypeDesc) (k : ℕ) (w : Word) (ws : List Word) (from count : ℕ) → typed_from desc k (w ∷ ws) (suc from) count ≡ typed_from desc k ws from count
past_first desc k w ws from zero = refl
past_first desc k w ws from (suc count) =
    ap (λ r. or_wrong type_check (slice_get ws from) >>= as_marked (marks desc.map k) >>= λ v. r >>= λ vs. Found (v ∷ vs)) (past_first desc (suc k) w ws (suc from) count)

past_none : (desc : TypeDesc) (k from other count : ℕ) → typed_from desc k [] from count ≡ typed_from desc k [] other count
past_none desc k from other zero = refl
past_none desc k from other (suc count) = refl

pub behind_typed : (desc : TypeDesc) (o : Option Block) → typed_words desc (block_words o) 1 ≡ typed_words desc (behind_in o) 0
behind_typed desc None = past_none desc 0 1 0 (desc.size / 4)
behind_typed desc (Some b) = go (cells b.content)
  where
    go : (cs : List Cell) → typed_words desc (view_cells cs) 1 ≡ typed_words desc (view_cells (behind_first cs)) 0
    go [] = past_none desc 0 1 0 (desc.size / 4)
    go (c ∷ cs) = past_first desc 0 _ (view_cells cs) 0 (desc.size / 4)

pub element_live : (m : Memory) (cell : Ref) → IsHeap m.heap → (desc : TypeDesc) (from : ℕ) (r : Result (Vec code_word.Word Global) Halt) →
    Gives (λ (found : Vec code_word.Word Global). view_words found.items) r (typed_words desc (block_words (at m.heap cell.serial)) from) → IfOk r (λ found. AreLive m.heap found.items)
element_live m cell ok desc from (Err h) g = tt
element_live m cell ok desc from (Ok found) g = λ n one.
    let a = named_viewed found.items n in
    go n (at m.heap cell.serial) refl (typed_named desc 0 (block_words (at m.heap cell.serial)) from (desc.size / 4) (view_words found.items) n g (omega (arith, a, one)))
  where
    go : (n : ℕ) (o : Option Block) → at m.heap cell.serial ≡ o → 1 ≤ in_words n (block_words (at m.heap cell.serial)) → IsLive m.heap n
    go n None is e = let a = ap (λ o. in_words n (block_words o)) is in absurd (omega (arith, a, e))
    go n (Some b) is e =
        let a = ap (λ o. in_words n (block_words o)) is in let d = cells_named (cells b.content) n in
        inside_live m.heap cell.serial n b ok is (omega (arith, a, d, e))
