-- Elements are those of an array that is there.
use Rattle.std.proofs.Common.{◌≡◌, ℕ, ◌≤◌, zero, suc, ◌+◌, List, [], ◌∷◌, Option, Some, None, Result, Ok, Err, IfOk, IfSome, refl, ap, ◌∙◌, subst, arith}
use Rattle.std.specs.Prelude.{slice_get, Vec}
use Rattle.std.specs.Global.{Global}
use Rattle.std.specs.Option.{option_map}
use Rattle.ref_heap.specs.declared.word.Ref.{Ref}
use Rattle.ref_heap.specs.declared.word.Word as code_word
use Rattle.ref_heap.specs.Words.{cells}
use Rattle.ref_heap.specs.Store.{Block, IsHeap, IsLive, at}
use Rattle.dis_meaning.specs.Counts.{refers, in_words}
use Rattle.dis_meaning.specs.Words.{Word, Access, Found, Wrong, Raises, ◌>>=◌, type_check, or_wrong}
use Rattle.dis_memory.specs.Blocks as blocks
use Rattle.dis_memory.specs.Blocks.{Record, Text, Array, Part, Cell, Channel, Instance, Sys, World}
use Rattle.dis_memory.specs.Copies.{taken}
use Rattle.dis_memory.specs.Kinds.{Elements, all_of, elements_at, elements_in, some_of}
use Rattle.dis_places.specs.declared.fault.Halt.{Halt}
use Rattle.dis_places.specs.declared.memory.Memory.{Memory}
use Rattle.dis_places.specs.Regions.{block_words}
use Rattle.dis_places.specs.View.{view_world}
use Rattle.dis_places.specs.Words.{view_words, Gives}
use Rattle.dis_kinds.specs.declared.arrays.Elements as code_elements
use Rattle.dis_kinds.specs.Views.{view_elements}
use Rattle.dis_stores.proofs.Named.{cells_named}
use Rattle.dis_copies.specs.Spans.{AreLive}
use Rattle.dis_results.proofs.Live.{inside_live}
use Rattle.dis_moves.proofs.Typed.{counted, named_viewed}
use Rattle.dis_slices.specs.Overs.{IsArray}

-- All elements of an array have its words.
whole_array : (x : World) (n : ℕ) (b : blocks.Block) (e : Elements) → blocks.block x n ≡ Found b → all_of n b ≡ Found e → IsArray x e
whole_array x n (Record words) e there h = absurd cc
whole_array x n (Text chars) e there h = absurd cc
whole_array x n (Array element long words) e there h =
    let same : record { array = n; element = element; start = 0; long = long; words = words } ≡ e = cc in
    subst (IsArray x) same (ap (λ a. a >>= blocks.reached) there)
whole_array x n (Part array start long) e there h = absurd cc
whole_array x n (Cell element rest) e there h = absurd cc
whole_array x n (Channel element) e there h = absurd cc
whole_array x n (Instance object words) e there h = absurd cc
whole_array x n (Sys names) e there h = absurd cc

part_array : (x : World) (a start long : ℕ) (e : Elements) → (blocks.block x a >>= all_of a >>= λ e. Found (some_of start long e)) ≡ Found e → IsArray x e
part_array x a start long e h = go (blocks.block x a) refl h
  where
    with_all : (b : blocks.Block) → blocks.block x a ≡ Found b → (w : Access Elements) → all_of a b ≡ w → (w >>= λ e. Found (some_of start long e)) ≡ Found e → IsArray x e
    with_all b there (Found w) is h = let same : some_of start long w ≡ e = cc in subst (IsArray x) same (whole_array x a b w there is)
    with_all b there (Wrong k) is h = absurd cc
    with_all b there (Raises text) is h = absurd cc

    go : (b : Access blocks.Block) → blocks.block x a ≡ b → (b >>= all_of a >>= λ e. Found (some_of start long e)) ≡ Found e → IsArray x e
    go (Found b) there h = with_all b there (all_of a b) refl h
    go (Wrong k) there h = absurd cc
    go (Raises text) there h = absurd cc

in_array : (x : World) (n : ℕ) (b : blocks.Block) (e : Elements) → blocks.block x n ≡ Found b → elements_in x n b ≡ Found e → IsArray x e
in_array x n (Record words) e there h = absurd cc
in_array x n (Text chars) e there h = absurd cc
in_array x n (Array element long words) e there h = whole_array x n (Array element long words) e there h
in_array x n (Part array start long) e there h = part_array x array start long e h
in_array x n (Cell element rest) e there h = absurd cc
in_array x n (Channel element) e there h = absurd cc
in_array x n (Instance object words) e there h = absurd cc
in_array x n (Sys names) e there h = absurd cc

some_array : (x : World) (n : ℕ) (e : Elements) → elements_at x (Some n) ≡ Found (Some e) → IsArray x e
some_array x n e h = go (blocks.block x n) refl h
  where
    with_in : (b : blocks.Block) → blocks.block x n ≡ Found b → (w : Access Elements) → elements_in x n b ≡ w → (w >>= λ e. Found (Some e)) ≡ Found (Some e) → IsArray x e
    with_in b there (Found w) is h = let same : w ≡ e = cc in in_array x n b e there (is ∙ ap Found same)
    with_in b there (Wrong k) is h = absurd cc
    with_in b there (Raises text) is h = absurd cc

    go : (b : Access blocks.Block) → blocks.block x n ≡ b → (b >>= elements_in x n >>= λ e. Found (Some e)) ≡ Found (Some e) → IsArray x e
    go (Found b) there h = with_in b there (elements_in x n b) refl h
    go (Wrong k) there h = absurd cc
    go (Raises text) there h = absurd cc

pub found_array : (m : Memory) (a : Access (Option ℕ)) (r : Result (Option code_elements.Elements) Halt) →
    Gives (option_map (view_elements m)) r (a >>= elements_at (view_world m)) → IfOk r (λ o. IfSome o (λ t. IsArray (view_world m) (view_elements m t)))
found_array m a (Err h) g = tt
found_array m a (Ok None) g = tt
found_array m (Found None) (Ok (Some t)) g = absurd cc
found_array m (Found (Some n)) (Ok (Some t)) g = some_array (view_world m) n (view_elements m t) g
found_array m (Wrong k) (Ok (Some t)) g = absurd cc
found_array m (Raises text) (Ok (Some t)) g = absurd cc

-- ---- what words of an array refer to is there

taken_named : (ws : List Word) (from count : ℕ) (vs : List Word) (n : ℕ) → taken ws from count ≡ Found vs → 1 ≤ in_words n vs → 1 ≤ in_words n ws
taken_named ws from zero vs n e one = let same : [] ≡ vs = cc in let a = ap (in_words n) same in absurd (omega (arith, a, one))
taken_named ws from (suc count) vs n e one = go (slice_get ws from) refl e (λ us f. taken_named ws (suc from) count us n f)
  where
    by_rest : (w : Word) (us : List Word) (j : ℕ) → in_words n us ≡ j → refers n w + in_words n us ≡ in_words n vs → refers n w ≤ in_words n ws →
        (1 ≤ in_words n us → 1 ≤ in_words n ws) → 1 ≤ in_words n ws
    by_rest w us zero j a b f = omega (arith, j, a, b, one)
    by_rest w us (suc i) j a b f = f (omega (arith, j))

    ends : (w : Word) → slice_get ws from ≡ Some w → (a : Access (List Word)) → taken ws (suc from) count ≡ a → (a >>= λ us. Found (w ∷ us)) ≡ Found vs →
        ((us : List Word) → taken ws (suc from) count ≡ Found us → 1 ≤ in_words n us → 1 ≤ in_words n ws) → 1 ≤ in_words n ws
    ends w there (Found us) is e more =
        let all : w ∷ us ≡ vs = cc in by_rest w us (in_words n us) refl (ap (in_words n) all) (counted n ws from w there) (more us is)
    ends w there (Wrong m) is e more = absurd cc
    ends w there (Raises text) is e more = absurd cc

    go : (o : Option Word) → slice_get ws from ≡ o → (or_wrong type_check o >>= λ w. taken ws (suc from) count >>= λ us. Found (w ∷ us)) ≡ Found vs →
        ((us : List Word) → taken ws (suc from) count ≡ Found us → 1 ≤ in_words n us → 1 ≤ in_words n ws) → 1 ≤ in_words n ws
    go None there e more = absurd cc
    go (Some w) there e more = ends w there (taken ws (suc from) count) refl e more

pub taken_live : (m : Memory) (array : Ref) → IsHeap m.heap → (from count : ℕ) (r : Result (Vec code_word.Word Global) Halt) →
    Gives (λ (found : Vec code_word.Word Global). view_words found.items) r (taken (block_words (at m.heap array.serial)) from count) → IfOk r (λ found. AreLive m.heap found.items)
taken_live m array ok from count (Err h) g = tt
taken_live m array ok from count (Ok found) g = λ n one.
    let a = named_viewed found.items n in
    go n (at m.heap array.serial) refl (taken_named (block_words (at m.heap array.serial)) from count (view_words found.items) n g (omega (arith, a, one)))
  where
    go : (n : ℕ) (o : Option Block) → at m.heap array.serial ≡ o → 1 ≤ in_words n (block_words (at m.heap array.serial)) → IsLive m.heap n
    go n None is e = let a = ap (λ o. in_words n (block_words o)) is in absurd (omega (arith, a, e))
    go n (Some b) is e =
        let a = ap (λ o. in_words n (block_words o)) is in let d = cells_named (cells b.content) n in
        inside_live m.heap array.serial n b ok is (omega (arith, a, d, e))
