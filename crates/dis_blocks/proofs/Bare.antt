-- Blocks whose words name nothing.
use Rattle.std.proofs.Common.{◌≡◌, ℕ, zero, suc, ◌+◌, Bool, true, false, List, [], ◌∷◌, map, None, pos, Result, Ok, Err, refl, sym, ap, ◌∙◌, subst, arith, if◌then◌else◌}
use Rattle.dis_file.specs.declared.types.TypeDesc.{TypeDesc}
use Rattle.dis_file.specs.References.{marks}
use Rattle.ref_heap.specs.declared.word.Word as code_word
use Rattle.ref_heap.specs.Words.{cell_of, naming}
use Rattle.ref_heap.specs.Store.{Store, AreHeld}
use Rattle.dis_meaning.specs.Words.{Refer, Plain, Access, blank, blanks}
use Rattle.dis_meaning.specs.Counts.{in_words, refers}
use Rattle.dis_memory.specs.Places as places
use Rattle.dis_places.specs.declared.fault.Halt.{Halt}
use Rattle.dis_places.specs.declared.memory.Memory.{Memory}
use Rattle.dis_places.specs.declared.process.Process.{Process}
use Rattle.dis_places.specs.Words.{view_cells, view_word, view_words}
use Rattle.dis_stores.specs.Storing.{Stores}
use Rattle.dis_stores.proofs.Named.{cells_named}
use Rattle.dis_blocks.specs.Making.{Makes}

pub as_cells : (ws : List code_word.Word) → view_cells (map cell_of ws) ≡ view_words ws
as_cells [] = refl
as_cells (w ∷ ws) = ap (λ vs. view_word w ∷ vs) (as_cells ws)

blanks_named : (desc : TypeDesc) (from count n : ℕ) → in_words n (blanks desc from count) ≡ 0
blanks_named desc from zero n = refl
blanks_named desc from (suc count) n = let r = blanks_named desc (suc from) count n in let h = one (marks desc.map from) in omega (arith, r, h)
  where
    one : (b : Bool) → refers n (if b then Refer None else Plain (pos 0)) ≡ 0
    one true = refl
    one false = refl

-- The words of a type, as they are made, name nothing.
pub blank_named : (desc : TypeDesc) (ws : List code_word.Word) → view_words ws ≡ blank desc → (n : ℕ) → naming (map cell_of ws) n ≡ 0
blank_named desc ws e n =
    sym (cells_named (map cell_of ws) n) ∙ ap (in_words n) (as_cells ws ∙ e) ∙ blanks_named desc 0 _ n

pub bare_held : (h : Store) (p : ℕ → ℕ) (given : ℕ → ℕ) → AreHeld h p → ((n : ℕ) → given n ≡ 0) → AreHeld h (λ n. p n + given n)
bare_held h p given held bare n = let a = held n in let b = bare n in omega (arith, a, b)

-- Where nothing is given away for what is made, it is a store like others.
pub bare_stores : (m m' : Memory) (p p' : Process) (given : ℕ → ℕ) (r : Result (Unit {0}) Halt) (a : Access places.Memory) → ((n : ℕ) → given n ≡ 0) →
    Makes given m p r a m' p' → Stores m p r a m' p'
bare_stores m m' p p' given (Ok u) a bare h = (
  h.0,
  h.1,
  record {
    held = λ n. let e = h.2.held n in let b = bare n in omega (arith, e, b);
    heap = h.2.heap;
    outer = h.2.outer;
    tables = h.2.tables;
  },
)
bare_stores m m' p p' given (Err e) a bare h = h

pub stores_same : (m m' : Memory) (p p' : Process) (r : Result (Unit {0}) Halt) (a b : Access places.Memory) → a ≡ b → Stores m p r a m' p' → Stores m p r b m' p'
stores_same m m' p p' r a b e h = subst (λ a. Stores m p r a m' p') e h
