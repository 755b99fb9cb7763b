-- A process that goes on elsewhere while memory is as it was.
use Rattle.std.proofs.Common.{◌≡◌, ℕ, ◌+◌, Bool, true, false, refl, sym, ap, ◌∙◌}
use Rattle.std.specs.Prelude.{ℤ}
use Rattle.process_model.specs.Process.{Went}
use Rattle.dis_isa.specs.declared.inst.Inst.{Inst}
use Rattle.dis_file.specs.declared.object.Object.{Object}
use Rattle.limbo_values.specs.declared.operator.Comparison.{Comparison}
use Rattle.limbo_values.specs.Operators.{compared}
use Rattle.ref_heap.specs.Store.{IsHeap, outside}
use Rattle.dis_meaning.specs.Words.{Word, Access, Found, ◌>>=◌}
use Rattle.dis_meaning.specs.Process.{Process}
use Rattle.dis_memory.specs.Blocks.{World}
use Rattle.dis_memory.specs.Naming.{names}
use Rattle.dis_memory.specs.Numbers.{branch, words_compared}
use Rattle.dis_memory.specs.Process.{Does}
use Rattle.dis_places.specs.declared.memory.Memory.{Memory}
use Rattle.dis_places.specs.declared.process.Process as code
use Rattle.dis_places.specs.View.{view_process, view_world}
use Rattle.dis_stores.specs.Storing.{Settles}
use Rattle.dis_stores.proofs.Cuts.{view_uncut}
use Rattle.dis_numbers.specs.Branching.{branched}

-- Where a process stands in its code names no block.
branched_names : (p : Process) (taken : Bool) (pc n : ℕ) → names (branched p taken pc) n ≡ names p n
branched_names p true pc n = refl
branched_names p false pc n = refl

branch_settles : (m : Memory) (p p' : code.Process) (taken : Bool) (pc : ℕ) → IsHeap m.heap →
    view_process p' ≡ branched (view_process p) taken pc →
    Settles m p (view_world m) m p'
branch_settles m p p' taken pc ok e = record {
  held = λ n. ap (λ k. outside m.heap n + k) (sym (ap (λ q. names q n) e ∙ branched_names (view_process p) taken pc n));
  heap = view_uncut m.tables m.heap ok m.proper;
  outer = refl;
  tables = refl;
}

went_branched : (o : Object) (x : World) (p : Process) (i : Inst) (taken : Bool) (pc : ℕ) →
    branch o x p i taken pc ≡ Went x (branched p taken pc)
went_branched o x p i true pc = refl
went_branched o x p i false pc = refl

module _ (m : Memory) (p p' : code.Process) (taken : Bool) (pc : ℕ) (ok : IsHeap m.heap) (e : view_process p' ≡ branched (view_process p) taken pc)
    (o : Object) (i : Inst) (t : Access ℕ) (at : t ≡ Found pc) where
  -- The branch, told of the process that went on.
  went : Found (branch o (view_world m) (view_process p) i taken pc) ≡ Found (Went (view_world m) (view_process p'))
  went =
      ap Found (went_branched o (view_world m) (view_process p) i taken pc)
      ∙ ap (λ q. Found (Went (view_world m) q)) (sym e)

  abbrev Goes : Access Does → Type 0
  Goes a = (x : World) × (a ≡ Found (Went x (view_process p'))) × Settles m p x m p'

  settles : Settles m p (view_world m) m p'
  settles = branch_settles m p p' taken pc ok e

  pub words_branch : (c : Comparison) (a b : Access Word) (s w : Word) → a ≡ Found s → b ≡ Found w → words_compared c s w ≡ Found taken →
      Goes (a >>= λ s. b >>= λ w. words_compared c s w >>= λ holds. t >>= λ pc. Found (branch o (view_world m) (view_process p) i holds pc))
  words_branch c a b s w ea eb ec = (
    view_world m,
    ap (λ a. a >>= λ s. b >>= λ w. words_compared c s w >>= λ holds. t >>= λ pc. Found (branch o (view_world m) (view_process p) i holds pc)) ea
        ∙ ap (λ b. b >>= λ w. words_compared c s w >>= λ holds. t >>= λ pc. Found (branch o (view_world m) (view_process p) i holds pc)) eb
        ∙ ap (λ a. a >>= λ holds. t >>= λ pc. Found (branch o (view_world m) (view_process p) i holds pc)) ec
        ∙ ap (λ t. t >>= λ pc. Found (branch o (view_world m) (view_process p) i taken pc)) at
        ∙ went,
    settles,
  )

  pub numbers_branch : (c : Comparison) (a b : Access ℤ) (s w : ℤ) → a ≡ Found s → b ≡ Found w → taken ≡ compared c s w →
      Goes (a >>= λ s. b >>= λ w. t >>= λ pc. Found (branch o (view_world m) (view_process p) i (compared c s w) pc))
  numbers_branch c a b s w ea eb ec = (
    view_world m,
    ap (λ a. a >>= λ s. b >>= λ w. t >>= λ pc. Found (branch o (view_world m) (view_process p) i (compared c s w) pc)) ea
        ∙ ap (λ b. b >>= λ w. t >>= λ pc. Found (branch o (view_world m) (view_process p) i (compared c s w) pc)) eb
        ∙ ap (λ h. t >>= λ pc. Found (branch o (view_world m) (view_process p) i h pc)) (sym ec)
        ∙ ap (λ t. t >>= λ pc. Found (branch o (view_world m) (view_process p) i taken pc)) at
        ∙ went,
    settles,
  )
