-- Slots of which it is known that they have values, decisions or loops that held nothing have such.
use Rattle.std.proofs.Common.{◌≡◌, ℕ, List, [], Some, arith}
use Rattle.std.specs.Prelude.{slice_get}
use Rattle.heap_model.specs.Heap.{Heap}
use Rattle.limbo_layout.specs.Adts.{Def}
use Rattle.limbo_typed.specs.Typed as typed
use Rattle.core_code.specs.Code.{Keep}
use Rattle.core_code.specs.Machine as code
use Rattle.core_code.specs.Slots as core
use Rattle.core_typing.specs.Held as held
use Rattle.core_typing.specs.Needs as needs
use Rattle.dis_meaning.specs.Words.{Word}
use Rattle.dis_meaning.specs.Process.{Process}
use Rattle.dis_memory.specs.Blocks.{Block, World}
use Rattle.value_words.specs.Facts.{Facts}
use Rattle.value_frames.specs.Standing.{SlotStands, a_value, a_forming, a_decision, a_loop, ChainStands, no_chain, a_chain}
use Rattle.value_code.specs.Objects.{of_function}
use Rattle.value_follows.specs.Stands.{Ready}
use Rattle.value_follows.proofs.Slots.{slot_is, uses}
use Rattle.rows_chaining.specs.Rows.{IsBare, AreBare}

module _ (defs : List Def) (k : Facts) (x : Heap Block) (frame : ℕ) where
  no_regions : (words : List Word) (r next : ℕ) (gs : held.Regions) (rs : core.Regions) (own : List ℕ)
      → ChainStands defs k x frame words r gs rs own → needs.IsBare (held.Turns gs) → IsBare (core.Turns next rs)
  no_regions _ _ next _ _ _ (no_chain words p e) bare = tt
  no_regions _ _ next _ _ _ (a_chain words inner p b last h hs g gs own more mine e region tail) bare = absurd bare

  bare_slot : (words : List Word) (n r : ℕ) (h : held.Held) (l : core.Slot) (own : List ℕ)
      → SlotStands defs k x frame words n r h l own → needs.IsBare h → IsBare l
  bare_slot _ _ _ _ _ _ (a_value words n r t live v stands only) bare = tt
  bare_slot _ _ _ _ _ _ (a_forming words inner n r b t variant ks us live vs mine forming) bare = absurd bare
  bare_slot _ _ _ _ _ _ (a_decision words n r b e idle) bare = tt
  bare_slot _ _ _ _ _ _ (a_loop words n r next gs rs own e chain) bare = no_regions words r next gs rs own chain bare

module _ (m : typed.Module) (k : Facts) (i : ℕ) (x : World) (p : code.Process) (q : Process) (ready : Ready m k i x p q)
    (loop from words : ℕ) where
  pub bare : slice_get (of_function m ready.stands.is.function).code p.frame.pc ≡ Some (Keep loop from words)
      → needs.AreBare ready.stands.is.known from words → AreBare p from words
  bare here known s low high =
      let fits = (uses m k i x [] p.frame q.frame ready.stands.is p.frame.pc (Keep loop from words) here).1 in
      bare_slot m.adts k x.heap q.frame.serial _ _ _ _ _ _
      (slot_is m k i x [] p.frame q.frame ready.stands.is s (omega (arith, high, fits)) (λ e. e)) (known s low high)
