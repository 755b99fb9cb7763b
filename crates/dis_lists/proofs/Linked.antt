-- Cells that are made, and what they refer to.
use Rattle.std.proofs.Common.{◌≡◌, ℕ, ◌+◌, ◌≤◌, Bool, true, false, List, [], ◌∷◌, map, cond, Option, Some, None, IfOk, IfSome, Result, Ok, Err, OnErr, refl, sym, ap, ◌∙◌, subst, arith, eqb-true}
use Rattle.std.specs.Prelude.{eqb}
use Rattle.std.specs.Option.{option_map}
use Rattle.ref_heap.specs.declared.kind.Kind.TheVariants as kind
use Rattle.ref_heap.specs.declared.word.Word as code_word
use Rattle.ref_heap.specs.declared.word.Word.TheVariants as word
use Rattle.ref_heap.specs.declared.word.Ref.{Ref}
use Rattle.ref_heap.specs.Words.{Content, cell_of, cells, naming, wide}
use Rattle.ref_heap.specs.Store.{Store, IsHeap, IsLive, AreHeld}
use Rattle.ref_heap.proofs.Naming.{naming_cons}
use Rattle.dis_memory.specs.Blocks.{Cell}
use Rattle.dis_places.specs.declared.fault.Halt.{Halt}
use Rattle.dis_places.specs.declared.memory.Memory.{Memory}
use Rattle.dis_places.specs.declared.memory.Tables.{Tables}
use Rattle.dis_places.specs.declared.process.Process.{Process}
use Rattle.dis_places.specs.Blocks.{block_by}
use Rattle.dis_places.specs.declared.fault.Fault.{Fault}
use Rattle.dis_places.specs.View.{view_process, view_world}
use Rattle.dis_places.specs.Words.{view_words, GivesFault}
use Rattle.dis_meaning.specs.Places.{Spot}
use Rattle.dis_meaning.specs.Words.{Word, Found, reference}
use Rattle.dis_memory.specs.Naming.{names}
use Rattle.dis_memory.specs.Places.{read}
use Rattle.dis_results.proofs.Live.{read_live}
use Rattle.dis_results.proofs.Sources.{refers_there}
use Rattle.dis_stores.specs.Storing.{named, SameShapes}
use Rattle.dis_blocks.specs.Making.{Untouched}
use Rattle.dis_blocks.proofs.Bare.{as_cells}
use Rattle.dis_copies.specs.Spans.{all_named, AreLive}
use Rattle.dis_copies.proofs.Holding.{live_still}

-- The block of these words.
pub as_linked : (t : Tables) (c : Content) (ws : List code_word.Word) (rest : Option Ref) (element : List code_word.Word) → c ≡ wide (map cell_of ws) → ws ≡ word.Refer rest ∷ element →
    Cell (view_words element) (option_map (λ (r : Ref). r.serial) rest) ≡ block_by t kind.Cell c
as_linked t c ws rest element e f =
    ap (λ vs. Cell vs (option_map (λ (r : Ref). r.serial) rest)) (sym (as_cells element))
    ∙ ap (λ ws. block_by t kind.Cell (wide (map cell_of ws))) (sym f) ∙ ap (block_by t kind.Cell) (sym e)

pub linked_named : (c : Content) (ws : List code_word.Word) (rest : Option Ref) (element : List code_word.Word) (n : ℕ) → c ≡ wide (map cell_of ws) → ws ≡ word.Refer rest ∷ element →
    naming (cells c) n ≡ named (word.Refer rest) n + all_named element n
linked_named c ws rest element n e f =
    let a = naming_cons (cell_of (word.Refer rest)) (map cell_of element) n in let b = naming_cons (cell_of (word.Refer rest)) [] n in
    let d = ap (λ c. naming (cells c) n) e ∙ ap (λ ws. all_named ws n) f in
    omega (arith, a, b, d)

-- ---- what is there is there still

pub all_still : (h h1 : Store) (ws : List code_word.Word) → SameShapes h h1 → AreLive h ws → AreLive h1 ws
all_still h h1 ws same live n e = live_still h h1 n same (live n e)

-- A reference to a block that is there.
pub one_live : (h : Store) (r : Option Ref) → IfSome r (λ r. IsLive h r.serial) → AreLive h (word.Refer r ∷ [])
one_live h None live n e = absurd (omega (arith, e))
one_live h (Some r) live n e = go (eqb r.serial n) refl e
  where
    go : (b : Bool) → eqb r.serial n ≡ b → 1 ≤ 0 + cond b 1 0 → IsLive h n
    go true is e = subst (IsLive h) (eqb-true r.serial n is) live
    go false is e = absurd (omega (arith, e))

pub bare_live : (h : Store) (ws : List code_word.Word) → ((n : ℕ) → all_named ws n ≡ 0) → AreLive h ws
bare_live h ws bare n e = let a = bare n in absurd (omega (arith, a, e))

-- ---- a process that didn't go on

pub untouched_on : (m m' : Memory) (p p1 p2 : Process) (r q : Result (Unit {0}) Halt) → q ≡ r → OnErr r (Untouched m p m' p1) → OnErr r (p2 ≡ p1) → OnErr q (Untouched m p m' p2)
untouched_on m m' p p1 p2 r q same u kept = subst (λ r. OnErr r (Untouched m p m' p2)) (sym same) (go r u kept)
  where
    go : (r : Result (Unit {0}) Halt) → OnErr r (Untouched m p m' p1) → OnErr r (p2 ≡ p1) → OnErr r (Untouched m p m' p2)
    go (Ok t) u kept = tt
    go (Err h) u kept = record { world = u.world; held = u.held; tables = u.tables; process = kept ∙ u.process }

-- ---- a list that stands in a place is there

pub live_there : (m : Memory) (p : Process) → IsHeap m.heap → AreHeld m.heap (names (view_process p)) → (s : Spot) (w : Word) (r : Result (Option Ref) Fault) →
    read (view_world m) (view_process p) s ≡ Found w → GivesFault (option_map (λ (r : Ref). r.serial)) r (reference w) → IfOk r (λ o. IfSome o (λ r. IsLive m.heap r.serial))
live_there m p ok held s w (Err f) e g = tt
live_there m p ok held s w (Ok None) e g = tt
live_there m p ok held s w (Ok (Some r)) e g = read_live m p ok held s r.serial (e ∙ ap Found (refers_there w (Some r.serial) g))
