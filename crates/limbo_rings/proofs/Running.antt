-- What is cut, and how a run begins.
use Rattle.std.proofs.Common.{◌≡◌, ℕ, zero, suc, ◌+◌, ◌<◌, inl, inr, Bool, true, false, List, [], ◌∷◌, Option, None, Some, refl, sym}
use Rattle.std.proofs.Common.{subst, arith}
use Rattle.std.specs.Prelude.{nat_eq, if◌then◌else◌}
use Rattle.heap_model.specs.Kept.{Graph}
use Rattle.heap_model.specs.Heap.{Heap, at, graph, stays}
use Rattle.heap_model.proofs.Staying.{what_stays}
use Rattle.limbo_layout.specs.Adts.{Def}
use Rattle.limbo_typed.specs.Typed as typed
use Rattle.limbo_typed.specs.Typed.{Module}
use Rattle.limbo_typed.specs.declared.module.Initial.{Initial}
use Rattle.limbo_typed.specs.declared.stmt.Constant.{Constant}
use Rattle.limbo_typed.specs.declared.stmt.Constant.TheVariants as constant
use Rattle.limbo_meaning.specs.Values.{Value, Chars, references, references_in, fitted}
use Rattle.limbo_meaning.specs.Memory.{HeapValue, Cell, Instance, inside}
use Rattle.limbo_meaning.specs.Operations.{constant_value}
use Rattle.limbo_meaning.specs.Origins.{Name}
use Rattle.limbo_meaning.specs.Program.{initial_of, initials_from, globals_of}
use Rattle.limbo_meaning.specs.Runs.{list_from, cells_from, first_world}
use Rattle.limbo_meaning.proofs.Names.{none, nil_names, is_one, either, in_fitted}
use Rattle.limbo_rings.specs.Rings.{Leads, at_once, further}
use Rattle.limbo_rings.specs.Storing.{CutsMakeNoRing, OpeningsHaveNoRing}
use Rattle.limbo_rings.proofs.Known.{both_words}
use Rattle.limbo_rings.proofs.Changing.{named_in, names_out}

-- ---- cuts

fewer : (g h : Graph) → ((a b : ℕ) → 0 < h.uses a b → 0 < g.uses a b) → (a b : ℕ) → Leads h a b → Leads g a b
fewer g h k _ _ (at_once a b u) = at_once a b (k a b u)
fewer g h k _ _ (further a b c u l) = further a b c (k a b u) (fewer g h k b c l)

pub cuts_make_no_ring : CutsMakeNoRing
cuts_make_no_ring roots h clean n l =
    clean n (fewer (graph inside h) (graph inside (stays inside roots h))
    (λ a b k. let u = named_in (stays inside roots h) a b k in
    names_out h a b u.0 (((what_stays HeapValue).greatest inside roots h).as_it_was a u.0 u.1) u.2) n n l)

-- ---- the opening

rises : (g : Graph) → ((a b : ℕ) → 0 < g.uses a b → a < b) → (a b : ℕ) → Leads g a b → a < b
rises g k _ _ (at_once a b u) = k a b u
rises g k _ _ (further a b c u l) = let x = k a b u in let y = rises g k b c l in omega arith

constant_names : (c : Constant) (n : ℕ) → Name (references (constant_value c)) n → ⊥
constant_names (constant.Number z) n h = none n h
constant_names (constant.Chars s) n h = none n h

one_of : (b : Bool) (c : Constant) (v : Value) (n : ℕ) → (Name (references v) n → ⊥)
    → Name (references (if b then constant_value c else v)) n → ⊥
one_of true c v n k h = constant_names c n h
one_of false c v n k h = k h

initial_names : (g : ℕ) (is : List Initial) (n : ℕ) → Name (references (initial_of g is)) n → ⊥
initial_names g [] n h = none n h
initial_names g (i ∷ is) n h = one_of (nat_eq i.global g) i.value (initial_of g is) n (initial_names g is n) h

initials_name : (defs : List Def) (g : ℕ) (vs : List typed.Var) (is : List Initial) (n : ℕ)
    → Name (references_in (initials_from defs g vs is)) n → ⊥
initials_name defs g [] is n h = none n h
initials_name defs g (v ∷ vs) is n h =
    elim (either (references (fitted defs v.ty (initial_of g is))) (references_in (initials_from defs (suc g) vs is)) n h) [
      | inl x ↦ initial_names g is n (in_fitted defs v.ty (initial_of g is) n x)
      | inr x ↦ initials_name defs (suc g) vs is n x
    ]

-- a cell names the one behind it
abbrev IsCell : Option HeapValue → Type 0
IsCell o = (v : Value) × (r : Option ℕ) × (o ≡ Some (Cell v r))

cells_edge : (ws : List (List ℕ)) (n k : ℕ) (u : HeapValue) (b : ℕ) → at (cells_from n ws) k ≡ Some u → 0 < inside u b
    → (b ≡ suc (n + k)) × IsCell (at (cells_from n ws) (suc k))
cells_edge [] n k u b e l = absurd cc
cells_edge (w ∷ []) n zero u b e l =
    let same : Cell (Chars w) None ≡ u = cc in
    nil_names b (both_words (Chars w) None b (subst (λ (x : HeapValue). 0 < inside x b) (sym same) l))
cells_edge (w ∷ x ∷ ws) n zero u b e l =
    let same : Cell (Chars w) (Some (suc n)) ≡ u = cc in
    let i = is_one b (suc n) (both_words (Chars w) (Some (suc n)) b (subst (λ (x : HeapValue). 0 < inside x b) (sym same) l)) in
    (omega arith, (Chars x, list_from (suc (suc n)) ws, refl))
cells_edge (w ∷ ws) n (suc k) u b e l =
    let r = cells_edge ws (suc n) k u b e l in
    (let f = r.0 in omega arith, r.1)

module _ (m : Module) (words : List (List ℕ)) where
  abbrev heap : Heap HeapValue
  heap = (first_world m words).heap

  edge_at : (a : ℕ) (u : HeapValue) (b : ℕ) → at heap a ≡ Some u → 0 < inside u b → (b ≡ suc a) × IsCell (at heap b)
  edge_at zero u b e l =
      let same : Instance (globals_of m) ≡ u = cc in
      absurd (initials_name m.adts 0 m.globals m.initials b (subst (λ (x : HeapValue). 0 < inside x b) (sym same) l))
  edge_at (suc k) u b e l =
      let r = cells_edge words 1 k u b e l in
      let f : b ≡ suc (suc k) = let g = r.0 in omega arith in
      (f, subst (λ (x : ℕ). IsCell (at heap x)) (sym f) r.1)

  edge : (a b : ℕ) → 0 < (graph inside heap).uses a b → (b ≡ suc a) × IsCell (at heap b)
  edge a b l = let u = named_in heap a b l in edge_at a u.0 b u.1 u.2

pub openings_have_no_ring : OpeningsHaveNoRing
openings_have_no_ring m words n l =
    let r = rises (graph inside (first_world m words).heap) (λ a b u. let e = (edge m words a b u).0 in omega arith) n n l in
    absurd (omega arith)
