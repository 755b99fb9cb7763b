-- What nodes do behind their operands.
use Rattle.std.proofs.Common.{◌≡◌, ℕ, suc, ◌+◌, ◌-◌, ◌<◌, ◌≤◌, List, [], ◌∷◌, ◌++◌, length, Option, Some}
use Rattle.std.proofs.Common.{inl, None, refl, sym, ap, subst, ◌∙◌, arith, append-nil, append_assoc}
use Rattle.std.proofs.lemmas.List.{length-reverse}
use Rattle.std.specs.Prelude.{slice_index_or, slice_get, take, drop, reverse}
use Rattle.process_model.specs.Process.{Went}
use Rattle.system_model.specs.Prints.{Writing}
use Rattle.system_model.specs.Values as system
use Rattle.limbo_types.specs.Types as ty
use Rattle.limbo_types.specs.Types.{Ty}
use Rattle.limbo_layout.specs.Adts.{Def}
use Rattle.core_follows.specs.Handled.{Fits, AllFit, IsChannel, IsList}
use Rattle.core_follows.proofs.Nodes.{Placed, hold_long}
use Rattle.limbo_meaning.specs.Values.{Value, Num, Ref, fitted, name_of, number_of, part_of}
use Rattle.limbo_meaning.specs.Memory.{Memory, Cell, Channel, made, next_name}
use Rattle.limbo_meaning.specs.Exceptions.{Raising}
use Rattle.limbo_meaning.specs.Places.{Place, operand, operands_of, part_at, written}
use Rattle.limbo_meaning.specs.Operations.{copied, elements_of, item_of}
use Rattle.limbo_meaning.specs.Trees as tree
use Rattle.limbo_meaning.specs.Trees.{Aim, Pending, Term, Evaluated, Node, Put, Linking, Block, Work, Terms}
use Rattle.limbo_meaning.specs.Evaluation as evaluation
use Rattle.limbo_meaning.specs.Evaluation.{Progress, Stepped, unless_raised, next, fill, performed, pending_for, operands_for, assigned}
use Rattle.limbo_meaning.specs.Evaluation.{put_rest}
use Rattle.limbo_meaning.specs.Evaluation.{link_rest, links, work_refers}
use Rattle.limbo_meaning.specs.Program.{Program}
use Rattle.limbo_meaning.specs.Process as source
use Rattle.limbo_meaning.specs.Process.{Shared, shared_with}
use Rattle.core_code.specs.Slots.{Slot, Holds, Slots, slot, put, value_of, values_of}
use Rattle.core_code.specs.Code as code
use Rattle.core_code.specs.Code.{Instr, Give, Known, Write, CopyInto, Call, Print, Drop}
use Rattle.core_code.specs.Machine as machine
use Rattle.core_code.specs.Machine.{Frame, at, memory_of}
use Rattle.core_code.specs.Terms.{drops_from, drops_if, count_of, slot_at, writes, cells, cell_drops, list_code}
use Rattle.core_code.specs.Statements.{code_of}
use Rattle.core_follows.specs.Drops.{HasAt, Holding}
use Rattle.core_follows.specs.Stands.{SlotsName, coded, sourced, beside, sstep, Quiet, Stands, Going, going, quietly, obeying}
use Rattle.core_follows.specs.Stands.{goes}
use Rattle.core_follows.proofs.Slots.{put_same, put_other}
use Rattle.core_follows.proofs.Holding.{Room, room_behind, Owns, holding_none, holding_more, holding_put}
use Rattle.core_follows.proofs.Contexts.{Carries}
use Rattle.core_follows.proofs.Nodes.{between_wide, AllBetween, AllHold, hold_same, hold_values, hold_at, hold_reverse, between_at}
use Rattle.core_follows.proofs.Nodes.{between_reverse}
use Rattle.core_follows.proofs.Nodes.{values_take, values_drop, evaluated, node_next, spot, pc_is, store_goes, gives_always}
use Rattle.core_follows.proofs.Given.{Both, gave, Gives, given, give_goes, owns_row, owns_none}
use Rattle.limbo_meaning.specs.Values.{nothing}
use Rattle.std.specs.Prelude.{zero}

channel_fits : (defs : List Def) (t : Ty) (r : Option ℕ) → IsChannel t → Fits defs t (Ref r)
channel_fits defs (ty.ChanOf t) r h = inl (Ref r, refl)
channel_fits defs _ r h = absurd h

list_fits : (defs : List Def) (t : Ty) (r : Option ℕ) → IsList t → Fits defs t (Ref r)
list_fits defs (ty.ListOf t) r h = inl (Ref r, refl)
list_fits defs _ r h = absurd h

pub fit_at : (defs : List Def) (ts : List Ty) (vs : List Value) (k : ℕ) → k < length vs → AllFit defs ts vs
    → Fits defs (slice_index_or ts k ty.Nothing) (slice_index_or vs k nothing)
fit_at defs [] [] k l h = absurd (omega arith)
fit_at defs [] (v ∷ vs) k l h = absurd h
fit_at defs (t ∷ ts) [] k l h = absurd h
fit_at defs (t ∷ ts) (v ∷ vs) zero l h = h.0
fit_at defs (t ∷ ts) (v ∷ vs) (suc k) l h = fit_at defs ts vs k (omega arith) h.1

module _ (limit : ℕ) (program : Program) where
  -- A step that changes nothing but the tree.
  pub quiet_step : (C : Term → Block) → Carries limit program (next program.adts) fill C → (g : Frame) (held : List (Option ℕ))
      (u u' : Term)
      → ((w : Shared) → next program.adts (memory_of w g) u ≡ Stepped (memory_of w g) [] u') → Quiet limit program g held (C u) (C u')
  quiet_step C c g held u u' e w n below =
      subst (λ (h : List (Option ℕ)). sstep limit program w (sourced n (beside g held (C u)) below) ≡ Went w
      (sourced n (beside g h (C u')) below))
      (append-nil held) (c.steps w g held n below (memory_of w g) [] u u' (e w))

  -- What a node does where its operands are evaluated, the slots of which lie from lo on and below mid; its own are those behind, below hi.
  abbrev pub Own : (X : Frame → List (Option ℕ) → Block → Type 0) → (lo mid hi into : ℕ) (Ts : List Ty) (T t : Ty) (o : Work)
      (ss : List ℕ) (is ds : List Instr) → Type 0
  Own X lo mid hi into Ts T t o ss is ds =
      (C : Term → Block) → Carries limit program (next program.adts) fill C → (g : Frame) (held : List (Option ℕ)) (vs : List Value)
      → HasAt g.code g.pc is → Room g.slots mid hi held → AllHold g.slots ss vs → AllBetween lo mid ss → AllFit program.adts Ts vs
      → ((j : ℕ) (variables : List Value) (slots : Slots) (v : Value) (got held' : List (Option ℕ)) → Holding g.slots slots mid hi ds got
      → slot slots into ≡ Holds v → Placed program.adts T lo hi into v → held' ≡ held ++ got
      → Stands limit program (spot g j (g.pc + length is) variables slots) held' (C (Evaluated v)))
      → X g held (C (Node t o (evaluated vs)))

  one_more : (pc : ℕ) → suc pc ≡ pc + 1
  one_more pc = omega arith

  pub own_gives : (lo mid : ℕ) (t : Ty) (o : Work) (ss : List ℕ) (Ts : List Ty) → Gives o → lo ≤ mid
      → Own (Going limit program) lo mid (suc mid) mid Ts t t o ss (Give t o mid ss ∷ [])
      (drops_if (work_refers program.adts t o) (drops_from mid 0 (count_of program.adts t)))
  own_gives lo mid t o ss Ts gv p C c g held vs has room hold bs fs k =
      let own : List Instr = drops_if (work_refers program.adts t o) (drops_from mid 0 (count_of program.adts t)) in
      give_goes limit program C c g held (Node t o (evaluated vs)) t o mid ss own Evaluated has.0 room
      (λ w. subst (λ x. Both program.adts t mid own Evaluated (performed program.adts (memory_of w g) t o (values_of g.slots ss)) x)
      (sym (node_next limit program (memory_of w g) t o vs))
      (subst (λ us. Both program.adts t mid own Evaluated (performed program.adts (memory_of w g) t o us)
      (performed program.adts (memory_of w g) t o vs))
      (sym (hold_values g.slots ss vs hold)) (given program.adts (memory_of w g) t mid o vs gv)))
      (λ j variables slots v got held' h e b eq. pc_is limit program g j (g.pc + 1) (suc g.pc) variables slots held' (C (Evaluated v))
      (sym (one_more g.pc)) (k j variables slots v got held' h e (p, b.1, b.2) eq))

  pub own_channel : (lo mid : ℕ) (t : Ty) (ss : List ℕ) (Ts : List Ty) → IsChannel t → lo ≤ mid
      → Own (Going limit program) lo mid (suc mid) mid Ts t t tree.NewChannel ss (Give t tree.NewChannel mid [] ∷ []) (Drop mid 0 ∷ [])
  own_channel lo mid t ss Ts ch p C c g held vs has room hold bs fs k =
      give_goes limit program C c g held (Node t tree.NewChannel (evaluated vs)) t tree.NewChannel mid [] (Drop mid 0 ∷ []) Evaluated
      has.0 room
      (λ w. subst (λ x. Both program.adts t mid (Drop mid 0 ∷ []) Evaluated (performed program.adts (memory_of w g) t tree.NewChannel []) x)
      (sym (node_next limit program (memory_of w g) t tree.NewChannel vs))
      (gave (made (memory_of w g) Channel) (Ref (Some (next_name (memory_of w g)))) (Some (next_name (memory_of w g)) ∷ [])
      (owns_row mid (Ref (Some (next_name (memory_of w g)))) 1 refl) (channel_fits program.adts t (Some (next_name (memory_of w g))) ch)))
      (λ j variables slots v got held' h e b eq. pc_is limit program g j (g.pc + 1) (suc g.pc) variables slots held' (C (Evaluated v))
      (sym (one_more g.pc)) (k j variables slots v got held' h e (p, b.1, b.2) eq))

  pub number_owns : (mid : ℕ) (v : system.Value) → Owns mid (source.value_of v) [] []
  number_owns mid (system.Num z) = owns_none mid (Num z) (λ n. refl)

  -- ---- assignments

  -- One write, and what is left behind it.
  write_goes : (C : Term → Block) → Carries limit program (next program.adts) fill C → (a : Aim) (u u' : Term) (g : Frame)
      (held : List (Option ℕ)) (ss : List ℕ) (vs : List Value) (sv : ℕ) (v : Value) → values_of g.slots ss ≡ vs → slot g.slots sv ≡ Holds v
      → slice_get g.code g.pc ≡ Some (Write a.type a.way (take (operands_of a.way) ss) a.part sv) → SlotsName g.slots held
      → ((m : Memory) → next program.adts m u
      ≡ unless_raised (written program.adts m (record { type = a.type; way = a.way; operands = take (operands_of a.way) vs })
      (part_at a.part v))
      (λ m'. Stepped m' [] u'))
      → ((variables : List Value) → Stands limit program (spot g g.into (suc g.pc) variables g.slots) held (C u'))
      → Going limit program g held (C u)
  write_goes C c a u u' g held ss vs sv v e f i names steps k =
      store_goes limit program C c g held u u' (Write a.type a.way (take (operands_of a.way) ss) a.part sv) i names
      (λ w. written program.adts (memory_of w g) place (part_at a.part v))
      (λ w n below p.
      ap (λ (us : List Value). machine.stores limit (code_of program) w (coded n g below p)
      (record { type = a.type; way = a.way; operands = us })
      (part_at a.part (value_of (slot g.slots sv)))) same_operands
      ∙ ap (λ (x : Slot). machine.stores limit (code_of program) w (coded n g below p) place (part_at a.part (value_of x))) f)
      (λ w. steps (memory_of w g)) k
    where
      place : Place
      place = record { type = a.type; way = a.way; operands = take (operands_of a.way) vs }

      same_operands : values_of g.slots (take (operands_of a.way) ss) ≡ take (operands_of a.way) vs
      same_operands = values_take g.slots (operands_of a.way) ss ∙ ap (take (operands_of a.way)) e

  pub writes_go : (C : Term → Block) → Carries limit program (next program.adts) fill C → (aims : List Aim) (a : Aim) (u : Term) (g : Frame)
      (held : List (Option ℕ)) (ss : List ℕ) (vs : List Value) (sv : ℕ) (v : Value) → values_of g.slots ss ≡ vs → slot g.slots sv ≡ Holds v
      → HasAt g.code g.pc (writes program.adts (a ∷ aims) ss sv) → SlotsName g.slots held
      → ((m : Memory) → next program.adts m u ≡ evaluation.writes program.adts m (pending_for (a ∷ aims) vs v) v)
      → ((variables : List Value) → Stands limit program (spot g g.into (g.pc + length (writes program.adts (a ∷ aims) ss sv)) variables
      g.slots)
      held (C (Evaluated v)))
      → Going limit program g held (C u)
  writes_go C c [] a u g held ss vs sv v e f has names steps k =
      write_goes C c a u (Evaluated v) g held ss vs sv v e f has.0 names steps
      (λ variables. pc_is limit program g g.into (g.pc + 1) (suc g.pc) variables g.slots held (C (Evaluated v)) (sym (one_more g.pc))
      (k variables))
  writes_go C c (b ∷ bs) a u g held ss vs sv v e f has names steps k =
      let ss' = drop (operands_of a.way) ss in
      let vs' = drop (operands_of a.way) vs in
      write_goes C c a u (Put (pending_for (b ∷ bs) vs' v) v) g held ss vs sv v e f has.0 names steps
      (λ variables.
      going (writes_go C c bs b (Put (pending_for (b ∷ bs) vs' v) v) (spot g g.into (suc g.pc) variables g.slots) held ss' vs' sv v
      (values_drop g.slots (operands_of a.way) ss ∙ ap (drop (operands_of a.way)) e) f has.1 names (λ m. refl)
      (λ more. pc_is limit program g g.into (g.pc + suc (length (writes program.adts (b ∷ bs) ss' sv)))
      (suc g.pc + length (writes program.adts (b ∷ bs) ss' sv)) more g.slots held (C (Evaluated v)) (omega arith) (k more))))

  -- An assignment: each place is written, and the value is that of the operand behind those of the places.
  pub own_writes : (lo mid : ℕ) (t : Ty) (a : Aim) (aims : List Aim) (ss : List ℕ) (Ts : List Ty) → operands_for (a ∷ aims) < length ss
      → Own (Going limit program) lo mid mid (slot_at (operands_for (a ∷ aims)) ss) Ts
      (slice_index_or Ts (operands_for (a ∷ aims)) ty.Nothing) t (tree.Assign (a ∷ aims)) ss
      (writes program.adts (a ∷ aims) ss (slot_at (operands_for (a ∷ aims)) ss)) []
  own_writes lo mid t a aims ss Ts l C c g held vs has room hold bs fs k =
      let n = operands_for (a ∷ aims) in
      let v = assigned (a ∷ aims) vs in
      let f = hold_at g.slots ss vs n l hold in
      writes_go C c aims a (Node t (tree.Assign (a ∷ aims)) (evaluated vs)) g held ss vs (slot_at n ss) v (hold_values g.slots ss vs hold) f
      has room.names (λ m. node_next limit program m t (tree.Assign (a ∷ aims)) vs)
      (λ variables. k g.into variables g.slots v [] held (holding_none g.slots mid) f
      (let b = between_at lo mid ss n l bs in (
        b.0,
        b.1,
        fit_at program.adts Ts vs n (let q = hold_long g.slots ss vs hold in omega
            arith) fs,
      ))
      (sym (append-nil held)))

  -- One that writes no place has no instruction.
  pub own_nothing : (lo mid : ℕ) (t : Ty) (ss : List ℕ) (Ts : List Ty) → 0 < length ss
      → Own (Stands limit program) lo mid mid (slot_at 0 ss) Ts (slice_index_or Ts 0 ty.Nothing) t (tree.Assign []) ss [] []
  own_nothing lo mid t ss Ts l C c g held vs has room hold bs fs k =
      let v = assigned [] vs in
      let f = hold_at g.slots ss vs 0 l hold in
      let e : g.pc + 0 ≡ g.pc = omega arith in
      quietly (C (Evaluated v)) (quiet_step C c g held (Node t (tree.Assign []) (evaluated vs)) (Evaluated v)
      (λ w. node_next limit program (memory_of w g) t (tree.Assign []) vs))
      (pc_is limit program g g.into (g.pc + 0) g.pc g.variables g.slots held (C (Evaluated v)) e
      (k g.into g.variables g.slots v [] held (holding_none g.slots mid) f
      (let b = between_at lo mid ss 0 l bs in (
        b.0,
        b.1,
        fit_at program.adts Ts vs 0 (let q = hold_long g.slots ss vs hold in omega
            arith) fs,
      ))
      (sym (append-nil held))))

  -- A copy into part of an array.
  pub own_copy : (lo mid : ℕ) (t : Ty) (ss : List ℕ) (Ts : List Ty) → 2 < length ss
      → Own (Going limit program) lo mid mid (slot_at 2 ss) Ts (slice_index_or Ts 2 ty.Nothing) t tree.Copy ss
      (CopyInto (slot_at 0 ss) (slot_at 1 ss) (slot_at 2 ss) ∷ []) []
  own_copy lo mid t ss Ts l C c g held vs has room hold bs fs k =
      let f0 = hold_at g.slots ss vs 0 (omega arith) hold in
      let f1 = hold_at g.slots ss vs 1 (omega arith) hold in
      let f2 = hold_at g.slots ss vs 2 l hold in
      let r : Shared → Slot → Slot → Slot → Raising Memory = λ w x y z. copied (memory_of w g) (part_of (value_of x))
      (number_of (value_of y)) (elements_of (memory_of w g) (part_of (value_of z))) in
      store_goes limit program C c g held (Node t tree.Copy (evaluated vs)) (Evaluated (operand 2 vs)) _ has.0 room.names
      (λ w. r w (Holds (operand 0 vs)) (Holds (operand 1 vs)) (Holds (operand 2 vs)))
      (λ w n below p. ap (λ (x : Raising Memory). machine.unless_raised limit (code_of program) w (coded n g below p) x
      (λ m. machine.goes_with w (coded n g below p) m g.slots))
      (ap (λ (x : Slot). r w x (slot g.slots (slot_at 1 ss)) (slot g.slots (slot_at 2 ss))) f0
      ∙ ap (λ (x : Slot). r w (Holds (operand 0 vs)) x (slot g.slots (slot_at 2 ss))) f1
      ∙ ap (λ (x : Slot). r w (Holds (operand 0 vs)) (Holds (operand 1 vs)) x) f2))
      (λ w. node_next limit program (memory_of w g) t tree.Copy vs)
      (λ variables. pc_is limit program g g.into (g.pc + 1) (suc g.pc) variables g.slots held (C (Evaluated (operand 2 vs)))
      (sym (one_more g.pc))
      (k g.into variables g.slots (operand 2 vs) [] held (holding_none g.slots mid) f2
      (let b = between_at lo mid ss 2 l bs in (
        b.0,
        b.1,
        fit_at program.adts Ts vs 2 (let q = hold_long g.slots ss vs hold in omega
            arith) fs,
      ))
      (sym (append-nil held))))

  -- ---- lists

  -- One cell, in front of what the one behind it refers to.
  cell_goes : (C : Term → Block) → Carries limit program (next program.adts) fill C → (t : Ty) (s f : ℕ) (b : Option ℕ) (v : Value)
      (vs : List Value) (r : Option ℕ) (u : Term) (g : Frame) (held : List (Option ℕ)) → slice_get g.code g.pc ≡ Some (code.Cell t f s b)
      → SlotsName g.slots held → slot g.slots s ≡ Holds v
      → ((w : Shared) (n : ℕ) (below : List Frame) (p : Option Writing) → machine.behind_of limit (code_of program) w (coded n g below p)
      b ≡ r)
      → ((m : Memory) → next program.adts m u ≡ links program.adts m t (v ∷ vs) r)
      → ((name : ℕ) → Stands limit program (spot g g.into (suc g.pc) g.variables (put g.slots f (Holds (Ref (Some name)))))
      (held ++ (Some name ∷ [])) (C (link_rest t vs (Some name))))
      → Going limit program g held (C u)
  cell_goes C c t s f b v vs r u g held i names e behind steps k =
      obeying (code.Cell t f s b) names i
      (λ w. let name = next_name (memory_of w g) in
      goes (made (memory_of w g) (Cell (fitted program.adts t v) r)) (suc g.pc) (put g.slots f (Holds (Ref (Some name))))
      (held ++ (Some name ∷ [])) (C (link_rest t vs (Some name)))
      (λ n below p.
      ap (λ (x : Slot). machine.goes_with w (coded n g below p)
      (made (memory_of w g) (Cell (fitted program.adts t (value_of x)) (machine.behind_of limit (code_of program) w (coded n g below p) b)))
      (put g.slots f (Holds (Ref (Some name))))) e
      ∙ ap (λ (x : Option ℕ). machine.goes_with w (coded n g below p) (made (memory_of w g) (Cell (fitted program.adts t v) x))
      (put g.slots f (Holds (Ref (Some name))))) (behind w n below p))
      (λ n below. c.steps w g held n below (made (memory_of w g) (Cell (fitted program.adts t v) r)) (Some name ∷ []) u
      (link_rest t vs (Some name)) (steps (memory_of w g)))
      (k name))

  abbrev BehindCells : Frame → (f : ℕ) (ss : List ℕ) (pc : ℕ) → List (Option ℕ) → (Term → Block) → Type 0
  BehindCells g f ss pc held C =
      (j : ℕ) (variables : List Value) (slots : Slots) (v : Value) (got held' : List (Option ℕ))
      → Holding g.slots slots f (f + suc (length ss)) (cell_drops program.adts (suc (length ss)) f) got
      → slot slots (f + length ss) ≡ Holds v → ((r : Option ℕ) × (v ≡ Ref r)) → held' ≡ held ++ got → Stands limit program
      (spot g j pc variables slots) held'
      (C (Evaluated v))

  -- The cells of a list, the last first.
  cells_go : (C : Term → Block) → Carries limit program (next program.adts) fill C → (t : Ty) (ss : List ℕ) (s : ℕ) (vs : List Value)
      (v : Value)
      (u : Term) (g : Frame) (held : List (Option ℕ)) (lo f : ℕ) (b r : Option ℕ) → HasAt g.code g.pc (cells program.adts t (s ∷ ss) b f)
      → Room g.slots f (f + suc (length ss)) held → AllHold g.slots (s ∷ ss) (v ∷ vs) → AllBetween lo f (s ∷ ss)
      → ((w : Shared) (n : ℕ) (below : List Frame) (p : Option Writing) → machine.behind_of limit (code_of program) w (coded n g below p)
      b ≡ r)
      → ((m : Memory) → next program.adts m u ≡ links program.adts m t (v ∷ vs) r)
      → BehindCells g f ss (g.pc + length (cells program.adts t (s ∷ ss) b f)) held C → Going limit program g held (C u)
  cells_go C c t [] s [] v u g held lo f b r has room hold bs behind steps k =
      cell_goes C c t s f b v [] r u g held has.0 room.names hold.0 behind steps
      (λ name.
      let x = Ref (Some name) in
      let l : f < length g.slots = let a = room.fits in omega arith in
      let e : suc f ≡ f + 1 = omega arith in
      let h = subst (λ (hi : ℕ). Holding g.slots (put g.slots f (Holds x)) f hi (Drop f 0 ∷ []) (Some name ∷ [])) e
      (holding_put g.slots f x (Drop f 0 ∷ []) (Some name ∷ []) l (owns_row f x 1 refl)) in
      let z : f ≡ f + 0 = omega arith in
      pc_is limit program g g.into (g.pc + 1) (suc g.pc) g.variables (put g.slots f (Holds x)) (held ++ (Some name ∷ [])) (C (Evaluated x))
      (sym (one_more g.pc))
      (k g.into g.variables (put g.slots f (Holds x)) x (Some name ∷ []) (held ++ (Some name ∷ [])) h
      (subst (λ (d : ℕ). slot (put g.slots f (Holds x)) d ≡ Holds x) z (put_same g.slots f (Holds x) l)) (Some name, refl) refl))
  cells_go C c t [] s (v' ∷ vs) v u g held lo f b r has room hold bs behind steps k = absurd hold.1
  cells_go C c t (s' ∷ ss) s [] v u g held lo f b r has room hold bs behind steps k = absurd hold.1
  cells_go C c t (s' ∷ ss) s (v' ∷ vs) v u g held lo f b r has room hold bs behind steps k =
      cell_goes C c t s f b v (v' ∷ vs) r u g held has.0 room.names hold.0 behind steps
      (λ name.
      let x = Ref (Some name) in
      let l : f < length g.slots = let a = room.fits in omega arith in
      let slots1 = put g.slots f (Holds x) in
      let held1 = held ++ (Some name ∷ []) in
      let hi = f + suc (suc (length ss)) in
      let e : hi ≡ suc f + suc (length ss) = omega arith in
      let h = holding_put g.slots f x (Drop f 0 ∷ []) (Some name ∷ []) l (owns_row f x 1 refl) in
      let g1 = spot g g.into (suc g.pc) g.variables slots1 in
      let room1 = room_behind g.slots slots1 f (suc f) hi (Drop f 0 ∷ []) held (Some name ∷ []) held1 (omega arith) (omega arith) room h
      refl in
      going (cells_go C c t ss s' vs v' (Linking t (v' ∷ vs) (Some name)) g1 held1 lo (suc f) (Some f) (Some name) has.1
      (subst (λ (z : ℕ). Room slots1 (suc f) z held1) e room1)
      (hold_same g.slots slots1 lo f (s' ∷ ss) (v' ∷ vs) bs.1 (λ d z. put_other g.slots f d (Holds x)
      (λ q. absurd (let y = z.1 in omega (arith, y, q)))) hold.1)
      (between_wide lo f lo (suc f) (s' ∷ ss) (omega arith) (omega arith) bs.1)
      (λ w n below p. ap (λ (y : Slot). name_of (value_of y)) (put_same g.slots f (Holds x) l))
      (λ m. refl)
      (λ j variables slots v2 got held' h2 e2 r2 eq.
      let more = length (cells program.adts t (s' ∷ ss) (Some f) (suc f)) in
      let fin : suc f + length ss ≡ f + suc (length ss) = omega arith in
      let h2' = subst (λ (z : ℕ). Holding slots1 slots (suc f) z (cell_drops program.adts (suc (length ss)) (suc f)) got) (sym e) h2 in
      pc_is limit program g j (g.pc + suc more) (suc g.pc + more) variables slots held' (C (Evaluated v2)) (omega arith)
      (k j variables slots v2 (Some name ∷ got) held'
      (holding_more g.slots slots1 slots f (suc f) hi (Drop f 0 ∷ []) (cell_drops program.adts (suc (length ss)) (suc f))
      (Some name ∷ []) got
      (omega arith) (omega arith) h h2')
      (subst (λ (d : ℕ). slot slots d ≡ Holds v2) fin e2) r2
      (eq ∙ append_assoc held (Some name ∷ []) got)))))

  -- in whatever order
  cells_all : (C : Term → Block) → Carries limit program (next program.adts) fill C → (t : Ty) (ss : List ℕ) (vs : List Value) (k : ℕ)
      (u : Term) (g : Frame) (held : List (Option ℕ)) (lo f : ℕ) → length ss ≡ suc k → HasAt g.code g.pc (cells program.adts t ss None f)
      → Room g.slots f (f + suc k) held → AllHold g.slots ss vs → AllBetween lo f ss
      → ((m : Memory) → next program.adts m u ≡ links program.adts m t vs None)
      → ((j : ℕ) (variables : List Value) (slots : Slots) (v : Value) (got held' : List (Option ℕ))
      → Holding g.slots slots f (f + suc k) (cell_drops program.adts (suc k) f) got → slot slots (f + k) ≡ Holds v
      → ((r : Option ℕ) × (v ≡ Ref r)) → held' ≡ held ++ got
      → Stands limit program (spot g j (g.pc + length (cells program.adts t ss None f)) variables slots) held' (C (Evaluated v)))
      → Going limit program g held (C u)
  cells_all C c t [] vs k u g held lo f l has room hold bs steps behind = absurd (omega arith)
  cells_all C c t (s ∷ ss) [] k u g held lo f l has room hold bs steps behind = absurd hold
  cells_all C c t (s ∷ ss) (v ∷ vs) k u g held lo f l has room hold bs steps behind =
      let e : k ≡ length ss = omega arith in
      cells_go C c t ss s vs v u g held lo f None None has (subst (λ (z : ℕ). Room g.slots f (f + suc z) held) e room) hold bs
      (λ w n below p. refl) steps
      (λ j variables slots x got held' h y r eq. behind j variables slots x got held'
      (subst (λ (z : ℕ). Holding g.slots slots f (f + suc z) (cell_drops program.adts (suc z) f) got) (sym e) h)
      (subst (λ (z : ℕ). slot slots (f + z) ≡ Holds x) (sym e) y) r eq)

  cells_long : (t : Ty) (ss : List ℕ) (b : Option ℕ) (f : ℕ) → length (cells program.adts t ss b f) ≡ length ss
  cells_long t [] b f = refl
  cells_long t (s ∷ ss) b f = ap suc (cells_long t ss (Some f) (suc f))

  pub own_link : (lo mid : ℕ) (t : Ty) (ss : List ℕ) (Ts : List Ty) → IsList t → lo ≤ mid
      → Own (Going limit program) lo mid (suc (mid + (length ss - 1))) (mid + (length ss - 1)) Ts t t tree.Link ss
      (list_code program.adts (item_of t) ss mid) (cell_drops program.adts (length ss) mid)
  own_link lo mid t [] Ts il p C c g held [] has room hold bs fs k =
      let x = Ref None in
      let l : mid < length g.slots = let a = room.fits in omega arith in
      let e : suc mid ≡ suc (mid + (0 - 1)) = omega arith in
      let z : mid ≡ mid + (0 - 1) = omega arith in
      let slots1 = put g.slots mid (Holds x) in
      gives_always limit program C c g held [] (Node t tree.Link (evaluated [])) (Evaluated x) (Known x mid) (suc g.pc) slots1 has.0
      room.names
      (λ w n below q. refl) (λ w. node_next limit program (memory_of w g) t tree.Link [])
      (pc_is limit program g g.into (g.pc + 1) (suc g.pc) g.variables slots1 (held ++ []) (C (Evaluated x)) (sym (one_more g.pc))
      (k g.into g.variables slots1 x [] (held ++ [])
      (subst (λ (hi : ℕ). Holding g.slots slots1 mid hi [] []) e (holding_put g.slots mid x [] [] l (owns_none mid x (λ n. refl))))
      (subst (λ (d : ℕ). slot slots1 d ≡ Holds x) z (put_same g.slots mid (Holds x) l))
      (omega arith, omega arith, list_fits program.adts t None il) refl))
  own_link lo mid t [] Ts il p C c g held (v ∷ vs) has room hold bs fs k = absurd hold
  own_link lo mid t (s ∷ ss) Ts il p C c g held vs has room hold bs fs k =
      let a : suc (mid + (suc (length ss) - 1)) ≡ mid + suc (length ss) = omega arith in
      let b : mid + (suc (length ss) - 1) ≡ mid + length ss = omega arith in
      let n = length-reverse (s ∷ ss) in
      cells_all C c (item_of t) (reverse (s ∷ ss)) (reverse vs) (length ss) (Node t tree.Link (evaluated vs)) g held lo mid n has
      (subst (λ (hi : ℕ). Room g.slots mid hi held) a room) (hold_reverse g.slots (s ∷ ss) vs hold) (between_reverse lo mid (s ∷ ss) bs)
      (λ m. node_next limit program m t tree.Link vs)
      (λ j variables slots x got held' h e r eq. k j variables slots x got held'
      (subst (λ (hi : ℕ). Holding g.slots slots mid hi (cell_drops program.adts (suc (length ss)) mid) got) (sym a) h)
      (subst (λ (d : ℕ). slot slots d ≡ Holds x) (sym b) e)
      (omega arith, omega arith, subst (Fits program.adts t) (sym r.1) (list_fits program.adts t r.0 il)) eq)
