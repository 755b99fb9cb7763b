-- One instruction of a node behind its operands.
use Rattle.std.proofs.Common.{inl, inr, ◌≡◌, ℕ, zero, suc, ◌<◌, ◌≤◌, List, [], ◌∷◌, ◌++◌, length, Option, Some, None}
use Rattle.std.proofs.Common.{Ok, Err, refl, sym, ap, subst, ◌∙◌, arith, append-nil}
use Rattle.std.proofs.lemmas.List.{reverse-append}
use Rattle.std.specs.Prelude.{slice_get, slice_index_or, take, drop, reverse}
use Rattle.process_model.specs.Process.{Went}
use Rattle.system_model.specs.Values as system
use Rattle.system_model.specs.Prints.{Writing, print}
use Rattle.limbo_types.specs.Types as ty
use Rattle.limbo_types.specs.Types.{Ty}
use Rattle.limbo_layout.specs.Adts.{Def}
use Rattle.core_follows.specs.Handled.{Fits}
use Rattle.limbo_typed.specs.declared.print.Piece.{Piece}
use Rattle.limbo_meaning.specs.Values.{Value, Chars, nothing, fitted, references}
use Rattle.limbo_meaning.specs.Memory.{Memory}
use Rattle.limbo_meaning.specs.Exceptions.{Raising}
use Rattle.limbo_meaning.specs.Formats.{formatted}
use Rattle.limbo_meaning.specs.Trees as tree
use Rattle.limbo_meaning.specs.Trees.{Term, Evaluated, Node, Awaiting, Block, Work, Terms, NoTerms, MoreTerms}
use Rattle.limbo_meaning.specs.Evaluation.{Progress, Finished, Stepped, after, unless_raised, next, next_all}
use Rattle.limbo_meaning.specs.Evaluation.{fill, performed}
use Rattle.limbo_meaning.specs.Program.{Program}
use Rattle.limbo_meaning.specs.Process as source
use Rattle.limbo_meaning.specs.Process.{Shared}
use Rattle.core_code.specs.Slots.{Slot, Holds, Slots, slot, put, value_of, values_of}
use Rattle.core_code.specs.Code.{Instr, Call, Print}
use Rattle.core_code.specs.Machine as machine
use Rattle.core_code.specs.Machine.{Frame, at, memory_of, operands, waiting}
use Rattle.core_code.specs.Terms.{slot_at}
use Rattle.core_code.specs.Statements.{code_of}
use Rattle.core_follows.specs.Drops.{Between, Holding}
use Rattle.core_follows.specs.Stands.{SlotsName, joined, coded, obeys, Stands, Going, obeying, Next, goes}
use Rattle.core_follows.specs.Stands.{raises, calls, prints, waits, hears}
use Rattle.core_follows.proofs.Slots.{put_same}
use Rattle.core_follows.proofs.Holding.{Room, Owns, holding_put}
use Rattle.core_follows.proofs.Contexts.{Carries}

-- ---- operands

abbrev pub AllBetween : (lo hi : ℕ) → List ℕ → Type 0
AllBetween lo hi [] = Unit {0}
AllBetween lo hi (s ∷ ss) = Between lo hi s × AllBetween lo hi ss

pub between_wide : (lo hi lo' hi' : ℕ) (ss : List ℕ) → lo' ≤ lo → hi ≤ hi' → AllBetween lo hi ss → AllBetween lo' hi' ss
between_wide lo hi lo' hi' [] l m h = tt
between_wide lo hi lo' hi' (s ∷ ss) l m h =
    ((let a = h.0.0 in omega arith, let a = h.0.1 in omega arith), between_wide lo hi lo' hi' ss l m h.1)

-- None of the slots is another one of them.
abbrev pub DiffersFrom : ℕ → List ℕ → Type 0
DiffersFrom s [] = Unit {0}
DiffersFrom s (d ∷ ds) = (s ≡ d → ⊥) × DiffersFrom s ds

abbrev pub AllDiffer : List ℕ → Type 0
AllDiffer [] = Unit {0}
AllDiffer (s ∷ ss) = DiffersFrom s ss × AllDiffer ss

-- Each of these slots holds its value.
abbrev pub AllHold : Slots → List ℕ → List Value → Type 0
AllHold slots [] [] = Unit {0}
AllHold slots [] (v ∷ vs) = ⊥
AllHold slots (s ∷ ss) [] = ⊥
AllHold slots (s ∷ ss) (v ∷ vs) = (slot slots s ≡ Holds v) × AllHold slots ss vs

pub hold_same : (slots slots' : Slots) (lo hi : ℕ) (ss : List ℕ) (vs : List Value) → AllBetween lo hi ss
    → ((s : ℕ) → Between lo hi s → slot slots' s ≡ slot slots s) → AllHold slots ss vs → AllHold slots' ss vs
hold_same slots slots' lo hi [] [] b same h = tt
hold_same slots slots' lo hi [] (v ∷ vs) b same h = h
hold_same slots slots' lo hi (s ∷ ss) [] b same h = h
hold_same slots slots' lo hi (s ∷ ss) (v ∷ vs) b same h = (same s b.0 ∙ h.0, hold_same slots slots' lo hi ss vs b.1 same h.1)

pub hold_values : (slots : Slots) (ss : List ℕ) (vs : List Value) → AllHold slots ss vs → values_of slots ss ≡ vs
hold_values slots [] [] h = refl
hold_values slots [] (v ∷ vs) h = absurd h
hold_values slots (s ∷ ss) [] h = absurd h
hold_values slots (s ∷ ss) (v ∷ vs) h =
    ap (λ (x : Slot). value_of x ∷ values_of slots ss) h.0 ∙ ap (λ (us : List Value). v ∷ us) (hold_values slots ss vs h.1)

pub hold_at : (slots : Slots) (ss : List ℕ) (vs : List Value) (k : ℕ) → k < length ss → AllHold slots ss vs
    → slot slots (slot_at k ss) ≡ Holds (slice_index_or vs k nothing)
hold_at slots [] vs k l h = absurd (omega arith)
hold_at slots (s ∷ ss) [] k l h = absurd h
hold_at slots (s ∷ ss) (v ∷ vs) zero l h = h.0
hold_at slots (s ∷ ss) (v ∷ vs) (suc k) l h = hold_at slots ss vs k (omega arith) h.1

pub hold_long : (slots : Slots) (ss : List ℕ) (vs : List Value) → AllHold slots ss vs → length vs ≡ length ss
hold_long slots [] [] h = refl
hold_long slots [] (v ∷ vs) h = absurd h
hold_long slots (s ∷ ss) [] h = absurd h
hold_long slots (s ∷ ss) (v ∷ vs) h = ap suc (hold_long slots ss vs h.1)

pub hold_more : (slots : Slots) (ss ts : List ℕ) (us vs : List Value) → AllHold slots ss us → AllHold slots ts vs
    → AllHold slots (ss ++ ts) (us ++ vs)
hold_more slots [] ts [] vs h k = k
hold_more slots [] ts (u ∷ us) vs h k = absurd h
hold_more slots (s ∷ ss) ts [] vs h k = absurd h
hold_more slots (s ∷ ss) ts (u ∷ us) vs h k = (h.0, hold_more slots ss ts us vs h.1 k)

pub hold_reverse : (slots : Slots) (ss : List ℕ) (vs : List Value) → AllHold slots ss vs → AllHold slots (reverse ss) (reverse vs)
hold_reverse slots [] [] h = tt
hold_reverse slots [] (v ∷ vs) h = absurd h
hold_reverse slots (s ∷ ss) [] h = absurd h
hold_reverse slots (s ∷ ss) (v ∷ vs) h =
    subst (λ (us : List Value). AllHold slots (reverse (s ∷ ss)) us) (sym (reverse-append (v ∷ []) vs))
    (subst (λ (ts : List ℕ). AllHold slots ts (reverse vs ++ (v ∷ []))) (sym (reverse-append (s ∷ []) ss))
    (hold_more slots (reverse ss) (s ∷ []) (reverse vs) (v ∷ []) (hold_reverse slots ss vs h.1) (h.0, tt)))

pub between_more : (lo hi : ℕ) (ss ts : List ℕ) → AllBetween lo hi ss → AllBetween lo hi ts → AllBetween lo hi (ss ++ ts)
between_more lo hi [] ts h k = k
between_more lo hi (s ∷ ss) ts h k = (h.0, between_more lo hi ss ts h.1 k)

pub between_reverse : (lo hi : ℕ) (ss : List ℕ) → AllBetween lo hi ss → AllBetween lo hi (reverse ss)
between_reverse lo hi [] h = tt
between_reverse lo hi (s ∷ ss) h =
    subst (AllBetween lo hi) (sym (reverse-append (s ∷ []) ss)) (between_more lo hi (reverse ss) (s ∷ []) (between_reverse lo hi ss h.1)
    (h.0, tt))

pub between_at : (lo hi : ℕ) (ss : List ℕ) (k : ℕ) → k < length ss → AllBetween lo hi ss → Between lo hi (slot_at k ss)
between_at lo hi [] k l b = absurd (omega arith)
between_at lo hi (s ∷ ss) zero l b = b.0
between_at lo hi (s ∷ ss) (suc k) l b = between_at lo hi ss k (omega arith) b.1

pub values_take : (slots : Slots) (k : ℕ) (ss : List ℕ) → values_of slots (take k ss) ≡ take k (values_of slots ss)
values_take slots zero ss = refl
values_take slots (suc k) [] = refl
values_take slots (suc k) (s ∷ ss) = ap (λ (vs : List Value). value_of (slot slots s) ∷ vs) (values_take slots k ss)

pub values_drop : (slots : Slots) (k : ℕ) (ss : List ℕ) → values_of slots (drop k ss) ≡ drop k (values_of slots ss)
values_drop slots zero ss = refl
values_drop slots (suc k) [] = refl
values_drop slots (suc k) (s ∷ ss) = values_drop slots k ss

abbrev pub evaluated : List Value → Terms
evaluated [] = NoTerms
evaluated (v ∷ vs) = MoreTerms (Evaluated v) (evaluated vs)

-- A frame goes on at a place; for which slot it waited last doesn't matter.
abbrev pub spot : Frame → (into pc : ℕ) → List Value → Slots → Frame
spot g j pc variables slots = record {
  instance = g.instance;
  code = g.code;
  pc = pc;
  variables = variables;
  slots = slots;
  answer = g.answer;
  into = j;
}

-- Where the value of an evaluation is, and of which type.
abbrev pub Placed : List Def → Ty → (lo hi into : ℕ) → Value → Type 0
Placed defs t lo hi into v = (lo ≤ into) × (into < hi) × Fits defs t v

number_fits : (defs : List Def) (t : Ty) (v : system.Value) → t ≡ ty.Int → Fits defs t (source.value_of v)
number_fits defs t (system.Num z) e = inr (e, z, refl)

module _ (limit : ℕ) (program : Program) where
  pub evaluated_done : (m : Memory) (vs : List Value) → next_all program.adts m (evaluated vs) ≡ Finished vs
  evaluated_done m [] = refl
  evaluated_done m (v ∷ vs) =
      ap (λ (p : Progress (List Value) Terms). after p (λ us. Finished (v ∷ us)) (MoreTerms (Evaluated v))) (evaluated_done m vs)

  pub node_next : (m : Memory) (t : Ty) (o : Work) (vs : List Value)
      → next program.adts m (Node t o (evaluated vs)) ≡ performed program.adts m t o vs
  node_next m t o vs =
      ap (λ (p : Progress (List Value) Terms). after p (performed program.adts m t o) (Node t o)) (evaluated_done m vs)

  -- ---- what is left behind

  pub pc_is : (g : Frame) (j pc pc' : ℕ) (variables : List Value) (slots : Slots) (held : List (Option ℕ)) (b : Block) → pc ≡ pc'
      → Stands limit program (spot g j pc variables slots) held b → Stands limit program (spot g j pc' variables slots) held b
  pc_is g j pc pc' variables slots held b e s = subst (λ (q : ℕ). Stands limit program (spot g j q variables slots) held b) e s

  -- Behind an evaluation: its value is in a slot, and what it got is held.
  abbrev pub Behind : Ty → Frame → (lo hi into pc : ℕ) → List Instr → List (Option ℕ) → (Value → Block) → Type 0
  Behind t g lo hi into pc ds held C =
      (j : ℕ) (variables : List Value) (slots : Slots) (v : Value) (got held' : List (Option ℕ)) → Holding g.slots slots lo hi ds got
      → slot slots into ≡ Holds v → Placed program.adts t lo hi into v → held' ≡ held ++ got
      → Stands limit program (spot g j pc variables slots) held' (C v)

  -- ---- one instruction

  -- One that stores, and leaves the slots as they are.
  pub store_goes : (C : Term → Block) → Carries limit program (next program.adts) fill C → (g : Frame) (held : List (Option ℕ))
      (u u' : Term) (i : Instr) → slice_get g.code g.pc ≡ Some i → SlotsName g.slots held → (r : Shared → Raising Memory)
      → ((w : Shared) (n : ℕ) (below : List Frame) (p : Option Writing) → obeys limit program w (coded n g below p) i
      ≡ machine.unless_raised limit (code_of program) w (coded n g below p) (r w)
      (λ m. machine.goes_with w (coded n g below p) m g.slots))
      → ((w : Shared) → next program.adts (memory_of w g) u ≡ unless_raised (r w) (λ m. Stepped m [] u'))
      → ((variables : List Value) → Stands limit program (spot g g.into (suc g.pc) variables g.slots) held (C u'))
      → Going limit program g held (C u)
  store_goes C c g held u u' i e names r does steps k =
      obeying i names e (λ w. by w (r w) (does w) (steps w))
    where
      by : (w : Shared) (x : Raising Memory)
          → ((n : ℕ) (below : List Frame) (p : Option Writing) → obeys limit program w (coded n g below p) i
          ≡ machine.unless_raised limit (code_of program) w (coded n g below p) x
          (λ m. machine.goes_with w (coded n g below p) m g.slots))
          → next program.adts (memory_of w g) u ≡ unless_raised x (λ m. Stepped m [] u') → Next limit program w g held (C u) i
      by w (Ok m) d s =
          goes m (suc g.pc) g.slots (held ++ []) (C u') d (λ n below. c.steps w g held n below m [] u u' s)
          (subst (λ (h : List (Option ℕ)). Stands limit program (spot g g.into (suc g.pc) m.variables g.slots) h (C u'))
          (sym (append-nil held)) (k m.variables))
      by w (Err text) d s = raises text d (λ n below. c.raises w g held n below text u s)

  -- One whose value comes in whatever world, and changes only slots.
  pub gives_always : (C : Term → Block) → Carries limit program (next program.adts) fill C → (g : Frame) (held got : List (Option ℕ))
      (u u' : Term) (i : Instr) (pc : ℕ) (slots : Slots) → slice_get g.code g.pc ≡ Some i → SlotsName g.slots held
      → ((w : Shared) (n : ℕ) (below : List Frame) (p : Option Writing) → obeys limit program w (coded n g below p) i
      ≡ Went w (coded n (at g pc g.variables slots) below None))
      → ((w : Shared) → next program.adts (memory_of w g) u ≡ Stepped (memory_of w g) got u')
      → Stands limit program (spot g g.into pc g.variables slots) (held ++ got) (C u') → Going limit program g held (C u)
  gives_always C c g held got u u' i pc slots e names does steps k =
      obeying i names e (λ w. goes (memory_of w g) pc slots (held ++ got) (C u') (does w)
      (λ n below. c.steps w g held n below (memory_of w g) got u u' (steps w)) k)

  -- A call: whatever the answer will be, it comes into its slot, and its references are held.
  pub call_goes : (C : Term → Block) → Carries limit program (next program.adts) fill C → (g : Frame) (held : List (Option ℕ))
      (t : Ty) (f into : ℕ) (o : Option ℕ) (vs : List Value) (own : List Instr)
      → slice_get g.code g.pc ≡ Some (Call t f into o) → SlotsName g.slots held → Room (joined [] g o).slots into (suc into) held
      → operands g.slots o ≡ vs
      → ((v : Value) → Owns into (fitted program.adts t v) own (references (fitted program.adts t v)))
      → Behind t (joined [] g o) into (suc into) into (suc g.pc) own held (λ v. C (Evaluated v))
      → Going limit program g held (C (Node t (tree.Call f) (evaluated vs)))
  call_goes C c g held t f into o vs own i names room e owns k =
      let slots : Slots = (joined [] g o).slots in
      obeying (Call t f into o) names i
      (λ w. calls t f into o vs (C Awaiting)
      (λ n below p. ap (λ (xs : List Value). machine.calls program.adts limit w (coded n (joined [] g o) below p) t into
      (slice_get (code_of program).functions f) xs) e)
      (λ n below. c.calls w g held n below t f vs (Node t (tree.Call f) (evaluated vs)) Awaiting
      (node_next (memory_of w g) t (tree.Call f) vs))
      (waits room.names (λ v.
      let x = fitted program.adts t v in
      let l : into < length slots = let a = room.fits in omega arith in
      subst (λ (b : Block). Stands limit program (spot g into (suc g.pc) g.variables (put slots into (Holds x))) (held ++ references x) b)
      (sym (c.fills x Awaiting))
      (k into g.variables (put slots into (Holds x)) x (references x) (held ++ references x)
      (holding_put slots into x own (references x) l (owns v)) (put_same slots into (Holds x) l)
      (omega arith, omega arith, inl (v, refl)) refl))))

  -- A print, which answers a number.
  pub print_goes : (C : Term → Block) → Carries limit program (next program.adts) fill C → (g : Frame) (held : List (Option ℕ))
      (t : Ty) (ps : List Piece) (into : ℕ) (o : Option ℕ) (vs : List Value)
      → slice_get g.code g.pc ≡ Some (Print ps into o) → SlotsName g.slots held
      → Room (joined (Chars [] ∷ []) g o).slots into (suc into) held
      → operands g.slots o ≡ vs
      → ((v : system.Value) → Owns into (source.value_of v) [] []) → t ≡ ty.Int
      → Behind t (joined (Chars [] ∷ []) g o) into (suc into) into (suc g.pc) [] held (λ v. C (Evaluated v))
      → Going limit program g held (C (Node t (tree.Print ps) (evaluated vs)))
  print_goes C c g held t ps into o vs i names room e owns et k =
      let slots : Slots = (joined (Chars [] ∷ []) g o).slots in
      obeying (Print ps into o) names i
      (λ w. prints into o (formatted ps vs) (C Awaiting)
      (λ n below p. ap (λ (xs : List Value). machine.prints w (coded n g below p) (waiting (joined (Chars [] ∷ []) g o) into)
      (print w.outside (formatted ps xs))) e)
      (λ n below. c.prints w g held n below (formatted ps vs)
      (Node t (tree.Print ps) (evaluated vs)) Awaiting
      (node_next (memory_of w g) t (tree.Print ps) vs))
      (hears room.names (λ v.
      let x = source.value_of v in
      let l : into < length slots = let a = room.fits in omega arith in
      subst (λ (b : Block). Stands limit program (spot g into (suc g.pc) g.variables (put slots into (Holds x))) held b)
      (sym (c.fills x Awaiting))
      (k into g.variables (put slots into (Holds x)) x [] held
      (holding_put slots into x [] [] l (owns v)) (put_same slots into (Holds x) l)
      (omega arith, omega arith, number_fits program.adts t v et)
      (sym (append-nil held))))))
