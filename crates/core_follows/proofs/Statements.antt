-- Statements: from each place where nothing is begun the code goes on as the program does.
use Rattle.std.proofs.Common.{◌≡◌, ℕ, suc, ◌+◌, ◌-◌, ◌≤◌, Bool, true, false, List, [], ◌∷◌, ◌++◌, length, Option, Some}
use Rattle.std.proofs.Common.{None, refl, sym, ap, subst, ◌∙◌, arith, append-nil, length-append}
use Rattle.std.specs.Prelude.{slice_get}
use Rattle.process_model.specs.Process.{Went}
use Rattle.system_model.specs.Prints.{Writing}
use Rattle.limbo_layout.specs.Adts.{Def}
use Rattle.limbo_values.specs.Operators as operators
use Rattle.limbo_meaning.specs.Values.{Value, number_of, nothing}
use Rattle.limbo_meaning.specs.Operations.{holds}
use Rattle.limbo_meaning.specs.Trees as tree
use Rattle.limbo_meaning.specs.Trees.{Term, Evaluated, Over, Eval, If, While, Enter, Break, Continue, Leave, Loop, Looping, Block, Done}
use Rattle.limbo_meaning.specs.Trees.{Then, Turn}
use Rattle.limbo_meaning.specs.Trees.{Again, join, entered, tested, turned, behind, at_turn}
use Rattle.limbo_meaning.specs.Evaluation.{next, fill}
use Rattle.limbo_meaning.specs.Program.{Program}
use Rattle.limbo_meaning.specs.Process as source
use Rattle.limbo_meaning.specs.Process.{Shared}
use Rattle.limbo_meaning.specs.Step.{chosen}
use Rattle.limbo_meaning.specs.Holding.{ends_first}
use Rattle.core_code.specs.Slots.{Slot, Slots, slot, value_of}
use Rattle.core_code.specs.Code as code
use Rattle.core_code.specs.Code.{Instr, Unless, Jump, Back, Return}
use Rattle.core_code.specs.Machine as machine
use Rattle.core_code.specs.Machine.{Frame, at, memory_of, choice}
use Rattle.core_code.specs.Terms.{lower}
use Rattle.core_code.specs.Statements.{whole, whole_if, test, free_after}
use Rattle.core_follows.specs.Drops.{Clean, HasAt}
use Rattle.core_follows.specs.Handled.{Handled, HandledIf}
use Rattle.core_follows.specs.Does.{LoopIn, loop_of, tested_body, tested_head, entered_body, tested_turn, tested_back, entered_turn}
use Rattle.core_follows.specs.Does.{entered_test, Does, ends, over, jumps, backs, evaluates, chooses, breaks, continues, returns}
use Rattle.core_follows.specs.Does.{leaves, enters}
use Rattle.core_follows.specs.Does.{tests, tested_turns, tested_agains, entered_tests, entered_turns, entered_agains, TestedAt}
use Rattle.core_follows.specs.Does.{tested_at, EnteredAt}
use Rattle.core_follows.specs.Does.{entered_at}
use Rattle.core_follows.specs.Stands as stands
use Rattle.core_follows.specs.Stands.{SlotsName, SlotsWhole, coded, sourced, beside, sstep, obeys, Quiet, Stands, outside, going, quietly}
use Rattle.core_follows.specs.Stands.{Going}
use Rattle.core_follows.specs.Stands.{softly, obeying}
use Rattle.core_follows.specs.Stands.{Next, goes}
use Rattle.core_follows.proofs.Slots.{total, total_split, total_clean, slots_total}
use Rattle.core_follows.proofs.Holding.{has_front, has_back, Room, room_behind}
use Rattle.core_follows.proofs.Contexts.{Carries, in_eval, in_if, in_while, in_return}
use Rattle.core_follows.proofs.Nodes.{spot, pc_is}
use Rattle.core_follows.proofs.Expressions.{value_goes}
use Rattle.core_follows.proofs.Valued.{value_stands}
use Rattle.core_follows.proofs.Dropped.{slot_number, drops_go}
use Rattle.core_follows.proofs.Blocks.{does_at, tested_enters, entered_enters}

-- Slots name nothing, and nothing is put together in them: they are clean.
abbrev pub Empty : Slots → Type 0
Empty slots = SlotsName slots [] × SlotsWhole slots

pub clean_all : (slots : Slots) (hi : ℕ) → Empty slots → hi ≤ length slots → Clean slots 0 hi
clean_all slots hi h l = let z : 0 + hi ≡ hi = omega arith in subst (Clean slots 0) z (total_clean slots 0 hi (λ n.
    let e : length slots ≡ hi + (length slots - hi) = omega arith in
    let a = slots_total n slots in
    let b = ap (λ (k : ℕ). total slots 0 k n) e in
    let c = total_split n slots 0 hi (length slots - hi) in
    let d = h.0 n in omega arith) (λ s p q. h.1 s))

holds_number : (v u : Value) → number_of v ≡ number_of u → holds v ≡ holds u
holds_number v u e = ap operators.holds e

module _ (limit : ℕ) (program : Program) where
  -- An expression with its drops, behind which nothing is held.
  pub expression_goes : (t : Term) (C : Term → Block) → Carries limit program (next program.adts) fill C
      → ((v : Value) → ends_first (C (Evaluated v)) ≡ true) → (g : Frame) → Handled program.adts t → (lower program.adts 0 t).free ≤
      length g.slots
      → HasAt g.code g.pc (whole program.adts t) → Empty g.slots
      → ((j : ℕ) (variables : List Value) (slots : Slots) (v : Value) → length slots ≡ length g.slots → Empty slots
      → slot_number slots (lower program.adts 0 t).value ≡ number_of v
      → Stands limit program (spot g j (g.pc + length (whole program.adts t)) variables slots) [] (C (Evaluated v)))
      → Going limit program g [] (C t)
  expression_goes t C c ends_so g h fits has names k =
      let x = lower program.adts 0 t in
      let n = length-append x.code x.drops in
      let room : Room g.slots 0 x.free [] = record {
        order = omega arith;
        fits = fits;
        clean = clean_all g.slots x.free names fits;
        names = names.0;
      } in
      value_goes limit program t h 0 C c g [] (has_front g.code g.pc x.code x.drops has) room
      (λ j variables slots v got held' y e b eq.
      let g1 = spot g j (g.pc + length x.code) variables slots in
      let same : got ++ [] ≡ held' = append-nil got ∙ sym eq in
      let r = room_behind g.slots slots 0 x.free x.free x.drops [] got held' (omega arith) (omega arith) room y eq in
      subst (λ (hs : List (Option ℕ)). Stands limit program g1 hs (C (Evaluated v))) same
      (drops_go limit program g1 (C (Evaluated v)) (ends_so v) (length got) 0 x.free (g.pc + length x.code) slots x.drops got []
      (omega arith) (λ d. y.whole d (names.1 d))
      y.dropping y.within r.fits (has_back g.code g.pc x.code x.drops has) (subst (SlotsName slots) (sym same) r.names)
      (λ slots2 long same2 names2 whole2 numbers.
      pc_is limit program g j (g.pc + length (x.code ++ x.drops)) (g.pc + length x.code + length x.drops) variables slots2 []
      (C (Evaluated v)) (omega arith)
      (k j variables slots2 v (long ∙ y.long) (names2, whole2)
      (numbers x.value (value_stands program.adts t h 0).spares ∙ ap (λ (s : Slot). number_of (value_of s)) e)))))

  module _ (g : Frame) (size : ℕ) where
    abbrev defs : List Def
    defs = program.adts

    abbrev F : (j pc : ℕ) → List Value → Slots → Frame
    F j pc variables slots = spot g j pc variables slots

    abbrev D : ℕ → Block → Type 0
    D pc todo = Does program.adts g.code size pc todo

    out : (j pc : ℕ) (variables : List Value) (slots : Slots) (todo : Block) → length slots ≡ size → Empty slots → D pc todo
        → Stands limit program (F j pc variables slots) [] todo
    out j pc variables slots todo e names d = outside names.0 names.1 (subst (λ (n : ℕ). Does program.adts g.code n pc todo) (sym e) d)

    -- An instruction that only goes elsewhere.
    control : (j pc pc' : ℕ) (variables : List Value) (slots : Slots) (todo after : Block) (i : Instr) → slice_get g.code pc ≡ Some i
        → Empty slots
        → ((w : Shared) (n : ℕ) (below : List Frame) (p : Option Writing) → obeys limit program w (coded n (F j pc variables slots) below
        p) i
        ≡ Went w (coded n (at (F j pc variables slots) pc' variables slots) below None))
        → Quiet limit program (F j pc variables slots) [] todo after → Stands limit program (F j pc' variables slots) [] after
        → Going limit program (F j pc variables slots) [] todo
    control j pc pc' variables slots todo after i e names does steps s =
        obeying i names.0 e (λ w. goes (memory_of w (F j pc variables slots)) pc' slots [] after (does w) (λ n below. steps w n below) s)

    -- A condition is decided.
    decides_by : (j pc n s : ℕ) (variables : List Value) (slots : Slots) (v : Value) (todo : Block) (after : Bool → Block)
        → slice_get g.code pc ≡ Some (Unless s n) → Empty slots → slot_number slots s ≡ number_of v
        → Quiet limit program (F j pc variables slots) [] todo (after (holds v))
        → Stands limit program (F j (suc pc) variables slots) [] (after true)
        → Stands limit program (F j (suc pc + n) variables slots) [] (after false)
        → Going limit program (F j pc variables slots) [] todo
    decides_by j pc n s variables slots v todo after i names e steps hit miss = by (holds v) refl
      where
        by : (b : Bool) → holds v ≡ b → Going limit program (F j pc variables slots) [] todo
        by true f =
            control j pc (suc pc + 0) variables slots todo (after true) (Unless s n) i names
            (λ w q below p. ap (λ (x : Bool). machine.goes_to w (coded q (F j pc variables slots) below p) (suc pc + choice x 0 n) slots)
            (holds_number (value_of (slot slots s)) v e ∙ f))
            (subst (λ (x : Bool). Quiet limit program (F j pc variables slots) [] todo (after x)) f steps)
            (pc_is limit program g j (suc pc) (suc pc + 0) variables slots [] (after true) (omega arith) hit)
        by false f =
            control j pc (suc pc + n) variables slots todo (after false) (Unless s n) i names
            (λ w q below p. ap (λ (x : Bool). machine.goes_to w (coded q (F j pc variables slots) below p) (suc pc + choice x 0 n) slots)
            (holds_number (value_of (slot slots s)) v e ∙ f))
            (subst (λ (x : Bool). Quiet limit program (F j pc variables slots) [] todo (after x)) f steps) miss

    -- An expression that stands alone.
    stands_alone : (j pc : ℕ) (variables : List Value) (slots : Slots) (t : Term) (rest : Block) → length slots ≡ size → Empty slots
        → Handled program.adts t → (lower program.adts 0 t).free ≤ size → HasAt g.code pc (whole program.adts t)
        → ((j : ℕ) (variables : List Value) (slots : Slots) → length slots ≡ size → Empty slots
        → Stands limit program (F j (pc + length (whole program.adts t)) variables slots) [] rest)
        → Going limit program (F j pc variables slots) [] (Then (Eval t) rest)
    stands_alone j pc variables slots t rest e names h fits has k =
        expression_goes t (λ x. Then (Eval x) rest) (in_eval limit program rest) (λ v. refl) (F j pc variables slots) h (omega arith) has
        names
        (λ j2 variables2 slots2 v long names2 number. quietly rest (λ w n below. refl) (k j2 variables2 slots2 (long ∙ e) names2))

    -- A test, and both ways on.
    tests_so : (j pc n : ℕ) (variables : List Value) (slots : Slots) (t : Term) (C : Term → Block) (after : Bool → Block)
        → Carries limit program (next program.adts) fill C → ((v : Value) → ends_first (C (Evaluated v)) ≡ true)
        → ((j pc : ℕ) (variables : List Value) (slots : Slots) (v : Value)
        → Quiet limit program (F j pc variables slots) [] (C (Evaluated v)) (after (holds v)))
        → length slots ≡ size → Empty slots → Handled program.adts t → (lower program.adts 0 t).free ≤ size
        → HasAt g.code pc (test program.adts (Some t) n)
        → D (pc + length (test program.adts (Some t) n)) (after true) → D (pc + length (test program.adts (Some t) n) + n) (after false)
        → Going limit program (F j pc variables slots) [] (C t)
    tests_so j pc n variables slots t C after c ends_so steps e names h fits has hit miss =
        let w = whole program.adts t in
        let x = lower program.adts 0 t in
        let m = length-append w (Unless x.value n ∷ []) in
        let end : ℕ = pc + length (test program.adts (Some t) n) in
        expression_goes t C c ends_so (F j pc variables slots) h (omega arith) (has_front g.code pc w (Unless x.value n ∷ []) has) names
        (λ j2 variables2 slots2 v long names2 number.
        let pc2 : ℕ = pc + length w in
        going (decides_by j2 pc2 n x.value variables2 slots2 v (C (Evaluated v)) after (has_back g.code pc w (Unless x.value n ∷ [])
        has).0 names2 number
        (steps j2 pc2 variables2 slots2 v)
        (out j2 (suc pc2) variables2 slots2 (after true) (long ∙ e) names2 (does_at program.adts g.code size end (suc pc2) (after true)
        (omega arith) hit))
        (out j2 (suc pc2 + n) variables2 slots2 (after false) (long ∙ e) names2
        (does_at program.adts g.code size (end + n) (suc pc2 + n) (after false) (omega arith) miss))))

    -- ---- the next turn of a loop

    turned_none : (c n : Option Term) (body rest : Block) → n ≡ None → turned (Looping c n body) rest ≡ tested (Looping c n body) rest
    turned_none c None body rest e = refl
    turned_none c (Some x) body rest e = absurd cc

    turned_some : (c n : Option Term) (body rest : Block) (x : Term) → n ≡ Some x
        → turned (Looping c n body) rest ≡ Then (Eval x) (Again (Looping c n body) rest)
    turned_some c None body rest x e = absurd cc
    turned_some c (Some y) body rest x e = let f : y ≡ x = cc in ap (λ (z : Term). Then (Eval z) (Again (Looping c (Some y) body) rest)) f

    tested_some : (c n : Option Term) (body rest : Block) (x : Term) → c ≡ Some x → tested (Looping c n body) rest ≡ Then
        (While x (Looping c n body)) rest
    tested_some None n body rest x e = absurd cc
    tested_some (Some y) n body rest x e = let f : y ≡ x = cc in ap (λ (z : Term). Then (While z (Looping (Some y) n body)) rest) f

    tested_none : (c n : Option Term) (body rest : Block) → c ≡ None → tested (Looping c n body) rest ≡ Then (Enter (Looping c n body)) rest
    tested_none None n body rest e = refl
    tested_none (Some y) n body rest e = absurd cc

    handled_some : (c : Option Term) (x : Term) → c ≡ Some x → HandledIf program.adts c → Handled program.adts x
    handled_some None x e h = absurd cc
    handled_some (Some y) x e h = let f : y ≡ x = cc in subst (Handled program.adts) f h

    free_some : (c : Option Term) (x : Term) → c ≡ Some x → free_after program.adts c ≤ size → (lower program.adts 0 x).free ≤ size
    free_some c x e l = subst (λ (o : Option Term). free_after program.adts o ≤ size) e l

    quiet_to : (j pc : ℕ) (variables : List Value) (slots : Slots) (todo after after' : Block) → after ≡ after'
        → Quiet limit program (F j pc variables slots) [] todo after → Quiet limit program (F j pc variables slots) [] todo after'
    quiet_to j pc variables slots todo after after' e q = subst (Quiet limit program (F j pc variables slots) [] todo) e q

    back_to : (pc n pc' : ℕ) → pc' + n ≡ pc → pc - n ≡ pc'
    back_to pc n pc' e = omega arith

    -- The way back, which stands for a step.
    turns_back : (j pc pc' n : ℕ) (variables : List Value) (slots : Slots) (todo after : Block) → slice_get g.code pc ≡ Some (Back n)
        → pc' + n ≡ pc
        → length slots ≡ size → Empty slots → Quiet limit program (F j pc variables slots) [] todo after → D pc' after
        → Going limit program (F j pc variables slots) [] todo
    turns_back j pc pc' n variables slots todo after i e long names q d =
        control j pc (pc - n) variables slots todo after (Back n) i names (λ w m below p. refl) q
        (pc_is limit program g j pc' (pc - n) variables slots [] after (sym (back_to pc n pc' e))
        (out j pc' variables slots after long names d))

    -- ---- loops that begin with their test

    tests_goes : (start : ℕ) (l : LoopIn) (c : Term) (rest : Block) → l.condition ≡ Some c → TestedAt program.adts g.code size start l rest
        → (j : ℕ) (variables : List Value) (slots : Slots) → length slots ≡ size → Empty slots
        → Going limit program (F j start variables slots) [] (Then (While c (loop_of l)) rest)
    tests_goes start l c rest ec (tested_at c' ec' h s1 s2 s3 has d x) j variables slots e names =
        let at = tested_at c' ec' h s1 s2 s3 has d x in
        let n : ℕ = suc (length (tested_body program.adts l ++ whole_if program.adts l.next)) in
        let head = tested_head program.adts l in
        let turn = tested_body program.adts l ++ whole_if program.adts l.next in
        let has_head = has_front g.code start head (turn ++ (Back (length head + length turn) ∷ [])) has in
        let same : head ≡ test program.adts (Some c) n = ap (λ (o : Option Term). test program.adts o n) ec in
        let m = length-append (tested_body program.adts l) (whole_if program.adts l.next) in
        let m2 = ap length same in
        tests_so j start n variables slots c (λ t. Then (While t (loop_of l)) rest)
        (λ b. Then Over (chosen b (entered (loop_of l) rest) rest))
        (in_while limit program (loop_of l) rest) (λ v. refl) (λ j2 pc2 variables2 slots2 v w q below. refl) e names
        (handled_some l.condition c ec h.0)
        (free_some l.condition c ec s1) (subst (HasAt g.code start) same has_head)
        (over (does_at program.adts g.code size (start + length head) (start + length (test program.adts (Some c) n))
        (entered (loop_of l) rest) (omega arith)
        (tested_enters program.adts g.code size start l rest at)))
        (over (does_at program.adts g.code size (suc (tested_back program.adts start l)) (start + length (test program.adts (Some c) n) +
        n) rest (omega arith) d))

    tested_back_has : (start : ℕ) (l : LoopIn) (rest : Block) → TestedAt program.adts g.code size start l rest
        → (n : ℕ) × (slice_get g.code (tested_back program.adts start l) ≡ Some (Back n)) × (start + n ≡ tested_back program.adts start l)
    tested_back_has start l rest (tested_at c' ec' h s1 s2 s3 has d x) =
        let head = tested_head program.adts l in
        let bc = tested_body program.adts l in
        let nc = whole_if program.adts l.next in
        let m = length-append bc nc in
        let back = Back (length head + length (bc ++ nc)) ∷ [] in
        let h1 = has_back g.code (start + length head) (bc ++ nc) back (has_back g.code start head ((bc ++ nc) ++ back) has) in
        let z : start + length head + length (bc ++ nc) ≡ tested_back program.adts start l = omega arith in (
          length head + length (bc ++ nc),
          subst (λ (q : ℕ). slice_get g.code q ≡ Some (Back (length head + length (bc ++ nc)))) z h1.0,
          omega arith,
        )

    tested_next_has : (start : ℕ) (l : LoopIn) (rest : Block) (t : Term) → l.next ≡ Some t → TestedAt program.adts g.code size start l rest
        → HasAt g.code (tested_turn program.adts start l) (whole program.adts t) × Handled program.adts t ×
        ((lower program.adts 0 t).free ≤ size)
        × (tested_turn program.adts start l + length (whole program.adts t) ≡ tested_back program.adts start l)
    tested_next_has start l rest t en (tested_at c' ec' h s1 s2 s3 has d x) =
        let head = tested_head program.adts l in
        let bc = tested_body program.adts l in
        let nc = whole_if program.adts l.next in
        let back = Back (length head + length (bc ++ nc)) ∷ [] in
        let h1 = has_back g.code (start + length head) bc nc (has_front g.code (start + length head) (bc ++ nc) back
        (has_back g.code start head ((bc ++ nc) ++ back) has)) in
        let same : nc ≡ whole program.adts t = ap (λ (o : Option Term). whole_if program.adts o) en in
        let m = ap length same in (
          subst (HasAt g.code (tested_turn program.adts start l)) same h1,
          handled_some l.next t en h.1,
          free_some l.next t en s2,
          omega
              arith,
        )

    tested_condition : (start : ℕ) (l : LoopIn) (rest : Block) → TestedAt program.adts g.code size start l rest
        → (c : Term) × (l.condition ≡ Some c)
    tested_condition start l rest (tested_at c ec h s1 s2 s3 has d x) = (c, ec)

    tested_agains_goes : (start : ℕ) (l : LoopIn) (rest : Block) → TestedAt program.adts g.code size start l rest
        → (j : ℕ) (variables : List Value) (slots : Slots) → length slots ≡ size → Empty slots
        → Going limit program (F j (tested_back program.adts start l) variables slots) [] (Again (loop_of l) rest)
    tested_agains_goes start l rest at j variables slots e names =
        let b = tested_back_has start l rest at in
        let c = tested_condition start l rest at in
        turns_back j (tested_back program.adts start l) start b.0 variables slots (Again (loop_of l) rest)
        (Then (While c.0 (loop_of l)) rest) b.1 b.2 e names
        (quiet_to j (tested_back program.adts start l) variables slots (Again (loop_of l) rest) (tested (loop_of l) rest)
        (Then (While c.0 (loop_of l)) rest)
        (tested_some l.condition l.next l.body rest c.0 c.1) (λ w n below. refl))
        (tests start l c.0 c.1 at)

    tested_turns_goes : (start : ℕ) (l : LoopIn) (rest : Block) (o : Option Term) → l.next ≡ o → TestedAt program.adts g.code size start
        l rest
        → (j : ℕ) (variables : List Value) (slots : Slots) → length slots ≡ size → Empty slots
        → Going limit program (F j (tested_turn program.adts start l) variables slots) [] (Turn (loop_of l) rest)
    tested_turns_goes start l rest None en at j variables slots e names =
        let b = tested_back_has start l rest at in
        let c = tested_condition start l rest at in
        let place : ℕ = tested_turn program.adts start l in
        let z : length (whole_if program.adts l.next) ≡ 0 = ap (λ (o : Option Term). length (whole_if program.adts o)) en in
        let same : tested_back program.adts start l ≡ place = omega arith in
        turns_back j place start b.0 variables slots (Turn (loop_of l) rest) (Then (While c.0 (loop_of l)) rest)
        (subst (λ (q : ℕ). slice_get g.code q ≡ Some (Back b.0)) same b.1) (b.2 ∙ same) e names
        (quiet_to j place variables slots (Turn (loop_of l) rest) (turned (loop_of l) rest) (Then (While c.0 (loop_of l)) rest)
        (turned_none l.condition l.next l.body rest en ∙ tested_some l.condition l.next l.body rest c.0 c.1) (λ w n below. refl))
        (tests start l c.0 c.1 at)
    tested_turns_goes start l rest (Some t) en at j variables slots e names =
        let place : ℕ = tested_turn program.adts start l in
        let n = tested_next_has start l rest t en at in
        softly (Then (Eval t) (Again (loop_of l) rest))
        (quiet_to j place variables slots (Turn (loop_of l) rest) (turned (loop_of l) rest) (Then (Eval t) (Again (loop_of l) rest))
        (turned_some l.condition l.next l.body rest t en) (λ w n below. refl))
        (stands_alone j place variables slots t (Again (loop_of l) rest) e names n.1 n.2 n.0
        (λ j2 variables2 slots2 e2 names2. out j2 (place + length (whole program.adts t)) variables2 slots2 (Again (loop_of l) rest) e2
        names2
        (does_at program.adts g.code size (tested_back program.adts start l) (place + length (whole program.adts t))
        (Again (loop_of l) rest) (sym n.3)
        (tested_agains start l at))))

    -- ---- loops that begin with their body

    entered_back_has : (start : ℕ) (l : LoopIn) (rest : Block) → EnteredAt program.adts g.code size start l rest
        → (n : ℕ) × (slice_get g.code (entered_test program.adts start l + length (test program.adts l.condition 1)) ≡ Some (Back n))
        × (start + n ≡ entered_test program.adts start l + length (test program.adts l.condition 1))
    entered_back_has start l rest (entered_at h s1 s2 s3 has d x) =
        let bc = entered_body program.adts l in
        let nc = whole_if program.adts l.next in
        let tc = test program.adts l.condition 1 in
        let m = length-append bc nc in
        let back = Back (length (bc ++ nc) + length tc) ∷ [] in
        let h1 = has_back g.code (start + length (bc ++ nc)) tc back (has_back g.code start (bc ++ nc) (tc ++ back) has) in
        let z : start + length (bc ++ nc) + length tc ≡ entered_test program.adts start l + length tc = omega arith in (
          length (bc ++ nc) + length tc,
          subst (λ (q : ℕ). slice_get g.code q ≡ Some (Back (length (bc ++ nc) + length tc))) z h1.0,
          omega
              arith,
        )

    entered_tests_goes : (start : ℕ) (l : LoopIn) (c : Term) (rest : Block) → l.condition ≡ Some c → EnteredAt program.adts g.code size
        start l rest
        → (j : ℕ) (variables : List Value) (slots : Slots) → length slots ≡ size → Empty slots
        → Going limit program (F j (entered_test program.adts start l) variables slots) [] (Then (While c (loop_of l)) rest)
    entered_tests_goes start l c rest ec (entered_at h s1 s2 s3 has d x) j variables slots e names =
        let at = entered_at h s1 s2 s3 has d x in
        let b = entered_back_has start l rest at in
        let place : ℕ = entered_test program.adts start l in
        let bc = entered_body program.adts l in
        let nc = whole_if program.adts l.next in
        let tc = test program.adts l.condition 1 in
        let m = length-append bc nc in
        let back = Back (length (bc ++ nc) + length tc) ∷ [] in
        let has_test = has_front g.code (start + length (bc ++ nc)) tc back (has_back g.code start (bc ++ nc) (tc ++ back) has) in
        let z : start + length (bc ++ nc) ≡ place = omega arith in
        let same : tc ≡ test program.adts (Some c) 1 = ap (λ (o : Option Term). test program.adts o 1) ec in
        let m2 = ap length same in
        let at_back : place + length tc ≡ place + length (test program.adts (Some c) 1) = omega arith in
        tests_so j place 1 variables slots c (λ t. Then (While t (loop_of l)) rest)
        (λ b. Then Over (chosen b (entered (loop_of l) rest) rest))
        (in_while limit program (loop_of l) rest) (λ v. refl) (λ j2 pc2 variables2 slots2 v w q below. refl) e names
        (handled_some l.condition c ec h.0)
        (free_some l.condition c ec s1) (subst (HasAt g.code place) same (subst (λ (q : ℕ). HasAt g.code q tc) z has_test))
        (backs b.0 (subst (λ (q : ℕ). slice_get g.code q ≡ Some (Back b.0)) at_back b.1)
        (does_at program.adts g.code size start (place + length (test program.adts (Some c) 1) - b.0) (entered (loop_of l) rest)
        (let y = b.2 in omega arith) (entered_enters program.adts g.code size start l rest at)))
        (over (does_at program.adts g.code size (suc (place + length tc)) (place + length (test program.adts (Some c) 1) + 1) rest
        (omega arith) d))

    -- behind what is done between two turns
    entered_on : (start : ℕ) (l : LoopIn) (rest : Block) (o : Option Term) → l.condition ≡ o → EnteredAt program.adts g.code size start l
        rest
        → (todo : Block) → ((j pc : ℕ) (variables : List Value) (slots : Slots) → Quiet limit program (F j pc variables slots) [] todo
        (tested (loop_of l) rest))
        → (j : ℕ) (variables : List Value) (slots : Slots) → length slots ≡ size → Empty slots
        → Going limit program (F j (entered_test program.adts start l) variables slots) [] todo
    entered_on start l rest None ec at todo q j variables slots e names =
        let b = entered_back_has start l rest at in
        let place : ℕ = entered_test program.adts start l in
        let z : length (test program.adts l.condition 1) ≡ 0 = ap (λ (o : Option Term). length (test program.adts o 1)) ec in
        let same : place + length (test program.adts l.condition 1) ≡ place = omega arith in
        turns_back j place start b.0 variables slots todo (Then (Enter (loop_of l)) rest)
        (subst (λ (p : ℕ). slice_get g.code p ≡ Some (Back b.0)) same b.1) (b.2 ∙ same) e names
        (quiet_to j place variables slots todo (tested (loop_of l) rest) (Then (Enter (loop_of l)) rest)
        (tested_none l.condition l.next l.body rest ec)
        (q j place variables slots))
        (enters (entered_enters program.adts g.code size start l rest at))
    entered_on start l rest (Some c) ec at todo q j variables slots e names =
        let place : ℕ = entered_test program.adts start l in
        softly (Then (While c (loop_of l)) rest)
        (quiet_to j place variables slots todo (tested (loop_of l) rest) (Then (While c (loop_of l)) rest)
        (tested_some l.condition l.next l.body rest c ec)
        (q j place variables slots))
        (entered_tests_goes start l c rest ec at j variables slots e names)

    entered_next_has : (start : ℕ) (l : LoopIn) (rest : Block) (t : Term) → l.next ≡ Some t → EnteredAt program.adts g.code size start l
        rest
        → HasAt g.code (entered_turn program.adts start l) (whole program.adts t) × Handled program.adts t ×
        ((lower program.adts 0 t).free ≤ size)
        × (entered_turn program.adts start l + length (whole program.adts t) ≡ entered_test program.adts start l)
    entered_next_has start l rest t en (entered_at h s1 s2 s3 has d x) =
        let bc = entered_body program.adts l in
        let nc = whole_if program.adts l.next in
        let tc = test program.adts l.condition 1 in
        let back = Back (length (bc ++ nc) + length tc) ∷ [] in
        let h1 = has_back g.code start bc nc (has_front g.code start (bc ++ nc) (tc ++ back) has) in
        let same : nc ≡ whole program.adts t = ap (λ (o : Option Term). whole_if program.adts o) en in
        let m = ap length same in (
          subst (HasAt g.code (entered_turn program.adts start l)) same h1,
          handled_some l.next t en h.1,
          free_some l.next t en s2,
          omega
              arith,
        )

    entered_turns_goes : (start : ℕ) (l : LoopIn) (rest : Block) (o : Option Term) → l.next ≡ o → EnteredAt program.adts g.code size
        start l rest
        → (j : ℕ) (variables : List Value) (slots : Slots) → length slots ≡ size → Empty slots
        → Going limit program (F j (entered_turn program.adts start l) variables slots) [] (Turn (loop_of l) rest)
    entered_turns_goes start l rest None en at j variables slots e names =
        let place : ℕ = entered_turn program.adts start l in
        let z : length (whole_if program.adts l.next) ≡ 0 = ap (λ (o : Option Term). length (whole_if program.adts o)) en in
        let same : entered_test program.adts start l ≡ place = omega arith in
        subst (λ (q : ℕ). Going limit program (F j q variables slots) [] (Turn (loop_of l) rest)) same
        (entered_on start l rest l.condition refl at (Turn (loop_of l) rest)
        (λ j2 pc2 variables2 slots2. quiet_to j2 pc2 variables2 slots2 (Turn (loop_of l) rest) (turned (loop_of l) rest)
        (tested (loop_of l) rest)
        (turned_none l.condition l.next l.body rest en) (λ w n below. refl)) j variables slots e names)
    entered_turns_goes start l rest (Some t) en at j variables slots e names =
        let place : ℕ = entered_turn program.adts start l in
        let n = entered_next_has start l rest t en at in
        softly (Then (Eval t) (Again (loop_of l) rest))
        (quiet_to j place variables slots (Turn (loop_of l) rest) (turned (loop_of l) rest) (Then (Eval t) (Again (loop_of l) rest))
        (turned_some l.condition l.next l.body rest t en) (λ w n below. refl))
        (stands_alone j place variables slots t (Again (loop_of l) rest) e names n.1 n.2 n.0
        (λ j2 variables2 slots2 e2 names2. out j2 (place + length (whole program.adts t)) variables2 slots2 (Again (loop_of l) rest) e2
        names2
        (does_at program.adts g.code size (entered_test program.adts start l) (place + length (whole program.adts t))
        (Again (loop_of l) rest) (sym n.3)
        (entered_agains start l at))))

    -- ---- all places

    returns_goes : (j pc : ℕ) (variables : List Value) (slots : Slots) (todo : Block) (held : List (Option ℕ)) (i : Instr) (v : Value)
        → slice_get g.code pc ≡ Some i → SlotsName slots held
        → ((w : Shared) (n : ℕ) (below : List Frame) (p : Option Writing) → obeys limit program w (coded n (F j pc variables slots) below
        p) i
        ≡ machine.returns program.adts w (coded n (F j pc variables slots) below p) below v)
        → ((w : Shared) (n : ℕ) (below : List source.Frame)
        → sstep limit program w (sourced n (beside (F j pc variables slots) held todo) below)
        ≡ source.returns program.adts w (sourced n (beside (F j pc variables slots) held todo) below) below v)
        → Going limit program (F j pc variables slots) held todo
    returns_goes j pc variables slots todo held i v e names does steps =
        obeying i names e (λ w. stands.returns v (does w) (λ n below. steps w n below))

    pub does_goes : (pc : ℕ) (todo : Block) → D pc todo → (j : ℕ) (variables : List Value) (slots : Slots) → length slots ≡ size
        → Empty slots
        → Going limit program (F j pc variables slots) [] todo
    does_goes pc todo (ends i) j variables slots e names =
        returns_goes j pc variables slots Done [] (code.Return None) nothing i names.0 (λ w n below p. refl) (λ w n below. refl)
    does_goes pc todo (over {rest = rest} d) j variables slots e names =
        softly rest (λ w n below. refl) (does_goes pc rest d j variables slots e names)
    does_goes pc todo (jumps {rest = rest} n i d) j variables slots e names =
        control j pc (suc pc + n) variables slots (Then Over rest) rest (Jump n) i names (λ w m below p. refl) (λ w m below. refl)
        (out j (suc pc + n) variables slots rest e names d)
    does_goes pc todo (backs {rest = rest} n i d) j variables slots e names =
        control j pc (pc - n) variables slots (Then Over rest) rest (Back n) i names (λ w m below p. refl) (λ w m below. refl)
        (out j (pc - n) variables slots rest e names d)
    does_goes pc todo (evaluates {t = t} {rest = rest} r has d) j variables slots e names =
        stands_alone j pc variables slots t rest e names r.0 r.1 has
        (λ j2 variables2 slots2 e2 names2. out j2 (pc + length (whole program.adts t)) variables2 slots2 rest e2 names2 d)
    does_goes pc todo (chooses {t = t} {a = a} {b = b} {rest = rest} n r has d f) j variables slots e names =
        tests_so j pc n variables slots t (λ x. Then (If x a b) rest) (λ x. Then Over (join (chosen x a b) (Then Over rest)))
        (in_if limit program a b rest)
        (λ v. refl) (λ j2 pc2 variables2 slots2 v w q below. refl) e names r.0 r.1 has (over d) (over f)
    does_goes pc todo (breaks {n = n} {rest = rest} k i d) j variables slots e names =
        control j pc (suc pc + k) variables slots (Then (Break n) rest) (behind n rest) (Jump k) i names (λ w m below p. refl)
        (λ w m below. refl)
        (out j (suc pc + k) variables slots (behind n rest) e names d)
    does_goes pc todo (continues {n = n} {rest = rest} k i d) j variables slots e names =
        control j pc (suc pc + k) variables slots (Then (Continue n) rest) (at_turn n rest) (Jump k) i names (λ w m below p. refl)
        (λ w m below. refl)
        (out j (suc pc + k) variables slots (at_turn n rest) e names d)
    does_goes pc todo (returns {t = t} {rest = rest} r has) j variables slots e names =
        let x = lower program.adts 0 t in
        let last = code.Return (Some x.value) ∷ [] in
        let room : Room slots 0 x.free [] = record {
          order = omega arith;
          fits = let q = r.1 in omega arith;
          clean = clean_all slots x.free names (let q = r.1 in omega arith);
          names = names.0;
        } in
        value_goes limit program t r.0 0 (λ y. Then (tree.Return y) rest) (in_return limit program rest) (F j pc variables slots) []
        (has_front g.code pc x.code last has) room
        (λ j2 variables2 slots2 v got held' y ev b eq.
        let room2 = room_behind slots slots2 0 x.free x.free x.drops [] got held' (omega arith) (omega arith) room y eq in
        going (returns_goes j2 (pc + length x.code) variables2 slots2 (Then (tree.Return (Evaluated v)) rest) held'
        (code.Return (Some x.value)) v
        (has_back g.code pc x.code last has).0 room2.names
        (λ w n below p. ap (λ (z : Slot). machine.returns program.adts w (coded n (F j2 (pc + length x.code) variables2 slots2) below p)
        below (value_of z)) ev)
        (λ w n below. refl)))
    does_goes pc todo (leaves {rest = rest} i) j variables slots e names =
        returns_goes j pc variables slots (Then Leave rest) [] (code.Return None) nothing i names.0 (λ w n below p. refl) (λ w n below. refl)
    does_goes pc todo (enters {l = l} {rest = rest} d) j variables slots e names =
        softly (entered l rest) (λ w n below. refl) (does_goes pc (entered l rest) d j variables slots e names)
    does_goes pc todo (tests {rest = rest} start l c ec at) j variables slots e names = tests_goes start l c rest ec at j variables slots
        e names
    does_goes pc todo (tested_turns {rest = rest} start l at) j variables slots e names =
        tested_turns_goes start l rest l.next refl at j variables slots e names
    does_goes pc todo (tested_agains {rest = rest} start l at) j variables slots e names = tested_agains_goes start l rest at j variables
        slots e names
    does_goes pc todo (entered_tests {rest = rest} start l c ec at) j variables slots e names =
        entered_tests_goes start l c rest ec at j variables slots e names
    does_goes pc todo (entered_turns {rest = rest} start l at) j variables slots e names =
        entered_turns_goes start l rest l.next refl at j variables slots e names
    does_goes pc todo (entered_agains {rest = rest} start l at) j variables slots e names =
        entered_on start l rest l.condition refl at (Again (loop_of l) rest) (λ j2 pc2 variables2 slots2 w n below. refl) j variables
        slots e names
