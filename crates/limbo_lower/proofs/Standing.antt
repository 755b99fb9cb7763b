-- What is written in front of a block stands for the statement and the block.
use Rattle.std.proofs.Common.{◌≡◌, ℕ, suc, ◌+◌, ◌-◌, ◌≤◌, List, [], ◌∷◌, ◌++◌, Option, None, Some, length, max}
use Rattle.std.proofs.Common.{refl, sym, ap, ◌∙◌, arith, append_assoc, length-append}
use Rattle.limbo_layout.specs.Adts.{Def}
use Rattle.limbo_meaning.specs.Trees.{Term, Stm, Over, Eval, If, While, Enter, Missing, Looping, Block, Done, Then, tested}
use Rattle.core_data.specs.declared.code.Inst as code_inst
use Rattle.core_code.specs.Code.{Instr, Unless, Jump, Back}
use Rattle.core_code.specs.Terms.{lower}
use Rattle.core_code.specs.Statements.{Around, further, in_loop, whole, whole_if, test, free_after, stm_code, stm_slots, block_code}
use Rattle.core_code.specs.Statements.{loop_code_tested, loop_code_entered, loop_slots}
use Rattle.limbo_lower.specs.declared.statements.Loop as code_loop
use Rattle.limbo_lower.specs.Loops.{arounds_at, AreBehind, Stands}
use Rattle.limbo_lower.specs.Written.{written}
use Rattle.limbo_lower.proofs.Written.{length_written}
use Rattle.limbo_lower.proofs.Looping.{further_at, inside_at, longer}
use Rattle.limbo_lower.proofs.Others.{IsIdle}

-- a block of its own begins
pub begun : (d : List Def) (ls : List code_loop.Loop) (now : List code_inst.Inst) (count : ℕ) → 1 ≤ count
    → Stands d ls (length now) (written now) count Done now count
begun d ls now count h = record { one = h; length = length_written now; code = refl; slots = omega arith }

module _ (d : List Def) (ls : List code_loop.Loop) (end : ℕ) (back : List Instr) (least : ℕ) where
  abbrev around : List Around
  around = arounds_at end ls

  pub rest_is : (b : Block) (now : List code_inst.Inst) (count : ℕ) → Stands d ls end back least b now count
      → length now ≡ length (block_code d around b) + end
  rest_is b now count h =
      omega (arith, length_written now, ap length h.code, length-append (block_code d around b) back, h.length)

  pub then_stands : (b : Block) (now new : List code_inst.Inst) (count more : ℕ) (s : Stm) → Stands d ls end back least b now count
      → written new ≡ stm_code d around (length now - end) s ++ written now → more ≡ max count (stm_slots d s)
      → Stands d ls end back least (Then s b) new more
  then_stands b now new count more s h e m =
      let rest = length (block_code d around b) in
      let r : length now - end ≡ rest = omega (arith, rest_is b now count h) in
      record {
        one = h.one;
        length = h.length;
        code = e ∙ ap (λ k. stm_code d around k s ++ written now) r ∙ ap (λ xs. stm_code d around rest s ++ xs) h.code
            ∙ sym (append_assoc (stm_code d around rest s) (block_code d around b) back);
        slots = omega (arith, m, h.slots);
      }

  pub idle_stands : (b : Block) (now : List code_inst.Inst) (count : ℕ) (s : Stm) → IsIdle s → Stands d ls end back least b now count
      → Stands d ls end back least (Then s b) now count
  idle_stands b now count Over i h = then_stands b now now count count Over h refl (omega arith)
  idle_stands b now count (Eval Missing) i h = then_stands b now now count count (Eval Missing) h refl (omega (arith, h.one, h.slots))
  idle_stands b now count _ i h = absurd i

  -- ---- choices

  pub if_stands : (b o f : Block) (t : Term) (w0 w1 w2 w3 w4 : List code_inst.Inst) (c0 c1 c3 c4 p : ℕ) → AreBehind end ls
      → Stands d ls end back least b w0 c0 → Stands d ls (length w0) (written w0) c0 o w1 c1
      → written w2 ≡ Jump (length w1 - length w0) ∷ written w1 → Stands d ls (length w2) (written w2) c1 f w3 c3
      → p ≡ (length w3 - length w2) + 1 → written w4 ≡ whole d t ++ Unless (lower d 0 t).value p ∷ written w3
      → c4 ≡ max c3 (lower d 0 t).free → Stands d ls end back least (Then (If t f o) b) w4 c4
  if_stands b o f t w0 w1 w2 w3 w4 c0 c1 c3 c4 p behind h ho jump hf ep e4 m4 =
      let r = length w0 - end in
      let oc = block_code d (further r around) o in
      let fc = block_code d (further (suc (length oc) + r) around) f in
      let v = (lower d 0 t).value in
      let low : end ≤ length w0 = omega (arith, rest_is b w0 c0 h) in
      let e1 : written w1 ≡ oc ++ written w0 =
      ho.code ∙ ap (λ xs. block_code d xs o ++ written w0)
      (ap (λ k. arounds_at k ls) (let q : length w0 ≡ r + end = omega (arith, low) in q)
      ∙ sym (further_at end r ls behind)) in
      let l1 : length w1 ≡ length oc + length w0 = longer w1 w0 oc e1 in
      let n1 : length w1 - length w0 ≡ length oc = omega (arith, l1) in
      let e2 : written w2 ≡ Jump (length oc) ∷ (oc ++ written w0) =
      jump ∙ ap (λ k. Jump k ∷ written w1) n1 ∙ ap (λ xs. Jump (length oc) ∷ xs) e1 in
      let l2 : length w2 ≡ suc (length w1) = omega (arith, longer w2 w1 (Jump (length w1 - length w0) ∷ []) jump) in
      let at : length w2 ≡ (suc (length oc) + r) + end = omega (arith, l1, l2, low) in
      let e3 : written w3 ≡ fc ++ written w2 =
      hf.code ∙ ap (λ xs. block_code d xs f ++ written w2) (ap (λ k. arounds_at k ls) at
      ∙ sym (further_at end (suc (length oc) + r) ls behind)) in
      let l3 : length w3 ≡ length fc + length w2 = longer w3 w2 fc e3 in
      let np : p ≡ suc (length fc) = omega (arith, ep, l3) in
      let all : written w4 ≡ stm_code d around r (If t f o) ++ written w0 =
      e4 ∙ ap (λ k. whole d t ++ Unless v k ∷ written w3) np
      ∙ ap (λ xs. whole d t ++ Unless v (suc (length fc)) ∷ xs) (e3 ∙ ap (λ xs. fc ++ xs) e2)
      ∙ sym (append_assoc (whole d t) (Unless v (suc (length fc)) ∷ fc) (Jump (length oc) ∷ (oc ++ written w0)))
      ∙ sym (append_assoc (whole d t ++ Unless v (suc (length fc)) ∷ fc) (Jump (length oc) ∷ oc) (written w0)) in
      then_stands b w0 w4 c0 c4 (If t f o) h all (omega (arith, m4, hf.slots, ho.slots))

  -- ---- loops

  tested_stands : (b o : Block) (c n : Option Term) (w0 w4 : List code_inst.Inst) (c0 c4 : ℕ)
      → Stands d ls end back least (Then Over b) w0 c0
      → written w4 ≡ loop_code_tested d around (length w0 - end) (Looping c n o) ++ written w0
      → c4 ≡ max c0 (loop_slots d (Looping c n o)) → Stands d ls end back least (tested (Looping c n o) (Then Over b)) w4 c4
  tested_stands b o (Some c) n w0 w4 c0 c4 h e m = then_stands (Then Over b) w0 w4 c0 c4 (While c (Looping (Some c) n o)) h e m
  tested_stands b o None n w0 w4 c0 c4 h e m =
      let r = length w0 - end in
      let next = whole_if d n in
      let body = block_code d (in_loop (suc (length next)) r around) o in
      let more : length next + 1 ≡ suc (length next) = omega arith in
      let last : 0 + length (body ++ next) ≡ length (body ++ next) + 0 = omega arith in
      let same : loop_code_tested d around r (Looping None n o) ≡ loop_code_entered d around r (Looping None n o) =
      ap (λ k. (body ++ next) ++ Back k ∷ []) last
      ∙ ap (λ k. (let turn = block_code d (in_loop k r around) o ++ next in turn ++ Back (length turn + 0) ∷ [])) (sym more) in
      then_stands (Then Over b) w0 w4 c0 c4 (Enter (Looping None n o)) h (e ∙ ap (λ xs. xs ++ written w0) same) m

  pub while_stands : (b o : Block) (c n : Option Term) (all : List code_loop.Loop) (w0 w1 w2 w3 w4 : List code_inst.Inst)
      (c0 c1 c2 c3 p : ℕ) → AreBehind end ls → Stands d ls end back least b w0 c0
      → written w1 ≡ whole_if d n ++ Back 0 ∷ written w0 → c1 ≡ max c0 (free_after d n)
      → all ≡ record { turn = length w1; end = length w0 } ∷ ls → Stands d all (length w1) (written w1) c1 o w2 c2
      → p ≡ length w2 - length w0 → written w3 ≡ test d c p ++ written w2 → c3 ≡ max c2 (free_after d c)
      → ((front rest : List Instr) (last : Instr) → written w3 ≡ front ++ last ∷ rest → length rest ≡ length w0
      → written w4 ≡ front ++ Back (length front) ∷ rest) → Stands d ls end back least (tested (Looping c n o) (Then Over b)) w4 c3
  while_stands b o c n all w0 w1 w2 w3 w4 c0 c1 c2 c3 p behind h e1 m1 ea ho ep e3 m3 put =
      let r = length w0 - end in
      let next = whole_if d n in
      let body = block_code d (in_loop (suc (length next)) r around) o in
      let turn = body ++ next in
      let head = test d c (suc (length turn)) in
      let low : end ≤ length w0 = omega (arith, rest_is b w0 c0 h) in
      let l1 : length w1 ≡ suc (length next) + length w0 =
      omega (arith, length_written w1, length_written w0, ap length e1, length-append next (Back 0 ∷ written w0)) in
      let e2 : written w2 ≡ body ++ written w1 =
      ho.code ∙ ap (λ xs. block_code d xs o ++ written w1) (ap (λ xs. arounds_at (length w1) xs) ea
      ∙ inside_at end (length w0) (length w1) (suc (length next)) ls low l1 behind) in
      let l2 : length w2 ≡ length body + length w1 = longer w2 w1 body e2 in
      let np : p ≡ suc (length turn) = omega (arith, ep, l1, l2, length-append body next) in
      let front : written w3 ≡ (head ++ turn) ++ Back 0 ∷ written w0 =
      e3 ∙ ap (λ k. test d c k ++ written w2) np ∙ ap (λ xs. head ++ xs) (e2 ∙ ap (λ xs. body ++ xs) e1
      ∙ sym (append_assoc body next (Back 0 ∷ written w0)))
      ∙ sym (append_assoc head turn (Back 0 ∷ written w0)) in
      let all : written w4 ≡ loop_code_tested d around r (Looping c n o) ++ written w0 =
      put (head ++ turn) (written w0) (Back 0) front (length_written w0)
      ∙ ap (λ k. (head ++ turn) ++ Back k ∷ written w0) (length-append head turn)
      ∙ append_assoc head turn (Back (length head + length turn) ∷ written w0)
      ∙ ap (λ xs. head ++ xs) (sym (append_assoc turn (Back (length head + length turn) ∷ []) (written w0)))
      ∙ sym (append_assoc head (turn ++ Back (length head + length turn) ∷ []) (written w0)) in
      tested_stands b o c n w0 w4 c0 c3 (idle_stands b w0 c0 Over tt h) all (omega (arith, m1, m3, ho.slots))

  pub do_stands : (b o : Block) (c : Option Term) (all : List code_loop.Loop) (w0 w1 w2 w4 : List code_inst.Inst)
      (c0 c1 c2 : ℕ) → AreBehind end ls → Stands d ls end back least b w0 c0
      → written w1 ≡ test d c 1 ++ Back 0 ∷ written w0 → c1 ≡ max c0 (free_after d c)
      → all ≡ record { turn = length w1; end = length w0 } ∷ ls → Stands d all (length w1) (written w1) c1 o w2 c2
      → ((front rest : List Instr) (last : Instr) → written w2 ≡ front ++ last ∷ rest → length rest ≡ length w0
      → written w4 ≡ front ++ Back (length front) ∷ rest) → Stands d ls end back least (Then (Enter (Looping c None o)) (Then Over b)) w4 c2
  do_stands b o c all w0 w1 w2 w4 c0 c1 c2 behind h e1 m1 ea ho put =
      let r = length w0 - end in
      let head = test d c 1 in
      let body = block_code d (in_loop (0 + suc (length head)) r around) o in
      let turn = body ++ [] in
      let low : end ≤ length w0 = omega (arith, rest_is b w0 c0 h) in
      let l1 : length w1 ≡ (0 + suc (length head)) + length w0 =
      omega (arith, length_written w1, length_written w0, ap length e1, length-append head (Back 0 ∷ written w0)) in
      let e2 : written w2 ≡ body ++ written w1 =
      ho.code ∙ ap (λ xs. block_code d xs o ++ written w1) (ap (λ xs. arounds_at (length w1) xs) ea
      ∙ inside_at end (length w0) (length w1) (0 + suc (length head)) ls low l1 behind) in
      let front : written w2 ≡ (turn ++ head) ++ Back 0 ∷ written w0 =
      e2 ∙ ap (λ xs. body ++ xs) e1 ∙ sym (append_assoc body [] (head ++ Back 0 ∷ written w0))
      ∙ sym (append_assoc turn head (Back 0 ∷ written w0)) in
      let all : written w4 ≡ loop_code_entered d around r (Looping c None o) ++ written w0 =
      put (turn ++ head) (written w0) (Back 0) front (length_written w0)
      ∙ ap (λ k. (turn ++ head) ++ Back k ∷ written w0) (length-append turn head)
      ∙ append_assoc turn head (Back (length turn + length head) ∷ written w0)
      ∙ ap (λ xs. turn ++ xs) (sym (append_assoc head (Back (length turn + length head) ∷ []) (written w0)))
      ∙ sym (append_assoc turn (head ++ Back (length turn + length head) ∷ []) (written w0)) in
      then_stands (Then Over b) w0 w4 c0 c2 (Enter (Looping c None o)) (idle_stands b w0 c0 Over tt h) all
      (omega (arith, m1, ho.slots))
