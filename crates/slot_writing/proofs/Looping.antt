-- Loops around statements, and the code of statements as it is written.
use Rattle.std.proofs.Common.{◌≡◌, ℕ, zero, suc, ◌+◌, ◌-◌, ◌≤◌, List, [], ◌∷◌, ◌++◌, Option, None, Some, length, map, reverse, set, false}
use Rattle.std.proofs.Common.{refl, sym, ap, subst, ◌∙◌, arith, append_assoc, length-append}
use Rattle.std.specs.Prelude.{slice_get}
use Rattle.std.proofs.lemmas.List.{reverse-append, reverse-reverse, length-reverse, map-set, set_at}
use Rattle.slot_code.specs.declared.code.Inst as code_inst
use Rattle.slot_code.specs.Code.{Inst, Jump, Back}
use Rattle.slot_code.specs.View.{view_inst}
use Rattle.typed_meaning.specs.Trees.{Term}
use Rattle.typed_lower.specs.Terms.{branches}
use Rattle.typed_lower.specs.Statements.{Around, further, around_at, either, passed, inside, condition, with_test, do_loop, stmt_code}
use Rattle.typed_lower.specs.Statements.{stmts_code}
use Rattle.limbo_types.specs.Types.{Ty}
use Rattle.limbo_typed.specs.Typed as typed
use Rattle.typed_meaning.specs.Program.{term_of}
use Rattle.slot_writing.specs.declared.statements.Loop.{Loop}
use Rattle.slot_writing.specs.Loops.{around, arounds_at, IsBehind, AreBehind, round, chosen}
use Rattle.slot_writing.specs.Written.{written}
use Rattle.slot_writing.proofs.Written.{length_written}

-- ---- loops

pub later : (here there : ℕ) (ls : List Loop) → here ≤ there → AreBehind here ls → AreBehind there ls
later here there [] h b = tt
later here there (l ∷ ls) h b =
    (record { turn = omega (arith, h, b.0.turn); end = omega (arith, h, b.0.end) }, later here there ls h b.1)

further_one : (here n : ℕ) (l : Loop) → IsBehind here l
    → (let a : Around = around here l in let b : Around = record { turn = a.turn + n; end = a.end + n } in b) ≡ around (n + here) l
further_one here n l b =
    ap (λ (t : ℕ). let a : Around = record { turn = t; end = (here - l.end) + n } in a) (let e : (here - l.turn) + n
    ≡ (n + here) - l.turn = omega (arith, b.turn) in e)
    ∙ ap (λ (t : ℕ). let a : Around = record { turn = (n + here) - l.turn; end = t } in a) (let e : (here - l.end) + n
    ≡ (n + here) - l.end = omega (arith, b.end) in e)

pub further_at : (here n : ℕ) (ls : List Loop) → AreBehind here ls → further n (arounds_at here ls) ≡ arounds_at (n + here) ls
further_at here n [] b = refl
further_at here n (l ∷ ls) b =
    ap (λ a. a ∷ further n (arounds_at here ls)) (further_one here n l b.0)
    ∙ ap (λ bs. around (n + here) l ∷ bs) (further_at here n ls b.1)

pub one_behind : (here : ℕ) (ls : List Loop) (n : ℕ) (l : Loop) → slice_get ls n ≡ Some l → AreBehind here ls → IsBehind here l
one_behind here [] n l e b = absurd (cc)
one_behind here (k ∷ ls) zero l e b = let same : k ≡ l = cc in (let h : IsBehind here l = subst (IsBehind here) same b.0 in h)
one_behind here (k ∷ ls) (suc n) l e b = one_behind here ls n l e b.1

pub no_around : (here : ℕ) (ls : List Loop) (n : ℕ) → slice_get ls n ≡ None
    → around_at (arounds_at here ls) n ≡ record { turn = 0; end = 0 }
no_around here [] n e = refl
no_around here (k ∷ ls) zero e = absurd cc
no_around here (k ∷ ls) (suc n) e = no_around here ls n e

pub one_around : (here : ℕ) (ls : List Loop) (n : ℕ) (l : Loop) → slice_get ls n ≡ Some l → around_at (arounds_at here ls) n ≡ around here l
one_around here [] n l e = absurd cc
one_around here (k ∷ ls) zero l e = let same : k ≡ l = cc in ap (around here) same
one_around here (k ∷ ls) (suc n) l e = one_around here ls n l e

-- ---- what is written

pub longer : (new old : List code_inst.Inst) (x : List Inst) → written new ≡ x ++ written old → length new ≡ length x + length old
longer new old x e = omega (arith, length_written new, length_written old, ap length e, length-append x (written old))

turned : (a b : List Inst) (x : Inst) → reverse (a ++ x ∷ b) ≡ reverse b ++ x ∷ reverse a
turned a b x =
    reverse-append a (x ∷ b) ∙ ap (λ xs. xs ++ reverse a) (reverse-append (x ∷ []) b) ∙ append_assoc (reverse b) (x ∷ []) (reverse a)

-- an instruction is written anew
pub written_anew : (is : List code_inst.Inst) (m : ℕ) (i : code_inst.Inst) (front back : List Inst) (last : Inst)
    → written is ≡ front ++ last ∷ back → length back ≡ m → written (set is m i) ≡ front ++ view_inst i ∷ back
unfolding written
written_anew is m i front back last e l =
    let zs = map view_inst is in
    let v = view_inst i in
    let there : zs ≡ reverse back ++ last ∷ reverse front = sym (reverse-reverse zs) ∙ ap reverse e ∙ turned front back last in
    ap reverse (map-set view_inst is m i ∙ ap (λ xs. set xs m v) there
    ∙ set_at (reverse back) last (reverse front) v m (length-reverse back ∙ l))
    ∙ turned (reverse back) (reverse front) v
    ∙ ap (λ xs. xs ++ v ∷ reverse (reverse back)) (reverse-reverse front)
    ∙ ap (λ xs. front ++ v ∷ xs) (reverse-reverse back)

-- ---- statements

-- a loop that tests first, with its way back
pub turns_code : (test body next back : List Inst)
    → (test ++ (body ++ next)) ++ Back (length (test ++ (body ++ next))) ∷ back ≡ with_test test next body ++ back
turns_code test body next back =
    let n : length (test ++ (body ++ next)) ≡ length test + length body + length next =
    omega (arith, length-append test (body ++ next), length-append body next) in
    ap (λ k. (test ++ (body ++ next)) ++ Back k ∷ back) n
    ∙ ap (λ xs. xs ++ Back (length test + length body + length next) ∷ back) (sym (append_assoc test body next))
    ∙ sym (append_assoc (test ++ body ++ next) (Back (length test + length body + length next) ∷ []) back)

-- both parts of an `if`
pub either_code : (t : Term) (a others back : List Inst) (n : ℕ) → n + length others ≡ length a + length (round others)
    → branches false 0 t n ++ (a ++ (round others ++ back)) ≡ either t a others ++ back
either_code t a [] back n e =
    ap (λ k. branches false 0 t k ++ (a ++ back)) (let q : n ≡ length a = omega (arith, e) in q)
    ∙ sym (append_assoc (branches false 0 t (length a)) a back)
either_code t a (i ∷ is) back n e =
    let jump = Jump (length (i ∷ is)) ∷ i ∷ is in
    ap (λ k. branches false 0 t k ++ (a ++ (jump ++ back))) (let q : n ≡ suc (length a) = omega (arith, e) in q)
    ∙ sym (append_assoc (branches false 0 t (suc (length a))) a (jump ++ back))
    ∙ sym (append_assoc (branches false 0 t (suc (length a)) ++ a) jump back)

pub passed_is : (others : List Inst) → passed others ≡ length (round others)
passed_is [] = refl
passed_is (i ∷ is) = refl

-- ---- loops and choices, from what is written of their parts

pub inside_at : (mark here : ℕ) (ls : List Loop) (next : List Inst) → here ≡ length next + suc mark → AreBehind mark ls
    → arounds_at here (record { turn = here; end = mark } ∷ ls) ≡ inside next (arounds_at mark ls)
inside_at mark here ls next e b =
    ap (λ (t : ℕ). let a : Around = record { turn = t; end = here - mark } in a ∷ arounds_at here ls) (let q : here - here
    ≡ 0 = omega arith in q)
    ∙ ap (λ (t : ℕ). let a : Around = record { turn = 0; end = t } in a ∷ arounds_at here ls) (let q : here - mark
    ≡ suc (length next) = omega (arith, e) in q)
    ∙ ap (λ (bs : List Around). let a : Around = record { turn = 0; end = suc (length next) } in a ∷ bs)
    (ap (λ (k : ℕ). arounds_at k ls) (let q : here ≡ suc (length next) + mark = omega (arith, e) in q)
    ∙ sym (further_at mark (suc (length next)) ls b))

module _ (types : List Ty) where
  pub chosen_code : (c : typed.Expr) (ss others : typed.Stmts) (ls : List Loop) (w0 w2 w3 : List code_inst.Inst) (t : Term) (n : ℕ)
      → AreBehind (length w0) ls → t ≡ term_of c
      → written w2 ≡ round (stmts_code types (arounds_at (length w0) ls) others) ++ written w0
      → written w3 ≡ stmts_code types (arounds_at (length w2) ls) ss ++ written w2
      → n + (length (stmts_code types (arounds_at (length w0) ls) others) + length w0) ≡ length w3
      → branches false 0 t n ++ written w3 ≡ chosen types (arounds_at (length w0) ls) c ss others ++ written w0
  chosen_code c ss others ls w0 w2 w3 t n b et e2 e3 en =
      let bs = arounds_at (length w0) ls in
      let o = stmts_code types bs others in
      let s = stmts_code types (further (passed o) bs) ss in
      let long : length w2 ≡ length (round o) + length w0 = longer w2 w0 (round o) e2 in
      let here : length w2 ≡ passed o + length w0 = long ∙ ap (λ k. k + length w0) (sym (passed_is o)) in
      let same : arounds_at (length w2) ls ≡ further (passed o) bs =
      ap (λ k. arounds_at k ls) here ∙ sym (further_at (length w0) (passed o) ls b) in
      let e4 : written w3 ≡ s ++ written w2 = e3 ∙ ap (λ xs. stmts_code types xs ss ++ written w2) same in
      let long3 : length w3 ≡ length s + length w2 = longer w3 w2 s e4 in
      ap (λ xs. branches false 0 t n ++ xs) (e4 ∙ ap (λ xs. s ++ xs) e2)
      ∙ ap (λ u. branches false 0 u n ++ (s ++ (round o ++ written w0))) et
      ∙ either_code (term_of c) s o (written w0) n (omega (arith, en, long, long3))

  pub looped_code : (c : Option typed.Expr) (ss : typed.Stmts) (ls all : List Loop) (next back : List Inst) (last : Inst)
      (w0 w1 w2 : List code_inst.Inst) (mark n : ℕ)
      → AreBehind mark ls → all ≡ record { turn = length w0; end = mark } ∷ ls → written w0 ≡ next ++ last ∷ back → length back ≡ mark
      → written w1 ≡ stmts_code types (arounds_at (length w0) all) ss ++ written w0
      → written w2 ≡ condition c n ++ written w1 → n + mark ≡ length w1
      → (let body = stmts_code types (inside next (arounds_at mark ls)) ss in
      written w2 ≡ (condition c (suc (length body + length next)) ++ (body ++ next)) ++ last ∷ back)
  looped_code c ss ls all next back last w0 w1 w2 mark n b ea e0 lb e1 e2 en =
      let body = stmts_code types (inside next (arounds_at mark ls)) ss in
      let here : length w0 ≡ length next + suc mark =
      omega (arith, length_written w0, ap length e0, length-append next (last ∷ back), lb) in
      let e3 : written w1 ≡ body ++ written w0 =
      e1 ∙ ap (λ xs. stmts_code types xs ss ++ written w0) (ap (arounds_at (length w0)) ea ∙ inside_at mark (length w0) ls next here b) in
      let m : n ≡ suc (length body + length next) = omega (arith, en, here, longer w1 w0 body e3) in
      let test = condition c (suc (length body + length next)) in
      e2 ∙ ap (λ k. condition c k ++ written w1) m
      ∙ ap (λ xs. test ++ xs) (e3 ∙ ap (λ xs. body ++ xs) e0 ∙ sym (append_assoc body next (last ∷ back)))
      ∙ sym (append_assoc test (body ++ next) (last ∷ back))

  pub done_code : (c : Option typed.Expr) (ss : typed.Stmts) (ls all : List Loop) (last : Inst) (w0 w1 w2 : List code_inst.Inst)
      → AreBehind (length w0) ls → all ≡ record { turn = length w1; end = length w0 } ∷ ls
      → written w1 ≡ condition c 1 ++ last ∷ written w0
      → written w2 ≡ stmts_code types (arounds_at (length w1) all) ss ++ written w1
      → (let body = stmts_code types (inside (condition c 1) (arounds_at (length w0) ls)) ss in
      written w2 ≡ (body ++ condition c 1) ++ last ∷ written w0)
  done_code c ss ls all last w0 w1 w2 b ea e1 e2 =
      let test = condition c 1 in
      let body = stmts_code types (inside test (arounds_at (length w0) ls)) ss in
      let here : length w1 ≡ length test + suc (length w0) =
      omega (arith, length_written w1, length_written w0, ap length e1, length-append test (last ∷ written w0)) in
      e2 ∙ ap (λ xs. stmts_code types xs ss ++ written w1) (ap (arounds_at (length w1)) ea
      ∙ inside_at (length w0) (length w1) ls test here b)
      ∙ ap (λ xs. body ++ xs) e1 ∙ sym (append_assoc body test (last ∷ written w0))

  pub more_code : (s : typed.Stmt) (ss : typed.Stmts) (ls : List Loop) (w0 w1 w2 : List code_inst.Inst) → AreBehind (length w0) ls
      → written w1 ≡ stmts_code types (arounds_at (length w0) ls) ss ++ written w0
      → written w2 ≡ stmt_code types (arounds_at (length w1) ls) s ++ written w1
      → written w2 ≡ stmts_code types (arounds_at (length w0) ls) (typed.MoreStmts s ss) ++ written w0
  more_code s ss ls w0 w1 w2 b e1 e2 =
      let bs = arounds_at (length w0) ls in
      let rest = stmts_code types bs ss in
      let same : arounds_at (length w1) ls ≡ further (length rest) bs =
      ap (λ k. arounds_at k ls) (longer w1 w0 rest e1) ∙ sym (further_at (length w0) (length rest) ls b) in
      e2 ∙ ap (λ xs. stmt_code types xs s ++ written w1) same ∙ ap (λ xs. stmt_code types (further (length rest) bs) s ++ xs) e1
      ∙ sym (append_assoc (stmt_code types (further (length rest) bs) s) rest (written w0))

pub do_code : (test body back : List Inst) → (body ++ test) ++ Back (length (body ++ test)) ∷ back ≡ do_loop test body ++ back
do_code test body back =
    ap (λ k. (body ++ test) ++ Back k ∷ back) (length-append body test)
    ∙ sym (append_assoc (body ++ test) (Back (length body + length test) ∷ []) back)

pub one_more : (t e here mark : ℕ) (ls all : List Loop) → all ≡ record { turn = t; end = e } ∷ ls → t ≡ here → e ≡ mark
    → all ≡ record { turn = here; end = mark } ∷ ls
one_more t e here mark ls all a p q = rw (a, p, q) refl

pub begun : (here mark : ℕ) (ls all : List Loop) → all ≡ record { turn = here; end = mark } ∷ ls → mark ≤ here → AreBehind mark ls
    → AreBehind here all
begun here mark ls all a l b = rw a (record { turn = omega arith; end = omega (arith, l) }, later mark here ls l b)

pub round_longer : (others : List Inst) → length others ≤ length (round others)
round_longer [] = omega arith
round_longer (i ∷ is) = omega arith
