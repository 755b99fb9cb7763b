-- Loops around statements, and the code of statements as it is written.
use Rattle.std.proofs.Common.{◌≡◌, ℕ, zero, suc, ◌+◌, ◌-◌, ◌<◌, ◌≤◌, List, [], ◌∷◌, ◌++◌, Some, length, map, reverse, set}
use Rattle.std.proofs.Common.{refl, sym, ap, subst, ◌∙◌, arith, append_assoc, length-append, get_or}
use Rattle.std.specs.Prelude.{slice_get, Result, Ok, Err, OnOk}
use Rattle.std.proofs.lemmas.Option.{slice_get_read}
use Rattle.std.proofs.lemmas.List.{map-append, reverse-append, reverse-reverse, length-reverse, map-set, set_at}
use Rattle.core_data.specs.declared.code.Inst as code_inst
use Rattle.core_data.specs.View.{view_inst}
use Rattle.core_code.specs.Code.{Instr}
use Rattle.core_parts.specs.Lowered.{code_of}
use Rattle.core_code.specs.Statements.{Around, further, leaves_at, turns_at, in_loop}
use Rattle.limbo_types.specs.Types.{Ty}
use Rattle.limbo_layout.specs.Adts.{Def}
use Rattle.limbo_typed.specs.declared.stmt.TStmt as code_stmt
use Rattle.limbo_typed.specs.View.{view_stmt, view_stmts}
use Rattle.core_code.specs.Sizes.{stmt_nodes, stmts_nodes}
use Rattle.core_frames.specs.Sizes.{stmt_size, stmts_size}
use Rattle.limbo_lower.specs.declared.statements.Loop.{Loop}
use Rattle.limbo_lower.specs.Loops.{around, arounds_at, IsBehind, AreBehind}
use Rattle.limbo_lower.specs.Written.{written}
use Rattle.limbo_lower.proofs.Written.{length_written}
use Rattle.limbo_lower.proofs.Turned.{turned_round}

-- ---- loops

pub later : (here there : ℕ) (ls : List Loop) → here ≤ there → AreBehind here ls → AreBehind there ls
later here there [] h b = tt
later here there (l ∷ ls) h b =
    (record { turn = omega (arith, h, b.0.turn); end = omega (arith, h, b.0.end) }, later here there ls h b.1)

further_one : (here n : ℕ) (l : Loop) → IsBehind here l
    → (let a : Around = around here l in let b : Around = record { leaves = n + a.leaves; turns = n + a.turns } in b) ≡ around (n + here) l
further_one here n l b =
    ap (λ (t : ℕ). let a : Around = record { leaves = n + (here - l.end); turns = t } in a) (let e : n + (here - l.turn)
    ≡ (n + here) - l.turn = omega (arith, b.turn) in e)
    ∙ ap (λ (t : ℕ). let a : Around = record { leaves = t; turns = (n + here) - l.turn } in a) (let e : n + (here - l.end)
    ≡ (n + here) - l.end = omega (arith, b.end) in e)

pub further_at : (here n : ℕ) (ls : List Loop) → AreBehind here ls → further n (arounds_at here ls) ≡ arounds_at (n + here) ls
further_at here n [] b = refl
further_at here n (l ∷ ls) b =
    ap (λ a. a ∷ further n (arounds_at here ls)) (further_one here n l b.0)
    ∙ ap (λ bs. around (n + here) l ∷ bs) (further_at here n ls b.1)

pub one_behind : (here : ℕ) (ls : List Loop) (n : ℕ) (l : Loop) → slice_get ls n ≡ Some l → AreBehind here ls → IsBehind here l
one_behind here [] n l e b = absurd (cc)
one_behind here (k ∷ ls) zero l e b = let same : k ≡ l = cc in (let h : IsBehind here l = subst (IsBehind here) same b.0 in h)
one_behind here (k ∷ ls) (suc n) l e b = one_behind here ls n l e b.1

pub one_leaves : (here : ℕ) (ls : List Loop) (n : ℕ) (l : Loop) → slice_get ls n ≡ Some l → leaves_at n (arounds_at here ls) ≡ here - l.end
one_leaves here [] n l e = absurd cc
one_leaves here (k ∷ ls) zero l e = let same : k ≡ l = cc in ap (λ (x : Loop). here - x.end) same
one_leaves here (k ∷ ls) (suc n) l e = one_leaves here ls n l e

pub one_turns : (here : ℕ) (ls : List Loop) (n : ℕ) (l : Loop) → slice_get ls n ≡ Some l → turns_at n (arounds_at here ls) ≡ here - l.turn
one_turns here [] n l e = absurd cc
one_turns here (k ∷ ls) zero l e = let same : k ≡ l = cc in ap (λ (x : Loop). here - x.turn) same
one_turns here (k ∷ ls) (suc n) l e = one_turns here ls n l e

pub beyond_leaves : (here : ℕ) (ls : List Loop) (n : ℕ) → length ls ≤ n → leaves_at n (arounds_at here ls) ≡ 0
beyond_leaves here [] n e = refl
beyond_leaves here (k ∷ ls) zero e = absurd (omega (arith, e))
beyond_leaves here (k ∷ ls) (suc n) e = beyond_leaves here ls n (omega (arith, e))

pub beyond_turns : (here : ℕ) (ls : List Loop) (n : ℕ) → length ls ≤ n → turns_at n (arounds_at here ls) ≡ 0
beyond_turns here [] n e = refl
beyond_turns here (k ∷ ls) zero e = absurd (omega (arith, e))
beyond_turns here (k ∷ ls) (suc n) e = beyond_turns here ls n (omega (arith, e))

-- a loop more around: from the end of its body on
pub inside_at : (end mark here n : ℕ) (ls : List Loop) → end ≤ mark → here ≡ n + mark → AreBehind end ls
    → arounds_at here (record { turn = here; end = mark } ∷ ls) ≡ in_loop n (mark - end) (arounds_at end ls)
inside_at end mark here n ls m e b =
    ap (λ (t : ℕ). let a : Around = record { leaves = here - mark; turns = t } in a ∷ arounds_at here ls) (let q : here - here
    ≡ 0 = omega arith in q)
    ∙ ap (λ (t : ℕ). let a : Around = record { leaves = t; turns = 0 } in a ∷ arounds_at here ls) (let q : here - mark
    ≡ n = omega (arith, e) in q)
    ∙ ap (λ (bs : List Around). let a : Around = record { leaves = n; turns = 0 } in a ∷ bs)
    (ap (λ (k : ℕ). arounds_at k ls) (let q : here ≡ (n + (mark - end)) + end = omega (arith, e, m) in q)
    ∙ sym (further_at end (n + (mark - end)) ls b))

pub behind_inside : (end mark here : ℕ) (ls all : List Loop) → all ≡ record { turn = here; end = mark } ∷ ls → end ≤ mark → mark ≤ here
    → AreBehind end ls → AreBehind here all
behind_inside end mark here ls all e m n b =
    let inner : AreBehind here (record { turn = here; end = mark } ∷ ls) =
    (record { turn = omega arith; end = omega (arith, n) }, later end here ls (omega (arith, m, n)) b) in
    subst (AreBehind here) (sym e) inner

-- ---- what is written

pub longer : (new old : List code_inst.Inst) (x : List Instr) → written new ≡ x ++ written old → length new ≡ length x + length old
longer new old x e = omega (arith, length_written new, length_written old, ap length e, length-append x (written old))

pub written_all : (is fs : List code_inst.Inst) → written (is ++ reverse fs) ≡ code_of fs ++ written is
unfolding written code_of
written_all is fs =
    ap reverse (map-append view_inst is (reverse fs)) ∙ reverse-append (map view_inst is) (map view_inst (reverse fs))
    ∙ ap (λ xs. reverse xs ++ reverse (map view_inst is)) (turned_round fs)
    ∙ ap (λ xs. xs ++ reverse (map view_inst is)) (reverse-reverse (map view_inst fs))

turned : (a b : List Instr) (x : Instr) → reverse (a ++ x ∷ b) ≡ reverse b ++ x ∷ reverse a
turned a b x =
    reverse-append a (x ∷ b) ∙ ap (λ xs. xs ++ reverse a) (reverse-append (x ∷ []) b) ∙ append_assoc (reverse b) (x ∷ []) (reverse a)

-- an instruction is written anew
pub written_anew : (is : List code_inst.Inst) (m : ℕ) (i : code_inst.Inst) (front back : List Instr) (last : Instr)
    → written is ≡ front ++ last ∷ back → length back ≡ m → written (set is m i) ≡ front ++ view_inst i ∷ back
unfolding written
written_anew is m i front back last e l =
    let zs = map view_inst is in
    let v = view_inst i in
    let there : zs ≡ reverse back ++ last ∷ reverse front = sym (reverse-reverse zs) ∙ ap reverse e ∙ turned front back last in
    ap reverse (map-set view_inst is m i ∙ ap (λ xs. set xs m v) there
    ∙ set_at (reverse back) last (reverse front) v m (length-reverse back ∙ l))
    ∙ turned (reverse back) (reverse front) v
    ∙ ap (λ xs. xs ++ v ∷ reverse (reverse back)) (reverse-reverse front)
    ∙ ap (λ xs. front ++ v ∷ xs) (reverse-reverse back)

pub behind_there : (here : ℕ) (ls : List Loop) (n : ℕ) (l : Loop) → n < length ls → l ≡ get_or ls n l → AreBehind here ls → IsBehind here l
behind_there here ls n l lt e b = one_behind here ls n l (slice_get_read ls (length ls) n l refl lt e) b

pub leaves_there : (here : ℕ) (ls : List Loop) (n : ℕ) (l : Loop) → n < length ls → l ≡ get_or ls n l
    → leaves_at n (arounds_at here ls) ≡ here - l.end
leaves_there here ls n l lt e = one_leaves here ls n l (slice_get_read ls (length ls) n l refl lt e)

pub turns_there : (here : ℕ) (ls : List Loop) (n : ℕ) (l : Loop) → n < length ls → l ≡ get_or ls n l
    → turns_at n (arounds_at here ls) ≡ here - l.turn
turns_there here ls n l lt e = one_turns here ls n l (slice_get_read ls (length ls) n l refl lt e)

-- ---- statements in a row

pub nodes_within : (ss : List code_stmt.TStmt) (i : ℕ) (s : code_stmt.TStmt) → i < length ss → s ≡ get_or ss i s
    → stmt_nodes [] (view_stmt s) ≤ stmts_nodes [] (view_stmts ss)
nodes_within [] i s l e = absurd (omega (arith, l))
nodes_within (x ∷ ss) zero s l e = omega (arith, ap (λ (y : code_stmt.TStmt). stmt_nodes [] (view_stmt y)) e)
nodes_within (x ∷ ss) (suc i) s l e = omega (arith, nodes_within ss i s (omega (arith, l)) e)

pub size_within : (d : List Def) (ts : List Ty) (ss : List code_stmt.TStmt) (i : ℕ) (s : code_stmt.TStmt) → i < length ss
    → s ≡ get_or ss i s → stmt_size d ts (view_stmt s) ≤ stmts_size d ts (view_stmts ss)
size_within d ts [] i s l e = absurd (omega (arith, l))
size_within d ts (x ∷ ss) zero s l e = omega (arith, ap (λ (y : code_stmt.TStmt). stmt_size d ts (view_stmt y)) e)
size_within d ts (x ∷ ss) (suc i) s l e = omega (arith, size_within d ts ss i s (omega (arith, l)) e)

-- what holds where a call succeeds follows from what else holds there
pub on_ok : {A E : Type 0} (r : Result A E) {P Q : Type 0} → (P → Q) → OnOk r P → OnOk r Q
on_ok (Ok x) f p = f p
on_ok (Err e) f p = p

pub on_both : {A E : Type 0} (r : Result A E) {P Q R : Type 0} → (P → Q → R) → OnOk r P → OnOk r Q → OnOk r R
on_both (Ok x) f p q = f p q
on_both (Err e) f p q = p
