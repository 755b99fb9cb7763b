-- The words of a frame, and what they name.
use Rattle.std.proofs.Common.{◌≡◌, ℕ, ◌+◌, cond, List, [], ◌∷◌, ◌++◌, Some, refl, ap, ◌∙◌, arith, inl, inr}
use Rattle.std.proofs.lemmas.Bool.Decides.{eqb_tells}
use Rattle.std.specs.Prelude.{map}
use Rattle.std.proofs.lemmas.List.Sums.{sum_by-cons}
use Rattle.ref_heap.specs.declared.word.Word.{Word}
use Rattle.ref_heap.specs.Words.{Cell, Content, plain, refer, wide, compact, MayTake, cell_of, naming, refers}
use Rattle.ref_heap.specs.Store.{one}

pub naming_cons : (c : Cell) (cs : List Cell) (n : ℕ) → naming (c ∷ cs) n ≡ cond {A = ℕ} (refers n c) 1 0 + naming cs n
naming_cons c cs n = sum_by-cons _ c cs

pub naming_end : (ws : List Word) (w : Word) (n : ℕ) → naming (map cell_of (ws ++ w ∷ [])) n ≡ naming (map cell_of ws) n + naming
    (cell_of w ∷ []) n
naming_end [] w n = omega arith
naming_end (x ∷ ws) w n =
    let a = naming_cons (cell_of x) (map cell_of (ws ++ w ∷ [])) n in
    let b = naming_cons (cell_of x) (map cell_of ws) n in
    let c = naming_end ws w n in
    omega arith

pub naming_one : (k n : ℕ) → naming (refer (Some k) ∷ []) n ≡ one k n
naming_one k n = naming_cons (refer (Some k)) [] n ∙ omega arith

pub may_plain : (c : Content) (v : ℕ) → MayTake c (plain v)
may_plain (wide ws) v = tt
may_plain (compact ns) v = tt

pub one_itself : (k : ℕ) → one k k ≡ 1
one_itself k = elim (eqb_tells k k) [ inl y ↦ ap (λ b. cond {A = ℕ} b 1 0) y.0 | inr y ↦ absurd (y.1 refl) ]
