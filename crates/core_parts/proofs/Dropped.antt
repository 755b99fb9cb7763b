-- Drops in a row, and where they move to.
use Rattle.std.proofs.Common.{◌≡◌, ℕ, zero, suc, ◌+◌, ◌<◌, List, [], ◌∷◌, ◌++◌, map, take, drop, length, get_or, set, sym, ap, ◌∙◌}
use Rattle.std.proofs.Common.{arith, add-zero, add-one, append_assoc}
use Rattle.std.proofs.lemmas.List.{take_more, take_more_set, get_or-drop, map-append}
use Rattle.core_data.specs.declared.code.Inst.{Inst}
use Rattle.core_data.specs.View.{view_inst}
use Rattle.core_code.specs.Code.{Drop, Instr}
use Rattle.core_code.specs.Terms.{Moved, drop_after, drops_after, drops_from}
use Rattle.core_parts.specs.Lowered.{code_of}
use Rattle.core_parts.proofs.Coded.{code_of_push}

pub drops_more : (s k n : ℕ) → drops_from s k (suc n) ≡ drops_from s k n ++ Drop s (k + n) ∷ []
drops_more s k zero = ap (λ x. Drop s x ∷ []) (sym (add-zero k))
drops_more s k (suc n) =
    let e : suc k + n ≡ k + suc n = omega arith in
    ap (λ is. Drop s k ∷ is) (drops_more s (suc k) n ∙ ap (λ x. drops_from s (suc k) n ++ Drop s x ∷ []) e)

pub drops_on : (s n : ℕ) (base code next : List Instr) → code ≡ base ++ drops_from s 0 n → next ≡ code ++ Drop s n ∷ []
    → next ≡ base ++ drops_from s 0 (n + 1)
drops_on s n base code next e f =
    let more : drops_from s 0 (n + 1) ≡ drops_from s 0 n ++ Drop s n ∷ [] =
    ap (λ x. drops_from s 0 x) (add-one n) ∙ drops_more s 0 n
    ∙ ap (λ x. drops_from s 0 n ++ Drop s x ∷ []) (let z : 0 + n ≡ n = omega arith in z) in
    f ∙ ap (λ is. is ++ Drop s n ∷ []) e ∙ append_assoc base (drops_from s 0 n) (Drop s n ∷ []) ∙ ap (λ is. base ++ is) (sym more)

pub moved_on : (v : Moved) (xs ys : List Inst) (i : ℕ) (x y : Inst) → i < length xs → length xs ≡ length ys → x ≡ get_or xs i x
    → view_inst y ≡ drop_after v (view_inst x) → code_of (take i xs) ≡ drops_after v (code_of (take i ys)) → drop i xs ≡ drop i ys
    → code_of (take (i + 1) (set xs i y)) ≡ drops_after v (code_of (take (i + 1) ys))
moved_on v xs ys i x y below long at told before behind =
    let below_ys : i < length ys = omega arith in
    let same : get_or ys i x ≡ x =
    ap (λ k. get_or ys k x) (sym (add-zero i)) ∙ sym (get_or-drop i ys 0 x) ∙ ap (λ l. get_or l 0 x) (sym behind)
    ∙ get_or-drop i xs 0 x ∙ ap (λ k. get_or xs k x) (add-zero i) ∙ sym at in
    ap code_of (take_more_set xs i y below) ∙ code_of_push (take i xs) y ∙ ap (λ is. is ++ view_inst y ∷ []) before
    ∙ ap (λ (z : Instr). drops_after v (code_of (take i ys)) ++ z ∷ []) told
    ∙ sym (map-append (drop_after v) (code_of (take i ys)) (view_inst x ∷ []))
    ∙ ap (λ is. map (drop_after v) is) (sym (code_of_push (take i ys) x))
    ∙ ap (λ is. map (drop_after v) (code_of is)) (sym (take_more ys i x below_ys ∙ ap (λ z. take i ys ++ z ∷ []) same))
