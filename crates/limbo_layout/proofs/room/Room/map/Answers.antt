use Rattle.std.proofs.Common.{◌≡◌, ◌≢◌, ℕ, ◌+◌, ◌/◌, ◌<◌, ◌≤◌, ◌==◌, ◌||◌, Bool, true, false, List, [], ◌∷◌, ◌++◌, length, map, take, get_or, refl, sym, ap, subst, ◌∙◌, arith, rules, tests}
use Rattle.std.proofs.Math.ListN.{set}
use Rattle.std.proofs.lemmas.List.{length-set, get_or-set_same, get_or-set_other, take_more, map-append, take_all}
use Rattle.std.specs.List.{range_with_len}
use Rattle.std.proofs.lemmas.List.FromFn.{fill_by_all}
use Rattle.limbo_layout.specs.Layout.{is_in, words}
use Rattle.limbo_layout.proofs.Sound.{below_at}
use Rattle.limbo_layout.proofs.Marks.{is_in-push}
use Rattle.limbo_layout.proofs.room.Room.map.Goals as goal

pub index_mut-requires : goal.index_mut-requires
index_mut-requires c =
    let b = below_at _ c.deref-offset-items.result.now c.loop-offset.offset-index 0 c.loop-offset.invariant.below (omega arith) in
    let e = c.loop-offset.invariant.same_length in
    omega arith

or_true : (b : Bool) → (b || true) ≡ true
or_true true = refl
or_true false = refl

or_false : (b : Bool) → (b || false) ≡ b
or_false true = refl
or_false false = refl

differ : {n m : ℕ} → n ≡ m → (m == n) ≡ false → ⊥
differ {n} {m} e q = let f : (n == n) ≡ false = ap (λ z. z == n) e ∙ q in let g : (n == n) ≡ true = search (rules, tests) in cc

-- one more number is marked
marks_more : (ms : List Bool) (os : List ℕ) (i w : ℕ) → i < length os → w < length ms → get_or ms w false ≡ is_in w (map (λ o. o / 4) (take i os)) → get_or (set ms (get_or os i 0 / 4) true) w false ≡ is_in w (map (λ o. o / 4) (take (i + 1) os))
marks_more ms os i w h l e =
    let k = get_or os i 0 / 4 in
    let f : is_in w (map (λ o. o / 4) (take (i + 1) os)) ≡ (is_in w (map (λ o. o / 4) (take i os)) || (k == w)) =
    ap (λ xs. is_in w (map (λ o. o / 4) xs)) (take_more os i 0 h) ∙ ap (λ xs. is_in w xs) (map-append (λ o. o / 4) (take i os) (get_or os i 0 ∷ [])) ∙ is_in-push w k (map (λ o. o / 4) (take i os)) in
    go (k == w) refl ∙ sym f
  where
    k : ℕ
    k = get_or os i 0 / 4

    go : (b : Bool) → (k == w) ≡ b → get_or (set ms k true) w false ≡ (is_in w (map (λ o. o / 4) (take i os)) || (k == w))
    go true q =
        let e2 : k ≡ w = search (rules, tests, q) in
        subst (λ (z : ℕ). get_or (set ms k true) z false ≡ true) e2 (get_or-set_same ms k true false (omega arith))
        ∙ sym (ap (λ b. is_in w (map (λ o. o / 4) (take i os)) || b) q ∙ or_true (is_in w (map (λ o. o / 4) (take i os))))
    go false q =
        let ne : w ≢ k = λ f. differ f q in
        get_or-set_other ms k w true false ne ∙ e ∙ sym (ap (λ b. is_in w (map (λ o. o / 4) (take i os)) || b) q ∙ or_false (is_in w (map (λ o. o / 4) (take i os))))

pub loop-offset-preserved : goal.loop-offset-preserved
loop-offset-preserved c = record {
  same_length = length-set c.loop-offset.map.items _ true ∙ c.loop-offset.invariant.same_length;
  marked = λ w l. marks_more c.loop-offset.map.items c.deref-offset-items.result.now c.loop-offset.offset-index w (omega arith) (let e = c.loop-offset.invariant.same_length in omega arith) (c.loop-offset.invariant.marked w l);
  below = c.loop-offset.invariant.below;
}

pub returns : goal.returns
returns c =
    let e : c.deref-offset-items.result.now ≡ c.args.self.now.references = cc in
    let m = fill_by_all (λ w. is_in w (map (λ o. o / 4) c.deref-offset-items.result.now)) c.loop-offset.map.items _ false c.loop-offset.invariant.same_length
    (λ w l. c.loop-offset.invariant.marked w l ∙ ap (λ os. is_in w (map (λ o. o / 4) os)) (take_all c.loop-offset.offset-index c.deref-offset-items.result.now (omega arith))) in
    m ∙ ap (λ os. map (λ w. is_in w (map (λ o. o / 4) os)) (range_with_len 0 (words c.args.self.now.size))) e
