-- What stands once among arms.
use Rattle.std.proofs.Common.{◌≡◌, refl, sym, ap, ◌∙◌, subst, ℕ, ◌+◌, ◌<◌, ◌≤◌}
use Rattle.std.proofs.Common.{◌⊎◌, inl, inr, Bool, true, false, List, [], ◌∷◌, ◌++◌, length}
use Rattle.std.proofs.Common.{Option, None, Some, option_map, map, take, get_or, cond, arith}
use Rattle.std.specs.Prelude.{◌↔◌, IsTrue, slice_get, count_by, not}
use Rattle.std.specs.List.{fold}
use Rattle.std.specs.Option.{is_some}
use Rattle.std.specs.Ordering.{nat_cmp}
use Rattle.std.specs.Cmp.{nat_cmp_is}
use Rattle.std.specs.declared.cmp.Ordering.TheVariants.{Equal}
use Rattle.std.specs.Ordering.{is_le}
use Rattle.std.proofs.lemmas.Bool.{false≢true, leb-true, le-leb}
use Rattle.std.proofs.Math.Dec.{leb}
use Rattle.std.proofs.lemmas.List.{take_more, append_assoc, append-nil, map-append}
use Rattle.std.proofs.lemmas.Map.Keys.{le_from_is_le}
use Rattle.std.proofs.lemmas.Option.{none-some, same_Some, slice_get-map}
use Rattle.limbo_cases.specs.declared.label.Label.{Label}
use Rattle.limbo_cases.specs.Labels.{AtMost, Finds, OverlapsAt}
use Rattle.limbo_typed.specs.declared.stmt.AltArm as code_alt_arm
use Rattle.limbo_typed.specs.declared.stmt.PickArm as code_pick_arm
use Rattle.limbo_typed.specs.View.{Arm, view_alt_arm, view_pick_arm, heads_of}
use Rattle.limbo_typed.specs.Typed.{AltHead, PickHead}
use Rattle.limbo_typed.proofs.View.{view_alt_arm-out, view_pick_arm-out}
use Rattle.limbo_stmt_values.specs.limbo_stating.Alts as alts
use Rattle.limbo_stmt_values.specs.limbo_stating.Alts.{HasOneStar}
use Rattle.limbo_stmt_values.specs.limbo_stating.Picks as picks
use Rattle.limbo_stmt_values.specs.limbo_stating.Picks.{PickOnce, all_variants}
use Rattle.limbo_heads.specs.Singles.{singles, AreOnce, waits_not, names_none}

-- ---- stars

-- Arms are counted as their heads are.
same_count : {A H : Type 0} (p : A → Bool) (q : H → Bool) (view : A → Arm H) → ((a : A) → q (view a).head ≡ p a) → (n : ℕ) (xs : List A)
    → fold (λ m h. m + cond (q h) 1 0) n (heads_of (map view xs)) ≡ fold (λ m x. m + cond (p x) 1 0) n xs
same_count p q view e n [] = refl
same_count {A} {H} p q view e n (x ∷ xs) =
    ap (λ (b : Bool). fold (λ m h. m + cond (q h) 1 0) (n + cond b 1 0) (heads_of (map view xs))) (e x)
    ∙ same_count p q view e (n + cond (p x) 1 0) xs

alt_star : (a : code_alt_arm.AltArm) → alts.is_star (view_alt_arm a).head ≡ waits_not a
alt_star a = ap (λ (v : Arm AltHead). alts.is_star v.head) (view_alt_arm-out a)

pick_star : (a : code_pick_arm.PickArm) → picks.is_star (view_pick_arm a).head ≡ names_none a
pick_star a = ap (λ (v : Arm PickHead). picks.is_star v.head) (view_pick_arm-out a)

pub alt_counted : (arms : List code_alt_arm.AltArm)
    → count_by alts.is_star (heads_of (map view_alt_arm arms)) ≡ count_by waits_not arms
alt_counted arms = same_count waits_not alts.is_star view_alt_arm alt_star 0 arms

pub pick_counted : (arms : List code_pick_arm.PickArm)
    → count_by picks.is_star (heads_of (map view_pick_arm arms)) ≡ count_by names_none arms
pick_counted arms = same_count names_none picks.is_star view_pick_arm pick_star 0 arms

pub one_star : (arms : List code_alt_arm.AltArm) (n : ℕ) → n ≡ count_by waits_not arms
    → IsTrue (leb n 1) ↔ HasOneStar (heads_of (map view_alt_arm arms))
one_star arms n e =
    let s : count_by alts.is_star (heads_of (map view_alt_arm arms)) ≡ n = alt_counted arms ∙ sym e in (
      λ t. subst (λ (k : ℕ). k ≤ 1) (sym s) (leb-true n 1 t),
      λ h. le-leb n 1 (subst (λ (k : ℕ). k ≤ 1) s h),
    )

-- ---- variants

-- the variants of one more arm
pub one_arm_more : (arms : List code_pick_arm.PickArm) (a : code_pick_arm.PickArm)
    → all_variants (heads_of (map view_pick_arm (arms ++ a ∷ []))) ≡ all_variants (heads_of (map view_pick_arm arms)) ++ a.variants.items
one_arm_more [] a =
    append-nil (view_pick_arm a).head.variants ∙ ap (λ (v : Arm PickHead). v.head.variants) (view_pick_arm-out a)
one_arm_more (b ∷ arms) a =
    ap (λ (vs : List ℕ). (view_pick_arm b).head.variants ++ vs) (one_arm_more arms a)
    ∙ sym (append_assoc (view_pick_arm b).head.variants (all_variants (heads_of (map view_pick_arm arms))) a.variants.items)

single : ℕ → Label ℕ
single n = record { low = n; high = n }

pub more_variants : (arms : List code_pick_arm.PickArm) (i : ℕ) (a : code_pick_arm.PickArm) (now later : List (Label ℕ)) (vs : List ℕ)
    → a ≡ get_or arms i a → i < length arms → vs ≡ a.variants.items → later ≡ now ++ singles vs
    → now ≡ singles (all_variants (heads_of (map view_pick_arm (take i arms))))
    → later ≡ singles (all_variants (heads_of (map view_pick_arm (take (i + 1) arms))))
unfolding single
more_variants arms i a now later vs is l same p h =
    let before = all_variants (heads_of (map view_pick_arm (take i arms))) in
    p ∙ ap (λ (ls : List (Label ℕ)). ls ++ singles vs) h ∙ ap (λ (ws : List ℕ). singles before ++ singles ws) same
    ∙ sym (map-append single before a.variants.items)
    ∙ ap singles
    (sym (one_arm_more (take i arms) a)
    ∙ ap (λ (zs : List code_pick_arm.PickArm). all_variants (heads_of (map view_pick_arm zs)))
    (ap (λ (z : code_pick_arm.PickArm). take i arms ++ z ∷ []) is ∙ sym (take_more arms i a l)))

-- ---- numbers that stand once

single_at : (ns : List ℕ) (i n : ℕ) → slice_get ns i ≡ Some n → slice_get (singles ns) i ≡ Some (single n)
unfolding single
single_at ns i n h = slice_get-map single ns i ∙ ap (λ (o : Option ℕ). option_map single o) h

at_single : (ns : List ℕ) (i : ℕ) (l : Label ℕ) → slice_get (singles ns) i ≡ Some l → (n : ℕ) × (slice_get ns i ≡ Some n) × (single n ≡ l)
unfolding single
at_single ns i l h = go (slice_get ns i) refl (sym (slice_get-map single ns i) ∙ h)
  where
    go : (o : Option ℕ) → slice_get ns i ≡ o → option_map single o ≡ Some l → (n : ℕ) × (slice_get ns i ≡ Some n) × (single n ≡ l)
    go None e g = absurd (none-some l g)
    go (Some n) e g = (n, e, same_Some (single n) l g)

itself : (n : ℕ) → IsTrue (is_le (nat_cmp n n))
itself n = ap is_le (sym (nat_cmp_is n n Equal refl))

below_or : (i j : ℕ) → (i < j) ⊎ ((i ≡ j) ⊎ (j < i))
below_or i j = grind arith

apart_once : (ns : List ℕ) → ((i j : ℕ) → OverlapsAt (AtMost nat_cmp) (singles ns) i j → ⊥) → AreOnce ns
unfolding single
apart_once ns apart i j n h k = elim (below_or i j) [
  | inl l ↦ absurd (twice i j n l h k)
  | inr (inl e) ↦ e
  | inr (inr l) ↦ absurd (twice j
      i n l k h)
]
  where
    twice : (i j n : ℕ) → i < j → slice_get ns i ≡ Some n → slice_get ns j ≡ Some n → ⊥
    twice i j n l h k =
        apart i j (record {
          before = l;
          label = single n;
          stands = single_at ns i n h;
          other = single n;
          stands_later = single_at ns j n k;
          overlap =
              record {
                value = n;
                fits = record { low = itself n; high = itself n };
                fits_too = record { low = itself n; high = itself n };
              };
        })

once_apart : (ns : List ℕ) → AreOnce ns → (i j : ℕ) → OverlapsAt (AtMost nat_cmp) (singles ns) i j → ⊥
unfolding single
once_apart ns once i j o =
    let a = at_single ns i o.label o.stands in
    let b = at_single ns j o.other o.stands_later in
    let x = o.overlap.value in
    let p : a.0 ≤ x = le_from_is_le a.0 x (subst (λ (l : Label ℕ). AtMost nat_cmp l.low x) (sym a.2) o.overlap.fits.low) in
    let q : x ≤ a.0 = le_from_is_le x a.0 (subst (λ (l : Label ℕ). AtMost nat_cmp x l.high) (sym a.2) o.overlap.fits.high) in
    let r : b.0 ≤ x = le_from_is_le b.0 x (subst (λ (l : Label ℕ). AtMost nat_cmp l.low x) (sym b.2) o.overlap.fits_too.low) in
    let s : x ≤ b.0 = le_from_is_le x b.0 (subst (λ (l : Label ℕ). AtMost nat_cmp x l.high) (sym b.2) o.overlap.fits_too.high) in
    let e : b.0 ≡ a.0 = omega arith in
    let m : i ≡ j = once i j a.0 a.1 (b.1 ∙ ap (λ (z : ℕ). let w : Option ℕ = Some z in w) e) in
    let l : i < j = o.before in
    absurd (omega arith)

pub once_found : (ns : List ℕ) (ls : List (Label ℕ)) (o : Option (ℕ × ℕ)) (b : Bool) → ls ≡ singles ns → Finds (AtMost nat_cmp) ls o
    → is_some o ≡ not b → IsTrue b ↔ AreOnce ns
once_found ns ls o b e h t = go o b (subst (λ (zs : List (Label ℕ)). Finds (AtMost nat_cmp) zs o) e h) t
  where
    go : (o : Option (ℕ × ℕ)) (b : Bool) → Finds (AtMost nat_cmp) (singles ns) o → is_some o ≡ not b → IsTrue b ↔ AreOnce ns
    go None true h t = (λ t. apart_once ns h, λ a. refl)
    go None false h t = absurd (false≢true t)
    go (Some pair) true h t = absurd (false≢true (sym t))
    go (Some pair) false h t = (λ t. absurd (false≢true t), λ a. absurd (once_apart ns a pair.0 pair.1 h.overlaps))

pub picked_once : (arms : List code_pick_arm.PickArm) (n : ℕ) → n ≡ count_by names_none arms
    → AreOnce (all_variants (heads_of (map view_pick_arm arms))) → IsTrue (leb n 1) ↔ PickOnce (heads_of (map view_pick_arm arms))
picked_once arms n e once =
    let s : count_by picks.is_star (heads_of (map view_pick_arm arms)) ≡ n = pick_counted arms ∙ sym e in (
      λ t. record { once = once; one_star = subst (λ (k : ℕ). k ≤ 1) (sym s) (leb-true n 1 t) },
      λ h. le-leb n 1 (subst (λ (k : ℕ). k ≤ 1) s h.one_star),
    )
