-- Labels of all patterns, and those of them that are numbers and strings.
use Rattle.std.proofs.Common.{◌≡◌, refl, sym, ap, ◌∙◌, subst, ℕ, zero, suc, ◌+◌, ◌<◌, ◌≤◌, Bool, true, false, List, [], ◌∷◌, ◌++◌, length}
use Rattle.std.proofs.Common.{Option, None, Some, map, take, get_or, cond, arith}
use Rattle.std.specs.Prelude.{ℤ, ◌≤ℤ◌, ◌↔◌, IsTrue, slice_get, count_by, not}
use Rattle.std.specs.Borrow.{Bor}
use Rattle.std.specs.List.{fold, filter_map, cons_option}
use Rattle.std.specs.Option.{is_some}
use Rattle.std.proofs.lemmas.Bool.{false≢true}
use Rattle.std.proofs.lemmas.List.{take_more, append_assoc, append-nil, map-append}
use Rattle.std.proofs.lemmas.List.Elements.{filter_map-append}
use Rattle.std.proofs.lemmas.Option.{none-some, same_Some}
use Rattle.limbo_cases.specs.declared.label.Label.{Label}
use Rattle.limbo_cases.specs.Labels.{Apart, Fits, Finds}
use Rattle.limbo_cases.specs.Texts.{TextAtMost}
use Rattle.limbo_typed.specs.declared.stmt.Constant.{Constant}
use Rattle.limbo_typed.specs.declared.stmt.Constant.TheVariants as constant
use Rattle.limbo_typed.specs.declared.stmt.CasePattern.{CasePattern}
use Rattle.limbo_typed.specs.declared.stmt.CasePattern.TheVariants as case
use Rattle.limbo_typed.specs.declared.stmt.CaseArm as code_case_arm
use Rattle.limbo_typed.specs.View.{Arm, view_case_arm, heads_of}
use Rattle.limbo_typed.proofs.View.{view_case_arm-out}
use Rattle.limbo_stmt_values.specs.limbo_stating.Cases.{all_patterns, labels, AtMost, is_star, AreApart}
use Rattle.limbo_heads.specs.Labels.{number_in, text_in, label_of, label_in}

-- ---- what some of a list give, by places

-- two places of a list, one before the other
pub record Two {A : Type 0} (xs : List A) (x y : A) : Type 0 where
  pub first : ℕ
  pub second : ℕ
  pub before : first < second
  pub there : slice_get xs first ≡ Some x
  pub then : slice_get xs second ≡ Some y

later : {A : Type 0} (xs : List A) (x y z : A) → Two xs x y → Two (z ∷ xs) x y
later xs x y z t = let b : t.first < t.second = t.before in record {
  first = suc t.first;
  second = suc t.second;
  before = omega arith;
  there = t.there;
  then = t.then;
}

module _ {A B : Type 0} (f : A → Option B) where
  -- where one is given
  one_given : (xs : List A) (i : ℕ) (x : A) (y : B) → slice_get xs i ≡ Some x → f x ≡ Some y
      → (k : ℕ) × (slice_get (filter_map f xs) k ≡ Some y)
  one_given [] i x y h e = absurd cc
  one_given (z ∷ xs) zero x y h e =
      (0, ap (λ (o : Option B). slice_get (cons_option o (filter_map f xs)) 0) (ap f (same_Some z x h) ∙ e))
  one_given (z ∷ xs) (suc i) x y h e = let r = one_given xs i x y h e in go (f z) r.0 r.1
    where
      go : (o : Option B) (k : ℕ) → slice_get (filter_map f xs) k ≡ Some y
          → (j : ℕ) × (slice_get (cons_option o (filter_map f xs)) j ≡ Some y)
      go None k r = (k, r)
      go (Some b) k r = (suc k, r)

  pub two_given : (xs : List A) (i j : ℕ) (x w : A) (y z : B) → i < j → slice_get xs i ≡ Some x → slice_get xs j ≡ Some w → f x ≡ Some y
      → f w ≡ Some z → Two (filter_map f xs) y z
  two_given [] i j x w y z l h g d e = absurd cc
  two_given (a ∷ xs) i zero x w y z l h g d e = absurd (omega arith)
  two_given (a ∷ xs) zero (suc j) x w y z l h g d e =
      let r = one_given xs j w z g e in
      subst (λ (o : Option B). Two (cons_option o (filter_map f xs)) y z) (sym (ap f (same_Some a x h) ∙ d))
      (record { first = 0; second = suc r.0; before = omega arith; there = refl; then = r.1 })
  two_given (a ∷ xs) (suc i) (suc j) x w y z l h g d e = go (f a) (two_given xs i j x w y z (omega arith) h g d e)
    where
      go : (o : Option B) → Two (filter_map f xs) y z → Two (cons_option o (filter_map f xs)) y z
      go None t = t
      go (Some b) t = later (filter_map f xs) y z b t

  -- where what is given comes from
  one_from : (xs : List A) (k : ℕ) (y : B) → slice_get (filter_map f xs) k ≡ Some y
      → (i : ℕ) × (x : A) × (slice_get xs i ≡ Some x) × (f x ≡ Some y)
  one_from [] k y h = absurd cc
  one_from (a ∷ xs) k y h = go (f a) k refl h (λ m g. one_from xs m y g)
    where
      go : (o : Option B) (k : ℕ) → f a ≡ o → slice_get (cons_option o (filter_map f xs)) k ≡ Some y
          → ((m : ℕ) → slice_get (filter_map f xs) m ≡ Some y → (i : ℕ) × (x : A) × (slice_get xs i ≡ Some x) × (f x ≡ Some y))
          → (i : ℕ) × (x : A) × (slice_get (a ∷ xs) i ≡ Some x) × (f x ≡ Some y)
      go None k e h rest = let r = rest k h in (suc r.0, r.1, r.2, r.3)
      go (Some b) zero e h rest = (0, a, refl, e ∙ h)
      go (Some b) (suc k) e h rest = let r = rest k h in (suc r.0, r.1, r.2, r.3)

  pub two_from : (xs : List A) (k m : ℕ) (y z : B) → k < m → slice_get (filter_map f xs) k ≡ Some y → slice_get (filter_map f xs) m ≡ Some z
      → (x : A) × (w : A) × Two xs x w × (f x ≡ Some y) × (f w ≡ Some z)
  two_from [] k m y z l h g = absurd cc
  two_from (a ∷ xs) k m y z l h g = go (f a) k m refl l h g (λ i j b d e. two_from xs i j y z b d e)
    where
      go : (o : Option B) (k m : ℕ) → f a ≡ o → k < m → slice_get (cons_option o (filter_map f xs)) k ≡ Some y
          → slice_get (cons_option o (filter_map f xs)) m ≡ Some z
          → ((i j : ℕ) → i < j → slice_get (filter_map f xs) i ≡ Some y → slice_get (filter_map f xs) j ≡ Some z
          → (x : A) × (w : A) × Two xs x w × (f x ≡ Some y) × (f w ≡ Some z))
          → (x : A) × (w : A) × Two (a ∷ xs) x w × (f x ≡ Some y) × (f w ≡ Some z)
      go None k m e l h g rest = let r = rest k m l h g in (r.0, r.1, later xs r.0 r.1 a r.2, r.3, r.4)
      go (Some b) k zero e l h g rest = absurd (omega arith)
      go (Some b) zero (suc m) e l h g rest =
          let r = one_from xs m z g in
          (a, r.1, record { first = 0; second = suc r.0; before = omega arith; there = refl; then = r.2 }, e ∙ h, r.3)
      go (Some b) (suc k) (suc m) e l h g rest =
          let r = rest k m (omega arith) h g in (r.0, r.1, later xs r.0 r.1 a r.2, r.3, r.4)

-- ---- labels

-- the label that a pattern is, of whatever constants
abbrev whole : CasePattern → Option (Label Constant)
whole p = label_in (λ v. Some v) p

all_labels : (ps : List CasePattern) → filter_map whole ps ≡ labels ps
all_labels [] = refl
all_labels (case.One v ∷ ps) = ap (λ (ls : List (Label Constant)). (record { low = v; high = v }) ∷ ls) (all_labels ps)
all_labels (case.Range v w ∷ ps) = ap (λ (ls : List (Label Constant)). (record { low = v; high = w }) ∷ ls) (all_labels ps)
all_labels (case.Any ∷ ps) = all_labels ps

abbrev lab : {A : Type 0} → A → A → Label A
lab a b = record { low = a; high = b }

-- What is asked of a kind of constants: numbers, or strings.
pub record Kind (B : Type 0) : Type 1 where
  pub known : Constant → Option B
  pub is : B → Constant
  pub below : B → B → Type 0
  pub known_is : (b : B) → known (is b) ≡ Some b
  pub is_known : (v : Constant) (b : B) → known v ≡ Some b → v ≡ is b
  pub above : (v : Constant) (b : B) → AtMost v (is b) → (a : B) × (v ≡ is a) × below a b
  pub under : (v : Constant) (b : B) → AtMost (is b) v → (a : B) × (v ≡ is a) × below b a
  pub at_most : (a b : B) → below a b → AtMost (is a) (is b)

module _ {B : Type 0} (k : Kind B) where
  of_ends : (v w : Constant) (l : Label B) → label_of (k.known v) (k.known w) ≡ Some l → (v ≡ k.is l.low) × (w ≡ k.is l.high)
  of_ends v w l h = go (k.known v) (k.known w) refl refl h
    where
      go : (o p : Option B) → k.known v ≡ o → k.known w ≡ p → label_of o p ≡ Some l → (v ≡ k.is l.low) × (w ≡ k.is l.high)
      go None p e f h = absurd (none-some l h)
      go (Some a) None e f h = absurd (none-some l h)
      go (Some a) (Some b) e f h =
          let s : lab a b ≡ l = same_Some (lab a b) l h in
          (k.is_known v a e ∙ ap (λ (m : Label B). k.is m.low) s, k.is_known w b f ∙ ap (λ (m : Label B). k.is m.high) s)

  -- a pattern whose ends are of the kind is a label of constants
  to_whole : (p : CasePattern) (l : Label B) → label_in k.known p ≡ Some l → whole p ≡ Some (lab (k.is l.low) (k.is l.high))
  to_whole (case.One v) l h =
      let e = of_ends v v l h in
      ap (λ (z : Constant). Some (lab z v)) e.0 ∙ ap (λ (z : Constant). Some (lab (k.is l.low) z)) e.1
  to_whole (case.Range v w) l h =
      let e = of_ends v w l h in
      ap (λ (z : Constant). Some (lab z w)) e.0 ∙ ap (λ (z : Constant). Some (lab (k.is l.low) z)) e.1
  to_whole case.Any l h = absurd (none-some l h)

  ends_known : (v w : Constant) (l : Label B) → Some (lab v w) ≡ Some (lab (k.is l.low) (k.is l.high))
      → label_of (k.known v) (k.known w) ≡ Some l
  ends_known v w l h =
      let s : lab v w ≡ lab (k.is l.low) (k.is l.high) = same_Some (lab v w) (lab (k.is l.low) (k.is l.high)) h in
      ap (λ (m : Label Constant). label_of (k.known m.low) (k.known m.high)) s
      ∙ ap (λ (o : Option B). label_of o (k.known (k.is l.high))) (k.known_is l.low)
      ∙ ap (λ (o : Option B). label_of (Some l.low) o) (k.known_is l.high)

  -- and back
  of_whole : (p : CasePattern) (l : Label B) → whole p ≡ Some (lab (k.is l.low) (k.is l.high)) → label_in k.known p ≡ Some l
  of_whole (case.One v) l h = ends_known v v l h
  of_whole (case.Range v w) l h = ends_known v w l h
  of_whole case.Any l h = absurd (none-some (lab (k.is l.low) (k.is l.high)) h)

  -- a label that a value of the kind fits has such ends
  fitting : (a : Label Constant) (v : B) → Fits AtMost a (k.is v)
      → (l : Label B) × (a ≡ lab (k.is l.low) (k.is l.high)) × Fits k.below l v
  fitting a v f =
      let x = k.above a.low v f.low in
      let y = k.under a.high v f.high in (
        lab x.0 y.0,
        ap (λ (z : Constant). lab z a.high) x.1 ∙ ap (λ (z : Constant). lab (k.is x.0) z) y.1,
        record { low = x.2; high = y.2 },
      )

  fits_whole : (l : Label B) (v : B) → Fits k.below l v → Fits AtMost (lab (k.is l.low) (k.is l.high)) (k.is v)
  fits_whole l v f = record { low = k.at_most l.low v f.low; high = k.at_most v l.high f.high }

  -- Where labels are apart, so are those of the kind.
  pub kind_apart : (ps : List CasePattern) → Apart AtMost (labels ps) → Apart k.below (filter_map (label_in k.known) ps)
  kind_apart ps apart i j o =
      let r = two_from (label_in k.known) ps i j o.label o.other o.before o.stands o.stands_later in
      let a = lab (k.is o.label.low) (k.is o.label.high) in
      let b = lab (k.is o.other.low) (k.is o.other.high) in
      let t : Two (labels ps) a b =
      subst (λ (ls : List (Label Constant)). Two ls a b) (all_labels ps)
      (two_given whole ps r.2.first r.2.second r.0 r.1 a b r.2.before r.2.there r.2.then (to_whole r.0 o.label r.3)
      (to_whole r.1 o.other r.4)) in
      let v = o.overlap.value in
      apart t.first t.second (record {
        before = t.before;
        label = a;
        stands = t.there;
        other = b;
        stands_later = t.then;
        overlap =
            record {
              value = k.is v;
              fits = fits_whole o.label v o.overlap.fits;
              fits_too = fits_whole o.other v o.overlap.fits_too;
            };
      })

  -- Where those of the kind are apart, no value of the kind fits two labels.
  pub none_fits_two : (ps : List CasePattern) → Apart k.below (filter_map (label_in k.known) ps) → (i j : ℕ) (a b : Label Constant) (v : B)
      → i < j → slice_get (labels ps) i ≡ Some a → slice_get (labels ps) j ≡ Some b → Fits AtMost a (k.is v) → Fits AtMost b (k.is v) → ⊥
  none_fits_two ps apart i j a b v l h g f e =
      let x = fitting a v f in
      let y = fitting b v e in
      let back : filter_map whole ps ≡ labels ps = all_labels ps in
      let r =
      two_from whole ps i j a b l (subst (λ (ls : List (Label Constant)). slice_get ls i ≡ Some a) (sym back) h)
      (subst (λ (ls : List (Label Constant)). slice_get ls j ≡ Some b) (sym back) g) in
      let some = λ (z : Label Constant). let o : Option (Label Constant) = Some z in o in
      let t : Two (filter_map (label_in k.known) ps) x.0 y.0 =
      two_given (label_in k.known) ps r.2.first r.2.second r.0 r.1 x.0 y.0 r.2.before r.2.there r.2.then
      (of_whole r.0 x.0 (r.3 ∙ ap some x.1)) (of_whole r.1 y.0 (r.4 ∙ ap some y.1)) in
      apart t.first t.second (record {
        before = t.before;
        label = x.0;
        stands = t.there;
        other = y.0;
        stands_later = t.then;
        overlap = record { value = v; fits = x.2; fits_too = y.2 };
      })

-- ---- numbers and strings

pub number_is : (v : Constant) (b : ℤ) → number_in v ≡ Some b → v ≡ constant.Number b
number_is (constant.Number n) b h = ap constant.Number (same_Some n b h)
number_is (constant.Chars s) b h = absurd (none-some b h)

pub number_above : (v : Constant) (b : ℤ) → AtMost v (constant.Number b) → (a : ℤ) × (v ≡ constant.Number a) × (a ≤ℤ b)
number_above (constant.Number n) b h = (n, refl, h)
number_above (constant.Chars s) b h = absurd h

pub number_under : (v : Constant) (b : ℤ) → AtMost (constant.Number b) v → (a : ℤ) × (v ≡ constant.Number a) × (b ≤ℤ a)
number_under (constant.Number n) b h = (n, refl, h)
number_under (constant.Chars s) b h = absurd h

abbrev pub numbers : Kind ℤ
numbers = record {
  known = number_in;
  is = constant.Number;
  below = ◌≤ℤ◌;
  known_is = λ b. refl;
  is_known = number_is;
  above = number_above;
  under = number_under;
  at_most = λ a b h. h;
}

pub text_is : (v : Constant) (b : List ℕ) → text_in v ≡ Some b → v ≡ constant.Chars b
text_is (constant.Number n) b h = absurd (none-some b h)
text_is (constant.Chars s) b h = ap constant.Chars (same_Some s b h)

pub text_above : (v : Constant) (b : List ℕ) → AtMost v (constant.Chars b) → (a : List ℕ) × (v ≡ constant.Chars a) × TextAtMost a b
text_above (constant.Number n) b h = absurd h
text_above (constant.Chars s) b h = (s, refl, h)

pub text_under : (v : Constant) (b : List ℕ) → AtMost (constant.Chars b) v → (a : List ℕ) × (v ≡ constant.Chars a) × TextAtMost b a
text_under (constant.Number n) b h = absurd h
text_under (constant.Chars s) b h = (s, refl, h)

abbrev pub texts : Kind (List ℕ)
texts = record {
  known = text_in;
  is = constant.Chars;
  below = TextAtMost;
  known_is = λ b. refl;
  is_known = text_is;
  above = text_above;
  under = text_under;
  at_most = λ a b h. h;
}

-- Labels are apart where those are that are numbers, and those that are strings.
pub both_apart : (ps : List CasePattern) → Apart ◌≤ℤ◌ (filter_map (label_in number_in) ps)
    → Apart TextAtMost (filter_map (label_in text_in) ps) → Apart AtMost (labels ps)
both_apart ps m n i j o = go o.overlap.value o.overlap.fits o.overlap.fits_too
  where
    go : (v : Constant) → Fits AtMost o.label v → Fits AtMost o.other v → ⊥
    go (constant.Number v) f g = none_fits_two numbers ps m i j o.label o.other v o.before o.stands o.stands_later f g
    go (constant.Chars v) f g = none_fits_two texts ps n i j o.label o.other v o.before o.stands o.stands_later f g

-- ---- as the code finds them

abbrev Patterns : Type 0
Patterns = List (Bor CasePattern)

abbrev seen : Patterns → List CasePattern
seen ps = map (λ p. p.now) ps

pub one_pattern_more : {A : Type 0} (f : CasePattern → Option A) (ps : Patterns) (i : ℕ) (p : Bor CasePattern) (now later : List A)
    → p ≡ get_or ps i p → i < length ps → later ≡ now ++ filter_map f (p.now ∷ []) → now ≡ filter_map f (seen (take i ps))
    → later ≡ filter_map f (seen (take (i + 1) ps))
one_pattern_more {A} f ps i p now later is l e h =
    e ∙ ap (λ (xs : List A). xs ++ filter_map f (p.now ∷ [])) h ∙ sym (filter_map-append f (seen (take i ps)) (p.now ∷ []))
    ∙ ap (filter_map f)
    (sym (map-append (λ (q : Bor CasePattern). q.now) (take i ps) (p ∷ []))
    ∙ ap seen (ap (λ (q : Bor CasePattern). take i ps ++ q ∷ []) is ∙ sym (take_more ps i p l)))

one_arm_more : (arms : List code_case_arm.CaseArm) (a : code_case_arm.CaseArm)
    → all_patterns (heads_of (map view_case_arm (arms ++ a ∷ []))) ≡ all_patterns (heads_of (map view_case_arm arms)) ++ a.patterns.items
one_arm_more [] a = append-nil (view_case_arm a).head ∙ ap (λ (v : Arm (List CasePattern)). v.head) (view_case_arm-out a)
one_arm_more (b ∷ arms) a =
    ap (λ (ps : List CasePattern). (view_case_arm b).head ++ ps) (one_arm_more arms a)
    ∙ sym (append_assoc (view_case_arm b).head (all_patterns (heads_of (map view_case_arm arms))) a.patterns.items)

pub more_patterns : (arms : List code_case_arm.CaseArm) (i : ℕ) (a : code_case_arm.CaseArm) (now later : Patterns) (ps : List CasePattern)
    → a ≡ get_or arms i a → i < length arms → ps ≡ a.patterns.items → seen later ≡ seen now ++ ps
    → seen now ≡ all_patterns (heads_of (map view_case_arm (take i arms)))
    → seen later ≡ all_patterns (heads_of (map view_case_arm (take (i + 1) arms)))
more_patterns arms i a now later ps is l same p h =
    p ∙ ap (λ (qs : List CasePattern). qs ++ ps) h
    ∙ ap (λ (qs : List CasePattern). all_patterns (heads_of (map view_case_arm (take i arms))) ++ qs) same
    ∙ sym (one_arm_more (take i arms) a)
    ∙ ap (λ (zs : List code_case_arm.CaseArm). all_patterns (heads_of (map view_case_arm zs)))
    (ap (λ (z : code_case_arm.CaseArm). take i arms ++ z ∷ []) is ∙ sym (take_more arms i a l))

-- Labels are found to overlap, or to be apart.
pub found_apart : {A : Type 0} (R : A → A → Type 0) (ls found : List (Label A)) (o : Option (ℕ × ℕ)) (b : Bool) → ls ≡ found
    → Finds R ls o → is_some o ≡ not b → IsTrue b ↔ Apart R found
found_apart {A} R ls found o b e h t = go o b (subst (λ (zs : List (Label A)). Finds R zs o) e h) t
  where
    go : (o : Option (ℕ × ℕ)) (b : Bool) → Finds R found o → is_some o ≡ not b → IsTrue b ↔ Apart R found
    go None true h t = (λ t. h, λ a. refl)
    go None false h t = absurd (false≢true t)
    go (Some pair) true h t = absurd (false≢true (sym t))
    go (Some pair) false h t = (λ t. absurd (false≢true t), λ a. absurd (a pair.0 pair.1 h.overlaps))

seen_count : (n : ℕ) (ps : Patterns) → fold (λ m p. m + cond (is_star p) 1 0) n (seen ps)
    ≡ fold (λ m p. m + cond (is_star p.now) 1 0) n ps
seen_count n [] = refl
seen_count n (p ∷ ps) = seen_count (n + cond (is_star p.now) 1 0) ps

-- All that is asked of the labels of a `case`.
pub all_apart : (heads : List (List CasePattern)) (ps : Patterns) (m n all : Bool) (stars : ℕ)
    → seen ps ≡ all_patterns heads → IsTrue m ↔ Apart ◌≤ℤ◌ (filter_map (label_in number_in) (seen ps))
    → IsTrue n ↔ Apart TextAtMost (filter_map (label_in text_in) (seen ps)) → stars ≡ count_by (λ p. is_star p.now) ps
    → IsTrue all ↔ (IsTrue m × IsTrue n × (stars ≤ 1)) → IsTrue all ↔ AreApart heads
all_apart heads ps m n all stars e f g h i =
    let counted : count_by is_star (all_patterns heads) ≡ stars =
    ap (count_by is_star) (sym e) ∙ seen_count 0 ps ∙ sym h in (
      λ t.
          let w = i.0 t in
          record {
            apart = subst (λ (zs : List CasePattern). Apart AtMost (labels zs)) e (both_apart (seen ps) (f.0 w.0) (g.0 w.1));
            one_star = subst (λ (k : ℕ). k ≤ 1) (sym counted) w.2;
          },
      λ w.
          let apart : Apart AtMost (labels (seen ps)) = subst (λ (zs : List CasePattern). Apart AtMost (labels zs)) (sym e) w.apart in
          i.1
          (f.1 (kind_apart numbers (seen ps) apart), g.1 (kind_apart texts (seen ps) apart), subst (λ (k : ℕ). k ≤ 1) counted w.one_star),
    )
