-- Declarations that are counted one after the other.
use Rattle.std.proofs.Common.{◌≡◌, ◌+◌, ◌<◌, ◌∷◌, ◌++◌, ◌==◌, ◌&&◌, ◌||◌, [], ℕ, List, None, Some, Bool, true, false, cond, length, slice_get, count_by, add-zero, inl, inr, ◌^◌, rules, tests, refl, sym, ap, subst, ◌∙◌, arith}
use Rattle.std.proofs.Math.ListN.{set}
use Rattle.std.proofs.lemmas.List.Sums.{count_by-le-length, sum_by-append, sum_by-cons}
use Rattle.std.specs.List.{sum_by}
use Rattle.std.proofs.lemmas.Option.{slice_get_within}
use Rattle.limbo_declarations.specs.Rows as rows
use Rattle.limbo_declarations.specs.Rows.{Declared}
use Rattle.limbo_entries.specs.Entries.{Entry}
use Rattle.limbo_naming.specs.Naming.{is_adt, is_module, is_variant}
use Rattle.limbo_naming.proofs.Lists.{set_cases, stands_push, filled}
use Rattle.limbo_type_names.specs.declared.numbers.Counts.{Counts}
use Rattle.limbo_type_names.specs.Numbers.{are_alike, is_inside, number_of, AreNumbers}
use Rattle.limbo_type_names.specs.Counts.{AreCounts, CountsOn, HasRoom, is_adt_entry, is_module_entry, is_variant_in}

-- 1 where a test holds
abbrev one_if : (Entry → Bool) → Entry → ℕ
one_if p x = cond (p x) 1 0

-- one more at the end
count_more : (p : Entry → Bool) (xs : List Entry) (e : Entry) (n : ℕ) → one_if p e ≡ n → count_by p (xs ++ (e ∷ [])) ≡ count_by p xs + n
count_more p xs e n f =
    let a : sum_by (one_if p) (xs ++ (e ∷ [])) ≡ sum_by (one_if p) xs + sum_by (one_if p) (e ∷ []) = sum_by-append (one_if p) xs (e ∷ []) in
    let b : sum_by (one_if p) (e ∷ []) ≡ one_if p e + sum_by (one_if p) [] = sum_by-cons (one_if p) e [] in
    let z : sum_by (one_if p) [] ≡ 0 = refl in
    let g : sum_by (one_if p) (e ∷ []) ≡ n = b ∙ ap (λ k. one_if p e + k) z ∙ add-zero (one_if p e) ∙ f in
    a ∙ ap (λ k. sum_by (one_if p) xs + k) g

count_yes : (p : Entry → Bool) (xs : List Entry) (e : Entry) → p e ≡ true → count_by p (xs ++ (e ∷ [])) ≡ count_by p xs + 1
count_yes p xs e f = count_more p xs e 1 (ap (λ (b : Bool). let r : ℕ = cond b 1 0 in r) f)

count_no : (p : Entry → Bool) (xs : List Entry) (e : Entry) → p e ≡ false → count_by p (xs ++ (e ∷ [])) ≡ count_by p xs
count_no p xs e f = count_more p xs e 0 (ap (λ (b : Bool). let r : ℕ = cond b 1 0 in r) f) ∙ add-zero (count_by p xs)

-- by tests that are alike
count_same : (p q : Entry → Bool) → ((x : Entry) → p x ≡ q x) → (xs : List Entry) → count_by p xs ≡ count_by q xs
count_same p q f [] = refl
count_same p q f (x ∷ xs) =
    let h : sum_by (one_if p) xs ≡ sum_by (one_if q) xs = count_same p q f xs in
    let e : one_if p x ≡ one_if q x = ap (λ (b : Bool). let r : ℕ = cond b 1 0 in r) (f x) in
    sum_by-cons (one_if p) x xs ∙ ap (λ k. k + sum_by (one_if p) xs) e ∙ ap (λ k. one_if q x + k) h ∙ sym (sum_by-cons (one_if q) x xs)

or_false : (b : Bool) → (b || false) ≡ b
or_false true = refl
or_false false = refl

-- ---- which are counted, by what a declaration is

adts_alike : (e f : Entry) → is_adt e.row.means ≡ true → are_alike e f ≡ is_adt_entry f
adts_alike e f h = go e.row.means refl h
  where
    go : (d : Declared) → e.row.means ≡ d → is_adt d ≡ true → are_alike e f ≡ is_adt_entry f
    go (rows.Adt ms pick) i j = rw i (ap (λ b. b || false) (or_false (is_adt f.row.means)) ∙ or_false (is_adt f.row.means))
    go _ i j = absurd cc

modules_alike : (e f : Entry) → is_module e.row.means ≡ true → are_alike e f ≡ is_module_entry f
modules_alike e f h = go e.row.means refl h
  where
    go : (d : Declared) → e.row.means ≡ d → is_module d ≡ true → are_alike e f ≡ is_module_entry f
    go (rows.Module ms) i j = rw i (or_false (is_module f.row.means))
    go _ i j = absurd cc

variants_alike : (e f : Entry) (a : ℕ) → is_variant e.row.means ≡ true → e.within ≡ Some a → are_alike e f ≡ is_variant_in a f
variants_alike e f a h w = go e.row.means refl h
  where
    go : (d : Declared) → e.row.means ≡ d → is_variant d ≡ true → are_alike e f ≡ is_variant_in a f
    go (rows.Case fs) i j = rw (i, w) refl
    go _ i j = absurd cc

none_alike : (e f : Entry) → is_adt e.row.means ≡ false → is_module e.row.means ≡ false → is_variant e.row.means ≡ false → are_alike e f ≡ false
none_alike e f x y z = rw (x, y, z) refl

count_none : (xs : List Entry) → count_by (λ x. false) xs ≡ 0
count_none [] = refl
count_none (x ∷ xs) = sum_by-cons (one_if (λ x. false)) x xs ∙ ap (λ k. 0 + k) (count_none xs)

-- ---- one more is counted

module _ (e : Entry) (c d : Counts) where
  pub adt_on : is_adt e.row.means ≡ true → is_module e.row.means ≡ false → is_variant e.row.means ≡ false → d.adts ≡ c.adts + 1 → d.modules ≡ c.modules
      → d.variants.items ≡ c.variants.items → CountsOn e c c.adts d
  adt_on x y z i j k = λ before are. (
    are.adts ∙ sym (count_same (are_alike e) is_adt_entry (λ f. adts_alike e f x) before),
    record {
      adts = i ∙ ap (λ n. n + 1) are.adts ∙ sym (count_yes is_adt_entry before e x);
      modules = j ∙ are.modules ∙ sym (count_no is_module_entry before e y);
      variants = λ a n h. are.variants a n (subst (λ (w : List ℕ). slice_get w a ≡ Some n) k h) ∙ sym (count_no (is_variant_in a) before e (ap (λ b. b && is_inside (Some a) e.within) z));
    },
  )

  pub module_on : is_adt e.row.means ≡ false → is_module e.row.means ≡ true → is_variant e.row.means ≡ false → d.adts ≡ c.adts → d.modules ≡ c.modules + 1
      → d.variants.items ≡ c.variants.items → CountsOn e c c.modules d
  module_on x y z i j k = λ before are. (
    are.modules ∙ sym (count_same (are_alike e) is_module_entry (λ f. modules_alike e f y) before),
    record {
      adts = i ∙ are.adts ∙ sym (count_no is_adt_entry before e x);
      modules = j ∙ ap (λ n. n + 1) are.modules ∙ sym (count_yes is_module_entry before e y);
      variants = λ a n h. are.variants a n (subst (λ (w : List ℕ). slice_get w a ≡ Some n) k h) ∙ sym (count_no (is_variant_in a) before e (ap (λ b. b && is_inside (Some a) e.within) z));
    },
  )

  pub none_on : is_adt e.row.means ≡ false → is_module e.row.means ≡ false → is_variant e.row.means ≡ false → d ≡ c → CountsOn e c 0 d
  none_on x y z i = λ before are. (
    sym (count_same (are_alike e) (λ f. false) (λ f. none_alike e f x y z) before ∙ count_none before),
    subst (λ (w : Counts). AreCounts (before ++ (e ∷ [])) w) (sym i)
        (record {
          adts = are.adts ∙ sym (count_no is_adt_entry before e x);
          modules = are.modules ∙ sym (count_no is_module_entry before e y);
          variants = λ a n h. are.variants a n h ∙ sym (count_no (is_variant_in a) before e (ap (λ b. b && is_inside (Some a) e.within) z));
        }),
  )

-- ---- variants

variant_alone : (d : Declared) → is_variant d ≡ true → (is_adt d ≡ false) × (is_module d ≡ false)
variant_alone (rows.Case fs) i = (refl, refl)
variant_alone (rows.Adt ms pick) i = absurd cc
variant_alone (rows.Module ms) i = absurd cc
variant_alone _ i = absurd cc

and_false : (b : Bool) → (b && false) ≡ false
and_false true = refl
and_false false = refl

itself : (a : ℕ) → (a == a) ≡ true
itself a = search (rules, tests)

other : (a b : ℕ) → (a ≡ b → ⊥) → (a == b) ≡ false
other a b never = go (a == b) refl
  where
    go : (r : Bool) → (a == b) ≡ r → (a == b) ≡ false
    go true h = absurd (never (search (rules, tests, h)))
    go false h = h

top_alike : (e f : Entry) → is_variant e.row.means ≡ true → e.within ≡ None → are_alike e f ≡ false
top_alike e f h w =
    let x = variant_alone e.row.means h in
    rw (x.0, x.1, h, w) (and_false (is_variant f.row.means))

module _ (e : Entry) (c : Counts) where
  pub top_on : is_variant e.row.means ≡ true → e.within ≡ None → CountsOn e c 0 c
  top_on h w = λ before are.
      let x = variant_alone e.row.means h in (
        sym (count_same (are_alike e) (λ f. false) (λ f. top_alike e f h w) before ∙ count_none before),
        record {
          adts = are.adts ∙ sym (count_no is_adt_entry before e x.0);
          modules = are.modules ∙ sym (count_no is_module_entry before e x.1);
          variants = λ a n i. are.variants a n i ∙ sym (count_no (is_variant_in a) before e (ap (λ o. is_variant e.row.means && is_inside (Some a) o) w ∙ and_false (is_variant e.row.means)));
        },
      )

  pub variant_on : (d : Counts) (a n : ℕ) → is_variant e.row.means ≡ true → e.within ≡ Some a → slice_get c.variants.items a ≡ Some n → d.adts ≡ c.adts
      → d.modules ≡ c.modules → d.variants.items ≡ set c.variants.items a (n + 1) → CountsOn e c n d
  variant_on d a n h w there i j k = λ before are.
      let x = variant_alone e.row.means h in (
        are.variants a n there ∙ sym (count_same (are_alike e) (is_variant_in a) (λ f. variants_alike e f a h w) before),
        record {
          adts = i ∙ are.adts ∙ sym (count_no is_adt_entry before e x.0);
          modules = j ∙ are.modules ∙ sym (count_no is_module_entry before e x.1);
          variants = λ b v s. elim (set_cases c.variants.items a b (n + 1) v (subst (λ (z : List ℕ). slice_get z b ≡ Some v) k s)) [
            | inl y ↦ are.variants b v y.0 ∙ sym (count_no (is_variant_in b) before e (ap (λ o. is_variant e.row.means && is_inside (Some b) o) w ∙ ap (λ t. is_variant e.row.means && t) (other b a y.1) ∙ and_false (is_variant e.row.means)))
            | inr y ↦
                sym y.1 ∙ ap (λ t. t + 1) (are.variants a n there)
                ∙ sym (count_yes (is_variant_in a) before e (ap (λ o. is_variant e.row.means && is_inside (Some a) o) w ∙ ap (λ t. is_variant e.row.means && t) (itself a) ∙ ap (λ t. t && true) h))
                ∙ ap (λ t. count_by (is_variant_in t) (before ++ (e ∷ []))) (sym y.0)
          ];
        },
      )

-- ---- there is room for one more

pub has_room : (before : List Entry) (c : Counts) → AreCounts before c → length before + 1 < 2 ^ 32 → HasRoom c
has_room before c are l = record {
  adts = let a = are.adts in let b = count_by-le-length is_adt_entry before in omega arith;
  modules = let a = are.modules in let b = count_by-le-length is_module_entry before in omega arith;
  variants = λ a n h. let x = are.variants a n h in let b = count_by-le-length (is_variant_in a) before in omega arith;
}

-- ---- all are counted

pub one_numbered : (es : List Entry) (numbers : List ℕ) (i n : ℕ) (e : Entry) → length numbers ≡ i → slice_get es i ≡ Some e → n ≡ number_of es i e
    → ((k m : ℕ) (f : Entry) → slice_get numbers k ≡ Some m → slice_get es k ≡ Some f → m ≡ number_of es k f)
    → (k m : ℕ) (f : Entry) → slice_get (numbers ++ (n ∷ [])) k ≡ Some m → slice_get es k ≡ Some f → m ≡ number_of es k f
one_numbered es numbers i n e many there is before k m f h at = elim (stands_push numbers n k m h) [
  | inl x ↦ before k m f x at
  | inr x ↦
      let p : k ≡ i = x.0 ∙ many in
      let q : f ≡ e = let u = subst (λ (z : ℕ). slice_get es z ≡ Some f) p at in cc in
      sym x.1 ∙ is ∙ ap (λ z. number_of es i z) (sym q) ∙ ap (λ z. number_of es z f) (sym p)
]

pub all_numbered : (es : List Entry) (numbers : List ℕ) → length numbers ≡ length es
    → ((k m : ℕ) (f : Entry) → slice_get numbers k ≡ Some m → slice_get es k ≡ Some f → m ≡ number_of es k f) → AreNumbers es numbers
all_numbered es numbers many is k e at =
    let l = slice_get_within es k e at in
    let x = filled numbers k (omega arith) in
    x.1 ∙ ap Some (is k x.0 e x.1 at)
