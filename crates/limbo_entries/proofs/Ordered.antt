-- The order of a table, and that it has no other.
use Rattle.std.proofs.Common.{◌≡◌, ◌<◌, ◌≤◌, ◌+◌, ◌⊎◌, inl, inr, ℕ, zero, suc, List, [], ◌∷◌}
use Rattle.std.proofs.Common.{◌++◌, length, map, take, drop, Option, Some, None, refl, sym, ap, subst, ◌∙◌, arith}
use Rattle.std.specs.Prelude.{slice_get}
use Rattle.std.proofs.lemmas.Option.{none-some, same_Some, slice_get_within}
use Rattle.limbo_declarations.specs.Rows.{Row}
use Rattle.limbo_entries.specs.Entries.{Entry, IsEntry, inside, all_within, all_inside}
use Rattle.limbo_entries.proofs.Lists.{at_left, at_right, at_cases, mapped, from_mapped}

-- ---- lists

nothing_behind : {A : Type 0} (xs : List A) → xs ++ [] ≡ xs
nothing_behind [] = refl
nothing_behind (x ∷ xs) = ap (λ z. x ∷ z) (nothing_behind xs)

three : {A : Type 0} (xs ys zs : List A) → (xs ++ ys) ++ zs ≡ xs ++ (ys ++ zs)
three [] ys zs = refl
three (x ∷ xs) ys zs = ap (λ z. x ∷ z) (three xs ys zs)

take_one : {A : Type 0} (xs ys : List A) (n : ℕ) (x : A) → slice_get xs n ≡ Some x → take (suc n) (xs ++ ys) ≡ take n xs ++ x ∷ []
take_one [] ys n x h = absurd (none-some x h)
take_one (y ∷ xs) ys zero x h = ap (λ z. z ∷ []) (same_Some y x h)
take_one (y ∷ xs) ys (suc n) x h = ap (λ z. y ∷ z) (take_one xs ys n x h)

take_all : {A : Type 0} (xs : List A) (n : ℕ) → length xs ≤ n → take n xs ≡ xs
take_all [] zero l = refl
take_all [] (suc n) l = refl
take_all (x ∷ xs) zero l = absurd (omega arith)
take_all (x ∷ xs) (suc n) l = ap (λ z. x ∷ z) (take_all xs n (omega arith))

length_taken : {A : Type 0} (xs : List A) (n : ℕ) → n ≤ length xs → length (take n xs) ≡ n
length_taken [] zero l = refl
length_taken [] (suc n) l = absurd (omega arith)
length_taken (x ∷ xs) zero l = refl
length_taken (x ∷ xs) (suc n) l = ap suc (length_taken xs n (omega arith))

parted : {A : Type 0} (xs : List A) (n : ℕ) → xs ≡ take n xs ++ drop n xs
parted [] zero = refl
parted [] (suc n) = refl
parted (x ∷ xs) zero = refl
parted (x ∷ xs) (suc n) = ap (λ z. x ∷ z) (parted xs n)

-- ---- what stands inside declarations

inside_both : (b : ℕ) (xs ys : List Entry) → all_inside b (xs ++ ys) ≡ all_inside b xs ++ all_inside (b + length xs) ys
inside_both b [] ys = ap (λ (z : ℕ). all_inside z ys) (omega arith)
inside_both b (x ∷ xs) ys =
    ap (λ (z : List Entry). all_within (Some b) (inside x.row) ++ z)
    (inside_both (b + 1) xs ys ∙ ap (λ (z : ℕ). all_inside (b + 1) xs ++ all_inside z ys) (omega arith))
    ∙ sym (three (all_within (Some b) (inside x.row)) (all_inside (b + 1) xs) (all_inside (b + length (x ∷ xs)) ys))

inside_one : (b : ℕ) (xs : List Entry) (e : Entry)
    → all_inside b (xs ++ e ∷ []) ≡ all_inside b xs ++ all_within (Some (b + length xs)) (inside e.row)
inside_one b xs e =
    inside_both b xs (e ∷ [])
    ∙ ap (λ (z : List Entry). all_inside b xs ++ z) (nothing_behind (all_within (Some (b + length xs)) (inside e.row)))

-- what stands inside declarations from this number on has no smaller number around it
within_from : (b : ℕ) (es : List Entry) (m : ℕ) (e : Entry) → slice_get (all_inside b es) m ≡ Some e
    → (j : ℕ) × (e.within ≡ Some j) × (b ≤ j)
within_from b [] m e h = absurd (none-some e h)
within_from b (x ∷ es) m e h = elim (at_cases (all_within (Some b) (inside x.row)) (all_inside (b + 1) es) m e h) [
  | inl g ↦
      let f = from_mapped (λ (r : Row). record { within = Some b; row = r }) (inside x.row) m e g in
      (b, ap (λ (z : Entry). z.within) (sym f.2), omega arith)
  | inr g ↦ let f = within_from (b + 1) es g.0 e g.2 in (f.0, f.1, (let l = f.2 in omega arith))
]

-- where the block of a declaration begins
begins_at : (b : ℕ) (es : List Entry) (j : ℕ) (e : Entry) → slice_get es j ≡ Some e
    → (p : ℕ) × ((i : ℕ) (r : Row) → slice_get (inside e.row) i ≡ Some r → slice_get (all_inside b es) (p + i) ≡ Some (record { within = Some (b + j); row = r }))
begins_at b [] j e h = absurd (none-some e h)
begins_at b (x ∷ es) zero e h = (
  0,
  λ i r g.
      let s = same_Some x e h in
      let q = mapped (λ (r : Row). record { within = Some b; row = r }) (inside x.row) i r (subst (λ (z : Entry). slice_get (inside z.row) i ≡ Some r) (sym s) g) in
      let k : slice_get (all_inside b (x ∷ es)) i ≡ Some (record { within = Some b; row = r }) =
      at_left (all_within (Some b) (inside x.row)) (all_inside (b + 1) es) i (record { within = Some b; row = r }) q in
      let n : i ≡ 0 + i = omega arith in
      let m : b ≡ b + 0 = omega arith in
      subst (λ (z : ℕ). slice_get (all_inside b (x ∷ es)) z ≡ Some (record { within = Some (b + 0); row = r })) n
      (subst (λ (z : ℕ). slice_get (all_inside b (x ∷ es)) i ≡ Some (record { within = Some z; row = r })) m k),
)
begins_at b (x ∷ es) (suc j) e h =
    let f = begins_at (b + 1) es j e h in
    let own = all_within (Some b) (inside x.row) in (
      length own + f.0,
      λ i r g.
          let k = at_right own (all_inside (b + 1) es) (f.0 + i) (length own + f.0 + i) (record { within = Some (b + 1 + j); row = r }) (omega arith) (f.1 i r g) in
          let m : b + 1 + j ≡ b + suc j = omega arith in
          subst (λ (z : ℕ). slice_get (all_inside b (x ∷ es)) (length own + f.0 + i) ≡ Some (record { within = Some z; row = r })) m k,
    )

-- ---- a table that grows

pub none_yet : (es : List Entry) → es ≡ es ++ []
none_yet es = sym (nothing_behind es)

pub one_more : (top : List Row) (es : List Entry) (n : ℕ) (e : Entry) → IsEntry es n e
    → es ≡ all_within None top ++ all_inside 0 (take n es)
    → es ++ all_within (Some n) (inside e.row)
    ≡ all_within None top ++ all_inside 0 (take (n + 1) (es ++ all_within (Some n) (inside e.row)))
one_more top es n e there ordered =
    ap (λ (z : List Entry). z ++ all_within (Some n) (inside e.row)) ordered
    ∙ three (all_within None top) (all_inside 0 (take n es)) (all_within (Some n) (inside e.row))
    ∙ ap (λ (z : List Entry). all_within None top ++ z) (sym last)
  where
    many : length (take n es) ≡ n
    many = length_taken es n (let l = slice_get_within es n e there in omega arith)

    taken : (k : ℕ) → k ≡ n + 1 → take k (es ++ all_within (Some n) (inside e.row)) ≡ take n es ++ e ∷ []
        → take (n + 1) (es ++ all_within (Some n) (inside e.row)) ≡ take n es ++ e ∷ []
    taken k q h = subst (λ (z : ℕ). take z (es ++ all_within (Some n) (inside e.row)) ≡ take n es ++ e ∷ []) q h

    last : all_inside 0 (take (n + 1) (es ++ all_within (Some n) (inside e.row))) ≡ all_inside 0 (take n es) ++ all_within (Some n) (inside e.row)
    last =
        ap (λ (z : List Entry). all_inside 0 z) (taken (suc n) (omega arith) (take_one es (all_within (Some n) (inside e.row)) n e there))
        ∙ inside_one 0 (take n es) e
        ∙ ap (λ (z : ℕ). all_inside 0 (take n es) ++ all_within (Some z) (inside e.row)) (let l = many in omega arith)

pub all_of : (top : List Row) (es : List Entry) (n : ℕ) → length es ≤ n → es ≡ all_within None top ++ all_inside 0 (take n es)
    → es ≡ all_within None top ++ all_inside 0 es
all_of top es n l ordered = ordered ∙ ap (λ (z : List Entry). all_within None top ++ all_inside 0 z) (take_all es n l)

-- ---- one table

abbrev IsLess : List Entry → Type 0
IsLess es = (k : ℕ) (e : Entry) → IsEntry es k e → (j : ℕ) → e.within ≡ Some j → j < k

abbrev IsOrdered : List Row → List Entry → Type 0
IsOrdered top es = es ≡ all_within None top ++ all_inside 0 es

-- what comes next in one table comes next in the other
next_there : (top : List Row) (es fs : List Entry) (n : ℕ) (e : Entry) → IsOrdered top es → IsLess es → IsOrdered top fs
    → take n es ≡ take n fs → IsEntry es n e → IsEntry fs n e
next_there top es fs n e order less other same h =
    subst (λ (z : List Entry). IsEntry z n e) (sym other)
    (elim (at_cases (all_within None top) (all_inside 0 es) n e (subst (λ (z : List Entry). IsEntry z n e) order h)) [
      | inl g ↦ at_left (all_within None top) (all_inside 0 fs) n e g
      | inr g ↦ at_right (all_within None top) (all_inside 0 fs) g.0 n e g.1 (further g.0 g.2)
    ])
  where
    split : (xs : List Entry) → all_inside 0 xs ≡ all_inside 0 (take n xs) ++ all_inside (0 + length (take n xs)) (drop n xs)
    split xs = ap (λ (z : List Entry). all_inside 0 z) (parted xs n) ∙ inside_both 0 (take n xs) (drop n xs)

    many : length (take n es) ≡ n
    many = length_taken es n (let l = slice_get_within es n e h in omega arith)

    further : (m : ℕ) → slice_get (all_inside 0 es) m ≡ Some e → slice_get (all_inside 0 fs) m ≡ Some e
    further m g =
        elim (at_cases (all_inside 0 (take n es)) (all_inside (0 + length (take n es)) (drop n es)) m e (subst (λ (z : List Entry). slice_get z m ≡ Some e) (split es) g)) [
          | inl f ↦
              subst (λ (z : List Entry). slice_get z m ≡ Some e) (sym (split fs))
              (at_left (all_inside 0 (take n fs)) (all_inside (0 + length (take n fs)) (drop n fs)) m e
              (subst (λ (z : List Entry). slice_get (all_inside 0 z) m ≡ Some e) same f))
          | inr f ↦
              let w = within_from (0 + length (take n es)) (drop n es) f.0 e f.2 in
              let l = less n e h w.0 w.1 in
              let k = w.2 in
              let q = many in
              absurd (omega arith)
        ]

-- the next of both, by whether it is there
take_next : {A : Type 0} (xs ys : List A) (n : ℕ) → take n xs ≡ take n ys
    → ((x : A) → slice_get xs n ≡ Some x → slice_get ys n ≡ Some x) → ((x : A) → slice_get ys n ≡ Some x → slice_get xs n ≡ Some x)
    → take (suc n) xs ≡ take (suc n) ys
take_next [] [] n same f g = refl
take_next [] (y ∷ ys) zero same f g = absurd (none-some y (g y refl))
take_next (x ∷ xs) [] zero same f g = absurd (none-some x (f x refl))
take_next [] (y ∷ ys) (suc n) same f g = absurd cc
take_next (x ∷ xs) [] (suc n) same f g = absurd cc
take_next (x ∷ xs) (y ∷ ys) zero same f g = ap (λ z. z ∷ []) (sym (same_Some y x (f x refl)))
take_next (x ∷ xs) (y ∷ ys) (suc n) same f g =
    let h : x ≡ y = cc in
    let t : take n xs ≡ take n ys = cc in
    ap (λ z. z ∷ take (suc n) xs) h ∙ ap (λ z. y ∷ z) (take_next xs ys n t f g)

agree : (top : List Row) (es fs : List Entry) → IsOrdered top es → IsLess es → IsOrdered top fs → IsLess fs → (n : ℕ) → take n es ≡ take n fs
agree top es fs a l b m zero = refl
agree top es fs a l b m (suc n) =
    let same = agree top es fs a l b m n in
    take_next es fs n same (λ e h. next_there top es fs n e a l b same h) (λ e h. next_there top fs es n e b m a (sym same) h)

pub one_order : (top : List Row) (es fs : List Entry) → IsOrdered top es → IsLess es → IsOrdered top fs → IsLess fs → es ≡ fs
one_order top es fs a l b m =
    let n = length es + length fs in
    sym (take_all es n (omega arith)) ∙ agree top es fs a l b m n ∙ take_all fs n (omega arith)

-- two rows inside one declaration have two numbers
pub two_inside : (top : List Row) (es : List Entry) (k : ℕ) (e : Entry) → IsOrdered top es → IsEntry es k e
    → (p : ℕ) × ((i : ℕ) (r : Row) → slice_get (inside e.row) i ≡ Some r → IsEntry es (p + i) (record { within = Some k; row = r }))
two_inside top es k e order h =
    let f = begins_at 0 es k e h in
    let own = all_within None top in (
      length own + f.0,
      λ i r g.
          let q = at_right own (all_inside 0 es) (f.0 + i) (length own + f.0 + i) (record { within = Some (0 + k); row = r }) (omega arith) (f.1 i r g) in
          let m : 0 + k ≡ k = omega arith in
          subst (λ (z : ℕ). IsEntry es (length own + f.0 + i) (record { within = Some z; row = r })) m
          (subst (λ (z : List Entry). IsEntry z (length own + f.0 + i) (record { within = Some (0 + k); row = r })) (sym order) q),
    )
