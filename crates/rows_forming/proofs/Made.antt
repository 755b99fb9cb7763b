-- What is put together of operands is the value that a node makes of them: a tuple has them in order, and a value of an adt of a variant its
-- number in front, then the common fields, and nothing in place of the fields of other variants.
use Rattle.std.proofs.Common.{◌≡◌, ℕ, zero, suc, pos, ◌+◌, ◌-◌, ◌≤◌, List, [], ◌∷◌, ◌++◌, length, take, drop, replicate, Some, None}
use Rattle.std.proofs.Common.{refl, sym, ap, subst, ◌∙◌, arith}
use Rattle.std.specs.Prelude.{slice_set}
use Rattle.limbo_types.specs.Types as ty
use Rattle.limbo_types.specs.Types.{Ty, Tys}
use Rattle.limbo_layout.specs.Adts.{Def}
use Rattle.limbo_meaning.specs.Values as value
use Rattle.limbo_meaning.specs.Values.{Value, Num, Parts, row, fitted, all_fitted, zero_of, nothing, parts_of}
use Rattle.core_code.specs.Terms.{numbers_from}
use Rattle.core_code.specs.Whole.{with_parts}
use Rattle.core_code.proofs.Names.{listed_row}
use Rattle.limbo_meaning.specs.Places.{put_part}
use Rattle.value_frames.specs.Forming.{begun, formed}

-- values at places in a row
abbrev pub sets : List Value → List ℕ → List Value → List Value
sets xs (k ∷ ks) (v ∷ vs) = sets (slice_set xs k v) ks vs
sets xs ks vs = xs

pub put_row : (n : ℕ) (x : Value) (vs : List Value) → put_part n x (row vs) ≡ row (slice_set vs n x)
put_row n x [] = refl
put_row zero x (v ∷ vs) = refl
put_row (suc n) x (v ∷ vs) = ap (λ (us : value.Values). value.MoreValues v us) (put_row n x vs)

pub formed_sets : (xs : List Value) (ks : List ℕ) (vs : List Value) → formed (Parts (row xs)) ks vs ≡ Parts (row (sets xs ks vs))
formed_sets xs [] vs = refl
formed_sets xs (k ∷ ks) [] = refl
formed_sets xs (k ∷ ks) (v ∷ vs) =
    ap (λ (us : value.Values). formed (Parts us) ks vs) (put_row k v xs) ∙ formed_sets (slice_set xs k v) ks vs

set_front : (pre : List Value) (x v : Value) (xs : List Value) → slice_set (pre ++ x ∷ xs) (length pre) v ≡ pre ++ v ∷ xs
set_front [] x v xs = refl
set_front (y ∷ pre) x v xs = ap (λ (us : List Value). y ∷ us) (set_front pre x v xs)

length_more : (pre : List Value) (x : Value) → length (pre ++ x ∷ []) ≡ suc (length pre)
length_more [] x = refl
length_more (y ∷ pre) x = ap suc (length_more pre x)

more_there : (pre : List Value) (x : Value) (xs : List Value) → pre ++ x ∷ xs ≡ (pre ++ x ∷ []) ++ xs
more_there [] x xs = refl
more_there (y ∷ pre) x xs = ap (λ (us : List Value). y ∷ us) (more_there pre x xs)

pub long_drop : {A : Type 0} (c : ℕ) (xs : List A) → length (drop c xs) ≡ length xs - c
long_drop zero xs = omega arith
long_drop (suc c) [] = omega arith
long_drop (suc c) (x ∷ xs) = let a = long_drop c xs in omega (arith, a)

pub join_back : (c : ℕ) (vs : List Value) → take c vs ++ drop c vs ≡ vs
join_back zero vs = refl
join_back (suc c) [] = refl
join_back (suc c) (v ∷ vs) = ap (λ (us : List Value). v ∷ us) (join_back c vs)

module _ (defs : List Def) where
  -- From a part on, of these types: what stands there at first, the parts of the value, and the operands, which come to parts of these
  -- numbers. Other parts are as they were.
  pub data Row : (from : ℕ) → List Ty → (first full : List Value) → List ℕ → List Value → Type 0 where
    ends : (p : ℕ) (ts : List Ty) → Row p ts (all_fitted defs ts []) [] [] []
    moves : (p : ℕ) (t : Ty) (ts : List Ty) (x v : Value) (xs full : List Value) (ks : List ℕ) (vs : List Value)
        → Row (suc p) ts xs full ks vs → Row p (t ∷ ts) (x ∷ xs) (v ∷ full) (p ∷ ks) (v ∷ vs)
    stays : (p : ℕ) (t : Ty) (ts : List Ty) (x y : Value) (xs full : List Value) (ks : List ℕ) (vs : List Value)
        → (x ≡ fitted defs t x → fitted defs t y ≡ x) → Row (suc p) ts xs full ks vs
        → Row p (t ∷ ts) (x ∷ xs) (y ∷ full) ks vs

  pub record IsMade (p : ℕ) (ts : List Ty) (xs full : List Value) (ks : List ℕ) (vs : List Value) : Type 0 where
    pub made : List Value
    pub sets_so : (pre : List Value) → length pre ≡ p → sets (pre ++ xs) ks vs ≡ pre ++ made
    pub whole : made ≡ all_fitted defs ts made → all_fitted defs ts full ≡ made

  first_same : (x y : Value) (xs ys : List Value) → x ∷ xs ≡ y ∷ ys → (x ≡ y) × (xs ≡ ys)
  first_same x y xs ys e = (cc, cc)

  pub is_made : (p : ℕ) (ts : List Ty) (xs full : List Value) (ks : List ℕ) (vs : List Value) → Row p ts xs full ks vs
      → IsMade p ts xs full ks vs
  is_made _ _ _ _ _ _ (ends p ts) = record { made = all_fitted defs ts []; sets_so = λ pre l. refl; whole = λ e. refl }
  is_made _ _ _ _ _ _ (moves p t ts x v xs full ks vs r) =
      let h = is_made (suc p) ts xs full ks vs r in
      record {
        made = v ∷ h.made;
        sets_so = λ pre l.
            ap (λ (us : List Value). sets us ks vs)
            (ap (λ (j : ℕ). slice_set (pre ++ x ∷ xs) j v) (sym l) ∙ (set_front pre x v xs ∙ more_there pre v xs))
            ∙ (h.sets_so (pre ++ v ∷ []) (length_more pre v ∙ ap suc l) ∙ sym (more_there pre v h.made));
        whole = λ e.
            let both = first_same v (fitted defs t v) h.made (all_fitted defs ts h.made) e in
            let rest = h.whole both.1 in
            let one = both.0 in
            cc;
      }
  is_made _ _ _ _ _ _ (stays p t ts x y xs full ks vs so r) =
      let h = is_made (suc p) ts xs full ks vs r in
      record {
        made = x ∷ h.made;
        sets_so = λ pre l.
            ap (λ (us : List Value). sets us ks vs) (more_there pre x xs)
            ∙ (h.sets_so (pre ++ x ∷ []) (length_more pre x ∙ ap suc l) ∙ sym (more_there pre x h.made));
        whole = λ e.
            let both = first_same x (fitted defs t x) h.made (all_fitted defs ts h.made) e in
            let rest = h.whole both.1 in
            let one = so both.0 in
            cc;
      }

  -- ---- operands one behind the other

  pub in_row : (p : ℕ) (ts : List Ty) (vs : List Value) → length vs ≤ length ts
      → Row p ts (all_fitted defs ts []) vs (numbers_from defs p (length vs)) vs
  in_row p ts [] l = ends p ts
  in_row p [] (v ∷ vs) l = absurd (omega (arith, l))
  in_row p (t ∷ ts) (v ∷ vs) l =
      moves p t ts (fitted defs t nothing) v (all_fitted defs ts []) vs (numbers_from defs (suc p) (length vs)) vs
      (in_row (suc p) ts vs (omega (arith, l)))

  -- so many of them, and others behind
  in_front : (c p : ℕ) (ts : List Ty) (vs full : List Value) (ks : List ℕ) (us : List Value) → c ≤ length ts → c ≤ length vs
      → Row (p + c) (drop c ts) (all_fitted defs (drop c ts) []) full ks us
      → Row p ts (all_fitted defs ts []) (take c vs ++ full) (numbers_from defs p c ++ ks) (take c vs ++ us)
  in_front zero p ts vs full ks us l h r =
      let e : p + 0 ≡ p = omega arith in subst (λ (j : ℕ). Row j ts (all_fitted defs ts []) full ks us) e r
  in_front (suc c) p [] vs full ks us l h r = absurd (omega (arith, l))
  in_front (suc c) p (t ∷ ts) [] full ks us l h r = absurd (omega (arith, h))
  in_front (suc c) p (t ∷ ts) (v ∷ vs) full ks us l h r =
      let e : p + suc c ≡ suc p + c = omega arith in
      moves p t ts (fitted defs t nothing) v (all_fitted defs ts []) (take c vs ++ full) (numbers_from defs (suc p) c ++ ks) (take c vs ++ us)
      (in_front c (suc p) ts vs full ks us (omega (arith, l)) (omega (arith, h))
      (subst (λ (j : ℕ). Row j (drop c ts) (all_fitted defs (drop c ts) []) full ks us) e r))

  -- so many parts that have nothing
  in_between : (c p : ℕ) (ts : List Ty) (full : List Value) (ks : List ℕ) (us : List Value) → c ≤ length ts
      → Row (p + c) (drop c ts) (all_fitted defs (drop c ts) []) full ks us
      → Row p ts (all_fitted defs ts []) (replicate c nothing ++ full) ks us
  in_between zero p ts full ks us l r =
      let e : p + 0 ≡ p = omega arith in subst (λ (j : ℕ). Row j ts (all_fitted defs ts []) full ks us) e r
  in_between (suc c) p [] full ks us l r = absurd (omega (arith, l))
  in_between (suc c) p (t ∷ ts) full ks us l r =
      let e : p + suc c ≡ suc p + c = omega arith in
      stays p t ts (fitted defs t nothing) nothing (all_fitted defs ts []) (replicate c nothing ++ full) ks us (λ f. refl)
      (in_between c (suc p) ts full ks us (omega (arith, l))
      (subst (λ (j : ℕ). Row j (drop c ts) (all_fitted defs (drop c ts) []) full ks us) e r))

  -- ---- the whole value

  same_rows : (xs ys : List Value) → Parts (row xs) ≡ Parts (row ys) → xs ≡ ys
  same_rows xs ys e = sym (listed_row xs) ∙ (ap (λ (v : Value). value.listed (parts_of v)) e ∙ listed_row ys)

  module _ (t : Ty) (ts : List Ty) (whole : (v : Value) → fitted defs t v ≡ with_parts defs ts v) where
    pub made_is : (xs full : List Value) (ks : List ℕ) (vs : List Value) → Row 0 ts xs full ks vs → (b : Value) → b ≡ Parts (row xs)
        → formed b ks vs ≡ fitted defs t (formed b ks vs) → fitted defs t (Parts (row full)) ≡ formed b ks vs
    made_is xs full ks vs r b e f =
        let h = is_made 0 ts xs full ks vs r in
        let is : formed b ks vs ≡ Parts (row h.made) =
        ap (λ (u : Value). formed u ks vs) e ∙ (formed_sets xs ks vs ∙ ap (λ (us : List Value). Parts (row us)) (h.sets_so [] refl)) in
        let again : Parts (row h.made) ≡ Parts (row (all_fitted defs ts h.made)) =
        sym is ∙ (f ∙ (ap (λ (u : Value). fitted defs t u) is ∙ (whole (Parts (row h.made))
        ∙ ap (λ (us : List Value). Parts (row (all_fitted defs ts us))) (listed_row h.made)))) in
        whole (Parts (row full))
        ∙ (ap (λ (us : List Value). Parts (row (all_fitted defs ts us))) (listed_row full)
        ∙ (ap (λ (us : List Value). Parts (row us)) (h.whole (same_rows h.made (all_fitted defs ts h.made) again)) ∙ sym is))

    zero_is : zero_of defs t ≡ Parts (row (all_fitted defs ts []))
    zero_is = whole nothing

    -- operands one behind the other are all its parts
    pub row_made : (vs : List Value) → length vs ≤ length ts
        → formed (begun defs t None) (numbers_from defs 0 (length vs)) vs
        ≡ fitted defs t (formed (begun defs t None) (numbers_from defs 0 (length vs)) vs)
        → fitted defs t (Parts (row vs)) ≡ formed (begun defs t None) (numbers_from defs 0 (length vs)) vs
    row_made vs l f =
        made_is (all_fitted defs ts []) vs (numbers_from defs 0 (length vs)) vs (in_row 0 ts vs l) (zero_of defs t) zero_is f

    -- or a variant's number stands in front, then so many of them, and the others behind so many parts
    pub variant_made : (v c z : ℕ) (rest : List Ty) (vs : List Value) → ts ≡ ty.Int ∷ rest → c ≤ length rest → c ≤ length vs
        → z ≤ length (drop c rest) → length (drop c vs) ≤ length (drop z (drop c rest))
        → formed (begun defs t (Some v)) (numbers_from defs 1 c ++ numbers_from defs (1 + c + z) (length vs - c)) vs
        ≡ fitted defs t (formed (begun defs t (Some v)) (numbers_from defs 1 c ++ numbers_from defs (1 + c + z) (length vs - c)) vs)
        → fitted defs t (Parts (row (Num (pos v) ∷ (take c vs ++ (replicate z nothing ++ drop c vs)))))
        ≡ formed (begun defs t (Some v)) (numbers_from defs 1 c ++ numbers_from defs (1 + c + z) (length vs - c)) vs
    variant_made v c z rest vs e l h g f so =
        let tail = in_row (1 + c + z) (drop z (drop c rest)) (drop c vs) f in
        let others = in_between z (1 + c) (drop c rest) (drop c vs) (numbers_from defs (1 + c + z) (length (drop c vs))) (drop c vs) g tail in
        let all = in_front c 1 rest vs (replicate z nothing ++ drop c vs) (numbers_from defs (1 + c + z) (length (drop c vs))) (drop c vs) l h
        others in
        let r = stays 0 ty.Int rest (Num (pos v)) (Num (pos v)) (all_fitted defs rest []) (take c vs ++ (replicate z nothing ++ drop c vs))
        (numbers_from defs 1 c ++ numbers_from defs (1 + c + z) (length (drop c vs))) (take c vs ++ drop c vs) (λ d. sym d) all in
        let full : List Value = Num (pos v) ∷ (take c vs ++ (replicate z nothing ++ drop c vs)) in
        let xs : List Value = Num (pos v) ∷ all_fitted defs rest [] in
        let r' : Row 0 ts xs full (numbers_from defs 1 c ++ numbers_from defs (1 + c + z) (length vs - c)) vs =
        subst (λ (us : List Ty). Row 0 us xs full (numbers_from defs 1 c ++ numbers_from defs (1 + c + z) (length vs - c)) vs) (sym e)
        (subst (λ (j : ℕ). Row 0 (ty.Int ∷ rest) xs full (numbers_from defs 1 c ++ numbers_from defs (1 + c + z) j) vs) (long_drop c vs)
        (subst (λ (us : List Value). Row 0 (ty.Int ∷ rest) xs full
        (numbers_from defs 1 c ++ numbers_from defs (1 + c + z) (length (drop c vs))) us) (join_back c vs) r)) in
        made_is xs full (numbers_from defs 1 c ++ numbers_from defs (1 + c + z) (length vs - c)) vs r' (begun defs t (Some v))
        (ap (λ (u : Value). Parts (put_part 0 (Num (pos v)) (parts_of u))) zero_is
        ∙ (ap (λ (us : value.Values). Parts us) (put_row 0 (Num (pos v)) (all_fitted defs ts []))
        ∙ ap (λ (us : List Ty). Parts (row (slice_set (all_fitted defs us []) 0 (Num (pos v))))) e)) so
