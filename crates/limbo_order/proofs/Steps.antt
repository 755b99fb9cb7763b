-- One step of the search for an order.
use Rattle.std.proofs.Common.{◌≡◌, ℕ, zero, suc, ◌+◌, ◌<◌, ◌≤◌, ◌⊎◌, inl, inr, Bool, true, false, List, [], ◌∷◌, ◌++◌, length, replicate, take, get_or, ◌-◌, refl, sym, ap, subst, ◌∙◌, arith}
use Rattle.std.proofs.Math.ListN.{set}
use Rattle.std.proofs.lemmas.List.{length-set, length-append, length-replicate, take_all, take_more}
use Rattle.std.proofs.lemmas.Option.{slice_get_within}
use Rattle.limbo_order.specs.Order.{StandsAt, Needs, NeedsWithin, at_once, further, NeedsOnly, IsOrder}
use Rattle.limbo_order.specs.Searching.{IsSearch, left}
use Rattle.limbo_order.proofs.Places.{filled, same_there, stands_left, stands_last, stands_push, set_same, set_keeps, set_cases, set_count, alike_there}

pub last_apart : (path : List ℕ) (n top : ℕ) → 0 < length path → n ≡ length path → top ≡ get_or path (n - 1) top → path ≡ take (n - 1) path ++ (top ∷ [])
last_apart path n top l f e =
    sym (take_all (n - 1 + 1) path (omega arith)) ∙ take_more path (n - 1) top (omega arith) ∙ ap (λ x. take (n - 1) path ++ (x ∷ [])) (sym e)

below_or : (a b : ℕ) → (a < b) ⊎ (b ≤ a)
below_or a b = grind arith

-- what needs one that needs another needs the other
pub within_more : (rows : List (List ℕ)) (n m k : ℕ) → NeedsWithin rows n m → Needs rows m k → NeedsWithin rows n k
within_more rows _ _ k (at_once n m w) v = further n m k w (at_once m k v)
within_more rows _ _ k (further n j m w u) v = further n j k w (within_more rows j m k u v)

pub less_pushed : (entered : List Bool) (path : List ℕ) (next : ℕ) → StandsAt entered next false → left (set entered next true) (path ++ (next ∷ [])) < left entered path
less_pushed entered path next h = let c = set_count entered next h in simp length-append (omega arith)

pub less_popped : (entered : List Bool) (path front : List ℕ) (top : ℕ) → path ≡ front ++ (top ∷ []) → left entered front < left entered path
less_popped entered path front top e = rw e (simp length-append (omega arith))

module _ (rows : List (List ℕ)) (e d : List Bool) (c o p : List ℕ) (s : IsSearch rows e d c o p) where
  -- a cursor moves past what is done
  pub moved : (top from upto : ℕ) (row : List ℕ) → StandsAt rows top row → StandsAt c top from
      → ((k m : ℕ) → from ≤ k → k < upto → StandsAt row k m → StandsAt d m true) → IsSearch rows e d (set c top upto) o p
  moved top from upto row t f a = record {
    entered_length = s.entered_length;
    done_length = s.done_length;
    cursors_length = length-set c top upto ∙ s.cursors_length;
    listed = s.listed;
    marked = s.marked;
    once = s.once;
    behind = s.behind;
    passed = λ n k m x r h l u v. elim (set_cases c top n upto x h) [
      | inl b ↦ s.passed n k m x r b l u v
      | inr q ↦
          let g : r ≡ row = same_there rows top r row (subst (λ (z : ℕ). StandsAt rows z r) q.0 u) t in
          let w : StandsAt row k m = subst (λ (z : List ℕ). StandsAt z k m) g v in
          elim (below_or k from) [
            | inl i ↦ s.passed top k m from row f i t w
            | inr i ↦ a k m i (let y = q.1 in omega arith) w
          ]
    ];
    way = s.way;
    alone = s.alone;
    within = s.within;
    waiting = s.waiting;
    begun = s.begun;
    on_path = s.on_path;
  }

  -- where the path leads on, it leads from each on it to those behind
  leads : (n i j a b : ℕ) → j ≡ i + 1 + n → StandsAt p i a → StandsAt p j b → NeedsWithin rows a b
  leads zero i j a b f h k = at_once a b (s.way i a b h (subst (λ (z : ℕ). StandsAt p z b) (omega arith) k))
  leads (suc n) i j a b f h k =
      let l = slice_get_within p j b k in
      let g = filled p (i + 1) (omega arith) in
      further a g.0 b (s.way i a g.0 h g.1) (leads n (i + 1) j g.0 b (omega arith) g.1 k)

  -- a number that is needed is entered
  pub enters : (next : ℕ) → ((i n : ℕ) → i + 1 ≡ length p → StandsAt p i n → Needs rows n next) → next < length rows
      → (StandsAt d next true → ⊥) → (StandsAt e next true → ⊥) → IsSearch rows (set e next true) d c o (p ++ (next ∷ []))
  enters next w b t f = record {
    entered_length = length-set e next true ∙ s.entered_length;
    done_length = s.done_length;
    cursors_length = s.cursors_length;
    listed = s.listed;
    marked = s.marked;
    once = s.once;
    behind = s.behind;
    passed = s.passed;
    way = λ i n m h k. elim (stands_push p next (i + 1) m k) [
      | inl y ↦ elim (stands_push p next i n h) [
        | inl x ↦ s.way i n m x y
        | inr q ↦ let l = slice_get_within p (i + 1) m y in let g = q.0 in absurd (omega arith)
      ]
      | inr r ↦ elim (stands_push p next i n h) [
        | inl x ↦ subst (λ (z : ℕ). Needs rows n z) r.1 (w i n r.0 x)
        | inr q ↦ let g = q.0 in let l = r.0 in absurd (omega arith)
      ]
    ];
    alone = λ i j n h k. elim (stands_push p next i n h) [
      | inl x ↦ elim (stands_push p next j n k) [
        | inl y ↦ s.alone i j n x y
        | inr r ↦ absurd (f (subst (λ (z : ℕ). StandsAt e z true) (sym r.1) (s.begun i n x)))
      ]
      | inr q ↦ elim (stands_push p next j n k) [
        | inl y ↦ absurd (f (subst (λ (z : ℕ). StandsAt e z true) (sym q.1) (s.begun j n y)))
        | inr r ↦ q.0 ∙ sym r.0
      ]
    ];
    within = λ i n h. elim (stands_push p next i n h) [
      | inl x ↦ s.within i n x
      | inr q ↦ subst (λ (z : ℕ). z < length rows) q.1 b
    ];
    waiting = λ i n h g. elim (stands_push p next i n h) [
      | inl x ↦ s.waiting i n x g
      | inr q ↦ t (subst (λ (z : ℕ). StandsAt d z true) (sym q.1) g)
    ];
    begun = λ i n h. elim (stands_push p next i n h) [
      | inl x ↦ set_keeps e next n (s.begun i n x)
      | inr q ↦ subst (λ (z : ℕ). StandsAt (set e next true) z true) q.1 (set_same e next (let l = s.entered_length in omega arith))
    ];
    on_path = λ n h. elim (set_cases e next n true true h) [
      | inl x ↦ elim (s.on_path n x) [
        | inl y ↦ inl y
        | inr y ↦ inr (y.0, stands_left p (next ∷ []) y.0 n y.1)
      ]
      | inr q ↦ inr (length p, subst (λ (z : ℕ). StandsAt (p ++ (next ∷ [])) (length p) z) (sym q.0) (stands_last p next))
    ];
  }

  -- what was entered is done, where no path is left
  pub done_then : (n : ℕ) → length p ≡ 0 → StandsAt e n true → StandsAt d n true
  done_then n l h = elim (s.on_path n h) [
    | inl a ↦ a
    | inr b ↦ let i = slice_get_within p b.0 n b.1 in absurd (omega arith)
  ]

  pub ordered : ((n : ℕ) → n < length rows → StandsAt d n true) → IsOrder rows o
  ordered a = record {
    each = λ n l. s.listed n (a n l);
    only = λ i n h. let l = slice_get_within d n true (s.marked i n h) in let m = s.done_length in omega arith;
    once = s.once;
    behind = s.behind;
  }

  module _ (front : List ℕ) (top : ℕ) (f : p ≡ front ++ (top ∷ [])) where
    stands_top : StandsAt p (length front) top
    stands_top = subst (λ (z : List ℕ). StandsAt z (length front) top) (sym f) (stands_last front top)

    in_front : (i n : ℕ) → StandsAt p i n → StandsAt front i n ⊎ ((i ≡ length front) × (top ≡ n))
    in_front i n h = stands_push front top i n (subst (λ (z : List ℕ). StandsAt z i n) f h)

    in_path : (i n : ℕ) → StandsAt front i n → StandsAt p i n
    in_path i n h = subst (λ (z : List ℕ). StandsAt z i n) (sym f) (stands_left front (top ∷ []) i n h)

    pub top_there : top < length rows
    top_there = s.within (length front) top stands_top

    -- who is needed by the last one and stands on the path needs itself
    pub circle : (next : ℕ) → Needs rows top next → StandsAt e next true → (StandsAt d next true → ⊥) → NeedsWithin rows next next
    circle next w h t = elim (s.on_path next h) [
      | inl a ↦ absurd (t a)
      | inr b ↦ elim (in_front b.0 next b.1) [
        | inl x ↦
            let l = slice_get_within front b.0 next x in
            within_more rows next top next (leads (length front - b.0 - 1) b.0 (length front) next top (omega arith) b.1 stands_top) w
        | inr q ↦ at_once next next (subst (λ (z : ℕ). Needs rows z next) q.1 w)
      ]
    ]

    pub goes_on : (next : ℕ) → NeedsOnly rows → Needs rows top next → (StandsAt d next true → ⊥) → (StandsAt e next true → ⊥) → IsSearch rows (set e next true) d c o (p ++ (next ∷ []))
    goes_on next only w t g = enters next (λ i n l h. elim (in_front i n h) [
      | inl x ↦ let a = slice_get_within front i n x in let b : length p ≡ length front + 1 = rw f (simp length-append (omega arith)) in absurd (omega arith)
      | inr q ↦ subst (λ (z : ℕ). Needs rows z next) q.1 w
    ]) (only top next w) t g

    -- the last one is put to the order, where its cursor is at the end of its row
    pub leaves : (upto : ℕ) (row : List ℕ) → StandsAt rows top row → StandsAt c top upto → length row ≤ upto → IsSearch rows e (set d top true) c (o ++ (top ∷ [])) front
    leaves upto row t k l = record {
      entered_length = s.entered_length;
      done_length = length-set d top true ∙ s.done_length;
      cursors_length = s.cursors_length;
      listed = λ n h. elim (set_cases d top n true true h) [
        | inl a ↦ let i = s.listed n a in (i.0, stands_left o (top ∷ []) i.0 n i.1)
        | inr q ↦ (length o, subst (λ (z : ℕ). StandsAt (o ++ (top ∷ [])) (length o) z) (sym q.0) (stands_last o top))
      ];
      marked = λ i n h. elim (stands_push o top i n h) [
        | inl a ↦ set_keeps d top n (s.marked i n a)
        | inr q ↦ subst (λ (z : ℕ). StandsAt (set d top true) z true) q.1 own
      ];
      once = λ i j n h g. elim (stands_push o top i n h) [
        | inl a ↦ elim (stands_push o top j n g) [
          | inl b ↦ s.once i j n a b
          | inr r ↦ absurd (new i n a r.1)
        ]
        | inr q ↦ elim (stands_push o top j n g) [
          | inl b ↦ absurd (new j n b q.1)
          | inr r ↦ q.0 ∙ sym r.0
        ]
      ];
      behind = λ i n m h w. elim (stands_push o top i n h) [
        | inl a ↦ let j = s.behind i n m a w in (j.0, j.1, stands_left o (top ∷ []) j.0 m j.2)
        | inr q ↦
            let j = s.listed m (needed m (subst (λ (z : ℕ). Needs rows z m) (sym q.1) w)) in
            (j.0, let a = slice_get_within o j.0 m j.1 in let b = q.0 in omega arith, stands_left o (top ∷ []) j.0 m j.1)
      ];
      passed = λ n a m x r h b u v. set_keeps d top m (s.passed n a m x r h b u v);
      way = λ i n m h g. s.way i n m (in_path i n h) (in_path (i + 1) m g);
      alone = λ i j n h g. s.alone i j n (in_path i n h) (in_path j n g);
      within = λ i n h. s.within i n (in_path i n h);
      waiting = λ i n h g. elim (set_cases d top n true true g) [
        | inl a ↦ s.waiting i n (in_path i n h) a
        | inr q ↦
            let x : i ≡ length front = s.alone i (length front) n (in_path i n h) (subst (λ (z : ℕ). StandsAt p (length front) z) (sym q.0) stands_top) in
            let y = slice_get_within front i n h in
            omega arith
      ];
      begun = λ i n h. s.begun i n (in_path i n h);
      on_path = λ n h. elim (s.on_path n h) [
        | inl a ↦ inl (set_keeps d top n a)
        | inr b ↦ elim (in_front b.0 n b.1) [
          | inl x ↦ inr (b.0, x)
          | inr q ↦ inl (subst (λ (z : ℕ). StandsAt (set d top true) z true) q.1 own)
        ]
      ];
    }
      where
        own : StandsAt (set d top true) top true
        own = set_same d top (let a = top_there in let b = s.done_length in omega arith)

        new : (i n : ℕ) → StandsAt o i n → top ≡ n → ⊥
        new i n h q = s.waiting (length front) top stands_top (subst (λ (z : ℕ). StandsAt d z true) (sym q) (s.marked i n h))

        needed : (m : ℕ) → Needs rows top m → StandsAt d m true
        needed m w =
            let g : w.row ≡ row = same_there rows top w.row row w.own t in
            let a = slice_get_within w.row w.place m w.there in
            let b : length w.row ≡ length row = ap (λ (z : List ℕ). length z) g in
            s.passed top w.place m upto w.row k (omega arith) w.own w.there

-- no path is left
pub rests : (rows : List (List ℕ)) (e d : List Bool) (c o p : List ℕ) → length p ≡ 0 → IsSearch rows e d c o p → IsSearch rows e d c o []
rests rows e d c o [] l s = s
rests rows e d c o (x ∷ p) l s = absurd (omega arith)

-- a path begins with a number that isn't done
pub begins : (rows : List (List ℕ)) (e d : List Bool) (c o p : List ℕ) (first : ℕ) → p ≡ first ∷ [] → StandsAt d first false → IsSearch rows e d c o [] → IsSearch rows (set e first true) d c o p
begins rows e d c o p first q f s =
    let t : StandsAt d first true → ⊥ = λ h. let x : true ≡ false = same_there d first true false h f in cc in
    subst (λ (z : List ℕ). IsSearch rows (set e first true) d c o z) (sym q) (enters rows e d c o [] s first (λ i n l h. absurd (omega arith)) (let a = slice_get_within d first false f in let b = s.done_length in omega arith) t (λ h. t (done_then rows e d c o [] s first refl h)))

pub nothing_found : (rows : List (List ℕ)) (count : ℕ) → length rows ≡ count → IsSearch rows (replicate count false) (replicate count false) (replicate count 0) [] []
nothing_found rows count l = record {
  entered_length = length-replicate count false ∙ sym l;
  done_length = length-replicate count false ∙ sym l;
  cursors_length = length-replicate count 0 ∙ sym l;
  listed = λ n h. absurd (unmarked_all n h);
  marked = λ i n h. absurd (nothing i n h);
  once = λ i j n h g. absurd (nothing i n h);
  behind = λ i n m h w. absurd (nothing i n h);
  passed = λ n k m x r h b u v. let g : 0 ≡ x = alike_there count n 0 x h in absurd (omega arith);
  way = λ i n m h g. absurd (nothing i n h);
  alone = λ i j n h g. absurd (nothing i n h);
  within = λ i n h. absurd (nothing i n h);
  waiting = λ i n h g. nothing i n h;
  begun = λ i n h. absurd (nothing i n h);
  on_path = λ n h. absurd (unmarked_all n h);
}
  where
    nothing : (i n : ℕ) → StandsAt [] i n → ⊥
    nothing i n h = cc

    unmarked_all : (n : ℕ) → StandsAt (replicate count false) n true → ⊥
    unmarked_all n h = let g : false ≡ true = alike_there count n false true h in cc
