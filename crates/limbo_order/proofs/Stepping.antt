-- One step of the search, at the values of the code.
use Rattle.std.proofs.Common.{◌≡◌, ℕ, ◌-◌, ◌<◌, ◌≤◌, Bool, true, false, List, [], ◌∷◌, ◌++◌, length, take, get_or, arith}
use Rattle.std.specs.Global.{Global}
use Rattle.std.specs.Prelude.{Vec}
use Rattle.std.proofs.Math.ListN.{set}
use Rattle.limbo_order.specs.Order.{StandsAt, Needs, NeedsWithin, NeedsOnly}
use Rattle.limbo_order.specs.View.{rows}
use Rattle.limbo_order.specs.Searching.{IsSearch, left}
use Rattle.limbo_order.proofs.Places.{here, row_here, row_needs, rows-length, set_there, same_there}
use Rattle.limbo_order.proofs.Steps.{last_apart, less_pushed, moved, top_there, circle, goes_on, leaves}

module _ (vs : List (Vec ℕ Global)) (e d : List Bool) (c o p : List ℕ) (s : IsSearch (rows vs) e d c o p) (n top : ℕ) (l : 0 < length p) (m : n ≡ length p) (a : top ≡ get_or p (n - 1) top) where
  apart : p ≡ take (n - 1) p ++ (top ∷ [])
  apart = last_apart p n top l m a

  pub in_needs : top < length vs
  in_needs =
      let t : top < length (rows vs) = top_there (rows vs) e d c o p s (take (n - 1) p) top apart in
      let r = rows-length vs in
      omega arith

  pub in_cursors : top < length c
  in_cursors = let t = in_needs in let r = rows-length vs in let q = s.cursors_length in omega arith

  pub in_done : top < length d
  in_done = let t = in_needs in let r = rows-length vs in let q = s.done_length in omega arith

  module _ (only : NeedsOnly (rows vs)) (v : Vec ℕ Global) (f : v ≡ get_or vs top v) where
    need : (k x : ℕ) → StandsAt v.items k x → Needs (rows vs) top x
    need k x h = row_needs vs top v k x in_needs f h

    pub row_in_done : (k x : ℕ) → StandsAt v.items k x → x < length d
    row_in_done k x h = let b = only top x (need k x h) in let q = s.done_length in omega arith

    pub row_in_entered : (k x : ℕ) → k < length v.items → x ≡ get_or v.items k x → x < length e
    row_in_entered k x b h = let g = only top x (need k x (here v.items k x b h)) in let q = s.entered_length in omega arith

    moved_on : (from upto : ℕ) → from ≡ get_or c top from → ((k x : ℕ) → from ≤ k → k < upto → StandsAt v.items k x → StandsAt d x true) → IsSearch (rows vs) e d (set c top upto) o p
    moved_on from upto g h = moved (rows vs) e d c o p s top from upto v.items (row_here vs top v in_needs f) (here c top from in_cursors g) h

    pub puts : (from upto : ℕ) (q : List ℕ) → from ≡ get_or c top from → ((k x : ℕ) → from ≤ k → k < upto → StandsAt v.items k x → StandsAt d x true)
        → length v.items ≤ upto → q ≡ take (n - 1) p → IsSearch (rows vs) e (set d top true) (set c top upto) (o ++ (top ∷ [])) q
    puts from upto q g h b z =
        rw z
        (leaves (rows vs) e d (set c top upto) o p (moved_on from upto g h) (take (n - 1) p) top apart upto v.items (row_here vs top v in_needs f) (set_there c top upto in_cursors) b)

    -- at the first number that isn't done
    module _ (place next : ℕ) (b : place < length v.items) (g : next ≡ get_or v.items place next) (stops : (x : ℕ) → StandsAt v.items place x → StandsAt d x true → ⊥) (is : Bool) (h : is ≡ get_or e next is) where
      there : StandsAt v.items place next
      there = here v.items place next b g

      mark : StandsAt e next is
      mark = here e next is (row_in_entered place next b g) h

      pub circles : is ≡ true → NeedsWithin (rows vs) next next
      circles x = circle (rows vs) e d c o p s (take (n - 1) p) top apart next (need place next there) (rw x at mark) (stops next there)

      pub less : is ≡ false → left (set e next true) (p ++ (next ∷ [])) < left e p
      less x = less_pushed e p next (rw x at mark)

      pub enters : (from : ℕ) → from ≡ get_or c top from → ((k x : ℕ) → from ≤ k → k < place → StandsAt v.items k x → StandsAt d x true) → is ≡ false
          → IsSearch (rows vs) (set e next true) d (set c top place) o (p ++ (next ∷ []))
      enters from i j x =
          goes_on (rows vs) e d (set c top place) o p (moved_on from place i j) (take (n - 1) p) top apart next only (need place next there) (stops next there)
          (λ y. let z : true ≡ false = same_there e next true false y (rw x at mark) in cc)
