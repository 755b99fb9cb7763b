-- What is cut off from parts is cut off from the whole.
use Rattle.std.proofs.Common.{◌≡◌, ℕ, ◌<◌, ◌≤◌, Bool, true, false, inl, inr, max, sym, ap, ◌∙◌, arith}
use Rattle.std.specs.Prelude.{nat_lt, if◌then◌else◌}
use Rattle.std.proofs.lemmas.Bool.Decides.{leb_tells, nat_tests}
use Rattle.limbo_layout.specs.Layout as layout
use Rattle.limbo_layout.specs.Layout.{Room, limit}
use Rattle.value_rooms.specs.Cut.{behind, cut, lost, rounded}

cases : (r : Room) (b : Bool) → nat_lt limit r.size ≡ b → cut r ≡ (if b then lost r.align else r)
cases r b e = ap (λ (c : Bool). if c then lost r.align else r) e

is_large : (n : ℕ) → limit < n → nat_lt limit n ≡ true
is_large n h = grind (arith, nat_tests)

is_small : (n : ℕ) → n ≤ limit → nat_lt limit n ≡ false
is_small n h = grind (arith, nat_tests)

pub cut_large : (r : Room) → limit < r.size → cut r ≡ lost r.align
cut_large r h = cases r true (is_large r.size h)

pub cut_small : (r : Room) → r.size ≤ limit → cut r ≡ r
cut_small r h = cases r false (is_small r.size h)

pub cut-align : (r : Room) → (cut r).align ≡ r.align
cut-align r = elim (leb_tells r.size limit) [
  | inl h ↦ ap (λ (z : Room). z.align) (cut_small r h.1)
  | inr h ↦ ap (λ (z : Room). z.align) (cut_large r h.1)
]

-- a part of what is too large is behind it, or it behind a part
large_left : (w p : Room) → limit < w.size → limit < (layout.behind w p).size
large_left w p h = omega arith

large_right : (w p : Room) → limit < p.size → limit < (layout.behind w p).size
large_right w p h = omega arith

both_large : (w p x q : Room) → limit < (layout.behind w p).size → limit < (layout.behind x q).size → w.align ≡ x.align → p.align ≡ q.align
    → behind w p ≡ behind x q
both_large w p x q a b e f =
    cut_large (layout.behind w p) a
    ∙ ap (λ (n : ℕ). lost (max n p.align)) e
    ∙ ap (λ (n : ℕ). lost (max x.align n)) f
    ∙ sym (cut_large (layout.behind x q) b)

pub lost_size : (r : Room) → limit < r.size → limit < (cut r).size
lost_size r h = let e = ap (λ (z : Room). z.size) (cut_large r h) in omega arith

pub cut_behind : (w p : Room) → behind (cut w) (cut p) ≡ behind w p
cut_behind w p = elim (leb_tells w.size limit) [
  | inl h ↦ elim (leb_tells p.size limit) [
    | inl k ↦ ap (λ (z : Room). behind z (cut p)) (cut_small w h.1) ∙ ap (λ (z : Room). behind w z) (cut_small p k.1)
    | inr k ↦
        both_large (cut w) (cut p) w p (large_right (cut w) (cut p) (lost_size p k.1)) (large_right w p k.1) (cut-align w) (cut-align p)
  ]
  | inr h ↦ both_large (cut w) (cut p) w p (large_left (cut w) (cut p) (lost_size w h.1)) (large_left w p h.1) (cut-align w) (cut-align p)
]

rounded_large : (w : Room) → limit < w.size → limit < (layout.rounded w).size
rounded_large w h = omega arith

pub cut_rounded : (w : Room) → rounded (cut w) ≡ rounded w
cut_rounded w = elim (leb_tells w.size limit) [
  | inl h ↦ ap rounded (cut_small w h.1)
  | inr h ↦
      cut_large (layout.rounded (cut w)) (rounded_large (cut w) (lost_size w h.1))
      ∙ ap lost (cut-align w)
      ∙ sym (cut_large (layout.rounded w) (rounded_large w h.1))
]

pub small_cut : (r : Room) → (cut r).size ≤ limit → r.size ≤ limit
small_cut r h = elim (leb_tells r.size limit) [
  | inl k ↦ k.1
  | inr k ↦ absurd (let a = lost_size r k.1 in omega arith)
]
