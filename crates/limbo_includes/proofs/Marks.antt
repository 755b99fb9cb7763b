-- What the marks of the next level say, one include after the other.
use Rattle.std.proofs.Common.{◌≡◌, ◌≢◌, ℕ, ◌+◌, ◌<◌, ◌==◌, ◌⊎◌, inl, inr, Bool, true, false, List, length, take, get_or, Some, refl, sym, ap, ◌∙◌, arith}
use Rattle.std.proofs.Math.ListN.{set}
use Rattle.std.proofs.lemmas.List.{get_or_default, get_or-set_same, get_or-set_other}
use Rattle.std.proofs.lemmas.Option.{same_Some}
use Rattle.limbo_includes.specs.declared.links.Link.{Link}
use Rattle.limbo_includes.specs.Links.{is_marked, IsNamed}
use Rattle.limbo_includes.proofs.Lists.{contains_taken, taken_contains, taken_last}

pub marked_same : (marks : List Bool) (to : ℕ) → to < length marks → is_marked (set marks to true) to ≡ true
marked_same marks to l = get_or-set_same marks to true false l

pub marked_kept : (marks : List Bool) (to n : ℕ) → to < length marks → is_marked marks n ≡ true → is_marked (set marks to true) n ≡ true
marked_kept marks to n l m = pick (n == to) refl
  where
    pick : (b : Bool) → (n == to) ≡ b → is_marked (set marks to true) n ≡ true
    pick true q = let e : n ≡ to = grind (arith, q) in ap (is_marked (set marks to true)) e ∙ marked_same marks to l
    pick false q = let e : n ≢ to = (λ z. absurd (grind (arith, q, z))) in get_or-set_other marks to n true false e ∙ m

pub marked_cases : (marks : List Bool) (to n : ℕ) → is_marked (set marks to true) n ≡ true → is_marked marks n ≡ true ⊎ (n ≡ to)
marked_cases marks to n m = pick (n == to) refl
  where
    pick : (b : Bool) → (n == to) ≡ b → is_marked marks n ≡ true ⊎ (n ≡ to)
    pick true q = inr (grind (arith, q))
    pick false q = let e : n ≢ to = (λ z. absurd (grind (arith, q, z))) in inl (sym (get_or-set_other marks to n true false e) ∙ m)

module _ (links : List Link) (marks : List Bool) (i : ℕ) (d : Link) (l : i < length links) where
  abbrev x : Link
  x = get_or links i d

  itself : x ≡ get_or links i x
  itself = get_or_default links i d x l

  pub named_kept : (n : ℕ) → IsNamed (take i links) marks n → IsNamed (take (i + 1) links) marks n
  named_kept n k = record { link = k.link; listed = taken_contains links i x k.link l itself k.listed; begins = k.begins; to = k.to }

  pub named_here : (n : ℕ) → x.to ≡ Some n → is_marked marks x.from ≡ true → IsNamed (take (i + 1) links) marks n
  named_here n e m = record { link = x; listed = taken_last links i x l itself; begins = m; to = e }

  pub named_cases : (n : ℕ) → IsNamed (take (i + 1) links) marks n → IsNamed (take i links) marks n ⊎ ((x.to ≡ Some n) × (is_marked marks x.from ≡ true))
  named_cases n k = elim (contains_taken links i x k.link l itself k.listed) [
    | inl c ↦ inl (record { link = k.link; listed = c; begins = k.begins; to = k.to })
    | inr e ↦ inr (ap (λ (z : Link). z.to) e ∙ k.to, ap (λ (z : Link). is_marked marks z.from) e ∙ k.begins)
  ]

  module _ (next : List Bool) (s : (n : ℕ) → is_marked next n ≡ true → IsNamed (take i links) marks n) (c : (n : ℕ) → IsNamed (take i links) marks n → is_marked next n ≡ true) where
    pub sound_some : (to : ℕ) → x.to ≡ Some to → is_marked marks x.from ≡ true → (n : ℕ) → is_marked (set next to true) n ≡ true → IsNamed (take (i + 1) links) marks n
    sound_some to e m n h = elim (marked_cases next to n h) [
      | inl k ↦ named_kept n (s n k)
      | inr q ↦ named_here n (e ∙ ap Some (sym q)) m
    ]

    pub complete_some : (to : ℕ) → to < length next → x.to ≡ Some to → (n : ℕ) → IsNamed (take (i + 1) links) marks n → is_marked (set next to true) n ≡ true
    complete_some to h e n k = elim (named_cases n k) [
      | inl k ↦ marked_kept next to n h (c n k)
      | inr q ↦ let w : n ≡ to = same_Some n to (sym q.0 ∙ e) in ap (is_marked (set next to true)) w ∙ marked_same next to h
    ]

    pub complete_none : ((n : ℕ) → x.to ≡ Some n → is_marked marks x.from ≡ false) → (n : ℕ) → IsNamed (take (i + 1) links) marks n → is_marked next n ≡ true
    complete_none f n k = elim (named_cases n k) [
      | inl k ↦ c n k
      | inr q ↦ let w = f n q.0 in let v = q.1 in absurd cc
    ]
