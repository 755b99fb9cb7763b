-- Whether one of so many words is a reference.
use Rattle.std.proofs.Common.{◌≡◌, ℕ, zero, suc, ◌+◌, ◌≤◌, ◌<◌, Bool, true, false, ◌||◌, ◌⊎◌, inl, inr, refl, ap, ◌∙◌, arith}
use Rattle.std.specs.List.{range_with_len}
use Rattle.std.proofs.lemmas.Bool.{cases_eq}
use Rattle.dis_file.specs.declared.types.TypeDesc.{TypeDesc}
use Rattle.dis_file.specs.References.{marks}
use Rattle.dis_memory.specs.Blocks.{any_marked}

pub any_none : (desc : TypeDesc) (from n : ℕ) → ((k : ℕ) → k < from + n → marks desc.map k ≡ false) → any_marked desc (range_with_len from n) ≡ false
any_none desc from zero h = refl
any_none desc from (suc n) h =
    ap (λ b. b || any_marked desc (range_with_len (from + 1) n)) (h from (omega arith)) ∙ any_none desc (from + 1) n (λ k lt. h k (omega (arith, lt)))

or_true : (b : Bool) → (b || true) ≡ true
or_true true = refl
or_true false = refl

pub any_some : (desc : TypeDesc) (from n k : ℕ) → from ≤ k → k < from + n → marks desc.map k ≡ true → any_marked desc (range_with_len from n) ≡ true
any_some desc from zero k le lt e = absurd (omega (arith, le, lt))
any_some desc from (suc n) k le lt e = go (cases_eq from k) (any_some desc (from + 1) n k)
  where
    go : (from ≡ k) ⊎ (from ≡ k → ⊥) → (from + 1 ≤ k → k < from + 1 + n → marks desc.map k ≡ true → any_marked desc (range_with_len (from + 1) n) ≡ true) →
        any_marked desc (range_with_len from (suc n)) ≡ true
    go (inl same) more = ap (λ b. b || any_marked desc (range_with_len (from + 1) n)) (ap (marks desc.map) same ∙ e)
    go (inr ne) more = ap (λ b. marks desc.map from || b) (more (omega (arith, le, ne)) (omega (arith, lt)) e) ∙ or_true (marks desc.map from)
