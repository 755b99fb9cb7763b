-- Code goes well in one step, and for fewer steps.
use Rattle.std.proofs.Common.{◌≡◌, ℕ, zero, suc, ◌-◌, ◌<◌, ◌≤◌, List, [], ◌∷◌, length, Some, refl, sym, subst, arith}
use Rattle.std.proofs.Common.{get_or-set_same, get_or-set_other, length-set}
use Rattle.std.specs.Prelude.{slice_get}
use Rattle.std.specs.List.{All}
use Rattle.limbo_types.specs.Types.{Ty}
use Rattle.limbo_kept.specs.Trees.{Scope}
use Rattle.core_code.specs.Code.{Instr, Back}
use Rattle.core_typing.specs.Held.{Held, Slots, empty, slot, put}
use Rattle.core_typing.specs.Needs.{Finds}
use Rattle.core_typing.specs.Going.{Stand, stand, behind, Agrees, Goes}

-- ---- slots

pub put_same : (slots : Slots) (s : ℕ) (h : Held) → s < length slots → slot (put slots s h) s ≡ h
put_same slots s h l = get_or-set_same slots s h empty l

pub put_other : (slots : Slots) (s d : ℕ) (h : Held) → (d ≡ s → ⊥) → slot (put slots s h) d ≡ slot slots d
put_other slots s d h e = get_or-set_other slots s d h empty e

pub put_long : (slots : Slots) (s : ℕ) (h : Held) → length (put slots s h) ≡ length slots
put_long slots s h = length-set slots s h

-- ---- steps

module _ (s : Scope) (answer : Ty) (code : List Instr) where
  pub less : (n : ℕ) (pc : ℕ) (slots : Slots) → Goes s answer code (suc n) pc slots → Goes s answer code n pc slots
  less zero pc slots g = tt
  less (suc n) pc slots g = (g.0, g.1, g.2, g.3, λ k d l. less n _ _ (g.4 k d l))

  pub shorter : (m n : ℕ) (pc : ℕ) (slots : Slots) → m ≤ n → Goes s answer code n pc slots → Goes s answer code m pc slots
  shorter zero n pc slots l g = tt
  shorter (suc m) zero pc slots l g = absurd (omega arith)
  shorter (suc m) (suc n) pc slots l g = (g.0, g.1, g.2, g.3, λ k d q. shorter m n _ _ (omega arith) (g.4 k d q))

  pub same_place : (n pc pc' : ℕ) (slots : Slots) → pc ≡ pc' → Goes s answer code n pc slots → Goes s answer code n pc' slots
  same_place n pc pc' slots e g = subst (λ (q : ℕ). Goes s answer code n q slots) e g

  pub one_place : (n pc : ℕ) (slots : Slots) → Goes s answer code n pc slots
      → All (λ (a : Stand). Goes s answer code n a.pc a.slots) (stand pc slots ∷ [])
  one_place n pc slots g zero d l = g
  one_place n pc slots g (suc k) d l = absurd (omega arith)

  pub two_places : (n pc pc' : ℕ) (slots slots' : Slots) → Goes s answer code n pc slots → Goes s answer code n pc' slots'
      → All (λ (a : Stand). Goes s answer code n a.pc a.slots) (stand pc slots ∷ stand pc' slots' ∷ [])
  two_places n pc pc' slots slots' g h zero d l = g
  two_places n pc pc' slots slots' g h (suc zero) d l = h
  two_places n pc pc' slots slots' g h (suc (suc k)) d l = absurd (omega arith)

  -- One instruction: what is behind it goes well for as long.
  pub goes_one : (n pc : ℕ) (slots : Slots) (i : Instr) → slice_get code pc ≡ Some i → Finds s answer slots i
      → Agrees s answer code pc slots i
      → All (λ (a : Stand). Goes s answer code n a.pc a.slots) (behind s.adts pc slots i) → Goes s answer code n pc slots
  goes_one zero pc slots i e f a g = tt
  goes_one (suc n) pc slots i e f a g = (i, e, f, a, λ k d l. less n _ _ (g k d l))

  -- An instruction with one place behind it.
  pub goes_to : (n pc pc' : ℕ) (slots slots' : Slots) (i : Instr) → slice_get code pc ≡ Some i → Finds s answer slots i
      → Agrees s answer code pc slots i
      → behind s.adts pc slots i ≡ stand pc' slots' ∷ [] → Goes s answer code n pc' slots' → Goes s answer code n pc slots
  goes_to n pc pc' slots slots' i e f a b g =
      goes_one n pc slots i e f a (subst (All (λ (a : Stand). Goes s answer code n a.pc a.slots)) (sym b) (one_place n pc' slots' g))

  pub goes_next : (n pc pc' : ℕ) (slots slots' : Slots) (i : Instr) → slice_get code pc ≡ Some i → Finds s answer slots i
      → Agrees s answer code pc slots i
      → behind s.adts pc slots i ≡ stand pc' slots' ∷ [] → Goes s answer code n pc' slots' → Goes s answer code (suc n) pc slots
  goes_next n pc pc' slots slots' i e f a b g =
      (i, e, f, a, subst (All (λ (a : Stand). Goes s answer code n a.pc a.slots)) (sym b) (one_place n pc' slots' g))

  -- A way back, from where it goes well for less.
  pub goes_back : (n pc pc' k : ℕ) (slots : Slots) → slice_get code pc ≡ Some (Back k) → pc - k ≡ pc'
      → ((m : ℕ) → m < n → Goes s answer code m pc' slots) → Goes s answer code n pc slots
  goes_back zero pc pc' k slots e b g = tt
  goes_back (suc n) pc pc' k slots e b g = goes_next n pc (pc - k) slots slots (Back k) e tt tt refl
      (same_place n pc' (pc - k) slots (sym b) (g n (omega arith)))
