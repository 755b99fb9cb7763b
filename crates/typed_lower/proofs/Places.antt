-- Code at places, temporaries, and what a frame is like behind some code.
use Rattle.std.proofs.Common.{◌≡◌, ℕ, suc, ◌+◌, ◌<◌, ◌≤◌, Bool, true, false, List, [], ◌∷◌, ◌++◌, length, refl, ap, ◌∙◌, subst, arith}
use Rattle.std.proofs.lemmas.Bool.{eq-eqb, eqb-true}
use Rattle.std.specs.Prelude.{nat_eq, slice_index_or, ◌&&◌, if◌then◌else◌}
use Rattle.limbo_values.specs.declared.number.Kind.{Kind}
use Rattle.limbo_values.specs.declared.number.Kind.TheVariants.{Byte, Int, Big}
use Rattle.system_model.specs.Values.{Value, zero_value}
use Rattle.slot_code.specs.Code.{Inst}
use Rattle.slot_code.specs.Machine.{Frame, Temporaries, same_kind, put}
use Rattle.typed_lower.specs.Stands.{HasAt}

-- ---- code

pub has_front : (codes : List Inst) (pc : ℕ) (a b : List Inst) → HasAt codes pc (a ++ b) → HasAt codes pc a
has_front codes pc [] b h = tt
has_front codes pc (i ∷ a) b h = (h.0, has_front codes (suc pc) a b h.1)

pub has_at : (codes : List Inst) (pc pc' : ℕ) (a : List Inst) → pc ≡ pc' → HasAt codes pc a → HasAt codes pc' a
has_at codes pc pc' a e h = subst (λ p. HasAt codes p a) e h

pub has_back : (codes : List Inst) (pc : ℕ) (a b : List Inst) → HasAt codes pc (a ++ b) → HasAt codes (pc + length a) b
has_back codes pc [] b h = has_at codes pc (pc + 0) b (omega arith) h
has_back codes pc (i ∷ a) b h = has_at codes (suc pc + length a) (pc + suc (length a)) b (omega arith) (has_back codes (suc pc) a b h.1)

-- ---- temporaries

same_same : (k : Kind) → same_kind k k ≡ true
same_same Byte = refl
same_same Int = refl
same_same Big = refl

pub put_same : (t : Temporaries) (k : Kind) (n : ℕ) (v : Value) → put t k n v k n ≡ v
put_same t k n v =
    ap (λ b. if b && nat_eq n n then v else t k n) (same_same k) ∙ ap (λ b. if b then v else t k n) (eq-eqb n n refl)

differs : (i j : ℕ) → (j ≡ i → ⊥) → (b : Bool) → nat_eq j i ≡ b → b ≡ false
differs i j ne true e = absurd (ne (eqb-true j i e))
differs i j ne false e = refl

not_equal : (n m : ℕ) → m < n → nat_eq n m ≡ false
not_equal n m l = differs m n (λ e. absurd (omega (arith, e, l))) (nat_eq n m) refl

and_false : (b : Bool) → (b && false) ≡ false
and_false true = refl
and_false false = refl

pub put_below : (t : Temporaries) (k : Kind) (n : ℕ) (v : Value) (j : Kind) (m : ℕ) → m < n → put t k n v j m ≡ t j m
put_below t k n v j m l =
    ap (λ b. if same_kind k j && b then v else t j m) (not_equal n m l) ∙ ap (λ b. if b then v else t j m) (and_false (same_kind k j))

-- ---- frames behind some code

-- It stands at this place: the calls that are being made ready, the temporaries below a number, and the variables that the code doesn't
-- write, are as they were.
pub record After (written : ℕ → Bool) (d pc : ℕ) (g g' : Frame) : Type 0 where
  pub place : g'.pc ≡ pc
  pub function : g'.function ≡ g.function
  pub instance : g'.instance ≡ g.instance
  pub made : g'.made ≡ g.made
  pub low : (k : Kind) (n : ℕ) → n < d → g'.temporaries k n ≡ g.temporaries k n
  pub kept : (x : ℕ) → written x ≡ false → slice_index_or g'.variables x zero_value ≡ slice_index_or g.variables x zero_value

pub after_itself : (written : ℕ → Bool) (d : ℕ) (g : Frame) → After written d g.pc g g
after_itself written d g =
    record { place = refl; function = refl; instance = refl; made = refl; low = λ k n l. refl; kept = λ x e. refl }

pub after_then : (written : ℕ → Bool) (d pc pc' : ℕ) (g g1 g2 : Frame) → After written d pc g g1 → After written d pc' g1 g2
    → After written d pc' g g2
after_then written d pc pc' g g1 g2 a b = record {
  place = b.place;
  function = b.function ∙ a.function;
  instance = b.instance ∙ a.instance;
  made = b.made ∙ a.made;
  low = λ k n l. b.low k n l ∙ a.low k n l;
  kept = λ x e. b.kept x e ∙ a.kept x e;
}

pub after_weaker : (few more : ℕ → Bool) (d e pc : ℕ) (g g' : Frame) → ((x : ℕ) → more x ≡ false → few x ≡ false) → d ≤ e
    → After few e pc g g' → After more d pc g g'
after_weaker few more d e pc g g' f l a = record {
  place = a.place;
  function = a.function;
  instance = a.instance;
  made = a.made;
  low = λ k n m. a.low k n (omega (arith, l, m));
  kept = λ x n. a.kept x (f x n);
}
