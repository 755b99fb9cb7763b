-- How many temporaries code needs, and how many bytes of arguments; and that the machine can hold its instructions.
use Rattle.std.proofs.Common.{◌≡◌, ℕ, ◌≤◌, max, List, [], ◌∷◌, ◌++◌, refl, sym, ap, ◌∙◌, subst, arith}
use Rattle.limbo_values.specs.declared.number.Kind.{Kind}
use Rattle.slot_code.specs.Code.{Inst, Function}
use Rattle.dis_objects.specs.Frames.{Callee, made_by, inst_count, count, all_bytes, most_bytes}
use Rattle.part_code.specs.Held.{IsHeld, AllHeld}
use Rattle.part_code.proofs.Level.{behind, behind_both}

pub at_most : (a b c : ℕ) → a ≤ c → b ≤ c → max a b ≤ c
at_most a b c x y = omega (arith, x, y)

pub first_most : (a b c : ℕ) → max a b ≤ c → a ≤ c
first_most a b c x = omega (arith, x)

pub second_most : (a b c : ℕ) → max a b ≤ c → b ≤ c
second_most a b c x = omega (arith, x)

module _ (fs : List Function) where
  -- At most so many temporaries of each kind, and so many bytes of arguments wherever control is; and the machine can hold each instruction.
  pub record Held (top limit : ℕ) (cs to : List Callee) (is : List Inst) : Type 0 where
    pub level : behind cs is ≡ to
    pub temporaries : (k : Kind) → count k is ≤ top
    pub bytes : most_bytes fs cs is ≤ limit
    pub held : AllHeld is

  each_both : (a b : List Inst) → AllHeld a → AllHeld b → AllHeld (a ++ b)
  each_both [] b x y = y
  each_both (i ∷ a) b x y = (x.0, each_both a b x.1 y)

  count_both : (k : Kind) (top : ℕ) (a b : List Inst) → count k a ≤ top → count k b ≤ top → count k (a ++ b) ≤ top
  count_both k top [] b x y = y
  count_both k top (i ∷ a) b x y =
      at_most (inst_count k i) (count k (a ++ b)) top (first_most (inst_count k i) (count k a) top x)
      (count_both k top a b (second_most (inst_count k i) (count k a) top x) y)

  most_both : (limit : ℕ) (cs : List Callee) (a b : List Inst) → most_bytes fs cs a ≤ limit → most_bytes fs (behind cs a) b ≤ limit
      → most_bytes fs cs (a ++ b) ≤ limit
  most_both limit cs [] b x y = y
  most_both limit cs (i ∷ a) b x y =
      at_most (all_bytes fs cs) (most_bytes fs (made_by cs i) (a ++ b)) limit
      (first_most (all_bytes fs cs) (most_bytes fs (made_by cs i) a) limit x)
      (most_both limit (made_by cs i) a b (second_most (all_bytes fs cs) (most_bytes fs (made_by cs i) a) limit x) y)

  pub held_both : (top limit : ℕ) (cs ds es : List Callee) (a b : List Inst) → Held top limit cs ds a → Held top limit ds es b
      → Held top limit cs es (a ++ b)
  held_both top limit cs ds es a b x y = record {
    level = behind_both cs a b ∙ ap (λ c. behind c b) x.level ∙ y.level;
    temporaries = λ k. count_both k top a b (x.temporaries k) (y.temporaries k);
    bytes = most_both limit cs a b x.bytes (subst (λ c. most_bytes fs c b ≤ limit) (sym x.level) y.bytes);
    held = each_both a b x.held y.held;
  }

  pub held_none : (top limit : ℕ) (cs : List Callee) → all_bytes fs cs ≤ limit → Held top limit cs cs []
  held_none top limit cs l = record { level = refl; temporaries = λ k. omega arith; bytes = l; held = tt }

  pub held_one : (top limit : ℕ) (cs : List Callee) (i : Inst) → IsHeld i → ((k : Kind) → inst_count k i ≤ top)
      → all_bytes fs cs ≤ limit → all_bytes fs (made_by cs i) ≤ limit → Held top limit cs (made_by cs i) (i ∷ [])
  held_one top limit cs i h t l r = record {
    level = refl;
    temporaries = λ k. at_most (inst_count k i) 0 top (t k) (omega arith);
    bytes = at_most (all_bytes fs cs) (all_bytes fs (made_by cs i)) limit l r;
    held = (h, tt);
  }
