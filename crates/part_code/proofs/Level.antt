-- Code at its place within a function's code, and what is being made ready there; pieces of code, and how they are joined.
use Rattle.std.proofs.Common.{◌≡◌, ℕ, zero, suc, ◌+◌, ◌-◌, ◌<◌, List, [], ◌∷◌, ◌++◌, length, Some, refl, sym, ap, ◌∙◌, subst, arith}
use Rattle.std.specs.Prelude.{slice_get}
use Rattle.std.proofs.lemmas.Option.{none-some, same_Some}
use Rattle.std.proofs.lemmas.List.{length-append}
use Rattle.slot_code.specs.Code.{Inst, Back, Function, Module}
use Rattle.dis_objects.specs.Frames.{Callee, made_by, made_from, made_at}
use Rattle.dis_objects.specs.Proper.{GoesOn, ProperInst}
use Rattle.typed_lower.specs.Stands.{HasAt}

-- ---- what is being made ready behind some code

abbrev pub behind : List Callee → List Inst → List Callee
behind cs [] = cs
behind cs (i ∷ is) = behind (made_by cs i) is

pub behind_both : (cs : List Callee) (a b : List Inst) → behind cs (a ++ b) ≡ behind (behind cs a) b
behind_both cs [] b = refl
behind_both cs (i ∷ a) b = behind_both (made_by cs i) a b

made_next : (cs : List Callee) (is : List Inst) (pc : ℕ) (i : Inst) → slice_get is pc ≡ Some i
    → made_from cs is (suc pc) ≡ made_by (made_from cs is pc) i
made_next cs [] pc i e = absurd (none-some i e)
made_next cs (j ∷ []) zero i e = ap (made_by cs) (same_Some j i e)
made_next cs (j ∷ k ∷ is) zero i e = ap (made_by cs) (same_Some j i e)
made_next cs (j ∷ is) (suc pc) i e = made_next (made_by cs j) is pc i e

pub made_behind : (codes is : List Inst) (pc : ℕ) → HasAt codes pc is → made_at codes (pc + length is) ≡ behind (made_at codes pc) is
made_behind codes [] pc h = let e : pc + 0 ≡ pc = omega arith in ap (made_at codes) e
made_behind codes (i ∷ is) pc h =
    let e : pc + suc (length is) ≡ suc pc + length is = omega arith in
    ap (made_at codes) e ∙ made_behind codes is (suc pc) h.1 ∙ ap (λ c. behind c is) (made_next [] codes pc i h.0)

pub front_has : (codes : List Inst) (pc : ℕ) (a b : List Inst) → HasAt codes pc (a ++ b) → HasAt codes pc a
front_has codes pc [] b h = tt
front_has codes pc (i ∷ a) b h = (h.0, front_has codes (suc pc) a b h.1)

has_from : (codes : List Inst) (pc pc' : ℕ) (a : List Inst) → pc ≡ pc' → HasAt codes pc a → HasAt codes pc' a
has_from codes pc pc' a e h = subst (λ p. HasAt codes p a) e h

back_has : (codes : List Inst) (pc : ℕ) (a b : List Inst) → HasAt codes pc (a ++ b) → HasAt codes (pc + length a) b
back_has codes pc [] b h = has_from codes pc (pc + 0) b (omega arith) h
back_has codes pc (i ∷ a) b h = has_from codes (suc pc + length a) (pc + suc (length a)) b (omega arith) (back_has codes (suc pc) a b h.1)

-- ---- pieces

-- Nothing is asked of the places behind.
abbrev pub No : ℕ → Type 0
No q = Unit {0}

module _ (m : Module) (f : Function) where
  -- Instructions stand at a place of the function, not at its end, where these are being made ready.
  pub record At (cs : List Callee) (is : List Inst) (pc : ℕ) : Type 0 where
    pub has : HasAt f.code pc is
    pub made : made_at f.code pc ≡ cs
    pub within : pc + length is < length f.code

  abbrev pub All : List Callee → (pc : ℕ) → List Inst → Type 0
  All cs pc [] = Unit {0}
  All cs pc (i ∷ is) = ProperInst m f cs pc i × All (made_by cs i) (suc pc) is

  -- Wherever it stands so, each of its instructions is proper, if what is asked of its end holds there; behind it these are being made
  -- ready.
  pub record Piece (asks : ℕ → Type 0) (cs to : List Callee) (is : List Inst) : Type 0 where
    pub level : behind cs is ≡ to
    pub each : (pc : ℕ) → At cs is pc → asks (pc + length is) → All cs pc is

  abbrev pub Plain : List Callee → List Inst → Type 0
  Plain cs is = Piece No cs cs is

  all_at : (cs : List Callee) (pc pc' : ℕ) (a : List Inst) → pc ≡ pc' → All cs pc a → All cs pc' a
  all_at cs pc pc' a e h = subst (λ p. All cs p a) e h

  pub all_both : (cs : List Callee) (pc : ℕ) (a b : List Inst) → All cs pc a → All (behind cs a) (pc + length a) b → All cs pc (a ++ b)
  all_both cs pc [] b x y = all_at cs (pc + 0) pc b (omega arith) y
  all_both cs pc (i ∷ a) b x y =
      (x.0, all_both (made_by cs i) (suc pc) a b x.1 (all_at _ (pc + suc (length a)) (suc pc + length a) b (omega arith) y))

  pub at_front : (cs : List Callee) (a b : List Inst) (pc : ℕ) → At cs (a ++ b) pc → At cs a pc
  at_front cs a b pc x =
      let l = length-append a b in
      let w = x.within in
      record { has = front_has f.code pc a b x.has; made = x.made; within = omega (arith, l, w) }

  at_back : (cs to : List Callee) (a b : List Inst) (pc : ℕ) → behind cs a ≡ to → At cs (a ++ b) pc → At to b (pc + length a)
  at_back cs to a b pc e x =
      let l = length-append a b in
      let w = x.within in
      record {
        has = back_has f.code pc a b x.has;
        made = made_behind f.code a pc (front_has f.code pc a b x.has) ∙ ap (λ c. behind c a) x.made ∙ e;
        within = omega (arith, l, w);
      }

  -- Control goes on where it stands, and behind it.
  pub goes_here : (cs : List Callee) (is : List Inst) (pc : ℕ) → At cs is pc → GoesOn m f cs pc
  goes_here cs is pc x = let w = x.within in record { within = omega (arith, w); made = x.made }

  pub goes_behind : (cs to : List Callee) (is : List Inst) (pc : ℕ) → behind cs is ≡ to → At cs is pc → GoesOn m f to (pc + length is)
  goes_behind cs to is pc e x =
      record { within = x.within; made = made_behind f.code is pc x.has ∙ ap (λ c. behind c is) x.made ∙ e }

  pub goes_at : (cs : List Callee) (pc pc' : ℕ) → pc ≡ pc' → GoesOn m f cs pc → GoesOn m f cs pc'
  goes_at cs pc pc' e g = subst (GoesOn m f cs) e g

  -- One piece and another.
  pub both : (x y z : ℕ → Type 0) (cs ds es : List Callee) (a b : List Inst) → Piece x cs ds a → Piece y ds es b
      → ((q : ℕ) → At ds b q → z (q + length b) → x q) → ((q : ℕ) → z q → y q) → Piece z cs es (a ++ b)
  both x y z cs ds es a b p r u v = record {
    level = behind_both cs a b ∙ ap (λ c. behind c b) p.level ∙ r.level;
    each = λ pc h k.
        let e : pc + length (a ++ b) ≡ pc + length a + length b = ap (λ n. pc + n) (length-append a b) ∙ omega arith in
        let k' : z (pc + length a + length b) = subst z e k in
        let ha = at_front cs a b pc h in
        let hb = at_back cs ds a b pc p.level h in
        all_both cs pc a b (p.each pc ha (u (pc + length a) hb k'))
        (subst (λ c. All c (pc + length a) b) (sym p.level) (r.each (pc + length a) hb (v (pc + length a + length b) k')));
  }

  pub both_plain : (cs ds es : List Callee) (a b : List Inst) → Piece No cs ds a → Piece No ds es b → Piece No cs es (a ++ b)
  both_plain cs ds es a b p r = both No No No cs ds es a b p r (λ q h k. tt) (λ q k. tt)

  pub none : (asks : ℕ → Type 0) (cs : List Callee) → Piece asks cs cs []
  none asks cs = record { level = refl; each = λ pc h k. tt }

  -- More may be known at the end.
  pub asked : (x z : ℕ → Type 0) (cs ds : List Callee) (a : List Inst) → ((q : ℕ) → z q → x q) → Piece x cs ds a → Piece z cs ds a
  asked x z cs ds a u p = record { level = p.level; each = λ pc h k. p.each pc h (u (pc + length a) k) }

  pub single : (asks : ℕ → Type 0) (cs : List Callee) (i : Inst)
      → ((pc : ℕ) → GoesOn m f (made_by cs i) (suc pc) → asks (suc pc) → ProperInst m f cs pc i) → Piece asks cs (made_by cs i) (i ∷ [])
  single asks cs i u = record {
    level = refl;
    each = λ pc h k.
        let e : pc + length (i ∷ []) ≡ suc pc = omega arith in
        (u pc (goes_at (made_by cs i) _ _ e (goes_behind cs (made_by cs i) (i ∷ []) pc refl h)) (subst asks e k), tt);
  }

  -- Code, and the way back to its begin.
  pub with_back : (x z : ℕ → Type 0) (cs : List Callee) (a : List Inst) (n : ℕ) → length a ≡ n → Piece x cs cs a
      → ((q : ℕ) → GoesOn m f cs (suc q) → z (suc q) → x q) → Piece z cs cs (a ++ Back n ∷ [])
  with_back x z cs a n l p u = record {
    level = behind_both cs a (Back n ∷ []) ∙ p.level;
    each = λ pc h k.
        let e : pc + length (a ++ Back n ∷ []) ≡ suc (pc + length a) = ap (λ j. pc + j) (length-append a (Back n ∷ [])) ∙ omega arith in
        let e' : pc + length a - n ≡ pc = omega (arith, l) in
        let ha = at_front cs a (Back n ∷ []) pc h in
        let hb = at_back cs cs a (Back n ∷ []) pc p.level h in
        let g : GoesOn m f cs (suc (pc + length a)) =
        goes_at cs _ _ (omega arith) (goes_behind cs cs (Back n ∷ []) (pc + length a) refl hb) in
        all_both cs pc a (Back n ∷ []) (p.each pc ha (u (pc + length a) g (subst z e k)))
        (subst (λ c. All c (pc + length a) (Back n ∷ [])) (sym p.level) (goes_at cs pc _ (sym e') (goes_here cs _ pc h), tt));
  }
