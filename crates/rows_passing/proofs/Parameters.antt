-- What stands in the frame once the operands were written over its first parameters, which were zero.
use Rattle.std.proofs.Common.{◌≡◌, ℕ, ◌+◌, ◌≤◌, ◌%◌, List, [], ◌∷◌, ◌++◌, refl, sym, ap, ◌∙◌, subst, arith, inl, inr}
use Rattle.std.specs.Int.{next_multiple_of}
use Rattle.limbo_types.specs.Types.{Ty}
use Rattle.limbo_layout.specs.Adts.{Def}
use Rattle.limbo_layout.specs.Layout.{Room, Laid, AllLaid, behind, all_behind}
use Rattle.limbo_layout.specs.Laying.{rooms_of, room}
use Rattle.limbo_layout.proofs.Rooms.{all_grow}
use Rattle.limbo_meaning.specs.Values.{Value, nothing, fitted, all_fitted}
use Rattle.core_code.specs.Rooms.{rooms_in}
use Rattle.core_typing.specs.Needs.{AllStandAs}
use Rattle.dis_meaning.specs.Words.{Word}
use Rattle.value_words.specs.Contents.{content, AreInRange}
use Rattle.value_words.specs.Facts.{Facts}
use Rattle.value_words.specs.Stands.{Stands, AllStand, none_stand, more_stand}
use Rattle.value_words.proofs.Aligned.{IsPower, laid_power, suits, inside}
use Rattle.value_words.proofs.Moved as bytes
use Rattle.value_moves.specs.Writing.{Writes}
use Rattle.value_moves.proofs.Standing.{stand_apart}
use Rattle.rows_calling.proofs.Parameters.{stands_as, same_room}

-- a place suits an alignment behind the linkage, too
behind_linkage : (a n : ℕ) → IsPower a → n % a ≡ 0 → (32 + n) % a ≡ 0
behind_linkage a n (inl e) f = on 1 e (omega arith)
  where
    on : (b : ℕ) → a ≡ b → (32 + n) % b ≡ 0 → (32 + n) % a ≡ 0
    on b e g = ap (λ (c : ℕ). (32 + n) % c) e ∙ g
behind_linkage a n (inr (inl e)) f =
    let g : n % 4 ≡ 0 = ap (λ (c : ℕ). n % c) (sym e) ∙ f in
    ap (λ (c : ℕ). (32 + n) % c) e ∙ omega (arith, g)
behind_linkage a n (inr (inr e)) f =
    let g : n % 8 ≡ 0 = ap (λ (c : ℕ). n % c) (sym e) ∙ f in
    ap (λ (c : ℕ). (32 + n) % c) e ∙ omega (arith, g)

module _ (defs : List Def) (k : Facts) (source target others : List Word) (size : ℕ) (write : Writes target others 32 source 0 size)
    (first : AreInRange source) (second : AreInRange target) (third : AreInRange others) where
  abbrev rooms : List Ty → List Room
  rooms ts = rooms_of (rooms_in defs) ts

  abbrev room_of : Ty → Room
  room_of t = room (rooms_in defs) t

  -- what lies behind what was written
  rest_stand : (at : ℕ) (w : Room) (ts : List Ty) (rs : List Room) (us vs : List Value) → at ≡ 32 → size ≤ w.size → AllLaid defs ts rs → us ≡ vs
      → AllStand defs k target at w ts rs us → AllStand defs k others at w ts rs vs
  rest_stand _ _ _ _ _ vs is far laid e (none_stand at w) =
      subst (λ (xs : List Value). AllStand defs k others at w [] [] xs) e (none_stand at w)
  rest_stand _ _ _ _ _ vs is far laid e (more_stand at w t ts r rs v us s all) =
      let both = inside defs t ts r rs laid in
      let even = suits defs w t ts r rs laid in
      let suit : (at + next_multiple_of w.size r.align) % r.align ≡ 0 = subst (λ (n : ℕ). (n + next_multiple_of w.size r.align) % r.align ≡ 0) (sym is)
      (behind_linkage r.align (next_multiple_of w.size r.align) (laid_power defs t r both.0) even) in
      subst (λ (xs : List Value). AllStand defs k others at w (t ∷ ts) (r ∷ rs) xs) e
      (more_stand at w t ts r rs v us
      (stand_apart defs k target others 32 source 0 size (at + next_multiple_of w.size r.align) t r v write both.0 suit
      (inr (omega (arith, far, is))) second third s)
      (rest_stand at (behind w r) ts rs us us is (omega (arith, far)) both.1 refl all))

  -- one operand
  one_stands : (from at off : ℕ) (u : Ty) (r : Room) (v : Value) → from ≡ 0 → at ≡ 32 → off + r.size ≤ size → Laid defs u r → off % r.align ≡ 0
      → Stands defs k source (from + off) u v → Stands defs k others (at + off) u v
  one_stands from at off u r v none is low laid even s =
      bytes.moved source others first third defs k (from + off) (at + off) u r v laid
      (subst (λ (n : ℕ). (n + off) % r.align ≡ 0) (sym is) (behind_linkage r.align off (laid_power defs u r laid) even))
      (λ o l.
      let e : at + off + o ≡ 32 + (off + o) = omega (arith, is) in
      let f : 0 + (off + o) ≡ from + off + o = omega (arith, none) in
      ap (content others) e ∙ (write.there (off + o) (omega (arith, low, l)) ∙ ap (content source) f)) s

  -- what stood behind the first
  tail_stand : (at : ℕ) (w : Room) (ys : List Ty) (qs : List Room) (olds : List Value) (t : Ty) (ts : List Ty) (r : Room) (rs : List Room)
      → ys ≡ t ∷ ts → qs ≡ r ∷ rs → AllStand defs k target at w ys qs olds
      → (o : Value) × (os : List Value) × (olds ≡ o ∷ os) × AllStand defs k target at (behind w r) ts rs os
  tail_stand _ _ _ _ _ t ts r rs e f (none_stand at w) = absurd cc
  tail_stand _ _ _ _ _ t ts r rs e f (more_stand at w u us q qs v vs s all) =
      let a : us ≡ ts = cc in
      let b : q ≡ r = cc in
      let c : qs ≡ rs = cc in (
        v,
        vs,
        refl,
        subst (λ (z : List Ty). AllStand defs k target at (behind w r) z rs vs) a
            (subst (λ (z : List Room). AllStand defs k target at (behind w r) us z vs) c
            (subst (λ (z : Room). AllStand defs k target at (behind w z) us qs vs) b all)),
      )

  same_tail : (o n : Value) (os ns : List Value) → o ∷ os ≡ n ∷ ns → os ≡ ns
  same_tail o n os ns e = cc

  first_same : (r s : Room) (rs ss : List Room) → r ∷ rs ≡ s ∷ ss → r ≡ s
  first_same r s rs ss e = cc

  rest_same : (r s : Room) (rs ss : List Room) → r ∷ rs ≡ s ∷ ss → rs ≡ ss
  rest_same r s rs ss e = cc

  -- The operands stand for the first parameters, and behind them all is zero.
  pub passed : (from at : ℕ) (w : Room) (us ts more : List Ty) (rs : List Room) (vs olds : List Value) → from ≡ 0 → at ≡ 32
      → (all_behind w rs).size ≡ size → AllLaid defs us rs → AllLaid defs (ts ++ more) (rooms (ts ++ more)) → AllStandAs us ts → rs ≡ rooms us
      → olds ≡ all_fitted defs (ts ++ more) [] → AllStand defs k source from w us rs vs
      → AllStand defs k target at w (ts ++ more) (rooms (ts ++ more)) olds
      → AllStand defs k others at w (ts ++ more) (rooms (ts ++ more)) (all_fitted defs (ts ++ more) vs)
  passed _ at _ _ [] more _ _ olds none is far laid all_laid so e zeros (none_stand from w) old =
      rest_stand at w more (rooms more) olds (all_fitted defs more []) is (omega (arith, far)) all_laid zeros old
  passed _ at _ _ (t ∷ ts) more _ _ olds none is far laid all_laid so e zeros (none_stand from w) old = absurd so
  passed _ at _ _ [] more _ _ olds none is far laid all_laid so e zeros (more_stand from w u us r rs v vs s rest) old = absurd so
  passed _ at _ _ (t ∷ ts) more _ _ olds none is far laid all_laid so e zeros (more_stand from w u us r rs v vs s rest) old =
      let both = inside defs u us r rs laid in
      let even = suits defs w u us r rs laid in
      let others_laid = inside defs t (ts ++ more) (room_of t) (rooms (ts ++ more)) all_laid in
      let same : r ≡ room_of t = first_same r (room_of u) rs (rooms us) e ∙ same_room (rooms_in defs) u t so.0 in
      let grown = all_grow (behind w r) rs in
      let here = one_stands from at (next_multiple_of w.size r.align) u r v none is (omega (arith, far, grown)) both.0 even s in
      let tail = tail_stand at w (t ∷ (ts ++ more)) (rooms (t ∷ (ts ++ more))) olds t (ts ++ more) (room_of t) (rooms (ts ++ more)) refl refl old in
      let next = passed from at (behind w r) us ts more rs vs tail.1 none is far both.1 others_laid.1 so.1 (rest_same r (room_of u) rs (rooms us) e)
      (same_tail tail.0 (fitted defs t nothing) tail.1 (all_fitted defs (ts ++ more) []) (sym tail.2 ∙ zeros)) rest
      (subst (λ (q : Room). AllStand defs k target at (behind w q) (ts ++ more) (rooms (ts ++ more)) tail.1) (sym same) tail.3) in
      more_stand at w t (ts ++ more) (room_of t) (rooms (ts ++ more)) (fitted defs t v) (all_fitted defs (ts ++ more) vs)
      (subst (λ (y : Room). Stands defs k others (at + next_multiple_of w.size y.align) t (fitted defs t v)) same
      (stands_as defs k others (at + next_multiple_of w.size r.align) u t v so.0 here))
      (subst (λ (y : Room). AllStand defs k others at (behind w y) (ts ++ more) (rooms (ts ++ more)) (all_fitted defs (ts ++ more) vs)) same next)
