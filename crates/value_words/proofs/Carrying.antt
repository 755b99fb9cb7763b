-- What carries numbers and references from words to others carries values.
use Rattle.std.proofs.Common.{◌≡◌, ℕ, ◌+◌, ◌≤◌, ◌%◌, ℤ, pos, List, Option, refl, subst, arith}
use Rattle.std.specs.Int.{next_multiple_of}
use Rattle.limbo_types.specs.Types as ty
use Rattle.limbo_types.specs.Types.{Ty, Tys}
use Rattle.limbo_layout.specs.Adts.{Def, parts, listed}
use Rattle.limbo_layout.specs.Layout as layout
use Rattle.limbo_layout.specs.Layout.{Room, Laid, AllLaid, is_alone, nothing, number, reference, behind, all_behind, in_order}
use Rattle.limbo_layout.proofs.Rooms.{one_room, rounded_grows}
use Rattle.limbo_values.specs.declared.number.Kind.{Kind}
use Rattle.limbo_values.specs.declared.number.Kind.TheVariants as kind
use Rattle.limbo_values.specs.Numbers.{InRange}
use Rattle.limbo_typed.specs.Fitting.{of_kind}
use Rattle.limbo_meaning.specs.Values.{Value}
use Rattle.dis_meaning.specs.Words.{Word, Refer, Found, word_at}
use Rattle.dis_meaning.specs.Numbers.{number_at}
use Rattle.value_words.specs.Facts.{Facts}
use Rattle.value_words.specs.Stands.{IsReference, Stands, a_number, a_text, a_name, an_array, no_words, a_tuple, an_adt}
use Rattle.value_words.specs.Stands.{AllStand, none_stand, more_stand}
use Rattle.value_words.proofs.Aligned.{IsPower, laid_power, suits, inside, ends_within, aligned_within}

abbrev pub bytes_in : Kind → ℕ
bytes_in kind.Byte = 1
bytes_in kind.Int = 4
bytes_in kind.Big = 8

pub number_laid : (defs : List Def) (k : Kind) → Laid defs (of_kind k) (number (bytes_in k))
number_laid defs kind.Byte = is_alone ty.Byte (number 1) refl
number_laid defs kind.Int = is_alone ty.Int (number 4) refl
number_laid defs kind.Big = is_alone ty.Big (number 8) refl

pub reference_laid : (defs : List Def) (t : Ty) → IsReference t → Laid defs t reference
reference_laid defs ty.Nil h = is_alone ty.Nil reference refl
reference_laid defs (ty.ListOf t) h = is_alone (ty.ListOf t) reference refl
reference_laid defs (ty.ChanOf t) h = is_alone (ty.ChanOf t) reference refl
reference_laid defs (ty.RefAdt n) h = is_alone (ty.RefAdt n) reference refl
reference_laid defs (ty.RefPick n v) h = is_alone (ty.RefPick n v) reference refl
reference_laid defs (ty.Module n) h = is_alone (ty.Module n) reference refl
reference_laid defs _ h = absurd h

-- What is the same of so many bytes, from one on and from another.
module _ (defs : List Def) (facts : Facts) (words others : List Word) (Same : (at there size align : ℕ) → Type 0)
    (number_goes : (at there : ℕ) (k : Kind) (z : ℤ) → Same at there (bytes_in k) (bytes_in k) → number_at k words (pos at) ≡ Found z
    → InRange k z → number_at k others (pos there) ≡ Found z)
    (reference_goes : (at there : ℕ) (r : Option ℕ) → Same at there 4 4 → word_at words (pos at) ≡ Found (Refer r)
    → word_at others (pos there) ≡ Found (Refer r))
    (part_same : (at there size align off s a : ℕ) → IsPower align → IsPower a → a ≤ align → off % a ≡ 0 → off + s ≤ size
    → Same at there size align → Same (at + off) (there + off) s a) where
  is_in : (at there : ℕ) (t : Ty) (r q : Room) → Laid defs t r → Laid defs t q → Same at there r.size r.align → Same at there q.size q.align
  is_in at there t r q l m s = subst (λ (z : Room). Same at there z.size z.align) (one_room defs t r q l m) s

  mutual
    pub carried : (at there : ℕ) (t : Ty) (r : Room) (v : Value) → Laid defs t r → Same at there r.size r.align
        → Stands defs facts words at t v → Stands defs facts others there t v
    carried _ there _ r _ l s (a_number at k z e i) =
        a_number there k z (number_goes at there k z (is_in at there (of_kind k) r (number (bytes_in k)) l (number_laid defs k) s) e i) i
    carried _ there _ r _ l s (a_text at p t e h) =
        a_text there p t (reference_goes at there p (is_in at there ty.Chars r reference l (is_alone ty.Chars reference refl) s) e) h
    carried _ there _ r _ l s (a_name at t p n i e h) =
        a_name there t p n i (reference_goes at there p (is_in at there t r reference l (reference_laid defs t i) s) e) h
    carried _ there _ r _ l s (an_array at t p a e h) =
        an_array there t p a
        (reference_goes at there p (is_in at there (ty.ArrayOf t) r reference l (is_alone (ty.ArrayOf t) reference refl) s) e) h
    carried _ there _ r _ l s (no_words at) = no_words there
    carried _ there _ r _ l s (a_tuple at ts rs vs m all) =
        a_tuple there ts rs vs m (all_carried at there (in_order rs).size (in_order rs).align nothing (listed ts) rs vs m
        (laid_power defs (ty.Tuple ts) (in_order rs) (layout.of_tuple ts rs m))
        (rounded_grows (all_behind nothing rs)) (omega arith)
        (is_in at there (ty.Tuple ts) r (in_order rs) l (layout.of_tuple ts rs m) s) all)
    carried _ there _ r _ l s (an_adt at n d rs vs e m all) =
        an_adt there n d rs vs e m (all_carried at there (in_order rs).size (in_order rs).align nothing (parts d) rs vs m
        (laid_power defs (ty.Adt n) (in_order rs) (layout.of_adt n d rs e m))
        (rounded_grows (all_behind nothing rs)) (omega arith)
        (is_in at there (ty.Adt n) r (in_order rs) l (layout.of_adt n d rs e m) s) all)

    pub all_carried : (at there size align : ℕ) (w : Room) (ts : List Ty) (rs : List Room) (vs : List Value) → AllLaid defs ts rs
        → IsPower align → (all_behind w rs).size ≤ size → (all_behind w rs).align ≤ align → Same at there size align
        → AllStand defs facts words at w ts rs vs → AllStand defs facts others there w ts rs vs
    all_carried _ there size align _ _ _ _ l p f g s (none_stand at w) = none_stand there w
    all_carried _ there size align _ _ _ _ l p f g s (more_stand at w t ts r rs v vs a b) =
        let i = inside defs t ts r rs l in
        let off = next_multiple_of w.size r.align in
        let c = ends_within w r rs in
        let d = aligned_within w r rs in
        more_stand there w t ts r rs v vs
        (carried (at + off) (there + off) t r v i.0
        (part_same at there size align off r.size r.align p (laid_power defs t r i.0) (omega arith) (suits defs w t ts r rs l)
        (omega arith) s) a)
        (all_carried at there size align (behind w r) ts rs vs i.1 p f g s b)
