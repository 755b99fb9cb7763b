-- Parts of values: where they stand, and another one in the place of one.
use Rattle.std.proofs.Common.{◌≡◌, ℕ, zero, suc, ◌+◌, ◌<◌, ◌≤◌, ◌%◌, List, [], ◌∷◌, take, Some, refl, sym, ap, ◌∙◌, subst, arith}
use Rattle.std.specs.Prelude.{slice_get, slice_set}
use Rattle.std.specs.Int.{next_multiple_of}
use Rattle.limbo_types.specs.Types as ty
use Rattle.limbo_types.specs.Types.{Ty, Tys}
use Rattle.limbo_layout.specs.Adts as adts
use Rattle.limbo_layout.specs.Adts.{Def, parts}
use Rattle.limbo_layout.specs.Layout as layout
use Rattle.limbo_layout.specs.Layout.{Room, Laid, AllLaid, none_laid, nothing, behind, all_behind, in_order}
use Rattle.limbo_layout.proofs.Rooms.{one_room, all_one, rounded_grows}
use Rattle.limbo_values.specs.declared.number.Kind.{Kind}
use Rattle.limbo_values.specs.declared.number.Kind.TheVariants as kind
use Rattle.limbo_typed.specs.Fitting.{of_kind}
use Rattle.limbo_meaning.specs.Values.{Value, Values, MoreValues, Parts, row, listed}
use Rattle.limbo_meaning.specs.Places.{value_part, put_part, with_part}
use Rattle.core_code.specs.Terms.{part_types, parts_there}
use Rattle.core_code.proofs.Names.{listed_row}
use Rattle.dis_meaning.specs.Words.{Word}
use Rattle.value_words.specs.Contents.{content, SameBytes, AreInRange}
use Rattle.value_words.specs.Facts.{Facts}
use Rattle.value_words.specs.Laws.{offset_of}
use Rattle.value_words.specs.Stands.{IsReference, Stands, a_number, a_text, a_name, an_array, no_words, a_tuple, an_adt}
use Rattle.value_words.specs.Stands.{AllStand, none_stand, more_stand}
use Rattle.value_words.proofs.Aligned.{IsPower, stays_aligned, laid_power, suits, inside, ends_within, aligned_within}
use Rattle.value_words.proofs.Moved.{moved}

row_same : (us vs : List Value) → row us ≡ row vs → us ≡ vs
row_same us vs e = sym (listed_row us) ∙ ap listed e ∙ listed_row vs

module _ (defs : List Def) where
  adt_types : (n : ℕ) (d : Def) → slice_get defs n ≡ Some d → part_types defs (ty.Adt n) ≡ parts d
  adt_types n d e = ap (parts_there defs) e

  -- ---- parts of a value stand

  module _ (facts : Facts) (words : List Word) where
    pub parts_stand : (at : ℕ) (t : Ty) (v : Value) → Stands defs facts words at t v → (vs : List Value) → v ≡ Parts (row vs)
        → (rs : List Room) → AllLaid defs (part_types defs t) rs → AllStand defs facts words at nothing (part_types defs t) rs vs
    parts_stand _ _ _ (a_number at k z e i) vs f rs l = absurd cc
    parts_stand _ _ _ (a_text at r s e h) vs f rs l = absurd cc
    parts_stand _ _ _ (a_name at t r n i e h) vs f rs l = absurd cc
    parts_stand _ _ _ (an_array at t r p e h) vs f rs l = absurd cc
    parts_stand _ _ _ (no_words at) [] f rs l =
        subst (λ (ss : List Room). AllStand defs facts words at nothing [] ss []) (all_one defs [] [] rs none_laid l)
        (none_stand at nothing)
    parts_stand _ _ _ (no_words at) (v ∷ vs) f rs l = absurd cc
    parts_stand _ _ _ (a_tuple at ts ss us m all) vs f rs l =
        let same : us ≡ vs = row_same us vs (let g : row us ≡ row vs = cc in g) in
        subst (λ (ws : List Value). AllStand defs facts words at nothing (adts.listed ts) rs ws) same
        (subst (λ (qs : List Room). AllStand defs facts words at nothing (adts.listed ts) qs us)
        (all_one defs (adts.listed ts) ss rs m l) all)
    parts_stand _ _ _ (an_adt at n d ss us e m all) vs f rs l =
        let same : us ≡ vs = row_same us vs (let g : row us ≡ row vs = cc in g) in
        let l' = subst (λ (ts : List Ty). AllLaid defs ts rs) (adt_types n d e) l in
        subst (λ (ts : List Ty). AllStand defs facts words at nothing ts rs vs) (sym (adt_types n d e))
        (subst (λ (ws : List Value). AllStand defs facts words at nothing (parts d) rs ws) same
        (subst (λ (qs : List Room). AllStand defs facts words at nothing (parts d) qs us) (all_one defs (parts d) ss rs m l') all))

    pub part_among : (at : ℕ) (w : Room) (ts : List Ty) (rs : List Room) (vs : List Value) (n : ℕ) (u : Ty) (r : Room)
        → AllStand defs facts words at w ts rs vs → slice_get ts n ≡ Some u → slice_get rs n ≡ Some r
        → Stands defs facts words (at + next_multiple_of (all_behind w (take n rs)).size r.align) u (value_part n (row vs))
    part_among _ _ _ _ _ n u r (none_stand at w) e f = absurd cc
    part_among _ _ _ _ _ zero u r (more_stand at w t ts s rs v vs a b) e f =
        let g : t ≡ u = cc in
        let h : s ≡ r = cc in
        subst (λ (q : Room). Stands defs facts words (at + next_multiple_of w.size q.align) u v) h
        (subst (λ (x : Ty). Stands defs facts words (at + next_multiple_of w.size s.align) x v) g a)
    part_among _ _ _ _ _ (suc n) u r (more_stand at w t ts s rs v vs a b) e f = part_among at (behind w s) ts rs vs n u r b e f

  -- ---- another one in its place

  put_row : (n : ℕ) (x : Value) (vs : List Value) → put_part n x (row vs) ≡ row (slice_set vs n x)
  put_row zero x [] = refl
  put_row (suc n) x [] = refl
  put_row zero x (v ∷ vs) = refl
  put_row (suc n) x (v ∷ vs) = ap (λ (us : Values). MoreValues v us) (put_row n x vs)

  no_number_parts : (k : Kind) (n : ℕ) (u : Ty) → slice_get (part_types defs (of_kind k)) n ≡ Some u → ⊥
  no_number_parts kind.Byte n u f = cc
  no_number_parts kind.Int n u f = cc
  no_number_parts kind.Big n u f = cc

  no_reference_parts : (t : Ty) (n : ℕ) (u : Ty) → IsReference t → slice_get (part_types defs t) n ≡ Some u → ⊥
  no_reference_parts ty.Nil n u h f = cc
  no_reference_parts (ty.ListOf t) n u h f = cc
  no_reference_parts (ty.ChanOf t) n u h f = cc
  no_reference_parts (ty.RefAdt m) n u h f = cc
  no_reference_parts (ty.RefPick m k) n u h f = cc
  no_reference_parts (ty.Module m) n u h f = cc
  no_reference_parts _ n u h f = h

  module _ (facts : Facts) (words others : List Word) (ranges : AreInRange words) (in_range : AreInRange others) where
    -- so many bytes from one on stay, of those of a whole
    abbrev Stay : (at from size : ℕ) → Type 0
    Stay at from size = (o : ℕ) → from ≤ o → o < size → SameBytes words (at + o) others (at + o) 1

    part_moves : (at align off : ℕ) (t : Ty) (r : Room) (v : Value) → Laid defs t r → IsPower align → r.align ≤ align
        → at % align ≡ 0 → off % r.align ≡ 0 → ((o : ℕ) → off ≤ o → o < off + r.size → SameBytes words (at + o) others (at + o) 1)
        → Stands defs facts words (at + off) t v → Stands defs facts others (at + off) t v
    part_moves at align off t r v l p f a e s h =
        moved words others ranges in_range defs facts (at + off) (at + off) t r v l
        (stays_aligned at off r.align align (laid_power defs t r l) p f a e)
        (λ o k.
        let g : at + off + o ≡ at + (off + o) + 0 = omega arith in
        ap (content others) g ∙ s (off + o) (omega arith) (omega arith) 0 (omega arith) ∙ ap (content words) (sym g))
        h

    rest_moves : (at size align : ℕ) (w : Room) (ts : List Ty) (rs : List Room) (vs : List Value) → AllLaid defs ts rs → IsPower align
        → (all_behind w rs).size ≤ size → (all_behind w rs).align ≤ align → at % align ≡ 0 → Stay at w.size size
        → AllStand defs facts words at w ts rs vs → AllStand defs facts others at w ts rs vs
    rest_moves _ size align _ _ _ _ l p f g a s (none_stand at w) = none_stand at w
    rest_moves _ size align _ _ _ _ l p f g e s (more_stand at w t ts r rs v vs a b) =
        let i = inside defs t ts r rs l in
        let off = next_multiple_of w.size r.align in
        let c = ends_within w r rs in
        let d = aligned_within w r rs in
        more_stand at w t ts r rs v vs
        (part_moves at align off t r v i.0 p (omega arith) e (suits defs w t ts r rs l) (λ o h k. s o (omega arith) (omega arith)) a)
        (rest_moves at size align (behind w r) ts rs vs i.1 p f g e (λ o h k. s o (omega arith) k) b)

    replaced_among : (at size align : ℕ) (w : Room) (ts : List Ty) (rs : List Room) (vs : List Value) (n : ℕ) (u : Ty) (r : Room)
        (x : Value) → AllLaid defs ts rs → IsPower align → (all_behind w rs).size ≤ size → (all_behind w rs).align ≤ align → at % align ≡ 0
        → slice_get ts n ≡ Some u → slice_get rs n ≡ Some r
        → ((o : ℕ) → o < next_multiple_of (all_behind w (take n rs)).size r.align → SameBytes words (at + o) others (at + o) 1)
        → Stay at (next_multiple_of (all_behind w (take n rs)).size r.align + r.size) size
        → Stands defs facts others (at + next_multiple_of (all_behind w (take n rs)).size r.align) u x
        → AllStand defs facts words at w ts rs vs → AllStand defs facts others at w ts rs (slice_set vs n x)
    replaced_among _ size align _ _ _ _ n u r x l p f g e i j before after h (none_stand at w) = absurd cc
    replaced_among _ size align _ _ _ _ zero u r x l p f g e i j before after h (more_stand at w t ts s rs v vs a b) =
        let q = inside defs t ts s rs l in
        let c : u ≡ t = cc in
        let d : r ≡ s = cc in
        more_stand at w t ts s rs x vs
        (subst (λ (z : Room). Stands defs facts others (at + next_multiple_of w.size z.align) t x) d
        (subst (λ (z : Ty). Stands defs facts others (at + next_multiple_of w.size r.align) z x) c h))
        (rest_moves at size align (behind w s) ts rs vs q.1 p f g e
        (subst (λ (z : Room). Stay at (next_multiple_of w.size z.align + z.size) size) d after) b)
    replaced_among _ size align _ _ _ _ (suc n) u r x l p f g e i j before after h (more_stand at w t ts s rs v vs a b) =
        let q = inside defs t ts s rs l in
        let off = next_multiple_of w.size s.align in
        let c = ends_within w s (take n rs) in
        let d = aligned_within w s rs in
        more_stand at w t ts s rs v (slice_set vs n x)
        (part_moves at align off t s v q.0 p (omega arith) e (suits defs w t ts s rs l) (λ o y k. before o (omega arith)) a)
        (replaced_among at size align (behind w s) ts rs vs n u r x q.1 p f g e i j before after h b)

    pub replaced : (at : ℕ) (t : Ty) (whole : Room) (v x : Value) (rs : List Room) (n : ℕ) (u : Ty) (r : Room)
        → Stands defs facts words at t v → Laid defs t whole → at % whole.align ≡ 0
        → AllLaid defs (part_types defs t) rs → slice_get (part_types defs t) n ≡ Some u → slice_get rs n ≡ Some r
        → ((o : ℕ) → o < offset_of rs n r → SameBytes words (at + o) others (at + o) 1) → Stay at (offset_of rs n r + r.size) whole.size
        → Stands defs facts others (at + offset_of rs n r) u x → Stands defs facts others at t (with_part (n ∷ []) x v)
    replaced _ _ whole _ x rs n u r (a_number at k z e i) l a m f g before after h = absurd (no_number_parts k n u f)
    replaced _ _ whole _ x rs n u r (a_text at p s e i) l a m f g before after h = absurd cc
    replaced _ _ whole _ x rs n u r (a_name at t p q i e k) l a m f g before after h = absurd (no_reference_parts t n u i f)
    replaced _ _ whole _ x rs n u r (an_array at t p q e k) l a m f g before after h = absurd cc
    replaced _ _ whole _ x rs n u r (no_words at) l a m f g before after h = absurd cc
    replaced _ _ whole _ x rs n u r (a_tuple at ts ss vs k all) l a m f g before after h =
        let one = one_room defs (ty.Tuple ts) whole (in_order rs) l (layout.of_tuple ts rs m) in
        let b = ap (λ (z : Room). z.size) one in
        let c = rounded_grows (all_behind nothing rs) in
        let d = ap (λ (z : Room). z.align) one in
        subst (λ (us : Values). Stands defs facts others at (ty.Tuple ts) (Parts us)) (sym (put_row n x vs))
        (a_tuple at ts rs (slice_set vs n x) m
        (replaced_among at whole.size whole.align nothing (adts.listed ts) rs vs n u r x m (laid_power defs (ty.Tuple ts) whole l)
        (omega arith) (omega arith) a f g before after h
        (subst (λ (qs : List Room). AllStand defs facts words at nothing (adts.listed ts) qs vs)
        (all_one defs (adts.listed ts) ss rs k m) all)))
    replaced _ _ whole _ x rs n u r (an_adt at j y ss vs e k all) l a m f g before after h =
        let types = adt_types j y e in
        let m' = subst (λ (ts : List Ty). AllLaid defs ts rs) types m in
        let one = one_room defs (ty.Adt j) whole (in_order rs) l (layout.of_adt j y rs e m') in
        let b = ap (λ (z : Room). z.size) one in
        let c = rounded_grows (all_behind nothing rs) in
        let d = ap (λ (z : Room). z.align) one in
        subst (λ (us : Values). Stands defs facts others at (ty.Adt j) (Parts us)) (sym (put_row n x vs))
        (an_adt at j y rs (slice_set vs n x) e m'
        (replaced_among at whole.size whole.align nothing (parts y) rs vs n u r x m' (laid_power defs (ty.Adt j) whole l)
        (omega arith) (omega arith) a (ap (λ (ts : List Ty). slice_get ts n) (sym types) ∙ f) g before after h
        (subst (λ (qs : List Room). AllStand defs facts words at nothing (parts y) qs vs) (all_one defs (parts y) ss rs k m') all)))
