-- Operands are put together one by one, and nodes behind them go well: a tuple, an adt's value, a call, a print.
use Rattle.std.proofs.Common.{◌≡◌, ℕ, zero, suc, ◌+◌, ◌-◌, ◌<◌, ◌≤◌, Bool, true, false, List, [], ◌∷◌, ◌++◌, length, Option, Some, None}
use Rattle.std.proofs.Common.{refl, sym, ap}
use Rattle.std.proofs.Common.{subst, ◌∙◌, arith, inl, inr, ⊎_elim, ◌⊎◌, take, drop, append-nil, append_assoc, length-append}
use Rattle.std.proofs.lemmas.Bool.{cases_eq, ne_eqb}
use Rattle.std.proofs.lemmas.Int.{ints}
use Rattle.std.specs.Prelude.{pos, slice_get, slice_index_or, nat_eq, if◌then◌else◌}
use Rattle.limbo_types.specs.Types as ty
use Rattle.limbo_types.specs.Types.{Ty}
use Rattle.limbo_types.specs.View.{tys_of}
use Rattle.limbo_layout.specs.Layout.{reference, is_alone}
use Rattle.limbo_layout.specs.Adts.{Def, Field, Variant, listed, parts, tag, types_of, variant_types}
use Rattle.limbo_values.specs.declared.number.Kind.TheVariants as kind
use Rattle.limbo_values.specs.Numbers.{InRange}
use Rattle.limbo_typed.specs.Fitting.{HasPart, Stands, AllStand, Gives, TakesFields}
use Rattle.limbo_typed.specs.declared.operation.Operation.{Operation}
use Rattle.limbo_typed.specs.declared.operation.Operation.TheVariants as operation
use Rattle.limbo_typed.specs.declared.print.Piece.{Piece}
use Rattle.limbo_meaning.specs.Trees as tree
use Rattle.limbo_meaning.specs.Trees.{Operate}
use Rattle.limbo_meaning.specs.Evaluation.{passes_on}
use Rattle.limbo_kept.specs.Operating.{HasRoom}
use Rattle.limbo_kept.specs.Trees.{Scope, WorkIs}
use Rattle.limbo_kept.specs.Processes.{AllHaveRooms}
use Rattle.core_code.specs.Code.{Instr, Place, Gather, Call, Print}
use Rattle.core_code.specs.Terms.{LoweredAll, Moved, count_of, drops_from, drops_if, drops_after_all, gathers, placed}
use Rattle.core_code.specs.Terms.{variant_of, moves_into, node, part_types, parts_there, part_numbers, adt_numbers, numbers_from}
use Rattle.core_follows.specs.Drops.{Between, Beside, AllTouch, HasAt}
use Rattle.core_follows.specs.Handled.{HasLayout, Makes}
use Rattle.core_follows.proofs.Holding.{has_front, has_back}
use Rattle.core_follows.proofs.Static.{after_touch, touch_wide}
use Rattle.core_follows.proofs.Valued.{AllValued, spare_outside}
use Rattle.core_typing.specs.Held.{Held, Of, Forming, Decided, Turns, Slots, empty, slot, put, type_held, live_in, moved}
use Rattle.core_typing.specs.Held.{type_forming, with_operand, or_nothing, live_formed, formed, Has, parts_in}
use Rattle.core_typing.specs.Needs.{AllStandAs, AreThese, Finds, printed, IsBegun, AreArguments, IsClean, AreClean}
use Rattle.core_typing.specs.Written.{given_to, told}
use Rattle.core_typing.specs.Going.{stand, behind, IsFirst, IsTagged, FormsAsTold, Agrees, Goes, into_part, all_of}
use Rattle.core_typing.specs.Runs.{VariantsAreFew}
use Rattle.core_typing.proofs.Telling.{Quiet, quiet_more, Gave, gave, none_into, some_into, told_same, told_over, told_at, told_given}
use Rattle.core_typing.proofs.Going.{put_same, put_other, put_long, same_place, goes_to}
use Rattle.core_typing.proofs.Cleaning.{clean_same, has_either, has_number}
use Rattle.core_typing.proofs.Drops.{Lets, none, lets_same, lets_more}
use Rattle.core_typing.proofs.Standing.{as_on, itself, count_as, is_same, all_as_on, all_stand_on, all_stand_long, all_stand_itself}
use Rattle.core_typing.proofs.Standing.{listed_types, tuple_room}
use Rattle.core_typing.proofs.Moving.{DiffersFrom, AllDiffer, emptied, emptied_put, emptied_other, long_emptied, set_again, set_itself}
use Rattle.core_typing.proofs.Moving.{all_moved, SpareEach, EachIn, Suit, moved_same, gather_lets, part_below, whole_counted, made_laid}
use Rattle.core_typing.proofs.Nodes.{GoesBy, left_at, lets_up, lets_own, all_below}

-- ---- operands that suit parts

-- At these numbers parts are that operands of these types stand for.
abbrev pub Fit : (parts : List Ty) → (numbers : List ℕ) → List Ty → Type 0
Fit P [] [] = Unit {0}
Fit P (k ∷ ks) (t ∷ ts) = ((w : Ty) × (slice_get P k ≡ Some w) × Stands t w) × Fit P ks ts
Fit P _ _ = ⊥

fit_row : (P W : List Ty) (p : ℕ) (defs : List Def) (ts : List Ty)
    → ((i : ℕ) (w : Ty) → slice_get W i ≡ Some w → slice_get P (p + i) ≡ Some w) → AllStand ts W
    → Fit P (numbers_from defs p (length ts)) ts
fit_row P [] p defs [] f a = tt
fit_row P (w ∷ W) p defs [] f a = absurd a
fit_row P [] p defs (t ∷ ts) f a = absurd a
fit_row P (w ∷ W) p defs (t ∷ ts) f a =
    let e : p + 0 ≡ p = omega arith in (
      (w, subst (λ (q : ℕ). slice_get P q ≡ Some w) e (f 0 w refl), a.0),
      fit_row P W (suc p) defs ts
          (λ i x g. let q : p + suc i ≡ suc p + i = omega arith in subst (λ (j : ℕ). slice_get P j ≡ Some x) q (f (suc i) x g)) a.1,
    )

fit_more : (P : List Ty) (ks ls : List ℕ) (ts us : List Ty) → Fit P ks ts → Fit P ls us → Fit P (ks ++ ls) (ts ++ us)
fit_more P [] ls [] us f g = g
fit_more P [] ls (t ∷ ts) us f g = absurd f
fit_more P (k ∷ ks) ls [] us f g = absurd f
fit_more P (k ∷ ks) ls (t ∷ ts) us f g = (f.0, fit_more P ks ls ts us f.1 g)

get_at : (P : List Ty) (i j : ℕ) (w : Ty) → i ≡ j → slice_get P i ≡ Some w → slice_get P j ≡ Some w
get_at P i j w q e = subst (λ (k : ℕ). slice_get P k ≡ Some w) q e

get_plain : (P : List Ty) (i : ℕ) (w : Ty) → slice_get P i ≡ Some w → slice_get P (0 + i) ≡ Some w
get_plain P i w e = get_at P i (0 + i) w (omega arith) e

get_front : (P Q : List Ty) (i : ℕ) (w : Ty) → slice_get P i ≡ Some w → slice_get (P ++ Q) i ≡ Some w
get_front [] Q i w e = absurd cc
get_front (t ∷ P) Q zero w e = e
get_front (t ∷ P) Q (suc i) w e = get_front P Q i w e

get_back : (P Q : List Ty) (i : ℕ) (w : Ty) → slice_get Q i ≡ Some w → slice_get (P ++ Q) (length P + i) ≡ Some w
get_back [] Q i w e = get_plain Q i w e
get_back (t ∷ P) Q i w e = get_at (t ∷ (P ++ Q)) (suc (length P + i)) (suc (length P) + i) w (omega arith) (get_back P Q i w e)

types_long : (fs : List Field) → length (types_of fs) ≡ length fs
types_long [] = refl
types_long (f ∷ fs) = ap suc (types_long fs)

-- the fields of a variant among those of all
get_variant : (ps : List Variant) (v : ℕ) (x : Variant) (i : ℕ) (w : Ty) → slice_get ps v ≡ Some x
    → slice_get (types_of x.fields) i ≡ Some w
    → slice_get (variant_types ps) (length (variant_types (take v ps)) + i) ≡ Some w
get_variant [] v x i w e f = absurd cc
get_variant (p ∷ ps) zero x i w e f =
    let same : p ≡ x = cc in
    get_plain (types_of p.fields ++ variant_types ps) i w
    (get_front (types_of p.fields) (variant_types ps) i w
    (subst (λ (y : Variant). slice_get (types_of y.fields) i ≡ Some w) (sym same) f))
get_variant (p ∷ ps) (suc v) x i w e f =
    let l = length-append (types_of p.fields) (variant_types (take v ps)) in
    let n : ℕ = length (variant_types (take v ps)) in
    let m : ℕ = length (types_of p.fields ++ variant_types (take v ps)) in
    let q : length (types_of p.fields) + (n + i) ≡ m + i = omega arith in
    subst (λ (j : ℕ). slice_get (types_of p.fields ++ variant_types ps) j ≡ Some w) q
    (get_back (types_of p.fields) (variant_types ps) (n + i) w (get_variant ps v x i w e f))

tag_there : (ps : List Variant) (v : ℕ) (x : Variant) → slice_get ps v ≡ Some x → tag ps ≡ ty.Int ∷ []
tag_there [] v x e = absurd cc
tag_there (p ∷ ps) v x e = refl

split : (F W ts : List Ty) → AllStand ts (F ++ W) → AllStand (take (length F) ts) F × AllStand (drop (length F) ts) W
split [] W ts a = (tt, a)
split (t ∷ F) W [] a = absurd a
split (t ∷ F) W (u ∷ ts) a = let x = split F W ts a.1 in ((a.0, x.0), x.1)

join_back : (c : ℕ) (ts : List Ty) → take c ts ++ drop c ts ≡ ts
join_back zero ts = refl
join_back (suc c) [] = refl
join_back (suc c) (t ∷ ts) = ap (λ (us : List Ty). t ∷ us) (join_back c ts)

long_drop : (c : ℕ) (ts : List Ty) → length (drop c ts) ≡ length ts - c
long_drop zero ts = omega arith
long_drop (suc c) [] = omega arith
long_drop (suc c) (t ∷ ts) = let a = long_drop c ts in omega arith

fields_fit : (defs : List Def) (d : Def) (v : Option ℕ) (ts us : List Ty) → AllStand ts us → TakesFields d v us
    → Fit (parts d) (adt_numbers defs (Some d) v (length ts)) ts
fields_fit defs d None ts us a f =
    let F = types_of d.fields in
    fit_row (parts d) F 0 defs ts
    (λ i w e. get_plain (parts d) i w
    (subst (λ (ps : List Variant). slice_get (tag ps ++ (F ++ variant_types ps)) i ≡ Some w) (sym f.0)
    (get_front F (variant_types []) i w e)))
    (all_stand_on ts us F a f.1)
fields_fit defs d (Some v) ts us a f =
    let x = f.0 in
    let F = types_of d.fields in
    let W = types_of x.fields in
    let c : ℕ = length F in
    let z : ℕ = length (variant_types (take v d.picks)) in
    let V = variant_types d.picks in
    let both = split F W ts (all_stand_on ts us (F ++ W) a f.2) in
    let tagged = tag_there d.picks v x f.1 in
    let at : (j : ℕ) (w : Ty) → slice_get (F ++ V) j ≡ Some w → slice_get (parts d) (1 + j) ≡ Some w = λ j w e.
    subst (λ (xs : List Ty). slice_get (xs ++ (F ++ V)) (1 + j) ≡ Some w) (sym tagged)
    (get_at (ty.Int ∷ (F ++ V)) (suc j) (1 + j) w (omega arith) e) in
    let common = fit_row (parts d) F 1 defs (take c ts) (λ i w e. at i w (get_front F V i w e)) both.0 in
    let own = fit_row (parts d) W (1 + c + z) defs (drop c ts)
    (λ i w e. get_at (parts d) (1 + (c + (z + i))) (1 + c + z + i) w (omega arith)
    (at (c + (z + i)) w (get_back F V (z + i) w (get_variant d.picks v x i w f.1 e)))) both.1 in
    let l1 : length (take c ts) ≡ c = sym (all_stand_long (take c ts) F both.0) in
    let joined = fit_more (parts d) (numbers_from defs 1 (length (take c ts))) (numbers_from defs (1 + c + z) (length (drop c ts)))
    (take c ts) (drop c ts) common own in
    subst (λ (n : ℕ). Fit (parts d) (numbers_from defs 1 n ++ numbers_from defs (1 + n + z) (length ts - n)) ts) (types_long d.fields)
    (subst (λ (xs : List Ty). Fit (parts d) (numbers_from defs 1 c ++ numbers_from defs (1 + c + z) (length ts - c)) xs) (join_back c ts)
    (subst (λ (n : ℕ). Fit (parts d) (numbers_from defs 1 c ++ numbers_from defs (1 + c + z) n) (take c ts ++ drop c ts)) (long_drop c ts)
    (subst (λ (n : ℕ). Fit (parts d) (numbers_from defs 1 n ++ numbers_from defs (1 + c + z) (length (drop c ts))) (take c ts ++ drop c ts))
    l1 joined)))

-- What a tuple and an adt's value are made of stands for their parts.
pub made_fit : (defs : List Def) (t : Ty) (o : Operation) (ts us : List Ty) → Makes defs t o ts → AllStand ts us → Gives defs o us t
    → Fit (part_types defs t) (part_numbers defs o (length ts)) ts
made_fit defs (ty.Tuple vs) operation.Tuple ts us m a g =
    let e : vs ≡ g.0 = let f = g.1 in cc in
    fit_row (listed vs) (listed vs) 0 defs ts (get_plain (listed vs))
    (all_stand_on ts us (listed vs) a (subst (λ (x : ty.Tys). AllStand us (listed x)) (sym e) g.2))
made_fit defs (ty.Adt k) (operation.Adt n v) ts us m a g =
    let e : k ≡ n = m.0 in
    subst (λ (j : ℕ). Fit (part_types defs (ty.Adt j)) (part_numbers defs (operation.Adt n v) (length ts)) ts) (sym e)
    (subst (λ (o : Option Def). Fit (parts_there defs o) (adt_numbers defs o v (length ts)) ts) (sym g.there)
    (fields_fit defs g.def v ts us a g.fields))
made_fit defs _ _ ts us m a g = absurd m

-- ---- parts at which no operand is yet

-- Operands come to parts of these numbers, one after the other, none of which has one of those that are there.
abbrev pub Fresh : (done numbers : List ℕ) → Type 0
Fresh done [] = Unit {0}
Fresh done (k ∷ ks) = (Has done k → ⊥) × Fresh (done ++ (k ∷ [])) ks

fresh_row : (defs : List Def) (done : List ℕ) (p n : ℕ) → ((k : ℕ) → Has done k → k < p) → Fresh done (numbers_from defs p n)
fresh_row defs done p zero f = tt
fresh_row defs done p (suc n) f = (
  λ h. absurd (let x = f p h in omega (arith, x)),
  fresh_row defs (done ++ (p ∷ [])) (suc p) n (λ k h. elim (has_either done (p ∷ []) k h) [
    | inl y ↦ let x = f k y in omega (arith, x)
    | inr y ↦ elim y [ inl e ↦ omega (arith, e) | inr z ↦ absurd z ]
  ]),
)

fresh_more : (done ks ls : List ℕ) → Fresh done ks → Fresh (done ++ ks) ls → Fresh done (ks ++ ls)
fresh_more done [] ls f g = subst (λ (xs : List ℕ). Fresh xs ls) (append-nil done) g
fresh_more done (k ∷ ks) ls f g =
    (f.0, fresh_more (done ++ (k ∷ [])) ks ls f.1 (subst (λ (xs : List ℕ). Fresh xs ls) (sym (append_assoc done (k ∷ []) ks)) g))

fresh_adt : (defs : List Def) (d : Option Def) (v : Option ℕ) (n : ℕ) → Fresh [] (adt_numbers defs d v n)
fresh_adt defs (Some d) (Some v) n =
    let c : ℕ = length d.fields in
    let z : ℕ = length (variant_types (take v d.picks)) in
    fresh_more [] (numbers_from defs 1 c) (numbers_from defs (1 + c + z) (n - c))
    (fresh_row defs [] 1 c (λ k h. absurd h))
    (fresh_row defs (numbers_from defs 1 c) (1 + c + z) (n - c)
    (λ k h. let x = has_number defs 1 c k h in omega (arith, x)))
fresh_adt defs (Some d) None n = fresh_row defs [] 0 n (λ k h. absurd h)
fresh_adt defs None v n = fresh_row defs [] 0 n (λ k h. absurd h)

-- So are the parts of a tuple and of an adt's value.
fresh_parts : (defs : List Def) (o : Operation) (n : ℕ) → Fresh [] (part_numbers defs o n)
fresh_parts defs (operation.Adt j v) n = fresh_adt defs (slice_get defs j) v n
fresh_parts defs _ n = fresh_row defs [] 0 n (λ k h. absurd h)

-- ---- the number of a variant

small_int : (k : ℕ) → k < 2147483648 → InRange kind.Int (pos k)
small_int k l = record { above = omega (arith, ints); below = omega (arith, ints) }

get_less : {A : Type 0} (xs : List A) (k : ℕ) (x : A) → slice_get xs k ≡ Some x → k < length xs
get_less [] k x e = absurd cc
get_less (y ∷ xs) zero x e = omega arith
get_less (y ∷ xs) (suc k) x e = let l = get_less xs k x e in omega (arith, l)

made_tagged : (defs : List Def) → VariantsAreFew defs → (t : Ty) (o : Operation) (ts : List Ty) → Makes defs t o ts
    → IsTagged defs t (variant_of defs o)
made_tagged defs few (ty.Tuple vs) operation.Tuple ts m = tt
made_tagged defs few (ty.Adt k) (operation.Adt n None) ts m = tt
made_tagged defs few (ty.Adt k) (operation.Adt n (Some v)) ts m =
    let d = m.1.0 in
    let w = m.1.3 in
    let tagged = tag_there d.picks v w.0 w.1 in
    let there : slice_get (parts d) 0 ≡ Some ty.Int =
    subst (λ (xs : List Ty). slice_get (xs ++ (types_of d.fields ++ variant_types d.picks)) 0 ≡ Some ty.Int) (sym tagged) refl in
    let l = get_less d.picks v w.0 w.1 in
    let m2 = few k d m.1.1 in
    ((d, m.1.1, there), small_int v (omega (arith, l, m2)))
made_tagged defs few _ _ ts m = absurd m

-- ---- what is put together

-- So many operands are there, or none, and nothing is named.
abbrev pub HasFormed : Held → Ty → (variant : Option ℕ) → (numbers : List ℕ) → List Ty → (live : List ℕ) → Type 0
HasFormed h t v ks us live = (h ≡ Forming t v ks us live) ⊎ (IsClean h × (ks ≡ []) × (us ≡ []) × (live ≡ []))

operand_more : (h : Held) (t : Ty) (v : Option ℕ) (ks : List ℕ) (us : List Ty) (live : List ℕ) (k : ℕ) (u : Ty) (ms : List ℕ)
    → HasFormed h t v ks us live
    → with_operand t v k u ms h ≡ Forming t v (ks ++ (k ∷ [])) (us ++ (u ∷ [])) (live ++ ms)
operand_more h t v ks us live k u ms (inl e) = ap (with_operand t v k u ms) e
operand_more h t v ks us live k u ms (inr f) =
    first h f.0 ∙ sym (ap (λ (xs : List ℕ). Forming t v (xs ++ (k ∷ [])) (us ++ (u ∷ [])) (live ++ ms)) f.1
    ∙ ap (λ (xs : List Ty). Forming t v (k ∷ []) (xs ++ (u ∷ [])) (live ++ ms)) f.2
    ∙ ap (λ (xs : List ℕ). Forming t v (k ∷ []) (u ∷ []) (xs ++ ms)) f.3)
  where
    first : (h : Held) → IsClean h → with_operand t v k u ms h ≡ Forming t v (k ∷ []) (u ∷ []) ms
    first (Of w ns) c = refl
    first (Forming w x ls vs ns) c = absurd c
    first (Decided b) c = refl
    first (Turns rs) c = refl

formed_live : (h : Held) (t : Ty) (v : Option ℕ) (ks : List ℕ) (us : List Ty) (live : List ℕ) → HasFormed h t v ks us live
    → live_formed h ≡ live
formed_live h t v ks us live (inl e) = ap live_formed e
formed_live h t v ks us live (inr f) = clean h f.0 ∙ sym f.3
  where
    clean : (h : Held) → IsClean h → live_formed h ≡ []
    clean (Of w ns) c = refl
    clean (Forming w x ls vs ns) c = absurd c
    clean (Decided b) c = refl
    clean (Turns rs) c = refl

-- At the parts of the others there are none.
part_free : (h : Held) (t : Ty) (v : Option ℕ) (ks : List ℕ) (us : List Ty) (live : List ℕ) (k : ℕ) → HasFormed h t v ks us live
    → (Has ks k → ⊥) → Has (parts_in h) k → ⊥
part_free h t v ks us live k (inl e) f x = f (subst (λ (y : Held). Has (parts_in y) k) e x)
part_free h t v ks us live k (inr c) f x = clean h c.0 x
  where
    clean : (h : Held) → IsClean h → Has (parts_in h) k → ⊥
    clean (Of w ns) c x = x
    clean (Forming w y ls vs ns) c x = c
    clean (Decided b) c x = x
    clean (Turns rs) c x = x

none_first : (n : ℕ) (h : Held) → (n ≡ 0 → IsClean h) → IsFirst n h
none_first zero h f = f refl
none_first (suc n) h f = tt

begun : (h : Held) (t : Ty) (v : Option ℕ) (ks : List ℕ) (us : List Ty) (live : List ℕ) (j : ℕ) → HasFormed h t v ks us live
    → length us ≡ j → IsBegun h t v j
begun h t v ks us live j (inl e) l = inr (ks, us, live, e, l)
begun h t v ks us live j (inr f) l = inl (sym l ∙ ap length f.2, f.0)

these_put : (slots : Slots) (d : ℕ) (h : Held) (ss : List ℕ) (ts : List Ty) → DiffersFrom d ss → AreThese slots ss ts
    → AreThese (put slots d h) ss ts
these_put slots d h [] [] f a = tt
these_put slots d h [] (t ∷ ts) f a = absurd a
these_put slots d h (s ∷ ss) [] f a = absurd a
these_put slots d h (s ∷ ss) (t ∷ ts) f a = (
  is_same slots (put slots d h) s t (put_other slots d s h (λ e. f.0 (sym e))) a.0,
  these_put slots d h ss ts f.1 a.1,
)

forms_on : (h : Held) (t : Ty) (v : Option ℕ) (done ks : List ℕ) (k : ℕ) (us ws : List Ty) (w : Ty) (live came now old new : List ℕ)
    → now ≡ came → new ≡ old
    → HasFormed h t v ((done ++ (k ∷ [])) ++ ks) ((us ++ (w ∷ [])) ++ ws) ((live ++ came) ++ old)
    → HasFormed h t v (done ++ (k ∷ ks)) (us ++ (w ∷ ws)) (live ++ (now ++ new))
forms_on h t v done ks k us ws w live came now old new e f g =
    subst (λ (xs : List ℕ). HasFormed h t v xs (us ++ (w ∷ ws)) (live ++ (now ++ new))) (append_assoc done (k ∷ []) ks)
    (subst (λ (xs : List Ty). HasFormed h t v ((done ++ (k ∷ [])) ++ ks) xs (live ++ (now ++ new))) (append_assoc us (w ∷ []) ws)
    (subst (λ (xs : List ℕ). HasFormed h t v ((done ++ (k ∷ [])) ++ ks) ((us ++ (w ∷ [])) ++ ws) xs)
    (append_assoc live came old ∙ ap (λ (xs : List ℕ). live ++ (xs ++ old)) (sym e) ∙ ap (λ (xs : List ℕ). live ++ (now ++ xs)) (sym f)) g))

-- What was put together leaves behind: slots in which the operands would stand if they hadn't moved, with the drops of what they got.
pub record Placed (defs : List Def) (tells tells' : ℕ → Option Ty) (before last : Slots) (lo hi into : ℕ) (values : List ℕ)
    (drops : List Instr) (ts : List Ty) (t : Ty) (v : Option ℕ) (numbers done : List ℕ) (us : List Ty) (live : List ℕ) : Type 0 where
  pub ghost : Slots
  pub long : length ghost ≡ length before
  pub same : (r : ℕ) → Beside lo hi r → (r ≡ into → ⊥) → slot ghost r ≡ slot before r
  pub lets : Lets defs lo hi tells' ghost drops
  pub these : AreThese ghost values ts
  pub is : last ≡ emptied ghost values
  pub types : List Ty
  pub stand : AllStandAs types ts
  pub forms : HasFormed (slot last into) t v (done ++ numbers) (us ++ types)
      (live ++ all_moved (moves_into defs (part_types defs t) into numbers values) ghost)
  pub tell : (tells into ≡ Some t) ⊎ (0 < length values) → tells' into ≡ Some t
  pub kept : length values ≡ 0 → slot last into ≡ slot before into

-- ---- operands

-- Of an operand that suits a part.
fit_has : (defs : List Def) (t : Ty) (o : Operation) (ts : List Ty) (k : ℕ) (w : Ty) → Makes defs t o ts
    → slice_get (part_types defs t) k ≡ Some w → HasPart defs t k w
fit_has defs (ty.Tuple us) operation.Tuple ts k w m e = e
fit_has defs (ty.Adt n) (operation.Adt j v) ts k w m e =
    (m.1.0, m.1.1, subst (λ (o : Option Def). slice_get (parts_there defs o) k ≡ Some w) m.1.1 e)
fit_has defs _ _ ts k w m e = absurd m

module _ (s : Scope) (answer : Ty) (code : List Instr) where
  -- One operand: its slots, its drops, and its code, which gives nothing to other slots and goes well.
  pub record Operand (lo hi value : ℕ) (is ds : List Instr) (t : Ty) : Type 0 where
    pub between : Between lo hi value
    pub touch : AllTouch (Between lo hi) ds
    pub quiet : (r : ℕ) → Beside lo hi r → Quiet r is
    pub goes : GoesBy s answer code lo (record { code = is; drops = ds; value = value; free = hi }) t

  -- Operands in a row, each in slots behind those of the ones before.
  abbrev pub EachBy : (lo hi : ℕ) → List (List Instr) → (drops : List Instr) → (values : List ℕ) → List Ty → Type 0
  EachBy lo hi [] ds [] [] = (lo ≤ hi) × (ds ≡ [])
  EachBy lo hi (c ∷ cs) ds (v ∷ vs) (t ∷ ts) =
      (mid : ℕ) × (a : List Instr) × (b : List Instr) × (ds ≡ a ++ b) × (lo ≤ mid) × (mid ≤ hi) × AllTouch (Between mid hi) b
      × Operand lo mid v c a t × EachBy mid hi cs b vs ts
  EachBy lo hi _ ds _ _ = ⊥

  pub each_long : (lo hi : ℕ) (cs : List (List Instr)) (ds : List Instr) (vs : List ℕ) (ts : List Ty) → EachBy lo hi cs ds vs ts
      → length vs ≡ length ts
  each_long lo hi [] ds [] [] e = refl
  each_long lo hi [] ds [] (t ∷ ts) e = absurd e
  each_long lo hi [] ds (v ∷ vs) ts e = absurd e
  each_long lo hi (c ∷ cs) ds [] ts e = absurd e
  each_long lo hi (c ∷ cs) ds (v ∷ vs) [] e = absurd e
  each_long lo hi (c ∷ cs) ds (v ∷ vs) (t ∷ ts) e = ap suc (each_long e.0 hi cs e.2 vs ts e.8)

  -- a slot in front of theirs, or behind, is none of their values'
  pub each_differs : (lo hi d : ℕ) (cs : List (List Instr)) (ds : List Instr) (vs : List ℕ) (ts : List Ty) → Beside lo hi d
      → EachBy lo hi cs ds vs ts → DiffersFrom d vs
  each_differs lo hi d [] ds [] [] b e = tt
  each_differs lo hi d [] ds [] (t ∷ ts) b e = absurd e
  each_differs lo hi d [] ds (v ∷ vs) ts b e = absurd e
  each_differs lo hi d (c ∷ cs) ds [] ts b e = absurd e
  each_differs lo hi d (c ∷ cs) ds (v ∷ vs) [] b e = absurd e
  each_differs lo hi d (c ∷ cs) ds (v ∷ vs) (t ∷ ts) b e =
      let x = e.7.between.0 in
      let y = e.7.between.1 in
      let p = e.4 in
      let q = e.5 in (
        (λ f. absurd (elim b [ inl z ↦ omega (arith, z, f, x) | inr z ↦ omega (arith, z, f, y, q) ])),
        each_differs e.0 hi d cs e.2 vs ts (elim b [ inl z ↦ inl (omega (arith, z, p)) | inr z ↦ inr z ]) e.8,
      )

  -- code that puts operands together gives to no others
  pub each_quiet : (t : Ty) (v : Option ℕ) (into j : ℕ) (ks : List ℕ) (lo hi r : ℕ) (cs : List (List Instr)) (ds : List Instr)
      (vs : List ℕ) (ts : List Ty) → Beside lo hi r → (r ≡ into → ⊥) → EachBy lo hi cs ds vs ts
      → Quiet r (placed s.adts t v into j ks cs vs)
  each_quiet t v into j [] lo hi r cs ds vs ts b n e = tt
  each_quiet t v into j (k ∷ ks) lo hi r [] ds vs ts b n e = tt
  each_quiet t v into j (k ∷ ks) lo hi r (c ∷ cs) ds [] ts b n e = tt
  each_quiet t v into j (k ∷ ks) lo hi r (c ∷ cs) ds (x ∷ vs) [] b n e = absurd e
  each_quiet t v into j (k ∷ ks) lo hi r (c ∷ cs) ds (x ∷ vs) (u ∷ ts) b n e =
      let p = e.4 in
      let q = e.5 in
      quiet_more r c _ (e.7.quiet r (elim b [ inl z ↦ inl z | inr z ↦ inr (omega (arith, z, q)) ])) (
        none_into into r t (λ f. n (sym f)),
        each_quiet t v into (suc j) ks e.0 hi r cs e.2 vs ts (elim b [ inl z ↦ inl (omega (arith, z, p)) | inr z ↦ inr z ]) n e.8,
      )

  -- Each comes to its part.
  pub each_goes : (t : Ty) (v : Option ℕ) (into : ℕ) → HasRoom s.adts t → IsTagged s.adts t v
      → ((k : ℕ) (w : Ty) → slice_get (part_types s.adts t) k ≡ Some w → HasPart s.adts t k w)
      → (j : ℕ) (ks : List ℕ) (lo hi : ℕ) (cs : List (List Instr)) (ds : List Instr) (vs : List ℕ) (ts : List Ty)
      → EachBy lo hi cs ds vs ts → Fit (part_types s.adts t) ks ts → hi ≤ into
      → (done : List ℕ) (us : List Ty) (live : List ℕ) (slots : Slots) (n pc : ℕ) → HasFormed (slot slots into) t v done us live
      → length us ≡ j → IsFirst j (slot slots into) → Fresh done ks → into < length slots
      → AreClean slots lo hi → HasAt code pc (placed s.adts t v into j ks cs vs)
      → ((last : Slots) → Placed s.adts (told code pc) (told code (pc + length (placed s.adts t v into j ks cs vs))) slots last lo hi into
      vs ds ts t v ks done us live
      → Goes s answer code n (pc + length (placed s.adts t v into j ks cs vs)) last)
      → Goes s answer code n pc slots
  each_goes t v into room tagged has j [] lo hi [] ds [] [] e f l done us live slots n pc h m first fresh inside clean at k =
      same_place s answer code n (pc + 0) pc slots (omega arith)
      (k slots (record {
        ghost = slots;
        long = refl;
        same = λ r b c. refl;
        lets = subst (Lets s.adts lo hi (told code (pc + 0)) slots) (sym e.1) (none clean);
        these = tt;
        is = refl;
        types = [];
        stand = tt;
        forms = subst (λ (xs : List ℕ). HasFormed (slot slots into) t v xs (us ++ []) (live ++ [])) (sym (append-nil done))
            (subst (λ (xs : List Ty). HasFormed (slot slots into) t v done xs (live ++ [])) (sym (append-nil us))
            (subst (λ (xs : List ℕ). HasFormed (slot slots into) t v done us xs) (sym (append-nil live)) h));
        tell = λ x. elim x [
          | inl y ↦ told_at code (pc + 0) pc into (omega arith) ∙ y
          | inr y ↦ absurd (omega (arith, y))
        ];
        kept = λ x. refl;
      }))
  each_goes t v into room tagged has j (x ∷ ks) lo hi [] ds [] [] e f l done us live slots n pc h m first fresh inside clean at k =
      absurd f
  each_goes t v into room tagged has j ks lo hi [] ds [] (u ∷ ts) e f l done us live slots n pc h m first fresh inside clean at k =
      absurd e
  each_goes t v into room tagged has j ks lo hi [] ds (x ∷ vs) ts e f l done us live slots n pc h m first fresh inside clean at k =
      absurd e
  each_goes t v into room tagged has j ks lo hi (c ∷ cs) ds [] ts e f l done us live slots n pc h m first fresh inside clean at k =
      absurd e
  each_goes t v into room tagged has j ks lo hi (c ∷ cs) ds (x ∷ vs) [] e f l done us live slots n pc h m first fresh inside clean at k =
      absurd e
  each_goes t v into room tagged has j [] lo hi (c ∷ cs) ds (x ∷ vs) (u ∷ ts) e f l done us live slots n pc h m first fresh inside
      clean at k =
      absurd f
  each_goes t v into room tagged has j (i ∷ ks) lo hi (c ∷ cs) ds (x ∷ vs) (u ∷ ts) e f l done us live slots n pc h m first fresh inside
      clean at k =
      let mid = e.0 in
      let a = e.1 in
      let b = e.2 in
      let low = e.4 in
      let high = e.5 in
      let operand = e.7 in
      let x_in = operand.between in
      let apart : x ≡ into → ⊥ = λ q. absurd (let y = x_in.1 in omega (arith, y, q, high, l)) in
      let place = Place t v j i into x in
      let rest = placed s.adts t v into (suc j) ks cs vs in
      let at1 = has_back code pc c (place ∷ rest) at in
      let e1 = length-append c (place ∷ rest) in
      let pc1 : ℕ = pc + length c in
      let at_end : ℕ = pc + length (c ++ (place ∷ rest)) in
      let tells = told code at_end in
      let to_end : (r : ℕ) → tells r ≡ told code (suc pc1 + length rest) r = λ r.
      told_at code at_end (suc pc1 + length rest) r (omega arith) in
      operand.goes pc slots n (has_front code pc c (place ∷ rest) at) (omega arith) (λ r p q. clean r p (omega arith))
      (λ one left.
      let long1 = left.long in
      let here = slot one x in
      let w = left.is.0 in
      let move : Moved = into_part s.adts t i into x in
      let came = moved move (live_in here) in
      let part = f.0 in
      let into1 : slot one into ≡ slot slots into = left.same into (inr (omega arith)) in
      let before1 : HasFormed (slot one into) t v done us live =
      subst (λ (y : Held). HasFormed y t v done us live) (sym into1) h in
      let now = with_operand t v i (or_nothing (type_held here)) came (slot one into) in
      let out = put one x empty in
      let two = put out into now in
      let long_out = put_long one x empty in
      let long2 = put_long out into now in
      let grown : now ≡ Forming t v (done ++ (i ∷ [])) (us ++ (w ∷ [])) (live ++ came) =
      ap (λ (o : Option Ty). with_operand t v i (or_nothing o) came (slot one into)) left.is.1
      ∙ operand_more (slot one into) t v done us live i w came before1 in
      let there : slot two into ≡ now = put_same out into now (omega (arith, long_out, long1, inside)) in
      let other : (r : ℕ) → (r ≡ into → ⊥) → (r ≡ x → ⊥) → slot two r ≡ slot one r = λ r p q.
      put_other out into r now p ∙ put_other one x r empty q in
      goes_to s answer code n pc1 (suc pc1) one two place at1.0 (
        w,
        left.is.1,
        room,
        (part.0, has i part.0 part.1, as_on w u part.0 left.is.2 part.2),
        apart,
        begun (slot one into) t v done us live j before1 m,
      ) (
        part_free (slot one into) t v done us live i before1 fresh.0,
        subst (IsFirst j) (sym into1) first,
        tagged,
      ) refl
      (each_goes t v into room tagged has (suc j) ks mid hi cs b vs ts e.8 f.1 l (done ++ (i ∷ [])) (us ++ (w ∷ [])) (live ++ came)
      two n (suc pc1) (inl (there ∙ grown)) (let y = length-append us (w ∷ []) in omega (arith, y, m)) tt fresh.1
      (omega (arith, long2, long_out, long1, inside))
      (λ r p q. clean_same (slot slots r) (slot two r)
      (other r (λ y. absurd (omega (arith, y, q, l))) (λ y. absurd (let z = x_in.1 in omega (arith, y, z, p))) ∙ left.same r (inr p))
      (clean r (omega arith) q)) at1.1
      (λ last p.
      let behind = p.ghost in
      let ghost = put behind x here in
      let long_g = put_long behind x here in
      let long_b = p.long in
      let x_there : x < length behind = let y = x_in.1 in omega (arith, y, high, l, inside, long_b, long2, long_out, long1) in
      let g_here : slot ghost x ≡ here = put_same behind x here x_there in
      let differs = each_differs mid hi x cs b vs ts (inl x_in.1) e.8 in
      let g_own : (r : ℕ) → r < mid → slot ghost r ≡ slot one r = λ r y. ⊎_elim
      (λ (q : r ≡ x). subst (λ (z : ℕ). slot ghost z ≡ slot one z) (sym q) g_here)
      (λ (q : r ≡ x → ⊥). put_other behind x r here q ∙ p.same r (inl y) (λ z. absurd (omega (arith, z, y, high, l)))
      ∙ other r (λ z. absurd (omega (arith, z, y, high, l))) q)
      (cases_eq r x) in
      let emptied_there : slot last x ≡ empty =
      ap (λ (ys : Slots). slot ys x) p.is ∙ emptied_other behind vs x differs ∙ p.same x (inl x_in.1) apart
      ∙ put_other out into x now apart ∙ put_same one x empty (let y = x_in.1 in omega (arith, y, high, l, inside, long1)) in
      same_place s answer code n at_end (suc pc1 + length rest) last (omega arith)
      (k last (record {
        ghost = ghost;
        long = long_g ∙ long_b ∙ long2 ∙ long_out ∙ long1;
        same = λ r d q. let q2 : r ≡ x → ⊥ = λ z. absurd (let y = x_in in elim d [
          | inl o ↦ omega (arith, o, z, y.0)
          | inr o ↦ omega (arith, o, z, y.1, high)
        ]) in
            put_other behind x r here q2
            ∙ p.same r (elim d [ inl o ↦ inl (omega (arith, o, low)) | inr o ↦ inr o ]) q ∙ other r q q2
            ∙ left.same r (elim d [ inl o ↦ inl o | inr o ↦ inr (omega (arith, o, high)) ]);
        lets = subst (Lets s.adts lo hi tells ghost) (sym e.3)
            (lets_more s.adts tells ghost lo mid hi a b operand.touch e.6
            (lets_same s.adts lo mid (told code pc1) tells one ghost a operand.touch (long_g ∙ long_b ∙ long2 ∙ long_out)
            (λ r d. g_own r d.1)
            (λ r d. let y = d.1 in
            to_end r ∙ told_over code (suc pc1) r rest at1.1
            (each_quiet t v into (suc j) ks mid hi r cs b vs ts (inl y) (λ z. absurd (omega (arith, z, y, high, l))) e.8)
            ∙ told_same code pc1 r place at1.0 (none_into into r t (λ z. absurd (omega (arith, z, y, high, l))))) left.lets)
            (lets_same s.adts mid hi (told code (suc pc1 + length rest)) tells behind ghost b e.6 long_g
            (λ r d. put_other behind x r here (λ z. absurd (let y = d.0 in let o = x_in.1 in omega (arith, y, z, o))))
            (λ r d. to_end r) p.lets));
        these = (
          is_same one ghost x u g_here left.is,
          these_put behind x here vs ts differs p.these,
        );
        is = sym (ap (λ (ys : Slots). put ys x empty) (emptied_put behind x here vs differs)
            ∙ set_again (emptied behind vs) x here empty
            ∙ ap (λ (ys : Slots). put ys x empty) (sym p.is)
            ∙ ap (put last x) (sym emptied_there) ∙ set_itself last x);
        types = w ∷ p.types;
        stand = (left.is.2, p.stand);
        forms = forms_on (slot last into) t v done ks i us p.types w live came (moved move (live_in (slot ghost x)))
            (all_moved (moves_into s.adts (part_types s.adts t) into ks vs) behind)
            (all_moved (moves_into s.adts (part_types s.adts t) into ks vs) ghost) (ap (λ (y : Held). moved move (live_in y)) g_here)
            (moved_same s.adts (part_types s.adts t) behind x into here ks vs differs) p.forms;
        tell = λ y. to_end into ∙ p.tell (inl (told_given code pc1 into place t at1.0 (some_into into t)));
        kept = λ y. absurd (omega (arith, y));
      })))))

  -- ---- the slots of operands

  each_apart : (lo hi : ℕ) (cs : List (List Instr)) (ds : List Instr) (vs : List ℕ) (ts : List Ty) → EachBy lo hi cs ds vs ts → AllDiffer vs
  each_apart lo hi [] ds [] [] e = tt
  each_apart lo hi [] ds [] (t ∷ ts) e = absurd e
  each_apart lo hi [] ds (v ∷ vs) ts e = absurd e
  each_apart lo hi (c ∷ cs) ds [] ts e = absurd e
  each_apart lo hi (c ∷ cs) ds (v ∷ vs) [] e = absurd e
  each_apart lo hi (c ∷ cs) ds (v ∷ vs) (t ∷ ts) e =
      (each_differs e.0 hi v cs e.2 vs ts (inl e.7.between.1) e.8, each_apart e.0 hi cs e.2 vs ts e.8)

  each_in : (lo hi : ℕ) (ds : List Instr) (ss : List ℕ) → AllValued lo hi ds ss → EachIn lo (suc hi) ss
  each_in lo hi ds [] v = tt
  each_in lo hi ds (s ∷ ss) v = ((v.0.0.0, let x = v.0.0.1 in omega (arith, x)), each_in lo hi ds ss v.1)

  spare_each : (lo hi : ℕ) (ds : List Instr) (ss : List ℕ) → AllValued lo hi ds ss → SpareEach ss ds
  spare_each lo hi ds [] h = tt
  spare_each lo hi ds (s ∷ ss) h = (h.0.1, spare_each lo hi ds ss h.1)

  or_at : (P : List Ty) (k : ℕ) (w : Ty) → slice_get P k ≡ Some w → slice_index_or P k ty.Int ≡ w
  or_at [] k w e = absurd cc
  or_at (t ∷ P) zero w e = let f : t ≡ w = cc in f
  or_at (t ∷ P) (suc k) w e = or_at P k w e

  fit_suits : (P : List Ty) (slots : Slots) (ks vs : List ℕ) (ts : List Ty) → Fit P ks ts → AreThese slots vs ts → Suit s.adts P slots ks vs
  fit_suits P slots [] [] [] f a = tt
  fit_suits P slots [] vs (t ∷ ts) f a = absurd f
  fit_suits P slots [] (v ∷ vs) [] f a = absurd a
  fit_suits P slots (k ∷ ks) vs [] f a = absurd f
  fit_suits P slots (k ∷ ks) [] (t ∷ ts) f a = absurd a
  fit_suits P slots (k ∷ ks) (v ∷ vs) (t ∷ ts) f a =
      let w = f.0.0 in
      let x = count_as s.adts a.0.0 t a.0.2 in
      let y = count_as s.adts t w (inl f.0.2) in
      let z = ap (count_of s.adts) (or_at P k w f.0.1) in
      ((a.0.0, a.0.1, omega (arith, x, y, z)), fit_suits P slots ks vs ts f.1 a.1)

  -- The drops go well behind the operands, where what is put together is whole.
  placed_lets : (t : Ty) (v : Option ℕ) (lo mid : ℕ) (ks : List ℕ) (cs : List (List Instr)) (ds : List Instr) (vs : List ℕ) (ts : List Ty)
      (first tells tells' : ℕ → Option Ty) (slots last : Slots) → HasLayout s.adts t → EachBy lo mid cs ds vs ts
      → Fit (part_types s.adts t) ks ts → AllValued lo mid ds vs → AllTouch (Between lo mid) ds
      → Placed s.adts first tells slots last lo mid mid vs ds ts t v ks [] [] [] → Gave tells tells' mid t → mid < length slots
      → Lets s.adts lo (suc mid) tells' (put last mid (Of t (live_formed (slot last mid))))
      (drops_after_all (moves_into s.adts (part_types s.adts t) mid ks vs) ds)
  placed_lets t v lo mid ks cs ds vs ts first tells tells' slots last laid each fit valued touch p g inside =
      let P = part_types s.adts t in
      let ms = moves_into s.adts P mid ks vs in
      let ghost = p.ghost in
      let counts = whole_counted s.adts t laid in
      let apart = each_differs lo mid mid cs ds vs ts (inr (omega arith)) each in
      let inside2 : mid < length ghost = let y = p.long in omega (arith, y, inside) in
      subst (λ (xs : Slots). Lets s.adts lo (suc mid) tells' xs (drops_after_all ms ds))
      (ap (λ (xs : Slots). put xs mid (Of t (all_moved ms ghost))) (sym p.is)
      ∙ ap (λ (ns : List ℕ). put last mid (Of t ns)) (sym (formed_live (slot last mid) t v ks p.types (all_moved ms ghost) p.forms)))
      (gather_lets s.adts P tells' lo mid t ks vs ghost ds (λ n. let b = part_below s.adts P n in omega (arith, b, counts)) inside2 g.there
      (fit_suits P (put ghost mid (Of t [])) ks vs ts fit (these_put ghost mid (Of t []) vs ts apart p.these))
      (each_in lo mid ds vs valued) (each_apart lo mid cs ds vs ts each) apart (spare_each lo mid ds vs valued)
      (spare_outside lo mid mid ds (inr (omega arith)) touch) (lets_up s.adts tells tells' ghost lo mid t ds g inside2 touch p.lets))

  placed_same : (t : Ty) (v : Option ℕ) (lo mid : ℕ) (ks : List ℕ) (cs : List (List Instr)) (ds : List Instr) (vs : List ℕ) (ts : List Ty)
      (first tells : ℕ → Option Ty) (slots last : Slots) → EachBy lo mid cs ds vs ts
      → Placed s.adts first tells slots last lo mid mid vs ds ts t v ks [] [] []
      → (r : ℕ) → Beside lo mid r → (r ≡ mid → ⊥) → slot last r ≡ slot slots r
  placed_same t v lo mid ks cs ds vs ts first tells slots last each p r b n =
      ap (λ (xs : Slots). slot xs r) p.is ∙ emptied_other p.ghost vs r (each_differs lo mid r cs ds vs ts b each) ∙ p.same r b n

  as_long : (ws ts : List Ty) → AllStandAs ws ts → length ws ≡ length ts
  as_long [] [] a = refl
  as_long [] (t ∷ ts) a = absurd a
  as_long (w ∷ ws) [] a = absurd a
  as_long (w ∷ ws) (t ∷ ts) a = ap suc (as_long ws ts a.1)

  -- ---- a tuple, and a value of an adt

  pub gather_goes : VariantsAreFew s.adts → (lo : ℕ) (t : Ty) (o : Operation) (l : LoweredAll) (ts us : List Ty) → lo ≤ l.free
      → AllTouch (Between lo l.free) l.drops → AllValued lo l.free l.drops l.values → passes_on o ≡ true → Makes s.adts t o ts
      → AllStand ts us
      → WorkIs s t (Operate o) us t → EachBy lo l.free l.each l.drops l.values ts → GoesBy s answer code lo (gathers s.adts t o l) t
  gather_goes few lo t o l ts us p w v passes m st work each pc slots n at fits clean k =
      let mid = l.free in
      let vs = l.values in
      let ks = part_numbers s.adts o (length vs) in
      let is = placed s.adts t (variant_of s.adts o) mid 0 ks l.each vs in
      let gather = Gather t (Operate o) mid (length vs) in
      let at1 = has_back code pc is (gather ∷ []) at in
      let e1 = length-append is (gather ∷ []) in
      let pc1 : ℕ = pc + length is in
      let at_end : ℕ = pc + length (is ++ (gather ∷ [])) in
      let long = each_long lo mid l.each l.drops vs ts each in
      let fit : Fit (part_types s.adts t) ks ts =
      subst (λ (j : ℕ). Fit (part_types s.adts t) (part_numbers s.adts o j) ts) (sym long) (made_fit s.adts t o ts us m st work.0) in
      let tagged = made_tagged s.adts few t o ts m in
      each_goes t (variant_of s.adts o) mid work.1 tagged (λ i x e. fit_has s.adts t o ts i x m e) 0 ks lo mid l.each l.drops vs ts each fit
      (omega arith) [] [] [] slots n pc (inr (clean mid p (omega arith), refl, refl, refl)) refl (clean mid p (omega arith))
      (fresh_parts s.adts o (length vs)) fits
      (λ r x y. clean r x (omega (arith, y))) (has_front code pc is (gather ∷ []) at)
      (λ last q.
      let h = slot last mid in
      let now = Of t (live_formed h) in
      let final = put last mid now in
      let long_last : length last ≡ length slots = ap length q.is ∙ long_emptied q.ghost vs ∙ q.long in
      let there : slot final mid ≡ now = put_same last mid now (omega (arith, long_last, fits)) in
      let g = gave code pc1 mid t gather at1.0 (λ r. refl) in
      let lets = placed_lets t (variant_of s.adts o) lo mid ks l.each l.drops vs ts (told code pc) (told code pc1) (told code (suc pc1))
      slots last (made_laid s.adts t o ts m) each fit v w q g fits in
      goes_to s answer code n pc1 (suc pc1) last final gather at1.0 (
        us,
        work,
        all_stand_long ts us st ∙ sym long,
        elim q.forms [
          | inl e ↦ inr (q.types, all_as_on q.types ts us q.stand st, (_, e))
          | inr e ↦ inl (long ∙ sym (as_long q.types ts q.stand) ∙ ap length e.2, e.0)
        ],
      ) (
        passes,
        none_first (length vs) h
            (λ e. clean_same (slot slots mid) (slot last mid) (q.kept e) (clean mid p (omega arith))),
        tagged,
      ) refl
      (same_place s answer code n at_end (suc pc1) final (omega arith)
      (k final (left_at s answer code at_end (suc pc1) slots final lo (suc mid) mid _ t (omega arith) (record {
        long = put_long last mid now ∙ long_last;
        same = λ r b. let e : r ≡ mid → ⊥ = λ e. absurd (elim b [ inl y ↦ omega (arith, y, e, p) | inr y ↦ omega (arith, y, e) ]) in
            put_other last mid r now e
            ∙ placed_same t (variant_of s.adts o) lo mid ks l.each l.drops vs ts (told code pc) (told code pc1) slots last each q r
            (elim b [ inl y ↦ inl y | inr y ↦ inr (omega arith) ]) e;
        lets = lets;
        is = (t, ap type_held there, itself t);
        agrees = (t, ap type_held there, g.there);
      })))))

  -- ---- calls and prints

  -- What moved is dropped in the slot that it came to.
  moves_touch : (own : ℕ → Type 0) (P : List Ty) (into : ℕ) (ks vs : List ℕ) (ds : List Instr) → own into → AllTouch own ds
      → AllTouch own (drops_after_all (moves_into s.adts P into ks vs) ds)
  moves_touch own P into [] vs ds o t = t
  moves_touch own P into (k ∷ ks) [] ds o t = t
  moves_touch own P into (k ∷ ks) (v ∷ vs) ds o t = moves_touch own P into ks vs _ o (after_touch own _ ds o t)

  formed_is : (h : Held) (t : Ty) (v : Option ℕ) (ks : List ℕ) (us : List Ty) (live : List ℕ) → h ≡ Forming t v ks us live
      → formed h ≡ Of t (live_formed h)
  formed_is h t v ks us live e = subst (λ (x : Held). formed x ≡ Of t (live_formed x)) (sym e) refl

  -- An instruction behind operands, at least one, which stay in their slot as a tuple, behind what is in front; its value has the
  -- slot behind that.
  together_goes : (lo : ℕ) (front : List Ty) (t : Ty) (i : Instr) (mid : ℕ) (cs : List (List Instr)) (ds : List Instr) (vs : List ℕ)
      (ts : List Ty) (b : Bool) (live : List ℕ) → lo ≤ mid → AllTouch (Between lo mid) ds → AllValued lo mid ds vs → 0 < length vs
      → EachBy lo mid cs ds vs ts → AllHaveRooms s.adts (front ++ ts)
      → ((r : ℕ) → given_to i r ≡ (if nat_eq (suc mid) r then Some t else None))
      → ((slots : Slots) → AreArguments s.adts (slot slots mid) front ts → IsClean (slot slots (suc mid)) → Finds s answer slots i)
      → ((pc : ℕ) (slots : Slots) → FormsAsTold (told code pc) slots (Some mid) → Agrees s answer code pc slots i)
      → ((pc : ℕ) (slots : Slots) → behind s.adts pc slots i
      ≡ stand (suc pc) (put (put slots mid (formed (slot slots mid))) (suc mid) (Of t live)) ∷ [])
      → (b ≡ false → live ≡ []) → ((j : ℕ) → Has live j → j < count_of s.adts t)
      → GoesBy s answer code lo (record {
        code = placed s.adts (ty.Tuple (tys_of (front ++ ts))) None mid 0 (numbers_from s.adts (length front) (length vs)) cs vs ++ i ∷ [];
        drops = drops_after_all (moves_into s.adts (front ++ ts) mid (numbers_from s.adts (length front) (length vs)) vs) ds
            ++ drops_if b (drops_from (suc mid) 0 (count_of s.adts t));
        value = suc mid;
        free = suc (suc mid);
      }) t
  together_goes lo front t i mid cs ds vs ts b live p w v some each rooms gives finds agrees goes none_live below pc slots n at fits
      clean k =
      let T = ty.Tuple (tys_of (front ++ ts)) in
      let ks = numbers_from s.adts (length front) (length vs) in
      let is = placed s.adts T None mid 0 ks cs vs in
      let at1 = has_back code pc is (i ∷ []) at in
      let e1 = length-append is (i ∷ []) in
      let pc1 : ℕ = pc + length is in
      let at_end : ℕ = pc + length (is ++ (i ∷ [])) in
      let long = each_long lo mid cs ds vs ts each in
      let listed_ts = listed_types (front ++ ts) in
      let fit : Fit (listed (tys_of (front ++ ts))) ks ts =
      subst (λ (P : List Ty). Fit P ks ts) (sym listed_ts)
      (subst (λ (j : ℕ). Fit (front ++ ts) (numbers_from s.adts (length front) j) ts) (sym long)
      (fit_row (front ++ ts) ts (length front) s.adts ts (get_back front ts) (all_stand_itself ts))) in
      each_goes T None mid (tuple_room s.adts (front ++ ts) rooms) tt (λ j x e. e) 0 ks lo mid cs ds vs ts each fit (omega arith) [] [] []
      slots n pc (inr (clean mid p (omega arith), refl, refl, refl)) refl (clean mid p (omega arith))
      (fresh_row s.adts [] (length front) (length vs) (λ k h. absurd h)) (omega arith)
      (λ r x y. clean r x (omega (arith, y))) (has_front code pc is (i ∷ []) at)
      (λ last q.
      let long_last : length last ≡ length slots = ap length q.is ∙ long_emptied q.ghost vs ∙ q.long in
      let h = slot last mid in
      let moves = moves_into s.adts (listed (tys_of (front ++ ts))) mid ks vs in
      let is_formed : h ≡ Forming T None ks q.types (all_moved moves q.ghost) = elim q.forms [
        | inl e ↦ e
        | inr e ↦ absurd (let x = as_long q.types ts q.stand in let y = ap length e.2 in omega (arith, x, y, long, some))
      ] in
      let whole = put last mid (formed h) in
      let now = Of t live in
      let final = put whole (suc mid) now in
      let long_whole = put_long last mid (formed h) in
      let inside : suc mid < length whole = omega (arith, long_whole, long_last, fits) in
      let there : slot final (suc mid) ≡ now = put_same whole (suc mid) now inside in
      let g = gave code pc1 (suc mid) t i at1.0 gives in
      let tells = told code pc1 in
      let told_mid : Gave tells tells mid T = record { there = q.tell (inr some); others = λ r e. refl } in
      let gone = drops_after_all (moves_into s.adts (front ++ ts) mid ks vs) ds in
      let lets : Lets s.adts lo (suc mid) tells whole gone =
      subst (λ (P : List Ty). Lets s.adts lo (suc mid) tells whole (drops_after_all (moves_into s.adts P mid ks vs) ds)) listed_ts
      (subst (λ (x : Held). Lets s.adts lo (suc mid) tells (put last mid x) (drops_after_all moves ds))
      (sym (formed_is h T None ks q.types (all_moved moves q.ghost) is_formed))
      (placed_lets T None lo mid ks cs ds vs ts (told code pc) tells tells slots last tt each fit v w q told_mid (omega arith))) in
      let touch : AllTouch (Between lo (suc mid)) gone =
      moves_touch (Between lo (suc mid)) (front ++ ts) mid ks vs ds (p, omega arith)
      (touch_wide lo mid lo (suc mid) ds (omega arith) (omega arith) w) in
      let other : (r : ℕ) → Beside lo mid r → (r ≡ mid → ⊥) → slot last r ≡ slot slots r =
      placed_same T None lo mid ks cs ds vs ts (told code pc) tells slots last each q in
      let clean_value : IsClean (slot last (suc mid)) =
      clean_same (slot slots (suc mid)) (slot last (suc mid)) (other (suc mid) (inr (omega arith)) (λ e. absurd (omega (arith, e))))
      (clean (suc mid) (omega arith) (omega arith)) in
      let arguments : AreArguments s.adts h front ts = (
        q.types,
        q.stand,
        (
          all_moved moves q.ghost,
          is_formed ∙ ap (λ (j : ℕ). Forming T None (numbers_from s.adts (length front) j) q.types (all_moved moves q.ghost)) long,
        ),
      ) in
      goes_to s answer code n pc1 (suc pc1) last final i at1.0 (finds last arguments clean_value)
      (agrees pc1 last (T, ap type_forming is_formed, told_mid.there)) (goes pc1 last)
      (same_place s answer code n at_end (suc pc1) final (omega arith)
      (k final (left_at s answer code at_end (suc pc1) slots final lo (suc (suc mid)) (suc mid) _ t (omega arith) (record {
        long = put_long whole (suc mid) now ∙ long_whole ∙ long_last;
        same = λ r d. let e : r ≡ mid → ⊥ = λ e. absurd (elim d [ inl y ↦ omega (arith, y, e, p) | inr y ↦ omega (arith, y, e) ]) in
            put_other whole (suc mid) r now
            (λ e. absurd (elim d [ inl y ↦ omega (arith, y, e, p) | inr y ↦ omega (arith, y, e) ]))
            ∙ put_other last mid r (formed h) e ∙ other r (elim d [ inl y ↦ inl y | inr y ↦ inr (omega arith) ]) e;
        lets = lets_own s.adts tells (told code (suc pc1)) whole lo (suc mid) t b live gone none_live below g (omega arith) inside touch
            lets;
        is = (t, ap type_held there, itself t);
        agrees = (t, ap type_held there, g.there);
      })))))

  pub call_goes : (lo : ℕ) (t : Ty) (f mid : ℕ) (all : List Instr) (cs : List (List Instr)) (ds : List Instr) (vs : List ℕ) (ts : List Ty)
      → lo ≤ mid → AllTouch (Between lo mid) ds → AllValued lo mid ds vs → EachBy lo mid cs ds vs ts → AllHaveRooms s.adts ts
      → WorkIs s t (tree.Call f) ts t
      → GoesBy s answer code lo (node s.adts ts t (tree.Call f) (record { each = cs; code = all; drops = ds; values = vs; free = mid })) t
  call_goes lo t f mid all [] ds [] [] p w v each rooms work = λ pc slots n at fits clean k.
      let call = Call t f mid None in
      let live = all_of s.adts t in
      let final = put slots mid (Of t live) in
      let there : slot final mid ≡ Of t live = put_same slots mid (Of t live) fits in
      let g = gave code pc mid t call at.0 (λ r. refl) in
      goes_to s answer code n pc (suc pc) slots final call at.0 (work, clean mid p (omega arith)) tt refl
      (same_place s answer code n (pc + 1) (suc pc) final (omega arith)
      (k final (left_at s answer code (pc + 1) (suc pc) slots final lo (suc mid) mid _ t (omega arith) (record {
        long = put_long slots mid (Of t live);
        same = λ r b. put_other slots mid r (Of t live)
            (λ e. absurd (elim b [ inl y ↦ omega (arith, y, e, p) | inr y ↦ omega (arith, y, e) ]));
        lets = lets_own s.adts (told code pc) (told code (suc pc)) slots lo mid t true live ds (λ e. absurd cc) (all_below s.adts t) g p
            fits w
            (subst (Lets s.adts lo mid (told code pc) slots) (sym each.1) (none (λ r x y. clean r x (omega arith))));
        is = (t, ap type_held there, itself t);
        agrees = (t, ap type_held there, g.there);
      }))))
  call_goes lo t f mid all cs ds (x ∷ vs) ts p w v each rooms work =
      let ks = numbers_from s.adts 0 (suc (length vs)) in
      subst (λ (b : Bool). GoesBy s answer code lo (record {
        code = placed s.adts (ty.Tuple (tys_of ts)) None mid 0 ks cs (x ∷ vs)
            ++ Call t f (if b then mid else suc mid) (if b then None else Some mid) ∷ [];
        drops = drops_after_all (moves_into s.adts ts mid ks (x ∷ vs)) ds
            ++ drops_from (if b then mid else suc mid) 0 (count_of s.adts t);
        value = if b then mid else suc mid;
        free = suc (if b then mid else suc mid);
      }) t) (sym (ne_eqb (suc (length vs)) 0 (λ e. absurd cc)))
      (together_goes lo [] t (Call t f (suc mid) (Some mid)) mid cs ds (x ∷ vs) ts true (all_of s.adts t) p w v (omega arith) each rooms
      (λ r. refl) (λ slots a c. (ts, work, a, c)) (λ pc slots f. f) (λ pc slots. refl) (λ e. absurd cc) (all_below s.adts t))
  call_goes lo t f mid all (c ∷ cs) ds [] ts p w v each rooms work = absurd each
  call_goes lo t f mid all [] ds [] (u ∷ ts) p w v each rooms work = absurd each

  text_room : HasRoom s.adts ty.Chars
  text_room = (reference, is_alone ty.Chars reference refl)

  pub print_goes : (lo : ℕ) (ps : List Piece) (mid : ℕ) (all : List Instr) (cs : List (List Instr)) (ds : List Instr) (vs : List ℕ)
      (ts : List Ty) → lo ≤ mid → AllTouch (Between lo mid) ds → AllValued lo mid ds vs → EachBy lo mid cs ds vs ts
      → AllHaveRooms s.adts ts → ts ≡ printed ps
      → GoesBy s answer code lo
      (node s.adts ts ty.Int (tree.Print ps) (record { each = cs; code = all; drops = ds; values = vs; free = mid }))
      ty.Int
  print_goes lo ps mid all [] ds [] [] p w v each rooms same = λ pc slots n at fits clean k.
      let print = Print ps mid None in
      let final = put slots mid (Of ty.Int []) in
      let there : slot final mid ≡ Of ty.Int [] = put_same slots mid (Of ty.Int []) fits in
      let g = gave code pc mid ty.Int print at.0 (λ r. refl) in
      goes_to s answer code n pc (suc pc) slots final print at.0 (sym same, clean mid p (omega arith)) tt refl
      (same_place s answer code n (pc + 1) (suc pc) final (omega arith)
      (k final (left_at s answer code (pc + 1) (suc pc) slots final lo (suc mid) mid _ ty.Int (omega arith) (record {
        long = put_long slots mid (Of ty.Int []);
        same = λ r b. put_other slots mid r (Of ty.Int [])
            (λ e. absurd (elim b [ inl y ↦ omega (arith, y, e, p) | inr y ↦ omega (arith, y, e) ]));
        lets = lets_up s.adts (told code pc) (told code (suc pc)) slots lo mid ty.Int ds g fits w
            (subst (Lets s.adts lo mid (told code pc) slots) (sym each.1) (none (λ r x y. clean r x (omega arith))));
        is = (ty.Int, ap type_held there, itself ty.Int);
        agrees = (ty.Int, ap type_held there, g.there);
      }))))
  print_goes lo ps mid all cs ds (x ∷ vs) ts p w v each rooms same =
      let ks = numbers_from s.adts 1 (suc (length vs)) in
      let is = placed s.adts (ty.Tuple (tys_of (ty.Chars ∷ ts))) None mid 0 ks cs (x ∷ vs) in
      let gone = drops_after_all (moves_into s.adts (ty.Chars ∷ ts) mid ks (x ∷ vs)) ds in
      subst (λ (b : Bool). GoesBy s answer code lo (record {
        code = is ++ Print ps (if b then mid else suc mid) (if b then None else Some mid) ∷ [];
        drops = gone;
        value = if b then mid else suc mid;
        free = suc (if b then mid else suc mid);
      }) ty.Int) (sym (ne_eqb (suc (length vs)) 0 (λ e. absurd cc)))
      (subst (λ (xs : List Instr). GoesBy s answer code lo (record {
        code = is ++ Print ps (suc mid) (Some mid) ∷ [];
        drops = xs;
        value = suc mid;
        free = suc (suc mid);
      }) ty.Int) (append-nil gone)
      (together_goes lo (ty.Chars ∷ []) ty.Int (Print ps (suc mid) (Some mid)) mid cs ds (x ∷ vs) ts false [] p w v (omega arith) each
      (text_room, rooms) (λ r. refl) (λ slots a c. (subst (AreArguments s.adts (slot slots mid) (ty.Chars ∷ [])) same a, c))
      (λ pc slots f. f) (λ pc slots. refl) (λ e. refl) (λ j h. absurd h)))
  print_goes lo ps mid all (c ∷ cs) ds [] ts p w v each rooms same = absurd each
  print_goes lo ps mid all [] ds [] (u ∷ ts) p w v each rooms same = absurd each
