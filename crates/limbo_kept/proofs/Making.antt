-- Values of adts that are made of their fields.
use Rattle.std.proofs.Common.{◌≡◌, ℕ, zero, suc, pos, ◌+◌, List, [], ◌∷◌, ◌++◌, length, Option, Some, None, sym, ap, subst, ◌∙◌, arith}
use Rattle.std.proofs.Common.{replicate, take, drop, append-nil, length-append}
use Rattle.std.specs.Prelude.{slice_get}
use Rattle.limbo_types.specs.Types as ty
use Rattle.limbo_types.specs.Types.{Ty}
use Rattle.limbo_layout.specs.Adts.{Def, Field, Variant, parts, tag, types_of, variant_types}
use Rattle.limbo_typed.specs.Fitting.{TakesFields}
use Rattle.limbo_meaning.specs.Values.{Value, Num, Parts, nothing, row, fitted, all_fitted}
use Rattle.limbo_meaning.specs.Operations as operations
use Rattle.limbo_kept.specs.Values.{Store, AllAreOf, none_of, more_of, Fits, AllFit}
use Rattle.limbo_kept.specs.Operating.{HasRoom}
use Rattle.limbo_kept.proofs.Fitted.{HaveRooms, rooms_in, rooms_of_adt, zero_fits, int_fits, all_stand_fit, adt_whole}

module _ (defs : List Def) (store : Store) where
  -- values that fit, as far as there are any, and zero for the other types
  abbrev Pads : List Ty → List Value → Type 0
  Pads [] vs = Unit {0}
  Pads (t ∷ ts) [] = Fits defs store t nothing × Pads ts []
  Pads (t ∷ ts) (v ∷ vs) = Fits defs store t v × Pads ts vs

  padded : (ts : List Ty) (vs : List Value) → Pads ts vs → AllAreOf defs store ts (all_fitted defs ts vs)
  padded [] vs p = none_of
  padded (t ∷ ts) [] p = more_of t ts (fitted defs t nothing) (all_fitted defs ts []) p.0 (padded ts [] p.1)
  padded (t ∷ ts) (v ∷ vs) p = more_of t ts (fitted defs t v) (all_fitted defs ts vs) p.0 (padded ts vs p.1)

  joined : (ts us : List Ty) (vs ws : List Value) → AllFit defs store ts vs → Pads us ws → Pads (ts ++ us) (vs ++ ws)
  joined [] us [] ws f p = p
  joined [] us (v ∷ vs) ws f p = absurd f
  joined (t ∷ ts) us [] ws f p = absurd f
  joined (t ∷ ts) us (v ∷ vs) ws f p = (f.0, joined ts us vs ws f.1 p)

  abbrev Zeros : List Ty → Type 0
  Zeros [] = Unit {0}
  Zeros (t ∷ ts) = Fits defs store t nothing × Zeros ts

  zeros : (ts : List Ty) → HaveRooms defs ts → Zeros ts
  zeros [] r = tt
  zeros (t ∷ ts) r = let q = rooms_in defs (t ∷ ts) r.0 r.1 in (zero_fits defs store t q.0, zeros ts q.1)

  zeros_behind : (ts us : List Ty) → Zeros (ts ++ us) → Zeros us
  zeros_behind [] us z = z
  zeros_behind (t ∷ ts) us z = zeros_behind ts us z.1

  zeros_in_front : (ts us : List Ty) → Zeros (ts ++ us) → Zeros ts
  zeros_in_front [] us z = tt
  zeros_in_front (t ∷ ts) us z = (z.0, zeros_in_front ts us z.1)

  none_given : (ts : List Ty) → Zeros ts → Pads ts []
  none_given [] z = tt
  none_given (t ∷ ts) z = (z.0, none_given ts z.1)

  all_zero : (ts : List Ty) → Zeros ts → AllFit defs store ts (replicate (length ts) nothing)
  all_zero [] z = tt
  all_zero (t ∷ ts) z = (z.0, all_zero ts z.1)

  front_fits : (fs : List Field) (us : List Ty) (vs : List Value) → AllFit defs store (types_of fs ++ us) vs
      → AllFit defs store (types_of fs) (take (length fs) vs) × AllFit defs store us (drop (length fs) vs)
  front_fits [] us vs f = (tt, f)
  front_fits (x ∷ fs) us [] f = absurd f
  front_fits (x ∷ fs) us (v ∷ vs) f = let q = front_fits fs us vs f.1 in ((f.0, q.0), q.1)

  replicated : (a b : ℕ) (v : Value) (vs : List Value) → replicate (a + b) v ++ vs ≡ replicate a v ++ (replicate b v ++ vs)
  replicated zero b v vs = let e : 0 + b ≡ b = omega arith in ap (λ (n : ℕ). replicate n v ++ vs) e
  replicated (suc a) b v vs =
      let e : suc a + b ≡ suc (a + b) = omega arith in
      ap (λ (n : ℕ). replicate n v ++ vs) e ∙ ap (λ (us : List Value). v ∷ us) (replicated a b v vs)

  -- a variant's fields behind nothing for the fields of those in front of it
  variants : (ps : List Variant) (k : ℕ) (w : Variant) (vs : List Value) → slice_get ps k ≡ Some w → Zeros (variant_types ps)
      → AllFit defs store (types_of w.fields) vs → Pads (variant_types ps) (replicate (length (variant_types (take k ps))) nothing ++ vs)
  variants [] k w vs e z f = absurd cc
  variants (p ∷ ps) zero w vs e z f =
      let same : w ≡ p = cc in
      subst (Pads (types_of p.fields ++ variant_types ps)) (append-nil vs)
      (joined (types_of p.fields) (variant_types ps) vs [] (subst (λ (x : Variant). AllFit defs store (types_of x.fields) vs) same f)
      (none_given (variant_types ps) (zeros_behind (types_of p.fields) (variant_types ps) z)))
  variants (p ∷ ps) (suc k) w vs e z f =
      let ts = types_of p.fields in
      let us = variant_types (take k ps) in
      subst (Pads (ts ++ variant_types ps))
      (sym (ap (λ (n : ℕ). replicate n nothing ++ vs) (length-append ts us) ∙ replicated (length ts) (length us) nothing vs))
      (joined ts (variant_types ps) (replicate (length ts) nothing) (replicate (length us) nothing ++ vs)
      (all_zero ts (zeros_in_front ts (variant_types ps) z))
      (variants ps k w vs e (zeros_behind ts (variant_types ps) z) f))

  tagged : (ps : List Variant) (k : ℕ) (w : Variant) (us : List Ty) (v : Value) (vs : List Value) → slice_get ps k ≡ Some w → Pads us vs
      → Pads (tag ps ++ us) (v ∷ vs)
  tagged [] k w us v vs e p = absurd cc
  tagged (x ∷ ps) k w us v vs e p = (int_fits defs store v, p)

  fields_made : (d : Def) (v : Option ℕ) (us : List Ty) (vs : List Value) → HaveRooms defs (parts d) → TakesFields d v us
      → AllFit defs store us vs → Pads (parts d) (operations.adt_parts (Some d) v vs)
  fields_made d None us vs r g f =
      let h = all_stand_fit defs store us (types_of d.fields) vs g.1 f in
      subst (λ (ps : List Variant). Pads (tag ps ++ (types_of d.fields ++ variant_types ps)) vs) (sym g.0)
      (subst (Pads (types_of d.fields ++ [])) (append-nil vs) (joined (types_of d.fields) [] vs [] h tt))
  fields_made d (Some k) us vs r g f =
      let h = all_stand_fit defs store us (types_of d.fields ++ types_of g.0.fields) vs g.2 f in
      let q = front_fits d.fields (types_of g.0.fields) vs h in
      let z = zeros_behind (types_of d.fields) (variant_types d.picks)
      (zeros_behind (tag d.picks) (types_of d.fields ++ variant_types d.picks) (zeros (parts d) r)) in
      tagged d.picks k g.0 (types_of d.fields ++ variant_types d.picks) (Num (pos k))
      (take (length d.fields) vs ++ (replicate (length (variant_types (take k d.picks))) nothing ++ drop (length d.fields) vs)) g.1
      (joined (types_of d.fields) (variant_types d.picks) (take (length d.fields) vs)
      (replicate (length (variant_types (take k d.picks))) nothing ++ drop (length d.fields) vs) q.0
      (variants d.picks k g.0 (drop (length d.fields) vs) g.1 z q.1))

  pub adt_of_fields : (n : ℕ) (d : Def) (v : Option ℕ) (us : List Ty) (vs : List Value) → HasRoom defs (ty.Adt n)
      → slice_get defs n ≡ Some d → TakesFields d v us → AllFit defs store us vs
      → Fits defs store (ty.Adt n) (Parts (row (operations.adt_parts (slice_get defs n) v vs)))
  adt_of_fields n d v us vs r at g f =
      subst (λ (o : Option Def). Fits defs store (ty.Adt n) (Parts (row (operations.adt_parts o v vs)))) (sym at)
      (adt_whole defs store n d (operations.adt_parts (Some d) v vs) r at
      (padded (parts d) (operations.adt_parts (Some d) v vs) (fields_made d v us vs (rooms_of_adt defs n d r at) g f)))
