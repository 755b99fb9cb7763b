use Rattle.std.proofs.Common.{rules, ◌≡◌, ℕ, zero, suc, ◌+◌, ◌<◌, ◌≤◌, List, [], ◌∷◌, ◌++◌, length, map, take, get_or, Some, Err, sym, ap}
use Rattle.std.proofs.Common.{◌∙◌, refl, arith, inl, inr}
use Rattle.std.proofs.lemmas.Grind.{common_steps}
use Rattle.std.proofs.lemmas.List.{map-append, take_more, get_or_default}
use borrow.Author.Count.{below_more}
use Rattle.std.specs.Prelude.{slice_get, option_map}
use Rattle.std.proofs.lemmas.Option.{slice_get-map, slice_get_read}
use Rattle.limbo_typed.specs.declared.module.TFn.{TFn}
use Rattle.limbo_typed.specs.declared.module.TVar.{TVar}
use Rattle.limbo_typed.specs.Typed.{Function}
use Rattle.limbo_typed.specs.View.{view_function, view_var, view_module}
use Rattle.slot_code.specs.Layout.{end_of}
use Rattle.limbo_typed.specs.declared.module.TypedModule.{TypedModule}
use Rattle.slot_code.specs.declared.code.SlotFn.{SlotFn}
use Rattle.slot_code.specs.View as slot
use Rattle.typed_lower.specs.Sizes.{frame_size, largest_frame, LargeFrame}
use Rattle.typed_lower.specs.Statements.{number_kind, function_code}
use Rattle.slot_writing.specs.declared.fault.LowerFault.TheVariants as fault
use Rattle.slot_writing.proofs.lowering.lowered.Goals as goal

-- the function that is seen at a place
seen_there : (fs items : List TFn) (i : ℕ) (f : TFn) → items ≡ fs → i < length items → f ≡ get_or items i f
    → slice_get (map view_function fs) i ≡ Some (view_function f)
seen_there fs items i f e lt is =
    ap (λ xs. slice_get (map view_function xs) i) (sym e) ∙ slice_get-map view_function items i
    ∙ ap (option_map view_function) (slice_get_read items (length items) i f refl lt is)

seen_from : (fs : List TFn) (number : ℕ) (g : Function) → slice_get (map view_function fs) number ≡ Some g
    → (f : TFn) × (number < length fs) × (get_or fs number f ≡ f) × (view_function f ≡ g)
seen_from [] number g e = absurd (cc)
seen_from (f ∷ fs) zero g e = (f, omega arith, refl, (let same : view_function f ≡ g = cc in same))
seen_from (f ∷ fs) (suc number) g e = let r = seen_from fs number g e in (r.0, omega arith, r.2, r.3)

pub returns-in_err-lower_function-clause-too_large : goal.returns-in_err-lower_function-clause-too_large
returns-in_err-lower_function-clause-too_large c = λ e.
    let told = rw e at c.from_residual.ensures in
    let failed : c.lower_function.result ≡ Err fault.FrameTooLarge = c.in_err-lower_function.was {u = tt} ∙ ap Err (sym told.1) in
    inl (record {
      number = c.loop-f.f-index;
      function = view_function c.f-item.result;
      there = seen_there c.args.module.now.functions.items c.deref-f-items.result.now c.loop-f.f-index c.f-item.result
          c.deref-f-items.ensures.value c.loop-f-test.true c.f-item.is;
      large = c.lower_function.ensures.too_large failed;
    })

made_more : (fs : List TFn) (i : ℕ) (f : TFn) (done all : List SlotFn) (x : SlotFn) → i < length fs → f ≡ get_or fs i f
    → all ≡ done ++ x ∷ []
    → slot.view_function x ≡ function_code (view_function f)
    → map slot.view_function done ≡ map function_code (map view_function (take i fs))
    → map slot.view_function all ≡ map function_code (map view_function (take (i + 1) fs))
made_more fs i f done all x lt is ea ex h =
    let base = map function_code (map view_function (take i fs)) in
    let g = get_or fs i f in
    let more : map function_code (map view_function (take (i + 1) fs)) ≡ base ++ function_code (view_function g) ∷ [] =
    ap (λ xs. map function_code (map view_function xs)) (take_more fs i f lt)
    ∙ ap (map function_code) (map-append view_function (take i fs) (g ∷ []))
    ∙ map-append function_code (map view_function (take i fs)) (view_function g ∷ []) in
    ap (map slot.view_function) ea ∙ map-append slot.view_function done (x ∷ []) ∙ ap (λ xs. xs ++ slot.view_function x ∷ []) h
    ∙ ap (λ y. base ++ y ∷ []) (ex ∙ ap (λ y. function_code (view_function y)) is) ∙ sym more

fits_more : (fs : List TFn) (i : ℕ) (f : TFn) → i < length fs → f ≡ get_or fs i f → frame_size (view_function f) ≤ largest_frame
    → ((k : ℕ) (d : TFn) → k < i → frame_size (view_function (get_or fs k d)) ≤ largest_frame)
    → (k : ℕ) (d : TFn) → k < i + 1 → frame_size (view_function (get_or fs k d)) ≤ largest_frame
fits_more fs i f lt is here below k d l =
    below_more (λ (n : ℕ). frame_size (view_function (get_or fs n d)) ≤ largest_frame) i (λ n m. below n d m)
    (omega (arith, ap (λ (y : TFn). frame_size (view_function y)) (is ∙ get_or_default fs i f d lt), here)) k l

large_not : (m : TypedModule) (items : List TFn) → LargeFrame (view_module m) → items ≡ m.functions.items
    → ((k : ℕ) (d : TFn) → k < length items → frame_size (view_function (get_or items k d)) ≤ largest_frame) → ⊥
large_not m items l same fits =
    let seen = seen_from m.functions.items l.number l.function l.there in
    let within : l.number < length items = omega (arith, ap length same, seen.1) in
    let is = ap (λ xs. get_or xs l.number seen.0) same ∙ seen.2 in
    absurd (omega (arith, fits l.number seen.0 within, ap (λ f. frame_size (view_function f)) is, ap frame_size seen.3, l.large))

pub loop-f-preserved : goal.loop-f-preserved
loop-f-preserved c =
    let fs = c.deref-f-items.result.now in
    let i = c.loop-f.f-index in
    record {
      made = made_more fs i c.f-item.result c.loop-f.functions.items c.push.new.self.items c.in_ok-lower_function.field-0 c.loop-f-test.true
          c.f-item.is c.in_ok-push.ensures.items c.in_ok-lower_function.ensures.code c.loop-f.invariant.made;
      fits = fits_more fs i c.f-item.result c.loop-f-test.true c.f-item.is c.in_ok-lower_function.ensures.fits c.loop-f.invariant.fits;
    }

pub returns-clause-fits : goal.returns-clause-fits
returns-clause-fits c = λ big.
    let items = c.deref-f-items.result.now in
    let same : items ≡ c.args.module.now.functions.items = c.deref-f-items.ensures.value in
    let ends = λ (xs : List TVar). end_of 0 (map (λ v. number_kind v.ty) (map view_var xs)) in
    let fit : ends c.deref.result.now ≤ largest_frame = first_of (search rules, grind (arith, common_steps)) in
    let globals = ap ends c.deref.ensures.value in
    elim big as (λ b. ⊥) [
      | inl l ↦ large_not c.args.module.now items l same (λ k d h. c.loop-f.invariant.fits k d (omega (arith, h, c.loop-f-test.false)))
      | inr g ↦ absurd (omega (arith, fit, globals, g))
    ]
