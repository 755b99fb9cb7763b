use Rattle.std.proofs.Common.{◌≡◌, ℕ, suc, ◌≤◌, arith, List, Some, map, length, inl, inr, ap, sym, ◌∙◌, subst}
use Rattle.std.specs.Prelude.{slice_get}
use Rattle.std.proofs.lemmas.Bool.Decides.{leb_tells}
use Rattle.limbo_layout.specs.View.{view_defs}
use Rattle.limbo_layout.specs.declared.def.AdtDef.{AdtDef}
use Rattle.limbo_typed.specs.Typed.{Function}
use Rattle.limbo_typed.specs.declared.module.TFn.{TFn}
use Rattle.limbo_typed.specs.declared.module.TVar.{TVar}
use Rattle.limbo_typed.specs.View.{view_function, view_module, view_var}
use Rattle.core_frames.specs.Sizes.{frame_size, globals_size, laid_size, largest_frame, types_in}
use Rattle.core_sizing.proofs.Large.{function-below, function-there, large_globals, no_large, one_large, too_large}
use Rattle.core_sizing.proofs.frames.frames_fit.Goals as goal

pub returns-then-not-frame_fits : goal.returns-then-not-frame_fits
returns-then-not-frame_fits c =
    let defs = view_defs c.args.extents.now in
    let i = c.loop-f.f-index in
    let f = c.f-item.result in
    let large = too_large (frame_size defs (view_function f)) c.frame_fits.result c.if-not-frame_fits.true c.frame_fits.ensures.1 in
    let there = ap (λ (fs : List TFn). slice_get (map view_function fs) i) (sym c.deref-f-items.ensures.value)
    ∙ function-there c.deref-f-items.result.now i f c.loop-f-test.true c.f-item.is in
    let found = one_large (view_module c.args.m.now) defs i (view_function f) (ap view_defs c.requires) there large in
    record { fits = (λ t. absurd (cc), λ none. absurd (none found)); too_large = λ e. found }

pub loop-f-preserved : goal.loop-f-preserved
loop-f-preserved c k g l e =
    let defs = view_defs c.args.extents.now in
    let i = c.loop-f.f-index in
    let f = c.f-item.result in
    elim (leb_tells (suc k) i) [
      | inl h ↦ c.loop-f.invariant k g (omega arith) e
      | inr h ↦
          let at : k ≡ i = omega arith in
          let there = ap (λ (fs : List TFn). slice_get (map view_function fs) i) (sym c.deref-f-items.ensures.value)
          ∙ function-there c.deref-f-items.result.now i f c.loop-f-test.true c.f-item.is in
          let same : view_function f ≡ g =
          let two : Some (view_function f) ≡ Some g =
          sym there ∙ ap (λ (n : ℕ). slice_get (map view_function c.args.m.now.functions.items) n) (sym at) ∙ e in cc in
          subst (λ (x : Function). frame_size defs x ≤ largest_frame) same (c.frame_fits.ensures.0 c.if-not-frame_fits.false)
    ]

pub returns : goal.returns
returns c =
    let m = view_module c.args.m.now in
    let defs = view_defs c.args.extents.now in
    let size : laid_size defs (types_in (map view_var c.deref.result.now)) ≡ globals_size m =
    ap (λ (vs : List TVar). laid_size defs (types_in (map view_var vs))) c.deref.ensures.value
    ∙ ap (λ (ds : List AdtDef). laid_size (view_defs ds) (types_in m.globals)) c.requires in
    let long = ap (λ (fs : List TFn). length fs) c.deref-f-items.ensures.value in
    record {
      fits = no_large m defs (ap view_defs c.requires)
          (λ k g there. let below = function-below c.args.m.now.functions.items k g there in c.loop-f.invariant k g (omega arith) there)
          c.globals_fit.result
          (λ t. let a = c.globals_fit.ensures.0 t in omega arith, λ h. c.globals_fit.ensures.1 (omega arith));
      too_large = λ e. large_globals m c.globals_fit.result (λ h. c.globals_fit.ensures.1 (omega arith)) e;
    }
